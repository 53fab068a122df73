-- Names and what they name.
use Rattle.std.specs.Prelude.{◌≡◌, ℕ, List, Option, Some, slice_get}
use Rattle.std.specs.List.{position}
use Rattle.std.specs.Str.{bytes_eq}
use Rattle.px_terms.specs.declared.types.Ty.{Ty}
use Rattle.px_terms.specs.declared.program.ConDef.{ConDef}
use Rattle.px_terms.specs.declared.program.Program.{Program}
use Rattle.px_terms.specs.Programs.{constructor_at}
use Rattle.px_schedule.specs.ValueGrammar.{constructors_at}

-- the place of a word among names
abbrev pub place_of : List (List ℕ) → List ℕ → Option ℕ
place_of names word = position (λ name. bytes_eq name word) names

-- a constructor with these fields
abbrev pub with_fields : List Ty → ConDef
with_fields fields = record { fields = fields }

-- The datatype has a constructor of this number and name, with these fields.
pub record IsNamed (P : Program) (d : ℕ) (word : List ℕ) (k : ℕ) (fields : List Ty) : Type 0 where
  pub named : slice_get (constructors_at P.names d) k ≡ Some word
  pub declared : constructor_at P d k ≡ Some (with_fields fields)
