-- Programs as plain data: what is found in them by number.
use Rattle.std.specs.Prelude.{ℕ, [], ◌∷◌, Option, slice_get, option_and_then}
use Rattle.std.specs.Option.{option_map}
use Rattle.px_terms.specs.declared.types.Ty.{Ty}
use Rattle.px_terms.specs.declared.types.Ty.TheVariants as type
use Rattle.px_terms.specs.declared.term.Term.{Term}
use Rattle.px_terms.specs.declared.term.Term.TheVariants as term
use Rattle.px_terms.specs.declared.program.ConDef.{ConDef}
use Rattle.px_terms.specs.declared.program.DataDef.{DataDef}
use Rattle.px_terms.specs.declared.program.Def.{Def}
use Rattle.px_terms.specs.declared.program.Program.{Program}

-- the type of the truth values: datatype 0
abbrev pub bool_type : Ty
bool_type = type.Con 0 []

-- the constructor `False`, as a term
abbrev pub false_term : Term
false_term = term.Con 0 0 [] []

-- the other constructor of `Bool`, as a term
abbrev pub true_term : Term
true_term = term.Con 0 1 [] []

-- the declaration of `Bool`: two constructors without fields
abbrev pub bool_data : DataDef
bool_data = record { tparams = 0; cons = record { fields = [] } ∷ record { fields = [] } ∷ [] }

-- a constructor of a datatype, by its number
abbrev pub constructor_at : Program → ℕ → ℕ → Option ConDef
constructor_at P d k = option_and_then (λ (datatype : DataDef). slice_get datatype.cons k) (slice_get P.datatypes d)

-- the body of a definition
abbrev pub body_of : Program → ℕ → Option Term
body_of P n = option_map (λ (d : Def). d.body) (slice_get P.defs n)
