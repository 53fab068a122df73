-- A value in a type.
use Rattle.std.specs.Prelude.{◌≡◌, ℕ, ◌<◌, ◌^◌, List, [], ◌∷◌, Some}
use Rattle.px_terms.specs.declared.types.Ty.{Ty, out-Ty}
use Rattle.px_terms.specs.declared.types.Ty.TheOpen.{Ty-F}
use Rattle.px_terms.specs.declared.term.Value.{Value, out-Value}
use Rattle.px_terms.specs.declared.term.Value.TheOpen.{Value-F}
use Rattle.px_terms.specs.declared.program.ConDef.{ConDef}
use Rattle.px_terms.specs.declared.program.Program.{Program}
use Rattle.px_terms.specs.Types.{tys_instance}
use Rattle.px_terms.specs.Programs.{constructor_at}

mutual
  -- a number below 2^64 is a word; a constructor of a datatype, on values of its fields' types with the type's
  -- arguments put in, is in that datatype
  pub data IsInLayer (P : Program) : Ty-F Ty → Value-F Value → Type 0 where
    word : {w : ℕ} → w < 2 ^ 64 → IsInLayer P Ty-F.Word (Value-F.Lit w)
    con : {d k : ℕ} {args : List Ty} {fields : List Value} {c : ConDef} → constructor_at P d k ≡ Some c → AreIn P (tys_instance args c.fields) fields → IsInLayer P (Ty-F.Con d args) (Value-F.Con d k fields)

  -- each value is in the type at its place
  pub data AreIn (P : Program) : List Ty → List Value → Type 0 where
    none : AreIn P [] []
    more : {T : Ty} {types : List Ty} {v : Value} {values : List Value} → IsInLayer P (out-Ty T) (out-Value v) → AreIn P types values → AreIn P (T ∷ types) (v ∷ values)

-- the value is in the type
abbrev pub IsIn : Program → Ty → Value → Type 0
IsIn P T v = IsInLayer P (out-Ty T) (out-Value v)
