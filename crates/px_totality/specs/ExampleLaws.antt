-- What the definitions say of small programs.
use Rattle.std.specs.Prelude.{◌≡◌, ℕ, [], ◌∷◌, Some, slice_get}
use Rattle.px_terms.specs.Head.TheVariants.{Def}
use Rattle.px_terms.specs.Prop.TheVariants.{Comm, Idem}
use Rattle.px_terms.specs.declared.types.Ty.{Ty}
use Rattle.px_terms.specs.declared.term.Term.TheVariants as term
use Rattle.px_terms.specs.declared.term.Value.{Value}
use Rattle.px_terms.specs.declared.clause.Clause.{Clause}
use Rattle.px_terms.specs.declared.program.Def as definition
use Rattle.px_terms.specs.declared.program.Program.{Program}
use Rattle.px_terms.specs.Values.{IsIn}
use Rattle.px_terms.specs.Clauses.{IsClauseOf}
use Rattle.px_terms.specs.Extending.{IsWellFounded, IsExtension, HoldsInProgram, HoldsInExtensions}
use Rattle.px_totality.specs.Examples.{same_program, longer_program, same_clause, empty_type, empty_program, false_clause}

-- Of any f the clause same(f, a) = a holds in the program of `same` alone, since no function there fits. The program with `never`
-- behind it is an extension, in which it fails; so it does not hold.
pub record SameOfAnyFails : Type 0 where
  pub in_itself : HoldsInProgram (same_program []) (same_clause [])
  pub extension : IsExtension longer_program (same_program [])
  pub fails_there : HoldsInProgram longer_program (same_clause []) → ⊥
  pub fails : HoldsInExtensions (same_program []) (same_clause []) → ⊥

-- of an idempotent f the clause same(f, a) = a holds in every extension
abbrev pub SameOfIdempotentHolds : Type 0
SameOfIdempotentHolds = HoldsInExtensions (same_program (Idem ∷ [])) (same_clause (Idem ∷ []))

-- The program of a datatype without values is typed and descends; for all of its values False = True, and without them not.
pub record EmptyHoldsOfNothing : Type 0 where
  pub founded : IsWellFounded empty_program
  pub of_nothing : HoldsInExtensions empty_program (false_clause (empty_type ∷ []))
  pub of_all : HoldsInExtensions empty_program (false_clause []) → ⊥

-- of a definition that takes two values of a type that has two, and gives the first, the clause of commutativity does not hold
abbrev pub FirstIsNotCommutative : Type 0
FirstIsNotCommutative =
    (P : Program) → IsWellFounded P → (n : ℕ) (D : definition.Def) (T : Ty) → slice_get P.defs n ≡ Some D → D.tparams ≡ 0 → D.funs ≡ [] →
    D.params ≡ T ∷ T ∷ [] → D.body ≡ term.Free 0 → (v w : Value) → IsIn P T v → IsIn P T w → (v ≡ w → ⊥) →
    (clause : Clause) → IsClauseOf P [] (Def n) Comm clause → HoldsInExtensions P clause → ⊥
