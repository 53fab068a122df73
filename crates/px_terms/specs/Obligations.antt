-- The obligations of a program: its declared properties and lemmas in order, each with its clause.
use Rattle.std.specs.Prelude.{◌≡◌, ℕ, [], ◌∷◌, Some, slice_get}
use Rattle.px_base.specs.declared.prop.Prop.{Prop}
use Rattle.px_base.specs.declared.head.Head.TheVariants.{Def}
use Rattle.px_terms.specs.declared.clause.Clause.{Clause}
use Rattle.px_terms.specs.declared.program.Lemma.{Lemma}
use Rattle.px_terms.specs.declared.program.Declared.{Declared}
use Rattle.px_terms.specs.declared.program.Declared.TheVariants as declared
use Rattle.px_terms.specs.declared.program.Program.{Program}
use Rattle.px_terms.specs.Clauses.{IsClauseOf}
use Rattle.px_terms.specs.Extending.{HoldsInExtensions}

-- what a lemma says: its premises give its conclusion
abbrev pub lemma_clause : Lemma → Clause
lemma_clause l = record { tparams = l.tparams; funs = l.funs; vars = l.vars; premises = l.premises; alternatives = l.conclusion ∷ [] }

-- the clause of a declared obligation
pub data IsDeclaredClause (P : Program) : Declared → Clause → Type 0 where
  of_property : {n : ℕ} {p : Prop} {clause : Clause} → IsClauseOf P [] (Def n) p clause → IsDeclaredClause P (declared.Property n p) clause
  of_lemma : {n : ℕ} {l : Lemma} {clause : Clause} → slice_get P.lemmas n ≡ Some l → clause ≡ lemma_clause l → IsDeclaredClause P (declared.Lemma n) clause

-- obligation n of the program has this clause
pub record IsObligation (P : Program) (n : ℕ) (clause : Clause) : Type 0 where
  pub declared : Declared
  pub number : slice_get P.declared n ≡ Some declared
  pub says : IsDeclaredClause P declared clause

-- every obligation of the program holds in each of its extensions
pub record AllHoldInExtensions (P : Program) : Type 0 where
  pub each : (n : ℕ) (clause : Clause) → IsObligation P n clause → HoldsInExtensions P clause
