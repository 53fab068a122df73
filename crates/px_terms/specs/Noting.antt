-- What may be noted: which clauses are open to an obligation, and which instances of them.
use Rattle.std.specs.Prelude.{◌≡◌, ℕ, ◌<◌, List, [], ◌∷◌, length, map, Some, slice_get}
use Rattle.px_base.specs.declared.head.Head.{Head}
use Rattle.px_base.specs.declared.prop.Prop.{Prop}
use Rattle.px_base.specs.PropSets.{HasProp}
use Rattle.px_terms.specs.declared.types.FnType.{FnType}
use Rattle.px_terms.specs.declared.types.Fun.{Fun}
use Rattle.px_terms.specs.declared.term.Term.{Term}
use Rattle.px_terms.specs.declared.clause.Equation.{Equation}
use Rattle.px_terms.specs.declared.clause.Clause.{Clause}
use Rattle.px_terms.specs.declared.clause.Sigma.{Sigma}
use Rattle.px_terms.specs.declared.program.Lemma as proposition
use Rattle.px_terms.specs.declared.program.Declared.TheVariants as declared
use Rattle.px_terms.specs.declared.program.Program.{Program}
use Rattle.px_terms.specs.declared.sequent.Context.{Context}
use Rattle.px_terms.specs.declared.row.Ref.{Ref}
use Rattle.px_terms.specs.declared.row.Ref.TheVariants as reference
use Rattle.px_terms.specs.Types.{tys_instance, fn_type_instance, own_types, own_functions}
use Rattle.px_terms.specs.Terms.{term_instance}
use Rattle.px_terms.specs.Typing.{behind, anywhere, AreTypes, IsFunction, IsKnown, HaveTypes}
use Rattle.px_terms.specs.Clauses.{IsClauseOf, functions_alone}
use Rattle.px_terms.specs.Obligations.{lemma_clause}

-- The clause is open to obligation n, whose own clause is `own`: a property that follows from what is declared below n, what is
-- built in or what `own` assumes of a function variable; a lemma below n; or the hypothesis, which is `own` itself.
pub data IsOpen (P : Program) (n : ℕ) (own : Clause) : Ref → Clause → Type 0 where
  property : {h : Head} {p : Prop} {clause : Clause} → IsKnown P (behind n) (functions_alone own.tparams own.funs) h p →
      IsClauseOf P own.funs h p clause → IsOpen P n own (reference.Property h p) clause
  lemma_below : {number i : ℕ} {l : proposition.Lemma} {clause : Clause} → slice_get P.declared number ≡ Some (declared.Lemma i) → number < n →
      slice_get P.lemmas i ≡ Some l → clause ≡ lemma_clause l → IsOpen P n own (reference.Lemma i) clause
  hypothesis : {clause : Clause} → clause ≡ own → IsOpen P n own reference.Hypothesis clause

-- The function may stand for a function variable of this type in obligation n: it takes no functions, has the type, and each
-- property that is assumed follows from what is open to n.
pub record IsOpenArgument (P : Program) (n : ℕ) (context : Context) (f : Fun) (wanted : FnType) : Type 0 where
  pub function : IsFunction P context f [] wanted.params wanted.result
  pub properties : (p : Prop) → HasProp wanted.props p → IsKnown P (behind n) context f.head p

-- each function may stand for the function variable at its place
pub data AreOpenArguments (P : Program) (n : ℕ) (context : Context) : List Fun → List FnType → Type 0 where
  none : AreOpenArguments P n context [] []
  more : {f : Fun} {fs : List Fun} {wanted : FnType} {takes : List FnType} → IsOpenArgument P n context f wanted →
      AreOpenArguments P n context fs takes → AreOpenArguments P n context (f ∷ fs) (wanted ∷ takes)

-- What is put in fits the clause's variables in this context: as many types, functions and terms as it has, typed as it asks, and
-- each function with its assumed properties.
pub record FitsClause (P : Program) (n : ℕ) (context : Context) (clause : Clause) (sigma : Sigma) : Type 0 where
  pub count : length sigma.types ≡ clause.tparams
  pub types : AreTypes P context.tparams sigma.types
  pub funs : AreOpenArguments P n context sigma.funs (map (fn_type_instance sigma.types) clause.funs)
  pub terms : HaveTypes P anywhere context [] sigma.terms (tys_instance sigma.types clause.vars)

-- the equation with types, functions and terms put in
abbrev pub equation_instance : Sigma → Equation → Equation
equation_instance sigma e = record { left = term_instance sigma e.left; right = term_instance sigma e.right }

-- each equation with types, functions and terms put in
abbrev pub equations_instance : Sigma → List Equation → List Equation
equations_instance sigma = map (equation_instance sigma)

-- what the hypothesis puts in: the obligation's own type and function variables in order, and these terms
abbrev pub own_sigma : Clause → List Term → Sigma
own_sigma own terms = record { types = own_types own.tparams; funs = own_functions (length own.funs); terms = terms }
