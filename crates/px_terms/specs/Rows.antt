-- What a row may hold, and what it leaves of a sequent.
use Rattle.std.specs.Prelude.{◌≡◌, ◌≢◌, ℕ, ◌+◌, ◌≤◌, List, [], ◌∷◌, ◌++◌, length, map, slice_get, slice_set, Some, None, All}
use Rattle.px_base.specs.declared.limits.TheConstants.{ROW_DEPTH}
use Rattle.px_terms.specs.declared.types.Ty.{Ty}
use Rattle.px_terms.specs.declared.types.Ty.TheVariants as type
use Rattle.px_terms.specs.declared.types.Fun.{Fun}
use Rattle.px_terms.specs.declared.term.Term.{Term, out-Term}
use Rattle.px_terms.specs.declared.term.Term.TheVariants as term
use Rattle.px_terms.specs.declared.term.Term.TheOpen.{Term-F}
use Rattle.px_terms.specs.declared.clause.Equation.{Equation}
use Rattle.px_terms.specs.declared.clause.Clause.{Clause}
use Rattle.px_terms.specs.declared.clause.Sigma.{Sigma}
use Rattle.px_terms.specs.declared.program.ConDef.{ConDef}
use Rattle.px_terms.specs.declared.program.DataDef.{DataDef}
use Rattle.px_terms.specs.declared.program.Program.{Program}
use Rattle.px_terms.specs.declared.sequent.Sequent.{Sequent}
use Rattle.px_terms.specs.declared.row.Side.{Side}
use Rattle.px_terms.specs.declared.row.Kind.{Kind}
use Rattle.px_terms.specs.declared.row.Ref.{Ref}
use Rattle.px_terms.specs.declared.row.Ref.TheVariants as reference
use Rattle.px_terms.specs.declared.row.Target.TheVariants as target
use Rattle.px_terms.specs.declared.row.Row.{Row}
use Rattle.px_terms.specs.declared.row.Row.TheVariants as row
use Rattle.px_terms.specs.Types.{tys_instance, numbers_from, ty_depth, tys_depth}
use Rattle.px_terms.specs.Terms.{term_depth}
use Rattle.px_terms.specs.Typing.{anywhere, HasType, live}
use Rattle.px_terms.specs.Clauses.{equals}
use Rattle.px_terms.specs.Obligations.{IsObligation}
use Rattle.px_terms.specs.Sequents.{side_of, IsWithinLimits, with_alternative_side, with_fact_side, frame_put}
use Rattle.px_terms.specs.TreeEdits.{equations_put}
use Rattle.px_terms.specs.Steps.{Step}
use Rattle.px_terms.specs.Guards.{Guard}
use Rattle.px_terms.specs.Noting.{IsOpen, FitsClause, equations_instance, own_sigma}

mutual
  -- a term without a match
  pub data IsMatchFree : Term-F Term → Type 0 where
    free : {n : ℕ} → IsMatchFree (Term-F.Free n)
    bound : {n : ℕ} → IsMatchFree (Term-F.Bound n)
    literal : {w : ℕ} → IsMatchFree (Term-F.Lit w)
    construction : {d k : ℕ} {types : List Ty} {fields : List Term} → AreMatchFree fields → IsMatchFree (Term-F.Con d k types fields)
    call : {f : Fun} {funs : List Fun} {args : List Term} → AreMatchFree args → IsMatchFree (Term-F.Call f funs args)

  -- each term is without a match
  pub data AreMatchFree : List Term → Type 0 where
    none : AreMatchFree []
    more : {t : Term} {ts : List Term} → IsMatchFree (out-Term t) → AreMatchFree ts → AreMatchFree (t ∷ ts)

-- A term may stand in a row: it has no match, and nests at most ROW_DEPTH levels.
pub record MayStand (t : Term) : Type 0 where
  pub match_free : IsMatchFree (out-Term t)
  pub depth : term_depth t ≤ ROW_DEPTH

-- What a row puts in may stand in it: each type and each type of a function nests at most ROW_DEPTH levels, and each term may stand.
pub record SigmaMayStand (sigma : Sigma) : Type 0 where
  pub types : All (λ (T : Ty). ty_depth T ≤ ROW_DEPTH) sigma.types
  pub funs : All (λ (f : Fun). tys_depth f.types ≤ ROW_DEPTH) sigma.funs
  pub terms : All MayStand sigma.terms

-- constructor k of a datatype on fresh variables
abbrev pub fresh_constructor : Sequent → ℕ → List Ty → ℕ → ConDef → Term
fresh_constructor s d args k c = term.Con d k args (map (λ (i : ℕ). term.Free i) (numbers_from s.next (length c.fields)))

-- a sequent where a variable is constructor k on fresh variables: it is put in everywhere, and is no longer live
abbrev pub case_of : Sequent → ℕ → ℕ → List Ty → ℕ → ConDef → Sequent
case_of s v d args k c = let by = fresh_constructor s d args k c in record {
  context = record { tparams = s.context.tparams; funs = s.context.funs; vars = slice_set s.context.vars v None ++ live (tys_instance args c.fields) };
  frame = frame_put v by s.frame;
  facts = equations_put v by s.facts;
  alternatives = equations_put v by s.alternatives;
  next = s.next + length c.fields;
}

-- the cases of a variable, a sequent for each constructor in order
abbrev pub cases_from : Sequent → ℕ → ℕ → List Ty → ℕ → List ConDef → List Sequent
cases_from s v d args k [] = []
cases_from s v d args k (c ∷ cs) = case_of s v d args k c ∷ cases_from s v d args (k + 1) cs

-- The variable is live, and its type is a datatype; the children are its cases, whatever their size.
pub record AreCases (P : Program) (s : Sequent) (v : ℕ) (children : List Sequent) : Type 0 where
  pub datatype : ℕ
  pub args : List Ty
  pub declared : DataDef
  pub live_at : slice_get s.context.vars v ≡ Some (Some (type.Con datatype args))
  pub stands : slice_get P.datatypes datatype ≡ Some declared
  pub are : children ≡ cases_from s v datatype args 0 declared.cons

-- a sequent where a term is constructor k on fresh variables: that is a new last fact
abbrev pub split_of : Sequent → Term → ℕ → List Ty → ℕ → ConDef → Sequent
split_of s t d args k c = record {
  context = record { tparams = s.context.tparams; funs = s.context.funs; vars = s.context.vars ++ live (tys_instance args c.fields) };
  frame = s.frame;
  facts = s.facts ++ equals t (fresh_constructor s d args k c) ∷ [];
  alternatives = s.alternatives;
  next = s.next + length c.fields;
}

-- the cases of a term, a sequent for each constructor in order
abbrev pub splits_from : Sequent → Term → ℕ → List Ty → ℕ → List ConDef → List Sequent
splits_from s t d args k [] = []
splits_from s t d args k (c ∷ cs) = split_of s t d args k c ∷ splits_from s t d args (k + 1) cs

-- The term has no match, and its type is a datatype; the children are its cases, whatever their size.
pub record AreTermCases (P : Program) (s : Sequent) (t : Term) (children : List Sequent) : Type 0 where
  pub datatype : ℕ
  pub args : List Ty
  pub declared : DataDef
  pub match_free : IsMatchFree (out-Term t)
  pub typed : HasType P anywhere s.context t (type.Con datatype args)
  pub stands : slice_get P.datatypes datatype ≡ Some declared
  pub are : children ≡ splits_from s t datatype args 0 declared.cons

-- the terms have different heads: two constructors or two literals that are not the same
pub data HeadsClash : Term → Term → Type 0 where
  constructors : {s t : Term} {d k e l : ℕ} {types us : List Ty} {fields parts : List Term} → out-Term s ≡ Term-F.Con d k types fields →
      out-Term t ≡ Term-F.Con e l us parts → (d ≡ e → k ≢ l) → HeadsClash s t
  literals : {s t : Term} {w x : ℕ} → out-Term s ≡ Term-F.Lit w → out-Term t ≡ Term-F.Lit x → w ≢ x → HeadsClash s t

-- The terms are one constructor, each on its own fields.
pub record HaveOneHead (s t : Term) (fields parts : List Term) : Type 0 where
  pub datatype : ℕ
  pub con : ℕ
  pub types : List Ty
  pub us : List Ty
  pub left : out-Term s ≡ Term-F.Con datatype con types fields
  pub right : out-Term t ≡ Term-F.Con datatype con us parts

-- the terms in pairs, as equations
abbrev pub pairs_equal : List Term → List Term → List Equation
pairs_equal [] ts = []
pairs_equal (s ∷ ss) [] = []
pairs_equal (s ∷ ss) (t ∷ ts) = equals s t ∷ pairs_equal ss ts

-- the sequent with more facts behind its own
abbrev pub with_facts : Sequent → List Equation → Sequent
with_facts s added = record s { facts = s.facts ++ added }

-- The sides of the fact are one constructor; the child has the fields' equations as new last facts, whatever its size.
pub record IsInjected (s : Sequent) (j : ℕ) (child : Sequent) : Type 0 where
  pub e : Equation
  pub fields : List Term
  pub parts : List Term
  pub stands : slice_get s.facts j ≡ Some e
  pub one_head : HaveOneHead e.left e.right fields parts
  pub is : child ≡ with_facts s (pairs_equal fields parts)

-- the sequent with one alternative alone
abbrev pub to_show : Sequent → Equation → Sequent
to_show s e = record s { alternatives = e ∷ [] }

-- what a note leaves: each premise's instance to be shown, and then each alternative's instance as a new last fact
abbrev pub noted : Sequent → Clause → Sigma → List Sequent
noted s clause sigma = map (to_show s) (equations_instance sigma clause.premises) ++ map (λ (e : Equation). with_facts s (e ∷ [])) (equations_instance sigma clause.alternatives)

-- The row applies to the sequent in obligation n, and leaves these children, each within the limits: equal sides close; a step takes
-- the place of its side; a note of what is open to n, or of the hypothesis under the guard, leaves its premises and its
-- alternatives; the cases of a variable or a term; a fact with different heads closes; one with the same head makes the fields equal.
pub data Opens (P : Program) (n : ℕ) : Sequent → Row → List Sequent → Type 0 where
  same : {s : Sequent} {j : ℕ} {e : Equation} → slice_get s.alternatives j ≡ Some e → e.left ≡ e.right → Opens P n s (row.Same j) []
  step : {s child : Sequent} {j : ℕ} {side : Side} {path : List ℕ} {kind : Kind} {e : Equation} {t : Term} → slice_get s.alternatives j ≡ Some e →
      Step P s.facts (side_of e side) path kind t → child ≡ with_alternative_side s j e side t → IsWithinLimits child →
      Opens P n s (row.Step (target.Alternative j side) path kind) (child ∷ [])
  step_in_fact : {s child : Sequent} {j : ℕ} {side : Side} {path : List ℕ} {kind : Kind} {e : Equation} {t : Term} → slice_get s.facts j ≡ Some e →
      Step P s.facts (side_of e side) path kind t → child ≡ with_fact_side s j e side t → IsWithinLimits child →
      Opens P n s (row.Step (target.Fact j side) path kind) (child ∷ [])
  note : {s : Sequent} {about : Ref} {sigma : Sigma} {own clause : Clause} {children : List Sequent} → about ≢ reference.Hypothesis →
      IsObligation P n own → IsOpen P n own about clause → SigmaMayStand sigma → FitsClause P n s.context clause sigma →
      children ≡ noted s clause sigma → All IsWithinLimits children → Opens P n s (row.Note about sigma) children
  hypothesis : {s : Sequent} {sigma : Sigma} {own : Clause} {children : List Sequent} → sigma.types ≡ [] → sigma.funs ≡ [] →
      IsObligation P n own → SigmaMayStand sigma → FitsClause P n s.context own (own_sigma own sigma.terms) → Guard s.frame sigma.terms →
      children ≡ noted s own (own_sigma own sigma.terms) → All IsWithinLimits children → Opens P n s (row.Note reference.Hypothesis sigma) children
  case : {s : Sequent} {v : ℕ} {children : List Sequent} → AreCases P s v children → All IsWithinLimits children → Opens P n s (row.CaseVar v) children
  split : {s : Sequent} {t : Term} {children : List Sequent} → MayStand t → AreTermCases P s t children → All IsWithinLimits children →
      Opens P n s (row.SplitTerm t) children
  clash : {s : Sequent} {j : ℕ} {e : Equation} → slice_get s.facts j ≡ Some e → HeadsClash e.left e.right → Opens P n s (row.Clash j) []
  inject : {s child : Sequent} {j : ℕ} → IsInjected s j child → IsWithinLimits child → Opens P n s (row.Inject j) (child ∷ [])
