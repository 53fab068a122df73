-- The uses of a settled sequent: which clauses may be put to use, and with what put in.
use Rattle.std.specs.Prelude.{◌≡◌, ℕ, List, [], ◌∷◌, ◌++◌, Some, slice_get, All}
use Rattle.std.specs.List.{flat_map}
use Rattle.px_base.specs.declared.head.Head.TheVariants.{Wle, Weq, FnVar}
use Rattle.px_terms.specs.declared.types.Ty.{Ty, out-Ty}
use Rattle.px_terms.specs.declared.types.Ty.TheVariants as type
use Rattle.px_terms.specs.declared.types.Ty.TheOpen.{Ty-F}
use Rattle.px_terms.specs.declared.types.Fun.{Fun}
use Rattle.px_terms.specs.declared.term.Term.{Term, out-Term}
use Rattle.px_terms.specs.declared.term.Term.TheOpen.{Term-F}
use Rattle.px_terms.specs.declared.clause.Equation.{Equation}
use Rattle.px_terms.specs.declared.clause.Clause.{Clause}
use Rattle.px_terms.specs.declared.clause.Sigma.{Sigma}
use Rattle.px_terms.specs.declared.program.Program.{Program}
use Rattle.px_terms.specs.declared.sequent.Sequent.{Sequent}
use Rattle.px_terms.specs.declared.row.Ref.{Ref}
use Rattle.px_terms.specs.declared.row.Ref.TheVariants.{Property, Lemma, Hypothesis}
use Rattle.px_terms.specs.declared.row.Row.TheVariants as row
use Rattle.px_terms.specs.Noting.{IsOpen, equation_instance, equations_instance, own_sigma}
use Rattle.px_terms.specs.Rows.{Opens}
use Rattle.px_prover.specs.Rooms.{whole_side}
use Rattle.px_prover.specs.Norms.{HasNorm}
use Rattle.px_prover.specs.declared.branch.Branch.{Branch}
use Rattle.px_prover.specs.Settling.{used_facts}

-- both sides of each equation
abbrev pub sides_of : List Equation → List Term
sides_of = flat_map (λ (e : Equation). e.left ∷ e.right ∷ [])

-- the sides that uses are made from: of the alternatives, and of the used facts
abbrev pub sides_at : Branch → List Term
sides_at b = sides_of b.sequent.alternatives ++ sides_of (used_facts b)

-- the parts of a term, arms too
abbrev pub parts_of : Term-F Term → List Term
parts_of (Term-F.Free n) = []
parts_of (Term-F.Bound n) = []
parts_of (Term-F.Lit w) = []
parts_of (Term-F.Con d k types fields) = fields
parts_of (Term-F.Call f funs args) = args
parts_of (Term-F.Match on d types arms) = on ∷ arms

-- the term is the whole, or stands in it anywhere
pub data StandsIn (t : Term) : Term → Type 0 where
  itself : StandsIn t t
  inside : {whole next : Term} (n : ℕ) → slice_get (parts_of (out-Term whole)) n ≡ Some next → StandsIn t next → StandsIn t whole

-- The term stands in one of the sides.
pub record StandsThere (sides : List Term) (t : Term) : Type 0 where
  pub side : Term
  pub number : ℕ
  pub is_side : slice_get sides number ≡ Some side
  pub part : StandsIn t side

-- the types that are written in a layer
abbrev pub types_written : Term-F Term → List Ty
types_written (Term-F.Con d k types fields) = types
types_written (Term-F.Call f funs args) = f.types ++ flat_map (λ (g : Fun). g.types) funs
types_written (Term-F.Match on d types arms) = types
types_written layer = []

-- the functions that are written in a layer: what is called, and function arguments
abbrev pub functions_written : Term-F Term → List Fun
functions_written (Term-F.Call f funs args) = f ∷ funs
functions_written layer = []

-- the arguments of a type
abbrev pub arguments_of : Ty-F Ty → List Ty
arguments_of (Ty-F.Con d args) = args
arguments_of layer = []

-- the type is the whole, or stands in it
pub data TypeStandsIn (T : Ty) : Ty → Type 0 where
  itself : TypeStandsIn T T
  inside : {whole next : Ty} (n : ℕ) → slice_get (arguments_of (out-Ty whole)) n ≡ Some next → TypeStandsIn T next → TypeStandsIn T whole

-- a type that may be put in: one that stands in a type written in the sides, or a type variable
pub data MayPutType (sides : List Term) (T : Ty) : Type 0 where
  written : {part : Term} {whole : Ty} (n : ℕ) → StandsThere sides part → slice_get (types_written (out-Term part)) n ≡ Some whole → TypeStandsIn T whole → MayPutType sides T
  variable : {i : ℕ} → T ≡ type.Var i → MayPutType sides T

-- a function that may be put in: one that is written in the sides, a built-in, or a function variable
pub data MayPutFunction (sides : List Term) (f : Fun) : Type 0 where
  written : {part : Term} (n : ℕ) → StandsThere sides part → slice_get (functions_written (out-Term part)) n ≡ Some f → MayPutFunction sides f
  at_most : f ≡ record { head = Wle; types = [] } → MayPutFunction sides f
  equal : f ≡ record { head = Weq; types = [] } → MayPutFunction sides f
  variable : {i : ℕ} → f ≡ record { head = FnVar i; types = [] } → MayPutFunction sides f

-- what a note puts in: as written, but for the hypothesis the obligation's own type and function variables
abbrev pub put_in : Clause → Ref → Sigma → Sigma
put_in own (Property h p) sigma = sigma
put_in own (Lemma i) sigma = sigma
put_in own Hypothesis sigma = own_sigma own sigma.terms

-- Both sides of the equation have one normal form under the used facts.
pub record HaveOneNorm (P : Program) (b : Branch) (e : Equation) : Type 0 where
  pub both : Term
  pub left : HasNorm P (used_facts b) whole_side e.left both
  pub right : HasNorm P (used_facts b) whole_side e.right both

-- In obligation n, whose clause is `own`, this is the conclusion of a use in the branch: the note of a clause with one alternative
-- applies, what is put in stands in the branch's sides, and each premise's sides have one normal form.
pub record IsUse (P : Program) (n : ℕ) (own : Clause) (b : Branch) (conclusion : Equation) : Type 0 where
  pub about : Ref
  pub sigma : Sigma
  pub clause : Clause
  pub alternative : Equation
  pub children : List Sequent
  pub is_open : IsOpen P n own about clause
  pub alone : clause.alternatives ≡ alternative ∷ []
  pub applies : Opens P n b.sequent (row.Note about sigma) children
  pub types : All (MayPutType (sides_at b)) sigma.types
  pub funs : All (MayPutFunction (sides_at b)) sigma.funs
  pub terms : All (StandsThere (sides_at b)) sigma.terms
  pub premises : All (HaveOneNorm P b) (equations_instance (put_in own about sigma) clause.premises)
  pub is : conclusion ≡ equation_instance (put_in own about sigma) alternative
