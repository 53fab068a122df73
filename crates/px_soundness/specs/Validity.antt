-- When a sequent is valid at a number.
use Rattle.std.specs.Prelude.{◌≡◌, ℕ, ◌+◌, List, [], ◌∷◌, length, map, sum}
use Rattle.px_terms.specs.declared.types.Ty.{Ty}
use Rattle.px_terms.specs.declared.types.Fun.{Fun}
use Rattle.px_terms.specs.declared.term.Value.{Value}
use Rattle.px_terms.specs.declared.term.Value.TheOpen.{Value-F}
use Rattle.px_terms.specs.declared.term.Value.TheFolds.{fold-Value}
use Rattle.px_terms.specs.declared.clause.Clause.{Clause}
use Rattle.px_terms.specs.declared.program.Program.{Program}
use Rattle.px_terms.specs.declared.sequent.Context.{Context}
use Rattle.px_terms.specs.declared.sequent.Present.{Present}
use Rattle.px_terms.specs.declared.sequent.Sequent.{Sequent}
use Rattle.px_terms.specs.Meaning.{Means}
use Rattle.px_terms.specs.Typing.{AreTypes}
use Rattle.px_terms.specs.Holding.{AreTrueAt, SomeIsTrueAt}
use Rattle.px_terms.specs.Extending.{FunctionsFit, FitValues}
use Rattle.px_terms.specs.TypedSequents.{IsTypedSequent}

-- a word is one node, and a constructor is one above its fields
abbrev pub value_size_step : Value-F ℕ → ℕ
value_size_step (Value-F.Lit w) = 1
value_size_step (Value-F.Con d k fields) = 1 + sum fields

-- the nodes of a value
abbrev pub value_size : Value → ℕ
value_size = fold-Value ℕ value_size_step

-- In Q ground types, functions and values are given to the variables of the context, as their types ask.
pub record IsAssignment (Q : Program) (context : Context) (types : List Ty) (funs : List Fun) (rho : List Value) : Type 0 where
  pub count : length types ≡ context.tparams
  pub ground : AreTypes Q 0 types
  pub functions : FunctionsFit Q types context.funs funs
  pub values : FitValues Q types context.vars rho

-- the sizes of the values of the present terms have this sum
pub data PresentSizes (Q : Program) (types : List Ty) (funs : List Fun) (rho : List Value) : List Present → ℕ → Type 0 where
  none : PresentSizes Q types funs rho [] 0
  more : {p : Present} {ps : List Present} {v : Value} {c n total : ℕ} → Means Q types funs rho p.term v c → PresentSizes Q types funs rho ps n →
      value_size v + n ≡ total → PresentSizes Q types funs rho (p ∷ ps) total

-- At all values that fit the variables, make every fact true and give the frame's present terms sizes with this sum, some
-- alternative is true.
pub record IsValidAt (Q : Program) (types : List Ty) (funs : List Fun) (s : Sequent) (n : ℕ) : Type 0 where
  pub some : (rho : List Value) → FitValues Q types s.context.vars rho → PresentSizes Q types funs rho s.frame.entries n →
      AreTrueAt Q types funs rho s.facts → SomeIsTrueAt Q types funs rho s.alternatives

-- A typed sequent in the derivation of this clause, where the induction speaks of these variables: it has the clause's type and
-- function variables, and its frame has these variables.
pub record IsSequentOf (P : Program) (own : Clause) (on : List ℕ) (s : Sequent) : Type 0 where
  pub typed : IsTypedSequent P s
  pub tparams : s.context.tparams ≡ own.tparams
  pub funs : s.context.funs ≡ own.funs
  pub frame : map (λ (p : Present). p.variable) s.frame.entries ≡ on
