-- How deep terms nest in a meaning.
use Rattle.std.specs.Prelude.{ℕ, ◌+◌, ◌≤◌, max, List}
use Rattle.px_terms.specs.declared.types.Ty.{Ty}
use Rattle.px_terms.specs.declared.types.Fun.{Fun}
use Rattle.px_terms.specs.declared.term.Term.{Term}
use Rattle.px_terms.specs.declared.term.Term.TheOpen.{Term-F}
use Rattle.px_terms.specs.declared.term.Value.{Value}
use Rattle.px_terms.specs.declared.program.Program.{Program}
use Rattle.px_terms.specs.Meaning.{MeansOf, MeanAll, Gives, free, bound, lit, con, choose, call, none, more, defined, at_most, equal}

abbrev mutual
  -- how deep the terms nest whose values a meaning rests on: a variable and a word stand alone, a constructor stands above its fields, a match above its
  -- scrutinee and the arm that it takes, a call above its arguments and the body of what it calls
  pub nesting : {P : Program} {types : List Ty} {funs : List Fun} {rho inner : List Value} {y : Term-F Term} {v : Value} {c : ℕ} →
      MeansOf P types funs rho inner y v c → ℕ
  nesting (free is) = 1
  nesting (bound is) = 1
  nesting (lit is) = 1
  nesting (con fields is) = 1 + nesting_of_all fields
  nesting (choose on chooses arm total) = 1 + max (nesting on) (nesting arm)
  nesting (call args fun_means funs_mean body total) = 1 + max (nesting_of_all args) (nesting_of_body body)

  -- the deepest of several terms
  pub nesting_of_all : {P : Program} {types : List Ty} {funs : List Fun} {rho inner : List Value} {ts : List Term} {vs : List Value} {c : ℕ} →
      MeanAll P types funs rho inner ts vs c → ℕ
  nesting_of_all none = 0
  nesting_of_all (more first others total) = max (nesting first) (nesting_of_all others)

  -- the body of a definition; a built-in has none
  pub nesting_of_body : {P : Program} {f : Fun} {funs : List Fun} {vs : List Value} {v : Value} {c : ℕ} → Gives P f funs vs v c → ℕ
  nesting_of_body (defined found body total) = nesting body
  nesting_of_body (at_most left right is) = 0
  nesting_of_body (equal left right is) = 0

-- The layer of a term has this value with this many calls, and its terms nest at most n deep.
pub record MeansWithin (n : ℕ) (P : Program) (types : List Ty) (funs : List Fun) (rho inner : List Value) (y : Term-F Term) (v : Value) (c : ℕ) : Type 0 where
  pub means : MeansOf P types funs rho inner y v c
  pub nests : nesting means ≤ n

-- The terms have these values with this many calls, and they nest at most n deep.
pub record MeanAllWithin (n : ℕ) (P : Program) (types : List Ty) (funs : List Fun) (rho inner : List Value) (ts : List Term) (vs : List Value)
    (c : ℕ) : Type 0 where
  pub mean : MeanAll P types funs rho inner ts vs c
  pub nest : nesting_of_all mean ≤ n

-- The function gives this value with this many calls, and the terms of its body nest at most n deep.
pub record GivesWithin (n : ℕ) (P : Program) (f : Fun) (funs : List Fun) (vs : List Value) (v : Value) (c : ℕ) : Type 0 where
  pub gives : Gives P f funs vs v c
  pub body_nests : nesting_of_body gives ≤ n
