-- What the search for a self-call that lowers no kept position answers.
use Rattle.std.specs.Prelude.{◌≡◌, ℕ, ◌+◌, ◌-◌, ◌^◌, min, List, ◌∷◌, ◌++◌, length, All, Result, MatchResult}
use Rattle.px_terms.specs.declared.term.Term.{Term}
use Rattle.px_terms.specs.Descent.{Standing, Seen, walk, self_calls, IsKept}
use Rattle.px_descent.specs.declared.end.NoDescent.{NoDescent}
use Rattle.px_descent.specs.declared.stuck.Search.{Search}
use Rattle.px_descent.specs.Largest.{LowersKept}
use Rattle.px_descent.specs.Ends.{TellsKept}

-- what is told of the definition's first positions is right
abbrev pub IsRight : Search → Type 0
IsRight s = TellsKept s.program.now s.def s.definition.now s.kept.now

-- the call lowers a kept position of the definition
abbrev pub Lowered : Search → List Standing → Type 0
Lowered s = LowersKept s.program.now s.def s.definition.now

-- each self-call keeps the position of the definition
abbrev pub IsKeptIn : Search → ℕ → Type 0
IsKeptIn s = IsKept s.program.now s.def s.definition.now

-- what is seen of a term in the body of the definition
abbrev pub searched : Search → Term → Seen
searched s = walk s.program.now s.def

-- the self-calls of the definition
abbrev pub own_calls : Search → List (List Standing)
own_calls s = self_calls s.program.now s.def s.definition.now

-- Each of the calls lowers a kept position; where so many stand before them, so many stand up to them.
pub record AllLowered (s : Search) (calls : List (List Standing)) (before after : ℕ) : Type 0 where
  pub each : All (Lowered s) calls
  pub count : after ≡ min (before + length calls) (2 ^ 32 - 1)

-- The end names the first of the calls that lowers no kept position, where so many stand before them.
pub record NamesStuck (s : Search) (calls : List (List Standing)) (before : ℕ) (end : NoDescent) : Type 0 where
  pub front : List (List Standing)
  pub args : List Standing
  pub back : List (List Standing)
  pub parts : calls ≡ front ++ args ∷ back
  pub lowered : All (Lowered s) front
  pub stuck : ¬ Lowered s args
  pub def : end.def ≡ s.def
  pub call : end.call ≡ min (before + length front) (2 ^ 32 - 1)

-- the answer of the search among the calls
abbrev pub Searches : Search → List (List Standing) → ℕ → Result ℕ NoDescent → Type 0
Searches s calls before result = MatchResult result (AllLowered s calls before) (NamesStuck s calls before)
