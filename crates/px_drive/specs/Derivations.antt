-- When a text is a derivation of a program, and where and why it is none: its lines, each ended by a line feed, in turn.
-- A partial derivation is trees of the program's first obligations, and then maybe the header and the first rows of one more
-- tree. It needs no completion: a program may have a partial derivation, as that of no lines, and no derivation at all.
use Rattle.std.specs.Prelude.{◌≡◌, ℕ, ◌+◌, ◌<◌, List, [], ◌∷◌, ◌++◌, length, Contains}
use Rattle.std.specs.List.{AllByRecursion, flat_map}
use Rattle.px_terms.specs.declared.program.Program.{Program}
use Rattle.px_replay.specs.declared.ends.Why.{Why}
use Rattle.px_replay.specs.declared.ends.Why.TheVariants as why
use Rattle.px_replay.specs.States.{IsPartial, IsDerivationText}
use Rattle.px_replay.specs.Refusals.{FailsAfter}

-- lines as bytes, each ended by a line feed
abbrev pub text_of : List (List ℕ) → List ℕ
text_of lines = flat_map (λ (line : List ℕ). line ++ 10 ∷ []) lines

-- the bytes have no line feed
abbrev pub IsOneLine : List ℕ → Type 0
IsOneLine line = ¬ Contains line 10

-- The text begins with these lines, each ended by a line feed, and goes on with these bytes.
pub record BeginsWith (text : List ℕ) (lines : List (List ℕ)) (rest : List ℕ) : Type 0 where
  pub is : text ≡ text_of lines ++ rest
  pub each : AllByRecursion IsOneLine lines

-- The text is the lines of a derivation of the program, each ended by a line feed.
pub record IsDerivationOf (P : Program) (text : List ℕ) : Type 0 where
  pub lines : List (List ℕ)
  pub is : BeginsWith text lines []
  pub derivation : IsDerivationText P lines

-- The lines before this one are a partial derivation of the program, and with this one they are none any more: it is wrong for
-- this reason.
pub record IsRefusedLine (P : Program) (text : List ℕ) (number : ℕ) (reason : Why) : Type 0 where
  pub before : List (List ℕ)
  pub line : List ℕ
  pub rest : List ℕ
  pub is : BeginsWith text (before ++ line ∷ []) rest
  pub count : number ≡ length before + 1
  pub fails : FailsAfter P before line reason
  pub none : ¬ IsPartial P (before ++ line ∷ [])

-- The lines are a partial derivation of the program, and behind them stand bytes, but no line feed.
pub record IsUnended (P : Program) (text : List ℕ) (number : ℕ) (reason : Why) : Type 0 where
  pub before : List (List ℕ)
  pub rest : List ℕ
  pub is : BeginsWith text before rest
  pub count : number ≡ length before + 1
  pub form : reason ≡ why.Form
  pub partial : IsPartial P before
  pub some : 0 < length rest
  pub one_line : IsOneLine rest

-- The lines are a partial derivation of the program, but no derivation of it, and the text ends behind them.
pub record IsUnfinished (P : Program) (text : List ℕ) (number : ℕ) (reason : Why) : Type 0 where
  pub lines : List (List ℕ)
  pub is : BeginsWith text lines []
  pub count : number ≡ length lines + 1
  pub ends : reason ≡ why.End
  pub partial : IsPartial P lines
  pub none : ¬ IsDerivationText P lines

-- the text is no derivation of the program: the line of this number, from 1, is the first with which the lines are no partial
-- derivation of it any more, or has no line feed, or is missing, and this is what is wrong with it
pub data IsRejected (P : Program) (text : List ℕ) (number : ℕ) (reason : Why) : Type 0 where
  refused : IsRefusedLine P text number reason → IsRejected P text number reason
  unended : IsUnended P text number reason → IsRejected P text number reason
  unfinished : IsUnfinished P text number reason → IsRejected P text number reason
