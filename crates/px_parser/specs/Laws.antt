-- What the definitions say of every text's tokens.
use Rattle.std.specs.Prelude.{◌≡◌, ◌≤◌, ℕ, List, length}
use Rattle.px_lexer.specs.declared.token.Token.{Token}
use Rattle.px_lexer.specs.Tokens.{AreTokens}
use Rattle.px_parser.specs.Faults.{IsProgramOf, IsFaultOf}
use Rattle.px_parser.specs.Sizes.{surface_size, IsWithinNesting}
use Rattle.px_parser.specs.Filled.{IsFilled}
use Rattle.px_parser.specs.Named.{AreNamed}
use Rattle.px_parser.specs.declared.surface.Surface.{Surface}

-- tokens have at most one tree
abbrev pub OneTree : Type 0
OneTree = (text : List ℕ) (tokens : List Token) (tree other : Surface) → IsProgramOf text tokens tree → IsProgramOf text tokens other → tree ≡ other

-- tokens have at most one fault
abbrev pub OneFault : Type 0
OneFault = (text : List ℕ) (tokens : List Token) (at other : ℕ) → IsFaultOf text tokens at → IsFaultOf text tokens other → at ≡ other

-- no tokens have both
abbrev pub NeverBoth : Type 0
NeverBoth = (text : List ℕ) (tokens : List Token) (tree : Surface) (at : ℕ) → IsProgramOf text tokens tree → IsFaultOf text tokens at → ⊥

-- What else the tree of a text is: it has no more parts than the text has bytes, nests within the limit, each datatype has a
-- constructor and each lemma an equation, and the names that it declares have the form of their tokens.
pub record IsFine (text : List ℕ) (tree : Surface) : Type 0 where
  pub fits : surface_size tree ≤ length text
  pub nests : IsWithinNesting tree
  pub filled : IsFilled tree
  pub named : AreNamed tree

-- each tree of a text's tokens is so
abbrev pub TreesAreFine : Type 0
TreesAreFine = (text : List ℕ) (tokens : List Token) (tree : Surface) → AreTokens text tokens → IsProgramOf text tokens tree → IsFine text tree
