-- What the definitions say of every surface.
use Rattle.std.specs.Prelude.{◌≡◌, ℕ, ◌<◌, ◌≤◌, ◌||◌, IsTrue, List, Option, Some, None, Contains, AllPairs}
use Rattle.px_base.specs.declared.limits.TheConstants.{PROGRAM_BYTES}
use Rattle.px_base.specs.declared.raw.RawProgram.{RawProgram}
use Rattle.px_base.specs.Fitting.{IsFitting}
use Rattle.px_base.specs.Lawful.{IsLawful}
use Rattle.px_lexer.specs.declared.token.Token.{Token}
use Rattle.px_lexer.specs.Tokens.{AreTokens}
use Rattle.px_parser.specs.declared.surface.Surface.{Surface}
use Rattle.px_parser.specs.Kinds.{is_name, is_property}
use Rattle.px_parser.specs.Faults.{IsProgramOf}
use Rattle.px_parser.specs.Sizes.{surface_size, IsWithinNesting}
use Rattle.px_parser.specs.Filled.{IsFilled}
use Rattle.px_parser.specs.Named.{AreNamed}
use Rattle.px_scope.specs.declared.ends.ScopeKind.{ScopeKind}
use Rattle.px_scope.specs.Uses.{Use, Broken, first_broken}
use Rattle.px_scope.specs.ItemUses.{text_uses}
use Rattle.px_scope.specs.Programs.{IsNumbering, IsFault}

-- a surface has at most one numbered program
abbrev pub OneNumbering : Type 0
OneNumbering = (surface : Surface) (P Q : RawProgram) → IsNumbering surface P → IsNumbering surface Q → P ≡ Q

-- a surface has at most one fault
abbrev pub OneFault : Type 0
OneFault = (surface : Surface) (one other : Broken) → IsFault surface one → IsFault surface other → one ≡ other

-- no surface has both
abbrev pub NeverBoth : Type 0
NeverBoth = (surface : Surface) (P : RawProgram) (fault : Broken) → IsNumbering surface P → IsFault surface fault → ⊥

-- the names of a text's program stand one after the other, each before all later ones
abbrev pub NamesRise : Type 0
NamesRise = (text : List ℕ) (tokens : List Token) (surface : Surface) → AreTokens text tokens → IsProgramOf text tokens surface → AllPairs (λ (u v : Use). u.at < v.at) (text_uses surface.items)

-- the fault of a text's program is at the first byte at which a name breaks a rule
abbrev pub FaultIsFirst : Type 0
FaultIsFirst = (text : List ℕ) (tokens : List Token) (surface : Surface) (fault : Broken) → AreTokens text tokens → IsProgramOf text tokens surface → IsFault surface fault → (u : Use) (kind : ScopeKind) → Contains (text_uses surface.items) u → u.fault ≡ Some kind → fault.at ≤ u.at

-- the place is not behind the fault, where there is one
abbrev pub IsUpTo : ℕ → Option Broken → Type 0
IsUpTo at None = Unit {0}
IsUpTo at (Some fault) = at ≤ fault.at

-- a name at this place is one of these
abbrev pub IsListed : ℕ → List Use → Type 0
IsListed at us = (u : Use) × Contains us u × (u.at ≡ at)

-- each name and each property's word of a text's program is looked at, up to the first fault, or all of them where there is none
abbrev pub EachNameIsListed : Type 0
EachNameIsListed = (text : List ℕ) (tokens : List Token) (surface : Surface) → AreTokens text tokens → IsProgramOf text tokens surface →
    (t : Token) → Contains tokens t → IsTrue (is_name t.kind || is_property t.kind) → IsUpTo t.start (first_broken (text_uses surface.items)) → IsListed t.start (text_uses surface.items)

-- the numbered program of a surface that is within the limits is as the check of types asks for it
abbrev pub NumberingsFit : Type 0
NumberingsFit = (surface : Surface) (P : RawProgram) → surface_size surface ≤ PROGRAM_BYTES → IsWithinNesting surface → IsFilled surface → IsNumbering surface P → IsFitting P

-- the names of the numbered program of a surface have the form of their kind, and no two of a kind are equal, where those of the
-- surface have the form of theirs
abbrev pub NamesAreLawful : Type 0
NamesAreLawful = (surface : Surface) (P : RawProgram) → AreNamed surface → IsNumbering surface P → IsLawful P.names
