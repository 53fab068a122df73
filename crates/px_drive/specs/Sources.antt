-- Which program a text is, and why it is none: its tokens, their tree, the tree's numbered program, and the typed program of
-- that, in which each definition descends.
use Rattle.std.specs.Prelude.{◌≡◌, ℕ, ◌<◌, ◌≤◌, ◌||◌, IsTrue, List, length, Contains, AllPairs, ⊤, Some, Result, Ok, Err}
use Rattle.px_base.specs.declared.limits.TheConstants.{PROGRAM_BYTES}
use Rattle.px_base.specs.declared.raw.RawProgram.{RawProgram}
use Rattle.px_terms.specs.declared.program.Program.{Program}
use Rattle.px_terms.specs.Descent.{AllDescend}
use Rattle.px_lexer.specs.declared.token.Token.{Token}
use Rattle.px_lexer.specs.Tokens.{AreTokens}
use Rattle.px_lexer.specs.Tokens as lexer
use Rattle.px_parser.specs.declared.surface.Surface.{Surface}
use Rattle.px_parser.specs.Kinds.{is_name, is_property}
use Rattle.px_parser.specs.Faults.{IsProgramOf, IsFaultOf}
use Rattle.px_scope.specs.declared.ends.ScopeKind.{ScopeKind}
use Rattle.px_scope.specs.Uses.{Use}
use Rattle.px_scope.specs.ItemUses.{text_uses}
use Rattle.px_scope.specs.Programs.{IsNumbering}
use Rattle.px_scope.specs.Programs as scope
use Rattle.px_scope.specs.Laws.{IsListed}
use Rattle.px_types.specs.declared.ends.TypeKind.{TypeKind}
use Rattle.px_types.specs.Declarations as typing
use Rattle.px_descent.specs.Ends.{NamesFirst}
use Rattle.px_drive.specs.declared.outcome.End.{End}
use Rattle.px_drive.specs.declared.outcome.End.TheVariants.{Source, NoMemory}
use Rattle.px_drive.specs.declared.outcome.SourceFault.{SourceFault}
use Rattle.px_drive.specs.declared.outcome.SourceFault.TheVariants.{Lex, Parse, Scope, Typing, Descent}

-- The text is this numbered program: it is within the limit and these tokens, they are this tree, and the tree is this program
-- with numbers for names.
pub record IsNumbered (text : List ℕ) (raw : RawProgram) : Type 0 where
  pub tokens : List Token
  pub surface : Surface
  pub fits : length text ≤ PROGRAM_BYTES
  pub are_tokens : AreTokens text tokens
  pub is_tree : IsProgramOf text tokens surface
  pub is_numbering : IsNumbering surface raw

-- The text is this program: it is a numbered program, that is typed and is this one, and each definition descends.
pub record IsSource (text : List ℕ) (P : Program) : Type 0 where
  pub raw : RawProgram
  pub is_numbered : IsNumbered text raw
  pub is_typed : typing.IsProgramOf raw P
  pub descends : AllDescend P

-- the text is tokens that are no program, and their fault is at this place
pub record IsParseFault (text : List ℕ) (at : ℕ) : Type 0 where
  pub tokens : List Token
  pub are_tokens : AreTokens text tokens
  pub is_fault : IsFaultOf text tokens at

-- the text is a tree in which the name at this place is the first that breaks a rule of scope, and this is the first rule
-- that it breaks
pub record IsScopeFault (text : List ℕ) (kind : ScopeKind) (at : ℕ) : Type 0 where
  pub tokens : List Token
  pub surface : Surface
  pub are_tokens : AreTokens text tokens
  pub is_tree : IsProgramOf text tokens surface
  pub is_fault : scope.IsFault surface (record { kind = kind; at = at })

-- the text is a numbered program in which the part at this place is the first that breaks a rule of typing, and this is the
-- rule
pub record IsTypingFault (text : List ℕ) (kind : TypeKind) (at : ℕ) : Type 0 where
  pub raw : RawProgram
  pub is_numbered : IsNumbered text raw
  pub is_fault : typing.IsFault raw (record { kind = kind; at = at })

-- the text is a typed program in which the definition of this number is the first that does not descend, and this is the
-- number of its first self-call that is stuck
pub record IsDescentFault (text : List ℕ) (def call : ℕ) : Type 0 where
  pub raw : RawProgram
  pub program : Program
  pub is_numbered : IsNumbered text raw
  pub is_typed : typing.IsProgramOf raw program
  pub names_first : NamesFirst program (record { def = def; call = call })

-- the text is no program for this cause, by the first layer that fails
abbrev pub IsSourceFault : List ℕ → SourceFault → Type 0
IsSourceFault text (Lex at) = lexer.IsFault text at
IsSourceFault text (Parse at) = IsParseFault text at
IsSourceFault text (Scope kind at) = IsScopeFault text kind at
IsSourceFault text (Typing kind at) = IsTypingFault text kind at
IsSourceFault text (Descent def call) = IsDescentFault text def call

-- the program of the bytes, or why they are none
abbrev pub Sources : List ℕ → Result Program End → Type 0
Sources text (Ok program) = IsSource text program
Sources text (Err (Source fault)) = IsSourceFault text fault
Sources text (Err NoMemory) = ⊤
Sources text (Err _) = ⊥

-- At this place a name of the text breaks this rule, and no name that stands before it breaks any: the names of the text's
-- tree stand one after the other, and each name and each property's word of the text up to this place is among them.
pub record IsFirstBroken (text : List ℕ) (kind : ScopeKind) (at : ℕ) : Type 0 where
  pub tokens : List Token
  pub surface : Surface
  pub are_tokens : AreTokens text tokens
  pub is_tree : IsProgramOf text tokens surface
  pub rise : AllPairs (λ (u v : Use). u.at < v.at) (text_uses surface.items)
  pub breaks : Contains (text_uses surface.items) (record { at = at; fault = Some kind })
  pub first : (u : Use) (other : ScopeKind) → Contains (text_uses surface.items) u → u.fault ≡ Some other → at ≤ u.at
  pub each : (t : Token) → Contains tokens t → IsTrue (is_name t.kind || is_property t.kind) → t.start ≤ at → IsListed t.start (text_uses surface.items)
