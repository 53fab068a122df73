-- The names that a program's tree declares have the form of their tokens.
use Rattle.std.specs.Prelude.{All}
use Rattle.px_lexer.specs.Forms.{HasForm}
use Rattle.px_lexer.specs.declared.token.TokenKind.TheVariants as kinds
use Rattle.px_parser.specs.declared.surface.SCon.{SCon}
use Rattle.px_parser.specs.declared.surface.SData.{SData}
use Rattle.px_parser.specs.declared.surface.Item.{Item}
use Rattle.px_parser.specs.declared.surface.Item.TheVariants.{Datatype, Definition, Claim, Lemma, Replica}
use Rattle.px_parser.specs.declared.surface.Surface.{Surface}

-- a constructor's name has the form of a name that begins with a capital letter
abbrev pub IsNamedCon : SCon → Type 0
IsNamedCon con = HasForm con.name.text kinds.Upper

-- the names of a datatype and of its constructors have the form of names that begin with a capital letter
pub record IsNamedData (declaration : SData) : Type 0 where
  pub name : HasForm declaration.name.text kinds.Upper
  pub cons : All IsNamedCon declaration.cons

-- the names that a declaration declares have their forms: a claim declares none
abbrev pub IsNamedItem : Item → Type 0
IsNamedItem (Datatype declaration) = IsNamedData declaration
IsNamedItem (Definition declaration) = HasForm declaration.name.text kinds.Lower
IsNamedItem (Claim declaration) = Unit {0}
IsNamedItem (Lemma declaration) = HasForm declaration.name.text kinds.Lower
IsNamedItem (Replica declaration) = HasForm declaration.name.text kinds.Lower

-- the names that a program's tree declares have their forms
abbrev pub AreNamed : Surface → Type 0
AreNamed tree = All IsNamedItem tree.items
