-- No datatype of a program's tree is without constructors, and no lemma without equations.
use Rattle.std.specs.Prelude.{◌<◌, length, All}
use Rattle.px_parser.specs.declared.surface.Item.{Item}
use Rattle.px_parser.specs.declared.surface.Item.TheVariants.{Datatype, Definition, Claim, Lemma, Replica}
use Rattle.px_parser.specs.declared.surface.Surface.{Surface}

-- a datatype has at least one constructor, and a lemma at least one equation
abbrev pub IsFilledItem : Item → Type 0
IsFilledItem (Datatype declaration) = 0 < length declaration.cons
IsFilledItem (Definition declaration) = Unit {0}
IsFilledItem (Claim declaration) = Unit {0}
IsFilledItem (Lemma declaration) = 0 < length declaration.equations
IsFilledItem (Replica declaration) = Unit {0}

-- each datatype of a program's tree has at least one constructor, and each lemma at least one equation
abbrev pub IsFilled : Surface → Type 0
IsFilled tree = All IsFilledItem tree.items
