-- Surfaces whose lists can be numbered by words of 32 bits, as each that is parsed.
use Rattle.std.specs.Prelude.{◌<◌, ◌^◌, List, length, All}
use Rattle.px_base.specs.declared.raw.RawProgram.{RawProgram}
use Rattle.px_parser.specs.declared.surface.Item.{Item}
use Rattle.px_parser.specs.declared.surface.Item.TheVariants as items
use Rattle.px_scope.specs.declared.globals.Globals.{Globals}

-- the type parameters and constructors of the declaration can be numbered, and a lemma has a conclusion
abbrev pub IsSmallItem : Item → Type 0
IsSmallItem (items.Datatype d) = (length d.tparams < 2 ^ 32) × (length d.cons < 2 ^ 32)
IsSmallItem (items.Definition d) = length d.tparams < 2 ^ 32
IsSmallItem (items.Claim c) = Unit {0}
IsSmallItem (items.Lemma l) = (length l.tparams < 2 ^ 32) × (0 < length l.equations)
IsSmallItem (items.Replica r) = Unit {0}

-- the declarations can be numbered, with room for `Bool`, and each is small
pub record IsSmall (text : List Item) : Type 0 where
  pub few : length text < 2 ^ 31
  pub each : All IsSmallItem text

-- One more declaration of each kind can be numbered.
pub record HasRoom (G : Globals) (P : RawProgram) : Type 0 where
  pub types : length G.datatypes < 2 ^ 32
  pub definitions : length G.claimed < 2 ^ 32
  pub datatypes : length P.datatypes < 2 ^ 32
  pub defs : length P.defs < 2 ^ 32
  pub claims : length P.claims < 2 ^ 32
  pub lemmas : length P.lemmas < 2 ^ 32
  pub replicas : length P.replicas < 2 ^ 32
