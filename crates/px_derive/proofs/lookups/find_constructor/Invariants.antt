use Rattle.std.proofs.Common.{◌≡◌, drop}
use Rattle.px_derive.specs.Reading.{constructor_from}
use Rattle.px_derive.proofs.lookups.find_constructor.Given as goal

abbrev pub invariant-loop-datatype : goal.invariant-loop-datatype
invariant-loop-datatype l = constructor_from l.datatype (drop l.datatype l.lists) l.word ≡ constructor_from 0 l.lists l.word
