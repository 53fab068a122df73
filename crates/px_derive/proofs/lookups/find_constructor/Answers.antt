use Rattle.std.proofs.Common.{sym, ap, ◌∙◌, arith}
use Rattle.px_derive.specs.Reading.{place_of}
use Rattle.px_derive.proofs.NameFacts.{found_here, found_nowhere}
use Rattle.px_derive.proofs.lookups.find_constructor.Goals as goal

pub returns-in-Some : goal.returns-in-Some
returns-in-Some c =
    let place_is = ap (λ names. place_of names c.args.word.now) (sym c.as_slice.ensures) ∙ sym c.place.ensures ∙ c.in-Some.is in
    c.constructor_at.ensures ∙ sym (found_here c.args.lists.now c.args.word.now c.loop-datatype.datatype c.in-Some.con c.index-lists-datatype.result c.loop-datatype-test.true c.index-lists-datatype.is c.loop-datatype.invariant place_is)

pub returns : goal.returns
returns c = sym (found_nowhere c.args.lists.now c.args.word.now c.loop-datatype.datatype (omega arith) c.loop-datatype.invariant)
