use Rattle.std.proofs.Common.{◌≡◌, true, sym, ◌∙◌, arith}
use Rattle.std.proofs.lemmas.Slice.Eq.{bytes_eq-Decides}
use Rattle.px_drive.proofs.ArgumentFacts.{found_there, found_later, found_nowhere}
use Rattle.px_drive.proofs.arguments.number_of.Goals as goal

pub returns-then-eq : goal.returns-then-eq
returns-then-eq c =
    let same = (bytes_eq-Decides c.as_str.result.now c.args.name.now).0 (sym c.eq.ensures ∙ c.if-eq.true) in
    found_there c.args.names.now c.loop-number.number c.index-names-number.result c.args.name.now c.loop-number-test.true c.index-names-number.is (sym c.as_str.ensures ∙ same)

pub loop-number-preserved : goal.loop-number-preserved
loop-number-preserved c =
    found_later c.args.names.now c.loop-number.number c.index-names-number.result c.args.name.now c.loop-number-test.true c.index-names-number.is
    (λ same. let yes : c.eq.result ≡ true = c.eq.ensures ∙ (bytes_eq-Decides c.as_str.result.now c.args.name.now).1 (c.as_str.ensures ∙ same) in let not = c.if-eq.false in cc) c.loop-number.invariant

pub returns : goal.returns
returns c = found_nowhere c.args.names.now c.loop-number.number c.args.name.now (omega (arith, c.loop-number-test.false)) c.loop-number.invariant
