use Rattle.std.proofs.Common.{◌≡◌, ◌<◌, ◌≤◌, ◌^◌, true, false, sym, ap, ◌∙◌, arith}
use Rattle.std.specs.Fmt.{decimal}
use Rattle.std.proofs.lemmas.Slice.Eq.{bytes_eq-Decides}
use Rattle.px_drive.proofs.WordFacts.{is_number, no_number}
use Rattle.px_drive.proofs.line.read_number.Goals as goal
use Rattle.px_drive.proofs.line.read_number.Goals.{else-eq-via-then-eq+then-least-number+else-number-most, else-eq-via-then-eq+else-least-number, else-eq-via-else-eq}

pub returns-in_default : goal.returns-in_default
returns-in_default c = no_number c.args.least c.args.most c.args.word.now c.parse.result c.ranges.most.fits c.parse.ensures.value.0 (λ n e is low high. let fails = c.in_default.is in cc)

pub returns-then-number-most : goal.returns-then-number-most
returns-then-number-most c =
    let low : c.args.least ≤ c.in-Ok.number = c.if-least-number.true in
    let high : c.in-Ok.number ≤ c.args.most = c.if-number-most.true in
    let small : c.args.most < 2 ^ 64 = c.ranges.most.fits in
    let same : c.format.result.now ≡ c.args.word.now = (bytes_eq-Decides c.format.result.now c.args.word.now).0 (sym c.eq.ensures ∙ c.if-eq.true) in
    sym (is_number c.args.least c.args.most c.args.word.now c.in-Ok.number (omega (arith, high, small)) (sym same ∙ c.format.ensures.text) low high)

pub returns-else-eq : goal.returns-else-eq
returns-else-eq c = no_number c.args.least c.args.most c.args.word.now c.parse.result c.ranges.most.fits c.parse.ensures.value.0 (λ n e is low high.
    let read = c.in-Ok.is in
    let same : c.in-Ok.number ≡ n = cc in
    elim c.else-eq.branch [
      | else-eq-via-then-eq+then-least-number+else-number-most w ↦ omega (arith, same, high, w.if-number-most.false)
      | else-eq-via-then-eq+else-least-number w ↦ omega (arith, same, low, w.if-least-number.false)
      | else-eq-via-else-eq w ↦
          let text : c.format.result.now ≡ c.args.word.now = c.format.ensures.text ∙ (ap decimal same ∙ sym is) in
          let yes : c.eq.result ≡ true = c.eq.ensures ∙ (bytes_eq-Decides c.format.result.now c.args.word.now).1 text in
          let not : c.eq.result ≡ false = w.if-eq.false in
          cc
    ])
