use Rattle.std.proofs.Common.{refl, arith}
use Rattle.px_lexer.proofs.ScanFacts.{number_longest}
use Rattle.px_lexer.proofs.scan.number_at.Goals as goal

-- the number is too large
pub returns-in_err-number-clause-none : goal.returns-in_err-number-clause-none
returns-in_err-number-clause-none c =
    let run = c.run_end-end in
    rw c.from_residual.ensures (run.result, number_longest c.args.text.now c.args.at run.result c.requires.within.0 c.requires.first run.ensures, c.in_err-number.ensures)

-- the number is whole, and has its value
pub returns-clause-some : goal.returns-clause-some
returns-clause-some c =
    let run = c.run_end-end in (
      refl,
      record {
        slice = number_longest c.args.text.now c.args.at run.result c.requires.within.0 c.requires.first run.ensures;
        value = (c.in_ok-number.ensures, omega arith);
      },
    )
