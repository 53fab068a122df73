use Rattle.std.proofs.Common.{refl}
use Rattle.px_lexer.proofs.ScanFacts.{upper_longest}
use Rattle.px_lexer.proofs.scan.upper_at.Goals as goal

-- the name is whole
pub returns : goal.returns
returns c =
    let run = c.run_end-end in (
      refl,
      record {
        slice = upper_longest c.args.text.now c.args.at run.result c.requires.within.0 c.requires.first run.ensures;
        value = refl;
      },
    )
