use Rattle.std.proofs.Common.{refl}
use Rattle.px_lexer.proofs.ScanFacts.{word_longest, word_value_of}
use Rattle.px_lexer.proofs.scan.word_at.Goals as goal

-- the word is whole, and its kind is the table's
pub returns : goal.returns
returns c =
    let kind = c.word_kind-kind in let run = c.run_end-end in (
      refl,
      record {
        slice = word_longest c.args.text.now c.args.at run.result c.requires.within.0 c.requires.first run.ensures kind.result kind.ensures;
        value = word_value_of _ kind.result kind.ensures;
      },
    )
