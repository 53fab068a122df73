use Rattle.std.proofs.Common.{◌∙◌}
use Rattle.px_scope.proofs.ProgramSteps.{lemma_next}
use Rattle.px_scope.proofs.programs.add_lemma.Goals as goal

pub returns : goal.returns
returns c =
    lemma_next c.args.text.now c.args.globals.now c.resolve_lemma.new.globals c.args.program.now c.args.lemma.now c.in_ok-raw.raw c.len-number.result c.push.new.self c.push-2.new.self c.push-3.new.self c.in_ok-name.name c.len-number.ensures c.in_ok-push.ensures.ok c.in_ok-push-2.ensures.ok (c.in_ok-name.ensures.is ∙ c.as_str.ensures) c.in_ok-push-3.ensures.ok c.in_ok-raw.ensures
