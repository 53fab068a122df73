use Rattle.std.proofs.Common.{◌∙◌}
use Rattle.px_world.proofs.NamedTexts.{bytes_in-named, bytes_in-others, left-push}
use Rattle.px_world.proofs.memory_files.MemoryFiles.add.Goals as goal

pub returns-clause-named : goal.returns-clause-named
returns-clause-named c =
    bytes_in-named _ _ _ _ _ c.in_ok-push.ensures.items (c.new-name.ensures ∙ c.in_ok-from_str.ensures.ok) c.in_ok-bytes.ensures

pub returns-clause-others : goal.returns-clause-others
returns-clause-others c = λ other differs.
    bytes_in-others _ _ _ c.args.name.now other c.in_ok-push.ensures.items (c.new-name.ensures ∙ c.in_ok-from_str.ensures.ok) differs

pub returns-clause-place : goal.returns-clause-place
returns-clause-place c = left-push _ _ _ c.args.self.now.opened c.in_ok-push.ensures.items c.args.self.now.placed
