use Rattle.std.proofs.Common.{inl, inr}
use Rattle.px_drive.proofs.Chains.{refused_on}
use Rattle.px_drive.proofs.stages.read_program.Goals as goal

pub returns-in_err-text-clause-reads : goal.returns-in_err-text-clause-reads
returns-in_err-text-clause-reads g c = refused_on g.F.Files c.args.files.now c.read_text.new.files c.args.file.now _ _ c.from_residual.ensures.1 (inl c.in_err-text.ensures.reads)

pub returns-in_err-checked-clause-reads : goal.returns-in_err-checked-clause-reads
returns-in_err-checked-clause-reads g c = refused_on g.F.Files c.args.files.now c.read_text.new.files c.args.file.now _ _ c.from_residual-in_err-checked.ensures.1 (inr (c.in_ok-text.text, c.in_ok-text.ensures.reads, c.in_err-checked.ensures))

pub returns-clause-reads : goal.returns-clause-reads
returns-clause-reads g c = (c.in_ok-text.text, c.in_ok-text.ensures.reads, c.in_ok-checked.ensures)
