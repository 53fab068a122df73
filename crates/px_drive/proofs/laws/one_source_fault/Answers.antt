use Rattle.px_drive.proofs.Sources as sources
use Rattle.px_drive.proofs.laws.one_source_fault.Goals as goal

pub returns : goal.returns
returns c = sources.one_source_fault_law (record {
  one_list = c.one_list.ensures;
  one_tree = c.one_tree.ensures;
  one_numbering = c.one_numbering.ensures;
  trees_are_fine = c.trees_are_fine.ensures;
  numberings_fit = c.numberings_fit.ensures;
  one_program = c.one_program.ensures;
}) (record {
  lexed = c.never_both.ensures;
  parsed = c.never_both-2.ensures;
  resolved = c.never_both-3.ensures;
  typed = c.never_typed_and_broken.ensures;
  descends = c.stuck_excludes_descent.ensures;
}) (record {
  lexed = c.one_fault.ensures;
  parsed = c.one_fault-2.ensures;
  resolved = c.one_fault-3.ensures;
  typed = c.one_first_fault.ensures;
  descends = c.one_first_stuck.ensures;
})
