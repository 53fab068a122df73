use Rattle.px_drive.proofs.Sources as sources
use Rattle.px_drive.proofs.laws.one_source.Goals as goal

pub returns : goal.returns
returns c = sources.one_source_law (record {
  one_list = c.one_list.ensures;
  one_tree = c.one_tree.ensures;
  one_numbering = c.one_numbering.ensures;
  trees_are_fine = c.trees_are_fine.ensures;
  numberings_fit = c.numberings_fit.ensures;
  one_program = c.one_program.ensures;
})
