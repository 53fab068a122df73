use Rattle.std.proofs.Common.{◌≡◌, [], List, ap, ◌∙◌}
use Rattle.px_terms.specs.declared.types.Ty.{Ty}
use Rattle.px_types.specs.declared.bounds.Around.{Around}
use Rattle.px_types.specs.declared.bounds.Around.TheVariants.{Outside, outs-Outside}
use Rattle.px_types.specs.declared.bounds.Around.TheFolds.{map-Around, fold_out-Around}
use Rattle.px_types.specs.Bounds.{bound_step, bound_of}
use Rattle.px_types.proofs.TypeOfAnswers.{answers_ok, answers_only, answers_ill}
use Rattle.px_types.proofs.typings.type_of.Goals as goal

outside : bound_of Outside ≡ []
outside = fold_out-Around (List Ty) bound_step Outside ∙ ap (λ y. bound_step (map-Around Around (List Ty) bound_of y)) outs-Outside

pub returns-clause-ok : goal.returns-clause-ok
returns-clause-ok c = answers_ok c.args.program.now c.args.context.now c.args.term.now c.requires c.type_in.result (rw outside at c.type_in.ensures)

pub returns-clause-only : goal.returns-clause-only
returns-clause-only c = answers_only c.args.program.now c.args.context.now c.args.term.now c.requires c.type_in.result (rw outside at c.type_in.ensures)

pub returns-clause-ill : goal.returns-clause-ill
returns-clause-ill c = answers_ill c.args.program.now c.args.context.now c.args.term.now c.requires c.type_in.result (rw outside at c.type_in.ensures)
