use Rattle.std.proofs.Common.{◌≡◌, ◌<◌, length, refl, sym, ◌∙◌, subst, rules}
use Rattle.px_schedule.specs.Runs.{left}
use Rattle.px_schedule.specs.ValueGrammar.{IsText}
use Rattle.px_schedule.proofs.WholeTexts.{taken, under_way, refused, IsAtEnd, at_end, IsReadWhole, all_read, one_read, shown, more_left}
use Rattle.px_schedule.proofs.values.value_of_text.Goals as goal

pub returns-in_err-rest-clause-only : goal.returns-in_err-rest-clause-only
returns-in_err-rest-clause-only c = λ v is.
    refused c.from_residual-in_err-rest.result _ c.args.program.now c.args.ty.now c.args.text.now (left c.wanted.rest) c.wanted.reading c.pop.new.self c.in-Some.wanted c.in-Some.ensures c.wanted.invariant v is c.in_err-rest.field-0.0 c.in_err-rest.ensures.stuck c.from_residual-in_err-rest.ensures

pub wanted-preserved-in_ok-rest : goal.wanted-preserved-in_ok-rest
wanted-preserved-in_ok-rest c =
    under_way c.args.program.now c.args.ty.now c.args.text.now c.wanted.reading _ c.read_next.new.reading c.in-Some.wanted (left c.wanted.rest) (left c.in_ok-rest.rest) (taken c.wanted.reading.wanted c.pop.new.self c.in-Some.wanted c.in-Some.ensures) refl c.wanted.invariant c.in_ok-rest.ensures.step

pub wanted-preserved-in_ok-rest-2 : goal.wanted-preserved-in_ok-rest-2
wanted-preserved-in_ok-rest-2 c =
    under_way c.args.program.now c.args.ty.now c.args.text.now c.wanted.reading _ c.read_next.new.reading c.in-Some.wanted (left c.wanted.rest) (left c.in_ok-rest.rest) (taken c.wanted.reading.wanted c.pop.new.self c.in-Some.wanted c.in-Some.ensures) refl c.wanted.invariant c.in_ok-rest.ensures.step

pub wanted-preserved : goal.wanted-preserved
wanted-preserved c =
    under_way c.args.program.now c.args.ty.now c.args.text.now c.wanted.reading _ c.read_next.new.reading c.in-Some.wanted (left c.wanted.rest) (left c.in_ok-rest.rest) (taken c.wanted.reading.wanted c.pop.new.self c.in-Some.wanted c.in-Some.ensures) refl c.wanted.invariant c.in_ok-rest.ensures.step

pub from_cells-requires : goal.from_cells-requires
from_cells-requires c =
    let none : length (left c.split_run.result.1) ≡ 0 = search rules in
    let a : IsAtEnd c.args.program.now c.args.ty.now c.args.text.now c.wanted.reading (left c.wanted.rest) = at_end c.args.program.now c.args.ty.now c.args.text.now c.wanted.reading (left c.wanted.rest) c.in_default.ensures.0 c.wanted.invariant in
    let r : IsReadWhole c.args.program.now c.args.ty.now c.args.text.now c.wanted.reading.cells = all_read c.args.program.now c.args.ty.now c.args.text.now c.wanted.reading (left c.wanted.rest) c.split_run.result.0.now (left c.split_run.result.1) a c.split_run.ensures none in
    r.value

pub returns-then-is_empty-clause-is : goal.returns-then-is_empty-clause-is
returns-then-is_empty-clause-is c =
    let none : length (left c.split_run.result.1) ≡ 0 = search rules in
    let a : IsAtEnd c.args.program.now c.args.ty.now c.args.text.now c.wanted.reading (left c.wanted.rest) = at_end c.args.program.now c.args.ty.now c.args.text.now c.wanted.reading (left c.wanted.rest) c.in_default.ensures.0 c.wanted.invariant in
    let r : IsReadWhole c.args.program.now c.args.ty.now c.args.text.now c.wanted.reading.cells = all_read c.args.program.now c.args.ty.now c.args.text.now c.wanted.reading (left c.wanted.rest) c.split_run.result.0.now (left c.split_run.result.1) a c.split_run.ensures none in
    subst (IsText c.args.program.now c.args.ty.now c.args.text.now) (sym c.from_cells.ensures) r.is_text

pub returns-then-is_empty-clause-only : goal.returns-then-is_empty-clause-only
returns-then-is_empty-clause-only c = λ v is.
    let a : IsAtEnd c.args.program.now c.args.ty.now c.args.text.now c.wanted.reading (left c.wanted.rest) = at_end c.args.program.now c.args.ty.now c.args.text.now c.wanted.reading (left c.wanted.rest) c.in_default.ensures.0 c.wanted.invariant in
    c.from_cells.ensures ∙ shown v c.wanted.reading.cells (one_read c.args.program.now c.args.ty.now c.args.text.now (left c.wanted.rest) c.wanted.reading.cells a.turns v is)

pub returns-clause-only : goal.returns-clause-only
returns-clause-only c = λ v is.
    let some : 0 < length (left c.split_run.result.1) = search rules in
    let a : IsAtEnd c.args.program.now c.args.ty.now c.args.text.now c.wanted.reading (left c.wanted.rest) = at_end c.args.program.now c.args.ty.now c.args.text.now c.wanted.reading (left c.wanted.rest) c.in_default.ensures.0 c.wanted.invariant in
    absurd (more_left c.args.program.now c.args.ty.now c.args.text.now (left c.wanted.rest) c.split_run.result.0.now (left c.split_run.result.1) c.wanted.reading.cells a.turns c.split_run.ensures some v is)
