use Rattle.px_scope.specs.Standing.{built_in}
use Rattle.px_scope.specs.Programs.{start, AreNext}
use Rattle.px_scope.proofs.ProgramSteps.{no_items, next_item, item_fails}
use Rattle.px_scope.proofs.programs.resolve_items.Goals as goal

pub loop-item-init : goal.loop-item-init
loop-item-init c = no_items c.args.text.now c.in_ok-globals.globals c.in_ok-program.program c.in_ok-globals.ensures.built_in c.in_ok-program.ensures.is

pub returns-in_err-resolve_item : goal.returns-in_err-resolve_item
returns-in_err-resolve_item c =
    item_fails c.args.text.now c.loop-item.item-index c.loop-item.globals c.loop-item.program c.item-item.result c.loop-item-test.true c.item-item.is c.loop-item.invariant (AreNext built_in start c.args.text.now) c.from_residual-in_err-resolve_item.result c.in_err-resolve_item.field-0.0 c.from_residual-in_err-resolve_item.ensures.1 c.in_err-resolve_item.ensures

pub loop-item-preserved : goal.loop-item-preserved
loop-item-preserved c =
    next_item c.args.text.now c.loop-item.item-index c.loop-item.globals c.loop-item.program c.item-item.result c.loop-item-test.true c.item-item.is c.loop-item.invariant c.resolve_item.new.globals c.resolve_item.new.program c.in_ok-resolve_item.ensures.0 c.in_ok-resolve_item.ensures.1.0 c.in_ok-resolve_item.ensures.1.1
