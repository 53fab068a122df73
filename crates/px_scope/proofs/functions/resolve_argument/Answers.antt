use Rattle.px_parser.specs.declared.surface.SExprKind.{out-SExprKind}
use Rattle.px_scope.specs.Numbers.{IsArgument}
use Rattle.px_scope.proofs.TermSteps.{argument_fine, argument_name_fails, argument_types_fail, argument_upper, argument_number, argument_match}
use Rattle.px_scope.proofs.functions.resolve_argument.Goals as goal

pub returns-in_err-head-in-Lower : goal.returns-in_err-head-in-Lower
returns-in_err-head-in-Lower c = argument_name_fails c.args.text.now c.args.globals.now c.args.locals.now c.args.arg.now c.in-Lower.name c.in-Lower.types (IsArgument c.args.globals.now c.args.locals.now (out-SExprKind c.args.arg.now.kind)) c.in-Lower.args c.in-Lower.is c.from_residual.result c.in_err-head-in-Lower.field-0.0 c.from_residual.ensures.1 (rw (← c.is_some.ensures) c.in_err-head-in-Lower.ensures)

pub returns-in_err-types-in-Lower : goal.returns-in_err-types-in-Lower
returns-in_err-types-in-Lower c = argument_types_fail c.args.text.now c.args.globals.now c.args.locals.now c.args.arg.now c.in-Lower.name c.in-Lower.types (IsArgument c.args.globals.now c.args.locals.now (out-SExprKind c.args.arg.now.kind)) c.in-Lower.args c.in-Lower.is c.from_residual-in_err-types-in-Lower.result c.in_err-types-in-Lower.field-0.0 c.from_residual-in_err-types-in-Lower.ensures.1 (rw (← c.is_some.ensures) c.in_ok-head-in-Lower.ensures.0) (rw (← c.as_slice.ensures) c.in_err-types-in-Lower.ensures)

pub returns-in_ok-types-in-Lower : goal.returns-in_ok-types-in-Lower
returns-in_ok-types-in-Lower c = argument_fine c.args.text.now c.args.globals.now c.args.locals.now c.args.arg.now c.in-Lower.name c.in-Lower.types c.in-Lower.args c.in_ok-head-in-Lower.head c.in_ok-types-in-Lower.types c.in-Lower.is (rw (← c.is_some.ensures) c.in_ok-head-in-Lower.ensures.0) c.in_ok-head-in-Lower.ensures.1 (rw (← c.as_slice.ensures) c.in_ok-types-in-Lower.ensures)

pub returns-in-Upper : goal.returns-in-Upper
returns-in-Upper c = argument_upper c.args.text.now c.args.globals.now c.args.locals.now c.args.arg.now c.in-Upper.name c.in-Upper.types c.in-Upper.fields c.constructor_as_function.result c.in-Upper.is c.constructor_as_function.ensures

pub returns-in-Number : goal.returns-in-Number
returns-in-Number c = argument_number c.args.text.now c.args.globals.now c.args.locals.now c.args.arg.now c.in-Number.field-0 c.fault.result c.in-Number.is c.fault.ensures

pub returns-in-Match : goal.returns-in-Match
returns-in-Match c = argument_match c.args.text.now c.args.globals.now c.args.locals.now c.args.arg.now c.in-Match.on c.in-Match.arms c.fault-in-Match.result c.in-Match.is c.fault-in-Match.ensures
