use Rattle.std.proofs.Common.{ap, ◌∙◌, Some, None, false}
use Rattle.px_scope.specs.declared.ends.ScopeKind.TheVariants.{WrongPlace}
use Rattle.px_scope.specs.declared.locals.Local.TheVariants.{Function}
use Rattle.px_scope.specs.Standing.{local_of, meaning_of}
use Rattle.px_scope.specs.Later.{declares_lower}
use Rattle.px_scope.proofs.LookupSteps.{found_of, value_fails, as_local, as_global, some_value_fault, absent_is}
use Rattle.px_scope.proofs.lookups.find_variable.Goals as goal

pub returns-in-Some-Function : goal.returns-in-Some-Function
returns-in-Some-Function c =
    value_fails c.args.text.now c.args.globals.now c.args.locals.now c.args.name.now.text c.args.name.now.at false WrongPlace c.fault.result c.fault.ensures
    (as_local c.args.text.now c.args.globals.now c.args.locals.now c.args.name.now.text c.args.name.now.at false (Function c.in-Some-Function.field-0-0)
    (found_of (local_of c.args.locals.now) c.as_str.result.now c.args.name.now.text c.find.result (Some (Function c.in-Some-Function.field-0-0)) c.as_str.ensures c.find.ensures (c.in-Some-Function.is ∙ ap Some c.in-Some-Function.field-0-is)))

pub returns-in-Some : goal.returns-in-Some
returns-in-Some c =
    value_fails c.args.text.now c.args.globals.now c.args.locals.now c.args.name.now.text c.args.name.now.at false WrongPlace c.fault-in-Some.result c.fault-in-Some.ensures
    (as_global c.args.text.now c.args.globals.now c.args.locals.now c.args.name.now.text c.args.name.now.at false (Some c.in-Some.field-0)
    (found_of (local_of c.args.locals.now) c.as_str.result.now c.args.name.now.text c.find.result None c.as_str.ensures c.find.ensures c.in-None.is)
    (found_of (meaning_of c.args.globals.now) c.as_str-in-None.result.now c.args.name.now.text c.meaning.result (Some c.in-Some.field-0) c.as_str-in-None.ensures c.meaning.ensures c.in-Some.is)
    ∙ some_value_fault (declares_lower c.args.text.now c.args.name.now.text) c.in-Some.field-0)

pub returns-in-None-meaning : goal.returns-in-None-meaning
returns-in-None-meaning c =
    value_fails c.args.text.now c.args.globals.now c.args.locals.now c.args.name.now.text c.args.name.now.at false c.absent_kind-kind.result c.fault-in-None-meaning.result c.fault-in-None-meaning.ensures
    (as_global c.args.text.now c.args.globals.now c.args.locals.now c.args.name.now.text c.args.name.now.at false None
    (found_of (local_of c.args.locals.now) c.as_str.result.now c.args.name.now.text c.find.result None c.as_str.ensures c.find.ensures c.in-None.is)
    (found_of (meaning_of c.args.globals.now) c.as_str-in-None.result.now c.args.name.now.text c.meaning.result None c.as_str-in-None.ensures c.meaning.ensures c.in-None-meaning.is)
    ∙ ap Some (absent_is c.args.text.now c.args.name.now.text c.as_str-in-None-meaning.result.now c.declares_lower.result c.absent_kind-kind.result c.as_str-in-None-meaning.ensures c.declares_lower.ensures c.absent_kind-kind.ensures))
