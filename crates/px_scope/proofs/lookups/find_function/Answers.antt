use Rattle.std.proofs.Common.{ap, ◌∙◌, Some, None}
use Rattle.px_scope.specs.Standing.{local_of, meaning_of}
use Rattle.px_scope.proofs.LookupSteps.{found_of, function_fails, as_local_function, as_global_function, no_function, absent_is}
use Rattle.px_scope.proofs.lookups.find_function.Goals as goal

pub returns-in-Some : goal.returns-in-Some
returns-in-Some c =
    as_local_function c.args.text.now c.args.globals.now c.args.locals.now c.args.name.now.text c.args.name.now.at c.args.called c.in-Some.local c.find_local_function.result
    (found_of (local_of c.args.locals.now) c.as_str.result.now c.args.name.now.text c.find.result (Some c.in-Some.local) c.as_str.ensures c.find.ensures c.in-Some.is) c.find_local_function.ensures

pub returns-in-Some-meaning : goal.returns-in-Some-meaning
returns-in-Some-meaning c =
    as_global_function c.args.text.now c.args.globals.now c.args.locals.now c.args.name.now.text c.args.name.now.at c.args.called c.in-Some-meaning.meaning c.find_global_function.result
    (found_of (local_of c.args.locals.now) c.as_str.result.now c.args.name.now.text c.find.result None c.as_str.ensures c.find.ensures c.in-None.is)
    (found_of (meaning_of c.args.globals.now) c.as_str-in-None.result.now c.args.name.now.text c.meaning.result (Some c.in-Some-meaning.meaning) c.as_str-in-None.ensures c.meaning.ensures c.in-Some-meaning.is) c.find_global_function.ensures

pub returns-in-None-meaning : goal.returns-in-None-meaning
returns-in-None-meaning c =
    function_fails c.args.text.now c.args.globals.now c.args.locals.now c.args.name.now.text c.args.name.now.at c.args.called c.absent_kind-kind.result c.fault.result c.fault.ensures
    (no_function c.args.text.now c.args.globals.now c.args.locals.now c.args.name.now.text c.args.name.now.at c.args.called
    (found_of (local_of c.args.locals.now) c.as_str.result.now c.args.name.now.text c.find.result None c.as_str.ensures c.find.ensures c.in-None.is)
    (found_of (meaning_of c.args.globals.now) c.as_str-in-None.result.now c.args.name.now.text c.meaning.result None c.as_str-in-None.ensures c.meaning.ensures c.in-None-meaning.is)
    ∙ (ap Some (absent_is c.args.text.now c.args.name.now.text c.as_str-in-None-meaning.result.now c.declares_lower.result c.absent_kind-kind.result c.as_str-in-None-meaning.ensures c.declares_lower.ensures c.absent_kind-kind.ensures)))
