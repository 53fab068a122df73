use Rattle.std.proofs.Common.{ap, ◌∙◌, Some, None, true}
use Rattle.px_scope.specs.declared.ends.ScopeKind.TheVariants.{WrongPlace}
use Rattle.px_scope.specs.declared.globals.Meaning.TheVariants.{Lemma, Replica}
use Rattle.px_scope.specs.Standing.{local_of, meaning_of}
use Rattle.px_scope.proofs.LookupSteps.{found_of, value_fails, as_global, absent_is}
use Rattle.px_scope.proofs.lookups.find_called.Goals as goal

pub returns-in-Some-Lemma : goal.returns-in-Some-Lemma
returns-in-Some-Lemma c =
    value_fails c.args.text.now c.args.globals.now c.args.locals.now c.args.name.now.text c.args.name.now.at true WrongPlace c.fault-in-Some-Lemma.result c.fault-in-Some-Lemma.ensures
    (as_global c.args.text.now c.args.globals.now c.args.locals.now c.args.name.now.text c.args.name.now.at true (Some Lemma)
    (found_of (local_of c.args.locals.now) c.as_str.result.now c.args.name.now.text c.find.result None c.as_str.ensures c.find.ensures c.in-None.is)
    (found_of (meaning_of c.args.globals.now) c.as_str-in-None.result.now c.args.name.now.text c.meaning.result (Some Lemma) c.as_str-in-None.ensures c.meaning.ensures (c.in-Some-Lemma.is ∙ ap Some c.in-Some-Lemma.field-0-is)))

pub returns-in-Some-Replica : goal.returns-in-Some-Replica
returns-in-Some-Replica c =
    value_fails c.args.text.now c.args.globals.now c.args.locals.now c.args.name.now.text c.args.name.now.at true WrongPlace c.fault-in-Some-Replica.result c.fault-in-Some-Replica.ensures
    (as_global c.args.text.now c.args.globals.now c.args.locals.now c.args.name.now.text c.args.name.now.at true (Some Replica)
    (found_of (local_of c.args.locals.now) c.as_str.result.now c.args.name.now.text c.find.result None c.as_str.ensures c.find.ensures c.in-None.is)
    (found_of (meaning_of c.args.globals.now) c.as_str-in-None.result.now c.args.name.now.text c.meaning.result (Some Replica) c.as_str-in-None.ensures c.meaning.ensures (c.in-Some-Replica.is ∙ ap Some c.in-Some-Replica.field-0-is)))

pub returns-in-None-meaning : goal.returns-in-None-meaning
returns-in-None-meaning c =
    value_fails c.args.text.now c.args.globals.now c.args.locals.now c.args.name.now.text c.args.name.now.at true c.absent_kind-kind.result c.fault-in-None-meaning.result c.fault-in-None-meaning.ensures
    (as_global c.args.text.now c.args.globals.now c.args.locals.now c.args.name.now.text c.args.name.now.at true None
    (found_of (local_of c.args.locals.now) c.as_str.result.now c.args.name.now.text c.find.result None c.as_str.ensures c.find.ensures c.in-None.is)
    (found_of (meaning_of c.args.globals.now) c.as_str-in-None.result.now c.args.name.now.text c.meaning.result None c.as_str-in-None.ensures c.meaning.ensures c.in-None-meaning.is)
    ∙ (ap Some (absent_is c.args.text.now c.args.name.now.text c.as_str-in-None-meaning.result.now c.declares_lower.result c.absent_kind-kind.result c.as_str-in-None-meaning.ensures c.declares_lower.ensures c.absent_kind-kind.ensures)))
