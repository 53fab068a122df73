use Rattle.std.proofs.Common.{◌<◌, ◌≤◌, refl, rules, arith}
use Rattle.px_base.specs.declared.limits.TheConstants.{REPLICAS}
use Rattle.px_schedule.proofs.ScheduleSteps.{opening_formless, opening_unknown, opening_few, opening_kept}
use Rattle.px_schedule.proofs.openings.open_replicas.Goals as goal

pub returns-in_default-clause-wrong : goal.returns-in_default-clause-wrong
returns-in_default-clause-wrong c = opening_formless c.args.program.now c.args.line.now c.in_default.ensures

pub returns-in_default-find_replica-clause-wrong : goal.returns-in_default-find_replica-clause-wrong
returns-in_default-find_replica-clause-wrong c = opening_unknown c.args.program.now c.args.line.now c.in-Some.opening c.in-Some.ensures c.in_default-find_replica.ensures

pub returns-then-opening-lt1-clause-wrong : goal.returns-then-opening-lt1-clause-wrong
returns-then-opening-lt1-clause-wrong c =
    let less : c.in-Some.opening.count < 1 = search rules in
    opening_few c.args.program.now c.args.line.now c.in-Some.opening c.in-Some.ensures _ c.in-Some-find_replica.ensures.is_declaration (λ both. let some = both.0 in omega (arith, some, less))

pub returns-then-opening-from-clause-wrong : goal.returns-then-opening-from-clause-wrong
returns-then-opening-from-clause-wrong c =
    let large : REPLICAS < c.in-Some.opening.count = search rules in
    opening_few c.args.program.now c.args.line.now c.in-Some.opening c.in-Some.ensures _ c.in-Some-find_replica.ensures.is_declaration (λ both. let few = both.1 in omega (arith, few, large))

pub returns-clause-opened : goal.returns-clause-opened
returns-clause-opened c =
    let some : 1 ≤ c.in-Some.opening.count = search rules in
    let few : c.in-Some.opening.count ≤ REPLICAS = search rules in
    opening_kept c.args.program.now c.args.line.now c.in-Some.opening _ c.in-Some-find_replica.found c.requires.one_line c.in-Some.ensures c.in-Some-find_replica.ensures some few refl refl refl
