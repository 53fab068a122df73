use Rattle.std.proofs.Common.{sym, subst}
use Rattle.px_terms.specs.declared.program.Program.{Program}
use Rattle.px_terms.specs.declared.program.ReplicaDef.{ReplicaDef}
use Rattle.px_schedule.specs.declared.schedule.Event.{Event}
use Rattle.px_replicas.specs.Worlds.{Runs, Takes}
use Rattle.px_replicas.proofs.GoingOn.{goes_on}
use Rattle.px_replicas.proofs.world.World.event.Goals as goal

pub returns-in-Update-clause-stands : goal.returns-in-Update-clause-stands
returns-in-Update-clause-stands c =
    let new = c.update.new.self in
    let takes =
    subst (λ (e : Event). (P : Program) (R : ReplicaDef) → Runs c.args.self.now P R → Takes c.args.self.now P R e c.args.budget new c.update.result) (sym c.in-Update.is) c.update.ensures in
    goes_on c.join_of_a_set.ensures c.held_by_cases.ensures c.args.self.now c.founded.ensures c.args.event.now c.args.budget new
    c.update.result takes

pub returns-in-Deliver-clause-stands : goal.returns-in-Deliver-clause-stands
returns-in-Deliver-clause-stands c =
    let new = c.deliver.new.self in
    let takes =
    subst (λ (e : Event). (P : Program) (R : ReplicaDef) → Runs c.args.self.now P R → Takes c.args.self.now P R e c.args.budget new c.deliver.result) (sym c.in-Deliver.is) c.deliver.ensures in
    goes_on c.join_of_a_set.ensures c.held_by_cases.ensures c.args.self.now c.founded.ensures c.args.event.now c.args.budget new
    c.deliver.result takes

pub returns-in-Send-clause-takes : goal.returns-in-Send-clause-takes
returns-in-Send-clause-takes c P R runs =
    subst (λ (e : Event). Takes c.args.self.now P R e c.args.budget c.send.new.self c.send.result) (sym c.in-Send.is) (c.send.ensures P R c.args.budget runs)

pub returns-in-Send-clause-stands : goal.returns-in-Send-clause-stands
returns-in-Send-clause-stands c =
    let new = c.send.new.self in
    let takes = λ (P : Program) (R : ReplicaDef) (runs : Runs c.args.self.now P R).
    subst (λ (e : Event). Takes c.args.self.now P R e c.args.budget new c.send.result) (sym c.in-Send.is) (c.send.ensures P R c.args.budget runs) in
    goes_on c.join_of_a_set.ensures c.held_by_cases.ensures c.args.self.now c.founded.ensures c.args.event.now c.args.budget new
    c.send.result takes

pub returns-in-Show-clause-takes : goal.returns-in-Show-clause-takes
returns-in-Show-clause-takes c P R runs =
    subst (λ (e : Event). Takes c.args.self.now P R e c.args.budget c.show.new.self c.show.result) (sym c.in-Show.is) (c.show.ensures P R c.args.budget runs)

pub returns-in-Show-clause-stands : goal.returns-in-Show-clause-stands
returns-in-Show-clause-stands c =
    let new = c.show.new.self in
    let takes = λ (P : Program) (R : ReplicaDef) (runs : Runs c.args.self.now P R).
    subst (λ (e : Event). Takes c.args.self.now P R e c.args.budget new c.show.result) (sym c.in-Show.is) (c.show.ensures P R c.args.budget runs) in
    goes_on c.join_of_a_set.ensures c.held_by_cases.ensures c.args.self.now c.founded.ensures c.args.event.now c.args.budget new
    c.show.result takes
