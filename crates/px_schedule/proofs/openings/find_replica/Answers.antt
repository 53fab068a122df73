use Rattle.std.proofs.Common.{◌≡◌, ◌<◌, ◌≤◌, ◌^◌, ℕ, List, sym, ap, ◌∙◌, refl, rules}
use Rattle.std.specs.Prelude.{slice_get}
use Rattle.px_terms.specs.declared.program.ReplicaDef.{ReplicaDef}
use Rattle.px_schedule.specs.Names.{place_of}
use Rattle.px_schedule.proofs.ScheduleSteps.{unnamed_replica, undeclared_replica, large_replica, found_replica}
use Rattle.px_schedule.proofs.openings.find_replica.Goals as goal

pub returns-in_default : goal.returns-in_default
returns-in_default c = unnamed_replica c.args.program.now c.args.name.now (ap (λ (ns : List (List ℕ)). place_of ns c.args.name.now) (sym c.as_slice.ensures) ∙ sym c.place.ensures ∙ c.in_default.is)

pub returns-in_default-at : goal.returns-in_default-at
returns-in_default-at c =
    let place_is = ap (λ (ns : List (List ℕ)). place_of ns c.args.name.now) (sym c.as_slice.ensures) ∙ sym c.place.ensures ∙ c.in-Some.is in
    let none_at = ap (λ (xs : List ReplicaDef). slice_get xs c.in-Some.number) (sym c.as_slice-2.ensures) ∙ sym c.in_default-at.ensures in
    undeclared_replica c.args.program.now c.requires.lawful c.args.name.now c.in-Some.number place_is none_at

pub returns-in_default-try_from : goal.returns-in_default-try_from
returns-in_default-try_from c =
    let place_is = ap (λ (ns : List (List ℕ)). place_of ns c.args.name.now) (sym c.as_slice.ensures) ∙ sym c.place.ensures ∙ c.in-Some.is in
    let large : 2 ^ 32 ≤ c.in-Some.number = search rules in
    large_replica c.args.program.now c.requires.lawful c.args.name.now c.in-Some.number place_is large

pub returns : goal.returns
returns c =
    let place_is = ap (λ (ns : List (List ℕ)). place_of ns c.args.name.now) (sym c.as_slice.ensures) ∙ sym c.place.ensures ∙ c.in-Some.is in
    let stands = ap (λ (xs : List ReplicaDef). slice_get xs c.in-Some.number) (sym c.as_slice-2.ensures) ∙ sym c.in-Some-at.ensures in
    let same : c.in-Ok.number ≡ c.in-Some.number = search rules in
    let small : c.in-Some.number < 2 ^ 32 = search rules in
    found_replica c.args.program.now c.args.name.now c.in-Some.number c.in-Some-at.replica.now _ place_is stands small same refl
