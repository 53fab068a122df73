use Rattle.std.proofs.Common.{◌≡◌, ◌∙◌, ◌+◌, ◌<◌, ◌^◌, ℕ, ap, sym, subst, refl, length, arith, true, false}
use Rattle.px_terms.specs.declared.row.Row.TheVariants as row
use Rattle.px_terms.specs.Derivations.{AreFrameVariables}
use Rattle.px_replay.proofs.LineLemmas.{obligation_within, header_breaks, header_sound}
use Rattle.px_replay.proofs.lines.take_header.Goals as goal

pub returns-then-not-are_frame_variables-clause-refuses : goal.returns-then-not-are_frame_variables-clause-refuses
returns-then-not-are_frame_variables-clause-refuses c =
    let header = c.in-Header.is ∙ ap (λ (n : ℕ). row.Header n c.in-Header.on) c.if-obligation-progress.false in
    let below = obligation_within c.args.all.now c.args.progress.now.next c.in-Some.clause.now c.in-Some.ensures.has in
    header_breaks c.args.all.now c.args.progress.now c.args.row.now c.in-Header.on c.in-Some.clause.now c.requires.none header below c.in-Some.ensures.only
    (λ variables. (let e : false ≡ true = c.if-not-are_frame_variables.ensures.1 (subst (AreFrameVariables c.in-Some.clause.now) (sym c.as_slice.ensures) variables) in cc))

pub overflow_add-progress : goal.overflow_add-progress
overflow_add-progress c =
    let below = obligation_within c.args.all.now c.args.progress.now.next c.in-Some.clause.now c.in-Some.ensures.has in
    let few : length c.args.all.now.declared < 2 ^ 32 = c.checked-checked.ensures.checked.numbered.obligations in
    omega (arith, below, few)

pub returns-clause-sound : goal.returns-clause-sound
returns-clause-sound c =
    let below = obligation_within c.args.all.now c.args.progress.now.next c.in-Some.clause.now c.in-Some.ensures.has in
    header_sound c.args.all.now c.args.progress.now (record { next = c.args.progress.now.next + 1; stack = c.push.new.self }) c.first.result c.requires.sound below c.first.ensures.marked refl c.in_ok-push.ensures.ok
