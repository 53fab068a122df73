use Rattle.std.proofs.Common.{◌≡◌, sym, subst, true, false}
use Rattle.px_terms.specs.declared.row.Row.TheVariants as row
use Rattle.px_replay.specs.Replaying.{Leaves}
use Rattle.px_replay.proofs.RowLemmas.{clash_leaves, clash_due}
use Rattle.px_replay.proofs.rows.clash_children.Goals as goal

pub returns-then-not-clash-clause-only : goal.returns-then-not-clash-clause-only
returns-then-not-clash-clause-only c = λ children opens.
    let told : c.in-Ok.clash ≡ true = c.in-Ok.ensures.2.1 (clash_due c.args.all.now c.args.number c.args.sequent.now c.args.fact children c.in-Ok.ensures.0 c.in-Ok.ensures.1 opens) in
    let not : c.in-Ok.clash ≡ false = c.if-not-clash.true in
    cc

pub returns-clause-leaves : goal.returns-clause-leaves
returns-clause-leaves c = subst (Leaves c.args.all.now c.args.number c.args.sequent.now (row.Clash c.args.fact)) (sym c.new.ensures) (clash_leaves c.args.all.now c.args.number c.args.sequent.now c.args.fact c.in-Ok.ensures.0 c.in-Ok.ensures.1 (c.in-Ok.ensures.2.0 c.if-not-clash.false))
