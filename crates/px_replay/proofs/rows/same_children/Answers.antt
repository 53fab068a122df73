use Rattle.std.proofs.Common.{◌≡◌, sym, subst, true, false}
use Rattle.px_terms.specs.declared.row.Row.TheVariants as row
use Rattle.px_replay.specs.Replaying.{Leaves}
use Rattle.px_replay.proofs.Openings.{needs}
use Rattle.px_replay.proofs.RowLemmas.{same_leaves}
use Rattle.px_replay.proofs.rows.same_children.Goals as goal

pub returns-then-not-is_same-clause-only : goal.returns-then-not-is_same-clause-only
returns-then-not-is_same-clause-only c = λ children opens.
    let told : false ≡ true = c.if-not-is_same.ensures.1 (needs c.args.all.now c.args.number c.args.sequent.now (row.Same c.args.alternative) children opens) in
    cc

pub returns-clause-leaves : goal.returns-clause-leaves
returns-clause-leaves c = subst (Leaves c.args.all.now c.args.number c.args.sequent.now (row.Same c.args.alternative)) (sym c.new.ensures) (same_leaves c.args.all.now c.args.number c.args.sequent.now c.args.alternative (c.is_same.ensures.0 c.if-not-is_same.false))
