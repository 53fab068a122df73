use Rattle.std.proofs.Common.{◌≡◌, ◌↔◌, IsTrue, sym, subst}
use Rattle.px_terms.specs.declared.clause.Equation.{Equation}
use Rattle.px_prover.proofs.OwnDeeds.{tested}
use Rattle.px_prover.proofs.deeds.is_rewriting.Goals as goal

pub returns-then-is_used : goal.returns-then-is_used
returns-then-is_used c =
    tested c.args.setting.now c.args.t.now c.args.number c.index-setting-number.result c.is_used.result c.rewrites.result c.requires.within c.index-setting-number.is c.is_used.ensures c.if-is_used.true
    (subst (λ (e : Equation). IsTrue c.rewrites.result ↔ ((e.left ≡ c.args.t.now) × ¬ (c.args.t.now ≡ e.right))) (sym c.index-setting-number.is) c.rewrites.ensures)
