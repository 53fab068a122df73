use Rattle.px_prover.proofs.HeadLemmas.{differs, of_constructors, of_literals}
use Rattle.px_prover.proofs.heads.heads_clash.Goals as goal

pub returns-then-d-e : goal.returns-then-d-e
returns-then-d-e c = of_constructors c.args.left.now c.args.right.now c.in-Con-Con.d c.in-Con-Con.k c.in-Con-Con.e c.in-Con-Con.l _ _ _ _ _ c.in-Con-Con.is-0 c.in-Con-Con.is-1 (λ told same. absurd ((differs c.in-Con-Con.d c.in-Con-Con.e).0 told same), λ other. (differs c.in-Con-Con.d c.in-Con-Con.e).1 c.if-d-e.true)

pub returns-else-d-e : goal.returns-else-d-e
returns-else-d-e c = of_constructors c.args.left.now c.args.right.now c.in-Con-Con.d c.in-Con-Con.k c.in-Con-Con.e c.in-Con-Con.l _ _ _ _ _ c.in-Con-Con.is-0 c.in-Con-Con.is-1 (λ told same. (differs c.in-Con-Con.k c.in-Con-Con.l).0 told, λ other. (differs c.in-Con-Con.k c.in-Con-Con.l).1 (other c.if-d-e.false))

pub returns-in-Lit-Lit : goal.returns-in-Lit-Lit
returns-in-Lit-Lit c = of_literals c.args.left.now c.args.right.now c.in-Lit-Lit.v c.in-Lit-Lit.w c.in-Lit-Lit.is-0 c.in-Lit-Lit.is-1
