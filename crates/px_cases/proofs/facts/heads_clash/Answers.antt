use Rattle.px_cases.proofs.FactLemmas.{differs, of_constructors, of_literals}
use Rattle.px_cases.proofs.facts.heads_clash.Goals as goal

pub returns-then-datatype-other_datatype : goal.returns-then-datatype-other_datatype
returns-then-datatype-other_datatype c = of_constructors c.args.left.now c.args.right.now c.in-Con-Con.datatype c.in-Con-Con.con c.in-Con-Con.other_datatype c.in-Con-Con.other_con _ _ _ _ _ c.in-Con-Con.is-0 c.in-Con-Con.is-1 (λ told same. absurd ((differs c.in-Con-Con.datatype c.in-Con-Con.other_datatype).0 told same), λ other. (differs c.in-Con-Con.datatype c.in-Con-Con.other_datatype).1 c.if-datatype-other_datatype.true)

pub returns-else-datatype-other_datatype : goal.returns-else-datatype-other_datatype
returns-else-datatype-other_datatype c = of_constructors c.args.left.now c.args.right.now c.in-Con-Con.datatype c.in-Con-Con.con c.in-Con-Con.other_datatype c.in-Con-Con.other_con _ _ _ _ _ c.in-Con-Con.is-0 c.in-Con-Con.is-1 (λ told same. (differs c.in-Con-Con.con c.in-Con-Con.other_con).0 told, λ other. (differs c.in-Con-Con.con c.in-Con-Con.other_con).1 (other c.if-datatype-other_datatype.false))

pub returns-in-Lit-Lit : goal.returns-in-Lit-Lit
returns-in-Lit-Lit c = of_literals c.args.left.now c.args.right.now c.in-Lit-Lit.word c.in-Lit-Lit.other c.in-Lit-Lit.is-0 c.in-Lit-Lit.is-1
