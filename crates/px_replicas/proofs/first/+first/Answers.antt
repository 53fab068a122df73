use Rattle.std.proofs.Common.{◌≤◌, ◌≡◌, ◌++◌, List, OnOk, get_or, ap, arith, subst, ◌∙◌}
use Rattle.std.proofs.lemmas.Result.{on_ok_weaker}
use denote.Param.Weighed.{most, at_most}
use Rattle.px_terms.proofs.term.Term.TheLaws.{the_size}
use Rattle.px_terms.specs.declared.term.Term.{Term}
use Rattle.px_machine.specs.Cells.{preorders}
use Rattle.px_replicas.specs.Serving.{built_values}
use Rattle.px_replicas.proofs.FirstSteps.{word_cells, construction_cells, one_built}
use Rattle.px_replicas.proofs.first.+first.Goals as goal

pub push_all-push_cells-requires : goal.push_all-push_cells-requires
push_all-push_cells-requires t c =
    let terms = c.args.terms.now in
    let at = c.loop-term.term-index in
    let term = c.term-item.result in
    let within : the_size (get_or terms at term) ≤ most the_size terms = at_most the_size terms at term c.loop-term-test.true in
    let same : the_size term ≡ the_size (get_or terms at term) = ap the_size c.term-item.is in
    (omega (arith, within, same), one_built terms at term c.requires.built c.loop-term-test.true c.term-item.is)

pub push_cells-returns-in_ok-push-in-Lit : goal.push_cells-returns-in_ok-push-in-Lit
push_cells-returns-in_ok-push-in-Lit t c = word_cells c.args.term.now c.in-Lit.word c.args.cells.now c.push.new.self c.in-Lit.is c.in_ok-push-in-Lit.ensures.ok

pub push_cells-returns-in_ok-push-in-Con : goal.push_cells-returns-in_ok-push-in-Con
push_cells-returns-in_ok-push-in-Con t c =
    on_ok_weaker c.push_all.result
    (construction_cells c.args.term.now c.in-Con.datatype c.in-Con.con c.in_ok-count-in-Con.field-0 c.in-Con.types c.in-Con.fields c.args.cells.now c.push-in-Con.new.self c.push_all.new.cells
    c.in-Con.is (c.in_ok-count-in-Con.ensures ∙ c.len.ensures) c.in_ok-push-in-Con.ensures.ok)
    (subst (λ (ts : List Term). OnOk c.push_all.result (c.push_all.new.cells ≡ c.push-in-Con.new.self ++ preorders (built_values ts))) c.as_slice.ensures c.push_all.ensures)
