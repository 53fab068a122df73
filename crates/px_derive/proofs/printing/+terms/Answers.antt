use Rattle.std.proofs.Common.{map}
use Rattle.std.proofs.lemmas.Result.{on_ok_weaker}
use Rattle.px_derive.specs.Spelling.{fun_text, term_text}
use Rattle.px_derive.proofs.Printed.{printed, not_empty, both_printed}
use Rattle.px_derive.proofs.printing.+terms.Goals as goal

pub print_terms-returns : goal.print_terms-returns
print_terms-returns t c = printed (term_text c.args.names.now) c.args.terms.now c.first-item.result c.args.out.now c.print_term.new.out c.loop-term.out c.loop-term.term-index c.in-len1-up.len_at_least c.first-item.is c.in_ok-print_term.ensures c.loop-term.invariant c.loop-term-test.false

pub print_arguments-returns : goal.print_arguments-returns
print_arguments-returns t c =
    on_ok_weaker c.print_terms-2.result
    (both_printed c.args.out.now c.print_funs.new.out c.push.new.self c.print_terms-2.new.out (map (fun_text c.args.names.now) c.args.funs.now) (map (term_text c.args.names.now) c.args.args.now)
    (not_empty (fun_text c.args.names.now) c.args.funs.now c.is_empty.result c.is_empty.ensures c.if-is_empty.false) (not_empty (term_text c.args.names.now) c.args.args.now c.is_empty-2.result c.is_empty-2.ensures c.if-is_empty-2.false)
    c.in_ok-print_funs.ensures c.in_ok-push.ensures.ok)
    c.print_terms-2.ensures
