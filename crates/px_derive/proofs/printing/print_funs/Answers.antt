use Rattle.px_derive.specs.Spelling.{fun_text}
use Rattle.px_derive.proofs.Printed.{printed}
use Rattle.px_derive.proofs.printing.print_funs.Goals as goal

pub returns : goal.returns
returns c = printed (fun_text c.args.names.now) c.args.funs.now c.first-item.result c.args.out.now c.print_fun.new.out c.loop-fun.out c.loop-fun.fun-index c.in-len1-up.len_at_least c.first-item.is c.in_ok-print_fun.ensures c.loop-fun.invariant c.loop-fun-test.false
