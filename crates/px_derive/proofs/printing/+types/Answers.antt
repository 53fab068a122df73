use Rattle.px_derive.specs.Spelling.{ty_text}
use Rattle.px_derive.proofs.Printed.{printed}
use Rattle.px_derive.proofs.printing.+types.Goals as goal

pub print_types-returns : goal.print_types-returns
print_types-returns t c = printed (ty_text c.args.names.now) c.args.types.now c.first-item.result c.args.out.now c.print_type.new.out c.loop-ty.out c.loop-ty.ty-index c.in-len1-up.len_at_least c.first-item.is c.in_ok-print_type.ensures c.loop-ty.invariant c.loop-ty-test.false
