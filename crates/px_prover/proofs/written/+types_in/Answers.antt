use Rattle.std.proofs.Common.{◌<◌, ◌≤◌, ℕ, List, length, subst}
use Rattle.px_terms.specs.declared.types.Ty.{Ty}
use Rattle.px_terms.specs.Types.{ty_size}
use Rattle.px_prover.proofs.TypeLemmas.{argument_at, part_falls, parts_start, parts_next, parts_end}
use Rattle.px_prover.proofs.written.+types_in.Goals as goal

pub loop-number-init : goal.loop-number-init
loop-number-init t c = parts_start c.args.ty.now c.new-types.result c.push.new.self c.in_ok-copy_ty.field-0 c.new-types.ensures c.in_ok-push.ensures.ok c.in_ok-copy_ty.ensures

pub types_in-requires : goal.types_in-requires
types_in-requires t c = (
  subst (λ (most : ℕ). ty_size c.index-args-number.result < most) c.decreases (part_falls c.args.ty.now c.loop-number.number c.index-args-number.result
      (argument_at c.args.ty.now c.arguments-args.result.now c.loop-number.number c.index-args-number.result c.arguments-args.ensures c.loop-number-test.true c.index-args-number.is)),
  tt,
)

pub loop-number-preserved : goal.loop-number-preserved
loop-number-preserved t c = parts_next c.args.ty.now c.loop-number.number c.index-args-number.result (argument_at c.args.ty.now c.arguments-args.result.now c.loop-number.number c.index-args-number.result c.arguments-args.ensures c.loop-number-test.true c.index-args-number.is)
    c.loop-number.types c.in_ok-more.more c.append.new.self c.loop-number.invariant c.in_ok-more.ensures c.in_ok-append.ensures

pub returns : goal.returns
returns t c = parts_end c.args.ty.now c.loop-number.number c.loop-number.types (subst (λ (ts : List Ty). length ts ≤ c.loop-number.number) c.arguments-args.ensures c.loop-number-test.false) c.loop-number.invariant
