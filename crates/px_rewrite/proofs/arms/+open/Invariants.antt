use Rattle.std.proofs.Common.{◌≡◌, ℕ, ◌-◌, ◌^◌, min, take}
use Rattle.px_rewrite.specs.Opening.{opened_parts, opened_arms}
use Rattle.px_rewrite.proofs.arms.+open.Given as goal

abbrev pub invariant-open_parts-loop-part : goal.invariant-open_parts-loop-part
invariant-open_parts-loop-part l = (n : ℕ) → l.opening.inner ≡ min n (2 ^ 64 - 1) → l.done ≡ opened_parts l.opening.program.now l.opening.fields.now (take l.part-index l.parts) n

abbrev pub invariant-open_arms-loop-con : goal.invariant-open_arms-loop-con
invariant-open_arms-loop-con l = (n : ℕ) → l.opening.inner ≡ min n (2 ^ 64 - 1) → l.done ≡ opened_arms l.opening.program.now l.opening.fields.now l.datatype (take l.con l.arms) n
