use Rattle.std.proofs.Common.{◌≡◌, ℕ, ◌-◌, ◌^◌, min, take}
use Rattle.px_terms.specs.Terms.{terms_size}
use Rattle.px_rewrite.specs.Opening.{opened_parts, opened_arms}
use Rattle.px_rewrite.proofs.arm_sizes.+size_of.Given as goal

abbrev pub invariant-size_of_parts-loop-part : goal.invariant-size_of_parts-loop-part
invariant-size_of_parts-loop-part l = (n : ℕ) → l.opening.inner ≡ min n (2 ^ 64 - 1) → l.total ≡ min (terms_size (opened_parts l.opening.program.now l.opening.fields.now (take l.part-index l.parts) n)) (2 ^ 64 - 1)

abbrev pub invariant-size_of_arms-loop-con : goal.invariant-size_of_arms-loop-con
invariant-size_of_arms-loop-con l = (n : ℕ) → l.opening.inner ≡ min n (2 ^ 64 - 1) → l.total ≡ min (terms_size (opened_arms l.opening.program.now l.opening.fields.now l.datatype (take l.con l.arms) n)) (2 ^ 64 - 1)
