use Rattle.std.proofs.Common.{refl}
use Rattle.px_props.specs.Signatures.{subject_of}
use Rattle.px_props.proofs.functions.gives_asked.Goals as goal

pub returns-in-Any : goal.returns-in-Any
returns-in-Any c = let asked = c.in-Any.ensures (subject_of c.args.function.now) in (λ _. asked.1 tt, λ _. refl)

pub returns-in-Last : goal.returns-in-Last
returns-in-Last c = let asked = c.in-Last.ensures (subject_of c.args.function.now) in (λ holds. asked.1 (c.same_ty.ensures.0 holds), λ has. c.same_ty.ensures.1 (asked.0 has))

pub returns-in-Truth : goal.returns-in-Truth
returns-in-Truth c = let asked = c.in-Truth.ensures (subject_of c.args.function.now) in (λ holds. asked.1 (c.is_bool.ensures.0 holds), λ has. c.is_bool.ensures.1 (asked.0 has))
