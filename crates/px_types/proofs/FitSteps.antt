-- A property that is tried by the table of the code.
use Rattle.std.proofs.Common.{Bool, List, Result, subst, IsTrue}
use Rattle.std.specs.Prelude.{◌↔◌}
use Rattle.std.proofs.lemmas.Bool.Decides.{same_from_decides}
use Rattle.px_base.specs.declared.head.Head.{Head}
use Rattle.px_base.specs.declared.raw.RawProp.{RawProp}
use Rattle.px_terms.specs.declared.types.FnType.{FnType}
use Rattle.px_terms.specs.declared.program.Program.{Program}
use Rattle.px_terms.specs.TypedPrograms.{Fits}
use Rattle.px_types.specs.declared.ends.TypeEnd.{TypeEnd}
use Rattle.px_types.specs.declared.ends.TypeKind.TheVariants.{PropertyShape}
use Rattle.px_types.specs.Answers.{Answers}
use Rattle.px_types.specs.Outcomes.{needs}
use Rattle.px_types.specs.NextOutcome.{fits, prop_found}
use Rattle.px_types.proofs.FitsExact.{decides_fits}

pub prop_answers : (P : Program) (funs : List FnType) (h : Head) (raw : RawProp) (fit : Bool) (r : Result (Unit {0}) TypeEnd) →
    (IsTrue fit ↔ Fits P funs h raw.prop) → Answers (needs fit PropertyShape raw.at) r → Answers (prop_found P funs h raw) r
unfolding prop_found
prop_answers P funs h raw fit r tells answers =
    subst (λ (b : Bool). Answers (needs b PropertyShape raw.at) r) (same_from_decides fit (fits P funs h raw.prop) (tells.0, tells.1)
    (decides_fits P funs h raw.prop)) answers
