use Rattle.std.proofs.Common.{◌≡◌, Result, Ok, Err, refl}
use Rattle.px_base.specs.declared.raw.RawTerm.{RawTerm}
use Rattle.px_terms.specs.declared.types.Ty.{Ty}
use Rattle.std.proofs.Common.{List}
use Rattle.px_types.specs.declared.typed.Typed.{Typed}
use Rattle.px_types.specs.Faults.{Broken, Env}
use Rattle.px_types.specs.Outcome.{term_found}
use Rattle.px_types.specs.Laws.{IsDeclaring, IsJudged, typed, broken}
use Rattle.px_types.proofs.Exact.{is_of, breaks_of}
use Rattle.px_types.proofs.AllExact.{exact_term}
use Rattle.px_types.proofs.laws.always_one.Goals as goal

judged : (E : Env) (raw : RawTerm) (bound : List Ty) → IsDeclaring E → (o : Result Typed Broken) → term_found E raw bound ≡ o → IsJudged E raw bound
judged E raw bound declaring (Ok found) e = typed found.term found.ty (is_of (exact_term E declaring raw bound) found e)
judged E raw bound declaring (Err fault) e = broken fault (breaks_of (exact_term E declaring raw bound) fault e)

pub returns : goal.returns
returns c E raw bound declaring = judged E raw bound declaring (term_found E raw bound) refl
