use Rattle.std.proofs.Common.{subst}
use Rattle.std.proofs.lemmas.Option.{slice_get_within, get_or_from_slice_get}
use Rattle.px_terms.specs.TypedPrograms.{IsTypedData}
use Rattle.px_types.proofs.typings.typed_have_constructors.Goals as goal

pub returns : goal.returns
returns c P typed d D stands = (subst (IsTypedData P) (get_or_from_slice_get P.datatypes d D D stands)
    (typed.datatypes d D (slice_get_within P.datatypes d D stands))).some
