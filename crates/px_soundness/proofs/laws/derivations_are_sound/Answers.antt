use Rattle.px_soundness.proofs.ObligationsHold.{derivations_are_sound}
use Rattle.px_soundness.proofs.laws.derivations_are_sound.Goals as goal

pub returns : goal.returns
returns c =
    derivations_are_sound c.first_sequents_are_typed.ensures c.rows_keep_typing.ensures c.rows_are_kept.ensures c.rows_are_sound.ensures c.extensions_keep.ensures
