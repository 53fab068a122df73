use Rattle.px_drive.proofs.Sources as sources
use Rattle.px_drive.proofs.laws.accepted_is_true.Goals as goal

pub returns : goal.returns
returns c = sources.accepted_is_true_law c.source_extends_itself.ensures c.derivations_are_sound.ensures
