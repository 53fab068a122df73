use Rattle.px_totality.proofs.PropertiesHold.{built_ins_have}
use Rattle.px_totality.proofs.property_laws.built_ins_have.Goals as goal

pub returns : goal.returns
returns c = built_ins_have
