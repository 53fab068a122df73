use Rattle.px_totality.proofs.PropertiesHold.{built_ins_lack}
use Rattle.px_totality.proofs.property_laws.built_ins_lack.Goals as goal

pub returns : goal.returns
returns c = built_ins_lack
