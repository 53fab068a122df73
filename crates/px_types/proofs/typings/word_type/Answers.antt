use Rattle.px_types.proofs.TypeOfSteps.{literal_is}
use Rattle.px_types.proofs.typings.word_type.Goals as goal

pub returns : goal.returns
returns c = literal_is c.args._word c.ranges._word.fits
