use Rattle.px_props.proofs.BuiltIns.{at_most}
use Rattle.px_props.proofs.sets.at_most_properties.Goals as goal

pub returns : goal.returns
returns c =
    at_most c.with-refl.result c.with-antisym.result c.with-trans.result c.with.result
    c.with-refl.ensures.has c.with-antisym.ensures.has c.with-trans.ensures.has c.with.ensures.has
