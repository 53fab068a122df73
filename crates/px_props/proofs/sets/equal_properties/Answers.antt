use Rattle.px_props.proofs.BuiltIns.{equal}
use Rattle.px_props.proofs.sets.equal_properties.Goals as goal

pub returns : goal.returns
returns c =
    equal c.with-refl.result c.with-sym.result c.with-antisym.result c.with.result
    c.with-refl.ensures.has c.with-sym.ensures.has c.with-antisym.ensures.has c.with.ensures.has
