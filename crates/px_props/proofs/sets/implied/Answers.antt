use Rattle.px_props.proofs.Closings.{closes}
use Rattle.px_props.proofs.sets.implied.Goals as goal

pub returns : goal.returns
returns c =
    closes c.args.set c.with_if-idem.result c.with_if-refl.result c.with_if-irrefl.result c.with_if-antisym.result c.with_if.result
    c.has.result c.has-2.result c.has_asym-asym.result c.has.ensures c.has-2.ensures c.has_asym-asym.ensures
    (record { each = c.with_if-idem.ensures }) (record { each = c.with_if-refl.ensures }) (record { each = c.with_if-irrefl.ensures })
    (record { each = c.with_if-antisym.ensures }) (record { each = c.with_if.ensures })
