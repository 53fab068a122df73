use Rattle.std.proofs.Common.{◌∙◌}
use Rattle.px_terms.specs.Types.{ty_instance}
use Rattle.px_types.specs.Outcome.{same}
use Rattle.px_types.proofs.ReplicaSteps.{too_few, too_many, two_items, turned, not_first, not_second, as_third}
use Rattle.px_types.proofs.replicas.joins_states.Goals as goal

pub returns-in_default : goal.returns-in_default
returns-in_default c =
    too_few (ty_instance c.args.types.now) c.args.state.now _ c.args.def.now.params c.as_slice.result.now c.as_slice.ensures c.in_default.len_below

pub returns-in_default-2 : goal.returns-in_default-2
returns-in_default-2 c =
    too_many (ty_instance c.args.types.now) c.args.state.now _ c.args.def.now.params c.as_slice.result.now c.as_slice.ensures c.in_default.len_at_least

pub returns-then-not-is_instance : goal.returns-then-not-is_instance
returns-then-not-is_instance c =
    let f = ty_instance c.args.types.now in
    let T = c.args.state.now in
    let a = c.first-item.result in
    let b = c.second-item.result in
    let two = two_items c.args.def.now.params c.as_slice.result.now a b c.as_slice.ensures c.in-len2.len_at_least c.in-len2.len_below c.first-item.is
    c.second-item.is in
    not_first f T _ c.args.def.now.params a b two c.is_instance.result (turned T (f a) c.is_instance.result c.is_instance.ensures) c.if-not-is_instance.true

pub returns-then-not-is_instance-2 : goal.returns-then-not-is_instance-2
returns-then-not-is_instance-2 c =
    let f = ty_instance c.args.types.now in
    let T = c.args.state.now in
    let a = c.first-item.result in
    let b = c.second-item.result in
    let two = two_items c.args.def.now.params c.as_slice.result.now a b c.as_slice.ensures c.in-len2.len_at_least c.in-len2.len_below c.first-item.is
    c.second-item.is in
    not_second f T _ c.args.def.now.params a b two c.is_instance.result c.is_instance-2.result (turned T (f a) c.is_instance.result c.is_instance.ensures)
    c.if-not-is_instance.false (turned T (f b) c.is_instance-2.result c.is_instance-2.ensures) c.if-not-is_instance-2.true

pub returns : goal.returns
returns c =
    let f = ty_instance c.args.types.now in
    let T = c.args.state.now in
    let a = c.first-item.result in
    let b = c.second-item.result in
    let two = two_items c.args.def.now.params c.as_slice.result.now a b c.as_slice.ensures c.in-len2.len_at_least c.in-len2.len_below c.first-item.is
    c.second-item.is in
    let gives = same (f c.args.def.now.result) T in
    turned T (f c.args.def.now.result) c.is_instance-3.result c.is_instance-3.ensures
    ∙ as_third f T gives c.args.def.now.params a b two c.is_instance.result c.is_instance-2.result (turned T (f a) c.is_instance.result c.is_instance.ensures)
    c.if-not-is_instance.false (turned T (f b) c.is_instance-2.result c.is_instance-2.ensures) c.if-not-is_instance-2.false
