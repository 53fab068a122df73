use Rattle.std.proofs.Common.{◌≡◌, ◌↔◌, IsTrue, All, refl}
use Rattle.std.proofs.lemmas.List.Elements.{All-map}
use Rattle.px_terms.specs.declared.types.Ty.{Ty}
use Rattle.px_terms.specs.Types.{ty_instance}
use Rattle.px_terms.specs.Sequents.{IsSmallType}
use Rattle.px_cases.proofs.Lists.{all_one_more, all_whole, one_fails, all_unmapped}
use Rattle.px_cases.proofs.small.are_small_instances.Goals as goal

pub returns-then-not-is_small_instance : goal.returns-then-not-is_small_instance
returns-then-not-is_small_instance c =
    let exact = one_fails (λ (T : Ty). IsSmallType (ty_instance c.args.types.now T)) c.args.fields.now c.loop-field.field-index c.field-item.result c.is_small_instance.result c.loop-field-test.true c.field-item.is c.is_small_instance.ensures c.if-not-is_small_instance.true in
    (λ told. All-map IsSmallType (ty_instance c.args.types.now) c.args.fields.now (exact.0 told), λ all. exact.1 (all_unmapped IsSmallType (ty_instance c.args.types.now) c.args.fields.now all))

pub loop-field-preserved : goal.loop-field-preserved
loop-field-preserved c = all_one_more (λ (T : Ty). IsSmallType (ty_instance c.args.types.now T)) c.args.fields.now c.loop-field.field-index c.field-item.result c.loop-field-test.true c.field-item.is c.loop-field.invariant (c.is_small_instance.ensures.0 c.if-not-is_small_instance.false)

pub returns : goal.returns
returns c = (λ _. All-map IsSmallType (ty_instance c.args.types.now) c.args.fields.now (all_whole (λ (T : Ty). IsSmallType (ty_instance c.args.types.now T)) c.args.fields.now c.loop-field.field-index c.loop-field-test.false c.loop-field.invariant), λ _. refl)
