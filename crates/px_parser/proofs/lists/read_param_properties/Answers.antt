use Rattle.std.proofs.Common.{◌≡◌, true, false, sym, ◌∙◌}
use Rattle.std.proofs.lemmas.Result.{err_from_is_err_and}
use Rattle.px_lexer.specs.declared.token.Mark.TheVariants.{Comma}
use Rattle.px_parser.specs.Gives.{words}
use Rattle.px_parser.specs.Reading.{param_properties_at, property_at, property_value, comma_property}
use Rattle.px_parser.proofs.CommaProperty.{nothing_no_comma}
use Rattle.px_parser.proofs.Loops.{word_stays, loop_first, loop_first_fails, loop_end, loop_next, loop_fails, loop_stops, loop_shorter}
use Rattle.px_parser.proofs.lists.read_param_properties.Goals as goal

pub returns-in_err-first : goal.returns-in_err-first
unfolding param_properties_at
returns-in_err-first c =
    let p = err_from_is_err_and c.from_residual.result c.from_residual.ensures.1 in
    rw (p.1, p.2) (loop_first_fails comma_property Comma property_at (words c.args.tokens) c.in_err-first.field-0.0 c.in_err-first.ensures)

pub loop-rest-init : goal.loop-rest-init
unfolding param_properties_at
loop-rest-init c =
    rw (c.in_ok-push.ensures.ok, c.new-props.ensures) (loop_first comma_property Comma property_at (words c.args.tokens) (words c.in_ok-first.rest) c.in_ok-first.first c.in_ok-first.ensures)

pub returns-in_err-after : goal.returns-in_err-after
returns-in_err-after c =
    let p = err_from_is_err_and c.from_residual-in_err-after.result c.from_residual-in_err-after.ensures.1 in
    let test : comma_property (words c.loop-rest.rest) ≡ true = sym c.begins_comma_property.ensures ∙ c.loop-rest-test.true in
    rw (p.1, p.2, ← c.loop-rest.invariant) (loop_stops comma_property Comma property_at (word_stays property_value) nothing_no_comma c.loop-rest.props (words c.loop-rest.rest) c.in_err-after.field-0.0 test c.in_err-after.ensures)

pub returns-in_err-next : goal.returns-in_err-next
returns-in_err-next c =
    let p = err_from_is_err_and c.from_residual-in_err-next.result c.from_residual-in_err-next.ensures.1 in
    let test : comma_property (words c.loop-rest.rest) ≡ true = sym c.begins_comma_property.ensures ∙ c.loop-rest-test.true in
    rw (p.1, p.2, ← c.loop-rest.invariant) (loop_fails comma_property Comma property_at (word_stays property_value) nothing_no_comma c.loop-rest.props (words c.loop-rest.rest) (words c.in_ok-after.after) c.in_err-next.field-0.0 test c.in_ok-after.ensures c.in_err-next.ensures)

pub loop-rest-smaller : goal.loop-rest-smaller
loop-rest-smaller c =
    loop_shorter comma_property Comma property_at (word_stays property_value) nothing_no_comma (words c.loop-rest.rest) (words c.in_ok-after.after) (words c.in_ok-next.after) c.in_ok-next.next c.in_ok-after.ensures c.in_ok-next.ensures

pub loop-rest-preserved : goal.loop-rest-preserved
loop-rest-preserved c =
    let test : comma_property (words c.loop-rest.rest) ≡ true = sym c.begins_comma_property.ensures ∙ c.loop-rest-test.true in
    rw c.in_ok-push-2.ensures.ok (loop_next comma_property Comma property_at (word_stays property_value) nothing_no_comma c.loop-rest.props (words c.loop-rest.rest) (words c.in_ok-after.after) (words c.in_ok-next.after) c.in_ok-next.next test c.in_ok-after.ensures c.in_ok-next.ensures ∙ c.loop-rest.invariant)

pub returns : goal.returns
unfolding param_properties_at
returns c =
    let test : comma_property (words c.loop-rest.rest) ≡ false = sym c.begins_comma_property.ensures ∙ c.loop-rest-test.false in
    sym c.loop-rest.invariant ∙ loop_end comma_property Comma property_at (word_stays property_value) nothing_no_comma c.loop-rest.props (words c.loop-rest.rest) test
