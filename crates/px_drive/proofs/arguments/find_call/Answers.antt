use Rattle.std.proofs.Common.{◌≡◌, ◌∙◌, ap, sym, refl, subst, length, true}
use Rattle.px_drive.specs.Arguments.{IsPlain, AreValuesOf, not_plain, other_count}
use Rattle.px_drive.specs.declared.outcome.ArgumentKind.TheVariants.{NoSuchName, NotPlain, Count}
use Rattle.px_drive.proofs.ArgumentFacts.{refused_for, no_name, no_definition, is_defined, values_refused, passed_refusal}
use Rattle.px_drive.proofs.arguments.find_call.Goals as goal

pub returns-in_default : goal.returns-in_default
returns-in_default c =
    let names = c.as_slice.ensures ∙ ap (λ P. P.names.defs) c.program-program.ensures.same in
    refused_for c.args.checked.now c.args.name.now c.args.words.now NoSuchName c.refused.result c.refused.ensures
    (no_name c.args.checked.now c.args.name.now c.args.words.now c.as_slice.result.now c.as_str.result.now names c.as_str.ensures c.in_default.ensures)

pub returns-in_default-at : goal.returns-in_default-at
returns-in_default-at c =
    let names = c.as_slice.ensures ∙ ap (λ P. P.names.defs) c.program-program.ensures.same in
    let defs = c.as_slice-2.ensures ∙ ap (λ P. P.defs) c.program-program.ensures.same in
    refused_for c.args.checked.now c.args.name.now c.args.words.now NoSuchName c.refused-in_default-at.result c.refused-in_default-at.ensures
    (no_definition c.args.checked.now c.args.name.now c.args.words.now c.program-program.ensures.checked c.as_slice.result.now c.as_str.result.now c.as_slice-2.result.now c.in-Some.number names c.as_str.ensures defs c.in-Some.ensures c.in_default-at.ensures)

pub returns-then-not-is_plain : goal.returns-then-not-is_plain
returns-then-not-is_plain c =
    let names = c.as_slice.ensures ∙ ap (λ P. P.names.defs) c.program-program.ensures.same in
    let defs = c.as_slice-2.ensures ∙ ap (λ P. P.defs) c.program-program.ensures.same in
    let defined = is_defined c.args.checked.now c.args.name.now c.args.words.now c.as_slice.result.now c.as_str.result.now c.as_slice-2.result.now c.in-Some.number c.in-Some-at.definition.now names c.as_str.ensures defs c.in-Some.ensures c.in-Some-at.ensures in
    refused_for c.args.checked.now c.args.name.now c.args.words.now NotPlain c.refused-then-not-is_plain.result c.refused-then-not-is_plain.ensures
    (not_plain c.in-Some.number c.in-Some-at.definition.now defined (λ plain. let yes : c.is_plain.result ≡ true = c.is_plain.ensures.1 plain in let not = c.if-not-is_plain.true in cc) refl)

pub returns-then-types-words : goal.returns-then-types-words
returns-then-types-words c =
    let names = c.as_slice.ensures ∙ ap (λ P. P.names.defs) c.program-program.ensures.same in
    let defs = c.as_slice-2.ensures ∙ ap (λ P. P.defs) c.program-program.ensures.same in
    let defined = is_defined c.args.checked.now c.args.name.now c.args.words.now c.as_slice.result.now c.as_str.result.now c.as_slice-2.result.now c.in-Some.number c.in-Some-at.definition.now names c.as_str.ensures defs c.in-Some.ensures c.in-Some-at.ensures in
    let plain : IsPlain c.in-Some-at.definition.now = c.is_plain.ensures.0 c.if-not-is_plain.false in
    refused_for c.args.checked.now c.args.name.now c.args.words.now Count c.refused-then-types-words.result c.refused-then-types-words.ensures
    (other_count c.in-Some.number c.in-Some-at.definition.now defined plain (λ same. c.if-types-words.true (ap length c.as_slice-types.ensures ∙ sym same)) refl)

pub returns-in_err-values : goal.returns-in_err-values
returns-in_err-values c =
    let names = c.as_slice.ensures ∙ ap (λ P. P.names.defs) c.program-program.ensures.same in
    let defs = c.as_slice-2.ensures ∙ ap (λ P. P.defs) c.program-program.ensures.same in
    let defined = is_defined c.args.checked.now c.args.name.now c.args.words.now c.as_slice.result.now c.as_str.result.now c.as_slice-2.result.now c.in-Some.number c.in-Some-at.definition.now names c.as_str.ensures defs c.in-Some.ensures c.in-Some-at.ensures in
    let plain : IsPlain c.in-Some-at.definition.now = c.is_plain.ensures.0 c.if-not-is_plain.false in
    passed_refusal c.args.checked.now c.args.name.now c.args.words.now c.from_residual.result c.in_err-values.field-0.0 c.from_residual.ensures.1
    (values_refused c.args.checked.now c.args.name.now c.args.words.now c.in-Some.number c.in-Some-at.definition.now c.as_slice-types.result.now defined plain c.as_slice-types.ensures (sym c.if-types-words.false) c.in_err-values.field-0.0 c.in_err-values.ensures)

pub returns : goal.returns
returns c =
    let names = c.as_slice.ensures ∙ ap (λ P. P.names.defs) c.program-program.ensures.same in
    let defs = c.as_slice-2.ensures ∙ ap (λ P. P.defs) c.program-program.ensures.same in
    record {
      D = c.in-Some-at.definition.now;
      defined = is_defined c.args.checked.now c.args.name.now c.args.words.now c.as_slice.result.now c.as_str.result.now c.as_slice-2.result.now c.in-Some.number c.in-Some-at.definition.now names c.as_str.ensures defs c.in-Some.ensures c.in-Some-at.ensures;
      plain = c.is_plain.ensures.0 c.if-not-is_plain.false;
      values = subst (λ types. AreValuesOf c.args.checked.now types c.args.words.now c.in_ok-values.values) c.as_slice-types.ensures c.in_ok-values.ensures;
    }
