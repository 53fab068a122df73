use Rattle.std.proofs.Common.{ℕ, List, ◌<◌, ◌^◌, sym, ap, ◌∙◌, arith}
use Rattle.std.specs.Prelude.{slice_get}
use Rattle.px_terms.specs.declared.program.DataDef.{DataDef}
use Rattle.px_terms.specs.declared.program.ConDef.{ConDef}
use Rattle.px_schedule.specs.Names.{place_of}
use Rattle.px_schedule.proofs.NameFacts.{named, unnamed, undeclared, small_number}
use Rattle.px_schedule.proofs.constructors.find_constructor.Goals as goal

pub returns-in_default-place : goal.returns-in_default-place
returns-in_default-place c =
    let own_at = ap (λ (xs : List (List (List ℕ))). slice_get xs c.args.datatype) (sym c.as_slice.ensures) ∙ sym c.in-Some.ensures in
    let none_is = ap (λ (ns : List (List ℕ)). place_of ns c.args.word.now) (sym c.as_slice-2.ensures) ∙ sym c.place.ensures ∙ c.in_default-place.is in
    unnamed c.args.program.now c.args.datatype c.args.word.now c.in-Some.names.now own_at none_is

pub returns-in_default-at-2 : goal.returns-in_default-at-2
returns-in_default-at-2 c =
    let own_at = ap (λ (xs : List (List (List ℕ))). slice_get xs c.args.datatype) (sym c.as_slice.ensures) ∙ sym c.in-Some.ensures in
    let place_is = ap (λ (ns : List (List ℕ)). place_of ns c.args.word.now) (sym c.as_slice-2.ensures) ∙ sym c.place.ensures ∙ c.in-Some-place.is in
    let data_at = ap (λ (xs : List DataDef). slice_get xs c.args.datatype) (sym c.as_slice-3.ensures) ∙ sym c.in-Some-at.ensures in
    let con_at = ap (λ (xs : List ConDef). slice_get xs c.in-Some-place.con) (sym c.as_slice-4.ensures) ∙ sym c.in_default-at-2.ensures in
    undeclared c.args.program.now c.requires.lawful c.args.datatype c.in-Some-place.con c.args.word.now c.in-Some.names.now c.in-Some-at.data.now own_at place_is data_at con_at

pub overflow_cast-result : goal.overflow_cast-result
overflow_cast-result c =
    let data_at = ap (λ (xs : List DataDef). slice_get xs c.args.datatype) (sym c.as_slice-3.ensures) ∙ sym c.in-Some-at.ensures in
    let con_at = ap (λ (xs : List ConDef). slice_get xs c.in-Some-place.con) (sym c.as_slice-4.ensures) ∙ sym c.in-Some-at-2.ensures in
    let small : c.in-Some-place.con < 2 ^ 32 = small_number c.args.program.now c.requires.numbered c.args.datatype c.in-Some-place.con c.in-Some-at.data.now c.in-Some-at-2.constructor.now data_at con_at in
    omega arith

pub returns : goal.returns
returns c =
    let own_at = ap (λ (xs : List (List (List ℕ))). slice_get xs c.args.datatype) (sym c.as_slice.ensures) ∙ sym c.in-Some.ensures in
    let place_is = ap (λ (ns : List (List ℕ)). place_of ns c.args.word.now) (sym c.as_slice-2.ensures) ∙ sym c.place.ensures ∙ c.in-Some-place.is in
    let data_at = ap (λ (xs : List DataDef). slice_get xs c.args.datatype) (sym c.as_slice-3.ensures) ∙ sym c.in-Some-at.ensures in
    let con_at = ap (λ (xs : List ConDef). slice_get xs c.in-Some-place.con) (sym c.as_slice-4.ensures) ∙ sym c.in-Some-at-2.ensures in
    named c.args.program.now c.args.datatype c.in-Some-place.con c.args.word.now c.in-Some.names.now c.in-Some-at.data.now c.in-Some-at-2.constructor.now c.as_slice-5.result.now own_at place_is data_at con_at c.as_slice-5.ensures
