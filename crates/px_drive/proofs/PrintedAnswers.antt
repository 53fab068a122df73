-- What is printed of a value of a text's program is a text of that value.
use Rattle.std.proofs.Common.{◌≡◌, [], ◌∷◌, Some, sym, ◌∙◌, subst}
use Rattle.px_terms.specs.declared.types.Ty.{Ty}
use Rattle.px_terms.specs.declared.term.Value.{Value}
use Rattle.px_terms.specs.declared.program.Def.{Def}
use Rattle.px_terms.specs.Types.{ty_instance}
use Rattle.px_terms.specs.Values.{IsIn}
use Rattle.px_totality.proofs.Applied.{nothing_put_in}
use Rattle.px_schedule.specs.ValueLaws as value_laws
use Rattle.px_parser.specs.Laws as parser
use Rattle.px_scope.specs.Laws as scope
use Rattle.px_drive.specs.Laws.{SourceExtendsItself, SourceIsChecked, SourceIsNumbered, PrintedIsText, AnswersAreTexts}
use Rattle.px_drive.proofs.Sources.{fits_of}
use Rattle.px_drive.proofs.ConstructorNames.{have_names}
use Rattle.px_drive.proofs.ParameterCounts.{definitions_numbered}
use Rattle.px_drive.proofs.CallLaws.{GivesOne, gives_one}

pub source_is_numbered_law : parser.TreesAreFine → scope.NumberingsFit → SourceIsNumbered
source_is_numbered_law trees_are_fine numberings_fit text P source = definitions_numbered source.raw P (fits_of trees_are_fine numberings_fit text source.raw source.is_numbered) source.is_typed

pub printed_is_text_law : parser.TreesAreFine → scope.NumberingsFit → value_laws.PrintedIsText → PrintedIsText
printed_is_text_law trees_are_fine numberings_fit printed text P source T v is_in small =
    printed P T v (have_names source.raw P (fits_of trees_are_fine numberings_fit text source.raw source.is_numbered) source.is_typed) is_in small

-- where nothing is put in, a type stays as it is
same_type : (T : Ty) → ty_instance [] T ≡ T
same_type T = let both : ty_instance [] T ∷ [] ≡ T ∷ [] = nothing_put_in (T ∷ []) in cc

pub answers_are_texts_law : SourceIsChecked → SourceExtendsItself → PrintedIsText → AnswersAreTexts
answers_are_texts_law source_checked extends printed text P source name words call is D is_def v calls gives small =
    let one : GivesOne P call = gives_one P (source_checked text P source) name words (extends text P source) call is in
    let defs : one.D ≡ D = let both : Some one.D ≡ Some D = sym one.is_def ∙ is_def in cc in
    let same : v ≡ one.exactly.value = (one.exactly.no_other v calls gives).0 in
    let there : IsIn P one.D.result one.exactly.value = subst (λ (T : Ty). IsIn P T one.exactly.value) (same_type one.D.result) one.exactly.in_type in
    let here : IsIn P D.result v = subst (λ (w : Value). IsIn P D.result w) (sym same) (subst (λ (E : Def). IsIn P E.result one.exactly.value) defs there) in
    printed text P source D.result v here small
