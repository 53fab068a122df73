-- Each row is sound: under what is assumed, a sequent whose children are valid is valid.
use Rattle.std.proofs.Common.{◌≡◌, ℕ, List, [], ◌∷◌, subst}
use Rattle.std.specs.Prelude.{All}
use Rattle.std.proofs.lemmas.List.Elements.{All-head}
use Rattle.px_terms.specs.declared.types.Ty.{Ty}
use Rattle.px_terms.specs.declared.types.Fun.{Fun}
use Rattle.px_terms.specs.declared.clause.Clause.{Clause}
use Rattle.px_terms.specs.declared.clause.Sigma.{Sigma}
use Rattle.px_terms.specs.declared.program.Program.{Program}
use Rattle.px_terms.specs.declared.sequent.Sequent.{Sequent}
use Rattle.px_terms.specs.declared.row.Ref.{Ref}
use Rattle.px_terms.specs.declared.row.Ref.TheVariants as reference
use Rattle.px_terms.specs.declared.row.Row.TheVariants as row
use Rattle.px_terms.specs.Sequents.{with_alternative_side, with_fact_side}
use Rattle.px_terms.specs.Rows.{Opens}
use Rattle.px_terms.specs.Rows as rows
use Rattle.px_totality.specs.Laws.{EachTermHasValue}
use Rattle.px_soundness.specs.Validity.{IsValidAt, IsSequentOf}
use Rattle.px_soundness.specs.Argument.{Assumed, RowsAreSound, StepsKeepValues}
use Rattle.px_soundness.proofs.PlainRowsAreSound.{same_is_sound, step_is_sound, fact_step_is_sound, clash_is_sound, inject_is_sound}
use Rattle.px_soundness.proofs.CasesAreSound.{case_is_sound, split_is_sound}

-- what is said of a note
abbrev pub NotesAreSound : Type 0
NotesAreSound =
    (Q : Program) (n : ℕ) (own : Clause) (on : List ℕ) (types : List Ty) (funs : List Fun) (size : ℕ) → Assumed Q n own on types funs size →
    (s : Sequent) (about : Ref) (sigma : Sigma) (children : List Sequent) → IsSequentOf Q own on s → Opens Q n s (row.Note about sigma) children →
    All (λ (child : Sequent). IsValidAt Q types funs child size) children → IsValidAt Q types funs s size

-- the one child of a row is valid
only_child : (Q : Program) (types : List Ty) (funs : List Fun) (size : ℕ) (child there : Sequent) → child ≡ there → All (λ (x : Sequent). IsValidAt Q types funs x size) (child ∷ []) → IsValidAt Q types funs there size
only_child Q types funs size child there is all = subst (λ (x : Sequent). IsValidAt Q types funs x size) is (All-head (λ (x : Sequent). IsValidAt Q types funs x size) child [] all)

pub rows_are_sound : EachTermHasValue → StepsKeepValues → NotesAreSound → RowsAreSound
rows_are_sound has_value keep notes Q n own on types funs size assumed s _ _ is (rows.same {j = j} {e = e} found one) valid =
    same_is_sound has_value keep Q n own on types funs size assumed s is j e found one
rows_are_sound has_value keep notes Q n own on types funs size assumed s _ _ is (rows.step {child = child} {j = j} {side = side} {path = path} {kind = kind} {e = e} {t = t} found one child_is small) valid =
    step_is_sound has_value keep Q n own on types funs size assumed s is j e side path kind t found one (only_child Q types funs size child (with_alternative_side s j e side t) child_is valid)
rows_are_sound has_value keep notes Q n own on types funs size assumed s _ _ is (rows.step_in_fact {child = child} {j = j} {side = side} {path = path} {kind = kind} {e = e} {t = t} found one child_is small) valid =
    fact_step_is_sound has_value keep Q n own on types funs size assumed s is j e side path kind t found one (only_child Q types funs size child (with_fact_side s j e side t) child_is valid)
rows_are_sound has_value keep notes Q n own on types funs size assumed s _ children is (rows.note {about = about} {sigma = sigma} other obligation opened may fits are small) valid =
    notes Q n own on types funs size assumed s about sigma children is (rows.note other obligation opened may fits are small) valid
rows_are_sound has_value keep notes Q n own on types funs size assumed s _ children is (rows.hypothesis {sigma = sigma} no_types no_funs obligation may fits guard are small) valid =
    notes Q n own on types funs size assumed s reference.Hypothesis sigma children is (rows.hypothesis no_types no_funs obligation may fits guard are small) valid
rows_are_sound has_value keep notes Q n own on types funs size assumed s _ children is (rows.case {v = v} cases small) valid =
    case_is_sound has_value Q n own on types funs size assumed s is v children cases valid
rows_are_sound has_value keep notes Q n own on types funs size assumed s _ children is (rows.split {t = t} may cases small) valid =
    split_is_sound has_value Q n own on types funs size assumed s is t children cases valid
rows_are_sound has_value keep notes Q n own on types funs size assumed s _ _ is (rows.clash {j = j} {e = e} found clash) valid =
    clash_is_sound has_value keep Q n own on types funs size assumed s is j e found clash
rows_are_sound has_value keep notes Q n own on types funs size assumed s _ _ is (rows.inject {child = child} {j = j} injected small) valid =
    inject_is_sound has_value keep Q n own on types funs size assumed s is j child injected (only_child Q types funs size child child (λ i. child) valid)
