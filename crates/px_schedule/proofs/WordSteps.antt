-- A word is read.
use Rattle.std.proofs.Common.{◌≡◌, ℕ, ◌+◌, ◌<◌, ◌≤◌, ◌^◌, false, List, [], ◌∷◌, ◌++◌, length, reverse, refl, sym, ap, ◌∙◌, subst, inl, inr, arith}
use Rattle.std.specs.Prelude.{IsTrue}
use Rattle.std.specs.Char.{is_ascii_digit}
use Rattle.std.specs.Str.Parse.{digits_value}
use Rattle.std.proofs.lemmas.List.{length-append}
use Rattle.std.proofs.lemmas.List.Elements.{All-from_recursion, recursion_from_All}
use Rattle.px_terms.specs.declared.types.Ty.{Ty, out-Ty}
use Rattle.px_terms.specs.declared.types.Ty.TheVariants as types
use Rattle.px_terms.specs.declared.types.Ty.TheOpen.{Ty-F}
use Rattle.px_terms.specs.declared.term.Value.{Value, out-Value}
use Rattle.px_terms.specs.declared.term.Value.TheVariants as value
use Rattle.px_terms.specs.declared.term.Value.TheOpen.{Value-F}
use Rattle.px_terms.specs.declared.program.Program.{Program}
use Rattle.px_terms.specs.Values.{IsIn, IsInLayer, word}
use Rattle.px_machine.specs.declared.cells.Cell.{Cell}
use Rattle.px_machine.specs.declared.cells.Cell.TheVariants as cell
use Rattle.px_machine.specs.Cells.{preorders}
use Rattle.px_schedule.specs.declared.runs.Class.TheVariants as classes
use Rattle.px_schedule.specs.declared.wanted.Wanted.{Wanted}
use Rattle.px_schedule.specs.declared.wanted.Wanted.TheVariants as wanted
use Rattle.px_schedule.specs.declared.reading.Reading.{Reading}
use Rattle.px_schedule.specs.Runs.{begins, IsRun}
use Rattle.px_schedule.specs.ValueGrammar.{Piece, numeral, IsNumeral, AreSpelled, piece}
use Rattle.px_schedule.specs.Wanting.{IsMark, AreWants, valued, Completes, Turns, IsStuck, IsRoom, IsStep}
use Rattle.px_schedule.proofs.RunFacts.{Each, Same, same_run}
use Rattle.px_schedule.proofs.Spellings.{is_space, IsFirst, first_piece}
use Rattle.px_schedule.proofs.ValueFacts.{pieces_word, preorder_word, IsWordValue, in_word}
use Rattle.px_schedule.proofs.WantFacts.{ValueNeeds, needs}
use Rattle.px_schedule.proofs.Turning.{ends_word}

no_mark : (c : ℕ) → IsMark c → is_ascii_digit c ≡ false
no_mark c (inl is) = ap is_ascii_digit is
no_mark c (inr (inl is)) = ap is_ascii_digit is
no_mark c (inr (inr is)) = ap is_ascii_digit is

word_type : (T : Ty) → T ≡ types.Word → out-Ty T ≡ Ty-F.Word
word_type T is = ap out-Ty is ∙ types.outs-Word

-- A word stands first, and this is behind it.
pub record IsWordFirst (P : Program) (ws : List Wanted) (digits rest : List ℕ) (vs : List Value) : Type 0 where
  pub w : ℕ
  pub numeral_is : IsNumeral digits w
  pub small : w < 2 ^ 64
  pub others : List Value
  pub completes : Completes P ws rest others
  pub are : preorders vs ≡ cell.Lit w ∷ preorders others

pub word_first : (P : Program) (T : Ty) → T ≡ types.Word → (ws : List Wanted) → AreWants (wanted.Value T ∷ ws) → (text digits rest : List ℕ) → begins is_space text ≡ false → IsRun classes.Digit text digits rest → (vs : List Value) → Completes P (wanted.Value T ∷ ws) text vs → IsWordFirst P ws digits rest vs
word_first P T type_is ws are text digits rest ends run vs C =
    let n : ValueNeeds P T ws vs C.pieces = needs P C.fits in
    let i : IsWordValue (out-Value n.value) = in_word P n.inside (word_type T type_is) in
    let pieces_is : C.pieces ≡ numeral i.w ∷ n.behind = n.is ∙ ap (λ (z : List Piece). z ++ n.behind) (pieces_word n.value i.w i.is) in
    let f : IsFirst P.names text (numeral i.w) n.behind = first_piece P.names (subst (AreSpelled P.names text) pieces_is C.spelled) ends in
    let own : Each is_ascii_digit f.word = recursion_from_All (λ (byte : ℕ). IsTrue (is_ascii_digit byte)) f.word f.is_word.digits in
    let behind : begins is_ascii_digit f.rest ≡ false = ends_word P is_ascii_digit refl no_mark ws are.1 are.0 n.others n.behind f.rest n.fits f.spelled in
    let s : Same f.word digits f.rest rest = same_run is_ascii_digit f.word digits f.rest rest own run.each behind run.ends (sym f.whole ∙ run.whole) in
    record {
      w = i.w;
      numeral_is = subst (λ (z : List ℕ). IsNumeral z i.w) s.front f.is_word;
      small = i.small;
      others = n.others;
      completes = record { pieces = n.behind; fits = n.fits; spelled = subst (λ (z : List ℕ). AreSpelled P.names z n.behind) s.back f.spelled };
      are = ap preorders n.values ∙ ap (λ (z : List Cell). z ++ preorders n.others) (preorder_word n.value i.w i.is);
    }

is_word : (P : Program) (T : Ty) → T ≡ types.Word → (w : ℕ) → w < 2 ^ 64 → IsIn P T (value.Lit w)
is_word P T type_is w small =
    let i : IsInLayer P Ty-F.Word (Value-F.Lit w) = word small in
    let j : IsInLayer P Ty-F.Word (out-Value (value.Lit w)) = subst (IsInLayer P Ty-F.Word) (sym (value.outs-Lit w)) i in
    subst (λ (t : Ty-F Ty). IsInLayer P t (out-Value (value.Lit w))) (sym (word_type T type_is)) j

word_turns : (P : Program) (T : Ty) → T ≡ types.Word → (ws : List Wanted) → AreWants (wanted.Value T ∷ ws) → (text digits rest : List ℕ) → begins is_space text ≡ false → IsRun classes.Digit text digits rest → (w : ℕ) → IsNumeral digits w → w < 2 ^ 64 → (cells : List Cell) →
    Turns P (wanted.Value T ∷ ws) text cells ws rest (cells ++ cell.Lit w ∷ [])
word_turns P T type_is ws are text digits rest ends run w numeral_is small cells = record {
  added = cell.Lit w ∷ [];
  are = refl;
  forth = λ vs C. record {
    values = value.Lit w ∷ vs;
    completes = record {
      pieces = numeral w ∷ C.pieces;
      fits = valued (is_word P T type_is w small) (sym (ap (λ (z : List Piece). z ++ C.pieces) (pieces_word (value.Lit w) w (value.outs-Lit w)))) C.fits;
      spelled = piece digits numeral_is run.whole C.spelled;
    };
    are = ap (λ (z : List Cell). z ++ preorders vs) (preorder_word (value.Lit w) w (value.outs-Lit w));
  };
  back = λ vs C.
      let f : IsWordFirst P ws digits rest vs = word_first P T type_is ws are text digits rest ends run vs C in
      let same : f.w ≡ w = sym f.numeral_is.value ∙ numeral_is.value in
      record { values = f.others; completes = f.completes; are = f.are ∙ ap (λ (n : ℕ). cell.Lit n ∷ preorders f.others) same };
}

-- a word was read
pub word_step : (P : Program) (T : Ty) → T ≡ types.Word → (before later : Reading) → AreWants (wanted.Value T ∷ reverse before.wanted) → IsRoom before.left before.cells (wanted.Value T ∷ reverse before.wanted) → (text digits rest : List ℕ) → begins is_space text ≡ false → IsRun classes.Digit text digits rest → 0 < length digits → (w : ℕ) → w ≡ digits_value 10 digits → w < 2 ^ 64 →
    later.wanted ≡ before.wanted → later.left ≡ before.left → later.cells ≡ before.cells ++ cell.Lit w ∷ [] → IsStep P (wanted.Value T) before text later rest
word_step P T type_is before later are room text digits rest ends run some w value_is small wanted_is left_is cells_is =
    let ws : List Wanted = reverse before.wanted in
    let n : IsNumeral digits w = record { some = some; digits = All-from_recursion (λ (byte : ℕ). IsTrue (is_ascii_digit byte)) digits run.each; value = sym value_is } in
    let t : Turns P (wanted.Value T ∷ ws) text before.cells ws rest (before.cells ++ cell.Lit w ∷ []) = word_turns P T type_is ws are text digits rest ends run w n small before.cells in
    let same : reverse later.wanted ≡ ws = ap reverse wanted_is in
    let many : length (before.cells ++ cell.Lit w ∷ []) ≡ length before.cells + 1 = length-append before.cells (cell.Lit w ∷ []) in
    let total : length text ≡ length digits + length rest = ap length run.whole ∙ length-append digits rest in
    record {
      turns = rw (same, cells_is) t;
      room = rw (same, cells_is, left_is) (omega arith);
      wants = rw same are.1;
      shorter = omega arith;
    }

-- no digits stand first
pub word_stuck : (P : Program) (T : Ty) → T ≡ types.Word → (ws : List Wanted) → AreWants (wanted.Value T ∷ ws) → (text digits rest : List ℕ) → begins is_space text ≡ false → IsRun classes.Digit text digits rest → length digits ≡ 0 → (cells : List Cell) → IsStuck P (wanted.Value T ∷ ws) text cells
word_stuck P T type_is ws are text digits rest ends run none cells vs C small =
    let f : IsWordFirst P ws digits rest vs = word_first P T type_is ws are text digits rest ends run vs C in
    let some : 0 < length digits = f.numeral_is.some in
    omega arith

-- the number is too large
pub large_stuck : (P : Program) (T : Ty) → T ≡ types.Word → (ws : List Wanted) → AreWants (wanted.Value T ∷ ws) → (text digits rest : List ℕ) → begins is_space text ≡ false → IsRun classes.Digit text digits rest → 2 ^ 64 ≤ digits_value 10 digits → (cells : List Cell) → IsStuck P (wanted.Value T ∷ ws) text cells
large_stuck P T type_is ws are text digits rest ends run large cells vs C small =
    let f : IsWordFirst P ws digits rest vs = word_first P T type_is ws are text digits rest ends run vs C in
    let less : digits_value 10 digits < 2 ^ 64 = subst (λ (n : ℕ). n < 2 ^ 64) (sym f.numeral_is.value) f.small in
    absurd (omega arith)
