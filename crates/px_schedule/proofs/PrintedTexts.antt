-- What is printed of a value is a text of it.
use Rattle.std.proofs.Common.{◌≡◌, ℕ, ◌<◌, ◌≤◌, ◌^◌, true, List, [], ◌∷◌, ◌++◌, map, length, Option, Some, None, refl, sym, ap, ◌∙◌, arith}
use Rattle.std.specs.Prelude.{IsTrue, IsSome, slice_get, unwrap_or, codes}
use Rattle.std.specs.List.{flat_map, AllByRecursion}
use Rattle.std.specs.Char.{is_ascii_digit}
use Rattle.std.specs.Fmt.{decimal}
use Rattle.std.specs.Str.Parse.{digits_value}
use Rattle.std.proofs.lemmas.Bool.Decides.{nat_tests}
use Rattle.std.proofs.lemmas.Fmt.{digits_value-decimal, digits_decimal, decimal_nonempty}
use Rattle.std.proofs.lemmas.List.{append_assoc, append-nil}
use Rattle.std.proofs.lemmas.List.Elements.{All-from_recursion}
use Rattle.std.proofs.lemmas.Str.Parse.{IsNumeralModel, IsDigitsTest, numerals_by_value}
use Rattle.px_base.specs.declared.limits.TheConstants.{VALUE_NODES}
use Rattle.px_base.specs.declared.names.Names.{Names}
use Rattle.px_terms.specs.declared.types.Ty.{Ty}
use Rattle.px_terms.specs.declared.types.Ty.TheOpen.{Ty-F}
use Rattle.px_terms.specs.declared.term.Value.{Value, out-Value}
use Rattle.px_terms.specs.declared.term.Value.TheOpen.{Value-F}
use Rattle.px_terms.specs.declared.term.Value.TheFolds.{map-Value, fold_out-Value}
use Rattle.px_terms.specs.declared.program.Program.{Program}
use Rattle.px_terms.specs.Values.{IsIn, IsInLayer, AreIn, word, con, none, more}
use Rattle.px_terms.specs.Programs.{constructor_at}
use Rattle.px_machine.specs.Cells.{preorder}
use Rattle.px_machine.specs.ValueText.{constructor_name, value_text_step, value_text}
use Rattle.px_machine.specs.ValueText.{in_parentheses as text_in_parentheses}
use Rattle.px_schedule.specs.ValueGrammar.{Piece, numeral, constructor, closed, in_parentheses, pieces, IsNumeral, constructors_at, AreSpelled, nothing, space, piece, IsText}
use Rattle.px_schedule.specs.ValueLaws.{HaveNames}
use Rattle.px_schedule.proofs.DigitFacts.{digit_range}
use Rattle.px_schedule.proofs.ValueFacts.{pieces_word, pieces_con}

-- digits, one after the other
abbrev AreDigits : List ℕ → Type 0
AreDigits = AllByRecursion (λ (byte : ℕ). IsTrue (is_ascii_digit byte))

digit_from : (c : ℕ) → (48 ≤ c) × (c ≤ 57) → is_ascii_digit c ≡ true
digit_from c range = grind (arith, nat_tests)

are_digits : IsDigitsTest AreDigits
are_digits = record { empty = tt; parts = λ c cs h. (digit_range c h.0, h.1); more = λ c cs range h. (digit_from c range, h) }

own : IsNumeralModel AreDigits (digits_value 10)
own = numerals_by_value AreDigits are_digits

-- a number's decimal is a numeral of it
decimal_is : (w : ℕ) → w < 2 ^ 64 → IsNumeral (decimal w) w
decimal_is w small = record {
  some = decimal_nonempty w small;
  digits = All-from_recursion (λ (byte : ℕ). IsTrue (is_ascii_digit byte)) (decimal w) (digits_decimal own w small);
  value = digits_value-decimal own w small;
}

-- one text behind the other
both_spelled : (names : Names) {a b : List ℕ} {ps qs : List Piece} → AreSpelled names a ps → AreSpelled names b qs → AreSpelled names (a ++ b) (ps ++ qs)
both_spelled names nothing other = other
both_spelled names (space spelled) other = space (both_spelled names spelled other)
both_spelled names {b = b} (piece {whole} {text} first is_word is spelled) other =
    piece first is_word (ap (λ (z : List ℕ). z ++ b) is ∙ append_assoc first text b) (both_spelled names spelled other)

text_word : (names : Names) (v : Value) (w : ℕ) → out-Value v ≡ Value-F.Lit w → value_text names v ≡ decimal w
text_word names v w e = fold_out-Value (List ℕ) (value_text_step names) v ∙ ap (λ (y : Value-F Value). value_text_step names (map-Value Value (List ℕ) (value_text names) y)) e

text_con : (names : Names) (v : Value) (d k : ℕ) (fields : List Value) → out-Value v ≡ Value-F.Con d k fields → value_text names v ≡ constructor_name names d k ++ text_in_parentheses (map (value_text names) fields)
text_con names v d k fields e = fold_out-Value (List ℕ) (value_text_step names) v ∙ ap (λ (y : Value-F Value). value_text_step names (map-Value Value (List ℕ) (value_text names) y)) e

-- the value's text is its pieces
abbrev Prints : Names → Value → Type 0
Prints names v = AreSpelled names (value_text names v) (pieces v)

-- the text behind the first field
abbrev more_text : Names → List Value → List ℕ
more_text names fields = flat_map (λ (t : List ℕ). codes ", " ++ t) (map (value_text names) fields)

closed_spelled : (names : Names) (fields : List Value) → AllByRecursion (Prints names) fields → AreSpelled names (more_text names fields ++ codes ")") (closed (map pieces fields))
closed_spelled names [] all = piece (41 ∷ []) refl refl nothing
closed_spelled names (v ∷ fields) all =
    let rest : AreSpelled names (value_text names v ++ (more_text names fields ++ codes ")")) (pieces v ++ closed (map pieces fields)) = both_spelled names all.0 (closed_spelled names fields all.1) in
    let split : more_text names (v ∷ fields) ++ codes ")" ≡ 44 ∷ (32 ∷ (value_text names v ++ (more_text names fields ++ codes ")"))) = append_assoc (44 ∷ (32 ∷ value_text names v)) (more_text names fields) (codes ")") in
    piece (44 ∷ []) refl split (space rest)

fields_spelled : (names : Names) (fields : List Value) → AllByRecursion (Prints names) fields → AreSpelled names (text_in_parentheses (map (value_text names) fields)) (in_parentheses (map pieces fields))
fields_spelled names [] all = nothing
fields_spelled names (v ∷ fields) all =
    let rest : AreSpelled names (value_text names v ++ (more_text names fields ++ codes ")")) (pieces v ++ closed (map pieces fields)) = both_spelled names all.0 (closed_spelled names fields all.1) in
    let split : text_in_parentheses (map (value_text names) (v ∷ fields)) ≡ 40 ∷ (value_text names v ++ (more_text names fields ++ codes ")")) = ap (λ (z : List ℕ). 40 ∷ z) (append_assoc (value_text names v) (more_text names fields) (codes ")")) in
    piece (40 ∷ []) refl split rest

found : {A : Type 0} (o : Option A) (other : A) → IsSome o → o ≡ Some (unwrap_or o other)
found (Some x) other is = refl
found None other is = absurd cc

some_is : {A : Type 0} (o : Option A) (x : A) → o ≡ Some x → IsSome o
some_is (Some y) x e = refl
some_is None x e = absurd cc

module _ (P : Program) (have : HaveNames P) where
  mutual
    spelled : {t : Ty-F Ty} {e : Value-F Value} → IsInLayer P t e → (v : Value) → out-Value v ≡ e → Prints P.names v
    spelled (word {w} small) v is =
        let one : AreSpelled P.names (decimal w) (numeral w ∷ []) = piece (decimal w) (decimal_is w small) (sym (append-nil (decimal w))) nothing in
        rw (text_word P.names v w is, pieces_word v w is) one
    spelled (con {d} {k} {args} {fields} {c} at inside) v is =
        let named : slice_get (constructors_at P.names d) k ≡ Some (constructor_name P.names d k) = found (slice_get (constructors_at P.names d) k) [] (have d k (some_is (constructor_at P d k) c at)) in
        let all : AreSpelled P.names (constructor_name P.names d k ++ text_in_parentheses (map (value_text P.names) fields)) (constructor d k ∷ in_parentheses (map pieces fields)) = piece (constructor_name P.names d k) named refl (fields_spelled P.names fields (each_spelled inside)) in
        rw (text_con P.names v d k fields is, pieces_con v d k fields is) all

    each_spelled : {types : List Ty} {fields : List Value} → AreIn P types fields → AllByRecursion (Prints P.names) fields
    each_spelled none = tt
    each_spelled (more {T} {types} {v} {values} inside others) = (spelled inside v refl, each_spelled others)

-- what is printed of a value within the limit is a text of it
pub printed : (P : Program) (T : Ty) (v : Value) → HaveNames P → IsIn P T v → length (preorder v) ≤ VALUE_NODES → IsText P T (value_text P.names v) v
printed P T v have inside small = record { typed = inside; spelled = spelled P have inside v refl; small = small }
