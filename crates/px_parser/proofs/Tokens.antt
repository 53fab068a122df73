-- One-word readers read their words.
use Rattle.std.proofs.Common.{◌≡◌, ℕ, ◌==◌, Bool, true, false, cond, List, [], ◌∷◌, Some, None, refl, sym, ap, ◌∙◌, eq-eqb, eqb-true}
use Rattle.px_base.specs.declared.prop.Prop.TheVariants.{Comm}
use Rattle.px_base.specs.declared.raw.RawProp.{RawProp}
use Rattle.px_lexer.specs.declared.token.Key.{Key}
use Rattle.px_lexer.specs.declared.token.Key.TheVariants.{KData, KDef, KClaim, KLemma, KReplica, KFrom, KBy, KMatch, KFn, KWith}
use Rattle.px_lexer.specs.declared.token.Mark.{Mark}
use Rattle.px_lexer.specs.declared.token.Mark.TheVariants.{BraceL, BraceR, ParenL, ParenR, Less, Greater, Comma, Colon, Equal, Arrow, FatArrow}
use Rattle.px_lexer.specs.declared.token.TokenKind.{TokenKind}
use Rattle.px_lexer.specs.declared.token.TokenKind.TheVariants as kinds
use Rattle.px_parser.specs.Words.{Word}
use Rattle.px_parser.specs.Kinds.{mark_number, key_number, is_mark, is_key, is_lower, is_upper, is_number}
use Rattle.px_parser.specs.Phrases.{IsMark, IsKey, IsLower, IsUpper, IsProperty, IsNumber, mark, key, lower, upper, property, number}
use Rattle.px_parser.specs.Reading.{where_true, mark_value, key_value, lower_value, upper_value, property_of, property_value, number_value, mark_at, key_at, lower_at, upper_at, property_at, number_at}
use Rattle.px_parser.specs.declared.surface.Name.{Name}
use Rattle.px_parser.specs.declared.surface.SExpr.{SExpr}
use Rattle.px_parser.specs.declared.surface.SExprKind.TheVariants as expr_kinds
use Rattle.px_parser.proofs.Right.{SameFirst, SameTwo, Right, Finds, right_word, right_word_by}

mark_of : ℕ → Mark
mark_of n = cond (n == 0) BraceL (cond (n == 1) BraceR (cond (n == 2) ParenL (cond (n == 3) ParenR (cond (n == 4) Less (cond (n == 5) Greater (cond (n == 6) Comma (cond (n == 7) Colon (cond (n == 8) Equal (cond (n == 9) Arrow FatArrow)))))))))

mark_of_number : (m : Mark) → mark_of (mark_number m) ≡ m
unfolding mark_of
mark_of_number BraceL = refl
mark_of_number BraceR = refl
mark_of_number ParenL = refl
mark_of_number ParenR = refl
mark_of_number Less = refl
mark_of_number Greater = refl
mark_of_number Comma = refl
mark_of_number Colon = refl
mark_of_number Equal = refl
mark_of_number Arrow = refl
mark_of_number FatArrow = refl

key_of : ℕ → Key
key_of n = cond (n == 0) KData (cond (n == 1) KDef (cond (n == 2) KClaim (cond (n == 3) KLemma (cond (n == 4) KReplica (cond (n == 5) KFrom (cond (n == 6) KBy (cond (n == 7) KMatch (cond (n == 8) KFn KWith))))))))

key_of_number : (k : Key) → key_of (key_number k) ≡ k
unfolding key_of
key_of_number KData = refl
key_of_number KDef = refl
key_of_number KClaim = refl
key_of_number KLemma = refl
key_of_number KReplica = refl
key_of_number KFrom = refl
key_of_number KBy = refl
key_of_number KMatch = refl
key_of_number KFn = refl
key_of_number KWith = refl

pub is_mark-true : (m : Mark) (k : TokenKind) → is_mark m k ≡ true → k ≡ kinds.Mark m
is_mark-true m (kinds.Mark n) e =
    let same : mark_number m ≡ mark_number n = eqb-true (mark_number m) (mark_number n) e in
    ap (λ i. kinds.Mark i) (sym (sym (mark_of_number m) ∙ ap mark_of same ∙ mark_of_number n))
is_mark-true m kinds.Lower e = absurd (cc)
is_mark-true m kinds.Upper e = absurd (cc)
is_mark-true m kinds.Number e = absurd (cc)
is_mark-true m (kinds.Key k) e = absurd (cc)
is_mark-true m (kinds.Property p) e = absurd (cc)

pub is_mark-same : (m : Mark) → is_mark m (kinds.Mark m) ≡ true
is_mark-same m = eq-eqb (mark_number m) (mark_number m) refl

pub is_key-true : (j : Key) (k : TokenKind) → is_key j k ≡ true → k ≡ kinds.Key j
is_key-true j (kinds.Key n) e =
    let same : key_number j ≡ key_number n = eqb-true (key_number j) (key_number n) e in
    ap (λ i. kinds.Key i) (sym (sym (key_of_number j) ∙ ap key_of same ∙ key_of_number n))
is_key-true m kinds.Lower e = absurd (cc)
is_key-true m kinds.Upper e = absurd (cc)
is_key-true m kinds.Number e = absurd (cc)
is_key-true m (kinds.Mark k) e = absurd (cc)
is_key-true m (kinds.Property p) e = absurd (cc)

pub is_key-same : (j : Key) → is_key j (kinds.Key j) ≡ true
is_key-same j = eq-eqb (key_number j) (key_number j) refl

is_lower-true : (k : TokenKind) → is_lower k ≡ true → k ≡ kinds.Lower
is_lower-true kinds.Lower e = refl
is_lower-true kinds.Upper e = absurd (cc)
is_lower-true kinds.Number e = absurd (cc)
is_lower-true (kinds.Key k) e = absurd (cc)
is_lower-true (kinds.Property p) e = absurd (cc)
is_lower-true (kinds.Mark m) e = absurd (cc)

is_upper-true : (k : TokenKind) → is_upper k ≡ true → k ≡ kinds.Upper
is_upper-true kinds.Upper e = refl
is_upper-true kinds.Lower e = absurd (cc)
is_upper-true kinds.Number e = absurd (cc)
is_upper-true (kinds.Key k) e = absurd (cc)
is_upper-true (kinds.Property p) e = absurd (cc)
is_upper-true (kinds.Mark m) e = absurd (cc)

is_number-true : (k : TokenKind) → is_number k ≡ true → k ≡ kinds.Number
is_number-true kinds.Number e = refl
is_number-true kinds.Lower e = absurd (cc)
is_number-true kinds.Upper e = absurd (cc)
is_number-true (kinds.Key k) e = absurd (cc)
is_number-true (kinds.Property p) e = absurd (cc)
is_number-true (kinds.Mark m) e = absurd (cc)

where_some : {T : Type 0} (b : Bool) (x v : T) → where_true b x ≡ Some v → (b ≡ true) × (v ≡ x)
where_some true x v e = (refl, cc)
where_some false x v e = absurd (cc)

-- a word of this kind
abbrev example : TokenKind → Word
example kind = record { kind = kind; at = 0; text = []; number = 0 }

pub finds_mark : (m : Mark) → Finds (IsMark m) (mark_value m)
finds_mark m = record {
  is = λ word value e. record { kind = is_mark-true m word.kind (where_some (is_mark m word.kind) tt value e).0 };
  finds = λ word value is. rw (is.kind, is_mark-same m) refl;
  spelled = record { word = example (kinds.Mark m); value = tt; is = record { kind = refl } };
}

pub finds_key : (k : Key) → Finds (IsKey k) (key_value k)
finds_key k = record {
  is = λ word value e. let q = where_some (is_key k word.kind) word.at value e in record { kind = is_key-true k word.kind q.0; same = q.1 };
  finds = λ word value is. rw (is.kind, is_key-same k) (ap (λ n. Some n) (sym is.same));
  spelled = record { word = example (kinds.Key k); value = 0; is = record { kind = refl; same = refl } };
}

abbrev name_of : Word → Name
name_of word = record { at = word.at; text = word.text }

pub finds_lower : Finds IsLower lower_value
finds_lower = record {
  is = λ word value e. let q = where_some (is_lower word.kind) (name_of word) value e in record { kind = is_lower-true word.kind q.0; same = q.1 };
  finds = λ word value is. rw is.kind (ap (λ n. Some n) (sym is.same));
  spelled = record { word = example kinds.Lower; value = name_of (example kinds.Lower); is = record { kind = refl; same = refl } };
}

pub finds_upper : Finds IsUpper upper_value
finds_upper = record {
  is = λ word value e. let q = where_some (is_upper word.kind) (name_of word) value e in record { kind = is_upper-true word.kind q.0; same = q.1 };
  finds = λ word value is. rw is.kind (ap (λ n. Some n) (sym is.same));
  spelled = record { word = example kinds.Upper; value = name_of (example kinds.Upper); is = record { kind = refl; same = refl } };
}

property_some : (k : TokenKind) (at : ℕ) (value : RawProp) → property_of k at ≡ Some value → (k ≡ kinds.Property value.prop) × (value.at ≡ at)
property_some (kinds.Property p) at value e = let q : record { at = at; prop = p } ≡ value = cc in (ap (λ (v : RawProp). kinds.Property v.prop) q, ap (λ (v : RawProp). v.at) (sym q))
property_some kinds.Lower at value e = absurd (cc)
property_some kinds.Upper at value e = absurd (cc)
property_some kinds.Number at value e = absurd (cc)
property_some (kinds.Key k) at value e = absurd (cc)
property_some (kinds.Mark m) at value e = absurd (cc)

property_found : (word : Word) (value : RawProp) → IsProperty word value → property_value word ≡ Some value
property_found word value is = rw (is.kind, ← is.same) refl

pub finds_property : Finds IsProperty property_value
finds_property = record {
  is = λ word value e. let q = property_some word.kind word.at value e in record { kind = q.0; same = q.1 };
  finds = property_found;
  spelled = record { word = example (kinds.Property Comm); value = record { at = 0; prop = Comm }; is = record { kind = refl; same = refl } };
}

abbrev literal_of : Word → SExpr
literal_of word = record { at = word.at; kind = expr_kinds.Number word.number }

pub finds_number : Finds IsNumber number_value
finds_number = record {
  is = λ word value e. let q = where_some (is_number word.kind) (literal_of word) value e in record { kind = is_number-true word.kind q.0; same = q.1 };
  finds = λ word value is. rw is.kind (ap (λ n. Some n) (sym is.same));
  spelled = record { word = example kinds.Number; value = literal_of (example kinds.Number); is = record { kind = refl; same = refl } };
}

pub right_mark : {After : List Word → List Word → Type 0} {Ends : List Word → Type 0} (m : Mark) → Right SameFirst After Ends (mark m) (mark_at m)
right_mark m = right_word (finds_mark m)

pub right_key : {After : List Word → List Word → Type 0} {Ends : List Word → Type 0} (k : Key) → Right SameFirst After Ends (key k) (key_at k)
right_key k = right_word (finds_key k)

pub right_lower : {After : List Word → List Word → Type 0} {Ends : List Word → Type 0} → Right SameFirst After Ends lower lower_at
right_lower = right_word finds_lower

pub right_upper : {After : List Word → List Word → Type 0} {Ends : List Word → Type 0} → Right SameFirst After Ends upper upper_at
right_upper = right_word finds_upper

pub right_property : {After : List Word → List Word → Type 0} {Ends : List Word → Type 0} → Right SameFirst After Ends property property_at
right_property = right_word finds_property

pub right_number : {After : List Word → List Word → Type 0} {Ends : List Word → Type 0} → Right SameFirst After Ends number number_at
right_number = right_word finds_number

comma_apart : (x y : List Word) → SameFirst x y → ((word : Word) (rest : List Word) → x ≡ word ∷ rest → mark_value Comma word ≡ None) → SameTwo x y
comma_apart [] [] same other = tt
comma_apart [] (b ∷ y) same other = absurd same
comma_apart (a ∷ x) [] same other = absurd same
comma_apart (a ∷ x) (b ∷ y) same other =
    (same, λ is. let h : mark_value Comma a ≡ None = other a x refl in let k : mark_value Comma a ≡ Some tt = rw is refl in absurd (cc))

-- behind a comma one more word is looked at
pub right_comma : {Ends : List Word → Type 0} → Right SameTwo SameFirst Ends (mark Comma) (mark_at Comma)
right_comma = right_word_by SameTwo SameFirst (IsMark Comma) (mark_value Comma) (finds_mark Comma) (λ word value x y is h. (refl, λ _. h)) comma_apart
