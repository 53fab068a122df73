-- What words are written for has its places among theirs, in their order: one lemma a join.
use Rattle.std.proofs.Common.{◌≡◌, ℕ, false, ◌||◌, List, [], ◌∷◌, ◌++◌, map, refl, sym, ap, subst, ◌∙◌, append_assoc}
use Rattle.std.specs.List.{flat_map}
use Rattle.std.proofs.lemmas.List.{append-nil, map-append}
use Rattle.px_lexer.specs.declared.token.Key.{Key}
use Rattle.px_lexer.specs.declared.token.Mark.{Mark}
use Rattle.px_lexer.specs.declared.token.TokenKind.{TokenKind}
use Rattle.px_lexer.specs.declared.token.TokenKind.TheVariants as kinds
use Rattle.px_parser.specs.Kinds.{is_name, is_property}
use Rattle.px_parser.specs.Words.{Word}
use Rattle.px_parser.specs.Phrases.{IsDone, IsSequence, Either, one, other, Each, IsWord, IsMark, IsKey, IsLower, IsUpper, IsProperty, list, between}
use Rattle.px_base.specs.declared.raw.RawProp.{RawProp}
use Rattle.px_parser.specs.declared.surface.Name.{Name}
use Rattle.px_scope.proofs.Sublists.{Place, name_at, Sub, done, leave, sub_refl, sub_trans, sub_both}

-- the place of a word of this kind
abbrev pub place_of_kind : ℕ → TokenKind → Place
place_of_kind at kind = record { at = at; named = is_name kind || is_property kind }

-- the place of a word
abbrev pub word_place : Word → Place
word_place w = place_of_kind w.at w.kind

-- a word of a kind that is known
pub word_place_is : (w : Word) (kind : TokenKind) → w.kind ≡ kind → word_place w ≡ place_of_kind w.at kind
word_place_is w kind is = ap (place_of_kind w.at) is

-- the places of words
abbrev pub word_places : List Word → List Place
word_places words = map word_place words

-- a value's places are among these and its words', in this order
pub record Placed {T : Type 0} (before : List Place) (places : T → List Place) (A : List Word → T → Type 0) : Type 0 where
  pub placed : (words : List Word) (value : T) → A words value → Sub (places value) (before ++ map word_place words)

pub placed_impossible : {T : Type 0} {before : List Place} {places : T → List Place} → Placed before places (λ words value. ⊥)
placed_impossible = record { placed = λ words value is. absurd is }

-- a word whose place counts
pub placed_word : {T : Type 0} {Is : Word → T → Type 0} (place : T → Place) → ((word : Word) (value : T) → Is word value → place value ≡ word_place word) →
    Placed [] (λ (value : T). place value ∷ []) (IsWord Is)
placed_word {T} {Is} place same = record {
  placed = λ words value is.
      let sub : Sub (place value ∷ []) (word_place is.word ∷ []) = subst (λ (at : Place). Sub (place value ∷ []) (at ∷ [])) (same is.word value is.is) (sub_refl (place value ∷ [])) in
      subst (λ (all : List Word). Sub (place value ∷ []) (word_places all)) (sym is.whole) sub;
}

pub placed_lower : Placed [] (λ (name : Name). name_at name.at ∷ []) (IsWord IsLower)
placed_lower = placed_word (λ (name : Name). name_at name.at) (λ word name is. ap (λ (n : Name). name_at n.at) is.same ∙ sym (word_place_is word kinds.Lower is.kind))

pub placed_upper : Placed [] (λ (name : Name). name_at name.at ∷ []) (IsWord IsUpper)
placed_upper = placed_word (λ (name : Name). name_at name.at) (λ word name is. ap (λ (n : Name). name_at n.at) is.same ∙ sym (word_place_is word kinds.Upper is.kind))

pub placed_property : Placed [] (λ (prop : RawProp). name_at prop.at ∷ []) (IsWord IsProperty)
placed_property = placed_word (λ (prop : RawProp). name_at prop.at) (λ word prop is. ap name_at is.same ∙ sym (word_place_is word (kinds.Property prop.prop) is.kind))

pub placed_done : {T : Type 0} {before : List Place} {places : T → List Place} {value : T} → places value ≡ before → Placed before places (IsDone value)
placed_done {T} {before} {places} {value} same = record {
  placed = λ words result is.
      let a : before ++ word_places words ≡ before = ap (λ (all : List Word). before ++ word_places all) is.none ∙ append-nil before in
      let b : places result ≡ before ++ word_places words = ap places is.same ∙ same ∙ sym a in
      subst (Sub (places result)) b (sub_refl (places result));
}

pub placed_bind : {S T : Type 0} {before : List Place} {first : S → List Place} {places : T → List Place} {A : List Word → S → Type 0} {B : S → List Word → T → Type 0} →
    Placed [] first A → ((x : S) → Placed (before ++ first x) places (B x)) → Placed before places (IsSequence A B)
placed_bind {S} {T} {before} {first} {places} front back = record {
  placed = λ words value is.
      let fronts : List Place = word_places is.front in
      let backs : List Place = word_places is.back in
      let a : Sub (first is.first) fronts = front.placed is.front is.first is.is_front in
      let b : Sub (places value) ((before ++ first is.first) ++ backs) = (back is.first).placed is.back value is.is_back in
      let c : Sub (before ++ first is.first) (before ++ fronts) = sub_both before before (first is.first) fronts (sub_refl before) a in
      let d : Sub ((before ++ first is.first) ++ backs) ((before ++ fronts) ++ backs) =
      sub_both (before ++ first is.first) (before ++ fronts) backs backs c (sub_refl backs) in
      let e : Sub (places value) ((before ++ fronts) ++ backs) =
      sub_trans (places value) ((before ++ first is.first) ++ backs) ((before ++ fronts) ++ backs) b d in
      let whole : word_places words ≡ fronts ++ backs = ap word_places is.whole ∙ map-append word_place is.front is.back in
      let same : (before ++ fronts) ++ backs ≡ before ++ word_places words =
      append_assoc before fronts backs ∙ ap (λ (all : List Place). before ++ all) (sym whole) in
      subst (Sub (places value)) same e;
}

-- a word that is no name, whose place does not count, and what follows it
placed_skip : {S T : Type 0} {before : List Place} {places : T → List Place} {Is : Word → S → Type 0} {B : S → List Word → T → Type 0} →
    ((word : Word) (value : S) → Is word value → (word_place word).named ≡ false) → ((x : S) → Placed before places (B x)) → Placed before places (IsSequence (IsWord Is) B)
placed_skip {S} {T} {before} {places} {Is} aside back = record {
  placed = λ words value is.
      let backs : List Place = word_places is.back in
      let at : Place = word_place is.is_front.word in
      let b : Sub (places value) (before ++ backs) = (back is.first).placed is.back value is.is_back in
      let c : Sub (before ++ backs) (before ++ (at ∷ backs)) = sub_both before before backs (at ∷ backs) (sub_refl before) (leave (aside is.is_front.word is.first is.is_front.is) (sub_refl backs)) in
      let d : Sub (places value) (before ++ (at ∷ backs)) = sub_trans (places value) (before ++ backs) (before ++ (at ∷ backs)) b c in
      let whole : words ≡ is.is_front.word ∷ is.back = is.whole ∙ ap (λ (front : List Word). front ++ is.back) is.is_front.whole in
      subst (λ (all : List Word). Sub (places value) (before ++ word_places all)) (sym whole) d;
}

-- a mark, and what follows it
pub placed_mark : {m : Mark} {T : Type 0} {before : List Place} {places : T → List Place} {B : Unit {0} → List Word → T → Type 0} →
    ((x : Unit {0}) → Placed before places (B x)) → Placed before places (IsSequence (IsWord (IsMark m)) B)
placed_mark {m} back = placed_skip (λ word value is. ap (λ (p : Place). p.named) (word_place_is word (kinds.Mark m) is.kind)) back

-- a reserved word, and what follows it
pub placed_key : {k : Key} {T : Type 0} {before : List Place} {places : T → List Place} {B : ℕ → List Word → T → Type 0} →
    ((x : ℕ) → Placed before places (B x)) → Placed before places (IsSequence (IsWord (IsKey k)) B)
placed_key {k} back = placed_skip (λ word value is. ap (λ (p : Place). p.named) (word_place_is word (kinds.Key k) is.kind)) back

pub placed_either : {T : Type 0} {before : List Place} {places : T → List Place} {A B : List Word → T → Type 0} →
    Placed before places A → Placed before places B → Placed before places (Either A B)
placed_either a b = record {
  placed = λ words value is. elim is [ one x ↦ a.placed words value x | other y ↦ b.placed words value y ];
}

pub placed_optional : {T : Type 0} {before : List Place} {places : T → List Place} {absent : T} {A : List Word → T → Type 0} →
    places absent ≡ before → Placed before places A → Placed before places (Either A (IsDone absent))
placed_optional none a = placed_either a (placed_done none)

each_placed : {T : Type 0} (places : T → List Place) (A : List Word → T → Type 0) → Placed [] places A → (words : List Word) (values : List T) → Each A words values →
    Sub (flat_map places values) (word_places words)
each_placed places A item words values Each.none = done
each_placed places A item words values (Each.more {front = front} {back = back} {x = x} {xs = xs} is others whole) =
    let a : Sub (places x) (word_places front) = item.placed front x is in
    let b : Sub (flat_map places xs) (word_places back) = each_placed places A item back xs others in
    let c : Sub (places x ++ flat_map places xs) (word_places front ++ word_places back) =
    sub_both (places x) (word_places front) (flat_map places xs) (word_places back) a b in
    let same : word_places front ++ word_places back ≡ word_places words =
    sym (map-append word_place front back) ∙ ap word_places (sym whole) in
    subst (Sub (places x ++ flat_map places xs)) same c

pub placed_each : {T : Type 0} {places : T → List Place} {A : List Word → T → Type 0} → Placed [] places A → Placed [] (flat_map places) (Each A)
placed_each {T} {places} {A} item = record { placed = λ words values is. each_placed places A item words values is }

pub placed_list : {T : Type 0} {places : T → List Place} {A : List Word → T → Type 0} (separator : Mark) → Placed [] places A →
    Placed [] (flat_map places) (list separator A)
unfolding list
placed_list {T} {places} separator item =
    placed_bind {first = places} item (λ first.
    placed_bind {first = flat_map places} (placed_each (placed_mark (λ nothing. item))) (λ others. placed_done refl))

pub placed_between : {T : Type 0} {places : T → List Place} {A : List Word → T → Type 0} (opening closing : Mark) → Placed [] places A →
    Placed [] places (between opening A closing)
unfolding between
placed_between {T} {places} opening closing inner =
    placed_mark (λ nothing. placed_bind {first = places} inner (λ value. placed_mark (λ nothing. placed_done refl)))

-- the same places, written otherwise
pub placed_same : {T : Type 0} {before : List Place} {places others : T → List Place} {A : List Word → T → Type 0} → ((value : T) → places value ≡ others value) →
    Placed before places A → Placed before others A
placed_same {T} {before} {places} {others} same item = record {
  placed = λ words value is. subst (λ (all : List Place). Sub all (before ++ word_places words)) (same value) (item.placed words value is);
}

-- lists of one place each, one after the other
flat_map_single : {T : Type 0} (place : T → Place) (values : List T) → flat_map (λ (value : T). place value ∷ []) values ≡ map place values
flat_map_single place [] = refl
flat_map_single place (x ∷ xs) = ap (λ (rest : List Place). place x ∷ rest) (flat_map_single place xs)

-- words alone
pub placed_words : {T : Type 0} {A : List Word → T → Type 0} (separator : Mark) (place : T → Place) → Placed [] (λ (value : T). place value ∷ []) A →
    Placed [] (map place) (list separator A)
placed_words separator place item = placed_same (flat_map_single place) (placed_list separator item)
