-- Lemmas on lists of named texts.
use Rattle.std.proofs.Common.{◌≡◌, ℕ, suc, zero, ◌+◌, ◌<◌, Bool, true, false, cond, List, [], ◌∷◌, ◌++◌, length, get_or, take, Option, None, Some, refl, sym, ◌∙◌, ap, arith}
use Rattle.std.proofs.Common.{length-append, reverse}
use Rattle.std.proofs.lemmas.List.{reverse-append}
use Rattle.std.specs.List.{find}
use Rattle.std.specs.Option.{option_map, ForSome}
use Rattle.std.proofs.Common.{◌⊎◌, inl, inr, subst, drop, ◌≢◌, length-take}
use Rattle.std.proofs.lemmas.List.{take_more}
use Rattle.std.proofs.lemmas.Slice.Eq.{bytes_eq-Decides}
use Rattle.px_world.specs.declared.memory_files.Place.{Place}
use Rattle.std.specs.Str.{bytes_eq}
use Rattle.px_world.specs.declared.texts.NamedText.{NamedText}
use Rattle.px_world.specs.Texts.{bytes_in, bytes_at, IsNewest}

bytes_of-cond : (found : Bool) (t : NamedText) (others : Option NamedText)
    → option_map (λ u. u.bytes) (cond found (Some t) others) ≡ cond found (Some t.bytes) (option_map (λ u. u.bytes) others)
bytes_of-cond true t others = refl
bytes_of-cond false t others = refl

-- a text that is added last stands in place of the earlier ones of its name
pub bytes_in-push : (texts : List NamedText) (t : NamedText) (name : List ℕ)
    → bytes_in (texts ++ t ∷ []) name ≡ cond (bytes_eq t.name name) (Some t.bytes) (bytes_in texts name)
bytes_in-push texts t name =
    ap (λ all. option_map (λ u. u.bytes) (find (λ u. bytes_eq u.name name) all)) (reverse-append texts (t ∷ []))
    ∙ bytes_of-cond (bytes_eq t.name name) t (find (λ u. bytes_eq u.name name) (reverse texts))

-- it leaves those before it where they are
pub bytes_at-push : (texts : List NamedText) (t : NamedText) (index : ℕ) → index < length texts → bytes_at (texts ++ t ∷ []) index ≡ bytes_at texts index
bytes_at-push [] t index lt = absurd (omega arith)
bytes_at-push (x ∷ xs) t zero lt = refl
bytes_at-push (x ∷ xs) t (suc i) lt = bytes_at-push xs t i (omega arith)

-- and stands after them
pub bytes_at-last : (texts : List NamedText) (t : NamedText) → bytes_at (texts ++ t ∷ []) (length texts) ≡ t.bytes
bytes_at-last [] t = refl
bytes_at-last (x ∷ xs) t = bytes_at-last xs t

-- the text that a read at an index gives
pub bytes_at-read : (texts : List NamedText) (index : ℕ) (t : NamedText) → index < length texts → t ≡ get_or texts index t → bytes_at texts index ≡ t.bytes
bytes_at-read [] index t lt e = absurd (omega arith)
bytes_at-read (x ∷ xs) zero t lt e = ap (λ u. u.bytes) (sym e)
bytes_at-read (x ∷ xs) (suc i) t lt e = bytes_at-read xs i t (omega arith) e

-- the last text is the newest where it has the name
pub IsNewest-here : (texts : List NamedText) (t : NamedText) (name : List ℕ) → bytes_eq t.name name ≡ true → IsNewest (texts ++ t ∷ []) name (Some (length texts))
IsNewest-here texts t name e = (
  omega (arith, length-append texts (t ∷ [])),
  bytes_in-push texts t name ∙ ap (λ b. cond b (Some t.bytes) (bytes_in texts name)) e ∙ ap Some (sym (bytes_at-last texts t)),
)

-- and where it has not, the newest stays so
pub IsNewest-before : (texts : List NamedText) (t : NamedText) (name : List ℕ) (newest : Option ℕ) → bytes_eq t.name name ≡ false
    → IsNewest texts name newest → IsNewest (texts ++ t ∷ []) name newest
IsNewest-before texts t name None e before =
    bytes_in-push texts t name ∙ ap (λ b. cond b (Some t.bytes) (bytes_in texts name)) e ∙ before
IsNewest-before texts t name (Some index) e before = (
  omega (arith, length-append texts (t ∷ [])),
  bytes_in-push texts t name ∙ ap (λ b. cond b (Some t.bytes) (bytes_in texts name)) e ∙ before.1 ∙ ap Some (sym (bytes_at-push texts t index before.0)),
)

-- a loop that has seen the texts before an index sees the next one
pub IsNewest-more : (texts : List NamedText) (index : ℕ) (t : NamedText) (name : List ℕ) (newest after : Option ℕ)
    → index < length texts → t ≡ get_or texts index t → IsNewest (take index texts) name newest
    → ((bytes_eq t.name name ≡ true) × (after ≡ Some index)) ⊎ ((bytes_eq t.name name ≡ false) × (after ≡ newest))
    → IsNewest (take (index + 1) texts) name after
IsNewest-more texts index t name newest after lt e before branch =
    let front : take (index + 1) texts ≡ take index texts ++ t ∷ [] =
    take_more texts index t lt ∙ ap (λ u. take index texts ++ u ∷ []) (sym e) in
    let long : length (take index texts) ≡ index = omega (arith, length-take index texts) in
    let added : IsNewest (take index texts ++ t ∷ []) name after =
    elim branch [
      | inl here ↦ subst (IsNewest (take index texts ++ t ∷ []) name) (sym (here.1 ∙ ap Some (sym long))) (IsNewest-here (take index texts) t name here.0)
      | inr other ↦ subst (IsNewest (take index texts ++ t ∷ []) name) (sym other.1) (IsNewest-before (take index texts) t name newest other.0 before)
    ] in
    subst (λ all. IsNewest all name after) (sym front) added

-- the bytes that a new text gives its name
pub bytes_in-named : (texts all : List NamedText) (t : NamedText) (name bytes : List ℕ) → all ≡ texts ++ t ∷ [] → t.name ≡ name → t.bytes ≡ bytes
    → bytes_in all name ≡ Some bytes
bytes_in-named texts all t name bytes pushed named given =
    ap (λ l. bytes_in l name) pushed ∙ bytes_in-push texts t name
    ∙ ap (λ b. cond b (Some t.bytes) (bytes_in texts name)) ((bytes_eq-Decides t.name name).1 named) ∙ ap Some given

chosen_second : (b : Bool) → (b ≡ true → ⊥) → (x y : Option (List ℕ)) → cond b x y ≡ y
chosen_second true h x y = absurd (h refl)
chosen_second false h x y = refl

-- another name has the bytes that it had
pub bytes_in-others : (texts all : List NamedText) (t : NamedText) (name other : List ℕ) → all ≡ texts ++ t ∷ [] → t.name ≡ name → other ≢ name
    → bytes_in all other ≡ bytes_in texts other
bytes_in-others texts all t name other pushed named differs =
    ap (λ l. bytes_in l other) pushed ∙ bytes_in-push texts t other
    ∙ chosen_second (bytes_eq t.name other) (λ e. differs (sym ((bytes_eq-Decides t.name other).0 e) ∙ named)) (Some t.bytes) (bytes_in texts other)

-- an open text stays where it is
pub left-push : (texts all : List NamedText) (t : NamedText) (opened : Option Place) → all ≡ texts ++ t ∷ [] → ForSome opened (λ place. place.text < length texts)
    → option_map (λ place. drop place.at (bytes_at all place.text)) opened ≡ option_map (λ place. drop place.at (bytes_at texts place.text)) opened
left-push texts all t None pushed placed = refl
left-push texts all t (Some place) pushed placed =
    ap (λ bytes. Some (drop place.at bytes)) (ap (λ l. bytes_at l place.text) pushed ∙ bytes_at-push texts t place.text (placed place refl))
