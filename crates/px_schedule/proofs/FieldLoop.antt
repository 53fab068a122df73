-- The fields of a constructor are wanted: the loop over their types, the last one first.
use Rattle.std.proofs.Common.{◌≡◌, ℕ, Bool, true, false, List, [], ◌∷◌, ◌++◌, reverse, IsTrue, ◌↔◌, refl, sym, ap, ◌∙◌}
use Rattle.std.proofs.lemmas.List.{append_assoc, append-nil, reverse-append}
use Rattle.px_terms.specs.declared.types.Ty.{Ty}
use Rattle.px_schedule.specs.declared.wanted.Wanted.{Wanted}
use Rattle.px_schedule.specs.declared.wanted.Wanted.TheVariants as wanted
use Rattle.px_schedule.specs.Wanting.{mark_before, closed_wants, field_wants}

-- what is wanted of the fields that were turned, where these are left
abbrev pub wants_behind : List Ty → List Ty → List Wanted
wants_behind [] turned = field_wants turned
wants_behind (T ∷ types) turned = closed_wants turned

-- These are left of all types, and the others are wanted in front of the rest.
pub record AreTurned (all types : List Ty) (ws rest : List Wanted) : Type 0 where
  pub turned : List Ty
  pub split : all ≡ types ++ turned
  pub are : ws ≡ wants_behind types turned ++ rest

pub first_turned : (all : List Ty) (old now : List Wanted) → (all ≡ [] → ⊥) → now ≡ old ++ wanted.Mark 41 ∷ [] → AreTurned all all (reverse now) (reverse old)
first_turned [] old now some e = absurd (some refl)
first_turned (T ∷ all) old now some e = record { turned = []; split = sym (append-nil (T ∷ all)); are = ap reverse e ∙ reverse-append old (wanted.Mark 41 ∷ []) }

some_left : (popped : List Ty) (T : Ty) (turned : List Ty) → wants_behind (popped ++ T ∷ []) turned ≡ closed_wants turned
some_left [] T turned = refl
some_left (S ∷ popped) T turned = refl

one_more : (popped : List Ty) (T : Ty) (turned : List Ty) (is_first : Bool) → (IsTrue is_first ↔ (popped ≡ [])) → wanted.Mark (mark_before is_first) ∷ wanted.Value T ∷ closed_wants turned ≡ wants_behind popped (T ∷ turned)
one_more [] T turned is_first told = ap (λ (b : Bool). wanted.Mark (mark_before b) ∷ wanted.Value T ∷ closed_wants turned) (told.1 refl)
one_more (S ∷ popped) T turned true told = let e : S ∷ popped ≡ [] = told.0 refl in absurd cc
one_more (S ∷ popped) T turned false told = refl

pub next_turned : (all types popped : List Ty) (T : Ty) (old one two rest : List Wanted) (is_first : Bool) (c : ℕ) → types ≡ popped ++ T ∷ [] → one ≡ old ++ wanted.Value T ∷ [] → two ≡ one ++ wanted.Mark c ∷ [] → c ≡ mark_before is_first → (IsTrue is_first ↔ (popped ≡ [])) →
    AreTurned all types (reverse old) rest → AreTurned all popped (reverse two) rest
next_turned all types popped T old one two rest is_first c types_are one_is two_is mark_is told a =
    let two_turned : reverse two ≡ wanted.Mark c ∷ reverse one = ap (λ (ws : List Wanted). reverse ws) two_is ∙ reverse-append one (wanted.Mark c ∷ []) in
    let one_turned : reverse one ≡ wanted.Value T ∷ reverse old = ap (λ (ws : List Wanted). reverse ws) one_is ∙ reverse-append old (wanted.Value T ∷ []) in
    let before : reverse old ≡ closed_wants a.turned ++ rest = a.are ∙ ap (λ (ts : List Ty). wants_behind ts a.turned ++ rest) types_are ∙ ap (λ (ws : List Wanted). ws ++ rest) (some_left popped T a.turned) in
    record {
      turned = T ∷ a.turned;
      split = a.split ∙ ap (λ (ts : List Ty). ts ++ a.turned) types_are ∙ append_assoc popped (T ∷ []) a.turned;
      are = two_turned
          ∙ ap (λ (ws : List Wanted). wanted.Mark c ∷ ws) (one_turned ∙ ap (λ (ws : List Wanted). wanted.Value T ∷ ws) before)
          ∙ ap (λ (n : ℕ). wanted.Mark n ∷ wanted.Value T ∷ (closed_wants a.turned ++ rest)) mark_is
          ∙ ap (λ (ws : List Wanted). ws ++ rest) (one_more popped T a.turned is_first told);
    }

pub all_turned : (all types : List Ty) (ws rest : List Wanted) → types ≡ [] → AreTurned all types ws rest → ws ≡ field_wants all ++ rest
all_turned all types ws rest none a =
    let all_is : all ≡ a.turned = a.split ∙ ap (λ (ts : List Ty). ts ++ a.turned) none in
    a.are ∙ ap (λ (ts : List Ty). wants_behind ts a.turned ++ rest) none ∙ ap (λ (ts : List Ty). field_wants ts ++ rest) (sym all_is)
