-- One written property more sets the entry of that property.
use Rattle.std.proofs.Common.{◌≡◌, ◌==◌, ◌||◌, ◌+◌, ◌<◌, ℕ, length, take, get_or, add-one, Bool, true, false, List, [], ◌∷◌, ◌++◌, map, slice_set, refl, sym, ap, ◌∙◌, subst}
use Rattle.std.specs.List.{list_any}
use Rattle.std.proofs.Math.Seq.{take-suc}
use Rattle.std.proofs.lemmas.List.{map-append}
use Rattle.std.proofs.lemmas.List.Folds.{list_any-append}
use Rattle.px_terms.specs.Prop.{Prop}
use Rattle.px_terms.specs.Prop.TheVariants.{Comm, Assoc, Idem, Sel, Refl, Irrefl, Sym, Antisym, Asym, Trans, Conn}
use Rattle.px_terms.specs.PropSet.{PropSet}
use Rattle.px_terms.specs.RawProp.{RawProp}
use Rattle.px_terms.specs.PropSets.{prop_number, all_props, set_of}

-- whether the property is one of these
abbrev IsAmong : List Prop → Prop → Bool
IsAmong props q = list_any (λ (p : Prop). prop_number p == prop_number q) props

last_first : (a b : Bool) → (a || (b || false)) ≡ (b || a)
last_first true true = refl
last_first true false = refl
last_first false true = refl
last_first false false = refl

among-last : (props : List Prop) (p q : Prop) → IsAmong (props ++ p ∷ []) q ≡ ((prop_number p == prop_number q) || IsAmong props q)
among-last props p q =
    list_any-append (λ (r : Prop). prop_number r == prop_number q) props (p ∷ []) ∙ last_first (IsAmong props q) (prop_number p == prop_number q)

-- the entries with those of one property more
set_one : (f : Prop → Bool) (p : Prop) → map (λ (q : Prop). (prop_number p == prop_number q) || f q) all_props ≡ slice_set (map f all_props) (prop_number p) true
set_one f Comm = refl
set_one f Assoc = refl
set_one f Idem = refl
set_one f Sel = refl
set_one f Refl = refl
set_one f Irrefl = refl
set_one f Sym = refl
set_one f Antisym = refl
set_one f Asym = refl
set_one f Trans = refl
set_one f Conn = refl

set_of-last : (props : List Prop) (p : Prop) (old new : PropSet) → old ≡ set_of props → new.has ≡ slice_set old.has (prop_number p) true → new ≡ set_of (props ++ p ∷ [])
set_of-last props p old new old_is new_is =
    let before : new.has ≡ slice_set (map (IsAmong props) all_props) (prop_number p) true = new_is ∙ ap (λ (s : PropSet). slice_set s.has (prop_number p) true) old_is in
    let after : (set_of (props ++ p ∷ [])).has ≡ slice_set (map (IsAmong props) all_props) (prop_number p) true = (λ i. map (λ (q : Prop). among-last props p q i) all_props) ∙ set_one (IsAmong props) p in
    let entries = before ∙ sym after in
    λ i. record { has = entries i }

-- the properties that are written
abbrev props_of : List RawProp → List Prop
props_of = map (λ (raw : RawProp). raw.prop)

one_longer : (props : List RawProp) (i : ℕ) (d : RawProp) → i < length props → props_of (take (i + 1) props) ≡ props_of (take i props) ++ (get_or props i d).prop ∷ []
one_longer props i d within =
    let longer : take (i + 1) props ≡ take i props ++ get_or props i d ∷ [] = rw add-one (take-suc props i d within) in
    ap props_of longer ∙ map-append (λ (raw : RawProp). raw.prop) (take i props) (get_or props i d ∷ [])

-- the same of the next written property of a list
pub set_of-next : (props : List RawProp) (i : ℕ) (d : RawProp) (old new : PropSet) → i < length props → old ≡ set_of (props_of (take i props)) → new.has ≡ slice_set old.has (prop_number (get_or props i d).prop) true → new ≡ set_of (props_of (take (i + 1) props))
set_of-next props i d old new within old_is new_is =
    subst (λ (ps : List Prop). new ≡ set_of ps) (sym (one_longer props i d within)) (set_of-last (props_of (take i props)) (get_or props i d).prop old new old_is new_is)
