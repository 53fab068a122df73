-- The names of a text's program rise, so its fault is at the first place where a name breaks a rule; and up to there each name is
-- in the list.
use Rattle.std.proofs.Common.{◌≡◌, ℕ, zero, suc, ◌<◌, ◌≤◌, true, List, [], ◌∷◌, map, length, get_or, Option, Some, None, refl, sym, ap, subst, ◌∙◌, arith}
use Rattle.std.specs.Option.{is_some}
use Rattle.std.specs.List.{All, AllPairs, Contains}
use Rattle.std.proofs.lemmas.List.{length-map, get_or-map}
use Rattle.std.proofs.lemmas.List.Elements.{All-nil, All-cons, All-head, All-tail, All-contains}
use Rattle.std.proofs.lemmas.List.Kept.{AllPairs-cons}
use Rattle.px_lexer.specs.declared.token.Token.{Token}
use Rattle.px_lexer.specs.Tokens.{AreTokens}
use Rattle.px_parser.specs.declared.surface.Surface.{Surface}
use Rattle.px_parser.specs.Faults.{IsProgramOf}
use Rattle.px_parser.specs.Words.{word_of, words_of}
use Rattle.px_scope.specs.declared.ends.ScopeKind.{ScopeKind}
use Rattle.px_scope.specs.Uses.{Use, Broken, broken_or, first_broken}
use Rattle.px_scope.specs.ItemUses.{text_uses}
use Rattle.px_scope.specs.Laws.{NamesRise, FaultIsFirst, IsUpTo, IsListed, EachNameIsListed}
use Rattle.px_scope.proofs.Sublists.{Place, Precedes, sub_rises, sub_keeps, all_pairs_head, all_pairs_tail, contains_first, contains_later}
use Rattle.px_scope.proofs.Places.{surface_places}
use Rattle.px_scope.proofs.Placed.{word_place}
use Rattle.px_scope.proofs.TreesPlaced.{placed_program}
use Rattle.px_scope.proofs.TokensRise.{words_rise}
use Rattle.px_scope.proofs.ExpressionsPlaced.{Within, ends, stands, passes, Placed, nowhere, at_first, past, at_fault, placed_within}
use Rattle.px_scope.proofs.UsesPlaced.{uses_placed}

-- the one name stands before the other
abbrev Before : Use → Use → Type 0
Before u v = u.at < v.at

-- where all places follow one, so do the names at them
within_follow : (at : ℕ) (us : List Use) (places : List Place) → Within us places → All (λ (p : Place). at < p.at) places → All (λ (u : Use). at < u.at) us
within_follow at _ _ ends all = All-nil (λ (u : Use). at < u.at)
within_follow at _ _ (stands {u = u} {us = us} {place = place} {places = places} same rest) all =
    let here : at < place.at = All-head (λ (p : Place). at < p.at) place places all in
    All-cons (λ (u : Use). at < u.at) u us (omega (arith, same, here)) (within_follow at us places rest (All-tail (λ (p : Place). at < p.at) place places all))
within_follow at _ _ (passes {us = us} {place = place} {places = places} rest) all =
    within_follow at us places rest (All-tail (λ (p : Place). at < p.at) place places all)

-- names rise where their places do
within_rise : (us : List Use) (places : List Place) → Within us places → AllPairs Precedes places → AllPairs Before us
within_rise _ _ ends rises = λ i j d below inside. absurd (omega (arith, below, inside))
within_rise _ _ (stands {u = u} {us = us} {place = place} {places = places} same rest) rises =
    let after : All (λ (v : Use). place.at < v.at) us = within_follow place.at us places rest (all_pairs_head Precedes place places rises) in
    let behind : All (Before u) us = subst (λ (at : ℕ). All (λ (v : Use). at < v.at) us) (sym same) after in
    AllPairs-cons Before u us behind (within_rise us places rest (all_pairs_tail Precedes place places rises))
within_rise _ _ (passes {us = us} {place = place} {places = places} rest) rises = within_rise us places rest (all_pairs_tail Precedes place places rises)

-- where the first name breaks a rule, the fault is there
broken_here : (at : ℕ) (own : Option ScopeKind) (rest : Option Broken) (fault : Broken) (kind : ScopeKind) → own ≡ Some kind → broken_or at own rest ≡ Some fault → fault.at ≡ at
broken_here at (Some other) rest fault kind breaks e = cc
broken_here at None rest fault kind breaks e = cc

-- where the fault of later names stands before a place, so does that of all
broken_later : (at : ℕ) (own : Option ScopeKind) (rest : Option Broken) (fault : Broken) (n : ℕ) → at < n → (rest ≡ Some fault → fault.at ≤ n) → broken_or at own rest ≡ Some fault → fault.at ≤ n
broken_later at (Some other) rest fault n before later e = let here : fault.at ≡ at = broken_here at (Some other) rest fault other refl e in omega (arith, here, before)
broken_later at None rest fault n before later e = later e

-- of names that rise, the first that breaks a rule stands before all others that do
first_is_least : (us : List Use) (fault : Broken) (d u : Use) (kind : ScopeKind) (k : ℕ) → AllPairs Before us → first_broken us ≡ Some fault → k < length us → get_or us k d ≡ u → u.fault ≡ Some kind → fault.at ≤ u.at
first_is_least [] fault d u kind k rise first within is breaks = absurd (omega arith)
first_is_least (v ∷ vs) fault d u kind zero rise first within is breaks =
    let same : v.at ≡ u.at = ap (λ (w : Use). w.at) is in
    let here : fault.at ≡ v.at = broken_here v.at v.fault (first_broken vs) fault kind (ap (λ (w : Use). w.fault) is ∙ breaks) first in
    omega (arith, same, here)
first_is_least (v ∷ vs) fault d u kind (suc k) rise first within is breaks =
    let before : v.at < (get_or vs k d).at = rise zero (suc k) d (omega arith) within in
    let same : (get_or vs k d).at ≡ u.at = ap (λ (w : Use). w.at) is in
    broken_later v.at v.fault (first_broken vs) fault u.at (omega (arith, before, same))
    (λ later. first_is_least vs fault d u kind k (λ i j e below inside. rise (suc i) (suc j) e (omega arith) (omega arith)) later (omega arith) is breaks) first

-- the places of a text's names rise
places_rise : (text : List ℕ) (tokens : List Token) (surface : Surface) → AreTokens text tokens → IsProgramOf text tokens surface →
    AllPairs Precedes (surface_places surface)
places_rise text tokens surface are_tokens is_tree =
    sub_rises (surface_places surface) (map word_place (words_of text tokens)) (placed_program (words_of text tokens) surface is_tree) (words_rise text tokens are_tokens)

pub names_rise : NamesRise
names_rise text tokens surface are_tokens is_tree =
    within_rise (text_uses surface.items) (surface_places surface) (placed_within (uses_placed surface.items))
    (places_rise text tokens surface are_tokens is_tree)

pub fault_is_first : FaultIsFirst
fault_is_first text tokens surface fault are_tokens is_tree is_fault u kind (k, within, is) breaks =
    first_is_least (text_uses surface.items) fault u u kind k (names_rise text tokens surface are_tokens is_tree) is_fault.first within is breaks

-- behind a name that breaks a rule there is no place up to the fault
none_behind : (at : ℕ) (own : Option ScopeKind) (rest : Option Broken) (p : ℕ) → is_some own ≡ true → at < p → IsUpTo p (broken_or at own rest) → ⊥
none_behind at (Some kind) rest p breaks before up_to = omega (arith, before, up_to)
none_behind at None rest p breaks before up_to = cc

-- a place behind a name that is up to the fault is up to that of the names behind it
up_to_later : (at : ℕ) (own : Option ScopeKind) (rest : Option Broken) (p : ℕ) → at < p → IsUpTo p (broken_or at own rest) → IsUpTo p rest
up_to_later at (Some kind) rest p before up_to = absurd (omega (arith, before, up_to))
up_to_later at None rest p before up_to = up_to

-- a name that is in a list is in the list of one more
listed_later : (u : Use) (us : List Use) (at : ℕ) → IsListed at us → IsListed at (u ∷ us)
listed_later u us at (v, has, is) = (v, contains_later u us v has, is)

-- of places that rise, each of a name up to the fault has its name
listed : (us : List Use) (places : List Place) → Placed us places → AllPairs Precedes places → (p : Place) → p.named ≡ true →
    IsUpTo p.at (first_broken us) → Contains places p → IsListed p.at us
listed _ _ nowhere rises p named up_to (k, inside, is) = absurd (omega (arith, inside))
listed _ _ (at_first {u = u} {us = us} {place = place} {places = places} same rest) rises p named up_to (zero, inside, is) =
    (u, contains_first u us u refl, same ∙ ap (λ (q : Place). q.at) is)
listed _ _ (at_first {u = u} {us = us} {place = place} {places = places} same rest) rises p named up_to (suc k, inside, is) =
    let has : Contains places p = (k, omega (arith, inside), is) in
    let before : place.at < p.at = All-contains (Precedes place) places p (all_pairs_head Precedes place places rises) has in
    listed_later u us p.at (listed us places rest (all_pairs_tail Precedes place places rises) p named (up_to_later u.at u.fault (first_broken us) p.at (omega (arith, same, before)) up_to) has)
listed _ _ (past {us = us} {place = place} {places = places} other rest) rises p named up_to (zero, inside, is) =
    let same : place.named ≡ p.named = ap (λ (q : Place). q.named) is in
    cc
listed _ _ (past {us = us} {place = place} {places = places} other rest) rises p named up_to (suc k, inside, is) =
    listed us places rest (all_pairs_tail Precedes place places rises) p named up_to (k, omega (arith, inside), is)
listed _ _ (at_fault {u = u} {us = us} {place = place} {places = places} same breaks rest) rises p named up_to (zero, inside, is) =
    (u, contains_first u us u refl, same ∙ ap (λ (q : Place). q.at) is)
listed _ _ (at_fault {u = u} {us = us} {place = place} {places = places} same breaks rest) rises p named up_to (suc k, inside, is) =
    let has : Contains places p = (k, omega (arith, inside), is) in
    let before : place.at < p.at = All-contains (Precedes place) places p (all_pairs_head Precedes place places rises) has in
    absurd (none_behind u.at u.fault (first_broken us) p.at breaks (omega (arith, same, before)) up_to)

-- what is mapped to is in the list that is mapped to
contains_map : {X Y : Type 0} (f : X → Y) (xs : List X) (x : X) → Contains xs x → Contains (map f xs) (f x)
contains_map f xs x (k, inside, is) = (k, omega (arith, inside, length-map xs f), get_or-map f xs k x (f x) inside ∙ ap f is)

pub each_name_is_listed : EachNameIsListed
each_name_is_listed text tokens surface are_tokens is_tree t has is_name up_to =
    let words = words_of text tokens in
    let place : Place = word_place (word_of text t) in
    let in_words : Contains (map word_place words) place = contains_map word_place words (word_of text t) (contains_map (word_of text) tokens t has) in
    let in_tree : Contains (surface_places surface) place =
    sub_keeps (surface_places surface) (map word_place words) (placed_program words surface is_tree) place is_name in_words in
    listed (text_uses surface.items) (surface_places surface) (uses_placed surface.items) (places_rise text tokens surface are_tokens is_tree) place is_name up_to in_tree
