-- The first broken rule among names: of names that stand one after the other, and what an answer says of it.
use Rattle.std.proofs.Common.{◌≡◌, ℕ, ◌+◌, ◌<◌, ◌≤◌, List, [], ◌∷◌, ◌++◌, length, take, drop, get_or, Option, Some, None, Result, Ok, Err, refl, sym, ap, ◌∙◌, subst, append_assoc}
use Rattle.std.specs.List.{flat_map, fold}
use Rattle.std.specs.Result.{IsErrAnd}
use Rattle.std.proofs.lemmas.List.{take_more, take_all, append-nil, take-append-drop}
use Rattle.std.proofs.lemmas.Grind.{flat_map-append}
use Rattle.std.proofs.lemmas.List.Sums.{fold-append}
use Rattle.px_scope.specs.declared.ends.ScopeKind.{ScopeKind}
use Rattle.px_scope.specs.declared.ends.ScopeEnd.{ScopeEnd}
use Rattle.px_scope.specs.declared.ends.ScopeEnd.TheVariants.{Fault, NoMemory}
use Rattle.px_scope.specs.Uses.{Use, Broken, broken_or, first_broken, along}
use Rattle.px_scope.specs.Answers.{Fails, Fine, Resolves}

broken_stays : (at : ℕ) (fault : Option ScopeKind) (us vs : List Use) (b : Broken) → (first_broken us ≡ Some b → first_broken (us ++ vs) ≡ Some b) → broken_or at fault (first_broken us) ≡ Some b → broken_or at fault (first_broken (us ++ vs)) ≡ Some b
broken_stays at (Some kind) us vs b later e = e
broken_stays at None us vs b later e = later e

-- a broken name is the first one, whatever comes after it
pub front_broken : (us vs : List Use) (b : Broken) → first_broken us ≡ Some b → first_broken (us ++ vs) ≡ Some b
front_broken [] vs b e = cc
front_broken (u ∷ us) vs b e = broken_stays u.at u.fault us vs b (front_broken us vs b) e

fine_stays : (at : ℕ) (fault : Option ScopeKind) (us vs : List Use) → (first_broken us ≡ None → first_broken (us ++ vs) ≡ first_broken vs) → broken_or at fault (first_broken us) ≡ None → broken_or at fault (first_broken (us ++ vs)) ≡ first_broken vs
fine_stays at (Some kind) us vs later e = cc
fine_stays at None us vs later e = later e

-- after names that break no rule, the first broken one is that of the others
pub back_broken : (us vs : List Use) → first_broken us ≡ None → first_broken (us ++ vs) ≡ first_broken vs
back_broken [] vs e = refl
back_broken (u ∷ us) vs e = fine_stays u.at u.fault us vs (back_broken us vs) e

-- names that break no rule, one after the other
pub fine_both : (us vs : List Use) → first_broken us ≡ None → first_broken vs ≡ None → first_broken (us ++ vs) ≡ None
fine_both us vs e f = back_broken us vs e ∙ f

-- a name that breaks no rule, before others
pub fine_first : (at : ℕ) (fault : Option ScopeKind) (us : List Use) → fault ≡ None → first_broken us ≡ None → first_broken (record { at = at; fault = fault } ∷ us) ≡ None
fine_first at fault us e f = rw e f

-- an end that is a fault of what comes first
pub fails_with : (one other : Option Broken) (end : ScopeEnd) → ((b : Broken) → one ≡ Some b → other ≡ Some b) → Fails one end → Fails other end
fails_with one other (Fault kind at) more e = more _ e
fails_with one other NoMemory more e = tt

-- the first names fail
pub fails_front : (us vs : List Use) (end : ScopeEnd) → Fails (first_broken us) end → Fails (first_broken (us ++ vs)) end
fails_front us vs end = fails_with (first_broken us) (first_broken (us ++ vs)) end (front_broken us vs)

-- the names after those that break no rule fail
pub fails_back : (us vs : List Use) (end : ScopeEnd) → first_broken us ≡ None → Fails (first_broken vs) end → Fails (first_broken (us ++ vs)) end
fails_back us vs end fine = fails_with (first_broken vs) (first_broken (us ++ vs)) end (λ b e. back_broken us vs fine ∙ e)

one_broken : (at : ℕ) (fault : Option ScopeKind) (us : List Use) (b : Broken) → broken_or at fault None ≡ Some b → broken_or at fault (first_broken us) ≡ Some b
one_broken at (Some kind) us b e = e
one_broken at None us b e = cc

-- the first name fails
pub fails_first : (at : ℕ) (fault : Option ScopeKind) (us : List Use) (end : ScopeEnd) → Fails (broken_or at fault None) end → Fails (first_broken (record { at = at; fault = fault } ∷ us)) end
fails_first at fault us end = fails_with (broken_or at fault None) (broken_or at fault (first_broken us)) end (one_broken at fault us)

-- the names after one that breaks no rule fail
pub fails_later : (at : ℕ) (fault : Option ScopeKind) (us : List Use) (end : ScopeEnd) → fault ≡ None → Fails (first_broken us) end → Fails (first_broken (record { at = at; fault = fault } ∷ us)) end
fails_later at fault us end fine = fails_with (first_broken us) (broken_or at fault (first_broken us)) end (λ b e. rw fine e)

-- an end that is passed on
pub passed_on : {B : Type 0} (Is : B → Type 0) (uses : List Use) (r : Result B ScopeEnd) (end : ScopeEnd) → IsErrAnd r (λ e. e ≡ end) → Fails (first_broken uses) end → Resolves uses Is r
passed_on Is uses (Ok x) end is fails = absurd is
passed_on Is uses (Err e) end is fails = subst (λ x. Fails (first_broken uses) x) (sym is) fails

-- an answer for these names is one for the same names
pub resolves_as : {B : Type 0} (Is Other : B → Type 0) (uses others : List Use) (r : Result B ScopeEnd) → first_broken uses ≡ first_broken others → ((x : B) → Is x → Other x) → Resolves uses Is r → Resolves others Other r
resolves_as Is Other uses others (Ok x) same more (fine, is) = (sym same ∙ fine, more x is)
resolves_as Is Other uses others (Err e) same more fails = subst (λ b. Fails b e) same fails

nothing_after : (us : List Use) → us ++ [] ≡ us
nothing_after us = rw append-nil refl

module _ {X : Type 0} (f : X → List Use) (xs : List X) (i : ℕ) (x : X) (within : i < length xs) (at : x ≡ get_or xs i x) (fine : first_broken (flat_map f (take i xs)) ≡ None) where
  next_of : flat_map f (take (i + 1) xs) ≡ flat_map f (take i xs) ++ f x
  next_of = ap (flat_map f) (take_more xs i x within ∙ ap (λ y. take i xs ++ y ∷ []) (sym at)) ∙ flat_map-append f (take i xs) (x ∷ []) ∙ ap (λ us. flat_map f (take i xs) ++ us) (nothing_after (f x))

  -- one part more breaks no rule
  pub each_next : first_broken (f x) ≡ None → first_broken (flat_map f (take (i + 1) xs)) ≡ None
  each_next next = ap first_broken next_of ∙ fine_both (flat_map f (take i xs)) (f x) fine next

  -- the next part fails, and so do all
  pub each_fails : (end : ScopeEnd) → Fails (first_broken (f x)) end → Fails (first_broken (flat_map f xs)) end
  each_fails end fails =
      let split : flat_map f xs ≡ flat_map f (take (i + 1) xs) ++ flat_map f (drop (i + 1) xs) = ap (flat_map f) (sym (take-append-drop (i + 1) xs)) ∙ flat_map-append f (take (i + 1) xs) (drop (i + 1) xs) in
      rw (split, next_of) (fails_front (flat_map f (take i xs) ++ f x) (flat_map f (drop (i + 1) xs)) end (fails_back (flat_map f (take i xs)) (f x) end fine fails))

-- all parts were seen
pub each_seen : {X : Type 0} (f : X → List Use) (xs : List X) (i : ℕ) → length xs ≤ i → first_broken (flat_map f (take i xs)) ≡ None → first_broken (flat_map f xs) ≡ None
each_seen f xs i ends fine = ap (λ ys. first_broken (flat_map f ys)) (sym (take_all i xs ends)) ∙ fine

module _ {S X : Type 0} (next : S → X → S) (uses : S → X → List Use) where
  -- the names of parts, and then those of the parts after them
  pub along-append : (s : S) (xs ys : List X) → along next uses s (xs ++ ys) ≡ along next uses s xs ++ along next uses (fold next s xs) ys
  along-append s [] ys = refl
  along-append s (x ∷ xs) ys = ap (λ us. uses s x ++ us) (along-append (next s x) xs ys) ∙ sym (append_assoc (uses s x) (along next uses (next s x) xs) (along next uses (fold next (next s x) xs) ys))

  module _ (s : S) (xs : List X) (i : ℕ) (x : X) (within : i < length xs) (at : x ≡ get_or xs i x) where
    more_taken : take (i + 1) xs ≡ take i xs ++ x ∷ []
    more_taken = take_more xs i x within ∙ ap (λ y. take i xs ++ y ∷ []) (sym at)

    -- what is known after one part more
    pub fold_next : fold next s (take (i + 1) xs) ≡ next (fold next s (take i xs)) x
    fold_next = ap (fold next s) more_taken ∙ fold-append next s (take i xs) (x ∷ [])

    next_along : along next uses s (take (i + 1) xs) ≡ along next uses s (take i xs) ++ uses (fold next s (take i xs)) x
    next_along = ap (along next uses s) more_taken ∙ along-append s (take i xs) (x ∷ []) ∙ ap (λ us. along next uses s (take i xs) ++ us) (nothing_after (uses (fold next s (take i xs)) x))

    -- one part more breaks no rule
    pub along_next : first_broken (along next uses s (take i xs)) ≡ None → first_broken (uses (fold next s (take i xs)) x) ≡ None → first_broken (along next uses s (take (i + 1) xs)) ≡ None
    along_next fine here = ap first_broken next_along ∙ fine_both (along next uses s (take i xs)) (uses (fold next s (take i xs)) x) fine here

    -- the next part fails, and so do all
    pub along_fails : first_broken (along next uses s (take i xs)) ≡ None → (end : ScopeEnd) → Fails (first_broken (uses (fold next s (take i xs)) x)) end → Fails (first_broken (along next uses s xs)) end
    along_fails fine end fails =
        let split : along next uses s xs ≡ along next uses s (take (i + 1) xs) ++ along next uses (fold next s (take (i + 1) xs)) (drop (i + 1) xs) = ap (along next uses s) (sym (take-append-drop (i + 1) xs)) ∙ along-append s (take (i + 1) xs) (drop (i + 1) xs) in
        rw (split, next_along) (fails_front (along next uses s (take i xs) ++ uses (fold next s (take i xs)) x) (along next uses (fold next s (take (i + 1) xs)) (drop (i + 1) xs)) end (fails_back (along next uses s (take i xs)) (uses (fold next s (take i xs)) x) end fine fails))

  -- all parts were seen
  pub along_seen : (s : S) (xs : List X) (i : ℕ) → length xs ≤ i → first_broken (along next uses s (take i xs)) ≡ None → first_broken (along next uses s xs) ≡ None
  along_seen s xs i ends fine = ap (λ ys. first_broken (along next uses s ys)) (sym (take_all i xs ends)) ∙ fine

  -- what is known after all parts
  pub fold_seen : (s : S) (xs : List X) (i : ℕ) → length xs ≤ i → fold next s (take i xs) ≡ fold next s xs
  fold_seen s xs i ends = ap (fold next s) (take_all i xs ends)

-- A loop over parts, each of which is resolved by itself: what is one part more, and how the list of results grows.
module _ {X Y : Type 0} (f : X → List Use) (One : X → Y → Type 0) (Each : List X → List Y → Type 0) (push : (xs : List X) (ys : List Y) (x : X) (y : Y) → Each xs ys → One x y → Each (xs ++ x ∷ []) (ys ++ y ∷ [])) (xs : List X) (i : ℕ) where
  -- one part more was resolved
  pub loop_next : (x : X) (ys out : List Y) (y : Y) → i < length xs → x ≡ get_or xs i x → Fine (flat_map f (take i xs)) (Each (take i xs)) ys → Fine (f x) (One x) y → out ≡ ys ++ y ∷ [] → Fine (flat_map f (take (i + 1) xs)) (Each (take (i + 1) xs)) out
  loop_next x ys out y within at (fine, are) (here, is) e =
      let more : take (i + 1) xs ≡ take i xs ++ x ∷ [] = take_more xs i x within ∙ ap (λ z. take i xs ++ z ∷ []) (sym at) in
      (each_next f xs i x within at fine here, rw (more, e) (push (take i xs) ys x y are is))

  -- all parts were resolved
  pub loop_all : (ys : List Y) → length xs ≤ i → Fine (flat_map f (take i xs)) (Each (take i xs)) ys → Fine (flat_map f xs) (Each xs) ys
  loop_all ys ends (fine, are) = (each_seen f xs i ends fine, subst (λ zs. Each zs ys) (take_all i xs ends) are)

  -- the next part fails, and so do all
  pub loop_fails : {Z : Type 0} (Is : Z → Type 0) (x : X) (ys : List Y) (r : Result Z ScopeEnd) (end : ScopeEnd) → i < length xs → x ≡ get_or xs i x → Fine (flat_map f (take i xs)) (Each (take i xs)) ys → IsErrAnd r (λ e. e ≡ end) → Fails (first_broken (f x)) end → Resolves (flat_map f xs) Is r
  loop_fails Is x ys r end within at (fine, are) is fails = passed_on Is (flat_map f xs) r end is (each_fails f xs i x within at fine end fails)
