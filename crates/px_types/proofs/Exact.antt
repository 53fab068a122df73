-- When an outcome is exactly what a relation says, with its broken rule; and how such outcomes are joined.
use Rattle.std.proofs.Common.{◌≡◌, ℕ, Bool, true, false, List, [], ◌∷◌, length, Option, Some, None, Result, Ok, Err, refl, sym, ◌∙◌, ap, subst, Decides, arith}
use Rattle.std.proofs.lemmas.Bool.{false≢true}
use Rattle.std.specs.Result.{MatchResult}
use Rattle.px_types.specs.declared.ends.TypeKind.{TypeKind}
use Rattle.px_types.specs.Faults.{Broken, breaks}
use Rattle.px_types.specs.Outcomes.{onward, needs, there, each, each_two, along}

-- The outcome is Ok exactly with what `Is` holds of, and a broken rule exactly where `Br` holds of it.
pub record Exact {T : Type 0} (o : Result T Broken) (Is : T → Type 0) (Br : Broken → Type 0) : Type 0 where
  pub says : MatchResult o Is Br
  pub ok : (x : T) → Is x → o ≡ Ok x
  pub err : (b : Broken) → Br b → o ≡ Err b

-- What holds of the value at the end of two outcomes.
pub record Both {S T : Type 0} (Is : S → Type 0) (After : S → T → Type 0) (y : T) : Type 0 where
  pub x : S
  pub is : Is x
  pub after : After x y

-- The first broken rule of two outcomes.
pub data Either {S : Type 0} (Is : S → Type 0) (Br : Broken → Type 0) (After : S → Broken → Type 0) (b : Broken) : Type 0 where
  first : Br b → Either Is Br After b
  later : (x : S) → Is x → After x b → Either Is Br After b

pub one_ok : {T : Type 0} (x y : T) → ◌≡◌ {A = Result T Broken} (Ok x) (Ok y) → x ≡ y
one_ok x y e = cc

pub one_err : {T : Type 0} (a b : Broken) → ◌≡◌ {A = Result T Broken} (Err a) (Err b) → a ≡ b
one_err a b e = cc

-- what an outcome that is exact says where it is Ok, and where it is broken
pub is_of : {T : Type 0} {o : Result T Broken} {Is : T → Type 0} {Br : Broken → Type 0} → Exact o Is Br → (x : T) → o ≡ Ok x → Is x
is_of {o} {Is} {Br} exact x e = subst (λ (r : Result _ Broken). MatchResult r Is Br) e exact.says

pub breaks_of : {T : Type 0} {o : Result T Broken} {Is : T → Type 0} {Br : Broken → Type 0} → Exact o Is Br → (b : Broken) → o ≡ Err b → Br b
breaks_of {o} {Is} {Br} exact b e = subst (λ (r : Result _ Broken). MatchResult r Is Br) e exact.says

-- the same outcome, said in other words
pub exact_as : {T : Type 0} {o : Result T Broken} {Is Is' : T → Type 0} {Br Br' : Broken → Type 0} → Exact o Is Br → ((x : T) → Is x → Is' x) → ((x : T) → Is' x → Is x) → ((b : Broken) → Br b → Br' b) → ((b : Broken) → Br' b → Br b) → Exact o Is' Br'
exact_as {T} {o} {Is} {Is'} {Br} {Br'} exact to from br_to br_from = record {
  says = go o exact.says;
  ok = λ x is. exact.ok x (from x is);
  err = λ b br. exact.err b (br_from b br);
}
  where
    go : (r : Result T Broken) → MatchResult r Is Br → MatchResult r Is' Br'
    go (Ok x) h = to x h
    go (Err b) h = br_to b h

-- another outcome that is the same
pub exact_at : {T : Type 0} {o p : Result T Broken} {Is : T → Type 0} {Br : Broken → Type 0} → p ≡ o → Exact o Is Br → Exact p Is Br
exact_at {Is} {Br} e exact = subst (λ (r : Result _ Broken). Exact r Is Br) (sym e) exact

-- nothing but this value
pub exact_ok : {T : Type 0} (x : T) → Exact (Ok x) (λ (y : T). y ≡ x) (λ _. ⊥)
exact_ok x = record { says = refl; ok = λ y e. ap Ok (sym e); err = λ b h. absurd h }

-- nothing, where the test holds
pub exact_needs : {P : Type 0} (test : Bool) (kind : TypeKind) (at : ℕ) → Decides test P → Exact (needs test kind at) (λ _. P) (λ b. (P → ⊥) × (b ≡ breaks kind at))
unfolding needs
exact_needs true kind at d = record {
  says = d.0 refl;
  ok = λ x p. refl;
  err = λ b h. absurd (h.0 (d.0 refl));
}
exact_needs false kind at d = record {
  says = (λ p. absurd (false≢true (d.1 p)), refl);
  ok = λ x p. absurd (false≢true (d.1 p));
  err = λ b h. ap Err (sym h.1);
}

-- the value, where there is one
pub exact_there : {T : Type 0} (o : Option T) (kind : TypeKind) (at : ℕ) → Exact (there o kind at) (λ (x : T). o ≡ Some x) (λ b. (o ≡ None) × (b ≡ breaks kind at))
unfolding there
exact_there (Some y) kind at = record { says = refl; ok = λ x e. cc; err = λ b h. absurd (no_none y h.0) }
  where
    no_none : {T : Type 0} (y : T) → Some y ≡ None → ⊥
    no_none y e = cc
exact_there None kind at = record { says = (refl, refl); ok = λ x e. absurd (no_some x e); err = λ b h. ap Err (sym h.1) }
  where
    no_some : {T : Type 0} (y : T) → None ≡ Some y → ⊥
    no_some y e = cc

-- first the one, and then what follows its value
pub exact_then : {S T : Type 0} {o : Result S Broken} {f : S → Result T Broken} {Is : S → Type 0} {Br : Broken → Type 0} {After : S → T → Type 0} {Breaks : S → Broken → Type 0} → Exact o Is Br → ((x : S) → Is x → Exact (f x) (After x) (Breaks x)) → Exact (onward o f) (Both Is After) (Either Is Br Breaks)
unfolding onward
exact_then {S} {T} {o} {f} {Is} {Br} {After} {Breaks} exact next = record {
  says = go o exact.says;
  ok = λ y both. ap (λ (r : Result S Broken). onward r f) (exact.ok both.x both.is) ∙ (next both.x both.is).ok y both.after;
  err = back;
}
  where
    go : (r : Result S Broken) → MatchResult r Is Br → MatchResult (onward r f) (Both Is After) (Either Is Br Breaks)
    go (Err b) h = first h
    go (Ok x) h = at (f x) (next x h).says
      where
        at : (r : Result T Broken) → MatchResult r (After x) (Breaks x) → MatchResult r (Both Is After) (Either Is Br Breaks)
        at (Ok y) m = record { x = x; is = h; after = m }
        at (Err b) m = later x h m

    back : (b : Broken) → Either Is Br Breaks b → onward o f ≡ Err b
    back b (first br) = ap (λ (r : Result S Broken). onward r f) (exact.err b br)
    back b (later x is br) = ap (λ (r : Result S Broken). onward r f) (exact.ok x is) ∙ (next x is).err b br

-- a fact of each item
abbrev pub Every : {X : Type 0} → (X → Type 0) → List X → Type 0
Every P [] = Unit {0}
Every P (x ∷ xs) = P x × Every P xs

-- what holds of each item and of the value at its place
pub data AllAre {X T : Type 0} (Is : X → T → Type 0) : List X → List T → Type 0 where
  none : AllAre Is [] []
  more : {x : X} {xs : List X} {y : T} {ys : List T} → Is x y → AllAre Is xs ys → AllAre Is (x ∷ xs) (y ∷ ys)

-- the first broken rule of items
pub data OneBreaks {X T : Type 0} (Is : X → T → Type 0) (Br : X → Broken → Type 0) : List X → Broken → Type 0 where
  here : {x : X} {xs : List X} {b : Broken} → Br x b → OneBreaks Is Br (x ∷ xs) b
  behind : {x : X} {xs : List X} {y : T} {b : Broken} → Is x y → OneBreaks Is Br xs b → OneBreaks Is Br (x ∷ xs) b

-- each item's outcome is exact, so what is found of all is
pub exact_each : {X T : Type 0} (found : X → Result T Broken) (Is : X → T → Type 0) (Br : X → Broken → Type 0) (xs : List X) → Every (λ (x : X). Exact (found x) (Is x) (Br x)) xs → Exact (each found xs) (AllAre Is xs) (OneBreaks Is Br xs)
unfolding each
exact_each {X} {T} found Is Br [] all = record { says = none; ok = all_none; err = λ b h. elim h [ ] }
  where
    all_none : (ys : List T) → AllAre Is [] ys → ◌≡◌ {A = Result (List T) Broken} (Ok []) (Ok ys)
    all_none _ none = refl
exact_each {X} {T} found Is Br (x ∷ xs) (one, all) = exact_as (exact_then one (λ y is. exact_then (exact_each found Is Br xs all) (λ ys are. exact_ok (y ∷ ys)))) to from br_to br_from
  where
    to : (zs : List T) → Both (Is x) (λ (y : T). Both (AllAre Is xs) (λ (ys zs : List T). zs ≡ y ∷ ys)) zs → AllAre Is (x ∷ xs) zs
    to zs both = subst (AllAre Is (x ∷ xs)) (sym both.after.after) (more both.is both.after.is)

    from : (zs : List T) → AllAre Is (x ∷ xs) zs → Both (Is x) (λ (y : T). Both (AllAre Is xs) (λ (ys zs : List T). zs ≡ y ∷ ys)) zs
    from _ (more {y = y} {ys = ys} is are) = record { x = y; is = is; after = record { x = ys; is = are; after = refl } }

    br_to : (b : Broken) → Either (Is x) (Br x) (λ (y : T). Either (AllAre Is xs) (OneBreaks Is Br xs) (λ _ _. ⊥)) b → OneBreaks Is Br (x ∷ xs) b
    br_to b (first br) = here br
    br_to b (later y is (first br)) = behind is br
    br_to b (later y is (later ys are none_left)) = absurd none_left

    br_from : (b : Broken) → OneBreaks Is Br (x ∷ xs) b → Either (Is x) (Br x) (λ (y : T). Either (AllAre Is xs) (OneBreaks Is Br xs) (λ _ _. ⊥)) b
    br_from b (here br) = first br
    br_from b (behind {y = y} is br) = later y is (first br)

-- what holds of each item, of the one at its place in the other list, and of the value there
pub data AllTwo {X Y T : Type 0} (Is : X → Y → T → Type 0) : List X → List Y → List T → Type 0 where
  none : AllTwo Is [] [] []
  more : {x : X} {xs : List X} {z : Y} {zs : List Y} {y : T} {ys : List T} → Is x z y → AllTwo Is xs zs ys → AllTwo Is (x ∷ xs) (z ∷ zs) (y ∷ ys)

-- the first broken rule of items with those at their places
pub data OneOfTwo {X Y T : Type 0} (Is : X → Y → T → Type 0) (Br : X → Y → Broken → Type 0) : List X → List Y → Broken → Type 0 where
  here : {x : X} {xs : List X} {z : Y} {zs : List Y} {b : Broken} → Br x z b → OneOfTwo Is Br (x ∷ xs) (z ∷ zs) b
  behind : {x : X} {xs : List X} {z : Y} {zs : List Y} {y : T} {b : Broken} → Is x z y → OneOfTwo Is Br xs zs b → OneOfTwo Is Br (x ∷ xs) (z ∷ zs) b

-- each item's outcome is exact, so what is found of all is, where the lists are equally long
pub exact_each_two : {X Y T : Type 0} (found : X → Y → Result T Broken) (Is : X → Y → T → Type 0) (Br : X → Y → Broken → Type 0) (xs : List X) (zs : List Y) → length xs ≡ length zs → Every (λ (x : X). (z : Y) → Exact (found x z) (Is x z) (Br x z)) xs → Exact (each_two found xs zs) (AllTwo Is xs zs) (OneOfTwo Is Br xs zs)
unfolding each_two
exact_each_two {X} {Y} {T} found Is Br [] [] same all = record { says = none; ok = all_none; err = λ b h. elim h [ ] }
  where
    all_none : (ys : List T) → AllTwo Is [] [] ys → ◌≡◌ {A = Result (List T) Broken} (Ok []) (Ok ys)
    all_none _ none = refl
exact_each_two found Is Br [] (z ∷ zs) same all = absurd (omega arith)
exact_each_two found Is Br (x ∷ xs) [] same all = absurd (omega arith)
exact_each_two {X} {Y} {T} found Is Br (x ∷ xs) (z ∷ zs) same (one, all) = exact_as (exact_then (one z) (λ y is. exact_then (exact_each_two found Is Br xs zs (omega arith) all) (λ ys are. exact_ok (y ∷ ys)))) to from br_to br_from
  where
    to : (ws : List T) → Both (Is x z) (λ (y : T). Both (AllTwo Is xs zs) (λ (ys ws : List T). ws ≡ y ∷ ys)) ws → AllTwo Is (x ∷ xs) (z ∷ zs) ws
    to ws both = subst (AllTwo Is (x ∷ xs) (z ∷ zs)) (sym both.after.after) (more both.is both.after.is)

    from : (ws : List T) → AllTwo Is (x ∷ xs) (z ∷ zs) ws → Both (Is x z) (λ (y : T). Both (AllTwo Is xs zs) (λ (ys ws : List T). ws ≡ y ∷ ys)) ws
    from _ (more {y = y} {ys = ys} is are) = record { x = y; is = is; after = record { x = ys; is = are; after = refl } }

    br_to : (b : Broken) → Either (Is x z) (Br x z) (λ (y : T). Either (AllTwo Is xs zs) (OneOfTwo Is Br xs zs) (λ _ _. ⊥)) b → OneOfTwo Is Br (x ∷ xs) (z ∷ zs) b
    br_to b (first br) = here br
    br_to b (later y is (first br)) = behind is br
    br_to b (later y is (later ys are none_left)) = absurd none_left

    br_from : (b : Broken) → OneOfTwo Is Br (x ∷ xs) (z ∷ zs) b → Either (Is x z) (Br x z) (λ (y : T). Either (AllTwo Is xs zs) (OneOfTwo Is Br xs zs) (λ _ _. ⊥)) b
    br_from b (here br) = first br
    br_from b (behind {y = y} is br) = later y is (first br)

-- the states after each item in turn
pub data Along {S X : Type 0} (Is : S → X → S → Type 0) : S → List X → S → Type 0 where
  none : {s : S} → Along Is s [] s
  more : {s t u : S} {x : X} {xs : List X} → Is s x t → Along Is t xs u → Along Is s (x ∷ xs) u

-- the first item that breaks a rule, at the state before it
pub data AlongBreaks {S X : Type 0} (Is : S → X → S → Type 0) (Br : S → X → Broken → Type 0) : S → List X → Broken → Type 0 where
  here : {s : S} {x : X} {xs : List X} {b : Broken} → Br s x b → AlongBreaks Is Br s (x ∷ xs) b
  behind : {s t : S} {x : X} {xs : List X} {b : Broken} → Is s x t → AlongBreaks Is Br t xs b → AlongBreaks Is Br s (x ∷ xs) b

-- an along and a break of it, by its first item
along_first : {S X : Type 0} {Is : S → X → S → Type 0} {s u : S} {x : X} {xs : List X} → Along Is s (x ∷ xs) u → Both (Is s x) (λ (t : S). Along Is t xs) u
along_first (more {t = t} is rest) = record { x = t; is = is; after = rest }

break_first : {S X : Type 0} {Is : S → X → S → Type 0} {Br : S → X → Broken → Type 0} {s : S} {x : X} {xs : List X} {b : Broken} → AlongBreaks Is Br s (x ∷ xs) b → Either (Is s x) (Br s x) (λ (t : S). AlongBreaks Is Br t xs) b
break_first (here br) = first br
break_first (behind {t = t} is br) = later t is br

first_break : {S X : Type 0} {Is : S → X → S → Type 0} {Br : S → X → Broken → Type 0} {s : S} {x : X} {xs : List X} {b : Broken} → Either (Is s x) (Br s x) (λ (t : S). AlongBreaks Is Br t xs) b → AlongBreaks Is Br s (x ∷ xs) b
first_break (first br) = here br
first_break (later t is br) = behind is br

along_end : {S X : Type 0} {Is : S → X → S → Type 0} {s t : S} → Along Is s [] t → s ≡ t
along_end none = refl

no_break : {S X : Type 0} {Is : S → X → S → Type 0} {Br : S → X → Broken → Type 0} {s : S} {b : Broken} → AlongBreaks Is Br s [] b → ⊥
no_break h = elim h [ ]

pub exact_along : {S X : Type 0} (found : S → X → Result S Broken) (Is : S → X → S → Type 0) (Br : S → X → Broken → Type 0) (xs : List X) → Every (λ (x : X). (s : S) → Exact (found s x) (Is s x) (Br s x)) xs → (s : S) → Exact (along found s xs) (Along Is s xs) (AlongBreaks Is Br s xs)
unfolding along
exact_along found Is Br [] all s = record { says = none; ok = λ t h. ap Ok (along_end h); err = λ b h. absurd (no_break h) }
exact_along {S} {X} found Is Br (x ∷ xs) (one, all) s =
    let rest : (t : S) → Exact (along found t xs) (Along Is t xs) (AlongBreaks Is Br t xs) = exact_along found Is Br xs all in
    exact_as (exact_then (one s) (λ t is. rest t)) (λ u both. more both.is both.after) (λ u h. along_first h) (λ b h. first_break h) (λ b h. break_first h)
