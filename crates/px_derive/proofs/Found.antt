-- What joined readers find, taken apart and put together.
use Rattle.std.proofs.Common.{◌≡◌, ℕ, ◌⊎◌, Bool, true, false, cond, List, ◌++◌, Option, Some, None, refl, ap, ◌∙◌, inl, inr}
use Rattle.std.specs.Option.{option_and_then}
use Rattle.px_derive.specs.Readers.{pure, nothing, lift, bind, past, skip, from_there, after, choice}
use Rattle.px_derive.proofs.Fronts.{past_sound, past_whole}

-- what one result is twice
pub record Equal {A : Type 0} (a b : A) (r s : List ℕ) : Type 0 where
  pub value : a ≡ b
  pub rest : r ≡ s

-- a value and the bytes after it
abbrev pub read : {A : Type 0} → A → List ℕ → Option (A × List ℕ)
read value rest = Some (value, rest)

pub one_read : {A : Type 0} (a b : A) (r s : List ℕ) → read a r ≡ read b s → Equal a b r s
one_read {A} a b r s e = let q : (a, r) ≡ (b, s) = cc in record { value = ap (λ (z : A × List ℕ). z.0) q; rest = ap (λ (z : A × List ℕ). z.1) q }

-- a chain of results that finds something
pub record Both {A B : Type 0} (o : Option A) (f : A → Option B) (y : B) : Type 0 where
  pub value : A
  pub first : o ≡ Some value
  pub second : f value ≡ Some y

pub and_then_some : {A B : Type 0} (o : Option A) (f : A → Option B) (y : B) → option_and_then f o ≡ Some y → Both o f y
and_then_some (Some x) f y e = record { value = x; first = refl; second = e }
and_then_some None f y e = absurd cc

pub and_then_same : {A B : Type 0} (o : Option A) (f g : A → Option B) → ((x : A) → o ≡ Some x → f x ≡ g x) → option_and_then f o ≡ option_and_then g o
and_then_same (Some x) f g same = same x refl
and_then_same None f g same = refl

pub decided : (b : Bool) → (b ≡ true) ⊎ (b ≡ false)
decided true = inl refl
decided false = inr refl

pub pure_found : {T : Type 0} (value x : T) (text rest : List ℕ) → pure value text ≡ Some (x, rest) → Equal value x text rest
unfolding pure
pure_found value x text rest e = one_read value x text rest e

pub nothing_found : {T : Type 0} (x : T) (text rest : List ℕ) → nothing {T = T} text ≡ Some (x, rest) → ⊥
unfolding nothing
nothing_found x text rest e = cc

-- There is a value, and no byte was read.
pub record Lifted {T : Type 0} (o : Option T) (x : T) (text rest : List ℕ) : Type 0 where
  pub some : o ≡ Some x
  pub rest_is : text ≡ rest

pub lift_found : {T : Type 0} (o : Option T) (x : T) (text rest : List ℕ) → lift o text ≡ Some (x, rest) → Lifted o x text rest
unfolding lift
lift_found (Some y) x text rest e = let q : Equal y x text rest = one_read y x text rest e in record { some = ap (λ v. Some v) q.value; rest_is = q.rest }
lift_found None x text rest e = absurd cc

pub lift_some : {T : Type 0} (o : Option T) (x : T) (text : List ℕ) → o ≡ Some x → lift o text ≡ Some (x, text)
unfolding lift
lift_some o x text e = rw e refl

-- First the one found a value, and then the other.
pub record Then {S T : Type 0} (p : List ℕ → Option (S × List ℕ)) (k : S → List ℕ → Option (T × List ℕ)) (text : List ℕ) (y : T) (rest : List ℕ) : Type 0 where
  pub value : S
  pub middle : List ℕ
  pub first : p text ≡ Some (value, middle)
  pub second : k value middle ≡ Some (y, rest)

pub bind_found : {S T : Type 0} (p : List ℕ → Option (S × List ℕ)) (k : S → List ℕ → Option (T × List ℕ)) (text : List ℕ) (y : T) (rest : List ℕ) → bind p k text ≡ Some (y, rest) → Then p k text y rest
unfolding bind
bind_found {S} {T} p k text y rest e =
    let b : Both (p text) (λ (x : S × List ℕ). k x.0 x.1) (y, rest) = and_then_some (p text) (λ (x : S × List ℕ). k x.0 x.1) (y, rest) e in
    record { value = b.value.0; middle = b.value.1; first = b.first; second = b.second }

pub bind_goes : {S T : Type 0} (p : List ℕ → Option (S × List ℕ)) (k : S → List ℕ → Option (T × List ℕ)) (text : List ℕ) (x : S) (middle : List ℕ) → p text ≡ Some (x, middle) → bind p k text ≡ k x middle
unfolding bind
bind_goes p k text x middle e = rw e refl

-- The word stood there, and the reader went on after it.
pub record There {T : Type 0} (word : List ℕ) (p : List ℕ → Option (T × List ℕ)) (text : List ℕ) (x : T) (rest : List ℕ) : Type 0 where
  pub behind : List ℕ
  pub whole : text ≡ word ++ behind
  pub found : p behind ≡ Some (x, rest)

there_or : {T : Type 0} (word : List ℕ) (p q : List ℕ → Option (T × List ℕ)) (text : List ℕ) (x : T) (rest : List ℕ) (o : Option (List ℕ)) → past word text ≡ o → from_there p o (q text) ≡ Some (x, rest) → There word p text x rest ⊎ (q text ≡ Some (x, rest))
there_or word p q text x rest (Some behind) same e = inl (record { behind = behind; whole = past_sound word text behind same; found = e })
there_or word p q text x rest None same e = inr e

pub after_found : {T : Type 0} (word : List ℕ) (p q : List ℕ → Option (T × List ℕ)) (text : List ℕ) (x : T) (rest : List ℕ) → after word p q text ≡ Some (x, rest) → There word p text x rest ⊎ (q text ≡ Some (x, rest))
unfolding after
after_found word p q text x rest e = there_or word p q text x rest (past word text) refl e

pub after_there : {T : Type 0} (word : List ℕ) (p q : List ℕ → Option (T × List ℕ)) (behind : List ℕ) → after word p q (word ++ behind) ≡ p behind
unfolding after
after_there word p q behind = rw (past_whole word behind) refl

pub after_absent : {T : Type 0} (word : List ℕ) (p q : List ℕ → Option (T × List ℕ)) (text : List ℕ) → past word text ≡ None → after word p q text ≡ q text
unfolding after
after_absent word p q text e = rw e refl

skipped : (word text rest : List ℕ) (u : Unit {0}) (o : Option (List ℕ)) → past word text ≡ o → option_and_then {U = Unit {0} × List ℕ} (λ (r : List ℕ). Some (tt, r)) o ≡ Some (u, rest) → text ≡ word ++ rest
skipped word text rest u (Some r) same e =
    let q : Equal tt u r rest = one_read tt u r rest e in
    past_sound word text rest (same ∙ ap (λ s. Some s) q.rest)
skipped word text rest u None same e = absurd cc

pub skip_found : (word text rest : List ℕ) (u : Unit {0}) → skip word text ≡ Some (u, rest) → text ≡ word ++ rest
unfolding skip
skip_found word text rest u e = skipped word text rest u (past word text) refl e

pub skip_whole : (word rest : List ℕ) → skip word (word ++ rest) ≡ Some (tt, rest)
unfolding skip
skip_whole word rest = rw (past_whole word rest) refl

pub choice_first : {T : Type 0} (test : List ℕ → Bool) (p q : List ℕ → Option (T × List ℕ)) (text : List ℕ) → test text ≡ true → choice test p q text ≡ p text
unfolding choice
choice_first test p q text e = rw e refl

pub choice_other : {T : Type 0} (test : List ℕ → Bool) (p q : List ℕ → Option (T × List ℕ)) (text : List ℕ) → test text ≡ false → choice test p q text ≡ q text
unfolding choice
choice_other test p q text e = rw e refl

-- The test holds and the one found it, or it fails and the other did.
pub record Chosen {T : Type 0} (holds : Bool) (b : Bool) (p : List ℕ → Option (T × List ℕ)) (text : List ℕ) (x : T) (rest : List ℕ) : Type 0 where
  pub test : b ≡ holds
  pub found : p text ≡ Some (x, rest)

choose : {T : Type 0} (b : Bool) (p q : List ℕ → Option (T × List ℕ)) (text : List ℕ) (x : T) (rest : List ℕ) → cond b (p text) (q text) ≡ Some (x, rest) → Chosen true b p text x rest ⊎ Chosen false b q text x rest
choose true p q text x rest e = inl (record { test = refl; found = e })
choose false p q text x rest e = inr (record { test = refl; found = e })

pub choice_found : {T : Type 0} (test : List ℕ → Bool) (p q : List ℕ → Option (T × List ℕ)) (text : List ℕ) (x : T) (rest : List ℕ) → choice test p q text ≡ Some (x, rest) → Chosen true (test text) p text x rest ⊎ Chosen false (test text) q text x rest
unfolding choice
choice_found test p q text x rest e = choose (test text) p q text x rest e
