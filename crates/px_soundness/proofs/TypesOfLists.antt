-- Lists of typed terms: joined, reversed, looked up in, and under more pattern variables.
use Rattle.std.proofs.Common.{◌≡◌, ℕ, zero, suc, List, [], ◌∷◌, ◌++◌, map, reverse, Option, Some, None}
use Rattle.std.proofs.Common.{slice_get, slice_set, refl, sym, ap, subst, subst₂}
use Rattle.std.proofs.Common.{append_assoc}
use Rattle.std.specs.Option.{option_and_then, option_map}
use Rattle.std.proofs.lemmas.List.{reverse-append}
use Rattle.px_terms.specs.declared.types.Ty.{Ty}
use Rattle.px_terms.specs.declared.term.Term.{Term, out-Term}
use Rattle.px_terms.specs.declared.term.Term.TheOpen.{Term-F}
use Rattle.px_terms.specs.declared.program.ConDef.{ConDef}
use Rattle.px_terms.specs.declared.program.Program.{Program}
use Rattle.px_terms.specs.declared.sequent.Context.{Context}
use Rattle.px_terms.specs.Types.{tys_instance}
use Rattle.px_terms.specs.Typing.{Place, HasTypeLayer, HaveTypes, HaveTypesInArms}
use Rattle.px_terms.specs.Typing as typing
use Rattle.px_totality.proofs.Instances.{nothing_is_some, one_item}

-- A value is there, and what follows from it gives this.
pub record Follows {A B : Type 0} (o : Option A) (f : A → Option B) (y : B) : Type 0 where
  pub item : A
  pub is : o ≡ Some item
  pub gives : f item ≡ Some y

pub follows : {A B : Type 0} (o : Option A) (f : A → Option B) (y : B) → option_and_then f o ≡ Some y → Follows o f y
follows None f y e = absurd (nothing_is_some y e)
follows (Some x) f y e = record { item = x; is = refl; gives = e }

-- A value is there, and this is what it is mapped to.
pub record IsMapped {A B : Type 0} (o : Option A) (f : A → B) (y : B) : Type 0 where
  pub item : A
  pub is : o ≡ Some item
  pub gives : f item ≡ y

pub is_mapped : {A B : Type 0} (o : Option A) (f : A → B) (y : B) → option_map f o ≡ Some y → IsMapped o f y
is_mapped None f y e = absurd (nothing_is_some y e)
is_mapped (Some x) f y e = record { item = x; is = refl; gives = one_item (f x) y e }

-- what stands at a number is mapped
pub mapped_at : {A B : Type 0} (f : A → B) (xs : List A) (i : ℕ) (x : A) → slice_get xs i ≡ Some x → slice_get (map f xs) i ≡ Some (f x)
mapped_at f [] i x at = absurd (nothing_is_some x at)
mapped_at f (y ∷ xs) zero x at = ap Some (ap f (one_item y x at))
mapped_at f (y ∷ xs) (suc i) x at = mapped_at f xs i x at

-- what stands in a list stands in it with more behind it
pub in_front : {A : Type 0} (xs ys : List A) (i : ℕ) (x : A) → slice_get xs i ≡ Some x → slice_get (xs ++ ys) i ≡ Some x
in_front [] ys i x at = absurd (nothing_is_some x at)
in_front (y ∷ xs) ys zero x at = at
in_front (y ∷ xs) ys (suc i) x at = in_front xs ys i x at

module _ (Q : Program) (place : Place) (context : Context) where
  -- a term has the type of its layer
  pub of_layer : {bound : List Ty} (t : Term) {y : Term-F Term} {T : Ty} → out-Term t ≡ y → HasTypeLayer Q place context bound y T →
      HasTypeLayer Q place context bound (out-Term t) T
  of_layer {bound} t {y = y} {T = T} e is = subst (λ (z : Term-F Term). HasTypeLayer Q place context bound z T) (sym e) is

  -- The term of this number has a type, and another one of that type may stand in its place.
  pub record TypedAt (bound : List Ty) (ts : List Term) (types : List Ty) (n : ℕ) (t : Term) : Type 0 where
    pub T : Ty
    pub typed : HasTypeLayer Q place context bound (out-Term t) T
    pub others : (by : Term) → HasTypeLayer Q place context bound (out-Term by) T → HaveTypes Q place context bound (slice_set ts n by) types

  pub typed_at : {bound : List Ty} {ts : List Term} {types : List Ty} → HaveTypes Q place context bound ts types → (n : ℕ) (t : Term) →
      slice_get ts n ≡ Some t → TypedAt bound ts types n t
  typed_at typing.none n t at = absurd (nothing_is_some t at)
  typed_at {bound} (typing.more {t = s} {T = T} is are) zero t at = record {
    T = T;
    typed = subst (λ (s : Term). HasTypeLayer Q place context bound (out-Term s) T) (one_item s t at) is;
    others = λ by good. typing.more good are;
  }
  typed_at {bound} (typing.more {ts = ts} {types = types} is are) (suc n) t at =
      let there : TypedAt bound ts types n t = typed_at are n t at in
      record { T = there.T; typed = there.typed; others = λ by good. typing.more is (there.others by good) }

  -- There is a term at this number, of this type.
  pub record TermOf (bound : List Ty) (ts : List Term) (n : ℕ) (T : Ty) : Type 0 where
    pub t : Term
    pub at : slice_get ts n ≡ Some t
    pub typed : HasTypeLayer Q place context bound (out-Term t) T

  pub term_of : {bound : List Ty} {ts : List Term} {types : List Ty} → HaveTypes Q place context bound ts types → (n : ℕ) (T : Ty) →
      slice_get types n ≡ Some T → TermOf bound ts n T
  term_of typing.none n T at = absurd (nothing_is_some T at)
  term_of {bound} (typing.more {t = t} {T = S} is are) zero T at = record {
    t = t;
    at = refl;
    typed = subst (HasTypeLayer Q place context bound (out-Term t)) (one_item S T at) is;
  }
  term_of {bound} (typing.more {ts = ts} is are) (suc n) T at =
      let there : TermOf bound ts n T = term_of are n T at in
      record { t = there.t; at = there.at; typed = there.typed }

  pub have_append : {bound : List Ty} {ts us : List Term} {types others : List Ty} → HaveTypes Q place context bound ts types →
      HaveTypes Q place context bound us others → HaveTypes Q place context bound (ts ++ us) (types ++ others)
  have_append typing.none have = have
  have_append (typing.more is are) have = typing.more is (have_append are have)

  pub have_reversed : {bound : List Ty} {ts : List Term} {types : List Ty} → HaveTypes Q place context bound ts types →
      HaveTypes Q place context bound (reverse ts) (reverse types)
  have_reversed typing.none = typing.none
  have_reversed {bound} (typing.more {t = t} {ts = ts} {T = T} {types = types} is are) =
      subst₂ (HaveTypes Q place context bound) (sym (reverse-append (t ∷ []) ts)) (sym (reverse-append (T ∷ []) types))
      (have_append (have_reversed are) (typing.more is typing.none))

  mutual
    -- what is typed is so under more pattern variables further out
    pub weaker : {bound : List Ty} {y : Term-F Term} {T : Ty} → HasTypeLayer Q place context bound y T → (more : List Ty) →
        HasTypeLayer Q place context (bound ++ more) y T
    weaker (typing.free at met) more = typing.free at met
    weaker {bound} (typing.bound {n = n} {T = T} at met) more = typing.bound (in_front bound more n T at) met
    weaker (typing.lit small e) more = typing.lit small e
    weaker (typing.con found is e met have) more = typing.con found is e met (all_weaker have more)
    weaker (typing.call function may types_met met arguments have) more = typing.call function may types_met met arguments (all_weaker have more)
    weaker (typing.choose on e found arms) more = typing.choose (weaker on more) e found (arms_weaker arms more)

    pub all_weaker : {bound : List Ty} {ts : List Term} {types : List Ty} → HaveTypes Q place context bound ts types → (more : List Ty) →
        HaveTypes Q place context (bound ++ more) ts types
    all_weaker typing.none more = typing.none
    all_weaker (typing.more is are) more = typing.more (weaker is more) (all_weaker are more)

    arms_weaker : {bound types : List Ty} {cs : List ConDef} {arms : List Term} {T : Ty} → HaveTypesInArms Q place context bound types cs arms T →
        (more : List Ty) → HaveTypesInArms Q place context (bound ++ more) types cs arms T
    arms_weaker typing.no_arm more = typing.no_arm
    arms_weaker {bound} (typing.arm {types = types} {c = c} {body = body} {T = T} met is arms) more =
        typing.arm met
        (subst (λ (bound : List Ty). HasTypeLayer Q place context bound (out-Term body) T) (append_assoc (reverse (tys_instance types c.fields)) bound more)
        (weaker is more))
        (arms_weaker arms more)
