-- When a property is known of a function, as a test.
use Rattle.std.proofs.Common.{◌≡◌, ◌⊎◌, inl, inr, ℕ, zero, suc, ◌<◌, Bool, true, false, not, cond, eqb, ◌&&◌, ◌||◌, List, [], ◌∷◌, length, take, Option, Some, None, refl, sym, ◌∙◌, ap, subst, Decides, arith, lit<}
use Rattle.std.specs.Prelude.{slice_get}
use Rattle.std.specs.List.{All, list_all, list_any}
use Rattle.std.specs.Option.{IsSomeAnd}
use Rattle.std.proofs.lemmas.Bool.{false≢true}
use Rattle.std.proofs.lemmas.Bool.Decides.{Decides-eqb, Decides-and, Decides-like, Decides-by_and}
use Rattle.px_base.specs.declared.prop.Prop.{Prop}
use Rattle.px_base.specs.declared.prop.Prop.TheVariants.{Comm, Assoc, Idem, Sel, Refl, Irrefl, Sym, Antisym, Asym, Trans, Conn}
use Rattle.px_base.specs.declared.prop.PropSet.{PropSet}
use Rattle.px_base.specs.declared.head.Head.{Head}
use Rattle.px_base.specs.declared.head.Head.TheVariants.{Def, Wle, Weq, FnVar}
use Rattle.px_base.specs.PropSets.{prop_number, has_prop, HasProp, all_props}
use Rattle.px_terms.specs.declared.types.FnType.{FnType}
use Rattle.px_terms.specs.declared.program.Def as definition
use Rattle.px_terms.specs.declared.program.Declared.{Declared}
use Rattle.px_terms.specs.declared.program.Declared.TheVariants as declared
use Rattle.px_terms.specs.declared.program.Program.{Program}
use Rattle.px_terms.specs.Implied.{Closure, known, sel_gives_idem, conn_gives_refl, asym_gives_irrefl, asym_gives_antisym, irrefl_and_trans_give_asym, HasAtMost, HasEqual}
use Rattle.px_terms.specs.Typing.{Place, anywhere, in_body, behind, IsDeclaredBefore, IsSaid, IsKnown}
use Rattle.px_types.specs.Faults.{Env}
use Rattle.px_types.specs.Outcome.{passes, obligations_before, same_prop, is_property_of, is_among, is_said, is_implied, has_wanted}

-- a test of an option tells a fact where it tells one of each value
pub decides_passes : {X : Type 0} (test : X → Bool) (P : X → Type 0) → ((x : X) → Decides (test x) (P x)) → (o : Option X) → Decides (passes test o) (IsSomeAnd o P)
decides_passes test P d None = (λ e. absurd (false≢true e), λ h. absurd h)
decides_passes test P d (Some x) = d x

-- the property of a number
prop_at : ℕ → Prop
prop_at n = cond (eqb n 0) Comm (cond (eqb n 1) Assoc (cond (eqb n 2) Idem (cond (eqb n 3) Sel (cond (eqb n 4) Refl (cond (eqb n 5) Irrefl (cond (eqb n 6) Sym (cond (eqb n 7) Antisym (cond (eqb n 8) Asym (cond (eqb n 9) Trans Conn)))))))))

prop_at_number : (p : Prop) → prop_at (prop_number p) ≡ p
unfolding prop_at
prop_at_number Comm = refl
prop_at_number Assoc = refl
prop_at_number Idem = refl
prop_at_number Sel = refl
prop_at_number Refl = refl
prop_at_number Irrefl = refl
prop_at_number Sym = refl
prop_at_number Antisym = refl
prop_at_number Asym = refl
prop_at_number Trans = refl
prop_at_number Conn = refl

decides_prop : (p q : Prop) → Decides (same_prop p q) (p ≡ q)
decides_prop p q = Decides-like _ (λ e. sym (prop_at_number p) ∙ ap prop_at e ∙ prop_at_number q) (λ e. ap prop_number e) (Decides-eqb (prop_number p) (prop_number q))

decides_property : (n : ℕ) (p : Prop) (d : Declared) → Decides (is_property_of n p d) (d ≡ declared.Property n p)
decides_property n p (declared.Property m q) = Decides-like _ (λ e. λ i. declared.Property (e.0 i) (e.1 i)) (λ e. (cc, cc)) (Decides-and _ _ (Decides-eqb m n) (decides_prop q p))
decides_property n p (declared.Lemma m) = (λ e. absurd (false≢true e), λ e. absurd cc)

-- one of the first items, with its number
pub record Among {X : Type 0} (P : X → Type 0) (xs : List X) (most : ℕ) : Type 0 where
  pub number : ℕ
  pub below : number < most
  pub item : X
  pub stands : slice_get xs number ≡ Some item
  pub holds : P item

or_true : (x y : Bool) → (x || y) ≡ true → y ≡ false → x ≡ true
or_true true y e f = refl
or_true false y e f = absurd (false≢true (sym f ∙ e))

-- some item among the first ones passes the test
any_among : {X : Type 0} (test : X → Bool) (P : X → Type 0) → ((x : X) → Decides (test x) (P x)) → (xs : List X) (most : ℕ) → list_any test (take most xs) ≡ true → Among P xs most
any_among test P d [] zero e = absurd (false≢true e)
any_among test P d [] (suc most) e = absurd (false≢true e)
any_among test P d (x ∷ xs) zero e = absurd (false≢true e)
any_among {X} test P d (x ∷ xs) (suc most) e = go (test x) refl (any_among test P d xs most)
  where
    go : (b : Bool) → test x ≡ b → (list_any test (take most xs) ≡ true → Among P xs most) → Among P (x ∷ xs) (suc most)
    go true t others = record { number = 0; below = omega arith; item = x; stands = refl; holds = (d x).0 t }
    go false t others =
        let rest : Among P xs most = others (rw t at e) in
        let below : rest.number < most = rest.below in
        record { number = suc rest.number; below = omega arith; item = rest.item; stands = rest.stands; holds = rest.holds }

among_any : {X : Type 0} (test : X → Bool) (P : X → Type 0) → ((x : X) → Decides (test x) (P x)) → (xs : List X) (most number : ℕ) (item : X) → number < most → slice_get xs number ≡ Some item → P item → list_any test (take most xs) ≡ true
among_any test P d [] most number item below stands holds = absurd cc
among_any test P d (x ∷ xs) zero number item below stands holds = absurd (omega arith)
among_any test P d (x ∷ xs) (suc most) zero item below stands holds =
    let e : x ≡ item = cc in
    let t : test x ≡ true = (d x).1 (subst P (sym e) holds) in
    rw t refl
among_any test P d (x ∷ xs) (suc most) (suc number) item below stands holds =
    let rest : list_any test (take most xs) ≡ true = among_any test P d xs most number item (omega arith) stands holds in
    or_right (test x) _ rest
  where
    or_right : (x y : Bool) → y ≡ true → (x || y) ≡ true
    or_right true y e = refl
    or_right false y e = e

-- each item is among all of them
all_among : {X : Type 0} (test : X → Bool) (xs : List X) → list_any test (take (length xs) xs) ≡ list_any test xs
all_among test [] = refl
all_among test (x ∷ xs) = ap (λ b. test x || b) (all_among test xs)

below_length : {X : Type 0} (xs : List X) (i : ℕ) (x : X) → slice_get xs i ≡ Some x → i < length xs
below_length [] i x e = absurd cc
below_length (y ∷ ys) zero x e = omega arith
below_length (y ∷ ys) (suc i) x e = let h : i < length ys = below_length ys i x e in omega arith

module _ (P : Program) (n : ℕ) (p : Prop) where
  declared_to : (place : Place) → list_any (is_property_of n p) (obligations_before P place) ≡ true → IsDeclaredBefore P place n p
  declared_to anywhere e =
      let a = any_among (is_property_of n p) (λ (d : Declared). d ≡ declared.Property n p) (decides_property n p) P.declared (length P.declared) (all_among (is_property_of n p) P.declared ∙ e) in
      record { number = a.number; earlier = tt; stands = a.stands ∙ ap Some a.holds }
  declared_to (behind count) e =
      let a = any_among (is_property_of n p) (λ (d : Declared). d ≡ declared.Property n p) (decides_property n p) P.declared count e in
      record { number = a.number; earlier = a.below; stands = a.stands ∙ ap Some a.holds }
  declared_to (in_body m) e = go (slice_get P.defs m) refl e
    where
      go : (o : Option definition.Def) → slice_get P.defs m ≡ o → list_any (is_property_of n p) (elim o as (λ _. List Declared) [ None ↦ [] | Some D ↦ take D.seen P.declared ]) ≡ true → IsDeclaredBefore P (in_body m) n p
      go None stands e = absurd (false≢true e)
      go (Some D) stands e =
          let a = any_among (is_property_of n p) (λ (d : Declared). d ≡ declared.Property n p) (decides_property n p) P.declared D.seen e in
          record { number = a.number; earlier = rw stands a.below; stands = a.stands ∙ ap Some a.holds }

  to_declared : (place : Place) → IsDeclaredBefore P place n p → list_any (is_property_of n p) (obligations_before P place) ≡ true
  to_declared anywhere d = sym (all_among (is_property_of n p) P.declared) ∙ among_any (is_property_of n p) (λ (d : Declared). d ≡ declared.Property n p) (decides_property n p) P.declared (length P.declared) d.number _ (below_length P.declared d.number _ d.stands) d.stands refl
  to_declared (behind count) d = among_any (is_property_of n p) (λ (d : Declared). d ≡ declared.Property n p) (decides_property n p) P.declared count d.number _ d.earlier d.stands refl
  to_declared (in_body m) d = go (slice_get P.defs m) d.earlier
    where
      go : (o : Option definition.Def) → IsSomeAnd o (λ (D : definition.Def). d.number < D.seen) → list_any (is_property_of n p) (elim o as (λ _. List Declared) [ None ↦ [] | Some D ↦ take D.seen P.declared ]) ≡ true
      go None h = absurd h
      go (Some D) h = among_any (is_property_of n p) (λ (d : Declared). d ≡ declared.Property n p) (decides_property n p) P.declared D.seen d.number _ h d.stands refl

decides_at_most : (p : Prop) → Decides (is_among (Refl ∷ Antisym ∷ Trans ∷ Conn ∷ []) p) (HasAtMost p)
decides_at_most Comm = (λ e. absurd (false≢true e), λ h. elim h [ ])
decides_at_most Assoc = (λ e. absurd (false≢true e), λ h. elim h [ ])
decides_at_most Idem = (λ e. absurd (false≢true e), λ h. elim h [ ])
decides_at_most Sel = (λ e. absurd (false≢true e), λ h. elim h [ ])
decides_at_most Refl = (λ e. HasAtMost.refl, λ h. refl)
decides_at_most Irrefl = (λ e. absurd (false≢true e), λ h. elim h [ ])
decides_at_most Sym = (λ e. absurd (false≢true e), λ h. elim h [ ])
decides_at_most Antisym = (λ e. HasAtMost.antisym, λ h. refl)
decides_at_most Asym = (λ e. absurd (false≢true e), λ h. elim h [ ])
decides_at_most Trans = (λ e. HasAtMost.trans, λ h. refl)
decides_at_most Conn = (λ e. HasAtMost.conn, λ h. refl)

decides_equal : (p : Prop) → Decides (is_among (Refl ∷ Sym ∷ Antisym ∷ Trans ∷ []) p) (HasEqual p)
decides_equal Comm = (λ e. absurd (false≢true e), λ h. elim h [ ])
decides_equal Assoc = (λ e. absurd (false≢true e), λ h. elim h [ ])
decides_equal Idem = (λ e. absurd (false≢true e), λ h. elim h [ ])
decides_equal Sel = (λ e. absurd (false≢true e), λ h. elim h [ ])
decides_equal Refl = (λ e. HasEqual.refl, λ h. refl)
decides_equal Irrefl = (λ e. absurd (false≢true e), λ h. elim h [ ])
decides_equal Sym = (λ e. HasEqual.sym, λ h. refl)
decides_equal Antisym = (λ e. HasEqual.antisym, λ h. refl)
decides_equal Asym = (λ e. absurd (false≢true e), λ h. elim h [ ])
decides_equal Trans = (λ e. HasEqual.trans, λ h. refl)
decides_equal Conn = (λ e. absurd (false≢true e), λ h. elim h [ ])

pub decides_said : (E : Env) (h : Head) (p : Prop) → Decides (is_said E h p) (IsSaid E.program E.place E.context h p)
decides_said E (Def n) p = (declared_to E.program n p E.place, to_declared E.program n p E.place)
decides_said E Wle p = decides_at_most p
decides_said E Weq p = decides_equal p
decides_said E (FnVar i) p = decides_passes (λ (F : FnType). has_prop F.props p) (λ (F : FnType). HasProp F.props p) (λ F. (λ e. e, λ e. e)) (slice_get E.context.funs i)

-- what tests of two facts joined by `or` and `and` tell
or_of : (x y : Bool) → (x || y) ≡ true → (x ≡ true) ⊎ (y ≡ true)
or_of true y e = inl refl
or_of false y e = inr e

or_left : (x y : Bool) → x ≡ true → (x || y) ≡ true
or_left true y e = refl
or_left false y e = absurd (false≢true e)

or_last : (x y : Bool) → y ≡ true → (x || y) ≡ true
or_last true y e = refl
or_last false y e = e

and_of : (x y : Bool) → (x && y) ≡ true → (x ≡ true) × (y ≡ true)
and_of true y e = (refl, e)
and_of false y e = absurd (false≢true e)

asym_again : (irrefl asym trans : Bool) → (irrefl || asym) ≡ true → trans ≡ true → (asym || (irrefl && trans)) ≡ true
asym_again true true trans e f = refl
asym_again true false trans e f = f
asym_again false true trans e f = refl
asym_again false false trans e f = absurd (false≢true e)

irrefl_again : (irrefl asym trans : Bool) → (asym || (irrefl && trans)) ≡ true → (irrefl || asym) ≡ true
irrefl_again true asym trans e = refl
irrefl_again false true trans e = refl
irrefl_again false false trans e = absurd (false≢true e)

module _ (has : Prop → Bool) (Knows : Prop → Type 0) (d : (p : Prop) → Decides (has p) (Knows p)) where
  has_known : (p : Prop) → has p ≡ true → Closure Knows p
  has_known p e = known ((d p).0 e)

  asym_known : (has Asym || (has Irrefl && has Trans)) ≡ true → Closure Knows Asym
  asym_known e = elim (or_of (has Asym) _ e) [
    | inl a ↦ has_known Asym a
    | inr b ↦ let both = and_of (has Irrefl) _ b in irrefl_and_trans_give_asym (has_known Irrefl both.0) (has_known Trans both.1)
  ]

  implied_known : (p : Prop) → is_implied has p ≡ true → Closure Knows p
  implied_known Comm e = has_known Comm e
  implied_known Assoc e = has_known Assoc e
  implied_known Idem e = elim (or_of (has Idem) _ e) [ inl a ↦ has_known Idem a | inr b ↦ sel_gives_idem (has_known Sel b) ]
  implied_known Sel e = has_known Sel e
  implied_known Refl e = elim (or_of (has Refl) _ e) [ inl a ↦ has_known Refl a | inr b ↦ conn_gives_refl (has_known Conn b) ]
  implied_known Irrefl e = elim (or_of (has Irrefl) _ e) [ inl a ↦ has_known Irrefl a | inr b ↦ asym_gives_irrefl (has_known Asym b) ]
  implied_known Sym e = has_known Sym e
  implied_known Antisym e = elim (or_of (has Antisym) _ e) [ inl a ↦ has_known Antisym a | inr b ↦ asym_gives_antisym (asym_known b) ]
  implied_known Asym e = asym_known e
  implied_known Trans e = has_known Trans e
  implied_known Conn e = has_known Conn e

  known_first : (p : Prop) → has p ≡ true → is_implied has p ≡ true
  known_first Comm e = e
  known_first Assoc e = e
  known_first Idem e = or_left _ _ e
  known_first Sel e = e
  known_first Refl e = or_left _ _ e
  known_first Irrefl e = or_left _ _ e
  known_first Sym e = e
  known_first Antisym e = or_left _ _ e
  known_first Asym e = or_left _ _ e
  known_first Trans e = e
  known_first Conn e = e

  known_implied : {p : Prop} → Closure Knows p → is_implied has p ≡ true
  known_implied (known {p = p} k) = known_first p ((d p).1 k)
  known_implied (sel_gives_idem k) = or_last _ _ (known_implied k)
  known_implied (conn_gives_refl k) = or_last _ _ (known_implied k)
  known_implied (asym_gives_irrefl k) = irrefl_again (has Irrefl) (has Asym) (has Trans) (known_implied k)
  known_implied (asym_gives_antisym k) = or_last _ _ (known_implied k)
  known_implied (irrefl_and_trans_give_asym k l) = asym_again (has Irrefl) (has Asym) (has Trans) (known_implied k) (known_implied l)

  pub decides_implied : (p : Prop) → Decides (is_implied has p) (Closure Knows p)
  decides_implied p = (implied_known p, known_implied)

decides_gives : {P Q : Type 0} (x y : Bool) → Decides x P → Decides y Q → Decides (not x || y) (P → Q)
decides_gives true y d e = (λ t p. e.0 t, λ f. e.1 (f (d.0 refl)))
decides_gives false y d e = (λ t p. absurd (false≢true (d.1 p)), λ f. refl)

-- a fact of all properties holds of each
each_prop : (Q : Prop → Type 0) → All Q all_props → (p : Prop) → Q p
each_prop Q all Comm = all 0 Comm (lit< tt)
each_prop Q all Assoc = all 1 Comm (lit< tt)
each_prop Q all Idem = all 2 Comm (lit< tt)
each_prop Q all Sel = all 3 Comm (lit< tt)
each_prop Q all Refl = all 4 Comm (lit< tt)
each_prop Q all Irrefl = all 5 Comm (lit< tt)
each_prop Q all Sym = all 6 Comm (lit< tt)
each_prop Q all Antisym = all 7 Comm (lit< tt)
each_prop Q all Asym = all 8 Comm (lit< tt)
each_prop Q all Trans = all 9 Comm (lit< tt)
each_prop Q all Conn = all 10 Comm (lit< tt)

module _ (E : Env) (h : Head) (wanted : PropSet) where
  -- a wanted property is known
  abbrev IsMetBy : Prop → Type 0
  IsMetBy p = HasProp wanted p → IsKnown E.program E.place E.context h p

  met_by : Prop → Bool
  met_by p = not (has_prop wanted p) || is_implied (is_said E h) p

  decides_met_by : (p : Prop) → Decides (met_by p) (IsMetBy p)
  unfolding met_by
  decides_met_by p = decides_gives (has_prop wanted p) (is_implied (is_said E h) p) (λ e. e, λ e. e) (decides_implied (is_said E h) (IsSaid E.program E.place E.context h) (decides_said E h) p)

  pub decides_wanted : Decides (has_wanted E h wanted) ((p : Prop) → HasProp wanted p → IsKnown E.program E.place E.context h p)
  unfolding has_wanted met_by
  decides_wanted = Decides-like _ (λ all. each_prop IsMetBy all) (λ each k d below. each _) (Decides-by_and met_by IsMetBy (list_all met_by) decides_met_by refl (λ _ _. refl) all_props)

  -- where not all wanted properties are known, one is not
  pub record Lacking : Type 0 where
    pub p : Prop
    pub wants : HasProp wanted p
    pub lacks : ¬ IsKnown E.program E.place E.context h p

  lacks_one : (props : List Prop) → list_all met_by props ≡ false → Lacking
  unfolding met_by
  lacks_one [] e = absurd (false≢true (sym e))
  lacks_one (p ∷ props) e = go (has_prop wanted p) (is_implied (is_said E h) p) refl refl (lacks_one props)
    where
      go : (x y : Bool) → has_prop wanted p ≡ x → is_implied (is_said E h) p ≡ y → (list_all met_by props ≡ false → Lacking) → Lacking
      go true true wants is others = others (rw (wants, is) at e)
      go true false wants is others = record { p = p; wants = wants; lacks = λ k. false≢true (sym is ∙ (decides_implied (is_said E h) (IsSaid E.program E.place E.context h) (decides_said E h) p).1 k) }
      go false y wants is others = others (rw wants at e)

  pub lacking : has_wanted E h wanted ≡ false → Lacking
  unfolding has_wanted met_by
  lacking e = lacks_one all_props e
