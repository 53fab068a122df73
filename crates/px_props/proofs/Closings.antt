-- The closure of a set, a property at a time.
use Rattle.std.proofs.Common.{◌≡◌, ◌↔◌, ◌⊎◌, inl, inr, ⊎_elim, ◌==◌, Bool, true, false, IsTrue, refl, sym, ap, subst, eq-eqb}
use Rattle.px_terms.specs.Prop.{Prop}
use Rattle.px_terms.specs.Prop.TheVariants.{Idem, Sel, Refl, Irrefl, Antisym, Asym, Trans, Conn}
use Rattle.px_terms.specs.PropSet.{PropSet}
use Rattle.px_terms.specs.PropSets.{HasProp, prop_number}
use Rattle.px_terms.specs.Implied.{Closure, known, sel_gives_idem, conn_gives_refl, asym_gives_irrefl, asym_gives_antisym, irrefl_and_trans_give_asym}
use Rattle.px_props.specs.Sets.{IsSetOf, IsClosure}

-- The set with one property more, where it follows.
pub record Adds (old new : PropSet) (follows : Bool) (q : Prop) : Type 0 where
  pub each : IsSetOf new (λ (p : Prop). HasProp old p ⊎ ((p ≡ q) × IsTrue follows))

kept : {old new : PropSet} {follows : Bool} {q : Prop} → Adds old new follows q → (p : Prop) → HasProp old p → HasProp new p
kept adds p has = (adds.each p).1 (inl has)

added : {old new : PropSet} {follows : Bool} {q : Prop} → Adds old new follows q → IsTrue follows → HasProp new q
added {q} adds follows = (adds.each q).1 (inr (refl, follows))

-- their numbers tell properties apart
abbrev Differ : Prop → Prop → Type 0
Differ p q = (prop_number p == prop_number q) ≡ false

other : {old new : PropSet} {follows : Bool} {q : Prop} → Adds old new follows q → (p : Prop) → Differ p q → HasProp new p → HasProp old p
other {q} adds p differ has =
    ⊎_elim (λ (old : _). old) (λ (new : _). let same : (prop_number p == prop_number q) ≡ true = eq-eqb (prop_number p) (prop_number q) (ap prop_number new.0) in cc) ((adds.each p).0 has)

-- what is in the larger set is implied, if all of the smaller one is and the new property is where it follows
reached : {old new : PropSet} {follows : Bool} {q : Prop} (set : PropSet) → Adds old new follows q →
    ((p : Prop) → HasProp old p → Closure (HasProp set) p) → (IsTrue follows → Closure (HasProp set) q) →
    (p : Prop) → HasProp new p → Closure (HasProp set) p
reached set adds before given p has =
    ⊎_elim (λ (old : _). before p old) (λ (new : _). subst (Closure (HasProp set)) (sym new.0) (given new.1)) ((adds.each p).0 has)

module _ (set idem refl_set irrefl antisym all : PropSet) (sel conn asym : Bool)
    (sel_is : IsTrue sel ↔ HasProp set Sel) (conn_is : IsTrue conn ↔ HasProp set Conn)
    (asym_is : IsTrue asym ↔ (HasProp set Asym ⊎ (HasProp set Irrefl × HasProp set Trans)))
    (one : Adds set idem sel Idem) (two : Adds idem refl_set conn Refl) (three : Adds refl_set irrefl asym Irrefl)
    (four : Adds irrefl antisym asym Antisym) (five : Adds antisym all asym Asym) where
  asym_implied : IsTrue asym → Closure (HasProp set) Asym
  asym_implied holds = ⊎_elim (λ (has : _). known has) (λ (has : _). irrefl_and_trans_give_asym (known has.0) (known has.1)) (asym_is.0 holds)

  sound : (p : Prop) → HasProp all p → Closure (HasProp set) p
  sound =
      let first = reached set one (λ (p : Prop) has. known has) (λ (holds : IsTrue sel). sel_gives_idem (known (sel_is.0 holds))) in
      let second = reached set two first (λ (holds : IsTrue conn). conn_gives_refl (known (conn_is.0 holds))) in
      let third = reached set three second (λ (holds : IsTrue asym). asym_gives_irrefl (asym_implied holds)) in
      let fourth = reached set four third (λ (holds : IsTrue asym). asym_gives_antisym (asym_implied holds)) in
      reached set five fourth asym_implied

  -- what was in the set, and what is no new property of it
  first_kept : (p : Prop) → HasProp set p → HasProp all p
  first_kept p has = kept five p (kept four p (kept three p (kept two p (kept one p has))))

  was : (p : Prop) → Differ p Idem → Differ p Refl → Differ p Irrefl → Differ p Antisym → Differ p Asym → HasProp all p → HasProp set p
  was p a b c d e has = other one p a (other two p b (other three p c (other four p d (other five p e has))))

  -- all that tells of `asym`
  asym_told : HasProp all Asym → IsTrue asym
  asym_told has =
      ⊎_elim (λ (old : _). asym_is.1 (inl (other one Asym refl (other two Asym refl (other three Asym refl (other four Asym refl old)))))) (λ (new : _). new.1) ((five.each Asym).0 has)

  both_told : HasProp all Irrefl → HasProp all Trans → IsTrue asym
  both_told irr trans =
      let first = λ (old : HasProp refl_set Irrefl). asym_is.1 (inr (other one Irrefl refl (other two Irrefl refl old), was Trans refl refl refl refl refl trans)) in
      ⊎_elim first (λ (new : _). new.1) ((three.each Irrefl).0 (other four Irrefl refl (other five Irrefl refl irr)))

  complete : (p : Prop) → Closure (HasProp set) p → HasProp all p
  complete p (known has) = first_kept p has
  complete p (sel_gives_idem from) = kept five Idem (kept four Idem (kept three Idem (kept two Idem (added one (sel_is.1 (was Sel refl refl refl refl refl (complete Sel from)))))))
  complete p (conn_gives_refl from) = kept five Refl (kept four Refl (kept three Refl (added two (conn_is.1 (was Conn refl refl refl refl refl (complete Conn from))))))
  complete p (asym_gives_irrefl from) = kept five Irrefl (kept four Irrefl (added three (asym_told (complete Asym from))))
  complete p (asym_gives_antisym from) = kept five Antisym (added four (asym_told (complete Asym from)))
  complete p (irrefl_and_trans_give_asym irr trans) = added five (both_told (complete Irrefl irr) (complete Trans trans))

  -- the last set is the closure of the first
  pub closes : IsClosure set all
  closes p = (sound p, complete p)
