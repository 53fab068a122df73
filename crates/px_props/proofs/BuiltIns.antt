-- The properties of the two comparisons, collected one at a time.
use Rattle.std.proofs.Common.{◌≡◌, ◌⊎◌, inl, inr, ⊎_elim, refl, sym, subst}
use Rattle.px_terms.specs.Prop.{Prop}
use Rattle.px_terms.specs.Prop.TheVariants.{Comm, Refl, Sym, Antisym, Trans, Conn}
use Rattle.px_terms.specs.PropSet.{PropSet}
use Rattle.px_terms.specs.PropSets.{HasProp}
use Rattle.px_terms.specs.Implied.{HasAtMost, HasEqual}
use Rattle.px_props.specs.Sets.{IsSetOf}
use Rattle.px_props.specs.declared.sets.TheConstants.{NONE}

-- no property is in the set of none
none_has : (p : Prop) → HasProp NONE p → ⊥
none_has Comm has = cc
none_has _ has = cc

-- the set with one property more
abbrev With : PropSet → PropSet → Prop → Type 0
With old new q = IsSetOf new (λ (p : Prop). HasProp old p ⊎ (p ≡ q))

-- the set of four properties
module _ (a b c d : PropSet) (i j k l : Prop) (one : With NONE a i) (two : With a b j) (three : With b c k) (four : With c d l) where
  pub is_one : HasProp d i
  is_one = (four i).1 (inl ((three i).1 (inl ((two i).1 (inl ((one i).1 (inr refl)))))))

  pub is_two : HasProp d j
  is_two = (four j).1 (inl ((three j).1 (inl ((two j).1 (inr refl)))))

  pub is_three : HasProp d k
  is_three = (four k).1 (inl ((three k).1 (inr refl)))

  pub is_four : HasProp d l
  is_four = (four l).1 (inr refl)

  pub is_one_of : (Has : Prop → Type 0) → Has i → Has j → Has k → Has l → (p : Prop) → HasProp d p → Has p
  is_one_of Has at_i at_j at_k at_l p has =
      let first : HasProp a p → Has p = λ h. ⊎_elim (λ (old : _). absurd (none_has p old)) (λ (is : _). subst Has (sym is) at_i) ((one p).0 h) in
      let second : HasProp b p → Has p = λ h. ⊎_elim first (λ (is : _). subst Has (sym is) at_j) ((two p).0 h) in
      let third : HasProp c p → Has p = λ h. ⊎_elim second (λ (is : _). subst Has (sym is) at_k) ((three p).0 h) in
      ⊎_elim third (λ (is : _). subst Has (sym is) at_l) ((four p).0 has)

pub at_most : (a b c d : PropSet) → With NONE a Refl → With a b Antisym → With b c Trans → With c d Conn → IsSetOf d HasAtMost
at_most a b c d one two three four p =
    (is_one_of a b c d Refl Antisym Trans Conn one two three four HasAtMost HasAtMost.refl HasAtMost.antisym HasAtMost.trans HasAtMost.conn p, has p)
  where
    has : (p : Prop) → HasAtMost p → HasProp d p
    has p HasAtMost.refl = is_one a b c d Refl Antisym Trans Conn one two three four
    has p HasAtMost.antisym = is_two a b c d Refl Antisym Trans Conn one two three four
    has p HasAtMost.trans = is_three a b c d Refl Antisym Trans Conn one two three four
    has p HasAtMost.conn = is_four a b c d Refl Antisym Trans Conn one two three four

pub equal : (a b c d : PropSet) → With NONE a Refl → With a b Sym → With b c Antisym → With c d Trans → IsSetOf d HasEqual
equal a b c d one two three four p =
    (is_one_of a b c d Refl Sym Antisym Trans one two three four HasEqual HasEqual.refl HasEqual.sym HasEqual.antisym HasEqual.trans p, has p)
  where
    has : (p : Prop) → HasEqual p → HasProp d p
    has p HasEqual.refl = is_one a b c d Refl Sym Antisym Trans one two three four
    has p HasEqual.sym = is_two a b c d Refl Sym Antisym Trans one two three four
    has p HasEqual.antisym = is_three a b c d Refl Sym Antisym Trans one two three four
    has p HasEqual.trans = is_four a b c d Refl Sym Antisym Trans one two three four
