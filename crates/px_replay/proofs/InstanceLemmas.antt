-- Lists of children that are made one after the other.
use Rattle.std.proofs.Common.{◌≡◌, ◌<◌, ◌≤◌, ◌+◌, ◌-◌, ℕ, arith, append-nil, List, [], ◌∷◌, ◌++◌, length, map, take, get_or, sym, ap, subst, ◌∙◌, append_assoc, All}
use Rattle.std.proofs.lemmas.List.{map-append, take_all, take_more}
use Rattle.std.proofs.lemmas.List.Elements.{All-nil, All-cons, All-head, All-tail, All-push, All-get_or}
use Rattle.px_terms.specs.declared.clause.Clause.{Clause}
use Rattle.px_terms.specs.declared.clause.Equation.{Equation}
use Rattle.px_terms.specs.declared.clause.Sigma.{Sigma}
use Rattle.px_terms.specs.declared.sequent.Sequent.{Sequent}
use Rattle.px_terms.specs.Noting.{equation_instance, equations_instance}
use Rattle.px_terms.specs.Sequents.{IsWithinLimits}
use Rattle.px_terms.specs.Rows.{noted, to_show, with_facts}

module _ {X Y Z : Type 0} (g : Y → Z) (h : X → Y) where
  -- one more child
  pub made_more : (xs : List X) (i : ℕ) (x : X) (first old new : List Z) (z : Z) → i < length xs → x ≡ get_or xs i x → old ≡ first ++ map g (map h (take i xs)) → z ≡ g (h x) → new ≡ old ++ z ∷ [] → new ≡ first ++ map g (map h (take (i + 1) xs))
  made_more xs i x first old new z within is so_far z_is pushed =
      let longer : take (i + 1) xs ≡ take i xs ++ x ∷ [] = take_more xs i x within ∙ ap (λ (y : X). take i xs ++ y ∷ []) (sym is) in
      let mapped : map g (map h (take (i + 1) xs)) ≡ map g (map h (take i xs)) ++ g (h x) ∷ [] = ap (λ (ys : List X). map g (map h ys)) longer ∙ (ap (λ (ys : List Y). map g ys) (map-append h (take i xs) (x ∷ [])) ∙ map-append g (map h (take i xs)) (h x ∷ [])) in
      pushed ∙ (ap (λ (zs : List Z). zs ++ z ∷ []) so_far ∙ (append_assoc first (map g (map h (take i xs))) (z ∷ []) ∙ (ap (λ (y : Z). first ++ (map g (map h (take i xs)) ++ y ∷ [])) z_is ∙ ap (λ (zs : List Z). first ++ zs) (sym mapped))))

  each_made : (Q : Z → Type 0) (xs : List X) → All Q (map g (map h xs)) → All (λ (x : X). Q (g (h x))) xs
  each_made Q [] all = All-nil (λ (x : X). Q (g (h x)))
  each_made Q (x ∷ xs) all = All-cons (λ (y : X). Q (g (h y))) x xs (All-head Q (g (h x)) (map g (map h xs)) all) (each_made Q xs (All-tail Q (g (h x)) (map g (map h xs)) all))

  -- the child that is due
  pub due_at : (Q : Z → Type 0) (xs : List X) (i : ℕ) (x : X) → i < length xs → x ≡ get_or xs i x → All Q (map g (map h xs)) → Q (g (h x))
  due_at Q xs i x within is all = subst (λ (y : X). Q (g (h y))) (sym is) (All-get_or (λ (y : X). Q (g (h y))) xs i x within (each_made Q xs all))

-- one more that is so
pub all_pushed : {Z : Type 0} (Q : Z → Type 0) (old new : List Z) (z : Z) → new ≡ old ++ z ∷ [] → All Q old → Q z → All Q new
all_pushed Q old new z is all here = subst (All Q) (sym is) (All-push Q old z all here)

pub all_front : {Z : Type 0} (Q : Z → Type 0) (xs ys : List Z) → All Q (xs ++ ys) → All Q xs
all_front Q [] ys all = All-nil Q
all_front Q (x ∷ xs) ys all = All-cons Q x xs (All-head Q x (xs ++ ys) all) (all_front Q xs ys (All-tail Q x (xs ++ ys) all))

pub all_back : {Z : Type 0} (Q : Z → Type 0) (xs ys : List Z) → All Q (xs ++ ys) → All Q ys
all_back Q [] ys all = all
all_back Q (x ∷ xs) ys all = all_back Q xs ys (All-tail Q x (xs ++ ys) all)

-- the last element apart
split_last : {X : Type 0} (xs : List X) (x : X) → 1 ≤ length xs → x ≡ get_or xs (length xs - 1) x → xs ≡ take (length xs - 1) xs ++ x ∷ []
split_last {X} xs x some is =
    let within : length xs - 1 < length xs = omega (arith, some) in
    let all : length xs ≤ (length xs - 1) + 1 = omega arith in
    sym (take_all ((length xs - 1) + 1) xs all) ∙ (take_more xs (length xs - 1) x within ∙ ap (λ (y : X). take (length xs - 1) xs ++ y ∷ []) (sym is))

module _ (s : Sequent) (clause : Clause) (sigma : Sigma) where
  abbrev shows : List Equation → List Sequent
  shows es = map (to_show s) (equations_instance sigma es)

  abbrev assumes : List Equation → List Sequent
  assumes es = map (λ (e : Equation). with_facts s (e ∷ [])) (equations_instance sigma es)

  assumes_append : (xs ys : List Equation) → assumes (xs ++ ys) ≡ assumes xs ++ assumes ys
  assumes_append xs ys = ap (λ (es : List Equation). map (λ (e : Equation). with_facts s (e ∷ [])) es) (map-append (equation_instance sigma) xs ys) ∙ map-append (λ (e : Equation). with_facts s (e ∷ [])) (equations_instance sigma xs) (equations_instance sigma ys)

  -- all premises are within the limits
  pub premises_small : (premises : List Equation) → premises ≡ clause.premises → All IsWithinLimits (noted s clause sigma) → All IsWithinLimits (map (to_show s) (equations_instance sigma premises))
  premises_small premises are all = subst (λ (es : List Equation). All IsWithinLimits (shows es)) (sym are) (all_front IsWithinLimits (shows clause.premises) (assumes clause.alternatives) all)

  alternatives_small : (alternatives : List Equation) → alternatives ≡ clause.alternatives → All IsWithinLimits (noted s clause sigma) → All IsWithinLimits (assumes alternatives)
  alternatives_small alternatives are all = subst (λ (es : List Equation). All IsWithinLimits (assumes es)) (sym are) (all_back IsWithinLimits (shows clause.premises) (assumes clause.alternatives) all)

  -- so are all alternatives but the last
  pub others_small : (alternatives : List Equation) (x : Equation) → alternatives ≡ clause.alternatives → 1 ≤ length alternatives → x ≡ get_or alternatives (length alternatives - 1) x → All IsWithinLimits (noted s clause sigma) →
      All IsWithinLimits (map (λ (e : Equation). with_facts s (e ∷ [])) (equations_instance sigma (take (length alternatives - 1) alternatives)))
  others_small alternatives x are some is all =
      let split = split_last alternatives x some is in
      let whole = subst (All IsWithinLimits) (ap assumes split ∙ assumes_append (take (length alternatives - 1) alternatives) (x ∷ [])) (alternatives_small alternatives are all) in
      all_front IsWithinLimits (assumes (take (length alternatives - 1) alternatives)) (assumes (x ∷ [])) whole

  -- and the last
  pub last_small : (alternatives : List Equation) (x : Equation) → alternatives ≡ clause.alternatives → 1 ≤ length alternatives → x ≡ get_or alternatives (length alternatives - 1) x → All IsWithinLimits (noted s clause sigma) →
      IsWithinLimits (with_facts s (equation_instance sigma x ∷ []))
  last_small alternatives x are some is all =
      let split = split_last alternatives x some is in
      let whole = subst (All IsWithinLimits) (ap assumes split ∙ assumes_append (take (length alternatives - 1) alternatives) (x ∷ [])) (alternatives_small alternatives are all) in
      All-head IsWithinLimits (with_facts s (equation_instance sigma x ∷ [])) [] (all_back IsWithinLimits (assumes (take (length alternatives - 1) alternatives)) (assumes (x ∷ [])) whole)

  -- the children where there is no alternative
  pub noted_none : (premises alternatives : List Equation) (first made : List Sequent) → premises ≡ clause.premises → alternatives ≡ clause.alternatives → length alternatives < 1 → first ≡ [] → made ≡ first ++ map (to_show s) (equations_instance sigma premises) → made ≡ noted s clause sigma
  noted_none premises [] first made p a none empty is =
      is ∙ (ap (λ (cs : List Sequent). cs ++ shows premises) empty ∙ (ap shows p ∙ (sym (append-nil (shows clause.premises)) ∙ ap (λ (es : List Equation). shows clause.premises ++ assumes es) a)))
  noted_none premises (x ∷ xs) first made p a none empty is = absurd (omega (arith, none))

  -- the children where there is one
  pub noted_some : (premises alternatives : List Equation) (x : Equation) (first made more all : List Sequent) (last : Sequent) → premises ≡ clause.premises → alternatives ≡ clause.alternatives → 1 ≤ length alternatives → x ≡ get_or alternatives (length alternatives - 1) x → first ≡ [] →
      made ≡ first ++ map (to_show s) (equations_instance sigma premises) → more ≡ made ++ map (λ (e : Equation). with_facts s (e ∷ [])) (equations_instance sigma (take (length alternatives - 1) alternatives)) →
      last ≡ with_facts s (equation_instance sigma x ∷ []) → all ≡ more ++ last ∷ [] → all ≡ noted s clause sigma
  noted_some premises alternatives x first made more all last p a some is empty made_is more_is last_is all_is =
      let others = take (length alternatives - 1) alternatives in
      let shown : made ≡ shows clause.premises = made_is ∙ (ap (λ (cs : List Sequent). cs ++ shows premises) empty ∙ ap shows p) in
      let joined : assumes others ++ last ∷ [] ≡ assumes clause.alternatives = ap (λ (t : Sequent). assumes others ++ t ∷ []) last_is ∙ (sym (assumes_append others (x ∷ [])) ∙ (ap assumes (sym (split_last alternatives x some is)) ∙ ap assumes a)) in
      all_is ∙ (ap (λ (cs : List Sequent). cs ++ last ∷ []) (more_is ∙ ap (λ (cs : List Sequent). cs ++ assumes others) shown) ∙ (append_assoc (shows clause.premises) (assumes others) (last ∷ []) ∙ ap (λ (cs : List Sequent). shows clause.premises ++ cs) joined))
