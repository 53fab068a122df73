-- True equations, before and after a row changes their terms or their values.
use Rattle.std.proofs.Common.{◌≡◌, ℕ, zero, suc, List, [], ◌∷◌, ◌++◌, map, slice_get, slice_set, Some, None, refl, sym, subst}
use Rattle.px_terms.specs.declared.types.Ty.{Ty}
use Rattle.px_terms.specs.declared.types.Fun.{Fun}
use Rattle.px_terms.specs.declared.term.Term.{Term, out-Term}
use Rattle.px_terms.specs.declared.term.Value.{Value}
use Rattle.px_terms.specs.declared.clause.Equation.{Equation}
use Rattle.px_terms.specs.declared.program.Program.{Program}
use Rattle.px_terms.specs.declared.sequent.Present.{Present}
use Rattle.px_terms.specs.declared.row.Side.{Side}
use Rattle.px_terms.specs.declared.row.Side.TheVariants.{Left, Right}
use Rattle.px_terms.specs.TreeEdits.{with_side}
use Rattle.px_terms.specs.Meaning.{Means, SameValue}
use Rattle.px_terms.specs.Holding.{IsTrueAt, AreTrueAt, SomeIsTrueAt, here, later}
use Rattle.px_terms.specs.Sequents.{side_of}
use Rattle.px_soundness.specs.Validity.{PresentSizes, none, more}
use Rattle.px_totality.proofs.Unique.{unique}

module _ (Q : Program) (types : List Ty) (funs : List Fun) where
  -- both sides have some value
  pub record HaveValues (rho : List Value) (e : Equation) : Type 0 where
    pub left : (v : Value) × (c : ℕ) × Means Q types funs rho e.left v c
    pub right : (v : Value) × (c : ℕ) × Means Q types funs rho e.right v c

  module _ (rho : List Value) where
    -- an equation that is found and true is some true one
    pub some_at : (es : List Equation) (j : ℕ) (e : Equation) → slice_get es j ≡ Some e → IsTrueAt Q types funs rho e → SomeIsTrueAt Q types funs rho es
    some_at [] j e found is = let none_there : None ≡ Some e = found in cc
    some_at (x ∷ es) zero e found is = here (subst (λ (y : Equation). IsTrueAt Q types funs rho y) (let one : Some x ≡ Some e = found in let back : e ≡ x = cc in back) is)
    some_at (x ∷ es) (suc j) e found is = later (some_at es j e found is)

    -- where a changed equation is true only where the old one is, the same holds of some equation of the list
    pub some_set : (es : List Equation) (j : ℕ) (e f : Equation) → slice_get es j ≡ Some e → (IsTrueAt Q types funs rho f → IsTrueAt Q types funs rho e) → SomeIsTrueAt Q types funs rho (slice_set es j f) → SomeIsTrueAt Q types funs rho es
    some_set [] j e f found back some = let none_there : None ≡ Some e = found in cc
    some_set (x ∷ es) zero e f found back (here is) = some_at (x ∷ es) zero e found (back is)
    some_set (x ∷ es) zero e f found back (later some) = later some
    some_set (x ∷ es) (suc j) e f found back (here is) = here is
    some_set (x ∷ es) (suc j) e f found back (later some) = later (some_set es j e f found back some)

    -- the true equation of this number
    pub true_at : (es : List Equation) (j : ℕ) (e : Equation) → slice_get es j ≡ Some e → AreTrueAt Q types funs rho es → IsTrueAt Q types funs rho e
    true_at [] j e found are = let none_there : None ≡ Some e = found in cc
    true_at (x ∷ es) zero e found are = subst (λ (y : Equation). IsTrueAt Q types funs rho y) (let one : Some x ≡ Some e = found in let there : x ≡ e = cc in there) are.0
    true_at (x ∷ es) (suc j) e found are = true_at es j e found are.1

    -- true equations stay so where one is changed into a true one
    pub all_set : (es : List Equation) (j : ℕ) (f : Equation) → AreTrueAt Q types funs rho es → IsTrueAt Q types funs rho f → AreTrueAt Q types funs rho (slice_set es j f)
    all_set [] j f are is = are
    all_set (x ∷ es) zero f are is = (is, are.1)
    all_set (x ∷ es) (suc j) f are is = (are.0, all_set es j f are.1 is)

    -- true equations, one list behind another
    pub all_append : (es fs : List Equation) → AreTrueAt Q types funs rho es → AreTrueAt Q types funs rho fs → AreTrueAt Q types funs rho (es ++ fs)
    all_append [] fs are others = others
    all_append (e ∷ es) fs are others = (are.0, all_append es fs are.1 others)

    -- sides of one value are true
    pub one_side : (e : Equation) → e.left ≡ e.right → HaveValues rho e → IsTrueAt Q types funs rho e
    one_side e one sides = (sides.left.0, sides.left.1, sides.left.1, sides.left.2, subst (λ (t : Term). Means Q types funs rho t sides.left.0 sides.left.1) one sides.left.2)

    -- with another side of the same value an equation is true where it was
    pub side_on : (e : Equation) (side : Side) (t : Term) → SameValue Q types funs rho (side_of e side) t → IsTrueAt Q types funs rho e → IsTrueAt Q types funs rho (with_side side e t)
    side_on e Left t same is = (is.0, same.2, is.2, subst (λ (v : Value). Means Q types funs rho t v same.2) (unique Q types funs rho [] (out-Term e.left) same.0 is.0 same.1 is.1 same.3 is.3).0 same.4, is.4)
    side_on e Right t same is = (is.0, is.1, same.2, is.3, subst (λ (v : Value). Means Q types funs rho t v same.2) (unique Q types funs rho [] (out-Term e.right) same.0 is.0 same.1 is.2 same.3 is.4).0 same.4)

    -- and it was true where it is
    pub side_back : (e : Equation) (side : Side) (t : Term) → SameValue Q types funs rho (side_of e side) t → IsTrueAt Q types funs rho (with_side side e t) → IsTrueAt Q types funs rho e
    side_back e Left t same is = (is.0, same.1, is.2, subst (λ (v : Value). Means Q types funs rho e.left v same.1) (unique Q types funs rho [] (out-Term t) same.0 is.0 same.2 is.1 same.4 is.3).0 same.3, is.4)
    side_back e Right t same is = (is.0, is.1, same.1, is.3, subst (λ (v : Value). Means Q types funs rho e.right v same.1) (unique Q types funs rho [] (out-Term t) same.0 is.0 same.2 is.2 same.4 is.4).0 same.3)

  -- Terms are changed, and so are the values, in such a way that each term keeps its value.
  module _ (rho other : List Value) (change : Term → Term) (forward : (t : Term) (v : Value) (c : ℕ) → Means Q types funs rho t v c → (e : ℕ) × Means Q types funs other (change t) v e) (changed : Equation → Equation) (left_is : (e : Equation) → (changed e).left ≡ change e.left) (right_is : (e : Equation) → (changed e).right ≡ change e.right) where
    -- a true equation stays true
    pub true_on : (e : Equation) → IsTrueAt Q types funs rho e → IsTrueAt Q types funs other (changed e)
    true_on e is =
        let left = forward e.left is.0 is.1 is.3 in
        let right = forward e.right is.0 is.2 is.4 in
        (is.0, left.0, right.0, subst (λ (t : Term). Means Q types funs other t is.0 left.0) (sym (left_is e)) left.1, subst (λ (t : Term). Means Q types funs other t is.0 right.0) (sym (right_is e)) right.1)

    pub all_true_on : (es : List Equation) → AreTrueAt Q types funs rho es → AreTrueAt Q types funs other (map changed es)
    all_true_on [] are = are
    all_true_on (e ∷ es) are = (true_on e are.0, all_true_on es are.1)

    -- the value that the changed term has, the old one has
    kept_value : (t s : Term) (w v : Value) (c a : ℕ) → s ≡ change t → Means Q types funs rho t w c → Means Q types funs other s v a → Means Q types funs rho t v c
    kept_value t s w v c a is before after =
        let moved = forward t w c before in
        let there : Means Q types funs other (change t) v a = subst (λ (x : Term). Means Q types funs other x v a) is after in
        subst (λ (u : Value). Means Q types funs rho t u c) (unique Q types funs other [] (out-Term (change t)) w v moved.0 a moved.1 there).0 before

    -- an equation whose sides have values was true where it is
    pub true_back : (e : Equation) → HaveValues rho e → IsTrueAt Q types funs other (changed e) → IsTrueAt Q types funs rho e
    true_back e sides is = (is.0, sides.left.1, sides.right.1, kept_value e.left (changed e).left sides.left.0 is.0 sides.left.1 is.1 (left_is e) sides.left.2 is.3, kept_value e.right (changed e).right sides.right.0 is.0 sides.right.1 is.2 (right_is e) sides.right.2 is.4)

    pub some_true_back : (es : List Equation) → ((j : ℕ) (e : Equation) → slice_get es j ≡ Some e → HaveValues rho e) → SomeIsTrueAt Q types funs other (map changed es) → SomeIsTrueAt Q types funs rho es
    some_true_back [] sides some = elim some [ ]
    some_true_back (e ∷ es) sides (here is) = here (true_back e (sides 0 e refl) is)
    some_true_back (e ∷ es) sides (later some) = later (some_true_back es (λ j f found. sides (suc j) f found) some)

    -- the sizes of the present terms stay
    pub sizes_on : (entry : Present → Present) → ((p : Present) → (entry p).term ≡ change p.term) → (ps : List Present) (n : ℕ) → PresentSizes Q types funs rho ps n → PresentSizes Q types funs other (map entry ps) n
    sizes_on entry is [] n none = none
    sizes_on entry is (p ∷ ps) n (more {v = v} {c = c} {n = m} means rest total) =
        let moved = forward p.term v c means in
        more (subst (λ (t : Term). Means Q types funs other t v moved.0) (sym (is p)) moved.1) (sizes_on entry is ps m rest) total
