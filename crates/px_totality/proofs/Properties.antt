-- What each property says of the values that a function gives, and that its clause is true of all values exactly where that is so.
use Rattle.std.proofs.Common.{◌≡◌, ◌⊎◌, inl, inr, ⊎_elim, List, [], ◌∷◌, ◌++◌, replicate, true, false, Some, slice_get}
use Rattle.std.proofs.Common.{refl, sym, ap, ◌∙◌, subst}
use Rattle.px_terms.specs.Prop.{Prop}
use Rattle.px_terms.specs.Prop.TheVariants.{Comm, Assoc, Idem, Sel, Refl, Irrefl, Sym, Antisym, Asym, Trans, Conn}
use Rattle.px_terms.specs.declared.types.Ty.{Ty}
use Rattle.px_terms.specs.declared.types.Fun.{Fun}
use Rattle.px_terms.specs.declared.term.Term.{Term}
use Rattle.px_terms.specs.declared.term.Value.{Value}
use Rattle.px_terms.specs.declared.clause.Equation.{Equation}
use Rattle.px_terms.specs.declared.program.Program.{Program}
use Rattle.px_terms.specs.Types.{tys_instance}
use Rattle.px_terms.specs.Programs.{false_term, true_term}
use Rattle.px_terms.specs.Values.{IsIn, AreIn}
use Rattle.px_terms.specs.Values as values
use Rattle.px_terms.specs.Meaning.{truth}
use Rattle.px_terms.specs.Clauses.{Subject, IsSubject, functions_alone, applied, equals, x_of, y_of, z_of, clause_for}
use Rattle.px_terms.specs.Holding.{IsTrueAt, AreTrueAt, SomeIsTrueAt, here, later}
use Rattle.px_terms.specs.Extending.{IsWellFounded, IsTrueOfAll}
use Rattle.px_totality.proofs.Valued.{are_in_append}
use Rattle.px_totality.proofs.Examples.{false_means, true_means, only_one}
use Rattle.px_totality.proofs.Applied.{nothing_put_in, Split, split, Ap, Result, result_of, Has, variable_has, first_has, applied_has, true_if}
use Rattle.px_totality.proofs.Applied.{true_then}

-- some equation of two is true: the one or the other
either_is_true : (Q : Program) (rho : List Value) (e f : Equation) (es : List Equation) → es ≡ e ∷ f ∷ [] → SomeIsTrueAt Q [] [] rho es →
    IsTrueAt Q [] [] rho e ⊎ IsTrueAt Q [] [] rho f
either_is_true Q rho e f _ are (here {e = g} is) = let same : g ≡ e = cc in inl (subst (λ (e : Equation). IsTrueAt Q [] [] rho e) same is)
either_is_true Q rho e f _ are (later {es = es} some) =
    let end : es ≡ f ∷ [] = cc in
    inr (only_one Q [] [] rho f (subst (λ (es : List Equation). SomeIsTrueAt Q [] [] rho es) end some))

-- One value of the type.
record One (Q : Program) (B : Ty) (xs : List Value) : Type 0 where
  x : Value
  is : xs ≡ x ∷ []
  in_x : IsIn Q B x

one : (Q : Program) (B : Ty) (xs : List Value) → AreIn Q (B ∷ []) xs → One Q B xs
one Q B _ (values.more {v = x} first values.none) = record { x = x; is = refl; in_x = first }

-- Two values of the type.
record Two (Q : Program) (B : Ty) (xs : List Value) : Type 0 where
  x : Value
  y : Value
  is : xs ≡ x ∷ y ∷ []
  in_x : IsIn Q B x
  in_y : IsIn Q B y

two : (Q : Program) (B : Ty) (xs : List Value) → AreIn Q (B ∷ B ∷ []) xs → Two Q B xs
two Q B _ (values.more {v = x} first (values.more {v = y} second values.none)) = record { x = x; y = y; is = refl; in_x = first; in_y = second }

-- Three values of the type.
record Three (Q : Program) (B : Ty) (xs : List Value) : Type 0 where
  x : Value
  y : Value
  z : Value
  is : xs ≡ x ∷ y ∷ z ∷ []
  in_x : IsIn Q B x
  in_y : IsIn Q B y
  in_z : IsIn Q B z

three : (Q : Program) (B : Ty) (xs : List Value) → AreIn Q (B ∷ B ∷ B ∷ []) xs → Three Q B xs
three Q B _ (values.more {v = x} first (values.more {v = y} second (values.more {v = z} third values.none))) =
    record { x = x; y = y; z = z; is = refl; in_x = first; in_y = second; in_z = third }

module _ (Q : Program) (founded : IsWellFounded Q) (f : Fun) (s : Subject) (subject : IsSubject Q (functions_alone 0 []) f [] s) where
  -- the function gives this on the leading values and the last two
  abbrev G : List Value → Value → Value → Value → Type 0
  G ls a b v = Ap Q founded f s subject ls a b v

  abbrev Leading : List Value → Type 0
  Leading ls = AreIn Q s.leading ls

  abbrev Last : Value → Type 0
  Last v = IsIn Q s.last v

  -- what a property says of the values
  abbrev pub Says : Prop → Type 0
  Says Comm = (ls : List Value) (x y v w : Value) → Leading ls → Last x → Last y → G ls x y v → G ls y x w → v ≡ w
  Says Assoc = Unit {0}
  Says Idem = (ls : List Value) (x v : Value) → Leading ls → Last x → G ls x x v → v ≡ x
  Says Sel = (ls : List Value) (x y v : Value) → Leading ls → Last x → Last y → G ls x y v → (v ≡ x) ⊎ (v ≡ y)
  Says Refl = (ls : List Value) (x v : Value) → Leading ls → Last x → G ls x x v → v ≡ truth true
  Says Irrefl = (ls : List Value) (x v : Value) → Leading ls → Last x → G ls x x v → v ≡ truth false
  Says Sym = (ls : List Value) (x y v : Value) → Leading ls → Last x → Last y → G ls x y (truth true) → G ls y x v → v ≡ truth true
  Says Antisym = (ls : List Value) (x y : Value) → Leading ls → Last x → Last y → G ls x y (truth true) → G ls y x (truth true) → x ≡ y
  Says Asym = (ls : List Value) (x y v : Value) → Leading ls → Last x → Last y → G ls x y (truth true) → G ls y x v → v ≡ truth false
  Says Trans =
      (ls : List Value) (x y z v : Value) → Leading ls → Last x → Last y → Last z → G ls x y (truth true) → G ls y z (truth true) → G ls x z v → v ≡ truth true
  Says Conn = (ls : List Value) (x y v : Value) → Leading ls → Last x → Last y → G ls x y (truth false) → G ls y x v → v ≡ truth true

  -- the premises are true only where some alternative is
  abbrev Follows : List Equation → List Equation → List Value → Type 0
  Follows premises alternatives rho = AreTrueAt Q [] [] rho premises → SomeIsTrueAt Q [] [] rho alternatives

  all_one : (premises alternatives : List Equation) → ((ls : List Value) (x : Value) → Leading ls → Last x → Follows premises alternatives (ls ++ x ∷ [])) →
      (rho : List Value) → AreIn Q (tys_instance [] (s.leading ++ replicate 1 s.last)) rho → Follows premises alternatives rho
  all_one premises alternatives each rho are =
      let parts : Split Q s.leading (s.last ∷ []) rho =
      split Q s.leading (s.last ∷ []) rho (subst (λ (types : List Ty). AreIn Q types rho) (nothing_put_in (s.leading ++ s.last ∷ [])) are) in
      let it : One Q s.last parts.xs = one Q s.last parts.xs parts.in_others in
      subst (Follows premises alternatives) (sym (parts.is ∙ ap (λ (xs : List Value). parts.ls ++ xs) it.is)) (each parts.ls it.x parts.in_front it.in_x)

  all_two : (premises alternatives : List Equation) →
      ((ls : List Value) (x y : Value) → Leading ls → Last x → Last y → Follows premises alternatives (ls ++ x ∷ y ∷ [])) → (rho : List Value) →
      AreIn Q (tys_instance [] (s.leading ++ replicate 2 s.last)) rho → Follows premises alternatives rho
  all_two premises alternatives each rho are =
      let lasts : List Ty = s.last ∷ s.last ∷ [] in
      let parts : Split Q s.leading lasts rho =
      split Q s.leading lasts rho (subst (λ (types : List Ty). AreIn Q types rho) (nothing_put_in (s.leading ++ lasts)) are) in
      let it : Two Q s.last parts.xs = two Q s.last parts.xs parts.in_others in
      subst (Follows premises alternatives) (sym (parts.is ∙ ap (λ (xs : List Value). parts.ls ++ xs) it.is))
      (each parts.ls it.x it.y parts.in_front it.in_x it.in_y)

  all_three : (premises alternatives : List Equation) →
      ((ls : List Value) (x y z : Value) → Leading ls → Last x → Last y → Last z → Follows premises alternatives (ls ++ x ∷ y ∷ z ∷ [])) → (rho : List Value) →
      AreIn Q (tys_instance [] (s.leading ++ replicate 3 s.last)) rho → Follows premises alternatives rho
  all_three premises alternatives each rho are =
      let lasts : List Ty = s.last ∷ s.last ∷ s.last ∷ [] in
      let parts : Split Q s.leading lasts rho =
      split Q s.leading lasts rho (subst (λ (types : List Ty). AreIn Q types rho) (nothing_put_in (s.leading ++ lasts)) are) in
      let it : Three Q s.last parts.xs = three Q s.last parts.xs parts.in_others in
      subst (Follows premises alternatives) (sym (parts.is ∙ ap (λ (xs : List Value). parts.ls ++ xs) it.is))
      (each parts.ls it.x it.y it.z parts.in_front it.in_x it.in_y it.in_z)

  -- values of the variables' types
  variables_in : (ls xs : List Value) (lasts : List Ty) → Leading ls → AreIn Q lasts xs → AreIn Q (tys_instance [] (s.leading ++ lasts)) (ls ++ xs)
  variables_in ls xs lasts leading are =
      subst (λ (types : List Ty). AreIn Q types (ls ++ xs)) (sym (nothing_put_in (s.leading ++ lasts))) (are_in_append Q leading are)

  -- The sides at the values of the variables.
  module _ (ls xs : List Value) (leading : Leading ls) where
    abbrev H : Term → Value → Type 0
    H t v = Has Q founded f s subject ls xs leading t v

    x_has : (x : Value) → slice_get xs 0 ≡ Some x → H (x_of s) x
    x_has x at = first_has Q founded f s subject ls xs leading x at

    y_has : (y : Value) → slice_get xs 1 ≡ Some y → H (y_of s) y
    y_has y at = variable_has Q founded f s subject ls xs leading 1 y at

    z_has : (z : Value) → slice_get xs 2 ≡ Some z → H (z_of s) z
    z_has z at = variable_has Q founded f s subject ls xs leading 2 z at

    true_has : H true_term (truth true)
    true_has = record { count = 0; means = true_means Q [] [] (ls ++ xs) }

    false_has : H false_term (truth false)
    false_has = record { count = 0; means = false_means Q [] [] (ls ++ xs) }

    both_has : {ta tb : Term} {a b v : Value} → H ta a → H tb b → G ls a b v → H (applied s ta tb) v
    both_has {ta} {tb} {a} {b} {v} one two given = applied_has Q founded f s subject ls xs leading ta tb a b v one two given

    holds : {l r : Term} {v w : Value} → H l v → H r w → v ≡ w → IsTrueAt Q [] [] (ls ++ xs) (equals l r)
    holds {l} {r} {v} {w} one two same = true_if Q founded f s subject ls xs leading l r v w one two same

    held : {l r : Term} {v w : Value} → H l v → H r w → IsTrueAt Q [] [] (ls ++ xs) (equals l r) → v ≡ w
    held {l} {r} {v} {w} one two is = true_then Q founded f s subject ls xs leading l r v w one two is

    -- what the function gives, known to be this
    gives_known : (a b : Value) (ta tb t : Term) (w : Value) → Last a → Last b → H ta a → H tb b → H t w →
        IsTrueAt Q [] [] (ls ++ xs) (equals (applied s ta tb) t) → G ls a b w
    gives_known a b ta tb t w in_a in_b one two side is =
        let it : Result Q founded f s subject ls a b = result_of Q founded f s subject ls a b leading in_a in_b in
        subst (G ls a b) (held (both_has one two it.is) side is) it.is

  -- The clause is true of all values.
  abbrev pub IsTrue : Prop → Type 0
  IsTrue p = IsTrueOfAll Q [] [] (clause_for s p 0 [])

  -- where the clause is true of all values, the values are as the property says
  pub comm_says : IsTrue Comm → Says Comm
  comm_says is_true ls x y v w leading in_x in_y one two =
      let xs : List Value = x ∷ y ∷ [] in
      let some : SomeIsTrueAt Q [] [] (ls ++ xs) (equals (applied s (x_of s) (y_of s)) (applied s (y_of s) (x_of s)) ∷ []) =
      is_true.at (ls ++ xs) (variables_in ls xs (s.last ∷ s.last ∷ []) leading (values.more in_x (values.more in_y values.none))) tt in
      held ls xs leading (both_has ls xs leading (x_has ls xs leading x refl) (y_has ls xs leading y refl) one)
      (both_has ls xs leading (y_has ls xs leading y refl) (x_has ls xs leading x refl) two)
      (only_one Q [] [] (ls ++ xs) (equals (applied s (x_of s) (y_of s)) (applied s (y_of s) (x_of s))) some)

  pub sel_says : IsTrue Sel → Says Sel
  sel_says is_true ls x y v leading in_x in_y given =
      let xs : List Value = x ∷ y ∷ [] in
      let left : Equation = equals (applied s (x_of s) (y_of s)) (x_of s) in
      let right : Equation = equals (applied s (x_of s) (y_of s)) (y_of s) in
      let some : SomeIsTrueAt Q [] [] (ls ++ xs) (left ∷ right ∷ []) =
      is_true.at (ls ++ xs) (variables_in ls xs (s.last ∷ s.last ∷ []) leading (values.more in_x (values.more in_y values.none))) tt in
      let both : H ls xs leading (applied s (x_of s) (y_of s)) v = both_has ls xs leading (x_has ls xs leading x refl) (y_has ls xs leading y refl) given in
      ⊎_elim (λ is. inl (held ls xs leading both (x_has ls xs leading x refl) is)) (λ is. inr (held ls xs leading both (y_has ls xs leading y refl) is))
      (either_is_true Q (ls ++ xs) left right (left ∷ right ∷ []) refl some)

  pub irrefl_says : IsTrue Irrefl → Says Irrefl
  irrefl_says is_true ls x v leading in_x given =
      let xs : List Value = x ∷ [] in
      let some : SomeIsTrueAt Q [] [] (ls ++ xs) (equals (applied s (x_of s) (x_of s)) false_term ∷ []) =
      is_true.at (ls ++ xs) (variables_in ls xs (s.last ∷ []) leading (values.more in_x values.none)) tt in
      held ls xs leading (both_has ls xs leading (x_has ls xs leading x refl) (x_has ls xs leading x refl) given) (false_has ls xs leading)
      (only_one Q [] [] (ls ++ xs) (equals (applied s (x_of s) (x_of s)) false_term) some)

  pub asym_says : IsTrue Asym → Says Asym
  asym_says is_true ls x y v leading in_x in_y one two =
      let xs : List Value = x ∷ y ∷ [] in
      let premise : IsTrueAt Q [] [] (ls ++ xs) (equals (applied s (x_of s) (y_of s)) true_term) =
      holds ls xs leading (both_has ls xs leading (x_has ls xs leading x refl) (y_has ls xs leading y refl) one) (true_has ls xs leading) refl in
      let some : SomeIsTrueAt Q [] [] (ls ++ xs) (equals (applied s (y_of s) (x_of s)) false_term ∷ []) =
      is_true.at (ls ++ xs) (variables_in ls xs (s.last ∷ s.last ∷ []) leading (values.more in_x (values.more in_y values.none))) (premise, tt) in
      held ls xs leading (both_has ls xs leading (y_has ls xs leading y refl) (x_has ls xs leading x refl) two) (false_has ls xs leading)
      (only_one Q [] [] (ls ++ xs) (equals (applied s (y_of s) (x_of s)) false_term) some)

  pub conn_says : IsTrue Conn → Says Conn
  conn_says is_true ls x y v leading in_x in_y one two =
      let xs : List Value = x ∷ y ∷ [] in
      let premise : IsTrueAt Q [] [] (ls ++ xs) (equals (applied s (x_of s) (y_of s)) false_term) =
      holds ls xs leading (both_has ls xs leading (x_has ls xs leading x refl) (y_has ls xs leading y refl) one) (false_has ls xs leading) refl in
      let some : SomeIsTrueAt Q [] [] (ls ++ xs) (equals (applied s (y_of s) (x_of s)) true_term ∷ []) =
      is_true.at (ls ++ xs) (variables_in ls xs (s.last ∷ s.last ∷ []) leading (values.more in_x (values.more in_y values.none))) (premise, tt) in
      held ls xs leading (both_has ls xs leading (y_has ls xs leading y refl) (x_has ls xs leading x refl) two) (true_has ls xs leading)
      (only_one Q [] [] (ls ++ xs) (equals (applied s (y_of s) (x_of s)) true_term) some)

  pub trans_says : IsTrue Trans → Says Trans
  trans_says is_true ls x y z v leading in_x in_y in_z one two three =
      let xs : List Value = x ∷ y ∷ z ∷ [] in
      let first : IsTrueAt Q [] [] (ls ++ xs) (equals (applied s (x_of s) (y_of s)) true_term) =
      holds ls xs leading (both_has ls xs leading (x_has ls xs leading x refl) (y_has ls xs leading y refl) one) (true_has ls xs leading) refl in
      let second : IsTrueAt Q [] [] (ls ++ xs) (equals (applied s (y_of s) (z_of s)) true_term) =
      holds ls xs leading (both_has ls xs leading (y_has ls xs leading y refl) (z_has ls xs leading z refl) two) (true_has ls xs leading) refl in
      let some : SomeIsTrueAt Q [] [] (ls ++ xs) (equals (applied s (x_of s) (z_of s)) true_term ∷ []) =
      is_true.at (ls ++ xs)
      (variables_in ls xs (s.last ∷ s.last ∷ s.last ∷ []) leading (values.more in_x (values.more in_y (values.more in_z values.none))))
      (first, (second, tt)) in
      held ls xs leading (both_has ls xs leading (x_has ls xs leading x refl) (z_has ls xs leading z refl) three) (true_has ls xs leading)
      (only_one Q [] [] (ls ++ xs) (equals (applied s (x_of s) (z_of s)) true_term) some)

  -- what the function gives is as said, on terms of these values
  it_holds : (ls xs : List Value) (leading : Leading ls) (a b : Value) (ta tb t : Term) (w : Value) → Last a → Last b → H ls xs leading ta a →
      H ls xs leading tb b → H ls xs leading t w → ((v : Value) → G ls a b v → v ≡ w) → SomeIsTrueAt Q [] [] (ls ++ xs) (equals (applied s ta tb) t ∷ [])
  it_holds ls xs leading a b ta tb t w in_a in_b one two side says =
      let it : Result Q founded f s subject ls a b = result_of Q founded f s subject ls a b leading in_a in_b in
      here (holds ls xs leading (both_has ls xs leading one two it.is) side (says it.v it.is))

  -- where the values are as the property says, the clause is true of all values
  pub says_idem : Says Idem → IsTrue Idem
  says_idem says = record {
    at =
        all_one [] (equals (applied s (x_of s) (x_of s)) (x_of s) ∷ [])
        (λ ls x leading in_x premises. let X = x_has ls (x ∷ []) leading x refl in it_holds ls (x ∷ []) leading x x (x_of s) (x_of s)
        (x_of s) x in_x in_x X X X (λ v given. says ls x v leading in_x given));
  }

  pub says_refl : Says Refl → IsTrue Refl
  says_refl says = record {
    at =
        all_one [] (equals (applied s (x_of s) (x_of s)) true_term ∷ [])
        (λ ls x leading in_x premises. let X = x_has ls (x ∷ []) leading x refl in it_holds ls (x ∷ []) leading x x (x_of s) (x_of s) true_term
        (truth true) in_x in_x X X (true_has ls (x ∷ []) leading) (λ v given. says ls x v leading in_x given));
  }

  pub says_irrefl : Says Irrefl → IsTrue Irrefl
  says_irrefl says = record {
    at =
        all_one [] (equals (applied s (x_of s) (x_of s)) false_term ∷ [])
        (λ ls x leading in_x premises. let X = x_has ls (x ∷ []) leading x refl in it_holds ls (x ∷ []) leading x x (x_of s) (x_of s) false_term
        (truth false) in_x in_x X X (false_has ls (x ∷ []) leading) (λ v given. says ls x v leading in_x given));
  }

  -- the premise that the function on x and y gives this
  premise_known : (ls xs : List Value) (leading : Leading ls) (a b : Value) (ta tb t : Term) (w : Value) → Last a → Last b → H ls xs leading ta a →
      H ls xs leading tb b → H ls xs leading t w → IsTrueAt Q [] [] (ls ++ xs) (equals (applied s ta tb) t) → G ls a b w
  premise_known ls xs leading a b ta tb t w in_a in_b one two side is = gives_known ls xs leading a b ta tb t w in_a in_b one two side is

  pub says_sym : Says Sym → IsTrue Sym
  says_sym says =
      record {
        at = all_two (equals (applied s (x_of s) (y_of s)) true_term ∷ []) (equals (applied s (y_of s) (x_of s)) true_term ∷ [])
            (λ ls x y leading in_x in_y premises.
            let xs : List Value = x ∷ y ∷ [] in
            let X = x_has ls xs leading x refl in
            let Y = y_has ls xs leading y refl in
            let one = premise_known ls xs leading x y (x_of s) (y_of s) true_term (truth true) in_x in_y X Y (true_has ls xs leading) premises.0 in
            it_holds ls xs leading y x (y_of s) (x_of s) true_term (truth true) in_y in_x Y X (true_has ls xs leading)
            (λ v given. says ls x y v leading in_x in_y one given));
      }

  pub says_asym : Says Asym → IsTrue Asym
  says_asym says =
      record {
        at = all_two (equals (applied s (x_of s) (y_of s)) true_term ∷ []) (equals (applied s (y_of s) (x_of s)) false_term ∷ [])
            (λ ls x y leading in_x in_y premises.
            let xs : List Value = x ∷ y ∷ [] in
            let X = x_has ls xs leading x refl in
            let Y = y_has ls xs leading y refl in
            let one = premise_known ls xs leading x y (x_of s) (y_of s) true_term (truth true) in_x in_y X Y (true_has ls xs leading) premises.0 in
            it_holds ls xs leading y x (y_of s) (x_of s) false_term (truth false) in_y in_x Y X (false_has ls xs leading)
            (λ v given. says ls x y v leading in_x in_y one given));
      }

  pub says_conn : Says Conn → IsTrue Conn
  says_conn says =
      record {
        at = all_two (equals (applied s (x_of s) (y_of s)) false_term ∷ []) (equals (applied s (y_of s) (x_of s)) true_term ∷ [])
            (λ ls x y leading in_x in_y premises.
            let xs : List Value = x ∷ y ∷ [] in
            let X = x_has ls xs leading x refl in
            let Y = y_has ls xs leading y refl in
            let one = premise_known ls xs leading x y (x_of s) (y_of s) false_term (truth false) in_x in_y X Y (false_has ls xs leading) premises.0 in
            it_holds ls xs leading y x (y_of s) (x_of s) true_term (truth true) in_y in_x Y X (true_has ls xs leading)
            (λ v given. says ls x y v leading in_x in_y one given));
      }

  pub says_antisym : Says Antisym → IsTrue Antisym
  says_antisym says =
      record {
        at = all_two (equals (applied s (x_of s) (y_of s)) true_term ∷ equals (applied s (y_of s) (x_of s)) true_term ∷ [])
            (equals (x_of s) (y_of s) ∷ []) (λ ls x y leading in_x in_y premises.
            let xs : List Value = x ∷ y ∷ [] in
            let X = x_has ls xs leading x refl in
            let Y = y_has ls xs leading y refl in
            let one = premise_known ls xs leading x y (x_of s) (y_of s) true_term (truth true) in_x in_y X Y (true_has ls xs leading) premises.0 in
            let two = premise_known ls xs leading y x (y_of s) (x_of s) true_term (truth true) in_y in_x Y X (true_has ls xs leading) (premises.1).0 in
            here (holds ls xs leading X Y (says ls x y leading in_x in_y one two)));
      }

  pub says_trans : Says Trans → IsTrue Trans
  says_trans says =
      record {
        at = all_three (equals (applied s (x_of s) (y_of s)) true_term ∷ equals (applied s (y_of s) (z_of s)) true_term ∷ [])
            (equals (applied s (x_of s) (z_of s)) true_term ∷ []) (λ ls x y z leading in_x in_y in_z premises.
            let xs : List Value = x ∷ y ∷ z ∷ [] in
            let X = x_has ls xs leading x refl in
            let Y = y_has ls xs leading y refl in
            let Z = z_has ls xs leading z refl in
            let one = premise_known ls xs leading x y (x_of s) (y_of s) true_term (truth true) in_x in_y X Y (true_has ls xs leading) premises.0 in
            let two = premise_known ls xs leading y z (y_of s) (z_of s) true_term (truth true) in_y in_z Y Z (true_has ls xs leading) (premises.1).0 in
            it_holds ls xs leading x z (x_of s) (z_of s) true_term (truth true) in_x in_z X Z (true_has ls xs leading)
            (λ v given. says ls x y z v leading in_x in_y in_z one two given));
      }
