-- What properties imply, as clauses that are true at types and functions: a function that is given functions may be what they speak of.
use Rattle.std.proofs.Common.{◌≡◌, ◌⊎◌, inl, inr, ⊎_elim, ℕ, zero, suc, ◌+◌, ◌<◌, List, [], ◌∷◌, ◌++◌, length, true, false, Some, slice_get}
use Rattle.std.proofs.Common.{refl, sym, ap, ◌∙◌, subst, arith}
use Rattle.std.proofs.lemmas.List.{map-append, length-map}
use Rattle.std.proofs.lemmas.List.Elements.{All-head}
use Rattle.px_terms.specs.Prop.{Prop}
use Rattle.px_terms.specs.Prop.TheVariants.{Idem, Sel, Refl, Irrefl, Antisym, Asym, Trans, Conn}
use Rattle.px_terms.specs.declared.types.Ty.{Ty}
use Rattle.px_terms.specs.declared.types.Ty.TheVariants as type
use Rattle.px_terms.specs.declared.types.FnType.{FnType}
use Rattle.px_terms.specs.declared.types.Fun.{Fun}
use Rattle.px_terms.specs.declared.term.Term.{Term, out-Term}
use Rattle.px_terms.specs.declared.term.Term.TheOpen.{Term-F}
use Rattle.px_terms.specs.declared.term.Term.TheVariants as term
use Rattle.px_terms.specs.declared.term.Value.{Value, out-Value, roll-Value}
use Rattle.px_terms.specs.declared.term.Value.TheViews.{roll-out-Value}
use Rattle.px_terms.specs.declared.term.Value.TheVariants as value
use Rattle.px_terms.specs.declared.term.Value.TheOpen.{Value-F}
use Rattle.px_terms.specs.declared.clause.Clause.{Clause}
use Rattle.px_terms.specs.declared.clause.Equation.{Equation}
use Rattle.px_terms.specs.declared.program.ConDef.{ConDef}
use Rattle.px_terms.specs.declared.program.Program.{Program}
use Rattle.px_terms.specs.declared.sequent.Context.{Context}
use Rattle.px_terms.specs.Types.{ty_instance, tys_instance}
use Rattle.px_terms.specs.TreeEquations.{ty_instance-Con}
use Rattle.px_terms.specs.Programs.{bool_type, bool_data, false_term, true_term}
use Rattle.px_terms.specs.Values.{IsIn, AreIn}
use Rattle.px_terms.specs.Values as values
use Rattle.px_terms.specs.Meaning.{truth, Means}
use Rattle.px_terms.specs.Typing.{anywhere, AreTypes, HasTypeLayer}
use Rattle.px_terms.specs.Typing as typing
use Rattle.px_terms.specs.TypedPrograms.{IsTyped}
use Rattle.px_terms.specs.TypedSequents.{IsTypedEquation}
use Rattle.px_terms.specs.Clauses.{Subject, applied, equals, x_of, y_of, z_of, clause_for}
use Rattle.px_terms.specs.Holding.{IsTrueAt, SomeIsTrueAt, here, later}
use Rattle.px_terms.specs.Extending.{IsWellFounded, FunctionsFit, IsTrueOfAll}
use Rattle.px_totality.specs.Laws.{ExactlyOne}
use Rattle.px_totality.proofs.Instances.{nothing_is_some, one_item}
use Rattle.px_totality.proofs.TypesOfTerms.{constructor_of}
use Rattle.px_totality.proofs.Valued.{are_in_append, as_many, IsBuilt, built}
use Rattle.px_totality.proofs.Examples.{not_same, false_means, true_means, only_one}
use Rattle.px_totality.proofs.Applied.{Split, split}
use Rattle.px_totality.proofs.Unique.{unique}
use Rattle.px_soundness.specs.Argument.{IsTypedClause}
use Rattle.px_soundness.proofs.NotesReadings.{around, live_fit}
use Rattle.px_soundness.proofs.NotesNoted.{valued}
use Rattle.px_soundness.proofs.NotesMoves.{StandsAs, Moves, variable_moves, truth_moves, true_moves, both_move}

no_values : (Q : Program) (types : List Ty) (vs : List Value) → AreIn Q types vs → types ≡ [] → vs ≡ []
no_values Q _ _ values.none e = refl
no_values Q _ _ (values.more first others) e = let wrong : ⊥ = cc in absurd wrong

con_is : (v : Value) (d k : ℕ) (fields : List Value) → out-Value v ≡ Value-F.Con d k fields → v ≡ value.Con d k fields
con_is v d k fields e = sym (roll-out-Value v) ∙ ap roll-Value e ∙ value.rolls-Con d k fields

-- a value of `Bool` is one of the two; px_totality has the same lemma
truths : (Q : Program) → IsTyped Q → (v : Value) → IsIn Q bool_type v → (v ≡ truth false) ⊎ (v ≡ truth true)
truths Q typed v is_in =
    let b : IsBuilt Q v 0 [] = built Q v 0 [] bool_type refl is_in in
    let stands : slice_get bool_data.cons b.k ≡ Some b.c = sym (constructor_of Q 0 b.k bool_data typed.bool) ∙ b.found in
    go b.k b.c b.fields stands b.is b.are_in
  where
    bare : (c : ConDef) (fields : List Value) → record { fields = [] } ≡ c → AreIn Q (tys_instance [] c.fields) fields → fields ≡ []
    bare c fields e are = no_values Q (tys_instance [] c.fields) fields are (ap (λ (c : ConDef). tys_instance [] c.fields) (sym e))

    go : (k : ℕ) (c : ConDef) (fields : List Value) → slice_get bool_data.cons k ≡ Some c → out-Value v ≡ Value-F.Con 0 k fields →
        AreIn Q (tys_instance [] c.fields) fields → (v ≡ truth false) ⊎ (v ≡ truth true)
    go zero c fields at is are = inl (con_is v 0 0 fields is ∙ ap (value.Con 0 0) (bare c fields (one_item _ c at) are))
    go (suc zero) c fields at is are = inr (con_is v 0 1 fields is ∙ ap (value.Con 0 1) (bare c fields (one_item _ c at) are))
    go (suc (suc k)) c fields at is are = absurd (nothing_is_some c at)

-- the type of a constructor on nothing
con_type : (Q : Program) (context : Context) (bound : List Ty) (d k : ℕ) (T : Ty) (y : Term-F Term) → HasTypeLayer Q anywhere context bound y T →
    y ≡ Term-F.Con d k [] [] → T ≡ type.Con d []
con_type Q context bound d k T _ (typing.free at met) e = let wrong : ⊥ = cc in absurd wrong
con_type Q context bound d k T _ (typing.bound at met) e = let wrong : ⊥ = cc in absurd wrong
con_type Q context bound d k T _ (typing.lit small is) e = let wrong : ⊥ = cc in absurd wrong
con_type Q context bound d k T _ (typing.con {d = c} {types = ts} found is_type is met have) e =
    let same : c ≡ d = cc in
    let none : ts ≡ [] = cc in
    is ∙ ap (λ (c : ℕ). type.Con c ts) same ∙ ap (type.Con d) none
con_type Q context bound d k T _ (typing.call function may small met passed have) e = let wrong : ⊥ = cc in absurd wrong
con_type Q context bound d k T _ (typing.choose on is found arms) e = let wrong : ⊥ = cc in absurd wrong

-- the front of a list is one whatever stands behind it
front_same : {A : Type 0} (ls xs ys : List A) (i : ℕ) (v : A) → i < length ls → slice_get (ls ++ xs) i ≡ Some v → slice_get (ls ++ ys) i ≡ Some v
front_same [] xs ys i v below at = let wrong : ⊥ = omega (arith, below) in absurd wrong
front_same (l ∷ ls) xs ys zero v below at = at
front_same (l ∷ ls) xs ys (suc i) v below at = front_same ls xs ys i v (omega (arith, below)) at

-- what stands behind the front
behind_front : {A : Type 0} (ls xs : List A) (i : ℕ) → slice_get (ls ++ xs) (length ls + i) ≡ slice_get xs i
behind_front [] xs i = let same : 0 + i ≡ i = omega arith in ap (slice_get xs) same
behind_front (l ∷ ls) xs i =
    let next : suc (length ls) + i ≡ suc (length ls + i) = omega arith in
    ap (slice_get (l ∷ ls ++ xs)) next ∙ behind_front ls xs i

-- The leading values and one more.
record AndOne (Q : Program) (leading : List Ty) (B : Ty) (rho : List Value) : Type 0 where
  ls : List Value
  x : Value
  is : rho ≡ ls ++ x ∷ []
  in_front : AreIn Q leading ls
  in_x : IsIn Q B x

-- The leading values and two more.
record AndTwo (Q : Program) (leading : List Ty) (B : Ty) (rho : List Value) : Type 0 where
  ls : List Value
  x : Value
  y : Value
  is : rho ≡ ls ++ x ∷ y ∷ []
  in_front : AreIn Q leading ls
  in_x : IsIn Q B x
  in_y : IsIn Q B y

one_more : (Q : Program) (leading : List Ty) (B : Ty) (ls xs : List Value) → AreIn Q leading ls → AreIn Q (B ∷ []) xs → AndOne Q leading B (ls ++ xs)
one_more Q leading B ls _ in_front (values.more {v = x} first values.none) = record { ls = ls; x = x; is = refl; in_front = in_front; in_x = first }

two_more : (Q : Program) (leading : List Ty) (B : Ty) (ls xs : List Value) → AreIn Q leading ls → AreIn Q (B ∷ B ∷ []) xs → AndTwo Q leading B (ls ++ xs)
two_more Q leading B ls _ in_front (values.more {v = x} first (values.more {v = y} second values.none)) = record {
  ls = ls;
  x = x;
  y = y;
  is = refl;
  in_front = in_front;
  in_x = first;
  in_y = second;
}

module _ (Q : Program) (founded : IsWellFounded Q) (ts : List Ty) (ground : AreTypes Q 0 ts) (fs : List Fun) (s : Subject) (f : Fun) (hs : List Fun)
    (stand : StandsAs ts fs s f hs) (tparams : ℕ) (Fs : List FnType) (count : length ts ≡ tparams) (fit : FunctionsFit Q ts Fs fs) where
  abbrev Leading : List Ty
  Leading = tys_instance ts s.leading

  abbrev B : Ty
  B = ty_instance ts s.last

  abbrev E : List Value → Equation → Type 0
  E rho e = IsTrueAt Q ts fs rho e

  abbrev X : Term
  X = x_of s

  abbrev Y : Term
  Y = y_of s

  abbrev Z : Term
  Z = z_of s

  abbrev A : Term → Term → Term
  A a b = applied s a b

  lasts_in : (ls xs : List Value) (lasts : List Ty) → AreIn Q Leading ls → AreIn Q (tys_instance ts lasts) xs →
      AreIn Q (tys_instance ts (s.leading ++ lasts)) (ls ++ xs)
  lasts_in ls xs lasts front are =
      subst (λ (types : List Ty). AreIn Q types (ls ++ xs)) (sym (map-append (ty_instance ts) s.leading lasts)) (are_in_append Q front are)

  parted : (lasts : List Ty) (rho : List Value) → AreIn Q (tys_instance ts (s.leading ++ lasts)) rho → Split Q Leading (tys_instance ts lasts) rho
  parted lasts rho are =
      split Q Leading (tys_instance ts lasts) rho
      (subst (λ (types : List Ty). AreIn Q types rho) (map-append (ty_instance ts) s.leading lasts) are)

  and_one : (rho : List Value) → AreIn Q (tys_instance ts (s.leading ++ s.last ∷ [])) rho → AndOne Q Leading B rho
  and_one rho are =
      let it : Split Q Leading (B ∷ []) rho = parted (s.last ∷ []) rho are in
      subst (AndOne Q Leading B) (sym it.is) (one_more Q Leading B it.ls it.xs it.in_front it.in_others)

  and_two : (rho : List Value) → AreIn Q (tys_instance ts (s.leading ++ s.last ∷ s.last ∷ [])) rho → AndTwo Q Leading B rho
  and_two rho are =
      let it : Split Q Leading (B ∷ B ∷ []) rho = parted (s.last ∷ s.last ∷ []) rho are in
      subst (AndTwo Q Leading B) (sym it.is) (two_more Q Leading B it.ls it.xs it.in_front it.in_others)

  -- moves from the one last values to the others
  module _ (ls : List Value) (in_front : AreIn Q Leading ls) (xs ys : List Value) where
    abbrev N : Term → Term → Type 0
    N a b = Moves Q ts fs (ls ++ xs) ts fs (ls ++ ys) a b

    long : length ls ≡ length s.leading
    long = sym (as_many Q in_front) ∙ length-map s.leading (ty_instance ts)

    last_moves : (i j p q : ℕ) (v : Value) → length s.leading + p ≡ i → length s.leading + q ≡ j → slice_get xs p ≡ Some v → slice_get ys q ≡ Some v →
        N (term.Free i) (term.Free j)
    last_moves i j p q v first second at there =
        let one : length ls + p ≡ i = ap (λ (n : ℕ). n + p) long ∙ first in
        let two : length ls + q ≡ j = ap (λ (n : ℕ). n + q) long ∙ second in
        let here : slice_get (ls ++ xs) i ≡ Some v = ap (slice_get (ls ++ xs)) (sym one) ∙ behind_front ls xs p ∙ at in
        let then : slice_get (ls ++ ys) j ≡ Some v = ap (slice_get (ls ++ ys)) (sym two) ∙ behind_front ls ys q ∙ there in
        variable_moves Q ts fs (ls ++ xs) ts fs (ls ++ ys) i j (λ w is. then ∙ sym here ∙ is)

    both : {a b c d : Term} → N a b → N c d → N (A a c) (A b d)
    both first second =
        both_move Q ts fs (ls ++ xs) ts fs (ls ++ ys) s s f hs stand stand refl
        (λ i below v at. front_same ls xs ys i v (subst (λ (n : ℕ). i < n) (sym long) below) at) first second

    moved : {l r l2 r2 : Term} → N l l2 → N r r2 → E (ls ++ xs) (equals l r) → E (ls ++ ys) (equals l2 r2)
    moved left right is = true_moves Q ts fs (ls ++ xs) ts fs (ls ++ ys) left right is

    stays : (k : ℕ) → N (term.Con 0 k [] []) (term.Con 0 k [] [])
    stays k = truth_moves Q ts fs (ls ++ xs) ts fs (ls ++ ys) k

  zeroth : length s.leading + 0 ≡ length s.leading
  zeroth = omega arith

  module _ (rho : List Value) where
    is_false : (t : Term) (c : ℕ) → Means Q ts fs rho t (truth false) c → E rho (equals t false_term)
    is_false t c means = (truth false, c, 0, means, false_means Q ts fs rho)

    is_true : (t : Term) (c : ℕ) → Means Q ts fs rho t (truth true) c → E rho (equals t true_term)
    is_true t c means = (truth true, c, 0, means, true_means Q ts fs rho)

    not_both : (t : Term) → E rho (equals t false_term) → E rho (equals t true_term) → ⊥
    not_both t never always =
        let one : never.0 ≡ truth false = (unique Q ts fs rho [] (out-Term false_term) never.0 (truth false) never.2 0 never.4 (false_means Q ts fs rho)).0 in
        let two : always.0 ≡ truth true = (unique Q ts fs rho [] (out-Term true_term) always.0 (truth true) always.2 0 always.4 (true_means Q ts fs rho)).0 in
        let same : never.0 ≡ always.0 = (unique Q ts fs rho [] (out-Term t) never.0 always.0 never.1 always.1 never.3 always.3).0 in
        not_same (sym one ∙ same ∙ two)

    either : (e g : Equation) → SomeIsTrueAt Q ts fs rho (e ∷ g ∷ []) → E rho e ⊎ E rho g
    either e g (here is) = inl is
    either e g (later some) = inr (only_one Q ts fs rho g some)

    -- a side that is equated with a truth value is false or true
    decided : (clause : Clause) → IsTypedClause Q (around tparams Fs clause) clause → AreIn Q (tys_instance ts clause.vars) rho → (t : Term) (k : ℕ) →
        IsTypedEquation Q (around tparams Fs clause) (equals t (term.Con 0 k [] [])) → E rho (equals t false_term) ⊎ E rho (equals t true_term)
    decided clause typed are t k is_typed =
        let context : Context = around tparams Fs clause in
        let is_bool : is_typed.T ≡ bool_type =
        con_type Q context [] 0 k is_typed.T (out-Term (term.Con 0 k [] [])) is_typed.right (term.outs-Con 0 k [] []) in
        let it : ExactlyOne Q (ty_instance ts is_typed.T) (Means Q ts fs rho t) =
        valued Q founded context typed.types ts count ground fs fit rho (live_fit Q ts clause.vars rho are) t is_typed.T is_typed.left in
        let in_bool : IsIn Q bool_type it.value =
        subst (λ (T : Ty). IsIn Q T it.value) (ap (ty_instance ts) is_bool ∙ ty_instance-Con ts 0 []) it.in_type in
        ⊎_elim (λ is. inl (is_false t it.count (subst (λ (v : Value). Means Q ts fs rho t v it.count) is it.given)))
        (λ is. inr (is_true t it.count (subst (λ (v : Value). Means Q ts fs rho t v it.count) is it.given))) (truths Q founded.typed it.value in_bool)

  -- the clause of a property of the subject
  abbrev C : Prop → Clause
  C p = clause_for s p tparams Fs

  abbrev True : Clause → Type 0
  True clause = IsTrueOfAll Q ts fs clause

  abbrev Typed : Clause → Type 0
  Typed clause = IsTypedClause Q (around tparams Fs clause) clause

  pub sel_gives_idem : True (C Sel) → True (C Idem)
  sel_gives_idem holds = record { at = λ rho are premises. go rho (and_one rho are) }
    where
      go : (rho : List Value) → AndOne Q Leading B rho → SomeIsTrueAt Q ts fs rho (equals (A X X) X ∷ [])
      go rho it =
          let ls : List Value = it.ls in
          let x : Value = it.x in
          let xs : List Value = x ∷ x ∷ [] in
          let ys : List Value = x ∷ [] in
          let n : ℕ = length s.leading in
          let twice : AreIn Q (tys_instance ts (s.leading ++ s.last ∷ s.last ∷ [])) (ls ++ xs) =
          lasts_in ls xs (s.last ∷ s.last ∷ []) it.in_front (values.more it.in_x (values.more it.in_x values.none)) in
          let some : SomeIsTrueAt Q ts fs (ls ++ xs) (equals (A X Y) X ∷ equals (A X Y) Y ∷ []) = holds.at (ls ++ xs) twice tt in
          let x_moves : Moves Q ts fs (ls ++ xs) ts fs (ls ++ ys) X X = last_moves ls it.in_front xs ys n n 0 0 x zeroth zeroth refl refl in
          let y_moves : Moves Q ts fs (ls ++ xs) ts fs (ls ++ ys) Y X = last_moves ls it.in_front xs ys (n + 1) n 1 0 x refl zeroth refl refl in
          let all : Moves Q ts fs (ls ++ xs) ts fs (ls ++ ys) (A X Y) (A X X) = both ls it.in_front xs ys x_moves y_moves in
          let is : E (ls ++ ys) (equals (A X X) X) = ⊎_elim (λ is. moved ls it.in_front xs ys all x_moves is)
          (λ is. moved ls it.in_front xs ys all y_moves is) (either (ls ++ xs) (equals (A X Y) X) (equals (A X Y) Y) some) in
          subst (λ (rho : List Value). SomeIsTrueAt Q ts fs rho (equals (A X X) X ∷ [])) (sym it.is) (here is)

  -- the function on one value twice: where the last values are that one twice, and where they are it alone
  module _ (ls : List Value) (in_front : AreIn Q Leading ls) (x : Value) (in_x : IsIn Q B x) where
    abbrev one : List Value
    one = ls ++ x ∷ []

    abbrev two : List Value
    two = ls ++ x ∷ x ∷ []

    are_one : AreIn Q (tys_instance ts (s.leading ++ s.last ∷ [])) one
    are_one = lasts_in ls (x ∷ []) (s.last ∷ []) in_front (values.more in_x values.none)

    are_two : AreIn Q (tys_instance ts (s.leading ++ s.last ∷ s.last ∷ [])) two
    are_two = lasts_in ls (x ∷ x ∷ []) (s.last ∷ s.last ∷ []) in_front (values.more in_x (values.more in_x values.none))

    back : (k : ℕ) → E one (equals (A X X) (term.Con 0 k [] [])) → E two (equals (A X Y) (term.Con 0 k [] []))
    back k is =
        let n : ℕ = length s.leading in
        let xs : List Value = x ∷ [] in
        let ys : List Value = x ∷ x ∷ [] in
        moved ls in_front xs ys
        (both ls in_front xs ys (last_moves ls in_front xs ys n n 0 0 x zeroth zeroth refl refl)
        (last_moves ls in_front xs ys n (n + 1) 0 1 x zeroth refl refl refl)) (stays ls in_front xs ys k) is

    forth : (k : ℕ) → E two (equals (A Y X) (term.Con 0 k [] [])) → E one (equals (A X X) (term.Con 0 k [] []))
    forth k is =
        let n : ℕ = length s.leading in
        let xs : List Value = x ∷ x ∷ [] in
        let ys : List Value = x ∷ [] in
        moved ls in_front xs ys
        (both ls in_front xs ys (last_moves ls in_front xs ys (n + 1) n 1 0 x refl zeroth refl refl)
        (last_moves ls in_front xs ys n n 0 0 x zeroth zeroth refl refl)) (stays ls in_front xs ys k) is

  pub conn_gives_refl : Typed (C Refl) → True (C Conn) → True (C Refl)
  conn_gives_refl typed holds = record { at = λ rho are premises. go rho (and_one rho are) }
    where
      go : (rho : List Value) → AndOne Q Leading B rho → SomeIsTrueAt Q ts fs rho (equals (A X X) true_term ∷ [])
      go rho it =
          let sides : IsTypedEquation Q (around tparams Fs (C Refl)) (equals (A X X) true_term) =
          All-head (IsTypedEquation Q (around tparams Fs (C Refl))) (equals (A X X) true_term) [] typed.alternatives in
          let rho1 : List Value = it.ls ++ it.x ∷ [] in
          let rho2 : List Value = it.ls ++ it.x ∷ it.x ∷ [] in
          let is : E rho1 (equals (A X X) true_term) = ⊎_elim
          (λ is_false.
          let some : SomeIsTrueAt Q ts fs rho2 (equals (A Y X) true_term ∷ []) =
          holds.at rho2 (are_two it.ls it.in_front it.x it.in_x) (back it.ls it.in_front it.x it.in_x 0 is_false, tt) in
          forth it.ls it.in_front it.x it.in_x 1 (only_one Q ts fs rho2 (equals (A Y X) true_term) some)) (λ is_true. is_true)
          (decided rho1 (C Refl) typed (are_one it.ls it.in_front it.x it.in_x) (A X X) 1 sides) in
          subst (λ (rho : List Value). SomeIsTrueAt Q ts fs rho (equals (A X X) true_term ∷ [])) (sym it.is) (here is)

  pub asym_gives_irrefl : Typed (C Irrefl) → True (C Asym) → True (C Irrefl)
  asym_gives_irrefl typed holds = record { at = λ rho are premises. go rho (and_one rho are) }
    where
      go : (rho : List Value) → AndOne Q Leading B rho → SomeIsTrueAt Q ts fs rho (equals (A X X) false_term ∷ [])
      go rho it =
          let sides : IsTypedEquation Q (around tparams Fs (C Irrefl)) (equals (A X X) false_term) =
          All-head (IsTypedEquation Q (around tparams Fs (C Irrefl))) (equals (A X X) false_term) [] typed.alternatives in
          let rho1 : List Value = it.ls ++ it.x ∷ [] in
          let rho2 : List Value = it.ls ++ it.x ∷ it.x ∷ [] in
          let is : E rho1 (equals (A X X) false_term) = ⊎_elim (λ is_false. is_false)
          (λ is_true.
          let some : SomeIsTrueAt Q ts fs rho2 (equals (A Y X) false_term ∷ []) =
          holds.at rho2 (are_two it.ls it.in_front it.x it.in_x) (back it.ls it.in_front it.x it.in_x 1 is_true, tt) in
          forth it.ls it.in_front it.x it.in_x 0 (only_one Q ts fs rho2 (equals (A Y X) false_term) some))
          (decided rho1 (C Irrefl) typed (are_one it.ls it.in_front it.x it.in_x) (A X X) 0 sides) in
          subst (λ (rho : List Value). SomeIsTrueAt Q ts fs rho (equals (A X X) false_term ∷ [])) (sym it.is) (here is)

  pub asym_gives_antisym : True (C Asym) → True (C Antisym)
  asym_gives_antisym holds = record {
    at = λ rho are premises.
        let some : SomeIsTrueAt Q ts fs rho (equals (A Y X) false_term ∷ []) = holds.at rho are (premises.0, tt) in
        absurd (not_both rho (A Y X) (only_one Q ts fs rho (equals (A Y X) false_term) some) (premises.1).0);
  }

  pub irrefl_and_trans_give_asym : Typed (C Asym) → True (C Irrefl) → True (C Trans) → True (C Asym)
  irrefl_and_trans_give_asym typed irrefl trans = record {
    at = λ rho are premises. go rho are (and_two rho are) premises.0;
  }
    where
      -- of a circle the function on one value twice would be true
      circle : (ls : List Value) (in_front : AreIn Q Leading ls) (x y : Value) → IsIn Q B x → IsIn Q B y →
          E (ls ++ x ∷ y ∷ []) (equals (A X Y) true_term) → E (ls ++ x ∷ y ∷ []) (equals (A Y X) true_term) → ⊥
      circle ls in_front x y in_x in_y up down =
          let n : ℕ = length s.leading in
          let xs : List Value = x ∷ y ∷ [] in
          let ys : List Value = x ∷ y ∷ x ∷ [] in
          let zs : List Value = x ∷ [] in
          let x_to_x : Moves Q ts fs (ls ++ xs) ts fs (ls ++ ys) X X = last_moves ls in_front xs ys n n 0 0 x zeroth zeroth refl refl in
          let x_to_z : Moves Q ts fs (ls ++ xs) ts fs (ls ++ ys) X Z = last_moves ls in_front xs ys n (n + 2) 0 2 x zeroth refl refl refl in
          let y_to_y : Moves Q ts fs (ls ++ xs) ts fs (ls ++ ys) Y Y = last_moves ls in_front xs ys (n + 1) (n + 1) 1 1 y refl refl refl refl in
          let first : E (ls ++ ys) (equals (A X Y) true_term) =
          moved ls in_front xs ys (both ls in_front xs ys x_to_x y_to_y) (stays ls in_front xs ys 1) up in
          let second : E (ls ++ ys) (equals (A Y Z) true_term) =
          moved ls in_front xs ys (both ls in_front xs ys y_to_y x_to_z) (stays ls in_front xs ys 1) down in
          let three : AreIn Q (tys_instance ts (s.leading ++ s.last ∷ s.last ∷ s.last ∷ [])) (ls ++ ys) =
          lasts_in ls ys (s.last ∷ s.last ∷ s.last ∷ []) in_front (values.more in_x (values.more in_y (values.more in_x values.none))) in
          let some : SomeIsTrueAt Q ts fs (ls ++ ys) (equals (A X Z) true_term ∷ []) = trans.at (ls ++ ys) three (first, (second, tt)) in
          let around_it : E (ls ++ ys) (equals (A X Z) true_term) = only_one Q ts fs (ls ++ ys) (equals (A X Z) true_term) some in
          let always : E (ls ++ zs) (equals (A X X) true_term) =
          moved ls in_front ys zs
          (both ls in_front ys zs (last_moves ls in_front ys zs n n 0 0 x zeroth zeroth refl refl)
          (last_moves ls in_front ys zs (n + 2) n 2 0 x refl zeroth refl refl)) (stays ls in_front ys zs 1) around_it in
          let never : SomeIsTrueAt Q ts fs (ls ++ zs) (equals (A X X) false_term ∷ []) = irrefl.at (ls ++ zs) (are_one ls in_front x in_x) tt in
          not_both (ls ++ zs) (A X X) (only_one Q ts fs (ls ++ zs) (equals (A X X) false_term) never) always

      go : (rho : List Value) → AreIn Q (tys_instance ts (s.leading ++ s.last ∷ s.last ∷ [])) rho → AndTwo Q Leading B rho →
          E rho (equals (A X Y) true_term) → SomeIsTrueAt Q ts fs rho (equals (A Y X) false_term ∷ [])
      go rho are it up =
          let sides : IsTypedEquation Q (around tparams Fs (C Asym)) (equals (A Y X) false_term) =
          All-head (IsTypedEquation Q (around tparams Fs (C Asym))) (equals (A Y X) false_term) [] typed.alternatives in
          ⊎_elim (λ is_false. here is_false)
          (λ is_true.
          absurd (circle it.ls it.in_front it.x it.y it.in_x it.in_y (subst (λ (rho : List Value). E rho (equals (A X Y) true_term)) it.is up)
          (subst (λ (rho : List Value). E rho (equals (A Y X) true_term)) it.is is_true)))
          (decided rho (C Asym) typed are (A Y X) 0 sides)
