-- Which functions may be put in, as the code finds it.
use Rattle.std.proofs.Common.{◌≡◌, ◌↔◌, ◌⊎◌, inl, inr, ℕ, suc, ◌+◌, ◌<◌, ◌≤◌, Bool, true, false, IsTrue, List, [], ◌∷◌, length, map, drop, get_or, Some, refl, sym, ◌∙◌, ap, subst}
use Rattle.std.specs.Prelude.{slice_get}
use Rattle.std.proofs.lemmas.Bool.{false≢true}
use Rattle.std.proofs.lemmas.List.{length-map}
use Rattle.px_base.specs.declared.prop.Prop.{Prop}
use Rattle.px_base.specs.declared.prop.PropSet.{PropSet}
use Rattle.px_base.specs.declared.head.Head.{Head}
use Rattle.px_base.specs.declared.head.Head.TheVariants.{Def, Wle, Weq, FnVar}
use Rattle.px_base.specs.PropSets.{HasProp}
use Rattle.px_terms.specs.declared.types.Ty.{Ty}
use Rattle.px_terms.specs.declared.types.Ty.TheVariants as type
use Rattle.px_terms.specs.declared.types.FnType.{FnType}
use Rattle.px_terms.specs.declared.types.Fun.{Fun}
use Rattle.px_terms.specs.declared.program.Def as definition
use Rattle.px_terms.specs.declared.program.Program.{Program}
use Rattle.px_terms.specs.declared.sequent.Context.{Context}
use Rattle.px_terms.specs.Types.{ty_instance, tys_instance, fn_type_instance}
use Rattle.px_terms.specs.Typing.{behind, AreTypes, IsFunction, IsKnown}
use Rattle.px_terms.specs.Typing as typing
use Rattle.px_terms.specs.Programs.{bool_type}
use Rattle.px_terms.specs.Noting.{IsOpenArgument, AreOpenArguments}
use Rattle.px_terms.specs.Noting as noting
use Rattle.px_props.specs.Sets.{IsSetOf}
use Rattle.px_equations.proofs.Lists.{found_one}
use Rattle.px_equations.proofs.Loops.{fails, both_next, both_fail, both_end}

-- What a function that takes no functions gives, by its head.
abbrev Asks : Program → Context → Head → List Ty → List FnType → List Ty → Ty → Type 0
Asks P context (Def n) types takes params T =
    (D : definition.Def) × (slice_get P.defs n ≡ Some D) × (length types ≡ D.tparams) × AreTypes P context.tparams types
    × (takes ≡ map (fn_type_instance types) D.funs) × (params ≡ tys_instance types D.params) × (T ≡ ty_instance types D.result)
Asks P context Wle types takes params T = (types ≡ []) × (params ≡ type.Word ∷ type.Word ∷ []) × (T ≡ bool_type)
Asks P context Weq types takes params T = (types ≡ []) × (params ≡ type.Word ∷ type.Word ∷ []) × (T ≡ bool_type)
Asks P context (FnVar n) types takes params T = (F : FnType) × (slice_get context.funs n ≡ Some F) × (types ≡ []) × (params ≡ F.params) × (T ≡ F.result)

asks : {P : Program} {context : Context} {f : Fun} {takes : List FnType} {params : List Ty} {T : Ty} → IsFunction P context f takes params T →
    Asks P context f.head f.types takes params T
asks (typing.of_definition {D = D} stands count are takes params result) = (D, stands, count, are, takes, params, result)
asks (typing.at_most result) = (refl, refl, result)
asks (typing.equal result) = (refl, refl, result)
asks (typing.of_variable {F = F} stands params result) = (F, stands, refl, params, result)

none_mapped : {X Y : Type 0} (f : X → Y) (xs : List X) → [] ≡ map f xs → xs ≡ []
none_mapped f [] e = refl
none_mapped f (x ∷ xs) e = absurd cc

module _ (P : Program) (context : Context) (f : Fun) (params : List Ty) (T : Ty) where
  -- the head and the types of the function
  made : (h : Head) (types : List Ty) → f.head ≡ h → f.types ≡ types → IsFunction P context (record { head = h; types = types }) [] params T →
      IsFunction P context f [] params T
  made h types e g is = subst (λ (k : Fun). IsFunction P context k [] params T) (λ i. record { head = sym e i; types = sym g i }) is

  asked : (h : Head) → f.head ≡ h → IsFunction P context f [] params T → Asks P context h f.types [] params T
  asked h e is = subst (λ (k : Head). Asks P context k f.types [] params T) e (asks is)

  -- the definition takes no functions, and these types
  abbrev Takes : definition.Def → Type 0
  Takes D = (length f.types ≡ D.tparams) × ((D.funs ≡ []) × AreTypes P context.tparams f.types)

  -- its type at these types is the one that is wanted
  abbrev Gives : definition.Def → Type 0
  Gives D = (tys_instance f.types D.params ≡ params) × (ty_instance f.types D.result ≡ T)

  module _ (n : ℕ) (D : definition.Def) (looked : List definition.Def) (e : f.head ≡ Def n) (same : looked ≡ P.defs) (at : Some D ≡ slice_get looked n) where
    stands : slice_get P.defs n ≡ Some D
    stands = ap (λ (ds : List definition.Def). slice_get ds n) (sym same) ∙ sym at

    there : Takes D → Gives D → IsFunction P context f [] params T
    there (count, (none, are)) (is, gives) =
        made (Def n) f.types e refl (typing.of_definition stands count are (sym (ap (map (fn_type_instance f.types)) none)) (sym is) (sym gives))

    back : Asks P context (Def n) f.types [] params T → Takes D × Gives D
    back (E, found, count, are, takes, is, gives) =
        let one : E ≡ D = found_one P.defs n E D found stands in (
          (
            count ∙ ap (λ (F : definition.Def). F.tparams) one,
            (ap (λ (F : definition.Def). F.funs) (sym one) ∙ none_mapped (fn_type_instance f.types) E.funs takes, are),
          ),
          (
            sym (is ∙ ap (λ (F : definition.Def). tys_instance f.types F.params) one),
            sym (gives ∙ ap (λ (F : definition.Def). ty_instance f.types F.result) one),
          ),
        )

    pub definition_is : (r : Bool) → Takes D → (IsTrue r ↔ Gives D) → IsTrue r ↔ IsFunction P context f [] params T
    definition_is r takes h = (λ t. there takes (h.0 t), λ is. h.1 (back (asked (Def n) e is)).1)

    pub takes_others : (r : Bool) → (IsTrue r ↔ Takes D) → r ≡ false → IsTrue r ↔ IsFunction P context f [] params T
    takes_others r tells unset = (λ t. absurd (false≢true (sym unset ∙ t)), λ is. tells.1 (back (asked (Def n) e is)).0)

  at_most_is : (r : Bool) → f.head ≡ Wle → f.types ≡ [] → (IsTrue r ↔ ((type.Word ∷ type.Word ∷ [] ≡ params) × (bool_type ≡ T))) →
      IsTrue r ↔ IsFunction P context f [] params T
  at_most_is r e g h = (λ t. there (h.0 t), λ is. h.1 (back (asked Wle e is)))
    where
      there : (type.Word ∷ type.Word ∷ [] ≡ params) × (bool_type ≡ T) → IsFunction P context f [] params T
      there (is, gives) =
          subst (λ (ps : List Ty). IsFunction P context f [] ps T) is
          (subst (λ (k : Fun). IsFunction P context k [] (type.Word ∷ type.Word ∷ []) T) (λ i. record { head = sym e i; types = sym g i })
          (typing.at_most (sym gives)))

      back : Asks P context Wle f.types [] params T → (type.Word ∷ type.Word ∷ [] ≡ params) × (bool_type ≡ T)
      back (none, is, gives) = (sym is, sym gives)

  equal_is : (r : Bool) → f.head ≡ Weq → f.types ≡ [] → (IsTrue r ↔ ((type.Word ∷ type.Word ∷ [] ≡ params) × (bool_type ≡ T))) →
      IsTrue r ↔ IsFunction P context f [] params T
  equal_is r e g h = (λ t. there (h.0 t), λ is. h.1 (back (asked Weq e is)))
    where
      there : (type.Word ∷ type.Word ∷ [] ≡ params) × (bool_type ≡ T) → IsFunction P context f [] params T
      there (is, gives) =
          subst (λ (ps : List Ty). IsFunction P context f [] ps T) is
          (subst (λ (k : Fun). IsFunction P context k [] (type.Word ∷ type.Word ∷ []) T) (λ i. record { head = sym e i; types = sym g i })
          (typing.equal (sym gives)))

      back : Asks P context Weq f.types [] params T → (type.Word ∷ type.Word ∷ [] ≡ params) × (bool_type ≡ T)
      back (none, is, gives) = (sym is, sym gives)

  pub comparison_is : (r : Bool) → (f.head ≡ Wle) ⊎ (f.head ≡ Weq) → f.types ≡ [] → (IsTrue r ↔ ((type.Word ∷ type.Word ∷ [] ≡ params) × (bool_type ≡ T))) →
      IsTrue r ↔ IsFunction P context f [] params T
  comparison_is r (inl e) g h = at_most_is r e g h
  comparison_is r (inr e) g h = equal_is r e g h

  pub variable_is : (n : ℕ) (F : FnType) (looked : List FnType) (r : Bool) → f.head ≡ FnVar n → looked ≡ context.funs → Some F ≡ slice_get looked n →
      f.types ≡ [] → (IsTrue r ↔ ((F.params ≡ params) × (F.result ≡ T))) → IsTrue r ↔ IsFunction P context f [] params T
  variable_is n F looked r e same at g h = (λ t. there (h.0 t), λ is. h.1 (back (asked (FnVar n) e is)))
    where
      stands : slice_get context.funs n ≡ Some F
      stands = ap (λ (fs : List FnType). slice_get fs n) (sym same) ∙ sym at

      there : (F.params ≡ params) × (F.result ≡ T) → IsFunction P context f [] params T
      there (is, gives) = made (FnVar n) [] e g (typing.of_variable stands (sym is) (sym gives))

      back : Asks P context (FnVar n) f.types [] params T → (F.params ≡ params) × (F.result ≡ T)
      back (G, found, none, is, gives) =
          let one : G ≡ F = found_one context.funs n G F found stands in
          (sym (is ∙ ap (λ (H : FnType). H.params) one), sym (gives ∙ ap (λ (H : FnType). H.result) one))

-- what is known has all that is assumed
pub has_all : (set assumed : PropSet) (Known : Prop → Type 0) (r : Bool) → IsSetOf set Known → (IsTrue r ↔ ((p : Prop) → HasProp assumed p → HasProp set p)) →
    IsTrue r ↔ ((p : Prop) → HasProp assumed p → Known p)
has_all set assumed Known r says h = (λ t p k. (says p).0 (h.0 t p k), λ all. h.1 (λ p k. (says p).1 (all p k)))

-- The functions so far may be put in.
module _ (P : Program) (n : ℕ) (context : Context) (types : List Ty) where
  abbrev Open : List Fun → List FnType → Type 0
  Open fs takes = AreOpenArguments P n context fs (map (fn_type_instance types) takes)

  abbrev One : Fun → FnType → Type 0
  One f wanted = IsOpenArgument P n context f (fn_type_instance types wanted)

  abbrev pub OpenSo : List Fun → List FnType → ℕ → Type 0
  OpenSo fs takes i = Open (drop i fs) (drop i takes) ↔ Open fs takes

  one_less : (f : Fun) (wanted : FnType) (fs : List Fun) (takes : List FnType) → Open (f ∷ fs) (wanted ∷ takes) → One f wanted × Open fs takes
  one_less f wanted fs takes (noting.more is are) = (is, are)

  one_more : (f : Fun) (wanted : FnType) (fs : List Fun) (takes : List FnType) → One f wanted → Open fs takes → Open (f ∷ fs) (wanted ∷ takes)
  one_more f wanted fs takes is are = noting.more is are

  -- the function takes no functions, and has the type that is wanted
  abbrev Typed : Program → Fun → FnType → Type 0
  Typed Q f wanted = IsFunction Q context f [] (tys_instance types wanted.params) (ty_instance types wanted.result)

  in_program : {Q R : Program} (f : Fun) (wanted : FnType) → Q ≡ R → Typed Q f wanted → Typed R f wanted
  in_program f wanted agree typed = subst (λ (S : Program). Typed S f wanted) agree typed

  -- each property that is assumed is known of it
  abbrev Assumed : Fun → FnType → Type 0
  Assumed f wanted = (p : Prop) → HasProp wanted.props p → IsKnown P (behind n) context f.head p

  one_of : (f : Fun) (wanted : FnType) → Typed P f wanted → Assumed f wanted → One f wanted
  one_of f wanted is has = record { function = is; properties = has }

  pub open_next : (fs seen : List Fun) (takes looked : List FnType) → seen ≡ fs → looked ≡ takes → (i : ℕ) (f : Fun) (wanted : FnType) (Q : Program) → i < length seen →
      i < length looked → f ≡ get_or seen i f → wanted ≡ get_or looked i wanted → Q ≡ P → Typed Q f wanted → Assumed f wanted → OpenSo fs takes i →
      OpenSo fs takes (i + 1)
  open_next fs seen takes looked same alike i f wanted Q h k is js agree typed has =
      both_next Open One one_more one_less fs seen takes looked same alike i f wanted h k is js (one_of f wanted (in_program f wanted agree typed) has)

  pub not_typed : (fs seen : List Fun) (takes looked : List FnType) → seen ≡ fs → looked ≡ takes → (i : ℕ) (f : Fun) (wanted : FnType) (Q : Program) → i < length seen →
      i < length looked → f ≡ get_or seen i f → wanted ≡ get_or looked i wanted → Q ≡ P → (Typed Q f wanted → ⊥) → OpenSo fs takes i →
      IsTrue false ↔ Open fs takes
  not_typed fs seen takes looked same alike i f wanted Q h k is js agree other =
      both_fail Open One one_more one_less fs seen takes looked same alike i f wanted h k is js (λ one. other (in_program f wanted (sym agree) one.function))

  pub not_assumed : (fs seen : List Fun) (takes looked : List FnType) → seen ≡ fs → looked ≡ takes → (i : ℕ) (f : Fun) (wanted : FnType) → i < length seen →
      i < length looked → f ≡ get_or seen i f → wanted ≡ get_or looked i wanted → (Assumed f wanted → ⊥) → OpenSo fs takes i → IsTrue false ↔ Open fs takes
  not_assumed fs seen takes looked same alike i f wanted h k is js other =
      both_fail Open One one_more one_less fs seen takes looked same alike i f wanted h k is js (λ one. other one.properties)

  pub open_end : (fs seen : List Fun) (takes looked : List FnType) → seen ≡ fs → looked ≡ takes → (i : ℕ) → length seen ≤ i → length looked ≤ i →
      OpenSo fs takes i → IsTrue true ↔ Open fs takes
  open_end fs seen takes looked same alike i h k = both_end Open One one_more one_less fs seen takes looked same alike i h k noting.none

  lengths : {gs : List Fun} {wants : List FnType} → AreOpenArguments P n context gs wants → length gs ≡ length wants
  lengths noting.none = refl
  lengths (noting.more is are) = ap suc (lengths are)

  pub uneven : (fs seen : List Fun) (takes looked : List FnType) → seen ≡ fs → looked ≡ takes → (length seen ≡ length looked → ⊥) → IsTrue false ↔ Open fs takes
  uneven fs seen takes looked same alike other =
      fails (λ are. other (ap length same ∙ lengths are ∙ length-map takes (fn_type_instance types) ∙ ap length (sym alike)))
