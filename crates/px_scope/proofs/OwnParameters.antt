-- A datatype that stands inside itself has its own type parameters as arguments, in order.
use Rattle.std.proofs.Common.{◌≡◌, ℕ, ◌+◌, ◌<◌, ◌^◌, Bool, true, false, not, List, [], ◌∷◌, ◌++◌, map, length, Option, Some, None, refl, sym, ap, ◌∙◌, subst, arith, append-nil, append_assoc, length-append}
use Rattle.std.specs.Prelude.{Contains, ◌||◌}
use Rattle.std.specs.List.{prefix_len}
use Rattle.std.specs.Str.{bytes_eq}
use Rattle.std.proofs.lemmas.Bool.{and_parts, lt-ltb}
use Rattle.std.proofs.lemmas.Slice.Eq.{bytes_eq-Decides}
use Rattle.px_base.specs.declared.raw.RawTyKind.TheVariants as type_kinds
use Rattle.px_base.specs.declared.raw.RawTy.{RawTy, out-RawTy}
use Rattle.px_base.specs.declared.raw.RawTy.TheViews.{out-roll-RawTy}
use Rattle.px_base.specs.Distinct.{AreDistinct}
use Rattle.px_base.specs.Fitting.{Range, AreParametersFrom, last, next}
use Rattle.px_parser.specs.declared.surface.Name.{Name}
use Rattle.px_parser.specs.declared.surface.SType.{SType, out-SType}
use Rattle.px_scope.specs.declared.globals.Globals.{Globals}
use Rattle.px_scope.specs.declared.locals.TypeLocals.{TypeLocals}
use Rattle.px_scope.specs.Names.{is_name, number_of}
use Rattle.px_scope.specs.Standing.{type_of}
use Rattle.px_scope.specs.Rules.{lone_name, are_parameters, is_type_name}
use Rattle.px_scope.specs.Uses.{first_broken}
use Rattle.px_scope.specs.Declaring.{texts, with_type_parameter}
use Rattle.px_scope.specs.ItemUses.{type_parameters_uses}
use Rattle.px_scope.specs.Numbers.{IsType, written, AreTypes, none, more}
use Rattle.px_scope.proofs.ParameterSteps.{type_parameter_use}
use Rattle.px_scope.proofs.FineParts.{fine_front, fine_back, rule_kept}
use Rattle.px_scope.proofs.DistinctNames.{contains_later, distinct_push, not_among, none_before}

-- The datatype of this number is being declared, and its type parameters have names of their own.
pub record IsOwn (T : TypeLocals) (R : Range) (n : ℕ) : Type 0 where
  pub own : T.own ≡ Some n
  pub tparams : R.tparams ≡ length T.parameters
  pub few : length T.parameters < 2 ^ 32
  pub distinct : AreDistinct T.parameters

-- the place of a name that stands nowhere before it
place_of : (front back : List (List ℕ)) (name : List ℕ) → (Contains front name → ⊥) →
    prefix_len (λ other. not (bytes_eq name other)) (front ++ name ∷ back) ≡ length front
place_of [] back name new = rw ((bytes_eq-Decides name name).1 refl) refl
place_of (x ∷ front) back name new = at_test (bytes_eq name x) refl (place_of front back name (λ c. new (contains_later x front name c)))
  where
    at_test : (b : Bool) → bytes_eq name x ≡ b → prefix_len (λ other. not (bytes_eq name other)) (front ++ name ∷ back) ≡ length front →
        prefix_len (λ other. not (bytes_eq name other)) (x ∷ (front ++ name ∷ back)) ≡ length (x ∷ front)
    at_test true test rest = absurd (new (0, omega arith, sym ((bytes_eq-Decides name x).0 test)))
    at_test false test rest = rw test (omega (arith, rest))

-- so it is found there
number_at : (names front back : List (List ℕ)) (name : List ℕ) → names ≡ front ++ name ∷ back → AreDistinct names → length names < 2 ^ 32 →
    number_of names name ≡ Some (length front)
number_at names front back name is distinct few =
    let place = place_of front back name (none_before front back name (subst AreDistinct is distinct)) in
    let within : length front < length (front ++ name ∷ back) = omega (arith, length-append front (name ∷ back)) in
    let below : length front < 2 ^ 32 = omega (arith, length-append front (name ∷ back), ap length is) in
    let test = lt-ltb (length front) (length (front ++ name ∷ back)) within in
    rw (is, place, test, lt-ltb (length front) (2 ^ 32) below) refl

-- a type without arguments, by its lone name
lone_at : (args : List SType) (text name : List ℕ) → (elim args as (λ _. Option (List ℕ)) [ [] ↦ Some text | _ ↦ None ]) ≡ Some name → (args ≡ []) × (text ≡ name)
lone_at [] text name is = (refl, cc)
lone_at (a ∷ args) text name is = absurd cc

-- the first argument is the first type parameter, and so on
first_parameter : (a : Option (List ℕ)) (args : List (Option (List ℕ))) (p : List ℕ) (ps : List (List ℕ)) → are_parameters (a ∷ args) (p ∷ ps) ≡ true →
    (a ≡ Some p) × (are_parameters args ps ≡ true)
first_parameter None args p ps test = absurd cc
first_parameter (Some a) args p ps test =
    let parts = and_parts (bytes_eq a p) (are_parameters args ps) test in
    (ap Some ((bytes_eq-Decides a p).0 parts.0), parts.1)

-- no arguments are numbered where none are written
no_types : {G : Globals} {T : TypeLocals} {ss : List SType} {ts : List RawTy} → AreTypes G T ss ts → ss ≡ [] → ts ≡ []
no_types none is = refl
no_types (more first rest) is = absurd cc

module _ (G : Globals) (T : TypeLocals) (distinct : AreDistinct T.parameters) (few : length T.parameters < 2 ^ 32) where
  -- a type parameter that is written without arguments
  one_parameter : (front back : List (List ℕ)) (name : List ℕ) {s : SType} {t : RawTy} → T.parameters ≡ front ++ name ∷ back → IsType G T s t →
      lone_name s ≡ Some name → ((out-RawTy t).kind ≡ type_kinds.Var (length front)) × ((out-RawTy t).args ≡ [])
  one_parameter front back name {s} {t} is (written {kind = kind} {args = args} stands are e) lone =
      let alone = lone_at (out-SType s).args (out-SType s).name.text name lone in
      let found : type_of G T name ≡ Some (type_kinds.Var (length front)) = rw (number_at T.parameters front back name is distinct few) refl in
      let same : type_of G T name ≡ Some kind = ap (type_of G T) (sym alone.1) ∙ stands in
      let var : kind ≡ type_kinds.Var (length front) = cc in
      let layer = ap out-RawTy e ∙ out-roll-RawTy (record { at = (out-SType s).name.at; kind = kind; args = args }) in
      (rw layer var, rw layer (no_types are alone.0))

  -- types that are the type parameters from one on, in order
  pub parameters_from : (front names : List (List ℕ)) {ss : List SType} {ts : List RawTy} → T.parameters ≡ front ++ names → AreTypes G T ss ts →
      are_parameters (map lone_name ss) names ≡ true → AreParametersFrom (length front) (length T.parameters) ts
  parameters_from front [] is none test =
      subst (λ n. AreParametersFrom (length front) n []) (ap length (sym (append-nil front)) ∙ ap length (sym is)) last
  parameters_from front (p ∷ ps) is none test = absurd cc
  parameters_from front [] is (more first rest) test = absurd cc
  parameters_from front (p ∷ ps) is (more {s = s} {ss = ss} {t = t} {ts = ts} first rest) test =
      let parts = first_parameter (lone_name s) (map lone_name ss) p ps test in
      let here = one_parameter front ps p is first parts.0 in
      let later : length (front ++ p ∷ []) ≡ length front + 1 = omega (arith, length-append front (p ∷ [])) in
      next here.0 here.1 (subst (λ n. AreParametersFrom n (length T.parameters) ts) later
      (parameters_from (front ++ p ∷ []) ps (is ∙ sym (append_assoc front (p ∷ []) ps)) rest parts.1))

or_second : (a b : Bool) → (a || b) ≡ false → b ≡ false
or_second true b e = absurd cc
or_second false b e = e

-- type parameters that break no rule are new, each by itself
pub distinct_parameters : (G : Globals) (T : TypeLocals) (names : List Name) → first_broken (type_parameters_uses G T names) ≡ None →
    AreDistinct T.parameters → AreDistinct (T.parameters ++ texts names)
distinct_parameters G T [] fine distinct = subst AreDistinct (sym (append-nil T.parameters)) distinct
distinct_parameters G T (name ∷ names) fine distinct =
    let here = type_parameter_use G T name in
    let others = type_parameters_uses G (with_type_parameter T name) names in
    let test = rule_kept name.at (is_type_name G name.text || is_name T.parameters name.text) None (fine_front here others fine) in
    let new : is_name T.parameters name.text ≡ false = or_second (is_type_name G name.text) (is_name T.parameters name.text) test in
    subst AreDistinct (append_assoc T.parameters (name.text ∷ []) (texts names))
    (distinct_parameters G (with_type_parameter T name) names (fine_back here others fine)
    (distinct_push T.parameters name.text distinct (not_among T.parameters name.text new)))
