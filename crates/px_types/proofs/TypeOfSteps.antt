-- The type of a term, step by step as the code finds it.
use Rattle.std.proofs.Common.{◌≡◌, ◌↔◌, ℕ, zero, suc, ◌+◌, ◌<◌, ◌≤◌, ◌^◌, Bool, true, false, ◌&&◌, IsTrue, List, [], ◌∷◌, ◌++◌, length, map, reverse, get_or}
use Rattle.std.proofs.Common.{drop, Option, Some, None, Result, Ok, Err, refl, sym, ◌∙◌, ap, subst, Decides, arith, drop-cons, add-one}
use Rattle.std.specs.Prelude.{slice_get, ◌==◌, ◌-◌, nat_lt}
use Rattle.std.specs.Option.{option_map}
use Rattle.std.specs.Result.{IsErrAnd}
use Rattle.std.specs.List.{list_all}
use Rattle.std.proofs.lemmas.Bool.{false≢true}
use Rattle.std.proofs.lemmas.Bool.Decides.{Decides-like, Decides-eqb, Decides-ltb, same_from_decides}
use Rattle.std.proofs.lemmas.List.{length-map, length-reverse, drop_all, get_or_append_left, get_or-reverse, get_or-map}
use Rattle.std.proofs.lemmas.Option.{slice_get-map, slice_get-get_or, get_or_from_slice_get}
use Rattle.px_terms.specs.declared.types.Ty.{Ty, out-Ty, roll-Ty, roll-out-Ty, map-Ty, fold_out-Ty}
use Rattle.px_terms.specs.declared.types.Ty.TheVariants as type
use Rattle.px_terms.specs.declared.types.Ty.TheOpen.{Ty-F}
use Rattle.px_terms.specs.declared.types.FnType.{FnType}
use Rattle.px_terms.specs.declared.types.Fun.{Fun}
use Rattle.px_terms.specs.declared.term.Term.{Term, out-Term}
use Rattle.px_terms.specs.declared.term.Term.TheVariants as term
use Rattle.px_terms.specs.declared.term.Term.TheOpen.{Term-F}
use Rattle.px_terms.specs.declared.program.ConDef.{ConDef}
use Rattle.px_terms.specs.declared.program.Program.{Program}
use Rattle.px_terms.specs.Types.{tys_instance}
use Rattle.px_types.specs.declared.typings.NotTyped.{NotTyped}
use Rattle.px_types.specs.declared.typings.NotTyped.TheVariants.{IllTyped, NoMemory}
use Rattle.px_types.specs.Faults.{Env}
use Rattle.px_types.specs.Outcome.{same, agrees, Signature, type_of_variable}
use Rattle.px_types.specs.TypeOf.{EndsWithout, Finds, Found, followed, when, takes, is_type_step, is_type, are_types, callee_found, argument_fits}
use Rattle.px_types.specs.TypeOf.{arguments_fit, parts_have, arms_have, literal_type, fields_found, con_type, call_type, constructors_found, match_type}
use Rattle.px_types.specs.TypeOf.{type_found}
use Rattle.px_types.proofs.Sameness.{decides_same}
use Rattle.px_types.proofs.TypeOfExact.{then_follows, true_when}
use Rattle.px_types.proofs.TypeOfShapes.{type_found_at}

pub literal_is : (w : ℕ) → w < 2 ^ 64 → literal_type w ≡ Some type.Word
unfolding literal_type
literal_is w below = then_follows _ _ tt _ (true_when _ ((Decides-ltb w (2 ^ 64)).1 below)) refl

pub false_when : (b : Bool) → b ≡ false → when b ≡ None
unfolding when
false_when true e = absurd (false≢true (sym e))
false_when false e = refl

-- Whether a type is a datatype at these types, by its layer.
con_layer : (T : Ty) (y : Ty-F Ty) (d : ℕ) (types : List Ty) → out-Ty T ≡ y → T ≡ type.Con d types → y ≡ Ty-F.Con d types
con_layer T y d types is e = sym is ∙ ap out-Ty e ∙ type.outs-Con d types

layer_con : (T : Ty) (y : Ty-F Ty) (d : ℕ) (types : List Ty) → out-Ty T ≡ y → y ≡ Ty-F.Con d types → T ≡ type.Con d types
layer_con T y d types is e = sym (roll-out-Ty T) ∙ ap roll-Ty (is ∙ e) ∙ type.rolls-Con d types

con_is : (T : Ty) (y : Ty-F Ty) (d : ℕ) (types : List Ty) (r : Bool) → out-Ty T ≡ y → Decides r (y ≡ Ty-F.Con d types) → r ≡ same T (type.Con d types)
con_is T y d types r is h = same_from_decides r _ (Decides-like _ (layer_con T y d types is) (con_layer T y d types is) h) (decides_same T (type.Con d types))

pub same_con : (T : Ty) (e d : ℕ) (args types : List Ty) (r : Bool) → T ≡ type.Con e args → e ≡ d → (IsTrue r ↔ (args ≡ types)) → r ≡ same T (type.Con d types)
same_con T e d args types r is same h =
    con_is T (Ty-F.Con e args) d types r (ap out-Ty is ∙ type.outs-Con e args) (Decides-like _ (λ k. λ i. Ty-F.Con (same i) (k i)) (λ k. cc) h)

eqb_false : (m n : ℕ) → (m ≡ n → ⊥) → (m == n) ≡ false
eqb_false m n h = go (m == n) (Decides-eqb m n).0
  where
    go : (b : Bool) → (b ≡ true → m ≡ n) → b ≡ false
    go true k = absurd (h (k refl))
    go false k = refl

pub other_con : (T : Ty) (e d : ℕ) (args types : List Ty) → T ≡ type.Con e args → (e ≡ d → ⊥) → (e == d) ≡ same T (type.Con d types)
other_con T e d args types is other =
    eqb_false e d other ∙ con_is T (Ty-F.Con e args) d types false (ap out-Ty is ∙ type.outs-Con e args) (λ k. absurd (false≢true k), λ k. absurd (other cc))

pub word_no_con : (T : Ty) (d : ℕ) (types : List Ty) → T ≡ type.Word → false ≡ same T (type.Con d types)
word_no_con T d types is = con_is T Ty-F.Word d types false (ap out-Ty is ∙ type.outs-Word) (λ k. absurd (false≢true k), λ k. absurd cc)

pub var_no_con : (T : Ty) (n d : ℕ) (types : List Ty) → T ≡ type.Var n → false ≡ same T (type.Con d types)
var_no_con T n d types is = con_is T (Ty-F.Var n) d types false (ap out-Ty is ∙ type.outs-Var n) (λ k. absurd (false≢true k), λ k. absurd cc)

-- Stages.
pub stage : {S T : Type 0} (o : Option S) (f : S → Option T) {whole : Option T} → whole ≡ followed o f → (x : S) → o ≡ Some x → whole ≡ f x
unfolding followed
stage o f e x is = e ∙ ap (λ (p : Option _). followed p f) is

pub ends_here : {S T : Type 0} (o : Option S) (f : S → Option T) (whole : Option T) → whole ≡ followed o f → (end : NotTyped) → EndsWithout o end →
    EndsWithout whole end
unfolding followed
ends_here o f whole e IllTyped h = e ∙ ap (λ (p : Option _). followed p f) h
ends_here o f whole e NoMemory h = tt

pub end_is : {T : Type 0} (whole : Option T) (r : Result T NotTyped) (end : NotTyped) → IsErrAnd r (λ (e : NotTyped). e ≡ end) → EndsWithout whole end →
    Finds whole r
end_is whole (Ok x) end same h = absurd same
end_is whole (Err e) end same h = subst (EndsWithout whole) (sym same) h

pub passed_on : {S T : Type 0} (o : Option S) (f : S → Option T) (whole : Option T) → whole ≡ followed o f → (r : Result T NotTyped) (end : NotTyped) →
    IsErrAnd r (λ (e : NotTyped). e ≡ end) → EndsWithout o end → Finds whole r
passed_on o f whole e r end same h = end_is whole r end same (ends_here o f whole e end h)

pub always_none : {S T : Type 0} (o : Option S) (f : S → Option T) → ((x : S) → f x ≡ None) → followed o f ≡ None
unfolding followed
always_none None f h = refl
always_none (Some x) f h = h x

-- Lists as a loop goes along them.
pub drop_at : {X : Type 0} (xs looked : List X) → looked ≡ xs → (i : ℕ) (x : X) → i < length looked → x ≡ get_or looked i x → drop i xs ≡ x ∷ drop (i + 1) xs
drop_at xs looked same i x h is =
    let item : x ≡ get_or xs i x = is ∙ ap (λ (zs : List _). get_or zs i x) same in
    let below : i < length xs = rw same at h in
    rw (add-one, drop-cons xs i x below, ← item) refl

pub drop_end : {X : Type 0} (xs looked : List X) → looked ≡ xs → (i : ℕ) → length looked ≤ i → drop i xs ≡ []
drop_end xs looked same i h = let over : length xs ≤ i = rw same at h in drop_all i xs over

-- Whether parts have the types at their places.
pub parts_uneven : (bound : List Ty) (parts : List Found) (types : List Ty) → (length parts ≡ length types → ⊥) → parts_have bound parts types ≡ None
unfolding parts_have
parts_uneven bound [] [] h = absurd (h refl)
parts_uneven bound [] (T ∷ types) h = refl
parts_uneven bound (part ∷ parts) [] h = refl
parts_uneven bound (part ∷ parts) (T ∷ types) h =
    always_none (part bound) _ (λ U. always_none (when (same U T)) _ (λ _. parts_uneven bound parts types (λ e. h (omega (arith, e)))))

-- what is found from this part on is what is found of all
abbrev pub HaveSo : (Term → Found) → List Ty → List Term → List Ty → ℕ → Type 0
HaveSo own bound parts wanted i = parts_have bound (map own (drop i parts)) (drop i wanted) ≡ parts_have bound (map own parts) wanted

module _ (own : Term → Found) (bound : List Ty) (parts terms : List Term) (wanted types : List Ty) (same_parts : terms ≡ parts) (same_types : types ≡ wanted)
  where
    have_at : (i : ℕ) (t : Term) (T : Ty) → i < length terms → i < length types → t ≡ get_or terms i t → T ≡ get_or types i T →
        HaveSo own bound parts wanted i →
        parts_have bound (map own parts) wanted ≡ followed (own t bound)
        (λ (U : Ty). followed (when (same U T)) (λ _. parts_have bound (map own (drop (i + 1) parts)) (drop (i + 1) wanted)))
    unfolding parts_have
    have_at i t T h k is js before = sym before ∙ rw (drop_at parts terms same_parts i t h is, drop_at wanted types same_types i T k js) refl

    pub have_next : (i : ℕ) (t : Term) (T U : Ty) → i < length terms → i < length types → t ≡ get_or terms i t → T ≡ get_or types i T → own t bound ≡ Some U →
        same U T ≡ true → HaveSo own bound parts wanted i → HaveSo own bound parts wanted (i + 1)
    have_next i t T U h k is js has agrees before = sym (stage _ _ (stage _ _ (have_at i t T h k is js before) U has) tt (true_when _ agrees))

    pub have_fails : (i : ℕ) (t : Term) (T : Ty) (end : NotTyped) → i < length terms → i < length types → t ≡ get_or terms i t → T ≡ get_or types i T →
        EndsWithout (own t bound) end → HaveSo own bound parts wanted i → EndsWithout (parts_have bound (map own parts) wanted) end
    have_fails i t T end h k is js fails before = ends_here _ _ _ (have_at i t T h k is js before) end fails

    pub have_other : (i : ℕ) (t : Term) (T U : Ty) → i < length terms → i < length types → t ≡ get_or terms i t → T ≡ get_or types i T → own t bound ≡ Some U →
        same U T ≡ false → HaveSo own bound parts wanted i → parts_have bound (map own parts) wanted ≡ None
    have_other i t T U h k is js has differs before = ends_here _ _ _ (stage _ _ (have_at i t T h k is js before) U has) IllTyped (false_when _ differs)

    pub have_end : (i : ℕ) → length terms ≤ i → length types ≤ i → HaveSo own bound parts wanted i → parts_have bound (map own parts) wanted ≡ Some tt
    unfolding parts_have
    have_end i h k before = sym before ∙ rw (drop_end parts terms same_parts i h, drop_end wanted types same_types i k) refl

-- The one type of arms.
pub arms_uneven : (bound types : List Ty) (before : Option Ty) (cons : List ConDef) (arms : List Found) → (length arms ≡ length cons → ⊥) →
    arms_have bound types before cons arms ≡ None
unfolding arms_have
arms_uneven bound types before [] [] h = absurd (h refl)
arms_uneven bound types before [] (arm ∷ arms) h = refl
arms_uneven bound types before (c ∷ cons) [] h = refl
arms_uneven bound types before (c ∷ cons) (arm ∷ arms) h =
    always_none (arm (reverse (tys_instance types c.fields) ++ bound)) _
    (λ T. always_none (when (agrees before T)) _ (λ _. arms_uneven bound types (Some T) cons arms (λ e. h (omega (arith, e)))))

-- what is found from this arm on, where the arms before had such a type, is what is found of all
abbrev pub ArmsSo : (Term → Found) → List Ty → List Ty → List Term → List ConDef → ℕ → Option Ty → Type 0
ArmsSo own bound types arms cons i before = arms_have bound types before (drop i cons) (map own (drop i arms)) ≡ arms_have bound types None cons (map own arms)

module _ (own : Term → Found) (bound types : List Ty) (arms bodies : List Term) (cons looked : List ConDef) (same_arms : bodies ≡ arms)
    (same_cons : looked ≡ cons) where
  abbrev pub inside : ConDef → List Ty
  inside c = reverse (tys_instance types c.fields) ++ bound

  arms_at : (i : ℕ) (before : Option Ty) (t : Term) (c : ConDef) → i < length bodies → i < length looked → t ≡ get_or bodies i t → c ≡ get_or looked i c →
      ArmsSo own bound types arms cons i before →
      arms_have bound types None cons (map own arms) ≡ followed (own t (inside c))
      (λ (T : Ty). followed (when (agrees before T)) (λ _. arms_have bound types (Some T) (drop (i + 1) cons) (map own (drop (i + 1) arms))))
  unfolding arms_have
  arms_at i before t c h k is js so = sym so ∙ rw (drop_at arms bodies same_arms i t h is, drop_at cons looked same_cons i c k js) refl

  pub arms_next : (i : ℕ) (before : Option Ty) (t : Term) (c : ConDef) (T : Ty) → i < length bodies → i < length looked → t ≡ get_or bodies i t →
      c ≡ get_or looked i c → own t (inside c) ≡ Some T → agrees before T ≡ true → ArmsSo own bound types arms cons i before →
      ArmsSo own bound types arms cons (i + 1) (Some T)
  arms_next i before t c T h k is js has same so = sym (stage _ _ (stage _ _ (arms_at i before t c h k is js so) T has) tt (true_when _ same))

  pub arms_fail : (i : ℕ) (before : Option Ty) (t : Term) (c : ConDef) (end : NotTyped) → i < length bodies → i < length looked → t ≡ get_or bodies i t →
      c ≡ get_or looked i c → EndsWithout (own t (inside c)) end → ArmsSo own bound types arms cons i before →
      EndsWithout (arms_have bound types None cons (map own arms)) end
  arms_fail i before t c end h k is js fails so = ends_here _ _ _ (arms_at i before t c h k is js so) end fails

  pub arms_differ : (i : ℕ) (before : Option Ty) (t : Term) (c : ConDef) (T : Ty) → i < length bodies → i < length looked → t ≡ get_or bodies i t →
      c ≡ get_or looked i c → own t (inside c) ≡ Some T → agrees before T ≡ false → ArmsSo own bound types arms cons i before →
      arms_have bound types None cons (map own arms) ≡ None
  arms_differ i before t c T h k is js has differs so = ends_here _ _ _ (stage _ _ (arms_at i before t c h k is js so) T has) IllTyped (false_when _ differs)

  pub arms_end : (i : ℕ) (before : Option Ty) → length bodies ≤ i → length looked ≤ i → ArmsSo own bound types arms cons i before →
      arms_have bound types None cons (map own arms) ≡ before
  unfolding arms_have
  arms_end i before h k so = sym so ∙ rw (drop_end arms bodies same_arms i h, drop_end cons looked same_cons i k) refl

-- Function arguments.
pub arguments_uneven : (E : Env) (fs : List Fun) (takes : List FnType) → (length fs ≡ length takes → ⊥) → arguments_fit E fs takes ≡ None
unfolding arguments_fit
arguments_uneven E [] [] h = absurd (h refl)
arguments_uneven E [] (wanted ∷ others) h = refl
arguments_uneven E (f ∷ fs) [] h = refl
arguments_uneven E (f ∷ fs) (wanted ∷ others) h = always_none (argument_fits E f wanted) _ (λ _. arguments_uneven E fs others (λ e. h (omega (arith, e))))

-- what is found from this argument on is what is found of all
abbrev pub FitSo : Env → List Fun → List FnType → ℕ → Type 0
FitSo E fs takes i = arguments_fit E (drop i fs) (drop i takes) ≡ arguments_fit E fs takes

module _ (E : Env) (fs given : List Fun) (takes wanted : List FnType) (same_funs : given ≡ fs) (same_takes : wanted ≡ takes) where
  fit_at : (i : ℕ) (f : Fun) (F : FnType) → i < length given → i < length wanted → f ≡ get_or given i f → F ≡ get_or wanted i F → FitSo E fs takes i →
      arguments_fit E fs takes ≡ followed (argument_fits E f F) (λ _. arguments_fit E (drop (i + 1) fs) (drop (i + 1) takes))
  unfolding arguments_fit
  fit_at i f F h k is js so = sym so ∙ rw (drop_at fs given same_funs i f h is, drop_at takes wanted same_takes i F k js) refl

  pub fit_next : (i : ℕ) (f : Fun) (F : FnType) (u : Unit {0}) → i < length given → i < length wanted → f ≡ get_or given i f → F ≡ get_or wanted i F →
      argument_fits E f F ≡ Some u → FitSo E fs takes i → FitSo E fs takes (i + 1)
  fit_next i f F u h k is js fits so = sym (stage _ _ (fit_at i f F h k is js so) u fits)

  pub fit_fails : (i : ℕ) (f : Fun) (F : FnType) (end : NotTyped) → i < length given → i < length wanted → f ≡ get_or given i f → F ≡ get_or wanted i F →
      EndsWithout (argument_fits E f F) end → FitSo E fs takes i → EndsWithout (arguments_fit E fs takes) end
  fit_fails i f F end h k is js fails so = ends_here _ _ _ (fit_at i f F h k is js so) end fails

  pub fit_end : (i : ℕ) → length given ≤ i → length wanted ≤ i → FitSo E fs takes i → arguments_fit E fs takes ≡ Some tt
  unfolding arguments_fit
  fit_end i h k so = sym so ∙ rw (drop_end fs given same_funs i h, drop_end takes wanted same_takes i k) refl

-- what the rest of the items from here on tells is what all of them tell
abbrev pub AllSo : {X : Type 0} → (X → Bool) → List X → ℕ → Type 0
AllSo test xs i = list_all test (drop i xs) ≡ list_all test xs

-- A test of each item.
module _ {X : Type 0} (test : X → Bool) (xs looked : List X) (same_items : looked ≡ xs) where
  all_at : (i : ℕ) (x : X) → i < length looked → x ≡ get_or looked i x → AllSo test xs i → list_all test xs ≡ (test x && list_all test (drop (i + 1) xs))
  all_at i x h is so = sym so ∙ ap (list_all test) (drop_at xs looked same_items i x h is)

  pub all_next : (i : ℕ) (x : X) → i < length looked → x ≡ get_or looked i x → test x ≡ true → AllSo test xs i → AllSo test xs (i + 1)
  all_next i x h is e so = sym (all_at i x h is so ∙ ap (λ b. b && list_all test (drop (i + 1) xs)) e)

  pub all_fails : (i : ℕ) (x : X) → i < length looked → x ≡ get_or looked i x → test x ≡ false → AllSo test xs i → false ≡ list_all test xs
  all_fails i x h is e so = sym (all_at i x h is so ∙ ap (λ b. b && list_all test (drop (i + 1) xs)) e)

  pub all_end : (i : ℕ) → length looked ≤ i → AllSo test xs i → true ≡ list_all test xs
  all_end i h so = sym (sym so ∙ ap (list_all test) (drop_end xs looked same_items i h))

-- Pattern variables.
pub variable_later : {X Y : Type 0} (f : X → Y) (xs : List X) (ys : List Y) (n : ℕ) → length xs ≤ n →
    slice_get (reverse (map f xs) ++ ys) n ≡ slice_get ys (n - length xs)
variable_later f xs ys n h =
    let long : length (reverse (map f xs)) ≡ length xs = simp (length-reverse, length-map) refl in
    get_behind (reverse (map f xs)) ys n (rw long h) ∙ ap (λ m. slice_get ys (n - m)) long
  where
    get_behind : {Y : Type 0} (zs ys : List Y) (n : ℕ) → length zs ≤ n → slice_get (zs ++ ys) n ≡ slice_get ys (n - length zs)
    get_behind [] ys n h = ap (slice_get ys) (omega arith)
    get_behind (z ∷ zs) ys zero h = absurd (omega arith)
    get_behind (z ∷ zs) ys (suc n) h = get_behind zs ys n (omega arith) ∙ ap (slice_get ys) (omega arith)

pub variable_here : {X Y : Type 0} (f : X → Y) (xs : List X) (ys : List Y) (n : ℕ) (x : X) → n < length xs → slice_get xs (length xs - 1 - n) ≡ Some x →
    slice_get (reverse (map f xs) ++ ys) n ≡ Some (f x)
variable_here {X} {Y} f xs ys n x h is =
    let long : length (reverse (map f xs)) ≡ length xs = simp (length-reverse, length-map) refl in
    let mapped : length (map f xs) ≡ length xs = length-map xs f in
    let within : n < length (reverse (map f xs)) = rw long h in
    let inside : n < length (map f xs) = rw mapped h in
    let found : slice_get (map f xs) (length (map f xs) - 1 - n) ≡ Some (f x) = rw mapped (slice_get-map f xs (length xs - 1 - n) ∙ ap (option_map f) is) in
    let first : get_or (reverse (map f xs) ++ ys) n (f x) ≡ f x =
    get_or_append_left (reverse (map f xs)) ys (f x) n within ∙ get_or-reverse (map f xs) n (f x) inside
    ∙ get_or_from_slice_get (map f xs) (length (map f xs) - 1 - n) (f x) (f x) found in
    slice_get-get_or (reverse (map f xs) ++ ys) n (f x) (longer (reverse (map f xs)) ys n within) ∙ ap Some first
  where
    longer : (zs ys : List Y) (n : ℕ) → n < length zs → n < length (zs ++ ys)
    longer [] ys n h = absurd (omega arith)
    longer (z ∷ zs) ys zero h = omega arith
    longer (z ∷ zs) ys (suc n) h = let k : n < length (zs ++ ys) = longer zs ys n (omega arith) in omega arith

-- Types, by their kinds.
module _ (P : Program) (tparams : ℕ) where
  abbrev type_over : Ty-F Ty → Bool
  type_over Ty-F.Word = true
  type_over (Ty-F.Var n) = nat_lt n tparams
  type_over (Ty-F.Con d args) = takes P d (length args) && are_types P tparams args

  all_of_map : (types : List Ty) → list_all (λ (b : Bool). b) (map (is_type P tparams) types) ≡ list_all (is_type P tparams) types
  all_of_map [] = refl
  all_of_map (T ∷ types) = ap (λ b. is_type P tparams T && b) (all_of_map types)

  layer_over : (y : Ty-F Ty) → is_type_step P tparams (map-Ty Ty Bool (is_type P tparams) y) ≡ type_over y
  unfolding are_types
  layer_over Ty-F.Word = refl
  layer_over (Ty-F.Var n) = refl
  layer_over (Ty-F.Con d args) = λ i. takes P d (length-map args (is_type P tparams) i) && all_of_map args i

  type_at : (T : Ty) (y : Ty-F Ty) → out-Ty T ≡ y → is_type P tparams T ≡ type_over y
  unfolding is_type
  type_at T y is = fold_out-Ty Bool (is_type_step P tparams) T ∙ layer_over (out-Ty T) ∙ ap type_over is

  pub word_is_type : (T : Ty) → T ≡ type.Word → true ≡ is_type P tparams T
  word_is_type T is = sym (type_at T Ty-F.Word (ap out-Ty is ∙ type.outs-Word))

  pub var_is_type : (T : Ty) (n : ℕ) → T ≡ type.Var n → nat_lt n tparams ≡ is_type P tparams T
  var_is_type T n is = sym (type_at T (Ty-F.Var n) (ap out-Ty is ∙ type.outs-Var n))

  pub con_is_type : (T : Ty) (d : ℕ) (args : List Ty) (b : Bool) → T ≡ type.Con d args → takes P d (length args) ≡ true → b ≡ are_types P tparams args →
      b ≡ is_type P tparams T
  con_is_type T d args b is counted e =
      e ∙ sym (type_at T (Ty-F.Con d args) (ap out-Ty is ∙ type.outs-Con d args) ∙ ap (λ t. t && are_types P tparams args) counted)

  pub con_is_no_type : (T : Ty) (d : ℕ) (args : List Ty) → T ≡ type.Con d args → takes P d (length args) ≡ false → false ≡ is_type P tparams T
  con_is_no_type T d args is counted = sym (type_at T (Ty-F.Con d args) (ap out-Ty is ∙ type.outs-Con d args) ∙ ap (λ t. t && are_types P tparams args) counted)

-- Terms, by their kinds.
module _ (E : Env) (t : Term) (bound : List Ty) where
  pub free_found : (n : ℕ) → t ≡ term.Free n → type_found E t bound ≡ type_of_variable E n
  free_found n is = type_found_at E t (Term-F.Free n) bound (ap out-Term is ∙ term.outs-Free n)

  pub bound_found : (n : ℕ) → t ≡ term.Bound n → type_found E t bound ≡ slice_get bound n
  bound_found n is = type_found_at E t (Term-F.Bound n) bound (ap out-Term is ∙ term.outs-Bound n)

  pub literal_found : (w : ℕ) (T : Ty) → t ≡ term.Lit w → literal_type w ≡ Some T → type_found E t bound ≡ Some T
  literal_found w T is e = type_found_at E t (Term-F.Lit w) bound (ap out-Term is ∙ term.outs-Lit w) ∙ e

  pub con_found : (d k : ℕ) (types : List Ty) (fields : List Term) → t ≡ term.Con d k types fields →
      type_found E t bound ≡ followed (fields_found E d k types)
      (λ (wanted : List Ty). followed (parts_have bound (map (type_found E) fields) wanted) (λ _. Some (type.Con d types)))
  unfolding con_type
  con_found d k types fields is = type_found_at E t (Term-F.Con d k types fields) bound (ap out-Term is ∙ term.outs-Con d k types fields)

  pub call_found : (f : Fun) (funs : List Fun) (args : List Term) → t ≡ term.Call f funs args →
      type_found E t bound ≡ followed (callee_found E f)
      (λ (s : Signature). followed (arguments_fit E funs s.takes) (λ _. followed (parts_have bound (map (type_found E) args) s.params) (λ _. Some s.result)))
  unfolding call_type
  call_found f funs args is = type_found_at E t (Term-F.Call f funs args) bound (ap out-Term is ∙ term.outs-Call f funs args)

  pub match_found : (on : Term) (d : ℕ) (types : List Ty) (arms : List Term) → t ≡ term.Match on d types arms →
      type_found E t bound ≡ followed (type_found E on bound)
      (λ (T : Ty). followed (constructors_found E T d types) (λ (cons : List ConDef). arms_have bound types None cons (map (type_found E) arms)))
  unfolding match_type
  match_found on d types arms is = type_found_at E t (Term-F.Match on d types arms) bound (ap out-Term is ∙ term.outs-Match on d types arms)

-- what is found in one place is what is found in another
pub finds_at : {T : Type 0} (o p : Option T) (r : Result T NotTyped) → o ≡ p → Finds p r → Finds o r
finds_at o p r e h = subst (λ (q : Option _). Finds q r) (sym e) h

-- no item is missing within a list
pub no_item : {X : Type 0} (xs : List X) (i : ℕ) → i < length xs → slice_get xs i ≡ None → ⊥
no_item [] i h e = absurd (omega arith)
no_item (x ∷ xs) zero h e = absurd cc
no_item (x ∷ xs) (suc i) h e = no_item xs i (omega arith) e

pub arms_uneven_own : (own : Term → Found) (bound types : List Ty) (before : Option Ty) (cons : List ConDef) (arms : List Term) →
    (length arms ≡ length cons → ⊥) → arms_have bound types before cons (map own arms) ≡ None
arms_uneven_own own bound types before cons arms h = arms_uneven bound types before cons (map own arms) (λ e. h (sym (length-map arms own) ∙ e))

-- an item of a mapped list
pub item_map : {X Y : Type 0} (f : X → Y) (xs : List X) (i : ℕ) (x : X) → i < length xs → x ≡ get_or xs i x → f x ≡ get_or (map f xs) i (f x)
item_map f xs i x h is = ap f is ∙ sym (get_or-map f xs i x (f x) h)

pub map_below : {X Y : Type 0} (f : X → Y) (xs : List X) (i : ℕ) → i < length xs → i < length (map f xs)
map_below f xs i h = subst (λ n. i < n) (sym (length-map xs f)) h

pub map_over : {X Y : Type 0} (f : X → Y) (xs : List X) (i : ℕ) → length xs ≤ i → length (map f xs) ≤ i
map_over f xs i h = subst (λ n. n ≤ i) (sym (length-map xs f)) h

pub arguments_uneven_map : (g : FnType → FnType) (E : Env) (fs : List Fun) (others : List FnType) → (length fs ≡ length others → ⊥) →
    arguments_fit E fs (map g others) ≡ None
arguments_uneven_map g E fs others h = arguments_uneven E fs (map g others) (λ e. h (e ∙ length-map others g))

pub parts_uneven_map : (own : Term → Found) (bound : List Ty) (parts : List Term) (g : Ty → Ty) (types : List Ty) → (length parts ≡ length types → ⊥) →
    parts_have bound (map own parts) (map g types) ≡ None
parts_uneven_map own bound parts g types h = parts_uneven bound (map own parts) (map g types) (λ e. h (sym (length-map parts own) ∙ e ∙ length-map types g))
