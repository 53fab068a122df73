-- Which properties fit the type of what is named, as a test and as the rules say.
use Rattle.std.proofs.Common.{◌≡◌, ℕ, ◌+◌, ◌≤◌, Bool, true, false, List, [], ◌∷◌, ◌++◌, length, map, reverse, replicate, Option, Some, None, refl, sym, ◌∙◌, ap, subst, Decides, length-append, if◌then◌else◌}
use Rattle.std.specs.Prelude.{slice_get}
use Rattle.std.specs.Option.{IsSomeAnd, option_map}
use Rattle.std.proofs.lemmas.Bool.{leb-true, le-leb}
use Rattle.std.proofs.lemmas.Bool.Decides.{Decides-and, Decides-like}
use Rattle.std.proofs.lemmas.List.{length-map, length-replicate, length-reverse, reverse-append, reverse-reverse}
use Rattle.px_base.specs.declared.limits.TheConstants.{CLAUSE_VARIABLES}
use Rattle.px_base.specs.declared.prop.Prop.{Prop}
use Rattle.px_base.specs.declared.prop.Prop.TheVariants.{Comm, Assoc, Idem, Sel, Refl, Irrefl, Sym, Antisym, Asym, Trans, Conn}
use Rattle.px_base.specs.declared.head.Head.{Head}
use Rattle.px_base.specs.declared.head.Head.TheVariants.{Def, Wle, Weq, FnVar}
use Rattle.px_terms.specs.declared.types.Ty.{Ty}
use Rattle.px_terms.specs.declared.types.Ty.TheVariants as type
use Rattle.px_terms.specs.declared.types.FnType.{FnType}
use Rattle.px_terms.specs.declared.types.Fun.{Fun}
use Rattle.px_terms.specs.declared.clause.Clause.{Clause}
use Rattle.px_terms.specs.declared.program.Def as definition
use Rattle.px_terms.specs.declared.program.Program.{Program}
use Rattle.px_terms.specs.declared.sequent.Context.{Context}
use Rattle.px_terms.specs.Types.{ty_instance, tys_instance, fn_type_instance, own_types, own_functions}
use Rattle.px_terms.specs.Programs.{bool_type}
use Rattle.px_terms.specs.Typing.{IsFunction}
use Rattle.px_terms.specs.Typing as typing
use Rattle.px_terms.specs.Clauses.{Subject, says, HasResult, clause_for, IsSubject, IsClauseOf, functions_alone}
use Rattle.px_terms.specs.Clauses as clauses
use Rattle.px_terms.specs.TypedPrograms.{Fits}
use Rattle.px_types.specs.Outcome.{passes, same}
use Rattle.px_types.specs.NextOutcome.{Pair, reversed_pair, pair_of, named, is_asked, shape_of, fits_pair, fits}
use Rattle.px_types.proofs.Sameness.{decides_same}
use Rattle.px_types.proofs.Known.{decides_passes}
use Rattle.px_types.proofs.OwnTypes.{length-numbered, stays, list_stays, are_types}

one_some : {X : Type 0} {x y : X} → Some x ≡ Some y → x ≡ y
one_some e = cc

no_some : {X : Type 0} {x : X} → None ≡ Some x → ⊥
no_some e = cc

-- the result's type that a property asks, by the type of the last two parameters
abbrev pub Asks : Prop → Ty → Ty → Type 0
Asks Comm last result = Unit {0}
Asks Assoc last result = result ≡ last
Asks Idem last result = result ≡ last
Asks Sel last result = result ≡ last
Asks Refl last result = result ≡ bool_type
Asks Irrefl last result = result ≡ bool_type
Asks Sym last result = result ≡ bool_type
Asks Antisym last result = result ≡ bool_type
Asks Asym last result = result ≡ bool_type
Asks Trans last result = result ≡ bool_type
Asks Conn last result = result ≡ bool_type

decides_asked : (p : Prop) (last result : Ty) → Decides (is_asked p last result) (Asks p last result)
decides_asked Comm last result = (λ e. tt, λ h. refl)
decides_asked Assoc last result = decides_same result last
decides_asked Idem last result = decides_same result last
decides_asked Sel last result = decides_same result last
decides_asked Refl last result = decides_same result bool_type
decides_asked Irrefl last result = decides_same result bool_type
decides_asked Sym last result = decides_same result bool_type
decides_asked Antisym last result = decides_same result bool_type
decides_asked Asym last result = decides_same result bool_type
decides_asked Trans last result = decides_same result bool_type
decides_asked Conn last result = decides_same result bool_type

asks_of : (s : Subject) (p : Prop) → HasResult s p → Asks p s.last s.result
asks_of s Comm h = tt
asks_of s Assoc h = h
asks_of s Idem h = h
asks_of s Sel h = h
asks_of s Refl h = h
asks_of s Irrefl h = h
asks_of s Sym h = h
asks_of s Antisym h = h
asks_of s Asym h = h
asks_of s Trans h = h
asks_of s Conn h = h

result_of : (s : Subject) (p : Prop) → Asks p s.last s.result → HasResult s p
result_of s Comm h = tt
result_of s Assoc h = h
result_of s Idem h = h
result_of s Sel h = h
result_of s Refl h = h
result_of s Irrefl h = h
result_of s Sym h = h
result_of s Antisym h = h
result_of s Asym h = h
result_of s Trans h = h
result_of s Conn h = h

named_is : (s : Subject) (p : Prop) → (says s p).named ≡ named p
named_is s Comm = refl
named_is s Assoc = refl
named_is s Idem = refl
named_is s Sel = refl
named_is s Refl = refl
named_is s Irrefl = refl
named_is s Sym = refl
named_is s Antisym = refl
named_is s Asym = refl
named_is s Trans = refl
named_is s Conn = refl

-- a clause has the leading variables and those that the property names
clause_variables : (s : Subject) (p : Prop) (tparams : ℕ) (funs : List FnType) → length (clause_for s p tparams funs).vars ≡ length s.leading + named p
clause_variables s p tparams funs =
    length-append s.leading (replicate (says s p).named s.last)
    ∙ ap (λ (n : ℕ). length s.leading + n) (length-replicate (says s p).named s.last ∙ named_is s p)

-- The last two parameters.
record IsPair (params : List Ty) (pair : Pair) : Type 0 where
  leading : List Ty
  shape : params ≡ leading ++ pair.last ∷ pair.last ∷ []
  count : length leading ≡ pair.leading

pair_is : (params leading : List Ty) (last : Ty) → params ≡ leading ++ last ∷ last ∷ [] →
    pair_of params ≡ Some (record { leading = length leading; last = last })
pair_is params leading last e =
    ap pair_of e ∙ ap reversed_pair (reverse-append leading (last ∷ last ∷ [])) ∙ step
  where
    step : reversed_pair (last ∷ last ∷ reverse leading) ≡ Some (record { leading = length leading; last = last })
    step = rw ((decides_same last last).1 refl, length-reverse) refl

module _ (params : List Ty) (pair : Pair) where
  pair_at : (T U : Ty) (more : List Ty) → reverse params ≡ T ∷ U ∷ more → (b : Bool) → same U T ≡ b →
      ◌≡◌ {A = Option Pair} (if b then Some (record { leading = length more; last = T }) else None) (Some pair) → IsPair params pair
  pair_at T U more e false s f = absurd (no_some f)
  pair_at T U more e true s f =
      let one : ◌≡◌ {A = Pair} (record { leading = length more; last = T }) pair = one_some f in
      let last : T ≡ pair.last = ap (λ (x : Pair). x.last) one in
      let other : U ≡ pair.last = (decides_same U T).0 s ∙ last in
      let turned : params ≡ reverse more ++ U ∷ T ∷ [] = sym (reverse-reverse params) ∙ ap reverse e ∙ reverse-append (T ∷ U ∷ []) more in
      record {
        leading = reverse more;
        shape = turned ∙ (λ i. reverse more ++ other i ∷ last i ∷ []);
        count = length-reverse more ∙ ap (λ (x : Pair). x.leading) one;
      }

  pair_from : (r : List Ty) → reverse params ≡ r → reversed_pair r ≡ Some pair → IsPair params pair
  pair_from [] e f = absurd (no_some f)
  pair_from (T ∷ []) e f = absurd (no_some f)
  pair_from (T ∷ U ∷ more) e f = pair_at T U more e (same U T) refl f

-- What is named takes and gives what the property asks.
pub record Shaped (P : Program) (funs : List FnType) (h : Head) (p : Prop) : Type 0 where
  pub params : List Ty
  pub result : Ty
  pub leading : List Ty
  pub last : Ty
  pub stands : shape_of P funs h ≡ Some (params, result)
  pub pair : params ≡ leading ++ last ∷ last ∷ []
  pub asked : Asks p last result
  pub few : length leading + named p ≤ CLAUSE_VARIABLES

-- the last two parameters and the result are as the property asks
abbrev IsAsked : Prop → Ty → Pair → Type 0
IsAsked p result pair = Asks p pair.last result × (pair.leading + named p ≤ CLAUSE_VARIABLES)

decides_pair : (p : Prop) (result : Ty) (pair : Pair) → Decides (fits_pair p result pair) (IsAsked p result pair)
decides_pair p result pair = Decides-and _ _ (decides_asked p pair.last result)
    (leb-true (pair.leading + named p) CLAUSE_VARIABLES, le-leb (pair.leading + named p) CLAUSE_VARIABLES)

decides_type : (p : Prop) (s : List Ty × Ty) → Decides (passes (fits_pair p s.1) (pair_of s.0)) (IsSomeAnd (pair_of s.0) (IsAsked p s.1))
decides_type p s = decides_passes (fits_pair p s.1) (IsAsked p s.1) (decides_pair p s.1) (pair_of s.0)

module _ (P : Program) (funs : List FnType) (h : Head) (p : Prop) where
  shaped_to : (o : Option (List Ty × Ty)) → shape_of P funs h ≡ o → IsSomeAnd o (λ (s : List Ty × Ty). IsSomeAnd (pair_of s.0) (IsAsked p s.1)) →
      Shaped P funs h p
  shaped_to None e some = absurd some
  shaped_to (Some s) e some = at (pair_of s.0) refl some
    where
      at : (q : Option Pair) → pair_of s.0 ≡ q → IsSomeAnd q (IsAsked p s.1) → Shaped P funs h p
      at None f asked = absurd asked
      at (Some pair) f asked =
          let is = pair_from s.0 pair (reverse s.0) refl f in
          record {
            params = s.0;
            result = s.1;
            leading = is.leading;
            last = pair.last;
            stands = e;
            pair = is.shape;
            asked = asked.0;
            few = subst (λ (n : ℕ). n + named p ≤ CLAUSE_VARIABLES) (sym is.count) asked.1;
          }

  to_shaped : Shaped P funs h p → IsSomeAnd (shape_of P funs h) (λ (s : List Ty × Ty). IsSomeAnd (pair_of s.0) (IsAsked p s.1))
  to_shaped is =
      let asked : IsSomeAnd (pair_of is.params) (IsAsked p is.result) = subst (λ (q : Option Pair). IsSomeAnd q (IsAsked p is.result))
      (sym (pair_is is.params is.leading is.last is.pair)) (is.asked, is.few) in
      subst (λ (o : Option (List Ty × Ty)). IsSomeAnd o (λ (s : List Ty × Ty). IsSomeAnd (pair_of s.0) (IsAsked p s.1))) (sym is.stands) asked

  decides_shaped : Decides (fits P funs h p) (Shaped P funs h p)
  unfolding fits
  decides_shaped = Decides-like _ (shaped_to (shape_of P funs h) refl) to_shaped
      (decides_passes _ (λ (s : List Ty × Ty). IsSomeAnd (pair_of s.0) (IsAsked p s.1)) (decides_type p) (shape_of P funs h))

-- what a function gives of what may be there is there
mapped_some : {A B : Type 0} (f : A → B) (o : Option A) (b : B) → option_map f o ≡ Some b → (a : A) × (o ≡ Some a) × (f a ≡ b)
mapped_some f None b e = absurd (no_some e)
mapped_some f (Some a) b e = (a, refl, one_some e)

-- what the head takes and gives, where these types are put in
abbrev Takes : Program → List FnType → Head → List Ty → List Ty → Ty → Type 0
Takes P funs (Def n) types params T = (D : definition.Def) × (slice_get P.defs n ≡ Some D) × (params ≡ tys_instance types D.params) ×
    (T ≡ ty_instance types D.result)
Takes P funs Wle types params T = (params ≡ type.Word ∷ type.Word ∷ []) × (T ≡ bool_type)
Takes P funs Weq types params T = (params ≡ type.Word ∷ type.Word ∷ []) × (T ≡ bool_type)
Takes P funs (FnVar i) types params T = (F : FnType) × (slice_get funs i ≡ Some F) × (params ≡ F.params) × (T ≡ F.result)

takes_of : (P : Program) (context : Context) (f : Fun) (takes : List FnType) (params : List Ty) (T : Ty) → IsFunction P context f takes params T →
    Takes P context.funs f.head f.types params T
takes_of P context _ takes params T (typing.of_definition {D = D} found few types takes_is params_is result_is) = (D, found, params_is, result_is)
takes_of P context _ takes params T (typing.at_most is) = (refl, is)
takes_of P context _ takes params T (typing.equal is) = (refl, is)
takes_of P context _ takes params T (typing.of_variable {F = F} found params_is result_is) = (F, found, params_is, result_is)

module _ (P : Program) (funs : List FnType) (p : Prop) where
  -- what a subject says of the shape
  shaped_as : (h : Head) (s : Subject) (params : List Ty) (clause : Clause) (tparams : ℕ) (own : List FnType) → shape_of P funs h ≡ Some (params, s.result) →
      params ≡ s.leading ++ s.last ∷ s.last ∷ [] → HasResult s p → clause ≡ clause_for s p tparams own → length clause.vars ≤ CLAUSE_VARIABLES → Shaped P funs h
      p
  shaped_as h s params clause tparams own stands pair asked is few =
      let count : length clause.vars ≡ length s.leading + named p = ap (λ (c : Clause). length c.vars) is ∙ clause_variables s p tparams own in
      record {
        params = params;
        result = s.result;
        leading = s.leading;
        last = s.last;
        stands = stands;
        pair = pair;
        asked = asks_of s p asked;
        few = subst (λ (n : ℕ). n ≤ CLAUSE_VARIABLES) count few;
      }

  shaped_clause : (h : Head) (clause : Clause) → IsClauseOf P funs h p clause → length clause.vars ≤ CLAUSE_VARIABLES → Shaped P funs h p
  shaped_clause _ clause (clauses.of_definition {n = n} {D = D} found s is asked clause_is) few =
      let takes = takes_of P (functions_alone D.tparams D.funs) (record { head = Def n; types = own_types D.tparams }) is.takes is.params s.result
      is.function in
      let same_def : takes.0 ≡ D = one_some (sym takes.1 ∙ found) in
      let params : D.params ≡ is.params = ap (λ (d : definition.Def). d.params) (sym same_def) ∙ (sym (list_stays D.tparams takes.0.params) ∙ sym takes.2) in
      let result : D.result ≡ s.result = ap (λ (d : definition.Def). d.result) (sym same_def) ∙ (sym (stays D.tparams takes.0.result) ∙ sym takes.3) in
      let stands : shape_of P funs (Def n) ≡ Some (is.params, s.result) = ap (option_map (λ (d : definition.Def). (d.params, d.result))) found ∙
      (λ i. Some (params i, result i)) in
      shaped_as (Def n) s is.params clause D.tparams D.funs stands is.shape asked clause_is few
  shaped_clause _ clause (clauses.of_at_most s is asked clause_is) few =
      let takes = takes_of P (functions_alone 0 funs) (record { head = Wle; types = [] }) is.takes is.params s.result is.function in
      let stands : shape_of P funs Wle ≡ Some (is.params, s.result) = λ i. Some (sym takes.0 i, sym takes.1 i) in
      shaped_as Wle s is.params clause 0 [] stands is.shape asked clause_is few
  shaped_clause _ clause (clauses.of_equal s is asked clause_is) few =
      let takes = takes_of P (functions_alone 0 funs) (record { head = Weq; types = [] }) is.takes is.params s.result is.function in
      let stands : shape_of P funs Weq ≡ Some (is.params, s.result) = λ i. Some (sym takes.0 i, sym takes.1 i) in
      shaped_as Weq s is.params clause 0 [] stands is.shape asked clause_is few
  shaped_clause _ clause (clauses.of_variable {i = i} s is asked clause_is) few =
      let takes = takes_of P (functions_alone 0 funs) (record { head = FnVar i; types = [] }) is.takes is.params s.result is.function in
      let stands : shape_of P funs (FnVar i) ≡ Some (is.params, s.result) = ap (option_map (λ (F : FnType). (F.params, F.result))) takes.1 ∙
      (λ j. Some (sym takes.2 j, sym takes.3 j)) in
      shaped_as (FnVar i) s is.params clause 0 [] stands is.shape asked clause_is few

  pub fits_shaped : (h : Head) → Fits P funs h p → Shaped P funs h p
  fits_shaped h fit = shaped_clause h fit.clause fit.says fit.few

  -- the function with its own variables put in, by its signature and the types of its parameters
  abbrev subject : Head → ℕ → ℕ → List Ty → Ty → Ty → Subject
  subject h tparams count leading last result = record {
    function = record { head = h; types = own_types tparams };
    given = own_functions count;
    leading = leading;
    last = last;
    result = result;
  }

  few_variables : (s : Subject) (tparams : ℕ) (own : List FnType) → length s.leading + named p ≤ CLAUSE_VARIABLES →
      length (clause_for s p tparams own).vars ≤ CLAUSE_VARIABLES
  few_variables s tparams own few = subst (λ (n : ℕ). n ≤ CLAUSE_VARIABLES) (sym (clause_variables s p tparams own)) few

  fits_definition : (n : ℕ) (D : definition.Def) (leading : List Ty) (last : Ty) → slice_get P.defs n ≡ Some D → D.params ≡ leading ++ last ∷ last ∷ [] →
      Asks p last D.result → length leading + named p ≤ CLAUSE_VARIABLES → Fits P funs (Def n) p
  fits_definition n D leading last found pair asked few =
      let s = subject (Def n) D.tparams (length D.funs) leading last D.result in
      let function = typing.of_definition found (length-numbered (λ (i : ℕ). type.Var i) 0 D.tparams) (are_types P D.tparams) refl
      (sym (list_stays D.tparams D.params)) (sym (stays D.tparams D.result)) in
      let taken = length-numbered {A = Fun} (λ (i : ℕ). record { head = FnVar i; types = [] }) 0 (length D.funs) ∙ sym
      (length-map D.funs (fn_type_instance (own_types D.tparams))) in
      record {
        clause = clause_for s p D.tparams D.funs;
        says = clauses.of_definition found s (record {
          takes = map (fn_type_instance (own_types D.tparams)) D.funs;
          params = D.params;
          function = function;
          taken = taken;
          shape = pair;
          is_function = refl;
          is_given = refl;
        }) (result_of s p asked) refl;
        few = few_variables s D.tparams D.funs few;
      }

  -- a function without variables of its own is a subject
  is_plain : (h : Head) (params leading : List Ty) (last result : Ty) →
      IsFunction P (functions_alone 0 funs) (record { head = h; types = [] }) [] params result → params ≡ leading ++ last ∷ last ∷ [] → IsSubject P
      (functions_alone 0 funs) (record { head = h; types = [] }) [] (subject h 0 0 leading last result)
  is_plain h params leading last result function pair = record {
    takes = [];
    params = params;
    function = function;
    taken = refl;
    shape = pair;
    is_function = refl;
    is_given = refl;
  }

  pub shaped_fits : (h : Head) → Shaped P funs h p → Fits P funs h p
  shaped_fits (Def n) is =
      let found = mapped_some (λ (d : definition.Def). (d.params, d.result)) (slice_get P.defs n) (is.params, is.result) is.stands in
      let params : found.0.params ≡ is.params = ap (λ (x : List Ty × Ty). x.0) found.2 in
      let result : found.0.result ≡ is.result = ap (λ (x : List Ty × Ty). x.1) found.2 in
      fits_definition n found.0 is.leading is.last found.1 (params ∙ is.pair) (subst (Asks p is.last) (sym result) is.asked) is.few
  shaped_fits Wle is =
      let one : ◌≡◌ {A = List Ty × Ty} (type.Word ∷ type.Word ∷ [], bool_type) (is.params, is.result) = one_some is.stands in
      let s = subject Wle 0 0 is.leading is.last bool_type in
      record {
        clause = clause_for s p 0 [];
        says = clauses.of_at_most s (is_plain Wle (type.Word ∷ type.Word ∷ []) is.leading is.last bool_type (typing.at_most refl)
            (ap (λ (x : List Ty × Ty). x.0) one ∙ is.pair)) (result_of s p (subst (Asks p is.last) (sym (ap (λ (x : List Ty × Ty). x.1) one)) is.asked)) refl;
        few = few_variables s 0 [] is.few;
      }
  shaped_fits Weq is =
      let one : ◌≡◌ {A = List Ty × Ty} (type.Word ∷ type.Word ∷ [], bool_type) (is.params, is.result) = one_some is.stands in
      let s = subject Weq 0 0 is.leading is.last bool_type in
      record {
        clause = clause_for s p 0 [];
        says = clauses.of_equal s (is_plain Weq (type.Word ∷ type.Word ∷ []) is.leading is.last bool_type (typing.equal refl)
            (ap (λ (x : List Ty × Ty). x.0) one ∙ is.pair)) (result_of s p (subst (Asks p is.last) (sym (ap (λ (x : List Ty × Ty). x.1) one)) is.asked)) refl;
        few = few_variables s 0 [] is.few;
      }
  shaped_fits (FnVar i) is =
      let found = mapped_some (λ (F : FnType). (F.params, F.result)) (slice_get funs i) (is.params, is.result) is.stands in
      let params : found.0.params ≡ is.params = ap (λ (x : List Ty × Ty). x.0) found.2 in
      let result : found.0.result ≡ is.result = ap (λ (x : List Ty × Ty). x.1) found.2 in
      let s = subject (FnVar i) 0 0 is.leading is.last found.0.result in
      record {
        clause = clause_for s p 0 [];
        says = clauses.of_variable s (is_plain (FnVar i) found.0.params is.leading is.last found.0.result (typing.of_variable found.1 refl refl)
            (params ∙ is.pair)) (result_of s p (subst (Asks p is.last) (sym result) is.asked)) refl;
        few = few_variables s 0 [] is.few;
      }

-- the test says what the rule asks
pub decides_fits : (P : Program) (funs : List FnType) (h : Head) (p : Prop) → Decides (fits P funs h p) (Fits P funs h p)
decides_fits P funs h p = Decides-like _ (shaped_fits P funs p h) (fits_shaped P funs p h) (decides_shaped P funs h p)

-- the same property fits what has the same type
pub fits_again : {P Q : Program} {funs others : List FnType} {h k : Head} {p : Prop} → shape_of P funs h ≡ shape_of Q others k → Fits P funs h p →
    Fits Q others k p
fits_again {P} {Q} {funs} {others} {h} {k} {p} e fit =
    let is = fits_shaped P funs p h fit in
    shaped_fits Q others p k (record {
      params = is.params;
      result = is.result;
      leading = is.leading;
      last = is.last;
      stands = sym e ∙ is.stands;
      pair = is.pair;
      asked = is.asked;
      few = is.few;
    })
