-- What is open to an obligation is typed: the clauses of properties, of lemmas, and the obligation's own.
use Rattle.std.proofs.Common.{◌≡◌, ℕ, zero, suc, ◌+◌, ◌<◌, List, [], ◌∷◌, ◌++◌, map, length, replicate, Option, Some, slice_get, unwrap_or}
use Rattle.std.proofs.Common.{refl, sym, ap, ◌∙◌, subst, subst₂, arith}
use Rattle.std.specs.List.{All}
use Rattle.std.specs.Option.{IsSomeAnd}
use Rattle.std.proofs.lemmas.List.Elements.{All-head, All-tail, All-nil, All-cons, All-weaker}
use Rattle.px_terms.specs.Prop.{Prop}
use Rattle.px_terms.specs.Prop.TheVariants.{Comm, Assoc, Idem, Sel, Refl, Irrefl, Sym, Antisym, Asym, Trans, Conn}
use Rattle.px_terms.specs.PropSets.{HasProp}
use Rattle.px_terms.specs.Head.{Head}
use Rattle.px_terms.specs.Head.TheVariants.{Def, Wle, Weq, FnVar}
use Rattle.px_terms.specs.declared.types.Ty.{Ty, roll-Ty}
use Rattle.px_terms.specs.declared.types.Ty.TheVariants as type
use Rattle.px_terms.specs.declared.types.Ty.TheViews.{roll-out-Ty}
use Rattle.px_terms.specs.declared.types.Ty.TheOpen.{Ty-F}
use Rattle.px_terms.specs.declared.types.FnType.{FnType}
use Rattle.px_terms.specs.declared.types.Fun.{Fun}
use Rattle.px_terms.specs.declared.term.Term.{Term}
use Rattle.px_terms.specs.declared.term.Term.TheVariants as term
use Rattle.px_terms.specs.declared.term.Term.TheOpen.{Term-F}
use Rattle.px_terms.specs.declared.clause.Equation.{Equation}
use Rattle.px_terms.specs.declared.clause.Clause.{Clause}
use Rattle.px_terms.specs.declared.program.Def as definition
use Rattle.px_terms.specs.declared.program.Lemma as proposition
use Rattle.px_terms.specs.declared.program.Declared.{Declared}
use Rattle.px_terms.specs.declared.program.Declared.TheVariants as declared
use Rattle.px_terms.specs.declared.program.Program.{Program}
use Rattle.px_terms.specs.declared.sequent.Context.{Context}
use Rattle.px_terms.specs.Types.{numbers_from, ty_instance, tys_instance, fn_type_instance, own_types, own_functions}
use Rattle.px_terms.specs.TreeEquations.{ty_instance-Word, ty_instance-Var, ty_instance-Con}
use Rattle.px_terms.specs.Programs.{bool_type, bool_data, true_term, false_term}
use Rattle.px_terms.specs.Implied as implied
use Rattle.px_terms.specs.Typing.{anywhere, behind, IsTypeLayer, IsType, AreTypes, IsFunction, IsArgument, AreArguments, HasTypeLayer, HaveTypes, HasType, live}
use Rattle.px_terms.specs.Typing as typing
use Rattle.px_terms.specs.TypedPrograms.{IsTyped, HasSignature, IsWrittenFnType, IsTypedLemma, AreSidesTyped}
use Rattle.px_terms.specs.TypedSequents.{IsTypedContext, IsTypedEquation}
use Rattle.px_terms.specs.Clauses.{Subject, IsSubject, HasResult, IsClauseOf, functions_alone, applied, equals, x_of, y_of, z_of, says, clause_for}
use Rattle.px_terms.specs.Clauses as clauses
use Rattle.px_terms.specs.Obligations.{IsObligation, IsDeclaredClause, lemma_clause}
use Rattle.px_terms.specs.Obligations as obligations
use Rattle.px_terms.specs.Noting.{IsOpen}
use Rattle.px_terms.specs.Noting as noting
use Rattle.px_terms.specs.declared.row.Ref.{Ref}
use Rattle.px_totality.proofs.Instances.{one_item, written_types, type_at, instances_are_types}
use Rattle.px_totality.proofs.TypesOfTerms.{all_at, constructor_of, bool_is_type, are_types_append}
use Rattle.px_soundness.specs.Argument.{OpenClausesAreTyped, IsTypedClause, property_context, clause_context}
use Rattle.px_soundness.proofs.RowsChanges.{may_call_anywhere, all_met, in_front}
use Rattle.px_soundness.proofs.RowsInstances.{live_at, live_there, behind_front, free_has, frees_have, typed_anywhere, clause_alone}

-- the own type variables stay, where they are put in for themselves
own_stays_at : (start count n : ℕ) →
    unwrap_or (slice_get (map (λ (i : ℕ). type.Var i) (numbers_from start count)) n) (type.Var (start + n)) ≡ type.Var (start + n)
own_stays_at start zero n = refl
own_stays_at start (suc count) zero = let none : start ≡ start + 0 = omega arith in ap type.Var none
own_stays_at start (suc count) (suc n) =
    let one : start + suc n ≡ (start + 1) + n = omega arith in
    let Stays : ℕ → Type 0 = λ (m : ℕ). unwrap_or (slice_get (map (λ (i : ℕ). type.Var i) (numbers_from (start + 1) count)) n) (type.Var m) ≡ type.Var m in
    subst Stays (sym one) (own_stays_at (start + 1) count n)

module _ (Q : Program) (k : ℕ) where
  abbrev Stays : Ty → Type 0
  Stays T = ty_instance (own_types k) T ≡ T

  mutual
    own_layer_stays : {y : Ty-F Ty} → IsTypeLayer Q k y → Stays (roll-Ty y)
    own_layer_stays typing.word = subst Stays (sym type.rolls-Word) (ty_instance-Word (own_types k))
    own_layer_stays (typing.var {n = n} below) = let none : 0 + n ≡ n = omega arith in
        let stays : unwrap_or (slice_get (own_types k) n) (type.Var n) ≡ type.Var n =
        subst (λ (m : ℕ). unwrap_or (slice_get (own_types k) n) (type.Var m) ≡ type.Var m) none (own_stays_at 0 k n) in
        subst Stays (sym (type.rolls-Var n)) (ty_instance-Var (own_types k) n ∙ stays)
    own_layer_stays (typing.con {d = d} {args = args} found count are) =
        subst Stays (sym (type.rolls-Con d args)) (ty_instance-Con (own_types k) d args ∙ ap (type.Con d) (own_all_stay are))

    -- types over so many variables stay, where these are put in for themselves
    own_all_stay : {types : List Ty} → AreTypes Q k types → tys_instance (own_types k) types ≡ types
    own_all_stay typing.none = refl
    own_all_stay (typing.more {T = T} {types = types} is are) =
        let first : ty_instance (own_types k) T ≡ T = subst Stays (roll-out-Ty T) (own_layer_stays is) in
        let others : tys_instance (own_types k) types ≡ types = own_all_stay are in
        λ i. first i ∷ others i

  own_type_stays : (T : Ty) → IsType Q k T → Stays T
  own_type_stays T is = subst Stays (roll-out-Ty T) (own_layer_stays is)

-- types over no variables are types over any
mutual
  ground_layer : (Q : Program) (k : ℕ) {y : Ty-F Ty} → IsTypeLayer Q 0 y → IsTypeLayer Q k y
  ground_layer Q k typing.word = typing.word
  ground_layer Q k (typing.var below) = let wrong : ⊥ = omega (arith, below) in absurd wrong
  ground_layer Q k (typing.con found count are) = typing.con found count (ground_types Q k are)

  ground_types : (Q : Program) (k : ℕ) {types : List Ty} → AreTypes Q 0 types → AreTypes Q k types
  ground_types Q k typing.none = typing.none
  ground_types Q k (typing.more is are) = typing.more (ground_layer Q k is) (ground_types Q k are)

-- a function is one in a context with the same function variables and no fewer types
function_moves : (Q : Program) (old new : Context) → ((types : List Ty) → AreTypes Q old.tparams types → AreTypes Q new.tparams types) → new.funs ≡ old.funs →
    {f : Fun} {takes : List FnType} {params : List Ty} {T : Ty} → IsFunction Q old f takes params T → IsFunction Q new f takes params T
function_moves Q old new are_moved funs (typing.of_definition {types = types} {D = D} found count are takes_is params_is result_is) =
    typing.of_definition {D = D} found count (are_moved types are) takes_is params_is result_is
function_moves Q old new are_moved funs (typing.at_most is) = typing.at_most is
function_moves Q old new are_moved funs (typing.equal is) = typing.equal is
function_moves Q old new are_moved funs (typing.of_variable {n = i} {F = F} found params_is result_is) =
    typing.of_variable {F = F} (ap (λ (Fs : List FnType). slice_get Fs i) funs ∙ found) params_is result_is

front_are_types : (Q : Program) (k : ℕ) (xs ys : List Ty) → AreTypes Q k (xs ++ ys) → AreTypes Q k xs
front_are_types Q k [] ys are = typing.none
front_are_types Q k (x ∷ xs) ys (typing.more is are) = typing.more is (front_are_types Q k xs ys are)

back_are_types : (Q : Program) (k : ℕ) (xs ys : List Ty) → AreTypes Q k (xs ++ ys) → AreTypes Q k ys
back_are_types Q k [] ys are = are
back_are_types Q k (x ∷ xs) ys (typing.more is are) = back_are_types Q k xs ys are

replicated_are_types : (Q : Program) (k : ℕ) (count : ℕ) (T : Ty) → IsType Q k T → AreTypes Q k (replicate count T)
replicated_are_types Q k zero T is = typing.none
replicated_are_types Q k (suc count) T is = typing.more is (replicated_are_types Q k count T is)

replicated_at : (count n : ℕ) (T : Ty) → n < count → slice_get (replicate count T) n ≡ Some T
replicated_at zero n T below = let wrong : ⊥ = omega (arith, below) in absurd wrong
replicated_at (suc count) zero T below = refl
replicated_at (suc count) (suc n) T below = replicated_at count n T (omega (arith, below))

two_words : (Q : Program) (k : ℕ) → AreTypes Q k (type.Word ∷ type.Word ∷ [])
two_words Q k =
    let word : IsType Q k type.Word = subst (IsTypeLayer Q k) (sym type.outs-Word) typing.word in
    typing.more word (typing.more word typing.none)

-- The function variables' types are types over so many variables.
record FunsTyped (Q : Program) (k : ℕ) (funs : List FnType) : Type 0 where
  params : (i : ℕ) (F : FnType) → slice_get funs i ≡ Some F → AreTypes Q k F.params
  results : (i : ℕ) (F : FnType) → slice_get funs i ≡ Some F → IsType Q k F.result

-- what is in scope of so many type variables and these function variables, with these data variables
abbrev scope : ℕ → List FnType → List (Option Ty) → Context
scope k funs vars = record { tparams = k; funs = funs; vars = vars }

params_are_types : (Q : Program) → IsTyped Q → (k : ℕ) (funs : List FnType) → FunsTyped Q k funs → {f : Fun} {takes : List FnType} {params : List Ty} {T : Ty} →
    IsFunction Q (functions_alone k funs) f takes params T → AreTypes Q k params
params_are_types Q typed k funs are_typed (typing.of_definition {n = n} {types = types} {D = D} found count are takes_is params_is result_is) =
    let signature : HasSignature Q D = (typed.defs n D found).signature in
    let over : AreTypes Q (length types) D.params =
    subst (λ (m : ℕ). AreTypes Q m D.params) (sym count) (written_types Q D.tparams D.params signature.params) in
    subst (AreTypes Q k) (sym params_is) (instances_are_types Q k types are over)
params_are_types Q typed k funs are_typed (typing.at_most is) = two_words Q k
params_are_types Q typed k funs are_typed (typing.equal is) = two_words Q k
params_are_types Q typed k funs are_typed (typing.of_variable {n = i} {F = F} found params_is result_is) =
    subst (AreTypes Q k) (sym params_is) (are_typed.params i F found)

module _ (Q : Program) (typed : IsTyped Q) (k : ℕ) (funs : List FnType) (are_typed : FunsTyped Q k funs) (s : Subject) (takes : List FnType)
    (function : (vars : List (Option Ty)) → IsFunction Q (scope k funs vars) s.function takes (s.leading ++ s.last ∷ s.last ∷ []) s.result)
    (arguments : (vars : List (Option Ty)) → AreArguments Q anywhere (scope k funs vars) s.given takes)
    (are : AreTypes Q k (s.leading ++ s.last ∷ s.last ∷ [])) where
  -- the variables of a property that names so many
  abbrev variables : ℕ → List Ty
  variables count = s.leading ++ replicate count s.last

  abbrev C : ℕ → Context
  C count = scope k funs (live (variables count))

  -- In this context the term has the type.
  record H (count : ℕ) (t : Term) (T : Ty) : Type 0 where
    has : HasType Q anywhere (C count) t T

  last_is_type : IsType Q k s.last
  last_is_type = go (back_are_types Q k s.leading (s.last ∷ s.last ∷ []) are)
    where
      go : AreTypes Q k (s.last ∷ s.last ∷ []) → IsType Q k s.last
      go (typing.more first others) = first

  variables_are_types : (count : ℕ) → AreTypes Q k (variables count)
  variables_are_types count =
      are_types_append Q k (front_are_types Q k s.leading (s.last ∷ s.last ∷ []) are) (replicated_are_types Q k count s.last last_is_type)

  context_typed : (count : ℕ) → IsTypedContext Q (C count)
  context_typed count = record {
    vars = λ n T at. type_at Q k (variables count) n T (variables_are_types count) (live_at (variables count) n T at);
    params = are_typed.params;
    results = are_typed.results;
  }

  named : (count j : ℕ) → j < count → H count (term.Free (length s.leading + j)) s.last
  named count j below = record {
    has =
        free_has Q (C count) (length s.leading + j) s.last (live_there (variables count) (length s.leading + j) s.last
        (behind_front s.leading (replicate count s.last) j ∙ replicated_at count j s.last below));
  }

  X : (count : ℕ) → 0 < count → H count (x_of s) s.last
  X count below =
      let none : length s.leading + 0 ≡ length s.leading = omega arith in
      subst (λ (n : ℕ). H count (term.Free n) s.last) none (named count 0 below)

  Y : (count : ℕ) → 1 < count → H count (y_of s) s.last
  Y count below = named count 1 below

  Z : (count : ℕ) → 2 < count → H count (z_of s) s.last
  Z count below = named count 2 below

  -- the function on the leading variables and two terms
  A : (count : ℕ) {a b : Term} → H count a s.last → H count b s.last → H count (applied s a b) s.result
  A count {a} {b} first second =
      let args : List Term = map (λ (i : ℕ). term.Free i) (numbers_from 0 (length s.leading)) ++ a ∷ b ∷ [] in
      let have : HaveTypes Q anywhere (C count) [] args (s.leading ++ s.last ∷ s.last ∷ []) =
      frees_have Q (C count) 0 s.leading (a ∷ b ∷ []) (s.last ∷ s.last ∷ [])
      (λ i T at. let none : 0 + i ≡ i = omega arith in ap (slice_get (live (variables count))) none
      ∙ live_there (variables count) i T (in_front s.leading (replicate count s.last) i T at))
      (typing.more first.has (typing.more second.has typing.none)) in
      let called : HasTypeLayer Q anywhere (C count) [] (Term-F.Call s.function s.given args) s.result =
      typing.call (function (live (variables count))) (may_call_anywhere Q s.function.head s.function.types) (all_met s.function.types) tt
      (arguments (live (variables count))) have in
      record { has = subst (λ (y : Term-F Term). HasTypeLayer Q anywhere (C count) [] y s.result) (sym (term.outs-Call s.function s.given args)) called }

  -- a constructor of `Bool`
  truth : (count j : ℕ) → slice_get bool_data.cons j ≡ Some (record { fields = [] }) → H count (term.Con 0 j [] []) bool_type
  truth count j at = record {
    has =
        subst (λ (y : Term-F Term). HasTypeLayer Q anywhere (C count) [] y bool_type) (sym (term.outs-Con 0 j [] []))
        (typing.con {c = record { fields = [] }} (constructor_of Q 0 j bool_data typed.bool ∙ at) (bool_is_type Q typed k) refl tt typing.none);
  }

  yes : (count : ℕ) {T : Ty} → T ≡ bool_type → H count true_term T
  yes count e = subst (H count true_term) (sym e) (truth count 1 refl)

  not : (count : ℕ) {T : Ty} → T ≡ bool_type → H count false_term T
  not count e = subst (H count false_term) (sym e) (truth count 0 refl)

  abbrev E : ℕ → Equation → Type 0
  E count e = IsTypedEquation Q (C count) e

  equation : (count : ℕ) {l r : Term} {T : Ty} → H count l T → H count r T → E count (equals l r)
  equation count {l} {r} {T} left right = record { T = T; left = left.has; right = right.has }

  single : (count : ℕ) {e : Equation} → E count e → All (E count) (e ∷ [])
  single count {e} is = All-cons (E count) e [] is (All-nil (E count))

  both : (count : ℕ) {e f : Equation} → E count e → E count f → All (E count) (e ∷ f ∷ [])
  both count {e} {f} is also = All-cons (E count) e (f ∷ []) is (single count also)

  no_one : (count : ℕ) → All (E count) []
  no_one count = All-nil (E count)

  -- of the same type as the last two parameters
  as_last : (count : ℕ) {t : Term} → s.result ≡ s.last → H count t s.last → H count t s.result
  as_last count {t} e has = subst (H count t) (sym e) has

  to_last : (count : ℕ) {t : Term} → s.result ≡ s.last → H count t s.result → H count t s.last
  to_last count {t} e has = subst (H count t) e has

  x1 : H 1 (x_of s) s.last
  x1 = X 1 (omega arith)

  x2 : H 2 (x_of s) s.last
  x2 = X 2 (omega arith)

  y2 : H 2 (y_of s) s.last
  y2 = Y 2 (omega arith)

  x3 : H 3 (x_of s) s.last
  x3 = X 3 (omega arith)

  y3 : H 3 (y_of s) s.last
  y3 = Y 3 (omega arith)

  z3 : H 3 (z_of s) s.last
  z3 = Z 3 (omega arith)

  -- the premises of a property are typed
  premises_typed : (p : Prop) → HasResult s p → All (E (says s p).named) (says s p).premises
  premises_typed Comm e = no_one 2
  premises_typed Assoc e = no_one 3
  premises_typed Idem e = no_one 1
  premises_typed Sel e = no_one 2
  premises_typed Refl e = no_one 1
  premises_typed Irrefl e = no_one 1
  premises_typed Sym e = single 2 (equation 2 (A 2 x2 y2) (yes 2 e))
  premises_typed Antisym e = both 2 (equation 2 (A 2 x2 y2) (yes 2 e)) (equation 2 (A 2 y2 x2) (yes 2 e))
  premises_typed Asym e = single 2 (equation 2 (A 2 x2 y2) (yes 2 e))
  premises_typed Trans e = both 3 (equation 3 (A 3 x3 y3) (yes 3 e)) (equation 3 (A 3 y3 z3) (yes 3 e))
  premises_typed Conn e = single 2 (equation 2 (A 2 x2 y2) (not 2 e))

  -- so are the alternatives
  alternatives_typed : (p : Prop) → HasResult s p → All (E (says s p).named) (says s p).alternatives
  alternatives_typed Comm e = single 2 (equation 2 (A 2 x2 y2) (A 2 y2 x2))
  alternatives_typed Assoc e = single 3 (equation 3 (A 3 (to_last 3 e (A 3 x3 y3)) z3) (A 3 x3 (to_last 3 e (A 3 y3 z3))))
  alternatives_typed Idem e = single 1 (equation 1 (A 1 x1 x1) (as_last 1 e x1))
  alternatives_typed Sel e = both 2 (equation 2 (A 2 x2 y2) (as_last 2 e x2)) (equation 2 (A 2 x2 y2) (as_last 2 e y2))
  alternatives_typed Refl e = single 1 (equation 1 (A 1 x1 x1) (yes 1 e))
  alternatives_typed Irrefl e = single 1 (equation 1 (A 1 x1 x1) (not 1 e))
  alternatives_typed Sym e = single 2 (equation 2 (A 2 y2 x2) (yes 2 e))
  alternatives_typed Antisym e = single 2 (equation 2 x2 y2)
  alternatives_typed Asym e = single 2 (equation 2 (A 2 y2 x2) (not 2 e))
  alternatives_typed Trans e = single 3 (equation 3 (A 3 x3 z3) (yes 3 e))
  alternatives_typed Conn e = single 2 (equation 2 (A 2 y2 x2) (yes 2 e))

  -- the clause of a property is typed, where these type and function variables are in scope
  saying_typed : (p : Prop) → HasResult s p → (m : ℕ) (Fs : List FnType) →
      IsTypedClause Q (scope k funs (live (clause_for s p m Fs).vars)) (clause_for s p m Fs)
  saying_typed p e m Fs = record {
    types = context_typed (says s p).named;
    premises = premises_typed p e;
    alternatives = alternatives_typed p e;
  }

-- The function is a subject under these type and function variables, and what it is given may be passed.
module _ (Q : Program) (typed : IsTyped Q) (k : ℕ) (funs : List FnType) (are_typed : FunsTyped Q k funs) (f : Fun) (given : List Fun) (s : Subject)
    (takes : List FnType) (params : List Ty) (function : IsFunction Q (functions_alone k funs) f takes params s.result)
    (shape : params ≡ s.leading ++ s.last ∷ s.last ∷ []) (is_function : s.function ≡ f) (is_given : s.given ≡ given)
    (arguments : (vars : List (Option Ty)) → AreArguments Q anywhere (scope k funs vars) given takes) where
  there : (vars : List (Option Ty)) → IsFunction Q (scope k funs vars) s.function takes (s.leading ++ s.last ∷ s.last ∷ []) s.result
  there vars =
      let moved : IsFunction Q (scope k funs vars) f takes params s.result =
      function_moves Q (functions_alone k funs) (scope k funs vars) (λ types are. are) refl function in
      subst₂ (λ (g : Fun) (types : List Ty). IsFunction Q (scope k funs vars) g takes types s.result) (sym is_function) shape moved

  passed : (vars : List (Option Ty)) → AreArguments Q anywhere (scope k funs vars) s.given takes
  passed vars = subst (λ (gs : List Fun). AreArguments Q anywhere (scope k funs vars) gs takes) (sym is_given) (arguments vars)

  subject_typed : (p : Prop) → HasResult s p → (m : ℕ) (Fs : List FnType) →
      IsTypedClause Q (scope k funs (live (clause_for s p m Fs).vars)) (clause_for s p m Fs)
  subject_typed p e m Fs =
      saying_typed Q typed k funs are_typed s takes there passed
      (subst (AreTypes Q k) shape (params_are_types Q typed k funs are_typed function)) p e m Fs

-- a comparison or a function variable that is a subject without types and functions of its own
alone_typed : (Q : Program) → IsTyped Q → (k : ℕ) (funs : List FnType) → FunsTyped Q k funs → (f : Fun) (s : Subject) →
    IsSubject Q (functions_alone 0 funs) f [] s → (p : Prop) → HasResult s p →
    IsTypedClause Q (scope k funs (live (clause_for s p 0 []).vars)) (clause_for s p 0 [])
alone_typed Q typed k funs are_typed f s is p e =
    subject_typed Q typed k funs are_typed f [] s is.takes is.params
    (function_moves Q (functions_alone 0 funs) (functions_alone k funs) (λ types are. ground_types Q k are) refl is.function)
    is.shape is.is_function is.is_given (λ vars. none_passed vars is.takes is.taken) p e 0 []
  where
    none_passed : (vars : List (Option Ty)) (takes : List FnType) → 0 ≡ length takes → AreArguments Q anywhere (scope k funs vars) [] takes
    none_passed vars [] long = typing.none
    none_passed vars (F ∷ takes) long = let wrong : ⊥ = omega (arith, long) in absurd wrong

-- The function types of a definition, over its own type variables.
module _ (Q : Program) (k : ℕ) (funs : List FnType) (vars : List (Option Ty)) where
  own_argument : (i : ℕ) (F : FnType) → IsWrittenFnType Q k F → slice_get funs i ≡ Some F →
      IsArgument Q anywhere (scope k funs vars) (record { head = FnVar i; types = [] }) (fn_type_instance (own_types k) F)
  own_argument i F is at = record {
    function =
        typing.of_variable {F = F} at (own_all_stay Q k (written_types Q k F.params is.params)) (own_type_stays Q k F.result is.result.is_type);
    may_pass = tt;
    types_met = all_met [];
    params_met = all_met (tys_instance (own_types k) F.params);
    result_met = tt;
    properties = λ p has. implied.known (subst (λ (o : Option FnType). IsSomeAnd o (λ (F : FnType). HasProp F.props p)) (sym at) has);
  }

  -- the own function variables may be passed for themselves
  own_arguments : (start : ℕ) (Fs : List FnType) → All (IsWrittenFnType Q k) Fs →
      ((i : ℕ) (F : FnType) → slice_get Fs i ≡ Some F → slice_get funs (start + i) ≡ Some F) →
      AreArguments Q anywhere (scope k funs vars) (map (λ (i : ℕ). record { head = FnVar i; types = [] }) (numbers_from start (length Fs)))
      (map (fn_type_instance (own_types k)) Fs)
  own_arguments start [] all stand = typing.none
  own_arguments start (F ∷ Fs) all stand =
      let none : start + 0 ≡ start = omega arith in
      let first = own_argument start F (All-head (IsWrittenFnType Q k) F Fs all) (ap (slice_get funs) (sym none) ∙ stand 0 F refl) in
      typing.more first (own_arguments (start + 1) Fs (All-tail (IsWrittenFnType Q k) F Fs all)
      (λ i G at. let one : (start + 1) + i ≡ start + suc i = omega arith in ap (slice_get funs) one ∙ stand (suc i) G at))

funs_written : (Q : Program) (k : ℕ) (funs : List FnType) → All (IsWrittenFnType Q k) funs → FunsTyped Q k funs
funs_written Q k funs all = record {
  params = λ i F at. written_types Q k F.params (all_at (IsWrittenFnType Q k) funs i F all at).params;
  results = λ i F at. (all_at (IsWrittenFnType Q k) funs i F all at).result.is_type;
}

-- What a definition at these types takes.
record TakesOf (Q : Program) (n : ℕ) (types : List Ty) (takes : List FnType) : Type 0 where
  D : definition.Def
  found : slice_get Q.defs n ≡ Some D
  is : takes ≡ map (fn_type_instance types) D.funs

-- what is taken, by the head
abbrev TakesBy : Program → Head → List Ty → List FnType → Type 0
TakesBy Q (Def n) types takes = TakesOf Q n types takes
TakesBy Q Wle types takes = Unit {0}
TakesBy Q Weq types takes = Unit {0}
TakesBy Q (FnVar i) types takes = Unit {0}

takes_by : (Q : Program) {context : Context} {f : Fun} {takes : List FnType} {params : List Ty} {T : Ty} → IsFunction Q context f takes params T →
    TakesBy Q f.head f.types takes
takes_by Q (typing.of_definition {D = D} found count are takes_is params_is result_is) = record { D = D; found = found; is = takes_is }
takes_by Q (typing.at_most is) = tt
takes_by Q (typing.equal is) = tt
takes_by Q (typing.of_variable found params_is result_is) = tt

-- the clause of a property of a definition is typed over the definition's own variables
definition_typed : (Q : Program) → IsTyped Q → (n : ℕ) (D : definition.Def) → slice_get Q.defs n ≡ Some D → (s : Subject) →
    IsSubject Q (functions_alone D.tparams D.funs) (record { head = Def n; types = own_types D.tparams }) (own_functions (length D.funs)) s → (p : Prop) →
    HasResult s p → IsTypedClause Q (clause_alone (clause_for s p D.tparams D.funs)) (clause_for s p D.tparams D.funs)
definition_typed Q typed n D found s is p e =
    subject_typed Q typed D.tparams D.funs (funs_written Q D.tparams D.funs written) (record { head = Def n; types = own_types D.tparams })
    (own_functions (length D.funs)) s is.takes is.params is.function is.shape is.is_function is.is_given passed p e D.tparams D.funs
  where
    written : All (IsWrittenFnType Q D.tparams) D.funs
    written = (typed.defs n D found).signature.funs.types

    takes_are : is.takes ≡ map (fn_type_instance (own_types D.tparams)) D.funs
    takes_are =
        let it : TakesOf Q n (own_types D.tparams) is.takes = takes_by Q is.function in
        it.is ∙ ap (λ (E : definition.Def). map (fn_type_instance (own_types D.tparams)) E.funs) (one_item it.D D (sym it.found ∙ found))

    passed : (vars : List (Option Ty)) → AreArguments Q anywhere (scope D.tparams D.funs vars) (own_functions (length D.funs)) is.takes
    passed vars =
        subst (AreArguments Q anywhere (scope D.tparams D.funs vars) (own_functions (length D.funs))) (sym takes_are)
        (own_arguments Q D.tparams D.funs vars 0 D.funs written
        (λ i F at. let none : 0 + i ≡ i = omega arith in ap (slice_get D.funs) none ∙ at))

-- the clause of a property of a definition is typed over its own variables; of other heads nothing is said
abbrev TypedBy : Program → Head → Clause → Type 0
TypedBy Q (Def n) clause = IsTypedClause Q (clause_alone clause) clause
TypedBy Q Wle clause = Unit {0}
TypedBy Q Weq clause = Unit {0}
TypedBy Q (FnVar i) clause = Unit {0}

typed_by : (Q : Program) → IsTyped Q → {funs : List FnType} {h : Head} {p : Prop} {clause : Clause} → IsClauseOf Q funs h p clause → TypedBy Q h clause
typed_by Q typed (clauses.of_definition {n = n} {p = p} {D = D} found s subject result is) =
    subst (λ (clause : Clause). IsTypedClause Q (clause_alone clause) clause) (sym is) (definition_typed Q typed n D found s subject p result)
typed_by Q typed (clauses.of_at_most s subject result is) = tt
typed_by Q typed (clauses.of_equal s subject result is) = tt
typed_by Q typed (clauses.of_variable s subject result is) = tt

-- a lemma's clause is typed over its own variables
lemma_typed : (Q : Program) → IsTyped Q → (number : ℕ) (l : proposition.Lemma) → IsTypedLemma Q number l →
    IsTypedClause Q (clause_alone (lemma_clause l)) (lemma_clause l)
lemma_typed Q typed number l is = record {
  types = context;
  premises = All-weaker (AreSidesTyped Q (behind number) C) (IsTypedEquation Q C) equation l.premises is.premises;
  alternatives = All-cons (IsTypedEquation Q C) l.conclusion [] (equation l.conclusion is.conclusion) (All-nil (IsTypedEquation Q C));
}
  where
    C : Context
    C = clause_alone (lemma_clause l)

    own_funs : FunsTyped Q l.tparams l.funs
    own_funs = funs_written Q l.tparams l.funs is.funs.types

    context : IsTypedContext Q C
    context = record {
      vars = λ n T at. type_at Q l.tparams l.vars n T (written_types Q l.tparams l.vars is.vars) (live_at l.vars n T at);
      params = own_funs.params;
      results = own_funs.results;
    }

    equation : (e : Equation) → AreSidesTyped Q (behind number) C e → IsTypedEquation Q C e
    equation e has = record {
      T = has.T;
      left = typed_anywhere Q typed (behind number) C context e.left has.T has.left;
      right = typed_anywhere Q typed (behind number) C context e.right has.T has.right;
    }

-- the lemma that a number declares is typed
declared_lemma : (Q : Program) → IsTyped Q → (number i : ℕ) (l : proposition.Lemma) → slice_get Q.declared number ≡ Some (declared.Lemma i) →
    slice_get Q.lemmas i ≡ Some l → IsTypedClause Q (clause_alone (lemma_clause l)) (lemma_clause l)
declared_lemma Q typed number i l at found =
    let there = typed.lemmas number i at in
    let same : there.0 ≡ l = one_item there.0 l (sym there.1 ∙ found) in
    lemma_typed Q typed number l (subst (IsTypedLemma Q number) same there.2)

-- an obligation's own clause is typed over its own variables
pub own_typed : (Q : Program) → IsTyped Q → (n : ℕ) (own : Clause) → IsObligation Q n own → IsTypedClause Q (clause_alone own) own
own_typed Q typed n own obligation = go obligation.declared own obligation.number obligation.says
  where
    go : (x : Declared) (own : Clause) → slice_get Q.declared n ≡ Some x → IsDeclaredClause Q x own → IsTypedClause Q (clause_alone own) own
    go _ own at (obligations.of_property {n = m} is) = let it : IsTypedClause Q (clause_alone own) own = typed_by Q typed is in it
    go _ own at (obligations.of_lemma {n = i} {l = l} found is) =
        subst (λ (clause : Clause). IsTypedClause Q (clause_alone clause) clause) (sym is) (declared_lemma Q typed n i l at found)

-- the clause of a property is typed, where it may name the variables of an obligation
pub property_typed : (Q : Program) → IsTyped Q → (own : Clause) → IsTypedClause Q (clause_alone own) own → {h : Head} {p : Prop} {clause : Clause} →
    IsClauseOf Q own.funs h p clause → IsTypedClause Q (property_context own h clause) clause
property_typed Q typed own own_is (clauses.of_definition {n = n} {p = p} {D = D} found s subject result is) =
    subst (λ (clause : Clause). IsTypedClause Q (clause_alone clause) clause) (sym is) (definition_typed Q typed n D found s subject p result)
property_typed Q typed own own_is (clauses.of_at_most {p = p} s subject result is) =
    subst (λ (clause : Clause). IsTypedClause Q (scope own.tparams own.funs (live clause.vars)) clause) (sym is)
    (alone_typed Q typed own.tparams own.funs (record { params = own_is.types.params; results = own_is.types.results })
    (record { head = Wle; types = [] }) s subject p result)
property_typed Q typed own own_is (clauses.of_equal {p = p} s subject result is) =
    subst (λ (clause : Clause). IsTypedClause Q (scope own.tparams own.funs (live clause.vars)) clause) (sym is)
    (alone_typed Q typed own.tparams own.funs (record { params = own_is.types.params; results = own_is.types.results })
    (record { head = Weq; types = [] }) s subject p result)
property_typed Q typed own own_is (clauses.of_variable {i = i} {p = p} s subject result is) =
    subst (λ (clause : Clause). IsTypedClause Q (scope own.tparams own.funs (live clause.vars)) clause) (sym is)
    (alone_typed Q typed own.tparams own.funs (record { params = own_is.types.params; results = own_is.types.results })
    (record { head = FnVar i; types = [] }) s subject p result)

pub open_clauses_are_typed : OpenClausesAreTyped
open_clauses_are_typed Q founded n own obligation about clause is_open = go is_open
  where
    go : {about : Ref} {clause : Clause} → IsOpen Q n own about clause → IsTypedClause Q (clause_context own about clause) clause
    go (noting.property is_known is) = property_typed Q founded.typed own (own_typed Q founded.typed n own obligation) is
    go (noting.lemma_below {number = number} {i = i} {l = l} at below found is) =
        subst (λ (clause : Clause). IsTypedClause Q (clause_alone clause) clause) (sym is) (declared_lemma Q founded.typed number i l at found)
    go (noting.hypothesis is) =
        subst (λ (clause : Clause). IsTypedClause Q (clause_alone clause) clause) (sym is) (own_typed Q founded.typed n own obligation)
