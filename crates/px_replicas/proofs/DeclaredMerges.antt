-- The properties that are known of a declaration's merge, in the meaning: where each obligation holds, the merge joins.
use Rattle.std.proofs.Common.{◌≡◌, ◌⊎◌, inl, inr, ⊎_elim, ℕ, zero, suc, ◌+◌, List, [], ◌∷◌, ◌++◌, map, length, Some, slice_get, refl, sym, ap, ◌∙◌, subst, subst₂, arith}
use Rattle.std.proofs.lemmas.List.{map-append}
use Rattle.px_base.specs.declared.head.Head.{Head}
use Rattle.px_base.specs.declared.head.Head.TheVariants.{Def, Wle, Weq, FnVar}
use Rattle.px_base.specs.declared.prop.Prop.{Prop}
use Rattle.px_base.specs.declared.prop.Prop.TheVariants.{Comm, Assoc, Idem, Sel, Refl, Irrefl, Sym, Antisym, Asym, Trans, Conn}
use Rattle.px_terms.specs.declared.types.Ty.{Ty}
use Rattle.px_terms.specs.declared.types.Ty.TheVariants as type
use Rattle.px_terms.specs.declared.types.FnType.{FnType}
use Rattle.px_terms.specs.declared.types.Fun.{Fun}
use Rattle.px_terms.specs.declared.term.Term.{Term}
use Rattle.px_terms.specs.declared.term.Term.TheOpen.{Term-F}
use Rattle.px_terms.specs.declared.term.Term.TheVariants as term
use Rattle.px_terms.specs.declared.term.Value.{Value}
use Rattle.px_terms.specs.declared.clause.Equation.{Equation}
use Rattle.px_terms.specs.declared.clause.Clause.{Clause}
use Rattle.px_terms.specs.declared.program.Def as definition
use Rattle.px_terms.specs.declared.program.Declared.TheVariants as declared
use Rattle.px_terms.specs.declared.program.ReplicaDef.{ReplicaDef}
use Rattle.px_terms.specs.declared.program.Program.{Program}
use Rattle.px_terms.specs.declared.sequent.Context.{Context}
use Rattle.px_terms.specs.Types.{numbers_from, ty_instance, tys_instance, own_types, own_functions}
use Rattle.px_terms.specs.Values.{IsIn, AreIn}
use Rattle.px_terms.specs.Values as values
use Rattle.px_terms.specs.Meaning.{FunMeans, FunsMean, MeansOf, Means, Gives, SameValue}
use Rattle.px_terms.specs.Implied.{Closure}
use Rattle.px_terms.specs.Implied as implied
use Rattle.px_terms.specs.Typing.{behind, IsType, AreTypes, IsFunction, IsDeclaredBefore, IsKnown}
use Rattle.px_terms.specs.Typing as typing
use Rattle.px_terms.specs.Clauses.{Subject, IsSubject, IsClauseOf, functions_alone, applied, equals, clause_for}
use Rattle.px_terms.specs.Clauses as clauses
use Rattle.px_terms.specs.Holding.{IsTrueAt, SomeIsTrueAt, here, later}
use Rattle.px_terms.specs.TypedPrograms.{Fits, HasSignature, IsTypedReplica}
use Rattle.px_terms.specs.Obligations.{IsObligation, of_property, AllHoldInExtensions}
use Rattle.px_terms.specs.Extending.{IsWellFounded, FunctionsFit, IsTrueOfAll, HoldsInProgram}
use Rattle.px_terms.specs.Extending as fitting
use Rattle.px_totality.specs.PropertyLaws.{EarlierHold}
use Rattle.px_totality.proofs.Instances.{one_item, written_types, instances_twice, own_types_are}
use Rattle.px_totality.proofs.Calls.{nothing_mapped}
use Rattle.px_totality.proofs.Closed.{same_ends}
use Rattle.px_totality.proofs.Examples.{only_one}
use Rattle.px_totality.proofs.Extensions.{extensions_compose}
use Rattle.px_totality.proofs.Unique.{OfCall, OfMore, rests_on, all_rest_on}
use Rattle.px_replicas.specs.Joins.{Merges, IsMerged, Commute, Associate, MergeJoins}
use Rattle.px_replicas.proofs.MergeTyping.{IsDefined, merge_defined}
use Rattle.px_replicas.proofs.MergeFunctions.{functions_have}

-- what a property that is known comes from: each of the three of a join is said, or selectivity is said, which gives idempotence
abbrev ComesFrom : (Prop → Type 0) → Prop → Type 0
ComesFrom Said Comm = Said Comm
ComesFrom Said Assoc = Said Assoc
ComesFrom Said Idem = Said Idem ⊎ Said Sel
ComesFrom Said Sel = Said Sel
ComesFrom Said Refl = Unit {0}
ComesFrom Said Irrefl = Unit {0}
ComesFrom Said Sym = Unit {0}
ComesFrom Said Antisym = Unit {0}
ComesFrom Said Asym = Unit {0}
ComesFrom Said Trans = Unit {0}
ComesFrom Said Conn = Unit {0}

from_said : (Said : Prop → Type 0) (p : Prop) → Said p → ComesFrom Said p
from_said Said Comm is = is
from_said Said Assoc is = is
from_said Said Idem is = inl is
from_said Said Sel is = is
from_said Said Refl is = tt
from_said Said Irrefl is = tt
from_said Said Sym is = tt
from_said Said Antisym is = tt
from_said Said Asym is = tt
from_said Said Trans is = tt
from_said Said Conn is = tt

comes_from : (Said : Prop → Type 0) (p : Prop) → Closure Said p → ComesFrom Said p
comes_from Said p (implied.known is) = from_said Said p is
comes_from Said _ (implied.sel_gives_idem k) = inr (comes_from Said Sel k)
comes_from Said _ (implied.conn_gives_refl k) = tt
comes_from Said _ (implied.asym_gives_irrefl k) = tt
comes_from Said _ (implied.asym_gives_antisym k) = tt
comes_from Said _ (implied.irrefl_and_trans_give_asym k l) = tt

-- What the clause of a property of a definition rests on.
record OfProperty (P : Program) (n : ℕ) (p : Prop) (clause : Clause) : Type 0 where
  D : definition.Def
  s : Subject
  found : slice_get P.defs n ≡ Some D
  subject : IsSubject P (functions_alone D.tparams D.funs) (record { head = Def n; types = own_types D.tparams }) (own_functions (length D.funs)) s
  is : clause ≡ clause_for s p D.tparams D.funs

-- what the clause of a property rests on, by the head
abbrev ClauseRestsOn : Program → Head → Prop → Clause → Type 0
ClauseRestsOn P (Def n) p clause = OfProperty P n p clause
ClauseRestsOn P Wle p clause = Unit {0}
ClauseRestsOn P Weq p clause = Unit {0}
ClauseRestsOn P (FnVar i) p clause = Unit {0}

clause_rests_on : (P : Program) {funs : List FnType} {h : Head} {p : Prop} {clause : Clause} → IsClauseOf P funs h p clause → ClauseRestsOn P h p clause
clause_rests_on P (clauses.of_definition {D = D} found s subject result is) = record { D = D; s = s; found = found; subject = subject; is = is }
clause_rests_on P (clauses.of_at_most s subject result is) = tt
clause_rests_on P (clauses.of_equal s subject result is) = tt
clause_rests_on P (clauses.of_variable s subject result is) = tt

-- what a definition takes at these types, by the head
abbrev TakenBy : Program → Head → List Ty → List Ty → Type 0
TakenBy P (Def n) types params = (D : definition.Def) → slice_get P.defs n ≡ Some D → params ≡ tys_instance types D.params
TakenBy P Wle types params = Unit {0}
TakenBy P Weq types params = Unit {0}
TakenBy P (FnVar i) types params = Unit {0}

taken_by : (P : Program) {context : Context} {f : Fun} {takes : List FnType} {params : List Ty} {T : Ty} → IsFunction P context f takes params T → TakenBy P f.head f.types params
taken_by P (typing.of_definition {types = types} {D = E} found count are takes_are params_are result_is) =
    λ D at. params_are ∙ ap (λ (D : definition.Def). tys_instance types D.params) (one_item E D (sym found ∙ at))
taken_by P (typing.at_most is) = tt
taken_by P (typing.equal is) = tt
taken_by P (typing.of_variable found params_are result_is) = tt

many_numbers : (f : ℕ → Ty) (start count : ℕ) → length (map f (numbers_from start count)) ≡ count
many_numbers f start zero = refl
many_numbers f start (suc count) = ap suc (many_numbers f (start + 1) count)

-- own function variables, from a number on, stand for the functions from it on
own_mean_from : (types : List Ty) (funs rest : List Fun) (start : ℕ) → ((i : ℕ) → slice_get funs (start + i) ≡ slice_get rest i) →
    FunsMean types funs (map (λ (i : ℕ). record { head = FnVar i; types = [] }) (numbers_from start (length rest))) rest
own_mean_from types funs [] start same = tt
own_mean_from types funs (f ∷ rest) start same =
    let none : start + 0 ≡ start = omega arith in
    let first : slice_get funs start ≡ Some f = ap (slice_get funs) (sym none) ∙ same 0 in (
      first,
      own_mean_from types funs rest (start + 1)
          (λ i. let one : (start + 1) + i ≡ start + suc i = omega arith in ap (slice_get funs) one ∙ same (suc i)),
    )

own_mean : (types : List Ty) (funs : List Fun) → FunsMean types funs (own_functions (length funs)) funs
own_mean types funs = own_mean_from types funs funs 0 (λ i. let same : 0 + i ≡ i = omega arith in ap (slice_get funs) same)

-- functions stand for one list of functions
one_of_each : (types : List Ty) (funs fs gs hs : List Fun) → FunsMean types funs fs gs → FunsMean types funs fs hs → gs ≡ hs
one_of_each types funs [] [] [] p q = refl
one_of_each types funs [] [] (h ∷ hs) p q = absurd q
one_of_each types funs [] (g ∷ gs) hs p q = absurd p
one_of_each types funs (f ∷ fs) [] hs p q = absurd p
one_of_each types funs (f ∷ fs) (g ∷ gs) [] p q = absurd q
one_of_each types funs (f ∷ fs) (g ∷ gs) (h ∷ hs) p q =
    let first : g ≡ h = one_item g h (sym p.0 ∙ q.0) in
    let others : gs ≡ hs = one_of_each types funs fs gs hs p.1 q.1 in
    λ i. first i ∷ others i

-- as many functions fit as there are types
many_fit : (P : Program) (types : List Ty) {Fs : List FnType} {fs : List Fun} → FunctionsFit P types Fs fs → length fs ≡ length Fs
many_fit P types fitting.none = refl
many_fit P types (fitting.more is are) = ap suc (many_fit P types are)

two_values : (us vs ws : List Value) (v w : Value) → us ≡ v ∷ vs → vs ≡ w ∷ ws → ws ≡ [] → us ≡ v ∷ w ∷ []
two_values us vs ws v w first second none = first ∙ ap (λ (vs : List Value). v ∷ vs) (second ∙ ap (λ (ws : List Value). w ∷ ws) none)

gives_there : (P : Program) (f g : Fun) (fs gs : List Fun) (vs ws : List Value) (v : Value) (c : ℕ) → f ≡ g → fs ≡ gs → vs ≡ ws → Gives P f fs vs v c → Gives P g gs ws v c
gives_there P f g fs gs vs ws v c function functions arguments gives =
    let there : Gives P g gs vs v c = subst₂ (λ (g : Fun) (gs : List Fun). Gives P g gs vs v c) function functions gives in
    subst (λ (vs : List Value). Gives P g gs vs v c) arguments there

-- a variable means the value at its place
variable_is : (P : Program) (types : List Ty) (funs : List Fun) (rho : List Value) (i : ℕ) (v w : Value) (c : ℕ) → slice_get rho i ≡ Some w →
    Means P types funs rho (term.Free i) v c → v ≡ w
variable_is P types funs rho i v w c at means =
    let there : (slice_get rho i ≡ Some v) × (c ≡ 0) =
    rests_on P types funs rho [] (Term-F.Free i) v c (subst (λ (y : Term-F Term). MeansOf P types funs rho [] y v c) (term.outs-Free i) means) in
    one_item v w (sym there.0 ∙ at)

module _ (P : Program) (founded : IsWellFounded P) (R : ReplicaDef) (takes : List FnType) (it : IsDefined P R.merge takes R.state)
    (fit : FunctionsFit P R.merge.types it.D.funs R.funs) where
  abbrev T : List Ty
  T = R.merge.types

  abbrev D : definition.Def
  D = it.D

  abbrev own : Fun
  own = record { head = Def it.n; types = own_types D.tparams }

  abbrev given : List Fun
  given = own_functions (length D.funs)

  own_put_in : tys_instance T (own_types D.tparams) ≡ T
  own_put_in = subst (λ (k : ℕ). tys_instance T (own_types k) ≡ T) it.many (own_types_are T)

  -- the definition over its own types stands for the merge
  function_stands : FunMeans T R.funs own R.merge
  function_stands =
      let here : Some (record { head = Def it.n; types = tys_instance T (own_types D.tparams) }) ≡ Some (record { head = Def it.n; types = T }) =
      λ i. Some (record { head = Def it.n; types = own_put_in i }) in
      here ∙ (λ i. Some (record { head = (sym it.head) i; types = T }))

  -- and its own functions for those of the declaration
  given_stand : FunsMean T R.funs given R.funs
  given_stand = subst (λ (k : ℕ). FunsMean T R.funs (own_functions k) R.funs) (many_fit P T fit) (own_mean T R.funs)

  -- the definition over its own types, on its two last parameters alone
  abbrev alone : Ty → Ty → Subject
  alone last result = record { function = own; given = given; leading = []; last = last; result = result }

  -- The subject has no leading parameters, and its last two are of the state's type.
  record IsAlone (s : Subject) : Type 0 where
    is : s ≡ alone s.last s.result
    state : ty_instance T s.last ≡ R.state

  params_at : tys_instance T (tys_instance (own_types D.tparams) D.params) ≡ tys_instance T D.params
  params_at =
      let long : D.tparams ≡ length (own_types D.tparams) = sym (many_numbers (λ (i : ℕ). type.Var i) 0 D.tparams) in
      let signature : HasSignature P D = (founded.typed.defs it.n D it.found).signature in
      let over : AreTypes P (length (own_types D.tparams)) D.params =
      subst (λ (k : ℕ). AreTypes P k D.params) long (written_types P D.tparams D.params signature.params) in
      instances_twice P T (own_types D.tparams) over ∙ ap (λ (types : List Ty). tys_instance types D.params) own_put_in

  is_alone : (s : Subject) → IsSubject P (functions_alone D.tparams D.funs) own given s → IsAlone s
  is_alone s subject =
      let taken : subject.params ≡ tys_instance (own_types D.tparams) D.params = taken_by P subject.function D it.found in
      let shape : tys_instance T s.leading ++ ty_instance T s.last ∷ ty_instance T s.last ∷ [] ≡ R.state ∷ R.state ∷ [] =
      sym (map-append (ty_instance T) s.leading (s.last ∷ s.last ∷ [])) ∙ ap (tys_instance T) (sym subject.shape ∙ taken) ∙ params_at ∙ sym it.params in
      let ends : (tys_instance T s.leading ≡ []) × (ty_instance T s.last ≡ R.state) = same_ends (tys_instance T s.leading) [] (ty_instance T s.last) R.state shape in
      let leading : s.leading ≡ [] = nothing_mapped (ty_instance T) s.leading ends.0 in
      let function : s.function ≡ own = subject.is_function in
      let functions : s.given ≡ given = subject.is_given in
      record {
        is = λ i. record { function = function i; given = functions i; leading = leading i; last = s.last; result = s.result };
        state = ends.1;
      }

  -- the merge of two terms
  abbrev F : Term → Term → Term
  F a b = term.Call own given (a ∷ b ∷ [])

  -- The value is the merge of the values of two terms.
  record OfMerge (rho : List Value) (a b : Term) (v : Value) : Type 0 where
    x : Value
    y : Value
    first_calls : ℕ
    second_calls : ℕ
    calls : ℕ
    first : Means P T R.funs rho a x first_calls
    second : Means P T R.funs rho b y second_calls
    merges : Merges P R x y v calls

  of_merge : (rho : List Value) (a b : Term) (v : Value) (c : ℕ) → Means P T R.funs rho (F a b) v c → OfMerge rho a b v
  of_merge rho a b v c means =
      let parts : OfCall P T R.funs rho [] own given (a ∷ b ∷ []) v c =
      rests_on P T R.funs rho [] (Term-F.Call own given (a ∷ b ∷ [])) v c
      (subst (λ (y : Term-F Term). MeansOf P T R.funs rho [] y v c) (term.outs-Call own given (a ∷ b ∷ [])) means) in
      let g : parts.g ≡ R.merge = one_item parts.g R.merge (sym parts.fun_means ∙ function_stands) in
      let gs : parts.gs ≡ R.funs = one_of_each T R.funs given parts.gs R.funs parts.funs_mean given_stand in
      let one : OfMore P T R.funs rho [] a (b ∷ []) parts.vs parts.a = all_rest_on P T R.funs rho [] (a ∷ b ∷ []) parts.vs parts.a parts.all in
      let other : OfMore P T R.funs rho [] b [] one.vs one.b = all_rest_on P T R.funs rho [] (b ∷ []) one.vs one.b one.mean in
      let last : (other.vs ≡ []) × (other.b ≡ 0) = all_rest_on P T R.funs rho [] [] other.vs other.b other.mean in
      let two : parts.vs ≡ one.v ∷ other.v ∷ [] =
      two_values parts.vs one.vs other.vs one.v other.v one.is other.is last.0 in
      let gives : Merges P R one.v other.v v parts.b = gives_there P parts.g R.merge parts.gs R.funs parts.vs (one.v ∷ other.v ∷ []) v parts.b g gs two parts.gives in
      record {
        x = one.v;
        y = other.v;
        first_calls = one.a;
        second_calls = other.a;
        calls = parts.b;
        first = one.means;
        second = other.means;
        merges = gives;
      }

  -- the merge of what two terms mean, where the values are known
  merged_of : (rho : List Value) (a b : Term) (x y v : Value) (c : ℕ) → ((w : Value) (e : ℕ) → Means P T R.funs rho a w e → w ≡ x) →
      ((w : Value) (e : ℕ) → Means P T R.funs rho b w e → w ≡ y) → Means P T R.funs rho (F a b) v c → IsMerged P R x y v
  merged_of rho a b x y v c first second means =
      let parts : OfMerge rho a b v = of_merge rho a b v c means in
      let one : parts.x ≡ x = first parts.x parts.first_calls parts.first in
      let other : parts.y ≡ y = second parts.y parts.second_calls parts.second in
      record { calls = parts.calls; merges = subst₂ (λ (x y : Value). Merges P R x y v parts.calls) one other parts.merges }

  -- a variable is the value at its place
  variable : (rho : List Value) (i : ℕ) (w : Value) → slice_get rho i ≡ Some w → (v : Value) (c : ℕ) → Means P T R.funs rho (term.Free i) v c → v ≡ w
  variable rho i w at v c means = variable_is P T R.funs rho i v w c at means

  abbrev X : Term
  X = term.Free 0

  abbrev Y : Term
  Y = term.Free 1

  abbrev Z : Term
  Z = term.Free 2

  module _ (last result : Ty) (state : ty_instance T last ≡ R.state) where
    -- the clause of a property of the definition is true of all values at the declaration's types and functions
    abbrev IsTrue : Prop → Type 0
    IsTrue p = IsTrueOfAll P T R.funs (clause_for (alone last result) p D.tparams D.funs)

    of_type : (v : Value) → IsIn P R.state v → IsIn P (ty_instance T last) v
    of_type v is_in = subst (λ (S : Ty). IsIn P S v) (sym state) is_in

    comm_means : IsTrue Comm → (a b : Value) → IsIn P R.state a → IsIn P R.state b → Commute P R a b
    comm_means is_true a b in_a in_b =
        let same : SameValue P T R.funs (a ∷ b ∷ []) (F X Y) (F Y X) =
        only_one P T R.funs (a ∷ b ∷ []) (equals (F X Y) (F Y X))
        (is_true.at (a ∷ b ∷ []) (values.more (of_type a in_a) (values.more (of_type b in_b) values.none)) tt) in
        record {
          both = same.0;
          one_way = merged_of (a ∷ b ∷ []) X Y a b same.0 same.1 (variable (a ∷ b ∷ []) 0 a refl) (variable (a ∷ b ∷ []) 1 b refl) same.3;
          other_way = merged_of (a ∷ b ∷ []) Y X b a same.0 same.2 (variable (a ∷ b ∷ []) 1 b refl) (variable (a ∷ b ∷ []) 0 a refl) same.4;
        }

    assoc_means : IsTrue Assoc → (a b c : Value) → IsIn P R.state a → IsIn P R.state b → IsIn P R.state c → Associate P R a b c
    assoc_means is_true a b c in_a in_b in_c =
        let same : SameValue P T R.funs (a ∷ b ∷ c ∷ []) (F (F X Y) Z) (F X (F Y Z)) =
        only_one P T R.funs (a ∷ b ∷ c ∷ []) (equals (F (F X Y) Z) (F X (F Y Z)))
        (is_true.at (a ∷ b ∷ c ∷ []) (values.more (of_type a in_a) (values.more (of_type b in_b) (values.more (of_type c in_c) values.none))) tt) in
        let front : OfMerge (a ∷ b ∷ c ∷ []) (F X Y) Z same.0 = of_merge (a ∷ b ∷ c ∷ []) (F X Y) Z same.0 same.1 same.3 in
        let back : OfMerge (a ∷ b ∷ c ∷ []) X (F Y Z) same.0 = of_merge (a ∷ b ∷ c ∷ []) X (F Y Z) same.0 same.2 same.4 in
        let x_is = variable (a ∷ b ∷ c ∷ []) 0 a refl in
        let y_is = variable (a ∷ b ∷ c ∷ []) 1 b refl in
        let z_is = variable (a ∷ b ∷ c ∷ []) 2 c refl in
        let z : front.y ≡ c = z_is front.y front.second_calls front.second in
        let x : back.x ≡ a = x_is back.x back.first_calls back.first in
        record {
          front = front.x;
          back = back.y;
          all = same.0;
          is_front = merged_of (a ∷ b ∷ c ∷ []) X Y a b front.x front.first_calls x_is y_is front.first;
          from_front = record { calls = front.calls; merges = subst (λ (y : Value). Merges P R front.x y same.0 front.calls) z front.merges };
          is_back = merged_of (a ∷ b ∷ c ∷ []) Y Z b c back.y back.second_calls y_is z_is back.second;
          from_back = record { calls = back.calls; merges = subst (λ (x : Value). Merges P R x back.y same.0 back.calls) x back.merges };
        }

    -- the term of two variables of one value gives this value
    gives_itself : (rho : List Value) (a : Value) (i j k : ℕ) → slice_get rho i ≡ Some a → slice_get rho j ≡ Some a → slice_get rho k ≡ Some a →
        SameValue P T R.funs rho (F (term.Free i) (term.Free j)) (term.Free k) → IsMerged P R a a a
    gives_itself rho a i j k at_i at_j at_k same =
        let is : same.0 ≡ a = variable rho k a at_k same.0 same.2 same.4 in
        subst (IsMerged P R a a) is (merged_of rho (term.Free i) (term.Free j) a a same.0 same.1 (variable rho i a at_i) (variable rho j a at_j) same.3)

    idem_means : IsTrue Idem → (a : Value) → IsIn P R.state a → IsMerged P R a a a
    idem_means is_true a in_a =
        gives_itself (a ∷ []) a 0 0 0 refl refl refl
        (only_one P T R.funs (a ∷ []) (equals (F X X) X) (is_true.at (a ∷ []) (values.more (of_type a in_a) values.none) tt))

    sel_means : IsTrue Sel → (a : Value) → IsIn P R.state a → IsMerged P R a a a
    sel_means is_true a in_a =
        either (is_true.at (a ∷ a ∷ []) (values.more (of_type a in_a) (values.more (of_type a in_a) values.none)) tt) refl
      where
        either : {es : List Equation} → SomeIsTrueAt P T R.funs (a ∷ a ∷ []) es → es ≡ equals (F X Y) X ∷ equals (F X Y) Y ∷ [] → IsMerged P R a a a
        either (here {e = e} is) same =
            let first : e ≡ equals (F X Y) X = cc in
            gives_itself (a ∷ a ∷ []) a 0 1 0 refl refl refl (subst (IsTrueAt P T R.funs (a ∷ a ∷ [])) first is)
        either (later {es = es} some) same =
            let rest : es ≡ equals (F X Y) Y ∷ [] = cc in
            gives_itself (a ∷ a ∷ []) a 0 1 1 refl refl refl
            (only_one P T R.funs (a ∷ a ∷ []) (equals (F X Y) Y) (subst (SomeIsTrueAt P T R.funs (a ∷ a ∷ [])) rest some))

  -- The clause of the property is true, of a subject alone.
  record HasClause (p : Prop) : Type 0 where
    last : Ty
    result : Ty
    state : ty_instance T last ≡ R.state
    is_true : IsTrueOfAll P T R.funs (clause_for (alone last result) p D.tparams D.funs)

  -- where each earlier obligation holds, the clause of what is declared before is true
  declared_is_true : EarlierHold P (behind R.seen) → (p : Prop) → IsDeclaredBefore P (behind R.seen) it.n p → HasClause p
  declared_is_true earlier p d =
      let fits : Fits P [] (Def it.n) p = (founded.typed.properties d.number it.n p d.stands).fits in
      let obligation : IsObligation P d.number fits.clause = record { declared = declared.Property it.n p; number = d.stands; says = of_property fits.says } in
      let holds : HoldsInProgram P fits.clause = earlier.each d.number fits.clause d.earlier obligation in
      let of : OfProperty P it.n p fits.clause = clause_rests_on P fits.says in
      let same : of.D ≡ D = one_item of.D D (sym of.found ∙ it.found) in
      let subject : IsSubject P (functions_alone D.tparams D.funs) own given of.s =
      subst (λ (E : definition.Def). IsSubject P (functions_alone E.tparams E.funs) (record { head = Def it.n; types = own_types E.tparams })
      (own_functions (length E.funs)) of.s) same of.subject in
      let is : fits.clause ≡ clause_for of.s p D.tparams D.funs = of.is ∙ ap (λ (E : definition.Def). clause_for of.s p E.tparams E.funs) same in
      let there : HoldsInProgram P (clause_for of.s p D.tparams D.funs) = subst (HoldsInProgram P) is holds in
      let all : IsTrueOfAll P T R.funs (clause_for of.s p D.tparams D.funs) = there.at T it.many it.ground R.funs fit in
      let by : IsAlone of.s = is_alone of.s subject in
      record {
        last = of.s.last;
        result = of.s.result;
        state = by.state;
        is_true = subst (λ (s : Subject). IsTrueOfAll P T R.funs (clause_for s p D.tparams D.funs)) by.is all;
      }

  -- what is known of the merge
  abbrev Known : Prop → Type 0
  Known p = Closure (IsDeclaredBefore P (behind R.seen) it.n) p

  joins : EarlierHold P (behind R.seen) → Known Comm → Known Assoc → Known Idem → MergeJoins P R
  joins earlier comm assoc idem =
      let c : HasClause Comm = declared_is_true earlier Comm (comes_from (IsDeclaredBefore P (behind R.seen) it.n) Comm comm) in
      let a : HasClause Assoc = declared_is_true earlier Assoc (comes_from (IsDeclaredBefore P (behind R.seen) it.n) Assoc assoc) in
      record {
        comm = comm_means c.last c.result c.state c.is_true;
        assoc = assoc_means a.last a.result a.state a.is_true;
        idem = ⊎_elim by_idem by_sel (comes_from (IsDeclaredBefore P (behind R.seen) it.n) Idem idem);
      }
    where
      by_idem : IsDeclaredBefore P (behind R.seen) it.n Idem → (v : Value) → IsIn P R.state v → IsMerged P R v v v
      by_idem d = let h : HasClause Idem = declared_is_true earlier Idem d in idem_means h.last h.result h.state h.is_true

      by_sel : IsDeclaredBefore P (behind R.seen) it.n Sel → (v : Value) → IsIn P R.state v → IsMerged P R v v v
      by_sel d = let h : HasClause Sel = declared_is_true earlier Sel d in sel_means h.last h.result h.state h.is_true

-- in a well-founded program in which all obligations hold, the merge of a typed declaration joins
pub typed_merge_joins : (P : Program) (R : ReplicaDef) → IsWellFounded P → IsTypedReplica P R → AllHoldInExtensions P → MergeJoins P R
typed_merge_joins P R founded typed hold =
    let it : IsDefined P R.merge typed.join.takes R.state = merge_defined P R typed in
    let earlier : EarlierHold P (behind R.seen) = record { each = λ i clause before is. (hold.each i clause is).in_each P (extensions_compose.itself P founded) } in
    let known : (p : Prop) → IsKnown P (behind R.seen) (functions_alone 0 []) R.merge.head p → Closure (IsDeclaredBefore P (behind R.seen) it.n) p =
    λ p k. subst (λ (h : Head). IsKnown P (behind R.seen) (functions_alone 0 []) h p) it.head k in
    joins P founded R typed.join.takes it (functions_have P R founded typed earlier) earlier (known Comm typed.join.comm) (known Assoc typed.join.assoc)
    (known Idem typed.join.idem)
