-- Where the clause of a property of a definition without function parameters holds, the definition has the property at all ground types.
use Rattle.std.proofs.Common.{◌≡◌, ℕ, zero, suc, ◌+◌, List, [], ◌∷◌, ◌++◌, map, replicate, length, Some, slice_get, refl, sym, ap, ◌∙◌, subst}
use Rattle.std.proofs.Common.{subst₂}
use Rattle.std.proofs.lemmas.List.{map-append, length-map}
use Rattle.px_terms.specs.Head.{Head}
use Rattle.px_terms.specs.Head.TheVariants.{Def, Wle, Weq, FnVar}
use Rattle.px_terms.specs.Prop.{Prop}
use Rattle.px_terms.specs.Prop.TheVariants.{Comm, Assoc, Idem, Sel, Refl, Irrefl, Sym, Antisym, Asym, Trans, Conn}
use Rattle.px_terms.specs.declared.types.Ty.{Ty}
use Rattle.px_terms.specs.declared.types.Ty.TheVariants as type
use Rattle.px_terms.specs.declared.types.FnType.{FnType}
use Rattle.px_terms.specs.declared.types.Fun.{Fun}
use Rattle.px_terms.specs.declared.term.Term.{Term, out-Term}
use Rattle.px_terms.specs.declared.term.Term.TheOpen.{Term-F}
use Rattle.px_terms.specs.declared.term.Term.TheVariants as term
use Rattle.px_terms.specs.declared.term.Value.{Value}
use Rattle.px_terms.specs.declared.clause.Equation.{Equation}
use Rattle.px_terms.specs.declared.clause.Clause.{Clause}
use Rattle.px_terms.specs.declared.program.Def as definition
use Rattle.px_terms.specs.declared.program.Program.{Program}
use Rattle.px_terms.specs.declared.sequent.Context.{Context}
use Rattle.px_terms.specs.Types.{numbers_from, ty_instance, tys_instance, fn_type_instance, own_types, own_functions}
use Rattle.px_terms.specs.TreeEquations.{ty_instance-Con}
use Rattle.px_terms.specs.Programs.{bool_type}
use Rattle.px_terms.specs.Values.{AreIn}
use Rattle.px_terms.specs.Meaning.{FunMeans, FunsMean, MeansOf, MeanAll, Means, Gives, free, con, call, none, more}
use Rattle.px_terms.specs.Typing.{IsType, AreTypes, IsFunction}
use Rattle.px_terms.specs.Typing as typing
use Rattle.px_terms.specs.TypedPrograms.{IsTyped, HasSignature}
use Rattle.px_terms.specs.Clauses.{Subject, IsSubject, HasResult, IsClauseOf, functions_alone, applied, equals, x_of, y_of, z_of, says, clause_for}
use Rattle.px_terms.specs.Clauses as clauses
use Rattle.px_terms.specs.Holding.{IsTrueAt, AreTrueAt, SomeIsTrueAt, here, later}
use Rattle.px_terms.specs.Extending.{FunctionsFit, IsTrueOfAll, HasInProgram, HoldsInProgram}
use Rattle.px_terms.specs.Extending as extending
use Rattle.px_totality.specs.PropertyLaws.{DeclaredIsHad}
use Rattle.px_totality.proofs.Instances.{one_item, written_types, instances_twice, instance_twice, own_types_are}
use Rattle.px_totality.proofs.Applied.{nothing_put_in}
use Rattle.px_totality.proofs.Examples.{of_layer_means, nothing_meant}
use Rattle.px_totality.proofs.Unique.{OfCon, OfCall, OfMore, rests_on, all_rest_on}

-- What the one term means under the one types, the other means under the others.
record Moves (Q : Program) (ts us : List Ty) (rho : List Value) (a b : Term) : Type 0 where
  to : (v : Value) (c : ℕ) → Means Q ts [] rho a v c → Means Q us [] rho b v c

-- The function that the subject names stands for this one, and is given no functions.
pub record StandsFor (ts : List Ty) (s : Subject) (f : Fun) : Type 0 where
  pub function : FunMeans ts [] s.function f
  pub given : s.given ≡ []

module _ (Q : Program) (ts us : List Ty) (rho : List Value) where
  layer_of : (types : List Ty) (t : Term) (y : Term-F Term) (v : Value) (c : ℕ) → out-Term t ≡ y → Means Q types [] rho t v c → MeansOf Q types [] rho [] y v c
  layer_of types t y v c e means = subst (λ (y : Term-F Term). MeansOf Q types [] rho [] y v c) e means

  variable_moves : (i : ℕ) → Moves Q ts us rho (term.Free i) (term.Free i)
  variable_moves i = record {
    to = λ v c means.
        let is : (slice_get rho i ≡ Some v) × (c ≡ 0) =
        rests_on Q ts [] rho [] (Term-F.Free i) v c (layer_of ts (term.Free i) (Term-F.Free i) v c (term.outs-Free i) means) in
        subst (Means Q us [] rho (term.Free i) v) (sym is.1) (of_layer_means Q us [] rho (term.Free i) (Term-F.Free i) v 0 (term.outs-Free i) (free is.0));
  }

  truth_moves : (k : ℕ) → Moves Q ts us rho (term.Con 0 k [] []) (term.Con 0 k [] [])
  truth_moves k = record {
    to = λ v c means.
        let is : OfCon Q ts [] rho [] 0 k [] v c =
        rests_on Q ts [] rho [] (Term-F.Con 0 k [] []) v c (layer_of ts (term.Con 0 k [] []) (Term-F.Con 0 k [] []) v c (term.outs-Con 0 k [] []) means) in
        let nothing : (is.vs ≡ []) × (c ≡ 0) = all_rest_on Q ts [] rho [] [] is.vs c is.all in
        let fields : MeanAll Q us [] rho [] [] is.vs c = subst₂ (MeanAll Q us [] rho [] []) (sym nothing.0) (sym nothing.1) none in
        of_layer_means Q us [] rho (term.Con 0 k [] []) (Term-F.Con 0 k [] []) v c (term.outs-Con 0 k [] []) (con fields is.is);
  }

  -- What the terms mean under the one types, the others mean under the others.
  record AllMove (cs ds : List Term) : Type 0 where
    to : (vs : List Value) (c : ℕ) → MeanAll Q ts [] rho [] cs vs c → MeanAll Q us [] rho [] ds vs c

  none_move : AllMove [] []
  none_move = record {
    to =
        λ vs c all. let nothing : (vs ≡ []) × (c ≡ 0) = all_rest_on Q ts [] rho [] [] vs c all in subst₂ (MeanAll Q us [] rho [] []) (sym nothing.0)
        (sym nothing.1) none;
  }

  more_move : (a b : Term) (cs ds : List Term) → Moves Q ts us rho a b → AllMove cs ds → AllMove (a ∷ cs) (b ∷ ds)
  more_move a b cs ds first others = record {
    to = λ vs c all.
        let parts : OfMore Q ts [] rho [] a cs vs c = all_rest_on Q ts [] rho [] (a ∷ cs) vs c all in
        subst (λ (vs : List Value). MeanAll Q us [] rho [] (b ∷ ds) vs c) (sym parts.is)
        (more (first.to parts.v parts.a parts.means) (others.to parts.vs parts.b parts.mean) parts.total);
  }

  variables_move : (ns : List ℕ) (cs ds : List Term) → AllMove cs ds → AllMove (map (λ (i : ℕ). term.Free i) ns ++ cs) (map (λ (i : ℕ). term.Free i) ns ++ ds)
  variables_move [] cs ds others = others
  variables_move (n ∷ ns) cs ds others =
      more_move (term.Free n) (term.Free n) (map (λ (i : ℕ). term.Free i) ns ++ cs) (map (λ (i : ℕ). term.Free i) ns ++ ds) (variable_moves n)
      (variables_move ns cs ds others)

  module _ (s t : Subject) (f : Fun) (one : StandsFor ts s f) (other : StandsFor us t f) (long : length s.leading ≡ length t.leading) where
    arguments_of : Subject → Term → Term → List Term
    arguments_of r a b = map (λ (i : ℕ). term.Free i) (numbers_from 0 (length r.leading)) ++ a ∷ b ∷ []

    call_moves : (args others : List Term) → AllMove args others → Moves Q ts us rho (term.Call s.function s.given args) (term.Call t.function t.given others)
    call_moves args others all = record {
      to = λ v c means.
          let parts : OfCall Q ts [] rho [] s.function s.given args v c =
          rests_on Q ts [] rho [] (Term-F.Call s.function s.given args) v c
          (layer_of ts (term.Call s.function s.given args) (Term-F.Call s.function s.given args) v c (term.outs-Call s.function s.given args) means) in
          let same : parts.g ≡ f = one_item parts.g f (sym parts.fun_means ∙ one.function) in
          let no_functions : parts.gs ≡ [] =
          nothing_meant ts [] parts.gs (subst (λ (given : List Fun). FunsMean ts [] given parts.gs) one.given parts.funs_mean) in
          let gives : Gives Q f [] parts.vs v parts.b = subst₂ (λ (g : Fun) (gs : List Fun). Gives Q g gs parts.vs v parts.b) same no_functions parts.gives in
          let none_given : FunsMean us [] t.given [] = subst (λ (given : List Fun). FunsMean us [] given []) (sym other.given) tt in
          of_layer_means Q us [] rho (term.Call t.function t.given others) (Term-F.Call t.function t.given others) v c
          (term.outs-Call t.function t.given others)
          (call (all.to parts.vs parts.a parts.all) other.function none_given gives parts.total);
    }

    both_move : {a b c d : Term} → Moves Q ts us rho a b → Moves Q ts us rho c d → Moves Q ts us rho (applied s a c) (applied t b d)
    both_move {a} {b} {c} {d} first second =
        let here : AllMove (map (λ (i : ℕ). term.Free i) (numbers_from 0 (length s.leading)) ++ a ∷ c ∷ [])
        (map (λ (i : ℕ). term.Free i) (numbers_from 0 (length s.leading)) ++ b ∷ d ∷ []) = variables_move (numbers_from 0 (length s.leading)) (a ∷ c ∷ [])
        (b ∷ d ∷ []) (more_move a b (c ∷ []) (d ∷ []) first (more_move c d [] [] second none_move)) in
        let there : AllMove (map (λ (i : ℕ). term.Free i) (numbers_from 0 (length s.leading)) ++ a ∷ c ∷ [])
        (map (λ (i : ℕ). term.Free i) (numbers_from 0 (length t.leading)) ++ b ∷ d ∷ []) = subst
        (λ (n : ℕ). AllMove (map (λ (i : ℕ). term.Free i) (numbers_from 0 (length s.leading)) ++ a ∷ c ∷ [])
        (map (λ (i : ℕ). term.Free i) (numbers_from 0 n) ++ b ∷ d ∷ [])) long here in
        call_moves (map (λ (i : ℕ). term.Free i) (numbers_from 0 (length s.leading)) ++ a ∷ c ∷ [])
        (map (λ (i : ℕ). term.Free i) (numbers_from 0 (length t.leading)) ++ b ∷ d ∷ []) there

    x_moves : Moves Q ts us rho (x_of s) (x_of t)
    x_moves = subst (λ (n : ℕ). Moves Q ts us rho (term.Free (length s.leading)) (term.Free n)) long (variable_moves (length s.leading))

    y_moves : Moves Q ts us rho (y_of s) (y_of t)
    y_moves = subst (λ (n : ℕ). Moves Q ts us rho (term.Free (length s.leading + 1)) (term.Free (n + 1))) long (variable_moves (length s.leading + 1))

    z_moves : Moves Q ts us rho (z_of s) (z_of t)
    z_moves = subst (λ (n : ℕ). Moves Q ts us rho (term.Free (length s.leading + 2)) (term.Free (n + 2))) long (variable_moves (length s.leading + 2))

    -- where the one equations are true, the others are
    data EquationsMove : List Equation → List Equation → Type 0 where
      no_equation : EquationsMove [] []
      equation : {l r l2 r2 : Term} {es fs : List Equation} → Moves Q ts us rho l l2 → Moves Q ts us rho r r2 → EquationsMove es fs →
          EquationsMove (equals l r ∷ es) (equals l2 r2 ∷ fs)

    true_moves : {l r l2 r2 : Term} → Moves Q ts us rho l l2 → Moves Q ts us rho r r2 → IsTrueAt Q ts [] rho (equals l r) → IsTrueAt Q us [] rho (equals l2 r2)
    true_moves left right is = (is.0, is.1, is.2, left.to is.0 is.1 is.3, right.to is.0 is.2 is.4)

    are_true_move : {es fs : List Equation} → EquationsMove es fs → AreTrueAt Q ts [] rho es → AreTrueAt Q us [] rho fs
    are_true_move no_equation are = tt
    are_true_move (equation left right others) are = (true_moves left right are.0, are_true_move others are.1)

    some_moves : {es fs : List Equation} → EquationsMove es fs → SomeIsTrueAt Q ts [] rho es → SomeIsTrueAt Q us [] rho fs
    some_moves no_equation some = elim some [ ]
    some_moves (equation left right others) (here is) = here (true_moves left right is)
    some_moves (equation left right others) (later some) = later (some_moves others some)

    XY : Moves Q ts us rho (applied s (x_of s) (y_of s)) (applied t (x_of t) (y_of t))
    XY = both_move x_moves y_moves

    YX : Moves Q ts us rho (applied s (y_of s) (x_of s)) (applied t (y_of t) (x_of t))
    YX = both_move y_moves x_moves

    XX : Moves Q ts us rho (applied s (x_of s) (x_of s)) (applied t (x_of t) (x_of t))
    XX = both_move x_moves x_moves

    YZ : Moves Q ts us rho (applied s (y_of s) (z_of s)) (applied t (y_of t) (z_of t))
    YZ = both_move y_moves z_moves

    premises_move : (p : Prop) → EquationsMove (says s p).premises (says t p).premises
    premises_move Comm = no_equation
    premises_move Assoc = no_equation
    premises_move Idem = no_equation
    premises_move Sel = no_equation
    premises_move Refl = no_equation
    premises_move Irrefl = no_equation
    premises_move Sym = equation XY (truth_moves 1) no_equation
    premises_move Antisym = equation XY (truth_moves 1) (equation YX (truth_moves 1) no_equation)
    premises_move Asym = equation XY (truth_moves 1) no_equation
    premises_move Trans = equation XY (truth_moves 1) (equation YZ (truth_moves 1) no_equation)
    premises_move Conn = equation XY (truth_moves 0) no_equation

    alternatives_move : (p : Prop) → EquationsMove (says s p).alternatives (says t p).alternatives
    alternatives_move Comm = equation XY YX no_equation
    alternatives_move Assoc = equation (both_move XY z_moves) (both_move x_moves YZ) no_equation
    alternatives_move Idem = equation XX x_moves no_equation
    alternatives_move Sel = equation XY x_moves (equation XY y_moves no_equation)
    alternatives_move Refl = equation XX (truth_moves 1) no_equation
    alternatives_move Irrefl = equation XX (truth_moves 0) no_equation
    alternatives_move Sym = equation YX (truth_moves 1) no_equation
    alternatives_move Antisym = equation x_moves y_moves no_equation
    alternatives_move Asym = equation YX (truth_moves 0) no_equation
    alternatives_move Trans = equation (both_move x_moves z_moves) (truth_moves 1) no_equation
    alternatives_move Conn = equation YX (truth_moves 1) no_equation

    -- premises of a saying that are true at the one types are true at the others
    pub said_premises : (p : Prop) → AreTrueAt Q ts [] rho (says s p).premises → AreTrueAt Q us [] rho (says t p).premises
    said_premises p are = are_true_move (premises_move p) are

    -- so are alternatives
    pub said_alternatives : (p : Prop) → SomeIsTrueAt Q ts [] rho (says s p).alternatives → SomeIsTrueAt Q us [] rho (says t p).alternatives
    said_alternatives p some = some_moves (alternatives_move p) some

-- What the clause of a property of a definition rests on.
record OfProperty (Q : Program) (n : ℕ) (p : Prop) (clause : Clause) : Type 0 where
  D : definition.Def
  s : Subject
  found : slice_get Q.defs n ≡ Some D
  subject : IsSubject Q (functions_alone D.tparams D.funs) (record { head = Def n; types = own_types D.tparams }) (own_functions (length D.funs)) s
  result : HasResult s p
  is : clause ≡ clause_for s p D.tparams D.funs

-- what the clause of a property rests on, by the head
abbrev ClauseRestsOn : Program → Head → Prop → Clause → Type 0
ClauseRestsOn Q (Def n) p clause = OfProperty Q n p clause
ClauseRestsOn Q Wle p clause = Unit {0}
ClauseRestsOn Q Weq p clause = Unit {0}
ClauseRestsOn Q (FnVar i) p clause = Unit {0}

clause_rests_on : (Q : Program) {funs : List FnType} {h : Head} {p : Prop} {clause : Clause} → IsClauseOf Q funs h p clause → ClauseRestsOn Q h p clause
clause_rests_on Q (clauses.of_definition {D = D} found s subject result is) = record {
  D = D;
  s = s;
  found = found;
  subject = subject;
  result = result;
  is = is;
}
clause_rests_on Q (clauses.of_at_most s subject result is) = tt
clause_rests_on Q (clauses.of_equal s subject result is) = tt
clause_rests_on Q (clauses.of_variable s subject result is) = tt

-- What a definition takes and gives at these types.
record Takes (Q : Program) (n : ℕ) (types params : List Ty) (T : Ty) : Type 0 where
  D : definition.Def
  found : slice_get Q.defs n ≡ Some D
  params_are : params ≡ tys_instance types D.params
  result_is : T ≡ ty_instance types D.result

-- what is taken and given, by the head
abbrev TakenBy : Program → Head → List Ty → List Ty → Ty → Type 0
TakenBy Q (Def n) types params T = Takes Q n types params T
TakenBy Q Wle types params T = Unit {0}
TakenBy Q Weq types params T = Unit {0}
TakenBy Q (FnVar i) types params T = Unit {0}

taken_by : (Q : Program) {context : Context} {f : Fun} {takes : List FnType} {params : List Ty} {T : Ty} → IsFunction Q context f takes params T →
    TakenBy Q f.head f.types params T
taken_by Q (typing.of_definition {D = D} found count are takes_are params_are result_is) = record {
  D = D;
  found = found;
  params_are = params_are;
  result_is = result_is;
}
taken_by Q (typing.at_most is) = tt
taken_by Q (typing.equal is) = tt
taken_by Q (typing.of_variable found params_are result_is) = tt

many_numbers : (f : ℕ → Ty) (start count : ℕ) → length (map f (numbers_from start count)) ≡ count
many_numbers f start zero = refl
many_numbers f start (suc count) = ap suc (many_numbers f (start + 1) count)

map_replicated : (f : Ty → Ty) (count : ℕ) (T : Ty) → map f (replicate count T) ≡ replicate count (f T)
map_replicated f zero T = refl
map_replicated f (suc count) T = ap (λ (types : List Ty). f T ∷ types) (map_replicated f count T)

-- how many variables a property names does not depend on the subject
same_named : (s t : Subject) (p : Prop) → (says s p).named ≡ (says t p).named
same_named s t Comm = refl
same_named s t Assoc = refl
same_named s t Idem = refl
same_named s t Sel = refl
same_named s t Refl = refl
same_named s t Irrefl = refl
same_named s t Sym = refl
same_named s t Antisym = refl
same_named s t Asym = refl
same_named s t Trans = refl
same_named s t Conn = refl

module _ (ts : List Ty) (f : Fun) (s : Subject) where
  -- the subject at these types
  abbrev at_types : Subject
  at_types = record { function = f; given = []; leading = tys_instance ts s.leading; last = ty_instance ts s.last; result = ty_instance ts s.result }

  same_bool : s.result ≡ bool_type → ty_instance ts s.result ≡ bool_type
  same_bool e = ap (ty_instance ts) e ∙ ty_instance-Con ts 0 []

  result_at : (p : Prop) → HasResult s p → HasResult at_types p
  result_at Comm e = tt
  result_at Assoc e = ap (ty_instance ts) e
  result_at Idem e = ap (ty_instance ts) e
  result_at Sel e = ap (ty_instance ts) e
  result_at Refl e = same_bool e
  result_at Irrefl e = same_bool e
  result_at Sym e = same_bool e
  result_at Antisym e = same_bool e
  result_at Asym e = same_bool e
  result_at Trans e = same_bool e
  result_at Conn e = same_bool e

module _ (Q : Program) (typed : IsTyped Q) (n : ℕ) (D : definition.Def) (found : slice_get Q.defs n ≡ Some D) (none_taken : D.funs ≡ []) (ts : List Ty)
    (long : length ts ≡ D.tparams) (ground : AreTypes Q 0 ts) (s : Subject)
    (subject : IsSubject Q (functions_alone D.tparams D.funs) (record { head = Def n; types = own_types D.tparams }) (own_functions (length D.funs)) s) where
  abbrev f : Fun
  f = record { head = Def n; types = ts }

  abbrev t : Subject
  t = at_types ts f s

  own_put_in : tys_instance ts (own_types D.tparams) ≡ ts
  own_put_in = subst (λ (k : ℕ). tys_instance ts (own_types k) ≡ ts) long (own_types_are ts)

  own_long : D.tparams ≡ length (own_types D.tparams)
  own_long = sym (many_numbers (λ (i : ℕ). type.Var i) 0 D.tparams)

  signature : HasSignature Q D
  signature = (typed.defs n D found).signature

  -- the definition's parameters over its own types, at these types
  params_at : tys_instance ts (tys_instance (own_types D.tparams) D.params) ≡ tys_instance ts D.params
  params_at =
      let over : AreTypes Q (length (own_types D.tparams)) D.params =
      subst (λ (k : ℕ). AreTypes Q k D.params) own_long (written_types Q D.tparams D.params signature.params) in
      instances_twice Q ts (own_types D.tparams) over ∙ ap (λ (types : List Ty). tys_instance types D.params) own_put_in

  result_there : ty_instance ts (ty_instance (own_types D.tparams) D.result) ≡ ty_instance ts D.result
  result_there =
      let over : IsType Q (length (own_types D.tparams)) D.result = subst (λ (k : ℕ). IsType Q k D.result) own_long signature.result.is_type in
      instance_twice Q ts (own_types D.tparams) D.result over ∙ ap (λ (types : List Ty). ty_instance types D.result) own_put_in

  takes_own : Takes Q n (own_types D.tparams) subject.params s.result
  takes_own = taken_by Q subject.function

  same_definition : takes_own.D ≡ D
  same_definition = one_item takes_own.D D (sym takes_own.found ∙ found)

  result_is : t.result ≡ ty_instance ts D.result
  result_is =
      ap (ty_instance ts) (takes_own.result_is ∙ ap (λ (E : definition.Def). ty_instance (own_types D.tparams) E.result) same_definition) ∙ result_there

  params_shape : tys_instance ts D.params ≡ t.leading ++ t.last ∷ t.last ∷ []
  params_shape =
      let own : subject.params ≡ tys_instance (own_types D.tparams) D.params =
      takes_own.params_are ∙ ap (λ (E : definition.Def). tys_instance (own_types D.tparams) E.params) same_definition in
      sym params_at ∙ ap (tys_instance ts) (sym own ∙ subject.shape) ∙ map-append (ty_instance ts) s.leading (s.last ∷ s.last ∷ [])

  is_subject : IsSubject Q (functions_alone 0 []) f [] t
  is_subject = record {
    takes = [];
    params = tys_instance ts D.params;
    function = typing.of_definition {D = D} found long ground (sym (ap (map (fn_type_instance ts)) none_taken)) refl result_is;
    taken = refl;
    shape = params_shape;
    is_function = refl;
    is_given = refl;
  }

  -- the definition over its own types stands, at these, for itself at these
  own_stands : StandsFor ts s f
  own_stands =
      let none_given : own_functions (length D.funs) ≡ [] = ap (λ (Fs : List FnType). own_functions (length Fs)) none_taken in
      let same : Some (record { head = Def n; types = tys_instance ts (own_types D.tparams) }) ≡ Some f =
      λ i. Some (record { head = Def n; types = own_put_in i }) in
      record { function = subst (λ (g : Fun). FunMeans ts [] g f) (sym subject.is_function) same; given = subject.is_given ∙ none_given }

  itself_stands : StandsFor [] t f
  itself_stands =
      let same : tys_instance [] ts ≡ ts = nothing_put_in ts in
      record { function = λ i. Some (record { head = Def n; types = same i }); given = refl }

  as_long : length s.leading ≡ length t.leading
  as_long = sym (length-map s.leading (ty_instance ts))

  -- the variables' types of the clause at these types
  variables_at : (p : Prop) → tys_instance [] (clause_for t p 0 []).vars ≡ tys_instance ts (clause_for s p D.tparams D.funs).vars
  variables_at p =
      nothing_put_in (t.leading ++ replicate (says t p).named t.last)
      ∙ ap (λ (k : ℕ). t.leading ++ replicate k t.last) (same_named t s p)
      ∙ ap (λ (types : List Ty). t.leading ++ types) (sym (map_replicated (ty_instance ts) (says s p).named s.last))
      ∙ sym (map-append (ty_instance ts) s.leading (replicate (says s p).named s.last))

  -- what is true of the clause at these types is true of the function alone
  alone : (p : Prop) → IsTrueOfAll Q ts [] (clause_for s p D.tparams D.funs) → IsTrueOfAll Q [] [] (clause_for t p 0 [])
  alone p is_true = record {
    at = λ rho are premises.
        let there : AreIn Q (tys_instance ts (clause_for s p D.tparams D.funs).vars) rho =
        subst (λ (types : List Ty). AreIn Q types rho) (variables_at p) are in
        let before : AreTrueAt Q ts [] rho (says s p).premises = said_premises Q [] ts rho t s f itself_stands own_stands (sym as_long) p premises in
        said_alternatives Q ts [] rho s t f own_stands itself_stands as_long p (is_true.at rho there before);
  }

  no_functions_fit : FunctionsFit Q ts D.funs []
  no_functions_fit = subst (λ (Fs : List FnType). FunctionsFit Q ts Fs []) (sym none_taken) extending.none

  had : (p : Prop) (clause : Clause) → HasResult s p → clause ≡ clause_for s p D.tparams D.funs → HoldsInProgram Q clause → HasInProgram Q f p
  had p clause result is holds =
      let here : HoldsInProgram Q (clause_for s p D.tparams D.funs) = subst (HoldsInProgram Q) is holds in
      record { subject = t; is_subject = is_subject; result = result_at ts f s p result; is_true = alone p (here.at ts long ground [] no_functions_fit) }

pub declared_is_had : DeclaredIsHad
declared_is_had Q founded n D found none_taken p clause says_it holds ts long ground =
    let it : OfProperty Q n p clause = clause_rests_on Q says_it in
    let same : it.D ≡ D = one_item it.D D (sym it.found ∙ found) in
    let subject : IsSubject Q (functions_alone D.tparams D.funs) (record { head = Def n; types = own_types D.tparams }) (own_functions (length D.funs)) it.s =
    subst (λ (D : definition.Def). IsSubject Q (functions_alone D.tparams D.funs) (record { head = Def n; types = own_types D.tparams })
    (own_functions (length D.funs)) it.s) same it.subject in
    let is : clause ≡ clause_for it.s p D.tparams D.funs = it.is ∙ ap (λ (D : definition.Def). clause_for it.s p D.tparams D.funs) same in
    had Q founded.typed n D found none_taken ts long ground it.s subject p clause it.result is holds
