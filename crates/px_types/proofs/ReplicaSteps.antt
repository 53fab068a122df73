-- What is found of a replica, by the stages of the code.
use Rattle.std.proofs.Common.{◌≡◌, ◌⊎◌, inl, inr, ℕ, ◌≤◌, ◌<◌, Bool, true, false, ◌&&◌, refl, sym, ◌∙◌, ap, subst, arith}
use Rattle.std.proofs.Common.{List, [], ◌∷◌, length, map, get_or, Option, Some, None, Result, Ok}
use Rattle.std.specs.Prelude.{slice_get, reverse}
use Rattle.std.specs.Option.{option_map}
use Rattle.std.proofs.lemmas.Bool.{false≢true}
use Rattle.std.proofs.lemmas.Bool.Decides.{same_from_decides, Decides-like}
use Rattle.std.proofs.lemmas.Option.{same_Some}
use Rattle.px_base.specs.declared.head.Head.{Head}
use Rattle.px_base.specs.declared.head.Head.TheVariants.{Def, Wle, Weq, FnVar}
use Rattle.px_base.specs.PropSets.{set_of}
use Rattle.px_base.specs.declared.prop.Prop.TheVariants.{Comm, Assoc, Idem}
use Rattle.px_base.specs.declared.raw.RawFun.{RawFun}
use Rattle.px_base.specs.declared.raw.RawReplica.{RawReplica}
use Rattle.px_terms.specs.declared.types.Ty.{Ty}
use Rattle.px_terms.specs.declared.types.Ty.TheVariants as type
use Rattle.px_terms.specs.declared.types.FnType.{FnType}
use Rattle.px_terms.specs.declared.types.Fun.{Fun}
use Rattle.px_terms.specs.declared.term.Term.{Term}
use Rattle.px_terms.specs.declared.program.Def as definition
use Rattle.px_terms.specs.declared.program.ReplicaDef.{ReplicaDef}
use Rattle.px_terms.specs.declared.program.Program.{Program}
use Rattle.px_terms.specs.Types.{ty_instance, tys_instance, fn_type_instance}
use Rattle.px_terms.specs.Programs.{bool_type}
use Rattle.px_terms.specs.Typing.{behind, live}
use Rattle.px_types.specs.declared.ends.TypeEnd.{TypeEnd}
use Rattle.px_types.specs.declared.ends.TypeKind.{TypeKind}
use Rattle.px_types.specs.declared.ends.TypeKind.TheVariants.{Arity, NotJoin}
use Rattle.px_types.specs.Faults.{Broken, Env, Counts, counts_of}
use Rattle.px_types.specs.Answers.{EndsAs, Answers}
use Rattle.px_types.specs.Outcomes.{onward, needs, there}
use Rattle.px_types.specs.Outcome.{Signature, signature_of, ty_found, tys_found, arguments_found, part_found, part_of, passes, same, same_all, has_wanted}
use Rattle.px_types.specs.Declarations.{with_replica, replica_env}
use Rattle.px_types.specs.NextOutcome.{state_found, has_merge_counts, is_joining, merge_found}
use Rattle.px_types.specs.Checkings.{AnswersAs, merge_rest}
use Rattle.px_types.proofs.Sameness.{decides_same}
use Rattle.px_types.proofs.Stages.{stage, stage_fails}

-- where a replica stands, behind so many obligations and with these variables
abbrev pub replica_stands : Program → List FnType → List Ty → ℕ → Env
replica_stands P funs vars count = record { program = P; place = behind count; context = record { tparams = 0; funs = funs; vars = live vars } }

pub stands_alone : (P : Program) (funs : List FnType) (vars : List Ty) (count : ℕ) → funs ≡ [] → vars ≡ [] → count ≡ length P.declared →
    replica_stands P funs vars count ≡ replica_env P
stands_alone P funs vars count no_funs no_vars here =
    λ i. record { program = P; place = behind (here i); context = record { tparams = 0; funs = no_funs i; vars = live (no_vars i) } }

needs_true : (holds : Bool) (kind : TypeKind) (at : ℕ) (done : Unit {0}) → needs holds kind at ≡ Ok done → holds ≡ true
unfolding needs
needs_true true kind at done e = refl
needs_true false kind at done e = absurd cc

-- what the merge takes and gives is there, where it has its counts
pub record Stands (E : Env) (h : Head) (types : List Ty) : Type 0 where
  pub s : Signature
  pub is : signature_of E h types ≡ Some s

of_option : {X Y : Type 0} (test : Y → Bool) (f : X → Y) (g : X → Signature) (o : Option X) → passes test (option_map f o) ≡ true →
    (s : Signature) × (option_map g o ≡ Some s)
of_option test f g None e = absurd (false≢true e)
of_option test f g (Some x) e = (g x, refl)

stands_of : (E : Env) (h : Head) (types : List Ty) (test : Counts → Bool) → passes test (counts_of E h) ≡ true → Stands E h types
unfolding signature_of
stands_of E (Def n) types test e =
    let found = of_option test (λ (D : definition.Def). record { types = D.tparams; functions = length D.funs; values = length D.params })
    (λ (D : definition.Def). record {
      takes = map (fn_type_instance types) D.funs;
      params = tys_instance types D.params;
      result = ty_instance types D.result;
    }) (slice_get E.program.defs n) e in
    record { s = found.0; is = found.1 }
stands_of E Wle types test e = record { s = record { takes = []; params = type.Word ∷ type.Word ∷ []; result = bool_type }; is = refl }
stands_of E Weq types test e = record { s = record { takes = []; params = type.Word ∷ type.Word ∷ []; result = bool_type }; is = refl }
stands_of E (FnVar i) types test e =
    let found = of_option test (λ (F : FnType). record { types = 0; functions = 0; values = length F.params })
    (λ (F : FnType). record { takes = []; params = F.params; result = F.result }) (slice_get E.context.funs i) e in
    record { s = found.0; is = found.1 }

module _ (P : Program) (r : RawReplica) where
  merge_is : merge_found P r ≡ onward (ty_found P 0 r.state) (λ (T : Ty). onward (part_found (replica_env P) [] (part_of (replica_env P) r.from) T)
      (λ (from : Term). merge_rest P r T from))
  unfolding merge_found state_found
  merge_is = refl

  pub state_fails : (end : TypeEnd) → EndsAs (ty_found P 0 r.state) end → EndsAs (merge_found P r) end
  state_fails end h = stage_fails _ _ _ merge_is end h

  module _ (T : Ty) (typed : ty_found P 0 r.state ≡ Ok T) (E : Env) (here : E ≡ replica_env P) (bound : List Ty) (none : bound ≡ []) where
    from_is : merge_found P r ≡ onward (part_found E (reverse bound) (part_of E r.from) T) (λ (from : Term). merge_rest P r T from)
    from_is =
        stage _ _ merge_is T typed
        ∙ ap (λ (F : Env). onward (part_found F [] (part_of F r.from) T) (λ (from : Term). merge_rest P r T from)) (sym here)
        ∙ ap (λ (xs : List Ty). onward (part_found E (reverse xs) (part_of E r.from) T) (λ (from : Term). merge_rest P r T from)) (sym none)

    pub from_fails : (end : TypeEnd) → EndsAs (part_found E (reverse bound) (part_of E r.from) T) end → EndsAs (merge_found P r) end
    from_fails end h = stage_fails _ _ _ from_is end h

    pub rest_answers : (from : Term) (answer : Result ReplicaDef TypeEnd) → part_found E (reverse bound) (part_of E r.from) T ≡ Ok from →
        AnswersAs (with_replica P) (merge_rest P r T from) answer → AnswersAs (with_replica P) (merge_found P r) answer
    rest_answers from answer is h = subst (λ (o : Result Program Broken). AnswersAs (with_replica P) o answer) (sym (stage _ _ from_is from is)) h

  module _ (T : Ty) (from : Term) where
    -- the replica with this merge
    abbrev pub joined : List Ty → List Fun → ReplicaDef
    joined types funs = record { state = T; from = from; merge = record { head = r.merge.head; types = types }; funs = funs; seen = length P.declared }

    rest_is : merge_rest P r T from ≡ onward (needs (has_merge_counts P r) Arity r.merge.at) (λ (_ : Unit {0}). onward (tys_found P 0 r.merge.types)
        (λ (types : List Ty). onward (there (signature_of (replica_env P) r.merge.head types) Arity r.merge.at)
        (λ (s : Signature). onward (arguments_found (replica_env P) r.funs s.takes) (λ (funs : List Fun). onward
        (needs (is_joining P r.merge.head s T) NotJoin r.merge.at) (λ (_ : Unit {0}). Ok (with_replica P (joined types funs)))))))
    rest_is = refl

    module _ (counted : Bool) (done : Unit {0}) (same : counted ≡ has_merge_counts P r) where
      pub counts_fail : (end : TypeEnd) → EndsAs (needs counted Arity r.merge.at) end → EndsAs (merge_rest P r T from) end
      counts_fail end h = stage_fails _ _ _ rest_is end (rw same at h)

      module _ (passed : needs counted Arity r.merge.at ≡ Ok done) where
        types_is : merge_rest P r T from ≡ onward (tys_found P 0 r.merge.types) (λ (types : List Ty). onward
            (there (signature_of (replica_env P) r.merge.head types) Arity r.merge.at) (λ (s : Signature). onward
            (arguments_found (replica_env P) r.funs s.takes) (λ (funs : List Fun). onward (needs (is_joining P r.merge.head s T) NotJoin r.merge.at)
            (λ (_ : Unit {0}). Ok (with_replica P (joined types funs))))))
        types_is = stage _ _ rest_is done (rw same at passed)

        pub types_fail : (end : TypeEnd) → EndsAs (tys_found P 0 r.merge.types) end → EndsAs (merge_rest P r T from) end
        types_fail end h = stage_fails _ _ _ types_is end h

        counts_hold : has_merge_counts P r ≡ true
        counts_hold = sym same ∙ needs_true counted Arity r.merge.at done passed

        merge_stands : (types : List Ty) → Stands (replica_env P) r.merge.head types
        unfolding has_merge_counts
        merge_stands types = stands_of (replica_env P) r.merge.head types _ counts_hold

        module _ (types : List Ty) (are : tys_found P 0 r.merge.types ≡ Ok types) (E : Env) (here : E ≡ replica_env P) where
          -- what the merge takes and gives, at these types
          pub stands_here : Stands E r.merge.head types
          stands_here = subst (λ (F : Env). Stands F r.merge.head types) (sym here) (merge_stands types)

          functions_is : merge_rest P r T from ≡ onward (arguments_found E r.funs stands_here.s.takes)
              (λ (funs : List Fun). onward (needs (is_joining P r.merge.head stands_here.s T) NotJoin r.merge.at)
              (λ (_ : Unit {0}). Ok (with_replica P (joined types funs))))
          unfolding there
          functions_is =
              stage _ _ types_is types are
              ∙ ap (λ (F : Env). onward (there (signature_of F r.merge.head types) Arity r.merge.at) (λ (s : Signature). onward
              (arguments_found F r.funs s.takes) (λ (funs : List Fun). onward (needs (is_joining P r.merge.head s T) NotJoin r.merge.at)
              (λ (_ : Unit {0}). Ok (with_replica P (joined types funs)))))) (sym here)
              ∙ stage (there (signature_of E r.merge.head types) Arity r.merge.at) (λ (s : Signature). onward (arguments_found E r.funs s.takes)
              (λ (funs : List Fun). onward (needs (is_joining P r.merge.head s T) NotJoin r.merge.at)
              (λ (_ : Unit {0}). Ok (with_replica P (joined types funs))))) refl stands_here.s (ap (λ (o : Option Signature). there o Arity r.merge.at)
              stands_here.is)

          pub functions_fail : (end : TypeEnd) → EndsAs (arguments_found E r.funs stands_here.s.takes) end → EndsAs (merge_rest P r T from) end
          functions_fail end h = stage_fails _ _ _ functions_is end h

          module _ (funs : List Fun) (given : arguments_found E r.funs stands_here.s.takes ≡ Ok funs) (joins : Bool)
              (joins_is : joins ≡ is_joining P r.merge.head stands_here.s T) where
            pub join_fails : (end : TypeEnd) → EndsAs (needs joins NotJoin r.merge.at) end → EndsAs (merge_rest P r T from) end
            join_fails end h = stage_fails _ _ _ (stage _ _ functions_is funs given) end (rw joins_is at h)

            pub merge_ok : (end : Unit {0}) → needs joins NotJoin r.merge.at ≡ Ok end → merge_rest P r T from ≡ Ok (with_replica P (joined types funs))
            merge_ok end is = stage _ _ (stage _ _ functions_is funs given) end (rw joins_is at is)

-- a comparison joins no states: it takes words, and gives a truth value
pub words_no_join : (state : Ty) (known : Bool) → false ≡ (same_all (type.Word ∷ type.Word ∷ []) (state ∷ state ∷ []) && same bool_type state && known)
unfolding same_all
words_no_join state known = go (same type.Word state) (same bool_type state) refl refl
  where
    no : (T : Ty) → type.Word ≡ T → bool_type ≡ T → ⊥
    no T e f = word_is_no_bool (e ∙ sym f)
      where
        word_is_no_bool : type.Word ≡ bool_type → ⊥
        word_is_no_bool e = cc

    go : (x y : Bool) → same type.Word state ≡ x → same bool_type state ≡ y → false ≡ ((x && (x && true)) && y && known)
    go false y e f = refl
    go true false e f = refl
    go true true e f = absurd (no state ((decides_same type.Word state).0 e) ((decides_same bool_type state).0 f))

-- which of two types is compared with the other does not matter
same_turned : (T U : Ty) → same T U ≡ same U T
same_turned T U = same_from_decides (same T U) (same U T) (decides_same T U) (Decides-like (same U T) sym sym (decides_same U T))

pub turned : (T U : Ty) (r : Bool) → r ≡ same T U → r ≡ same U T
turned T U r e = e ∙ same_turned T U

-- two items
pub two_items : {X : Type 0} (xs looked : List X) (a b : X) → looked ≡ xs → 2 ≤ length looked → length looked < 3 → a ≡ get_or looked 0 a →
    b ≡ get_or looked 1 b → xs ≡ a ∷ b ∷ []
two_items {X} xs looked a b same least most first second = sym same ∙ go looked least most first second
  where
    go : (ys : List X) → 2 ≤ length ys → length ys < 3 → a ≡ get_or ys 0 a → b ≡ get_or ys 1 b → ys ≡ a ∷ b ∷ []
    go [] least most first second = absurd (omega arith)
    go (x ∷ []) least most first second = absurd (omega arith)
    go (x ∷ y ∷ []) least most first second = λ i. sym first i ∷ sym second i ∷ []
    go (x ∷ y ∷ z ∷ zs) least most first second = absurd (omega arith)

none_and : (b : Bool) → false ≡ (b && false)
none_and true = refl
none_and false = refl

-- a function that takes fewer or more than two values takes no two states
module _ (f : Ty → Ty) (state : Ty) (gives : Bool) where
  pub too_few : (params looked : List Ty) → looked ≡ params → length looked < 2 → false ≡ (same_all (map f params) (state ∷ state ∷ []) && gives)
  unfolding same_all
  too_few [] looked e few = refl
  too_few (a ∷ []) looked e few = ap (λ (b : Bool). b && gives) (none_and (same (f a) state))
  too_few (a ∷ b ∷ rest) looked e few =
      let h : length looked ≡ length (a ∷ b ∷ rest) = ap (λ (xs : List Ty). length xs) e in
      absurd (omega arith)

  pub too_many : (params looked : List Ty) → looked ≡ params → 3 ≤ length looked → false ≡ (same_all (map f params) (state ∷ state ∷ []) && gives)
  unfolding same_all
  too_many [] looked e many =
      let h : length looked ≡ 0 = ap (λ (xs : List Ty). length xs) e in
      absurd (omega arith)
  too_many (a ∷ []) looked e many =
      let h : length looked ≡ 1 = ap (λ (xs : List Ty). length xs) e in
      absurd (omega arith)
  too_many (a ∷ b ∷ []) looked e many =
      let h : length looked ≡ 2 = ap (λ (xs : List Ty). length xs) e in
      absurd (omega arith)
  too_many (a ∷ b ∷ c ∷ rest) looked e many =
      ap (λ (x : Bool). x && gives) (none_and (same (f a) state) ∙ ap (λ (x : Bool). same (f a) state && x) (none_and (same (f b) state)))

  module _ (params : List Ty) (a b : Ty) (two : params ≡ a ∷ b ∷ []) where
    both_is : (x y : Bool) → x ≡ same (f a) state → y ≡ same (f b) state →
        ((x && (y && true)) && gives) ≡ (same_all (map f params) (state ∷ state ∷ []) && gives)
    unfolding same_all
    both_is x y e g = (λ i. (e i && (g i && true)) && gives) ∙ ap (λ (xs : List Ty). same_all (map f xs) (state ∷ state ∷ []) && gives) (sym two)

    pub not_first : (x : Bool) → x ≡ same (f a) state → x ≡ false → false ≡ (same_all (map f params) (state ∷ state ∷ []) && gives)
    not_first x e fails = ap (λ (z : Bool). (z && (same (f b) state && true)) && gives) (sym fails) ∙ both_is x (same (f b) state) e refl

    pub not_second : (x y : Bool) → x ≡ same (f a) state → x ≡ true → y ≡ same (f b) state → y ≡ false →
        false ≡ (same_all (map f params) (state ∷ state ∷ []) && gives)
    not_second x y e holds g fails = (λ i. (sym holds i && (sym fails i && true)) && gives) ∙ both_is x y e g

    pub as_third : (x y : Bool) → x ≡ same (f a) state → x ≡ true → y ≡ same (f b) state → y ≡ true →
        gives ≡ (same_all (map f params) (state ∷ state ∷ []) && gives)
    as_third x y e holds g also = (λ i. (sym holds i && (sym also i && true)) && gives) ∙ both_is x y e g

-- what is called is no definition
abbrev pub IsOther : Head → Type 0
IsOther h = (h ≡ Wle) ⊎ ((h ≡ Weq) ⊎ ((i : ℕ) × (h ≡ FnVar i)))

-- what is called, by its kind
module _ (E : Env) (h : Head) (types : List Ty) (s : Signature) (is : signature_of E h types ≡ Some s) where
  definition_is : (n : ℕ) (D : definition.Def) → h ≡ Def n → Some D ≡ slice_get E.program.defs n →
      s ≡ record { takes = map (fn_type_instance types) D.funs; params = tys_instance types D.params; result = ty_instance types D.result }
  unfolding signature_of
  definition_is n D e at =
      let found : Some s ≡ Some (record {
        takes = map (fn_type_instance types) D.funs;
        params = tys_instance types D.params;
        result = ty_instance types D.result;
      }) =
      sym is
      ∙ ap (λ (k : Head). signature_of E k types) e
      ∙ ap (option_map (λ (C : definition.Def). record {
        takes = map (fn_type_instance types) C.funs;
        params = tys_instance types C.params;
        result = ty_instance
            types C.result;
      })) (sym at) in
      cc

  no_definition : (n : ℕ) → h ≡ Def n → None ≡ slice_get E.program.defs n → ⊥
  unfolding signature_of
  no_definition n e at =
      let found : Some s ≡ None =
      sym is
      ∙ ap (λ (k : Head). signature_of E k types) e
      ∙ ap (option_map (λ (C : definition.Def). record {
        takes = map (fn_type_instance types) C.funs;
        params = tys_instance types C.params;
        result = ty_instance
            types C.result;
      })) (sym at) in
      cc

  -- the functions that it is given
  pub given_definition : (n : ℕ) (D : definition.Def) (raws : List RawFun) (r : Result (List Fun) TypeEnd) → h ≡ Def n → Some D ≡ slice_get E.program.defs n →
      Answers (arguments_found E raws (map (fn_type_instance types) D.funs)) r → Answers (arguments_found E raws s.takes) r
  given_definition n D raws r e at answers =
      subst (λ (takes : List FnType). Answers (arguments_found E raws takes) r) (sym (ap (λ (t : Signature). t.takes) (definition_is n D e at))) answers

  pub given_nothing : (n : ℕ) {R : Type 0} → h ≡ Def n → None ≡ slice_get E.program.defs n → R
  given_nothing n e at = absurd (no_definition n e at)

  variable_takes : (o : Option FnType) → option_map (λ (F : FnType). record { takes = []; params = F.params; result = F.result }) o ≡ Some s → s.takes ≡ []
  variable_takes None e = absurd cc
  variable_takes (Some F) e = ap (λ (t : Signature). t.takes) (same_Some s (record { takes = []; params = F.params; result = F.result }) (sym e))

  takes_nothing : IsOther h → s.takes ≡ []
  unfolding signature_of
  takes_nothing (inl e) =
      ap (λ (t : Signature). t.takes) (same_Some s (record { takes = []; params = type.Word ∷ type.Word ∷ []; result = bool_type })
      (sym is ∙ ap (λ (k : Head). signature_of E k types) e))
  takes_nothing (inr (inl e)) =
      ap (λ (t : Signature). t.takes) (same_Some s (record { takes = []; params = type.Word ∷ type.Word ∷ []; result = bool_type })
      (sym is ∙ ap (λ (k : Head). signature_of E k types) e))
  takes_nothing (inr (inr (i, e))) = variable_takes (slice_get E.context.funs i) (sym (ap (λ (k : Head). signature_of E k types) e) ∙ is)

  pub given_other : (none : List FnType) (raws : List RawFun) (r : Result (List Fun) TypeEnd) → IsOther h → none ≡ [] →
      Answers (arguments_found E raws (map (fn_type_instance types) none)) r → Answers (arguments_found E raws s.takes) r
  given_other none raws r other empty answers =
      subst (λ (takes : List FnType). Answers (arguments_found E raws takes) r) (ap (map (fn_type_instance types)) empty ∙ sym (takes_nothing other)) answers

  compares : s ≡ record { takes = []; params = type.Word ∷ type.Word ∷ []; result = bool_type } → (state : Ty) → false ≡ is_joining E.program h s state
  unfolding is_joining
  compares e state =
      words_no_join state (has_wanted (replica_env E.program) h (set_of (Comm ∷ Assoc ∷ Idem ∷ [])))
      ∙ ap (λ (t : Signature). (same_all t.params (state ∷ state ∷ []) && same t.result state) && has_wanted (replica_env E.program) h
      (set_of (Comm ∷ Assoc ∷ Idem ∷ []))) (sym e)

  pub other_joins_nothing : E ≡ replica_env E.program → IsOther h → (state : Ty) → false ≡ is_joining E.program h s state
  unfolding signature_of
  other_joins_nothing alone (inl e) state =
      compares (same_Some s (record { takes = []; params = type.Word ∷ type.Word ∷ []; result = bool_type })
      (sym is ∙ ap (λ (k : Head). signature_of E k types) e)) state
  other_joins_nothing alone (inr (inl e)) state =
      compares (same_Some s (record { takes = []; params = type.Word ∷ type.Word ∷ []; result = bool_type })
      (sym is ∙ ap (λ (k : Head). signature_of E k types) e)) state
  other_joins_nothing alone (inr (inr (i, e))) state =
      let found : Some s ≡ None = sym is ∙ ap (λ (k : Head). signature_of E k types) e ∙ ap (λ (F : Env). signature_of F (FnVar i) types) alone in
      absurd cc

  -- whether it joins states
  module _ (alone : E ≡ replica_env E.program) (state : Ty) (joins : Bool) where
    joining_is : (n : ℕ) (D : definition.Def) (known : Bool) → h ≡ Def n → Some D ≡ slice_get E.program.defs n →
        joins ≡ (same_all (tys_instance types D.params) (state ∷ state ∷ []) && same (ty_instance types D.result) state) →
        known ≡ has_wanted E h (set_of (Comm ∷ Assoc ∷ Idem ∷ [])) → (joins && known) ≡ is_joining E.program h s state
    unfolding is_joining
    joining_is n D known e at says knows =
        (λ i. says i && knows i)
        ∙ ap (λ (F : Env). (same_all (tys_instance types D.params) (state ∷ state ∷ []) && same (ty_instance types D.result) state) && has_wanted F h
        (set_of (Comm ∷ Assoc ∷ Idem ∷ []))) alone
        ∙ ap (λ (t : Signature). (same_all t.params (state ∷ state ∷ []) && same t.result state) && has_wanted (replica_env E.program) h
        (set_of (Comm ∷ Assoc ∷ Idem ∷ []))) (sym (definition_is n D e at))

    pub joining : (n : ℕ) (D : definition.Def) (known : Bool) → h ≡ Def n → Some D ≡ slice_get E.program.defs n →
        joins ≡ (same_all (tys_instance types D.params) (state ∷ state ∷ []) && same (ty_instance types D.result) state) →
        known ≡ has_wanted E (Def n) (set_of (Comm ∷ Assoc ∷ Idem ∷ [])) → joins ≡ true → known ≡ is_joining E.program h s state
    joining n D known e at says knows holds =
        ap (λ (b : Bool). b && known) (sym holds)
        ∙ joining_is n D known e at says (knows ∙ ap (λ (k : Head). has_wanted E k (set_of (Comm ∷ Assoc ∷ Idem ∷ []))) (sym e))

    pub not_joining : (n : ℕ) (D : definition.Def) → h ≡ Def n → Some D ≡ slice_get E.program.defs n →
        joins ≡ (same_all (tys_instance types D.params) (state ∷ state ∷ []) && same (ty_instance types D.result) state) → joins ≡ false →
        joins ≡ is_joining E.program h s state
    not_joining n D e at says fails =
        fails ∙ ap (λ (b : Bool). b && has_wanted E h (set_of (Comm ∷ Assoc ∷ Idem ∷ []))) (sym fails) ∙ joining_is n D
        (has_wanted E h (set_of (Comm ∷ Assoc ∷ Idem ∷ []))) e at says refl

-- so many obligations stand before it
pub seen_as : (P : Program) (r : RawReplica) (T : Ty) (from : Term) (types : List Ty) (funs : List Fun) (count : ℕ) {out : Result Program Broken} →
    count ≡ length P.declared → out ≡ Ok (with_replica P (joined P r T from types funs)) →
    out ≡ Ok (with_replica P (record { state = T; from = from; merge = record { head = r.merge.head; types = types }; funs = funs; seen = count }))
seen_as P r T from types funs count here e =
    e ∙ ap (λ (n : ℕ). Ok (with_replica P (record { state = T; from = from; merge = record { head = r.merge.head; types = types }; funs = funs; seen = n })))
    (sym here)
