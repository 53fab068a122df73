-- Replicas are found exactly as the rules say.
use Rattle.std.proofs.Common.{◌≡◌, ℕ, suc, List, [], ◌∷◌, length, Option, Some, None, refl, sym, ◌∙◌, ap, subst, Decides}
use Rattle.std.specs.Option.{IsSomeAnd}
use Rattle.std.proofs.lemmas.Bool.{false≢true}
use Rattle.std.proofs.lemmas.Bool.Decides.{Decides-and, Decides-eqb, Decides-like}
use Rattle.std.proofs.lemmas.List.Elements.{All-nil, All-cons, All-head, All-weaker}
use Rattle.px_base.specs.PropSets.{HasProp, set_of}
use Rattle.px_base.specs.Fitting.{IsGround, AreGround}
use Rattle.px_base.specs.declared.prop.Prop.{Prop}
use Rattle.px_base.specs.declared.prop.Prop.TheVariants.{Comm, Assoc, Idem, Sel, Refl, Irrefl, Sym, Antisym, Asym, Trans, Conn}
use Rattle.px_base.specs.declared.head.Head.{Head}
use Rattle.px_base.specs.declared.raw.RawTy.{RawTy}
use Rattle.px_base.specs.declared.raw.RawFun.{RawFun}
use Rattle.px_base.specs.declared.raw.RawKind.{RawKind, out-RawKind}
use Rattle.px_base.specs.declared.raw.RawKind.TheOpen.{RawKind-F}
use Rattle.px_base.specs.declared.raw.RawTerm.{RawTerm}
use Rattle.px_base.specs.declared.raw.RawArm.{RawArm}
use Rattle.px_base.specs.declared.raw.RawReplica.{RawReplica}
use Rattle.px_terms.specs.declared.types.Ty.{Ty}
use Rattle.px_terms.specs.declared.types.FnType.{FnType}
use Rattle.px_terms.specs.declared.types.Fun.{Fun}
use Rattle.px_terms.specs.declared.term.Term.{Term, out-Term}
use Rattle.px_terms.specs.declared.term.Term.TheVariants as term
use Rattle.px_terms.specs.declared.program.ReplicaDef.{ReplicaDef}
use Rattle.px_terms.specs.declared.program.Program.{Program}
use Rattle.px_terms.specs.Typing.{behind, AreTypes, IsSmallMet, IsMet, IsFunction, MayCall, IsKnown, AreArguments}
use Rattle.px_terms.specs.Typing as typing
use Rattle.px_terms.specs.Clauses.{functions_alone}
use Rattle.px_terms.specs.TypedPrograms.{IsWritten, IsBuiltLayer, AreBuilt, IsTypedReplica}
use Rattle.px_types.specs.declared.ends.TypeKind.TheVariants.{Arity, NotJoin}
use Rattle.px_types.specs.Written.{IsTy, AreTys, IsFun, AreFuns, IsTermLayer, AreTerms}
use Rattle.px_types.specs.Written as written
use Rattle.px_types.specs.Faults.{Broken, breaks, Env, Counts, counts_of, IsTyped, AreTyped, AreRight, BreaksTy, BreaksTys, BreaksParts, BreaksArguments, AreRightArguments}
use Rattle.px_types.specs.Faults as faults
use Rattle.px_types.specs.Declarations.{IsReplica, with_replica, replica_env, HasMergeCounts, IsJoining, IsMerge, BreaksReplica}
use Rattle.px_types.specs.Laws.{IsDeclaring}
use Rattle.px_types.specs.Outcome.{Signature, signature_of}
use Rattle.px_types.specs.NextOutcome.{state_found, has_merge_counts, is_joining, merge_found}
use Rattle.px_types.proofs.Exact.{Exact, first, later, exact_as, exact_ok, exact_needs, exact_there, exact_then, AllTwo}
use Rattle.px_types.proofs.TypesExact.{IsRight, exact_type, exact_types, same_length, are_types}
use Rattle.px_types.proofs.Sameness.{decides_same, decides_same_all}
use Rattle.px_types.proofs.Known.{decides_passes, decides_wanted}
use Rattle.px_types.proofs.Functions.{TakesTypes, no_signature, function_of, function_is, function_counts, function_types}
use Rattle.px_types.proofs.ArgumentsExact.{IsRightFun, exact_arguments, right_funs, right_arguments, all_right_funs, are_right_arguments, found_arguments, broken_arguments, arguments_broken, written_of}
use Rattle.px_types.proofs.DefinitionsExact.{HaveConstructors}
use Rattle.px_types.proofs.PartsExact.{exact_one_part, one_typed, typed_one}

one_some : {X : Type 0} {x y : X} → Some x ≡ Some y → x ≡ y
one_some e = cc

-- parts of what is built of constructors and literals alone
ground_fields : {d k : ℕ} {types : List RawTy} {fields : List RawTerm} → IsGround (RawKind-F.Con d k types fields) → AreGround fields
ground_fields (IsGround.construction ground) = ground

ground_first : {t : RawTerm} {ts : List RawTerm} → AreGround (t ∷ ts) → IsGround (out-RawKind t.kind)
ground_first (AreGround.more here rest) = here

ground_rest : {t : RawTerm} {ts : List RawTerm} → AreGround (t ∷ ts) → AreGround ts
ground_rest (AreGround.more here rest) = rest

-- what is written of constructors and literals alone is built of them
mutual
  built_of : {P : Program} {layer : RawKind-F RawKind RawArm RawTerm} {t : Term} → IsTermLayer P layer t → IsGround layer → IsBuiltLayer (out-Term t)
  built_of (written.literal {w = w} e) ground = rw (e, term.outs-Lit w) IsBuiltLayer.literal
  built_of (written.construction {d = d} {k = k} {types = types} {fields = fields} types_are are e) ground =
      rw (e, term.outs-Con d k types fields) (IsBuiltLayer.construction (all_built are (ground_fields ground)))
  built_of (written.free e) ground = elim ground [ ]
  built_of (written.bound e) ground = elim ground [ ]
  built_of (written.call f funs args e) ground = elim ground [ ]
  built_of (written.choice on arms once counts e) ground = elim ground [ ]

  all_built : {P : Program} {raws : List RawTerm} {ts : List Term} → AreTerms P raws ts → AreGround raws → AreBuilt ts
  all_built written.none ground = AreBuilt.none
  all_built (written.more is are) ground = AreBuilt.more (built_of is (ground_first ground)) (all_built are (ground_rest ground))

-- what is asked of the counts of what is called
types_count : (o : Option Counts) (n m k : ℕ) → n ≡ k → IsSomeAnd o (λ (c : Counts). (c.types ≡ n) × (c.functions ≡ m)) →
    IsSomeAnd o (λ (c : Counts). c.types ≡ k)
types_count None n m k e h = h
types_count (Some c) n m k e h = h.0 ∙ e

functions_count : (o : Option Counts) (c : Counts) (n m : ℕ) → o ≡ Some c → IsSomeAnd o (λ (c : Counts). (c.types ≡ n) × (c.functions ≡ m)) → c.functions ≡ m
functions_count o c n m e h = (subst (λ (q : Option Counts). IsSomeAnd q (λ (c : Counts). (c.types ≡ n) × (c.functions ≡ m))) e h).1

funs_length : {raws : List RawFun} {fs : List Fun} → AreFuns raws fs → length raws ≡ length fs
funs_length written.none = refl
funs_length (written.more is are) = ap (λ n. suc n) (funs_length are)

arguments_length : {E : Env} {fs : List Fun} {takes : List FnType} → AreArguments E.program E.place E.context fs takes → length fs ≡ length takes
arguments_length typing.none = refl
arguments_length (typing.more is are) = ap (λ n. suc n) (arguments_length are)

-- the properties of a merge
abbrev merge_props : List Prop
merge_props = Comm ∷ Assoc ∷ Idem ∷ []

of_three : (Q : Prop → Type 0) → Q Comm → Q Assoc → Q Idem → (p : Prop) → HasProp (set_of merge_props) p → Q p
of_three Q comm assoc idem Comm has = comm
of_three Q comm assoc idem Assoc has = assoc
of_three Q comm assoc idem Idem has = idem
of_three Q comm assoc idem Sel has = absurd (false≢true has)
of_three Q comm assoc idem Refl has = absurd (false≢true has)
of_three Q comm assoc idem Irrefl has = absurd (false≢true has)
of_three Q comm assoc idem Sym has = absurd (false≢true has)
of_three Q comm assoc idem Antisym has = absurd (false≢true has)
of_three Q comm assoc idem Asym has = absurd (false≢true has)
of_three Q comm assoc idem Trans has = absurd (false≢true has)
of_three Q comm assoc idem Conn has = absurd (false≢true has)

right_ty : {raw : RawTy} {T : Ty} → AreTys (raw ∷ []) (T ∷ []) → IsTy raw T
right_ty (written.more is are) = is

one_right : {P : Program} {raw : RawTy} {T : Ty} → IsRight P 0 raw T → AreRight P 0 (raw ∷ []) (T ∷ [])
one_right {P} {raw} {T} is = record { are = written.more is.is written.none; written = All-cons (IsWritten P 0) T [] is.written (All-nil (IsWritten P 0)) }

right_one : {P : Program} {raw : RawTy} {T : Ty} → AreRight P 0 (raw ∷ []) (T ∷ []) → IsRight P 0 raw T
right_one {P} {raw} {T} right = record { is = right_ty right.are; written = All-head (IsWritten P 0) T [] right.written }

only_ty : {P : Program} {raw : RawTy} {b : Broken} → BreaksTys P 0 (raw ∷ []) b → BreaksTy P 0 raw b
only_ty (faults.here br) = br
only_ty (faults.later right br) = elim br [ ]

-- The replica is this one.
pub record ReplicaStep (P : Program) (r : RawReplica) (Q : Program) : Type 0 where
  pub R : ReplicaDef
  pub is : IsReplica P (length P.declared) r R
  pub typed : IsTypedReplica P R
  pub same : Q ≡ with_replica P R

module _ (P : Program) (r : RawReplica) (some : HaveConstructors P) where
  abbrev env : Env
  env = replica_env P

  declaring : IsDeclaring env
  declaring = record { placed = tt; some = some }

  decides_merge_counts : Decides (has_merge_counts P r) (HasMergeCounts P r)
  unfolding has_merge_counts
  decides_merge_counts = decides_passes _ (λ (c : Counts). (c.types ≡ length r.merge.types) × (c.functions ≡ length r.funs))
      (λ c. Decides-and _ _ (Decides-eqb c.types (length r.merge.types)) (Decides-eqb c.functions (length r.funs))) (counts_of env r.merge.head)

  -- The merge with this signature joins states of this type.
  record Joins (s : Signature) (state : Ty) : Type 0 where
    params : s.params ≡ state ∷ state ∷ []
    result : s.result ≡ state
    known : (p : Prop) → HasProp (set_of merge_props) p → IsKnown P (behind (length P.declared)) (functions_alone 0 []) r.merge.head p

  decides_joins : (s : Signature) (state : Ty) → Decides (is_joining P r.merge.head s state) (Joins s state)
  unfolding is_joining
  decides_joins s state = Decides-like _ (λ h. record { params = h.0.0; result = h.0.1; known = h.1 }) (λ j. ((j.params, j.result), j.known))
      (Decides-and _ _ (Decides-and _ _ (decides_same_all s.params (state ∷ state ∷ [])) (decides_same s.result state))
      (decides_wanted env r.merge.head (set_of merge_props)))

  takes_types : (types : List Ty) → HasMergeCounts P r → AreRight P 0 r.merge.types types → TakesTypes env r.merge.head (length types)
  takes_types types counts right = types_count (counts_of env r.merge.head) (length r.merge.types) (length r.funs) (length types) (same_length right.are) counts

  -- the merge at its types
  abbrev merge_at : List Ty → Fun
  merge_at types = record { head = r.merge.head; types = types }

  merge_function : (types : List Ty) (s : Signature) → HasMergeCounts P r → AreRight P 0 r.merge.types types → signature_of env r.merge.head types ≡ Some s →
      IsFunction P (functions_alone 0 []) (merge_at types) s.takes s.params s.result
  merge_function types s counts right stands = function_of env r.merge.head types s (takes_types types counts right) (are_types P 0 types right.written) stands

  takes_length : (types : List Ty) (s : Signature) → HasMergeCounts P r → AreRight P 0 r.merge.types types → signature_of env r.merge.head types ≡ Some s →
      length r.funs ≡ length s.takes
  takes_length types s counts right stands =
      sym (functions_count (counts_of env r.merge.head) (record { types = length types; functions = length s.takes; values = length s.params })
      (length r.merge.types) (length r.funs) (function_counts env (merge_function types s counts right stands)) counts)

  exact_state : Exact (state_found P r) (IsRight P 0 r.state) (BreaksTy P 0 r.state)
  unfolding state_found
  exact_state = exact_type P 0 r.state

  -- A replica with all that is found of it.
  record IsMade (Q : Program) : Type 0 where
    state : Ty
    state_is : IsRight P 0 r.state state
    from : Term
    from_is : IsTyped env [] (out-RawKind r.from.kind) from state
    counts : HasMergeCounts P r
    types : List Ty
    right : AreRight P 0 r.merge.types types
    s : Signature
    stands : signature_of env r.merge.head types ≡ Some s
    funs : List Fun
    are : AllTwo (IsRightFun env) r.funs s.takes funs
    joins : Joins s state
    same : Q ≡ with_replica P (record { state = state; from = from; merge = merge_at types; funs = funs; seen = length P.declared })

  -- The first fault of a replica, stage by stage.
  data BreaksMade (b : Broken) : Type 0 where
    of_state : BreaksTy P 0 r.state b → BreaksMade b
    of_from : {T : Ty} → IsRight P 0 r.state T → BreaksParts env [] (r.from ∷ []) (T ∷ []) b → BreaksMade b
    of_counts : {T : Ty} {t : Term} → IsRight P 0 r.state T → IsTyped env [] (out-RawKind r.from.kind) t T → (HasMergeCounts P r → ⊥) →
        b ≡ breaks Arity r.merge.at → BreaksMade b
    of_types : {T : Ty} {t : Term} → IsRight P 0 r.state T → IsTyped env [] (out-RawKind r.from.kind) t T → HasMergeCounts P r → BreaksTys P 0 r.merge.types b →
        BreaksMade b
    of_functions : {T : Ty} {t : Term} {types : List Ty} {s : Signature} → IsRight P 0 r.state T → IsTyped env [] (out-RawKind r.from.kind) t T →
        HasMergeCounts P r → AreRight P 0 r.merge.types types → signature_of env r.merge.head types ≡ Some s → BreaksArguments env r.funs s.takes b → BreaksMade
        b
    of_joining : {T : Ty} {t : Term} {types : List Ty} {s : Signature} {funs : List Fun} → IsRight P 0 r.state T →
        IsTyped env [] (out-RawKind r.from.kind) t T → HasMergeCounts P r → AreRight P 0 r.merge.types types → signature_of env r.merge.head types ≡ Some
        s → AllTwo (IsRightFun env) r.funs s.takes funs → (Joins s T → ⊥) → b ≡ breaks NotJoin r.merge.at → BreaksMade b

  exact_made : Exact (merge_found P r) IsMade BreaksMade
  unfolding merge_found
  exact_made = exact_as
      (exact_then exact_state (λ state state_is.
      exact_then (exact_one_part env declaring r.from state) (λ from from_is.
      exact_then (exact_needs _ Arity r.merge.at decides_merge_counts) (λ _ counts.
      exact_then (exact_types P 0 r.merge.types) (λ types right.
      exact_then (exact_there (signature_of env r.merge.head types) Arity r.merge.at) (λ s stands.
      exact_then (exact_arguments env tt r.funs s.takes (takes_length types s counts right stands)) (λ funs are.
      exact_then (exact_needs _ NotJoin r.merge.at (decides_joins s state)) (λ _ joins.
      exact_ok (with_replica P (record { state = state; from = from; merge = merge_at types; funs = funs; seen = length P.declared })))))))))
      )
      (λ Q both. let second = both.after in let third = second.after in let fourth = third.after in let fifth = fourth.after in let sixth =
      fifth.after in record {
        state = both.x;
        state_is = both.is;
        from = second.x;
        from_is = second.is;
        counts = third.is;
        types = fourth.x;
        right = fourth.is;
        s = fifth.x;
        stands = fifth.is;
        funs = sixth.x;
        are = sixth.is;
        joins = sixth.after.is;
        same = sixth.after.after;
      })
      (λ Q made. record {
        x = made.state;
        is = made.state_is;
        after = record {
          x = made.from;
          is = made.from_is;
          after = record {
            x = tt;
            is = made.counts;
            after = record {
              x = made.types;
              is = made.right;
              after = record {
                x = made.s;
                is = made.stands;
                after = record { x = made.funs; is = made.are; after = record { x = tt; is = made.joins; after = made.same } };
              };
            };
          };
        };
      })
      (λ b br. elim br [
        | first wrong ↦ BreaksMade.of_state wrong
        | later state state_is h ↦ elim h [
          | first wrong ↦ BreaksMade.of_from state_is wrong
          | later from from_is h2 ↦ elim h2 [
            | first wrong ↦ BreaksMade.of_counts state_is from_is wrong.0 wrong.1
            | later _ counts h3 ↦ elim h3 [
              | first wrong ↦ BreaksMade.of_types state_is from_is counts wrong
              | later types right h4 ↦ elim h4 [
                | first nothing ↦ absurd (no_signature env r.merge.head (length types) types (takes_types types counts right) nothing.0)
                | later s stands h5 ↦ elim h5 [
                  | first wrong ↦ BreaksMade.of_functions {s = s} state_is from_is counts right stands (broken_arguments env tt wrong)
                  | later funs are h6 ↦ elim h6 [
                    | first wrong ↦ BreaksMade.of_joining {s = s} state_is from_is counts right stands are wrong.0 wrong.1
                    | later _ joins nothing ↦ absurd nothing
                  ]
                ]
              ]
            ]
          ]
        ]
      ])
      (λ b br. elim br [
        | BreaksMade.of_state wrong ↦ first wrong
        | BreaksMade.of_from {T = T} state_is wrong ↦ later T state_is (first wrong)
        | BreaksMade.of_counts {T = T} {t = t} state_is from_is wrong e ↦ later T state_is (later t from_is (first (wrong, e)))
        | BreaksMade.of_types {T = T} {t = t} state_is from_is counts wrong ↦ later T state_is (later t from_is (later tt counts (first wrong)))
        | BreaksMade.of_functions {T = T} {t = t} {types = types} {s = s} state_is from_is counts right stands wrong ↦ later T state_is
            (later t from_is (later tt counts (later types right (later s stands (first (arguments_broken env tt wrong))))))
        | BreaksMade.of_joining {T = T} {t = t} {types = types} {s = s} {funs = funs} state_is from_is counts right stands are wrong e ↦ later T state_is
            (later t from_is (later tt counts (later types right (later s stands (later funs are (first (wrong, e)))))))
      ])

  -- the merge joins, in the words of the rules
  join_function : (f : Fun) (s : Signature) (state : Ty) → s.params ≡ state ∷ state ∷ [] → s.result ≡ state →
      IsFunction P (functions_alone 0 []) f s.takes s.params s.result → IsFunction P (functions_alone 0 []) f s.takes (state ∷ state ∷ []) state
  join_function f s state params result function =
      subst (λ (T : Ty). IsFunction P (functions_alone 0 []) f s.takes (state ∷ state ∷ []) T) result
      (subst (λ (ps : List Ty). IsFunction P (functions_alone 0 []) f s.takes ps s.result) params function)

  joining_of : (types : List Ty) (s : Signature) (state : Ty) → IsFunction P (functions_alone 0 []) (merge_at types) s.takes s.params s.result → Joins s state →
      IsJoining P (merge_at types) state
  joining_of types s state function joins = record {
    takes = s.takes;
    function = join_function (merge_at types) s state joins.params joins.result function;
    comm = joins.known Comm refl;
    assoc = joins.known Assoc refl;
    idem = joins.known Idem refl;
  }

  joins_of : (merge : Fun) (s : Signature) (state : Ty) → merge.head ≡ r.merge.head → signature_of env r.merge.head merge.types ≡ Some s →
      IsJoining P merge state → Joins s state
  joins_of merge s state e stands joining =
      let found : signature_of env r.merge.head merge.types ≡ Some (record { takes = joining.takes; params = state ∷ state ∷ []; result = state }) =
      ap (λ (h : Head). signature_of env h merge.types) (sym e) ∙ function_is env joining.function in
      let one : s ≡ record { takes = joining.takes; params = state ∷ state ∷ []; result = state } = one_some (sym stands ∙ found) in
      record {
        params = ap (λ (x : Signature). x.params) one;
        result = ap (λ (x : Signature). x.result) one;
        known = λ p has. subst (λ (h : Head). IsKnown P (behind (length P.declared)) (functions_alone 0 []) h p) e
            (of_three (λ (q : Prop). IsKnown P (behind (length P.declared)) (functions_alone 0 []) merge.head q) joining.comm joining.assoc joining.idem p has);
      }

  is_merge : (types : List Ty) (s : Signature) → HasMergeCounts P r → AreRight P 0 r.merge.types types → signature_of env r.merge.head types ≡ Some s →
      IsMerge P r (merge_at types) s.takes
  is_merge types s counts right stands = record {
    params = s.params;
    result = s.result;
    is = record { head = refl; types = right.are };
    right = right;
    function = merge_function types s counts right stands;
  }

  merge_stands : {merge : Fun} {takes : List FnType} (m : IsMerge P r merge takes) →
      signature_of env r.merge.head merge.types ≡ Some (record { takes = takes; params = m.params; result = m.result })
  merge_stands {merge} m = ap (λ (h : Head). signature_of env h merge.types) (sym m.is.head) ∙ function_is env m.function

  replica_breaks : {b : Broken} → BreaksMade b → BreaksReplica P r b
  replica_breaks (BreaksMade.of_state wrong) = BreaksReplica.state (faults.here wrong)
  replica_breaks (BreaksMade.of_from state_is wrong) = BreaksReplica.from (one_right state_is) wrong
  replica_breaks (BreaksMade.of_counts state_is from_is wrong e) = BreaksReplica.counts (one_right state_is) (one_typed from_is) wrong e
  replica_breaks (BreaksMade.of_types state_is from_is counts wrong) = BreaksReplica.types (one_right state_is) (one_typed from_is) counts wrong
  replica_breaks (BreaksMade.of_functions {types = types} {s = s} state_is from_is counts right stands wrong) =
      BreaksReplica.functions (one_right state_is) (one_typed from_is) counts (is_merge types s counts right stands) wrong
  replica_breaks (BreaksMade.of_joining {T = T} {types = types} {s = s} state_is from_is counts right stands are wrong e) =
      BreaksReplica.not_join (one_right state_is) (one_typed from_is) counts (is_merge types s counts right stands) (are_right_arguments env tt are)
      (λ joining. wrong (joins_of (merge_at types) s T refl stands joining)) e

  breaks_replica : {b : Broken} → BreaksReplica P r b → BreaksMade b
  breaks_replica (BreaksReplica.state wrong) = BreaksMade.of_state (only_ty wrong)
  breaks_replica (BreaksReplica.from right wrong) = BreaksMade.of_from (right_one right) wrong
  breaks_replica (BreaksReplica.counts right typed wrong e) = BreaksMade.of_counts (right_one right) (typed_one typed).is wrong e
  breaks_replica (BreaksReplica.types right typed counts wrong) = BreaksMade.of_types (right_one right) (typed_one typed).is counts wrong
  breaks_replica (BreaksReplica.functions {takes = takes} right typed counts m wrong) = BreaksMade.of_functions
      {s = record { takes = takes; params = m.params; result = m.result }} (right_one right) (typed_one typed).is counts m.right (merge_stands m) wrong
  breaks_replica (BreaksReplica.not_join {T = T} {merge = merge} {takes = takes} right typed counts m are wrong e) =
      let found = found_arguments env tt are in
      let at : merge ≡ merge_at merge.types = λ i. record { head = m.is.head i; types = merge.types } in
      BreaksMade.of_joining {s = record { takes = takes; params = m.params; result = m.result }} (right_one right) (typed_one typed).is counts m.right
      (merge_stands m) found.are
      (λ joins. wrong (subst (λ (f : Fun). IsJoining P f T) (sym at)
      (joining_of merge.types (record { takes = takes; params = m.params; result = m.result }) T
      (subst (λ (f : Fun). IsFunction P (functions_alone 0 []) f takes m.params m.result) at m.function) joins))) e

  module _ (ground : IsGround (out-RawKind r.from.kind)) (callable : (types : List Ty) → MayCall P (behind (length P.declared)) r.merge.head types) where
    step_of : {Q : Program} → IsMade Q → ReplicaStep P r Q
    step_of made =
        let function = merge_function made.types made.s made.counts made.right made.stands in
        record {
          R = record { state = made.state; from = made.from; merge = merge_at made.types; funs = made.funs; seen = length P.declared };
          is = record {
            state = made.state_is.is;
            from = made.from_is.is;
            merge = record { head = refl; types = made.right.are };
            funs = right_funs env tt made.are;
            stands = refl;
          };
          typed = record {
            state = made.state_is.written;
            from = made.from_is.has;
            built = built_of made.from_is.is ground;
            types = All-weaker (IsWritten P 0) IsSmallMet (λ T w. w.small) made.types made.right.written;
            join = record {
              takes = made.s.takes;
              function = join_function (merge_at made.types) made.s made.state made.joins.params made.joins.result function;
              may_call = callable made.types;
              arguments = right_arguments env tt made.are;
              comm = made.joins.known Comm refl;
              assoc = made.joins.known Assoc refl;
              idem = made.joins.known Idem refl;
            };
          };
          same = made.same;
        }

    -- A replica that stands here, with the merge that is written.
    record Fitted (Q : Program) : Type 0 where
      state : Ty
      from : Term
      types : List Ty
      funs : List Fun
      is : IsReplica P (length P.declared) r (record { state = state; from = from; merge = merge_at types; funs = funs; seen = length P.declared })
      typed : IsTypedReplica P (record { state = state; from = from; merge = merge_at types; funs = funs; seen = length P.declared })
      same : Q ≡ with_replica P (record { state = state; from = from; merge = merge_at types; funs = funs; seen = length P.declared })

    fitted : {Q : Program} → ReplicaStep P r Q → Fitted Q
    fitted {Q} step =
        let R = step.R in
        let e : R ≡ record { state = R.state; from = R.from; merge = merge_at R.merge.types; funs = R.funs; seen = length P.declared } =
        λ i. record {
          state = R.state;
          from = R.from;
          merge = record { head = step.is.merge.head i; types = R.merge.types };
          funs = R.funs;
          seen = step.is.stands i;
        } in
        record {
          state = R.state;
          from = R.from;
          types = R.merge.types;
          funs = R.funs;
          is = subst (IsReplica P (length P.declared) r) e step.is;
          typed = subst (IsTypedReplica P) e step.typed;
          same = step.same ∙ ap (with_replica P) e;
        }

    made_of : {Q : Program} → ReplicaStep P r Q → IsMade Q
    made_of step =
        let f = fitted step in
        let join = f.typed.join in
        let count : length join.takes ≡ length r.funs = sym (arguments_length {E = env} join.arguments) ∙ sym (funs_length f.is.funs) in
        record {
          state = f.state;
          state_is = record { is = f.is.state; written = f.typed.state };
          from = f.from;
          from_is = record { is = f.is.from; has = f.typed.from };
          counts = subst (λ (o : Option Counts). IsSomeAnd o (λ (c : Counts). (c.types ≡ length r.merge.types) × (c.functions ≡ length r.funs)))
              (sym (function_counts env join.function)) (sym (same_length f.is.merge.types), count);
          types = f.types;
          right = record { are = f.is.merge.types; written = written_of env tt f.types (function_types env join.function) f.typed.types };
          s = record { takes = join.takes; params = f.state ∷ f.state ∷ []; result = f.state };
          stands = function_is env join.function;
          funs = f.funs;
          are = all_right_funs env tt f.is.funs join.arguments;
          joins = record {
            params = refl;
            result = refl;
            known = of_three (λ (q : Prop). IsKnown P (behind (length P.declared)) (functions_alone 0 []) r.merge.head q) join.comm join.assoc join.idem;
          };
          same = f.same;
        }

    pub exact_replica : Exact (merge_found P r) (ReplicaStep P r) (BreaksReplica P r)
    exact_replica = exact_as exact_made (λ Q made. step_of made) (λ Q step. made_of step) (λ b br. replica_breaks br) (λ b br. breaks_replica br)
