-- Variables, literals, constructions and calls are found exactly as the rules say.
use Rattle.std.proofs.Common.{◌≡◌, ℕ, zero, suc, ◌+◌, ◌<◌, ◌≤◌, ◌^◌, List, [], ◌∷◌, length, map, Option, Some, None, Ok, refl, sym, ◌∙◌, ap, subst, Decides, arith}
use Rattle.std.specs.Prelude.{slice_get, nat_lt}
use Rattle.std.specs.List.{All}
use Rattle.std.specs.Option.{option_map, option_and_then}
use Rattle.std.proofs.lemmas.Bool.{false≢true}
use Rattle.std.proofs.lemmas.Bool.Decides.{Decides-ltb, Decides-eqb, Decides-and, Decides-like}
use Rattle.std.proofs.lemmas.List.{length-map}
use Rattle.std.proofs.lemmas.Option.{slice_get_within}
use Rattle.px_base.specs.declared.limits.TheConstants.{TYPE_NODES, TYPE_DEPTH}
use Rattle.px_base.specs.declared.head.Head.{Head}
use Rattle.px_base.specs.declared.raw.RawTy.{RawTy}
use Rattle.px_base.specs.declared.raw.RawFun.{RawFun}
use Rattle.px_base.specs.declared.raw.RawKind.{out-RawKind}
use Rattle.px_base.specs.declared.raw.RawKind.TheOpen.{RawKind-F}
use Rattle.px_base.specs.declared.raw.RawTerm.{RawTerm}
use Rattle.px_terms.specs.declared.types.Ty.{Ty}
use Rattle.px_terms.specs.declared.types.Ty.TheVariants as type
use Rattle.px_terms.specs.declared.types.Ty.TheOpen.{Ty-F}
use Rattle.px_terms.specs.declared.types.FnType.{FnType}
use Rattle.px_terms.specs.declared.types.Fun.{Fun}
use Rattle.px_terms.specs.declared.term.Term.{Term, out-Term}
use Rattle.px_terms.specs.declared.term.Term.TheVariants as term
use Rattle.px_terms.specs.declared.term.Term.TheOpen.{Term-F}
use Rattle.px_terms.specs.declared.program.ConDef.{ConDef}
use Rattle.px_terms.specs.declared.program.DataDef.{DataDef}
use Rattle.px_terms.specs.declared.program.Program.{Program}
use Rattle.px_terms.specs.Types.{ty_instance, tys_instance, tys_size, tys_depth}
use Rattle.px_terms.specs.TreeEquations.{ty_size-Con, ty_depth-Con}
use Rattle.px_terms.specs.Programs.{constructor_at}
use Rattle.px_terms.specs.Typing.{Place, IsMet, IsFunction, MayCall, AreArguments, HasTypeLayer, HaveTypes, AreTypes, IsTypeLayer}
use Rattle.px_terms.specs.Typing as typing
use Rattle.px_terms.specs.TypedPrograms.{IsWritten}
use Rattle.px_types.specs.declared.ends.TypeKind.TheVariants.{Mismatch, Arity, Oversize}
use Rattle.px_types.specs.declared.typed.Typed.{Typed}
use Rattle.px_types.specs.Written.{AreTys, IsFun, AreFuns, IsTermLayer, AreTerms}
use Rattle.px_types.specs.Written as written
use Rattle.px_types.specs.Faults.{Broken, breaks, Env, Counts, counts_of, con_counts, HasCounts, Begins, AreRight, BreaksTys, IsTyped, AreTyped, AreRightArguments, BreaksArgument, BreaksArguments, IsCalled, Breaks, BreaksParts}
use Rattle.px_types.specs.Faults as faults
use Rattle.px_types.specs.Outcomes.{onward, needs}
use Rattle.px_types.specs.Laws.{IsDeclaring}
use Rattle.px_types.specs.Outcome.{has_con_counts, has_counts, Signature, signature_of, part_of, variable_found, type_of_variable, con_found, call_found}
use Rattle.px_types.proofs.Exact.{Exact, Both, Either, first, later, exact_as, exact_at, exact_ok, exact_needs, exact_there, exact_then, Every, AllTwo, OneOfTwo}
use Rattle.px_types.proofs.Exact as exact
use Rattle.px_types.proofs.TypesExact.{exact_types, same_length, are_types, written_parts, con_parts}
use Rattle.px_types.proofs.Functions.{small_of, all_met, decides_met, decides_none, decides_counts, decides_may_call, TakesTypes, no_signature, function_of, function_is, function_counts, function_types}
use Rattle.px_types.proofs.ArgumentsExact.{written_of, IsRightFun, exact_arguments, right_funs, right_arguments, all_right_funs, are_right_arguments, found_arguments, broken_arguments, arguments_broken}
use Rattle.px_types.proofs.TermsExact.{TermIsExact, IsPart, exact_parts, terms_of, have_types, all_parts, are_typed, found_parts, broken_parts, parts_broken}

one_some : {X : Type 0} {x y : X} → Some x ≡ Some y → x ≡ y
one_some e = cc

-- A variable that is found.
record IsVariable (E : Env) (t : Term) (o : Option Ty) (types : List RawTy) (found : Typed) : Type 0 where
  nothing : types ≡ []
  stands : o ≡ Some found.ty
  met : IsMet E.place found.ty
  same : found.term ≡ t

-- A variable that breaks a rule.
data BreaksVariable (E : Env) (o : Option Ty) (types : List RawTy) (at : ℕ) (b : Broken) : Type 0 where
  miscounted : (types ≡ [] → (T : Ty) → o ≡ Some T → ⊥) → b ≡ breaks Arity at → BreaksVariable E o types at b
  oversized : (T : Ty) → types ≡ [] → o ≡ Some T → ¬ IsMet E.place T → b ≡ breaks Oversize at → BreaksVariable E o types at b

nothing_there : (o : Option Ty) (T : Ty) → o ≡ None → o ≡ Some T → ⊥
nothing_there o T e f = let g : None ≡ Some T = sym e ∙ f in cc

exact_variable : (E : Env) (t : Term) (o : Option Ty) (types : List RawTy) (at : ℕ) → Exact (variable_found E t o types at) (IsVariable E t o types) (BreaksVariable E o types at)
unfolding variable_found
exact_variable E t o types at = exact_as
    (exact_then (exact_needs _ Arity at (decides_none types)) (λ _ nothing.
    exact_then (exact_there o Arity at) (λ T stands.
    exact_then (exact_needs _ Oversize at (decides_met E.place T)) (λ _ met.
    exact_ok (record { term = t; ty = T })))))
    (λ found both. let rest = both.after in rw rest.after.after (record { nothing = both.is; stands = rest.is; met = rest.after.is; same = refl }))
    (λ found is. record { x = tt; is = is.nothing; after = record { x = found.ty; is = is.stands; after = record { x = tt; is = is.met; after = λ i. record { term = is.same i; ty = found.ty } } } })
    (λ b h. elim h [
      | first some ↦ miscounted (λ e T stands. some.0 e) some.1
      | later _ e h2 ↦ elim h2 [
        | first none ↦ miscounted (λ _ T stands. nothing_there o T none.0 stands) none.1
        | later T stands h3 ↦ elim h3 [ first over ↦ oversized T e stands over.0 over.1 | later _ met none ↦ absurd none ]
      ]
    ])
    (λ b h. elim h [ miscounted wrongly e ↦ wrong types o wrongly e | oversized T nothing stands over e ↦ later tt nothing (later T stands (first (over, e))) ])
  where
    wrong : {b : Broken} (types : List RawTy) (o : Option Ty) → (types ≡ [] → (T : Ty) → o ≡ Some T → ⊥) → b ≡ breaks Arity at → Either {S = Unit {0}} (λ _. types ≡ []) (λ b. ¬ (types ≡ []) × (b ≡ breaks Arity at)) (λ _. Either (λ (T : Ty). o ≡ Some T) (λ b. (o ≡ None) × (b ≡ breaks Arity at)) (λ T. Either {S = Unit {0}} (λ _. IsMet E.place T) (λ b. ¬ IsMet E.place T × (b ≡ breaks Oversize at)) (λ _ _. ⊥))) b
    wrong [] None wrongly e = later tt refl (first (refl, e))
    wrong [] (Some T) wrongly e = absurd (wrongly refl T refl)
    wrong (x ∷ xs) o wrongly e = first ((λ f. cc), e)

at_below : {X : Type 0} (xs : List X) (i : ℕ) → i < length xs → (x : X) × (slice_get xs i ≡ Some x)
at_below [] i h = absurd (omega arith)
at_below (x ∷ xs) zero h = (x, refl)
at_below (x ∷ xs) (suc i) h = at_below xs i (omega arith)

module _ (E : Env) (bound : List Ty) (at : ℕ) where
  -- a type of a live variable
  variable_type : (n : ℕ) (o : Option (Option Ty)) (T : Ty) → option_and_then (λ (slot : Option Ty). slot) o ≡ Some T → o ≡ Some (Some T)
  variable_type n None T e = absurd cc
  variable_type n (Some None) T e = absurd cc
  variable_type n (Some (Some U)) T e = ap Some e

  pub exact_free : (n : ℕ) (types : List RawTy) → Exact (variable_found E (term.Free n) (type_of_variable E n) types at) (λ (found : Typed). IsTyped E bound (RawKind-F.Free n types) found.term found.ty) (Breaks E bound at (RawKind-F.Free n types))
  exact_free n types = exact_as (exact_variable E (term.Free n) (type_of_variable E n) types at)
      (λ found is. record {
        is = rw is.nothing (written.free is.same);
        has = rw (is.same, term.outs-Free n) (typing.free (variable_type n (slice_get E.context.vars n) found.ty is.stands) is.met);
      })
      (λ found typed. back typed.is typed.has)
      (λ b h. elim h [
        | miscounted wrongly e ↦ faults.counts (λ counts. wrongly counts.0 counts.1.0 (rw counts.1.1 refl)) e
        | oversized T nothing stands over e ↦ rw nothing (faults.free_size (variable_type n (slice_get E.context.vars n) T stands) over e)
      ])
      (λ b h. broken h)
    where
      back : {types : List RawTy} {t : Term} {T : Ty} → IsTermLayer E.program (RawKind-F.Free n types) t → HasTypeLayer E.program E.place E.context bound (out-Term t) T → IsVariable E (term.Free n) (type_of_variable E n) types (record { term = t; ty = T })
      back {t = t} {T = T} (written.free e) has = go (rw (e, term.outs-Free n) at has)
        where
          go : HasTypeLayer E.program E.place E.context bound (Term-F.Free n) T → IsVariable E (term.Free n) (type_of_variable E n) [] (record { term = t; ty = T })
          go (typing.free stands met) = record { nothing = refl; stands = rw stands refl; met = met; same = e }

      broken : {types : List RawTy} {b : Broken} → Breaks E bound at (RawKind-F.Free n types) b → BreaksVariable E (type_of_variable E n) types at b
      broken (faults.counts wrong e) = miscounted (λ nothing T stands. wrong (nothing, (T, variable_type n (slice_get E.context.vars n) T stands))) e
      broken (faults.types counts br) = elim br [ ]
      broken (faults.free_size {T = T} stands over e) = oversized T refl (rw stands refl) over e

  pub exact_bound : (n : ℕ) (types : List RawTy) → Exact (variable_found E (term.Bound n) (slice_get bound n) types at) (λ (found : Typed). IsTyped E bound (RawKind-F.Bound n types) found.term found.ty) (Breaks E bound at (RawKind-F.Bound n types))
  exact_bound n types = exact_as (exact_variable E (term.Bound n) (slice_get bound n) types at)
      (λ found is. record { is = rw is.nothing (written.bound is.same); has = rw (is.same, term.outs-Bound n) (typing.bound is.stands is.met) })
      (λ found typed. back typed.is typed.has)
      (λ b h. elim h [
        | miscounted wrongly e ↦ faults.counts (λ counts. let there = at_below bound n counts.1 in wrongly counts.0 there.0 there.1) e
        | oversized T nothing stands over e ↦ rw nothing (faults.bound_size stands over e)
      ])
      (λ b h. broken h)
    where
      back : {types : List RawTy} {t : Term} {T : Ty} → IsTermLayer E.program (RawKind-F.Bound n types) t → HasTypeLayer E.program E.place E.context bound (out-Term t) T → IsVariable E (term.Bound n) (slice_get bound n) types (record { term = t; ty = T })
      back {t = t} {T = T} (written.bound e) has = go (rw (e, term.outs-Bound n) at has)
        where
          go : HasTypeLayer E.program E.place E.context bound (Term-F.Bound n) T → IsVariable E (term.Bound n) (slice_get bound n) [] (record { term = t; ty = T })
          go (typing.bound stands met) = record { nothing = refl; stands = stands; met = met; same = e }

      broken : {types : List RawTy} {b : Broken} → Breaks E bound at (RawKind-F.Bound n types) b → BreaksVariable E (slice_get bound n) types at b
      broken (faults.counts wrong e) = miscounted (λ nothing T stands. wrong (nothing, slice_get_within bound n T stands)) e
      broken (faults.types counts br) = elim br [ ]
      broken (faults.bound_size {T = T} stands over e) = oversized T refl stands over e

  pub exact_literal : (w : ℕ) → Exact (onward (needs (nat_lt w (2 ^ 64)) Arity at) (λ _. Ok (record { term = term.Lit w; ty = type.Word }))) (λ (found : Typed). IsTyped E bound (RawKind-F.Lit w) found.term found.ty) (Breaks E bound at (RawKind-F.Lit w))
  exact_literal w = exact_as
      (exact_then (exact_needs _ Arity at (Decides-ltb w (2 ^ 64))) (λ _ small. exact_ok (record { term = term.Lit w; ty = type.Word })))
      (λ found both. rw both.after (record { is = written.literal refl; has = rw (term.outs-Lit w) (typing.lit both.is refl) }))
      (λ found typed. back typed.is typed.has)
      (λ b h. elim h [ first large ↦ faults.counts large.0 large.1 | later _ small none ↦ absurd none ])
      (λ b h. broken h)
    where
      back : {t : Term} {T : Ty} → IsTermLayer E.program (RawKind-F.Lit w) t → HasTypeLayer E.program E.place E.context bound (out-Term t) T → Both {S = Unit {0}} (λ _. w < 2 ^ 64) (λ _ (found : Typed). found ≡ record { term = term.Lit w; ty = type.Word }) (record { term = t; ty = T })
      back {t = t} {T = T} (written.literal e) has = go (rw (e, term.outs-Lit w) at has)
        where
          go : HasTypeLayer E.program E.place E.context bound (Term-F.Lit w) T → Both {S = Unit {0}} (λ _. w < 2 ^ 64) (λ _ (found : Typed). found ≡ record { term = term.Lit w; ty = type.Word }) (record { term = t; ty = T })
          go (typing.lit small f) = record { x = tt; is = small; after = λ i. record { term = e i; ty = f i } }

      broken : {b : Broken} → Breaks E bound at (RawKind-F.Lit w) b → Either {S = Unit {0}} (λ _. w < 2 ^ 64) (λ b. ¬ (w < 2 ^ 64) × (b ≡ breaks Arity at)) (λ _ _. ⊥) b
      broken (faults.counts wrong e) = first (wrong, e)
      broken (faults.types counts br) = elim br [ ]

-- A constructor, with what it takes.
record ConAt (P : Program) (d k n m : ℕ) : Type 0 where
  D : DataDef
  c : ConDef
  declared : slice_get P.datatypes d ≡ Some D
  stands : constructor_at P d k ≡ Some c
  types : D.tparams ≡ n
  fields : length c.fields ≡ m

con_at : (P : Program) (d k n m : ℕ) → con_counts P d k ≡ Some (n, m) → ConAt P d k n m
con_at P d k n m e = go (slice_get P.datatypes d) refl e
  where
    here : (D : DataDef) → slice_get P.datatypes d ≡ Some D → (o : Option ConDef) → slice_get D.cons k ≡ o → ◌≡◌ {A = Option (ℕ × ℕ)} (option_map (λ (c : ConDef). (D.tparams, length c.fields)) o) (Some (n, m)) → ConAt P d k n m
    here D declared None stands e = absurd cc
    here D declared (Some c) stands e = record { D = D; c = c; declared = declared; stands = rw declared stands; types = ap (λ (x : ℕ × ℕ). x.0) (one_some e); fields = ap (λ (x : ℕ × ℕ). x.1) (one_some e) }

    go : (o : Option DataDef) → slice_get P.datatypes d ≡ o → ◌≡◌ {A = Option (ℕ × ℕ)} (option_and_then (λ (D : DataDef). option_map (λ (c : ConDef). (D.tparams, length c.fields)) (slice_get D.cons k)) o) (Some (n, m)) → ConAt P d k n m
    go None declared e = absurd cc
    go (Some D) declared e = here D declared (slice_get D.cons k) refl e

decides_con_counts : (o : Option (ℕ × ℕ)) (n m : ℕ) → Decides (has_con_counts o n m) (o ≡ Some (n, m))
unfolding has_con_counts
decides_con_counts None n m = (λ e. absurd (false≢true e), λ e. absurd cc)
decides_con_counts (Some c) n m = Decides-like _ (λ h. λ i. Some (h.0 i, h.1 i)) (λ e. (ap (λ (x : ℕ × ℕ). x.0) (one_some e), ap (λ (x : ℕ × ℕ). x.1) (one_some e))) (Decides-and _ _ (Decides-eqb c.0 n) (Decides-eqb c.1 m))

two_lengths : {E : Env} {bound : List Ty} {raws : List RawTerm} {types : List Ty} {ts : List Term} → AllTwo (λ (raw : RawTerm) (wanted : Ty) (t : Term). IsTyped E bound (out-RawKind raw.kind) t wanted) raws types ts → length raws ≡ length types
two_lengths exact.none = refl
two_lengths (exact.more is are) = ap suc (two_lengths are)

module _ (E : Env) (open_ : IsDeclaring E) (bound : List Ty) (at : ℕ) where
  -- What a typed construction is made of.
  record ConTaken (d k : ℕ) (raw_types : List RawTy) (fields : List RawTerm) (t : Term) (T : Ty) : Type 0 where
    types : List Ty
    c : ConDef
    fs : List Term
    counts : con_counts E.program d k ≡ Some (length raw_types, length fields)
    right : AreRight E.program E.context.tparams raw_types types
    stands : constructor_at E.program d k ≡ Some c
    are : AllTwo (IsPart E open_ bound) fields (tys_instance types c.fields) fs
    met : IsMet E.place (type.Con d types)
    is : t ≡ term.Con d k types fs
    type_is : T ≡ type.Con d types

  -- a datatype's arguments are written types, where it is a type within the limits
  arguments_written : (d : ℕ) (types : List Ty) → AreTypes E.program E.context.tparams types → IsMet E.place (type.Con d types) → All (IsWritten E.program E.context.tparams) types
  arguments_written d types are met =
      let small = small_of E.place open_.placed (type.Con d types) met in
      let nodes : 1 + tys_size types ≤ TYPE_NODES = rw (ty_size-Con d types) at small.nodes in
      let depth : 1 + tys_depth types ≤ TYPE_DEPTH = rw (ty_depth-Con d types) at small.depth in
      written_parts types are (omega arith) (omega arith)

  con_taken : (d k : ℕ) (raw_types : List RawTy) (fields : List RawTerm) (t : Term) (T : Ty) → IsTyped E bound (RawKind-F.Con d k raw_types fields) t T → ConTaken d k raw_types fields t T
  con_taken d k raw_types fields t T typed = go typed.is
    where
      counts_of_con : (types : List Ty) (c : ConDef) (D : DataDef) (n m : ℕ) → slice_get E.program.datatypes d ≡ Some D → constructor_at E.program d k ≡ Some c → n ≡ D.tparams → m ≡ length c.fields → con_counts E.program d k ≡ Some (n, m)
      counts_of_con types c D n m declared stands e f =
          let con : slice_get D.cons k ≡ Some c = rw declared at stands in
          rw (declared, con, e, f) refl

      typed_as : (types : List Ty) (fs : List Term) → AreTys raw_types types → AreTerms E.program fields fs → t ≡ term.Con d k types fs → HasTypeLayer E.program E.place E.context bound (Term-F.Con d k types fs) T → ConTaken d k raw_types fields t T
      typed_as types fs are terms is (typing.con {c = c} stands is_type type_is met have) =
          let layer : IsTypeLayer E.program E.context.tparams (Ty-F.Con d types) = rw (type_is, type.outs-Con d types) at is_type in
          let parts = con_parts layer in
          let met_con : IsMet E.place (type.Con d types) = rw type_is at met in
          let all = all_parts E open_ bound terms have in
          record {
            types = types;
            c = c;
            fs = fs;
            counts = counts_of_con types c parts.D (length raw_types) (length fields) parts.stands stands (same_length are ∙ parts.count) (two_lengths all ∙ length-map c.fields (ty_instance types));
            right = record { are = are; written = arguments_written d types parts.are met_con };
            stands = stands;
            are = all;
            met = met_con;
            is = is;
            type_is = type_is;
          }

      go : IsTermLayer E.program (RawKind-F.Con d k raw_types fields) t → ConTaken d k raw_types fields t T
      go (written.construction {types = types} {fields = fs} are terms is) = typed_as types fs are terms is (rw (is, term.outs-Con d k types fs) at typed.has)

  con_typed : (d k : ℕ) (raw_types : List RawTy) (fields : List RawTerm) (types : List Ty) (c : ConDef) (fs : List Term) → con_counts E.program d k ≡ Some (length raw_types, length fields) → AreRight E.program E.context.tparams raw_types types → constructor_at E.program d k ≡ Some c → AllTwo (IsPart E open_ bound) fields (tys_instance types c.fields) fs → IsMet E.place (type.Con d types) → IsTyped E bound (RawKind-F.Con d k raw_types fields) (term.Con d k types fs) (type.Con d types)
  con_typed d k raw_types fields types c fs counts right stands are met =
      let con = con_at E.program d k _ _ counts in
      record {
        is = written.construction right.are (terms_of E open_ bound are) refl;
        has = rw (term.outs-Con d k types fs) (typing.con {T = type.Con d types} stands (rw (type.outs-Con d types) (typing.con con.declared (sym (same_length right.are) ∙ sym con.types) (are_types E.program E.context.tparams types right.written))) refl met (have_types E open_ bound are));
      }

  field_lengths : (d k : ℕ) (raw_types : List RawTy) (fields : List RawTerm) (types : List Ty) (c : ConDef) → con_counts E.program d k ≡ Some (length raw_types, length fields) → constructor_at E.program d k ≡ Some c → length fields ≡ length (tys_instance types c.fields)
  field_lengths d k raw_types fields types c counts stands =
      let con = con_at E.program d k _ _ counts in
      let same : con.c ≡ c = one_some (sym con.stands ∙ stands) in
      sym con.fields ∙ ap (λ (x : ConDef). length x.fields) same ∙ sym (length-map c.fields (ty_instance types))

  pub exact_con : (d k : ℕ) (raw_types : List RawTy) (fields : List RawTerm) → Every (TermIsExact E) fields → Exact (con_found E bound at d k raw_types (map (part_of E) fields)) (λ (found : Typed). IsTyped E bound (RawKind-F.Con d k raw_types fields) found.term found.ty) (Breaks E bound at (RawKind-F.Con d k raw_types fields))
  unfolding con_found
  exact_con d k raw_types fields all = exact_as
      (exact_then (exact_needs _ Arity at (subst (λ (n : ℕ). Decides (has_con_counts (con_counts E.program d k) (length raw_types) n) (con_counts E.program d k ≡ Some (length raw_types, length fields))) (sym (length-map fields (part_of E))) (decides_con_counts (con_counts E.program d k) (length raw_types) (length fields)))) (λ _ counts.
      exact_then (exact_types E.program E.context.tparams raw_types) (λ types right.
      exact_then (exact_there (constructor_at E.program d k) Arity at) (λ c stands.
      exact_then (exact_parts E open_ bound fields (tys_instance types c.fields) (field_lengths d k raw_types fields types c counts stands) all) (λ fs are.
      exact_then (exact_needs _ Oversize at (decides_met E.place (type.Con d types))) (λ _ met.
      exact_ok (record { term = term.Con d k types fs; ty = type.Con d types })))))))
      (λ found both. let rest = both.after in rw rest.after.after.after.after (con_typed d k raw_types fields rest.x rest.after.x rest.after.after.x both.is rest.is rest.after.is rest.after.after.is rest.after.after.after.is))
      (λ found typed. let taken = con_taken d k raw_types fields found.term found.ty typed in record {
        x = tt;
        is = taken.counts;
        after = record { x = taken.types; is = taken.right; after = record { x = taken.c; is = taken.stands; after = record { x = taken.fs; is = taken.are; after = record { x = tt; is = taken.met; after = λ i. record { term = taken.is i; ty = taken.type_is i } } } } };
      })
      (λ b h. elim h [
        | first wrong ↦ faults.counts wrong.0 wrong.1
        | later _ counts h2 ↦ elim h2 [
          | first br ↦ faults.types counts br
          | later types right h3 ↦ elim h3 [
            | first nothing ↦ absurd (let con = con_at E.program d k _ _ counts in let clash : None ≡ Some con.c = sym nothing.0 ∙ con.stands in cc)
            | later c stands h4 ↦ elim h4 [
              | first br ↦ faults.among_fields (record { counts = counts; written = right }) stands (broken_parts E open_ bound br)
              | later fs are h5 ↦ elim h5 [
                | first over ↦ faults.con_size (record { counts = counts; written = right }) stands (are_typed E open_ bound are) over.0 over.1
                | later _ met nothing ↦ absurd nothing
              ]
            ]
          ]
        ]
      ])
      (λ b h. elim h [
        | faults.counts wrong e ↦ first (wrong, e)
        | faults.types counts br ↦ later tt counts (first br)
        | faults.among_fields {types = types} {con = c} begins stands br ↦ later tt begins.counts (later types begins.written (later c stands (first (parts_broken E open_ bound br))))
        | faults.con_size {types = types} {con = c} begins stands typed over e ↦ let found = found_parts E open_ bound typed in later tt begins.counts (later types begins.written (later c stands (later found.ts found.are (first (over, e)))))
      ])

  -- What a typed call is made of.
  record CallTaken (raw : RawFun) (raw_funs : List RawFun) (args : List RawTerm) (t : Term) (T : Ty) : Type 0 where
    f : Fun
    takes : List FnType
    params : List Ty
    funs : List Fun
    ts : List Term
    counts : counts_of E raw.head ≡ Some (record { types = length raw.types; functions = length raw_funs; values = length args })
    right : AreRight E.program E.context.tparams raw.types f.types
    may : MayCall E.program E.place raw.head f.types
    stands : signature_of E raw.head f.types ≡ Some (record { takes = takes; params = params; result = T })
    functions : AllTwo (IsRightFun E) raw_funs takes funs
    are : AllTwo (IsPart E open_ bound) args params ts
    met : IsMet E.place T
    is : t ≡ term.Call (record { head = raw.head; types = f.types }) funs ts

  fun_lengths : {raws : List RawFun} {takes : List FnType} {fs : List Fun} → AllTwo (IsRightFun E) raws takes fs → length raws ≡ length takes
  fun_lengths exact.none = refl
  fun_lengths (exact.more is are) = ap suc (fun_lengths are)

  same_counts : {a b c n m k : ℕ} → a ≡ n → b ≡ m → c ≡ k → ◌≡◌ {A = Counts} (record { types = a; functions = b; values = c }) (record { types = n; functions = m; values = k })
  same_counts e f g = λ i. record { types = e i; functions = f i; values = g i }

  all_written : (types : List Ty) → AreTypes E.program E.context.tparams types → All (IsMet E.place) types → All (IsWritten E.program E.context.tparams) types
  all_written types are met = written_of E open_.placed types are met

  call_taken : (raw : RawFun) (raw_funs : List RawFun) (args : List RawTerm) (t : Term) (T : Ty) → IsTyped E bound (RawKind-F.Call raw raw_funs args) t T → CallTaken raw raw_funs args t T
  call_taken raw raw_funs args t T typed = go typed.is
    where
      typed_as : (f : Fun) (funs : List Fun) (ts : List Term) → IsFun raw f → AreFuns raw_funs funs → AreTerms E.program args ts → t ≡ term.Call f funs ts → HasTypeLayer E.program E.place E.context bound (Term-F.Call f funs ts) T → CallTaken raw raw_funs args t T
      typed_as f funs ts is_fun are_funs terms is (typing.call {takes = takes} {params = params} function may types_met met arguments have) =
          let functions = all_right_funs E open_.placed are_funs arguments in
          let all = all_parts E open_ bound terms have in
          record {
            f = f;
            takes = takes;
            params = params;
            funs = funs;
            ts = ts;
            counts = ap (counts_of E) (sym is_fun.head) ∙ function_counts E function ∙ ap Some (same_counts (sym (same_length is_fun.types)) (sym (fun_lengths functions)) (sym (two_lengths all)));
            right = record { are = is_fun.types; written = all_written f.types (function_types E function) types_met };
            may = rw (← is_fun.head) may;
            stands = ap (λ (h : Head). signature_of E h f.types) (sym is_fun.head) ∙ function_is E function;
            functions = functions;
            are = all;
            met = met;
            is = is ∙ (λ i. term.Call (record { head = is_fun.head i; types = f.types }) funs ts);
          }

      go : IsTermLayer E.program (RawKind-F.Call raw raw_funs args) t → CallTaken raw raw_funs args t T
      go (written.call {f = f} {funs = funs} {args = ts} is_fun are_funs terms is) = typed_as f funs ts is_fun are_funs terms is (rw (is, term.outs-Call f funs ts) at typed.has)

  module _ (raw : RawFun) (raw_funs : List RawFun) (args : List RawTerm) where
    -- the counts of a call
    abbrev CallCounts : Type 0
    CallCounts = counts_of E raw.head ≡ Some (record { types = length raw.types; functions = length raw_funs; values = length args })

    call_takes : (types : List Ty) → CallCounts → AreRight E.program E.context.tparams raw.types types → TakesTypes E raw.head (length types)
    call_takes types counts right = rw counts (same_length right.are)

    call_function : (types : List Ty) (s : Signature) → CallCounts → AreRight E.program E.context.tparams raw.types types → signature_of E raw.head types ≡ Some s → IsFunction E.program E.context (record { head = raw.head; types = types }) s.takes s.params s.result
    call_function types s counts right stands = function_of E raw.head types s (call_takes types counts right) (are_types E.program E.context.tparams types right.written) stands

    call_counts : (types : List Ty) (s : Signature) → CallCounts → AreRight E.program E.context.tparams raw.types types → signature_of E raw.head types ≡ Some s → ◌≡◌ {A = Counts} (record { types = length raw.types; functions = length raw_funs; values = length args }) (record { types = length types; functions = length s.takes; values = length s.params })
    call_counts types s counts right stands = one_some (sym counts ∙ function_counts E (call_function types s counts right stands))

    called : (types : List Ty) (s : Signature) → CallCounts → AreRight E.program E.context.tparams raw.types types → MayCall E.program E.place raw.head types → signature_of E raw.head types ≡ Some s → IsCalled E raw (record { head = raw.head; types = types }) s.takes s.params s.result
    called types s counts right may stands = record { is = record { head = refl; types = right.are }; function = call_function types s counts right stands; may_call = may }

    call_typed : (types : List Ty) (s : Signature) (funs : List Fun) (ts : List Term) → CallCounts → AreRight E.program E.context.tparams raw.types types → MayCall E.program E.place raw.head types → signature_of E raw.head types ≡ Some s → AllTwo (IsRightFun E) raw_funs s.takes funs → AllTwo (IsPart E open_ bound) args s.params ts → IsMet E.place s.result → IsTyped E bound (RawKind-F.Call raw raw_funs args) (term.Call (record { head = raw.head; types = types }) funs ts) s.result
    call_typed types s funs ts counts right may stands functions are met = record {
      is = written.call (record { head = refl; types = right.are }) (right_funs E open_.placed functions) (terms_of E open_ bound are) refl;
      has = rw (term.outs-Call (record { head = raw.head; types = types }) funs ts) (typing.call (call_function types s counts right stands) may (all_met E.place types right.written) met (right_arguments E open_.placed functions) (have_types E open_ bound are));
    }

    called_signature : {f : Fun} {takes : List FnType} {params : List Ty} {T : Ty} → IsCalled E raw f takes params T → signature_of E raw.head f.types ≡ Some (record { takes = takes; params = params; result = T })
    called_signature {f = f} call = ap (λ (h : Head). signature_of E h f.types) (sym call.is.head) ∙ function_is E call.function

    called_may : {f : Fun} {takes : List FnType} {params : List Ty} {T : Ty} → IsCalled E raw f takes params T → MayCall E.program E.place raw.head f.types
    called_may call = rw (← call.is.head) call.may_call

    pub exact_call : Every (TermIsExact E) args → Exact (call_found E bound at raw raw_funs (map (part_of E) args)) (λ (found : Typed). IsTyped E bound (RawKind-F.Call raw raw_funs args) found.term found.ty) (Breaks E bound at (RawKind-F.Call raw raw_funs args))
    unfolding call_found
    exact_call all = exact_as
        (exact_then (exact_needs _ Arity at (subst (λ (n : ℕ). Decides (has_counts (counts_of E raw.head) (length raw.types) (length raw_funs) n) CallCounts) (sym (length-map args (part_of E))) (decides_counts (counts_of E raw.head) (length raw.types) (length raw_funs) (length args)))) (λ _ counts.
        exact_then (exact_types E.program E.context.tparams raw.types) (λ types right.
        exact_then (exact_needs _ Mismatch at (decides_may_call E.program E.place raw.head types)) (λ _ may.
        exact_then (exact_there (signature_of E raw.head types) Arity at) (λ s stands.
        exact_then (exact_arguments E open_.placed raw_funs s.takes (ap (λ (c : Counts). c.functions) (call_counts types s counts right stands))) (λ funs functions.
        exact_then (exact_parts E open_ bound args s.params (ap (λ (c : Counts). c.values) (call_counts types s counts right stands)) all) (λ ts are.
        exact_then (exact_needs _ Oversize at (decides_met E.place s.result)) (λ _ met.
        exact_ok (record { term = term.Call (record { head = raw.head; types = types }) funs ts; ty = s.result })))))))))
        (λ found both.
        let rest = both.after in
        let parts = rest.after.after in
        rw parts.after.after.after.after (call_typed rest.x parts.x parts.after.x parts.after.after.x both.is rest.is rest.after.is parts.is parts.after.is parts.after.after.is parts.after.after.after.is))
        (λ found typed. let taken = call_taken raw raw_funs args found.term found.ty typed in record {
          x = tt;
          is = taken.counts;
          after = record {
            x = taken.f.types;
            is = taken.right;
            after = record {
              x = tt;
              is = taken.may;
              after = record {
                x = record { takes = taken.takes; params = taken.params; result = found.ty };
                is = taken.stands;
                after = record { x = taken.funs; is = taken.functions; after = record { x = taken.ts; is = taken.are; after = record { x = tt; is = taken.met; after = λ i. record { term = taken.is i; ty = found.ty } } } };
              };
            };
          };
        })
        (λ b h. elim h [
          | first wrong ↦ faults.counts wrong.0 wrong.1
          | later _ counts h2 ↦ elim h2 [
            | first br ↦ faults.types counts br
            | later types right h3 ↦ elim h3 [
              | first barred ↦ faults.own_types (record { counts = counts; written = right }) barred.0 barred.1
              | later _ may h4 ↦ elim h4 [
                | first nothing ↦ absurd (no_signature E raw.head (length types) types (call_takes types counts right) nothing.0)
                | later s stands h5 ↦ elim h5 [
                  | first br ↦ faults.among_functions {f = record { head = raw.head; types = types }} (record { counts = counts; written = right }) (called types s counts right may stands) (broken_arguments E open_.placed br)
                  | later funs functions h6 ↦ elim h6 [
                    | first br ↦ faults.among_arguments {f = record { head = raw.head; types = types }} (record { counts = counts; written = right }) (called types s counts right may stands) (are_right_arguments E open_.placed functions) (broken_parts E open_ bound br)
                    | later ts are h7 ↦ elim h7 [
                      | first over ↦ faults.call_size {f = record { head = raw.head; types = types }} (record { counts = counts; written = right }) (called types s counts right may stands) (are_right_arguments E open_.placed functions) (are_typed E open_ bound are) over.0 over.1
                      | later _ met nothing ↦ absurd nothing
                    ]
                  ]
                ]
              ]
            ]
          ]
        ])
        (λ b h. elim h [
          | faults.counts wrong e ↦ first (wrong, e)
          | faults.types counts br ↦ later tt counts (first br)
          | faults.own_types {types = types} begins barred e ↦ later tt begins.counts (later types begins.written (first (barred, e)))
          | faults.among_functions {f = f} {takes = takes} {params = params} {T = T} begins call br ↦ later tt begins.counts (later f.types begins.written (later tt (called_may call) (later (record { takes = takes; params = params; result = T }) (called_signature call) (first (arguments_broken E open_.placed br)))))
          | faults.among_arguments {f = f} {takes = takes} {params = params} {T = T} begins call functions br ↦ let found = found_arguments E open_.placed functions in later tt begins.counts (later f.types begins.written (later tt (called_may call) (later (record { takes = takes; params = params; result = T }) (called_signature call) (later found.fs found.are (first (parts_broken E open_ bound br))))))
          | faults.call_size {f = f} {takes = takes} {params = params} {T = T} begins call functions typed over e ↦ let found = found_arguments E open_.placed functions in let terms = found_parts E open_ bound typed in later tt begins.counts (later f.types begins.written (later tt (called_may call) (later (record { takes = takes; params = params; result = T }) (called_signature call) (later found.fs found.are (later terms.ts terms.are (first (over, e)))))))
        ])
