-- What is in scope: an obligation has one list of type and function variables, and fresh variables have the types of a constructor's fields.
use Rattle.std.proofs.Common.{◌≡◌, ◌⊎◌, inl, inr, ℕ, zero, suc, ◌+◌, List, [], ◌∷◌, ◌++◌, map, length, Option, Some, None, slice_get}
use Rattle.std.proofs.Common.{refl, sym, ap, ◌∙◌, subst, subst₂}
use Rattle.std.specs.List.{All}
use Rattle.std.proofs.lemmas.List.Elements.{All-nil, All-cons}
use Rattle.std.specs.Prelude.{slice_set}
use Rattle.std.proofs.lemmas.List.{append-nil, length-map}
use Rattle.px_terms.specs.Head.{Head}
use Rattle.px_terms.specs.Head.TheVariants.{Def, Wle, Weq, FnVar}
use Rattle.px_terms.specs.Prop.{Prop}
use Rattle.px_terms.specs.declared.types.Ty.{Ty, out-Ty}
use Rattle.px_terms.specs.declared.types.Ty.TheVariants as type
use Rattle.px_terms.specs.declared.types.Ty.TheOpen.{Ty-F}
use Rattle.px_terms.specs.declared.types.FnType.{FnType}
use Rattle.px_terms.specs.declared.term.Term.{Term, out-Term}
use Rattle.px_terms.specs.declared.term.Term.TheVariants as term
use Rattle.px_terms.specs.declared.term.Term.TheOpen.{Term-F}
use Rattle.px_terms.specs.declared.clause.Clause.{Clause}
use Rattle.px_terms.specs.declared.program.ConDef.{ConDef}
use Rattle.px_terms.specs.declared.program.Def as definition
use Rattle.px_terms.specs.declared.program.Lemma as proposition
use Rattle.px_terms.specs.declared.program.Declared.{Declared}
use Rattle.px_terms.specs.declared.program.Declared.TheVariants as declared
use Rattle.px_terms.specs.declared.program.Program.{Program}
use Rattle.px_terms.specs.declared.sequent.Context.{Context}
use Rattle.px_terms.specs.Types.{numbers_from, ty_instance, tys_instance}
use Rattle.px_terms.specs.Programs.{constructor_at}
use Rattle.px_terms.specs.Typing.{anywhere, IsType, AreTypes, HasTypeLayer, HaveTypes, HasType, live}
use Rattle.px_terms.specs.Typing as typing
use Rattle.px_terms.specs.TypedSequents.{IsTypedContext, IsTypedEquation}
use Rattle.px_terms.specs.Clauses.{IsClauseOf, clause_for}
use Rattle.px_terms.specs.Clauses as clauses
use Rattle.px_terms.specs.Obligations.{IsObligation, IsDeclaredClause}
use Rattle.px_terms.specs.Obligations as obligations
use Rattle.px_terms.specs.Rows.{pairs_equal}
use Rattle.px_totality.proofs.Instances.{one_item, type_at}
use Rattle.px_soundness.proofs.RowsInstances.{live_at, live_there, behind_front, frees_have}

-- The clause has so many type variables, and these function variables.
pub record HasScope (clause : Clause) (k : ℕ) (Fs : List FnType) : Type 0 where
  pub tparams : clause.tparams ≡ k
  pub funs : clause.funs ≡ Fs

-- The clause has the scope of a definition.
record ScopeOfDefinition (Q : Program) (n : ℕ) (clause : Clause) : Type 0 where
  D : definition.Def
  found : slice_get Q.defs n ≡ Some D
  is : HasScope clause D.tparams D.funs

-- The clause has the scope of a lemma.
record ScopeOfLemma (Q : Program) (n : ℕ) (clause : Clause) : Type 0 where
  l : proposition.Lemma
  found : slice_get Q.lemmas n ≡ Some l
  is : HasScope clause l.tparams l.funs

-- the scope of the clause of a property, by the head
abbrev ScopeOfHead : Program → Head → Clause → Type 0
ScopeOfHead Q (Def n) clause = ScopeOfDefinition Q n clause
ScopeOfHead Q Wle clause = Unit {0}
ScopeOfHead Q Weq clause = Unit {0}
ScopeOfHead Q (FnVar i) clause = Unit {0}

scope_of_head : (Q : Program) {funs : List FnType} {h : Head} {p : Prop} {clause : Clause} → IsClauseOf Q funs h p clause → ScopeOfHead Q h clause
scope_of_head Q (clauses.of_definition {D = D} found s subject result is) = record {
  D = D;
  found = found;
  is = record { tparams = ap (λ (c : Clause). c.tparams) is; funs = ap (λ (c : Clause). c.funs) is };
}
scope_of_head Q (clauses.of_at_most s subject result is) = tt
scope_of_head Q (clauses.of_equal s subject result is) = tt
scope_of_head Q (clauses.of_variable s subject result is) = tt

-- the scope of a declared clause
abbrev ScopeOf : Program → Declared → Clause → Type 0
ScopeOf Q (declared.Property n p) clause = ScopeOfDefinition Q n clause
ScopeOf Q (declared.Lemma n) clause = ScopeOfLemma Q n clause

scope_of : (Q : Program) {x : Declared} {clause : Clause} → IsDeclaredClause Q x clause → ScopeOf Q x clause
scope_of Q (obligations.of_property is) = scope_of_head Q is
scope_of Q (obligations.of_lemma {l = l} found is) = record {
  l = l;
  found = found;
  is = record { tparams = ap (λ (c : Clause). c.tparams) is; funs = ap (λ (c : Clause). c.funs) is };
}

one_scope : (Q : Program) (x : Declared) (a b : Clause) → ScopeOf Q x a → ScopeOf Q x b → HasScope a b.tparams b.funs
one_scope Q (declared.Property n p) a b x y =
    let same : x.D ≡ y.D = one_item x.D y.D (sym x.found ∙ y.found) in record {
      tparams = x.is.tparams ∙ ap (λ (D : definition.Def). D.tparams) same ∙ sym y.is.tparams;
      funs = x.is.funs ∙ ap (λ (D : definition.Def). D.funs) same ∙ sym y.is.funs;
    }
one_scope Q (declared.Lemma n) a b x y =
    let same : x.l ≡ y.l = one_item x.l y.l (sym x.found ∙ y.found) in record {
      tparams = x.is.tparams ∙ ap (λ (l : proposition.Lemma). l.tparams) same ∙ sym y.is.tparams;
      funs = x.is.funs ∙ ap (λ (l : proposition.Lemma). l.funs) same ∙ sym y.is.funs;
    }

-- two clauses of one obligation have the same type and function variables
pub same_scope : (Q : Program) (n : ℕ) (a b : Clause) → IsObligation Q n a → IsObligation Q n b → HasScope a b.tparams b.funs
same_scope Q n a b x y =
    let same : x.declared ≡ y.declared = one_item x.declared y.declared (sym x.number ∙ y.number) in
    let there : IsDeclaredClause Q y.declared a = subst (λ (d : Declared). IsDeclaredClause Q d a) same x.says in
    one_scope Q y.declared a b (scope_of Q there) (scope_of Q y.says)

-- an item of two lists stands in the one or the other
in_either : {A : Type 0} (xs ys : List A) (n : ℕ) (x : A) → slice_get (xs ++ ys) n ≡ Some x → (slice_get xs n ≡ Some x) ⊎ ((m : ℕ) × (slice_get ys m ≡ Some x))
in_either [] ys n x at = inr (n, at)
in_either (y ∷ xs) ys zero x at = inl at
in_either (y ∷ xs) ys (suc n) x at = in_either xs ys n x at

-- Fresh variables stand behind those of a sequent.
module _ (Q : Program) (old : Context) (is_context : IsTypedContext Q old) (front : List (Option Ty)) (types : List Ty)
    (kept : (n : ℕ) (T : Ty) → slice_get front n ≡ Some (Some T) → slice_get old.vars n ≡ Some (Some T)) (are : AreTypes Q old.tparams types) where
  abbrev new : Context
  new = record { tparams = old.tparams; funs = old.funs; vars = front ++ live types }

  pub fresh_context : IsTypedContext Q new
  fresh_context = record { vars = variable; params = is_context.params; results = is_context.results }
    where
      variable : (n : ℕ) (T : Ty) → slice_get new.vars n ≡ Some (Some T) → IsType Q old.tparams T
      variable n T at = go (in_either front (live types) n (Some T) at)
        where
          go : (slice_get front n ≡ Some (Some T)) ⊎ ((m : ℕ) × (slice_get (live types) m ≡ Some (Some T))) → IsType Q old.tparams T
          go (inl before) = is_context.vars n T (kept n T before)
          go (inr behind) = type_at Q old.tparams types behind.0 T are (live_at types behind.0 T behind.1)

  fresh_have : (next : ℕ) → length front ≡ next →
      HaveTypes Q anywhere new [] (map (λ (i : ℕ). term.Free i) (numbers_from next (length types))) types
  fresh_have next long =
      let Have : List Term → List Ty → Type 0 = λ (terms : List Term) (Ts : List Ty). HaveTypes Q anywhere new [] terms Ts in
      subst₂ Have (append-nil (map (λ (i : ℕ). term.Free i) (numbers_from next (length types)))) (append-nil types)
      (frees_have Q new next types [] []
      (λ i T at. ap (λ (m : ℕ). slice_get (front ++ live types) (m + i)) (sym long) ∙ behind_front front (live types) i ∙ live_there types i T at)
      typing.none)

-- constructor k on fresh variables has the datatype's type
pub fresh_constructor_has : (Q : Program) (old : Context) → IsTypedContext Q old → (front : List (Option Ty)) →
    ((n : ℕ) (T : Ty) → slice_get front n ≡ Some (Some T) → slice_get old.vars n ≡ Some (Some T)) → (next d k : ℕ) (args : List Ty) (c : ConDef) →
    length front ≡ next → AreTypes Q old.tparams (tys_instance args c.fields) → IsType Q old.tparams (type.Con d args) → constructor_at Q d k ≡ Some c →
    HasType Q anywhere (record { tparams = old.tparams; funs = old.funs; vars = front ++ live (tys_instance args c.fields) })
    (term.Con d k args (map (λ (i : ℕ). term.Free i) (numbers_from next (length c.fields)))) (type.Con d args)
fresh_constructor_has Q old is_context front kept next d k args c long are is found =
    let types : List Ty = tys_instance args c.fields in
    let grown : Context = record { tparams = old.tparams; funs = old.funs; vars = front ++ live types } in
    let fields : List Term = map (λ (i : ℕ). term.Free i) (numbers_from next (length c.fields)) in
    let have : HaveTypes Q anywhere grown [] fields types =
    subst (λ (m : ℕ). HaveTypes Q anywhere grown [] (map (λ (i : ℕ). term.Free i) (numbers_from next m)) types) (length-map c.fields (ty_instance args))
    (fresh_have Q old is_context front types kept are next long) in
    subst (λ (y : Term-F Term). HasTypeLayer Q anywhere grown [] y (type.Con d args)) (sym (term.outs-Con d k args fields))
    (typing.con {c = c} found is refl tt have)

-- a variable that is live after another one is taken away was so before
pub still_live : (vars : List (Option Ty)) (v n : ℕ) (T : Ty) → slice_get (slice_set vars v None) n ≡ Some (Some T) → slice_get vars n ≡ Some (Some T)
still_live [] v n T at = at
still_live (x ∷ vars) zero zero T at = let wrong : ⊥ = cc in absurd wrong
still_live (x ∷ vars) zero (suc n) T at = at
still_live (x ∷ vars) (suc v) zero T at = at
still_live (x ∷ vars) (suc v) (suc n) T at = still_live vars v n T at

-- another variable is live after one is taken away
pub others_live : (vars : List (Option Ty)) (v n : ℕ) (T : Ty) → (n ≡ v → ⊥) → slice_get vars n ≡ Some (Some T) →
    slice_get (slice_set vars v None) n ≡ Some (Some T)
others_live [] v n T other at = at
others_live (x ∷ vars) zero zero T other at = absurd (other refl)
others_live (x ∷ vars) zero (suc n) T other at = at
others_live (x ∷ vars) (suc v) zero T other at = at
others_live (x ∷ vars) (suc v) (suc n) T other at = others_live vars v n T (λ same. other (ap suc same)) at

-- What a construction of a type rests on.
record Constructed (Q : Program) (context : Context) (d k : ℕ) (types : List Ty) (fields : List Term) (T : Ty) : Type 0 where
  c : ConDef
  found : constructor_at Q d k ≡ Some c
  is : T ≡ type.Con d types
  have : HaveTypes Q anywhere context [] fields (tys_instance types c.fields)

constructed : (Q : Program) (context : Context) (d k : ℕ) (types : List Ty) (fields : List Term) {bound : List Ty} {y : Term-F Term} {T : Ty} →
    HasTypeLayer Q anywhere context bound y T → bound ≡ [] → y ≡ Term-F.Con d k types fields → Constructed Q context d k types fields T
constructed Q context d k types fields (typing.free at met) b e = let wrong : ⊥ = cc in absurd wrong
constructed Q context d k types fields (typing.bound at met) b e = let wrong : ⊥ = cc in absurd wrong
constructed Q context d k types fields (typing.lit small is) b e = let wrong : ⊥ = cc in absurd wrong
constructed Q context d k types fields
    (typing.con {bound = bound} {d = f} {k = l} {types = us} {fields = parts} {T = T} {c = c} found is_type is met have) b e =
    let same_d : f ≡ d = cc in
    let same_k : l ≡ k = cc in
    let same_types : us ≡ types = cc in
    let same_fields : parts ≡ fields = cc in
    record {
      c = c;
      found = sym (λ i. constructor_at Q (same_d i) (same_k i)) ∙ found;
      is = is ∙ (λ i. type.Con (same_d i) (same_types i));
      have =
          subst₂ (λ (terms : List Term) (us : List Ty). HaveTypes Q anywhere context [] terms (tys_instance us c.fields)) same_fields same_types
          (subst (λ (around : List Ty). HaveTypes Q anywhere context around parts (tys_instance us c.fields)) b have);
    }
constructed Q context d k types fields (typing.call function may types_met met arguments have) b e = let wrong : ⊥ = cc in absurd wrong
constructed Q context d k types fields (typing.choose on is found arms) b e = let wrong : ⊥ = cc in absurd wrong

-- terms of the same types in pairs are typed equations
pairs_typed : (Q : Program) (context : Context) {bound : List Ty} {ss ts : List Term} {types others : List Ty} → HaveTypes Q anywhere context bound ss types →
    HaveTypes Q anywhere context bound ts others → bound ≡ [] → types ≡ others → All (IsTypedEquation Q context) (pairs_equal ss ts)
pairs_typed Q context typing.none have b e = All-nil (IsTypedEquation Q context)
pairs_typed Q context (typing.more first others) typing.none b e = All-nil (IsTypedEquation Q context)
pairs_typed Q context (typing.more {bound = bound} {t = s} {ts = ss} {T = T} {types = types} first others)
    (typing.more {t = t} {ts = ts} {T = U} {types = us} second rest) b e =
    let same : T ≡ U = cc in
    let same_others : types ≡ us = cc in
    let left : HasType Q anywhere context s T = subst (λ (around : List Ty). HasTypeLayer Q anywhere context around (out-Term s) T) b first in
    let right : HasType Q anywhere context t U = subst (λ (around : List Ty). HasTypeLayer Q anywhere context around (out-Term t) U) b second in
    All-cons (IsTypedEquation Q context) (record { left = s; right = t }) (pairs_equal ss ts)
    (record { T = T; left = left; right = subst (HasType Q anywhere context t) (sym same) right })
    (pairs_typed Q context others rest b same_others)

-- the fields of one constructor at one type are typed in pairs
pub fields_typed : (Q : Program) (context : Context) (s t : Term) (T : Ty) (d k : ℕ) (types us : List Ty) (fields parts : List Term) →
    HasType Q anywhere context s T → HasType Q anywhere context t T → out-Term s ≡ Term-F.Con d k types fields → out-Term t ≡ Term-F.Con d k us parts →
    All (IsTypedEquation Q context) (pairs_equal fields parts)
fields_typed Q context s t T d k types us fields parts left right s_is t_is =
    let x : Constructed Q context d k types fields T = constructed Q context d k types fields left refl s_is in
    let y : Constructed Q context d k us parts T = constructed Q context d k us parts right refl t_is in
    let same_con : x.c ≡ y.c = one_item x.c y.c (sym x.found ∙ y.found) in
    let layers : Ty-F.Con d types ≡ Ty-F.Con d us =
    sym (type.outs-Con d types) ∙ ap out-Ty (sym x.is ∙ y.is) ∙ type.outs-Con d us in
    let same_types : types ≡ us = cc in
    pairs_typed Q context x.have y.have refl (λ i. tys_instance (same_types i) (same_con i).fields)
