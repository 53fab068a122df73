-- What is called or passed: its signature and its counts, as tests and as the rules say.
use Rattle.std.proofs.Common.{◌≡◌, ℕ, ◌≤◌, List, [], ◌∷◌, length, map, Option, Some, None, refl, sym, ap, Decides, arith}
use Rattle.std.specs.Prelude.{◌==◌, slice_get}
use Rattle.std.specs.List.{All, list_all}
use Rattle.std.specs.Option.{IsSomeAnd, option_map}
use Rattle.std.proofs.lemmas.Bool.{false≢true, leb-true, le-leb}
use Rattle.std.proofs.lemmas.Bool.Decides.{Decides-eqb, Decides-ltb, Decides-and, Decides-or, Decides-like, Decides-by_and}
use Rattle.std.proofs.lemmas.List.{length-map}
use Rattle.std.proofs.lemmas.List.Elements.{All-weaker}
use Rattle.px_base.specs.declared.head.Head.{Head}
use Rattle.px_base.specs.declared.head.Head.TheVariants.{Def, Wle, Weq, FnVar}
use Rattle.px_base.specs.declared.raw.RawFun.{RawFun}
use Rattle.px_terms.specs.declared.types.Ty.{Ty}
use Rattle.px_terms.specs.declared.types.Ty.TheVariants as type
use Rattle.px_terms.specs.declared.types.FnType.{FnType}
use Rattle.px_terms.specs.declared.types.Fun.{Fun}
use Rattle.px_terms.specs.declared.program.Def as definition
use Rattle.px_terms.specs.declared.program.Program.{Program}
use Rattle.px_terms.specs.Types.{ty_size, ty_depth, ty_instance, tys_instance, fn_type_instance, own_types}
use Rattle.px_terms.specs.Programs.{bool_type}
use Rattle.px_terms.specs.Typing.{Place, anywhere, in_body, behind, AreTypes, IsSmallMet, IsMet, StandsBefore, IsFunction, of_definition, at_most, equal, of_variable, AreOwnTypes, MayCall, MayPass}
use Rattle.px_terms.specs.Typing as typing
use Rattle.px_terms.specs.TypedPrograms.{IsWritten}
use Rattle.px_types.specs.Faults.{Env, Counts, counts_of, types_of_function, IsFunctionMet, HasArgumentCount}
use Rattle.px_types.specs.Laws.{IsPlaced}
use Rattle.px_types.specs.Outcome.{is_met, is_function_met, Signature, signature_of, stands_before, are_own, may_call, may_pass, has_argument_count, has_counts, is_alike}
use Rattle.px_types.proofs.TypesExact.{decides_small}
use Rattle.px_types.proofs.Sameness.{decides_same, decides_same_all}
use Rattle.px_types.proofs.Known.{decides_passes}

pub met_of : (place : Place) (T : Ty) → IsSmallMet T → IsMet place T
met_of anywhere T small = tt
met_of (in_body n) T small = small
met_of (behind count) T small = small

pub small_of : (place : Place) → IsPlaced place → (T : Ty) → IsMet place T → IsSmallMet T
small_of anywhere placed T met = absurd placed
small_of (in_body n) placed T met = met
small_of (behind count) placed T met = met

pub all_met : (place : Place) {P : Program} {tparams : ℕ} (types : List Ty) → All (IsWritten P tparams) types → All (IsMet place) types
all_met place {P} {tparams} types all = All-weaker (IsWritten P tparams) (IsMet place) (λ T w. met_of place T w.small) types all

pub decides_met : (place : Place) (T : Ty) → Decides (is_met place T) (IsMet place T)
unfolding is_met
decides_met anywhere T = (λ e. tt, λ h. refl)
decides_met (in_body n) T = Decides-like _ (λ h. record { nodes = h.0; depth = h.1 }) (λ s. (s.nodes, s.depth)) (decides_small (ty_size T) (ty_depth T))
decides_met (behind count) T = Decides-like _ (λ h. record { nodes = h.0; depth = h.1 }) (λ s. (s.nodes, s.depth)) (decides_small (ty_size T) (ty_depth T))

pub decides_all_met : (place : Place) (types : List Ty) → Decides (list_all (is_met place) types) (All (IsMet place) types)
decides_all_met place types = Decides-by_and (is_met place) (IsMet place) (list_all (is_met place)) (decides_met place) refl (λ _ _. refl) types

pub decides_function_met : (E : Env) (params : List Ty) (result : Ty) → Decides (is_function_met E params result) (IsFunctionMet E params result)
unfolding is_function_met
decides_function_met E params result = decides_all_met E.place (types_of_function params result)

decides_before : (P : Program) (m count : ℕ) → Decides (stands_before P m count) (StandsBefore P m count)
decides_before P m count = decides_passes _ (λ (D : definition.Def). D.seen ≤ count) (λ D. (leb-true D.seen count, le-leb D.seen count)) (slice_get P.defs m)

decides_own : (P : Program) (n : ℕ) (types : List Ty) → Decides (are_own P n types) (AreOwnTypes P n types)
decides_own P n types = decides_passes _ (λ (D : definition.Def). types ≡ own_types D.tparams) (λ D. decides_same_all types (own_types D.tparams)) (slice_get P.defs n)

pub decides_may_call : (P : Program) (place : Place) (h : Head) (types : List Ty) → Decides (may_call P place h types) (MayCall P place h types)
unfolding may_call
decides_may_call P anywhere (Def m) types = (λ e. tt, λ h. refl)
decides_may_call P anywhere Wle types = (λ e. tt, λ h. refl)
decides_may_call P anywhere Weq types = (λ e. tt, λ h. refl)
decides_may_call P anywhere (FnVar i) types = (λ e. tt, λ h. refl)
decides_may_call P (in_body n) (Def m) types = Decides-or _ _ (Decides-ltb m n) (Decides-and _ _ (Decides-eqb m n) (decides_own P n types))
decides_may_call P (in_body n) Wle types = (λ e. tt, λ h. refl)
decides_may_call P (in_body n) Weq types = (λ e. tt, λ h. refl)
decides_may_call P (in_body n) (FnVar i) types = (λ e. tt, λ h. refl)
decides_may_call P (behind count) (Def m) types = decides_before P m count
decides_may_call P (behind count) Wle types = (λ e. tt, λ h. refl)
decides_may_call P (behind count) Weq types = (λ e. tt, λ h. refl)
decides_may_call P (behind count) (FnVar i) types = (λ e. tt, λ h. refl)

pub decides_may_pass : (P : Program) (place : Place) (h : Head) → Decides (may_pass P place h) (MayPass P place h)
unfolding may_pass
decides_may_pass P anywhere (Def m) = (λ e. tt, λ h. refl)
decides_may_pass P anywhere Wle = (λ e. tt, λ h. refl)
decides_may_pass P anywhere Weq = (λ e. tt, λ h. refl)
decides_may_pass P anywhere (FnVar i) = (λ e. tt, λ h. refl)
decides_may_pass P (in_body n) (Def m) = Decides-ltb m n
decides_may_pass P (in_body n) Wle = (λ e. tt, λ h. refl)
decides_may_pass P (in_body n) Weq = (λ e. tt, λ h. refl)
decides_may_pass P (in_body n) (FnVar i) = (λ e. tt, λ h. refl)
decides_may_pass P (behind count) (Def m) = decides_before P m count
decides_may_pass P (behind count) Wle = (λ e. tt, λ h. refl)
decides_may_pass P (behind count) Weq = (λ e. tt, λ h. refl)
decides_may_pass P (behind count) (FnVar i) = (λ e. tt, λ h. refl)

pub decides_argument_count : (E : Env) (raw : RawFun) → Decides (has_argument_count E raw) (HasArgumentCount E raw)
unfolding has_argument_count
decides_argument_count E raw = Decides-and _ _ (decides_may_pass E.program E.place raw.head) (decides_passes _ (λ (c : Counts). c.types ≡ length raw.types) (λ c. Decides-eqb c.types (length raw.types)) (counts_of E raw.head))

counts_are : {types functions values n m k : ℕ} → (types ≡ n) × ((functions ≡ m) × (values ≡ k)) → ◌≡◌ {A = Counts} (record { types = types; functions = functions; values = values }) (record { types = n; functions = m; values = k })
counts_are h = λ i. record { types = h.0 i; functions = h.1.0 i; values = h.1.1 i }

pub decides_counts : (o : Option Counts) (types functions values : ℕ) → Decides (has_counts o types functions values) (o ≡ Some (record { types = types; functions = functions; values = values }))
unfolding has_counts
decides_counts None types functions values = (λ e. absurd (false≢true e), λ e. absurd cc)
decides_counts (Some c) types functions values =
    Decides-like _ (λ h. ap Some (counts_are h)) (λ e. let one : c ≡ record { types = types; functions = functions; values = values } = cc in (ap (λ (x : Counts). x.types) one, (ap (λ (x : Counts). x.functions) one, ap (λ (x : Counts). x.values) one))) (Decides-and _ _ (Decides-eqb c.types types) (Decides-and _ _ (Decides-eqb c.functions functions) (Decides-eqb c.values values)))

-- The function takes no functions, and has the wanted type.
pub record IsAlike (own : Signature) (wanted : FnType) : Type 0 where
  pub takes : own.takes ≡ []
  pub params : own.params ≡ wanted.params
  pub result : own.result ≡ wanted.result

none_of_length : {X : Type 0} (xs : List X) → length xs ≡ 0 → xs ≡ []
none_of_length [] e = refl
none_of_length (x ∷ xs) e = absurd (omega arith)

pub decides_none : {X : Type 0} (xs : List X) → Decides (length xs == 0) (xs ≡ [])
decides_none xs = Decides-like _ (none_of_length xs) (λ e. ap length e) (Decides-eqb (length xs) 0)

pub decides_alike : (own : Signature) (wanted : FnType) → Decides (is_alike own wanted) (IsAlike own wanted)
unfolding is_alike
decides_alike own wanted = Decides-like _ (λ h. record { takes = h.0; params = h.1.0; result = h.1.1 }) (λ a. (a.takes, (a.params, a.result))) (Decides-and _ _ (decides_none own.takes) (Decides-and _ _ (decides_same_all own.params wanted.params) (decides_same own.result wanted.result)))

-- how many a definition takes, and a function variable
abbrev counts_at : definition.Def → Counts
counts_at D = record { types = D.tparams; functions = length D.funs; values = length D.params }

abbrev variable_counts : FnType → Counts
variable_counts F = record { types = 0; functions = 0; values = length F.params }

-- Signatures.
module _ (E : Env) where
  -- as many types as what is called takes
  abbrev pub TakesTypes : Head → ℕ → Type 0
  TakesTypes h n = IsSomeAnd (counts_of E h) (λ (c : Counts). c.types ≡ n)

  pub function_of : (h : Head) (types : List Ty) (s : Signature) → TakesTypes h (length types) → AreTypes E.program E.context.tparams types → signature_of E h types ≡ Some s → IsFunction E.program E.context (record { head = h; types = types }) s.takes s.params s.result
  unfolding signature_of
  function_of (Def n) types s count are e = go (slice_get E.program.defs n) refl count e
    where
      at : definition.Def → Signature
      at D = record { takes = map (fn_type_instance types) D.funs; params = tys_instance types D.params; result = ty_instance types D.result }

      go : (o : Option definition.Def) → slice_get E.program.defs n ≡ o → IsSomeAnd (option_map (λ (D : definition.Def). counts_at D) o) (λ (c : Counts). c.types ≡ length types) → option_map at o ≡ Some s → IsFunction E.program E.context (record { head = Def n; types = types }) s.takes s.params s.result
      go None stands count e = absurd count
      go (Some D) stands count e =
          let one : at D ≡ s = cc in
          of_definition stands (sym count) are (sym (ap (λ (x : Signature). x.takes) one)) (sym (ap (λ (x : Signature). x.params) one)) (sym (ap (λ (x : Signature). x.result) one))
  function_of Wle types s count are e =
      let none : types ≡ [] = none_of_length types (sym count) in
      let one : record { takes = []; params = type.Word ∷ type.Word ∷ []; result = bool_type } ≡ s = cc in
      rw (none, ← one) (at_most refl)
  function_of Weq types s count are e =
      let none : types ≡ [] = none_of_length types (sym count) in
      let one : record { takes = []; params = type.Word ∷ type.Word ∷ []; result = bool_type } ≡ s = cc in
      rw (none, ← one) (equal refl)
  function_of (FnVar i) types s count are e = go (slice_get E.context.funs i) refl count e
    where
      at : FnType → Signature
      at F = record { takes = []; params = F.params; result = F.result }

      go : (o : Option FnType) → slice_get E.context.funs i ≡ o → IsSomeAnd (option_map (λ (F : FnType). variable_counts F) o) (λ (c : Counts). c.types ≡ length types) → option_map at o ≡ Some s → IsFunction E.program E.context (record { head = FnVar i; types = types }) s.takes s.params s.result
      go None stands count e = absurd count
      go (Some F) stands count e =
          let none : types ≡ [] = none_of_length types (sym count) in
          let one : at F ≡ s = cc in
          rw (none, ← one) (of_variable stands refl refl)

  pub function_is : {f : Fun} {takes : List FnType} {params : List Ty} {T : Ty} → IsFunction E.program E.context f takes params T → signature_of E f.head f.types ≡ Some (record { takes = takes; params = params; result = T })
  unfolding signature_of
  function_is (of_definition stands count are takes params result) = rw (stands, takes, params, result) refl
  function_is (at_most result) = rw result refl
  function_is (equal result) = rw result refl
  function_is (of_variable stands params result) = rw (stands, params, result) refl

  pub function_counts : {f : Fun} {takes : List FnType} {params : List Ty} {T : Ty} → IsFunction E.program E.context f takes params T → counts_of E f.head ≡ Some (record { types = length f.types; functions = length takes; values = length params })
  function_counts (of_definition {types = types} {D = D} stands count are takes params result) = rw (stands, takes, params, length-map D.funs (fn_type_instance types), length-map D.params (ty_instance types), count) refl
  function_counts (at_most result) = refl
  function_counts (equal result) = refl
  function_counts (of_variable stands params result) = rw (stands, params) refl

  pub function_types : {f : Fun} {takes : List FnType} {params : List Ty} {T : Ty} → IsFunction E.program E.context f takes params T → AreTypes E.program E.context.tparams f.types
  function_types (of_definition stands count are takes params result) = are
  function_types (at_most result) = typing.none
  function_types (equal result) = typing.none
  function_types (of_variable stands params result) = typing.none

  -- what takes types has a signature
  pub no_signature : (h : Head) (n : ℕ) (types : List Ty) → TakesTypes h n → signature_of E h types ≡ None → ⊥
  unfolding signature_of
  no_signature (Def m) n types takes e = go (slice_get E.program.defs m) takes e
    where
      go : (o : Option definition.Def) → IsSomeAnd (option_map (λ (D : definition.Def). counts_at D) o) (λ (c : Counts). c.types ≡ n) → ◌≡◌ {A = Option Signature} (option_map (λ (D : definition.Def). record { takes = map (fn_type_instance types) D.funs; params = tys_instance types D.params; result = ty_instance types D.result }) o) None → ⊥
      go None takes e = takes
      go (Some D) takes e = absurd cc
  no_signature Wle n types takes e = absurd cc
  no_signature Weq n types takes e = absurd cc
  no_signature (FnVar i) n types takes e = go (slice_get E.context.funs i) takes e
    where
      go : (o : Option FnType) → IsSomeAnd (option_map (λ (F : FnType). variable_counts F) o) (λ (c : Counts). c.types ≡ n) → ◌≡◌ {A = Option Signature} (option_map (λ (F : FnType). record { takes = []; params = F.params; result = F.result }) o) None → ⊥
      go None takes e = takes
      go (Some F) takes e = absurd cc
