-- Written types are found exactly as the rules say.
use Rattle.std.proofs.Common.{◌≡◌, ℕ, suc, ◌+◌, ◌<◌, ◌≤◌, max, Bool, true, false, ◌&&◌, eqb, leb, List, [], ◌∷◌, length, map, Option, Some, None, Result, Ok, Err, refl, sym, ◌∙◌, ap, subst, Decides, arith}
use Rattle.std.specs.Prelude.{◌-◌, MatchOption, sum, slice_get, nat_lt, if◌then◌else◌}
use Rattle.std.specs.Option.{option_map}
use Rattle.std.specs.List.{All}
use Rattle.std.proofs.lemmas.Bool.{leb-true, le-leb, ltb-true, lt-ltb}
use Rattle.std.proofs.lemmas.Bool.Decides.{Decides-eqb, Decides-and}
use Rattle.std.proofs.lemmas.List.{length-map}
use Rattle.std.proofs.lemmas.List.Sums.{sum_by-cons}
use Rattle.std.proofs.lemmas.List.Elements.{All-nil, All-cons, All-head, All-tail}
use Rattle.px_base.specs.Largest.{largest}
use Rattle.px_base.specs.declared.limits.TheConstants.{TYPE_NODES, TYPE_DEPTH}
use Rattle.px_base.specs.declared.raw.RawTyKind.{RawTyKind}
use Rattle.px_base.specs.declared.raw.RawTyKind.TheVariants as type_kinds
use Rattle.px_base.specs.declared.raw.RawTy.{RawTy, RawTy-F, out-RawTy, roll-RawTy, out-roll-RawTy, roll-out-RawTy, map-RawTy, fold_out-RawTy, ind-RawTy, para-RawTy, para-roll-RawTy}
use Rattle.px_terms.specs.declared.types.Ty.{Ty, out-Ty}
use Rattle.px_terms.specs.declared.types.Ty.TheVariants as type
use Rattle.px_terms.specs.declared.types.Ty.TheOpen.{Ty-F}
use Rattle.px_terms.specs.declared.program.DataDef.{DataDef}
use Rattle.px_terms.specs.declared.program.Program.{Program}
use Rattle.px_terms.specs.Types.{ty_size, tys_size, ty_depth, tys_depth}
use Rattle.px_terms.specs.TreeEquations.{ty_size-Word, ty_size-Var, ty_size-Con, ty_depth-Word, ty_depth-Var, ty_depth-Con}
use Rattle.px_terms.specs.Typing.{IsTypeLayer, word, var, con, AreTypes, none, more, IsSmallMet}
use Rattle.px_terms.specs.TypedPrograms.{IsWritten}
use Rattle.px_types.specs.declared.ends.TypeKind.TheVariants.{Arity, Oversize}
use Rattle.px_types.specs.Written as written
use Rattle.px_types.specs.Written.{IsTy, AreTys}
use Rattle.px_types.specs.Faults as faults
use Rattle.px_types.specs.Faults.{Broken, breaks, raw_ty_size_step, raw_ty_size, raw_ty_depth_step, raw_ty_depth, IsSmallRaw, ty_count, AreRight, HasTyCount, BreaksTy, BreaksTys}
use Rattle.px_types.specs.Outcomes.{onward, needs, each}
use Rattle.px_types.specs.Outcome.{ty_of, is_count, is_small, is_small_over, ty_found_step, ty_found, tys_found}
use Rattle.px_types.proofs.Exact.{Exact, Both, Either, first, later, exact_as, exact_at, exact_ok, exact_needs, exact_then, Every, AllAre, OneBreaks, exact_each}
use Rattle.px_types.proofs.Exact as exact

-- what holds of a type where it holds of its arguments holds of each
all_of_pairs : (P : RawTy → Type 0) (pairs : List ((raw : RawTy) × P raw)) → Every P (map (λ (e : (raw : RawTy) × P raw). e.0) pairs)
all_of_pairs P [] = tt
all_of_pairs P (e ∷ es) = (e.1, all_of_pairs P es)

pub raw_ty_induction : (P : RawTy → Type 0) → ((raw : RawTy) → Every P (out-RawTy raw).args → P raw) → (raw : RawTy) → P raw
raw_ty_induction P step = ind-RawTy P (λ x y e. step (roll-RawTy x) (subst (λ (z : RawTy-F RawTy). Every P z.args) (e ∙ sym (out-roll-RawTy x)) (all_of_pairs P y.args)))

pub every_raw : (P : RawTy → Type 0) → ((raw : RawTy) → P raw) → (raws : List RawTy) → Every P raws
every_raw P all [] = tt
every_raw P all (raw ∷ raws) = (all raw, every_raw P all raws)

-- The sizes of a written type are those of its type.
raw_ty_size_is : (raw : RawTy) → raw_ty_size raw ≡ 1 + sum (map raw_ty_size (out-RawTy raw).args)
raw_ty_size_is raw = fold_out-RawTy ℕ raw_ty_size_step raw

raw_ty_depth_is : (raw : RawTy) → raw_ty_depth raw ≡ 1 + largest (map raw_ty_depth (out-RawTy raw).args)
raw_ty_depth_is raw = fold_out-RawTy ℕ raw_ty_depth_step raw

-- the room after a written type is that after its arguments, one level down and less its node
pub raw_room : (raw : RawTy) (args : List RawTy) → args ≡ (out-RawTy raw).args → (nodes depth : ℕ) (r : Option ℕ) → (nodes ≡ 0 → ⊥) → (depth ≡ 0 → ⊥) → MatchOption r (¬ ((sum (map raw_ty_size args) ≤ nodes - 1) × (largest (map raw_ty_depth args) ≤ depth - 1))) (λ left. (left + sum (map raw_ty_size args) ≡ nodes - 1) × (largest (map raw_ty_depth args) ≤ depth - 1)) → MatchOption r (¬ ((raw_ty_size raw ≤ nodes) × (raw_ty_depth raw ≤ depth))) (λ left. (left + raw_ty_size raw ≡ nodes) × (raw_ty_depth raw ≤ depth))
raw_room raw args same nodes depth r some deep h =
    let size : raw_ty_size raw ≡ 1 + sum (map raw_ty_size args) = raw_ty_size_is raw ∙ ap (λ (xs : List RawTy). 1 + sum (map raw_ty_size xs)) (sym same) in
    let levels : raw_ty_depth raw ≡ 1 + largest (map raw_ty_depth args) = raw_ty_depth_is raw ∙ ap (λ (xs : List RawTy). 1 + largest (map raw_ty_depth xs)) (sym same) in
    go (sum (map raw_ty_size args)) (largest (map raw_ty_depth args)) (raw_ty_size raw) (raw_ty_depth raw) size levels r h
  where
    less : (s size most : ℕ) → size ≡ 1 + s → size ≤ most → s ≤ most - 1
    less s size most e h = omega arith

    go : (s l size levels : ℕ) → size ≡ 1 + s → levels ≡ 1 + l → (r : Option ℕ) → MatchOption r (¬ ((s ≤ nodes - 1) × (l ≤ depth - 1))) (λ left. (left + s ≡ nodes - 1) × (l ≤ depth - 1)) → MatchOption r (¬ ((size ≤ nodes) × (levels ≤ depth))) (λ left. (left + size ≡ nodes) × (levels ≤ depth))
    go s l size levels e f None over = λ (h : (size ≤ nodes) × (levels ≤ depth)). over (less s size nodes e h.0, less l levels depth f h.1)
    go s l size levels e f (Some left) h = (omega (arith, h.0, some), omega (arith, h.1, deep))

mutual
  pub same_size : {raw : RawTy} {T : Ty} → IsTy raw T → raw_ty_size raw ≡ ty_size T
  same_size {raw} (written.word kind args e) = raw_ty_size_is raw ∙ rw (args, e) (sym ty_size-Word)
  same_size {raw} (written.var {n = n} kind args e) = raw_ty_size_is raw ∙ rw (args, e) (sym (ty_size-Var n))
  same_size {raw} (written.con {d = d} {types = types} kind are e) = raw_ty_size_is raw ∙ rw (same_sizes are, e) (sym (ty_size-Con d types))

  pub same_sizes : {raws : List RawTy} {types : List Ty} → AreTys raws types → sum (map raw_ty_size raws) ≡ tys_size types
  same_sizes written.none = refl
  same_sizes (written.more {raw = raw} {raws = raws} {T = T} {types = types} is are) =
      sum_by-cons (λ n. n) (raw_ty_size raw) (map raw_ty_size raws)
      ∙ (λ i. same_size is i + same_sizes are i)
      ∙ sym (sum_by-cons (λ n. n) (ty_size T) (map ty_size types))

mutual
  pub same_depth : {raw : RawTy} {T : Ty} → IsTy raw T → raw_ty_depth raw ≡ ty_depth T
  same_depth {raw} (written.word kind args e) = raw_ty_depth_is raw ∙ rw (args, e) (sym ty_depth-Word)
  same_depth {raw} (written.var {n = n} kind args e) = raw_ty_depth_is raw ∙ rw (args, e) (sym (ty_depth-Var n))
  same_depth {raw} (written.con {d = d} {types = types} kind are e) = raw_ty_depth_is raw ∙ rw (same_depths are, e) (sym (ty_depth-Con d types))

  pub same_depths : {raws : List RawTy} {types : List Ty} → AreTys raws types → largest (map raw_ty_depth raws) ≡ tys_depth types
  same_depths written.none = refl
  same_depths (written.more is are) = λ i. max (same_depth is i) (same_depths are i)

-- The written type is this one, which breaks no rule.
pub record IsRight (P : Program) (tparams : ℕ) (raw : RawTy) (T : Ty) : Type 0 where
  pub is : IsTy raw T
  pub written : IsWritten P tparams T

-- a written type is found by its counts, its size and its arguments
abbrev pub ty_found_over : Program → ℕ → RawTy-F RawTy → Result Ty Broken
ty_found_over P tparams layer = onward (needs (is_count (ty_count P tparams layer.kind) (length layer.args)) Arity layer.at) (λ _. onward (needs (is_small_over layer.args) Oversize layer.at) (λ _. onward (tys_found P tparams layer.args) (λ (args : List Ty). Ok (ty_of layer.kind args))))

firsts : {A B : Type 0} (f : A → B) (xs : List A) → map (λ (e : A × B). e.0) (map (λ (x : A). (x, f x)) xs) ≡ xs
firsts f [] = refl
firsts f (x ∷ xs) = ap (λ ys. x ∷ ys) (firsts f xs)

seconds : {A T : Type 0} (f : A → Result T Broken) (xs : List A) → each (λ (e : A × Result T Broken). e.1) (map (λ (x : A). (x, f x)) xs) ≡ each f xs
unfolding each
seconds f [] = refl
seconds {A} {T} f (x ∷ xs) = ap (λ (r : Result (List T) Broken). onward (f x) (λ y. onward r (λ ys. Ok (y ∷ ys)))) (seconds f xs)

pub ty_found_is : (P : Program) (tparams : ℕ) (raw : RawTy) → ty_found P tparams raw ≡ ty_found_over P tparams (out-RawTy raw)
unfolding ty_found tys_found
ty_found_is P tparams raw =
    ap (para-RawTy (Result Ty Broken) (ty_found_step P tparams)) (sym (roll-out-RawTy raw))
    ∙ para-roll-RawTy (Result Ty Broken) (ty_found_step P tparams) (out-RawTy raw)
    ∙ rw (firsts (ty_found P tparams) (out-RawTy raw).args, seconds (ty_found P tparams) (out-RawTy raw).args, length-map {A = RawTy} {B = RawTy × Result Ty Broken}) refl

-- the tests say what the rules ask
decides_count : (o : Option ℕ) (n : ℕ) → Decides (is_count o n) (o ≡ Some n)
decides_count None n = (λ e. absurd cc, λ e. absurd cc)
decides_count (Some m) n = let d = Decides-eqb m n in (λ e. ap Some (d.0 e), λ e. d.1 cc)

pub decides_small : (nodes depth : ℕ) → Decides (is_small nodes depth) ((nodes ≤ TYPE_NODES) × (depth ≤ TYPE_DEPTH))
decides_small nodes depth = Decides-and _ _ (leb-true nodes TYPE_NODES, le-leb nodes TYPE_NODES) (leb-true depth TYPE_DEPTH, le-leb depth TYPE_DEPTH)

decides_small_raw : (raw : RawTy) → Decides (is_small_over (out-RawTy raw).args) (IsSmallRaw raw)
decides_small_raw raw =
    let d = decides_small (1 + sum (map raw_ty_size (out-RawTy raw).args)) (1 + largest (map raw_ty_depth (out-RawTy raw).args)) in (
      λ e. record { nodes = rw (raw_ty_size_is raw) (d.0 e).0; depth = rw (raw_ty_depth_is raw) (d.0 e).1 },
      λ small. d.1 (rw (raw_ty_size_is raw) at small.nodes, rw (raw_ty_depth_is raw) at small.depth),
    )

no_items : {X : Type 0} (xs : List X) → Some 0 ≡ Some (length xs) → xs ≡ []
no_items [] e = refl
no_items (x ∷ xs) e = let n : 0 ≡ length (x ∷ xs) = cc in absurd (omega arith)

var_count : (b : Bool) (m : ℕ) → (if b then Some 0 else None) ≡ Some m → (b ≡ true) × (m ≡ 0)
var_count true m e = (refl, cc)
var_count false m e = absurd cc

-- The datatype that is there takes so many types.
record DataAt (o : Option DataDef) (m : ℕ) : Type 0 where
  D : DataDef
  stands : o ≡ Some D
  count : D.tparams ≡ m

some_mapped : (o : Option DataDef) (m : ℕ) → option_map (λ (D : DataDef). D.tparams) o ≡ Some m → DataAt o m
some_mapped None m e = absurd cc
some_mapped (Some D) m e = record { D = D; stands = refl; count = cc }

pub same_length : {raws : List RawTy} {types : List Ty} → AreTys raws types → length raws ≡ length types
same_length written.none = refl
same_length (written.more is are) = ap (λ n. suc n) (same_length are)

-- What a type that is a datatype is made of.
pub record ConParts (P : Program) (tparams d : ℕ) (args : List Ty) : Type 0 where
  pub D : DataDef
  pub stands : slice_get P.datatypes d ≡ Some D
  pub count : length args ≡ D.tparams
  pub are : AreTypes P tparams args

pub con_parts : {P : Program} {tparams d : ℕ} {args : List Ty} → IsTypeLayer P tparams (Ty-F.Con d args) → ConParts P tparams d args
con_parts (con {D = D} stands count are) = record { D = D; stands = stands; count = count; are = are }

var_below : {P : Program} {tparams n : ℕ} → IsTypeLayer P tparams (Ty-F.Var n) → n < tparams
var_below (var h) = h

-- What a written type that is right is found to be.
record Taken (P : Program) (tparams : ℕ) (raw : RawTy) (T : Ty) : Type 0 where
  types : List Ty
  count : HasTyCount P tparams raw
  small : IsSmallRaw raw
  right : AreRight P tparams (out-RawTy raw).args types
  same : T ≡ ty_of (out-RawTy raw).kind types

-- the arguments of a type that is within the limits are within them
pub written_parts : {P : Program} {tparams : ℕ} (types : List Ty) → AreTypes P tparams types → tys_size types ≤ TYPE_NODES → tys_depth types ≤ TYPE_DEPTH → All (IsWritten P tparams) types
written_parts {P} {tparams} [] are nodes depth = All-nil (IsWritten P tparams)
written_parts {P} {tparams} (T ∷ types) (more is are) nodes depth =
    let cut : tys_size (T ∷ types) ≡ ty_size T + tys_size types = sum_by-cons (λ n. n) (ty_size T) (map ty_size types) in
    All-cons (IsWritten P tparams) T types (record { is_type = is; small = record { nodes = omega arith; depth = omega arith } }) (written_parts types are (omega arith) (omega arith))

-- the outcomes of written types are exact where those of each are
module _ (P : Program) (tparams : ℕ) where
  ExactTy : RawTy → Type 0
  unfolding ty_found
  ExactTy raw = Exact (ty_found P tparams raw) (IsRight P tparams raw) (BreaksTy P tparams raw)

  all_right : {raws : List RawTy} {types : List Ty} → AllAre (IsRight P tparams) raws types → AreRight P tparams raws types
  all_right exact.none = record { are = written.none; written = All-nil (IsWritten P tparams) }
  all_right (exact.more is all) = let rest = all_right all in record { are = written.more is.is rest.are; written = All-cons (IsWritten P tparams) _ _ is.written rest.written }

  right_all : {raws : List RawTy} {types : List Ty} → AreTys raws types → All (IsWritten P tparams) types → AllAre (IsRight P tparams) raws types
  right_all written.none all = exact.none
  right_all (written.more is are) all = exact.more (record { is = is; written = All-head (IsWritten P tparams) _ _ all }) (right_all are (All-tail (IsWritten P tparams) _ _ all))

  one_right : {raw : RawTy} {T : Ty} → IsRight P tparams raw T → AreRight P tparams (raw ∷ []) (T ∷ [])
  one_right is = all_right (exact.more is exact.none)

  one_of : {raw : RawTy} {types : List Ty} → AreRight P tparams (raw ∷ []) types → (T : Ty) × IsRight P tparams raw T
  one_of right = go right.are right.written
    where
      go : {raw : RawTy} {types : List Ty} → AreTys (raw ∷ []) types → All (IsWritten P tparams) types → (T : Ty) × IsRight P tparams raw T
      go (written.more {T = T} is are) all = (T, record { is = is; written = All-head (IsWritten P tparams) _ _ all })

  broken_tys : {raws : List RawTy} {b : Broken} → OneBreaks (IsRight P tparams) (BreaksTy P tparams) raws b → BreaksTys P tparams raws b
  broken_tys (exact.here br) = faults.here br
  broken_tys (exact.behind is br) = faults.later (one_right is) (broken_tys br)

  tys_broken : {raws : List RawTy} {b : Broken} → BreaksTys P tparams raws b → OneBreaks (IsRight P tparams) (BreaksTy P tparams) raws b
  tys_broken (faults.here br) = exact.here br
  tys_broken (faults.later right br) = exact.behind (one_of right).1 (tys_broken br)

  exact_tys : (raws : List RawTy) → Every (λ (raw : RawTy). Exact (ty_found P tparams raw) (IsRight P tparams raw) (BreaksTy P tparams raw)) raws → Exact (tys_found P tparams raws) (AreRight P tparams raws) (BreaksTys P tparams raws)
  unfolding tys_found
  exact_tys raws all = exact_as (exact_each (ty_found P tparams) (IsRight P tparams) (BreaksTy P tparams) raws all) (λ types. all_right) (λ types right. right_all right.are right.written) (λ b. broken_tys) (λ b. tys_broken)

  pub are_types : (types : List Ty) → All (IsWritten P tparams) types → AreTypes P tparams types
  are_types [] all = none
  are_types (T ∷ types) all = more (All-head (IsWritten P tparams) T types all).is_type (are_types types (All-tail (IsWritten P tparams) T types all))

  small_met : {raw : RawTy} {T : Ty} → IsTy raw T → IsSmallRaw raw → IsSmallMet T
  small_met is small = record { nodes = rw (same_size is) at small.nodes; depth = rw (same_depth is) at small.depth }

  small_raw : {raw : RawTy} {T : Ty} → IsTy raw T → IsSmallMet T → IsSmallRaw raw
  small_raw is small = record { nodes = rw (same_size is) small.nodes; depth = rw (same_depth is) small.depth }

  as_written : {raw : RawTy} {T : Ty} → IsTy raw T → IsSmallRaw raw → (layer : Ty-F Ty) → out-Ty T ≡ layer → IsTypeLayer P tparams layer → IsRight P tparams raw T
  as_written is small layer e is_type = record { is = is; written = record { is_type = rw e is_type; small = small_met is small } }

  -- a type of this kind, with these arguments
  made : (raw : RawTy) (types : List Ty) → HasTyCount P tparams raw → IsSmallRaw raw → AreRight P tparams (out-RawTy raw).args types → (kind : RawTyKind) → (out-RawTy raw).kind ≡ kind → IsRight P tparams raw (ty_of kind types)
  made raw types count small right type_kinds.Word e =
      as_written (written.word e (no_items _ (rw e at count)) refl) small Ty-F.Word type.outs-Word word
  made raw types count small right (type_kinds.Var n) e =
      let both = var_count (nat_lt n tparams) _ (rw e at count) in
      as_written (written.var e (no_items _ (ap Some (sym both.1))) refl) small (Ty-F.Var n) (type.outs-Var n) (var (ltb-true n tparams both.0))
  made raw types count small right (type_kinds.Con d) e =
      let there = some_mapped (slice_get P.datatypes d) _ (rw e at count) in
      as_written (written.con e right.are refl) small (Ty-F.Con d types) (type.outs-Con d types) (con there.stands (sym (same_length right.are) ∙ sym there.count) (are_types types right.written))

  -- what a type that is right is made of
  taken : (raw : RawTy) (T : Ty) → IsRight P tparams raw T → Taken P tparams raw T
  taken raw T right = go right.is
    where
      small : IsSmallRaw raw
      small = small_raw right.is right.written.small

      go : IsTy raw T → Taken P tparams raw T
      go (written.word kind args e) = record { types = []; count = rw (kind, args) refl; small = small; right = rw args (all_right exact.none); same = rw kind e }
      go (written.var {n = n} kind args e) =
          let layer : IsTypeLayer P tparams (Ty-F.Var n) = rw (e, type.outs-Var n) at right.written.is_type in
          record { types = []; count = rw (kind, args, lt-ltb n tparams (var_below layer)) refl; small = small; right = rw args (all_right exact.none); same = rw kind e }
      go (written.con {d = d} {types = types} kind are e) =
          let layer : IsTypeLayer P tparams (Ty-F.Con d types) = rw (e, type.outs-Con d types) at right.written.is_type in
          let parts = con_parts layer in
          let nodes : 1 + tys_size types ≤ TYPE_NODES = rw (e, ty_size-Con d types) at right.written.small.nodes in
          let depth : 1 + tys_depth types ≤ TYPE_DEPTH = rw (e, ty_depth-Con d types) at right.written.small.depth in
          record {
            types = types;
            count = rw (kind, parts.stands, same_length are, parts.count) refl;
            small = small;
            right = record { are = are; written = written_parts types parts.are (omega arith) (omega arith) };
            same = rw kind e;
          }

  exact_ty : (raw : RawTy) → Every (λ (arg : RawTy). Exact (ty_found P tparams arg) (IsRight P tparams arg) (BreaksTy P tparams arg)) (out-RawTy raw).args → Exact (ty_found P tparams raw) (IsRight P tparams raw) (BreaksTy P tparams raw)
  exact_ty raw all = exact_at (ty_found_is P tparams raw) (exact_as (exact_then (exact_needs _ Arity (out-RawTy raw).at (decides_count (ty_count P tparams (out-RawTy raw).kind) (length (out-RawTy raw).args))) (λ _ count. exact_then (exact_needs _ Oversize (out-RawTy raw).at (decides_small_raw raw)) (λ _ small. exact_then (exact_tys (out-RawTy raw).args all) (λ types right. exact_ok (ty_of (out-RawTy raw).kind types)))))
      (λ T both. subst (IsRight P tparams raw) (sym both.after.after.after) (made raw both.after.after.x both.is both.after.is both.after.after.is _ refl))
      (λ T right. let t = taken raw T right in record { x = tt; is = t.count; after = record { x = tt; is = t.small; after = record { x = t.types; is = t.right; after = t.same } } })
      br_to br_from)
    where
      br_to : (b : Broken) → Either {S = Unit {0}} (λ _. HasTyCount P tparams raw) (λ b. ¬ HasTyCount P tparams raw × (b ≡ breaks Arity (out-RawTy raw).at)) (λ _. Either {S = Unit {0}} (λ _. IsSmallRaw raw) (λ b. ¬ IsSmallRaw raw × (b ≡ breaks Oversize (out-RawTy raw).at)) (λ _. Either (AreRight P tparams (out-RawTy raw).args) (BreaksTys P tparams (out-RawTy raw).args) (λ _ _. ⊥))) b → BreaksTy P tparams raw b
      br_to b (first h) = faults.count h.0 h.1
      br_to b (later _ count (first h)) = faults.size count h.0 h.1
      br_to b (later _ count (later _ small (first br))) = faults.argument count small br
      br_to b (later _ count (later _ small (later types right nothing))) = absurd nothing

      br_from : (b : Broken) → BreaksTy P tparams raw b → Either {S = Unit {0}} (λ _. HasTyCount P tparams raw) (λ b. ¬ HasTyCount P tparams raw × (b ≡ breaks Arity (out-RawTy raw).at)) (λ _. Either {S = Unit {0}} (λ _. IsSmallRaw raw) (λ b. ¬ IsSmallRaw raw × (b ≡ breaks Oversize (out-RawTy raw).at)) (λ _. Either (AreRight P tparams (out-RawTy raw).args) (BreaksTys P tparams (out-RawTy raw).args) (λ _ _. ⊥))) b
      br_from b (faults.count miscounts e) = first (miscounts, e)
      br_from b (faults.size count large e) = later tt count (first (large, e))
      br_from b (faults.argument count small br) = later tt count (later tt small (first br))

  pub exact_type : (raw : RawTy) → Exact (ty_found P tparams raw) (IsRight P tparams raw) (BreaksTy P tparams raw)
  exact_type = raw_ty_induction (λ raw. Exact (ty_found P tparams raw) (IsRight P tparams raw) (BreaksTy P tparams raw)) exact_ty

  pub exact_types : (raws : List RawTy) → Exact (tys_found P tparams raws) (AreRight P tparams raws) (BreaksTys P tparams raws)
  exact_types raws = exact_tys raws (every_raw (λ raw. Exact (ty_found P tparams raw) (IsRight P tparams raw) (BreaksTy P tparams raw)) exact_type raws)
