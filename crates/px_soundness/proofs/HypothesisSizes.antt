-- Under the guard of the hypothesis the sum of the sizes of what is put in for the frame's variables is less than that of the present terms.
use Rattle.std.proofs.Common.{◌≡◌, ◌≢◌, ◌⊎◌, inl, inr, ⊎_elim, ℕ, zero, suc, ◌+◌, ◌<◌, ◌≤◌, List, [], ◌∷◌, map, Some, slice_get, get_or}
use Rattle.std.proofs.Common.{refl, sym, ap, ◌∙◌, subst, arith}
use Rattle.std.specs.Prelude.{sum}
use Rattle.std.specs.List.{All}
use Rattle.std.proofs.lemmas.Option.{none-some, same_Some}
use Rattle.std.proofs.lemmas.List.Sums.{sum_by-cons}
use Rattle.std.proofs.lemmas.List.Elements.{All-head, All-tail, All-nil, All-cons}
use Rattle.px_terms.specs.declared.types.Ty.{Ty}
use Rattle.px_terms.specs.declared.types.Fun.{Fun}
use Rattle.px_terms.specs.declared.term.Term.{Term, out-Term}
use Rattle.px_terms.specs.declared.term.Term.TheOpen.{Term-F}
use Rattle.px_terms.specs.declared.term.Term.TheVariants as term
use Rattle.px_terms.specs.declared.term.Value.{Value, out-Value}
use Rattle.px_terms.specs.declared.term.Value.TheOpen.{Value-F}
use Rattle.px_terms.specs.declared.term.Value.TheVariants as value
use Rattle.px_terms.specs.declared.term.Value.TheFolds.{map-Value, fold_out-Value}
use Rattle.px_terms.specs.declared.program.Program.{Program}
use Rattle.px_terms.specs.declared.sequent.Present.{Present}
use Rattle.px_terms.specs.declared.sequent.Frame.{Frame}
use Rattle.px_terms.specs.Meaning.{MeansOf, MeanAll, Means, none, more}
use Rattle.px_terms.specs.Guards.{IsConSubterm, IsInField, itself, inside, here, later, PutsPart, PutsOther, Guard}
use Rattle.px_totality.proofs.Examples.{variable_means}
use Rattle.px_totality.proofs.Unique.{unique, rests_on, all_rest_on, OfCon, OfMore}
use Rattle.px_soundness.specs.Validity.{value_size_step, value_size, PresentSizes}
use Rattle.px_soundness.specs.Validity as validity

in_sum : (vs : List Value) → All (λ (v : Value). value_size v < 1 + sum (map value_size vs)) vs
in_sum [] = All-nil (λ (v : Value). value_size v < 1 + sum (map value_size []))
in_sum (w ∷ vs) =
    let total : ℕ = 1 + sum (map value_size (w ∷ vs)) in
    let size : sum (map value_size (w ∷ vs)) ≡ value_size w + sum (map value_size vs) = sum_by-cons (λ (n : ℕ). n) (value_size w) (map value_size vs) in
    let first : value_size w < total = omega (arith, size) in
    let rest : All (λ (v : Value). value_size v < total) vs =
    λ i d within. let h : value_size (get_or vs i d) < 1 + sum (map value_size vs) = in_sum vs i d within in omega (arith, h, size) in
    All-cons (λ (v : Value). value_size v < total) w vs first rest

-- a constructor's fields are smaller
fields_are_smaller : (u : Value) (d k : ℕ) (fields : List Value) → u ≡ value.Con d k fields → All (λ (v : Value). value_size v < value_size u) fields
fields_are_smaller u d k fields e =
    let out : out-Value u ≡ Value-F.Con d k fields = ap out-Value e ∙ value.outs-Con d k fields in
    let size : value_size u ≡ 1 + sum (map value_size fields) =
    fold_out-Value ℕ value_size_step u ∙ ap (λ (y : Value-F Value). value_size_step (map-Value Value ℕ value_size y)) out in
    subst (λ (n : ℕ). All (λ (v : Value). value_size v < n) fields) (sym size) (in_sum fields)

-- the value at the place of a term is its value
values_at : (P : Program) (types : List Ty) (funs : List Fun) (rho : List Value) {ts : List Term} {vs : List Value} {c : ℕ} (n : ℕ) (t : Term) →
    MeanAll P types funs rho [] ts vs c → slice_get ts n ≡ Some t → (v : Value) × (a : ℕ) × (slice_get vs n ≡ Some v) × Means P types funs rho t v a
values_at P types funs rho n t none e = absurd (none-some t e)
values_at P types funs rho zero t (more {t = s} {v = v} {a = a} means all total) e =
    (v, a, refl, subst (λ (t : Term). Means P types funs rho t v a) (same_Some s t e) means)
values_at P types funs rho (suc n) t (more means all total) e = values_at P types funs rho n t all e

module _ (Q : Program) (types : List Ty) (funs : List Fun) (rho : List Value) where
  -- The part has a value, which is that of the whole, where it is the whole, or smaller.
  record PartHas (part whole : Term) (u : Value) : Type 0 where
    v : Value
    count : ℕ
    means : Means Q types funs rho part v count
    size : ((part ≡ whole) × (v ≡ u)) ⊎ (value_size v < value_size u)

  -- The part has a value that is smaller.
  record FieldHas (part : Term) (u : Value) : Type 0 where
    v : Value
    count : ℕ
    means : Means Q types funs rho part v count
    size : value_size v < value_size u

  at_most : {part whole : Term} {u : Value} (it : PartHas part whole u) → value_size it.v ≤ value_size u
  at_most {part} {whole} {u} it =
      ⊎_elim (λ is. let same : value_size it.v ≡ value_size u = ap value_size is.1 in omega (arith, same)) (λ less. omega (arith, less)) it.size

  proper : {part whole : Term} {u : Value} (it : PartHas part whole u) → part ≢ whole → value_size it.v < value_size u
  proper it other = ⊎_elim (λ is. absurd (other is.0)) (λ less. less) it.size

  mutual
    part_has : {part whole : Term} → IsConSubterm part whole → (u : Value) (c : ℕ) → Means Q types funs rho whole u c → PartHas part whole u
    part_has itself u c means = record { v = u; count = c; means = means; size = inl (refl, refl) }
    part_has {part} {whole} (inside {d = d} {k = k} {types = ts} {fields = fields} is field) u c means =
        let layer : MeansOf Q types funs rho [] (Term-F.Con d k ts fields) u c = subst (λ (y : Term-F Term). MeansOf Q types funs rho [] y u c) is means in
        let on : OfCon Q types funs rho [] d k fields u c = rests_on Q types funs rho [] (Term-F.Con d k ts fields) u c layer in
        let it : FieldHas part u = field_has field u on.vs c on.all (fields_are_smaller u d k on.vs on.is) in
        record { v = it.v; count = it.count; means = it.means; size = inr it.size }

    field_has : {part : Term} {fields : List Term} → IsInField part fields → (u : Value) (vs : List Value) (c : ℕ) → MeanAll Q types funs rho [] fields vs c →
        All (λ (v : Value). value_size v < value_size u) vs → FieldHas part u
    field_has {part} (here {field = field} {fields = fields} sub) u vs c all smaller =
        let on : OfMore Q types funs rho [] field fields vs c = all_rest_on Q types funs rho [] (field ∷ fields) vs c all in
        let Less : Value → Type 0 = λ (v : Value). value_size v < value_size u in
        let less : value_size on.v < value_size u = All-head Less on.v on.vs (subst (All Less) on.is smaller) in
        let it : PartHas part field on.v = part_has sub on.v on.a on.means in
        let most : value_size it.v ≤ value_size on.v = at_most it in
        record { v = it.v; count = it.count; means = it.means; size = omega (arith, most, less) }
    field_has (later {field = field} {fields = fields} deeper) u vs c all smaller =
        let on : OfMore Q types funs rho [] field fields vs c = all_rest_on Q types funs rho [] (field ∷ fields) vs c all in
        let Less : Value → Type 0 = λ (v : Value). value_size v < value_size u in
        field_has deeper u on.vs on.b on.mean (All-tail Less on.v on.vs (subst (All Less) on.is smaller))

  -- What is put in for the frame's variables has sizes with this sum.
  record SumHas (entries : List Present) (rho2 : List Value) (types2 : List Ty) (funs2 : List Fun) (Fits : ℕ → Type 0) : Type 0 where
    sum : ℕ
    fits : Fits sum
    sizes : PresentSizes Q types2 funs2 rho2 (map (λ (v : ℕ). record { variable = v; term = term.Free v }) (map (λ (p : Present). p.variable) entries)) sum

  module _ (terms : List Term) (rho2 : List Value) (count : ℕ) (mean : MeanAll Q types funs rho [] terms rho2 count) where
    -- what is put in has the value that its variable has
    put_has : (p : Present) (u : Value) (c : ℕ) → Means Q types funs rho p.term u c → PutsPart terms p →
        (v : Value) × (slice_get rho2 p.variable ≡ Some v) × (value_size v ≤ value_size u) × (PutsOther terms p → value_size v < value_size u)
    put_has p u c means puts =
        let it : PartHas puts.by p.term u = part_has puts.part u c means in
        let there = values_at Q types funs rho p.variable puts.by mean puts.put in
        let same : it.v ≡ there.0 = (unique Q types funs rho [] (out-Term puts.by) it.v there.0 it.count there.1 it.means there.3).0 in
        let most : value_size it.v ≤ value_size u = at_most it in
        let less : PutsOther terms p → value_size it.v < value_size u = λ other.
        proper it (λ is. other.other (same_Some other.by puts.by (sym other.put ∙ puts.put) ∙ is)) in
        (it.v, there.2 ∙ ap (λ (v : Value). Some v) (sym same), most, less)

    no_more : (entries : List Present) (size : ℕ) → PresentSizes Q types funs rho entries size → All (PutsPart terms) entries → (types2 : List Ty)
        (funs2 : List Fun) → SumHas entries rho2 types2 funs2 (λ (m : ℕ). m ≤ size)
    no_more _ size validity.none parts types2 funs2 = record { sum = 0; fits = omega arith; sizes = validity.none }
    no_more _ size (validity.more {p = p} {ps = ps} {v = u} {c = c} {n = n} means rest total) parts types2 funs2 =
        let here = put_has p u c means (All-head (PutsPart terms) p ps parts) in
        let there : SumHas ps rho2 types2 funs2 (λ (m : ℕ). m ≤ n) = no_more ps n rest (All-tail (PutsPart terms) p ps parts) types2 funs2 in
        let one : value_size here.0 ≤ value_size u = here.2 in
        let others : there.sum ≤ n = there.fits in
        record {
          sum = value_size here.0 + there.sum;
          fits = omega (arith, total, one, others);
          sizes = validity.more (variable_means Q types2 funs2 rho2 p.variable here.0 here.1) there.sizes refl;
        }

    less : (entries : List Present) (size number : ℕ) (entry : Present) → PresentSizes Q types funs rho entries size → All (PutsPart terms) entries →
        slice_get entries number ≡ Some entry → PutsOther terms entry → (types2 : List Ty) (funs2 : List Fun) →
        SumHas entries rho2 types2 funs2 (λ (m : ℕ). m < size)
    less _ size number entry validity.none parts at other types2 funs2 = absurd (none-some entry at)
    less _ size zero entry (validity.more {p = p} {ps = ps} {v = u} {c = c} {n = n} means rest total) parts at other types2 funs2 =
        let here = put_has p u c means (All-head (PutsPart terms) p ps parts) in
        let there : SumHas ps rho2 types2 funs2 (λ (m : ℕ). m ≤ n) = no_more ps n rest (All-tail (PutsPart terms) p ps parts) types2 funs2 in
        let one : value_size here.0 < value_size u = here.3 (subst (PutsOther terms) (sym (same_Some p entry at)) other) in
        let others : there.sum ≤ n = there.fits in
        record {
          sum = value_size here.0 + there.sum;
          fits = omega (arith, total, one, others);
          sizes = validity.more (variable_means Q types2 funs2 rho2 p.variable here.0 here.1) there.sizes refl;
        }
    less _ size (suc number) entry (validity.more {p = p} {ps = ps} {v = u} {c = c} {n = n} means rest total) parts at other types2 funs2 =
        let here = put_has p u c means (All-head (PutsPart terms) p ps parts) in
        let there : SumHas ps rho2 types2 funs2 (λ (m : ℕ). m < n) =
        less ps n number entry rest (All-tail (PutsPart terms) p ps parts) at other types2 funs2 in
        let one : value_size here.0 ≤ value_size u = here.2 in
        let others : there.sum < n = there.fits in
        record {
          sum = value_size here.0 + there.sum;
          fits = omega (arith, total, one, others);
          sizes = validity.more (variable_means Q types2 funs2 rho2 p.variable here.0 here.1) there.sizes refl;
        }

-- Values of the hypothesis' variables, with a smaller sum of the sizes at the frame's variables.
pub record Falls (Q : Program) (on : List ℕ) (types : List Ty) (funs : List Fun) (rho : List Value) (size : ℕ) : Type 0 where
  pub sum : ℕ
  pub less : sum < size
  pub sizes : PresentSizes Q types funs rho (map (λ (v : ℕ). record { variable = v; term = term.Free v }) on) sum

-- under the guard the sum falls
pub sizes_fall : (Q : Program) (types : List Ty) (funs : List Fun) (rho : List Value) (frame : Frame) (on : List ℕ) (terms : List Term) (rho2 : List Value)
    (count size : ℕ) → map (λ (p : Present). p.variable) frame.entries ≡ on → Guard frame terms → MeanAll Q types funs rho [] terms rho2 count →
    PresentSizes Q types funs rho frame.entries size → (types2 : List Ty) (funs2 : List Fun) → Falls Q on types2 funs2 rho2 size
sizes_fall Q types funs rho frame on terms rho2 count size are guard mean sizes types2 funs2 =
    let it : SumHas Q types funs rho frame.entries rho2 types2 funs2 (λ (m : ℕ). m < size) =
    less Q types funs rho terms rho2 count mean frame.entries size guard.number guard.entry sizes guard.parts guard.stands guard.proper types2 funs2 in
    record {
      sum = it.sum;
      less = it.fits;
      sizes =
          subst (λ (on : List ℕ). PresentSizes Q types2 funs2 rho2 (map (λ (v : ℕ). record { variable = v; term = term.Free v }) on) it.sum) are
          it.sizes;
    }
