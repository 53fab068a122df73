-- How many obligations, definitions and lemmas there are of the declarations so far: few enough to be numbered.
use Rattle.std.proofs.Common.{◌≡◌, ℕ, suc, ◌+◌, ◌<◌, ◌≤◌, ◌^◌, List, [], ◌∷◌, ◌++◌, length, map, take, get_or, Option, Some, None, Result, Ok, Err, refl, ◌∙◌}
use Rattle.std.proofs.Common.{ap, subst, arith, length-append}
use Rattle.std.specs.Prelude.{sum, slice_get}
use Rattle.std.proofs.lemmas.List.{take_all, map_more}
use Rattle.std.proofs.lemmas.List.Sums.{sum_by-cons, sum_by-append}
use Rattle.std.proofs.lemmas.Option.{slice_get_within, get_or_from_slice_get}
use Rattle.px_base.specs.declared.raw.Decl.{Decl}
use Rattle.px_base.specs.declared.raw.Decl.TheVariants as decl
use Rattle.px_base.specs.declared.raw.RawProp.{RawProp}
use Rattle.px_base.specs.declared.raw.RawData.{RawData}
use Rattle.px_base.specs.declared.raw.RawDef.{RawDef}
use Rattle.px_base.specs.declared.raw.RawClaim.{RawClaim}
use Rattle.px_base.specs.declared.raw.RawLemma.{RawLemma}
use Rattle.px_base.specs.declared.raw.RawReplica.{RawReplica}
use Rattle.px_base.specs.declared.raw.RawProgram.{RawProgram}
use Rattle.px_base.specs.Fitting.{Counts, bool_alone, AreInOrder, AreAll, IsFitting, def_props, claim_props, obligation_count}
use Rattle.px_base.specs.Fitting as fitting
use Rattle.px_terms.specs.declared.program.Def as definition
use Rattle.px_terms.specs.declared.program.Declared.{Declared}
use Rattle.px_terms.specs.declared.program.Declared.TheVariants as declared
use Rattle.px_terms.specs.declared.program.Program.{Program}
use Rattle.px_types.specs.Faults.{Broken}
use Rattle.px_types.specs.Outcomes.{onward}
use Rattle.px_types.specs.Declarations.{start, with_obligations, obligations_of}
use Rattle.px_types.specs.NextOutcome.{datatype_found, body_found, equations_found, merge_found, terms_found, types_found, next_found}
use Rattle.px_types.specs.Checkings.{AreFew}

-- what follows from what comes behind a stage
ends_at : {S T : Type 0} (o : Result S Broken) (f : S → Result T Broken) (y : T) (R : Type 0) → ((x : S) → f x ≡ Ok y → R) → onward o f ≡ Ok y → R
unfolding onward
ends_at (Ok x) f y R follows e = follows x e
ends_at (Err b) f y R follows e = absurd cc

-- what holds of a value holds of the one that it is
at_ok : {T : Type 0} (Q : T → Type 0) (x y : T) → Q x → ◌≡◌ {A = Result T Broken} (Ok x) (Ok y) → Q y
at_ok {T} Q x y here e = let same : x ≡ y = cc in subst Q same here

-- The one program has so many obligations more than the other, and at most one definition and one lemma more.
record Grown (P : Program) (more : ℕ) (Q : Program) : Type 0 where
  declared : length Q.declared ≡ length P.declared + more
  defs : length Q.defs ≤ length P.defs + 1
  lemmas : length Q.lemmas ≤ length P.lemmas + 1

same_grown : (P Q : Program) → Q.declared ≡ P.declared → Q.defs ≡ P.defs → Q.lemmas ≡ P.lemmas → Grown P 0 Q
same_grown P Q e f g =
    let d : length Q.declared ≡ length P.declared = ap (λ (xs : List Declared). length xs) e in
    let n : length Q.defs ≡ length P.defs = ap (λ (xs : List definition.Def). length xs) f in
    let l : length Q.lemmas ≡ length P.lemmas = ap length g in
    record { declared = omega arith; defs = omega arith; lemmas = omega arith }

count_obligations : (n : ℕ) (props : List RawProp) → length (obligations_of n props) ≡ length props
count_obligations n [] = refl
count_obligations n (p ∷ props) = ap suc (count_obligations n props)

-- how many obligations these properties are, and these lemmas
abbrev props_in : Option RawDef → ℕ
props_in None = 0
props_in (Some d) = length d.props

abbrev claims_in : Option RawClaim → ℕ
claims_in None = 0
claims_in (Some c) = length c.props

abbrev lemmas_in : Option RawLemma → ℕ
lemmas_in None = 0
lemmas_in (Some l) = 1

-- how many obligations a declaration adds
abbrev pub added : RawProgram → Decl → ℕ
added raw (decl.Datatype n) = 0
added raw (decl.Definition n) = props_in (slice_get raw.defs n)
added raw (decl.Claim n) = claims_in (slice_get raw.claims n)
added raw (decl.Lemma n) = lemmas_in (slice_get raw.lemmas n)
added raw (decl.Replica n) = 0

module _ (P Q : Program) where
  datatype_grows : (d : RawData) → datatype_found P d ≡ Ok Q → Grown P 0 Q
  unfolding datatype_found
  datatype_grows d = ends_at _ _ Q (Grown P 0 Q) (λ cons. at_ok (Grown P 0) _ Q (same_grown P _ refl refl refl))

  body_grows : (d : RawDef) → body_found P d ≡ Ok Q → Grown P (length d.props) Q
  unfolding body_found
  body_grows d =
      ends_at _ _ Q (Grown P (length d.props) Q) (λ D. ends_at _ _ Q (Grown P (length d.props) Q) (λ body. at_ok (Grown P (length d.props)) _ Q (record {
        declared =
            length-append P.declared (obligations_of (length P.defs) d.props) ∙ ap (λ (k : ℕ). length P.declared + k)
            (count_obligations (length P.defs) d.props);
        defs = omega (arith, length-append P.defs (record D { body = body } ∷ []));
        lemmas = omega arith;
      })))

  claim_grows : (n : ℕ) (props : List RawProp) → ◌≡◌ {A = Result Program Broken} (Ok (with_obligations P (obligations_of n props))) (Ok Q) →
      Grown P (length props) Q
  claim_grows n props = at_ok (Grown P (length props)) _ Q (record {
    declared = length-append P.declared (obligations_of n props) ∙ ap (λ (k : ℕ). length P.declared + k) (count_obligations n props);
    defs = omega arith;
    lemmas = omega arith;
  })

  lemma_grows : (l : RawLemma) → equations_found P l ≡ Ok Q → Grown P 1 Q
  unfolding equations_found
  lemma_grows l =
      ends_at _ _ Q (Grown P 1 Q) (λ heading. ends_at _ _ Q (Grown P 1 Q) (λ premises. ends_at _ _ Q (Grown P 1 Q)
      (λ conclusion. at_ok (Grown P 1) _ Q (record {
        declared = length-append P.declared (declared.Lemma (length P.lemmas) ∷ []);
        defs = omega arith;
        lemmas =
            omega (
              arith,
              length-append P.lemmas (record {
                tparams = l.tparams;
                funs = heading.funs;
                vars = heading.vars;
                premises = premises;
                conclusion =
                    conclusion;
              } ∷ []),
            );
      }))))

  replica_grows : (r : RawReplica) → merge_found P r ≡ Ok Q → Grown P 0 Q
  unfolding merge_found
  replica_grows r =
      ends_at _ _ Q (Grown P 0 Q) (λ state. ends_at _ _ Q (Grown P 0 Q) (λ from. ends_at _ _ Q (Grown P 0 Q)
      (λ done. ends_at _ _ Q (Grown P 0 Q) (λ types. ends_at _ _ Q (Grown P 0 Q) (λ s. ends_at _ _ Q (Grown P 0 Q)
      (λ funs. ends_at _ _ Q (Grown P 0 Q) (λ joins. at_ok (Grown P 0) _ Q (same_grown P _ refl refl refl))))))))

  nothing_grows : ◌≡◌ {A = Result Program Broken} (Ok P) (Ok Q) → Grown P 0 Q
  nothing_grows = at_ok (Grown P 0) P Q (same_grown P P refl refl refl)

  datatype_at : (o : Option RawData) → elim o as (λ _. Result Program Broken) [ None ↦ Ok P | Some d ↦ datatype_found P d ] ≡ Ok Q → Grown P 0 Q
  datatype_at None e = nothing_grows e
  datatype_at (Some d) e = datatype_grows d e

  definition_at : (o : Option RawDef) → elim o as (λ _. Result Program Broken) [ None ↦ Ok P | Some d ↦ body_found P d ] ≡ Ok Q → Grown P (props_in o) Q
  definition_at None e = nothing_grows e
  definition_at (Some d) e = body_grows d e

  claim_at : (o : Option RawClaim) → elim o as (λ _. Result Program Broken) [ None ↦ Ok P | Some c ↦ Ok (with_obligations P (obligations_of c.def c.props)) ] ≡
      Ok Q → Grown P (claims_in o) Q
  claim_at None e = nothing_grows e
  claim_at (Some c) e = claim_grows c.def c.props e

  lemma_at : (o : Option RawLemma) → elim o as (λ _. Result Program Broken) [ None ↦ Ok P | Some l ↦ equations_found P l ] ≡ Ok Q → Grown P (lemmas_in o) Q
  lemma_at None e = nothing_grows e
  lemma_at (Some l) e = lemma_grows l e

  replica_at : (o : Option RawReplica) → elim o as (λ _. Result Program Broken) [ None ↦ Ok P | Some r ↦ merge_found P r ] ≡ Ok Q → Grown P 0 Q
  replica_at None e = nothing_grows e
  replica_at (Some r) e = replica_grows r e

  terms_grow : (raw : RawProgram) (d : Decl) → terms_found raw P d ≡ Ok Q → Grown P (added raw d) Q
  unfolding terms_found
  terms_grow raw (decl.Datatype n) e = datatype_at (slice_get raw.datatypes n) e
  terms_grow raw (decl.Definition n) e = definition_at (slice_get raw.defs n) e
  terms_grow raw (decl.Claim n) e = claim_at (slice_get raw.claims n) e
  terms_grow raw (decl.Lemma n) e = lemma_at (slice_get raw.lemmas n) e
  terms_grow raw (decl.Replica n) e = replica_at (slice_get raw.replicas n) e

  next_grows : (raw : RawProgram) (d : Decl) → next_found raw P d ≡ Ok Q → Grown P (added raw d) Q
  unfolding next_found
  next_grows raw d = ends_at (types_found raw P d) (λ (_ : Unit {0}). terms_found raw P d) Q (Grown P (added raw d) Q) (λ done. terms_grow raw d)

-- one item more of a list that is summed up
sum-cons : {X : Type 0} (f : X → ℕ) (x : X) (xs : List X) → sum (map f (x ∷ xs)) ≡ f x + sum (map f xs)
sum-cons f x xs = sum_by-cons (λ n. n) (f x) (map f xs)

sum_more : {X : Type 0} (f : X → ℕ) (xs : List X) (n : ℕ) (x : X) → slice_get xs n ≡ Some x → sum (map f (take (n + 1) xs)) ≡ sum (map f (take n xs)) + f x
sum_more f xs n x at =
    let below : n < length xs = slice_get_within xs n x at in
    let item : get_or xs n x ≡ x = get_or_from_slice_get xs n x x at in
    let last : sum (f x ∷ []) ≡ f x + 0 = sum_by-cons (λ k. k) (f x) [] in
    let both : sum (map f (take n xs) ++ f x ∷ []) ≡ sum (map f (take n xs)) + sum (f x ∷ []) = sum_by-append (λ k. k) (map f (take n xs)) (f x ∷ []) in
    ap sum (map_more f xs n x below ∙ ap (λ y. map f (take n xs) ++ f y ∷ []) item) ∙ omega (arith, both, last)

-- the obligations of the declarations before a place, and of those from it on
abbrev counted : RawProgram → Counts → List Decl → ℕ
counted raw C rest = def_props (take C.defs raw.defs) + claim_props (take C.claims raw.claims) + C.lemmas + sum (map (added raw) rest)

in_order : (raw : RawProgram) (C : Counts) (rest : List Decl) → AreInOrder raw C rest → counted raw C rest ≡ obligation_count raw
in_order raw C _ (fitting.done all) =
    let d : take C.defs raw.defs ≡ raw.defs = take_all C.defs raw.defs (omega (arith, all.defs)) in
    let c : take C.claims raw.claims ≡ raw.claims = take_all C.claims raw.claims (omega (arith, all.claims)) in
    omega (arith, ap def_props d, ap claim_props c, all.lemmas)
in_order raw C _ (fitting.datatype {n = n} {rest = rest} same at is others) =
    omega (arith, in_order raw _ rest others, sum-cons (added raw) (decl.Datatype n) rest)
in_order raw C _ (fitting.definition {n = n} {raw = d} {rest = rest} same at is others) =
    let more : def_props (take (C.defs + 1) raw.defs) ≡ def_props (take C.defs raw.defs) + length d.props = sum_more (λ (e : RawDef). length e.props) raw.defs
    C.defs d (rw same at at) in
    let here : added raw (decl.Definition n) ≡ length d.props = ap props_in at in
    omega (arith, in_order raw _ rest others, sum-cons (added raw) (decl.Definition n) rest, more, here)
in_order raw C _ (fitting.claim {n = n} {raw = c} {rest = rest} same at is others) =
    let more : claim_props (take (C.claims + 1) raw.claims) ≡ claim_props (take C.claims raw.claims) + length c.props = sum_more
    (λ (e : RawClaim). length e.props) raw.claims C.claims c (rw same at at) in
    let here : added raw (decl.Claim n) ≡ length c.props = ap claims_in at in
    omega (arith, in_order raw _ rest others, sum-cons (added raw) (decl.Claim n) rest, more, here)
in_order raw C _ (fitting.lemma {n = n} {rest = rest} same at is others) =
    let here : added raw (decl.Lemma n) ≡ 1 = ap lemmas_in at in
    omega (arith, in_order raw _ rest others, sum-cons (added raw) (decl.Lemma n) rest, here)
in_order raw C _ (fitting.replica {n = n} {rest = rest} same at is others) =
    omega (arith, in_order raw _ rest others, sum-cons (added raw) (decl.Replica n) rest)

-- What is there, and what is still to come, can be numbered.
pub record HasRoom (raw : RawProgram) (P : Program) (rest : List Decl) : Type 0 where
  pub obligations : length P.declared + sum (map (added raw) rest) ≤ obligation_count raw
  pub definitions : length P.defs + length rest ≤ length raw.order
  pub lemmas : length P.lemmas + length rest ≤ length raw.order

module _ (raw : RawProgram) (fits : IsFitting raw) where
  pub room_start : HasRoom raw start raw.order
  room_start = record {
    obligations = omega (arith, in_order raw bool_alone raw.order fits.order);
    definitions = omega arith;
    lemmas = omega arith;
  }

  pub room_next : (P Q : Program) (d : Decl) (rest : List Decl) → HasRoom raw P (d ∷ rest) → next_found raw P d ≡ Ok Q → HasRoom raw Q rest
  room_next P Q d rest room is =
      let grown = next_grows P Q raw d is in
      let more : length Q.declared ≡ length P.declared + added raw d = grown.declared in
      let one : length Q.defs ≤ length P.defs + 1 = grown.defs in
      let two : length Q.lemmas ≤ length P.lemmas + 1 = grown.lemmas in
      let obligations : length P.declared + sum (map (added raw) (d ∷ rest)) ≤ obligation_count raw = room.obligations in
      let definitions : length P.defs + length (d ∷ rest) ≤ length raw.order = room.definitions in
      let lemmas : length P.lemmas + length (d ∷ rest) ≤ length raw.order = room.lemmas in
      record {
        obligations = omega (arith, sum-cons (added raw) d rest);
        definitions = omega arith;
        lemmas = omega arith;
      }

  pub few : (P : Program) (rest : List Decl) → HasRoom raw P rest → AreFew P
  few P rest room =
      let short : length raw.order < 2 ^ 32 = fits.short.order in
      let count : obligation_count raw < 2 ^ 32 = fits.few in
      let obligations : length P.declared + sum (map (added raw) rest) ≤ obligation_count raw = room.obligations in
      let definitions : length P.defs + length rest ≤ length raw.order = room.definitions in
      let lemmas : length P.lemmas + length rest ≤ length raw.order = room.lemmas in
      record { declared = omega arith; defs = omega arith; lemmas = omega arith }
