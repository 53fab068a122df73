-- What is claimed of a definition so far is what is declared of it: its own properties, and then those of the claims.
use Rattle.std.proofs.Common.{◌≡◌, ℕ, zero, suc, ◌<◌, Bool, true, false, List, [], ◌∷◌, ◌++◌, length, length-append, get_or, Some, None, refl, sym, ap, ◌∙◌, subst, arith, append-nil, append_assoc}
use Rattle.std.specs.Prelude.{All, ◌==◌}
use Rattle.std.specs.List.{slice_get, flat_map}
use Rattle.std.specs.Option.{unwrap_or}
use Rattle.std.proofs.Math.ListN.{set}
use Rattle.std.proofs.lemmas.Bool.{ne_eqb, eqb-true, eqb-false}
use Rattle.std.proofs.lemmas.List.{map-append, get_or-set_same, get_or-set_other}
use Rattle.std.proofs.lemmas.Grind.{flat_map-append}
use Rattle.std.proofs.lemmas.Option.{slice_get_within, unwrap_or-slice_get}
use Rattle.std.proofs.lemmas.List.Elements.{All-nil, All-head, All-tail, All-push, All-set, All-weaker, All-get_or}
use Rattle.px_base.specs.declared.prop.Prop.{Prop}
use Rattle.px_base.specs.declared.raw.RawProp.{RawProp}
use Rattle.px_base.specs.declared.raw.RawDef.{RawDef}
use Rattle.px_base.specs.declared.raw.RawClaim.{RawClaim}
use Rattle.px_base.specs.declared.raw.RawProgram.{RawProgram}
use Rattle.px_base.specs.Distinct.{AreDistinct}
use Rattle.px_base.specs.Fitting.{AreProperties, claimed_of as claimed_by_one, properties_of}
use Rattle.px_parser.specs.declared.surface.Item.{Item}
use Rattle.px_parser.specs.declared.surface.Item.TheVariants as items
use Rattle.px_parser.specs.declared.surface.SClaim.{SClaim}
use Rattle.px_parser.specs.declared.surface.SDef.{SDef}
use Rattle.px_scope.specs.declared.globals.Meaning.TheVariants as meaning
use Rattle.px_scope.specs.declared.globals.Globals.{Globals}
use Rattle.px_scope.specs.Standing.{meaning_of, built_in}
use Rattle.px_scope.specs.Names.{number_of}
use Rattle.px_scope.specs.Rules.{new_lower_fault, claim_fault}
use Rattle.px_scope.specs.Uses.{first_broken, type_uses, properties_uses, Data, expr_uses}
use Rattle.px_scope.specs.ItemUses.{heading_uses, claimed_by, item_uses}
use Rattle.px_scope.specs.Declaring.{props_of, claimed_of, with_definition, with_claims_of, type_locals, body_locals, after}
use Rattle.px_scope.specs.Programs.{IsNext, IsDefinition, IsClaim, start}
use Rattle.px_scope.proofs.FineParts.{fine_front, fine_back, after_first}
use Rattle.px_scope.proofs.DistinctProperties.{distinct_properties}
use Rattle.px_scope.proofs.FittingTerms.{IsDefined, all_found}
use Rattle.px_scope.proofs.FittingDeclarations.{IsMeaningOf, Agrees}

-- What is claimed of each definition is what is declared of it, no property twice; and each claim is of a definition.
pub record AreClaimed (G : Globals) (P : RawProgram) : Type 0 where
  pub known : (n : ℕ) (raw : RawDef) → slice_get P.defs n ≡ Some raw → claimed_of G n ≡ props_of (properties_of P n raw)
  pub distinct : All AreDistinct G.claimed
  pub below : All (λ (c : RawClaim). c.def < length P.defs) P.claims

-- no property is claimed of a definition that is not declared yet
none_claimed : (n : ℕ) (claims : List RawClaim) → All (λ (c : RawClaim). c.def < n) claims → flat_map (claimed_by_one n) claims ≡ []
none_claimed n [] below = refl
none_claimed n (c ∷ claims) below =
    let here : c.def < n = All-head (λ (x : RawClaim). x.def < n) c claims below in
    let other : (c.def == n) ≡ false = ne_eqb c.def n (λ same. absurd (omega arith)) in
    rw (other, none_claimed n claims (All-tail (λ (x : RawClaim). x.def < n) c claims below)) refl

-- one definition more
known_push : (xs : List RawDef) (cs : List (List Prop)) (x : RawDef) (c : List Prop) (F : ℕ → RawDef → List Prop) → length cs ≡ length xs →
    ((n : ℕ) (raw : RawDef) → slice_get xs n ≡ Some raw → unwrap_or (slice_get cs n) [] ≡ F n raw) → c ≡ F (length xs) x →
    (n : ℕ) (raw : RawDef) → slice_get (xs ++ x ∷ []) n ≡ Some raw → unwrap_or (slice_get (cs ++ c ∷ []) n) [] ≡ F n raw
known_push [] [] x c F same all one zero raw found = let first : x ≡ raw = cc in one ∙ ap (F 0) first
known_push [] [] x c F same all one (suc n) raw found = absurd cc
known_push [] (b ∷ cs) x c F same all one n raw found = absurd (omega arith)
known_push (a ∷ xs) [] x c F same all one n raw found = absurd (omega arith)
known_push (a ∷ xs) (b ∷ cs) x c F same all one zero raw found = all 0 raw found
known_push (a ∷ xs) (b ∷ cs) x c F same all one (suc n) raw found = known_push xs cs x c (λ m. F (suc m)) (omega arith) (λ m. all (suc m)) one n raw found

-- all properties of a definition with those of one claim more
properties_push : (P : RawProgram) (n : ℕ) (raw : RawDef) (c : RawClaim) →
    raw.props ++ flat_map (claimed_by_one n) (P.claims ++ c ∷ []) ≡ properties_of P n raw ++ claimed_by_one n c
properties_push P n raw c =
    let flat : flat_map (claimed_by_one n) (P.claims ++ c ∷ []) ≡ flat_map (claimed_by_one n) P.claims ++ claimed_by_one n c =
    flat_map-append (claimed_by_one n) P.claims (c ∷ []) ∙ ap (λ ps. flat_map (claimed_by_one n) P.claims ++ ps) (append-nil (claimed_by_one n c)) in
    ap (λ ps. raw.props ++ ps) flat ∙ sym (append_assoc raw.props (flat_map (claimed_by_one n) P.claims) (claimed_by_one n c))

-- what is claimed is a list without equal properties
claimed_distinct : (G : Globals) → All AreDistinct G.claimed → (n : ℕ) → n < length G.claimed → AreDistinct (claimed_of G n)
claimed_distinct G all n within = subst AreDistinct (sym (unwrap_or-slice_get G.claimed n [])) (All-get_or AreDistinct G.claimed n [] within all)

module _ (G : Globals) (P : RawProgram) (claimed : AreClaimed G P) (same : length G.claimed ≡ length P.defs) (raw : RawClaim) (number : ℕ)
    (props : List RawProp) (of : raw.def ≡ number) (own : raw.props ≡ props) (n : ℕ) (x : RawDef) (found : slice_get P.defs n ≡ Some x) where
  abbrev with_more : List (List Prop)
  with_more = set G.claimed number (claimed_of G number ++ props_of props)

  added : number ≡ n → unwrap_or (slice_get with_more n) [] ≡ claimed_of G n ++ props_of props
  added is =
      let within : n < length P.defs = slice_get_within P.defs n x found in
      unwrap_or-slice_get with_more n []
      ∙ ap (λ k. get_or with_more k []) (sym is)
      ∙ get_or-set_same G.claimed number (claimed_of G number ++ props_of props) [] (omega arith)
      ∙ ap (λ k. claimed_of G k ++ props_of props) is

  kept : (n ≡ number → ⊥) → unwrap_or (slice_get with_more n) [] ≡ claimed_of G n
  kept other =
      unwrap_or-slice_get with_more n []
      ∙ get_or-set_other G.claimed number n (claimed_of G number ++ props_of props) [] other
      ∙ sym (unwrap_or-slice_get G.claimed n [])

  -- what is claimed after one claim more is what is declared
  known_after : unwrap_or (slice_get with_more n) [] ≡ props_of (x.props ++ flat_map (claimed_by_one n) (P.claims ++ raw ∷ []))
  known_after = at_test (raw.def == n) refl
    where
      declared : (ps : List RawProp) → claimed_by_one n raw ≡ ps → props_of (properties_of P n x ++ ps) ≡ props_of (x.props ++ flat_map (claimed_by_one n) (P.claims ++ raw ∷ []))
      declared ps is = ap props_of (ap (λ qs. properties_of P n x ++ qs) (sym is) ∙ sym (properties_push P n x raw))

      at_test : (b : Bool) → (raw.def == n) ≡ b → unwrap_or (slice_get with_more n) [] ≡ props_of (x.props ++ flat_map (claimed_by_one n) (P.claims ++ raw ∷ []))
      at_test true test =
          let is : number ≡ n = sym of ∙ eqb-true raw.def n test in
          let one : claimed_by_one n raw ≡ props = rw test own in
          added is ∙ ap (λ ps. ps ++ props_of props) (claimed.known n x found)
          ∙ sym (map-append (λ (p : RawProp). p.prop) (properties_of P n x) props)
          ∙ declared props one
      at_test false test =
          let other : n ≡ number → ⊥ = λ e. eqb-false raw.def n test (of ∙ sym e) in
          let one : claimed_by_one n raw ≡ [] = rw test refl in
          kept other ∙ claimed.known n x found ∙ ap props_of (sym (append-nil (properties_of P n x))) ∙ declared [] one

module _ (text : List Item) (G : Globals) (P : RawProgram) (agrees : Agrees G P) (claimed : AreClaimed G P) where
  -- a definition more
  definition_claimed : (d : SDef) (raw : RawDef) → IsDefinition G d raw → first_broken (item_uses text G (items.Definition d)) ≡ None →
      AreClaimed (after G (items.Definition d)) (record P { defs = P.defs ++ raw ∷ [] })
  definition_claimed d raw is fine =
      let head = heading_uses text G d.tparams d.params in
      let result = type_uses text G (type_locals d.tparams) d.result in
      let props = properties_uses [] d.props in
      let body = expr_uses text (with_definition G d) d.body Data (body_locals (length G.claimed) d) in
      let all_fine = after_first d.name (new_lower_fault G d.name.text) (head ++ (result ++ (props ++ body))) fine in
      let props_fine = fine_front props body (fine_back result (props ++ body) (fine_back head (result ++ (props ++ body)) all_fine)) in
      let own : raw.props ≡ d.props = ap (λ (x : RawDef). x.props) is.is in
      let none = none_claimed (length P.defs) P.claims claimed.below in
      let new : props_of d.props ≡ props_of (properties_of P (length P.defs) raw) = ap props_of (rw (own, none) (sym (append-nil d.props))) in
      record {
        known = known_push P.defs G.claimed raw (props_of d.props) (λ n x. props_of (properties_of P n x)) agrees.definitions claimed.known new;
        distinct = All-push AreDistinct G.claimed (props_of d.props) claimed.distinct (distinct_properties [] d.props props_fine AreDistinct.none);
        below = All-weaker (λ (c : RawClaim). c.def < length P.defs) (λ (c : RawClaim). c.def < length (P.defs ++ raw ∷ [])) (λ c below. omega (arith, length-append P.defs (raw ∷ []))) P.claims claimed.below;
      }

  -- a claim more
  claim_claimed : (c : SClaim) (raw : RawClaim) → IsClaim G c raw → first_broken (item_uses text G (items.Claim c)) ≡ None →
      AreClaimed (after G (items.Claim c)) (record P { claims = P.claims ++ raw ∷ [] })
  claim_claimed c raw is fine =
      let number = is.number in
      let more = claimed_of G number ++ props_of c.props in
      let H : Globals = record G { claimed = set G.claimed number more } in
      let same : after G (items.Claim c) ≡ H = ap (λ m. with_claims_of G m (props_of c.props)) is.stands in
      let stands : IsDefined P number is.functions =
      all_found (IsMeaningOf P) G.meanings (number_of G.lowers c.name.text) (meaning.Definition number is.functions) agrees.meanings is.stands in
      let below : number < length P.defs = slice_get_within P.defs number stands.declared stands.stands in
      let within : number < length G.claimed = omega (arith, agrees.definitions) in
      let before = ap (λ m. first_broken (properties_uses (claimed_by G m) c.props)) (sym is.stands) in
      let props_fine : first_broken (properties_uses (claimed_of G number) c.props) ≡ None =
      before ∙ after_first c.name (claim_fault text G c.name.text) (properties_uses (claimed_by G (meaning_of G c.name.text)) c.props) fine in
      let of : raw.def ≡ number = ap (λ (x : RawClaim). x.def) is.is in
      let props : raw.props ≡ c.props = ap (λ (x : RawClaim). x.props) is.is in
      subst (λ J. AreClaimed J (record P { claims = P.claims ++ raw ∷ [] })) (sym same) (record {
        known = known_after G P claimed agrees.definitions raw number c.props of props;
        distinct = All-set AreDistinct G.claimed number more (distinct_properties (claimed_of G number) c.props props_fine (claimed_distinct G claimed.distinct number within)) claimed.distinct;
        below = All-push (λ (y : RawClaim). y.def < length P.defs) P.claims raw claimed.below (omega arith);
      })

  -- a declaration more
  pub next_claimed : {item : Item} {Q : RawProgram} → IsNext G P item Q → first_broken (item_uses text G item) ≡ None → AreClaimed (after G item) Q
  next_claimed (IsNext.datatype {d = d} is e) fine =
      subst (AreClaimed (after G (items.Datatype d))) (sym e) (record { known = claimed.known; distinct = claimed.distinct; below = claimed.below })
  next_claimed (IsNext.definition {d = d} {raw = raw} is e) fine =
      let more = definition_claimed d raw is fine in
      subst (AreClaimed (after G (items.Definition d))) (sym e) (record { known = more.known; distinct = more.distinct; below = more.below })
  next_claimed (IsNext.claim {c = c} {raw = raw} is e) fine =
      let more = claim_claimed c raw is fine in
      subst (AreClaimed (after G (items.Claim c))) (sym e) (record { known = more.known; distinct = more.distinct; below = more.below })
  next_claimed (IsNext.lemma {l = l} is e) fine =
      subst (AreClaimed (after G (items.Lemma l))) (sym e) (record { known = claimed.known; distinct = claimed.distinct; below = claimed.below })
  next_claimed (IsNext.replica {r = r} is e) fine =
      subst (AreClaimed (after G (items.Replica r))) (sym e) (record { known = claimed.known; distinct = claimed.distinct; below = claimed.below })

-- nothing is claimed before the first declaration
pub first_claimed : AreClaimed built_in start
first_claimed = record { known = λ n raw found. absurd cc; distinct = All-nil AreDistinct; below = All-nil (λ (c : RawClaim). c.def < 0) }

-- no property is declared twice of a definition
pub properties_once : (G : Globals) (P : RawProgram) → length G.claimed ≡ length P.defs → AreClaimed G P → (n : ℕ) (raw : RawDef) →
    slice_get P.defs n ≡ Some raw → AreProperties (properties_of P n raw)
properties_once G P same claimed n raw found =
    let within : n < length P.defs = slice_get_within P.defs n raw found in
    subst AreDistinct (claimed.known n raw found) (claimed_distinct G claimed.distinct n (omega arith))
