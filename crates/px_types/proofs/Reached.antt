-- What the declarations so far have made: a typed program, with as many parts as the written declarations tell.
use Rattle.std.proofs.Common.{◌≡◌, ℕ, suc, ◌+◌, ◌<◌, ◌≤◌, ◌^◌, List, [], ◌∷◌, ◌++◌, length, map, drop, Some, refl, sym, ◌∙◌, ap, subst, arith}
use Rattle.std.proofs.Common.{add-one, zero-add, lit<}
use Rattle.std.specs.Prelude.{slice_get, sum}
use Rattle.std.proofs.lemmas.List.{length-append, append-nil}
use Rattle.std.proofs.lemmas.List.Sums.{sum_by-cons}
use Rattle.std.proofs.lemmas.Option.{slice_get_within}
use Rattle.px_base.specs.declared.names.Names.{Names}
use Rattle.px_base.specs.declared.raw.Decl.{Decl}
use Rattle.px_base.specs.declared.raw.RawProp.{RawProp}
use Rattle.px_base.specs.declared.raw.RawFnType.{RawFnType}
use Rattle.px_base.specs.declared.raw.RawCon.{RawCon}
use Rattle.px_base.specs.declared.raw.RawData.{RawData}
use Rattle.px_base.specs.declared.raw.RawDef.{RawDef}
use Rattle.px_base.specs.declared.raw.RawClaim.{RawClaim}
use Rattle.px_base.specs.declared.raw.RawLemma.{RawLemma}
use Rattle.px_base.specs.declared.raw.RawProgram.{RawProgram}
use Rattle.px_base.specs.Fitting.{Counts, IsShort, IsDataIn, IsDefIn, IsClaimIn, IsLemmaIn, AreInOrder, bool_alone, def_props, claim_props}
use Rattle.px_base.specs.Fitting.{obligation_count, AreShort, IsFitting}
use Rattle.px_base.specs.Fitting as fitting
use Rattle.px_terms.specs.declared.types.FnType.{FnType}
use Rattle.px_terms.specs.declared.program.ConDef.{ConDef}
use Rattle.px_terms.specs.declared.program.DataDef.{DataDef}
use Rattle.px_terms.specs.declared.program.Def as definition
use Rattle.px_terms.specs.declared.program.Lemma as proposition
use Rattle.px_terms.specs.declared.program.ReplicaDef.{ReplicaDef}
use Rattle.px_terms.specs.declared.program.Declared.{Declared}
use Rattle.px_terms.specs.declared.program.Declared.TheVariants as declared
use Rattle.px_terms.specs.declared.program.Program.{Program}
use Rattle.px_terms.specs.Programs.{bool_data}
use Rattle.px_terms.specs.Typing.{StandsBefore}
use Rattle.px_terms.specs.TypedPrograms.{IsTypedData, IsTypedDef, IsTypedLemma, IsTypedReplica, IsTyped}
use Rattle.px_types.specs.Written.{AreFnTys}
use Rattle.px_types.specs.Written as written
use Rattle.px_types.specs.Declarations.{AreCons, IsData, IsSignature, IsLemma, obligations_of, AllFit, with_datatype, with_definition}
use Rattle.px_types.specs.Declarations.{with_obligations, with_lemma, with_replica, IsNext, AreNext, start, IsProgramOf}
use Rattle.px_types.specs.Declarations as declarations
use Rattle.px_types.proofs.Appending.{one_item, some_and, get_last, item_below, Each, each_none, each_pushed, each_weaker, drop_at}
use Rattle.px_types.proofs.TypedSteps.{start_is_typed, datatype_is_typed, definition_is_typed, obligations_are_typed, lemma_is_typed}
use Rattle.px_types.proofs.TypedSteps.{replica_is_typed, names_are_typed}

-- how many obligations the declarations that are left make
abbrev pub left_count : RawProgram → Counts → ℕ
left_count raw C = def_props (drop C.defs raw.defs) + claim_props (drop C.claims raw.claims) + length (drop C.lemmas raw.lemmas)

-- The datatype's constructors can be numbered.
abbrev pub HasFewCons : ℕ → DataDef → Type 0
HasFewCons d D = length D.cons < 2 ^ 32

-- The definition's functions can be numbered.
abbrev pub HasFewFuns : ℕ → definition.Def → Type 0
HasFewFuns n D = length D.funs < 2 ^ 32

-- The lemma's functions can be numbered.
abbrev pub HasFewLemmaFuns : ℕ → proposition.Lemma → Type 0
HasFewLemmaFuns n l = length l.funs < 2 ^ 32

-- the definition stands behind at most so many obligations
abbrev pub IsSeenBy : ℕ → ℕ → definition.Def → Type 0
IsSeenBy count n D = D.seen ≤ count

-- Where so many declarations are taken, this is what they have made.
pub record IsReached (raw : RawProgram) (C : Counts) (P : Program) : Type 0 where
  pub typed : IsTyped P
  pub datatypes : C.datatypes ≡ length P.datatypes
  pub defs : C.defs ≡ length P.defs
  pub lemmas : C.lemmas ≡ length P.lemmas
  pub replicas : C.replicas ≡ length P.replicas
  pub within : C.defs ≤ length raw.defs
  pub lemmas_within : C.lemmas ≤ length raw.lemmas
  pub obligations : length P.declared + left_count raw C ≡ obligation_count raw
  pub seen : Each (IsSeenBy (length P.declared)) P.defs
  pub few_cons : Each HasFewCons P.datatypes
  pub few_funs : Each HasFewFuns P.defs
  pub few_lemma_funs : Each HasFewLemmaFuns P.lemmas

-- what is declared so far and what is left are together what there is
sum_more : (f : ℕ) (fs : List ℕ) → sum (f ∷ fs) ≡ f + sum fs
sum_more f fs = sum_by-cons (λ (n : ℕ). n) f fs

def_props_more : (raw : RawDef) (rest : List RawDef) → def_props (raw ∷ rest) ≡ length raw.props + def_props rest
def_props_more raw rest = sum_more (length raw.props) (map (λ (raw : RawDef). length raw.props) rest)

claim_props_more : (raw : RawClaim) (rest : List RawClaim) → claim_props (raw ∷ rest) ≡ length raw.props + claim_props rest
claim_props_more raw rest = sum_more (length raw.props) (map (λ (raw : RawClaim). length raw.props) rest)

next_items : {X : Type 0} (xs : List X) (i : ℕ) (x : X) → slice_get xs i ≡ Some x → drop i xs ≡ x ∷ drop (i + 1) xs
next_items xs i x e = drop_at xs i x e ∙ ap (λ (n : ℕ). x ∷ drop n xs) (sym (add-one i))

defs_left : (defs : List RawDef) (n : ℕ) (raw : RawDef) → slice_get defs n ≡ Some raw →
    def_props (drop n defs) ≡ length raw.props + def_props (drop (n + 1) defs)
defs_left defs n raw e = ap def_props (next_items defs n raw e) ∙ def_props_more raw (drop (n + 1) defs)

claims_left : (claims : List RawClaim) (n : ℕ) (raw : RawClaim) → slice_get claims n ≡ Some raw →
    claim_props (drop n claims) ≡ length raw.props + claim_props (drop (n + 1) claims)
claims_left claims n raw e = ap claim_props (next_items claims n raw e) ∙ claim_props_more raw (drop (n + 1) claims)

lemmas_left : (lemmas : List RawLemma) (n : ℕ) (raw : RawLemma) → slice_get lemmas n ≡ Some raw → length (drop n lemmas) ≡ suc (length (drop (n + 1) lemmas))
lemmas_left lemmas n raw e = ap length (next_items lemmas n raw e)

obligations_length : (n : ℕ) (props : List RawProp) → length (obligations_of n props) ≡ length props
obligations_length n [] = refl
obligations_length n (raw ∷ props) = ap suc (obligations_length n props)

declared_more : (declared : List Declared) (n : ℕ) (props : List RawProp) → length (declared ++ obligations_of n props) ≡ length declared + length props
declared_more declared n props = length-append declared (obligations_of n props) ∙ ap (λ (k : ℕ). length declared + k) (obligations_length n props)

length_more : {X : Type 0} (xs : List X) (x : X) → length (xs ++ x ∷ []) ≡ length xs + 1
length_more xs x = length-append xs (x ∷ [])

one_longer : {X : Type 0} (count : ℕ) (xs : List X) (x : X) → count ≡ length xs → count + 1 ≡ length (xs ++ x ∷ [])
one_longer count xs x e = ap (λ (n : ℕ). n + 1) e ∙ sym (length_more xs x)

one_within : {X : Type 0} (n : ℕ) (xs : List X) (x : X) → slice_get xs n ≡ Some x → n + 1 ≤ length xs
one_within n xs x e = let below : n < length xs = slice_get_within xs n x e in omega arith

-- as many as are written
cons_length : {raws : List RawCon} {cons : List ConDef} → AreCons raws cons → length raws ≡ length cons
cons_length declarations.none = refl
cons_length (declarations.more fields are) = ap suc (cons_length are)

funs_length : {raws : List RawFnType} {funs : List FnType} → AreFnTys raws funs → length raws ≡ length funs
funs_length written.none = refl
funs_length (written.more is are) = ap suc (funs_length are)

few_of : (n m most : ℕ) → n ≡ m → n < most → m < most
few_of n m most e few = subst (λ (k : ℕ). k < most) e few

seen_later : (count more : ℕ) (defs : List definition.Def) → count ≤ more → Each (IsSeenBy count) defs → Each (IsSeenBy more) defs
seen_later count more defs fewer all = each_weaker (IsSeenBy count) (IsSeenBy more) defs (λ n D before. later D.seen before) all
  where
    later : (seen : ℕ) → seen ≤ count → seen ≤ more
    later seen before = omega arith

-- one declaration more
module _ (raw : RawProgram) (C : Counts) (P : Program) (reached : IsReached raw C P) where
  data_step : (d : RawData) (D : DataDef) → IsDataIn C d → IsData d D → IsTypedData (with_datatype P D) D →
      IsReached raw (record C { datatypes = C.datatypes + 1 }) (with_datatype P D)
  data_step d D fits is typed = record {
    typed = datatype_is_typed P reached.typed D typed;
    datatypes = one_longer C.datatypes P.datatypes D reached.datatypes;
    defs = reached.defs;
    lemmas = reached.lemmas;
    replicas = reached.replicas;
    within = reached.within;
    lemmas_within = reached.lemmas_within;
    obligations = reached.obligations;
    seen = reached.seen;
    few_cons = each_pushed HasFewCons P.datatypes D reached.few_cons (few_of (length d.cons) (length D.cons) (2 ^ 32) (cons_length is.cons) fits.few);
    few_funs = reached.few_funs;
    few_lemma_funs = reached.few_lemma_funs;
  }

  definition_step : (d : RawDef) (D : definition.Def) → slice_get raw.defs C.defs ≡ Some d → IsDefIn raw C d → IsSignature (length P.declared) d D →
      IsTypedDef (with_definition P D) C.defs D → AllFit (with_definition P D) C.defs d.props →
      IsReached raw (record C { defs = C.defs + 1 }) (with_obligations (with_definition P D) (obligations_of C.defs d.props))
  definition_step d D stands fits is typed fit = record {
    typed = obligations_are_typed (with_definition P D)
        (definition_is_typed P reached.typed D (subst (λ (n : ℕ). IsTypedDef (with_definition P D) n D) reached.defs typed)) C.defs d.props stands_here fit;
    datatypes = reached.datatypes;
    defs = one_longer C.defs P.defs D reached.defs;
    lemmas = reached.lemmas;
    replicas = reached.replicas;
    within = one_within C.defs raw.defs d stands;
    lemmas_within = reached.lemmas_within;
    obligations = omega (arith, more, defs_left raw.defs C.defs d stands, reached.obligations);
    seen = seen_later (length P.declared) (length (P.declared ++ obligations_of C.defs d.props)) (P.defs ++ D ∷ []) longer
        (each_pushed (IsSeenBy (length P.declared)) P.defs D reached.seen seen_here);
    few_cons = reached.few_cons;
    few_funs = each_pushed HasFewFuns P.defs D reached.few_funs
        (few_of (length d.funs) (length D.funs) (2 ^ 32) (funs_length is.funs) fits.parameters.few_functions);
    few_lemma_funs = reached.few_lemma_funs;
  }
    where
      seen_here : D.seen ≤ length P.declared
      seen_here = let e : D.seen ≡ length P.declared = is.stands in omega arith

      stands_here : StandsBefore (with_definition P D) C.defs (length P.declared)
      stands_here = some_and (slice_get (P.defs ++ D ∷ []) C.defs) (λ (E : definition.Def). E.seen ≤ length P.declared) D
          (subst (λ (n : ℕ). slice_get (P.defs ++ D ∷ []) n ≡ Some D) (sym reached.defs) (get_last P.defs D)) seen_here

      more : length (P.declared ++ obligations_of C.defs d.props) ≡ length P.declared + length d.props
      more = declared_more P.declared C.defs d.props

      longer : length P.declared ≤ length (P.declared ++ obligations_of C.defs d.props)
      longer = let e = more in omega arith

  claim_step : (c : RawClaim) → slice_get raw.claims C.claims ≡ Some c → IsClaimIn C c → AllFit P c.def c.props →
      IsReached raw (record C { claims = C.claims + 1 }) (with_obligations P (obligations_of c.def c.props))
  claim_step c stands fits fit = record {
    typed = obligations_are_typed P reached.typed c.def c.props stands_here fit;
    datatypes = reached.datatypes;
    defs = reached.defs;
    lemmas = reached.lemmas;
    replicas = reached.replicas;
    within = reached.within;
    lemmas_within = reached.lemmas_within;
    obligations = omega (arith, more, claims_left raw.claims C.claims c stands, reached.obligations);
    seen = seen_later (length P.declared) (length (P.declared ++ obligations_of c.def c.props)) P.defs longer reached.seen;
    few_cons = reached.few_cons;
    few_funs = reached.few_funs;
    few_lemma_funs = reached.few_lemma_funs;
  }
    where
      stands_here : StandsBefore P c.def (length P.declared)
      stands_here =
          let there = item_below P.defs c.def (subst (λ (n : ℕ). c.def < n) reached.defs fits.below) in
          some_and (slice_get P.defs c.def) (λ (E : definition.Def). E.seen ≤ length P.declared) there.0 there.1 (reached.seen.at c.def there.0 there.1)

      more : length (P.declared ++ obligations_of c.def c.props) ≡ length P.declared + length c.props
      more = declared_more P.declared c.def c.props

      longer : length P.declared ≤ length (P.declared ++ obligations_of c.def c.props)
      longer = let e = more in omega arith

  lemma_step : (l : RawLemma) (L : proposition.Lemma) → slice_get raw.lemmas C.lemmas ≡ Some l → IsLemmaIn raw C l → IsLemma P l L →
      IsTypedLemma P (length P.declared) L → IsReached raw (record C { lemmas = C.lemmas + 1 }) (with_lemma P L)
  lemma_step l L stands fits is typed = record {
    typed = lemma_is_typed P reached.typed L typed;
    datatypes = reached.datatypes;
    defs = reached.defs;
    lemmas = one_longer C.lemmas P.lemmas L reached.lemmas;
    replicas = reached.replicas;
    within = reached.within;
    lemmas_within = one_within C.lemmas raw.lemmas l stands;
    obligations = omega (arith, more, lemmas_left raw.lemmas C.lemmas l stands, reached.obligations);
    seen = seen_later (length P.declared) (length (P.declared ++ declared.Lemma (length P.lemmas) ∷ [])) P.defs longer reached.seen;
    few_cons = reached.few_cons;
    few_funs = reached.few_funs;
    few_lemma_funs = each_pushed HasFewLemmaFuns P.lemmas L reached.few_lemma_funs
        (few_of (length l.funs) (length L.funs) (2 ^ 32) (funs_length is.funs) fits.parameters.few_functions);
  }
    where
      more : length (P.declared ++ declared.Lemma (length P.lemmas) ∷ []) ≡ length P.declared + 1
      more = length_more P.declared (declared.Lemma (length P.lemmas))

      longer : length P.declared ≤ length (P.declared ++ declared.Lemma (length P.lemmas) ∷ [])
      longer = let e = more in omega arith

  replica_step : (r : ReplicaDef) → IsTypedReplica P r → IsReached raw (record C { replicas = C.replicas + 1 }) (with_replica P r)
  replica_step r typed = record {
    typed = replica_is_typed P reached.typed r typed;
    datatypes = reached.datatypes;
    defs = reached.defs;
    lemmas = reached.lemmas;
    replicas = one_longer C.replicas P.replicas r reached.replicas;
    within = reached.within;
    lemmas_within = reached.lemmas_within;
    obligations = reached.obligations;
    seen = reached.seen;
    few_cons = reached.few_cons;
    few_funs = reached.few_funs;
    few_lemma_funs = reached.few_lemma_funs;
  }

-- What a declaration makes, and the order of those that are left.
pub record IsTaken (raw : RawProgram) (rest : List Decl) (Q : Program) : Type 0 where
  pub counts : Counts
  pub reached : IsReached raw counts Q
  pub order : AreInOrder raw counts rest

-- What the rules say of a definition by its number.
record IsDefined (raw : RawProgram) (P Q : Program) (d : RawDef) (D : definition.Def) (n : ℕ) : Type 0 where
  stands : slice_get raw.defs n ≡ Some d
  typed : IsTypedDef (with_definition P D) n D
  fit : AllFit (with_definition P D) n d.props
  same : Q ≡ with_obligations (with_definition P D) (obligations_of n d.props)

-- the item at a number is one
same_item : {X : Type 0} (xs : List X) (n : ℕ) (x y : X) → slice_get xs n ≡ Some x → slice_get xs n ≡ Some y → x ≡ y
same_item xs n x y e f = one_item x y (sym e ∙ f)

-- the program that a declaration makes
made_by : {raw : RawProgram} {D : Counts} {P Q : Program} {rest : List Decl} → Q ≡ P → IsReached raw D P → AreInOrder raw D rest → IsTaken raw rest Q
made_by {raw} {D} {rest = rest} same reached order = subst (IsTaken raw rest) (sym same) (record { counts = D; reached = reached; order = order })

pub one_more : {raw : RawProgram} {C : Counts} {P Q : Program} {d : Decl} {rest : List Decl} →
    IsReached raw C P → AreInOrder raw C (d ∷ rest) → IsNext raw P d Q → IsTaken raw rest Q
one_more {raw} {C} {P} reached (fitting.datatype {n = n} {raw = d0} place stands fits order) (declarations.datatype {d = d} {D = D} here is typed same) =
    let fits_here : IsDataIn C d = subst (IsDataIn C) (same_item raw.datatypes n d0 d stands here) fits in
    made_by same (data_step raw C P reached d D fits_here is typed) order
one_more {raw} {C} {P} {Q} reached (fitting.definition {n = n} {raw = d0} place stands fits order)
    (declarations.definition {d = d} {D = D} here is body typed fit same) =
    let fits_here : IsDefIn raw C d = subst (IsDefIn raw C) (same_item raw.defs n d0 d stands here) fits in
    let defined : IsDefined raw P Q d D C.defs = subst (IsDefined raw P Q d D) place (record { stands = here; typed = typed; fit = fit; same = same }) in
    made_by defined.same (definition_step raw C P reached d D defined.stands fits_here is defined.typed defined.fit) order
one_more {raw} {C} {P} reached (fitting.claim {n = n} {raw = c0} place stands fits order) (declarations.claim {c = c} here fit same) =
    let fits_here : IsClaimIn C c = subst (IsClaimIn C) (same_item raw.claims n c0 c stands here) fits in
    let at : slice_get raw.claims C.claims ≡ Some c = subst (λ (k : ℕ). slice_get raw.claims k ≡ Some c) place here in
    made_by same (claim_step raw C P reached c at fits_here fit) order
one_more {raw} {C} {P} reached (fitting.lemma {n = n} {raw = l0} place stands fits order) (declarations.lemma {l = l} {L = L} here is typed same) =
    let fits_here : IsLemmaIn raw C l = subst (IsLemmaIn raw C) (same_item raw.lemmas n l0 l stands here) fits in
    let at : slice_get raw.lemmas C.lemmas ≡ Some l = subst (λ (k : ℕ). slice_get raw.lemmas k ≡ Some l) place here in
    made_by same (lemma_step raw C P reached l L at fits_here is typed) order
one_more {raw} {C} {P} reached (fitting.replica place stands fits order) (declarations.replica {R = R} here is typed same) =
    made_by same (replica_step raw C P reached R typed) order

-- the declarations that are taken in turn
pub some_more : {raw : RawProgram} {P Q : Program} {before : List Decl} → AreNext raw P before Q → (after : List Decl) (C : Counts) →
    IsReached raw C P → AreInOrder raw C (before ++ after) → IsTaken raw after Q
some_more declarations.none after C reached order = record { counts = C; reached = reached; order = order }
some_more (declarations.more next rest) after C reached order =
    let taken = one_more reached order next in
    some_more rest after taken.counts taken.reached taken.order

pub start_is_reached : (raw : RawProgram) → IsReached raw bool_alone start
start_is_reached raw = record {
  typed = start_is_typed;
  datatypes = refl;
  defs = refl;
  lemmas = refl;
  replicas = refl;
  within = omega arith;
  lemmas_within = omega arith;
  obligations = zero-add (obligation_count raw);
  seen = each_none (IsSeenBy 0);
  few_cons = each_pushed HasFewCons [] bool_data (each_none HasFewCons) (lit< tt);
  few_funs = each_none HasFewFuns;
  few_lemma_funs = each_none HasFewLemmaFuns;
}

-- names are no part of typing
pub names_are_reached : {raw : RawProgram} {C : Counts} {P : Program} → IsReached raw C P → (names : Names) → IsReached raw C (record P { names = names })
names_are_reached {P} reached names = record {
  typed = names_are_typed P reached.typed names;
  datatypes = reached.datatypes;
  defs = reached.defs;
  lemmas = reached.lemmas;
  replicas = reached.replicas;
  within = reached.within;
  lemmas_within = reached.lemmas_within;
  obligations = reached.obligations;
  seen = reached.seen;
  few_cons = reached.few_cons;
  few_funs = reached.few_funs;
  few_lemma_funs = reached.few_lemma_funs;
}

-- Each part of the order makes a program that is reached.
pub reached_by : (raw : RawProgram) → IsFitting raw → (before after : List Decl) → raw.order ≡ before ++ after → (P : Program) →
    AreNext raw start before P → IsTaken raw after P
reached_by raw fits before after e P typed = some_more typed after bool_alone (start_is_reached raw) (subst (AreInOrder raw bool_alone) e fits.order)

pub program_is_reached : (raw : RawProgram) (P : Program) → IsFitting raw → IsProgramOf raw P → IsTaken raw [] P
program_is_reached raw P fits is =
    let taken = reached_by raw fits raw.order [] (sym (append-nil raw.order)) is.nameless is.typed in
    subst (IsTaken raw []) (sym is.named) (record { counts = taken.counts; reached = names_are_reached taken.reached raw.names; order = taken.order })
