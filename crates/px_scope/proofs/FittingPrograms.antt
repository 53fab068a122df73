-- A numbered program is as the check of types asks for it.
use Rattle.std.proofs.Common.{◌≡◌, ℕ, zero, suc, ◌+◌, ◌<◌, ◌≤◌, ◌^◌, List, [], ◌∷◌, ◌++◌, map, sum, length, Option, Some, None, Result, Ok, Err, refl, sym, ap, ◌∙◌, subst, arith, length-append, append-nil, append_assoc}
use Rattle.std.specs.Prelude.{IfOk, All, codes}
use Rattle.std.specs.List.{slice_get, range_with_len}
use Rattle.std.proofs.lemmas.List.{length-map}
use Rattle.std.proofs.lemmas.List.FromFn.{length-map-range_with_len, get_or-map-range_with_len}
use Rattle.std.proofs.lemmas.List.Sums.{sum-map, sum_by_push}
use Rattle.std.proofs.lemmas.List.Elements.{All-nil, All-cons, All-head, All-tail, All-append, All-weaker, All-push}
use Rattle.px_base.specs.declared.limits.TheConstants.{PROGRAM_BYTES}
use Rattle.px_base.specs.declared.prop.Prop.{Prop}
use Rattle.px_base.specs.declared.raw.Decl.{Decl}
use Rattle.px_base.specs.declared.raw.Decl.TheVariants as decl
use Rattle.px_base.specs.declared.raw.RawData.{RawData}
use Rattle.px_base.specs.declared.raw.RawDef.{RawDef}
use Rattle.px_base.specs.declared.raw.RawClaim.{RawClaim}
use Rattle.px_base.specs.declared.raw.RawProgram.{RawProgram}
use Rattle.px_base.specs.Fitting.{AreInOrder, HasNames, def_props, claim_props, obligation_count, bool_alone, raw_bool, AreProperties, properties_of, IsFitting}
use Rattle.px_parser.specs.declared.surface.SCon.{SCon}
use Rattle.px_parser.specs.declared.surface.Item.{Item}
use Rattle.px_parser.specs.declared.surface.Item.TheVariants as items
use Rattle.px_parser.specs.declared.surface.Surface.{Surface}
use Rattle.px_parser.specs.Sizes.{item_size, items_size, surface_size, IsItemWithin, IsWithinNesting}
use Rattle.px_parser.specs.SizeEquations.{items_size-cons}
use Rattle.px_parser.specs.Filled.{IsFilledItem, IsFilled}
use Rattle.px_scope.specs.declared.ends.ScopeEnd.{ScopeEnd}
use Rattle.px_scope.specs.declared.globals.Constructor.{Constructor}
use Rattle.px_scope.specs.declared.globals.Meaning.{Meaning}
use Rattle.px_scope.specs.declared.globals.Meaning.TheVariants as meaning
use Rattle.px_scope.specs.declared.globals.Globals.{Globals}
use Rattle.px_scope.specs.Standing.{meaning_of, built_in}
use Rattle.px_scope.specs.Uses.{first_broken, along}
use Rattle.px_scope.specs.Declaring.{props_of, constructor_names, with_datatype, with_constructors, function_count, with_claims_of, after}
use Rattle.px_scope.specs.ItemUses.{item_uses, text_uses}
use Rattle.px_scope.specs.Programs.{IsNext, AreNext, start, IsNumbering}
use Rattle.px_scope.specs.Answers.{Resolves}
use Rattle.px_scope.specs.Small.{IsSmall}
use Rattle.px_scope.proofs.SmallSteps.{small_surface}
use Rattle.px_scope.proofs.ShortPrograms.{one_longer, short_program}
use Rattle.px_scope.proofs.FineParts.{fine_front, fine_back}
use Rattle.px_scope.proofs.FittingDeclarations.{constructors_count, functions_are, IsDeclared, IsMeaningOf, Agrees, IsFront, counts_of, still_defined, data_in, def_in, claim_in, lemma_in, replica_in}
use Rattle.px_scope.proofs.FittingProperties.{AreClaimed, next_claimed, first_claimed, properties_once}
use Rattle.px_scope.proofs.ProgramSteps.{claims_types, claims_count}

-- a list is the front of itself, and of the list with one item more
front_push : {A : Type 0} (xs : List A) (x : A) → IsFront xs (xs ++ x ∷ [])
front_push [] x n y found = absurd cc
front_push (a ∷ xs) x zero y found = found
front_push (a ∷ xs) x (suc n) y found = front_push xs x n y found

-- the item that was added stands at the end
end_of : {A : Type 0} (xs : List A) (x : A) → slice_get (xs ++ x ∷ []) (length xs) ≡ Some x
end_of [] x = refl
end_of (a ∷ xs) x = end_of xs x

-- The lists of the first program are fronts of those of the other.
record Extends (P Q : RawProgram) : Type 0 where
  datatypes : IsFront P.datatypes Q.datatypes
  defs : IsFront P.defs Q.defs
  claims : IsFront P.claims Q.claims
  lemmas : IsFront P.lemmas Q.lemmas
  replicas : IsFront P.replicas Q.replicas

extends_itself : (P : RawProgram) → Extends P P
extends_itself P = record { datatypes = λ n x found. found; defs = λ n x found. found; claims = λ n x found. found; lemmas = λ n x found. found; replicas = λ n x found. found }

extends_again : (P Q R : RawProgram) → Extends P Q → Extends Q R → Extends P R
extends_again P Q R p q = record {
  datatypes = λ n x found. q.datatypes n x (p.datatypes n x found);
  defs = λ n x found. q.defs n x (p.defs n x found);
  claims = λ n x found. q.claims n x (p.claims n x found);
  lemmas = λ n x found. q.lemmas n x (p.lemmas n x found);
  replicas = λ n x found. q.replicas n x (p.replicas n x found);
}

-- one declaration more adds at the end
next_extends : (G : Globals) (P : RawProgram) {item : Item} {Q : RawProgram} → IsNext G P item Q → Extends P Q
next_extends G P (IsNext.datatype {raw = raw} is e) =
    subst (Extends P) (sym e) (record { datatypes = front_push P.datatypes raw; defs = λ n x found. found; claims = λ n x found. found; lemmas = λ n x found. found; replicas = λ n x found. found })
next_extends G P (IsNext.definition {raw = raw} is e) =
    subst (Extends P) (sym e) (record { datatypes = λ n x found. found; defs = front_push P.defs raw; claims = λ n x found. found; lemmas = λ n x found. found; replicas = λ n x found. found })
next_extends G P (IsNext.claim {raw = raw} is e) =
    subst (Extends P) (sym e) (record { datatypes = λ n x found. found; defs = λ n x found. found; claims = front_push P.claims raw; lemmas = λ n x found. found; replicas = λ n x found. found })
next_extends G P (IsNext.lemma {raw = raw} is e) =
    subst (Extends P) (sym e) (record { datatypes = λ n x found. found; defs = λ n x found. found; claims = λ n x found. found; lemmas = front_push P.lemmas raw; replicas = λ n x found. found })
next_extends G P (IsNext.replica {raw = raw} is e) =
    subst (Extends P) (sym e) (record { datatypes = λ n x found. found; defs = λ n x found. found; claims = λ n x found. found; lemmas = λ n x found. found; replicas = front_push P.replicas raw })

-- so do declarations
all_extend : {G : Globals} {P : RawProgram} {text : List Item} {Q : RawProgram} → AreNext G P text Q → Extends P Q
all_extend {P = P} AreNext.none = extends_itself P
all_extend {G = G} {P = P} {Q = R} (AreNext.more {Q = Q} first rest) = extends_again P Q R (next_extends G P first) (all_extend rest)

-- the constructors of one datatype more
added_constructors : (F : Constructor → Type 0) (own : ℕ) (G : Globals) (cons : List SCon) → All F G.constructors →
    ((n : ℕ) → n < length cons → F (record { datatype = own; number = n })) → All F (with_constructors own G cons).constructors
added_constructors F own G cons all new =
    let one : ℕ → Constructor = λ n. record { datatype = own; number = n } in
    All-append F G.constructors (map one (range_with_len 0 (length cons))) all
    (λ n d within. let below : n < length cons = omega (arith, length-map-range_with_len one 0 (length cons)) in
    subst F (sym (get_or-map-range_with_len one 0 (length cons) n n d below (omega arith))) (new n below))

claims_meanings : (G : Globals) (m : Option Meaning) (props : List Prop) → (with_claims_of G m props).meanings ≡ G.meanings
claims_meanings G None props = refl
claims_meanings G (Some meaning.Wle) props = refl
claims_meanings G (Some meaning.Weq) props = refl
claims_meanings G (Some (meaning.Definition n functions)) props = refl
claims_meanings G (Some meaning.Lemma) props = refl
claims_meanings G (Some meaning.Replica) props = refl

claims_constructors : (G : Globals) (m : Option Meaning) (props : List Prop) → (with_claims_of G m props).constructors ≡ G.constructors
claims_constructors G None props = refl
claims_constructors G (Some meaning.Wle) props = refl
claims_constructors G (Some meaning.Weq) props = refl
claims_constructors G (Some (meaning.Definition n functions)) props = refl
claims_constructors G (Some meaning.Lemma) props = refl
claims_constructors G (Some meaning.Replica) props = refl

-- what is declared in a program is declared in a longer one
still_declared : (P Q : RawProgram) → IsFront P.datatypes Q.datatypes → (cons : List Constructor) → All (IsDeclared P) cons → All (IsDeclared Q) cons
still_declared P Q front cons all = All-weaker (IsDeclared P) (IsDeclared Q) (λ con is. record { declared = is.declared; stands = front con.datatype is.declared is.stands; has = is.has }) cons all

-- so is what a name stands for
still_means : (P Q : RawProgram) → IsFront P.defs Q.defs → (m : Meaning) → IsMeaningOf P m → IsMeaningOf Q m
still_means P Q front meaning.Wle is = tt
still_means P Q front meaning.Weq is = tt
still_means P Q front (meaning.Definition n functions) is = still_defined P Q front n functions is
still_means P Q front meaning.Lemma is = tt
still_means P Q front meaning.Replica is = tt

still_meanings : (P Q : RawProgram) → Extends P Q → (ms : List Meaning) → All (IsMeaningOf P) ms → All (IsMeaningOf Q) ms
still_meanings P Q extends ms all = All-weaker (IsMeaningOf P) (IsMeaningOf Q) (still_means P Q extends.defs) ms all

-- what is declared still agrees with the program after one declaration more
agrees_next : (G : Globals) (P : RawProgram) {item : Item} {Q : RawProgram} → Agrees G P → IsNext G P item Q → Agrees (after G item) Q
agrees_next G P agrees (IsNext.datatype {d = d} {raw = raw} {result = Q} is e) =
    let extends = next_extends G P (IsNext.datatype is e) in
    let front : IsFront P.datatypes Q.datatypes = extends.datatypes in
    let all : Q.datatypes ≡ P.datatypes ++ raw ∷ [] = ap (λ (x : RawProgram). x.datatypes) e in
    let defs : Q.defs ≡ P.defs = ap (λ (x : RawProgram). x.defs) e in
    let own = length G.datatypes in
    let H = with_datatype G d.name in
    let stands : slice_get Q.datatypes own ≡ Some raw = rw (all, agrees.types) (end_of P.datatypes raw) in
    let cons : length raw.cons ≡ length d.cons = ap (λ (x : RawData). length x.cons) is.is ∙ constructors_count is.are_constructors in
    record {
      types = omega (arith, agrees.types, ap length all, length-append G.datatypes (d.name.text ∷ []), length-append P.datatypes (raw ∷ []));
      definitions = agrees.definitions ∙ ap length (sym defs);
      constructors = added_constructors (IsDeclared Q) own H d.cons (still_declared P Q front G.constructors agrees.constructors)
          (λ n below. record { declared = raw; stands = stands; has = omega arith });
      meanings = still_meanings P Q extends G.meanings agrees.meanings;
    }
agrees_next G P agrees (IsNext.definition {d = d} {raw = raw} {result = Q} is e) =
    let extends = next_extends G P (IsNext.definition is e) in
    let front : IsFront P.datatypes Q.datatypes = extends.datatypes in
    let datatypes : Q.datatypes ≡ P.datatypes = ap (λ (x : RawProgram). x.datatypes) e in
    let defs : Q.defs ≡ P.defs ++ raw ∷ [] = ap (λ (x : RawProgram). x.defs) e in
    let functions : length raw.funs ≡ function_count d.params = ap (λ (x : RawDef). length x.funs) is.is ∙ functions_are is.are_parameters in
    let stands : slice_get Q.defs (length G.claimed) ≡ Some raw = rw (defs, agrees.definitions) (end_of P.defs raw) in
    let m = meaning.Definition (length G.claimed) (function_count d.params) in
    record {
      types = agrees.types ∙ ap length (sym datatypes);
      definitions = omega (arith, agrees.definitions, length-append G.claimed (props_of d.props ∷ []), ap length defs, length-append P.defs (raw ∷ []));
      constructors = still_declared P Q front G.constructors agrees.constructors;
      meanings = All-push (IsMeaningOf Q) G.meanings m (still_meanings P Q extends G.meanings agrees.meanings)
          (record { declared = raw; stands = stands; count = functions });
    }
agrees_next G P agrees (IsNext.claim {c = c} {raw = raw} {result = Q} is e) =
    let datatypes : Q.datatypes ≡ P.datatypes = ap (λ (x : RawProgram). x.datatypes) e in
    let defs : Q.defs ≡ P.defs = ap (λ (x : RawProgram). x.defs) e in
    let extends = next_extends G P (IsNext.claim is e) in
    let front : IsFront P.datatypes Q.datatypes = extends.datatypes in
    let m = meaning_of G c.name.text in
    let props = props_of c.props in
    record {
      types = ap length (claims_types G m props) ∙ agrees.types ∙ ap length (sym datatypes);
      definitions = claims_count G m props ∙ agrees.definitions ∙ ap length (sym defs);
      constructors = rw (claims_constructors G m props) (still_declared P Q front G.constructors agrees.constructors);
      meanings = rw (claims_meanings G m props) (still_meanings P Q extends G.meanings agrees.meanings);
    }
agrees_next G P agrees (IsNext.lemma {raw = raw} {result = Q} is e) =
    let datatypes : Q.datatypes ≡ P.datatypes = ap (λ (x : RawProgram). x.datatypes) e in
    let defs : Q.defs ≡ P.defs = ap (λ (x : RawProgram). x.defs) e in
    let extends = next_extends G P (IsNext.lemma is e) in
    let front : IsFront P.datatypes Q.datatypes = extends.datatypes in
    record {
      types = agrees.types ∙ ap length (sym datatypes);
      definitions = agrees.definitions ∙ ap length (sym defs);
      constructors = still_declared P Q front G.constructors agrees.constructors;
      meanings = All-push (IsMeaningOf Q) G.meanings meaning.Lemma (still_meanings P Q extends G.meanings agrees.meanings) tt;
    }
agrees_next G P agrees (IsNext.replica {raw = raw} {result = Q} is e) =
    let datatypes : Q.datatypes ≡ P.datatypes = ap (λ (x : RawProgram). x.datatypes) e in
    let defs : Q.defs ≡ P.defs = ap (λ (x : RawProgram). x.defs) e in
    let extends = next_extends G P (IsNext.replica is e) in
    let front : IsFront P.datatypes Q.datatypes = extends.datatypes in
    record {
      types = agrees.types ∙ ap length (sym datatypes);
      definitions = agrees.definitions ∙ ap length (sym defs);
      constructors = still_declared P Q front G.constructors agrees.constructors;
      meanings = All-push (IsMeaningOf Q) G.meanings meaning.Replica (still_meanings P Q extends G.meanings agrees.meanings) tt;
    }

-- what is built in agrees with the program of no declarations
agrees_first : Agrees built_in start
agrees_first = record {
  types = refl;
  definitions = refl;
  constructors = All-cons (IsDeclared start) (record { datatype = 0; number = 0 }) (record { datatype = 0; number = 1 } ∷ [])
      (record { declared = raw_bool; stands = refl; has = omega arith })
      (All-cons (IsDeclared start) (record { datatype = 0; number = 1 }) [] (record { declared = raw_bool; stands = refl; has = omega arith }) (All-nil (IsDeclared start)));
  meanings = All-cons (IsMeaningOf start) meaning.Wle (meaning.Weq ∷ []) tt (All-cons (IsMeaningOf start) meaning.Weq [] tt (All-nil (IsMeaningOf start)));
}

-- What is left of the order after a program's declarations.
record IsOrdered (P Q : RawProgram) : Type 0 where
  rest : List Decl
  order : Q.order ≡ P.order ++ rest
  fits : AreInOrder Q (counts_of P) rest

order_next : (before between after rest : List Decl) (d : Decl) → between ≡ before ++ d ∷ [] → after ≡ between ++ rest → after ≡ before ++ (d ∷ rest)
order_next before between after rest d one all = all ∙ ap (λ ds. ds ++ rest) one ∙ append_assoc before (d ∷ []) rest

-- the order from one declaration on
ordered_next : (text : List Item) (G : Globals) (P Q : RawProgram) {item : Item} {M : RawProgram} → Agrees G P → IsNext G P item M → Extends M Q →
    first_broken (item_uses text G item) ≡ None → IsItemWithin item → IsFilledItem item → item_size item < 2 ^ 32 → IsOrdered M Q → IsOrdered P Q
ordered_next text G P Q agrees (IsNext.datatype {d = d} {raw = raw} {result = M} is e) extends fine within filled small ordered =
    let whole = extends_again P M Q (next_extends G P (IsNext.datatype is e)) extends in
    let all : M.datatypes ≡ P.datatypes ++ raw ∷ [] = ap (λ (x : RawProgram). x.datatypes) e in
    let counts : counts_of M ≡ record (counts_of P) { datatypes = length P.datatypes + 1 } = ap counts_of e ∙ ap (λ n. record (counts_of P) { datatypes = n }) (one_longer P.datatypes raw) in
    record {
      rest = decl.Datatype (length P.datatypes) ∷ ordered.rest;
      order = order_next P.order M.order Q.order ordered.rest (decl.Datatype (length P.datatypes)) (ap (λ (x : RawProgram). x.order) e) ordered.order;
      fits = AreInOrder.datatype refl
          (extends.datatypes (length P.datatypes) raw (rw all (end_of P.datatypes raw)))
          (data_in text G P Q agrees whole.datatypes whole.defs d raw is fine filled within small)
          (subst (λ C. AreInOrder Q C ordered.rest) counts ordered.fits);
    }
ordered_next text G P Q agrees (IsNext.definition {d = d} {raw = raw} {result = M} is e) extends fine within filled small ordered =
    let whole = extends_again P M Q (next_extends G P (IsNext.definition is e)) extends in
    let all : M.defs ≡ P.defs ++ raw ∷ [] = ap (λ (x : RawProgram). x.defs) e in
    let counts : counts_of M ≡ record (counts_of P) { defs = length P.defs + 1 } = ap counts_of e ∙ ap (λ n. record (counts_of P) { defs = n }) (one_longer P.defs raw) in
    record {
      rest = decl.Definition (length P.defs) ∷ ordered.rest;
      order = order_next P.order M.order Q.order ordered.rest (decl.Definition (length P.defs)) (ap (λ (x : RawProgram). x.order) e) ordered.order;
      fits = AreInOrder.definition refl
          (extends.defs (length P.defs) raw (rw all (end_of P.defs raw)))
          (def_in text G P Q agrees whole.datatypes whole.defs d raw is fine within small)
          (subst (λ C. AreInOrder Q C ordered.rest) counts ordered.fits);
    }
ordered_next text G P Q agrees (IsNext.claim {c = c} {raw = raw} {result = M} is e) extends fine within filled small ordered =
    let whole = extends_again P M Q (next_extends G P (IsNext.claim is e)) extends in
    let all : M.claims ≡ P.claims ++ raw ∷ [] = ap (λ (x : RawProgram). x.claims) e in
    let counts : counts_of M ≡ record (counts_of P) { claims = length P.claims + 1 } = ap counts_of e ∙ ap (λ n. record (counts_of P) { claims = n }) (one_longer P.claims raw) in
    record {
      rest = decl.Claim (length P.claims) ∷ ordered.rest;
      order = order_next P.order M.order Q.order ordered.rest (decl.Claim (length P.claims)) (ap (λ (x : RawProgram). x.order) e) ordered.order;
      fits = AreInOrder.claim refl
          (extends.claims (length P.claims) raw (rw all (end_of P.claims raw)))
          (claim_in text G P Q agrees whole.datatypes whole.defs c raw is small)
          (subst (λ C. AreInOrder Q C ordered.rest) counts ordered.fits);
    }
ordered_next text G P Q agrees (IsNext.lemma {l = l} {raw = raw} {result = M} is e) extends fine within filled small ordered =
    let whole = extends_again P M Q (next_extends G P (IsNext.lemma is e)) extends in
    let all : M.lemmas ≡ P.lemmas ++ raw ∷ [] = ap (λ (x : RawProgram). x.lemmas) e in
    let counts : counts_of M ≡ record (counts_of P) { lemmas = length P.lemmas + 1 } = ap counts_of e ∙ ap (λ n. record (counts_of P) { lemmas = n }) (one_longer P.lemmas raw) in
    record {
      rest = decl.Lemma (length P.lemmas) ∷ ordered.rest;
      order = order_next P.order M.order Q.order ordered.rest (decl.Lemma (length P.lemmas)) (ap (λ (x : RawProgram). x.order) e) ordered.order;
      fits = AreInOrder.lemma refl
          (extends.lemmas (length P.lemmas) raw (rw all (end_of P.lemmas raw)))
          (lemma_in text G P Q agrees whole.datatypes whole.defs l raw is fine within small)
          (subst (λ C. AreInOrder Q C ordered.rest) counts ordered.fits);
    }
ordered_next text G P Q agrees (IsNext.replica {r = r} {raw = raw} {result = M} is e) extends fine within filled small ordered =
    let whole = extends_again P M Q (next_extends G P (IsNext.replica is e)) extends in
    let all : M.replicas ≡ P.replicas ++ raw ∷ [] = ap (λ (x : RawProgram). x.replicas) e in
    let counts : counts_of M ≡ record (counts_of P) { replicas = length P.replicas + 1 } = ap counts_of e ∙ ap (λ n. record (counts_of P) { replicas = n }) (one_longer P.replicas raw) in
    record {
      rest = decl.Replica (length P.replicas) ∷ ordered.rest;
      order = order_next P.order M.order Q.order ordered.rest (decl.Replica (length P.replicas)) (ap (λ (x : RawProgram). x.order) e) ordered.order;
      fits = AreInOrder.replica refl
          (extends.replicas (length P.replicas) raw (rw all (end_of P.replicas raw)))
          (replica_in text G P Q agrees whole.datatypes whole.defs r raw is fine within small)
          (subst (λ C. AreInOrder Q C ordered.rest) counts ordered.fits);
    }

-- all declarations stand in order
all_ordered : (whole : List Item) {G : Globals} {P : RawProgram} {text : List Item} {Q : RawProgram} → AreNext G P text Q → Agrees G P →
    first_broken (along after (item_uses whole) G text) ≡ None → All IsItemWithin text → All IsFilledItem text → items_size text < 2 ^ 32 → IsOrdered P Q
all_ordered whole {P = P} AreNext.none agrees fine within filled small = record {
  rest = [];
  order = sym (append-nil P.order);
  fits = AreInOrder.done (record { datatypes = refl; defs = refl; claims = refl; lemmas = refl; replicas = refl });
}
all_ordered whole {G = G} {P = P} {Q = R} (AreNext.more {Q = Q} {item = item} {text = text} first rest) agrees fine within filled small =
    let sizes = items_size-cons item text in
    let here = item_uses whole G item in
    let others = along after (item_uses whole) (after G item) text in
    ordered_next whole G P R agrees first (all_extend rest)
    (fine_front here others fine)
    (All-head IsItemWithin item text within)
    (All-head IsFilledItem item text filled)
    (omega arith)
    (all_ordered whole rest (agrees_next G P agrees first) (fine_back here others fine) (All-tail IsItemWithin item text within) (All-tail IsFilledItem item text filled) (omega arith))

-- no property is declared twice
all_once : (whole : List Item) {G : Globals} {P : RawProgram} {text : List Item} {Q : RawProgram} → AreNext G P text Q → Agrees G P → AreClaimed G P →
    first_broken (along after (item_uses whole) G text) ≡ None → (n : ℕ) (raw : RawDef) → slice_get Q.defs n ≡ Some raw → AreProperties (properties_of Q n raw)
all_once whole {G = G} {P = P} AreNext.none agrees claimed fine = properties_once G P agrees.definitions claimed
all_once whole {G = G} {P = P} (AreNext.more {item = item} {text = text} first rest) agrees claimed fine =
    let here = item_uses whole G item in
    let others = along after (item_uses whole) (after G item) text in
    all_once whole rest (agrees_next G P agrees first) (next_claimed whole G P agrees claimed first (fine_front here others fine)) (fine_back here others fine)

both_longer : {A B : Type 0} (xs : List A) (ys : List B) (x : A) (y : B) → length xs ≡ length ys → length (xs ++ x ∷ []) ≡ length (ys ++ y ∷ [])
both_longer xs ys x y same = omega (arith, one_longer xs x, one_longer ys y)

-- one datatype more has as many names as constructors
names_push : (xs : List RawData) (ys : List (List (List ℕ))) (x : RawData) (y : List (List ℕ)) → length ys ≡ length xs →
    ((n : ℕ) (raw : RawData) (own : List (List ℕ)) → slice_get xs n ≡ Some raw → slice_get ys n ≡ Some own → length own ≡ length raw.cons) →
    length y ≡ length x.cons →
    (n : ℕ) (raw : RawData) (own : List (List ℕ)) → slice_get (xs ++ x ∷ []) n ≡ Some raw → slice_get (ys ++ y ∷ []) n ≡ Some own → length own ≡ length raw.cons
names_push [] [] x y same all one zero raw own p q =
    let first : x ≡ raw = cc in
    let names : y ≡ own = cc in
    ap length (sym names) ∙ one ∙ ap (λ (z : RawData). length z.cons) first
names_push [] [] x y same all one (suc n) raw own p q = absurd cc
names_push [] (b ∷ ys) x y same all one n raw own p q = absurd (omega arith)
names_push (a ∷ xs) [] x y same all one n raw own p q = absurd (omega arith)
names_push (a ∷ xs) (b ∷ ys) x y same all one zero raw own p q = all 0 raw own p q
names_push (a ∷ xs) (b ∷ ys) x y same all one (suc n) raw own p q = names_push xs ys x y (omega arith) (λ m. all (suc m)) one n raw own p q

-- one declaration more has its name
named_next : (G : Globals) (P : RawProgram) {item : Item} {Q : RawProgram} → HasNames P → IsNext G P item Q → HasNames Q
named_next G P named (IsNext.datatype {d = d} {raw = raw} is e) =
    let written : length raw.cons ≡ length d.cons = ap (λ (x : RawData). length x.cons) is.is ∙ constructors_count is.are_constructors in
    let own : length (constructor_names d.cons) ≡ length raw.cons = length-map d.cons (λ (con : SCon). con.name.text) ∙ sym written in
    subst HasNames (sym e) (record {
      datatypes = both_longer P.names.datatypes P.datatypes d.name.text raw named.datatypes;
      cons = both_longer P.names.cons P.datatypes (constructor_names d.cons) raw named.cons;
      constructors = names_push P.datatypes P.names.cons raw (constructor_names d.cons) named.cons named.constructors own;
      defs = named.defs;
      lemmas = named.lemmas;
      replicas = named.replicas;
    })
named_next G P named (IsNext.definition {d = d} {raw = raw} is e) = subst HasNames (sym e) (record {
  datatypes = named.datatypes;
  cons = named.cons;
  constructors = named.constructors;
  lemmas = named.lemmas;
  replicas = named.replicas;
  defs = both_longer P.names.defs P.defs d.name.text raw named.defs;
})
named_next G P named (IsNext.claim {c = c} {raw = raw} is e) = subst HasNames (sym e) (record {
  datatypes = named.datatypes;
  cons = named.cons;
  constructors = named.constructors;
  defs = named.defs;
  lemmas = named.lemmas;
  replicas = named.replicas;
})
named_next G P named (IsNext.lemma {l = l} {raw = raw} is e) = subst HasNames (sym e) (record {
  datatypes = named.datatypes;
  cons = named.cons;
  constructors = named.constructors;
  defs = named.defs;
  replicas = named.replicas;
  lemmas = both_longer P.names.lemmas P.lemmas l.name.text raw named.lemmas;
})
named_next G P named (IsNext.replica {r = r} {raw = raw} is e) = subst HasNames (sym e) (record {
  datatypes = named.datatypes;
  cons = named.cons;
  constructors = named.constructors;
  defs = named.defs;
  lemmas = named.lemmas;
  replicas = both_longer P.names.replicas P.replicas r.name.text raw named.replicas;
})

-- `Bool` has its names
named_first : HasNames start
named_first = record {
  datatypes = refl;
  cons = refl;
  constructors = names_push [] [] raw_bool (constructor_names_of_bool) refl (λ n raw own p q. absurd cc) refl;
  defs = refl;
  lemmas = refl;
  replicas = refl;
}
  where
    constructor_names_of_bool : List (List ℕ)
    constructor_names_of_bool = codes "False" ∷ codes "True" ∷ []

-- all declarations have their names
all_named : {G : Globals} {P : RawProgram} {text : List Item} {Q : RawProgram} → AreNext G P text Q → HasNames P → HasNames Q
all_named AreNext.none named = named
all_named {G = G} {P = P} (AreNext.more first rest) named = all_named rest (named_next G P named first)

sum_map_push : {A : Type 0} (f : A → ℕ) (xs : List A) (x : A) → sum (map f (xs ++ x ∷ [])) ≡ sum (map f xs) + f x
sum_map_push f xs x = omega (arith, sum-map f (xs ++ x ∷ []), sum-map f xs, sum_by_push f xs x)

-- one declaration more has no more obligations than parts
counted_next : (G : Globals) (P : RawProgram) {item : Item} {Q : RawProgram} → IsNext G P item Q → obligation_count Q ≤ obligation_count P + item_size item
counted_next G P (IsNext.datatype {d = d} is e) = subst (λ (x : RawProgram). obligation_count x ≤ obligation_count P + item_size (items.Datatype d)) (sym e) (omega arith)
counted_next G P (IsNext.definition {d = d} {raw = raw} is e) =
    let props : length raw.props ≡ length d.props = ap (λ (x : RawDef). length x.props) is.is in
    let all : def_props (P.defs ++ raw ∷ []) ≡ def_props P.defs + length raw.props = sum_map_push (λ (x : RawDef). length x.props) P.defs raw in
    subst (λ (x : RawProgram). obligation_count x ≤ obligation_count P + item_size (items.Definition d)) (sym e) (omega arith)
counted_next G P (IsNext.claim {c = c} {raw = raw} is e) =
    let props : length raw.props ≡ length c.props = ap (λ (x : RawClaim). length x.props) is.is in
    let all : claim_props (P.claims ++ raw ∷ []) ≡ claim_props P.claims + length raw.props = sum_map_push (λ (x : RawClaim). length x.props) P.claims raw in
    subst (λ (x : RawProgram). obligation_count x ≤ obligation_count P + item_size (items.Claim c)) (sym e) (omega arith)
counted_next G P (IsNext.lemma {l = l} {raw = raw} is e) =
    subst (λ (x : RawProgram). obligation_count x ≤ obligation_count P + item_size (items.Lemma l)) (sym e) (omega (arith, one_longer P.lemmas raw))
counted_next G P (IsNext.replica {r = r} is e) = subst (λ (x : RawProgram). obligation_count x ≤ obligation_count P + item_size (items.Replica r)) (sym e) (omega arith)

-- all declarations have no more obligations than parts
all_counted : {G : Globals} {P : RawProgram} {text : List Item} {Q : RawProgram} → AreNext G P text Q →
    obligation_count Q ≤ obligation_count P + items_size text
all_counted AreNext.none = omega arith
all_counted {G = G} {P = P} (AreNext.more {item = item} {text = text} first rest) = omega (arith, counted_next G P first, all_counted rest, items_size-cons item text)

-- the numbered program of a surface within the limits is as the check of types asks for it
pub fitting_program : (surface : Surface) (P : RawProgram) → surface_size surface ≤ PROGRAM_BYTES → IsWithinNesting surface → IsFilled surface →
    IsNumbering surface P → IsFitting P
fitting_program surface P size within filled numbering =
    let small : items_size surface.items < 2 ^ 32 = omega arith in
    let ordered = all_ordered surface.items numbering.numbered agrees_first numbering.lawful within filled small in
    let counted = all_counted numbering.numbered in
    let short_text : IsSmall surface.items = small_surface surface size filled in
    record {
      short = short_program surface.items P short_text.few numbering.numbered;
      bool = (all_extend numbering.numbered).datatypes 0 raw_bool refl;
      order = subst (AreInOrder P bool_alone) (sym ordered.order) ordered.fits;
      properties = all_once surface.items numbering.numbered agrees_first first_claimed numbering.lawful;
      named = all_named numbering.numbered named_first;
      few = omega arith;
    }

-- so is what is answered
pub fitting_is : (surface : Surface) (text : List Item) (r : Result RawProgram ScopeEnd) → text ≡ surface.items →
    Resolves (text_uses text) (AreNext built_in start text) r → surface_size surface ≤ PROGRAM_BYTES → IsWithinNesting surface → IsFilled surface →
    IfOk r IsFitting
fitting_is surface text (Ok P) same (fine, are) size within filled = fitting_program surface P size within filled (record {
  lawful = ap (λ xs. first_broken (text_uses xs)) (sym same) ∙ fine;
  numbered = subst (λ xs. AreNext built_in start xs P) same are;
})
fitting_is surface text (Err end) same fails size within filled = tt
