-- Programs, declaration by declaration.
use Rattle.std.proofs.Common.{◌≡◌, inl, inr, ℕ, ◌+◌, ◌<◌, ◌≤◌, ◌^◌, List, [], ◌∷◌, ◌++◌, length, take, get_or, Option, Some, None, Result, Ok, Err, refl, sym, ap, ◌∙◌, subst, arith, length-append}
use Rattle.std.specs.List.{fold}
use Rattle.std.specs.Result.{IsErrAnd}
use Rattle.std.proofs.lemmas.List.{take_more, take_all, length-set}
use Rattle.px_base.specs.declared.prop.Prop.{Prop}
use Rattle.px_base.specs.declared.raw.Decl.{Decl}
use Rattle.px_base.specs.declared.raw.Decl.TheVariants as decl
use Rattle.px_base.specs.declared.raw.RawData.{RawData}
use Rattle.px_base.specs.declared.raw.RawDef.{RawDef}
use Rattle.px_base.specs.declared.raw.RawClaim.{RawClaim}
use Rattle.px_base.specs.declared.raw.RawLemma.{RawLemma}
use Rattle.px_base.specs.declared.raw.RawReplica.{RawReplica}
use Rattle.px_base.specs.declared.raw.RawProgram.{RawProgram}
use Rattle.px_parser.specs.declared.surface.SData.{SData}
use Rattle.px_parser.specs.declared.surface.SDef.{SDef}
use Rattle.px_parser.specs.declared.surface.SClaim.{SClaim}
use Rattle.px_parser.specs.declared.surface.SLemma.{SLemma}
use Rattle.px_parser.specs.declared.surface.SReplica.{SReplica}
use Rattle.px_parser.specs.declared.surface.Item.{Item}
use Rattle.px_parser.specs.declared.surface.Item.TheVariants as items
use Rattle.px_parser.specs.declared.surface.Surface.{Surface}
use Rattle.px_scope.specs.declared.ends.ScopeEnd.{ScopeEnd}
use Rattle.px_scope.specs.declared.ends.ScopeEnd.TheVariants.{Fault, NoMemory}
use Rattle.px_scope.specs.declared.globals.Meaning.{Meaning}
use Rattle.px_scope.specs.declared.globals.Meaning.TheVariants.{Wle, Weq, Definition, Lemma, Replica}
use Rattle.px_scope.specs.declared.globals.Globals.{Globals}
use Rattle.px_scope.specs.Standing.{meaning_of, built_in}
use Rattle.px_scope.specs.Uses.{first_broken}
use Rattle.px_scope.specs.Declaring.{props_of, constructor_names, with_claims_of, after}
use Rattle.px_scope.specs.ItemUses.{data_uses, definition_uses, claim_uses, lemma_uses, replica_uses, item_uses, text_uses}
use Rattle.px_scope.specs.Programs.{IsData, IsDefinition, IsClaim, IsLemma, IsReplica, start, IsNext, datatype, definition, claim, lemma, replica, AreNext, none, more, IsNumbering}
use Rattle.px_scope.specs.Small.{HasRoom}
use Rattle.px_scope.specs.Answers.{Fails, Fine, Resolves, IsUnlessNoMemory}
use Rattle.px_scope.proofs.OneProgram.{all_next}
use Rattle.px_scope.proofs.StateSteps.{Reached, reached_next, reached_fails, reached_all}

-- one declaration more
pub next_push : {G : Globals} {P Q : RawProgram} {xs : List Item} (x : Item) (R : RawProgram) → AreNext G P xs Q → IsNext (fold after G xs) Q x R → AreNext G P (xs ++ x ∷ []) R
next_push x R none next = more next none
next_push x R (more first others) next = more first (next_push x R others next)

pub claims_types : (G : Globals) (meaning : Option Meaning) (props : List Prop) → (with_claims_of G meaning props).datatypes ≡ G.datatypes
claims_types G None props = refl
claims_types G (Some Wle) props = refl
claims_types G (Some Weq) props = refl
claims_types G (Some (Definition n functions)) props = refl
claims_types G (Some Lemma) props = refl
claims_types G (Some Replica) props = refl

pub claims_count : (G : Globals) (meaning : Option Meaning) (props : List Prop) → length (with_claims_of G meaning props).claimed ≡ length G.claimed
claims_count G None props = refl
claims_count G (Some Wle) props = refl
claims_count G (Some Weq) props = refl
claims_count G (Some (Definition n functions)) props = length-set G.claimed n _
claims_count G (Some Lemma) props = refl
claims_count G (Some Replica) props = refl

-- So many declarations were added at most.
pub record Grown (most : ℕ) (G : Globals) (P : RawProgram) : Type 0 where
  pub types : length G.datatypes ≤ most
  pub definitions : length G.claimed ≤ most
  pub datatypes : length P.datatypes ≤ most
  pub defs : length P.defs ≤ most
  pub claims : length P.claims ≤ most
  pub lemmas : length P.lemmas ≤ most
  pub replicas : length P.replicas ≤ most

one_more : {A : Type 0} (xs : List A) (x : A) (most : ℕ) → length xs ≤ most → length (xs ++ x ∷ []) ≤ most + 1
one_more xs x most few = omega (arith, length-append xs (x ∷ []))

types_grow : (G : Globals) (item : Item) (most : ℕ) → length G.datatypes ≤ most → length (after G item).datatypes ≤ most + 1
types_grow G (items.Datatype d) most few = one_more G.datatypes d.name.text most few
types_grow G (items.Definition d) most few = omega arith
types_grow G (items.Claim c) most few = rw (claims_types G (meaning_of G c.name.text) (props_of c.props)) (omega arith)
types_grow G (items.Lemma l) most few = omega arith
types_grow G (items.Replica r) most few = omega arith

claims_grow : (G : Globals) (item : Item) (most : ℕ) → length G.claimed ≤ most → length (after G item).claimed ≤ most + 1
claims_grow G (items.Datatype d) most few = omega arith
claims_grow G (items.Definition d) most few = one_more G.claimed (props_of d.props) most few
claims_grow G (items.Claim c) most few = rw (claims_count G (meaning_of G c.name.text) (props_of c.props)) (omega arith)
claims_grow G (items.Lemma l) most few = omega arith
claims_grow G (items.Replica r) most few = omega arith

program_grows : (G : Globals) (P Q : RawProgram) (item : Item) (most : ℕ) → Grown most G P → IsNext G P item Q → Grown (most + 1) (after G item) Q
program_grows G P Q item most grown (datatype {d = d} {raw = raw} is e) = rw e (record { types = types_grow G item most grown.types; definitions = claims_grow G item most grown.definitions; datatypes = one_more P.datatypes raw most grown.datatypes; defs = omega (arith, grown.defs); claims = omega (arith, grown.claims); lemmas = omega (arith, grown.lemmas); replicas = omega (arith, grown.replicas) })
program_grows G P Q item most grown (definition {d = d} {raw = raw} is e) = rw e (record { types = types_grow G item most grown.types; definitions = claims_grow G item most grown.definitions; datatypes = omega (arith, grown.datatypes); defs = one_more P.defs raw most grown.defs; claims = omega (arith, grown.claims); lemmas = omega (arith, grown.lemmas); replicas = omega (arith, grown.replicas) })
program_grows G P Q item most grown (claim {c = c} {raw = raw} is e) = rw e (record { types = types_grow G item most grown.types; definitions = claims_grow G item most grown.definitions; datatypes = omega (arith, grown.datatypes); defs = omega (arith, grown.defs); claims = one_more P.claims raw most grown.claims; lemmas = omega (arith, grown.lemmas); replicas = omega (arith, grown.replicas) })
program_grows G P Q item most grown (lemma {l = l} {raw = raw} is e) = rw e (record { types = types_grow G item most grown.types; definitions = claims_grow G item most grown.definitions; datatypes = omega (arith, grown.datatypes); defs = omega (arith, grown.defs); claims = omega (arith, grown.claims); lemmas = one_more P.lemmas raw most grown.lemmas; replicas = omega (arith, grown.replicas) })
program_grows G P Q item most grown (replica {r = r} {raw = raw} is e) = rw e (record { types = types_grow G item most grown.types; definitions = claims_grow G item most grown.definitions; datatypes = omega (arith, grown.datatypes); defs = omega (arith, grown.defs); claims = omega (arith, grown.claims); lemmas = omega (arith, grown.lemmas); replicas = one_more P.replicas raw most grown.replicas })

-- The first declarations, so many, break no rule, and are this program.
pub record AreItemsSoFar (text : List Item) (i : ℕ) (G : Globals) (P : RawProgram) : Type 0 where
  pub reached : Reached after (item_uses text) built_in (take i text) G
  pub are : AreNext built_in start (take i text) P
  pub grown : Grown (i + 1) G P

-- no declarations yet
pub no_items : (text : List Item) (G : Globals) (P : RawProgram) → G ≡ built_in → P ≡ start → AreItemsSoFar text 0 G P
no_items text G P G_is P_is = record {
  reached = record { fine = refl; is = G_is };
  are = subst (AreNext built_in start []) (sym P_is) none;
  grown = rw (G_is, P_is) (record { types = omega arith; definitions = omega arith; datatypes = omega arith; defs = omega arith; claims = omega arith; lemmas = omega arith; replicas = omega arith });
}

-- there is room for one more
pub room_for : (text : List Item) (i : ℕ) (G : Globals) (P : RawProgram) → length text < 2 ^ 31 → i < length text → AreItemsSoFar text i G P → HasRoom G P
room_for text i G P few within so_far =
    let grown = so_far.grown in
    record { types = omega (arith, grown.types); definitions = omega (arith, grown.definitions); datatypes = omega (arith, grown.datatypes); defs = omega (arith, grown.defs); claims = omega (arith, grown.claims); lemmas = omega (arith, grown.lemmas); replicas = omega (arith, grown.replicas) }

module _ (text : List Item) (i : ℕ) (G : Globals) (P : RawProgram) (x : Item) (within : i < length text) (at : x ≡ get_or text i x) (so_far : AreItemsSoFar text i G P) where
  -- one declaration more
  pub next_item : (H : Globals) (Q : RawProgram) → first_broken (item_uses text G x) ≡ None → IsNext G P x Q → H ≡ after G x → AreItemsSoFar text (i + 1) H Q
  next_item H Q fine next is =
      let taken : take (i + 1) text ≡ take i text ++ x ∷ [] = take_more text i x within ∙ ap (λ z. take i text ++ z ∷ []) (sym at) in
      let here : IsNext (fold after built_in (take i text)) P x Q = subst (λ K. IsNext K P x Q) so_far.reached.is next in
      record {
        reached = reached_next after (item_uses text) built_in text i G x H within at so_far.reached fine is;
        are = subst (λ xs. AreNext built_in start xs Q) (sym taken) (next_push x Q so_far.are here);
        grown = subst (λ K. Grown (i + 1 + 1) K Q) (sym is) (program_grows G P Q x (i + 1) so_far.grown next);
      }

  -- the next declaration fails, and so do all
  pub item_fails : {Z : Type 0} (Is : Z → Type 0) (r : Result Z ScopeEnd) (end : ScopeEnd) → IsErrAnd r (λ e. e ≡ end) → Fails (first_broken (item_uses text G x)) end → Resolves (text_uses text) Is r
  item_fails Is r end is fails = reached_fails after (item_uses text) built_in text i G Is x r end within at so_far.reached is fails

-- all declarations were seen
pub all_items : (text : List Item) (i : ℕ) (G : Globals) (P : RawProgram) → length text ≤ i → AreItemsSoFar text i G P → Fine (text_uses text) (AreNext built_in start text) P
all_items text i G P ends so_far = ((reached_all after (item_uses text) built_in text i G ends so_far.reached).fine, subst (λ xs. AreNext built_in start xs P) (take_all i text ends) so_far.are)

module _ (text : List Item) (G H : Globals) (P : RawProgram) where
  -- a datatype more in the program
  pub datatype_next : (d : SData) (raw : RawData) (number : ℕ) (order : List Decl) (all : List RawData) (names : List (List ℕ)) (cons : List (List (List ℕ))) (name : List ℕ) (own : List (List ℕ)) → number ≡ length P.datatypes → order ≡ P.order ++ decl.Datatype number ∷ [] → all ≡ P.datatypes ++ raw ∷ [] → name ≡ d.name.text → names ≡ P.names.datatypes ++ name ∷ [] → own ≡ constructor_names d.cons → cons ≡ P.names.cons ++ own ∷ []
      → Fine (data_uses text G d) (λ r. IsData G d r × (H ≡ after G (items.Datatype d))) raw
      → Fine (item_uses text G (items.Datatype d)) (λ (u : Unit {0}). IsNext G P (items.Datatype d) (record P { order = order; datatypes = all; names = record P.names { datatypes = names; cons = cons } }) × (H ≡ after G (items.Datatype d))) tt
  datatype_next d raw number order all names cons name own number_is order_is all_is name_is names_is own_is cons_is (fine, (is, last)) = (fine, (datatype is (rw (order_is, number_is, all_is, names_is, name_is, cons_is, own_is) refl), last))

  -- a definition more in the program
  pub definition_next : (d : SDef) (raw : RawDef) (number : ℕ) (order : List Decl) (all : List RawDef) (names : List (List ℕ)) (name : List ℕ) → number ≡ length P.defs → order ≡ P.order ++ decl.Definition number ∷ [] → all ≡ P.defs ++ raw ∷ [] → name ≡ d.name.text → names ≡ P.names.defs ++ name ∷ []
      → Fine (definition_uses text G d) (λ r. IsDefinition G d r × (H ≡ after G (items.Definition d))) raw
      → Fine (item_uses text G (items.Definition d)) (λ (u : Unit {0}). IsNext G P (items.Definition d) (record P { order = order; defs = all; names = record P.names { defs = names } }) × (H ≡ after G (items.Definition d))) tt
  definition_next d raw number order all names name number_is order_is all_is name_is names_is (fine, (is, last)) = (fine, (definition is (rw (order_is, number_is, all_is, names_is, name_is) refl), last))

  -- a claim more in the program
  pub claim_next : (d : SClaim) (raw : RawClaim) (number : ℕ) (order : List Decl) (all : List RawClaim) → number ≡ length P.claims → order ≡ P.order ++ decl.Claim number ∷ [] → all ≡ P.claims ++ raw ∷ []
      → Fine (claim_uses text G d) (λ r. IsClaim G d r × (H ≡ after G (items.Claim d))) raw
      → Fine (item_uses text G (items.Claim d)) (λ (u : Unit {0}). IsNext G P (items.Claim d) (record P { order = order; claims = all }) × (H ≡ after G (items.Claim d))) tt
  claim_next d raw number order all number_is order_is all_is (fine, (is, last)) = (fine, (claim is (rw (order_is, number_is, all_is) refl), last))

  -- a lemma more in the program
  pub lemma_next : (d : SLemma) (raw : RawLemma) (number : ℕ) (order : List Decl) (all : List RawLemma) (names : List (List ℕ)) (name : List ℕ) → number ≡ length P.lemmas → order ≡ P.order ++ decl.Lemma number ∷ [] → all ≡ P.lemmas ++ raw ∷ [] → name ≡ d.name.text → names ≡ P.names.lemmas ++ name ∷ []
      → Fine (lemma_uses text G d) (λ r. IsLemma G d r × (H ≡ after G (items.Lemma d))) raw
      → Fine (item_uses text G (items.Lemma d)) (λ (u : Unit {0}). IsNext G P (items.Lemma d) (record P { order = order; lemmas = all; names = record P.names { lemmas = names } }) × (H ≡ after G (items.Lemma d))) tt
  lemma_next d raw number order all names name number_is order_is all_is name_is names_is (fine, (is, last)) = (fine, (lemma is (rw (order_is, number_is, all_is, names_is, name_is) refl), last))

  -- a replica more in the program
  pub replica_next : (d : SReplica) (raw : RawReplica) (number : ℕ) (order : List Decl) (all : List RawReplica) (names : List (List ℕ)) (name : List ℕ) → number ≡ length P.replicas → order ≡ P.order ++ decl.Replica number ∷ [] → all ≡ P.replicas ++ raw ∷ [] → name ≡ d.name.text → names ≡ P.names.replicas ++ name ∷ []
      → Fine (replica_uses text G d) (λ r. IsReplica G d r × (H ≡ after G (items.Replica d))) raw
      → Fine (item_uses text G (items.Replica d)) (λ (u : Unit {0}). IsNext G P (items.Replica d) (record P { order = order; replicas = all; names = record P.names { replicas = names } }) × (H ≡ after G (items.Replica d))) tt
  replica_next d raw number order all names name number_is order_is all_is name_is names_is (fine, (is, last)) = (fine, (replica is (rw (order_is, number_is, all_is, names_is, name_is) refl), last))

-- the one numbered program is answered, unless memory runs out
pub each_program_is : (surface : Surface) (text : List Item) (r : Result RawProgram ScopeEnd) → text ≡ surface.items → Resolves (text_uses text) (AreNext built_in start text) r → (P : RawProgram) → IsNumbering surface P → IsUnlessNoMemory (Ok P) r
each_program_is surface text (Ok Q) same (fine, are) P numbering = let one : Q ≡ P = all_next (subst (λ xs. AreNext built_in start xs Q) same are) numbering.numbered in inl (ap Ok one)
each_program_is surface text (Err NoMemory) same fails P numbering = inr refl
each_program_is surface text (Err (Fault kind at)) same fails P numbering = let lawful : first_broken (text_uses text) ≡ None = ap (λ xs. first_broken (text_uses xs)) same ∙ numbering.lawful in absurd cc
