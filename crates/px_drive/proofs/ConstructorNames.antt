-- In the program of a written one each constructor has a name.
use Rattle.std.proofs.Common.{◌≡◌, ℕ, zero, suc, ◌+◌, ◌<◌, ◌⊎◌, List, [], ◌∷◌, ◌++◌, length, Option, Some, None, refl, sym, ◌∙◌, ap, subst, inl, inr, arith}
use Rattle.std.specs.Prelude.{IsSome, slice_get, unwrap_or}
use Rattle.std.proofs.lemmas.List.{length-append}
use Rattle.std.proofs.lemmas.Option.{slice_get_within}
use Rattle.px_base.specs.declared.raw.Decl.{Decl}
use Rattle.px_base.specs.declared.raw.RawCon.{RawCon}
use Rattle.px_base.specs.declared.raw.RawData.{RawData}
use Rattle.px_base.specs.declared.raw.RawProgram.{RawProgram}
use Rattle.px_base.specs.Fitting.{Counts, AreInOrder, HasNames, bool_alone, IsFitting}
use Rattle.px_base.specs.Fitting as fitting
use Rattle.px_terms.specs.declared.program.ConDef.{ConDef}
use Rattle.px_terms.specs.declared.program.DataDef.{DataDef}
use Rattle.px_terms.specs.declared.program.Program.{Program}
use Rattle.px_terms.specs.Programs.{bool_data, constructor_at}
use Rattle.px_types.specs.Declarations.{AreCons, IsData, IsNext, AreNext, start, IsProgramOf}
use Rattle.px_types.specs.Declarations as declarations

-- The datatype of this number is written with as many constructors.
record IsWrittenAt (raw : RawProgram) (d : ℕ) (D : DataDef) : Type 0 where
  written : RawData
  at : slice_get raw.datatypes d ≡ Some written
  many : length written.cons ≡ length D.cons

-- These datatypes, so many, are the first that are written.
record AreWritten (raw : RawProgram) (count : ℕ) (datatypes : List DataDef) : Type 0 where
  many : count ≡ length datatypes
  each : (d : ℕ) (D : DataDef) → slice_get datatypes d ≡ Some D → IsWrittenAt raw d D

cons_length : {raws : List RawCon} {cons : List ConDef} → AreCons raws cons → length raws ≡ length cons
cons_length declarations.none = refl
cons_length (declarations.more fields are) = ap suc (cons_length are)

-- an item of a list with one more is of the list, or the last one
last_or_before : (xs : List DataDef) (x : DataDef) (d : ℕ) (y : DataDef) → slice_get (xs ++ x ∷ []) d ≡ Some y → (slice_get xs d ≡ Some y) ⊎ ((d ≡ length xs) × (x ≡ y))
last_or_before [] x zero y e = inr (refl, cc)
last_or_before [] x (suc d) y e = absurd cc
last_or_before (z ∷ xs) x zero y e = inl e
last_or_before (z ∷ xs) x (suc d) y e = by (last_or_before xs x d y e)
  where
    by : (slice_get xs d ≡ Some y) ⊎ ((d ≡ length xs) × (x ≡ y)) → (slice_get (z ∷ xs) (suc d) ≡ Some y) ⊎ ((suc d ≡ length (z ∷ xs)) × (x ≡ y))
    by (inl before) = inl before
    by (inr last) = inr (ap suc last.0, last.1)

one_datatype_more : (raw : RawProgram) (count : ℕ) (datatypes : List DataDef) (written : RawData) (D : DataDef) → slice_get raw.datatypes count ≡ Some written → IsData written D → AreWritten raw count datatypes → AreWritten raw (count + 1) (datatypes ++ D ∷ [])
one_datatype_more raw count datatypes written D at is before = record {
  many = (let n : length (datatypes ++ D ∷ []) ≡ length datatypes + 1 = length-append datatypes (D ∷ []) in let m : count ≡ length datatypes = before.many in omega arith);
  each = λ d E e. by d E (last_or_before datatypes D d E e);
}
  where
    by : (d : ℕ) (E : DataDef) → (slice_get datatypes d ≡ Some E) ⊎ ((d ≡ length datatypes) × (D ≡ E)) → IsWrittenAt raw d E
    by d E (inl e) = before.each d E e
    by d E (inr last) =
        let here : d ≡ count = last.0 ∙ sym before.many in
        record { written = written; at = ap (λ (n : ℕ). slice_get raw.datatypes n) here ∙ at; many = cons_length is.cons ∙ ap (λ (F : DataDef). length F.cons) last.1 }

-- What a declaration makes, and the order of those that are left.
record IsTaken (raw : RawProgram) (rest : List Decl) (Q : Program) : Type 0 where
  counts : Counts
  written : AreWritten raw counts.datatypes Q.datatypes
  order : AreInOrder raw counts rest

taken : (raw : RawProgram) (C : Counts) (rest : List Decl) (Q : Program) (datatypes : List DataDef) → Q.datatypes ≡ datatypes → AreWritten raw C.datatypes datatypes → AreInOrder raw C rest → IsTaken raw rest Q
taken raw C rest Q datatypes same before order = record { counts = C; written = subst (AreWritten raw C.datatypes) (sym same) before; order = order }

one_more : {raw : RawProgram} {C : Counts} {P Q : Program} {d : Decl} {rest : List Decl} → AreWritten raw C.datatypes P.datatypes → AreInOrder raw C (d ∷ rest) → IsNext raw P d Q → IsTaken raw rest Q
one_more {raw} {C} {P} {Q} {rest = rest} before (fitting.datatype {n = n} {raw = w} place stands fits order) (declarations.datatype {d = d} {D = D} here is typed same) =
    let at : slice_get raw.datatypes C.datatypes ≡ Some d = subst (λ (m : ℕ). slice_get raw.datatypes m ≡ Some d) place here in
    taken raw (record C { datatypes = C.datatypes + 1 }) rest Q (P.datatypes ++ D ∷ []) (ap (λ (R : Program). R.datatypes) same) (one_datatype_more raw C.datatypes P.datatypes d D at is before) order
one_more {raw} {C} {P} {Q} {rest = rest} before (fitting.definition place stands fits order) (declarations.definition here is body typed fit same) =
    taken raw (record C { defs = C.defs + 1 }) rest Q P.datatypes (ap (λ (R : Program). R.datatypes) same) before order
one_more {raw} {C} {P} {Q} {rest = rest} before (fitting.claim place stands fits order) (declarations.claim here fit same) =
    taken raw (record C { claims = C.claims + 1 }) rest Q P.datatypes (ap (λ (R : Program). R.datatypes) same) before order
one_more {raw} {C} {P} {Q} {rest = rest} before (fitting.lemma place stands fits order) (declarations.lemma here is typed same) =
    taken raw (record C { lemmas = C.lemmas + 1 }) rest Q P.datatypes (ap (λ (R : Program). R.datatypes) same) before order
one_more {raw} {C} {P} {Q} {rest = rest} before (fitting.replica place stands fits order) (declarations.replica here is typed same) =
    taken raw (record C { replicas = C.replicas + 1 }) rest Q P.datatypes (ap (λ (R : Program). R.datatypes) same) before order

all_more : {raw : RawProgram} {P Q : Program} {decls : List Decl} → AreNext raw P decls Q → (C : Counts) → AreWritten raw C.datatypes P.datatypes → AreInOrder raw C decls → IsTaken raw [] Q
all_more declarations.none C before order = record { counts = C; written = before; order = order }
all_more {raw} (declarations.more {P} {Q} {R} {d} {rest} next others) C before order =
    let one : IsTaken raw rest Q = one_more before order next in
    all_more others one.counts one.written one.order

bool_written : (raw : RawProgram) → IsFitting raw → AreWritten raw 1 (bool_data ∷ [])
bool_written raw fits = record { many = refl; each = by }
  where
    by : (d : ℕ) (D : DataDef) → slice_get (bool_data ∷ []) d ≡ Some D → IsWrittenAt raw d D
    by zero D e = let same : bool_data ≡ D = cc in record { written = fitting.raw_bool; at = fits.bool; many = ap (λ (E : DataDef). length E.cons) same }
    by (suc d) D e = absurd cc

within : {X : Type 0} (xs : List X) (k : ℕ) → IsSome (slice_get xs k) → k < length xs
within [] k is = absurd cc
within (x ∷ xs) zero is = omega arith
within (x ∷ xs) (suc k) is = let h = within xs k is in omega arith

is_there : {X : Type 0} (xs : List X) (k : ℕ) → k < length xs → IsSome (slice_get xs k)
is_there [] k less = absurd (omega arith)
is_there (x ∷ xs) zero less = refl
is_there (x ∷ xs) (suc k) less = is_there xs k (omega arith)

-- the names of a datatype's constructors are as many as these
some_name : (raw : RawProgram) → HasNames raw → (d k : ℕ) (written : RawData) → slice_get raw.datatypes d ≡ Some written → k < length written.cons → IsSome (slice_get (unwrap_or (slice_get raw.names.cons d) []) k)
some_name raw named d k written at less =
    let below : d < length raw.datatypes = slice_get_within raw.datatypes d written at in
    let many : length raw.names.cons ≡ length raw.datatypes = named.cons in
    by (slice_get raw.names.cons d) refl (is_there raw.names.cons d (omega arith))
  where
    by : (o : Option (List (List ℕ))) → slice_get raw.names.cons d ≡ o → IsSome o → IsSome (slice_get (unwrap_or o []) k)
    by (Some own) e is = let long : length own ≡ length written.cons = named.constructors d written own at e in is_there own k (omega arith)
    by None e is = absurd cc

nameless_have : (raw : RawProgram) (nameless : Program) → HasNames raw → IsTaken raw [] nameless → (d k : ℕ) → IsSome (constructor_at nameless d k) → IsSome (slice_get (unwrap_or (slice_get raw.names.cons d) []) k)
nameless_have raw nameless named t d k is = by (slice_get nameless.datatypes d) refl
  where
    by : (o : Option DataDef) → slice_get nameless.datatypes d ≡ o → IsSome (slice_get (unwrap_or (slice_get raw.names.cons d) []) k)
    by (Some D) e =
        let there : constructor_at nameless d k ≡ slice_get D.cons k = rw e refl in
        let less : k < length D.cons = within D.cons k (subst IsSome there is) in
        let w : IsWrittenAt raw d D = t.written.each d D e in
        let many : length w.written.cons ≡ length D.cons = w.many in
        some_name raw named d k w.written w.at (omega arith)
    by None e =
        let there : constructor_at nameless d k ≡ None = rw e refl in
        let no : IsSome {T = ConDef} None = subst IsSome there is in
        absurd cc

-- in the program of a written one each constructor has a name
pub have_names : (raw : RawProgram) (P : Program) → IsFitting raw → IsProgramOf raw P → (d k : ℕ) → IsSome (constructor_at P d k) → IsSome (slice_get (unwrap_or (slice_get P.names.cons d) []) k)
have_names raw P fits is d k =
    let t : IsTaken raw [] is.nameless = all_more is.typed bool_alone (bool_written raw fits) fits.order in
    subst (λ (Q : Program). IsSome (constructor_at Q d k) → IsSome (slice_get (unwrap_or (slice_get Q.names.cons d) []) k)) (sym is.named) (nameless_have raw is.nameless fits.named t d k)
