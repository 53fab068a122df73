-- In the program of a written one the definitions, and the parameters of each, are numbered below 2^32.
use Rattle.std.proofs.Common.{◌≡◌, ℕ, zero, suc, ◌+◌, ◌<◌, ◌^◌, ◌⊎◌, List, [], ◌∷◌, ◌++◌, length, Some, refl, sym, ◌∙◌, ap, subst, inl, inr}
use Rattle.std.specs.Prelude.{slice_get}
use Rattle.px_base.specs.declared.raw.Decl.{Decl}
use Rattle.px_base.specs.declared.raw.RawTy.{RawTy}
use Rattle.px_base.specs.declared.raw.RawDef.{RawDef}
use Rattle.px_base.specs.declared.raw.RawProgram.{RawProgram}
use Rattle.px_base.specs.Fitting.{Counts, IsDefIn, AreInOrder, bool_alone, IsFitting}
use Rattle.px_base.specs.Fitting as fitting
use Rattle.px_terms.specs.declared.types.Ty.{Ty}
use Rattle.px_terms.specs.declared.program.Def.{Def}
use Rattle.px_terms.specs.declared.program.Program.{Program}
use Rattle.px_types.specs.Written.{AreTys}
use Rattle.px_types.specs.Written as written
use Rattle.px_types.specs.Declarations.{IsSignature, IsNext, AreNext, IsProgramOf}
use Rattle.px_types.specs.Declarations as declarations
use Rattle.px_drive.specs.Arguments.{DefinitionsAreNumbered}

-- The parameters of each of these definitions are numbered.
record HaveFew (defs : List Def) : Type 0 where
  each : (n : ℕ) (D : Def) → slice_get defs n ≡ Some D → length D.params < 2 ^ 32

tys_length : {raws : List RawTy} {types : List Ty} → AreTys raws types → length raws ≡ length types
tys_length written.none = refl
tys_length (written.more first are) = ap suc (tys_length are)

-- the definition at a place of a list with one more is one of the list, or the last one
last_or_before : (xs : List Def) (x : Def) (d : ℕ) (y : Def) → slice_get (xs ++ x ∷ []) d ≡ Some y → (slice_get xs d ≡ Some y) ⊎ (x ≡ y)
last_or_before [] x zero y e = inr cc
last_or_before [] x (suc d) y e = absurd cc
last_or_before (z ∷ xs) x zero y e = inl e
last_or_before (z ∷ xs) x (suc d) y e = by (last_or_before xs x d y e)
  where
    by : (slice_get xs d ≡ Some y) ⊎ (x ≡ y) → (slice_get (z ∷ xs) (suc d) ≡ Some y) ⊎ (x ≡ y)
    by (inl before) = inl before
    by (inr last) = inr last

one_definition_more : (defs : List Def) (D : Def) → length D.params < 2 ^ 32 → HaveFew defs → HaveFew (defs ++ D ∷ [])
one_definition_more defs D few before = record { each = λ n E e. by n E (last_or_before defs D n E e) }
  where
    by : (n : ℕ) (E : Def) → (slice_get defs n ≡ Some E) ⊎ (D ≡ E) → length E.params < 2 ^ 32
    by n E (inl e) = before.each n E e
    by n E (inr last) = subst (λ (F : Def). length F.params < 2 ^ 32) last few

-- a written definition that fits has few parameters, and so has the one that it is
few_of : (raw : RawProgram) (C : Counts) (n seen : ℕ) (w d : RawDef) (D : Def) → slice_get raw.defs n ≡ Some w → slice_get raw.defs n ≡ Some d → IsDefIn raw C w → IsSignature seen d D → length D.params < 2 ^ 32
few_of raw C n seen w d D stands here fits is =
    let same : w ≡ d = let both : Some w ≡ Some d = sym stands ∙ here in cc in
    let few : length w.params < 2 ^ 32 = fits.parameters.few_values in
    subst (λ (m : ℕ). m < 2 ^ 32) (ap (λ (e : RawDef). length e.params) same ∙ tys_length is.params) few

-- What a declaration makes, and the order of those that are left.
record IsTaken (raw : RawProgram) (rest : List Decl) (Q : Program) : Type 0 where
  counts : Counts
  few : HaveFew Q.defs
  order : AreInOrder raw counts rest

taken : (raw : RawProgram) (C : Counts) (rest : List Decl) (Q : Program) (defs : List Def) → Q.defs ≡ defs → HaveFew defs → AreInOrder raw C rest → IsTaken raw rest Q
taken raw C rest Q defs same few order = record { counts = C; few = subst HaveFew (sym same) few; order = order }

one_more : {raw : RawProgram} {C : Counts} {P Q : Program} {d : Decl} {rest : List Decl} → HaveFew P.defs → AreInOrder raw C (d ∷ rest) → IsNext raw P d Q → IsTaken raw rest Q
one_more {raw} {C} {P} {Q} {rest = rest} before (fitting.definition {n = n} {raw = w} place stands fits order) (declarations.definition {d = d} {D = D} here is body typed fit same) =
    taken raw (record C { defs = C.defs + 1 }) rest Q (P.defs ++ D ∷ []) (ap (λ (R : Program). R.defs) same) (one_definition_more P.defs D (few_of raw C n (length P.declared) w d D stands here fits is) before) order
one_more {raw} {C} {P} {Q} {rest = rest} before (fitting.datatype place stands fits order) (declarations.datatype here is typed same) =
    taken raw (record C { datatypes = C.datatypes + 1 }) rest Q P.defs (ap (λ (R : Program). R.defs) same) before order
one_more {raw} {C} {P} {Q} {rest = rest} before (fitting.claim place stands fits order) (declarations.claim here fit same) =
    taken raw (record C { claims = C.claims + 1 }) rest Q P.defs (ap (λ (R : Program). R.defs) same) before order
one_more {raw} {C} {P} {Q} {rest = rest} before (fitting.lemma place stands fits order) (declarations.lemma here is typed same) =
    taken raw (record C { lemmas = C.lemmas + 1 }) rest Q P.defs (ap (λ (R : Program). R.defs) same) before order
one_more {raw} {C} {P} {Q} {rest = rest} before (fitting.replica place stands fits order) (declarations.replica here is typed same) =
    taken raw (record C { replicas = C.replicas + 1 }) rest Q P.defs (ap (λ (R : Program). R.defs) same) before order

all_more : {raw : RawProgram} {P Q : Program} {decls : List Decl} → AreNext raw P decls Q → (C : Counts) → HaveFew P.defs → AreInOrder raw C decls → IsTaken raw [] Q
all_more declarations.none C before order = record { counts = C; few = before; order = order }
all_more {raw} (declarations.more {P} {Q} {R} {d} {rest} next others) C before order =
    let one : IsTaken raw rest Q = one_more before order next in
    all_more others one.counts one.few one.order

nothing_few : HaveFew []
nothing_few = record { each = λ n D e. absurd cc }

-- in the program of a written one the numbers of definitions and of their parameters are below 2^32
pub definitions_numbered : (raw : RawProgram) (P : Program) → IsFitting raw → IsProgramOf raw P → DefinitionsAreNumbered P
definitions_numbered raw P fits is =
    let t : IsTaken raw [] is.nameless = all_more is.typed bool_alone nothing_few fits.order in
    let short : length raw.defs < 2 ^ 32 = fits.short.defs in
    let many : length raw.names.defs ≡ length raw.defs = fits.named.defs in
    record {
      names = subst (λ (Q : Program). length Q.names.defs < 2 ^ 32) (sym is.named) (subst (λ (m : ℕ). m < 2 ^ 32) (sym many) short);
      params = subst (λ (Q : Program). (n : ℕ) (D : Def) → slice_get Q.defs n ≡ Some D → length D.params < 2 ^ 32) (sym is.named) t.few.each;
    }
