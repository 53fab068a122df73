-- The lists of a numbered program are no longer than its text, but for `Bool`.
use Rattle.std.proofs.Common.{◌≡◌, ℕ, ◌+◌, ◌<◌, ◌≤◌, ◌^◌, List, [], ◌∷◌, ◌++◌, length, arith, sym, subst, length-append}
use Rattle.px_base.specs.declared.raw.Decl.TheVariants as decl
use Rattle.px_base.specs.declared.raw.RawProgram.{RawProgram}
use Rattle.px_base.specs.Fitting.{AreShort}
use Rattle.px_parser.specs.declared.surface.Item.{Item}
use Rattle.px_scope.specs.declared.globals.Globals.{Globals}
use Rattle.px_scope.specs.Standing.{built_in}
use Rattle.px_scope.specs.Programs.{IsNext, AreNext, start}

pub one_longer : {A : Type 0} (xs : List A) (x : A) → length (xs ++ x ∷ []) ≡ length xs + 1
one_longer xs x = omega (arith, length-append xs (x ∷ []))

-- Each list has at most so many items, and the list of datatypes one more.
record AreAtMost (P : RawProgram) (n : ℕ) : Type 0 where
  order : length P.order ≤ n
  datatypes : length P.datatypes ≤ n + 1
  defs : length P.defs ≤ n
  claims : length P.claims ≤ n
  lemmas : length P.lemmas ≤ n
  replicas : length P.replicas ≤ n

-- a declaration makes two lists longer, each by one
one_more : (G : Globals) (P : RawProgram) {item : Item} {Q : RawProgram} (n : ℕ) → AreAtMost P n → IsNext G P item Q → AreAtMost Q (n + 1)
one_more G P n most (IsNext.datatype {raw = raw} is e) =
    subst (λ (x : RawProgram). AreAtMost x (n + 1)) (sym e) (record {
      order = omega (arith, most.order, one_longer P.order (decl.Datatype (length P.datatypes)));
      datatypes = omega (arith, most.datatypes, one_longer P.datatypes raw);
      defs = omega (arith, most.defs);
      claims = omega (arith, most.claims);
      lemmas = omega (arith, most.lemmas);
      replicas = omega (arith, most.replicas);
    })
one_more G P n most (IsNext.definition {raw = raw} is e) =
    subst (λ (x : RawProgram). AreAtMost x (n + 1)) (sym e) (record {
      order = omega (arith, most.order, one_longer P.order (decl.Definition (length P.defs)));
      datatypes = omega (arith, most.datatypes);
      defs = omega (arith, most.defs, one_longer P.defs raw);
      claims = omega (arith, most.claims);
      lemmas = omega (arith, most.lemmas);
      replicas = omega (arith, most.replicas);
    })
one_more G P n most (IsNext.claim {raw = raw} is e) =
    subst (λ (x : RawProgram). AreAtMost x (n + 1)) (sym e) (record {
      order = omega (arith, most.order, one_longer P.order (decl.Claim (length P.claims)));
      datatypes = omega (arith, most.datatypes);
      defs = omega (arith, most.defs);
      claims = omega (arith, most.claims, one_longer P.claims raw);
      lemmas = omega (arith, most.lemmas);
      replicas = omega (arith, most.replicas);
    })
one_more G P n most (IsNext.lemma {raw = raw} is e) =
    subst (λ (x : RawProgram). AreAtMost x (n + 1)) (sym e) (record {
      order = omega (arith, most.order, one_longer P.order (decl.Lemma (length P.lemmas)));
      datatypes = omega (arith, most.datatypes);
      defs = omega (arith, most.defs);
      claims = omega (arith, most.claims);
      lemmas = omega (arith, most.lemmas, one_longer P.lemmas raw);
      replicas = omega (arith, most.replicas);
    })
one_more G P n most (IsNext.replica {raw = raw} is e) =
    subst (λ (x : RawProgram). AreAtMost x (n + 1)) (sym e) (record {
      order = omega (arith, most.order, one_longer P.order (decl.Replica (length P.replicas)));
      datatypes = omega (arith, most.datatypes);
      defs = omega (arith, most.defs);
      claims = omega (arith, most.claims);
      lemmas = omega (arith, most.lemmas);
      replicas = omega (arith, most.replicas, one_longer P.replicas raw);
    })

-- declarations make each list longer by as many at most
all_at_most : {G : Globals} {P : RawProgram} {text : List Item} {Q : RawProgram} → AreNext G P text Q → (n : ℕ) → AreAtMost P n → AreAtMost Q (n + length text)
all_at_most {P = P} AreNext.none n most = record {
  order = omega (arith, most.order);
  datatypes = omega (arith, most.datatypes);
  defs = omega (arith, most.defs);
  claims = omega (arith, most.claims);
  lemmas = omega (arith, most.lemmas);
  replicas = omega (arith, most.replicas);
}
all_at_most {G = G} {P = P} {Q = R} (AreNext.more {item = item} {text = text} first rest) n most =
    let rests : AreAtMost R (n + 1 + length text) = all_at_most rest (n + 1) (one_more G P n most first) in
    record {
      order = omega (arith, rests.order);
      datatypes = omega (arith, rests.datatypes);
      defs = omega (arith, rests.defs);
      claims = omega (arith, rests.claims);
      lemmas = omega (arith, rests.lemmas);
      replicas = omega (arith, rests.replicas);
    }

-- the lists of the numbered program of a short text are short
pub short_program : (text : List Item) (P : RawProgram) → length text < 2 ^ 31 → AreNext built_in start text P → AreShort P
short_program text P few are =
    let first : AreAtMost start 0 = record { order = omega arith; datatypes = omega arith; defs = omega arith; claims = omega arith; lemmas = omega arith; replicas = omega arith } in
    let most : AreAtMost P (0 + length text) = all_at_most are 0 first in
    record {
      order = omega (arith, few, most.order);
      datatypes = omega (arith, few, most.datatypes);
      defs = omega (arith, few, most.defs);
      claims = omega (arith, few, most.claims);
      lemmas = omega (arith, few, most.lemmas);
      replicas = omega (arith, few, most.replicas);
    }
