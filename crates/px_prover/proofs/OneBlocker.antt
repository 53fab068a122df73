-- A pair has one list of leaf pairs, and a branch at most one blocker.
use Rattle.std.proofs.Common.{◌≡◌, ℕ, ◌+◌, List, [], ◌∷◌, ◌++◌, Option, refl, sym, ap, ◌∙◌, subst}
use Rattle.px_terms.specs.declared.term.Term.{Term, out-Term}
use Rattle.px_terms.specs.declared.term.Term.TheOpen.{Term-F}
use Rattle.px_terms.specs.declared.clause.Clause.{Clause}
use Rattle.px_terms.specs.declared.program.Program.{Program}
use Rattle.px_terms.specs.Rows.{HaveOneHead}
use Rattle.px_prover.specs.declared.branch.Branch.{Branch}
use Rattle.px_prover.specs.Settling.{NormalSides, sides}
use Rattle.px_prover.specs.Closing.{LeafPair, AreLeafPairs, AreLeafPairsOfFields, equal, fields, itself, no_field, more_fields, Closes}
use Rattle.px_prover.specs.Blocking.{BlocksAt, BlocksInFields, IsBlocker, in_fields, at_stop, next_field, this_field, this_one, next_one}
use Rattle.px_prover.specs.Blocking as blocking
use Rattle.px_prover.proofs.OneNorm.{some_one, none_is_not_some}

-- the fields of a constructor
abbrev fields_in : Term-F Term → List Term
fields_in (Term-F.Con d k types parts) = parts
fields_in layer = []

empty_is_not_more : {A : Type 0} {x : A} {xs : List A} → [] ≡ x ∷ xs → ⊥
empty_is_not_more e = cc

-- the first item of a list, if there is one
abbrev first_of : {A : Type 0} → A → List A → A
first_of d [] = d
first_of d (x ∷ xs) = x

-- all items but the first
abbrev others_of : {A : Type 0} → List A → List A
others_of [] = []
others_of (x ∷ xs) = xs

first_one : {A : Type 0} {x y : A} {xs ys : List A} → x ∷ xs ≡ y ∷ ys → x ≡ y
first_one {x = x} e = ap (first_of x) e

others_one : {A : Type 0} {x y : A} {xs ys : List A} → x ∷ xs ≡ y ∷ ys → xs ≡ ys
others_one e = ap others_of e

-- one constructor has one list of fields
pub left_fields : {s t u v : Term} {ls ms ps qs : List Term} → HaveOneHead s t ls ps → HaveOneHead u v ms qs → s ≡ u → ls ≡ ms
left_fields h g e = ap fields_in (sym h.left ∙ ap out-Term e ∙ g.left)

pub right_fields : {s t u v : Term} {ls ms ps qs : List Term} → HaveOneHead s t ls ps → HaveOneHead u v ms qs → t ≡ v → ps ≡ qs
right_fields h g e = ap fields_in (sym h.right ∙ ap out-Term e ∙ g.right)

moved_head : {s t u v : Term} {ls ps : List Term} → s ≡ u → t ≡ v → HaveOneHead s t ls ps → HaveOneHead u v ls ps
moved_head {s} {t} {u} {v} {ls} {ps} es et h = subst (λ (x : Term). HaveOneHead x v ls ps) es (subst (λ (y : Term). HaveOneHead s y ls ps) et h)

-- a leaf pair alone
abbrev alone : List ℕ → Term → Term → List LeafPair
alone path s t = record { path = path; left = s; right = t } ∷ []

same_alone : (path : List ℕ) {s t u v : Term} → s ≡ u → t ≡ v → alone path s t ≡ alone path u v
same_alone path es et = λ k. alone path (es k) (et k)

joined : {A : Type 0} {xs ys us vs : List A} → xs ≡ us → ys ≡ vs → xs ++ ys ≡ us ++ vs
joined ex ey = λ k. (ex k) ++ (ey k)

mutual
  pub leaves_one : (path : List ℕ) {s t u v : Term} {a b : List LeafPair} → AreLeafPairs path s t a → AreLeafPairs path u v b → s ≡ u → t ≡ v → a ≡ b
  leaves_one path (equal p d) (equal q e) es et = d ∙ sym e
  leaves_one path (equal p d) (fields q h rest) es et = absurd (q (sym es ∙ p ∙ et))
  leaves_one path (equal p d) (itself q g e) es et = absurd (q (sym es ∙ p ∙ et))
  leaves_one path (fields p h rest) (equal q e) es et = absurd (p (es ∙ q ∙ sym et))
  leaves_one path (fields p h rest) (fields q g others) es et = leaves_of_fields_one path 0 rest others (left_fields h g es) (right_fields h g et)
  leaves_one path (fields {fields = ls} {parts = ps} p h rest) (itself q g e) es et = absurd (g ls ps (moved_head es et h))
  leaves_one path (itself p h d) (equal q e) es et = absurd (p (es ∙ q ∙ sym et))
  leaves_one path (itself p h d) (fields {fields = ls} {parts = ps} q g rest) es et = absurd (h ls ps (moved_head (sym es) (sym et) g))
  leaves_one path (itself p h d) (itself q g e) es et = d ∙ same_alone path es et ∙ sym e

  leaves_of_fields_one : (path : List ℕ) (i : ℕ) {ls ps ms qs : List Term} {a b : List LeafPair} → AreLeafPairsOfFields path i ls ps a → AreLeafPairsOfFields path i ms qs b →
      ls ≡ ms → ps ≡ qs → a ≡ b
  leaves_of_fields_one path i no_field no_field el ep = refl
  leaves_of_fields_one path i no_field (more_fields first others e) el ep = absurd (empty_is_not_more el)
  leaves_of_fields_one path i (more_fields first others d) no_field el ep = absurd (empty_is_not_more (sym el))
  leaves_of_fields_one path i (more_fields first others d) (more_fields second more e) el ep =
      d ∙ joined (leaves_one (path ++ i ∷ []) first second (first_one el) (first_one ep)) (leaves_of_fields_one path (i + 1) others more (others_one el) (others_one ep)) ∙ sym e

module _ (P : Program) (n : ℕ) (own : Clause) (b : Branch) (a : NormalSides) (steps : ℕ) where
  moved_closes : (path : List ℕ) {s t u v : Term} → s ≡ u → t ≡ v → Closes P n own b (sides a) steps path s t → Closes P n own b (sides a) steps path u v
  moved_closes path {s} {t} {u} {v} es et h =
      subst (λ (x : Term). Closes P n own b (sides a) steps path x v) es (subst (λ (y : Term). Closes P n own b (sides a) steps path s y) et h)

  mutual
    pub blocks_one : (path : List ℕ) {s t u v : Term} {o w : Option Term} → BlocksAt P n own b a steps path s t o → BlocksAt P n own b a steps path u v w →
        s ≡ u → t ≡ v → o ≡ w
    blocks_one path (in_fields h rest) (in_fields g others) es et = fields_block_one path 0 rest others (left_fields h g es) (right_fields h g et)
    blocks_one path (in_fields {fields = ls} {parts = ps} h rest) (at_stop g e) es et = absurd (g ls ps (moved_head es et h))
    blocks_one path (at_stop h d) (in_fields {fields = ls} {parts = ps} g rest) es et = absurd (h ls ps (moved_head (sym es) (sym et) g))
    blocks_one path (at_stop h d) (at_stop g e) es et = d ∙ sym e

    fields_block_one : (path : List ℕ) (i : ℕ) {ls ps ms qs : List Term} {o w : Option Term} → BlocksInFields P n own b a steps path i ls ps o →
        BlocksInFields P n own b a steps path i ms qs w → ls ≡ ms → ps ≡ qs → o ≡ w
    fields_block_one path i blocking.no_field blocking.no_field el ep = refl
    fields_block_one path i blocking.no_field (next_field h rest) el ep = absurd (empty_is_not_more el)
    fields_block_one path i blocking.no_field (this_field h at) el ep = absurd (empty_is_not_more el)
    fields_block_one path i (next_field h rest) blocking.no_field el ep = absurd (empty_is_not_more (sym el))
    fields_block_one path i (next_field h rest) (next_field g others) el ep = fields_block_one path (i + 1) rest others (others_one el) (others_one ep)
    fields_block_one path i (next_field h rest) (this_field g at) el ep = absurd (g (moved_closes (path ++ i ∷ []) (first_one el) (first_one ep) h))
    fields_block_one path i (this_field h at) blocking.no_field el ep = absurd (empty_is_not_more (sym el))
    fields_block_one path i (this_field h at) (next_field g others) el ep = absurd (h (moved_closes (path ++ i ∷ []) (sym (first_one el)) (sym (first_one ep)) g))
    fields_block_one path i (this_field h at) (this_field g bt) el ep = blocks_one (path ++ i ∷ []) at bt (first_one el) (first_one ep)

pub blocker_one : {P : Program} {n : ℕ} {own : Clause} {b : Branch} {steps : ℕ} {alternatives : List NormalSides} {u v : Term} →
    IsBlocker P n own b steps alternatives u → IsBlocker P n own b steps alternatives v → u ≡ v
blocker_one {P} {n} {own} {b} {steps} (this_one {a = a} x) (this_one y) = some_one (blocks_one P n own b a steps [] x y refl refl)
blocker_one {P} {n} {own} {b} {steps} (this_one {a = a} x) (next_one y rest) = absurd (none_is_not_some (sym (blocks_one P n own b a steps [] x y refl refl)))
blocker_one {P} {n} {own} {b} {steps} (next_one {a = a} x rest) (this_one y) = absurd (none_is_not_some (blocks_one P n own b a steps [] x y refl refl))
blocker_one (next_one x rest) (next_one y others) = blocker_one rest others
