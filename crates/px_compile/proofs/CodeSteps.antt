-- What the loops of the compiler have made so far.
use Rattle.std.proofs.Common.{◌≡◌, ℕ, zero, suc, ◌+◌, ◌<◌, ◌≤◌, List, [], ◌∷◌, ◌++◌, length, take, drop, map, reverse, get_or, sym, ap, ◌∙◌, arith}
use Rattle.std.proofs.lemmas.List.{length-reverse, map-append, reverse-append, take_all, take_more}
use Rattle.px_terms.specs.declared.term.Term.{Term}
use Rattle.px_terms.specs.declared.program.Def as definition
use Rattle.px_terms.specs.declared.program.Program.{Program}
use Rattle.px_terms.specs.Descent.{field_count}
use Rattle.px_machine.specs.declared.code.Instr.{Instr}
use Rattle.px_machine.specs.declared.code.Instr.TheVariants.{Forget, Jump}
use Rattle.px_compile.specs.Layout.{arms_code, arms_places, term_code, definition_code, program_code}

-- The code and the places of the arms from this constructor on are made, in front of the code that was there; the last come first.
pub record ArmsStand (P : Program) (d con : ℕ) (arms : List Term) (locals : ℕ) (before code : List Instr) (places : List ℕ) : Type 0 where
  pub code_is : reverse code ≡ arms_code P d con (map (term_code P) (drop con arms)) locals (length before) (reverse before)
  pub places_are : reverse places ≡ arms_places P d con (map (term_code P) (drop con arms)) locals (length before) (reverse before)

-- what is put at the end is the first from the end
in_front : {A : Type 0} (old new : List A) (x : A) → new ≡ old ++ x ∷ [] → reverse new ≡ x ∷ reverse old
in_front old new x e = ap reverse e ∙ reverse-append old (x ∷ [])

-- a list from a place of it on
from_place : {A : Type 0} (xs : List A) (i : ℕ) (x : A) → i < length xs → x ≡ get_or xs i x → drop i xs ≡ x ∷ drop (suc i) xs
from_place [] i x within is = let wrong : ⊥ = omega (arith, within) in absurd wrong
from_place (y ∷ xs) zero x within is = ap (λ z. z ∷ xs) (sym is)
from_place (y ∷ xs) (suc i) x within is = from_place xs i x (omega (arith, within)) is

module _ (P : Program) (d : ℕ) (arms : List Term) (locals : ℕ) (before : List Instr) where
  -- the arms from a constructor on, which is one more than this
  one_before : (i con : ℕ) (arm : Term) → con ≡ suc i → i < length arms → arm ≡ get_or arms i arm →
      map (term_code P) (drop i arms) ≡ term_code P arm ∷ map (term_code P) (drop con arms)
  one_before i con arm next within is =
      ap (map (term_code P)) (from_place arms i arm within is) ∙ ap (λ (n : ℕ). term_code P arm ∷ map (term_code P) (drop n arms)) (sym next)

  -- one more arm is made
  pub arm_stands : (i con : ℕ) (code : List Instr) (places : List ℕ) → ArmsStand P d con arms locals before code places → con ≡ suc i → i < length arms → (arm : Term) →
      arm ≡ get_or arms i arm → (fields end inner place : ℕ) → fields ≡ field_count P d i → end ≡ length before → inner ≡ locals + fields →
      (one two new : List Instr) → one ≡ code ++ Jump end ∷ [] → two ≡ one ++ Forget fields ∷ [] → (Q : Program) → Q ≡ P →
      reverse new ≡ term_code Q arm inner (reverse two) → place ≡ length new → (new_places : List ℕ) → new_places ≡ places ++ place ∷ [] →
      ArmsStand P d i arms locals before new new_places
  arm_stands i con code places so_far next within arm is fields end inner place many here around one two new jumps forgets Q same emitted counted new_places added =
      let parts = map (term_code P) (drop con arms) in
      let count : con ≡ i + 1 = omega (arith, next) in
      let later = arms_code P d (i + 1) parts locals (length before) (reverse before) in
      let code_later : reverse code ≡ later = so_far.code_is ∙ ap (λ (n : ℕ). arms_code P d n parts locals (length before) (reverse before)) count in
      let places_later : reverse places ≡ arms_places P d (i + 1) parts locals (length before) (reverse before) =
      so_far.places_are ∙ ap (λ (n : ℕ). arms_places P d n parts locals (length before) (reverse before)) count in
      let w = field_count P d i in
      let behind : reverse two ≡ Forget w ∷ Jump (length before) ∷ later =
      in_front one two (Forget fields) forgets ∙ ap (λ xs. Forget fields ∷ xs) (in_front code one (Jump end) jumps)
      ∙ (λ k. Forget (many k) ∷ Jump (here k) ∷ code_later k) in
      let code_new : reverse new ≡ term_code P arm (locals + w) (Forget w ∷ Jump (length before) ∷ later) =
      emitted ∙ ap (λ (R : Program). term_code R arm inner (reverse two)) same
      ∙ ap (λ (n : ℕ). term_code P arm n (reverse two)) (around ∙ ap (λ (n : ℕ). locals + n) many)
      ∙ ap (term_code P arm (locals + w)) behind in
      let all = one_before i con arm next within is in
      let place_is : place ≡ length (term_code P arm (locals + w) (Forget w ∷ Jump (length before) ∷ later)) =
      counted ∙ sym (length-reverse new) ∙ ap length code_new in
      record {
        code_is = code_new ∙ ap (λ ps. arms_code P d i ps locals (length before) (reverse before)) (sym all);
        places_are =
            in_front places new_places place added ∙ (λ k. place_is k ∷ places_later k)
            ∙ ap (λ ps. arms_places P d i ps locals (length before) (reverse before)) (sym all);
      }

-- one more definition is compiled
pub one_compiled : (P : Program) (items : List definition.Def) (code new : List (List Instr)) (added : List Instr) (i : ℕ) (D : definition.Def) → i < length items →
    D ≡ get_or items i D → code ≡ map (definition_code P) (take i items) → added ≡ definition_code P D → new ≡ code ++ added ∷ [] →
    new ≡ map (definition_code P) (take (i + 1) items)
one_compiled P items code new added i D within is so_far made pushed =
    pushed ∙ (λ k. so_far k ++ (made ∙ ap (definition_code P) is) k ∷ []) ∙ sym (map-append (definition_code P) (take i items) (get_or items i D ∷ []))
    ∙ ap (map (definition_code P)) (sym (take_more items i D within))

-- all definitions are compiled
pub all_compiled : (P Q : Program) (items : List definition.Def) (code : List (List Instr)) (i : ℕ) → Q ≡ P → items ≡ Q.defs →
    code ≡ map (definition_code Q) (take i items) → length items ≤ i → code ≡ program_code P
all_compiled P Q items code i same are is past =
    is ∙ ap (map (definition_code Q)) (take_all i items past ∙ are) ∙ ap (λ (R : Program). map (definition_code R) R.defs) same
