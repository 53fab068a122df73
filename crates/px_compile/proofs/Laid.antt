-- The code of a term stands in front of what follows, and leads forward.
use Rattle.std.proofs.Common.{◌≡◌, ℕ, zero, suc, ◌+◌, ◌-◌, ◌≤◌, List, [], ◌∷◌, length, map, Some, slice_get, refl, sym, ap, ◌∙◌, subst, arith}
use Rattle.std.specs.List.{AllByRecursion}
use Rattle.std.proofs.lemmas.List.{length-append}
use Rattle.px_terms.specs.declared.term.Term.{Term}
use Rattle.px_terms.specs.declared.term.Term.TheOpen.{Term-F}
use Rattle.px_terms.specs.declared.term.Term.TheViews.{roll-Term}
use Rattle.px_terms.specs.declared.term.Term.TheFolds.{ind-Term, map-Term, fold-roll-Term}
use Rattle.px_terms.specs.declared.program.Program.{Program}
use Rattle.px_terms.specs.Descent.{field_count}
use Rattle.px_machine.specs.declared.code.Instr.{Instr}
use Rattle.px_machine.specs.declared.code.Instr.TheVariants.{Local, Lit, Make, Call, Branch, Forget, Jump}
use Rattle.px_machine.specs.Standing.{head_target, targets_of, named_places}
use Rattle.px_compile.specs.Layout.{Part, in_order, arms_code, arms_places, match_code, code_step, term_code}
use Rattle.px_compile.proofs.Steps.{Ends, ends_in}

-- each place that an instruction names, counted from the end, lies behind the instruction
abbrev pub AreForward : List Instr → Type 0
AreForward [] = Unit {0}
AreForward (i ∷ rest) = AllByRecursion (λ (place : ℕ). place ≤ length rest) (named_places i) × AreForward rest

-- The part stands in front of what follows, and leads forward where that does.
pub record IsLaid (part : Part) : Type 0 where
  pub front : (n : ℕ) (rest : List Instr) → Ends (part n rest) rest
  pub forward : (n : ℕ) (rest : List Instr) → AreForward rest → AreForward (part n rest)

abbrev pub AreLaid : List Part → Type 0
AreLaid [] = Unit {0}
AreLaid (part ∷ parts) = IsLaid part × AreLaid parts

pub itself_ends : (rest : List Instr) → Ends rest rest
itself_ends rest = record { front = []; is = refl }

pub one_more_ends : (i : Instr) (rest : List Instr) → Ends (i ∷ rest) rest
one_more_ends i rest = record { front = i ∷ []; is = refl }

pub ends_shorter : (whole rest : List Instr) → Ends whole rest → length rest ≤ length whole
ends_shorter whole rest e = let long : length whole ≡ length e.front + length rest = ap length e.is ∙ length-append e.front rest in omega (arith, long)

pub in_order_ends : (parts : List Part) (n : ℕ) (rest : List Instr) → AreLaid parts → Ends (in_order parts n rest) rest
in_order_ends [] n rest all = itself_ends rest
in_order_ends (part ∷ parts) n rest all =
    ends_in (part n (in_order parts n rest)) (in_order parts n rest) rest (all.0.front n (in_order parts n rest)) (in_order_ends parts n rest all.1)

in_order_forward : (parts : List Part) (n : ℕ) (rest : List Instr) → AreLaid parts → AreForward rest → AreForward (in_order parts n rest)
in_order_forward [] n rest all f = f
in_order_forward (part ∷ parts) n rest all f = all.0.forward n (in_order parts n rest) (in_order_forward parts n rest all.1 f)

module _ (P : Program) (d n end : ℕ) (rest : List Instr) where
  -- what stands behind the code of an arm
  abbrev behind : ℕ → List Part → List Instr
  behind k arms = Forget (field_count P d k) ∷ Jump end ∷ arms_code P d (k + 1) arms n end rest

  arm_ends : (k : ℕ) (arms : List Part) → Ends (behind k arms) (arms_code P d (k + 1) arms n end rest)
  arm_ends k arms = record { front = Forget (field_count P d k) ∷ Jump end ∷ []; is = refl }

  pub arms_end : (k : ℕ) (arms : List Part) → AreLaid arms → Ends (arms_code P d k arms n end rest) rest
  arms_end k [] all = itself_ends rest
  arms_end k (arm ∷ arms) all =
      let later = arms_code P d (k + 1) arms n end rest in
      ends_in (arm (n + field_count P d k) (behind k arms)) later rest
      (ends_in (arm (n + field_count P d k) (behind k arms)) (behind k arms) later (all.0.front (n + field_count P d k) (behind k arms)) (arm_ends k arms))
      (arms_end (k + 1) arms all.1)

  arms_forward : (k : ℕ) (arms : List Part) → AreLaid arms → end ≤ length rest → AreForward rest → AreForward (arms_code P d k arms n end rest)
  arms_forward k [] all within f = f
  arms_forward k (arm ∷ arms) all within f =
      let later = arms_code P d (k + 1) arms n end rest in
      let shorter : length rest ≤ length later = ends_shorter later rest (arms_end (k + 1) arms all.1) in
      let far : end ≤ length later = omega (arith, within, shorter) in
      all.0.forward (n + field_count P d k) (behind k arms) (tt, ((far, tt), arms_forward (k + 1) arms all.1 within f))

  further : (a b : ℕ) (ps : List ℕ) → a ≤ b → AllByRecursion (λ (p : ℕ). p ≤ a) ps → AllByRecursion (λ (p : ℕ). p ≤ b) ps
  further a b [] le all = tt
  further a b (p ∷ ps) le all = (omega (arith, le, all.0), further a b ps le all.1)

  places_within : (k : ℕ) (arms : List Part) → AreLaid arms →
      AllByRecursion (λ (p : ℕ). p ≤ length (arms_code P d k arms n end rest)) (arms_places P d k arms n end rest)
  places_within k [] all = tt
  places_within k (arm ∷ arms) all =
      let here = arms_code P d k (arm ∷ arms) n end rest in
      let later = arms_code P d (k + 1) arms n end rest in
      let shorter : length later ≤ length here =
      ends_shorter here later
      (ends_in here (behind k arms) later (all.0.front (n + field_count P d k) (behind k arms)) (arm_ends k arms)) in
      (omega arith, further (length later) (length here) (arms_places P d (k + 1) arms n end rest) shorter (places_within (k + 1) arms all.1))

  -- Where the arm of this number, from constructor k on, stands.
  pub record ArmAt (k j : ℕ) (arms : List Part) (arm : Part) : Type 0 where
    pub after : List Instr
    pub found : slice_get (arms_places P d k arms n end rest) j
        ≡ Some (length (arm (n + field_count P d (k + j)) (Forget (field_count P d (k + j)) ∷ Jump end ∷ after)))
    pub ends : Ends (arms_code P d k arms n end rest) (arm (n + field_count P d (k + j)) (Forget (field_count P d (k + j)) ∷ Jump end ∷ after))

  same_some : {A : Type 0} (x y : A) → Some x ≡ Some y → x ≡ y
  same_some x y e = cc

  pub arm_at : (k j : ℕ) (arms : List Part) (arm : Part) → AreLaid arms → slice_get arms j ≡ Some arm → ArmAt k j arms arm
  arm_at k j [] arm all is = absurd (cc)
  arm_at k zero (first ∷ arms) arm all is =
      let zeroth : k ≡ k + zero = omega arith in
      let one : first ≡ arm = same_some first arm is in
      let later = arms_code P d (k + 1) arms n end rest in
      let it : (a : Part) → a ≡ arm → (m : ℕ) → k ≡ m →
      a (n + field_count P d k) (behind k arms) ≡ arm (n + field_count P d m) (Forget (field_count P d m) ∷ Jump end ∷ later) =
      λ a e m s i. e i (n + field_count P d (s i)) (Forget (field_count P d (s i)) ∷ Jump end ∷ later) in
      let same = it first one (k + zero) zeroth in
      record {
        after = later;
        found = ap (λ (l : List Instr). Some (length l)) same;
        ends = record { front = []; is = same };
      }
  arm_at k (suc j) (first ∷ arms) arm all is =
      let there : ArmAt (k + 1) j arms arm = arm_at (k + 1) j arms arm all.1 is in
      let count : (k + 1) + j ≡ k + suc j = omega arith in
      let later = arms_code P d (k + 1) arms n end rest in
      let here = arms_code P d k (first ∷ arms) n end rest in
      let past : Ends here later = ends_in here (behind k arms) later (all.0.front (n + field_count P d k) (behind k arms)) (arm_ends k arms) in
      record {
        after = there.after;
        found = there.found ∙ ap (λ (m : ℕ). Some (length (arm (n + field_count P d m) (Forget (field_count P d m) ∷ Jump end ∷ there.after)))) count;
        ends =
            subst (λ (m : ℕ). Ends here (arm (n + field_count P d m) (Forget (field_count P d m) ∷ Jump end ∷ there.after))) count
            (ends_in here later (arm (n + field_count P d ((k + 1) + j)) (Forget (field_count P d ((k + 1) + j)) ∷ Jump end ∷ there.after)) past there.ends);
      }

pub match_ends : (P : Program) (d : ℕ) (arms : List Part) (n : ℕ) (rest : List Instr) → AreLaid arms → Ends (match_code P d arms n rest) rest
match_ends P d arms n rest all =
    let below = arms_code P d 0 arms n (length rest) rest in
    ends_in (match_code P d arms n rest) below rest (one_more_ends (Branch (arms_places P d 0 arms n (length rest) rest)) below) (arms_end P d n (length rest) rest 0 arms all)

match_forward : (P : Program) (d : ℕ) (arms : List Part) (n : ℕ) (rest : List Instr) → AreLaid arms → AreForward rest → AreForward (match_code P d arms n rest)
match_forward P d arms n rest all f =
    let same : length rest ≤ length rest = omega arith in
    (places_within P d n (length rest) rest 0 arms all, arms_forward P d n (length rest) rest 0 arms all same f)

-- the term's code is laid
abbrev pub Lies : Program → Term → Type 0
Lies P t = IsLaid (term_code P t)

all_lie : (P : Program) (ts : List ((t : Term) × Lies P t)) → AreLaid (map (term_code P) (map (λ (e : (t : Term) × Lies P t). e.0) ts))
all_lie P [] = tt
all_lie P (t ∷ ts) = (t.1, all_lie P ts)

one_instruction : (i : ℕ → Instr) → ((n : ℕ) → named_places (i n) ≡ []) → IsLaid (λ (n : ℕ) (rest : List Instr). i n ∷ rest)
one_instruction i none = record {
  front = λ n rest. one_more_ends (i n) rest;
  forward = λ n rest f. (subst (AllByRecursion (λ (place : ℕ). place ≤ length rest)) (sym (none n)) tt, f);
}

layer_lies : (P : Program) (y : Term-F ((t : Term) × Lies P t)) →
    IsLaid (code_step P (map-Term Term Part (term_code P) (map-Term ((t : Term) × Lies P t) Term (λ (e : (t : Term) × Lies P t). e.0) y)))
layer_lies P (Term-F.Free m) = one_instruction (λ n. Local m) (λ n. refl)
layer_lies P (Term-F.Bound m) = one_instruction (λ n. Local (n - m - 1)) (λ n. refl)
layer_lies P (Term-F.Lit w) = one_instruction (λ n. Lit w) (λ n. refl)
layer_lies P (Term-F.Con d k types fields) =
    let parts = map (term_code P) (map (λ (e : (t : Term) × Lies P t). e.0) fields) in
    let all : AreLaid parts = all_lie P fields in
    let made : Instr = Make d k (length parts) in
    record {
      front = λ n rest. ends_in (in_order parts n (made ∷ rest)) (made ∷ rest) rest (in_order_ends parts n (made ∷ rest) all) (one_more_ends made rest);
      forward = λ n rest f. in_order_forward parts n (made ∷ rest) all (tt, f);
    }
layer_lies P (Term-F.Call g funs args) =
    let parts = map (term_code P) (map (λ (e : (t : Term) × Lies P t). e.0) args) in
    let all : AreLaid parts = all_lie P args in
    let calls : Instr = Call (head_target g.head) (targets_of funs) (length parts) in
    record {
      front = λ n rest. ends_in (in_order parts n (calls ∷ rest)) (calls ∷ rest) rest (in_order_ends parts n (calls ∷ rest) all) (one_more_ends calls rest);
      forward = λ n rest f. in_order_forward parts n (calls ∷ rest) all (tt, f);
    }
layer_lies P (Term-F.Match on d types arms) =
    let parts = map (term_code P) (map (λ (e : (t : Term) × Lies P t). e.0) arms) in
    let all : AreLaid parts = all_lie P arms in
    record {
      front = λ n rest. ends_in (term_code P on.0 n (match_code P d parts n rest)) (match_code P d parts n rest) rest
          (on.1.front n (match_code P d parts n rest)) (match_ends P d parts n rest all);
      forward = λ n rest f. on.1.forward n (match_code P d parts n rest) (match_forward P d parts n rest all f);
    }

-- the code of each term is laid
pub lies : (P : Program) (t : Term) → Lies P t
lies P = ind-Term (Lies P) (λ x y is.
    subst (λ (z : Term-F Term). IsLaid (term_code P (roll-Term z))) is
    (subst IsLaid (sym (fold-roll-Term Part (code_step P) (map-Term ((t : Term) × Lies P t) Term (λ (e : (t : Term) × Lies P t). e.0) y))) (layer_lies P y)))

pub all_terms_lie : (P : Program) (ts : List Term) → AreLaid (map (term_code P) ts)
all_terms_lie P [] = tt
all_terms_lie P (t ∷ ts) = (lies P t, all_terms_lie P ts)
