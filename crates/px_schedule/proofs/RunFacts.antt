-- What stands at the front of a text.
use Rattle.std.proofs.Common.{◌≡◌, ℕ, suc, ◌+◌, Bool, true, false, cond, List, [], ◌∷◌, ◌++◌, take, drop, refl, sym, ap, ◌∙◌, arith}
use Rattle.std.specs.List.{prefix_len, AllByRecursion}
use Rattle.std.proofs.lemmas.List.{take-append-drop}
use Rattle.px_schedule.specs.declared.runs.Class.{Class}
use Rattle.px_schedule.specs.Runs.{is_in, begins, IsRun}

-- each byte passes
abbrev pub Each : (ℕ → Bool) → List ℕ → Type 0
Each test word = AllByRecursion (λ (byte : ℕ). test byte ≡ true) word

run_step : (test : ℕ → Bool) (c : ℕ) (cs : List ℕ) (b : Bool) → test c ≡ b → Each test (take (prefix_len test cs) cs) → Each test (take (cond b (1 + prefix_len test cs) 0) (c ∷ cs))
run_step test c cs true e all = let one : 1 + prefix_len test cs ≡ suc (prefix_len test cs) = omega arith in rw one (e, all)
run_step test c cs false e all = tt

run_each : (test : ℕ → Bool) (text : List ℕ) → Each test (take (prefix_len test text) text)
run_each test [] = tt
run_each test (c ∷ cs) = run_step test c cs (test c) refl (run_each test cs)

ends_step : (test : ℕ → Bool) (c : ℕ) (cs : List ℕ) (b : Bool) → test c ≡ b → begins test (drop (prefix_len test cs) cs) ≡ false → begins test (drop (cond b (1 + prefix_len test cs) 0) (c ∷ cs)) ≡ false
ends_step test c cs true e h = let one : 1 + prefix_len test cs ≡ suc (prefix_len test cs) = omega arith in rw one h
ends_step test c cs false e h = e

run_ends : (test : ℕ → Bool) (text : List ℕ) → begins test (drop (prefix_len test text) text) ≡ false
run_ends test [] = refl
run_ends test (c ∷ cs) = ends_step test c cs (test c) refl (run_ends test cs)

-- what was split off is the run at the front
pub run_is : (class : Class) (text front back : List ℕ) (n : ℕ) → n ≡ prefix_len (is_in class) text → front ≡ take n text → back ≡ drop n text → IsRun class text front back
run_is class text front back n e f g = record {
  whole = sym (rw (f, g) (take-append-drop n text));
  each = rw (f, e) (run_each (is_in class) text);
  ends = rw (g, e) (run_ends (is_in class) text);
}

-- Two ways to split a text are one.
pub record Same (u v x y : List ℕ) : Type 0 where
  pub front : u ≡ v
  pub back : x ≡ y

-- a text is split by a class in one way
pub same_run : (test : ℕ → Bool) (u v x y : List ℕ) → Each test u → Each test v → begins test x ≡ false → begins test y ≡ false → u ++ x ≡ v ++ y → Same u v x y
same_run test [] [] x y eu ev ex ey e = record { front = refl; back = e }
same_run test [] (b ∷ v) x y eu ev ex ey e =
    let h : begins test x ≡ true = ap (begins test) e ∙ ev.0 in
    absurd cc
same_run test (a ∷ u) [] x y eu ev ex ey e =
    let h : begins test y ≡ true = ap (begins test) (sym e) ∙ eu.0 in
    absurd cc
same_run test (a ∷ u) (b ∷ v) x y eu ev ex ey e =
    let heads : a ≡ b = cc in
    let tails : u ++ x ≡ v ++ y = cc in
    let rest : Same u v x y = same_run test u v x y eu.1 ev.1 ex ey tails in
    let front_is : u ≡ v = rest.front in
    record { front = cc; back = rest.back }
