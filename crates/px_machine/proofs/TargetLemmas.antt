-- What targets stand for, one after the other.
use Rattle.std.proofs.Common.{◌≡◌, ℕ, ◌+◌, ◌<◌, List, [], ◌∷◌, ◌++◌, length, drop, Option, Some, None, get_or, sym, ap, ◌∙◌, option_and_then}
use Rattle.std.specs.Option.{option_map}
use Rattle.std.proofs.lemmas.List.{drop_more, append_assoc}
use Rattle.px_machine.specs.declared.code.CallTarget.{CallTarget}
use Rattle.px_machine.specs.Machine.{meant_target, meant_targets}
use Rattle.px_machine.proofs.RunLemmas.{some_of_map, some_of_then}

-- those so far, and then what the others stand for
abbrev pub with_rest : List CallTarget → List CallTarget → List CallTarget → Option (List CallTarget)
with_rest funs all targets = option_map (λ (rest : List CallTarget). all ++ rest) (meant_targets funs targets)

-- the next target
opened : (funs targets all : List CallTarget) (i : ℕ) (t d : CallTarget) → i < length targets → t ≡ get_or targets i d → with_rest funs all (drop i targets) ≡ with_rest funs all (t ∷ drop (i + 1) targets)
opened funs targets all i t d within is = ap (with_rest funs all) (drop_more targets i d within ∙ ap (λ (x : CallTarget). x ∷ drop (i + 1) targets) (sym is))

pub next_meant : (funs targets all whole : List CallTarget) (i : ℕ) (t d : CallTarget) → i < length targets → t ≡ get_or targets i d → with_rest funs all (drop i targets) ≡ Some whole → (m : CallTarget) × (meant_target funs t ≡ Some m)
next_meant funs targets all whole i t d within is e =
    let some = some_of_map _ _ _ (sym (opened funs targets all i t d within is) ∙ e) in
    let one = some_of_then _ _ _ some.1 in
    (one.0, one.1)

then_meant : (funs all rest : List CallTarget) (m : CallTarget) (o : Option (List CallTarget)) → option_map (λ (rest : List CallTarget). all ++ rest) (option_map (λ (fs : List CallTarget). m ∷ fs) o) ≡ option_map (λ (rest : List CallTarget). all ++ m ∷ [] ++ rest) o
then_meant funs all rest m (Some xs) = ap Some (sym (append_assoc all (m ∷ []) xs))
then_meant funs all rest m None = λ i. None

pub step_meant : (funs targets all whole : List CallTarget) (i : ℕ) (t m d : CallTarget) → i < length targets → t ≡ get_or targets i d → meant_target funs t ≡ Some m → with_rest funs all (drop i targets) ≡ Some whole →
    with_rest funs (all ++ m ∷ []) (drop (i + 1) targets) ≡ Some whole
step_meant funs targets all whole i t m d within is meant e =
    sym (opened funs targets all i t d within is
    ∙ ap (λ (o : Option CallTarget). option_map (λ (rest : List CallTarget). all ++ rest) (option_and_then (λ (f : CallTarget). option_map (λ (fs : List CallTarget). f ∷ fs) (meant_targets funs (drop (i + 1) targets))) o)) meant
    ∙ then_meant funs all [] m (meant_targets funs (drop (i + 1) targets)))
    ∙ e
