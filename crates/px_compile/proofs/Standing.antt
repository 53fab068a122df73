-- The code stands for the program.
use Rattle.std.proofs.Common.{◌≡◌, ℕ, zero, suc, ◌+◌, ◌-◌, ◌<◌, ◌≤◌, List, [], ◌∷◌, length, map, Some, slice_get, option_and_then, sym, ap, ◌∙◌, subst, subst₂, arith}
use Rattle.std.specs.List.{AllByRecursion}
use Rattle.px_terms.specs.declared.types.Ty.{Ty}
use Rattle.px_terms.specs.declared.types.Fun.{Fun}
use Rattle.px_terms.specs.Head.TheVariants.{Def}
use Rattle.px_terms.specs.declared.term.Value.{Value}
use Rattle.px_terms.specs.declared.program.Def as definition
use Rattle.px_terms.specs.declared.program.Program.{Program}
use Rattle.px_terms.specs.Types.{ty_instance}
use Rattle.px_terms.specs.Meaning.{Gives}
use Rattle.px_terms.specs.Extending.{IsWellFounded}
use Rattle.px_totality.specs.Laws.{ExactlyOne}
use Rattle.px_totality.proofs.EachHasValue.{each_call}
use Rattle.px_descent.specs.Checked.{IsChecked}
use Rattle.px_machine.specs.declared.code.Instr.{Instr}
use Rattle.px_machine.specs.declared.code.Instr.TheVariants.{Local, Lit, Make, Call, Branch, Forget, Jump, Return}
use Rattle.px_machine.specs.declared.code.Code.{Code}
use Rattle.px_machine.specs.Machine.{RunGives}
use Rattle.px_machine.specs.Laws.{RunsHaveOneEnd}
use Rattle.px_machine.specs.Standing.{targets_of, named_places, IsForward, FitsDefinition, Stands}
use Rattle.px_compile.specs.Layout.{placed_instruction, definition_parts, definition_code, program_code}
use Rattle.px_compile.proofs.Laid.{AreForward, lies}
use Rattle.px_compile.proofs.Simulation.{run_gives}

-- a place that lies behind from the end lies behind from the start
counted_forward : (total before after : ℕ) (places : List ℕ) → total ≡ before + suc after → AllByRecursion (λ (p : ℕ). p ≤ after) places →
    AllByRecursion (λ (p : ℕ). before < p) (map (λ (p : ℕ). total - p) places)
counted_forward total before after [] long all = tt
counted_forward total before after (p ∷ places) long all = (omega (arith, long, all.0), counted_forward total before after places long all.1)

placed_forward : (total before after : ℕ) (i : Instr) → total ≡ before + suc after → AllByRecursion (λ (p : ℕ). p ≤ after) (named_places i) →
    AllByRecursion (λ (p : ℕ). before < p) (named_places (placed_instruction total i))
placed_forward total before after (Local n) long all = tt
placed_forward total before after (Lit w) long all = tt
placed_forward total before after (Make d k n) long all = tt
placed_forward total before after (Call t ts n) long all = tt
placed_forward total before after (Branch places) long all = counted_forward total before after places long all
placed_forward total before after (Forget n) long all = tt
placed_forward total before after (Jump p) long all = (omega (arith, long, all.0), tt)
placed_forward total before after Return long all = tt

-- so at each place behind the first so many instructions
forward_at : (total before : ℕ) (rest : List Instr) (n : ℕ) (i : Instr) → total ≡ before + length rest → AreForward rest →
    slice_get (map (placed_instruction total) rest) n ≡ Some i → AllByRecursion (λ (p : ℕ). before + n < p) (named_places i)
forward_at total before [] n i long all is = absurd (cc)
forward_at total before (j ∷ rest) zero i long all is =
    let here : placed_instruction total j ≡ i = same (placed_instruction total j) i is in
    let zeroth : before ≡ before + zero = omega arith in
    subst₂ (λ (b : ℕ) (i : Instr). AllByRecursion (λ (p : ℕ). b < p) (named_places i)) zeroth here (placed_forward total before (length rest) j long all.0)
  where
    same : (a b : Instr) → Some a ≡ Some b → a ≡ b
    same a b e = cc
forward_at total before (j ∷ rest) (suc n) i long all is =
    let next : (before + 1) + n ≡ before + suc n = omega arith in
    let long_next : total ≡ (before + 1) + length rest = omega (arith, long) in
    subst (λ (b : ℕ). AllByRecursion (λ (p : ℕ). b < p) (named_places i)) next (forward_at total (before + 1) rest n i long_next all.1 is)

-- the instruction at a place is that of a definition
module _ (P : Program) (code : Code) (is_code : code.defs ≡ program_code P) where
  forward_in : (ds : List definition.Def) (d place : ℕ) (i : Instr) →
      option_and_then (λ (is : List Instr). slice_get is place) (slice_get (map (definition_code P) ds) d) ≡ Some i →
      AllByRecursion (λ (p : ℕ). place < p) (named_places i)
  forward_in [] d place i is = absurd (cc)
  forward_in (D ∷ ds) zero place i is =
      let whole = definition_parts P D in
      let forward : AreForward whole = (lies P D.body).forward (length D.params) (Return ∷ []) (tt, tt) in
      let first : zero + place ≡ place = omega arith in
      let long : length whole ≡ 0 + length whole = omega arith in
      subst (λ (b : ℕ). AllByRecursion (λ (p : ℕ). b < p) (named_places i)) first (forward_at (length whole) 0 whole place i long forward is)
  forward_in (D ∷ ds) (suc d) place i is = forward_in ds d place i is

  pub leads_forward : IsForward code
  leads_forward = record {
    behind = λ d place i is. forward_in P.defs d place i
        (sym (ap (λ (ds : List (List Instr)). option_and_then (λ (is : List Instr). slice_get is place) (slice_get ds d)) is_code) ∙ is);
  }

  -- a run gives only what the definition means, since a run has one end
  means_it : (founded : IsWellFounded P) (one_end : RunsHaveOneEnd) (n : ℕ) (types : List Ty) (funs : List Fun) (vs : List Value) (v : Value) (c : ℕ) →
      FitsDefinition P n types funs vs → RunGives code n (targets_of funs) vs v c → Gives P (record { head = Def n; types = types }) funs vs v c
  means_it founded one_end n types funs vs v c fits run =
      let D = fits.def in
      let it : ExactlyOne P (ty_instance types D.result) (Gives P (record { head = Def n; types = types }) funs vs) =
      each_call P founded n D fits.is_def types fits.as_many fits.types_are funs fits.funs_fit vs fits.values_fit in
      let other = run_gives P founded code is_code n types funs vs it.value it.count fits it.given in
      let same = one_end code n (targets_of funs) vs it.value v it.count c other run in
      subst₂ (Gives P (record { head = Def n; types = types }) funs vs) same.0 same.1 it.given

  -- the code of a checked program stands for it
  pub code_stands : IsChecked P → RunsHaveOneEnd → Stands code P
  code_stands checked one_end =
      let founded : IsWellFounded P = record { typed = checked.typed; descends = checked.descends } in
      record {
        forward = leads_forward;
        gives = λ n types funs vs fits v c. (
          (λ run. means_it founded one_end n types funs vs v c fits run),
          (λ given. run_gives P founded code is_code n types funs vs v c fits given),
        );
      }
