-- What `eval` does after its program was read: how it ends, and what each end shows.
use Rattle.std.proofs.Common.{◌≡◌, ℕ, ◌<◌, ◌≤◌, List, Err, inl, inr, refl, ap, subst, sym, ◌∙◌}
use Rattle.px_terms.specs.declared.term.Value.{Value}
use Rattle.px_terms.specs.declared.program.Program.{Program}
use Rattle.px_machine.specs.ValueText.{value_text}
use Rattle.px_world.specs.Faults.{Rose}
use Rattle.px_drive.specs.declared.arguments.ClosedCall.{ClosedCall}
use Rattle.px_drive.specs.declared.outcome.ArgumentKind.{ArgumentKind}
use Rattle.px_drive.specs.declared.outcome.End.{End}
use Rattle.px_drive.specs.declared.outcome.End.TheVariants.{Done, Usage, Source, Rejected, Schedule, Spent, ReadFault, WriteFault, NoMemory, TooLong, Arguments}
use Rattle.px_drive.specs.Arguments.{IsCall, IsNoCall, IsValueOfCall}
use Rattle.px_drive.specs.Messages.{evaluated_by, evaluated_lines}
use Rattle.px_drive.specs.Seen.{SinkSeen}
use Rattle.px_drive.specs.Ends.{FindsCall, Evaluates, Spells, Prints, AndThen}

-- what `eval` does after its program was read
abbrev pub EvalGoes : SinkSeen → List ℕ → List (List ℕ) → ℕ → Program → End → List ℕ → Type 0
EvalGoes out name words budget program =
    AndThen (FindsCall program name words) (λ call.
    AndThen (Evaluates program call budget) (λ done.
    AndThen (Spells (value_text program.names done.value)) (λ bytes.
    Prints (evaluated_by bytes done.calls) out)))

-- the ends that it has, and what they show at once
abbrev pub OwnEnd : SinkSeen → End → Type 0
OwnEnd out Done = Unit {0}
OwnEnd out Usage = ⊥
OwnEnd out (Schedule at rule) = ⊥
OwnEnd out (Source fault) = ⊥
OwnEnd out (Rejected number why) = ⊥
OwnEnd out (Spent event) = event ≡ 0
OwnEnd out ReadFault = ⊥
OwnEnd out WriteFault = Rose out.before out.after
OwnEnd out NoMemory = Unit {0}
OwnEnd out (TooLong long) = ⊥
OwnEnd out (Arguments kind number) = Unit {0}

find_ends : (out : SinkSeen) (program : Program) (name : List ℕ) (words : List (List ℕ)) (end : End) → FindsCall program name words (Err end) → OwnEnd out end
find_ends out program name words Done h = tt
find_ends out program name words Usage h = h
find_ends out program name words (Schedule at rule) h = h
find_ends out program name words (Source fault) h = h
find_ends out program name words (Rejected number why) h = h
find_ends out program name words (Spent event) h = absurd h
find_ends out program name words ReadFault h = h
find_ends out program name words WriteFault h = absurd h
find_ends out program name words NoMemory h = tt
find_ends out program name words (TooLong long) h = h
find_ends out program name words (Arguments kind number) h = tt

evaluate_ends : (out : SinkSeen) (program : Program) (call : ClosedCall) (budget : ℕ) (end : End) → Evaluates program call budget (Err end) → OwnEnd out end
evaluate_ends out program call budget Done h = tt
evaluate_ends out program call budget Usage h = h
evaluate_ends out program call budget (Schedule at rule) h = h
evaluate_ends out program call budget (Source fault) h = h
evaluate_ends out program call budget (Rejected number why) h = h
evaluate_ends out program call budget (Spent event) h = h.0
evaluate_ends out program call budget ReadFault h = h
evaluate_ends out program call budget WriteFault h = absurd h
evaluate_ends out program call budget NoMemory h = tt
evaluate_ends out program call budget (TooLong long) h = h
evaluate_ends out program call budget (Arguments kind number) h = tt

spell_ends : (out : SinkSeen) (text : List ℕ) (end : End) → Spells text (Err end) → end ≡ NoMemory
spell_ends out text NoMemory h = refl
spell_ends out text Done h = absurd h
spell_ends out text Usage h = absurd h
spell_ends out text (Schedule at rule) h = absurd h
spell_ends out text (Source fault) h = absurd h
spell_ends out text (Rejected number why) h = absurd h
spell_ends out text (Spent event) h = absurd h
spell_ends out text ReadFault h = absurd h
spell_ends out text WriteFault h = absurd h
spell_ends out text (TooLong long) h = absurd h
spell_ends out text (Arguments kind number) h = absurd h

print_ends : (line : List ℕ) (out : SinkSeen) (end : End) (printed : List ℕ) → Prints line out end printed → OwnEnd out end
print_ends line out Done printed h = tt
print_ends line out WriteFault printed h = h.0
print_ends line out Usage printed h = h
print_ends line out (Schedule at rule) printed h = h
print_ends line out (Source fault) printed h = h
print_ends line out (Rejected number why) printed h = h
print_ends line out (Spent event) printed h = absurd h
print_ends line out ReadFault printed h = h
print_ends line out NoMemory printed h = tt
print_ends line out (TooLong long) printed h = h
print_ends line out (Arguments kind number) printed h = tt

-- after its program was read `eval` has its own ends alone
pub own_end : (out : SinkSeen) (name : List ℕ) (words : List (List ℕ)) (budget : ℕ) (program : Program) (end : End) (printed : List ℕ) → EvalGoes out name words budget program end printed → OwnEnd out end
own_end out name words budget program end printed (inl (h, _)) = find_ends out program name words end h
own_end out name words budget program end printed (inr (call, _, inl (h, _))) = evaluate_ends out program call budget end h
own_end out name words budget program end printed (inr (call, _, inr (done, _, inl (h, _)))) =
    subst (OwnEnd out) (sym (spell_ends out (value_text program.names done.value) end h)) tt
own_end out name words budget program end printed (inr (call, _, inr (done, _, inr (bytes, _, h)))) = print_ends (evaluated_by bytes done.calls) out end printed h

-- What `eval` found: the call, its value and its number of calls within the budget, as they were printed.
pub record Found (name : List ℕ) (words : List (List ℕ)) (budget : ℕ) (program : Program) (printed : List ℕ) : Type 0 where
  pub call : ClosedCall
  pub value : Value
  pub calls : ℕ
  pub is_call : IsCall program name words call
  pub is_value : IsValueOfCall program call value calls
  pub within : calls ≤ budget
  pub printed_is : printed ≡ evaluated_lines program.names value calls

pub found : (out : SinkSeen) (name : List ℕ) (words : List (List ℕ)) (budget : ℕ) (program : Program) (printed : List ℕ) → EvalGoes out name words budget program Done printed → Found name words budget program printed
found out name words budget program printed (inl (h, _)) = absurd h
found out name words budget program printed (inr (call, _, inl (h, _))) = absurd h
found out name words budget program printed (inr (call, _, inr (done, _, inl (h, _)))) = absurd h
found out name words budget program printed (inr (call, finds, inr (done, (gives, within), inr (bytes, spells, is)))) = record {
  call = call;
  value = done.value;
  calls = done.calls;
  is_call = finds;
  is_value = gives;
  within = within;
  printed_is = is ∙ ap (λ (text : List ℕ). evaluated_by text done.calls) spells;
}

-- where its arguments are refused, they are no call
pub not_found : (out : SinkSeen) (name : List ℕ) (words : List (List ℕ)) (budget : ℕ) (program : Program) (printed : List ℕ) (kind : ArgumentKind) (number : ℕ) → EvalGoes out name words budget program (Arguments kind number) printed → IsNoCall program name words kind number
not_found out name words budget program printed kind number (inl (h, _)) = h
not_found out name words budget program printed kind number (inr (call, _, inl (h, _))) = absurd h
not_found out name words budget program printed kind number (inr (call, _, inr (done, _, inl (h, _)))) = absurd h
not_found out name words budget program printed kind number (inr (call, _, inr (done, _, inr (bytes, _, h)))) = absurd h

-- What `eval` found where the call takes too many calls.
pub record Exceeds (name : List ℕ) (words : List (List ℕ)) (budget : ℕ) (program : Program) : Type 0 where
  pub call : ClosedCall
  pub value : Value
  pub calls : ℕ
  pub is_call : IsCall program name words call
  pub is_value : IsValueOfCall program call value calls
  pub above : budget < calls

pub exceeds : (out : SinkSeen) (name : List ℕ) (words : List (List ℕ)) (budget : ℕ) (program : Program) (printed : List ℕ) (event : ℕ) → EvalGoes out name words budget program (Spent event) printed → Exceeds name words budget program
exceeds out name words budget program printed event (inl (h, _)) = absurd h
exceeds out name words budget program printed event (inr (call, finds, inl ((_, (v, calls, gives, above)), _))) = record { call = call; value = v; calls = calls; is_call = finds; is_value = gives; above = above }
exceeds out name words budget program printed event (inr (call, _, inr (done, _, inl (h, _)))) = absurd h
exceeds out name words budget program printed event (inr (call, _, inr (done, _, inr (bytes, _, h)))) = absurd h
