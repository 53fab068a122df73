-- How `eval` ends on a told text that is a program, within its limit: arguments that are no call of it, or a call that takes too many
-- calls.
use Rattle.std.proofs.Common.{◌≡◌, ℕ, ◌<◌, ◌≤◌, ◌⊎◌, List, Err, inl, inr, refl, ap, subst, ◌∙◌, arith}
use Rattle.px_terms.specs.declared.term.Value.{Value}
use Rattle.px_terms.specs.declared.program.Program.{Program}
use Rattle.px_drive.specs.declared.arguments.ClosedCall.{ClosedCall}
use Rattle.px_drive.specs.declared.outcome.ArgumentKind.{ArgumentKind}
use Rattle.px_drive.specs.declared.outcome.CommandLine.TheVariants.{Eval}
use Rattle.px_drive.specs.declared.outcome.End.{End}
use Rattle.px_drive.specs.declared.outcome.End.TheVariants.{Done, Usage, Source, Rejected, Schedule, Spent, ReadFault, WriteFault, NoMemory, TooLong, Arguments}
use Rattle.px_drive.specs.Seen.{SinkSeen}
use Rattle.px_drive.specs.Sources.{IsSource}
use Rattle.px_drive.specs.Arguments.{IsCall, IsNoCall, IsValueOfCall}
use Rattle.px_drive.specs.Ends.{FindsCall, Evaluates, Spells}
use Rattle.px_drive.specs.Laws.{OneSource, NeverBoth, OneCall, OneNoCall, NeverCallAndNone, OneValueOfCall, RefusedAreArguments, AboveIsSpent}
use Rattle.px_drive.proofs.EvalEnds.{EvalGoes}
use Rattle.px_drive.proofs.Causes.{Goes}
use Rattle.px_drive.proofs.TextEnds.{IsChance, program_read}

-- a value whose text is not printed for want of memory
pub unspelled : (text : List ℕ) (end : End) → Spells text (Err end) → IsChance end
unspelled text NoMemory h = inr refl
unspelled text Done h = absurd h
unspelled text Usage h = absurd h
unspelled text (Schedule at rule) h = absurd h
unspelled text (Source fault) h = absurd h
unspelled text (Rejected number why) h = absurd h
unspelled text (Spent event) h = absurd h
unspelled text (Arguments kind word) h = absurd h
unspelled text ReadFault h = absurd h
unspelled text WriteFault h = absurd h
unspelled text (TooLong long) h = absurd h

module _ (source : List ℕ) (P : Program) (is : IsSource source P) (name : List ℕ) (words : List (List ℕ)) where
  -- arguments that are no call are refused for their cause
  none_refused : OneNoCall → (kind : ArgumentKind) (number : ℕ) (end : End) → IsNoCall P name words kind number → FindsCall P name words (Err end) → (end ≡ Arguments kind number) ⊎ IsChance end
  none_refused one kind number (Arguments other another) none h =
      let same : (other ≡ kind) × (another ≡ number) = one source P is name words other kind another number h none in
      inl (ap (λ (k : ArgumentKind). Arguments k another) same.0 ∙ ap (λ (n : ℕ). Arguments kind n) same.1)
  none_refused one kind number NoMemory none h = inr (inr refl)
  none_refused one kind number Done none h = absurd h
  none_refused one kind number Usage none h = absurd h
  none_refused one kind number (Schedule at rule) none h = absurd h
  none_refused one kind number (Source fault) none h = absurd h
  none_refused one kind number (Rejected line why) none h = absurd h
  none_refused one kind number (Spent event) none h = absurd h
  none_refused one kind number ReadFault none h = absurd h
  none_refused one kind number WriteFault none h = absurd h
  none_refused one kind number (TooLong long) none h = absurd h

  -- so `eval` refuses them after the program was read
  none_ends : OneNoCall → NeverCallAndNone → (out : SinkSeen) (budget : ℕ) (kind : ArgumentKind) (number : ℕ) (end : End) (printed : List ℕ) → IsNoCall P name words kind number → EvalGoes out name words budget P end printed
      → (end ≡ Arguments kind number) ⊎ IsChance end
  none_ends one never out budget kind number end printed none (inl (refuses, _)) = none_refused one kind number end none refuses
  none_ends one never out budget kind number end printed none (inr (call, finds, _)) = absurd (never source P is name words call kind number finds none)

  -- a call is not refused, but for want of memory
  pub call_found : NeverCallAndNone → (call : ClosedCall) (end : End) → IsCall P name words call → FindsCall P name words (Err end) → IsChance end
  call_found never call (Arguments kind number) finds h = absurd (never source P is name words call kind number finds h)
  call_found never call NoMemory finds h = inr refl
  call_found never call Done finds h = absurd h
  call_found never call Usage finds h = absurd h
  call_found never call (Schedule at rule) finds h = absurd h
  call_found never call (Source fault) finds h = absurd h
  call_found never call (Rejected line why) finds h = absurd h
  call_found never call (Spent event) finds h = absurd h
  call_found never call ReadFault finds h = absurd h
  call_found never call WriteFault finds h = absurd h
  call_found never call (TooLong long) finds h = absurd h

  module _ (one_call : OneCall) (one_value : OneValueOfCall) (call : ClosedCall) (finds : IsCall P name words call) (v : Value) (calls : ℕ) (gives : IsValueOfCall P call v calls) where
    -- the call that was found is this one
    same_call : (other : ClosedCall) → IsCall P name words other → other ≡ call
    same_call other found = one_call source P is name words other call found finds

    -- and takes as many calls
    same_calls : (other : ClosedCall) → IsCall P name words other → (w : Value) (count : ℕ) → IsValueOfCall P other w count → count ≡ calls
    same_calls other found w count is_value =
        (one_value source P is name words call finds w v count calls (subst (λ (c : ClosedCall). IsValueOfCall P c w count) (same_call other found) is_value) gives).1

    -- evaluating a call whose count is above the budget ends Spent
    above_ends : (other : ClosedCall) → IsCall P name words other → (budget : ℕ) (end : End) → Evaluates P other budget (Err end) → (end ≡ Spent 0) ⊎ IsChance end
    above_ends other found budget (Spent event) h = inl (ap Spent h.0)
    above_ends other found budget NoMemory h = inr (inr refl)
    above_ends other found budget Done h = absurd h
    above_ends other found budget Usage h = absurd h
    above_ends other found budget (Schedule at rule) h = absurd h
    above_ends other found budget (Source fault) h = absurd h
    above_ends other found budget (Rejected line why) h = absurd h
    above_ends other found budget (Arguments kind number) h = absurd h
    above_ends other found budget ReadFault h = absurd h
    above_ends other found budget WriteFault h = absurd h
    above_ends other found budget (TooLong long) h = absurd h

    -- and one whose count is within it ends only for want of memory
    pub within_ends : (other : ClosedCall) → IsCall P name words other → (budget : ℕ) (end : End) → calls ≤ budget → Evaluates P other budget (Err end) → IsChance end
    within_ends other found budget (Spent event) within (_, (w, count, is_value, above)) =
        let same : count ≡ calls = same_calls other found w count is_value in
        absurd (omega (arith, same, within, above))
    within_ends other found budget NoMemory within h = inr refl
    within_ends other found budget Done within h = absurd h
    within_ends other found budget Usage within h = absurd h
    within_ends other found budget (Schedule at rule) within h = absurd h
    within_ends other found budget (Source fault) within h = absurd h
    within_ends other found budget (Rejected line why) within h = absurd h
    within_ends other found budget (Arguments kind number) within h = absurd h
    within_ends other found budget ReadFault within h = absurd h
    within_ends other found budget WriteFault within h = absurd h
    within_ends other found budget (TooLong long) within h = absurd h

    spent_ends : NeverCallAndNone → (out : SinkSeen) (budget : ℕ) (end : End) (printed : List ℕ) → budget < calls → EvalGoes out name words budget P end printed → (end ≡ Spent 0) ⊎ IsChance end
    spent_ends never out budget end printed above (inl (refuses, _)) = inr (call_found never call end finds refuses)
    spent_ends never out budget end printed above (inr (other, found, inl (evaluates, _))) = above_ends other found budget end evaluates
    spent_ends never out budget end printed above (inr (other, found, inr (done, (is_value, within), _))) =
        let same : done.calls ≡ calls = same_calls other found done.value done.calls is_value in
        absurd (omega (arith, same, within, above))

pub refused_are_arguments_law : OneSource → NeverBoth → OneNoCall → NeverCallAndNone → RefusedAreArguments
refused_are_arguments_law one_source never_both one never files out file name words budget printed text P kind number end has source none ends =
    either (program_read one_source never_both files out (Eval file name words budget) printed text P end has source ends)
  where
    either : IsChance end ⊎ Goes files out (Eval file name words budget) P end printed → (end ≡ Arguments kind number) ⊎ IsChance end
    either (inl chance) = inr chance
    either (inr goes) = none_ends text P source name words one never out budget kind number end printed none goes

pub above_is_spent_law : OneSource → NeverBoth → OneCall → NeverCallAndNone → OneValueOfCall → AboveIsSpent
above_is_spent_law one_source never_both one_call never one_value files out file name words budget printed text P call v calls end has source finds gives above ends =
    either (program_read one_source never_both files out (Eval file name words budget) printed text P end has source ends)
  where
    either : IsChance end ⊎ Goes files out (Eval file name words budget) P end printed → (end ≡ Spent 0) ⊎ IsChance end
    either (inl chance) = inr chance
    either (inr goes) = spent_ends text P source name words one_call one_value call finds v calls gives never out budget end printed above goes
