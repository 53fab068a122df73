-- What the lines of a text make of a replay, one after the other, and what its end says of the text.
use Rattle.std.proofs.Common.{◌≡◌, ◌∙◌, ℕ, ◌≤◌, ◌+◌, List, [], ◌∷◌, ◌++◌, length, drop, slice_range, Result, Ok, Err, IsErrAnd, refl, sym, ap, subst, arith, append_assoc, append-nil, length-append, length-drop}
use Rattle.std.specs.List.{AllByRecursion}
use Rattle.std.proofs.lemmas.Grind.{flat_map-append}
use Rattle.px_terms.specs.declared.program.Program.{Program}
use Rattle.px_derive.specs.Lines.{IsLine}
use Rattle.px_derive.specs.Lines as pieces
use Rattle.px_replay.specs.declared.ends.Why.TheVariants as why
use Rattle.px_replay.specs.declared.ends.FeedEnd.{FeedEnd}
use Rattle.px_replay.specs.declared.ends.FeedEnd.TheVariants as feeding
use Rattle.px_replay.specs.declared.ends.Accepted.{Accepted}
use Rattle.px_replay.specs.States.{IsPartial, IsDerivationText}
use Rattle.px_replay.specs.Refusals.{FailsAfter}
use Rattle.px_replay.specs.Standings.{Standing, StandsFor, Fed, Finished}
use Rattle.px_drive.specs.declared.outcome.End.{End}
use Rattle.px_drive.specs.declared.outcome.End.TheVariants.{Done, Usage, Source, Rejected, Schedule, Spent, ReadFault, WriteFault, NoMemory, TooLong, Arguments}
use Rattle.px_drive.specs.Refusals.{end_of_feeding}
use Rattle.px_drive.specs.Derivations.{text_of, IsOneLine, BeginsWith, IsRejected, refused, unended, unfinished}
use Rattle.px_drive.specs.Feeding.{HasFed, Feeds}
use Rattle.px_drive.specs.Ends.{Accepts}

-- The replay stands for the lines of the text up to a place, and this is the number of the next.
pub record HasFedTo (P : Program) (text : List ℕ) (replay : Standing) (at number : ℕ) : Type 0 where
  pub lines : List (List ℕ)
  pub is : BeginsWith text lines (drop at text)
  pub stands : StandsFor replay lines
  pub program : replay.program ≡ P
  pub count : number ≡ length lines + 1
  pub few : length lines ≤ at
  pub within : at ≤ length text

-- nothing was fed yet
pub at_start : (replay : Standing) (text : List ℕ) → StandsFor replay [] → HasFedTo replay.program text replay 0 1
at_start replay text stands = record { lines = []; is = record { is = refl; each = tt }; stands = stands; program = refl; count = refl; few = omega arith; within = omega arith }

each_last : (lines : List (List ℕ)) (line : List ℕ) → AllByRecursion IsOneLine lines → IsOneLine line → AllByRecursion IsOneLine (lines ++ line ∷ [])
each_last [] line each one = (one, tt)
each_last (x ∷ lines) line each one = (each.0, each_last lines line each.1 one)

-- the text begins with one line more
begins_longer : (text : List ℕ) (lines : List (List ℕ)) (at end next : ℕ) → BeginsWith text lines (drop at text) → IsLine text at end next → BeginsWith text (lines ++ slice_range text at end ∷ []) (drop next text)
begins_longer text lines at end next begins piece =
    let line : List ℕ = slice_range text at end in
    let rest : List ℕ = drop next text in
    let one : ((line ++ 10 ∷ []) ++ []) ++ rest ≡ line ++ 10 ∷ rest =
    ap (λ (bytes : List ℕ). bytes ++ rest) (append-nil (line ++ 10 ∷ [])) ∙ append_assoc line (10 ∷ []) rest in
    let all : text_of (lines ++ line ∷ []) ++ rest ≡ text_of lines ++ (line ++ 10 ∷ rest) =
    ap (λ (bytes : List ℕ). bytes ++ rest) (flat_map-append (λ (l : List ℕ). l ++ 10 ∷ []) lines (line ∷ []))
    ∙ (append_assoc (text_of lines) ((line ++ 10 ∷ []) ++ []) rest ∙ ap (λ (bytes : List ℕ). text_of lines ++ bytes) one) in
    record {
      is = begins.is ∙ (ap (λ (bytes : List ℕ). text_of lines ++ bytes) piece.whole ∙ sym all);
      each = each_last lines line begins.each piece.one_line;
    }

-- a line was taken
pub fed_on : (P : Program) (text : List ℕ) (old new : Standing) (at number end next : ℕ) (fed : HasFedTo P text old at number) → IsLine text at end next → new.program ≡ old.program
    → StandsFor new (fed.lines ++ slice_range text at end ∷ []) → HasFedTo P text new next (number + 1)
fed_on P text old new at number end next fed piece program stands = record {
  lines = fed.lines ++ slice_range text at end ∷ [];
  is = begins_longer text fed.lines at end next fed.is piece;
  stands = stands;
  program = program ∙ fed.program;
  count = omega (arith, fed.count, length-append fed.lines (slice_range text at end ∷ []));
  few = omega (arith, fed.few, piece.rises, piece.after, length-append fed.lines (slice_range text at end ∷ []));
  within = omega (arith, piece.within, piece.after);
}

-- a line was refused
pub fed_refused : (P : Program) (text : List ℕ) (old new : Standing) (at number end next : ℕ) (result : Result (Unit {0}) End) (refusal : FeedEnd) (fed : HasFedTo P text old at number) → IsLine text at end next → new.program ≡ old.program
    → Fed fed.lines (slice_range text at end) new (Err refusal) → IsErrAnd result (λ e. e ≡ end_of_feeding refusal) → Feeds P text new result
fed_refused P text old new at number end next (Ok done) refusal fed piece program answer is = absurd is
fed_refused P text old new at number end next (Err e) feeding.NoMemory fed piece program answer is = subst (λ (x : End). Feeds P text new (Err x)) (sym is) tt
fed_refused P text old new at number end next (Err e) (feeding.Rejected n w) fed piece program answer is = subst (λ (x : End). Feeds P text new (Err x)) (sym is) rejected
  where
    one : new.program ≡ P
    one = program ∙ fed.program

    rejected : IsRejected P text n w
    rejected = refused (record {
      before = fed.lines;
      line = slice_range text at end;
      rest = drop next text;
      is = begins_longer text fed.lines at end next fed.is piece;
      count = answer.0;
      fails = subst (λ (Q : Program). FailsAfter Q fed.lines (slice_range text at end) w) one answer.1;
      none = subst (λ (Q : Program). ¬ IsPartial Q (fed.lines ++ slice_range text at end ∷ [])) one answer.2;
    })

partial_of : (P : Program) (replay : Standing) (lines : List (List ℕ)) → StandsFor replay lines → replay.program ≡ P → IsPartial P lines
partial_of P replay lines stands program = subst (λ (Q : Program). IsPartial Q lines) program (record { state = replay.state; leads = stands.leads })

-- behind the last line feed stand bytes
pub fed_partial : (P : Program) (text : List ℕ) (replay : Standing) (at number : ℕ) → HasFedTo P text replay at number → pieces.IsPartial text at → IsRejected P text number why.Form
fed_partial P text replay at number fed piece = unended (record {
  before = fed.lines;
  rest = drop at text;
  is = fed.is;
  count = fed.count;
  form = refl;
  partial = partial_of P replay fed.lines fed.stands fed.program;
  some = omega (arith, piece.some, length-drop at text);
  one_line = piece.no_feed;
})

no_more : (xs : List ℕ) → length xs ≡ 0 → xs ≡ []
no_more [] is = refl
no_more (x ∷ xs) is = absurd (omega (arith, is))

-- the text ended
pub fed_all : (P : Program) (text : List ℕ) (replay : Standing) (at number : ℕ) → HasFedTo P text replay at number → at ≡ length text → HasFed P text replay
fed_all P text replay at number fed is = record {
  lines = fed.lines;
  is = subst (BeginsWith text fed.lines) (no_more (drop at text) (omega (arith, is, length-drop at text))) fed.is;
  stands = fed.stands;
  program = fed.program;
}

-- what the end of a replay says of the text
pub accepted : (P Q : Program) (text : List ℕ) (lines : List (List ℕ)) (n : ℕ) → Q ≡ P → BeginsWith text lines [] → Finished Q lines (Ok (record { obligations = n })) → Accepts P text (Ok n)
accepted P Q text lines n one begins answer = subst (λ (R : Program). Accepts R text (Ok n)) one (record { lines = lines; is = begins; derivation = answer.0 }, answer.1)

pub not_finished : (P : Program) (text : List ℕ) (replay : Standing) (result : Result ℕ End) (refusal : FeedEnd) (fed : HasFed P text replay) → Finished replay.program fed.lines (Err refusal) → IsErrAnd result (λ e. e ≡ end_of_feeding refusal) → Accepts P text result
not_finished P text replay (Ok n) refusal fed answer is = absurd is
not_finished P text replay (Err e) feeding.NoMemory fed answer is = absurd answer
not_finished P text replay (Err e) (feeding.Rejected n w) fed answer is = subst (λ (x : End). Accepts P text (Err x)) (sym is) (unfinished (record {
  lines = fed.lines;
  is = fed.is;
  count = answer.0;
  ends = answer.1;
  partial = partial_of P replay fed.lines fed.stands fed.program;
  none = λ derived. answer.2 (subst (λ (R : Program). IsDerivationText R fed.lines) (sym fed.program) derived);
}))

-- a line was refused, where it is read off the text from a place
pub fed_refused_from : (P : Program) (text : List ℕ) (old new : Standing) (at number start end next : ℕ) (result : Result (Unit {0}) End) (refusal : FeedEnd) (fed : HasFedTo P text old at number) → (start ≡ at) × IsLine text start end next
    → new.program ≡ old.program → Fed fed.lines (slice_range text start end) new (Err refusal) → IsErrAnd result (λ e. e ≡ end_of_feeding refusal) → Feeds P text new result
fed_refused_from P text old new at number start end next result refusal fed piece program answer is =
    fed_refused P text old new at number end next result refusal fed (subst (λ (k : ℕ). IsLine text k end next) piece.0 piece.1) program
    (subst (λ (k : ℕ). Fed fed.lines (slice_range text k end) new (Err refusal)) piece.0 answer) is

-- a text whose lines were refused is not accepted
pub feeds_on : (P Q : Program) (text : List ℕ) (replay : Standing) (result : Result ℕ End) (end : End) → Q ≡ P → Feeds Q text replay (Err end) → IsErrAnd result (λ e. e ≡ end) → Accepts P text result
feeds_on P Q text replay (Ok n) end one feeds is = absurd is
feeds_on P Q text replay (Err e) end one feeds is = subst (λ (x : End). Accepts P text (Err x)) (sym is) (subst (λ (R : Program). Accepts R text (Err end)) one (by_end end feeds))
  where
    by_end : (x : End) → Feeds Q text replay (Err x) → Accepts Q text (Err x)
    by_end (Rejected line why) h = h
    by_end NoMemory h = tt
    by_end Done h = absurd h
    by_end Usage h = absurd h
    by_end (Schedule at rule) h = absurd h
    by_end (Source fault) h = absurd h
    by_end ReadFault h = absurd h
    by_end WriteFault h = absurd h
    by_end (TooLong long) h = absurd h
    by_end (Spent event) h = absurd h
    by_end (Arguments kind word) h = absurd h

-- all lines were fed, and the replay was accepted
pub accepted_from : (P Q : Program) (text : List ℕ) (replay : Standing) (found : Accepted) → Q ≡ P → (fed : HasFed Q text replay) → Finished replay.program fed.lines (Ok found) → Accepts P text (Ok found.obligations)
accepted_from P Q text replay found one fed answer = accepted P replay.program text fed.lines found.obligations (fed.program ∙ one) fed.is answer

-- all lines were fed, and the replay was not accepted
pub refused_from : (P Q : Program) (text : List ℕ) (replay : Standing) (result : Result ℕ End) (refusal : FeedEnd) → Q ≡ P → (fed : HasFed Q text replay) → Finished replay.program fed.lines (Err refusal)
    → IsErrAnd result (λ e. e ≡ end_of_feeding refusal) → Accepts P text result
refused_from P Q text replay result refusal one fed answer is = subst (λ (R : Program). Accepts R text result) one (not_finished Q text replay result refusal fed answer is)
