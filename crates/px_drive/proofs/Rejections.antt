-- No text is a derivation and rejected, and it is rejected in one way.
use Rattle.std.proofs.Common.{◌≡◌, ◌∙◌, ℕ, ◌<◌, ◌+◌, List, [], ◌∷◌, ◌++◌, length, refl, sym, ap, subst, arith, append-nil}
use Rattle.px_terms.specs.declared.program.Program.{Program}
use Rattle.px_terms.specs.declared.row.Row.{Row}
use Rattle.px_descent.specs.Checked.{IsChecked}
use Rattle.px_derive.specs.Laws.{OneRow}
use Rattle.px_replay.specs.declared.ends.Why.{Why}
use Rattle.px_replay.specs.declared.ends.Why.TheVariants as why
use Rattle.px_replay.specs.States.{State, start, at_end, IsPartial, IsDerivationText}
use Rattle.px_replay.specs.Refusals.{Fails, FailsAfter, IsDue}
use Rattle.px_replay.specs.Laws.{OneState, EndsAreDerivations, PartialsBegin}
use Rattle.px_drive.specs.Derivations.{IsOneLine, BeginsWith, IsDerivationOf, IsRefusedLine, IsUnended, IsUnfinished, IsRejected, refused, unended, unfinished}
use Rattle.px_drive.specs.Laws.{NeverRejected, OneRejection, SourceIsChecked}
use Rattle.px_drive.proofs.Cuts.{Compared, longer, shorter, compared, ended, no_bytes, front_of, same_last}

-- The lines of a text that begin a derivation, behind which no line stands.
record IsLast (P : Program) (text : List ℕ) (lines : List (List ℕ)) (rest : List ℕ) : Type 0 where
  is : BeginsWith text lines rest
  one_line : IsOneLine rest
  partial : IsPartial P lines

-- the last lines of a text are one list
same_lines : (a b : List (List ℕ)) (r s : List ℕ) → IsOneLine r → IsOneLine s → Compared a b r s → (a ≡ b) × (r ≡ s)
same_lines a b r s one other (longer [] lines rest) = (sym (lines ∙ append-nil a), rest)
same_lines a b r s one other (longer (x ∷ more) lines rest) = absurd (ended x more r s one rest)
same_lines a b r s one other (shorter x more lines rest) = absurd (ended x more s r other rest)

last_is : (P : Program) (text : List ℕ) (a b : List (List ℕ)) (r s : List ℕ) → IsLast P text a r → IsLast P text b s → (a ≡ b) × (r ≡ s)
last_is P text a b r s one other = same_lines a b r s one.one_line other.one_line (compared text a b r s one.is other.is)

empty : (rest : List ℕ) → 0 < length rest → rest ≡ [] → ⊥
empty rest some is = omega (arith, some, ap length is)

module _ (ends : EndsAreDerivations) (begins : PartialsBegin) where
  -- where lines begin a derivation, those before them do
  within : (P : Program) (front more lines : List (List ℕ)) → lines ≡ front ++ more → IsPartial P lines → IsPartial P front
  within P front more lines is partial = begins P front more (subst (IsPartial P) is partial)

  -- lines that begin no derivation are not among the last lines of one
  not_last : (P : Program) (text : List ℕ) (front lines : List (List ℕ)) (r s : List ℕ) → BeginsWith text front r → ¬ IsPartial P front → IsLast P text lines s → ⊥
  not_last P text front lines r s is none last = by_lines (compared text front lines r s is last.is)
    where
      by_lines : Compared front lines r s → ⊥
      by_lines (longer more fronts rest) = none (within P front more lines fronts last.partial)
      by_lines (shorter x more fronts rest) = ended x more s r last.one_line rest

  derivation_last : (P : Program) (text : List ℕ) (derived : IsDerivationOf P text) → IsLast P text derived.lines []
  derivation_last P text derived = record {
    is = derived.is;
    one_line = no_bytes;
    partial = record { state = at_end P; leads = (ends P derived.lines).end derived.derivation };
  }

  unended_last : (P : Program) (text : List ℕ) (n : ℕ) (w : Why) (u : IsUnended P text n w) → IsLast P text u.before u.rest
  unended_last P text n w u = record { is = u.is; one_line = u.one_line; partial = u.partial }

  unfinished_last : (P : Program) (text : List ℕ) (n : ℕ) (w : Why) (u : IsUnfinished P text n w) → IsLast P text u.lines []
  unfinished_last P text n w u = record { is = u.is; one_line = no_bytes; partial = u.partial }

  pub never_rejected_law : NeverRejected
  never_rejected_law P text n w derived (refused r) = not_last P text (r.before ++ r.line ∷ []) derived.lines r.rest [] r.is r.none (derivation_last P text derived)
  never_rejected_law P text n w derived (unended u) =
      empty u.rest u.some (last_is P text u.before derived.lines u.rest [] (unended_last P text n w u) (derivation_last P text derived)).1
  never_rejected_law P text n w derived (unfinished u) =
      let same : derived.lines ≡ u.lines = (last_is P text derived.lines u.lines [] [] (derivation_last P text derived) (unfinished_last P text n w u)).0 in
      u.none (subst (IsDerivationText P) same derived.derivation)

  module _ (one_state : OneState) (one_row : OneRow) where
    -- a line fails for one reason
    one_reason : (P : Program) → IsChecked P → (s : State) (line : List ℕ) (w v : Why) → Fails P s line w → Fails P s line v → w ≡ v
    one_reason P checked s line why.Form why.Form a b = refl
    one_reason P checked s line why.Order why.Order a b = refl
    one_reason P checked s line why.Rule why.Rule a b = refl
    one_reason P checked s line why.Form why.Order a b = absurd (a b.row b.spellable b.spelled)
    one_reason P checked s line why.Form why.Rule a b = absurd (a b.row b.spellable b.spelled)
    one_reason P checked s line why.Order why.Form a b = absurd (b a.row a.spellable a.spelled)
    one_reason P checked s line why.Rule why.Form a b = absurd (b a.row a.spellable a.spelled)
    one_reason P checked s line why.Order why.Rule a b =
        let rows : b.row ≡ a.row = one_row P.names b.row a.row checked.lawful b.spellable a.spellable (sym b.spelled ∙ a.spelled) in
        absurd (a.order (subst (λ (r : Row). IsDue P s r) rows b.order))
    one_reason P checked s line why.Rule why.Order a b =
        let rows : a.row ≡ b.row = one_row P.names a.row b.row checked.lawful a.spellable b.spellable (sym a.spelled ∙ b.spelled) in
        absurd (b.order (subst (λ (r : Row). IsDue P s r) rows a.order))
    one_reason P checked s line why.End v a b = absurd a
    one_reason P checked s line why.Form why.End a b = absurd b
    one_reason P checked s line why.Order why.End a b = absurd b
    one_reason P checked s line why.Rule why.End a b = absurd b

    same_reason : (P : Program) → IsChecked P → (before : List (List ℕ)) (line : List ℕ) (w v : Why) → FailsAfter P before line w → FailsAfter P before line v → w ≡ v
    same_reason P checked before line w v a b =
        let states : a.state ≡ b.state = one_state P checked before start a.state b.state a.leads b.leads in
        one_reason P checked b.state line w v (subst (λ (s : State). Fails P s line w) states a.fails) b.fails

    -- the line that is refused is not behind one that is refused
    not_behind : (P : Program) (front before : List (List ℕ)) (line x : List ℕ) (more : List (List ℕ)) → ¬ IsPartial P front → IsPartial P before → before ++ line ∷ [] ≡ front ++ x ∷ more → ⊥
    not_behind P front before line x more none partial is =
        let found : (k : List (List ℕ)) × (before ≡ front ++ k) = front_of before line front x more is in
        none (within P front found.0 before found.1 partial)

    before_partial : (P : Program) (text : List ℕ) (n : ℕ) (w : Why) (r : IsRefusedLine P text n w) → IsPartial P r.before
    before_partial P text n w r = record { state = r.fails.state; leads = r.fails.leads }

    two_refused : (P : Program) (text : List ℕ) (n m : ℕ) (w v : Why) → IsChecked P → IsRefusedLine P text n w → IsRefusedLine P text m v → (n ≡ m) × (w ≡ v)
    two_refused P text n m w v checked a b = by_lines (compared text (a.before ++ a.line ∷ []) (b.before ++ b.line ∷ []) a.rest b.rest a.is b.is)
      where
        same : a.before ++ a.line ∷ [] ≡ b.before ++ b.line ∷ [] → (n ≡ m) × (w ≡ v)
        same is =
            let fronts : (a.before ≡ b.before) × (a.line ≡ b.line) = same_last a.before b.before a.line b.line is in (
              a.count ∙ (ap (λ (lines : List (List ℕ)). length lines + 1) fronts.0 ∙ sym b.count),
              same_reason P checked b.before b.line w v
                  (subst (λ (line : List ℕ). FailsAfter P b.before line w) fronts.1 (subst (λ (before : List (List ℕ)). FailsAfter P before a.line w) fronts.0 a.fails)) b.fails,
            )

        by_lines : Compared (a.before ++ a.line ∷ []) (b.before ++ b.line ∷ []) a.rest b.rest → (n ≡ m) × (w ≡ v)
        by_lines (longer [] lines rest) = same (sym (lines ∙ append-nil (a.before ++ a.line ∷ [])))
        by_lines (longer (x ∷ more) lines rest) = absurd (not_behind P (a.before ++ a.line ∷ []) b.before b.line x more a.none (before_partial P text m v b) lines)
        by_lines (shorter x more lines rest) = absurd (not_behind P (b.before ++ b.line ∷ []) a.before a.line x more b.none (before_partial P text n w a) lines)

    counted : (n m : ℕ) (a b : List (List ℕ)) → n ≡ length a + 1 → m ≡ length b + 1 → a ≡ b → n ≡ m
    counted n m a b one other is = one ∙ (ap (λ (lines : List (List ℕ)). length lines + 1) is ∙ sym other)

    -- of a checked program, a text is rejected at one line at most, for one reason
    one_way : (P : Program) (text : List ℕ) (n m : ℕ) (w v : Why) → IsChecked P → IsRejected P text n w → IsRejected P text m v → (n ≡ m) × (w ≡ v)
    one_way P text n m w v checked (refused a) (refused b) = two_refused P text n m w v checked a b
    one_way P text n m w v checked (refused a) (unended b) = absurd (not_last P text (a.before ++ a.line ∷ []) b.before a.rest b.rest a.is a.none (unended_last P text m v b))
    one_way P text n m w v checked (refused a) (unfinished b) = absurd (not_last P text (a.before ++ a.line ∷ []) b.lines a.rest [] a.is a.none (unfinished_last P text m v b))
    one_way P text n m w v checked (unended a) (refused b) = absurd (not_last P text (b.before ++ b.line ∷ []) a.before b.rest a.rest b.is b.none (unended_last P text n w a))
    one_way P text n m w v checked (unfinished a) (refused b) = absurd (not_last P text (b.before ++ b.line ∷ []) a.lines b.rest [] b.is b.none (unfinished_last P text n w a))
    one_way P text n m w v checked (unended a) (unended b) =
        (counted n m a.before b.before a.count b.count (last_is P text a.before b.before a.rest b.rest (unended_last P text n w a) (unended_last P text m v b)).0, a.form ∙ sym b.form)
    one_way P text n m w v checked (unended a) (unfinished b) =
        absurd (empty a.rest a.some (last_is P text a.before b.lines a.rest [] (unended_last P text n w a) (unfinished_last P text m v b)).1)
    one_way P text n m w v checked (unfinished a) (unended b) =
        absurd (empty b.rest b.some (last_is P text b.before a.lines b.rest [] (unended_last P text m v b) (unfinished_last P text n w a)).1)
    one_way P text n m w v checked (unfinished a) (unfinished b) =
        (counted n m a.lines b.lines a.count b.count (last_is P text a.lines b.lines [] [] (unfinished_last P text n w a) (unfinished_last P text m v b)).0, a.ends ∙ sym b.ends)

    pub one_rejection_law : SourceIsChecked → OneRejection
    one_rejection_law checked source P is text n m w v one other = one_way P text n m w v (checked source P is) one other
