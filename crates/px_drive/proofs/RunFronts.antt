-- The lines of a schedule's first shows stand at the front of the lines of all its shows.
use Rattle.std.proofs.Common.{◌≡◌, ◌∙◌, ℕ, ◌<◌, ◌≤◌, ◌⊎◌, List, [], ◌++◌, length, take, inl, inr, refl, sym, ap, subst, arith, append_assoc, append-nil}
use Rattle.std.proofs.lemmas.Bool.{cases_order}
use Rattle.std.proofs.lemmas.List.{take_all, take-append-le}
use Rattle.std.proofs.lemmas.Grind.{flat_map-append}
use Rattle.px_terms.specs.declared.program.ReplicaDef.{ReplicaDef}
use Rattle.px_terms.specs.declared.program.Program.{Program}
use Rattle.px_schedule.specs.declared.schedule.Event.{Event}
use Rattle.px_replicas.specs.declared.shown.Shown.{Shown}
use Rattle.px_replicas.specs.Lines.{show_line, show_lines, shown_list, AreShown, none, more, AreLines}
use Rattle.px_replicas.specs.Laws.{OneOutput, SchedulesMayHappen, LinesExist}
use Rattle.px_drive.specs.Laws.{SourceIsChecked}
use Rattle.px_drive.specs.RunLaws.{MergesJoin, CutIsFront, CutIsFrontOfAll}
use Rattle.px_drive.proofs.RunChances.{one_declaration}

-- What the first events show stands at the front of what more of them show.
record Front (P : Program) (R : ReplicaDef) (events : List Event) (i : ℕ) (all : List Shown) : Type 0 where
  first : List Shown
  rest : List Shown
  shown : AreShown P R events i first
  whole : all ≡ first ++ rest

front_of : (P : Program) (R : ReplicaDef) (events : List Event) (i j : ℕ) (all : List Shown) → i ≤ j → AreShown P R events j all → Front P R events i all
front_of P R events i j all below (none zeroth empty) = record {
  first = all;
  rest = [];
  shown = none (omega (arith, below, zeroth)) empty;
  whole = sym (append-nil all);
}
front_of P R events i j all below (more {i = n} {before = us} answer before is next e) = by_place (λ low. front_of P R events i n us low before) (cases_order i j)
  where
    by_place : (i ≤ n → Front P R events i us) → (i ≡ j) ⊎ ((i < j) ⊎ (j < i)) → Front P R events i all
    by_place deeper (inl same) = record {
      first = all;
      rest = [];
      shown = more {i = n} {before = us} answer before is (same ∙ next) e;
      whole = sym (append-nil all);
    }
    by_place deeper (inr (inl less)) =
        let there : Front P R events i us = deeper (omega (arith, less, next)) in
        record {
          first = there.first;
          rest = there.rest ++ shown_list answer;
          shown = there.shown;
          whole = e ∙ (ap (λ (xs : List Shown). xs ++ shown_list answer) there.whole ∙ append_assoc there.first there.rest (shown_list answer));
        }
    by_place deeper (inr (inr above)) = let wrong : ⊥ = omega (arith, below, above) in absurd wrong

-- a front of a list is one of that list with more behind it
front_of_more : (count : ℕ) (xs ys : List ℕ) → (n : ℕ) × (take count xs ≡ take n (xs ++ ys))
front_of_more count xs ys = by_count (cases_order count (length xs))
  where
    within : count ≤ length xs → (n : ℕ) × (take count xs ≡ take n (xs ++ ys))
    within low = (count, sym (take-append-le count xs ys low))

    by_count : (count ≡ length xs) ⊎ ((count < length xs) ⊎ (length xs < count)) → (n : ℕ) × (take count xs ≡ take n (xs ++ ys))
    by_count (inl same) = within (omega (arith, same))
    by_count (inr (inl less)) = within (omega (arith, less))
    by_count (inr (inr above)) =
        let most : length xs ≤ length xs = omega arith in
        let over : length xs ≤ count = omega (arith, above) in
        (length xs, take_all count xs over ∙ (sym (take_all (length xs) xs most) ∙ sym (take-append-le (length xs) xs ys most)))

pub cut_is_front_law : OneOutput → CutIsFront
cut_is_front_law one P S R printed whole declared cut lines =
    let same : cut.R ≡ R = one_declaration P S.declaration cut.R R cut.declared declared in
    let front : Front P R S.events cut.place lines.all = front_of P R S.events cut.place (length S.events) lines.all cut.stands lines.shown in
    let first : cut.lines ≡ show_lines P.names front.first =
    one.lines P R S.events cut.place cut.lines (show_lines P.names front.first) (subst (λ (T : ReplicaDef). AreLines P T S.events cut.place cut.lines) same cut.are_lines) (record { all = front.first; shown = front.shown; whole = refl }) in
    let all : whole ≡ cut.lines ++ show_lines P.names front.rest =
    lines.whole ∙ (ap (show_lines P.names) front.whole ∙ (flat_map-append (show_line P.names) front.first front.rest ∙ ap (λ (xs : List ℕ). xs ++ show_lines P.names front.rest) (sym first))) in
    let found = front_of_more cut.count cut.lines (show_lines P.names front.rest) in
    (found.0, cut.front ∙ (found.1 ∙ ap (take found.0) (sym all)))

-- there are lines of all shows, and so a front of the first is one of them all
pub cut_is_front_of_all_law : SourceIsChecked → MergesJoin → SchedulesMayHappen → LinesExist → CutIsFront → CutIsFrontOfAll
cut_is_front_of_all_law checked joins may exist front text steps lines printed P S source derivation schedule cut =
    let of = may P lines S schedule in
    let joined = joins text steps P S.declaration of.replica source derivation of.declared in
    let most : length S.events ≤ length S.events = omega arith in
    let whole = exist P of.replica S.declaration S.count (checked text P source) of.declared joined S.events of.may (length S.events) most in
    let cut_at = front P S of.replica printed whole.0 of.declared cut whole.1 in
    record {
      R = of.replica;
      declared = of.declared;
      whole = whole.0;
      lines = whole.1;
      count = cut_at.0;
      front = cut_at.1;
    }
