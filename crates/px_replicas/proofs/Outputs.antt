-- What a replica holds is one list with one join, and a schedule has one output.
use Rattle.std.proofs.Common.{◌≡◌, ℕ, List, [], ◌∷◌, ◌++◌, refl, sym, ap, ◌∙◌, subst, append_assoc, ◌↔◌}
use Rattle.px_base.specs.declared.names.Names.{Names}
use Rattle.px_terms.specs.declared.term.Value.{Value}
use Rattle.px_terms.specs.declared.program.ReplicaDef.{ReplicaDef}
use Rattle.px_terms.specs.declared.program.Program.{Program}
use Rattle.px_terms.specs.declared.term.Term.{out-Term}
use Rattle.px_totality.proofs.Unique.{unique_gift, unique}
use Rattle.px_schedule.specs.declared.schedule.Event.{Event}
use Rattle.px_replicas.specs.declared.shown.Shown.{Shown}
use Rattle.px_replicas.specs.Held.{AreRising}
use Rattle.px_replicas.specs.Joins.{Merges, IsContributed, Gathers, done, more, IsJoin}
use Rattle.px_replicas.specs.Lines as lines
use Rattle.px_replicas.specs.Lines.{show_line, show_lines, shown_list, IsAnswer, AreShown, AreLines}
use Rattle.px_replicas.specs.Laws.{LinesGoOn, OneState, SameHeldSameState}
use Rattle.px_replicas.proofs.Places.{one_update}
use Rattle.px_replicas.proofs.RisingLists.{in_contains, contains_in, rise_from_pairs, rising_is_one}

lines_append : (names : Names) (xs ys : List Shown) → show_lines names (xs ++ ys) ≡ show_lines names xs ++ show_lines names ys
lines_append names [] ys = refl
lines_append names (s ∷ xs) ys =
    ap (λ (t : List ℕ). show_line names s ++ t) (lines_append names xs ys) ∙ sym (append_assoc (show_line names s) (show_lines names xs) (show_lines names ys))

pub lines_go_on : LinesGoOn
lines_go_on P R events i text answer before is = record {
  all = before.all ++ shown_list answer;
  shown = lines.more answer before.shown is refl refl;
  whole = ap (λ (t : List ℕ). t ++ show_lines P.names (shown_list answer)) before.whole ∙ sym (lines_append P.names before.all (shown_list answer));
}

-- rising lists of one set are equal
pub one_set : (In' Also : ℕ → Type 0) (xs ys : List ℕ) → AreRising xs In' → AreRising ys Also → ((n : ℕ) → In' n ↔ Also n) → xs ≡ ys
one_set In' Also xs ys p q same = rising_is_one xs ys (rise_from_pairs xs p.rising) (rise_from_pairs ys q.rising) (record {
  there = λ n h. contains_in ys n ((q.each n).1 ((same n).0 ((p.each n).0 (in_contains xs n h))));
  back = λ n h. contains_in xs n ((p.each n).1 ((same n).1 ((q.each n).0 (in_contains ys n h))));
})

pub one_contributed : (events : List Event) (n : ℕ) (v w : Value) → IsContributed events n v → IsContributed events n w → v ≡ w
one_contributed events n v w a b = one_update events n a.place b.place a.replica b.replica v w a.update b.update

pub one_merge : (P : Program) (R : ReplicaDef) (a b v w : Value) (c d : ℕ) → Merges P R a b v c → Merges P R a b w d → (v ≡ w) × (c ≡ d)
one_merge P R a b v w c d m n = unique_gift P R.merge R.funs (a ∷ b ∷ []) v w c d m n

pub one_gathered : (P : Program) (R : ReplicaDef) (events : List Event) (a c v w : Value) (xs : List ℕ) → a ≡ c → Gathers P R events a xs v → Gathers P R events c xs w → v ≡ w
one_gathered P R events a c v w [] same (done e) (done f) = e ∙ same ∙ sym f
one_gathered P R events a c v w (n ∷ xs) same (more {b = b} {v = x} i m g) (more {b = d} {v = y} j k h) =
    let second : b ≡ d = one_contributed events n b d i j in
    let there : Merges P R c d x m.calls = subst (λ (z : Value). Merges P R c z x m.calls) second (subst (λ (z : Value). Merges P R z b x m.calls) same m.merges) in
    one_gathered P R events x y v w xs (one_merge P R c d x y m.calls k.calls there k.merges).0 g h

pub one_join : (P : Program) (R : ReplicaDef) (events : List Event) (xs : List ℕ) (v w : Value) → IsJoin P R events xs v → IsJoin P R events xs w → v ≡ w
one_join P R events xs v w one other =
    one_gathered P R events one.first other.first v w xs (unique P [] [] [] [] (out-Term R.from) one.first other.first one.calls other.calls one.is_first other.is_first).0 one.gathers other.gathers

pub same_join : (P : Program) (R : ReplicaDef) (events : List Event) (xs ys : List ℕ) (v w : Value) → xs ≡ ys → IsJoin P R events xs v → IsJoin P R events ys w → v ≡ w
same_join P R events xs ys v w same one other = one_join P R events ys v w (subst (λ (zs : List ℕ). IsJoin P R events zs v) same one) other

pub one_state : OneState
one_state P R events i r ones others v w one other =
    let numbers : ones ≡ others = one_set _ _ ones others one.held other.held (λ n. (λ h. h, λ h. h)) in
    (numbers, same_join P R events ones others v w numbers one.join other.join)

pub same_held_same_state : SameHeldSameState
same_held_same_state P R events i j r q ones others v w one other same =
    same_join P R events ones others v w (one_set _ _ ones others one.held other.held same) one.join other.join
