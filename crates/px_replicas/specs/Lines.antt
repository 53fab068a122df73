-- What a run prints.
use Rattle.std.specs.Prelude.{◌≡◌, ℕ, ◌+◌, List, [], ◌∷◌, ◌++◌, Option, Some, None, slice_get, codes, flat_map}
use Rattle.std.specs.List.{join_by}
use Rattle.std.specs.Fmt.{decimal}
use Rattle.px_base.specs.declared.names.Names.{Names}
use Rattle.px_terms.specs.declared.program.ReplicaDef.{ReplicaDef}
use Rattle.px_terms.specs.declared.program.Program.{Program}
use Rattle.px_machine.specs.ValueText.{value_text}
use Rattle.px_schedule.specs.declared.schedule.Event.{Event}
use Rattle.px_schedule.specs.declared.schedule.Event.TheVariants.{Show}
use Rattle.px_replicas.specs.declared.shown.Shown.{Shown}
use Rattle.px_replicas.specs.Joins.{IsState}

-- the line of a show: the replica, the numbers of the updates that it holds in brackets, and the text of its state
abbrev pub show_line : Names → Shown → List ℕ
show_line names s = decimal s.replica ++ (codes " [" ++ (join_by decimal (codes ",") s.numbers ++ (codes "] " ++ (value_text names s.value ++ 10 ∷ []))))

-- the lines of what several shows print, one after the other
abbrev pub show_lines : Names → List Shown → List ℕ
show_lines names = flat_map (show_line names)

-- The event at place i shows this: a replica, the updates that it holds there, rising, and their join.
pub record IsShownAt (P : Program) (R : ReplicaDef) (events : List Event) (i : ℕ) (s : Shown) : Type 0 where
  pub stands : slice_get events i ≡ Some (Show s.replica)
  pub state : IsState P R events i s.replica s.numbers s.value

-- what the event at place i shows: nothing where it is no show
abbrev pub IsAnswer : Program → ReplicaDef → List Event → ℕ → Option Shown → Type 0
IsAnswer P R events i None = (r : ℕ) → ¬ (slice_get events i ≡ Some (Show r))
IsAnswer P R events i (Some s) = IsShownAt P R events i s

-- the event shows this, if anything
abbrev pub shown_list : Option Shown → List Shown
shown_list None = []
shown_list (Some s) = s ∷ []

-- these are what the shows among the first i events show, in order
pub data AreShown (P : Program) (R : ReplicaDef) (events : List Event) : ℕ → List Shown → Type 0 where
  none : {i : ℕ} {all : List Shown} → i ≡ 0 → all ≡ [] → AreShown P R events i all
  more : {i next : ℕ} {before all : List Shown} (answer : Option Shown) → AreShown P R events i before → IsAnswer P R events i answer → next ≡ i + 1 →
      all ≡ before ++ shown_list answer → AreShown P R events next all

-- The text is that of the shows among the first i events.
pub record AreLines (P : Program) (R : ReplicaDef) (events : List Event) (i : ℕ) (text : List ℕ) : Type 0 where
  pub all : List Shown
  pub shown : AreShown P R events i all
  pub whole : text ≡ show_lines P.names all
