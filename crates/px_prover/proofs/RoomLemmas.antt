-- What has room is within the measure of a room.
use Rattle.std.proofs.Common.{◌≡◌, ◌≤◌, ℕ, Bool, true, false, ◌&&◌, nat_le, IsTrue, refl, sym, ◌∙◌}
use Rattle.std.proofs.lemmas.Bool.{leb-true, le-leb}
use Rattle.px_terms.specs.declared.term.Term.{Term}
use Rattle.px_terms.specs.Terms.{term_size, term_depth}
use Rattle.px_prover.specs.Rooms.{Room}
use Rattle.px_prover.specs.Normalising.{IsRoom}

-- both parts of a test that is true
both_hold : (x y : Bool) → x ≡ true → y ≡ true → (x && y) ≡ true
both_hold true y e f = f
both_hold false y e f = cc

-- a term within the measure of a room has room
pub has_room : {room : Room} {nodes levels : ℕ} → IsRoom room nodes levels → (t : Term) → term_size t ≤ nodes → term_depth t ≤ levels → IsTrue (room t)
has_room {room} {nodes} {levels} is t few shallow =
    is.is t ∙ both_hold (nat_le (term_size t) nodes) (nat_le (term_depth t) levels) (le-leb (term_size t) nodes few) (le-leb (term_depth t) levels shallow)

both_held : (x y : Bool) → (x && y) ≡ true → (x ≡ true) × (y ≡ true)
both_held true y e = (refl, e)
both_held false y e = cc

-- what has room is within its measure
pub within_room : {room : Room} {nodes levels : ℕ} → IsRoom room nodes levels → (t : Term) → IsTrue (room t) → (term_size t ≤ nodes) × (term_depth t ≤ levels)
within_room {room} {nodes} {levels} is t fits =
    let both = both_held (nat_le (term_size t) nodes) (nat_le (term_depth t) levels) (sym (is.is t) ∙ fits) in
    (leb-true (term_size t) nodes both.0, leb-true (term_depth t) levels both.1)
