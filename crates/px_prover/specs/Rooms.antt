-- Rooms: how far a term may grow where it stands.
use Rattle.std.specs.Prelude.{ℕ, ◌+◌, ◌*◌, List, Bool, ◌&&◌, nat_le, unwrap_or}
use Rattle.px_terms.specs.declared.term.Term.{Term}
use Rattle.px_terms.specs.Terms.{term_size, term_depth, with_child, replaced}
use Rattle.px_base.specs.declared.limits.TheConstants.{SEQUENT_NODES, SEQUENT_DEPTH}

-- whether the whole side that a term stands in is within the limits with this term in its place
abbrev pub Room : Type 0
Room = Term → Bool

-- the room of a whole side: the limits of a sequent
abbrev pub whole_side : Room
whole_side t = nat_le (term_size t) SEQUENT_NODES && nat_le (term_depth t) SEQUENT_DEPTH

-- the room of a child, from that of its term
abbrev pub room_in : Room → Term → ℕ → Room
room_in room t i child = room (with_child t i child)

-- the room of one of so many leaf pairs, at a path of a whole side: the side keeps to the depth, and would to the nodes if the
-- part at each of the leaf pairs grew by as much as this one
abbrev pub leaf_room : ℕ → Term → List ℕ → Term → Room
leaf_room count whole path before now = nat_le (term_size whole + count * term_size now) (SEQUENT_NODES + count * term_size before) && nat_le (term_depth (unwrap_or (replaced whole path now) now)) SEQUENT_DEPTH
