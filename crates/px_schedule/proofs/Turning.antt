-- Readings that go on: one step after the other, spaces, and a mark.
use Rattle.std.proofs.Common.{◌≡◌, ◌≢◌, ℕ, suc, ◌+◌, ◌<◌, Bool, false, List, [], ◌∷◌, ◌++◌, length, reverse, refl, sym, ap, ◌∙◌, subst, arith}
use Rattle.std.proofs.lemmas.List.{append_assoc, append-nil, length-append}
use Rattle.px_base.specs.Lawful.{IsLawful}
use Rattle.px_base.specs.declared.names.Names.{Names}
use Rattle.px_terms.specs.declared.term.Value.{Value}
use Rattle.px_terms.specs.declared.program.Program.{Program}
use Rattle.px_machine.specs.declared.cells.Cell.{Cell}
use Rattle.px_machine.specs.Cells.{preorders}
use Rattle.px_schedule.specs.declared.wanted.Wanted.{Wanted}
use Rattle.px_schedule.specs.declared.wanted.Wanted.TheVariants as wanted
use Rattle.px_schedule.specs.declared.reading.Reading.{Reading}
use Rattle.px_schedule.specs.declared.value_end.ValueEnd.{ValueEnd}
use Rattle.px_schedule.specs.declared.value_end.ValueEnd.TheVariants.{Fault, NoMemory}
use Rattle.px_schedule.specs.Runs.{begins}
use Rattle.px_schedule.specs.ValueGrammar.{Piece, mark, AreSpelled, nothing, space, piece}
use Rattle.px_schedule.specs.Wanting.{IsMark, Follows, AreWants, Fits, marked, Completes, Grows, Stays, Turns, IsStuck, EndsStuck, IsRoom, IsStep}
use Rattle.px_schedule.proofs.RunFacts.{Each}
use Rattle.px_schedule.proofs.Spellings.{is_space, spaced, trimmed, IsFirst, first_piece}
use Rattle.px_schedule.proofs.WantFacts.{MarkNeeds, NoNeeds, needs, wants_solid}

pub turns_none : (P : Program) (ws : List Wanted) (text : List ℕ) (cells : List Cell) → Turns P ws text cells ws text cells
turns_none P ws text cells = record {
  added = [];
  are = sym (append-nil cells);
  forth = λ vs C. record { values = vs; completes = C; are = refl };
  back = λ vs C. record { values = vs; completes = C; are = refl };
}

-- one reading after the other
pub turns_on : (P : Program) (ws later last : List Wanted) (text rest end : List ℕ) (cells more all : List Cell) → Turns P ws text cells later rest more → Turns P later rest more last end all → Turns P ws text cells last end all
turns_on P ws later last text rest end cells more all a b = record {
  added = a.added ++ b.added;
  are = b.are ∙ ap (λ (z : List Cell). z ++ b.added) a.are ∙ append_assoc cells a.added b.added;
  forth = λ vs C.
      let g : Grows P later rest (b.added ++ preorders vs) = b.forth vs C in
      let h : Grows P ws text (a.added ++ preorders g.values) = a.forth g.values g.completes in
      record { values = h.values; completes = h.completes; are = h.are ∙ ap (λ (z : List Cell). a.added ++ z) g.are ∙ sym (append_assoc a.added b.added (preorders vs)) };
  back = λ vs C.
      let g : Stays P later rest a.added (preorders vs) = a.back vs C in
      let h : Stays P last end b.added (preorders g.values) = b.back g.values g.completes in
      record { values = h.values; completes = h.completes; are = g.are ∙ ap (λ (z : List Cell). a.added ++ z) h.are ∙ sym (append_assoc a.added b.added (preorders h.values)) };
}

-- what is wanted may stand behind spaces
pub completes_behind : (P : Program) → IsLawful P.names → (ws : List Wanted) → AreWants ws → (text front back : List ℕ) → text ≡ front ++ back → Each is_space front → begins is_space back ≡ false → (vs : List Value) → Completes P ws text vs → Completes P ws back vs
completes_behind P lawful ws are text front back whole each ends vs C = record {
  pieces = C.pieces;
  fits = C.fits;
  spelled = trimmed P.names C.spelled (wants_solid P lawful ws are vs C.pieces C.fits) front back whole each ends;
}

pub completes_spaced : (P : Program) (ws : List Wanted) (text front back : List ℕ) → text ≡ front ++ back → Each is_space front → (vs : List Value) → Completes P ws back vs → Completes P ws text vs
completes_spaced P ws text front back whole each vs C = record {
  pieces = C.pieces;
  fits = C.fits;
  spelled = subst (λ (t : List ℕ). AreSpelled P.names t C.pieces) (sym whole) (spaced P.names front back C.pieces each C.spelled);
}

turns_spaced : (P : Program) → IsLawful P.names → (ws later : List Wanted) → AreWants ws → (text front back rest : List ℕ) → text ≡ front ++ back → Each is_space front → begins is_space back ≡ false → (cells more : List Cell) → Turns P ws back cells later rest more → Turns P ws text cells later rest more
turns_spaced P lawful ws later are text front back rest whole each ends cells more t = record {
  added = t.added;
  are = t.are;
  forth = λ vs C.
      let g : Grows P ws back (t.added ++ preorders vs) = t.forth vs C in
      record { values = g.values; completes = completes_spaced P ws text front back whole each g.values g.completes; are = g.are };
  back = λ vs C. t.back vs (completes_behind P lawful ws are text front back whole each ends vs C);
}

pub step_spaced : (P : Program) → IsLawful P.names → (w : Wanted) (before later : Reading) → AreWants (w ∷ reverse before.wanted) → (text front back rest : List ℕ) → text ≡ front ++ back → Each is_space front → begins is_space back ≡ false → IsStep P w before back later rest → IsStep P w before text later rest
step_spaced P lawful w before later are text front back rest whole each ends s =
    let total : length text ≡ length front + length back = ap length whole ∙ length-append front back in
    let less : length rest < length back = s.shorter in
    record {
      turns = turns_spaced P lawful (w ∷ reverse before.wanted) (reverse later.wanted) are text front back rest whole each ends before.cells later.cells s.turns;
      room = s.room;
      wants = s.wants;
      shorter = omega arith;
    }

pub stuck_spaced : (P : Program) → IsLawful P.names → (ws : List Wanted) → AreWants ws → (text front back : List ℕ) → text ≡ front ++ back → Each is_space front → begins is_space back ≡ false → (cells : List Cell) (end : ValueEnd) → EndsStuck P ws back cells end → EndsStuck P ws text cells end
stuck_spaced P lawful ws are text front back whole each ends cells Fault stuck = λ vs C small. stuck vs (completes_behind P lawful ws are text front back whole each ends vs C) small
stuck_spaced P lawful ws are text front back whole each ends cells NoMemory stuck = tt

-- What is left behind a mark.
pub record IsMarked (P : Program) (c : ℕ) (ws : List Wanted) (text : List ℕ) (vs : List Value) : Type 0 where
  pub rest : List ℕ
  pub is : text ≡ c ∷ rest
  pub completes : Completes P ws rest vs

pub mark_first : (P : Program) (c : ℕ) (ws : List Wanted) (text : List ℕ) → begins is_space text ≡ false → (vs : List Value) → Completes P (wanted.Mark c ∷ ws) text vs → IsMarked P c ws text vs
mark_first P c ws text ends vs C =
    let n : MarkNeeds P c ws vs C.pieces = needs P C.fits in
    let f : IsFirst P.names text (mark c) n.others = first_piece P.names (subst (AreSpelled P.names text) n.is C.spelled) ends in
    record {
      rest = f.rest;
      is = f.whole ∙ ap (λ (w : List ℕ). w ++ f.rest) f.is_word;
      completes = record { pieces = n.others; fits = n.fits; spelled = f.spelled };
    }

mark_turns : (P : Program) (c : ℕ) (ws : List Wanted) (text rest : List ℕ) (cells : List Cell) → begins is_space text ≡ false → text ≡ c ∷ rest → Turns P (wanted.Mark c ∷ ws) text cells ws rest cells
mark_turns P c ws text rest cells ends is = record {
  added = [];
  are = sym (append-nil cells);
  forth = λ vs C. record {
    values = vs;
    completes = record { pieces = mark c ∷ C.pieces; fits = marked C.fits; spelled = piece (c ∷ []) refl is C.spelled };
    are = refl;
  };
  back = λ vs C.
      let m : IsMarked P c ws text vs = mark_first P c ws text ends vs C in
      let same : m.rest ≡ rest = (let both : c ∷ m.rest ≡ c ∷ rest = sym m.is ∙ is in cc) in
      record { values = vs; completes = subst (λ (t : List ℕ). Completes P ws t vs) same m.completes; are = refl };
}

-- a mark was read
pub mark_step : (P : Program) (c : ℕ) (before later : Reading) (text rest : List ℕ) → begins is_space text ≡ false → text ≡ c ∷ rest → AreWants (wanted.Mark c ∷ reverse before.wanted) → IsRoom before.left before.cells (wanted.Mark c ∷ reverse before.wanted) → later ≡ before → IsStep P (wanted.Mark c) before text later rest
mark_step P c before later text rest ends is are room same =
    let s : IsStep P (wanted.Mark c) before text before rest = record {
      turns = mark_turns P c (reverse before.wanted) text rest before.cells ends is;
      room = room;
      wants = are.1;
      shorter = (let h : length text ≡ suc (length rest) = ap length is in omega arith);
    } in
    subst (λ (r : Reading). IsStep P (wanted.Mark c) before text r rest) (sym same) s

pub mark_stuck : (P : Program) (c : ℕ) (ws : List Wanted) (text : List ℕ) (cells : List Cell) → begins is_space text ≡ false → ((rest : List ℕ) → text ≢ c ∷ rest) → IsStuck P (wanted.Mark c ∷ ws) text cells
mark_stuck P c ws text cells ends none vs C small =
    let m : IsMarked P c ws text vs = mark_first P c ws text ends vs C in
    none m.rest m.is

no_pieces_end : (names : Names) (test : ℕ → Bool) {text : List ℕ} → test 32 ≡ false → AreSpelled names text [] → begins test text ≡ false
no_pieces_end names test no_space nothing = refl
no_pieces_end names test no_space (space spelled) = no_space

mark_ends : (names : Names) (test : ℕ → Bool) {text : List ℕ} {c : ℕ} {ps : List Piece} → test 32 ≡ false → test c ≡ false → AreSpelled names text (mark c ∷ ps) → begins test text ≡ false
mark_ends names test no_space no_mark (space spelled) = no_space
mark_ends names test no_space no_mark (piece {whole} {text} word is_word is spelled) = ap (begins test) (is ∙ ap (λ (w : List ℕ). w ++ text) is_word) ∙ no_mark

-- behind a value stands a space, a mark or nothing
pub ends_word : (P : Program) (test : ℕ → Bool) → test 32 ≡ false → ((c : ℕ) → IsMark c → test c ≡ false) → (ws : List Wanted) → AreWants ws → Follows ws → (vs : List Value) (ps : List Piece) (text : List ℕ) → Fits P ws vs ps → AreSpelled P.names text ps → begins test text ≡ false
ends_word P test no_space no_mark [] are follows vs ps text fits spelled =
    let n : NoNeeds vs ps = needs P fits in
    no_pieces_end P.names test no_space (subst (AreSpelled P.names text) n.is spelled)
ends_word P test no_space no_mark (wanted.Mark c ∷ ws) are follows vs ps text fits spelled =
    let n : MarkNeeds P c ws vs ps = needs P fits in
    mark_ends P.names test no_space (no_mark c are.0) (subst (AreSpelled P.names text) n.is spelled)
ends_word P test no_space no_mark (wanted.Value T ∷ ws) are follows vs ps text fits spelled = absurd follows
