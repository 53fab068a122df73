-- What a loop over the items of a list has read, and what is still to come.
use Rattle.std.proofs.Common.{◌≡◌, ℕ, ◌<◌, ◌^◌, List, [], ◌∷◌, Option, Some, None, refl, sym, ◌∙◌}
use Rattle.std.specs.Fmt.{decimal}
use Rattle.px_base.specs.declared.names.Names.{Names}
use Rattle.px_derive.specs.Readers.{bind, lift, past, more_at, gather}
use Rattle.px_derive.specs.Reading.{small_at, ty_at, fun_at, argument_at, value_at, term_at}
use Rattle.px_derive.specs.Gives.{Fails}
use Rattle.px_derive.specs.declared.line_end.LineEnd.{LineEnd}
use Rattle.px_derive.specs.declared.line_end.LineEnd.TheVariants.{Form, NoMemory}
use Rattle.px_derive.specs.Spelling.{ty_text, fun_text, term_text}
use Rattle.px_derive.proofs.Found.{bind_goes, lift_some}
use Rattle.px_derive.proofs.ListFacts.{Stays, sound_stays, more_stops, more_goes, more_breaks, more_refuses}
use Rattle.px_derive.proofs.TypesRead.{TypeIn, ty_sound, FunctionIn, fun_sound}
use Rattle.px_derive.proofs.TermsRead.{TermIn, ArgumentIn, argument_text, argument_sound, term_sound}
use Rattle.px_derive.proofs.FieldsRead.{numbers_sound}

pub ty_stays : (names : Names) (room : ℕ) → Stays (ty_at names room)
ty_stays names room = sound_stays (TypeIn names room) (ty_text names) (ty_at names room) (ty_sound names room)

pub fun_stays : (names : Names) (room : ℕ) → Stays (fun_at names room)
fun_stays names room = sound_stays (FunctionIn names room) (fun_text names) (fun_at names room) (fun_sound names room)

pub argument_stays : (names : Names) (room : ℕ) → Stays (argument_at names room)
argument_stays names room = sound_stays (ArgumentIn names room) (argument_text names) (argument_at names room) (argument_sound names room)

pub term_stays : (names : Names) (room : ℕ) → Stays (value_at (argument_at names room))
unfolding term_at
term_stays names room = sound_stays (TermIn names room) (term_text names) (value_at (argument_at names room)) (term_sound names room)

pub number_stays : Stays small_at
number_stays = sound_stays (λ (n : ℕ). n < 2 ^ 32) decimal small_at numbers_sound

module _ {S T : Type 0} (separator : ℕ) (item : List ℕ → Option (T × List ℕ)) (add : S → T → Option S) (empty : S) where
  -- the first item was read
  pub first_read : (text rest : List ℕ) (x : T) (now : S) → item text ≡ Some (x, rest) → add empty x ≡ Some now → more_at separator item add now rest ≡ gather separator item add empty text
  unfolding gather
  first_read text rest x now e f = sym (bind_goes item _ text x rest e ∙ bind_goes (lift (add empty x)) _ rest now rest (lift_some (add empty x) now rest f))

  pub first_fails : (end : LineEnd) (text : List ℕ) → Fails end (item text) → Fails end (gather separator item add empty text)
  unfolding gather bind
  first_fails Form text e = rw e refl
  first_fails NoMemory text e = tt

  pub first_refused : (end : LineEnd) (text rest : List ℕ) (x : T) → item text ≡ Some (x, rest) → Fails end (add empty x) → Fails end (gather separator item add empty text)
  unfolding gather bind lift
  first_refused Form text rest x e f = rw (e, f) refl
  first_refused NoMemory text rest x e f = tt

module _ {S T : Type 0} (separator : ℕ) (item : List ℕ → Option (T × List ℕ)) (add : S → T → Option S) (stays : Stays item) (whole : Option (S × List ℕ)) where
  -- one more item was read
  pub next_read : (all now : S) (text rest left : List ℕ) (x : T) → more_at separator item add all text ≡ whole → past (separator ∷ []) text ≡ Some rest → item rest ≡ Some (x, left) → add all x ≡ Some now → more_at separator item add now left ≡ whole
  next_read all now text rest left x so_far e f g = sym (more_goes separator item add stays all now text rest left x e f g) ∙ so_far

  pub next_fails : (end : LineEnd) (all : S) (text rest : List ℕ) → more_at separator item add all text ≡ whole → past (separator ∷ []) text ≡ Some rest → Fails end (item rest) → Fails end whole
  next_fails Form all text rest so_far e f = sym so_far ∙ more_breaks separator item add stays all text rest e f
  next_fails NoMemory all text rest so_far e f = tt

  pub next_refused : (end : LineEnd) (all : S) (text rest left : List ℕ) (x : T) → more_at separator item add all text ≡ whole → past (separator ∷ []) text ≡ Some rest → item rest ≡ Some (x, left) → Fails end (add all x) → Fails end whole
  next_refused Form all text rest left x so_far e f g = sym so_far ∙ more_refuses separator item add stays all text rest left x e f g
  next_refused NoMemory all text rest left x so_far e f g = tt

  pub no_next : (all : S) (text : List ℕ) → more_at separator item add all text ≡ whole → past (separator ∷ []) text ≡ None → whole ≡ Some (all, text)
  no_next all text so_far e = sym so_far ∙ more_stops separator item add stays all text e
