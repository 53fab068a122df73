-- What is wanted: its inversions, and the fields of a constructor.
use Rattle.std.proofs.Common.{◌≡◌, ℕ, ◌+◌, true, false, List, [], ◌∷◌, ◌++◌, map, length, refl, sym, ap, ◌∙◌, subst, inl, inr, arith}
use Rattle.std.proofs.lemmas.List.{append_assoc}
use Rattle.std.specs.Char.{is_ascii_digit}
use Rattle.std.proofs.lemmas.Bool.Decides.{nat_tests}
use Rattle.px_base.specs.Lawful.{IsLawful}
use Rattle.px_base.specs.declared.names.Names.{Names}
use Rattle.px_terms.specs.declared.types.Ty.{Ty}
use Rattle.px_terms.specs.declared.term.Value.{Value, out-Value}
use Rattle.px_terms.specs.declared.term.Value.TheOpen.{Value-F}
use Rattle.px_terms.specs.declared.program.Program.{Program}
use Rattle.px_terms.specs.Values.{IsIn, AreIn, none, more}
use Rattle.px_schedule.specs.declared.wanted.Wanted.{Wanted}
use Rattle.px_schedule.specs.declared.wanted.Wanted.TheVariants as wanted
use Rattle.px_schedule.specs.ValueGrammar.{Piece, mark, closed, in_parentheses, pieces, IsNumeral}
use Rattle.px_schedule.specs.Wanting.{closed_wants, field_wants, IsMark, Follows, AreWants, Fits, done, marked, valued, values_in}
use Rattle.px_schedule.proofs.Spellings.{is_space, IsSolid, BeginsSolid}
use Rattle.px_schedule.proofs.NameFacts.{name_upper, name_solid}
use Rattle.px_schedule.proofs.ValueFacts.{pieces_word, pieces_con}

-- A mark is wanted.
pub record MarkNeeds (P : Program) (c : ℕ) (ws : List Wanted) (vs : List Value) (ps : List Piece) : Type 0 where
  pub others : List Piece
  pub is : ps ≡ mark c ∷ others
  pub fits : Fits P ws vs others

-- A value is wanted.
pub record ValueNeeds (P : Program) (T : Ty) (ws : List Wanted) (vs : List Value) (ps : List Piece) : Type 0 where
  pub value : Value
  pub others : List Value
  pub behind : List Piece
  pub values : vs ≡ value ∷ others
  pub inside : IsIn P T value
  pub is : ps ≡ pieces value ++ behind
  pub fits : Fits P ws others behind

-- Nothing is wanted.
pub record NoNeeds (vs : List Value) (ps : List Piece) : Type 0 where
  pub values : vs ≡ []
  pub is : ps ≡ []

-- what fits, by what is wanted first
abbrev pub Needs : Program → List Wanted → List Value → List Piece → Type 0
Needs P [] vs ps = NoNeeds vs ps
Needs P (wanted.Mark c ∷ ws) vs ps = MarkNeeds P c ws vs ps
Needs P (wanted.Value T ∷ ws) vs ps = ValueNeeds P T ws vs ps

pub needs : (P : Program) {ws : List Wanted} {vs : List Value} {ps : List Piece} → Fits P ws vs ps → Needs P ws vs ps
needs P done = record { values = refl; is = refl }
needs P (marked {c} {ws} {vs} {ps} fits) = record { others = ps; is = refl; fits = fits }
needs P (valued {T} {ws} {v} {vs} {ps} {all} inside is fits) = record { value = v; others = vs; behind = ps; values = refl; inside = inside; is = is; fits = fits }

-- as many values as are wanted
pub fit_count : (P : Program) {ws : List Wanted} {vs : List Value} {ps : List Piece} → Fits P ws vs ps → length vs ≡ values_in ws
fit_count P done = refl
fit_count P (marked fits) = fit_count P fits
fit_count P (valued inside is fits) = let h = fit_count P fits in omega arith

closed_fit : (P : Program) (ws : List Wanted) (vs : List Value) (ps : List Piece) → Fits P ws vs ps → {types : List Ty} {fields : List Value} → AreIn P types fields →
    Fits P (closed_wants types ++ ws) (fields ++ vs) (closed (map pieces fields) ++ ps)
closed_fit P ws vs ps fits none = marked fits
closed_fit P ws vs ps fits (more {T} {types} {v} {values} inside others) =
    marked (valued inside (append_assoc (pieces v) (closed (map pieces values)) ps) (closed_fit P ws vs ps fits others))

-- fields fit where they are wanted
pub field_fit : (P : Program) (ws : List Wanted) (vs : List Value) (ps : List Piece) → Fits P ws vs ps → {types : List Ty} {fields : List Value} → AreIn P types fields →
    Fits P (field_wants types ++ ws) (fields ++ vs) (in_parentheses (map pieces fields) ++ ps)
field_fit P ws vs ps fits none = fits
field_fit P ws vs ps fits (more {T} {types} {v} {values} inside others) =
    marked (valued inside (append_assoc (pieces v) (closed (map pieces values)) ps) (closed_fit P ws vs ps fits others))

-- What fits begins with fields.
pub record IsSplit (P : Program) (types : List Ty) (ws : List Wanted) (vs : List Value) (ps : List Piece) (as_pieces : List (List Piece) → List Piece) : Type 0 where
  pub fields : List Value
  pub others : List Value
  pub behind : List Piece
  pub inside : AreIn P types fields
  pub values : vs ≡ fields ++ others
  pub is : ps ≡ as_pieces (map pieces fields) ++ behind
  pub fits : Fits P ws others behind

closed_fits : (P : Program) (types : List Ty) (ws : List Wanted) (vs : List Value) (ps : List Piece) → Fits P (closed_wants types ++ ws) vs ps → IsSplit P types ws vs ps closed
closed_fits P [] ws vs ps fits =
    let n : MarkNeeds P 41 ws vs ps = needs P fits in
    record { fields = []; others = vs; behind = n.others; inside = none; values = refl; is = n.is; fits = n.fits }
closed_fits P (T ∷ types) ws vs ps fits =
    let n : MarkNeeds P 44 (wanted.Value T ∷ (closed_wants types ++ ws)) vs ps = needs P fits in
    let m : ValueNeeds P T (closed_wants types ++ ws) vs n.others = needs P n.fits in
    let r : IsSplit P types ws m.others m.behind closed = closed_fits P types ws m.others m.behind m.fits in
    record {
      fields = m.value ∷ r.fields;
      others = r.others;
      behind = r.behind;
      inside = more m.inside r.inside;
      values = m.values ∙ ap (λ (z : List Value). m.value ∷ z) r.values;
      is = n.is ∙ ap (λ (z : List Piece). mark 44 ∷ z) (m.is ∙ ap (λ (z : List Piece). pieces m.value ++ z) r.is ∙ sym (append_assoc (pieces m.value) (closed (map pieces r.fields)) r.behind));
      fits = r.fits;
    }

pub field_fits : (P : Program) (types : List Ty) (ws : List Wanted) (vs : List Value) (ps : List Piece) → Fits P (field_wants types ++ ws) vs ps → IsSplit P types ws vs ps in_parentheses
field_fits P [] ws vs ps fits = record { fields = []; others = vs; behind = ps; inside = none; values = refl; is = refl; fits = fits }
field_fits P (T ∷ types) ws vs ps fits =
    let n : MarkNeeds P 40 (wanted.Value T ∷ (closed_wants types ++ ws)) vs ps = needs P fits in
    let m : ValueNeeds P T (closed_wants types ++ ws) vs n.others = needs P n.fits in
    let r : IsSplit P types ws m.others m.behind closed = closed_fits P types ws m.others m.behind m.fits in
    record {
      fields = m.value ∷ r.fields;
      others = r.others;
      behind = r.behind;
      inside = more m.inside r.inside;
      values = m.values ∙ ap (λ (z : List Value). m.value ∷ z) r.values;
      is = n.is ∙ ap (λ (z : List Piece). mark 40 ∷ z) (m.is ∙ ap (λ (z : List Piece). pieces m.value ++ z) r.is ∙ sym (append_assoc (pieces m.value) (closed (map pieces r.fields)) r.behind));
      fits = r.fits;
    }

follows_closed : (types : List Ty) (ws : List Wanted) → Follows (closed_wants types ++ ws)
follows_closed [] ws = tt
follows_closed (T ∷ types) ws = tt

closed_are : (types : List Ty) (ws : List Wanted) → AreWants ws → AreWants (closed_wants types ++ ws)
closed_are [] ws are = (inr (inl refl), are)
closed_are (T ∷ types) ws are = (inr (inr refl), (follows_closed types ws, closed_are types ws are))

pub fields_are : (types : List Ty) (ws : List Wanted) → AreWants ws → AreWants (field_wants types ++ ws)
fields_are [] ws are = are
fields_are (T ∷ types) ws are = (inl refl, (follows_closed types ws, closed_are types ws are))

closed_count : (types : List Ty) (ws : List Wanted) → values_in (closed_wants types ++ ws) ≡ length types + values_in ws
closed_count [] ws = omega arith
closed_count (T ∷ types) ws = let h = closed_count types ws in omega arith

pub field_count : (types : List Ty) (ws : List Wanted) → values_in (field_wants types ++ ws) ≡ length types + values_in ws
field_count [] ws = omega arith
field_count (T ∷ types) ws = let h = closed_count types ws in omega arith

mark_solid : (c : ℕ) → IsMark c → is_space c ≡ false
mark_solid c (inl is) = ap is_space is
mark_solid c (inr (inl is)) = ap is_space is
mark_solid c (inr (inr is)) = ap is_space is

digit_no_space : (c : ℕ) → is_ascii_digit c ≡ true → is_space c ≡ false
digit_no_space c e = grind (arith, nat_tests)

digit_solid : (names : Names) (w : ℕ) (word : List ℕ) → IsNumeral word w → IsSolid word
digit_solid names w [] is = let h = is.some in absurd (omega arith)
digit_solid names w (c ∷ cs) is = record { first = c; rest = cs; is = refl; solid = digit_no_space c (is.digits 0 0 (omega arith)) }

-- what is wanted begins with a solid word
pub wants_solid : (P : Program) → IsLawful P.names → (ws : List Wanted) → AreWants ws → (vs : List Value) (ps : List Piece) → Fits P ws vs ps → BeginsSolid P.names ps
wants_solid P lawful [] are vs ps fits = let n : NoNeeds vs ps = needs P fits in subst (BeginsSolid P.names) (sym n.is) tt
wants_solid P lawful (wanted.Mark c ∷ ws) are vs ps fits =
    let n : MarkNeeds P c ws vs ps = needs P fits in
    subst (BeginsSolid P.names) (sym n.is) (λ word is. record { first = c; rest = []; is = is; solid = mark_solid c are.0 })
wants_solid P lawful (wanted.Value T ∷ ws) are vs ps fits =
    let n : ValueNeeds P T ws vs ps = needs P fits in
    subst (BeginsSolid P.names) (sym n.is) (by n.value n.behind (out-Value n.value) refl)
  where
    by : (v : Value) (behind : List Piece) (e : Value-F Value) → out-Value v ≡ e → BeginsSolid P.names (pieces v ++ behind)
    by v behind (Value-F.Lit w) is = subst (λ (qs : List Piece). BeginsSolid P.names (qs ++ behind)) (sym (pieces_word v w is)) (λ word numeral_is. digit_solid P.names w word numeral_is)
    by v behind (Value-F.Con d k fields) is = subst (λ (qs : List Piece). BeginsSolid P.names (qs ++ behind)) (sym (pieces_con v d k fields is)) (λ word named. name_solid word (name_upper P.names lawful d k word named))
