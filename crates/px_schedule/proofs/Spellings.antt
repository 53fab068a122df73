-- Texts of pieces: spaces in front, and the first piece.
use Rattle.std.proofs.Common.{◌≡◌, ℕ, Bool, true, false, ◌==◌, List, [], ◌∷◌, ◌++◌, refl, sym, ap, ◌∙◌, subst}
use Rattle.std.proofs.lemmas.Bool.Decides.{Decides-eqb}
use Rattle.px_base.specs.declared.names.Names.{Names}
use Rattle.px_schedule.specs.Runs.{begins}
use Rattle.px_schedule.specs.ValueGrammar.{Piece, IsWord, AreSpelled, nothing, space, piece}
use Rattle.px_schedule.proofs.RunFacts.{Each}

-- a space
abbrev pub is_space : ℕ → Bool
is_space byte = byte == 32

-- The word has a first byte, which is no space.
pub record IsSolid (word : List ℕ) : Type 0 where
  pub first : ℕ
  pub rest : List ℕ
  pub is : word ≡ first ∷ rest
  pub solid : is_space first ≡ false

-- the first of the pieces is a solid word
abbrev pub BeginsSolid : Names → List Piece → Type 0
BeginsSolid names [] = Unit {0}
BeginsSolid names (p ∷ ps) = (word : List ℕ) → IsWord names word p → IsSolid word

-- spaces may stand in front
pub spaced : (names : Names) (front text : List ℕ) (ps : List Piece) → Each is_space front → AreSpelled names text ps → AreSpelled names (front ++ text) ps
spaced names [] text ps each spelled = spelled
spaced names (c ∷ cs) text ps each spelled =
    let is : c ≡ 32 = (Decides-eqb c 32).0 each.0 in
    let all : AreSpelled names (32 ∷ (cs ++ text)) ps = space (spaced names cs text ps each.1 spelled) in
    subst (λ (b : ℕ). AreSpelled names (b ∷ (cs ++ text)) ps) (sym is) all

no_space_first : (c : ℕ) (text : List ℕ) (word rest : List ℕ) → IsSolid word → c ∷ text ≡ word ++ rest → is_space c ≡ true → ⊥
no_space_first c text word rest solid e is =
    let f : c ∷ text ≡ solid.first ∷ (solid.rest ++ rest) = e ∙ ap (λ (w : List ℕ). w ++ rest) solid.is in
    let same : c ≡ solid.first = cc in
    let h : is_space c ≡ false = ap is_space same ∙ solid.solid in
    absurd cc

-- spaces in front may be left away
pub trimmed : (names : Names) {text : List ℕ} {ps : List Piece} → AreSpelled names text ps → BeginsSolid names ps → (front back : List ℕ) → text ≡ front ++ back → Each is_space front → begins is_space back ≡ false → AreSpelled names back ps
trimmed names nothing solid [] back e each ends = subst (λ (t : List ℕ). AreSpelled names t []) e nothing
trimmed names nothing solid (c ∷ front) back e each ends = absurd cc
trimmed names (space {text} {ps} spelled) solid [] back e each ends =
    let h : begins is_space back ≡ true = ap (begins is_space) (sym e) in
    absurd cc
trimmed names (space {text} {ps} spelled) solid (c ∷ front) back e each ends =
    let tails : text ≡ front ++ back = cc in
    trimmed names spelled solid front back tails each.1 ends
trimmed names (piece {whole} {text} {p} {ps} word is_word is spelled) solid [] back e each ends =
    piece word is_word (sym e ∙ is) spelled
trimmed names (piece {whole} {text} {p} {ps} word is_word is spelled) solid (c ∷ front) back e each ends =
    absurd (no_space_first c (front ++ back) word text (solid word is_word) (sym e ∙ is) each.0)

-- The first piece of a text, and what is behind it.
pub record IsFirst (names : Names) (text : List ℕ) (p : Piece) (ps : List Piece) : Type 0 where
  pub word : List ℕ
  pub rest : List ℕ
  pub is_word : IsWord names word p
  pub whole : text ≡ word ++ rest
  pub spelled : AreSpelled names rest ps

-- where no space stands in front, the first piece does
pub first_piece : (names : Names) {text : List ℕ} {p : Piece} {ps : List Piece} → AreSpelled names text (p ∷ ps) → begins is_space text ≡ false → IsFirst names text p ps
first_piece names (space spelled) ends = absurd cc
first_piece names (piece {whole} {text} word is_word is spelled) ends = record { word = word; rest = text; is_word = is_word; whole = is; spelled = spelled }

-- where no space stands in front of no pieces, nothing does
pub no_piece : (names : Names) {text : List ℕ} → AreSpelled names text [] → begins is_space text ≡ false → text ≡ []
no_piece names nothing ends = refl
no_piece names (space spelled) ends = absurd cc
