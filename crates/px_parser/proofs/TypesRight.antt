-- Types are read.
use Rattle.std.proofs.Common.{◌≡◌, ℕ, zero, suc, true, List, [], ◌∷◌, Result, refl, sym, subst}
use Rattle.std.proofs.Math.Dec.{eqb-suc-zero}
use Rattle.px_lexer.specs.declared.token.Mark.{Mark}
use Rattle.px_lexer.specs.declared.token.Mark.TheVariants.{Less, Greater, Comma}
use Rattle.px_lexer.specs.declared.token.TokenKind.TheVariants as kinds
use Rattle.px_parser.specs.Words.{Word}
use Rattle.px_parser.specs.Kinds.{is_mark, fronts}
use Rattle.px_parser.specs.Phrases.{upper, lower, list, between, optional}
use Rattle.px_parser.specs.Readers.{Reader, pure, fail, choice}
use Rattle.px_parser.specs.Grammar.{type, type_of, type_arguments, type_parameters}
use Rattle.px_parser.specs.Reading.{list_at, between_at, opened_at, inside, type_arguments_with, type_at, types_at, type_arguments_at, type_parameters_at, names_at, upper_at, lower_at}
use Rattle.px_parser.specs.declared.surface.SType.{SType}
use Rattle.px_parser.proofs.Right.{SameFirst, Right, right_done, right_bind, right_choice, right_other}
use Rattle.px_parser.proofs.Loops.{NoLonger, right_no_longer}
use Rattle.px_parser.proofs.Tokens.{right_upper, right_lower, is_mark-same}
use Rattle.px_parser.proofs.Joins.{Anything, Avoids, EndsList, fronts_same, begins_between, right_list, right_between}

-- what comes after an optional part that a mark opens
pub right_opened : {T : Type 0} {EndsA : List Word → Type 0} {A : List Word → List T → Type 0} {p : List Word → Result (List T × List Word) ℕ} (opening closing : Mark) → Right SameFirst SameFirst EndsA A p → ((word : Word) (rest : List Word) → word.kind ≡ kinds.Mark closing → EndsA (word ∷ rest)) → Right SameFirst SameFirst (Avoids (is_mark opening)) (optional [] (between opening A closing)) (opened_at opening p closing)
unfolding opened_at
right_opened {T} {EndsA} {A} {p} opening closing right closes =
    right_choice (fronts (is_mark opening)) (fronts_same (is_mark opening)) (right_between opening closing right closes) (right_done [])
    (λ used rest value is end. begins_between (λ s. fronts (is_mark opening) s ≡ true) opening A closing (λ word more kind. rw kind (is_mark-same opening)) used rest value is)
    (λ used rest value is end. rw is.none end)

abbrev pub EndsType : List Word → Type 0
EndsType = Avoids (is_mark Less)

impossible_arguments : (words : List Word) (value : List SType) → between Less (list Comma (type zero)) Greater words value → ⊥
unfolding between list type
impossible_arguments words value is = is.is_back.is_front.is_front

right_no_arguments : Right SameFirst SameFirst EndsType (type_arguments zero) (type_arguments_with zero (type_at zero))
unfolding inside
right_no_arguments = right_other (fronts (is_mark Less)) (fronts_same (is_mark Less)) impossible_arguments (right_done []) (λ used rest value is end. rw is.none end)

pub inside_some : {T : Type 0} (room : ℕ) (p : Reader T) → inside (suc room) p ≡ p
unfolding inside
inside_some room p = rw (eqb-suc-zero room) refl

right_some_arguments : (room : ℕ) → Right SameFirst SameFirst EndsType (type (suc room)) (type_at (suc room)) → Right SameFirst SameFirst EndsType (type_arguments (suc room)) (type_arguments_with (suc room) (type_at (suc room)))
right_some_arguments room right =
    let inner : Right SameFirst SameFirst EndsType (type_arguments (suc room)) (choice (fronts (is_mark Less)) (between_at Less (list_at Comma (type_at (suc room))) Greater) (pure [])) =
    right_choice (fronts (is_mark Less)) (fronts_same (is_mark Less)) (right_between Less Greater (right_list Comma right (λ word used rest value kind is. rw kind refl)) (λ word rest kind. (rw kind refl, rw kind refl))) (right_done [])
    (λ used rest value is end. begins_between (λ s. fronts (is_mark Less) s ≡ true) Less (list Comma (type (suc room))) Greater (λ word more kind. rw kind refl) used rest value is)
    (λ used rest value is end. rw is.none end) in
    subst (λ (q : Reader (List SType)). Right SameFirst SameFirst EndsType (type_arguments (suc room)) (choice (fronts (is_mark Less)) q (pure []))) (sym (inside_some room (between_at Less (list_at Comma (type_at (suc room))) Greater))) inner

right_type_with : (room : ℕ) → Right SameFirst SameFirst EndsType (type_arguments room) (type_arguments_with room (type_at room)) → Right SameFirst SameFirst EndsType (type (suc room)) (type_at (suc room))
unfolding type type_at
right_type_with room right = right_bind {EndsA = Anything} right_upper (λ name. right_bind right (λ args. right_done (type_of name args)) (λ args used rest t is end. rw is.none end)) (λ a used rest t is end. tt)

pub right_type : (room : ℕ) → Right SameFirst SameFirst EndsType (type (suc room)) (type_at (suc room))
right_type zero = right_type_with zero right_no_arguments
right_type (suc room) = right_type_with (suc room) (right_some_arguments room (right_type room))

pub right_arguments : (room : ℕ) → Right SameFirst SameFirst EndsType (type_arguments room) (type_arguments_at room)
unfolding type_arguments_at
right_arguments zero = right_no_arguments
right_arguments (suc room) = right_some_arguments room (right_type room)

pub right_types : (room : ℕ) → Right SameFirst SameFirst (EndsList Comma EndsType) (list Comma (type (suc room))) (types_at (suc room))
unfolding types_at
right_types room = right_list Comma (right_type room) (λ word used rest value kind is. rw kind refl)

pub right_uppers : Right SameFirst SameFirst (EndsList Comma Anything) (list Comma upper) (names_at upper_at)
unfolding names_at
right_uppers = right_list Comma right_upper (λ word used rest value kind is. tt)

pub right_lowers : Right SameFirst SameFirst (EndsList Comma Anything) (list Comma lower) (names_at lower_at)
unfolding names_at
right_lowers = right_list Comma right_lower (λ word used rest value kind is. tt)

pub right_type_parameters : Right SameFirst SameFirst (Avoids (is_mark Less)) type_parameters type_parameters_at
unfolding type_parameters_at
right_type_parameters = right_opened Less Greater right_uppers (λ word rest kind. (rw kind refl, tt))

pub type_stays : (room : ℕ) → NoLonger (type_at room)
unfolding type_at fail
type_stays zero s rest x e = absurd (cc)
type_stays (suc room) s rest x e = right_no_longer (right_type room) s rest x e
