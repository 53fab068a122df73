-- Expressions are read.
use Rattle.std.proofs.Common.{◌≡◌, ℕ, zero, suc, Bool, true, false, not, List, [], ◌∷◌, ◌++◌, Some, None, Result, refl, sym, ap, subst}
use Rattle.px_lexer.specs.declared.token.Key.TheVariants.{KMatch}
use Rattle.px_lexer.specs.declared.token.Mark.TheVariants.{BraceL, BraceR, ParenL, ParenR, Less, Comma, FatArrow}
use Rattle.px_lexer.specs.declared.token.TokenKind.{TokenKind}
use Rattle.px_lexer.specs.declared.token.TokenKind.TheVariants as kinds
use Rattle.px_parser.specs.Words.{Word}
use Rattle.px_parser.specs.Kinds.{is_mark, is_number, is_upper, is_lower, fronts}
use Rattle.px_parser.specs.Phrases.{Phrase, IsDone, IsSequence, Either, one, other, lower, number, list, between, optional}
use Rattle.px_parser.specs.Readers.{Reader, bind, pure, fail, choice}
use Rattle.px_parser.specs.Grammar.{type_arguments, upper_expr, lower_expr, arm, match_expr, expr}
use Rattle.px_parser.specs.Reading.{list_at, list_while, between_at, up_to, inside, pattern_variables_at, upper_at, fields_with, upper_expr_with, arguments_with, lower_expr_with, arm_with, match_with, expr_with, expr_at, fields_at, arguments_at, upper_expr_at, lower_expr_at, arm_at, arms_at, match_at}
use Rattle.px_parser.specs.declared.surface.SType.{SType}
use Rattle.px_parser.specs.declared.surface.SExpr.{SExpr}
use Rattle.px_parser.proofs.Right.{SameFirst, Right, right_done, right_bind, right_choice, right_other, right_ends, right_iff, right_flip, right_same, either_swap}
use Rattle.px_parser.proofs.Tokens.{right_mark, right_key, right_upper, right_lower, right_number, is_mark-true}
use Rattle.px_parser.proofs.Loops.{NoLonger, right_no_longer, word_stays, pure_stays, bind_stays}
use Rattle.px_parser.proofs.Joins.{Anything, Avoids, EndsList, fronts_same, begins, begins_with, begins_optional, begins_mark, begins_between, begins_list, right_list, right_between}
use Rattle.px_parser.proofs.TypesRight.{right_opened, right_arguments, right_lowers, inside_some}

abbrev pub EndsExpr : List Word → Type 0
EndsExpr rest = Avoids (is_mark Less) rest × Avoids (is_mark ParenL) rest

-- what is asked of the expressions inside
abbrev Inner : (List Word → SExpr → Type 0) → (List Word → Result (SExpr × List Word) ℕ) → Type 0
Inner A p = Right SameFirst SameFirst EndsExpr A p

right_inner_list : {A : List Word → SExpr → Type 0} {p : List Word → Result (SExpr × List Word) ℕ} → Inner A p → Right SameFirst SameFirst (EndsList Comma EndsExpr) (list Comma A) (list_at Comma p)
right_inner_list right = right_list Comma right (λ word used rest value kind is. (rw kind refl, rw kind refl))

pub right_variables : Right SameFirst SameFirst (Avoids (is_mark ParenL)) (optional [] (between ParenL (list Comma lower) ParenR)) pattern_variables_at
unfolding pattern_variables_at
right_variables = right_opened ParenL ParenR right_lowers (λ word rest kind. (rw kind refl, tt))

pub right_arm : {A : List Word → SExpr → Type 0} {p : List Word → Result (SExpr × List Word) ℕ} → Inner A p → Right SameFirst SameFirst EndsExpr (arm A) (arm_with p)
unfolding arm arm_with
right_arm right =
    right_bind {EndsA = Anything} right_upper (λ name. right_bind right_variables (λ vars. right_bind {EndsA = Anything} (right_mark FatArrow) (λ arrow. right_bind right (λ body. right_done _) (λ a used rest t is end. rw is.none end)) (λ a used rest t is end. tt))
    (λ a used rest t is end. begins_mark (Avoids (is_mark ParenL)) (λ word rest kind. rw kind refl) used rest t is)) (λ a used rest t is end. tt)

upper_front : (Good : List Word → Type 0) → ((word : Word) (rest : List Word) → word.kind ≡ kinds.Upper → Good (word ∷ rest)) → (types : Phrase (List SType)) (inner : Phrase SExpr) (used rest : List Word) (value : SExpr) → upper_expr types inner used value → Good (used ++ rest)
unfolding upper_expr
upper_front Good good types inner used rest value is = begins Good (λ word name rest is. good word rest is.kind) used rest value is

lower_front : (Good : List Word → Type 0) → ((word : Word) (rest : List Word) → word.kind ≡ kinds.Lower → Good (word ∷ rest)) → (types : Phrase (List SType)) (inner : Phrase SExpr) (used rest : List Word) (value : SExpr) → lower_expr types inner used value → Good (used ++ rest)
unfolding lower_expr
lower_front Good good types inner used rest value is = begins Good (λ word name rest is. good word rest is.kind) used rest value is

match_front : (Good : List Word → Type 0) → ((word : Word) (rest : List Word) → word.kind ≡ kinds.Key KMatch → Good (word ∷ rest)) → (inner : Phrase SExpr) (used rest : List Word) (value : SExpr) → match_expr inner used value → Good (used ++ rest)
unfolding match_expr
match_front Good good inner used rest value is = begins Good (λ word name rest is. good word rest is.kind) used rest value is

number_front : (Good : List Word → Type 0) → ((word : Word) (rest : List Word) → word.kind ≡ kinds.Number → Good (word ∷ rest)) → (used rest : List Word) (value : SExpr) → number used value → Good (used ++ rest)
number_front Good good used rest value is = subst Good (sym (ap (λ u. u ++ rest) is.whole)) (good is.word rest is.is.kind)

-- what an expression begins with
pub expr_front : (Good : List Word → Type 0) → ((word : Word) (rest : List Word) → word.kind ≡ kinds.Number → Good (word ∷ rest)) → ((word : Word) (rest : List Word) → word.kind ≡ kinds.Upper → Good (word ∷ rest)) → ((word : Word) (rest : List Word) → word.kind ≡ kinds.Lower → Good (word ∷ rest)) → ((word : Word) (rest : List Word) → word.kind ≡ kinds.Key KMatch → Good (word ∷ rest)) → (room : ℕ) (used rest : List Word) (value : SExpr) → expr room used value → Good (used ++ rest)
unfolding expr
expr_front Good a b c d zero used rest value is = absurd is
expr_front Good a b c d (suc room) used rest value (one n) = number_front Good a used rest value n
expr_front Good a b c d (suc room) used rest value (other (one u)) = upper_front Good b (type_arguments room) (expr room) used rest value u
expr_front Good a b c d (suc room) used rest value (other (other (one l))) = lower_front Good c (type_arguments room) (expr room) used rest value l
expr_front Good a b c d (suc room) used rest value (other (other (other m))) = match_front Good d (expr room) used rest value m

-- an expression stands where the mark does not
pub expr_avoids : (f : TokenKind → Bool) → f kinds.Number ≡ false → f kinds.Upper ≡ false → f kinds.Lower ≡ false → f (kinds.Key KMatch) ≡ false → (room : ℕ) (used rest : List Word) (value : SExpr) → expr room used value → fronts f (used ++ rest) ≡ false
expr_avoids f a b c d room used rest value is = expr_front (Avoids f) (λ word rest kind. rw kind a) (λ word rest kind. rw kind b) (λ word rest kind. rw kind c) (λ word rest kind. rw kind d) room used rest value is

-- the fields of a constructor
no_fields : (words : List Word) (value : List SExpr) → between ParenL (list Comma (expr zero)) ParenR words value → ⊥
unfolding between list expr
no_fields words value is = is.is_back.is_front.is_front

right_no_fields : Right SameFirst SameFirst (Avoids (is_mark ParenL)) (optional [] (between ParenL (list Comma (expr zero)) ParenR)) (fields_at zero)
unfolding fields_at fields_with inside
right_no_fields = right_other (fronts (is_mark ParenL)) (fronts_same (is_mark ParenL)) no_fields (right_done []) (λ used rest value is end. rw is.none end)

right_some_fields : (room : ℕ) → Inner (expr (suc room)) (expr_at (suc room)) → Right SameFirst SameFirst (Avoids (is_mark ParenL)) (optional [] (between ParenL (list Comma (expr (suc room))) ParenR)) (fields_at (suc room))
unfolding fields_at fields_with
right_some_fields room right =
    let inner : Right SameFirst SameFirst (Avoids (is_mark ParenL)) (optional [] (between ParenL (list Comma (expr (suc room))) ParenR)) (choice (fronts (is_mark ParenL)) (between_at ParenL (list_at Comma (expr_at (suc room))) ParenR) (pure [])) =
    right_choice (fronts (is_mark ParenL)) (fronts_same (is_mark ParenL)) (right_between ParenL ParenR (right_inner_list right) (λ word rest kind. (rw kind refl, (rw kind refl, rw kind refl)))) (right_done [])
    (λ used rest value is end. begins_between (λ s. fronts (is_mark ParenL) s ≡ true) ParenL (list Comma (expr (suc room))) ParenR (λ word more kind. rw kind refl) used rest value is)
    (λ used rest value is end. rw is.none end) in
    subst (λ (q : Reader (List SExpr)). Right SameFirst SameFirst (Avoids (is_mark ParenL)) (optional [] (between ParenL (list Comma (expr (suc room))) ParenR)) (choice (fronts (is_mark ParenL)) q (pure []))) (sym (inside_some room (between_at ParenL (list_at Comma (expr_at (suc room))) ParenR))) inner

right_upper_expr : (room : ℕ) → Right SameFirst SameFirst (Avoids (is_mark ParenL)) (optional [] (between ParenL (list Comma (expr room)) ParenR)) (fields_at room) → Right SameFirst SameFirst EndsExpr (upper_expr (type_arguments room) (expr room)) (upper_expr_at room)
unfolding upper_expr upper_expr_at upper_expr_with
right_upper_expr room right =
    right_bind {EndsA = Anything} right_upper (λ name. right_bind (right_arguments room) (λ types. right_bind right (λ fields. right_done _) (λ a used rest t is end. rw is.none end.1))
    (λ a used rest t is end. begins_optional (Avoids (is_mark Less)) used rest t (λ used rest value is. begins_between (Avoids (is_mark Less)) ParenL (list Comma (expr room)) ParenR (λ word rest kind. rw kind refl) used rest value is) (λ a used is. rw is.none end.0) is)) (λ a used rest t is end. tt)

-- the arguments of a call, without the parentheses
abbrev EndsArguments : List Word → Type 0
EndsArguments rest = fronts (is_mark ParenR) rest ≡ true

no_list : (words : List Word) (value : List SExpr) → list Comma (expr zero) words value → ⊥
unfolding list expr
no_list words value is = is.is_front

flipped_same : (x y : List Word) → SameFirst x y → not (fronts (is_mark ParenR) x) ≡ not (fronts (is_mark ParenR) y)
flipped_same x y same = ap not (fronts_same (is_mark ParenR) x y same)

list_fails : (s : List Word) → choice (λ x. not (fronts (is_mark ParenR) x)) fail (pure []) s ≡ choice (λ x. not (fronts (is_mark ParenR) x)) (list_at Comma (expr_at zero)) (pure []) s
unfolding choice fail list_while bind expr_at
list_fails s = refl

no_arguments : Right SameFirst SameFirst EndsArguments (optional [] (list Comma (expr zero))) (up_to ParenR (list_at Comma (expr_at zero)))
unfolding up_to
no_arguments =
    right_flip (list_at Comma (expr_at zero)) (pure []) (fronts (is_mark ParenR)) (right_same list_fails
    (right_other (λ x. not (fronts (is_mark ParenR) x)) flipped_same no_list (right_done []) (λ used rest value is end. rw (is.none, end) refl)))

some_arguments : (room : ℕ) → Inner (expr (suc room)) (expr_at (suc room)) → Right SameFirst SameFirst EndsArguments (optional [] (list Comma (expr (suc room)))) (up_to ParenR (list_at Comma (expr_at (suc room))))
unfolding up_to
some_arguments room right =
    right_flip (list_at Comma (expr_at (suc room))) (pure []) (fronts (is_mark ParenR)) (right_choice (λ x. not (fronts (is_mark ParenR) x)) flipped_same
    (right_ends {Ends = EndsList Comma EndsExpr} {Stronger = EndsArguments} paren_ends (right_inner_list right)) (right_done [])
    (λ used rest value is end. ap not (begins_list (Avoids (is_mark ParenR)) Comma (expr (suc room)) (λ used rest value is. expr_avoids (is_mark ParenR) refl refl refl refl (suc room) used rest value is) used rest value is))
    (λ used rest value is end. rw (is.none, end) refl))
  where
    paren_ends : (rest : List Word) → EndsArguments rest → EndsList Comma EndsExpr rest
    paren_ends [] end = absurd (cc)
    paren_ends (word ∷ rest) end = let kind : word.kind ≡ kinds.Mark ParenR = is_mark-true ParenR word.kind end in (rw kind refl, (rw kind refl, rw kind refl))

right_arguments_of : (room : ℕ) → Right SameFirst SameFirst EndsArguments (optional [] (list Comma (expr room))) (up_to ParenR (list_at Comma (expr_at room))) → Right SameFirst SameFirst (Avoids (is_mark ParenL)) (optional None (IsSequence (between ParenL (optional [] (list Comma (expr room))) ParenR) (λ args. IsDone (Some args)))) (arguments_at room)
unfolding arguments_at arguments_with
right_arguments_of room right =
    right_choice (fronts (is_mark ParenL)) (fronts_same (is_mark ParenL)) (right_bind {EndsA = Anything} (right_between ParenL ParenR right closes) (λ args. right_done (Some args)) (λ a used rest t is end. tt)) (right_done None)
    (λ used rest value is end. begins_with (λ s. fronts (is_mark ParenL) s ≡ true) (λ used rest value is. begins_between (λ s. fronts (is_mark ParenL) s ≡ true) ParenL (optional [] (list Comma (expr room))) ParenR (λ word more kind. rw kind refl) used rest value is) used rest value is)
    (λ used rest value is end. rw is.none end)
  where
    closes : (word : Word) (rest : List Word) → word.kind ≡ kinds.Mark ParenR → EndsArguments (word ∷ rest)
    closes word rest kind = rw kind refl

right_lower_expr : (room : ℕ) → Right SameFirst SameFirst (Avoids (is_mark ParenL)) (optional None (IsSequence (between ParenL (optional [] (list Comma (expr room))) ParenR) (λ args. IsDone (Some args)))) (arguments_at room) → Right SameFirst SameFirst EndsExpr (lower_expr (type_arguments room) (expr room)) (lower_expr_at room)
unfolding lower_expr lower_expr_at lower_expr_with
right_lower_expr room right =
    right_bind {EndsA = Anything} right_lower (λ name. right_bind (right_arguments room) (λ types. right_bind right (λ args. right_done _) (λ a used rest t is end. rw is.none end.1))
    (λ a used rest t is end. begins_optional (Avoids (is_mark Less)) used rest t (λ used rest value is. begins_with (Avoids (is_mark Less)) (λ used rest value is. begins_between (Avoids (is_mark Less)) ParenL (optional [] (list Comma (expr room))) ParenR (λ word rest kind. rw kind refl) used rest value is) used rest value is) (λ a used is. rw is.none end.0) is)) (λ a used rest t is end. tt)

right_arms : (room : ℕ) → Inner (expr room) (expr_at room) → Right SameFirst SameFirst (EndsList Comma EndsExpr) (list Comma (arm (expr room))) (arms_at room)
unfolding arms_at arm_at
right_arms room right = right_list Comma (right_arm right) (λ word used rest value kind is. (rw kind refl, rw kind refl))

right_match : (room : ℕ) → Inner (expr room) (expr_at room) → Right SameFirst SameFirst EndsExpr (match_expr (expr room)) (match_with (expr_at room) (arms_at room))
unfolding match_expr match_with
right_match room right =
    right_bind {EndsA = Anything} (right_key KMatch) (λ at. right_bind right (λ on. right_bind {EndsA = Anything} (right_between BraceL BraceR (right_arms room right) (λ word rest kind. (rw kind refl, (rw kind refl, rw kind refl)))) (λ arms. right_done _) (λ a used rest t is end. tt))
    (λ a used rest t is end. begins_with EndsExpr (λ used rest value is. begins_between EndsExpr BraceL (list Comma (arm (expr room))) BraceR (λ word rest kind. (rw kind refl, rw kind refl)) used rest value is) used rest t is)) (λ a used rest t is end. tt)

impossible_match : (words : List Word) (value : SExpr) → match_expr (expr zero) words value → ⊥
unfolding match_expr expr
impossible_match words value is = is.is_back.is_front

right_last_none : Right SameFirst SameFirst EndsExpr (lower_expr (type_arguments zero) (expr zero)) (lower_expr_at zero) → Right SameFirst SameFirst EndsExpr (Either (lower_expr (type_arguments zero) (expr zero)) (match_expr (expr zero))) (choice (fronts is_lower) (lower_expr_at zero) (match_at zero))
unfolding match_at inside
right_last_none right =
    right_flip_other (right_other (λ x. not (fronts is_lower x)) (λ x y same. ap not (fronts_same is_lower x y same)) no_match right (λ used rest value is end. rw (lower_front (λ s. fronts is_lower s ≡ true) (λ word rest kind. rw kind refl) (type_arguments zero) (expr zero) used rest value is) refl))
  where
    no_match : (words : List Word) (value : SExpr) → match_expr (expr zero) words value → ⊥
    no_match words value is = impossible_match words value is

    right_flip_other : Right SameFirst SameFirst EndsExpr (Either (match_expr (expr zero)) (lower_expr (type_arguments zero) (expr zero))) (choice (λ x. not (fronts is_lower x)) fail (lower_expr_at zero)) → Right SameFirst SameFirst EndsExpr (Either (lower_expr (type_arguments zero) (expr zero)) (match_expr (expr zero))) (choice (fronts is_lower) (lower_expr_at zero) fail)
    right_flip_other r = right_iff (either_swap _ _) (either_swap _ _) (right_flip fail (lower_expr_at zero) (fronts is_lower) r)

right_last_some : (room : ℕ) → Right SameFirst SameFirst EndsExpr (lower_expr (type_arguments (suc room)) (expr (suc room))) (lower_expr_at (suc room)) → Right SameFirst SameFirst EndsExpr (match_expr (expr (suc room))) (match_with (expr_at (suc room)) (arms_at (suc room))) → Right SameFirst SameFirst EndsExpr (Either (lower_expr (type_arguments (suc room)) (expr (suc room))) (match_expr (expr (suc room)))) (choice (fronts is_lower) (lower_expr_at (suc room)) (match_at (suc room)))
unfolding match_at
right_last_some room first second =
    let both : Right SameFirst SameFirst EndsExpr (Either (lower_expr (type_arguments (suc room)) (expr (suc room))) (match_expr (expr (suc room)))) (choice (fronts is_lower) (lower_expr_at (suc room)) (match_with (expr_at (suc room)) (arms_at (suc room)))) =
    right_choice (fronts is_lower) (fronts_same is_lower) first second
    (λ used rest value is end. lower_front (λ s. fronts is_lower s ≡ true) (λ word rest kind. rw kind refl) (type_arguments (suc room)) (expr (suc room)) used rest value is)
    (λ used rest value is end. match_front (Avoids is_lower) (λ word rest kind. rw kind refl) (expr (suc room)) used rest value is) in
    subst (λ (q : Reader SExpr). Right SameFirst SameFirst EndsExpr (Either (lower_expr (type_arguments (suc room)) (expr (suc room))) (match_expr (expr (suc room)))) (choice (fronts is_lower) (lower_expr_at (suc room)) q)) (sym (inside_some room (match_with (expr_at (suc room)) (arms_at (suc room))))) both

right_expr_of : (room : ℕ) → Right SameFirst SameFirst EndsExpr (upper_expr (type_arguments room) (expr room)) (upper_expr_at room) → Right SameFirst SameFirst EndsExpr (Either (lower_expr (type_arguments room) (expr room)) (match_expr (expr room))) (choice (fronts is_lower) (lower_expr_at room) (match_at room)) → Inner (expr (suc room)) (expr_at (suc room))
unfolding expr expr_at expr_with upper_expr_at lower_expr_at match_at fields_at arguments_at arms_at arm_at
right_expr_of room upper_right last_right =
    right_choice (fronts is_number) (fronts_same is_number) right_number (right_choice (fronts is_upper) (fronts_same is_upper) upper_right last_right
    (λ used rest value is end. upper_front (λ s. fronts is_upper s ≡ true) (λ word rest kind. rw kind refl) (type_arguments room) (expr room) used rest value is)
    (λ used rest value is end. elim is [
      | one l ↦ lower_front (Avoids is_upper) (λ word rest kind. rw kind refl) (type_arguments room) (expr room) used rest value l
      | other m ↦ match_front (Avoids is_upper) (λ word rest kind. rw kind refl) (expr room) used rest value m
    ]))
    (λ used rest value is end. number_front (λ s. fronts is_number s ≡ true) (λ word rest kind. rw kind refl) used rest value is)
    (λ used rest value is end. elim is [
      | one u ↦ upper_front (Avoids is_number) (λ word rest kind. rw kind refl) (type_arguments room) (expr room) used rest value u
      | other others ↦ elim others [
        | one l ↦ lower_front (Avoids is_number) (λ word rest kind. rw kind refl) (type_arguments room) (expr room) used rest value l
        | other m ↦ match_front (Avoids is_number) (λ word rest kind. rw kind refl) (expr room) used rest value m
      ]
    ])

pub right_expr : (room : ℕ) → Inner (expr (suc room)) (expr_at (suc room))
right_expr zero = right_expr_of zero (right_upper_expr zero right_no_fields) (right_last_none (right_lower_expr zero (right_arguments_of zero no_arguments)))
right_expr (suc room) =
    let inner = right_expr room in
    right_expr_of (suc room) (right_upper_expr (suc room) (right_some_fields room inner)) (right_last_some room (right_lower_expr (suc room) (right_arguments_of (suc room) (some_arguments room inner))) (right_match (suc room) inner))

pub expr_stays : (room : ℕ) → NoLonger (expr_at room)
unfolding expr_at fail
expr_stays zero s rest x e = absurd (cc)
expr_stays (suc room) s rest x e = right_no_longer (right_expr room) s rest x e

pub arm_stays : (room : ℕ) → NoLonger (arm_at room)
unfolding arm_at arm_with
arm_stays room =
    bind_stays upper_at _ (word_stays _) (λ name. bind_stays pattern_variables_at _ (right_no_longer right_variables) (λ vars. bind_stays _ _ (word_stays _) (λ arrow. bind_stays (expr_at room) _ (expr_stays room) (λ body. pure_stays _))))
