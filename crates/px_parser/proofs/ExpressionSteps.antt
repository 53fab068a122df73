-- How an expression is read, by its first word.
use Rattle.std.proofs.Common.{◌≡◌, ℕ, suc, ◌-◌, true, false, List, length, Err, refl, ap, ◌∙◌, arith}
use Rattle.px_parser.specs.Words.{Word}
use Rattle.px_parser.specs.Kinds.{is_number, is_upper, is_lower, fronts}
use Rattle.px_parser.specs.Readers.{Reader, choice, fail}
use Rattle.px_parser.specs.Reading.{number_at, expr_with, expr_at, fields_at, arguments_at, arm_at, arms_at, upper_expr_at, lower_expr_at, match_at}
use Rattle.px_parser.specs.declared.surface.SExpr.{SExpr}

pub no_expression : (room : ℕ) (words : List Word) → room ≡ 0 → expr_at room words ≡ Err (length words)
unfolding expr_at fail
no_expression room words e = rw e refl

-- what an expression is
abbrev one_of : ℕ → Reader SExpr
one_of room = choice (fronts is_number) number_at (choice (fronts is_upper) (upper_expr_at room) (choice (fronts is_lower) (lower_expr_at room) (match_at room)))

expr_step : (room : ℕ) (words : List Word) → expr_at (suc room) words ≡ one_of room words
unfolding expr_at expr_with upper_expr_at lower_expr_at match_at fields_at arguments_at arms_at arm_at
expr_step room words = refl

expr_some : (room : ℕ) (words : List Word) → (room ≡ 0 → ⊥) → expr_at room words ≡ one_of (room - 1) words
expr_some room words some =
    let same : room ≡ suc (room - 1) = omega arith in
    ap (λ n. expr_at n words) same ∙ expr_step (room - 1) words

pub number_first : (room : ℕ) (words : List Word) → (room ≡ 0 → ⊥) → fronts is_number words ≡ true → expr_at room words ≡ number_at words
unfolding choice
number_first room words some a = expr_some room words some ∙ rw a refl

pub upper_first : (room : ℕ) (words : List Word) → (room ≡ 0 → ⊥) → fronts is_number words ≡ false → fronts is_upper words ≡ true → expr_at room words ≡ upper_expr_at (room - 1) words
unfolding choice
upper_first room words some a b = expr_some room words some ∙ rw (a, b) refl

pub lower_first : (room : ℕ) (words : List Word) → (room ≡ 0 → ⊥) → fronts is_number words ≡ false → fronts is_upper words ≡ false → fronts is_lower words ≡ true → expr_at room words ≡ lower_expr_at (room - 1) words
unfolding choice
lower_first room words some a b c = expr_some room words some ∙ rw (a, b, c) refl

pub match_first : (room : ℕ) (words : List Word) → (room ≡ 0 → ⊥) → fronts is_number words ≡ false → fronts is_upper words ≡ false → fronts is_lower words ≡ false → expr_at room words ≡ match_at (room - 1) words
unfolding choice
match_first room words some a b c = expr_some room words some ∙ rw (a, b, c) refl
