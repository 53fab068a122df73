-- A text has at most as many tokens as bytes: none is empty, and each ends before the next begins.
use Rattle.std.proofs.Common.{ℕ, ◌+◌, ◌≤◌, List, length, arith}
use Rattle.px_lexer.specs.Tokens.{AreTokens, Reads, none, blank, comment, token}
use Rattle.px_lexer.specs.declared.token.Token.{Token}

read_tokens_fit : (text : List ℕ) (to at : ℕ) (ts : List Token) → Reads text to at ts → at + length ts ≤ to
read_tokens_fit text to at ts (none e) = omega arith
read_tokens_fit text to at ts (blank {at = a} {ts = us} is rest) = omega (arith, read_tokens_fit text to (a + 1) us rest)
read_tokens_fit text to at ts (comment {at = a} {ts = us} end is rest) = omega (arith, is.rises, read_tokens_fit text to end us rest)
read_tokens_fit text to at ts (token {at = a} {t} {ts = us} starts is rest) =
    omega (arith, starts, is.slice.rises, read_tokens_fit text to t.end us rest)

pub tokens_fit : (text : List ℕ) (tokens : List Token) → AreTokens text tokens → length tokens ≤ length text
tokens_fit text tokens are = omega (arith, read_tokens_fit text (length text) 0 tokens are)
