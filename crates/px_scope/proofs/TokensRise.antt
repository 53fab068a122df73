-- The words of a text stand one after the other.
use Rattle.std.proofs.Common.{ℕ, ◌+◌, ◌<◌, ◌≤◌, List, map, length, arith}
use Rattle.std.specs.List.{All, AllPairs}
use Rattle.std.proofs.lemmas.List.Elements.{All-nil, All-cons, All-weaker}
use Rattle.std.proofs.lemmas.List.Kept.{AllPairs-cons}
use Rattle.px_lexer.specs.Tokens.{AreTokens, Reads}
use Rattle.px_lexer.specs.Tokens.Reads.{none, blank, comment, token}
use Rattle.px_lexer.specs.declared.token.Token.{Token}
use Rattle.px_parser.specs.Words.{word_of, words_of}
use Rattle.px_scope.proofs.Sublists.{Place, Precedes}
use Rattle.px_scope.proofs.Placed.{word_place}

-- where the tokens' words begin
abbrev token_places : List ℕ → List Token → List Place
token_places text tokens = map word_place (words_of text tokens)

-- none of these stands before the place
abbrev FollowAll : ℕ → List Place → Type 0
FollowAll at places = All (λ (place : Place). at ≤ place.at) places

-- what follows a place follows each place before it
follow_sooner : (sooner later : ℕ) (places : List Place) → sooner ≤ later → FollowAll later places → FollowAll sooner places
follow_sooner sooner later places le all = All-weaker (λ (place : Place). later ≤ place.at) (λ (place : Place). sooner ≤ place.at) (λ place below. omega arith) places all

module _ (text : List ℕ) (to : ℕ) where
  -- what is read from a place does not stand before it
  reads_follow : {at : ℕ} {ts : List Token} → Reads text to at ts → FollowAll at (token_places text ts)
  reads_follow {at} (none e) = All-nil (λ (place : Place). at ≤ place.at)
  reads_follow {at} {ts} (blank x r) = follow_sooner at (at + 1) (token_places text ts) (omega arith) (reads_follow r)
  reads_follow {at} {ts} (comment end x r) = follow_sooner at end (token_places text ts) (omega (arith, x.rises)) (reads_follow r)
  reads_follow {at} (token {t = t} {ts = ts} e x r) =
      let rest : FollowAll at (token_places text ts) = follow_sooner at t.end (token_places text ts) (omega (arith, e, x.slice.rises)) (reads_follow r) in
      All-cons (λ (place : Place). at ≤ place.at) (word_place (word_of text t)) (token_places text ts) (omega (arith, e)) rest

  -- what is read rises
  reads_rise : {at : ℕ} {ts : List Token} → Reads text to at ts → AllPairs Precedes (token_places text ts)
  reads_rise (none e) = λ i j d below within. absurd (omega (arith, below, within))
  reads_rise (blank x r) = reads_rise r
  reads_rise (comment end x r) = reads_rise r
  reads_rise (token {t = t} {ts = ts} e x r) =
      let after : All (λ (place : Place). t.start < place.at) (token_places text ts) =
      All-weaker (λ (place : Place). t.end ≤ place.at) (λ (place : Place). t.start < place.at) (λ place below. omega (arith, x.slice.rises)) (token_places text ts) (reads_follow r) in
      AllPairs-cons Precedes (word_place (word_of text t)) (token_places text ts) after (reads_rise r)

pub words_rise : (text : List ℕ) (tokens : List Token) → AreTokens text tokens → AllPairs Precedes (map word_place (words_of text tokens))
words_rise text tokens are = reads_rise text (length text) are
