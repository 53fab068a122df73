-- From what reading finds to what the answer says.
use Rattle.std.proofs.Common.{◌≡◌, ℕ, suc, ◌+◌, ◌-◌, ◌≤◌, length, List, [], ◌∷◌, Result, Ok, Err, IfOk, IfErr, refl, sym, ap, ◌∙◌, inl, inr, arith}
use Rattle.px_lexer.specs.Tokens.{AreTokens}
use Rattle.px_lexer.specs.declared.token.Token.{Token}
use Rattle.px_parser.specs.Words.{Word, words_of}
use Rattle.px_parser.specs.Faults.{IsProgramOf, IsFaultOf, place_of, IsUnlessNoMemory, IsEnd}
use Rattle.px_parser.specs.Reading.{items_at}
use Rattle.px_parser.specs.Sizes.{surface_size, IsWithinNesting}
use Rattle.px_parser.specs.Filled.{IsFilled}
use Rattle.px_parser.specs.Named.{AreNamed}
use Rattle.px_parser.specs.declared.surface.Item.{Item}
use Rattle.px_parser.specs.declared.surface.Surface.{Surface}
use Rattle.px_parser.specs.declared.parse_end.ParseEnd.{ParseEnd}
use Rattle.px_parser.specs.declared.parse_end.ParseEnd.TheVariants.{Fault, NoMemory}
use Rattle.px_parser.proofs.TokensFit.{tokens_fit}
use Rattle.px_parser.proofs.TreesFit.{fits_program}
use Rattle.px_parser.proofs.TreesNest.{nested_program}
use Rattle.px_parser.proofs.TreesFilled.{filled_program}
use Rattle.px_parser.proofs.TreesNamed.{words_formed, named_program}
use Rattle.px_parser.proofs.Programs.{program_read, one_program, fault_read, left_within, no_program_and_fault, one_fault_at}

words_length : (text : List ℕ) (tokens : List Token) → length (words_of text tokens) ≡ length tokens
words_length text [] = refl
words_length text (t ∷ ts) = ap (λ n. suc n) (words_length text ts)

pub left_of_tokens : (text : List ℕ) (tokens : List Token) (left : ℕ) → items_at (words_of text tokens) ≡ Err left → left ≤ length tokens
left_of_tokens text tokens left e =
    let size : length (words_of text tokens) ≡ length tokens = words_length text tokens in
    let less : left ≤ length (words_of text tokens) = left_within (words_of text tokens) left e in
    omega arith

pub tree_read : (text : List ℕ) (tokens : List Token) (rest : List Word) (all : List Item) → items_at (words_of text tokens) ≡ Ok (all, rest) → rest ≡ [] → IsProgramOf text tokens (record { items = all })
tree_read text tokens rest all e none = program_read (words_of text tokens) all (e ∙ ap (λ r. Ok (all, r)) none)

pub tree_fits : (text : List ℕ) (tokens : List Token) (tree : Surface) → AreTokens text tokens → IsProgramOf text tokens tree →
    surface_size tree ≤ length text
tree_fits text tokens tree are is =
    let size : length (words_of text tokens) ≡ length tokens = words_length text tokens in
    let fits : surface_size tree ≤ 0 + length (words_of text tokens) = fits_program.fits (words_of text tokens) tree is in
    omega (arith, tokens_fit text tokens are)

pub tree_nests : (text : List ℕ) (tokens : List Token) (tree : Surface) → IsProgramOf text tokens tree → IsWithinNesting tree
tree_nests text tokens tree is = nested_program.yields (words_of text tokens) tree is

pub tree_filled : (text : List ℕ) (tokens : List Token) (tree : Surface) → IsProgramOf text tokens tree → IsFilled tree
tree_filled text tokens tree is = filled_program.yields (words_of text tokens) tree is

pub tree_named : (text : List ℕ) (tokens : List Token) (tree : Surface) → AreTokens text tokens → IsProgramOf text tokens tree → AreNamed tree
tree_named text tokens tree are is = named_program.yields (words_of text tokens) tree (words_formed text tokens are) is

pub fault_is : (text : List ℕ) (tokens : List Token) (left place : ℕ) → items_at (words_of text tokens) ≡ Err left → place ≡ place_of text tokens (length tokens - left) → IsFaultOf text tokens place
fault_is text tokens left place e at =
    record { number = length tokens - left; is = fault_read (words_of text tokens) left (length tokens - left) e (ap (λ n. n - left) (sym (words_length text tokens))); place = at }

pub one_place : (text : List ℕ) (tokens : List Token) (at other : ℕ) → IsFaultOf text tokens at → IsFaultOf text tokens other → at ≡ other
one_place text tokens at other first second =
    let same : first.number ≡ second.number = one_fault_at (words_of text tokens) first.number second.number first.is second.is in
    first.place ∙ ap (λ n. place_of text tokens n) same ∙ sym second.place

pub each_tree_of : (text : List ℕ) (tokens : List Token) (result : Result Surface ParseEnd) → IfOk result (IsProgramOf text tokens) → IfErr result (IsEnd text tokens) → (tree : Surface) → IsProgramOf text tokens tree → IsUnlessNoMemory (Ok tree) result
each_tree_of text tokens (Ok found) ok err tree is = inl (ap (λ t. Ok t) (one_program (words_of text tokens) found tree ok is))
each_tree_of text tokens (Err NoMemory) ok err tree is = inr refl
each_tree_of text tokens (Err (Fault at)) ok err tree is = absurd (no_program_and_fault (words_of text tokens) tree err.number is err.is)

pub each_fault_of : (text : List ℕ) (tokens : List Token) (result : Result Surface ParseEnd) → IfOk result (IsProgramOf text tokens) → IfErr result (IsEnd text tokens) → (at : ℕ) → IsFaultOf text tokens at → IsUnlessNoMemory (Err (Fault at)) result
each_fault_of text tokens (Ok found) ok err at is = absurd (no_program_and_fault (words_of text tokens) found is.number ok is.is)
each_fault_of text tokens (Err NoMemory) ok err at is = inr refl
each_fault_of text tokens (Err (Fault found)) ok err at is = inl (ap (λ n. Err (Fault n)) (one_place text tokens found at err is))
