-- What holds of each value that words are written for: one lemma a join.
use Rattle.std.proofs.Common.{◌<◌, List, [], length, All, arith}
use Rattle.std.proofs.lemmas.List.Elements.{All-nil, All-cons}
use Rattle.px_lexer.specs.declared.token.Mark.{Mark}
use Rattle.px_parser.specs.Words.{Word}
use Rattle.px_parser.specs.Phrases.{IsDone, IsSequence, Either, one, other, Each, list, between}

-- this holds of each value that words are written for
pub record Yields {T : Type 0} (P : T → Type 0) (A : List Word → T → Type 0) : Type 0 where
  pub yields : (words : List Word) (value : T) → A words value → P value

pub yields_impossible : {T : Type 0} {P : T → Type 0} → Yields P (λ words value. ⊥)
yields_impossible = record { yields = λ words value is. absurd is }

pub yields_done : {T : Type 0} {P : T → Type 0} {value : T} → P value → Yields P (IsDone value)
yields_done {T} {P} {value} holds = record { yields = λ words result is. rw is.same holds }

pub yields_bind : {S T : Type 0} {P : S → Type 0} {Q : T → Type 0} {A : List Word → S → Type 0} {B : S → List Word → T → Type 0} → Yields P A →
    ((x : S) → P x → Yields Q (B x)) → Yields Q (IsSequence A B)
yields_bind front back = record {
  yields = λ words value is. (back is.first (front.yields is.front is.first is.is_front)).yields is.back value is.is_back;
}

-- the first value may be any
pub yields_skip : {S T : Type 0} {P : T → Type 0} {A : List Word → S → Type 0} {B : S → List Word → T → Type 0} → ((x : S) → Yields P (B x)) →
    Yields P (IsSequence A B)
yields_skip back = record { yields = λ words value is. (back is.first).yields is.back value is.is_back }

pub yields_either : {T : Type 0} {P : T → Type 0} {A B : List Word → T → Type 0} → Yields P A → Yields P B → Yields P (Either A B)
yields_either a b = record {
  yields = λ words value is. elim is [ one x ↦ a.yields words value x | other y ↦ b.yields words value y ];
}

pub yields_optional : {T : Type 0} {P : T → Type 0} {absent : T} {A : List Word → T → Type 0} → P absent → Yields P A →
    Yields P (Either A (IsDone absent))
yields_optional holds a = yields_either a (yields_done holds)

each_yields : {T : Type 0} (P : T → Type 0) (A : List Word → T → Type 0) → Yields P A → (words : List Word) (values : List T) → Each A words values →
    All P values
each_yields P A yields whole_words values Each.none = All-nil P
each_yields P A yields whole_words values (Each.more {words} {front} {back} {x} {xs} is others whole) =
    All-cons P x xs (yields.yields front x is) (each_yields P A yields back xs others)

pub yields_each : {T : Type 0} {P : T → Type 0} {A : List Word → T → Type 0} → Yields P A → Yields (All P) (Each A)
yields_each {T} {P} {A} yields = record { yields = λ words values is. each_yields P A yields words values is }

pub yields_list : {T : Type 0} {P : T → Type 0} {A : List Word → T → Type 0} (separator : Mark) → Yields P A → Yields (All P) (list separator A)
unfolding list
yields_list {T} {P} separator yields =
    yields_bind yields (λ first holds. yields_bind (yields_each (yields_skip (λ nothing. yields))) (λ others all.
    yields_done (All-cons P first others holds all)))

-- a list has at least one value
pub yields_some : {T : Type 0} (separator : Mark) (A : List Word → T → Type 0) →
    Yields (λ (values : List T). 0 < length values) (list separator A)
unfolding list
yields_some separator A = yields_skip (λ first. yields_skip (λ others. yields_done (omega arith)))

pub yields_between : {T : Type 0} {P : T → Type 0} {A : List Word → T → Type 0} (opening closing : Mark) → Yields P A →
    Yields P (between opening A closing)
unfolding between
yields_between opening closing yields = yields_skip (λ nothing. yields_bind yields (λ value holds. yields_skip (λ nothing. yields_done holds)))

-- a list, or nothing, between two marks
pub yields_lists : {T : Type 0} {P : T → Type 0} {A : List Word → T → Type 0} (opening separator closing : Mark) → Yields P A →
    Yields (All P) (Either (between opening (list separator A) closing) (IsDone []))
yields_lists {T} {P} opening separator closing yields = yields_optional (All-nil P) (yields_between opening closing (yields_list separator yields))
