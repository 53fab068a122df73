-- What holds of each value that words with the form of their kind are written for: one lemma a join.
use Rattle.std.proofs.Common.{List, [], ◌∷◌, ◌++◌, All, subst}
use Rattle.std.proofs.lemmas.List.Elements.{All-nil, All-cons, All-head, All-tail}
use Rattle.px_lexer.specs.Forms.{HasForm}
use Rattle.px_lexer.specs.declared.token.Mark.{Mark}
use Rattle.px_lexer.specs.declared.token.TokenKind.TheVariants as kinds
use Rattle.px_parser.specs.Words.{Word}
use Rattle.px_parser.specs.Phrases.{IsDone, IsSequence, Either, one, other, Each, list, between, lower, upper}
use Rattle.px_parser.specs.declared.surface.Name.{Name}

-- the word's text has the form of its kind
abbrev pub IsFormed : Word → Type 0
IsFormed word = HasForm word.text word.kind

-- this holds of each value that words with their forms are written for
pub record YieldsFormed {T : Type 0} (P : T → Type 0) (A : List Word → T → Type 0) : Type 0 where
  pub yields : (words : List Word) (value : T) → All IsFormed words → A words value → P value

front_formed : (front back : List Word) → All IsFormed (front ++ back) → All IsFormed front
front_formed [] back all = All-nil IsFormed
front_formed (x ∷ front) back all =
    All-cons IsFormed x front (All-head IsFormed x (front ++ back) all) (front_formed front back (All-tail IsFormed x (front ++ back) all))

back_formed : (front back : List Word) → All IsFormed (front ++ back) → All IsFormed back
back_formed [] back all = all
back_formed (x ∷ front) back all = back_formed front back (All-tail IsFormed x (front ++ back) all)

pub formed_done : {T : Type 0} {P : T → Type 0} {value : T} → P value → YieldsFormed P (IsDone value)
formed_done holds = record { yields = λ words result all is. rw is.same holds }

pub formed_bind : {S T : Type 0} {P : S → Type 0} {Q : T → Type 0} {A : List Word → S → Type 0} {B : S → List Word → T → Type 0} → YieldsFormed P A →
    ((x : S) → P x → YieldsFormed Q (B x)) → YieldsFormed Q (IsSequence A B)
formed_bind front back = record {
  yields = λ words value all is.
      let parts : All IsFormed (is.front ++ is.back) = subst (All IsFormed) is.whole all in
      let holds = front.yields is.front is.first (front_formed is.front is.back parts) is.is_front in
      (back is.first holds).yields is.back value (back_formed is.front is.back parts) is.is_back;
}

-- the first value may be any
pub formed_skip : {S T : Type 0} {P : T → Type 0} {A : List Word → S → Type 0} {B : S → List Word → T → Type 0} → ((x : S) → YieldsFormed P (B x)) →
    YieldsFormed P (IsSequence A B)
formed_skip back = record {
  yields = λ words value all is.
      let parts : All IsFormed (is.front ++ is.back) = subst (All IsFormed) is.whole all in
      (back is.first).yields is.back value (back_formed is.front is.back parts) is.is_back;
}

pub formed_either : {T : Type 0} {P : T → Type 0} {A B : List Word → T → Type 0} → YieldsFormed P A → YieldsFormed P B → YieldsFormed P (Either A B)
formed_either a b = record {
  yields = λ words value all is. elim is [ one x ↦ a.yields words value all x | other y ↦ b.yields words value all y ];
}

each_formed : {T : Type 0} (P : T → Type 0) (A : List Word → T → Type 0) → YieldsFormed P A → (words : List Word) (values : List T) →
    All IsFormed words → Each A words values → All P values
each_formed P A yields whole_words values all Each.none = All-nil P
each_formed P A yields whole_words values all (Each.more {words} {front} {back} {x} {xs} is others whole) =
    let parts : All IsFormed (front ++ back) = subst (All IsFormed) whole all in
    All-cons P x xs (yields.yields front x (front_formed front back parts) is)
    (each_formed P A yields back xs (back_formed front back parts) others)

pub formed_each : {T : Type 0} {P : T → Type 0} {A : List Word → T → Type 0} → YieldsFormed P A → YieldsFormed (All P) (Each A)
formed_each {T} {P} {A} yields = record { yields = λ words values all is. each_formed P A yields words values all is }

pub formed_list : {T : Type 0} {P : T → Type 0} {A : List Word → T → Type 0} (separator : Mark) → YieldsFormed P A →
    YieldsFormed (All P) (list separator A)
unfolding list
formed_list {T} {P} separator yields =
    formed_bind yields (λ first holds. formed_bind (formed_each (formed_skip (λ nothing. yields))) (λ others all.
    formed_done (All-cons P first others holds all)))

pub formed_between : {T : Type 0} {P : T → Type 0} {A : List Word → T → Type 0} (opening closing : Mark) → YieldsFormed P A →
    YieldsFormed P (between opening A closing)
unfolding between
formed_between opening closing yields = formed_skip (λ nothing. formed_bind yields (λ value holds. formed_skip (λ nothing. formed_done holds)))

-- a name that begins with a small letter has the form of one
pub formed_lower : YieldsFormed (λ (name : Name). HasForm name.text kinds.Lower) lower
formed_lower = record {
  yields = λ words name all is.
      let form : IsFormed is.word = All-head IsFormed is.word [] (subst (All IsFormed) is.whole all) in
      rw is.is.same (subst (λ kind. HasForm is.word.text kind) is.is.kind form);
}

-- a name that begins with a capital letter has the form of one
pub formed_upper : YieldsFormed (λ (name : Name). HasForm name.text kinds.Upper) upper
formed_upper = record {
  yields = λ words name all is.
      let form : IsFormed is.word = All-head IsFormed is.word [] (subst (All IsFormed) is.whole all) in
      rw is.is.same (subst (λ kind. HasForm is.word.text kind) is.is.kind form);
}
