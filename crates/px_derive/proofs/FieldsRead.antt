-- Sides, targets, paths, kinds of steps, references and lists of numbers are read as they are written.
use Rattle.std.proofs.Common.{◌≡◌, ℕ, ◌<◌, ◌^◌, Bool, true, false, List, [], ◌∷◌, ◌++◌, Option, Some, None, refl, sym, ap, ◌∙◌, subst, inl, inr, append_assoc, arith, codes, lit≤}
use Rattle.std.specs.List.{AllByRecursion}
use Rattle.std.specs.Char.{is_ascii_digit, is_ascii_lowercase}
use Rattle.std.specs.Fmt.{decimal}
use Rattle.px_base.specs.NameForms.{is_name_part}
use Rattle.px_base.specs.declared.names.Names.{Names}
use Rattle.px_base.specs.declared.head.Head.{Head}
use Rattle.px_base.specs.declared.head.Head.TheVariants.{Def, Wle, Weq, FnVar}
use Rattle.px_base.specs.declared.prop.Prop.{Prop}
use Rattle.px_base.specs.declared.prop.Prop.TheVariants.{Comm, Assoc, Idem, Sel, Refl, Irrefl, Sym, Antisym, Asym, Trans, Conn}
use Rattle.px_terms.specs.declared.row.Side.{Side}
use Rattle.px_terms.specs.declared.row.Side.TheVariants.{Left, Right}
use Rattle.px_terms.specs.declared.row.Target.{Target}
use Rattle.px_terms.specs.declared.row.Target.TheVariants as target
use Rattle.px_terms.specs.declared.row.Kind.{Kind}
use Rattle.px_terms.specs.declared.row.Kind.TheVariants as kind
use Rattle.px_terms.specs.declared.row.Ref.{Ref}
use Rattle.px_terms.specs.declared.row.Ref.TheVariants as reference
use Rattle.px_terms.specs.Spelling.{side_letter, target_word, path_word, kind_words}
use Rattle.px_terms.specs.Readable.{AreSmall, IsReadableTarget, IsReadableKind}
use Rattle.px_derive.specs.Spelling.{name_at, head_text, prop_word}
use Rattle.px_derive.specs.Spellable.{IsNumberOf, IsSpellableHead}
use Rattle.px_derive.specs.Readers.{pure, lift, bind, past, skip, after, begins, push, gather, list_at}
use Rattle.px_derive.specs.Reading.{small_at, word_at, number_named, head_named, side_at, target_at, numbers_at, path_at, direction_at, kind_at, relation_prop_at, prop_at, property_at, reference_at}
use Rattle.px_derive.proofs.Fronts.{run_found, IsRun}
use Rattle.px_derive.proofs.Found.{Equal, bind_found, bind_goes, Lifted, lift_found, lift_some, pure_found, nothing_found, There, after_found, after_there, after_absent, skip_found, skip_whole, choice_found, choice_first, choice_other}
use Rattle.px_derive.proofs.NumberFacts.{ReadNumber, number_sound, number_complete, number_begins}
use Rattle.px_derive.proofs.ListFacts.{Sound, IsRead, number_starts, push_gathers, gather_sound, gather_complete, followed, joined}
use Rattle.px_derive.proofs.NameFacts.{named_number, IsNamed, number_found}
use Rattle.px_derive.proofs.TypesRead.{IsWord, word_not, word_read, HasNames, head_named_found, definition_named, no_percent, wle_word, weq_word, wle_named, weq_named}

-- the text ends, or goes on with no digit
abbrev pub EndsNumber : List ℕ → Type 0
EndsNumber rest = begins is_ascii_digit rest ≡ false

-- A word alone was read.
pub record ReadWord {T : Type 0} (word : List ℕ) (value : T) (text : List ℕ) (x : T) (rest : List ℕ) : Type 0 where
  pub same : value ≡ x
  pub whole : text ≡ word ++ rest

pub word_alone : {T : Type 0} (word : List ℕ) (value : T) (text : List ℕ) (x : T) (rest : List ℕ) → There word (pure value) text x rest → ReadWord word value text x rest
word_alone word value text x rest there =
    let q : Equal value x there.behind rest = pure_found value x there.behind rest there.found in
    record { same = q.value; whole = there.whole ∙ ap (λ z. word ++ z) q.rest }

-- a word alone, as the text of its value
spelled_word : {T : Type 0} (spelled : T → List ℕ) (value : T) (text : List ℕ) (x : T) (rest : List ℕ) → ReadWord (spelled value) value text x rest → text ≡ spelled x ++ rest
spelled_word spelled value text x rest r = r.whole ∙ ap (λ v. spelled v ++ rest) r.same

pub side_sound : (text rest : List ℕ) (s : Side) → side_at text ≡ Some (s, rest) → text ≡ side_letter s ++ rest
unfolding side_at
side_sound text rest s e = elim (after_found (codes "l") _ _ text s rest e) [
  | inl there ↦ spelled_word side_letter Left text s rest (word_alone (codes "l") Left text s rest there)
  | inr f ↦
      elim (after_found (codes "r") _ _ text s rest f) [
        | inl there ↦ spelled_word side_letter Right text s rest (word_alone (codes "r") Right text s rest there)
        | inr g ↦ absurd (nothing_found s text rest g)
      ]
]

pub side_complete : (s : Side) (rest : List ℕ) → side_at (side_letter s ++ rest) ≡ Some (s, rest)
unfolding side_at after pure
side_complete Left rest = refl
side_complete Right rest = refl

side_ends : (s : Side) (rest : List ℕ) → EndsNumber (side_letter s ++ rest)
side_ends Left rest = refl
side_ends Right rest = refl

-- A target was read.
pub record ReadTarget (text : List ℕ) (t : Target) (rest : List ℕ) : Type 0 where
  pub small : IsReadableTarget t
  pub whole : text ≡ target_word t ++ rest

numbered_side : (made : ℕ → Side → Target) (mark : List ℕ) → ((n : ℕ) (s : Side) → n < 2 ^ 32 → IsReadableTarget (made n s)) → ((n : ℕ) (s : Side) → target_word (made n s) ≡ mark ++ (decimal n ++ side_letter s)) → (text rest : List ℕ) (t : Target) → There mark (bind small_at (λ (n : ℕ). bind side_at (λ (s : Side). pure (made n s)))) text t rest → ReadTarget text t rest
numbered_side made mark small_is spelled text rest t there =
    let b = bind_found small_at _ there.behind t rest there.found in
    let c = bind_found side_at _ b.middle t rest b.second in
    let q : Equal (made b.value c.value) t c.middle rest = pure_found (made b.value c.value) t c.middle rest c.second in
    let r : ReadNumber (2 ^ 32) there.behind b.value b.middle = number_sound (2 ^ 32) (lit≤ tt) there.behind b.middle b.value b.first in
    let side : b.middle ≡ side_letter c.value ++ rest = side_sound b.middle c.middle c.value c.first ∙ ap (λ z. side_letter c.value ++ z) q.rest in
    record {
      small = subst IsReadableTarget q.value (small_is b.value c.value r.small);
      whole =
          there.whole ∙ ap (λ z. mark ++ z) (r.whole ∙ ap (λ z. decimal b.value ++ z) side ∙ sym (append_assoc (decimal b.value) (side_letter c.value) rest)) ∙ sym (append_assoc mark (decimal b.value ++ side_letter c.value) rest)
          ∙ ap (λ z. z ++ rest) (sym (spelled b.value c.value) ∙ ap target_word q.value);
    }

pub target_sound : (text rest : List ℕ) (t : Target) → target_at text ≡ Some (t, rest) → ReadTarget text t rest
unfolding target_at
target_sound text rest t e = elim (after_found (codes "a") _ _ text t rest e) [
  | inl there ↦ numbered_side (λ n s. target.Alternative n s) (codes "a") (λ n s small. small) (λ n s. refl) text rest t there
  | inr f ↦
      elim (after_found (codes "f") _ _ text t rest f) [
        | inl there ↦ numbered_side (λ n s. target.Fact n s) (codes "f") (λ n s small. small) (λ n s. refl) text rest t there
        | inr g ↦ absurd (nothing_found t text rest g)
      ]
]

number_side : (made : ℕ → Side → Target) (n : ℕ) (s : Side) (rest : List ℕ) → n < 2 ^ 32 → bind small_at (λ (m : ℕ). bind side_at (λ (r : Side). pure (made m r))) ((decimal n ++ side_letter s) ++ rest) ≡ Some (made n s, rest)
unfolding pure
number_side made n s rest small =
    ap (bind small_at (λ (m : ℕ). bind side_at (λ (r : Side). pure (made m r)))) (append_assoc (decimal n) (side_letter s) rest)
    ∙ bind_goes small_at _ (decimal n ++ (side_letter s ++ rest)) n (side_letter s ++ rest) (number_complete (2 ^ 32) (lit≤ tt) n (side_letter s ++ rest) small (side_ends s rest))
    ∙ bind_goes side_at _ (side_letter s ++ rest) s rest (side_complete s rest)

pub target_complete : (t : Target) (rest : List ℕ) → IsReadableTarget t → target_at (target_word t ++ rest) ≡ Some (t, rest)
unfolding target_at
target_complete (target.Alternative n s) rest small = after_there (codes "a") _ _ ((decimal n ++ side_letter s) ++ rest) ∙ number_side (λ m r. target.Alternative m r) n s rest small
target_complete (target.Fact n s) rest small =
    after_absent (codes "a") _ _ (target_word (target.Fact n s) ++ rest) refl ∙ after_there (codes "f") _ _ ((decimal n ++ side_letter s) ++ rest) ∙ number_side (λ m r. target.Fact m r) n s rest small

pub numbers_sound : Sound (λ (n : ℕ). n < 2 ^ 32) decimal small_at
numbers_sound text rest n e = let r = number_sound (2 ^ 32) (lit≤ tt) text rest n e in record { is = r.small; whole = r.whole }

number_reads : (n : ℕ) → n < 2 ^ 32 → IsRead EndsNumber small_at (decimal n) n
number_reads n small = record { reads = λ rest ends. number_complete (2 ^ 32) (lit≤ tt) n rest small ends; starts = number_starts n (omega arith) }

numbers_read : (ns : List ℕ) → AreSmall ns → AllByRecursion (λ (n : ℕ). IsRead EndsNumber small_at (decimal n) n) ns
numbers_read [] small = tt
numbers_read (n ∷ ns) small = (number_reads n small.0, numbers_read ns small.1)

-- Numbers with a separator between were read.
pub record ReadNumbers (separator : ℕ) (text : List ℕ) (ns : List ℕ) (rest : List ℕ) : Type 0 where
  pub first : ℕ
  pub others : List ℕ
  pub list : ns ≡ first ∷ others
  pub small : AreSmall ns
  pub whole : separator ∷ text ≡ followed separator decimal ns ++ rest

pub list_sound : (separator : ℕ) (text rest ns : List ℕ) → numbers_at separator text ≡ Some (ns, rest) → ReadNumbers separator text ns rest
unfolding numbers_at list_at
list_sound separator text rest ns e =
    let g = gather_sound separator small_at push (λ (ms : List ℕ). ms) push_gathers decimal (λ (n : ℕ). n < 2 ^ 32) numbers_sound [] ns text rest e in
    record {
      first = g.first;
      others = g.others;
      list = g.gathered;
      small = subst AreSmall (sym g.gathered) g.each;
      whole =
          ap (λ z. separator ∷ z) (g.whole ∙ ap (λ z. z ++ rest) (joined separator decimal g.first g.others))
          ∙ ap (λ ms. followed separator decimal ms ++ rest) (sym g.gathered);
    }

pub list_complete : (separator : ℕ) → ((rest : List ℕ) → EndsNumber (separator ∷ rest)) → (n : ℕ) (ns rest : List ℕ) → AreSmall (n ∷ ns) → past (separator ∷ []) rest ≡ None → EndsNumber rest → numbers_at separator ((decimal n ++ followed separator decimal ns) ++ rest) ≡ Some (n ∷ ns, rest)
unfolding numbers_at list_at
list_complete separator here n ns rest small stops ends =
    ap (λ z. gather separator small_at push [] (z ++ rest)) (sym (joined separator decimal n ns))
    ∙ gather_complete separator small_at push (λ (ms : List ℕ). ms) push_gathers decimal EndsNumber here [] (n ∷ ns) n ns rest (numbers_read (n ∷ ns) small) refl stops ends

-- A path was read.
pub record ReadPath (text path rest : List ℕ) : Type 0 where
  pub small : AreSmall path
  pub whole : text ≡ path_word path ++ rest

path_of : (ns : List ℕ) (first : ℕ) (others rest : List ℕ) → ns ≡ first ∷ others → followed 47 decimal ns ++ rest ≡ path_word ns ++ rest
path_of ns first others rest e = ap (λ ms. followed 47 decimal ms ++ rest) e ∙ ap (λ ms. path_word ms ++ rest) (sym e)

pub path_sound : (text rest path : List ℕ) → path_at text ≡ Some (path, rest) → ReadPath text path rest
unfolding path_at
path_sound text rest path e =
    let b = bind_found (skip (codes "/")) _ text path rest e in
    let slash : text ≡ codes "/" ++ b.middle = skip_found (codes "/") text b.middle b.value b.first in
    elim (choice_found (begins is_ascii_digit) (numbers_at 47) (pure []) b.middle path rest b.second) [
      | inl is ↦
          let r = list_sound 47 b.middle rest path is.found in
          record { small = r.small; whole = slash ∙ r.whole ∙ path_of path r.first r.others rest r.list }
      | inr is ↦
          let q : Equal [] path b.middle rest = pure_found [] path b.middle rest is.found in
          record { small = subst AreSmall q.value tt; whole = slash ∙ ap (λ z. codes "/" ++ z) q.rest ∙ ap (λ p. path_word p ++ rest) q.value }
    ]

slash_ends : (rest : List ℕ) → EndsNumber (47 ∷ rest)
slash_ends rest = refl

pub path_complete : (path rest : List ℕ) → AreSmall path → EndsNumber rest → past (codes "/") rest ≡ None → path_at (path_word path ++ rest) ≡ Some (path, rest)
unfolding path_at pure
path_complete [] rest small ends stops =
    bind_goes (skip (codes "/")) _ (codes "/" ++ rest) tt rest (skip_whole (codes "/") rest)
    ∙ choice_other (begins is_ascii_digit) (numbers_at 47) _ rest ends
path_complete (n ∷ ns) rest small ends stops =
    let text : List ℕ = (decimal n ++ followed 47 decimal ns) ++ rest in
    let digit : begins is_ascii_digit text ≡ true = ap (begins is_ascii_digit) (append_assoc (decimal n) (followed 47 decimal ns) rest) ∙ number_begins n (followed 47 decimal ns ++ rest) (let less : n < 2 ^ 32 = small.0 in omega arith) in
    bind_goes (skip (codes "/")) _ (codes "/" ++ text) tt text (skip_whole (codes "/") text)
    ∙ choice_first (begins is_ascii_digit) (numbers_at 47) _ text digit
    ∙ list_complete 47 slash_ends n ns rest small stops ends

-- What a step does was read.
pub record ReadKind (text : List ℕ) (k : Kind) (rest : List ℕ) : Type 0 where
  pub small : IsReadableKind k
  pub whole : text ≡ kind_words k ++ rest

word_kind : (value : Kind) (text : List ℕ) (k : Kind) (rest : List ℕ) → IsReadableKind value → ReadWord (kind_words value) value text k rest → ReadKind text k rest
word_kind value text k rest small r = record { small = subst IsReadableKind r.same small; whole = spelled_word kind_words value text k rest r }

direction_sound : (n : ℕ) (text rest : List ℕ) (k : Kind) → n < 2 ^ 32 → direction_at n text ≡ Some (k, rest) → ReadKind (codes "fact " ++ (decimal n ++ text)) k rest
unfolding direction_at
direction_sound n text rest k small e = elim (after_found (codes " lr") _ _ text k rest e) [
  | inl there ↦
      let r = word_alone (codes " lr") (kind.Fact n true) text k rest there in
      record {
        small = subst IsReadableKind r.same small;
        whole = ap (λ z. codes "fact " ++ (decimal n ++ z)) r.whole ∙ ap (λ z. codes "fact " ++ z) (sym (append_assoc (decimal n) (codes " lr") rest)) ∙ ap (λ v. kind_words v ++ rest) r.same;
      }
  | inr f ↦
      elim (after_found (codes " rl") _ _ text k rest f) [
        | inl there ↦
            let r = word_alone (codes " rl") (kind.Fact n false) text k rest there in
            record {
              small = subst IsReadableKind r.same small;
              whole = ap (λ z. codes "fact " ++ (decimal n ++ z)) r.whole ∙ ap (λ z. codes "fact " ++ z) (sym (append_assoc (decimal n) (codes " rl") rest)) ∙ ap (λ v. kind_words v ++ rest) r.same;
            }
        | inr g ↦ absurd (nothing_found k text rest g)
      ]
]

fact_sound : (text rest : List ℕ) (k : Kind) → There (codes "fact ") (bind small_at direction_at) text k rest → ReadKind text k rest
fact_sound text rest k there =
    let b = bind_found small_at direction_at there.behind k rest there.found in
    let r : ReadNumber (2 ^ 32) there.behind b.value b.middle = number_sound (2 ^ 32) (lit≤ tt) there.behind b.middle b.value b.first in
    let d = direction_sound b.value b.middle rest k r.small b.second in
    record { small = d.small; whole = there.whole ∙ ap (λ z. codes "fact " ++ z) r.whole ∙ d.whole }

pub kind_sound : (text rest : List ℕ) (k : Kind) → kind_at text ≡ Some (k, rest) → ReadKind text k rest
unfolding kind_at
kind_sound text rest k e = elim (after_found (codes "unfold") _ _ text k rest e) [
  | inl there ↦ word_kind kind.Unfold text k rest tt (word_alone (codes "unfold") kind.Unfold text k rest there)
  | inr f ↦
      elim (after_found (codes "select") _ _ text k rest f) [
        | inl there ↦ word_kind kind.Select text k rest tt (word_alone (codes "select") kind.Select text k rest there)
        | inr g ↦
            elim (after_found (codes "compare") _ _ text k rest g) [
              | inl there ↦ word_kind kind.Compare text k rest tt (word_alone (codes "compare") kind.Compare text k rest there)
              | inr h ↦
                  elim (after_found (codes "fact ") _ _ text k rest h) [
                    | inl there ↦ fact_sound text rest k there
                    | inr i ↦ absurd (nothing_found k text rest i)
                  ]
            ]
      ]
]

direction_complete : (n : ℕ) (b : Bool) (rest : List ℕ) → n < 2 ^ 32 → kind_at (kind_words (kind.Fact n b) ++ rest) ≡ Some (kind.Fact n b, rest)
unfolding kind_at direction_at after pure
direction_complete n true rest small =
    ap (bind small_at direction_at) (append_assoc (decimal n) (codes " lr") rest)
    ∙ bind_goes small_at direction_at (decimal n ++ (codes " lr" ++ rest)) n (codes " lr" ++ rest) (number_complete (2 ^ 32) (lit≤ tt) n (codes " lr" ++ rest) small refl)
direction_complete n false rest small =
    ap (bind small_at direction_at) (append_assoc (decimal n) (codes " rl") rest)
    ∙ bind_goes small_at direction_at (decimal n ++ (codes " rl" ++ rest)) n (codes " rl" ++ rest) (number_complete (2 ^ 32) (lit≤ tt) n (codes " rl" ++ rest) small refl)

pub kind_complete : (k : Kind) (rest : List ℕ) → IsReadableKind k → kind_at (kind_words k ++ rest) ≡ Some (k, rest)
unfolding kind_at after pure
kind_complete kind.Unfold rest small = refl
kind_complete kind.Select rest small = refl
kind_complete kind.Compare rest small = refl
kind_complete (kind.Fact n b) rest small = direction_complete n b rest small

relation_prop_sound : (text rest : List ℕ) (p : Prop) → relation_prop_at text ≡ Some (p, rest) → text ≡ prop_word p ++ rest
unfolding relation_prop_at
relation_prop_sound text rest p e = elim (after_found (codes "irrefl") _ _ text p rest e) [
  | inl there ↦ spelled_word prop_word Irrefl text p rest (word_alone (codes "irrefl") Irrefl text p rest there)
  | inr e1 ↦
      elim (after_found (codes "sym") _ _ text p rest e1) [
        | inl there ↦ spelled_word prop_word Sym text p rest (word_alone (codes "sym") Sym text p rest there)
        | inr e2 ↦
            elim (after_found (codes "antisym") _ _ text p rest e2) [
              | inl there ↦ spelled_word prop_word Antisym text p rest (word_alone (codes "antisym") Antisym text p rest there)
              | inr e3 ↦
                  elim (after_found (codes "asym") _ _ text p rest e3) [
                    | inl there ↦ spelled_word prop_word Asym text p rest (word_alone (codes "asym") Asym text p rest there)
                    | inr e4 ↦
                        elim (after_found (codes "trans") _ _ text p rest e4) [
                          | inl there ↦ spelled_word prop_word Trans text p rest (word_alone (codes "trans") Trans text p rest there)
                          | inr e5 ↦
                              elim (after_found (codes "conn") _ _ text p rest e5) [
                                | inl there ↦ spelled_word prop_word Conn text p rest (word_alone (codes "conn") Conn text p rest there)
                                | inr e6 ↦ absurd (nothing_found p text rest e6)
                              ]
                        ]
                  ]
            ]
      ]
]

pub prop_sound : (text rest : List ℕ) (p : Prop) → prop_at text ≡ Some (p, rest) → text ≡ prop_word p ++ rest
unfolding prop_at
prop_sound text rest p e = elim (after_found (codes "comm") _ _ text p rest e) [
  | inl there ↦ spelled_word prop_word Comm text p rest (word_alone (codes "comm") Comm text p rest there)
  | inr e1 ↦
      elim (after_found (codes "assoc") _ _ text p rest e1) [
        | inl there ↦ spelled_word prop_word Assoc text p rest (word_alone (codes "assoc") Assoc text p rest there)
        | inr e2 ↦
            elim (after_found (codes "idem") _ _ text p rest e2) [
              | inl there ↦ spelled_word prop_word Idem text p rest (word_alone (codes "idem") Idem text p rest there)
              | inr e3 ↦
                  elim (after_found (codes "sel") _ _ text p rest e3) [
                    | inl there ↦ spelled_word prop_word Sel text p rest (word_alone (codes "sel") Sel text p rest there)
                    | inr e4 ↦
                        elim (after_found (codes "refl") _ _ text p rest e4) [
                          | inl there ↦ spelled_word prop_word Refl text p rest (word_alone (codes "refl") Refl text p rest there)
                          | inr e5 ↦ relation_prop_sound text rest p e5
                        ]
                  ]
            ]
      ]
]

pub prop_complete : (p : Prop) (rest : List ℕ) → prop_at (prop_word p ++ rest) ≡ Some (p, rest)
unfolding prop_at relation_prop_at after pure
prop_complete Comm rest = refl
prop_complete Assoc rest = refl
prop_complete Idem rest = refl
prop_complete Sel rest = refl
prop_complete Refl rest = refl
prop_complete Irrefl rest = refl
prop_complete Sym rest = refl
prop_complete Antisym rest = refl
prop_complete Asym rest = refl
prop_complete Trans rest = refl
prop_complete Conn rest = refl

-- the reference can be spelled; the hypothesis is none that is
abbrev pub IsSpellableReference : Names → Ref → Type 0
IsSpellableReference names (reference.Property head prop) = IsSpellableHead names head
IsSpellableReference names (reference.Lemma n) = IsNumberOf names.lemmas n
IsSpellableReference names reference.Hypothesis = ⊥

-- a reference's text
abbrev pub reference_text : Names → Ref → List ℕ
reference_text names (reference.Property head prop) = head_text names head ++ (codes "." ++ prop_word prop)
reference_text names (reference.Lemma n) = name_at names.lemmas n
reference_text names reference.Hypothesis = []

-- A reference was read.
pub record ReadReference (names : Names) (text : List ℕ) (r : Ref) (rest : List ℕ) : Type 0 where
  pub spellable : IsSpellableReference names r
  pub whole : text ≡ reference_text names r ++ rest

property_sound : (names : Names) (front : List ℕ) (found : Option Head) → ((h : Head) → found ≡ Some h → IsSpellableHead names h × (front ≡ head_text names h)) → (text rest : List ℕ) (r : Ref) → property_at found text ≡ Some (r, rest) → ReadReference names (front ++ (codes "." ++ text)) r rest
unfolding property_at
property_sound names front found known text rest r e =
    let b = bind_found (lift found) _ text r rest e in
    let l : Lifted found b.value text b.middle = lift_found found b.value text b.middle b.first in
    let c = bind_found prop_at _ b.middle r rest b.second in
    let q : Equal (reference.Property b.value c.value) r c.middle rest = pure_found (reference.Property b.value c.value) r c.middle rest c.second in
    let is = known b.value l.some in
    let word : List ℕ = prop_word c.value in
    record {
      spellable = subst (IsSpellableReference names) q.value is.0;
      whole =
          ap (λ z. front ++ (codes "." ++ z)) (l.rest_is ∙ prop_sound b.middle c.middle c.value c.first ∙ ap (λ z. word ++ z) q.rest) ∙ ap (λ z. z ++ (codes "." ++ (word ++ rest))) is.1
          ∙ sym (append_assoc (head_text names b.value) (codes "." ++ word) rest) ∙ ap (λ v. reference_text names v ++ rest) q.value;
    }

variable_known : (names : Names) (n : ℕ) → n < 2 ^ 32 → (h : Head) → Some (FnVar n) ≡ Some h → IsSpellableHead names h × (codes "%" ++ decimal n ≡ head_text names h)
variable_known names n small h e = let q : FnVar n ≡ h = cc in (subst (IsSpellableHead names) q small, ap (head_text names) q)

variable_sound : (names : Names) (text rest : List ℕ) (r : Ref) → There (codes "%") (bind small_at (λ (n : ℕ). bind (skip (codes ".")) (λ (u : Unit {0}). property_at (Some (FnVar n))))) text r rest → ReadReference names text r rest
variable_sound names text rest r there =
    let b = bind_found small_at _ there.behind r rest there.found in
    let c = bind_found (skip (codes ".")) _ b.middle r rest b.second in
    let n : ReadNumber (2 ^ 32) there.behind b.value b.middle = number_sound (2 ^ 32) (lit≤ tt) there.behind b.middle b.value b.first in
    let dot : b.middle ≡ codes "." ++ c.middle = skip_found (codes ".") b.middle c.middle c.value c.first in
    let p = property_sound names (codes "%" ++ decimal b.value) (Some (FnVar b.value)) (variable_known names b.value n.small) c.middle rest r c.second in
    record { spellable = p.spellable; whole = there.whole ∙ ap (λ z. codes "%" ++ z) (n.whole ∙ ap (λ z. decimal b.value ++ z) dot) ∙ p.whole }

lemma_sound : (names : Names) (word text rest : List ℕ) (r : Ref) → bind (lift (number_named names.lemmas word)) (λ (n : ℕ). pure (reference.Lemma n)) text ≡ Some (r, rest) → ReadReference names (word ++ text) r rest
lemma_sound names word text rest r e =
    let b = bind_found (lift (number_named names.lemmas word)) _ text r rest e in
    let l : Lifted (number_named names.lemmas word) b.value text b.middle = lift_found (number_named names.lemmas word) b.value text b.middle b.first in
    let q : Equal (reference.Lemma b.value) r b.middle rest = pure_found (reference.Lemma b.value) r b.middle rest b.second in
    let is : IsNamed names.lemmas word b.value = number_found names.lemmas word b.value l.some in
    record {
      spellable = subst (IsSpellableReference names) q.value is.number;
      whole = ap (λ z. word ++ z) (l.rest_is ∙ q.rest) ∙ ap (λ z. z ++ rest) is.name ∙ ap (λ v. reference_text names v ++ rest) q.value;
    }

head_known : (names : Names) (word : List ℕ) (h : Head) → head_named names word ≡ Some h → IsSpellableHead names h × (word ≡ head_text names h)
head_known names word h e = let is = head_named_found names word h e in (is.spellable, is.whole)

pub reference_sound : (names : Names) (text rest : List ℕ) (r : Ref) → reference_at names text ≡ Some (r, rest) → ReadReference names text r rest
unfolding reference_at
reference_sound names text rest r e = elim (after_found (codes "%") _ _ text r rest e) [
  | inl there ↦ variable_sound names text rest r there
  | inr f ↦
      let b = bind_found word_at _ text r rest f in
      let w : IsRun is_name_part text b.value b.middle = run_found is_name_part text b.value b.middle b.first in
      elim (after_found (codes ".") _ _ b.middle r rest b.second) [
        | inl there ↦
            let p = property_sound names b.value (head_named names b.value) (head_known names b.value) there.behind rest r there.found in
            record { spellable = p.spellable; whole = w.whole ∙ ap (λ z. b.value ++ z) there.whole ∙ p.whole }
        | inr g ↦
            let p = lemma_sound names b.value b.middle rest r g in
            record { spellable = p.spellable; whole = w.whole ∙ p.whole }
      ]
]

property_complete : (head : Head) (prop : Prop) (found : Option Head) (rest : List ℕ) → found ≡ Some head → property_at found (prop_word prop ++ rest) ≡ Some (reference.Property head prop, rest)
unfolding property_at pure
property_complete head prop found rest e =
    bind_goes (lift found) _ (prop_word prop ++ rest) head (prop_word prop ++ rest) (lift_some found head (prop_word prop ++ rest) e)
    ∙ bind_goes prop_at _ (prop_word prop ++ rest) prop rest (prop_complete prop rest)

named_property : (names : Names) (word : List ℕ) (head : Head) (prop : Prop) (rest : List ℕ) → IsWord is_ascii_lowercase word → head_named names word ≡ Some head → reference_at names (word ++ (codes "." ++ (prop_word prop ++ rest))) ≡ Some (reference.Property head prop, rest)
unfolding reference_at
named_property names word head prop rest w named =
    let tail : List ℕ = codes "." ++ (prop_word prop ++ rest) in
    after_absent (codes "%") _ _ (word ++ tail) (word_not 37 is_ascii_lowercase no_percent word tail w)
    ∙ bind_goes word_at _ (word ++ tail) word tail (word_read is_ascii_lowercase word tail w refl)
    ∙ after_there (codes ".") _ _ (prop_word prop ++ rest)
    ∙ property_complete head prop (head_named names word) rest named

variable_property : (names : Names) (n : ℕ) (prop : Prop) (rest : List ℕ) → n < 2 ^ 32 → reference_at names (codes "%" ++ (decimal n ++ (codes "." ++ (prop_word prop ++ rest)))) ≡ Some (reference.Property (FnVar n) prop, rest)
unfolding reference_at
variable_property names n prop rest small =
    let tail : List ℕ = codes "." ++ (prop_word prop ++ rest) in
    after_there (codes "%") _ _ (decimal n ++ tail)
    ∙ bind_goes small_at _ (decimal n ++ tail) n tail (number_complete (2 ^ 32) (lit≤ tt) n tail small refl)
    ∙ bind_goes (skip (codes ".")) _ tail tt (prop_word prop ++ rest) (skip_whole (codes ".") (prop_word prop ++ rest))
    ∙ property_complete (FnVar n) prop (Some (FnVar n)) rest refl

-- a property of a function is read where its text stands
pub property_reads : (names : Names) → HasNames names → (head : Head) (prop : Prop) (rest : List ℕ) → IsSpellableHead names head → reference_at names (head_text names head ++ (codes "." ++ (prop_word prop ++ rest))) ≡ Some (reference.Property head prop, rest)
property_reads names has (Def n) prop rest is = named_property names (name_at names.defs n) (Def n) prop rest (has.lower n is) (definition_named names has n is)
property_reads names has Wle prop rest is = named_property names (codes "wle") Wle prop rest wle_word (wle_named names)
property_reads names has Weq prop rest is = named_property names (codes "weq") Weq prop rest weq_word (weq_named names)
property_reads names has (FnVar n) prop rest is = variable_property names n prop rest is

-- a lemma is read where its name stands
pub lemma_reads : (names : Names) → HasNames names → (n : ℕ) (rest : List ℕ) → IsNumberOf names.lemmas n → begins is_name_part rest ≡ false → past (codes ".") rest ≡ None → reference_at names (name_at names.lemmas n ++ rest) ≡ Some (reference.Lemma n, rest)
unfolding reference_at pure
lemma_reads names has n rest is ends absent =
    let word : List ℕ = name_at names.lemmas n in
    let w : IsWord is_ascii_lowercase word = has.lower_lemma n is in
    after_absent (codes "%") _ _ (word ++ rest) (word_not 37 is_ascii_lowercase no_percent word rest w)
    ∙ bind_goes word_at _ (word ++ rest) word rest (word_read is_ascii_lowercase word rest w ends)
    ∙ after_absent (codes ".") _ _ rest absent
    ∙ bind_goes (lift (number_named names.lemmas word)) _ rest n rest (lift_some (number_named names.lemmas word) n rest (named_number names.lemmas has.lemmas n is))
