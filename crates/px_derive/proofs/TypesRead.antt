-- Types and functions are read as they are written.
use Rattle.std.proofs.Common.{◌≡◌, ℕ, zero, suc, ◌+◌, ◌<◌, ◌≤◌, ◌^◌, ◌⊎◌, Bool, true, false, cond, ◌||◌, List, [], ◌∷◌, ◌++◌, length, map, Some, None, refl, sym, ap, ◌∙◌, subst, inl, inr, append_assoc, arith, codes, ◌==◌, lit≤}
use Rattle.std.specs.Prelude.{All, Contains}
use Rattle.std.specs.List.{AllByRecursion}
use Rattle.std.specs.Option.{option_and_then}
use Rattle.std.specs.Str.{bytes_eq}
use Rattle.std.specs.Char.{is_ascii_digit, is_ascii_uppercase, is_ascii_lowercase}
use Rattle.std.specs.Fmt.{decimal}
use Rattle.std.proofs.lemmas.Slice.Eq.{bytes_eq-Decides}
use Rattle.std.proofs.lemmas.Bool.Decides.{nat_tests}
use Rattle.std.proofs.lemmas.List.{get_or_append_left, length-append}
use Rattle.std.proofs.lemmas.Option.{unwrap_or-slice_get}
use Rattle.std.proofs.lemmas.List.Elements.{Contains-get_or, Contains-append_right, All-get_or, recursion_from_All}
use Rattle.px_base.specs.Distinct.{AreDistinct, more}
use Rattle.px_base.specs.NameForms.{is_name_part, IsName, IsUpperName, IsLowerName}
use Rattle.px_base.specs.Lawful.{IsLawful, con_names}
use Rattle.px_base.specs.declared.names.Names.{Names}
use Rattle.px_base.specs.declared.head.Head.{Head}
use Rattle.px_base.specs.declared.head.Head.TheVariants.{Def, Wle, Weq, FnVar}
use Rattle.px_terms.specs.declared.types.Ty.{Ty, out-Ty}
use Rattle.px_terms.specs.declared.types.Ty.TheVariants as ty
use Rattle.px_terms.specs.declared.types.Ty.TheViews.{roll-Ty, roll-out-Ty}
use Rattle.px_terms.specs.declared.types.Ty.TheOpen.{Ty-F}
use Rattle.px_terms.specs.declared.types.Fun.{Fun}
use Rattle.px_terms.specs.Types.{ty_depth, tys_depth}
use Rattle.px_terms.specs.TreeEquations.{ty_depth-Word, ty_depth-Var, ty_depth-Con}
use Rattle.px_derive.specs.Spelling.{name_at, constructors_at, in_angles, ty_text, head_text, fun_text}
use Rattle.px_derive.specs.Spellable.{IsNumberOf, IsConstructorOf, IsSpellableType, AreSpellableTypes, word, variable, datatype, no_types, more_types, IsSpellableHead, IsSpellableFunction}
use Rattle.px_derive.specs.Readers.{pure, lift, bind, past, choice, begins}
use Rattle.px_derive.specs.Reading.{small_at, word_at, number_named, head_named, definition_of, angles_at, datatype_at, ty_at, head_at, fun_at}
use Rattle.px_derive.proofs.Fronts.{past_other, run_whole, run_found, IsRun}
use Rattle.px_derive.proofs.Found.{Equal, Both, and_then_some, bind_found, bind_goes, Lifted, lift_found, lift_some, pure_found, nothing_found, There, after_found, after_there, after_absent, choice_found, choice_first, choice_other}
use Rattle.px_derive.proofs.NumberFacts.{ReadNumber, number_sound, number_complete}
use Rattle.px_derive.proofs.ListFacts.{Read, Sound, IsRead, begins_item, Starts, starts_more, Opened, opened_sound, opened_complete}
use Rattle.px_derive.proofs.NameFacts.{named_number, IsNamed, number_found, distinct_front, distinct_back, name_is}
use Rattle.px_derive.proofs.TextEquations.{ty_text-Word, ty_text-Var, ty_text-Con}

-- what a type, a function or a term may go on with: a part of a name, `<` or `(`
abbrev pub goes_on : ℕ → Bool
goes_on c = is_name_part c || (c == 60 || c == 40)

-- the text ends, or goes on with something else
abbrev pub Ends : List ℕ → Type 0
Ends rest = begins goes_on rest ≡ false

no_part : (c : ℕ) → goes_on c ≡ false → is_name_part c ≡ false
no_part c e = grind (arith, nat_tests)

pub ends_word : (rest : List ℕ) → Ends rest → begins is_name_part rest ≡ false
ends_word [] ends = refl
ends_word (c ∷ cs) ends = no_part c ends

no_digit : (c : ℕ) → is_name_part c ≡ false → is_ascii_digit c ≡ false
no_digit c e = grind (arith, nat_tests)

pub word_ends_number : (rest : List ℕ) → begins is_name_part rest ≡ false → begins is_ascii_digit rest ≡ false
word_ends_number [] ends = refl
word_ends_number (c ∷ cs) ends = no_digit c ends

pub ends_number : (rest : List ℕ) → Ends rest → begins is_ascii_digit rest ≡ false
ends_number rest ends = word_ends_number rest (ends_word rest ends)

no_less : (c : ℕ) → goes_on c ≡ false → (60 == c) ≡ false
no_less c e = grind (arith, nat_tests)

pub ends_less : (rest : List ℕ) → Ends rest → past (codes "<") rest ≡ None
ends_less [] ends = refl
ends_less (c ∷ cs) ends = past_other 60 c [] cs (no_less c ends)

no_parenthesis : (c : ℕ) → goes_on c ≡ false → (40 == c) ≡ false
no_parenthesis c e = grind (arith, nat_tests)

pub ends_parenthesis : (rest : List ℕ) → Ends rest → past (codes "(") rest ≡ None
ends_parenthesis [] ends = refl
ends_parenthesis (c ∷ cs) ends = past_other 40 c [] cs (no_parenthesis c ends)

-- A word is made of parts of names, and begins with a byte of this class.
pub record IsWord (class : ℕ → Bool) (text : List ℕ) : Type 0 where
  pub first : ℕ
  pub others : List ℕ
  pub whole : text ≡ first ∷ others
  pub begins_so : class first ≡ true
  pub parts : AllByRecursion (λ (b : ℕ). is_name_part b ≡ true) text

-- a name of this form is a word
pub name_word : (class : ℕ → Bool) → class 0 ≡ false → (text : List ℕ) → IsName class text → IsWord class text
name_word class none_is [] is = let q : true ≡ false = sym is.first ∙ none_is in absurd cc
name_word class none_is (c ∷ cs) is = record { first = c; others = cs; whole = refl; begins_so = is.first; parts = recursion_from_All (λ (b : ℕ). is_name_part b ≡ true) (c ∷ cs) is.rest }

upper_item : (c : ℕ) → is_ascii_uppercase c ≡ true → begins_item c ≡ true
upper_item c e = grind (arith, nat_tests)

lower_item : (c : ℕ) → is_ascii_lowercase c ≡ true → begins_item c ≡ true
lower_item c e = grind (arith, nat_tests)

pub word_starts : (class : ℕ → Bool) → ((c : ℕ) → class c ≡ true → begins_item c ≡ true) → (text : List ℕ) → IsWord class text → Starts text
word_starts class is_item text w = record { first = w.first; others = w.others; whole = w.whole; begins_so = is_item w.first w.begins_so }

pub upper_starts : (text : List ℕ) → IsWord is_ascii_uppercase text → Starts text
upper_starts text w = word_starts is_ascii_uppercase upper_item text w

pub lower_starts : (text : List ℕ) → IsWord is_ascii_lowercase text → Starts text
lower_starts text w = word_starts is_ascii_lowercase lower_item text w

-- a mark that is no byte of this class does not stand before a word
pub word_not : (mark : ℕ) (class : ℕ → Bool) → ((c : ℕ) → class c ≡ true → (mark == c) ≡ false) → (text rest : List ℕ) → IsWord class text → past (mark ∷ []) (text ++ rest) ≡ None
word_not mark class differs text rest w = rw (w.whole, differs w.first w.begins_so) refl

-- the word is read, where no part of a name follows
pub word_read : (class : ℕ → Bool) (text rest : List ℕ) → IsWord class text → begins is_name_part rest ≡ false → word_at (text ++ rest) ≡ Some (text, rest)
word_read class text rest w ends = run_whole is_name_part text rest w.parts ends

-- The names of a program, as they are used here.
pub record HasNames (names : Names) : Type 0 where
  pub datatypes : AreDistinct names.datatypes
  pub no_word : (d : ℕ) → IsNumberOf names.datatypes d → bytes_eq (name_at names.datatypes d) (codes "Word") ≡ false
  pub upper : (d : ℕ) → IsNumberOf names.datatypes d → IsWord is_ascii_uppercase (name_at names.datatypes d)
  pub constructors : AreDistinct (con_names names)
  pub upper_con : (d k : ℕ) → IsConstructorOf names d k → IsWord is_ascii_uppercase (name_at (constructors_at names d) k)
  pub defs : AreDistinct names.defs
  pub lemmas : AreDistinct names.lemmas
  pub no_wle : (n : ℕ) → IsNumberOf names.defs n → bytes_eq (name_at names.defs n) (codes "wle") ≡ false
  pub no_weq : (n : ℕ) → IsNumberOf names.defs n → bytes_eq (name_at names.defs n) (codes "weq") ≡ false
  pub lower : (n : ℕ) → IsNumberOf names.defs n → IsWord is_ascii_lowercase (name_at names.defs n)
  pub lower_lemma : (n : ℕ) → IsNumberOf names.lemmas n → IsWord is_ascii_lowercase (name_at names.lemmas n)

all_at : (P : List ℕ → Type 0) (names : List (List ℕ)) (n : ℕ) → All P names → n < length names → P (name_at names n)
all_at P names n all less = subst P (sym (name_is names n)) (All-get_or P names n [] less all)

word_at_number : (class : ℕ → Bool) → class 0 ≡ false → (names : List (List ℕ)) (n : ℕ) → All (IsName class) names → n < length names → IsWord class (name_at names n)
word_at_number class none_is names n all less = name_word class none_is (name_at names n) (all_at (IsName class) names n all less)

not_first : (first : List ℕ) (names : List (List ℕ)) (n : ℕ) → AreDistinct (first ∷ names) → n < length names → bytes_eq (name_at names n) first ≡ false
not_first first names n (more absent distinct) less = by (bytes_eq (name_at names n) first) (bytes_eq-Decides (name_at names n) first).0
  where
    by : (b : Bool) → (b ≡ true → name_at names n ≡ first) → b ≡ false
    by true same = absurd (absent (subst (Contains names) (sym (name_is names n) ∙ same refl) (Contains-get_or names n [] less)))
    by false same = refl

distinct_rest : {A : Type 0} (x : A) (xs : List A) → AreDistinct (x ∷ xs) → AreDistinct xs
distinct_rest x xs (more absent distinct) = distinct

name_front : (xs ys : List (List ℕ)) (n : ℕ) → n < length xs → name_at (xs ++ ys) n ≡ name_at xs n
name_front xs ys n less = name_is (xs ++ ys) n ∙ get_or_append_left xs ys [] n less ∙ sym (name_is xs n)

-- lawful names are so
pub lawful_names : (names : Names) → IsLawful names → HasNames names
lawful_names names lawful =
    let lowers : AreDistinct (names.defs ++ (names.lemmas ++ names.replicas)) = distinct_rest _ _ (distinct_rest _ _ lawful.lowers) in
    let others : List (List ℕ) = names.lemmas ++ names.replicas in
    let longer : (n : ℕ) → n < length names.defs → n < length (names.defs ++ others) = λ n less. simp length-append (omega arith) in
    record {
      datatypes = distinct_rest _ _ lawful.types;
      no_word = λ d is. not_first (codes "Word") names.datatypes d lawful.types is.within;
      upper = λ d is. word_at_number is_ascii_uppercase refl names.datatypes d lawful.forms.datatypes is.within;
      constructors = lawful.constructors;
      upper_con = λ d k is. word_at_number is_ascii_uppercase refl (constructors_at names d) k (own_all names d lawful.forms.cons is.datatype.within) is.con.within;
      defs = distinct_front names.defs others lowers;
      lemmas = distinct_front names.lemmas names.replicas (distinct_back names.defs others lowers);
      no_wle = λ n is. subst (λ w. bytes_eq w (codes "wle") ≡ false) (name_front names.defs others n is.within) (not_first (codes "wle") (names.defs ++ others) n (without_second lawful.lowers) (longer n is.within));
      no_weq = λ n is. subst (λ w. bytes_eq w (codes "weq") ≡ false) (name_front names.defs others n is.within) (not_first (codes "weq") (names.defs ++ others) n (distinct_rest _ _ lawful.lowers) (longer n is.within));
      lower = λ n is. lower_at names.defs n lawful.forms.defs is.within;
      lower_lemma = λ n is. lower_at names.lemmas n lawful.forms.lemmas is.within;
    }
  where
    own_all : (names : Names) (d : ℕ) → All (All IsUpperName) names.cons → d < length names.cons → All IsUpperName (constructors_at names d)
    own_all names d all less = subst (All IsUpperName) (sym (unwrap_or-slice_get names.cons d [])) (All-get_or (All IsUpperName) names.cons d [] less all)

    without_second : {x y : List ℕ} {xs : List (List ℕ)} → AreDistinct (x ∷ y ∷ xs) → AreDistinct (x ∷ xs)
    without_second {x} {y} {xs} (more absent (more later distinct)) = more (λ there. absent (Contains-append_right (y ∷ []) xs x there)) distinct

    lower_at : (words : List (List ℕ)) (n : ℕ) → All IsLowerName words → n < length words → IsWord is_ascii_lowercase (name_at words n)
    lower_at words n all less = name_word is_ascii_lowercase refl (name_at words n) (all_at IsLowerName words n all less).0

-- The type is one of a row, with so many levels.
pub record TypeIn (names : Names) (room : ℕ) (t : Ty) : Type 0 where
  pub spellable : IsSpellableType names (out-Ty t)
  pub depth : ty_depth t ≤ room

pub types_in : (names : Names) (room : ℕ) (ts : List Ty) → AllByRecursion (TypeIn names room) ts → AreSpellableTypes names ts × (tys_depth ts ≤ room)
types_in names room [] each = (no_types, omega arith)
types_in names room (t ∷ ts) each =
    let others = types_in names room ts each.1 in
    let one : ty_depth t ≤ room = each.0.depth in
    let two : tys_depth ts ≤ room = others.1 in
    (more_types each.0.spellable others.0, omega arith)

variable_in : (names : Names) (room n : ℕ) → n < 2 ^ 32 → TypeIn names (suc room) (ty.Var n)
variable_in names room n small = record { spellable = rw (ty.outs-Var n) (variable small); depth = rw (ty_depth-Var n) (omega arith) }

word_in : (names : Names) (room : ℕ) → TypeIn names (suc room) ty.Word
word_in names room = record { spellable = rw ty.outs-Word word; depth = rw ty_depth-Word (omega arith) }

datatype_in : (names : Names) (room d : ℕ) (args : List Ty) → IsNumberOf names.datatypes d → AllByRecursion (TypeIn names room) args → TypeIn names (suc room) (ty.Con d args)
datatype_in names room d args is each =
    let all = types_in names room args each in
    let low : tys_depth args ≤ room = all.1 in
    record { spellable = rw (ty.outs-Con d args) (datatype is all.0); depth = rw (ty_depth-Con d args) (omega arith) }

-- types in angle brackets were read
pub angles_sound : (names : Names) (room : ℕ) → Sound (TypeIn names room) (ty_text names) (ty_at names room) → (text rest : List ℕ) (args : List Ty) → angles_at (ty_at names room) text ≡ Some (args, rest) → Opened (TypeIn names room) (ty_text names) 60 62 text args rest
unfolding angles_at
angles_sound names room sound text rest args e = opened_sound (TypeIn names room) (ty_text names) (ty_at names room) sound 60 62 text rest args e

datatype_sound : (names : Names) (room : ℕ) → Sound (TypeIn names room) (ty_text names) (ty_at names room) → (name text rest : List ℕ) (t : Ty) → datatype_at names (ty_at names room) name text ≡ Some (t, rest) → TypeIn names (suc room) t × (name ++ text ≡ ty_text names t ++ rest)
unfolding datatype_at
datatype_sound names room sound name text rest t e =
    let b = bind_found (lift (number_named names.datatypes name)) _ text t rest e in
    let l : Lifted (number_named names.datatypes name) b.value text b.middle = lift_found (number_named names.datatypes name) b.value text b.middle b.first in
    let c = bind_found (angles_at (ty_at names room)) _ b.middle t rest b.second in
    let q : Equal (ty.Con b.value c.value) t c.middle rest = pure_found (ty.Con b.value c.value) t c.middle rest c.second in
    let is : IsNamed names.datatypes name b.value = number_found names.datatypes name b.value l.some in
    let o = angles_sound names room sound b.middle c.middle c.value c.first in
    let whole : name ++ text ≡ (name_at names.datatypes b.value ++ in_angles (map (ty_text names) c.value)) ++ rest =
    ap (λ z. name ++ z) (l.rest_is ∙ o.whole ∙ ap (λ z. in_angles (map (ty_text names) c.value) ++ z) q.rest) ∙ ap (λ z. z ++ (in_angles (map (ty_text names) c.value) ++ rest)) is.name ∙ sym (append_assoc (name_at names.datatypes b.value) (in_angles (map (ty_text names) c.value)) rest) in (
      subst (TypeIn names (suc room)) q.value (datatype_in names room b.value c.value is.number o.each),
      whole ∙ ap (λ z. z ++ rest) (sym (ty_text-Con names b.value c.value) ∙ ap (ty_text names) q.value),
    )

-- a type that was read is one of a row, and stood there
pub ty_sound : (names : Names) (room : ℕ) → Sound (TypeIn names room) (ty_text names) (ty_at names room)
unfolding ty_at
ty_sound names zero text rest t e = absurd (nothing_found t text rest e)
ty_sound names (suc room) text rest t e = by (after_found (codes "'") _ _ text t rest e) (ty_sound names room)
  where
    named : (name middle : List ℕ) → text ≡ name ++ middle → choice (λ (z : List ℕ). bytes_eq name (codes "Word")) (pure ty.Word) (datatype_at names (ty_at names room) name) middle ≡ Some (t, rest) → Sound (TypeIn names room) (ty_text names) (ty_at names room) → Read (TypeIn names (suc room)) (ty_text names) text t rest
    named name middle whole f sound = elim (choice_found (λ (z : List ℕ). bytes_eq name (codes "Word")) (pure ty.Word) (datatype_at names (ty_at names room) name) middle t rest f) [
      | inl is ↦
          let q : Equal ty.Word t middle rest = pure_found ty.Word t middle rest is.found in
          let same : name ≡ codes "Word" = (bytes_eq-Decides name (codes "Word")).0 is.test in
          record {
            is = subst (TypeIn names (suc room)) q.value (word_in names room);
            whole = whole ∙ ap (λ z. z ++ middle) same ∙ ap (λ z. codes "Word" ++ z) q.rest ∙ ap (λ z. z ++ rest) (sym (ty_text-Word names) ∙ ap (ty_text names) q.value);
          }
      | inr is ↦
          let d = datatype_sound names room sound name middle rest t is.found in
          record { is = d.0; whole = whole ∙ d.1 }
    ]

    by : There (codes "'") (bind small_at (λ (n : ℕ). pure (ty.Var n))) text t rest ⊎ (bind word_at (λ (name : List ℕ). choice (λ (z : List ℕ). bytes_eq name (codes "Word")) (pure ty.Word) (datatype_at names (ty_at names room) name)) text ≡ Some (t, rest)) → Sound (TypeIn names room) (ty_text names) (ty_at names room) → Read (TypeIn names (suc room)) (ty_text names) text t rest
    by (inl there) sound =
        let b = bind_found small_at (λ (n : ℕ). pure (ty.Var n)) there.behind t rest there.found in
        let q : Equal (ty.Var b.value) t b.middle rest = pure_found (ty.Var b.value) t b.middle rest b.second in
        let r : ReadNumber (2 ^ 32) there.behind b.value b.middle = number_sound (2 ^ 32) (lit≤ tt) there.behind b.middle b.value b.first in
        record {
          is = subst (TypeIn names (suc room)) q.value (variable_in names room b.value r.small);
          whole = there.whole ∙ ap (λ z. codes "'" ++ z) (r.whole ∙ ap (λ z. decimal b.value ++ z) q.rest) ∙ ap (λ z. z ++ rest) (sym (ty_text-Var names b.value) ∙ ap (ty_text names) q.value);
        }
    by (inr f) sound =
        let b = bind_found word_at _ text t rest f in
        let r : IsRun is_name_part text b.value b.middle = run_found is_name_part text b.value b.middle b.first in
        named b.value b.middle r.whole b.second sound

-- type arguments are read where their text stands
pub angles_complete : (names : Names) (room : ℕ) (args : List Ty) (rest : List ℕ) → AllByRecursion (λ (t : Ty). IsRead Ends (ty_at names room) (ty_text names t) t) args → past (codes "<") rest ≡ None → angles_at (ty_at names room) (in_angles (map (ty_text names) args) ++ rest) ≡ Some (args, rest)
unfolding angles_at
angles_complete names room args rest each absent = opened_complete (ty_text names) (ty_at names room) Ends (λ z. refl) 60 62 (λ z. refl) (λ z. refl) args rest each absent

-- what follows a name: type arguments, or what ends it
pub after_name : (ts : List (List ℕ)) (rest : List ℕ) → begins is_name_part rest ≡ false → begins is_name_part (in_angles ts ++ rest) ≡ false
after_name [] rest ends = ends
after_name (t ∷ ts) rest ends = refl

-- the type is read where its text stands, if it nests no deeper
abbrev pub TypeReads : Names → ℕ → Ty → Type 0
TypeReads names room t = ty_depth t ≤ room → IsRead Ends (ty_at names room) (ty_text names t) t

word_text : IsWord is_ascii_uppercase (codes "Word")
word_text = record { first = 87; others = codes "ord"; whole = refl; begins_so = refl; parts = (refl, (refl, (refl, (refl, tt)))) }

word_parts : AllByRecursion (λ (b : ℕ). is_name_part b ≡ true) (codes "Word")
word_parts = (refl, (refl, (refl, (refl, tt))))

no_quote : (c : ℕ) → is_ascii_uppercase c ≡ true → (39 == c) ≡ false
no_quote c e = grind (arith, nat_tests)

too_deep : (names : Names) (t : Ty) (d : ℕ) → ty_depth t ≡ 1 + d → ty_depth t ≤ 0 → ⊥
too_deep names t d e low = omega arith

word_reads : (names : Names) (room : ℕ) → TypeReads names room ty.Word
unfolding ty_at pure
word_reads names zero low = absurd (too_deep names ty.Word 0 ty_depth-Word low)
word_reads names (suc room) low = record {
  starts = rw (ty_text-Word names) (upper_starts (codes "Word") word_text);
  reads = λ rest ends.
      rw (ty_text-Word names) (after_absent (codes "'") _ _ (codes "Word" ++ rest) refl
      ∙ bind_goes word_at _ (codes "Word" ++ rest) (codes "Word") rest (run_whole is_name_part (codes "Word") rest word_parts (ends_word rest ends))
      ∙ pure_word rest);
}
  where
    pure_word : (rest : List ℕ) → choice (λ (z : List ℕ). bytes_eq (codes "Word") (codes "Word")) (pure ty.Word) (datatype_at names (ty_at names room) (codes "Word")) rest ≡ Some (ty.Word, rest)
    pure_word rest = choice_first (λ (z : List ℕ). bytes_eq (codes "Word") (codes "Word")) (pure ty.Word) (datatype_at names (ty_at names room) (codes "Word")) rest refl

variable_starts : (mark : ℕ) → begins_item mark ≡ true → (ds : List ℕ) → Starts (mark ∷ ds)
variable_starts mark is ds = record { first = mark; others = ds; whole = refl; begins_so = is }

variable_reads : (names : Names) (room n : ℕ) → n < 2 ^ 32 → TypeReads names room (ty.Var n)
unfolding ty_at pure
variable_reads names zero n small low = absurd (too_deep names (ty.Var n) 0 (ty_depth-Var n) low)
variable_reads names (suc room) n small low = record {
  starts = rw (ty_text-Var names n) (variable_starts 39 refl (decimal n));
  reads = λ rest ends.
      rw (ty_text-Var names n) (after_there (codes "'") _ _ (decimal n ++ rest)
      ∙ bind_goes small_at _ (decimal n ++ rest) n rest (number_complete (2 ^ 32) (lit≤ tt) n rest small (ends_number rest ends)));
}

datatype_reads : (names : Names) → HasNames names → (room d : ℕ) (args : List Ty) → IsNumberOf names.datatypes d → ((inner : ℕ) → tys_depth args ≤ inner → AllByRecursion (λ (t : Ty). IsRead Ends (ty_at names inner) (ty_text names t) t) args) → TypeReads names room (ty.Con d args)
unfolding ty_at datatype_at pure
datatype_reads names has zero d args is each low = absurd (too_deep names (ty.Con d args) (tys_depth args) (ty_depth-Con d args) low)
datatype_reads names has (suc room) d args is each low =
    let name : List ℕ = name_at names.datatypes d in
    let shape : List ℕ = in_angles (map (ty_text names) args) in
    let w : IsWord is_ascii_uppercase name = has.upper d is in
    let deep : 1 + tys_depth args ≤ suc room = subst (λ k. k ≤ suc room) (ty_depth-Con d args) low in
    let inner : tys_depth args ≤ room = omega arith in
    record {
      starts = rw (ty_text-Con names d args) (starts_more name shape (upper_starts name w));
      reads = λ rest ends.
          rw (ty_text-Con names d args, append_assoc name shape rest) (after_absent (codes "'") _ _ (name ++ (shape ++ rest)) (word_not 39 is_ascii_uppercase no_quote name (shape ++ rest) w)
          ∙ bind_goes word_at _ (name ++ (shape ++ rest)) name (shape ++ rest) (word_read is_ascii_uppercase name (shape ++ rest) w (after_name (map (ty_text names) args) rest (ends_word rest ends)))
          ∙ choice_other (λ (z : List ℕ). bytes_eq name (codes "Word")) _ _ (shape ++ rest) (has.no_word d is)
          ∙ bind_goes (lift (number_named names.datatypes name)) _ (shape ++ rest) d (shape ++ rest) (lift_some (number_named names.datatypes name) d (shape ++ rest) (named_number names.datatypes has.datatypes d is))
          ∙ bind_goes (angles_at (ty_at names room)) _ (shape ++ rest) args rest (angles_complete names room args rest (each room inner) (ends_less rest ends)));
    }

mutual
  type_layer : (names : Names) → HasNames names → (room : ℕ) (y : Ty-F Ty) → IsSpellableType names y → TypeReads names room (roll-Ty y)
  type_layer names has room Ty-F.Word word = subst (TypeReads names room) (sym ty.rolls-Word) (word_reads names room)
  type_layer names has room (Ty-F.Var n) (variable small) = subst (TypeReads names room) (sym (ty.rolls-Var n)) (variable_reads names room n small)
  type_layer names has room (Ty-F.Con d args) (datatype is each) = subst (TypeReads names room) (sym (ty.rolls-Con d args)) (datatype_reads names has room d args is (λ inner low. types_each names has inner args each low))

  types_each : (names : Names) → HasNames names → (room : ℕ) (ts : List Ty) → AreSpellableTypes names ts → tys_depth ts ≤ room → AllByRecursion (λ (t : Ty). IsRead Ends (ty_at names room) (ty_text names t) t) ts
  types_each names has room [] no_types low = tt
  types_each names has room (t ∷ ts) (more_types is each) low =
      let one : ty_depth t ≤ room = omega arith in
      let others : tys_depth ts ≤ room = omega arith in
      (subst (TypeReads names room) (roll-out-Ty t) (type_layer names has room (out-Ty t) is) one, types_each names has room ts each others)

-- a type is read where its text stands
pub ty_complete : (names : Names) → HasNames names → (room : ℕ) (t : Ty) → TypeIn names room t → IsRead Ends (ty_at names room) (ty_text names t) t
ty_complete names has room t is = subst (TypeReads names room) (roll-out-Ty t) (type_layer names has room (out-Ty t) is.spellable) is.depth

pub tys_complete : (names : Names) → HasNames names → (room : ℕ) (ts : List Ty) → AreSpellableTypes names ts → tys_depth ts ≤ room → AllByRecursion (λ (t : Ty). IsRead Ends (ty_at names room) (ty_text names t) t) ts
tys_complete names has room ts is low = types_each names has room ts is low

-- The head of a function was found by its name.
pub record IsHead (names : Names) (text : List ℕ) (h : Head) : Type 0 where
  pub spellable : IsSpellableHead names h
  pub whole : text ≡ head_text names h

head_of : (names : Names) (text : List ℕ) (h : Head) (b c : Bool) → bytes_eq text (codes "wle") ≡ b → bytes_eq text (codes "weq") ≡ c → cond b (Some Wle) (cond c (Some Weq) (option_and_then definition_of (number_named names.defs text))) ≡ Some h → IsHead names text h
head_of names text h true c is_wle is_weq e =
    let q : Wle ≡ h = cc in
    record { spellable = subst (IsSpellableHead names) q tt; whole = (bytes_eq-Decides text (codes "wle")).0 is_wle ∙ ap (head_text names) q }
head_of names text h false true is_wle is_weq e =
    let q : Weq ≡ h = cc in
    record { spellable = subst (IsSpellableHead names) q tt; whole = (bytes_eq-Decides text (codes "weq")).0 is_weq ∙ ap (head_text names) q }
head_of names text h false false is_wle is_weq e =
    let b : Both (number_named names.defs text) definition_of h = and_then_some (number_named names.defs text) definition_of h e in
    let q : Def b.value ≡ h = let s : Some (Def b.value) ≡ Some h = b.second in cc in
    let is : IsNamed names.defs text b.value = number_found names.defs text b.value b.first in
    record { spellable = subst (IsSpellableHead names) q is.number; whole = is.name ∙ ap (head_text names) q }

pub head_named_found : (names : Names) (text : List ℕ) (h : Head) → head_named names text ≡ Some h → IsHead names text h
unfolding head_named
head_named_found names text h e = head_of names text h (bytes_eq text (codes "wle")) (bytes_eq text (codes "weq")) refl refl e

pub definition_named : (names : Names) → HasNames names → (n : ℕ) → IsNumberOf names.defs n → head_named names (name_at names.defs n) ≡ Some (Def n)
unfolding head_named
definition_named names has n is = rw (has.no_wle n is, has.no_weq n is, named_number names.defs has.defs n is) refl

-- A head was read.
pub record ReadHead (names : Names) (text : List ℕ) (h : Head) (rest : List ℕ) : Type 0 where
  pub spellable : IsSpellableHead names h
  pub whole : text ≡ head_text names h ++ rest

pub head_sound : (names : Names) (text rest : List ℕ) (h : Head) → head_at names text ≡ Some (h, rest) → ReadHead names text h rest
unfolding head_at
head_sound names text rest h e = elim (after_found (codes "%") _ _ text h rest e) [
  | inl there ↦
      let b = bind_found small_at _ there.behind h rest there.found in
      let q : Equal (FnVar b.value) h b.middle rest = pure_found (FnVar b.value) h b.middle rest b.second in
      let r : ReadNumber (2 ^ 32) there.behind b.value b.middle = number_sound (2 ^ 32) (lit≤ tt) there.behind b.middle b.value b.first in
      record {
        spellable = subst (IsSpellableHead names) q.value r.small;
        whole = there.whole ∙ ap (λ z. codes "%" ++ z) (r.whole ∙ ap (λ z. decimal b.value ++ z) q.rest) ∙ ap (λ z. z ++ rest) (ap (head_text names) q.value);
      }
  | inr f ↦
      let b = bind_found word_at _ text h rest f in
      let l : Lifted (head_named names b.value) h b.middle rest = lift_found (head_named names b.value) h b.middle rest b.second in
      let r : IsRun is_name_part text b.value b.middle = run_found is_name_part text b.value b.middle b.first in
      let is : IsHead names b.value h = head_named_found names b.value h l.some in
      record { spellable = is.spellable; whole = r.whole ∙ ap (λ z. z ++ b.middle) is.whole ∙ ap (λ z. head_text names h ++ z) l.rest_is }
]

pub no_percent : (c : ℕ) → is_ascii_lowercase c ≡ true → (37 == c) ≡ false
no_percent c e = grind (arith, nat_tests)

built_in : (names : Names) (name : List ℕ) (h : Head) (rest : List ℕ) → IsWord is_ascii_lowercase name → head_named names name ≡ Some h → begins is_name_part rest ≡ false → head_at names (name ++ rest) ≡ Some (h, rest)
unfolding head_at
built_in names name h rest w named ends =
    after_absent (codes "%") _ _ (name ++ rest) (word_not 37 is_ascii_lowercase no_percent name rest w)
    ∙ bind_goes word_at _ (name ++ rest) name rest (word_read is_ascii_lowercase name rest w ends)
    ∙ lift_some (head_named names name) h rest named

pub wle_word : IsWord is_ascii_lowercase (codes "wle")
wle_word = record { first = 119; others = codes "le"; whole = refl; begins_so = refl; parts = (refl, (refl, (refl, tt))) }

pub weq_word : IsWord is_ascii_lowercase (codes "weq")
weq_word = record { first = 119; others = codes "eq"; whole = refl; begins_so = refl; parts = (refl, (refl, (refl, tt))) }

pub wle_named : (names : Names) → head_named names (codes "wle") ≡ Some Wle
unfolding head_named
wle_named names = refl

pub weq_named : (names : Names) → head_named names (codes "weq") ≡ Some Weq
unfolding head_named
weq_named names = refl

variable_head : (names : Names) (n : ℕ) (rest : List ℕ) → n < 2 ^ 32 → begins is_name_part rest ≡ false → head_at names ((codes "%" ++ decimal n) ++ rest) ≡ Some (FnVar n, rest)
unfolding head_at pure
variable_head names n rest small ends =
    after_there (codes "%") _ _ (decimal n ++ rest)
    ∙ bind_goes small_at _ (decimal n ++ rest) n rest (number_complete (2 ^ 32) (lit≤ tt) n rest small (word_ends_number rest ends))

-- a head is read where its text stands
pub head_complete : (names : Names) → HasNames names → (h : Head) (rest : List ℕ) → IsSpellableHead names h → begins is_name_part rest ≡ false → head_at names (head_text names h ++ rest) ≡ Some (h, rest)
head_complete names has (Def n) rest is ends = built_in names (name_at names.defs n) (Def n) rest (has.lower n is) (definition_named names has n is) ends
head_complete names has Wle rest is ends = built_in names (codes "wle") Wle rest wle_word (wle_named names) ends
head_complete names has Weq rest is ends = built_in names (codes "weq") Weq rest weq_word (weq_named names) ends
head_complete names has (FnVar n) rest is ends = variable_head names n rest is ends

-- A head begins with a small letter or a `%`.
pub record StartsHead (text : List ℕ) : Type 0 where
  pub first : ℕ
  pub others : List ℕ
  pub whole : text ≡ first ∷ others
  pub begins_so : (is_ascii_lowercase first ≡ true) ⊎ (first ≡ 37)

lower_head : (text : List ℕ) → IsWord is_ascii_lowercase text → StartsHead text
lower_head text w = record { first = w.first; others = w.others; whole = w.whole; begins_so = inl w.begins_so }

pub head_starts : (names : Names) → HasNames names → (h : Head) → IsSpellableHead names h → StartsHead (head_text names h)
head_starts names has (Def n) is = lower_head (name_at names.defs n) (has.lower n is)
head_starts names has Wle is = lower_head (codes "wle") wle_word
head_starts names has Weq is = lower_head (codes "weq") weq_word
head_starts names has (FnVar n) is = record { first = 37; others = decimal n; whole = refl; begins_so = inr refl }

pub starts_head_more : (text behind : List ℕ) → StartsHead text → StartsHead (text ++ behind)
starts_head_more text behind starts = record { first = starts.first; others = starts.others ++ behind; whole = ap (λ z. z ++ behind) starts.whole; begins_so = starts.begins_so }

head_item : (c : ℕ) → (is_ascii_lowercase c ≡ true) ⊎ (c ≡ 37) → begins_item c ≡ true
head_item c (inl is) = lower_item c is
head_item c (inr is) = rw is refl

pub starts_of_head : (text : List ℕ) → StartsHead text → Starts text
starts_of_head text starts = record { first = starts.first; others = starts.others; whole = starts.whole; begins_so = head_item starts.first starts.begins_so }

-- The function is one of a row, whose types have so many levels.
pub record FunctionIn (names : Names) (room : ℕ) (f : Fun) : Type 0 where
  pub spellable : IsSpellableFunction names f
  pub depth : tys_depth f.types ≤ room

-- a function that was read is one of a row, and stood there
pub fun_sound : (names : Names) (room : ℕ) → Sound (FunctionIn names room) (fun_text names) (fun_at names room)
unfolding fun_at
fun_sound names room text rest f e =
    let b = bind_found (head_at names) _ text f rest e in
    let c = bind_found (angles_at (ty_at names room)) _ b.middle f rest b.second in
    let q : Equal (record { head = b.value; types = c.value }) f c.middle rest = pure_found (record { head = b.value; types = c.value }) f c.middle rest c.second in
    let h : ReadHead names text b.value b.middle = head_sound names text b.middle b.value b.first in
    let o = angles_sound names room (ty_sound names room) b.middle c.middle c.value c.first in
    let all = types_in names room c.value o.each in
    let shape : List ℕ = in_angles (map (ty_text names) c.value) in
    record {
      is = subst (FunctionIn names room) q.value (record { spellable = record { head = h.spellable; types = all.0 }; depth = all.1 });
      whole = h.whole ∙ ap (λ z. head_text names b.value ++ z) (o.whole ∙ ap (λ z. shape ++ z) q.rest) ∙ sym (append_assoc (head_text names b.value) shape rest) ∙ ap (λ z. z ++ rest) (ap (fun_text names) q.value);
    }

-- a function is read where its text stands, and neither a part of a name nor a `<` follows
pub fun_reads : (names : Names) → HasNames names → (room : ℕ) (f : Fun) → FunctionIn names room f → (rest : List ℕ) → begins is_name_part rest ≡ false → past (codes "<") rest ≡ None → fun_at names room (fun_text names f ++ rest) ≡ Some (f, rest)
unfolding fun_at pure
fun_reads names has room f is rest ends absent =
    let front : List ℕ = head_text names f.head in
    let shape : List ℕ = in_angles (map (ty_text names) f.types) in
    rw (append_assoc front shape rest) (bind_goes (head_at names) _ (front ++ (shape ++ rest)) f.head (shape ++ rest) (head_complete names has f.head (shape ++ rest) is.spellable.head (after_name (map (ty_text names) f.types) rest ends))
    ∙ bind_goes (angles_at (ty_at names room)) _ (shape ++ rest) f.types rest (angles_complete names room f.types rest (tys_complete names has room f.types is.spellable.types is.depth) absent))

pub fun_starts : (names : Names) → HasNames names → (room : ℕ) (f : Fun) → FunctionIn names room f → StartsHead (fun_text names f)
fun_starts names has room f is = starts_head_more (head_text names f.head) (in_angles (map (ty_text names) f.types)) (head_starts names has f.head is.spellable.head)

pub fun_complete : (names : Names) → HasNames names → (room : ℕ) (f : Fun) → FunctionIn names room f → IsRead Ends (fun_at names room) (fun_text names f) f
fun_complete names has room f is = record { reads = λ rest ends. fun_reads names has room f is rest (ends_word rest ends) (ends_less rest ends); starts = starts_of_head (fun_text names f) (fun_starts names has room f is) }
