-- Terms are read as they are written.
use Rattle.std.proofs.Common.{◌≡◌, ℕ, zero, suc, ◌+◌, ◌<◌, ◌≤◌, ◌^◌, ◌⊎◌, max, Bool, true, false, List, [], ◌∷◌, ◌++◌, map, Option, Some, None, refl, sym, ap, ◌∙◌, subst, inl, inr, append_assoc, arith, codes, ◌==◌, lit≤}
use Rattle.std.specs.List.{AllByRecursion}
use Rattle.std.specs.Char.{is_ascii_digit, is_ascii_uppercase, is_ascii_lowercase}
use Rattle.std.specs.Fmt.{decimal}
use Rattle.std.proofs.lemmas.Bool.Decides.{nat_tests}
use Rattle.std.proofs.lemmas.List.{map-append, append-nil}
use Rattle.px_base.specs.Largest.{largest}
use Rattle.px_base.specs.NameForms.{is_name_part}
use Rattle.px_base.specs.declared.names.Names.{Names}
use Rattle.px_terms.specs.declared.types.Ty.{Ty}
use Rattle.px_terms.specs.declared.types.Fun.{Fun}
use Rattle.px_terms.specs.declared.term.Term.{Term, out-Term}
use Rattle.px_terms.specs.declared.term.Term.TheVariants as term
use Rattle.px_terms.specs.declared.term.Term.TheViews.{roll-Term, roll-out-Term}
use Rattle.px_terms.specs.declared.term.Term.TheOpen.{Term-F}
use Rattle.px_terms.specs.Types.{tys_depth, fun_depth}
use Rattle.px_terms.specs.Terms.{term_depth, terms_depth}
use Rattle.px_terms.specs.TreeEquations.{term_depth-Free, term_depth-Lit, term_depth-Con, term_depth-Call}
use Rattle.px_derive.specs.declared.terms.Argument.{Argument}
use Rattle.px_derive.specs.declared.terms.Argument.TheVariants.{Function, Value}
use Rattle.px_derive.specs.declared.terms.Arguments.{Arguments}
use Rattle.px_derive.specs.Spelling.{name_at, constructors_at, commas, in_angles, in_parentheses, ty_text, fun_text, term_text}
use Rattle.px_derive.specs.Spellable.{IsConstructorOf, AreSpellableTypes, IsSpellableFunction, IsSpellableTerm, AreSpellableTerms, free, literal, construction, call, no_terms, more_terms}
use Rattle.px_derive.specs.Readers.{pure, lift, bind, past, choice, begins, gather, list_at, opened_at, closed_at}
use Rattle.px_derive.specs.Reading.{small_at, literal_at, word_at, constructor_named, angles_at, ty_at, fun_at, no_arguments, function_added, argument_added, term_of, value_at, values_at, fields_at, construction_at, some_arguments_at, arguments_at, called_at, function_at, argument_at, term_at}
use Rattle.px_derive.proofs.Fronts.{run_found, IsRun}
use Rattle.px_derive.proofs.Found.{Equal, bind_found, bind_goes, Lifted, lift_found, lift_some, pure_found, nothing_found, There, after_found, after_there, after_absent, choice_found, choice_first, choice_other}
use Rattle.px_derive.proofs.NumberFacts.{ReadNumber, number_sound, number_complete, number_begins}
use Rattle.px_derive.proofs.ListFacts.{Read, Sound, IsRead, begins_item, starts_more, number_starts, Gathers, opened_sound, opened_complete, Closed, closed_sound, closed_complete}
use Rattle.px_derive.proofs.NameFacts.{constructor_of, named_constructor, IsNamedConstructor, constructor_found}
use Rattle.px_derive.proofs.TextEquations.{term_text-Free, term_text-Lit, term_text-Con, term_text-Call}
use Rattle.px_derive.proofs.TypesRead.{Ends, ends_word, ends_number, ends_less, ends_parenthesis, IsWord, upper_starts, word_not, word_read, HasNames, TypeIn, types_in, angles_sound, ty_sound, angles_complete, tys_complete, after_name, StartsHead, starts_of_head, FunctionIn, fun_sound, fun_reads, fun_starts}

-- The term is one of a row, with so many levels.
pub record TermIn (names : Names) (room : ℕ) (t : Term) : Type 0 where
  pub spellable : IsSpellableTerm names (out-Term t)
  pub depth : term_depth t ≤ room

-- the argument is one of a row, with so many levels
abbrev pub ArgumentIn : Names → ℕ → Argument → Type 0
ArgumentIn names room (Function f) = IsSpellableFunction names f × (fun_depth f ≤ room)
ArgumentIn names room (Value t) = TermIn names room t

-- an argument's text
abbrev pub argument_text : Names → Argument → List ℕ
argument_text names (Function f) = fun_text names f
argument_text names (Value t) = term_text names t

-- all arguments in a list
abbrev pub arguments_list : Arguments → List Argument
arguments_list all = map (λ (f : Fun). Function f) all.funs ++ map (λ (t : Term). Value t) all.args

function_adds : (funs : List Fun) (args : List Term) (f : Fun) (now : Arguments) → function_added funs args f ≡ Some now → arguments_list now ≡ arguments_list (record { funs = funs; args = args }) ++ Function f ∷ []
function_adds funs [] f now e =
    let q : record { funs = funs ++ f ∷ []; args = [] } ≡ now = cc in
    ap arguments_list (sym q) ∙ append-nil (map (λ (g : Fun). Function g) (funs ++ f ∷ [])) ∙ map-append (λ (g : Fun). Function g) funs (f ∷ []) ∙ ap (λ (zs : List Argument). zs ++ Function f ∷ []) (sym (append-nil (map (λ (g : Fun). Function g) funs)))
function_adds funs (t ∷ ts) f now e = absurd cc

argument_adds : (all now : Arguments) (a : Argument) → argument_added all a ≡ Some now → arguments_list now ≡ arguments_list all ++ a ∷ []
argument_adds all now (Function f) e = function_adds all.funs all.args f now e
argument_adds all now (Value t) e =
    let q : record { funs = all.funs; args = all.args ++ t ∷ [] } ≡ now = cc in
    ap arguments_list (sym q) ∙ ap (λ (zs : List Argument). map (λ (g : Fun). Function g) all.funs ++ zs) (map-append (λ (u : Term). Value u) all.args (t ∷ [])) ∙ sym (append_assoc (map (λ (g : Fun). Function g) all.funs) (map (λ (u : Term). Value u) all.args) (Value t ∷ []))

-- functions and then terms are split in one way
abbrev values : List Term → List Argument
values ts = map (λ (t : Term). Value t) ts

abbrev functions : List Fun → List Argument
functions fs = map (λ (f : Fun). Function f) fs

one_values : (ts us : List Term) → values ts ≡ values us → ts ≡ us
one_values [] [] e = refl
one_values [] (u ∷ us) e = absurd cc
one_values (t ∷ ts) [] e = absurd cc
one_values (t ∷ ts) (u ∷ us) e =
    let head : t ≡ u = let h : Value t ≡ Value u = cc in cc in
    let rest : values ts ≡ values us = cc in
    let same : ts ≡ us = one_values ts us rest in
    cc

one_split : (fs gs : List Fun) (ts us : List Term) → functions fs ++ values ts ≡ functions gs ++ values us → (fs ≡ gs) × (ts ≡ us)
one_split [] [] ts us e = (refl, one_values ts us e)
one_split [] (g ∷ gs) [] us e = absurd cc
one_split [] (g ∷ gs) (t ∷ ts) us e = let h : Value t ≡ Function g = cc in absurd cc
one_split (f ∷ fs) [] ts [] e = absurd cc
one_split (f ∷ fs) [] ts (u ∷ us) e = let h : Function f ≡ Value u = cc in absurd cc
one_split (f ∷ fs) (g ∷ gs) ts us e =
    let head : f ≡ g = let h : Function f ≡ Function g = cc in cc in
    let rest : functions fs ++ values ts ≡ functions gs ++ values us = cc in
    let same = one_split fs gs ts us rest in
    let lists : fs ≡ gs = same.0 in
    (cc, same.1)

one_arguments : (all final : Arguments) → arguments_list all ≡ arguments_list final → all ≡ final
one_arguments all final e =
    let s = one_split all.funs final.funs all.args final.args e in
    λ i. record { funs = s.0 i; args = s.1 i }

-- a term is never followed by a function
no_function : (ts : List Term) (f : Fun) (xs : List Argument) (gs : List Fun) (us : List Term) (t : Term) → functions gs ++ values us ≡ (Value t ∷ values ts) ++ Function f ∷ xs → ⊥
no_function ts f xs (g ∷ gs) us t e = let h : Function g ≡ Value t = cc in cc
no_function ts f xs [] [] t e = cc
no_function [] f xs [] (u ∷ []) t e = cc
no_function [] f xs [] (u ∷ w ∷ us) t e = let h : Value w ≡ Function f = cc in cc
no_function (s ∷ ts) f xs [] (u ∷ us) t e = no_function ts f xs [] us s cc

function_goes : (funs gs : List Fun) (args us : List Term) (f : Fun) (xs : List Argument) → functions gs ++ values us ≡ (functions funs ++ values args) ++ Function f ∷ xs → (now : Arguments) × (function_added funs args f ≡ Some now)
function_goes funs gs [] us f xs e = (record { funs = funs ++ f ∷ []; args = [] }, refl)
function_goes funs gs (t ∷ ts) us f xs e = absurd (after_functions funs gs us e)
  where
    after_functions : (fs gs : List Fun) (us : List Term) → functions gs ++ values us ≡ (functions fs ++ (Value t ∷ values ts)) ++ Function f ∷ xs → ⊥
    after_functions [] gs us h = no_function ts f xs gs us t h
    after_functions (k ∷ fs) [] [] h = cc
    after_functions (k ∷ fs) [] (u ∷ us) h = let q : Value u ≡ Function k = cc in cc
    after_functions (k ∷ fs) (g ∷ gs) us h = after_functions fs gs us cc

argument_goes : (all final : Arguments) (a : Argument) (xs : List Argument) → arguments_list final ≡ arguments_list all ++ a ∷ xs → (now : Arguments) × (argument_added all a ≡ Some now)
argument_goes all final (Function f) xs e = function_goes all.funs final.funs all.args final.args f xs e
argument_goes all final (Value t) xs e = (record { funs = all.funs; args = all.args ++ t ∷ [] }, refl)

-- arguments are gathered
pub argument_gathers : Gathers argument_added arguments_list
argument_gathers = record { adds = argument_adds; goes_on = argument_goes; one = one_arguments }

terms_in : (names : Names) (room : ℕ) (ts : List Term) → AllByRecursion (TermIn names room) ts → AreSpellableTerms names ts × (terms_depth ts ≤ room)
terms_in names room [] each = (no_terms, omega arith)
terms_in names room (t ∷ ts) each =
    let others = terms_in names room ts each.1 in
    let one : term_depth t ≤ room = each.0.depth in
    let two : terms_depth ts ≤ room = others.1 in
    (more_terms each.0.spellable others.0, omega arith)

values_in : (names : Names) (room : ℕ) (ts : List Term) → AllByRecursion (ArgumentIn names room) (values ts) → AllByRecursion (TermIn names room) ts
values_in names room [] each = tt
values_in names room (t ∷ ts) each = (each.0, values_in names room ts each.1)

-- What is known of a call's arguments.
record CallIn (names : Names) (room : ℕ) (funs : List Fun) (args : List Term) : Type 0 where
  funs_spellable : AllByRecursion (IsSpellableFunction names) funs
  funs_depth : largest (map fun_depth funs) ≤ room
  args_in : AllByRecursion (TermIn names room) args

call_in : (names : Names) (room : ℕ) (funs : List Fun) (args : List Term) → AllByRecursion (ArgumentIn names room) (functions funs ++ values args) → CallIn names room funs args
call_in names room [] args each = record { funs_spellable = tt; funs_depth = omega arith; args_in = values_in names room args each }
call_in names room (f ∷ fs) args each =
    let others = call_in names room fs args each.1 in
    let one : fun_depth f ≤ room = each.0.1 in
    let two : largest (map fun_depth fs) ≤ room = others.funs_depth in
    record { funs_spellable = (each.0.0, others.funs_spellable); funs_depth = omega arith; args_in = others.args_in }

map_texts : (names : Names) (funs : List Fun) (args : List Term) → map (argument_text names) (functions funs ++ values args) ≡ map (fun_text names) funs ++ map (term_text names) args
map_texts names [] [] = refl
map_texts names [] (t ∷ ts) = ap (λ zs. term_text names t ∷ zs) (map_texts names [] ts)
map_texts names (f ∷ fs) args = ap (λ zs. fun_text names f ∷ zs) (map_texts names fs args)

free_in : (names : Names) (room n : ℕ) → n < 2 ^ 32 → TermIn names (suc room) (term.Free n)
free_in names room n small = record { spellable = rw (term.outs-Free n) (free small); depth = rw (term_depth-Free n) (omega arith) }

literal_in : (names : Names) (room w : ℕ) → w < 2 ^ 64 → TermIn names (suc room) (term.Lit w)
literal_in names room w small = record { spellable = rw (term.outs-Lit w) (literal small); depth = rw (term_depth-Lit w) (omega arith) }

construction_in : (names : Names) (room d k : ℕ) (types : List Ty) (fields : List Term) → IsConstructorOf names d k → AllByRecursion (TypeIn names room) types → AllByRecursion (TermIn names room) fields → TermIn names (suc room) (term.Con d k types fields)
construction_in names room d k types fields is each each_field =
    let all = types_in names room types each in
    let every = terms_in names room fields each_field in
    let one : tys_depth types ≤ room = all.1 in
    let two : terms_depth fields ≤ room = every.1 in
    record { spellable = rw (term.outs-Con d k types fields) (construction is all.0 every.0); depth = rw (term_depth-Con d k types fields) (omega arith) }

call_term_in : (names : Names) (room : ℕ) (f : Fun) (funs : List Fun) (args : List Term) → FunctionIn names room f → CallIn names room funs args → TermIn names (suc room) (term.Call f funs args)
call_term_in names room f funs args is inner =
    let every = terms_in names room args inner.args_in in
    let one : tys_depth f.types ≤ room = is.depth in
    let two : largest (map fun_depth funs) ≤ room = inner.funs_depth in
    let three : terms_depth args ≤ room = every.1 in
    record { spellable = rw (term.outs-Call f funs args) (call is.spellable inner.funs_spellable every.0); depth = rw (term_depth-Call f funs args) (omega arith) }

term_is : (a : Argument) (t : Term) → term_of a ≡ Some t → a ≡ Value t
term_is (Function f) t e = absurd cc
term_is (Value u) t e = let q : u ≡ t = cc in ap Value q

-- a term among arguments
pub value_sound : (names : Names) (room : ℕ) (item : List ℕ → Option (Argument × List ℕ)) → Sound (ArgumentIn names room) (argument_text names) item → Sound (TermIn names room) (term_text names) (value_at item)
unfolding value_at
value_sound names room item sound text rest t e =
    let b = bind_found item _ text t rest e in
    let l : Lifted (term_of b.value) t b.middle rest = lift_found (term_of b.value) t b.middle rest b.second in
    let r = sound text b.middle b.value b.first in
    let q : b.value ≡ Value t = term_is b.value t l.some in
    record { is = subst (ArgumentIn names room) q r.is; whole = r.whole ∙ ap (λ (a : Argument). argument_text names a ++ b.middle) q ∙ ap (λ z. term_text names t ++ z) l.rest_is }

module _ (names : Names) (room : ℕ) (sound : Sound (ArgumentIn names room) (argument_text names) (argument_at names room)) where
  construction_sound : Sound (ArgumentIn names (suc room)) (argument_text names) (construction_at names (ty_at names room) (argument_at names room))
  unfolding construction_at fields_at values_at
  construction_sound text rest a e =
      let w = bind_found word_at _ text a rest e in
      let r : IsRun is_name_part text w.value w.middle = run_found is_name_part text w.value w.middle w.first in
      let b = bind_found (lift (constructor_named names.cons w.value)) _ w.middle a rest w.second in
      let l : Lifted (constructor_named names.cons w.value) b.value w.middle b.middle = lift_found (constructor_named names.cons w.value) b.value w.middle b.middle b.first in
      let is : IsNamedConstructor names w.value b.value = constructor_found names w.value b.value l.some in
      let c = bind_found (angles_at (ty_at names room)) _ b.middle a rest b.second in
      let o = angles_sound names room (ty_sound names room) b.middle c.middle c.value c.first in
      let d = bind_found (opened_at (codes "(") (list_at 44 (value_at (argument_at names room))) (codes ")")) _ c.middle a rest c.second in
      let p = opened_sound (TermIn names room) (term_text names) (value_at (argument_at names room)) (value_sound names room (argument_at names room) sound) 40 41 c.middle d.middle d.value d.first in
      let made : Term = term.Con b.value.datatype b.value.con c.value d.value in
      let q : Equal (Value made) a d.middle rest = pure_found (Value made) a d.middle rest d.second in
      let name : List ℕ = name_at (constructors_at names b.value.datatype) b.value.con in
      let types : List ℕ = in_angles (map (ty_text names) c.value) in
      let fields : List ℕ = in_parentheses (map (term_text names) d.value) in
      record {
        is = subst (ArgumentIn names (suc room)) q.value (construction_in names room b.value.datatype b.value.con c.value d.value is.numbers o.each p.each);
        whole =
            r.whole ∙ ap (λ z. z ++ w.middle) is.name ∙ ap (λ z. name ++ z) (l.rest_is ∙ o.whole ∙ ap (λ z. types ++ z) (p.whole ∙ ap (λ z. fields ++ z) q.rest) ∙ sym (append_assoc types fields rest))
            ∙ sym (append_assoc name (types ++ fields) rest) ∙ ap (λ z. z ++ rest) (sym (term_text-Con names b.value.datatype b.value.con c.value d.value) ∙ ap (argument_text names) q.value);
      }

  arguments_sound : (text rest : List ℕ) (all : Arguments) → arguments_at (argument_at names room) text ≡ Some (all, rest) → Closed arguments_list (ArgumentIn names room) (argument_text names) 41 text all rest
  unfolding arguments_at some_arguments_at
  arguments_sound text rest all e = closed_sound (argument_at names room) argument_added arguments_list argument_gathers (argument_text names) no_arguments refl 41 (ArgumentIn names room) sound text rest all e

  called_sound : (f : Fun) → FunctionIn names room f → (text rest : List ℕ) (a : Argument) → called_at (argument_at names room) f text ≡ Some (a, rest) → ArgumentIn names (suc room) a × (fun_text names f ++ text ≡ argument_text names a ++ rest)
  unfolding called_at
  called_sound f is text rest a e = elim (after_found (codes "(") _ _ text a rest e) [
    | inl there ↦
        let b = bind_found (arguments_at (argument_at names room)) _ there.behind a rest there.found in
        let c = arguments_sound there.behind b.middle b.value b.first in
        let made : Term = term.Call f b.value.funs b.value.args in
        let q : Equal (Value made) a b.middle rest = pure_found (Value made) a b.middle rest b.second in
        let front : List ℕ = fun_text names f in
        let list : List ℕ = commas (map (fun_text names) b.value.funs ++ map (term_text names) b.value.args) in
        let inner : there.behind ≡ (list ++ codes ")") ++ rest =
        c.whole ∙ ap (λ (zs : List (List ℕ)). commas zs ++ 41 ∷ b.middle) (map_texts names b.value.funs b.value.args) ∙ ap (λ z. list ++ 41 ∷ z) q.rest ∙ sym (append_assoc list (codes ")") rest) in (
          subst (ArgumentIn names (suc room)) q.value (call_term_in names room f b.value.funs b.value.args is (call_in names room b.value.funs b.value.args c.each)),
          ap (λ z. front ++ z) (there.whole ∙ ap (λ z. codes "(" ++ z) inner) ∙ sym (append_assoc front (codes "(" ++ (list ++ codes ")")) rest)
              ∙ ap (λ z. z ++ rest) (sym (term_text-Call names f b.value.funs b.value.args) ∙ ap (argument_text names) q.value),
        )
    | inr g ↦
        let q : Equal (Function f) a text rest = pure_found (Function f) a text rest g in
        let low : fun_depth f ≤ suc room = let d : tys_depth f.types ≤ room = is.depth in omega arith in (
          subst (ArgumentIn names (suc room)) q.value (is.spellable, low),
          ap (λ z. fun_text names f ++ z) q.rest ∙ ap (λ (b : Argument). argument_text names b ++ rest) q.value,
        )
  ]

  function_sound : Sound (ArgumentIn names (suc room)) (argument_text names) (function_at names room (argument_at names room))
  unfolding function_at
  function_sound text rest a e =
      let b = bind_found (fun_at names room) _ text a rest e in
      let r = fun_sound names room text b.middle b.value b.first in
      let c = called_sound b.value r.is b.middle rest a b.second in
      record { is = c.0; whole = r.whole ∙ c.1 }

-- an argument that was read is one of a row, and stood there
pub argument_sound : (names : Names) (room : ℕ) → Sound (ArgumentIn names room) (argument_text names) (argument_at names room)
unfolding argument_at
argument_sound names zero text rest a e = absurd (nothing_found a text rest e)
argument_sound names (suc room) text rest a e = by (after_found (codes "$") _ _ text a rest e) (argument_sound names room)
  where
    others : Sound (ArgumentIn names room) (argument_text names) (argument_at names room) → choice (begins is_ascii_uppercase) (construction_at names (ty_at names room) (argument_at names room)) (function_at names room (argument_at names room)) text ≡ Some (a, rest) → Read (ArgumentIn names (suc room)) (argument_text names) text a rest
    others sound f = elim (choice_found (begins is_ascii_uppercase) _ _ text a rest f) [
      | inl is ↦ construction_sound names room sound text rest a is.found
      | inr is ↦ function_sound names room sound text rest a is.found
    ]

    literals : bind literal_at (λ (w : ℕ). pure (Value (term.Lit w))) text ≡ Some (a, rest) → Read (ArgumentIn names (suc room)) (argument_text names) text a rest
    literals f =
        let b = bind_found literal_at _ text a rest f in
        let q : Equal (Value (term.Lit b.value)) a b.middle rest = pure_found (Value (term.Lit b.value)) a b.middle rest b.second in
        let r : ReadNumber (2 ^ 64) text b.value b.middle = number_sound (2 ^ 64) (lit≤ tt) text b.middle b.value b.first in
        record {
          is = subst (ArgumentIn names (suc room)) q.value (literal_in names room b.value r.small);
          whole = r.whole ∙ ap (λ z. decimal b.value ++ z) q.rest ∙ ap (λ z. z ++ rest) (sym (term_text-Lit names b.value) ∙ ap (argument_text names) q.value);
        }

    by : There (codes "$") (bind small_at (λ (n : ℕ). pure (Value (term.Free n)))) text a rest ⊎ (choice (begins is_ascii_digit) (bind literal_at (λ (w : ℕ). pure (Value (term.Lit w)))) (choice (begins is_ascii_uppercase) (construction_at names (ty_at names room) (argument_at names room)) (function_at names room (argument_at names room))) text ≡ Some (a, rest)) → Sound (ArgumentIn names room) (argument_text names) (argument_at names room) → Read (ArgumentIn names (suc room)) (argument_text names) text a rest
    by (inl there) sound =
        let b = bind_found small_at _ there.behind a rest there.found in
        let q : Equal (Value (term.Free b.value)) a b.middle rest = pure_found (Value (term.Free b.value)) a b.middle rest b.second in
        let r : ReadNumber (2 ^ 32) there.behind b.value b.middle = number_sound (2 ^ 32) (lit≤ tt) there.behind b.middle b.value b.first in
        record {
          is = subst (ArgumentIn names (suc room)) q.value (free_in names room b.value r.small);
          whole = there.whole ∙ ap (λ z. codes "$" ++ z) (r.whole ∙ ap (λ z. decimal b.value ++ z) q.rest) ∙ ap (λ z. z ++ rest) (sym (term_text-Free names b.value) ∙ ap (argument_text names) q.value);
        }
    by (inr f) sound = elim (choice_found (begins is_ascii_digit) _ _ text a rest f) [
      | inl is ↦ literals is.found
      | inr is ↦ others sound is.found
    ]

-- a term that was read is one of a row, and stood there
pub term_sound : (names : Names) (room : ℕ) → Sound (TermIn names room) (term_text names) (term_at names room)
unfolding term_at
term_sound names room = value_sound names room (argument_at names room) (argument_sound names room)

-- the term is read where its text stands, if it nests no deeper
abbrev pub TermReads : Names → ℕ → Term → Type 0
TermReads names room t = term_depth t ≤ room → IsRead Ends (argument_at names room) (term_text names t) (Value t)

-- a term among arguments is a term
pub value_complete : (names : Names) (room : ℕ) (t : Term) → IsRead Ends (argument_at names room) (term_text names t) (Value t) → IsRead Ends (term_at names room) (term_text names t) t
unfolding term_at value_at
value_complete names room t is = record {
  starts = is.starts;
  reads = λ rest ends. bind_goes (argument_at names room) _ (term_text names t ++ rest) (Value t) rest (is.reads rest ends) ∙ lift_some (term_of (Value t)) t rest refl;
}

pub terms_complete : (names : Names) (room : ℕ) (ts : List Term) → AllByRecursion (λ (t : Term). IsRead Ends (argument_at names room) (term_text names t) (Value t)) ts → AllByRecursion (λ (t : Term). IsRead Ends (term_at names room) (term_text names t) t) ts
terms_complete names room [] each = tt
terms_complete names room (t ∷ ts) each = (value_complete names room t each.0, terms_complete names room ts each.1)

too_deep : (names : Names) (t : Term) (d : ℕ) → term_depth t ≡ 1 + d → term_depth t ≤ 0 → ⊥
too_deep names t d e low = omega arith

no_dollar : (c : ℕ) → is_ascii_uppercase c ≡ true → (36 == c) ≡ false
no_dollar c e = grind (arith, nat_tests)

digit_no_dollar : (c : ℕ) → is_ascii_digit c ≡ true → (36 == c) ≡ false
digit_no_dollar c e = grind (arith, nat_tests)

upper_no_digit : (c : ℕ) → is_ascii_uppercase c ≡ true → is_ascii_digit c ≡ false
upper_no_digit c e = grind (arith, nat_tests)

lower_no_dollar : (c : ℕ) → is_ascii_lowercase c ≡ true → (36 == c) ≡ false
lower_no_dollar c e = grind (arith, nat_tests)

lower_no_digit : (c : ℕ) → is_ascii_lowercase c ≡ true → is_ascii_digit c ≡ false
lower_no_digit c e = grind (arith, nat_tests)

lower_no_upper : (c : ℕ) → is_ascii_lowercase c ≡ true → is_ascii_uppercase c ≡ false
lower_no_upper c e = grind (arith, nat_tests)

head_no_dollar : (c : ℕ) → (is_ascii_lowercase c ≡ true) ⊎ (c ≡ 37) → (36 == c) ≡ false
head_no_dollar c (inl is) = lower_no_dollar c is
head_no_dollar c (inr is) = rw is refl

head_no_digit : (c : ℕ) → (is_ascii_lowercase c ≡ true) ⊎ (c ≡ 37) → is_ascii_digit c ≡ false
head_no_digit c (inl is) = lower_no_digit c is
head_no_digit c (inr is) = rw is refl

head_no_upper : (c : ℕ) → (is_ascii_lowercase c ≡ true) ⊎ (c ≡ 37) → is_ascii_uppercase c ≡ false
head_no_upper c (inl is) = lower_no_upper c is
head_no_upper c (inr is) = rw is refl

free_reads : (names : Names) (room n : ℕ) → n < 2 ^ 32 → TermReads names room (term.Free n)
unfolding argument_at pure
free_reads names zero n small low = absurd (too_deep names (term.Free n) 0 (term_depth-Free n) low)
free_reads names (suc room) n small low = record {
  starts = rw (term_text-Free names n) (record { first = 36; others = decimal n; whole = refl; begins_so = refl });
  reads = λ rest ends.
      rw (term_text-Free names n) (after_there (codes "$") _ _ (decimal n ++ rest)
      ∙ bind_goes small_at _ (decimal n ++ rest) n rest (number_complete (2 ^ 32) (lit≤ tt) n rest small (ends_number rest ends)));
}

digit_not_dollar : (text : List ℕ) → begins is_ascii_digit text ≡ true → past (codes "$") text ≡ None
digit_not_dollar [] is = absurd cc
digit_not_dollar (c ∷ cs) is = rw (digit_no_dollar c is) refl

literal_reads : (names : Names) (room w : ℕ) → w < 2 ^ 64 → TermReads names room (term.Lit w)
unfolding argument_at pure
literal_reads names zero w small low = absurd (too_deep names (term.Lit w) 0 (term_depth-Lit w) low)
literal_reads names (suc room) w small low = record {
  starts = rw (term_text-Lit names w) (number_starts w small);
  reads = λ rest ends.
      rw (term_text-Lit names w) (after_absent (codes "$") _ _ (decimal w ++ rest) (digit_not_dollar (decimal w ++ rest) (number_begins w rest small))
      ∙ choice_first (begins is_ascii_digit) _ _ (decimal w ++ rest) (number_begins w rest small)
      ∙ bind_goes literal_at _ (decimal w ++ rest) w rest (number_complete (2 ^ 64) (lit≤ tt) w rest small (ends_number rest ends)));
}

-- what follows a constructor's name or its types: fields, or what ends it
after_types : (ts : List (List ℕ)) (rest : List ℕ) → Ends rest → past (codes "<") (in_parentheses ts ++ rest) ≡ None
after_types [] rest ends = ends_less rest ends
after_types (t ∷ ts) rest ends = refl

after_types_word : (ts : List (List ℕ)) (rest : List ℕ) → Ends rest → begins is_name_part (in_parentheses ts ++ rest) ≡ false
after_types_word [] rest ends = ends_word rest ends
after_types_word (t ∷ ts) rest ends = refl

begins_first : (class : ℕ → Bool) (text rest : List ℕ) (first : ℕ) (others : List ℕ) (b : Bool) → text ≡ first ∷ others → class first ≡ b → begins class (text ++ rest) ≡ b
begins_first class text rest first others b whole is = rw (whole) is

module _ (names : Names) (has : HasNames names) (room : ℕ) where
  construction_reads : (d k : ℕ) (types : List Ty) (fields : List Term) → IsConstructorOf names d k → AreSpellableTypes names types → tys_depth types ≤ room → AllByRecursion (λ (t : Term). IsRead Ends (argument_at names room) (term_text names t) (Value t)) fields → (rest : List ℕ) → Ends rest →
      construction_at names (ty_at names room) (argument_at names room) (name_at (constructors_at names d) k ++ (in_angles (map (ty_text names) types) ++ (in_parentheses (map (term_text names) fields) ++ rest))) ≡ Some (Value (term.Con d k types fields), rest)
  unfolding construction_at fields_at values_at value_at term_at pure
  construction_reads d k types fields is spellable low each rest ends =
      let name : List ℕ = name_at (constructors_at names d) k in
      let angles : List ℕ = in_angles (map (ty_text names) types) in
      let parentheses : List ℕ = in_parentheses (map (term_text names) fields) in
      let left : List ℕ = parentheses ++ rest in
      let w : IsWord is_ascii_uppercase name = has.upper_con d k is in
      bind_goes word_at _ (name ++ (angles ++ left)) name (angles ++ left) (word_read is_ascii_uppercase name (angles ++ left) w (after_name (map (ty_text names) types) left (after_types_word (map (term_text names) fields) rest ends)))
      ∙ bind_goes (lift (constructor_named names.cons name)) _ (angles ++ left) (constructor_of d k) (angles ++ left) (lift_some (constructor_named names.cons name) (constructor_of d k) (angles ++ left) (named_constructor names has.constructors d k is))
      ∙ bind_goes (angles_at (ty_at names room)) _ (angles ++ left) types left (angles_complete names room types left (tys_complete names has room types spellable low) (after_types (map (term_text names) fields) rest ends))
      ∙ bind_goes (opened_at (codes "(") (list_at 44 (value_at (argument_at names room))) (codes ")")) _ left fields rest (opened_complete (term_text names) (term_at names room) Ends (λ z. refl) 40 41 (λ z. refl) (λ z. refl) fields rest (terms_complete names room fields each) (ends_parenthesis rest ends))

  -- a function that is no call is read where its text stands
  pub function_reads : (f : Fun) → FunctionIn names room f → (rest : List ℕ) → Ends rest → function_at names room (argument_at names room) (fun_text names f ++ rest) ≡ Some (Function f, rest)
  unfolding function_at called_at pure
  function_reads f is rest ends =
      bind_goes (fun_at names room) _ (fun_text names f ++ rest) f rest (fun_reads names has room f is rest (ends_word rest ends) (ends_less rest ends))
      ∙ after_absent (codes "(") _ _ rest (ends_parenthesis rest ends)

  arguments_each : (funs : List Fun) (args : List Term) → AllByRecursion (λ (f : Fun). IsRead Ends (argument_at names room) (fun_text names f) (Function f)) funs → AllByRecursion (λ (t : Term). IsRead Ends (argument_at names room) (term_text names t) (Value t)) args → AllByRecursion (λ (a : Argument). IsRead Ends (argument_at names room) (argument_text names a) a) (functions funs ++ values args)
  arguments_each [] [] each_fun each = tt
  arguments_each [] (t ∷ ts) each_fun each = (each.0, arguments_each [] ts each_fun each.1)
  arguments_each (f ∷ fs) args each_fun each = (each_fun.0, arguments_each fs args each_fun.1 each)

  call_reads : (f : Fun) (funs : List Fun) (args : List Term) → FunctionIn names room f → AllByRecursion (λ (g : Fun). IsRead Ends (argument_at names room) (fun_text names g) (Function g)) funs → AllByRecursion (λ (t : Term). IsRead Ends (argument_at names room) (term_text names t) (Value t)) args → (rest : List ℕ) →
      function_at names room (argument_at names room) (fun_text names f ++ (codes "(" ++ (commas (map (fun_text names) funs ++ map (term_text names) args) ++ codes ")" ++ rest))) ≡ Some (Value (term.Call f funs args), rest)
  unfolding function_at called_at arguments_at some_arguments_at pure
  call_reads f funs args is each_fun each rest =
      let list : List ℕ = commas (map (fun_text names) funs ++ map (term_text names) args) in
      let all : Arguments = record { funs = funs; args = args } in
      let inner : closed_at no_arguments (gather 44 (argument_at names room) argument_added no_arguments) (41 ∷ []) (list ++ 41 ∷ rest) ≡ Some (all, rest) =
      ap (λ (zs : List (List ℕ)). closed_at no_arguments (gather 44 (argument_at names room) argument_added no_arguments) (41 ∷ []) (commas zs ++ 41 ∷ rest)) (sym (map_texts names funs args))
      ∙ closed_complete (argument_at names room) argument_added arguments_list argument_gathers (argument_text names) no_arguments refl 41 Ends (λ z. refl) (λ z. refl) (λ z. refl) closes all rest (arguments_each funs args each_fun each) in
      let back : list ++ codes ")" ++ rest ≡ list ++ 41 ∷ rest = append_assoc list (codes ")") rest in
      bind_goes (fun_at names room) _ (fun_text names f ++ (codes "(" ++ (list ++ codes ")" ++ rest))) f (codes "(" ++ (list ++ codes ")" ++ rest)) (fun_reads names has room f is (codes "(" ++ (list ++ codes ")" ++ rest)) refl refl)
      ∙ after_there (codes "(") _ _ (list ++ codes ")" ++ rest)
      ∙ bind_goes (closed_at no_arguments (gather 44 (argument_at names room) argument_added no_arguments) (codes ")")) _ (list ++ codes ")" ++ rest) all rest (ap (closed_at no_arguments (gather 44 (argument_at names room) argument_added no_arguments) (codes ")")) back ∙ inner)
    where
      closes : (c : ℕ) → begins_item c ≡ true → (41 == c) ≡ false
      closes c e = grind (arith, nat_tests)

-- a text with a constructor's name at its front is a construction's
upper_argument : (names : Names) (room : ℕ) (text rest : List ℕ) → IsWord is_ascii_uppercase text → argument_at names (suc room) (text ++ rest) ≡ construction_at names (ty_at names room) (argument_at names room) (text ++ rest)
unfolding argument_at
upper_argument names room text rest w =
    after_absent (codes "$") _ _ (text ++ rest) (word_not 36 is_ascii_uppercase no_dollar text rest w)
    ∙ choice_other (begins is_ascii_digit) _ _ (text ++ rest) (begins_first is_ascii_digit text rest w.first w.others false w.whole (upper_no_digit w.first w.begins_so))
    ∙ choice_first (begins is_ascii_uppercase) _ _ (text ++ rest) (begins_first is_ascii_uppercase text rest w.first w.others true w.whole w.begins_so)

-- a text with a function's head at its front is a function's or a call's
head_argument : (names : Names) (room : ℕ) (text rest : List ℕ) → StartsHead text → argument_at names (suc room) (text ++ rest) ≡ function_at names room (argument_at names room) (text ++ rest)
unfolding argument_at
head_argument names room text rest s =
    after_absent (codes "$") _ _ (text ++ rest) (rw (s.whole, head_no_dollar s.first s.begins_so) refl)
    ∙ choice_other (begins is_ascii_digit) _ _ (text ++ rest) (begins_first is_ascii_digit text rest s.first s.others false s.whole (head_no_digit s.first s.begins_so))
    ∙ choice_other (begins is_ascii_uppercase) _ _ (text ++ rest) (begins_first is_ascii_uppercase text rest s.first s.others false s.whole (head_no_upper s.first s.begins_so))

construction_term : (names : Names) → HasNames names → (room d k : ℕ) (types : List Ty) (fields : List Term) → IsConstructorOf names d k → AreSpellableTypes names types → ((inner : ℕ) → terms_depth fields ≤ inner → AllByRecursion (λ (t : Term). IsRead Ends (argument_at names inner) (term_text names t) (Value t)) fields) → TermReads names room (term.Con d k types fields)
construction_term names has zero d k types fields is spellable each low = absurd (too_deep names (term.Con d k types fields) (max (tys_depth types) (terms_depth fields)) (term_depth-Con d k types fields) low)
construction_term names has (suc room) d k types fields is spellable each low =
    let deep : 1 + max (tys_depth types) (terms_depth fields) ≤ suc room = subst (λ n. n ≤ suc room) (term_depth-Con d k types fields) low in
    let one : tys_depth types ≤ room = omega arith in
    let two : terms_depth fields ≤ room = omega arith in
    let name : List ℕ = name_at (constructors_at names d) k in
    let angles : List ℕ = in_angles (map (ty_text names) types) in
    let parentheses : List ℕ = in_parentheses (map (term_text names) fields) in
    let w : IsWord is_ascii_uppercase name = has.upper_con d k is in
    record {
      starts = rw (term_text-Con names d k types fields) (starts_more name (angles ++ parentheses) (upper_starts name w));
      reads = λ rest ends.
          rw (term_text-Con names d k types fields, append_assoc name (angles ++ parentheses) rest, append_assoc angles parentheses rest) (upper_argument names room name (angles ++ (parentheses ++ rest)) w
          ∙ construction_reads names has room d k types fields is spellable one (each room two) rest ends);
    }

function_argument : (names : Names) → HasNames names → (room : ℕ) (f : Fun) → IsSpellableFunction names f → fun_depth f ≤ room → IsRead Ends (argument_at names room) (fun_text names f) (Function f)
function_argument names has zero f is low = absurd (omega arith)
function_argument names has (suc room) f is low =
    let one : tys_depth f.types ≤ room = omega arith in
    let row : FunctionIn names room f = record { spellable = is; depth = one } in
    record {
      starts = starts_of_head (fun_text names f) (fun_starts names has room f row);
      reads = λ rest ends. head_argument names room (fun_text names f) rest (fun_starts names has room f row) ∙ function_reads names has room f row rest ends;
    }

function_arguments : (names : Names) → HasNames names → (room : ℕ) (fs : List Fun) → AllByRecursion (IsSpellableFunction names) fs → largest (map fun_depth fs) ≤ room → AllByRecursion (λ (f : Fun). IsRead Ends (argument_at names room) (fun_text names f) (Function f)) fs
function_arguments names has room [] is low = tt
function_arguments names has room (f ∷ fs) is low =
    let one : fun_depth f ≤ room = omega arith in
    let two : largest (map fun_depth fs) ≤ room = omega arith in
    (function_argument names has room f is.0 one, function_arguments names has room fs is.1 two)

call_term : (names : Names) → HasNames names → (room : ℕ) (f : Fun) (funs : List Fun) (args : List Term) → IsSpellableFunction names f → AllByRecursion (IsSpellableFunction names) funs → ((inner : ℕ) → terms_depth args ≤ inner → AllByRecursion (λ (t : Term). IsRead Ends (argument_at names inner) (term_text names t) (Value t)) args) → TermReads names room (term.Call f funs args)
call_term names has zero f funs args is each_fun each low = absurd (too_deep names (term.Call f funs args) (max (tys_depth f.types) (max (largest (map fun_depth funs)) (terms_depth args))) (term_depth-Call f funs args) low)
call_term names has (suc room) f funs args is each_fun each low =
    let deep : 1 + max (tys_depth f.types) (max (largest (map fun_depth funs)) (terms_depth args)) ≤ suc room = subst (λ n. n ≤ suc room) (term_depth-Call f funs args) low in
    let one : tys_depth f.types ≤ room = omega arith in
    let two : largest (map fun_depth funs) ≤ room = omega arith in
    let three : terms_depth args ≤ room = omega arith in
    let row : FunctionIn names room f = record { spellable = is; depth = one } in
    let front : List ℕ = fun_text names f in
    let list : List ℕ = commas (map (fun_text names) funs ++ map (term_text names) args) in
    record {
      starts = rw (term_text-Call names f funs args) (starts_more front (codes "(" ++ (list ++ codes ")")) (starts_of_head front (fun_starts names has room f row)));
      reads = λ rest ends.
          rw (term_text-Call names f funs args, append_assoc front (codes "(" ++ (list ++ codes ")")) rest) (head_argument names room front (codes "(" ++ (list ++ codes ")" ++ rest)) (fun_starts names has room f row)
          ∙ call_reads names has room f funs args row (function_arguments names has room funs each_fun two) (each room three) rest);
    }

mutual
  term_layer : (names : Names) → HasNames names → (room : ℕ) (y : Term-F Term) → IsSpellableTerm names y → TermReads names room (roll-Term y)
  term_layer names has room (Term-F.Free n) (free small) = subst (TermReads names room) (sym (term.rolls-Free n)) (free_reads names room n small)
  term_layer names has room (Term-F.Lit w) (literal small) = subst (TermReads names room) (sym (term.rolls-Lit w)) (literal_reads names room w small)
  term_layer names has room (Term-F.Con d k types fields) (construction is spellable each) = subst (TermReads names room) (sym (term.rolls-Con d k types fields)) (construction_term names has room d k types fields is spellable (λ inner low. terms_each names has inner fields each low))
  term_layer names has room (Term-F.Call f funs args) (call is each_fun each) = subst (TermReads names room) (sym (term.rolls-Call f funs args)) (call_term names has room f funs args is each_fun (λ inner low. terms_each names has inner args each low))

  terms_each : (names : Names) → HasNames names → (room : ℕ) (ts : List Term) → AreSpellableTerms names ts → terms_depth ts ≤ room → AllByRecursion (λ (t : Term). IsRead Ends (argument_at names room) (term_text names t) (Value t)) ts
  terms_each names has room [] no_terms low = tt
  terms_each names has room (t ∷ ts) (more_terms is each) low =
      let one : term_depth t ≤ room = omega arith in
      let others : terms_depth ts ≤ room = omega arith in
      (subst (TermReads names room) (roll-out-Term t) (term_layer names has room (out-Term t) is) one, terms_each names has room ts each others)

-- a term is read where its text stands
pub term_complete : (names : Names) → HasNames names → (room : ℕ) (t : Term) → TermIn names room t → IsRead Ends (term_at names room) (term_text names t) t
term_complete names has room t is = value_complete names room t (subst (TermReads names room) (roll-out-Term t) (term_layer names has room (out-Term t) is.spellable) is.depth)
