-- A row is read exactly where its line stands.
use Rattle.std.proofs.Common.{◌≡◌, ℕ, ◌<◌, ◌^◌, true, false, List, [], ◌∷◌, ◌++◌, map, Option, Some, refl, sym, ap, ◌∙◌, subst, inl, inr, append_assoc, arith, codes, ◌==◌, lit≤}
use Rattle.std.specs.List.{AllByRecursion}
use Rattle.std.specs.Fmt.{decimal}
use Rattle.std.proofs.lemmas.Bool.Decides.{nat_tests}
use Rattle.std.proofs.lemmas.List.{append-nil}
use Rattle.px_base.specs.declared.limits.TheConstants.{ROW_DEPTH}
use Rattle.px_base.specs.declared.names.Names.{Names}
use Rattle.px_terms.specs.declared.types.Ty.{Ty}
use Rattle.px_terms.specs.declared.types.Fun.{Fun}
use Rattle.px_terms.specs.declared.term.Term.{Term}
use Rattle.px_terms.specs.declared.clause.Sigma.{Sigma}
use Rattle.px_terms.specs.declared.row.Target.{Target}
use Rattle.px_terms.specs.declared.row.Kind.{Kind}
use Rattle.px_terms.specs.declared.row.Ref.{Ref}
use Rattle.px_terms.specs.declared.row.Ref.TheVariants as reference
use Rattle.px_terms.specs.Spelling.{target_word, path_word, kind_words, on_words}
use Rattle.px_terms.specs.Readable.{AreSmall, IsReadableTarget, IsReadableKind}
use Rattle.px_terms.specs.declared.row.Row.{Row}
use Rattle.px_terms.specs.declared.row.Row.TheVariants as row
use Rattle.px_derive.specs.Spelling.{name_at, head_text, prop_word, commas, in_brackets, ty_text, fun_text, term_text, sigma_words, note_words, line_of}
use Rattle.px_derive.specs.Spellable.{IsRowType, IsRowFunction, IsRowTerm, IsRowSigma, IsHypothesisSigma, IsSpellableNote, IsSpellable}
use Rattle.px_derive.specs.Readers.{Reader, pure, skip, after, push, gather, list_at, closed_at}
use Rattle.px_derive.specs.Reading.{small_at, ty_at, tys_at, fun_at, funs_at, term_at, terms_at, values_at, target_at, numbers_at, path_at, kind_at, reference_at, brackets_at, sigma_at, header_at, step_at, note_at, hypothesis_at, numbered_at, split_at, wide_row_at, row_at, alone, line_row}
use Rattle.px_derive.proofs.Found.{Equal, Both, and_then_some, bind_found, bind_goes, pure_found, nothing_found, There, after_found, after_there, after_absent, skip_found, skip_whole}
use Rattle.px_derive.proofs.NumberFacts.{ReadNumber, number_sound, number_complete}
use Rattle.px_derive.proofs.ListFacts.{Sound, IsRead, begins_item, push_gathers, closed_sound, closed_complete, followed}
use Rattle.px_derive.proofs.TypesRead.{Ends, HasNames, TypeIn, ty_sound, ty_complete, FunctionIn, fun_sound, fun_complete}
use Rattle.px_derive.proofs.TermsRead.{TermIn, term_sound, term_complete}
use Rattle.px_derive.proofs.FieldsRead.{EndsNumber, ReadTarget, target_sound, target_complete, list_sound, list_complete, ReadPath, path_sound, path_complete, ReadKind, kind_sound, kind_complete, IsSpellableReference, reference_text, ReadReference, reference_sound, property_reads, lemma_reads}

-- A list in brackets was read.
record Bracketed {T : Type 0} (Is : T → Type 0) (written : T → List ℕ) (text : List ℕ) (xs : List T) (rest : List ℕ) : Type 0 where
  each : AllByRecursion Is xs
  whole : text ≡ in_brackets (map written xs) ++ rest

brackets_sound : {T : Type 0} (Is : T → Type 0) (written : T → List ℕ) (item : List ℕ → Option (T × List ℕ)) → Sound Is written item → (text rest : List ℕ) (xs : List T) → brackets_at (list_at 44 item) text ≡ Some (xs, rest) → Bracketed Is written text xs rest
unfolding brackets_at list_at
brackets_sound {T} Is written item sound text rest xs e =
    let b = bind_found (skip (codes "[")) _ text xs rest e in
    let opens : text ≡ codes "[" ++ b.middle = skip_found (codes "[") text b.middle b.value b.first in
    let c = closed_sound item push (λ (ys : List T). ys) push_gathers written [] refl 93 Is sound b.middle rest xs b.second in
    record { each = c.each; whole = opens ∙ ap (λ z. codes "[" ++ z) (c.whole ∙ sym (append_assoc (commas (map written xs)) (codes "]") rest)) }

no_bracket : (c : ℕ) → begins_item c ≡ true → (93 == c) ≡ false
no_bracket c e = grind (arith, nat_tests)

brackets_complete : {T : Type 0} (written : T → List ℕ) (item : List ℕ → Option (T × List ℕ)) (xs : List T) (rest : List ℕ) → AllByRecursion (λ (x : T). IsRead Ends item (written x) x) xs → brackets_at (list_at 44 item) (in_brackets (map written xs) ++ rest) ≡ Some (xs, rest)
unfolding brackets_at list_at
brackets_complete {T} written item xs rest each =
    let list : List ℕ = commas (map written xs) in
    bind_goes (skip (codes "[")) _ (codes "[" ++ ((list ++ codes "]") ++ rest)) tt ((list ++ codes "]") ++ rest) (skip_whole (codes "[") ((list ++ codes "]") ++ rest))
    ∙ ap (closed_at [] (gather 44 item push []) (codes "]")) (append_assoc list (codes "]") rest)
    ∙ closed_complete item push (λ (ys : List T). ys) push_gathers written [] refl 93 Ends (λ z. refl) (λ z. refl) (λ z. refl) no_bracket xs rest each

row_types : (names : Names) (ts : List Ty) → AllByRecursion (TypeIn names ROW_DEPTH) ts → AllByRecursion (IsRowType names) ts
row_types names [] each = tt
row_types names (t ∷ ts) each = (record { spellable = each.0.spellable; depth = each.0.depth }, row_types names ts each.1)

row_funs : (names : Names) (fs : List Fun) → AllByRecursion (FunctionIn names ROW_DEPTH) fs → AllByRecursion (IsRowFunction names) fs
row_funs names [] each = tt
row_funs names (f ∷ fs) each = (record { spellable = each.0.spellable; depth = each.0.depth }, row_funs names fs each.1)

row_terms : (names : Names) (ts : List Term) → AllByRecursion (TermIn names ROW_DEPTH) ts → AllByRecursion (IsRowTerm names) ts
row_terms names [] each = tt
row_terms names (t ∷ ts) each = (record { spellable = each.0.spellable; depth = each.0.depth }, row_terms names ts each.1)

types_read : (names : Names) → HasNames names → (ts : List Ty) → AllByRecursion (IsRowType names) ts → AllByRecursion (λ (t : Ty). IsRead Ends (ty_at names ROW_DEPTH) (ty_text names t) t) ts
types_read names has [] each = tt
types_read names has (t ∷ ts) each = (ty_complete names has ROW_DEPTH t (record { spellable = each.0.spellable; depth = each.0.depth }), types_read names has ts each.1)

funs_read : (names : Names) → HasNames names → (fs : List Fun) → AllByRecursion (IsRowFunction names) fs → AllByRecursion (λ (f : Fun). IsRead Ends (fun_at names ROW_DEPTH) (fun_text names f) f) fs
funs_read names has [] each = tt
funs_read names has (f ∷ fs) each = (fun_complete names has ROW_DEPTH f (record { spellable = each.0.spellable; depth = each.0.depth }), funs_read names has fs each.1)

terms_read : (names : Names) → HasNames names → (ts : List Term) → AllByRecursion (IsRowTerm names) ts → AllByRecursion (λ (t : Term). IsRead Ends (term_at names ROW_DEPTH) (term_text names t) t) ts
terms_read names has [] each = tt
terms_read names has (t ∷ ts) each = (term_complete names has ROW_DEPTH t (record { spellable = each.0.spellable; depth = each.0.depth }), terms_read names has ts each.1)

types_bracketed : (names : Names) (text rest : List ℕ) (ts : List Ty) → brackets_at (tys_at names ROW_DEPTH) text ≡ Some (ts, rest) → Bracketed (TypeIn names ROW_DEPTH) (ty_text names) text ts rest
unfolding tys_at
types_bracketed names text rest ts e = brackets_sound (TypeIn names ROW_DEPTH) (ty_text names) (ty_at names ROW_DEPTH) (ty_sound names ROW_DEPTH) text rest ts e

funs_bracketed : (names : Names) (text rest : List ℕ) (fs : List Fun) → brackets_at (funs_at names ROW_DEPTH) text ≡ Some (fs, rest) → Bracketed (FunctionIn names ROW_DEPTH) (fun_text names) text fs rest
unfolding funs_at
funs_bracketed names text rest fs e = brackets_sound (FunctionIn names ROW_DEPTH) (fun_text names) (fun_at names ROW_DEPTH) (fun_sound names ROW_DEPTH) text rest fs e

terms_are : (names : Names) → terms_at names ROW_DEPTH ≡ list_at 44 (term_at names ROW_DEPTH)
unfolding terms_at values_at term_at
terms_are names = refl

terms_bracketed : (names : Names) (text rest : List ℕ) (ts : List Term) → brackets_at (terms_at names ROW_DEPTH) text ≡ Some (ts, rest) → Bracketed (TermIn names ROW_DEPTH) (term_text names) text ts rest
terms_bracketed names text rest ts e =
    brackets_sound (TermIn names ROW_DEPTH) (term_text names) (term_at names ROW_DEPTH) (term_sound names ROW_DEPTH) text rest ts (ap (λ (p : Reader (List Term)). brackets_at p text) (sym (terms_are names)) ∙ e)

types_in_brackets : (names : Names) → HasNames names → (ts : List Ty) (rest : List ℕ) → AllByRecursion (IsRowType names) ts → brackets_at (tys_at names ROW_DEPTH) (in_brackets (map (ty_text names) ts) ++ rest) ≡ Some (ts, rest)
unfolding tys_at
types_in_brackets names has ts rest each = brackets_complete (ty_text names) (ty_at names ROW_DEPTH) ts rest (types_read names has ts each)

funs_in_brackets : (names : Names) → HasNames names → (fs : List Fun) (rest : List ℕ) → AllByRecursion (IsRowFunction names) fs → brackets_at (funs_at names ROW_DEPTH) (in_brackets (map (fun_text names) fs) ++ rest) ≡ Some (fs, rest)
unfolding funs_at
funs_in_brackets names has fs rest each = brackets_complete (fun_text names) (fun_at names ROW_DEPTH) fs rest (funs_read names has fs each)

terms_in_brackets : (names : Names) → HasNames names → (ts : List Term) (rest : List ℕ) → AllByRecursion (IsRowTerm names) ts → brackets_at (terms_at names ROW_DEPTH) (in_brackets (map (term_text names) ts) ++ rest) ≡ Some (ts, rest)
terms_in_brackets names has ts rest each =
    ap (λ (p : Reader (List Term)). brackets_at p (in_brackets (map (term_text names) ts) ++ rest)) (terms_are names)
    ∙ brackets_complete (term_text names) (term_at names ROW_DEPTH) ts rest (terms_read names has ts each)

-- What a note puts in was read.
record ReadSigma (names : Names) (text : List ℕ) (sigma : Sigma) (rest : List ℕ) : Type 0 where
  is : IsRowSigma names sigma
  whole : text ≡ sigma_words names sigma ++ rest

sigma_sound : (names : Names) (text rest : List ℕ) (sigma : Sigma) → sigma_at names text ≡ Some (sigma, rest) → ReadSigma names text sigma rest
unfolding sigma_at
sigma_sound names text rest sigma e =
    let a = bind_found (brackets_at (tys_at names ROW_DEPTH)) _ text sigma rest e in
    let b = bind_found (skip (codes " ")) _ a.middle sigma rest a.second in
    let c = bind_found (brackets_at (funs_at names ROW_DEPTH)) _ b.middle sigma rest b.second in
    let d = bind_found (skip (codes " ")) _ c.middle sigma rest c.second in
    let f = bind_found (brackets_at (terms_at names ROW_DEPTH)) _ d.middle sigma rest d.second in
    let made : Sigma = record { types = a.value; funs = c.value; terms = f.value } in
    let q : Equal made sigma f.middle rest = pure_found made sigma f.middle rest f.second in
    let types = types_bracketed names text a.middle a.value a.first in
    let funs = funs_bracketed names b.middle c.middle c.value c.first in
    let terms = terms_bracketed names d.middle f.middle f.value f.first in
    let one : List ℕ = in_brackets (map (ty_text names) a.value) in
    let two : List ℕ = in_brackets (map (fun_text names) c.value) in
    let three : List ℕ = in_brackets (map (term_text names) f.value) in
    let first_gap : a.middle ≡ codes " " ++ b.middle = skip_found (codes " ") a.middle b.middle b.value b.first in
    let second_gap : c.middle ≡ codes " " ++ d.middle = skip_found (codes " ") c.middle d.middle d.value d.first in
    let last : d.middle ≡ three ++ rest = terms.whole ∙ ap (λ z. three ++ z) q.rest in
    let later : b.middle ≡ (two ++ (codes " " ++ three)) ++ rest = funs.whole ∙ ap (λ z. two ++ z) (second_gap ∙ ap (λ z. codes " " ++ z) last) ∙ sym (append_assoc two (codes " " ++ three) rest) in
    record {
      is = subst (IsRowSigma names) q.value (record { types = row_types names a.value types.each; funs = row_funs names c.value funs.each; terms = row_terms names f.value terms.each });
      whole =
          types.whole ∙ ap (λ z. one ++ z) (first_gap ∙ ap (λ z. codes " " ++ z) later) ∙ sym (append_assoc one (codes " " ++ (two ++ (codes " " ++ three))) rest)
          ∙ ap (λ (s : Sigma). sigma_words names s ++ rest) q.value;
    }

sigma_complete : (names : Names) → HasNames names → (sigma : Sigma) (rest : List ℕ) → IsRowSigma names sigma → sigma_at names (sigma_words names sigma ++ rest) ≡ Some (sigma, rest)
unfolding sigma_at pure
sigma_complete names has sigma rest is =
    let one : List ℕ = in_brackets (map (ty_text names) sigma.types) in
    let two : List ℕ = in_brackets (map (fun_text names) sigma.funs) in
    let three : List ℕ = in_brackets (map (term_text names) sigma.terms) in
    let late : List ℕ = codes " " ++ (three ++ rest) in
    let mid : List ℕ = codes " " ++ (two ++ late) in
    let whole : (one ++ (codes " " ++ (two ++ (codes " " ++ three)))) ++ rest ≡ one ++ mid =
    append_assoc one (codes " " ++ (two ++ (codes " " ++ three))) rest ∙ ap (λ z. one ++ (codes " " ++ z)) (append_assoc two (codes " " ++ three) rest) in
    ap (sigma_at names) whole
    ∙ bind_goes (brackets_at (tys_at names ROW_DEPTH)) _ (one ++ mid) sigma.types mid (types_in_brackets names has sigma.types mid is.types)
    ∙ bind_goes (skip (codes " ")) _ mid tt (two ++ late) (skip_whole (codes " ") (two ++ late))
    ∙ bind_goes (brackets_at (funs_at names ROW_DEPTH)) _ (two ++ late) sigma.funs late (funs_in_brackets names has sigma.funs late is.funs)
    ∙ bind_goes (skip (codes " ")) _ late tt (three ++ rest) (skip_whole (codes " ") (three ++ rest))
    ∙ bind_goes (brackets_at (terms_at names ROW_DEPTH)) _ (three ++ rest) sigma.terms rest (terms_in_brackets names has sigma.terms rest is.terms)

-- A row was read.
pub record ReadRow (names : Names) (text : List ℕ) (r : Row) (rest : List ℕ) : Type 0 where
  pub spellable : IsSpellable names r
  pub whole : text ≡ line_of names r ++ rest

numbered_sound : (names : Names) (made : ℕ → Row) (word : List ℕ) → ((n : ℕ) → n < 2 ^ 32 → IsSpellable names (made n)) → ((n : ℕ) → line_of names (made n) ≡ word ++ decimal n) → (text rest : List ℕ) (r : Row) → There word (numbered_at made) text r rest → ReadRow names text r rest
unfolding numbered_at
numbered_sound names made word is spelled text rest r there =
    let b = bind_found small_at _ there.behind r rest there.found in
    let q : Equal (made b.value) r b.middle rest = pure_found (made b.value) r b.middle rest b.second in
    let n : ReadNumber (2 ^ 32) there.behind b.value b.middle = number_sound (2 ^ 32) (lit≤ tt) there.behind b.middle b.value b.first in
    record {
      spellable = subst (IsSpellable names) q.value (is b.value n.small);
      whole =
          there.whole ∙ ap (λ z. word ++ z) (n.whole ∙ ap (λ z. decimal b.value ++ z) q.rest) ∙ sym (append_assoc word (decimal b.value) rest)
          ∙ ap (λ z. z ++ rest) (sym (spelled b.value) ∙ ap (line_of names) q.value);
    }

step_sound : (names : Names) (text rest : List ℕ) (r : Row) → There (codes "step ") step_at text r rest → ReadRow names text r rest
unfolding step_at
step_sound names text rest r there =
    let a = bind_found target_at _ there.behind r rest there.found in
    let b = bind_found (skip (codes " ")) _ a.middle r rest a.second in
    let c = bind_found path_at _ b.middle r rest b.second in
    let d = bind_found (skip (codes " ")) _ c.middle r rest c.second in
    let f = bind_found kind_at _ d.middle r rest d.second in
    let made : Row = row.Step a.value c.value f.value in
    let q : Equal made r f.middle rest = pure_found made r f.middle rest f.second in
    let t : ReadTarget there.behind a.value a.middle = target_sound there.behind a.middle a.value a.first in
    let p : ReadPath b.middle c.value c.middle = path_sound b.middle c.middle c.value c.first in
    let k : ReadKind d.middle f.value f.middle = kind_sound d.middle f.middle f.value f.first in
    let one : List ℕ = target_word a.value in
    let two : List ℕ = path_word c.value in
    let three : List ℕ = kind_words f.value in
    let first_gap : a.middle ≡ codes " " ++ b.middle = skip_found (codes " ") a.middle b.middle b.value b.first in
    let second_gap : c.middle ≡ codes " " ++ d.middle = skip_found (codes " ") c.middle d.middle d.value d.first in
    let last : d.middle ≡ three ++ rest = k.whole ∙ ap (λ z. three ++ z) q.rest in
    let later : b.middle ≡ (two ++ (codes " " ++ three)) ++ rest = p.whole ∙ ap (λ z. two ++ z) (second_gap ∙ ap (λ z. codes " " ++ z) last) ∙ sym (append_assoc two (codes " " ++ three) rest) in
    let inner : there.behind ≡ (one ++ (codes " " ++ (two ++ (codes " " ++ three)))) ++ rest = t.whole ∙ ap (λ z. one ++ z) (first_gap ∙ ap (λ z. codes " " ++ z) later) ∙ sym (append_assoc one (codes " " ++ (two ++ (codes " " ++ three))) rest) in
    record {
      spellable = subst (IsSpellable names) q.value (t.small, p.small, k.small);
      whole = there.whole ∙ ap (λ z. codes "step " ++ z) inner ∙ ap (λ (v : Row). line_of names v ++ rest) q.value;
    }

-- The variables of a header were read.
record ReadOn (text on rest : List ℕ) : Type 0 where
  small : AreSmall on
  whole : text ≡ on_words on ++ rest

on_of : (on : List ℕ) (first : ℕ) (others rest : List ℕ) → on ≡ first ∷ others → codes " on" ++ (followed 32 decimal on ++ rest) ≡ on_words on ++ rest
on_of on first others rest e = ap (λ ms. codes " on" ++ (followed 32 decimal ms ++ rest)) e ∙ ap (λ ms. on_words ms ++ rest) (sym e)

on_sound : (text rest on : List ℕ) → after (codes " on ") (numbers_at 32) (pure []) text ≡ Some (on, rest) → ReadOn text on rest
on_sound text rest on e = elim (after_found (codes " on ") (numbers_at 32) (pure []) text on rest e) [
  | inl there ↦
      let n = list_sound 32 there.behind rest on there.found in
      record { small = n.small; whole = there.whole ∙ ap (λ z. codes " on" ++ z) n.whole ∙ on_of on n.first n.others rest n.list }
  | inr f ↦
      let q : Equal [] on text rest = pure_found [] on text rest f in
      record { small = subst AreSmall q.value tt; whole = q.rest ∙ ap (λ ms. on_words ms ++ rest) q.value }
]

header_sound : (names : Names) (text rest : List ℕ) (r : Row) → There (codes "goal ") header_at text r rest → ReadRow names text r rest
unfolding header_at
header_sound names text rest r there =
    let a = bind_found small_at _ there.behind r rest there.found in
    let b = bind_found (after (codes " on ") (numbers_at 32) (pure [])) _ a.middle r rest a.second in
    let q : Equal (row.Header a.value b.value) r b.middle rest = pure_found (row.Header a.value b.value) r b.middle rest b.second in
    let n : ReadNumber (2 ^ 32) there.behind a.value a.middle = number_sound (2 ^ 32) (lit≤ tt) there.behind a.middle a.value a.first in
    let on = on_sound a.middle b.middle b.value b.first in
    record {
      spellable = subst (IsSpellable names) q.value (n.small, on.small);
      whole =
          there.whole ∙ ap (λ z. codes "goal " ++ z) (n.whole ∙ ap (λ z. decimal a.value ++ z) (on.whole ∙ ap (λ z. on_words b.value ++ z) q.rest) ∙ sym (append_assoc (decimal a.value) (on_words b.value) rest))
          ∙ ap (λ (v : Row). line_of names v ++ rest) q.value;
    }

note_of : (names : Names) (ref : Ref) (sigma : Sigma) (rest : List ℕ) → IsSpellableReference names ref → IsRowSigma names sigma → IsSpellableNote names ref sigma × (codes "note " ++ (reference_text names ref ++ (codes " " ++ (sigma_words names sigma ++ rest))) ≡ note_words names ref sigma ++ rest)
note_of names (reference.Property head prop) sigma rest spellable is =
    let front : List ℕ = head_text names head in
    let word : List ℕ = prop_word prop in
    let words : List ℕ = sigma_words names sigma in (
      (spellable, is),
      ap (λ z. codes "note " ++ z) (append_assoc front (codes "." ++ word) (codes " " ++ (words ++ rest)) ∙ ap (λ z. front ++ (codes "." ++ z)) (sym (append_assoc word (codes " " ++ words) rest)) ∙ sym (append_assoc front (codes "." ++ (word ++ (codes " " ++ words))) rest)),
    )
note_of names (reference.Lemma n) sigma rest spellable is =
    ((spellable, is), ap (λ z. codes "note " ++ z) (sym (append_assoc (name_at names.lemmas n) (codes " " ++ sigma_words names sigma) rest)))
note_of names reference.Hypothesis sigma rest spellable is = absurd spellable

note_sound : (names : Names) (text rest : List ℕ) (r : Row) → There (codes "note ") (note_at names) text r rest → ReadRow names text r rest
unfolding note_at
note_sound names text rest r there =
    let a = bind_found (reference_at names) _ there.behind r rest there.found in
    let b = bind_found (skip (codes " ")) _ a.middle r rest a.second in
    let c = bind_found (sigma_at names) _ b.middle r rest b.second in
    let q : Equal (row.Note a.value c.value) r c.middle rest = pure_found (row.Note a.value c.value) r c.middle rest c.second in
    let ref : ReadReference names there.behind a.value a.middle = reference_sound names there.behind a.middle a.value a.first in
    let gap : a.middle ≡ codes " " ++ b.middle = skip_found (codes " ") a.middle b.middle b.value b.first in
    let sigma : ReadSigma names b.middle c.value c.middle = sigma_sound names b.middle c.middle c.value c.first in
    let n = note_of names a.value c.value rest ref.spellable sigma.is in
    record {
      spellable = subst (IsSpellable names) q.value n.0;
      whole =
          there.whole ∙ ap (λ z. codes "note " ++ z) (ref.whole ∙ ap (λ z. reference_text names a.value ++ z) (gap ∙ ap (λ z. codes " " ++ z) (sigma.whole ∙ ap (λ z. sigma_words names c.value ++ z) q.rest)))
          ∙ n.1 ∙ ap (λ (v : Row). line_of names v ++ rest) q.value;
    }

hypothesis_sound : (names : Names) (text rest : List ℕ) (r : Row) → There (codes "hyp ") (hypothesis_at names) text r rest → ReadRow names text r rest
unfolding hypothesis_at
hypothesis_sound names text rest r there =
    let a = bind_found (brackets_at (terms_at names ROW_DEPTH)) _ there.behind r rest there.found in
    let made : Row = row.Note reference.Hypothesis (record { types = []; funs = []; terms = a.value }) in
    let q : Equal made r a.middle rest = pure_found made r a.middle rest a.second in
    let terms = terms_bracketed names there.behind a.middle a.value a.first in
    record {
      spellable = subst (IsSpellable names) q.value (record { types = refl; funs = refl; terms = row_terms names a.value terms.each });
      whole = there.whole ∙ ap (λ z. codes "hyp " ++ z) (terms.whole ∙ ap (λ z. in_brackets (map (term_text names) a.value) ++ z) q.rest) ∙ ap (λ (v : Row). line_of names v ++ rest) q.value;
    }

split_sound : (names : Names) (text rest : List ℕ) (r : Row) → There (codes "split ") (split_at names) text r rest → ReadRow names text r rest
unfolding split_at
split_sound names text rest r there =
    let a = bind_found (term_at names ROW_DEPTH) _ there.behind r rest there.found in
    let q : Equal (row.SplitTerm a.value) r a.middle rest = pure_found (row.SplitTerm a.value) r a.middle rest a.second in
    let t = term_sound names ROW_DEPTH there.behind a.middle a.value a.first in
    let is : IsRowTerm names a.value = record { spellable = t.is.spellable; depth = t.is.depth } in
    record {
      spellable = subst (IsSpellable names) q.value is;
      whole = there.whole ∙ ap (λ z. codes "split " ++ z) (t.whole ∙ ap (λ z. term_text names a.value ++ z) q.rest) ∙ ap (λ (v : Row). line_of names v ++ rest) q.value;
    }

wide_sound : (names : Names) (text rest : List ℕ) (r : Row) → wide_row_at names text ≡ Some (r, rest) → ReadRow names text r rest
unfolding wide_row_at
wide_sound names text rest r e = elim (after_found (codes "note ") _ _ text r rest e) [
  | inl there ↦ note_sound names text rest r there
  | inr e1 ↦
      elim (after_found (codes "hyp ") _ _ text r rest e1) [
        | inl there ↦ hypothesis_sound names text rest r there
        | inr e2 ↦
            elim (after_found (codes "split ") _ _ text r rest e2) [
              | inl there ↦ split_sound names text rest r there
              | inr e3 ↦ absurd (nothing_found r text rest e3)
            ]
      ]
]

pub row_sound : (names : Names) (text rest : List ℕ) (r : Row) → row_at names text ≡ Some (r, rest) → ReadRow names text r rest
unfolding row_at
row_sound names text rest r e = elim (after_found (codes "step ") _ _ text r rest e) [
  | inl there ↦ step_sound names text rest r there
  | inr e1 ↦
      elim (after_found (codes "same ") _ _ text r rest e1) [
        | inl there ↦ numbered_sound names (λ n. row.Same n) (codes "same ") (λ n small. small) (λ n. refl) text rest r there
        | inr e2 ↦
            elim (after_found (codes "case ") _ _ text r rest e2) [
              | inl there ↦ numbered_sound names (λ n. row.CaseVar n) (codes "case ") (λ n small. small) (λ n. refl) text rest r there
              | inr e3 ↦
                  elim (after_found (codes "inject ") _ _ text r rest e3) [
                    | inl there ↦ numbered_sound names (λ n. row.Inject n) (codes "inject ") (λ n small. small) (λ n. refl) text rest r there
                    | inr e4 ↦
                        elim (after_found (codes "clash ") _ _ text r rest e4) [
                          | inl there ↦ numbered_sound names (λ n. row.Clash n) (codes "clash ") (λ n small. small) (λ n. refl) text rest r there
                          | inr e5 ↦
                              elim (after_found (codes "goal ") _ _ text r rest e5) [
                                | inl there ↦ header_sound names text rest r there
                                | inr e6 ↦ wide_sound names text rest r e6
                              ]
                        ]
                  ]
            ]
      ]
]

numbered_complete : (made : ℕ → Row) (n : ℕ) → n < 2 ^ 32 → numbered_at made (decimal n) ≡ Some (made n, [])
unfolding numbered_at pure
numbered_complete made n small = ap (numbered_at made) (sym (append-nil (decimal n))) ∙ bind_goes small_at _ (decimal n ++ []) n [] (number_complete (2 ^ 32) (lit≤ tt) n [] small refl)

step_complete : (t : Target) (path : List ℕ) (k : Kind) → IsReadableTarget t → AreSmall path → IsReadableKind k → step_at (target_word t ++ (codes " " ++ (path_word path ++ (codes " " ++ kind_words k)))) ≡ Some (row.Step t path k, [])
unfolding step_at pure
step_complete t path k small are small_kind =
    let late : List ℕ = codes " " ++ kind_words k in
    let mid : List ℕ = codes " " ++ (path_word path ++ late) in
    bind_goes target_at _ (target_word t ++ mid) t mid (target_complete t mid small)
    ∙ bind_goes (skip (codes " ")) _ mid tt (path_word path ++ late) (skip_whole (codes " ") (path_word path ++ late))
    ∙ bind_goes path_at _ (path_word path ++ late) path late (path_complete path late are refl refl)
    ∙ bind_goes (skip (codes " ")) _ late tt (kind_words k) (skip_whole (codes " ") (kind_words k))
    ∙ bind_goes kind_at _ (kind_words k) k [] (ap kind_at (sym (append-nil (kind_words k))) ∙ kind_complete k [] small_kind)

space_ends : (rest : List ℕ) → EndsNumber (32 ∷ rest)
space_ends rest = refl

on_ends : (on : List ℕ) → EndsNumber (on_words on)
on_ends [] = refl
on_ends (v ∷ vars) = refl

on_complete : (on : List ℕ) → AreSmall on → after (codes " on ") (numbers_at 32) (pure []) (on_words on) ≡ Some (on, [])
unfolding pure
on_complete [] small = after_absent (codes " on ") (numbers_at 32) (pure []) [] refl
on_complete (v ∷ vars) small =
    after_there (codes " on ") (numbers_at 32) (pure []) (decimal v ++ followed 32 decimal vars)
    ∙ ap (numbers_at 32) (sym (append-nil (decimal v ++ followed 32 decimal vars)))
    ∙ list_complete 32 space_ends v vars [] small refl refl

header_complete : (n : ℕ) (on : List ℕ) → n < 2 ^ 32 → AreSmall on → header_at (decimal n ++ on_words on) ≡ Some (row.Header n on, [])
unfolding header_at pure
header_complete n on small are =
    bind_goes small_at _ (decimal n ++ on_words on) n (on_words on) (number_complete (2 ^ 32) (lit≤ tt) n (on_words on) small (on_ends on))
    ∙ bind_goes (after (codes " on ") (numbers_at 32) (pure [])) _ (on_words on) on [] (on_complete on are)

noted : (names : Names) → HasNames names → (ref : Ref) (sigma : Sigma) (text : List ℕ) → reference_at names text ≡ Some (ref, codes " " ++ sigma_words names sigma) → IsRowSigma names sigma → note_at names text ≡ Some (row.Note ref sigma, [])
unfolding note_at pure
noted names has ref sigma text e is =
    bind_goes (reference_at names) _ text ref (codes " " ++ sigma_words names sigma) e
    ∙ bind_goes (skip (codes " ")) _ (codes " " ++ sigma_words names sigma) tt (sigma_words names sigma) (skip_whole (codes " ") (sigma_words names sigma))
    ∙ bind_goes (sigma_at names) _ (sigma_words names sigma) sigma [] (ap (sigma_at names) (sym (append-nil (sigma_words names sigma))) ∙ sigma_complete names has sigma [] is)

hypothesis_complete : (names : Names) → HasNames names → (sigma : Sigma) → IsHypothesisSigma names sigma → hypothesis_at names (in_brackets (map (term_text names) sigma.terms)) ≡ Some (row.Note reference.Hypothesis sigma, [])
unfolding hypothesis_at pure
hypothesis_complete names has sigma is =
    let text : List ℕ = in_brackets (map (term_text names) sigma.terms) in
    let same : record { types = []; funs = []; terms = sigma.terms } ≡ sigma = λ i. record { types = sym is.types i; funs = sym is.funs i; terms = sigma.terms } in
    bind_goes (brackets_at (terms_at names ROW_DEPTH)) _ text sigma.terms [] (ap (brackets_at (terms_at names ROW_DEPTH)) (sym (append-nil text)) ∙ terms_in_brackets names has sigma.terms [] is.terms)
    ∙ ap (λ (s : Sigma). Some (row.Note reference.Hypothesis s, [])) same

split_complete : (names : Names) → HasNames names → (t : Term) → IsRowTerm names t → split_at names (term_text names t) ≡ Some (row.SplitTerm t, [])
unfolding split_at pure
split_complete names has t is =
    let reads : IsRead Ends (term_at names ROW_DEPTH) (term_text names t) t = term_complete names has ROW_DEPTH t (record { spellable = is.spellable; depth = is.depth }) in
    bind_goes (term_at names ROW_DEPTH) _ (term_text names t) t [] (ap (term_at names ROW_DEPTH) (sym (append-nil (term_text names t))) ∙ reads.reads [] refl)

note_complete : (names : Names) → HasNames names → (ref : Ref) (sigma : Sigma) → IsSpellableNote names ref sigma → row_at names (note_words names ref sigma) ≡ Some (row.Note ref sigma, [])
unfolding row_at wide_row_at after
note_complete names has (reference.Property head prop) sigma (spellable, is) = noted names has (reference.Property head prop) sigma _ (property_reads names has head prop (codes " " ++ sigma_words names sigma) spellable) is
note_complete names has (reference.Lemma n) sigma (spellable, is) = noted names has (reference.Lemma n) sigma _ (lemma_reads names has n (codes " " ++ sigma_words names sigma) spellable refl refl) is
note_complete names has reference.Hypothesis sigma is = hypothesis_complete names has sigma is

pub row_complete : (names : Names) → HasNames names → (r : Row) → IsSpellable names r → row_at names (line_of names r) ≡ Some (r, [])
unfolding row_at wide_row_at after
row_complete names has (row.Header n on) is = header_complete n on is.0 is.1
row_complete names has (row.Same n) is = numbered_complete (λ m. row.Same m) n is
row_complete names has (row.Step t path k) is = step_complete t path k is.0 is.1 is.2
row_complete names has (row.Note ref sigma) is = note_complete names has ref sigma is
row_complete names has (row.CaseVar n) is = numbered_complete (λ m. row.CaseVar m) n is
row_complete names has (row.SplitTerm t) is = split_complete names has t is
row_complete names has (row.Clash n) is = numbered_complete (λ m. row.Clash m) n is
row_complete names has (row.Inject n) is = numbered_complete (λ m. row.Inject m) n is

-- A line was read whole.
pub record ReadLine (names : Names) (line : List ℕ) (r : Row) : Type 0 where
  pub spellable : IsSpellable names r
  pub spelled : line ≡ line_of names r

alone_is : (names : Names) (line : List ℕ) (s r : Row) (rest : List ℕ) → ReadRow names line s rest → alone (s, rest) ≡ Some r → ReadLine names line r
alone_is names line s r [] is e =
    let q : s ≡ r = cc in
    record { spellable = subst (IsSpellable names) q is.spellable; spelled = is.whole ∙ append-nil (line_of names s) ∙ ap (line_of names) q }
alone_is names line s r (c ∷ cs) is e = absurd cc

pub line_sound : (names : Names) (line : List ℕ) (r : Row) → line_row names line ≡ Some r → ReadLine names line r
unfolding line_row
line_sound names line r e =
    let b : Both (row_at names line) alone r = and_then_some (row_at names line) alone r e in
    alone_is names line b.value.0 r b.value.1 (row_sound names line b.value.1 b.value.0 b.first) b.second

pub line_complete : (names : Names) → HasNames names → (r : Row) → IsSpellable names r → line_row names (line_of names r) ≡ Some r
unfolding line_row
line_complete names has r is = rw (row_complete names has r is) refl
