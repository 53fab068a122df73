-- No row's line has a line feed.
use Rattle.std.proofs.Common.{◌≡◌, ℕ, zero, suc, ◌+◌, ◌<◌, ◌^◌, Bool, true, false, List, [], ◌∷◌, ◌++◌, length, map, get_or, refl, sym, ap, ◌∙◌, subst, arith, codes, ◌==◌}
use Rattle.std.specs.Prelude.{Contains}
use Rattle.std.specs.List.{AllByRecursion, join_with_byte, flat_map}
use Rattle.std.specs.Char.{is_ascii_digit}
use Rattle.std.specs.Fmt.{decimal}
use Rattle.std.proofs.lemmas.Fmt.{digits_decimal}
use Rattle.std.proofs.lemmas.Bool.Decides.{Decides-eqb, nat_tests}
use Rattle.px_base.specs.NameForms.{is_name_part}
use Rattle.px_base.specs.declared.names.Names.{Names}
use Rattle.px_base.specs.declared.head.Head.{Head}
use Rattle.px_base.specs.declared.head.Head.TheVariants.{Def, Wle, Weq, FnVar}
use Rattle.px_base.specs.declared.prop.Prop.{Prop}
use Rattle.px_base.specs.declared.prop.Prop.TheVariants.{Comm, Assoc, Idem, Sel, Refl, Irrefl, Sym, Antisym, Asym, Trans, Conn}
use Rattle.px_terms.specs.declared.types.Ty.{Ty, out-Ty}
use Rattle.px_terms.specs.declared.types.Ty.TheVariants as ty
use Rattle.px_terms.specs.declared.types.Ty.TheViews.{roll-Ty, roll-out-Ty}
use Rattle.px_terms.specs.declared.types.Ty.TheOpen.{Ty-F}
use Rattle.px_terms.specs.declared.types.Fun.{Fun}
use Rattle.px_terms.specs.declared.term.Term.{Term, out-Term}
use Rattle.px_terms.specs.declared.term.Term.TheVariants as term
use Rattle.px_terms.specs.declared.term.Term.TheViews.{roll-Term, roll-out-Term}
use Rattle.px_terms.specs.declared.term.Term.TheOpen.{Term-F}
use Rattle.px_terms.specs.declared.clause.Sigma.{Sigma}
use Rattle.px_terms.specs.declared.row.Side.{Side}
use Rattle.px_terms.specs.declared.row.Side.TheVariants.{Left, Right}
use Rattle.px_terms.specs.declared.row.Target.{Target}
use Rattle.px_terms.specs.declared.row.Target.TheVariants as target
use Rattle.px_terms.specs.declared.row.Kind.{Kind}
use Rattle.px_terms.specs.declared.row.Kind.TheVariants as kind
use Rattle.px_terms.specs.declared.row.Ref.{Ref}
use Rattle.px_terms.specs.declared.row.Ref.TheVariants as reference
use Rattle.px_terms.specs.Spelling.{side_letter, target_word, path_word, kind_words, on_words}
use Rattle.px_terms.specs.Readable.{AreSmall, IsReadableTarget, IsReadableKind}
use Rattle.px_terms.specs.declared.row.Row.{Row}
use Rattle.px_terms.specs.declared.row.Row.TheVariants as row
use Rattle.px_derive.specs.Spelling.{name_at, constructors_at, commas, between, in_angles, in_parentheses, in_brackets, ty_text, head_text, fun_text, term_text, prop_word, sigma_words, note_words, line_of}
use Rattle.px_derive.specs.Spellable.{IsNumberOf, IsConstructorOf, IsSpellableType, AreSpellableTypes, word, variable, datatype, no_types, more_types, IsSpellableHead, IsSpellableFunction, IsSpellableTerm, AreSpellableTerms, free, literal, construction, call, no_terms, more_terms, IsRowType, IsRowFunction, IsRowTerm, IsRowSigma, IsSpellableNote, IsSpellable}
use Rattle.px_derive.proofs.NumberFacts.{AreDigits, own}
use Rattle.px_derive.proofs.TextEquations.{ty_text-Word, ty_text-Var, ty_text-Con, term_text-Free, term_text-Lit, term_text-Con, term_text-Call}
use Rattle.px_derive.proofs.TypesRead.{HasNames}

-- no byte of the text is a line feed
abbrev pub NoFeed : List ℕ → Type 0
NoFeed text = AllByRecursion (λ (c : ℕ). (c == 10) ≡ false) text

joined_free : (xs ys : List ℕ) → NoFeed xs → NoFeed ys → NoFeed (xs ++ ys)
joined_free [] ys one other = other
joined_free (x ∷ xs) ys one other = (one.0, joined_free xs ys one.1 other)

part_free : (c : ℕ) → is_name_part c ≡ true → (c == 10) ≡ false
part_free c e = grind (arith, nat_tests)

digit_free : (c : ℕ) → is_ascii_digit c ≡ true → (c == 10) ≡ false
digit_free c e = grind (arith, nat_tests)

parts_free : (text : List ℕ) → AllByRecursion (λ (b : ℕ). is_name_part b ≡ true) text → NoFeed text
parts_free [] parts = tt
parts_free (c ∷ cs) parts = (part_free c parts.0, parts_free cs parts.1)

digits_free : (ds : List ℕ) → AreDigits ds → NoFeed ds
digits_free [] digits = tt
digits_free (c ∷ cs) digits = (digit_free c digits.0, digits_free cs digits.1)

number_free : (n : ℕ) → n < 2 ^ 64 → NoFeed (decimal n)
number_free n small = digits_free (decimal n) (digits_decimal own n small)

small_free : (n : ℕ) → n < 2 ^ 32 → NoFeed (decimal n)
small_free n small = number_free n (omega arith)

commas_free : (ts : List (List ℕ)) → AllByRecursion NoFeed ts → NoFeed (commas ts)
commas_free [] each = tt
commas_free (t ∷ []) each = each.0
commas_free (t ∷ u ∷ ts) each = joined_free t (44 ∷ commas (u ∷ ts)) each.0 (refl, commas_free (u ∷ ts) each.1)

between_free : (opening closing : List ℕ) (ts : List (List ℕ)) → NoFeed opening → NoFeed closing → AllByRecursion NoFeed ts → NoFeed (between opening closing ts)
between_free opening closing [] one other each = tt
between_free opening closing (t ∷ ts) one other each = joined_free opening (commas (t ∷ ts) ++ closing) one (joined_free (commas (t ∷ ts)) closing (commas_free (t ∷ ts) each) other)

angles_free : (ts : List (List ℕ)) → AllByRecursion NoFeed ts → NoFeed (in_angles ts)
angles_free ts each = between_free (codes "<") (codes ">") ts (refl, tt) (refl, tt) each

parentheses_free : (ts : List (List ℕ)) → AllByRecursion NoFeed ts → NoFeed (in_parentheses ts)
parentheses_free ts each = between_free (codes "(") (codes ")") ts (refl, tt) (refl, tt) each

brackets_free : (ts : List (List ℕ)) → AllByRecursion NoFeed ts → NoFeed (in_brackets ts)
brackets_free ts each = (refl, joined_free (commas ts) (codes "]") (commas_free ts each) (refl, tt))

both_free : (ts us : List (List ℕ)) → AllByRecursion NoFeed ts → AllByRecursion NoFeed us → AllByRecursion NoFeed (ts ++ us)
both_free [] us one other = other
both_free (t ∷ ts) us one other = (one.0, both_free ts us one.1 other)

module _ (names : Names) (has : HasNames names) where
  mutual
    type_free : (y : Ty-F Ty) → IsSpellableType names y → NoFeed (ty_text names (roll-Ty y))
    type_free Ty-F.Word word = subst (λ (t : Ty). NoFeed (ty_text names t)) (sym ty.rolls-Word) (subst NoFeed (sym (ty_text-Word names)) (refl, (refl, (refl, (refl, tt)))))
    type_free (Ty-F.Var n) (variable small) = subst (λ (t : Ty). NoFeed (ty_text names t)) (sym (ty.rolls-Var n)) (subst NoFeed (sym (ty_text-Var names n)) (refl, small_free n small))
    type_free (Ty-F.Con d args) (datatype is each) =
        subst (λ (t : Ty). NoFeed (ty_text names t)) (sym (ty.rolls-Con d args)) (subst NoFeed (sym (ty_text-Con names d args)) (joined_free (name_at names.datatypes d) (in_angles (map (ty_text names) args)) (parts_free (name_at names.datatypes d) (has.upper d is).parts) (angles_free (map (ty_text names) args) (types_free args each))))

    types_free : (ts : List Ty) → AreSpellableTypes names ts → AllByRecursion NoFeed (map (ty_text names) ts)
    types_free [] no_types = tt
    types_free (t ∷ ts) (more_types is each) = (subst (λ (u : Ty). NoFeed (ty_text names u)) (roll-out-Ty t) (type_free (out-Ty t) is), types_free ts each)

  head_free : (h : Head) → IsSpellableHead names h → NoFeed (head_text names h)
  head_free (Def n) is = parts_free (name_at names.defs n) (has.lower n is).parts
  head_free Wle is = (refl, (refl, (refl, tt)))
  head_free Weq is = (refl, (refl, (refl, tt)))
  head_free (FnVar n) is = (refl, small_free n is)

  fun_free : (f : Fun) → IsSpellableFunction names f → NoFeed (fun_text names f)
  fun_free f is = joined_free (head_text names f.head) (in_angles (map (ty_text names) f.types)) (head_free f.head is.head) (angles_free (map (ty_text names) f.types) (types_free f.types is.types))

  funs_free : (fs : List Fun) → AllByRecursion (IsSpellableFunction names) fs → AllByRecursion NoFeed (map (fun_text names) fs)
  funs_free [] each = tt
  funs_free (f ∷ fs) each = (fun_free f each.0, funs_free fs each.1)

  con_free : (d k : ℕ) (types : List Ty) (fields : List Term) → IsConstructorOf names d k → AreSpellableTypes names types → AllByRecursion NoFeed (map (term_text names) fields) → NoFeed (term_text names (term.Con d k types fields))
  con_free d k types fields is spellable each =
      let name : List ℕ = name_at (constructors_at names d) k in
      let angles : List ℕ = in_angles (map (ty_text names) types) in
      let parentheses : List ℕ = in_parentheses (map (term_text names) fields) in
      subst NoFeed (sym (term_text-Con names d k types fields)) (joined_free name (angles ++ parentheses) (parts_free name (has.upper_con d k is).parts) (joined_free angles parentheses (angles_free (map (ty_text names) types) (types_free types spellable)) (parentheses_free (map (term_text names) fields) each)))

  call_free : (f : Fun) (funs : List Fun) (args : List Term) → IsSpellableFunction names f → AllByRecursion (IsSpellableFunction names) funs → AllByRecursion NoFeed (map (term_text names) args) → NoFeed (term_text names (term.Call f funs args))
  call_free f funs args is each_fun each =
      let front : List ℕ = fun_text names f in
      let list : List ℕ = commas (map (fun_text names) funs ++ map (term_text names) args) in
      subst NoFeed (sym (term_text-Call names f funs args)) (joined_free front (codes "(" ++ (list ++ codes ")")) (fun_free f is) (refl, joined_free list (codes ")") (commas_free (map (fun_text names) funs ++ map (term_text names) args) (both_free (map (fun_text names) funs) (map (term_text names) args) (funs_free funs each_fun) each)) (refl, tt)))

  mutual
    term_free : (y : Term-F Term) → IsSpellableTerm names y → NoFeed (term_text names (roll-Term y))
    term_free (Term-F.Free n) (free small) = subst (λ (t : Term). NoFeed (term_text names t)) (sym (term.rolls-Free n)) (subst NoFeed (sym (term_text-Free names n)) (refl, small_free n small))
    term_free (Term-F.Lit w) (literal small) = subst (λ (t : Term). NoFeed (term_text names t)) (sym (term.rolls-Lit w)) (subst NoFeed (sym (term_text-Lit names w)) (number_free w small))
    term_free (Term-F.Con d k types fields) (construction is spellable each) = subst (λ (t : Term). NoFeed (term_text names t)) (sym (term.rolls-Con d k types fields)) (con_free d k types fields is spellable (terms_free fields each))
    term_free (Term-F.Call f funs args) (call is each_fun each) = subst (λ (t : Term). NoFeed (term_text names t)) (sym (term.rolls-Call f funs args)) (call_free f funs args is each_fun (terms_free args each))

    terms_free : (ts : List Term) → AreSpellableTerms names ts → AllByRecursion NoFeed (map (term_text names) ts)
    terms_free [] no_terms = tt
    terms_free (t ∷ ts) (more_terms is each) = (subst (λ (u : Term). NoFeed (term_text names u)) (roll-out-Term t) (term_free (out-Term t) is), terms_free ts each)

  row_term_free : (t : Term) → IsRowTerm names t → NoFeed (term_text names t)
  row_term_free t is = subst (λ (u : Term). NoFeed (term_text names u)) (roll-out-Term t) (term_free (out-Term t) is.spellable)

  row_types_free : (ts : List Ty) → AllByRecursion (IsRowType names) ts → AllByRecursion NoFeed (map (ty_text names) ts)
  row_types_free [] each = tt
  row_types_free (t ∷ ts) each = (subst (λ (u : Ty). NoFeed (ty_text names u)) (roll-out-Ty t) (type_free (out-Ty t) each.0.spellable), row_types_free ts each.1)

  row_funs_free : (fs : List Fun) → AllByRecursion (IsRowFunction names) fs → AllByRecursion NoFeed (map (fun_text names) fs)
  row_funs_free [] each = tt
  row_funs_free (f ∷ fs) each = (fun_free f each.0.spellable, row_funs_free fs each.1)

  row_terms_free : (ts : List Term) → AllByRecursion (IsRowTerm names) ts → AllByRecursion NoFeed (map (term_text names) ts)
  row_terms_free [] each = tt
  row_terms_free (t ∷ ts) each = (row_term_free t each.0, row_terms_free ts each.1)

  prop_free : (p : Prop) → NoFeed (prop_word p)
  prop_free Comm = (refl, (refl, (refl, (refl, tt))))
  prop_free Assoc = (refl, (refl, (refl, (refl, (refl, tt)))))
  prop_free Idem = (refl, (refl, (refl, (refl, tt))))
  prop_free Sel = (refl, (refl, (refl, tt)))
  prop_free Refl = (refl, (refl, (refl, (refl, tt))))
  prop_free Irrefl = (refl, (refl, (refl, (refl, (refl, (refl, tt))))))
  prop_free Sym = (refl, (refl, (refl, tt)))
  prop_free Antisym = (refl, (refl, (refl, (refl, (refl, (refl, (refl, tt)))))))
  prop_free Asym = (refl, (refl, (refl, (refl, tt))))
  prop_free Trans = (refl, (refl, (refl, (refl, (refl, tt)))))
  prop_free Conn = (refl, (refl, (refl, (refl, tt))))

  sigma_free : (sigma : Sigma) → IsRowSigma names sigma → NoFeed (sigma_words names sigma)
  sigma_free sigma is =
      let one : List ℕ = in_brackets (map (ty_text names) sigma.types) in
      let two : List ℕ = in_brackets (map (fun_text names) sigma.funs) in
      let three : List ℕ = in_brackets (map (term_text names) sigma.terms) in
      let last : NoFeed three = brackets_free (map (term_text names) sigma.terms) (row_terms_free sigma.terms is.terms) in
      let late : NoFeed (two ++ (codes " " ++ three)) = joined_free two (codes " " ++ three) (brackets_free (map (fun_text names) sigma.funs) (row_funs_free sigma.funs is.funs)) (refl, last) in
      joined_free one (codes " " ++ (two ++ (codes " " ++ three))) (brackets_free (map (ty_text names) sigma.types) (row_types_free sigma.types is.types)) (refl, late)

  note_free : (ref : Ref) (sigma : Sigma) → IsSpellableNote names ref sigma → NoFeed (note_words names ref sigma)
  note_free (reference.Property head prop) sigma (spellable, is) =
      let words : List ℕ = sigma_words names sigma in
      let late : NoFeed (prop_word prop ++ (codes " " ++ words)) = joined_free (prop_word prop) (codes " " ++ words) (prop_free prop) (refl, sigma_free sigma is) in
      (refl, (refl, (refl, (refl, (refl, joined_free (head_text names head) (codes "." ++ (prop_word prop ++ (codes " " ++ words))) (head_free head spellable) (refl, late))))))
  note_free (reference.Lemma n) sigma (spellable, is) =
      let words : List ℕ = sigma_words names sigma in
      (refl, (refl, (refl, (refl, (refl, joined_free (name_at names.lemmas n) (codes " " ++ words) (parts_free (name_at names.lemmas n) (has.lower_lemma n spellable).parts) (refl, sigma_free sigma is))))))
  note_free reference.Hypothesis sigma is = (refl, (refl, (refl, (refl, brackets_free (map (term_text names) sigma.terms) (row_terms_free sigma.terms is.terms)))))

side_free : (s : Side) → NoFeed (side_letter s)
side_free Left = (refl, tt)
side_free Right = (refl, tt)

target_free : (t : Target) → IsReadableTarget t → NoFeed (target_word t)
target_free (target.Alternative n s) small = (refl, joined_free (decimal n) (side_letter s) (small_free n small) (side_free s))
target_free (target.Fact n s) small = (refl, joined_free (decimal n) (side_letter s) (small_free n small) (side_free s))

numbers_free : (separator : ℕ) → (separator == 10) ≡ false → (ns : List ℕ) → AreSmall ns → NoFeed (flat_map (λ (n : ℕ). separator ∷ decimal n) ns)
numbers_free separator other [] small = tt
numbers_free separator other (n ∷ ns) small = (other, joined_free (decimal n) (flat_map (λ (m : ℕ). separator ∷ decimal m) ns) (small_free n small.0) (numbers_free separator other ns small.1))

path_free : (path : List ℕ) → AreSmall path → NoFeed (path_word path)
path_free [] small = (refl, tt)
path_free (n ∷ ns) small = numbers_free 47 refl (n ∷ ns) small

on_free : (on : List ℕ) → AreSmall on → NoFeed (on_words on)
on_free [] small = tt
on_free (v ∷ vars) small = (refl, (refl, (refl, numbers_free 32 refl (v ∷ vars) small)))

kind_free : (k : Kind) → IsReadableKind k → NoFeed (kind_words k)
kind_free kind.Unfold small = (refl, (refl, (refl, (refl, (refl, (refl, tt))))))
kind_free kind.Select small = (refl, (refl, (refl, (refl, (refl, (refl, tt))))))
kind_free kind.Compare small = (refl, (refl, (refl, (refl, (refl, (refl, (refl, tt)))))))
kind_free (kind.Fact n true) small = (refl, (refl, (refl, (refl, (refl, joined_free (decimal n) (codes " lr") (small_free n small) (refl, (refl, (refl, tt))))))))
kind_free (kind.Fact n false) small = (refl, (refl, (refl, (refl, (refl, joined_free (decimal n) (codes " rl") (small_free n small) (refl, (refl, (refl, tt))))))))

step_free : (t : Target) (path : List ℕ) (k : Kind) → IsReadableTarget t → AreSmall path → IsReadableKind k → NoFeed (target_word t ++ (codes " " ++ (path_word path ++ (codes " " ++ kind_words k))))
step_free t path k small are small_kind =
    let late : NoFeed (path_word path ++ (codes " " ++ kind_words k)) = joined_free (path_word path) (codes " " ++ kind_words k) (path_free path are) (refl, kind_free k small_kind) in
    joined_free (target_word t) (codes " " ++ (path_word path ++ (codes " " ++ kind_words k))) (target_free t small) (refl, late)

pub row_free : (names : Names) → HasNames names → (r : Row) → IsSpellable names r → NoFeed (line_of names r)
row_free names has (row.Header n on) is = (refl, (refl, (refl, (refl, (refl, joined_free (decimal n) (on_words on) (small_free n is.0) (on_free on is.1))))))
row_free names has (row.Same n) is = (refl, (refl, (refl, (refl, (refl, small_free n is)))))
row_free names has (row.Step t path k) is = (refl, (refl, (refl, (refl, (refl, step_free t path k is.0 is.1 is.2)))))
row_free names has (row.Note ref sigma) is = note_free names has ref sigma is
row_free names has (row.CaseVar n) is = (refl, (refl, (refl, (refl, (refl, small_free n is)))))
row_free names has (row.SplitTerm t) is = (refl, (refl, (refl, (refl, (refl, (refl, row_term_free names has t is))))))
row_free names has (row.Clash n) is = (refl, (refl, (refl, (refl, (refl, (refl, small_free n is))))))
row_free names has (row.Inject n) is = (refl, (refl, (refl, (refl, (refl, (refl, (refl, small_free n is)))))))

absent : (text : List ℕ) → NoFeed text → Contains text 10 → ⊥
absent [] none (k, less, is) = omega arith
absent (c ∷ cs) none (zero, less, is) = let q : true ≡ false = sym ((Decides-eqb c 10).1 is) ∙ none.0 in cc
absent (c ∷ cs) none (suc k, less, is) = absent cs none.1 (k, omega arith, is)

pub no_feed : (names : Names) → HasNames names → (r : Row) → IsSpellable names r → Contains (line_of names r) 10 → ⊥
no_feed names has r is there = absent (line_of names r) (row_free names has r is) there
