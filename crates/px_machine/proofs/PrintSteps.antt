-- Steps of printing a value: a node, and what stands behind a value.
use Rattle.std.proofs.Common.{◌≡◌, ◌≢◌, ℕ, zero, suc, ◌+◌, ◌-◌, ◌<◌, ◌≤◌, List, [], ◌∷◌, ◌++◌, map, length, take, drop, get_or, reverse, ap, refl, sym, subst, ◌∙◌, append_assoc, arith, codes}
use Rattle.std.specs.List.{flat_map}
use Rattle.std.specs.Fmt.{decimal}
use Rattle.std.proofs.lemmas.List.{reverse-append, append-nil, drop_more, take-map, drop-map, length-map, length-drop, length-append}
use Rattle.px_base.specs.declared.names.Names.{Names}
use Rattle.px_terms.specs.declared.term.Value.{Value}
use Rattle.px_machine.specs.declared.cells.Cell.{Cell}
use Rattle.px_machine.specs.declared.cells.Cell.TheVariants as cell
use Rattle.px_machine.specs.Cells.{put_before, preorder, trees, AreValues}
use Rattle.px_machine.specs.ValueText.{constructor_name, value_text}
use Rattle.px_machine.specs.PrintLevels.{after, due, awaited, IsDue, Closes, Prints}
use Rattle.px_machine.proofs.CellLaws.{has_fields, tree-preorder, value_is_values}
use Rattle.px_machine.proofs.FlatSteps.{is_one}
use Rattle.px_machine.proofs.PrintEquations.{value_text-Lit, value_text-Con}

pub reverse_push : (xs : List ℕ) (x : ℕ) → reverse (xs ++ x ∷ []) ≡ x ∷ reverse xs
reverse_push xs x = reverse-append xs (x ∷ [])

-- What stood behind a value is what was added and what stands behind it now, and as many values are awaited.
pub record IsClosing (old old_levels text levels : List ℕ) : Type 0 where
  pub printed : (texts : List (List ℕ)) → awaited old_levels ≡ length texts → text ++ after levels texts ≡ old ++ after old_levels texts
  pub counted : awaited levels ≡ awaited old_levels

pub closing_starts : (text levels : List ℕ) → IsClosing text levels text levels
closing_starts text levels = record { printed = λ texts count. refl; counted = refl }

-- the innermost constructor has no more fields
pub closing_more : (old old_levels text levels behind added : List ℕ) (more : ℕ) → levels ≡ behind ++ more ∷ [] → more ≤ 0 → added ≡ text ++ codes ")" → IsClosing old old_levels text (reverse levels) → IsClosing old old_levels added (reverse behind)
closing_more old old_levels text levels behind added zero popped none is so =
    let e : reverse levels ≡ 0 ∷ reverse behind = ap reverse popped ∙ reverse_push behind 0 in
    record {
      printed = λ texts count. ap (λ z. z ++ after (reverse behind) texts) is ∙ append_assoc text (codes ")") (after (reverse behind) texts) ∙ ap (λ ls. text ++ after ls texts) (sym e) ∙ so.printed texts count;
      counted = let n : 0 + awaited (reverse behind) ≡ awaited old_levels = ap awaited (sym e) ∙ so.counted in omega arith;
    }
closing_more old old_levels text levels behind added (suc more) popped none is so = absurd (omega arith)

goes_on : (text levels : List ℕ) (more : ℕ) (texts : List (List ℕ)) → suc more + awaited levels ≡ length texts → IsDue (text ++ after (suc more ∷ levels) texts) (text ++ codes ", ") (more ∷ levels) texts
goes_on text levels more [] count = absurd (omega arith)
goes_on text levels more (t ∷ texts) count = record {
  printed = append_assoc text (codes ", ") (t ++ after (more ∷ levels) texts)
      ∙ ap (λ z. text ++ (codes ", " ++ z)) (sym (append_assoc t (flat_map (λ (u : List ℕ). codes ", " ++ u) (take more texts)) (codes ")" ++ after levels (drop more texts))));
  counted = omega arith;
}

-- the innermost constructor has a further field
pub closing_goes_on : (old old_levels text levels behind added new_levels : List ℕ) (more : ℕ) → levels ≡ behind ++ more ∷ [] → 0 < more → new_levels ≡ behind ++ (more - 1) ∷ [] →
    IsClosing old old_levels text (reverse levels) → added ≡ text ++ codes ", " → Closes old old_levels added (reverse new_levels)
closing_goes_on old old_levels text levels behind added new_levels zero popped some pushed so is = absurd (omega arith)
closing_goes_on old old_levels text levels behind added new_levels (suc more) popped some pushed so is =
    let e : reverse levels ≡ suc more ∷ reverse behind = ap reverse popped ∙ reverse_push behind (suc more) in
    let one : suc more - 1 ≡ more = omega arith in
    let f : reverse new_levels ≡ more ∷ reverse behind = ap reverse pushed ∙ reverse_push behind (suc more - 1) ∙ ap (λ n. n ∷ reverse behind) one in
    record {
      due_next = λ texts count.
          let n : suc more + awaited (reverse behind) ≡ length texts = ap awaited (sym e) ∙ so.counted ∙ count in
          let next = goes_on text (reverse behind) more texts n in
          let whole : text ++ after (suc more ∷ reverse behind) texts ≡ old ++ after old_levels texts = ap (λ ls. text ++ after ls texts) (sym e) ∙ so.printed texts count in
          record {
            printed = ap (λ z. z ++ due (reverse new_levels) texts) is ∙ ap (λ ls. (text ++ codes ", ") ++ due ls texts) f ∙ next.printed ∙ whole;
            counted = ap awaited f ∙ next.counted;
          };
    }

-- no constructor is left
pub closing_ends : (old old_levels text levels new_levels : List ℕ) → levels ≡ [] → new_levels ≡ [] → IsClosing old old_levels text (reverse levels) → Closes old old_levels text (reverse new_levels)
closing_ends old old_levels text levels new_levels none none_now so = record {
  due_next = λ texts count.
      let zero_left : length texts ≡ 0 = sym count ∙ sym so.counted ∙ ap (λ ls. awaited (reverse ls)) none in
      let over : texts ≡ [] = no_texts texts zero_left in
      record {
        printed = ap (λ ts. text ++ due (reverse new_levels) ts) over ∙ sym (ap (λ ls. text ++ after (reverse ls) texts) none) ∙ so.printed texts count;
        counted = let e : awaited (reverse new_levels) ≡ 0 = ap (λ ls. awaited (reverse ls)) none_now in omega arith;
      };
} where
  no_texts : (texts : List (List ℕ)) → length texts ≡ 0 → texts ≡ []
  no_texts [] e = refl
  no_texts (t ∷ texts) e = absurd (omega arith)

closed : (names : Names) (c : Cell) (old old_levels text new new_levels : List ℕ) (own : List Value → List ℕ) →
    ((values : List Value) → map (value_text names) (put_before c values) ≡ own values ∷ map (value_text names) values) → ((values : List Value) → text ≡ old ++ own values) → Closes text old_levels new new_levels → Prints names c old old_levels new new_levels
closed names c old old_levels text new new_levels own first added so = record {
  due_next = λ whole values few is.
      let texts : List (List ℕ) = map (value_text names) values in
      let n : awaited old_levels ≡ length (map (value_text names) values) = let k : awaited old_levels ≡ suc (length (map (value_text names) values)) - 1 = is.counted ∙ ap (λ ts. length ts - 1) (first values) in omega arith in
      let e : text ++ after old_levels (map (value_text names) values) ≡ whole =
      ap (λ z. z ++ after old_levels (map (value_text names) values)) (added values) ∙ append_assoc old (own values) (after old_levels (map (value_text names) values)) ∙ ap (λ ts. old ++ due old_levels ts) (sym (first values)) ∙ is.printed in
      let next = so.due_next (map (value_text names) values) n in
      record { printed = next.printed ∙ e; counted = next.counted };
}

-- a word
pub word_printed : (names : Names) (c : Cell) (w : ℕ) (old old_levels text new new_levels : List ℕ) → c ≡ cell.Lit w → text ≡ old ++ decimal w → Closes text old_levels new new_levels → Prints names c old old_levels new new_levels
word_printed names c w old old_levels text new new_levels is_word is so =
    subst (λ d. Prints names d old old_levels new new_levels) (sym is_word)
    (closed names (cell.Lit w) old old_levels text new new_levels (λ values. decimal w) (λ values. ap (λ t. t ∷ map (value_text names) values) (value_text-Lit names w)) (λ values. is) so)

-- a constructor without fields
pub name_printed : (names : Names) (c : Cell) (d k n : ℕ) (old old_levels text new new_levels : List ℕ) → c ≡ cell.Con d k n → n ≡ 0 → text ≡ old ++ constructor_name names d k → Closes text old_levels new new_levels →
    Prints names c old old_levels new new_levels
name_printed names c d k n old old_levels text new new_levels is_con none is so =
    subst (λ e. Prints names e old old_levels new new_levels) (sym (is_con ∙ ap (cell.Con d k) none))
    (closed names (cell.Con d k 0) old old_levels text new new_levels (λ values. constructor_name names d k) (λ values. ap (λ t. t ∷ map (value_text names) values) (value_text-Con names d k [] ∙ append-nil (constructor_name names d k))) (λ values. is) so)

regroup : (old own opening first others closing behind : List ℕ) →
    ((old ++ own) ++ opening) ++ (first ++ (others ++ (closing ++ behind))) ≡ old ++ ((own ++ (opening ++ ((first ++ others) ++ closing))) ++ behind)
regroup old own opening first others closing behind = simp append_assoc

parted : List (List ℕ) → List ℕ
parted texts = flat_map (λ (t : List ℕ). codes ", " ++ t) texts

opens : (names : Names) (d k m : ℕ) (old levels whole : List ℕ) (values : List Value) → suc m ≤ length values → IsDue whole old levels (map (value_text names) (put_before (cell.Con d k (suc m)) values)) →
    IsDue whole ((old ++ constructor_name names d k) ++ codes "(") (m ∷ levels) (map (value_text names) values)
unfolding parted
opens names d k m old levels whole [] few is = absurd (omega arith)
opens names d k m old levels whole (v ∷ vs) few is = record {
  printed =
      ap (λ ts. ((old ++ constructor_name names d k) ++ codes "(") ++ (value_text names v ++ (parted ts ++ (codes ")" ++ after levels (drop m (map (value_text names) vs)))))) (take-map (value_text names) m vs)
      ∙ ap (λ ts. ((old ++ constructor_name names d k) ++ codes "(") ++ (value_text names v ++ (parted (map (value_text names) (take m vs)) ++ (codes ")" ++ after levels ts)))) (drop-map (value_text names) m vs)
      ∙ regroup old (constructor_name names d k) (codes "(") (value_text names v) (parted (map (value_text names) (take m vs))) (codes ")") (after levels (map (value_text names) (drop m vs)))
      ∙ ap (λ t. old ++ (t ++ after levels (map (value_text names) (drop m vs)))) (sym (value_text-Con names d k (v ∷ take m vs)))
      ∙ is.printed;
  counted = omega (arith, is.counted, length-map vs (value_text names), length-map (drop m vs) (value_text names), length-drop m vs);
}

pub popped : (levels behind : List ℕ) (more : ℕ) → levels ≡ behind ++ more ∷ [] → length behind < length levels
popped levels behind more is = omega (arith, ap length is, length-append behind (more ∷ []))

with_fields : (names : Names) (d k n : ℕ) (old levels named new new_levels : List ℕ) → n ≢ 0 → named ≡ old ++ constructor_name names d k → new ≡ named ++ codes "(" → new_levels ≡ levels ++ (n - 1) ∷ [] →
    Prints names (cell.Con d k n) old (reverse levels) new (reverse new_levels)
with_fields names d k zero old levels named new new_levels some is added pushed = absurd (some refl)
with_fields names d k (suc m) old levels named new new_levels some is added pushed =
    let one : suc m - 1 ≡ m = omega arith in
    let e : reverse new_levels ≡ m ∷ reverse levels = ap reverse pushed ∙ reverse_push levels (suc m - 1) ∙ ap (λ n. n ∷ reverse levels) one in
    let f : new ≡ (old ++ constructor_name names d k) ++ codes "(" = added ∙ ap (λ z. z ++ codes "(") is in
    record {
      due_next = λ whole values few due.
          subst (λ ls. IsDue whole new ls (map (value_text names) values)) (sym e) (subst (λ z. IsDue whole z (m ∷ reverse levels) (map (value_text names) values)) (sym f) (opens names d k m old (reverse levels) whole values few due));
    }

-- a constructor with fields
pub opening_printed : (names : Names) (c : Cell) (d k n : ℕ) (old levels named new new_levels : List ℕ) → c ≡ cell.Con d k n → n ≢ 0 → named ≡ old ++ constructor_name names d k → new ≡ named ++ codes "(" → new_levels ≡ levels ++ (n - 1) ∷ [] →
    Prints names c old (reverse levels) new (reverse new_levels)
opening_printed names c d k n old levels named new new_levels is_con some is added pushed =
    subst (λ e. Prints names e old (reverse levels) new (reverse new_levels)) (sym is_con) (with_fields names d k n old levels named new new_levels some is added pushed)

-- What is printed, with what the cells from this place on show, makes up the whole text.
pub record IsPrinted (names : Names) (v : Value) (cells : List Cell) (at : ℕ) (text levels : List ℕ) : Type 0 where
  pub values : AreValues (drop at cells)
  pub is_due : IsDue (value_text names v) text (reverse levels) (map (value_text names) (trees (drop at cells)))

pub printed_none : (names : Names) (v : Value) (cells : List Cell) (text levels : List ℕ) → cells ≡ preorder v → text ≡ [] → levels ≡ [] → IsPrinted names v cells 0 text levels
printed_none names v cells text levels is none no_levels =
    let one : trees cells ≡ v ∷ [] = ap trees is ∙ tree-preorder v in
    let e : reverse levels ≡ [] = ap reverse no_levels in
    record {
      values = value_is_values cells (is_one cells v is);
      is_due = record {
        printed = ap (λ z. z ++ due (reverse levels) (map (value_text names) (trees cells))) none ∙ ap (λ ls. due ls (map (value_text names) (trees cells))) e ∙ ap (λ vs. due [] (map (value_text names) vs)) one ∙ append-nil (value_text names v);
        counted = ap awaited e ∙ ap (λ vs. length (map (value_text names) vs) - 1) (sym one);
      };
    }

pub printed_more : (names : Names) (v : Value) (cells : List Cell) (at : ℕ) (d : Cell) (text levels new new_levels : List ℕ) → at < length cells → Prints names (get_or cells at d) text (reverse levels) new (reverse new_levels) →
    IsPrinted names v cells at text levels → IsPrinted names v cells (at + 1) new new_levels
printed_more names v cells at d text levels new new_levels within next so =
    let opened : drop at cells ≡ get_or cells at d ∷ drop (at + 1) cells = drop_more cells at d within in
    let below = has_fields (get_or cells at d) (drop (at + 1) cells) (subst AreValues opened so.values) in
    record {
      values = below.values;
      is_due = next.due_next (value_text names v) (trees (drop (at + 1) cells)) below.fields (subst (λ cs. IsDue (value_text names v) text (reverse levels) (map (value_text names) (trees cs))) opened so.is_due);
    }

pub printed_all : (names : Names) (v : Value) (cells : List Cell) (at : ℕ) (text levels : List ℕ) → length cells ≤ at → IsPrinted names v cells at text levels → text ≡ value_text names v
printed_all names v cells at text levels all so =
    sym (append-nil text) ∙ ap (λ cs. text ++ due (reverse levels) (map (value_text names) (trees cs))) (sym (drop_all at cells all)) ∙ so.is_due.printed where
      drop_all : (n : ℕ) (cs : List Cell) → length cs ≤ n → drop n cs ≡ []
      drop_all zero [] h = refl
      drop_all zero (d ∷ cs) h = absurd (omega arith)
      drop_all (suc n) [] h = refl
      drop_all (suc n) (d ∷ cs) h = drop_all n cs (omega arith)
