-- A text is at most one value of a type.
use Rattle.std.proofs.Common.{◌≡◌, ℕ, zero, suc, ◌+◌, ◌<◌, false, List, [], ◌∷◌, ◌++◌, length, take, drop, refl, sym, ap, ◌∙◌, subst, arith}
use Rattle.std.specs.List.{prefix_len}
use Rattle.std.proofs.lemmas.List.{append-nil, length-append}
use Rattle.px_base.specs.Lawful.{IsLawful}
use Rattle.px_terms.specs.declared.types.Ty.{Ty, out-Ty}
use Rattle.px_terms.specs.declared.types.Ty.TheOpen.{Ty-F}
use Rattle.px_terms.specs.declared.types.Ty.TheVariants as types
use Rattle.px_terms.specs.declared.types.Ty.TheViews.{roll-Ty, roll-out-Ty}
use Rattle.px_terms.specs.declared.term.Value.{Value}
use Rattle.px_terms.specs.declared.program.Program.{Program}
use Rattle.px_terms.specs.Types.{tys_instance}
use Rattle.px_machine.specs.declared.cells.Cell.{Cell}
use Rattle.px_machine.specs.declared.cells.Cell.TheVariants as cell
use Rattle.px_machine.specs.Cells.{preorder, preorders}
use Rattle.px_schedule.specs.declared.runs.Class.{Class}
use Rattle.px_schedule.specs.declared.runs.Class.TheVariants as classes
use Rattle.px_schedule.specs.declared.wanted.Wanted.{Wanted}
use Rattle.px_schedule.specs.declared.wanted.Wanted.TheVariants as wanted
use Rattle.px_schedule.specs.Runs.{is_in, begins, IsRun}
use Rattle.px_schedule.specs.ValueGrammar.{IsText}
use Rattle.px_schedule.specs.Wanting.{field_wants, AreWants, Completes}
use Rattle.px_schedule.proofs.RunFacts.{run_is}
use Rattle.px_schedule.proofs.Spellings.{is_space, IsSolid}
use Rattle.px_schedule.proofs.NameFacts.{name_upper, name_solid, SameNamed, one_named}
use Rattle.px_schedule.proofs.ValueFacts.{in_variable}
use Rattle.px_schedule.proofs.WantFacts.{ValueNeeds, NoNeeds, needs, fields_are}
use Rattle.px_schedule.proofs.Turning.{completes_behind, IsMarked, mark_first}
use Rattle.px_schedule.proofs.WordSteps.{IsWordFirst, word_first}
use Rattle.px_schedule.proofs.ConSteps.{IsConFirst, con_first}
use Rattle.px_schedule.proofs.WholeTexts.{whole, shown}

-- the bytes of the class at the front of a text
abbrev front_of : Class → List ℕ → List ℕ
front_of class text = take (prefix_len (is_in class) text) text

abbrev behind_of : Class → List ℕ → List ℕ
behind_of class text = drop (prefix_len (is_in class) text) text

front_is : (class : Class) (text : List ℕ) → IsRun class text (front_of class text) (behind_of class text)
front_is class text = run_is class text (front_of class text) (behind_of class text) (prefix_len (is_in class) text) refl refl refl

split_length : (class : Class) (text word rest : List ℕ) → IsRun class text word rest → length text ≡ length word + length rest
split_length class text word rest run = ap length run.whole ∙ length-append word rest

-- what is wanted of texts that are shorter has one completion
abbrev AreUnique : Program → ℕ → Type 0
AreUnique P room = (ws : List Wanted) → AreWants ws → (text : List ℕ) → length text < room → (vs us : List Value) → Completes P ws text vs → Completes P ws text us → preorders vs ≡ preorders us

module _ (P : Program) (lawful : IsLawful P.names) (room : ℕ) (unique : AreUnique P room) where
  after_mark : (c : ℕ) (ws : List Wanted) → AreWants ws → (text : List ℕ) → length text < suc room → begins is_space text ≡ false → (vs us : List Value) → Completes P (wanted.Mark c ∷ ws) text vs → Completes P (wanted.Mark c ∷ ws) text us → preorders vs ≡ preorders us
  after_mark c ws are text less ends vs us C D =
      let m : IsMarked P c ws text vs = mark_first P c ws text ends vs C in
      let n : IsMarked P c ws text us = mark_first P c ws text ends us D in
      let both : c ∷ n.rest ≡ c ∷ m.rest = sym n.is ∙ m.is in
      let same : n.rest ≡ m.rest = cc in
      let long : length text ≡ suc (length m.rest) = ap length m.is in
      unique ws are m.rest (omega arith) vs us m.completes (subst (λ (rest : List ℕ). Completes P ws rest us) same n.completes)

  after_word : (T : Ty) → T ≡ types.Word → (ws : List Wanted) → AreWants (wanted.Value T ∷ ws) → (text : List ℕ) → length text < suc room → begins is_space text ≡ false → (vs us : List Value) → Completes P (wanted.Value T ∷ ws) text vs → Completes P (wanted.Value T ∷ ws) text us → preorders vs ≡ preorders us
  after_word T is ws are text less ends vs us C D =
      let digits : List ℕ = front_of classes.Digit text in
      let rest : List ℕ = behind_of classes.Digit text in
      let run : IsRun classes.Digit text digits rest = front_is classes.Digit text in
      let f : IsWordFirst P ws digits rest vs = word_first P T is ws are text digits rest ends run vs C in
      let g : IsWordFirst P ws digits rest us = word_first P T is ws are text digits rest ends run us D in
      let some : 0 < length digits = f.numeral_is.some in
      let long : length text ≡ length digits + length rest = split_length classes.Digit text digits rest run in
      let others : preorders f.others ≡ preorders g.others = unique ws are.1 rest (omega arith) f.others g.others f.completes g.completes in
      let same : f.w ≡ g.w = sym f.numeral_is.value ∙ g.numeral_is.value in
      f.are ∙ ap (λ (cells : List Cell). cell.Lit f.w ∷ cells) others ∙ ap (λ (w : ℕ). cell.Lit w ∷ preorders g.others) same ∙ sym g.are

  after_con : (T : Ty) (d : ℕ) (args : List Ty) → out-Ty T ≡ Ty-F.Con d args → (ws : List Wanted) → AreWants (wanted.Value T ∷ ws) → (text : List ℕ) → length text < suc room → begins is_space text ≡ false → (vs us : List Value) → Completes P (wanted.Value T ∷ ws) text vs → Completes P (wanted.Value T ∷ ws) text us → preorders vs ≡ preorders us
  after_con T d args is ws are text less ends vs us C D =
      let word : List ℕ = front_of classes.NamePart text in
      let rest : List ℕ = behind_of classes.NamePart text in
      let run : IsRun classes.NamePart text word rest = front_is classes.NamePart text in
      let f : IsConFirst P d args ws word rest vs = con_first P lawful T d args is ws are text word rest ends run vs C in
      let g : IsConFirst P d args ws word rest us = con_first P lawful T d args is ws are text word rest ends run us D in
      let s : SameNamed g.k f.k g.fields f.fields = one_named P lawful d word g.k f.k g.fields f.fields g.named f.named in
      let solid : IsSolid word = name_solid word (name_upper P.names lawful d f.k word f.named.named) in
      let some : length word ≡ suc (length solid.rest) = ap length solid.is in
      let long : length text ≡ length word + length rest = split_length classes.NamePart text word rest run in
      let there : Completes P (field_wants (tys_instance args f.fields) ++ ws) rest (g.values ++ g.others) = subst (λ (fields : List Ty). Completes P (field_wants (tys_instance args fields) ++ ws) rest (g.values ++ g.others)) s.types g.completes in
      let inner : preorders (f.values ++ f.others) ≡ preorders (g.values ++ g.others) = unique (field_wants (tys_instance args f.fields) ++ ws) (fields_are (tys_instance args f.fields) ws are.1) rest (omega arith) (f.values ++ f.others) (g.values ++ g.others) f.completes there in
      let top : cell.Con d g.k (length g.fields) ≡ cell.Con d f.k (length f.fields) = ap (λ (k : ℕ). cell.Con d k (length g.fields)) s.number ∙ ap (λ (fields : List Ty). cell.Con d f.k (length fields)) s.types in
      f.are ∙ ap (λ (cells : List Cell). cell.Con d f.k (length f.fields) ∷ cells) inner ∙ ap (λ (c : Cell). c ∷ preorders (g.values ++ g.others)) (sym top) ∙ sym g.are

  after_value : (T : Ty) (t : Ty-F Ty) → out-Ty T ≡ t → (ws : List Wanted) → AreWants (wanted.Value T ∷ ws) → (text : List ℕ) → length text < suc room → begins is_space text ≡ false → (vs us : List Value) → Completes P (wanted.Value T ∷ ws) text vs → Completes P (wanted.Value T ∷ ws) text us → preorders vs ≡ preorders us
  after_value T Ty-F.Word is ws are text less ends vs us C D =
      after_word T (sym (roll-out-Ty T) ∙ ap roll-Ty is ∙ types.rolls-Word) ws are text less ends vs us C D
  after_value T (Ty-F.Con d args) is ws are text less ends vs us C D = after_con T d args is ws are text less ends vs us C D
  after_value T (Ty-F.Var n) is ws are text less ends vs us C D =
      let needed : ValueNeeds P T ws vs C.pieces = needs P C.fits in
      absurd (in_variable P needed.inside n is)

  solid_text : (ws : List Wanted) → AreWants ws → (text : List ℕ) → length text < suc room → begins is_space text ≡ false → (vs us : List Value) → Completes P ws text vs → Completes P ws text us → preorders vs ≡ preorders us
  solid_text [] are text less ends vs us C D =
      let m : NoNeeds vs C.pieces = needs P C.fits in
      let n : NoNeeds us D.pieces = needs P D.fits in
      ap preorders (m.values ∙ sym n.values)
  solid_text (wanted.Mark c ∷ ws) are text less ends vs us C D = after_mark c ws are.1 text less ends vs us C D
  solid_text (wanted.Value T ∷ ws) are text less ends vs us C D = after_value T (out-Ty T) refl ws are text less ends vs us C D

  one_longer : AreUnique P (suc room)
  one_longer ws are text less vs us C D =
      let spaces : List ℕ = front_of classes.Space text in
      let back : List ℕ = behind_of classes.Space text in
      let run : IsRun classes.Space text spaces back = front_is classes.Space text in
      let long : length text ≡ length spaces + length back = split_length classes.Space text spaces back run in
      solid_text ws are back (omega arith) run.ends vs us (completes_behind P lawful ws are text spaces back run.whole run.each run.ends vs C) (completes_behind P lawful ws are text spaces back run.whole run.each run.ends us D)

all_unique : (P : Program) → IsLawful P.names → (room : ℕ) → AreUnique P room
all_unique P lawful zero = λ ws are text less vs us C D. absurd (omega arith)
all_unique P lawful (suc room) = one_longer P lawful room (all_unique P lawful room)

-- no text is two values of one type
pub one_reading : (P : Program) (T : Ty) (text : List ℕ) (v w : Value) → IsLawful P.names → IsText P T text v → IsText P T text w → v ≡ w
one_reading P T text v w lawful is other =
    let e : preorders (v ∷ []) ≡ preorders (w ∷ []) = all_unique P lawful (suc (length text)) (wanted.Value T ∷ []) (tt, tt) text (omega arith) (v ∷ []) (w ∷ []) (whole P T text v is) (whole P T text w other) in
    let cells : preorder w ≡ preorder v = sym (append-nil (preorder w)) ∙ sym e ∙ append-nil (preorder v) in
    sym (shown v (preorder v) refl) ∙ shown w (preorder v) cells
