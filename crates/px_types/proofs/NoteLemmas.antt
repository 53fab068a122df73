-- What the notes say of the properties of each definition, as they grow.
use Rattle.std.proofs.Common.{◌≡◌, ◌⊎◌, ℕ, zero, suc, ◌<◌, ◌≤◌, ◌+◌, Bool, true, false, cond, eqb, ◌&&◌, ◌||◌, List, [], ◌∷◌, ◌++◌, length, take, get_or}
use Rattle.std.proofs.Common.{Some, refl, sym, ◌∙◌, ap, subst, Decides}
use Rattle.std.specs.Prelude.{slice_get, slice_set, ◌==◌, ◌↔◌}
use Rattle.std.specs.List.{list_any}
use Rattle.std.proofs.Math.Dec.{eqb-suc-zero, eqb-zero-suc, eqb-suc-suc}
use Rattle.std.proofs.lemmas.Bool.Decides.{same_from_decides, Decides-eqb, Decides-or, Decides-like}
use Rattle.std.proofs.lemmas.List.{take_all}
use Rattle.std.proofs.lemmas.List.Folds.{list_any-append, list_any_more}
use Rattle.std.proofs.lemmas.Option.{slice_get-get_or}
use Rattle.px_base.specs.PropSets.{prop_number, has_prop, HasProp}
use Rattle.px_base.specs.declared.prop.Prop.{Prop}
use Rattle.px_base.specs.declared.prop.Prop.TheVariants.{Comm, Assoc, Idem, Sel, Refl, Irrefl, Sym, Antisym, Asym, Trans, Conn}
use Rattle.px_base.specs.declared.prop.PropSet.{PropSet}
use Rattle.px_base.specs.declared.raw.RawProp.{RawProp}
use Rattle.px_terms.specs.declared.program.Declared.{Declared}
use Rattle.px_terms.specs.declared.program.Declared.TheVariants as declared
use Rattle.px_types.specs.Written.{props_of}
use Rattle.px_types.specs.Declarations.{obligations_of}
use Rattle.px_types.specs.Outcome.{same_prop, is_among, is_property_of}
use Rattle.px_types.specs.Checkings.{is_noted, AreNotes}

or_none : (b : Bool) → (b || false) ≡ b
or_none true = refl
or_none false = refl

-- the property of a number
prop_at : ℕ → Prop
prop_at n =
    cond (eqb n 0) Comm (cond (eqb n 1) Assoc (cond (eqb n 2) Idem (cond (eqb n 3) Sel (cond (eqb n 4) Refl
    (cond (eqb n 5) Irrefl (cond (eqb n 6) Sym (cond (eqb n 7) Antisym (cond (eqb n 8) Asym (cond (eqb n 9) Trans Conn)))))))))

prop_at_number : (p : Prop) → prop_at (prop_number p) ≡ p
unfolding prop_at
prop_at_number Comm = refl
prop_at_number Assoc = refl
prop_at_number Idem = refl
prop_at_number Sel = refl
prop_at_number Refl = refl
prop_at_number Irrefl = refl
prop_at_number Sym = refl
prop_at_number Antisym = refl
prop_at_number Asym = refl
prop_at_number Trans = refl
prop_at_number Conn = refl

decides_prop : (p q : Prop) → Decides (same_prop p q) (p ≡ q)
decides_prop p q =
    Decides-like _ (λ e. sym (prop_at_number p) ∙ ap prop_at e ∙ prop_at_number q) (λ e. ap prop_number e) (Decides-eqb (prop_number p) (prop_number q))

-- one property more in a set
pub one_more : (set with_one : PropSet) (q : Prop) → ((p : Prop) → HasProp with_one p ↔ (HasProp set p ⊎ (p ≡ q))) → (p : Prop) →
    has_prop with_one p ≡ (has_prop set p || same_prop p q)
one_more set with_one q is p =
    same_from_decides (has_prop with_one p) (has_prop set p || same_prop p q) ((is p).0, (is p).1) (Decides-or (has_prop set p) (same_prop p q) (λ e. e, λ e. e)
    (decides_prop p q))

-- the properties so far of a list
abbrev pub among_first : ℕ → List RawProp → Prop → Bool
among_first i raws p = list_any (λ (raw : RawProp). same_prop p raw.prop) (take i raws)

or_assoc : (a b c : Bool) → ((a || b) || c) ≡ (a || (b || c))
or_assoc true b c = refl
or_assoc false b c = refl

pub among_next : (raws : List RawProp) (i : ℕ) (d : RawProp) (old set with_one : PropSet) → i < length raws →
    ((p : Prop) → HasProp with_one p ↔ (HasProp set p ⊎ (p ≡ (get_or raws i d).prop))) →
    ((p : Prop) → has_prop set p ≡ (has_prop old p || among_first i raws p)) → (p : Prop) → has_prop with_one p ≡ (has_prop old p || among_first (i + 1) raws p)
among_next raws i d old set with_one below is before p =
    one_more set with_one (get_or raws i d).prop is p
    ∙ ap (λ (b : Bool). b || same_prop p (get_or raws i d).prop) (before p)
    ∙ or_assoc (has_prop old p) (among_first i raws p) (same_prop p (get_or raws i d).prop)
    ∙ ap (λ (b : Bool). has_prop old p || b) (sym (list_any_more (λ (raw : RawProp). same_prop p raw.prop) raws i d below))

among_written : (p : Prop) (raws : List RawProp) → list_any (λ (raw : RawProp). same_prop p raw.prop) raws ≡ is_among (props_of raws) p
among_written p [] = refl
among_written p (raw ∷ raws) = ap (λ (b : Bool). same_prop p raw.prop || b) (among_written p raws)

pub among_all : (raws : List RawProp) (i : ℕ) (old set : PropSet) → length raws ≤ i → ((p : Prop) → has_prop set p ≡ (has_prop old p || among_first i raws p)) →
    (p : Prop) → has_prop set p ≡ (has_prop old p || is_among (props_of raws) p)
among_all raws i old set past before p =
    before p ∙ ap (λ (b : Bool). has_prop old p || b) (ap (λ (xs : List RawProp). list_any (λ (raw : RawProp). same_prop p raw.prop) xs) (take_all i raws past)
    ∙ among_written p raws)

-- the set that stands for a definition is another one
pub noted_set : (notes : List PropSet) (def : ℕ) (old set : PropSet) (test : Prop → Bool) → slice_get notes def ≡ Some old →
    ((p : Prop) → has_prop set p ≡ (has_prop old p || test p)) → (n : ℕ) (p : Prop) →
    is_noted (slice_set notes def set) n p ≡ (is_noted notes n p || (def == n && test p))
noted_set [] def old set test stands is n p = absurd cc
noted_set (x ∷ xs) zero old set test stands is zero p =
    let same : x ≡ old = cc in
    is p ∙ ap (λ (s : PropSet). has_prop s p || test p) (sym same)
noted_set (x ∷ xs) zero old set test stands is (suc n) p =
    sym (ap (λ (b : Bool). is_noted xs n p || (b && test p)) (eqb-zero-suc n) ∙ or_none (is_noted xs n p))
noted_set (x ∷ xs) (suc def) old set test stands is zero p =
    sym (ap (λ (b : Bool). has_prop x p || (b && test p)) (eqb-suc-zero def) ∙ or_none (has_prop x p))
noted_set (x ∷ xs) (suc def) old set test stands is (suc n) p =
    noted_set xs def old set test stands is n p
    ∙ sym (ap (λ (b : Bool). is_noted xs n p || (b && test p)) (eqb-suc-suc def n))

-- a set of no property is noted of nothing
pub noted_room : (notes : List PropSet) (set : PropSet) → ((p : Prop) → has_prop set p ≡ false) → (n : ℕ) (p : Prop) →
    is_noted (notes ++ set ∷ []) n p ≡ is_noted notes n p
noted_room [] set none zero p = none p
noted_room [] set none (suc n) p = refl
noted_room (x ∷ xs) set none zero p = refl
noted_room (x ∷ xs) set none (suc n) p = noted_room xs set none n p

pub nothing : (p : Prop) → has_prop (record { has = false ∷ false ∷ false ∷ false ∷ false ∷ false ∷ false ∷ false ∷ false ∷ false ∷ false ∷ [] }) p ≡ false
nothing Comm = refl
nothing Assoc = refl
nothing Idem = refl
nothing Sel = refl
nothing Refl = refl
nothing Irrefl = refl
nothing Sym = refl
nothing Antisym = refl
nothing Asym = refl
nothing Trans = refl
nothing Conn = refl

-- the notes of no obligation
pub no_notes : AreNotes [] []
no_notes = record { are = λ n p. refl }

eqb_sym : (a b : ℕ) → eqb a b ≡ eqb b a
eqb_sym a b = same_from_decides (eqb a b) (eqb b a) (Decides-eqb a b) (Decides-like (eqb b a) sym sym (Decides-eqb b a))

or_and : (b x y : Bool) → ((b && x) || (b && y)) ≡ (b && (x || y))
or_and true x y = refl
or_and false x y = refl

and_none : (b : Bool) → false ≡ (b && false)
and_none true = refl
and_none false = refl

-- which properties of definition n are among the obligations of these properties of a definition
among_obligations : (n def : ℕ) (p : Prop) (raws : List RawProp) →
    list_any (is_property_of n p) (obligations_of def raws) ≡ (def == n && is_among (props_of raws) p)
among_obligations n def p [] = and_none (def == n)
among_obligations n def p (raw ∷ raws) =
    (λ i. (def == n && eqb_sym (prop_number raw.prop) (prop_number p) i) || among_obligations n def p raws i)
    ∙ or_and (def == n) (same_prop p raw.prop) (is_among (props_of raws) p)

-- properties are declared of a definition, and noted
pub notes_more : (before : List Declared) (old new : List PropSet) (def : ℕ) (raws : List RawProp) → AreNotes before old →
    ((n : ℕ) (p : Prop) → is_noted new n p ≡ (is_noted old n p || (def == n && is_among (props_of raws) p))) → AreNotes (before ++ obligations_of def raws) new
notes_more before old new def raws notes is = record {
  are = λ n p.
      is n p
      ∙ (λ i. notes.are n p i || sym (among_obligations n def p raws) i)
      ∙ sym (list_any-append (is_property_of n p) before (obligations_of def raws));
}

-- the notes are others that say the same, and the obligations are the same
pub notes_same : (before others : List Declared) (old new : List PropSet) → others ≡ before → AreNotes before old →
    ((n : ℕ) (p : Prop) → is_noted new n p ≡ is_noted old n p) → AreNotes others new
notes_same before others old new e notes is =
    record { are = λ n p. is n p ∙ notes.are n p ∙ ap (λ (xs : List Declared). list_any (is_property_of n p) xs) (sym e) }

-- a lemma is no property
pub notes_lemma : (obligations : List Declared) (notes : List PropSet) (number : ℕ) → AreNotes obligations notes →
    AreNotes (obligations ++ declared.Lemma number ∷ []) notes
notes_lemma obligations notes number before = record {
  are =
      λ n p. before.are n p ∙ sym (list_any-append (is_property_of n p) obligations (declared.Lemma number ∷ []) ∙ or_none
      (list_any (is_property_of n p) obligations));
}

-- all properties of a list are noted
pub all_noted : (notes looked new : List PropSet) (def : ℕ) (d set : PropSet) (raws : List RawProp) (i : ℕ) → looked ≡ notes → def < length notes →
    length raws ≤ i → ((p : Prop) → has_prop set p ≡ (has_prop (get_or looked def d) p || among_first i raws p)) → new ≡ slice_set notes def set →
    (n : ℕ) (p : Prop) → is_noted new n p ≡ (is_noted notes n p || (def == n && is_among (props_of raws) p))
all_noted notes looked new def d set raws i same below past is e n p =
    let stands : slice_get notes def ≡ Some (get_or looked def d) = slice_get-get_or notes def d below ∙ ap (λ (xs : List PropSet). Some (get_or xs def d))
    (sym same) in
    ap (λ (xs : List PropSet). is_noted xs n p) e
    ∙ noted_set notes def (get_or looked def d) set (is_among (props_of raws)) stands (among_all raws i (get_or looked def d) set past is) n p

-- properties are declared of a definition, after room is made for them, and noted
pub notes_declared : (before after : List Declared) (old room new : List PropSet) (def : ℕ) (raws : List RawProp) → AreNotes before old →
    ((n : ℕ) (p : Prop) → is_noted room n p ≡ is_noted old n p) → after ≡ before ++ obligations_of def raws →
    ((n : ℕ) (p : Prop) → is_noted new n p ≡ (is_noted room n p || (def == n && is_among (props_of raws) p))) → AreNotes after new
notes_declared before after old room new def raws notes same e is =
    subst (λ (xs : List Declared). AreNotes xs new) (sym e) (notes_more before room new def raws (notes_same before before old room refl notes same) is)

-- the notes of obligations that are the same
pub notes_kept : (before after : List Declared) (notes : List PropSet) → after ≡ before → AreNotes before notes → AreNotes after notes
notes_kept before after notes e are = subst (λ (xs : List Declared). AreNotes xs notes) (sym e) are
