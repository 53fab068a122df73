-- The properties of the built-ins hold, and what properties that a function has imply, it has.
use Rattle.std.proofs.Common.{◌≡◌, ◌⊎◌, inl, inr, ⊎_elim, ℕ, zero, suc, ◌<◌, ◌≤◌, nat_le, ◌==◌, ◌^◌, List, [], ◌∷◌, ◌++◌, Bool, true, false}
use Rattle.std.proofs.Common.{Some, slice_get, leb-true, leb-false, le-leb, eqb-true, eq-eqb, refl, sym, ap, ◌∙◌, subst, arith}
use Rattle.px_terms.specs.Prop.{Prop}
use Rattle.px_terms.specs.Prop.TheVariants.{Comm, Idem, Sel, Refl, Irrefl, Sym, Antisym, Asym, Trans, Conn}
use Rattle.px_terms.specs.declared.types.Ty.{Ty, out-Ty}
use Rattle.px_terms.specs.declared.types.Ty.TheOpen.{Ty-F}
use Rattle.px_terms.specs.declared.types.Ty.TheVariants as type
use Rattle.px_terms.specs.declared.types.Fun.{Fun}
use Rattle.px_terms.specs.declared.term.Value.{Value, out-Value, roll-Value}
use Rattle.px_terms.specs.declared.term.Value.TheViews.{roll-out-Value}
use Rattle.px_terms.specs.declared.term.Value.TheVariants as value
use Rattle.px_terms.specs.declared.term.Value.TheOpen.{Value-F}
use Rattle.px_terms.specs.declared.program.ConDef.{ConDef}
use Rattle.px_terms.specs.declared.program.Program.{Program}
use Rattle.px_terms.specs.Types.{tys_instance}
use Rattle.px_terms.specs.Programs.{bool_type, bool_data}
use Rattle.px_terms.specs.Values.{IsInLayer, IsIn, AreIn}
use Rattle.px_terms.specs.Values as values
use Rattle.px_terms.specs.Meaning.{truth, Gives}
use Rattle.px_terms.specs.Meaning as meaning
use Rattle.px_terms.specs.Typing as typing
use Rattle.px_terms.specs.TypedPrograms.{IsTyped}
use Rattle.px_terms.specs.Clauses.{Subject, IsSubject, HasResult, functions_alone, clause_for}
use Rattle.px_terms.specs.Implied.{Closure}
use Rattle.px_terms.specs.Implied as implied
use Rattle.px_terms.specs.Extending.{IsWellFounded, IsTrueOfAll, HasInProgram}
use Rattle.px_totality.specs.PropertyLaws.{at_most, equal, ImpliedIsTrue, BuiltInsHave, BuiltInsLack}
use Rattle.px_totality.proofs.Instances.{nothing_is_some, one_item}
use Rattle.px_totality.proofs.TypesOfTerms.{constructor_of}
use Rattle.px_totality.proofs.Total.{IsWord, word_of}
use Rattle.px_totality.proofs.Valued.{IsBuilt, built}
use Rattle.px_totality.proofs.Closed.{one_subject}
use Rattle.px_totality.proofs.Examples.{not_same}
use Rattle.px_totality.proofs.Applied.{Ap, Result, result_of, one_result}
use Rattle.px_totality.proofs.Properties.{Says, IsTrue, comm_says, sel_says, irrefl_says, asym_says, conn_says, trans_says}
use Rattle.px_totality.proofs.Properties.{says_idem, says_refl, says_irrefl, says_sym, says_asym, says_conn, says_antisym, says_trans}
use Rattle.px_totality.proofs.Unique.{OfWords, gift_rests_on, lit_is}

no_values : (Q : Program) (types : List Ty) (vs : List Value) → AreIn Q types vs → types ≡ [] → vs ≡ []
no_values Q _ _ values.none e = refl
no_values Q _ _ (values.more first others) e = let wrong : ⊥ = cc in absurd wrong

con_is : (v : Value) (d k : ℕ) (fields : List Value) → out-Value v ≡ Value-F.Con d k fields → v ≡ value.Con d k fields
con_is v d k fields e = sym (roll-out-Value v) ∙ ap roll-Value e ∙ value.rolls-Con d k fields

-- a value of `Bool` is one of the two
truths : (Q : Program) → IsTyped Q → (v : Value) → IsIn Q bool_type v → (v ≡ truth false) ⊎ (v ≡ truth true)
truths Q typed v is_in =
    let b : IsBuilt Q v 0 [] = built Q v 0 [] bool_type refl is_in in
    let stands : slice_get bool_data.cons b.k ≡ Some b.c = sym (constructor_of Q 0 b.k bool_data typed.bool) ∙ b.found in
    go b.k b.c b.fields stands b.is b.are_in
  where
    bare : (c : ConDef) (fields : List Value) → record { fields = [] } ≡ c → AreIn Q (tys_instance [] c.fields) fields → fields ≡ []
    bare c fields e are = no_values Q (tys_instance [] c.fields) fields are (ap (λ (c : ConDef). tys_instance [] c.fields) (sym e))

    go : (k : ℕ) (c : ConDef) (fields : List Value) → slice_get bool_data.cons k ≡ Some c → out-Value v ≡ Value-F.Con 0 k fields →
        AreIn Q (tys_instance [] c.fields) fields → (v ≡ truth false) ⊎ (v ≡ truth true)
    go zero c fields at is are = inl (con_is v 0 0 fields is ∙ ap (value.Con 0 0) (bare c fields (one_item _ c at) are))
    go (suc zero) c fields at is are = inr (con_is v 0 1 fields is ∙ ap (value.Con 0 1) (bare c fields (one_item _ c at) are))
    go (suc (suc k)) c fields at is are = absurd (nothing_is_some c at)

module _ (Q : Program) (founded : IsWellFounded Q) (f : Fun) where
  module _ (s : Subject) (subject : IsSubject Q (functions_alone 0 []) f [] s) (is_bool : s.result ≡ bool_type) where
    -- what the function gives is a truth value
    gives_truth : (ls : List Value) (a b v : Value) → AreIn Q s.leading ls → IsIn Q s.last a → IsIn Q s.last b → Ap Q founded f s subject ls a b v →
        (v ≡ truth false) ⊎ (v ≡ truth true)
    gives_truth ls a b v leading in_a in_b given =
        let it : Result Q founded f s subject ls a b = result_of Q founded f s subject ls a b leading in_a in_b in
        let same : it.v ≡ v = one_result Q founded f s subject ls a b it.v v it.is given in
        truths Q founded.typed v (subst (λ (v : Value). IsIn Q bool_type v) same (subst (λ (T : Ty). IsIn Q T it.v) is_bool it.in_type))

    -- the value is the one truth, since it is not the other
    other_truth : (v w u : Value) → (v ≡ w) ⊎ (v ≡ u) → (v ≡ u → v ≡ w) → v ≡ w
    other_truth v w u (inl is) from = is
    other_truth v w u (inr is) from = from is

  sel_gives_idem : HasInProgram Q f Sel → HasInProgram Q f Idem
  sel_gives_idem h =
      let s : Subject = h.subject in
      let says : Says Q founded f s h.is_subject Idem =
      λ ls x v leading in_x given. ⊎_elim (λ is. is) (λ is. is) (sel_says Q founded f s h.is_subject h.is_true ls x x v leading in_x in_x given) in
      record { subject = s; is_subject = h.is_subject; result = h.result; is_true = says_idem Q founded f s h.is_subject says }

  conn_gives_refl : HasInProgram Q f Conn → HasInProgram Q f Refl
  conn_gives_refl h =
      let s : Subject = h.subject in
      let says : Says Q founded f s h.is_subject Refl = λ ls x v leading in_x given.
      flip v (gives_truth s h.is_subject h.result ls x x v leading in_x in_x given)
      (λ is. conn_says Q founded f s h.is_subject h.is_true ls x x v leading in_x in_x (subst (Ap Q founded f s h.is_subject ls x x) is given) given) in
      record { subject = s; is_subject = h.is_subject; result = h.result; is_true = says_refl Q founded f s h.is_subject says }
    where
      flip : (v : Value) → (v ≡ truth false) ⊎ (v ≡ truth true) → (v ≡ truth false → v ≡ truth true) → v ≡ truth true
      flip v (inl is) from = from is
      flip v (inr is) from = is

  asym_gives_irrefl : HasInProgram Q f Asym → HasInProgram Q f Irrefl
  asym_gives_irrefl h =
      let s : Subject = h.subject in
      let says : Says Q founded f s h.is_subject Irrefl = λ ls x v leading in_x given.
      other_truth s h.is_subject h.result v (truth false) (truth true) (gives_truth s h.is_subject h.result ls x x v leading in_x in_x given)
      (λ is. asym_says Q founded f s h.is_subject h.is_true ls x x v leading in_x in_x (subst (Ap Q founded f s h.is_subject ls x x) is given) given) in
      record { subject = s; is_subject = h.is_subject; result = h.result; is_true = says_irrefl Q founded f s h.is_subject says }

  asym_gives_antisym : HasInProgram Q f Asym → HasInProgram Q f Antisym
  asym_gives_antisym h =
      let s : Subject = h.subject in
      let says : Says Q founded f s h.is_subject Antisym =
      λ ls x y leading in_x in_y one two. absurd
      (not_same (sym (asym_says Q founded f s h.is_subject h.is_true ls x y (truth true) leading in_x in_y one two))) in
      record { subject = s; is_subject = h.is_subject; result = h.result; is_true = says_antisym Q founded f s h.is_subject says }

  irrefl_and_trans_give_asym : HasInProgram Q f Irrefl → HasInProgram Q f Trans → HasInProgram Q f Asym
  irrefl_and_trans_give_asym i t =
      let s : Subject = t.subject in
      let same : i.subject ≡ s = one_subject Q f i.subject s i.is_subject t.is_subject in
      let irrefl : IsTrueOfAll Q [] [] (clause_for s Irrefl 0 []) = subst (λ (s : Subject). IsTrueOfAll Q [] [] (clause_for s Irrefl 0 [])) same i.is_true in
      let says : Says Q founded f s t.is_subject Asym = λ ls x y v leading in_x in_y one two.
      other_truth s t.is_subject t.result v (truth false) (truth true) (gives_truth s t.is_subject t.result ls y x v leading in_y in_x two)
      (λ is.
      let it : Result Q founded f s t.is_subject ls x x = result_of Q founded f s t.is_subject ls x x leading in_x in_x in
      let back : Ap Q founded f s t.is_subject ls y x (truth true) = subst (Ap Q founded f s t.is_subject ls y x) is two in
      let yes : it.v ≡ truth true = trans_says Q founded f s t.is_subject t.is_true ls x y x it.v leading in_x in_y in_x one back it.is in
      let never : it.v ≡ truth false = irrefl_says Q founded f s t.is_subject irrefl ls x it.v leading in_x it.is in
      absurd (not_same (sym never ∙ yes))) in
      record { subject = s; is_subject = t.is_subject; result = t.result; is_true = says_asym Q founded f s t.is_subject says }

pub implied_is_true : ImpliedIsTrue
implied_is_true Q founded f _ (implied.known has) = has
implied_is_true Q founded f _ (implied.sel_gives_idem from) = sel_gives_idem Q founded f (implied_is_true Q founded f Sel from)
implied_is_true Q founded f _ (implied.conn_gives_refl from) = conn_gives_refl Q founded f (implied_is_true Q founded f Conn from)
implied_is_true Q founded f _ (implied.asym_gives_irrefl from) = asym_gives_irrefl Q founded f (implied_is_true Q founded f Asym from)
implied_is_true Q founded f _ (implied.asym_gives_antisym from) = asym_gives_antisym Q founded f (implied_is_true Q founded f Asym from)
implied_is_true Q founded f _ (implied.irrefl_and_trans_give_asym from other) =
    irrefl_and_trans_give_asym Q founded f (implied_is_true Q founded f Irrefl from) (implied_is_true Q founded f Trans other)

-- a comparison of two words, as what properties speak of
abbrev comparison : Fun → Subject
comparison f = record { function = f; given = []; leading = []; last = type.Word; result = bool_type }

at_most_subject : (Q : Program) → IsSubject Q (functions_alone 0 []) at_most [] (comparison at_most)
at_most_subject Q = record {
  takes = [];
  params = type.Word ∷ type.Word ∷ [];
  function = typing.at_most refl;
  taken = refl;
  shape = refl;
  is_function = refl;
  is_given = refl;
}

equal_subject : (Q : Program) → IsSubject Q (functions_alone 0 []) equal [] (comparison equal)
equal_subject Q = record {
  takes = [];
  params = type.Word ∷ type.Word ∷ [];
  function = typing.equal refl;
  taken = refl;
  shape = refl;
  is_function = refl;
  is_given = refl;
}

-- the two words that were compared
compared : (test : ℕ → ℕ → Bool) (ls : List Value) (a b : Value) (x y : ℕ) (v : Value) (c : ℕ) → ls ≡ [] → out-Value a ≡ Value-F.Lit x →
    out-Value b ≡ Value-F.Lit y → OfWords (λ x y. truth (test x y)) (ls ++ a ∷ b ∷ []) v c → v ≡ truth (test x y)
compared test ls a b x y v c none left right words =
    let both : a ∷ b ∷ [] ≡ words.a ∷ words.b ∷ [] = ap (λ (ls : List Value). ls ++ a ∷ b ∷ []) (sym none) ∙ words.two in
    let first : a ≡ words.a = cc in
    let second : b ≡ words.b = cc in
    let same_x : words.x ≡ x = lit_is words.x x (out-Value words.a) words.left (ap out-Value (sym first) ∙ left) in
    let same_y : words.y ≡ y = lit_is words.y y (out-Value words.b) words.right (ap out-Value (sym second) ∙ right) in
    words.is ∙ ap (λ (x : ℕ). truth (test x words.y)) same_x ∙ ap (λ (y : ℕ). truth (test x y)) same_y

is_true_of : (b : Bool) → truth true ≡ truth b → b ≡ true
is_true_of false e = absurd (not_same (sym e))
is_true_of true e = refl

is_false_of : (b : Bool) → truth false ≡ truth b → b ≡ false
is_false_of false e = refl
is_false_of true e = absurd (not_same e)

same_word : (a b : Value) (x y : ℕ) → out-Value a ≡ Value-F.Lit x → out-Value b ≡ Value-F.Lit y → x ≡ y → a ≡ b
same_word a b x y left right same = sym (roll-out-Value a) ∙ ap roll-Value (left ∙ ap Value-F.Lit same ∙ sym right) ∙ roll-out-Value b

module _ (Q : Program) (founded : IsWellFounded Q) where
  word : (v : Value) → IsIn Q type.Word v → IsWord v
  word v is_in = word_of Q v type.Word refl is_in

  at_most_is : (ls : List Value) (a b v : Value) → AreIn Q [] ls → (in_a : IsIn Q type.Word a) (in_b : IsIn Q type.Word b) →
      Ap Q founded at_most (comparison at_most) (at_most_subject Q) ls a b v → v ≡ truth (nat_le (word a in_a).word (word b in_b).word)
  at_most_is ls a b v leading in_a in_b given =
      compared nat_le ls a b (word a in_a).word (word b in_b).word v given.count (no_values Q [] ls leading refl) (word a in_a).is (word b in_b).is
      (gift_rests_on Q at_most [] (ls ++ a ∷ b ∷ []) v given.count given.gives)

  equal_is : (ls : List Value) (a b v : Value) → AreIn Q [] ls → (in_a : IsIn Q type.Word a) (in_b : IsIn Q type.Word b) →
      Ap Q founded equal (comparison equal) (equal_subject Q) ls a b v → v ≡ truth ((word a in_a).word == (word b in_b).word)
  equal_is ls a b v leading in_a in_b given =
      compared (λ x y. x == y) ls a b (word a in_a).word (word b in_b).word v given.count (no_values Q [] ls leading refl) (word a in_a).is (word b in_b).is
      (gift_rests_on Q equal [] (ls ++ a ∷ b ∷ []) v given.count given.gives)

  -- of two words the first is at most the second, where `wle` says so
  below : (ls : List Value) (a b : Value) → AreIn Q [] ls → (in_a : IsIn Q type.Word a) (in_b : IsIn Q type.Word b) →
      Ap Q founded at_most (comparison at_most) (at_most_subject Q) ls a b (truth true) → (word a in_a).word ≤ (word b in_b).word
  below ls a b leading in_a in_b given =
      leb-true (word a in_a).word (word b in_b).word
      (is_true_of (nat_le (word a in_a).word (word b in_b).word) (at_most_is ls a b (truth true) leading in_a in_b given))

  -- two words are the same, where `weq` says so
  same : (ls : List Value) (a b : Value) → AreIn Q [] ls → (in_a : IsIn Q type.Word a) (in_b : IsIn Q type.Word b) →
      Ap Q founded equal (comparison equal) (equal_subject Q) ls a b (truth true) → (word a in_a).word ≡ (word b in_b).word
  same ls a b leading in_a in_b given =
      eqb-true (word a in_a).word (word b in_b).word
      (is_true_of ((word a in_a).word == (word b in_b).word) (equal_is ls a b (truth true) leading in_a in_b given))

  at_most_has : (p : Prop) → HasResult (comparison at_most) p → IsTrue Q founded at_most (comparison at_most) (at_most_subject Q) p → HasInProgram Q at_most p
  at_most_has p result is_true = record { subject = comparison at_most; is_subject = at_most_subject Q; result = result; is_true = is_true }

  equal_has : (p : Prop) → HasResult (comparison equal) p → IsTrue Q founded equal (comparison equal) (equal_subject Q) p → HasInProgram Q equal p
  equal_has p result is_true = record { subject = comparison equal; is_subject = equal_subject Q; result = result; is_true = is_true }

  of_at_most : (p : Prop) → implied.HasAtMost p → HasInProgram Q at_most p
  of_at_most _ implied.refl = at_most_has Refl refl (says_refl Q founded at_most (comparison at_most) (at_most_subject Q) (λ ls x v leading in_x given.
      let n : ℕ = (word x in_x).word in
      at_most_is ls x x v leading in_x in_x given ∙ ap truth (le-leb n n (omega arith))))
  of_at_most _ implied.antisym =
      at_most_has Antisym refl (says_antisym Q founded at_most (comparison at_most) (at_most_subject Q) (λ ls x y leading in_x in_y one two.
      let up : (word x in_x).word ≤ (word y in_y).word = below ls x y leading in_x in_y one in
      let down : (word y in_y).word ≤ (word x in_x).word = below ls y x leading in_y in_x two in
      same_word x y (word x in_x).word (word y in_y).word (word x in_x).is (word y in_y).is (omega (arith, up, down))))
  of_at_most _ implied.trans =
      at_most_has Trans refl (says_trans Q founded at_most (comparison at_most) (at_most_subject Q) (λ ls x y z v leading in_x in_y in_z one two given.
      let up : (word x in_x).word ≤ (word y in_y).word = below ls x y leading in_x in_y one in
      let more : (word y in_y).word ≤ (word z in_z).word = below ls y z leading in_y in_z two in
      at_most_is ls x z v leading in_x in_z given ∙ ap truth (le-leb (word x in_x).word (word z in_z).word (omega (arith, up, more)))))
  of_at_most _ implied.conn =
      at_most_has Conn refl (says_conn Q founded at_most (comparison at_most) (at_most_subject Q) (λ ls x y v leading in_x in_y one given.
      let over : (word y in_y).word < (word x in_x).word =
      leb-false (word x in_x).word (word y in_y).word
      (is_false_of (nat_le (word x in_x).word (word y in_y).word) (at_most_is ls x y (truth false) leading in_x in_y one)) in
      at_most_is ls y x v leading in_y in_x given ∙ ap truth (le-leb (word y in_y).word (word x in_x).word (omega (arith, over)))))

  of_equal : (p : Prop) → implied.HasEqual p → HasInProgram Q equal p
  of_equal _ implied.refl = equal_has Refl refl (says_refl Q founded equal (comparison equal) (equal_subject Q) (λ ls x v leading in_x given.
      let n : ℕ = (word x in_x).word in
      equal_is ls x x v leading in_x in_x given ∙ ap truth (eq-eqb n n refl)))
  of_equal _ implied.sym = equal_has Sym refl (says_sym Q founded equal (comparison equal) (equal_subject Q) (λ ls x y v leading in_x in_y one given.
      let is : (word x in_x).word ≡ (word y in_y).word = same ls x y leading in_x in_y one in
      equal_is ls y x v leading in_y in_x given ∙ ap truth (eq-eqb (word y in_y).word (word x in_x).word (sym is))))
  of_equal _ implied.antisym = equal_has Antisym refl (says_antisym Q founded equal (comparison equal) (equal_subject Q) (λ ls x y leading in_x in_y one two.
      same_word x y (word x in_x).word (word y in_y).word (word x in_x).is (word y in_y).is (same ls x y leading in_x in_y one)))
  of_equal _ implied.trans =
      equal_has Trans refl (says_trans Q founded equal (comparison equal) (equal_subject Q) (λ ls x y z v leading in_x in_y in_z one two given.
      let first : (word x in_x).word ≡ (word y in_y).word = same ls x y leading in_x in_y one in
      let second : (word y in_y).word ≡ (word z in_z).word = same ls y z leading in_y in_z two in
      equal_is ls x z v leading in_x in_z given ∙ ap truth (eq-eqb (word x in_x).word (word z in_z).word (first ∙ second))))

  a_word : (n : ℕ) → n < 2 ^ 64 → IsIn Q type.Word (value.Lit n)
  a_word n small =
      subst (λ (y : Ty-F Ty). IsInLayer Q y (out-Value (value.Lit n))) (sym type.outs-Word)
      (subst (IsInLayer Q Ty-F.Word) (sym (value.outs-Lit n)) (values.word small))

  not_commutative : HasInProgram Q at_most Comm → ⊥
  not_commutative h =
      let s : Subject = comparison at_most in
      let one : h.subject ≡ s = one_subject Q at_most h.subject s h.is_subject (at_most_subject Q) in
      let is_true : IsTrueOfAll Q [] [] (clause_for s Comm 0 []) = subst (λ (s : Subject). IsTrueOfAll Q [] [] (clause_for s Comm 0 [])) one h.is_true in
      let up : Ap Q founded at_most s (at_most_subject Q) [] (value.Lit 0) (value.Lit 1) (truth true) = record {
        count = 0;
        gives = meaning.at_most {x = 0} {y = 1} (value.outs-Lit 0) (value.outs-Lit 1) refl;
      } in
      let down : Ap Q founded at_most s (at_most_subject Q) [] (value.Lit 1) (value.Lit 0) (truth false) = record {
        count = 0;
        gives = meaning.at_most {x = 1} {y = 0} (value.outs-Lit 1) (value.outs-Lit 0) refl;
      } in
      not_same (sym (comm_says Q founded at_most s (at_most_subject Q) is_true [] (value.Lit 0) (value.Lit 1) (truth true) (truth false) values.none
      (a_word 0 (omega arith)) (a_word 1 (omega arith)) up down))

  not_idempotent : HasInProgram Q at_most Idem → ⊥
  not_idempotent h =
      let one : h.subject ≡ comparison at_most = one_subject Q at_most h.subject (comparison at_most) h.is_subject (at_most_subject Q) in
      let result : bool_type ≡ type.Word = subst (λ (s : Subject). s.result ≡ s.last) one h.result in
      let wrong : Ty-F.Con 0 [] ≡ Ty-F.Word = sym (type.outs-Con 0 []) ∙ ap out-Ty result ∙ type.outs-Word in
      cc

pub built_ins_have : BuiltInsHave
built_ins_have = record { of_at_most = of_at_most; of_equal = of_equal }

pub built_ins_lack : BuiltInsLack
built_ins_lack = record { broken = not_commutative; unfit = not_idempotent }
