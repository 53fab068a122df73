-- What is done at a term is a step there.
use Rattle.std.proofs.Common.{◌≡◌, ℕ, suc, List, [], ◌∷◌, Bool, true, false, ◌&&◌, if◌then◌else◌, nat_le, ◌==◌, nat_lt, Option, Some, None, IsTrue, slice_get, option_and_then, refl, sym, ap, ◌∙◌, subst}
use Rattle.std.specs.Option.{option_map}
use Rattle.px_base.specs.declared.head.Head.{Head}
use Rattle.px_base.specs.declared.head.Head.TheVariants.{Def, Wle, Weq, FnVar}
use Rattle.px_terms.specs.declared.types.Fun.{Fun}
use Rattle.px_terms.specs.declared.term.Term.{Term, out-Term}
use Rattle.px_terms.specs.declared.term.Term.TheOpen.{Term-F}
use Rattle.px_terms.specs.declared.clause.Equation.{Equation}
use Rattle.px_terms.specs.declared.program.Program.{Program}
use Rattle.px_terms.specs.declared.row.Kind.{Kind}
use Rattle.px_terms.specs.declared.row.Kind.TheVariants as kind
use Rattle.px_terms.specs.Terms.{term_instance}
use Rattle.px_terms.specs.Programs.{body_of}
use Rattle.px_terms.specs.Steps.{with_fields, truth_term, Turns}
use Rattle.px_terms.specs.Steps as steps
use Rattle.px_prover.specs.Rooms.{Room}
use Rattle.px_prover.specs.Deeds.{FirstRewrite, no_fact, this_fact, next_fact, Deed, takes, leads, rests, takes_if, leads_if, selected, word_of, two_words, compared, called, own_deed, deed_at, may, permitted}
use Rattle.px_prover.specs.Moves.{AreAmong}
use Rattle.px_prover.proofs.OneNorm.{some_one, none_is_not_some}

-- A term turns into another by a step of some kind.
pub record SomeTurn (P : Program) (facts : List Equation) (t r : Term) : Type 0 where
  pub kind : Kind
  pub turns : Turns P facts kind t r

rests_is_not_takes : {r : Term} → rests ≡ takes r → ⊥
rests_is_not_takes e = cc

rests_is_not_leads : {r : Term} → rests ≡ leads r → ⊥
rests_is_not_leads e = cc

takes_if_takes : (o : Option Term) {r : Term} → takes_if o ≡ takes r → o ≡ Some r
takes_if_takes None e = absurd (rests_is_not_takes e)
takes_if_takes (Some t) e = cc

takes_if_does_not_lead : (o : Option Term) {r : Term} → takes_if o ≡ leads r → ⊥
takes_if_does_not_lead None e = rests_is_not_leads e
takes_if_does_not_lead (Some t) e = cc

leads_if_leads : (o : Option Term) {r : Term} → leads_if o ≡ leads r → o ≡ Some r
leads_if_leads None e = absurd (rests_is_not_leads e)
leads_if_leads (Some t) e = cc

leads_if_does_not_take : (o : Option Term) {r : Term} → leads_if o ≡ takes r → ⊥
leads_if_does_not_take None e = rests_is_not_takes e
leads_if_does_not_take (Some t) e = cc

-- What was mapped.
record Mapped {A B : Type 0} (f : A → B) (o : Option A) (b : B) : Type 0 where
  item : A
  is : o ≡ Some item
  made : b ≡ f item

mapped : {A B : Type 0} (f : A → B) (o : Option A) {b : B} → option_map f o ≡ Some b → Mapped f o b
mapped f None e = absurd (none_is_not_some e)
mapped f (Some a) e = record { item = a; is = refl; made = sym (some_one e) }

-- The two words, with the literals that they are of.
record TwoLiterals (args : List Term) (words : ℕ × ℕ) : Type 0 where
  first : Term
  second : Term
  are : args ≡ first ∷ second ∷ []
  first_is : out-Term first ≡ Term-F.Lit words.0
  second_is : out-Term second ≡ Term-F.Lit words.1

word_is : (y : Term-F Term) {w : ℕ} → word_of y ≡ Some w → y ≡ Term-F.Lit w
word_is (Term-F.Lit v) e = ap Term-F.Lit (some_one e)
word_is (Term-F.Free n) e = absurd (none_is_not_some e)
word_is (Term-F.Bound n) e = absurd (none_is_not_some e)
word_is (Term-F.Con d k types fields) e = absurd (none_is_not_some e)
word_is (Term-F.Call f funs args) e = absurd (none_is_not_some e)
word_is (Term-F.Match on d types arms) e = absurd (none_is_not_some e)

both_words : (o p : Option ℕ) {words : ℕ × ℕ} → option_and_then (λ (x : ℕ). option_map (λ (y : ℕ). (x, y)) p) o ≡ Some words → (o ≡ Some words.0) × (p ≡ Some words.1)
both_words None p e = absurd (none_is_not_some e)
both_words (Some x) None e = absurd (none_is_not_some e)
both_words (Some x) (Some y) e = let same = some_one e in ((λ k. Some ((same k).0)), (λ k. Some ((same k).1)))

two_literals : (args : List Term) {words : ℕ × ℕ} → two_words args ≡ Some words → TwoLiterals args words
two_literals [] e = absurd (none_is_not_some e)
two_literals (a ∷ []) e = absurd (none_is_not_some e)
two_literals (a ∷ b ∷ []) e =
    let both = both_words (word_of (out-Term a)) (word_of (out-Term b)) e in
    record { first = a; second = b; are = refl; first_is = word_is (out-Term a) both.0; second_is = word_is (out-Term b) both.1 }
two_literals (a ∷ b ∷ c ∷ more) e = absurd (none_is_not_some e)

-- What a comparison takes is the truth of it, on two literals.
record Compared (holds : ℕ → ℕ → Bool) (args : List Term) (r : Term) : Type 0 where
  words : ℕ × ℕ
  literals : TwoLiterals args words
  truth : r ≡ truth_term (holds words.0 words.1)

compared_takes : (holds : ℕ → ℕ → Bool) (args : List Term) {r : Term} → compared holds args ≡ takes r → Compared holds args r
compared_takes holds args e =
    let m = mapped (λ (words : ℕ × ℕ). truth_term (holds words.0 words.1)) (two_words args) (takes_if_takes _ e) in
    record { words = m.item; literals = two_literals args m.is; truth = m.made }

-- the layer of a call, by its head and its arguments
same_call : (f : Fun) (h : Head) (funs : List Fun) {args others : List Term} → f.head ≡ h → args ≡ others →
    Term-F.Call f funs args ≡ Term-F.Call (record { head = h; types = f.types }) funs others
same_call f h funs e es = λ k. Term-F.Call (record { head = e k; types = f.types }) funs (es k)

module _ (P : Program) (facts : List Equation) (t r : Term) where
  pub call_compares : (h : Head) (f : Fun) (funs : List Fun) (args : List Term) → f.head ≡ h → out-Term t ≡ Term-F.Call f funs args → called P h f funs args ≡ takes r →
      Turns P facts kind.Compare t r
  call_compares (Def n) f funs args is layer e = absurd (leads_if_does_not_take _ e)
  call_compares Wle f funs args is layer e =
      let c = compared_takes nat_le args e in
      steps.compares_order (layer ∙ same_call f Wle funs is c.literals.are) c.literals.first_is c.literals.second_is c.truth
  call_compares Weq f funs args is layer e =
      let c = compared_takes (λ (x y : ℕ). x == y) args e in
      steps.compares_equality (layer ∙ same_call f Weq funs is c.literals.are) c.literals.first_is c.literals.second_is c.truth
  call_compares (FnVar i) f funs args is layer e = absurd (rests_is_not_takes e)

  pub call_leads : (h : Head) (f : Fun) (funs : List Fun) (args : List Term) → f.head ≡ h → out-Term t ≡ Term-F.Call f funs args → called P h f funs args ≡ leads r →
      Turns P facts kind.Unfold t r
  call_leads (Def n) f funs args is layer e =
      let m = mapped (term_instance (record { types = f.types; funs = funs; terms = args })) (body_of P n) (leads_if_leads _ e) in
      steps.unfolds (layer ∙ same_call f (Def n) funs is refl) m.is m.made
  call_leads Wle f funs args is layer e = absurd (takes_if_does_not_lead _ e)
  call_leads Weq f funs args is layer e = absurd (takes_if_does_not_lead _ e)
  call_leads (FnVar i) f funs args is layer e = absurd (rests_is_not_leads e)

  pub match_selects : (y : Term-F Term) (on : Term) (d : ℕ) (types : List _) (arms : List Term) → out-Term on ≡ y → out-Term t ≡ Term-F.Match on d types arms →
      selected P arms y ≡ takes r → Turns P facts kind.Select t r
  match_selects (Term-F.Con e k us fields) on d types arms is layer takes_it =
      let m = mapped (with_fields P fields) (slice_get arms k) (takes_if_takes _ takes_it) in
      steps.selects layer is m.is m.made
  match_selects (Term-F.Free n) on d types arms is layer e = absurd (rests_is_not_takes e)
  match_selects (Term-F.Bound n) on d types arms is layer e = absurd (rests_is_not_takes e)
  match_selects (Term-F.Lit w) on d types arms is layer e = absurd (rests_is_not_takes e)
  match_selects (Term-F.Call f funs args) on d types arms is layer e = absurd (rests_is_not_takes e)
  match_selects (Term-F.Match other c us others) on d types arms is layer e = absurd (rests_is_not_takes e)

  pub match_does_not_lead : (y : Term-F Term) (arms : List Term) → selected P arms y ≡ leads r → ⊥
  match_does_not_lead (Term-F.Con e k us fields) arms leads_it = takes_if_does_not_lead _ leads_it
  match_does_not_lead (Term-F.Free n) arms e = rests_is_not_leads e
  match_does_not_lead (Term-F.Bound n) arms e = rests_is_not_leads e
  match_does_not_lead (Term-F.Lit w) arms e = rests_is_not_leads e
  match_does_not_lead (Term-F.Call f funs args) arms e = rests_is_not_leads e
  match_does_not_lead (Term-F.Match other c us others) arms e = rests_is_not_leads e

  -- what is taken at a term by itself is a step there
  pub own_takes : (y : Term-F Term) → out-Term t ≡ y → own_deed P y ≡ takes r → SomeTurn P facts t r
  own_takes (Term-F.Call f funs args) is e = record { kind = kind.Compare; turns = call_compares f.head f funs args refl is e }
  own_takes (Term-F.Match on d types arms) is e = record { kind = kind.Select; turns = match_selects (out-Term on) on d types arms refl is e }
  own_takes (Term-F.Free n) is e = absurd (rests_is_not_takes e)
  own_takes (Term-F.Bound n) is e = absurd (rests_is_not_takes e)
  own_takes (Term-F.Lit w) is e = absurd (rests_is_not_takes e)
  own_takes (Term-F.Con d k types fields) is e = absurd (rests_is_not_takes e)

  -- a call is led on from what it unfolds to
  pub own_leads : (y : Term-F Term) → out-Term t ≡ y → own_deed P y ≡ leads r → Turns P facts kind.Unfold t r
  own_leads (Term-F.Call f funs args) is e = call_leads f.head f funs args refl is e
  own_leads (Term-F.Match on d types arms) is e = absurd (match_does_not_lead (out-Term on) arms e)
  own_leads (Term-F.Free n) is e = absurd (rests_is_not_leads e)
  own_leads (Term-F.Bound n) is e = absurd (rests_is_not_leads e)
  own_leads (Term-F.Lit w) is e = absurd (rests_is_not_leads e)
  own_leads (Term-F.Con d k types fields) is e = absurd (rests_is_not_leads e)

-- The fact that rewrites a term.
record RewrittenBy (facts : List Equation) (t r : Term) : Type 0 where
  number : ℕ
  e : Equation
  stands : slice_get facts number ≡ Some e
  left : t ≡ e.left
  right : r ≡ e.right

rewritten_by : {facts : List Equation} {t r : Term} {o : Option Term} → FirstRewrite facts t o → o ≡ Some r → RewrittenBy facts t r
rewritten_by no_fact some = absurd (none_is_not_some some)
rewritten_by (this_fact {e = e} a p) some = record { number = 0; e = e; stands = refl; left = sym a.left; right = some_one (sym some ∙ p) }
rewritten_by (next_fact a rest) some =
    let by = rewritten_by rest some in
    record { number = suc by.number; e = by.e; stands = by.stands; left = by.left; right = by.right }

-- what is taken at a term is a step there
pub deed_takes : (P : Program) (some all : List Equation) → AreAmong some all → {t r : Term} (o : Option Term) → FirstRewrite some t o → deed_at P o t ≡ takes r → SomeTurn P all t r
deed_takes P some all among {t} {r} None first e = own_takes P all t r (out-Term t) refl e
deed_takes P some all among {t} {r} (Some q) first e =
    let same : q ≡ r = cc in
    let by = rewritten_by first (ap Some same) in
    let there = among by.number by.e by.stands in
    record { kind = kind.Fact there.number true; turns = steps.rewrites there.stands by.left by.right }

-- what is led on from is what the call unfolds to
pub deed_leads : (P : Program) (all : List Equation) {t r : Term} (o : Option Term) → deed_at P o t ≡ leads r → Turns P all kind.Unfold t r
deed_leads P all {t} {r} None e = own_leads P all t r (out-Term t) refl e
deed_leads P all {t} {r} (Some q) e = cc

both_true : (a b : Bool) → (a && b) ≡ true → b ≡ true
both_true true b e = e
both_true false b e = cc

-- What is permitted was to be done, and there is room.
pub record IsPermitted (room : Room) (deed done : Deed) (r : Term) : Type 0 where
  pub same : deed ≡ done
  pub fits : IsTrue (room r)

taken_if : (room : Room) (units : ℕ) (t : Term) (b : Bool) {r : Term} → may room units t ≡ b → (if b then takes t else rests) ≡ takes r → IsPermitted room (takes t) (takes r) r
taken_if room units t true {r} may_be e =
    let same : t ≡ r = cc in
    record { same = e; fits = subst (λ (x : Term). IsTrue (room x)) same (both_true (nat_lt 0 units) (room t) may_be) }
taken_if room units t false may_be e = absurd (rests_is_not_takes e)

led_if : (room : Room) (units : ℕ) (t : Term) (b : Bool) {r : Term} → may room units t ≡ b → (if b then leads t else rests) ≡ leads r → IsPermitted room (leads t) (leads r) r
led_if room units t true {r} may_be e =
    let same : t ≡ r = cc in
    record { same = e; fits = subst (λ (x : Term). IsTrue (room x)) same (both_true (nat_lt 0 units) (room t) may_be) }
led_if room units t false may_be e = absurd (rests_is_not_leads e)

not_led_if : (b : Bool) (t : Term) {r : Term} → (if b then leads t else rests) ≡ takes r → ⊥
not_led_if true t e = cc
not_led_if false t e = rests_is_not_takes e

not_taken_if : (b : Bool) (t : Term) {r : Term} → (if b then takes t else rests) ≡ leads r → ⊥
not_taken_if true t e = cc
not_taken_if false t e = rests_is_not_leads e

pub permitted_takes : (room : Room) (units : ℕ) (deed : Deed) {r : Term} → permitted room units deed ≡ takes r → IsPermitted room deed (takes r) r
permitted_takes room units (takes t) e = taken_if room units t (may room units t) refl e
permitted_takes room units (leads t) e = absurd (not_led_if (may room units t) t e)
permitted_takes room units rests e = absurd (rests_is_not_takes e)

pub permitted_leads : (room : Room) (units : ℕ) (deed : Deed) {r : Term} → permitted room units deed ≡ leads r → IsPermitted room deed (leads r) r
permitted_leads room units (takes t) e = absurd (not_taken_if (may room units t) t e)
permitted_leads room units (leads t) e = led_if room units t (may room units t) refl e
permitted_leads room units rests e = absurd (rests_is_not_leads e)
