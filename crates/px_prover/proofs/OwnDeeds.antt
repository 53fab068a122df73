-- What is done at a term by itself, where it has no more nodes than a limit.
use Rattle.std.proofs.Common.{◌≡◌, ◌≢◌, ◌≤◌, ◌<◌, ◌↔◌, ◌+◌, ◌-◌, ◌^◌, min, ℕ, zero, suc, List, [], ◌∷◌, length, get_or, Bool, true, false, not, nat_le, ◌==◌, Option, Some, None, IsTrue, slice_get, refl, sym, ap, ◌∙◌, subst, arith}
use Rattle.std.specs.Option.{option_map}
use Rattle.std.proofs.lemmas.Option.{slice_get_within, get_or_from_slice_get}
use Rattle.px_base.specs.declared.head.Head.{Head}
use Rattle.px_base.specs.declared.head.Head.TheVariants.{Def, Wle, Weq, FnVar}
use Rattle.px_base.specs.declared.limits.TheConstants.{SEQUENT_NODES}
use Rattle.px_terms.specs.declared.types.Ty.{Ty}
use Rattle.px_terms.specs.declared.types.Fun.{Fun}
use Rattle.px_terms.specs.declared.term.Term.{Term, out-Term}
use Rattle.px_terms.specs.declared.term.Term.TheVariants as term
use Rattle.px_terms.specs.declared.term.Term.TheOpen.{Term-F}
use Rattle.px_terms.specs.declared.clause.Equation.{Equation}
use Rattle.px_terms.specs.declared.clause.Sigma.{Sigma}
use Rattle.px_terms.specs.declared.program.Def.{Def as Definition}
use Rattle.px_terms.specs.declared.program.Program.{Program}
use Rattle.px_terms.specs.declared.row.Kind.{Kind}
use Rattle.px_terms.specs.declared.row.Kind.TheVariants as kind
use Rattle.px_terms.specs.Terms.{term_size, term_instance}
use Rattle.px_terms.specs.Programs.{body_of}
use Rattle.px_terms.specs.Steps.{with_fields, Turns}
use Rattle.px_prover.specs.declared.deeds.Setting.{Setting}
use Rattle.px_prover.specs.declared.deeds.Deed.{Deed as Done}
use Rattle.px_prover.specs.declared.deeds.Deed.TheVariants as done
use Rattle.px_prover.specs.Deeds.{FirstRewrite, HasNoValueHead, Deed, takes, leads, rests, takes_if, leads_if, selected, compared, called, own_deed}
use Rattle.px_prover.specs.Normalising.{live, IsRewriting, UsesToRewrite, IsFactDeed, IsTooLarge, IsOwnDeed, IsOwnDone, CalledUpTo, TakesUpTo, comparison, step_if, body_if}
use Rattle.px_prover.proofs.DeedMoves.{match_selects, match_does_not_lead, call_compares, call_leads}
use Rattle.px_prover.proofs.Counting.{few_counted}
use Rattle.px_prover.proofs.DeedLemmas.{NoneSoFar, none_next, one_found}

takes_one : {t u : Term} → takes t ≡ takes u → t ≡ u
takes_one e = cc

some_one : {X : Type 0} {x y : X} → Some x ≡ Some y → x ≡ y
some_one e = cc

-- what a test says
pub so : {A : Type 0} → IsTrue true ↔ A → A
so exact = exact.0 refl

pub not_so : {A : Type 0} → IsTrue false ↔ A → ¬ A
not_so exact a = let told = exact.1 a in cc

-- the arm of a constructor, with its fields put in
pub arm_selected : (P : Program) (on arm made : Term) (d k : ℕ) (types : List Ty) (fields put arms : List Term) → on ≡ term.Con d k types fields → Some arm ≡ slice_get arms k → put ≡ fields → made ≡ with_fields P put arm →
    selected P arms (out-Term on) ≡ takes made
arm_selected P on arm made d k types fields put arms is found put_is made_is =
    ap (λ (t : Term). selected P arms (out-Term t)) is ∙ ap (selected P arms) (term.outs-Con d k types fields)
    ∙ ap (λ (o : Option Term). takes_if (option_map (with_fields P fields) o)) (sym found)
    ∙ ap takes (sym (made_is ∙ ap (λ (fs : List Term). with_fields P fs arm) put_is))

-- what is taken is no other term
pub one_taken : (deed : Deed) (made : Term) (nodes : ℕ) → deed ≡ takes made → nodes < term_size made → (t : Term) → deed ≡ takes t → nodes < term_size t
one_taken deed made nodes is large t other = subst (λ (u : Term). nodes < term_size u) (takes_one (sym is ∙ other)) large

-- the body of a definition, with something put in
pub body_instance : (P : Program) (number : ℕ) (sigma : Sigma) (def : Definition) (defs : List Definition) (made : Term) → Some def ≡ slice_get defs number → defs ≡ P.defs → made ≡ term_instance sigma def.body →
    option_map (term_instance sigma) (body_of P number) ≡ Some made
body_instance P number sigma def defs made found is made_is =
    ap (λ (o : Option Definition). option_map (term_instance sigma) (option_map (λ (d : Definition). d.body) o)) (sym (found ∙ ap (λ (l : List Definition). slice_get l number) is))
    ∙ ap Some (sym made_is)

-- the body with something put in, where that is not made
pub one_body : (o : Option Term) (made : Term) (nodes : ℕ) → o ≡ Some made → nodes < term_size made → (t : Term) → o ≡ Some t → nodes < term_size t
one_body o made nodes is large t other = subst (λ (u : Term). nodes < term_size u) (some_one (sym is ∙ other)) large

-- a deed that is no lead, and takes nothing small, is too large
takes_too_large : (nodes : ℕ) (deed : Deed) → ((t : Term) → deed ≡ leads t → ⊥) → ((t : Term) → deed ≡ takes t → nodes < term_size t) → IsTooLarge nodes deed
takes_too_large nodes (takes t) no_lead large = large t refl
takes_too_large nodes (leads t) no_lead large = absurd (no_lead t refl)
takes_too_large nodes rests no_lead large = tt

-- what leads on from a body that is too large
leads_too_large : (nodes : ℕ) (o : Option Term) → ((t : Term) → o ≡ Some t → nodes < term_size t) → IsTooLarge nodes (leads_if o)
leads_too_large nodes None large = tt
leads_too_large nodes (Some t) large = large t refl

-- at a match the arm is selected
pub own_match : (P : Program) (t on other : Term) (d nodes : ℕ) (types : List Ty) (arms others : List Term) (found : Option Term) (made : Done) → t ≡ term.Match on d types arms → other ≡ on → others ≡ arms →
    TakesUpTo nodes (selected P others (out-Term other)) found → made ≡ step_if kind.Select found → IsOwnDone P t nodes made
own_match P t on other d nodes types arms others found made is on_is arms_are up made_is =
    subst (IsOwnDone P t nodes) (sym made_is)
    (by_found found (subst (λ (l : List Term). TakesUpTo nodes (selected P l (out-Term on)) found) arms_are
    (subst (λ (x : Term). TakesUpTo nodes (selected P others (out-Term x)) found) on_is up)))
  where
    layer : out-Term t ≡ Term-F.Match on d types arms
    layer = ap out-Term is ∙ term.outs-Match on d types arms

    own : own_deed P (out-Term t) ≡ selected P arms (out-Term on)
    own = ap (own_deed P) layer

    by_found : (o : Option Term) → TakesUpTo nodes (selected P arms (out-Term on)) o → IsOwnDone P t nodes (step_if kind.Select o)
    by_found None large = subst (IsTooLarge nodes) (sym own) (takes_too_large nodes (selected P arms (out-Term on)) (λ u e. match_does_not_lead P [] t u (out-Term on) arms e) large)
    by_found (Some u) taken = record {
      is = own ∙ taken.0;
      nodes = taken.1;
      turns = λ facts. match_selects P facts t u (out-Term on) on d types arms refl layer taken.0;
    }

-- a call of a definition is led on from its body
pub own_call : (P : Program) (t : Term) (f : Fun) (number nodes : ℕ) (funs gs : List Fun) (args others : List Term) (sigma : Sigma) (found : Option Term) (made : Done) → t ≡ term.Call f funs args → f.head ≡ Def number →
    sigma ≡ record { types = f.types; funs = gs; terms = others } → gs ≡ funs → others ≡ args → CalledUpTo nodes P number sigma found → made ≡ body_if found → IsOwnDone P t nodes made
own_call P t f number nodes funs gs args others sigma found made is head_is sigma_is funs_are args_are up made_is =
    subst (IsOwnDone P t nodes) (sym made_is)
    (by_found found (subst (λ (s : Sigma). CalledUpTo nodes P number s found) (sigma_is ∙ (λ k. record { types = f.types; funs = funs_are k; terms = args_are k })) up))
  where
    layer : out-Term t ≡ Term-F.Call f funs args
    layer = ap out-Term is ∙ term.outs-Call f funs args

    body : Option Term
    body = option_map (term_instance (record { types = f.types; funs = funs; terms = args })) (body_of P number)

    call : called P f.head f funs args ≡ leads_if body
    call = ap (λ (h : Head). called P h f funs args) head_is

    own : own_deed P (out-Term t) ≡ leads_if body
    own = ap (own_deed P) layer ∙ call

    by_found : (o : Option Term) → CalledUpTo nodes P number (record { types = f.types; funs = funs; terms = args }) o → IsOwnDone P t nodes (body_if o)
    by_found None large = subst (IsTooLarge nodes) (sym own) (leads_too_large nodes body large)
    by_found (Some u) led = record {
      is = own ∙ ap leads_if led.0;
      nodes = led.1;
      turns = λ facts. call_leads P facts t u f.head f funs args refl layer (call ∙ ap leads_if led.0);
    }

-- a built-in compares
pub own_compare : (P : Program) (t : Term) (f : Fun) (h : Head) (nodes : ℕ) (funs : List Fun) (args others : List Term) (holds : ℕ → ℕ → Bool) (found : Option Term) (made : Done) → t ≡ term.Call f funs args → f.head ≡ h →
    called P h f funs args ≡ compared holds args → others ≡ args → TakesUpTo nodes (compared holds others) found → made ≡ step_if kind.Compare found → IsOwnDone P t nodes made
own_compare P t f h nodes funs args others holds found made is head_is compares args_are up made_is =
    subst (IsOwnDone P t nodes) (sym made_is) (by_found found (subst (λ (l : List Term). TakesUpTo nodes (compared holds l) found) args_are up))
  where
    layer : out-Term t ≡ Term-F.Call f funs args
    layer = ap out-Term is ∙ term.outs-Call f funs args

    own : own_deed P (out-Term t) ≡ compared holds args
    own = ap (own_deed P) layer ∙ ap (λ (h : Head). called P h f funs args) head_is ∙ compares

    does_not_lead : (o : Option Term) (u : Term) → takes_if o ≡ leads u → ⊥
    does_not_lead None u e = cc
    does_not_lead (Some v) u e = cc

    by_found : (o : Option Term) → TakesUpTo nodes (compared holds args) o → IsOwnDone P t nodes (step_if kind.Compare o)
    by_found None large = subst (IsTooLarge nodes) (sym own) (takes_too_large nodes (compared holds args) (λ u e. does_not_lead _ u e) large)
    by_found (Some u) taken = record {
      is = own ∙ taken.0;
      nodes = taken.1;
      turns = λ facts. call_compares P facts t u h f funs args head_is layer (compares ∙ taken.0);
    }

-- an item of a list that is read
pub item_there : {X : Type 0} (xs : List X) (i : ℕ) (x : X) → i < length xs → x ≡ get_or xs i x → slice_get xs i ≡ Some x
item_there [] i x within is = absurd (omega arith)
item_there (y ∷ ys) zero x within is = ap Some (sym is)
item_there (y ∷ ys) (suc i) x within is = item_there ys i x (omega arith) is

-- a fact that is used to rewrite, as it is tested
pub tested : (setting : Setting) (t : Term) (number : ℕ) (fact : Equation) (used rewrites : Bool) → number < length setting.facts.now → fact ≡ get_or setting.facts.now number fact →
    (IsTrue used ↔ (slice_get setting.used.now number ≡ Some true)) → used ≡ true → (IsTrue rewrites ↔ ((fact.left ≡ t) × ¬ (t ≡ fact.right))) → IsTrue rewrites ↔ UsesToRewrite setting t number
tested setting t number fact used rewrites within is is_used told exact =
    let stands = item_there setting.facts.now number fact within is in (
      λ (yes : IsTrue rewrites). let both = exact.0 yes in record { fact = fact; stands = stands; is_used = is_used.0 told; left = both.0; differ = both.1 },
      λ (by : UsesToRewrite setting t number). let same : by.fact ≡ fact = some_one (sym by.stands ∙ stands) in
          exact.1 (ap (λ (e : Equation). e.left) (sym same) ∙ by.left, λ e. by.differ (e ∙ ap (λ (x : Equation). x.right) (sym same))),
    )

-- the first fact that is used to rewrite
pub found_first : (setting : Setting) (t : Term) (number : ℕ) → NoneSoFar setting t number → HasNoValueHead (out-Term t) → UsesToRewrite setting t number → IsRewriting setting t number
found_first setting t number so_far head by = one_found setting t number so_far by.fact by.stands by.is_used head by.left by.differ

-- one fact more that is not used to rewrite
pub not_found : (setting : Setting) (t : Term) (number : ℕ) → number < length setting.facts.now → NoneSoFar setting t number → ¬ UsesToRewrite setting t number → NoneSoFar setting t (number + 1)
not_found setting t number within so_far none =
    let item = some_fact setting.facts.now number within in
    none_next setting t number so_far item.0 item.1 (λ by. none (record { fact = item.0; stands = item.1; is_used = by.0; left = by.1; differ = by.2 }))
  where
    some_fact : (facts : List Equation) (i : ℕ) → i < length facts → (e : Equation) × (slice_get facts i ≡ Some e)
    some_fact [] i within = absurd (omega arith)
    some_fact (e ∷ es) zero within = (e, refl)
    some_fact (e ∷ es) (suc i) within = some_fact es i (omega arith)

-- what a fact rewrites to, as it is copied
pub fact_deed : (facts : List Equation) (number nodes count : ℕ) (fact : Equation) (made : Term) → number < length facts → fact ≡ get_or facts number fact → made ≡ (get_or facts number fact).right → count ≡ min (term_size (get_or facts number fact).right) (2 ^ 64 - 1) →
    nodes ≤ SEQUENT_NODES → count ≤ nodes → IsFactDeed facts number nodes (kind.Fact number true) made
fact_deed facts number nodes count fact made within is copied counted limited few = record {
  fact = fact;
  stands = item_there facts number fact within is;
  kind_is = refl;
  is = copied ∙ ap (λ (e : Equation). e.right) (sym is);
  nodes = let made_is = copied ∙ ap (λ (e : Equation). e.right) (sym is) in let small = few_counted (term_size fact.right) nodes count (counted ∙ ap (λ (e : Equation). min (term_size e.right) (2 ^ 64 - 1)) (sym is)) limited few in subst (λ (t : Term). term_size t ≤ nodes) (sym made_is) small;
}
