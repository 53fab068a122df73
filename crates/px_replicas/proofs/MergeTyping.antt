-- The merge of a typed declaration is a definition on functions that fit it: it has one value on two states, which is a state.
use Rattle.std.proofs.Common.{◌≡◌, ℕ, List, [], ◌∷◌, map, length, Some, slice_get, refl, sym, ap, ◌∙◌, subst}
use Rattle.px_base.specs.declared.head.Head.TheVariants as head
use Rattle.px_terms.specs.declared.types.Ty.{Ty, out-Ty}
use Rattle.px_terms.specs.declared.types.Ty.TheVariants as type
use Rattle.px_terms.specs.declared.types.Ty.TheOpen.{Ty-F}
use Rattle.px_terms.specs.declared.types.FnType.{FnType}
use Rattle.px_terms.specs.declared.types.Fun.{Fun}
use Rattle.px_terms.specs.declared.term.Value.{Value}
use Rattle.px_terms.specs.declared.program.Def as definition
use Rattle.px_terms.specs.declared.program.ReplicaDef.{ReplicaDef}
use Rattle.px_terms.specs.declared.program.Program.{Program}
use Rattle.px_terms.specs.Types.{ty_instance, tys_instance, fn_type_instance}
use Rattle.px_terms.specs.Programs.{bool_type}
use Rattle.px_terms.specs.Values.{IsIn, AreIn}
use Rattle.px_terms.specs.Values as values
use Rattle.px_terms.specs.Meaning.{Gives, Means}
use Rattle.px_terms.specs.Typing.{Place, AreTypes, IsFunction, AreArguments, behind}
use Rattle.px_terms.specs.Typing as typing
use Rattle.px_terms.specs.Clauses.{functions_alone}
use Rattle.px_terms.specs.TypedPrograms.{IsTypedReplica}
use Rattle.px_terms.specs.Extending.{FitTypes, FitsType}
use Rattle.px_terms.specs.Extending as extending
use Rattle.px_totality.specs.Laws.{CallsHaveValue, TermsHaveValue, IsContext, ExactlyOne}
use Rattle.px_totality.proofs.Applied.{nothing_put_in}

-- A function on two states that gives a state is a definition, at ground types, and what it takes are its functions' types.
pub record IsDefined (P : Program) (f : Fun) (takes : List FnType) (state : Ty) : Type 0 where
  pub n : ℕ
  pub D : definition.Def
  pub head : f.head ≡ head.Def n
  pub found : slice_get P.defs n ≡ Some D
  pub many : length f.types ≡ D.tparams
  pub ground : AreTypes P 0 f.types
  pub takes_is : takes ≡ map (fn_type_instance f.types) D.funs
  pub params : state ∷ state ∷ [] ≡ tys_instance f.types D.params
  pub result : state ≡ ty_instance f.types D.result

no_item : {A : Type 0} (x : A) → slice_get [] 0 ≡ Some x → ⊥
no_item x e = cc

nothing_at : {A : Type 0} (n : ℕ) (x : A) → slice_get [] n ≡ Some x → ⊥
nothing_at n x e = cc

word_is_no_bool : (T : Ty) → T ≡ type.Word → T ≡ bool_type → ⊥
word_is_no_bool T e f =
    let here : Ty-F.Word ≡ Ty-F.Con 0 [] = sym (ap out-Ty e ∙ type.outs-Word) ∙ ap out-Ty f ∙ type.outs-Con 0 [] in
    cc

two_words_no_bool : (state : Ty) → state ∷ state ∷ [] ≡ type.Word ∷ type.Word ∷ [] → state ≡ bool_type → ⊥
two_words_no_bool state e f = let one : state ≡ type.Word = cc in word_is_no_bool state one f

defined : (P : Program) (f : Fun) (takes : List FnType) (params : List Ty) (T state : Ty) → IsFunction P (functions_alone 0 []) f takes params T →
    params ≡ state ∷ state ∷ [] → T ≡ state → IsDefined P f takes state
defined P f takes params T state (typing.of_definition {n = n} {types = types} {D = D} found many ground takes_is params_is result_is) e g = record {
  n = n;
  D = D;
  head = refl;
  found = found;
  many = many;
  ground = ground;
  takes_is = takes_is;
  params = sym e ∙ params_is;
  result = sym g ∙ result_is;
}
defined P f takes params T state (typing.at_most is) e g = absurd (two_words_no_bool state (sym e) (sym g ∙ is))
defined P f takes params T state (typing.equal is) e g = absurd (two_words_no_bool state (sym e) (sym g ∙ is))
defined P f takes params T state (typing.of_variable {n = n} {F = F} found params_is result_is) e g = absurd (nothing_at n F found)

pub merge_defined : (P : Program) (R : ReplicaDef) (typed : IsTypedReplica P R) → IsDefined P R.merge typed.join.takes R.state
merge_defined P R typed = defined P R.merge typed.join.takes (R.state ∷ R.state ∷ []) R.state R.state typed.join.function refl refl

-- arguments fit the types that they are passed at
arguments_fit : (P : Program) (place : Place) (types : List Ty) (Fs : List FnType) (takes : List FnType) (fs : List Fun) → takes ≡ map (fn_type_instance types) Fs →
    AreArguments P place (functions_alone 0 []) fs takes → FitTypes P types Fs fs
arguments_fit P place types [] _ _ e typing.none = extending.none
arguments_fit P place types (F ∷ Fs) _ _ e typing.none = absurd cc
arguments_fit P place types [] _ _ e (typing.more is are) = absurd cc
arguments_fit P place types (F ∷ Fs) _ _ e (typing.more {f = f} {fs = fs} {wanted = wanted} {takes = takes} is are) =
    let here : wanted ≡ fn_type_instance types F = cc in
    let behind : takes ≡ map (fn_type_instance types) Fs = cc in
    let function : IsFunction P (functions_alone 0 []) f [] (tys_instance types F.params) (ty_instance types F.result) =
    subst (λ (G : FnType). IsFunction P (functions_alone 0 []) f [] G.params G.result) here is.function in
    extending.more (record { function = function }) (arguments_fit P place types Fs takes fs behind are)

pub functions_fit : (P : Program) (R : ReplicaDef) (typed : IsTypedReplica P R) → FitTypes P R.merge.types (merge_defined P R typed).D.funs R.funs
functions_fit P R typed =
    let it = merge_defined P R typed in
    arguments_fit P (behind R.seen) R.merge.types it.D.funs typed.join.takes R.funs it.takes_is typed.join.arguments

pub states_fit : (P : Program) (R : ReplicaDef) (typed : IsTypedReplica P R) (a b : Value) → IsIn P R.state a → IsIn P R.state b →
    AreIn P (tys_instance R.merge.types (merge_defined P R typed).D.params) (a ∷ b ∷ [])
states_fit P R typed a b one other =
    subst (λ (types : List Ty). AreIn P types (a ∷ b ∷ [])) (merge_defined P R typed).params (values.more one (values.more other values.none))

-- the merge of two states is one state, with one count
pub merge_gives : (P : Program) (R : ReplicaDef) → CallsHaveValue P → IsTypedReplica P R → (a b : Value) → IsIn P R.state a → IsIn P R.state b →
    ExactlyOne P R.state (Gives P R.merge R.funs (a ∷ b ∷ []))
merge_gives P R calls typed a b one other =
    let it = merge_defined P R typed in
    let all : ExactlyOne P (ty_instance R.merge.types it.D.result) (Gives P (record { head = head.Def it.n; types = R.merge.types }) R.funs (a ∷ b ∷ [])) =
    calls it.n it.D it.found R.merge.types it.many it.ground R.funs (functions_fit P R typed) (a ∷ b ∷ []) (states_fit P R typed a b one other) in
    let same : R.merge ≡ record { head = head.Def it.n; types = R.merge.types } = λ k. record { head = it.head k; types = R.merge.types } in
    subst (λ (T : Ty). ExactlyOne P T (Gives P R.merge R.funs (a ∷ b ∷ []))) (sym it.result)
    (subst (λ (f : Fun). ExactlyOne P (ty_instance R.merge.types it.D.result) (Gives P f R.funs (a ∷ b ∷ []))) (sym same) all)

one_type : (T U : Ty) → T ∷ [] ≡ U ∷ [] → T ≡ U
one_type T U e = cc

no_more : {A : Type 0} (n : ℕ) (x : A) (B : Type 0) → slice_get [] n ≡ Some x → B
no_more n x B e = absurd (nothing_at n x e)

-- the first value is one state
pub first_gives : (P : Program) (R : ReplicaDef) → TermsHaveValue P → IsTypedReplica P R → ExactlyOne P R.state (Means P [] [] [] R.from)
first_gives P R terms typed =
    let context : IsContext P (functions_alone 0 []) = record { vars = λ n T e. no_more n (Some T) _ e; results = λ i F e. no_more i F _ e } in
    let all : ExactlyOne P (ty_instance [] R.state) (Means P [] [] [] R.from) =
    terms (behind R.seen) (functions_alone 0 []) context R.from R.state typed.from [] refl typing.none [] extending.none [] extending.none in
    subst (λ (T : Ty). ExactlyOne P T (Means P [] [] [] R.from)) (one_type (ty_instance [] R.state) R.state (nothing_put_in (R.state ∷ []))) all
