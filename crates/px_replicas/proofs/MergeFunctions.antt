-- The functions that a typed replica declaration passes to its merge have the properties that are assumed of them.
use Rattle.std.proofs.Common.{◌≡◌, List, [], ◌∷◌, map, refl, sym, ◌∙◌, subst, subst₂}
use Rattle.px_terms.specs.declared.types.Ty.{Ty}
use Rattle.px_terms.specs.declared.types.FnType.{FnType}
use Rattle.px_terms.specs.declared.types.Fun.{Fun}
use Rattle.px_terms.specs.declared.program.ReplicaDef.{ReplicaDef}
use Rattle.px_terms.specs.declared.program.Program.{Program}
use Rattle.px_terms.specs.Types.{ty_instance, tys_instance, fn_type_instance}
use Rattle.px_terms.specs.Meaning.{FunsMean}
use Rattle.px_terms.specs.Typing.{Place, behind, AreTypes, IsFunction, IsArgument, AreArguments}
use Rattle.px_terms.specs.Typing as typing
use Rattle.px_terms.specs.Clauses.{functions_alone}
use Rattle.px_terms.specs.TypedPrograms.{IsTypedReplica}
use Rattle.px_terms.specs.Extending.{IsWellFounded, FitsType, FitTypes, FitsFully, FunctionsFit}
use Rattle.px_terms.specs.Extending as fitting
use Rattle.px_totality.specs.PropertyLaws.{EarlierHold, PassedFit}
use Rattle.px_totality.proofs.Instances.{one_item}
use Rattle.px_totality.proofs.Applied.{nothing_put_in}
use Rattle.px_totality.proofs.Closed.{means_itself}
use Rattle.px_totality.proofs.ArgumentsFit.{arguments_fit}
use Rattle.px_replicas.proofs.MergeTyping.{IsDefined, merge_defined}

-- functions that are typed as arguments where there are no variables stand for themselves
themselves : (P : Program) (place : Place) {fs : List Fun} {takes : List FnType} → AreArguments P place (functions_alone 0 []) fs takes → (hs : List Fun) →
    FunsMean [] [] fs hs → hs ≡ fs
themselves P place typing.none [] mean = refl
themselves P place typing.none (h ∷ hs) mean = absurd mean
themselves P place (typing.more is are) [] mean = absurd mean
themselves P place (typing.more {f = f} {fs = fs} is are) (h ∷ hs) mean =
    let first : h ≡ f = one_item h f (sym mean.0 ∙ means_itself P [] [] is.function) in
    let others : hs ≡ fs = themselves P place are hs mean.1 in
    λ i. first i ∷ others i

-- where nothing is put in, a type stays as it is
one_stays : (T : Ty) → ty_instance [] T ≡ T
one_stays T = let all : ty_instance [] T ∷ [] ≡ T ∷ [] = nothing_put_in (T ∷ []) in cc

-- functions that fit a definition's function types with types put in fit these at the types
fit_fully : (P : Program) (types : List Ty) (Fs : List FnType) {Gs : List FnType} {fs : List Fun} → FunctionsFit P [] Gs fs →
    Gs ≡ map (fn_type_instance types) Fs → FunctionsFit P types Fs fs
fit_fully P types [] fitting.none e = fitting.none
fit_fully P types [] (fitting.more is are) e = let wrong : ⊥ = cc in absurd wrong
fit_fully P types (F ∷ Fs) fitting.none e = let wrong : ⊥ = cc in absurd wrong
fit_fully P types (F ∷ Fs) (fitting.more {F = G} {Fs = Gs} {f = f} {fs = fs} is are) e =
    let first : G ≡ fn_type_instance types F = cc in
    let others : Gs ≡ map (fn_type_instance types) Fs = cc in
    let at : FitsFully P [] (fn_type_instance types F) f = subst (λ (G : FnType). FitsFully P [] G f) first is in
    let function : IsFunction P (functions_alone 0 []) f [] (tys_instance types F.params) (ty_instance types F.result) =
    subst₂ (IsFunction P (functions_alone 0 []) f []) (nothing_put_in (tys_instance types F.params)) (one_stays (ty_instance types F.result)) at.fits.function in
    fitting.more (record { fits = record { function = function }; has = at.has }) (fit_fully P types Fs are others)

-- where each earlier obligation holds, the functions of a typed declaration fit its merge's, with the properties that are assumed of them
pub functions_have : (P : Program) (R : ReplicaDef) → IsWellFounded P → (typed : IsTypedReplica P R) → EarlierHold P (behind R.seen) →
    FunctionsFit P R.merge.types (merge_defined P R typed).D.funs R.funs
functions_have P R founded typed earlier =
    let it : IsDefined P R.merge typed.join.takes R.state = merge_defined P R typed in
    let passed : PassedFit P [] [] R.funs typed.join.takes =
    arguments_fit P founded (behind R.seen) (functions_alone 0 []) earlier [] refl typing.none [] fitting.none R.funs typed.join.takes typed.join.arguments in
    let same : passed.hs ≡ R.funs = themselves P (behind R.seen) typed.join.arguments passed.hs passed.mean in
    fit_fully P R.merge.types it.D.funs (subst (FunctionsFit P [] typed.join.takes) same passed.fit) it.takes_is
