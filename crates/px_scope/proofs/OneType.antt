-- A written type, and a function that is named with its types, is at most one with numbers for names.
use Rattle.std.proofs.Common.{◌≡◌, List, ◌∷◌, refl}
use Rattle.px_base.specs.declared.raw.RawTy.{RawTy}
use Rattle.px_base.specs.declared.raw.RawFun.{RawFun}
use Rattle.px_parser.specs.declared.surface.SType.{SType}
use Rattle.px_parser.specs.declared.surface.SExpr.{SExpr}
use Rattle.px_parser.specs.declared.surface.SExprKind.{SExprKind}
use Rattle.px_parser.specs.declared.surface.SExprKind.TheOpen.{SExprKind-F}
use Rattle.px_parser.specs.declared.surface.SArm.{SArm}
use Rattle.px_parser.specs.declared.surface.SFun.{SFun}
use Rattle.px_scope.specs.declared.globals.Globals.{Globals}
use Rattle.px_scope.specs.declared.locals.TypeLocals.{TypeLocals}
use Rattle.px_scope.specs.declared.locals.Locals.{Locals}
use Rattle.px_scope.specs.Numbers.{IsType, written, AreTypes, IsArgument, named, AreArguments, IsFunction, AreFunctions, none, more}

-- lists with the same first item and the same others are the same
pub one_cons : {A : Type 0} (a b : A) (xs ys : List A) → a ≡ b → xs ≡ ys → a ∷ xs ≡ b ∷ ys
one_cons a b xs ys p q = cc

module _ (G : Globals) (T : TypeLocals) where
  mutual
    -- a type is at most one
    pub one_type : {s : SType} {a b : RawTy} → IsType G T s a → IsType G T s b → a ≡ b
    one_type (written stands are is) (written stands2 are2 is2) =
        let same = one_types are are2 in
        cc

    -- types are at most one list
    pub one_types : {ss : List SType} {ts us : List RawTy} → AreTypes G T ss ts → AreTypes G T ss us → ts ≡ us
    one_types none none = refl
    one_types (more first rest) (more first2 rest2) = one_cons _ _ _ _ (one_type first first2) (one_types rest rest2)

-- a function argument is at most one
pub one_argument : (G : Globals) (L : Locals) {y : SExprKind-F SExprKind SArm SExpr} {f g : RawFun} →
    IsArgument G L y f → IsArgument G L y g → f ≡ g
one_argument G L (named stands are is) (named stands2 are2 is2) =
    let types = one_types G L.types are are2 in
    cc

-- function arguments are at most one list
pub one_arguments : (G : Globals) (L : Locals) {es : List SExpr} {fs gs : List RawFun} →
    AreArguments G L es fs → AreArguments G L es gs → fs ≡ gs
one_arguments G L none none = refl
one_arguments G L (more first rest) (more first2 rest2) = one_cons _ _ _ _ (one_argument G L first first2) (one_arguments G L rest rest2)

-- a function that is named with its types is at most one
pub one_function : (G : Globals) (L : Locals) (f : SFun) (g h : RawFun) → IsFunction G L f g → IsFunction G L f h → g ≡ h
one_function G L f g h p q =
    let types = one_types G L.types p.are_types q.are_types in
    cc

-- functions are at most one list
pub one_functions : (G : Globals) (L : Locals) {fs : List SFun} {gs hs : List RawFun} →
    AreFunctions G L fs gs → AreFunctions G L fs hs → gs ≡ hs
one_functions G L none none = refl
one_functions G L (more first rest) (more first2 rest2) = one_cons _ _ _ _ (one_function G L _ _ _ first first2) (one_functions G L rest rest2)
