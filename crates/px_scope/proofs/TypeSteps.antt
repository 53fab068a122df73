-- The names in a type, and what its parts are.
use Rattle.std.proofs.Common.{◌≡◌, ℕ, List, [], ◌∷◌, ◌++◌, map, Option, Some, None, Result, refl, ap, ◌∙◌}
use Rattle.std.specs.Result.{IsErrAnd}
use Rattle.std.specs.List.{flat_map}
use Rattle.px_parser.specs.declared.surface.SType.{SType, out-SType}
use Rattle.px_parser.specs.declared.surface.SType.TheFolds.{fold-SType, fold_out-SType}
use Rattle.px_parser.specs.declared.surface.Item.{Item}
use Rattle.px_base.specs.declared.raw.RawTy.{RawTy}
use Rattle.px_scope.specs.declared.globals.Globals.{Globals}
use Rattle.px_scope.specs.declared.locals.TypeLocals.{TypeLocals}
use Rattle.px_base.specs.declared.raw.RawTyKind.{RawTyKind}
use Rattle.px_scope.specs.declared.ends.ScopeEnd.{ScopeEnd}
use Rattle.px_scope.specs.Standing.{type_of}
use Rattle.px_scope.specs.Rules.{lone_name, type_fault}
use Rattle.px_scope.specs.Uses.{use_of, first_broken, broken_or, TypeUses, type_uses_step, type_uses, types_uses}
use Rattle.px_scope.specs.Numbers.{raw_type, IsType, written, AreTypes, none, more}
use Rattle.px_scope.specs.Answers.{Fails, Fine, Resolves}
use Rattle.px_scope.proofs.Firsts.{fine_first, fails_first, fails_later, passed_on}

-- one type more
pub types_push : (G : Globals) (T : TypeLocals) (ss : List SType) (ts : List RawTy) (s : SType) (t : RawTy) → AreTypes G T ss ts → IsType G T s t → AreTypes G T (ss ++ s ∷ []) (ts ++ t ∷ [])
types_push G T _ _ s t none is = more is none
types_push G T _ _ s t (more {ss = ss} {ts = ts} first others) is = more first (types_push G T ss ts s t others is)

module _ (text : List Item) (G : Globals) (T : TypeLocals) where
  abbrev seen : SType → TypeUses
  seen s = fold-SType TypeUses (type_uses_step text G T) s

  seen_is : (s : SType) → seen s ≡ type_uses_step text G T (record { name = (out-SType s).name; args = map seen (out-SType s).args })
  seen_is s = fold_out-SType TypeUses (type_uses_step text G T) s

  no_args : (name : List ℕ) (args : List SType) → (elim (map seen args) as (λ _. Option (List ℕ)) [ [] ↦ Some name | _ ↦ None ]) ≡ (elim args as (λ _. Option (List ℕ)) [ [] ↦ Some name | _ ↦ None ])
  no_args name [] = refl
  no_args name (a ∷ args) = refl

  lone_is : (s : SType) → (seen s).lone ≡ lone_name s
  lone_is s = ap (λ (u : TypeUses). u.lone) (seen_is s) ∙ no_args (out-SType s).name.text (out-SType s).args

  lones_are : (args : List SType) → map (λ (u : TypeUses). u.lone) (map seen args) ≡ map lone_name args
  lones_are [] = refl
  lones_are (a ∷ args) = rw (lone_is a, lones_are args) refl

  uses_are : (args : List SType) → flat_map (λ (u : TypeUses). u.uses) (map seen args) ≡ types_uses text G T args
  unfolding type_uses
  uses_are [] = refl
  uses_are (a ∷ args) = ap (λ us. (seen a).uses ++ us) (uses_are args)

  -- a type's name, and then those of its arguments
  pub type_uses_is : (s : SType) → type_uses text G T s ≡ use_of (out-SType s).name (type_fault text G T (out-SType s).name.text (map lone_name (out-SType s).args)) ∷ types_uses text G T (out-SType s).args
  unfolding type_uses
  type_uses_is s = ap (λ (u : TypeUses). u.uses) (seen_is s) ∙ (rw (lones_are (out-SType s).args, uses_are (out-SType s).args) refl)

  -- a type, where what its name stands for is known, and its arguments
  pub type_fine : (s : SType) (kind : RawTyKind) (ts : List RawTy) → type_fault text G T (out-SType s).name.text (map lone_name (out-SType s).args) ≡ None → type_of G T (out-SType s).name.text ≡ Some kind → Fine (types_uses text G T (out-SType s).args) (AreTypes G T (out-SType s).args) ts → Fine (type_uses text G T s) (IsType G T s) (raw_type (out-SType s).name.at kind ts)
  type_fine s kind ts fault stands (fine, are) =
      (ap first_broken (type_uses_is s) ∙ fine_first (out-SType s).name.at (type_fault text G T (out-SType s).name.text (map lone_name (out-SType s).args)) (types_uses text G T (out-SType s).args) fault fine, written stands are refl)

  -- a type whose own name fails
  pub type_name_fails : {Z : Type 0} (Is : Z → Type 0) (s : SType) (r : Result Z ScopeEnd) (end : ScopeEnd) → IsErrAnd r (λ e. e ≡ end) → Fails (broken_or (out-SType s).name.at (type_fault text G T (out-SType s).name.text (map lone_name (out-SType s).args)) None) end → Resolves (type_uses text G T s) Is r
  type_name_fails Is s r end is fails = passed_on Is (type_uses text G T s) r end is (rw (type_uses_is s) (fails_first (out-SType s).name.at (type_fault text G T (out-SType s).name.text (map lone_name (out-SType s).args)) (types_uses text G T (out-SType s).args) end fails))

  -- a type whose arguments fail
  pub type_args_fail : {Z : Type 0} (Is : Z → Type 0) (s : SType) (r : Result Z ScopeEnd) (end : ScopeEnd) → IsErrAnd r (λ e. e ≡ end) → type_fault text G T (out-SType s).name.text (map lone_name (out-SType s).args) ≡ None → Fails (first_broken (types_uses text G T (out-SType s).args)) end → Resolves (type_uses text G T s) Is r
  type_args_fail Is s r end is fault fails = passed_on Is (type_uses text G T s) r end is (rw (type_uses_is s) (fails_later (out-SType s).name.at (type_fault text G T (out-SType s).name.text (map lone_name (out-SType s).args)) (types_uses text G T (out-SType s).args) end fault fails))
