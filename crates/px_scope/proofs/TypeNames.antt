-- What a type's name stands for, or the rule that it breaks.
use Rattle.std.proofs.Common.{◌≡◌, ℕ, Bool, true, false, List, Option, Some, None, refl, sym, ap, ◌∙◌}
use Rattle.px_base.specs.declared.raw.RawTyKind.TheVariants as type_kinds
use Rattle.px_parser.specs.declared.surface.Item.{Item}
use Rattle.px_scope.specs.declared.ends.ScopeKind.{ScopeKind}
use Rattle.px_scope.specs.declared.ends.ScopeKind.TheVariants.{WrongPlace}
use Rattle.px_scope.specs.declared.ends.ScopeEnd.{ScopeEnd}
use Rattle.px_scope.specs.declared.ends.ScopeEnd.TheVariants.{Fault}
use Rattle.px_scope.specs.declared.globals.Globals.{Globals}
use Rattle.px_scope.specs.declared.locals.TypeLocals.{TypeLocals}
use Rattle.px_scope.specs.Standing.{type_of}
use Rattle.px_scope.specs.Rules.{absent, is_own, are_parameters, type_fault_at, type_fault}
use Rattle.px_scope.specs.Later.{declares_type}
use Rattle.px_scope.specs.Uses.{broken_or}
use Rattle.px_scope.specs.Answers.{Fails}

module _ (text : List Item) (G : Globals) (T : TypeLocals) (name : List ℕ) (args : List (Option (List ℕ))) (at : ℕ) where
  -- a type's name that is not declared before
  pub absent_type : (found : List ℕ) (declared : Bool) (kind : ScopeKind) (end : ScopeEnd) → found ≡ name → type_of G T found ≡ None → declared ≡ declares_type text found → kind ≡ absent declared → end ≡ Fault kind at → Fails (broken_or at (type_fault text G T name args) None) end
  absent_type found declared kind end same none is kind_is e =
      let fault : type_fault text G T name args ≡ Some kind = ap (λ k. type_fault_at (declares_type text name) k T args) (ap (type_of G T) (sym same) ∙ none) ∙ ap (λ d. Some (absent d)) (ap (declares_type text) (sym same) ∙ sym is) ∙ ap Some (sym kind_is) in
      rw (e, fault) refl

  -- the datatype that is being declared, with other arguments than its type parameters
  pub other_arguments : (found : List ℕ) (n : ℕ) (own are : Bool) (end : ScopeEnd) → found ≡ name → type_of G T found ≡ Some (type_kinds.Con n) → own ≡ is_own T.own n → own ≡ true → are ≡ are_parameters args T.parameters → are ≡ false → end ≡ Fault WrongPlace at → Fails (broken_or at (type_fault text G T name args) None) end
  other_arguments found n own are end same is own_is owned are_is others e =
      let known : type_of G T name ≡ Some (type_kinds.Con n) = ap (type_of G T) (sym same) ∙ is in
      let fault : type_fault text G T name args ≡ Some WrongPlace = ap (λ k. type_fault_at (declares_type text name) k T args) known ∙ (rw (sym own_is ∙ owned, sym are_is ∙ others) refl) in
      rw (e, fault) refl
