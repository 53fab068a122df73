-- What names with a small letter stand for, step by step: as locals, and then at the top.
use Rattle.std.proofs.Common.{◌≡◌, ℕ, Bool, false, List, Option, Some, None, Result, refl, sym, ap, ◌∙◌, subst}
use Rattle.px_base.specs.declared.head.Head.{Head}
use Rattle.px_parser.specs.declared.surface.Item.{Item}
use Rattle.px_scope.specs.declared.ends.ScopeKind.{ScopeKind}
use Rattle.px_scope.specs.declared.ends.ScopeKind.TheVariants.{WrongPlace}
use Rattle.px_scope.specs.declared.ends.ScopeEnd.{ScopeEnd}
use Rattle.px_scope.specs.declared.ends.ScopeEnd.TheVariants.{Fault}
use Rattle.px_scope.specs.declared.globals.Meaning.{Meaning}
use Rattle.px_scope.specs.declared.globals.Meaning.TheVariants.{Wle, Weq, Definition, Lemma, Replica}
use Rattle.px_scope.specs.declared.globals.Globals.{Globals}
use Rattle.px_scope.specs.declared.locals.Local.{Local}
use Rattle.px_scope.specs.declared.locals.Locals.{Locals}
use Rattle.px_scope.specs.Standing.{meaning_of, local_of, head_of, head_at, head_of_local, head_of_meaning}
use Rattle.px_scope.specs.Rules.{absent, value_fault_at, value_fault, function_fault_at, function_fault, local_function_fault, global_function_fault}
use Rattle.px_scope.specs.Later.{declares_lower}
use Rattle.px_scope.specs.Uses.{broken_or}
use Rattle.px_scope.specs.Answers.{Fails, Finds}

-- what is found of a name is found of its text
pub found_of : {T : Type 0} (look : List ℕ → Option T) (text name : List ℕ) (found answer : Option T) → text ≡ name → found ≡ look text → found ≡ answer → look name ≡ answer
found_of look text name found answer same is e = ap look (sym same) ∙ sym is ∙ e

-- whether a name is declared later does not matter where it stands for something
some_function_fault : (L : Locals) (called declared : Bool) (meaning : Meaning) → global_function_fault false L (Some meaning) called ≡ global_function_fault declared L (Some meaning) called
some_function_fault L called declared Wle = refl
some_function_fault L called declared Weq = refl
some_function_fault L called declared (Definition n functions) = refl
some_function_fault L called declared Lemma = refl
some_function_fault L called declared Replica = refl

module _ (text : List Item) (G : Globals) (L : Locals) (name : List ℕ) (at : ℕ) where
  -- the fault of a name where data is wanted, by what it stands for
  pub value_fails : (called : Bool) (kind : ScopeKind) (end : ScopeEnd) → end ≡ Fault kind at → value_fault text G L name called ≡ Some kind → Fails (broken_or at (value_fault text G L name called) None) end
  value_fails called kind end e fault = rw (e, fault) refl

  -- the fault of a name in a function argument's place
  pub function_fails : (called : Bool) (kind : ScopeKind) (end : ScopeEnd) → end ≡ Fault kind at → function_fault text G L name called ≡ Some kind → Fails (broken_or at (function_fault text G L name called) None) end
  function_fails called kind end e fault = rw (e, fault) refl

  -- a local that is not called
  pub as_local : (called : Bool) (local : Local) → local_of L name ≡ Some local → value_fault text G L name called ≡ value_fault_at (declares_lower text name) (Some local) (meaning_of G name) called
  as_local called local is = rw is refl

  -- a name that is no local
  pub as_global : (called : Bool) (meaning : Option Meaning) → local_of L name ≡ None → meaning_of G name ≡ meaning → value_fault text G L name called ≡ value_fault_at (declares_lower text name) None meaning called
  as_global called meaning none is = rw (none, is) refl

  -- a function argument that is a local
  pub as_local_function : (called : Bool) (local : Local) (r : Result Head ScopeEnd) → local_of L name ≡ Some local → Finds at (local_function_fault local called) (λ head. head_of_local local ≡ Some head) r → Finds at (function_fault text G L name called) (λ head. head_of G L name ≡ Some head) r
  as_local_function called local r is h = subst (λ l. Finds at (function_fault_at (declares_lower text name) L l (meaning_of G name) called) (λ head. head_at l (meaning_of G name) ≡ Some head) r) (sym is) h

  -- a function argument that is no local
  pub as_global_function : (called : Bool) (meaning : Meaning) (r : Result Head ScopeEnd) → local_of L name ≡ None → meaning_of G name ≡ Some meaning → Finds at (global_function_fault false L (Some meaning) called) (λ head. head_of_meaning meaning ≡ Some head) r → Finds at (function_fault text G L name called) (λ head. head_of G L name ≡ Some head) r
  as_global_function called meaning r none is h =
      let there : Finds at (global_function_fault (declares_lower text name) L (Some meaning) called) (λ head. head_of_meaning meaning ≡ Some head) r = subst (λ fault. Finds at fault (λ head. head_of_meaning meaning ≡ Some head) r) (some_function_fault L called (declares_lower text name) meaning) h in
      let known : Finds at (function_fault_at (declares_lower text name) L None (meaning_of G name) called) (λ head. head_at None (meaning_of G name) ≡ Some head) r = subst (λ m. Finds at (function_fault_at (declares_lower text name) L None m called) (λ head. head_at None m ≡ Some head) r) (sym is) there in
      subst (λ l. Finds at (function_fault_at (declares_lower text name) L l (meaning_of G name) called) (λ head. head_at l (meaning_of G name) ≡ Some head) r) (sym none) known

  -- a function argument that is not declared before
  pub no_function : (called : Bool) → local_of L name ≡ None → meaning_of G name ≡ None → function_fault text G L name called ≡ Some (absent (declares_lower text name))
  no_function called none is = rw (none, is) refl

-- what is declared at the top and stands for something is no data
pub some_value_fault : (declared : Bool) (meaning : Meaning) → value_fault_at declared None (Some meaning) false ≡ Some WrongPlace
some_value_fault declared Wle = refl
some_value_fault declared Weq = refl
some_value_fault declared (Definition n functions) = refl
some_value_fault declared Lemma = refl
some_value_fault declared Replica = refl

-- the rule that a name breaks which was not declared before
pub absent_is : (items : List Item) (name text : List ℕ) (declared : Bool) (kind : ScopeKind) → text ≡ name → declared ≡ declares_lower items text → kind ≡ absent declared → absent (declares_lower items name) ≡ kind
absent_is items name text declared kind same is e = sym (e ∙ ap absent (is ∙ ap (declares_lower items) same))
