-- Of names that break no rule, none of their parts does.
use Rattle.std.proofs.Common.{◌≡◌, ℕ, Bool, true, false, List, [], ◌∷◌, ◌++◌, Option, Some, None, refl, sym, ◌∙◌}
use Rattle.px_parser.specs.declared.surface.Name.{Name}
use Rattle.px_scope.specs.declared.ends.ScopeKind.{ScopeKind}
use Rattle.px_scope.specs.declared.ends.ScopeKind.TheVariants.{Repeated}
use Rattle.px_scope.specs.Rules.{broken_where}
use Rattle.px_scope.specs.Uses.{Use, Broken, use_of, broken_or, first_broken}
use Rattle.px_scope.proofs.Firsts.{back_broken, fine_first}

-- what follows where no name is broken
pub fine_parts : (at : ℕ) (fault : Option ScopeKind) (rest : Option Broken) → broken_or at fault rest ≡ None → (fault ≡ None) × (rest ≡ None)
fine_parts at None rest e = (refl, e)
fine_parts at (Some kind) rest e = absurd cc

-- the first names break no rule
pub fine_front : (us vs : List Use) → first_broken (us ++ vs) ≡ None → first_broken us ≡ None
fine_front [] vs e = refl
fine_front (u ∷ us) vs e =
    let parts = fine_parts u.at u.fault (first_broken (us ++ vs)) e in
    fine_first u.at u.fault us parts.0 (fine_front us vs parts.1)

-- nor do those after them
pub fine_back : (us vs : List Use) → first_broken (us ++ vs) ≡ None → first_broken vs ≡ None
fine_back us vs e = sym (back_broken us vs (fine_front us vs e)) ∙ e

-- a rule that is not broken
pub not_broken : (test : Bool) (kind : ScopeKind) → broken_where test kind ≡ None → test ≡ false
not_broken true kind e = absurd cc
not_broken false kind e = refl

-- the rule of a first name
pub rule_kept : (at : ℕ) (test : Bool) (rest : Option Broken) → broken_or at (broken_where test Repeated) rest ≡ None → test ≡ false
rule_kept at test rest e = not_broken test Repeated (fine_parts at (broken_where test Repeated) rest e).0

-- the names that stand after a name
pub after_first : (name : Name) (fault : Option ScopeKind) (us : List Use) → first_broken (use_of name fault ∷ us) ≡ None → first_broken us ≡ None
after_first name fault us fine = (fine_parts name.at fault (first_broken us) fine).1

-- the names that stand after a name and others
pub after_name : (name : Name) (fault : Option ScopeKind) (us vs : List Use) → first_broken (use_of name fault ∷ (us ++ vs)) ≡ None → first_broken vs ≡ None
after_name name fault us vs fine = fine_back us vs (fine_parts name.at fault (first_broken (us ++ vs)) fine).1
