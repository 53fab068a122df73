-- What a term means stays where there are more values behind.
use Rattle.std.proofs.Common.{ℕ, List, ◌++◌}
use Rattle.px_terms.specs.declared.types.Ty.{Ty}
use Rattle.px_terms.specs.declared.types.Fun.{Fun}
use Rattle.px_terms.specs.declared.term.Term.{Term, out-Term}
use Rattle.px_terms.specs.declared.term.Term.TheOpen.{Term-F}
use Rattle.px_terms.specs.declared.term.Value.{Value}
use Rattle.px_terms.specs.declared.program.Program.{Program}
use Rattle.px_terms.specs.Meaning.{MeansOf, free, bound, lit, con, choose, call, MeanAll, none, more, bind}
use Rattle.px_soundness.proofs.Forward.{slice_get_longer}

module _ (Q : Program) (types : List Ty) (funs : List Fun) (rho later : List Value) where
  mutual
    -- a meaning stays with further values of free variables at the end
    pub more_values : (inside : List Value) (y : Term-F Term) (v : Value) (c : ℕ) → MeansOf Q types funs rho inside y v c → MeansOf Q types funs (rho ++ later) inside y v c
    more_values inside _ v _ (free {n = n} e) = free (slice_get_longer rho later n v e)
    more_values inside _ v _ (bound e) = bound e
    more_values inside _ v _ (lit e) = lit e
    more_values inside _ v c (con {fields = fields} {vs = vs} all e) = con (more_values_all inside fields vs c all) e
    more_values inside _ v c (choose {on = on} {u = u} {arm = arm} {vs = vs} {a = a} {b = b} scrutinee chosen_is means e) =
        choose (more_values inside (out-Term on) u a scrutinee) chosen_is (more_values (bind vs inside) (out-Term arm) v b means) e
    more_values inside _ v c (call {args = args} {vs = vs} {a = a} all function functions gives e) = call (more_values_all inside args vs a all) function functions gives e

    more_values_all : (inside : List Value) (ts : List Term) (vs : List Value) (c : ℕ) → MeanAll Q types funs rho inside ts vs c → MeanAll Q types funs (rho ++ later) inside ts vs c
    more_values_all inside _ _ _ none = none
    more_values_all inside _ _ c (more {t = t} {ts = ts} {v = v} {vs = vs} {a = a} {b = b} means all e) =
        more (more_values inside (out-Term t) v a means) (more_values_all inside ts vs b all) e
