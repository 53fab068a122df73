-- Each call and each typed term has a value, in its type, and no other.
use Rattle.std.proofs.Common.{◌≡◌, zero, suc, List, [], ◌∷◌, Option, Some, refl, ◌∙◌, subst}
use Rattle.std.proofs.lemmas.List.{length-map}
use Rattle.px_terms.specs.declared.types.Ty.{Ty}
use Rattle.px_terms.specs.declared.types.Fun.{Fun}
use Rattle.px_terms.specs.Head.TheVariants.{Def}
use Rattle.px_terms.specs.declared.term.Term.{out-Term}
use Rattle.px_terms.specs.declared.term.Value.{Value}
use Rattle.px_terms.specs.declared.program.Program.{Program}
use Rattle.px_terms.specs.Types.{ty_instance, tys_instance}
use Rattle.px_terms.specs.Values.{IsIn}
use Rattle.px_terms.specs.Meaning.{Gives}
use Rattle.px_terms.specs.Typing.{Place}
use Rattle.px_terms.specs.Descent.{Standing}
use Rattle.px_terms.specs.Extending.{IsWellFounded, FitsType, FitValues}
use Rattle.px_terms.specs.Extending as fitting
use Rattle.px_totality.specs.Laws.{ExactlyOne, EachCallHasValue, EachFunctionHasValue, EachTermHasValue}
use Rattle.px_totality.proofs.Instances.{nothing_is_some, one_item}
use Rattle.px_totality.proofs.Total.{GivesIn, IsTotal, AreTotal}
use Rattle.px_totality.proofs.Calls.{CallsGive}
use Rattle.px_totality.proofs.Valued.{Valued, IsVariable, FitVariables, term_valued}
use Rattle.px_totality.proofs.EachIsTotal.{each_gives, function_is_total, fitting_are_total, passed_total}
use Rattle.px_totality.proofs.Unique.{unique, unique_gift}

-- what gives a value gives no other
one_given : (Q : Program) (f : Fun) (funs : List Fun) (vs : List Value) (T : Ty) → GivesIn Q f funs vs T → ExactlyOne Q T (Gives Q f funs vs)
one_given Q f funs vs T it = record {
  value = it.value;
  count = it.count;
  given = it.gives;
  in_type = it.in_type;
  no_other = λ v c given. unique_gift Q f funs vs v it.value c it.count given it.gives;
}

pub each_call : EachCallHasValue
each_call Q founded n D found types long ground funs fit vs are =
    one_given Q (record { head = Def n; types = types }) funs vs (ty_instance types D.result)
    ((each_gives Q founded.typed founded.descends n).at D found types long ground funs
    (fitting_are_total Q founded.typed founded.descends types D.funs funs fit) vs are)

pub each_function : EachFunctionHasValue
each_function Q founded types F f fits vs are =
    let is_total : IsTotal Q f (tys_instance types F.params) (ty_instance types F.result) =
    function_is_total Q founded.typed founded.descends fits.function refl in
    one_given Q f [] vs (ty_instance types F.result) (is_total.at vs are)

-- values that fit the variables stand for them
fit_variables : (Q : Program) (types : List Ty) {vars : List (Option Ty)} {rho : List Value} → FitValues Q types vars rho → FitVariables Q types vars rho
fit_variables Q types fitting.none i T at = absurd (nothing_is_some (Some T) at)
fit_variables Q types (fitting.live {T = S} {v = v} first others) zero T at =
    let same : S ≡ T = one_item S T (one_item (Some S) (Some T) at) in
    record { v = v; at = refl; is_in = subst (λ (T : Ty). IsIn Q (ty_instance types T) v) same first }
fit_variables Q types (fitting.live {rho = rho} first others) (suc i) T at = later (fit_variables Q types others i T at)
  where
    later : {v : Value} → IsVariable Q types rho i T → IsVariable Q types (v ∷ rho) (suc i) T
    later there = record { v = there.v; at = there.at; is_in = there.is_in }
fit_variables Q types (fitting.gone others) zero T at = absurd (nothing_is_some T (one_item _ _ at))
fit_variables Q types (fitting.gone {rho = rho} others) (suc i) T at =
    let there : IsVariable Q types rho i T = fit_variables Q types others i T at in record { v = there.v; at = there.at; is_in = there.is_in }

-- anything that is called or passed gives a value, wherever it stands
all_give : (Q : Program) (founded : IsWellFounded Q) (place : Place) (types : List Ty) (rho : List Value) →
    CallsGive Q place types rho 0 (λ (args : List Standing). Unit {0})
all_give Q founded place types rho = record {
  called = λ m D ts hs args vs found may many ground totals stand self are.
      (each_gives Q founded.typed founded.descends m).at D found (tys_instance types ts) (length-map ts (ty_instance types) ∙ many) ground hs totals vs are;
  passed = λ m D ts found may many ground none.
      passed_total Q founded.typed m D (tys_instance types ts) (each_gives Q founded.typed founded.descends m) found
      (length-map ts (ty_instance types) ∙ many) ground none;
}

pub each_term : EachTermHasValue
each_term Q founded place context is_context t T has types long ground funs fit rho values =
    let totals : AreTotal Q types context.funs funs = fitting_are_total Q founded.typed founded.descends types context.funs funs fit in
    let it : Valued Q types funs rho [] (out-Term t) T _ =
    term_valued Q founded.typed place context is_context types long ground funs totals rho (fit_variables Q types values) 0
    (λ (args : List Standing). Unit {0}) (all_give Q founded place types rho) t T has (λ i d within. tt) in
    record {
      value = it.v;
      count = it.count;
      given = it.means;
      in_type = it.in_type;
      no_other = λ v c means. unique Q types funs rho [] (out-Term t) v it.v c it.count means it.means;
    }
