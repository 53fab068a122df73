-- A call of a program fits it, and code that stands for the program gives its value.
use Rattle.std.proofs.Common.{ℕ, List, [], refl, sym, subst}
use Rattle.px_terms.specs.declared.types.Ty.{Ty}
use Rattle.px_terms.specs.declared.types.FnType.{FnType}
use Rattle.px_terms.specs.declared.term.Value.{Value}
use Rattle.px_terms.specs.declared.program.Program.{Program}
use Rattle.px_terms.specs.Values.{AreIn}
use Rattle.px_terms.specs.Values as values
use Rattle.px_terms.specs.Extending.{FitTypes}
use Rattle.px_terms.specs.Typing as typing
use Rattle.px_terms.specs.Extending as extending
use Rattle.px_totality.proofs.Applied.{nothing_put_in}
use Rattle.px_descent.specs.Checked.{IsChecked}
use Rattle.px_machine.specs.declared.code.Code.{Code}
use Rattle.px_machine.specs.Machine.{RunGives}
use Rattle.px_machine.specs.Standing.{FitsDefinition, FitsCode, Stands}
use Rattle.px_drive.specs.declared.arguments.ClosedCall.{ClosedCall}
use Rattle.px_drive.specs.Arguments.{AreValuesOf, none, more, IsCall, FitsProgram, IsValueOfCall}

values_fit : {P : Program} {types : List Ty} {words : List (List ℕ)} {vs : List Value} → AreValuesOf P types words vs → AreIn P types vs
values_fit none = values.none
values_fit (more first rest) = values.more first.is_text.typed (values_fit rest)

-- a call that the name and the words are fits the program
pub call_fits : (P : Program) (name : List ℕ) (words : List (List ℕ)) (call : ClosedCall) → IsChecked P → IsCall P name words call → FitsProgram P call
call_fits P name words call checked is = record { checked = checked; D = is.D; is_def = is.defined.is_def; plain = is.plain; values = values_fit is.values }

pub fits_definition : (P : Program) (call : ClosedCall) → FitsProgram P call → FitsDefinition P call.def [] [] call.values
fits_definition P call fits = record {
  def = fits.D;
  is_def = fits.is_def;
  as_many = sym fits.plain.types;
  types_are = typing.none;
  funs_fit = subst (λ (Fs : List FnType). FitTypes P [] Fs []) (sym fits.plain.funs) extending.none;
  values_fit = subst (λ (types : List Ty). AreIn P types call.values) (sym (nothing_put_in fits.D.params)) fits.values;
}

pub fits_code : (code : Code) (P : Program) (call : ClosedCall) → Stands code P → FitsProgram P call → FitsCode code call.def [] call.values
fits_code code P call stands fits = record {
  program = P;
  founded = record { typed = fits.checked.typed; descends = fits.checked.descends };
  stands = stands;
  types = [];
  funs = [];
  are_targets = refl;
  fits = fits_definition P call fits;
}

-- what a run gives is the value of the call
pub run_is_value : (code : Code) (P : Program) (call : ClosedCall) (v : Value) (calls : ℕ) → Stands code P → FitsProgram P call → RunGives code call.def [] call.values v calls → IsValueOfCall P call v calls
run_is_value code P call v calls stands fits gives = (stands.gives call.def [] [] call.values (fits_definition P call fits) v calls).0 gives
