-- What is known of a checked program.
use Rattle.px_base.specs.Lawful.{IsLawful}
use Rattle.px_terms.specs.declared.program.Program.{Program}
use Rattle.px_terms.specs.TypedPrograms.{IsTyped}
use Rattle.px_terms.specs.Descent.{AllDescend}
use Rattle.px_terms.specs.Numbered.{HasNumbers}
use Rattle.px_terms.specs.Extending.{IsExtension}
use Rattle.px_totality.specs.Laws.{CallsHaveValue, FunctionsHaveValue, TermsHaveValue}

-- In Q each call of a definition, each call of a fitting function and each typed term has exactly one value with one count.
pub record HasValues (Q : Program) : Type 0 where
  pub calls : CallsHaveValue Q
  pub functions : FunctionsHaveValue Q
  pub terms : TermsHaveValue Q

-- In every extension of P each call and each typed term has exactly one value.
pub record ExtensionsHaveValues (P : Program) : Type 0 where
  pub in_each : (Q : Program) → IsExtension Q P → HasValues Q

-- The program is typed, every definition descends, the names are lawful, the numbers fit, and its extensions have values.
pub record IsChecked (P : Program) : Type 0 where
  pub typed : IsTyped P
  pub descends : AllDescend P
  pub lawful : IsLawful P.names
  pub numbered : HasNumbers P
  pub values : ExtensionsHaveValues P
