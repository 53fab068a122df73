use Rattle.px_descent.proofs.checked.extensions_have_values.Goals as goal

pub returns : goal.returns
returns c = λ P. record {
  in_each = λ Q extends. record {
    calls = c.each_call_has_value.ensures Q extends.founded;
    functions = c.each_function_has_value.ensures Q extends.founded;
    terms = c.each_term_has_value.ensures Q extends.founded;
  };
}
