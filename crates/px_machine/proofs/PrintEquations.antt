-- The text of each kind of value.
use Rattle.std.proofs.Common.{◌≡◌, ℕ, List, ◌++◌, map, ap, sym, ◌∙◌}
use Rattle.std.specs.Fmt.{decimal}
use Rattle.px_base.specs.declared.names.Names.{Names}
use Rattle.px_terms.specs.declared.term.Value.{Value}
use Rattle.px_terms.specs.declared.term.Value.TheOpen.{Value-F}
use Rattle.px_terms.specs.declared.term.Value.TheVariants as value
use Rattle.px_terms.specs.declared.term.Value.TheVariants.{rolls-Lit, rolls-Con}
use Rattle.px_terms.specs.declared.term.Value.TheFolds.{fold-roll-Value}
use Rattle.px_machine.specs.ValueText.{constructor_name, in_parentheses, value_text_step, value_text}

pub value_text-Lit : (names : Names) (w : ℕ) → value_text names (value.Lit w) ≡ decimal w
value_text-Lit names w = ap (value_text names) (sym (rolls-Lit w)) ∙ fold-roll-Value (List ℕ) (value_text_step names) (Value-F.Lit w)

pub value_text-Con : (names : Names) (d k : ℕ) (fields : List Value) → value_text names (value.Con d k fields) ≡ constructor_name names d k ++ in_parentheses (map (value_text names) fields)
value_text-Con names d k fields = ap (value_text names) (sym (rolls-Con d k fields)) ∙ fold-roll-Value (List ℕ) (value_text_step names) (Value-F.Con d k fields)
