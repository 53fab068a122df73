-- How a value prints: a number in decimal, or a constructor's name with its fields in parentheses, joined by a comma and a space.
use Rattle.std.specs.Prelude.{ℕ, List, [], ◌∷◌, ◌++◌, slice_get, unwrap_or, codes}
use Rattle.std.specs.List.{join_by}
use Rattle.std.specs.Fmt.{decimal}
use Rattle.px_base.specs.declared.names.Names.{Names}
use Rattle.px_terms.specs.declared.term.Value.{Value}
use Rattle.px_terms.specs.declared.term.Value.TheOpen.{Value-F}
use Rattle.px_terms.specs.declared.term.Value.TheFolds.{fold-Value}

-- a constructor's name; what has no name prints nothing
abbrev pub constructor_name : Names → ℕ → ℕ → List ℕ
constructor_name names d k = unwrap_or (slice_get (unwrap_or (slice_get names.cons d) []) k) []

-- the fields of a constructor, and nothing where it has none
abbrev pub in_parentheses : List (List ℕ) → List ℕ
in_parentheses [] = []
in_parentheses (t ∷ ts) = codes "(" ++ (join_by (λ (x : List ℕ). x) (codes ", ") (t ∷ ts) ++ codes ")")

-- a number, or a constructor with the texts of its fields
abbrev pub value_text_step : Names → Value-F (List ℕ) → List ℕ
value_text_step names (Value-F.Lit w) = decimal w
value_text_step names (Value-F.Con d k fields) = constructor_name names d k ++ in_parentheses fields

-- a value's text
abbrev pub value_text : Names → Value → List ℕ
value_text names = fold-Value (List ℕ) (value_text_step names)
