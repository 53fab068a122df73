-- What is declared anywhere in the text.
use Rattle.std.specs.Prelude.{ℕ, Bool, false, List}
use Rattle.std.specs.List.{list_any}
use Rattle.std.specs.Str.{bytes_eq}
use Rattle.px_parser.specs.declared.surface.SCon.{SCon}
use Rattle.px_parser.specs.declared.surface.Item.{Item}
use Rattle.px_parser.specs.declared.surface.Item.TheVariants.{Datatype, Definition, Claim, Lemma, Replica}

-- the declaration is that of a datatype of this name
abbrev pub is_type : List ℕ → Item → Bool
is_type name (Datatype d) = bytes_eq name d.name.text
is_type name (Definition d) = false
is_type name (Claim c) = false
is_type name (Lemma l) = false
is_type name (Replica r) = false

-- the declaration has a constructor of this name
abbrev pub has_constructor : List ℕ → Item → Bool
has_constructor name (Datatype d) = list_any (λ (con : SCon). bytes_eq name con.name.text) d.cons
has_constructor name (Definition d) = false
has_constructor name (Claim c) = false
has_constructor name (Lemma l) = false
has_constructor name (Replica r) = false

-- the declaration is that of a definition, a lemma or a replica of this name
abbrev pub is_lower : List ℕ → Item → Bool
is_lower name (Datatype d) = false
is_lower name (Definition d) = bytes_eq name d.name.text
is_lower name (Claim c) = false
is_lower name (Lemma l) = bytes_eq name l.name.text
is_lower name (Replica r) = bytes_eq name r.name.text

-- a datatype of this name is declared somewhere in the text
abbrev pub declares_type : List Item → List ℕ → Bool
declares_type text name = list_any (is_type name) text

-- a constructor of this name is declared somewhere in the text
abbrev pub declares_constructor : List Item → List ℕ → Bool
declares_constructor text name = list_any (has_constructor name) text

-- a definition, a lemma or a replica of this name is declared somewhere in the text
abbrev pub declares_lower : List Item → List ℕ → Bool
declares_lower text name = list_any (is_lower name) text
