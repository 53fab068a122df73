-- The names of a numbered program are lawful.
use Rattle.std.proofs.Common.{◌≡◌, ℕ, true, false, List, [], ◌∷◌, ◌++◌, length, Option, Some, None, Result, Ok, Err, IfOk, refl, sym, ap, ◌∙◌, subst, append-nil, append_assoc}
use Rattle.std.specs.Prelude.{All, Contains, codes, flat_map}
use Rattle.std.specs.List.{slice_get}
use Rattle.std.proofs.lemmas.Grind.{flat_map-append}
use Rattle.std.proofs.lemmas.List.Elements.{All-nil, All-cons, All-head, All-tail, All-push, All-map, All-from_recursion}
use Rattle.px_base.specs.declared.names.Names.{Names}
use Rattle.px_base.specs.declared.prop.Prop.{Prop}
use Rattle.px_base.specs.declared.raw.RawProgram.{RawProgram}
use Rattle.px_base.specs.Distinct.{AreDistinct}
use Rattle.px_base.specs.NameForms.{is_name_part, IsUpperName, IsLowerName}
use Rattle.px_base.specs.Lawful.{type_names, con_names, lower_names, IsLawful}
use Rattle.px_parser.specs.declared.surface.SCon.{SCon}
use Rattle.px_parser.specs.declared.surface.SData.{SData}
use Rattle.px_parser.specs.declared.surface.Item.{Item}
use Rattle.px_parser.specs.declared.surface.Item.TheVariants as items
use Rattle.px_parser.specs.declared.surface.Surface.{Surface}
use Rattle.px_parser.specs.Named.{IsNamedItem, AreNamed}
use Rattle.px_scope.specs.declared.ends.ScopeEnd.{ScopeEnd}
use Rattle.px_scope.specs.declared.ends.ScopeKind.TheVariants.{Repeated}
use Rattle.px_scope.specs.declared.globals.Meaning.{Meaning}
use Rattle.px_scope.specs.declared.globals.Meaning.TheVariants as meaning
use Rattle.px_scope.specs.declared.globals.Globals.{Globals}
use Rattle.px_scope.specs.declared.locals.TypeLocals.{TypeLocals}
use Rattle.px_scope.specs.Names.{is_name}
use Rattle.px_scope.specs.Standing.{meaning_of, no_parameters, built_in}
use Rattle.px_scope.specs.Rules.{broken_where, is_type_name}
use Rattle.px_scope.specs.Uses.{first_broken, along, types_uses}
use Rattle.px_scope.specs.Declaring.{props_of, constructor_names, with_datatype, with_constructor_name, with_claims_of, after, data_locals}
use Rattle.px_scope.specs.ItemUses.{type_parameters_uses, constructor_uses, constructors_uses, data_uses, item_uses, text_uses}
use Rattle.px_scope.specs.Programs.{start, IsNext, AreNext, IsNumbering}
use Rattle.px_scope.specs.Answers.{Resolves}
use Rattle.px_scope.proofs.FineParts.{fine_parts, fine_front, fine_back, rule_kept}
use Rattle.px_scope.proofs.NameFormFacts.{lower_name}
use Rattle.px_scope.proofs.ProgramSteps.{claims_types}
use Rattle.px_scope.proofs.DistinctNames.{distinct_push, not_among, distinct_more, within_more}

-- the first item stays
first_stays : {A : Type 0} (xs : List A) (x y : A) → slice_get xs 0 ≡ Some y → slice_get (xs ++ x ∷ []) 0 ≡ Some y
first_stays [] x y e = absurd cc
first_stays (a ∷ xs) x y e = e

claims_cons : (G : Globals) (m : Option Meaning) (props : List Prop) → (with_claims_of G m props).cons ≡ G.cons
claims_cons G None props = refl
claims_cons G (Some meaning.Wle) props = refl
claims_cons G (Some meaning.Weq) props = refl
claims_cons G (Some (meaning.Definition n functions)) props = refl
claims_cons G (Some meaning.Lemma) props = refl
claims_cons G (Some meaning.Replica) props = refl

claims_lowers : (G : Globals) (m : Option Meaning) (props : List Prop) → (with_claims_of G m props).lowers ≡ G.lowers
claims_lowers G None props = refl
claims_lowers G (Some meaning.Wle) props = refl
claims_lowers G (Some meaning.Weq) props = refl
claims_lowers G (Some (meaning.Definition n functions)) props = refl
claims_lowers G (Some meaning.Lemma) props = refl
claims_lowers G (Some meaning.Replica) props = refl

-- constructors that break no rule are new, each by itself
distinct_constructors : (text : List Item) (T : TypeLocals) (G : Globals) (cons : List SCon) →
    first_broken (constructors_uses text G T cons) ≡ None → AreDistinct G.cons → AreDistinct (G.cons ++ constructor_names cons)
distinct_constructors text T G [] fine distinct = subst AreDistinct (sym (append-nil G.cons)) distinct
distinct_constructors text T G (con ∷ cons) fine distinct =
    let here = constructor_uses text G T con in
    let others = constructors_uses text (with_constructor_name G con) T cons in
    let new : is_name G.cons con.name.text ≡ false =
    rule_kept con.name.at (is_name G.cons con.name.text) (first_broken (types_uses text G T con.fields)) (fine_front here others fine) in
    subst AreDistinct (append_assoc G.cons (con.name.text ∷ []) (constructor_names cons))
    (distinct_constructors text T (with_constructor_name G con) cons (fine_back here others fine)
    (distinct_push G.cons con.name.text distinct (not_among G.cons con.name.text new)))

-- The names are lawful, and those of what is declared.
record Stand (G : Globals) (names : Names) : Type 0 where
  types : names.datatypes ≡ G.datatypes
  cons : con_names names ≡ G.cons
  lowers : (name : List ℕ) → Contains (lower_names names) name → Contains G.lowers name
  lawful : IsLawful names

-- a datatype more
datatype_stands : (text : List Item) (G : Globals) (names : Names) (d : SData) → first_broken (data_uses text G d) ≡ None → IsNamedItem (items.Datatype d) → Stand G names
    → Stand (after G (items.Datatype d)) (record names { datatypes = names.datatypes ++ d.name.text ∷ []; cons = names.cons ++ constructor_names d.cons ∷ [] })
datatype_stands text G names d fine named stand =
    let own = length G.datatypes in
    let H = with_datatype G d.name in
    let tparams = type_parameters_uses H no_parameters d.tparams in
    let cons = constructors_uses text H (data_locals own d.tparams) d.cons in
    let new : is_type_name G d.name.text ≡ false = rule_kept d.name.at (is_type_name G d.name.text) (first_broken (tparams ++ cons)) fine in
    let rest : first_broken cons ≡ None = fine_back tparams cons (fine_parts d.name.at (broken_where (is_type_name G d.name.text) Repeated) (first_broken (tparams ++ cons)) fine).1 in
    let flat : flat_map (λ (x : List (List ℕ)). x) (names.cons ++ constructor_names d.cons ∷ []) ≡ G.cons ++ constructor_names d.cons =
    flat_map-append (λ (x : List (List ℕ)). x) names.cons (constructor_names d.cons ∷ [])
    ∙ ap (λ xs. con_names names ++ xs) (append-nil (constructor_names d.cons))
    ∙ ap (λ xs. xs ++ constructor_names d.cons) stand.cons in
    let lawful = stand.lawful in
    let forms = lawful.forms in
    record {
      types = ap (λ xs. xs ++ d.name.text ∷ []) stand.types;
      cons = flat;
      lowers = stand.lowers;
      lawful = record {
        bool = record {
          datatype = first_stays names.datatypes d.name.text (codes "Bool") lawful.bool.datatype;
          cons = first_stays names.cons (constructor_names d.cons) (codes "False" ∷ codes "True" ∷ []) lawful.bool.cons;
        };
        types = distinct_push (type_names names) d.name.text lawful.types
            (not_among (type_names names) d.name.text (ap (λ xs. is_name (codes "Word" ∷ xs) d.name.text) stand.types ∙ new));
        constructors = subst AreDistinct (sym flat) (distinct_constructors text (data_locals own d.tparams) H d.cons rest (subst AreDistinct stand.cons lawful.constructors));
        lowers = lawful.lowers;
        forms = record {
          datatypes = All-push IsUpperName names.datatypes d.name.text forms.datatypes named.name;
          cons = All-push (All IsUpperName) names.cons (constructor_names d.cons) forms.cons (All-map IsUpperName (λ (con : SCon). con.name.text) d.cons named.cons);
          defs = forms.defs;
          lemmas = forms.lemmas;
          replicas = forms.replicas;
        };
      };
    }

-- The second has this name with a small letter more.
record Follows (G H : Globals) (name : List ℕ) : Type 0 where
  types : H.datatypes ≡ G.datatypes
  cons : H.cons ≡ G.cons
  lowers : H.lowers ≡ G.lowers ++ name ∷ []

-- two names in front
abbrev two : List (List ℕ) → List (List ℕ)
two xs = codes "wle" ∷ codes "weq" ∷ xs

-- a definition more
definition_stands : (G H : Globals) (names : Names) (name : List ℕ) → Follows G H name → is_name G.lowers name ≡ false → IsLowerName name → Stand G names
    → Stand H (record names { defs = names.defs ++ name ∷ [] })
definition_stands G H names name follows new named stand =
    let front = two names.defs in
    let back = names.lemmas ++ names.replicas in
    let all : two ((names.defs ++ name ∷ []) ++ back) ≡ front ++ name ∷ back = ap two (append_assoc names.defs (name ∷ []) back) in
    let lawful = stand.lawful in
    let forms = lawful.forms in
    record {
      types = stand.types ∙ sym follows.types;
      cons = stand.cons ∙ sym follows.cons;
      lowers = λ other c. subst (λ xs. Contains xs other) (sym follows.lowers)
          (within_more G.lowers (lower_names names) (two ((names.defs ++ name ∷ []) ++ back)) front back name refl all stand.lowers other c);
      lawful = record {
        bool = record { datatype = lawful.bool.datatype; cons = lawful.bool.cons };
        types = lawful.types;
        constructors = lawful.constructors;
        lowers = distinct_more G.lowers (lower_names names) (two ((names.defs ++ name ∷ []) ++ back)) front back name refl all stand.lowers new lawful.lowers;
        forms = record { datatypes = forms.datatypes; cons = forms.cons; lemmas = forms.lemmas; replicas = forms.replicas; defs = All-push IsLowerName names.defs name forms.defs named };
      };
    }

-- a lemma more
lemma_stands : (G H : Globals) (names : Names) (name : List ℕ) → Follows G H name → is_name G.lowers name ≡ false → IsLowerName name → Stand G names
    → Stand H (record names { lemmas = names.lemmas ++ name ∷ [] })
lemma_stands G H names name follows new named stand =
    let front = two (names.defs ++ names.lemmas) in
    let back = names.replicas in
    let after = two (names.defs ++ ((names.lemmas ++ name ∷ []) ++ back)) in
    let before_is : lower_names names ≡ front ++ back = ap two (sym (append_assoc names.defs names.lemmas back)) in
    let all : after ≡ front ++ name ∷ back =
    ap (λ xs. two (names.defs ++ xs)) (append_assoc names.lemmas (name ∷ []) back)
    ∙ ap two (sym (append_assoc names.defs names.lemmas (name ∷ back))) in
    let lawful = stand.lawful in
    let forms = lawful.forms in
    record {
      types = stand.types ∙ sym follows.types;
      cons = stand.cons ∙ sym follows.cons;
      lowers = λ other c. subst (λ xs. Contains xs other) (sym follows.lowers)
          (within_more G.lowers (lower_names names) after front back name before_is all stand.lowers other c);
      lawful = record {
        bool = record { datatype = lawful.bool.datatype; cons = lawful.bool.cons };
        types = lawful.types;
        constructors = lawful.constructors;
        lowers = distinct_more G.lowers (lower_names names) after front back name before_is all stand.lowers new lawful.lowers;
        forms = record { datatypes = forms.datatypes; cons = forms.cons; defs = forms.defs; replicas = forms.replicas; lemmas = All-push IsLowerName names.lemmas name forms.lemmas named };
      };
    }

-- a replica more
replica_stands : (G H : Globals) (names : Names) (name : List ℕ) → Follows G H name → is_name G.lowers name ≡ false → IsLowerName name → Stand G names
    → Stand H (record names { replicas = names.replicas ++ name ∷ [] })
replica_stands G H names name follows new named stand =
    let front = lower_names names in
    let after = two (names.defs ++ (names.lemmas ++ (names.replicas ++ name ∷ []))) in
    let all : after ≡ front ++ name ∷ [] =
    ap (λ xs. two (names.defs ++ xs)) (sym (append_assoc names.lemmas names.replicas (name ∷ [])))
    ∙ ap two (sym (append_assoc names.defs (names.lemmas ++ names.replicas) (name ∷ []))) in
    let lawful = stand.lawful in
    let forms = lawful.forms in
    record {
      types = stand.types ∙ sym follows.types;
      cons = stand.cons ∙ sym follows.cons;
      lowers = λ other c. subst (λ xs. Contains xs other) (sym follows.lowers)
          (within_more G.lowers front after front [] name (sym (append-nil front)) all stand.lowers other c);
      lawful = record {
        bool = record { datatype = lawful.bool.datatype; cons = lawful.bool.cons };
        types = lawful.types;
        constructors = lawful.constructors;
        lowers = distinct_more G.lowers front after front [] name (sym (append-nil front)) all stand.lowers new lawful.lowers;
        forms = record { datatypes = forms.datatypes; cons = forms.cons; defs = forms.defs; lemmas = forms.lemmas; replicas = All-push IsLowerName names.replicas name forms.replicas named };
      };
    }

-- a declaration more
next_stands : (text : List Item) (G : Globals) (P : RawProgram) {item : Item} {Q : RawProgram} →
    IsNext G P item Q → first_broken (item_uses text G item) ≡ None → IsNamedItem item → Stand G P.names → Stand (after G item) Q.names
next_stands text G P (IsNext.datatype {d = d} is e) fine named stand =
    subst (λ (Q : RawProgram). Stand (after G (items.Datatype d)) Q.names) (sym e)
    (datatype_stands text G P.names d fine named stand)
next_stands text G P (IsNext.definition {d = d} is e) fine named stand =
    subst (λ (Q : RawProgram). Stand (after G (items.Definition d)) Q.names) (sym e)
    (definition_stands G (after G (items.Definition d)) P.names d.name.text (record { types = refl; cons = refl; lowers = refl })
    (rule_kept d.name.at (is_name G.lowers d.name.text) _ fine) (lower_name d.name.text named) stand)
next_stands text G P (IsNext.claim {c = c} is e) fine named stand =
    let m = meaning_of G c.name.text in
    let props = props_of c.props in
    subst (λ (Q : RawProgram). Stand (after G (items.Claim c)) Q.names) (sym e) (record {
      types = stand.types ∙ sym (claims_types G m props);
      cons = stand.cons ∙ sym (claims_cons G m props);
      lowers = λ name x. subst (λ xs. Contains xs name) (sym (claims_lowers G m props)) (stand.lowers name x);
      lawful = stand.lawful;
    })
next_stands text G P (IsNext.lemma {l = l} is e) fine named stand =
    subst (λ (Q : RawProgram). Stand (after G (items.Lemma l)) Q.names) (sym e)
    (lemma_stands G (after G (items.Lemma l)) P.names l.name.text (record { types = refl; cons = refl; lowers = refl })
    (rule_kept l.name.at (is_name G.lowers l.name.text) _ fine) (lower_name l.name.text named) stand)
next_stands text G P (IsNext.replica {r = r} is e) fine named stand =
    subst (λ (Q : RawProgram). Stand (after G (items.Replica r)) Q.names) (sym e)
    (replica_stands G (after G (items.Replica r)) P.names r.name.text (record { types = refl; cons = refl; lowers = refl })
    (rule_kept r.name.at (is_name G.lowers r.name.text) _ fine) (lower_name r.name.text named) stand)

-- so do declarations
all_stand : (whole : List Item) {G : Globals} {P : RawProgram} {text : List Item} {Q : RawProgram} →
    AreNext G P text Q → first_broken (along after (item_uses whole) G text) ≡ None → All IsNamedItem text → Stand G P.names → IsLawful Q.names
all_stand whole AreNext.none fine named stand = stand.lawful
all_stand whole {G = G} {P = P} (AreNext.more {item = item} {text = text} first rest) fine named stand =
    let here = item_uses whole G item in
    let others = along after (item_uses whole) (after G item) text in
    all_stand whole rest (fine_back here others fine) (All-tail IsNamedItem item text named)
    (next_stands whole G P first (fine_front here others fine) (All-head IsNamedItem item text named) stand)

-- the byte may stand in a name
abbrev IsPart : ℕ → Type 0
IsPart byte = is_name_part byte ≡ true

-- two names that are not equal
distinct_two : (x y : List ℕ) → is_name (y ∷ []) x ≡ false → AreDistinct (x ∷ y ∷ [])
distinct_two x y new = AreDistinct.more (not_among (y ∷ []) x new) (AreDistinct.more (not_among [] y refl) AreDistinct.none)

-- what is built in
first_stands : Stand built_in start.names
first_stands = record {
  types = refl;
  cons = refl;
  lowers = λ name c. c;
  lawful = record {
    bool = record { datatype = refl; cons = refl };
    types = distinct_two (codes "Word") (codes "Bool") refl;
    constructors = distinct_two (codes "False") (codes "True") refl;
    lowers = distinct_two (codes "wle") (codes "weq") refl;
    forms = record {
      datatypes = All-cons IsUpperName (codes "Bool") [] is_bool (All-nil IsUpperName);
      cons = All-cons (All IsUpperName) (codes "False" ∷ codes "True" ∷ []) []
          (All-cons IsUpperName (codes "False") (codes "True" ∷ []) is_false (All-cons IsUpperName (codes "True") [] is_true (All-nil IsUpperName)))
          (All-nil (All IsUpperName));
      defs = All-nil IsLowerName;
      lemmas = All-nil IsLowerName;
      replicas = All-nil IsLowerName;
    };
  };
}
  where
    is_bool : IsUpperName (codes "Bool")
    is_bool = record { first = refl; rest = All-from_recursion IsPart (codes "Bool") (refl, (refl, (refl, (refl, tt)))) }

    is_false : IsUpperName (codes "False")
    is_false = record { first = refl; rest = All-from_recursion IsPart (codes "False") (refl, (refl, (refl, (refl, (refl, tt))))) }

    is_true : IsUpperName (codes "True")
    is_true = record { first = refl; rest = All-from_recursion IsPart (codes "True") (refl, (refl, (refl, (refl, tt)))) }

-- the names of a numbered program are lawful
pub lawful_program : (surface : Surface) (P : RawProgram) → AreNamed surface → IsNumbering surface P → IsLawful P.names
lawful_program surface P named numbering = all_stand surface.items numbering.numbered numbering.lawful named first_stands

-- so are those of an answer
pub lawful_answer : (surface : Surface) (text : List Item) (r : Result RawProgram ScopeEnd) → text ≡ surface.items → AreNamed surface →
    Resolves (text_uses text) (AreNext built_in start text) r → IfOk r (λ P. IsLawful P.names)
lawful_answer surface text (Ok P) same named (fine, are) = lawful_program surface P named (record {
  lawful = ap (λ xs. first_broken (text_uses xs)) (sym same) ∙ fine;
  numbered = subst (λ xs. AreNext built_in start xs P) same are;
})
lawful_answer surface text (Err end) same named fails = tt
