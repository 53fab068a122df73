-- Constructors and their names.
use Rattle.std.proofs.Common.{◌≡◌, ℕ, zero, suc, ◌<◌, ◌^◌, Bool, true, false, List, [], ◌∷◌, ◌++◌, length, get_or, Option, Some, None, refl, sym, ap, ◌∙◌, subst, arith}
use Rattle.std.specs.Prelude.{Contains, All, unwrap_or, slice_get, IsTrue}
use Rattle.std.specs.List.{flat_map, position_or_len}
use Rattle.std.specs.Str.{bytes_eq}
use Rattle.std.specs.Char.{is_ascii_uppercase}
use Rattle.std.proofs.lemmas.Slice.Eq.{bytes_eq-Decides}
use Rattle.std.proofs.lemmas.Bool.Decides.{Decides-ltb, nat_tests}
use Rattle.std.proofs.lemmas.List.Quantifiers.{position-Some}
use Rattle.std.proofs.lemmas.List.Elements.{Contains-get_or, Contains-append_left, recursion_from_All}
use Rattle.std.proofs.lemmas.Option.{slice_get_within, slice_get-get_or, get_or_from_slice_get}
use Rattle.px_base.specs.Distinct.{AreDistinct, none, more}
use Rattle.px_base.specs.Lawful.{IsLawful}
use Rattle.px_base.specs.NameForms.{is_name_part, IsUpperName}
use Rattle.px_base.specs.declared.names.Names.{Names}
use Rattle.px_terms.specs.declared.types.Ty.{Ty}
use Rattle.px_terms.specs.declared.program.ConDef.{ConDef}
use Rattle.px_terms.specs.declared.program.DataDef.{DataDef}
use Rattle.px_terms.specs.declared.program.Program.{Program}
use Rattle.px_terms.specs.Numbered.{HasNumbers}
use Rattle.px_terms.specs.Programs.{constructor_at}
use Rattle.px_schedule.specs.ValueGrammar.{constructors_at}
use Rattle.px_schedule.specs.Names.{place_of, with_fields, IsNamed}
use Rattle.px_schedule.proofs.RunFacts.{Each}
use Rattle.px_schedule.proofs.Spellings.{is_space, IsSolid}

-- a word that was found stands there
pub place_found : (names : List (List ℕ)) (word : List ℕ) (k : ℕ) → place_of names word ≡ Some k → slice_get names k ≡ Some word
place_found names word k e =
    let p = position-Some (λ (name : List ℕ). bytes_eq name word) names k [] e in
    slice_get-get_or names k [] p.0 ∙ ap (λ (w : List ℕ). Some w) ((bytes_eq-Decides (get_or names k []) word).0 p.1)

within_step : (word x : List ℕ) (xs : List (List ℕ)) (b : Bool) → bytes_eq x word ≡ b → position_or_len (λ (name : List ℕ). bytes_eq name word) xs < length xs → position_or_len (λ (name : List ℕ). bytes_eq name word) (x ∷ xs) < length (x ∷ xs)
within_step word x xs true e less = rw e (omega arith)
within_step word x xs false e less = rw e (omega arith)

-- where a word stands, one is found
place_within : (names : List (List ℕ)) (word : List ℕ) (k : ℕ) → slice_get names k ≡ Some word → position_or_len (λ (name : List ℕ). bytes_eq name word) names < length names
place_within [] word k e = absurd cc
place_within (x ∷ xs) word zero e =
    let same : x ≡ word = cc in
    rw ((bytes_eq-Decides x word).1 same) (omega arith)
place_within (x ∷ xs) word (suc k) e = within_step word x xs (bytes_eq x word) refl (place_within xs word k e)

pub no_place : (names : List (List ℕ)) (word : List ℕ) → place_of names word ≡ None → (k : ℕ) → slice_get names k ≡ Some word → ⊥
no_place names word e k at =
    let less = (Decides-ltb (position_or_len (λ (name : List ℕ). bytes_eq name word) names) (length names)).1 (place_within names word k at) in
    let found : place_of names word ≡ Some (position_or_len (λ (name : List ℕ). bytes_eq name word) names) = rw less refl in
    absurd cc

distinct_front : {A : Type 0} (xs ys : List A) → AreDistinct (xs ++ ys) → AreDistinct xs
distinct_front [] ys distinct = none
distinct_front (x ∷ xs) ys (more absent distinct) = more (λ there. absent (Contains-append_left xs ys x there)) (distinct_front xs ys distinct)

distinct_back : {A : Type 0} (xs ys : List A) → AreDistinct (xs ++ ys) → AreDistinct ys
distinct_back [] ys distinct = distinct
distinct_back (x ∷ xs) ys (more absent distinct) = distinct_back xs ys distinct

list_distinct : (lists : List (List (List ℕ))) → AreDistinct (flat_map (λ (own : List (List ℕ)). own) lists) → (d : ℕ) (own : List (List ℕ)) → slice_get lists d ≡ Some own → AreDistinct own
list_distinct [] distinct d own e = absurd cc
list_distinct (first ∷ lists) distinct zero own e =
    let same : first ≡ own = cc in
    subst (λ (names : List (List ℕ)). AreDistinct names) same (distinct_front first (flat_map (λ (names : List (List ℕ)). names) lists) distinct)
list_distinct (first ∷ lists) distinct (suc d) own e = list_distinct lists (distinct_back first (flat_map (λ (names : List (List ℕ)). names) lists) distinct) d own e

-- the names of a datatype's constructors are distinct
names_distinct : (names : Names) (d : ℕ) → IsLawful names → AreDistinct (constructors_at names d)
names_distinct names d lawful = by (slice_get names.cons d) refl
  where
    by : (o : Option (List (List ℕ))) → slice_get names.cons d ≡ o → AreDistinct (unwrap_or o [])
    by (Some own) e = list_distinct names.cons lawful.constructors d own e
    by None e = none

contained : (xs : List (List ℕ)) (k : ℕ) (x : List ℕ) → slice_get xs k ≡ Some x → Contains xs x
contained xs k x e =
    let there : Contains xs (get_or xs k []) = Contains-get_or xs k [] (slice_get_within xs k x e) in
    subst (Contains xs) (get_or_from_slice_get xs k x [] e) there

-- nothing stands at two places
pub one_place : (xs : List (List ℕ)) → AreDistinct xs → (j k : ℕ) (x : List ℕ) → slice_get xs j ≡ Some x → slice_get xs k ≡ Some x → j ≡ k
one_place [] distinct j k x e f = absurd cc
one_place (y ∷ xs) distinct zero zero x e f = refl
one_place (y ∷ xs) (more absent distinct) zero (suc k) x e f =
    let same : y ≡ x = cc in
    absurd (absent (subst (Contains xs) (sym same) (contained xs k x f)))
one_place (y ∷ xs) (more absent distinct) (suc j) zero x e f =
    let same : y ≡ x = cc in
    absurd (absent (subst (Contains xs) (sym same) (contained xs j x e)))
one_place (y ∷ xs) (more absent distinct) (suc j) (suc k) x e f = ap suc (one_place xs distinct j k x e f)

-- Two constructors are one.
pub record SameNamed (j k : ℕ) (fields others : List Ty) : Type 0 where
  pub number : j ≡ k
  pub types : fields ≡ others

-- a name is at most one constructor's
pub one_named : (P : Program) → IsLawful P.names → (d : ℕ) (word : List ℕ) (j k : ℕ) (fields others : List Ty) → IsNamed P d word j fields → IsNamed P d word k others → SameNamed j k fields others
one_named P lawful d word j k fields others one other =
    let same : j ≡ k = one_place (constructors_at P.names d) (names_distinct P.names d lawful) j k word one.named other.named in
    let both : Some (with_fields fields) ≡ Some (with_fields others) = sym one.declared ∙ ap (constructor_at P d) same ∙ other.declared in
    let one_is : with_fields fields ≡ with_fields others = cc in
    record { number = same; types = ap (λ (c : ConDef). c.fields) one_is }

list_upper : (lists : List (List (List ℕ))) → All (All IsUpperName) lists → (d k : ℕ) (own : List (List ℕ)) (word : List ℕ) → slice_get lists d ≡ Some own → slice_get own k ≡ Some word → IsUpperName word
list_upper lists all d k own word e f =
    let there : IsUpperName (get_or (get_or lists d []) k []) = all d [] (slice_get_within lists d own e) k [] (subst (λ (names : List (List ℕ)). k < length names) (sym (get_or_from_slice_get lists d own [] e)) (slice_get_within own k word f)) in
    subst IsUpperName (ap (λ (names : List (List ℕ)). get_or names k []) (get_or_from_slice_get lists d own [] e) ∙ get_or_from_slice_get own k word [] f) there

-- a constructor's name has the form of one
pub name_upper : (names : Names) → IsLawful names → (d k : ℕ) (word : List ℕ) → slice_get (constructors_at names d) k ≡ Some word → IsUpperName word
name_upper names lawful d k word e = by (slice_get names.cons d) refl e
  where
    by : (o : Option (List (List ℕ))) → slice_get names.cons d ≡ o → slice_get (unwrap_or o []) k ≡ Some word → IsUpperName word
    by (Some own) f g = list_upper names.cons lawful.forms.cons d k own word f g
    by None f g = absurd cc

pub name_parts : (word : List ℕ) → IsUpperName word → Each is_name_part word
name_parts word upper = recursion_from_All (λ (byte : ℕ). IsTrue (is_name_part byte)) word upper.rest

no_space : (c : ℕ) → is_ascii_uppercase c ≡ true → is_space c ≡ false
no_space c e = grind (arith, nat_tests)

pub name_solid : (word : List ℕ) → IsUpperName word → IsSolid word
name_solid [] upper = absurd cc
name_solid (c ∷ cs) upper = record { first = c; rest = cs; is = refl; solid = no_space c upper.first }

own_is : (P : Program) (d : ℕ) (own : List (List ℕ)) → slice_get P.names.cons d ≡ Some own → constructors_at P.names d ≡ own
own_is P d own e = rw e refl

at_is : (P : Program) (d k : ℕ) (D : DataDef) → slice_get P.datatypes d ≡ Some D → constructor_at P d k ≡ slice_get D.cons k
at_is P d k D e = rw e refl

-- what was found
pub named : (P : Program) (d k : ℕ) (word : List ℕ) (own : List (List ℕ)) (D : DataDef) (c : ConDef) (fields : List Ty) → slice_get P.names.cons d ≡ Some own → place_of own word ≡ Some k → slice_get P.datatypes d ≡ Some D → slice_get D.cons k ≡ Some c → fields ≡ c.fields → IsNamed P d word k fields
named P d k word own D c fields own_at place_is data_at con_at fields_are = record {
  named = ap (λ (names : List (List ℕ)). slice_get names k) (own_is P d own own_at) ∙ place_found own word k place_is;
  declared = at_is P d k D data_at ∙ con_at ∙ ap (λ (types : List Ty). Some (with_fields types)) (sym fields_are);
}

-- no constructor has the name
pub unnamed : (P : Program) (d : ℕ) (word : List ℕ) (own : List (List ℕ)) → slice_get P.names.cons d ≡ Some own → place_of own word ≡ None → (k : ℕ) (fields : List Ty) → IsNamed P d word k fields → ⊥
unnamed P d word own own_at none_is k fields is = no_place own word none_is k (sym (ap (λ (names : List (List ℕ)). slice_get names k) (own_is P d own own_at)) ∙ is.named)

-- what has the name is not declared
pub undeclared : (P : Program) → IsLawful P.names → (d k : ℕ) (word : List ℕ) (own : List (List ℕ)) (D : DataDef) → slice_get P.names.cons d ≡ Some own → place_of own word ≡ Some k → slice_get P.datatypes d ≡ Some D → slice_get D.cons k ≡ None → (j : ℕ) (fields : List Ty) → IsNamed P d word j fields → ⊥
undeclared P lawful d k word own D own_at place_is data_at none_is j fields is =
    let here : slice_get (constructors_at P.names d) k ≡ Some word = ap (λ (names : List (List ℕ)). slice_get names k) (own_is P d own own_at) ∙ place_found own word k place_is in
    let same : j ≡ k = one_place (constructors_at P.names d) (names_distinct P.names d lawful) j k word is.named here in
    let e : Some (with_fields fields) ≡ None = sym is.declared ∙ ap (constructor_at P d) same ∙ at_is P d k D data_at ∙ none_is in
    absurd cc

-- the number of a constructor is below 2^32
pub small_number : (P : Program) → HasNumbers P → (d k : ℕ) (D : DataDef) (c : ConDef) → slice_get P.datatypes d ≡ Some D → slice_get D.cons k ≡ Some c → k < 2 ^ 32
small_number P numbered d k D c data_at con_at =
    let less = slice_get_within D.cons k c con_at in
    let most = numbered.constructors d D data_at in
    omega arith
