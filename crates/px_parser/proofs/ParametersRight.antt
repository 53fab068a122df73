-- Properties and parameters are read.
use Rattle.std.proofs.Common.{◌≡◌, ℕ, suc, Bool, true, false, not, List, [], ◌∷◌, ◌++◌, refl, sym, ap, subst, ◌⊎◌, inl, inr}
use Rattle.px_base.specs.declared.raw.RawProp.{RawProp}
use Rattle.px_lexer.specs.declared.token.Key.TheVariants.{KFn, KWith}
use Rattle.px_lexer.specs.declared.token.Mark.TheVariants.{ParenL, ParenR, Less, Comma, Colon, Arrow}
use Rattle.px_lexer.specs.declared.token.TokenKind.{TokenKind}
use Rattle.px_lexer.specs.declared.token.TokenKind.TheVariants as kinds
use Rattle.px_parser.specs.Words.{Word}
use Rattle.px_parser.specs.Kinds.{is_mark, is_key, is_property, fronts}
use Rattle.px_parser.specs.Phrases.{IsSequence, property, list, optional}
use Rattle.px_parser.specs.Readers.{pure}
use Rattle.px_parser.specs.Grammar.{type, properties, with_properties, fn_type, param_kind, param, params}
use Rattle.px_parser.specs.Reading.{up_to, properties_at, with_at, comma_property, param_properties_at, param_with_at, fn_type_at, param_kind_at, param_at, param_list_at, params_at}
use Rattle.px_parser.specs.declared.surface.SType.{SType}
use Rattle.px_parser.specs.declared.surface.SParam.{SParam}
use Rattle.px_parser.specs.declared.surface.SFnType.{SFnType}
use Rattle.px_parser.proofs.Right.{SameFirst, SameTwo, Right, right_done, right_bind, right_choice, right_ends, right_flip, right_before, two_first, decided}
use Rattle.px_parser.proofs.Tokens.{right_mark, right_key, right_lower, right_property, right_comma, is_mark-true}
use Rattle.px_parser.proofs.Loops.{NoLonger, right_no_longer}
use Rattle.px_parser.proofs.Joins.{Anything, Avoids, EndsList, fronts_same, begins, begins_with, begins_optional, begins_between, begins_list, right_list, right_list_while, right_between}
use Rattle.px_parser.proofs.TypesRight.{right_type, right_types}
use Rattle.px_parser.proofs.CommaProperty.{nothing_no_comma}

pub right_properties : Right SameFirst SameFirst (EndsList Comma Anything) properties properties_at
unfolding properties_at
right_properties = right_list Comma right_property (λ word used rest value kind is. tt)

abbrev pub EndsWith : List Word → Type 0
EndsWith rest = Avoids (is_key KWith) rest × Avoids (is_mark Comma) rest

pub right_with : Right SameFirst SameFirst EndsWith with_properties with_at
unfolding with_properties with_at
right_with =
    right_choice (fronts (is_key KWith)) (fronts_same (is_key KWith))
    (right_bind {EndsA = Anything} (right_key KWith) (λ at. right_ends (λ rest end. (end.1, tt)) right_properties) (λ a used rest t is end. tt)) (right_done [])
    (λ used rest value is end. begins (λ s. fronts (is_key KWith) s ≡ true) (λ word at rest is. rw is.kind refl) used rest value is)
    (λ used rest value is end. rw is.none end.0)

comma_same : (x y : List Word) → SameTwo x y → comma_property x ≡ comma_property y
unfolding comma_property
comma_same [] [] same = refl
comma_same [] (b ∷ y) same = absurd same
comma_same (a ∷ x) [] same = absurd same
comma_same (a ∷ x) (b ∷ y) same = go (decided (is_mark Comma a.kind))
  where
    go : (is_mark Comma a.kind ≡ true) ⊎ (is_mark Comma a.kind ≡ false) → comma_property (a ∷ x) ≡ comma_property (b ∷ y)
    go (inl holds) = rw (← same.0, holds) (fronts_same is_property x y (same.1 (is_mark-true Comma a.kind holds)))
    go (inr fails) = rw (← same.0, fails) refl

property_front : (used rest : List Word) (value : RawProp) → property used value → fronts is_property (used ++ rest) ≡ true
property_front used rest value is = subst (λ s. fronts is_property s ≡ true) (sym (ap (λ u. u ++ rest) is.whole)) (rw is.is.kind refl)

comma_starts : (word : Word) (used rest : List Word) (value : RawProp) → word.kind ≡ kinds.Mark Comma → property used value → comma_property (word ∷ (used ++ rest)) ≡ true
unfolding comma_property
comma_starts word used rest value kind is = rw (kind) (property_front used rest value is)

pub right_param_properties : Right SameFirst SameTwo (λ rest. comma_property rest ≡ false) properties param_properties_at
unfolding param_properties_at
right_param_properties =
    right_list_while {EndsItem = Anything} Comma comma_property right_comma right_property nothing_no_comma comma_same (λ x y same fails. same) comma_starts (λ word used rest value kind is. tt) (λ rest end. end) (λ rest end. tt)

abbrev pub EndsParamWith : List Word → Type 0
EndsParamWith rest = Avoids (is_key KWith) rest × (comma_property rest ≡ false)

pub right_param_with : Right SameFirst SameTwo EndsParamWith with_properties param_with_at
unfolding with_properties param_with_at
right_param_with =
    right_choice (fronts (is_key KWith)) (fronts_same (is_key KWith))
    (right_bind {EndsA = Anything} (right_key KWith) (λ at. right_ends (λ rest end. end.1) right_param_properties) (λ a used rest t is end. tt)) (right_before two_first (right_done []))
    (λ used rest value is end. begins (λ s. fronts (is_key KWith) s ≡ true) (λ word at rest is. rw is.kind refl) used rest value is)
    (λ used rest value is end. rw is.none end.0)

abbrev pub EndsParam : List Word → Type 0
EndsParam rest = Avoids (is_mark Less) rest × EndsParamWith rest

-- what stands before an optional `with`
pub begins_with_properties : {T : Type 0} (Good : List Word → Type 0) {B : List RawProp → List Word → T → Type 0} (used rest : List Word) (t : T) → ((word : Word) (rest : List Word) → word.kind ≡ kinds.Key KWith → Good (word ∷ rest)) → ((a : List RawProp) (used : List Word) → B a used t → Good (used ++ rest)) → IsSequence with_properties B used t → Good (used ++ rest)
unfolding with_properties
begins_with_properties Good used rest t good goods is = begins_optional Good used rest t (λ used rest value is. begins Good (λ word at rest is. good word rest is.kind) used rest value is) goods is

right_fn_type : Right SameFirst SameTwo EndsParam fn_type fn_type_at
unfolding fn_type fn_type_at
right_fn_type =
    right_bind {EndsA = Anything} (right_key KFn) (λ at. right_bind {EndsA = Anything} (right_between ParenL ParenR (right_types 198) (λ word rest kind. (rw kind refl, rw kind refl))) (λ params. right_bind {EndsA = Anything} (right_mark Arrow) (λ arrow. right_bind (right_type 198) (λ result. right_bind right_param_with (λ props. right_done _)
    (λ a used rest t is end. rw is.none end.1))
    (λ a used rest t is end. begins_with_properties (Avoids (is_mark Less)) used rest t (λ word rest kind. rw kind refl) (λ a used is. rw is.none end.0) is))
    (λ a used rest t is end. tt)) (λ a used rest t is end. tt)) (λ a used rest t is end. tt)

type_front : (f : TokenKind → Bool) → f kinds.Upper ≡ false → (room : ℕ) (used rest : List Word) (value : SType) → type (suc room) used value → fronts f (used ++ rest) ≡ false
unfolding type
type_front f good room used rest value is = begins (Avoids f) (λ word name rest is. rw is.kind good) used rest value is

fn_type_front : (used rest : List Word) (value : SFnType) → fn_type used value → fronts (is_key KFn) (used ++ rest) ≡ true
unfolding fn_type
fn_type_front used rest value is = begins (λ s. fronts (is_key KFn) s ≡ true) (λ word at rest is. rw is.kind refl) used rest value is

right_param_kind : Right SameFirst SameTwo EndsParam param_kind param_kind_at
unfolding param_kind param_kind_at
right_param_kind =
    right_choice (fronts (is_key KFn)) (fronts_same (is_key KFn))
    (right_bind right_fn_type (λ function. right_done _) (λ a used rest t is end. rw is.none end))
    (right_bind (right_type 199) (λ value. right_before two_first (right_done _)) (λ a used rest t is end. rw is.none end.0))
    (λ used rest value is end. begins_with (λ s. fronts (is_key KFn) s ≡ true) fn_type_front used rest value is)
    (λ used rest value is end. begins_with (Avoids (is_key KFn)) (type_front (is_key KFn) refl 199) used rest value is)

right_param : Right SameFirst SameTwo EndsParam param param_at
unfolding param param_at
right_param =
    right_bind {EndsA = Anything} right_lower (λ name. right_bind {EndsA = Anything} (right_mark Colon) (λ colon. right_bind right_param_kind (λ kind. right_done _) (λ a used rest t is end. rw is.none end)) (λ a used rest t is end. tt)) (λ a used rest t is end. tt)

param_front : (Good : List Word → Type 0) → ((word : Word) (rest : List Word) → word.kind ≡ kinds.Lower → Good (word ∷ rest)) → (used rest : List Word) (value : SParam) → param used value → Good (used ++ rest)
unfolding param
param_front Good good used rest value is = begins Good (λ word name rest is. good word rest is.kind) used rest value is

two_unless_comma : (x y : List Word) → SameFirst x y → fronts (is_mark Comma) x ≡ false → SameTwo x y
two_unless_comma [] [] same fails = tt
two_unless_comma [] (b ∷ y) same fails = absurd same
two_unless_comma (a ∷ x) [] same fails = absurd same
two_unless_comma (a ∷ x) (b ∷ y) same fails = (same, λ kind. let h : is_mark Comma a.kind ≡ true = rw kind refl in absurd (cc))

params_go_on : (word : Word) (used rest : List Word) (value : SParam) → word.kind ≡ kinds.Mark Comma → param used value → EndsParam (word ∷ (used ++ rest))
unfolding comma_property
params_go_on word used rest value kind is = (rw kind refl, (rw kind refl, rw kind (param_front (Avoids is_property) (λ word rest kind. rw kind refl) used rest value is)))

abbrev EndsParamList : List Word → Type 0
EndsParamList rest = Avoids (is_mark Comma) rest × EndsParam rest

right_param_list : Right SameFirst SameFirst EndsParamList (list Comma param) param_list_at
unfolding param_list_at
right_param_list =
    right_list_while Comma (fronts (is_mark Comma)) right_comma right_param refl (λ x y same. fronts_same (is_mark Comma) x y (two_first x y same)) two_unless_comma
    (λ word used rest value kind is. rw kind refl) params_go_on (λ rest end. end.0) (λ rest end. end.1)

abbrev EndsInside : List Word → Type 0
EndsInside rest = fronts (is_mark ParenR) rest ≡ true

paren_ends : (rest : List Word) → EndsInside rest → EndsParamList rest
unfolding comma_property
paren_ends [] end = absurd (cc)
paren_ends (word ∷ rest) end = let kind : word.kind ≡ kinds.Mark ParenR = is_mark-true ParenR word.kind end in (rw kind refl, (rw kind refl, (rw kind refl, rw kind refl)))

pub right_params : Right SameFirst SameFirst Anything params params_at
unfolding params params_at up_to
right_params =
    right_between {EndsA = EndsInside} ParenL ParenR
    (right_flip param_list_at (pure []) (fronts (is_mark ParenR)) (right_choice (λ x. not (fronts (is_mark ParenR) x)) (λ x y same. ap not (fronts_same (is_mark ParenR) x y same))
    (right_ends {Ends = EndsParamList} {Stronger = EndsInside} paren_ends right_param_list) (right_done [])
    (λ used rest value is end. ap not (begins_list (Avoids (is_mark ParenR)) Comma param (param_front (Avoids (is_mark ParenR)) (λ word rest kind. rw kind refl)) used rest value is))
    (λ used rest value is end. rw (is.none, end) refl)))
    (λ word rest kind. rw kind refl)

-- parameters stand in parentheses
pub params_front : (Good : List Word → Type 0) → ((word : Word) (rest : List Word) → word.kind ≡ kinds.Mark ParenL → Good (word ∷ rest)) → (used rest : List Word) (value : List SParam) → params used value → Good (used ++ rest)
unfolding params
params_front Good good used rest value is = begins_between Good ParenL (optional [] (list Comma param)) ParenR good used rest value is

pub param_stays : NoLonger param_at
param_stays = right_no_longer right_param
