-- Declarations and programs are read.
use Rattle.std.proofs.Common.{◌≡◌, ◌<◌, length, true, false, List, [], ◌∷◌, ◌++◌, refl, length-append, arith}
use Rattle.px_base.specs.declared.limits.TheConstants.{NESTING}
use Rattle.px_lexer.specs.declared.token.Key.{Key}
use Rattle.px_lexer.specs.declared.token.Key.TheVariants.{KData, KDef, KClaim, KLemma, KReplica, KFrom, KBy}
use Rattle.px_lexer.specs.declared.token.Mark.TheVariants.{BraceL, BraceR, ParenL, ParenR, Less, Greater, Comma, Colon, Equal, FatArrow}
use Rattle.px_lexer.specs.declared.token.TokenKind.TheVariants as kinds
use Rattle.px_parser.specs.Words.{Word}
use Rattle.px_parser.specs.Kinds.{is_mark, is_key, fronts}
use Rattle.px_parser.specs.Phrases.{IsSequence, one, other, Each, upper, list, between, optional}
use Rattle.px_parser.specs.Grammar.{type, type_parameters, con, data_declaration, definition, claim, equation, lemma, function, replica, item, expr}
use Rattle.px_parser.specs.Reading.{con_fields_at, con_at, cons_at, data_at, definition_at, claim_at, equation_at, equations_at, lemma_at, function_at, functions_at, merge_functions_at, replica_at, item_at, items_at, some_word}
use Rattle.px_parser.specs.declared.surface.Name.{Name}
use Rattle.px_parser.specs.declared.surface.SData.{SData}
use Rattle.px_parser.specs.declared.surface.SDef.{SDef}
use Rattle.px_parser.specs.declared.surface.SClaim.{SClaim}
use Rattle.px_parser.specs.declared.surface.SLemma.{SLemma}
use Rattle.px_parser.specs.declared.surface.SReplica.{SReplica}
use Rattle.px_parser.specs.declared.surface.Item.{Item}
use Rattle.px_parser.proofs.Right.{SameFirst, Right, right_done, right_bind, right_choice}
use Rattle.px_parser.proofs.Repeats.{right_each, Shrinks}
use Rattle.px_parser.proofs.Tokens.{right_mark, right_key, right_upper, right_lower, is_key-same}
use Rattle.px_parser.proofs.Loops.{NoLonger, right_no_longer}
use Rattle.px_parser.proofs.Joins.{Anything, Avoids, EndsList, fronts_same, begins, begins_with, begins_optional, begins_mark, begins_between, right_list, right_between}
use Rattle.px_parser.proofs.TypesRight.{right_opened, right_type, right_types, right_arguments, right_type_parameters, EndsType}
use Rattle.px_parser.proofs.ExpressionsRight.{right_expr, EndsExpr}
use Rattle.px_parser.proofs.ParametersRight.{right_properties, right_with, right_params, params_front, begins_with_properties, EndsWith}

right_con_fields : Right SameFirst SameFirst (Avoids (is_mark ParenL)) (optional [] (between ParenL (list Comma (type NESTING)) ParenR)) con_fields_at
unfolding con_fields_at
right_con_fields = right_opened ParenL ParenR (right_types 199) (λ word rest kind. (rw kind refl, rw kind refl))

right_con : Right SameFirst SameFirst (Avoids (is_mark ParenL)) con con_at
unfolding con con_at
right_con = right_bind {EndsA = Anything} right_upper (λ name. right_bind right_con_fields (λ fields. right_done _) (λ a used rest t is end. rw is.none end)) (λ a used rest t is end. tt)

pub con_stays : NoLonger con_at
con_stays = right_no_longer right_con

right_cons : Right SameFirst SameFirst (EndsList Comma (Avoids (is_mark ParenL))) (list Comma con) cons_at
unfolding cons_at
right_cons = right_list Comma right_con (λ word used rest value kind is. rw kind refl)

-- what stands before an optional list of type parameters
begins_type_parameters : {T : Type 0} (Good : List Word → Type 0) {B : List Name → List Word → T → Type 0} (used rest : List Word) (t : T) → ((word : Word) (rest : List Word) → word.kind ≡ kinds.Mark Less → Good (word ∷ rest)) → ((a : List Name) (used : List Word) → B a used t → Good (used ++ rest)) → IsSequence type_parameters B used t → Good (used ++ rest)
begins_type_parameters Good used rest t good goods is = begins_optional Good used rest t (λ used rest value is. begins_between Good Less (list Comma upper) Greater good used rest value is) goods is

right_data : Right SameFirst SameFirst Anything data_declaration data_at
unfolding data_declaration data_at
right_data =
    right_bind {EndsA = Anything} (right_key KData) (λ at. right_bind {EndsA = Anything} right_upper (λ name. right_bind right_type_parameters (λ tparams. right_bind {EndsA = Anything} (right_between BraceL BraceR right_cons (λ word rest kind. (rw kind refl, rw kind refl))) (λ cons. right_done _) (λ a used rest t is end. tt))
    (λ a used rest t is end. begins_with (Avoids (is_mark Less)) (λ used rest value is. begins_between (Avoids (is_mark Less)) BraceL (list Comma con) BraceR (λ word rest kind. rw kind refl) used rest value is) used rest t is)) (λ a used rest t is end. tt)) (λ a used rest t is end. tt)

right_definition : Right SameFirst SameFirst Anything definition definition_at
unfolding definition definition_at
right_definition =
    right_bind {EndsA = Anything} (right_key KDef) (λ at. right_bind {EndsA = Anything} right_lower (λ name. right_bind right_type_parameters (λ tparams. right_bind right_params (λ params. right_bind {EndsA = Anything} (right_mark Colon) (λ colon. right_bind (right_type 199) (λ result. right_bind right_with (λ props. right_bind {EndsA = Anything} (right_between BraceL BraceR (right_expr 199) (λ word rest kind. (rw kind refl, rw kind refl))) (λ body. right_done _)
    (λ a used rest t is end. tt))
    (λ a used rest t is end. begins_with EndsWith (λ used rest value is. begins_between EndsWith BraceL (expr NESTING) BraceR (λ word rest kind. (rw kind refl, rw kind refl)) used rest value is) used rest t is))
    (λ a used rest t is end. begins_with_properties (Avoids (is_mark Less)) used rest t (λ word rest kind. rw kind refl) (λ a used is. begins_with (Avoids (is_mark Less)) (λ used rest value is. begins_between (Avoids (is_mark Less)) BraceL (expr NESTING) BraceR (λ word rest kind. rw kind refl) used rest value is) used rest t is) is))
    (λ a used rest t is end. tt))
    (λ a used rest t is end. tt))
    (λ a used rest t is end. begins_with (Avoids (is_mark Less)) (params_front (Avoids (is_mark Less)) (λ word rest kind. rw kind refl)) used rest t is))
    (λ a used rest t is end. tt)) (λ a used rest t is end. tt)

right_claim : Right SameFirst SameFirst (EndsList Comma Anything) claim claim_at
unfolding claim claim_at
right_claim =
    right_bind {EndsA = Anything} (right_key KClaim) (λ at. right_bind {EndsA = Anything} right_lower (λ name. right_bind {EndsA = Anything} (right_mark Colon) (λ colon. right_bind right_properties (λ props. right_done _) (λ a used rest t is end. rw is.none end)) (λ a used rest t is end. tt)) (λ a used rest t is end. tt)) (λ a used rest t is end. tt)

right_equation : Right SameFirst SameFirst EndsExpr equation equation_at
unfolding equation equation_at
right_equation =
    right_bind (right_expr 199) (λ left. right_bind {EndsA = Anything} (right_mark Equal) (λ equal. right_bind (right_expr 199) (λ right. right_done _) (λ a used rest t is end. rw is.none end)) (λ a used rest t is end. tt))
    (λ a used rest t is end. begins_mark EndsExpr (λ word rest kind. (rw kind refl, rw kind refl)) used rest t is)

pub equation_stays : NoLonger equation_at
equation_stays = right_no_longer right_equation

right_equations : Right SameFirst SameFirst (EndsList FatArrow EndsExpr) (list FatArrow equation) equations_at
unfolding equations_at
right_equations = right_list FatArrow right_equation (λ word used rest value kind is. (rw kind refl, rw kind refl))

right_lemma : Right SameFirst SameFirst (EndsList FatArrow EndsExpr) lemma lemma_at
unfolding lemma lemma_at
right_lemma =
    right_bind {EndsA = Anything} (right_key KLemma) (λ at. right_bind {EndsA = Anything} right_lower (λ name. right_bind right_type_parameters (λ tparams. right_bind right_params (λ params. right_bind {EndsA = Anything} (right_mark Colon) (λ colon. right_bind right_equations (λ equations. right_done _)
    (λ a used rest t is end. rw is.none end))
    (λ a used rest t is end. tt))
    (λ a used rest t is end. tt))
    (λ a used rest t is end. begins_with (Avoids (is_mark Less)) (params_front (Avoids (is_mark Less)) (λ word rest kind. rw kind refl)) used rest t is))
    (λ a used rest t is end. tt)) (λ a used rest t is end. tt)

right_function : Right SameFirst SameFirst EndsType function function_at
unfolding function function_at
right_function = right_bind {EndsA = Anything} right_lower (λ name. right_bind (right_arguments NESTING) (λ args. right_done _) (λ a used rest t is end. rw is.none end)) (λ a used rest t is end. tt)

pub function_stays : NoLonger function_at
function_stays = right_no_longer right_function

right_functions : Right SameFirst SameFirst (EndsList Comma EndsType) (list Comma function) functions_at
unfolding functions_at
right_functions = right_list Comma right_function (λ word used rest value kind is. rw kind refl)

right_merge_functions : Right SameFirst SameFirst (Avoids (is_mark ParenL)) (optional [] (between ParenL (list Comma function) ParenR)) merge_functions_at
unfolding merge_functions_at
right_merge_functions = right_opened ParenL ParenR right_functions (λ word rest kind. (rw kind refl, rw kind refl))

right_replica : Right SameFirst SameFirst EndsExpr replica replica_at
unfolding replica replica_at
right_replica =
    right_bind {EndsA = Anything} (right_key KReplica) (λ at. right_bind {EndsA = Anything} right_lower (λ name. right_bind {EndsA = Anything} (right_mark Colon) (λ colon. right_bind (right_type 199) (λ state. right_bind {EndsA = Anything} (right_key KFrom) (λ from_word. right_bind (right_expr 199) (λ from. right_bind {EndsA = Anything} (right_key KBy) (λ by. right_bind right_function (λ merge. right_bind right_merge_functions (λ funs. right_done _)
    (λ a used rest t is end. rw is.none end.1))
    (λ a used rest t is end. begins_optional EndsType used rest t (λ used rest value is. begins_between EndsType ParenL (list Comma function) ParenR (λ word rest kind. rw kind refl) used rest value is) (λ a used is. rw is.none end.0) is))
    (λ a used rest t is end. tt))
    (λ a used rest t is end. begins EndsExpr (λ word at rest is. (rw is.kind refl, rw is.kind refl)) used rest t is))
    (λ a used rest t is end. tt))
    (λ a used rest t is end. begins EndsType (λ word at rest is. rw is.kind refl) used rest t is))
    (λ a used rest t is end. tt)) (λ a used rest t is end. tt)) (λ a used rest t is end. tt)

-- what comes after a declaration
abbrev EndsItem : List Word → Type 0
EndsItem rest = Avoids (is_mark Comma) rest × (Avoids (is_mark FatArrow) rest × EndsExpr rest)

-- what a declaration begins with
data_front : (Good : List Word → Type 0) → ((word : Word) (rest : List Word) → word.kind ≡ kinds.Key KData → Good (word ∷ rest)) → {T : Type 0} {B : SData → List Word → T → Type 0} (used rest : List Word) (t : T) → IsSequence data_declaration B used t → Good (used ++ rest)
unfolding data_declaration
data_front Good good used rest t is = begins_with Good (λ used rest value is. begins Good (λ word at rest is. good word rest is.kind) used rest value is) used rest t is

definition_front : (Good : List Word → Type 0) → ((word : Word) (rest : List Word) → word.kind ≡ kinds.Key KDef → Good (word ∷ rest)) → {T : Type 0} {B : SDef → List Word → T → Type 0} (used rest : List Word) (t : T) → IsSequence definition B used t → Good (used ++ rest)
unfolding definition
definition_front Good good used rest t is = begins_with Good (λ used rest value is. begins Good (λ word at rest is. good word rest is.kind) used rest value is) used rest t is

claim_front : (Good : List Word → Type 0) → ((word : Word) (rest : List Word) → word.kind ≡ kinds.Key KClaim → Good (word ∷ rest)) → {T : Type 0} {B : SClaim → List Word → T → Type 0} (used rest : List Word) (t : T) → IsSequence claim B used t → Good (used ++ rest)
unfolding claim
claim_front Good good used rest t is = begins_with Good (λ used rest value is. begins Good (λ word at rest is. good word rest is.kind) used rest value is) used rest t is

lemma_front : (Good : List Word → Type 0) → ((word : Word) (rest : List Word) → word.kind ≡ kinds.Key KLemma → Good (word ∷ rest)) → {T : Type 0} {B : SLemma → List Word → T → Type 0} (used rest : List Word) (t : T) → IsSequence lemma B used t → Good (used ++ rest)
unfolding lemma
lemma_front Good good used rest t is = begins_with Good (λ used rest value is. begins Good (λ word at rest is. good word rest is.kind) used rest value is) used rest t is

replica_front : (Good : List Word → Type 0) → ((word : Word) (rest : List Word) → word.kind ≡ kinds.Key KReplica → Good (word ∷ rest)) → {T : Type 0} {B : SReplica → List Word → T → Type 0} (used rest : List Word) (t : T) → IsSequence replica B used t → Good (used ++ rest)
unfolding replica
replica_front Good good used rest t is = begins_with Good (λ used rest value is. begins Good (λ word at rest is. good word rest is.kind) used rest value is) used rest t is

item_front : (Good : List Word → Type 0) → ((word : Word) (rest : List Word) → word.kind ≡ kinds.Key KData → Good (word ∷ rest)) → ((word : Word) (rest : List Word) → word.kind ≡ kinds.Key KDef → Good (word ∷ rest)) → ((word : Word) (rest : List Word) → word.kind ≡ kinds.Key KClaim → Good (word ∷ rest)) → ((word : Word) (rest : List Word) → word.kind ≡ kinds.Key KLemma → Good (word ∷ rest)) → ((word : Word) (rest : List Word) → word.kind ≡ kinds.Key KReplica → Good (word ∷ rest)) → (used rest : List Word) (value : Item) → item used value → Good (used ++ rest)
unfolding item
item_front Good a b c d e used rest value (one i) = data_front Good a used rest value i
item_front Good a b c d e used rest value (other (one i)) = definition_front Good b used rest value i
item_front Good a b c d e used rest value (other (other (one i))) = claim_front Good c used rest value i
item_front Good a b c d e used rest value (other (other (other (one i)))) = lemma_front Good d used rest value i
item_front Good a b c d e used rest value (other (other (other (other i)))) = replica_front Good e used rest value i

key_holds : (k : Key) (word : Word) (rest : List Word) → word.kind ≡ kinds.Key k → fronts (is_key k) (word ∷ rest) ≡ true
key_holds k word rest kind = rw kind (is_key-same k)

right_item : Right SameFirst SameFirst EndsItem item item_at
unfolding item item_at
right_item =
    right_choice (fronts (is_key KData)) (fronts_same (is_key KData)) (right_bind right_data (λ declaration. right_done _) (λ a used rest t is end. tt))
    (right_choice (fronts (is_key KDef)) (fronts_same (is_key KDef)) (right_bind right_definition (λ declaration. right_done _) (λ a used rest t is end. tt))
    (right_choice (fronts (is_key KClaim)) (fronts_same (is_key KClaim)) (right_bind right_claim (λ declaration. right_done _) (λ a used rest t is end. rw is.none (end.0, tt)))
    (right_choice (fronts (is_key KLemma)) (fronts_same (is_key KLemma)) (right_bind right_lemma (λ declaration. right_done _) (λ a used rest t is end. rw is.none end.1)) (right_bind right_replica (λ declaration. right_done _) (λ a used rest t is end. rw is.none end.1.1))
    (λ used rest value is end. lemma_front (λ s. fronts (is_key KLemma) s ≡ true) (key_holds KLemma) used rest value is)
    (λ used rest value is end. replica_front (Avoids (is_key KLemma)) (λ word rest kind. rw kind refl) used rest value is))
    (λ used rest value is end. claim_front (λ s. fronts (is_key KClaim) s ≡ true) (key_holds KClaim) used rest value is)
    (λ used rest value is end. elim is [
      | one i ↦ lemma_front (Avoids (is_key KClaim)) (λ word rest kind. rw kind refl) used rest value i
      | other i ↦ replica_front (Avoids (is_key KClaim)) (λ word rest kind. rw kind refl) used rest value i
    ]))
    (λ used rest value is end. definition_front (λ s. fronts (is_key KDef) s ≡ true) (key_holds KDef) used rest value is)
    (λ used rest value is end. elim is [
      | one i ↦ claim_front (Avoids (is_key KDef)) (λ word rest kind. rw kind refl) used rest value i
      | other others ↦ elim others [
        | one i ↦ lemma_front (Avoids (is_key KDef)) (λ word rest kind. rw kind refl) used rest value i
        | other i ↦ replica_front (Avoids (is_key KDef)) (λ word rest kind. rw kind refl) used rest value i
      ]
    ]))
    (λ used rest value is end. data_front (λ s. fronts (is_key KData) s ≡ true) (key_holds KData) used rest value is)
    (λ used rest value is end. elim is [
      | one i ↦ definition_front (Avoids (is_key KData)) (λ word rest kind. rw kind refl) used rest value i
      | other others ↦ elim others [
        | one i ↦ claim_front (Avoids (is_key KData)) (λ word rest kind. rw kind refl) used rest value i
        | other more ↦ elim more [
          | one i ↦ lemma_front (Avoids (is_key KData)) (λ word rest kind. rw kind refl) used rest value i
          | other i ↦ replica_front (Avoids (is_key KData)) (λ word rest kind. rw kind refl) used rest value i
        ]
      ]
    ])

pub item_stays : NoLonger item_at
item_stays = right_no_longer right_item

-- nothing comes after a program
abbrev pub EndsProgram : List Word → Type 0
EndsProgram rest = rest ≡ []

some_same : (x y : List Word) → SameFirst x y → some_word x ≡ some_word y
unfolding some_word
some_same [] [] same = refl
some_same [] (b ∷ y) same = absurd same
some_same (a ∷ x) [] same = absurd same
some_same (a ∷ x) (b ∷ y) same = refl

pub no_word : some_word [] ≡ false
unfolding some_word
no_word = refl

a_word : (word : Word) (rest : List Word) → some_word (word ∷ rest) ≡ true
unfolding some_word
a_word word rest = refl

pub item_starts : (used rest : List Word) (value : Item) → item used value → some_word (used ++ rest) ≡ true
item_starts used rest value is =
    item_front (λ s. some_word s ≡ true) (λ word rest kind. a_word word rest) (λ word rest kind. a_word word rest) (λ word rest kind. a_word word rest) (λ word rest kind. a_word word rest) (λ word rest kind. a_word word rest) used rest value is

item_ends : (used rest : List Word) (value : Item) → item used value → EndsItem (used ++ rest)
item_ends used rest value is =
    item_front EndsItem (λ word rest kind. (rw kind refl, (rw kind refl, (rw kind refl, rw kind refl)))) (λ word rest kind. (rw kind refl, (rw kind refl, (rw kind refl, rw kind refl)))) (λ word rest kind. (rw kind refl, (rw kind refl, (rw kind refl, rw kind refl)))) (λ word rest kind. (rw kind refl, (rw kind refl, (rw kind refl, rw kind refl)))) (λ word rest kind. (rw kind refl, (rw kind refl, (rw kind refl, rw kind refl)))) used rest value is

pub right_items : Right SameFirst SameFirst EndsProgram (Each item) items_at
unfolding items_at
right_items =
    right_each some_word right_item no_word some_same (λ x y same fails. same) item_starts item_ends (λ rest end. rw end no_word) (λ rest end. rw end (refl, (refl, (refl, refl))))

pub item_shrinks : Shrinks some_word item_at
item_shrinks s rest x holds e =
    let t = right_item.sound s rest x e in
    rw t.whole (simp length-append (let h : 0 < length t.used = used_some t.used (item_starts t.used [] x t.is) in omega arith))
  where
    used_some : (used : List Word) → some_word (used ++ []) ≡ true → 0 < length used
    used_some [] e = let h : some_word [] ≡ false = no_word in absurd (cc)
    used_some (w ∷ ws) e = omega arith

pub nothing_left : (words : List Word) → some_word words ≡ false → words ≡ []
nothing_left [] e = refl
nothing_left (word ∷ rest) e = let h : some_word (word ∷ rest) ≡ true = a_word word rest in absurd (cc)
