-- A type that is numbered names what may be named at its place.
use Rattle.std.proofs.Common.{◌≡◌, ℕ, zero, suc, ◌<◌, ◌≤◌, ◌^◌, Bool, true, false, not, ◌&&◌, cond, List, [], map, length, Option, Some, None, refl, sym, ap, ◌∙◌, subst, arith}
use Rattle.std.specs.Option.{option_map, option_and_then}
use Rattle.std.specs.List.{position}
use Rattle.std.specs.Str.{bytes_eq}
use Rattle.std.specs.Prelude.{codes, nat_lt, ◌==◌}
use Rattle.std.proofs.lemmas.Bool.{eq-eqb}
use Rattle.std.proofs.lemmas.List.Quantifiers.{position-Some}
use Rattle.px_base.specs.declared.raw.RawTyKind.{RawTyKind}
use Rattle.px_base.specs.declared.raw.RawTyKind.TheVariants as type_kinds
use Rattle.px_base.specs.declared.raw.RawTy.{RawTy, out-RawTy}
use Rattle.px_base.specs.declared.raw.RawTy.TheViews.{out-roll-RawTy}
use Rattle.px_base.specs.Fitting.{Range, IsShort, IsTyKindIn, AreParametersFrom, AreArgumentsIn, IsTypeIn, ranged, AreTypesIn, no_types, more_types}
use Rattle.px_parser.specs.declared.surface.Item.{Item}
use Rattle.px_parser.specs.declared.surface.SType.{SType, out-SType}
use Rattle.px_parser.specs.Sizes.{type_size, types_size, type_depth, types_depth}
use Rattle.px_parser.specs.SizeEquations.{type_size-out, type_depth-out, types_size-cons, length-le-types_size}
use Rattle.px_scope.specs.declared.globals.Globals.{Globals}
use Rattle.px_scope.specs.declared.locals.TypeLocals.{TypeLocals}
use Rattle.px_scope.specs.declared.ends.ScopeKind.TheVariants.{WrongPlace}
use Rattle.px_scope.specs.Names.{number, number_of}
use Rattle.px_scope.specs.Standing.{or_else, type_of}
use Rattle.px_scope.specs.Later.{declares_type}
use Rattle.px_scope.specs.Rules.{broken_where, lone_name, are_parameters, is_own, type_fault_at, type_fault}
use Rattle.px_scope.specs.Uses.{first_broken, type_uses, types_uses}
use Rattle.px_scope.specs.Numbers.{raw_type, IsType, written, AreTypes, none, more}
use Rattle.px_scope.proofs.TypeSteps.{type_uses_is}
use Rattle.px_scope.proofs.FineParts.{fine_parts, fine_front, fine_back, not_broken}
use Rattle.px_scope.proofs.OwnParameters.{IsOwn, parameters_from}

-- a number that is found is the one that was looked for
pub number_is : (k n : ℕ) → number k ≡ Some n → k ≡ n
number_is k n is = at_test (nat_lt k (2 ^ 32)) is
  where
    at_test : (b : Bool) → cond b (Some k) None ≡ Some n → k ≡ n
    at_test true is = cc
    at_test false is = absurd cc

-- the number of a name is that of one of the names
pub number_within : (names : List (List ℕ)) (name : List ℕ) (n : ℕ) → number_of names name ≡ Some n → n < length names
number_within names name n is = at_place (position (bytes_eq name) names) refl is
  where
    at_place : (place : Option ℕ) → position (bytes_eq name) names ≡ place → option_and_then number place ≡ Some n → n < length names
    at_place None at is = absurd cc
    at_place (Some k) at is = let same = number_is k n is in subst (λ m. m < length names) same (position-Some (bytes_eq name) names k name at).0

-- what a type names may be named, where both numbers may be
kind_at : (R : Range) (var : Option ℕ) (word : Bool) (con : Option ℕ) (kind : RawTyKind) → ((n : ℕ) → var ≡ Some n → n < R.tparams) →
    ((n : ℕ) → con ≡ Some n → n < R.datatypes) →
    or_else (option_map type_kinds.Var var) (cond word (Some type_kinds.Word) (option_map type_kinds.Con con)) ≡ Some kind → IsTyKindIn R kind
kind_at R (Some n) word con kind vars cons is = let same : type_kinds.Var n ≡ kind = cc in subst (IsTyKindIn R) same (vars n refl)
kind_at R None true con kind vars cons is = let same : type_kinds.Word ≡ kind = cc in subst (IsTyKindIn R) same tt
kind_at R None false (Some n) kind vars cons is = let same : type_kinds.Con n ≡ kind = cc in subst (IsTyKindIn R) same (cons n refl)
kind_at R None false None kind vars cons is = absurd cc

-- a type of one level more than its arguments
written_in : (R : Range) (room at : ℕ) (kind : RawTyKind) (args : List RawTy) (t : RawTy) → t ≡ raw_type at kind args → IsTyKindIn R kind →
    AreArgumentsIn R kind args → IsShort args → AreTypesIn R room args → IsTypeIn R (suc room) t
written_in R room at kind args t is named own few are =
    let layer = ap out-RawTy is ∙ out-roll-RawTy (record { at = at; kind = kind; args = args }) in
    ranged refl (rw layer named) (rw layer own) (rw layer few) (rw layer are)

-- as many types are numbered as are written
pub types_count : {G : Globals} {T : TypeLocals} {ss : List SType} {ts : List RawTy} → AreTypes G T ss ts → length ts ≡ length ss
types_count none = refl
types_count (more first rest) = let others = types_count rest in omega arith

-- so they are few, where they are of few parts
pub types_few : {G : Globals} {T : TypeLocals} {ss : List SType} {ts : List RawTy} → AreTypes G T ss ts → types_size ss < 2 ^ 32 → IsShort ts
types_few {ss = ss} are small = omega (arith, types_count are, length-le-types_size ss)

-- the datatype that is being declared stands only with its own type parameters
own_test : (own : Option ℕ) (n : ℕ) (are : Bool) → own ≡ Some n → broken_where (is_own own n && not are) WrongPlace ≡ None → are ≡ true
own_test None n are is fault = absurd cc
own_test (Some m) n are is fault =
    let same : m ≡ n = cc in
    by_test (m == n) are (eq-eqb m n same) (not_broken ((m == n) && not are) WrongPlace fault)
  where
    by_test : (test known : Bool) → test ≡ true → (test && not known) ≡ false → known ≡ true
    by_test true true is broken = refl
    by_test true false is broken = absurd cc
    by_test false known is broken = absurd cc

-- no datatype is being declared
pub no_own : (R : Range) → R.own ≡ None → (A : ℕ → Type 0) → (n : ℕ) → R.own ≡ Some n → A n
no_own R unowned A n is = absurd cc

module _ (text : List Item) (G : Globals) (T : TypeLocals) (R : Range) (datatypes : length G.datatypes ≤ R.datatypes) (tparams : length T.parameters ≤ R.tparams)
    (own : (n : ℕ) → R.own ≡ Some n → IsOwn T R n) where
  kind_in : (name : List ℕ) (kind : RawTyKind) → type_of G T name ≡ Some kind → IsTyKindIn R kind
  kind_in name kind is =
      kind_at R (number_of T.parameters name) (bytes_eq name (codes "Word")) (number_of G.datatypes name) kind
      (λ n at. omega (arith, number_within T.parameters name n at))
      (λ n at. omega (arith, number_within G.datatypes name n at))
      is

  -- the arguments of a type
  arguments_in : (name : List ℕ) (ss : List SType) (kind : RawTyKind) (args : List RawTy) → type_of G T name ≡ Some kind → AreTypes G T ss args →
      ((n : ℕ) → R.own ≡ Some n → type_fault text G T name (map lone_name ss) ≡ None) → AreArgumentsIn R kind args
  arguments_in name ss type_kinds.Word args stands are fine = tt
  arguments_in name ss (type_kinds.Var n) args stands are fine = tt
  arguments_in name ss (type_kinds.Con n) args stands are fine = λ is.
      let known = own n is in
      let fault = ap (λ k. type_fault_at (declares_type text name) k T (map lone_name ss)) (sym stands) ∙ fine n is in
      let test = own_test T.own n (are_parameters (map lone_name ss) T.parameters) known.own fault in
      subst (λ m. AreParametersFrom 0 m args) (sym known.tparams) (parameters_from G T known.distinct known.few [] T.parameters refl are test)

  -- a type's name, and those in its arguments
  type_parts : (s : SType) → first_broken (type_uses text G T s) ≡ None →
      (type_fault text G T (out-SType s).name.text (map lone_name (out-SType s).args) ≡ None) × (first_broken (types_uses text G T (out-SType s).args) ≡ None)
  type_parts s fine =
      fine_parts (out-SType s).name.at (type_fault text G T (out-SType s).name.text (map lone_name (out-SType s).args)) (first_broken (types_uses text G T (out-SType s).args))
      (ap first_broken (sym (type_uses_is text G T s)) ∙ fine)

  mutual
    -- a type of at most so many levels
    pub fitting_type : (most : ℕ) {s : SType} {t : RawTy} → IsType G T s t → ((n : ℕ) → R.own ≡ Some n → first_broken (type_uses text G T s) ≡ None) →
        type_depth s ≤ most → type_size s < 2 ^ 32 → IsTypeIn R most t
    fitting_type zero {s} (written stands are is) fine deep small = absurd (omega (arith, type_depth-out s))
    fitting_type (suc room) {s} {t} (written {kind = kind} {args = args} stands are is) fine deep small =
        let depth : types_depth (out-SType s).args ≤ room = omega (arith, type_depth-out s) in
        let size : types_size (out-SType s).args < 2 ^ 32 = omega (arith, type_size-out s) in
        written_in R room (out-SType s).name.at kind args t is (kind_in (out-SType s).name.text kind stands)
        (arguments_in (out-SType s).name.text (out-SType s).args kind args stands are (λ n own_is. (type_parts s (fine n own_is)).0))
        (types_few are size)
        (fitting_types room are (λ n own_is. (type_parts s (fine n own_is)).1) depth size)

    -- types of at most so many levels
    pub fitting_types : (most : ℕ) {ss : List SType} {ts : List RawTy} → AreTypes G T ss ts → ((n : ℕ) → R.own ≡ Some n → first_broken (types_uses text G T ss) ≡ None) →
        types_depth ss ≤ most → types_size ss < 2 ^ 32 → AreTypesIn R most ts
    fitting_types most none fine deep small = no_types
    fitting_types most (more {s = s} {ss = ss} first rest) fine deep small =
        let sizes = types_size-cons s ss in
        let here = type_uses text G T s in
        let others = types_uses text G T ss in
        more_types
        (fitting_type most first (λ n is. fine_front here others (fine n is)) (omega arith) (omega arith))
        (fitting_types most rest (λ n is. fine_back here others (fine n is)) (omega arith) (omega arith))
