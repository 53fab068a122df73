-- A text is at most one numbered program.
use Rattle.std.proofs.Common.{◌≡◌, List, [], ◌∷◌, ◌++◌, refl, sym, subst}
use Rattle.px_base.specs.declared.raw.RawTy.{RawTy}
use Rattle.px_base.specs.declared.raw.RawCon.{RawCon}
use Rattle.px_base.specs.declared.raw.RawData.{RawData}
use Rattle.px_base.specs.declared.raw.RawFnType.{RawFnType}
use Rattle.px_base.specs.declared.raw.RawDef.{RawDef}
use Rattle.px_base.specs.declared.raw.RawClaim.{RawClaim}
use Rattle.px_base.specs.declared.raw.RawEquation.{RawEquation}
use Rattle.px_base.specs.declared.raw.RawLemma.{RawLemma}
use Rattle.px_base.specs.declared.raw.RawReplica.{RawReplica}
use Rattle.px_base.specs.declared.raw.RawProgram.{RawProgram}
use Rattle.px_parser.specs.declared.surface.SType.{SType}
use Rattle.px_parser.specs.declared.surface.SCon.{SCon}
use Rattle.px_parser.specs.declared.surface.SData.{SData}
use Rattle.px_parser.specs.declared.surface.SFnType.{SFnType}
use Rattle.px_parser.specs.declared.surface.SParam.{SParam}
use Rattle.px_parser.specs.declared.surface.SParamKind.{SParamKind}
use Rattle.px_parser.specs.declared.surface.SParamKind.TheVariants as param_kinds
use Rattle.px_parser.specs.declared.surface.SDef.{SDef}
use Rattle.px_parser.specs.declared.surface.SClaim.{SClaim}
use Rattle.px_parser.specs.declared.surface.SEquation.{SEquation}
use Rattle.px_parser.specs.declared.surface.SLemma.{SLemma}
use Rattle.px_parser.specs.declared.surface.SReplica.{SReplica}
use Rattle.px_parser.specs.declared.surface.Item.{Item}
use Rattle.px_scope.specs.declared.globals.Globals.{Globals}
use Rattle.px_scope.specs.declared.locals.TypeLocals.{TypeLocals}
use Rattle.px_scope.specs.declared.locals.Locals.{Locals}
use Rattle.px_scope.specs.Numbers.{IsType}
use Rattle.px_scope.specs.Declaring.{after}
use Rattle.px_scope.specs.Programs.{AreConstructors, IsData, IsFnType, AreParameters, IsDefinition, IsClaim, IsEquation, AreEquations, IsLemma, IsReplica, IsNext, AreNext, none, more, value, function, datatype, definition, claim, lemma, replica}
use Rattle.px_scope.specs.Laws.{OneNumbering}
use Rattle.px_scope.proofs.OneType.{one_cons, one_type, one_types, one_function, one_functions}
use Rattle.px_scope.proofs.OneTerm.{one_term}

-- constructors are at most one list
pub one_constructors : (G : Globals) (T : TypeLocals) {cons : List SCon} {cs ds : List RawCon} →
    AreConstructors G T cons cs → AreConstructors G T cons ds → cs ≡ ds
one_constructors G T none none = refl
one_constructors G T (more are is rest) (more are2 is2 rest2) =
    let fields = one_types G T are are2 in
    let others = one_constructors G T rest rest2 in
    cc

-- a datatype is at most one
pub one_data : (G : Globals) (d : SData) (x y : RawData) → IsData G d x → IsData G d y → x ≡ y
one_data G d x y p q =
    let same = one_constructors _ _ p.are_constructors q.are_constructors in
    cc

-- a function type is at most one
pub one_fn_type : (G : Globals) (T : TypeLocals) (f : SFnType) (x y : RawFnType) → IsFnType G T f x → IsFnType G T f y → x ≡ y
one_fn_type G T f x y p q =
    let params = one_types G T p.are_params q.are_params in
    let type = one_type G T p.is_result q.is_result in
    cc

-- a parameter is a value of at most one type
same_value : (G : Globals) (T : TypeLocals) (kind : SParamKind) (s other : SType) (t u : RawTy) →
    kind ≡ param_kinds.Value s → kind ≡ param_kinds.Value other → IsType G T s t → IsType G T other u → t ≡ u
same_value G T kind s other t u p q is is2 =
    let same : other ≡ s = cc in
    one_type G T is (subst (λ (x : SType). IsType G T x u) same is2)

-- a parameter is at most one function
same_function : (G : Globals) (T : TypeLocals) (kind : SParamKind) (f other : SFnType) (x y : RawFnType) →
    kind ≡ param_kinds.Function f → kind ≡ param_kinds.Function other → IsFnType G T f x → IsFnType G T other y → x ≡ y
same_function G T kind f other x y p q is is2 =
    let same : other ≡ f = cc in
    one_fn_type G T f x y is (subst (λ (g : SFnType). IsFnType G T g y) same is2)

-- parameters are at most one list of functions and one list of values
pub one_parameters : (G : Globals) (T : TypeLocals) {ps : List SParam} {fs gs : List RawFnType} {ts us : List RawTy} →
    AreParameters G T ps fs ts → AreParameters G T ps gs us → (fs ≡ gs) × (ts ≡ us)
one_parameters G T none none = (refl, refl)
one_parameters G T (value {s = s} {t = t} kind is rest) (value {s = other} {t = u} kind2 is2 rest2) =
    let others = one_parameters G T rest rest2 in
    (others.0, one_cons t u _ _ (same_value G T _ s other t u kind kind2 is is2) others.1)
one_parameters G T (value kind is rest) (function kind2 is2 rest2) = absurd cc
one_parameters G T (function kind is rest) (value kind2 is2 rest2) = absurd cc
one_parameters G T (function {f = f} {g = g} kind is rest) (function {f = other} {g = h} kind2 is2 rest2) =
    let others = one_parameters G T rest rest2 in
    (one_cons g h _ _ (same_function G T _ f other g h kind kind2 is is2) others.0, others.1)

-- a definition is at most one
pub one_definition : (G : Globals) (d : SDef) (x y : RawDef) → IsDefinition G d x → IsDefinition G d y → x ≡ y
one_definition G d x y p q =
    let parameters = one_parameters G _ p.are_parameters q.are_parameters in
    let type = one_type G _ p.is_result q.is_result in
    let body = one_term _ _ d.body _ _ p.is_body q.is_body in
    cc

-- a claim is at most one
pub one_claim : (G : Globals) (c : SClaim) (x y : RawClaim) → IsClaim G c x → IsClaim G c y → x ≡ y
one_claim G c x y p q = cc

-- an equation is at most one
pub one_equation : (G : Globals) (L : Locals) (e : SEquation) (x y : RawEquation) →
    IsEquation G L e x → IsEquation G L e y → x ≡ y
one_equation G L e x y p q =
    let left = one_term G L e.left _ _ p.is_left q.is_left in
    let right = one_term G L e.right _ _ p.is_right q.is_right in
    cc

-- equations are at most one list
pub one_equations : (G : Globals) (L : Locals) {es : List SEquation} {rs ss : List RawEquation} →
    AreEquations G L es rs → AreEquations G L es ss → rs ≡ ss
one_equations G L none none = refl
one_equations G L (more is rest) (more is2 rest2) = one_cons _ _ _ _ (one_equation G L _ _ _ is is2) (one_equations G L rest rest2)

-- a list that ends in one item determines it and the items before it
same_ends : {A : Type 0} (xs ys : List A) (x y : A) → xs ++ x ∷ [] ≡ ys ++ y ∷ [] → (xs ≡ ys) × (x ≡ y)
same_ends [] [] x y p = (refl, cc)
same_ends [] (a ∷ []) x y p = absurd cc
same_ends [] (a ∷ b ∷ ys) x y p = absurd cc
same_ends (a ∷ []) [] x y p = absurd cc
same_ends (a ∷ b ∷ xs) [] x y p = absurd cc
same_ends (a ∷ xs) (b ∷ ys) x y p =
    let first : a ≡ b = cc in
    let rest : xs ++ x ∷ [] ≡ ys ++ y ∷ [] = cc in
    let same = same_ends xs ys x y rest in
    (one_cons a b xs ys first same.0, same.1)

-- a lemma is at most one
pub one_lemma : (G : Globals) (l : SLemma) (x y : RawLemma) → IsLemma G l x → IsLemma G l y → x ≡ y
one_lemma G l x y p q =
    let parameters = one_parameters G _ p.are_parameters q.are_parameters in
    let equations = same_ends p.premises q.premises p.conclusion q.conclusion (one_equations _ _ p.are_equations q.are_equations) in
    cc

-- a replica is at most one
pub one_replica : (G : Globals) (r : SReplica) (x y : RawReplica) → IsReplica G r x → IsReplica G r y → x ≡ y
one_replica G r x y p q =
    let state = one_type G _ p.is_state q.is_state in
    let from = one_term _ _ r.from _ _ p.is_from q.is_from in
    let merge = one_function _ _ r.merge _ _ p.is_merge q.is_merge in
    let funs = one_functions _ _ p.are_functions q.are_functions in
    cc

-- a declaration is at most one more
pub one_next : (G : Globals) (P : RawProgram) {item : Item} {Q R : RawProgram} → IsNext G P item Q → IsNext G P item R → Q ≡ R
one_next G P (datatype is result) (datatype is2 result2) = let same = one_data G _ _ _ is is2 in cc
one_next G P (definition is result) (definition is2 result2) = let same = one_definition G _ _ _ is is2 in cc
one_next G P (claim is result) (claim is2 result2) = let same = one_claim G _ _ _ is is2 in cc
one_next G P (lemma is result) (lemma is2 result2) = let same = one_lemma G _ _ _ is is2 in cc
one_next G P (replica is result) (replica is2 result2) = let same = one_replica G _ _ _ is is2 in cc

-- declarations are at most one program more
pub all_next : {G : Globals} {P : RawProgram} {text : List Item} {Q R : RawProgram} →
    AreNext G P text Q → AreNext G P text R → Q ≡ R
all_next none none = refl
all_next {G} {P} (more {item = item} {text = text} first rest) (more {R = R} first2 rest2) =
    all_next rest (subst (λ (Q : RawProgram). AreNext (after G item) Q text R) (sym (one_next G P first first2)) rest2)

-- a surface is at most one numbered program
pub one_numbering : OneNumbering
one_numbering surface P Q p q = all_next p.numbered q.numbered
