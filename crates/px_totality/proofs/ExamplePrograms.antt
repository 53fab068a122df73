-- The small programs are typed, and their definitions descend.
use Rattle.std.proofs.Common.{◌≡◌, ℕ, zero, suc, ◌<◌, List, [], ◌∷◌, ◌++◌, length, Some, slice_get, true≢false, refl, sym, ap, ◌∙◌}
use Rattle.std.proofs.Common.{subst, arith}
use Rattle.std.specs.List.{All}
use Rattle.std.proofs.lemmas.List.Elements.{All-nil, All-cons}
use Rattle.px_terms.specs.Head.TheVariants.{FnVar}
use Rattle.px_terms.specs.Prop.{Prop}
use Rattle.px_terms.specs.Prop.TheVariants.{Comm, Assoc, Idem, Sel, Refl, Irrefl, Sym, Antisym, Asym, Trans, Conn}
use Rattle.px_terms.specs.PropSets.{HasProp, set_of}
use Rattle.px_terms.specs.declared.types.Ty.{Ty}
use Rattle.px_terms.specs.declared.types.Ty.TheOpen.{Ty-F}
use Rattle.px_terms.specs.declared.types.Ty.TheVariants as type
use Rattle.px_terms.specs.declared.types.FnType.{FnType}
use Rattle.px_terms.specs.declared.term.Term.{Term}
use Rattle.px_terms.specs.declared.term.Term.TheOpen.{Term-F}
use Rattle.px_terms.specs.declared.term.Term.TheVariants as term
use Rattle.px_terms.specs.declared.program.ConDef.{ConDef}
use Rattle.px_terms.specs.declared.program.DataDef.{DataDef}
use Rattle.px_terms.specs.declared.program.Def as definition
use Rattle.px_terms.specs.declared.program.Program.{Program}
use Rattle.px_terms.specs.TreeEquations.{ty_size-Con, ty_depth-Con}
use Rattle.px_terms.specs.Programs.{bool_type, bool_data, false_term}
use Rattle.px_terms.specs.Typing.{Place, in_body, IsTypeLayer, IsType, IsSmallMet, IsMet, HasTypeLayer, HasType, HaveTypes, AreTypes}
use Rattle.px_terms.specs.Typing as typing
use Rattle.px_terms.specs.TypedPrograms.{IsWritten, AreWritten, IsWrittenFnType, Fits, IsTypedCon, IsTypedData, HasSignature, IsTypedDef}
use Rattle.px_terms.specs.TypedPrograms.{IsTypedReplica, own_context}
use Rattle.px_terms.specs.Descent.{Standing, walk, Descends, Falls}
use Rattle.px_terms.specs.Extending.{IsWellFounded, IsExtension}
use Rattle.px_totality.specs.Examples.{first_function, two_truths, same_body, same_function, never_function, same_program, longer_program}
use Rattle.px_totality.specs.Examples.{empty_type, empty_data, empty_program}
use Rattle.px_totality.proofs.Instances.{nothing_is_some, one_item}
use Rattle.px_totality.proofs.Valued.{seen_of, seen_is}

abbrev bare : ConDef
bare = record { fields = [] }

type_is_small : (d : ℕ) → IsSmallMet (type.Con d [])
type_is_small d = record { nodes = (let e = ty_size-Con d [] in omega (arith, e)); depth = (let e = ty_depth-Con d [] in omega (arith, e)) }

-- a datatype without type parameters is a type
type_is : (P : Program) (d : ℕ) (D : DataDef) → slice_get P.datatypes d ≡ Some D → D.tparams ≡ 0 → IsType P 0 (type.Con d [])
type_is P d D found none = subst (λ (y : Ty-F Ty). IsTypeLayer P 0 y) (sym (type.outs-Con d [])) (typing.con {D = D} found (sym none) typing.none)

written : (P : Program) (d : ℕ) (D : DataDef) → slice_get P.datatypes d ≡ Some D → D.tparams ≡ 0 → IsWritten P 0 (type.Con d [])
written P d D found none = record { is_type = type_is P d D found none; small = type_is_small d }

one_written : (P : Program) (T : Ty) → IsWritten P 0 T → AreWritten P 0 (T ∷ [])
one_written P T is = All-cons (IsWritten P 0) T [] is (All-nil (IsWritten P 0))

two_written : (P : Program) (T : Ty) → IsWritten P 0 T → AreWritten P 0 (T ∷ T ∷ [])
two_written P T is = All-cons (IsWritten P 0) T (T ∷ []) is (one_written P T is)

-- nothing is assumed of a function type without properties
pub nothing_assumed : (p : Prop) → HasProp (set_of []) p → ⊥
nothing_assumed Comm has = true≢false (sym has)
nothing_assumed Assoc has = true≢false (sym has)
nothing_assumed Idem has = true≢false (sym has)
nothing_assumed Sel has = true≢false (sym has)
nothing_assumed Refl has = true≢false (sym has)
nothing_assumed Irrefl has = true≢false (sym has)
nothing_assumed Sym has = true≢false (sym has)
nothing_assumed Antisym has = true≢false (sym has)
nothing_assumed Asym has = true≢false (sym has)
nothing_assumed Trans has = true≢false (sym has)
nothing_assumed Conn has = true≢false (sym has)

-- `Bool` is typed
bool_typed : (P : Program) → IsTypedData P bool_data
bool_typed P =
    let bare_typed : IsTypedCon P 0 bare = All-nil (IsWritten P 0) in
    record {
      some = omega arith;
      cons = All-cons (IsTypedCon P 0) bare (bare ∷ []) bare_typed (All-cons (IsTypedCon P 0) bare [] bare_typed (All-nil (IsTypedCon P 0)));
    }

-- a variable's self-calls are none
no_calls : (P : Program) (n i : ℕ) (bound : List Standing) → (walk P n (term.Free i) bound).calls ≡ []
no_calls P n i bound = ap (λ seen. (seen bound).calls) (seen_is P n (term.Free i)) ∙ ap (λ (y : Term-F Term). (seen_of P n y bound).calls) (term.outs-Free i)

same_calls : (P : Program) (n : ℕ) (bound : List Standing) → (walk P n same_body bound).calls ≡ []
same_calls P n bound =
    ap (λ seen. (seen bound).calls) (seen_is P n same_body)
    ∙ ap (λ (y : Term-F Term). (seen_of P n y bound).calls) (term.outs-Call first_function [] (term.Free 0 ∷ term.Free 0 ∷ []))
    ∙ ap (λ (calls : List (List Standing)). calls ++ (calls ++ [])) (no_calls P n 0 bound)

never_calls : (P : Program) (n : ℕ) (bound : List Standing) → (walk P n false_term bound).calls ≡ []
never_calls P n bound =
    ap (λ seen. (seen bound).calls) (seen_is P n false_term) ∙ ap (λ (y : Term-F Term). (seen_of P n y bound).calls) (term.outs-Con 0 0 [] [])

-- a definition without self-calls descends
without_calls : (P : Program) (n : ℕ) (D : definition.Def) → (walk P n D.body []).calls ≡ [] → Descends P n D
without_calls P n D none = record {
  positions = [];
  within = All-nil (λ (p : ℕ). p < length D.params);
  falls = subst (All (Falls [])) (sym none) (All-nil (Falls []));
}

-- so are that of `same` and `never`
pub longer_founded : IsWellFounded longer_program
longer_founded = record {
  typed = record {
    bool = refl;
    datatypes = All-cons (IsTypedData longer_program) bool_data [] (bool_typed longer_program) (All-nil (IsTypedData longer_program));
    defs = λ n D found. typed_def n D found;
    properties = λ number n p at. absurd (nothing_is_some _ at);
    lemmas = λ number n at. absurd (nothing_is_some _ at);
    replicas = All-nil (IsTypedReplica longer_program);
  };
  descends = record { each = λ n D found. descends n D found };
}
  where
    bool_written : IsWritten longer_program 0 bool_type
    bool_written = written longer_program 0 bool_data refl refl

    same_signature : HasSignature longer_program (same_function [])
    same_signature = record {
      funs = record {
        types =
            All-cons (IsWrittenFnType longer_program 0) (two_truths []) []
            (record { params = two_written longer_program bool_type bool_written; result = bool_written }) (All-nil (IsWrittenFnType longer_program 0));
        assumed = λ i F p at has. assumed i F p at has;
      };
      params = one_written longer_program bool_type bool_written;
      result = bool_written;
    }
      where
        assumed : (i : ℕ) (F : FnType) (p : Prop) → slice_get (two_truths [] ∷ []) i ≡ Some F → HasProp F.props p →
            Fits longer_program (two_truths [] ∷ []) (FnVar i) p
        assumed zero F p at has = absurd (nothing_assumed p (subst (λ (F : FnType). HasProp F.props p) (sym (one_item (two_truths []) F at)) has))
        assumed (suc i) F p at has = absurd (nothing_is_some F at)

    never_signature : HasSignature longer_program never_function
    never_signature = record {
      funs = record { types = All-nil (IsWrittenFnType longer_program 0); assumed = λ i F p at has. absurd (nothing_is_some F at) };
      params = two_written longer_program bool_type bool_written;
      result = bool_written;
    }

    variable_typed : HasType longer_program (in_body 0) (own_context (same_function [])) (term.Free 0) bool_type
    variable_typed =
        subst (λ (y : Term-F Term). HasTypeLayer longer_program (in_body 0) (own_context (same_function [])) [] y bool_type) (sym (term.outs-Free 0))
        (typing.free refl (type_is_small 0))

    same_typed : HasType longer_program (in_body 0) (own_context (same_function [])) same_body bool_type
    same_typed =
        subst (λ (y : Term-F Term). HasTypeLayer longer_program (in_body 0) (own_context (same_function [])) [] y bool_type)
        (sym (term.outs-Call first_function [] (term.Free 0 ∷ term.Free 0 ∷ [])))
        (typing.call (typing.of_variable {F = two_truths []} refl refl refl) tt (All-nil (IsMet (in_body 0))) (type_is_small 0) typing.none
        (typing.more variable_typed (typing.more variable_typed typing.none)))

    never_typed : HasType longer_program (in_body 1) (own_context never_function) false_term bool_type
    never_typed =
        subst (λ (y : Term-F Term). HasTypeLayer longer_program (in_body 1) (own_context never_function) [] y bool_type) (sym (term.outs-Con 0 0 [] []))
        (typing.con {c = bare} refl (type_is longer_program 0 bool_data refl refl) refl (type_is_small 0) typing.none)

    typed_def : (n : ℕ) (D : definition.Def) → slice_get longer_program.defs n ≡ Some D → IsTypedDef longer_program n D
    typed_def zero D found =
        subst (IsTypedDef longer_program 0) (one_item (same_function []) D found) (record { signature = same_signature; body = same_typed })
    typed_def (suc zero) D found =
        subst (IsTypedDef longer_program 1) (one_item never_function D found) (record { signature = never_signature; body = never_typed })
    typed_def (suc (suc n)) D found = absurd (nothing_is_some D found)

    descends : (n : ℕ) (D : definition.Def) → slice_get longer_program.defs n ≡ Some D → Descends longer_program n D
    descends zero D found =
        subst (Descends longer_program 0) (one_item (same_function []) D found)
        (without_calls longer_program 0 (same_function []) (same_calls longer_program 0 []))
    descends (suc zero) D found =
        subst (Descends longer_program 1) (one_item never_function D found) (without_calls longer_program 1 never_function (never_calls longer_program 1 []))
    descends (suc (suc n)) D found = absurd (nothing_is_some D found)

-- the program with `never` is an extension of that without
pub longer_extends : IsExtension longer_program (same_program [])
longer_extends = record {
  datatypes = record { more = []; is = refl };
  defs = record { more = never_function ∷ []; is = refl };
  lemmas = record { more = []; is = refl };
  declared = record { more = []; is = refl };
  replicas = record { more = []; is = refl };
  founded = longer_founded;
}

pub empty_founded : IsWellFounded empty_program
empty_founded = record {
  typed = record {
    bool = refl;
    datatypes =
        All-cons (IsTypedData empty_program) bool_data (empty_data ∷ []) (bool_typed empty_program)
        (All-cons (IsTypedData empty_program) empty_data [] empty_typed (All-nil (IsTypedData empty_program)));
    defs = λ n D found. absurd (nothing_is_some D found);
    properties = λ number n p at. absurd (nothing_is_some _ at);
    lemmas = λ number n at. absurd (nothing_is_some _ at);
    replicas = All-nil (IsTypedReplica empty_program);
  };
  descends = record { each = λ n D found. absurd (nothing_is_some D found) };
}
  where
    empty_typed : IsTypedData empty_program empty_data
    empty_typed = record {
      some = omega arith;
      cons =
          All-cons (IsTypedCon empty_program 0) (record { fields = empty_type ∷ [] }) []
          (one_written empty_program empty_type (written empty_program 1 empty_data refl refl)) (All-nil (IsTypedCon empty_program 0));
    }

-- the program without further declarations is an extension of itself
pub empty_extends : IsExtension empty_program empty_program
empty_extends = record {
  datatypes = record { more = []; is = refl };
  defs = record { more = []; is = refl };
  lemmas = record { more = []; is = refl };
  declared = record { more = []; is = refl };
  replicas = record { more = []; is = refl };
  founded = empty_founded;
}
