-- The constructors of a datatype, one after the other, and what they leave as it is.
use Rattle.std.proofs.Common.{◌≡◌, ℕ, ◌+◌, ◌<◌, ◌≤◌, Bool, true, false, not, ◌||◌, List, [], ◌∷◌, ◌++◌, map, length, take, get_or, None, Some, Result, refl, sym, ap, ◌∙◌, subst, arith, length-append, append-nil, append_assoc}
use Rattle.std.specs.Prelude.{if◌then◌else◌}
use Rattle.std.specs.List.{fold, range_with_len}
use Rattle.std.specs.Result.{IsErrAnd}
use Rattle.std.proofs.lemmas.List.{take_more, take_all, length-take-le, map_push}
use Rattle.std.proofs.lemmas.List.FromFn.{map-range_with_len_more}
use Rattle.px_base.specs.declared.raw.RawTy.{RawTy}
use Rattle.px_base.specs.declared.raw.RawCon.{RawCon}
use Rattle.px_base.specs.declared.raw.RawData.{RawData}
use Rattle.px_parser.specs.declared.surface.Item.{Item}
use Rattle.px_parser.specs.declared.surface.Name.{Name}
use Rattle.px_parser.specs.declared.surface.SType.{SType, out-SType}
use Rattle.px_parser.specs.declared.surface.SCon.{SCon}
use Rattle.px_parser.specs.declared.surface.SData.{SData}
use Rattle.px_parser.specs.declared.surface.Item.TheVariants as items
use Rattle.px_scope.specs.declared.ends.ScopeKind.TheVariants.{Repeated}
use Rattle.px_scope.specs.declared.ends.ScopeEnd.{ScopeEnd}
use Rattle.px_scope.specs.declared.ends.ScopeEnd.TheVariants.{Fault}
use Rattle.px_scope.specs.declared.globals.Constructor.{Constructor}
use Rattle.px_scope.specs.declared.globals.Globals.{Globals}
use Rattle.px_scope.specs.declared.locals.TypeLocals.{TypeLocals}
use Rattle.px_scope.specs.Names.{is_name}
use Rattle.px_scope.specs.Standing.{type_of, no_parameters}
use Rattle.px_scope.specs.Rules.{is_type_name, new_type_fault, new_constructor_fault}
use Rattle.px_scope.specs.Uses.{Use, first_broken, type_uses, types_uses}
use Rattle.px_scope.specs.Numbers.{IsType, written, AreTypes, none, more}
use Rattle.px_scope.specs.Declaring.{constructor_names, with_datatype, with_constructor_name, with_constructors, after, with_type_parameter, type_locals, data_locals}
use Rattle.px_scope.specs.ItemUses.{type_parameters_uses, constructor_uses, constructors_uses, data_uses}
use Rattle.px_scope.specs.Programs.{IsData, AreConstructors, none as no_constructors, more as more_constructors}
use Rattle.px_scope.specs.Answers.{Fails, Fine, Resolves}
use Rattle.px_scope.proofs.Firsts.{fine_first, fine_both, fails_later, fails_front, fails_back, passed_on}
use Rattle.px_scope.proofs.ParameterSteps.{type_locals_are}
use Rattle.px_scope.proofs.StateSteps.{Reached, reached_next, reached_broken, reached_fails, reached_all}

module _ (G H : Globals) (T : TypeLocals) (same : H.datatypes ≡ G.datatypes) where
  -- a type's name stands for the same where the same datatypes are declared
  pub type_of_kept : (name : List ℕ) → type_of H T name ≡ type_of G T name
  type_of_kept name = ap (λ (ds : List (List ℕ)). type_of (record G { datatypes = ds }) T name) same

  -- the names in types are the same
  pub types_uses_kept : (text : List Item) (ss : List SType) → types_uses text H T ss ≡ types_uses text G T ss
  unfolding type_uses
  types_uses_kept text ss = ap (λ (ds : List (List ℕ)). types_uses text (record G { datatypes = ds }) T ss) same

  mutual
    type_kept : (s : SType) (t : RawTy) → IsType H T s t → IsType G T s t
    type_kept _ _ (written {s = s} {args = args} stands are is) = written (sym (type_of_kept (out-SType s).name.text) ∙ stands) (types_kept (out-SType s).args args are) is

    -- types are the same ones
    pub types_kept : (ss : List SType) (ts : List RawTy) → AreTypes H T ss ts → AreTypes G T ss ts
    types_kept _ _ none = none
    types_kept _ _ (more {s = s} {ss = ss} {t = t} {ts = ts} first others) = more (type_kept s t first) (types_kept ss ts others)

-- one constructor more, of this datatype and with this number in it
abbrev pub with_constructor : ℕ → ℕ → Globals → SCon → Globals
with_constructor datatype number G con = record G { cons = G.cons ++ con.name.text ∷ []; constructors = G.constructors ++ record { datatype = datatype; number = number } ∷ [] }

-- one constructor more, where these are declared
with_last : (datatype : ℕ) (G : Globals) (cons : List SCon) (con : SCon) (number : ℕ) → number ≡ length cons → with_constructor datatype number (with_constructors datatype G cons) con ≡ with_constructors datatype G (cons ++ con ∷ [])
with_last datatype G cons con number last =
    let one : ℕ → Constructor = λ n. record { datatype = datatype; number = n } in
    let names : constructor_names (cons ++ con ∷ []) ≡ constructor_names cons ++ con.name.text ∷ [] = map_push (λ (c : SCon). c.name.text) cons con in
    let count : length (cons ++ con ∷ []) ≡ length cons + 1 = length-append cons (con ∷ []) in
    let numbers : map one (range_with_len 0 (length (cons ++ con ∷ []))) ≡ map one (range_with_len 0 (length cons)) ++ one number ∷ [] = ap (λ n. map one (range_with_len 0 n)) count ∙ map-range_with_len_more one 0 (length cons) number (omega arith) in
    rw (names, numbers, append_assoc G.cons, append_assoc) refl

-- the names in one constructor more
abbrev pub constructor_use : List Item → TypeLocals → Globals → SCon → List Use
constructor_use text T G con = constructor_uses text G T con

-- The first constructors, so many, break no rule, and are these.
pub record AreConstructorsSoFar (text : List Item) (datatype : ℕ) (G : Globals) (T : TypeLocals) (cons : List SCon) (i : ℕ) (now : Globals) (raws : List RawCon) : Type 0 where
  pub reached : Reached with_constructor_name (constructor_use text T) G (take i cons) (record G { cons = now.cons })
  pub are : AreConstructors G T (take i cons) raws
  pub is : now ≡ with_constructors datatype G (take i cons)

-- one constructor more
pub constructors_push : (G : Globals) (T : TypeLocals) (cons : List SCon) (raws : List RawCon) (con : SCon) (fields : List RawTy) (raw : RawCon) → AreConstructors G T cons raws → AreTypes G T con.fields fields → raw ≡ record { at = con.name.at; fields = fields } → AreConstructors G T (cons ++ con ∷ []) (raws ++ raw ∷ [])
constructors_push G T _ _ con fields raw no_constructors are is = more_constructors are is no_constructors
constructors_push G T _ _ con fields raw (more_constructors {cons = cons} {cs = cs} first first_is others) are is = more_constructors first first_is (constructors_push G T cons cs con fields raw others are is)

module _ (text : List Item) (datatype : ℕ) (G : Globals) (T : TypeLocals) (cons : List SCon) (i : ℕ) (now : Globals) (raws : List RawCon) (con : SCon) (name : List ℕ) (within : i < length cons) (at : con ≡ get_or cons i con) (so_far : AreConstructorsSoFar text datatype G T cons i now raws) (same : name ≡ con.name.text) (is_new : Bool) (known : is_name now.cons name ≡ not is_new) where
  one_more : take (i + 1) cons ≡ take i cons ++ con ∷ []
  one_more = take_more cons i con within ∙ ap (λ other. take i cons ++ other ∷ []) (sym at)

  -- the constructor's name is declared already
  pub constructor_repeats : (end : ScopeEnd) → is_new ≡ false → end ≡ Fault Repeated con.name.at → Fails (first_broken (constructors_uses text G T cons)) end
  constructor_repeats end old fault =
      let found : is_name now.cons con.name.text ≡ true = rw (← same) (known ∙ ap not old) in
      reached_broken with_constructor_name (constructor_use text T) G cons i (record G { cons = now.cons }) con end within at so_far.reached (rw (fault, found) refl)

  module _ (new : is_new ≡ true) where
    no_fault : new_constructor_fault now con.name.text ≡ None
    no_fault =
        let absent : is_name now.cons con.name.text ≡ false = rw (← same) (known ∙ ap not new) in
        rw absent refl

    -- what is declared with one constructor more
    pub constructor_added : (added : List (List ℕ)) (pushed : List Constructor) → added ≡ (if is_new then now.cons ++ name ∷ [] else now.cons) → pushed ≡ now.constructors ++ record { datatype = datatype; number = i } ∷ [] → record now { cons = added; constructors = pushed } ≡ with_constructor datatype i now con
    constructor_added added pushed add push =
        let named : added ≡ now.cons ++ con.name.text ∷ [] = rw (add, new, same) refl in
        rw (named, push) refl

    module _ (later : Globals) (kept : later.datatypes ≡ now.datatypes) (ss : List SType) (fields_are : ss ≡ con.fields) where
      same_datatypes : later.datatypes ≡ G.datatypes
      same_datatypes = kept ∙ ap (λ (H : Globals). H.datatypes) so_far.is

      fields_uses : types_uses text later T ss ≡ types_uses text (record G { cons = now.cons }) T con.fields
      fields_uses = types_uses_kept (record G { cons = now.cons }) later T same_datatypes text ss ∙ ap (types_uses text (record G { cons = now.cons }) T) fields_are

      -- the types of its fields fail
      pub constructor_fields_fail : {Z : Type 0} (Is : Z → Type 0) (r : Result Z ScopeEnd) (end : ScopeEnd) → IsErrAnd r (λ e. e ≡ end) → Fails (first_broken (types_uses text later T ss)) end → Resolves (constructors_uses text G T cons) Is r
      constructor_fields_fail Is r end is fails =
          reached_fails with_constructor_name (constructor_use text T) G cons i (record G { cons = now.cons }) Is con r end within at so_far.reached is (fails_later con.name.at (new_constructor_fault now con.name.text) (types_uses text (record G { cons = now.cons }) T con.fields) end no_fault (subst (λ us. Fails (first_broken us) end) fields_uses fails))

      -- one constructor more
      pub constructor_next : (fields : List RawTy) (raw : RawCon) (out : List RawCon) → Fine (types_uses text later T ss) (AreTypes later T ss) fields → raw ≡ record { at = con.name.at; fields = fields } → out ≡ raws ++ raw ∷ [] → later ≡ with_constructor datatype i now con → AreConstructorsSoFar text datatype G T cons (i + 1) later out
      constructor_next fields raw out (fine, are) is pushed is_later =
          let fields_are_types : AreTypes G T con.fields fields = types_kept G later T same_datatypes con.fields fields (subst (λ fs. AreTypes later T fs fields) fields_are are) in
          let count : i ≡ length (take i cons) = sym (length-take-le i cons (omega (arith, within))) in
          record {
            reached = reached_next with_constructor_name (constructor_use text T) G cons i (record G { cons = now.cons }) con (record G { cons = later.cons }) within at so_far.reached (fine_first con.name.at (new_constructor_fault now con.name.text) (types_uses text (record G { cons = now.cons }) T con.fields) no_fault (ap first_broken (sym fields_uses) ∙ fine)) (ap (λ (H : Globals). record G { cons = H.cons }) is_later);
            are = rw (one_more, pushed) (constructors_push G T (take i cons) raws con fields raw so_far.are fields_are_types is);
            is = is_later ∙ ap (λ (H : Globals). with_constructor datatype i H con) so_far.is ∙ with_last datatype G (take i cons) con i count ∙ ap (with_constructors datatype G) (sym one_more);
          }

-- no constructors
pub no_constructors_yet : (text : List Item) (datatype : ℕ) (G : Globals) (T : TypeLocals) (cons : List SCon) (raws : List RawCon) → raws ≡ [] → AreConstructorsSoFar text datatype G T cons 0 G raws
no_constructors_yet text datatype G T cons raws empty = record {
  reached = record { fine = refl; is = refl };
  are = rw empty no_constructors;
  is = rw (append-nil G.cons, append-nil) refl;
}

-- all constructors were seen
pub constructors_all : (text : List Item) (datatype : ℕ) (G : Globals) (T : TypeLocals) (cons : List SCon) (i : ℕ) (now : Globals) (raws : List RawCon) → length cons ≤ i → AreConstructorsSoFar text datatype G T cons i now raws → Fine (constructors_uses text G T cons) (λ (rs : List RawCon). AreConstructors G T cons rs × (now ≡ with_constructors datatype G cons)) raws
constructors_all text datatype G T cons i now raws ends so_far =
    let all : take i cons ≡ cons = take_all i cons ends in
    ((reached_all with_constructor_name (constructor_use text T) G cons i (record G { cons = now.cons }) ends so_far.reached).fine, (subst (λ cs. AreConstructors G T cs raws) all so_far.are, so_far.is ∙ ap (with_constructors datatype G) all))

other_false : (a b : Bool) → (a || b) ≡ false → b ≡ false
other_false true b e = cc
other_false false b e = e

not_false : (b : Bool) → not b ≡ false → b ≡ true
not_false true e = refl
not_false false e = cc

-- what is declared with one datatype more, which has a new name
pub datatype_added : (G : Globals) (name : Name) (first second : List ℕ) (known is_new : Bool) (added : List (List ℕ)) → first ≡ name.text → second ≡ name.text → known ≡ is_type_name G first → known ≡ false → is_name G.datatypes second ≡ not is_new → added ≡ (if is_new then G.datatypes ++ second ∷ [] else G.datatypes) → record G { datatypes = added } ≡ with_datatype G name
datatype_added G name first second known is_new added one two is no_type is_old add =
    let untyped : is_type_name G name.text ≡ false = ap (is_type_name G) (sym one) ∙ sym is ∙ no_type in
    let unnamed : is_name G.datatypes name.text ≡ false = other_false _ _ untyped in
    let new : is_new ≡ true = not_false is_new (sym is_old ∙ ap (is_name G.datatypes) two ∙ unnamed) in
    let here : added ≡ G.datatypes ++ name.text ∷ [] = rw (add, new, two) refl in
    ap (λ (ds : List (List ℕ)). record G { datatypes = ds }) here

module _ (text : List Item) (G : Globals) (d : SData) (first : List ℕ) (known : Bool) (one : first ≡ d.name.text) (is : known ≡ is_type_name G first) (no_type : known ≡ false) where
  new_type : new_type_fault G d.name.text ≡ None
  new_type =
      let untyped : is_type_name G d.name.text ≡ false = ap (is_type_name G) (sym one) ∙ sym is ∙ no_type in
      rw untyped refl

  module _ (H : Globals) (U : TypeLocals) (names : List Name) (H_is : H ≡ with_datatype G d.name) (U_is : U ≡ no_parameters) (names_are : names ≡ d.tparams) where
    params_uses : type_parameters_uses H U names ≡ type_parameters_uses (with_datatype G d.name) no_parameters d.tparams
    params_uses = rw (H_is, U_is, names_are) refl

    -- the type parameters of a datatype fail
    pub data_tparams_fail : {Z : Type 0} (Is : Z → Type 0) (r : Result Z ScopeEnd) (end : ScopeEnd) → IsErrAnd r (λ e. e ≡ end) → Fails (first_broken (type_parameters_uses H U names)) end → Resolves (data_uses text G d) Is r
    data_tparams_fail Is r end is_end fails =
        passed_on Is (data_uses text G d) r end is_end (fails_later d.name.at (new_type_fault G d.name.text) (type_parameters_uses (with_datatype G d.name) no_parameters d.tparams ++ constructors_uses text (with_datatype G d.name) (data_locals (length G.datatypes) d.tparams) d.cons) end new_type (fails_front (type_parameters_uses (with_datatype G d.name) no_parameters d.tparams) (constructors_uses text (with_datatype G d.name) (data_locals (length G.datatypes) d.tparams) d.cons) end (subst (λ us. Fails (first_broken us) end) params_uses fails)))

    module _ (V : TypeLocals) (number : ℕ) (cons : List SCon) (params_fine : first_broken (type_parameters_uses H U names) ≡ None) (V_is : V ≡ fold with_type_parameter U names) (number_is : number ≡ length G.datatypes) (cons_are : cons ≡ d.cons) where
      locals_are : record V { own = Some number } ≡ data_locals (length G.datatypes) d.tparams
      locals_are =
          let V_are : V ≡ type_locals d.tparams = V_is ∙ (rw (U_is, names_are) refl) ∙ type_locals_are d.tparams in
          rw (V_are, number_is) refl

      cons_uses : constructors_uses text H (record V { own = Some number }) cons ≡ constructors_uses text (with_datatype G d.name) (data_locals (length G.datatypes) d.tparams) d.cons
      cons_uses = rw (locals_are, H_is, cons_are) refl

      -- the constructors of a datatype fail
      pub data_cons_fail : {Z : Type 0} (Is : Z → Type 0) (r : Result Z ScopeEnd) (end : ScopeEnd) → IsErrAnd r (λ e. e ≡ end) → Fails (first_broken (constructors_uses text H (record V { own = Some number }) cons)) end → Resolves (data_uses text G d) Is r
      data_cons_fail Is r end is_end fails =
          passed_on Is (data_uses text G d) r end is_end (fails_later d.name.at (new_type_fault G d.name.text) (type_parameters_uses (with_datatype G d.name) no_parameters d.tparams ++ constructors_uses text (with_datatype G d.name) (data_locals (length G.datatypes) d.tparams) d.cons) end new_type (fails_back (type_parameters_uses (with_datatype G d.name) no_parameters d.tparams) (constructors_uses text (with_datatype G d.name) (data_locals (length G.datatypes) d.tparams) d.cons) end (ap first_broken (sym params_uses) ∙ params_fine) (subst (λ us. Fails (first_broken us) end) cons_uses fails)))

      -- a datatype, where its parts are known
      pub data_fine : (raws : List RawCon) (later : Globals) (count : ℕ) (raw : RawData) → first_broken (constructors_uses text H (record V { own = Some number }) cons) ≡ None → AreConstructors H (record V { own = Some number }) cons raws → later ≡ with_constructors number H cons → count ≡ length d.tparams → raw ≡ record { at = d.name.at; tparams = count; cons = raws } → Fine (data_uses text G d) (λ (result : RawData). IsData G d result × (later ≡ after G (items.Datatype d))) raw
      data_fine raws later count raw cons_fine are is_later counted raw_is = (
        fine_first d.name.at (new_type_fault G d.name.text) (type_parameters_uses (with_datatype G d.name) no_parameters d.tparams ++ constructors_uses text (with_datatype G d.name) (data_locals (length G.datatypes) d.tparams) d.cons) new_type (fine_both (type_parameters_uses (with_datatype G d.name) no_parameters d.tparams) (constructors_uses text (with_datatype G d.name) (data_locals (length G.datatypes) d.tparams) d.cons) (ap first_broken (sym params_uses) ∙ params_fine) (ap first_broken (sym cons_uses) ∙ cons_fine)),
        (
          record {
            cons = raws;
            are_constructors = subst (λ cs. AreConstructors (with_datatype G d.name) (data_locals (length G.datatypes) d.tparams) cs raws) cons_are (subst (λ K. AreConstructors K (data_locals (length G.datatypes) d.tparams) cons raws) H_is (subst (λ W. AreConstructors H W cons raws) locals_are are));
            is = raw_is ∙ ap (λ (n : ℕ). record { at = d.name.at; tparams = n; cons = raws }) counted;
          },
          is_later ∙ (rw (number_is, H_is, cons_are) refl),
        ),
      )
