-- A constructor is read.
use Rattle.std.proofs.Common.{◌≡◌, ◌≢◌, ℕ, suc, ◌+◌, ◌<◌, ◌≤◌, false, List, [], ◌∷◌, ◌++◌, map, length, reverse, Some, refl, sym, ap, ◌∙◌, subst, inl, inr, arith}
use Rattle.std.specs.Prelude.{slice_get}
use Rattle.std.proofs.lemmas.List.{length-append, length-map}
use Rattle.std.proofs.lemmas.Grind.{flat_map-append}
use Rattle.px_base.specs.Lawful.{IsLawful}
use Rattle.px_base.specs.NameForms.{is_name_part}
use Rattle.px_terms.specs.declared.types.Ty.{Ty, out-Ty}
use Rattle.px_terms.specs.declared.types.Ty.TheOpen.{Ty-F}
use Rattle.px_terms.specs.declared.types.Ty.TheVariants as types
use Rattle.px_terms.specs.declared.types.Ty.TheViews.{roll-Ty, roll-out-Ty}
use Rattle.px_terms.specs.declared.term.Value.{Value, out-Value}
use Rattle.px_terms.specs.declared.term.Value.TheVariants as value
use Rattle.px_terms.specs.declared.term.Value.TheOpen.{Value-F}
use Rattle.px_terms.specs.declared.program.Program.{Program}
use Rattle.px_terms.specs.Types.{tys_instance, ty_instance}
use Rattle.px_terms.specs.Values.{IsIn, IsInLayer, AreIn, con}
use Rattle.px_machine.specs.declared.cells.Cell.{Cell}
use Rattle.px_machine.specs.declared.cells.Cell.TheVariants as cell
use Rattle.px_machine.specs.Cells.{preorder, preorders}
use Rattle.px_schedule.specs.declared.runs.Class.TheVariants as classes
use Rattle.px_schedule.specs.declared.wanted.Wanted.{Wanted}
use Rattle.px_schedule.specs.declared.wanted.Wanted.TheVariants as wanted
use Rattle.px_schedule.specs.Runs.{begins, IsRun}
use Rattle.px_schedule.specs.Names.{IsNamed}
use Rattle.px_schedule.specs.ValueGrammar.{Piece, constructor, in_parentheses, pieces, constructors_at, AreSpelled, piece}
use Rattle.px_schedule.specs.declared.reading.Reading.{Reading}
use Rattle.px_schedule.specs.Wanting.{field_wants, IsMark, Follows, AreWants, Fits, valued, Completes, Turns, IsStuck, IsRoom, values_in, IsStep}
use Rattle.px_schedule.proofs.RunFacts.{Each, Same, same_run}
use Rattle.px_schedule.proofs.Spellings.{is_space, IsSolid, IsFirst, first_piece}
use Rattle.px_schedule.proofs.NameFacts.{name_upper, name_parts, name_solid, SameNamed, one_named}
use Rattle.px_schedule.proofs.ValueFacts.{pieces_con, preorder_con, IsConValue, in_con, in_variable, as_many, many_cells}
use Rattle.px_schedule.proofs.WantFacts.{ValueNeeds, needs, field_fit, IsSplit, field_fits, fields_are, field_count, fit_count}
use Rattle.px_schedule.proofs.Turning.{ends_word}

no_mark : (c : ℕ) → IsMark c → is_name_part c ≡ false
no_mark c (inl is) = ap is_name_part is
no_mark c (inr (inl is)) = ap is_name_part is
no_mark c (inr (inr is)) = ap is_name_part is

follows_fields : (types : List Ty) (ws : List Wanted) → Follows ws → Follows (field_wants types ++ ws)
follows_fields [] ws follows = follows
follows_fields (T ∷ types) ws follows = tt

-- A constructor stands first, and this is behind its name.
pub record IsConFirst (P : Program) (d : ℕ) (args : List Ty) (ws : List Wanted) (word rest : List ℕ) (vs : List Value) : Type 0 where
  pub k : ℕ
  pub fields : List Ty
  pub named : IsNamed P d word k fields
  pub values : List Value
  pub others : List Value
  pub completes : Completes P (field_wants (tys_instance args fields) ++ ws) rest (values ++ others)
  pub are : preorders vs ≡ cell.Con d k (length fields) ∷ preorders (values ++ others)
  pub many : length values ≡ length fields
  pub count : length others ≡ values_in ws

pub con_first : (P : Program) → IsLawful P.names → (T : Ty) (d : ℕ) (args : List Ty) → out-Ty T ≡ Ty-F.Con d args → (ws : List Wanted) → AreWants (wanted.Value T ∷ ws) → (text word rest : List ℕ) → begins is_space text ≡ false → IsRun classes.NamePart text word rest → (vs : List Value) → Completes P (wanted.Value T ∷ ws) text vs → IsConFirst P d args ws word rest vs
con_first P lawful T d args type_is ws are text word rest ends run vs C =
    let n : ValueNeeds P T ws vs C.pieces = needs P C.fits in
    let i : IsConValue P d args (out-Value n.value) = in_con P n.inside d args type_is in
    let types : List Ty = tys_instance args i.c.fields in
    let inner : List Piece = in_parentheses (map pieces i.fields) ++ n.behind in
    let pieces_is : C.pieces ≡ constructor d i.k ∷ inner = n.is ∙ ap (λ (z : List Piece). z ++ n.behind) (pieces_con n.value d i.k i.fields i.is) in
    let f : IsFirst P.names text (constructor d i.k) inner = first_piece P.names (subst (AreSpelled P.names text) pieces_is C.spelled) ends in
    let own : Each is_name_part f.word = name_parts f.word (name_upper P.names lawful d i.k f.word f.is_word) in
    let fits : Fits P (field_wants types ++ ws) (i.fields ++ n.others) inner = field_fit P ws n.others n.behind n.fits i.inside in
    let behind : begins is_name_part f.rest ≡ false = ends_word P is_name_part refl no_mark (field_wants types ++ ws) (fields_are types ws are.1) (follows_fields types ws are.0) (i.fields ++ n.others) inner f.rest fits f.spelled in
    let s : Same f.word word f.rest rest = same_run is_name_part f.word word f.rest rest own run.each behind run.ends (sym f.whole ∙ run.whole) in
    let many : length i.fields ≡ length i.c.fields = as_many P i.inside ∙ length-map i.c.fields (ty_instance args) in
    let cells_are : preorder n.value ≡ cell.Con d i.k (length i.c.fields) ∷ preorders i.fields = preorder_con n.value d i.k i.fields i.is ∙ ap (λ (m : ℕ). cell.Con d i.k m ∷ preorders i.fields) many in
    let joined : preorders i.fields ++ preorders n.others ≡ preorders (i.fields ++ n.others) = sym (flat_map-append preorder i.fields n.others) in
    record {
      k = i.k;
      fields = i.c.fields;
      named = record { named = subst (λ (z : List ℕ). slice_get (constructors_at P.names d) i.k ≡ Some z) s.front f.is_word; declared = i.at };
      values = i.fields;
      others = n.others;
      completes = record { pieces = inner; fits = fits; spelled = subst (λ (z : List ℕ). AreSpelled P.names z inner) s.back f.spelled };
      are = ap preorders n.values ∙ ap (λ (z : List Cell). z ++ preorders n.others) cells_are ∙ ap (λ (z : List Cell). cell.Con d i.k (length i.c.fields) ∷ z) joined;
      many = many;
      count = fit_count P n.fits;
    }

-- the layer of a constructed type
pub con_type : (T : Ty) (d : ℕ) (args : List Ty) → T ≡ types.Con d args → out-Ty T ≡ Ty-F.Con d args
con_type T d args is = ap out-Ty is ∙ types.outs-Con d args

rolled : (T : Ty) (t : Ty-F Ty) → out-Ty T ≡ t → T ≡ roll-Ty t
rolled T t e = sym (roll-out-Ty T) ∙ ap roll-Ty e

-- no value is of a type that is neither `Word` nor a datatype's
pub variable_stuck : (P : Program) (T : Ty) → T ≢ types.Word → ((d : ℕ) (args : List Ty) → T ≢ types.Con d args) → (ws : List Wanted) (text : List ℕ) (cells : List Cell) → IsStuck P (wanted.Value T ∷ ws) text cells
variable_stuck P T no_word no_con ws text cells vs C small =
    let n : ValueNeeds P T ws vs C.pieces = needs P C.fits in
    by (out-Ty T) refl n.value n.inside
  where
    by : (t : Ty-F Ty) → out-Ty T ≡ t → (v : Value) → IsIn P T v → ⊥
    by Ty-F.Word e v inside = no_word (rolled T Ty-F.Word e ∙ types.rolls-Word)
    by (Ty-F.Con d args) e v inside = no_con d args (rolled T (Ty-F.Con d args) e ∙ types.rolls-Con d args)
    by (Ty-F.Var n) e v inside = in_variable P inside n e

-- no constructor of the datatype has the name
pub unnamed_stuck : (P : Program) → IsLawful P.names → (T : Ty) (d : ℕ) (args : List Ty) → out-Ty T ≡ Ty-F.Con d args → (ws : List Wanted) → AreWants (wanted.Value T ∷ ws) → (text word rest : List ℕ) → begins is_space text ≡ false → IsRun classes.NamePart text word rest → ((k : ℕ) (fields : List Ty) → ¬ IsNamed P d word k fields) → (cells : List Cell) → IsStuck P (wanted.Value T ∷ ws) text cells
unnamed_stuck P lawful T d args type_is ws are text word rest ends run none cells vs C small =
    let f : IsConFirst P d args ws word rest vs = con_first P lawful T d args type_is ws are text word rest ends run vs C in
    none f.k f.fields f.named

-- the fields are more nodes than may be
pub full_stuck : (P : Program) → IsLawful P.names → (T : Ty) (d : ℕ) (args : List Ty) → out-Ty T ≡ Ty-F.Con d args → (ws : List Wanted) → AreWants (wanted.Value T ∷ ws) → (text word rest : List ℕ) → begins is_space text ≡ false → IsRun classes.NamePart text word rest → (k : ℕ) (fields : List Ty) → IsNamed P d word k fields → (left : ℕ) (cells : List Cell) → IsRoom left cells (wanted.Value T ∷ ws) → left < length fields → IsStuck P (wanted.Value T ∷ ws) text cells
full_stuck P lawful T d args type_is ws are text word rest ends run k fields named left cells room less vs C small =
    let f : IsConFirst P d args ws word rest vs = con_first P lawful T d args type_is ws are text word rest ends run vs C in
    let s : SameNamed f.k k f.fields fields = one_named P lawful d word f.k k f.fields fields f.named named in
    let long : length f.fields ≡ length fields = ap length s.types in
    let total : length (preorders vs) ≡ suc (length (preorders (f.values ++ f.others))) = ap length f.are in
    let least : length (f.values ++ f.others) ≤ length (preorders (f.values ++ f.others)) = many_cells (f.values ++ f.others) in
    let both : length (f.values ++ f.others) ≡ length f.values + length f.others = length-append f.values f.others in
    let many = f.many in
    let count = f.count in
    omega arith

is_con : (P : Program) (T : Ty) (d : ℕ) (args : List Ty) → out-Ty T ≡ Ty-F.Con d args → (word : List ℕ) (k : ℕ) (fields : List Ty) → IsNamed P d word k fields → (vs : List Value) → AreIn P (tys_instance args fields) vs → IsIn P T (value.Con d k vs)
is_con P T d args type_is word k fields named vs inside =
    let i : IsInLayer P (Ty-F.Con d args) (Value-F.Con d k vs) = con named.declared inside in
    let j : IsInLayer P (Ty-F.Con d args) (out-Value (value.Con d k vs)) = subst (IsInLayer P (Ty-F.Con d args)) (sym (value.outs-Con d k vs)) i in
    subst (λ (t : Ty-F Ty). IsInLayer P t (out-Value (value.Con d k vs))) (sym type_is) j

pub con_turns : (P : Program) → IsLawful P.names → (T : Ty) (d : ℕ) (args : List Ty) → out-Ty T ≡ Ty-F.Con d args → (ws : List Wanted) → AreWants (wanted.Value T ∷ ws) → (text word rest : List ℕ) → begins is_space text ≡ false → IsRun classes.NamePart text word rest → (k : ℕ) (fields : List Ty) → IsNamed P d word k fields → (cells : List Cell) →
    Turns P (wanted.Value T ∷ ws) text cells (field_wants (tys_instance args fields) ++ ws) rest (cells ++ cell.Con d k (length fields) ∷ [])
con_turns P lawful T d args type_is ws are text word rest ends run k fields named cells = record {
  added = cell.Con d k (length fields) ∷ [];
  are = refl;
  forth = λ vs C.
      let types : List Ty = tys_instance args fields in
      let s : IsSplit P types ws vs C.pieces in_parentheses = field_fits P types ws vs C.pieces C.fits in
      let v : Value = value.Con d k s.fields in
      let out : out-Value v ≡ Value-F.Con d k s.fields = value.outs-Con d k s.fields in
      let many : length s.fields ≡ length fields = as_many P s.inside ∙ length-map fields (ty_instance args) in
      let cells_are : preorder v ≡ cell.Con d k (length fields) ∷ preorders s.fields = preorder_con v d k s.fields out ∙ ap (λ (m : ℕ). cell.Con d k m ∷ preorders s.fields) many in
      let joined : preorders s.fields ++ preorders s.others ≡ preorders vs = sym (flat_map-append preorder s.fields s.others) ∙ ap preorders (sym s.values) in
      record {
        values = v ∷ s.others;
        completes = record {
          pieces = constructor d k ∷ C.pieces;
          fits = valued (is_con P T d args type_is word k fields named s.fields s.inside) (ap (λ (z : List Piece). constructor d k ∷ z) s.is ∙ sym (ap (λ (z : List Piece). z ++ s.behind) (pieces_con v d k s.fields out))) s.fits;
          spelled = piece word named.named run.whole C.spelled;
        };
        are = ap (λ (z : List Cell). z ++ preorders s.others) cells_are ∙ ap (λ (z : List Cell). cell.Con d k (length fields) ∷ z) joined;
      };
  back = λ vs C.
      let f : IsConFirst P d args ws word rest vs = con_first P lawful T d args type_is ws are text word rest ends run vs C in
      let s : SameNamed f.k k f.fields fields = one_named P lawful d word f.k k f.fields fields f.named named in
      record {
        values = f.values ++ f.others;
        completes = subst (λ (types : List Ty). Completes P (field_wants (tys_instance args types) ++ ws) rest (f.values ++ f.others)) s.types f.completes;
        are = f.are ∙ ap (λ (n : ℕ). cell.Con d n (length f.fields) ∷ preorders (f.values ++ f.others)) s.number ∙ ap (λ (types : List Ty). cell.Con d k (length types) ∷ preorders (f.values ++ f.others)) s.types;
      };
}

-- a constructor was read
pub con_step : (P : Program) → IsLawful P.names → (T : Ty) (d : ℕ) (args : List Ty) → out-Ty T ≡ Ty-F.Con d args → (before later : Reading) → AreWants (wanted.Value T ∷ reverse before.wanted) → IsRoom before.left before.cells (wanted.Value T ∷ reverse before.wanted) → (text word rest : List ℕ) → begins is_space text ≡ false → IsRun classes.NamePart text word rest → (k : ℕ) (fields : List Ty) → IsNamed P d word k fields →
    reverse later.wanted ≡ field_wants (tys_instance args fields) ++ reverse before.wanted → later.cells ≡ before.cells ++ cell.Con d k (length fields) ∷ [] → later.left + length fields ≡ before.left → IsStep P (wanted.Value T) before text later rest
con_step P lawful T d args type_is before later are room text word rest ends run k fields named wanted_is cells_is left_is =
    let ws : List Wanted = reverse before.wanted in
    let types : List Ty = tys_instance args fields in
    let many : length types ≡ length fields = length-map fields (ty_instance args) in
    let count : values_in (field_wants types ++ ws) ≡ length types + values_in ws = field_count types ws in
    let added : length (before.cells ++ cell.Con d k (length fields) ∷ []) ≡ length before.cells + 1 = length-append before.cells (cell.Con d k (length fields) ∷ []) in
    let solid : IsSolid word = name_solid word (name_upper P.names lawful d k word named.named) in
    let some : length word ≡ suc (length solid.rest) = ap length solid.is in
    let total : length text ≡ length word + length rest = ap length run.whole ∙ length-append word rest in
    let t : Turns P (wanted.Value T ∷ ws) text before.cells (field_wants types ++ ws) rest (before.cells ++ cell.Con d k (length fields) ∷ []) = con_turns P lawful T d args type_is ws are text word rest ends run k fields named before.cells in
    record {
      turns = rw (wanted_is, cells_is) t;
      room = rw (wanted_is, cells_is) (omega arith);
      wants = rw wanted_is (fields_are types ws are.1);
      shorter = omega arith;
    }
