-- The types that stand in a heading are found exactly as the rules say.
use Rattle.std.proofs.Common.{◌≡◌, ◌⊎◌, inl, inr, ℕ, List, [], ◌∷◌, ◌++◌, length, refl, sym, ◌∙◌, subst}
use Rattle.std.specs.List.{All}
use Rattle.std.proofs.lemmas.List.Elements.{All-nil, All-cons, All-head, All-tail}
use Rattle.px_base.specs.PropSets.{set_of}
use Rattle.px_base.specs.declared.raw.RawTy.{RawTy}
use Rattle.px_base.specs.declared.raw.RawFnType.{RawFnType}
use Rattle.px_base.specs.declared.raw.RawDef.{RawDef}
use Rattle.px_base.specs.declared.raw.RawLemma.{RawLemma}
use Rattle.px_terms.specs.declared.types.Ty.{Ty}
use Rattle.px_terms.specs.declared.types.FnType.{FnType}
use Rattle.px_terms.specs.declared.term.Term.TheVariants as term
use Rattle.px_terms.specs.declared.program.Def.{Def}
use Rattle.px_terms.specs.declared.program.Program.{Program}
use Rattle.px_terms.specs.TypedPrograms.{IsWritten, AreWritten, IsWrittenFnType}
use Rattle.px_types.specs.Written.{props_of, IsTy, AreTys, IsFnTy, AreFnTys}
use Rattle.px_types.specs.Written as written
use Rattle.px_types.specs.Faults.{Broken, AreRight, BreaksTy, BreaksTys}
use Rattle.px_types.specs.Faults as faults
use Rattle.px_types.specs.Declarations.{HasWritten, fn_types_written, signature_written, IsSignature, without_body}
use Rattle.px_types.specs.NextOutcome.{fn_type_found, fn_types_found, heading_found, Heading, lemma_heading_found}
use Rattle.px_types.proofs.Exact.{Exact, Both, Either, first, later, exact_as, exact_ok, exact_then, Every, AllAre, OneBreaks, exact_each}
use Rattle.px_types.proofs.Exact as exact
use Rattle.px_types.proofs.TypesExact.{IsRight, exact_type, exact_types}

-- a written type is one type
mutual
  pub one_ty : {raw : RawTy} {T U : Ty} → IsTy raw T → IsTy raw U → T ≡ U
  one_ty (written.word k a e) (written.word l b f) = e ∙ sym f
  one_ty (written.word k a e) (written.var l b f) = absurd cc
  one_ty (written.word k a e) (written.con l b f) = absurd cc
  one_ty (written.var k a e) (written.word l b f) = absurd cc
  one_ty (written.var k a e) (written.var l b f) = cc
  one_ty (written.var k a e) (written.con l b f) = absurd cc
  one_ty (written.con k a e) (written.word l b f) = absurd cc
  one_ty (written.con k a e) (written.var l b f) = absurd cc
  one_ty (written.con k a e) (written.con l b f) = let types = one_tys a b in cc

  pub one_tys : {raws : List RawTy} {types others : List Ty} → AreTys raws types → AreTys raws others → types ≡ others
  one_tys written.none written.none = refl
  one_tys (written.more is are) (written.more as_ ases) = λ i. one_ty is as_ i ∷ one_tys are ases i

one_fn_ty : {raw : RawFnType} {F G : FnType} → IsFnTy raw F → IsFnTy raw G → F ≡ G
one_fn_ty a b = λ i. record { params = one_tys a.params b.params i; result = one_ty a.result b.result i; props = (a.props ∙ sym b.props) i }

pub one_fn_tys : {raws : List RawFnType} {funs others : List FnType} → AreFnTys raws funs → AreFnTys raws others → funs ≡ others
one_fn_tys written.none written.none = refl
one_fn_tys (written.more is are) (written.more as_ ases) = λ i. one_fn_ty is as_ i ∷ one_fn_tys are ases i

module _ (P : Program) (tparams : ℕ) where
  -- written types that break no rule, joined and taken apart
  none_written : HasWritten P tparams []
  none_written = record { types = []; right = record { are = written.none; written = All-nil (IsWritten P tparams) } }

  written_more : {raw : RawTy} {raws : List RawTy} {types : List Ty} → AreRight P tparams (raw ∷ []) types → HasWritten P tparams raws →
      HasWritten P tparams (raw ∷ raws)
  written_more {raw} {raws} right rest = go right.are right.written
    where
      go : {types : List Ty} → AreTys (raw ∷ []) types → AreWritten P tparams types → HasWritten P tparams (raw ∷ raws)
      go (written.more {T = T} is are) all = record {
        types = T ∷ rest.types;
        right = record {
          are = written.more is rest.right.are;
          written = All-cons (IsWritten P tparams) T rest.types
              (All-head (IsWritten P tparams) T _ all) rest.right.written;
        };
      }

  -- The first of written types, and the others.
  record Parted (raw : RawTy) (raws : List RawTy) : Type 0 where
    T : Ty
    one : AreRight P tparams (raw ∷ []) (T ∷ [])
    others : HasWritten P tparams raws

  parted : {raw : RawTy} {raws : List RawTy} → HasWritten P tparams (raw ∷ raws) → Parted raw raws
  parted {raw} {raws} w = go w.right.are w.right.written
    where
      go : {types : List Ty} → AreTys (raw ∷ raws) types → AreWritten P tparams types → Parted raw raws
      go (written.more {T = T} {types = types} is are) all = record {
        T = T;
        one = record {
          are = written.more is written.none;
          written = All-cons (IsWritten P tparams) T [] (All-head (IsWritten P tparams) T types all)
              (All-nil (IsWritten P tparams));
        };
        others = record { types = types; right = record { are = are; written = All-tail (IsWritten P tparams) T types all } };
      }

  pub written_both : (xs : List RawTy) {ys : List RawTy} → HasWritten P tparams xs → HasWritten P tparams ys → HasWritten P tparams (xs ++ ys)
  written_both [] front rest = rest
  written_both (x ∷ xs) front rest = let parts = parted front in written_more parts.one (written_both xs parts.others rest)

  pub written_front : (xs ys : List RawTy) → HasWritten P tparams (xs ++ ys) → HasWritten P tparams xs
  written_front [] ys all = none_written
  written_front (x ∷ xs) ys all = let parts = parted all in written_more parts.one (written_front xs ys parts.others)

  pub written_behind : (xs ys : List RawTy) → HasWritten P tparams (xs ++ ys) → HasWritten P tparams ys
  written_behind [] ys all = all
  written_behind (x ∷ xs) ys all = written_behind xs ys (parted all).others

  -- the first fault of types that are joined
  pub front : {xs : List RawTy} {b : Broken} → BreaksTys P tparams xs b → (ys : List RawTy) → BreaksTys P tparams (xs ++ ys) b
  front (faults.here br) ys = faults.here br
  front (faults.later right br) ys = faults.later right (front br ys)

  pub behind : (xs : List RawTy) {ys : List RawTy} {b : Broken} → HasWritten P tparams xs → BreaksTys P tparams ys b → BreaksTys P tparams (xs ++ ys) b
  behind [] all br = br
  behind (x ∷ xs) all br = let parts = parted all in faults.later parts.one (behind xs parts.others br)

  pub split : (xs ys : List RawTy) {b : Broken} → BreaksTys P tparams (xs ++ ys) b →
      BreaksTys P tparams xs b ⊎ (HasWritten P tparams xs × BreaksTys P tparams ys b)
  split [] ys br = inr (none_written, br)
  split (x ∷ xs) ys (faults.here br) = inl (faults.here br)
  split (x ∷ xs) ys (faults.later right br) = elim (split xs ys br) [
    | inl first_ ↦ inl (faults.later right first_)
    | inr rest ↦ inr (written_more right rest.0, rest.1)
  ]

  pub single : {raw : RawTy} {b : Broken} → BreaksTys P tparams (raw ∷ []) b → BreaksTy P tparams raw b
  single (faults.here br) = br
  single (faults.later right br) = elim br [ ]

  pub one_written : {raw : RawTy} {T : Ty} → IsRight P tparams raw T → HasWritten P tparams (raw ∷ [])
  one_written {raw} {T} is = record {
    types = T ∷ [];
    right = record { are = written.more is.is written.none; written = All-cons (IsWritten P tparams) T [] is.written (All-nil (IsWritten P tparams)) };
  }

  -- types that are written and break no rule are these
  pub these_written : {raws : List RawTy} {types : List Ty} → AreTys raws types → HasWritten P tparams raws → AreWritten P tparams types
  these_written are w = subst (AreWritten P tparams) (one_tys w.right.are are) w.right.written

  pub this_written : {raw : RawTy} {T : Ty} → IsTy raw T → HasWritten P tparams (raw ∷ []) → IsWritten P tparams T
  this_written {T = T} is w = All-head (IsWritten P tparams) T [] (these_written (written.more is written.none) w)

  -- The written function type is this one, and its types break no rule.
  pub record IsRightFnTy (raw : RawFnType) (F : FnType) : Type 0 where
    pub is : IsFnTy raw F
    pub written : IsWrittenFnType P tparams F

  -- the types that are written in a function type
  abbrev pub fn_type_written : RawFnType → List RawTy
  fn_type_written raw = raw.params ++ raw.result ∷ []

  fn_written : {raw : RawFnType} {F : FnType} → IsRightFnTy raw F → HasWritten P tparams (fn_type_written raw)
  fn_written {raw} {F} is = written_both raw.params (record { types = F.params; right = record { are = is.is.params; written = is.written.params } })
      (one_written (record { is = is.is.result; written = is.written.result }))

  exact_fn_type : (raw : RawFnType) → Exact (fn_type_found P tparams raw) (IsRightFnTy raw) (BreaksTys P tparams (fn_type_written raw))
  unfolding fn_type_found
  exact_fn_type raw = exact_as
      (exact_then (exact_types P tparams raw.params) (λ params right.
      exact_then (exact_type P tparams raw.result) (λ result is.
      exact_ok (record { params = params; result = result; props = set_of (props_of raw.props) }))))
      (λ F both. subst (IsRightFnTy raw) (sym both.after.after) (record {
        is = record { params = both.is.are; result = both.after.is.is; props = refl };
        written = record { params = both.is.written; result = both.after.is.written };
      }))
      (λ F is. record {
        x = F.params;
        is = record { are = is.is.params; written = is.written.params };
        after = record {
          x = F.result;
          is = record { is = is.is.result; written = is.written.result };
          after = λ i. record { params = F.params; result = F.result; props = is.is.props i };
        };
      })
      (λ b br. elim br [
        | first wrong ↦ front wrong (raw.result ∷ [])
        | later params right h ↦ elim h [
          | first wrong ↦ behind raw.params (record { types = params; right = right }) (faults.here wrong)
          | later result is nothing ↦ absurd nothing
        ]
      ])
      (λ b br. elim (split raw.params (raw.result ∷ []) br) [
        | inl wrong ↦ first wrong
        | inr rest ↦ later rest.0.types rest.0.right (first (single rest.1))
      ])

  -- what function types are, from what is written in them
  fn_of_written : (raw : RawFnType) → HasWritten P tparams (fn_type_written raw) → (F : FnType) × IsRightFnTy raw F
  fn_of_written raw w =
      let params = written_front raw.params (raw.result ∷ []) w in
      let result = parted (written_behind raw.params (raw.result ∷ []) w) in
      (record { params = params.types; result = result.T; props = set_of (props_of raw.props) }, go params result)
    where
      go : (params : HasWritten P tparams raw.params) (result : Parted raw.result []) →
          IsRightFnTy raw (record { params = params.types; result = result.T; props = set_of (props_of raw.props) })
      go params result = record {
        is = record { params = params.right.are; result = first_is result.one.are; props = refl };
        written = record { params = params.right.written; result = All-head (IsWritten P tparams) result.T [] result.one.written };
      }
        where
          first_is : {raw : RawTy} {T : Ty} → AreTys (raw ∷ []) (T ∷ []) → IsTy raw T
          first_is (written.more is are) = is

  pub broken_fn_types : {raws : List RawFnType} {b : Broken} → OneBreaks IsRightFnTy (λ (raw : RawFnType). BreaksTys P tparams (fn_type_written raw)) raws b →
      BreaksTys P tparams (fn_types_written raws) b
  broken_fn_types (exact.here {xs = raws} br) = front br (fn_types_written raws)
  broken_fn_types (exact.behind {x = raw} is br) = behind (fn_type_written raw) (fn_written is) (broken_fn_types br)

  pub fn_types_broken : (raws : List RawFnType) {b : Broken} → BreaksTys P tparams (fn_types_written raws) b →
      OneBreaks IsRightFnTy (λ (raw : RawFnType). BreaksTys P tparams (fn_type_written raw)) raws b
  fn_types_broken [] br = elim br [ ]
  fn_types_broken (raw ∷ raws) br = elim (split (fn_type_written raw) (fn_types_written raws) br) [
    | inl wrong ↦ exact.here wrong
    | inr rest ↦ exact.behind (fn_of_written raw rest.0).1 (fn_types_broken raws rest.1)
  ]

  every_fn_type : (raws : List RawFnType) →
      Every (λ (raw : RawFnType). Exact (fn_type_found P tparams raw) (IsRightFnTy raw) (BreaksTys P tparams (fn_type_written raw))) raws
  every_fn_type [] = tt
  every_fn_type (raw ∷ raws) = (exact_fn_type raw, every_fn_type raws)

  -- each written function type is the one at its place, and its types break no rule
  abbrev pub AreRightFnTys : List RawFnType → List FnType → Type 0
  AreRightFnTys raws funs = AllAre IsRightFnTy raws funs

  pub exact_fn_types : (raws : List RawFnType) → Exact (fn_types_found P tparams raws) (AreRightFnTys raws) (BreaksTys P tparams (fn_types_written raws))
  unfolding fn_types_found
  exact_fn_types raws = exact_as (exact_each (fn_type_found P tparams) IsRightFnTy (λ (raw : RawFnType). BreaksTys P tparams (fn_type_written raw)) raws
      (every_fn_type raws)) (λ funs all. all) (λ funs all. all) (λ b br. broken_fn_types br) (λ b br. fn_types_broken raws br)

  pub fn_tys_of : {raws : List RawFnType} {funs : List FnType} → AreRightFnTys raws funs → AreFnTys raws funs
  fn_tys_of exact.none = written.none
  fn_tys_of (exact.more is all) = written.more is.is (fn_tys_of all)

  pub fn_types_of : {raws : List RawFnType} {funs : List FnType} → AreRightFnTys raws funs → All (IsWrittenFnType P tparams) funs
  fn_types_of exact.none = All-nil (IsWrittenFnType P tparams)
  fn_types_of (exact.more {y = F} {ys = funs} is all) = All-cons (IsWrittenFnType P tparams) F funs is.written (fn_types_of all)

  pub right_fn_types : {raws : List RawFnType} {funs : List FnType} → AreFnTys raws funs → All (IsWrittenFnType P tparams) funs → AreRightFnTys raws funs
  right_fn_types written.none all = exact.none
  right_fn_types (written.more {F = F} {funs = funs} is are) all = exact.more (record { is = is; written = All-head (IsWrittenFnType P tparams) F funs all })
      (right_fn_types are (All-tail (IsWrittenFnType P tparams) F funs all))

  pub all_written : {raws : List RawFnType} {funs : List FnType} → AreRightFnTys raws funs → HasWritten P tparams (fn_types_written raws)
  all_written exact.none = none_written
  all_written (exact.more {x = raw} is all) = written_both (fn_type_written raw) (fn_written is) (all_written all)

  pub found_fn_types : (raws : List RawFnType) → HasWritten P tparams (fn_types_written raws) → (funs : List FnType) × AreRightFnTys raws funs
  found_fn_types [] w = ([], exact.none)
  found_fn_types (raw ∷ raws) w =
      let one = fn_of_written raw (written_front (fn_type_written raw) (fn_types_written raws) w) in
      let rest = found_fn_types raws (written_behind (fn_type_written raw) (fn_types_written raws) w) in
      (one.0 ∷ rest.0, exact.more one.1 rest.1)

  -- function types that are written and break no rule are these
  pub these_fn_types : {raws : List RawFnType} {funs : List FnType} → AreFnTys raws funs → HasWritten P tparams (fn_types_written raws) →
      AreRightFnTys raws funs
  these_fn_types written.none w = exact.none
  these_fn_types (written.more {raw = raw} {raws = raws} is are) w =
      let own = written_front (fn_type_written raw) (fn_types_written raws) w in
      let params = written_front raw.params (raw.result ∷ []) own in
      let result = written_behind raw.params (raw.result ∷ []) own in
      exact.more (record { is = is; written = record { params = these_written is.params params; result = this_written is.result result } })
      (these_fn_types are (written_behind (fn_type_written raw) (fn_types_written raws) w))

-- The signature of a definition is this one, its types break no rule, and its body isn't looked at yet.
pub record IsHeading (P : Program) (d : RawDef) (D : Def) : Type 0 where
  pub signature : IsSignature (length P.declared) d D
  pub funs : AreRightFnTys P d.tparams d.funs D.funs
  pub params : AreWritten P d.tparams D.params
  pub result : IsWritten P d.tparams D.result
  pub body : D.body ≡ term.Lit 0

module _ (P : Program) (d : RawDef) where
  pub exact_heading : Exact (heading_found P d) (IsHeading P d) (BreaksTys P d.tparams (signature_written d))
  unfolding heading_found
  exact_heading = exact_as
      (exact_then (exact_fn_types P d.tparams d.funs) (λ funs right_funs.
      exact_then (exact_types P d.tparams d.params) (λ params right.
      exact_then (exact_type P d.tparams d.result) (λ result is.
      exact_ok (record { tparams = d.tparams; funs = funs; params = params; result = result; body = term.Lit 0; seen = length P.declared })))))
      (λ D both. let rest = both.after.after in subst (IsHeading P d) (sym rest.after) (record {
        signature = record { tparams = refl; funs = fn_tys_of P d.tparams both.is; params = both.after.is.are; result = rest.is.is; stands = refl };
        funs = both.is;
        params = both.after.is.written;
        result = rest.is.written;
        body = refl;
      }))
      (λ D h. record {
        x = D.funs;
        is = h.funs;
        after = record {
          x = D.params;
          is = record { are = h.signature.params; written = h.params };
          after = record {
            x = D.result;
            is = record { is = h.signature.result; written = h.result };
            after = λ i. record {
              tparams = h.signature.tparams i;
              funs = D.funs;
              params = D.params;
              result = D.result;
              body = h.body i;
              seen = h.signature.stands i;
            };
          };
        };
      })
      (λ b br. elim br [
        | first wrong ↦ front P d.tparams wrong (d.params ++ d.result ∷ [])
        | later funs right_funs h ↦ behind P d.tparams (fn_types_written d.funs) (all_written P d.tparams right_funs) (elim h [
          | first wrong ↦ front P d.tparams wrong (d.result ∷ [])
          | later params right h2 ↦ behind P d.tparams d.params (record { types = params; right = right }) (elim h2 [
            | first wrong ↦ faults.here wrong
            | later result is nothing ↦ absurd nothing
          ])
        ])
      ])
      (λ b br. elim (split P d.tparams (fn_types_written d.funs) (d.params ++ d.result ∷ []) br) [
        | inl wrong ↦ first wrong
        | inr rest ↦ let found = found_fn_types P d.tparams d.funs rest.0 in later found.0 found.1 (elim (split P d.tparams d.params (d.result ∷ []) rest.1) [
          | inl wrong ↦ first wrong
          | inr last ↦ later last.0.types last.0.right (first (single P d.tparams last.1))
        ])
      ])

  -- a heading, by its signature and the types that are written
  pub heading_of : {D : Def} → IsSignature (length P.declared) d D → HasWritten P d.tparams (signature_written d) → IsHeading P d (without_body D)
  heading_of {D} signature w =
      let values = written_behind P d.tparams (fn_types_written d.funs) (d.params ++ d.result ∷ []) w in
      record {
        signature = record {
          tparams = signature.tparams;
          funs = signature.funs;
          params = signature.params;
          result = signature.result;
          stands = signature.stands;
        };
        funs = these_fn_types P d.tparams signature.funs (written_front P d.tparams (fn_types_written d.funs) (d.params ++ d.result ∷ []) w);
        params = these_written P d.tparams signature.params (written_front P d.tparams d.params (d.result ∷ []) values);
        result = this_written P d.tparams signature.result (written_behind P d.tparams d.params (d.result ∷ []) values);
        body = refl;
      }

  -- and the types of a heading are written ones
  pub heading_written : {D : Def} → IsHeading P d D → HasWritten P d.tparams (signature_written d)
  heading_written {D} h = written_both P d.tparams (fn_types_written d.funs) (all_written P d.tparams h.funs)
      (written_both P d.tparams d.params (record { types = D.params; right = record { are = h.signature.params; written = h.params } })
      (one_written P d.tparams (record { is = h.signature.result; written = h.result })))

-- What stands before a lemma's equations is this, and its types break no rule.
pub record IsLemmaHeading (P : Program) (l : RawLemma) (H : Heading) : Type 0 where
  pub funs : AreRightFnTys P l.tparams l.funs H.funs
  pub vars : AreRight P l.tparams l.vars H.vars

-- the types that are written before a lemma's equations
abbrev pub variables_written : RawLemma → List RawTy
variables_written l = fn_types_written l.funs ++ l.vars

pub exact_lemma_heading : (P : Program) (l : RawLemma) → Exact (lemma_heading_found P l) (IsLemmaHeading P l) (BreaksTys P l.tparams (variables_written l))
unfolding lemma_heading_found
exact_lemma_heading P l = exact_as
    (exact_then (exact_fn_types P l.tparams l.funs) (λ funs right_funs.
    exact_then (exact_types P l.tparams l.vars) (λ vars right.
    exact_ok (record { funs = funs; vars = vars }))))
    (λ H both. subst (IsLemmaHeading P l) (sym both.after.after) (record { funs = both.is; vars = both.after.is }))
    (λ H h. record { x = H.funs; is = h.funs; after = record { x = H.vars; is = h.vars; after = refl } })
    (λ b br. elim br [
      | first wrong ↦ front P l.tparams wrong l.vars
      | later funs right_funs h ↦ behind P l.tparams (fn_types_written l.funs) (all_written P l.tparams right_funs)
          (elim h [ first wrong ↦ wrong | later vars right nothing ↦ absurd nothing ])
    ])
    (λ b br. elim (split P l.tparams (fn_types_written l.funs) l.vars br) [
      | inl wrong ↦ first wrong
      | inr rest ↦ let found = found_fn_types P l.tparams l.funs rest.0 in later found.0 found.1 (first rest.1)
    ])
