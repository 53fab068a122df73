-- Function arguments are found exactly as the rules say.
use Rattle.std.proofs.Common.{◌≡◌, ℕ, Bool, true, false, List, [], ◌∷◌, length, Some, refl, sym, ◌∙◌, ap, subst}
use Rattle.std.specs.List.{All}
use Rattle.std.proofs.lemmas.List.Elements.{All-nil, All-cons, All-head, All-tail}
use Rattle.px_base.specs.PropSets.{HasProp}
use Rattle.px_base.specs.declared.head.Head.{Head}
use Rattle.px_base.specs.declared.prop.Prop.{Prop}
use Rattle.px_base.specs.declared.raw.RawFun.{RawFun}
use Rattle.px_terms.specs.declared.types.Ty.{Ty}
use Rattle.px_terms.specs.declared.types.FnType.{FnType}
use Rattle.px_terms.specs.declared.types.Fun.{Fun}
use Rattle.px_terms.specs.Typing.{AreTypes, IsMet, IsFunction, MayPass, IsKnown, IsArgument, AreArguments}
use Rattle.px_terms.specs.Typing as typing
use Rattle.px_terms.specs.TypedPrograms.{IsWritten}
use Rattle.px_types.specs.declared.ends.TypeKind.TheVariants.{Mismatch, Arity, LacksProperty, Oversize}
use Rattle.px_types.specs.Written.{IsFun, AreFuns}
use Rattle.px_types.specs.Written as written
use Rattle.px_types.specs.Faults.{Broken, breaks, Env, Counts, counts_of, AreRight, BreaksTys, types_of_function, IsFunctionMet, HasArgumentCount, IsFunctionOf, BreaksArgument, IsRightArgument, BreaksArguments, AreRightArguments}
use Rattle.px_types.specs.Faults as faults
use Rattle.px_types.specs.Laws.{IsPlaced}
use Rattle.px_types.specs.Outcome.{Signature, signature_of, has_wanted, argument_found, arguments_found}
use Rattle.px_types.proofs.Exact.{Exact, Both, Either, first, later, exact_as, exact_ok, exact_needs, exact_there, exact_then, Every, AllTwo, OneOfTwo, exact_each_two}
use Rattle.px_types.proofs.Exact as exact
use Rattle.px_types.proofs.TypesExact.{exact_types, same_length, are_types}
use Rattle.px_types.proofs.Known.{decides_wanted, Lacking, lacking}
use Rattle.px_types.proofs.Functions.{small_of, all_met, decides_function_met, decides_argument_count, IsAlike, decides_alike, TakesTypes, no_signature, function_of, function_is, function_counts, function_types}

-- The written function is this one, which may stand where one of this type is wanted.
pub record IsRightFun (E : Env) (raw : RawFun) (wanted : FnType) (f : Fun) : Type 0 where
  pub is : IsFun raw f
  pub argument : IsArgument E.program E.place E.context f wanted

every_fun : {P : RawFun → Type 0} → ((raw : RawFun) → P raw) → (raws : List RawFun) → Every P raws
every_fun all [] = tt
every_fun all (raw ∷ raws) = (all raw, every_fun all raws)

module _ (E : Env) (placed : IsPlaced E.place) where
  -- as many types as are taken, once they are the written ones' types
  takes_types : (raw : RawFun) (types : List Ty) → HasArgumentCount E raw → AreRight E.program E.context.tparams raw.types types → TakesTypes E raw.head (length types)
  takes_types raw types count right = subst (λ (n : ℕ). TakesTypes E raw.head n) (same_length right.are) count.1

  own_function : (raw : RawFun) (types : List Ty) (s : Signature) → HasArgumentCount E raw → AreRight E.program E.context.tparams raw.types types → signature_of E raw.head types ≡ Some s → IsFunction E.program E.context (record { head = raw.head; types = types }) s.takes s.params s.result
  own_function raw types s count right stands = function_of E raw.head types s (takes_types raw types count right) (are_types E.program E.context.tparams types right.written) stands

  is_fun : (raw : RawFun) (types : List Ty) → AreRight E.program E.context.tparams raw.types types → IsFun raw (record { head = raw.head; types = types })
  is_fun raw types right = record { head = refl; types = right.are }

  function_of_argument : (raw : RawFun) (types : List Ty) (s : Signature) → HasArgumentCount E raw → AreRight E.program E.context.tparams raw.types types → signature_of E raw.head types ≡ Some s → IsFunctionOf E raw (record { head = raw.head; types = types }) s.takes s.params s.result
  function_of_argument raw types s count right stands = record { is = is_fun raw types right; written = right.written; function = own_function raw types s count right stands }

  -- the types of a function that is one of this type
  right_types : {raw : RawFun} {f : Fun} {takes : List FnType} {params : List Ty} {T : Ty} → IsFunctionOf E raw f takes params T → AreRight E.program E.context.tparams raw.types f.types
  right_types is = record { are = is.is.types; written = is.written }

  signature_is : (raw : RawFun) {f : Fun} {takes : List FnType} {params : List Ty} {T : Ty} → f.head ≡ raw.head → IsFunction E.program E.context f takes params T → signature_of E raw.head f.types ≡ Some (record { takes = takes; params = params; result = T })
  signature_is raw {f} e function = ap (λ (h : Head). signature_of E h f.types) (sym e) ∙ function_is E function

  fun_is : (raw : RawFun) (f : Fun) → f.head ≡ raw.head → f ≡ record { head = raw.head; types = f.types }
  fun_is raw f e = λ i. record { head = e i; types = f.types }

  -- what the rules ask of a function argument, from what is found
  argument_to : (raw : RawFun) (wanted : FnType) (types : List Ty) (own : Signature) → IsFunctionMet E wanted.params wanted.result → HasArgumentCount E raw → AreRight E.program E.context.tparams raw.types types → signature_of E raw.head types ≡ Some own → IsAlike own wanted → ((p : Prop) → HasProp wanted.props p → IsKnown E.program E.place E.context raw.head p) → IsRightFun E raw wanted (record { head = raw.head; types = types })
  argument_to raw wanted types own met count right stands alike known = record {
    is = is_fun raw types right;
    argument = record {
      function = rw (← alike.takes, ← alike.params, ← alike.result) (own_function raw types own count right stands);
      may_pass = count.0;
      types_met = all_met E.place types right.written;
      params_met = All-tail (IsMet E.place) wanted.result wanted.params met;
      result_met = All-head (IsMet E.place) wanted.result wanted.params met;
      properties = known;
    };
  }

  -- and what is found of one, from what the rules ask
  argument_met : (wanted : FnType) (f : Fun) → IsArgument E.program E.place E.context f wanted → IsFunctionMet E wanted.params wanted.result
  argument_met wanted f argument = All-cons (IsMet E.place) wanted.result wanted.params argument.result_met argument.params_met

  argument_count : (raw : RawFun) (wanted : FnType) (f : Fun) → IsRightFun E raw wanted f → HasArgumentCount E raw
  argument_count raw wanted f found = (
    rw (← found.is.head) found.argument.may_pass,
    rw (← found.is.head, function_counts E found.argument.function) (sym (same_length found.is.types)),
  )

  pub written_of : (types : List Ty) → AreTypes E.program E.context.tparams types → All (IsMet E.place) types → All (IsWritten E.program E.context.tparams) types
  written_of [] are met = All-nil (IsWritten E.program E.context.tparams)
  written_of (T ∷ types) (typing.more is are) met = All-cons (IsWritten E.program E.context.tparams) T types (record { is_type = is; small = small_of E.place placed T (All-head (IsMet E.place) T types met) }) (written_of types are (All-tail (IsMet E.place) T types met))

  argument_right : (raw : RawFun) (wanted : FnType) (f : Fun) → IsRightFun E raw wanted f → AreRight E.program E.context.tparams raw.types f.types
  argument_right raw wanted f found = record { are = found.is.types; written = written_of f.types (function_types E found.argument.function) found.argument.types_met }

  argument_known : (raw : RawFun) (wanted : FnType) (f : Fun) → IsRightFun E raw wanted f → (p : Prop) → HasProp wanted.props p → IsKnown E.program E.place E.context raw.head p
  argument_known raw wanted f found p wants = rw (← found.is.head) (found.argument.properties p wants)

  -- the signature of a function is one, so it is alike where the function has the wanted type
  alike_of : (raw : RawFun) (wanted : FnType) (types : List Ty) (own : Signature) → signature_of E raw.head types ≡ Some own → IsFunction E.program E.context (record { head = raw.head; types = types }) [] wanted.params wanted.result → IsAlike own wanted
  alike_of raw wanted types own stands function =
      let one : own ≡ record { takes = []; params = wanted.params; result = wanted.result } = one_some (sym stands ∙ function_is E function) in
      record { takes = ap (λ (s : Signature). s.takes) one; params = ap (λ (s : Signature). s.params) one; result = ap (λ (s : Signature). s.result) one }
    where
      one_some : {X : Type 0} {x y : X} → Some x ≡ Some y → x ≡ y
      one_some e = cc

  -- a function that is alike has the wanted type
  like_of : {raw : RawFun} {wanted : FnType} {f : Fun} {takes : List FnType} {params : List Ty} {T : Ty} → IsFunctionOf E raw f takes params T → IsAlike (record { takes = takes; params = params; result = T }) wanted → IsFunction E.program E.context f [] wanted.params wanted.result
  like_of is alike = rw (← alike.takes, ← alike.params, ← alike.result) is.function

  not_known : (raw : RawFun) (wanted : FnType) (b : Bool) → has_wanted E raw.head wanted.props ≡ b → ¬ ((p : Prop) → HasProp wanted.props p → IsKnown E.program E.place E.context raw.head p) → Lacking E raw.head wanted.props
  not_known raw wanted true e no_all = absurd (no_all ((decides_wanted E raw.head wanted.props).0 e))
  not_known raw wanted false e no_all = lacking E raw.head wanted.props e

  pub exact_argument : (raw : RawFun) (wanted : FnType) → Exact (argument_found E raw wanted) (IsRightFun E raw wanted) (BreaksArgument E raw wanted)
  unfolding argument_found
  exact_argument raw wanted = exact_as
      (exact_then (exact_needs _ Oversize raw.at (decides_function_met E wanted.params wanted.result)) (λ _ met.
      exact_then (exact_needs _ Arity raw.at (decides_argument_count E raw)) (λ _ count.
      exact_then (exact_types E.program E.context.tparams raw.types) (λ types right.
      exact_then (exact_there (signature_of E raw.head types) Arity raw.at) (λ own stands.
      exact_then (exact_needs _ Oversize raw.at (decides_function_met E own.params own.result)) (λ _ own_met.
      exact_then (exact_needs _ Mismatch raw.at (decides_alike own wanted)) (λ _ alike.
      exact_then (exact_needs _ LacksProperty raw.at (decides_wanted E raw.head wanted.props)) (λ _ known.
      exact_ok (record { head = raw.head; types = types })))))))))
      (λ f both.
      let rest = both.after.after in
      subst (IsRightFun E raw wanted) (sym rest.after.after.after.after.after) (argument_to raw wanted rest.x rest.after.x both.is both.after.is rest.is rest.after.is rest.after.after.after.is rest.after.after.after.after.is))
      (λ f found. record {
        x = tt;
        is = argument_met wanted f found.argument;
        after = record {
          x = tt;
          is = argument_count raw wanted f found;
          after = record {
            x = f.types;
            is = argument_right raw wanted f found;
            after = record {
              x = record { takes = []; params = wanted.params; result = wanted.result };
              is = signature_is raw found.is.head found.argument.function;
              after = record {
                x = tt;
                is = argument_met wanted f found.argument;
                after = record {
                  x = tt;
                  is = record { takes = refl; params = refl; result = refl };
                  after = record { x = tt; is = argument_known raw wanted f found; after = fun_is raw f found.is.head };
                };
              };
            };
          };
        };
      })
      (λ b h. elim h [
        | first over ↦ faults.wanted_size over.0 over.1
        | later _ met h2 ↦ elim h2 [
          | first wrong ↦ faults.count met wrong.0 wrong.1
          | later _ count h3 ↦ elim h3 [
            | first br ↦ faults.types met count br
            | later types right h4 ↦ elim h4 [
              | first nothing ↦ absurd (no_signature E raw.head (length types) types (takes_types raw types count right) nothing.0)
              | later own stands h5 ↦ elim h5 [
                | first over ↦ faults.own_size met count (function_of_argument raw types own count right stands) over.0 over.1
                | later _ own_met h6 ↦ elim h6 [
                  | first unlike ↦ faults.other met count (function_of_argument raw types own count right stands) own_met (λ function. unlike.0 (alike_of raw wanted types own stands function)) unlike.1
                  | later _ alike h7 ↦ elim h7 [
                    | first lacks ↦ let one = not_known raw wanted _ refl lacks.0 in faults.property {f = record { head = raw.head; types = types }} met count (rw (← alike.takes, ← alike.params, ← alike.result) (function_of_argument raw types own count right stands)) one.wants one.lacks lacks.1
                    | later _ known nothing ↦ absurd nothing
                  ]
                ]
              ]
            ]
          ]
        ]
      ])
      (λ b h. elim h [
        | faults.wanted_size over e ↦ first (over, e)
        | faults.count met wrong e ↦ later tt met (first (wrong, e))
        | faults.types met count br ↦ later tt met (later tt count (first br))
        | faults.own_size {f = f} {takes = takes} {params = params} {T = T} met count is over e ↦ later tt met (later tt count (later f.types (right_types is) (later (record { takes = takes; params = params; result = T }) (signature_is raw is.is.head is.function) (first (over, e)))))
        | faults.other {f = f} {takes = takes} {params = params} {T = T} met count is own_met unlike e ↦ later tt met (later tt count (later f.types (right_types is) (later (record { takes = takes; params = params; result = T }) (signature_is raw is.is.head is.function) (later tt own_met (first (λ alike. unlike (like_of is alike), e))))))
        | faults.property {f = f} {p = p} met count is wants lacks e ↦ later tt met (later tt count (later f.types (right_types is) (later (record { takes = []; params = wanted.params; result = wanted.result }) (signature_is raw is.is.head is.function) (later tt met (later tt (record { takes = refl; params = refl; result = refl }) (first (λ all. lacks (all p wants), e)))))))
      ])

  pub exact_arguments : (raws : List RawFun) (takes : List FnType) → length raws ≡ length takes → Exact (arguments_found E raws takes) (AllTwo (IsRightFun E) raws takes) (OneOfTwo (IsRightFun E) (BreaksArgument E) raws takes)
  unfolding arguments_found
  exact_arguments raws takes same = exact_each_two (argument_found E) (IsRightFun E) (BreaksArgument E) raws takes same (every_fun exact_argument raws)

  -- function arguments in the words of the rules
  pub right_funs : {raws : List RawFun} {takes : List FnType} {fs : List Fun} → AllTwo (IsRightFun E) raws takes fs → AreFuns raws fs
  right_funs exact.none = written.none
  right_funs (exact.more is are) = written.more is.is (right_funs are)

  pub right_arguments : {raws : List RawFun} {takes : List FnType} {fs : List Fun} → AllTwo (IsRightFun E) raws takes fs → AreArguments E.program E.place E.context fs takes
  right_arguments exact.none = typing.none
  right_arguments (exact.more is are) = typing.more is.argument (right_arguments are)

  pub all_right_funs : {raws : List RawFun} {takes : List FnType} {fs : List Fun} → AreFuns raws fs → AreArguments E.program E.place E.context fs takes → AllTwo (IsRightFun E) raws takes fs
  all_right_funs written.none typing.none = exact.none
  all_right_funs (written.more is are) (typing.more argument arguments) = exact.more (record { is = is; argument = argument }) (all_right_funs are arguments)

  pub are_right_arguments : {raws : List RawFun} {takes : List FnType} {fs : List Fun} → AllTwo (IsRightFun E) raws takes fs → AreRightArguments E raws takes
  are_right_arguments exact.none = faults.none
  are_right_arguments (exact.more {y = f} is are) = faults.more (record { f = f; is = is.is; argument = is.argument }) (are_right_arguments are)

  -- Arguments that are right, with the functions that they are.
  pub record Found (raws : List RawFun) (takes : List FnType) : Type 0 where
    pub fs : List Fun
    pub are : AllTwo (IsRightFun E) raws takes fs

  pub found_arguments : {raws : List RawFun} {takes : List FnType} → AreRightArguments E raws takes → Found raws takes
  found_arguments faults.none = record { fs = []; are = exact.none }
  found_arguments (faults.more is are) = let rest = found_arguments are in record { fs = is.f ∷ rest.fs; are = exact.more (record { is = is.is; argument = is.argument }) rest.are }

  pub broken_arguments : {raws : List RawFun} {takes : List FnType} {b : Broken} → OneOfTwo (IsRightFun E) (BreaksArgument E) raws takes b → BreaksArguments E raws takes b
  broken_arguments (exact.here br) = faults.here br
  broken_arguments (exact.behind {y = f} is br) = faults.later (record { f = f; is = is.is; argument = is.argument }) (broken_arguments br)

  pub arguments_broken : {raws : List RawFun} {takes : List FnType} {b : Broken} → BreaksArguments E raws takes b → OneOfTwo (IsRightFun E) (BreaksArgument E) raws takes b
  arguments_broken (faults.here br) = exact.here br
  arguments_broken (faults.later is br) = exact.behind {y = is.f} (record { is = is.is; argument = is.argument }) (arguments_broken br)
