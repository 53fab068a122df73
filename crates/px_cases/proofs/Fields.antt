-- The types of a constructor's fields behind those of the variables, one more at a time.
use Rattle.std.proofs.Common.{◌≡◌, ◌<◌, ◌+◌, ℕ, List, [], ◌∷◌, ◌++◌, length, take, map, get_or, Option, Some, sym, ap, ◌∙◌, append_assoc}
use Rattle.std.proofs.lemmas.List.{map_more, map_push}
use Rattle.px_terms.specs.declared.types.Ty.{Ty}
use Rattle.px_terms.specs.Types.{ty_instance, tys_instance}
use Rattle.px_terms.specs.Typing.{live}

live_more : (args fields : List Ty) (i : ℕ) (field : Ty) → i < length fields → field ≡ get_or fields i field → live (tys_instance args (take (i + 1) fields)) ≡ live (tys_instance args (take i fields)) ++ Some (ty_instance args field) ∷ []
live_more args fields i field within is =
    ap (λ (ts : List Ty). live ts) (map_more (ty_instance args) fields i field within ∙ ap (λ (T : Ty). tys_instance args (take i fields) ++ ty_instance args T ∷ []) (sym is))
    ∙ map_push (λ (T : Ty). Some T) (tys_instance args (take i fields)) (ty_instance args field)

-- one more type
pub field_pushed : (args types fields listed : List Ty) (i : ℕ) (field T : Ty) (before vars now : List (Option Ty)) → listed ≡ fields → types ≡ args → i < length listed → field ≡ get_or listed i field → T ≡ ty_instance types field → vars ≡ before ++ live (tys_instance args (take i fields)) → now ≡ vars ++ Some T ∷ [] → now ≡ before ++ live (tys_instance args (take (i + 1) fields))
field_pushed args types fields listed i field T before vars now all given within is made so_far pushed =
    let below : i < length fields = rw all at within in
    let at_i : field ≡ get_or fields i field = rw all at is in
    let is_T : T ≡ ty_instance args field = rw given at made in
    pushed
    ∙ (ap (λ (vs : List (Option Ty)). vs ++ Some T ∷ []) so_far
    ∙ (append_assoc before (live (tys_instance args (take i fields))) (Some T ∷ [])
    ∙ ap (λ (vs : List (Option Ty)). before ++ vs) (ap (λ (U : Ty). live (tys_instance args (take i fields)) ++ Some U ∷ []) is_T ∙ sym (live_more args fields i field below at_i))))
