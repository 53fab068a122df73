-- What replicas and messages hold, where versions are kept once and named by number.
use Rattle.std.proofs.Common.{◌≡◌, ◌≢◌, ℕ, zero, suc, ◌<◌, false, List, [], ◌∷◌, ◌++◌, length, map, replicate, get_or, Some, slice_get, slice_set, refl, sym, ap, ◌∙◌, subst, arith}
use Rattle.std.proofs.lemmas.List.{map-set, map-append, get_or-set_same, get_or-set_other, get_or_append_left}
use Rattle.std.proofs.Math.Seq.{get_or-append_seam}
use Rattle.px_replicas.specs.declared.version.Version.{Version}
use Rattle.px_replicas.specs.declared.versions.Kept.{Kept}
use Rattle.px_replicas.specs.Holdings.{Holdings, Sends}
use Rattle.px_replicas.specs.Keeping.{nothing, kept_at, version_at, holdings_of, AreNamed, IsAlone, IsNoted}

-- functions that agree on a list's items
map_alike : {B : Type 0} (f g : ℕ → B) (xs : List ℕ) → ((i : ℕ) → i < length xs → g (get_or xs i 0) ≡ f (get_or xs i 0)) → map g xs ≡ map f xs
map_alike f g [] same = refl
map_alike f g (x ∷ xs) same =
    let first : g x ≡ f x = same 0 (omega arith) in
    let others : map g xs ≡ map f xs = map_alike f g xs (λ i within. same (suc i) (omega arith)) in
    λ k. first k ∷ others k

-- functions that agree on all items but one
map_changed : {B : Type 0} (f g : ℕ → B) (xs : List ℕ) (r : ℕ) (y : B) → r < length xs → g (get_or xs r 0) ≡ y →
    ((q : ℕ) → q < length xs → q ≢ r → g (get_or xs q 0) ≡ f (get_or xs q 0)) → map g xs ≡ slice_set (map f xs) r y
map_changed f g [] r y within at same = absurd (omega arith)
map_changed f g (x ∷ xs) zero y within at same =
    let others : map g xs ≡ map f xs = map_alike f g xs (λ i inside. same (suc i) (omega arith) (λ e. absurd (omega arith))) in
    λ k. at k ∷ others k
map_changed f g (x ∷ xs) (suc r) y within at same =
    let first : g x ≡ f x = same 0 (omega arith) (λ e. absurd (omega arith)) in
    let others : map g xs ≡ slice_set (map f xs) r y =
    map_changed f g xs r y (omega arith) at (λ q inside other. same (suc q) (omega arith) (λ e. other (omega arith))) in
    λ k. first k ∷ others k

map_replicate : {B : Type 0} (f : ℕ → B) (n x : ℕ) (y : B) → f x ≡ y → map f (replicate n x) ≡ replicate n y
map_replicate f zero x y e = refl
map_replicate f (suc n) x y e = let others : map f (replicate n x) ≡ replicate n y = map_replicate f n x y e in λ k. e k ∷ others k

-- so many replicas that name the first version
pub all_first : (start kept : List Kept) (version : Version) (replicas : List ℕ) (counted count : ℕ) → start ≡ [] → kept ≡ start ++ record { version = version; sent = false } ∷ [] →
    replicas ≡ replicate counted 0 → counted ≡ count → map (version_at kept) replicas ≡ replicate count version
all_first start kept version replicas counted count none is named same =
    let one : kept ≡ record { version = version; sent = false } ∷ [] = is ∙ ap (λ (xs : List Kept). xs ++ record { version = version; sent = false } ∷ []) none in
    let at : version_at kept 0 ≡ version = ap (λ (xs : List Kept). version_at xs 0) one in
    ap (map (version_at kept)) (named ∙ ap (λ (n : ℕ). replicate n 0) same) ∙ map_replicate (version_at kept) count 0 version at

item_at : (f : ℕ → Version) (xs : List ℕ) (r : ℕ) → r < length xs → slice_get (map f xs) r ≡ Some (f (get_or xs r 0))
item_at f [] r within = absurd (omega arith)
item_at f (x ∷ xs) zero within = refl
item_at f (x ∷ xs) (suc r) within = item_at f xs r (omega arith)

long : (f : ℕ → Version) (xs : List ℕ) → length (map f xs) ≡ length xs
long f [] = refl
long f (x ∷ xs) = ap suc (long f xs)

-- what is held, where this many replicas are there
within_names : (kept : List Kept) (replicas messages : List ℕ) (old : Holdings) (r : ℕ) → holdings_of kept replicas messages ≡ old → r < length old.replicas → r < length replicas
within_names kept replicas messages old r is within =
    let e : length (map (version_at kept) replicas) ≡ length old.replicas = ap (λ (h : Holdings). length h.replicas) is in
    omega (arith, e, long (version_at kept) replicas)

-- a message more names the replica's version
pub sends : (old : Holdings) (r n : ℕ) (kept next : List Kept) (replicas messages all : List ℕ) → holdings_of kept replicas messages ≡ old → r < length old.replicas →
    n ≡ get_or replicas r 0 → all ≡ messages ++ n ∷ [] → IsNoted n kept next → Sends old r (holdings_of next replicas all)
sends old r n kept next replicas messages all is within at more noted =
    let inside : r < length replicas = within_names kept replicas messages old r is within in
    let same : (xs : List ℕ) → map (version_at next) xs ≡ map (version_at kept) xs = λ xs. map_alike (version_at kept) (version_at next) xs (λ i _. noted.versions (get_or xs i 0)) in
    let sent : map (version_at next) all ≡ old.messages ++ version_at kept n ∷ [] =
    same all ∙ ap (map (version_at kept)) more ∙ map-append (version_at kept) messages (n ∷ []) ∙ ap (λ (h : Holdings). h.messages ++ version_at kept n ∷ []) is in
    let others : map (version_at next) replicas ≡ old.replicas = same replicas ∙ ap (λ (h : Holdings). h.replicas) is in
    record {
      version = version_at kept n;
      is_version =
          ap (λ (h : Holdings). slice_get h.replicas r) (sym is) ∙ item_at (version_at kept) replicas r inside ∙ ap (λ (m : ℕ). Some (version_at kept m)) (sym at);
      added = λ k. record { replicas = others k; messages = sent k };
    }

module _ (old : Holdings) (r : ℕ) (version : Version) (kept next : List Kept) (replicas messages : List ℕ) (is : holdings_of kept replicas messages ≡ old)
    (within : r < length old.replicas) (named : AreNamed kept replicas messages) where
  inside : r < length replicas
  inside = within_names kept replicas messages old r is within

  -- a version that the replica alone names makes way
  pub replaced : (n : ℕ) → n ≡ get_or replicas r 0 → next ≡ slice_set kept n (record { version = version; sent = false }) → IsAlone kept replicas r →
      holdings_of next replicas messages ≡ record { replicas = slice_set old.replicas r version; messages = old.messages }
  replaced n at put alone =
      let there : n < length kept = subst (λ (m : ℕ). m < length kept) (sym at) (named.replicas_kept.each r inside) in
      let here : version_at next n ≡ version =
      ap (λ (ks : List Kept). version_at ks n) put ∙ ap (λ (k : Kept). k.version) (get_or-set_same kept n (record { version = version; sent = false }) nothing there) in
      let other : (m : ℕ) → m ≢ n → version_at next m ≡ version_at kept m =
      λ m no. ap (λ (ks : List Kept). version_at ks m) put ∙ ap (λ (k : Kept). k.version) (get_or-set_other kept n m (record { version = version; sent = false }) nothing no) in
      let mine : map (version_at next) replicas ≡ slice_set (map (version_at kept) replicas) r version =
      map_changed (version_at kept) (version_at next) replicas r version inside (ap (version_at next) (sym at) ∙ here)
      (λ q in_list no. other (get_or replicas q 0) (λ e. alone.no_other q in_list no (e ∙ at))) in
      let sent : map (version_at next) messages ≡ map (version_at kept) messages =
      map_alike (version_at kept) (version_at next) messages
      (λ k in_list. other (get_or messages k 0) (λ e. named.noted k in_list (ap (λ (m : ℕ). (kept_at kept m).sent) (e ∙ at) ∙ alone.unsent))) in
      let first : map (version_at next) replicas ≡ slice_set old.replicas r version = mine ∙ ap (λ (h : Holdings). slice_set h.replicas r version) is in
      let second : map (version_at next) messages ≡ old.messages = sent ∙ ap (λ (h : Holdings). h.messages) is in
      λ k. record { replicas = first k; messages = second k }

  -- else the new one is kept beside it
  pub added : (n : ℕ) (others : List ℕ) → n ≡ length kept → next ≡ kept ++ record { version = version; sent = false } ∷ [] → others ≡ slice_set replicas r n →
      holdings_of next others messages ≡ record { replicas = slice_set old.replicas r version; messages = old.messages }
  added n others last put at =
      let here : version_at next n ≡ version =
      ap (λ (m : ℕ). version_at next m) last ∙ ap (λ (ks : List Kept). version_at ks (length kept)) put
      ∙ ap (λ (k : Kept). k.version) (get_or-append_seam kept (record { version = version; sent = false }) [] nothing) in
      let same : (m : ℕ) → m < length kept → version_at next m ≡ version_at kept m =
      λ m below. ap (λ (ks : List Kept). version_at ks m) put ∙ ap (λ (k : Kept). k.version) (get_or_append_left kept (record { version = version; sent = false } ∷ []) nothing m below) in
      let mine : map (version_at next) replicas ≡ map (version_at kept) replicas =
      map_alike (version_at kept) (version_at next) replicas (λ i in_list. same (get_or replicas i 0) (named.replicas_kept.each i in_list)) in
      let sent : map (version_at next) messages ≡ map (version_at kept) messages =
      map_alike (version_at kept) (version_at next) messages (λ i in_list. same (get_or messages i 0) (named.messages_kept.each i in_list)) in
      let first : map (version_at next) others ≡ slice_set old.replicas r version =
      ap (map (version_at next)) at ∙ map-set (version_at next) replicas r n ∙ ap (λ (v : Version). slice_set (map (version_at next) replicas) r v) here
      ∙ ap (λ (vs : List Version). slice_set vs r version) (mine ∙ ap (λ (h : Holdings). h.replicas) is) in
      let second : map (version_at next) messages ≡ old.messages = sent ∙ ap (λ (h : Holdings). h.messages) is in
      λ k. record { replicas = first k; messages = second k }
