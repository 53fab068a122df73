-- Lists are read as they are written: an item, and then each further one after a separator.
use Rattle.std.proofs.Common.{◌≡◌, ℕ, zero, suc, ◌<◌, ◌≤◌, ◌⊎◌, Bool, true, false, cond, List, [], ◌∷◌, ◌++◌, length, map, Option, Some, None, refl, sym, ap, ◌∙◌, subst, inl, inr, append_assoc, arith, length-append, ◌==◌, ◌||◌, ◌^◌}
use Rattle.std.specs.Char.{is_ascii_digit}
use Rattle.std.specs.Fmt.{decimal}
use Rattle.std.proofs.lemmas.Bool.Decides.{nat_tests}
use Rattle.px_derive.proofs.NumberFacts.{number_begins}
use Rattle.px_base.specs.NameForms.{is_name_part}
use Rattle.std.specs.List.{AllByRecursion, join_with_byte, flat_map}
use Rattle.std.proofs.lemmas.List.{append-nil}
use Rattle.px_derive.specs.Spelling.{between}
use Rattle.px_derive.specs.Readers.{Reader, begins, bind, lift, pure, past, skip, after, more_of, more_at, gather, push, list_at, opened_at, closed_at}
use Rattle.px_derive.proofs.Fronts.{past_whole}
use Rattle.px_derive.proofs.Found.{Equal, bind_found, bind_goes, Lifted, lift_found, lift_some, pure_found, There, after_found, after_there, after_absent, skip_found, skip_whole, and_then_same}

-- What was read off the front: it is as it should be, and stood there.
pub record Read {T : Type 0} (Is : T → Type 0) (written : T → List ℕ) (text : List ℕ) (x : T) (rest : List ℕ) : Type 0 where
  pub is : Is x
  pub whole : text ≡ written x ++ rest

-- what the reader reads is as it should be
abbrev pub Sound : {T : Type 0} → (T → Type 0) → (T → List ℕ) → Reader T → Type 0
Sound {T} Is written p = (text rest : List ℕ) (x : T) → p text ≡ Some (x, rest) → Read Is written text x rest

-- a byte with which a number, a type, a function or a term begins
abbrev pub begins_item : ℕ → Bool
begins_item c = is_name_part c || (c == 36 || (c == 37 || c == 39))

-- The text begins so.
pub record Starts (text : List ℕ) : Type 0 where
  pub first : ℕ
  pub others : List ℕ
  pub whole : text ≡ first ∷ others
  pub begins_so : begins_item first ≡ true

-- The value is read where its text stands, and what follows meets `Ends`.
pub record IsRead {T : Type 0} (Ends : List ℕ → Type 0) (p : List ℕ → Option (T × List ℕ)) (shape : List ℕ) (x : T) : Type 0 where
  pub reads : (rest : List ℕ) → Ends rest → p (shape ++ rest) ≡ Some (x, rest)
  pub starts : Starts shape

-- no more bytes are left than there were
abbrev pub Stays : {T : Type 0} → Reader T → Type 0
Stays {T} p = (text rest : List ℕ) (x : T) → p text ≡ Some (x, rest) → length rest ≤ length text

pub sound_stays : {T : Type 0} (Is : T → Type 0) (written : T → List ℕ) (p : List ℕ → Option (T × List ℕ)) → Sound Is written p → Stays p
sound_stays Is written p sound text rest x e =
    let r = sound text rest x e in
    rw r.whole (simp length-append (omega arith))

-- what of a list stands behind its first item
abbrev pub followed : {T : Type 0} → ℕ → (T → List ℕ) → List T → List ℕ
followed {T} separator written xs = flat_map (λ (x : T). separator ∷ written x) xs

pub joined : {T : Type 0} (separator : ℕ) (written : T → List ℕ) (x : T) (xs : List T) → join_with_byte separator (map written (x ∷ xs)) ≡ written x ++ followed separator written xs
joined separator written x [] = sym (append-nil (written x))
joined separator written x (y ∷ ys) = ap (λ z. written x ++ (separator ∷ z)) (joined separator written y ys)

passed_rest : (separator c : ℕ) (cs rest : List ℕ) (b : Bool) → cond b (Some cs) None ≡ Some rest → cs ≡ rest
passed_rest separator c cs rest true e = cc
passed_rest separator c cs rest false e = absurd cc

-- what gathers items: what it has gathered is a list, and it takes each item that comes next in what it is to be
pub record Gathers {S T : Type 0} (add : S → T → Option S) (items_of : S → List T) : Type 0 where
  pub adds : (all now : S) (x : T) → add all x ≡ Some now → items_of now ≡ items_of all ++ x ∷ []
  pub goes_on : (all final : S) (x : T) (xs : List T) → items_of final ≡ items_of all ++ x ∷ xs → (now : S) × (add all x ≡ Some now)
  pub one : (all final : S) → items_of all ≡ items_of final → all ≡ final

pub push_gathers : {T : Type 0} → Gathers (push {T = T}) (λ (xs : List T). xs)
push_gathers {T} = record {
  adds = λ all now x e. let q : all ++ x ∷ [] ≡ now = cc in sym q;
  goes_on = λ all final x xs e. (all ++ x ∷ [], refl);
  one = λ all final e. e;
}

module _ {S T : Type 0} (separator : ℕ) (item : List ℕ → Option (T × List ℕ)) (add : S → T → Option S) where
  -- the rest of the list, after a separator
  abbrev behind : ℕ → S → Reader S
  behind most all = bind item (λ (x : T). bind (lift (add all x)) (λ (now : S). more_of separator item add most now))

  none_more : (n : ℕ) (all : S) → more_of separator item add n all [] ≡ Some (all, [])
  unfolding more_of after pure
  none_more zero all = refl
  none_more (suc n) all = refl

  more_here : (n : ℕ) (all : S) (text rest : List ℕ) → past (separator ∷ []) text ≡ Some rest → more_of separator item add (suc n) all text ≡ behind n all rest
  unfolding more_of after
  more_here n all text rest e = rw e refl

  more_not : (n : ℕ) (all : S) (text : List ℕ) → past (separator ∷ []) text ≡ None → more_of separator item add n all text ≡ Some (all, text)
  unfolding more_of after pure
  more_not zero all text e = refl
  more_not (suc n) all text e = rw e refl

module _ {S T : Type 0} (separator : ℕ) (item : List ℕ → Option (T × List ℕ)) (add : S → T → Option S) (stays : Stays item) where
  same_behind : (n m : ℕ) (all : S) (cs : List ℕ) → ((now : S) (rest : List ℕ) → length rest ≤ length cs → more_of separator item add n now rest ≡ more_of separator item add m now rest) → behind separator item add n all cs ≡ behind separator item add m all cs
  unfolding bind
  same_behind n m all cs same =
      and_then_same (item cs) _ _ (λ x e.
      and_then_same (lift (add all x.0) x.1) _ _ (λ now f.
      let l : Lifted (add all x.0) now.0 x.1 now.1 = lift_found (add all x.0) now.0 x.1 now.1 f in
      same now.0 now.1 (let less : length x.1 ≤ length cs = stays cs x.1 x.0 e in rw (← l.rest_is) less)))

  enough : (n m : ℕ) (all : S) (text : List ℕ) → length text ≤ n → length text ≤ m → more_of separator item add n all text ≡ more_of separator item add m all text
  enough n m all [] a b = none_more separator item add n all ∙ sym (none_more separator item add m all)
  enough zero m all (c ∷ cs) a b = absurd (omega arith)
  enough (suc n) zero all (c ∷ cs) a b = absurd (omega arith)
  enough (suc n) (suc m) all (c ∷ cs) a b = passes (past (separator ∷ []) (c ∷ cs)) refl (λ now rest less. enough n m now rest (omega arith) (omega arith))
    where
      passes : (o : Option (List ℕ)) → past (separator ∷ []) (c ∷ cs) ≡ o → ((now : S) (rest : List ℕ) → length rest ≤ length cs → more_of separator item add n now rest ≡ more_of separator item add m now rest) → more_of separator item add (suc n) all (c ∷ cs) ≡ more_of separator item add (suc m) all (c ∷ cs)
      passes (Some rest) e deeper =
          let is : cs ≡ rest = passed_rest separator c cs rest (separator == c) e in
          more_here separator item add n all (c ∷ cs) rest e ∙ same_behind n m all rest (λ now left less. deeper now left (subst (λ z. length left ≤ length z) (sym is) less)) ∙ sym (more_here separator item add m all (c ∷ cs) rest e)
      passes None e deeper = more_not separator item add (suc n) all (c ∷ cs) e ∙ sym (more_not separator item add (suc m) all (c ∷ cs) e)

  pub more_stops : (all : S) (text : List ℕ) → past (separator ∷ []) text ≡ None → more_at separator item add all text ≡ Some (all, text)
  unfolding more_at
  more_stops all text e = more_not separator item add (length text) all text e

  more_begins : (all : S) (text rest : List ℕ) → past (separator ∷ []) text ≡ Some rest → (n : ℕ) × (length rest ≤ n) × (more_at separator item add all text ≡ behind separator item add n all rest)
  unfolding more_at
  more_begins all [] rest e = absurd cc
  more_begins all (c ∷ cs) rest e =
      let is : cs ≡ rest = passed_rest separator c cs rest (separator == c) e in
      (length cs, rw (← is) (omega arith), more_here separator item add (length cs) all (c ∷ cs) rest e)

  pub more_goes : (all now : S) (text rest left : List ℕ) (x : T) → past (separator ∷ []) text ≡ Some rest → item rest ≡ Some (x, left) → add all x ≡ Some now → more_at separator item add all text ≡ more_at separator item add now left
  unfolding more_at
  more_goes all now text rest left x e f g =
      let (n, less, is) = more_begins all text rest e in
      let shorter : length left ≤ length rest = stays rest left x f in
      is ∙ bind_goes item _ rest x left f ∙ bind_goes (lift (add all x)) _ left now left (lift_some (add all x) now left g) ∙ enough n (length left) now left (omega arith) (omega arith)

  pub more_breaks : (all : S) (text rest : List ℕ) → past (separator ∷ []) text ≡ Some rest → item rest ≡ None → more_at separator item add all text ≡ None
  unfolding bind
  more_breaks all text rest e f = let (n, less, is) = more_begins all text rest e in is ∙ rw f refl

  pub more_refuses : (all : S) (text rest left : List ℕ) (x : T) → past (separator ∷ []) text ≡ Some rest → item rest ≡ Some (x, left) → add all x ≡ None → more_at separator item add all text ≡ None
  unfolding bind lift
  more_refuses all text rest left x e f g = let (n, less, is) = more_begins all text rest e in is ∙ rw (f, g) refl

  pub more_shorter : (text rest left : List ℕ) (x : T) → past (separator ∷ []) text ≡ Some rest → item rest ≡ Some (x, left) → length left < length text
  more_shorter [] rest left x e f = absurd cc
  more_shorter (c ∷ cs) rest left x e f =
      let is : cs ≡ rest = passed_rest separator c cs rest (separator == c) e in
      let shorter : length left ≤ length rest = stays rest left x f in
      rw is (omega arith)

module _ {S T : Type 0} (separator : ℕ) (item : List ℕ → Option (T × List ℕ)) (add : S → T → Option S) (items_of : S → List T) (gathers : Gathers add items_of) (written : T → List ℕ) where
  -- Further items were read.
  record More (Is : T → Type 0) (all final : S) (text rest : List ℕ) : Type 0 where
    xs : List T
    gathered : items_of final ≡ items_of all ++ xs
    each : AllByRecursion Is xs
    whole : text ≡ followed separator written xs ++ rest

  more_sound : (Is : T → Type 0) → Sound Is written item → (n : ℕ) (all final : S) (text rest : List ℕ) → more_of separator item add n all text ≡ Some (final, rest) → More Is all final text rest
  unfolding more_of
  more_sound Is sound zero all final text rest e =
      let q : Equal all final text rest = pure_found all final text rest e in
      record { xs = []; gathered = ap items_of (sym q.value) ∙ sym (append-nil (items_of all)); each = tt; whole = q.rest }
  more_sound Is sound (suc n) all final text rest e = by (after_found (separator ∷ []) _ _ text final rest e) (more_sound Is sound n)
    where
      by : There (separator ∷ []) (bind item (λ (x : T). bind (lift (add all x)) (λ (now : S). more_of separator item add n now))) text final rest ⊎ (pure all text ≡ Some (final, rest)) →
          ((all final : S) (text rest : List ℕ) → more_of separator item add n all text ≡ Some (final, rest) → More Is all final text rest) → More Is all final text rest
      by (inl there) deeper =
          let b = bind_found item _ there.behind final rest there.found in
          let c = bind_found (lift (add all b.value)) _ b.middle final rest b.second in
          let l : Lifted (add all b.value) c.value b.middle c.middle = lift_found (add all b.value) c.value b.middle c.middle c.first in
          let r : Read Is written there.behind b.value b.middle = sound there.behind b.middle b.value b.first in
          let d : More Is c.value final c.middle rest = deeper c.value final c.middle rest c.second in
          record {
            xs = b.value ∷ d.xs;
            gathered = d.gathered ∙ ap (λ zs. zs ++ d.xs) (gathers.adds all c.value b.value l.some) ∙ append_assoc (items_of all) (b.value ∷ []) d.xs;
            each = (r.is, d.each);
            whole =
                there.whole ∙ ap (λ z. separator ∷ z) (r.whole ∙ ap (λ z. written b.value ++ z) (l.rest_is ∙ d.whole) ∙ sym (append_assoc (written b.value) (followed separator written d.xs) rest));
          }
      by (inr e) deeper =
          let q : Equal all final text rest = pure_found all final text rest e in
          record { xs = []; gathered = ap items_of (sym q.value) ∙ sym (append-nil (items_of all)); each = tt; whole = q.rest }

  -- A list was read: an item or more.
  pub record Gathered (Is : T → Type 0) (all final : S) (text rest : List ℕ) : Type 0 where
    pub first : T
    pub others : List T
    pub gathered : items_of final ≡ items_of all ++ first ∷ others
    pub each : AllByRecursion Is (first ∷ others)
    pub whole : text ≡ join_with_byte separator (map written (first ∷ others)) ++ rest

  pub gather_sound : (Is : T → Type 0) → Sound Is written item → (all final : S) (text rest : List ℕ) → gather separator item add all text ≡ Some (final, rest) → Gathered Is all final text rest
  unfolding gather more_at
  gather_sound Is sound all final text rest e =
      let b = bind_found item _ text final rest e in
      let c = bind_found (lift (add all b.value)) _ b.middle final rest b.second in
      let l : Lifted (add all b.value) c.value b.middle c.middle = lift_found (add all b.value) c.value b.middle c.middle c.first in
      let r : Read Is written text b.value b.middle = sound text b.middle b.value b.first in
      let d : More Is c.value final c.middle rest = more_sound Is sound (length c.middle) c.value final c.middle rest c.second in
      record {
        first = b.value;
        others = d.xs;
        gathered = d.gathered ∙ ap (λ zs. zs ++ d.xs) (gathers.adds all c.value b.value l.some) ∙ append_assoc (items_of all) (b.value ∷ []) d.xs;
        each = (r.is, d.each);
        whole =
            r.whole ∙ ap (λ z. written b.value ++ z) (l.rest_is ∙ d.whole) ∙ sym (append_assoc (written b.value) (followed separator written d.xs) rest)
            ∙ ap (λ z. z ++ rest) (sym (joined separator written b.value d.xs));
      }

  module _ (Ends : List ℕ → Type 0) (ends_here : (rest : List ℕ) → Ends (separator ∷ rest)) where
    followed_ends : (xs : List T) (rest : List ℕ) → Ends rest → Ends (followed separator written xs ++ rest)
    followed_ends [] rest ends = ends
    followed_ends (x ∷ xs) rest ends = ends_here ((written x ++ followed separator written xs) ++ rest)

    more_complete : (n : ℕ) (all final : S) (xs : List T) (rest : List ℕ) → AllByRecursion (λ (x : T). IsRead Ends item (written x) x) xs → items_of final ≡ items_of all ++ xs → past (separator ∷ []) rest ≡ None → Ends rest → length xs ≤ n →
        more_of separator item add n all (followed separator written xs ++ rest) ≡ Some (final, rest)
    more_complete n all final [] rest each whole stops ends few =
        let same : all ≡ final = gathers.one all final (sym (append-nil (items_of all)) ∙ sym whole) in
        more_not separator item add n all rest stops ∙ ap (λ (z : S). Some (z, rest)) same
    more_complete zero all final (x ∷ xs) rest each whole stops ends few = absurd (omega arith)
    more_complete (suc n) all final (x ∷ xs) rest each whole stops ends few =
        let (now, g) = gathers.goes_on all final x xs whole in
        let left : List ℕ = followed separator written xs ++ rest in
        let here : item ((written x ++ followed separator written xs) ++ rest) ≡ Some (x, left) = ap item (append_assoc (written x) (followed separator written xs) rest) ∙ each.0.reads left (followed_ends xs rest ends) in
        let later : items_of final ≡ items_of now ++ xs = whole ∙ sym (append_assoc (items_of all) (x ∷ []) xs) ∙ ap (λ zs. zs ++ xs) (sym (gathers.adds all now x g)) in
        more_here separator item add n all (followed separator written (x ∷ xs) ++ rest) ((written x ++ followed separator written xs) ++ rest) (past_whole (separator ∷ []) ((written x ++ followed separator written xs) ++ rest))
        ∙ bind_goes item _ ((written x ++ followed separator written xs) ++ rest) x left here
        ∙ bind_goes (lift (add all x)) _ left now left (lift_some (add all x) now left g)
        ∙ more_complete n now final xs rest each.1 later stops ends (omega arith)

    length_followed : (xs : List T) → length xs ≤ length (followed separator written xs)
    length_followed [] = omega arith
    length_followed (x ∷ xs) = let more : length xs ≤ length (followed separator written xs) = length_followed xs in simp length-append (omega arith)

    -- a list of an item or more is read where its text stands
    pub gather_complete : (all final : S) (first : T) (others : List T) (rest : List ℕ) → AllByRecursion (λ (x : T). IsRead Ends item (written x) x) (first ∷ others) → items_of final ≡ items_of all ++ first ∷ others → past (separator ∷ []) rest ≡ None → Ends rest →
        gather separator item add all (join_with_byte separator (map written (first ∷ others)) ++ rest) ≡ Some (final, rest)
    unfolding gather more_at
    gather_complete all final first others rest each whole stops ends =
        let (now, g) = gathers.goes_on all final first others whole in
        let left : List ℕ = followed separator written others ++ rest in
        let text : join_with_byte separator (map written (first ∷ others)) ++ rest ≡ written first ++ left = ap (λ z. z ++ rest) (joined separator written first others) ∙ append_assoc (written first) (followed separator written others) rest in
        let later : items_of final ≡ items_of now ++ others = whole ∙ sym (append_assoc (items_of all) (first ∷ []) others) ∙ ap (λ zs. zs ++ others) (sym (gathers.adds all now first g)) in
        let few : length others ≤ length left = rw (length-append (followed separator written others) rest) (let more : length others ≤ length (followed separator written others) = length_followed others in omega arith) in
        ap (gather separator item add all) text
        ∙ bind_goes item _ (written first ++ left) first left (each.0.reads left (followed_ends others rest ends))
        ∙ bind_goes (lift (add all first)) _ left now left (lift_some (add all first) now left g)
        ∙ more_complete (length left) now final others rest each.1 later stops ends few

-- A text that begins an item does not begin with a mark.
pub starts_not : (mark : ℕ) → ((c : ℕ) → begins_item c ≡ true → (mark == c) ≡ false) → (text rest : List ℕ) → Starts text → past (mark ∷ []) (text ++ rest) ≡ None
starts_not mark differs text rest starts = rw (starts.whole, differs starts.first starts.begins_so) refl

pub starts_more : (text more : List ℕ) → Starts text → Starts (text ++ more)
starts_more text more starts = record { first = starts.first; others = starts.others ++ more; whole = ap (λ z. z ++ more) starts.whole; begins_so = starts.begins_so }

-- A list between two marks was read, or nothing.
pub record Opened {T : Type 0} (Is : T → Type 0) (written : T → List ℕ) (opening closing : ℕ) (text : List ℕ) (xs : List T) (rest : List ℕ) : Type 0 where
  pub each : AllByRecursion Is xs
  pub whole : text ≡ between (opening ∷ []) (closing ∷ []) (map written xs) ++ rest

pub opened_sound : {T : Type 0} (Is : T → Type 0) (written : T → List ℕ) (item : List ℕ → Option (T × List ℕ)) → Sound Is written item → (opening closing : ℕ) (text rest : List ℕ) (xs : List T) → opened_at (opening ∷ []) (list_at 44 item) (closing ∷ []) text ≡ Some (xs, rest) → Opened Is written opening closing text xs rest
unfolding opened_at list_at
opened_sound {T} Is written item sound opening closing text rest xs e = by (after_found (opening ∷ []) _ _ text xs rest e)
  where
    by : There (opening ∷ []) (bind (gather 44 item push []) (λ (ys : List T). bind (skip (closing ∷ [])) (λ (u : Unit {0}). pure ys))) text xs rest ⊎ (pure [] text ≡ Some (xs, rest)) → Opened Is written opening closing text xs rest
    by (inl there) =
        let b = bind_found (gather 44 item push []) _ there.behind xs rest there.found in
        let c = bind_found (skip (closing ∷ [])) _ b.middle xs rest b.second in
        let q : Equal b.value xs c.middle rest = pure_found b.value xs c.middle rest c.second in
        let closes : b.middle ≡ closing ∷ c.middle = skip_found (closing ∷ []) b.middle c.middle c.value c.first in
        let g = gather_sound 44 item push (λ (ys : List T). ys) push_gathers written Is sound [] b.value there.behind b.middle b.first in
        let list : xs ≡ g.first ∷ g.others = sym q.value ∙ g.gathered in
        record {
          each = subst (AllByRecursion Is) (sym list) g.each;
          whole =
              there.whole ∙ ap (λ z. opening ∷ z) (g.whole ∙ ap (λ z. join_with_byte 44 (map written (g.first ∷ g.others)) ++ z) (closes ∙ ap (λ z. closing ∷ z) q.rest) ∙ sym (append_assoc (join_with_byte 44 (map written (g.first ∷ g.others))) (closing ∷ []) rest))
              ∙ ap (λ ys. between (opening ∷ []) (closing ∷ []) (map written ys) ++ rest) (sym list);
        }
    by (inr none) =
        let q : Equal [] xs text rest = pure_found [] xs text rest none in
        record { each = subst (AllByRecursion Is) q.value tt; whole = q.rest ∙ ap (λ ys. between (opening ∷ []) (closing ∷ []) (map written ys) ++ rest) q.value }

pub opened_complete : {T : Type 0} (written : T → List ℕ) (item : List ℕ → Option (T × List ℕ)) (Ends : List ℕ → Type 0) → ((rest : List ℕ) → Ends (44 ∷ rest)) → (opening closing : ℕ) → ((rest : List ℕ) → past (44 ∷ []) (closing ∷ rest) ≡ None) → ((rest : List ℕ) → Ends (closing ∷ rest)) →
    (xs : List T) (rest : List ℕ) → AllByRecursion (λ (x : T). IsRead Ends item (written x) x) xs → past (opening ∷ []) rest ≡ None → opened_at (opening ∷ []) (list_at 44 item) (closing ∷ []) (between (opening ∷ []) (closing ∷ []) (map written xs) ++ rest) ≡ Some (xs, rest)
unfolding opened_at list_at pure
opened_complete written item Ends comma opening closing stops ends [] rest each absent = after_absent (opening ∷ []) _ _ rest absent
opened_complete {T} written item Ends comma opening closing stops ends (x ∷ xs) rest each absent =
    let list : List ℕ = join_with_byte 44 (map written (x ∷ xs)) in
    let inner : gather 44 item push [] (list ++ (closing ∷ rest)) ≡ Some (x ∷ xs, closing ∷ rest) = gather_complete 44 item push (λ (ys : List T). ys) push_gathers written Ends comma [] (x ∷ xs) x xs (closing ∷ rest) each refl (stops rest) (ends rest) in
    after_there (opening ∷ []) _ _ ((list ++ closing ∷ []) ++ rest)
    ∙ bind_goes (gather 44 item push []) _ ((list ++ closing ∷ []) ++ rest) (x ∷ xs) (closing ∷ rest) (ap (gather 44 item push []) (append_assoc list (closing ∷ []) rest) ∙ inner)
    ∙ bind_goes (skip (closing ∷ [])) _ (closing ∷ rest) tt rest (skip_whole (closing ∷ []) rest)

-- A list up to a closing mark was read, or none.
pub record Closed {S T : Type 0} (items_of : S → List T) (Is : T → Type 0) (written : T → List ℕ) (closing : ℕ) (text : List ℕ) (final : S) (rest : List ℕ) : Type 0 where
  pub each : AllByRecursion Is (items_of final)
  pub whole : text ≡ join_with_byte 44 (map written (items_of final)) ++ closing ∷ rest

module _ {S T : Type 0} (item : List ℕ → Option (T × List ℕ)) (add : S → T → Option S) (items_of : S → List T) (gathers : Gathers add items_of) (written : T → List ℕ) (empty : S) (nothing : items_of empty ≡ []) (closing : ℕ) where
  pub closed_sound : (Is : T → Type 0) → Sound Is written item → (text rest : List ℕ) (final : S) → closed_at empty (gather 44 item add empty) (closing ∷ []) text ≡ Some (final, rest) → Closed items_of Is written closing text final rest
  unfolding closed_at
  closed_sound Is sound text rest final e = by (after_found (closing ∷ []) _ _ text final rest e)
    where
      by : There (closing ∷ []) (pure empty) text final rest ⊎ (bind (gather 44 item add empty) (λ (all : S). bind (skip (closing ∷ [])) (λ (u : Unit {0}). pure all)) text ≡ Some (final, rest)) → Closed items_of Is written closing text final rest
      by (inl there) =
          let q : Equal empty final there.behind rest = pure_found empty final there.behind rest there.found in
          let none : items_of final ≡ [] = ap items_of (sym q.value) ∙ nothing in
          record {
            each = subst (AllByRecursion Is) (sym none) tt;
            whole = there.whole ∙ ap (λ z. closing ∷ z) q.rest ∙ ap (λ (xs : List T). join_with_byte 44 (map written xs) ++ closing ∷ rest) (sym none);
          }
      by (inr f) =
          let b = bind_found (gather 44 item add empty) _ text final rest f in
          let c = bind_found (skip (closing ∷ [])) _ b.middle final rest b.second in
          let q : Equal b.value final c.middle rest = pure_found b.value final c.middle rest c.second in
          let closes : b.middle ≡ closing ∷ c.middle = skip_found (closing ∷ []) b.middle c.middle c.value c.first in
          let g = gather_sound 44 item add items_of gathers written Is sound empty b.value text b.middle b.first in
          let list : items_of final ≡ g.first ∷ g.others = ap items_of (sym q.value) ∙ g.gathered ∙ ap (λ (xs : List T). xs ++ g.first ∷ g.others) nothing in
          record {
            each = subst (AllByRecursion Is) (sym list) g.each;
            whole =
                g.whole ∙ ap (λ z. join_with_byte 44 (map written (g.first ∷ g.others)) ++ z) (closes ∙ ap (λ z. closing ∷ z) q.rest)
                ∙ ap (λ (xs : List T). join_with_byte 44 (map written xs) ++ closing ∷ rest) (sym list);
          }

  module _ (Ends : List ℕ → Type 0) (comma : (rest : List ℕ) → Ends (44 ∷ rest)) (stops : (rest : List ℕ) → past (44 ∷ []) (closing ∷ rest) ≡ None) (ends : (rest : List ℕ) → Ends (closing ∷ rest)) (differs : (c : ℕ) → begins_item c ≡ true → (closing == c) ≡ false) where
    shape_starts : (x : T) (xs : List T) → Starts (written x) → Starts (join_with_byte 44 (map written (x ∷ xs)))
    shape_starts x xs starts = subst Starts (sym (joined 44 written x xs)) (starts_more (written x) (followed 44 written xs) starts)

    closed_list : (final : S) (xs : List T) (rest : List ℕ) → items_of final ≡ xs → AllByRecursion (λ (x : T). IsRead Ends item (written x) x) xs → closed_at empty (gather 44 item add empty) (closing ∷ []) (join_with_byte 44 (map written xs) ++ closing ∷ rest) ≡ Some (final, rest)
    unfolding closed_at pure
    closed_list final [] rest list each =
        after_there (closing ∷ []) _ _ rest ∙ ap (λ (z : S). Some (z, rest)) (gathers.one empty final (nothing ∙ sym list))
    closed_list final (x ∷ xs) rest list each =
        let shape : List ℕ = join_with_byte 44 (map written (x ∷ xs)) in
        let whole : items_of final ≡ items_of empty ++ x ∷ xs = list ∙ ap (λ (ys : List T). ys ++ x ∷ xs) (sym nothing) in
        after_absent (closing ∷ []) _ _ (shape ++ closing ∷ rest) (starts_not closing differs shape (closing ∷ rest) (shape_starts x xs each.0.starts))
        ∙ bind_goes (gather 44 item add empty) _ (shape ++ closing ∷ rest) final (closing ∷ rest) (gather_complete 44 item add items_of gathers written Ends comma empty final x xs (closing ∷ rest) each whole (stops rest) (ends rest))
        ∙ bind_goes (skip (closing ∷ [])) _ (closing ∷ rest) tt rest (skip_whole (closing ∷ []) rest)

    -- a list up to a closing mark is read where its text stands
    pub closed_complete : (final : S) (rest : List ℕ) → AllByRecursion (λ (x : T). IsRead Ends item (written x) x) (items_of final) → closed_at empty (gather 44 item add empty) (closing ∷ []) (join_with_byte 44 (map written (items_of final)) ++ closing ∷ rest) ≡ Some (final, rest)
    closed_complete final rest each = closed_list final (items_of final) rest refl each

digit_item : (c : ℕ) → is_ascii_digit c ≡ true → begins_item c ≡ true
digit_item c e = grind (arith, nat_tests)

digits_start : (ds : List ℕ) → begins is_ascii_digit (ds ++ []) ≡ true → Starts ds
digits_start [] e = absurd cc
digits_start (c ∷ ds) e = record { first = c; others = ds; whole = refl; begins_so = digit_item c e }

-- a number begins an item
pub number_starts : (n : ℕ) → n < 2 ^ 64 → Starts (decimal n)
number_starts n small = digits_start (decimal n) (number_begins n [] small)
