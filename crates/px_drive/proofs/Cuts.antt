-- A text is cut into lines in one way.
use Rattle.std.proofs.Common.{◌≡◌, ◌∙◌, ℕ, suc, List, [], ◌∷◌, ◌++◌, Contains, refl, sym, subst, arith, append_assoc}
use Rattle.std.specs.List.{AllByRecursion}
use Rattle.px_drive.specs.Derivations.{text_of, IsOneLine, BeginsWith}

-- what stands later in a list stands in it
later : (x : ℕ) (xs : List ℕ) (e : ℕ) → Contains xs e → Contains (x ∷ xs) e
later x xs e (k, within, is) = (suc k, omega arith, is)

here : (x : ℕ) (xs : List ℕ) (e : ℕ) → x ≡ e → Contains (x ∷ xs) e
here x xs e is = (0, omega arith, is)

-- behind a line a line feed stands
has_feed : (line rest : List ℕ) → Contains ((line ++ 10 ∷ []) ++ rest) 10
has_feed [] rest = here 10 rest 10 refl
has_feed (x ∷ line) rest = later x ((line ++ 10 ∷ []) ++ rest) 10 (has_feed line rest)

rest_of_line : (x : ℕ) (xs : List ℕ) → IsOneLine (x ∷ xs) → IsOneLine xs
rest_of_line x xs one there = one (later x xs 10 there)

-- two texts that are one begin with one line
same_line : (a b r s : List ℕ) → IsOneLine a → IsOneLine b → (a ++ 10 ∷ []) ++ r ≡ (b ++ 10 ∷ []) ++ s → (a ≡ b) × (r ≡ s)
same_line [] [] r s one other is = (refl, cc)
same_line [] (y ∷ b) r s one other is = absurd (other (here y b 10 cc))
same_line (x ∷ a) [] r s one other is = absurd (one (here x a 10 cc))
same_line (x ∷ a) (y ∷ b) r s one other is =
    let tails : (a ++ 10 ∷ []) ++ r ≡ (b ++ 10 ∷ []) ++ s = cc in
    let heads : x ≡ y = cc in
    let same : (a ≡ b) × (r ≡ s) = same_line a b r s (rest_of_line x a one) (rest_of_line y b other) tails in
    let lines : a ≡ b = same.0 in
    (cc, same.1)

-- Of two lists of lines one is the front of the other, and what stands behind it tells the others.
pub data Compared (a b : List (List ℕ)) (r s : List ℕ) : Type 0 where
  longer : (more : List (List ℕ)) → b ≡ a ++ more → r ≡ text_of more ++ s → Compared a b r s
  shorter : (line : List ℕ) (more : List (List ℕ)) → a ≡ b ++ line ∷ more → s ≡ text_of (line ∷ more) ++ r → Compared a b r s

lift : (x y : List ℕ) (a b : List (List ℕ)) (r s : List ℕ) → x ≡ y → Compared a b r s → Compared (x ∷ a) (y ∷ b) r s
lift x y a b r s is (longer more lines rest) = longer more (cc) rest
lift x y a b r s is (shorter line more lines rest) = shorter line more (cc) rest

compare : (a b : List (List ℕ)) (r s : List ℕ) → AllByRecursion IsOneLine a → AllByRecursion IsOneLine b → text_of a ++ r ≡ text_of b ++ s → Compared a b r s
compare [] b r s one other is = longer b refl is
compare (x ∷ a) [] r s one other is = shorter x a refl (sym is)
compare (x ∷ a) (y ∷ b) r s one other is =
    let both : (x ++ 10 ∷ []) ++ (text_of a ++ r) ≡ (y ++ 10 ∷ []) ++ (text_of b ++ s) =
    sym (append_assoc (x ++ 10 ∷ []) (text_of a) r) ∙ (is ∙ append_assoc (y ++ 10 ∷ []) (text_of b) s) in
    let same : (x ≡ y) × (text_of a ++ r ≡ text_of b ++ s) = same_line x y (text_of a ++ r) (text_of b ++ s) one.0 other.0 both in
    lift x y a b r s same.0 (compare a b r s one.1 other.1 same.1)

-- of two lists of lines that a text begins with, one is the front of the other
pub compared : (text : List ℕ) (a b : List (List ℕ)) (r s : List ℕ) → BeginsWith text a r → BeginsWith text b s → Compared a b r s
compared text a b r s one other = compare a b r s one.each other.each (sym one.is ∙ other.is)

-- bytes without a line feed are no line with more behind it
pub ended : (line : List ℕ) (more : List (List ℕ)) (r s : List ℕ) → IsOneLine r → r ≡ text_of (line ∷ more) ++ s → ⊥
ended line more r s one is =
    one (subst (λ (bytes : List ℕ). Contains bytes 10) (sym (is ∙ append_assoc (line ++ 10 ∷ []) (text_of more) s)) (has_feed line (text_of more ++ s)))

-- no bytes have no line feed
pub no_bytes : IsOneLine []
no_bytes (k, within, is) = omega (arith, within)

-- lines with one more begin as the lines do, up to that one
pub front_of : (b : List (List ℕ)) (l : List ℕ) (f : List (List ℕ)) (x : List ℕ) (m : List (List ℕ)) → b ++ l ∷ [] ≡ f ++ x ∷ m → (k : List (List ℕ)) × (b ≡ f ++ k)
front_of b l [] x m is = (b, refl)
front_of [] l (y ∷ []) x m is = cc
front_of [] l (y ∷ z ∷ f) x m is = cc
front_of (z ∷ b) l (y ∷ f) x m is =
    let tails : b ++ l ∷ [] ≡ f ++ x ∷ m = cc in
    let heads : z ≡ y = cc in
    let found : (k : List (List ℕ)) × (b ≡ f ++ k) = front_of b l f x m tails in
    let more : b ≡ f ++ found.0 = found.1 in
    (found.0, cc)

-- one line more stands behind the same lines
pub same_last : (a b : List (List ℕ)) (x y : List ℕ) → a ++ x ∷ [] ≡ b ++ y ∷ [] → (a ≡ b) × (x ≡ y)
same_last [] [] x y is = (refl, cc)
same_last [] (z ∷ []) x y is = cc
same_last [] (z ∷ w ∷ b) x y is = cc
same_last (z ∷ []) [] x y is = cc
same_last (z ∷ w ∷ a) [] x y is = cc
same_last (z ∷ a) (w ∷ b) x y is =
    let tails : a ++ x ∷ [] ≡ b ++ y ∷ [] = cc in
    let heads : z ≡ w = cc in
    let same : (a ≡ b) × (x ≡ y) = same_last a b x y tails in
    let fronts : a ≡ b = same.0 in
    (cc, same.1)
