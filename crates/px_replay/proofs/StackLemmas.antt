-- The stack of open sequents, read from its top.
use Rattle.std.proofs.Common.{◌≡◌, List, [], ◌∷◌, ◌++◌, map, reverse, All, refl, sym, ap, subst, ◌∙◌, append_assoc}
use Rattle.std.proofs.lemmas.List.{reverse-append, map-append}
use Rattle.std.proofs.lemmas.List.Elements.{All-nil, All-cons, All-head, All-tail, All-push, All-append}
use Rattle.px_terms.specs.declared.sequent.Sequent.{Sequent}
use Rattle.px_terms.specs.Sequents.{IsWithinLimits}
use Rattle.px_replay.specs.declared.open_sequents.Open.{Open}
use Rattle.px_replay.specs.Replaying.{IsRightlyMarked, child_within, sequents_of}

reverse-cons : {X : Type 0} (x : X) (xs : List X) → reverse (x ∷ xs) ≡ reverse xs ++ x ∷ []
reverse-cons x xs = reverse-append (x ∷ []) xs

reverse-push : {X : Type 0} (xs : List X) (x : X) → reverse (xs ++ x ∷ []) ≡ x ∷ reverse xs
reverse-push xs x = reverse-append xs (x ∷ [])

all_reverse : {X : Type 0} (P : X → Type 0) (xs : List X) → All P xs → All P (reverse xs)
all_reverse P [] all = All-nil P
all_reverse P (x ∷ xs) all = subst (All P) (sym (reverse-cons x xs)) (All-push P (reverse xs) x (all_reverse P xs (All-tail P x xs all)) (All-head P x xs all))

-- the sequents of children
sequents_of-children : (ss : List Sequent) → map (λ (o : Open). o.sequent) (map child_within ss) ≡ ss
sequents_of-children [] = refl
sequents_of-children (s ∷ ss) = ap (λ (others : List Sequent). s ∷ others) (sequents_of-children ss)

reverse-map : {X Y : Type 0} (f : X → Y) (xs : List X) → reverse (map f (reverse xs)) ≡ map f xs
reverse-map f [] = refl
reverse-map {X} {Y} f (x ∷ xs) = ap (λ (ys : List X). reverse (map f ys)) (reverse-cons x xs) ∙ (ap (λ (ys : List Y). reverse ys) (map-append f (reverse xs) (x ∷ [])) ∙ (reverse-push (map f (reverse xs)) (f x) ∙ ap (λ (ys : List Y). f x ∷ ys) (reverse-map f xs)))

-- the sequents of a stack onto which children were put
pub pushed_sequents : (popped : List Open) (children : List Sequent) → sequents_of (popped ++ map child_within (reverse children)) ≡ children ++ sequents_of popped
pushed_sequents popped children =
    let turned : reverse (popped ++ map child_within (reverse children)) ≡ map child_within children ++ reverse popped = reverse-append popped (map child_within (reverse children)) ∙ ap (λ (os : List Open). os ++ reverse popped) (reverse-map child_within children) in
    ap (λ (os : List Open). map (λ (o : Open). o.sequent) os) turned ∙ (map-append (λ (o : Open). o.sequent) (map child_within children) (reverse popped) ∙ ap (λ (ss : List Sequent). ss ++ sequents_of popped) (sequents_of-children children))

-- the sequents of a stack, the top one apart
pub top_sequent : (stack popped : List Open) (top : Open) → stack ≡ popped ++ top ∷ [] → sequents_of stack ≡ top.sequent ∷ sequents_of popped
top_sequent stack popped top split = ap (λ (os : List Open). map (λ (o : Open). o.sequent) os) (ap (λ (os : List Open). reverse os) split ∙ reverse-push popped top)

-- children that are within the limits are rightly marked
all_marked : (ss : List Sequent) → All IsWithinLimits ss → All IsRightlyMarked (map child_within ss)
all_marked [] all = All-nil IsRightlyMarked
all_marked (s ∷ ss) all = All-cons IsRightlyMarked (child_within s) (map child_within ss) (record { within = λ marked. All-head IsWithinLimits s ss all }) (all_marked ss (All-tail IsWithinLimits s ss all))

-- the stack stays rightly marked where children within the limits are put on it
pub pushed_marked : (popped new : List Open) (children : List Sequent) → new ≡ popped ++ map child_within (reverse children) → All IsRightlyMarked popped → All IsWithinLimits children → All IsRightlyMarked new
pushed_marked popped new children is marked small = subst (All IsRightlyMarked) (sym is) (All-append IsRightlyMarked popped (map child_within (reverse children)) marked (all_marked (reverse children) (all_reverse IsWithinLimits children small)))

-- the last of the children moved onto the stack
pub moved_on : (children popped : List Sequent) (child : Sequent) (stack now all : List Open) (o : Open) → children ≡ popped ++ child ∷ [] → now ≡ stack ++ o ∷ [] → o ≡ child_within child → stack ++ map child_within (reverse children) ≡ all → now ++ map child_within (reverse popped) ≡ all
moved_on children popped child stack now all o split pushed o_is so_far =
    let turned : reverse children ≡ child ∷ reverse popped = ap (λ (ss : List Sequent). reverse ss) split ∙ reverse-append popped (child ∷ []) in
    ap (λ (os : List Open). os ++ map child_within (reverse popped)) (pushed ∙ ap (λ (x : Open). stack ++ x ∷ []) o_is) ∙ (append_assoc stack (child_within child ∷ []) (map child_within (reverse popped)) ∙ (ap (λ (ss : List Sequent). stack ++ map child_within ss) (sym turned) ∙ so_far))
