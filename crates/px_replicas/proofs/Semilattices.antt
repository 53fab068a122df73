-- What commutativity, associativity and idempotence give: a merge is the least upper bound. `M a b v` says that v is the merge of a and b,
-- `D` which values there are.
use Rattle.std.proofs.Common.{◌≡◌, subst}

-- The merge of two values there are, which is one of them.
pub record Merged {A : Type 0} (D : A → Type 0) (M : A → A → A → Type 0) (a b : A) : Type 0 where
  pub value : A
  pub there : D value
  pub is : M a b value

module _ {A : Type 0} (D : A → Type 0) (M : A → A → A → Type 0) (total : (a b : A) → D a → D b → Merged D M a b) (one : (a b v w : A) → M a b v → M a b w → v ≡ w)
    (comm : (a b v : A) → D a → D b → M a b v → M b a v) (assoc : (a b c x y v : A) → D a → D b → D c → M a b x → M b c y → M x c v → M a y v)
    (idem : (a : A) → D a → M a a a)
  where
    -- the merge of values there are is one of them
    pub there_is : (a b v : A) → D a → D b → M a b v → D v
    there_is a b v da db m = let it = total a b da db in subst D (one a b it.value v it.is m) it.there

    -- the other way round
    back : (a b c x y v : A) → D a → D b → D c → M a b x → M b c y → M a y v → M x c v
    back a b c x y v da db dc front behind all =
        let dx : D x = there_is a b x da db front in
        let it = total x c dx dc in
        let other : M a y it.value = assoc a b c x y it.value da db dc front behind it.is in
        subst (M x c) (one a y it.value v other all) it.is

    -- a merge takes its second value in
    pub takes_second : (a b v : A) → D a → D b → M a b v → M v b v
    takes_second a b v da db m = back a b b v b v da db db m (idem b db) m

    -- and its first
    pub takes_first : (a b v : A) → D a → D b → M a b v → M v a v
    takes_first a b v da db m = takes_second b a v db da (comm a b v da db m)

    -- what takes in a value takes in what that takes in
    pub takes_through : (u a b : A) → D u → D a → D b → M u a u → M a b a → M u b u
    takes_through u a b du da db ua ab = assoc_front
      where
        assoc_front : M u b u
        assoc_front = back u a b u a u du da db ua ab ua

    -- what takes in two values takes in their merge
    pub takes_both : (u a b v : A) → D u → D a → D b → M u a u → M u b u → M a b v → M u v u
    takes_both u a b v du da db ua ub m = assoc u a b u v u du da db ua m ub

    -- two values that take in one another are equal
    pub take_each_other : (u v : A) → D u → D v → M u v u → M v u v → u ≡ v
    take_each_other u v du dv uv vu = one v u u v (comm u v u du dv uv) vu
