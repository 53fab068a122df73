-- What properties imply.
use Rattle.px_base.specs.declared.prop.Prop.{Prop}
use Rattle.px_base.specs.declared.prop.Prop.TheVariants.{Idem, Sel, Refl, Irrefl, Sym, Antisym, Asym, Trans, Conn}

-- the closure of what is known: the least set of properties with the implications
pub data Closure (Knows : Prop → Type 0) : Prop → Type 0 where
  known : {p : Prop} → Knows p → Closure Knows p
  sel_gives_idem : Closure Knows Sel → Closure Knows Idem
  conn_gives_refl : Closure Knows Conn → Closure Knows Refl
  asym_gives_irrefl : Closure Knows Asym → Closure Knows Irrefl
  asym_gives_antisym : Closure Knows Asym → Closure Knows Antisym
  irrefl_and_trans_give_asym : Closure Knows Irrefl → Closure Knows Trans → Closure Knows Asym

-- the properties of `wle`, which says whether one word is at most another
pub data HasAtMost : Prop → Type 0 where
  refl : HasAtMost Refl
  antisym : HasAtMost Antisym
  trans : HasAtMost Trans
  conn : HasAtMost Conn

-- the properties of `weq`, which says whether two words are equal
pub data HasEqual : Prop → Type 0 where
  refl : HasEqual Refl
  sym : HasEqual Sym
  antisym : HasEqual Antisym
  trans : HasEqual Trans
