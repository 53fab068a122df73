-- A term with its parts normalised, as its layer is copied.
use Rattle.std.proofs.Common.{◌≡◌, ◌≤◌, ◌<◌, ◌+◌, ◌-◌, ◌^◌, ℕ, min, max, List, [], ◌∷◌, ◌++◌, map, sum, length, Some, slice_get, refl, sym, ap, ◌∙◌, subst, arith}
use Rattle.px_base.specs.declared.limits.TheConstants.{SEQUENT_NODES, SEQUENT_DEPTH, FACTS}
use Rattle.px_base.specs.Largest.{largest}
use Rattle.px_terms.specs.declared.types.Ty.{Ty}
use Rattle.px_terms.specs.declared.types.Fun.{Fun}
use Rattle.px_terms.specs.declared.term.Term.{Term, out-Term}
use Rattle.px_terms.specs.declared.term.Term.TheVariants as term
use Rattle.px_terms.specs.declared.term.Term.TheOpen.{Term-F}
use Rattle.px_terms.specs.Types.{tys_size, tys_depth, fun_size, fun_depth}
use Rattle.px_terms.specs.Terms.{term_size, terms_size, term_depth, terms_depth, children_of, with_child_of, with_child}
use Rattle.px_prover.specs.declared.deeds.Setting.{Setting}
use Rattle.px_terms.specs.declared.row.Kind.{Kind}
use Rattle.px_prover.specs.declared.deeds.Deed.TheVariants as done
use Rattle.px_prover.specs.declared.stages.Left.{Left}
use Rattle.px_prover.specs.declared.stages.Room.{Room as Limits}
use Rattle.px_prover.specs.declared.stages.Normal.{Normal as Found}
use Rattle.px_prover.specs.declared.stages.Parted.{Parted as FoundParts}
use Rattle.px_prover.specs.declared.stages.Parts.{Parts as FoundList}
use Rattle.px_prover.specs.declared.stages.Stage.{Stage}
use Rattle.px_prover.specs.declared.stages.StopTree.{StopTree}
use Rattle.px_prover.specs.Normalising.{moves_below, moves_of, IsLimited, IsDone}
use Rattle.px_prover.specs.Turning.{HasRoom, HaveRoom, AreLeft, IsFrame, IsNormalised, IsParted, AreNormalised, IsUnparted, IsMatch, HasLimits}
use Rattle.px_prover.proofs.FrameLemmas.{con_frame, call_frame}
use Rattle.px_prover.proofs.PartLemmas.{unparted, parts_fit, layer_fits, parted, scrutinee_fits, match_parted}

-- These are the parts of any term on them, normalised.
abbrev pub OnAnyFrame : Setting → List Term → Left → ℕ → FoundList → Type 0
OnAnyFrame setting ts left levels all = (layer : List Term → Term) (nodes : ℕ) (deep : ℕ) → IsFrame layer nodes deep → deep ≤ levels → AreNormalised setting layer ts left levels all

-- a variable, a pattern variable or a literal
pub leaf_parted : (setting : Setting) (t : Term) (left : Left) (levels : ℕ) (y : Term-F Term) (u : Term) (p : FoundParts) → t ≡ u → out-Term u ≡ y → children_of y ≡ [] → HasRoom setting t left levels → IsUnparted left u p → IsParted setting t left levels p
leaf_parted setting t left levels y u p is layer none fits at = unparted setting t left levels u p (sym is) (ap children_of layer ∙ none) fits.levels at

-- the fields of a constructor fit
pub con_fits : (setting : Setting) (t : Term) (left : Left) (levels d k : ℕ) (types : List Ty) (fields fs : List Term) → t ≡ term.Con d k types fields → fs ≡ fields → HasRoom setting t left levels → HaveRoom setting fs left (levels - 1)
con_fits setting t left levels d k types fields fs is same fits =
    subst (λ (gs : List Term). HaveRoom setting gs left (levels - 1)) (sym same) (parts_fit setting (term.Con d k types) (1 + tys_size types) (tys_depth types) (con_frame d k types) fields left levels t is fits)

-- a constructor
pub con_parted : (setting : Setting) (t : Term) (left : Left) (levels d k : ℕ) (types us : List Ty) (fields fs : List Term) (all : FoundList) → t ≡ term.Con d k types fields → us ≡ types → fs ≡ fields → HasRoom setting t left levels →
    OnAnyFrame setting fs left (levels - 1) all → AreLeft fs left (levels - 1) all.left all.terms →
    IsParted setting t left levels (record { left = all.left; term = term.Con d k us all.terms; parts = all.stops; stages = all.stages })
con_parted setting t left levels d k types us fields fs all is us_are fs_are fits are kept =
    let layer = term.Con d k types in
    let frame = con_frame d k types in
    let deep = layer_fits setting layer (1 + tys_size types) (tys_depth types) frame fields left levels t is fits in
    let on_fields = subst (λ (gs : List Term). AreNormalised setting layer gs left (levels - 1) all) fs_are (are layer (1 + tys_size types) (tys_depth types) frame deep) in
    let kept_of = subst (λ (gs : List Term). AreLeft gs left (levels - 1) all.left all.terms) fs_are kept in
    parted setting layer (1 + tys_size types) (tys_depth types) frame fields left levels t all (term.Con d k us all.terms) is fits on_fields kept_of (ap (λ (vs : List Ty). term.Con d k vs all.terms) us_are)

-- the arguments of a call fit
pub call_fits : (setting : Setting) (t : Term) (left : Left) (levels : ℕ) (f : Fun) (funs : List Fun) (args xs : List Term) → t ≡ term.Call f funs args → xs ≡ args → HasRoom setting t left levels → HaveRoom setting xs left (levels - 1)
call_fits setting t left levels f funs args xs is same fits =
    subst (λ (gs : List Term). HaveRoom setting gs left (levels - 1)) (sym same)
    (parts_fit setting (term.Call f funs) (1 + (tys_size f.types + sum (map fun_size funs))) (max (tys_depth f.types) (largest (map fun_depth funs))) (call_frame f funs) args left levels t is fits)

-- a call
pub call_parted : (setting : Setting) (t : Term) (left : Left) (levels : ℕ) (f g : Fun) (funs gs : List Fun) (args xs : List Term) (all : FoundList) → t ≡ term.Call f funs args → g ≡ f → gs ≡ funs → xs ≡ args → HasRoom setting t left levels →
    OnAnyFrame setting xs left (levels - 1) all → AreLeft xs left (levels - 1) all.left all.terms →
    IsParted setting t left levels (record { left = all.left; term = term.Call g gs all.terms; parts = all.stops; stages = all.stages })
call_parted setting t left levels f g funs gs args xs all is g_is gs_are xs_are fits are kept =
    let layer = term.Call f funs in
    let nodes = 1 + (tys_size f.types + sum (map fun_size funs)) in
    let deep = max (tys_depth f.types) (largest (map fun_depth funs)) in
    let frame = call_frame f funs in
    let few = layer_fits setting layer nodes deep frame args left levels t is fits in
    let on_args = subst (λ (ys : List Term). AreNormalised setting layer ys left (levels - 1) all) xs_are (are layer nodes deep frame few) in
    let kept_of = subst (λ (ys : List Term). AreLeft ys left (levels - 1) all.left all.terms) xs_are kept in
    parted setting layer nodes deep frame args left levels t all (term.Call g gs all.terms) is fits on_args kept_of (λ i. term.Call (g_is i) (gs_are i) all.terms)

-- a match, by its layer
abbrev pub match_is : (t on : Term) (d : ℕ) (types : List Ty) (arms : List Term) → t ≡ term.Match on d types arms → IsMatch t
match_is t on d types arms is = record { on = on; datatype = d; types = types; arms = arms; is = ap out-Term is ∙ term.outs-Match on d types arms }

-- the scrutinee of a match fits
pub on_fits : (setting : Setting) (t : Term) (left : Left) (levels : ℕ) (on by : Term) (d : ℕ) (types : List Ty) (arms : List Term) → t ≡ term.Match on d types arms → by ≡ on → HasRoom setting t left levels → HasRoom setting by left (levels - 1)
on_fits setting t left levels on by d types arms is same fits =
    subst (λ (x : Term). HasRoom setting x left (levels - 1)) (sym same) (scrutinee_fits setting t left levels (match_is t on d types arms is) fits)

-- a match with its scrutinee normalised
pub on_parted : (setting : Setting) (t : Term) (left : Left) (levels : ℕ) (on by made : Term) (d : ℕ) (types us : List Ty) (arms bs : List Term) (n : Found) (parts : List StopTree) (stages : List Stage) → t ≡ term.Match on d types arms → us ≡ types →
    bs ≡ arms → by ≡ on → made ≡ n.term → HasRoom setting t left levels → IsNormalised setting by left (levels - 1) n → parts ≡ n.stops ∷ [] → moves_of stages ≡ moves_below 0 (moves_of n.stages) →
    IsParted setting t left levels (record { left = n.left; term = term.Match made d us bs; parts = parts; stages = stages })
on_parted setting t left levels on by made d types us arms bs n parts stages is us_are bs_are by_is made_is fits normal_is parts_are moves =
    let layer : IsMatch t = match_is t on d types arms is in
    let normal_on = subst (λ (x : Term). IsNormalised setting x left (levels - 1) n) by_is normal_is in
    let put : with_child t 0 n.term ≡ term.Match n.term d types arms = ap (λ (y : Term-F Term). with_child_of y t 0 n.term) layer.is in
    let same : term.Match made d us bs ≡ term.Match n.term d types arms = λ i. term.Match (made_is i) d (us_are i) (bs_are i) in
    match_parted setting t left levels layer fits n normal_on (term.Match made d us bs) parts stages (same ∙ sym put) parts_are moves

-- a count of nodes that is exact where a term fits
pub counted_nodes : (setting : Setting) (t : Term) (left : Left) (levels count : ℕ) → HasRoom setting t left levels → count ≡ min (term_size t) (2 ^ 64 - 1) → count ≡ term_size t
counted_nodes setting t left levels count fits is = let few = fits.nodes in omega (arith, is, few)

module _ (setting : Setting) (t : Term) (left : Left) (levels count : ℕ) (fits : HasRoom setting t left levels) (is : count ≡ min (term_size t) (2 ^ 64 - 1)) where
  -- the nodes that there are
  pub nodes_are : left.spare + count ≡ left.spare + term_size t
  nodes_are = ap (λ (n : ℕ). left.spare + n) (counted_nodes setting t left levels count fits is)

  -- they are within the limits
  pub few_nodes : left.spare + count ≤ SEQUENT_NODES
  few_nodes = let same = nodes_are in let few = fits.nodes in omega (arith, same, few)

  pub limited : (limits : Limits) → limits.nodes ≡ left.spare + count → limits.levels ≡ levels → IsLimited limits
  limited limits nodes deep = record { nodes = let few = few_nodes in omega (arith, nodes, few); levels = let most = fits.deep in omega (arith, deep, most) }

  -- a step is within them
  pub takes_limits : (limits : Limits) (k : Kind) (u : Term) → limits.nodes ≡ left.spare + count → IsDone setting t limits (done.Takes k u) → HasLimits limits u
  takes_limits limits k u nodes made = record { units = made.step.0; nodes = made.step.1; most = let few = few_nodes in omega (arith, nodes, few) }

  pub leads_limits : (limits : Limits) (u : Term) → limits.nodes ≡ left.spare + count → IsDone setting t limits (done.Leads u) → HasLimits limits u
  leads_limits limits u nodes made = record { units = made.step.0; nodes = made.step.1; most = let few = few_nodes in omega (arith, nodes, few) }
