-- How versions are kept, and what is true of each world, for the proofs.
use Rattle.std.specs.Prelude.{◌≡◌, ◌≢◌, ℕ, ◌<◌, false, List, [], map, length, get_or, slice_index_or}
use Rattle.std.specs.List.{AllPairs}
use Rattle.px_terms.specs.declared.term.Value.TheVariants as value
use Rattle.px_replicas.specs.declared.version.Version.{Version}
use Rattle.px_replicas.specs.declared.versions.Kept.{Kept}
use Rattle.px_replicas.specs.Holdings.{Holdings}

-- each number is below those behind it
abbrev pub AreInOrder : List ℕ → Type 0
AreInOrder numbers = AllPairs (λ (m n : ℕ). m < n) numbers

-- what stands where nothing is kept
abbrev pub nothing : Kept
nothing = record { version = record { numbers = []; state = value.Lit 0 }; sent = false }

-- what is kept under a number
abbrev pub kept_at : List Kept → ℕ → Kept
kept_at kept n = slice_index_or kept n nothing

-- the version of a number
abbrev pub version_at : List Kept → ℕ → Version
version_at kept n = (kept_at kept n).version

-- the versions that replicas and messages name
abbrev pub holdings_of : List Kept → List ℕ → List ℕ → Holdings
holdings_of kept replicas messages = record { replicas = map (version_at kept) replicas; messages = map (version_at kept) messages }

-- Each number names a version that is kept.
pub record AreKept (kept : List Kept) (numbers : List ℕ) : Type 0 where
  pub each : (i : ℕ) → i < length numbers → get_or numbers i 0 < length kept

-- Replicas and messages name versions that are kept, and of those that messages name it is noted.
pub record AreNamed (kept : List Kept) (replicas messages : List ℕ) : Type 0 where
  pub replicas_kept : AreKept kept replicas
  pub messages_kept : AreKept kept messages
  pub noted : (k : ℕ) → k < length messages → (kept_at kept (get_or messages k 0)).sent ≡ false → ⊥

-- No message and no other replica names the version that the replica names.
pub record IsAlone (kept : List Kept) (replicas : List ℕ) (r : ℕ) : Type 0 where
  pub unsent : (kept_at kept (get_or replicas r 0)).sent ≡ false
  pub no_other : (q : ℕ) → q < length replicas → q ≢ r → get_or replicas q 0 ≢ get_or replicas r 0

-- It is noted that a message names the version of the number; all else is as before.
pub record IsNoted (n : ℕ) (old new : List Kept) : Type 0 where
  pub many : length new ≡ length old
  pub versions : (m : ℕ) → version_at new m ≡ version_at old m
  pub noted : (kept_at new n).sent ≡ false → ⊥
  pub others : (m : ℕ) → (kept_at new m).sent ≡ false → (kept_at old m).sent ≡ false
