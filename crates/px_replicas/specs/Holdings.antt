-- What replicas and messages hold, each with its join, as plain lists.
use Rattle.std.specs.Prelude.{◌≡◌, refl, ℕ, ◌++◌, ◌∷◌, [], List, Some, slice_get}
use Rattle.std.specs.Coded.{Coded, code_by, coded×, coded_list}
use Rattle.px_replicas.specs.declared.version.Version.{Version}
use Rattle.px_replicas.specs.contracts.version.Version as versions

-- The version of each replica, and of each message, in order.
pub record Holdings : Type 0 where
  pub replicas : List Version
  pub messages : List Version

-- holdings are stored as the pair of their fields
abbrev pub holdings_code : Coded Holdings
holdings_code =
    code_by (List Version × List Version) (coded× (coded_list versions.the_row.coded) (coded_list versions.the_row.coded)) (λ h. (h.replicas, h.messages))
    (λ p. record { replicas = p.0; messages = p.1 }) (λ _. refl)

-- The replica's version is the next message's too.
pub record Sends (old : Holdings) (r : ℕ) (new : Holdings) : Type 0 where
  pub version : Version
  pub is_version : slice_get old.replicas r ≡ Some version
  pub added : new ≡ record old { messages = old.messages ++ version ∷ [] }
