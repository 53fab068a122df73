-- What is said of bytes where a device tells them.
use Rattle.std.specs.Prelude.{◌≡◌, ℕ, ◌<◌, ◌≤◌, List, length, take, Option, IfSome}
use Rattle.std.specs.Io.KnownBytes.{Appends}

-- where a text is told, these are its bytes
abbrev pub Told : Option (List ℕ) → List ℕ → Type 0
Told known bytes = IfSome known (λ text. bytes ≡ text)

-- where a text is told, it has more bytes than the limit
abbrev pub IsLonger : Option (List ℕ) → ℕ → Type 0
IsLonger known limit = IfSome known (λ text. limit < length text)

-- what was written grew by a front of these bytes
abbrev pub AppendsPrefix : Option (List ℕ) → Option (List ℕ) → List ℕ → Type 0
AppendsPrefix old new bytes = (n : ℕ) × (n ≤ length bytes) × Appends old new (take n bytes)
