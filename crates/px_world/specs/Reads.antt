-- What reading a whole text answers.
use Rattle.std.specs.Prelude.{◌≡◌, ℕ, ◌<◌, ◌≤◌, List, length, ⊤, Bool, IsTrue, Option, Result, Ok, Err}
use Rattle.px_world.specs.declared.faults.ReadEnd.{ReadEnd}
use Rattle.px_world.specs.declared.faults.ReadEnd.TheVariants.{ReadFault, TooLong, NoMemory}
use Rattle.px_world.specs.Known.{Told, IsLonger}

-- Ok has the text, which is no longer than the limit, and TooLong says that the text is longer, where it is told
abbrev pub Reads : Option (List ℕ) → ℕ → Result (List ℕ) ReadEnd → Type 0
Reads known limit (Ok bytes) = Told known bytes × (length bytes ≤ limit)
Reads known limit (Err ReadFault) = ⊤
Reads known limit (Err TooLong) = IsLonger known limit
Reads known limit (Err NoMemory) = ⊤

-- Ok has all bytes that came, TooLong comes where more than the limit came, and ReadFault where no more did
abbrev pub CameBy : ℕ → Result (List ℕ) ReadEnd → List ℕ → Type 0
CameBy limit (Ok bytes) came = came ≡ bytes
CameBy limit (Err ReadFault) came = length came ≤ limit
CameBy limit (Err TooLong) came = limit < length came
CameBy limit (Err NoMemory) came = ⊤

-- after Ok and TooLong the text is open
abbrev pub EndsOpen : Result (List ℕ) ReadEnd → Bool → Type 0
EndsOpen (Ok bytes) opened = IsTrue opened
EndsOpen (Err ReadFault) opened = ⊤
EndsOpen (Err TooLong) opened = IsTrue opened
EndsOpen (Err NoMemory) opened = ⊤
