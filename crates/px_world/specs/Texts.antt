-- What a list of named texts holds, where a later text stands in place of an earlier one of its name.
use Rattle.std.specs.Prelude.{◌≡◌, ℕ, ◌<◌, List, [], length, reverse, find, Option, None, Some, slice_get, MatchOption}
use Rattle.std.specs.Option.{option_map, option_map_or}
use Rattle.std.specs.Str.{bytes_eq}
use Rattle.px_world.specs.declared.texts.NamedText.{NamedText}

-- the bytes of the newest of these texts that has this name
abbrev pub bytes_in : List NamedText → List ℕ → Option (List ℕ)
bytes_in texts name = option_map (λ text. text.bytes) (find (λ text. bytes_eq text.name name) (reverse texts))

-- the bytes of the text at this index, or none past the end
abbrev pub bytes_at : List NamedText → ℕ → List ℕ
bytes_at texts index = option_map_or (λ text. text.bytes) (slice_get texts index) []

-- the index of the newest text that has this name, if one has
abbrev pub IsNewest : List NamedText → List ℕ → Option ℕ → Type 0
IsNewest texts name newest =
    MatchOption newest (bytes_in texts name ≡ None) (λ index. (index < length texts) × (bytes_in texts name ≡ Some (bytes_at texts index)))
