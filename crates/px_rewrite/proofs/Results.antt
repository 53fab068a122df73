-- The end of a call is the end of its caller.
use Rattle.std.proofs.Common.{◌≡◌, Result, Ok, Err, IsErr, IsErrAnd, IsOkUnless}

-- an end that is passed on stays the end
pub still_ends : {X E : Type 0} (r : Result X E) (P : E → Type 0) (end : E) → IsErr r × IsErrAnd r P → ((e : E) → P e → e ≡ end) → IsOkUnless r end
still_ends (Ok x) P end told is = absurd told.1
still_ends (Err e) P end told is = is e told.1
