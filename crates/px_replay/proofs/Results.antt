-- Two facts of one answer.
use Rattle.std.proofs.Common.{◌≡◌, Result, Ok, Err, IfOk, IsErr, IsErrAnd, IsOkUnless, MatchResult}

pub both_ok : {X Y : Type 0} (r : Result X Y) (P Q : X → Type 0) → IfOk r P → IfOk r Q → IfOk r (λ x. P x × Q x)
both_ok (Ok x) P Q p q = (p, q)
both_ok (Err e) P Q p q = p

-- an end that is passed on stays the end
pub passed_on : {X E : Type 0} (r : Result X E) (P : E → Type 0) (Q : X → Type 0) (end : E) → IsErr r × IsErrAnd r P → ((e : E) → P e → e ≡ end) → MatchResult r Q (λ e. e ≡ end)
passed_on (Ok x) P Q end told is = absurd told.1
passed_on (Err e) P Q end told is = is e told.1

pub still_ends : {X E : Type 0} (r : Result X E) (P : E → Type 0) (end : E) → IsErr r × IsErrAnd r P → ((e : E) → P e → e ≡ end) → IsOkUnless r end
still_ends (Ok x) P end told is = absurd told.1
still_ends (Err e) P end told is = is e told.1
