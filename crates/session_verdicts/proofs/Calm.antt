-- What holds of each answer.
use Rattle.std.proofs.Common.{Result, Ok, Err, IfOk}

pub each_ok : {X E : Type 0} (r : Result X E) (P : X → Type 0) → ((x : X) → P x) → IfOk r P
each_ok (Ok x) P f = f x
each_ok (Err e) P f = tt
