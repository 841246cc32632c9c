-- Known bytes that are read or written in turns, for the callers of sources and sinks.
use Rattle.std.proofs.Common.{◌≡◌, ℕ, ◌+◌, Option, Some, None, List, ◌++◌, take, drop, refl, ap, sym, ◌∙◌, append_assoc}
use Rattle.std.proofs.Math.Seq.{take-add}
use Rattle.std.specs.Io.KnownBytes.{append_known}

-- one piece was taken after another
pub append_known-append : (known : Option (List ℕ)) (first second : List ℕ)
    → append_known (append_known known first) second ≡ append_known known (first ++ second)
append_known-append None first second = refl
append_known-append (Some xs) first second = ap Some (append_assoc xs first second)

-- two fronts of a text were taken, one after the other
pub append_known-front : (known : Option (List ℕ)) (text : List ℕ) (at n : ℕ)
    → append_known (append_known known (take at text)) (take n (drop at text)) ≡ append_known known (take (at + n) text)
append_known-front known text at n =
    append_known-append known (take at text) (take n (drop at text)) ∙ ap (append_known known) (sym (take-add at n text))
