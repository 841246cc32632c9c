-- The digester has taken the front of the content.
use Rattle.std.proofs.Common.{◌≡◌, ℕ, ◌≤◌, ◌-◌, List, [], length, take}
use Rattle.key_verify.specs.Sums.{HasTaken, bytes_taken}
use Rattle.script_steps.proofs.verify.content_sum.Given as goal

abbrev pub invariant-loop-at : goal.invariant-loop-at
invariant-loop-at l = record {
  within : l.at ≤ length l.content;
  small : length l.content ≤ 16777216;
  room : length l.room ≡ 4096;
  count : bytes_taken l.digester ≡ l.at;
  taken : (key : List ℕ) → HasTaken l.fn.digester key [] → HasTaken l.digester key (take l.at l.content);
}

abbrev pub decreases-loop-at : goal.decreases-loop-at
decreases-loop-at l = length l.content - l.at
