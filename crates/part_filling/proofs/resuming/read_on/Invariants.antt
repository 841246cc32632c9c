-- How far the part was read.
use Rattle.std.proofs.Common.{◌≡◌, ◌≤◌, ◌<◌, ◌+◌, ◌-◌, false, length, nat_lt, take}
use Rattle.std.specs.Option.{ForSome}
use Rattle.annex_base.specs.declared.kinds.Call.TheVariants as calls
use Rattle.key_verify.specs.Sums.{HasTaken, bytes_taken}
use Rattle.part_filling.proofs.resuming.read_on.Given as goal

-- the digester has taken the part as far as it was read
abbrev pub invariant-loop-at : goal.invariant-loop-at
invariant-loop-at g l = record {
  contents : g.K.Keeper.contents l.keeper ≡ g.K.Keeper.contents l.fn.keeper;
  parts : g.K.Keeper.parts l.keeper ≡ g.K.Keeper.parts l.fn.keeper;
  records : g.K.Keeper.records l.keeper ≡ g.K.Keeper.records l.fn.keeper;
  files : g.K.Keeper.files l.keeper ≡ g.K.Keeper.files l.fn.keeper;
  later : g.K.Keeper.faults l.fn.keeper ≤ g.K.Keeper.faults l.keeper;
  failing : g.K.Keeper.failing l.keeper ≡ g.K.Keeper.failing l.fn.keeper;
  none : 0 < l.at → ForSome (g.K.Keeper.failing l.fn.keeper) (λ failing. false ≡ nat_lt 0 (failing calls.ReadPart));
  room : length l.room ≡ 32768;
  count : bytes_taken l.digester ≡ l.at;
  within : l.at ≤ l.size + 32768;
  fed : ForSome (g.K.Keeper.parts l.fn.keeper) (λ p. l.size ≡ length (p l.key) → (l.at ≤ length (p l.key)) × HasTaken l.digester l.key (take l.at (p l.key)));
}

abbrev pub decreases-loop-at : goal.decreases-loop-at
decreases-loop-at g l = l.size + 1 - l.at
