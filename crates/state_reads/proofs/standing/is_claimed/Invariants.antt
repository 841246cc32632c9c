-- What holds at each turn of the loops of `standing::is_claimed`: none of those that were passed is the repository.
use Rattle.std.proofs.Common.{◌≡◌, drop}
use Rattle.std.specs.Prelude.{bytes_eq}
use Rattle.std.specs.List.{list_any}
use Rattle.state_reads.proofs.standing.is_claimed.Given as goal

abbrev pub invariant-loop-claimed : goal.invariant-loop-claimed
invariant-loop-claimed l = list_any (λ claimed. bytes_eq claimed l.id) l.claims ≡ list_any (λ claimed. bytes_eq claimed l.id) (drop l.claimed-index l.claims)
