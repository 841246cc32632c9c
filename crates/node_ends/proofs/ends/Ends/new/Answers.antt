-- What the proof of `ends::Ends::new` needs beside the tactics.
use Rattle.std.proofs.Common.{◌≡◌, ◌*◌, List, true, sym, subst}
use Rattle.link_ring.specs.Ends.{EndView}
use Rattle.node_ends.specs.Invariant.{each_may_close}
use Rattle.node_ends.proofs.Setting.{close_fresh}
use Rattle.node_ends.proofs.ends.Ends.new.Goals as goal

pub invariant_of-result : goal.invariant_of-result
invariant_of-result c = subst (λ (xs : List EndView). each_may_close xs ≡ true) (sym c.requires) (close_fresh (c.args.repositories * 8))
