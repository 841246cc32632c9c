-- What the proof of `closing::past_peer` needs beside the tactics.
use Rattle.std.proofs.Common.{None, false, subst, sym, true}
use Rattle.std.specs.Prelude.{flat_map, option_copied}
use Rattle.node_model.specs.AnyTime.{ends_with}
use Rattle.any_time_checks.specs.Coming.{close_in, closes_with}
use Rattle.any_time_checks.proofs.CloseLemmas.{Parts, no_parts, peer_parts}
use Rattle.any_time_checks.proofs.closing.past_peer.Goals as goal

pub returns-in_err-rest : goal.returns-in_err-rest
returns-in_err-rest c =
    let x = c.args.ends.now in
    let sent = c.args.sent.now in
    subst (λ o. Parts (closes_with x c.args.peer) sent (option_copied o)) (sym c.from_residual.ensures)
    (peer_parts x c.args.peer sent None
    (no_parts (flat_map (close_in x) (ends_with c.args.peer true)) (flat_map (close_in x) (ends_with c.args.peer false)) sent c.in_err-rest.ensures))
