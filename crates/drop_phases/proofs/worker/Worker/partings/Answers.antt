-- What the proof of `worker::Worker::partings` needs beside the tactics.
use Rattle.std.proofs.Common.{sym, ◌∙◌}
use Rattle.drop_phases.specs.Working.{parting_at}
use Rattle.drop_phases.proofs.Partings.{upto_parted, upto_self, upto_shut}
use Rattle.drop_phases.proofs.worker.Worker.partings.Goals as goal
use Rattle.drop_phases.proofs.worker.Worker.partings.Goals.{then-peer-repo+then-is_open+in_ok-parting+in_ok-push, else-peer-repo, else-peer-repo-via-then-peer-repo+else-is_open, else-peer-repo-via-else-peer-repo}

pub loop-peer-preserved : goal.loop-peer-preserved
loop-peer-preserved g c =
    let ends = g.H.Here.ends c.args.here.now in
    let w = c.args.self.now in
    let r = c.repo-repo.result in
    let n = c.loop-peer.peer in
    elim c.if-peer-repo.branch [
      | then-peer-repo+then-is_open+in_ok-parting+in_ok-push v ↦ rw (v.parcels-is, v.in_ok-push.ensures.ok)
          (upto_parted ends w c.args.lost r n c.loop-peer.parcels.items v.in_ok-parting.field-0 v.if-peer-repo.true (rw v.slot.ensures at (sym v.is_open.ensures ∙ v.if-is_open.true)) v.in_ok-parting.ensures.0 v.in_ok-parting.ensures.1 c.loop-peer.invariant)
      | else-peer-repo v ↦ elim v.else-peer-repo.branch [
        | else-peer-repo-via-then-peer-repo+else-is_open u ↦ rw v.parcels-is (c.loop-peer.invariant ∙ sym (upto_shut ends w c.args.lost r n u.if-peer-repo.true (rw u.slot.ensures at (sym u.is_open.ensures ∙ u.if-is_open.false))))
        | else-peer-repo-via-else-peer-repo u ↦ rw v.parcels-is (c.loop-peer.invariant ∙ sym (upto_self (parting_at ends w c.args.lost) r n u.if-peer-repo.false))
      ]
    ]
