-- What the proof of `making::partings` needs beside the tactics.
use Rattle.std.proofs.Common.{sym, ◌∙◌}
use Rattle.annex_base.proofs.Lists.{Each-push}
use Rattle.transfer_turns.specs.declared.parcels.Parcel.{Parcel}
use Rattle.transfer_turns.specs.Parcels.{IsNoPiece}
use Rattle.transfer_turns.specs.Turns.{parting_at}
use Rattle.drop_phases.proofs.Partings.{upto_self}
use Rattle.transfer_turns.proofs.Closings.{upto_parted, upto_shut}
use Rattle.transfer_turns.proofs.making.partings.Goals as goal
use Rattle.transfer_turns.proofs.making.partings.Goals.{then-peer-repo+then-is_open+in_ok-push, else-peer-repo, else-peer-repo-via-then-peer-repo+else-is_open, else-peer-repo-via-else-peer-repo}

pub loop-peer-preserved : goal.loop-peer-preserved
loop-peer-preserved g c =
    let x = g.H.Here.sight c.args.here.now in
    let slot = c.args.slot in
    let r = c.repo-repo.result in
    let n = c.loop-peer.peer in
    elim c.if-peer-repo.branch [
      | then-peer-repo+then-is_open+in_ok-push v ↦ rw (v.parcels-is, v.in_ok-push.ensures.ok) (
        upto_parted x slot r n c.loop-peer.parcels.items v.if-peer-repo.true (sym v.is_open.ensures ∙ v.if-is_open.true) c.loop-peer.invariant.0,
        Each-push (λ (p : Parcel). IsNoPiece p.body) c.loop-peer.parcels.items _ c.loop-peer.invariant.1 tt,
      )
      | else-peer-repo v ↦ elim v.else-peer-repo.branch [
        | else-peer-repo-via-then-peer-repo+else-is_open u ↦ rw v.parcels-is (c.loop-peer.invariant.0 ∙ sym (upto_shut x slot r n u.if-peer-repo.true (sym u.is_open.ensures ∙ u.if-is_open.false)), c.loop-peer.invariant.1)
        | else-peer-repo-via-else-peer-repo u ↦ rw v.parcels-is (c.loop-peer.invariant.0 ∙ sym (upto_self (parting_at x slot) r n u.if-peer-repo.false), c.loop-peer.invariant.1)
      ]
    ]
