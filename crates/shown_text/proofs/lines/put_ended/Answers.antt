-- What the proof of `lines::put_ended` needs beside the tactics.
use Rattle.std.proofs.Common.{◌≤◌, ◌<◌, min, length, arith, inr}
use Rattle.shown_text.proofs.Ended.{ended_more, ended_all}
use Rattle.shown_text.proofs.lines.put_ended.Goals as goal

pub loop-place-preserved : goal.loop-place-preserved
loop-place-preserved c =
    let within : c.loop-place.place < length c.as_slice-entries.result.now = omega arith in (
      ended_more c.args.run.now c.as_slice-repos.result.now c.args.syncs.now c.as_slice-entries.result.now c.split_at.result.0.now c.args.from c.loop-place.place _ _ _ _
          c.as_slice-repos.ensures c.as_slice-entries.ensures c.split_at.ensures.front c.loop-place.auto.place within c.index-entries-place.is
          c.loop-place.invariant.0 c.in_ok-put_entry_line.ensures,
      inr (omega arith),
    )

pub returns : goal.returns
returns c =
    let far : min c.args.upto (length c.as_slice-entries.result.now) ≤ c.loop-place.place = omega arith in
    ended_all c.args.run.now c.args.syncs.now c.as_slice-entries.result.now c.args.from c.args.upto c.loop-place.place _ _ c.as_slice-entries.ensures
    far c.loop-place.invariant.1 c.loop-place.invariant.0
