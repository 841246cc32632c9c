-- What the proof of `walk::Walk::follow` needs beside the tactics.
use Rattle.std.proofs.Common.{◌<◌, ◌≤◌, min, length, arith}
use Rattle.report_tables.specs.Walk.{IsWellFormed}
use Rattle.report_tables.proofs.Pasts.{each_at, knows_more, stands_walked}
use Rattle.report_tables.proofs.walk.Walk.follow.Goals as goal

pub add-requires : goal.add-requires
add-requires c =
    let within : c.loop-place.place < length c.as_slice-entries.result.now = omega arith in
    each_at IsWellFormed c.args.run.now.entries c.as_slice-entries.result.now c.loop-place.place _ c.as_slice-entries.ensures c.requires.formed within c.index-entries-place.is

pub loop-place-preserved : goal.loop-place-preserved
loop-place-preserved c =
    let within : c.loop-place.place < length c.as_slice-entries.result.now = omega arith in (
      knows_more c.args.run.now c.as_slice-entries.result.now _ _ c.loop-place.place _ c.as_slice-entries.ensures within c.index-entries-place.is
          (c.in_ok-add.ensures _ _ c.loop-place.invariant.0),
      omega arith,
    )

pub returns : goal.returns
returns c =
    let far : min c.args.upto (length c.as_slice-entries.result.now) ≤ c.loop-place.place = omega arith in
    stands_walked c.args.run.now c.as_slice-entries.result.now c.loop-place.self c.loop-place.place c.args.upto c.as_slice-entries.ensures far c.loop-place.invariant.1 c.loop-place.invariant.0
