-- What the proof of `run::put_entries` needs beside the tactics.
use Rattle.std.proofs.Common.{◌<◌, length, arith}
use Rattle.journal_text.proofs.Entries.{entries_more}
use Rattle.journal_text.proofs.run.put_entries.Goals as goal

pub loop-place-preserved : goal.loop-place-preserved
loop-place-preserved c =
    let within : c.loop-place.place < length c.args.entries.now = omega arith in
    entries_more c.args.repos.now c.args.entries.now c.split_at.result.0.now c.loop-place.place _ _ _ _ c.split_at.ensures.front within c.index-entries-place.is
    c.loop-place.invariant c.in_ok-put_parts.ensures
