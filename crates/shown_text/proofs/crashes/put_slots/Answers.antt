-- What the proof of `crashes::put_slots` needs beside the tactics.
use Rattle.std.proofs.Common.{reverse}
use Rattle.crashed_jobs.specs.Crashed.{in_slot}
use Rattle.shown_text.specs.Lines.{crashed_line}
use Rattle.shown_text.proofs.Places.{numbered_more}
use Rattle.shown_text.proofs.crashes.put_slots.Goals as goal

pub loop-slot-preserved : goal.loop-slot-preserved
loop-slot-preserved c =
    numbered_more (λ slot. crashed_line c.args.repos.now (reverse c.args.before.now) c.args.repo (in_slot c.args.running.now slot)) c.loop-slot.slot _ _ _
    c.loop-slot.invariant c.in_ok-put_crashed_in.ensures
