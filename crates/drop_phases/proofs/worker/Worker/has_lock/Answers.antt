-- What the proof of `worker::Worker::has_lock` needs beside the tactics.
use Rattle.std.proofs.Common.{sym, ap, ◌∙◌}
use Rattle.drop_phases.specs.Working.{is_lock, newest_of}
use Rattle.drop_phases.proofs.Heards.{lock_same}
use Rattle.drop_phases.proofs.worker.Worker.has_lock.Goals as goal

pub returns : goal.returns
returns c =
    c.is_lock.ensures ∙ ap is_lock c.newest.ensures ∙ (ap (λ l. is_lock (newest_of l c.args.peer)) c.heard.ensures ∙ sym (lock_same c.args.self.now.heard c.args.peer))
