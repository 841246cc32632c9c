-- What the proof of `worker::reads` needs beside the tactics.
use Rattle.std.proofs.Common.{arith}
use Rattle.p2p_wire.specs.declared.message.Message.TheVariants.{CheckPresent, LockContent, UnlockContent, Version}
use Rattle.drop_phases.proofs.worker.reads.Goals as goal

pub returns : goal.returns
returns c =
    let key = c.args.key.now in
    let sound = (c.key_texts_have_no_fault.ensures.sound key).1 c.text-text.ensures.key in
    let line = c.sent_messages_have_lines.ensures in
    record {
      version = line (Version 3) (omega arith) tt tt;
      lock = line (LockContent key) sound tt tt;
      look = line (CheckPresent key) sound tt tt;
      unlock = line (UnlockContent key) sound tt tt;
    }
