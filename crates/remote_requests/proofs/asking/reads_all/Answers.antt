-- What the proof of `remote_asking::reads_all` needs beside the tactics.
use Rattle.std.proofs.Common.{arith}
use Rattle.p2p_wire.specs.declared.message.Message.TheVariants.{CheckPresent, GetTimestamp, LockContent, Remove, RemoveBefore, Version}
use Rattle.remote_requests.proofs.asking.reads_all.Goals as goal

pub returns : goal.returns
returns c =
    let key = c.args.key.now in
    let sound = (c.key_texts_have_no_fault.ensures.sound key).1 c.text-text.ensures.key in
    let line = c.sent_messages_have_lines.ensures in
    record {
      version = line (Version 3) (omega arith) tt tt;
      lock = line (LockContent key) sound tt tt;
      look = line (CheckPresent key) sound tt tt;
      time = line GetTimestamp tt tt tt;
      order = line (Remove key) sound tt tt;
      timed = λ n small. line (RemoveBefore n key) (small, sound) tt tt;
    }
