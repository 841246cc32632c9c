-- What the proof of `lines::reads` needs beside the tactics.
use Rattle.std.proofs.Common.{[], refl, arith}
use Rattle.p2p_wire.specs.declared.message.Message.TheVariants.{Data, Failure, Get, Put, Success, Valid, Version}
use Rattle.transfer_turns.proofs.lines.reads.Goals as goal

pub returns : goal.returns
returns c =
    let key = c.args.key.now in
    let sound = (c.key_texts_have_no_fault.ensures.sound key).1 c.text-text.ensures.key in
    let line = c.sent_messages_have_lines.ensures in
    record {
      version = line (Version 3) (omega arith) tt tt;
      get = λ n small. line (Get n [] key) (small, sound, refl) tt tt;
      put = line (Put [] key) (sound, refl) tt tt;
      bytes = λ n small. line (Data n) small tt tt;
      valid = line Valid tt tt tt;
      success = line Success tt tt tt;
      failure = line Failure tt tt tt;
    }
