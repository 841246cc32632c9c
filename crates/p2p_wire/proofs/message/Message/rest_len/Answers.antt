-- What the proof of `message::Message::rest_len` needs beside the tactics.
use Rattle.std.proofs.Common.{◌≡◌, length, arith}
use Rattle.annex_base.specs.RepoText.{repo_text}
use Rattle.annex_base.proofs.RepoLemmas.{length-repo_text}
use Rattle.p2p_wire.proofs.message.Message.rest_len.Goals as goal

pub returns-in-AuthSuccess : goal.returns-in-AuthSuccess
returns-in-AuthSuccess c =
    let long : length (repo_text c.in-AuthSuccess.field-0) ≡ 36 = length-repo_text c.in-AuthSuccess.field-0 in
    rw c.in-AuthSuccess.is (omega (arith, long))
