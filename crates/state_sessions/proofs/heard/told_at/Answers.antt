-- What the proof of `heard::told_at` needs beside the tactics.
use Rattle.std.proofs.Common.{sym, ap, ◌∙◌}
use Rattle.std.proofs.lemmas.Result.{IfOk-weaker}
use Rattle.node_model.specs.Ends.{sends_at, server_end}
use Rattle.state_sessions.proofs.SessionLemmas.{message_in, said_first}
use Rattle.state_sessions.proofs.heard.told_at.Goals as goal

pub returns-in-Some : goal.returns-in-Some
returns-in-Some c =
    let said = ap message_in c.in-Some.ensures ∙ sym (said_first (sends_at (server_end c.args.at.peer c.args.at.slot)) c.args.frames.now) in
    IfOk-weaker c.line_in.result _ _ (λ m is. is ∙ said) c.line_in.ensures

pub returns-in-None : goal.returns-in-None
returns-in-None c = ap message_in c.in-None.ensures ∙ sym (said_first (sends_at (server_end c.args.at.peer c.args.at.slot)) c.args.frames.now)
