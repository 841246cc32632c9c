-- What the proof of `putting::puts_from` needs beside the tactics.
use Rattle.std.proofs.Common.{if◌then◌else◌, [], ◌∷◌, Some}
use Rattle.node_model.specs.JobStep.{says_to, talk, wrong_message}
use Rattle.node_model.specs.TransferStep.{content_of}
use Rattle.node_model.specs.SessionStep.{bytes_left}
use Rattle.node_model.specs.Sessions.{reaches}
use Rattle.p2p_wire.specs.declared.message.Message.TheVariants.{Data}
use Rattle.annex_base.specs.declared.kinds.Call.TheVariants.{Size}
use Rattle.job_makes.specs.Turns.{turn_in}
use Rattle.transfer_makes.proofs.putting.puts_from.Goals as goal

pub returns : goal.returns
returns c = λ s st.
    let t = turn_in c.args.turn.now s st in
    let f = c.args.frame.now in
    let n = c.args.start in
    c.attempts.ensures s st (Size ∷ []) (if reaches (content_of t) n then says_to t (talk t) (Some f) c.args.peer (Data (bytes_left (content_of t) n)) else wrong_message t f c.args.peer)
    (c.fails.ensures s st) (c.answers_from-made.ensures s st)
