-- What the proof of `putting::puts_piece` needs beside the tactics.
use Rattle.std.proofs.Common.{◌+◌, if◌then◌else◌, [], ◌∷◌, None}
use Rattle.node_model.specs.JobStep.{sends_to, talk}
use Rattle.node_model.specs.Sessions.{reaches}
use Rattle.node_model.specs.TransferStep.{content_of}
use Rattle.run_data.specs.declared.entry.FrameText.TheVariants.{Bytes, Closing}
use Rattle.annex_base.specs.declared.kinds.Call.TheVariants.{Read}
use Rattle.job_makes.specs.Turns.{turn_in}
use Rattle.transfer_makes.proofs.putting.puts_piece.Goals as goal

pub returns : goal.returns
returns c = λ s st.
    let t = turn_in c.args.turn.now s st in
    c.attempts.ensures s st (Read ∷ []) (sends_to t (talk t) None c.args.peer ((if reaches (content_of t) (c.args.at + c.args.count) then Bytes c.args.count else Closing) ∷ []))
    (c.fails.ensures s st) (c.gives_piece-made.ensures s st)
