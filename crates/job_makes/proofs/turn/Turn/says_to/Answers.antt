-- What the proof of `turn::Turn::says_to` needs beside the tactics.
use Rattle.std.proofs.Common.{[], ◌∷◌}
use Rattle.p2p_wire.specs.Messages.{text_of}
use Rattle.run_data.specs.declared.entry.FrameText.TheVariants.{Line}
use Rattle.node_model.specs.Ends.{frames}
use Rattle.node_model.specs.Jobs.{job_end}
use Rattle.node_model.specs.JobStep.{end_with}
use Rattle.job_makes.specs.Turns.{turn_in}
use Rattle.job_makes.proofs.SayingLemmas.{said}
use Rattle.job_makes.proofs.turn.Turn.says_to.Goals as goal

pub returns : goal.returns
returns c = λ s st kind is.
    let t = turn_in c.args.self.now s st in
    let bodies = Line (text_of c.args.message.now) ∷ [] in
    c.sends.ensures kind (frames (job_end t.w c.args.peer) (end_with t c.args.peer) bodies) is
    (said c.args.self.now c.at.result c.args.peer bodies c.as_slice.result.now c.says-said.result c.says-said.ensures c.at.ensures.name c.at.ensures.was c.as_slice.ensures)
