-- What the proof of `turn::Turn::closes_to` needs beside the tactics.
use Rattle.std.proofs.Common.{[], ◌∷◌}
use Rattle.run_data.specs.declared.entry.FrameText.TheVariants.{Closing}
use Rattle.node_model.specs.Ends.{frames}
use Rattle.node_model.specs.Jobs.{job_end}
use Rattle.node_model.specs.JobStep.{end_with, talk}
use Rattle.job_makes.specs.Turns.{turn_in}
use Rattle.job_makes.proofs.SayingLemmas.{said}
use Rattle.job_makes.proofs.turn.Turn.closes_to.Goals as goal

pub returns : goal.returns
returns c = λ s st.
    let t = turn_in c.args.self.now s st in
    c.sends.ensures (talk t) (frames (job_end t.w c.args.peer) (end_with t c.args.peer) (Closing ∷ [])) (c.talks.ensures s st)
    (said c.args.self.now c.at.result c.args.peer (Closing ∷ []) c.as_slice.result.now c.closes-said.result c.closes-said.ensures c.at.ensures.name c.at.ensures.was c.as_slice.ensures)
