-- What the proof of `getting::appends` needs beside the tactics.
use Rattle.std.proofs.Common.{[], ◌∷◌, Some}
use Rattle.node_model.specs.JobStep.{quietly, talk}
use Rattle.annex_base.specs.declared.kinds.Call.TheVariants.{Append}
use Rattle.job_makes.specs.Turns.{turn_in}
use Rattle.transfer_makes.proofs.getting.appends.Goals as goal

pub returns : goal.returns
returns c = λ s st.
    let t = turn_in c.args.turn.now s st in
    c.attempts.ensures s st (Append ∷ []) (quietly (talk t) (Some c.args.frame.now)) (c.fails.ensures s st) (c.quietly-made.ensures (talk t) (c.talks.ensures s st))
