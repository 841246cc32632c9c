-- What the proof of `steps::puts_first` needs beside the tactics.
use Rattle.std.proofs.Common.{ap, Bool, ◌∙◌, ◌∷◌, []}
use Rattle.annex_base.specs.declared.kinds.Call.TheVariants.{Has}
use Rattle.step_judging.specs.Same.{same_effect}
use Rattle.step_judging.specs.Rules.{effect_of}
use Rattle.job_makes.specs.Turns.{turn_in}
use Rattle.node_model.specs.JobStep.{is_there}
use Rattle.node_model.specs.TransferStep.{first_put}
use Rattle.step_makes.proofs.steps.puts_first.Goals as goal

pub returns : goal.returns
returns c = λ s st.
    let x = c.args.turn.now in
    let t = turn_in x s st in
    c.attempts.ensures s st (Has ∷ []) (first_put t (is_there t) t.w.what.peer) (c.fails-failing.ensures s st)
    (c.in_ok-made.ensures s st ∙ ap (λ (h : Bool). same_effect (first_put t h t.w.what.peer) (effect_of x.told.now)) (c.is_there-here.ensures s st))
