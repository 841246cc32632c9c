-- What the proof of `steps::gets_first` needs beside the tactics.
use Rattle.std.proofs.Common.{sym, ◌∙◌, ◌∷◌, []}
use Rattle.annex_base.specs.declared.kinds.Call.TheVariants.{Has}
use Rattle.step_judging.specs.Same.{same_effect}
use Rattle.step_judging.specs.Rules.{effect_of}
use Rattle.job_makes.specs.Turns.{turn_in}
use Rattle.node_model.specs.JobStep.{is_there}
use Rattle.node_model.specs.TransferStep.{first_get, next_source}
use Rattle.node_model.specs.SessionStep.{is_filled}
use Rattle.step_makes.proofs.steps.gets_first.Goals as goal

pub returns : goal.returns
returns c = λ s st of.
    let x = c.args.turn.now in
    let t = turn_in x s st in
    let told = effect_of x.told.now in
    let key = x.work.now.what.key in
    c.attempts.ensures s st (Has ∷ []) (first_get t (is_there t) (t.filled key) (next_source t)) (c.fails-failing.ensures s st)
    (c.in_ok-made.ensures s st of
    ∙ (λ i. same_effect (first_get t (c.is_there-here.ensures s st i) (is_filled (sym of.set_up i) (sym of.state i) key) (next_source t)) told))
