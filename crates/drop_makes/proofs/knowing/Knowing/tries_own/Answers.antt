-- What the proof of `knowing::Knowing::tries_own` needs beside the tactics.
use Rattle.std.proofs.Common.{sym, ap, ◌∙◌}
use Rattle.node_model.specs.DropStep.{tries_own}
use Rattle.node_model.specs.JobStep.{talk}
use Rattle.state_reads.specs.Standings.{standing_of}
use Rattle.state_reads.specs.declared.standing.Standing.{Standing}
use Rattle.step_judging.specs.Rules.{effect_of}
use Rattle.step_judging.specs.Same.{same_effect}
use Rattle.drop_makes.specs.Knowings.{drop_in}
use Rattle.drop_makes.proofs.knowing.Knowing.tries_own.Goals as goal

pub returns-in-Asked : goal.returns-in-Asked
returns-in-Asked c = λ s st.
    let k = c.args.self.now in
    let t = drop_in k.turn.now k.logs.now s st in
    let told = effect_of k.turn.now.told.now in
    c.shares.ensures s st ∙ ap (λ (x : Standing). same_effect (tries_own t (standing_of x)) told) (sym c.in-Asked.is)

pub returns-in-Claimed : goal.returns-in-Claimed
returns-in-Claimed c = λ s st.
    let k = c.args.self.now in
    let t = drop_in k.turn.now k.logs.now s st in
    let told = effect_of k.turn.now.told.now in
    c.quietly.ensures (talk t) (c.talks.ensures s st) ∙ ap (λ (x : Standing). same_effect (tries_own t (standing_of x)) told) (sym c.in-Claimed.is)

pub returns-in-Ignored : goal.returns-in-Ignored
returns-in-Ignored c = λ s st.
    let k = c.args.self.now in
    let t = drop_in k.turn.now k.logs.now s st in
    let told = effect_of k.turn.now.told.now in
    c.quietly-in-Ignored.ensures (talk t) (c.talks-in-Ignored.ensures s st) ∙ ap (λ (x : Standing). same_effect (tries_own t (standing_of x)) told) (sym c.in-Ignored.is)
