-- What the proof of `knowing::Knowing::expires` needs beside the tactics.
use Rattle.std.proofs.Common.{ℕ, None, ap, ◌∙◌}
use Rattle.node_model.specs.DropStep.{expiry, first_end}
use Rattle.node_model.specs.JobStep.{ends}
use Rattle.step_judging.specs.Rules.{effect_of}
use Rattle.step_judging.specs.Same.{same_effect}
use Rattle.drop_makes.specs.Knowings.{drop_in}
use Rattle.drop_makes.proofs.knowing.Knowing.expires.Goals as goal

pub returns : goal.returns
returns c = λ s st.
    let k = c.args.self.now in
    let t = drop_in k.turn.now k.logs.now s st in
    let told = effect_of k.turn.now.told.now in
    c.is_late.ensures s st ∙ ap (λ (n : ℕ). same_effect (ends t None (expiry n (first_end t))) told) c.clock.ensures.value
