-- What the proof of `knowing::Knowing::asks_time` needs beside the tactics.
use Rattle.std.proofs.Common.{ℕ, Bool, if◌then◌else◌, sym, ap, ◌∙◌}
use Rattle.std.specs.Option.{option_copied}
use Rattle.p2p_wire.specs.declared.message.Message.TheVariants.{GetTimestamp}
use Rattle.node_model.specs.DropStep.{target}
use Rattle.node_model.specs.JobStep.{quietly, says_to, talk}
use Rattle.step_judging.specs.Rules.{effect_of}
use Rattle.step_judging.specs.Same.{same_effect}
use Rattle.drop_makes.specs.Knowings.{drop_in}
use Rattle.drop_makes.proofs.knowing.Knowing.asks_time.Goals as goal

pub returns-then-is_old : goal.returns-then-is_old
returns-then-is_old c = λ s st end.
    let k = c.args.self.now in
    let t = drop_in k.turn.now k.logs.now s st in
    let told = effect_of k.turn.now.told.now in
    let taken = option_copied c.args.taken in
    c.quietly.ensures (talk t) (c.talks.ensures s st)
    ∙ ap (λ (b : Bool). same_effect (if b then quietly (talk t) taken else says_to t (talk t) taken (target t) GetTimestamp) told) (sym c.if-is_old.true ∙ c.is_old.ensures)

pub returns-else-is_old : goal.returns-else-is_old
returns-else-is_old c = λ s st end.
    let k = c.args.self.now in
    let t = drop_in k.turn.now k.logs.now s st in
    let told = effect_of k.turn.now.told.now in
    let taken = option_copied c.args.taken in
    c.says_to.ensures s st (talk t) (c.talks-else-is_old.ensures s st) ∙ ap (λ (p : ℕ). same_effect (says_to t (talk t) taken p GetTimestamp) told) c.target.ensures
    ∙ ap (λ (b : Bool). same_effect (if b then quietly (talk t) taken else says_to t (talk t) taken (target t) GetTimestamp) told) (sym c.if-is_old.false ∙ c.is_old.ensures)
