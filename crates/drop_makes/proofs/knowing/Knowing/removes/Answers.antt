-- What the proof of `knowing::Knowing::removes` needs beside the tactics.
use Rattle.std.proofs.Common.{ℕ, Bool, if◌then◌else◌, [], ◌∷◌, None, sym, ap, ◌∙◌}
use Rattle.annex_base.specs.declared.kinds.Call.TheVariants.{Remove}
use Rattle.run_data.specs.declared.entry.EntryKind.TheVariants.{Gone}
use Rattle.node_model.specs.DropStep.{expiry, first_end}
use Rattle.node_model.specs.JobStep.{attempts, by_me, clock_of, ends, key_of, quietly}
use Rattle.node_model.specs.Look.{Effect}
use Rattle.step_judging.specs.Same.{same_kind}
use Rattle.step_judging.specs.Rules.{effect_of}
use Rattle.step_judging.specs.Same.{same_effect}
use Rattle.drop_makes.specs.Knowings.{drop_in}
use Rattle.drop_makes.proofs.knowing.Knowing.removes.Goals as goal

pub returns-then-not-in_time : goal.returns-then-not-in_time
returns-then-not-in_time c = λ s st.
    let k = c.args.self.now in
    let t = drop_in k.turn.now k.logs.now s st in
    let told = effect_of k.turn.now.told.now in
    let good : Effect = attempts t (Remove ∷ []) None (quietly (Gone (by_me t) (key_of t)) None) in
    c.is_late.ensures s st ∙ ap (λ (n : ℕ). same_effect (ends t None (expiry n (first_end t))) told) (c.clock.ensures s st)
    ∙ ap (λ (b : Bool). same_effect (if b then good else ends t None (expiry (clock_of t) (first_end t))) told) (sym c.if-not-in_time.true ∙ c.in_time.ensures s st)

pub returns : goal.returns
returns c = λ s st.
    let k = c.args.self.now in
    let t = drop_in k.turn.now k.logs.now s st in
    let told = effect_of k.turn.now.told.now in
    let made : Effect = quietly (Gone (by_me t) (key_of t)) None in
    let good : Effect = attempts t (Remove ∷ []) None made in
    c.attempts.ensures s st (Remove ∷ []) made (c.fails.ensures s st)
    (c.quietly.ensures (Gone (by_me t) (key_of t)) (c.is_gone-is.ensures ∙ (λ i. same_kind (Gone (c.by_me.ensures s st i) (c.key.ensures s st i)) k.turn.now.told.now.kind)))
    ∙ ap (λ (b : Bool). same_effect (if b then good else ends t None (expiry (clock_of t) (first_end t))) told) (sym c.if-not-in_time.false ∙ c.in_time.ensures s st)
