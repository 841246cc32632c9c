-- What the proof of `turn::Turn::attempts` needs beside the tactics.
use Rattle.std.proofs.Common.{◌++◌, Option, sym, ap, ◌∙◌}
use Rattle.std.specs.Option.{option_copied}
use Rattle.annex_base.specs.declared.kinds.Call.{Call}
use Rattle.run_data.specs.declared.entry.By.{By}
use Rattle.run_data.specs.declared.entry.EntryKind.TheVariants.{Fault}
use Rattle.node_model.specs.JobStep.{by_me, quietly}
use Rattle.node_model.specs.Look.{unless}
use Rattle.step_judging.specs.Rules.{effect_of}
use Rattle.step_judging.specs.Same.{same_effect, same_kind}
use Rattle.job_makes.specs.Turns.{turn_in}
use Rattle.job_makes.proofs.turn.Turn.attempts.Goals as goal

pub returns-in-Some : goal.returns-in-Some
returns-in-Some c = λ s st cs m failing made.
    let t = turn_in c.args.self.now s st in
    let told = c.args.self.now.told.now in
    let call = c.in-Some.call in
    let taken = option_copied c.args.taken in
    c.quietly.ensures (Fault call (by_me t)) (c.is_fault.ensures ∙ ap (λ (by : By). same_kind (Fault call by) told.kind) (c.by_me.ensures s st))
    ∙ ap (λ (o : Option Call). same_effect (record (unless o (λ fault. quietly (Fault fault (by_me t)) taken) m) { calls = cs ++ m.calls }) (effect_of told)) (sym c.in-Some.is ∙ failing)
