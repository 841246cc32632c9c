-- What the proof of `jobs::jobs_of` needs beside the tactics.
use Rattle.std.proofs.Common.{List, ◌∷◌, ◌∙◌, ap, sym, subst, refl, length, take, reverse, arith}
use Rattle.annex_base.proofs.Pasts.{past_more}
use Rattle.run_data.specs.declared.entry.Entry.{Entry}
use Rattle.storm_line.specs.Running.{HasCounted}
use Rattle.storm_line.proofs.jobs.jobs_of.Goals as goal

pub loop-entry-init : goal.loop-entry-init
loop-entry-init c =
    let none = ap length c.new-running.ensures.items in
    (record { running = c.new-running.ensures.items; done = refl; refused = refl }, omega (arith, none))

pub loop-entry-preserved : goal.loop-entry-preserved
loop-entry-preserved c =
    let i = c.loop-entry.entry-index in
    let past = reverse (take i c.args.entries.now) in
    let same = past_more c.args.entries.now i c.entry-item.result c.loop-entry-test.true ∙ ap (λ (e : Entry). e ∷ past) (sym c.entry-item.is) in (
      subst (λ (before : List Entry). HasCounted c.add.new.jobs before c.args.repo) (sym same) (c.in_ok-add.ensures.counted past c.loop-entry.invariant.0),
      omega (arith, c.in_ok-add.ensures.few, c.loop-entry.invariant.1),
    )
