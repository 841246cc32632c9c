-- What the end does and leaves.
use Rattle.std.proofs.Common.{ap, ◌∙◌, true}
use Rattle.run_data.specs.declared.entry.EntryKind.TheVariants.{End}
use Rattle.drop_phases.specs.Worker.{Worker}
use Rattle.drop_phases.specs.Working.{sight}
use Rattle.local_drops.proofs.Finishings.{finish_did}
use Rattle.local_drops.proofs.acting.finish.Goals as goal

pub returns-clause-does : goal.returns-clause-does
returns-clause-does g c = λ time number k.
    finish_did (sight (g.H.Here.reading c.args.here.now) (g.H.Here.ends c.args.here.now) time number) c.args.table.now c.give_up.new.table k c.args.worker.now c.give_up.new.worker c.args.outcome c.in_ok-sends.sends c.ending.result
    c.requires.plain c.requires.local c.requires.owns c.give_up.ensures.bare c.give_up.ensures.off c.give_up.ensures.holds c.give_up.ensures.fills c.give_up.ensures.owns c.give_up.ensures.others
    (c.ending.ensures ∙ (λ i. record { kind = End ((c.number.ensures ∙ ap (λ (w : Worker). w.number) c.give_up.ensures.bare) i) c.args.outcome; sends = c.in_ok-sends.sends; ended = true })) c.in_ok-sends.ensures
