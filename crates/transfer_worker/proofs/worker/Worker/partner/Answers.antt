-- A get awaits a frame wherever it talks.
use Rattle.std.proofs.Common.{ap, sym, ◌∙◌}
use Rattle.node_model.specs.Jobs.{partner}
use Rattle.get_phases.proofs.Losses.{awaits_partner}
use Rattle.transfer_worker.specs.declared.worker.Worker.{Worker}
use Rattle.transfer_worker.specs.Workers.{work_of}
use Rattle.transfer_worker.proofs.worker.Worker.partner.Goals as goal

pub returns-in-Gets : goal.returns-in-Gets
returns-in-Gets c = c.awaits.ensures ∙ (awaits_partner c.in-Gets.getting c.in-Gets.getting.phase ∙ ap (λ (w : Worker). partner (work_of w).what.peer (work_of w).phase) (sym c.in-Gets.is))
