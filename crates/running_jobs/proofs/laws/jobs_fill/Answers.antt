-- The law.
use Rattle.std.proofs.Common.{List, sym, ap, ◌∙◌}
use Rattle.std.specs.List.{list_any}
use Rattle.node_model.specs.Jobs.{Work}
use Rattle.transfer_turns.specs.Steps.{fills_key}
use Rattle.running_jobs.proofs.Filling.{fills_works}
use Rattle.running_jobs.proofs.laws.jobs_fill.Goals as goal

pub returns : goal.returns
returns c s st jobs key are = fills_works jobs.running key ∙ ap (λ (ws : List Work). list_any (λ (w : Work). fills_key w key) ws) (sym are.works)
