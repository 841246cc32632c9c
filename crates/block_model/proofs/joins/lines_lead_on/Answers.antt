-- The lines before it lead as they did.
use Rattle.driver_model.specs.Rounds.{settles}
use Rattle.std.proofs.Common.{refl}
use Rattle.script_commands.specs.declared.command.Command.TheVariants.{Par}
use Rattle.block_model.proofs.Leads.{lead_on}
use Rattle.block_model.proofs.joins.lines_lead_on.Goals as goal

pub returns : goal.returns
returns c = record {
  line = λ g lines line first d after x y. lead_on g lines line first d after x y;
  block = λ g lines xs first d mid x y. lead_on g lines (Par xs) first d (settles g mid) x (mid, y, refl);
}
