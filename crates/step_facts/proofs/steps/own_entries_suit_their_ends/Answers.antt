-- What own entries take and send.
use Rattle.std.proofs.Common.{◌≡◌, false, sym, ap, ◌∙◌}
use Rattle.annex_base.proofs.Lists.{Each-from_members}
use Rattle.node_model.specs.Ends.{EndName, is_opening, may_take}
use Rattle.run_model.specs.States.{end_at}
use Rattle.step_facts.proofs.EndEpochs.{own_takes, server_sends}
use Rattle.step_facts.proofs.ServerEnds.{takes_end}
use Rattle.step_facts.proofs.steps.own_entries_suit_their_ends.Goals as goal

pub returns-clause-takes : goal.returns-clause-takes
returns-clause-takes c s past words e f a own took at = ap (λ (b : EndName). may_take (end_at past s.number b) f) (sym (takes_end a f at)) ∙ own_takes s past words e f own took

pub returns-clause-sends : goal.returns-clause-sends
returns-clause-sends c s past words e own = Each-from_members (λ g. g.up ≡ false → is_opening g.body ≡ false) e.sent (λ g among down. (server_sends s past words e own g among down).1)
