-- What the proof of `forcing::needs_no_peer` needs beside the tactics.
use Rattle.std.proofs.Common.{sym, ap, ℕ, Option, ◌∙◌}
use Rattle.step_judging.specs.Rules.{is_nil}
use Rattle.std.specs.Prelude.{option_to_list}
use Rattle.job_makes.specs.Turns.{turn_in}
use Rattle.state_jobs.specs.Phases.{part_of}
use Rattle.state_jobs.specs.declared.phase.Part.{Part}
use Rattle.node_model.specs.Turns.{peer_needs}
use Rattle.step_makes.proofs.forcing.needs_no_peer.Goals as goal

pub returns-in-Gets : goal.returns-in-Gets
returns-in-Gets c = λ s st. c.lists_none.ensures ∙ ap (λ (o : Option ℕ). is_nil (option_to_list o)) (c.next_source.ensures s st) ∙ ap (λ (p : Part). is_nil (peer_needs (turn_in c.args.turn.now s st) (part_of p))) (sym c.in-Gets.is)

pub returns-in-Puts : goal.returns-in-Puts
returns-in-Puts c = λ s st. c.lists_none-in-Puts.ensures ∙ ap (λ (p : Part). is_nil (peer_needs (turn_in c.args.turn.now s st) (part_of p))) (sym c.in-Puts.is)

pub returns-in-Drops : goal.returns-in-Drops
returns-in-Drops c = λ s st. ap (λ (p : Part). is_nil (peer_needs (turn_in c.args.turn.now s st) (part_of p))) (sym c.in-Drops.is)
