-- What the proof of `growth::runs_grow` needs beside the tactics.
use Rattle.growth_laws.proofs.RunsGrow.{command_done, mark_added, own_turn_added, turn_added, wait_added}
use Rattle.growth_laws.proofs.RunStarts.{begins, start_is_run}
use Rattle.growth_laws.proofs.growth.runs_grow.Goals as goal

pub returns-clause-first : goal.returns-clause-first
returns-clause-first c = begins

pub returns-clause-entry : goal.returns-clause-entry
returns-clause-entry c = turn_added

pub returns-clause-turn : goal.returns-clause-turn
returns-clause-turn c = own_turn_added

pub returns-clause-wait : goal.returns-clause-wait
returns-clause-wait c = wait_added

pub returns-clause-tree : goal.returns-clause-tree
returns-clause-tree c = mark_added

pub returns-clause-command : goal.returns-clause-command
returns-clause-command c = command_done

pub returns-clause-start : goal.returns-clause-start
returns-clause-start c = start_is_run
