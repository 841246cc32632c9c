-- What a job's repository owes its branch since the job was told something (own).
use Rattle.std.specs.Prelude.{◌≡◌, List, Option, Some, None}
use Rattle.std.specs.Option.{ForSome, option_map, option_to_list}
use Rattle.p2p_wire.specs.declared.message.Message.{Message}
use Rattle.link_ring.specs.Ends.{EndView}
use Rattle.node_model.specs.OwedLines.{told_frame}
use Rattle.owed_lines.specs.declared.line.ToldLine.{ToldLine}
use Rattle.owed_lines.specs.Lines.{line_of}
use Rattle.session_state.specs.declared.incoming.Incoming.{Incoming}
use Rattle.session_state.specs.declared.incoming.Incoming.TheVariants as incoming
use Rattle.drop_phases.specs.declared.turn.Taken.{Taken}
use Rattle.drop_phases.specs.declared.turn.Taken.TheVariants as takens
use Rattle.node_tasks.specs.declared.readiness.Told.{Told}
use Rattle.node_tasks.specs.declared.readiness.Told.TheVariants as tolds
use Rattle.node_tasks.specs.declared.task.Task.{Task}
use Rattle.node_tasks.specs.Tasks.{work_now}
use Rattle.node_tasks.specs.Telling.{frame_in, takes_in}

-- the message that is told, if one is
abbrev pub message_taken : Taken → Option Message
message_taken (takens.Message m) = Some m
message_taken taken = None

abbrev pub message_heard : Option Incoming → Option Message
message_heard (Some (incoming.Message m)) = Some m
message_heard i = None

abbrev pub message_in : Told → Option Message
message_in (tolds.Feed f) = message_taken f.taken
message_in (tolds.Arrival x) = message_heard x.incoming

-- a job that was told this owes this line, if any: by the frame that its step takes, and of the peer from whose end it takes it
pub record Owes (links : List EndView) (t : Task) (x : Told) (o : Option ToldLine) : Type 0 where
  pub line : option_to_list (option_map line_of o) ≡ told_frame (Some (work_now t)) (frame_in links t x)
  pub of_peer : ForSome o (λ l. takes_in x ≡ Some l.repo)
