-- What the proof of `closing::shut` needs beside the tactics.
use Rattle.node_ends.specs.Ends.{name_of}
use Rattle.node_parts.proofs.Closes.{after_server, sessions_closed, shuts_client}
use Rattle.node_parts.proofs.closing.shut.Goals as goal

pub returns-then-id : goal.returns-then-id
returns-then-id c = shuts_client c.sessions_stay.ensures (name_of c.args.id) c.args.sessions.now c.args.table.now c.if-id.true c.requires.owns

pub returns : goal.returns
returns c =
    let e = c.closed.ensures in record {
      sessions = sessions_closed (name_of c.args.id) c.args.sessions.now c.closed.new.self c.if-id.false e.sessions;
      after = after_server (name_of c.args.id) c.args.table.now c.closed.new.table c.if-id.false e.after;
      numbers = e.numbers;
      owns = e.owns;
      there = e.there;
      others = e.others;
      filled = e.filled;
      fed = e.fed;
      agrees = e.agrees;
    }
