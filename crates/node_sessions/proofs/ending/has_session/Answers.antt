-- What the proof of `ending::has_session` needs beside the tactics.
use Rattle.std.proofs.Common.{sym, ◌∙◌}
use Rattle.node_sessions.proofs.Finding.{found_among, none_among}
use Rattle.node_sessions.proofs.ending.has_session.Goals as goal

pub returns-clause-yes : goal.returns-clause-yes
returns-clause-yes c = λ yes. found_among c.args.peer c.args.slot c.args.sessions.now (sym c.any_of.ensures ∙ yes)

pub returns-clause-no : goal.returns-clause-no
returns-clause-no c = λ no. none_among c.args.peer c.args.slot c.args.sessions.now (sym c.any_of.ensures ∙ no)
