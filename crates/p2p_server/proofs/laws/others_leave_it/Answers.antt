-- By the phase of the session.
use Rattle.session_state.proofs.Holding.{kept_fill, kept_part}
use Rattle.p2p_server.proofs.laws.others_leave_it.Goals as goal

pub returns-clause-fills : goal.returns-clause-fills
returns-clause-fills c = λ s was now keep has. kept_fill s.state.doing was now keep has

pub returns-clause-fed : goal.returns-clause-fed
returns-clause-fed c = λ s was now same fed. kept_part s.state.doing was now same fed
