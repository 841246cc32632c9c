-- What is left where all connections were closed.
use Rattle.std.proofs.Common.{List, length, subst}
use Rattle.p2p_server.specs.declared.session.Session.{Session}
use Rattle.node_sessions.specs.Built.{AreClosed}
use Rattle.node_sessions.proofs.Crashing.{bare_fills, bare_own, bare_sessions}
use Rattle.node_sessions.proofs.sessions.Sessions.all_closed.Goals as goal

whole : (c : goal.After-close_all) → AreClosed (length c.close_all.new.sessions.items) c.args.self.now c.close_all.new.sessions.items c.args.table.now c.close_all.new.table
whole c = subst (λ (l : List Session). AreClosed (length c.close_all.new.sessions.items) l c.close_all.new.sessions.items c.args.table.now c.close_all.new.table) c.self.view_is c.close_all.ensures

pub returns-clause-sessions : goal.returns-clause-sessions
returns-clause-sessions c = λ s was now are new. bare_sessions _ _ _ _ (whole c) s was now are new

pub returns-clause-owns : goal.returns-clause-owns
returns-clause-owns c = (whole c).own

pub returns-clause-bare : goal.returns-clause-bare
returns-clause-bare c = λ rows none. bare_own _ _ _ _ (whole c) rows none

pub returns-clause-fills : goal.returns-clause-fills
returns-clause-fills c = λ key. bare_fills _ _ _ _ (whole c) key

pub returns-clause-there : goal.returns-clause-there
returns-clause-there c = (whole c).there

pub returns-clause-fed : goal.returns-clause-fed
returns-clause-fed c = (whole c).fed

pub returns-clause-others : goal.returns-clause-others
returns-clause-others c = (whole c).others

pub returns-clause-filled : goal.returns-clause-filled
returns-clause-filled c = (whole c).filled

pub returns-clause-numbers : goal.returns-clause-numbers
returns-clause-numbers c = (whole c).numbers

pub returns-clause-agrees : goal.returns-clause-agrees
returns-clause-agrees c = (whole c).agrees

pub returns-clause-bars : goal.returns-clause-bars
returns-clause-bars c = (whole c).bars

pub returns-clause-crash : goal.returns-clause-crash
returns-clause-crash c = (whole c).crash
