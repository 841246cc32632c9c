-- One among the sessions is closed.
use Rattle.std.proofs.Common.{List, ap, subst, ◌∙◌}
use Rattle.std.specs.Prelude.{slice_get}
use Rattle.p2p_server.specs.declared.session.Session.{Session}
use Rattle.node_sessions.specs.Built.{ClosesAmong}
use Rattle.node_sessions.proofs.Leaving.{closes_fed, closes_filled, closes_own, closes_places, closes_sessions, closes_there}
use Rattle.node_sessions.proofs.sessions.Sessions.closed.Goals as goal

-- what was closed, among the sessions
whole : (c : goal.After-close_at) → ClosesAmong c.find_session-at.result c.args.self.now c.close_at.new.sessions.items c.args.table.now c.close_at.new.table
whole c = subst (λ (l : List Session). ClosesAmong c.find_session-at.result l c.close_at.new.sessions.items c.args.table.now c.close_at.new.table) c.self.view_is c.close_at.ensures

pub returns-clause-sessions : goal.returns-clause-sessions
returns-clause-sessions c = λ s st e are.
    closes_sessions c.find_session-at.result c.args.self.now c.close_at.new.sessions.items c.args.table.now c.close_at.new.table c.args.peer c.args.slot (whole c)
    (c.find_session-at.ensures.here (whole c).was (ap (λ (l : List Session). slice_get l c.find_session-at.result) (c.deref.ensures.value ∙ c.self.view_is) ∙ (whole c).here)) c.requires.owns s st e are

pub returns-clause-owns : goal.returns-clause-owns
returns-clause-owns c = closes_own _ _ _ _ _ (whole c) c.requires.owns

pub returns-clause-places : goal.returns-clause-places
returns-clause-places c = closes_places _ _ _ _ _ (whole c)

pub returns-clause-there : goal.returns-clause-there
returns-clause-there c = λ links there. closes_there _ _ _ _ _ (whole c) links there

pub returns-clause-filled : goal.returns-clause-filled
returns-clause-filled c = λ others f. closes_filled _ _ _ _ _ (whole c) c.requires.owns others f

pub returns-clause-fed : goal.returns-clause-fed
returns-clause-fed c = λ p fed. closes_fed _ _ _ _ _ (whole c) p fed
