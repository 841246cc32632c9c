-- What new sessions are.
use Rattle.node_sessions.proofs.Building.{new_fed, new_fills, new_own, new_sessions, new_there}
use Rattle.node_sessions.proofs.sessions.Sessions.new.Goals as goal

pub returns-clause-sessions : goal.returns-clause-sessions
returns-clause-sessions c = λ s h. new_sessions s (record { id = c.args.id; version = c.args.version; locks = c.args.locks; peer = 0; slot = 0 }) c.args.id c.args.version c.args.locks c.args.number c.args.count _ _ h c.in_ok-list.ensures.places c.in_ok-list.ensures.built

pub returns-clause-owns : goal.returns-clause-owns
returns-clause-owns c = λ rows kept. new_own _ _ _ _ _ c.in_ok-list.ensures.built rows kept

pub returns-clause-fills : goal.returns-clause-fills
returns-clause-fills c = λ key. new_fills _ _ _ _ _ c.in_ok-list.ensures.built key

pub returns-clause-fed : goal.returns-clause-fed
returns-clause-fed c = λ p. new_fed _ _ _ _ _ c.in_ok-list.ensures.built p

pub returns-clause-there : goal.returns-clause-there
returns-clause-there c = λ links len. new_there c.ends_are_there.ensures.there _ _ _ c.args.count _ c.in_ok-list.ensures.built links len
