-- A new session stands at the end.
use Rattle.std.proofs.Common.{List, ◌*◌, ◌+◌, ◌<◌, sym, ap, subst}
use Rattle.p2p_server.specs.declared.Place.{Place}
use Rattle.p2p_server.specs.declared.session.Session.{Session}
use Rattle.node_sessions.specs.Built.{AreBuilt}
use Rattle.node_sessions.proofs.Building.{built_push}
use Rattle.node_sessions.proofs.beginning.push_one.Goals as goal

pub returns-clause-built : goal.returns-clause-built
returns-clause-built c = λ b.
    let p = c.args.place.now in
    let e = c.new.ensures in
    subst (λ (l : List Session). AreBuilt p.id p.version p.locks (p.peer * 4 + p.slot + 1) l) (sym {A = List Session} c.push_reserved.ensures.items)
    (built_push p.id p.version p.locks (p.peer * 4 + p.slot) c.args.sessions.now.items c.new.result b (ap (λ (q : Place). q.peer * 4 + q.slot) e.place)
    (record {
      id_is = ap (λ (q : Place). q.id) e.place;
      version_is = ap (λ (q : Place). q.version) e.place;
      locks_are = ap (λ (q : Place). q.locks) e.place;
      slot = subst (λ (q : Place). q.slot < 4) (sym e.place) c.requires.slot;
      session = e.session;
      share = e.share;
      fed = e.fed;
    }))
