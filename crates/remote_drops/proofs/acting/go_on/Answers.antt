-- By the judgement.
use Rattle.std.proofs.Common.{sym, ap, subst, ◌∙◌, []}
use Rattle.std.specs.Prelude.{find}
use Rattle.drop_proof.specs.declared.rule.Side.TheVariants.{Remote}
use Rattle.run_data.specs.declared.job.Outcome.TheVariants.{Refused}
use Rattle.drop_phases.specs.declared.phase.Phase.{Phase}
use Rattle.drop_judging.specs.Judging.{asks_of, evidence_of}
use Rattle.drop_phases.specs.Leaving.{store}
use Rattle.drop_phases.specs.Feeding.{FitsRemote}
use Rattle.drop_phases.specs.Working.{sight}
use Rattle.remote_requests.proofs.RemoteLeavings.{spoken_well}
use Rattle.remote_drops.proofs.RemoteCalls.{asks_makes, lacks_makes, orders_makes}
use Rattle.remote_drops.proofs.RemoteGoings.{asks_did, lacks_did_remotely, orders_did}
use Rattle.remote_requests.proofs.RemoteLeavings.{speaks_numbered}
use Rattle.remote_requests.proofs.RemoteBegun.{any_gone, end_gone}
use Rattle.remote_requests.proofs.RemoteChoices.{found_remotely}
use Rattle.annex_base.proofs.Lists.{find_member}
use Rattle.drop_phases.specs.Working.{heard_in}
use Rattle.remote_requests.specs.Remote.{remote_candidates}
use Rattle.remote_requests.proofs.Apart.{end_stays, to_target, to_unheard, unasked_unheard}
use Rattle.remote_drops.proofs.acting.go_on.Goals as goal

pub returns-in-Enough-clause-did : goal.returns-in-Enough-clause-did
returns-in-Enough-clause-did g c = λ number.
    let read = g.H.Here.reading c.args.here.now in
    let w = c.args.worker.now in
    orders_did read (g.H.Here.ends c.args.here.now) c.args.time number w c.go_to.new.worker c.args.target c.requires.stands.remote c.requires.at c.need.result c.deref-3.result.now c.need.ensures
    (c.deref-3.ensures.value ∙ (c.in_ok-items.ensures.known ∙ ap (λ l. evidence_of Remote read w l []) (c.deref.ensures.value ∙ c.in_ok-candidates.ensures.all)))
    c.args.table.now (store (g.K.Keeper.contents c.args.keeper.now) (g.K.Keeper.records c.args.keeper.now) (g.K.Keeper.faults c.args.keeper.now)) c.go_to.result (c.judge.ensures.enough c.in-Enough.end c.in-Enough.is)
    c.go_to.ensures.does c.go_to.ensures.speaks c.go_to.ensures.err (subst (λ (ph : Phase). FitsRemote ph w.token) c.requires.at c.requires.stands.fits) c.requires.stands.owns c.requires.stands.agrees

pub returns-in-Some-clause-did : goal.returns-in-Some-clause-did
returns-in-Some-clause-did g c = λ number.
    let read = g.H.Here.reading c.args.here.now in
    let w = c.args.worker.now in
    asks_did read (g.H.Here.ends c.args.here.now) c.args.time number w c.go_to-in-Some.new.worker c.args.target c.requires.stands.remote c.requires.at c.need.result c.deref-3.result.now c.need.ensures
    (c.deref-3.ensures.value ∙ (c.in_ok-items.ensures.known ∙ ap (λ l. evidence_of Remote read w l []) (c.deref.ensures.value ∙ c.in_ok-candidates.ensures.all)))
    c.args.table.now (store (g.K.Keeper.contents c.args.keeper.now) (g.K.Keeper.records c.args.keeper.now) (g.K.Keeper.faults c.args.keeper.now)) c.in-Some.peer c.go_to-in-Some.result
    (c.judge.ensures.lacking c.in-Lacking.counted c.in-Lacking.needed c.in-Lacking.full c.in-Lacking.full_needed c.in-Lacking.is).0
    (ap (find (asks_of read w)) (sym (c.deref-in-Lacking.ensures.value ∙ c.in_ok-candidates.ensures.all)) ∙ (sym c.next.ensures ∙ c.in-Some.is))
    c.go_to-in-Some.ensures.does c.go_to-in-Some.ensures.speaks c.go_to-in-Some.ensures.err (subst (λ (ph : Phase). FitsRemote ph w.token) c.requires.at c.requires.stands.fits) c.requires.stands.owns c.requires.stands.agrees

pub returns-clause-did : goal.returns-clause-did
returns-clause-did g c = λ number.
    let read = g.H.Here.reading c.args.here.now in
    let w = c.args.worker.now in
    lacks_did_remotely read (g.H.Here.ends c.args.here.now) c.args.time number w c.finish.new.worker c.args.target c.requires.stands.remote c.requires.at c.need.result c.deref-3.result.now c.need.ensures
    (c.deref-3.ensures.value ∙ (c.in_ok-items.ensures.known ∙ ap (λ l. evidence_of Remote read w l []) (c.deref.ensures.value ∙ c.in_ok-candidates.ensures.all)))
    c.args.table.now c.finish.new.table (store (g.K.Keeper.contents c.args.keeper.now) (g.K.Keeper.records c.args.keeper.now) (g.K.Keeper.faults c.args.keeper.now)) (store (g.K.Keeper.contents c.finish.new.keeper) (g.K.Keeper.records c.finish.new.keeper) (g.K.Keeper.faults c.finish.new.keeper)) (Refused c.in_ok-why-in-None.why) c.finish.result
    (c.judge.ensures.lacking c.in-Lacking.counted c.in-Lacking.needed c.in-Lacking.full c.in-Lacking.full_needed c.in-Lacking.is).0
    (ap (find (asks_of read w)) (sym (c.deref-in-Lacking.ensures.value ∙ c.in_ok-candidates.ensures.all)) ∙ (sym c.next.ensures ∙ c.in-None.is))
    c.in_ok-why-in-None.ensures c.finish.ensures.did

pub returns-in-Enough-clause-numbered : goal.returns-in-Enough-clause-numbered
returns-in-Enough-clause-numbered g c = speaks_numbered c.args.worker.now c.go_to.new.worker c.go_to.result c.go_to.ensures.speaks

pub returns-in-Some-clause-numbered : goal.returns-in-Some-clause-numbered
returns-in-Some-clause-numbered g c = speaks_numbered c.args.worker.now c.go_to-in-Some.new.worker c.go_to-in-Some.result c.go_to-in-Some.ensures.speaks

pub returns-in-Enough-clause-calls : goal.returns-in-Enough-clause-calls
returns-in-Enough-clause-calls g c = λ number.
    orders_makes (sight (g.H.Here.reading c.args.here.now) (g.H.Here.ends c.args.here.now) c.args.time number) (g.K.Keeper.contents c.args.keeper.now) c.args.table.now c.args.worker.now (g.K.Keeper.failing c.args.keeper.now) (g.K.Keeper.failing c.args.keeper.now) c.args.target c.requires.stands.remote c.requires.at c.need.result c.deref-3.result.now c.need.ensures
    (c.deref-3.ensures.value ∙ (c.in_ok-items.ensures.known ∙ ap (λ l. evidence_of Remote (g.H.Here.reading c.args.here.now) c.args.worker.now l []) (c.deref.ensures.value ∙ c.in_ok-candidates.ensures.all))) c.go_to.result
    (c.judge.ensures.enough c.in-Enough.end c.in-Enough.is) (spoken_well c.args.worker.now c.go_to.new.worker c.go_to.result c.go_to.ensures.speaks)

pub returns-in-Some-clause-calls : goal.returns-in-Some-clause-calls
returns-in-Some-clause-calls g c = λ number.
    asks_makes (sight (g.H.Here.reading c.args.here.now) (g.H.Here.ends c.args.here.now) c.args.time number) (g.K.Keeper.contents c.args.keeper.now) c.args.table.now c.args.worker.now (g.K.Keeper.failing c.args.keeper.now) (g.K.Keeper.failing c.args.keeper.now) c.args.target c.requires.stands.remote c.requires.at c.need.result c.deref-3.result.now c.need.ensures
    (c.deref-3.ensures.value ∙ (c.in_ok-items.ensures.known ∙ ap (λ l. evidence_of Remote (g.H.Here.reading c.args.here.now) c.args.worker.now l []) (c.deref.ensures.value ∙ c.in_ok-candidates.ensures.all))) c.in-Some.peer c.go_to-in-Some.result
    (c.judge.ensures.lacking c.in-Lacking.counted c.in-Lacking.needed c.in-Lacking.full c.in-Lacking.full_needed c.in-Lacking.is).0
    (ap (find (asks_of (g.H.Here.reading c.args.here.now) c.args.worker.now)) (sym (c.deref-in-Lacking.ensures.value ∙ c.in_ok-candidates.ensures.all)) ∙ (sym c.next.ensures ∙ c.in-Some.is)) (spoken_well c.args.worker.now c.go_to-in-Some.new.worker c.go_to-in-Some.result c.go_to-in-Some.ensures.speaks)

pub returns-clause-calls : goal.returns-clause-calls
returns-clause-calls g c = λ number.
    lacks_makes (sight (g.H.Here.reading c.args.here.now) (g.H.Here.ends c.args.here.now) c.args.time number) (g.K.Keeper.contents c.args.keeper.now) c.args.table.now c.args.worker.now (g.K.Keeper.failing c.args.keeper.now) (g.K.Keeper.failing c.finish.new.keeper) c.args.target c.requires.stands.remote c.requires.at c.need.result c.deref-3.result.now c.need.ensures
    (c.deref-3.ensures.value ∙ (c.in_ok-items.ensures.known ∙ ap (λ l. evidence_of Remote (g.H.Here.reading c.args.here.now) c.args.worker.now l []) (c.deref.ensures.value ∙ c.in_ok-candidates.ensures.all))) (Refused c.in_ok-why-in-None.why) c.finish.result
    (c.judge.ensures.lacking c.in-Lacking.counted c.in-Lacking.needed c.in-Lacking.full c.in-Lacking.full_needed c.in-Lacking.is).0
    (ap (find (asks_of (g.H.Here.reading c.args.here.now) c.args.worker.now)) (sym (c.deref-in-Lacking.ensures.value ∙ c.in_ok-candidates.ensures.all)) ∙ (sym c.next.ensures ∙ c.in-None.is)) (λ p fails rest. c.in_ok-why-in-None.ensures c.args.time number c.args.table.now p fails rest) c.finish.ensures.calls

pub go_to-requires-in-Some-clause-other : goal.go_to-requires-in-Some-clause-other
go_to-requires-in-Some-clause-other g c =
    let read = g.H.Here.reading c.args.here.now in
    let w = c.args.worker.now in
    found_remotely read w c.args.target c.in-Some.peer c.requires.own (ap (find (asks_of read w)) (sym (c.deref-in-Lacking.ensures.value ∙ c.in_ok-candidates.ensures.all)) ∙ (sym c.next.ensures ∙ c.in-Some.is))

pub lack-requires-clause-apart : goal.lack-requires-clause-apart
lack-requires-clause-apart g c = c.requires.other.1

pub returns-in-Enough-clause-begun : goal.returns-in-Enough-clause-begun
returns-in-Enough-clause-begun g c = any_gone (g.H.Here.reading c.args.here.now) c.args.worker.now c.go_to.new.worker c.go_to.result c.go_to.ensures.begun

pub returns-in-Some-clause-begun : goal.returns-in-Some-clause-begun
returns-in-Some-clause-begun g c = any_gone (g.H.Here.reading c.args.here.now) c.args.worker.now c.go_to-in-Some.new.worker c.go_to-in-Some.result c.go_to-in-Some.ensures.begun

pub returns-clause-begun : goal.returns-clause-begun
returns-clause-begun g c = end_gone (g.H.Here.reading c.args.here.now) c.args.worker.now c.finish.new.worker c.finish.result c.requires.stands.fits c.finish.ensures.begun

pub returns-in-Enough-clause-apart : goal.returns-in-Enough-clause-apart
returns-in-Enough-clause-apart g c = to_target c.args.target c.args.worker.now c.go_to.new.worker c.go_to.result c.go_to.ensures.apart

pub returns-in-Some-clause-apart : goal.returns-in-Some-clause-apart
returns-in-Some-clause-apart g c =
    let read = g.H.Here.reading c.args.here.now in
    let w = c.args.worker.now in
    let found = find_member (asks_of read w) (remote_candidates read c.args.target) c.in-Some.peer (ap (find (asks_of read w)) (sym (c.deref-in-Lacking.ensures.value ∙ c.in_ok-candidates.ensures.all)) ∙ (sym c.next.ensures ∙ c.in-Some.is)) in
    to_unheard c.args.target c.in-Some.peer w c.go_to-in-Some.new.worker c.go_to-in-Some.result (unasked_unheard (read.standing c.in-Some.peer) (heard_in w.heard c.in-Some.peer) found.1) c.go_to-in-Some.ensures.apart

pub returns-clause-apart : goal.returns-clause-apart
returns-clause-apart g c = end_stays c.args.target c.args.worker.now c.finish.new.worker c.finish.result c.finish.ensures.apart
