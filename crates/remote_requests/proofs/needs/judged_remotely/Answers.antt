-- The peers, by the judgement.
use Rattle.std.proofs.Common.{[], sym, ap, ◌∙◌}
use Rattle.std.specs.Prelude.{find}
use Rattle.drop_proof.specs.declared.rule.Side.TheVariants.{Remote}
use Rattle.drop_proof.specs.Judging.{least_end}
use Rattle.drop_judging.specs.Judging.{asks_of, evidence_of}
use Rattle.remote_requests.proofs.RemoteChoices.{found_remotely, one_other, room_others}
use Rattle.remote_requests.proofs.RemoteOwings.{none_all, peer_all, target_all}
use Rattle.remote_requests.proofs.needs.judged_remotely.Goals as goal

pub returns-in-Enough-clause-does : goal.returns-in-Enough-clause-does
returns-in-Enough-clause-does g c =
    let read = g.H.Here.reading c.args.here.now in
    let w = c.args.worker.now in
    target_all read (g.H.Here.ends c.args.here.now) w c.args.target c.requires.remote c.need.result c.deref-3.result.now c.need.ensures
    (c.deref-3.ensures.value ∙ (c.in_ok-items.ensures.known ∙ ap (λ l. evidence_of Remote read w l []) (c.deref.ensures.value ∙ c.in_ok-candidates.ensures.all)))
    c.first_end-end.result (c.judge.ensures.enough c.in-Enough.end c.in-Enough.is) (c.first_end-end.ensures ∙ ap least_end (c.deref-2.ensures.value ∙ sym c.deref-3.ensures.value)) c.target_room.result c.target_room.ensures

pub returns-in-Some-clause-does : goal.returns-in-Some-clause-does
returns-in-Some-clause-does g c =
    let read = g.H.Here.reading c.args.here.now in
    let w = c.args.worker.now in
    peer_all read (g.H.Here.ends c.args.here.now) w c.args.target c.requires.remote c.need.result c.deref-3.result.now c.need.ensures
    (c.deref-3.ensures.value ∙ (c.in_ok-items.ensures.known ∙ ap (λ l. evidence_of Remote read w l []) (c.deref.ensures.value ∙ c.in_ok-candidates.ensures.all)))
    c.in-Some.peer (c.judge.ensures.lacking c.in-Lacking.counted c.in-Lacking.needed c.in-Lacking.full c.in-Lacking.full_needed c.in-Lacking.is).0
    (ap (find (asks_of read w)) (sym (c.deref-in-Lacking.ensures.value ∙ c.in_ok-candidates.ensures.all)) ∙ (sym c.next.ensures ∙ c.in-Some.is)) c.single.result c.single.ensures

pub returns-clause-does : goal.returns-clause-does
returns-clause-does g c =
    let read = g.H.Here.reading c.args.here.now in
    let w = c.args.worker.now in
    none_all read (g.H.Here.ends c.args.here.now) w c.args.target c.requires.remote c.need.result c.deref-3.result.now c.need.ensures
    (c.deref-3.ensures.value ∙ (c.in_ok-items.ensures.known ∙ ap (λ l. evidence_of Remote read w l []) (c.deref.ensures.value ∙ c.in_ok-candidates.ensures.all)))
    (c.judge.ensures.lacking c.in-Lacking.counted c.in-Lacking.needed c.in-Lacking.full c.in-Lacking.full_needed c.in-Lacking.is).0
    (ap (find (asks_of read w)) (sym (c.deref-in-Lacking.ensures.value ∙ c.in_ok-candidates.ensures.all)) ∙ (sym c.next.ensures ∙ c.in-None.is)) c.locked.result c.locked.ensures.does

pub returns-in-Enough-clause-others : goal.returns-in-Enough-clause-others
returns-in-Enough-clause-others g c =
    room_others (g.H.Here.reading c.args.here.now) (g.H.Here.ends c.args.here.now) c.args.worker.now c.args.target c.first_end-end.result c.target_room.result c.requires.other c.target_room.ensures

pub returns-in-Some-clause-others : goal.returns-in-Some-clause-others
returns-in-Some-clause-others g c =
    let read = g.H.Here.reading c.args.here.now in
    let w = c.args.worker.now in
    one_other read c.in-Some.peer c.single.result
    (found_remotely read w c.args.target c.in-Some.peer c.requires.own (ap (find (asks_of read w)) (sym (c.deref-in-Lacking.ensures.value ∙ c.in_ok-candidates.ensures.all)) ∙ (sym c.next.ensures ∙ c.in-Some.is))) c.single.ensures
