-- What the proof of `listing::reserve_all` needs beside the tactics.
use Rattle.std.proofs.Common.{◌≡◌, ◌++◌, ◌<◌, drop, length, set, take, map, sym, ap, subst, ◌∙◌, arith, length-set}
use Rattle.std.proofs.lemmas.List.{take_all, take_at, take_more_set}
use Rattle.annex_base.specs.Lists.{Each}
use Rattle.annex_base.proofs.Lists.{Each-push}
use Rattle.state_jobs.specs.Phases.{IsBelow}
use Rattle.state_jobs.specs.Works.{HasRoom, work_of}
use Rattle.state_jobs.specs.declared.phase.Phase.{Phase}
use Rattle.state_jobs.specs.declared.work.Work.{Work}
use Rattle.state_works.proofs.WorkLemmas.{Each_seen, map_set_same}
use Rattle.state_works.proofs.listing.reserve_all.Goals as goal

pub loop-work-preserved : goal.loop-work-preserved
loop-work-preserved c =
    let i = c.loop-work.work-index in
    let items = c.loop-work.work-items in
    let now = c.reserve_one.new.work in
    let within : i < length items = omega arith in
    let phase : Work → Phase = λ w. w.phase in
    record {
      same = map_set_same work_of items i now c.work-item.result within c.reserve_one.ensures.same ∙ c.loop-work.invariant.same;
      phases = map_set_same phase items i now c.work-item.result within c.reserve_one.ensures.phase ∙ c.loop-work.invariant.phases;
      room = subst (Each HasRoom) (sym (take_more_set items i now within)) (Each-push HasRoom (take i items) now c.loop-work.invariant.room c.in_ok-reserve_one.ensures.room);
    }

pub returns-in_err-reserve_one-clause-same : goal.returns-in_err-reserve_one-clause-same
returns-in_err-reserve_one-clause-same c =
    let i = c.loop-work.work-index in
    let items = c.loop-work.work-items in
    let within : i < length items = omega arith in
    let now = set items i c.reserve_one.new.work in
    let was = c.args.running.now.items in
    let end : take c.args.running.now.len (now ++ drop (length now) was) ≡ now = take_at now (drop (length now) was) c.args.running.now.len (omega (arith, length-set items i c.reserve_one.new.work)) in
    ap (map work_of) end ∙ map_set_same work_of items i c.reserve_one.new.work c.work-item.result within c.reserve_one.ensures.same ∙ c.loop-work.invariant.same ∙ ap (map work_of) c.deref_mut-work-items.ensures.value

pub returns-in_err-reserve_one-clause-below : goal.returns-in_err-reserve_one-clause-below
returns-in_err-reserve_one-clause-below c = λ limit all.
    let i = c.loop-work.work-index in
    let items = c.loop-work.work-items in
    let within : i < length items = omega arith in
    let phase : Work → Phase = λ w. w.phase in
    let now = set items i c.reserve_one.new.work in
    let was = c.args.running.now.items in
    let end : take c.args.running.now.len (now ++ drop (length now) was) ≡ now = take_at now (drop (length now) was) c.args.running.now.len (omega (arith, length-set items i c.reserve_one.new.work)) in
    subst (Each (λ (w : Work). IsBelow limit w.phase)) (sym end)
    (Each_seen (IsBelow limit) phase was now
    (map_set_same phase items i c.reserve_one.new.work c.work-item.result within c.reserve_one.ensures.phase ∙ c.loop-work.invariant.phases ∙ ap (map phase) c.deref_mut-work-items.ensures.value) all)

pub returns-clause-below : goal.returns-clause-below
returns-clause-below c = λ limit all.
    let phase : Work → Phase = λ w. w.phase in
    let items = c.loop-work.work-items in
    let was = c.args.running.now.items in
    let end : take c.args.running.now.len (items ++ drop (length items) was) ≡ items = take_at items (drop (length items) was) c.args.running.now.len (omega arith) in
    subst (Each (λ (w : Work). IsBelow limit w.phase)) (sym end)
    (Each_seen (IsBelow limit) phase was items (c.loop-work.invariant.phases ∙ ap (map phase) c.deref_mut-work-items.ensures.value) all)

pub returns-clause-room : goal.returns-clause-room
returns-clause-room c =
    let items = c.loop-work.work-items in
    let was = c.args.running.now.items in
    let end : take c.args.running.now.len (items ++ drop (length items) was) ≡ items = take_at items (drop (length items) was) c.args.running.now.len (omega arith) in
    subst (Each HasRoom) (take_all c.loop-work.work-index items (omega arith) ∙ sym end) c.loop-work.invariant.room
