-- What the proof of `listing::move_all` needs beside the tactics.
use Rattle.std.proofs.Common.{◌≡◌, ◌≢◌, ◌+◌, ◌++◌, ◌<◌, ◌^◌, drop, get_or, length, map, set, take, sym, ap, subst, ◌∙◌, arith}
use Rattle.std.proofs.lemmas.List.{get_or-map, get_or-set_other, length-map, map-set, take_all, take_at, take_more_set}
use Rattle.std.proofs.lemmas.List.Edits.{map_over_more}
use Rattle.annex_base.specs.Lists.{Each}
use Rattle.annex_base.proofs.Lists.{Each-get_or, Each-push}
use Rattle.node_model.specs.Jobs.{work_after}
use Rattle.state_jobs.specs.Phases.{IsBelow}
use Rattle.state_jobs.specs.Works.{HasRoom, work_of}
use Rattle.state_jobs.specs.declared.work.Work.{Work}
use Rattle.state_works.proofs.listing.move_all.Goals as goal

pub move_one-requires-clause-room : goal.move_one-requires-clause-room
move_one-requires-clause-room c =
    let i = c.loop-work.work-index in
    let d = c.work-item.result in
    let first = c.deref_mut-work-items.result.now in
    subst HasRoom (sym (c.loop-work.invariant.rest i d (omega arith))) (Each-get_or HasRoom first i d (omega arith) (subst (Each HasRoom) (sym c.deref_mut-work-items.ensures.value) c.requires.room))

pub move_one-requires-clause-small : goal.move_one-requires-clause-small
move_one-requires-clause-small c =
    let i = c.loop-work.work-index in
    let d = c.work-item.result in
    let first = c.deref_mut-work-items.result.now in
    let P : Work → Type 0 = λ w. IsBelow (2 ^ 127) w.phase in
    subst P (sym (c.loop-work.invariant.rest i d (omega arith))) (Each-get_or P first i d (omega arith) (subst (Each P) (sym c.deref_mut-work-items.ensures.value) c.requires.small))

pub loop-work-preserved : goal.loop-work-preserved
loop-work-preserved c =
    let i = c.loop-work.work-index in
    let items = c.loop-work.work-items in
    let first = c.deref_mut-work-items.result.now in
    let now = c.move_one.new.work in
    let d = c.work-item.result in
    let within : i < length items = omega arith in
    let same : get_or items i d ≡ get_or first i d = c.loop-work.invariant.rest i d (omega arith) in
    record {
      works = λ x rows ends.
          let g = work_after x c.args.repo c.args.entry.now in
          let long = length-map first work_of in
          map-set work_of items i now ∙ ap (set (map work_of items) i) (c.move_one.ensures.work x rows ends)
          ∙ map_over_more g (map work_of first) (map work_of items) i (work_of (get_or items i d)) (omega arith) (c.loop-work.invariant.works x rows ends)
          (sym (get_or-map work_of items i d (work_of (get_or items i d)) within));
      rest = λ k e le. let other : k ≢ i = omega arith in get_or-set_other items i k now e other ∙ c.loop-work.invariant.rest k e (omega arith);
      small = λ limit le all.
          let P : Work → Type 0 = λ w. IsBelow (limit + 2 ^ 64) w.phase in
          let Q : Work → Type 0 = λ w. IsBelow limit w.phase in
          subst (Each P) (sym (take_more_set items i now within))
          (Each-push P (take i items) now (c.loop-work.invariant.small limit le all)
          (c.move_one.ensures.small limit le (subst Q (sym same) (Each-get_or Q first i d (omega arith) all))));
    }

pub returns-clause-small : goal.returns-clause-small
returns-clause-small c = λ limit le all.
    let P : Work → Type 0 = λ w. IsBelow (limit + 2 ^ 64) w.phase in
    let Q : Work → Type 0 = λ w. IsBelow limit w.phase in
    let items = c.loop-work.work-items in
    let was = c.args.running.now.items in
    let end : take c.args.running.now.len (items ++ drop (length items) was) ≡ items = take_at items (drop (length items) was) c.args.running.now.len (omega arith) in
    subst (Each P) (take_all c.loop-work.work-index items (omega arith) ∙ sym end) (c.loop-work.invariant.small limit le (subst (Each Q) (sym c.deref_mut-work-items.ensures.value) all))
