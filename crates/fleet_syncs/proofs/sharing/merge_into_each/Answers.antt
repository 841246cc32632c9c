-- What the proof of `sharing::merge_into_each` needs beside the tactics.
use Rattle.std.proofs.Common.{rules, ℕ, ◌≡◌, ◌<◌, length, refl, subst, sym}
use Rattle.std.specs.List.{range_with_len}
use Rattle.fleet_entries.specs.Stored.{StoreView, store_view}
use Rattle.driver_model.specs.Syncs.{each_merges}
use Rattle.fleet_entries.specs.AtDriver.{most_lines}
use Rattle.fleet_entries.proofs.Driving.{driven_on, same_count}
use Rattle.fleet_entries.proofs.Ending.{AtFull, later_full}
use Rattle.fleet_entries.proofs.Few.{each_merges_few}
use Rattle.fleet_entries.proofs.Full.{ok_or_err, rest_then, same_err}
use Rattle.fleet_entries.proofs.Starts.{AtStart, always_err, later_start}
use Rattle.fleet_syncs.specs.Others.{others_among}
use Rattle.fleet_syncs.proofs.Others.{merged_walk, others_done, others_end, others_on}
use Rattle.fleet_syncs.proofs.sharing.merge_into_each.Goals as goal

pub merge_into-requires-clause-there : goal.merge_into-requires-clause-there
merge_into-requires-clause-there g c =
    let tells : g.row.K.Denot → StoreView = λ k. store_view (g.K.Keeper.contents k) (g.K.Keeper.parts k) (g.K.Keeper.failing k) (g.K.Keeper.faults k) in
    subst (λ (n : ℕ). c.args.repo < n) (sym (same_count tells (λ given d. each_merges c.args.repo (others_among c.args.repo (range_with_len 0 c.loop-other.other)) d) c.args.running.now c.loop-other.running c.requires.driven c.loop-other.invariant.goes)) c.requires.there

pub merge_into-requires-clause-other : goal.merge_into-requires-clause-other
merge_into-requires-clause-other g c =
    let tells : g.row.K.Denot → StoreView = λ k. store_view (g.K.Keeper.contents k) (g.K.Keeper.parts k) (g.K.Keeper.failing k) (g.K.Keeper.faults k) in
    let below : c.loop-other.other < length c.args.running.now.nodes = search rules in
    subst (λ (n : ℕ). c.loop-other.other < n) (sym (same_count tells (λ given d. each_merges c.args.repo (others_among c.args.repo (range_with_len 0 c.loop-other.other)) d) c.args.running.now c.loop-other.running c.requires.driven c.loop-other.invariant.goes)) below

pub merge_into-requires-clause-driven : goal.merge_into-requires-clause-driven
merge_into-requires-clause-driven g c =
    let tells : g.row.K.Denot → StoreView = λ k. store_view (g.K.Keeper.contents k) (g.K.Keeper.parts k) (g.K.Keeper.failing k) (g.K.Keeper.faults k) in
    driven_on tells most_lines most_lines (λ given d. each_merges c.args.repo (others_among c.args.repo (range_with_len 0 c.loop-other.other)) d) c.args.running.now c.loop-other.running (λ given d. each_merges_few most_lines c.args.repo (others_among c.args.repo (range_with_len 0 c.loop-other.other)) d) c.requires.driven c.loop-other.invariant.goes

pub loop-other-preserved : goal.loop-other-preserved
loop-other-preserved g c =
    let tells : g.row.K.Denot → StoreView = λ k. store_view (g.K.Keeper.contents k) (g.K.Keeper.parts k) (g.K.Keeper.failing k) (g.K.Keeper.faults k) in
    record {
      goes = others_on tells (λ given others d. each_merges c.args.repo others d) c.args.repo c.loop-other.other c.args.running.now c.loop-other.running c.merge_into.new.running (merged_walk c.args.repo c.drivers_only_add.ensures.each_merges) c.loop-other.invariant.goes c.in_ok-merge_into.ensures.ok;
      rest = rest_then c.args.running.now c.loop-other.running c.merge_into.new.running c.loop-other.invariant.rest c.merge_into.ensures.rest;
    }

pub returns : goal.returns
returns g c =
    let tells : g.row.K.Denot → StoreView = λ k. store_view (g.K.Keeper.contents k) (g.K.Keeper.parts k) (g.K.Keeper.failing k) (g.K.Keeper.faults k) in
    let all : c.loop-other.other ≡ length c.args.running.now.nodes = search rules in
    record {
      ok = others_done tells (λ given others d. each_merges c.args.repo others d) c.args.repo c.loop-other.other c.args.running.now c.loop-other.running all c.loop-other.invariant.goes;
      full = λ r e. absurd (ok_or_err _ _ e);
      stopped = tt;
      rest = c.loop-other.invariant.rest;
    }

pub returns-in_err-merge_into-clause-full : goal.returns-in_err-merge_into-clause-full
returns-in_err-merge_into-clause-full g c =
    let tells : g.row.K.Denot → StoreView = λ k. store_view (g.K.Keeper.contents k) (g.K.Keeper.parts k) (g.K.Keeper.failing k) (g.K.Keeper.faults k) in
    let below : c.loop-other.other < length c.args.running.now.nodes = search rules in
    λ r e. others_end tells (AtFull r) (λ given others d. each_merges c.args.repo others d) c.args.repo c.loop-other.other (length c.args.running.now.nodes) c.args.running.now c.loop-other.running c.merge_into.new.running (later_full c.runs_are_cut_where_histories_are_full.ensures.later r) (merged_walk c.args.repo c.drivers_only_add.ensures.each_merges)
    refl below c.loop-other.invariant.goes (c.merge_into.ensures.full r (same_err c.merge_into.result c.from_residual.result c.in_err-merge_into.field-0.0 _ c.in_err-merge_into.was c.from_residual.ensures.1 e))

pub returns-in_err-merge_into-clause-stopped : goal.returns-in_err-merge_into-clause-stopped
returns-in_err-merge_into-clause-stopped g c =
    let tells : g.row.K.Denot → StoreView = λ k. store_view (g.K.Keeper.contents k) (g.K.Keeper.parts k) (g.K.Keeper.failing k) (g.K.Keeper.faults k) in
    let below : c.loop-other.other < length c.args.running.now.nodes = search rules in
    always_err _ _ (others_end tells AtStart (λ given others d. each_merges c.args.repo others d) c.args.repo c.loop-other.other (length c.args.running.now.nodes) c.args.running.now c.loop-other.running c.merge_into.new.running later_start (merged_walk c.args.repo c.drivers_only_add.ensures.each_merges)
    refl below c.loop-other.invariant.goes c.in_err-merge_into.ensures.stopped)

pub returns-in_err-merge_into-clause-rest : goal.returns-in_err-merge_into-clause-rest
returns-in_err-merge_into-clause-rest g c = rest_then c.args.running.now c.loop-other.running c.merge_into.new.running c.loop-other.invariant.rest c.merge_into.ensures.rest
