-- What the proof of `settling::settle` needs beside the tactics.
use Rattle.std.proofs.Common.{rules, ℕ, ◌≡◌, ◌+◌, sym, subst, ◌∙◌}
use Rattle.fleet_entries.specs.Stored.{StoreView, store_view}
use Rattle.fleet_turns.proofs.Rounds.{HasGone, driven_rounds, few_rounds, idle_then, last_round, one_more_round, settled_at_most, settled_early}
use Rattle.fleet_entries.proofs.Ending.{AtFull, later_full}
use Rattle.fleet_turns.proofs.Ending.{one_more_may_be, settles_end}
use Rattle.fleet_entries.proofs.Full.{ok_or_err, rest_then, same_err}
use Rattle.fleet_entries.proofs.Starts.{AtStart, always_err, later_start}
use Rattle.fleet_turns.proofs.settling.settle.Goals as goal

pub round-requires : goal.round-requires
round-requires g c =
    let tells : g.row.K.Denot → StoreView = λ k. store_view (g.K.Keeper.contents k) (g.K.Keeper.parts k) (g.K.Keeper.failing k) (g.K.Keeper.faults k) in
    record { driven = driven_rounds tells c.loop.counter c.loop.idle c.args.running.now c.loop.running c.requires.driven c.loop.invariant.gone }

pub returns-then-idle-ge2 : goal.returns-then-idle-ge2
returns-then-idle-ge2 g c =
    let tells : g.row.K.Denot → StoreView = λ k. store_view (g.K.Keeper.contents k) (g.K.Keeper.parts k) (g.K.Keeper.failing k) (g.K.Keeper.faults k) in
    record {
      ok = settled_early tells c.loop.counter c.loop.idle c.args.running.now c.loop.running c.fleets_settle.ensures.early (few_rounds c.loop.counter c.loop-test.true) c.if-idle-ge2.true c.loop.invariant.gone;
      full = λ r e. absurd (ok_or_err _ _ e);
      stopped = tt;
      rest = c.loop.invariant.rest;
    }

pub loop-preserved : goal.loop-preserved
loop-preserved g c =
    let tells : g.row.K.Denot → StoreView = λ k. store_view (g.K.Keeper.contents k) (g.K.Keeper.parts k) (g.K.Keeper.failing k) (g.K.Keeper.faults k) in
    record {
      gone = subst (λ (k : ℕ). HasGone tells (c.loop.counter + 1) k c.args.running.now c.round.new.running)
          (sym (c.idle_rounds-idle.ensures ∙ (λ i. idle_then (c.made-before.ensures i) (c.made.ensures i) c.loop.idle)))
          (one_more_round tells c.loop.counter c.loop.idle c.args.running.now c.loop.running c.round.new.running c.fleets_settle.ensures.round c.if-idle-ge2.false c.loop.invariant.gone c.in_ok-round.ensures.ok);
      rest = rest_then c.args.running.now c.loop.running c.round.new.running c.loop.invariant.rest c.round.ensures.rest;
    }

pub returns : goal.returns
returns g c =
    let tells : g.row.K.Denot → StoreView = λ k. store_view (g.K.Keeper.contents k) (g.K.Keeper.parts k) (g.K.Keeper.failing k) (g.K.Keeper.faults k) in
    let all : c.loop.counter ≡ 4194304 = search rules in
    record {
      ok = settled_at_most tells c.loop.idle c.args.running.now c.loop.running c.fleets_settle.ensures.most (last_round tells c.loop.counter c.loop.idle c.args.running.now c.loop.running all c.loop.invariant.gone);
      full = λ r e. absurd (ok_or_err _ _ e);
      stopped = tt;
      rest = c.loop.invariant.rest;
    }

pub returns-in_err-round-clause-full : goal.returns-in_err-round-clause-full
returns-in_err-round-clause-full g c =
    let tells : g.row.K.Denot → StoreView = λ k. store_view (g.K.Keeper.contents k) (g.K.Keeper.parts k) (g.K.Keeper.failing k) (g.K.Keeper.faults k) in
    λ r e. settles_end tells (AtFull r) c.loop.counter c.loop.idle c.args.running.now c.loop.running c.round.new.running (later_full c.runs_are_cut_where_histories_are_full.ensures.later r) c.drivers_only_add.ensures.round c.fleets_settle.ensures.round c.fleets_settle.ensures.most
    c.if-idle-ge2.false (one_more_may_be c.loop.counter c.loop-test.true) c.loop.invariant.gone (c.round.ensures.full r (same_err c.round.result c.from_residual.result c.in_err-round.field-0.0 _ c.in_err-round.was c.from_residual.ensures.1 e))

pub returns-in_err-round-clause-stopped : goal.returns-in_err-round-clause-stopped
returns-in_err-round-clause-stopped g c =
    let tells : g.row.K.Denot → StoreView = λ k. store_view (g.K.Keeper.contents k) (g.K.Keeper.parts k) (g.K.Keeper.failing k) (g.K.Keeper.faults k) in
    always_err _ _ (settles_end tells AtStart c.loop.counter c.loop.idle c.args.running.now c.loop.running c.round.new.running later_start c.drivers_only_add.ensures.round c.fleets_settle.ensures.round c.fleets_settle.ensures.most
    c.if-idle-ge2.false (one_more_may_be c.loop.counter c.loop-test.true) c.loop.invariant.gone c.in_err-round.ensures.stopped)

pub returns-in_err-round-clause-rest : goal.returns-in_err-round-clause-rest
returns-in_err-round-clause-rest g c = rest_then c.args.running.now c.loop.running c.round.new.running c.loop.invariant.rest c.round.ensures.rest
