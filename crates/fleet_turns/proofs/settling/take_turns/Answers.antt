-- What the proof of `settling::take_turns` needs beside the tactics.
use Rattle.std.proofs.Common.{rules, subst, sym, ℕ, ◌<◌, ◌≡◌}
use Rattle.fleet_entries.specs.Stored.{StoreView, store_view}
use Rattle.driver_model.specs.Driving.{turns}
use Rattle.fleet_entries.specs.AtDriver.{GoesOn, most_lines}
use Rattle.fleet_entries.proofs.Driving.{driven_on, same_count}
use Rattle.fleet_turns.proofs.Rounds.{one_more_turn}
use Rattle.fleet_entries.proofs.Ending.{AtFull, later_full}
use Rattle.fleet_turns.proofs.Ending.{turns_end}
use Rattle.fleet_entries.proofs.Few.{turns_few}
use Rattle.fleet_entries.proofs.Full.{ok_or_err, rest_then, same_err}
use Rattle.fleet_entries.proofs.Starts.{AtStart, always_err, later_start}
use Rattle.fleet_turns.proofs.settling.take_turns.Goals as goal

pub turn-requires-clause-there : goal.turn-requires-clause-there
turn-requires-clause-there g c =
    let tells : g.row.K.Denot → StoreView = λ k. store_view (g.K.Keeper.contents k) (g.K.Keeper.parts k) (g.K.Keeper.failing k) (g.K.Keeper.faults k) in
    subst (λ (n : ℕ). c.args.repo < n) (sym (same_count tells (λ given d. turns given c.args.repo c.loop.counter d) c.args.running.now c.loop.running c.requires.driven c.loop.invariant.goes)) c.requires.there

pub turn-requires-clause-driven : goal.turn-requires-clause-driven
turn-requires-clause-driven g c =
    let tells : g.row.K.Denot → StoreView = λ k. store_view (g.K.Keeper.contents k) (g.K.Keeper.parts k) (g.K.Keeper.failing k) (g.K.Keeper.faults k) in
    driven_on tells most_lines most_lines (λ given d. turns given c.args.repo c.loop.counter d) c.args.running.now c.loop.running (λ given d. turns_few most_lines given c.args.repo c.loop.counter d) c.requires.driven c.loop.invariant.goes

pub loop-preserved : goal.loop-preserved
loop-preserved g c =
    let tells : g.row.K.Denot → StoreView = λ k. store_view (g.K.Keeper.contents k) (g.K.Keeper.parts k) (g.K.Keeper.failing k) (g.K.Keeper.faults k) in
    record {
      goes = one_more_turn tells c.args.repo c.loop.counter c.args.running.now c.loop.running c.turn.new.running c.fleets_settle.ensures.turns c.loop.invariant.goes c.in_ok-turn.ensures.ok;
      rest = rest_then c.args.running.now c.loop.running c.turn.new.running c.loop.invariant.rest c.turn.ensures.rest;
    }

pub returns : goal.returns
returns g c =
    let tells : g.row.K.Denot → StoreView = λ k. store_view (g.K.Keeper.contents k) (g.K.Keeper.parts k) (g.K.Keeper.failing k) (g.K.Keeper.faults k) in
    let all : c.loop.counter ≡ c.args.number = search rules in
    record {
      ok = subst (λ (n : ℕ). GoesOn tells (λ given d. turns given c.args.repo n d) c.args.running.now c.loop.running) all c.loop.invariant.goes;
      full = λ r e. absurd (ok_or_err _ _ e);
      stopped = tt;
      rest = c.loop.invariant.rest;
    }

pub returns-in_err-turn-clause-full : goal.returns-in_err-turn-clause-full
returns-in_err-turn-clause-full g c =
    let tells : g.row.K.Denot → StoreView = λ k. store_view (g.K.Keeper.contents k) (g.K.Keeper.parts k) (g.K.Keeper.failing k) (g.K.Keeper.faults k) in
    let less : c.loop.counter < c.args.number = search rules in
    λ r e. turns_end tells (AtFull r) c.args.repo c.loop.counter c.args.number c.args.running.now c.loop.running c.turn.new.running (later_full c.runs_are_cut_where_histories_are_full.ensures.later r) c.drivers_only_add.ensures.turn c.fleets_settle.ensures.turns less
    c.loop.invariant.goes (c.turn.ensures.full r (same_err c.turn.result c.from_residual.result c.in_err-turn.field-0.0 _ c.in_err-turn.was c.from_residual.ensures.1 e))

pub returns-in_err-turn-clause-stopped : goal.returns-in_err-turn-clause-stopped
returns-in_err-turn-clause-stopped g c =
    let tells : g.row.K.Denot → StoreView = λ k. store_view (g.K.Keeper.contents k) (g.K.Keeper.parts k) (g.K.Keeper.failing k) (g.K.Keeper.faults k) in
    let less : c.loop.counter < c.args.number = search rules in
    always_err _ _ (turns_end tells AtStart c.args.repo c.loop.counter c.args.number c.args.running.now c.loop.running c.turn.new.running later_start c.drivers_only_add.ensures.turn c.fleets_settle.ensures.turns less
    c.loop.invariant.goes c.in_err-turn.ensures.stopped)

pub returns-in_err-turn-clause-rest : goal.returns-in_err-turn-clause-rest
returns-in_err-turn-clause-rest g c = rest_then c.args.running.now c.loop.running c.turn.new.running c.loop.invariant.rest c.turn.ensures.rest
