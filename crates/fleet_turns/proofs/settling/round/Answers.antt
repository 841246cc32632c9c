-- What the proof of `settling::round` needs beside the tactics.
use Rattle.std.proofs.Common.{rules, ℕ, ◌≡◌, ◌<◌, length, refl, subst, sym}
use Rattle.std.specs.List.{range_with_len}
use Rattle.fleet_entries.specs.Stored.{StoreView, store_view}
use Rattle.driver_model.specs.Rounds.{turns_of}
use Rattle.fleet_entries.specs.AtDriver.{most_lines}
use Rattle.fleet_entries.proofs.Driving.{driven_on, same_count}
use Rattle.fleet_turns.proofs.Rounds.{one_more_of_round, whole_round}
use Rattle.fleet_entries.proofs.Ending.{AtFull, later_full}
use Rattle.fleet_turns.proofs.Ending.{round_ends}
use Rattle.fleet_entries.proofs.Few.{turns_of_few}
use Rattle.fleet_entries.proofs.Full.{ok_or_err, rest_then, same_err}
use Rattle.fleet_entries.proofs.Starts.{AtStart, always_err, later_start}
use Rattle.fleet_turns.proofs.settling.round.Goals as goal

pub turn-requires-clause-there : goal.turn-requires-clause-there
turn-requires-clause-there g c =
    let tells : g.row.K.Denot → StoreView = λ k. store_view (g.K.Keeper.contents k) (g.K.Keeper.parts k) (g.K.Keeper.failing k) (g.K.Keeper.faults k) in
    let below : c.loop-repo.repo < length c.args.running.now.nodes = search rules in
    subst (λ (n : ℕ). c.loop-repo.repo < n) (sym (same_count tells (λ given d. turns_of given (range_with_len 0 c.loop-repo.repo) d) c.args.running.now c.loop-repo.running c.requires.driven c.loop-repo.invariant.goes)) below

pub turn-requires-clause-driven : goal.turn-requires-clause-driven
turn-requires-clause-driven g c =
    let tells : g.row.K.Denot → StoreView = λ k. store_view (g.K.Keeper.contents k) (g.K.Keeper.parts k) (g.K.Keeper.failing k) (g.K.Keeper.faults k) in
    driven_on tells most_lines most_lines (λ given d. turns_of given (range_with_len 0 c.loop-repo.repo) d) c.args.running.now c.loop-repo.running
    (λ given d. turns_of_few most_lines given (range_with_len 0 c.loop-repo.repo) d) c.requires.driven c.loop-repo.invariant.goes

pub loop-repo-preserved : goal.loop-repo-preserved
loop-repo-preserved g c =
    let tells : g.row.K.Denot → StoreView = λ k. store_view (g.K.Keeper.contents k) (g.K.Keeper.parts k) (g.K.Keeper.failing k) (g.K.Keeper.faults k) in
    record {
      goes = one_more_of_round tells c.loop-repo.repo c.args.running.now c.loop-repo.running c.turn.new.running c.fleets_settle.ensures.turn c.loop-repo.invariant.goes c.in_ok-turn.ensures.ok;
      rest = rest_then c.args.running.now c.loop-repo.running c.turn.new.running c.loop-repo.invariant.rest c.turn.ensures.rest;
    }

pub returns : goal.returns
returns g c =
    let tells : g.row.K.Denot → StoreView = λ k. store_view (g.K.Keeper.contents k) (g.K.Keeper.parts k) (g.K.Keeper.failing k) (g.K.Keeper.faults k) in
    let all : c.loop-repo.repo ≡ length c.args.running.now.nodes = search rules in
    record {
      ok = whole_round tells c.loop-repo.repo c.args.running.now c.loop-repo.running all c.loop-repo.invariant.goes;
      full = λ r e. absurd (ok_or_err _ _ e);
      stopped = tt;
      rest = c.loop-repo.invariant.rest;
    }

pub returns-in_err-turn-clause-full : goal.returns-in_err-turn-clause-full
returns-in_err-turn-clause-full g c =
    let tells : g.row.K.Denot → StoreView = λ k. store_view (g.K.Keeper.contents k) (g.K.Keeper.parts k) (g.K.Keeper.failing k) (g.K.Keeper.faults k) in
    let below : c.loop-repo.repo < length c.args.running.now.nodes = search rules in
    λ r e. round_ends tells (AtFull r) c.loop-repo.repo (length c.args.running.now.nodes) c.args.running.now c.loop-repo.running c.turn.new.running (later_full c.runs_are_cut_where_histories_are_full.ensures.later r) c.drivers_only_add.ensures.turn c.fleets_settle.ensures.turn
    refl below c.loop-repo.invariant.goes (c.turn.ensures.full r (same_err c.turn.result c.from_residual.result c.in_err-turn.field-0.0 _ c.in_err-turn.was c.from_residual.ensures.1 e))

pub returns-in_err-turn-clause-stopped : goal.returns-in_err-turn-clause-stopped
returns-in_err-turn-clause-stopped g c =
    let tells : g.row.K.Denot → StoreView = λ k. store_view (g.K.Keeper.contents k) (g.K.Keeper.parts k) (g.K.Keeper.failing k) (g.K.Keeper.faults k) in
    let below : c.loop-repo.repo < length c.args.running.now.nodes = search rules in
    always_err _ _ (round_ends tells AtStart c.loop-repo.repo (length c.args.running.now.nodes) c.args.running.now c.loop-repo.running c.turn.new.running later_start c.drivers_only_add.ensures.turn c.fleets_settle.ensures.turn
    refl below c.loop-repo.invariant.goes c.in_err-turn.ensures.stopped)

pub returns-in_err-turn-clause-rest : goal.returns-in_err-turn-clause-rest
returns-in_err-turn-clause-rest g c = rest_then c.args.running.now c.loop-repo.running c.turn.new.running c.loop-repo.invariant.rest c.turn.ensures.rest
