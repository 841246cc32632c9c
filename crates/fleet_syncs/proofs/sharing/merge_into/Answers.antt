-- What the proof of `sharing::merge_into` needs beside the tactics.
use Rattle.std.proofs.Common.{ℕ, List, refl, subst, sym}
use Rattle.fleet_entries.specs.Stored.{StoreView, store_view}
use Rattle.driver_model.specs.Syncs.{each_merges}
use Rattle.fleet_entries.specs.AtDriver.{EndsAtFull, GoesOn, StopsWithin}
use Rattle.fleet_entries.proofs.Ended.{on_ok}
use Rattle.fleet_entries.proofs.Full.{ok_or_err, rest_where_same}
use Rattle.fleet_entries.proofs.Starts.{on_err}
use Rattle.fleet_syncs.proofs.Others.{none_among, one_among}
use Rattle.fleet_syncs.proofs.sharing.merge_into.Goals as goal

pub returns-then-other-repo : goal.returns-then-other-repo
returns-then-other-repo g c =
    let tells : g.row.K.Denot → StoreView = λ k. store_view (g.K.Keeper.contents k) (g.K.Keeper.parts k) (g.K.Keeper.failing k) (g.K.Keeper.faults k) in
    record {
      ok = subst (λ (others : List ℕ). GoesOn tells (λ given d. each_merges c.args.repo others d) c.args.running.now c.args.running.now) (sym (none_among c.args.repo c.args.other c.if-other-repo.true)) (λ given d stands. stands);
      full = λ r e. absurd (ok_or_err _ _ e);
      stopped = tt;
      rest = rest_where_same c.args.running.now c.args.running.now refl;
    }

pub returns : goal.returns
returns g c =
    let tells : g.row.K.Denot → StoreView = λ k. store_view (g.K.Keeper.contents k) (g.K.Keeper.parts k) (g.K.Keeper.failing k) (g.K.Keeper.faults k) in
    let one = one_among c.args.repo c.args.other c.if-other-repo.false in
    record {
      ok = on_ok c.merge.result _ _ c.merge.ensures.ok (λ goes. subst (λ (others : List ℕ). GoesOn tells (λ given d. each_merges c.args.repo others d) c.args.running.now c.merge.new.running) (sym one) goes);
      full = λ r e. subst (λ (others : List ℕ). EndsAtFull tells r (λ given d. each_merges c.args.repo others d) c.args.running.now c.merge.new.running) (sym one) (c.merge.ensures.full r e);
      stopped = on_err c.merge.result _ _ c.merge.ensures.stopped (λ stops. subst (λ (others : List ℕ). StopsWithin tells (λ given d. each_merges c.args.repo others d) c.args.running.now c.merge.new.running) (sym one) stops);
      rest = c.merge.ensures.rest;
    }
