-- What the proof of `settings::set` needs beside the tactics.
use Rattle.std.proofs.Common.{ap, refl, subst, sym, ◌∙◌}
use Rattle.log_lines.specs.declared.entry.Topic.{Topic}
use Rattle.log_lines.specs.declared.entry.Value.{Value}
use Rattle.fleet_entries.specs.Stored.{StoreView, store_view}
use Rattle.driver_model.specs.Scripts.{IsPlainTopic, IsPlainValue}
use Rattle.driver_model.specs.ScriptSteps.{sets}
use Rattle.fleet_entries.specs.AtDriver.{EndsAtFull, GoesOn, StopsWithin}
use Rattle.fleet_entries.proofs.Ended.{on_ok}
use Rattle.fleet_entries.proofs.Starts.{always_err, on_err, start_same}
use Rattle.fleet_logs.proofs.settings.set.Goals as goal

pub set_entry-requires-clause-topic : goal.set_entry-requires-clause-topic
set_entry-requires-clause-topic g c = subst IsPlainTopic (sym c.in_ok-topic.ensures) c.requires.topic

pub set_entry-requires-clause-value : goal.set_entry-requires-clause-value
set_entry-requires-clause-value g c = subst IsPlainValue (sym c.in_ok-value.ensures) c.requires.value

pub returns : goal.returns
returns g c =
    let tells : g.row.K.Denot → StoreView = λ k. store_view (g.K.Keeper.contents k) (g.K.Keeper.parts k) (g.K.Keeper.failing k) (g.K.Keeper.faults k) in
    let so = λ (P : Topic → Value → Type 0) (p : P c.in_ok-topic.topic c.in_ok-value.value). subst (λ (v : Value). P c.args.topic.now v) c.in_ok-value.ensures (subst (λ (t : Topic). P t c.in_ok-value.value) c.in_ok-topic.ensures p) in
    record {
      ok = on_ok c.set_entry.result _ _ c.set_entry.ensures.ok (so (λ t v. GoesOn tells (λ g d. sets g c.args.repo c.args.kind t v d) c.args.running.now c.set_entry.new.running));
      full = λ r e. so (λ t v. EndsAtFull tells r (λ g d. sets g c.args.repo c.args.kind t v d) c.args.running.now c.set_entry.new.running) (c.set_entry.ensures.full r e);
      stopped = on_err c.set_entry.result _ _ c.set_entry.ensures.stopped (so (λ t v. StopsWithin tells (λ g d. sets g c.args.repo c.args.kind t v d) c.args.running.now c.set_entry.new.running));
      rest = c.set_entry.ensures.rest;
    }

pub returns-in_err-topic-clause-stopped : goal.returns-in_err-topic-clause-stopped
returns-in_err-topic-clause-stopped g c =
    let tells : g.row.K.Denot → StoreView = λ k. store_view (g.K.Keeper.contents k) (g.K.Keeper.parts k) (g.K.Keeper.failing k) (g.K.Keeper.faults k) in
    always_err _ _ (start_same tells (λ given d. sets given c.args.repo c.args.kind c.args.topic.now c.args.value.now d) c.args.running.now c.args.running.now
    (λ given d. c.drivers_only_add.ensures.sets given c.args.repo c.args.kind c.args.topic.now c.args.value.now d) refl)

pub returns-in_err-value-clause-stopped : goal.returns-in_err-value-clause-stopped
returns-in_err-value-clause-stopped g c =
    let tells : g.row.K.Denot → StoreView = λ k. store_view (g.K.Keeper.contents k) (g.K.Keeper.parts k) (g.K.Keeper.failing k) (g.K.Keeper.faults k) in
    always_err _ _ (start_same tells (λ given d. sets given c.args.repo c.args.kind c.args.topic.now c.args.value.now d) c.args.running.now c.args.running.now
    (λ given d. c.drivers_only_add.ensures.sets given c.args.repo c.args.kind c.args.topic.now c.args.value.now d) refl)
