-- A fleet whose node was told that a call of its store is to fail has come to where the driver is.
use Rattle.std.proofs.Common.{◌≡◌, ℕ, List, ◌++◌, length, sym, ap, ◌∙◌}
use Rattle.std.specs.Prelude.{drop}
use Rattle.std.specs.Option.{option_map}
use Rattle.std.proofs.Math.Seq.{drop-length}
use Rattle.std.proofs.lemmas.List.{append-nil}
use Rattle.annex_base.specs.declared.kinds.Call.{Call}
use Rattle.object_store.specs.Calls.{one_more}
use Rattle.run_data.specs.declared.entry.Entry.{Entry}
use Rattle.driver_model.specs.Driver.{Driver, DriverInput}
use Rattle.driver_model.specs.ScriptSteps.{will_fail}
use Rattle.driver_model.specs.Sound.{StaysSound}
use Rattle.joined_nodes.specs.Nodes.{NodeView}
use Rattle.joined_nodes.specs.Stored.{StoreView}
use Rattle.fleet_model.specs.Fleets.{FleetView, HasCome, IsNodeOf}
use Rattle.fleet_model.specs.Steps.{OneGoesOn}
use Rattle.fleet_model.proofs.Beside.{failing_node, other_failing}
use Rattle.fleet_model.proofs.Coming.{by_number, stood_before}

-- a step without an entry leaves the run as it was
run_stays : {K : Type 0} (r : ℕ) (n m : NodeView K) (was after : FleetView K) → OneGoesOn r n m was after → m.history ≡ n.history → after.run ≡ was.run
run_stays {K} r n m was after step same = step.run ∙ (λ i. record was.run { entries = stays i })
  where
    stays : was.run.entries ++ drop (length n.history) m.history ≡ was.run.entries
    stays = ap (λ (history : List Entry). was.run.entries ++ drop (length n.history) history) same ∙ (ap (λ (more : List Entry). was.run.entries ++ more) (drop-length n.history) ∙ append-nil was.run.entries)

pub fail_comes : {K : Type 0} (tells : K → StoreView) (g : DriverInput) (d : Driver) (r : ℕ) (call : Call) (n m : NodeView K) (was after : FleetView K)
    → HasCome tells g d was → OneGoesOn r n m was after → m ≡ record n { keeper = m.keeper }
    → (tells m.keeper).contents ≡ (tells n.keeper).contents → (tells m.keeper).parts ≡ (tells n.keeper).parts → (tells m.keeper).failing ≡ option_map (one_more call) (tells n.keeper).failing
    → StaysSound g d (will_fail r call d) → HasCome tells g (will_fail r call d) after
fail_comes {K} tells g d r call n m was after h step but contents parts failing sound = record {
  run = run_stays r n m was after step (ap (λ (x : NodeView K). x.history) but) ∙ h.run;
  sound = sound h.sound h.fits;
  fits = h.fits;
  count = step.count ∙ h.count;
  each = by_number (λ q x. IsNodeOf tells g (will_fail r call d) q x) after.nodes r m step.there (failing_node tells g d r call n m (h.each r n step.before) but contents parts failing)
      (λ q x apart at. other_failing tells g d r q call x apart (h.each q x (sym (step.others q apart) ∙ at)));
  ends = λ q a v q_in a_in apart at. h.ends q a v q_in a_in apart (stood_before r q n m was after step links a v at);
  words = λ q a v q_in a_in apart client at. h.words q a v q_in a_in apart client (stood_before r q n m was after step links a v at);
  selves = λ q a v at_self at. h.selves q a v at_self (stood_before r q n m was after step links a v at);
} where
  links : m.parts.links ≡ n.parts.links
  links = ap (λ (x : NodeView K). x.parts.links) but
