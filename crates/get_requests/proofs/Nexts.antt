-- A get that goes on to its next peer, or is to end.
use Rattle.std.proofs.Common.{◌≡◌, ℕ, Bool, true, List, Option, Some, None, refl, sym, ap, subst, ◌∙◌}
use Rattle.std.specs.Prelude.{IfSome, length, slice_get}
use Rattle.annex_base.specs.declared.kinds.Call.{Call}
use Rattle.annex_base.specs.declared.kinds.Call.TheVariants as calls
use Rattle.run_data.specs.declared.entry.EntryKind.TheVariants.{Fault}
use Rattle.run_data.specs.declared.job.Outcome.TheVariants.{TransferRefused}
use Rattle.run_data.specs.declared.job.TransferRefusal.TheVariants as failures
use Rattle.object_store.specs.Stores.{Contents}
use Rattle.node_model.specs.Jobs
use Rattle.node_model.specs.Jobs.{to_phase}
use Rattle.node_model.specs.JobStep.{Turn, by_me, quietly}
use Rattle.node_model.specs.Look.{Effect, failed_in}
use Rattle.node_model.specs.TransferStep.{next_get}
use Rattle.node_model.specs.Turns.{goes}
use Rattle.content_lock.specs.Rows.{Rows, is_filling}
use Rattle.drop_phases.specs.Doing.{next_work}
use Rattle.transfer_turns.specs.declared.parcels.Output.{Output}
use Rattle.transfer_turns.specs.Steps.{Makes, Seen}
use Rattle.transfer_turns.proofs.Leavings.{all_stays}
use Rattle.transfer_turns.specs.Turns.{Sight, turn_in}
use Rattle.get_phases.specs.declared.getting.Ending.{Ending}
use Rattle.get_phases.specs.declared.getting.Getting.{Getting}
use Rattle.get_phases.specs.declared.getting.Phase.{Phase}
use Rattle.get_phases.specs.declared.getting.Phase.TheVariants as phases
use Rattle.get_phases.specs.Asking.{IsOfAsking}
use Rattle.get_phases.specs.Getting.{Keeps}
use Rattle.get_phases.specs.Gets.{HasFill, fill_in, outcome_of, source_in, work_of}
use Rattle.get_requests.specs.Requesting.{Approaches, IsEnding, is_open}
use Rattle.get_phases.proofs.Keeping.{fills_same, has_still}
use Rattle.get_phases.proofs.Others.{source_other}
use Rattle.get_requests.proofs.Keeping.{ended_kept}
use Rattle.get_requests.proofs.Stepping.{IsBare, at_phase, ends_made, steps_in}
use Rattle.get_requests.proofs.Requests.{IsApproach, approach_kept, approach_made, approach_next, approach_still}
use Rattle.get_requests.proofs.Firsts.{Did, sources_same}

-- ---- from peer to peer

abbrev next : Getting → Getting
next w = record w { phase = phases.Next w.job.key }

next_failed : (x : Sight) (rows : Rows) (w : Getting) (c : Contents) (part : ℕ) (right : Bool) (rest : Turn) (call : Call) (size : ℕ) → IsOfAsking size call
    → next_work (turn_in x rows c part right (Some call) rest (work_of (next w))) (quietly (Fault call (by_me (turn_in x rows c part right (Some call) rest (work_of (next w))))) None) ≡ to_phase (work_of (next w)) (Jobs.Ends (TransferRefused failures.StoreFault))
next_failed x rows w c part right rest calls.PartSize size is = refl
next_failed x rows w c part right rest calls.ReadPart size is = refl
next_failed x rows w c part right rest call size is = absurd is

next_approach : (x : Sight) (rows : Rows) (w : Getting) → IsApproach x rows (next w)
next_approach x rows w = record { gets = refl; talked = λ c part right rest sent. refl; failed = λ c part right rest call size is. next_failed x rows w c part right rest call size is }

-- by the peer that is asked next
next_so : (x : Sight) (rows : Rows) (c : Contents) (part : ℕ) (right : Bool) (rest : Turn) (w : Getting) (fails : Option Call) (s : Option ℕ) → source_in x w ≡ s
    → next_get (turn_in x rows c part right fails rest (work_of (next w))) s ≡ goes (turn_in x rows c part right fails rest (work_of (next w))) Jobs.Next
next_so x rows c part right rest w fails s es =
    let t = turn_in x rows c part right fails rest (work_of (next w)) in
    ap (next_get t) (sym es ∙ ap (λ (l : List ℕ). slice_get l (length w.causes.items)) (sym (sources_same x t w.job.peer refl refl)))

-- none is left
pub go_on_ended : (x : Sight) (rows : Rows) (k : Seen) (w w' : Getting) (out : Output) → w.phase ≡ phases.Next w.job.key → IsBare rows w → HasFill rows w → source_in x w ≡ None
    → IsEnding x w.number w.slot (TransferRefused (failures.NoSource w.causes.items)) out → w' ≡ record w { causes = w'.causes } → Did x rows rows k k w w' out
go_on_ended x rows k w w' out at own has none is same =
    at_phase w (phases.Next w.job.key) (λ u. HasFill rows u → w' ≡ record u { causes = w'.causes } → Did x rows rows k k u w' out) at (λ has same. (
      steps_in x rows k k (next w) (work_of w') out refl (λ c told part right rest tells.
          subst (λ (e : Effect). Makes x k k (work_of (next w)) (work_of w') None (turn_in x rows c part right (failed_in out.kind) rest (work_of (next w))) e out) (next_so x rows c part right rest w (failed_in out.kind) None none)
          (ends_made x rows c part right rest (next w) k k (work_of w') (TransferRefused (failures.NoSource w.causes.items)) out is own refl)),
      ended_kept x rows k k (next w) w' (TransferRefused (failures.NoSource w.causes.items)) out is (λ i. (same i).number) (λ i. (same i).slot) (λ i. (same i).job) (λ i. (same i).phase) (all_stays k) has,
    )) has same

-- it approaches the next one
pub go_on_asked : (x : Sight) (rows : Rows) (k k' : Seen) (w w' : Getting) (peer : ℕ) (out : Output) → w.phase ≡ phases.Next w.job.key → HasFill rows w → source_in x w ≡ Some peer → Approaches (is_open x w peer) peer k k' w w' out → Did x rows rows k k' w w' out
go_on_asked x rows k k' w w' peer out at has source asks =
    at_phase w (phases.Next w.job.key) (λ u. HasFill rows u → Approaches (is_open x u peer) peer k k' u w' out → Did x rows rows k k' u w' out) at (λ has a. (
      steps_in x rows k k' (next w) (work_of w') out refl (λ c told part right rest tells.
          subst (λ (e : Effect). Makes x k k' (work_of (next w)) (work_of w') None (turn_in x rows c part right (failed_in out.kind) rest (work_of (next w))) e out) (next_so x rows c part right rest w (failed_in out.kind) (Some peer) source)
          (approach_made x rows c part right rest (next w) (next_approach x rows w) k k' peer w' out a tells)),
      kept has a,
    )) has asks
  where
    kept : HasFill rows (next w) → Approaches (is_open x (next w) peer) peer k k' (next w) w' out → Keeps x None rows rows k k' (next w) w' out
    kept has a =
        let e = approach_next (is_open x (next w) peer) peer k k' (next w) w' out a in
        let still = approach_still (is_open x (next w) peer) peer k k' (next w) w' out refl a in
        approach_kept x (is_open x (next w) peer) peer rows rows k k k' (next w) w' out a (all_stays k) refl refl (fills_same (next w) w' rows has still (λ i. (e i).job))
        (has_still rows (next w) w' has still (λ i. (e i).job)) (source_other x w.job.peer (length w.causes.items) peer source)

-- ---- an end

pub ends_so : (x : Sight) (rows : Rows) (k : Seen) (w : Getting) (why : Ending) (out : Output) → w.phase ≡ phases.Ends why → IsBare rows w → HasFill rows w → IsEnding x w.number w.slot (outcome_of why) out → Did x rows rows k k w w out
ends_so x rows k w why out at own has is =
    at_phase w (phases.Ends why) (λ u. HasFill rows u → Did x rows rows k k u u out) at (λ has. (
      steps_in x rows k k (record w { phase = phases.Ends why }) (work_of (record w { phase = phases.Ends why })) out refl (λ c told part right rest tells.
          ends_made x rows c part right rest (record w { phase = phases.Ends why }) k k (work_of (record w { phase = phases.Ends why })) (outcome_of why) out is own refl),
      ended_kept x rows k k (record w { phase = phases.Ends why }) (record w { phase = phases.Ends why }) (outcome_of why) out is refl refl refl refl (all_stays k) has,
    )) has

-- it fills its own key
pub next_own : (rows : Rows) (w : Getting) (fill : List ℕ) → w.phase ≡ phases.Next fill → HasFill rows w → w.phase ≡ phases.Next w.job.key
next_own rows w fill at has = at ∙ ap phases.Next (subst (λ (ph : Phase). IfSome (fill_in ph) (λ (key : List ℕ). (key ≡ w.job.key) × (is_filling rows key ≡ true))) at has).0
