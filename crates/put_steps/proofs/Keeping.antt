-- What a copy's step keeps, and steps from a phase that is known.
use Rattle.std.proofs.Common.{◌≡◌, ℕ, Bool, true, false, List, [], Option, Some, None, Result, Ok, Err, IfOk, refl, sym, ap, subst, ◌∙◌}
use Rattle.std.specs.Prelude.{OnErr}
use Rattle.annex_base.specs.declared.kinds.Call.{Call}
use Rattle.run_data.specs.declared.entry.By.TheVariants.{Job as by_job}
use Rattle.run_data.specs.declared.entry.EntryKind.{EntryKind}
use Rattle.run_data.specs.declared.entry.EntryKind.TheVariants.{End, Fault, Talk}
use Rattle.run_data.specs.declared.job.Outcome.{Outcome}
use Rattle.node_model.specs.Jobs
use Rattle.node_model.specs.Jobs.{Part, Puts, is_move}
use Rattle.node_model.specs.Look.{Effect, as_told}
use Rattle.content_lock.specs.CallsMade.{MakesCalls}
use Rattle.content_lock.specs.Rows.{Rows}
use Rattle.session_state.specs.declared.incoming.Incoming.{Incoming}
use Rattle.session_state.proofs.Calling.{as_it_was, makes_none}
use Rattle.transfer_turns.specs.declared.parcels.Output.{Output}
use Rattle.transfer_turns.specs.declared.parcels.Parcel.{Parcel}
use Rattle.transfer_turns.specs.Parcels.{ArePiecesOf, SendsView}
use Rattle.transfer_turns.specs.Partners.{StaysApart}
use Rattle.transfer_turns.specs.Steps.{LeavesAll, LeavesBut, Seen, StepsIn}
use Rattle.transfer_turns.specs.Turns.{Sight, output_of}
use Rattle.transfer_turns.proofs.Hearings.{Asks}
use Rattle.transfer_turns.proofs.Leavings.{all_stays, but_none, leaves_but, none_filled}
use Rattle.put_steps.specs.declared.phase.Ending.TheVariants as endings
use Rattle.put_steps.specs.declared.phase.Phase.{Phase}
use Rattle.put_steps.specs.declared.phase.Phase.TheVariants as phases
use Rattle.put_steps.specs.declared.putting.Putting.{Putting}
use Rattle.put_steps.specs.Puts.{is_done, part_of, phase_of, work_of}
use Rattle.put_steps.specs.Putting.{Does, Keeps, SeesNoPart, Stays}
use Rattle.put_steps.specs.Stepping.{Told}

-- the step is that of the job that is told this, and keeps what it is to
abbrev pub Did : Sight → Option Incoming → Rows → Seen → Seen → Putting → Putting → Output → Type 0
Did x i rows k k' w w' out = StepsIn x rows k k' (work_of w) (work_of w') i SeesNoPart out × Keeps x rows k k' w w' out

-- ---- what is kept

pub talk_keeps : (x : Sight) (rows : Rows) (k k' : Seen) (w : Putting) (next : Phase) (version : ℕ) (items : List Parcel) (ended : Bool) → LeavesBut None k k' → ended ≡ is_done next → ArePiecesOf k.contents (work_of w) items
    → StaysApart x (work_of w) (work_of (record w { phase = next; version = version })) → (is_move w.job.kind ≡ false → is_done next ≡ false)
    → Keeps x rows k k' w (record w { phase = next; version = version }) (output_of (Talk (Some w.number)) items ended)
talk_keeps x rows k k' w next version items ended but done pieces apart undone = record {
  leaves = leaves_but rows rows k k' (work_of w) (work_of (record w { phase = next; version = version })) (output_of (Talk (Some w.number)) items ended) tt refl refl refl refl refl refl (none_filled (work_of w) (work_of (record w { phase = next; version = version })) _ refl refl) refl but;
  parts = but.parts;
  still = tt;
  pieces = pieces;
  ended = done;
  apart = apart;
  undone = λ stays was. undone stays;
}

pub end_keeps : (x : Sight) (rows : Rows) (k k' : Seen) (w : Putting) (outcome : Outcome) (sends : SendsView) → LeavesBut None k k' → ArePiecesOf k.contents (work_of w) sends.items
    → Keeps x rows k k' w w (record { kind = End w.number outcome; sends = sends; ended = true })
end_keeps x rows k k' w outcome sends but pieces = record {
  leaves = leaves_but rows rows k k' (work_of w) (work_of w) (record { kind = End w.number outcome; sends = sends; ended = true }) tt refl refl refl refl refl refl (none_filled (work_of w) (work_of w) _ refl refl) refl but;
  parts = but.parts;
  still = tt;
  pieces = pieces;
  ended = refl;
  apart = λ named was. was;
  undone = λ stays was. was;
}

pub fault_keeps : (x : Sight) (rows : Rows) (k k' : Seen) (w : Putting) (call : Call) → LeavesBut (Some call) k k' → Keeps x rows k k' w (record w { phase = phases.Ends endings.StoreFault }) (output_of (Fault call (by_job w.number)) [] false)
fault_keeps x rows k k' w call but = record {
  leaves = leaves_but rows rows k k' (work_of w) (work_of (record w { phase = phases.Ends endings.StoreFault })) (output_of (Fault call (by_job w.number)) [] false) tt refl refl refl refl refl refl
      (none_filled (work_of w) (work_of (record w { phase = phases.Ends endings.StoreFault })) _ refl refl) refl but;
  parts = but.parts;
  still = tt;
  pieces = tt;
  ended = refl;
  apart = λ named was. tt;
  undone = λ stays was. refl;
}

pub but_all : (k k' : Seen) → LeavesBut None k k' → LeavesAll k k'
but_all k k' but = record { contents = but.contents; parts = but.parts; records = but.records; files = but.files; later = but.later; failing = but.left ∙ sym (as_it_was k.failing) }

-- ---- from a phase

abbrev pub at_phase : Putting → Phase → Putting
at_phase w ph = record w { phase = ph }

from_phase : (P : Putting → Type 0) (w : Putting) (ph : Phase) → w.phase ≡ ph → P (record w { phase = ph }) → P w
from_phase P w ph is p = subst (λ (q : Phase). P (record w { phase = q })) (sym is) p

-- from where it stands to where it goes
pub did_from : (x : Sight) (i : Option Incoming) (rows : Rows) (k k' : Seen) (w w' : Putting) (kind : EntryKind) (items : List Parcel) (ended : Bool) (next : Phase) (version : ℕ) (out : Output) (ph : Phase) → w.phase ≡ ph → out ≡ output_of kind items ended
    → w' ≡ record w { phase = next; version = version } → Did x i rows k k' (record w { phase = ph }) (record w { phase = next; version = version }) (output_of kind items ended) → Did x i rows k k' w w' out
did_from x i rows k k' w w' kind items ended next version out ph is says worker d =
    subst (λ (o : Output). Did x i rows k k' w w' o) (sym says)
    (subst (λ (u : Putting). Did x i rows k k' w u (output_of kind items ended)) (sym worker)
    (subst (λ (q : Phase). Did x i rows k k' (record w { phase = q }) (record w { phase = next; version = version }) (output_of kind items ended)) (sym is) d))

-- a step that was told so does what is done from the phase where it stands
pub told_did : (x : Sight) (i : Option Incoming) (rows : Rows) (k k' : Seen) (w w' : Putting) (items : List Parcel) (next : Phase) (version : ℕ) (out : Output) (ph : Phase) → w.phase ≡ ph → Told w w' items next version out
    → Did x i rows k k' (record w { phase = ph }) (record w { phase = next; version = version }) (output_of (Talk (Some w.number)) items false) → Did x i rows k k' w w' out
told_did x i rows k k' w w' items next version out ph is told d = did_from x i rows k k' w w' (Talk (Some w.number)) items false next version out ph is told.says told.worker d

-- a call of the store failed
pub failed_did : (x : Sight) (i : Option Incoming) (rows : Rows) (k k' : Seen) (w w' : Putting) (call : Call) (out : Output) (ph : Phase) → w.phase ≡ ph → out ≡ output_of (Fault call (by_job w.number)) [] false
    → w' ≡ record w { phase = phases.Ends endings.StoreFault } → Did x i rows k k' (record w { phase = ph }) (record w { phase = phases.Ends endings.StoreFault }) (output_of (Fault call (by_job w.number)) [] false) → Did x i rows k k' w w' out
failed_did x i rows k k' w w' call out ph is says next d = did_from x i rows k k' w w' (Fault call (by_job w.number)) [] false (phases.Ends endings.StoreFault) w.version out ph is says next d

pub ended_did : (x : Sight) (i : Option Incoming) (rows : Rows) (k k' : Seen) (w : Putting) (outcome : Outcome) (sends : SendsView) (ph : Phase) → w.phase ≡ ph
    → Did x i rows k k' (record w { phase = ph }) (record w { phase = ph }) (record { kind = End w.number outcome; sends = sends; ended = true }) → Did x i rows k k' w w (record { kind = End w.number outcome; sends = sends; ended = true })
ended_did x i rows k k' w outcome sends ph is d = from_phase (λ (u : Putting). Did x i rows k k' u u (record { kind = End u.number outcome; sends = sends; ended = true })) w ph is d

-- the work of one that goes on
pub work_goes : (w : Putting) (q : Phase) (ph : Jobs.Phase) → is_done q ≡ false → phase_of q ≡ ph → work_of (record w { phase = q }) ≡ record (work_of w) { part = Puts; phase = ph }
work_goes w q ph goes is = ap (λ (p : Part). record (work_of w) { part = p; phase = phase_of q }) (part_puts q goes) ∙ ap (λ (p : Jobs.Phase). record (work_of w) { part = Puts; phase = p }) is
  where
    part_puts : (q : Phase) → is_done q ≡ false → part_of q ≡ Puts
    part_puts phases.Done goes = absurd (cc)
    part_puts q goes = refl

-- ---- it may find no memory

pub stays_as : (k k' : Seen) (w w' : Putting) → w' ≡ w → LeavesAll k k' → Stays k k' w w'
stays_as k k' w w' same all = record { worker = same; store = all }

pub does_so : {E : Type 0} (x : Sight) (i : Option Incoming) (rows : Rows) (k k' : Seen) (w w' : Putting) (r : Result Output E) (P : Output → Type 0) → IfOk r P → OnErr r (w' ≡ w) → LeavesAll k k'
    → ((out : Output) → P out → Did x i rows k k' w w' out) → Does x i rows k k' w w' r
does_so x i rows k k' w w' (Ok out) P ok err all did = did out ok
does_so x i rows k k' w w' (Err e) P ok err all did = stays_as k k' w w' err all

-- without a call of the store
pub hears_so : {E : Type 0} (x : Sight) (i : Option Incoming) (rows : Rows) (k : Seen) (w w' : Putting) (r : Result Output E) (P : Output → Type 0) → IfOk r P → OnErr r (w' ≡ w) → ((out : Output) → P out → Did x i rows k k w w' out) → Does x i rows k k w w' r
hears_so x i rows k w w' (Ok out) P ok err did = did out ok
hears_so x i rows k w w' (Err e) P ok err did = stays_as k k w w' err (all_stays k)

-- ---- what is asked

-- this is asked, with the calls that are made
pub asks_so : (k k' : Seen) (asked made : Effect) (failed : Option Call) → asked ≡ made → MakesCalls made.calls failed k.failing k'.failing → Asks asked (as_told made) failed k k'
asks_so k k' asked made failed is calls = record { told = ap as_told is; calls = subst (λ (e : Effect). MakesCalls e.calls failed k.failing k'.failing) (sym is) calls }

-- and no call
pub only : (k : Seen) (asked made : Effect) → asked ≡ made → made.calls ≡ [] → Asks asked (as_told made) None k k
only k asked made is none = asks_so k k asked made None is (subst (λ (cs : List Call). MakesCalls cs None k.failing k.failing) (sym none) (makes_none k.failing k.failing refl))

pub nothing : (k : Seen) → LeavesBut None k k
nothing k = but_none k k (all_stays k)
