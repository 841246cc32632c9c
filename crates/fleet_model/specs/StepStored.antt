-- What a step leaves of the store's parts, by the state that it found; for proofs (own).
use Rattle.std.specs.Prelude.{ℕ, ◌==◌, if◌then◌else◌, List, find, Option, Some, None}
use Rattle.std.specs.Option.{option_and_then, option_map_or}
use Rattle.run_data.specs.declared.entry.EntryKind.{EntryKind}
use Rattle.run_data.specs.declared.entry.FrameView.{FrameView}
use Rattle.object_store.specs.Stores.{Parts}
use Rattle.node_model.specs.Jobs.{Work}
use Rattle.node_model.specs.Slots.{job_of}
use Rattle.node_model.specs.State.{State}
use Rattle.node_sessions.specs.Stored.{parts_after_frame}
use Rattle.joined_nodes.specs.PartStored.{parts_after_work}
use Rattle.driver_model.specs.Driver.{end_to}

-- the work whose entry this is
abbrev pub work_making : State → EntryKind → Option Work
work_making st kind = option_and_then (λ (job : ℕ). find (λ (w : Work). w.number == job) st.works) (job_of kind)

-- the parts after a session answered the taken frame: one of a client goes to a session
abbrev pub parts_of_session : State → Option FrameView → List ℕ → EntryKind → Option Parts → Option Parts
parts_of_session st None bytes kind known = known
parts_of_session st (Some f) bytes kind known = if f.up then parts_after_frame (st.sessions (end_to f)).doing f.body bytes kind known else known

-- the parts after the job whose entry this is took the frame
abbrev pub parts_of_job : State → Option FrameView → List ℕ → EntryKind → Option Parts → Option Parts
parts_of_job st taken bytes kind known = option_map_or (λ (w : Work). parts_after_work w taken bytes kind known) (work_making st kind) known

-- the parts after a step that took this frame, for a session or for a job
abbrev pub parts_of_step : State → Option FrameView → List ℕ → EntryKind → Option Parts → Option Parts
parts_of_step st taken bytes kind known = parts_of_job st taken bytes kind (parts_of_session st taken bytes kind known)
