-- How a job stands as it steps: what it has heard, its peer, and the room at its ends (own).
use Rattle.std.specs.Prelude.{◌≡◌, ℕ, true, false, [], Some}
use Rattle.std.specs.List.{list_all}
use Rattle.run_data.specs.declared.entry.FrameView.{FrameView}
use Rattle.node_model.specs.After.{has_read}
use Rattle.node_model.specs.Jobs.{AsksTime, Puts, job_end, partner}
use Rattle.node_model.specs.JobStep.{Turn, end_with, locked_peers}
use Rattle.node_model.specs.Look.{waiting_frame}
use Rattle.node_model.specs.Turns.{has_room}

-- Until its drop is past its first step, a job has heard of no copy, and so it has no lock; a copy has a peer; and while a drop awaits
-- its target's timestamp, there is room at the open ends on which it has locks, since the step that takes the timestamp may give the
-- locks back.
pub record StandsWell (t : Turn) : Type 0 where
  pub unheard : has_read t.w.part t.w.phase ≡ false → t.w.heard ≡ []
  pub peer : t.w.part ≡ Puts → (p : ℕ) × (t.w.what.peer ≡ Some p)
  pub locks : t.w.phase ≡ AsksTime → list_all (has_room t) (locked_peers t) ≡ true

-- the frame waits at the client's end of the connection with the job's partner, which is open and has room
pub record TakesAtRoom (t : Turn) (f : FrameView) : Type 0 where
  pub peer : ℕ
  pub partner_is : partner t.w.what.peer t.w.phase ≡ Some peer
  pub opened : (end_with t peer).opened ≡ true
  pub waits : waiting_frame (end_with t peer) t.look (job_end t.w peer) ≡ Some f
  pub room : has_room t peer ≡ true
