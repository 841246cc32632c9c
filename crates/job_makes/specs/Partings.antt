-- How a job parts from its peers, one after the other; for private contracts (own).
use Rattle.std.specs.Prelude.{ℕ, Bool, not, ◌&&◌, ◌==◌, if◌then◌else◌, List, [], ◌∷◌, ◌++◌}
use Rattle.p2p_wire.specs.Messages.{text_of}
use Rattle.p2p_wire.specs.declared.message.Message.TheVariants.{UnlockContent}
use Rattle.run_data.specs.declared.entry.FrameText.{FrameText}
use Rattle.run_data.specs.declared.entry.FrameText.TheVariants.{Closing, Line}
use Rattle.run_data.specs.declared.entry.FrameView.{FrameView}
use Rattle.node_model.specs.Ends.{frames}
use Rattle.node_model.specs.Jobs.{heard_of, job_end}
use Rattle.node_model.specs.JobStep as steps
use Rattle.node_model.specs.JobStep.{end_with, farewell, is_held, me}
use Rattle.state_ends.specs.Ends.{end_of}
use Rattle.state_jobs.specs.Works.{work_of}
use Rattle.job_makes.specs.declared.turn.Turn.{Turn}

-- what is said as a connection is closed: the lock on the key is given back, or isn't
abbrev pub closing : Bool → List ℕ → List FrameText
closing unlocks key = (if unlocks then Line (text_of (UnlockContent key)) ∷ [] else []) ++ Closing ∷ []

-- the frames by which a job parts from a repository: none from its own
abbrev pub parting : steps.Turn → Bool → ℕ → List FrameView
parting t lost peer = if peer == me t then [] else frames (job_end t.w peer) (end_with t peer) (farewell t lost peer (end_with t peer).opened)

-- a peer gave the job a lock
abbrev pub lock_in : Turn → ℕ → Bool
lock_in x peer = is_held (heard_of (work_of x.work.now) peer)

-- the job owes a repository the release of its lock
abbrev pub owes_in : Turn → ℕ → Bool
owes_in x peer = not (peer == x.repo) && (lock_in x peer && (end_of x.ends.now (job_end (work_of x.work.now) peer)).opened)
