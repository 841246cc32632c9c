-- The need and the evidence of a drop: as the state of its repository tells them, and as the entries do (own).
use Rattle.std.specs.Prelude.{◌≡◌, ℕ, ◌+◌, ◌==◌, true, List, [], ◌∷◌, find, length, reverse, slice_get, Option, Some, option_map}
use Rattle.drop_proof.specs.declared.rule.Need.{Need}
use Rattle.drop_proof.specs.declared.rule.Side.TheVariants.{Remote}
use Rattle.run_data.specs.declared.entry.Entry.{Entry}
use Rattle.run_data.specs.declared.entry.EntryKind.TheVariants.{Order}
use Rattle.run_data.specs.declared.entry.FrameView.{FrameView}
use Rattle.run_data.specs.declared.job.Proof.{Proof}
use Rattle.run_data.specs.declared.run.RepoView.{RepoView}
use Rattle.run_data.specs.declared.run.Run.{Run}
use Rattle.node_model.specs.Evidence.{proof_of}
use Rattle.node_model.specs.Knows.{proof_by, reading}
use Rattle.node_model.specs.SetUp.{SetUp}
use Rattle.node_model.specs.State.{State}
use Rattle.run_model.specs.Drops.{evidence}
use Rattle.run_model.specs.Frames.{FlyingFrame, Way, frames_sent, taken_count, way_of}
use Rattle.run_model.specs.Run.{set_up}
use Rattle.run_model.specs.Safety.{Removal, removal}
use Rattle.step_judging.specs.Carried.{judge_of}

-- ---- by a state

-- those of the job of this number, if it runs: what an outcome would state
abbrev pub proof_in : SetUp → State → ℕ → Option Proof
proof_in s st j = option_map (λ w. proof_by (reading s st w) w) (find (λ w. w.number == j) st.works)

-- the state that a judge carries of repository r after the run
abbrev pub carried_state : Run → ℕ → State
carried_state run r = (judge_of (set_up run) (reverse run.entries)).states r

-- those of job j of r after the run
abbrev pub proof_after : Run → ℕ → ℕ → Option Proof
proof_after run r j = proof_in (set_up run r) (carried_state run r) j

-- ---- by the entries

abbrev pub removal_proof : List RepoView → Removal → Proof
removal_proof repos x = proof_of (length repos) x.need x.items

-- those of the removal of the key that the entry is, if it is one
abbrev pub removed_proof : List RepoView → List Entry → List ℕ → Entry → Option Proof
removed_proof repos past key e = option_map (removal_proof repos) (removal repos past key e)

-- those of the drop from the target by job j of a, which ordered the removal after these entries
abbrev pub order_proof : List RepoView → List Entry → ℕ → ℕ → ℕ → Need → Proof
order_proof repos before a j target need = proof_of (length repos) need (evidence Remote repos before a j target need)

-- ---- orders and their frames

-- the way on which a sends a frame up
abbrev pub way_up : ℕ → FrameView → Way
way_up a f = record { client = a; server = f.peer; slot = f.slot; up = true; epoch = f.epoch }

-- an order of a is one frame, which goes up, and whose number is its place on its way
pub record IsOrderFrame (past : List Entry) (a : ℕ) (e : Entry) : Type 0 where
  pub frame : FrameView
  pub alone : e.sent ≡ frame ∷ []
  pub goes_up : frame.up ≡ true
  pub number_is : frame.seq ≡ length (frames_sent past (way_up a frame)) + 1

-- the entry of r takes the frame of the order by which it removes the key, and its drop's need and evidence are what the sender's were
pub record TakesItsOrder (repos : List RepoView) (past : List Entry) (r : ℕ) (key : List ℕ) (e : Entry) : Type 0 where
  pub frame : FrameView
  pub takes : e.taken ≡ Some frame
  pub goes_up : frame.up ≡ true
  pub number_is : frame.seq ≡ taken_count past (way_of r frame) + 1
  pub it : FlyingFrame
  pub next : slice_get (frames_sent past (way_of r frame)) (taken_count past (way_of r frame)) ≡ Some it
  pub job : ℕ
  pub deadline : Option ℕ
  pub need : Need
  pub order_is : it.entry.kind ≡ Order job r deadline need key
  pub proof_is : removed_proof repos past key e ≡ Some (order_proof repos it.before frame.peer job r need)
