-- Which drop a removal belongs to, a job's or that of another repository's order; and where a claim comes from (own).
use Rattle.std.specs.Prelude.{◌≡◌, ℕ, ◌+◌, ◌<◌, ◌≤◌, true, ◌||◌, List, length, Option, Some, slice_get}
use Rattle.annex_base.specs.Lists.{Member}
use Rattle.drop_proof.specs.declared.evidence.Evidence.{Evidence}
use Rattle.drop_proof.specs.declared.rule.Need.{Need}
use Rattle.drop_proof.specs.declared.rule.Side.{Side}
use Rattle.drop_proof.specs.declared.rule.Side.TheVariants.{Remote}
use Rattle.run_data.specs.declared.entry.Entry.{Entry}
use Rattle.run_data.specs.declared.entry.EntryKind.{EntryKind}
use Rattle.run_data.specs.declared.entry.EntryKind.TheVariants.{Begin, Order}
use Rattle.run_data.specs.declared.entry.FrameView.{FrameView}
use Rattle.run_data.specs.declared.job.Job.{Job}
use Rattle.run_data.specs.declared.run.Run.{Run}
use Rattle.p2p_wire.specs.Messages.{order_of}
use Rattle.run_model.specs.Past.{is_of}
use Rattle.run_model.specs.Said.{Says, message_in}
use Rattle.run_model.specs.Frames.{Way, sender_of, frames_sent, way_of}
use Rattle.run_model.specs.Logs.{is_drop}
use Rattle.node_model.specs.Evidence.{is_trusted}
use Rattle.run_model.specs.Safety.{Removal, past_at}
use Rattle.node_model.specs.Jobs.{drop_side, is_move, or_own}
use Rattle.race_core.specs.Places.{removal_at}
use Rattle.race_core.specs.Readings.{Judge, judge_at, need_of_judge}

-- A place is the number of the entries before it.

-- the entry at this place is one of r, and of this kind
pub record IsAt (run : Run) (place r : ℕ) (kind : EntryKind) : Type 0 where
  pub entry : Entry
  pub entry_is : slice_get run.entries place ≡ Some entry
  pub repo_is : is_of r entry ≡ true
  pub kind_is : entry.kind ≡ kind

-- job j of r begins at one place of the run, which is before this one: it is a drop or a move of the key, and removes
-- on this side, at this target
pub record HasJob (run : Run) (place r j : ℕ) (key : List ℕ) (side : Side) (target : ℕ) : Type 0 where
  pub at : ℕ
  pub earlier : at < place
  pub what : Job
  pub begins : IsAt run at r (Begin j what)
  pub drops : (is_drop what.kind || is_move what.kind) ≡ true
  pub side_is : drop_side what.kind what.peer ≡ side
  pub target_is : or_own r side what.peer ≡ target
  pub key_is : what.key ≡ key
  pub only : (other : ℕ) (also : Job) → IsAt run other r (Begin j also) → other ≡ at

-- the entry at this place sent frame number n of the way: so many frames went there with it, and fewer before it
pub record SendsFrame (run : Run) (place : ℕ) (w : Way) (n : ℕ) : Type 0 where
  pub entry : Entry
  pub entry_is : slice_get run.entries place ≡ Some entry
  pub repo_is : is_of (sender_of w) entry ≡ true
  pub fewer : length (frames_sent (past_at run place) w) < n
  pub reached : n ≤ length (frames_sent (past_at run (place + 1)) w)

-- the entry at this place, one of r, takes frame number n of the way
pub record TakesFrame (run : Run) (place r : ℕ) (w : Way) (n : ℕ) : Type 0 where
  pub entry : Entry
  pub entry_is : slice_get run.entries place ≡ Some entry
  pub repo_is : is_of r entry ≡ true
  pub f : FrameView
  pub takes_it : entry.taken ≡ Some f
  pub way_is : way_of r f ≡ w
  pub seq_is : f.seq ≡ n

-- the entry at this place, one of r, took a frame of a: the order to remove this key, which one entry of the run sent,
-- an order of this key to r by one job of a, which judged as it sent it; and no other entry of r took the frame
pub record HasOrder (run : Run) (place r a : ℕ) (key : List ℕ) : Type 0 where
  pub w : Way
  pub n : ℕ
  pub taken : TakesFrame run place r w n
  pub from_a : sender_of w ≡ a
  pub j : ℕ
  pub deadline : Option ℕ
  pub need : Need
  pub says_it : message_in taken.f.body ≡ Says (order_of deadline key)
  pub at : ℕ
  pub earlier : at < place
  pub order : IsAt run at a (Order j r deadline need key)
  pub sends : SendsFrame run at w n
  pub job : HasJob run at a j key Remote r
  pub judge_is : judge_at run place taken.entry ≡ Some (record { repo = a; job = j; past = past_at run at })
  pub one_order : (other : ℕ) → SendsFrame run other w n → other ≡ at
  pub once : (other : ℕ) → TakesFrame run other r w n → other ≡ place

-- the removal is that of an entry before this place
pub record IsRemovalBefore (run : Run) (key : List ℕ) (place : ℕ) (x : Removal) : Type 0 where
  pub at : ℕ
  pub earlier : at < place
  pub entry : Entry
  pub entry_is : slice_get run.entries at ≡ Some entry
  pub removal_is : removal_at run key at entry ≡ Some x

-- the drop of a removal of the key before this place has the repository as a trusted item
pub record IsTrustedBefore (run : Run) (key : List ℕ) (place r : ℕ) : Type 0 where
  pub removal : Removal
  pub before : IsRemovalBefore run key place removal
  pub item : Evidence
  pub among : Member item removal.items
  pub repo_is : item.repo ≡ r
  pub trusted : is_trusted item.kind ≡ true

-- the drop of a removal of the key before this place read this number as its mincopies
pub record IsReadBefore (run : Run) (key : List ℕ) (place m : ℕ) : Type 0 where
  pub removal : Removal
  pub before : IsRemovalBefore run key place removal
  pub judge : Judge
  pub judge_is : judge_at run before.at before.entry ≡ Some judge
  pub read : (need_of_judge run judge).m ≡ m
