-- What an entry of a server says, in terms of frames: each such fact is of the repository's own entries.
use Rattle.std.specs.Prelude.{◌≡◌, ℕ, ◌*◌, ◌+◌, ◌<◌, true, false, List, [], ◌∷◌, Option, Some, None}
use Rattle.run_data.specs.declared.entry.Entry.{Entry}
use Rattle.run_data.specs.declared.entry.FrameView.{FrameView}
use Rattle.run_data.specs.declared.run.RepoView.{RepoView}
use Rattle.run_model.specs.Past.{bar, clock, holds, entry_count, present}
use Rattle.node_model.specs.Rows.{is_blocked}
use Rattle.p2p_wire.specs.declared.message.Message.{Message}
use Rattle.p2p_wire.specs.declared.message.Message.TheVariants.{Success}
use Rattle.p2p_wire.specs.Messages.{order_of}
use Rattle.node_model.specs.Sessions.{line_in}
use Rattle.step_facts.proofs.Ways.{down_of, way_from}
use Rattle.run_model.specs.Frames.{way_of}
use Rattle.annex_base.specs.Lists.{Member}
use Rattle.drop_proof.specs.declared.rule.Need.{Need}
use Rattle.drop_proof.specs.declared.rule.Side.TheVariants.{Local}
use Rattle.drop_proof.specs.Judging.{least_end}
use Rattle.node_model.specs.SetUp.{SetUp}
use Rattle.node_model.specs.Jobs.{Work, Drops, Fresh, Next, side_of}
use Rattle.run_model.specs.States.{works, state_of}
use Rattle.step_facts.proofs.Knowing.{known, knows_enough}
use Rattle.node_model.specs.Knows.{need_of}
use Rattle.node_model.specs.Clocks.{hold_time}

-- the content is there, and no bar stands on it
pub record OwnFree (past : List Entry) (r : ℕ) (key : List ℕ) : Type 0 where
  pub there : present past r key ≡ true
  pub free : bar past r key ≡ None

-- the entry takes this message from a client on this connection
pub record TakesFrom (e : Entry) (peer slot : ℕ) (asked : Message) : Type 0 where
  pub f : FrameView
  pub takes_it : e.taken ≡ Some f
  pub from_client : f.up ≡ true
  pub peer_is : f.peer ≡ peer
  pub slot_is : f.slot ≡ slot
  pub asked_is : line_in f.body ≡ Some asked

-- and answers it with SUCCESS alone, on the same opening of the connection
pub record SaysYes (r : ℕ) (e : Entry) (peer slot : ℕ) (asked : Message) : Type 0 where
  pub takes : TakesFrom e peer slot asked
  pub g : FrameView
  pub alone : e.sent ≡ g ∷ []
  pub back : way_from r g ≡ down_of (way_of r takes.f)
  pub yes : line_in g.body ≡ Some Success

-- a share found the content free; its end is ten minutes from now, and its number the entry's among its repository's
pub record MayShare (repos : List RepoView) (r : ℕ) (past : List Entry) (e : Entry) (hold end : ℕ) (key : List ℕ) : Type 0 where
  pub row : OwnFree past r key
  pub end_is : end ≡ clock repos past r e.time + hold_time
  pub number_is : hold ≡ entry_count past r + 1

-- an order is obeyed where no bar and no hold is in the way, and before its deadline
pub record MayObey (repos : List RepoView) (r : ℕ) (past : List Entry) (e : Entry) (peer slot : ℕ) (key : List ℕ) : Type 0 where
  pub deadline : Option ℕ
  pub yes : SaysYes r e peer slot (order_of deadline key)
  pub row : OwnFree past r key
  pub unheld : is_blocked (holds past r) key (clock repos past r e.time) ≡ false
  pub soon : (before : ℕ) → deadline ≡ Some before → clock repos past r e.time < 1000 * before

-- a bar found the content free and no hold that blocks, and states the job's key and what it read
pub record MayBar (s : SetUp) (past : List Entry) (e : Entry) (j : ℕ) (need : Need) (key : List ℕ) : Type 0 where
  pub row : OwnFree past s.number key
  pub unheld : is_blocked (holds past s.number) key (clock s.repos past s.number e.time) ≡ false
  pub w : Work
  pub runs : Member w (works past s.number)
  pub number_is : j ≡ w.number
  pub first : w.phase ≡ Fresh
  pub dropping : w.part ≡ Drops
  pub local : side_of w ≡ Local
  pub key_is : key ≡ w.what.key
  pub need_is : need ≡ need_of s (state_of s past) w

-- a removal by a job, which knows enough and is in time
pub record MayRemove (s : SetUp) (past : List Entry) (e : Entry) (j : ℕ) (key : List ℕ) : Type 0 where
  pub w : Work
  pub runs : Member w (works past s.number)
  pub number_is : j ≡ w.number
  pub next : w.phase ≡ Next
  pub dropping : w.part ≡ Drops
  pub local : side_of w ≡ Local
  pub key_is : key ≡ w.what.key
  pub enough : knows_enough s (state_of s past) w ≡ true
  pub soon : (first : ℕ) → least_end (known s (state_of s past) w) ≡ Some first → clock s.repos past s.number e.time < first
