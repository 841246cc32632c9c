-- What locked and recent items of a removal stand on: the request, the answer and the hold (git-annex P2P protocol).
use Rattle.std.specs.Prelude.{◌≡◌, ◌⊎◌, ℕ, ◌+◌, ◌≤◌, true, List, Some, None}
use Rattle.annex_base.specs.Lists.{Member}
use Rattle.annex_base.specs.declared.kinds.Found.TheVariants.{Present}
use Rattle.node_model.specs.Clocks.{hold_time}
use Rattle.run_data.specs.declared.entry.By.{By}
use Rattle.run_data.specs.declared.entry.By.TheVariants.{Job as by_job, Peer}
use Rattle.run_data.specs.declared.entry.Entry.{Entry}
use Rattle.run_data.specs.declared.entry.EntryKind.TheVariants.{Check, Share}
use Rattle.run_data.specs.declared.entry.FrameView.{FrameView}
use Rattle.run_data.specs.declared.row.Hold.{Hold}
use Rattle.run_data.specs.declared.run.Run.{Run}
use Rattle.p2p_wire.specs.declared.message.Message.TheVariants.{CheckPresent, LockContent}
use Rattle.run_model.specs.Past.{Occurs, bar, clock, holds, is_of, present}
use Rattle.run_model.specs.Said.{Said, Says, message_in}
use Rattle.run_model.specs.Frames.{is_job, sender}
use Rattle.run_model.specs.Safety.{past_at}
use Rattle.race_core.specs.Readings.{Judge}

-- the entry sends this to the server c
pub record SendsUp (e : Entry) (c : ℕ) (said : Said) : Type 0 where
  pub g : FrameView
  pub sends : Member g e.sent
  pub up_is : g.up ≡ true
  pub peer_is : g.peer ≡ c
  pub says_it : message_in g.body ≡ said

-- job j of a was told by this entry, before which these stood: it took a frame that the entry sent
pub record IsToldBy (past : List Entry) (a j : ℕ) (e : Entry) (earlier : List Entry) : Type 0 where
  pub hearing : Entry
  pub before : List Entry
  pub heard : Occurs past hearing before
  pub job_is : is_job a j hearing ≡ true
  pub took : sender before a hearing.taken ≡ Some (record { entry = e; before = earlier })

-- the entry takes the share of job j of its own repository
pub record TakesShare (e : Entry) (j : ℕ) (key : List ℕ) : Type 0 where
  pub hold : ℕ
  pub end : ℕ
  pub kind_is : e.kind ≡ Share hold end (by_job j) key

-- by the entry job j of a asks repository c for a lock of the key, or takes the share of its own repository
pub record AsksLock (a j c : ℕ) (key : List ℕ) (e : Entry) : Type 0 where
  pub job_is : is_job a j e ≡ true
  pub asks : SendsUp e c (Says (LockContent key)) ⊎ ((c ≡ a) × TakesShare e j key)

-- a hold of repository c for job j of a: the job's own, or one for a's end of a connection
abbrev pub IsFor : ℕ → ℕ → ℕ → By → Type 0
IsFor a j c owner = ((c ≡ a) × (owner ≡ by_job j)) ⊎ ((slot : ℕ) × (owner ≡ Peer a slot))

-- the entry is the share of repository r that gave this hold
pub record GivesHold (e : Entry) (r : ℕ) (hold : Hold) : Type 0 where
  pub repo_is : is_of r e ≡ true
  pub end : ℕ
  pub kind_is : e.kind ≡ Share hold.number end hold.owner hold.key

-- A locked item with this end, of the removal at this place: its judge's job asked for the lock (LOCKCONTENT), and the
-- item ends ten minutes (own) after that, on the clock of the judge's repository. The item's repository gave the hold
-- for this by a share, of which the job was told. It still has the hold as the removal comes; and this ends no earlier
-- than ten minutes after the lock was asked for, on that repository's clock.
pub record IsHeld (run : Run) (key : List ℕ) (place : ℕ) (judge : Judge) (repo end : ℕ) : Type 0 where
  pub asking : Entry
  pub before : List Entry
  pub asked : Occurs judge.past asking before
  pub asks : AsksLock judge.repo judge.job repo key asking
  pub end_is : end ≡ clock run.repos before judge.repo asking.time + hold_time
  pub hold : Hold
  pub key_is : hold.key ≡ key
  pub owner_is : IsFor judge.repo judge.job repo hold.owner
  pub share : Entry
  pub earlier : List Entry
  pub shared : Occurs judge.past share earlier
  pub gives : GivesHold share repo hold
  pub told : (repo ≡ judge.repo) ⊎ IsToldBy judge.past judge.repo judge.job share earlier
  pub recorded : Member hold (holds (past_at run place) repo)
  pub lasts : clock run.repos (past_at run place) repo (asking.time + hold_time) ≤ hold.end

-- A recent item: its judge's job asked the item's repository whether the content is present (CHECKPRESENT); this looked
-- after that, and found it present and without a bar; and the job was told so before it judged.
pub record WasSeen (judge : Judge) (repo : ℕ) (key : List ℕ) : Type 0 where
  pub look : Entry
  pub earlier : List Entry
  pub looked : Occurs judge.past look earlier
  pub repo_is : is_of repo look ≡ true
  pub kind_is : look.kind ≡ Check Present key
  pub there : present earlier repo key ≡ true
  pub free : bar earlier repo key ≡ None
  pub asking : Entry
  pub before : List Entry
  pub asked : Occurs earlier asking before
  pub job_is : is_job judge.repo judge.job asking ≡ true
  pub asks : SendsUp asking repo (Says (CheckPresent key))
  pub told : IsToldBy judge.past judge.repo judge.job look earlier
