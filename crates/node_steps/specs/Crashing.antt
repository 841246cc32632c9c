-- A node crashes, by one entry (own).
use Rattle.std.specs.Prelude.{◌≡◌, ℕ, ◌+◌, ◌<◌, ◌≤◌, ◌==◌, List, [], ◌∷◌, ◌++◌, find, flat_map, length, Option, Some, None}
use Rattle.std.specs.Option.{ForSome, option_map, option_to_list}
use Rattle.run_data.specs.Histories.{most_entries}
use Rattle.run_data.specs.declared.entry.Entry.{Entry}
use Rattle.run_data.specs.declared.entry.EntryKind.TheVariants.{Crash}
use Rattle.run_data.specs.declared.entry.FrameView.{FrameView}
use Rattle.object_store.specs.Stores.{Contents}
use Rattle.node_model.specs.AnyTime.{closes_all}
use Rattle.node_model.specs.SetUp.{SetUp, slots}
use Rattle.node_ends.specs.Going.{AreAfter}
use Rattle.node_parts.specs.Posting.{PostsPieces}
use Rattle.node_parts.specs.Task.{Task}
use Rattle.node_parts.specs.Tasks.{number_of, slot_of}
use Rattle.node_past.specs.declared.setup.Ended.{Ended}
use Rattle.node_steps.specs.Nodes.{MatchesSetup, NodeView, state_of}
use Rattle.node_steps.specs.Turning.{stamp_then}

-- the job in this slot, as one that the entry at this place ends
abbrev pub ended_in : List Task → ℕ → ℕ → List Ended
ended_in ts place slot = option_to_list (option_map (λ job. record { number = job; place = place }) (option_map number_of (find (λ t. slot_of t == slot) ts)))

-- all of them, in order of slot
abbrev pub all_ended : List Task → ℕ → List Ended
all_ended ts place = flat_map (ended_in ts place) slots

-- the entry of a crash that sets the clock to this, and sends these
abbrev pub crash_entry : {K : Type 0} → NodeView K → ℕ → List FrameView → Entry
crash_entry n clock sent = record {
  time = n.time;
  count = n.count + 1;
  repo = Some n.setup.number;
  kind = Crash clock;
  taken = None;
  sent = sent;
  lines = [];
}

-- The node has the entry of a crash, which closes each end that is open, where its store tells. Its clock was set to this; no job runs,
-- and those that ran have ended, in order of slot; it owes no line. Its ends sent the Closes, with the entry's stamp, and nothing else;
-- its branch and its store are as they were.
pub record Crashes {K : Type 0} (told : Option Contents) (clock : ℕ) (was now : NodeView K) : Type 0 where
  pub sent : List FrameView
  pub node : now ≡ record was {
    parts = now.parts;
    count = was.count + 1;
    clock = record { at = was.time; to = clock };
    history = was.history ++ crash_entry was clock sent ∷ [];
    outcomes = was.outcomes ++ all_ended was.parts.jobs.running (length was.history);
    owed = [];
  }
  pub closes : ForSome told (λ c. (s : SetUp) → MatchesSetup was.setup s → sent ≡ closes_all s (state_of s was.history))
  pub jobs : now.parts.jobs ≡ record was.parts.jobs { running = [] }
  pub ends : AreAfter was.parts.links now.parts.links None sent
  pub posts : (known : Option Contents) → PostsPieces (stamp_then was) (Crash clock) was.parts known now.parts.links None sent

-- ---- room for a crash

-- Places in memory of its own: for frames, for entries, and for jobs that have ended.
pub record RoomView : Type 0 where
  pub closes : ℕ
  pub entries : ℕ
  pub ended : ℕ

-- The history isn't full, and there are places for a Close of each end, for all entries and one more, and for all jobs that have ended
-- and four more.
pub record HasRoom {K : Type 0} (room : RoomView) (n : NodeView K) : Type 0 where
  pub few : length n.history < most_entries
  pub closes : length n.parts.links ≤ room.closes
  pub entries : length n.history + 1 ≤ room.entries
  pub ended : length n.outcomes + 4 ≤ room.ended
