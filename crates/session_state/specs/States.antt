-- A state of a repository that is what a session, a table and a store are (own).
use Rattle.std.specs.Prelude.{◌≡◌, ℕ, ◌+◌, Bool, List, Option, Some}
use Rattle.run_data.specs.declared.entry.EntryKind.{EntryKind}
use Rattle.run_data.specs.declared.row.Hold.{Hold}
use Rattle.run_data.specs.Repos.{id_of}
use Rattle.node_model.specs.Rows.{bar_after, content_after, holds_after, present_after}
use Rattle.node_model.specs.SetUp.{SetUp, gives_locks, version_of}
use Rattle.node_model.specs.Ends.{EndName, server_end}
use Rattle.node_model.specs.Look.{Look}
use Rattle.node_model.specs.State.{State}
use Rattle.object_store.specs.Stores.{Contents}
use Rattle.content_lock.specs.Rows.{Rows, bar_at}
use Rattle.session_state.specs.declared.place.Scene.{Scene}
use Rattle.session_state.specs.Answers.{is_in, size_in}

-- of each key, whether its content is there, its size, and the job whose bar stands; and the holds
pub record Stand : Type 0 where
  pub present : List ℕ → Bool
  pub content : List ℕ → Option ℕ
  pub bar : List ℕ → Option ℕ
  pub holds : List Hold

abbrev pub stand_of : State → Stand
stand_of st = record { present = st.present; content = st.content; bar = st.bar; holds = st.holds }

-- and after an entry
abbrev pub stand_after : EntryKind → Stand → Stand
stand_after kind was =
    record {
      present = λ key. present_after key (was.present key) kind;
      content = λ key. content_after key (was.content key) kind;
      bar = λ key. bar_after key (was.bar key) kind;
      holds = holds_after was.holds kind;
    }

-- the table and a store that tells have these rows
pub record HaveRows (rows : Rows) (known : Option Contents) (stand : Stand) : Type 0 where
  pub contents : Contents
  pub told : known ≡ Some contents
  pub present : (key : List ℕ) → is_in contents key ≡ stand.present key
  pub content : (key : List ℕ) → size_in contents key ≡ stand.content key
  pub bar : (key : List ℕ) → bar_at rows key ≡ stand.bar key
  pub holds : rows.holds ≡ stand.holds

-- the scene is this end of the repository, at this look
pub record IsScene (x : Scene) (s : SetUp) (st : State) (k : Look) (a : EndName) : Type 0 where
  pub at : a ≡ server_end x.place.peer x.place.slot
  pub id : id_of s.repos s.number ≡ x.place.id
  pub version : version_of s ≡ x.place.version
  pub locks : gives_locks s ≡ x.place.locks
  pub clock : st.clock k.time ≡ x.clock
  pub number : st.made + 1 ≡ x.number
