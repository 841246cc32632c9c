-- Sessions that are made and spent one after the other; for private contracts.
use Rattle.std.specs.Prelude.{◌≡◌, ℕ, ◌+◌, ◌*◌, ◌<◌, Bool, false, List, ◌++◌, All, flat_map, length, map, slice_get, Option, Some, None, slice_set}
use Rattle.annex_base.specs.Lists.{Each}
use Rattle.run_data.specs.declared.entry.By.{By}
use Rattle.run_data.specs.declared.entry.EntryKind.TheVariants.{Close, Crash}
use Rattle.object_store.specs.Stores.{Parts}
use Rattle.object_store.specs.declared.keeper.HoldRecord.{HoldRecord}
use Rattle.content_lock.specs.Rows.{Rows, bar_at, is_filling}
use Rattle.content_lock.specs.Stored.{Agrees}
use Rattle.content_lock.specs.Tokens.{Owns, ShareView}
use Rattle.link_ring.specs.Ends.{EndView}
use Rattle.node_model.specs.Rows.{holds_after, same_owner}
use Rattle.node_model.specs.Sessions as sessions
use Rattle.node_model.specs.Sessions.{new_session}
use Rattle.node_model.specs.SetUp.{slots}
use Rattle.p2p_server.specs.declared.Place.{Place}
use Rattle.p2p_server.specs.declared.session.Session.{Session}
use Rattle.p2p_server.specs.Answers.{owner_at}
use Rattle.p2p_server.specs.Stepping.{LeavesOthers}
use Rattle.p2p_server.specs.Talking.{AreAfterStep, FillsSo, HasFillOf, IsFedOf, place_of, session_of, share_of}
use Rattle.node_sessions.specs.Sessions.{AreAllFed, AreFilled, EveryTwo, HaveEnds, IsOther, OwnAll, owner_of}

-- ---- made

abbrev pub place_in : Place → ℕ → ℕ → Place
place_in p peer slot = record { id = p.id; version = p.version; locks = p.locks; peer = peer; slot = slot }

-- the places of the sessions with these clients
abbrev pub places_in : Place → List ℕ → List Place
places_in p peers = flat_map (λ peer. map (place_in p peer) slots) peers

-- the session of a connection that isn't open, of this repository
pub record IsNew (id : List ℕ) (version : ℕ) (locks : Bool) (x : Session) : Type 0 where
  pub id_is : (place_of x).id ≡ id
  pub version_is : (place_of x).version ≡ version
  pub locks_are : (place_of x).locks ≡ locks
  pub slot : (place_of x).slot < 4
  pub session : session_of x ≡ new_session
  pub share : share_of x ≡ None
  pub fed : (q : Parts) → IsFedOf q x

-- where it stands among all of a repository
abbrev pub rank : Session → ℕ
rank x = (place_of x).peer * 4 + (place_of x).slot

-- they are new, each at another connection, and of these none stands at this place or after it
pub record AreBuilt (id : List ℕ) (version : ℕ) (locks : Bool) (n : ℕ) (xs : List Session) : Type 0 where
  pub below : Each (λ x. rank x < n) xs
  pub new : Each (IsNew id version locks) xs
  pub apart : EveryTwo (λ x y. same_owner (owner_of x) (owner_of y) ≡ false) xs

-- ---- spent

-- of all these are left, and the table lets go of what the others had
pub record AreLeft (all xs : List Session) (was now : Rows) : Type 0 where
  pub rest : List Session
  pub front : all ≡ xs ++ rest
  pub own : OwnAll now xs
  pub others : (by : By) (share : Option ShareView) → IsOther by all → Owns by share was.holds → Owns by share now.holds
  pub filled : (others : List ℕ → Bool) → AreFilled was all others → AreFilled now xs others
  pub numbers : (n : ℕ) → All (λ h. h.number < n) was.holds → All (λ h. h.number < n) now.holds
  pub agrees : (known : Option (List HoldRecord)) → Agrees known was.holds → Agrees known now.holds
  pub bars : (key : List ℕ) → bar_at now key ≡ bar_at was key
  pub crash : (clock : ℕ) → holds_after now.holds (Crash clock) ≡ holds_after was.holds (Crash clock)

-- ---- closed

-- the session lets go of what it has, and is as new
pub record IsClosed (was now : Session) (rows rows' : Rows) : Type 0 where
  pub session : session_of now ≡ new_session
  pub share : share_of now ≡ None
  pub place : place_of now ≡ place_of was
  pub after : AreAfterStep (Close (place_of was).peer (place_of was).slot false) rows rows'
  pub numbers : (n : ℕ) → All (λ h. h.number < n) rows.holds → All (λ h. h.number < n) rows'.holds
  pub filled : FillsSo (session_of was).doing sessions.Waits (is_filling rows) (is_filling rows')
  pub owns : Owns (owner_at (place_of now)) (share_of now) rows'.holds
  pub fills : HasFillOf rows' now
  pub fed : (p : Parts) → IsFedOf p now
  pub others : LeavesOthers (owner_of was) rows rows'
  pub agrees : (known : Option (List HoldRecord)) → Agrees known rows.holds → Agrees known rows'.holds

-- the session at this place is closed, and the others stay as they are
pub record ClosesAmong (at : ℕ) (xs xs' : List Session) (rows rows' : Rows) : Type 0 where
  pub was : Session
  pub now : Session
  pub here : slice_get xs at ≡ Some was
  pub left : xs' ≡ slice_set xs at now
  pub closed : IsClosed was now rows rows'

-- ---- all closed

-- the session is as it is where its connection isn't open, and has nothing of a table
pub record IsBare (x : Session) : Type 0 where
  pub session : session_of x ≡ new_session
  pub share : share_of x ≡ None

-- those before this place are closed, and the others stay as they are
pub record AreClosed (n : ℕ) (was now : List Session) (rows rows' : Rows) : Type 0 where
  pub bare : (i : ℕ) (x : Session) → i < n → slice_get now i ≡ Some x → IsBare x
  pub count : length now ≡ length was
  pub places : map place_of now ≡ map place_of was
  pub own : OwnAll rows' now
  pub there : (links : List EndView) → HaveEnds links was → HaveEnds links now
  pub fed : (q : Parts) → AreAllFed q was → AreAllFed q now
  pub apart : (by : By) → IsOther by was → IsOther by now
  pub others : (by : By) (share : Option ShareView) → IsOther by was → Owns by share rows.holds → Owns by share rows'.holds
  pub filled : (others : List ℕ → Bool) → AreFilled rows was others → AreFilled rows' now others
  pub numbers : (n : ℕ) → All (λ h. h.number < n) rows.holds → All (λ h. h.number < n) rows'.holds
  pub agrees : (known : Option (List HoldRecord)) → Agrees known rows.holds → Agrees known rows'.holds
  pub bars : (key : List ℕ) → bar_at rows' key ≡ bar_at rows key
  pub crash : (clock : ℕ) → holds_after rows'.holds (Crash clock) ≡ holds_after rows.holds (Crash clock)
