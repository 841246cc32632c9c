-- The sessions of a repository as a server, and what they have of its table and its store (own).
use Rattle.std.specs.Prelude.{◌≡◌, ◌≢◌, ℕ, ◌==◌, Bool, true, false, ◌&&◌, ◌||◌, List, length, map, slice_get, Option, Some, is_some}
use Rattle.std.specs.List.{list_any}
use Rattle.std.specs.Option.{ForSome}
use Rattle.run_data.specs.declared.entry.By.{By}
use Rattle.run_data.specs.Repos.{id_of}
use Rattle.object_store.specs.Stores.{Parts}
use Rattle.content_lock.specs.Rows.{Rows, is_filling}
use Rattle.content_lock.specs.Tokens.{Owns}
use Rattle.link_ring.specs.Ends.{EndView}
use Rattle.node_model.specs.Ends.{EndName, server_end}
use Rattle.node_model.specs.Rows.{same_owner}
use Rattle.node_model.specs.Sessions as sessions
use Rattle.node_model.specs.SetUp.{SetUp, gives_locks, served_connections, version_of}
use Rattle.node_ends.specs.Ends.{link_at}
use Rattle.p2p_server.specs.declared.session.Session.{Session}
use Rattle.p2p_server.specs.Answers.{owner_at}
use Rattle.p2p_server.specs.Talking.{IsFedOf, place_of, session_of, share_of}

-- ---- a session, and a list of them

-- its end
abbrev pub end_of : Session → EndName
end_of x = server_end (place_of x).peer (place_of x).slot

-- its client and slot
abbrev pub connection_of : Session → ℕ × ℕ
connection_of x = ((place_of x).peer, (place_of x).slot)

-- its client and slot are these
abbrev pub is_of : ℕ → ℕ → Session → Bool
is_of peer slot x = ((place_of x).peer == peer) && ((place_of x).slot == slot)

-- for whom it acts
abbrev pub owner_of : Session → By
owner_of x = owner_at (place_of x)

-- it takes the bytes of the key
abbrev pub session_fills : List ℕ → Session → Bool
session_fills key x = sessions.is_filling key (session_of x).doing

-- a fact of each in the list
abbrev pub Every : {X : Type 0} → (X → Type 0) → List X → Type 0
Every {X} P xs = (i : ℕ) (x : X) → slice_get xs i ≡ Some x → P x

-- a fact of each two at different places of the list
abbrev pub EveryTwo : {X : Type 0} → (X → X → Type 0) → List X → Type 0
EveryTwo {X} P xs = (i j : ℕ) (x y : X) → i ≢ j → slice_get xs i ≡ Some x → slice_get xs j ≡ Some y → P x y

-- ---- the sessions of a state

-- the session stands in the repository as it is set up, and is the one that these give its end
pub record IsSessionOf (s : SetUp) (now : EndName → sessions.Session) (x : Session) : Type 0 where
  pub id : id_of s.repos s.number ≡ (place_of x).id
  pub version : version_of s ≡ (place_of x).version
  pub locks : gives_locks s ≡ (place_of x).locks
  pub session : now (end_of x) ≡ session_of x

-- there is one for each connection of which the repository is the server, by client and slot
pub record AreSessions (s : SetUp) (now : EndName → sessions.Session) (xs : List Session) : Type 0 where
  pub connections : map connection_of xs ≡ served_connections s
  pub each : Every (IsSessionOf s now) xs

-- ---- what they have

-- no two act for one client and slot, and none takes the bytes of a key that another takes
pub record Differ (x y : Session) : Type 0 where
  pub owners : same_owner (owner_of x) (owner_of y) ≡ false
  pub fills : (key : List ℕ) → (session_fills key x && session_fills key y) ≡ false

-- each has its share of the table, and no other open hold; the table fills each key whose bytes one takes
pub record OwnAll (rows : Rows) (xs : List Session) : Type 0 where
  pub shares : Every (λ x. Owns (owner_of x) (share_of x) rows.holds) xs
  pub fills : Every (λ x. (key : List ℕ) → session_fills key x ≡ true → is_filling rows key ≡ true) xs
  pub apart : EveryTwo Differ xs

-- one takes the bytes of the key
abbrev pub fills_in : List Session → List ℕ → Bool
fills_in xs key = list_any (session_fills key) xs

-- what each has taken of a part is the store's part
abbrev pub AreAllFed : Parts → List Session → Type 0
AreAllFed p xs = Every (IsFedOf p) xs

-- of the parts, those alone may change whose bytes a session takes
pub record LeavesPartsOf (xs : List Session) (known known' : Option Parts) : Type 0 where
  pub told : is_some known' ≡ is_some known
  pub same : ForSome known (λ p. ForSome known' (λ p'. (key : List ℕ) → fills_in xs key ≡ false → p' key ≡ p key))

-- it is none of these for whom this acts
abbrev pub IsOther : By → List Session → Type 0
IsOther by xs = Every (λ x. same_owner (owner_of x) by ≡ false) xs

-- the table fills the keys whose bytes one takes, and these other keys
pub record AreFilled (rows : Rows) (xs : List Session) (others : List ℕ → Bool) : Type 0 where
  pub filled : (key : List ℕ) → is_filling rows key ≡ (fills_in xs key || others key)
  pub apart : (key : List ℕ) → (fills_in xs key && others key) ≡ false

-- their ends are among these
abbrev pub HaveEnds : List EndView → List Session → Type 0
HaveEnds links xs = Every (λ x. is_some (link_at links (end_of x)) ≡ true) xs

-- ---- a repository as it is set up

-- it has this number among so many, this identifier, this greatest version of the protocol, and gives holds or doesn't
pub record IsSetUp (s : SetUp) (id : List ℕ) (version : ℕ) (locks : Bool) (number count : ℕ) : Type 0 where
  pub number_is : s.number ≡ number
  pub count_is : length s.repos ≡ count
  pub id_is : id_of s.repos s.number ≡ id
  pub version_is : version_of s ≡ version
  pub locks_are : gives_locks s ≡ locks
