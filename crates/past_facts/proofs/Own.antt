-- What each entry of a repository finds and does, by the repository's own entries alone. With the order of entries and the frames'
-- part of a run this is enough for each entry to be lawful (own). Every function of the past that stands here for repository r
-- is one of r's own entries.
use Rattle.std.specs.Prelude.{◌≡◌, ◌≢◌, ℕ, ◌+◌, ◌-◌, ◌*◌, ◌/◌, ◌<◌, ◌≤◌, Bool, true, false, ◌&&◌, ◌||◌, List, [], ◌∷◌, filter, length, reverse, Option, Some, None}
use Rattle.std.specs.List.{list_any}
use Rattle.annex_base.specs.Lists.{Member}
use Rattle.annex_base.specs.declared.kinds.Found.TheVariants.{Present}
use Rattle.drop_proof.specs.declared.evidence.Evidence.{Evidence}
use Rattle.drop_proof.specs.declared.rule.Need.{Need}
use Rattle.drop_proof.specs.declared.rule.Side.TheVariants.{Local, Remote}
use Rattle.drop_proof.specs.Judging.{is_enough, least_end}
use Rattle.node_model.specs.Clocks.{hold_time}
use Rattle.run_data.specs.declared.entry.By.{By}
use Rattle.run_data.specs.declared.entry.By.TheVariants.{Script, Job as by_job, Peer}
use Rattle.run_data.specs.declared.entry.Entry.{Entry}
use Rattle.run_data.specs.declared.entry.EntryKind.{EntryKind}
use Rattle.run_data.specs.declared.entry.EntryKind.TheVariants.{Share, Release, Check, Bar, Order, Gone, End}
use Rattle.run_data.specs.declared.entry.FrameView.{FrameView}
use Rattle.run_data.specs.declared.job.Outcome.{Outcome}
use Rattle.run_data.specs.declared.run.RepoView.{RepoView}
use Rattle.run_data.specs.declared.run.Run.{Run}
use Rattle.run_model.specs.Past.{Always, Decision, Occurs, bar, begun_job, clock, decision, holds, is_of, entry_count, now, clock_set}
use Rattle.node_model.specs.Rows.{is_blocked, is_lost_ordered}
use Rattle.p2p_wire.specs.declared.message.Message.TheVariants.{CheckPresent, LockContent, UnlockContent, Timestamp, Success}
use Rattle.p2p_wire.specs.Messages.{order_of}
use Rattle.run_model.specs.Said.{Said, Says, is_request, message_in}
use Rattle.step_facts.proofs.Ways.{is_answer, answers, down_of, way_from}
use Rattle.run_model.specs.Frames.{MayTake, Way, is_job, is_on, on_way, requests, says, taken_if, takes, up_of, way_of}
use Rattle.node_model.specs.Slots.{job_of}
use Rattle.run_model.specs.Logs.{in_drop}
use Rattle.run_model.specs.Drops.{is_done, key_in}
use Rattle.past_facts.specs.Lawful.{HasFreeContent}
use Rattle.past_facts.proofs.Heard.{Heard, heard, heard_key, known_evidence}

abbrev pub AtMostOne : {X : Type 0} → List X → Type 0
AtMostOne [] = Unit {0}
AtMostOne (x ∷ []) = Unit {0}
AtMostOne (x ∷ y ∷ ys) = ⊥

-- ---- the server

-- the entry takes this message from a client, and answers it with SUCCESS alone
pub record SaysYes (r : ℕ) (e : Entry) (asked : Said) : Type 0 where
  pub f : FrameView
  pub takes_it : e.taken ≡ Some f
  pub from_client : f.up ≡ true
  pub asked_is : message_in f.body ≡ asked
  pub g : FrameView
  pub alone : e.sent ≡ g ∷ []
  pub back : way_from r g ≡ down_of (way_of r f)
  pub yes : message_in g.body ≡ Says Success

-- a share for a peer
pub record SharesWith (r : ℕ) (e : Entry) (peer slot : ℕ) (key : List ℕ) : Type 0 where
  pub answer : SaysYes r e (Says (LockContent key))
  pub peer_is : answer.f.peer ≡ peer
  pub slot_is : answer.f.slot ≡ slot

-- a share found the content free; its end is ten minutes from now, and its number the entry's among its repository's
pub record MayShare (repos : List RepoView) (r : ℕ) (past : List Entry) (e : Entry) (hold end : ℕ) (key : List ℕ) : Type 0 where
  pub row : HasFreeContent past r key
  pub end_is : end ≡ clock repos past r e.time + hold_time
  pub number_is : hold ≡ entry_count past r + 1

-- an entry that sends SUCCESS down answers in turn: every request that was taken before has its answer, and the one that it takes
-- now was granted as it asks
pub record InTurn (r : ℕ) (past : List Entry) (e : Entry) (g : FrameView) : Type 0 where
  pub f : FrameView
  pub takes_it : e.taken ≡ Some f
  pub back : way_from r g ≡ down_of (way_of r f)
  pub from_client : f.up ≡ true
  pub request : is_request (message_in f.body) ≡ true
  pub turn : length (answers past (way_from r g)) ≡ taken_if is_request past (way_of r f)
  pub locked : (key : List ℕ) → message_in f.body ≡ Says (LockContent key) → (hold end : ℕ) × (e.kind ≡ Share hold end (Peer f.peer f.slot) key)
  pub looked : (key : List ℕ) → message_in f.body ≡ Says (CheckPresent key) → e.kind ≡ Check Present key

-- the session's lock is the hold that is released: its share took LOCKCONTENT in this epoch of the connection
pub record MayRelease (r : ℕ) (past : List Entry) (e : Entry) (hold : ℕ) (key : List ℕ) : Type 0 where
  pub f : FrameView
  pub takes_it : e.taken ≡ Some f
  pub from_client : f.up ≡ true
  pub asked_is : message_in f.body ≡ Says (UnlockContent key)
  pub share : Entry
  pub before : List Entry
  pub stands : Occurs past share before
  pub own : is_of r share ≡ true
  pub end : ℕ
  pub share_is : share.kind ≡ Share hold end (Peer f.peer f.slot) key
  pub taken_then : FrameView
  pub took : share.taken ≡ Some taken_then
  pub same_epoch : way_of r taken_then ≡ way_of r f

-- the clock of r is as it was set when r said anything on this way
abbrev pub SaidByClock : List RepoView → ℕ → List Entry → Way → Type 0
SaidByClock repos r past w = (x : Entry) (before : List Entry) → Occurs past x before → is_of r x ≡ true → (g : FrameView) → Member g x.sent → way_from r g ≡ w
    → clock_set repos before r ≡ clock_set repos past r

-- an order is obeyed where no bar and no hold is in the way, and before its deadline
pub record MayObey (repos : List RepoView) (r : ℕ) (past : List Entry) (e : Entry) (peer slot : ℕ) (key : List ℕ) : Type 0 where
  pub f : FrameView
  pub takes_it : e.taken ≡ Some f
  pub from_client : f.up ≡ true
  pub peer_is : f.peer ≡ peer
  pub slot_is : f.slot ≡ slot
  pub deadline : Option ℕ
  pub asked_is : message_in f.body ≡ Says (order_of deadline key)
  pub free : bar past r key ≡ None
  pub unheld : is_blocked (holds past r) key (clock repos past r e.time) ≡ false
  pub soon : (before : ℕ) → deadline ≡ Some before → clock repos past r e.time < 1000 * before
  pub same_clock : SaidByClock repos r past (down_of (way_of r f))

-- ---- the client

-- the entry takes an answer where it awaits one: it has sent one more request than it took answers
abbrev pub Awaits : ℕ → List Entry → FrameView → Type 0
Awaits r past f = length (requests past (up_of (way_of r f))) ≡ taken_if is_answer past (way_of r f) + 1

-- the entry of r, the client, sends or takes a frame of the connection
abbrev pub uses : Way → Entry → Bool
uses w e = list_any (is_on (up_of w) w.server) e.sent || takes (down_of w) e.taken

-- all of an epoch is done by one job
abbrev pub OneJob : ℕ → List Entry → Entry → Type 0
OneJob r past e = (w : Way) → w.client ≡ r → uses w e ≡ true → (j i : ℕ) (x : Entry) (before : List Entry) → job_of e.kind ≡ Some j
    → Occurs past x before → is_of r x ≡ true → job_of x.kind ≡ Some i → uses w x ≡ true → i ≡ j

abbrev pub asks_copy : Said → Bool
asks_copy (Says (LockContent key)) = true
asks_copy (Says (CheckPresent key)) = true
asks_copy _ = false

abbrev pub is_share : EntryKind → Bool
is_share (Share hold end owner key) = true
is_share _ = false

-- the entry asks for a copy, for a job of r
abbrev pub seeks : ℕ → ℕ → Entry → Bool
seeks r j e = is_job r j e && (is_share e.kind || list_any (says asks_copy) e.sent)

-- job j of r has asked for a copy, of its own repository or of another
abbrev pub has_asked : List Entry → ℕ → ℕ → Bool
has_asked past r j = list_any (seeks r j) past

-- the clock of r is as it was set when its job j asked for a copy
abbrev pub OneClock : List RepoView → ℕ → List Entry → ℕ → Type 0
OneClock repos r past j = (x : Entry) (before : List Entry) → Occurs past x before → seeks r j x ≡ true → clock_set repos before r ≡ clock_set repos past r

-- a bar found the content free and no hold that blocks; it is the job's only one, and comes before the job asks for a copy
pub record MayBar (repos : List RepoView) (r : ℕ) (past : List Entry) (e : Entry) (j : ℕ) (need : Need) (key : List ℕ) : Type 0 where
  pub row : HasFreeContent past r key
  pub unheld : is_blocked (holds past r) key (clock repos past r e.time) ≡ false
  pub first : decision past r j ≡ None
  pub open' : is_done past r j ≡ false
  pub nothing_asked : has_asked past r j ≡ false
  pub dropping : in_drop past r j ≡ true
  pub key_is : key ≡ key_in (begun_job past r j)

-- all that the job heard is of this key
abbrev pub HeardOf : List Entry → ℕ → ℕ → List ℕ → Type 0
HeardOf past r j key = (c : ℕ) (h : Heard) → heard past r j c ≡ Some h → heard_key h ≡ key

-- the clock is below the first end of the locked items
abbrev pub InTimeBy : ℕ → List Evidence → Type 0
InTimeBy time items = (first : ℕ) → least_end items ≡ Some first → time < first

-- a local drop removes the content while its bar stands, where what it knows is enough and in time
pub record MayRemove (repos : List RepoView) (r : ℕ) (past : List Entry) (e : Entry) (j : ℕ) (key : List ℕ) : Type 0 where
  pub barred : bar past r key ≡ Some j
  pub one_clock : OneClock repos r past j
  pub heard_of : HeardOf past r j key
  pub enough : (d : Decision) → decision past r j ≡ Some d → is_enough Local d.need (known_evidence Local repos past r j r d.need) ≡ true
  pub in_time : (d : Decision) → decision past r j ≡ Some d → InTimeBy (clock repos past r e.time) (known_evidence Local repos past r j r d.need)

-- the entry takes the target's timestamp, answers on the same opening of the connection, and makes the deadline of it: the whole
-- seconds that are left until the first end
pub record HasDeadline (repos : List RepoView) (r : ℕ) (past : List Entry) (e : Entry) (target : ℕ) (deadline : Option ℕ) (first : ℕ) : Type 0 where
  pub f : FrameView
  pub takes_it : e.taken ≡ Some f
  pub peer_is : f.peer ≡ target
  pub down : f.up ≡ false
  pub same_way : (g : FrameView) → Member g e.sent → way_from r g ≡ up_of (way_of r f)
  pub seconds : ℕ
  pub told : message_in f.body ≡ Says (Timestamp seconds)
  pub in_time : clock repos past r e.time < first
  pub deadline_is : deadline ≡ Some (seconds + (first - clock repos past r e.time) / 1000)

-- a remote drop orders the removal where what it knows is enough; where it has locked items, the order has a deadline
pub record MayOrder (repos : List RepoView) (r : ℕ) (past : List Entry) (e : Entry) (j target : ℕ) (deadline : Option ℕ) (need : Need) (key : List ℕ) : Type 0 where
  pub open' : is_done past r j ≡ false
  pub one_clock : OneClock repos r past j
  pub heard_of : HeardOf past r j key
  pub enough : is_enough Remote need (known_evidence Remote repos past r j target need) ≡ true
  pub dropping : in_drop past r j ≡ true
  pub key_is : key ≡ key_in (begun_job past r j)
  pub timed : (first : ℕ) → least_end (known_evidence Remote repos past r j target need) ≡ Some first → HasDeadline repos r past e target deadline first

-- a job that has ordered ends, other than by a lost order, when every request on that connection has its answer
abbrev pub MayEnd : ℕ → List Entry → ℕ → Type 0
MayEnd r past j = (x : Entry) (before : List Entry) (g : FrameView) (deadline : Option ℕ) (key : List ℕ) → Occurs past x before → is_job r j x ≡ true → Member g x.sent → g.up ≡ true
    → message_in g.body ≡ Says (order_of deadline key) → length (requests past (way_from r g)) ≤ taken_if is_answer past (down_of (way_from r g))

-- ---- what a repository sends

pub record MaySend (repos : List RepoView) (r : ℕ) (past : List Entry) (e : Entry) (g : FrameView) : Type 0 where
  -- SUCCESS from a server
  pub yes : g.up ≡ false → message_in g.body ≡ Says Success → InTurn r past e g
  -- its timestamp is its clock
  pub time : (seconds : ℕ) → message_in g.body ≡ Says (Timestamp seconds) → seconds ≡ clock repos past r e.time / 1000
  -- a request is a job's
  pub request : g.up ≡ true → is_request (message_in g.body) ≡ true → (j : ℕ) × (job_of e.kind ≡ Some j)
  -- an order goes to its target
  pub order : (deadline : Option ℕ) (key : List ℕ) → message_in g.body ≡ Says (order_of deadline key) → (j : ℕ) × (need : Need) × (e.kind ≡ Order j g.peer deadline need key)
  -- a lock is given back by the end of a job, other than by a lost order
  pub unlock : (key : List ℕ) → message_in g.body ≡ Says (UnlockContent key) → (j : ℕ) × (outcome : Outcome) × ((e.kind ≡ End j outcome) × (is_lost_ordered outcome ≡ false))

-- ---- an entry of r

pub record Own (repos : List RepoView) (r : ℕ) (past : List Entry) (e : Entry) : Type 0 where
  pub known : r < length repos
  pub taken_from : (f : FrameView) → e.taken ≡ Some f → f.peer ≢ r
  pub sent_to : (g : FrameView) → Member g e.sent → g.peer ≢ r
  pub sends : (g : FrameView) → Member g e.sent → MaySend repos r past e g
  -- on a way it sends at most one request, and at most one answer
  pub one_request : (w : Way) → AtMostOne (filter (says is_request) (on_way w e))
  pub one_answer : (w : Way) → AtMostOne (filter (says is_answer) (on_way w e))
  -- a server has sent no more answers than it took requests
  pub answered : (w : Way) → w.server ≡ r → length (answers (e ∷ past) (down_of w)) ≤ taken_if is_request (e ∷ past) (up_of w)
  pub awaits : (f : FrameView) → e.taken ≡ Some f → f.up ≡ false → is_answer (message_in f.body) ≡ true → Awaits r past f
  pub one_job : OneJob r past e
  -- by its kind
  pub share : (hold end : ℕ) (by : By) (key : List ℕ) → e.kind ≡ Share hold end by key → MayShare repos r past e hold end key
  pub shares_with : (hold end peer slot : ℕ) (key : List ℕ) → e.kind ≡ Share hold end (Peer peer slot) key → SharesWith r e peer slot key
  pub look : (key : List ℕ) → e.kind ≡ Check Present key → HasFreeContent past r key × SaysYes r e (Says (CheckPresent key))
  pub release : (hold : ℕ) (key : List ℕ) → e.kind ≡ Release hold key → MayRelease r past e hold key
  pub bar_put : (j : ℕ) (need : Need) (key : List ℕ) → e.kind ≡ Bar j need key → MayBar repos r past e j need key
  pub removes : (j : ℕ) (key : List ℕ) → e.kind ≡ Gone (by_job j) key → MayRemove repos r past e j key
  pub obeys : (peer slot : ℕ) (key : List ℕ) → e.kind ≡ Gone (Peer peer slot) key → MayObey repos r past e peer slot key
  pub no_script : (key : List ℕ) → e.kind ≢ Gone Script key
  pub orders : (j target : ℕ) (deadline : Option ℕ) (need : Need) (key : List ℕ) → e.kind ≡ Order j target deadline need key → MayOrder repos r past e j target deadline need key
  pub ends : (j : ℕ) (outcome : Outcome) → e.kind ≡ End j outcome → is_lost_ordered outcome ≡ false → MayEnd r past j

-- ---- a run

-- the order of entries, each repository's own part, and the frames' part
pub record Meets (repos : List RepoView) (past : List Entry) (e : Entry) : Type 0 where
  pub order : now past ≤ e.time
  pub somebody : (by : By) (key : List ℕ) → e.kind ≡ Gone by key → (r : ℕ) × (is_of r e ≡ true)
  pub own : (r : ℕ) → is_of r e ≡ true → Own repos r past e
  pub frames : (r : ℕ) (f : FrameView) → is_of r e ≡ true → e.taken ≡ Some f → MayTake past (way_of r f) f

abbrev pub MessagePast : List RepoView → List Entry → Type 0
MessagePast repos past = Always (Meets repos) past

pub record IsMessageRun (run : Run) : Type 0 where
  pub steps : MessagePast run.repos (reverse run.entries)
