-- What a worker's step does, in the words of the step (own).
use Rattle.std.specs.Prelude.{◌≡◌, ℕ, Bool, true, false, ◌==◌, ◌⊎◌, List, [], ◌∷◌, Option, Some, None, bytes_eq}
use Rattle.run_data.specs.declared.entry.By.TheVariants.{Job as by_job}
use Rattle.run_data.specs.declared.entry.FrameView.{FrameView}
use Rattle.node_model.specs.Around.{around_in}
use Rattle.node_model.specs.Rows.{option_is}
use Rattle.node_model.specs.Slots.{job_of}
use Rattle.node_model.specs.Jobs.{Work, work_kind}
use Rattle.node_model.specs.Look.{Effect, as_told, entry_of, failed_in}
use Rattle.node_model.specs.JobStep.{Turn, attempts, by_me, key_of, me, quietly}
use Rattle.p2p_wire.specs.declared.message.Message.TheVariants.{CheckPresent, LockContent, UnlockContent, Version}
use Rattle.p2p_wire.specs.Streams.{IsLine}
use Rattle.node_model.specs.Ends.{End as EndState, EndName, takes_at}
use Rattle.node_model.specs.Knows.{Reading}
use Rattle.p2p_wire.specs.declared.message.Message.{Message}
use Rattle.node_model.specs.Turns.{takes_frame}
use Rattle.drop_phases.specs.declared.turn.Taken.{Taken}
use Rattle.drop_phases.specs.declared.turn.Taken.TheVariants as takens
use Rattle.run_data.specs.declared.entry.EntryKind.TheVariants.{Gone, Talk}
use Rattle.annex_base.specs.declared.kinds.Call.TheVariants as calls
use Rattle.run_data.specs.declared.job.Cause.TheVariants as causes
use Rattle.drop_phases.specs.declared.phase.Heard.{Heard}
use Rattle.drop_phases.specs.declared.phase.Heard.TheVariants as heards
use Rattle.drop_phases.specs.declared.phase.Phase.{Phase}
use Rattle.drop_phases.specs.declared.phase.Phase.TheVariants as phases
use Rattle.drop_phases.specs.declared.turn.ParcelBody.TheVariants as bodies
use Rattle.run_data.specs.declared.entry.EntryKind.{EntryKind}
use Rattle.object_store.specs.Stores.{Contents}
use Rattle.content_lock.specs.Rows.{AreAfter, Rows, bar_at}
use Rattle.content_lock.specs.Stored.{without_content}
use Rattle.content_lock.specs.Tokens.{ShareView, Owns}
use Rattle.drop_phases.specs.declared.phase.Token.{Token}
use Rattle.drop_phases.specs.declared.phase.Token.TheVariants as tokens
use Rattle.drop_phases.specs.declared.turn.Output.{Output}
use Rattle.drop_phases.specs.Worker.{Worker}
use Rattle.drop_phases.specs.Working.{Rest, Sight, end_in, taken_of, made_of, sight, turn_in, work_of}

-- the work after the entry that a turn makes
abbrev pub next_work : Turn → Effect → Work
next_work t m = work_kind (around_in t) (me t) t.w (entry_of (me t) t.look m) m.kind

-- a step over rows, where these contents are there: it makes what is asked, its entry changes the rows, and the work that follows
-- is the next one
pub record DoesAsAsked (x : Sight) (rows rows' : Rows) (present : List ℕ → Bool) (w w' : Worker) (taken : Option FrameView) (asked : Turn → Effect) (out : Output) : Type 0 where
  pub makes : (rest : Rest) → made_of x w taken out ≡ as_told (asked (turn_in x rows present (failed_in out.kind) rest w))
  pub next : out.ended ≡ false → (rest : Rest) → work_of rest w' ≡ next_work (turn_in x rows present (failed_in out.kind) rest w) (asked (turn_in x rows present (failed_in out.kind) rest w))
  pub after : AreAfter out.kind rows rows'
  pub whose : job_of out.kind ≡ Some w.number

-- a step that takes no frame does what is asked, at this time
abbrev pub Acts : Reading → (EndName → EndState) → ℕ → Rows → Rows → Worker → Worker → (Turn → Effect) → Output → Type 0
Acts read ends time rows rows' w w' asked out = (number : ℕ) (p : List ℕ → Bool) → DoesAsAsked (sight read ends time number) rows rows' p w w' None asked out

-- the contents after an entry of a drop
abbrev pub contents_after : Option Contents → EntryKind → Option Contents
contents_after known (Gone source key) = without_content known key
contents_after known kind = known

-- ---- tokens

-- the job's bar stands on the key of its token alone
abbrev pub is_barring : Token → List ℕ → Bool
is_barring (tokens.Bar bar) k = bytes_eq bar.key k
is_barring token k = false

abbrev pub bar_key : List ℕ → Token → List ℕ
bar_key key (tokens.Bar bar) = bar.key
bar_key key token = key

abbrev pub bar_job : ℕ → Token → ℕ
bar_job job (tokens.Bar bar) = bar.job
bar_job job token = job

abbrev pub share_in : Token → Option ShareView
share_in (tokens.Share share) = Some share
share_in token = None

-- the token is the job's, and beside it the job has no bar and no open hold
pub record HasToken (job : ℕ) (key : List ℕ) (token : Token) (rows : Rows) : Type 0 where
  pub of_key : bar_key key token ≡ key
  pub of_job : bar_job job token ≡ job
  pub bars : (k : List ℕ) → option_is (bar_at rows k) job ≡ is_barring token k
  pub holds : Owns (by_job job) (share_in token) rows.holds

-- what other jobs have, they still have
abbrev pub OthersStay : ℕ → Rows → Rows → Type 0
OthersStay number rows rows' = (job : ℕ) (key : List ℕ) (token : Token) → (job ≡ number → ⊥) → HasToken job key token rows → HasToken job key token rows'

-- ---- what it says

-- what a drop says are lines of the protocol, which are read as they were said
pub record AreProtocolLines (key : List ℕ) : Type 0 where
  pub version : IsLine (Version 3)
  pub lock : IsLine (LockContent key)
  pub look : IsLine (CheckPresent key)
  pub unlock : IsLine (UnlockContent key)

-- the frame is what the worker is told of, at the end of an open connection with this peer
pub record Comes (x : Sight) (slot peer : ℕ) (f : FrameView) (taken : Taken) : Type 0 where
  pub at : takes_at (end_in slot peer) f ≡ true
  pub live : (x.ends (end_in slot peer)).opened ≡ true
  pub apart : (x.read.repo == peer) ≡ false
  pub is : taken_of f.body ≡ taken

-- the step takes this message from the peer, and changes no row
abbrev pub Takes : ℕ → ℕ → Message → Worker → Worker → Output → Type 0
Takes time peer m w w' out =
    (x : Sight) (rows : Rows) (p : List ℕ → Bool) (f : FrameView) → x.time ≡ time → Comes x w.slot peer f (takens.Message m)
    → DoesAsAsked x rows rows p w w' (Some f) (λ t. takes_frame t peer f f.body) out

-- the connection with the peer is closed, and the job goes on without it
pub record Shuts (peer : ℕ) (w w' : Worker) (out : Output) : Type 0 where
  pub kind : out.kind ≡ Talk (Some w.number)
  pub sends : out.sends.items ≡ record { peer = peer; body = bodies.Close } ∷ []
  pub next : w' ≡ record w { heard = (peer, heards.Lacks causes.Closed) ∷ w.heard; phase = phases.Next }

-- a local drop that goes on with a candidate, or is to judge
abbrev pub GoesOn : Phase → Type 0
GoesOn phases.Next = Unit {0}
GoesOn (phases.Opens peer) = Unit {0}
GoesOn (phases.Greets peer) = Unit {0}
GoesOn (phases.AsksLock peer since) = Unit {0}
GoesOn (phases.AsksLook peer) = Unit {0}
GoesOn phase = ⊥

-- it heard nothing, or of one repository
abbrev pub Grows : List (ℕ × Heard) → List (ℕ × Heard) → Type 0
Grows was now = (now ≡ was) ⊎ ((x : ℕ × Heard) × (now ≡ x ∷ was))

-- a step that talks, and leaves the job what it has of its row
pub record Talks (w w' : Worker) (out : Output) : Type 0 where
  pub kind : out.kind ≡ Talk (Some w.number)
  pub goes_on : out.ended ≡ false
  pub number : w'.number ≡ w.number
  pub job : w'.job ≡ w.job
  pub token : w'.token ≡ w.token
  pub phase : GoesOn w'.phase
  pub heard : Grows w.heard w'.heard

abbrev pub IsBar : Token → Type 0
IsBar (tokens.Bar bar) = Unit {0}
IsBar token = ⊥

-- a removal in time
abbrev pub removes_now : Turn → Effect
removes_now t = attempts t (calls.Remove ∷ []) None (quietly (Gone (by_me t) (key_of t)) None)
