-- The step of a running job: of which state's slot it is, and what it leaves (own).
use Rattle.std.specs.Prelude.{◌≡◌, ◌⊎◌, ◌≤◌, ◌+◌, ℕ, ◌==◌, false, true, List, [], Option, Some, None, IfSome, Result, Ok, Err}
use Rattle.std.specs.Option.{ForSome, option_map}
use Rattle.annex_base.specs.Causes.{Rose}
use Rattle.annex_base.specs.Lists.{Each}
use Rattle.annex_base.specs.Settings.{Settings}
use Rattle.annex_base.specs.declared.kinds.Call.{Call}
use Rattle.run_data.specs.declared.entry.By.TheVariants.{Job as by_job}
use Rattle.run_data.specs.declared.entry.EntryKind.{EntryKind}
use Rattle.run_data.specs.declared.entry.EntryKind.TheVariants as kinds
use Rattle.run_data.specs.declared.entry.FrameView.{FrameView}
use Rattle.object_store.specs.Stores.{AreSmallParts, Contents, Parts}
use Rattle.link_ring.specs.Ends.{EndView}
use Rattle.node_model.specs.Around.{around}
use Rattle.node_model.specs.Clocks.{ClockSet}
use Rattle.node_model.specs.Evidence as evidence
use Rattle.node_model.specs.Evidence.{standing_by}
use Rattle.node_model.specs.Jobs.{Work, work_after}
use Rattle.node_model.specs.Look.{Effect, Look, as_told, entry_of, failed_in}
use Rattle.node_model.specs.Rows.{bar_after, holds_after}
use Rattle.node_model.specs.SetUp.{SetUp}
use Rattle.node_model.specs.State.{State}
use Rattle.node_model.specs.Turns.{slot_step}
use Rattle.content_lock.specs.CallsMade.{MakesCalls, fewer}
use Rattle.content_lock.specs.Rows.{Rows, bar_at, is_filling}
use Rattle.content_lock.specs.Stored.{Agrees}
use Rattle.session_state.specs.Answers.{contents_after}
use Rattle.drop_proof.specs.declared.rule.Side.TheVariants.{Remote}
use Rattle.drop_phases.specs.Begun as drops
use Rattle.drop_phases.specs.Begun.{IsLast}
use Rattle.drop_phases.specs.Doing.{Grows, OthersStay}
use Rattle.drop_phases.specs.Apart.{is_locked_in}
use Rattle.drop_phases.specs.Feeding.{KeepsAnswer, KeepsOrderWord, KeepsWord}
use Rattle.drop_phases.specs.Leaving.{stands_on}
use Rattle.drop_phases.specs.Sides.{IsNumbered, side_in}
use Rattle.drop_phases.specs.Worker.{Worker}
use Rattle.drop_phases.specs.Working as working
use Rattle.node_ends.specs.Ends.{end_at}
use Rattle.node_drops.specs.Places.{PlaceView}
use Rattle.transfer_turns.specs.Parcels as transfers
use Rattle.transfer_turns.specs.Parcels.{ArePiecesOf}
use Rattle.transfer_turns.specs.Steps.{FillsSo, Seen}
use Rattle.node_transfers.specs.States.{HaveState}
use Rattle.node_transfers.specs.Workers as workers
use Rattle.node_tasks.specs.declared.acted.Output.{Output}
use Rattle.node_tasks.specs.declared.acted.Sent.{Sent}
use Rattle.node_tasks.specs.declared.acted.Sent.TheVariants as sents
use Rattle.node_tasks.specs.declared.readiness.Told.{Told}
use Rattle.node_tasks.specs.declared.readiness.Told.TheVariants as tolds
use Rattle.node_tasks.specs.declared.task.Task.{Task}
use Rattle.node_tasks.specs.declared.task.Task.TheVariants as tasks
use Rattle.node_tasks.specs.Tasks.{HasReadOf, HearsWords, IsFedTask, IsSpent, IsTask, OwnsOf, SeesTask, number_of, slot_of, work_now}
use Rattle.node_tasks.specs.Telling.{ComesTo, SeesPartOf, frame_in}

-- ---- what it makes

-- the frames that are sent, at the ends of this slot
abbrev pub frames_in : List EndView → ℕ → Sent → List FrameView
frames_in links slot (sents.ByDrop ps) = working.frames_of (end_at links) slot ps.items
frames_in links slot (sents.ByTransfer ps) = transfers.frames_of (end_at links) slot ps.items

abbrev pub made_by : List EndView → Task → Told → Output → Effect
made_by links t x out = record { kind = out.kind; taken = frame_in links t x; sent = frames_in links (slot_of t) out.sent; lines = []; calls = [] }

-- what the repository is as the job acts, which is told this: its state with these settings, before the entry of this number; and a look that
-- finds the call to fail that the entry tells, the words that the job heard, and the part that it asks for
pub record SeesActs (p : PlaceView) (clock : ClockSet) (links : List EndView) (settings : Settings) (time number : ℕ) (known : Option Parts) (rows : Rows) (c : Contents) (t : Task) (x : Told) (fails : Option Call) (s : SetUp) (st : State) (k : Look) : Type 0 where
  pub sees : SeesTask p clock links time s st k t
  pub comes : ComesTo p links time s st k t x
  pub keeps : HaveState rows c s st
  pub logs : st.logs ≡ settings
  pub nameless : (key : List ℕ) → standing_by settings key [] ≡ evidence.Asked
  pub counts : number ≡ st.made + 1
  pub failing : k.fails ≡ fails
  pub words : HearsWords t k
  pub part : SeesPartOf known t x k

-- its step is that of its slot; and where it goes on, it goes on as its work does, and has read what the state says that it has
pub record ActsSo (links : List EndView) (t t' : Task) (x : Told) (out : Output) (s : SetUp) (st : State) (k : Look) : Type 0 where
  pub made : option_map as_told (slot_step s st k (Some (work_now t))) ≡ Some (made_by links t x out)
  pub next : out.ended ≡ false → work_now t' ≡ work_after (around s st) s.number (entry_of s.number k (made_by links t x out)) (work_now t)
  pub read : out.ended ≡ false → (st' : State) → st'.logs ≡ st.logs → st'.read (number_of t) ≡ st.read (number_of t) → HasReadOf s st' t'

-- of each such state at each such look, over a store that tells its contents
abbrev pub Acts : PlaceView → ClockSet → List EndView → Settings → ℕ → ℕ → Option Contents → Option Parts → Rows → Task → Task → Told → Output → Type 0
Acts p clock links settings time number contents known rows t t' x out =
    ForSome contents (λ c. (s : SetUp) (st : State) (k : Look) → SeesActs p clock links settings time number known rows c t x (failed_in out.kind) s st k → ActsSo links t t' x out s st k)

-- how many calls of each kind are still to fail, where the store tells it
abbrev pub Failing : Type 0
Failing = Option (Call → ℕ)

-- it makes the calls of its store that the slot's step makes, up to the one that failed
abbrev pub Makes : PlaceView → ClockSet → List EndView → Settings → ℕ → ℕ → Option Contents → Option Parts → Rows → Failing → Failing → Task → Told → Output → Type 0
Makes p clock links settings time number contents known rows before after t x out =
    ForSome contents (λ c. (s : SetUp) (st : State) (k : Look) → SeesActs p clock links settings time number known rows c t x (failed_in out.kind) s st k
    → ForSome (slot_step s st k (Some (work_now t))) (λ (m : Effect). MakesCalls m.calls (failed_in out.kind) before after))

-- ---- what it leaves

-- the entry is one of the job's, and not its last
abbrev pub IsOnward : ℕ → EntryKind → Type 0
IsOnward number (kinds.Gain source size key) = source ≡ by_job number
IsOnward number kind = drops.IsOnward number kind

-- the parts after its step: a transfer's own grows by each piece that it takes, and is gone after the verdict
abbrev pub parts_after : Task → Told → EntryKind → Option Parts → Option Parts
parts_after (tasks.Transfers w) (tolds.Arrival x) kind known = workers.parts_after w x.incoming kind known
parts_after t x kind known = known

-- a content comes only of a part whose sum is its key's, to a get
abbrev pub IsJudged : EntryKind → Task → Type 0
IsJudged kind (tasks.Transfers w) = workers.IsJudgedIn kind w
IsJudged (kinds.Gain source size key) (tasks.Drops j) = ⊥
IsJudged kind (tasks.Drops j) = Unit {0}

-- each piece that is sent is of the content that this work is sending; what a drop says has no piece
abbrev pub SendsPieces : Option Contents → Work → Sent → Type 0
SendsPieces known v (sents.ByTransfer ps) = ArePiecesOf known v ps.items
SendsPieces known v (sents.ByDrop ps) = Unit {0}

-- a drop keeps the words beside a refused look and an answer to an order, and what it heard before; the drop that a move begins has heard
-- nothing; and the paths of the job's key stay
abbrev pub HearsOn : Task → Task → Told → Type 0
HearsOn (tasks.Drops j) (tasks.Drops j') (tolds.Feed f) =
    KeepsWord f.taken f.word j.worker j'.worker × KeepsAnswer f.taken f.word j.worker j'.worker × KeepsOrderWord j.worker j'.worker × Grows j.worker.heard j'.worker.heard × (j'.paths ≡ j.paths)
HearsOn (tasks.Transfers w) (tasks.Transfers w') (tolds.Arrival x) = w'.paths ≡ w.paths
HearsOn (tasks.Transfers w) (tasks.Drops j) (tolds.Arrival x) = (j.worker.heard ≡ []) × (j.worker.word ≡ None) × (j.paths ≡ w.paths)
HearsOn t t' x = ⊥

-- none of the parcels goes to the peer
abbrev pub SendsNoneTo : ℕ → Sent → Type 0
SendsNoneTo peer (sents.ByDrop ps) = Each (λ p. (p.peer == peer) ≡ false) ps.items
SendsNoneTo peer (sents.ByTransfer ps) = Each (λ p. (p.peer == peer) ≡ false) ps.items

-- a lock of another repository: nothing goes to that now, and the drop had it before, or stood with that
pub record KeepsLock (w : Worker) (sent : Sent) (peer : ℕ) : Type 0 where
  pub sends : SendsNoneTo peer sent
  pub from : (is_locked_in w peer ≡ true) ⊎ (stands_on w ≡ Some peer)

-- a drop that removes from its peer sends nothing to a repository of which it has a lock, but where it ends
abbrev pub KeepsLocks : PlaceView → Task → Task → Output → Type 0
KeepsLocks p (tasks.Drops j) (tasks.Drops j') out =
    side_in j.worker ≡ Remote → out.ended ≡ false → (peer : ℕ) → (p.number == peer) ≡ false → is_locked_in j'.worker peer ≡ true → KeepsLock j.worker out.sent peer
KeepsLocks p t t' out = Unit {0}

-- what a step leaves of the job, the table and the store, by an entry that is to have this number
pub record LeavesSo (p : PlaceView) (n : ℕ) (rows rows' : Rows) (k k' : Seen) (t t' : Task) (x : Told) (out : Output) : Type 0 where
  pub number : number_of t' ≡ number_of t
  pub slot : slot_of t' ≡ slot_of t
  pub what : (work_now t').what ≡ (work_now t).what
  pub heard : HearsOn t t' x
  pub locks : KeepsLocks p t t' out
  pub onward : out.ended ≡ false → IsOnward (number_of t) out.kind
  pub last : out.ended ≡ true → IsLast (number_of t) out.kind
  pub numbered : IsNumbered n out.kind
  pub task : out.ended ≡ false → IsTask p t'
  pub spent : out.ended ≡ true → IsSpent t'
  pub owns : OwnsOf rows' t'
  pub others : OthersStay (number_of t) rows rows'
  pub after : rows'.holds ≡ holds_after rows.holds out.kind
  pub bars : (key : List ℕ) → bar_at rows' key ≡ bar_after key (bar_at rows key) out.kind
  pub filled : FillsSo (work_now t) (work_now t') (is_filling rows) (is_filling rows')
  pub contents : k'.contents ≡ contents_after k.contents k.parts out.kind
  pub parts : k'.parts ≡ parts_after t x out.kind k.parts
  pub fed : ForSome k.parts (λ q. IsFedTask q t → ForSome k'.parts (λ q'. IsFedTask q' t'))
  pub small : AreSmallParts k.parts → AreSmallParts k'.parts
  pub judged : IsJudged out.kind t
  pub pieces : SendsPieces k.contents (work_now t) out.sent
  pub agrees : Agrees k.records rows.holds → Agrees k'.records rows'.holds
  pub files : k'.files ≡ k.files
  pub later : k.faults ≤ k'.faults
  pub cause : IfSome (failed_in out.kind) (λ call. Rose k.faults k'.faults)
  pub left : k'.failing ≡ option_map (fewer (failed_in out.kind)) k.failing

-- it leaves that; or there was no memory, and all is as it was but for the count of faults
pub record Stays (rows rows' : Rows) (k k' : Seen) (t t' : Task) : Type 0 where
  pub task : t' ≡ t
  pub table : rows' ≡ rows
  pub contents : k'.contents ≡ k.contents
  pub parts : k'.parts ≡ k.parts
  pub records : k'.records ≡ k.records
  pub files : k'.files ≡ k.files
  pub later : k.faults ≤ k'.faults
  pub failing : k'.failing ≡ k.failing

abbrev pub Leaves : {E : Type 0} → PlaceView → ℕ → Rows → Rows → Seen → Seen → Task → Task → Told → Result Output E → Type 0
Leaves p n rows rows' k k' t t' x (Ok out) = LeavesSo p n rows rows' k k' t t' x out
Leaves p n rows rows' k k' t t' x (Err e) = Stays rows rows' k k' t t'
