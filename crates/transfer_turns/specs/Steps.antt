-- What a step of a transfer does and leaves, each in one fact (own).
use Rattle.std.specs.Prelude.{◌≡◌, ◌≤◌, ℕ, Bool, true, false, ◌&&◌, not, if◌then◌else◌, List, Option, Some, IfSome, bytes_eq}
use Rattle.std.specs.Option.{ForSome, option_map}
use Rattle.annex_base.specs.Causes.{Rose}
use Rattle.annex_base.specs.declared.kinds.Call.{Call}
use Rattle.run_data.specs.declared.entry.EntryKind.{EntryKind}
use Rattle.run_data.specs.declared.entry.EntryKind.TheVariants.{End, Fault, Gain, Talk}
use Rattle.run_data.specs.declared.entry.FrameView.{FrameView}
use Rattle.object_store.specs.Stores.{Contents, Files, Parts}
use Rattle.object_store.specs.declared.keeper.HoldRecord.{HoldRecord}
use Rattle.node_model.specs.Jobs.{Work}
use Rattle.node_model.specs.JobStep.{Turn}
use Rattle.node_model.specs.Look.{Effect, as_told, failed_in}
use Rattle.node_model.specs.Slots.{job_of}
use Rattle.content_lock.specs.CallsMade.{MakesCalls, fewer}
use Rattle.content_lock.specs.Rows.{Rows, is_filling}
use Rattle.session_state.specs.declared.incoming.Incoming.{Incoming}
use Rattle.session_state.specs.Answers.{contents_after}
use Rattle.drop_phases.specs.Doing.{next_work}
use Rattle.transfer_turns.specs.declared.parcels.Output.{Output}
use Rattle.transfer_turns.specs.Turns.{Comes, Sight, awaited, made_of, step_at, turn_in}

-- what a store tells
pub record Seen : Type 0 where
  pub contents : Option Contents
  pub parts : Option Parts
  pub records : Option (List HoldRecord)
  pub files : Option Files
  pub faults : ℕ
  pub failing : Option (Call → ℕ)

abbrev pub seen : Option Contents → Option Parts → Option (List HoldRecord) → Option Files → ℕ → Option (Call → ℕ) → Seen
seen contents parts records files faults failing = record { contents = contents; parts = parts; records = records; files = files; faults = faults; failing = failing }

abbrev pub is_end : EntryKind → Bool
is_end (End job outcome) = true
is_end kind = false

-- a step makes what is asked in this turn, and its calls; and unless it ends the job, the job's work goes on as the definitions say
pub record Makes (x : Sight) (k k' : Seen) (v v' : Work) (f : Option FrameView) (t : Turn) (asked : Effect) (out : Output) : Type 0 where
  pub effect : made_of x v.slot f out ≡ as_told asked
  pub next : is_end out.kind ≡ false → v' ≡ next_work t asked
  pub calls : MakesCalls asked.calls (failed_in out.kind) k.failing k'.failing

-- of each turn that has what the step reads, where the store tells its contents: the part has this size, and is right or isn't, as this sees it
abbrev pub MakesIn : Sight → Rows → Seen → Seen → Work → Work → Option FrameView → (ℕ → Bool → Type 0) → (Turn → Effect) → Output → Type 0
MakesIn x rows k k' v v' f sees asked out =
    ForSome k.contents (λ c. (part : ℕ) (right : Bool) (rest : Turn) → sees part right
    → Makes x k k' v v' f (turn_in x rows c part right (failed_in out.kind) rest v) (asked (turn_in x rows c part right (failed_in out.kind) rest v)) out)

-- the step of a job that is told this
abbrev pub StepsIn : Sight → Rows → Seen → Seen → Work → Work → Option Incoming → (ℕ → Bool → Type 0) → Output → Type 0
StepsIn x rows k k' v v' i sees out = (f : Option FrameView) → Comes x v.slot (awaited v) f i → MakesIn x rows k k' v v' f sees (step_at (awaited v) f) out

-- ---- what it leaves

-- the job fills the key
abbrev pub fills_key : Work → List ℕ → Bool
fills_key v key = v.fills && bytes_eq v.what.key key

-- the keys that are filled after its step: that which it fills, and those that others fill; it fills none anew that was filled
pub record FillsSo (v v' : Work) (was now : List ℕ → Bool) : Type 0 where
  pub after : (key : List ℕ) → now key ≡ (if fills_key v' key then true else (if fills_key v key then false else was key))
  pub free : (key : List ℕ) → (fills_key v' key && not (fills_key v key) && was key) ≡ false

-- an entry of a transfer
abbrev pub IsOfTransfer : EntryKind → Type 0
IsOfTransfer (Talk (Some job)) = Unit {0}
IsOfTransfer (Fault call by) = Unit {0}
IsOfTransfer (Gain by size key) = Unit {0}
IsOfTransfer (End job outcome) = Unit {0}
IsOfTransfer kind = ⊥

-- what a step leaves of the table and the store, and whose entry it is
pub record Leaves (rows rows' : Rows) (k k' : Seen) (v v' : Work) (out : Output) : Type 0 where
  pub kind : IsOfTransfer out.kind
  pub whose : job_of out.kind ≡ Some v.number
  pub number : v'.number ≡ v.number
  pub slot : v'.slot ≡ v.slot
  pub what : v'.what ≡ v.what
  pub holds : rows'.holds ≡ rows.holds
  pub bars : rows'.bars ≡ rows.bars
  pub filled : FillsSo v v' (is_filling rows) (is_filling rows')
  pub contents : k'.contents ≡ contents_after k.contents k.parts out.kind
  pub records : k'.records ≡ k.records
  pub files : k'.files ≡ k.files
  pub later : k.faults ≤ k'.faults
  pub cause : IfSome (failed_in out.kind) (λ call. Rose k.faults k'.faults)
  pub left : k'.failing ≡ option_map (fewer (failed_in out.kind)) k.failing

-- a step changes nothing of the store, and this call failed in it, if one did
pub record LeavesBut (failed : Option Call) (k k' : Seen) : Type 0 where
  pub contents : k'.contents ≡ k.contents
  pub parts : k'.parts ≡ k.parts
  pub records : k'.records ≡ k.records
  pub files : k'.files ≡ k.files
  pub later : k.faults ≤ k'.faults
  pub cause : IfSome failed (λ call. Rose k.faults k'.faults)
  pub left : k'.failing ≡ option_map (fewer failed) k.failing

-- it changes nothing of the store, and no call failed that was to fail
pub record LeavesAll (k k' : Seen) : Type 0 where
  pub contents : k'.contents ≡ k.contents
  pub parts : k'.parts ≡ k.parts
  pub records : k'.records ≡ k.records
  pub files : k'.files ≡ k.files
  pub later : k.faults ≤ k'.faults
  pub failing : k'.failing ≡ k.failing
