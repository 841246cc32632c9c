-- The laws of lower crates that the proofs stand on, as one premise.
use Rattle.std.specs.Prelude.{◌≡◌, ◌≢◌, ◌↔◌, ◌⊎◌, ℕ, ◌≤◌, true, false, List, [], ◌∷◌, ◌++◌, length, reverse, Option, Some, None}
use Rattle.annex_base.specs.Lists.{Each, Member}
use Rattle.annex_base.specs.declared.kinds.Word.{Word}
use Rattle.annex_key.specs.KeyText.{IsKeyText}
use Rattle.annex_key.specs.View.{first_fault}
use Rattle.union_merge.specs.LineSet.{IsLineSet, difference, union}
use Rattle.run_data.specs.declared.entry.Entry.{Entry}
use Rattle.run_data.specs.declared.entry.FrameText.{FrameText}
use Rattle.run_data.specs.declared.entry.FrameView.{FrameView}
use Rattle.run_data.specs.declared.entry.LogFile.{LogFile}
use Rattle.run_data.specs.declared.run.Run.{Run}
use Rattle.run_data.specs.declared.run.TreeMark.{TreeMark}
use Rattle.run_data.specs.Files.{HasPath, file_of, file_path, kind_of}
use Rattle.run_data.specs.Repos.{IsSetUp}
use Rattle.node_model.specs.Ends.{EndName, is_opening, may_take, takes_at}
use Rattle.node_model.specs.Found.{StepFound}
use Rattle.node_model.specs.Jobs.{RowsAndEnds, Work, partner, running_job, work_after}
use Rattle.node_model.specs.JobStep.{Turn}
use Rattle.node_model.specs.Look.{Look, Effect, failed_in, failing_call}
use Rattle.std.specs.Option.{option_map}
use Rattle.annex_base.specs.declared.kinds.Call.{Call}
use Rattle.node_model.specs.Sessions.{Doing, Session}
use Rattle.node_model.specs.SessionStep.{Here, Reply, gives_next, on_frame}
use Rattle.node_model.specs.SetUp.{SetUp}
use Rattle.node_model.specs.Slots.{job_of}
use Rattle.node_model.specs.State.{State}
use Rattle.node_model.specs.Step.{step}
use Rattle.node_model.specs.Turns
use Rattle.node_model.specs.Turns.{is_awaiting, takes_frame}
use Rattle.run_model.specs.Past.{Occurs, is_of}
use Rattle.run_model.specs.Run.{IsRun, OwnPart, RunStep, set_up}
use Rattle.run_model.specs.States.{end_at}

-- what a step found
abbrev pub StepsFind : Type 0
StepsFind = (s : SetUp) (st : State) (k : Look) (m : Effect) → step s st k ≡ Some m → StepFound s st k m

-- a step fails of one of its calls, and which these are doesn't hang on that
pub record StepsTellCalls : Type 0 where
  pub fails : (s : SetUp) (st : State) (k : Look) (m : Effect) → step s st k ≡ Some m → failed_in m.kind ≡ failing_call k.fails m.calls
  pub same : (s : SetUp) (st : State) (k : Look) (fails : Option Call) → option_map (λ (m : Effect). m.calls) (step s st (record k { fails = fails })) ≡ option_map (λ (m : Effect). m.calls) (step s st k)

-- the job that an entry names, of what a session answers and gives, and of what a job makes where it goes on, or takes a frame
pub record NamedJobs : Type 0 where
  pub answers : (h : Here) (was : Session) (body : FrameText) → job_of (on_frame h was body).kind ≡ None
  pub gives : (h : Here) (doing : Doing) (x : Reply) → gives_next h doing ≡ Some x → job_of x.kind ≡ None
  pub goes : (t : Turn) → (partner t.w.what.peer t.w.phase ≡ None) ⊎ (is_awaiting t.w.phase ≡ false) → job_of (Turns.goes t t.w.phase).kind ≡ Some t.w.number
  pub takes : (t : Turn) (peer : ℕ) (f : FrameView) → partner t.w.what.peer t.w.phase ≡ Some peer → job_of (takes_frame t peer f f.body).kind ≡ Some t.w.number
  pub calls : StepsTellCalls

-- what steps find, and how an own entry suits its ends
pub record EntryLaws : Type 0 where
  pub finds : StepsFind
  pub takes : (s : SetUp) (past : List Entry) (words : ℕ → Option Word) (e : Entry) (f : FrameView) (a : EndName) → OwnPart s past words e → e.taken ≡ Some f → takes_at a f ≡ true → may_take (end_at past s.number a) f ≡ true
  pub sends : (s : SetUp) (past : List Entry) (words : ℕ → Option Word) (e : Entry) → OwnPart s past words e → Each (λ g. g.up ≡ false → is_opening g.body ≡ false) e.sent

pub record Laws : Type 0 where
  pub entries : EntryLaws
  pub at_hand : (s : SetUp) (st : State) (k : Look) (m : Effect) (f : FrameView) → step s st k ≡ Some m → m.taken ≡ Some f → Member f k.at_hand
  pub names : NamedJobs
  pub first : (run : Run) → Each IsSetUp run.repos → run.entries ≡ [] → IsRun run
  pub others : (run : Run) (e : Entry) (before : List Entry) (r : ℕ) → IsRun run → Occurs (reverse run.entries) e before → is_of r e ≡ true → Each (λ f. f.peer ≢ r) e.sent
  pub same_job : (rows : RowsAndEnds) (r : ℕ) (e : Entry) (w : Work) → running_job (work_after rows r e w) ≡ running_job w
  pub entry : (run : Run) (e : Entry) → IsRun run → RunStep (set_up run) (reverse run.entries) e → IsRun (record run { entries = run.entries ++ e ∷ [] })
  pub tree : (run : Run) (m : TreeMark) → length run.entries ≤ m.place → IsRun run → IsRun (record run { tree = run.tree ++ m ∷ [] })
  pub command : (run : Run) (marks : List ℕ) → IsRun run → IsRun (record run { marks = marks })
  pub unions : (xs ys : List (List ℕ)) → IsLineSet xs → IsLineSet ys → IsLineSet (union xs ys)
  pub differs : (xs ys : List (List ℕ)) → IsLineSet xs → IsLineSet (difference xs ys)
  pub lacking : (xs ys : List (List ℕ)) (line : List ℕ) → Member line (difference xs ys) ↔ (Member line xs × ¬ Member line ys)
  pub file_again : (file : LogFile) → HasPath file → kind_of file ≢ None → file_of (file_path file) ≡ file
  pub key_text : (text : List ℕ) → (first_fault text ≡ None) ↔ IsKeyText text
