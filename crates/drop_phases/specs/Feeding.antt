-- What a step of a drop is told of its frame, and which token goes with which phase (own).
use Rattle.std.specs.Prelude.{◌≡◌, ℕ, Bool, true, false, ◌==◌, List, ◌∷◌, Option, Some, None}
use Rattle.std.specs.List.{list_all}
use Rattle.run_data.specs.declared.entry.FrameView.{FrameView}
use Rattle.node_model.specs.Look.{Effect, waiting_frame}
use Rattle.node_model.specs.Jobs.{drop_side, job_end}
use Rattle.drop_proof.specs.declared.rule.Side.TheVariants.{Remote}
use Rattle.node_model.specs.JobStep.{Turn, end_with, quietly, talk}
use Rattle.node_model.specs.Turns.{goes, has_room, needs, takes_frame}
use Rattle.drop_phases.specs.declared.phase.Phase.{Phase}
use Rattle.drop_phases.specs.declared.phase.Phase.TheVariants as phases
use Rattle.drop_phases.specs.declared.phase.Ending.{Ending}
use Rattle.drop_phases.specs.declared.phase.Ending.TheVariants as endings
use Rattle.drop_phases.specs.declared.phase.Token.{Token}
use Rattle.drop_phases.specs.declared.phase.Token.TheVariants as tokens
use Rattle.drop_phases.specs.declared.turn.Taken.{Taken}
use Rattle.drop_phases.specs.declared.turn.Taken.TheVariants as takens
use Rattle.drop_phases.specs.Working.{Sight, end_in}
use Rattle.drop_phases.specs.Doing.{Comes, DoesAsAsked, IsBar}
use Rattle.annex_base.specs.declared.kinds.Word.{Word}
use Rattle.p2p_wire.specs.declared.message.Message.TheVariants.{Failure, Success}
use Rattle.drop_phases.specs.declared.phase.Heard.TheVariants as heards
use Rattle.drop_phases.specs.declared.turn.Output.{Output}
use Rattle.drop_phases.specs.Worker.{Worker}
use Rattle.content_lock.specs.Rows.{Rows}
use Rattle.node_model.specs.Ends.{takes_at}
use Rattle.run_data.specs.declared.entry.FrameText.TheVariants.{Closing}

-- ---- tokens

abbrev pub IsBare : Token → Type 0
IsBare tokens.Nothing = Unit {0}
IsBare token = ⊥

-- the job has no share
abbrev pub IsOfLocal : Token → Type 0
IsOfLocal (tokens.Share share) = ⊥
IsOfLocal token = Unit {0}

abbrev pub FitsEnding : Ending → Token → Type 0
FitsEnding endings.StoreFault token = IsOfLocal token
FitsEnding why token = ⊥

-- a local drop in this phase has this token
abbrev pub FitsLocal : Phase → Token → Type 0
FitsLocal phases.Fresh token = IsBare token
FitsLocal phases.Next token = IsBar token
FitsLocal (phases.Opens peer) token = IsBar token
FitsLocal (phases.Greets peer) token = IsBar token
FitsLocal (phases.AsksLock peer since) token = IsBar token
FitsLocal (phases.AsksLook peer) token = IsBar token
FitsLocal phases.AsksTime token = ⊥
FitsLocal phases.Orders token = ⊥
FitsLocal phases.Removed token = IsBare token
FitsLocal phases.Denied token = ⊥
FitsLocal (phases.Late time) token = ⊥
FitsLocal (phases.Ends why) token = FitsEnding why token

-- the job has no bar
abbrev pub HasNoBar : Token → Type 0
HasNoBar (tokens.Bar bar) = ⊥
HasNoBar token = Unit {0}

-- a remote drop in this phase has this token
abbrev pub FitsRemote : Phase → Token → Type 0
FitsRemote phases.Fresh token = IsBare token
FitsRemote phase token = HasNoBar token

-- ---- frames

-- the step of a turn whose job stands on the connection with this peer, or on none, and takes this frame, or none
abbrev pub step_of : Option ℕ → Option FrameView → Turn → Effect
step_of None f t = goes t t.w.phase
step_of (Some peer) None t = quietly (talk t) None
step_of (Some peer) (Some f) t = takes_frame t peer f f.body

-- the worker is told of the frame that it takes from this peer, or that the connection was closed here
abbrev pub FeedsFrame : Sight → ℕ → ℕ → Option FrameView → Taken → Type 0
FeedsFrame x slot peer (Some f) taken = Comes x slot peer f taken
FeedsFrame x slot peer None taken = (taken ≡ takens.Closed) × ((x.read.repo == peer) ≡ false) × ((x.ends (end_in slot peer)).opened ≡ false)

-- the step does what the definitions do with what it is told
abbrev pub TakesFed : ℕ → ℕ → Taken → Worker → Worker → Output → Type 0
TakesFed time peer taken w w' out =
    (x : Sight) (rows : Rows) (p : List ℕ → Bool) (f : Option FrameView) → x.time ≡ time → FeedsFrame x w.slot peer f taken → DoesAsAsked x rows rows p w w' f (step_of (Some peer) f) out

-- the word beside a refused look is kept
abbrev pub KeepsWord : Taken → Option Word → Worker → Worker → Type 0
KeepsWord taken word w w' = (peer : ℕ) → w.phase ≡ phases.AsksLook peer → taken ≡ takens.Message Failure → w'.heard ≡ (peer, heards.Unseen word) ∷ w.heard

-- the answer to an order
abbrev pub IsAnswer : Taken → Type 0
IsAnswer (takens.Message Success) = Unit {0}
IsAnswer (takens.Message Failure) = Unit {0}
IsAnswer taken = ⊥

-- the word beside it is kept
abbrev pub KeepsAnswer : Taken → Option Word → Worker → Worker → Type 0
KeepsAnswer taken word w w' = w.phase ≡ phases.Orders → IsAnswer taken → w'.word ≡ word

-- it comes with the step that takes the answer, and stays
abbrev pub KeepsOrderWord : Worker → Worker → Type 0
KeepsOrderWord w w' = drop_side w.job.kind w.job.peer ≡ Remote → (w.phase ≡ phases.Orders → ⊥) → w'.word ≡ w.word

-- with a frame that is no message; with a Close; with a connection that was closed here
abbrev pub TakesOther : ℕ → Worker → Worker → Output → Type 0
TakesOther peer w w' out =
    (x : Sight) (rows : Rows) (p : List ℕ → Bool) (f : FrameView) → Comes x w.slot peer f takens.Other → DoesAsAsked x rows rows p w w' (Some f) (λ t. takes_frame t peer f f.body) out

abbrev pub TakesClose : ℕ → Worker → Worker → Output → Type 0
TakesClose peer w w' out =
    (x : Sight) (rows : Rows) (p : List ℕ → Bool) (f : FrameView) → (x.read.repo == peer) ≡ false → takes_at (end_in w.slot peer) f ≡ true → f.body ≡ Closing
    → DoesAsAsked x rows rows p w w' (Some f) (λ t. takes_frame t peer f f.body) out

abbrev pub FindsClosed : ℕ → Worker → Worker → Output → Type 0
FindsClosed peer w w' out =
    (x : Sight) (rows : Rows) (p : List ℕ → Bool) → (x.read.repo == peer) ≡ false → (x.ends (end_in w.slot peer)).opened ≡ false → DoesAsAsked x rows rows p w w' None (λ t. quietly (talk t) None) out

-- the same of a job that stands on a connection, or on none
abbrev pub FeedsFrameAt : Sight → ℕ → Option ℕ → Option FrameView → Taken → Type 0
FeedsFrameAt x slot None f taken = (taken ≡ takens.Nothing) × (f ≡ None)
FeedsFrameAt x slot (Some peer) f taken = FeedsFrame x slot peer f taken

-- a frame is told where a job stands on a connection, and only there
abbrev pub ToldAt : Option ℕ → Taken → Type 0
ToldAt None taken = taken ≡ takens.Nothing
ToldAt (Some peer) taken = taken ≡ takens.Nothing → ⊥

-- what a turn finds: room where the job goes on, a connection that was closed here, or a frame and room
abbrev pub FindsAt : Turn → Option ℕ → Option FrameView → Type 0
FindsAt t None f = list_all (has_room t) (needs t t.w.phase) ≡ true
FindsAt t (Some peer) None = (end_with t peer).opened ≡ false
FindsAt t (Some peer) (Some f) = (waiting_frame (end_with t peer) t.look (job_end t.w peer) ≡ Some f) × (has_room t peer ≡ true)
