-- What one step makes of a session, a table and a store, as one value (own).
use Rattle.std.specs.Prelude.{◌≡◌, ℕ, ◌≤◌, Bool, false, List, Option, None, Result, Ok, Err, IfSome, bytes_eq}
use Rattle.std.specs.Option.{ForSome}
use Rattle.annex_base.specs.Causes.{Rose}
use Rattle.run_data.specs.declared.entry.By.{By}
use Rattle.run_data.specs.declared.entry.EntryKind.TheVariants.{Close}
use Rattle.object_store.specs.declared.keeper.HoldRecord.{HoldRecord}
use Rattle.object_store.specs.Stores.{Contents, Parts}
use Rattle.node_model.specs.Rows.{same_owner}
use Rattle.node_model.specs.Sessions as sessions
use Rattle.node_model.specs.SessionStep.{Here, unexpected_reply}
use Rattle.content_lock.specs.Rows.{Rows, bar_at, is_filling}
use Rattle.content_lock.specs.Stored.{Agrees}
use Rattle.content_lock.specs.Tokens.{Owns, ShareView}
use Rattle.session_state.specs.declared.doing.Doing.{Doing}
use Rattle.session_state.specs.declared.doing.Doing.TheVariants as doings
use Rattle.session_state.specs.declared.state.SessionState.{SessionState}
use Rattle.session_state.specs.declared.place.Place.{Place}
use Rattle.session_state.specs.declared.place.Scene.{Scene}
use Rattle.session_state.specs.declared.incoming.Incoming.{Incoming}
use Rattle.session_state.specs.declared.step.Step.{Step}
use Rattle.session_state.specs.Answers.{AnswersAsAsked, owner_at}
use Rattle.node_model.specs.Look.{failed_in}
use Rattle.session_state.specs.Bounds.{IsNumberedStep}
use Rattle.session_state.specs.Talking.{AreAfterStep, FillsSo, HasFill, IsFed, IsJudgedIn, SeesPart, SeesSize, doing_of, next_session, on_heard, parts_after, session_of, share_in}

-- a session, a table's rows, and what a store tells: its contents, parts and records of holds, and how many of its calls
-- failed
pub record Moment (S : Type 0) : Type 0 where
  pub session : S
  pub rows : Rows
  pub contents : Option Contents
  pub parts : Option Parts
  pub records : Option (List HoldRecord)
  pub faults : ℕ

abbrev pub moment_of : {S : Type 0} → S → Rows → Option Contents → Option Parts → Option (List HoldRecord) → ℕ → Moment S
moment_of session rows contents parts records faults =
    record { session = session; rows = rows; contents = contents; parts = parts; records = records; faults = faults }

-- the session stands where the scene is, and the table gave it what it has
pub record IsAt (x : Scene) (s : SessionState) (rows : Rows) : Type 0 where
  pub here : x.place ≡ s.place
  pub owns : Owns (owner_at s.place) (share_in s.doing) rows.holds
  pub fills : HasFill rows s.doing

-- what others own stays theirs
abbrev pub LeavesOthers : By → Rows → Rows → Type 0
LeavesOthers by was now = (other : By) (share : Option ShareView) → same_owner by other ≡ false → Owns other share was.holds → Owns other share now.holds

-- the table after what was had in a phase was let go of: a hold is kept, and a part stays
pub record IsLetGo (place : Place) (doing : Doing) (was now : Rows) : Type 0 where
  pub after : AreAfterStep (Close place.peer place.slot false) was now
  pub filled : FillsSo (doing_of doing) sessions.Waits (is_filling was) (is_filling now)
  pub owns : Owns (owner_at place) None now.holds
  pub others : LeavesOthers (owner_at place) was now
  pub agrees : (known : Option (List HoldRecord)) → Agrees known was.holds → Agrees known now.holds

-- this is answered, by a step from one moment to the next
pub record IsStep (x : Scene) (i : Incoming) (was now : Moment SessionState) (step : Step) : Type 0 where
  pub does : ForSome was.contents (λ c. (part : ℕ) (right : Bool) → SeesPart was.parts was.session.doing i part right → AnswersAsAsked x was.rows c now.contents part right (λ h. on_heard h (session_of was.session) i) step)
  pub after : AreAfterStep step.kind was.rows now.rows
  pub bars : (key : List ℕ) → bar_at now.rows key ≡ bar_at was.rows key
  pub fits : IsNumberedStep x.number step
  pub filled : FillsSo (doing_of was.session.doing) (doing_of now.session.doing) (is_filling was.rows) (is_filling now.rows)
  pub next : (size : List ℕ → Option ℕ) → SeesSize was.contents i size → session_of now.session ≡ next_session size step (session_of was.session) i
  pub place : now.session.place ≡ was.session.place
  pub owns : Owns (owner_at now.session.place) (share_in now.session.doing) now.rows.holds
  pub fills : HasFill now.rows now.session.doing
  pub others : LeavesOthers (owner_at was.session.place) was.rows now.rows
  pub parts : now.parts ≡ parts_after was.session.doing i step.kind was.parts
  pub fed : ForSome was.parts (λ p. IsFed p was.session.doing → ForSome now.parts (λ p'. IsFed p' now.session.doing))
  pub judged : IsJudgedIn step.kind was.session.doing
  pub agrees : Agrees now.records now.rows.holds
  pub later : was.faults ≤ now.faults
  pub cause : IfSome (failed_in step.kind) (λ call. Rose was.faults now.faults)

-- all is as before, but for calls that failed
pub record IsAsBefore (was now : Moment SessionState) : Type 0 where
  pub session : now.session ≡ was.session
  pub rows : now.rows ≡ was.rows
  pub contents : now.contents ≡ was.contents
  pub parts : now.parts ≡ was.parts
  pub records : now.records ≡ was.records
  pub later : was.faults ≤ now.faults

-- it is answered so, or all is as before
abbrev pub Goes : {E : Type 0} → Scene → Incoming → Moment SessionState → Moment SessionState → Result Step E → Type 0
Goes x i was now (Ok step) = IsStep x i was now step
Goes x i was now (Err e) = IsAsBefore was now

-- it isn't expected of the session
pub record IsUnexpected (i : Incoming) (s : SessionState) : Type 0 where
  pub answer : (h : Here) → on_heard h (session_of s) i ≡ unexpected_reply h
  pub parts : (peer slot : ℕ) (known : Option Parts) → parts_after s.doing i (Close peer slot false) known ≡ known

-- the session guards this key
abbrev pub guards_key : Doing → List ℕ → Bool
guards_key (doings.Guards share) key = bytes_eq key share.key
guards_key doing key = false
