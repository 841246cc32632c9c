-- The calls of its store that a session's answer makes, in order. It stops at the first that fails.
use Rattle.std.specs.Prelude.{◌≡◌, ℕ, ◌==◌, Bool, if◌then◌else◌, List, [], ◌∷◌, Option, Result, Ok, Err}
use Rattle.std.specs.Option.{ForSome, option_map}
use Rattle.annex_base.specs.declared.kinds.Call.{Call}
use Rattle.annex_base.specs.declared.kinds.Call.TheVariants.{Read}
use Rattle.object_store.specs.Stores.{Contents, Parts}
use Rattle.node_model.specs.Calls.{to_remove}
use Rattle.node_model.specs.Sessions as sessions
use Rattle.node_model.specs.SessionStep.{Here, bar_on, is_held, is_here}
use Rattle.content_lock.specs.Rows.{Rows}
use Rattle.session_state.specs.declared.incoming.Incoming.{Incoming}
use Rattle.session_state.specs.declared.place.Scene.{Scene}
use Rattle.session_state.specs.declared.state.SessionState.{SessionState}
use Rattle.session_state.specs.declared.step.Step.{Step}
use Rattle.session_state.specs.Answers.{here_of}
use Rattle.node_model.specs.Look.{failed_in}
use Rattle.content_lock.specs.CallsMade.{MakesCalls, fewer}
use Rattle.session_state.specs.Talking.{SeesPart, on_heard, session_of}

abbrev pub to_remove_here : Here → List ℕ → List Call
to_remove_here h key = to_remove (is_here h key) (bar_on h key) (is_held h key)

-- the calls of the next piece of a content that is given
abbrev pub calls_next : sessions.Doing → List Call
calls_next (sessions.Gives key at left good) = if left == 0 then [] else Read ∷ []
calls_next doing = []

-- an answer makes the calls of the definitions', and the numbers are one less where one failed
pub record MakesStep (x : Scene) (i : Incoming) (s : SessionState) (rows : Rows) (contents : Option Contents) (parts : Option Parts) (before after : Option (Call → ℕ)) (step : Step) : Type 0 where
  pub calls : ForSome contents (λ c. (part : ℕ) (right : Bool) → SeesPart parts s.doing i part right → MakesCalls (on_heard (here_of x rows c (failed_in step.kind) part right) (session_of s) i).calls (failed_in step.kind) before after)
  pub left : after ≡ option_map (fewer (failed_in step.kind)) before

-- it is answered so, or for want of memory, and then all calls of the store went well
abbrev pub Makes : {E : Type 0} → Scene → Incoming → SessionState → Rows → Option Contents → Option Parts → Option (Call → ℕ) → Option (Call → ℕ) → Result Step E → Type 0
Makes x i s rows contents parts before after (Ok step) = MakesStep x i s rows contents parts before after step
Makes x i s rows contents parts before after (Err e) = after ≡ before
