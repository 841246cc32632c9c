-- What follows of an answer, where there is one and where there is none.
use Rattle.std.proofs.Common.{◌≡◌, ℕ, ◌≤◌, ◌<◌, Bool, List, Option, Some, Result, Ok, Err, IfOk, OnOk, OnErr, sym, ap, subst, ◌∙◌}
use Rattle.std.specs.Prelude.{IfSome}
use Rattle.std.specs.Option.{ForSome}
use Rattle.annex_base.specs.Causes.{Rose}
use Rattle.run_data.specs.declared.entry.FrameText.{FrameText}
use Rattle.run_data.specs.declared.entry.FrameView.{FrameView}
use Rattle.object_store.specs.declared.keeper.HoldRecord.{HoldRecord}
use Rattle.node_model.specs.Ends.{EndName}
use Rattle.node_model.specs.Look.{failed_in, Look}
use Rattle.node_model.specs.Sessions.{session_after}
use Rattle.node_model.specs.SessionStep.{here, is_filled, on_frame}
use Rattle.node_model.specs.SetUp.{SetUp}
use Rattle.node_model.specs.State.{State}
use Rattle.content_lock.specs.Rows.{Rows, bar_at, is_filling}
use Rattle.content_lock.specs.Stored.{Agrees}
use Rattle.content_lock.specs.Tokens.{Owns}
use Rattle.p2p_server.specs.declared.session.Session.{Session}
use Rattle.session_state.specs.declared.incoming.Incoming.{Incoming}
use Rattle.session_state.specs.declared.place.Scene.{Scene}
use Rattle.session_state.specs.declared.state.SessionState.{SessionState}
use Rattle.session_state.specs.declared.step.Step.{Step}
use Rattle.session_state.specs.Answers.{as_said, owner_at, reply_of}
use Rattle.session_state.specs.Bounds.{IsKind, IsReplyIf}
use Rattle.session_state.specs.States.{IsScene, HaveRows, Stand, stand_after, stand_of}
use Rattle.session_state.specs.Stepping.{Goes, IsAt, LeavesOthers, Moment}
use Rattle.session_state.specs.Talking.{AreAfterStep, Brings, FillsSo, HasFill, IsFed, IsJudgedIn, SaysSo, SeesPart, SeesSize, parts_after, session_of, share_in}
use Rattle.p2p_server.proofs.Numbers.{AreBelow, numbers_so}
use Rattle.session_state.proofs.StateFacts.{next_is, stands, step_is}

-- ---- where there is an answer

pub step_told : {E : Type 0} (x : Scene) (i : Incoming) (was now : Moment SessionState) (r : Result Step E) → Goes x i was now r
    → IfOk r (λ step. (s : SetUp) (st : State) (k : Look) (a : EndName) (body : FrameText) → IsScene x s st k a → HaveRows was.rows was.contents (stand_of st) → ((key : List ℕ) → is_filled s st key ≡ is_filling was.rows key)
    → st.sessions a ≡ session_of was.session → Brings body i → SeesPart was.parts was.session.doing i k.part k.right → k.fails ≡ failed_in step.kind
    → reply_of step ≡ as_said (on_frame (here s st k a) (st.sessions a) body))
step_told x i was now (Ok step) goes = λ s st k a body e r filled same brings sees f.
    step_is x was.rows was.contents now.contents (session_of was.session) i step s st k a body e r filled same brings f (goes.does r.contents r.told k.part k.right sees)
step_told x i was now (Err e) goes = tt

pub rows_told : {E : Type 0} (x : Scene) (i : Incoming) (was now : Moment SessionState) (r : Result Step E) → Goes x i was now r
    → IfOk r (λ step. (stand : Stand) (part : ℕ) (right : Bool) → HaveRows was.rows was.contents stand → SeesPart was.parts was.session.doing i part right → HaveRows now.rows now.contents (stand_after step.kind stand))
rows_told x i was now (Ok step) goes = λ stand part right r sees.
    stands x was.rows now.rows was.contents now.contents part right _ step stand r goes.after (goes.does r.contents r.told part right sees)
rows_told x i was now (Err e) goes = tt

pub next_told : {E : Type 0} (x : Scene) (i : Incoming) (was now : Moment SessionState) (r : Result Step E) → Goes x i was now r
    → IfOk r (λ step. (size : List ℕ → Option ℕ) (sent : List FrameView) (f : FrameView) → Brings f.body i → SaysSo step sent → SeesSize was.contents i size
    → session_of now.session ≡ session_after size step.kind (session_of was.session) sent (Some f))
next_told x i was now (Ok step) goes = λ size sent f e so sees. goes.next size sees ∙ next_is size step (session_of was.session) i sent f e so
next_told x i was now (Err e) goes = tt

pub after_told : {E : Type 0} (x : Scene) (i : Incoming) (was now : Moment SessionState) (r : Result Step E) → Goes x i was now r → IfOk r (λ step. AreAfterStep step.kind was.rows now.rows)
after_told x i was now (Ok step) goes = goes.after
after_told x i was now (Err e) goes = tt

pub bars_told : {E : Type 0} (x : Scene) (i : Incoming) (was now : Moment SessionState) (r : Result Step E) → Goes x i was now r → IfOk r (λ step. (key : List ℕ) → bar_at now.rows key ≡ bar_at was.rows key)
bars_told x i was now (Ok step) goes = goes.bars
bars_told x i was now (Err e) goes = tt

pub reply_told : {E : Type 0} (x : Scene) (i : Incoming) (was now : Moment SessionState) (r : Result Step E) → Goes x i was now r → IfOk r (λ step. IsReplyIf step.reply)
reply_told x i was now (Ok step) goes = goes.fits.reply
reply_told x i was now (Err e) goes = tt

pub kind_told : {E : Type 0} (x : Scene) (i : Incoming) (was now : Moment SessionState) (r : Result Step E) → Goes x i was now r → IfOk r (λ step. IsKind x.number step.kind)
kind_told x i was now (Ok step) goes = goes.fits.kind
kind_told x i was now (Err e) goes = tt

pub parts_told : {E : Type 0} (x : Scene) (i : Incoming) (was now : Moment SessionState) (r : Result Step E) → Goes x i was now r → IfOk r (λ step. now.parts ≡ parts_after was.session.doing i step.kind was.parts)
parts_told x i was now (Ok step) goes = goes.parts
parts_told x i was now (Err e) goes = tt

pub fed_told : {E : Type 0} (x : Scene) (i : Incoming) (was now : Moment SessionState) (r : Result Step E) → Goes x i was now r
    → OnOk r (ForSome was.parts (λ p. IsFed p was.session.doing → ForSome now.parts (λ p'. IsFed p' now.session.doing)))
fed_told x i was now (Ok step) goes = goes.fed
fed_told x i was now (Err e) goes = tt

pub filled_told : {E : Type 0} (x : Scene) (i : Incoming) (was now : Moment SessionState) (r : Result Step E) → Goes x i was now r
    → OnOk r (FillsSo (session_of was.session).doing (session_of now.session).doing (is_filling was.rows) (is_filling now.rows))
filled_told x i was now (Ok step) goes = goes.filled
filled_told x i was now (Err e) goes = tt

pub judged_told : {E : Type 0} (x : Scene) (i : Incoming) (was now : Moment SessionState) (r : Result Step E) → Goes x i was now r → IfOk r (λ step. IsJudgedIn step.kind was.session.doing)
judged_told x i was now (Ok step) goes = goes.judged
judged_told x i was now (Err e) goes = tt

pub cause_told : {E : Type 0} (x : Scene) (i : Incoming) (was now : Moment SessionState) (r : Result Step E) → Goes x i was now r
    → IfOk r (λ step. IfSome (failed_in step.kind) (λ call. Rose was.faults now.faults))
cause_told x i was now (Ok step) goes = goes.cause
cause_told x i was now (Err e) goes = tt

-- ---- where there is none

pub contents_as_before : {E : Type 0} (x : Scene) (i : Incoming) (was now : Moment SessionState) (r : Result Step E) → Goes x i was now r → OnErr r (now.contents ≡ was.contents)
contents_as_before x i was now (Ok step) goes = tt
contents_as_before x i was now (Err e) goes = goes.contents

pub parts_as_before : {E : Type 0} (x : Scene) (i : Incoming) (was now : Moment SessionState) (r : Result Step E) → Goes x i was now r → OnErr r (now.parts ≡ was.parts)
parts_as_before x i was now (Ok step) goes = tt
parts_as_before x i was now (Err e) goes = goes.parts

pub records_as_before : {E : Type 0} (x : Scene) (i : Incoming) (was now : Moment SessionState) (r : Result Step E) → Goes x i was now r → OnErr r (now.records ≡ was.records)
records_as_before x i was now (Ok step) goes = tt
records_as_before x i was now (Err e) goes = goes.records

-- the session that has this state
abbrev pub whole : SessionState → Session
whole state = record { state = state }

pub session_as_before : {E : Type 0} (x : Scene) (i : Incoming) (was now : Moment SessionState) (r : Result Step E) → Goes x i was now r → OnErr r ((whole now.session ≡ whole was.session) × (now.rows ≡ was.rows))
session_as_before x i was now (Ok step) goes = tt
session_as_before x i was now (Err e) goes = (ap whole goes.session, goes.rows)

-- ---- in both cases

pub numbers_told : {E : Type 0} (x : Scene) (i : Incoming) (was now : Moment SessionState) (r : Result Step E) → Goes x i was now r → AreBelow x.number was.rows.holds
    → (n : ℕ) → x.number < n → AreBelow n now.rows.holds
numbers_told {E} x i was now (Ok step) goes less n more = numbers_so {E = E} (Ok step) was.rows now.rows x.number n less goes.after goes.fits tt more
numbers_told {E} x i was now (Err e) goes less n more = numbers_so {E = E} (Err e) was.rows now.rows x.number n less tt tt goes.rows more

pub record Remains (was now : Moment SessionState) : Type 0 where
  pub place : now.session.place ≡ was.session.place
  pub owns : Owns (owner_at now.session.place) (share_in now.session.doing) now.rows.holds
  pub fills : HasFill now.rows now.session.doing
  pub others : LeavesOthers (owner_at was.session.place) was.rows now.rows
  pub agrees : Agrees now.records now.rows.holds
  pub later : was.faults ≤ now.faults

pub remains : {E : Type 0} (x : Scene) (i : Incoming) (was now : Moment SessionState) (r : Result Step E) → Goes x i was now r → IsAt x was.session was.rows → Agrees was.records was.rows.holds → Remains was now
remains x i was now (Ok step) goes at agrees = record { place = goes.place; owns = goes.owns; fills = goes.fills; others = goes.others; agrees = goes.agrees; later = goes.later }
remains x i was now (Err e) goes at agrees = record {
  place = ap (λ (s : SessionState). s.place) goes.session;
  owns = subst (λ (s : SessionState). Owns (owner_at s.place) (share_in s.doing) now.rows.holds) (sym goes.session) (subst (λ (r : Rows). Owns (owner_at was.session.place) (share_in was.session.doing) r.holds) (sym goes.rows) at.owns);
  fills = subst (λ (s : SessionState). HasFill now.rows s.doing) (sym goes.session) (subst (λ (r : Rows). HasFill r was.session.doing) (sym goes.rows) at.fills);
  others = λ other share apart o. subst (λ (r : Rows). Owns other share r.holds) (sym goes.rows) o;
  agrees = subst (λ (known : Option (List HoldRecord)). Agrees known now.rows.holds) (sym goes.records) (subst (λ (r : Rows). Agrees was.records r.holds) (sym goes.rows) agrees);
  later = goes.later;
}
