-- Steps of a session that waits, to which a token or a content's place is given.
use Rattle.std.proofs.Common.{◌≡◌, ℕ, ◌-◌, ◌≤◌, Bool, true, false, List, [], ◌∷◌, length, Option, Some, None, refl, sym, subst, ◌∙◌}
use Rattle.std.specs.Prelude.{if◌then◌else◌, IfNone, IfSome, nat_le}
use Rattle.std.specs.Option.{ForSome}
use Rattle.annex_base.specs.Causes.{Rose}
use Rattle.annex_base.specs.declared.kinds.Call.TheVariants as calls
use Rattle.run_data.specs.declared.entry.EntryKind.{EntryKind}
use Rattle.run_data.specs.declared.entry.EntryKind.TheVariants.{Talk}
use Rattle.run_data.specs.declared.entry.FrameText.TheVariants.{Closing}
use Rattle.run_data.specs.declared.row.Hold.{Hold}
use Rattle.p2p_wire.specs.declared.message.Message.TheVariants as messages
use Rattle.object_store.specs.declared.keeper.HoldRecord.{HoldRecord}
use Rattle.object_store.specs.Stores.{Contents, Parts}
use Rattle.node_model.specs.Sessions as sessions
use Rattle.node_model.specs.SessionStep.{Here, bytes_left, content_of, on_lock, on_put, reply, tries, unexpected_reply}
use Rattle.content_lock.specs.Rows.{AreAfter, Rows, bar_at, is_filling}
use Rattle.content_lock.specs.Stored.{Agrees}
use Rattle.content_lock.specs.Tokens.{Owns, ShareView}
use Rattle.session_state.specs.declared.doing.Doing.{Doing}
use Rattle.session_state.specs.declared.doing.Doing.TheVariants as doings
use Rattle.session_state.specs.declared.doing.Giving.{Giving}
use Rattle.session_state.specs.declared.doing.Wanting.{Wanting}
use Rattle.session_state.specs.declared.incoming.Incoming.TheVariants as incoming
use Rattle.session_state.specs.declared.place.Place.{Place}
use Rattle.session_state.specs.declared.place.Scene.{Scene}
use Rattle.session_state.specs.declared.state.SessionState.{SessionState}
use Rattle.session_state.specs.declared.step.Step.{Step}
use Rattle.session_state.specs.Answers.{as_said, AnswersAsAsked, here_of, owner_at, owner_of, size_in}
use Rattle.node_model.specs.Look.{failed_in}
use Rattle.session_state.specs.Bounds.{IsNumberedStep}
use Rattle.session_state.specs.Phases.{IsNoGain, wanted_in}
use Rattle.session_state.specs.Stepping.{IsAt, IsStep, LeavesOthers, moment_of}
use Rattle.session_state.specs.Talking.{AreAfterStep, FillsSo, HasFill, IsFed, IsFedBy, IsPlain, Tells, doing_of, share_in}
use Rattle.session_state.proofs.Holding.{none_filled, same_filled}
use Rattle.session_state.proofs.Stepping.{none_judged, waiting, waits_is}

-- a session, of whose place and version the phase goes on to be this
abbrev pub in_phase : Place → ℕ → Doing → SessionState
in_phase place spoken doing = record { place = place; spoken = spoken; doing = doing }

-- from a session that waits, whose parts are written out, to one that does so
pub from_waiting : (s s' : SessionState) (place : Place) (spoken : ℕ) (doing : Doing) (P : SessionState → SessionState → Type 0) → s.doing ≡ doings.Waits
    → s' ≡ in_phase place spoken doing → P (waiting s.place s.spoken) (in_phase place spoken doing) → P s s'
from_waiting s s' place spoken doing P waits new p = subst (λ (t : SessionState). P t s') (sym (waits_is s waits)) (subst (λ (t : SessionState). P (waiting s.place s.spoken) t) (sym new) p)

-- ---- LOCKCONTENT

abbrev pub guarding : Option ShareView → Doing
guarding None = doings.Waits
guarding (Some share) = doings.Guards share

guarding_share : (o : Option ShareView) → share_in (guarding o) ≡ o
guarding_share None = refl
guarding_share (Some share) = refl

guarding_fills : (o : Option ShareView) (rows : Rows) → HasFill rows (guarding o)
guarding_fills None rows = tt
guarding_fills (Some share) rows = tt

guarding_fed : (o : Option ShareView) (p : Parts) → IsFed p (guarding o)
guarding_fed None p = tt
guarding_fed (Some share) p = tt

guarding_filled : (o : Option ShareView) (k : List ℕ) → sessions.is_filling k (doing_of (guarding o)) ≡ false
guarding_filled None k = refl
guarding_filled (Some share) k = refl

guarding_is : (o : Option ShareView) (kind : EntryKind) → IfSome o (λ v. sessions.guards kind ≡ sessions.Guards v.number v.key) → IfNone o (sessions.guards kind ≡ sessions.Waits)
    → sessions.guards kind ≡ doing_of (guarding o)
guarding_is None kind some none = none
guarding_is (Some share) kind some none = some

locked : (x : Scene) (key : List ℕ) (place : Place) (spoken : ℕ) (was now : Rows) (contents contents' : Option Contents) (parts parts' : Option Parts) (records records' : Option (List HoldRecord)) (faults faults' : ℕ)
    (o : Option ShareView) (step : Step)
    → x.place ≡ place
    → ForSome contents (λ c. (part : ℕ) (right : Bool) → AnswersAsAsked x was c contents' part right (λ h. on_lock h key) step)
    → AreAfter step.kind was now → ((key : List ℕ) → bar_at now key ≡ bar_at was key) → IsNumberedStep x.number step → sessions.guards step.kind ≡ doing_of (guarding o)
    → Owns (owner_of x) o now.holds → LeavesOthers (owner_of x) was now → IsPlain step → IsNoGain step.kind → parts' ≡ parts → Agrees records' now.holds → faults ≤ faults'
    → IfSome (failed_in step.kind) (λ call. Rose faults faults')
    → IsStep x (incoming.Message (messages.LockContent key)) (moment_of (waiting place spoken) was contents parts records faults) (moment_of (in_phase place spoken (guarding o)) now contents' parts' records' faults') step
locked x key place spoken was now contents contents' parts parts' records records' faults faults' o step here does after bars fits guards owns others plain lost same agrees later cause = record {
  does = λ c is part right sees. does c is part right;
  after = record { holds = after.holds; bars = after.bars };
  bars = bars;
  fits = fits;
  filled = none_filled sessions.Waits (doing_of (guarding o)) (is_filling was) (is_filling now) (λ k. refl) (guarding_filled o) (same_filled was.fills now.fills after.fills);
  next = λ size sees. λ j. sessions.session_left (sym plain.0 j) (record { version = sym (plain.1 spoken) j; doing = sym guards j });
  place = refl;
  owns = subst (λ (p : Place). Owns (owner_at p) (share_in (guarding o)) now.holds) here (subst (λ (w : Option ShareView). Owns (owner_of x) w now.holds) (sym (guarding_share o)) owns);
  fills = guarding_fills o now;
  others = subst (λ (p : Place). LeavesOthers (owner_at p) was now) here others;
  parts = same;
  fed = λ p is fed p' is'. guarding_fed o p';
  judged = none_judged step.kind doings.Waits lost;
  agrees = agrees;
  later = later;
  cause = cause;
}

pub lock_so : (x : Scene) (key : List ℕ) (s s' : SessionState) (was now : Rows) (contents contents' : Option Contents) (parts parts' : Option Parts) (records records' : Option (List HoldRecord)) (faults faults' : ℕ)
    (o : Option ShareView) (step : Step)
    → s.doing ≡ doings.Waits → s' ≡ in_phase s.place s.spoken (guarding o) → x.place ≡ s.place
    → ForSome contents (λ c. (part : ℕ) (right : Bool) → AnswersAsAsked x was c contents' part right (λ h. on_lock h key) step)
    → AreAfter step.kind was now → ((key : List ℕ) → bar_at now key ≡ bar_at was key) → IsNumberedStep x.number step
    → IfSome o (λ v. sessions.guards step.kind ≡ sessions.Guards v.number v.key) → IfNone o (sessions.guards step.kind ≡ sessions.Waits)
    → Owns (owner_of x) o now.holds → LeavesOthers (owner_of x) was now → IsPlain step → IsNoGain step.kind → parts' ≡ parts → Agrees records' now.holds → faults ≤ faults'
    → IfSome (failed_in step.kind) (λ call. Rose faults faults')
    → IsStep x (incoming.Message (messages.LockContent key)) (moment_of s was contents parts records faults) (moment_of s' now contents' parts' records' faults') step
lock_so x key s s' was now contents contents' parts parts' records records' faults faults' o step waits new here does after bars fits some none owns others plain lost same agrees later cause =
    from_waiting s s' s.place s.spoken (guarding o) (λ t t'. IsStep x (incoming.Message (messages.LockContent key)) (moment_of t was contents parts records faults) (moment_of t' now contents' parts' records' faults') step) waits new
    (locked x key s.place s.spoken was now contents contents' parts parts' records records' faults faults' o step here does after bars fits (guarding_is o step.kind some none) owns others plain lost same agrees later cause)

-- ---- GET

-- what a content that is sent leaves: its phase, or where it can't be read a new session
abbrev pub giving_of : Option Giving → Doing
giving_of None = doings.Waits
giving_of (Some g) = doings.Gives g

abbrev pub spoken_of : Option Giving → ℕ → ℕ
spoken_of None v = 0
spoken_of (Some g) v = v

giving_owns : (o : Option Giving) (place : Place) (rows : Rows) → Owns (owner_at place) None rows.holds → Owns (owner_at place) (share_in (giving_of o)) rows.holds
giving_owns None place rows own = own
giving_owns (Some g) place rows own = own

giving_fills : (o : Option Giving) (rows : Rows) → HasFill rows (giving_of o)
giving_fills None rows = tt
giving_fills (Some g) rows = tt

giving_fed : (o : Option Giving) (p : Parts) → IsFed p (giving_of o)
giving_fed None p = tt
giving_fed (Some g) p = tt

giving_filled : (o : Option Giving) (k : List ℕ) → sessions.is_filling k (doing_of (giving_of o)) ≡ false
giving_filled None k = refl
giving_filled (Some g) k = refl

-- what the step of a GET says of the content that is sent
abbrev pub GivenSo : Option Contents → ℕ → List ℕ → Step → Option Giving → Type 0
GivenSo contents start key step o =
    IfSome o (λ g. (step.close ≡ false) × ((size : List ℕ → Option ℕ) → Tells contents (λ c. size key ≡ size_in c key)
    → sessions.gives key start (sessions.reaches (size key) start) step.reply ≡ sessions.Gives g.key g.at (g.end - g.at) g.good))

giving_next : (o : Option Giving) (contents : Option Contents) (start : ℕ) (file key : List ℕ) (step : Step) (spoken : ℕ) (size : List ℕ → Option ℕ)
    → GivenSo contents start key step o → IfNone o (step.close ≡ true) → ((v : ℕ) → sessions.version_told v step.reply ≡ v) → Tells contents (λ c. size key ≡ size_in c key)
    → record { version = spoken_of o spoken; doing = doing_of (giving_of o) }
    ≡ sessions.session_left step.close (record { version = sessions.version_told spoken step.reply; doing = sessions.gives key start (sessions.reaches (size key) start) step.reply })
giving_next None contents start file key step spoken size given lost plain sees =
    λ j. sessions.session_left (sym lost j) (record { version = sessions.version_told spoken step.reply; doing = sessions.gives key start (sessions.reaches (size key) start) step.reply })
giving_next (Some g) contents start file key step spoken size given lost plain sees =
    λ j. sessions.session_left (sym given.0 j) (record { version = sym (plain spoken) j; doing = sym (given.1 size sees) j })

got : (x : Scene) (start : ℕ) (file key : List ℕ) (place : Place) (spoken : ℕ) (rows : Rows) (contents contents' : Option Contents) (parts parts' : Option Parts) (records records' : Option (List HoldRecord)) (faults faults' : ℕ)
    (o : Option Giving) (step : Step)
    → IsAt x (waiting place spoken) rows → nat_le 1 spoken ≡ true
    → ForSome contents (λ c. (part : ℕ) (right : Bool) → AnswersAsAsked x rows c contents' part right (λ h. tries h (calls.Size ∷ []) (Closing ∷ []) (reply (Talk None) (messages.Data (bytes_left (content_of h key) start)))) step)
    → AreAfterStep step.kind rows rows → IsNumberedStep x.number step → GivenSo contents start key step o → IfNone o (step.close ≡ true) → ((v : ℕ) → sessions.version_told v step.reply ≡ v) → IsNoGain step.kind
    → parts' ≡ parts → Agrees records' rows.holds → faults ≤ faults' → IfSome (failed_in step.kind) (λ call. Rose faults faults')
    → IsStep x (incoming.Message (messages.Get start file key)) (moment_of (waiting place spoken) rows contents parts records faults)
    (moment_of (in_phase place (spoken_of o spoken) (giving_of o)) rows contents' parts' records' faults') step
got x start file key place spoken rows contents contents' parts parts' records records' faults faults' o step at speaks does after fits given lost plain still same agrees later cause = record {
  does = λ c is part right sees.
      let d = does c is part right in
      let h : Here = here_of x rows c (failed_in step.kind) part right in
      record {
        answers = d.answers ∙ (λ j. as_said (if (sym speaks j) then tries h (calls.Size ∷ []) (Closing ∷ []) (reply (Talk None) (messages.Data (bytes_left (content_of h key) start))) else unexpected_reply h));
        changes = d.changes;
      };
  after = after;
  bars = λ k. refl;
  fits = fits;
  filled = none_filled sessions.Waits (doing_of (giving_of o)) (is_filling rows) (is_filling rows) (λ k. refl) (giving_filled o) (λ k. refl);
  next = λ size sees. giving_next o contents start file key step spoken size given lost plain sees;
  place = refl;
  owns = giving_owns o place rows at.owns;
  fills = giving_fills o rows;
  others = λ other share apart w. w;
  parts = same;
  fed = λ p is fed p' is'. giving_fed o p';
  judged = none_judged step.kind doings.Waits still;
  agrees = agrees;
  later = later;
  cause = cause;
}

pub get_so : (x : Scene) (start : ℕ) (file key : List ℕ) (s s' : SessionState) (rows : Rows) (contents contents' : Option Contents) (parts parts' : Option Parts) (records records' : Option (List HoldRecord)) (faults faults' : ℕ)
    (o : Option Giving) (step : Step)
    → s.doing ≡ doings.Waits → s' ≡ in_phase s.place (spoken_of o s.spoken) (giving_of o) → IsAt x s rows → nat_le 1 s.spoken ≡ true
    → ForSome contents (λ c. (rows : Rows) (part : ℕ) (right : Bool) → AnswersAsAsked x rows c contents' part right (λ h. tries h (calls.Size ∷ []) (Closing ∷ []) (reply (Talk None) (messages.Data (bytes_left (content_of h key) start)))) step)
    → ((rows : Rows) → AreAfterStep step.kind rows rows) → IsNumberedStep x.number step → GivenSo contents start key step o → IfNone o (step.close ≡ true) → ((v : ℕ) → sessions.version_told v step.reply ≡ v) → IsNoGain step.kind
    → parts' ≡ parts → Agrees records' rows.holds → faults ≤ faults' → IfSome (failed_in step.kind) (λ call. Rose faults faults')
    → IsStep x (incoming.Message (messages.Get start file key)) (moment_of s rows contents parts records faults) (moment_of s' rows contents' parts' records' faults') step
get_so x start file key s s' rows contents contents' parts parts' records records' faults faults' o step waits new at speaks does after fits given lost plain still same agrees later cause =
    from_waiting s s' s.place (spoken_of o s.spoken) (giving_of o) (λ t t'. IsStep x (incoming.Message (messages.Get start file key)) (moment_of t rows contents parts records faults) (moment_of t' rows contents' parts' records' faults') step) waits new
    (got x start file key s.place s.spoken rows contents contents' parts parts' records records' faults faults' o step (subst (λ (t : SessionState). IsAt x t rows) (waits_is s waits) at) speaks
    (λ c is part right. does c is rows part right) (after rows) fits given lost plain still same agrees later cause)

-- ---- PUT

abbrev pub wanting_of : Option Wanting → Doing
wanting_of None = doings.Waits
wanting_of (Some w) = doings.Wants w

wanting_doing : (o : Option Wanting) → doing_of (wanting_of o) ≡ wanted_in o
wanting_doing None = refl
wanting_doing (Some w) = refl

wanting_owns : (o : Option Wanting) (place : Place) (rows : Rows) → Owns (owner_at place) None rows.holds → Owns (owner_at place) (share_in (wanting_of o)) rows.holds
wanting_owns None place rows own = own
wanting_owns (Some w) place rows own = own

wanting_fills : (o : Option Wanting) (rows : Rows) → IfSome o (λ w. is_filling rows w.fill ≡ true) → HasFill rows (wanting_of o)
wanting_fills None rows given = tt
wanting_fills (Some w) rows given = given

wanting_fed : (o : Option Wanting) (p : Parts) → IfSome o (λ w. IsFedBy w.digester w.fill (p w.fill)) → IsFed p (wanting_of o)
wanting_fed None p fed = tt
wanting_fed (Some w) p fed = fed

putting : (x : Scene) (file key : List ℕ) (place : Place) (spoken : ℕ) (was now : Rows) (contents contents' : Option Contents) (parts parts' : Option Parts) (records records' : Option (List HoldRecord)) (faults faults' : ℕ)
    (o : Option Wanting) (step : Step)
    → IsAt x (waiting place spoken) was → nat_le 1 spoken ≡ true
    → ForSome contents (λ c. (part : ℕ) (right : Bool) → Tells parts (λ p. part ≡ length (p key)) → AnswersAsAsked x was c contents' part right (λ h. on_put h key) step)
    → AreAfterStep step.kind was now → ((key : List ℕ) → bar_at now key ≡ bar_at was key) → IsNumberedStep x.number step → IfSome o (λ w. is_filling now w.fill ≡ true) → FillsSo sessions.Waits (wanted_in o) (is_filling was) (is_filling now)
    → sessions.wants key step.reply ≡ wanted_in o → IsPlain step → IsNoGain step.kind → ForSome parts (λ p. IfSome o (λ w. IsFedBy w.digester w.fill (p w.fill))) → now.holds ≡ was.holds
    → parts' ≡ parts → Agrees records' now.holds → faults ≤ faults' → IfSome (failed_in step.kind) (λ call. Rose faults faults')
    → IsStep x (incoming.Message (messages.Put file key)) (moment_of (waiting place spoken) was contents parts records faults) (moment_of (in_phase place spoken (wanting_of o)) now contents' parts' records' faults') step
putting x file key place spoken was now contents contents' parts parts' records records' faults faults' o step at speaks does after bars fits given filled next plain lost fed holds same agrees later cause = record {
  does = λ c is part right sees.
      let d = does c is part right sees in
      let h : Here = here_of x was c (failed_in step.kind) part right in
      record { answers = d.answers ∙ (λ j. as_said (if (sym speaks j) then on_put h key else unexpected_reply h)); changes = d.changes };
  after = after;
  bars = bars;
  fits = fits;
  filled = subst (λ (w : sessions.Doing). FillsSo sessions.Waits w (is_filling was) (is_filling now)) (sym (wanting_doing o)) filled;
  next = λ size sees. λ j. sessions.session_left (sym plain.0 j) (record { version = sym (plain.1 spoken) j; doing = (wanting_doing o ∙ sym next) j });
  place = refl;
  owns = wanting_owns o place now (subst (λ (hs : List Hold). Owns (owner_at place) None hs) (sym holds) at.owns);
  fills = wanting_fills o now given;
  others = λ other share apart w. subst (λ (hs : List Hold). Owns other share hs) (sym holds) w;
  parts = same;
  fed = λ p is was_fed p' is'. wanting_fed o p' (fed p' (sym same ∙ is'));
  judged = none_judged step.kind doings.Waits lost;
  agrees = agrees;
  later = later;
  cause = cause;
}

pub put_so : (x : Scene) (file key : List ℕ) (s s' : SessionState) (was now : Rows) (contents contents' : Option Contents) (parts parts' : Option Parts) (records records' : Option (List HoldRecord)) (faults faults' : ℕ)
    (o : Option Wanting) (step : Step)
    → s.doing ≡ doings.Waits → s' ≡ in_phase s.place s.spoken (wanting_of o) → IsAt x s was → nat_le 1 s.spoken ≡ true
    → ForSome contents (λ c. (part : ℕ) (right : Bool) → Tells parts (λ p. part ≡ length (p key)) → AnswersAsAsked x was c contents' part right (λ h. on_put h key) step)
    → AreAfterStep step.kind was now → ((key : List ℕ) → bar_at now key ≡ bar_at was key) → IsNumberedStep x.number step → IfSome o (λ w. is_filling now w.fill ≡ true) → FillsSo sessions.Waits (wanted_in o) (is_filling was) (is_filling now)
    → sessions.wants key step.reply ≡ wanted_in o → IsPlain step → IsNoGain step.kind → ForSome parts (λ p. IfSome o (λ w. IsFedBy w.digester w.fill (p w.fill))) → now.holds ≡ was.holds
    → parts' ≡ parts → Agrees records' now.holds → faults ≤ faults' → IfSome (failed_in step.kind) (λ call. Rose faults faults')
    → IsStep x (incoming.Message (messages.Put file key)) (moment_of s was contents parts records faults) (moment_of s' now contents' parts' records' faults') step
put_so x file key s s' was now contents contents' parts parts' records records' faults faults' o step waits new at speaks does after bars fits given filled next plain lost fed holds same agrees later cause =
    from_waiting s s' s.place s.spoken (wanting_of o) (λ t t'. IsStep x (incoming.Message (messages.Put file key)) (moment_of t was contents parts records faults) (moment_of t' now contents' parts' records' faults') step) waits new
    (putting x file key s.place s.spoken was now contents contents' parts parts' records records' faults faults' o step (subst (λ (t : SessionState). IsAt x t was) (waits_is s waits) at) speaks
    does after bars fits given filled next plain lost fed holds same agrees later cause)
