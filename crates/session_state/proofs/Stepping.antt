-- Steps of a session, from what was done to what is left.
use Rattle.std.proofs.Common.{◌≡◌, ℕ, ◌≤◌, Bool, true, false, min, List, [], ◌∷◌, Option, Some, None, refl, sym, ap, subst, ◌∙◌, arith}
use Rattle.std.specs.Prelude.{if◌then◌else◌, IfSome, codes, nat_le}
use Rattle.std.specs.Option.{ForSome}
use Rattle.std.proofs.lemmas.Option.{same_Some}
use Rattle.annex_base.specs.Causes.{Rose}
use Rattle.run_data.specs.declared.entry.EntryKind.{EntryKind}
use Rattle.run_data.specs.declared.entry.EntryKind.TheVariants.{Close, Gain, Talk}
use Rattle.run_data.specs.declared.entry.FrameText.TheVariants.{Closing}
use Rattle.p2p_wire.specs.declared.message.Message.{Message}
use Rattle.p2p_wire.specs.declared.message.Message.TheVariants as messages
use Rattle.object_store.specs.declared.keeper.HoldRecord.{HoldRecord}
use Rattle.object_store.specs.Stores.{Contents, Parts}
use Rattle.node_model.specs.Sessions as sessions
use Rattle.node_model.specs.SessionStep.{Here, Reply, close_kind, on_message, on_remove_before, reply, unexpected_reply}
use Rattle.content_lock.specs.Rows.{AreAfter, Rows}
use Rattle.content_lock.specs.Stored.{Agrees}
use Rattle.session_state.specs.declared.doing.Doing.{Doing}
use Rattle.session_state.specs.declared.doing.Doing.TheVariants as doings
use Rattle.session_state.specs.declared.incoming.Incoming.{Incoming}
use Rattle.session_state.specs.declared.incoming.Incoming.TheVariants as incoming
use Rattle.session_state.specs.declared.place.Place.{Place}
use Rattle.session_state.specs.declared.place.Scene.{Scene}
use Rattle.session_state.specs.declared.state.SessionState.{SessionState}
use Rattle.session_state.specs.declared.step.Step.{Step}
use Rattle.session_state.specs.Answers.{as_said, AnswersAsAsked, here_of, says}
use Rattle.node_model.specs.Look.{failed_in}
use Rattle.session_state.specs.Bounds.{IsNumberedStep, IsReplyIf}
use Rattle.session_state.specs.Phases.{IsNoGain}
use Rattle.session_state.specs.Stepping.{IsAt, IsLetGo, IsStep, IsUnexpected, moment_of}
use Rattle.session_state.specs.Talking.{IsFed, IsJudgedIn, IsPlain, doing_of, on_heard, parts_after, session_of}
use Rattle.session_state.proofs.Doings.{talks}
use Rattle.session_state.proofs.Holding.{stays_filled}
use Rattle.session_state.proofs.Moves.{parts_stay}

-- ---- closing

-- a session as it waits
abbrev pub waiting : Place → ℕ → SessionState
waiting place spoken = record { place = place; spoken = spoken; doing = doings.Waits }

abbrev pub closing : Place → Option Message → Step
closing place m = record { kind = Close place.peer place.slot false; reply = m; close = true }

closes_now : (x : Scene) (i : Incoming) (s : SessionState) (was now : Rows) (contents : Option Contents) (parts : Option Parts) (records : Option (List HoldRecord)) (faults : ℕ) (m : Option Message)
    → x.place ≡ s.place
    → ((h : Here) → on_heard h (session_of s) i ≡ record { kind = close_kind h; says = says m (Closing ∷ []); calls = [] })
    → ((peer slot : ℕ) (known : Option Parts) → parts_after s.doing i (Close peer slot false) known ≡ known)
    → IsReplyIf m → IsLetGo s.place s.doing was now → Agrees records was.holds
    → IsStep x i (moment_of s was contents parts records faults) (moment_of (waiting s.place 0) now contents parts records faults) (closing s.place m)
closes_now x i s was now contents parts records faults m here answer stay short gone agrees = record {
  does = λ c is part right sees. record {
    answers = ap (λ (p : Place). record { kind = Close p.peer p.slot false; says = says m (Closing ∷ []); calls = [] }) (sym here) ∙ ap as_said (sym (answer (here_of x was c None part right)));
    changes = record { contents = c; told = is; present = λ k. refl; sizes = λ k. refl };
  };
  after = gone.after;
  bars = gone.after.bars;
  fits = record { kind = tt; reply = short };
  filled = gone.filled;
  next = λ size sees. refl;
  place = refl;
  owns = gone.owns;
  fills = tt;
  others = gone.others;
  parts = sym (stay _ _ parts);
  fed = λ p is fed p' is'. tt;
  judged = tt;
  agrees = gone.agrees records agrees;
  later = omega arith;
  cause = tt;
}

closes_so : (x : Scene) (i : Incoming) (s s' : SessionState) (was now : Rows) (contents : Option Contents) (parts : Option Parts) (records : Option (List HoldRecord)) (faults : ℕ) (m : Option Message) (step : Step)
    → x.place ≡ s.place
    → ((h : Here) → on_heard h (session_of s) i ≡ record { kind = close_kind h; says = says m (Closing ∷ []); calls = [] })
    → ((peer slot : ℕ) (known : Option Parts) → parts_after s.doing i (Close peer slot false) known ≡ known)
    → IsReplyIf m → IsLetGo s.place s.doing was now → Agrees records was.holds → s' ≡ waiting s.place 0 → step ≡ closing s.place m
    → IsStep x i (moment_of s was contents parts records faults) (moment_of s' now contents parts records faults) step
closes_so x i s s' was now contents parts records faults m step here answer stay short gone agrees new is =
    subst (λ (t : SessionState). IsStep x i (moment_of s was contents parts records faults) (moment_of t now contents parts records faults) step) (sym new)
    (subst (λ (t : Step). IsStep x i (moment_of s was contents parts records faults) (moment_of (waiting s.place 0) now contents parts records faults) t) (sym is)
    (closes_now x i s was now contents parts records faults m here answer stay short gone agrees))

abbrev pub unexpected : Option Message
unexpected = Some (messages.Error (codes "unexpected"))

pub refuses_so : (x : Scene) (i : Incoming) (s s' : SessionState) (was now : Rows) (contents : Option Contents) (parts : Option Parts) (records : Option (List HoldRecord)) (faults : ℕ) (step : Step)
    → x.place ≡ s.place → IsUnexpected i s → Agrees records was.holds → IsLetGo s.place s.doing was now → s' ≡ waiting s.place 0 → step ≡ closing s.place unexpected
    → IsStep x i (moment_of s was contents parts records faults) (moment_of s' now contents parts records faults) step
refuses_so x i s s' was now contents parts records faults step here un agrees gone new is =
    closes_so x i s s' was now contents parts records faults unexpected step here un.answer un.parts refl gone agrees new is

pub gives_up_so : (x : Scene) (text : List ℕ) (s s' : SessionState) (was now : Rows) (contents : Option Contents) (parts : Option Parts) (records : Option (List HoldRecord)) (faults : ℕ) (step : Step)
    → x.place ≡ s.place → Agrees records was.holds → IsLetGo s.place s.doing was now → s' ≡ waiting s.place 0 → step ≡ closing s.place None
    → IsStep x (incoming.Message (messages.Error text)) (moment_of s was contents parts records faults) (moment_of s' now contents parts records faults) step
gives_up_so x text s s' was now contents parts records faults step here agrees gone new is =
    closes_so x (incoming.Message (messages.Error text)) s s' was now contents parts records faults None step here (λ h. refl)
    (λ peer slot known. parts_stay s.doing (messages.Error text) (Close peer slot false) known (λ e. absurd cc)) tt gone agrees new is

-- ---- answers that leave the session and the table as they are

pub none_judged : (kind : EntryKind) (d : Doing) → IsNoGain kind → IsJudgedIn kind d
none_judged (Gain by size key) d lost = absurd lost
none_judged kind d lost = tt

pub waits_is : (s : SessionState) → s.doing ≡ doings.Waits → s ≡ waiting s.place s.spoken
waits_is s waits = λ i. record { place = s.place; spoken = s.spoken; doing = waits i }

pub answered : (x : Scene) (m : Message) (s : SessionState) (rows : Rows) (contents contents' : Option Contents) (parts parts' : Option Parts) (records records' : Option (List HoldRecord)) (faults faults' : ℕ)
    (asked : Here → Reply) (step : Step)
    → s.doing ≡ doings.Waits → IsAt x s rows
    → ((h : Here) → on_message h s.spoken sessions.Waits m ≡ asked h)
    → ((size : List ℕ → Option ℕ) (kind : EntryKind) (told : Option Message) → sessions.doing_after size kind sessions.Waits told m ≡ sessions.Waits)
    → ForSome contents (λ c. (part : ℕ) (right : Bool) → AnswersAsAsked x rows c contents' part right asked step)
    → IsPlain step → IsNoGain step.kind → AreAfter step.kind rows rows → IsNumberedStep x.number step → parts' ≡ parts → Agrees records' rows.holds → faults ≤ faults'
    → IfSome (failed_in step.kind) (λ call. Rose faults faults')
    → IsStep x (incoming.Message m) (moment_of s rows contents parts records faults) (moment_of s rows contents' parts' records' faults') step
answered x m s rows contents contents' parts parts' records records' faults faults' asked step waits at answer stay does plain lost after fits same agrees later cause = record {
  does = λ c is part right sees.
      let d : AnswersAsAsked x rows c contents' part right asked step = does c is part right in
      let h : Here = here_of x rows c (failed_in step.kind) part right in
      record {
        answers = d.answers ∙ ap as_said (sym (answer h) ∙ ap (λ (w : Doing). on_message h s.spoken (doing_of w) m) (sym waits));
        changes = d.changes;
      };
  after = record { holds = after.holds; bars = after.bars };
  bars = λ k. refl;
  fits = fits;
  filled = stays_filled s.doing rows at.fills;
  next = λ size sees.
      let go : doing_of s.doing ≡ sessions.doing_after size step.kind (doing_of s.doing) step.reply m =
      ap doing_of waits ∙ sym (stay size step.kind step.reply) ∙ ap (λ (w : Doing). sessions.doing_after size step.kind (doing_of w) step.reply m) (sym waits) in
      λ j. sessions.session_left (sym plain.0 j) (record { version = sym (plain.1 s.spoken) j; doing = go j });
  place = refl;
  owns = at.owns;
  fills = at.fills;
  others = λ other share apart o. o;
  parts = same ∙ ap (λ (w : Doing). parts_after w (incoming.Message m) step.kind parts) (sym waits);
  fed = λ p is fed p' is'. subst (λ (q : Parts). IsFed q s.doing) (same_Some p p' (sym is ∙ sym same ∙ is')) fed;
  judged = none_judged step.kind s.doing lost;
  agrees = agrees;
  later = later;
  cause = cause;
}

pub speaks_remove : (v n : ℕ) (key : List ℕ) → nat_le 3 v ≡ true → (h : Here) → on_message h v sessions.Waits (messages.RemoveBefore n key) ≡ on_remove_before h n key
speaks_remove v n key speaks h = ap (λ (b : Bool). if b then on_remove_before h n key else unexpected_reply h) speaks

abbrev pub saying : Message → Step
saying m = record { kind = Talk None; reply = Some m; close = false }

abbrev pub silent : Step
silent = record { kind = Talk None; reply = None; close = false }

-- ---- VERSION

version_now : (x : Scene) (n : ℕ) (place : Place) (spoken : ℕ) (rows : Rows) (contents : Option Contents) (parts : Option Parts) (records : Option (List HoldRecord)) (faults : ℕ)
    → IsAt x (waiting place spoken) rows → Agrees records rows.holds → IsNumberedStep x.number (saying (messages.Version (min n place.version)))
    → IsStep x (incoming.Message (messages.Version n)) (moment_of (waiting place spoken) rows contents parts records faults) (moment_of (waiting place (min n place.version)) rows contents parts records faults)
    (saying (messages.Version (min n place.version)))
version_now x n place spoken rows contents parts records faults at agrees fits = record {
  does = λ c is part right sees.
      talks x rows c contents part right (λ h. on_heard h (session_of (waiting place spoken)) (incoming.Message (messages.Version n))) (messages.Version (min n place.version)) (saying (messages.Version (min n place.version))) refl is
      (ap (λ (p : Place). reply (Talk None) (messages.Version (min n p.version))) (sym at.here));
  after = record { holds = refl; bars = λ k. refl };
  bars = λ k. refl;
  fits = fits;
  filled = stays_filled doings.Waits rows tt;
  next = λ size sees. refl;
  place = refl;
  owns = at.owns;
  fills = tt;
  others = λ other share apart o. o;
  parts = refl;
  fed = λ p is fed p' is'. tt;
  judged = tt;
  agrees = agrees;
  later = omega arith;
  cause = tt;
}

pub version_so : (x : Scene) (n : ℕ) (s s' : SessionState) (rows : Rows) (contents : Option Contents) (parts : Option Parts) (records : Option (List HoldRecord)) (faults : ℕ) (step : Step)
    → s.doing ≡ doings.Waits → IsAt x s rows → Agrees records rows.holds → step ≡ saying (messages.Version (min n s.place.version))
    → s' ≡ record { place = s.place; spoken = min n s.place.version; doing = s.doing } → IsNumberedStep x.number step
    → IsStep x (incoming.Message (messages.Version n)) (moment_of s rows contents parts records faults) (moment_of s' rows contents parts records faults) step
version_so x n s s' rows contents parts records faults step waits at agrees is new fits =
    let e : s ≡ waiting s.place s.spoken = waits_is s waits in
    let e' : s' ≡ waiting s.place (min n s.place.version) = new ∙ (λ j. record { place = s.place; spoken = min n s.place.version; doing = waits j }) in
    subst (λ (t : SessionState). IsStep x (incoming.Message (messages.Version n)) (moment_of t rows contents parts records faults) (moment_of s' rows contents parts records faults) step) (sym e)
    (subst (λ (t : SessionState). IsStep x (incoming.Message (messages.Version n)) (moment_of (waiting s.place s.spoken) rows contents parts records faults) (moment_of t rows contents parts records faults) step) (sym e')
    (subst (λ (t : Step). IsStep x (incoming.Message (messages.Version n)) (moment_of (waiting s.place s.spoken) rows contents parts records faults) (moment_of (waiting s.place (min n s.place.version)) rows contents parts records faults) t) (sym is)
    (version_now x n s.place s.spoken rows contents parts records faults (subst (λ (t : SessionState). IsAt x t rows) e at) agrees (subst (λ (t : Step). IsNumberedStep x.number t) is fits))))
