-- Steps of a session that guards a key, or gives or takes bytes, and what opens and closes a connection.
use Rattle.std.proofs.Common.{◌≡◌, ℕ, ◌≤◌, ◌<◌, ◌++◌, Bool, true, false, List, [], ◌∷◌, length, Option, Some, None, refl, sym, ap, subst, ◌∙◌, arith}
use Rattle.std.specs.Prelude.{if◌then◌else◌, IfSome, bytes_eq, nat_le, nat_lt, ◌&&◌}
use Rattle.std.specs.Option.{ForSome, option_map}
use Rattle.std.specs.declared.vec.Vec.{Vec}
use Rattle.std.specs.declared.alloc.Global.{Global}
use Rattle.std.proofs.lemmas.Option.{same_Some}
use Rattle.annex_base.specs.Causes.{Rose}
use Rattle.annex_base.specs.declared.kinds.Call.TheVariants as calls
use Rattle.annex_base.proofs.Conditions.{bytes_eq-true}
use Rattle.run_data.specs.declared.entry.By.{By}
use Rattle.run_data.specs.declared.entry.EntryKind.{EntryKind}
use Rattle.run_data.specs.declared.entry.EntryKind.TheVariants.{Gain, Release, Talk}
use Rattle.p2p_wire.specs.declared.message.Message.{Message}
use Rattle.p2p_wire.specs.declared.message.Message.TheVariants as messages
use Rattle.object_store.specs.declared.keeper.HoldRecord.{HoldRecord}
use Rattle.object_store.specs.Stores.{AreSmallParts, Contents, Parts, with_at}
use Rattle.node_model.specs.Sessions as sessions
use Rattle.node_model.specs.SessionStep.{Here, on_message, on_valid, reply, silent_reply, tries, unexpected_reply}
use Rattle.content_lock.specs.Rows.{AreAfter, Rows, bar_at, is_filling}
use Rattle.content_lock.specs.Stored.{Agrees}
use Rattle.content_lock.specs.Tokens.{Owns, ShareView}
use Rattle.session_state.specs.declared.doing.Doing.{Doing}
use Rattle.session_state.specs.declared.doing.Doing.TheVariants as doings
use Rattle.session_state.specs.declared.doing.Taken.{Taken}
use Rattle.session_state.specs.declared.doing.Taking.{Taking}
use Rattle.session_state.specs.declared.incoming.Incoming.TheVariants as incoming
use Rattle.session_state.specs.declared.place.Place.{Place}
use Rattle.session_state.specs.declared.place.Scene.{Scene}
use Rattle.session_state.specs.declared.state.SessionState.{SessionState}
use Rattle.session_state.specs.declared.step.Step.{Step}
use Rattle.session_state.specs.Answers.{as_said, AnswersAsAsked, here_of, owner_at}
use Rattle.node_model.specs.Look.{failed_in}
use Rattle.session_state.specs.Bounds.{IsNumberedStep}
use Rattle.session_state.specs.Phases.{IsJudged, IsLonger, IsNoGain, IsTook, IsWanting}
use Rattle.session_state.specs.Stepping.{IsAt, IsLetGo, IsStep, LeavesOthers, guards_key, moment_of}
use Rattle.session_state.specs.Talking.{AreAfterStep, FillsSo, HasFill, IsFed, IsJudgedIn, IsPlain, SeesTaken, doing_of, on_heard, parts_after, parts_after_valid, session_of, share_in}
use Rattle.session_state.proofs.Doings.{quiets, talks}
use Rattle.session_state.proofs.Holding.{announces, none_filled, same_filled, stays_filled, takes_piece}
use Rattle.session_state.proofs.Moves.{longer_so, nothing_kept, parts_stay, piece_taken}
use Rattle.session_state.proofs.Stepping.{none_judged, saying, silent, waiting}
use Rattle.session_state.proofs.Transfers.{stays}
use Rattle.session_state.proofs.Waiting.{in_phase}

-- a session whose place and version stay
abbrev pub going : SessionState → Doing → SessionState
going s doing = record { place = s.place; spoken = s.spoken; doing = doing }

-- ---- opening and closing

pub opens_so : (x : Scene) (s : SessionState) (rows : Rows) (contents : Option Contents) (parts : Option Parts) (records : Option (List HoldRecord)) (faults : ℕ) (step : Step)
    → IsAt x s rows → Agrees records rows.holds → step ≡ saying (messages.AuthSuccess x.place.id) → IsNumberedStep x.number step
    → IsStep x incoming.Opening (moment_of s rows contents parts records faults) (moment_of s rows contents parts records faults) step
opens_so x s rows contents parts records faults step at agrees is fits =
    subst (λ (t : Step). IsStep x incoming.Opening (moment_of s rows contents parts records faults) (moment_of s rows contents parts records faults) t) (sym is) (record {
      does = λ c told part right sees. talks x rows c contents part right (λ h. on_heard h (session_of s) incoming.Opening) (messages.AuthSuccess x.place.id) (saying (messages.AuthSuccess x.place.id)) refl told refl;
      after = record { holds = refl; bars = λ k. refl };
      bars = λ k. refl;
      fits = subst (λ (t : Step). IsNumberedStep x.number t) is fits;
      filled = stays_filled s.doing rows at.fills;
      next = λ size sees. refl;
      place = refl;
      owns = at.owns;
      fills = at.fills;
      others = λ other share apart o. o;
      parts = none_change s.doing;
      fed = λ p has fed p' has'. subst (λ (q : Parts). IsFed q s.doing) (same_Some p p' (sym has ∙ has')) fed;
      judged = tt;
      agrees = agrees;
      later = omega arith;
      cause = tt;
    })
  where
    none_change : (d : Doing) → parts ≡ parts_after d incoming.Opening (Talk None) parts
    none_change (doings.Takes t) = refl
    none_change (doings.Took t) = refl
    none_change d = refl

-- ---- UNLOCKCONTENT

pub key_so : (d : Doing) (share : ShareView) (key : List ℕ) → d ≡ doings.Guards share → guards_key d key ≡ true → bytes_eq key share.key ≡ true
key_so d share key is guards = subst (λ (w : Doing). guards_key w key ≡ true) is guards

guarding_is : (s : SessionState) (share : ShareView) → s.doing ≡ doings.Guards share → s ≡ going s (doings.Guards share)
guarding_is s share is = λ j. record { place = s.place; spoken = s.spoken; doing = is j }

-- an entry that ends a hold which the session guarded
unlocks : (x : Scene) (key : List ℕ) (place : Place) (spoken : ℕ) (share : ShareView) (was now : Rows) (contents contents' : Option Contents) (parts parts' : Option Parts) (records records' : Option (List HoldRecord))
    (faults faults' : ℕ) (kind : EntryKind)
    → ForSome contents (λ c. (part : ℕ) (right : Bool) → AnswersAsAsked x was c contents' part right (λ h. tries h (calls.Unhold ∷ []) [] (silent_reply (Release share.number share.key))) (record { kind = kind; reply = None; close = false }))
    → bytes_eq key share.key ≡ true → IsNoGain kind → AreAfter kind was now → ((key : List ℕ) → bar_at now key ≡ bar_at was key) → IsNumberedStep x.number (record { kind = kind; reply = None; close = false }) → Owns (owner_at place) None now.holds
    → LeavesOthers (owner_at place) was now → parts' ≡ parts → Agrees records' now.holds → faults ≤ faults' → IfSome (failed_in kind) (λ call. Rose faults faults')
    → IsStep x (incoming.Message (messages.UnlockContent key)) (moment_of (in_phase place spoken (doings.Guards share)) was contents parts records faults) (moment_of (waiting place spoken) now contents' parts' records' faults')
    (record { kind = kind; reply = None; close = false })
unlocks x key place spoken share was now contents contents' parts parts' records records' faults faults' kind does same_key lost after bars fits owns others same agrees later cause = record {
  does = λ c told part right sees.
      let d = does c told part right in
      let h : Here = here_of x was c (failed_in kind) part right in
      record {
        answers = d.answers ∙ (λ j. as_said (if (sym same_key j) then tries h (calls.Unhold ∷ []) [] (silent_reply (Release share.number share.key)) else unexpected_reply h));
        changes = d.changes;
      };
  after = record { holds = after.holds; bars = after.bars };
  bars = bars;
  fits = fits;
  filled = none_filled (sessions.Guards share.number share.key) sessions.Waits (is_filling was) (is_filling now) (λ k. refl) (λ k. refl) (same_filled was.fills now.fills after.fills);
  next = λ size sees. refl;
  place = refl;
  owns = owns;
  fills = tt;
  others = others;
  parts = same;
  fed = λ p has fed p' has'. tt;
  judged = none_judged kind (doings.Guards share) lost;
  agrees = agrees;
  later = later;
  cause = cause;
}

pub released_so : (x : Scene) (key : List ℕ) (s s' : SessionState) (share : ShareView) (was now : Rows) (contents contents' : Option Contents) (parts parts' : Option Parts) (records records' : Option (List HoldRecord)) (faults faults' : ℕ) (step : Step)
    → IsAt x s was → guards_key s.doing key ≡ true → s.doing ≡ doings.Guards share → s' ≡ going s doings.Waits → step ≡ record { kind = Release share.number key; reply = None; close = false }
    → AreAfter (Release share.number share.key) was now → (Owns share.owner (Some share) was.holds → Owns share.owner None now.holds) → LeavesOthers share.owner was now
    → contents' ≡ contents → parts' ≡ parts → Agrees records' now.holds → faults ≤ faults'
    → IsStep x (incoming.Message (messages.UnlockContent key)) (moment_of s was contents parts records faults) (moment_of s' now contents' parts' records' faults') step
released_so x key s s' share was now contents contents' parts parts' records records' faults faults' step at guards has new is after owns others told same agrees later =
    let same_key : bytes_eq key share.key ≡ true = key_so s.doing share key has guards in
    let keys : key ≡ share.key = bytes_eq-true key share.key same_key in
    let own : Owns (owner_at s.place) (Some share) was.holds = subst (λ (w : Doing). Owns (owner_at s.place) (share_in w) was.holds) has at.owns in
    let by : share.owner ≡ owner_at s.place = own.owner in
    let mine : Owns share.owner (Some share) was.holds = subst (λ (b : By). Owns b (Some share) was.holds) (sym by) own in
    let literal : step ≡ record { kind = Release share.number share.key; reply = None; close = false } = is ∙ (λ j. record { kind = Release share.number (keys j); reply = None; close = false }) in
    subst (λ (t : SessionState). IsStep x (incoming.Message (messages.UnlockContent key)) (moment_of t was contents parts records faults) (moment_of s' now contents' parts' records' faults') step) (sym (guarding_is s share has))
    (subst (λ (t : SessionState). IsStep x (incoming.Message (messages.UnlockContent key)) (moment_of (going s (doings.Guards share)) was contents parts records faults) (moment_of t now contents' parts' records' faults') step) (sym new)
    (subst (λ (t : Step). IsStep x (incoming.Message (messages.UnlockContent key)) (moment_of (going s (doings.Guards share)) was contents parts records faults) (moment_of (waiting s.place s.spoken) now contents' parts' records' faults') t) (sym literal)
    (unlocks x key s.place s.spoken share was now contents contents' parts parts' records records' faults faults' (Release share.number share.key)
    (λ c known part right. record { answers = refl; changes = record { contents = c; told = told ∙ known; present = λ k. refl; sizes = λ k. refl } })
    same_key tt after after.bars (record { kind = tt; reply = tt }) (subst (λ (b : By). Owns b None now.holds) by (owns mine)) (subst (λ (b : By). LeavesOthers b was now) by others) same agrees later tt)))

-- ---- a phase that goes on, with nothing said

-- the parts and the table are as before
quiet : (x : Scene) (m : Message) (place : Place) (spoken : ℕ) (d d' : Doing) (rows : Rows) (contents : Option Contents) (parts : Option Parts) (records : Option (List HoldRecord)) (faults : ℕ)
    → ((h : Here) → on_message h spoken (doing_of d) m ≡ silent_reply (Talk None)) → (m ≡ messages.Valid → ⊥)
    → ((size : List ℕ → Option ℕ) → doing_of d' ≡ sessions.doing_after size (Talk None) (doing_of d) None m)
    → FillsSo (doing_of d) (doing_of d') (is_filling rows) (is_filling rows) → share_in d' ≡ share_in d → HasFill rows d' → ((p : Parts) → IsFed p d → IsFed p d')
    → Owns (owner_at place) (share_in d) rows.holds → Agrees records rows.holds
    → IsStep x (incoming.Message m) (moment_of (in_phase place spoken d) rows contents parts records faults) (moment_of (in_phase place spoken d') rows contents parts records faults) silent
quiet x m place spoken d d' rows contents parts records faults answer other goes filled shares fills fed owns agrees = record {
  does = λ c told part right sees. quiets x rows c contents part right (λ h. on_message h spoken (doing_of d) m) silent refl told (ap as_said (sym (answer (here_of x rows c None part right))));
  after = record { holds = refl; bars = λ k. refl };
  bars = λ k. refl;
  fits = record { kind = tt; reply = tt };
  filled = filled;
  next = λ size sees. λ j. record { version = spoken; doing = goes size j };
  place = refl;
  owns = subst (λ (w : Option ShareView). Owns (owner_at place) w rows.holds) (sym shares) owns;
  fills = fills;
  others = λ other share apart o. o;
  parts = sym (parts_stay d m (Talk None) parts other);
  fed = λ p has was_fed p' has'. subst (λ (q : Parts). IsFed q d') (same_Some p p' (sym has ∙ has')) (fed p was_fed);
  judged = tt;
  agrees = agrees;
  later = omega arith;
  cause = tt;
}

quiet_so : (x : Scene) (m : Message) (s s' : SessionState) (d' : Doing) (rows : Rows) (contents : Option Contents) (parts : Option Parts) (records : Option (List HoldRecord)) (faults : ℕ) (step : Step)
    → s' ≡ going s d' → step ≡ silent
    → IsStep x (incoming.Message m) (moment_of (in_phase s.place s.spoken s.doing) rows contents parts records faults) (moment_of (in_phase s.place s.spoken d') rows contents parts records faults) silent
    → IsStep x (incoming.Message m) (moment_of s rows contents parts records faults) (moment_of s' rows contents parts records faults) step
quiet_so x m s s' d' rows contents parts records faults step new is done =
    subst (λ (t : SessionState). IsStep x (incoming.Message m) (moment_of s rows contents parts records faults) (moment_of t rows contents parts records faults) step) (sym new)
    (subst (λ (t : Step). IsStep x (incoming.Message m) (moment_of s rows contents parts records faults) (moment_of (going s d') rows contents parts records faults) t) (sym is) done)

-- DATA
pub announced_so : (x : Scene) (n : ℕ) (s s' : SessionState) (rows : Rows) (contents : Option Contents) (parts : Option Parts) (records : Option (List HoldRecord)) (faults : ℕ) (step : Step)
    → IsAt x s rows → IsWanting s.doing → s' ≡ going s s'.doing → doing_of s'.doing ≡ sessions.takes_from n (doing_of s.doing) → share_in s'.doing ≡ share_in s.doing
    → ((r : Rows) → HasFill r s.doing → HasFill r s'.doing) → ((p : Parts) → IsFed p s.doing → IsFed p s'.doing) → Agrees records rows.holds → step ≡ silent
    → IsStep x (incoming.Message (messages.Data n)) (moment_of s rows contents parts records faults) (moment_of s' rows contents parts records faults) step
announced_so x n s s' rows contents parts records faults step at phase new goes shares fills fed agrees is =
    quiet_so x (messages.Data n) s s' s'.doing rows contents parts records faults step new is
    (quiet x (messages.Data n) s.place s.spoken s.doing s'.doing rows contents parts records faults (λ h. answer h s.doing phase) (λ e. absurd cc) (λ size. goes)
    (announces s.doing rows n (doing_of s'.doing) at.fills goes) shares (fills rows at.fills) fed at.owns agrees)
  where
    answer : (h : Here) (d : Doing) → IsWanting d → on_message h s.spoken (doing_of d) (messages.Data n) ≡ silent_reply (Talk None)
    answer h (doings.Wants w) p = refl
    answer h d p = absurd p

-- ---- a piece

pub awaited : (n left : ℕ) → (nat_lt 0 n && nat_le n left) ≡ true → (0 < n) × (n ≤ left)
awaited n left e = (grind arith, grind arith)

takes_session : (s : SessionState) (t : Taking) → s.doing ≡ doings.Takes t → s ≡ going s (doings.Takes t)
takes_session s t is = λ j. record { place = s.place; spoken = s.spoken; doing = is j }

piece_put : (x : Scene) (bytes : Vec ℕ Global) (place : Place) (spoken : ℕ) (t : Taking) (d' : Doing) (rows : Rows) (contents contents' : Option Contents) (parts parts' : Option Parts) (records records' : Option (List HoldRecord)) (faults faults' : ℕ)
    → IsAt x (in_phase place spoken (doings.Takes t)) rows → 0 < length bytes.items → length bytes.items ≤ t.left
    → doing_of d' ≡ sessions.took_bytes (length bytes.items) (doing_of (doings.Takes t)) → share_in d' ≡ None
    → ((r : Rows) → HasFill r (doings.Takes t) → HasFill r d') → ((p p' : Parts) → IsFed p (doings.Takes t) → IsLonger (doings.Takes t) p p' bytes.items → IsFed p' d')
    → parts' ≡ option_map (λ (p : Parts). with_at p t.fill (p t.fill ++ bytes.items)) parts → AreSmallParts parts' → contents' ≡ contents → Agrees records' rows.holds → faults ≤ faults'
    → IsStep x (incoming.Bytes bytes) (moment_of (in_phase place spoken (doings.Takes t)) rows contents parts records faults) (moment_of (in_phase place spoken d') rows contents' parts' records' faults') silent
piece_put x bytes place spoken t d' rows contents contents' parts parts' records records' faults faults' at some fits goes none fills fed grown small told agrees later = record {
  does = λ c known part right sees. quiets x rows c contents' part right (λ h. on_heard h (session_of (in_phase place spoken (doings.Takes t))) (incoming.Bytes bytes)) silent refl (told ∙ known)
      (piece_taken (here_of x rows c None part right) t.fill t.size t.left (length bytes.items) refl some fits);
  after = record { holds = refl; bars = λ k. refl };
  bars = λ k. refl;
  fits = record { kind = tt; reply = tt };
  filled = takes_piece (doings.Takes t) rows (length bytes.items) (doing_of d') at.fills goes;
  next = λ size sees. λ j. record { version = spoken; doing = goes j };
  place = refl;
  owns = subst (λ (w : Option ShareView). Owns (owner_at place) w rows.holds) (sym none) at.owns;
  fills = fills rows at.fills;
  others = λ other share apart o. o;
  parts = grown;
  fed = λ p has was_fed p' has'. fed p p' was_fed (longer_so (doings.Takes t) t parts parts' bytes.items refl grown small p has p' has');
  judged = tt;
  agrees = agrees;
  later = later;
  cause = tt;
}

pub piece_so : (x : Scene) (bytes : Vec ℕ Global) (s s' : SessionState) (t : Taking) (rows : Rows) (contents contents' : Option Contents) (parts parts' : Option Parts) (records records' : Option (List HoldRecord)) (faults faults' : ℕ) (step : Step)
    → s.doing ≡ doings.Takes t → IsAt x s rows → 0 < length bytes.items → length bytes.items ≤ t.left → s' ≡ going s s'.doing
    → doing_of s'.doing ≡ sessions.took_bytes (length bytes.items) (doing_of s.doing) → share_in s'.doing ≡ share_in s.doing
    → ((r : Rows) → HasFill r s.doing → HasFill r s'.doing) → ((p p' : Parts) → IsFed p s.doing → IsLonger s.doing p p' bytes.items → IsFed p' s'.doing)
    → parts' ≡ option_map (λ (p : Parts). with_at p t.fill (p t.fill ++ bytes.items)) parts → AreSmallParts parts' → contents' ≡ contents → Agrees records' rows.holds → faults ≤ faults' → step ≡ silent
    → IsStep x (incoming.Bytes bytes) (moment_of s rows contents parts records faults) (moment_of s' rows contents' parts' records' faults') step
piece_so x bytes s s' t rows contents contents' parts parts' records records' faults faults' step has at some fits new goes shares fills fed grown small told agrees later is =
    subst (λ (w : SessionState). IsStep x (incoming.Bytes bytes) (moment_of w rows contents parts records faults) (moment_of s' rows contents' parts' records' faults') step) (sym (takes_session s t has))
    (subst (λ (w : SessionState). IsStep x (incoming.Bytes bytes) (moment_of (going s (doings.Takes t)) rows contents parts records faults) (moment_of w rows contents' parts' records' faults') step) (sym new)
    (subst (λ (w : Step). IsStep x (incoming.Bytes bytes) (moment_of (going s (doings.Takes t)) rows contents parts records faults) (moment_of (going s s'.doing) rows contents' parts' records' faults') w) (sym is)
    (piece_put x bytes s.place s.spoken t s'.doing rows contents contents' parts parts' records records' faults faults' (subst (λ (w : SessionState). IsAt x w rows) (takes_session s t has) at) some fits
    (goes ∙ ap (λ (d : Doing). sessions.took_bytes (length bytes.items) (doing_of d)) has) (shares ∙ ap share_in has)
    (λ r given. fills r (subst (λ (d : Doing). HasFill r d) (sym has) given))
    (λ p p' was_fed longer. fed p p' (subst (λ (d : Doing). IsFed p d) (sym has) was_fed) (subst (λ (d : Doing). IsLonger d p p' bytes.items) (sym has) longer))
    grown small told agrees later)))

-- ---- the verdict

took_session : (s : SessionState) (t : Taken) → s.doing ≡ doings.Took t → s ≡ going s (doings.Took t)
took_session s t is = λ j. record { place = s.place; spoken = s.spoken; doing = is j }

took_judged : (kind : EntryKind) (t : Taken) → IsJudged t kind → IsJudgedIn kind (doings.Took t)
took_judged (Gain by size key) t judged = judged
took_judged kind t judged = tt

valid_now : (x : Scene) (place : Place) (spoken : ℕ) (t : Taken) (was now : Rows) (contents contents' : Option Contents) (parts parts' : Option Parts) (records records' : Option (List HoldRecord)) (faults faults' : ℕ) (step : Step)
    → IsAt x (in_phase place spoken (doings.Took t)) was
    → ForSome contents (λ c. (rows : Rows) (part : ℕ) (right : Bool) → SeesTaken parts t right → AnswersAsAsked x rows c contents' part right (λ h. on_valid h t.fill t.size) step)
    → ((rows : Rows) → AreAfterStep step.kind rows rows) → IsNumberedStep x.number step → IsPlain step → IsJudged t step.kind → parts' ≡ parts_after_valid t.fill step.kind parts → IsLetGo place (doings.Took t) was now
    → Agrees records' was.holds → faults ≤ faults' → IfSome (failed_in step.kind) (λ call. Rose faults faults')
    → IsStep x (incoming.Message messages.Valid) (moment_of (in_phase place spoken (doings.Took t)) was contents parts records faults) (moment_of (waiting place spoken) now contents' parts' records' faults') step
valid_now x place spoken t was now contents contents' parts parts' records records' faults faults' step at does after fits plain judged spent gone agrees later cause = record {
  does = λ c known part right sees. does c known was part right sees;
  after = stays step.kind place.peer place.slot was now at.owns.kept gone.after after;
  bars = gone.after.bars;
  fits = fits;
  filled = gone.filled;
  next = λ size sees. λ j. sessions.session_left (sym plain.0 j) (record { version = sym (plain.1 spoken) j; doing = sessions.Waits });
  place = refl;
  owns = gone.owns;
  fills = tt;
  others = gone.others;
  parts = spent;
  fed = λ p has was_fed p' has'. tt;
  judged = took_judged step.kind t judged;
  agrees = gone.agrees records' agrees;
  later = later;
  cause = cause;
}

pub valid_so : (x : Scene) (s s' : SessionState) (t : Taken) (was now : Rows) (contents contents' : Option Contents) (parts parts' : Option Parts) (records records' : Option (List HoldRecord)) (faults faults' : ℕ) (step : Step)
    → s.doing ≡ doings.Took t → IsAt x s was
    → ForSome contents (λ c. (rows : Rows) (part : ℕ) (right : Bool) → SeesTaken parts t right → AnswersAsAsked x rows c contents' part right (λ h. on_valid h t.fill t.size) step)
    → ((rows : Rows) → AreAfterStep step.kind rows rows) → IsNumberedStep x.number step → IsPlain step → IsJudged t step.kind → parts' ≡ parts_after_valid t.fill step.kind parts → s' ≡ going s doings.Waits → IsLetGo s.place s.doing was now
    → Agrees records' was.holds → faults ≤ faults' → IfSome (failed_in step.kind) (λ call. Rose faults faults')
    → IsStep x (incoming.Message messages.Valid) (moment_of s was contents parts records faults) (moment_of s' now contents' parts' records' faults') step
valid_so x s s' t was now contents contents' parts parts' records records' faults faults' step has at does after fits plain judged spent new gone agrees later cause =
    subst (λ (w : SessionState). IsStep x (incoming.Message messages.Valid) (moment_of w was contents parts records faults) (moment_of s' now contents' parts' records' faults') step) (sym (took_session s t has))
    (subst (λ (w : SessionState). IsStep x (incoming.Message messages.Valid) (moment_of (going s (doings.Took t)) was contents parts records faults) (moment_of w now contents' parts' records' faults') step) (sym new)
    (valid_now x s.place s.spoken t was now contents contents' parts parts' records records' faults faults' step (subst (λ (w : SessionState). IsAt x w was) (took_session s t has) at) does after fits plain judged spent
    (subst (λ (d : Doing). IsLetGo s.place d was now) has gone) agrees later cause))

-- INVALID
pub invalid_so : (x : Scene) (s s' : SessionState) (was now : Rows) (contents : Option Contents) (parts : Option Parts) (records : Option (List HoldRecord)) (faults : ℕ) (step : Step)
    → IsAt x s was → IsTook s.doing → s' ≡ going s doings.Waits → IsLetGo s.place s.doing was now → Agrees records was.holds → step ≡ saying messages.Failure
    → IsStep x (incoming.Message messages.Invalid) (moment_of s was contents parts records faults) (moment_of s' now contents parts records faults) step
invalid_so x s s' was now contents parts records faults step at phase new gone agrees is =
    subst (λ (w : SessionState). IsStep x (incoming.Message messages.Invalid) (moment_of s was contents parts records faults) (moment_of w now contents parts records faults) step) (sym new)
    (subst (λ (w : Step). IsStep x (incoming.Message messages.Invalid) (moment_of s was contents parts records faults) (moment_of (going s doings.Waits) now contents parts records faults) w) (sym is) (record {
      does = λ c known part right sees. talks x was c contents part right (λ h. on_heard h (session_of s) (incoming.Message messages.Invalid)) messages.Failure (saying messages.Failure) refl known
          (ap as_said (sym (answer (here_of x was c None part right) s.doing phase)));
      after = stays (Talk None) s.place.peer s.place.slot was now (nothing_kept (owner_at s.place) s.doing was.holds phase at.owns) gone.after (λ r. record { holds = refl; bars = λ k. refl });
      bars = gone.after.bars;
      fits = record { kind = tt; reply = tt };
      filled = gone.filled;
      next = λ size sees. refl;
      place = refl;
      owns = gone.owns;
      fills = tt;
      others = gone.others;
      parts = sym (parts_stay s.doing messages.Invalid (Talk None) parts (λ e. absurd cc));
      fed = λ p has was_fed p' has'. tt;
      judged = tt;
      agrees = gone.agrees records agrees;
      later = omega arith;
      cause = tt;
    }))
  where
    answer : (h : Here) (d : Doing) → IsTook d → on_message h s.spoken (doing_of d) messages.Invalid ≡ reply (Talk None) messages.Failure
    answer h (doings.Took t) p = refl
    answer h d p = absurd p
