-- The calls of a session's answers, by what is heard.
use Rattle.std.proofs.Common.{◌≡◌, ℕ, ◌*◌, Bool, true, false, List, [], ◌∷◌, length, Option, None, Result, Ok, Err, refl, sym, ap, subst, ◌∙◌}
use Rattle.std.specs.Prelude.{◌/◌, IfOk, OnErr, bytes_eq, if◌then◌else◌, nat_le, nat_lt, ◌&&◌}
use Rattle.std.specs.Option.{ForSome, option_map}
use Rattle.std.specs.declared.vec.Vec.{Vec}
use Rattle.std.specs.declared.alloc.Global.{Global}
use Rattle.std.proofs.lemmas.Bool.{cond-true}
use Rattle.annex_base.specs.declared.kinds.Call.{Call}
use Rattle.annex_base.specs.declared.kinds.Call.TheVariants as calls
use Rattle.run_data.specs.declared.entry.FrameText.{FrameText}
use Rattle.run_data.specs.declared.entry.FrameText.TheVariants.{Closing}
use Rattle.run_data.specs.declared.entry.EntryKind.TheVariants.{Check, Release, Talk}
use Rattle.annex_base.specs.declared.kinds.Found.TheVariants as found
use Rattle.p2p_wire.specs.declared.message.Message.{Message}
use Rattle.p2p_wire.specs.declared.message.Message.TheVariants as messages
use Rattle.object_store.specs.Stores.{Contents, Parts}
use Rattle.node_model.specs.Calls.{to_commit, to_offer}
use Rattle.node_model.specs.Ends.{EndName}
use Rattle.node_model.specs.Look.{failed_in, Look}
use Rattle.node_model.specs.Sessions as sessions
use Rattle.node_model.specs.SessionStep.{Here, Reply, here, is_filled, is_here, now_of, on_bytes, on_frame, on_message, on_remove, on_remove_before, reply, silent_reply, tries, unexpected_reply}
use Rattle.node_model.specs.SetUp.{SetUp}
use Rattle.node_model.specs.State.{State}
use Rattle.content_lock.specs.Rows.{Rows, is_filling}
use Rattle.content_lock.specs.Tokens.{ShareView}
use Rattle.session_state.specs.declared.doing.Doing.{Doing}
use Rattle.session_state.specs.declared.doing.Doing.TheVariants as doings
use Rattle.session_state.specs.declared.doing.Taken.{Taken}
use Rattle.session_state.specs.declared.doing.Taking.{Taking}
use Rattle.session_state.specs.declared.incoming.Incoming.{Incoming}
use Rattle.session_state.specs.declared.incoming.Incoming.TheVariants as incoming
use Rattle.session_state.specs.declared.place.Scene.{Scene}
use Rattle.session_state.specs.declared.state.SessionState.{SessionState}
use Rattle.session_state.specs.declared.step.Step.{Step}
use Rattle.session_state.specs.Answers.{here_of}
use Rattle.content_lock.specs.CallsMade.{MakesCalls, fewer}
use Rattle.session_state.specs.SessionCalls.{Makes, MakesStep, to_remove_here}
use Rattle.session_state.specs.States.{IsScene, HaveRows, stand_of}
use Rattle.session_state.specs.Stepping.{IsUnexpected, guards_key}
use Rattle.session_state.specs.Talking.{Brings, SeesPart, SeesTaken, doing_of, on_heard, session_of}
use Rattle.session_state.proofs.Calling.{as_it_was, makes_none}
use Rattle.session_state.proofs.StateFacts.{heard_is, here_is}

-- what is counted stays, as no call was made
pub quiet : (x : Scene) (i : Incoming) (s : SessionState) (rows : Rows) (contents : Option Contents) (parts : Option Parts) (failing : Option (Call → ℕ)) (step : Step)
    → failed_in step.kind ≡ None → ((h : Here) → (on_heard h (session_of s) i).calls ≡ []) → MakesStep x i s rows contents parts failing failing step
quiet x i s rows contents parts failing step well none = record {
  calls = λ c is part right sees.
      subst (λ (cs : List Call). MakesCalls cs (failed_in step.kind) failing failing) (sym (none (here_of x rows c (failed_in step.kind) part right)))
      (subst (λ (f : Option Call). MakesCalls [] f failing failing) (sym well) (makes_none failing failing refl));
  left = as_it_was failing ∙ ap (λ (f : Option Call). option_map (fewer f) failing) (sym well);
}

-- what isn't expected
pub unexpected_makes : (x : Scene) (i : Incoming) (s : SessionState) (rows : Rows) (contents : Option Contents) (parts : Option Parts) (failing : Option (Call → ℕ)) (step : Step)
    → failed_in step.kind ≡ None → IsUnexpected i s → MakesStep x i s rows contents parts failing failing step
unexpected_makes x i s rows contents parts failing step well un = quiet x i s rows contents parts failing step well (λ h. ap (λ (x : Reply). x.calls) (un.answer h))

-- ---- a session that waits

pub request_makes : (x : Scene) (m : Message) (s : SessionState) (rows : Rows) (contents : Option Contents) (parts : Option Parts) (before after : Option (Call → ℕ)) (step : Step) (asked : Here → List Call)
    → s.doing ≡ doings.Waits → ((h : Here) → (on_message h s.spoken sessions.Waits m).calls ≡ asked h)
    → ForSome contents (λ c. (part : ℕ) (right : Bool) → SeesPart parts doings.Waits (incoming.Message m) part right → MakesCalls (asked (here_of x rows c (failed_in step.kind) part right)) (failed_in step.kind) before after)
    → after ≡ option_map (fewer (failed_in step.kind)) before → MakesStep x (incoming.Message m) s rows contents parts before after step
request_makes x m s rows contents parts before after step asked waits answer made left = record {
  calls = λ c is part right sees.
      let h : Here = here_of x rows c (failed_in step.kind) part right in
      let list : (on_message h s.spoken (doing_of s.doing) m).calls ≡ asked h = ap (λ (d : Doing). (on_message h s.spoken (doing_of d) m).calls) waits ∙ answer h in
      subst (λ (cs : List Call). MakesCalls cs (failed_in step.kind) before after) (sym list)
      (made c is part right (subst (λ (d : Doing). SeesPart parts d (incoming.Message m) part right) waits sees));
  left = left;
}

-- one that makes no call
pub request_quiet : (x : Scene) (m : Message) (s : SessionState) (rows : Rows) (contents : Option Contents) (parts : Option Parts) (failing : Option (Call → ℕ)) (step : Step)
    → s.doing ≡ doings.Waits → ((h : Here) → (on_message h s.spoken sessions.Waits m).calls ≡ []) → failed_in step.kind ≡ None → MakesStep x (incoming.Message m) s rows contents parts failing failing step
request_quiet x m s rows contents parts failing step waits answer well =
    quiet x (incoming.Message m) s rows contents parts failing step well (λ h. ap (λ (d : Doing). (on_message h s.spoken (doing_of d) m).calls) waits ∙ answer h)

pub before_calls : (v n : ℕ) (key : List ℕ) → nat_le 3 v ≡ true → (h : Here) → (on_message h v sessions.Waits (messages.RemoveBefore n key)).calls ≡ (if nat_lt (now_of h) (1000 * n) then to_remove_here h key else [])
before_calls v n key speaks h = ap (λ (b : Bool). (if b then on_remove_before h n key else unexpected_reply h).calls) speaks ∙ go (nat_lt (now_of h) (1000 * n))
  where
    go : (b : Bool) → (if b then on_remove h key else reply (Check found.Late key) messages.Failure).calls ≡ (if b then to_remove_here h key else [])
    go true = refl
    go false = refl

pub get_calls : (h : Here) (v n : ℕ) (file key : List ℕ) → nat_le 1 v ≡ true → (on_message h v sessions.Waits (messages.Get n file key)).calls ≡ calls.Size ∷ []
get_calls h v n file key speaks = rw speaks refl

pub put_calls : (h : Here) (v : ℕ) (file key : List ℕ) → nat_le 1 v ≡ true → (on_message h v sessions.Waits (messages.Put file key)).calls ≡ to_offer h.part (is_here h key) (h.filled key)
put_calls h v file key speaks = rw speaks refl

pub time_calls : (h : Here) (v : ℕ) → (on_message h v sessions.Waits messages.GetTimestamp).calls ≡ []
time_calls h v = go (nat_le 3 v)
  where
    go : (b : Bool) → (if b then reply (Talk None) (messages.Timestamp (now_of h / 1000)) else unexpected_reply h).calls ≡ []
    go true = refl
    go false = refl

-- ---- one that guards, and one that takes bytes

pub unlock_makes : (x : Scene) (key : List ℕ) (s : SessionState) (share : ShareView) (rows : Rows) (contents : Option Contents) (parts : Option Parts) (before after : Option (Call → ℕ)) (step : Step)
    → guards_key s.doing key ≡ true → s.doing ≡ doings.Guards share → MakesCalls (calls.Unhold ∷ []) (failed_in step.kind) before after
    → MakesStep x (incoming.Message (messages.UnlockContent key)) s rows contents parts before after step
unlock_makes x key s share rows contents parts before after step guarded has made = record {
  calls = λ c is part right sees.
      let h : Here = here_of x rows c (failed_in step.kind) part right in
      let same : bytes_eq key share.key ≡ true = ap (λ (d : Doing). guards_key d key) (sym has) ∙ guarded in
      let list : (on_message h s.spoken (doing_of s.doing) (messages.UnlockContent key)).calls ≡ calls.Unhold ∷ [] =
      ap (λ (d : Doing). (on_message h s.spoken (doing_of d) (messages.UnlockContent key)).calls) has ∙ ap (λ (x : Reply). x.calls) (cond-true (bytes_eq key share.key) (tries h (calls.Unhold ∷ []) [] (silent_reply (Release share.number share.key))) (unexpected_reply h) same) in
      subst (λ (cs : List Call). MakesCalls cs (failed_in step.kind) before after) (sym list) made;
  left = made.left;
}

pub piece_makes : (x : Scene) (bytes : Vec ℕ Global) (s : SessionState) (t : Taking) (rows : Rows) (contents : Option Contents) (parts : Option Parts) (before after : Option (Call → ℕ)) (step : Step)
    → s.doing ≡ doings.Takes t → (nat_lt 0 (length bytes.items) && nat_le (length bytes.items) t.left) ≡ true → MakesCalls (calls.Append ∷ []) (failed_in step.kind) before after
    → MakesStep x (incoming.Bytes bytes) s rows contents parts before after step
piece_makes x bytes s t rows contents parts before after step has fits made = record {
  calls = λ c is part right sees.
      let h : Here = here_of x rows c (failed_in step.kind) part right in
      let list : (on_bytes h (length bytes.items) (doing_of s.doing)).calls ≡ calls.Append ∷ [] =
      ap (λ (d : Doing). (on_bytes h (length bytes.items) (doing_of d)).calls) has ∙ ap (λ (x : Reply). x.calls) (cond-true (nat_lt 0 (length bytes.items) && nat_le (length bytes.items) t.left) (tries h (calls.Append ∷ []) (Closing ∷ []) (silent_reply (Talk None))) (unexpected_reply h) fits) in
      subst (λ (cs : List Call). MakesCalls cs (failed_in step.kind) before after) (sym list) made;
  left = made.left;
}

pub valid_makes : (x : Scene) (s : SessionState) (t : Taken) (rows : Rows) (contents : Option Contents) (parts : Option Parts) (before after : Option (Call → ℕ)) (step : Step)
    → s.doing ≡ doings.Took t → ((right : Bool) → SeesTaken parts t right → MakesCalls (to_commit right) (failed_in step.kind) before after)
    → after ≡ option_map (fewer (failed_in step.kind)) before → MakesStep x (incoming.Message messages.Valid) s rows contents parts before after step
valid_makes x s t rows contents parts before after step has made left = record {
  calls = λ c is part right sees.
      let h : Here = here_of x rows c (failed_in step.kind) part right in
      let list : (on_message h s.spoken (doing_of s.doing) messages.Valid).calls ≡ to_commit right = ap (λ (d : Doing). (on_message h s.spoken (doing_of d) messages.Valid).calls) has in
      subst (λ (cs : List Call). MakesCalls cs (failed_in step.kind) before after) (sym list)
      (made right (subst (λ (d : Doing). SeesPart parts d (incoming.Message messages.Valid) part right) has sees));
  left = left;
}

-- ---- of a state that the session, the table and the store are

pub calls_told : {E : Type 0} (x : Scene) (i : Incoming) (was : SessionState) (rows : Rows) (contents : Option Contents) (parts : Option Parts) (before after : Option (Call → ℕ)) (r : Result Step E)
    → Makes x i was rows contents parts before after r
    → IfOk r (λ step. (s : SetUp) (st : State) (k : Look) (a : EndName) (body : FrameText) → IsScene x s st k a → HaveRows rows contents (stand_of st) → ((key : List ℕ) → is_filled s st key ≡ is_filling rows key)
    → st.sessions a ≡ session_of was → Brings body i → SeesPart parts was.doing i k.part k.right → k.fails ≡ failed_in step.kind
    → MakesCalls (on_frame (here s st k a) (st.sessions a) body).calls k.fails before after)
calls_told x i was rows contents parts before after (Ok step) made = λ s st k a body e r filled same brings sees f.
    let list : (on_heard (here_of x rows r.contents (failed_in step.kind) k.part k.right) (session_of was) i).calls ≡ (on_frame (here s st k a) (st.sessions a) body).calls =
    (λ j. (on_heard (here_is x rows contents s st k a (failed_in step.kind) e r filled f j) (sym same j) i).calls) ∙ ap (λ (x : Reply). x.calls) (heard_is (here s st k a) (st.sessions a) i body brings) in
    subst (λ (fails : Option Call). MakesCalls (on_frame (here s st k a) (st.sessions a) body).calls fails before after) (sym f)
    (subst (λ (cs : List Call). MakesCalls cs (failed_in step.kind) before after) list (made.calls r.contents r.told k.part k.right sees))
calls_told x i was rows contents parts before after (Err e) made = tt

pub left_told : {E : Type 0} (x : Scene) (i : Incoming) (was : SessionState) (rows : Rows) (contents : Option Contents) (parts : Option Parts) (before after : Option (Call → ℕ)) (r : Result Step E)
    → Makes x i was rows contents parts before after r → IfOk r (λ step. after ≡ option_map (fewer (failed_in step.kind)) before)
left_told x i was rows contents parts before after (Ok step) made = made.left
left_told x i was rows contents parts before after (Err e) made = tt

pub failing_as_before : {E : Type 0} (x : Scene) (i : Incoming) (was : SessionState) (rows : Rows) (contents : Option Contents) (parts : Option Parts) (before after : Option (Call → ℕ)) (r : Result Step E)
    → Makes x i was rows contents parts before after r → OnErr r (after ≡ before)
failing_as_before x i was rows contents parts before after (Ok step) made = tt
failing_as_before x i was rows contents parts before after (Err e) made = made
