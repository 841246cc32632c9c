-- Of the paths in a repository's set-up a step reads only those of its running jobs.
use Rattle.std.proofs.Common.{◌≡◌, ℕ, List, [], ◌∷◌, Option, Some, None, refl, ap, ◌∙◌}
use Rattle.std.specs.Prelude.{◌+◌, length, ◌==◌, find, if◌then◌else◌}
use Rattle.std.specs.Option.{option_or}
use Rattle.annex_base.specs.Lists.{Member}
use Rattle.annex_base.proofs.Lists.{find_member}
use Rattle.annex_base.proofs.Functions.{funext}
use Rattle.annex_base.specs.OptionSteps.{first_some}
use Rattle.run_data.specs.declared.entry.FrameView.{FrameView}
use Rattle.run_data.specs.declared.entry.FrameText.{FrameText}
use Rattle.run_data.specs.declared.entry.FrameText.TheVariants.{Opening, Closing, Bytes, Line}
use Rattle.run_data.specs.Repos.{id_of}
use Rattle.node_model.specs.Look.{Look, waiting_frame}
use Rattle.p2p_wire.specs.declared.message.Message.{Message}
use Rattle.p2p_wire.specs.declared.message.Message.TheVariants.{CheckPresent, Data, Error, Failure, Get, GetTimestamp, Invalid, LockContent, Put, Remove, RemoveBefore, Success, UnlockContent, Valid, Version}
use Rattle.p2p_wire.specs.Messages.{message_of}
use Rattle.node_model.specs.SetUp.{SetUp, served_connections, slots}
use Rattle.node_model.specs.Ends.{EndName, End, end_takes, server_end}
use Rattle.node_model.specs.Sessions.{Doing, Waits, Guards, Gives, Gave, Wants, Takes, Took, Session}
use Rattle.node_model.specs.Jobs.{Work, partner, target_of}
use Rattle.node_model.specs.State.{State}
use Rattle.node_model.specs.OwedLines.{OwedLine}
use Rattle.wanted_expr.specs.Wanted.{required}
use Rattle.node_model.specs.OwedStep.{owed_step, pays_first}
use Rattle.node_model.specs.SessionStep.{is_filled, Here, gives_made, gives_next, here, on_bytes, on_frame, on_message, on_request, on_text, reply_made, session_at, session_makes, session_step}
use Rattle.node_model.specs.Knows.{need_by, standing_of}
use Rattle.node_model.specs.JobStep.{turn_of}
use Rattle.node_model.specs.Turns.{by_partner, job_step, slot_step}
use Rattle.node_model.specs.Step.{step}

-- the set-up with other paths
abbrev pub with_paths : SetUp → (ℕ → List (List ℕ)) → SetUp
with_paths s p = record s { paths = p }

-- ---- a job

-- its turn reads the paths of its own key
turn-same : (s : SetUp) (st : State) (k : Look) (w : Work) (p : ℕ → List (List ℕ)) → p w.number ≡ s.paths w.number → turn_of (with_paths s p) st k w ≡ turn_of s st k w
unfolding standing_of
turn-same s st k w p same = λ i. record {
  read = record {
    repo = s.number;
    count = length s.repos;
    clock = st.clock;
    need = need_by (st.read w.number) (same i);
    standing = standing_of s st w;
    requires = required (st.read w.number) (id_of s.repos (target_of s.number w)) w.what.key (same i);
  };
  clock = st.clock;
  number = st.made + 1;
  present = st.present;
  bar = st.bar;
  content = st.content;
  holds = st.holds;
  filled = is_filled s st;
  ends = st.ends;
  look = k;
  w = w;
}

-- ---- a session

module _ (s : SetUp) (st : State) (k : Look) (p : ℕ → List (List ℕ)) (a : EndName) where
  abbrev h : Here
  h = here s st k a

  abbrev g : Here
  g = here (with_paths s p) st k a

  request-same : (v : ℕ) (m : Message) → on_request g v m ≡ on_request h v m
  request-same v (Version n) = refl
  request-same v (CheckPresent key) = refl
  request-same v (LockContent key) = refl
  request-same v (Remove key) = refl
  request-same v (RemoveBefore n key) = refl
  request-same v GetTimestamp = refl
  request-same v (Get n file key) = refl
  request-same v (Put file key) = refl
  request-same v m = refl

  message-same : (v : ℕ) (doing : Doing) (m : Message) → on_message g v doing m ≡ on_message h v doing m
  message-same v doing (Error text) = refl
  message-same v Waits m = request-same v m
  message-same v (Guards hold key) (UnlockContent x) = refl
  message-same v Gave Success = refl
  message-same v Gave Failure = refl
  message-same v (Wants key size) (Data n) = refl
  message-same v (Took key size) Valid = refl
  message-same v (Took key size) Invalid = refl
  message-same v doing m = refl

  on_bytes-same : (n : ℕ) (doing : Doing) → on_bytes g n doing ≡ on_bytes h n doing
  on_bytes-same n (Takes key size left) = refl
  on_bytes-same n doing = refl

  on_text-same : (was : Session) (o : Option Message) → on_text g was o ≡ on_text h was o
  on_text-same was None = refl
  on_text-same was (Some m) = message-same was.version was.doing m

  on_frame-same : (was : Session) (body : FrameText) → on_frame g was body ≡ on_frame h was body
  on_frame-same was Opening = refl
  on_frame-same was Closing = refl
  on_frame-same was (Bytes n) = on_bytes-same n was.doing
  on_frame-same was (Line text) = on_text-same was (message_of text)

  gives-same : (doing : Doing) → gives_next g doing ≡ gives_next h doing
  gives-same (Gives key at left good) = refl
  gives-same doing = refl

  makes-same : (c : End) (was : Session) (o : Option FrameView) → session_makes g c was o ≡ session_makes h c was o
  makes-same c was (Some f) = ap (λ x. Some (reply_made a (end_takes c f.epoch f.body) (Some f) x)) (on_frame-same was f.body)
  makes-same c was None = ap (λ x. if c.opened then gives_made a c x else None) (gives-same was.doing)

  session-same : session_at (with_paths s p) st k a ≡ session_at s st k a
  session-same = ap (λ x. if k.room a then x else None) (makes-same (st.ends a) (st.sessions a) (waiting_frame (st.ends a) k a))

-- ---- the step

owed-same : (s : SetUp) (st : State) (k : Look) (p : ℕ → List (List ℕ)) (os : List OwedLine) → pays_first (with_paths s p) st k os ≡ pays_first s st k os
owed-same s st k p [] = refl
owed-same s st k p (o ∷ os) = refl

slot-same : (s : SetUp) (st : State) (k : Look) (p : ℕ → List (List ℕ)) → ((w : Work) → Member w st.works → p w.number ≡ s.paths w.number) → (slot : ℕ) (o : Option Work) → find (λ w. w.slot == slot) st.works ≡ o
    → slot_step (with_paths s p) st k o ≡ slot_step s st k o
slot-same s st k p same slot None is = refl
slot-same s st k p same slot (Some w) is = ap (λ t. by_partner t (partner w.what.peer w.phase)) (turn-same s st k w p (same w (find_member (λ w. w.slot == slot) st.works w is).0))

-- a step reads of the paths only those of the running jobs
pub step_paths : (s : SetUp) (st : State) (k : Look) (p : ℕ → List (List ℕ)) → ((w : Work) → Member w st.works → p w.number ≡ s.paths w.number) → step (with_paths s p) st k ≡ step s st k
step_paths s st k p same = ap (λ x. option_or x (option_or (session_step (with_paths s p) st k) (job_step (with_paths s p) st k))) (owed-same s st k p st.owed)
    ∙ ap (λ f. option_or (owed_step s st k) (option_or (first_some f (served_connections s)) (job_step (with_paths s p) st k)))
    (funext (λ c. session_at (with_paths s p) st k (server_end c.0 c.1)) (λ c. session_at s st k (server_end c.0 c.1)) (λ c. session-same s st k p (server_end c.0 c.1)))
    ∙ ap (λ f. option_or (owed_step s st k) (option_or (session_step s st k) (first_some f slots)))
    (funext (λ slot. slot_step (with_paths s p) st k (find (λ w. w.slot == slot) st.works)) (λ slot. slot_step s st k (find (λ w. w.slot == slot) st.works)) (λ slot. slot-same s st k p same slot (find (λ w. w.slot == slot) st.works) refl))
