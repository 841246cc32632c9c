-- What a step took: none, a frame that a session answered, or one that a job heard.
use Rattle.std.proofs.Common.{◌≡◌, ℕ, Bool, true, false, List, [], ◌∷◌, Option, Some, None, ◌⊎◌, inl, inr, refl, sym, subst, arith}
use Rattle.std.specs.Prelude.{◌&&◌, ◌==◌, find, if◌then◌else◌}
use Rattle.std.proofs.lemmas.Bool.{and_parts}
use Rattle.std.proofs.lemmas.Bool.Decides.{nat_tests}
use Rattle.std.specs.Option.{option_or}
use Rattle.annex_base.specs.declared.kinds.Call.{Call}
use Rattle.annex_base.specs.declared.kinds.Call.TheVariants.{PutFile}
use Rattle.annex_base.specs.Lists.{Each, Member}
use Rattle.annex_base.proofs.Lists.{Each-member, find_member}
use Rattle.annex_base.specs.Bools.{same_bool}
use Rattle.annex_base.proofs.Options.{first_some-was, option_or-was}
use Rattle.run_data.specs.declared.entry.EntryKind.TheVariants.{Fault, Log}
use Rattle.run_data.specs.declared.entry.FrameView.{FrameView}
use Rattle.run_data.specs.declared.entry.LogFile.TheVariants.{Location}
use Rattle.node_model.specs.Ends.{EndName, end_takes, may_take, server_end, takes_at}
use Rattle.node_model.specs.Jobs.{Work, partner}
use Rattle.node_model.specs.JobStep.{turn_of}
use Rattle.node_model.specs.Look.{Look, Effect, failing_call, unless, waiting_frame}
use Rattle.node_model.specs.OwedLines.{OwedLine, due}
use Rattle.node_model.specs.OwedStep.{owed_step, pays_first}
use Rattle.node_model.specs.SessionStep.{Reply, gives_made, gives_next, here, on_frame, reply_made, session_at, session_makes, session_step}
use Rattle.node_model.specs.SetUp.{SetUp, served_connections, slots}
use Rattle.node_model.specs.State.{State}
use Rattle.node_model.specs.Step.{step}
use Rattle.node_model.specs.Turns.{job_step, slot_step}
use Rattle.driver_model.specs.Driver.{end_to}
use Rattle.fleet_model.proofs.JobTakes.{HearsAtMost, IsHeard, partner_hears}
use Rattle.fleet_model.proofs.Working.{IsFit}

-- ---- cases of what a step may be

-- ---- a session

-- a session took this frame, which came to a server, and the entry is its answer
pub record IsAnswer (s : SetUp) (st : State) (k : Look) (m : Effect) (f : FrameView) : Type 0 where
  pub up : f.up ≡ true
  pub made : m ≡ reply_made (end_to f) (end_takes (st.ends (end_to f)) f.epoch f.body) (Some f) (on_frame (here s st k (end_to f)) (st.sessions (end_to f)) f.body)

pub to_server : (peer slot : ℕ) (f : FrameView) → takes_at (server_end peer slot) f ≡ true → (f.up ≡ true) × (server_end peer slot ≡ end_to f)
to_server peer slot f e =
    let first = and_parts ((f.peer == peer) && (f.slot == slot)) _ e in
    let both = and_parts (f.peer == peer) (f.slot == slot) first.0 in
    go f.up refl both.0 both.1 first.1
  where
    same : (a b : ℕ) → (a == b) ≡ true → b ≡ a
    same a b g = grind (arith, nat_tests)

    go : (b : Bool) → f.up ≡ b → (f.peer == peer) ≡ true → (f.slot == slot) ≡ true → same_bool false (if b then false else true) ≡ true → (f.up ≡ true) × (server_end peer slot ≡ end_to f)
    go true is p q g = (is, λ i. record { peer = same f.peer peer p i; slot = same f.slot slot q i; client = if sym is i then false else true })
    go false is p q g = absurd (cc)

-- a session took nothing, or answered a frame
abbrev pub AnswersAtMost : SetUp → State → Look → Effect → Type 0
AnswersAtMost s st k m = (m.taken ≡ None) ⊎ ((f : FrameView) × IsAnswer s st k m f)

makes_answer : (s : SetUp) (st : State) (k : Look) (peer slot : ℕ) (f : Option FrameView) (m : Effect) → waiting_frame (st.ends (server_end peer slot)) k (server_end peer slot) ≡ f
    → session_makes (here s st k (server_end peer slot)) (st.ends (server_end peer slot)) (st.sessions (server_end peer slot)) f ≡ Some m → AnswersAtMost s st k m
makes_answer s st k peer slot (Some f) m is e =
    let a : EndName = server_end peer slot in
    let same : reply_made a (end_takes (st.ends a) f.epoch f.body) (Some f) (on_frame (here s st k a) (st.sessions a) f.body) ≡ m = cc in
    let was = find_member (λ g. takes_at a g && may_take (st.ends a) g) k.at_hand f is in
    let both = and_parts (takes_at a f) (may_take (st.ends a) f) was.1 in
    let to = to_server peer slot f both.0 in
    inr (
      f,
      record {
        up = to.0;
        made = subst (λ (b : EndName). m ≡ reply_made b (end_takes (st.ends b) f.epoch f.body) (Some f) (on_frame (here s st k b) (st.sessions b) f.body)) to.1 (sym same);
      },
    )
makes_answer s st k peer slot None m is e = go (st.ends a).opened e
  where
    a : EndName
    a = server_end peer slot

    given : (o : Option Reply) → gives_made a (st.ends a) o ≡ Some m → AnswersAtMost s st k m
    given None g = absurd (cc)
    given (Some x) g =
        let same : reply_made a (st.ends a) None x ≡ m = cc in inl (subst (λ (y : Effect). y.taken ≡ None) same refl)

    go : (b : Bool) → (if b then gives_made a (st.ends a) (gives_next (here s st k a) (st.sessions a).doing) else None) ≡ Some m → AnswersAtMost s st k m
    go true g = given (gives_next (here s st k a) (st.sessions a).doing) g
    go false g = absurd (cc)

session_answers : (s : SetUp) (st : State) (k : Look) (m : Effect) → session_step s st k ≡ Some m → AnswersAtMost s st k m
session_answers s st k m e =
    let w = first_some-was (λ (c : ℕ × ℕ). session_at s st k (server_end c.0 c.1)) (served_connections s) m e in at w.0.0 w.0.1 w.2
  where
    at : (peer slot : ℕ) → session_at s st k (server_end peer slot) ≡ Some m → AnswersAtMost s st k m
    at peer slot g = go (k.room (server_end peer slot)) g
      where
        go : (b : Bool)
            → (if b then session_makes (here s st k (server_end peer slot)) (st.ends (server_end peer slot)) (st.sessions (server_end peer slot)) (waiting_frame (st.ends (server_end peer slot)) k (server_end peer slot)) else None) ≡ Some m
            → AnswersAtMost s st k m
        go true h = makes_answer s st k peer slot (waiting_frame (st.ends (server_end peer slot)) k (server_end peer slot)) m refl h
        go false h = absurd (cc)

-- ---- a job

-- one of the works took nothing, or heard a frame
abbrev pub JobHears : State → Effect → Type 0
JobHears st m = (m.taken ≡ None) ⊎ ((w : Work) × Member w st.works × ((f : FrameView) × IsHeard w m f))

slot_hears : (s : SetUp) (st : State) (k : Look) (slot : ℕ) (m : Effect) (w : Option Work) → Each IsFit st.works → find (λ w. w.slot == slot) st.works ≡ w → slot_step s st k w ≡ Some m → JobHears st m
slot_hears s st k slot m None fit is e = absurd (cc)
slot_hears s st k slot m (Some w) fit is e = by_work (partner_hears (turn_of s st k w) m (partner w.what.peer w.phase) (Each-member IsFit st.works w fit among) e)
  where
    among : Member w st.works
    among = (find_member (λ (w : Work). w.slot == slot) st.works w is).0

    by_work : HearsAtMost w m → JobHears st m
    by_work (inl none) = inl none
    by_work (inr x) = inr (w, among, x)

job_hears : (s : SetUp) (st : State) (k : Look) (m : Effect) → Each IsFit st.works → job_step s st k ≡ Some m → JobHears st m
job_hears s st k m fit e =
    let x = first_some-was (λ slot. slot_step s st k (find (λ w. w.slot == slot) st.works)) slots m e in
    slot_hears s st k x.0 m (find (λ w. w.slot == x.0) st.works) fit refl x.2

-- ---- the step

-- a line that is owed is written without a frame
owed_takes_none : (s : SetUp) (st : State) (k : Look) (m : Effect) (os : List OwedLine) → pays_first s st k os ≡ Some m → m.taken ≡ None
owed_takes_none s st k m [] e = absurd (cc)
owed_takes_none s st k m (o ∷ os) e = go (failing_call k.fails (PutFile ∷ [])) e
  where
    written : Effect
    written = record { kind = Log (Location o.key); taken = None; sent = []; lines = due s.repos st.lines (st.wall k.time) o; calls = PutFile ∷ [] }

    go : (c : Option Call) → Some (unless c (λ call. record { kind = Fault call o.by; taken = None; sent = []; lines = []; calls = PutFile ∷ [] }) written) ≡ Some m → m.taken ≡ None
    go None g = let same : written ≡ m = cc in subst (λ (y : Effect). y.taken ≡ None) same refl
    go (Some call) g = let same : record { kind = Fault call o.by; taken = None; sent = []; lines = []; calls = PutFile ∷ [] } ≡ m = cc in subst (λ (y : Effect). y.taken ≡ None) same refl

-- what a step of a repository took
pub data Origin (s : SetUp) (st : State) (k : Look) (m : Effect) : Type 0 where
  TakesNone : m.taken ≡ None → Origin s st k m
  Answers : (f : FrameView) → IsAnswer s st k m f → Origin s st k m
  Hears : (w : Work) (f : FrameView) → Member w st.works → IsHeard w m f → Origin s st k m

pub origin_of : (s : SetUp) (st : State) (k : Look) (m : Effect) → Each IsFit st.works → step s st k ≡ Some m → Origin s st k m
origin_of s st k m fit e = elim (option_or-was (owed_step s st k) (option_or (session_step s st k) (job_step s st k)) m e) [
  | inl o ↦ TakesNone (owed_takes_none s st k m st.owed o)
  | inr r ↦ others r
]
  where
    by_session : AnswersAtMost s st k m → Origin s st k m
    by_session (inl none) = TakesNone none
    by_session (inr x) = Answers x.0 x.1

    by_job : JobHears st m → Origin s st k m
    by_job (inl none) = TakesNone none
    by_job (inr x) = Hears x.0 x.2.0 x.1 x.2.1

    others : option_or (session_step s st k) (job_step s st k) ≡ Some m → Origin s st k m
    others r = elim (option_or-was (session_step s st k) (job_step s st k) m r) [
      | inl x ↦ by_session (session_answers s st k m x)
      | inr x ↦ by_job (job_hears s st k m fit x)
    ]
