-- A step sends an Opening as a client alone, at an end that is closed.
use Rattle.std.proofs.Common.{◌≡◌, ℕ, Bool, true, false, Option, Some, None, inl, inr, refl, sym, ap, ◌∙◌, subst, true≢false}
use Rattle.std.specs.Prelude.{if◌then◌else◌, ◌==◌, ◌&&◌}
use Rattle.std.proofs.lemmas.Bool.{and_parts, eqb-true}
use Rattle.std.specs.Option.{option_or}
use Rattle.annex_base.specs.Lists.{Member}
use Rattle.annex_base.proofs.Lists.{Each-member}
use Rattle.annex_base.proofs.Conditions.{same_bool_is}
use Rattle.annex_base.proofs.Options.{first_some-was, option_or-was}
use Rattle.run_data.specs.declared.entry.FrameView.{FrameView}
use Rattle.node_model.specs.Ends.{EndName, end_takes, is_opening, sends_at, server_end}
use Rattle.node_model.specs.Jobs.{job_end}
use Rattle.node_model.specs.JobStep.{turn_of}
use Rattle.node_model.specs.Look.{Look, Effect, waiting_frame}
use Rattle.node_model.specs.OwedStep.{owed_step}
use Rattle.node_model.specs.SessionStep.{Reply, gives_made, gives_next, here, on_frame, reply_made, session_at, session_makes, session_step}
use Rattle.node_model.specs.SetUp.{SetUp, served_connections}
use Rattle.node_model.specs.State.{State}
use Rattle.node_model.specs.Step.{step}
use Rattle.node_model.specs.Turns.{job_step}
use Rattle.step_facts.proofs.Counting.{gives_counts}
use Rattle.step_facts.proofs.EndEpochs.{from_end}
use Rattle.step_facts.proofs.EndMoves.{OpensNone, frame_none, frames_none, pieces_none}
use Rattle.step_facts.proofs.JobEnds.{JobSays, JobSpeaks, job_speaks}
use Rattle.step_facts.proofs.ServerEnds.{end_path}
use Rattle.step_facts.proofs.StepFacts.{pays_found}

-- ---- a session opens nothing

module _ (s : SetUp) (st : State) (k : Look) (m : Effect) where
  given_none : (a : EndName) (o : Option Reply) → gives_next (here s st k a) (st.sessions a).doing ≡ o → gives_made a (st.ends a) o ≡ Some m → OpensNone m.sent
  given_none a None is e = absurd (cc)
  given_none a (Some x) is e =
      let same : reply_made a (st.ends a) None x ≡ m = cc in
      subst (λ (y : Effect). OpensNone y.sent) same (frames_none a (st.ends a) x.says (pieces_none (st.sessions a).doing x.says (gives_counts (here s st k a) (st.sessions a).doing x is).1))

  makes_none : (a : EndName) (o : Option FrameView) → session_makes (here s st k a) (st.ends a) (st.sessions a) o ≡ Some m → OpensNone m.sent
  makes_none a (Some f) e =
      let same : reply_made a (end_takes (st.ends a) f.epoch f.body) (Some f) (on_frame (here s st k a) (st.sessions a) f.body) ≡ m = cc in
      subst (λ (y : Effect). OpensNone y.sent) same
      (frames_none a (end_takes (st.ends a) f.epoch f.body) (on_frame (here s st k a) (st.sessions a) f.body).says (frame_none (here s st k a) (st.sessions a) f.body))
  makes_none a None e = go (st.ends a).opened e
    where
      go : (b : Bool) → (if b then gives_made a (st.ends a) (gives_next (here s st k a) (st.sessions a).doing) else None) ≡ Some m → OpensNone m.sent
      go true g = given_none a (gives_next (here s st k a) (st.sessions a).doing) refl g
      go false g = absurd (cc)

  at_none : (a : EndName) → session_at s st k a ≡ Some m → OpensNone m.sent
  at_none a e = go (k.room a) e
    where
      go : (b : Bool) → (if b then session_makes (here s st k a) (st.ends a) (st.sessions a) (waiting_frame (st.ends a) k a) else None) ≡ Some m → OpensNone m.sent
      go true g = makes_none a (waiting_frame (st.ends a) k a) g
      go false g = absurd (cc)

  session_none : session_step s st k ≡ Some m → OpensNone m.sent
  session_none e =
      let x = first_some-was (λ (c : ℕ × ℕ). session_at s st k (server_end c.0 c.1)) (served_connections s) m e in
      at_none (server_end x.0.0 x.0.1) x.2

-- ---- the end at which a frame is sent

sends_end : (a : EndName) (g : FrameView) → sends_at a g ≡ true → from_end g ≡ a
sends_end a g e =
    let two = and_parts ((g.peer == a.peer) && (g.slot == a.slot)) _ e in
    let one = and_parts (g.peer == a.peer) (g.slot == a.slot) two.0 in
    end_path g.peer g.slot g.up a (eqb-true g.peer a.peer one.0) (eqb-true g.slot a.slot one.1) (same_bool_is g.up a.client two.1)

-- ---- the step

-- a client's end, and closed
abbrev pub MayOpen : State → EndName → Type 0
MayOpen st a = (a.client ≡ true) × ((st.ends a).opened ≡ false)

job_opens : (s : SetUp) (st : State) (k : Look) (m : Effect) (g : FrameView) (a : EndName) → JobSpeaks s st k m → Member g m.sent → sends_at a g ≡ true → is_opening g.body ≡ true → MayOpen st a
job_opens s st k m g a x among at opens = go (Each-member (JobSays (turn_of s st k x.w)) m.sent g x.says among)
  where
    go : JobSays (turn_of s st k x.w) g → MayOpen st a
    go y = elim (y.2) [
      | inl z ↦ absurd (true≢false (sym opens ∙ z.2))
      | inr z ↦ (ap (λ (b : EndName). b.client) (sym (sends_end a g at)) ∙ y.0, ap (λ (b : EndName). (st.ends b).opened) (sym (sends_end a g at) ∙ sym (own y)) ∙ z.0)
    ]
      where
        own : JobSays (turn_of s st k x.w) g → job_end x.w g.peer ≡ from_end g
        own y i = record { peer = g.peer; slot = sym y.1 i; client = sym y.0 i }

pub step_opens : (s : SetUp) (st : State) (k : Look) (m : Effect) (g : FrameView) (a : EndName) → step s st k ≡ Some m → Member g m.sent → sends_at a g ≡ true → is_opening g.body ≡ true → MayOpen st a
step_opens s st k m g a e among at opens = elim (option_or-was (owed_step s st k) (option_or (session_step s st k) (job_step s st k)) m e) [
  | inl o ↦ elim ((pays_found s st k m st.owed refl o).writes) [
    | inl w ↦ absurd (subst (λ (y : Effect). Member g y.sent) w among)
    | inr w ↦ absurd (subst (λ (y : Effect). Member g y.sent) w among)
  ]
  | inr r ↦ elim (option_or-was (session_step s st k) (job_step s st k) m r) [
    | inl x ↦ absurd (true≢false (sym opens ∙ Each-member (λ (h : FrameView). is_opening h.body ≡ false) m.sent g (session_none s st k m x) among))
    | inr x ↦ job_opens s st k m g a (job_speaks s st k m x) among at opens
  ]
]
