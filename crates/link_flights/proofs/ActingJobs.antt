-- What a step says of the job that makes it: it takes a frame of its partner, at its end of their connection, and removes nothing but
-- its own content.
use Rattle.std.proofs.Common.{◌≡◌, ◌⊎◌, inl, inr, ℕ, true, false, List, [], ◌∷◌, Option, Some, None, refl, sym, ap, ◌∙◌, subst}
use Rattle.std.specs.Prelude.{◌==◌, flat_map}
use Rattle.std.specs.Option.{option_and_then, option_map, option_to_list}
use Rattle.annex_base.specs.Lists.{Member}
use Rattle.annex_base.proofs.Lists.{Member-append_cases, find_member}
use Rattle.drop_proof.specs.declared.rule.Side.TheVariants.{Local}
use Rattle.link_ring.specs.declared.frame.Frame.{Frame}
use Rattle.link_ring.specs.Ends.{EndView, next_frame}
use Rattle.run_data.specs.declared.entry.By.{By}
use Rattle.run_data.specs.declared.entry.EntryKind.{EntryKind}
use Rattle.run_data.specs.declared.entry.EntryKind.TheVariants.{Begin, Gone}
use Rattle.run_data.specs.declared.entry.FrameText.{FrameText}
use Rattle.run_data.specs.declared.entry.FrameView.{FrameView}
use Rattle.p2p_wire.specs.declared.message.Message.{Message}
use Rattle.node_model.specs.AnyTime.{all_ends}
use Rattle.node_model.specs.Ends.{EndName, takes_at}
use Rattle.node_model.specs.Found.{ByJob, BySession, IsJobEntry, JobTakes, IsSessionEntry, StepFound}
use Rattle.node_model.specs.Jobs.{Work, job_end, partner, side_of}
use Rattle.node_model.specs.JobStep.{Turn, turn_of}
use Rattle.node_model.specs.Look.{Look, Effect}
use Rattle.node_model.specs.SessionStep.{Here}
use Rattle.node_model.specs.Sessions.{Doing}
use Rattle.node_model.specs.SetUp.{SetUp}
use Rattle.node_model.specs.Slots.{is_begin, job_of}
use Rattle.node_model.specs.State.{State}
use Rattle.node_model.specs.Step.{step}
use Rattle.node_model.specs.Turns
use Rattle.node_model.specs.Turns.{is_awaiting, takes_frame}
use Rattle.node_ends.specs.Ends.{frame_at, hand_at, link_at}
use Rattle.run_laws.specs.Jobs.{AreJobs}
use Rattle.link_flights.proofs.Naming.{end_own, takes_end}

-- as race_core has it: what steps found, what they take, and whose entries they make
pub record StepLaws : Type 0 where
  pub finds : (s : SetUp) (st : State) (k : Look) (m : Effect) → step s st k ≡ Some m → StepFound s st k m
  pub at_hand : (s : SetUp) (st : State) (k : Look) (m : Effect) (f : FrameView) → step s st k ≡ Some m → m.taken ≡ Some f → Member f k.at_hand
  pub goes : (t : Turn) → (partner t.w.what.peer t.w.phase ≡ None) ⊎ (is_awaiting t.w.phase ≡ false) → (Turns.goes t t.w.phase).taken ≡ None
  pub takes : (t : Turn) (peer : ℕ) (f : FrameView) → partner t.w.what.peer t.w.phase ≡ Some peer → (takes_frame t peer f f.body).taken ≡ Some f
  pub session : (s : SetUp) (st : State) (k : Look) (m : Effect) → BySession s st k m → job_of m.kind ≡ None
  pub job : (s : SetUp) (st : State) (k : Look) (m : Effect) (x : ByJob s st k m) → job_of m.kind ≡ Some x.w.number

removes_local : (t : Turn) (m : Effect) (kind : EntryKind) → IsJobEntry t m kind → (by : By) (key : List ℕ) → kind ≡ Gone by key → side_of t.w ≡ Local
removes_local t m kind x by key is = let y = subst (IsJobEntry t m) is x in y.side

-- what it says of the job
pub record Acts (w : Work) (m : Effect) : Type 0 where
  pub local : (by : By) (key : List ℕ) → m.kind ≡ Gone by key → side_of w ≡ Local
  pub takes : (f : FrameView) → m.taken ≡ Some f → (peer : ℕ) × (partner w.what.peer w.phase ≡ Some peer) × (takes_at (job_end w peer) f ≡ true)

job_acts : (s : SetUp) (st : State) (k : Look) (m : Effect) (x : ByJob s st k m) → Acts x.w m
job_acts s st k m x = record { local = removes_local (turn_of s st k x.w) m m.kind x.found; takes = go x.frame }
  where
    go : (m.taken ≡ None) ⊎ JobTakes (turn_of s st k x.w) m → (f : FrameView) → m.taken ≡ Some f → (peer : ℕ) × (partner x.w.what.peer x.w.phase ≡ Some peer) × (takes_at (job_end x.w peer) f ≡ true)
    go (inl none) f is = absurd (let no' : None ≡ Some f = sym none ∙ is in cc)
    go (inr y) f is = let one : Some y.f ≡ Some f = sym y.taken_is ∙ is in let same : y.f ≡ f = cc in (y.peer, y.partner_is, subst (λ (g : FrameView). takes_at (job_end x.w y.peer) g ≡ true) same y.of_end)

pub acts : StepLaws → (s : SetUp) (st : State) (k : Look) (m : Effect) → step s st k ≡ Some m → AreJobs st.works → (w : Work) → Member w st.works → job_of m.kind ≡ Some w.number → Acts w m
acts laws s st k m makes jobs w there number = go (laws.finds s st k m makes)
  where
    go : StepFound s st k m → Acts w m
    go (inl x) = elim (x.writes) [
      | inl y ↦ absurd (let no' : None ≡ Some w.number = ap (λ (z : Effect). job_of z.kind) (sym y) ∙ number in cc)
      | inr y ↦ record {
        local = λ by key is. absurd (let no' = sym (ap (λ (z : Effect). z.kind) y) ∙ is in cc);
        takes = λ f is. absurd (let no' = sym (ap (λ (z : Effect). z.taken) y) ∙ is in cc);
      }
    ]
    go (inr (inl x)) = absurd (let no' : None ≡ Some w.number = sym (laws.session s st k m x) ∙ number in cc)
    go (inr (inr x)) =
        let one : Some x.w.number ≡ Some w.number = sym (laws.job s st k m x) ∙ number in
        let numbers : x.w.number ≡ w.number = cc in
        let same : x.w ≡ w = jobs.apart x.w w (find_member (λ (w : Work). w.slot == x.slot) st.works x.w x.runs).0 there numbers in
        subst (λ (v : Work). Acts v m) same (job_acts s st k m x)

-- a step begins no job, and is no crash
pub steps_begin_none : StepLaws → (s : SetUp) (st : State) (k : Look) (m : Effect) → step s st k ≡ Some m → is_begin m.kind ≡ false
steps_begin_none laws s st k m makes = go (laws.finds s st k m makes)
  where
    session : (h : Here) (doing : Doing) (asked : Option Message) (says : List FrameText) (kind : EntryKind) → IsSessionEntry h doing asked says kind → is_begin kind ≡ false
    session h doing asked says (Begin job what) x = absurd x
    session h doing asked says kind x = refl

    job : (t : Turn) (kind : EntryKind) → IsJobEntry t m kind → is_begin kind ≡ false
    job t (Begin j what) x = absurd x
    job t kind x = refl

    go : StepFound s st k m → is_begin m.kind ≡ false
    go (inl x) = elim (x.writes) [ inl y ↦ ap (λ (z : Effect). is_begin z.kind) y | inr y ↦ ap (λ (z : Effect). is_begin z.kind) y ]
    go (inr (inl x)) = session _ _ _ _ m.kind x.found
    go (inr (inr x)) = job (turn_of s st k x.w) m.kind x.found

-- ---- the frame that it takes is at hand at the end

among : (links : List EndView) (xs : List EndName) (f : FrameView) → Member f (flat_map (λ (b : EndName). option_to_list (hand_at links b)) xs)
    → (b : EndName) × (Member b xs) × (hand_at links b ≡ Some f)
among links [] f member = absurd member
among links (b ∷ xs) f member =
    go (hand_at links b) refl (Member-append_cases (option_to_list (hand_at links b)) (flat_map (λ (b : EndName). option_to_list (hand_at links b)) xs) f member) (λ m. among links xs f m)
  where
    go : (o : Option FrameView) → hand_at links b ≡ o → Member f (option_to_list o) ⊎ Member f (flat_map (λ (b : EndName). option_to_list (hand_at links b)) xs)
        → (Member f (flat_map (λ (b : EndName). option_to_list (hand_at links b)) xs) → (c : EndName) × (Member c xs) × (hand_at links c ≡ Some f))
        → (c : EndName) × (Member c (b ∷ xs)) × (hand_at links c ≡ Some f)
    go o is (inr later) more = let y = more later in (y.0, inr y.1, y.2)
    go None is (inl here') more = absurd here'
    go (Some g) is (inl (inl same)) more = (b, inl refl, is ∙ ap Some (sym same))
    go (Some g) is (inl (inr none)) more = absurd none

pub record IsHere (links : List EndView) (s : SetUp) (a : EndName) (f : FrameView) : Type 0 where
  pub listed : Member a (all_ends s)
  pub v : EndView
  pub link : link_at links a ≡ Some v
  pub x : Frame
  pub next : next_frame v ≡ Some x
  pub frame_is : frame_at a x ≡ f

pub taken_here : (links : List EndView) (s : SetUp) (a : EndName) (f : FrameView) → Member f (flat_map (λ (b : EndName). option_to_list (hand_at links b)) (all_ends s)) → takes_at a f ≡ true → IsHere links s a f
taken_here links s a f member comes =
    let b = among links (all_ends s) f member in
    let it = found b.0 (link_at links b.0) refl b.2 in
    let own : frame_at b.0 it.1 ≡ f = it.3 in
    let same : b.0 ≡ a = sym (end_own b.0 it.1) ∙ takes_end a (frame_at b.0 it.1) (subst (λ (h : FrameView). takes_at a h ≡ true) (sym own) comes) in
    subst (λ (c : EndName). IsHere links s c f) same (record { listed = b.1; v = it.0; link = it.4; x = it.1; next = it.2; frame_is = own })
  where
    next_at : (b : EndName) (v : EndView) (o : Option Frame) → next_frame v ≡ o → option_map (frame_at b) o ≡ Some f → (x : Frame) × (next_frame v ≡ Some x) × (frame_at b x ≡ f)
    next_at b v None is e = absurd (cc)
    next_at b v (Some x) is e = (x, is, (let same : frame_at b x ≡ f = cc in same))

    found : (b : EndName) (o : Option EndView) → link_at links b ≡ o → hand_at links b ≡ Some f → (v : EndView) × (x : Frame) × (next_frame v ≡ Some x) × (frame_at b x ≡ f) × (link_at links b ≡ Some v)
    found b None is e = absurd (let no' : None ≡ Some f = sym (ap (λ (o : Option EndView). option_map (frame_at b) (option_and_then next_frame o)) is) ∙ e in cc)
    found b (Some v) is e =
        let y = next_at b v (next_frame v) refl (sym (ap (λ (o : Option EndView). option_map (frame_at b) (option_and_then next_frame o)) is) ∙ e) in
        (v, y.0, y.1, y.2, is)
