-- Who made an own entry: nobody, but that ends are closed; a session; or a job. And who takes a frame.
use Rattle.std.proofs.Common.{◌≡◌, ℕ, true, false, List, [], Option, Some, None, ◌⊎◌, inl, inr, refl, sym, ap, ◌∙◌, subst}
use Rattle.std.proofs.lemmas.Bool.{true≢false}
use Rattle.std.proofs.lemmas.Option.{same_Some}
use Rattle.annex_base.specs.Lists.{Member}
use Rattle.run_data.specs.declared.entry.FrameView.{FrameView}
use Rattle.node_model.specs.Ends.{may_take, takes_at, server_end}
use Rattle.run_model.specs.States.{end_at, state_of, works}
use Rattle.node_model.specs.Found.{JobTakes}
use Rattle.node_model.specs.Turns.{is_awaiting}
use Rattle.annex_base.specs.declared.kinds.Word.{Word}
use Rattle.annex_base.proofs.Options.{first_some-was}
use Rattle.run_data.specs.declared.entry.Entry.{Entry}
use Rattle.node_model.specs.SetUp.{SetUp, served_connections}
use Rattle.node_model.specs.SessionStep.{here, session_at, session_step}
use Rattle.node_model.specs.Jobs.{Work, job_end, partner}
use Rattle.node_model.specs.OwedStep.{owed_step}
use Rattle.node_model.specs.Look.{Effect}
use Rattle.run_model.specs.Run.{ComesAnyTime, IsStep, OwnPart}
use Rattle.step_facts.proofs.SessionFacts.{session_found}
use Rattle.step_facts.proofs.StepFacts.{pays_found}
use Rattle.step_facts.proofs.ServerEnds.{BySessionAt, GivesHere, TakesHere, session_here}
use Rattle.step_facts.proofs.EndEpochs.{SpeaksAlone, come_well, owed_speaks}
use Rattle.step_facts.proofs.JobSteps.{OfNoJob, Stepped, come_no_job, owed_no_job, session_no_job, step_made, stepped_found, stepped_runs, turn_at}
use Rattle.step_facts.proofs.AnswerFacts.{end_takes_from}

-- nobody, but that ends are closed; a session; a job
abbrev pub Who : SetUp → List Entry → Entry → Type 0
Who s past e = (OfNoJob e.kind × SpeaksAlone s past e × ((e.sent ≡ []) ⊎ ComesAnyTime s past e)) ⊎ ((OfNoJob e.kind × BySessionAt s past e) ⊎ Stepped s past e)

pub who : (s : SetUp) (past : List Entry) (words : ℕ → Option Word) (e : Entry) → OwnPart s past words e → Who s past e
who s past words e own = elim (own.does) [
  | inl x ↦ steps x
  | inr x ↦ inl (come_no_job s past e.lines e.sent e.kind x.may, record { takes_none = x.takes_none; well = come_well s past e.lines e.sent e.kind x.may }, inr x)
]
  where
    kind_of : (x : IsStep s past words e) → OfNoJob x.made.kind → OfNoJob e.kind
    kind_of x none = subst (λ (y : Entry). OfNoJob y.kind) (sym x.is) none

    silent : (x : IsStep s past words e) → owed_step s (state_of s past) x.look ≡ Some x.made → e.sent ≡ []
    silent x o = ap (λ (y : Entry). y.sent) x.is ∙ elim ((pays_found s (state_of s past) x.look x.made (state_of s past).owed refl o).writes) [
      | inl w ↦ ap (λ (y : Effect). y.sent) w
      | inr w ↦ ap (λ (y : Effect). y.sent) w
    ]

    by_session : (x : IsStep s past words e) → session_step s (state_of s past) x.look ≡ Some x.made → OfNoJob e.kind × BySessionAt s past e
    by_session x g =
        let y = session_found s (state_of s past) x.look x.made g in
        let w = first_some-was (λ (c : ℕ × ℕ). session_at s (state_of s past) x.look (server_end c.0 c.1)) (served_connections s) x.made g in (
          kind_of x (session_no_job (here s (state_of s past) x.look (server_end y.peer y.slot)) ((state_of s past).sessions (server_end y.peer y.slot)).doing y.asked y.says x.made.kind y.found),
          subst (BySessionAt s past) (sym x.is) (w.0.0, w.0.1, w.1, session_here s past x.look x.part_small (server_end w.0.0 w.0.1) x.made w.2),
        )

    steps : (x : IsStep s past words e) → Who s past e
    steps x = elim (step_made s past words e x) [
      | inl o ↦ inl (kind_of x (owed_no_job s past x.look x.made o), subst (SpeaksAlone s past) (sym x.is) (owed_speaks s past x.look x.made (state_of s past).owed o), inl (silent x o))
      | inr r ↦ inr (elim r [ inl g ↦ inl (by_session x g) | inr y ↦ inr y ])
    ]

-- ---- who takes a frame

-- what a session takes comes up
pub session_takes_up : (s : SetUp) (past : List Entry) (e : Entry) (p q : ℕ) → TakesHere s past (server_end p q) e ⊎ GivesHere s past (server_end p q) e → (f : FrameView) → e.taken ≡ Some f → f.up ≡ true
session_takes_up s past e p q (inl y) f took =
    let same : f ≡ y.f = same_Some f y.f (sym took ∙ y.taken_is) in
    ap (λ (g : FrameView). g.up) same ∙ (end_takes_from p q y.f y.of_end).2
session_takes_up s past e p q (inr y) f took = absurd (let bad : None ≡ Some f = sym y.taken_is ∙ took in cc)

-- a frame from a server is taken by a job's step
pub taker : (s : SetUp) (past : List Entry) (words : ℕ → Option Word) (e : Entry) → OwnPart s past words e → (f : FrameView) → e.taken ≡ Some f → f.up ≡ false → Stepped s past e
taker s past words e own f took down = elim (who s past words e own) [
  | inl x ↦ absurd (let bad : None ≡ Some f = sym x.1.takes_none ∙ took in cc)
  | inr x ↦ elim x [ inl y ↦ absurd (true≢false (sym (session_takes_up s past e y.1.0 y.1.1 y.1.3 f took) ∙ down)) | inr z ↦ z ]
]

-- the job that takes the frame, and where it stands
pub record TakenBy (s : SetUp) (past : List Entry) (e : Entry) (f : FrameView) : Type 0 where
  pub w : Work
  pub ran : Member w (works past s.number)
  pub peer : ℕ
  pub on : partner w.what.peer w.phase ≡ Some peer
  pub awaiting : is_awaiting w.phase ≡ true
  pub opened : (end_at past s.number (job_end w peer)).opened ≡ true
  pub of_end : takes_at (job_end w peer) f ≡ true
  pub may : may_take (end_at past s.number (job_end w peer)) f ≡ true

pub stepped_takes : (s : SetUp) (past : List Entry) (e : Entry) (x : Stepped s past e) (f : FrameView) → e.taken ≡ Some f → (k : JobTakes (turn_at s past e x) x.made) × (k.f ≡ f)
stepped_takes s past e x f took = elim ((stepped_found s past e x).frame) [
  | inl none ↦ absurd (let bad : None ≡ Some f = sym none ∙ made_took in cc)
  | inr k ↦ (k, same_Some k.f f (sym k.taken_is ∙ made_took))
]
  where
    made_took : x.made.taken ≡ Some f
    made_took = sym (ap (λ (y : Entry). y.taken) x.is) ∙ took

-- the job that made the entry took its frame
abbrev pub taken_of : (s : SetUp) (past : List Entry) (e : Entry) (x : Stepped s past e) (f : FrameView) → e.taken ≡ Some f → TakenBy s past e f
taken_of s past e x f took =
    let k = stepped_takes s past e x f took in
    record {
      w = x.w;
      ran = stepped_runs s past e x;
      peer = k.0.peer;
      on = k.0.partner_is;
      awaiting = k.0.awaits;
      opened = k.0.opened;
      of_end = subst (λ (g : FrameView). takes_at (job_end x.w k.0.peer) g ≡ true) k.1 k.0.of_end;
      may = subst (λ (g : FrameView). may_take (end_at past s.number (job_end x.w k.0.peer)) g ≡ true) k.1 k.0.may;
    }
