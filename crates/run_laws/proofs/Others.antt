-- What an entry sends and takes, it sends to and takes from other repositories.
use Rattle.std.proofs.Common.{◌≡◌, ◌≢◌, ◌<◌, ◌^◌, ℕ, true, List, Option, Some, None, inl, inr, refl, sym, ◌∙◌, subst}
use Rattle.std.specs.Prelude.{length}
use Rattle.annex_base.specs.Lists.{Each, Member}
use Rattle.annex_base.specs.declared.kinds.Word.{Word}
use Rattle.annex_base.proofs.Lists.{Each-from_members}
use Rattle.run_data.specs.declared.entry.Entry.{Entry}
use Rattle.run_data.specs.declared.entry.FrameView.{FrameView}
use Rattle.run_data.specs.declared.run.Run.{Run}
use Rattle.run_data.specs.Repos.{IsSetUp}
use Rattle.run_model.specs.Past.{Occurs, is_of}
use Rattle.run_model.specs.Run.{OwnPart, OwnPast, RunPast, set_up}
use Rattle.run_model.specs.States.{state_of}
use Rattle.node_model.specs.Look.{Look, Effect, entry_of}
use Rattle.node_model.specs.SetUp.{SetUp}
use Rattle.node_model.specs.Step.{step}
use Rattle.past_facts.proofs.OwnRuns.{step_at, own_past, part_of}
use Rattle.step_facts.proofs.Below.{SentAreRead}
use Rattle.step_facts.proofs.Makers.{who}
use Rattle.job_facts.proofs.OpenEnds.{job_sends_to, job_takes_from}
use Rattle.job_facts.proofs.OwnTried.{other_apart}
use Rattle.run_laws.proofs.SessionOwn.{any_to, session_from, session_to, speaks}

module _ (reads_back : SentAreRead) (s : SetUp) (past : List Entry) (words : ℕ → Option Word) (e : Entry) (h : OwnPast s past) (part : OwnPart s past words e) where
  pub sent_to_others : Each (λ f. f.peer ≢ s.number) e.sent
  sent_to_others = Each-from_members (λ f. f.peer ≢ s.number) e.sent sent
    where
      sent : (g : FrameView) → Member g e.sent → g.peer ≢ s.number
      sent g m = elim (who s past words e part) [
        | inl x ↦ elim (x.2) [
          | inl none ↦ absurd (subst (Member g) none m)
          | inr any ↦ any_to s past e any g m
        ]
        | inr x ↦ elim (x) [
          | inl y ↦ session_to s e (speaks s past e y.1) g m
          | inr y ↦ other_apart s g.peer (job_sends_to reads_back s past words e h.run part y g m)
        ]
      ]

  pub taken_from_others : (f : FrameView) → e.taken ≡ Some f → f.peer ≢ s.number
  taken_from_others f took = elim (who s past words e part) [
    | inl x ↦ absurd (let no' : None ≡ Some f = sym x.1.takes_none ∙ took in cc)
    | inr x ↦ elim (x) [
      | inl y ↦ session_from s e (speaks s past e y.1) f took
      | inr y ↦ other_apart s f.peer (job_takes_from reads_back s past words e h.run part y f took)
    ]
  ]

-- ---- of a run

module _ (reads_back : SentAreRead) (run : Run) (repos : Each IsSetUp run.repos) (past : List Entry) (h : RunPast (set_up run) past) where
  module _ (e : Entry) (before : List Entry) (r : ℕ) (occurs : Occurs past e before) (is : is_of r e ≡ true) where
    pub run_sends : Each (λ f. f.peer ≢ r) e.sent
    run_sends =
        let at = step_at run past e before h occurs in
        let part = part_of (set_up run) before e r at.0 is in
        sent_to_others reads_back (set_up run r) before part.words e (own_past run repos r before at.1) part.own

    pub run_takes : (f : FrameView) → e.taken ≡ Some f → f.peer ≢ r
    run_takes f took =
        let at = step_at run past e before h occurs in
        let part = part_of (set_up run) before e r at.0 is in
        taken_from_others reads_back (set_up run r) before part.words e (own_past run repos r before at.1) part.own f took

  -- a step that may be made now
  module _ (r : ℕ) (k : Look) (m : Effect) (known : r < length run.repos) (small : k.part < 2 ^ 62) (makes : step (set_up run r) (state_of (set_up run r) past) k ≡ Some m) where
    own : OwnPart (set_up run r) past k.words (entry_of r k m)
    own = record { known = known; does = inl (record { look = k; made = m; makes = makes; is = refl; words_are = refl; part_small = small }) }

    pub step_sends : Each (λ f. f.peer ≢ r) m.sent
    step_sends = sent_to_others reads_back (set_up run r) past k.words (entry_of r k m) (own_past run repos r past h) own

    pub step_takes : (f : FrameView) → m.taken ≡ Some f → f.peer ≢ r
    step_takes f took = taken_from_others reads_back (set_up run r) past k.words (entry_of r k m) (own_past run repos r past h) own f took
