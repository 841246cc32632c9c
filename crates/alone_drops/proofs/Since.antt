-- The entries since a drop began that runs alone: which there are, whose jobs run, and who made each.
use Rattle.std.proofs.Common.{◌≡◌, ◌≢◌, ℕ, Bool, true, false, List, [], ◌∷◌, ◌++◌, Option, None, ◌⊎◌, inl, inr, refl, sym, ap, ◌∙◌, subst}
use Rattle.annex_base.specs.Lists.{Member}
use Rattle.annex_base.specs.declared.kinds.Word.{Word}
use Rattle.run_data.specs.declared.entry.Entry.{Entry}
use Rattle.run_data.specs.declared.entry.EntryKind.{EntryKind}
use Rattle.run_data.specs.declared.entry.EntryKind.TheVariants.{Begin, Gain, Log, Compact, Close, Crash, Wait, Fault, End as ends_job}
use Rattle.run_data.specs.declared.entry.FrameView.{FrameView}
use Rattle.run_data.specs.declared.entry.LogFile.{LogFile}
use Rattle.run_data.specs.declared.entry.LogFile.TheVariants.{Location}
use Rattle.run_data.specs.declared.job.Job.{Job}
use Rattle.run_data.specs.declared.run.Run.{Run}
use Rattle.node_model.specs.AnyTime.{MayBegin, MayCome}
use Rattle.node_model.specs.Found.{IsJobEntry, IsSessionEntry}
use Rattle.node_model.specs.Jobs.{Work, running_job}
use Rattle.node_model.specs.Look.{Effect}
use Rattle.node_model.specs.SetUp.{SetUp, served_connections}
use Rattle.node_model.specs.Slots.{RunningJob}
use Rattle.node_model.specs.State.{State}
use Rattle.run_model.specs.Past.{Occurs, is_of, jobs, jobs_after}
use Rattle.run_model.specs.Run.{IsStep, OwnPart, RunPast, RunStep, set_up}
use Rattle.run_model.specs.States.{owes, state_of, works}
use Rattle.past_facts.proofs.Changes.{same_repo}
use Rattle.step_facts.proofs.JobKept.{jobs_are}
use Rattle.step_facts.proofs.JobSteps.{Stepped, step_made, stepped_runs}
use Rattle.node_model.specs.Ends.{server_end}
use Rattle.node_model.specs.SessionStep.{session_at}
use Rattle.annex_base.proofs.Options.{first_some-was}
use Rattle.std.proofs.lemmas.Bool.{true≢false}
use Rattle.step_facts.proofs.ServerEnds.{BySessionAt, session_here}
use Rattle.step_facts.proofs.StepFacts.{pays_found, step_found}
use Rattle.step_facts.proofs.WorkNumbers.{running_member}
use Rattle.alone_drops.specs.Alone.{IsAtRest}

-- an entry that no drop alone is disturbed by: of its own steps, of sessions', and of lines that are owed
abbrev pub is_calm : EntryKind → Bool
is_calm (Begin job what) = false
is_calm (ends_job job outcome) = false
is_calm (Close peer slot client) = false
is_calm (Crash clock) = false
is_calm (Wait ms) = false
is_calm (Fault call by) = false
is_calm (Gain source size key) = false
is_calm (Compact file) = false
is_calm kind = true

pub record IsCalm (run : Run) (past : List Entry) (e : Entry) : Type 0 where
  pub kind : is_calm e.kind ≡ true
  pub owed : (r : ℕ) (file : LogFile) → is_of r e ≡ true → e.kind ≡ Log file → owes run.repos past r ≢ []

-- each of these entries, the newest first, came while the drop ran alone
abbrev pub Since : Run → List Entry → List Entry → Type 0
Since run base [] = Unit {0}
Since run base (e ∷ xs) = IsCalm run (xs ++ base) e × Since run base xs

-- an entry is one of them
pub record Later (run : Run) (base : List Entry) (x : Entry) (before : List Entry) : Type 0 where
  pub ys : List Entry
  pub before_is : before ≡ ys ++ base
  pub since : Since run base ys
  pub calm : IsCalm run (ys ++ base) x
  pub step : RunStep (set_up run) (ys ++ base) x
  pub steps : RunPast (set_up run) (ys ++ base)

pub split : (run : Run) (base xs : List Entry) → RunPast (set_up run) (xs ++ base) → Since run base xs → (x : Entry) (before : List Entry) → Occurs (xs ++ base) x before → Occurs base x before ⊎ Later run base x before
split run base [] h t x before o = inl o
split run base (e ∷ xs) h t x before (inl o) = inr (record {
  ys = xs;
  before_is = o.1;
  since = t.1;
  calm = subst (IsCalm run (xs ++ base)) (sym o.0) t.0;
  step = subst (RunStep (set_up run) (xs ++ base)) (sym o.0) h.0;
  steps = h.1;
})
split run base (e ∷ xs) h t x before (inr o) = split run base xs h.1 t.1 x before o

-- ---- how it begins

pub record Quietly (s : SetUp) (past : List Entry) (e : Entry) (j : ℕ) (what : Job) : Type 0 where
  pub takes_none : e.taken ≡ None
  pub sends_none : e.sent ≡ []
  pub may : MayBegin s (state_of s past) j what

pub begins_quietly : (s : SetUp) (past : List Entry) (words : ℕ → Option Word) (e : Entry) → OwnPart s past words e → (j : ℕ) (what : Job) → e.kind ≡ Begin j what → Quietly s past e j what
begins_quietly s past words e own j what is = elim (own.does) [
  | inl x ↦ absurd (no_step x)
  | inr x ↦ (let m = subst (MayCome s (state_of s past) e.lines e.sent) is x.may in record { takes_none = x.takes_none; sends_none = m.2; may = m.0 })
]
  where
    no_step : IsStep s past words e → ⊥
    no_step x = elim (step_found s (state_of s past) x.look x.made x.makes) [
      | inl o ↦ elim (o.writes) [
        | inl w ↦ (let bad : Begin j what ≡ Log (Location o.first.key) = sym kind ∙ ap (λ (m : Effect). m.kind) w in cc)
        | inr w ↦ (let bad : Begin j what ≡ Fault _ o.first.by = sym kind ∙ ap (λ (m : Effect). m.kind) w in cc)
      ]
      | inr y ↦ elim y [
        | inl g ↦ subst (IsSessionEntry _ _ g.asked g.says) kind g.found
        | inr g ↦ subst (IsJobEntry _ x.made) kind g.found
      ]
    ]
      where
        kind : x.made.kind ≡ Begin j what
        kind = sym (ap (λ (y : Entry). y.kind) x.is) ∙ is

-- what stood as job j of a began
pub record Beginning (run : Run) (past : List Entry) (b : Entry) (a j : ℕ) (what : Job) : Type 0 where
  pub by_a : is_of a b ≡ true
  pub kind_is : b.kind ≡ Begin j what
  pub idle : (r : ℕ) → jobs past r ≡ []
  pub rest : IsAtRest run past

-- ---- which jobs run

same_jobs : (js : List RunningJob) (kind : EntryKind) (x : RunningJob) → is_calm kind ≡ true → Member x (jobs_after js kind) → Member x js
same_jobs js (Begin job what) x u m = absurd (cc)
same_jobs js (ends_job job outcome) x u m = absurd (cc)
same_jobs js (Crash clock) x u m = absurd (cc)
same_jobs js kind x u m = m

module _ (run : Run) (past : List Entry) (b : Entry) (a j : ℕ) (what : Job) (z : Beginning run past b a j what) where
  abbrev pub base : List Entry
  base = b ∷ past

  pub record IsIt (c : ℕ) (x : RunningJob) : Type 0 where
    pub at : c ≡ a
    pub number_is : x.number ≡ j
    pub what_is : x.what ≡ what

  base_jobs : (c : ℕ) (x : RunningJob) → Member x (jobs base c) → IsIt c x
  base_jobs c x m = go (is_of c b) refl
    where
      new : is_of c b ≡ true → Member x (jobs_after (jobs past c) (Begin j what)) → IsIt c x
      new is (inl same) = record { at = same_repo b c a is z.by_a; number_is = ap (λ (y : RunningJob). y.number) same; what_is = ap (λ (y : RunningJob). y.what) same }
      new is (inr old) = absurd (subst (Member x) (z.idle c) old)

      go : (t : Bool) → is_of c b ≡ t → IsIt c x
      go true is = new is (subst (λ k. Member x (jobs_after (jobs past c) k)) z.kind_is (rw is at m))
      go false is = absurd (let n : Member x (jobs past c) = rw is at m in subst (Member x) (z.idle c) n)

  pub jobs_since : (xs : List Entry) → Since run base xs → (c : ℕ) (x : RunningJob) → Member x (jobs (xs ++ base) c) → IsIt c x
  jobs_since [] t c x m = base_jobs c x m
  jobs_since (e ∷ xs) t c x m = jobs_since xs t.1 c x (go (is_of c e) refl)
    where
      go : (q : Bool) → is_of c e ≡ q → Member x (jobs (xs ++ base) c)
      go true is = same_jobs (jobs (xs ++ base) c) e.kind x t.0.kind (rw is at m)
      go false is = rw is at m

  pub works_since : (xs : List Entry) → Since run base xs → (c : ℕ) (w : Work) → Member w (works (xs ++ base) c) → IsIt c (running_job w)
  works_since xs t c w m = jobs_since xs t c (running_job w) (subst (Member (running_job w)) (jobs_are (xs ++ base) c) (running_member (works (xs ++ base) c) w m))

  pub stepped_since : (xs : List Entry) → Since run base xs → (c : ℕ) (e : Entry) (x : Stepped (set_up run c) (xs ++ base) e) → IsIt c (running_job x.w)
  stepped_since xs t c e x = works_since xs t c x.w (stepped_runs (set_up run c) (xs ++ base) e x)

-- ---- who makes an entry

-- a line is added
pub record AddsLine (e : Entry) : Type 0 where
  pub file : LogFile
  pub kind_is : e.kind ≡ Log file
  pub takes_none : e.taken ≡ None
  pub sends_none : e.sent ≡ []

come_calm : (s : SetUp) (st : State) (lines : List (List ℕ)) (sent : List FrameView) (kind : EntryKind) → MayCome s st lines sent kind → is_calm kind ≡ true → (file : LogFile) × (kind ≡ Log file) × (sent ≡ [])
come_calm s st lines sent (Log file) x u = (file, refl, x.1)
come_calm s st lines sent (Begin job what) x u = absurd (cc)
come_calm s st lines sent (Gain source size key) x u = absurd (cc)
come_calm s st lines sent (Compact file) x u = absurd (cc)
come_calm s st lines sent (Close peer slot client) x u = absurd (cc)
come_calm s st lines sent (Crash clock) x u = absurd (cc)
come_calm s st lines sent (Fault call by) x u = absurd (cc)
come_calm s st lines sent kind x u = absurd x

-- a line is added, or a session makes it, or a job
pub calm_who : (s : SetUp) (past : List Entry) (words : ℕ → Option Word) (e : Entry) → OwnPart s past words e → is_calm e.kind ≡ true → AddsLine e ⊎ (BySessionAt s past e ⊎ Stepped s past e)
calm_who s past words e own u = elim (own.does) [
  | inr x ↦ (let k = come_calm s (state_of s past) e.lines e.sent e.kind x.may u in inl (record { file = k.0; kind_is = k.1; takes_none = x.takes_none; sends_none = k.2 }))
  | inl x ↦ steps x
]
  where
    steps : IsStep s past words e → AddsLine e ⊎ (BySessionAt s past e ⊎ Stepped s past e)
    steps x = elim (step_made s past words e x) [
      | inl o ↦ inl (elim ((pays_found s (state_of s past) x.look x.made (state_of s past).owed refl o).writes) [
        | inl w ↦ record {
          file = _;
          kind_is = ap (λ (q : Entry). q.kind) x.is ∙ ap (λ (m : Effect). m.kind) w;
          takes_none = ap (λ (q : Entry). q.taken) x.is ∙ ap (λ (m : Effect). m.taken) w;
          sends_none = ap (λ (q : Entry). q.sent) x.is ∙ ap (λ (m : Effect). m.sent) w;
        }
        | inr w ↦ absurd (true≢false (sym u ∙ ap is_calm (ap (λ (q : Entry). q.kind) x.is ∙ ap (λ (m : Effect). m.kind) w)))
      ])
      | inr r ↦ inr (elim r [
        | inl g ↦ (let w = first_some-was (λ (c : ℕ × ℕ). session_at s (state_of s past) x.look (server_end c.0 c.1)) (served_connections s) x.made g in
            inl (subst (BySessionAt s past) (sym x.is) (w.0.0, w.0.1, w.1, session_here s past x.look x.part_small (server_end w.0.0 w.0.1) x.made w.2)))
        | inr y ↦ inr y
      ])
    ]
