-- Over a repository's own part of a run, each running job's phase is one of its part, and its own steps move it as its part allows.
use Rattle.std.proofs.Common.{◌≡◌, ◌≢◌, ℕ, true, List, [], ◌∷◌, Option, Some, None, inl, inr, refl, sym, ap, ◌∙◌, subst}
use Rattle.annex_base.specs.Lists.{Member}
use Rattle.run_data.specs.declared.entry.By.{By}
use Rattle.run_data.specs.declared.entry.Entry.{Entry}
use Rattle.run_data.specs.declared.entry.EntryKind.{EntryKind}
use Rattle.run_data.specs.declared.entry.EntryKind.TheVariants.{Gain, Share, Bar, Gone, Order, Talk, Fault, End as ends_job}
use Rattle.run_data.specs.declared.entry.FrameView.{FrameView}
use Rattle.run_data.specs.declared.entry.FrameText.{FrameText}
use Rattle.run_data.specs.declared.entry.FrameText.TheVariants.{Opening, Closing, Bytes, Line}
use Rattle.run_data.specs.declared.job.Outcome.{Outcome}
use Rattle.node_model.specs.Slots.{RunningJob}
use Rattle.run_model.specs.Past.{is_of}
use Rattle.step_facts.proofs.JobKept.{kind_kept}
use Rattle.p2p_wire.specs.declared.message.Message.{Message}
use Rattle.p2p_wire.specs.declared.message.Message.TheVariants.{CheckPresent, Data, Failure, Get, GetTimestamp, LockContent, Put, Remove, RemoveBefore, Success, Valid, Version}
use Rattle.p2p_wire.specs.Messages.{message_of, text_of, order_of}
use Rattle.node_model.specs.SetUp.{SetUp}
use Rattle.run_model.specs.States.{state_of, rows_at, works}
use Rattle.node_model.specs.Jobs.{AsksLock, Drops, Gets, Greets, Next, Opens, Part, Phase, Puts, Work, running_job}
use Rattle.node_model.specs.Look.{Effect}
use Rattle.node_model.specs.JobStep.{Turn}
use Rattle.run_model.specs.Run.{OwnRun}
use Rattle.node_model.specs.Found.{IsJobEntry}
use Rattle.job_facts.proofs.ReadAs.{IsJobs, ReadsAs, SameHead, reads_as}
use Rattle.job_facts.proofs.TalkFacts.{DropAsks, Fits, GetAsks, PartAsks, PartSays, PutAsks, TalkKind, slot_talks}
use Rattle.job_facts.proofs.PhaseFacts.{BodyReads, Good, GoodTo, PartReads, SentReads, kind_good, only_word}
use Rattle.step_facts.proofs.JobSteps.{Origin, Steps, invariant, stepped_found, stepped_runs, turn_at}

-- ---- what it says, as it is read

abbrev pub IsDropMessage : Message → Type 0
IsDropMessage (Version n) = Unit {0}
IsDropMessage (LockContent key) = Unit {0}
IsDropMessage (CheckPresent key) = Unit {0}
IsDropMessage GetTimestamp = Unit {0}
IsDropMessage (Remove key) = Unit {0}
IsDropMessage (RemoveBefore n key) = Unit {0}
IsDropMessage m = ⊥

pub drop_is : (t : Turn) (peer : ℕ) (phase : Phase) (m : Message) → DropAsks t peer phase m → IsDropMessage m
drop_is t peer (Opens p) (Version n) a = tt
drop_is t peer (Greets p) (LockContent key) a = tt
drop_is t peer (Greets p) GetTimestamp a = tt
drop_is t peer Next (LockContent key) a = tt
drop_is t peer Next GetTimestamp a = tt
drop_is t peer (AsksLock p since) (CheckPresent key) a = tt
drop_is t peer phase m a = absurd a

drop_reads : (m x : Message) → IsDropMessage m → SameHead m x → PartReads Drops x
drop_reads (Version n) (Version k) a h = tt
drop_reads (LockContent key) (LockContent k) a h = tt
drop_reads (CheckPresent key) (CheckPresent k) a h = tt
drop_reads GetTimestamp GetTimestamp a h = tt
drop_reads (Remove key) (Remove k) a h = tt
drop_reads (RemoveBefore n key) (RemoveBefore k q) a h = tt
drop_reads (Version n) x a h = absurd h
drop_reads (LockContent key) x a h = absurd h
drop_reads (CheckPresent key) x a h = absurd h
drop_reads GetTimestamp x a h = absurd h
drop_reads (Remove key) x a h = absurd h
drop_reads (RemoveBefore n key) x a h = absurd h
drop_reads m x a h = absurd a

get_reads : (m x : Message) → GetAsks m → SameHead m x → PartReads Gets x
get_reads (Version n) (Version k) a h = tt
get_reads (Get n file key) (Get k f q) a h = tt
get_reads Failure Failure a h = tt
get_reads (Version n) x a h = absurd h
get_reads (Get n file key) x a h = absurd h
get_reads Failure x a h = absurd h
get_reads m x a h = absurd a

put_reads : (m x : Message) → PutAsks m → SameHead m x → PartReads Puts x
put_reads (Version n) (Version k) a h = tt
put_reads (Put file key) (Put f q) a h = tt
put_reads (Data n) (Data k) a h = tt
put_reads Valid Valid a h = tt
put_reads (Version n) x a h = absurd h
put_reads (Put file key) x a h = absurd h
put_reads (Data n) x a h = absurd h
put_reads Valid x a h = absurd h
put_reads m x a h = absurd a

pub drop_jobs : (m : Message) → IsDropMessage m → IsJobs m
drop_jobs (Version n) a = tt
drop_jobs (LockContent key) a = tt
drop_jobs (CheckPresent key) a = tt
drop_jobs GetTimestamp a = tt
drop_jobs (Remove key) a = tt
drop_jobs (RemoveBefore n key) a = tt
drop_jobs m a = absurd a

pub get_jobs : (m : Message) → GetAsks m → IsJobs m
get_jobs (Version n) a = tt
get_jobs (Get n file key) a = tt
get_jobs Failure a = tt
get_jobs m a = absurd a

pub put_jobs : (m : Message) → PutAsks m → IsJobs m
put_jobs (Version n) a = tt
put_jobs (Put file key) a = tt
put_jobs (Data n) a = tt
put_jobs Valid a = tt
put_jobs m a = absurd a

-- as what it is read
pub head_of : (m x : Message) → IsJobs m → message_of (text_of m) ≡ Some x → SameHead m x
head_of m x jobs e = subst (ReadsAs m) e (reads_as m jobs)

asks_reads : (t : Turn) (peer : ℕ) (part : Part) (m x : Message) → PartAsks t peer part m → message_of (text_of m) ≡ Some x → PartReads part x
asks_reads t peer Gets m x a e = get_reads m x a (head_of m x (get_jobs m a) e)
asks_reads t peer Puts m x a e = put_reads m x a (head_of m x (put_jobs m a) e)
asks_reads t peer Drops m x a e = let is = drop_is t peer t.w.phase m a in drop_reads m x is (head_of m x (drop_jobs m is) e)

pub body_reads : (t : Turn) (peer : ℕ) (part : Part) (body : FrameText) → PartSays t peer part body → BodyReads part body
body_reads t peer part Opening says = tt
body_reads t peer part Closing says = tt
body_reads t peer part (Bytes n) says = tt
body_reads t peer part (Line text) says = λ x e. asks_reads t peer part says.0 x says.2 (ap message_of (sym says.1) ∙ e)

order_reads : (deadline : Option ℕ) (key : List ℕ) → BodyReads Drops (Line (text_of (order_of deadline key)))
order_reads None key x e = drop_reads (Remove key) x tt (head_of (Remove key) x tt e)
order_reads (Some n) key x e = drop_reads (RemoveBefore n key) x tt (head_of (RemoveBefore n key) x tt e)

none_reads : (part : Part) (sent : List FrameView) → sent ≡ [] → SentReads part sent
none_reads part sent is = subst (SentReads part) (sym is) tt

-- what a job's step sends is of its part
sent_reads : (t : Turn) (m : Effect) (kind : EntryKind) → IsJobEntry t m kind → TalkKind t m kind → Fits t.w.part t.w.phase → ((j : ℕ) (outcome : Outcome) → kind ≢ ends_job j outcome) → SentReads t.w.part m.sent
sent_reads t m (Share hold end by key) x y fits goes_on = none_reads t.w.part m.sent x.sends_none
sent_reads t m (Bar j need key) x y fits goes_on = none_reads t.w.part m.sent x.sends_none
sent_reads t m (Gone by key) x y fits goes_on = none_reads t.w.part m.sent x.sends_none
sent_reads t m (Order j peer deadline need key) x y fits goes_on =
    subst (SentReads t.w.part) (sym x.sent_is) (subst (λ p. BodyReads p (Line (text_of (order_of deadline key)))) (sym x.part_is) (order_reads deadline key))
sent_reads t m (Gain by size key) x y fits goes_on =
    let part : t.w.part ≡ Gets = only_word t.w.part x.peer x.start size (subst (Fits t.w.part) x.phase_is fits) in
    subst (SentReads t.w.part) (sym x.sent_is) (subst (λ p. BodyReads p (Line (text_of Success))) (sym part) (λ q e. success q (head_of Success q tt e)))
  where
    success : (q : Message) → SameHead Success q → PartReads Gets q
    success Success h = tt
    success q h = absurd h
sent_reads t m (ends_job j outcome) x y fits goes_on = absurd (goes_on j outcome refl)
sent_reads t m (Talk (Some j)) x y fits goes_on = elim (y.says) [
  | inl none ↦ none_reads t.w.part m.sent none
  | inr one ↦ subst (SentReads t.w.part) (sym one.sent_is) (body_reads t one.peer t.w.part one.body one.says)
]
sent_reads t m (Fault call by) x y fits goes_on = none_reads t.w.part m.sent x.1
sent_reads t m kind x y fits goes_on = absurd x

removes_drops : (t : Turn) (m : Effect) (kind : EntryKind) → IsJobEntry t m kind → (source : By) (key : List ℕ) → kind ≡ Gone source key → t.w.part ≡ Drops
removes_drops t m (Gone by key) x source k is = x.part_is
removes_drops t m (Share hold end by key) x source k is = absurd (cc)
removes_drops t m (Bar j need key) x source k is = absurd (cc)
removes_drops t m (Order j peer deadline need key) x source k is = absurd (cc)
removes_drops t m (Gain by size key) x source k is = absurd (cc)
removes_drops t m (ends_job j outcome) x source k is = absurd (cc)
removes_drops t m (Talk (Some j)) x source k is = absurd (cc)
removes_drops t m (Fault call by) x source k is = absurd (cc)
removes_drops t m kind x source k is = absurd x

-- ---- the steps of a job

module _ (s : SetUp) (past : List Entry) (e : Entry) (w : Work) (x : Steps s past e w) where
  same_kind : e.kind ≡ x.by.made.kind
  same_kind = ap (λ (y : Entry). y.kind) x.by.is

  -- what it found, in terms of the entry's kind
  pub step_kind : IsJobEntry (turn_at s past e x.by) x.by.made e.kind
  step_kind = subst (IsJobEntry (turn_at s past e x.by) x.by.made) (sym same_kind) (stepped_found s past e x.by).found

  pub step_talk : Fits x.by.w.part x.by.w.phase → TalkKind (turn_at s past e x.by) x.by.made e.kind
  step_talk fits = subst (TalkKind (turn_at s past e x.by) x.by.made) (sym same_kind) (slot_talks s (state_of s past) x.by.look x.by.made x.by.w fits x.by.does)

  pub step_sent : e.sent ≡ x.by.made.sent
  step_sent = ap (λ (y : Entry). y.sent) x.by.is

  pub steps_read : Fits x.by.w.part x.by.w.phase → SentReads x.by.w.part e.sent
  steps_read fits = subst (SentReads x.by.w.part) (sym step_sent) (sent_reads (turn_at s past e x.by) x.by.made e.kind step_kind (step_talk fits) fits x.goes_on)

  pub steps_good : Fits x.by.w.part x.by.w.phase → Good x.by.w w
  steps_good fits =
      let reads = steps_read fits in
      subst (Good x.by.w) (sym x.work_is) (kind_good (rows_at past s.number) s.number x.by.w e e.kind fits reads (removes_drops (turn_at s past e x.by) x.by.made e.kind step_kind))

  pub step_number : w.number ≡ x.by.w.number
  step_number = ap (λ (y : Work). y.number) x.work_is ∙ ap (λ (j : RunningJob). j.number) (kind_kept (rows_at past s.number) s.number x.by.w e e.kind)

  -- it is the same job
  pub step_running : running_job w ≡ running_job x.by.w
  step_running = ap running_job x.work_is ∙ kind_kept (rows_at past s.number) s.number x.by.w e e.kind

  pub step_what : w.what ≡ x.by.w.what
  step_what = ap (λ (j : RunningJob). j.what) step_running

  pub step_runs : Member x.by.w (works past s.number)
  step_runs = stepped_runs s past e x.by

pub good_fits : (part : Part) (old : Phase) (to : Part) (phase : Phase) → GoodTo part old to phase → Fits to phase
good_fits Gets old Gets phase g = g.0
good_fits Gets old Puts phase g = absurd g
good_fits Gets old Drops phase g = subst (Fits Drops) (sym g) tt
good_fits Puts old Gets phase g = absurd g
good_fits Puts old Puts phase g = g.0
good_fits Puts old Drops phase g = subst (Fits Drops) (sym g) tt
good_fits Drops old Gets phase g = absurd g
good_fits Drops old Puts phase g = absurd g
good_fits Drops old Drops phase g = g.0

-- what the job has before a step, it has after it
pub drops_stay : (part : Part) (old : Phase) (to : Part) (phase : Phase) → GoodTo part old to phase → part ≡ Drops → to ≡ Drops
drops_stay Drops old Drops phase g is = refl
drops_stay Drops old Gets phase g is = absurd g
drops_stay Drops old Puts phase g is = absurd g
drops_stay Gets old to phase g is = absurd (cc)
drops_stay Puts old to phase g is = absurd (cc)

-- each running job's phase is one of its part
pub works_fit : (s : SetUp) (past : List Entry) → OwnRun s past → (w : Work) → Member w (works past s.number) → Fits w.part w.phase
works_fit s past run w m = invariant s (λ p x. Fits x.part x.phase) (λ p e is x n fits. fits) own past run w m
  where
    own : (p : List Entry) (e : Entry) → OwnRun s (e ∷ p) → is_of s.number e ≡ true → ((x : Work) → Member x (works p s.number) → Fits x.part x.phase)
        → (x : Work) → Origin s p e x → Fits x.part x.phase
    own p e r is was x (inl b) = subst (λ (y : Work). Fits y.part y.phase) (sym b.work_is) tt
    own p e r is was x (inr (inl b)) = was x b.ran
    own p e r is was x (inr (inr b)) = good_fits b.by.w.part b.by.w.phase x.part x.phase (steps_good s p e x b (was b.by.w (step_runs s p e x b)))
