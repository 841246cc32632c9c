-- Where the frames of a connection come from: its client is a repository of the run, its server another, and its slot one of the four.
use Rattle.std.proofs.Common.{◌≡◌, ℕ, ◌<◌, Bool, true, false, List, [], ◌∷◌, inl, inr, refl, sym, ◌∙◌, subst, arith, true≢false}
use Rattle.std.specs.Prelude.{if◌then◌else◌, ◌==◌, length, map, not}
use Rattle.annex_base.specs.Lists.{Each, Member}
use Rattle.annex_base.proofs.Lists.{Each-filter, Each-member}
use Rattle.run_data.specs.declared.entry.Entry.{Entry}
use Rattle.run_data.specs.declared.entry.EntryKind.{EntryKind}
use Rattle.run_data.specs.declared.entry.EntryKind.TheVariants.{Begin, Crash, End as ends_job}
use Rattle.run_data.specs.declared.entry.FrameView.{FrameView}
use Rattle.run_data.specs.declared.run.Run.{Run}
use Rattle.run_data.specs.Repos.{IsSetUp}
use Rattle.node_model.specs.Jobs.{Work, running_job}
use Rattle.node_model.specs.SetUp.{SetUp, others, served_connections, slots}
use Rattle.node_model.specs.Slots.{RunningJob, free_slot, uses}
use Rattle.run_model.specs.Frames.{MayTake, taken_count, taker_of}
use Rattle.run_model.specs.Past.{is_of, jobs, jobs_after}
use Rattle.run_model.specs.Run.{OwnRun, RunPast, RunStep, set_up}
use Rattle.run_model.specs.States.{works}
use Rattle.step_facts.proofs.Below.{SentAreRead}
use Rattle.step_facts.proofs.EndEpochs.{IsClose, SpeaksAlone, from_end}
use Rattle.step_facts.proofs.Flights.{Sending, sending}
use Rattle.step_facts.proofs.JobKept.{jobs_are}
use Rattle.step_facts.proofs.JobSteps.{Stepped}
use Rattle.step_facts.proofs.Makers.{who}
use Rattle.step_facts.proofs.WorkNumbers.{running_member}
use Rattle.past_facts.proofs.OwnRuns.{Part, own_past, part_of, step_at}
use Rattle.past_facts.proofs.Told.{OnWay, on_parts, sends_member, sends_on}
use Rattle.job_facts.proofs.OpenEnds.{job_sends_to, open_runs, stepped_job_runs}
use Rattle.job_facts.proofs.Speaks
use Rattle.run_laws.proofs.SessionOwn
use Rattle.run_laws.proofs.SessionOwn.{in_says, of_flat, of_slots}
use Rattle.cause_laws.proofs.ConversationServer.{up_way}
use Rattle.driver_model.proofs.Numbers.{below_len}

-- ---- slots

free_in : (js : List RunningJob) → Member (free_slot js) slots
free_in js = first (not (uses js 0)) (second (not (uses js 1)) (third (not (uses js 2))))
  where
    third : (b : Bool) → Member (if b then 2 else 3) slots
    third true = inr (inr (inl refl))
    third false = inr (inr (inr (inl refl)))

    second : (b : Bool) {n : ℕ} → Member n slots → Member (if b then 1 else n) slots
    second true m = inr (inl refl)
    second false m = m

    first : (b : Bool) {n : ℕ} → Member n slots → Member (if b then 0 else n) slots
    first true m = inl refl
    first false m = m

after_slots : (js : List RunningJob) (kind : EntryKind) → Each (λ j. Member j.slot slots) js → Each (λ j. Member j.slot slots) (jobs_after js kind)
after_slots js (Begin job what) a = (free_in js, a)
after_slots js (ends_job job outcome) a = Each-filter (λ (j : RunningJob). Member j.slot slots) (λ (j : RunningJob). not (j.number == job)) js a
after_slots js (Crash clock) a = tt
after_slots js kind a = a

jobs_slots : (past : List Entry) (r : ℕ) → Each (λ j. Member j.slot slots) (jobs past r)
jobs_slots [] r = tt
jobs_slots (e ∷ past) r = go (jobs_slots past r) (is_of r e) refl
  where
    go : Each (λ j. Member j.slot slots) (jobs past r) → (b : Bool) → is_of r e ≡ b → Each (λ j. Member j.slot slots) (jobs (e ∷ past) r)
    go a true is = rw is (after_slots (jobs past r) e.kind a)
    go a false is = rw is a

pub job_slot : (past : List Entry) (r : ℕ) (j : RunningJob) → Member j (jobs past r) → Member j.slot slots
job_slot past r j m = Each-member (λ (j : RunningJob). Member j.slot slots) (jobs past r) j (jobs_slots past r) m

pub work_slot : (past : List Entry) (r : ℕ) (w : Work) → Member w (works past r) → Member w.slot slots
work_slot past r w m = job_slot past r (running_job w) (subst (Member (running_job w)) (jobs_are past r) (running_member (works past r) w m))

-- ---- others

pub other_known : (s : SetUp) (x : ℕ) → Member x (others s) → x < length s.repos
other_known s x m = Each-member (λ r. r < length s.repos) (others s) x (Each-filter (λ r. r < length s.repos) (λ y. not (y == s.number)) _ (below_len 0 (length s.repos) (length s.repos) (omega arith))) m

pub served_by : (s : SetUp) (x q : ℕ) → Member (x, q) (served_connections s) → Member x (others s)
served_by s x q m =
    let w = of_flat (λ peer. map (λ slot. (peer, slot)) slots) (others s) (x, q) m in
    subst (λ n. Member n (others s)) (sym (of_slots w.0 slots x q w.2)) w.1

-- ---- who sends on a way up

pub record Placed (run : Run) (c v q : ℕ) : Type 0 where
  pub client : c < length run.repos
  pub server : Member v (others (set_up run c))
  pub slot : Member q slots

pub client_place : SentAreRead → (run : Run) → Each IsSetUp run.repos → (past : List Entry) → RunPast (set_up run) past → (c v q n : ℕ) (f : FrameView) → MayTake past (up_way c v q n) f → Placed run c v q
client_place reads_back run repos past h c v q n f m = elim (who s before part.words m.it.entry part.own) [
  | inl z ↦ alone z.1
  | inr z ↦ elim z [
    | inl y ↦ absurd (true≢false (sym on.up_is ∙ (in_says s m.it.entry (SessionOwn.speaks s before m.it.entry y.1) m.it.frame there).3))
    | inr y ↦ job y
  ]
]
  where
    s : SetUp
    s = set_up run c

    before : List Entry
    before = m.it.before

    z : Sending past (up_way c v q n) m.it
    z = sending past (up_way c v q n) (taken_count past (up_way c v q n)) m.it m.next

    on : OnWay (up_way c v q n) (taker_of (up_way c v q n)) m.it.frame
    on = on_parts (up_way c v q n) (taker_of (up_way c v q n)) m.it.frame (sends_on (up_way c v q n) m.it.entry m.it.frame z.sends)

    there : Member m.it.frame m.it.entry.sent
    there = sends_member (up_way c v q n) m.it.entry m.it.frame z.sends

    two : RunStep (set_up run) m.it.before m.it.entry × RunPast (set_up run) m.it.before
    two = step_at run past m.it.entry m.it.before h z.occurs

    part : Part (set_up run) m.it.before c m.it.entry
    part = part_of (set_up run) m.it.before m.it.entry c two.0 z.repo_is

    own : OwnRun (set_up run c) m.it.before
    own = (own_past run repos c m.it.before two.1).run

    alone : SpeaksAlone (set_up run c) m.it.before m.it.entry → Placed run c v q
    alone x =
        let close = Each-member (IsClose (set_up run c) m.it.before) m.it.entry.sent m.it.frame x.well there in
        let runs = open_runs reads_back (set_up run c) m.it.before own (from_end m.it.frame) on.up_is close.0 in
        record {
          client = part.own.known;
          server = subst (λ k. Member k (others (set_up run c))) on.peer_is runs.peer;
          slot = subst (λ k. Member k slots) (runs.slot ∙ on.slot_is) (job_slot m.it.before c runs.job runs.runs);
        }

    job : Stepped (set_up run c) m.it.before m.it.entry → Placed run c v q
    job y =
        let said = Speaks.speaks (set_up run c) m.it.before m.it.entry y m.it.frame there in
        record {
          client = part.own.known;
          server = subst (λ k. Member k (others (set_up run c))) on.peer_is (job_sends_to reads_back (set_up run c) m.it.before part.words m.it.entry own part.own y m.it.frame there);
          slot = subst (λ k. Member k slots) (sym said.0 ∙ on.slot_is) (job_slot m.it.before c (running_job y.w) (stepped_job_runs (set_up run c) m.it.before m.it.entry y));
        }
