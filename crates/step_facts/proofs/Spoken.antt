-- What a repository says is within bounds: the keys and peers of its jobs, the sizes of its contents, its clock.
use Rattle.std.proofs.Common.{◌≡◌, ℕ, ◌/◌, ◌<◌, ◌≤◌, ◌^◌, Bool, true, false, zero, suc, List, [], ◌∷◌, length, Option, Some, None, inl, inr, refl, sym, ap, ◌∙◌, subst, arith}
use Rattle.std.specs.Prelude.{if◌then◌else◌, ◌==◌, min, not, bytes_eq, slice_get}
use Rattle.annex_base.specs.Lists.{Each, Member}
use Rattle.annex_base.specs.RepoText.{IsId, repo_text}
use Rattle.annex_base.specs.declared.kinds.Word.{Word}
use Rattle.annex_base.proofs.Lists.{Each-filter}
use Rattle.annex_base.proofs.RepoLemmas.{repo_again}
use Rattle.step_facts.proofs.Below.{SentAreRead}
use Rattle.annex_key.specs.View.{first_fault}
use Rattle.run_data.specs.declared.entry.Entry.{Entry}
use Rattle.run_data.specs.declared.entry.EntryKind.{EntryKind}
use Rattle.run_data.specs.declared.entry.EntryKind.TheVariants.{Begin, Crash, Gain, Gone, End as ends_job}
use Rattle.run_data.specs.declared.job.Job.{Job}
use Rattle.run_data.specs.declared.run.RepoView.{RepoView}
use Rattle.run_data.specs.Repos.{IsSetUp, id_of, offset_of}
use Rattle.run_model.specs.Past.{Always, clock, is_of, jobs, jobs_after, clock_set, set_after}
use Rattle.node_model.specs.Slots.{RunningJob}
use Rattle.node_model.specs.Clocks.{ClockSet}
use Rattle.p2p_wire.specs.declared.message.Message.TheVariants.{AuthSuccess, CheckPresent, Data, Get, LockContent, Put, PutFrom, Remove, RemoveBefore, Timestamp, UnlockContent, Version}
use Rattle.p2p_wire.specs.Messages.{message_of, text_of}
use Rattle.node_model.specs.SetUp.{SetUp, version_in, version_of}
use Rattle.run_model.specs.States.{content, works, state_of}
use Rattle.node_model.specs.Rows.{content_after}
use Rattle.node_model.specs.Jobs.{Work, running_job}
use Rattle.node_model.specs.AnyTime.{IsPeer, MayCome}
use Rattle.node_model.specs.SessionStep.{bytes_left}
use Rattle.run_model.specs.Run.{IsBounded, IsSmall, IsStep, OwnPart, OwnPast, OwnRun}
use Rattle.step_facts.proofs.Plain.{each_map}
use Rattle.step_facts.proofs.StepFacts.{kind_found}
use Rattle.step_facts.proofs.JobKept.{jobs_are}

-- ---- jobs

-- a job begins with a key's text, and a peer that is another repository
pub record BegunWell (s : SetUp) (what : Job) : Type 0 where
  pub valid : first_fault what.key ≡ None
  pub peer : IsPeer s what.kind what.peer

begins_well : (s : SetUp) (past : List Entry) (words : ℕ → Option Word) (e : Entry) → OwnPart s past words e → (job : ℕ) (what : Job) → e.kind ≡ Begin job what → BegunWell s what
begins_well s past words e own job what is = elim (own.does) [
  | inl x ↦ absurd (steps x)
  | inr x ↦ (let may = (subst (MayCome s (state_of s past) e.lines e.sent) is x.may).0 in record { valid = may.valid; peer = may.peer })
]
  where
    steps : IsStep s past words e → ⊥
    steps x = elim (kind_found s (state_of s past) x.look x.made (Begin job what) x.makes (sym (ap (λ (y : Entry). y.kind) x.is) ∙ is) (λ h. h)) [
      | inl y ↦ y.found
      | inr y ↦ y.found
    ]

after_well : (s : SetUp) (js : List RunningJob) (kind : EntryKind) → ((job : ℕ) (what : Job) → kind ≡ Begin job what → BegunWell s what) → Each (λ j. BegunWell s j.what) js → Each (λ j. BegunWell s j.what) (jobs_after js kind)
after_well s js (Begin job what) next x = (next job what refl, x)
after_well s js (ends_job job outcome) next x = Each-filter (λ (j : RunningJob). BegunWell s j.what) (λ (j : RunningJob). not (j.number == job)) js x
after_well s js (Crash clock) next x = tt
after_well s js kind next x = x

jobs_well : (s : SetUp) (past : List Entry) → OwnRun s past → Each (λ j. BegunWell s j.what) (jobs past s.number)
jobs_well s [] run = tt
jobs_well s (e ∷ past) run = go (jobs_well s past run.1) (is_of s.number e) refl
  where
    go : Each (λ j. BegunWell s j.what) (jobs past s.number) → (b : Bool) → is_of s.number e ≡ b → Each (λ j. BegunWell s j.what) (jobs (e ∷ past) s.number)
    go x false is = rw is x
    go x true is = let own = run.0 is in rw is (after_well s (jobs past s.number) e.kind (begins_well s past own.0 e own.1) x)

-- each running job has a key's text, and a peer that is another repository
pub works_well : (s : SetUp) (past : List Entry) (w : Work) → OwnRun s past → Member w (works past s.number) → BegunWell s w.what
works_well s past w run member =
    each_map (λ (j : RunningJob). BegunWell s j.what) running_job (works past s.number) w (subst (Each (λ (j : RunningJob). BegunWell s j.what)) (sym (jobs_are past s.number)) (jobs_well s past run)) member

-- ---- sizes

abbrev pub Below : ℕ → Option ℕ → Type 0
Below n None = Unit {0}
Below n (Some k) = k < n

content_small : (key : List ℕ) (was : Option ℕ) (kind : EntryKind) → IsSmall kind → Below (2 ^ 62) was → Below (2 ^ 62) (content_after key was kind)
content_small key was (Gain source size k) small x = go (bytes_eq k key)
  where
    go : (b : Bool) → Below (2 ^ 62) (if b then Some size else was)
    go true = small
    go false = x
content_small key was (Gone source k) small x = go (bytes_eq k key)
  where
    go : (b : Bool) → Below (2 ^ 62) (if b then None else was)
    go true = tt
    go false = x
content_small key was kind small x = x

-- each content has fewer than 2 ^ 62 bytes
pub contents_small : (r : ℕ) (past : List Entry) (key : List ℕ) → Always (λ p x. IsBounded x) past → Below (2 ^ 62) (content past r key)
contents_small r [] key all = tt
contents_small r (e ∷ past) key all = go (contents_small r past key all.1) (is_of r e) refl
  where
    go : Below (2 ^ 62) (content past r key) → (b : Bool) → is_of r e ≡ b → Below (2 ^ 62) (content (e ∷ past) r key)
    go x false is = rw is x
    go x true is = rw is (content_small key (content past r key) e.kind all.0.small x)

pub left_small : (size : Option ℕ) (n : ℕ) → Below (2 ^ 62) size → bytes_left size n < 2 ^ 62
left_small None n x = omega arith
left_small (Some k) n x = omega (arith, x)

-- ---- the set-up

offset_small : (repos : List RepoView) (r : ℕ) → Each IsSetUp repos → offset_of repos r ≤ 100000000000
offset_small [] r a = omega arith
offset_small (x ∷ xs) zero a = a.0.offset
offset_small (x ∷ xs) (suc r) a = offset_small xs r a.1

set_small : (time : ℕ) (was : ClockSet) (kind : EntryKind) → IsSmall kind → was.to ≤ 100000000000 → (set_after time was kind).to ≤ 100000000000
set_small time was (Crash clock) small x = small
set_small time was kind small x = x

sets_small : (repos : List RepoView) (past : List Entry) (r : ℕ) → Each IsSetUp repos → Always (λ p x. IsBounded x) past → (clock_set repos past r).to ≤ 100000000000
sets_small repos [] r a all = offset_small repos r a
sets_small repos (e ∷ past) r a all = go (sets_small repos past r a all.1) (is_of r e)
  where
    go : (clock_set repos past r).to ≤ 100000000000 → (b : Bool) → (if b then set_after e.time (clock_set repos past r) e.kind else clock_set repos past r).to ≤ 100000000000
    go x true = set_small e.time (clock_set repos past r) e.kind all.0.small x
    go x false = x

pub clock_small : (repos : List RepoView) (past : List Entry) (r time : ℕ) → Each IsSetUp repos → Always (λ p x. IsBounded x) past → time ≤ 1000000000000 → clock repos past r time ≤ 1100000000000
clock_small repos past r time a all early = let small = sets_small repos past r a all in omega (arith, small, early)

pub version_small : (repos : List RepoView) (r : ℕ) → Each IsSetUp repos → version_in (slice_get repos r) ≤ 3
version_small [] r a = omega arith
version_small (x ∷ xs) zero a = a.0.newest
version_small (x ∷ xs) (suc r) a = version_small xs r a.1

pub id_is : (repos : List RepoView) (r : ℕ) → r < length repos → Each IsSetUp repos → IsId (id_of repos r)
id_is [] r l a = absurd (omega arith)
id_is (x ∷ xs) zero l a = a.0.id
id_is (x ∷ xs) (suc r) l a = id_is xs r (omega (arith, l)) a.1

-- ---- the lines of jobs are read as they were said

module _ (reads_back : SentAreRead) (s : SetUp) (past : List Entry) (run : OwnRun s past) (w : Work) (runs : Member w (works past s.number)) where
  valid : first_fault w.what.key ≡ None
  valid = (works_well s past w run runs).valid

  pub lock_read : message_of (text_of (LockContent w.what.key)) ≡ Some (LockContent w.what.key)
  lock_read = reads_back (LockContent w.what.key) valid tt

  pub unlock_read : message_of (text_of (UnlockContent w.what.key)) ≡ Some (UnlockContent w.what.key)
  unlock_read = reads_back (UnlockContent w.what.key) valid tt

  pub look_read : message_of (text_of (CheckPresent w.what.key)) ≡ Some (CheckPresent w.what.key)
  look_read = reads_back (CheckPresent w.what.key) valid tt

  pub remove_read : message_of (text_of (Remove w.what.key)) ≡ Some (Remove w.what.key)
  remove_read = reads_back (Remove w.what.key) valid tt

  pub before_read : (n : ℕ) → n < 2 ^ 63 → message_of (text_of (RemoveBefore n w.what.key)) ≡ Some (RemoveBefore n w.what.key)
  before_read n small = reads_back (RemoveBefore n w.what.key) (small, valid) tt

  pub get_read : (n : ℕ) → n < 2 ^ 62 → message_of (text_of (Get n [] w.what.key)) ≡ Some (Get n [] w.what.key)
  get_read n small = reads_back (Get n [] w.what.key) (omega (arith, small), valid, refl) tt

  pub put_read : message_of (text_of (Put [] w.what.key)) ≡ Some (Put [] w.what.key)
  put_read = reads_back (Put [] w.what.key) (valid, refl) tt

-- the bytes that are left of a content
pub data_read : SentAreRead → (s : SetUp) (past : List Entry) (key : List ℕ) (n : ℕ) → OwnPast s past → message_of (text_of (Data (bytes_left (content past s.number key) n))) ≡ Some (Data (bytes_left (content past s.number key) n))
data_read reads_back s past key n h =
    let small : bytes_left (content past s.number key) n < 2 ^ 62 = left_small (content past s.number key) n (contents_small s.number past key h.bounds) in
    reads_back (Data (bytes_left (content past s.number key) n)) (omega (arith, small)) tt

-- ---- the lines of sessions are read as they were said

pub auth_read : SentAreRead → (s : SetUp) (past : List Entry) → OwnPast s past → s.number < length s.repos → message_of (text_of (AuthSuccess (id_of s.repos s.number))) ≡ Some (AuthSuccess (id_of s.repos s.number))
auth_read reads_back s past h known =
    let id : List ℕ = id_of s.repos s.number in
    reads_back (AuthSuccess id) (repo_again (repo_text id) id (id_is s.repos s.number known h.repos) refl) tt

pub version_read : SentAreRead → (s : SetUp) (past : List Entry) (n : ℕ) → OwnPast s past → message_of (text_of (Version (min n (version_of s)))) ≡ Some (Version (min n (version_of s)))
version_read reads_back s past n h =
    let small : version_of s ≤ 3 = version_small s.repos s.number h.repos in
    reads_back (Version (min n (version_of s))) (omega (arith, small)) tt

pub time_read : SentAreRead → (s : SetUp) (past : List Entry) (time : ℕ) → OwnPast s past → time ≤ 1000000000000
    → message_of (text_of (Timestamp (clock s.repos past s.number time / 1000))) ≡ Some (Timestamp (clock s.repos past s.number time / 1000))
time_read reads_back s past time h early =
    let small : clock s.repos past s.number time ≤ 1100000000000 = clock_small s.repos past s.number time h.repos h.bounds early in
    reads_back (Timestamp (clock s.repos past s.number time / 1000)) (omega (arith, small)) tt

pub part_read : SentAreRead → (n : ℕ) → n < 2 ^ 62 → message_of (text_of (PutFrom n)) ≡ Some (PutFrom n)
part_read reads_back n small = reads_back (PutFrom n) (omega (arith, small)) tt
