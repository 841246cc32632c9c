-- The auditor after an entry is that of the run with it.
use Rattle.std.proofs.Common.{◌≡◌, ℕ, zero, suc, false, ◌+◌, ◌<◌, ◌≤◌, ◌^◌, List, [], ◌∷◌, ◌++◌, length, Option, Some, None, Result, Ok, Err, IfErr, refl, sym, ap, subst, ◌∙◌, arith}
use Rattle.std.specs.Prelude.{reverse, slice_get, OnErr}
use Rattle.std.specs.Result.{IsErrAnd}
use Rattle.std.specs.Map.{lookup}
use Rattle.std.proofs.lemmas.List.{reverse-append, length-reverse}
use Rattle.std.proofs.Math.Seq.{take-append_seam}
use Rattle.run_data.specs.declared.entry.Entry.{Entry}
use Rattle.run_data.specs.declared.job.Proof.{Proof}
use Rattle.run_data.specs.declared.run.Run.{Run}
use Rattle.node_model.specs.Rows.{option_is}
use Rattle.node_model.specs.SetUp.{SetUp}
use Rattle.run_model.specs.Frames.{FlyingFrame, Way, frames_sent, sender_of}
use Rattle.run_model.specs.Run.{IsRun, RunStep, set_up}
use Rattle.step_judging.specs.Audits as audits
use Rattle.step_judging.specs.Rules.{broken_rule}
use Rattle.step_rules.specs.Runs.{start_of, with_entry}
use Rattle.step_rules.specs.States.{IsAfter, taken_by}
use Rattle.step_rules.specs.declared.wanted.Wanted.{Wanted}
use Rattle.run_audit.specs.Audited.{IsAuditing, IsAuditorOf}
use Rattle.run_audit.specs.Changes.{AreNoted, HasFew, StayRecords, record_at}
use Rattle.run_audit.specs.Orders.{AreOrdersOf, IsKeptOf, after_order, name_on, proof_at, same_name}
use Rattle.run_audit.specs.Records.{IsRecordOf}
use Rattle.run_audit.specs.Telling.{ordered_by, removed_by}
use Rattle.run_audit.specs.declared.auditor.Auditor.{Auditor}
use Rattle.run_audit.specs.declared.orders.OrderName.{OrderName}
use Rattle.run_audit.specs.declared.orders.Ordered.{Ordered}
use Rattle.run_audit.specs.declared.orders.Orders.{Orders}
use Rattle.run_audit.specs.declared.records.Records.{Records}
use Rattle.run_audit.proofs.Noted.{added, noted, removals_few, waited}
use Rattle.run_audit.proofs.Told.{DropLaws, orders_after, proof_told}

-- ---- runs

pub reverse_more : (run : Run) (e : Entry) → reverse (with_entry run e).entries ≡ e ∷ reverse run.entries
reverse_more run e = reverse-append run.entries (e ∷ [])

get_end : (xs : List Entry) (e : Entry) → slice_get (xs ++ e ∷ []) (length xs) ≡ Some e
get_end [] e = refl
get_end (x ∷ xs) e = get_end xs e

start_is : (run : Run) (e : Entry) → start_of (with_entry run e) (length run.entries) ≡ run
start_is run e i = record run { entries = take-append_seam run.entries (e ∷ []) i }

-- the laws of a run's next entry
pub record Laws : Type 0 where
  pub drops : DropLaws
  pub starts : (run : Run) (place : ℕ) (e : Entry) → IsRun run → slice_get run.entries place ≡ Some e → broken_rule (set_up (start_of run place)) (reverse (start_of run place).entries) e ≡ None
  pub permits : (s : ℕ → SetUp) (past : List Entry) (e : Entry) → ((r : ℕ) → (s r).number ≡ r) → broken_rule s past e ≡ None → RunStep s past e

-- an entry with which it is a run may come next
may_come : Laws → (run : Run) (e : Entry) → IsRun (with_entry run e) → RunStep (set_up run) (reverse run.entries) e
may_come laws run e lawful =
    laws.permits (set_up run) (reverse run.entries) e (λ r. refl)
    (subst (λ (q : Run). broken_rule (set_up q) (reverse q.entries) e ≡ None) (start_is run e) (laws.starts (with_entry run e) (length run.entries) e lawful (get_end run.entries e)))

-- ---- what stays

proof_same : (x y : Orders) → y.kept.entries ≡ x.kept.entries → (name : OrderName) → proof_at y name ≡ proof_at x name
proof_same x y same name = ap (lookup (same_name name)) same

orders_same : (run : Run) (x y : Orders) → ((name : OrderName) → proof_at y name ≡ proof_at x name) → AreOrdersOf run.repos (reverse run.entries) x → AreOrdersOf run.repos (reverse run.entries) y
orders_same run x y same kept w n it up got = subst (IsKeptOf run.repos w.client it.before it.entry.kind) (sym (same (name_on w (n + 1)))) (kept w n it up got)

pub records_stay : (run : Run) (x y : Records) → x.repos ≡ length run.repos → StayRecords x y → (key : List ℕ) → IsRecordOf run.repos (reverse run.entries) key (record_at x key)
    → IsRecordOf run.repos (reverse run.entries) key (record_at y key)
records_stay run x y count stay key is = added run.repos (reverse run.entries) key x.repos count (record_at x key) (record_at y key) (stay.each key) is

-- **the auditor without room is what it was**
pub stays : (x y : Auditor) → ((run : Run) → IsAfter x.state run → IsAfter y.state run) → y.repos.now ≡ x.repos.now → StayRecords x.records y.records → y.orders.kept.entries ≡ x.orders.kept.entries
    → (run : Run) → IsAuditorOf x run → IsAuditorOf y run
stays x y after repos stay orders run of = record {
  after = after run of.after;
  repos = of.repos ∙ sym repos;
  count = stay.repos ∙ of.count;
  records = λ key. records_stay run x.records y.records of.count stay key (of.records key);
  orders = orders_same run x.orders y.orders (proof_same x.orders y.orders orders) of.orders;
}

-- ---- an entry of no repository

waits_orders : (run : Run) (e : Entry) (x : Orders) → e.repo ≡ None → AreOrdersOf run.repos (reverse run.entries) x → AreOrdersOf run.repos (e ∷ reverse run.entries) x
waits_orders run e x none kept w n it up got = kept w n it up (subst (λ (fs : List FlyingFrame). slice_get fs n ≡ Some it) same got)
  where
    same : frames_sent (e ∷ reverse run.entries) w ≡ frames_sent (reverse run.entries) w
    same = let off : option_is e.repo (sender_of w) ≡ false = ap (λ (o : Option ℕ). option_is o (sender_of w)) none in rw off refl

pub waits : (x y : Auditor) (e : Entry) → e.repo ≡ None → ((run : Run) → IsAfter x.state run → IsAfter y.state (with_entry run e)) → y.repos.now ≡ x.repos.now → y.records ≡ x.records → y.orders ≡ x.orders
    → (run : Run) → IsAuditorOf x run → IsAuditorOf y (with_entry run e)
waits x y e none after repos records orders run of = record {
  after = after run of.after;
  repos = of.repos ∙ sym repos;
  count = ap (λ (q : Records). q.repos) records ∙ of.count;
  records = λ key. subst (λ (past : List Entry). IsRecordOf run.repos past key (record_at y.records key)) (sym (reverse_more run e))
      (subst (λ (q : Records). IsRecordOf run.repos (e ∷ reverse run.entries) key (record_at q key)) (sym records) (waited run.repos (reverse run.entries) key e none (record_at x.records key) (of.records key)));
  orders = subst (λ (past : List Entry). AreOrdersOf run.repos past y.orders) (sym (reverse_more run e))
      (subst (AreOrdersOf run.repos (e ∷ reverse run.entries)) (sym orders) (waits_orders run e x.orders none of.orders));
}

-- ---- an entry of a repository

-- **the auditor after it**
pub taken : Laws → (x y : Auditor) (e : Entry) (repo : ℕ) → e.repo ≡ Some repo → ((run : Run) → IsAfter x.state run → IsAfter y.state (with_entry run e)) → y.repos.now ≡ x.repos.now
    → (mid : Records) → StayRecords x.records mid → (proof : Option Proof) → ((run : Run) → IsAuditorOf x run → proof ≡ removed_by run x.orders repo e e.kind) → AreNoted repo e.kind proof mid y.records
    → (room : Orders) → room.kept.entries ≡ x.orders.kept.entries → (ordered : Option Ordered) → ((run : Run) → IsAuditorOf x run → ordered ≡ ordered_by run repo e e.kind)
    → ((name : OrderName) → proof_at y.orders name ≡ after_order ordered name (proof_at room name)) → (run : Run) → IsAuditorOf x run → IsAuditorOf y (with_entry run e)
taken laws x y e repo own after repos mid stay proof told note room same ordered sent puts run of = record {
  after = after run of.after;
  repos = of.repos ∙ sym repos;
  count = note.repos ∙ stay.repos ∙ of.count;
  records = λ key. subst (λ (past : List Entry). IsRecordOf run.repos past key (record_at y.records key)) (sym (reverse_more run e))
      (noted run.repos (reverse run.entries) key e repo own proof (ap (λ p. Rattle.run_audit.proofs.Noted.proof_for key e.kind p) (told run of) ∙ proof_told laws.drops run of.after.lawful e step repo own x.orders of.orders key)
      (record_at mid key) (record_at y.records key) (note.each key) (records_stay run x.records mid of.count stay key (of.records key)));
  orders = subst (λ (past : List Entry). AreOrdersOf run.repos past y.orders) (sym (reverse_more run e))
      (orders_after laws.drops run of.after.lawful e step repo own x.orders of.orders y.orders
      (λ name. puts name ∙ ap (λ (o : Option Ordered). after_order o name (proof_at room name)) (sent run of) ∙ ap (after_order (ordered_by run repo e e.kind) name) (proof_same x.orders room same name)));
}
  where
    step : RunStep (set_up run) (reverse run.entries) e
    step = may_come laws run e (after run of.after).lawful

-- ---- bounds

-- each record can count one removal more, and its repositories
pub few : (x : Auditor) → IsAuditing x → taken_by x.state + 1 < 2 ^ 32 → (mid : Records) → StayRecords x.records mid → HasFew mid.kept.entries
few x auditing less mid stay key y at =
    let run = auditing.run in
    let of = auditing.of in
    let is : IsRecordOf run.repos (reverse run.entries) key (Some y) = subst (IsRecordOf run.repos (reverse run.entries) key) at (records_stay run x.records mid of.count stay key (of.records key)) in
    let most = removals_few run.repos (reverse run.entries) key in
    let same : (audits.audit run.repos (reverse run.entries) key).removals ≡ y.removals = ap (λ (a : audits.KeyAudit). a.removals) is.audit_is in
    let long : length (reverse run.entries) ≡ taken_by x.state = length-reverse run.entries ∙ of.after.taken in
    let repos : length run.repos ≡ length x.state.repos.now = ap length of.after.repos in
    let many = auditing.carried.many in
    let all = is.long in
    (bound (audits.audit run.repos (reverse run.entries) key).removals y.removals (length (reverse run.entries)) (taken_by x.state) same most long less, room (length y.holders.each.items) (length run.repos) (length x.state.repos.now) all repos many)
  where
    bound : (a b c d : ℕ) → a ≡ b → a ≤ c → c ≡ d → d + 1 < 2 ^ 32 → b + 1 < 2 ^ 32
    bound a b c d i j k l = omega (arith, i, j, k, l)

    room : (a b c : ℕ) → a ≡ b → b ≡ c → c < 2 ^ 32 → a < 2 ^ 32
    room a b c i j k = omega (arith, i, j, k)

-- ---- refusals

pub on_err_always : {A E P : Type 0} (r : Result A E) → P → OnErr r P
on_err_always (Ok x) p = tt
on_err_always (Err e) p = p

pub handed_on : {A : Type 0} (P : Wanted → Type 0) (r : Result A Wanted) (w : Wanted) → IsErrAnd r (λ d. d ≡ w) → P w → IfErr r P
handed_on P (Ok x) w is p = tt
handed_on P (Err d) w is p = subst P (sym is) p

-- ---- the first auditor

none_past : (w : Way) (n : ℕ) (it : FlyingFrame) → slice_get (frames_sent [] w) n ≡ Some it → ⊥
none_past w zero it got = cc
none_past w (suc n) it got = cc

pub begins : (x : Auditor) (run : Run) → IsAfter x.state (start_of run 0) → run.repos ≡ x.repos.now → x.records.repos ≡ length run.repos → ((key : List ℕ) → record_at x.records key ≡ None) → IsAuditorOf x (start_of run 0)
begins x run after repos count none = record {
  after = after;
  repos = repos;
  count = count;
  records = λ key. subst (IsRecordOf run.repos [] key) (sym (none key)) (record { audit_is = refl; long = tt; holders = λ r lt. refl });
  orders = λ w n it up got. absurd (none_past w n it got);
}
