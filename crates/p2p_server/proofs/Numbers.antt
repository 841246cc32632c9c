-- Numbers of holds, which stay below that of the next entry.
use Rattle.std.proofs.Common.{◌≡◌, ℕ, ◌<◌, Result, Ok, Err, IfOk, OnErr, Bool, true, false, List, map, filter, All, refl, sym, subst, arith}
use Rattle.std.specs.Prelude.{if◌then◌else◌, not, ◌||◌, ◌==◌}
use Rattle.std.proofs.lemmas.List.Elements.{All-cons, All-filter, All-map, All-weaker}
use Rattle.annex_base.specs.declared.kinds.Call.TheVariants.{Unhold}
use Rattle.run_data.specs.declared.entry.By.{By}
use Rattle.run_data.specs.declared.entry.By.TheVariants.{Job as by_job, Peer}
use Rattle.run_data.specs.declared.entry.EntryKind.{EntryKind}
use Rattle.run_data.specs.declared.entry.EntryKind.TheVariants.{Share, Release, Close, Crash, Fault, End}
use Rattle.run_data.specs.declared.row.Hold.{Hold}
use Rattle.node_model.specs.Rows.{holds_after, is_lost_ordered, keep_of, restart, same_owner}
use Rattle.session_state.specs.declared.doing.Doing.{Doing}
use Rattle.session_state.specs.declared.doing.Doing.TheVariants as doings
use Rattle.content_lock.specs.Rows.{Rows}
use Rattle.session_state.specs.declared.step.Step.{Step}
use Rattle.session_state.specs.Bounds.{IsNumberedStep, IsKind}
use Rattle.session_state.specs.Talking.{AreAfterStep, doing_of, guarded_in, label_in, share_in}

abbrev Below : ℕ → Hold → Type 0
Below m h = h.number < m

abbrev pub AreBelow : ℕ → List Hold → Type 0
AreBelow m hs = All (λ h. h.number < m) hs

kept_number : (o : By) (h : Hold) → (keep_of o h).number ≡ h.number
kept_number o h = elim (same_owner h.owner o) as (λ b. (if b then record h { kept = true } else h).number ≡ h.number) [ true ↦ refl | false ↦ refl ]

kept_below : (o : By) (m : ℕ) (hs : List Hold) → AreBelow m hs → AreBelow m (map (keep_of o) hs)
kept_below o m hs less = All-map (Below m) (keep_of o) hs
    (All-weaker (Below m) (λ (h : Hold). (keep_of o h).number < m) (λ h l. subst (λ (k : ℕ). k < m) (sym (kept_number o h)) l) hs less)

closed_below : (client : Bool) (o : By) (m : ℕ) (hs : List Hold) → AreBelow m hs → AreBelow m (if client then hs else map (keep_of o) hs)
closed_below true o m hs less = less
closed_below false o m hs less = kept_below o m hs less

ended_below : (lost : Bool) (o : By) (m : ℕ) (hs : List Hold) → AreBelow m hs
    → AreBelow m (if lost then map (keep_of o) hs else filter (λ h. h.kept || not (same_owner h.owner o)) hs)
ended_below true o m hs less = kept_below o m hs less
ended_below false o m hs less = All-filter (λ (h : Hold). h.kept || not (same_owner h.owner o)) (Below m) hs less

still_below : (n m : ℕ) (hs : List Hold) → n < m → AreBelow n hs → AreBelow m hs
still_below n m hs more less = All-weaker (Below n) (Below m) (λ h l. omega (arith, l, more)) hs less

-- the numbers stay below one that is greater than the entry's
after_below : (kind : EntryKind) (n m : ℕ) (hs : List Hold) → IsKind n kind → n < m → AreBelow m hs → AreBelow m (holds_after hs kind)
after_below (Share hold end (Peer peer slot) key) n m hs is more less =
    All-cons (Below m) (record { number = hold; key = key; end = end; kept = false; owner = Peer peer slot }) hs (subst (λ (k : ℕ). k < m) (sym is) more) less
after_below (Share hold end owner key) n m hs is more less = absurd is
after_below (Release number key) n m hs is more less = All-filter (λ (h : Hold). not (h.number == number)) (Below m) hs less
after_below (Close peer slot client) n m hs is more less = closed_below client (Peer peer slot) m hs less
after_below (Fault Unhold owner) n m hs is more less = kept_below owner m hs less
after_below (End job outcome) n m hs is more less = ended_below (is_lost_ordered outcome) (by_job job) m hs less
after_below (Crash clock) n m hs is more less = All-map (Below m) (restart clock) hs less
after_below kind n m hs is more less = less

pub numbers_so : {E : Type 0} (r : Result Step E) (was now : Rows) (n m : ℕ) → AreBelow n was.holds → IfOk r (λ s. AreAfterStep s.kind was now) → IfOk r (IsNumberedStep n) → OnErr r (now ≡ was)
    → n < m → AreBelow m now.holds
numbers_so (Ok s) was now n m less after fits same more = subst (AreBelow m) (sym after.holds) (after_below s.kind n m was.holds fits.kind more (still_below n m was.holds more less))
numbers_so (Err e) was now n m less after fits same more = subst (λ (x : Rows). AreBelow m x.holds) (sym same) (still_below n m was.holds more less)

pub closed_numbers : (o : By) (n : ℕ) (was now : List Hold) → now ≡ map (keep_of o) was → AreBelow n was → AreBelow n now
closed_numbers o n was now is less = subst (AreBelow n) (sym is) (kept_below o n was less)

-- what is guarded is the share that a session has
pub guards_so : (d : Doing) → label_in (share_in d) ≡ guarded_in (doing_of d)
guards_so doings.Waits = refl
guards_so (doings.Guards share) = refl
guards_so (doings.Gives g) = refl
guards_so doings.Gave = refl
guards_so (doings.Wants w) = refl
guards_so (doings.Takes t) = refl
guards_so (doings.Took t) = refl
