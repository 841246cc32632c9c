-- The numbers of holds stay below that of the next entry.
use Rattle.std.proofs.Common.{◌≡◌, ℕ, ◌<◌, Bool, true, false, List, map, filter, All, refl, sym, subst, arith}
use Rattle.std.specs.Prelude.{if◌then◌else◌, not, ◌||◌, ◌==◌}
use Rattle.std.proofs.lemmas.List.Elements.{All-cons, All-filter, All-map, All-weaker}
use Rattle.annex_base.specs.declared.kinds.Call.TheVariants.{Unhold}
use Rattle.run_data.specs.declared.entry.By.{By}
use Rattle.run_data.specs.declared.entry.By.TheVariants.{Job as by_job, Peer}
use Rattle.run_data.specs.declared.entry.EntryKind.{EntryKind}
use Rattle.run_data.specs.declared.entry.EntryKind.TheVariants.{Share, Release, Close, Crash, Fault, End}
use Rattle.run_data.specs.declared.row.Hold.{Hold}
use Rattle.node_model.specs.Rows.{holds_after, is_lost_ordered, keep_of, restart, same_owner}
use Rattle.content_lock.specs.Rows.{AreAfter, Rows}
use Rattle.drop_phases.specs.Sides.{IsNumbered}

abbrev Below : ℕ → Hold → Type 0
Below m h = h.number < m

abbrev AreBelow : ℕ → List Hold → Type 0
AreBelow m hs = All (λ h. h.number < m) hs

kept_number : (o : By) (h : Hold) → (keep_of o h).number ≡ h.number
kept_number o h = elim (same_owner h.owner o) as (λ b. (if b then record h { kept = true } else h).number ≡ h.number) [ true ↦ refl | false ↦ refl ]

kept_below : (o : By) (m : ℕ) (hs : List Hold) → AreBelow m hs → AreBelow m (map (keep_of o) hs)
kept_below o m hs less = All-map (Below m) (keep_of o) hs
    (All-weaker (Below m) (λ (h : Hold). (keep_of o h).number < m) (λ h l. subst (λ (k : ℕ). k < m) (sym (kept_number o h)) l) hs less)

closed_below : (client : Bool) (o : By) (m : ℕ) (hs : List Hold) → AreBelow m hs → AreBelow m (if client then hs else map (keep_of o) hs)
closed_below true o m hs less = less
closed_below false o m hs less = kept_below o m hs less

ended_below : (lost : Bool) (o : By) (m : ℕ) (hs : List Hold) → AreBelow m hs
    → AreBelow m (if lost then map (keep_of o) hs else filter (λ h. h.kept || not (same_owner h.owner o)) hs)
ended_below true o m hs less = kept_below o m hs less
ended_below false o m hs less = All-filter (λ (h : Hold). h.kept || not (same_owner h.owner o)) (Below m) hs less

after_below : (kind : EntryKind) (n m : ℕ) (hs : List Hold) → IsNumbered n kind → n < m → AreBelow m hs → AreBelow m (holds_after hs kind)
after_below (Share hold end owner key) n m hs is more less =
    All-cons (Below m) (record { number = hold; key = key; end = end; kept = false; owner = owner }) hs (subst (λ (k : ℕ). k < m) (sym is) more) less
after_below (Release number key) n m hs is more less = All-filter (λ (h : Hold). not (h.number == number)) (Below m) hs less
after_below (Close peer slot client) n m hs is more less = closed_below client (Peer peer slot) m hs less
after_below (Fault Unhold owner) n m hs is more less = kept_below owner m hs less
after_below (End job outcome) n m hs is more less = ended_below (is_lost_ordered outcome) (by_job job) m hs less
after_below (Crash clock) n m hs is more less = All-map (Below m) (restart clock) hs less
after_below kind n m hs is more less = less

pub rows_below : (kind : EntryKind) (n : ℕ) (was now : Rows) → AreAfter kind was now → IsNumbered n kind → All (λ h. h.number < n) was.holds → (m : ℕ) → n < m → All (λ h. h.number < m) now.holds
rows_below kind n was now after is less m more =
    subst (AreBelow m) (sym after.holds) (after_below kind n m was.holds is more (All-weaker (Below n) (Below m) (λ h l. omega (arith, l, more)) was.holds less))
