-- The evidence of a run's removals as a number: of distinct repositories, none of them the one that loses the content; and how many copies
-- and claims a removal leaves.
use Rattle.std.proofs.Common.{◌≡◌, ℕ, ◌+◌, ◌<◌, ◌≤◌, true, not, ◌||◌, List, length, Some, ◌⊎◌, inl, inr, refl, sym, subst, arith}
use Rattle.std.specs.Prelude.{◌≢◌, AllPairs, ◌==◌, count_by, max, slice_get}
use Rattle.std.specs.List.{range_with_len}
use Rattle.std.proofs.lemmas.Bool.{or_left, or_right}
use Rattle.annex_base.specs.Lists.{Each, Member}
use Rattle.annex_base.proofs.Lists.{Each-member, Each-weaker, Each-from_members}
use Rattle.annex_base.proofs.Numbers.{Member-range}
use Rattle.step_facts.proofs.Below.{SentAreRead}
use Rattle.drop_proof.specs.declared.evidence.Evidence.{Evidence}
use Rattle.drop_proof.specs.declared.evidence.Kind.{Kind}
use Rattle.drop_proof.specs.declared.evidence.Kind.TheVariants.{Locked, Trusted, Recent}
use Rattle.drop_proof.specs.declared.rule.Side.{Side}
use Rattle.drop_proof.specs.declared.rule.Side.TheVariants.{Local, Remote}
use Rattle.drop_proof.specs.Judging.{is_full, is_full_kind}
use Rattle.run_data.specs.declared.entry.Entry.{Entry}
use Rattle.run_data.specs.declared.run.Run.{Run}
use Rattle.run_model.specs.Past.{is_of, present}
use Rattle.node_model.specs.Evidence.{is_locked, is_trusted}
use Rattle.run_model.specs.Safety.{Removal, past_at}
use Rattle.run_model.specs.Run.{IsRun}
use Rattle.race_core.specs.Places.{claim_at, count_at, removal_at}
use Rattle.past_facts.proofs.Changes.{same_repo}
use Rattle.past_facts.proofs.Gather.{MatchSide, evidence_each, never_target}
use Rattle.race_core.proofs.Distinct.{Apart, all_full, apart_pairs, candidates_below, enough_items, evidence_apart, full_within, not_same, repos_in}
use Rattle.race_core.proofs.Dropped.{judged_by}
use Rattle.race_core.proofs.AtPlaces.{locked_left, trusted_left}

in_range : (side : Side) (a n : ℕ) → a < n → MatchSide side (Unit {0}) (a < n)
in_range Local a n lt = tt
in_range Remote a n lt = lt

-- an item that is locked or trusted is one of both
full_kind : (kind : Kind) → is_full_kind kind ≡ true → (is_locked kind ≡ true) ⊎ (is_trusted kind ≡ true)
full_kind (Locked end) f = inl refl
full_kind Trusted f = inr refl
full_kind Recent f = absurd (cc)

module _ (reads_back : SentAreRead) (run : Run) (key : List ℕ) (place : ℕ) (e : Entry) (x : Removal) (h : IsRun run) (at : slice_get run.entries place ≡ Some e) (is : removal_at run key place e ≡ Some x) where
  apart : Apart (repos_in x.items)
  apart =
      let w = judged_by reads_back run key place e x h at is in
      subst (λ items. Apart (repos_in items)) (sym w.2.items_are) (evidence_apart x.side run.repos w.0.past w.0.repo w.0.job w.2.r x.need)

  others : (r : ℕ) → is_of r e ≡ true → Each (λ (i : Evidence). i.repo ≢ r) x.items
  others r own =
      let w = judged_by reads_back run key place e x h at is in
      let d = w.2 in
      let same : d.r ≡ r = same_repo e d.r r d.repo_is own in
      subst (λ (q : ℕ). Each (λ (i : Evidence). i.repo ≢ q) x.items) same
      (subst (Each (λ (i : Evidence). i.repo ≢ d.r)) (sym d.items_are)
      (evidence_each (λ (i : Evidence). i.repo ≢ d.r) (λ c. not (c == d.r) ≡ true) x.side run.repos w.0.past w.0.repo w.0.job d.r x.need (λ c kind other g. not_same c d.r other)
      (never_target x.side (length run.repos) w.0.repo d.r d.other)))

  below : Each (λ (i : Evidence). i.repo < length run.repos) x.items
  below =
      let w = judged_by reads_back run key place e x h at is in
      let d = w.2 in
      subst (Each (λ (i : Evidence). i.repo < length run.repos)) (sym d.items_are)
      (evidence_each (λ (i : Evidence). i.repo < length run.repos) (λ c. c < length run.repos) x.side run.repos w.0.past w.0.repo w.0.job d.r x.need (λ c kind lt g. lt)
      (candidates_below x.side (length run.repos) w.0.repo d.r (in_range x.side w.0.repo (length run.repos) d.in_range)))

  among : Each (λ (i : Evidence). Member i.repo (range_with_len 0 (length run.repos))) x.items
  among = Each-weaker (λ (i : Evidence). i.repo < length run.repos) (λ (i : Evidence). Member i.repo (range_with_len 0 (length run.repos)))
      (λ i lt. Member-range 0 (length run.repos) i.repo (omega arith) (omega (arith, lt))) x.items below

  -- a locked item has its copy after the removal, and a trusted one its claim
  counted : (i : Evidence) → Member i x.items → is_full i ≡ true → (present (past_at run (place + 1)) i.repo key || claim_at run key (place + 1) i.repo) ≡ true
  counted i m full = elim (full_kind i.kind full) [
    | inl l ↦ or_left (present (past_at run (place + 1)) i.repo key) (claim_at run key (place + 1) i.repo) (locked_left reads_back run key place e x i h at is m l)
    | inr t ↦ or_right (present (past_at run (place + 1)) i.repo key) (claim_at run key (place + 1) i.repo) (trusted_left reads_back run key place e x i h at is m t)
  ]

  left : count_by is_full x.items ≤ count_at run key (place + 1)
  left = full_within (λ r. present (past_at run (place + 1)) r key || claim_at run key (place + 1) r) x.items (range_with_len 0 (length run.repos)) apart among
      (Each-from_members (λ i. is_full i ≡ true → (present (past_at run (place + 1)) i.repo key || claim_at run key (place + 1) i.repo) ≡ true) x.items counted)

  enough : max x.need.n x.need.m ≤ length x.items
  enough = let w = judged_by reads_back run key place e x h at is in enough_items x.side x.need x.items w.2.enough

-- the items of a removal are of distinct repositories
pub items_distinct : SentAreRead → (run : Run) (key : List ℕ) (place : ℕ) (e : Entry) (x : Removal) → IsRun run → slice_get run.entries place ≡ Some e → removal_at run key place e ≡ Some x
    → AllPairs (λ i k. i.repo ≢ k.repo) x.items
items_distinct reads_back run key place e x h at is = apart_pairs x.items (apart reads_back run key place e x h at is)

-- none of them the one that loses the content
pub never_the_target : SentAreRead → (run : Run) (key : List ℕ) (place r : ℕ) (e : Entry) (x : Removal) (item : Evidence) → IsRun run → slice_get run.entries place ≡ Some e → removal_at run key place e ≡ Some x
    → is_of r e ≡ true → Member item x.items → item.repo ≢ r
never_the_target reads_back run key place r e x item h at is own m = Each-member (λ (i : Evidence). i.repo ≢ r) x.items item (others reads_back run key place e x h at is r own) m

pub of_the_run : SentAreRead → (run : Run) (key : List ℕ) (place : ℕ) (e : Entry) (x : Removal) (item : Evidence) → IsRun run → slice_get run.entries place ≡ Some e → removal_at run key place e ≡ Some x
    → Member item x.items → item.repo < length run.repos
of_the_run reads_back run key place e x item h at is m = Each-member (λ (i : Evidence). i.repo < length run.repos) x.items item (below reads_back run key place e x h at is) m

-- a removal leaves at least as many copies and claims as its drop had locked and trusted items
pub evidence_left : SentAreRead → (run : Run) (key : List ℕ) (place : ℕ) (e : Entry) (x : Removal) → IsRun run → slice_get run.entries place ≡ Some e → removal_at run key place e ≡ Some x
    → count_by is_full x.items ≤ count_at run key (place + 1)
evidence_left reads_back run key place e x h at is = left reads_back run key place e x h at is

-- and where all its items were so, at least as many as its need
pub need_left : SentAreRead → (run : Run) (key : List ℕ) (place : ℕ) (e : Entry) (x : Removal) → IsRun run → slice_get run.entries place ≡ Some e → removal_at run key place e ≡ Some x
    → ((item : Evidence) → Member item x.items → is_full item ≡ true) → max x.need.n x.need.m ≤ count_at run key (place + 1)
need_left reads_back run key place e x h at is full =
    omega (arith, left reads_back run key place e x h at is, enough reads_back run key place e x h at is, all_full x.items (Each-from_members (λ i. is_full i ≡ true) x.items full))
