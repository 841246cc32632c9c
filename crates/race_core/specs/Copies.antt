-- The promise about the last copies, in terms of what drops read and judged (git-annex-mincopies; counting claims is own).
use Rattle.std.specs.Prelude.{◌≡◌, ℕ, ◌+◌, ◌≤◌, true, List, Some, count_by, slice_get}
use Rattle.drop_proof.specs.Judging.{is_enough, is_full}
use Rattle.run_data.specs.declared.entry.By.{By}
use Rattle.run_data.specs.declared.entry.Entry.{Entry}
use Rattle.run_data.specs.declared.entry.EntryKind.TheVariants.{Gone}
use Rattle.run_data.specs.declared.run.Run.{Run}
use Rattle.run_model.specs.Safety.{Removal}
use Rattle.race_core.specs.Places.{count_at, removal_at}
use Rattle.race_core.specs.Readings.{Judge, judge_at, need_of_judge}
use Rattle.race_core.specs.Removals.{IsReadBefore, IsRemovalBefore}

-- A place is the number of the entries before it. The copies of a key are counted with the claims that its drops trusted.

-- the number is the least mincopies that drops of the key before this place read
pub record IsLeastRead (run : Run) (key : List ℕ) (place least : ℕ) : Type 0 where
  -- one of these drops read it
  pub read : IsReadBefore run key place least
  -- and none read less
  pub none_less : (m : ℕ) → IsReadBefore run key place m → least ≤ m

-- the last copies of each key stay, by what its drops read and judged
pub record KeepsCopies (run : Run) : Type 0 where
  -- once a drop has removed the key, anywhere, its copies are no fewer than the least mincopies that its drops read
  pub enough : (key : List ℕ) (place : ℕ) (x : Removal) → IsRemovalBefore run key place x
      → (least : ℕ) × IsLeastRead run key place least × (least ≤ count_at run key place)
  -- a removal leaves no fewer copies than the locked and trusted items of its drop's evidence
  pub leaves : (key : List ℕ) (place : ℕ) (e : Entry) (x : Removal) → slice_get run.entries place ≡ Some e → removal_at run key place e ≡ Some x
      → count_by is_full x.items ≤ count_at run key (place + 1)
  -- each entry that takes the key away is the removal of one drop, whose evidence was enough for its need
  pub by_drops : (key : List ℕ) (place : ℕ) (e : Entry) (by : By) → slice_get run.entries place ≡ Some e → e.kind ≡ Gone by key
      → (x : Removal) × (removal_at run key place e ≡ Some x) × (is_enough x.side x.need x.items ≡ true)
  -- and this need is what the logs of the repository that judged the evidence gave at the drop's first step
  pub needs : (key : List ℕ) (place : ℕ) (e : Entry) (x : Removal) → slice_get run.entries place ≡ Some e → removal_at run key place e ≡ Some x
      → (judge : Judge) × (judge_at run place e ≡ Some judge) × (x.need ≡ need_of_judge run judge)
