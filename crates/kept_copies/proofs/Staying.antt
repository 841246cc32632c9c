-- A copy stays: what takes a content away leaves one, where no drop of its key counted a repository by trust.
use Rattle.std.proofs.Common.{◌≡◌, ℕ, zero, suc, ◌+◌, ◌<◌, ◌≤◌, true, false, List, [], ◌∷◌, length, Some, inl, inr, refl, sym, subst, arith, add-one}
use Rattle.std.specs.Prelude.{count_by, slice_get}
use Rattle.std.specs.List.{range_with_len}
use Rattle.annex_base.specs.Lists.{Member}
use Rattle.annex_base.proofs.Pasts.{past_end}
use Rattle.drop_proof.specs.Judging.{is_enough}
use Rattle.drop_proof.specs.declared.evidence.Evidence.{Evidence}
use Rattle.run_data.specs.declared.entry.By.{By}
use Rattle.run_data.specs.declared.entry.Entry.{Entry}
use Rattle.run_data.specs.declared.entry.EntryKind.TheVariants.{Gone}
use Rattle.run_data.specs.declared.run.Run.{Run}
use Rattle.node_model.specs.Evidence.{is_trusted}
use Rattle.run_model.specs.Logs.{lines_ever, read_at}
use Rattle.run_model.specs.Past.{present}
use Rattle.run_model.specs.Run.{IsRun, job_paths}
use Rattle.run_model.specs.Safety.{Removal, copies_at, least_need, past_at, smaller}
use Rattle.race_core.specs.Places.{removal_at, removals_at}
use Rattle.race_core.specs.Readings.{Judge, need_of_judge}
use Rattle.race_core.specs.Removals.{IsReadBefore, IsRemovalBefore}
use Rattle.past_facts.proofs.Changes.{present_stays}
use Rattle.past_facts.proofs.EntryPlaces.{below_or_last, past_next, there_or_end}
use Rattle.kept_copies.specs.Trusting.{CountsNoTrust}
use Rattle.kept_copies.proofs.Counting.{counts_some, some_counted}
use Rattle.kept_copies.proofs.Needs.{WantSome, need_some}

-- the laws of the last copies, as the lemmas take them
pub record CopyLaws : Type 0 where
  pub enough : (run : Run) (key : List ℕ) (place : ℕ) (e : Entry) (by : By) → IsRun run → slice_get run.entries place ≡ Some e → e.kind ≡ Gone by key
      → (x : Removal) × (removal_at run key place e ≡ Some x) × (is_enough x.side x.need x.items ≡ true)
  pub only : (run : Run) (key : List ℕ) (place : ℕ) (x : Removal) → Member x (removals_at run key place) → IsRemovalBefore run key place x
  pub all : (run : Run) (key : List ℕ) (place : ℕ) (x : Removal) → IsRemovalBefore run key place x → Member x (removals_at run key place)
  pub read : (run : Run) (key : List ℕ) (place least : ℕ) → IsRun run → least_need (removals_at run key place) ≡ Some least → IsReadBefore run key place least
  pub copies : (run : Run) (key : List ℕ) (place least : ℕ) → IsRun run
      → ((x : Removal) (item : Evidence) → Member x (removals_at run key place) → Member item x.items → is_trusted item.kind ≡ false)
      → least_need (removals_at run key place) ≡ Some least → least ≤ copies_at run key place
  pub wanted : WantSome

some_least : (x : Removal) (xs : List Removal) → Member x xs → (least : ℕ) × (least_need xs ≡ Some least)
some_least x [] m = absurd m
some_least x (y ∷ ys) m = (smaller y.need.m (least_need ys), refl)

at_least : (a b : ℕ) → 1 ≤ a → a ≤ b → 1 ≤ b
at_least a b h le = omega (arith, h, le)

judge_some : WantSome → (run : Run) (judge : Judge) → 1 ≤ (need_of_judge run judge).m
judge_some wanted run judge = need_some wanted (lines_ever (read_at judge.past judge.repo judge.job) judge.repo) (job_paths run judge.repo judge.job)

-- how many repositories of the run have the key after these entries
abbrev pub copies_after : Run → List ℕ → List Entry → ℕ
copies_after run key past = count_by (λ r. present past r key) (range_with_len 0 (length run.repos))

module _ (laws : CopyLaws) (run : Run) (key : List ℕ) (later : ℕ) (is : IsRun run) (none : CountsNoTrust run key later) where
  untrusted : (n : ℕ) → n < later → (x : Removal) (item : Evidence) → Member x (removals_at run key (n + 1)) → Member item x.items → is_trusted item.kind ≡ false
  untrusted n lt x item m among =
      let w = laws.only run key (n + 1) x m in
      none x item (record { at = w.at; earlier = omega (arith, w.earlier, lt); entry = w.entry; entry_is = w.entry_is; removal_is = w.removal_is }) among

  -- what takes the content away leaves a copy
  removed : (n : ℕ) (e : Entry) (by : By) → n < later → slice_get run.entries n ≡ Some e → e.kind ≡ Gone by key → 1 ≤ copies_at run key (n + 1)
  removed n e by lt at kind =
      let x = laws.enough run key n e by is at kind in
      let before : IsRemovalBefore run key (n + 1) x.0 = record { at = n; earlier = omega arith; entry = e; entry_is = at; removal_is = x.1 } in
      let least = some_least x.0 (removals_at run key (n + 1)) (laws.all run key (n + 1) x.0 before) in
      let read = laws.read run key (n + 1) least.0 is least.1 in
      at_least least.0 (copies_at run key (n + 1)) (subst (λ (m : ℕ). 1 ≤ m) read.read (judge_some laws.wanted run read.judge)) (laws.copies run key (n + 1) least.0 is (untrusted n lt) least.1)

  -- so does each entry, and the end of the run
  next : (n : ℕ) → n < later → 1 ≤ copies_at run key n → 1 ≤ copies_at run key (n + 1)
  next n lt h = elim (there_or_end run.entries n) [
    | inl t ↦ here t.0 t.1
    | inr ended ↦ subst (λ (past : List Entry). 1 ≤ copies_after run key past) (sym (past_end run.entries n ended)) h
  ]
    where
      here : (e : Entry) → slice_get run.entries n ≡ Some e → 1 ≤ copies_at run key (n + 1)
      here e at =
          let w = some_counted (λ r. present (past_at run n) r key) (range_with_len 0 (length run.repos)) h in
          elim (present_stays e (past_at run n) w.0 key w.2) [
            | inl s ↦ subst (λ (past : List Entry). 1 ≤ copies_after run key past) (sym (past_next run n e at)) (counts_some (λ r. present (e ∷ past_at run n) r key) (range_with_len 0 (length run.repos)) w.0 w.1 s)
            | inr t ↦ removed n e t.by lt at t.kind_is
          ]

  from : (place n : ℕ) → place ≤ n → n ≤ later → 1 ≤ copies_at run key place → 1 ≤ copies_at run key n
  from place zero le up h = let same : place ≡ zero = omega (arith, le) in subst (λ (m : ℕ). 1 ≤ copies_at run key m) same h
  from place (suc n) le up h = elim (below_or_last place n le) [
    | inl below ↦ subst (λ (m : ℕ). 1 ≤ copies_at run key m) (add-one n) (next n (omega (arith, up)) (from place n below (omega (arith, up)) h))
    | inr last ↦ subst (λ (m : ℕ). 1 ≤ copies_at run key m) last h
  ]

-- a copy stays up to a place before which no drop counted by trust
pub stays : CopyLaws → (run : Run) (key : List ℕ) (place later : ℕ) → IsRun run → CountsNoTrust run key later → place ≤ later → 1 ≤ copies_at run key place → 1 ≤ copies_at run key later
stays laws run key place later is none le h = from laws run key later is none place later le (omega arith) h
