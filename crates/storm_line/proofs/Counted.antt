-- What one more entry changes of what is counted of a repository's jobs.
use Rattle.std.proofs.Common.{◌≡◌, ℕ, suc, ◌+◌, Bool, true, false, not, ◌==◌, cond, List, [], ◌∷◌, length, refl, sym, ap, ◌∙◌}
use Rattle.std.specs.Prelude.{filter, map, if◌then◌else◌}
use Rattle.run_data.specs.declared.entry.Entry.{Entry}
use Rattle.run_data.specs.declared.entry.EntryKind.{EntryKind}
use Rattle.run_data.specs.declared.entry.EntryKind.TheVariants as kinds
use Rattle.node_model.specs.Slots.{RunningJob}
use Rattle.run_model.specs.Past.{is_of, jobs, jobs_after}
use Rattle.storm_line.specs.declared.jobs.Jobs.{Jobs}
use Rattle.storm_line.specs.Counts.{done_by, done_jobs, refused_by, refused_jobs}
use Rattle.storm_line.specs.Running.{HasCounted, numbers_after, refused_by_of}

abbrev number_of : RunningJob → ℕ
number_of j = j.number

length_numbers : (js : List RunningJob) → length (map number_of js) ≡ length js
length_numbers [] = refl
length_numbers (j ∷ js) = ap suc (length_numbers js)

numbers_left : (n : ℕ) (js : List RunningJob) → map number_of (filter (λ j. not (j.number == n)) js) ≡ filter (λ k. not (k == n)) (map number_of js)
numbers_left n [] = refl
numbers_left n (j ∷ js) = go (numbers_left n js) (not (j.number == n))
  where
    go : map number_of (filter (λ i. not (i.number == n)) js) ≡ filter (λ k. not (k == n)) (map number_of js) → (b : Bool)
        → map number_of (cond b (j ∷ filter (λ i. not (i.number == n)) js) (filter (λ i. not (i.number == n)) js)) ≡ cond b (j.number ∷ filter (λ k. not (k == n)) (map number_of js)) (filter (λ k. not (k == n)) (map number_of js))
    go rest true = ap (λ (ns : List ℕ). j.number ∷ ns) rest
    go rest false = rest

numbers_of : (js : List RunningJob) (kind : EntryKind) → map number_of (jobs_after js kind) ≡ numbers_after (map number_of js) kind
numbers_of js (kinds.Begin job what) = refl
numbers_of js (kinds.End job outcome) = numbers_left job js
numbers_of js (kinds.Crash clock) = refl
numbers_of js (kinds.Gain by size key) = refl
numbers_of js (kinds.Share hold end by key) = refl
numbers_of js (kinds.Release hold key) = refl
numbers_of js (kinds.Check found key) = refl
numbers_of js (kinds.Bar job need key) = refl
numbers_of js (kinds.Order job target deadline need key) = refl
numbers_of js (kinds.Gone by key) = refl
numbers_of js (kinds.Log file) = refl
numbers_of js (kinds.Compact file) = refl
numbers_of js (kinds.Talk job) = refl
numbers_of js (kinds.Close peer slot client) = refl
numbers_of js (kinds.Wait time) = refl
numbers_of js (kinds.Fault call by) = refl

refused_of : (js : List RunningJob) (kind : EntryKind) → refused_by_of (length (map number_of js)) kind ≡ refused_by js kind
refused_of js (kinds.Crash clock) = length_numbers js
refused_of js (kinds.Begin job what) = refl
refused_of js (kinds.End job outcome) = refl
refused_of js (kinds.Gain by size key) = refl
refused_of js (kinds.Share hold end by key) = refl
refused_of js (kinds.Release hold key) = refl
refused_of js (kinds.Check found key) = refl
refused_of js (kinds.Bar job need key) = refl
refused_of js (kinds.Order job target deadline need key) = refl
refused_of js (kinds.Gone by key) = refl
refused_of js (kinds.Log file) = refl
refused_of js (kinds.Compact file) = refl
refused_of js (kinds.Talk job) = refl
refused_of js (kinds.Close peer slot client) = refl
refused_of js (kinds.Wait time) = refl
refused_of js (kinds.Fault call by) = refl

chosen : {X : Type 0} (b : Bool) (x y : X) → b ≡ true → (if b then x else y) ≡ x
chosen b x y is = rw is refl

unchosen : {X : Type 0} (b : Bool) (x y : X) → b ≡ false → (if b then x else y) ≡ y
unchosen b x y is = rw is refl

-- an entry of the repository
pub counted_more : (a b : Jobs) (past : List Entry) (e : Entry) (r : ℕ) → is_of r e ≡ true → b.running.items ≡ numbers_after a.running.items e.kind
    → b.done ≡ a.done + done_by e.kind → b.refused ≡ a.refused + refused_by_of (length a.running.items) e.kind → HasCounted a past r → HasCounted b (e ∷ past) r
counted_more a b past e r own running done refused h = record {
  running = running ∙ ap (λ (ns : List ℕ). numbers_after ns e.kind) h.running ∙ sym (numbers_of (jobs past r) e.kind)
      ∙ sym (ap (map number_of) (chosen (is_of r e) (jobs_after (jobs past r) e.kind) (jobs past r) own));
  done = done ∙ ap (λ (n : ℕ). n + done_by e.kind) h.done ∙ sym (chosen (is_of r e) (done_jobs past r + done_by e.kind) (done_jobs past r) own);
  refused = refused ∙ ap (λ (n : ℕ). n + refused_by_of (length a.running.items) e.kind) h.refused
      ∙ ap (λ (ns : List ℕ). refused_jobs past r + refused_by_of (length ns) e.kind) h.running
      ∙ ap (λ (n : ℕ). refused_jobs past r + n) (refused_of (jobs past r) e.kind)
      ∙ sym (chosen (is_of r e) (refused_jobs past r + refused_by (jobs past r) e.kind) (refused_jobs past r) own);
}

-- an entry of another
pub counted_other : (a : Jobs) (past : List Entry) (e : Entry) (r : ℕ) → is_of r e ≡ false → HasCounted a past r → HasCounted a (e ∷ past) r
counted_other a past e r other h = record {
  running = h.running ∙ sym (ap (map number_of) (unchosen (is_of r e) (jobs_after (jobs past r) e.kind) (jobs past r) other));
  done = h.done ∙ sym (unchosen (is_of r e) (done_jobs past r + done_by e.kind) (done_jobs past r) other);
  refused = h.refused ∙ sym (unchosen (is_of r e) (refused_jobs past r + refused_by (jobs past r) e.kind) (refused_jobs past r) other);
}
