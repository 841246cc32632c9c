-- What the entries of a job leave of the works.
use Rattle.std.proofs.Common.{◌≡◌, ℕ, List, filter, map, Some, refl, ap}
use Rattle.std.specs.Prelude.{not, ◌==◌}
use Rattle.run_data.specs.declared.entry.Entry.{Entry}
use Rattle.run_data.specs.declared.entry.EntryKind.{EntryKind}
use Rattle.run_data.specs.declared.entry.EntryKind.TheVariants.{Bar, End, Fault, Gain, Gone, Order, Share, Talk}
use Rattle.node_model.specs.Jobs.{RowsAndEnds, Work, work_after, works_after}
use Rattle.node_model.specs.Slots.{begun_after, job_by, job_of}
use Rattle.drop_phases.specs.Begun.{IsLast}
use Rattle.node_tasks.specs.Acting.{IsOnward}

pub onward_job : (n : ℕ) (kind : EntryKind) → IsOnward n kind → job_of kind ≡ Some n
onward_job n (Gain source size key) h = ap job_by h
onward_job n (Share hold end owner key) h = ap job_by h
onward_job n (Bar job need key) h = ap (λ (m : ℕ). Some m) h
onward_job n (Order job target deadline need key) h = ap (λ (m : ℕ). Some m) h
onward_job n (Gone source key) h = ap job_by h
onward_job n (Talk job) h = h
onward_job n (Fault call source) h = ap job_by h
onward_job n kind h = absurd h

pub onward_works : (rows : RowsAndEnds) (r n : ℕ) (was : List Work) (e : Entry) (kind : EntryKind) → IsOnward n kind → works_after rows r was e kind ≡ map (work_after rows r e) was
onward_works rows r n was e (Gain source size key) h = refl
onward_works rows r n was e (Share hold end owner key) h = refl
onward_works rows r n was e (Bar job need key) h = refl
onward_works rows r n was e (Order job target deadline need key) h = refl
onward_works rows r n was e (Gone source key) h = refl
onward_works rows r n was e (Talk job) h = refl
onward_works rows r n was e (Fault call source) h = refl
onward_works rows r n was e kind h = absurd h

pub onward_begun : (n was : ℕ) (kind : EntryKind) → IsOnward n kind → begun_after was kind ≡ was
onward_begun n was (Gain source size key) h = refl
onward_begun n was (Share hold end owner key) h = refl
onward_begun n was (Bar job need key) h = refl
onward_begun n was (Order job target deadline need key) h = refl
onward_begun n was (Gone source key) h = refl
onward_begun n was (Talk job) h = refl
onward_begun n was (Fault call source) h = refl
onward_begun n was kind h = absurd h

pub last_works : (rows : RowsAndEnds) (r n : ℕ) (was : List Work) (e : Entry) (kind : EntryKind) → IsLast n kind → works_after rows r was e kind ≡ filter (λ w. not (w.number == n)) was
last_works rows r n was e (End job outcome) h = ap (λ (m : ℕ). filter (λ (w : Work). not (w.number == m)) was) h
last_works rows r n was e kind h = absurd h

pub last_begun : (n was : ℕ) (kind : EntryKind) → IsLast n kind → begun_after was kind ≡ was
last_begun n was (End job outcome) h = refl
last_begun n was kind h = absurd h
