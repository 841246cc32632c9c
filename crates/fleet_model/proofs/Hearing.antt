-- The words that jobs heard, and those beside frames, while entries come that take and send nothing.
use Rattle.std.proofs.Common.{◌≡◌, ◌≢◌, inl, inr, ℕ, ◌≤◌, true, false, List, [], ◌∷◌, ◌++◌, length, Option, None, refl}
use Rattle.annex_base.specs.Lists.{Each}
use Rattle.annex_base.specs.declared.kinds.Word.{Word}
use Rattle.link_ring.specs.Ends.{EndView}
use Rattle.run_data.specs.declared.entry.Entry.{Entry}
use Rattle.run_data.specs.declared.entry.EntryKind.TheVariants as kinds
use Rattle.run_data.specs.declared.job.Job.{Job}
use Rattle.run_data.specs.declared.run.Run.{Run}
use Rattle.run_data.specs.declared.run.TreeMark.{TreeMark}
use Rattle.run_model.specs.Past.{begun_count, is_of}
use Rattle.run_model.specs.Run.{IsRun, job_paths, paths_at}
use Rattle.run_model.specs.Safety.{past_at}
use Rattle.node_model.specs.Slots.{job_of}
use Rattle.link_flights.specs.Heard.{HeardSo, SameWords}
use Rattle.link_flights.specs.Words.{AreAllWorded}
use Rattle.fleet_model.proofs.Going.{IsQuiet, all_others}

-- the laws of words, and of the paths of jobs
pub record WordLaws : Type 0 where
  pub quiet : (past : List Entry) (count : ℕ) (ends : ℕ → List EndView) (e : Entry) → e.taken ≡ None → e.sent ≡ [] → AreAllWorded past count ends → AreAllWorded (e ∷ past) count ends
  pub other : (past : List Entry) (e : Entry) (r : ℕ) (words : ℕ → ℕ → Option Word) → is_of r e ≡ false → HeardSo past r words → HeardSo (e ∷ past) r words
  pub beside : (past : List Entry) (e : Entry) (r : ℕ) (was now : ℕ → ℕ → Option Word) → is_of r e ≡ true → job_of e.kind ≡ None → SameWords past r was now → HeardSo past r was → HeardSo (e ∷ past) r now
  pub begun : (past : List Entry) (e : Entry) (r job : ℕ) (what : Job) (was now : ℕ → ℕ → Option Word) → is_of r e ≡ true → e.kind ≡ kinds.Begin job what → e.taken ≡ None → SameWords past r was now
      → HeardSo past r was → HeardSo (e ∷ past) r now
  pub paths : (run : Run) (place r job : ℕ) → IsRun run → place ≤ length run.entries → job ≤ begun_count (past_at run place) r → job_paths run r job ≡ paths_at run.tree (past_at run place) r job
  pub marks : (marks : List TreeMark) (m : TreeMark) (past : List Entry) (r job : ℕ) → length past ≤ m.place → paths_at (marks ++ m ∷ []) past r job ≡ paths_at marks past r job

pub words_stay : WordLaws → (count : ℕ) (ends : ℕ → List EndView) (more past : List Entry) → Each IsQuiet more → AreAllWorded past count ends → AreAllWorded (more ++ past) count ends
words_stay laws count ends [] past quiet are = are
words_stay laws count ends (e ∷ more) past quiet are = laws.quiet (more ++ past) count ends e quiet.0.takes_none quiet.0.sends_none (words_stay laws count ends more past quiet.1 are)

pub others_hear : WordLaws → (r q : ℕ) (words : ℕ → ℕ → Option Word) (more past : List Entry) → q ≢ r → Each (λ e. is_of r e ≡ true) more → HeardSo past q words → HeardSo (more ++ past) q words
others_hear laws r q words [] past apart own heard = heard
others_hear laws r q words (e ∷ more) past apart own heard =
    laws.other (more ++ past) e q words (all_others r q more past apart own.1 e own.0) (others_hear laws r q words more past apart own.1 heard)

own_hears_one : WordLaws → (r : ℕ) (words : ℕ → ℕ → Option Word) (e : Entry) (past : List Entry) → is_of r e ≡ true → IsQuiet e → HeardSo past r words → HeardSo (e ∷ past) r words
own_hears_one laws r words e past own quiet heard = elim (quiet.jobless) [
  | inl none ↦ laws.beside past e r words words own none (λ w c among. refl) heard
  | inr b ↦ laws.begun past e r b.0 b.1 words words own b.2 quiet.takes_none (λ w c among. refl) heard
]

pub own_hears : WordLaws → (r : ℕ) (words : ℕ → ℕ → Option Word) (more past : List Entry) → Each (λ e. is_of r e ≡ true) more → Each IsQuiet more → HeardSo past r words → HeardSo (more ++ past) r words
own_hears laws r words [] past own quiet heard = heard
own_hears laws r words (e ∷ more) past own quiet heard = own_hears_one laws r words e (more ++ past) own.0 quiet.0 (own_hears laws r words more past own.1 quiet.1 heard)
