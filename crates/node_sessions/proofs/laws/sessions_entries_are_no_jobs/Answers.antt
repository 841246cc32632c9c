-- By the kind of the entry.
use Rattle.std.proofs.Common.{◌≡◌, ℕ, List, None, false, refl, subst}
use Rattle.run_data.specs.declared.entry.By.TheVariants.{Peer}
use Rattle.run_data.specs.declared.entry.EntryKind.{EntryKind}
use Rattle.run_data.specs.declared.entry.EntryKind.TheVariants as kinds
use Rattle.node_model.specs.Files.{lines_after}
use Rattle.node_model.specs.Slots.{job_of}
use Rattle.p2p_server.specs.Bounds.{IsKind}
use Rattle.node_sessions.proofs.laws.sessions_entries_are_no_jobs.Goals as goal

no_job : (n : ℕ) (kind : EntryKind) → IsKind n kind → job_of kind ≡ None
no_job n (kinds.Talk None) is = refl
no_job n (kinds.Check found key) is = refl
no_job n (kinds.Share hold end (Peer peer slot) key) is = refl
no_job n (kinds.Release hold key) is = refl
no_job n (kinds.Gone (Peer peer slot) key) is = refl
no_job n (kinds.Gain (Peer peer slot) size key) is = refl
no_job n (kinds.Fault call (Peer peer slot)) is = refl
no_job n (kinds.Close peer slot false) is = refl
no_job n kind is = absurd is

no_lines : (n : ℕ) (kind : EntryKind) → IsKind n kind → (path : List ℕ) (was lines : List (List ℕ)) → lines_after path was kind lines ≡ was
no_lines n (kinds.Log file) is path was lines = absurd is
no_lines n (kinds.Compact file) is path was lines = absurd is
no_lines n kind is path was lines = refl

pub returns : goal.returns
returns c = λ n kind is. (no_job n kind is, (λ clock e. subst (IsKind n) e is), no_lines n kind is)
