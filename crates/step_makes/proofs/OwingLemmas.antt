-- The lines that an owed line is due, as its repository knows them.
use Rattle.std.proofs.Common.{◌≡◌, ℕ, zero, suc, ◌<◌, Bool, true, false, List, [], ◌∷◌, get_or, length, None, refl, ap, ◌∙◌, arith}
use Rattle.std.specs.Prelude.{◌||◌}
use Rattle.annex_base.specs.declared.kinds.Call.{Call}
use Rattle.annex_base.specs.declared.kinds.Call.TheVariants.{PutFile}
use Rattle.hash_dirs.specs.LogPath.{location_path}
use Rattle.run_data.specs.Repos.{id_of}
use Rattle.run_data.specs.declared.entry.By.{By}
use Rattle.run_data.specs.declared.entry.EntryKind.{EntryKind}
use Rattle.run_data.specs.declared.entry.EntryKind.TheVariants.{Fault}
use Rattle.run_data.specs.declared.run.RepoView.{RepoView}
use Rattle.union_merge.specs.Branch.{Files as BranchFiles, lines_at}
use Rattle.node_model.specs.Look.{failing_call}
use Rattle.node_model.specs.OwedLines.{OwedLine, due, if_new, status_line}
use Rattle.step_judging.specs.Telling.{failed_call}

abbrev Lines : Type 0
Lines = List (List ℕ)

pub id_at : (repos : List RepoView) (r : ℕ) (d : RepoView) → r < length repos → (get_or repos r d).id ≡ id_of repos r
id_at [] r d within = absurd (omega (arith, within))
id_at (x ∷ xs) zero d within = refl
id_at (x ∷ xs) (suc r) d within = id_at xs r d (omega (arith, within))

-- by the files that are the state's
pub due_same : (repos now : List RepoView) (lines : List ℕ → Lines) (files : BranchFiles) (time clock : ℕ) (o : OwedLine) → repos ≡ now → ((path : List ℕ) → lines path ≡ lines_at files path) → time ≡ clock
    → due repos lines time o ≡ due now (lines_at files) clock o
due_same repos now lines files time clock o same has says = λ i. if_new (has (location_path o.key) i) (status_line (has (location_path o.key) i) (id_of (same i) o.repo) o.there (says i))

-- what is read is due
pub due_read : (repos : List RepoView) (files : BranchFiles) (clock : ℕ) (o : OwedLine) (path line id : List ℕ) (repo : ℕ) (there : Bool) (set : Lines)
    → path ≡ location_path o.key → repo ≡ o.repo → there ≡ o.there → id ≡ id_of repos repo → line ≡ status_line (lines_at files path) id there clock → set ≡ if_new (lines_at files path) line
    → set ≡ due repos (lines_at files) clock o
due_read repos files clock o path line id repo there set here repo_is there_is known text new =
    let known_so : id ≡ id_of repos o.repo = known ∙ ap (id_of repos) repo_is in
    new ∙ ap (λ (l : List ℕ). if_new (lines_at files path) l) text
    ∙ (λ i. if_new (lines_at files (here i)) (status_line (lines_at files (here i)) (known_so i) (there_is i) clock))

-- ---- the writing that failed

pub or_no : (b : Bool) → (b || false) ≡ b
or_no true = refl
or_no false = refl

pub no_fault : (kind : EntryKind) → ((call : Call) (by : By) → kind ≡ Fault call by → ⊥) → None ≡ failing_call (failed_call kind) (PutFile ∷ [])
no_fault (Fault call by) none = absurd (none call by refl)
no_fault kind none = refl
