-- The line of a job, as a script says it (own).
use Rattle.std.specs.Prelude.{ℕ, List, [], ◌∷◌, ◌++◌, codes, Option, Some, None}
use Rattle.run_data.specs.declared.run.RepoView.{RepoView}
use Rattle.run_data.specs.declared.job.Job.{Job}
use Rattle.run_data.specs.declared.job.JobKind.{JobKind}
use Rattle.run_data.specs.declared.job.JobKind.TheVariants as kinds
use Rattle.script_words.specs.Words.{printed_word}
use Rattle.run_text.specs.Names.{name_of}

abbrev pub peer_text : List RepoView → List ℕ → Option ℕ → List ℕ
peer_text repos word None = []
peer_text repos word (Some p) = word ++ name_of repos p

-- a key as a line named it: by its path, or by its text; in double quotes where it has a space
abbrev pub key_text : List ℕ → Option (List ℕ) → List ℕ
key_text key None = printed_word key
key_text key (Some path) = printed_word (64 ∷ path)

abbrev pub kind_text : JobKind → List ℕ
kind_text kinds.Drop = codes "drop "
kind_text kinds.Get = codes "get "
kind_text kinds.Copy = codes "copy "
kind_text kinds.MoveTo = codes "move "
kind_text kinds.MoveFrom = codes "move "

abbrev pub way_text : JobKind → List ℕ
way_text kinds.Drop = codes " from "
way_text kinds.Get = codes " from "
way_text kinds.Copy = codes " to "
way_text kinds.MoveTo = codes " to "
way_text kinds.MoveFrom = codes " from "

-- the line of a job of repository r
abbrev pub job_text : List RepoView → ℕ → Job → List ℕ
job_text repos r job = kind_text job.kind ++ name_of repos r ++ codes " " ++ key_text job.key job.path ++ peer_text repos (way_text job.kind) job.peer

abbrev pub begun_text : List RepoView → ℕ → Option Job → List ℕ
begun_text repos r None = []
begun_text repos r (Some job) = job_text repos r job
