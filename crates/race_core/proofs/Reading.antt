-- What a job reads of the logs stays what it was from the job's first step on.
use Rattle.std.proofs.Common.{◌≡◌, ℕ, Bool, true, false, List, refl}
use Rattle.std.specs.Prelude.{bytes_eq}
use Rattle.std.specs.List.{list_any}
use Rattle.annex_base.specs.declared.kinds.Level.{Level}
use Rattle.annex_base.specs.declared.kinds.Level.TheVariants as levels
use Rattle.run_data.specs.declared.entry.Entry.{Entry}
use Rattle.run_data.specs.declared.job.Cause.TheVariants.{Untrusted as cause_untrusted, Dead as cause_dead}
use Rattle.run_data.specs.declared.run.RepoView.{RepoView}
use Rattle.run_data.specs.Repos.{id_of}
use Rattle.run_model.specs.Past.{begun_job}
use Rattle.run_model.specs.Logs.{read_at, settings_of}
use Rattle.node_model.specs.Evidence.{Claimed, Ignored, standing_seen}
use Rattle.run_model.specs.Drops.{key_in, standing}

-- ---- what the reading says of a repository

seen-untrusted : (level : Level) (claimed : Bool) → level ≡ levels.Untrusted → standing_seen level claimed ≡ Ignored cause_untrusted
seen-untrusted level claimed h = rw h refl

seen-dead : (level : Level) (claimed : Bool) → level ≡ levels.Dead → standing_seen level claimed ≡ Ignored cause_dead
seen-dead level claimed h = rw h refl

seen-claimed : (level : Level) (claimed : Bool) → standing_seen level claimed ≡ Claimed → (level ≡ levels.Trusted) × (claimed ≡ true)
seen-claimed levels.Trusted true h = (refl, refl)
seen-claimed levels.Trusted false h = cc
seen-claimed levels.Semitrusted claimed h = cc
seen-claimed levels.Untrusted claimed h = cc
seen-claimed levels.Dead claimed h = cc

-- an untrusted repository and a dead one are ignored
pub standing-untrusted : (repos : List RepoView) (past : List Entry) (a j r : ℕ) → (settings_of (read_at past a j) a).level (id_of repos r) ≡ levels.Untrusted → standing repos past a j r ≡ Ignored cause_untrusted
unfolding standing
standing-untrusted repos past a j r h = seen-untrusted _ _ h

pub standing-dead : (repos : List RepoView) (past : List Entry) (a j r : ℕ) → (settings_of (read_at past a j) a).level (id_of repos r) ≡ levels.Dead → standing repos past a j r ≡ Ignored cause_dead
unfolding standing
standing-dead repos past a j r h = seen-dead _ _ h

-- a repository that counts by its claim alone is trusted, and is claimed to have the job's key
pub standing-claimed : (repos : List RepoView) (past : List Entry) (a j r : ℕ) → standing repos past a j r ≡ Claimed
    → ((settings_of (read_at past a j) a).level (id_of repos r) ≡ levels.Trusted)
    × (list_any (λ claimed. bytes_eq claimed (id_of repos r)) ((settings_of (read_at past a j) a).claims (key_in (begun_job (read_at past a j) a j))) ≡ true)
unfolding standing
standing-claimed repos past a j r h = seen-claimed _ _ h
