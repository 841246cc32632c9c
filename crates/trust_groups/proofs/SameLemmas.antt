-- Branches whose files read alike have the same settings.
use Rattle.std.proofs.Common.{◌≡◌, ◌≢◌, inl, inr, ℕ, not, ◌&&◌, List, [], ◌∷◌, filter, refl, sym, ap, ◌∙◌}
use Rattle.log_lines.specs.declared.entry.LogKind.{LogKind}
use Rattle.log_lines.specs.declared.entry.LogKind.TheVariants as kinds
use Rattle.log_lines.specs.declared.entry.Topic.{Topic}
use Rattle.log_lines.specs.declared.entry.Topic.TheVariants as topics
use Rattle.log_lines.specs.Newest.{newest, entry_at, ReadAlike, current_lines}
use Rattle.log_lines.specs.Keeping.{Keeps, SameLines}
use Rattle.log_lines.specs.Files.{file_name}
use Rattle.hash_dirs.specs.LogPath.{location_path}
use Rattle.trust_groups.specs.Settings.{Lines, location_entries, entry_in, value_in, level_in, text_in, groups_in, number_in, level, is_dead, is_present, repo_of, repos_of, are_dead, is_claim, claims, has_groups, settings, patterns_of}
use Rattle.trust_groups.specs.Alike.{SameFiles, SameReading, KeepsFiles, MayCompact, CompactsFiles}

-- two files of a kind whose newest entries are the same
abbrev Alike : LogKind → Lines → Lines → Type 0
Alike kind x y = ReadAlike kind (x (file_name kind)) (y (file_name kind))

entry_in-same : (kind : LogKind) (x y : Lines) → Alike kind x y → (t : Topic) → entry_in kind x t ≡ entry_in kind y t
entry_in-same kind x y alike t = ap (λ es. entry_at es t) alike

level-same : (x y : Lines) → Alike kinds.Trust x y → (repo : List ℕ) → level x repo ≡ level y repo
level-same x y alike repo = ap (λ o. level_in (value_in o)) (entry_in-same kinds.Trust x y alike (topics.Repo repo))

are_dead-same : (x y : Lines) → ((repo : List ℕ) → level x repo ≡ level y repo) → (repos : List (List ℕ)) → are_dead x repos ≡ are_dead y repos
are_dead-same x y same [] = refl
are_dead-same x y same (repo ∷ repos) = ap is_dead (same repo)

is_claim-same : (x y : Lines) → ((repo : List ℕ) → level x repo ≡ level y repo) → is_claim x ≡ is_claim y
is_claim-same x y same = λ i e. is_present e.value && not (are_dead-same x y same (repo_of e.topic) i)

claims-same : (x y : Lines) → ((repo : List ℕ) → level x repo ≡ level y repo) → (key : List ℕ) → ReadAlike kinds.Location (x (location_path key)) (y (location_path key)) → claims x key ≡ claims y key
claims-same x y same key alike =
    ap (λ claim. repos_of (filter claim (location_entries x key))) (is_claim-same x y same)
    ∙ ap (λ es. repos_of (filter (is_claim y) es)) alike

pub settings-same : (x y : Lines) → SameReading x y → settings x ≡ settings y
settings-same x y same =
    let trust : (repo : List ℕ) → level x repo ≡ level y repo = level-same x y (same.files kinds.Trust (λ e. cc)) in
    let value : (kind : LogKind) → kind ≢ kinds.Location → (t : Topic) → value_in (entry_in kind x t) ≡ value_in (entry_in kind y t) =
    λ kind other t. ap value_in (entry_in-same kind x y (same.files kind other) t) in
    λ i. record {
      level = λ repo. trust repo i;
      numcopies = number_in (value kinds.Numcopies (λ e. cc) topics.Whole i);
      mincopies = number_in (value kinds.Mincopies (λ e. cc) topics.Whole i);
      path_numcopies = patterns_of (same.files kinds.NumcopiesPath (λ e. cc) i);
      path_mincopies = patterns_of (same.files kinds.MincopiesPath (λ e. cc) i);
      groups = λ repo. groups_in (value kinds.Group (λ e. cc) (topics.Repo repo) i);
      description = λ repo. text_in (value kinds.Uuid (λ e. cc) (topics.Repo repo) i);
      preferred = λ repo. text_in (value kinds.Preferred (λ e. cc) (topics.Repo repo) i);
      required = λ repo. text_in (value kinds.Required (λ e. cc) (topics.Repo repo) i);
      group_preferred = λ group. text_in (value kinds.GroupPreferred (λ e. cc) (topics.Group group) i);
      grouped = repos_of (filter has_groups (same.files kinds.Group (λ e. cc) i));
      claims = λ key. claims-same x y trust key (same.locations key) i;
    }

-- ---- files with the same lines, and files that additions, merges and compactions left

-- the laws of logs, as the lemmas take them: what lines say depends on which they are, compaction keeps it, and so do
-- additions and merges
abbrev pub ReadBySet : Type 0
ReadBySet = (kind : LogKind) (xs ys : List (List ℕ)) → SameLines xs ys → ReadAlike kind xs ys

abbrev pub ReadCompacted : Type 0
ReadCompacted = (kind : LogKind) (lines : List (List ℕ)) → ReadAlike kind (current_lines kind lines) lines

abbrev pub ReadKept : Type 0
ReadKept = (kind : LogKind) (kept ever : List (List ℕ)) → Keeps kind kept ever → ReadAlike kind kept ever

pub files_read_alike : ReadBySet → (x y : Lines) → SameFiles x y → SameReading x y
files_read_alike by_set x y same = record {
  files = λ kind other. by_set kind (x (file_name kind)) (y (file_name kind)) (same (file_name kind));
  locations = λ key. by_set kinds.Location (x (location_path key)) (y (location_path key)) (same (location_path key));
}

pub kept_read_alike : ReadKept → (kept ever : Lines) → KeepsFiles kept ever → SameReading kept ever
kept_read_alike alike kept ever keeps = record {
  files = λ kind other. alike kind (kept (file_name kind)) (ever (file_name kind)) (keeps.files kind other);
  locations = λ key. alike kinds.Location (kept (location_path key)) (ever (location_path key)) (keeps.locations key);
}

may_compact_alike : ReadCompacted → (kind : LogKind) (old new : List (List ℕ)) → MayCompact kind old new → ReadAlike kind old new
may_compact_alike alike kind old new (inl same) = ap (newest kind) (sym same)
may_compact_alike alike kind old new (inr less) = sym (ap (newest kind) less ∙ alike kind old)

pub compacted_read_alike : ReadCompacted → (old new : Lines) → CompactsFiles old new → SameReading old new
compacted_read_alike alike old new compacts = record {
  files = λ kind other. may_compact_alike alike kind (old (file_name kind)) (new (file_name kind)) (compacts.files kind other);
  locations = λ key. may_compact_alike alike kinds.Location (old (location_path key)) (new (location_path key)) (compacts.locations key);
}
