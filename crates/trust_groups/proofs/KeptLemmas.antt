-- The claims and grouped repositories of entries, and that they are those of the branch which the entries were read of.
use Rattle.std.proofs.Common.{◌≡◌, ◌≢◌, ℕ, not, ◌&&◌, List, [], ◌∷◌, filter, Option, Some, None, refl, sym, ap, ◌∙◌}
use Rattle.std.specs.List.Sorted.{IsStrictlySortedBy}
use Rattle.std.proofs.lemmas.Bool.{and_parts}
use Rattle.annex_base.specs.ByteOrder.{text_cmp}
use Rattle.annex_base.specs.Lists.{Member}
use Rattle.annex_base.specs.declared.kinds.Level.{Level}
use Rattle.annex_base.proofs.Lists.{Member-filter_parts}
use Rattle.annex_base.specs.declared.kinds.Level.TheVariants as levels
use Rattle.log_lines.specs.declared.entry.LogKind.TheVariants as kinds
use Rattle.log_lines.specs.declared.entry.Topic.TheVariants as topics
use Rattle.log_lines.specs.declared.entry.Entry.{Entry}
use Rattle.log_lines.specs.Newest.{newest}
use Rattle.log_lines.specs.Files.{file_name}
use Rattle.hash_dirs.specs.LogPath.{location_path}
use Rattle.trust_groups.specs.Settings.{Lines, level, is_present, repo_of, repos_of, are_dead, is_claim, claims, settings, patterns_of}
use Rattle.log_lines.specs.declared.entry.LogKind.{LogKind}
use Rattle.log_lines.specs.Index.{Index}
use Rattle.trust_groups.specs.Kept.{level_among, groups_among, text_among, number_among, any_dead, claims_by, claims_among, grouped_among}
use Rattle.trust_groups.specs.Reads.{Indices, IsIndexOf, HaveReadLines, entries_at, entries_or_none, index_at, kind_at}
use Rattle.trust_groups.specs.View.{entries_of, settings_of}
use Rattle.trust_groups.proofs.PathLemmas.{location_kind}
use Rattle.trust_groups.proofs.RepoLemmas.{IsRising, repos_member, repos_sorted}
use Rattle.trust_groups.proofs.ClaimLemmas.{not_dead}

-- ---- of a branch

any_dead-is : (lines : Lines) (repos : List (List ℕ)) → any_dead (level lines) repos ≡ are_dead lines repos
any_dead-is lines [] = refl
any_dead-is lines (repo ∷ repos) = refl

claims_by-is : (lines : Lines) → claims_by (level lines) ≡ is_claim lines
claims_by-is lines = λ i e. is_present e.value && not (any_dead-is lines (repo_of e.topic) i)

pub claims_are : (lines : Lines) (key : List ℕ) → claims_among (level lines) (newest kinds.Location (lines (location_path key))) ≡ claims lines key
claims_are lines key = ap (λ claim. repos_of (filter claim (newest kinds.Location (lines (location_path key))))) (claims_by-is lines)

-- by the levels of the branch, of the lines of the key's location log
pub claims_read : (lines : Lines) (key : List ℕ) (level_by : List ℕ → Level) (file : List (List ℕ)) → level_by ≡ level lines → file ≡ lines (location_path key) → claims_among level_by (newest kinds.Location file) ≡ claims lines key
claims_read lines key level_by file levels is =
    ap (λ l. claims_among l (newest kinds.Location file)) levels ∙ ap (λ f. claims_among (level lines) (newest kinds.Location f)) is ∙ claims_are lines key

-- ---- what is claimed

pub claims_among-sorted : (level : List ℕ → Level) (es : List Entry) → IsRising es → IsStrictlySortedBy text_cmp (claims_among level es)
claims_among-sorted level es rising = repos_sorted (claims_by level) es rising

pub claims_among-alive : (level : List ℕ → Level) (es : List Entry) (repo : List ℕ) → Member repo (claims_among level es) → level repo ≢ levels.Dead
claims_among-alive level es repo among =
    let found = repos_member (filter (claims_by level) es) repo among in
    let stands = Member-filter_parts (claims_by level) es found.entry found.among in
    let both = and_parts (is_present found.entry.value) (not (any_dead level (repo_of found.entry.topic))) stands.1 in
    not_dead (level repo) (ap (λ t. not (any_dead level (repo_of t))) (sym found.topic) ∙ both.1)

-- ---- settings that have read lines

entries_read : (o : Option Index) (kind : LogKind) (lines : List (List ℕ)) → IsIndexOf o kind lines → entries_or_none o ≡ newest kind lines
entries_read None kind lines is = sym is
entries_read (Some index) kind lines is = ap (λ (i : Index). i.entries) is

pub file_read : (es : Indices) (lines : Lines) → HaveReadLines es lines → (path : List ℕ) → entries_at es path ≡ newest (kind_at path) (lines path)
file_read es lines reads path = entries_read (index_at es path) (kind_at path) (lines path) (reads path)

log_read : (es : Indices) (lines : Lines) → HaveReadLines es lines → (key : List ℕ) → entries_at es (location_path key) ≡ newest kinds.Location (lines (location_path key))
log_read es lines reads key = file_read es lines reads (location_path key) ∙ ap (λ kind. newest kind (lines (location_path key))) (location_kind key)

claims_of_read : (lines : Lines) (key : List ℕ) (level_by : List ℕ → Level) (es : List Entry) → level_by ≡ level lines → es ≡ newest kinds.Location (lines (location_path key)) → claims_among level_by es ≡ claims lines key
claims_of_read lines key level_by es levels is = ap (λ l. claims_among l es) levels ∙ ap (claims_among (level lines)) is ∙ claims_are lines key

pub settings_read : (es : Indices) (lines : Lines) → HaveReadLines es lines → settings_of es ≡ settings lines
settings_read es lines reads =
    let trust : entries_of es kinds.Trust ≡ newest kinds.Trust (lines (file_name kinds.Trust)) = file_read es lines reads (file_name kinds.Trust) in
    let numcopies : entries_of es kinds.Numcopies ≡ newest kinds.Numcopies (lines (file_name kinds.Numcopies)) = file_read es lines reads (file_name kinds.Numcopies) in
    let mincopies : entries_of es kinds.Mincopies ≡ newest kinds.Mincopies (lines (file_name kinds.Mincopies)) = file_read es lines reads (file_name kinds.Mincopies) in
    let path_numcopies : entries_of es kinds.NumcopiesPath ≡ newest kinds.NumcopiesPath (lines (file_name kinds.NumcopiesPath)) = file_read es lines reads (file_name kinds.NumcopiesPath) in
    let path_mincopies : entries_of es kinds.MincopiesPath ≡ newest kinds.MincopiesPath (lines (file_name kinds.MincopiesPath)) = file_read es lines reads (file_name kinds.MincopiesPath) in
    let groups : entries_of es kinds.Group ≡ newest kinds.Group (lines (file_name kinds.Group)) = file_read es lines reads (file_name kinds.Group) in
    let descriptions : entries_of es kinds.Uuid ≡ newest kinds.Uuid (lines (file_name kinds.Uuid)) = file_read es lines reads (file_name kinds.Uuid) in
    let preferred : entries_of es kinds.Preferred ≡ newest kinds.Preferred (lines (file_name kinds.Preferred)) = file_read es lines reads (file_name kinds.Preferred) in
    let required : entries_of es kinds.Required ≡ newest kinds.Required (lines (file_name kinds.Required)) = file_read es lines reads (file_name kinds.Required) in
    let group_preferred : entries_of es kinds.GroupPreferred ≡ newest kinds.GroupPreferred (lines (file_name kinds.GroupPreferred)) = file_read es lines reads (file_name kinds.GroupPreferred) in
    let levels : level_among (entries_of es kinds.Trust) ≡ level lines = ap level_among trust in
    λ i. record {
      level = levels i;
      numcopies = number_among (numcopies i);
      mincopies = number_among (mincopies i);
      path_numcopies = patterns_of (path_numcopies i);
      path_mincopies = patterns_of (path_mincopies i);
      groups = groups_among (groups i);
      description = λ repo. text_among (descriptions i) (topics.Repo repo);
      preferred = λ repo. text_among (preferred i) (topics.Repo repo);
      required = λ repo. text_among (required i) (topics.Repo repo);
      group_preferred = λ group. text_among (group_preferred i) (topics.Group group);
      grouped = grouped_among (groups i);
      claims = λ key. claims_of_read lines key (level_among (entries_of es kinds.Trust)) (entries_at es (location_path key)) levels (log_read es lines reads key) i;
    }
