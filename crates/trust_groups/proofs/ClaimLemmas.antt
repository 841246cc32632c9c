-- Which repositories are claimed to have a key, and which are in a group.
use Rattle.std.proofs.Common.{◌≡◌, ◌≢◌, ◌↔◌, ℕ, ◌≤◌, true, false, not, List, [], ◌∷◌, filter, Option, Some, None, refl, sym, ap, ◌∙◌, arith}
use Rattle.std.specs.List.Sorted.{IsStrictlySortedBy}
use Rattle.std.proofs.lemmas.Bool.{and_parts, false≢true}
use Rattle.annex_base.specs.ByteOrder.{text_cmp}
use Rattle.annex_base.specs.Lists.{Member}
use Rattle.annex_base.specs.declared.kinds.Level.{Level}
use Rattle.annex_base.proofs.Lists.{Member-filter_parts, Member-filter_from}
use Rattle.annex_base.specs.declared.kinds.Level.TheVariants as levels
use Rattle.log_lines.specs.declared.entry.LogKind.{LogKind}
use Rattle.log_lines.specs.declared.entry.LogKind.TheVariants as kinds
use Rattle.log_lines.specs.declared.entry.Topic.{Topic}
use Rattle.log_lines.specs.declared.entry.Topic.TheVariants as topics
use Rattle.log_lines.specs.declared.entry.Value.{Value}
use Rattle.log_lines.specs.declared.entry.Value.TheVariants as values
use Rattle.log_lines.specs.declared.entry.Entry.{Entry}
use Rattle.log_lines.specs.Newest.{IsReading, newest, entry_at}
use Rattle.log_lines.specs.Files.{file_name}
use Rattle.hash_dirs.specs.LogPath.{location_path}
use Rattle.trust_groups.specs.Settings.{Lines, location_entries, value_in, groups_in, number_in, level, groups, is_dead, is_present, repo_of, are_dead, is_claim, claims, is_some, has_groups, repos_in_groups}
use Rattle.trust_groups.specs.Claims.{IsClaimed}
use Rattle.trust_groups.specs.Kept.{groups_among, grouped_among}
use Rattle.trust_groups.proofs.RepoLemmas.{IsRising, repos_member, member_repos, repos_sorted}

-- ---- two laws of logs, as the lemmas take them

-- the newest entries of lines are their reading
abbrev pub AreReadings : Type 0
AreReadings = (kind : LogKind) (lines : List (List ℕ)) → IsReading kind lines (newest kind lines)

-- entries in order of topic are found by their topics
abbrev pub AreFound : Type 0
AreFound = (es : List Entry) (topic : Topic) (e : Entry) → IsRising es → (entry_at es topic ≡ Some e) ↔ (Member e es × (e.topic ≡ topic))

-- ---- tests

present_is : (v : Value) → is_present v ≡ true → v ≡ values.Present
present_is values.Present h = refl
present_is v h = absurd (false≢true h)

dead_is : (l : Level) → l ≡ levels.Dead → is_dead l ≡ true
dead_is l is = ap is_dead is

alive_is : (l : Level) → l ≢ levels.Dead → is_dead l ≡ false
alive_is levels.Dead h = absurd (h refl)
alive_is levels.Untrusted h = refl
alive_is levels.Semitrusted h = refl
alive_is levels.Trusted h = refl

pub not_dead : (l : Level) → not (is_dead l) ≡ true → l ≢ levels.Dead
not_dead l h is = absurd (false≢true (sym (ap not (dead_is l is)) ∙ h))

some_groups : (gs : List (List ℕ)) → is_some gs ≡ true → gs ≢ []
some_groups gs h none = absurd (false≢true (ap is_some (sym none) ∙ h))

groups_some : (gs : List (List ℕ)) → gs ≢ [] → is_some gs ≡ true
groups_some [] h = absurd (h refl)
groups_some (g ∷ gs) h = refl

-- ---- claims

alive_claim : (lines : Lines) (e : Entry) (repo : List ℕ) → e.topic ≡ topics.Repo repo → are_dead lines (repo_of e.topic) ≡ is_dead (level lines repo)
alive_claim lines e repo topic = ap (λ t. are_dead lines (repo_of t)) topic

claimed_is : AreReadings → AreFound → (lines : Lines) (key repo : List ℕ) → Member repo (claims lines key) → IsClaimed lines key repo
claimed_is reading finds lines key repo among =
    let es = location_entries lines key in
    let found = repos_member (filter (is_claim lines) es) repo among in
    let stands = Member-filter_parts (is_claim lines) es found.entry found.among in
    let both = and_parts (is_present found.entry.value) (not (are_dead lines (repo_of found.entry.topic))) stands.1 in
    record {
      entry = found.entry;
      newest = (finds es (topics.Repo repo) found.entry (reading kinds.Location (lines (location_path key))).sorted).1 (stands.0, found.topic);
      present = present_is found.entry.value both.0;
      alive = not_dead (level lines repo) (ap not (sym (alive_claim lines found.entry repo found.topic)) ∙ both.1);
    }

is_claimed : AreReadings → AreFound → (lines : Lines) (key repo : List ℕ) → IsClaimed lines key repo → Member repo (claims lines key)
is_claimed reading finds lines key repo is =
    let es = location_entries lines key in
    let found = (finds es (topics.Repo repo) is.entry (reading kinds.Location (lines (location_path key))).sorted).0 is.newest in
    let present : is_present is.entry.value ≡ true = ap is_present is.present in
    let alive : are_dead lines (repo_of is.entry.topic) ≡ false = alive_claim lines is.entry repo found.1 ∙ alive_is (level lines repo) is.alive in
    let test : is_claim lines is.entry ≡ true = rw (present, alive) refl in
    member_repos (filter (is_claim lines) es) repo is.entry (Member-filter_from (is_claim lines) es is.entry found.0 test) found.1

pub claims_exact : AreReadings → AreFound → (lines : Lines) (key repo : List ℕ) → Member repo (claims lines key) ↔ IsClaimed lines key repo
claims_exact reading finds lines key repo = (claimed_is reading finds lines key repo, is_claimed reading finds lines key repo)

pub claims_sorted : AreReadings → (lines : Lines) (key : List ℕ) → IsStrictlySortedBy text_cmp (claims lines key)
claims_sorted reading lines key = repos_sorted (is_claim lines) (location_entries lines key) (reading kinds.Location (lines (location_path key))).sorted

-- ---- groups

grouped_is : AreFound → (es : List Entry) (repo : List ℕ) → IsRising es → Member repo (grouped_among es) → groups_among es repo ≢ []
grouped_is finds es repo rising among =
    let found = repos_member (filter has_groups es) repo among in
    let stands = Member-filter_parts has_groups es found.entry found.among in
    let newest : entry_at es (topics.Repo repo) ≡ Some found.entry = (finds es (topics.Repo repo) found.entry rising).1 (stands.0, found.topic) in
    some_groups (groups_among es repo) (ap (λ o. is_some (groups_in (value_in o))) newest ∙ stands.1)

is_grouped : AreFound → (es : List Entry) (repo : List ℕ) → IsRising es → (o : Option Entry) → entry_at es (topics.Repo repo) ≡ o → groups_in (value_in o) ≢ [] → Member repo (grouped_among es)
is_grouped finds es repo rising None is some = absurd (some refl)
is_grouped finds es repo rising (Some e) is some =
    let found = (finds es (topics.Repo repo) e rising).0 is in
    member_repos (filter has_groups es) repo e (Member-filter_from has_groups es e found.0 (groups_some (groups_in (Some e.value)) some)) found.1

-- of entries in order of topic
pub grouped_among-exact : AreFound → (es : List Entry) (repo : List ℕ) → IsRising es → Member repo (grouped_among es) ↔ (groups_among es repo ≢ [])
grouped_among-exact finds es repo rising = (grouped_is finds es repo rising, is_grouped finds es repo rising (entry_at es (topics.Repo repo)) refl)

pub grouped_among-sorted : (es : List Entry) → IsRising es → IsStrictlySortedBy text_cmp (grouped_among es)
grouped_among-sorted es rising = repos_sorted has_groups es rising

-- of a branch
pub grouped_exact : AreReadings → AreFound → (lines : Lines) (repo : List ℕ) → Member repo (repos_in_groups lines) ↔ (groups lines repo ≢ [])
grouped_exact reading finds lines repo = let file = lines (file_name kinds.Group) in grouped_among-exact finds (newest kinds.Group file) repo (reading kinds.Group file).sorted

pub grouped_sorted : AreReadings → (lines : Lines) → IsStrictlySortedBy text_cmp (repos_in_groups lines)
grouped_sorted reading lines = let file = lines (file_name kinds.Group) in grouped_among-sorted (newest kinds.Group file) (reading kinds.Group file).sorted

-- ---- numbers

pub some_number : (o : Option Value) → 1 ≤ number_in o
some_number (Some (values.Number n)) = omega arith
some_number (Some values.Gone) = omega arith
some_number (Some values.Absent) = omega arith
some_number (Some values.Present) = omega arith
some_number (Some (values.Level l)) = omega arith
some_number (Some (values.Text t)) = omega arith
some_number (Some (values.Groups gs)) = omega arith
some_number None = omega arith
