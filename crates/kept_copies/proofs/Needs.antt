-- No branch asks for fewer than one copy, whatever paths a content has.
use Rattle.std.proofs.Common.{ℕ, ◌≤◌, List, [], ◌∷◌, filter, fold, map, max, Some, arith}
use Rattle.annex_base.specs.Lists.{Each}
use Rattle.annex_base.proofs.Lists.{Each-always, Each-filter, Each-flat_map, Each-map}
use Rattle.glob_match.specs.Numbers.{greatest_or, mincopies_of, number_of_path, number_of_paths, pattern_matches}
use Rattle.log_lines.specs.declared.entry.Entry.{Entry}
use Rattle.log_lines.specs.declared.entry.LogKind.TheVariants as kinds
use Rattle.log_lines.specs.declared.entry.Topic.{Topic}
use Rattle.log_lines.specs.declared.entry.Topic.TheVariants as topics
use Rattle.log_lines.specs.declared.entry.Value.{Value}
use Rattle.log_lines.specs.declared.entry.Value.TheVariants as values
use Rattle.log_lines.specs.Files.{file_name}
use Rattle.log_lines.specs.Newest.{newest}
use Rattle.trust_groups.specs.Settings.{Lines, mincopies, number_in, path_numbers, pattern_in, patterns_of, settings}
use Rattle.node_model.specs.Knows.{need_by}

-- the whole number of each branch is at least 1
abbrev pub WantSome : Type 0
WantSome = (lines : Lines) → 1 ≤ mincopies lines

-- ---- the greatest of numbers that are at least 1

fold_some : (n : ℕ) (ns : List ℕ) → 1 ≤ n → 1 ≤ fold max n ns
fold_some n [] h = h
fold_some n (m ∷ ns) h = fold_some (max n m) ns (omega (arith, h))

greatest_some : (none : ℕ) (ns : List ℕ) → 1 ≤ none → Each (λ n. 1 ≤ n) ns → 1 ≤ greatest_or none ns
greatest_some none [] h all = h
greatest_some none (n ∷ ns) h all = fold_some n ns all.0

-- a pattern with its number
abbrev Pattern : Type 0
Pattern = List ℕ × ℕ

abbrev IsSome : Pattern → Type 0
IsSome p = 1 ≤ p.1

path_some : (whole : ℕ) (patterns : List Pattern) (path : List ℕ) → 1 ≤ whole → Each IsSome patterns → 1 ≤ number_of_path whole patterns path
path_some whole patterns path h all =
    greatest_some whole (map (λ (p : Pattern). p.1) matching) h (Each-map (λ (n : ℕ). 1 ≤ n) (λ (p : Pattern). p.1) matching (Each-filter IsSome (λ (p : Pattern). pattern_matches p.0 path) patterns all))
  where
    matching : List Pattern
    matching = filter (λ (p : Pattern). pattern_matches p.0 path) patterns

paths_some : (whole : ℕ) (patterns : List Pattern) (paths : List (List ℕ)) → 1 ≤ whole → Each IsSome patterns → 1 ≤ number_of_paths whole patterns paths
paths_some whole patterns paths h all =
    greatest_some whole (map (number_of_path whole patterns) paths) h
    (Each-map (λ (n : ℕ). 1 ≤ n) (number_of_path whole patterns) paths (Each-always (λ path. 1 ≤ number_of_path whole patterns path) (λ path. path_some whole patterns path h all) paths))

-- ---- the numbers of a branch

number_some : (v : Value) → 1 ≤ number_in (Some v)
number_some (values.Number n) = omega arith
number_some values.Gone = omega arith
number_some values.Absent = omega arith
number_some values.Present = omega arith
number_some (values.Level l) = omega arith
number_some (values.Text t) = omega arith
number_some (values.Groups gs) = omega arith

pattern_some : (topic : Topic) (n : ℕ) → 1 ≤ n → Each IsSome (pattern_in topic n)
pattern_some (topics.Pattern glob) n h = (h, tt)
pattern_some (topics.Repo id) n h = tt
pattern_some (topics.Group name) n h = tt
pattern_some topics.Whole n h = tt

patterns_some : (es : List Entry) → Each IsSome (patterns_of es)
patterns_some es =
    Each-flat_map IsSome (λ (e : Entry). pattern_in e.topic (number_in (Some e.value))) es
    (Each-always (λ (e : Entry). Each IsSome (pattern_in e.topic (number_in (Some e.value)))) (λ e. pattern_some e.topic (number_in (Some e.value)) (number_some e.value)) es)

mincopies_some : WantSome → (lines : Lines) (paths : List (List ℕ)) → 1 ≤ mincopies_of (settings lines) paths
mincopies_some wanted lines paths =
    paths_some (mincopies lines) (path_numbers kinds.MincopiesPath lines) paths (wanted lines) (patterns_some (newest kinds.MincopiesPath (lines (file_name kinds.MincopiesPath))))

-- the mincopies that a branch gives are at least 1
pub need_some : WantSome → (lines : Lines) (paths : List (List ℕ)) → 1 ≤ (need_by (settings lines) paths).m
unfolding need_by
need_some wanted lines paths = mincopies_some wanted lines paths
