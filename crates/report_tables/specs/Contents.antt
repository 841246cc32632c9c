-- What a table of contents knows (own).
use Rattle.std.specs.Prelude.{◌≡◌, ℕ, ◌<◌, Bool, List, [], length}
use Rattle.std.specs.List.{slice_index_or}
use Rattle.std.specs.Ordering.{nat_cmp}
use Rattle.std.specs.BTreeSet.{BTreeSet, btree_set_len, contains}
use Rattle.std.specs.Cmp.Lexicographic.{slice_cmp}
use Rattle.std.specs.declared.cmp.Ordering.{Ordering}
use Rattle.run_data.specs.declared.entry.Entry.{Entry}
use Rattle.report_tables.specs.declared.contents.Contents.{Contents}
use Rattle.run_model.specs.Past.{present}
use Rattle.report_tables.specs.Before.{total}

-- keys are ordered by their texts
abbrev pub key_cmp : List ℕ → List ℕ → Ordering
key_cmp = slice_cmp nat_cmp

abbrev pub no_keys : BTreeSet (List ℕ)
no_keys = record { keys = [] }

-- whether the repository, by the sets of keys of each, has the key
abbrev pub knows : List (BTreeSet (List ℕ)) → ℕ → List ℕ → Bool
knows sets r key = contains key_cmp (slice_index_or sets r no_keys) key

-- how many keys it has
abbrev pub count_of : List (BTreeSet (List ℕ)) → ℕ → ℕ
count_of sets r = btree_set_len (slice_index_or sets r no_keys)

-- the table has so many repositories, and knows of each which keys it has, and how many, after these entries, the newest first
pub record Tracks (contents : Contents) (repositories : ℕ) (past : List Entry) : Type 0 where
  pub number_is : length contents.sets.items ≡ repositories
  pub known : (r : ℕ) (key : List ℕ) → r < repositories → knows contents.sets.items r key ≡ present past r key
  pub count : (r : ℕ) → r < repositories → count_of contents.sets.items r ≡ total past r
