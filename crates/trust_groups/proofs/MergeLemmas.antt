-- What merges, compactions and a branch's own lines keep.
use Rattle.std.proofs.Common.{◌≡◌, ◌≢◌, ◌↔◌, ◌⊎◌, inl, inr, ℕ, List, [], ◌∷◌, ◌++◌, refl, sym, ap, subst, bytes_eq}
use Rattle.annex_base.specs.Lists.{Member, Each}
use Rattle.annex_base.proofs.Lists.{Member-append_cases, Member-append_left, Member-append_right}
use Rattle.annex_base.proofs.Conditions.{by_test}
use Rattle.log_lines.specs.declared.entry.LogKind.{LogKind}
use Rattle.log_lines.specs.declared.entry.LogKind.TheVariants as kinds
use Rattle.log_lines.specs.Newest.{newest}
use Rattle.log_lines.specs.Keeping.{SameLines, Keeps}
use Rattle.log_lines.specs.Keeping.Keeps.{Empty, Add, Merge, Arrange, Compact}
use Rattle.union_merge.specs.LineSet.{union}
use Rattle.union_merge.specs.Branch.{Files, IsBranch, lines_at, merged_branch, merged_branches}
use Rattle.log_lines.specs.Files.{file_name}
use Rattle.hash_dirs.specs.LogPath.{location_path}
use Rattle.trust_groups.specs.Settings.{Lines, settings}
use Rattle.trust_groups.specs.Alike.{SameFiles, KeepsFiles, MayCompact, CompactsFiles, IsNoLog}
use Rattle.trust_groups.specs.Reads.{lines_with}
use Rattle.trust_groups.proofs.SameLemmas.{settings-same}
use Rattle.std.proofs.lemmas.Slice.Eq.{bytes_eq-Decides}

own_lines : (kind : LogKind) (lines : List (List ℕ)) → Keeps kind lines lines
own_lines kind lines = Add [] [] lines Empty

pub own_files : (x : Lines) → KeepsFiles x x
own_files x = record {
  files = λ kind other. own_lines kind (x (file_name kind));
  locations = λ key. own_lines kinds.Location (x (location_path key));
}

still_kept : (kind : LogKind) (old new ever : List (List ℕ)) → MayCompact kind old new → Keeps kind old ever → Keeps kind new ever
still_kept kind old new ever (inl same) keeps = subst (λ lines. Keeps kind lines ever) (sym same) keeps
still_kept kind old new ever (inr less) keeps = subst (λ lines. Keeps kind lines ever) (sym less) (Compact old ever keeps)

pub compacted_files : (old new ever : Lines) → CompactsFiles old new → KeepsFiles old ever → KeepsFiles new ever
compacted_files old new ever compacts keeps = record {
  files = λ kind other. still_kept kind (old (file_name kind)) (new (file_name kind)) (ever (file_name kind)) (compacts.files kind other) (keeps.files kind other);
  locations = λ key. still_kept kinds.Location (old (location_path key)) (new (location_path key)) (ever (location_path key)) (compacts.locations key) (keeps.locations key);
}

added_lines : (kind : LogKind) (kept ever new : Lines) (path line q : List ℕ) → Keeps kind (kept q) (ever q) → SameFiles (lines_with kept path line) new → Keeps kind (new q) (lines_with ever path line q)
added_lines kind kept ever new path line q keeps same =
    Arrange (lines_with kept path line q) (lines_with ever path line q) (new q) (same q)
    (by_test (bytes_eq path q) (λ t. rw t (Add (kept q) (ever q) (line ∷ []) keeps)) (λ t. rw t keeps))

pub added_files : (kept ever new : Lines) (path line : List ℕ) → KeepsFiles kept ever → SameFiles (lines_with kept path line) new → KeepsFiles new (lines_with ever path line)
added_files kept ever new path line keeps same = record {
  files = λ kind other. added_lines kind kept ever new path line (file_name kind) (keeps.files kind other) same;
  locations = λ key. added_lines kinds.Location kept ever new path line (location_path key) (keeps.locations key) same;
}

elsewhere : (lines : Lines) (path line q : List ℕ) → path ≢ q → lines_with lines path line q ≡ lines q
elsewhere lines path line q apart = by_test (bytes_eq path q) (λ t. absurd (apart ((bytes_eq-Decides path q).0 t))) (λ t. rw t refl)

-- a line of a file that is no log
pub other_file : (lines : Lines) (path line : List ℕ) → IsNoLog path → settings (lines_with lines path line) ≡ settings lines
other_file lines path line none = settings-same (lines_with lines path line) lines (record {
  files = λ kind other. ap (newest kind) (elsewhere lines path line (file_name kind) (none.files kind other));
  locations = λ key. ap (newest kinds.Location) (elsewhere lines path line (location_path key) (none.locations key));
})

-- the laws of unions and of merges, as the lemmas take them
abbrev HasBoth : Type 0
HasBoth = (xs ys : List (List ℕ)) (line : List ℕ) → Member line (union xs ys) ↔ (Member line xs ⊎ Member line ys)

abbrev MergesByPath : Type 0
MergesByPath = (xs ys : Files) (path : List ℕ) → IsBranch xs → IsBranch ys → lines_at (merged_branch xs ys) path ≡ union (lines_at xs path) (lines_at ys path)

abbrev AnyOrder : Type 0
AnyOrder = (start : Files) (xs ys : List Files) → IsBranch start → Each IsBranch xs → Each IsBranch ys → ((b : Files) → Member b xs ↔ Member b ys) → merged_branches start xs ≡ merged_branches start ys

both_lines : HasBoth → (xs ys : List (List ℕ)) → SameLines (xs ++ ys) (union xs ys)
both_lines both xs ys line = (
  λ among. elim (Member-append_cases xs ys line among) [ inl left ↦ (both xs ys line).1 (inl left) | inr right ↦ (both xs ys line).1 (inr right) ],
  λ among. elim ((both xs ys line).0 among) [ inl left ↦ Member-append_left xs ys line left | inr right ↦ Member-append_right xs ys line right ],
)

merged_lines : HasBoth → MergesByPath → (kind : LogKind) (xs ys : Files) (ever others : Lines) (path : List ℕ) → IsBranch xs → IsBranch ys
    → Keeps kind (lines_at xs path) (ever path) → Keeps kind (lines_at ys path) (others path) → Keeps kind (lines_at (merged_branch xs ys) path) (ever path ++ others path)
merged_lines both merges kind xs ys ever others path one two first second =
    let ours = lines_at xs path in
    let theirs = lines_at ys path in
    subst (λ lines. Keeps kind lines (ever path ++ others path)) (sym (merges xs ys path one two))
    (Arrange (ours ++ theirs) (ever path ++ others path) (union ours theirs) (both_lines both ours theirs) (Merge ours (ever path) theirs (others path) first second))

pub merged_files : HasBoth → MergesByPath → (xs ys : Files) (ever others : Lines) → IsBranch xs → IsBranch ys → KeepsFiles (lines_at xs) ever → KeepsFiles (lines_at ys) others → KeepsFiles (lines_at (merged_branch xs ys)) (λ path. ever path ++ others path)
merged_files both merges xs ys ever others one two first second = record {
  files = λ kind other. merged_lines both merges kind xs ys ever others (file_name kind) one two (first.files kind other) (second.files kind other);
  locations = λ key. merged_lines both merges kinds.Location xs ys ever others (location_path key) one two (first.locations key) (second.locations key);
}

pub any_order : AnyOrder → (start : Files) (xs ys : List Files) → IsBranch start → Each IsBranch xs → Each IsBranch ys → ((b : Files) → Member b xs ↔ Member b ys) → settings (lines_at (merged_branches start xs)) ≡ settings (lines_at (merged_branches start ys))
any_order order start xs ys is first second same = ap (λ b. settings (lines_at b)) (order start xs ys is first second same)
