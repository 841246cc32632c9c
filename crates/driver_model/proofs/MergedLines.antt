-- A merge adds to each file of a branch the lines that it lacks. The branches of a run are well formed, so the merge leaves, path by
-- path, the union of the lines of both.
use Rattle.std.proofs.Common.{◌≡◌, ◌≢◌, ℕ, Bool, true, false, List, [], ◌∷◌, Option, Some, None, refl, sym, ap, ◌∙◌, subst}
use Rattle.std.specs.Prelude.{◌==◌, cond, if◌then◌else◌, reverse}
use Rattle.std.specs.BTreeMap.{is_at}
use Rattle.std.specs.Cmp.{Equal-is}
use Rattle.std.specs.Map.{keys_of}
use Rattle.std.specs.Ordering.{match_ordering}
use Rattle.std.specs.declared.cmp.Ordering.{Ordering}
use Rattle.std.specs.declared.cmp.Ordering.TheVariants.{Less, Equal, Greater}
use Rattle.std.proofs.lemmas.List.{reverse-reverse}
use Rattle.annex_base.specs.ByteOrder.{Before, IsInOrder, text_cmp}
use Rattle.annex_base.specs.Lists.{Each}
use Rattle.annex_base.specs.declared.kinds.Call.{Call}
use Rattle.annex_base.specs.declared.kinds.Call.TheVariants as calls
use Rattle.annex_base.proofs.Conditions.{eqb_other, eqb_refl, if_same}
use Rattle.annex_base.proofs.Lists.{Each-reverse}
use Rattle.annex_base.proofs.TextOrder.{BeforeAll, BeforeAll-trans, after_before, order_cons, order_head, order_nil, order_tail, same_text}
use Rattle.union_merge.specs.Branch.{Files, HasLinesOfBoth, IsBranch, file_at, lines_at, merge_by_path, merged_file, with_file, with_new_lines, with_some}
use Rattle.union_merge.specs.LineSet.{IsLine, IsLineSet, difference, union}
use Rattle.run_data.specs.declared.entry.Entry.{Entry}
use Rattle.run_data.specs.declared.entry.EntryKind.{EntryKind}
use Rattle.run_data.specs.declared.entry.EntryKind.TheVariants as kinds
use Rattle.run_data.specs.declared.entry.LogFile.{LogFile}
use Rattle.run_data.specs.declared.run.Run.{Run}
use Rattle.run_data.specs.Files.{HasPath, file_of, file_path, kind_of}
use Rattle.node_model.specs.Files.{compact_lines}
use Rattle.run_model.specs.Logs.{branch, branch_after, compact_file}
use Rattle.run_model.specs.Past.{is_of}
use Rattle.run_model.specs.Run.{IsRun}
use Rattle.driver_model.specs.Driver.{Driver, DriverInput, fails_at, notes}
use Rattle.driver_model.specs.Driving.{run_with}
use Rattle.driver_model.specs.Logged.{LogsWell}
use Rattle.driver_model.specs.ScriptSteps.{faults, is_nil, merges, merges_files, news}
use Rattle.driver_model.proofs.Logged.{compact_set}

-- ---- the laws that the proofs stand on

-- a path is that of the file which stands there
abbrev pub PathAgain : Type 0
PathAgain = (path : List ℕ) → file_path (file_of path) ≡ path

abbrev pub DoesLog : Entry → Type 0
DoesLog e = LogsWell e.kind e.lines

pub record MergeLaws : Type 0 where
  pub again : PathAgain
  pub line : (file : LogFile) → HasPath file → IsLine (file_path file)
  pub set : (files : Files) (path : List ℕ) → IsBranch files → IsLineSet (lines_at files path)
  pub unions : (xs ys : List (List ℕ)) → IsLineSet xs → IsLineSet ys → IsLineSet (union xs ys)
  pub both : (xs ys : Files) → IsBranch xs → IsBranch ys → HasLinesOfBoth xs ys (merge_by_path xs ys)
  pub log : (run : Run) → IsRun run → Each DoesLog run.entries

-- ---- one entry of a repository

noted : (d : Driver) (r : ℕ) (kind : EntryKind) (lines : List (List ℕ)) → branch (notes r kind lines d).past r ≡ branch_after (branch d.past r) kind lines
noted d r kind lines = ap (λ (b : Bool). if b then branch_after (branch d.past r) kind lines else branch d.past r) (eqb_refl r)

noted_other : (d : Driver) (r q : ℕ) (kind : EntryKind) (lines : List (List ℕ)) → q ≢ r → branch (notes r kind lines d).past q ≡ branch d.past q
noted_other d r q kind lines apart = ap (λ (b : Bool). if b then branch_after (branch d.past q) kind lines else branch d.past q) (eqb_other r q apart)

-- a call that fails leaves all branches
faulted : (d : Driver) (r q : ℕ) (call : Call) → branch (faults r call d).past q ≡ branch d.past q
faulted d r q call = if_same (r == q) (branch d.past q)

-- ---- the files that are merged, one by one

some_same : (was : Files) (path : List ℕ) (lines : List (List ℕ)) → is_nil lines ≡ true → with_some was path lines ≡ was
some_same was path [] i = refl
some_same was path (line ∷ lines) i = absurd (cc)

some_merged : (was : Files) (path : List ℕ) (lines : List (List ℕ)) → is_nil lines ≡ false → with_some was path lines ≡ merged_file was path lines
some_merged was path [] i = absurd (cc)
some_merged was path (line ∷ lines) i = refl

-- the new lines are those that the file of this path lacks
news_added : PathAgain → (d : Driver) (r : ℕ) (path : List ℕ) (lines : List (List ℕ)) → with_some (branch d.past r) path (news d r path lines) ≡ with_new_lines (branch d.past r) path lines
news_added again d r path lines = ap (λ (p : List ℕ). with_some (branch d.past r) path (difference lines (lines_at (branch d.past r) p))) (again path)

-- the branch after the new lines of a file are logged
news_logged : PathAgain → (d : Driver) (r : ℕ) (path : List ℕ) (lines : List (List ℕ)) → is_nil (news d r path lines) ≡ false
    → branch (notes r (kinds.Log (file_of path)) (news d r path lines) d).past r ≡ with_new_lines (branch d.past r) path lines
news_logged again d r path lines some =
    noted d r (kinds.Log (file_of path)) (news d r path lines) ∙ ap (λ (p : List ℕ). merged_file (branch d.past r) p (news d r path lines)) (again path)
    ∙ sym (some_merged (branch d.past r) path (news d r path lines) some) ∙ news_added again d r path lines

-- where there is no new line, the branch has them already
news_none : PathAgain → (d : Driver) (r : ℕ) (path : List ℕ) (lines : List (List ℕ)) → is_nil (news d r path lines) ≡ true → branch d.past r ≡ with_new_lines (branch d.past r) path lines
news_none again d r path lines none = sym (some_same (branch d.past r) path (news d r path lines) none) ∙ news_added again d r path lines

-- where no call fails, all files are merged path by path
pub merged_by_path : PathAgain → (r : ℕ) (files : Files) (d : Driver) → fails_at d r calls.PutFile ≡ false → branch (merges_files r files d).past r ≡ merge_by_path (branch d.past r) files
merged_by_path again r [] d well = refl
merged_by_path again r (f ∷ files) d well = go (merged_by_path again r files) (is_nil (news d r f.0 f.1)) refl (fails_at d r calls.PutFile) well
  where
    after : Driver
    after = notes r (kinds.Log (file_of f.0)) (news d r f.0 f.1) d

    go : ((d : Driver) → fails_at d r calls.PutFile ≡ false → branch (merges_files r files d).past r ≡ merge_by_path (branch d.past r) files)
        → (b : Bool) → is_nil (news d r f.0 f.1) ≡ b → (c : Bool) → c ≡ false
        → branch (if b then merges_files r files d else (if c then faults r calls.PutFile d else merges_files r files after)).past r ≡ merge_by_path (with_new_lines (branch d.past r) f.0 f.1) files
    go more true i c e = more d well ∙ ap (λ (was : Files). merge_by_path was files) (news_none again d r f.0 f.1 i)
    go more false i true e = absurd (cc)
    go more false i false e = more after well ∙ ap (λ (was : Files). merge_by_path was files) (news_logged again d r f.0 f.1 i)

-- where the call fails, all branches stay
pub none_merged : (r q : ℕ) (files : Files) (d : Driver) → fails_at d r calls.PutFile ≡ true → branch (merges_files r files d).past q ≡ branch d.past q
none_merged r q [] d fails = refl
none_merged r q (f ∷ files) d fails = go (none_merged r q files d fails) (is_nil (news d r f.0 f.1)) (fails_at d r calls.PutFile) fails
  where
    after : Driver
    after = notes r (kinds.Log (file_of f.0)) (news d r f.0 f.1) d

    go : branch (merges_files r files d).past q ≡ branch d.past q → (b c : Bool) → c ≡ true
        → branch (if b then merges_files r files d else (if c then faults r calls.PutFile d else merges_files r files after)).past q ≡ branch d.past q
    go more true c e = more
    go more false true e = faulted d r q calls.PutFile
    go more false false e = absurd (cc)

-- the branches of others stay
pub others_merged : (r q : ℕ) → q ≢ r → (files : Files) (d : Driver) → branch (merges_files r files d).past q ≡ branch d.past q
others_merged r q apart [] d = refl
others_merged r q apart (f ∷ files) d = go (others_merged r q apart files) (is_nil (news d r f.0 f.1)) (fails_at d r calls.PutFile)
  where
    after : Driver
    after = notes r (kinds.Log (file_of f.0)) (news d r f.0 f.1) d

    go : ((d : Driver) → branch (merges_files r files d).past q ≡ branch d.past q) → (b c : Bool)
        → branch (if b then merges_files r files d else (if c then faults r calls.PutFile d else merges_files r files after)).past q ≡ branch d.past q
    go more true c = more d
    go more false true = faulted d r q calls.PutFile
    go more false false = more after ∙ noted_other d r q (kinds.Log (file_of f.0)) (news d r f.0 f.1) apart

-- ---- the branches of a run

-- what comes before all paths, and before one more, comes before all with it
before_with : (first path : List ℕ) (lines : List (List ℕ)) (files : Files) → Before first path → BeforeAll first (keys_of files) → BeforeAll first (keys_of (with_file files path lines))
before_with first path lines [] less all = (less, tt)
before_with first path lines (f ∷ files) less all = go (before_with first path lines files less all.1) (text_cmp path f.0)
  where
    go : BeforeAll first (keys_of (with_file files path lines)) → (o : Ordering)
        → BeforeAll first (keys_of (match_ordering o ((path, lines) ∷ f ∷ files) ((f.0, lines) ∷ files) (f ∷ with_file files path lines)))
    go more Less = (less, all)
    go more Equal = all
    go more Greater = (all.0, more)

order_with : (path : List ℕ) (lines : List (List ℕ)) (files : Files) → IsInOrder (keys_of files) → IsInOrder (keys_of (with_file files path lines))
order_with path lines [] sorted = order_cons path [] tt order_nil
order_with path lines (f ∷ files) sorted = go (order_with path lines files rest) (text_cmp path f.0) refl
  where
    first : BeforeAll f.0 (keys_of files)
    first = order_head f.0 (keys_of files) sorted

    rest : IsInOrder (keys_of files)
    rest = order_tail f.0 (keys_of files) sorted

    go : IsInOrder (keys_of (with_file files path lines)) → (o : Ordering) → text_cmp path f.0 ≡ o
        → IsInOrder (keys_of (match_ordering o ((path, lines) ∷ f ∷ files) ((f.0, lines) ∷ files) (f ∷ with_file files path lines)))
    go more Less i = order_cons path (keys_of (f ∷ files)) (i, BeforeAll-trans path f.0 (keys_of files) i first) sorted
    go more Equal i = sorted
    go more Greater i = order_cons f.0 (keys_of (with_file files path lines)) (before_with f.0 path lines files (after_before path f.0 i) first) more

abbrev IsFile : List ℕ × List (List ℕ) → Type 0
IsFile f = IsLine f.0 × IsLineSet f.1

each_with : (path : List ℕ) (lines : List (List ℕ)) (files : Files) → IsFile (path, lines) → Each IsFile files → Each IsFile (with_file files path lines)
each_with path lines [] is all = (is, tt)
each_with path lines (f ∷ files) is all = go (each_with path lines files is all.1) (text_cmp path f.0)
  where
    go : Each IsFile (with_file files path lines) → (o : Ordering) → Each IsFile (match_ordering o ((path, lines) ∷ f ∷ files) ((f.0, lines) ∷ files) (f ∷ with_file files path lines))
    go more Less = (is, all)
    go more Equal = ((all.0.0, is.1), all.1)
    go more Greater = (all.0, more)

with_is : (path : List ℕ) (lines : List (List ℕ)) (files : Files) → IsFile (path, lines) → IsBranch files → IsBranch (with_file files path lines)
with_is path lines files is well = record { sorted = order_with path lines files well.sorted; each = each_with path lines files is well.each }

-- a file that is there
file_there : (path : List ℕ) (lines : List (List ℕ)) (files : Files) → Each IsFile files → file_at files path ≡ Some lines → IsFile (path, lines)
file_there path lines [] all e = absurd (cc)
file_there path lines (f ∷ files) all e = go (file_there path lines files all.1) (is_at (text_cmp path) f.0) refl e
  where
    go : (file_at files path ≡ Some lines → IsFile (path, lines)) → (b : Bool) → is_at (text_cmp path) f.0 ≡ b → cond b (Some f.1) (file_at files path) ≡ Some lines → IsFile (path, lines)
    go more true i e = let same : f.1 ≡ lines = cc in (subst IsLine (sym (same_text path f.0 ((Equal-is (text_cmp path f.0)).0 i))) all.0.0, subst IsLineSet same all.0.1)
    go more false i e = more e

compacted_is : (file : LogFile) (was : Files) → IsBranch was → (o : Option (List (List ℕ))) → file_at was (file_path file) ≡ o → IsBranch (compact_file file was o)
compacted_is file was well None i = well
compacted_is file was well (Some lines) i =
    let is = file_there (file_path file) lines was well.each i in
    with_is (file_path file) (compact_lines (kind_of file) lines) was (is.0, compact_set (kind_of file) lines is.1) well

module _ (laws : MergeLaws) where
  after_is : (was : Files) (kind : EntryKind) (lines : List (List ℕ)) → LogsWell kind lines → IsBranch was → IsBranch (branch_after was kind lines)
  after_is was (kinds.Log file) lines logs well =
      with_is (file_path file) (union (lines_at was (file_path file)) lines) was
      (laws.line file logs.0, laws.unions (lines_at was (file_path file)) lines (laws.set was (file_path file) well) logs.2) well
  after_is was (kinds.Compact file) lines logs well = compacted_is file was well (file_at was (file_path file)) refl
  after_is was kind lines logs well = well

  branch_is : (past : List Entry) (r : ℕ) → Each DoesLog past → IsBranch (branch past r)
  branch_is [] r all = record { sorted = order_nil; each = tt }
  branch_is (e ∷ past) r all = go (branch_is past r all.1) (is_of r e)
    where
      go : IsBranch (branch past r) → (b : Bool) → IsBranch (if b then branch_after (branch past r) e.kind e.lines else branch past r)
      go well true = after_is (branch past r) e.kind e.lines all.0 well
      go well false = well

  -- the branch of each repository of a run
  run_branch_is : (g : DriverInput) (d : Driver) → IsRun (run_with g d) → (r : ℕ) → IsBranch (branch d.past r)
  run_branch_is g d run r = branch_is d.past r (subst (Each DoesLog) (reverse-reverse d.past) (Each-reverse DoesLog (reverse d.past) (laws.log (run_with g d) run)))

  -- ---- the lines of both

  pub merged_union : (g : DriverInput) (r other : ℕ) (d : Driver) → IsRun (run_with g d) → fails_at d r calls.PutFile ≡ false
      → HasLinesOfBoth (branch d.past r) (branch d.past other) (branch (merges r other d).past r)
  merged_union g r other d run well path =
      ap (λ (files : Files). lines_at files path) (merged_by_path laws.again r (branch d.past other) d well)
      ∙ laws.both (branch d.past r) (branch d.past other) (run_branch_is g d run r) (run_branch_is g d run other) path
