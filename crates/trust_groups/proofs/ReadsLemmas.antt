-- What settings have read, while lines are added.
use Rattle.std.proofs.Common.{◌≡◌, ℕ, ◌+◌, ◌<◌, true, false, if◌then◌else◌, List, [], ◌∷◌, ◌++◌, length, take, get_or, Option, Some, None, refl, sym, ap, subst, ◌∙◌, append_assoc, bytes_eq}
use Rattle.std.specs.declared.vec.Vec.{Vec}
use Rattle.std.specs.declared.alloc.Global.{Global}
use Rattle.std.specs.declared.cmp.Ordering.TheVariants.{Less}
use Rattle.std.specs.Ordering.{is_eq}
use Rattle.std.specs.List.{AllByRecursion}
use Rattle.std.specs.List.Sorted.{IsStrictlySortedBy}
use Rattle.std.specs.Map.{keys_of}
use Rattle.std.specs.BTreeMap.{insert_entry}
use Rattle.std.proofs.lemmas.Map.Text.{is_eq-slice_cmp}
use Rattle.std.proofs.lemmas.List.{append-nil, take_more}
use Rattle.std.proofs.lemmas.List.Sums.{fold-append}
use Rattle.std.proofs.lemmas.Slice.Eq.{bytes_eq-Decides}
use Rattle.std.proofs.lemmas.Bool.{false_from_ne_true, false≢true}
use Rattle.annex_base.specs.ByteOrder.{text_cmp}
use Rattle.log_lines.specs.declared.entry.Entry.{Entry}
use Rattle.log_lines.specs.declared.entry.LogKind.{LogKind}
use Rattle.log_lines.specs.Newest.{newest, with_entry_if}
use Rattle.log_lines.specs.Reading.{entry_of}
use Rattle.log_lines.specs.Index.{Index, empty_index, index_with, index_of}
use Rattle.annex_base.specs.ByteOrder.{path_cmp}
use Rattle.annex_base.proofs.Conditions.{by_test}
use Rattle.annex_base.proofs.Rows.{shown-insert_entry}
use Rattle.union_merge.specs.FileView as view
use Rattle.union_merge.specs.Branch.{Files, IsBranch, lines_at}
use Rattle.trust_groups.specs.Settings.{Lines}
use Rattle.trust_groups.specs.Adding.{indices_and, indices_with, is_nil, lines_and}
use Rattle.trust_groups.specs.Reads.{Indices, IsIndexOf, HaveReadLines, index_at, kind_at, lines_with, view_of}
use Rattle.trust_groups.proofs.IndexLemmas.{put_other, put_own, set_other, set_own}

-- ---- the index of one file

abbrev indexed : LogKind → List Entry → Index
indexed kind es = record { kind = kind; entries = es }

index_more : (kind : LogKind) (lines : List (List ℕ)) (line : List ℕ) → index_with (index_of kind lines) line ≡ index_of kind (lines ++ line ∷ [])
index_more kind lines line = ap (indexed kind) (sym (fold-append (λ es l. with_entry_if es (entry_of kind l)) [] lines (line ∷ [])))

nil_is : (es : List Entry) → is_nil es ≡ true → es ≡ []
nil_is [] h = refl
nil_is (e ∷ es) h = absurd (false≢true h)

pub some_entries : (es : List Entry) → (es ≡ [] → ⊥) → is_nil es ≡ false
some_entries [] h = absurd (h refl)
some_entries (e ∷ es) h = refl

first_more : (kind : LogKind) (lines : List (List ℕ)) (line : List ℕ) → newest kind lines ≡ [] → index_with (empty_index kind) line ≡ index_of kind (lines ++ line ∷ [])
first_more kind lines line none = ap (λ es. index_with (indexed kind es) line) (sym none) ∙ index_more kind lines line

-- ---- the lines of other files stay

pub reads_same : (es : Indices) (x y : Lines) → ((path : List ℕ) → x path ≡ y path) → HaveReadLines es x → HaveReadLines es y
reads_same es x y same reads path = subst (IsIndexOf (index_at es path) (kind_at path)) (same path) (reads path)

own_or_other : (es : Indices) (path line : List ℕ) (lines : Lines) → IsIndexOf (index_at es path) (kind_at path) (lines path ++ line ∷ []) → ((q : List ℕ) → (path ≡ q → ⊥) → IsIndexOf (index_at es q) (kind_at q) (lines q)) → HaveReadLines es (lines_with lines path line)
own_or_other es path line lines own rest q =
    by_test (bytes_eq path q)
    (λ t. rw t (subst (λ (p : List ℕ). IsIndexOf (index_at es p) (kind_at p) (lines p ++ line ∷ [])) ((bytes_eq-Decides path q).0 t) own))
    (λ t. rw t (rest q (λ same. absurd (false≢true (sym t ∙ (bytes_eq-Decides path q).1 same)))))

pub known_reads : (es : Indices) (path line : List ℕ) (index : Index) (lines : Lines) → index_at es path ≡ Some index → HaveReadLines es lines → HaveReadLines (indices_with es path (index_with index line)) (lines_with lines path line)
known_reads es path line index lines found reads =
    let was : index ≡ index_of (kind_at path) (lines path) = subst (λ (o : Option Index). IsIndexOf o (kind_at path) (lines path)) found (reads path) in
    own_or_other (indices_with es path (index_with index line)) path line lines
    (subst (λ (o : Option Index). IsIndexOf o (kind_at path) (lines path ++ line ∷ [])) (sym (set_own es path index (index_with index line) found))
    (ap (λ (i : Index). index_with i line) was ∙ index_more (kind_at path) (lines path) line))
    (λ q apart. subst (λ (o : Option Index). IsIndexOf o (kind_at q) (lines q)) (sym (set_other es path q (index_with index line) apart)) (reads q))

pub first_reads : (es : Indices) (path line : List ℕ) (lines : Lines) → index_at es path ≡ None → HaveReadLines es lines → HaveReadLines (indices_and es path (index_with (empty_index (kind_at path)) line)) (lines_with lines path line)
first_reads es path line lines absent reads =
    let kind = kind_at path in
    let index = index_with (empty_index kind) line in
    let none : newest kind (lines path) ≡ [] = subst (λ (o : Option Index). IsIndexOf o kind (lines path)) absent (reads path) in
    let is : index ≡ index_of kind (lines path ++ line ∷ []) = first_more kind (lines path) line none in
    by_test (is_nil index.entries)
    (λ t. rw t (own_or_other es path line lines
    (subst (λ (o : Option Index). IsIndexOf o kind (lines path ++ line ∷ [])) (sym absent) (ap (λ (i : Index). i.entries) (sym is) ∙ nil_is index.entries t))
    (λ q apart. reads q)))
    (λ t. rw t (own_or_other (insert_entry text_cmp es path index) path line lines
    (subst (λ (o : Option Index). IsIndexOf o kind (lines path ++ line ∷ [])) (sym (put_own es path index)) is)
    (λ q apart. subst (λ (o : Option Index). IsIndexOf o (kind_at q) (lines q)) (sym (put_other es path q index apart)) (reads q))))

-- the map with the index of a file that isn't there
pub first_added : (old new : List (Vec ℕ Global × Index)) (key : Vec ℕ Global) (path : List ℕ) (was is : Index) → new ≡ insert_entry path_cmp old key was → key.items ≡ path → (was.entries ≡ [] → ⊥) → was ≡ is → view_of new ≡ indices_and (view_of old) path is
first_added old new key path was is put named some same =
    ap view_of put
    ∙ shown-insert_entry old key was
    ∙ ap (λ (p : List ℕ). insert_entry text_cmp (view_of old) p was) named
    ∙ sym (added (some_entries was.entries some))
    ∙ ap (indices_and (view_of old) path) same
  where
    added : is_nil was.entries ≡ false → indices_and (view_of old) path was ≡ insert_entry text_cmp (view_of old) path was
    added h = rw h refl

-- ---- more lines of one file

one_more : (lines : Lines) (path : List ℕ) (xs : List (List ℕ)) (line q : List ℕ) → lines_with (lines_and lines path xs) path line q ≡ lines_and lines path (xs ++ line ∷ []) q
one_more lines path xs line q = by_test (bytes_eq path q) (λ t. rw t (append_assoc (lines q) xs (line ∷ []))) (λ t. rw t refl)

pub next_more : (lines : Lines) (path : List ℕ) (more : List (List ℕ)) (i : ℕ) (line q : List ℕ) → i < length more → line ≡ get_or more i line → lines_with (lines_and lines path (take i more)) path line q ≡ lines_and lines path (take (i + 1) more) q
next_more lines path more i line q within is =
    one_more lines path (take i more) line q
    ∙ ap (λ xs. lines_and lines path xs q) (ap (λ l. take i more ++ l ∷ []) is ∙ sym (take_more more i line within))

-- ---- the files of a branch, one after another

pub lines_from : Lines → Files → Lines
lines_from lines [] = lines
lines_from lines (f ∷ fs) = lines_from (lines_and lines f.0 f.1) fs

absent : (path : List ℕ) (fs : Files) → AllByRecursion (λ k. text_cmp path k ≡ Less) (keys_of fs) → lines_at fs path ≡ []
absent path [] past = refl
absent path (f ∷ fs) past = let no : is_eq (text_cmp path f.0) ≡ false = ap is_eq past.0 in rw no (absent path fs past.1)

front_back : (path : List ℕ) (f : List ℕ × List (List ℕ)) (fs : Files) (before : List (List ℕ)) → AllByRecursion (λ k. text_cmp f.0 k ≡ Less) (keys_of fs)
    → (if bytes_eq f.0 path then (before ++ f.1) else before) ++ lines_at fs path ≡ before ++ lines_at (f ∷ fs) path
front_back path f fs before past =
    by_test (bytes_eq f.0 path)
    (λ t.
    let same : f.0 ≡ path = (bytes_eq-Decides f.0 path).0 t in
    let here : is_eq (text_cmp path f.0) ≡ true = is_eq-slice_cmp path f.0 ∙ (bytes_eq-Decides path f.0).1 (sym same) in
    let none : lines_at fs path ≡ [] = ap (lines_at fs) (sym same) ∙ absent f.0 fs past in
    rw (t, here, none) (append-nil (before ++ f.1)))
    (λ t.
    let elsewhere : is_eq (text_cmp path f.0) ≡ false = is_eq-slice_cmp path f.0 ∙ false_from_ne_true (bytes_eq path f.0) (λ s. absurd (false≢true (sym t ∙ (bytes_eq-Decides f.0 path).1 (sym ((bytes_eq-Decides path f.0).0 s))))) in
    rw (t, elsewhere) refl)

from_sorted : (lines : Lines) (fs : Files) → IsStrictlySortedBy text_cmp (keys_of fs) → (path : List ℕ) → lines_from lines fs path ≡ lines path ++ lines_at fs path
unfolding IsStrictlySortedBy lines_from
from_sorted lines [] sorted path = sym (append-nil (lines path))
from_sorted lines (f ∷ fs) sorted path = from_sorted (lines_and lines f.0 f.1) fs sorted.1 path ∙ front_back path f fs (lines path) sorted.0

from_branch : (files : Files) → IsBranch files → (path : List ℕ) → lines_from (λ path. []) files path ≡ lines_at files path
from_branch files is path = from_sorted (λ path. []) files is.sorted path

pub reads_none : (es : List (Vec ℕ Global × Index)) → es ≡ [] → HaveReadLines (view_of es) (λ path. [])
reads_none es none path = subst (λ (e : List (Vec ℕ Global × Index)). IsIndexOf (index_at (view_of e) path) (kind_at path) []) (sym none) refl

abbrev pub BranchRow : Type 0
BranchRow = Vec ℕ Global × List (List ℕ)

-- the next file was read
pub from_step : (lines whole : Lines) (all rest : List BranchRow) (row : BranchRow) (path : List ℕ) (more : List (List ℕ)) → all ≡ row ∷ rest → path ≡ row.0.items → more ≡ row.1
    → ((q : List ℕ) → lines_from lines (view.files_of all) q ≡ whole q) → (q : List ℕ) → lines_from (lines_and lines path more) (view.files_of rest) q ≡ whole q
unfolding lines_from
from_step lines whole all rest row path more is named same so_far q =
    ap (λ (p : List ℕ). lines_from (lines_and lines p more) (view.files_of rest) q) named
    ∙ ap (λ (m : List (List ℕ)). lines_from (lines_and lines row.0.items m) (view.files_of rest) q) same
    ∙ ap (λ (a : List BranchRow). lines_from lines (view.files_of a) q) (sym is)
    ∙ so_far q

-- all files were read
pub from_end : (lines whole : Lines) (rest : List BranchRow) → rest ≡ [] → ((q : List ℕ) → lines_from lines (view.files_of rest) q ≡ whole q) → (q : List ℕ) → lines q ≡ whole q
unfolding lines_from
from_end lines whole rest none so_far q = ap (λ (a : List BranchRow). lines_from lines (view.files_of a) q) (sym none) ∙ so_far q

-- no file was read yet
pub from_start : (files : Files) (rest : List BranchRow) → view.files_of rest ≡ files → IsBranch files → (path : List ℕ) → lines_from (λ path. []) (view.files_of rest) path ≡ lines_at files path
from_start files rest same is path = ap (λ (fs : Files). lines_from (λ path. []) fs path) same ∙ from_branch files is path
