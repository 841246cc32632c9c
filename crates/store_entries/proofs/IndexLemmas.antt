-- The index of settings is that of the branch's lines, after a file was written too.
use Rattle.std.proofs.Common.{◌≡◌, ◌↔◌, ◌⊎◌, inl, inr, ℕ, ◌+◌, ◌<◌, Bool, true, false, if◌then◌else◌, List, [], ◌∷◌, ◌++◌, take, length, get_or, Option, Some, None, Result, Ok, Err, OnOk, OnErr, refl, ap, ◌∙◌, sym, subst}
use Rattle.std.specs.Prelude.{bytes_eq}
use Rattle.std.specs.Option.{ForSome, unwrap_or}
use Rattle.std.proofs.lemmas.List.{append-nil, append_assoc, take_more}
use Rattle.annex_base.specs.Lists.{Member}
use Rattle.annex_base.proofs.Conditions.{by_test, bytes_eq-true}
use Rattle.annex_base.proofs.Lists.{Member-append_cases, Member-append_left, Member-append_right}
use Rattle.log_lines.specs.declared.entry.Entry.{Entry}
use Rattle.log_lines.specs.declared.entry.LogKind.{LogKind}
use Rattle.log_lines.specs.declared.entry.LogKind.TheVariants as kinds
use Rattle.log_lines.specs.Index.{Index}
use Rattle.log_lines.specs.Keeping.{SameLines}
use Rattle.log_lines.specs.Newest.{ReadAlike, current_lines, newest}
use Rattle.log_lines.specs.Files.{kind_named}
use Rattle.run_data.specs.Files.{file_by, file_of, kind_of, location_of, log_name}
use Rattle.run_data.specs.declared.entry.LogFile.TheVariants.{Location, Other}
use Rattle.annex_key.specs.FileKey.{key_of_file}
use Rattle.hash_dirs.specs.LogPath.{location_path}
use Rattle.union_merge.specs.Branch.{Files, lines_at, with_file}
use Rattle.union_merge.specs.LineSet.{union}
use Rattle.trust_groups.specs.Adding.{lines_and}
use Rattle.trust_groups.specs.Reads.{Indices, IsIndexOf, HaveReadLines, index_at, kind_at, lines_with}
use Rattle.trust_groups.specs.Settings.{Lines}
use Rattle.store_entries.specs.Indexed.{IsIndexed, ReadsAlike}
use Rattle.node_past.specs.declared.refused.NodeRefused.{NodeRefused}

some_kind : (x y : LogKind) → Some x ≡ Some y → x ≡ y
some_kind x y is = cc

none_kind : (x : LogKind) → None ≡ Some x → ⊥
none_kind x is = absurd cc

-- ---- lines that are added one by one

pub reads_same : (es : Indices) (x y : Lines) → ((path : List ℕ) → x path ≡ y path) → HaveReadLines es x → HaveReadLines es y
reads_same es x y same reads path = subst (IsIndexOf (index_at es path) (kind_at path)) (same path) (reads path)

pub none_more : (lines : Lines) (path q : List ℕ) → lines q ≡ lines_and lines path [] q
none_more lines path q = by_test (bytes_eq path q) (λ t. rw t (sym (append-nil (lines q)))) (λ t. rw t refl)

one_more : (lines : Lines) (path : List ℕ) (xs : List (List ℕ)) (line q : List ℕ) → lines_with (lines_and lines path xs) path line q ≡ lines_and lines path (xs ++ line ∷ []) q
one_more lines path xs line q = by_test (bytes_eq path q) (λ t. rw t (append_assoc (lines q) xs (line ∷ []))) (λ t. rw t refl)

pub next_more : (lines : Lines) (path : List ℕ) (more : List (List ℕ)) (i : ℕ) (line q : List ℕ) → i < length more → line ≡ get_or more i line → lines_with (lines_and lines path (take i more)) path line q ≡ lines_and lines path (take (i + 1) more) q
next_more lines path more i line q within is =
    one_more lines path (take i more) line q
    ∙ ap (λ xs. lines_and lines path xs q) (ap (λ l. take i more ++ l ∷ []) is ∙ sym (take_more more i line within))

-- ---- lines that read alike

index_alike : (o : Option Index) (kind : LogKind) (x y : List (List ℕ)) → ReadAlike kind x y → IsIndexOf o kind x → IsIndexOf o kind y
index_alike None kind x y same is = sym same ∙ is
index_alike (Some index) kind x y same is = is ∙ ap (λ (es : List Entry). record { kind = kind; entries = es }) same

pub reads_alike : (es : Indices) (x y : Lines) → ReadsAlike x y → HaveReadLines es x → HaveReadLines es y
reads_alike es x y same reads path = index_alike (index_at es path) (kind_at path) (x path) (y path) (same path) (reads path)

-- the lines of a file and others, and their union
both_same : (xs ys : List (List ℕ)) → ((line : List ℕ) → Member line (union xs ys) ↔ (Member line xs ⊎ Member line ys)) → SameLines (xs ++ ys) (union xs ys)
both_same xs ys either line = (
  λ among. (either line).1 (Member-append_cases xs ys line among),
  λ among. elim ((either line).0 among) [ inl left ↦ Member-append_left xs ys line left | inr right ↦ Member-append_right xs ys line right ],
)

if_alike : (kind : LogKind) (b : Bool) (x y z : List (List ℕ)) → ReadAlike kind x y → ReadAlike kind (if b then x else z) (if b then y else z)
if_alike kind true x y z same = same
if_alike kind false x y z same = refl

pub log_alike : (was now : Lines) (path : List ℕ) (new : List (List ℕ))
    → ((kind : LogKind) (xs ys : List (List ℕ)) → SameLines xs ys → ReadAlike kind xs ys)
    → ((xs ys : List (List ℕ)) (line : List ℕ) → Member line (union xs ys) ↔ (Member line xs ⊎ Member line ys))
    → ((q : List ℕ) → now q ≡ (if bytes_eq path q then union (was q) new else was q)) → ReadsAlike (lines_and was path new) now
log_alike was now path new set either is q =
    if_alike (kind_at q) (bytes_eq path q) (was q ++ new) (union (was q) new) (was q) (set (kind_at q) (was q ++ new) (union (was q) new) (both_same (was q) new (either (was q) new)))
    ∙ ap (newest (kind_at q)) (sym (is q))

-- ---- the kind of a log that stands at a path

located : (path : List ℕ) (o : Option (List ℕ)) (kind : LogKind) → kind_of (location_of path o) ≡ Some kind → kind ≡ kinds.Location
located path None kind is = absurd (none_kind kind is)
located path (Some key) kind is = by_test (bytes_eq (location_path key) path)
    (λ t. some_kind kind kinds.Location (sym is ∙ ap kind_of (ap (λ (b : Bool). if b then Location key else Other path) t)))
    (λ t. absurd (none_kind kind (sym (ap kind_of (ap (λ (b : Bool). if b then Location key else Other path) t)) ∙ is)))

kind_by : (path : List ℕ) (o : Option LogKind) (kind : LogKind) → kind_of (file_by path o) ≡ Some kind → kind ≡ unwrap_or o kinds.Location
kind_by path None kind is = located path (key_of_file (log_name path)) kind is
kind_by path (Some k) kind is = some_kind kind k (sym is)

pub shrunk_alike : (was now : Lines) (path : List ℕ) (kind : LogKind) → kind_of (file_of path) ≡ Some kind
    → ((k : LogKind) (lines : List (List ℕ)) → ReadAlike k (current_lines k lines) lines)
    → ((q : List ℕ) → now q ≡ (if bytes_eq path q then current_lines kind (was q) else was q)) → ReadsAlike (lines_and was path []) now
shrunk_alike was now path kind of_kind keeps is q =
    let same : kind ≡ kind_at path = kind_by path (kind_named path) kind of_kind in
    sym (ap (newest (kind_at q)) (none_more was path q)) ∙ by_test (bytes_eq path q)
    (λ t.
    let at : kind ≡ kind_at q = same ∙ ap kind_at (bytes_eq-true path q t) in
    sym (keeps (kind_at q) (was q)) ∙ ap (λ (k : LogKind). newest (kind_at q) (current_lines k (was q))) (sym at)
    ∙ sym (ap (newest (kind_at q)) (is q ∙ ap (λ (b : Bool). if b then current_lines kind (was q) else was q) t)))
    (λ t. sym (ap (newest (kind_at q)) (is q ∙ ap (λ (b : Bool). if b then current_lines kind (was q) else was q) t)))

-- ---- the index of a branch

some_is : (x y : Indices) → Some x ≡ Some y → x ≡ y
some_is x y is = cc

pub indexed_new : (index : Indices) (branch : Files) → branch ≡ [] → HaveReadLines index (λ path. []) → IsIndexed (Some index) branch
indexed_new index branch none reads = λ i told.
    subst (λ (b : Files). HaveReadLines i (lines_at b)) (sym none) (subst (λ (x : Indices). HaveReadLines x (λ path. [])) (some_is index i told) reads)

pub indexed_written : (r : Result (Unit {0}) NodeRefused) (index index' : Option Indices) (branch branch' : Files) (path : List ℕ) (all new : List (List ℕ))
    → OnOk r (branch' ≡ with_file branch path all) → OnErr r (branch' ≡ branch)
    → OnOk r ((was : Lines) → ForSome index (λ i. HaveReadLines i was) → ForSome index' (λ i. HaveReadLines i (lines_and was path new))) → OnErr r (index' ≡ index)
    → ReadsAlike (lines_and (lines_at branch) path new) (lines_at (with_file branch path all)) → IsIndexed index branch → IsIndexed index' branch'
indexed_written (Ok x) index index' branch branch' path all new is stays grows keeps alike indexed = λ i told.
    subst (λ (b : Files). HaveReadLines i (lines_at b)) (sym is) (reads_alike i (lines_and (lines_at branch) path new) (lines_at (with_file branch path all)) alike (grows (lines_at branch) indexed i told))
indexed_written (Err e) index index' branch branch' path all new is stays grows keeps alike indexed = λ i told.
    subst (λ (b : Files). HaveReadLines i (lines_at b)) (sym stays) (indexed i (sym keeps ∙ told))
