-- The files of a branch: what a look-up finds, what a change leaves, and that a branch is told by its paths and lines.
use Rattle.std.proofs.Common.{◌≡◌, ◌⊎◌, inl, inr, ℕ, List, [], ◌∷◌, Option, Some, None, IsSome, refl, sym, ap, subst, ◌∙◌, rules}
use Rattle.std.specs.Map.{keys_of}
use Rattle.annex_base.specs.ByteOrder.{text_cmp, Before, IsInOrder}
use Rattle.annex_base.specs.Lists.{Member, Each}
use Rattle.annex_base.proofs.TextOrder.{below, tied, above, compared, text_cmp-same, before_after, Before-itself, Before-other, order_nil, order_cons, order_head, order_tail, BeforeAll-member, BeforeAll-from_members, BeforeAll-trans}
use Rattle.annex_base.proofs.Options.{some_none}
use Rattle.union_merge.specs.LineSet.{IsLine, IsLineSet, union}
use Rattle.union_merge.specs.Branch.{Files, IsBranch, file_at, or_none, lines_at, with_file, merged_file}
use Rattle.union_merge.proofs.SetLemmas.{Lines, same_members, union-is_set, empty-is_set}

abbrev pub File : Type 0
File = List ℕ × Lines

abbrev pub Paths : Files → Lines
Paths files = keys_of files

abbrev pub IsFile : File → Type 0
IsFile f = IsLine f.0 × IsLineSet f.1

-- ---- looking up

pub file_at-tied : (f : File) (files : Files) (path : List ℕ) → path ≡ f.0 → file_at (f ∷ files) path ≡ Some f.1
file_at-tied f files path same = let e = text_cmp-same path f.0 same in rw e refl

file_at-below : (f : File) (files : Files) (path : List ℕ) → Before path f.0 → file_at (f ∷ files) path ≡ file_at files path
file_at-below f files path less = rw less refl

pub file_at-above : (f : File) (files : Files) (path : List ℕ) → Before f.0 path → file_at (f ∷ files) path ≡ file_at files path
file_at-above f files path more = let e = before_after f.0 path more in rw e refl

file_at-other : (f : File) (files : Files) (path : List ℕ) → (path ≡ f.0 → ⊥) → file_at (f ∷ files) path ≡ file_at files path
file_at-other f files path other = elim (compared path f.0) [
  | below less ↦ file_at-below f files path less
  | tied same ↦ absurd (other same)
  | above more ↦ file_at-above f files path more
]

-- the first file of a list in order has its path, and its path is of no later one
pub lines_at-first : (f : File) (files : Files) → lines_at (f ∷ files) f.0 ≡ f.1
lines_at-first f files = ap or_none (file_at-tied f files f.0 refl)

pub lines_at-tied : (f : File) (files : Files) (path : List ℕ) → path ≡ f.0 → lines_at (f ∷ files) path ≡ f.1
lines_at-tied f files path same = ap or_none (file_at-tied f files path same)

pub lines_at-other : (f : File) (files : Files) (path : List ℕ) → (path ≡ f.0 → ⊥) → lines_at (f ∷ files) path ≡ lines_at files path
lines_at-other f files path other = ap or_none (file_at-other f files path other)

-- a path that no file has finds none
pub file_at-missing : (files : Files) (path : List ℕ) → (Member path (Paths files) → ⊥) → file_at files path ≡ None
file_at-missing [] path none = refl
file_at-missing (f ∷ files) path none =
    file_at-other f files path (λ same. none (inl same)) ∙ file_at-missing files path (λ among. none (inr among))

-- and one that a file has finds lines
pub file_at-there : (files : Files) (path : List ℕ) → Member path (Paths files) → file_at files path ≡ Some (lines_at files path)
file_at-there [] path among = absurd among
file_at-there (f ∷ files) path among =
    let later : (path ≡ f.0 → ⊥) → file_at files path ≡ Some (lines_at files path) = λ other. elim among [ inl same ↦ absurd (other same) | inr rest ↦ file_at-there files path rest ] in
    elim (compared path f.0) [
      | below less ↦ file_at-below f files path less ∙ later (λ same. Before-other path f.0 less same) ∙ ap (λ o. Some (or_none o)) (sym (file_at-below f files path less))
      | tied same ↦ file_at-tied f files path same ∙ ap Some (sym (lines_at-tied f files path same))
      | above more ↦ file_at-above f files path more ∙ later (λ same. Before-other f.0 path more (sym same)) ∙ ap (λ o. Some (or_none o)) (sym (file_at-above f files path more))
    ]

-- a look-up that is said to find lines doesn't find none
pub never_none : (o : Option Lines) → o ≡ None → IsSome o → ⊥
never_none (Some x) e some = absurd cc
never_none None e some = search rules

pub Member-file_at : (files : Files) (path : List ℕ) (lines : Lines) → file_at files path ≡ Some lines → Member path (Paths files)
Member-file_at [] path lines found = absurd (some_none lines (sym found))
Member-file_at (f ∷ files) path lines found = elim (compared path f.0) [
  | below less ↦ inr (Member-file_at files path lines (sym (file_at-below f files path less) ∙ found))
  | tied same ↦ inl same
  | above more ↦ inr (Member-file_at files path lines (sym (file_at-above f files path more) ∙ found))
]

-- a path with a line is one of the paths
pub path_of-line : (files : Files) (path line : List ℕ) → Member line (lines_at files path) → Member path (Paths files)
path_of-line [] path line among = absurd among
path_of-line (f ∷ files) path line among = elim (compared path f.0) [
  | below less ↦ inr (path_of-line files path line (subst (Member line) (ap or_none (file_at-below f files path less)) among))
  | tied same ↦ inl same
  | above more ↦ inr (path_of-line files path line (subst (Member line) (ap or_none (file_at-above f files path more)) among))
]

pub lines_at-missing : (files : Files) (path : List ℕ) → (Member path (Paths files) → ⊥) → lines_at files path ≡ []
lines_at-missing files path none = ap or_none (file_at-missing files path none)

-- ---- a file that is set

pub with_file-below : (f : File) (files : Files) (path : List ℕ) (lines : Lines) → Before path f.0 → with_file (f ∷ files) path lines ≡ (path, lines) ∷ f ∷ files
with_file-below f files path lines less = rw less refl

pub with_file-tied : (f : File) (files : Files) (path : List ℕ) (lines : Lines) → path ≡ f.0 → with_file (f ∷ files) path lines ≡ (f.0, lines) ∷ files
with_file-tied f files path lines same = let e = text_cmp-same path f.0 same in rw e refl

pub with_file-above : (f : File) (files : Files) (path : List ℕ) (lines : Lines) → Before f.0 path → with_file (f ∷ files) path lines ≡ f ∷ with_file files path lines
with_file-above f files path lines more = let e = before_after f.0 path more in rw e refl

-- its path has these lines
pub lines_at-with_file_same : (files : Files) (path : List ℕ) (lines : Lines) → lines_at (with_file files path lines) path ≡ lines
lines_at-with_file_same [] path lines = lines_at-first (path, lines) []
lines_at-with_file_same (f ∷ files) path lines = elim (compared path f.0) [
  | below less ↦ ap (λ w. lines_at w path) (with_file-below f files path lines less) ∙ lines_at-first (path, lines) (f ∷ files)
  | tied same ↦ ap (λ w. lines_at w path) (with_file-tied f files path lines same) ∙ lines_at-tied (f.0, lines) files path same
  | above more ↦ ap (λ w. lines_at w path) (with_file-above f files path lines more) ∙ lines_at-other f (with_file files path lines) path (λ same. Before-other f.0 path more (sym same)) ∙ lines_at-with_file_same files path lines
]

-- and any other path those that it had
pub lines_at-with_file_other : (files : Files) (path other : List ℕ) (lines : Lines) → (other ≡ path → ⊥) → lines_at (with_file files path lines) other ≡ lines_at files other
lines_at-with_file_other [] path other lines apart = lines_at-other (path, lines) [] other apart
lines_at-with_file_other (f ∷ files) path other lines apart = elim (compared path f.0) [
  | below less ↦ ap (λ w. lines_at w other) (with_file-below f files path lines less) ∙ lines_at-other (path, lines) (f ∷ files) other apart
  | tied same ↦
      let far : other ≡ f.0 → ⊥ = λ is. apart (is ∙ sym same) in
      ap (λ w. lines_at w other) (with_file-tied f files path lines same) ∙ lines_at-other (f.0, lines) files other far ∙ sym (lines_at-other f files other far)
  | above more ↦
      let beyond : (other ≡ f.0 → ⊥) → lines_at (f ∷ with_file files path lines) other ≡ lines_at (f ∷ files) other =
      λ far. lines_at-other f (with_file files path lines) other far ∙ lines_at-with_file_other files path other lines apart ∙ sym (lines_at-other f files other far) in
      ap (λ w. lines_at w other) (with_file-above f files path lines more) ∙ elim (compared other f.0) [
        | below less ↦ beyond (λ same. Before-other other f.0 less same)
        | tied same ↦ lines_at-tied f (with_file files path lines) other same ∙ sym (lines_at-tied f files other same)
        | above later ↦ beyond (λ same. Before-other f.0 other later (sym same))
      ]
]

pub Paths-with_file : (p path : List ℕ) (files : Files) (lines : Lines) → Member p (Paths (with_file files path lines)) → (p ≡ path) ⊎ Member p (Paths files)
Paths-with_file p path [] lines among = elim among [ inl same ↦ inl same | inr none ↦ absurd none ]
Paths-with_file p path (f ∷ files) lines among = elim (compared path f.0) [
  | below less ↦ subst (λ w. Member p (Paths w)) (with_file-below f files path lines less) among
  | tied same ↦ inr (subst (λ w. Member p (Paths w)) (with_file-tied f files path lines same) among)
  | above more ↦ elim (subst (λ w. Member p (Paths w)) (with_file-above f files path lines more) among) [
    | inl first ↦ inr (inl first)
    | inr later ↦ elim (Paths-with_file p path files lines later) [ inl new ↦ inl new | inr old ↦ inr (inr old) ]
  ]
]

pub with_file-new : (path : List ℕ) (files : Files) (lines : Lines) → Member path (Paths (with_file files path lines))
with_file-new path [] lines = inl refl
with_file-new path (f ∷ files) lines = elim (compared path f.0) [
  | below less ↦ subst (λ w. Member path (Paths w)) (sym (with_file-below f files path lines less)) (inl refl)
  | tied same ↦ subst (λ w. Member path (Paths w)) (sym (with_file-tied f files path lines same)) (inl same)
  | above more ↦ subst (λ w. Member path (Paths w)) (sym (with_file-above f files path lines more)) (inr (with_file-new path files lines))
]

pub with_file-old : (p path : List ℕ) (files : Files) (lines : Lines) → Member p (Paths files) → Member p (Paths (with_file files path lines))
with_file-old p path [] lines among = absurd among
with_file-old p path (f ∷ files) lines among = elim (compared path f.0) [
  | below less ↦ subst (λ w. Member p (Paths w)) (sym (with_file-below f files path lines less)) (inr among)
  | tied same ↦ subst (λ w. Member p (Paths w)) (sym (with_file-tied f files path lines same)) among
  | above more ↦ subst (λ w. Member p (Paths w)) (sym (with_file-above f files path lines more)) (elim among [ inl first ↦ inl first | inr later ↦ inr (with_file-old p path files lines later) ])
]

with_file-in_order : (path : List ℕ) (files : Files) (lines : Lines) → IsInOrder (Paths files) → IsInOrder (Paths (with_file files path lines))
with_file-in_order path [] lines sorted = order_cons path [] tt order_nil
with_file-in_order path (f ∷ files) lines sorted = elim (compared path f.0) [
  | below less ↦ subst (λ w. IsInOrder (Paths w)) (sym (with_file-below f files path lines less))
      (order_cons path (Paths (f ∷ files)) (less, BeforeAll-trans path f.0 (Paths files) less (order_head f.0 (Paths files) sorted)) sorted)
  | tied same ↦ subst (λ w. IsInOrder (Paths w)) (sym (with_file-tied f files path lines same)) sorted
  | above more ↦ subst (λ w. IsInOrder (Paths w)) (sym (with_file-above f files path lines more)) (order_cons f.0 (Paths (with_file files path lines))
      (BeforeAll-from_members f.0 (Paths (with_file files path lines)) (λ p among. elim (Paths-with_file p path files lines among) [
        | inl new ↦ ap (text_cmp f.0) new ∙ more
        | inr old ↦ BeforeAll-member f.0 p (Paths files) (order_head f.0 (Paths files) sorted) old
      ]))
      (with_file-in_order path files lines (order_tail f.0 (Paths files) sorted)))
]

with_file-each : (path : List ℕ) (files : Files) (lines : Lines) → IsLine path → IsLineSet lines → Each IsFile files → Each IsFile (with_file files path lines)
with_file-each path [] lines is set all = ((is, set), tt)
with_file-each path (f ∷ files) lines is set all = elim (compared path f.0) [
  | below less ↦ subst (Each IsFile) (sym (with_file-below f files path lines less)) ((is, set), all)
  | tied same ↦ subst (Each IsFile) (sym (with_file-tied f files path lines same)) ((all.0.0, set), all.1)
  | above more ↦ subst (Each IsFile) (sym (with_file-above f files path lines more)) (all.0, with_file-each path files lines is set all.1)
]

pub empty-is_branch : IsBranch []
empty-is_branch = record { sorted = order_nil; each = tt }

pub with_file-is_branch : (files : Files) (path : List ℕ) (lines : Lines) → IsBranch files → IsLine path → IsLineSet lines → IsBranch (with_file files path lines)
with_file-is_branch files path lines is line set = record {
  sorted = with_file-in_order path files lines is.sorted;
  each = with_file-each path files lines line set is.each;
}

pub tail-is_branch : (f : File) (files : Files) → IsBranch (f ∷ files) → IsBranch files
tail-is_branch f files is = record { sorted = order_tail f.0 (Paths files) is.sorted; each = is.each.1 }

-- the first path is none of the later ones
pub first_apart : (f : File) (files : Files) → IsBranch (f ∷ files) → Member f.0 (Paths files) → ⊥
first_apart f files is among = Before-itself f.0 (BeforeAll-member f.0 f.0 (Paths files) (order_head f.0 (Paths files) is.sorted) among)

pub lines_at-is_set : (files : Files) (path : List ℕ) → Each IsFile files → IsLineSet (lines_at files path)
lines_at-is_set [] path all = empty-is_set
lines_at-is_set (f ∷ files) path all = elim (compared path f.0) [
  | below less ↦ subst IsLineSet (sym (ap or_none (file_at-below f files path less))) (lines_at-is_set files path all.1)
  | tied same ↦ subst IsLineSet (sym (lines_at-tied f files path same)) all.0.1
  | above more ↦ subst IsLineSet (sym (ap or_none (file_at-above f files path more))) (lines_at-is_set files path all.1)
]

pub merged_file-is_branch : (files : Files) (path : List ℕ) (lines : Lines) → IsBranch files → IsLine path → IsLineSet lines → IsBranch (merged_file files path lines)
merged_file-is_branch files path lines is line set =
    with_file-is_branch files path (union (lines_at files path) lines) is line (union-is_set (lines_at files path) lines (lines_at-is_set files path is.each) set.each)

-- ---- a branch is told by its paths and their lines

pub same_branch : (xs ys : Files) → IsBranch xs → IsBranch ys → Paths xs ≡ Paths ys → ((path : List ℕ) → lines_at xs path ≡ lines_at ys path) → xs ≡ ys
same_branch [] [] first second paths lines = refl
same_branch [] (g ∷ ys) first second paths lines = absurd cc
same_branch (f ∷ xs) [] first second paths lines = absurd cc
same_branch (f ∷ xs) (g ∷ ys) first second paths lines =
    let path : f.0 ≡ g.0 = cc in
    let rest : Paths xs ≡ Paths ys = cc in
    let text : f.1 ≡ g.1 = sym (lines_at-first f xs) ∙ lines f.0 ∙ lines_at-tied g ys f.0 path in
    ap (λ (p : List ℕ). (p, f.1) ∷ xs) path ∙ ap (λ (t : Lines). (g.0, t) ∷ xs) text
    ∙ ap (λ (w : Files). g ∷ w) (same_branch xs ys (tail-is_branch f xs first) (tail-is_branch g ys second) rest (λ p. later p path rest)) where
      later : (p : List ℕ) → f.0 ≡ g.0 → Paths xs ≡ Paths ys → lines_at xs p ≡ lines_at ys p
      later p path rest = elim (compared p f.0) [
        | below less ↦ beyond p path (λ same. Before-other p f.0 less same)
        | tied same ↦
            let at : p ≡ f.0 = same in
            lines_at-missing xs p (λ among. first_apart f xs first (subst (λ w. Member w (Paths xs)) at among))
            ∙ sym (lines_at-missing ys p (λ among. first_apart g ys second (subst (λ w. Member w (Paths ys)) (at ∙ path) among)))
        | above more ↦ beyond p path (λ same. Before-other f.0 p more (sym same))
      ] where
        beyond : (p : List ℕ) → f.0 ≡ g.0 → (p ≡ f.0 → ⊥) → lines_at xs p ≡ lines_at ys p
        beyond p path far = sym (lines_at-other f xs p far) ∙ lines p ∙ lines_at-other g ys p (λ same. far (same ∙ sym path))

-- branches with the same paths, and the same lines at each, are one
pub same_content : (xs ys : Files) → IsBranch xs → IsBranch ys
    → ((p : List ℕ) → Member p (Paths xs) → Member p (Paths ys)) → ((p : List ℕ) → Member p (Paths ys) → Member p (Paths xs))
    → ((p z : List ℕ) → Member z (lines_at xs p) → Member z (lines_at ys p)) → ((p z : List ℕ) → Member z (lines_at ys p) → Member z (lines_at xs p))
    → xs ≡ ys
same_content xs ys first second forth back lines_forth lines_back =
    same_branch xs ys first second (same_members (Paths xs) (Paths ys) first.sorted second.sorted forth back)
    (λ p. same_members (lines_at xs p) (lines_at ys p) (lines_at-is_set xs p first.each).sorted (lines_at-is_set ys p second.each).sorted (lines_forth p) (lines_back p))

-- branches with the same files at each path are one
pub same_files : (xs ys : Files) → IsBranch xs → IsBranch ys → ((path : List ℕ) → file_at xs path ≡ file_at ys path) → xs ≡ ys
same_files xs ys first second same =
    same_branch xs ys first second
    (same_members (Paths xs) (Paths ys) first.sorted second.sorted
    (λ p among. Member-file_at ys p (lines_at xs p) (sym (same p) ∙ file_at-there xs p among))
    (λ p among. Member-file_at xs p (lines_at ys p) (same p ∙ file_at-there ys p among)))
    (λ p. ap or_none (same p))
