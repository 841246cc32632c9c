-- What merges of branches leave, and the laws of merges.
use Rattle.std.proofs.Common.{◌≡◌, ◌⊎◌, inl, inr, ℕ, List, [], ◌∷◌, refl, sym, ap, subst, ◌∙◌}
use Rattle.annex_base.specs.Lists.{Member, Each}
use Rattle.annex_base.proofs.TextOrder.{below, tied, above, compared, Before-other}
use Rattle.union_merge.specs.LineSet.{IsLineSet, union}
use Rattle.union_merge.specs.Branch.{Files, IsBranch, lines_at, merged_file, merged_branch, merged_branches}
use Rattle.union_merge.proofs.SetLemmas.{Lines, same_members, Member-union, union-left, union-right, union-in_order}
use Rattle.union_merge.proofs.BranchLemmas.{File, IsFile, Paths, lines_at-with_file_same, lines_at-with_file_other, lines_at-tied, lines_at-other, lines_at-missing, Paths-with_file, with_file-new, with_file-old, merged_file-is_branch, first_apart, tail-is_branch, same_content, lines_at-is_set}

-- ---- one file

pub lines_at-merged_file_same : (files : Files) (path : List ℕ) (lines : Lines) → lines_at (merged_file files path lines) path ≡ union (lines_at files path) lines
lines_at-merged_file_same files path lines = lines_at-with_file_same files path (union (lines_at files path) lines)

pub lines_at-merged_file_other : (files : Files) (path other : List ℕ) (lines : Lines) → (other ≡ path → ⊥) → lines_at (merged_file files path lines) other ≡ lines_at files other
lines_at-merged_file_other files path other lines apart = lines_at-with_file_other files path other (union (lines_at files path) lines) apart

pub data Same (x y : List ℕ) : Type 0 where
  same : x ≡ y → Same x y
  other : (x ≡ y → ⊥) → Same x y

pub is_same : (x y : List ℕ) → Same x y
is_same x y = elim (compared x y) [
  | below less ↦ other (λ e. Before-other x y less e)
  | tied e ↦ same e
  | above more ↦ other (λ e. Before-other y x more (sym e))
]

pub Member-merged_file : (p z path : List ℕ) (files : Files) (lines : Lines) → Member z (lines_at (merged_file files path lines) p) → Member z (lines_at files p) ⊎ ((p ≡ path) × Member z lines)
Member-merged_file p z path files lines among = elim (is_same p path) [
  | same e ↦ elim (Member-union z (lines_at files path) lines (subst (Member z) (ap (lines_at (merged_file files path lines)) e ∙ lines_at-merged_file_same files path lines) among)) [
    | inl old ↦ inl (subst (λ w. Member z (lines_at files w)) (sym e) old)
    | inr new ↦ inr (e, new)
  ]
  | other far ↦ inl (subst (Member z) (lines_at-merged_file_other files path p lines far) among)
]

pub merged_file-old : (p z path : List ℕ) (files : Files) (lines : Lines) → Member z (lines_at files p) → Member z (lines_at (merged_file files path lines) p)
merged_file-old p z path files lines among = elim (is_same p path) [
  | same e ↦ subst (Member z) (sym (ap (lines_at (merged_file files path lines)) e ∙ lines_at-merged_file_same files path lines)) (union-left z (lines_at files path) lines (subst (λ w. Member z (lines_at files w)) e among))
  | other far ↦ subst (Member z) (sym (lines_at-merged_file_other files path p lines far)) among
]

merged_file-new : (z path : List ℕ) (files : Files) (lines : Lines) → Member z lines → Member z (lines_at (merged_file files path lines) path)
merged_file-new z path files lines among = subst (Member z) (sym (lines_at-merged_file_same files path lines)) (union-right z (lines_at files path) lines among)

-- ---- two branches

pub merged_branch-is_branch : (xs ys : Files) → IsBranch xs → Each IsFile ys → IsBranch (merged_branch xs ys)
merged_branch-is_branch xs [] is all = is
merged_branch-is_branch xs (f ∷ ys) is all = merged_branch-is_branch (merged_file xs f.0 f.1) ys (merged_file-is_branch xs f.0 f.1 is all.0.0 all.0.1) all.1

pub Paths-merged_branch : (p : List ℕ) (xs ys : Files) → Member p (Paths (merged_branch xs ys)) → Member p (Paths xs) ⊎ Member p (Paths ys)
Paths-merged_branch p xs [] among = inl among
Paths-merged_branch p xs (f ∷ ys) among = elim (Paths-merged_branch p (merged_file xs f.0 f.1) ys among) [
  | inl first ↦ elim (Paths-with_file p f.0 xs (union (lines_at xs f.0) f.1) first) [ inl new ↦ inr (inl new) | inr old ↦ inl old ]
  | inr later ↦ inr (inr later)
]

pub merged_branch-path_left : (p : List ℕ) (xs ys : Files) → Member p (Paths xs) → Member p (Paths (merged_branch xs ys))
merged_branch-path_left p xs [] among = among
merged_branch-path_left p xs (f ∷ ys) among = merged_branch-path_left p (merged_file xs f.0 f.1) ys (with_file-old p f.0 xs (union (lines_at xs f.0) f.1) among)

pub merged_branch-path_right : (p : List ℕ) (xs ys : Files) → Member p (Paths ys) → Member p (Paths (merged_branch xs ys))
merged_branch-path_right p xs [] among = absurd among
merged_branch-path_right p xs (f ∷ ys) among = elim among [
  | inl first ↦ merged_branch-path_left p (merged_file xs f.0 f.1) ys (subst (λ w. Member w (Paths (merged_file xs f.0 f.1))) (sym first) (with_file-new f.0 xs (union (lines_at xs f.0) f.1)))
  | inr later ↦ merged_branch-path_right p (merged_file xs f.0 f.1) ys later
]

in_tail : (p z : List ℕ) (f : File) (ys : Files) → IsBranch (f ∷ ys) → Member z (lines_at ys p) → Member z (lines_at (f ∷ ys) p)
in_tail p z f ys is among = elim (is_same p f.0) [
  | same e ↦ absurd (subst (Member z) (lines_at-missing ys p (λ there. first_apart f ys is (subst (λ w. Member w (Paths ys)) e there))) among)
  | other far ↦ subst (Member z) (sym (lines_at-other f ys p far)) among
]

-- a line of a merged file is a line of one of the two
pub Member-merged_branch : (p z : List ℕ) (xs ys : Files) → IsBranch ys → Member z (lines_at (merged_branch xs ys) p) → Member z (lines_at xs p) ⊎ Member z (lines_at ys p)
Member-merged_branch p z xs [] is among = inl among
Member-merged_branch p z xs (f ∷ ys) is among = elim (Member-merged_branch p z (merged_file xs f.0 f.1) ys (tail-is_branch f ys is) among) [
  | inl first ↦ elim (Member-merged_file p z f.0 xs f.1 first) [
    | inl old ↦ inl old
    | inr new ↦ inr (subst (Member z) (sym (lines_at-tied f ys p new.0)) new.1)
  ]
  | inr later ↦ inr (in_tail p z f ys is later)
]

pub merged_branch-left : (p z : List ℕ) (xs ys : Files) → Member z (lines_at xs p) → Member z (lines_at (merged_branch xs ys) p)
merged_branch-left p z xs [] among = among
merged_branch-left p z xs (f ∷ ys) among = merged_branch-left p z (merged_file xs f.0 f.1) ys (merged_file-old p z f.0 xs f.1 among)

pub merged_branch-right : (p z : List ℕ) (xs ys : Files) → Member z (lines_at ys p) → Member z (lines_at (merged_branch xs ys) p)
merged_branch-right p z xs [] among = absurd among
merged_branch-right p z xs (f ∷ ys) among = elim (is_same p f.0) [
  | same e ↦ merged_branch-left p z (merged_file xs f.0 f.1) ys
      (subst (λ w. Member z (lines_at (merged_file xs f.0 f.1) w)) (sym e) (merged_file-new z f.0 xs f.1 (subst (Member z) (lines_at-tied f ys p e) among)))
  | other far ↦ merged_branch-right p z (merged_file xs f.0 f.1) ys (subst (Member z) (lines_at-other f ys p far) among)
]

-- each file of both has the lines of both
pub lines_at-merged_branch : (p : List ℕ) (xs ys : Files) → IsBranch xs → IsBranch ys → lines_at (merged_branch xs ys) p ≡ union (lines_at xs p) (lines_at ys p)
lines_at-merged_branch p xs ys first second =
    same_members (lines_at (merged_branch xs ys) p) (union (lines_at xs p) (lines_at ys p))
    (lines_at-is_set (merged_branch xs ys) p (merged_branch-is_branch xs ys first second.each).each).sorted
    (union-in_order (lines_at xs p) (lines_at ys p) (lines_at-is_set xs p first.each).sorted)
    (λ z among. elim (Member-merged_branch p z xs ys second among) [ inl left ↦ union-left z (lines_at xs p) (lines_at ys p) left | inr right ↦ union-right z (lines_at xs p) (lines_at ys p) right ])
    (λ z among. elim (Member-union z (lines_at xs p) (lines_at ys p) among) [ inl left ↦ merged_branch-left p z xs ys left | inr right ↦ merged_branch-right p z xs ys right ])

-- ---- laws of sets

pub swap_cases : {A B C : Type 0} → (B → C) → (A → C) → A ⊎ B → C
swap_cases f g (inl a) = g a
swap_cases f g (inr b) = f b

pub union_comm : (xs ys : Lines) → IsLineSet xs → IsLineSet ys → union xs ys ≡ union ys xs
union_comm xs ys first second =
    same_members (union xs ys) (union ys xs) (union-in_order xs ys first.sorted) (union-in_order ys xs second.sorted)
    (λ z among. swap_cases (union-left z ys xs) (union-right z ys xs) (Member-union z xs ys among))
    (λ z among. swap_cases (union-left z xs ys) (union-right z xs ys) (Member-union z ys xs among))

pub union_assoc : (xs ys zs : Lines) → IsLineSet xs → IsLineSet ys → IsLineSet zs → union (union xs ys) zs ≡ union xs (union ys zs)
union_assoc xs ys zs first second third =
    same_members (union (union xs ys) zs) (union xs (union ys zs)) (union-in_order (union xs ys) zs (union-in_order xs ys first.sorted)) (union-in_order xs (union ys zs) first.sorted)
    (λ z among. elim (Member-union z (union xs ys) zs among) [
      | inl left ↦ elim (Member-union z xs ys left) [ inl one ↦ union-left z xs (union ys zs) one | inr two ↦ union-right z xs (union ys zs) (union-left z ys zs two) ]
      | inr three ↦ union-right z xs (union ys zs) (union-right z ys zs three)
    ])
    (λ z among. elim (Member-union z xs (union ys zs) among) [
      | inl one ↦ union-left z (union xs ys) zs (union-left z xs ys one)
      | inr right ↦ elim (Member-union z ys zs right) [ inl two ↦ union-left z (union xs ys) zs (union-right z xs ys two) | inr three ↦ union-right z (union xs ys) zs three ]
    ])

pub union_idem : (xs : Lines) → IsLineSet xs → union xs xs ≡ xs
union_idem xs is =
    same_members (union xs xs) xs (union-in_order xs xs is.sorted) is.sorted
    (λ z among. swap_cases (λ h. h) (λ h. h) (Member-union z xs xs among)) (λ z among. union-left z xs xs among)

-- ---- laws of branches

pub merged_comm : (xs ys : Files) → IsBranch xs → IsBranch ys → merged_branch xs ys ≡ merged_branch ys xs
merged_comm xs ys first second =
    same_content (merged_branch xs ys) (merged_branch ys xs) (merged_branch-is_branch xs ys first second.each) (merged_branch-is_branch ys xs second first.each)
    (λ p among. swap_cases (merged_branch-path_left p ys xs) (merged_branch-path_right p ys xs) (Paths-merged_branch p xs ys among))
    (λ p among. swap_cases (merged_branch-path_left p xs ys) (merged_branch-path_right p xs ys) (Paths-merged_branch p ys xs among))
    (λ p z among. swap_cases (merged_branch-left p z ys xs) (merged_branch-right p z ys xs) (Member-merged_branch p z xs ys second among))
    (λ p z among. swap_cases (merged_branch-left p z xs ys) (merged_branch-right p z xs ys) (Member-merged_branch p z ys xs first among))

pub merged_assoc : (xs ys zs : Files) → IsBranch xs → IsBranch ys → IsBranch zs → merged_branch (merged_branch xs ys) zs ≡ merged_branch xs (merged_branch ys zs)
merged_assoc xs ys zs first second third =
    let front = merged_branch-is_branch xs ys first second.each in
    let back = merged_branch-is_branch ys zs second third.each in
    same_content (merged_branch (merged_branch xs ys) zs) (merged_branch xs (merged_branch ys zs)) (merged_branch-is_branch (merged_branch xs ys) zs front third.each) (merged_branch-is_branch xs (merged_branch ys zs) first back.each)
    (λ p among. elim (Paths-merged_branch p (merged_branch xs ys) zs among) [
      | inl left ↦ elim (Paths-merged_branch p xs ys left) [ inl one ↦ merged_branch-path_left p xs (merged_branch ys zs) one | inr two ↦ merged_branch-path_right p xs (merged_branch ys zs) (merged_branch-path_left p ys zs two) ]
      | inr three ↦ merged_branch-path_right p xs (merged_branch ys zs) (merged_branch-path_right p ys zs three)
    ])
    (λ p among. elim (Paths-merged_branch p xs (merged_branch ys zs) among) [
      | inl one ↦ merged_branch-path_left p (merged_branch xs ys) zs (merged_branch-path_left p xs ys one)
      | inr right ↦ elim (Paths-merged_branch p ys zs right) [ inl two ↦ merged_branch-path_left p (merged_branch xs ys) zs (merged_branch-path_right p xs ys two) | inr three ↦ merged_branch-path_right p (merged_branch xs ys) zs three ]
    ])
    (λ p z among. elim (Member-merged_branch p z (merged_branch xs ys) zs third among) [
      | inl left ↦ elim (Member-merged_branch p z xs ys second left) [ inl one ↦ merged_branch-left p z xs (merged_branch ys zs) one | inr two ↦ merged_branch-right p z xs (merged_branch ys zs) (merged_branch-left p z ys zs two) ]
      | inr three ↦ merged_branch-right p z xs (merged_branch ys zs) (merged_branch-right p z ys zs three)
    ])
    (λ p z among. elim (Member-merged_branch p z xs (merged_branch ys zs) back among) [
      | inl one ↦ merged_branch-left p z (merged_branch xs ys) zs (merged_branch-left p z xs ys one)
      | inr right ↦ elim (Member-merged_branch p z ys zs third right) [ inl two ↦ merged_branch-left p z (merged_branch xs ys) zs (merged_branch-right p z xs ys two) | inr three ↦ merged_branch-right p z (merged_branch xs ys) zs three ]
    ])

pub merged_idem : (xs : Files) → IsBranch xs → merged_branch xs xs ≡ xs
merged_idem xs is =
    same_content (merged_branch xs xs) xs (merged_branch-is_branch xs xs is is.each) is
    (λ p among. swap_cases (λ h. h) (λ h. h) (Paths-merged_branch p xs xs among)) (λ p among. merged_branch-path_left p xs xs among)
    (λ p z among. swap_cases (λ h. h) (λ h. h) (Member-merged_branch p z xs xs is among)) (λ p z among. merged_branch-left p z xs xs among)

-- ---- any number of branches, in any order

pub merged_branches-is_branch : (xs : Files) (bs : List Files) → IsBranch xs → Each IsBranch bs → IsBranch (merged_branches xs bs)
merged_branches-is_branch xs [] is all = is
merged_branches-is_branch xs (b ∷ bs) is all = merged_branches-is_branch (merged_branch xs b) bs (merged_branch-is_branch xs b is all.0.each) all.1

-- the branch or one of these has the path
abbrev HasPath : List ℕ → Files → List Files → Type 0
HasPath p xs bs = Member p (Paths xs) ⊎ ((b : Files) × Member b bs × Member p (Paths b))

-- the branch or one of these has the line at the path
abbrev HasLine : List ℕ → List ℕ → Files → List Files → Type 0
HasLine p z xs bs = Member z (lines_at xs p) ⊎ ((b : Files) × Member b bs × Member z (lines_at b p))

pub Paths-merged_branches : (p : List ℕ) (xs : Files) (bs : List Files) → Member p (Paths (merged_branches xs bs)) → HasPath p xs bs
Paths-merged_branches p xs [] among = inl among
Paths-merged_branches p xs (b ∷ bs) among = elim (Paths-merged_branches p (merged_branch xs b) bs among) [
  | inl first ↦ elim (Paths-merged_branch p xs b first) [ inl left ↦ inl left | inr right ↦ inr (b, inl refl, right) ]
  | inr later ↦ inr (later.0, inr later.1, later.2)
]

merged_branches-path_start : (p : List ℕ) (xs : Files) (bs : List Files) → Member p (Paths xs) → Member p (Paths (merged_branches xs bs))
merged_branches-path_start p xs [] among = among
merged_branches-path_start p xs (b ∷ bs) among = merged_branches-path_start p (merged_branch xs b) bs (merged_branch-path_left p xs b among)

merged_branches-path_one : (p : List ℕ) (xs c : Files) (bs : List Files) → Member c bs → Member p (Paths c) → Member p (Paths (merged_branches xs bs))
merged_branches-path_one p xs c [] within among = absurd within
merged_branches-path_one p xs c (b ∷ bs) within among = elim within [
  | inl first ↦ merged_branches-path_start p (merged_branch xs b) bs (merged_branch-path_right p xs b (subst (λ w. Member p (Paths w)) first among))
  | inr later ↦ merged_branches-path_one p (merged_branch xs b) c bs later among
]

pub merged_branches-path : (p : List ℕ) (xs : Files) (bs : List Files) → HasPath p xs bs → Member p (Paths (merged_branches xs bs))
merged_branches-path p xs bs (inl start) = merged_branches-path_start p xs bs start
merged_branches-path p xs bs (inr one) = merged_branches-path_one p xs one.0 bs one.1 one.2

pub Member-merged_branches : (p z : List ℕ) (xs : Files) (bs : List Files) → Each IsBranch bs → Member z (lines_at (merged_branches xs bs) p) → HasLine p z xs bs
Member-merged_branches p z xs [] all among = inl among
Member-merged_branches p z xs (b ∷ bs) all among = elim (Member-merged_branches p z (merged_branch xs b) bs all.1 among) [
  | inl first ↦ elim (Member-merged_branch p z xs b all.0 first) [ inl left ↦ inl left | inr right ↦ inr (b, inl refl, right) ]
  | inr later ↦ inr (later.0, inr later.1, later.2)
]

merged_branches-line_start : (p z : List ℕ) (xs : Files) (bs : List Files) → Member z (lines_at xs p) → Member z (lines_at (merged_branches xs bs) p)
merged_branches-line_start p z xs [] among = among
merged_branches-line_start p z xs (b ∷ bs) among = merged_branches-line_start p z (merged_branch xs b) bs (merged_branch-left p z xs b among)

merged_branches-line_one : (p z : List ℕ) (xs c : Files) (bs : List Files) → Member c bs → Member z (lines_at c p) → Member z (lines_at (merged_branches xs bs) p)
merged_branches-line_one p z xs c [] within among = absurd within
merged_branches-line_one p z xs c (b ∷ bs) within among = elim within [
  | inl first ↦ merged_branches-line_start p z (merged_branch xs b) bs (merged_branch-right p z xs b (subst (λ w. Member z (lines_at w p)) first among))
  | inr later ↦ merged_branches-line_one p z (merged_branch xs b) c bs later among
]

pub merged_branches-line : (p z : List ℕ) (xs : Files) (bs : List Files) → HasLine p z xs bs → Member z (lines_at (merged_branches xs bs) p)
merged_branches-line p z xs bs (inl start) = merged_branches-line_start p z xs bs start
merged_branches-line p z xs bs (inr one) = merged_branches-line_one p z xs one.0 bs one.1 one.2

moved_path : (p : List ℕ) (xs : Files) (bs cs : List Files) → ((b : Files) → Member b bs → Member b cs) → HasPath p xs bs → HasPath p xs cs
moved_path p xs bs cs within (inl start) = inl start
moved_path p xs bs cs within (inr one) = inr (one.0, within one.0 one.1, one.2)

moved_line : (p z : List ℕ) (xs : Files) (bs cs : List Files) → ((b : Files) → Member b bs → Member b cs) → HasLine p z xs bs → HasLine p z xs cs
moved_line p z xs bs cs within (inl start) = inl start
moved_line p z xs bs cs within (inr one) = inr (one.0, within one.0 one.1, one.2)

-- the same branches, in whatever order and however often
pub merged_branches-order : (xs : Files) (bs cs : List Files) → IsBranch xs → Each IsBranch bs → Each IsBranch cs
    → ((b : Files) → Member b bs → Member b cs) → ((b : Files) → Member b cs → Member b bs) → merged_branches xs bs ≡ merged_branches xs cs
merged_branches-order xs bs cs is first second forth back =
    same_content (merged_branches xs bs) (merged_branches xs cs) (merged_branches-is_branch xs bs is first) (merged_branches-is_branch xs cs is second)
    (λ p among. merged_branches-path p xs cs (moved_path p xs bs cs forth (Paths-merged_branches p xs bs among)))
    (λ p among. merged_branches-path p xs bs (moved_path p xs cs bs back (Paths-merged_branches p xs cs among)))
    (λ p z among. merged_branches-line p z xs cs (moved_line p z xs bs cs forth (Member-merged_branches p z xs bs first among)))
    (λ p z among. merged_branches-line p z xs bs (moved_line p z xs cs bs back (Member-merged_branches p z xs cs second among)))
