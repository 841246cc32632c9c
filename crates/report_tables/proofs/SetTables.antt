-- How a table of settings changes by an entry.
use Rattle.std.proofs.Common.{◌≡◌, ◌≢◌, ℕ, ◌<◌, true, List, ◌∷◌, length, Option, None, Some, IfSome, set, slice_index_or, slice_get, get_or, length-set, get_or-set_same, get_or-set_other, is_some, inl, inr, sym, ap, subst, ◌∙◌}
use Rattle.std.proofs.lemmas.Bool.Decides.{eqb_tells}
use Rattle.std.proofs.lemmas.Option.{slice_get-get_or}
use Rattle.union_merge.specs.Branch.{Files, lines_at}
use Rattle.trust_groups.specs.Reads.{Indices}
use Rattle.trust_groups.specs.Settings.{settings}
use Rattle.trust_groups.specs.View.{settings_of}
use Rattle.run_data.specs.declared.entry.Entry.{Entry}
use Rattle.run_model.specs.Logs.{branch, branch_after}

-- what was read, if it was, is what a branch sets
abbrev pub AreSet : Files → Option Indices → Type 0
AreSet files read = IfSome read (λ indices. settings_of indices ≡ settings (lines_at files))

-- nothing is read of the branch that changed
pub sets_forgot : (read : List (Option Indices)) (i : ℕ) (past : List Entry) (e : Entry) (r : ℕ) → e.repo ≡ Some i → i < length read
    → AreSet (branch past r) (slice_index_or read r None) → AreSet (branch (e ∷ past) r) (slice_index_or (set read i None) r None)
sets_forgot read i past e r of_i within known = elim (eqb_tells i r) [
  | inl same ↦ subst (λ (o : Option Indices). AreSet (branch (e ∷ past) r) o) (sym (subst (λ (q : ℕ). slice_index_or (set read i None) q None ≡ None) same.1 (get_or-set_same read i None None within))) tt
  | inr apart ↦ rw (of_i, apart.0) (let ne : r ≢ i = λ h. apart.1 (sym h) in subst (AreSet (branch past r)) (sym (get_or-set_other read i r None None ne)) known)
]

-- an entry of another kind leaves the branch
pub sets_kept : (read : List (Option Indices)) (past : List Entry) (e : Entry) (i r : ℕ) → e.repo ≡ Some i → ((files : Files) → branch_after files e.kind e.lines ≡ files)
    → AreSet (branch past r) (slice_index_or read r None) → AreSet (branch (e ∷ past) r) (slice_index_or read r None)
sets_kept read past e i r of_i leaves known = elim (eqb_tells i r) [
  | inl same ↦ rw (of_i, same.0) (subst (λ (files : Files). AreSet files (slice_index_or read r None)) (sym (leaves (branch past r))) known)
  | inr apart ↦ rw (of_i, apart.0) known
]

-- as does one of a repository that the table hasn't
pub sets_beyond : (read : List (Option Indices)) (past : List Entry) (e : Entry) (i r : ℕ) → e.repo ≡ Some i → r ≢ i
    → AreSet (branch past r) (slice_index_or read r None) → AreSet (branch (e ∷ past) r) (slice_index_or read r None)
sets_beyond read past e i r of_i other known = elim (eqb_tells i r) [
  | inl same ↦ absurd (other (sym same.1))
  | inr apart ↦ rw (of_i, apart.0) known
]

-- and one of no repository
pub sets_alike : (read : List (Option Indices)) (past : List Entry) (e : Entry) (r : ℕ) → e.repo ≡ None
    → AreSet (branch past r) (slice_index_or read r None) → AreSet (branch (e ∷ past) r) (slice_index_or read r None)
sets_alike read past e r of_none known = rw of_none known

-- what is read of one branch
pub sets_read : (read : List (Option Indices)) (i r : ℕ) (indices : Indices) (past : List Entry) → i < length read → settings_of indices ≡ settings (lines_at (branch past i))
    → AreSet (branch past r) (slice_index_or read r None) → AreSet (branch past r) (slice_index_or (set read i (Some indices)) r None)
sets_read read i r indices past within is known = elim (eqb_tells i r) [
  | inl same ↦ subst (λ (q : ℕ). AreSet (branch past q) (slice_index_or (set read i (Some indices)) q None)) same.1 (subst (AreSet (branch past i)) (sym (get_or-set_same read i (Some indices) None within)) is)
  | inr apart ↦ (let ne : r ≢ i = λ h. apart.1 (sym h) in subst (AreSet (branch past r)) (sym (get_or-set_other read i r (Some indices) None ne)) known)
]

pub read_there : (read : List (Option Indices)) (i : ℕ) (indices : Indices) → i < length read → (x : Indices) × (slice_get (set read i (Some indices)) i ≡ Some (Some x))
read_there read i indices within =
    (indices, slice_get-get_or (set read i (Some indices)) i None (subst (λ (n : ℕ). i < n) (sym (length-set read i (Some indices))) within) ∙ ap Some (get_or-set_same read i (Some indices) None within))

-- what was read before
pub was_there : (read : List (Option Indices)) (i : ℕ) (o : Option Indices) → i < length read → o ≡ get_or read i o → is_some o ≡ true → (x : Indices) × (slice_get read i ≡ Some (Some x))
was_there read i None within at there = absurd cc
was_there read i (Some x) within at there = (x, slice_get-get_or read i (Some x) within ∙ ap Some (sym at))
