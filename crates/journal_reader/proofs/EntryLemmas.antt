-- The entries, one after the other.
use Rattle.std.proofs.Common.{◌≡◌, ℕ, suc, List, [], ◌∷◌, ◌++◌, length, reverse, Option, Some, None, sym, ap, ◌∙◌}
use Rattle.annex_key.specs.Tree.{Entries}
use Rattle.run_data.specs.declared.entry.Entry.{Entry}
use Rattle.run_data.specs.declared.run.RepoView.{RepoView}
use Rattle.run_data.specs.declared.run.TreeMark.{TreeMark}
use Rattle.journal_reading.specs.Lines.{tree_at}
use Rattle.journal_reading.specs.Reading.{Saying, ◌>>>◌, entries_in}
use Rattle.journal_reading.specs.Reading.Saying.{Said, Outside}
use Rattle.journal_reader.specs.Steps.{said, entry_by}
use Rattle.journal_reader.proofs.PushLemmas.{reverse_push, behind_these, behind_more, behind_end}

-- the entries by the first of them
abbrev entries_by : ℕ → List RepoView → List TreeMark → List Entry → Saying Entry → Saying (List Entry)
entries_by n repos marks past s = s >>> λ e rest. entries_in n repos marks (e ∷ past) rest >>> λ es rest. Said (e ∷ es) rest

-- so many entries are left, and one of them
at_one : (repos : List RepoView) (marks : List TreeMark) (tree : Entries) (entries : List Entry) (whole : Saying (List Entry)) (left next : ℕ) (lines rest : List (List ℕ)) (o : Option Entry)
    → left ≡ suc next → whole ≡ behind_these entries (entries_in left repos marks (reverse entries) lines)
    → tree ≡ tree_at marks (length (reverse entries)) → said o rest ≡ entry_by repos tree (reverse entries) lines
    → whole ≡ behind_these entries (entries_by next repos marks (reverse entries) (said o rest))
at_one repos marks tree entries whole left next lines rest o is so_far tree_is read =
    so_far ∙ ap (λ n. behind_these entries (entries_in n repos marks (reverse entries) lines)) is
    ∙ ap (λ t. behind_these entries (entries_by next repos marks (reverse entries) (entry_by repos t (reverse entries) lines))) (sym tree_is)
    ∙ ap (λ s. behind_these entries (entries_by next repos marks (reverse entries) s)) (sym read)

pub entries_more : (repos : List RepoView) (marks : List TreeMark) (tree : Entries) (entries : List Entry) (whole : Saying (List Entry)) (left next : ℕ) (lines rest : List (List ℕ)) (e : Entry)
    → left ≡ suc next → whole ≡ behind_these entries (entries_in left repos marks (reverse entries) lines)
    → tree ≡ tree_at marks (length (reverse entries)) → said (Some e) rest ≡ entry_by repos tree (reverse entries) lines
    → whole ≡ behind_these (entries ++ e ∷ []) (entries_in next repos marks (reverse (entries ++ e ∷ [])) rest)
entries_more repos marks tree entries whole left next lines rest e is so_far tree_is read =
    at_one repos marks tree entries whole left next lines rest (Some e) is so_far tree_is read
    ∙ behind_more entries e (entries_in next repos marks (e ∷ reverse entries) rest)
    ∙ ap (λ past. behind_these (entries ++ e ∷ []) (entries_in next repos marks past rest)) (sym (reverse_push entries e))

pub entries_bad : (repos : List RepoView) (marks : List TreeMark) (tree : Entries) (entries : List Entry) (whole : Saying (List Entry)) (left next : ℕ) (lines rest : List (List ℕ))
    → left ≡ suc next → whole ≡ behind_these entries (entries_in left repos marks (reverse entries) lines)
    → tree ≡ tree_at marks (length (reverse entries)) → said None rest ≡ entry_by repos tree (reverse entries) lines
    → whole ≡ Outside rest
entries_bad repos marks tree entries whole left next lines rest is so_far tree_is read =
    at_one repos marks tree entries whole left next lines rest None is so_far tree_is read

pub entries_end : (repos : List RepoView) (marks : List TreeMark) (entries : List Entry) (whole : Saying (List Entry)) (left : ℕ) (lines : List (List ℕ))
    → left ≡ 0 → whole ≡ behind_these entries (entries_in left repos marks (reverse entries) lines) → whole ≡ Said entries lines
entries_end repos marks entries whole left lines is so_far =
    so_far ∙ ap (λ n. behind_these entries (entries_in n repos marks (reverse entries) lines)) is ∙ behind_end entries lines
