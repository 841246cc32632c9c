-- Entries one after another.
use Rattle.std.proofs.Common.{◌≡◌, ℕ, ◌+◌, ◌<◌, List, [], ◌∷◌, ◌++◌, length, get_or, take, reverse, refl, sym, ◌∙◌, ap, append_assoc}
use Rattle.std.proofs.lemmas.List.{take_more, reverse-append, append-nil}
use Rattle.run_data.specs.declared.run.RepoView.{RepoView}
use Rattle.run_data.specs.declared.entry.Entry.{Entry}
use Rattle.journal_text.specs.Journal.{entry_text, entries_text}

-- one more entry, before the others of a past
past_with : (x : Entry) (xs past : List Entry) → reverse xs ++ (x ∷ past) ≡ reverse (x ∷ xs) ++ past
past_with x xs past = sym (ap (λ (l : List Entry). l ++ past) (reverse-append (x ∷ []) xs) ∙ append_assoc (reverse xs) (x ∷ []) past)

-- entries, and others after them
entries_append : (repos : List RepoView) (past xs ys : List Entry)
    → entries_text repos past (xs ++ ys) ≡ entries_text repos past xs ++ entries_text repos (reverse xs ++ past) ys
entries_append repos past [] ys = refl
entries_append repos past (x ∷ xs) ys =
    ap (λ (l : List ℕ). entry_text repos past x ++ l)
    (entries_append repos (x ∷ past) xs ys ∙ ap (λ (p : List Entry). entries_text repos (x ∷ past) xs ++ entries_text repos p ys) (past_with x xs past))
    ∙ sym (append_assoc (entry_text repos past x) _ _)

-- an entry alone
one_entry : (repos : List RepoView) (past : List Entry) (e : Entry) → entries_text repos (past ++ []) (e ∷ []) ≡ entry_text repos past e
one_entry repos past e = append-nil (entry_text repos (past ++ []) e) ∙ ap (λ (p : List Entry). entry_text repos p e) (append-nil past)

-- the first entries, and the next
next_entry : (repos : List RepoView) (entries : List Entry) (place : ℕ) (e : Entry) → place < length entries → e ≡ get_or entries place e
    → entries_text repos [] (take (place + 1) entries) ≡ entries_text repos [] (take place entries) ++ entry_text repos (reverse (take place entries)) e
next_entry repos entries place e within at =
    ap (entries_text repos []) (take_more entries place e within ∙ ap (λ (x : Entry). take place entries ++ x ∷ []) (sym at))
    ∙ entries_append repos [] (take place entries) (e ∷ [])
    ∙ ap (λ (l : List ℕ). entries_text repos [] (take place entries) ++ l) (one_entry repos (reverse (take place entries)) e)

-- the text so far, with that of the next entry
pub entries_more : (repos : List RepoView) (entries before : List Entry) (place : ℕ) (old out new : List ℕ) (e : Entry)
    → before ≡ take place entries → place < length entries → e ≡ get_or entries place e
    → out ≡ old ++ entries_text repos [] (take place entries) → new ≡ out ++ entry_text repos (reverse before) e
    → new ≡ old ++ entries_text repos [] (take (place + 1) entries)
entries_more repos entries before place old out new e before_is within at so_far is =
    (rw before_is at is) ∙ ap (λ (l : List ℕ). l ++ entry_text repos (reverse (take place entries)) e) so_far
    ∙ append_assoc old _ _
    ∙ ap (λ (l : List ℕ). old ++ l) (sym (next_entry repos entries place e within at))
