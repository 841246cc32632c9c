-- The first line of an entry, and what stands behind it.
use Rattle.std.proofs.Common.{◌≡◌, ℕ, List, ◌∷◌, Option, Some, None, sym, ap, ◌∙◌}
use Rattle.annex_base.specs.OptionSteps.{◌>>=◌}
use Rattle.annex_key.specs.Tree.{Entries}
use Rattle.run_data.specs.declared.entry.Entry.{Entry}
use Rattle.run_data.specs.declared.run.RepoView.{RepoView}
use Rattle.journal_reading.specs.Forms.{Form, cut, up_to, or_dash}
use Rattle.journal_reading.specs.Fields.{large, repo_number}
use Rattle.journal_reading.specs.Kinds.{Did, did_form}
use Rattle.journal_reading.specs.Lines.{Head, head_form}
use Rattle.journal_reading.specs.Reading.{Saying, ◌>>>◌, said_or, taken_in, frames_behind}
use Rattle.journal_reading.specs.Reading.Saying.{Outside}
use Rattle.journal_reader.specs.Steps.{entry_by}

-- a word up to a byte, and what stands behind it
up_to_read : {A B : Type 0} (b : ℕ) (first : Form A) (next : A → Form B) (bytes : List ℕ) (parts : List ℕ × List ℕ) (x : A) (y : B)
    → Some parts ≡ cut b bytes → Some x ≡ first.read parts.0 → Some y ≡ (next x).read parts.1 → Some (x, y) ≡ (up_to b first next).read bytes
up_to_read {A} {B} b first next bytes parts x y is read more =
    ap (λ (p : Option B). p >>= λ y. Some (x, y)) more
    ∙ ap (λ (a : Option A). a >>= λ a. (next a).read parts.1 >>= λ y. Some (a, y)) read
    ∙ ap (λ (p : Option (List ℕ × List ℕ)). p >>= λ parts. first.read parts.0 >>= λ a. (next a).read parts.1 >>= λ y. Some (a, y)) is

-- the repository of an entry, and what it did
abbrev pub actor_form : List RepoView → Entries → List Entry → Form (Option ℕ × Did)
actor_form repos tree past = up_to 32 (or_dash (repo_number repos)) (λ r. did_form repos tree past r)

pub head_read : (repos : List RepoView) (tree : Entries) (past : List Entry) (line : List ℕ) (p q : List ℕ × List ℕ) (time count : ℕ) (actor : Option ℕ × Did)
    → Some p ≡ cut 46 line → Some time ≡ large.read p.0 → Some q ≡ cut 32 p.1 → Some count ≡ large.read q.0 → Some actor ≡ (actor_form repos tree past).read q.1
    → Some (time, (count, actor)) ≡ (head_form repos tree past).read line
head_read repos tree past line p q time count actor p_is time_is q_is count_is actor_is =
    up_to_read 46 large (λ t. up_to 32 large (λ n. actor_form repos tree past)) line p time (count, actor) p_is time_is
    (up_to_read 32 large (λ n. actor_form repos tree past) p.1 q count actor q_is count_is actor_is)

-- ---- an entry, by its first line

abbrev outside : List (List ℕ) → Saying Entry
outside lines = Outside lines

abbrev entry_behind_head : List RepoView → List ℕ → List (List ℕ) → Option Head → Saying Entry
entry_behind_head repos line rest o = said_or (line ∷ rest) rest o >>> λ h rest. frames_behind repos h (taken_in repos rest)

pub entry_read : (repos : List RepoView) (tree : Entries) (past : List Entry) (lines : List (List ℕ)) (line : List ℕ) (rest : List (List ℕ)) (h : Head)
    → lines ≡ line ∷ rest → Some h ≡ (head_form repos tree past).read line → frames_behind repos h (taken_in repos rest) ≡ entry_by repos tree past lines
entry_read repos tree past lines line rest h is read =
    ap (entry_behind_head repos line rest) read ∙ ap (λ (ls : List (List ℕ)). entry_by repos tree past ls) (sym is)

pub entry_none : (repos : List RepoView) (tree : Entries) (past : List Entry) (lines : List (List ℕ)) (line : List ℕ) (rest : List (List ℕ))
    → lines ≡ line ∷ rest → None ≡ (head_form repos tree past).read line → Outside lines ≡ entry_by repos tree past lines
entry_none repos tree past lines line rest is read =
    ap outside is ∙ ap (entry_behind_head repos line rest) read ∙ ap (λ (ls : List (List ℕ)). entry_by repos tree past ls) (sym is)
