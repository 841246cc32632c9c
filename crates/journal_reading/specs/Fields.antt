-- The fields of a journal's lines (own).
use Rattle.std.specs.Prelude.{◌≡◌, ℕ, ◌<◌, Bool, true, false, not, ◌==◌, ◌&&◌, ◌||◌, nat_lt, List, [], ◌∷◌, ◌++◌, length, take, drop, Option, Some, None, codes, position, bytes_eq, is_some, if◌then◌else◌}
use Rattle.std.specs.List.{list_all, prefix_len}
use Rattle.std.specs.Option.{option_map}
use Rattle.annex_base.specs.Lines.{is_one_line, is_not_space}
use Rattle.annex_base.specs.OptionSteps.{◌>>=◌}
use Rattle.annex_base.specs.declared.kinds.Call.{Call}
use Rattle.annex_base.specs.declared.kinds.Found.{Found}
use Rattle.annex_base.specs.declared.kinds.Found.TheVariants as finds
use Rattle.annex_key.specs.Tree.{Entries, key_of}
use Rattle.log_grammar.specs.Files.{file_name, kind_named}
use Rattle.log_grammar.specs.declared.entry.LogKind.{LogKind}
use Rattle.log_grammar.specs.declared.entry.LogKind.TheVariants as log_kinds
use Rattle.p2p_wire.specs.Messages.{message_of}
use Rattle.run_data.specs.declared.run.RepoView.{RepoView}
use Rattle.run_data.specs.declared.entry.By.{By}
use Rattle.run_data.specs.declared.entry.By.TheVariants as bys
use Rattle.run_data.specs.declared.entry.LogFile.{LogFile}
use Rattle.run_data.specs.declared.entry.LogFile.TheVariants as files
use Rattle.run_data.specs.declared.entry.FrameText.{FrameText}
use Rattle.run_data.specs.declared.entry.FrameText.TheVariants as bodies
use Rattle.run_text.specs.Names.{name_of}
use Rattle.run_text.specs.Jobs.{key_text}
use Rattle.script_words.specs.Fields.{is_key, is_path, call_word, all_calls}
use Rattle.script_words.specs.Words.{quote, is_not_quote, has_space}
use Rattle.journal_text.specs.Journal.{by_text, found_text, side_text, file_text, body_text}
use Rattle.journal_reading.specs.Forms.{Form, Row, number, one_of, passing, nothing, cut, behind, up_to, joined, row, table, tested}

abbrev pub small : Form ℕ
small = number 4294967295

abbrev pub large : Form ℕ
large = number 18446744073709551615

abbrev pub a_byte : Form ℕ
a_byte = number 255

-- ---- repositories

-- a repository by its name
abbrev pub repo_number : List RepoView → Form ℕ
repo_number repos = record { text = name_of repos; read = λ word. position (λ x. bytes_eq x.name word) repos; ok = λ r. r < length repos }

-- another one than r
abbrev pub other_number : List RepoView → ℕ → Form ℕ
other_number repos r = tested (λ p. not (r == p)) (repo_number repos)

-- numbers that rise
abbrev pub rises_from : ℕ → List ℕ → Bool
rises_from x [] = true
rises_from x (y ∷ ys) = nat_lt x y && rises_from y ys

abbrev pub rises : List ℕ → Bool
rises [] = true
rises (x ∷ xs) = rises_from x xs

-- repositories in order of number
abbrev pub repo_list : List RepoView → Form (List ℕ)
repo_list repos = tested rises (joined 44 (repo_number repos))

-- ---- keys

abbrev pub key : Form (List ℕ)
key = passing is_key

-- the last field of its line
abbrev pub key_last : Form (List ℕ)
key_last = behind (codes "key=") key

-- ---- for whom

abbrev pub of_job : Row By
of_job = row (codes "job:") small bys.Job

abbrev pub of_peer : List RepoView → Row By
of_peer repos = row (codes "peer:") (up_to 46 (repo_number repos) (λ p. small)) (λ x. bys.Peer x.0 x.1)

abbrev pub IsBy : List RepoView → By → Type 0
IsBy repos bys.Script = Unit {0}
IsBy repos (bys.Job j) = small.ok j
IsBy repos (bys.Peer p slot) = (p < length repos) × small.ok slot

abbrev pub IsOther : List RepoView → By → Type 0
IsOther repos bys.Script = ⊥
IsOther repos (bys.Job j) = small.ok j
IsOther repos (bys.Peer p slot) = (p < length repos) × small.ok slot

abbrev pub of_script : Row By
of_script = row (codes "script") nothing (λ x. bys.Script)

abbrev pub by_rows_of : List RepoView → List (Row By)
by_rows_of repos = of_script ∷ of_job ∷ of_peer repos ∷ []

abbrev pub by_form : List RepoView → Form By
by_form repos = table (by_text repos) (by_rows_of repos) (IsBy repos)

abbrev pub other_rows : List RepoView → List (Row By)
other_rows repos = of_job ∷ of_peer repos ∷ []

-- a job or a peer
abbrev pub other_by : List RepoView → Form By
other_by repos = table (by_text repos) (other_rows repos) (IsOther repos)

-- ---- words

abbrev pub all_found : List Found
all_found = finds.Present ∷ finds.Absent ∷ finds.Barred ∷ finds.Held ∷ finds.Late ∷ finds.Nolock ∷ []

abbrev pub found_form : Form Found
found_form = one_of found_text all_found

abbrev pub both : List Bool
both = true ∷ false ∷ []

abbrev pub side_form : Form Bool
side_form = one_of side_text both

abbrev pub call_form : Form Call
call_form = one_of call_word all_calls

-- ---- files

-- a kind of log that is one file of a branch
abbrev pub IsOneFile : LogKind → Type 0
IsOneFile log_kinds.Location = ⊥
IsOneFile _ = Unit {0}

abbrev pub kind_form : Form LogKind
kind_form = record { text = file_name; read = kind_named; ok = IsOneFile }

-- a location log is named by its key, another log by its file
abbrev pub IsFile : LogFile → Type 0
IsFile (files.Location k) = key.ok k
IsFile (files.Of kind) = IsOneFile kind
IsFile (files.Other name) = ⊥

abbrev pub file_rows : List (Row LogFile)
file_rows = row (codes "location ") key files.Location ∷ row [] kind_form files.Of ∷ []

abbrev pub file_form : Form LogFile
file_form = table file_text file_rows IsFile

-- ---- the key of a job

-- what a word says: a key, or `@` and a path of the tree
abbrev pub path_key : Entries → List ℕ → Option (List ℕ × Option (List ℕ))
path_key tree path = if is_path path && is_one_line path then option_map (λ k. (k, Some path)) (key_of tree path) else None

abbrev pub named_key : Entries → List ℕ → Option (List ℕ × Option (List ℕ))
named_key tree [] = None
named_key tree (b ∷ word) = if b == 64 then path_key tree word else (if is_key (b ∷ word) then Some (b ∷ word, None) else None)

-- a word has no quote where it needs them
abbrev pub is_printable : List ℕ → Bool
is_printable word = not (has_space word) || list_all is_not_quote word

abbrev pub IsNamedKey : Entries → List ℕ → Option (List ℕ) → Type 0
IsNamedKey tree k None = (key.ok k) × (is_printable k ≡ true)
IsNamedKey tree k (Some path) = ((is_path path && is_one_line path) ≡ true) × (key_of tree path ≡ Some k) × (is_printable (64 ∷ path) ≡ true)

-- a printed word, and what stands behind it: in quotes exactly where it has a space
abbrev pub quoted_cut : Option (List ℕ × List ℕ) → Option (List ℕ × List ℕ)
quoted_cut None = None
quoted_cut (Some parts) = if has_space parts.0 then Some parts else None

abbrev pub plain_cut : List ℕ → List ℕ × List ℕ
plain_cut bytes = (take (prefix_len is_not_space bytes) bytes, drop (prefix_len is_not_space bytes) bytes)

abbrev pub word_cut : List ℕ → Option (List ℕ × List ℕ)
word_cut [] = None
word_cut (b ∷ bytes) = if b == quote then quoted_cut (cut quote bytes) else Some (plain_cut (b ∷ bytes))

-- a key, and then a form
abbrev pub keyed : {A : Type 0} → Entries → Form A → Form ((List ℕ × Option (List ℕ)) × A)
keyed tree next = record {
  text = λ x. key_text x.0.0 x.0.1 ++ next.text x.1;
  read = λ bytes. word_cut bytes >>= λ parts. named_key tree parts.0 >>= λ k. next.read parts.1 >>= λ y. Some (k, y);
  ok = λ x. IsNamedKey tree x.0.0 x.0.1 × next.ok x.1;
}

-- ---- what a frame carries

abbrev pub is_message : List ℕ → Bool
is_message text = is_one_line text && is_some (message_of text)

abbrev pub IsBody : FrameText → Type 0
IsBody bodies.Opening = Unit {0}
IsBody bodies.Closing = Unit {0}
IsBody (bodies.Bytes n) = large.ok n
IsBody (bodies.Line text) = is_message text ≡ true

abbrev pub body_rows : List (Row FrameText)
body_rows = row (codes "OPEN") nothing (λ x. bodies.Opening) ∷ row (codes "CLOSE") nothing (λ x. bodies.Closing) ∷ row (codes "BYTES ") large bodies.Bytes ∷ row [] (passing is_message) bodies.Line ∷ []

abbrev pub body_form : Form FrameText
body_form = table body_text body_rows IsBody
