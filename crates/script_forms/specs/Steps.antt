-- The steps by which a line is read: each reads the words that come next, and stands before what follows them (own).
use Rattle.std.specs.Prelude.{◌≡◌, ℕ, zero, suc, ◌+◌, ◌-◌, Bool, true, false, ◌&&◌, ◌||◌, not, nat_le, nat_lt, ◌==◌, List, [], ◌∷◌, ◌++◌, length, Option, Some, None, Result, Ok, Err, codes, bytes_eq, is_some, if◌then◌else◌}
use Rattle.std.specs.Option.{option_map}
use Rattle.annex_base.specs.ResultSteps.{◌>>=◌}
use Rattle.annex_base.specs.RepoText.{repo_of}
use Rattle.annex_base.specs.declared.kinds.Level.{Level}
use Rattle.annex_base.specs.declared.kinds.Call.{Call}
use Rattle.annex_key.specs.Tree.{key_of}
use Rattle.log_lines.specs.Files.{kind_named}
use Rattle.log_lines.specs.LineText.{is_group}
use Rattle.log_lines.specs.declared.entry.Topic.{Topic}
use Rattle.log_lines.specs.declared.entry.Topic.TheVariants as topics
use Rattle.run_data.specs.declared.entry.LogFile.{LogFile}
use Rattle.run_data.specs.declared.entry.LogFile.TheVariants.{Location, Of}
use Rattle.run_data.specs.declared.job.JobKind.{JobKind}
use Rattle.run_data.specs.declared.job.JobKind.TheVariants as kinds
use Rattle.script_words.specs.Places.{Cursor, LineWord}
use Rattle.script_words.specs.Words.{next_word, rest_word, behind}
use Rattle.script_words.specs.Numbers.{number_up_to}
use Rattle.script_words.specs.Fields.{is_name, is_path, level_of, call_of, key_word, offset_of, version_of, clock_of, is_nolock}
use Rattle.script_words.specs.Contents.{content_of}
use Rattle.script_words.specs.declared.words.NextWord.{NextWord}
use Rattle.script_words.specs.declared.words.NextWord.TheVariants.{NoWord, BadWord, Word}
use Rattle.script_words.specs.declared.key_word.KeyWord.{KeyWord}
use Rattle.script_words.specs.declared.key_word.KeyWord.TheVariants.{OfKey, OfPath}
use Rattle.script_commands.specs.declared.command.NamedKey.{NamedKey}
use Rattle.script_forms.specs.declared.fault.LineFault.{LineFault}
use Rattle.script_forms.specs.declared.fault.LineFault.TheVariants.{Wrong}
use Rattle.script_forms.specs.Context.{Context, number_of_repo, number_of_other, id_of_repo, has_name, has_id, has_path, is_placed}
use Rattle.script_forms.specs.Verify.{is_content_of}

-- what a step reads, with the place behind it; a word that is missing is wrong at the line's length, any other wrong
-- word at its first byte
abbrev pub Step : Type 0 → Type 0
Step A = Cursor → Result (A × Cursor) LineFault

-- ---- one word

abbrev pub word_in : Cursor → NextWord → Result (LineWord × Cursor) LineFault
word_in at NoWord = Err (Wrong (length at.line))
word_in at (BadWord byte) = Err (Wrong byte)
word_in at (Word word) = Ok (word, behind at (Word word))

-- the next word
unfoldable pub word_at : Step LineWord
word_at at = word_in at (next_word at.line at.place)

abbrev pub or_wrong : {A : Type 0} → ℕ → Option A → Result A LineFault
or_wrong byte None = Err (Wrong byte)
or_wrong byte (Some x) = Ok x

-- the next word, and what it says by this reading
abbrev pub saying_at : {A : Type 0} → (List ℕ → Option A) → Step A
saying_at says at = word_at at >>= λ w. or_wrong w.0.place (says w.0.text) >>= λ x. Ok (x, w.1)

abbrev pub end_in : Cursor → NextWord → Result Unit LineFault
end_in at NoWord = Ok tt
end_in at (BadWord byte) = Err (Wrong byte)
end_in at (Word word) = Err (Wrong word.place)

-- no word is left
unfoldable pub end_at : Cursor → Result Unit LineFault
end_at at = end_in at (next_word at.line at.place)

abbrev pub taken_if : {A : Type 0} → Cursor → LineWord → Option A → Option A × Cursor
taken_if at word None = (None, at)
taken_if at word (Some x) = (Some x, behind at (Word word))

abbrev pub option_in : {A : Type 0} → (List ℕ → Option A) → Cursor → NextWord → Option A × Cursor
option_in says at NoWord = (None, at)
option_in says at (BadWord byte) = (None, at)
option_in says at (Word word) = taken_if at word (says word.text)

-- the next word where it says something by this reading, or else nothing
abbrev pub option_at : {A : Type 0} → (List ℕ → Option A) → Cursor → Option A × Cursor
option_at says at = option_in says at (next_word at.line at.place)

abbrev pub if_holds : {A : Type 0} → Bool → A → Option A
if_holds b x = if b then Some x else None

-- a word that must be this one
abbrev pub this_word : List ℕ → List ℕ → Option Unit
this_word word text = if_holds (bytes_eq word text) tt

-- whether this word comes next, with the place behind it
abbrev pub comes_next : List ℕ → Cursor → Bool × Cursor
comes_next word at = let x = option_at (this_word word) at in (is_some x.0, x.1)

-- ---- repositories

-- a repository
unfoldable pub repo_at : Context → Step ℕ
repo_at context at = saying_at (number_of_repo context.repos) at

-- another repository than this one
unfoldable pub other_at : Context → ℕ → Step ℕ
other_at context r at = saying_at (number_of_other context.repos r) at

-- a repository that an entry speaks of
unfoldable pub target_at : Context → Step Topic
target_at context at = saying_at (λ name. option_map topics.Repo (id_of_repo context.repos name)) at

abbrev pub new_name : Context → List ℕ → Option (List ℕ)
new_name context word = if_holds (is_name word && not (has_name context.repos word)) word

-- a name that no repository has
unfoldable pub new_name_at : Context → Step (List ℕ)
new_name_at context at = saying_at (new_name context) at

abbrev pub unless_known : Context → Option (List ℕ) → Option (List ℕ)
unless_known context None = None
unless_known context (Some id) = if_holds (not (has_id context.repos id)) id

-- an identifier that no repository has
unfoldable pub new_id_at : Context → Step (List ℕ)
new_id_at context at = saying_at (λ word. unless_known context (repo_of word)) at

-- ---- plain words

-- a number up to this one
unfoldable pub number_at : ℕ → Step ℕ
number_at greatest at = saying_at (number_up_to greatest) at

unfoldable pub level_at : Step Level
level_at at = saying_at level_of at

unfoldable pub call_at : Step Call
call_at at = saying_at call_of at

abbrev pub path_of : List ℕ → Option (List ℕ)
path_of word = if_holds (is_path word) word

-- a path
unfoldable pub path_at : Step (List ℕ)
path_at at = saying_at path_of at

-- a path of the tree
unfoldable pub tree_path_at : Context → Step (List ℕ)
tree_path_at context at = saying_at (λ word. if_holds (has_path context.tree word) word) at

abbrev pub group_of : List ℕ → Option (List ℕ)
group_of word = if_holds (is_group word) word

unfoldable pub group_at : Step (List ℕ)
group_at at = saying_at group_of at

-- ---- keys

abbrev pub with_path : List ℕ → List ℕ → NamedKey
with_path path key = record { key = key; path = Some path }

abbrev pub key_by : Context → Option KeyWord → Option NamedKey
key_by context None = None
key_by context (Some (OfKey key)) = Some (record { key = key; path = None })
key_by context (Some (OfPath path)) = option_map (with_path path) (key_of context.tree path)

-- the key of which a word is the text, or `@` and a path that the tree has
abbrev pub key_named : Context → List ℕ → Option NamedKey
key_named context word = key_by context (key_word word)

-- a key
unfoldable pub key_at : Context → Step NamedKey
key_at context at = saying_at (key_named context) at

abbrev pub if_placed : Context → ℕ → Option NamedKey → Option NamedKey
if_placed context r None = None
if_placed context r (Some k) = if_holds (is_placed context r k.key) k

-- a key whose content a line put at the repository
unfoldable pub placed_key_at : Context → ℕ → Step NamedKey
placed_key_at context r at = saying_at (λ word. if_placed context r (key_named context word)) at

-- ---- contents

-- the most bytes of one content
abbrev pub most_content : ℕ
most_content = 16777216

abbrev pub is_large : List ℕ → Bool
is_large content = nat_lt most_content (length content)

-- a content
unfoldable pub content_at : Step (List ℕ)
content_at at = saying_at content_of at

abbrev pub if_matches : List ℕ → Option (List ℕ) → Option (List ℕ)
if_matches key None = None
if_matches key (Some content) = if_holds (is_large content || is_content_of key content) content

-- a content that matches the key; one past the limit isn't looked at
unfoldable pub matching_at : List ℕ → Step (List ℕ)
matching_at key at = saying_at (λ word. if_matches key (content_of word)) at

-- ---- log files

-- a log file by its name
abbrev pub file_named : List ℕ → Option LogFile
file_named name = option_map Of (kind_named name)

unfoldable pub file_at : Step LogFile
file_at at = saying_at file_named at

abbrev pub location_at : Context → Step LogFile
location_at context at = key_at context at >>= λ k. Ok (Location k.0.key, k.1)

abbrev pub log_file_by : Context → Bool → Step LogFile
log_file_by context false at = file_at at
log_file_by context true at = location_at context at

-- `location` and a key, or a log file by its name
unfoldable pub log_file_at : Context → Step LogFile
log_file_at context at = let x = comes_next (codes "location") at in log_file_by context x.0 x.1

-- ---- options

abbrev pub or_else : {A : Type 0} → A → Option A → A
or_else x None = x
or_else x (Some y) = y

-- `offset=MS`, without it 0
unfoldable pub offset_at : Cursor → ℕ × Cursor
offset_at at = let x = option_at offset_of at in (or_else 0 x.0, x.1)

-- `version=V`, without it 3
unfoldable pub version_at : Cursor → ℕ × Cursor
version_at at = let x = option_at version_of at in (or_else 3 x.0, x.1)

abbrev pub nolock_of : List ℕ → Option Bool
nolock_of word = if_holds (is_nolock word) false

-- whether it gives holds to peers: `nolock` says that it doesn't
unfoldable pub locks_at : Cursor → Bool × Cursor
locks_at at = let x = option_at nolock_of at in (or_else true x.0, x.1)

-- `clock=MS`, without it 0
unfoldable pub clock_at : Cursor → ℕ × Cursor
clock_at at = let x = option_at clock_of at in (or_else 0 x.0, x.1)

abbrev pub above_zero : Option ℕ → Option ℕ
above_zero None = None
above_zero (Some n) = if_holds (nat_le 1 n) n

abbrev pub turns_of : List ℕ → Option ℕ
turns_of word = above_zero (number_up_to 10000 word)

-- a number of turns from 1 to 10,000, without it 1
unfoldable pub turns_at : Cursor → ℕ × Cursor
turns_at at = let x = option_at turns_of at in (or_else 1 x.0, x.1)

-- a path, or none
unfoldable pub maybe_path_at : Cursor → Option (List ℕ) × Cursor
maybe_path_at at = option_at path_of at

abbrev pub peer_by : Context → ℕ → Bool → Step (Option ℕ)
peer_by context r false at = Ok (None, at)
peer_by context r true at = other_at context r at >>= λ p. Ok (Some p.0, p.1)

-- `from` and another repository than this one, or nothing
unfoldable pub from_at : Context → ℕ → Step (Option ℕ)
from_at context r at = let x = comes_next (codes "from") at in peer_by context r x.0 x.1

-- `to` and another repository than this one
unfoldable pub to_at : Context → ℕ → Step ℕ
to_at context r at = saying_at (this_word (codes "to")) at >>= λ x. other_at context r x.1

abbrev pub way_of : List ℕ → Option JobKind
way_of word = if bytes_eq (codes "to") word then Some kinds.MoveTo else if_holds (bytes_eq (codes "from") word) kinds.MoveFrom

-- which way content moves
unfoldable pub way_at : Step JobKind
way_at at = saying_at way_of at

-- ---- the rest of a line

abbrev pub rest_in : Cursor → NextWord → Result (List ℕ) LineFault
rest_in at NoWord = Err (Wrong (length at.line))
rest_in at (BadWord byte) = Err (Wrong byte)
rest_in at (Word word) = Ok word.text

-- what follows the one space behind the last word
unfoldable pub rest_at : Cursor → Result (List ℕ) LineFault
rest_at at = rest_in at (rest_word at.line at.place)

-- the most bytes of a description, an expression, a glob, and of the words of groups
abbrev pub longest_text : ℕ
longest_text = 4096

-- what follows that space isn't longer
unfoldable pub short_at : Cursor → Result Unit LineFault
short_at at = if nat_lt (longest_text + 1) (length at.line - at.place) then Err (Wrong (at.place + 1)) else Ok tt

abbrev pub or_missing : Cursor → List ℕ → Result (List ℕ) LineFault
or_missing at [] = Err (Wrong (length at.line))
or_missing at (b ∷ text) = Ok (b ∷ text)

-- the same, where an empty text counts as missing
unfoldable pub full_rest_at : Cursor → Result (List ℕ) LineFault
full_rest_at at = rest_at at >>= or_missing at

-- a text up to the line's end
unfoldable pub text_at : Cursor → Result (List ℕ) LineFault
text_at at = short_at at >>= λ _. rest_at at

-- a glob up to the line's end
unfoldable pub glob_at : Cursor → Result (List ℕ) LineFault
glob_at at = short_at at >>= λ _. full_rest_at at

-- ---- groups

abbrev pub group_by : (List (List ℕ) → Cursor → Result (List (List ℕ)) LineFault) → List (List ℕ) → Cursor → NextWord → Result (List (List ℕ)) LineFault
group_by others groups at NoWord = Ok groups
group_by others groups at (BadWord byte) = Err (Wrong byte)
group_by others groups at (Word word) = or_wrong word.place (group_of word.text) >>= λ g. others (groups ++ g ∷ []) (behind at (Word word))

-- these groups and so many words more, which are groups
abbrev pub groups_in : ℕ → List (List ℕ) → Cursor → Result (List (List ℕ)) LineFault
groups_in zero groups at = Ok groups
groups_in (suc n) groups at = group_by (groups_in n) groups at (next_word at.line at.place)

-- all words that are left, which are groups; each word takes a byte at least
unfoldable pub groups_at : Cursor → Result (List (List ℕ)) LineFault
groups_at at = short_at at >>= λ _. groups_in (length at.line + 1) [] at
