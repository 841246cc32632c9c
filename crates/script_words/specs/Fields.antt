-- What single words of a script say (own, where no other source is named).
use Rattle.std.specs.Prelude.{ℕ, ◌-◌, Bool, false, not, ◌==◌, ◌&&◌, ◌||◌, nat_le, List, [], ◌∷◌, length, codes, Option, Some, None, bytes_eq, slice_get, is_none, if◌then◌else◌}
use Rattle.std.specs.Char.{is_ascii_digit, is_ascii_lowercase}
use Rattle.std.specs.List.{list_all, find}
use Rattle.std.specs.Str.{is_utf8}
use Rattle.annex_base.specs.Lines.{slash}
use Rattle.annex_base.specs.OptionSteps.{◌>>=◌}
use Rattle.annex_base.specs.declared.kinds.Call.{Call}
use Rattle.annex_base.specs.declared.kinds.Call.TheVariants as calls
use Rattle.annex_base.specs.declared.kinds.Level.{Level}
use Rattle.annex_base.specs.declared.kinds.Level.TheVariants as levels
use Rattle.annex_key.specs.View.{first_fault}
use Rattle.script_words.specs.Marks.{behind_mark}
use Rattle.script_words.specs.Numbers.{number_up_to}
use Rattle.script_words.specs.declared.key_word.KeyWord.{KeyWord}
use Rattle.script_words.specs.declared.key_word.KeyWord.TheVariants.{OfKey, OfPath}

-- ---- names

abbrev pub is_name_byte : ℕ → Bool
is_name_byte b = is_ascii_lowercase b || is_ascii_digit b || b == 95

-- a lower-case letter, and then at most 15 lower-case letters, digits or `_`
abbrev pub is_name : List ℕ → Bool
is_name [] = false
is_name (b ∷ bs) = is_ascii_lowercase b && list_all is_name_byte bs && nat_le (length bs) 15

-- ---- levels of trust (git-annex trust) and calls of a store

abbrev pub level_word : Level → List ℕ
level_word levels.Trusted = codes "trusted"
level_word levels.Semitrusted = codes "semitrusted"
level_word levels.Untrusted = codes "untrusted"
level_word levels.Dead = codes "dead"

abbrev pub all_levels : List Level
all_levels = levels.Trusted ∷ levels.Semitrusted ∷ levels.Untrusted ∷ levels.Dead ∷ []

-- the level that the word names
abbrev pub level_of : List ℕ → Option Level
level_of word = find (λ level. bytes_eq (level_word level) word) all_levels

abbrev pub call_word : Call → List ℕ
call_word calls.Has = codes "has"
call_word calls.Size = codes "size"
call_word calls.Read = codes "read"
call_word calls.PartSize = codes "partsize"
call_word calls.ReadPart = codes "readpart"
call_word calls.Append = codes "append"
call_word calls.Commit = codes "commit"
call_word calls.DropPart = codes "droppart"
call_word calls.Remove = codes "remove"
call_word calls.Hold = codes "hold"
call_word calls.Unhold = codes "unhold"
call_word calls.Holds = codes "holds"
call_word calls.PutFile = codes "putfile"
call_word calls.File = codes "file"

abbrev pub all_calls : List Call
all_calls = calls.Has ∷ calls.Size ∷ calls.Read ∷ calls.PartSize ∷ calls.ReadPart ∷ calls.Append ∷ calls.Commit ∷ calls.DropPart ∷ calls.Remove ∷ calls.Hold ∷ calls.Unhold ∷ calls.Holds ∷ calls.PutFile ∷ calls.File ∷ []

-- the call that the word names
abbrev pub call_of : List ℕ → Option Call
call_of word = find (λ call. bytes_eq (call_word call) word) all_calls

-- ---- paths and keys

-- whether the first byte, or the last one, is this one
abbrev pub is_this : ℕ → Option ℕ → Bool
is_this b None = false
is_this b (Some x) = x == b

abbrev pub begins : ℕ → List ℕ → Bool
begins b xs = is_this b (slice_get xs 0)

abbrev pub ends : ℕ → List ℕ → Bool
ends b xs = is_this b (slice_get xs (length xs - 1))

-- 1 to 1,024 bytes of UTF-8, with no `/` at either end
abbrev pub is_path : List ℕ → Bool
is_path path = nat_le 1 (length path) && nat_le (length path) 1024 && not (begins slash path) && not (ends slash path) && is_utf8 path

abbrev pub path_word : List ℕ → Option KeyWord
path_word path = if is_path path then Some (OfPath path) else None

-- a key's text (git-annex internals: keys)
abbrev pub is_key : List ℕ → Bool
is_key text = is_none (first_fault text)

abbrev pub whole_key : List ℕ → Option KeyWord
whole_key text = if is_key text then Some (OfKey text) else None

-- a key, or `@` and a path that stands for its key
unfoldable pub key_word : List ℕ → Option KeyWord
key_word [] = None
key_word (b ∷ bytes) = if b == 64 then path_word bytes else whole_key (b ∷ bytes)

-- ---- options of a line

-- the greatest offset of a repository's clock, and the greatest clock that a crash sets, in milliseconds
abbrev pub greatest_offset : ℕ
greatest_offset = 100000000000

-- `offset=MS`
abbrev pub offset_of : List ℕ → Option ℕ
offset_of word = behind_mark (codes "offset=") word >>= number_up_to greatest_offset

-- `clock=MS`
abbrev pub clock_of : List ℕ → Option ℕ
clock_of word = behind_mark (codes "clock=") word >>= number_up_to greatest_offset

abbrev pub not_zero : ℕ → Option ℕ
not_zero n = if nat_le 1 n then Some n else None

-- `version=V`, V from 1 to 3
abbrev pub version_of : List ℕ → Option ℕ
version_of word = behind_mark (codes "version=") word >>= λ v. number_up_to 3 v >>= not_zero

-- `nolock`
abbrev pub is_nolock : List ℕ → Bool
is_nolock word = bytes_eq (codes "nolock") word
