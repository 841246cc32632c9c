-- A small journal that is read, and texts that are none, each with its bad line (by computation).
use Rattle.std.specs.Prelude.{◌≡◌, refl, ℕ, List, [], ◌∷◌, ◌++◌, codes}
use Rattle.uuid.specs.Text.{by_index}
use Rattle.std.specs.Fmt.{digits}
use Rattle.std.specs.Str.{is_utf8, chars}
use Rattle.std.specs.Str.Lossy.{utf8_valid_len}
use lib.Utf8.{encode as utf8_encode}
use Rattle.annex_base.specs.Decimal.{number_of}
use Rattle.annex_base.specs.RepoText.{repo_of}
use Rattle.annex_key.specs.Reading.{backend_at, number_at, field_at, must_at, chunk_at, checked_name, name_at, parts_at, key_at, around_chunk}
use Rattle.script_words.specs.Numbers.{number_up_to}
use Rattle.script_words.specs.Marks.{behind_mark}
use Rattle.journal_text.specs.Journal.{journal}
use Rattle.journal_reading.specs.Reading.{Reading, journal_in}
use Rattle.journal_reading.specs.Reading.Reading.{Journal, BadJournal}
use Rattle.journal_reading.specs.WellFormed.{text_of_lines}

unfoldable opened : Unit {0}
unfolding by_index digits is_utf8 chars utf8_valid_len utf8_encode number_of repo_of backend_at number_at field_at must_at chunk_at checked_name name_at parts_at key_at around_chunk number_up_to behind_mark journal_in
opened = tt

abbrev printed : Reading → List ℕ
printed (Journal run) = journal run
printed (BadJournal n) = n ∷ []

abbrev front : List (List ℕ)
front = codes "repo a 11111111-1111-4111-8111-111111111111 offset=0 version=3 locks" ∷ codes "0.1 a gain by=script size=3 key=WORM-s3--abc" ∷ codes "0.2 a log 1 location WORM-s3--abc" ∷ codes "| 1700000000s 1 11111111-1111-4111-8111-111111111111" ∷ codes "0.3 a begin 1 drop a WORM-s3--abc" ∷ codes "0.4 a bar 1 need=1,1 key=WORM-s3--abc" ∷ []

abbrev refused : List ℕ
refused = codes "0.5 a end 1 refused 5 lacking need=1,1 locked=- trusted=- recent=- causes=-"

refused_drop : printed (journal_in (text_of_lines (codes "journal 5" ∷ (front ++ refused ∷ [])))) ≡ text_of_lines (codes "journal 5" ∷ (front ++ refused ∷ []))
unfolding opened
refused_drop = refl

-- an entry is missing
last_missing : journal_in (text_of_lines (codes "journal 5" ∷ front)) ≡ BadJournal 8
unfolding opened
last_missing = refl

-- the last line has no newline
no_newline : journal_in (text_of_lines (codes "journal 5" ∷ front) ++ refused) ≡ BadJournal 8
unfolding opened
no_newline = refl

-- a line stands behind the last entry
line_behind : journal_in (text_of_lines (codes "journal 0" ∷ codes "0.1 - wait 5" ∷ [])) ≡ BadJournal 2
unfolding opened
line_behind = refl

empty_text : journal_in [] ≡ BadJournal 1
unfolding opened
empty_text = refl

abbrev repo_a : List ℕ
repo_a = codes "repo a 11111111-1111-4111-8111-111111111111 offset=0 version=3 locks"

leading_zero : journal_in (text_of_lines (codes "journal 1" ∷ repo_a ∷ codes "00.1 a crash clock=0" ∷ [])) ≡ BadJournal 3
unfolding opened
leading_zero = refl

-- an entry that says that it adds two lines adds one
line_missing : journal_in (text_of_lines (codes "journal 2" ∷ repo_a ∷ codes "0.1 a log 2 trust.log" ∷ codes "| x" ∷ codes "0.2 a crash clock=0" ∷ [])) ≡ BadJournal 5
unfolding opened
line_missing = refl

-- a line that was added stands twice
doubled_line : journal_in (text_of_lines (codes "journal 1" ∷ repo_a ∷ codes "0.1 a log 2 trust.log" ∷ codes "| x" ∷ codes "| x" ∷ [])) ≡ BadJournal 5
unfolding opened
doubled_line = refl

-- two repositories have one name
doubled_name : journal_in (text_of_lines (codes "journal 0" ∷ repo_a ∷ repo_a ∷ [])) ≡ BadJournal 3
unfolding opened
doubled_name = refl

-- keys and paths with spaces
abbrev spaces : List (List ℕ)
spaces = codes "journal 2" ∷ repo_a ∷ codes "path 0 10 my \"a file WORM-s3--b c" ∷ codes "path 1 4 my f WORM-s3--b c" ∷ codes "0.1 a begin 1 drop a \"WORM-s3--b c\"" ∷ codes "0.2 a begin 2 get a \"@my f\"" ∷ []

quoted_words : printed (journal_in (text_of_lines spaces)) ≡ text_of_lines spaces
unfolding opened
quoted_words = refl

needless_quotes : journal_in (text_of_lines (codes "journal 1" ∷ repo_a ∷ codes "0.1 a begin 1 drop a \"WORM-s3--b\"" ∷ [])) ≡ BadJournal 3
unfolding opened
needless_quotes = refl

-- a path that the tree has only behind a later entry
early_path : journal_in (text_of_lines (codes "journal 1" ∷ repo_a ∷ codes "path 1 1 p WORM-s3--b" ∷ codes "0.1 a begin 1 drop a @p" ∷ [])) ≡ BadJournal 4
unfolding opened
early_path = refl
