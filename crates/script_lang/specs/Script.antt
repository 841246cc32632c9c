-- What a text says as a script, line by line (own).
use Rattle.std.specs.Prelude.{◌≡◌, ℕ, zero, suc, ◌+◌, ◌-◌, Bool, true, false, ◌==◌, List, [], ◌∷◌, ◌++◌, length, take, Option, Some, None, Result, Ok, Err, if◌then◌else◌}
use Rattle.std.specs.List.{slice_split, suffix_len}
use Rattle.std.specs.Str.{is_utf8}
use Rattle.std.specs.Str.Lossy.{utf8_valid_len}
use Rattle.annex_base.specs.Lines.{is_newline, is_not_space}
use Rattle.annex_base.specs.ResultSteps.{◌>>=◌}
use Rattle.script_words.specs.Places.{Cursor}
use Rattle.script_words.specs.Words.{first_place}
use Rattle.script_commands.specs.declared.command.Agendum.{Agendum}
use Rattle.script_commands.specs.declared.command.Command.{Command}
use Rattle.script_commands.specs.declared.command.Command.TheVariants as commands
use Rattle.script_lang.specs.declared.state.Block.{Block}
use Rattle.script_forms.specs.declared.verb.Verb.{Verb}
use Rattle.script_forms.specs.declared.verb.Verb.TheVariants as verbs
use Rattle.script_forms.specs.declared.verb.LineVerb.{LineVerb}
use Rattle.script_forms.specs.declared.verb.LineVerb.TheVariants.{Par, End, Says}
use Rattle.script_forms.specs.declared.fault.LineFault.{LineFault}
use Rattle.script_forms.specs.declared.fault.LineFault.TheVariants.{Wrong, Past, NoMemory}
use Rattle.script_forms.specs.declared.fault.ScriptFault.{ScriptFault}
use Rattle.script_forms.specs.declared.fault.ScriptFault.TheVariants as faults
use Rattle.script_forms.specs.declared.fault.Quantity.{Quantity}
use Rattle.script_forms.specs.Changes.{change_of, context_by, repos_by, wait_by}
use Rattle.script_forms.specs.Context.{Context}
use Rattle.script_forms.specs.declared.context.Repository.{Repository}
use Rattle.script_forms.specs.Steps.{Step, saying_at, end_at}
use Rattle.script_forms.specs.Forms.{row, block_row, line_named}
use Rattle.script_forms.specs.Limits.{first_limit}

-- ---- what a command changes for the lines behind it

-- the repositories that the command declares
abbrev pub declared_by : Command → List Repository
declared_by command = repos_by (change_of command)

-- the milliseconds that the command waits
abbrev pub wait_of : Command → ℕ
wait_of command = wait_by (change_of command)

-- the context of the lines behind the command
abbrev pub context_with : Context → Command → Context
context_with context command = context_by context (change_of command)

-- ---- lines

-- what the lines so far say
pub record State : Type 0 where
  pub context : Context
  pub commands : List Command
  pub block : Option Block

abbrev pub command_unless : Context → List Command → Command → Option Quantity → Result State LineFault
command_unless context before command (Some quantity) = Err (Past quantity)
command_unless context before command None = Ok (record { context = context_with context command; commands = before ++ command ∷ []; block = None })

-- one command more, if it passes no limit
unfoldable pub with_command : Context → List Command → Command → Result State LineFault
with_command context before command = command_unless context before command (first_limit context command)

abbrev pub within_block : Context → List Command → ℕ → List Agendum → State
within_block context before number lines = record { context = context; commands = before; block = Some (record { number = number; lines = lines }) }

-- a line that stands in no block, after these commands, from behind its first word on
unfoldable pub line_outside : Context → List Command → ℕ → LineVerb → Cursor → Result State LineFault
line_outside context before number Par at = end_at at >>= λ _. Ok (within_block context before number [])
line_outside context before number End at = Err (Wrong (first_place at.line))
line_outside context before number (Says v) at = (row v).1 context at >>= with_command context before

-- a line of a block; no other form may stand there
unfoldable pub line_inside : Context → List Command → Block → LineVerb → Cursor → Result State LineFault
line_inside context before block End at = end_at at >>= λ _. with_command context before (commands.Par block.lines)
line_inside context before block (Says (verbs.InBlock v)) at = (block_row v).1 context at >>= λ l. Ok (within_block context before block.number (block.lines ++ l ∷ []))
line_inside context before block v at = Err (Wrong (first_place at.line))

abbrev pub line_by : Context → List Command → Option Block → ℕ → LineVerb → Cursor → Result State LineFault
line_by context before None number v at = line_outside context before number v at
line_by context before (Some block) number v at = line_inside context before block v at

abbrev pub line_verb_at : Step LineVerb
line_verb_at at = saying_at line_named at

-- a line of words
unfoldable pub words_line : State → ℕ → List ℕ → Result State LineFault
words_line state number line = line_verb_at (record { line = line; place = 0 }) >>= λ v. line_by state.context state.commands state.block number v.0 v.1

-- an empty line, or a comment
abbrev pub is_skipped : List ℕ → Bool
is_skipped [] = true
is_skipped (b ∷ rest) = b == 35

-- the place of the last word of the bytes, where a word ends at a space
abbrev pub last_word : List ℕ → ℕ
last_word bytes = length bytes - suffix_len is_not_space bytes

-- a comment is UTF-8; one that isn't is wrong at the first byte of the word that has the first other byte
unfoldable pub comment_at : List ℕ → Result Unit LineFault
comment_at line = if is_utf8 line then Ok tt else Err (Wrong (last_word (take (utf8_valid_len line) line)))

-- a line after lines that say this
unfoldable pub line_step : State → ℕ → List ℕ → Result State LineFault
line_step state number line = if is_skipped line
    then (comment_at line >>= λ _. Ok state)
    else words_line state number line

-- ---- the whole text

-- what a text says: commands; or the first line that is wrong, from 1, and its byte, from 0; or the first limit that it passes
pub data Reading : Type 0 where
  Commands : List Command → Reading
  BadLine : ℕ → ℕ → Reading
  PastLimit : Quantity → Reading

abbrev pub ended_by : List Command → Option Block → Reading
ended_by commands None = Commands commands
ended_by commands (Some block) = BadLine block.number 0

-- a line's fault, as the text's
abbrev pub fault_of : ℕ → LineFault → Reading
fault_of number (Wrong byte) = BadLine number byte
fault_of number (Past quantity) = PastLimit quantity
fault_of number NoMemory = BadLine number 0

abbrev pub goes_on : ℕ → Result State LineFault → (State → Reading) → Reading
goes_on number (Ok state) others = others state
goes_on number (Err fault) others = fault_of number fault

-- what lines say after others, the first of them being the line of this number
abbrev pub lines_reading : State → ℕ → List (List ℕ) → Reading
lines_reading state number [] = ended_by state.commands state.block
lines_reading state number (line ∷ lines) = goes_on number (line_step state number line) (λ next. lines_reading next (number + 1) lines)

-- no lines
abbrev pub no_context : Context
no_context = record { repos = []; closed = false; tree = []; files = 0; placed = []; contents = 0; waited = 0 }

abbrev pub no_lines : State
no_lines = record { context = no_context; commands = []; block = None }

-- the lines of a text, which end at newlines
abbrev pub lines_of : List ℕ → List (List ℕ)
lines_of text = slice_split is_newline text

-- what a text says as a script
unfoldable pub reading : List ℕ → Reading
reading text = lines_reading no_lines 1 (lines_of text)

-- a fault tells the reading
abbrev pub IsFault : ScriptFault → Reading → Type 0
IsFault (faults.BadLine line byte) says = says ≡ BadLine line byte
IsFault (faults.TooMuch quantity) says = says ≡ PastLimit quantity
IsFault faults.NoMemory says = Unit {0}

-- the answer, seen by view, tells the reading, unless memory ran out
abbrev pub IsReading : {X : Type 0} → (X → List Command) → Result X ScriptFault → Reading → Type 0
IsReading view (Ok x) says = says ≡ Commands (view x)
IsReading view (Err fault) says = IsFault fault says
