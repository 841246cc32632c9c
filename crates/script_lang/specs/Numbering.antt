-- On which lines of a text its commands stand (own).
use Rattle.std.specs.Prelude.{ℕ, ◌+◌, nat_lt, List, [], ◌∷◌, ◌++◌, length, Option, Some, None, Result, Ok, Err, if◌then◌else◌}
use Rattle.script_lang.specs.declared.state.Block.{Block}
use Rattle.script_forms.specs.declared.fault.LineFault.{LineFault}
use Rattle.script_lang.specs.Script.{State, line_step, no_lines, lines_of}

-- the number of the line that began what the line of this number ends: that of the block's `par`, or its own
abbrev pub begun_by : Option Block → ℕ → ℕ
begun_by None number = number
begun_by (Some block) number = block.number

-- the number of the line of the command that a line adds, if it adds one
abbrev pub numbers_by : State → ℕ → State → List ℕ
numbers_by old number new = if nat_lt (length old.commands) (length new.commands) then begun_by old.block number ∷ [] else []

abbrev pub numbers_then : State → ℕ → Result State LineFault → (State → List ℕ) → List ℕ
numbers_then old number (Ok new) others = numbers_by old number new ++ others new
numbers_then old number (Err fault) others = []

-- the numbers of the lines of the commands that lines add after others, the first of them being the line of this number;
-- up to the first fault
abbrev pub numbers_from : State → ℕ → List (List ℕ) → List ℕ
numbers_from state number [] = []
numbers_from state number (line ∷ lines) = numbers_then state number (line_step state number line) (λ new. numbers_from new (number + 1) lines)

-- the numbers of the lines, from 1, on which the commands of a text stand; for a block that of its `par`
unfoldable pub line_numbers : List ℕ → List ℕ
line_numbers text = numbers_from no_lines 1 (lines_of text)
