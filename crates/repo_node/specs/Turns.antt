-- What a turn answers; for private contracts.
use Rattle.std.specs.Prelude.{Bool, true, false, Result, Ok, Err}
use Rattle.annex_base.specs.declared.memory.NoMemory.{NoMemory}
use Rattle.repo_node.specs.declared.turn.Turn.{Turn}
use Rattle.repo_node.specs.declared.turn.Turn.TheVariants as turns

-- where it was tried to make a step, and one was made, none was there, or memory ran out
abbrev pub turn_made : Result Bool NoMemory → Turn
turn_made (Ok true) = turns.Moved
turn_made (Ok false) = turns.Idle
turn_made (Err e) = turns.NoMemory

-- where there is no room for an entry, and a step was ready, none was, or memory ran out
abbrev pub turn_full : Result Bool NoMemory → Turn
turn_full (Ok true) = turns.Full
turn_full (Ok false) = turns.Idle
turn_full (Err e) = turns.NoMemory
