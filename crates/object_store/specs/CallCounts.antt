-- How many calls of each kind are still to fail, in a list by the calls' numbers; for private contracts (own).
use Rattle.std.specs.Prelude.{ℕ, List, slice_index_or}
use Rattle.annex_base.specs.declared.kinds.Call.{Call}
use Rattle.annex_base.specs.Calls.{call_number}

abbrev pub calls_left : List ℕ → Call → ℕ
calls_left left call = slice_index_or left (call_number call) 0

abbrev pub no_calls : Call → ℕ
no_calls call = 0
