-- The calls of a store, told apart (own).
use Rattle.std.specs.Prelude.{ℕ, Bool, ◌==◌}
use Rattle.annex_base.specs.declared.kinds.Call.{Call}
use Rattle.annex_base.specs.declared.kinds.Call.TheVariants as calls

-- the place of a call among the fourteen
abbrev pub call_number : Call → ℕ
call_number calls.Has = 0
call_number calls.Size = 1
call_number calls.Read = 2
call_number calls.PartSize = 3
call_number calls.ReadPart = 4
call_number calls.Append = 5
call_number calls.Commit = 6
call_number calls.DropPart = 7
call_number calls.Remove = 8
call_number calls.Hold = 9
call_number calls.Unhold = 10
call_number calls.Holds = 11
call_number calls.PutFile = 12
call_number calls.File = 13

abbrev pub same_call : Call → Call → Bool
same_call c d = call_number c == call_number d
