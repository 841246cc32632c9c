-- The ends of one side of a repository's connections as data, by connection (own).
use Rattle.std.specs.Prelude.{ℕ, Bool, ◌&&◌, ◌==◌, if◌then◌else◌, List, unwrap_or}
use Rattle.std.specs.Map.{lookup}
use Rattle.node_model.specs.Ends.{End, EndName, never}
use Rattle.state_ends.specs.declared.side.Connection.{Connection}

abbrev pub same_connection : Connection → Connection → Bool
same_connection a b = (a.peer == b.peer) && (a.slot == b.slot)

-- how the end of the connection with a peer in a slot stands
abbrev pub end_in : List (Connection × End) → ℕ → ℕ → End
end_in entries peer slot = unwrap_or (lookup (same_connection (record { peer = peer; slot = slot })) entries) never

-- how the end of this name stands, among those of both sides
abbrev pub end_on : List (Connection × End) → List (Connection × End) → EndName → End
end_on clients servers a = if a.client then end_in clients a.peer a.slot else end_in servers a.peer a.slot
