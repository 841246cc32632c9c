-- What holds at each turn of the loops of `sending::send_all`.
use Rattle.std.proofs.Common.{◌≡◌, ◌-◌, ◌≤◌, ◌<◌, ◌+◌, ◌^◌, ℕ, length, take}
use Rattle.indexmap.specs.IndexMap.{spare}
use Rattle.node_model.specs.Ends.{sends_at, server_end}
use Rattle.state_sessions.specs.Doings.{number_in}
use Rattle.state_sessions.specs.Tables.{is_at, session_in}
use Rattle.state_sessions.proofs.SessionLemmas.{sent_so}
use Rattle.state_sessions.proofs.sending.send_all.Given as goal

abbrev pub invariant-loop-place : goal.invariant-loop-place
invariant-loop-place l = record {
  room : length l.frames - l.place ≤ spare l.table;
  session : (peer slot : ℕ) → session_in l.table.entries peer slot ≡ sent_so (is_at l.took peer slot) (sends_at (server_end peer slot)) (take l.place l.frames) (session_in l.initial.table.entries peer slot);
  small : (limit peer slot : ℕ) → number_in (session_in l.initial.table.entries peer slot).doing < limit → number_in (session_in l.table.entries peer slot).doing < limit + 2 ^ 64;
}
