-- What a crash leaves of a past and of the parts beside it; for private contracts.
use Rattle.std.specs.Prelude.{◌≡◌, ℕ, ◌+◌, List, [], vec_len, Option, None}
use Rattle.run_data.specs.declared.entry.Entry.{Entry}
use Rattle.run_data.specs.declared.entry.EntryKind.TheVariants.{Crash}
use Rattle.object_store.specs.Stores.{Contents, Parts as StoredParts}
use Rattle.object_store.specs.declared.keeper.HoldRecord.{HoldRecord}
use Rattle.content_lock.specs.Stored.{Agrees}
use Rattle.node_model.specs.After.{state_after}
use Rattle.node_model.specs.AnyTime.{closes_all}
use Rattle.node_model.specs.SetUp.{SetUp}
use Rattle.node_model.specs.State.{State}
use Rattle.node_ends.specs.Joined.{StayPaired}
use Rattle.node_parts.specs.declared.done.Done.{Done}
use Rattle.node_parts.specs.Parts.{AreAllFed, AreParts, PartsView}
use Rattle.node_parts.specs.Posting.{PostsPieces}
use Rattle.node_parts.specs.Sound.{AreSound}
use Rattle.node_parts.specs.Steps.{Leaves}
use Rattle.node_past.specs.declared.past.Past.{Past}
use Rattle.node_past.specs.Pasts.{Crashes}
use Rattle.node_steps.specs.Crashing.{all_ended}

-- the past has the entry of a crash to this clock, and the jobs that ran have ended
pub record Falls (clock : ℕ) (p p' : PartsView) (was now : Past) : Type 0 where
  pub done : Done
  pub kind : done.kind ≡ Crash clock
  pub taken : done.taken ≡ None
  pub crashes : Crashes clock done.sent (all_ended p.jobs.running (vec_len was.history)) was now
  pub sent : (s : SetUp) (st : State) → AreParts s st p → done.sent ≡ closes_all s st
  pub parts : (s : SetUp) (st : State) (e : Entry) → AreParts s st p → e.kind ≡ done.kind → e.taken ≡ done.taken → e.sent ≡ done.sent → AreParts s (state_after s st e) p'
  pub leaves : Leaves (vec_len was.history + 1) p p' done
  pub posts : (known : Option Contents) → PostsPieces (record { time = was.time; count = was.count + 1; repo = p.jobs.place.number }) done.kind p known p'.links done.taken done.sent
  pub fed : (q : StoredParts) → AreAllFed q p → AreAllFed q p'
  pub agrees : (known : Option (List HoldRecord)) → Agrees known p.table.holds → Agrees known p'.table.holds
  pub jobs : p'.jobs ≡ record p.jobs { running = [] }
  pub sound : AreSound p'
  pub paired : StayPaired p.links p'.links
