-- What a job of either kind sees is what its drop or its transfer sees.
use Rattle.std.proofs.Common.{◌≡◌, ℕ, true, List, length, Option, Some, None, refl, sym, ap, subst, ◌∙◌}
use Rattle.std.specs.Prelude.{is_some}
use Rattle.std.specs.Option.{option_map}
use Rattle.annex_base.proofs.Options.{some_none}
use Rattle.run_data.specs.declared.entry.FrameView.{FrameView}
use Rattle.object_store.specs.Stores.{Contents}
use Rattle.link_ring.specs.Ends.{EndView}
use Rattle.node_model.specs.Clocks.{ClockSet}
use Rattle.node_model.specs.Look.{Look}
use Rattle.node_model.specs.SetUp.{SetUp}
use Rattle.node_model.specs.State.{State}
use Rattle.content_lock.specs.Rows.{Rows}
use Rattle.node_drops.specs.States as drops
use Rattle.node_ends.specs.Ends.{room_at, wait_at}
use Rattle.end_hearing.specs.declared.hearing.Arrival.{Arrival}
use Rattle.end_hearing.specs.Hearing.{Tells}
use Rattle.node_drops.specs.declared.feed.Feed.{Feed}
use Rattle.node_drops.specs.Drops.{DropJob}
use Rattle.node_drops.specs.Feeds as drops_told
use Rattle.node_drops.specs.Places.{PlaceView}
use Rattle.node_drops.specs.Waiting.{WaitsFor}
use Rattle.node_drops.proofs.Hearing.{count_is}
use Rattle.transfer_turns.specs.Parcels.{end_in}
use Rattle.node_transfers.specs.declared.job.TransferJob.{TransferJob}
use Rattle.node_transfers.specs.States.{HaveState}
use Rattle.node_transfers.specs.Ready as transfers
use Rattle.node_tasks.specs.declared.readiness.Told.TheVariants as tolds
use Rattle.node_tasks.specs.declared.task.Task.TheVariants as tasks
use Rattle.node_tasks.specs.Tasks.{SeesWays}
use Rattle.node_tasks.specs.Telling.{Answers}

pub drop_state : (rows : Rows) (c : Contents) (s : SetUp) (st : State) → HaveState rows c s st → drops.HaveState rows c st
drop_state rows c s st h = record { present = h.present; bar = h.bar; holds = h.holds }

pub ways : (p : PlaceView) (links : List EndView) (w : TransferJob) (s : SetUp) (st : State) (k : Look) → SeesWays p links w s st k → transfers.SeesWays p.number (length p.ids) links s st k
ways p links w s st k z = record { number = z.place.number; among = count_is p s z.place; ends = z.ends; sees = z.sees }

-- ---- whether it has a step

pub drop_answers : (p : PlaceView) (clock : ClockSet) (links : List EndView) (time : ℕ) (j : DropJob) (o : Option Feed) → drops_told.Answers p clock links j time o → Answers p clock links time (tasks.Drops j) (option_map tolds.Feed o)
drop_answers p clock links time j None idle = λ rows c s st k sees keeps. idle rows c s st k sees (drop_state rows c s st keeps)
drop_answers p clock links time j (Some feed) ready = λ rows c s st k sees keeps. ready rows c s st k sees (drop_state rows c s st keeps)

pub transfer_answers : (p : PlaceView) (clock : ClockSet) (links : List EndView) (time : ℕ) (w : TransferJob) (o : Option Arrival) → transfers.Answers p.number (length p.ids) links w.worker o → Answers p clock links time (tasks.Transfers w) (option_map tolds.Arrival o)
transfer_answers p clock links time w None answers = λ rows c s st k sees keeps. answers.has s st k (ways p links w s st k sees)
transfer_answers p clock links time w (Some x) answers = λ rows c s st k sees keeps. answers.has s st k (ways p links w s st k sees)

-- a frame that it is told waits there, and the end has room
pub transfer_waits : (links : List EndView) (slot : ℕ) (o : Option ℕ) (x : Arrival) → transfers.IsTold links slot o (Some x) → WaitsFor links slot x.takes
transfer_waits links slot None x told = λ peer takes. absurd (some_none peer (sym takes ∙ told.1))
transfer_waits links slot (Some p) x told = go x.takes refl told
  where
    go : (o : Option ℕ) → x.takes ≡ o → Tells links (end_in slot p) x o → WaitsFor links slot x.takes
    go None none closed = λ peer takes. absurd (some_none peer (sym takes ∙ none))
    go (Some q) some frame = λ peer takes.
        let same : peer ≡ p = (let both : Some peer ≡ Some q = sym takes ∙ some in let it : peer ≡ q = cc in it ∙ frame.0) in
        subst (λ (n : ℕ). (room_at links (end_in slot n) ≡ true) × (is_some (wait_at links (end_in slot n)) ≡ true)) (sym same) (frame.1.room, ap (λ (w : Option FrameView). is_some w) frame.1.waits)
