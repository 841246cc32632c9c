-- The step of a drop is one of its job.
use Rattle.std.proofs.Common.{◌≡◌, ℕ, ◌≤◌, ◌<◌, Bool, true, false, List, Option, Some, None, refl, sym, ap, subst, ◌∙◌}
use Rattle.std.specs.Prelude.{All, IfSome, ◌==◌}
use Rattle.std.specs.Option.{option_map}
use Rattle.annex_base.specs.Causes.{Rose}
use Rattle.annex_base.specs.Settings.{Settings}
use Rattle.annex_base.proofs.Options.{some_none}
use Rattle.drop_proof.specs.declared.rule.Side.{Side}
use Rattle.drop_proof.specs.declared.rule.Side.TheVariants.{Local, Remote}
use Rattle.run_data.specs.declared.entry.EntryKind.{EntryKind}
use Rattle.run_data.specs.declared.entry.EntryKind.TheVariants as kinds
use Rattle.run_data.specs.declared.job.Job.{Job}
use Rattle.run_data.specs.declared.row.Hold.{Hold}
use Rattle.object_store.specs.Stores.{AreSmallParts, Contents, Parts}
use Rattle.object_store.specs.declared.keeper.HoldRecord.{HoldRecord}
use Rattle.link_ring.specs.Ends.{EndView}
use Rattle.node_model.specs.Clocks.{ClockSet}
use Rattle.node_model.specs.Jobs.{drop_side}
use Rattle.node_model.specs.Knows.{Reading}
use Rattle.node_model.specs.Look.{Look, failed_in}
use Rattle.node_model.specs.SetUp.{SetUp}
use Rattle.node_model.specs.State.{State}
use Rattle.content_lock.specs.CallsMade.{fewer}
use Rattle.content_lock.specs.Rows.{Rows, is_filling}
use Rattle.content_lock.specs.Stored.{Agrees}
use Rattle.session_state.specs.Answers.{contents_after}
use Rattle.drop_phases.specs.declared.turn.Input.{Input}
use Rattle.drop_phases.specs.declared.turn.Output.{Output}
use Rattle.drop_phases.specs.Apart.{GoesApartSo, IsApart, is_locked_in}
use Rattle.drop_phases.specs.Begun as drops
use Rattle.drop_phases.specs.Begun.{HasBegun, HasGone, IsLast}
use Rattle.drop_phases.specs.Doing as doing
use Rattle.drop_phases.specs.Doing.{HasToken, OthersStay}
use Rattle.drop_phases.specs.Sides.{CanShare, FitsSide, HasTarget, HearsOwn, IsNumbered, side_in}
use Rattle.drop_phases.specs.Worker.{Worker}
use Rattle.drop_phases.specs.declared.phase.Phase.TheVariants as phases
use Rattle.node_drops.specs.declared.feed.Feed.{Feed}
use Rattle.node_drops.specs.Calling.{Failing, JobMakes}
use Rattle.node_drops.specs.Doings as drop_steps
use Rattle.node_drops.specs.Doings.{SeesAct, Steps}
use Rattle.node_drops.specs.Drops.{DropJob, HasReadByPhase, IsDrop, place_reading}
use Rattle.node_drops.specs.Places.{PlaceView}
use Rattle.node_drops.proofs.Knowing.{can_stand}
use Rattle.transfer_turns.specs.Steps.{Seen}
use Rattle.node_tasks.specs.declared.acted.Output.{Output as Made}
use Rattle.node_tasks.specs.declared.acted.Sent.TheVariants as sents
use Rattle.node_tasks.specs.declared.acted.Sent.TheVariants.{ByDrop}
use Rattle.node_tasks.specs.declared.readiness.Told.TheVariants as tolds
use Rattle.node_tasks.specs.declared.task.Task.TheVariants as tasks
use Rattle.node_tasks.specs.Acting.{Acts, IsJudged, IsOnward, KeepsLock, LeavesSo, Makes, SeesActs}
use Rattle.node_tasks.specs.Telling.{frame_in}
use Rattle.node_tasks.proofs.Seeing.{drop_state}

-- a drop may share where the store has the records of the table's holds
pub can_share : (side : Side) (records : Option (List HoldRecord)) (holds : List Hold) (number : ℕ) → Agrees records holds → All (λ (h : Hold). h.number < number) holds → CanShare side records holds number
can_share Local records holds number agrees fresh = tt
can_share Remote records holds number agrees fresh = (agrees, fresh)

-- what is told in a step, and what is made of it
abbrev pub input_of : Feed → ℕ → ℕ → Input
input_of feed time number = record { taken = feed.taken; time = time; number = number; word = feed.word }

abbrev pub made_of : Output → Made
made_of out = record { kind = out.kind; sent = ByDrop out.sends; ended = out.ended }

module _ (p : PlaceView) (clock : ClockSet) (links : List EndView) (settings : Settings) (time number : ℕ) (contents : Option Contents) (known : Option Parts) (rows : Rows) (j : DropJob) (feed : Feed) where
  seen_by : (c : Contents) (out : Output) (s : SetUp) (st : State) (k : Look) → SeesActs p clock links settings time number known rows c (tasks.Drops j) (tolds.Feed feed) (failed_in out.kind) s st k
      → SeesAct p clock links settings (input_of feed time number) rows c j out s st k (frame_in links (tasks.Drops j) (tolds.Feed feed))
  seen_by c out s st k sees = record {
    job = sees.sees;
    keeps = drop_state rows c s st sees.keeps;
    logs = sees.logs;
    nameless = sees.nameless;
    number = sees.counts;
    fails = sees.failing;
    words = sees.words;
    finds = sees.comes.0;
    fed = sees.comes.1;
  }

  pub drop_acts : (j' : DropJob) (out : Output) → drop_steps.Acts p clock links settings (input_of feed time number) contents rows j j' out
      → Acts p clock links settings time number contents known rows (tasks.Drops j) (tasks.Drops j') (tolds.Feed feed) (made_of out)
  drop_acts j' out acts = λ c is s st k sees.
      let so = acts c is s st k (frame_in links (tasks.Drops j) (tolds.Feed feed)) (seen_by c out s st k sees) in
      record { made = so.0.made; next = so.0.next; read = λ going st' logs read. so.1 going st' (record { logs = logs; read = read }) }

  pub drop_makes : (before after : Failing) (out : Output) → JobMakes p clock links settings (input_of feed time number) contents rows before after j out
      → Makes p clock links settings time number contents known rows before after (tasks.Drops j) (tolds.Feed feed) (made_of out)
  drop_makes before after out makes = λ c is s st k sees. makes c is s st k (frame_in links (tasks.Drops j) (tolds.Feed feed)) (seen_by c out s st k sees)

-- ---- what it leaves

-- its entries bring no content
widened : (n : ℕ) (kind : EntryKind) → drops.IsOnward n kind → IsOnward n kind
widened n (kinds.Gain source size key) h = absurd h
widened n kind h = h

contents_onward : (n : ℕ) (kind : EntryKind) (known : Option Contents) (parts : Option Parts) → drops.IsOnward n kind → doing.contents_after known kind ≡ contents_after known parts kind
contents_onward n (kinds.Gain source size key) known parts h = absurd h
contents_onward n kind known parts h = refl

contents_last : (n : ℕ) (kind : EntryKind) (known : Option Contents) (parts : Option Parts) → IsLast n kind → doing.contents_after known kind ≡ contents_after known parts kind
contents_last n (kinds.End job outcome) known parts h = refl
contents_last n kind known parts h = absurd h

judged_onward : (n : ℕ) (kind : EntryKind) (j : DropJob) → drops.IsOnward n kind → IsJudged kind (tasks.Drops j)
judged_onward n (kinds.Gain source size key) j h = absurd h
judged_onward n kind j h = tt

judged_last : (n : ℕ) (kind : EntryKind) (j : DropJob) → IsLast n kind → IsJudged kind (tasks.Drops j)
judged_last n (kinds.End job outcome) j h = tt
judged_last n kind j h = absurd h

-- ---- it stands apart

still_apart : (side : Side) (peer : Option ℕ) (own : ℕ) (w w' : Worker) (out : Output) → GoesApartSo side peer own w w' out → out.ended ≡ false → IsApart side peer w'
still_apart Local peer own w w' out goes going = tt
still_apart Remote None own w w' out goes going = tt
still_apart Remote (Some target) own w w' out goes going = goes.stands going

local_remote : Local ≡ Remote → ⊥
local_remote is = cc

-- a remote drop has its target
target_there : (side : Side) (peer : Option ℕ) (r : Reading) → HasTarget side peer r → side ≡ Remote → (target : ℕ) × (peer ≡ Some target)
target_there Local peer r has remote = absurd (local_remote remote)
target_there Remote None r has remote = absurd has
target_there Remote (Some target) r has remote = (target, refl)

order_word : (side : Side) (peer : Option ℕ) (own : ℕ) (r : Reading) (w w' : Worker) (out : Output) → GoesApartSo side peer own w w' out → HasTarget side peer r → side ≡ Remote → (w.phase ≡ phases.Orders → ⊥) → w'.word ≡ w.word
order_word Local peer own r w w' out goes has remote = absurd (local_remote remote)
order_word Remote None own r w w' out goes has remote = absurd has
order_word Remote (Some target) own r w w' out goes has remote = goes.word

keeps_locks : (side : Side) (peer : Option ℕ) (own : ℕ) (w w' : Worker) (out : Output) → GoesApartSo side peer own w w' out → (target : ℕ) × (peer ≡ Some target) → side ≡ Remote → out.ended ≡ false
    → (other : ℕ) → (own == other) ≡ false → is_locked_in w' other ≡ true → KeepsLock w (sents.ByDrop out.sends) other
keeps_locks Local peer own w w' out goes has remote going other apart locked = absurd (local_remote remote)
keeps_locks Remote None own w w' out goes has remote going other apart locked = absurd (some_none has.0 (sym has.1))
keeps_locks Remote (Some target) own w w' out goes has remote going other apart locked = let lock = goes.locks going other apart locked in record { sends = lock.0; from = lock.1 }

module _ (p : PlaceView) (rows rows' : Rows) (k k' : Seen) (time number : ℕ) (j j' : DropJob) (feed : Feed) (out : Output) (drop : IsDrop p j)
    (steps : Steps p k.contents k'.contents (input_of feed time number) rows rows' j.worker j'.worker out) where
  gone : HasGone (place_reading p) j.worker j'.worker out
  gone = steps.gone (can_stand p j.worker.phase j.known drop.stands)

  stored : (b : Bool) → out.ended ≡ b → k'.contents ≡ contents_after k.contents k.parts out.kind
  stored false going = steps.stored ∙ contents_onward j.worker.number out.kind k.contents k.parts (gone.onward going)
  stored true ended = steps.stored ∙ contents_last j.worker.number out.kind k.contents k.parts (gone.last ended)

  judged : (b : Bool) → out.ended ≡ b → IsJudged out.kind (tasks.Drops j)
  judged false going = judged_onward j.worker.number out.kind j (gone.onward going)
  judged true ended = judged_last j.worker.number out.kind j (gone.last ended)

  pub drop_leaves : (out.ended ≡ false → HasReadByPhase p j'.worker.phase j'.known) → j'.paths ≡ j.paths → HasToken j'.worker.number j'.worker.job.key j'.worker.token rows' → OthersStay j.worker.number rows rows'
      → IsNumbered number out.kind → (Agrees k.records rows.holds → Agrees k'.records rows'.holds) → k.faults ≤ k'.faults → IfSome (failed_in out.kind) (λ call. Rose k.faults k'.faults) → k'.parts ≡ k.parts → k'.files ≡ k.files → k'.failing ≡ option_map (fewer (failed_in out.kind)) k.failing
      → LeavesSo p number rows rows' k k' (tasks.Drops j) (tasks.Drops j') (tolds.Feed feed) (made_of out)
  drop_leaves stands paths owns others numbered agrees later cause parts files left = record {
    number = steps.number;
    slot = gone.slot;
    what = steps.job;
    heard = (steps.word, steps.answer, order_word (side_in j.worker) j.worker.job.peer p.number (place_reading p) j.worker j'.worker out (steps.apart drop.apart) drop.target, steps.heard, paths);
    locks = λ remote going. keeps_locks (side_in j.worker) j.worker.job.peer p.number j.worker j'.worker out (steps.apart drop.apart) (target_there (side_in j.worker) j.worker.job.peer (place_reading p) drop.target remote) remote going;
    onward = λ going. widened j.worker.number out.kind (gone.onward going);
    last = gone.last;
    numbered = numbered;
    task = λ going. record {
      target = subst (λ (what : Job). HasTarget (drop_side what.kind what.peer) what.peer (place_reading p)) (sym steps.job) drop.target;
      slot = subst (λ (n : ℕ). n < 4) (sym gone.slot) drop.slot;
      fits = subst (λ (what : Job). FitsSide (drop_side what.kind what.peer) j'.worker.phase j'.worker.token) (sym steps.job) (steps.fits going);
      stands = stands going;
      own = λ later. subst (λ (what : Job). HearsOwn (drop_side what.kind what.peer) (place_reading p) j'.worker) (sym steps.job) (steps.own going);
      apart = subst (λ (what : Job). IsApart (drop_side what.kind what.peer) what.peer j'.worker) (sym steps.job) (still_apart (side_in j.worker) j.worker.job.peer p.number j.worker j'.worker out (steps.apart drop.apart) going);
      unheard = λ fresh. absurd (subst (HasBegun (place_reading p)) fresh (gone.goes_on going));
    };
    spent = gone.ended;
    owns = owns;
    others = others;
    after = steps.after.holds;
    bars = steps.after.bars;
    filled = record { after = λ key. ap (λ (fs : List (List ℕ)). is_filling (record rows { fills = fs }) key) steps.after.fills; free = λ key. refl };
    contents = stored out.ended refl;
    parts = parts;
    fed = λ q told was q' told'. tt;
    small = λ small. subst AreSmallParts (sym parts) small;
    judged = judged out.ended refl;
    pieces = tt;
    agrees = agrees;
    files = files;
    later = later;
    cause = cause;
    left = left;
  }
