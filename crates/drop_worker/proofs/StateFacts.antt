-- What a job reads of a state that it is, and the step of its slot.
use Rattle.std.specs.Prelude.{if◌then◌else◌, IfOk, OnErr}
use Rattle.std.specs.Option.{ForSome, option_map}
use Rattle.std.proofs.Common.{◌≡◌, ℕ, Bool, true, Option, Some, None, Result, Ok, Err, refl, sym, ap, ◌∙◌}
use Rattle.annex_base.specs.declared.kinds.Call.{Call}
use Rattle.annex_base.specs.declared.memory.NoMemory.{NoMemory}
use Rattle.run_data.specs.declared.entry.FrameView.{FrameView}
use Rattle.node_model.specs.SetUp.{SetUp}
use Rattle.node_model.specs.Jobs as Jobs
use Rattle.node_model.specs.Jobs.{Work}
use Rattle.node_model.specs.Look.{Look, Effect, as_told, failed_in}
use Rattle.node_model.specs.State.{State}
use Rattle.node_model.specs.JobStep.{Turn, end_with, turn_of}
use Rattle.node_model.specs.Rows.{option_is}
use Rattle.node_model.specs.Slots.{job_of}
use Rattle.node_model.specs.Turns.{by_partner, is_awaiting, slot_step}
use Rattle.object_store.specs.Stores.{Contents}
use Rattle.content_lock.specs.Rows.{Rows}
use Rattle.drop_phases.specs.declared.phase.Phase.{Phase}
use Rattle.drop_phases.specs.declared.phase.Phase.TheVariants as phases
use Rattle.drop_phases.specs.declared.turn.Taken.{Taken}
use Rattle.drop_phases.specs.declared.turn.Output.{Output}
use Rattle.drop_phases.specs.Worker.{Worker}
use Rattle.drop_phases.specs.Working.{Rest, Sight, end_in, made_of, phase_as, present_in, turn_in, work_of}
use Rattle.drop_phases.specs.Calling.{AreLeft, Failing, MakesSo}
use Rattle.content_lock.specs.CallsMade.{MakesCalls}
use Rattle.drop_phases.specs.Leaving.{stands_on}
use Rattle.drop_phases.specs.Doing.{DoesAsAsked, next_work}
use Rattle.drop_phases.specs.Feeding.{FeedsFrameAt, FindsAt, step_of}
use Rattle.drop_worker.specs.States.{IsSight, HaveState, Sees, StepsSo, rest_of}
use Rattle.annex_base.proofs.Conditions.{eqb_refl}
use Rattle.drop_phases.proofs.Callings.{makes_as}

pub turn_is : (x : Sight) (rows : Rows) (contents : Contents) (s : SetUp) (st : State) (k : Look) (w : Worker) (v : Work) (fails : Option Call)
    → IsSight x s st k w v → HaveState rows contents st → k.fails ≡ fails → turn_in x rows (present_in contents) fails (rest_of s st k v) w ≡ turn_of s st k v
turn_is x rows contents s st k w v fails e r f = λ i.
    record {
      read = e.read i;
      clock = (e.read i).clock;
      number = e.number i;
      present = λ key. r.present key i;
      bar = λ key. r.bar key i;
      content = st.content;
      holds = r.holds i;
      filled = (rest_of s st k v).filled;
      ends = e.ends i;
      look = record { time = e.time i; count = k.count; at_hand = k.at_hand; room = k.room; fails = sym f i; part = k.part; right = k.right; words = e.words i };
      w = e.work i;
    }

-- every phase of a drop on a connection awaits a frame there
awaiting : (ph : Phase) → is_awaiting (phase_as ph) ≡ true
awaiting phases.Fresh = refl
awaiting phases.Next = refl
awaiting (phases.Opens peer) = refl
awaiting (phases.Greets peer) = refl
awaiting (phases.AsksLock peer since) = refl
awaiting (phases.AsksLook peer) = refl
awaiting phases.AsksTime = refl
awaiting phases.Orders = refl
awaiting phases.Removed = refl
awaiting phases.Denied = refl
awaiting (phases.Late time) = refl
awaiting (phases.Ends why) = refl

-- the end is open where a frame is taken
abbrev IsOpenAt : Turn → Option ℕ → Option FrameView → Type 0
IsOpenAt t (Some peer) (Some f) = (end_with t peer).opened ≡ true
IsOpenAt t o f = Unit {0}

found_step : (t : Turn) (o : Option ℕ) (f : Option FrameView) → is_awaiting t.w.phase ≡ true → FindsAt t o f → IsOpenAt t o f → by_partner t o ≡ Some (step_of o f t)
found_step t None f waits room live = rw room refl
found_step t (Some peer) None waits shut live = rw shut refl
found_step t (Some peer) (Some f) waits (at, room) live = rw (live, waits, at, room) refl

fed_open : (x : Sight) (t : Turn) (slot : ℕ) (o : Option ℕ) (f : Option FrameView) (taken : Taken) → x.ends ≡ t.ends → slot ≡ t.w.slot → FeedsFrameAt x slot o f taken → IsOpenAt t o f
fed_open x t slot None f taken e same fed = tt
fed_open x t slot (Some peer) None taken e same fed = tt
fed_open x t slot (Some peer) (Some f) taken e same fed = sym (λ i. (e i (end_in (same i) peer)).opened) ∙ fed.live

-- the slot's step, at a look that the worker sees
slot_so : (x : Sight) (rows : Rows) (contents : Contents) (w : Worker) (taken : Taken) (failed : Option Call) (s : SetUp) (st : State) (k : Look) (v : Work) (f : Option FrameView)
    → Sees x rows contents w taken failed s st k v f → slot_step s st k (Some v) ≡ Some (step_of (stands_on w) f (turn_of s st k v))
slot_so x rows contents w taken failed s st k v f sees =
    (λ i. by_partner now (Jobs.partner (sym work i).what.peer (sym work i).phase))
    ∙ found_step now (stands_on w) f (ap (λ (u : Work). is_awaiting u.phase) (sym work) ∙ awaiting w.phase) sees.finds (fed_open x now w.slot (stands_on w) f taken sees.sight.ends (ap (λ (u : Work). u.slot) work) sees.fed)
  where
    now : Turn
    now = turn_of s st k v

    work : work_of (rest_of s st k v) w ≡ v
    work = sees.sight.work

-- a step that does this, at a look that sees it, is the slot's
pub steps_so : (x : Sight) (rows rows' : Rows) (contents : Contents) (w w' : Worker) (taken : Taken) (out : Output) (s : SetUp) (st : State) (k : Look) (v : Work) (f : Option FrameView)
    → Sees x rows contents w taken (failed_in out.kind) s st k v f → DoesAsAsked x rows rows' (present_in contents) w w' f (step_of (Jobs.partner w.job.peer (phase_as w.phase)) f) out
    → StepsSo x w w' out s st k v f
steps_so x rows rows' contents w w' taken out s st k v f sees d =
    record {
      made = ap (option_map as_told) (slot_so x rows contents w taken (failed_in out.kind) s st k v f sees)
          ∙ ap (λ (m : Effect). Some m) (sym (d.makes rest ∙ ap (λ (t : Turn). as_told (step_of o f t)) is));
      next = λ going. d.next going rest
          ∙ (ap (next_work turned) (sym (d.makes rest)) ∙ (ap (λ (t : Turn). next_work t made) is ∙ sym (own_entry (option_is (job_of out.kind) v.number) whose)));
    }
  where
    o : Option ℕ
    o = Jobs.partner w.job.peer (phase_as w.phase)

    rest : Rest
    rest = rest_of s st k v

    turned : Turn
    turned = turn_in x rows (present_in contents) (failed_in out.kind) rest w

    now : Turn
    now = turn_of s st k v

    is : turned ≡ now
    is = turn_is x rows contents s st k w v (failed_in out.kind) sees.sight sees.keeps sees.failing

    work : work_of rest w ≡ v
    work = sees.sight.work

    made : Effect
    made = made_of x w f out

    whose : option_is (job_of out.kind) v.number ≡ true
    whose = (λ i. option_is (d.whose i) (sym work i).number) ∙ eqb_refl w.number

    own_entry : (b : Bool) → b ≡ true → (if b then next_work now made else v) ≡ next_work now made
    own_entry b e = rw e refl

-- ---- its calls

calls_so : (x : Sight) (rows : Rows) (contents : Contents) (w : Worker) (taken : Taken) (failed : Option Call) (s : SetUp) (st : State) (k : Look) (v : Work) (f : Option FrameView) (before after : Failing)
    → Sees x rows contents w taken failed s st k v f → MakesCalls (step_of (stands_on w) f (turn_in x rows (present_in contents) failed (rest_of s st k v) w)).calls failed before after
    → ForSome (slot_step s st k (Some v)) (λ (m : Effect). MakesCalls m.calls failed before after)
calls_so x rows contents w taken failed s st k v f before after sees made m is =
    makes_as m.calls (step_of (stands_on w) f turned).calls failed failed before after (sym (ap (λ (t : Turn). (step_of (stands_on w) f t).calls) turn ∙ ap (λ (e : Effect). e.calls) same)) refl made
  where
    turned : Turn
    turned = turn_in x rows (present_in contents) failed (rest_of s st k v) w

    turn : turned ≡ turn_of s st k v
    turn = turn_is x rows contents s st k w v failed sees.sight sees.keeps sees.failing

    same : step_of (stands_on w) f (turn_of s st k v) ≡ m
    same = let both : Some (step_of (stands_on w) f (turn_of s st k v)) ≡ Some m = sym (slot_so x rows contents w taken failed s st k v f sees) ∙ is in cc

pub all_makes : (x : Sight) (known : Option Contents) (rows : Rows) (w : Worker) (taken : Taken) (before after : Failing) (r : Result Output NoMemory) → MakesSo x known rows w taken before after r
    → IfOk r (λ out. ForSome known (λ c. (s : SetUp) (st : State) (k : Look) (v : Work) (f : Option FrameView) → Sees x rows c w taken (failed_in out.kind) s st k v f
    → ForSome (slot_step s st k (Some v)) (λ (m : Effect). MakesCalls m.calls (failed_in out.kind) before after))) × IfOk r (λ out. AreLeft (failed_in out.kind) before after) × OnErr r (after ≡ before)
all_makes x known rows w taken before after (Ok out) m =
    (λ c told s st k v f sees. calls_so x rows c w taken (failed_in out.kind) s st k v f before after sees (m.1 c told f sees.fed (rest_of s st k v)), m.0, tt)
all_makes x known rows w taken before after (Err e) m = (tt, tt, m)
