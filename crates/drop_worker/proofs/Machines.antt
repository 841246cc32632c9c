-- The step of a drop, put together of its parts.
use Rattle.std.proofs.Common.{◌≡◌, ◌≤◌, inl, ℕ, false, List, Option, Some, None, Result, Ok, Err, refl, sym, ap, ◌∙◌, subst}
use Rattle.std.specs.Prelude.{IfOk, IfSome, OnErr}
use Rattle.std.specs.Option.{ForSome}
use Rattle.annex_base.specs.Causes.{Rose}
use Rattle.annex_base.specs.declared.kinds.Word.{Word}
use Rattle.annex_base.specs.declared.memory.NoMemory.{NoMemory}
use Rattle.drop_proof.specs.declared.rule.Side.{Side}
use Rattle.drop_proof.specs.declared.rule.Side.TheVariants.{Local, Remote}
use Rattle.run_data.specs.declared.entry.FrameView.{FrameView}
use Rattle.run_data.specs.declared.row.Hold.{Hold}
use Rattle.node_model.specs.Ends.{End, EndName}
use Rattle.node_model.specs.Knows.{Reading}
use Rattle.node_model.specs.Jobs.{Work, partner}
use Rattle.node_model.specs.Look.{Look, failed_in}
use Rattle.node_model.specs.SetUp.{SetUp}
use Rattle.node_model.specs.State.{State}
use Rattle.node_model.specs.Turns.{goes}
use Rattle.object_store.specs.Stores.{Contents}
use Rattle.object_store.specs.declared.keeper.HoldRecord.{HoldRecord}
use Rattle.content_lock.specs.Rows.{AreAfter, Rows}
use Rattle.content_lock.specs.Stored.{Agrees}
use Rattle.drop_phases.specs.declared.phase.Phase.{Phase}
use Rattle.drop_phases.specs.declared.turn.Output.{Output}
use Rattle.drop_phases.specs.declared.turn.Taken.{Taken}
use Rattle.drop_phases.specs.Worker.{Worker}
use Rattle.drop_phases.specs.Working.{Sight, phase_as, present_in, sight}
use Rattle.drop_phases.specs.Begun.{IsOther}
use Rattle.drop_phases.specs.Doing.{DoesAsAsked, Grows, HasToken, IsBar, OthersStay, Talks, contents_after}
use Rattle.drop_phases.specs.Feeding.{FeedsFrameAt, FitsLocal, KeepsAnswer, KeepsWord, TakesFed, step_of}
use Rattle.drop_phases.specs.Leaving.{Advances, Did, GoesSo, Stays, Store, stands_on}
use Rattle.remote_requests.specs.Remote.{DidRemote, TakesRemote}
use Rattle.drop_phases.specs.Sides.{FitsSide, HasTarget, side_in, target_on}
use Rattle.drop_worker.specs.States.{Sees, StepsSo}
use Rattle.drop_worker.specs.Stepping.{AdvancesSo, DidSo}
use Rattle.drop_phases.proofs.Leavings.{did_as, stays_same, talk_leaves}
use Rattle.drop_worker.proofs.StateFacts.{steps_so}

-- a job that awaits no frame goes on from where it stands
acts_advance : (x : Sight) (known : Option Contents) (rows rows' : Rows) (w w' : Worker) (taken : Taken) (word : Option Word) (out : Output) → stands_on w ≡ None
    → GoesSo x known rows rows' w w' out → Advances x known rows rows' w w' taken word out
acts_advance x known rows rows' w w' taken word out none acts =
    record {
      told = λ peer at said. absurd (let both : Some peer ≡ None = sym (ap (λ (ph : Phase). partner w.job.peer (phase_as ph)) at) ∙ none in cc);
      does = λ c is f. subst (λ (o : Option ℕ). FeedsFrameAt x w.slot o f taken → DoesAsAsked x rows rows' (present_in c) w w' f (step_of o f) out) (sym none)
          (λ fed. subst (λ (g : Option FrameView). DoesAsAsked x rows rows' (present_in c) w w' g (λ t. goes t t.w.phase) out) (sym fed.1) (acts c is));
    }

pub acts_did : (x : Sight) (rows rows' : Rows) (k k' : Store) (w w' : Worker) (taken : Taken) (word : Option Word) (r : Result Output NoMemory) → stands_on w ≡ None
    → Did rows rows' k k' w w' (GoesSo x k.contents rows rows' w w') r → Did rows rows' k k' w w' (Advances x k.contents rows rows' w w' taken word) r
acts_did x rows rows' k k' w w' taken word r none d =
    did_as rows rows' k k' w w' (GoesSo x k.contents rows rows' w w') (Advances x k.contents rows rows' w w' taken word) r d
    (λ out acts. acts_advance x k.contents rows rows' w w' taken word out none acts)

-- a job that awaits a frame does what the definitions do with what it is told
pub hears_did : (x : Sight) (rows : Rows) (k : Store) (w w' : Worker) (peer : ℕ) (taken : Taken) (word : Option Word) (r : Result Output NoMemory) → stands_on w ≡ Some peer → IsBar w.token
    → HasToken w.number w.job.key w.token rows → IfOk r (TakesFed x.time peer taken w w') → IfOk r (λ out. KeepsWord taken word w w') → IfOk r (Talks w w') → OnErr r (w' ≡ w)
    → Did rows rows k k w w' (Advances x k.contents rows rows w w' taken word) r
hears_did x rows k w w' peer taken word (Ok out) at bar own takes told talks same = (
  record {
    told = told;
    does = λ c is f. subst (λ (o : Option ℕ). FeedsFrameAt x w.slot o f taken → DoesAsAsked x rows rows (present_in c) w w' f (step_of o f) out) (sym at) (λ fed. takes x rows (present_in c) f refl fed);
  },
  talk_leaves rows k w w' out talks bar own,
)
hears_did x rows k w w' peer taken word (Err e) at bar own takes told talks same =
    subst (λ (u : Worker). Stays rows rows k k w u) (sym same) (stays_same rows k w)

-- ---- of either side

-- no local drop awaits the answer to an order
local_answer : (w w' : Worker) (taken : Taken) (word : Option Word) → FitsLocal w.phase w.token → KeepsAnswer taken word w w'
local_answer w w' taken word fits at said = absurd (subst (λ (ph : Phase). FitsLocal ph w.token) at fits)

pub local_did : (x : Sight) (rows rows' : Rows) (k k' : Store) (w w' : Worker) (taken : Taken) (word : Option Word) (r : Result Output NoMemory) → side_in w ≡ Local → FitsLocal w.phase w.token
    → Did rows rows' k k' w w' (Advances x k.contents rows rows' w w' taken word) r → DidSo rows rows' k k' w w' (AdvancesSo x k.contents rows rows' w w' taken word) r
local_did x rows rows' k k' w w' taken word (Err e) local fits s = s
local_did x rows rows' k k' w w' taken word (Ok out) local fits (d, l) = (
  record {
    told = d.told;
    answer = local_answer w w' taken word fits;
    does = d.does;
  },
  record {
    after = l.after;
    contents = l.contents;
    agrees = λ was. subst (λ (o : Option (List HoldRecord)). Agrees o rows'.holds) (sym l.records) (subst (λ (hs : List Hold). Agrees k.records hs) (sym l.holds) was);
    later = l.later;
    cause = l.cause;
    owns = l.owns;
    fits = λ going. subst (λ (s : Side). FitsSide s w'.phase w'.token) (sym local) (l.fits going);
    heard = l.heard;
    number = l.number;
    job = l.job;
    others = l.others;
    holds = λ is. l.holds;
    records = λ is. l.records;
  },
)

pub remote_did : (x : Sight) (rows rows' : Rows) (k k' : Store) (w w' : Worker) (taken : Taken) (word : Option Word) (r : Result Output NoMemory) → side_in w ≡ Remote
    → DidRemote rows rows' k k' w w' (AdvancesSo x k.contents rows rows' w w' taken word) r → DidSo rows rows' k k' w w' (AdvancesSo x k.contents rows rows' w w' taken word) r
remote_did x rows rows' k k' w w' taken word (Err e) remote s = s
remote_did x rows rows' k k' w w' taken word (Ok out) remote (d, l) = (
  d,
  record {
    after = l.after;
    contents = l.contents;
    agrees = λ was. l.agrees;
    later = l.later;
    cause = l.cause;
    owns = l.owns;
    fits = λ going. subst (λ (s : Side). FitsSide s w'.phase w'.token) (sym remote) (l.fits going);
    heard = l.heard;
    number = l.number;
    job = l.job;
    others = l.others;
    holds = λ is. absurd (let both : Local ≡ Remote = sym is ∙ remote in cc);
    records = λ is. absurd (let both : Local ≡ Remote = sym is ∙ remote in cc);
  },
)

-- ---- a remote drop

-- that awaits no frame
pub acts_remotely : (x : Sight) (rows rows' : Rows) (k k' : Store) (w w' : Worker) (target : ℕ) (taken : Taken) (word : Option Word) (r : Result Output NoMemory) → w.job.peer ≡ Some target → stands_on w ≡ None
    → DidRemote rows rows' k k' w w' (GoesSo x k.contents rows rows' w w') r → DidRemote rows rows' k k' w w' (AdvancesSo x k.contents rows rows' w w' taken word) r
acts_remotely x rows rows' k k' w w' target taken word (Err e) peer none s = s
acts_remotely x rows rows' k k' w w' target taken word (Ok out) peer none (acts, l) = (
  record {
    told = λ p at said. absurd (let both : Some p ≡ None = sym (ap (λ (ph : Phase). partner w.job.peer (phase_as ph)) at) ∙ none in cc);
    answer = λ at said. absurd (let both : Some target ≡ None = sym peer ∙ (sym (ap (λ (ph : Phase). partner w.job.peer (phase_as ph)) at) ∙ none) in cc);
    does = λ c is f. subst (λ (o : Option ℕ). FeedsFrameAt x w.slot o f taken → DoesAsAsked x rows rows' (present_in c) w w' f (step_of o f) out) (sym none)
        (λ fed. subst (λ (g : Option FrameView). DoesAsAsked x rows rows' (present_in c) w w' g (λ t. goes t t.w.phase) out) (sym fed.1) (acts c is));
  },
  l,
)

-- that awaits a frame of this peer
pub hears_remotely : (read : Reading) (ends_at : EndName → End) (time number : ℕ) (rows rows' : Rows) (k k' : Store) (w w' : Worker) (peer : ℕ) (taken : Taken) (word : Option Word) (r : Result Output NoMemory) → stands_on w ≡ Some peer
    → DidRemote rows rows' k k' w w' (TakesRemote read ends_at time rows rows' peer taken w w') r → IfOk r (λ out. KeepsWord taken word w w') → IfOk r (λ out. KeepsAnswer taken word w w')
    → DidRemote rows rows' k k' w w' (AdvancesSo (sight read ends_at time number) k.contents rows rows' w w' taken word) r
hears_remotely read ends_at time number rows rows' k k' w w' peer taken word (Err e) at s told answer = s
hears_remotely read ends_at time number rows rows' k k' w w' peer taken word (Ok out) at (takes, l) told answer = (
  record {
    told = told;
    answer = answer;
    does = λ c is f. subst (λ (o : Option ℕ). FeedsFrameAt (sight read ends_at time number) w.slot o f taken → DoesAsAsked (sight read ends_at time number) rows rows' (present_in c) w w' f (step_of o f) out) (sym at)
        (λ fed. takes number (present_in c) f fed);
  },
  l,
)

-- ---- the target

pub no_target : (side : Side) (peer : Option ℕ) (r : Reading) → HasTarget side peer r → target_on side peer ≡ None → side ≡ Local
no_target Local peer r has is = refl
no_target Remote None r has is = absurd has
no_target Remote (Some target) r has is = absurd (cc)

pub target_remote : (side : Side) (peer : Option ℕ) (target : ℕ) → target_on side peer ≡ Some target → side ≡ Remote
target_remote Local peer target is = absurd (cc)
target_remote Remote peer target is = refl

pub target_peer : (side : Side) (peer : Option ℕ) (target : ℕ) → target_on side peer ≡ Some target → peer ≡ Some target
target_peer Local peer target is = absurd (cc)
target_peer Remote peer target is = is

pub target_other : (side : Side) (peer : Option ℕ) (target : ℕ) (r : Reading) → HasTarget side peer r → target_on side peer ≡ Some target → IsOther r target
target_other Local peer target r has is = absurd (cc)
target_other Remote peer target r has is = subst (λ (o : Option ℕ). HasTarget Remote o r) is has

-- ---- what a step promises

pub record Steps (x : Sight) (rows rows' : Rows) (k k' : Store) (w w' : Worker) (taken : Taken) (word : Option Word) (r : Result Output NoMemory) : Type 0 where
  pub step : IfOk r (λ out. ForSome k.contents (λ c. (s : SetUp) (st : State) (l : Look) (v : Work) (f : Option FrameView) → Sees x rows c w taken (failed_in out.kind) s st l v f → StepsSo x w w' out s st l v f))
  pub told : IfOk r (λ out. KeepsWord taken word w w')
  pub heard : Grows w.heard w'.heard
  pub answer : IfOk r (λ out. KeepsAnswer taken word w w')
  pub after : IfOk r (λ out. AreAfter out.kind rows rows')
  pub contents : IfOk r (λ out. k'.contents ≡ contents_after k.contents out.kind)
  pub owns : HasToken w'.number w'.job.key w'.token rows'
  pub fits : IfOk r (λ out. out.ended ≡ false → FitsSide (side_in w) w'.phase w'.token)
  pub number : w'.number ≡ w.number
  pub job : w'.job ≡ w.job
  pub others : OthersStay w.number rows rows'
  pub agrees : Agrees k.records rows.holds → Agrees k'.records rows'.holds
  pub holds : side_in w ≡ Local → rows'.holds ≡ rows.holds
  pub records : side_in w ≡ Local → k'.records ≡ k.records
  pub err : OnErr r ((w' ≡ w) × (rows' ≡ rows) × (k'.contents ≡ k.contents) × (k'.records ≡ k.records))
  pub later : k.faults ≤ k'.faults
  pub cause : IfOk r (λ out. IfSome (failed_in out.kind) (λ call. Rose k.faults k'.faults))

pub all_of : (x : Sight) (rows rows' : Rows) (k k' : Store) (w w' : Worker) (taken : Taken) (word : Option Word) (r : Result Output NoMemory) → HasToken w.number w.job.key w.token rows
    → DidSo rows rows' k k' w w' (AdvancesSo x k.contents rows rows' w w' taken word) r → Steps x rows rows' k k' w w' taken word r
all_of x rows rows' k k' w w' taken word (Ok out) own (d, l) =
    record {
      step = λ c is s st look v f sees. steps_so x rows rows' c w w' taken out s st look v f sees (d.does c is f sees.fed);
      told = d.told;
      answer = d.answer;
      heard = l.heard;
      after = l.after;
      contents = l.contents;
      owns = l.owns;
      fits = l.fits;
      number = l.number;
      job = l.job;
      others = l.others;
      agrees = l.agrees;
      holds = l.holds;
      records = l.records;
      err = tt;
      later = l.later;
      cause = l.cause;
    }
all_of x rows rows' k k' w w' taken word (Err e) own s =
    record {
      step = tt;
      told = tt;
      answer = tt;
      heard = inl (ap (λ (u : Worker). u.heard) s.worker);
      after = tt;
      contents = tt;
      owns = subst (λ (u : Worker). HasToken u.number u.job.key u.token rows') (sym s.worker) (subst (λ (q : Rows). HasToken w.number w.job.key w.token q) (sym s.table) own);
      fits = tt;
      number = ap (λ (u : Worker). u.number) s.worker;
      job = ap (λ (u : Worker). u.job) s.worker;
      others = λ job key token other mine. subst (λ (q : Rows). HasToken job key token q) (sym s.table) mine;
      agrees = λ was. subst (λ (o : Option (List HoldRecord)). Agrees o rows'.holds) (sym s.records) (subst (λ (q : Rows). Agrees k.records q.holds) (sym s.table) was);
      holds = λ is. ap (λ (q : Rows). q.holds) s.table;
      records = λ is. s.records;
      err = (s.worker, s.table, s.contents, s.records);
      later = s.later;
      cause = tt;
    }
