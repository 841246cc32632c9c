-- What a job knows of the logs, and its step by that.
use Rattle.std.proofs.Common.{◌≡◌, ℕ, zero, suc, ◌+◌, ◌<◌, true, List, [], ◌∷◌, ◌++◌, length, get_or, take, map, Option, Some, None, Result, Ok, Err, refl, sym, ap, subst, ◌∙◌}
use Rattle.std.specs.Prelude.{IfOk, slice_get, unwrap_or}
use Rattle.std.proofs.lemmas.List.{map-append, map_more}
use Rattle.annex_base.specs.Settings.{Settings}
use Rattle.annex_base.specs.declared.memory.NoMemory.{NoMemory}
use Rattle.run_data.specs.Repos.{id_of}
use Rattle.run_data.specs.declared.run.RepoView.{RepoView}
use Rattle.run_data.specs.declared.entry.FrameView.{FrameView}
use Rattle.link_ring.specs.Ends.{EndView}
use Rattle.node_model.specs.After.{has_read}
use Rattle.node_model.specs.Clocks.{ClockSet, runs_on}
use Rattle.node_model.specs.Ends.{EndName}
use Rattle.node_model.specs.Evidence as drops
use Rattle.node_model.specs.Evidence.{standing_by}
use Rattle.node_model.specs.Jobs.{Drops, drop_side, or_own, target_of}
use Rattle.node_model.specs.Knows.{need_by, need_of, required_of, standing_of}
use Rattle.node_model.specs.Look.{Look, failed_in}
use Rattle.node_model.specs.SetUp.{SetUp}
use Rattle.node_model.specs.State.{State}
use Rattle.wanted_expr.specs.Wanted.{required}
use Rattle.node_ends.specs.Ends.{end_at}
use Rattle.object_store.specs.Stores.{Contents}
use Rattle.content_lock.specs.Rows.{Rows}
use Rattle.drop_worker.specs.Begun.{CanStand, HasBegun}
use Rattle.drop_worker.specs.Standings as worker
use Rattle.drop_phases.specs.declared.here.Standing.{Standing}
use Rattle.drop_phases.specs.declared.phase.Phase.{Phase}
use Rattle.drop_phases.specs.declared.phase.Phase.TheVariants as phases
use Rattle.drop_phases.specs.declared.turn.Input.{Input}
use Rattle.drop_phases.specs.declared.turn.Output.{Output}
use Rattle.drop_phases.specs.declared.turn.Taken.{Taken}
use Rattle.drop_worker.specs.Feeding.{FeedsFrameAt}
use Rattle.drop_worker.specs.Leaving.{stands_on}
use Rattle.drop_worker.specs.Sides.{side_in}
use Rattle.drop_worker.specs.States.{IsSight, Sees, StepsSo}
use Rattle.drop_worker.specs.Worker.{Worker}
use Rattle.drop_worker.specs.Working.{phase_as, sight, words_of, work_of}
use Rattle.node_drops.specs.Calling.{Failing, JobMakes, WorkerMakes}
use Rattle.node_drops.specs.Doings.{Acts, Does, ReadsOn, SeesAct, Steps}
use Rattle.node_drops.specs.Places.{IsPlace, PlaceView}
use Rattle.node_drops.specs.Reads.{KnownLogs, reading_of, standing_at, standing_in, standings_by}
use Rattle.node_drops.specs.Drops.{DropJob, HadPaths, HasRead, ReadSo, HasReadByPhase, place_reading, plain, work_now}
use Rattle.node_drops.proofs.Hearing.{count_is}

-- ---- what the job reads

-- what it knows is what the state says that it has read
pub record Knows (s : SetUp) (st : State) (j : DropJob) (known : KnownLogs) : Type 0 where
  pub need : need_of s st (work_now j) ≡ known.need
  pub standing : (c : ℕ) → standing_of s st (work_now j) c ≡ standing_in known c
  pub requires : required_of s st (work_now j) ≡ known.requires

pub knows_read : (s : SetUp) (st : State) (j : DropJob) (known : KnownLogs) → HasRead s st j.worker (Some known) → Knows s st j known
unfolding standing_of
knows_read s st j known read = record { need = read.need; standing = read.standing; requires = read.requires }

standing_listed : (f : List ℕ → drops.Standing) (repos : List RepoView) (c : ℕ) → f [] ≡ drops.Asked → standing_at (map f (map (λ (repo : RepoView). repo.id) repos)) c ≡ f (id_of repos c)
standing_listed f [] c nameless = sym nameless
standing_listed f (x ∷ xs) zero nameless = refl
standing_listed f (x ∷ xs) (suc c) nameless = standing_listed f xs c nameless

-- the identifier of a repository among them
id_listed : (repos : List RepoView) (c : ℕ) → id_of repos c ≡ unwrap_or (slice_get (map (λ (repo : RepoView). repo.id) repos) c) []
id_listed [] c = refl
id_listed (x ∷ xs) zero = refl
id_listed (x ∷ xs) (suc c) = id_listed xs c

-- that of the repository from which a drop removes
target_id : (p : PlaceView) (s : SetUp) (j : DropJob) (id : List ℕ) → IsPlace p s → id ≡ unwrap_or (slice_get p.ids (or_own p.number (side_in j.worker) j.worker.job.peer)) [] → id_of s.repos (target_of s.number (work_now j)) ≡ id
target_id p s j id place is =
    id_listed s.repos (or_own s.number (side_in j.worker) j.worker.job.peer) ∙ ((λ i. unwrap_or (slice_get (place.ids i) (or_own (place.number i) (side_in j.worker) j.worker.job.peer)) []) ∙ sym is)

-- at its first step it reads the logs
knows_logs : (p : PlaceView) (s : SetUp) (st : State) (j : DropJob) (settings : Settings) (known : KnownLogs) (id : List ℕ) → id ≡ unwrap_or (slice_get p.ids (or_own p.number (side_in j.worker) j.worker.job.peer)) []
    → known.need ≡ need_by settings j.paths → map worker.standing_of known.standings ≡ standings_by settings j.worker.job.key p.ids → known.requires ≡ required settings id j.worker.job.key j.paths
    → IsPlace p s → HadPaths s j.worker.number j.paths → HasRead s st j.worker None → st.logs ≡ settings → ((key : List ℕ) → standing_by settings key [] ≡ drops.Asked) → Knows s st j known
unfolding standing_of
knows_logs p s st j settings known id id_is need standings demand place had fresh logs nameless =
    let same : st.read j.worker.number ≡ settings = fresh.1 ∙ logs in
    let target = target_id p s j id place id_is in
    record {
      need = (λ i. need_by (same i) (sym had i)) ∙ sym need;
      standing = λ c. ap (λ (r : Settings). standing_by r j.worker.job.key (id_of s.repos c)) same
          ∙ sym (ap (λ (l : List drops.Standing). standing_at l c) (standings ∙ ap (map (standing_by settings j.worker.job.key)) (sym place.ids))
          ∙ standing_listed (standing_by settings j.worker.job.key) s.repos c (nameless j.worker.job.key));
      requires = (λ i. required (same i) (target i) j.worker.job.key (sym had i)) ∙ sym demand;
    }

-- so it knows the logs of each such state
abbrev pub Learns : PlaceView → Settings → DropJob → KnownLogs → Type 0
Learns p settings j known = (s : SetUp) (st : State) → IsPlace p s → HadPaths s j.worker.number j.paths → HasRead s st j.worker j.known → st.logs ≡ settings → ((key : List ℕ) → standing_by settings key [] ≡ drops.Asked) → Knows s st j known

pub learns_read : (p : PlaceView) (settings : Settings) (j : DropJob) (known : KnownLogs) → j.known ≡ Some known → Learns p settings j known
learns_read p settings j known is = λ s st place had read logs nameless. knows_read s st j known (subst (HasRead s st j.worker) is read)

pub learns_logs : (p : PlaceView) (settings : Settings) (j : DropJob) (known : KnownLogs) (id : List ℕ) → j.known ≡ None → id ≡ unwrap_or (slice_get p.ids (or_own p.number (side_in j.worker) j.worker.job.peer)) [] → known.need ≡ need_by settings j.paths
    → map worker.standing_of known.standings ≡ standings_by settings j.worker.job.key p.ids → known.requires ≡ required settings id j.worker.job.key j.paths → Learns p settings j known
learns_logs p settings j known id none id_is need standings demand = λ s st place had read logs nameless.
    knows_logs p s st j settings known id id_is need standings demand place had (subst (HasRead s st j.worker) none read) logs nameless

-- one more repository
pub standings_more : (f : List ℕ → drops.Standing) (ids : List (List ℕ)) (i : ℕ) (id : List ℕ) (vs vs' : List Standing) (x : Standing) → i < length ids → id ≡ get_or ids i id → map worker.standing_of vs ≡ map f (take i ids)
    → vs' ≡ vs ++ x ∷ [] → worker.standing_of x ≡ f id → map worker.standing_of vs' ≡ map f (take (i + 1) ids)
standings_more f ids i id vs vs' x within at was pushed is =
    ap (map worker.standing_of) pushed ∙ (map-append worker.standing_of vs (x ∷ []) ∙ ((λ k. was k ++ is k ∷ []) ∙ sym (map_more f ids i id within ∙ ap (λ (y : List ℕ). map f (take i ids) ++ f y ∷ []) (sym at))))

-- the job as its repository is, at a look that has its words
pub sight_so : (p : PlaceView) (clock : ClockSet) (links : List EndView) (s : SetUp) (st : State) (k : Look) (j : DropJob) (known : KnownLogs) (time number : ℕ) → IsPlace p s → st.clock ≡ runs_on clock
    → Knows s st j known → ((a : EndName) → st.ends a ≡ end_at links a) → number ≡ st.made + 1 → time ≡ k.time → words_of j.worker ≡ k.words
    → IsSight (sight (reading_of p clock known) (end_at links) time number) s st k j.worker (work_now j)
sight_so p clock links s st k j known time number place ticks read ends count at words =
    record {
      work = refl;
      read = λ i. record { repo = sym place.number i; count = sym (count_is p s place) i; clock = sym ticks i; need = sym read.need i; standing = λ c. sym (read.standing c) i; requires = sym read.requires i };
      number = count;
      ends = λ i a. sym (ends a) i;
      time = at;
      words = words;
    }

-- ---- its step

has_begun : (p : PlaceView) (phase : Phase) → HasBegun (place_reading p) phase → has_read Drops (phase_as phase) ≡ true
has_begun p phases.Fresh h = absurd h
has_begun p phases.Next h = refl
has_begun p (phases.Opens peer) h = refl
has_begun p (phases.Greets peer) h = refl
has_begun p (phases.AsksLock peer since) h = refl
has_begun p (phases.AsksLook peer) h = refl
has_begun p phases.AsksTime h = refl
has_begun p phases.Orders h = refl
has_begun p phases.Removed h = refl
has_begun p phases.Denied h = refl
has_begun p (phases.Late time) h = refl
has_begun p (phases.Ends why) h = refl

begun_stands : (p : PlaceView) (phase : Phase) → HasBegun (place_reading p) phase → CanStand (place_reading p) phase
begun_stands p phases.Fresh h = absurd h
begun_stands p phases.Next h = tt
begun_stands p (phases.Opens peer) h = h
begun_stands p (phases.Greets peer) h = h
begun_stands p (phases.AsksLock peer since) h = h
begun_stands p (phases.AsksLook peer) h = h
begun_stands p phases.AsksTime h = tt
begun_stands p phases.Orders h = tt
begun_stands p phases.Removed h = tt
begun_stands p phases.Denied h = tt
begun_stands p (phases.Late time) h = tt
begun_stands p (phases.Ends why) h = tt

pub can_stand : (p : PlaceView) (phase : Phase) (known : Option KnownLogs) → HasReadByPhase p phase known → CanStand (place_reading p) phase
can_stand p phase None fresh = subst (CanStand (place_reading p)) (sym fresh) tt
can_stand p phase (Some known) begun = begun_stands p phase begun

-- what it has read stays so
reads_on : (s : SetUp) (st st' : State) (j : DropJob) (w' : Worker) (known : KnownLogs) → Knows s st j known → ReadsOn s st st' j → w'.number ≡ j.worker.number → w'.job ≡ j.worker.job → has_read Drops (phase_as w'.phase) ≡ true
    → ReadSo s st' w' known
unfolding standing_of
reads_on s st st' j w' known knows on number job begun =
    let same : st'.read w'.number ≡ st.read j.worker.number = ap st'.read number ∙ on.read in
    record {
      begun = begun;
      need = (λ i. need_by (same i) (s.paths (number i))) ∙ knows.need;
      standing = λ c. (λ i. standing_by (same i) (job i).key (id_of s.repos c)) ∙ knows.standing c;
      requires = (λ i. required (same i) (id_of s.repos (or_own s.number (drop_side (job i).kind (job i).peer) (job i).peer)) (job i).key (s.paths (number i))) ∙ knows.requires;
    }

-- what is read of the same logs is the same
pub read_same : (s : SetUp) (st st' : State) (w : Worker) (known : KnownLogs) → st'.read w.number ≡ st.read w.number → ReadSo s st w known → ReadSo s st' w known
unfolding standing_of
read_same s st st' w known same h = record {
  begun = h.begun;
  need = ap (λ (r : Settings). need_by r (s.paths w.number)) same ∙ h.need;
  standing = λ c. ap (λ (r : Settings). standing_by r w.job.key (id_of s.repos c)) same ∙ h.standing c;
  requires = ap (λ (r : Settings). required r (id_of s.repos (target_of s.number (work_of plain w))) w.job.key (s.paths w.number)) same ∙ h.requires;
}

-- so it is, whatever paths the keys of other jobs had
pub read_apart : (s : SetUp) (st : State) (w : Worker) (known : Option KnownLogs) (paths : ℕ → List (List ℕ)) → paths w.number ≡ s.paths w.number → HasRead s st w known → HasRead (record s { paths = paths }) st w known
unfolding standing_of
read_apart s st w None paths same fresh = fresh
read_apart s st w (Some known) paths same h = record {
  begun = h.begun;
  need = ap (need_by (st.read w.number)) same ∙ h.need;
  standing = h.standing;
  requires = ap (required (st.read w.number) (id_of s.repos (target_of s.number (work_of plain w))) w.job.key) same ∙ h.requires;
}

-- what is told is told to a job that knows this
fed_as : (p : PlaceView) (clock : ClockSet) (links : List EndView) (known : KnownLogs) (time number slot : ℕ) (o : Option ℕ) (f : Option FrameView) (taken : Taken) → FeedsFrameAt (sight (place_reading p) (end_at links) time 0) slot o f taken
    → FeedsFrameAt (sight (reading_of p clock known) (end_at links) time number) slot o f taken
fed_as p clock links known time number slot None f taken fed = fed
fed_as p clock links known time number slot (Some peer) None taken fed = fed
fed_as p clock links known time number slot (Some peer) (Some f) taken fed = record { at = fed.at; live = fed.live; apart = fed.apart; is = fed.is }

-- what its worker sees
worker_sees : (p : PlaceView) (clock : ClockSet) (links : List EndView) (settings : Settings) (input : Input) (rows : Rows) (c : Contents) (j : DropJob) (known : KnownLogs) (out : Output) (s : SetUp) (st : State) (k : Look) (f : Option FrameView)
    → Knows s st j known → SeesAct p clock links settings input rows c j out s st k f
    → Sees (sight (reading_of p clock known) (end_at links) input.time input.number) rows c j.worker input.taken (failed_in out.kind) s st k (work_now j) f
worker_sees p clock links settings input rows c j known out s st k f known_so sees =
    record {
      sight = sight_so p clock links s st k j known input.time input.number sees.job.place sees.job.ticks known_so sees.job.ends sees.number sees.job.at sees.words;
      keeps = sees.keeps;
      failing = sees.fails;
      finds = sees.finds;
      fed = fed_as p clock links known input.time input.number j.worker.slot (stands_on j.worker) f input.taken sees.fed;
    }

pub acts_so : (p : PlaceView) (clock : ClockSet) (links : List EndView) (settings : Settings) (input : Input) (contents contents' : Option Contents) (rows rows' : Rows) (j : DropJob) (w' : Worker) (known : KnownLogs) (out : Output) → Learns p settings j known → HasReadByPhase p j.worker.phase j.known → Does p clock links known input contents rows j.worker w' out → Steps p contents contents' input rows rows' j.worker w' out
    → Acts p clock links settings input contents rows j (record { worker = w'; paths = j.paths; known = Some known; causes = j.causes }) out
acts_so p clock links settings input contents contents' rows rows' j w' known out knows stands does steps = λ c is s st k f sees.
    let known_so : Knows s st j known = knows s st sees.job.place sees.job.paths sees.job.read sees.logs sees.nameless in
    let so : StepsSo (sight (reading_of p clock known) (end_at links) input.time input.number) j.worker w' out s st k (work_now j) f =
    does c is s st k (work_now j) f (worker_sees p clock links settings input rows c j known out s st k f known_so sees) in (
      record { made = so.made; next = so.next },
      λ going st' on. reads_on s st st' j w' known known_so on steps.number steps.job (has_begun p w'.phase ((steps.gone (can_stand p j.worker.phase j.known stands)).goes_on going)),
    )

pub acts_ok : (p : PlaceView) (clock : ClockSet) (links : List EndView) (settings : Settings) (input : Input) (contents contents' : Option Contents) (rows rows' : Rows) (j : DropJob) (w' : Worker) (known : KnownLogs) (r : Result Output NoMemory) → Learns p settings j known → HasReadByPhase p j.worker.phase j.known → IfOk r (Does p clock links known input contents rows j.worker w') → IfOk r (Steps p contents contents' input rows rows' j.worker w')
    → IfOk r (Acts p clock links settings input contents rows j (record { worker = w'; paths = j.paths; known = Some known; causes = j.causes }))
acts_ok p clock links settings input contents contents' rows rows' j w' known (Ok out) knows stands does steps = acts_so p clock links settings input contents contents' rows rows' j w' known out knows stands does steps
acts_ok p clock links settings input contents contents' rows rows' j w' known (Err e) knows stands does steps = tt

-- ---- its calls

pub makes_so : (p : PlaceView) (clock : ClockSet) (links : List EndView) (settings : Settings) (input : Input) (contents : Option Contents) (rows : Rows) (j : DropJob) (known : KnownLogs) (before after : Failing) (out : Output)
    → Learns p settings j known → WorkerMakes p clock links known input contents rows j.worker before after out → JobMakes p clock links settings input contents rows before after j out
makes_so p clock links settings input contents rows j known before after out knows makes = λ c is s st k f sees.
    makes c is s st k (work_now j) f (worker_sees p clock links settings input rows c j known out s st k f (knows s st sees.job.place sees.job.paths sees.job.read sees.logs sees.nameless) sees)

pub makes_ok : (p : PlaceView) (clock : ClockSet) (links : List EndView) (settings : Settings) (input : Input) (contents : Option Contents) (rows : Rows) (j : DropJob) (known : KnownLogs) (before after : Failing) (r : Result Output NoMemory)
    → Learns p settings j known → IfOk r (WorkerMakes p clock links known input contents rows j.worker before after) → IfOk r (JobMakes p clock links settings input contents rows before after j)
makes_ok p clock links settings input contents rows j known before after (Ok out) knows makes = makes_so p clock links settings input contents rows j known before after out knows makes
makes_ok p clock links settings input contents rows j known before after (Err e) knows makes = tt
