-- The first step of a get.
use Rattle.std.proofs.Common.{◌≡◌, ℕ, Bool, true, false, List, [], ◌∷◌, Option, Some, None, refl, sym, ap, subst, ◌∙◌}
use Rattle.std.specs.Prelude.{◌||◌, IfSome, if◌then◌else◌, length, slice_get}
use Rattle.std.specs.Option.{ForSome}
use Rattle.annex_base.specs.declared.kinds.Call.{Call}
use Rattle.annex_base.specs.declared.kinds.Call.TheVariants as calls
use Rattle.run_data.specs.declared.entry.EntryKind.{EntryKind}
use Rattle.run_data.specs.declared.entry.EntryKind.TheVariants.{Fault, Talk}
use Rattle.run_data.specs.declared.job.Outcome.{Outcome}
use Rattle.run_data.specs.declared.job.Outcome.TheVariants.{Got, TransferRefused}
use Rattle.run_data.specs.declared.job.TransferRefusal.TheVariants as failures
use Rattle.object_store.specs.Calls.{FailsAsTold}
use Rattle.object_store.specs.Stores.{Contents, Parts}
use Rattle.node_model.specs.Jobs
use Rattle.node_model.specs.Jobs.{Drops, Gets, Work, first_look, is_move, partner, to_phase}
use Rattle.node_model.specs.JobStep.{Turn, attempts, by_me, ends, quietly, talk}
use Rattle.node_model.specs.Look.{Effect, failed_in, failing_call}
use Rattle.node_model.specs.TransferStep.{first_get, sources}
use Rattle.node_model.specs.Turns.{goes}
use Rattle.content_lock.specs.Rows.{Rows, bar_at, is_filling}
use Rattle.session_state.specs.Answers.{is_in}
use Rattle.session_state.specs.Talking.{Tells}
use Rattle.session_state.proofs.Calling.{makes_failed, makes_none}
use Rattle.drop_phases.specs.Doing.{next_work}
use Rattle.transfer_turns.specs.declared.parcels.Output.{Output}
use Rattle.transfer_turns.specs.Parcels.{AreNoPieces, SendsView}
use Rattle.transfer_turns.specs.Steps.{LeavesAll, LeavesBut, Makes, Seen, StepsIn, is_end}
use Rattle.transfer_turns.specs.Turns.{ArePartings, Sight, output_of, turn_in}
use Rattle.transfer_turns.proofs.Leavings.{but_none}
use Rattle.transfer_turns.proofs.Partners.{apart_none}
use Rattle.get_phases.specs.declared.getting.Ending.TheVariants as endings
use Rattle.get_phases.specs.declared.getting.Getting.{Getting}
use Rattle.get_phases.specs.declared.getting.Phase.TheVariants as phases
use Rattle.get_phases.specs.Asking.{IsFailing, IsOfAsking}
use Rattle.get_phases.specs.Getting.{Keeps}
use Rattle.get_phases.specs.Gets.{SeesPart, fill_in, phase_of, source_in, sources_in, work_of}
use Rattle.get_phases.proofs.Keeping.{IsPlain, fills_same}
use Rattle.get_phases.proofs.Others.{source_other}
use Rattle.get_requests.specs.Requesting.{Begins, FillsToo, FindsHere, IsEnding, is_open}
use Rattle.get_requests.proofs.Keeping.{ended_kept, fills_too, has_too, keeps}
use Rattle.get_requests.proofs.Stepping.{IsBare, at_phase, ends_made, looks_made, steps_in}
use Rattle.get_requests.proofs.Requests.{IsApproach, apart, approach_kept, approach_made, approach_next, approach_own, goes_kept}

-- a step did this, and left that
abbrev pub Did : Sight → Rows → Rows → Seen → Seen → Getting → Getting → Output → Type 0
Did x rows rows' k k' w w' out = StepsIn x rows k k' (work_of w) (work_of w') None (SeesPart k.parts w.job.key w.phase None) out × Keeps x None rows rows' k k' w w' out

abbrev fresh : Getting → Getting
fresh w = record w { phase = phases.Fresh }

-- it couldn't look
abbrev lookless : Getting → Getting
lookless w = record w { phase = phases.Ends (endings.StoreFault None) }

fresh_failed : (x : Sight) (rows : Rows) (w : Getting) (c : Contents) (part : ℕ) (right : Bool) (rest : Turn) (call : Call) (size : ℕ) → IsOfAsking size call
    → next_work (turn_in x rows c part right (Some call) rest (work_of (fresh w))) (quietly (Fault call (by_me (turn_in x rows c part right (Some call) rest (work_of (fresh w))))) None) ≡ to_phase (work_of (fresh w)) (Jobs.Ends (TransferRefused failures.StoreFault))
fresh_failed x rows w c part right rest calls.PartSize size is = refl
fresh_failed x rows w c part right rest calls.ReadPart size is = refl
fresh_failed x rows w c part right rest call size is = absurd is

fresh_approach : (x : Sight) (rows : Rows) (w : Getting) → IsApproach x rows (fresh w)
fresh_approach x rows w = record { gets = refl; talked = λ c part right rest sent. refl; failed = λ c part right rest call size is. fresh_failed x rows w c part right rest call size is }

pub sources_same : (x : Sight) (t : Turn) (o : Option ℕ) → t.read.repo ≡ x.repo → t.read.count ≡ x.count → sources t o ≡ sources_in x o
sources_same x t (Some peer) repo count = refl
sources_same x t None repo count = λ i. sources_in (record x { repo = repo i; count = count i }) None

-- ---- what it finds

module _ (x : Sight) (rows : Rows) (c : Contents) (part : ℕ) (right : Bool) (rest : Turn) (w : Getting) where
  abbrev turn : Option Call → Turn
  turn fails = turn_in x rows c part right fails rest (work_of (fresh w))

  abbrev looked : Option Call → Bool → Bool → Option ℕ → Effect
  looked fails a b s = attempts (turn fails) (calls.Has ∷ []) None (first_get (turn fails) a b s)

  -- by what it finds
  found_so : (fails : Option Call) (a b : Bool) (s : Option ℕ) → is_in c w.job.key ≡ a → is_filling rows w.job.key ≡ b → source_in x w ≡ s → looked fails a b s ≡ goes (turn fails) Jobs.Fresh
  found_so fails a b s ea eb es =
      λ i. looked fails (sym ea i) (sym eb i) ((sym es ∙ ap (λ (l : List ℕ). slice_get l (length w.causes.items)) (sym (sources_same x (turn fails) w.job.peer refl refl))) i)

  abbrev claiming : Work
  claiming = record (work_of (fresh w)) { fills = true }

  -- it says nothing
  quiet_made : (k m k' : Seen) (v' : Work) (out : Output) (ended : Bool) → out ≡ output_of (Talk (Some w.number)) [] ended → FailsAsTold calls.Has k.failing m.failing false → k'.failing ≡ m.failing
      → v' ≡ first_look x.repo claiming Gets (is_in c w.job.key) (bar_at rows w.job.key)
      → Makes x k k' (work_of (fresh w)) v' None (turn (failed_in out.kind)) (attempts (turn (failed_in out.kind)) (calls.Has ∷ []) None (quietly (talk (turn (failed_in out.kind))) None)) out
  quiet_made k m k' v' out ended is had same next =
      subst (λ (o : Output). Makes x k k' (work_of (fresh w)) v' None (turn (failed_in o.kind)) (attempts (turn (failed_in o.kind)) (calls.Has ∷ []) None (quietly (talk (turn (failed_in o.kind))) None)) o) (sym is)
      (looks_made x rows c part right rest (fresh w) k m k' v' (quietly (talk (turn None)) None) (output_of (Talk (Some w.number)) [] ended) refl had
      (record { effect = refl; next = λ e. next; calls = makes_none m.failing k'.failing same }))

  -- the drop of a move begins
  moves : is_in c w.job.key ≡ true → is_move w.job.kind ≡ true → work_of (record w { phase = phases.Done }) ≡ first_look x.repo claiming Gets (is_in c w.job.key) (bar_at rows w.job.key)
  moves here move =
      sym (ap (λ (b : Bool). first_look x.repo claiming Gets b (bar_at rows w.job.key)) here
      ∙ ap (λ (b : Bool). if b then record claiming { part = Drops; phase = Jobs.Fresh; fills = false } else record claiming { phase = Jobs.Ends (Got None None); fills = false }) move)

  -- it goes on without a peer
  lacks : is_in c w.job.key ≡ false → work_of (record w { phase = phases.Next w.job.key }) ≡ first_look x.repo claiming Gets (is_in c w.job.key) (bar_at rows w.job.key)
  lacks here = sym (ap (λ (b : Bool). first_look x.repo claiming Gets b (bar_at rows w.job.key)) here)

  -- it ends
  end_looked : (k k' : Seen) (v' : Work) (outcome : Outcome) (out : Output) → IsEnding x w.number w.slot outcome out → IsBare rows w → FailsAsTold calls.Has k.failing k'.failing false
      → Makes x k k' (work_of (fresh w)) v' None (turn (failed_in out.kind)) (attempts (turn (failed_in out.kind)) (calls.Has ∷ []) None (ends (turn (failed_in out.kind)) None outcome)) out
  end_looked k k' v' outcome out is own had =
      looks_made x rows c part right rest (fresh w) k k' k' v' (ends (turn (failed_in out.kind)) None outcome) out (ap (λ (kind : EntryKind). failing_call (failed_in kind) (calls.Has ∷ [])) is.kind) had
      (ends_made x rows c part right rest (fresh w) k' k' v' outcome out is own refl)

  -- it approaches its first peer, if there is one
  begins_made : (k m k' : Seen) (w' : Getting) (out : Output) (s : Option ℕ) → is_in c w.job.key ≡ false → Begins x s m k' (fresh w) w' out → FailsAsTold calls.Has k.failing m.failing false → Tells m.parts (λ p. part ≡ length (p w.job.key))
      → Makes x k k' (work_of (fresh w)) (work_of w') None (turn (failed_in out.kind)) (looked (failed_in out.kind) false false s) out
  begins_made k m k' w' out None here g had tells =
      subst (λ (u : Getting). Makes x k k' (work_of (fresh w)) (work_of u) None (turn (failed_in out.kind)) (looked (failed_in out.kind) false false None) out) (sym g.next)
      (quiet_made k m k' (work_of (record w { phase = phases.Next w.job.key })) out false g.talk had g.leaves.failing (lacks here))
  begins_made k m k' w' out (Some peer) here a had tells =
      looks_made x rows c part right rest (fresh w) k m k' (work_of w') _ out (apart (is_open x (fresh w) peer) peer part m k' (fresh w) w' out a tells) had
      (approach_made x rows c part right rest (fresh w) (fresh_approach x rows w) m k' peer w' out a tells)

-- ---- the content is there

module _ (x : Sight) (rows : Rows) (k k' : Seen) (w : Getting) (own : IsBare rows w) (had : FailsAsTold calls.Has k.failing k'.failing false) (l : LeavesAll k k') where
  finds_by : (m : Bool) (parting : SendsView) (w' : Getting) (out : Output) → is_move w.job.kind ≡ m → ArePartings x w.slot parting.items → FindsHere m parting (fresh w) w' out
      → ForSome k.contents (λ c. true ≡ is_in c w.job.key) → Did x rows rows k k' (fresh w) w' out
  finds_by true parting w' out move parts is here =
      subst (λ (u : Getting). Did x rows rows k k' (fresh w) u out) (sym is.1) (
        steps_in x rows k k' (fresh w) (work_of (record w { phase = phases.Done })) out refl (λ c told part right rest tells.
            subst (λ (e : Effect). Makes x k k' (work_of (fresh w)) (work_of (record w { phase = phases.Done })) None (turn_in x rows c part right (failed_in out.kind) rest (work_of (fresh w))) e out)
            (ap (λ (b : Bool). attempts (turn_in x rows c part right (failed_in out.kind) rest (work_of (fresh w))) (calls.Has ∷ []) None (if b then quietly (talk (turn_in x rows c part right (failed_in out.kind) rest (work_of (fresh w)))) None else ends (turn_in x rows c part right (failed_in out.kind) rest (work_of (fresh w))) None (Got None None))) (sym move)
            ∙ found_so x rows c part right rest w (failed_in out.kind) true (is_filling rows w.job.key) (source_in x w) (sym (here c told)) refl refl)
            (quiet_made x rows c part right rest w k k' k' (work_of (record w { phase = phases.Done })) out true is.0 had refl (moves x rows c part right rest w (sym (here c told)) move))),
        keeps x rows rows k k' (fresh w) (record w { phase = phases.Done }) out (subst (λ (o : Output). IsPlain w.number o.kind) (sym is.0) refl) refl refl refl refl refl
            (fills_same (fresh w) (record w { phase = phases.Done }) rows tt refl refl)
            (subst (λ (o : Output). LeavesBut (failed_in o.kind) k k') (sym is.0) (but_none k k' l)) tt (λ p told _. tt) (subst (λ (o : Output). o.ended ≡ (is_end o.kind || true)) (sym is.0) refl)
            (subst (λ (o : Output). AreNoPieces o.sends.items) (sym is.0) tt) (λ named was. tt) (λ stays was. sym move ∙ stays),
      )
  finds_by false parting w' out move parts is here =
      subst (λ (u : Getting). Did x rows rows k k' (fresh w) u out) (sym is.1) (
        steps_in x rows k k' (fresh w) (work_of (fresh w)) out refl (λ c told part right rest tells.
            subst (λ (e : Effect). Makes x k k' (work_of (fresh w)) (work_of (fresh w)) None (turn_in x rows c part right (failed_in out.kind) rest (work_of (fresh w))) e out)
            (ap (λ (b : Bool). attempts (turn_in x rows c part right (failed_in out.kind) rest (work_of (fresh w))) (calls.Has ∷ []) None (if b then quietly (talk (turn_in x rows c part right (failed_in out.kind) rest (work_of (fresh w)))) None else ends (turn_in x rows c part right (failed_in out.kind) rest (work_of (fresh w))) None (Got None None))) (sym move)
            ∙ found_so x rows c part right rest w (failed_in out.kind) true (is_filling rows w.job.key) (source_in x w) (sym (here c told)) refl refl)
            (end_looked x rows c part right rest w k k' (work_of (fresh w)) (Got None None) out ending own had)),
        ended_kept x rows k k' (fresh w) (fresh w) (Got None None) out ending refl refl refl refl l tt,
      )
    where
      ending : IsEnding x w.number w.slot (Got None None) out
      ending = subst (λ (o : Output). IsEnding x w.number w.slot (Got None None) o) (sym is.0) (record { kind = refl; sends = parts; ended = refl })

-- ---- as the first step of a get

pub begin_found : (x : Sight) (rows : Rows) (k k' : Seen) (w w' : Getting) (parting : SendsView) (out : Output) → w.phase ≡ phases.Fresh → IsBare rows w → FailsAsTold calls.Has k.failing k'.failing false → LeavesAll k k'
    → ArePartings x w.slot parting.items → FindsHere (is_move w.job.kind) parting w w' out → ForSome k.contents (λ c. true ≡ is_in c w.job.key) → Did x rows rows k k' w w' out
begin_found x rows k k' w w' parting out at own had l parts is here =
    at_phase w phases.Fresh (λ u. FindsHere (is_move u.job.kind) parting u w' out → Did x rows rows k k' u w' out) at (λ found. finds_by x rows k k' w own had l (is_move w.job.kind) parting w' out refl parts found here) is

-- another fills the key
pub begin_busy : (x : Sight) (rows : Rows) (k k' : Seen) (w : Getting) (out : Output) → w.phase ≡ phases.Fresh → IsBare rows w → FailsAsTold calls.Has k.failing k'.failing false → LeavesAll k k' → IsEnding x w.number w.slot (TransferRefused failures.Busy) out
    → ForSome k.contents (λ c. false ≡ is_in c w.job.key) → is_filling rows w.job.key ≡ true → Did x rows rows k k' w w out
begin_busy x rows k k' w out at own had l is absent busy =
    at_phase w phases.Fresh (λ u. Did x rows rows k k' u u out) at (
      steps_in x rows k k' (fresh w) (work_of (fresh w)) out refl (λ c told part right rest tells.
          subst (λ (e : Effect). Makes x k k' (work_of (fresh w)) (work_of (fresh w)) None (turn_in x rows c part right (failed_in out.kind) rest (work_of (fresh w))) e out)
          (found_so x rows c part right rest w (failed_in out.kind) false true (source_in x w) (sym (absent c told)) busy refl)
          (end_looked x rows c part right rest w k k' (work_of (fresh w)) (TransferRefused failures.Busy) out is own had)),
      ended_kept x rows k k' (fresh w) (fresh w) (TransferRefused failures.Busy) out is refl refl refl refl l tt,
    )

-- it couldn't look
pub begin_failed : (x : Sight) (rows : Rows) (k k' : Seen) (w w' : Getting) (out : Output) → w.phase ≡ phases.Fresh → FailsAsTold calls.Has k.failing k'.failing true → LeavesBut (Some calls.Has) k k' → IsFailing w.number calls.Has out
    → w' ≡ record w { phase = phases.Ends (endings.StoreFault None) } → Did x rows rows k k' w w' out
begin_failed x rows k k' w w' out at had l is next =
    subst (λ (u : Getting). Did x rows rows k k' w u out) (sym next) (
    at_phase w phases.Fresh (λ u. Did x rows rows k k' u (record u { phase = phases.Ends (endings.StoreFault None) }) out) at (
      steps_in x rows k k' (fresh w) (work_of (lookless w)) out refl (λ c told part right rest tells.
          subst (λ (o : Output). Makes x k k' (work_of (fresh w)) (work_of (lookless w)) None (turn_in x rows c part right (failed_in o.kind) rest (work_of (fresh w))) (goes (turn_in x rows c part right (failed_in o.kind) rest (work_of (fresh w))) Jobs.Fresh) o)
          (sym is)
          (record { effect = refl; next = λ e. refl; calls = makes_failed calls.Has _ k.failing k'.failing had })),
      keeps x rows rows k k' (fresh w) (lookless w) out (subst (λ (o : Output). IsPlain w.number o.kind) (sym is) refl) refl refl refl refl refl (fills_same (fresh w) (lookless w) rows tt refl refl)
          (subst (λ (o : Output). LeavesBut (failed_in o.kind) k k') (sym is) l) tt (λ p told _. tt) (ap (λ (o : Output). o.ended) is ∙ sym (ap (λ (o : Output). is_end o.kind || false) is))
          (subst (λ (o : Output). AreNoPieces o.sends.items) (sym is) tt) (λ named was. tt) (λ stays was. refl),
    ))

-- it fills the key from now on
pub begin_claimed : (x : Sight) (rows rows' : Rows) (k m k' : Seen) (w w' : Getting) (out : Output) → w.phase ≡ phases.Fresh → is_filling rows w.job.key ≡ false → FailsAsTold calls.Has k.failing m.failing false → LeavesAll k m
    → ForSome k.contents (λ c. false ≡ is_in c w.job.key) → Begins x (source_in x w) m k' w w' out → FillsToo w' rows rows' → Did x rows rows' k k' w w' out
begin_claimed x rows rows' k m k' w w' out at free had l absent begins too =
    at_phase w phases.Fresh (λ u. Begins x (source_in x u) m k' u w' out → Did x rows rows' k k' u w' out) at (λ g. (
      steps_in x rows k k' (fresh w) (work_of w') out refl (λ c told part right rest tells.
          subst (λ (e : Effect). Makes x k k' (work_of (fresh w)) (work_of w') None (turn_in x rows c part right (failed_in out.kind) rest (work_of (fresh w))) e out)
          (found_so x rows c part right rest w (failed_in out.kind) false false (source_in x w) (sym (absent c told)) free refl)
          (begins_made x rows c part right rest w k m k' w' out (source_in x w) (sym (absent c told)) g had (subst (λ (o : Option Parts). Tells o (λ p. part ≡ length (p w.job.key))) (sym l.parts) tells))),
      kept (source_in x w) refl g,
    )) begins
  where
    kept : (s : Option ℕ) → source_in x w ≡ s → Begins x s m k' (fresh w) w' out → Keeps x None rows rows' k k' (fresh w) w' out
    kept None source g =
        goes_kept x [] (phases.Next w.job.key) rows rows' k m k' (fresh w) w' out refl (λ p. tt) tt g l too.holds too.bars (fills_too (fresh w) w' rows rows' refl (λ i. (g.next i).job) free too)
        (has_too w' rows rows' (subst (λ (u : Getting). IfSome (fill_in u.phase) (λ (key : List ℕ). key ≡ u.job.key)) (sym g.next) refl) too)
        (apart_none x (work_of (fresh w)) (work_of w') (λ i. partner (g.next i).job.peer (phase_of (g.next i).phase)))
    kept (Some peer) source a =
        let e = approach_next (is_open x (fresh w) peer) peer m k' (fresh w) w' out a in
        approach_kept x (is_open x (fresh w) peer) peer rows rows' k m k' (fresh w) w' out a l too.holds too.bars (fills_too (fresh w) w' rows rows' refl (λ i. (e i).job) free too)
        (has_too w' rows rows' (approach_own (is_open x (fresh w) peer) peer m k' (fresh w) w' out tt a) too) (source_other x w.job.peer (length w.causes.items) peer source)
