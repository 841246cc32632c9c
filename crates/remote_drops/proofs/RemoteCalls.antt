-- The calls of a remote drop's steps that take no frame.
use Rattle.std.proofs.Common.{◌≡◌, ℕ, Bool, true, false, List, [], ◌∷◌, Option, Some, None, Result, Ok, Err, refl, sym, ap, ◌∙◌}
use Rattle.std.specs.Prelude.{IfOk, ◌&&◌, find, not}
use Rattle.std.specs.Option.{option_map}
use Rattle.std.proofs.lemmas.List.{append-nil}
use Rattle.annex_base.specs.declared.kinds.Call.{Call}
use Rattle.annex_base.specs.declared.kinds.Call.TheVariants as calls
use Rattle.annex_base.specs.declared.memory.NoMemory.{NoMemory}
use Rattle.drop_proof.specs.declared.evidence.Evidence.{Evidence}
use Rattle.drop_proof.specs.declared.rule.Need.{Need}
use Rattle.drop_proof.specs.declared.rule.Side.TheVariants.{Remote}
use Rattle.drop_proof.specs.Judging.{is_enough}
use Rattle.run_data.specs.declared.job.DropRefusal.TheVariants as refusals
use Rattle.run_data.specs.declared.job.Outcome.{Outcome}
use Rattle.run_data.specs.declared.job.Outcome.TheVariants.{Refused}
use Rattle.object_store.specs.Calls.{FailsAsTold, one_fewer}
use Rattle.object_store.specs.Stores.{Contents}
use Rattle.node_model.specs.Calls.{to_hold, to_release}
use Rattle.node_model.specs.DropStep.{first_drop, first_remote, lacking_outcome, tries_own}
use Rattle.node_model.specs.Evidence.{Asked, Standing}
use Rattle.node_model.specs.Jobs.{Drops, drop_side}
use Rattle.node_model.specs.JobStep.{Turn, ends}
use Rattle.node_model.specs.Look.{Effect, failed_in}
use Rattle.node_model.specs.Requests.{goes_to}
use Rattle.node_model.specs.Rows.{is_lost_ordered}
use Rattle.node_model.specs.Turns.{goes, next_step, outcome_of}
use Rattle.content_lock.specs.Looks.{LooksSo, NotShared}
use Rattle.content_lock.specs.Rows.{Rows, bar_at}
use Rattle.content_lock.specs.Stored.{HasContent}
use Rattle.content_lock.specs.Turns.{FailInTurn, share_turns}
use Rattle.content_lock.specs.declared.refusals.Look.TheVariants as looks
use Rattle.content_lock.specs.declared.refusals.ShareRefused.{ShareRefused}
use Rattle.content_lock.specs.declared.refusals.ShareRefused.TheVariants as refused
use Rattle.drop_phases.specs.declared.phase.Phase.{Phase}
use Rattle.drop_phases.specs.declared.phase.Phase.TheVariants as phases
use Rattle.drop_phases.specs.declared.turn.Output.{Output}
use Rattle.drop_phases.specs.Calling.{Failing, MakesEnd, MakesPhase, has_open}
use Rattle.content_lock.specs.CallsMade.{MakesCalls}
use Rattle.drop_judging.specs.Judging.{asks_of}
use Rattle.remote_requests.specs.Remote.{IsRemote, FollowsShareRefused, known_remotely, remote_candidates}
use Rattle.drop_phases.specs.Begun.{IsToEnd}
use Rattle.drop_phases.specs.Worker.{Worker}
use Rattle.drop_phases.specs.Working.{Rest, Sight, phase_as, present_in, turn_in}
use Rattle.drop_phases.proofs.Callings.{ends_calls, first_told, left_as, makes_as, makes_failed, makes_last, makes_then, over_is, over_none, unfailed}
use Rattle.drop_phases.proofs.FrameCalls.{opening_none}
use Rattle.remote_requests.proofs.RemoteVerdicts.{asks_next, lacks_next, orders_by}
use Rattle.remote_drops.proofs.RemoteGoings.{ending_goes, required_goes}

-- ---- an end

-- the end is where the job goes on from
pub end_makes : (x : Sight) (known : Option Contents) (rows : Rows) (w : Worker) (before after : Failing) (outcome : Outcome) (r : Result Output NoMemory)
    → ((p : List ℕ → Bool) (fails : Option Call) (rest : Rest) → ends (turn_in x rows p fails rest w) None outcome ≡ goes (turn_in x rows p fails rest w) (phase_as w.phase))
    → MakesEnd rows w outcome before after r → MakesPhase x known rows w before after r
end_makes x known rows w before after outcome (Ok out) same m = (
  m.left,
  λ c told rest. let t = turn_in x rows (present_in c) (failed_in out.kind) rest w in
      makes_as (goes t (phase_as w.phase)).calls (to_release (has_open rows w && not (is_lost_ordered outcome))) (failed_in out.kind) (failed_in out.kind) before after
      (ap (λ (e : Effect). e.calls) (sym (same (present_in c) (failed_in out.kind) rest)) ∙ ends_calls t None outcome) refl m,
)
end_makes x known rows w before after outcome (Err e) same m = m

pub outcome_makes : (x : Sight) (known : Option Contents) (rows : Rows) (w : Worker) (before after : Failing) (outcome : Outcome) (r : Result Output NoMemory) → IsToEnd w.phase
    → ((p : List ℕ → Bool) (fails : Option Call) (rest : Rest) → outcome ≡ outcome_of (turn_in x rows p fails rest w) (phase_as w.phase))
    → MakesEnd rows w outcome before after r → MakesPhase x known rows w before after r
outcome_makes x known rows w before after outcome r to is m =
    end_makes x known rows w before after outcome r
    (λ p fails rest. ap (ends (turn_in x rows p fails rest w) None) (is p fails rest) ∙ ending_goes (turn_in x rows p fails rest w) w.phase to) m

-- its target requires the content
pub required_makes : (x : Sight) (known : Option Contents) (rows : Rows) (w : Worker) (before after : Failing) (target : ℕ) (text : List ℕ) (r : Result Output NoMemory) → IsRemote target w → w.phase ≡ phases.Fresh → x.read.requires ≡ Some text
    → MakesEnd rows w (Refused (refusals.Required text)) before after r → MakesPhase x known rows w before after r
required_makes x known rows w before after target text r remote fresh needs m =
    end_makes x known rows w before after (Refused (refusals.Required text)) r (λ p fails rest. required_goes x rows p fails rest w target text remote fresh needs) m

-- ---- its own share

hold_failed : (here : Bool) (bar : Option ℕ) (before after : Failing) → FailsAsTold calls.Has before after true → MakesCalls (to_hold here bar) (Some calls.Has) before after
hold_failed true None before after it = makes_failed calls.Has (calls.Hold ∷ []) before after it
hold_failed true (Some job) before after it = makes_failed calls.Has [] before after it
hold_failed false bar before after it = makes_failed calls.Has [] before after it

-- the look alone, which didn't fail
look_only : (before after : Failing) → FailInTurn ((calls.Has, false) ∷ []) before after → MakesCalls (calls.Has ∷ []) None before after
look_only before after it = makes_last calls.Has before after (record { told = it.0; count = it.1 })

module _ (x : Sight) (known : Option Contents) (rows : Rows) (w : Worker) (before after : Failing) (remote : drop_side w.job.kind w.job.peer ≡ Remote) (fresh : w.phase ≡ phases.Fresh)
    (spared : x.read.requires ≡ None) where
  own_made : (s : Standing) → x.read.standing x.read.repo ≡ s → (p : List ℕ → Bool) (fails : Option Call) (rest : Rest)
      → (goes (turn_in x rows p fails rest w) (phase_as w.phase)).calls ≡ (tries_own (turn_in x rows p fails rest w) s).calls
  own_made s is p fails rest =
      let t = turn_in x rows p fails rest w in
      ap (λ (e : Effect). e.calls) (ap (λ (ph : Phase). goes t (phase_as ph)) fresh ∙ (ap (first_drop t) remote ∙ (ap (first_remote t) spared ∙ ap (tries_own t) is)))

  -- it isn't asked
  pub skipped_makes : (s : Standing) (r : Result Output NoMemory) → ((t : Turn) → (tries_own t s).calls ≡ []) → x.read.standing x.read.repo ≡ s → IfOk r (λ out. failed_in out.kind ≡ None) → MakesPhase x known rows w before before r
  skipped_makes s r none is well = over_none x known rows w (λ t. goes t t.w.phase) before r well (λ p fails rest. own_made s is p fails rest ∙ none (turn_in x rows p fails rest w))

  module _ (asked : x.read.standing x.read.repo ≡ Asked) where
    own_looks : (p : List ℕ → Bool) (fails : Option Call) (rest : Rest) → (goes (turn_in x rows p fails rest w) (phase_as w.phase)).calls ≡ to_hold (p w.job.key) (bar_at rows w.job.key)
    own_looks p fails rest = own_made Asked asked p fails rest ∙ append-nil (to_hold (p w.job.key) (bar_at rows w.job.key))

    hold_is : (here : Bool) (bar : Option ℕ) → HasContent known w.job.key here → bar_at rows w.job.key ≡ bar → (c : Contents) → known ≡ Some c → (fails : Option Call) (rest : Rest)
        → (goes (turn_in x rows (present_in c) fails rest w) (phase_as w.phase)).calls ≡ to_hold here bar
    hold_is here bar has is c told fails rest = own_looks (present_in c) fails rest ∙ (λ i. to_hold (has c told i) (is i))

    pub shared_makes : (out : Output) → LooksSo looks.Present (HasContent known w.job.key) (bar_at rows w.job.key) → failed_in out.kind ≡ None → FailInTurn ((calls.Has, false) ∷ (calls.Hold, false) ∷ []) before after
        → MakesPhase x known rows w before after (Ok out)
    shared_makes out free well it =
        over_is x known rows w (λ t. goes t t.w.phase) (calls.Has ∷ calls.Hold ∷ []) None before after out (λ c told rest. hold_is true None free.0 free.1 c told (failed_in out.kind) rest) well
        (makes_then calls.Has (calls.Hold ∷ []) None before (option_map (one_fewer calls.Has) before) after (first_told calls.Has false ((calls.Hold, false) ∷ []) before after it)
        (makes_last calls.Hold (option_map (one_fewer calls.Has) before) after (record { told = it.1.0; count = it.1.1 })))

    pub unshared_makes : (v w' : Worker) (bar : Option ℕ) (why : ShareRefused) (r : Result Output NoMemory) → NotShared why (HasContent known w.job.key) (bar_at rows w.job.key) → FollowsShareRefused bar why v w' r
        → FailInTurn (share_turns {T = Unit {0}} (Err why)) before after → MakesPhase x known rows w before after r
    unshared_makes v w' bar refused.Absent (Ok out) found is it =
        over_is x known rows w (λ t. goes t t.w.phase) (calls.Has ∷ []) None before after out (λ c told rest. hold_is false (bar_at rows w.job.key) found refl c told (failed_in out.kind) rest) (ap failed_in is.0.made) (look_only before after it)
    unshared_makes v w' bar refused.Absent (Err e) found is it = absurd is.1
    unshared_makes v w' bar (refused.Barred job) (Ok out) found is it =
        over_is x known rows w (λ t. goes t t.w.phase) (calls.Has ∷ []) None before after out (λ c told rest. hold_is true (Some job) found.0 found.1 c told (failed_in out.kind) rest) (ap failed_in is.0.made) (look_only before after it)
    unshared_makes v w' bar (refused.Barred job) (Err e) found is it = absurd is.1
    unshared_makes v w' bar (refused.StoreFault calls.Has) (Ok out) found is it = (
      left_as (calls.Has ∷ []) (Some calls.Has) (failed_in out.kind) before after (ap failed_in is.0.made) (makes_failed calls.Has [] before after (record { told = it.0; count = it.1 })),
      λ c told rest.
          makes_as (goes (turn_in x rows (present_in c) (failed_in out.kind) rest w) (phase_as w.phase)).calls (to_hold (present_in c w.job.key) (bar_at rows w.job.key)) (failed_in out.kind) (Some calls.Has) before after
          (own_looks (present_in c) (failed_in out.kind) rest) (ap failed_in is.0.made) (hold_failed (present_in c w.job.key) (bar_at rows w.job.key) before after (record { told = it.0; count = it.1 })),
    )
    unshared_makes v w' bar (refused.StoreFault calls.Has) (Err e) found is it = absurd is.1
    unshared_makes v w' bar (refused.StoreFault calls.Hold) (Ok out) found is it =
        over_is x known rows w (λ t. goes t t.w.phase) (calls.Has ∷ calls.Hold ∷ []) (Some calls.Hold) before after out (λ c told rest. hold_is true None found.0 found.1 c told (failed_in out.kind) rest) (ap failed_in is.0.made)
        (makes_then calls.Has (calls.Hold ∷ []) (Some calls.Hold) before (option_map (one_fewer calls.Has) before) after (first_told calls.Has false ((calls.Hold, true) ∷ []) before after it)
        (makes_failed calls.Hold [] (option_map (one_fewer calls.Has) before) after (record { told = it.1.0; count = it.1.1 })))
    unshared_makes v w' bar (refused.StoreFault calls.Hold) (Err e) found is it = absurd is.1
    unshared_makes v w' bar (refused.StoreFault calls.Size) r found is it = absurd found
    unshared_makes v w' bar (refused.StoreFault calls.Read) r found is it = absurd found
    unshared_makes v w' bar (refused.StoreFault calls.PartSize) r found is it = absurd found
    unshared_makes v w' bar (refused.StoreFault calls.ReadPart) r found is it = absurd found
    unshared_makes v w' bar (refused.StoreFault calls.Append) r found is it = absurd found
    unshared_makes v w' bar (refused.StoreFault calls.Commit) r found is it = absurd found
    unshared_makes v w' bar (refused.StoreFault calls.DropPart) r found is it = absurd found
    unshared_makes v w' bar (refused.StoreFault calls.Remove) r found is it = absurd found
    unshared_makes v w' bar (refused.StoreFault calls.Unhold) r found is it = absurd found
    unshared_makes v w' bar (refused.StoreFault calls.Holds) r found is it = absurd found
    unshared_makes v w' bar (refused.StoreFault calls.PutFile) r found is it = absurd found
    unshared_makes v w' bar (refused.StoreFault calls.File) r found is it = absurd found
    unshared_makes v w' bar refused.NoMemory (Ok out) found is it = absurd is.0
    unshared_makes v w' bar refused.NoMemory (Err e) found is it = unfailed calls.Has before after (record { told = it.0; count = it.1 })

-- ---- by the judgement

module _ (x : Sight) (known : Option Contents) (rows : Rows) (w : Worker) (before after : Failing) (target : ℕ) (remote : IsRemote target w) (at : w.phase ≡ phases.Next) (need : Need) (items : List Evidence) (needs : need ≡ x.read.need)
    (is : items ≡ known_remotely x.read target w) where
  abbrev turn : (List ℕ → Bool) → Option Call → Rest → Turn
  turn p fails rest = turn_in x rows p fails rest w

  next_made : (t : Turn) → goes t (phase_as phases.Next) ≡ goes t (phase_as w.phase)
  next_made t = ap (λ (ph : Phase). goes t (phase_as ph)) (sym at)

  -- a request makes none
  asked_none : (peer : ℕ) (r : Result Output NoMemory) → ((p : List ℕ → Bool) (fails : Option Call) (rest : Rest) → goes_to (turn p fails rest) peer ≡ next_step (turn p fails rest) Drops) → IfOk r (λ out. failed_in out.kind ≡ None)
      → MakesPhase x known rows w before before r
  asked_none peer r is_next well =
      over_none x known rows w (λ t. goes t t.w.phase) before r well (λ p fails rest. let t = turn p fails rest in ap (λ (e : Effect). e.calls) (sym (is_next p fails rest ∙ next_made t)) ∙ opening_none t peer refl)

  pub orders_makes : (r : Result Output NoMemory) → is_enough Remote need items ≡ true → IfOk r (λ out. failed_in out.kind ≡ None) → MakesPhase x known rows w before before r
  orders_makes r enough well = asked_none target r (λ p fails rest. orders_by x rows p fails rest w need items target remote needs is enough) well

  pub asks_makes : (peer : ℕ) (r : Result Output NoMemory) → is_enough Remote need items ≡ false → find (asks_of x.read w) (remote_candidates x.read target) ≡ Some peer → IfOk r (λ out. failed_in out.kind ≡ None)
      → MakesPhase x known rows w before before r
  asks_makes peer r lacks found well = asked_none peer r (λ p fails rest. asks_next x rows p fails rest w need items target remote needs is peer lacks found) well

  pub lacks_makes : (outcome : Outcome) (r : Result Output NoMemory) → is_enough Remote need items ≡ false → find (asks_of x.read w) (remote_candidates x.read target) ≡ None
      → ((p : List ℕ → Bool) (fails : Option Call) (rest : Rest) → outcome ≡ lacking_outcome (turn p fails rest)) → MakesEnd rows w outcome before after r → MakesPhase x known rows w before after r
  lacks_makes outcome r lacks none told m =
      end_makes x known rows w before after outcome r
      (λ p fails rest. ap (ends (turn p fails rest) None) (told p fails rest)
      ∙ (lacks_next x rows p fails rest w need items target remote needs is lacks none ∙ next_made (turn p fails rest))) m
