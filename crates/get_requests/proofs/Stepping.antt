-- The step of a get that awaits no frame: what it makes is what goes on from where it stands.
use Rattle.std.proofs.Common.{◌≡◌, ℕ, Bool, false, List, [], ◌∷◌, Option, Some, None, refl, sym, ap, subst, ◌∙◌}
use Rattle.std.specs.Prelude.{length}
use Rattle.annex_base.specs.declared.kinds.Call.{Call}
use Rattle.run_data.specs.declared.entry.EntryKind.TheVariants.{Fault}
use Rattle.run_data.specs.declared.job.Outcome.{Outcome}
use Rattle.object_store.specs.Calls.{FailsAsTold}
use Rattle.object_store.specs.Stores.{Contents, Parts}
use Rattle.annex_base.specs.declared.kinds.Call.TheVariants as calls
use Rattle.node_model.specs.Jobs.{Work, partner}
use Rattle.node_model.specs.JobStep.{Turn, attempts, by_me, ends, quietly, owns_share}
use Rattle.node_model.specs.Look.{Effect, failed_in, failing_call, unless}
use Rattle.node_model.specs.Turns.{goes}
use Rattle.content_lock.specs.CallsMade.{MakesCalls}
use Rattle.content_lock.specs.Rows.{Rows}
use Rattle.drop_phases.specs.Doing.{HasToken}
use Rattle.drop_phases.specs.declared.phase.Token.TheVariants as tokens
use Rattle.session_state.specs.Talking.{Tells}
use Rattle.session_state.proofs.Calling.{makes_first, makes_none}
use Rattle.transfer_turns.specs.declared.parcels.Output.{Output}
use Rattle.transfer_turns.specs.Steps.{Makes, Seen, StepsIn}
use Rattle.transfer_turns.proofs.Makings.{end_calls, end_makes, no_share, steps_alone}
use Rattle.transfer_turns.specs.Turns.{Sight, awaited, goes_on_with, turn_in}
use Rattle.get_phases.specs.declared.getting.Getting.{Getting}
use Rattle.get_phases.specs.declared.getting.Phase.{Phase}
use Rattle.get_phases.specs.declared.getting.Phase.TheVariants as phases
use Rattle.get_phases.specs.Gets.{SeesPart, phase_of, work_of}
use Rattle.get_phases.proofs.Losses.{awaits_partner}
use Rattle.get_requests.specs.Requesting.{IsEnding}

-- ---- from where it stands

sees_size : (known : Option Parts) (key : List ℕ) (ph : Phase) (part : ℕ) (right : Bool) → SeesPart known key ph None part right → Tells known (λ p. part ≡ length (p key))
sees_size known key (phases.Word peer start taken) part right sees = sees
sees_size known key ph part right sees = sees

-- in each turn of which the part's size is told
abbrev pub Goes : Sight → Rows → Seen → Seen → Getting → Work → Output → Type 0
Goes x rows k k' w v' out =
    (c : Contents) → k.contents ≡ Some c → (part : ℕ) (right : Bool) (rest : Turn) → Tells k.parts (λ p. part ≡ length (p w.job.key))
    → Makes x k k' (work_of w) v' None (turn_in x rows c part right (failed_in out.kind) rest (work_of w)) (goes (turn_in x rows c part right (failed_in out.kind) rest (work_of w)) (phase_of w.phase)) out

pub steps_in : (x : Sight) (rows : Rows) (k k' : Seen) (w : Getting) (v' : Work) (out : Output) → awaited (work_of w) ≡ None → Goes x rows k k' w v' out → StepsIn x rows k k' (work_of w) v' None (SeesPart k.parts w.job.key w.phase None) out
steps_in x rows k k' w v' out awaits made =
    steps_alone x rows k k' (work_of w) v' (SeesPart k.parts w.job.key w.phase None) out awaits (λ c told part right rest sees.
    let t = turn_in x rows c part right (failed_in out.kind) rest (work_of w) in
    subst (λ (m : Effect). Makes x k k' (work_of w) v' None t m out) (ap (goes_on_with t) (sym apart)) (made c told part right rest (sees_size k.parts w.job.key w.phase part right sees)))
  where
    apart : partner w.job.peer (phase_of w.phase) ≡ None
    apart = sym (awaits_partner w w.phase) ∙ awaits

-- of a get that stands so
pub at_phase : (w : Getting) (ph : Phase) (P : Getting → Type 0) → w.phase ≡ ph → P (record w { phase = ph }) → P w
at_phase w ph P at p = subst (λ (q : Phase). P (record w { phase = q })) (sym at) p

-- a job that has nothing of its row
abbrev pub IsBare : Rows → Getting → Type 0
IsBare rows w = HasToken w.number w.job.key tokens.Nothing rows

-- ---- an end

module _ (x : Sight) (rows : Rows) (c : Contents) (part : ℕ) (right : Bool) (rest : Turn) (w : Getting) where
  abbrev turn : Option Call → Turn
  turn fails = turn_in x rows c part right fails rest (work_of w)

  pub ends_made : (k k' : Seen) (v' : Work) (outcome : Outcome) (out : Output) → IsEnding x w.number w.slot outcome out → IsBare rows w → k'.failing ≡ k.failing
      → Makes x k k' (work_of w) v' None (turn (failed_in out.kind)) (ends (turn (failed_in out.kind)) None outcome) out
  ends_made k k' v' outcome out is own same =
      let t = turn None in
      let bare : owns_share t ≡ false = no_share t rows refl own in
      subst (λ (o : Output). Makes x k k' (work_of w) v' None (turn (failed_in o.kind)) (ends (turn (failed_in o.kind)) None outcome) o) (λ i. record { kind = sym is.kind i; sends = out.sends; ended = sym is.ended i })
      (end_makes t k k' v' (ends t None outcome) outcome out.sends bare refl is.sends.frames refl (subst (λ (l : List Call). MakesCalls l None k.failing k'.failing) (sym (end_calls t outcome bare)) (makes_none k.failing k'.failing same)))

  -- ---- the call by which it looks whether the content is there

  looks : (fails : Option Call) (m : Effect) → failing_call fails (calls.Has ∷ []) ≡ None → attempts (turn fails) (calls.Has ∷ []) None m ≡ record m { calls = calls.Has ∷ m.calls }
  looks fails m well = λ i. record (unless (well i) (λ call. quietly (Fault call (by_me (turn fails))) None) m) { calls = calls.Has ∷ m.calls }

  -- it went well, and then this is made
  pub looks_made : (k m k' : Seen) (v' : Work) (asked : Effect) (out : Output) → failing_call (failed_in out.kind) (calls.Has ∷ []) ≡ None → FailsAsTold calls.Has k.failing m.failing false
      → Makes x m k' (work_of w) v' None (turn (failed_in out.kind)) asked out → Makes x k k' (work_of w) v' None (turn (failed_in out.kind)) (attempts (turn (failed_in out.kind)) (calls.Has ∷ []) None asked) out
  looks_made k m k' v' asked out well had made =
      subst (λ (e : Effect). Makes x k k' (work_of w) v' None (turn (failed_in out.kind)) e out) (sym (looks (failed_in out.kind) asked well)) (record {
        effect = made.effect;
        next = made.next;
        calls = makes_first calls.Has asked.calls (failed_in out.kind) k.failing m.failing k'.failing had made.calls;
      })
