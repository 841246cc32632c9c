-- To whom the next step of a transfer may send more than a Close.
use Rattle.std.proofs.Common.{◌≡◌, ℕ, Bool, false, List, [], ◌∷◌, filter, length, Option, Some, None, refl, sym, ap, ◌∙◌}
use Rattle.std.specs.Prelude.{◌&&◌, if◌then◌else◌, slice_get}
use Rattle.std.specs.List.{range_with_len}
use Rattle.std.specs.Option.{option_to_list}
use Rattle.node_model.specs.Evidence.{but}
use Rattle.node_model.specs.Jobs.{Puts, Work, first_part}
use Rattle.node_model.specs.JobStep.{Turn, end_with, has_lock, locked_peers, others_of, turn_of}
use Rattle.node_model.specs.Look.{Look}
use Rattle.node_model.specs.Rows.{is_lost_ordered}
use Rattle.node_model.specs.SetUp.{SetUp}
use Rattle.node_model.specs.State.{State}
use Rattle.node_model.specs.TransferStep.{next_source, sources}
use Rattle.node_model.specs.Turns.{needs}
use Rattle.transfer_turns.specs.Turns.{Sight, awaited}
use Rattle.get_phases.specs.declared.getting.Ending.TheVariants as endings
use Rattle.get_phases.specs.declared.getting.Getting.{Getting}
use Rattle.get_phases.specs.declared.getting.Phase.{Phase as GetPhase}
use Rattle.get_phases.specs.declared.getting.Phase.TheVariants as phases
use Rattle.get_phases.specs.Gets as gets
use Rattle.get_phases.specs.Gets.{source_in, sources_in}
use Rattle.put_steps.specs.declared.phase.Ending.{Ending as PutEnding}
use Rattle.put_steps.specs.declared.phase.Ending.TheVariants as outcomes
use Rattle.put_steps.specs.declared.phase.Phase.{Phase as PutPhase}
use Rattle.put_steps.specs.declared.phase.Phase.TheVariants as offers
use Rattle.put_steps.specs.declared.putting.Putting.{Putting}
use Rattle.put_steps.specs.Puts as puts
use Rattle.transfer_worker.specs.States.{IsSight}
use Rattle.transfer_worker.specs.Workers.{asked_next, asks_at, sends_at, sent_next}

none_kept : (p : ℕ → Bool) (xs : List ℕ) → ((n : ℕ) → p n ≡ false) → filter p xs ≡ []
none_kept p [] none = refl
none_kept p (x ∷ xs) none = rw (none x) (none_kept p xs none)

-- a job that heard nothing has no lock
none_locked : (t : Turn) → t.w.heard ≡ [] → locked_peers t ≡ []
none_locked t heard = none_kept (λ peer. has_lock t peer && (end_with t peer).opened) (others_of t) (λ n. rw heard refl)

module _ (x : Sight) (s : SetUp) (st : State) (k : Look) (z : IsSight x s st) where
  -- the peers that a get asks
  sources_are : (w : Work) (o : Option ℕ) → sources_in x o ≡ sources (turn_of s st k w) o
  sources_are w (Some peer) = refl
  sources_are w None = λ j. but (z.repo j) (range_with_len 0 (z.count j))

  abbrev at_get : Getting → GetPhase → Getting
  at_get w ph = record w { phase = ph }

  source_is : (w : Getting) (ph : GetPhase) → option_to_list (source_in x w) ≡ option_to_list (next_source (turn_of s st k (gets.work_of (at_get w ph))))
  source_is w ph = ap (λ (l : List ℕ). option_to_list (slice_get l (length w.causes.items))) (sources_are (gets.work_of (at_get w ph)) w.job.peer)

  get_from : (w : Getting) (ph : GetPhase) → gets.is_done ph ≡ false → awaited (gets.work_of (at_get w ph)) ≡ None
      → option_to_list (asks_at x w ph) ≡ needs (turn_of s st k (gets.work_of (at_get w ph))) (gets.phase_of ph)
  get_from w phases.Fresh going free = source_is w phases.Fresh
  get_from w (phases.Next fill) going free = source_is w (phases.Next fill)
  get_from w (phases.Opens peer fill) going free = absurd (cc)
  get_from w (phases.Greets peer fill) going free = absurd (cc)
  get_from w (phases.Data peer wanting) going free = absurd (cc)
  get_from w (phases.Bytes peer start taking) going free = absurd (cc)
  get_from w (phases.Word peer start taken) going free = absurd (cc)
  get_from w (phases.Ends (endings.Got peer start)) going free = sym (none_locked (turn_of s st k (gets.work_of (at_get w (phases.Ends (endings.Got peer start))))) refl)
  get_from w (phases.Ends (endings.StoreFault fill)) going free = sym (none_locked (turn_of s st k (gets.work_of (at_get w (phases.Ends (endings.StoreFault fill))))) refl)
  get_from w phases.Done going free = absurd (cc)

  pub get_needs : (w : Getting) → gets.is_done w.phase ≡ false → awaited (gets.work_of w) ≡ None → option_to_list (asked_next x w) ≡ needs (turn_of s st k (gets.work_of w)) (gets.work_of w).phase
  get_needs w going free = get_from w w.phase going free

  -- ---- a copy

  abbrev at_put : Putting → PutPhase → Putting
  at_put w ph = record w { phase = ph }

  ends_put : (w : Putting) (why : PutEnding) (lost : is_lost_ordered (puts.outcome_of why) ≡ false) → [] ≡ needs (turn_of s st k (puts.work_of (at_put w (offers.Ends why)))) (puts.phase_of (offers.Ends why))
  ends_put w why lost =
      let t = turn_of s st k (puts.work_of (at_put w (offers.Ends why))) in
      sym (ap (λ (b : Bool). if b then [] else locked_peers t) lost ∙ none_locked t refl)

  put_from : (w : Putting) (ph : PutPhase) → first_part w.job.kind ≡ Puts → puts.is_done ph ≡ false → awaited (puts.work_of (at_put w ph)) ≡ None
      → option_to_list (sends_at w ph) ≡ needs (turn_of s st k (puts.work_of (at_put w ph))) (puts.phase_of ph)
  put_from w offers.Fresh way going free = refl
  put_from w (offers.Opens peer) way going free = absurd (cc)
  put_from w (offers.Greets peer) way going free = absurd (cc)
  put_from w (offers.Offer peer) way going free = absurd (cc)
  put_from w (offers.Bytes b) way going free = refl
  put_from w (offers.Word peer start) way going free = refl
  put_from w (offers.Answer peer start) way going free = absurd (cc)
  put_from w (offers.Ends (outcomes.Copied start)) way going free = ends_put w (outcomes.Copied start) refl
  put_from w (offers.Ends outcomes.Busy) way going free = ends_put w outcomes.Busy refl
  put_from w (offers.Ends outcomes.Closed) way going free = ends_put w outcomes.Closed refl
  put_from w (offers.Ends outcomes.Rejected) way going free = ends_put w outcomes.Rejected refl
  put_from w (offers.Ends outcomes.StoreFault) way going free = ends_put w outcomes.StoreFault refl
  put_from w offers.Done way going free = absurd (cc)

  pub put_needs : (w : Putting) → first_part w.job.kind ≡ Puts → puts.is_done w.phase ≡ false → awaited (puts.work_of w) ≡ None → option_to_list (sent_next w) ≡ needs (turn_of s st k (puts.work_of w)) (puts.work_of w).phase
  put_needs w way going free = put_from w w.phase way going free
