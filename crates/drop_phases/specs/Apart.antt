-- A remote drop stands apart from its target, and from the repositories of which it has locks (own).
use Rattle.std.specs.Prelude.{◌≡◌, ◌⊎◌, ℕ, ◌==◌, Bool, true, false, Option, Some, None, IfSome}
use Rattle.annex_base.specs.Lists.{Each}
use Rattle.drop_proof.specs.declared.rule.Side.{Side}
use Rattle.drop_proof.specs.declared.rule.Side.TheVariants.{Remote}
use Rattle.node_model.specs.JobStep.{is_held}
use Rattle.drop_phases.specs.declared.phase.Phase.{Phase}
use Rattle.drop_phases.specs.declared.phase.Phase.TheVariants as phases
use Rattle.drop_phases.specs.declared.turn.Output.{Output}
use Rattle.drop_phases.specs.Leaving.{stands_on}
use Rattle.drop_phases.specs.Worker.{Worker}
use Rattle.drop_phases.specs.Working.{heard_in}

-- the repository of whose copy a drop asks, if it asks one
abbrev pub asked_in : Phase → Option ℕ
asked_in (phases.Opens peer) = Some peer
asked_in (phases.Greets peer) = Some peer
asked_in (phases.AsksLock peer since) = Some peer
asked_in (phases.AsksLook peer) = Some peer
asked_in phase = None

-- the same, once it has asked for a lock or a look
abbrev pub looked_in : Phase → Option ℕ
looked_in (phases.AsksLock peer since) = Some peer
looked_in (phases.AsksLook peer) = Some peer
looked_in phase = None

-- it has heard nothing of its target, nor of a repository that it asks; and it asks its target for no copy
pub record StandsApart (target : ℕ) (w : Worker) : Type 0 where
  pub unheard : heard_in w.heard target ≡ None
  pub asked : IfSome (asked_in w.phase) (λ peer. heard_in w.heard peer ≡ None)
  pub other : IfSome (looked_in w.phase) (λ peer. (target == peer) ≡ false)

-- it has a lock of the repository
abbrev pub is_locked_in : Worker → ℕ → Bool
is_locked_in w peer = is_held (heard_in w.heard peer)

-- A step of a remote drop, in the repository of number own. Where it goes on it stands apart still; it sends nothing to another repository of
-- which it has a lock then, and that lock it had before, or got from the one that it stood with. The word beside its target's answer comes with
-- the step that takes the answer, and stays.
pub record GoesApart (own target : ℕ) (w w' : Worker) (out : Output) : Type 0 where
  pub stands : out.ended ≡ false → StandsApart target w'
  pub locks : out.ended ≡ false → (peer : ℕ) → (own == peer) ≡ false → is_locked_in w' peer ≡ true
      → Each (λ p. (p.peer == peer) ≡ false) out.sends.items × ((is_locked_in w peer ≡ true) ⊎ (stands_on w ≡ Some peer))
  pub word : (w.phase ≡ phases.Orders → ⊥) → w'.word ≡ w.word

-- the step keeps a remote drop apart where it stood so, in whichever repository; or in that of this number, unless it is the target
abbrev pub StaysApart : ℕ → Worker → Worker → Output → Type 0
StaysApart target w w' out = (own : ℕ) → StandsApart target w → GoesApart own target w w' out

abbrev pub StaysApartIn : ℕ → ℕ → Worker → Worker → Output → Type 0
StaysApartIn own target w w' out = (own == target) ≡ false → StandsApart target w → GoesApart own target w w' out

-- of a drop on either side
abbrev pub IsApart : Side → Option ℕ → Worker → Type 0
IsApart Remote (Some target) w = StandsApart target w
IsApart side peer w = Unit {0}

abbrev pub GoesApartSo : Side → Option ℕ → ℕ → Worker → Worker → Output → Type 0
GoesApartSo Remote (Some target) own w w' out = GoesApart own target w w' out
GoesApartSo side peer own w w' out = Unit {0}
