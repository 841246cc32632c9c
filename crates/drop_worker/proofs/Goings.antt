-- Where a local drop stands after a step: with another repository, or with none.
use Rattle.std.proofs.Common.{◌≡◌, ℕ, true, false, Some, None, Option, Result, Ok, Err, refl, sym, ap, subst, ◌∙◌}
use Rattle.std.specs.Prelude.{IfOk}
use Rattle.annex_base.specs.declared.memory.NoMemory.{NoMemory}
use Rattle.drop_proof.specs.declared.rule.Side.{Side}
use Rattle.drop_proof.specs.declared.rule.Side.TheVariants.{Local, Remote}
use Rattle.node_model.specs.Jobs.{partner}
use Rattle.node_model.specs.Knows.{Reading}
use Rattle.drop_phases.specs.declared.phase.Phase.{Phase}
use Rattle.drop_phases.specs.declared.phase.Phase.TheVariants as phases
use Rattle.drop_phases.specs.declared.phase.Token.{Token}
use Rattle.drop_phases.specs.declared.turn.Output.{Output}
use Rattle.drop_phases.specs.Sides.{HearsOwn}
use Rattle.drop_phases.specs.Worker.{Worker}
use Rattle.drop_phases.specs.Working.{phase_as}
use Rattle.drop_phases.specs.Begun.{CanStand, HasBegun, HasGone, IsOnward, IsOther, StaysAt, StaysWith}
use Rattle.drop_phases.specs.Doing.{Talks}
use Rattle.drop_phases.specs.Feeding.{FitsLocal}

-- a job that stays with a candidate has begun
pub stays_begun : (r : Reading) (peer : ℕ) (phase : Phase) → IsOther r peer → StaysAt peer phase → HasBegun r phase
stays_begun r peer phases.Fresh other stays = absurd stays
stays_begun r peer phases.Next other stays = tt
stays_begun r peer (phases.Opens p) other stays = subst (IsOther r) (sym stays) other
stays_begun r peer (phases.Greets p) other stays = subst (IsOther r) (sym stays) other
stays_begun r peer (phases.AsksLock p since) other stays = subst (IsOther r) (sym stays) other
stays_begun r peer (phases.AsksLook p) other stays = subst (IsOther r) (sym stays) other
stays_begun r peer phases.AsksTime other stays = tt
stays_begun r peer phases.Orders other stays = tt
stays_begun r peer phases.Removed other stays = tt
stays_begun r peer phases.Denied other stays = tt
stays_begun r peer (phases.Late time) other stays = tt
stays_begun r peer (phases.Ends why) other stays = tt

-- the peer whose frame a local drop awaits is another repository
pub awaits_other : (r : Reading) (target : Option ℕ) (peer : ℕ) (phase : Phase) (token : Token) → FitsLocal phase token → partner target (phase_as phase) ≡ Some peer → CanStand r phase → IsOther r peer
awaits_other r target peer phases.Fresh token fits at stands = absurd cc
awaits_other r target peer phases.Next token fits at stands = absurd cc
awaits_other r target peer (phases.Opens p) token fits at stands = subst (IsOther r) (let same : p ≡ peer = cc in same) stands
awaits_other r target peer (phases.Greets p) token fits at stands = subst (IsOther r) (let same : p ≡ peer = cc in same) stands
awaits_other r target peer (phases.AsksLock p since) token fits at stands = subst (IsOther r) (let same : p ≡ peer = cc in same) stands
awaits_other r target peer (phases.AsksLook p) token fits at stands = subst (IsOther r) (let same : p ≡ peer = cc in same) stands
awaits_other r target peer phases.AsksTime token fits at stands = absurd fits
awaits_other r target peer phases.Orders token fits at stands = absurd fits
awaits_other r target peer phases.Removed token fits at stands = absurd cc
awaits_other r target peer phases.Denied token fits at stands = absurd cc
awaits_other r target peer (phases.Late time) token fits at stands = absurd cc
awaits_other r target peer (phases.Ends why) token fits at stands = absurd cc

pub hears_gone : (r : Reading) (w w' : Worker) (peer : ℕ) (result : Result Output NoMemory) → FitsLocal w.phase w.token → partner w.job.peer (phase_as w.phase) ≡ Some peer → IfOk result (StaysWith peer w w')
    → IfOk result (Talks w w') → IfOk result (λ out. CanStand r w.phase → HasGone r w w' out)
hears_gone r w w' peer (Ok out) fits at stays talks = λ stands.
    record {
      goes_on = λ going. stays_begun r peer w'.phase (awaits_other r w.job.peer peer w.phase w.token fits at stands) stays.phase;
      onward = λ going. subst (IsOnward w.number) (sym talks.kind) refl;
      ended = λ ended. absurd (let both : true ≡ false = sym ended ∙ talks.goes_on in cc);
      last = λ ended. absurd (let both : true ≡ false = sym ended ∙ talks.goes_on in cc);
      slot = stays.slot;
    }
hears_gone r w w' peer (Err e) fits at stays talks = tt

pub acts_gone : (r : Reading) (w w' : Worker) (result : Result Output NoMemory) → IfOk result (HasGone r w w') → IfOk result (λ out. CanStand r w.phase → HasGone r w w' out)
acts_gone r w w' (Ok out) gone = λ stands. gone
acts_gone r w w' (Err e) gone = tt

-- ---- a remote drop

-- the peer whose frame it awaits is another repository
pub remote_other : (r : Reading) (target peer : ℕ) (w : Worker) → w.job.peer ≡ Some target → IsOther r target → partner w.job.peer (phase_as w.phase) ≡ Some peer → CanStand r w.phase → IsOther r peer
remote_other r target peer w there other at stands = go w.phase at stands
  where
    go : (phase : Phase) → partner w.job.peer (phase_as phase) ≡ Some peer → CanStand r phase → IsOther r peer
    go phases.Fresh at stands = absurd cc
    go phases.Next at stands = absurd cc
    go (phases.Opens p) at stands = subst (IsOther r) (let same : p ≡ peer = cc in same) stands
    go (phases.Greets p) at stands = subst (IsOther r) (let same : p ≡ peer = cc in same) stands
    go (phases.AsksLock p since) at stands = subst (IsOther r) (let same : p ≡ peer = cc in same) stands
    go (phases.AsksLook p) at stands = subst (IsOther r) (let same : p ≡ peer = cc in same) stands
    go phases.AsksTime at stands = subst (IsOther r) (let both : Some target ≡ Some peer = sym there ∙ at in let same : target ≡ peer = cc in same) other
    go phases.Orders at stands = subst (IsOther r) (let both : Some target ≡ Some peer = sym there ∙ at in let same : target ≡ peer = cc in same) other
    go phases.Removed at stands = absurd cc
    go phases.Denied at stands = absurd cc
    go (phases.Late time) at stands = absurd cc
    go (phases.Ends why) at stands = absurd cc

-- where it awaits a frame, it is past its first step
pub awaits_later : (w : Worker) (peer : ℕ) → partner w.job.peer (phase_as w.phase) ≡ Some peer → w.phase ≡ phases.Fresh → ⊥
awaits_later w peer at fresh = let both : None ≡ Some peer = sym (ap (λ (ph : Phase). partner w.job.peer (phase_as ph)) fresh) ∙ at in cc

-- what it has heard of its own repository, on either side
pub local_own : (s : Side) (r : Reading) (w' : Worker) (result : Result Output NoMemory) → s ≡ Local → IfOk result (λ out. out.ended ≡ false → HearsOwn s r w')
local_own s r w' (Ok out) is = λ going. subst (λ (q : Side). HearsOwn q r w') (sym is) tt
local_own s r w' (Err e) is = tt

pub remote_own : (s : Side) (r : Reading) (w' : Worker) (result : Result Output NoMemory) → s ≡ Remote → IfOk result (λ out. out.ended ≡ false → HearsOwn Remote r w') → IfOk result (λ out. out.ended ≡ false → HearsOwn s r w')
remote_own s r w' (Ok out) is own = λ going. subst (λ (q : Side). HearsOwn q r w') (sym is) (own going)
remote_own s r w' (Err e) is own = tt
