-- Where a job awaits a frame on a connection, a frame is on the way up or down there, or the session has bytes to give.
use Rattle.std.proofs.Common.{◌≡◌, ℕ, Bool, true, false, List, [], ◌∷◌, Option, Some, ◌⊎◌, inl, inr, refl, sym, true≢false}
use Rattle.run_data.specs.declared.entry.FrameText.{FrameText}
use Rattle.run_data.specs.declared.entry.FrameText.TheVariants.{Opening}
use Rattle.node_model.specs.Jobs
use Rattle.node_model.specs.Jobs.{AsksLock, AsksLook, AsksTime, GetsBytes, GetsData, GetsWord, Greets, Opens, Phase, PutsAnswer, PutsBytes, PutsOffer, PutsWord, partner}
use Rattle.node_model.specs.Sessions.{Doing, Gives, Session}
use Rattle.node_model.specs.Turns.{is_awaiting}
use Rattle.job_facts.proofs.Dialogue
use Rattle.job_facts.proofs.Dialogue.{Stance, phase_stance, rests}
use Rattle.rest_laws.proofs.Queued.{IsSome}

pub record HasToGive (z : Session) : Type 0 where
  pub key : List ℕ
  pub at : ℕ
  pub left : ℕ
  pub good : Bool
  pub is : z.doing ≡ Gives key at left good

-- one way has a frame and the other none, or the session gives
abbrev pub Moves : Session → List FrameText → List FrameText → Type 0
Moves z up down = (IsSome up × (down ≡ [])) ⊎ ((IsSome down × (up ≡ [])) ⊎ ((up ≡ []) × (down ≡ []) × HasToGive z))

pending_some : (P : Doing → FrameText → Type 0) (doing : Doing) (up : List FrameText) → Dialogue.Pending P doing up → IsSome up
pending_some P doing [] x = absurd x
pending_some P doing (b ∷ bs) x = record { first = b; more = bs; is = refl }

reply_moves : (at : Stance) (z : Session) (up down : List FrameText) → Dialogue.Reply at z up down → Moves z up down
reply_moves at z up down x = inr (inl (record { first = x.body; more = []; is = x.alone }, x.none_up))

asked_moves : (at : Stance) (z : Session) (up down : List FrameText) → Dialogue.Asked at z up down → Moves z up down
asked_moves at z up down (inl x) = inl (pending_some (Dialogue.Asks at z.version) z.doing up x.pending, x.none_down)
asked_moves at z up down (inr x) = reply_moves at z up down x

giving_moves : (left : ℕ) (z : Session) (up down : List FrameText) → up ≡ [] → Dialogue.Giving left z down → Moves z up down
giving_moves left z up [] none x = inr (inr (none, refl, record { key = x.1; at = x.2; left = left; good = x.3; is = x.4 }))
giving_moves left z up (b ∷ bs) none x = inr (inl (record { first = b; more = bs; is = refl }, none))

pub moves : (target : Option ℕ) (phase : Phase) (p : ℕ) (z : Session) (up down : List FrameText) → partner target phase ≡ Some p → is_awaiting phase ≡ true → Dialogue.Dialogue (phase_stance phase) z up down → Moves z up down
moves target (Opens q) p z up down on awaits x = elim (x.1) [
  | inl y ↦ inl (record { first = Opening; more = []; is = y.0 }, y.1)
  | inr y ↦ inr (inl (record { first = y.1; more = []; is = y.3 }, y.0))
]
moves target (Greets q) p z up down on awaits x = asked_moves Dialogue.AtGreet z up down x
moves target (GetsData q start) p z up down on awaits (inl x) = inl (pending_some (Dialogue.Asks Dialogue.AtGet z.version) z.doing up x.pending, x.none_down)
moves target (GetsData q start) p z up down on awaits (inr x) = inr (inl (record { first = x.body; more = x.rest; is = x.starts_so }, x.none_up))
moves target (GetsBytes q start size left) p z up down on awaits x = giving_moves left z up down x.0 x.2
moves target (GetsWord q start size) p z up down on awaits x = giving_moves 0 z up down x.0 x.1
moves target (PutsOffer q) p z up down on awaits x = asked_moves Dialogue.AtPut z up down x
moves target (PutsBytes q start at left) p z up down on awaits x = absurd (true≢false (sym awaits))
moves target (PutsWord q start) p z up down on awaits x = absurd (true≢false (sym awaits))
moves target (PutsAnswer q start) p z up down on awaits (inl x) = inl (pending_some Dialogue.Closes z.doing up x.2, x.0)
moves target (PutsAnswer q start) p z up down on awaits (inr x) = reply_moves Dialogue.AtAnswer z up down x
moves target (AsksLock q since) p z up down on awaits x = asked_moves Dialogue.AtLock z up down x
moves target (AsksLook q) p z up down on awaits x = asked_moves Dialogue.AtLook z up down x
moves target AsksTime p z up down on awaits x = asked_moves Dialogue.AtTime z up down x
moves target Jobs.Orders p z up down on awaits x = asked_moves Dialogue.AtOrder z up down x
moves target phase p z up down on awaits x = absurd (cc)

-- where it sends bytes, nothing is on the way down
pub sends_down : (target : Option ℕ) (phase : Phase) (p : ℕ) (z : Session) (up down : List FrameText) → partner target phase ≡ Some p → is_awaiting phase ≡ false → Dialogue.Dialogue (phase_stance phase) z up down → down ≡ []
sends_down target (PutsBytes q start at left) p z up down on idle x = x.0
sends_down target (PutsWord q start) p z up down on idle x = x.0
sends_down target phase p z up down on idle x = absurd (true≢false idle)

-- nor where it rests
pub rests_down : (k : Bool) (z : Session) (up down : List FrameText) → Dialogue.Dialogue (rests k) z up down → down ≡ []
rests_down true z up down x = x.0
rests_down false z up down x = x.0
