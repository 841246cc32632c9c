-- On a connection whose end is open the job has sent no Close.
use Rattle.std.proofs.Common.{◌≡◌, ℕ, ◌≤◌, List, [], ◌∷◌, Some, None, inl, inr, refl, sym, ◌∙◌}
use Rattle.run_data.specs.declared.entry.FrameText.{FrameText}
use Rattle.run_data.specs.declared.entry.FrameText.TheVariants.{Opening, Closing}
use Rattle.p2p_wire.specs.declared.message.Message.TheVariants.{Valid}
use Rattle.node_model.specs.Sessions.{Doing, Gave, Wants, Takes, Session, Waits}
use Rattle.job_facts.proofs.Dialogue
use Rattle.job_facts.proofs.Dialogue.{Stance}

silent_no : (d : Doing) → Dialogue.silently d Closing ≡ None
silent_no Gave = refl
silent_no (Wants key size) = refl
silent_no (Takes key size left) = refl
silent_no d = refl

no_next : (d next : Doing) → Dialogue.silently d Closing ≡ Some next → ⊥
no_next d next e = let both : None ≡ Some next = sym (silent_no d) ∙ e in cc

settled_no : (P : Doing → Type 0) (d : Doing) (up : List FrameText) → Dialogue.Settled P d (Closing ∷ up) → ⊥
settled_no P d up x = no_next d x.0 x.1

pending_no : (P : Doing → FrameText → Type 0) → ((d : Doing) → P d Closing → ⊥) → (d : Doing) (up : List FrameText) → Dialogue.Pending P d (Closing ∷ up) → ⊥
pending_no P f d [] x = f d x
pending_no P f d (c ∷ cs) x = no_next d x.0 x.1

asks_no : (at : Stance) (v : ℕ) (d : Doing) → Dialogue.Asks at v d Closing → ⊥
asks_no at v d x = let both : None ≡ Some x.1 = x.2 in cc

asked_no : (at : Stance) (z : Session) (up down : List FrameText) → Dialogue.Asked at z (Closing ∷ up) down → ⊥
asked_no at z up down (inl x) = pending_no (Dialogue.Asks at z.version) (asks_no at z.version) z.doing up x.pending
asked_no at z up down (inr x) = let none : Closing ∷ up ≡ [] = x.none_up in cc

pub closes_no : (at : Stance) (z : Session) (up down : List FrameText) → Dialogue.Dialogue at z (Closing ∷ up) down → ⊥
closes_no Dialogue.Away z up down x = settled_no (λ d. d ≡ Waits) z.doing up (at_away (Closing ∷ up) x)
  where
    at_away : (us : List FrameText) → Dialogue.Dialogue Dialogue.Away z us down → Dialogue.Settled (λ d. d ≡ Waits) z.doing us
    at_away us y = y.2
closes_no Dialogue.Locked z up down x = settled_no Dialogue.IsAtRest z.doing up (at_locked (Closing ∷ up) x)
  where
    at_locked : (us : List FrameText) → Dialogue.Dialogue Dialogue.Locked z us down → Dialogue.Settled Dialogue.IsAtRest z.doing us
    at_locked us y = y.1
closes_no Dialogue.AtOpen z up down x = elim (x.1) [
  | inl y ↦ (let no' : Closing ∷ up ≡ Opening ∷ [] = y.0 in cc)
  | inr y ↦ (let no' : Closing ∷ up ≡ [] = y.0 in cc)
]
closes_no Dialogue.AtGet z up down (inl x) = pending_no (Dialogue.Asks Dialogue.AtGet z.version) (asks_no Dialogue.AtGet z.version) z.doing up x.pending
closes_no Dialogue.AtGet z up down (inr x) = let none : Closing ∷ up ≡ [] = x.none_up in cc
closes_no (Dialogue.AtBytes left) z up down x = let none : Closing ∷ up ≡ [] = x.0 in cc
closes_no Dialogue.AtWord z up down x = let none : Closing ∷ up ≡ [] = x.0 in cc
closes_no (Dialogue.AtSend left) z up down x = settled_no (Dialogue.IsTaking left) z.doing up (at_send (Closing ∷ up) x)
  where
    at_send : (us : List FrameText) → Dialogue.Dialogue (Dialogue.AtSend left) z us down → Dialogue.Settled (Dialogue.IsTaking left) z.doing us
    at_send us y = y.3
closes_no Dialogue.AtValid z up down x = settled_no Dialogue.IsTaken z.doing up (at_valid (Closing ∷ up) x)
  where
    at_valid : (us : List FrameText) → Dialogue.Dialogue Dialogue.AtValid z us down → Dialogue.Settled Dialogue.IsTaken z.doing us
    at_valid us y = y.2
closes_no Dialogue.AtAnswer z up down (inl x) = pending_no Dialogue.Closes (λ d y. let both : None ≡ Some Valid = y.1 in cc) z.doing up (at_answer (Closing ∷ up) x)
  where
    at_answer : (us : List FrameText) → (down ≡ []) × (1 ≤ z.version) × Dialogue.Pending Dialogue.Closes z.doing us → Dialogue.Pending Dialogue.Closes z.doing us
    at_answer us y = y.2
closes_no Dialogue.AtAnswer z up down (inr x) = let none : Closing ∷ up ≡ [] = x.none_up in cc
closes_no Dialogue.AtGreet z up down x = asked_no Dialogue.AtGreet z up down x
closes_no Dialogue.AtPut z up down x = asked_no Dialogue.AtPut z up down x
closes_no Dialogue.AtLock z up down x = asked_no Dialogue.AtLock z up down x
closes_no Dialogue.AtLook z up down x = asked_no Dialogue.AtLook z up down x
closes_no Dialogue.AtTime z up down x = asked_no Dialogue.AtTime z up down x
closes_no Dialogue.AtOrder z up down x = asked_no Dialogue.AtOrder z up down x
