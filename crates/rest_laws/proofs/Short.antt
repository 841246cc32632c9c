-- On a connection of a drop at most two frames are on the way up.
use Rattle.std.proofs.Common.{◌≡◌, ℕ, ◌≤◌, Bool, true, false, List, [], ◌∷◌, Option, Some, None, inl, inr, ap, subst, arith}
use Rattle.std.specs.Prelude.{if◌then◌else◌, ◌==◌, ◌-◌, ◌+◌, ◌&&◌, length, nat_le, nat_lt}
use Rattle.run_data.specs.declared.entry.FrameText.{FrameText}
use Rattle.run_data.specs.declared.entry.FrameText.TheVariants.{Bytes}
use Rattle.node_model.specs.Jobs
use Rattle.node_model.specs.Jobs.{AsksLock, AsksLook, AsksTime, Drops, GetsBytes, GetsData, GetsWord, Greets, Opens, Phase, PutsAnswer, PutsBytes, PutsOffer, PutsWord, partner}
use Rattle.node_model.specs.Rows.{option_is}
use Rattle.node_model.specs.Sessions.{Doing, Gave, Guards, Session, Takes, Took, Waits, Wants, line_in, takes_more}
use Rattle.p2p_wire.specs.declared.message.Message.{Message}
use Rattle.p2p_wire.specs.declared.message.Message.TheVariants.{Data, Failure, Success}
use Rattle.job_facts.proofs.Dialogue
use Rattle.job_facts.proofs.Dialogue.{Stance, phase_stance, rests, stance}
use Rattle.job_facts.proofs.TalkFacts.{Fits}

acks_waits : (o : Option Message) (next : Doing) → Dialogue.acks o ≡ Some next → next ≡ Waits
acks_waits (Some Success) next e = cc
acks_waits (Some Failure) next e = cc
acks_waits o next e = absurd (cc)

-- what it does as bytes come
abbrev IsFilling : Doing → Type 0
IsFilling (Took key size) = Unit {0}
IsFilling (Takes key size left) = Unit {0}
IsFilling doing = ⊥

more_filling : (key : List ℕ) (size left : ℕ) → IsFilling (takes_more key size left)
more_filling key size left = go (left == 0)
  where
    go : (b : Bool) → IsFilling (if b then Took key size else Takes key size left)
    go true = tt
    go false = tt

starts_filling : (key : List ℕ) (size : ℕ) (o : Option Message) (next : Doing) → Dialogue.starts key size o ≡ Some next → IsFilling next
starts_filling key size (Some (Data n)) next e = let same : takes_more key size n ≡ next = cc in subst IsFilling same (more_filling key size n)
starts_filling key size o next e = absurd (cc)

fills_filling : (key : List ℕ) (size left : ℕ) (b : FrameText) (next : Doing) → Dialogue.fills key size left b ≡ Some next → IsFilling next
fills_filling key size left (Bytes n) next e = go (nat_lt 0 n && nat_le n left) e
  where
    go : (t : Bool) → (if t then Some (takes_more key (size + n) (left - n)) else None) ≡ Some next → IsFilling next
    go true k = let same : takes_more key (size + n) (left - n) ≡ next = cc in subst IsFilling same (more_filling key (size + n) (left - n))
    go false k = absurd (cc)
fills_filling key size left body next e = absurd (cc)

-- ---- no more than one where nothing is asked

module _ (P : Doing → Type 0) (no : (doing : Doing) → IsFilling doing → P doing → ⊥) where
  filling_no : (doing : Doing) (up : List FrameText) → IsFilling doing → Dialogue.Settled P doing up → ⊥
  filling_no (Took key size) [] f x = no (Took key size) f x
  filling_no (Took key size) (b ∷ bs) f x = let no' : None ≡ Some x.0 = x.1 in cc
  filling_no (Takes key size left) [] f x = no (Takes key size left) f x
  filling_no (Takes key size left) (b ∷ bs) f x = filling_no x.0 bs (fills_filling key size left b x.0 x.1) x.2
  filling_no doing up f x = absurd f

  one_at_most : (doing : Doing) (up : List FrameText) → Dialogue.Settled P doing up → length up ≤ 1
  one_at_most doing [] x = omega arith
  one_at_most Gave (b ∷ bs) x = last bs (subst (λ (d : Doing). Dialogue.Settled P d bs) (acks_waits (line_in b) x.0 x.1) x.2)
    where
      last : (bs : List FrameText) → Dialogue.Settled P Waits bs → length (b ∷ bs) ≤ 1
      last [] y = omega arith
      last (c ∷ cs) y = absurd (let no' : None ≡ Some y.0 = y.1 in cc)
  one_at_most (Wants key size) (b ∷ bs) x = absurd (filling_no x.0 bs (starts_filling key size (line_in b) x.0 x.1) x.2)
  one_at_most (Takes key size left) (b ∷ bs) x = absurd (filling_no x.0 bs (fills_filling key size left b x.0 x.1) x.2)
  one_at_most doing (b ∷ bs) x = absurd (let no' : None ≡ Some x.0 = x.1 in cc)

not_waits : (doing : Doing) → IsFilling doing → doing ≡ Waits → ⊥
not_waits (Took key size) f e = cc
not_waits (Takes key size left) f e = cc
not_waits doing f e = absurd f

not_resting : (doing : Doing) → IsFilling doing → Dialogue.IsAtRest doing → ⊥
not_resting doing f (inl e) = not_waits doing f e
not_resting (Took key size) f (inr x) = let e : Took key size ≡ Guards x.0 x.1 = x.2 in cc
not_resting (Takes key size left) f (inr x) = let e : Takes key size left ≡ Guards x.0 x.1 = x.2 in cc
not_resting doing f x = absurd f

-- ---- no more than two where something is

module _ (at : Stance) (v : ℕ) where
  asking_no : (doing : Doing) (up : List FrameText) → IsFilling doing → Dialogue.Pending (Dialogue.Asks at v) doing up → ⊥
  asking_no doing [] f x = x
  asking_no doing (b ∷ []) f x = not_waits doing f x.0
  asking_no (Took key size) (b ∷ c ∷ bs) f x = let no' : None ≡ Some x.0 = x.1 in cc
  asking_no (Takes key size left) (b ∷ c ∷ bs) f x = asking_no x.0 (c ∷ bs) (fills_filling key size left b x.0 x.1) x.2
  asking_no doing (b ∷ c ∷ bs) f x = absurd f

  two_at_most : (doing : Doing) (up : List FrameText) → Dialogue.Pending (Dialogue.Asks at v) doing up → length up ≤ 2
  two_at_most doing [] x = absurd x
  two_at_most doing (b ∷ []) x = omega arith
  two_at_most Gave (b ∷ c ∷ bs) x = last bs (subst (λ (d : Doing). Dialogue.Pending (Dialogue.Asks at v) d (c ∷ bs)) (acks_waits (line_in b) x.0 x.1) x.2)
    where
      last : (bs : List FrameText) → Dialogue.Pending (Dialogue.Asks at v) Waits (c ∷ bs) → length (b ∷ c ∷ bs) ≤ 2
      last [] y = omega arith
      last (d ∷ ds) y = absurd (let no' : None ≡ Some y.0 = y.1 in cc)
  two_at_most (Wants key size) (b ∷ c ∷ bs) x = absurd (asking_no x.0 (c ∷ bs) (starts_filling key size (line_in b) x.0 x.1) x.2)
  two_at_most (Takes key size left) (b ∷ c ∷ bs) x = absurd (asking_no x.0 (c ∷ bs) (fills_filling key size left b x.0 x.1) x.2)
  two_at_most doing (b ∷ c ∷ bs) x = absurd (let no' : None ≡ Some x.0 = x.1 in cc)

-- ---- by where the job stands

of_none : (up : List FrameText) → up ≡ [] → length up ≤ 2
of_none up e = let n : length up ≡ 0 = ap length e in omega (arith, n)

of_one : (up : List FrameText) → length up ≤ 1 → length up ≤ 2
of_one up l = omega (arith, l)

asked_few : (at : Stance) (z : Session) (up down : List FrameText) → Dialogue.Asked at z up down → length up ≤ 2
asked_few at z up down (inl x) = two_at_most at z.version z.doing up x.pending
asked_few at z up down (inr x) = of_none up x.none_up

rests_few : (k : Bool) (z : Session) (up down : List FrameText) → Dialogue.Dialogue (rests k) z up down → length up ≤ 2
rests_few true z up down x = of_one up (one_at_most Dialogue.IsAtRest not_resting z.doing up x.1)
rests_few false z up down x = of_one up (one_at_most (λ doing. doing ≡ Waits) not_waits z.doing up x.2)

phase_few : (phase : Phase) → Fits Drops phase → (z : Session) (up down : List FrameText) → Dialogue.Dialogue (phase_stance phase) z up down → length up ≤ 2
phase_few (Opens p) fits z up down x = elim (x.1) [
  | inl y ↦ (let n : length up ≡ 1 = ap length (y.0) in omega (arith, n))
  | inr y ↦ of_none up y.0
]
phase_few (Greets p) fits z up down x = asked_few Dialogue.AtGreet z up down x
phase_few (GetsData p start) fits z up down x = absurd fits
phase_few (GetsBytes p start size left) fits z up down x = absurd fits
phase_few (GetsWord p start size) fits z up down x = absurd fits
phase_few (PutsOffer p) fits z up down x = absurd fits
phase_few (PutsBytes p start at left) fits z up down x = absurd fits
phase_few (PutsWord p start) fits z up down x = absurd fits
phase_few (PutsAnswer p start) fits z up down x = absurd fits
phase_few (AsksLock p since) fits z up down x = asked_few Dialogue.AtLock z up down x
phase_few (AsksLook p) fits z up down x = asked_few Dialogue.AtLook z up down x
phase_few AsksTime fits z up down x = asked_few Dialogue.AtTime z up down x
phase_few Jobs.Orders fits z up down x = asked_few Dialogue.AtOrder z up down x
phase_few phase fits z up down x = rests_few false z up down x

pub few_up : (target : Option ℕ) (phase : Phase) (k : Bool) (p : ℕ) → Fits Drops phase → (z : Session) (up down : List FrameText) → Dialogue.Dialogue (stance target phase k p) z up down → length up ≤ 2
few_up target phase k p fits z up down x = go (option_is (partner target phase) p) x
  where
    go : (b : Bool) → Dialogue.Dialogue (if b then phase_stance phase else rests k) z up down → length up ≤ 2
    go true y = phase_few phase fits z up down y
    go false y = rests_few k z up down y
