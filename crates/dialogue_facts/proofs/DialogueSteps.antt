-- What a job takes and says keeps the dialogue on its connection: what comes suits its phase, and what it says the session takes.
use Rattle.std.proofs.Common.{◌≡◌, ℕ, ◌+◌, ◌-◌, ◌≤◌, Bool, true, false, List, [], ◌∷◌, ◌++◌, Option, Some, None, ◌⊎◌, inl, inr, refl, sym, ap, ◌∙◌, subst, arith}
use Rattle.std.specs.Prelude.{◌==◌, ◌&&◌, nat_le, nat_lt, min}
use Rattle.std.proofs.lemmas.Bool.Decides.{nat_tests}
use Rattle.annex_base.proofs.Conditions.{if_either}
use Rattle.run_data.specs.declared.entry.FrameText.{FrameText}
use Rattle.run_data.specs.declared.entry.FrameText.TheVariants.{Opening, Closing, Bytes, Line}
use Rattle.p2p_wire.specs.declared.message.Message.{Message}
use Rattle.p2p_wire.specs.declared.message.Message.TheVariants.{AuthSuccess, Version, Timestamp, PutFrom, AlreadyHave, Data, Valid, Invalid, Success, Failure, Error}
use Rattle.p2p_wire.specs.Messages.{message_of, text_of}
use Rattle.node_model.specs.Sessions.{Doing, Waits, Takes, Took, Session, line_in, takes_more}
use Rattle.node_model.specs.Jobs
use Rattle.node_model.specs.Jobs.{Phase, Opens, Greets, GetsData, GetsBytes, GetsWord, PutsOffer, PutsBytes, PutsWord, PutsAnswer, AsksLock, AsksLook, AsksTime, gets_more, puts_more}
use Rattle.job_facts.proofs.Dialogue

abbrev Talk : Dialogue.Stance → Session → List FrameText → List FrameText → Type 0
Talk at z up down = Dialogue.Dialogue at z up down

pub min_fits : (left : ℕ) → (left == 0) ≡ false → (nat_lt 0 (min 32768 left) && nat_le (min 32768 left) left) ≡ true
min_fits left e = let first : nat_lt 0 (min 32768 left) ≡ true = grind (arith, nat_tests) in let second : nat_le (min 32768 left) left ≡ true = grind (arith, nat_tests) in rw first second

-- ---- lists

cons_inj : (b c : FrameText) (bs cs : List FrameText) → b ∷ bs ≡ c ∷ cs → (b ≡ c) × (bs ≡ cs)
cons_inj b c bs cs e = (head, tail)
  where
    first : List FrameText → FrameText
    first [] = b
    first (x ∷ xs) = x

    others : List FrameText → List FrameText
    others [] = []
    others (x ∷ xs) = xs

    head : b ≡ c
    head = ap first e

    tail : bs ≡ cs
    tail = ap others e

-- ---- what comes suits the phase

suits_line : (phase : Phase) (b : FrameText) → Dialogue.SuitsLine phase (line_in b) → Dialogue.Suits phase b
suits_line phase (Line text) h = h
suits_line phase Opening h = absurd h
suits_line phase Closing h = absurd h
suits_line phase (Bytes n) h = absurd h

answered_suits : (phase : Phase) (z : Session) (o : Option Message) → Dialogue.Answered (Dialogue.phase_stance phase) z o → Dialogue.SuitsLine phase o
answered_suits (Greets p) z (Some (Version n)) a = let low : n ≤ 3 = a.2 in grind (arith, nat_tests)
answered_suits (PutsOffer p) z (Some AlreadyHave) a = tt
answered_suits (PutsOffer p) z (Some Failure) a = tt
answered_suits (PutsOffer p) z (Some (Error text)) a = a.1
answered_suits (PutsOffer p) z (Some (PutFrom n)) a = tt
answered_suits (AsksLock p since) z (Some Success) a = tt
answered_suits (AsksLock p since) z (Some Failure) a = tt
answered_suits (AsksLook p) z (Some Success) a = tt
answered_suits (AsksLook p) z (Some Failure) a = tt
answered_suits AsksTime z (Some (Timestamp n)) a = a.2
answered_suits Jobs.Orders z (Some Success) a = tt
answered_suits Jobs.Orders z (Some Failure) a = tt
answered_suits (PutsAnswer p start) z (Some Success) a = tt
answered_suits (PutsAnswer p start) z (Some Failure) a = tt
answered_suits phase z o a = absurd a

reply_suits : (phase : Phase) (z : Session) (up rest : List FrameText) (b : FrameText) → Dialogue.Reply (Dialogue.phase_stance phase) z up (b ∷ rest) → Dialogue.Suits phase b
reply_suits phase z up rest b x = suits_line phase b (subst (λ (c : FrameText). Dialogue.SuitsLine phase (line_in c)) (sym (cons_inj b x.body rest [] x.alone).0) (answered_suits phase z (line_in x.body) x.fits))

asked_suits : (phase : Phase) (z : Session) (up rest : List FrameText) (b : FrameText) → Dialogue.Asked (Dialogue.phase_stance phase) z up (b ∷ rest) → Dialogue.Suits phase b
asked_suits phase z up rest b (inl x) = absurd (let no' : b ∷ rest ≡ [] = x.none_down in cc)
asked_suits phase z up rest b (inr x) = reply_suits phase z up rest b x

told_suits : (phase : Phase) (m : Message) (b : FrameText) → line_in b ≡ Some m → Dialogue.SuitsMessage phase m → Dialogue.Suits phase b
told_suits phase m b told h = suits_line phase b (subst (Dialogue.SuitsLine phase) (sym told) h)

bytes_suits : (p start size left : ℕ) (z : Session) (rest : List FrameText) (b : FrameText) → nat_lt 0 left ≡ true → Dialogue.Giving left z (b ∷ rest) → Dialogue.Suits (GetsBytes p start size left) b
bytes_suits p start size left z rest (Bytes n) more x = x.0
bytes_suits p start size left z rest (Line text) more x = absurd (let none : left ≡ 0 = x.0 in let no' : nat_lt 0 0 ≡ true = subst (λ n. nat_lt 0 n ≡ true) none more in cc)
bytes_suits p start size left z rest Closing more x = tt
bytes_suits p start size left z rest Opening more x = absurd (elim (x.4) [ inl e ↦ (let no' : None ≡ Some Valid = e in cc) | inr e ↦ (let no' : None ≡ Some Invalid = e in cc) ])

word_suits : (p start size : ℕ) (z : Session) (rest : List FrameText) (b : FrameText) → Dialogue.Giving 0 z (b ∷ rest) → Dialogue.Suits (GetsWord p start size) b
word_suits p start size z rest (Bytes n) x = absurd (none n x.0)
  where
    none : (n : ℕ) → (nat_lt 0 n && nat_le n 0) ≡ true → ⊥
    none n e = grind (arith, nat_tests)
word_suits p start size z rest (Line text) x = elim (x.4) [ inl e ↦ told_suits (GetsWord p start size) Valid (Line text) e tt | inr e ↦ told_suits (GetsWord p start size) Invalid (Line text) e tt ]
word_suits p start size z rest Closing x = tt
word_suits p start size z rest Opening x = absurd (elim (x.4) [ inl e ↦ (let no' : None ≡ Some Valid = e in cc) | inr e ↦ (let no' : None ≡ Some Invalid = e in cc) ])

-- **no frame that comes is wrong**
pub comes_suits : (phase : Phase) (z : Session) (up rest : List FrameText) (b : FrameText) → Talk (Dialogue.phase_stance phase) z up (b ∷ rest) → Dialogue.Suits phase b
comes_suits (Opens p) z up rest b x = elim (x.1) [
  | inl y ↦ absurd (let no' : b ∷ rest ≡ [] = y.1 in cc)
  | inr y ↦ told_suits (Opens p) (AuthSuccess y.2) b (ap line_in (cons_inj b y.1 rest [] y.3).0 ∙ y.4) tt
]
comes_suits (Greets p) z up rest b x = asked_suits (Greets p) z up rest b x
comes_suits (GetsData p start) z up rest b (inl x) = absurd (let no' : b ∷ rest ≡ [] = x.none_down in cc)
comes_suits (GetsData p start) z up rest b (inr x) = told_suits (GetsData p start) (Data x.left) b (ap line_in (cons_inj b x.body rest x.rest x.starts_so).0 ∙ x.told) tt
comes_suits (GetsBytes p start size left) z up rest b x = bytes_suits p start size left z rest b x.1 x.2
comes_suits (GetsWord p start size) z up rest b x = word_suits p start size z rest b x.1
comes_suits (PutsOffer p) z up rest b x = asked_suits (PutsOffer p) z up rest b x
comes_suits (PutsBytes p start at left) z up rest b x = absurd (let no' : b ∷ rest ≡ [] = x.0 in cc)
comes_suits (PutsWord p start) z up rest b x = absurd (let no' : b ∷ rest ≡ [] = x.0 in cc)
comes_suits (PutsAnswer p start) z up rest b (inl x) = absurd (let no' : b ∷ rest ≡ [] = x.0 in cc)
comes_suits (PutsAnswer p start) z up rest b (inr x) = reply_suits (PutsAnswer p start) z up rest b x
comes_suits (AsksLock p since) z up rest b x = asked_suits (AsksLock p since) z up rest b x
comes_suits (AsksLook p) z up rest b x = asked_suits (AsksLook p) z up rest b x
comes_suits AsksTime z up rest b x = asked_suits AsksTime z up rest b x
comes_suits Jobs.Orders z up rest b x = asked_suits Jobs.Orders z up rest b x
comes_suits phase z up rest b x = absurd (let no' : b ∷ rest ≡ [] = x.0 in cc)

-- ---- what a job says more

settled_more : (P Q : Doing → Type 0) (b : FrameText) → ((d : Doing) → P d → (next : Doing) × (Dialogue.silently d b ≡ Some next) × Q next)
    → (up : List FrameText) (d : Doing) → Dialogue.Settled P d up → Dialogue.Settled Q d (up ++ b ∷ [])
settled_more P Q b f [] d x = f d x
settled_more P Q b f (c ∷ cs) d x = (x.0, x.1, settled_more P Q b f cs x.0 x.2)

pending_now : (P : Doing → Type 0) (Q : Doing → FrameText → Type 0) (b : FrameText) → ((d : Doing) → P d → Q d b)
    → (up : List FrameText) (d : Doing) → Dialogue.Settled P d up → Dialogue.Pending Q d (up ++ b ∷ [])
pending_now P Q b f [] d x = f d x
pending_now P Q b f (c ∷ []) d x = (x.0, x.1, f x.0 x.2)
pending_now P Q b f (c ∷ c' ∷ cs) d x = (x.0, x.1, pending_now P Q b f (c' ∷ cs) x.0 x.2)

-- it asks, where nothing is awaited
pub away_asks : (at : Dialogue.Stance) (z : Session) (up down : List FrameText) (m : Message) → Talk Dialogue.Away z up down → Dialogue.Asking at z.version m → message_of (text_of m) ≡ Some m
    → Dialogue.Still at z (up ++ Line (text_of m) ∷ []) down
away_asks at z up down m x asking back = record {
  none_down = x.0;
  pending = pending_now (λ d. d ≡ Waits) (Dialogue.Asks at z.version) (Line (text_of m)) (λ d w. (w, m, back, asking)) up z.doing x.2;
}

-- an answer is heard
pub heard_away : (at : Dialogue.Stance) (z : Session) (up down : List FrameText) (b : FrameText) (m : Message) → line_in b ≡ Some m → (Dialogue.Answered at z (Some m) → Dialogue.Idle z)
    → Dialogue.Reply at z up (b ∷ down) → Talk Dialogue.Away z up down
heard_away at z up down b m told f x =
    let parts = cons_inj b x.body down [] x.alone in
    let idle = f (subst (Dialogue.Answered at z) (sym (ap line_in parts.0) ∙ told) x.fits) in
    (parts.1, idle.speaks, subst (Dialogue.Settled (λ d. d ≡ Waits) z.doing) (sym x.none_up) idle.waits)

-- what was answered
pub was_answered : (at : Dialogue.Stance) (z : Session) (up down : List FrameText) (b : FrameText) (m : Message) → line_in b ≡ Some m → Dialogue.Reply at z up (b ∷ down) → Dialogue.Answered at z (Some m)
was_answered at z up down b m told x = subst (Dialogue.Answered at z) (sym (ap line_in (cons_inj b x.body down [] x.alone).0) ∙ told) x.fits

pub asked_reply : (at : Dialogue.Stance) (z : Session) (up down : List FrameText) (b : FrameText) → Dialogue.Asked at z up (b ∷ down) → Dialogue.Reply at z up (b ∷ down)
asked_reply at z up down b (inl x) = absurd (let no' : b ∷ down ≡ [] = x.none_down in cc)
asked_reply at z up down b (inr x) = x

pub lock_locked : (z : Session) (up down : List FrameText) (b : FrameText) → line_in b ≡ Some Success → Talk Dialogue.AtLock z up (b ∷ down) → Talk Dialogue.Locked z up down
lock_locked z up down b told x =
    let y = asked_reply Dialogue.AtLock z up down b x in
    let a = was_answered Dialogue.AtLock z up down b Success told y in
    ((cons_inj b y.body down [] y.alone).1, subst (Dialogue.Settled Dialogue.IsAtRest z.doing) (sym y.none_up) (inr a))

each_settled : {P Q : Doing → Type 0} → ((d : Doing) → P d → Q d) → (bs : List FrameText) (d : Doing) → Dialogue.Settled P d bs → Dialogue.Settled Q d bs
each_settled f [] d y = f d y
each_settled f (b ∷ bs) d y = (y.0, y.1, each_settled f bs y.0 y.2)

-- nothing is awaited on a connection: with or without a lock
pub rests_away : (z : Session) (up down : List FrameText) (k : Bool) → Talk Dialogue.Away z up down → Talk (Dialogue.rests k) z up down
rests_away z up down true x = (x.0, each_settled (λ d w. inl w) up z.doing x.2)
rests_away z up down false x = x

pub rests_more : (z : Session) (up down : List FrameText) (a b : Bool) → (a ≡ true → b ≡ true) → Talk (Dialogue.rests a) z up down → Talk (Dialogue.rests b) z up down
rests_more z up down true true f x = x
rests_more z up down false b f x = rests_away z up down b x
rests_more z up down true false f x = absurd (let no' : false ≡ true = f refl in cc)

-- the connection was opened: the version is asked
pub opened_greets : (z : Session) (up down : List FrameText) (b : FrameText) → message_of (text_of (Version 3)) ≡ Some (Version 3) → Talk Dialogue.AtOpen z up (b ∷ down)
    → Talk Dialogue.AtGreet z (up ++ Line (text_of (Version 3)) ∷ []) down
opened_greets z up down b back x = elim (x.1) [
  | inl y ↦ absurd (let no' : b ∷ down ≡ [] = y.1 in cc)
  | inr y ↦ inl (record {
    none_down = (cons_inj b y.1 down [] y.3).1;
    pending = subst (λ (us : List FrameText). Dialogue.Pending (Dialogue.Asks Dialogue.AtGreet z.version) z.doing (us ++ Line (text_of (Version 3)) ∷ [])) (sym y.0)
        (ap (λ (s : Session). s.doing) x.0, Version 3, back, (refl, ap (λ (s : Session). s.version) x.0));
  })
]

-- ---- bytes that come

pub more_gives : (p start size left : ℕ) (z : Session) (up down : List FrameText) → up ≡ [] → Dialogue.Giving left z down → Talk (Dialogue.phase_stance (gets_more p start size left)) z up down
more_gives p start size left z up down none x = if_either (λ (q : Phase). Talk (Dialogue.phase_stance q) z up down) (left == 0) (GetsWord p start size) (GetsBytes p start size left)
    (λ e. let zero' : left ≡ 0 = grind (arith, nat_tests) in (none, subst (λ n. Dialogue.Giving n z down) zero' x))
    (λ e. let more : nat_lt 0 left ≡ true = grind (arith, nat_tests) in (none, more, x))

pub data_gives : (p start n : ℕ) (z : Session) (up down : List FrameText) (b : FrameText) → line_in b ≡ Some (Data n) → Talk Dialogue.AtGet z up (b ∷ down) → Talk (Dialogue.phase_stance (gets_more p start start n)) z up down
data_gives p start n z up down b told (inl x) = absurd (let no' : b ∷ down ≡ [] = x.none_down in cc)
data_gives p start n z up down b told (inr x) =
    let parts = cons_inj b x.body down x.rest x.starts_so in
    let both : Some (Data x.left) ≡ Some (Data n) = sym x.told ∙ (sym (ap line_in parts.0) ∙ told) in
    let same : x.left ≡ n = cc in
    more_gives p start start n z up down x.none_up (subst (λ k. Dialogue.Giving k z down) same (subst (Dialogue.Giving x.left z) (sym parts.1) x.giving))

pub bytes_gives : (p start size left n : ℕ) (z : Session) (up down : List FrameText) (b : FrameText) → b ≡ Bytes n → Talk (Dialogue.AtBytes left) z up (b ∷ down) → Talk (Dialogue.phase_stance (gets_more p start size (left - n))) z up down
bytes_gives p start size left n z up down b is x = more_gives p start size (left - n) z up down x.0 (let y : Dialogue.Giving left z (Bytes n ∷ down) = subst (λ (c : FrameText). Dialogue.Giving left z (c ∷ down)) is x.2 in y.1)

-- the job says what it thinks of them
pub word_acks : (z : Session) (up down : List FrameText) (b : FrameText) (m : Message) → (line_in b ≡ Some Valid) ⊎ (line_in b ≡ Some Invalid) → Dialogue.acks (message_of (text_of m)) ≡ Some Waits
    → Talk Dialogue.AtWord z up (b ∷ down) → Talk Dialogue.Away z (up ++ Line (text_of m) ∷ []) down
word_acks z up down b m told ack x = go b told x.1
  where
    go : (b : FrameText) → (line_in b ≡ Some Valid) ⊎ (line_in b ≡ Some Invalid) → Dialogue.Giving 0 z (b ∷ down) → Talk Dialogue.Away z (up ++ Line (text_of m) ∷ []) down
    go (Line text) told y = (
      y.1,
      y.2,
      subst (λ (us : List FrameText). Dialogue.Settled (λ d. d ≡ Waits) z.doing (us ++ Line (text_of m) ∷ [])) (sym x.0)
          (subst (λ (d : Doing). Dialogue.Settled (λ d. d ≡ Waits) d (Line (text_of m) ∷ [])) (sym y.3) (Waits, ack, refl)),
    )
    go Opening told y = absurd (elim told [ inl e ↦ (let no' : None ≡ Some Valid = e in cc) | inr e ↦ (let no' : None ≡ Some Invalid = e in cc) ])
    go Closing told y = absurd (elim told [ inl e ↦ (let no' : None ≡ Some Valid = e in cc) | inr e ↦ (let no' : None ≡ Some Invalid = e in cc) ])
    go (Bytes n) told y = absurd (elim told [ inl e ↦ (let no' : None ≡ Some Valid = e in cc) | inr e ↦ (let no' : None ≡ Some Invalid = e in cc) ])

-- ---- bytes that go

abbrev Filling : ℕ → Doing → Type 0
Filling left d = (key : List ℕ) × (size : ℕ) × (d ≡ takes_more key size left)

more_takes : (p start at left : ℕ) (z : Session) (up down : List FrameText) → down ≡ [] → 1 ≤ z.version → Dialogue.Settled (Filling left) z.doing up → Talk (Dialogue.phase_stance (puts_more p start at left)) z up down
more_takes p start at left z up down none speaks x = if_either (λ (q : Phase). Talk (Dialogue.phase_stance q) z up down) (left == 0) (PutsWord p start) (PutsBytes p start at left)
    (λ e. (none, speaks, each_settled (λ d y. (y.0, y.1, y.2 ∙ done y.0 y.1 e)) up z.doing x))
    (λ e. let more : nat_lt 0 left ≡ true = grind (arith, nat_tests) in (none, speaks, more, each_settled (λ d y. (y.0, y.1, y.2 ∙ rest y.0 y.1 e)) up z.doing x))
  where
    done : (key : List ℕ) (size : ℕ) → (left == 0) ≡ true → takes_more key size left ≡ Took key size
    done key size e = rw e refl

    rest : (key : List ℕ) (size : ℕ) → (left == 0) ≡ false → takes_more key size left ≡ Takes key size left
    rest key size e = rw e refl

-- the place is told, and how many bytes there are from it
pub offer_starts : (p start n k : ℕ) (z : Session) (up down : List FrameText) (b : FrameText) → line_in b ≡ Some (PutFrom n) → message_of (text_of (Data k)) ≡ Some (Data k) → Talk Dialogue.AtPut z up (b ∷ down)
    → Talk (Dialogue.phase_stance (puts_more p start start k)) z (up ++ Line (text_of (Data k)) ∷ []) down
offer_starts p start n k z up down b told back x =
    let y = asked_reply Dialogue.AtPut z up down b x in
    let a = was_answered Dialogue.AtPut z up down b (PutFrom n) told y in
    more_takes p start start k z (up ++ Line (text_of (Data k)) ∷ []) down (cons_inj b y.body down [] y.alone).1 a.0
    (subst (λ (us : List FrameText). Dialogue.Settled (Filling k) z.doing (us ++ Line (text_of (Data k)) ∷ [])) (sym y.none_up)
    (subst (λ (d : Doing). Dialogue.Settled (Filling k) d (Line (text_of (Data k)) ∷ [])) (sym a.3) (takes_more a.1 a.2 k, ap (Dialogue.starts a.1 a.2) back, (a.1, a.2, refl))))

pub piece_sends : (p start at left n : ℕ) (z : Session) (up down : List FrameText) → (nat_lt 0 n && nat_le n left) ≡ true → Talk (Dialogue.AtSend left) z up down
    → Talk (Dialogue.phase_stance (puts_more p start (at + n) (left - n))) z (up ++ Bytes n ∷ []) down
piece_sends p start at left n z up down fits x = more_takes p start (at + n) (left - n) z (up ++ Bytes n ∷ []) down x.0 x.1
    (settled_more (Dialogue.IsTaking left) (Filling (left - n)) (Bytes n) (λ d y. (takes_more y.0 (y.1 + n) (left - n), one d y.0 y.1 y.2, (y.0, y.1 + n, refl))) up z.doing x.3)
  where
    one : (d : Doing) (key : List ℕ) (size : ℕ) → d ≡ Takes key size left → Dialogue.silently d (Bytes n) ≡ Some (takes_more key (size + n) (left - n))
    one d key size is = ap (λ (x : Doing). Dialogue.silently x (Bytes n)) is ∙ rw fits refl

pub valid_sends : (z : Session) (up down : List FrameText) → message_of (text_of Valid) ≡ Some Valid → Talk Dialogue.AtValid z up down → Talk Dialogue.AtAnswer z (up ++ Line (text_of Valid) ∷ []) down
valid_sends z up down back x = inl (x.0, x.1, pending_now Dialogue.IsTaken Dialogue.Closes (Line (text_of Valid)) (λ d y. (y, back)) up z.doing x.2)
