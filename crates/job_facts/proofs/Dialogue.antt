-- The dialogue on one connection: what a job and the session that serves it may say next, by where both stand and what is on the way.
use Rattle.std.proofs.Common.{◌≡◌, ℕ, ◌+◌, ◌-◌, ◌≤◌, ◌^◌, Bool, true, false, List, [], ◌∷◌, Option, Some, None, ◌⊎◌}
use Rattle.std.specs.Prelude.{if◌then◌else◌, ◌&&◌, bytes_eq, codes, nat_le, nat_lt}
use Rattle.run_data.specs.declared.entry.FrameText.{FrameText}
use Rattle.run_data.specs.declared.entry.FrameText.TheVariants.{Opening, Closing, Bytes, Line}
use Rattle.node_model.specs.Rows.{option_is}
use Rattle.p2p_wire.specs.declared.message.Message.{Message}
use Rattle.p2p_wire.specs.declared.message.Message.TheVariants.{AuthSuccess, Version, CheckPresent, LockContent, Remove, RemoveBefore, GetTimestamp, Timestamp, Get, Put, PutFrom, AlreadyHave, Data, Valid, Invalid, Success, Failure, Error}
use Rattle.p2p_wire.specs.Messages.{message_of}
use Rattle.node_model.specs.Sessions.{Doing, Waits, Guards, Gives, Gave, Wants, Takes, Took, Session, line_in, new_session, takes_more}
use Rattle.node_model.specs.Jobs
use Rattle.node_model.specs.Jobs.{Phase, Opens, Greets, GetsData, GetsBytes, GetsWord, PutsOffer, PutsBytes, PutsWord, PutsAnswer, AsksLock, AsksLook, AsksTime, Work, heard_of, partner}
use Rattle.node_model.specs.JobStep.{is_held}

-- ---- where a job stands on a connection

-- it has nothing to do there; it has a lock, and says nothing more until its end; it awaits what its last request is to bring; or it
-- sends bytes, and then VALID
pub data Stance : Type 0 where
  Away Locked : Stance
  AtOpen AtGreet AtGet AtWord AtPut AtValid AtAnswer AtLock AtLook AtTime AtOrder : Stance
  AtBytes AtSend : (left : ℕ) → Stance

abbrev pub phase_stance : Phase → Stance
phase_stance (Opens peer) = AtOpen
phase_stance (Greets peer) = AtGreet
phase_stance (GetsData peer start) = AtGet
phase_stance (GetsBytes peer start size left) = AtBytes left
phase_stance (GetsWord peer start size) = AtWord
phase_stance (PutsOffer peer) = AtPut
phase_stance (PutsBytes peer start at left) = AtSend left
phase_stance (PutsWord peer start) = AtValid
phase_stance (PutsAnswer peer start) = AtAnswer
phase_stance (AsksLock peer since) = AtLock
phase_stance (AsksLook peer) = AtLook
phase_stance AsksTime = AtTime
phase_stance Jobs.Orders = AtOrder
phase_stance phase = Away

abbrev pub rests : Bool → Stance
rests kept = if kept then Locked else Away

-- a job with this target, in this phase, on its connection with p, of which it has a lock or none
abbrev pub stance : Option ℕ → Phase → Bool → ℕ → Stance
stance target phase kept p = if option_is (partner target phase) p then phase_stance phase else rests kept

abbrev pub kept : Work → ℕ → Bool
kept w p = is_held (heard_of w p)

abbrev pub stands_at : Work → ℕ → Stance
stands_at w p = stance w.what.peer w.phase (kept w p) p

-- the version is known
abbrev pub is_greeted : Stance → Bool
is_greeted AtOpen = false
is_greeted AtGreet = false
is_greeted at = true

-- ---- what a session takes without a word

abbrev pub acks : Option Message → Option Doing
acks (Some Success) = Some Waits
acks (Some Failure) = Some Waits
acks m = None

abbrev pub starts : List ℕ → ℕ → Option Message → Option Doing
starts key size (Some (Data n)) = Some (takes_more key size n)
starts key size m = None

abbrev pub fills : List ℕ → ℕ → ℕ → FrameText → Option Doing
fills key size left (Bytes n) = if nat_lt 0 n && nat_le n left then Some (takes_more key (size + n) (left - n)) else None
fills key size left body = None

-- what it does then
abbrev pub silently : Doing → FrameText → Option Doing
silently Gave body = acks (line_in body)
silently (Wants key size) body = starts key size (line_in body)
silently (Takes key size left) body = fills key size left body
silently doing body = None

-- after all these frames, which want no answer, it does what is said
abbrev pub Settled : (Doing → Type 0) → Doing → List FrameText → Type 0
Settled P doing [] = P doing
Settled P doing (b ∷ bs) = (next : Doing) × (silently doing b ≡ Some next) × Settled P next bs

-- the last of these frames wants an answer, and those before it none
abbrev pub Pending : (Doing → FrameText → Type 0) → Doing → List FrameText → Type 0
Pending P doing [] = ⊥
Pending P doing (b ∷ []) = P doing b
Pending P doing (b ∷ c ∷ bs) = (next : Doing) × (silently doing b ≡ Some next) × Pending P next (c ∷ bs)

-- ---- requests and answers

-- what is asked, of a session that speaks this version
abbrev pub Asking : Stance → ℕ → Message → Type 0
Asking AtGreet v (Version n) = (n ≡ 3) × (v ≡ 0)
Asking AtGet v (Get n file key) = 1 ≤ v
Asking AtPut v (Put file key) = 1 ≤ v
Asking AtLock v (LockContent key) = 1 ≤ v
Asking AtLook v (CheckPresent key) = 1 ≤ v
Asking AtTime v GetTimestamp = 3 ≤ v
Asking AtOrder v (Remove key) = 1 ≤ v
Asking AtOrder v (RemoveBefore n key) = 3 ≤ v
Asking at v m = ⊥

abbrev pub Asks : Stance → ℕ → Doing → FrameText → Type 0
Asks at v doing b = (doing ≡ Waits) × (m : Message) × (line_in b ≡ Some m) × Asking at v m

-- the content is there, and the job says so
abbrev pub IsTaken : Doing → Type 0
IsTaken doing = (key : List ℕ) × (size : ℕ) × (doing ≡ Took key size)

abbrev pub IsTaking : ℕ → Doing → Type 0
IsTaking left doing = (key : List ℕ) × (size : ℕ) × (doing ≡ Takes key size left)

-- it waits for a request, or guards a locked key
abbrev pub IsAtRest : Doing → Type 0
IsAtRest doing = (doing ≡ Waits) ⊎ ((hold : ℕ) × (key : List ℕ) × (doing ≡ Guards hold key))

abbrev pub Closes : Doing → FrameText → Type 0
Closes doing b = IsTaken doing × (line_in b ≡ Some Valid)

pub record Idle (z : Session) : Type 0 where
  pub waits : z.doing ≡ Waits
  pub speaks : 1 ≤ z.version

-- what is answered, and where the session is then
abbrev pub Answered : Stance → Session → Option Message → Type 0
Answered AtGreet z (Some (Version n)) = Idle z × (z.version ≡ n) × (n ≤ 3)
Answered AtPut z (Some AlreadyHave) = Idle z
Answered AtPut z (Some Failure) = Idle z
Answered AtPut z (Some (Error text)) = Idle z × (bytes_eq text (codes "busy") ≡ true)
Answered AtPut z (Some (PutFrom n)) = (1 ≤ z.version) × (key : List ℕ) × (size : ℕ) × (z.doing ≡ Wants key size)
Answered AtLock z (Some Success) = (hold : ℕ) × (key : List ℕ) × (z.doing ≡ Guards hold key)
Answered AtLock z (Some Failure) = Idle z
Answered AtLook z (Some Success) = Idle z
Answered AtLook z (Some Failure) = Idle z
Answered AtTime z (Some (Timestamp n)) = Idle z × (3 ≤ z.version) × (nat_lt n (2 ^ 61) ≡ true)
Answered AtOrder z (Some Success) = Idle z
Answered AtOrder z (Some Failure) = Idle z
Answered AtAnswer z (Some Success) = Idle z
Answered AtAnswer z (Some Failure) = Idle z
Answered at z m = ⊥

-- the one frame on the way is the answer
pub record Reply (at : Stance) (z : Session) (up down : List FrameText) : Type 0 where
  pub none_up : up ≡ []
  pub body : FrameText
  pub alone : down ≡ body ∷ []
  pub fits : Answered at z (line_in body)

-- the rest of a content comes, and then whether it is good
abbrev pub Giving : ℕ → Session → List FrameText → Type 0
Giving left z [] = (1 ≤ z.version) × (key : List ℕ) × (at : ℕ) × (good : Bool) × (z.doing ≡ Gives key at left good)
Giving left z (Bytes n ∷ bs) = ((nat_lt 0 n && nat_le n left) ≡ true) × Giving (left - n) z bs
Giving left z (b ∷ bs) = (left ≡ 0) × (bs ≡ []) × (1 ≤ z.version) × (z.doing ≡ Gave) × ((line_in b ≡ Some Valid) ⊎ (line_in b ≡ Some Invalid))

-- a content comes
pub record Given (z : Session) (up down : List FrameText) : Type 0 where
  pub none_up : up ≡ []
  pub body : FrameText
  pub rest : List FrameText
  pub starts_so : down ≡ body ∷ rest
  pub left : ℕ
  pub told : line_in body ≡ Some (Data left)
  pub giving : Giving left z rest

pub record Still (at : Stance) (z : Session) (up down : List FrameText) : Type 0 where
  pub none_down : down ≡ []
  pub pending : Pending (Asks at z.version) z.doing up

abbrev pub Asked : Stance → Session → List FrameText → List FrameText → Type 0
Asked at z up down = Still at z up down ⊎ Reply at z up down

-- the server is to take the Opening, or has
abbrev pub Opened : Session → List FrameText → List FrameText → Type 0
Opened z up down = (z ≡ new_session) × (((up ≡ Opening ∷ []) × (down ≡ []))
    ⊎ ((up ≡ []) × (b : FrameText) × (id : List ℕ) × (down ≡ b ∷ []) × (line_in b ≡ Some (AuthSuccess id))))

-- **the dialogue**, where the job stands so and the session so, with these frames on the way up and down
abbrev pub Dialogue : Stance → Session → List FrameText → List FrameText → Type 0
Dialogue Away z up down = (down ≡ []) × (1 ≤ z.version) × Settled (λ d. d ≡ Waits) z.doing up
Dialogue Locked z up down = (down ≡ []) × Settled IsAtRest z.doing up
Dialogue AtOpen z up down = Opened z up down
Dialogue AtGet z up down = Still AtGet z up down ⊎ Given z up down
Dialogue (AtBytes left) z up down = (up ≡ []) × (nat_lt 0 left ≡ true) × Giving left z down
Dialogue AtWord z up down = (up ≡ []) × Giving 0 z down
Dialogue (AtSend left) z up down = (down ≡ []) × (1 ≤ z.version) × (nat_lt 0 left ≡ true) × Settled (IsTaking left) z.doing up
Dialogue AtValid z up down = (down ≡ []) × (1 ≤ z.version) × Settled IsTaken z.doing up
Dialogue AtAnswer z up down = ((down ≡ []) × (1 ≤ z.version) × Pending Closes z.doing up) ⊎ Reply AtAnswer z up down
Dialogue at z up down = Asked at z up down

-- ---- what a phase takes

abbrev pub SuitsMessage : Phase → Message → Type 0
SuitsMessage (Opens p) (AuthSuccess id) = Unit {0}
SuitsMessage (Greets p) (Version n) = nat_le n 3 ≡ true
SuitsMessage (GetsData p start) (Data n) = Unit {0}
SuitsMessage (GetsWord p start size) Valid = Unit {0}
SuitsMessage (GetsWord p start size) Invalid = Unit {0}
SuitsMessage (PutsOffer p) AlreadyHave = Unit {0}
SuitsMessage (PutsOffer p) Failure = Unit {0}
SuitsMessage (PutsOffer p) (Error text) = bytes_eq text (codes "busy") ≡ true
SuitsMessage (PutsOffer p) (PutFrom n) = Unit {0}
SuitsMessage (PutsAnswer p start) Success = Unit {0}
SuitsMessage (PutsAnswer p start) Failure = Unit {0}
SuitsMessage (AsksLock p since) Success = Unit {0}
SuitsMessage (AsksLock p since) Failure = Unit {0}
SuitsMessage (AsksLook p) Success = Unit {0}
SuitsMessage (AsksLook p) Failure = Unit {0}
SuitsMessage AsksTime (Timestamp n) = nat_lt n (2 ^ 61) ≡ true
SuitsMessage Jobs.Orders Success = Unit {0}
SuitsMessage Jobs.Orders Failure = Unit {0}
SuitsMessage phase m = ⊥

abbrev pub SuitsLine : Phase → Option Message → Type 0
SuitsLine phase None = ⊥
SuitsLine phase (Some m) = SuitsMessage phase m

abbrev pub SuitsBytes : Phase → ℕ → Type 0
SuitsBytes (GetsBytes p start size left) n = (nat_lt 0 n && nat_le n left) ≡ true
SuitsBytes phase n = ⊥

abbrev pub Suits : Phase → FrameText → Type 0
Suits phase Opening = ⊥
Suits phase Closing = Unit {0}
Suits phase (Bytes n) = SuitsBytes phase n
Suits phase (Line text) = SuitsLine phase (message_of text)
