-- What an end of a client has asked and been answered since its opening, as its own frames show it, and what the phase of the job
-- that stands there says of this.
use Rattle.std.proofs.Common.{◌≡◌, ℕ, ◌+◌, Bool, true, false, List, [], ◌∷◌, Option, Some, None, ◌⊎◌, inl, inr, refl, sym, ap, ◌∙◌, subst}
use Rattle.std.specs.Prelude.{if◌then◌else◌, ◌==◌, ◌&&◌, bytes_eq, codes, fold}
use Rattle.std.proofs.lemmas.Bool.{true≢false, eqb-true, and_right}
use Rattle.annex_base.proofs.Conditions.{and_first, eqb_refl}
use Rattle.annex_base.specs.Bools.{same_bool}
use Rattle.run_data.specs.declared.entry.Entry.{Entry}
use Rattle.run_data.specs.declared.entry.FrameView.{FrameView}
use Rattle.run_data.specs.declared.entry.FrameText.{FrameText}
use Rattle.run_data.specs.declared.entry.FrameText.TheVariants.{Opening, Line}
use Rattle.run_model.specs.Past.{is_of}
use Rattle.node_model.specs.Rows.{option_is}
use Rattle.node_model.specs.Ends.{EndName, End, frames, sent_at, taken_at, takes_at}
use Rattle.p2p_wire.specs.declared.message.Message.{Message}
use Rattle.p2p_wire.specs.declared.message.Message.TheVariants.{AuthSuccess, Version, CheckPresent, LockContent, Remove, RemoveBefore, GetTimestamp, Timestamp, Get, Put, PutFrom, AlreadyHave, Valid, Invalid, Success, Failure, Error}
use Rattle.p2p_wire.specs.Messages.{order_of, message_of}
use Rattle.node_model.specs.Jobs.{Phase, AsksLock, AsksLook, AsksTime, GetsBytes, GetsData, GetsWord, Orders, PutsAnswer, PutsOffer, Ends, Work, job_end, partner}
use Rattle.node_model.specs.Turns.{is_awaiting}
use Rattle.step_facts.proofs.Plain.{option_at, option_other}

-- ---- requests and answers

-- a client's message that wants an answer
abbrev pub asks_for : Option Message → Bool
asks_for (Some (Version n)) = true
asks_for (Some (CheckPresent key)) = true
asks_for (Some (LockContent key)) = true
asks_for (Some (Remove key)) = true
asks_for (Some (RemoveBefore n key)) = true
asks_for (Some GetTimestamp) = true
asks_for (Some (Get n file key)) = true
asks_for (Some (Put file key)) = true
asks_for (Some Valid) = true
asks_for (Some Invalid) = true
asks_for _ = false

-- a server's message that completes an answer
abbrev pub answers_it : Option Message → Bool
answers_it (Some (AuthSuccess id)) = true
answers_it (Some (Version n)) = true
answers_it (Some (Timestamp n)) = true
answers_it (Some (PutFrom n)) = true
answers_it (Some AlreadyHave) = true
answers_it (Some Valid) = true
answers_it (Some Invalid) = true
answers_it (Some Success) = true
answers_it (Some Failure) = true
answers_it (Some (Error text)) = bytes_eq text (codes "busy")
answers_it _ = false

abbrev pub is_asking : FrameText → Bool
is_asking Opening = true
is_asking (Line text) = asks_for (message_of text)
is_asking _ = false

abbrev pub is_answering : FrameText → Bool
is_answering (Line text) = answers_it (message_of text)
is_answering _ = false

-- ---- counts

-- a request, and when it was made
pub record Request : Type 0 where
  pub time : ℕ
  pub what : Option Message

abbrev pub request : ℕ → Option Message → Request
request time what = record { time = time; what = what }

-- how many requests an end has sent since its opening, how many answers it took, and the last request
pub record Counts : Type 0 where
  pub asked : ℕ
  pub got : ℕ
  pub last : Option Request

abbrev pub none_yet : Counts
none_yet = record { asked = 0; got = 0; last = None }

abbrev pub counts_line : ℕ → Counts → Option Message → Bool → Counts
counts_line time q m true = record { asked = q.asked + 1; got = q.got; last = Some (request time m) }
counts_line time q m false = q

abbrev pub counts_sends : ℕ → Counts → FrameText → Counts
counts_sends time q Opening = record { asked = 1; got = 0; last = Some (request time None) }
counts_sends time q (Line text) = counts_line time q (message_of text) (asks_for (message_of text))
counts_sends time q body = q

abbrev pub counts_answer : Counts → Bool → Counts
counts_answer q true = record { asked = q.asked; got = q.got + 1; last = q.last }
counts_answer q false = q

abbrev pub counts_takes : Counts → FrameText → Counts
counts_takes q Opening = none_yet
counts_takes q (Line text) = counts_answer q (answers_it (message_of text))
counts_takes q body = q

abbrev pub counts_took : Counts → Option FrameView → Counts
counts_took q None = q
counts_took q (Some f) = counts_takes q f.body

abbrev pub counts_after : EndName → Counts → Entry → Counts
counts_after a q e = fold (λ c f. counts_sends e.time c f.body) (counts_took q (taken_at a e.taken)) (sent_at a e.sent)

-- the counts of an end of r
abbrev pub counts_at : List Entry → ℕ → EndName → Counts
counts_at [] r a = none_yet
counts_at (e ∷ past) r a = if is_of r e then counts_after a (counts_at past r a) e else counts_at past r a

-- ---- what a phase says

-- the job awaits an answer of p
abbrev pub awaits_of : Option ℕ → Phase → ℕ → Bool
awaits_of target phase p = is_awaiting phase && option_is (partner target phase) p

abbrev pub unit : Bool → ℕ
unit true = 1
unit false = 0

-- a job that is to end says nothing any more
abbrev pub IsLive : Phase → Type 0
IsLive (Ends outcome) = ⊥
IsLive phase = Unit {0}

-- a request for a copy
abbrev pub for_copy : Option Message → Bool
for_copy (Some (LockContent key)) = true
for_copy (Some (CheckPresent key)) = true
for_copy what = false

abbrev pub last_for_copy : Option Request → Bool
last_for_copy None = false
last_for_copy (Some x) = for_copy x.what

-- the last request was for the bytes from a place on
abbrev pub AskedFrom : List ℕ → ℕ → Option Request → Type 0
AskedFrom key start last = (time : ℕ) × (last ≡ Some (request time (Some (Get start [] key))))

-- the last request on its connection is what the phase says: in a phase that asks for no copy, it is none for one
abbrev pub LastIs : List ℕ → Option ℕ → Phase → ℕ → Option Request → Type 0
LastIs key target (AsksLock peer since) p last = peer ≡ p → last ≡ Some (request since (Some (LockContent key)))
LastIs key target (AsksLook peer) p last = peer ≡ p → (time : ℕ) × (last ≡ Some (request time (Some (CheckPresent key))))
LastIs key target AsksTime p last = target ≡ Some p → (time : ℕ) × (last ≡ Some (request time (Some GetTimestamp)))
LastIs key target Orders p last = target ≡ Some p → (time : ℕ) × (deadline : Option ℕ) × (last ≡ Some (request time (Some (order_of deadline key))))
LastIs key target (PutsAnswer peer start) p last = peer ≡ p → (time : ℕ) × (last ≡ Some (request time (Some Valid)))
LastIs key target (PutsOffer peer) p last = peer ≡ p → (time : ℕ) × (last ≡ Some (request time (Some (Put [] key))))
LastIs key target (GetsData peer start) p last = peer ≡ p → AskedFrom key start last
LastIs key target (GetsBytes peer start size left) p last = peer ≡ p → AskedFrom key start last
LastIs key target (GetsWord peer start size) p last = peer ≡ p → AskedFrom key start last
LastIs key target phase p last = awaits_of target phase p ≡ true → last_for_copy last ≡ false

-- what an open end has counted
pub record Counted (key : List ℕ) (target : Option ℕ) (phase : Phase) (p : ℕ) (q : Counts) : Type 0 where
  pub balance : q.asked ≡ q.got + unit (awaits_of target phase p)
  pub last : LastIs key target phase p q.last

abbrev pub Fits : List ℕ → Option ℕ → Phase → ℕ → End → Counts → Type 0
Fits key target phase p c q = IsLive phase → c.opened ≡ true → Counted key target phase p q

-- ---- the frames of one end alone

-- the entry takes and sends at the end of this peer alone
pub record Local (w : Work) (peer : ℕ) (taken : Option FrameView) (sent : List FrameView) : Type 0 where
  pub takes_here : taken_at (job_end w peer) taken ≡ taken
  pub sends_here : sent_at (job_end w peer) sent ≡ sent
  pub takes_else : (p : ℕ) → (peer == p) ≡ false → taken_at (job_end w p) taken ≡ None
  pub sends_else : (p : ℕ) → (peer == p) ≡ false → sent_at (job_end w p) sent ≡ []

-- a frame that a job's end sends, or takes, is of no other end
self_sends : (w : Work) (peer : ℕ) (c : End) (body : FrameText) → sent_at (job_end w peer) (frames (job_end w peer) c (body ∷ [])) ≡ frames (job_end w peer) c (body ∷ [])
self_sends w peer c body = rw (eqb_refl peer, eqb_refl w.slot) refl

else_sends : (w : Work) (peer : ℕ) (c : End) (body : FrameText) (p : ℕ) → (peer == p) ≡ false → sent_at (job_end w p) (frames (job_end w peer) c (body ∷ [])) ≡ []
else_sends w peer c body p e = rw e refl

self_takes : (w : Work) (peer : ℕ) (f : FrameView) → takes_at (job_end w peer) f ≡ true → taken_at (job_end w peer) (Some f) ≡ Some f
self_takes w peer f e = rw e refl

else_takes : (w : Work) (peer : ℕ) (f : FrameView) → takes_at (job_end w peer) f ≡ true → (p : ℕ) → (peer == p) ≡ false → taken_at (job_end w p) (Some f) ≡ None
else_takes w peer f e p other =
    let first : (f.peer == peer) && (f.slot == w.slot) ≡ true = and_first ((f.peer == peer) && (f.slot == w.slot)) (same_bool true (if f.up then false else true)) e in
    let is : f.peer ≡ peer = eqb-true f.peer peer (and_first (f.peer == peer) (f.slot == w.slot) first) in
    let apart : (f.peer == p) ≡ false = subst (λ n. (n == p) ≡ false) (sym is) other in
    rw apart refl

pub quiet_here : (w : Work) (peer : ℕ) → Local w peer None []
quiet_here w peer = record { takes_here = refl; sends_here = refl; takes_else = λ p e. refl; sends_else = λ p e. refl }

pub takes_here : (w : Work) (peer : ℕ) (f : FrameView) → takes_at (job_end w peer) f ≡ true → Local w peer (Some f) []
takes_here w peer f e = record { takes_here = self_takes w peer f e; sends_here = refl; takes_else = else_takes w peer f e; sends_else = λ p e. refl }

pub sends_here : (w : Work) (peer : ℕ) (c : End) (body : FrameText) → Local w peer None (frames (job_end w peer) c (body ∷ []))
sends_here w peer c body = record { takes_here = refl; sends_here = self_sends w peer c body; takes_else = λ p e. refl; sends_else = else_sends w peer c body }

pub answers_here : (w : Work) (peer : ℕ) (f : FrameView) (c : End) (body : FrameText) → takes_at (job_end w peer) f ≡ true → Local w peer (Some f) (frames (job_end w peer) c (body ∷ []))
answers_here w peer f c body e = record { takes_here = self_takes w peer f e; sends_here = self_sends w peer c body; takes_else = else_takes w peer f e; sends_else = else_sends w peer c body }

-- ---- phases and other peers

-- the phase is on apart connection but this peer's
abbrev pub Stays : Option ℕ → Phase → ℕ → Type 0
Stays target phase peer = (partner target phase ≡ None) ⊎ (partner target phase ≡ Some peer)

pub none_is : (o : Option ℕ) (p : ℕ) → o ≡ None → option_is o p ≡ false
none_is o p e = rw e refl

pub not_of : (target : Option ℕ) (phase : Phase) (peer p : ℕ) → Stays target phase peer → (peer == p) ≡ false → option_is (partner target phase) p ≡ false
not_of target phase peer p (inl none) apart = none_is (partner target phase) p none
not_of target phase peer p (inr some) apart = option_other (partner target phase) peer p some apart

-- on another's connection nothing is awaited
pub away : (target : Option ℕ) (phase : Phase) (peer p : ℕ) → Stays target phase peer → (peer == p) ≡ false → awaits_of target phase p ≡ false
away target phase peer p stays apart = and_right (is_awaiting phase) (option_is (partner target phase) p) (not_of target phase peer p stays apart)

pub last_away : (key : List ℕ) (target : Option ℕ) (phase : Phase) (p : ℕ) (last : Option Request) → option_is (partner target phase) p ≡ false → LastIs key target phase p last
last_away key target (AsksLock peer since) p last apart = λ e. absurd (true≢false (sym (option_at (Some peer) p (ap (λ x. Some x) e)) ∙ apart))
last_away key target (AsksLook peer) p last apart = λ e. absurd (true≢false (sym (option_at (Some peer) p (ap (λ x. Some x) e)) ∙ apart))
last_away key target AsksTime p last apart = λ e. absurd (true≢false (sym (option_at target p e) ∙ apart))
last_away key target Orders p last apart = λ e. absurd (true≢false (sym (option_at target p e) ∙ apart))
last_away key target (PutsAnswer peer start) p last apart = λ e. absurd (true≢false (sym (option_at (Some peer) p (ap (λ x. Some x) e)) ∙ apart))
last_away key target (PutsOffer peer) p last apart = λ e. absurd (true≢false (sym (option_at (Some peer) p (ap (λ x. Some x) e)) ∙ apart))
last_away key target (GetsData peer start) p last apart = λ e. absurd (true≢false (sym (option_at (Some peer) p (ap (λ x. Some x) e)) ∙ apart))
last_away key target (GetsBytes peer start size left) p last apart = λ e. absurd (true≢false (sym (option_at (Some peer) p (ap (λ x. Some x) e)) ∙ apart))
last_away key target (GetsWord peer start size) p last apart = λ e. absurd (true≢false (sym (option_at (Some peer) p (ap (λ x. Some x) e)) ∙ apart))
last_away key target phase p last apart = λ e. absurd (true≢false (sym e ∙ and_right (is_awaiting phase) (option_is (partner target phase) p) apart))

-- what was counted there stands
pub counted_away : (key : List ℕ) (target : Option ℕ) (phase next : Phase) (peer p : ℕ) (q : Counts) → Stays target phase peer → Stays target next peer → (peer == p) ≡ false
    → Counted key target phase p q → Counted key target next p q
counted_away key target phase next peer p q stays goes apart x = record {
  balance = x.balance ∙ ap (λ b. q.got + unit b) (away target phase peer p stays apart ∙ sym (away target next peer p goes apart));
  last = last_away key target next p q.last (not_of target next peer p goes apart);
}
