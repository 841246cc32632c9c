-- What a job hears by the answers that it takes is what its phase says.
use Rattle.std.proofs.Common.{◌≡◌, ℕ, Bool, true, false, List, [], ◌∷◌, Option, Some, None, refl, ap, ◌∙◌}
use Rattle.std.specs.Prelude.{option_map}
use Rattle.std.proofs.lemmas.Bool.{true≢false}
use Rattle.std.proofs.lemmas.Option.{same_Some}
use Rattle.step_facts.proofs.Below.{SentAreRead}
use Rattle.run_data.specs.declared.entry.Entry.{Entry}
use Rattle.run_data.specs.declared.entry.FrameView.{FrameView}
use Rattle.run_data.specs.declared.entry.FrameText.{FrameText}
use Rattle.run_data.specs.declared.entry.FrameText.TheVariants.{Opening, Closing, Bytes, Line}
use Rattle.run_data.specs.declared.job.Cause.{Cause}
use Rattle.p2p_wire.specs.declared.message.Message.{Message}
use Rattle.p2p_wire.specs.declared.message.Message.TheVariants.{CheckPresent, LockContent, Failure, Success}
use Rattle.p2p_wire.specs.Messages.{message_of, order_of}
use Rattle.run_model.specs.Said.{Said, Says, message_in, said_line}
use Rattle.step_facts.proofs.Ways.{is_answer}
use Rattle.run_model.specs.Frames.{FlyingFrame, SendingEntry, last_request, said_of, up_of, way_of}
use Rattle.run_model.specs.Drops.{cause_by_sender, cause_said}
use Rattle.past_facts.proofs.Heard.{Heard, Locked_at, Seen_there, heard_answer, heard_request}
use Rattle.run_model.specs.Run.{OwnPast}
use Rattle.node_model.specs.SetUp.{SetUp}
use Rattle.node_model.specs.Sessions.{line_in}
use Rattle.node_model.specs.Jobs.{Phase, AsksLock, AsksLook, AsksTime, Orders, GetsBytes, GetsData, GetsWord, PutsAnswer, PutsOffer, partner}
use Rattle.step_facts.proofs.ClientCounts.{LastIs, Request, awaits_of, last_for_copy, request}
use Rattle.step_facts.proofs.ClientLeaves.{awaits_true}
use Rattle.step_facts.proofs.ClientWays.{asked_by}
use Rattle.run_laws.proofs.ClientAwaits.{taken_last}
use Rattle.step_facts.proofs.Makers.{TakenBy}

-- ---- what SUCCESS says, by the last request

abbrev pub by_what : ℕ → Option Message → List Heard
by_what time (Some (LockContent key)) = Locked_at time key ∷ []
by_what time (Some (CheckPresent key)) = Seen_there key ∷ []
by_what time what = []

abbrev pub by_request : Option Request → List Heard
by_request None = []
by_request (Some x) = by_what x.time x.what

by_said : (time : ℕ) (m : Option Message) → heard_request time (said_line m) ≡ by_what time m
by_said time None = refl
by_said time (Some (LockContent key)) = refl
by_said time (Some (CheckPresent key)) = refl
by_said time (Some m) = refl

by_body : (time : ℕ) (body : FrameText) → heard_request time (message_in body) ≡ by_what time (line_in body)
unfolding message_in
by_body time Opening = refl
by_body time Closing = refl
by_body time (Bytes n) = refl
by_body time (Line text) = by_said time (message_of text)

success_hears : (o : Option FlyingFrame) → heard_answer (Says Success) o ≡ by_request (option_map asked_by o)
success_hears None = refl
success_hears (Some x) = by_body x.entry.time x.frame.body

-- what SUCCESS says, by the phase
abbrev pub by_phase : List ℕ → Phase → List Heard
by_phase key (AsksLock peer since) = Locked_at since key ∷ []
by_phase key (AsksLook peer) = Seen_there key ∷ []
by_phase key phase = []

-- whether a FAILURE refuses a look
abbrev pub refuses_look : Phase → Bool
refuses_look (AsksLook peer) = true
refuses_look phase = false

no_copy : (last : Option Request) → last_for_copy last ≡ false → by_request last ≡ []
no_copy None e = refl
no_copy (Some x) e = go x.what e
  where
    go : (what : Option Message) → last_for_copy (Some (request x.time what)) ≡ false → by_what x.time what ≡ []
    go (Some (LockContent key)) e = absurd (true≢false e)
    go (Some (CheckPresent key)) e = absurd (true≢false e)
    go what e = refl

order_hears : (time : ℕ) (deadline : Option ℕ) (key : List ℕ) → by_what time (Some (order_of deadline key)) ≡ []
order_hears time None key = refl
order_hears time (Some n) key = refl

pub last_hears : (key : List ℕ) (target : Option ℕ) (phase : Phase) (peer : ℕ) (last : Option Request) → partner target phase ≡ Some peer → awaits_of target phase peer ≡ true
    → LastIs key target phase peer last → by_request last ≡ by_phase key phase
last_hears key target (AsksLock p since) peer last on waits is = ap by_request (is (same_Some p peer on))
last_hears key target (AsksLook p) peer last on waits is = let x = is (same_Some p peer on) in ap by_request x.1
last_hears key target AsksTime peer last on waits is = let x = is on in ap by_request x.1
last_hears key target Orders peer last on waits is = let x = is on in ap by_request x.2 ∙ order_hears x.0 x.1 key
last_hears key target (PutsAnswer p start) peer last on waits is = let x = is (same_Some p peer on) in ap by_request x.1
last_hears key target (PutsOffer p) peer last on waits is = let x = is (same_Some p peer on) in ap by_request x.1
last_hears key target (GetsData p start) peer last on waits is = let x = is (same_Some p peer on) in ap by_request x.1
last_hears key target (GetsBytes p start size left) peer last on waits is = let x = is (same_Some p peer on) in ap by_request x.1
last_hears key target (GetsWord p start size) peer last on waits is = let x = is (same_Some p peer on) in ap by_request x.1
last_hears key target phase peer last on waits is = no_copy last (is waits)

-- **heard, by the phase**: SUCCESS that a job takes tells it what its phase asks for
pub takes_success : SentAreRead → (s : SetUp) (past : List Entry) → OwnPast s past → (e : Entry) (f : FrameView) → f.up ≡ false
    → (t : TakenBy s past e f) → message_in f.body ≡ Says Success → heard_answer (message_in f.body) (last_request past (up_of (way_of s.number f))) ≡ by_phase t.w.what.key t.w.phase
takes_success reads_back s past past_is e f down t success =
    let last = last_request past (up_of (way_of s.number f)) in
    let is : is_answer (message_in f.body) ≡ true = ap is_answer success in
    ap (λ (m : Said). heard_answer m last) success ∙ (success_hears last
    ∙ last_hears t.w.what.key t.w.what.peer t.w.phase t.peer (option_map asked_by last) t.on (awaits_true t.w.what.peer t.w.phase t.peer t.awaiting t.on)
    (taken_last reads_back s past past_is e f down is t (option_map asked_by last) refl))

-- no other message tells of a copy
pub takes_other : (m : Said) (last : Option FlyingFrame) → ((m ≡ Says Success) → ⊥) → heard_answer m last ≡ []
takes_other (Says Success) last other = absurd (other refl)
takes_other m last other = refl

-- ---- why there is none: FAILURE, by the phase

abbrev pub is_look : Option Message → Bool
is_look (Some (CheckPresent key)) = true
is_look what = false

abbrev pub last_is_look : Option Request → Bool
last_is_look None = false
last_is_look (Some x) = is_look x.what

abbrev pub cause_if : Bool → Option SendingEntry → Option Cause
cause_if true s = Some (cause_by_sender s)
cause_if false s = None

cause_line : (m : Option Message) (s : Option SendingEntry) → cause_said (Says Failure) (Some (said_line m)) s ≡ cause_if (is_look m) s
cause_line None s = refl
cause_line (Some (CheckPresent key)) s = refl
cause_line (Some m) s = refl

cause_body : (body : FrameText) (s : Option SendingEntry) → cause_said (Says Failure) (Some (message_in body)) s ≡ cause_if (is_look (line_in body)) s
unfolding message_in
cause_body Opening s = refl
cause_body Closing s = refl
cause_body (Bytes n) s = refl
cause_body (Line text) s = cause_line (message_of text) s

failure_says : (o : Option FlyingFrame) (s : Option SendingEntry) → cause_said (Says Failure) (option_map said_of o) s ≡ cause_if (last_is_look (option_map asked_by o)) s
failure_says None s = refl
failure_says (Some x) s = cause_body x.frame.body s

look_copy : (last : Option Request) → last_for_copy last ≡ false → last_is_look last ≡ false
look_copy None e = refl
look_copy (Some x) e = go x.what e
  where
    go : (what : Option Message) → last_for_copy (Some (request x.time what)) ≡ false → is_look what ≡ false
    go (Some (CheckPresent key)) e = absurd (true≢false e)
    go what e = refl

order_look : (deadline : Option ℕ) (key : List ℕ) → is_look (Some (order_of deadline key)) ≡ false
order_look None key = refl
order_look (Some n) key = refl

last_looks : (key : List ℕ) (target : Option ℕ) (phase : Phase) (peer : ℕ) (last : Option Request) → partner target phase ≡ Some peer → awaits_of target phase peer ≡ true
    → LastIs key target phase peer last → last_is_look last ≡ refuses_look phase
last_looks key target (AsksLock p since) peer last on waits is = ap last_is_look (is (same_Some p peer on))
last_looks key target (AsksLook p) peer last on waits is = let x = is (same_Some p peer on) in ap last_is_look x.1
last_looks key target AsksTime peer last on waits is = let x = is on in ap last_is_look x.1
last_looks key target Orders peer last on waits is = let x = is on in ap last_is_look x.2 ∙ order_look x.1 key
last_looks key target (PutsAnswer p start) peer last on waits is = let x = is (same_Some p peer on) in ap last_is_look x.1
last_looks key target (PutsOffer p) peer last on waits is = let x = is (same_Some p peer on) in ap last_is_look x.1
last_looks key target (GetsData p start) peer last on waits is = let x = is (same_Some p peer on) in ap last_is_look x.1
last_looks key target (GetsBytes p start size left) peer last on waits is = let x = is (same_Some p peer on) in ap last_is_look x.1
last_looks key target (GetsWord p start size) peer last on waits is = let x = is (same_Some p peer on) in ap last_is_look x.1
last_looks key target phase peer last on waits is = look_copy last (is waits)

-- **a cause, by the phase**: FAILURE that a job takes is a cause where its phase asks for a look
pub takes_failure : SentAreRead → (s : SetUp) (past : List Entry) → OwnPast s past → (e : Entry) (f : FrameView) → f.up ≡ false
    → (t : TakenBy s past e f) → message_in f.body ≡ Says Failure → (from : Option SendingEntry)
    → cause_said (message_in f.body) (option_map said_of (last_request past (up_of (way_of s.number f)))) from ≡ cause_if (refuses_look t.w.phase) from
takes_failure reads_back s past past_is e f down t failure from =
    let last = last_request past (up_of (way_of s.number f)) in
    let is : is_answer (message_in f.body) ≡ true = ap is_answer failure in
    ap (λ (m : Said). cause_said m (option_map said_of last) from) failure ∙ (failure_says last from ∙ ap (λ b. cause_if b from)
    (last_looks t.w.what.key t.w.what.peer t.w.phase t.peer (option_map asked_by last) t.on (awaits_true t.w.what.peer t.w.phase t.peer t.awaiting t.on)
    (taken_last reads_back s past past_is e f down is t (option_map asked_by last) refl)))
