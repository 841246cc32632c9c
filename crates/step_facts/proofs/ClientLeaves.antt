-- The steps of a job by what they take and send: each keeps what its phase says of requests and answers.
use Rattle.std.proofs.Common.{◌≡◌, ℕ, ◌+◌, Bool, true, false, List, [], ◌∷◌, Option, Some, None, inl, inr, refl, sym, ap, ◌∙◌, subst, arith}
use Rattle.std.specs.Prelude.{if◌then◌else◌}
use Rattle.std.proofs.lemmas.Bool.{true≢false, and_right}
use Rattle.run_data.specs.declared.entry.EntryKind.{EntryKind}
use Rattle.run_data.specs.declared.entry.FrameView.{FrameView}
use Rattle.run_data.specs.declared.entry.FrameText.{FrameText}
use Rattle.run_data.specs.declared.entry.FrameText.TheVariants.{Opening, Closing, Bytes, Line}
use Rattle.p2p_wire.specs.declared.message.Message.{Message}
use Rattle.p2p_wire.specs.Messages.{message_of, text_of}
use Rattle.node_model.specs.Ends.{EndName, end_takes, takes_at}
use Rattle.node_model.specs.Jobs
use Rattle.node_model.specs.Jobs.{Phase, Work, closed_part, job_end, partner, says, taken_message, talks, talks_on, after_frame}
use Rattle.node_model.specs.Look.{Effect}
use Rattle.node_model.specs.JobStep.{Turn, end_with, key_of, me, quietly, says_to, sends_to}
use Rattle.node_model.specs.Turns.{is_awaiting}
use Rattle.step_facts.proofs.ClientCounts.{last_away, none_is, Counted, Counts, LastIs, Request, Stays, IsLive, answers_here, answers_it, asks_for, awaits_of, counts_sends, counts_takes, is_answering, quiet_here, request, sends_here, takes_here, unit}
use Rattle.step_facts.proofs.ClientTurns.{EvenTo, alone_even, closed_alone, live_on, local_even, talker_phase, talker_slot, made_entry, rows_of, talk_even, talker}
use Rattle.step_facts.proofs.Plain.{option_at}

-- ---- counts

-- an answer that is taken
took_answer : (q : Counts) (body : FrameText) → is_answering body ≡ true → counts_takes q body ≡ record { asked = q.asked; got = q.got + 1; last = q.last }
took_answer q Opening e = absurd (cc)
took_answer q Closing e = absurd (cc)
took_answer q (Bytes n) e = absurd (cc)
took_answer q (Line text) e = rw e refl

-- any other frame of the opening
pub took_other : (q : Counts) (text : List ℕ) (m : Message) → message_of text ≡ Some m → answers_it (Some m) ≡ false → counts_takes q (Line text) ≡ q
took_other q text m is e = rw is (rw e refl)

sends_request : (time : ℕ) (q : Counts) (m : Message) → message_of (text_of m) ≡ Some m → asks_for (Some m) ≡ true
    → counts_sends time q (Line (text_of m)) ≡ record { asked = q.asked + 1; got = q.got; last = Some (request time (Some m)) }
sends_request time q m back e = rw back (rw e refl)

sends_other : (time : ℕ) (q : Counts) (m : Message) → message_of (text_of m) ≡ Some m → asks_for (Some m) ≡ false → counts_sends time q (Line (text_of m)) ≡ q
sends_other time q m back e = rw back (rw e refl)

pub unit_yes : (b : Bool) → b ≡ true → unit b ≡ 1
unit_yes b e = rw e refl

unit_no : (b : Bool) → b ≡ false → unit b ≡ 0
unit_no b e = rw e refl

pub awaits_true : (target : Option ℕ) (phase : Phase) (peer : ℕ) → is_awaiting phase ≡ true → partner target phase ≡ Some peer → awaits_of target phase peer ≡ true
awaits_true target phase peer waits on = rw (waits, on) (option_at (Some peer) peer refl)

pub awaits_none : (target : Option ℕ) (phase : Phase) (peer : ℕ) → partner target phase ≡ None → awaits_of target phase peer ≡ false
awaits_none target phase peer on = rw on (and_right (is_awaiting phase) false refl)

pub awaits_not : (target : Option ℕ) (phase : Phase) (peer : ℕ) → is_awaiting phase ≡ false → awaits_of target phase peer ≡ false
awaits_not target phase peer e = rw e refl

-- an answer comes, and nothing is awaited then
heard : (key : List ℕ) (target : Option ℕ) (phase next : Phase) (peer : ℕ) (q : Counts) (body : FrameText) → Counted key target phase peer q → awaits_of target phase peer ≡ true
    → is_answering body ≡ true → awaits_of target next peer ≡ false → ((l : Option Request) → LastIs key target next peer l) → Counted key target next peer (counts_takes q body)
heard key target phase next peer q body x was e now any =
    let one : unit (awaits_of target phase peer) ≡ 1 = unit_yes (awaits_of target phase peer) was in
    let none : unit (awaits_of target next peer) ≡ 0 = unit_no (awaits_of target next peer) now in
    let before : q.asked ≡ q.got + unit (awaits_of target phase peer) = x.balance in
    subst (Counted key target next peer) (sym (took_answer q body e)) (record { balance = omega (arith, one, none, before); last = any q.last })

-- a request goes out where none stands open
asked : (key : List ℕ) (target : Option ℕ) (next : Phase) (peer time : ℕ) (q : Counts) (m : Message) → q.asked ≡ q.got → awaits_of target next peer ≡ true
    → message_of (text_of m) ≡ Some m → asks_for (Some m) ≡ true → LastIs key target next peer (Some (request time (Some m))) → Counted key target next peer (counts_sends time q (Line (text_of m)))
asked key target next peer time q m even now back e last =
    let one : unit (awaits_of target next peer) ≡ 1 = unit_yes (awaits_of target next peer) now in
    subst (Counted key target next peer) (sym (sends_request time q m back e)) (record { balance = omega (arith, one, even); last = last })

-- after an answer, requests and answers are as many
even_then : (key : List ℕ) (target : Option ℕ) (phase : Phase) (peer : ℕ) (q : Counts) (body : FrameText) → Counted key target phase peer q → awaits_of target phase peer ≡ true
    → is_answering body ≡ true → (counts_takes q body).asked ≡ (counts_takes q body).got
even_then key target phase peer q body x was e =
    let one : unit (awaits_of target phase peer) ≡ 1 = unit_yes (awaits_of target phase peer) was in
    let before : q.asked ≡ q.got + unit (awaits_of target phase peer) = x.balance in
    subst (λ (c : Counts). c.asked ≡ c.got) (sym (took_answer q body e)) (omega (arith, one, before))

-- where none is awaited
no_more : (key : List ℕ) (target : Option ℕ) (phase : Phase) (peer : ℕ) (q : Counts) → Counted key target phase peer q → awaits_of target phase peer ≡ false → q.asked ≡ q.got
no_more key target phase peer q x was =
    let none : unit (awaits_of target phase peer) ≡ 0 = unit_no (awaits_of target phase peer) was in
    let before : q.asked ≡ q.got + unit (awaits_of target phase peer) = x.balance in
    omega (arith, none, before)

-- ---- steps that take a frame of the partner

pub record Taking (t : Turn) (f : FrameView) (peer : ℕ) : Type 0 where
  pub on : partner t.w.what.peer t.w.phase ≡ Some peer
  pub awaiting : is_awaiting t.w.phase ≡ true
  pub opened : (end_with t peer).opened ≡ true
  pub of_end : takes_at (job_end t.w peer) f ≡ true

-- the phase that a talk of this job leads to
abbrev pub Goes : Turn → Effect → Type 0
Goes t m = EvenTo t m (talks_on (rows_of t) (me t) (talker t m.taken) (made_entry t m) (partner t.w.what.peer t.w.phase)).phase

module _ (t : Turn) (kind : EntryKind) (f : FrameView) (peer : ℕ) (x : Taking t f peer) where
  was : awaits_of t.w.what.peer t.w.phase peer ≡ true
  was = awaits_true t.w.what.peer t.w.phase peer x.awaiting x.on

  -- an answer, and nothing is said
  pub hears_even : (next : Phase) → is_answering f.body ≡ true → ((after_frame (talker t (Some f)) f.body).phase ≡ next) → Stays t.w.what.peer next peer
      → awaits_of t.w.what.peer next peer ≡ false → ((l : Option Request) → LastIs (key_of t) t.w.what.peer next peer l) → Goes t (quietly kind (Some f))
  hears_even next e goes stays now any = talk_even t (quietly kind (Some f)) peer next x.on (takes_here t.w peer f x.of_end) goes stays
      (λ q fits l o. heard (key_of t) t.w.what.peer t.w.phase next peer q f.body (fits x.opened) was e now any)

  pub hears_to : (next : Phase) → is_answering f.body ≡ true → Stays t.w.what.peer next peer → awaits_of t.w.what.peer next peer ≡ false
      → ((l : Option Request) → LastIs (key_of t) t.w.what.peer next peer l) → EvenTo t (quietly kind (Some f)) next
  hears_to next e stays now any = local_even t (quietly kind (Some f)) next peer (takes_here t.w peer f x.of_end) (live_on t.w.what.peer t.w.phase peer x.on) (inr x.on) stays
      (λ q fits l o. heard (key_of t) t.w.what.peer t.w.phase next peer q f.body (fits x.opened) was e now any)

  pub tells_to : (m : Message) (next : Phase) → is_answering f.body ≡ true → message_of (text_of m) ≡ Some m → asks_for (Some m) ≡ false → Stays t.w.what.peer next peer
      → awaits_of t.w.what.peer next peer ≡ false → ((l : Option Request) → LastIs (key_of t) t.w.what.peer next peer l) → EvenTo t (says_to t kind (Some f) peer m) next
  tells_to m next e back asks stays now any = local_even t (says_to t kind (Some f) peer m) next peer (answers_here t.w peer f (end_with t peer) (Line (text_of m)) x.of_end)
      (live_on t.w.what.peer t.w.phase peer x.on) (inr x.on) stays
      (λ q fits l o. subst (Counted (key_of t) t.w.what.peer next peer) (sym (sends_other t.look.time (counts_takes q f.body) m back asks))
      (heard (key_of t) t.w.what.peer t.w.phase next peer q f.body (fits x.opened) was e now any))

  -- an answer, and the next request
  pub asks_even : (m : Message) (next : Phase) → is_answering f.body ≡ true → message_of (text_of m) ≡ Some m → asks_for (Some m) ≡ true
      → ((says (talker t (Some f)) t.look.time peer (taken_message (Some f)) m).phase ≡ next) → Stays t.w.what.peer next peer
      → awaits_of t.w.what.peer next peer ≡ true → LastIs (key_of t) t.w.what.peer next peer (Some (request t.look.time (Some m))) → Goes t (says_to t kind (Some f) peer m)
  asks_even m next e back asks goes stays now last = talk_even t (says_to t kind (Some f) peer m) peer next x.on (answers_here t.w peer f (end_with t peer) (Line (text_of m)) x.of_end)
      (ap (λ (o : Option Message). (Jobs.says_some (talker t (Some f)) t.look.time peer (taken_message (Some f)) o).phase) back ∙ goes) stays
      (λ q fits l o. asked (key_of t) t.w.what.peer next peer t.look.time (counts_takes q f.body) m (even_then (key_of t) t.w.what.peer t.w.phase peer q f.body (fits x.opened) was e) now back asks last)

  -- an answer, and a word that wants none
  pub tells_even : (m : Message) (next : Phase) → is_answering f.body ≡ true → message_of (text_of m) ≡ Some m → asks_for (Some m) ≡ false
      → ((says (talker t (Some f)) t.look.time peer (taken_message (Some f)) m).phase ≡ next) → Stays t.w.what.peer next peer
      → awaits_of t.w.what.peer next peer ≡ false → ((l : Option Request) → LastIs (key_of t) t.w.what.peer next peer l) → Goes t (says_to t kind (Some f) peer m)
  tells_even m next e back asks goes stays now any = talk_even t (says_to t kind (Some f) peer m) peer next x.on (answers_here t.w peer f (end_with t peer) (Line (text_of m)) x.of_end)
      (ap (λ (o : Option Message). (Jobs.says_some (talker t (Some f)) t.look.time peer (taken_message (Some f)) o).phase) back ∙ goes) stays
      (λ q fits l o. subst (Counted (key_of t) t.w.what.peer next peer) (sym (sends_other t.look.time (counts_takes q f.body) m back asks))
      (heard (key_of t) t.w.what.peer t.w.phase next peer q f.body (fits x.opened) was e now any))

  -- a frame that completes no answer
  pub keeps_even : (next : Phase) → ((q : Counts) → counts_takes q f.body ≡ q) → ((after_frame (talker t (Some f)) f.body).phase ≡ next) → Stays t.w.what.peer next peer
      → awaits_of t.w.what.peer next peer ≡ true → ((l : Option Request) → LastIs (key_of t) t.w.what.peer t.w.phase peer l → LastIs (key_of t) t.w.what.peer next peer l) → Goes t (quietly kind (Some f))
  keeps_even next same goes stays now any = talk_even t (quietly kind (Some f)) peer next x.on (takes_here t.w peer f x.of_end) goes stays
      (λ q fits l o. subst (Counted (key_of t) t.w.what.peer next peer) (sym (same q))
      (record { balance = (fits x.opened).balance ∙ ap (λ b. q.got + unit b) (was ∙ sym now); last = any q.last (fits x.opened).last }))

  -- a Close
  pub shut_even : f.body ≡ Closing → Goes t (quietly kind (Some f))
  shut_even e = talk_even t (quietly kind (Some f)) peer t.w.phase x.on (takes_here t.w peer f x.of_end) goes (inr x.on) (λ q fits l o. absurd (true≢false (sym o ∙ closed)))
    where
      closed : (end_takes (end_with t peer) f.epoch f.body).opened ≡ false
      closed = rw e refl

      goes : (after_frame (talker t (Some f)) f.body).phase ≡ t.w.phase
      goes = ap (λ (b : FrameText). (after_frame (talker t (Some f)) b).phase) e ∙ talker_phase t (Some f)

  -- an unexpected frame closes the connection
  pub wrong_even : Goes t (sends_to t kind (Some f) peer (Closing ∷ []))
  wrong_even = talk_even t (sends_to t kind (Some f) peer (Closing ∷ [])) peer t.w.phase x.on (answers_here t.w peer f (end_with t peer) Closing x.of_end)
      (talker_phase t (Some f)) (inr x.on) (λ q fits l o. absurd (true≢false (sym o)))

-- ---- steps that take none, on the partner's open connection

module _ (t : Turn) (kind : EntryKind) (peer : ℕ) (on : partner t.w.what.peer t.w.phase ≡ Some peer) where
  -- a Close
  pub closes_even : Goes t (sends_to t kind None peer (Closing ∷ []))
  closes_even = talk_even t (sends_to t kind None peer (Closing ∷ [])) peer t.w.phase on (sends_here t.w peer (end_with t peer) Closing)
      (talker_phase t None) (inr on) (λ q fits l o. absurd (true≢false (sym o)))

  -- bytes
  pub bytes_even : (n : ℕ) (next : Phase) → (end_with t peer).opened ≡ true → ((Jobs.puts_bytes n (talker t None).phase) ≡ next) → Stays t.w.what.peer next peer
      → awaits_of t.w.what.peer t.w.phase peer ≡ false → awaits_of t.w.what.peer next peer ≡ false → ((l : Option Request) → LastIs (key_of t) t.w.what.peer next peer l)
      → Goes t (sends_to t kind None peer (Bytes n ∷ []))
  bytes_even n next opened goes stays was now any = talk_even t (sends_to t kind None peer (Bytes n ∷ [])) peer next on (sends_here t.w peer (end_with t peer) (Bytes n)) goes stays
      (λ q fits l o. record { balance = (fits opened).balance ∙ ap (λ b. q.got + unit b) (was ∙ sym now); last = any q.last })

  -- a request
  pub sends_even : (m : Message) (next : Phase) → (end_with t peer).opened ≡ true → awaits_of t.w.what.peer t.w.phase peer ≡ false → message_of (text_of m) ≡ Some m → asks_for (Some m) ≡ true
      → ((says (talker t None) t.look.time peer None m).phase ≡ next) → Stays t.w.what.peer next peer
      → awaits_of t.w.what.peer next peer ≡ true → LastIs (key_of t) t.w.what.peer next peer (Some (request t.look.time (Some m))) → Goes t (says_to t kind None peer m)
  sends_even m next opened was back asks goes stays now last = talk_even t (says_to t kind None peer m) peer next on (sends_here t.w peer (end_with t peer) (Line (text_of m)))
      (ap (λ (o : Option Message). (Jobs.says_some (talker t None) t.look.time peer None o).phase) back ∙ goes) stays
      (λ q fits l o. asked (key_of t) t.w.what.peer next peer t.look.time q m (no_more (key_of t) t.w.what.peer t.w.phase peer q (fits opened) was) now back asks last)

  -- the connection was closed: that is handled as Close
  pub lost_even : (end_with t peer).opened ≡ false → Goes t (quietly kind None)
  lost_even shut = subst (λ (p : Option ℕ). EvenTo t m (talks_on (rows_of t) (me t) x (made_entry t m) p).phase) (sym on)
      (subst (λ (b : Bool). EvenTo t m (if b then talks (rows_of t) (me t) x (made_entry t m) [] else closed_part (me t) x peer x.part).phase) (sym closed)
      (local_even t m (closed_part (me t) x peer x.part).phase peer (quiet_here t.w peer) (live_on t.w.what.peer t.w.phase peer on) (inr on) (inl (closed_alone t.w.what.peer (me t) x peer x.part))
      (λ q fits l o. absurd (true≢false (sym o ∙ shut)))))
    where
      m : Effect
      m = quietly kind None

      x : Work
      x = talker t None

      closed : (t.ends (job_end x peer)).opened ≡ false
      closed = subst (λ (a : EndName). (t.ends a).opened ≡ false) (sym (ap (λ (s : ℕ). let a : EndName = record { peer = peer; slot = s; client = true } in a) (talker_slot t None))) shut

-- ---- steps of a job that stands on no connection

module _ (t : Turn) (alone : partner t.w.what.peer t.w.phase ≡ None) (live : IsLive t.w.phase) where
  none_awaited : (peer : ℕ) → awaits_of t.w.what.peer t.w.phase peer ≡ false
  none_awaited peer = awaits_none t.w.what.peer t.w.phase peer alone

  -- the connection is opened
  pub opens_even : (kind : EntryKind) (peer : ℕ) → Goes t (sends_to t kind None peer (Opening ∷ []))
  opens_even kind peer = alone_even t (sends_to t kind None peer (Opening ∷ [])) peer (Jobs.Opens peer) alone live (sends_here t.w peer (end_with t peer) Opening) refl (inr refl)
      (λ q fits l o. record { balance = let one : unit (awaits_of t.w.what.peer (Jobs.Opens peer) peer) ≡ 1 = unit_yes (awaits_of t.w.what.peer (Jobs.Opens peer) peer) (option_at (Some peer) peer refl) in omega (arith, one); last = λ e. refl })

  -- a request on one that is open
  pub first_even : (kind : EntryKind) (peer : ℕ) (m : Message) (next : Phase) → (end_with t peer).opened ≡ true → message_of (text_of m) ≡ Some m → asks_for (Some m) ≡ true
      → ((says (talker t None) t.look.time peer None m).phase ≡ next) → Stays t.w.what.peer next peer
      → awaits_of t.w.what.peer next peer ≡ true → LastIs (key_of t) t.w.what.peer next peer (Some (request t.look.time (Some m))) → Goes t (says_to t kind None peer m)
  first_even kind peer m next opened back asks goes stays now last = alone_even t (says_to t kind None peer m) peer next alone live (sends_here t.w peer (end_with t peer) (Line (text_of m)))
      (ap (λ (o : Option Message). (Jobs.says_some (talker t None) t.look.time peer None o).phase) back ∙ goes) stays
      (λ q fits l o. asked (key_of t) t.w.what.peer next peer t.look.time q m (no_more (key_of t) t.w.what.peer t.w.phase peer q (fits opened) (none_awaited peer)) now back asks last)

  -- nothing is taken nor sent
  pub still_even : (kind : EntryKind) (next : Phase) → partner t.w.what.peer next ≡ None → EvenTo t (quietly kind None) next
  still_even kind next none = local_even t (quietly kind None) next 0 (quiet_here t.w 0) live (inl alone) (inl none)
      (λ q fits l o. record { balance = (fits o).balance ∙ ap (λ b. q.got + unit b) (none_awaited 0 ∙ sym (awaits_none t.w.what.peer next 0 none)); last = last_away (key_of t) t.w.what.peer next 0 q.last (none_is (partner t.w.what.peer next) 0 none) })

-- a job that is to end next
pub over_even : (t : Turn) (m : Effect) (phase : Phase) → (IsLive phase → ⊥) → EvenTo t m phase
over_even t m phase dead p q fits = λ l. absurd (dead l)
