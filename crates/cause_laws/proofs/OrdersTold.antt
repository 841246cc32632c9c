-- A drop that lost its target says that it ordered exactly where an order entry of it stands.
use Rattle.std.proofs.Common.{◌≡◌, ℕ, ◌+◌, ◌-◌, ◌^◌, Bool, true, false, List, [], ◌∷◌, Option, Some, None, ◌⊎◌, inl, inr, refl, sym, ap, ◌∙◌, subst}
use Rattle.std.specs.Prelude.{if◌then◌else◌, ◌==◌, ◌&&◌, ◌||◌, nat_lt}
use Rattle.std.specs.List.{list_any}
use Rattle.std.proofs.lemmas.Bool.{true≢false, and_parts, or_right, eqb-true}
use Rattle.annex_base.specs.Lists.{Member}
use Rattle.annex_base.specs.declared.kinds.Call.{Call}
use Rattle.annex_base.specs.declared.kinds.Call.TheVariants.{PutFile, Unhold}
use Rattle.annex_base.specs.declared.kinds.Word.{Word}
use Rattle.annex_base.proofs.Conditions.{if_either, eqb_refl}
use Rattle.step_facts.proofs.Below.{SentAreRead}
use Rattle.drop_proof.specs.declared.rule.Side.{Side}
use Rattle.drop_proof.specs.declared.rule.Side.TheVariants.{Local, Remote}
use Rattle.run_data.specs.declared.entry.Entry.{Entry}
use Rattle.run_data.specs.declared.entry.EntryKind.{EntryKind}
use Rattle.run_data.specs.declared.entry.EntryKind.TheVariants.{Bar, Fault, Gain, Gone, Order, Share}
use Rattle.run_data.specs.declared.entry.FrameView.{FrameView}
use Rattle.run_data.specs.declared.entry.FrameText.{FrameText}
use Rattle.run_data.specs.declared.entry.FrameText.TheVariants.{Opening, Closing, Bytes, Line}
use Rattle.run_data.specs.declared.job.Outcome.{Outcome}
use Rattle.run_data.specs.declared.job.Outcome.TheVariants.{Copied, Got, Refused}
use Rattle.run_data.specs.declared.job.DropRefusal.TheVariants as refusals
use Rattle.p2p_wire.specs.declared.message.Message.{Message}
use Rattle.p2p_wire.specs.declared.message.Message.TheVariants.{Version, CheckPresent, LockContent, Remove, RemoveBefore, GetTimestamp, Timestamp, Get, Put, PutFrom, AlreadyHave, Data, Valid, Success, Failure, Error}
use Rattle.p2p_wire.specs.Messages.{order_of, message_of, text_of}
use Rattle.run_model.specs.Past.{is_of}
use Rattle.node_model.specs.Rows.{option_is}
use Rattle.run_model.specs.Frames.{is_job}
use Rattle.node_model.specs.Slots.{job_of}
use Rattle.run_model.specs.Causes.{is_order}
use Rattle.node_model.specs.SetUp.{SetUp}
use Rattle.run_model.specs.States.{rows_at, works}
use Rattle.node_model.specs.Ends.{end_after}
use Rattle.node_model.specs.Sessions.{line_in}
use Rattle.node_model.specs.Jobs
use Rattle.node_model.specs.Jobs.{AsksTime, Drops, Ends, Fresh, Gets, GetsBytes, GetsWord, Greets, Orders, Part, Phase, Puts, RowsAndEnds, Work, claims, closed_part, fault_of, fault_phase, first_look, gets_bytes, hears_frame, job_end, learns, listens, partner, put_from, puts_answer, puts_bytes, quiet, says, says_some, sends, side_of, taken_message, talks, talks_on, target_of, after_frame, after_line, after_transfer, after_failed_release, word_taken, work_kind}
use Rattle.node_model.specs.JobStep.{Turn, wrong_message}
use Rattle.node_model.specs.DropStep.{first_end, takes_time, times}
use Rattle.node_model.specs.Turns.{takes_answer}
use Rattle.node_model.specs.Found.{GivesOrder, HasDeadline, IsJobEntry}
use Rattle.run_model.specs.Run.{OwnPart, OwnPast, OwnRun}
use Rattle.drop_proof.specs.declared.rule.Need.{Need}
use Rattle.cause_laws.proofs.ClosedFound.{OrdersTold}
use Rattle.step_facts.proofs.ClientSteps
use Rattle.job_facts.proofs.PhaseFacts.{readies_place}
use Rattle.step_facts.proofs.BySteps.{earlier}
use Rattle.step_facts.proofs.JobSteps.{Origin, Stepped, invariant, stepped_found, stepped_runs, turn_at}
use Rattle.job_facts.proofs.WorkFits.{step_number, step_runs, works_fit}
use Rattle.job_facts.proofs.HeardSteps.{takes_line}
use Rattle.run_laws.proofs.Decisions.{stepped_of}
use Rattle.job_facts.proofs.Speaks
use Rattle.step_facts.proofs.Makers.{taken_of}
use Rattle.job_facts.proofs.PhasesFit.{works_speak}
use Rattle.run_laws.proofs.OrdersSent.{SentOrder, orderer}
use Rattle.run_laws.proofs.OrdersAnswered.{orders_stand}
use Rattle.run_laws.proofs.HeardTells.{made_as, stepped_own}

-- ---- a phase that has ordered

abbrev ordered_end : Outcome → Bool
ordered_end (Refused (refusals.Lost b)) = b
ordered_end o = false

abbrev has_order : Phase → Bool
has_order Orders = true
has_order (Ends o) = ordered_end o
has_order phase = false

abbrev Line' : List FrameView → Type 0
Line' sent = (g : FrameView) × Member g sent × ((deadline : Option ℕ) × (key : List ℕ) × (line_in g.body ≡ Some (order_of deadline key)))

-- it had ordered, or the entry says an order
abbrev Came : List FrameView → Phase → Phase → Type 0
Came sent old phase = has_order phase ≡ true → (has_order old ≡ true) ⊎ Line' sent

off : (sent : List FrameView) (old phase : Phase) → has_order phase ≡ false → Came sent old phase
off sent old phase n e = absurd (true≢false (sym e ∙ n))

kept : (sent : List FrameView) (old phase : Phase) → (has_order phase ≡ true → has_order old ≡ true) → Came sent old phase
kept sent old phase f e = inl (f e)

-- ---- what is said

abbrev SaysOrder : Work → Message → Phase → Type 0
SaysOrder w m phase = has_order phase ≡ true → (has_order w.phase ≡ true) ⊎ ((deadline : Option ℕ) × (key : List ℕ) × (m ≡ order_of deadline key))

more_off : (b : Bool) (x y : Phase) → has_order x ≡ false → has_order y ≡ false → has_order (if b then x else y) ≡ false
more_off true x y a c = a
more_off false x y a c = c

from_off : (peer left : ℕ) (taken : Option Message) → has_order (put_from peer left taken) ≡ false
from_off peer left (Some (PutFrom start)) = more_off (left == 0) (Jobs.PutsWord peer start) (Jobs.PutsBytes peer start start left) refl refl
from_off peer left taken = refl

answer_kept : (phase : Phase) → has_order (puts_answer phase) ≡ has_order phase
answer_kept (Jobs.PutsWord peer start) = refl
answer_kept phase = refl

word_kept : (w : Work) (word : Option Message) (phase : Phase) → w.phase ≡ phase → has_order (word_taken w word phase).phase ≡ true → has_order w.phase ≡ true
word_kept w word (GetsWord peer start size) is e = absurd (true≢false (sym e))
word_kept w word phase is e = e

says_order : (w : Work) (time peer : ℕ) (taken : Option Message) (m : Message) → SaysOrder w m (says w time peer taken m).phase
says_order w time peer taken (Version n) e = absurd (true≢false (sym e))
says_order w time peer taken (Get n file key) e = absurd (true≢false (sym e))
says_order w time peer taken (Put file key) e = absurd (true≢false (sym e))
says_order w time peer taken (Data n) e = absurd (true≢false (sym e ∙ from_off peer n taken))
says_order w time peer taken Valid e = inl (sym (answer_kept w.phase) ∙ e)
says_order w time peer taken (LockContent key) e = absurd (true≢false (sym e))
says_order w time peer taken (CheckPresent key) e = absurd (true≢false (sym e))
says_order w time peer taken GetTimestamp e = absurd (true≢false (sym e))
says_order w time peer taken (Remove key) e = inr (None, key, refl)
says_order w time peer taken (RemoveBefore n key) e = inr (Some n, key, refl)
says_order w time peer taken Failure e = inl (word_kept w taken w.phase refl e)
says_order w time peer taken m e = inl e

bytes_kept : (n : ℕ) (phase : Phase) → has_order (puts_bytes n phase) ≡ true → has_order phase ≡ true
bytes_kept n (Jobs.PutsBytes peer start at left) e = absurd (true≢false (sym e ∙ more_off (left - n == 0) (Jobs.PutsWord peer start) (Jobs.PutsBytes peer start (at + n) (left - n)) refl refl))
bytes_kept n phase e = e

sends_order : (w : Work) (time : ℕ) (taken : Option Message) (f : FrameView) (fs : List FrameView) → Came (f ∷ fs) w.phase (sends w time f.peer taken f.body).phase
sends_order w time taken f fs = go f.body refl
  where
    line : (text : List ℕ) → f.body ≡ Line text → (o : Option Message) → message_of text ≡ o → Came (f ∷ fs) w.phase (says_some w time f.peer taken o).phase
    line text is None read = kept (f ∷ fs) w.phase w.phase (λ e. e)
    line text is (Some m) read = λ e. elim (says_order w time f.peer taken m e) [
      | inl old ↦ inl old
      | inr x ↦ inr (f, inl refl, (x.0, x.1, ap line_in is ∙ read ∙ ap Some x.2))
    ]

    go : (body : FrameText) → f.body ≡ body → Came (f ∷ fs) w.phase (sends w time f.peer taken body).phase
    go Opening is = off (f ∷ fs) w.phase (Jobs.Opens f.peer) refl
    go Closing is = kept (f ∷ fs) w.phase w.phase (λ e. e)
    go (Bytes n) is = kept (f ∷ fs) w.phase (puts_bytes n w.phase) (bytes_kept n w.phase)
    go (Line text) is = line text is (message_of text) refl

-- ---- what is heard

transferred_off : (w : Work) (o : Outcome) → ordered_end o ≡ false → has_order (after_transfer w o).phase ≡ false
transferred_off w o n = if_either (λ (x : Work). has_order x.phase ≡ false) (Jobs.is_move w.what.kind) (record w { part = Drops; phase = Fresh; fills = false }) (record w { phase = Ends o; fills = false }) (λ e. refl) (λ e. n)

look_off : (r : ℕ) (w : Work) (part : Part) (here : Bool) (bar : Option ℕ) → has_order (first_look r w part here bar).phase ≡ false
look_off r w Gets true bar = transferred_off w (Got None None) refl
look_off r w Drops here bar = refl
look_off r w Gets false bar = refl
look_off r w Puts here bar = refl

quiet_kept : (rows : RowsAndEnds) (r : ℕ) (w : Work) (phase : Phase) → has_order (quiet rows r w phase).phase ≡ true → has_order w.phase ≡ true
quiet_kept rows r w Fresh e = absurd (true≢false (sym e ∙ look_off r w w.part (rows.present w.what.key) (rows.bar w.what.key)))
quiet_kept rows r w Jobs.Next e = absurd (true≢false (sym e))
quiet_kept rows r w phase e = e

listens_kept : (w : Work) (phase : Phase) (m : Message) → has_order (listens w phase m).phase ≡ true → has_order w.phase ≡ true
listens_kept w (Jobs.AsksLock peer since) Success e = absurd (true≢false (sym e))
listens_kept w (Jobs.AsksLook peer) Success e = absurd (true≢false (sym e))
listens_kept w (Jobs.AsksLook peer) Failure e = absurd (true≢false (sym e))
listens_kept w Orders Success e = absurd (true≢false (sym e))
listens_kept w Orders Failure e = absurd (true≢false (sym e))
listens_kept w (Greets peer) (Version n) e = absurd (true≢false (sym e))
listens_kept w (Jobs.GetsData peer start) (Data n) e = absurd (true≢false (sym e ∙ more_off (n == 0) (GetsWord peer start start) (GetsBytes peer start start n) refl refl))
listens_kept w (Jobs.PutsOffer peer) AlreadyHave e = absurd (true≢false (sym e ∙ transferred_off w (Copied None) refl))
listens_kept w (Jobs.PutsOffer peer) (Error text) e = absurd (true≢false (sym e))
listens_kept w (Jobs.PutsOffer peer) Failure e = absurd (true≢false (sym e))
listens_kept w (Jobs.PutsAnswer peer start) Success e = absurd (true≢false (sym e ∙ transferred_off w (Copied (Some start)) refl))
listens_kept w (Jobs.PutsAnswer peer start) Failure e = absurd (true≢false (sym e))
listens_kept w phase m e = e

got_kept : (n : ℕ) (phase : Phase) → has_order (gets_bytes n phase) ≡ true → has_order phase ≡ true
got_kept n (GetsBytes peer start size left) e = absurd (true≢false (sym e ∙ more_off (left - n == 0) (GetsWord peer start (size + n)) (GetsBytes peer start (size + n) (left - n)) refl refl))
got_kept n phase e = e

took_kept : (w : Work) (body : FrameText) → has_order (after_frame w body).phase ≡ true → has_order w.phase ≡ true
took_kept w (Bytes n) e = got_kept n w.phase e
took_kept w (Line text) e = go (message_of text) e
  where
    go : (o : Option Message) → has_order (after_line w o).phase ≡ true → has_order w.phase ≡ true
    go None e = e
    go (Some m) e = listens_kept w w.phase m e
took_kept w Opening e = e
took_kept w Closing e = e

ordered_kept : (phase : Phase) → Jobs.is_ordered phase ≡ true → has_order phase ≡ true
ordered_kept Orders e = refl
ordered_kept phase e = absurd (true≢false (sym e))

closed_kept : (r : ℕ) (w : Work) (peer : ℕ) (part : Part) → has_order (closed_part r w peer part).phase ≡ true → has_order w.phase ≡ true
closed_kept r w peer Gets e = absurd (true≢false (sym e))
closed_kept r w peer Puts e = absurd (true≢false (sym e))
closed_kept r w peer Drops e = go (target_of r w == peer) e
  where
    go : (b : Bool) → has_order (if b then Jobs.to_phase w (Ends (Refused (refusals.Lost (Jobs.is_ordered w.phase)))) else Jobs.hears w peer (Jobs.Lacks Rattle.run_data.specs.declared.job.Cause.TheVariants.Closed)).phase ≡ true → has_order w.phase ≡ true
    go true e = ordered_kept w.phase e
    go false e = absurd (true≢false (sym e))

-- ---- an entry of the job

talks_came : (rows : RowsAndEnds) (r : ℕ) (w : Work) (e : Entry) (fs : List FrameView) → Came fs w.phase (talks rows r w e fs).phase
talks_came rows r w e (f ∷ fs) = sends_order w e.time (taken_message e.taken) f fs
talks_came rows r w e [] = go e.taken
  where
    go : (o : Option FrameView) → Came [] w.phase (hears_frame rows r w o).phase
    go None = kept [] w.phase (quiet rows r w w.phase).phase (quiet_kept rows r w w.phase)
    go (Some f) = kept [] w.phase (after_frame w f.body).phase (took_kept w f.body)

on_came : (rows : RowsAndEnds) (r : ℕ) (w : Work) (e : Entry) (p : Option ℕ) → Came e.sent w.phase (talks_on rows r w e p).phase
on_came rows r w e None = talks_came rows r w e e.sent
on_came rows r w e (Some peer) = if_either (λ (x : Work). Came e.sent w.phase x.phase) (end_after (job_end w peer) (rows.ends (job_end w peer)) e).opened (talks rows r w e e.sent) (closed_part r w peer w.part)
    (λ o. talks_came rows r w e e.sent) (λ o. kept e.sent w.phase (closed_part r w peer w.part).phase (closed_kept r w peer w.part))

fault_kept : (r : ℕ) (w : Work) (part : Part) (side : Side) (phase : Phase) → has_order (fault_phase r w part side phase).phase ≡ false
fault_kept r w Drops Remote Fresh = refl
fault_kept r w part side phase = ended w.part
  where
    ended : (p : Part) → ordered_end (Jobs.stores_fault p) ≡ false
    ended Drops = refl
    ended Gets = refl
    ended Puts = refl

unheld_kept : (w : Work) (time : ℕ) (phase : Phase) → has_order (after_failed_release w time phase).phase ≡ true → has_order w.phase ≡ true
unheld_kept w time AsksTime e = absurd (true≢false (sym e))
unheld_kept w time phase e = e

call_kept : (r : ℕ) (w : Work) (time : ℕ) (call : Call) → has_order (fault_of r w time call).phase ≡ true → has_order w.phase ≡ true
call_kept r w time PutFile e = e
call_kept r w time Unhold e = unheld_kept w time w.phase e
call_kept r w time call e = absurd (true≢false (sym e ∙ fault_kept r w w.part (side_of w) w.phase))

gained_kept : (w : Work) (phase : Phase) → has_order (Jobs.after_gain w phase).phase ≡ true → has_order w.phase ≡ true
gained_kept w (GetsWord peer start size) e = absurd (true≢false (sym e ∙ transferred_off w (Got (Some peer) (Some start)) refl))
gained_kept w phase e = e

kind_came : (rows : RowsAndEnds) (r : ℕ) (w : Work) (e : Entry) (kind : EntryKind) → Came e.sent w.phase (work_kind rows r w e kind).phase
kind_came rows r w e (Fault call owner) = kept e.sent w.phase (fault_of r w e.time call).phase (call_kept r w e.time call)
kind_came rows r w e (Bar job need key) = off e.sent w.phase Jobs.Next refl
kind_came rows r w e (Share hold end owner key) = off e.sent w.phase Jobs.Next refl
kind_came rows r w e (Gone source key) = off e.sent w.phase Jobs.Removed refl
kind_came rows r w e (Gain source size key) = kept e.sent w.phase (Jobs.after_gain w w.phase).phase (gained_kept w w.phase)
kind_came rows r w e kind =
    let y = learns (claims w w.part w.phase) w.phase e.taken in
    subst (λ (q : Phase). Came e.sent q (talks_on rows r y e (partner w.what.peer w.phase)).phase) (readies_place w e.taken).1 (on_came rows r y e (partner w.what.peer w.phase))

-- ---- an order entry stands

abbrev Has : List Entry → ℕ → ℕ → Bool
Has past r j = list_any (λ e. is_job r j e && is_order e.kind) past

abbrev Told : SetUp → List Entry → Work → Type 0
Told s past w = has_order w.phase ≡ true → Has past s.number w.number ≡ true

orders_entry : (s : SetUp) (past : List Entry) → OwnRun s past → (w : Work) → Member w (works past s.number) → Told s past w
orders_entry s past run w m = invariant s (Told s) (λ p e is x n was h. or_right (is_job s.number x.number e && is_order e.kind) (Has p s.number x.number) (was h)) own past run w m
  where
    own : (p : List Entry) (e : Entry) → OwnRun s (e ∷ p) → is_of s.number e ≡ true → ((x : Work) → Member x (works p s.number) → Told s p x) → (x : Work) → Origin s p e x → Told s (e ∷ p) x
    own p e r is was x (inl b) h = absurd (true≢false (sym h ∙ ap (λ (y : Work). has_order y.phase) b.work_is))
    own p e r is was x (inr (inl b)) h = or_right (is_job s.number x.number e && is_order e.kind) (Has p s.number x.number) (was x b.ran h)
    own p e r is was x (inr (inr b)) h =
        let v = b.by.w in
        elim (kind_came (rows_at p s.number) s.number v e e.kind (sym (ap (λ (y : Work). has_order y.phase) b.work_is) ∙ h)) [
          | inl old ↦ subst (λ n. Has (e ∷ p) s.number n ≡ true) (sym (step_number s p e x b)) (or_right (is_job s.number v.number e && is_order e.kind) (Has p s.number v.number) (was v (step_runs s p e x b) old))
          | inr z ↦ subst (λ n. Has (e ∷ p) s.number n ≡ true) (sym (step_number s p e x b)) (now v (stepped_own s p e b.by) z)
        ]
      where
        now : (v : Work) → is_job s.number v.number e ≡ true → Line' e.sent → Has (e ∷ p) s.number v.number ≡ true
        now v its z =
            let mine = r.0 is in
            let o = orderer s p mine.0 e v.number z.0 mine.1 (record { mine = its; sent = z.1; up = (Speaks.speaks s p e b.by z.0 z.1).1; deadline = z.2.0; key = z.2.1; line = z.2.2 }) in
            let kind : is_order e.kind ≡ true = ap is_order o.order.kind_is in
            rw (its, kind) refl

-- ---- each order entry says its order

-- a deadline is given for a time that is taken
time_small : (t : Turn) (f : FrameView) (peer n : ℕ) (side : Side) → side ≡ Remote → (kind : EntryKind) → (takes_time t f peer n side).kind ≡ kind → is_order kind ≡ true → nat_lt n (2 ^ 61) ≡ true
time_small t f peer n Local is kind k o = absurd (cc)
time_small t f peer n Remote is kind k o = go (nat_lt n (2 ^ 61)) k
  where
    go : (b : Bool) → (if b then times t f n (first_end t) else wrong_message t f peer).kind ≡ kind → b ≡ true
    go true k = refl
    go false k = absurd (true≢false (sym o ∙ ap is_order (sym k)))

module _ (reads_back : SentAreRead) (s : SetUp) (past : List Entry) (words : ℕ → Option Word) (e : Entry) (h : OwnPast s past) (own : OwnPart s past words e) (j peer : ℕ) (deadline : Option ℕ) (need : Need) (key : List ℕ) (kind : e.kind ≡ Order j peer deadline need key) where
  by : Stepped s past e
  by = stepped_of s past words e own j (Order j peer deadline need key) kind (eqb_refl j)

  abbrev t : Turn
  t = turn_at s past e by

  found : GivesOrder t j peer deadline need key by.made.taken by.made.sent
  found = subst (IsJobEntry t by.made) (sym (ap (λ (y : Entry). y.kind) by.is) ∙ kind) (stepped_found s past e by).found

  read : message_of (text_of (order_of deadline by.w.what.key)) ≡ Some (order_of deadline by.w.what.key)
  read = go deadline found.timed kind
    where
      speak : ClientSteps.Speaks t
      speak = works_speak reads_back s past by.look h by.small by.w (stepped_runs s past e by)

      go : (d : Option ℕ) → HasDeadline t by.made.taken d → e.kind ≡ Order j peer d need key → message_of (text_of (order_of d by.w.what.key)) ≡ Some (order_of d by.w.what.key)
      go None timed k = speak.remove
      go (Some d) (f, took_it, phase, (n, first, told, end, soon, same)) k =
          let taken : e.taken ≡ Some f = ap (λ (y : Entry). y.taken) by.is ∙ took_it in
          let fit = works_fit s past h.run by.w (stepped_runs s past e by) in
          let q = (taken_of s past e by f taken).peer in
          let made : by.made ≡ takes_time t f q n (side_of by.w) = made_as reads_back s past e by fit f taken ∙ takes_line t q f (Timestamp n) AsksTime phase told ∙ ap (λ (x : Part). takes_answer t f q x AsksTime (Timestamp n)) found.part_is in
          let small : nat_lt n (2 ^ 61) ≡ true = time_small t f q n (side_of by.w) found.side (Order j peer (Some d) need key) (sym (ap (λ m. m.kind) made) ∙ sym (ap (λ (y : Entry). y.kind) by.is) ∙ k) refl in
          subst (λ z. message_of (text_of (RemoveBefore z by.w.what.key)) ≡ Some (RemoveBefore z by.w.what.key)) (sym same) (speak.before n first small end soon)

  abbrev g : FrameView
  g = record { peer = peer; slot = by.w.slot; up = true; epoch = (Rattle.node_model.specs.Ends.end_sends (Rattle.node_model.specs.JobStep.end_with t peer) (Line (text_of (order_of deadline key)))).epoch; seq = (Rattle.node_model.specs.Ends.end_sends (Rattle.node_model.specs.JobStep.end_with t peer) (Line (text_of (order_of deadline key)))).sent; body = Line (text_of (order_of deadline key)) }

  sent_now : SentOrder (e ∷ past) s.number by.w.number g
  sent_now = record {
    x = e;
    before = past;
    stands = inl (refl, refl);
    mine = stepped_own s past e by;
    sent = subst (Member g) (sym (ap (λ (y : Entry). y.sent) by.is ∙ found.sent_is)) (inl refl);
    up = refl;
    deadline = deadline;
    key = key;
    line = subst (λ k. message_of (text_of (order_of deadline k)) ≡ Some (order_of deadline k)) (sym found.key_is) read;
  }

  number_is : by.w.number ≡ j
  number_is = sym found.number_is

  packed : (i : ℕ) → j ≡ i → (g : FrameView) × SentOrder (e ∷ past) s.number i g
  packed i at = (g, subst (λ n. SentOrder (e ∷ past) s.number n g) (number_is ∙ at) sent_now)

order_kind : (kind : EntryKind) → is_order kind ≡ true → (j peer : ℕ) × (deadline : Option ℕ) × (need : Need) × (key : List ℕ) × (kind ≡ Order j peer deadline need key)
order_kind (Order j peer deadline need key) e = (j, peer, deadline, need, key, refl)
order_kind kind e = absurd (true≢false (sym e))

sent_order : SentAreRead → (s : SetUp) (past : List Entry) → OwnPast s past → (j : ℕ) → Has past s.number j ≡ true → (g : FrameView) × SentOrder past s.number j g
sent_order reads_back s [] h j e = absurd (true≢false (sym e))
sent_order reads_back s (x ∷ past) h j e = go (λ old. sent_order reads_back s past (earlier s past x h) j old) (is_job s.number j x && is_order x.kind) refl e
  where
    go : (Has past s.number j ≡ true → (g : FrameView) × SentOrder past s.number j g) → (b : Bool) → (is_job s.number j x && is_order x.kind) ≡ b → (b || Has past s.number j) ≡ true → (g : FrameView) × SentOrder (x ∷ past) s.number j g
    go more false is o = let z = more o in (z.0, record { x = z.1.x; before = z.1.before; stands = inr z.1.stands; mine = z.1.mine; sent = z.1.sent; up = z.1.up; deadline = z.1.deadline; key = z.1.key; line = z.1.line })
    go more true is o =
        let both = and_parts (is_job s.number j x) (is_order x.kind) is in
        let own = (h.run.0 (and_parts (is_of s.number x) (option_is (job_of x.kind) j) both.0).0) in
        let k = order_kind x.kind both.1 in
        let at : k.0 ≡ j = eqb-true k.0 j (subst (λ q. option_is (job_of q) j ≡ true) k.5 (and_parts (is_of s.number x) (option_is (job_of x.kind) j) both.0).1) in
        packed reads_back s past own.0 x (earlier s past x h) own.1 k.0 k.1 k.2 k.3 k.4 k.5 j at

-- **OrdersTold**, by own parts alone
pub orders_told : SentAreRead → (s : SetUp) (past : List Entry) → OwnPast s past → OrdersTold s past
orders_told reads_back s past h w m true at = orders_entry s past h.run w m (ap has_order at)
orders_told reads_back s past h w m false at = go (Has past s.number w.number) refl
  where
    go : (b : Bool) → Has past s.number w.number ≡ b → b ≡ false
    go false e = refl
    go true e =
        let z = sent_order reads_back s past h w.number e in
        let o : Rattle.run_laws.proofs.OrdersAnswered.OrderIs s past w z.0 (Ends (Refused (refusals.Lost false))) = subst (Rattle.run_laws.proofs.OrdersAnswered.OrderIs s past w z.0) at (orders_stand reads_back s past h w m z.0 z.1).1 in
        absurd o
