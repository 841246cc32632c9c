-- In a run the answer that a job takes was sent by the entry of the server that took the job's last request on that way, and is one
-- that the request may have.
use Rattle.std.proofs.Common.{◌≡◌, ℕ, true, false, List, length, Some, refl, ap, ◌∙◌, subst}
use Rattle.annex_base.specs.Lists.{Each}
use Rattle.step_facts.proofs.Below.{SentAreRead}
use Rattle.run_data.specs.declared.entry.Entry.{Entry}
use Rattle.run_data.specs.declared.entry.EntryKind.{EntryKind}
use Rattle.run_data.specs.declared.entry.FrameView.{FrameView}
use Rattle.run_data.specs.declared.run.Run.{Run}
use Rattle.run_data.specs.Repos.{IsSetUp}
use Rattle.run_model.specs.Past.{is_of}
use Rattle.p2p_wire.specs.declared.message.Message.{Message}
use Rattle.p2p_wire.specs.declared.message.Message.TheVariants.{Failure}
use Rattle.run_model.specs.Said.{Says, is_request, message_in}
use Rattle.step_facts.proofs.Ways.{is_answer, answers, way_from}
use Rattle.run_model.specs.Frames.{FlyingFrame, MayTake, last_request, said_of, sender_of, taken_count, taken_if, up_of, way_of}
use Rattle.run_model.specs.Run.{RunPast, RunStep, set_up}
use Rattle.run_laws.proofs.SaidDown.{Alike}
use Rattle.run_laws.proofs.SessionAnswers.{AnswerFits, Answering}
use Rattle.step_facts.proofs.Flights.{sending}
use Rattle.past_facts.proofs.Turns.{right_turn}
use Rattle.past_facts.proofs.Told.{message_at, one_answers, prefixes, sends_member, sends_on, up_at, way_sent, way_up}
use Rattle.run_laws.proofs.AnswersTurn.{answers_turn, is_plain, plain_completes}
use Rattle.run_laws.proofs.FromStep.{meets, message_past}
use Rattle.past_facts.proofs.OwnRuns.{own_past, part_of, step_at}

-- **the last request was taken by the sender of the answer**
pub record AnswerOf (past : List Entry) (a : ℕ) (f : FrameView) (it : FlyingFrame) (k : Message) : Type 0 where
  pub request : FlyingFrame
  pub last : last_request past (up_of (way_of a f)) ≡ Some request
  pub asked : Message
  pub asked_is : said_of request ≡ Says asked
  pub answering : Answering asked it.entry.kind k
  pub g : FrameView
  pub taken_is : it.entry.taken ≡ Some g
  pub body_is : request.frame.body ≡ g.body

module _ (reads_back : SentAreRead) (run : Run) (repos : Each IsSetUp run.repos) where
  -- of an answer that is neither to an opening nor to GET
  pub answer_of : (past : List Entry) (e : Entry) (a : ℕ) (f : FrameView) (k : Message) → RunPast (set_up run) past → RunStep (set_up run) past e → is_of a e ≡ true → e.taken ≡ Some f → f.up ≡ false
      → message_in f.body ≡ Says k → is_plain k ≡ true → (t : MayTake past (way_of a f) f) → AnswerOf past a f t.it k
  answer_of past e a f k h step is takes up says' plain t =
      let w = way_of a f in
      let x = t.it.entry in
      let before = t.it.before in
      let r = sender_of w in
      let all = message_past reads_back run repos past h in
      let s = sending past w (taken_count past w) t.it t.next in
      let at = step_at run past x before h s.occurs in
      let part = part_of (set_up run) before x r at.0 s.repo_is in
      let g_up : t.it.frame.up ≡ false = up_at w x t.it.frame false s.sends up in
      let g_says : message_in t.it.frame.body ≡ Says k = message_at t.it.frame.body f.body (Says k) t.body_is says' in
      let turn = answers_turn reads_back (set_up run r) before part.words x t.it.frame k (own_past run repos r before at.1) part.own (sends_member w x t.it.frame s.sends) g_up g_says plain in
      let way : way_from r t.it.frame ≡ w = way_sent w t.it.frame (sends_on w x t.it.frame s.sends) in
      let up_way : way_of r turn.f ≡ up_of w = way_up r turn.f t.it.frame w way turn.back turn.from_client in
      let asked' : MayTake before (way_of r turn.f) turn.f = part.frames.takes turn.f turn.takes_it in
      let asked : MayTake before (up_of w) turn.f = subst (λ v. MayTake before v turn.f) up_way asked' in
      let turn' : length (answers before w) ≡ taken_if is_request before (up_of w) =
      subst (λ v. length (answers before v) ≡ taken_if is_request before (up_of w)) way (subst (λ v. length (answers before (way_from r t.it.frame)) ≡ taken_if is_request before v) up_way turn.turn) in
      let answer : is_answer (message_in f.body) ≡ true = ap is_answer says' ∙ plain_completes k plain in
      let awaits = ((meets reads_back run repos past e h step).own a is).awaits f takes up answer in
      record {
        request = asked.it;
        last = right_turn past w f turn.f (prefixes run.repos past w all) (prefixes run.repos past (up_of w) all) (one_answers run.repos past w all) t answer awaits turn' asked turn.request;
        asked = turn.asked;
        asked_is = message_at asked.it.frame.body turn.f.body (Says turn.asked) asked.body_is turn.asked_is;
        answering = turn.answering;
        g = turn.f;
        taken_is = turn.takes_it;
        body_is = asked.body_is;
      }

-- ---- FAILURE

alike_failure : (m : Message) → Alike m Failure → m ≡ Failure
alike_failure Failure h = refl
alike_failure m h = absurd h

pub failure_fits : (asked : Message) (kind : EntryKind) → Answering asked kind Failure → AnswerFits asked kind Failure
failure_fits asked kind x = subst (AnswerFits asked kind) (alike_failure x.m x.alike) x.fits
