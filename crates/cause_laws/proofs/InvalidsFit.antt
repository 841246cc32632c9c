-- In a run the INVALID that a job takes answers a GET that its peer took by an entry that found the content absent, or shorter than the place
-- asked for.
use Rattle.std.proofs.Common.{◌≡◌, ℕ, ◌+◌, true, false, List, length, Some, refl, sym, ap, ◌∙◌, subst, arith}
use Rattle.std.specs.Prelude.{slice_get}
use Rattle.std.proofs.lemmas.Option.{same_Some}
use Rattle.annex_base.specs.Lists.{Each}
use Rattle.step_facts.proofs.Below.{SentAreRead}
use Rattle.run_data.specs.declared.entry.Entry.{Entry}
use Rattle.run_data.specs.declared.entry.FrameView.{FrameView}
use Rattle.run_data.specs.declared.run.Run.{Run}
use Rattle.run_data.specs.Repos.{IsSetUp}
use Rattle.p2p_wire.specs.declared.message.Message.TheVariants.{Get, Invalid}
use Rattle.run_model.specs.Past.{is_of}
use Rattle.run_model.specs.Said.{Says, is_request, message_in}
use Rattle.run_model.specs.Frames.{FlyingFrame, MayTake, Way, last_request, said_of, sender_of, frames_sent, taken_count, taken_if, up_of, way_of}
use Rattle.run_model.specs.Causes.{TookGet}
use Rattle.run_model.specs.Run.{RunPast, RunStep, set_up}
use Rattle.run_model.specs.States.{content}
use Rattle.past_facts.proofs.OwnRuns.{step_at, own_past, part_of}
use Rattle.cause_laws.proofs.ClosedFound.{InvalidsFit}
use Rattle.dialogue_facts.proofs.Contents.{below}
use Rattle.step_facts.proofs.Flights.{occurs_earlier, sending}
use Rattle.run_laws.proofs.FromStep.{meets, message_past}
use Rattle.cause_laws.proofs.InvalidsTurn.{InvalidInTurn, invalids_turn}
use Rattle.past_facts.proofs.Told.{message_at, one_answers, prefixes, sends_member, sends_on, up_at, way_sent, way_up}
use Rattle.past_facts.proofs.Turns.{turn_of}
use Rattle.step_facts.proofs.Ways.{answers, is_answer, way_from}

server_is : (r : ℕ) (f : FrameView) → f.up ≡ false → sender_of (way_of r f) ≡ f.peer
server_is r f down = rw down refl

-- the same frame, on the same way
on_way-same : (before : List Entry) (g : FrameView) (v u : Way) → v ≡ u → (comes : MayTake before v g) → (asked : MayTake before u g) × (asked.it ≡ comes.it)
on_way-same before g v u same comes = (
  record {
    it = comes.it;
    next = subst (λ w. slice_get (frames_sent before w) (taken_count before w) ≡ Some comes.it) same comes.next;
    seq_is = subst (λ w. g.seq ≡ taken_count before w + 1) same comes.seq_is;
    body_is = comes.body_is;
  },
  refl,
)

-- **the GET that INVALID answers**
pub record InvalidOf (past : List Entry) (r : ℕ) (f : FrameView) : Type 0 where
  pub request : FlyingFrame
  pub last : last_request past (up_of (way_of r f)) ≡ Some request
  pub start : ℕ
  pub file : List ℕ
  pub key : List ℕ
  pub asked_is : said_of request ≡ Says (Get start file key)
  pub took : TookGet past (sender_of (way_of r f)) start key request

module _ (reads_back : SentAreRead) (run : Run) (repos : Each IsSetUp run.repos) where
  invalid_of : (past : List Entry) (e : Entry) (a : ℕ) (f : FrameView) → RunPast (set_up run) past → RunStep (set_up run) past e → is_of a e ≡ true → e.taken ≡ Some f → f.up ≡ false
      → message_in f.body ≡ Says Invalid → (t : MayTake past (way_of a f) f) → InvalidOf past a f
  invalid_of past e a f h step is takes up says' t =
      let w = way_of a f in
      let x = t.it.entry in
      let before = t.it.before in
      let r = sender_of w in
      let all = message_past reads_back run repos past h in
      let s = sending past w (taken_count past w) t.it t.next in
      let at = step_at run past x before h s.occurs in
      let part = part_of (set_up run) before x r at.0 s.repo_is in
      let g_up : t.it.frame.up ≡ false = up_at w x t.it.frame false s.sends up in
      let g_says : message_in t.it.frame.body ≡ Says Invalid = message_at t.it.frame.body f.body (Says Invalid) t.body_is says' in
      let turn : InvalidInTurn r before t.it.frame = invalids_turn reads_back (set_up run r) before part.words x t.it.frame (own_past run repos r before at.1) part.own (sends_member w x t.it.frame s.sends) g_up g_says in
      let way : way_from r t.it.frame ≡ w = way_sent w t.it.frame (sends_on w x t.it.frame s.sends) in
      let up_way : way_of r turn.f ≡ up_of w = way_up r turn.f t.it.frame w way turn.back turn.from_client in
      let occurs = occurs_earlier past x turn.entry before turn.before s.occurs turn.occurs in
      let get = step_at run past turn.entry turn.before h occurs in
      let comes : MayTake turn.before (way_of r turn.f) turn.f = (part_of (set_up run) turn.before turn.entry r get.0 turn.own).frames.takes turn.f turn.takes_it in
      let asked = on_way-same turn.before turn.f (way_of r turn.f) (up_of w) up_way comes in
      let turn' : length (answers before w) ≡ taken_if is_request turn.before (up_of w) =
      subst (λ v. length (answers before v) ≡ taken_if is_request turn.before (up_of w)) way (subst (λ v. length (answers before (way_from r t.it.frame)) ≡ taken_if is_request turn.before v) up_way turn.turn) in
      let answer : is_answer (message_in f.body) ≡ true = ap is_answer says' in
      let awaits = ((meets reads_back run repos past e h step).own a is).awaits f takes up answer in
      let found = turn_of past w f turn.f (prefixes run.repos past w all) (prefixes run.repos past (up_of w) all) (one_answers run.repos past w all) t answer awaits turn.entry turn.before occurs turn' asked.0 (ap is_request turn.asked_is) in
      record {
        request = comes.it;
        last = found ∙ ap (λ z. Some z) asked.1;
        start = turn.start;
        file = turn.file;
        key = turn.key;
        asked_is = message_at comes.it.frame.body turn.f.body (Says (Get turn.start turn.file turn.key)) comes.body_is turn.asked_is;
        took = record {
          entry = turn.entry;
          before = turn.before;
          occurs = occurs;
          own = turn.own;
          f = turn.f;
          takes_it = turn.takes_it;
          comes = comes;
          request_is = refl;
          short = below (content turn.before r turn.key) turn.start turn.start turn.short (omega arith);
        };
      }

  same_start : (a b : ℕ) (c d e f : List ℕ) → Says (Get a c e) ≡ Says (Get b d f) → a ≡ b
  same_start a b c d e f h = cc

  same_key : (a b : ℕ) (c d e f : List ℕ) → Says (Get a c e) ≡ Says (Get b d f) → e ≡ f
  same_key a b c d e f h = cc

  -- **InvalidsFit**
  pub invalids_fit : (past : List Entry) → RunPast (set_up run) past → InvalidsFit past
  invalids_fit past h r x before o is f takes down says' asked last start file key asked_is =
      let at = step_at run past x before h o in
      let may = (part_of (set_up run) before x r at.0 is).frames.takes f takes in
      let y = invalid_of before x r f at.1 at.0 is takes down says' may in
      let same : y.request ≡ asked = same_Some y.request asked (sym y.last ∙ last) in
      let get : Says (Get y.start y.file y.key) ≡ Says (Get start file key) = sym y.asked_is ∙ (ap said_of same ∙ asked_is) in
      subst (λ p. TookGet before p start key asked) (server_is r f down)
      (subst (λ n. TookGet before (sender_of (way_of r f)) n key asked) (same_start y.start start y.file file y.key key get)
      (subst (λ k. TookGet before (sender_of (way_of r f)) y.start k asked) (same_key y.start start y.file file y.key key get)
      (subst (λ q. TookGet before (sender_of (way_of r f)) y.start y.key q) same y.took)))
