-- Each answer of a session to a request comes in turn, and is one that the request may have.
use Rattle.std.proofs.Common.{◌≡◌, ℕ, ◌+◌, Bool, true, false, List, [], ◌∷◌, length, Option, Some, ◌⊎◌, inl, inr, refl, sym, ap, ◌∙◌, subst, arith}
use Rattle.std.specs.Prelude.{if◌then◌else◌}
use Rattle.std.proofs.lemmas.Bool.{true≢false}
use Rattle.annex_base.specs.Lists.{Member}
use Rattle.annex_base.specs.declared.kinds.Word.{Word}
use Rattle.step_facts.proofs.Below.{SentAreRead}
use Rattle.run_data.specs.declared.entry.Entry.{Entry}
use Rattle.run_data.specs.declared.entry.FrameView.{FrameView}
use Rattle.run_data.specs.declared.entry.FrameText.{FrameText}
use Rattle.run_data.specs.declared.entry.FrameText.TheVariants.{Opening, Closing, Bytes, Line}
use Rattle.run_data.specs.Repos.{id_of}
use Rattle.p2p_wire.specs.declared.message.Message.{Message}
use Rattle.p2p_wire.specs.declared.message.Message.TheVariants.{AuthSuccess, Valid, Invalid}
use Rattle.p2p_wire.specs.Messages.{message_of, text_of}
use Rattle.run_model.specs.Said.{Says, is_request, message_in}
use Rattle.step_facts.proofs.Ways.{completes, answers, down_of, way_from}
use Rattle.run_model.specs.Frames.{taken_if, way_of}
use Rattle.node_model.specs.SetUp.{SetUp}
use Rattle.node_model.specs.Ends.{End, EndName, end_sends, end_takes, frames, is_opening, server_end}
use Rattle.run_model.specs.States.{end_at, session, state_of}
use Rattle.node_model.specs.Sessions.{Doing, Session}
use Rattle.node_model.specs.SessionStep.{Here, here, on_frame}
use Rattle.run_model.specs.Run.{OwnPart, OwnPast, OwnRun}
use Rattle.step_facts.proofs.Counting.{Pieces, bytes_counts}
use Rattle.step_facts.proofs.ServerEnds.{GivesHere, ServerDoes, TakesHere, server_does}
use Rattle.step_facts.proofs.EndMoves.{gave_one, may_epoch, takes_epoch}
use Rattle.run_laws.proofs.WayCounts.{way_in, way_out}
use Rattle.run_laws.proofs.SaidDown.{Alike, alike, bytes_end, closing_ends, said_opening}
use Rattle.run_laws.proofs.InTurn.{AllRead, in_turn}
use Rattle.run_laws.proofs.TurnFits.{busy}
use Rattle.run_laws.proofs.AnswersRead.{all_read}
use Rattle.run_laws.proofs.SessionSays.{read_of}
use Rattle.run_laws.proofs.SessionAnswers.{Answering, LineAnswer, counts_answer, line_answer}
use Rattle.run_laws.proofs.SessionOwn.{down_closes, member_frames, way_at}
use Rattle.step_facts.proofs.AnswerFacts.{end_takes_from}

-- an answer but of an opening, or to GET
abbrev pub is_plain : Message → Bool
is_plain (AuthSuccess id) = false
is_plain Valid = false
is_plain Invalid = false
is_plain m = completes m

pub plain_completes : (k : Message) → is_plain k ≡ true → completes k ≡ true
plain_completes (AuthSuccess id) e = absurd (cc)
plain_completes Valid e = absurd (cc)
plain_completes Invalid e = absurd (cc)
plain_completes k e = e

auth_alike : (id : _) (k : Message) → Alike (AuthSuccess id) k → is_plain k ≡ false
auth_alike id (AuthSuccess j) h = refl
auth_alike id k h = absurd h

valid_alike : (k : Message) → Alike Valid k → is_plain k ≡ false
valid_alike Valid h = refl
valid_alike k h = absurd h

invalid_alike : (k : Message) → Alike Invalid k → is_plain k ≡ false
invalid_alike Invalid h = refl
invalid_alike k h = absurd h

as_alike : (b : FrameText) (m k : Message) → b ≡ Line (text_of m) → message_in b ≡ Says k → message_of (text_of m) ≡ Some k
as_alike b m k i e = read_of (text_of m) k (sym (ap message_in i) ∙ e)

-- a session that gives says no other answer
pieces_plain : (was : Doing) (says : List FrameText) (b : FrameText) (k : Message) → Pieces was says → Member b says → message_in b ≡ Says k → is_plain k ≡ true → ⊥
pieces_plain was says b k (inl x) m e p = elim (subst (Member b) x m) [ inl i ↦ closing_ends b k i e | inr i ↦ i ]
pieces_plain was says b k (inr (inl x)) m e p = elim (subst (Member b) x.1 m) [ inl i ↦ bytes_end b x.0 k i e | inr i ↦ i ]
pieces_plain was says b k (inr (inr x)) m e p = elim (subst (Member b) x.1 m) [ inl i ↦ word x.2 i | inr i ↦ i ]
  where
    word : (x.0 ≡ Valid) ⊎ (x.0 ≡ Invalid) → b ≡ Line (text_of x.0) → ⊥
    word (inl y) i = true≢false (sym p ∙ valid_alike k (alike Valid refl k (as_alike b Valid k (i ∙ ap (λ m. Line (text_of m)) y) e)))
    word (inr y) i = true≢false (sym p ∙ invalid_alike k (alike Invalid refl k (as_alike b Invalid k (i ∙ ap (λ m. Line (text_of m)) y) e)))

-- **in turn**: every request that was taken before has its answer, and the one that is taken now may be answered so
pub record AnswersInTurn (r : ℕ) (past : List Entry) (e : Entry) (g : FrameView) (k : Message) : Type 0 where
  pub f : FrameView
  pub takes_it : e.taken ≡ Some f
  pub back : way_from r g ≡ down_of (way_of r f)
  pub from_client : f.up ≡ true
  pub request : is_request (message_in f.body) ≡ true
  pub turn : length (answers past (way_from r g)) ≡ taken_if is_request past (way_of r f)
  pub asked : Message
  pub asked_is : message_in f.body ≡ Says asked
  pub answering : Answering asked e.kind k

module _ (s : SetUp) (past : List Entry) (e : Entry) (p q : ℕ) (run : OwnRun s past) (read : AllRead s.number past) (x : TakesHere s past (server_end p q) e) (g : FrameView) (m : Member g e.sent)
    (k : Message) (says' : message_in g.body ≡ Says k) (plain : is_plain k ≡ true) where
  abbrev r : ℕ
  r = s.number

  abbrev a : EndName
  a = server_end p q

  abbrev c : End
  c = end_at past s.number (server_end p q)

  abbrev d : End
  d = end_takes c x.f.epoch x.f.body

  abbrev h : Here
  h = here s (state_of s past) x.k (server_end p q)

  abbrev was : Session
  was = session past s.number (server_end p q)

  in_frames : Member g (frames a d (on_frame h was x.f.body).says)
  in_frames = subst (Member g) x.sent_is m

  in_says' : Member g.body (on_frame h was x.f.body).says
  in_says' = (member_frames a d (on_frame h was x.f.body).says g in_frames).0

  line : (text : List ℕ) × (x.f.body ≡ Line text)
  line = go x.f.body refl
    where
      at : (body : FrameText) → x.f.body ≡ body → Member g.body (on_frame h was body).says
      at body is = subst (λ (z : FrameText). Member g.body (on_frame h was z).says) is in_says'

      go : (body : FrameText) → x.f.body ≡ body → (text : List ℕ) × (x.f.body ≡ Line text)
      go (Line text) is = (text, is)
      go Opening is = elim (at Opening is) [ inl i ↦ absurd (true≢false (sym plain ∙ auth_alike (id_of s.repos s.number) k (alike (AuthSuccess (id_of s.repos s.number)) refl k (as_alike g.body (AuthSuccess (id_of s.repos s.number)) k i says')))) | inr i ↦ absurd i ]
      go Closing is = absurd (at Closing is)
      go (Bytes n) is = absurd (bytes_answer n (at (Bytes n) is))
        where
          bytes_answer : (n : ℕ) → Member g.body (on_frame h was (Bytes n)).says → ⊥
          bytes_answer n i = let z = counts_answer false was.doing (on_frame h was (Bytes n)).says g.body k (bytes_counts h n was.doing) i says' (plain_completes k plain) in true≢false (sym z.request)

  told : LineAnswer h was line.0 g.body k
  told = line_answer h was line.0 g.body k (subst (λ (z : FrameText). Member g.body (on_frame h was z).says) line.1 in_says') says' (plain_completes k plain)

  no_opening : is_opening x.f.body ≡ false
  no_opening = ap is_opening line.1

  first : frames a d (on_frame h was x.f.body).says ≡ frames a d (g.body ∷ [])
  first = ap (λ (z : FrameText). frames a d (on_frame h was z).says) line.1 ∙ ap (frames a d) told.completing.alone

  g_is : g ≡ record { peer = p; slot = q; up = false; epoch = (end_sends d g.body).epoch; seq = (end_sends d g.body).sent; body = g.body }
  g_is = elim (subst (Member g) first in_frames) [ inl i ↦ i | inr i ↦ absurd i ]

  same_epoch : (b : FrameText) → message_in b ≡ Says k → (end_sends d b).epoch ≡ d.epoch
  same_epoch Opening i = absurd (let no' = sym said_opening ∙ i in cc)
  same_epoch Closing i = refl
  same_epoch (Bytes n) i = refl
  same_epoch (Line text) i = refl

  epochs : (c.opened ≡ true) × (x.f.epoch ≡ c.epoch)
  epochs = may_epoch c x.f no_opening x.may

  d_is : d.epoch ≡ c.epoch
  d_is = takes_epoch c x.f.epoch x.f.body no_opening

  out_is : way_from r g ≡ way_out r a c.epoch
  out_is = ap (way_from r) g_is ∙ ap (way_out r a) (same_epoch g.body says' ∙ d_is)

  in_is : way_of r x.f ≡ way_in r a c.epoch
  in_is = way_at r a x.f x.of_end ∙ ap (way_in r a) epochs.1

  turn_now : length (answers past (way_out r a c.epoch)) ≡ taken_if is_request past (way_in r a c.epoch)
  turn_now =
      let t : length (answers past (way_out r a c.epoch)) + busy was.doing ≡ taken_if is_request past (way_in r a c.epoch) = (in_turn s p q past run read).now epochs.0 in
      less (length (answers past (way_out r a c.epoch))) (busy was.doing) (taken_if is_request past (way_in r a c.epoch)) t (ap (λ b. if b then 0 else 1) told.completing.gives_none)
    where
      less : (i j k : ℕ) → i + j ≡ k → j ≡ 0 → i ≡ k
      less i j k t z = omega (arith, t, z)

  takes_turn : AnswersInTurn r past e g k
  takes_turn = record {
    f = x.f;
    takes_it = x.taken_is;
    back = out_is ∙ ap down_of (sym in_is);
    from_client = (end_takes_from p q x.f x.of_end).2;
    request = ap (λ b. is_request (message_in b)) line.1 ∙ told.completing.request;
    turn = ap (λ w. length (answers past w)) out_is ∙ turn_now ∙ ap (λ w. taken_if is_request past w) (sym in_is);
    asked = told.asked;
    asked_is = ap message_in line.1 ∙ told.asked_is;
    answering = subst (λ kind. Answering told.asked kind k) (sym (x.kind_is ∙ ap (λ (z : FrameText). (on_frame h was z).kind) line.1)) told.answering;
  }

pub answers_turn : SentAreRead → (s : SetUp) (past : List Entry) (words : ℕ → Option Word) (e : Entry) (g : FrameView) (k : Message) → OwnPast s past → OwnPart s past words e
    → Member g e.sent → g.up ≡ false → message_in g.body ≡ Says k → is_plain k ≡ true → AnswersInTurn s.number past e g k
answers_turn reads_back s past words e g k is own m u says' plain = go (server_does s past words e own)
  where
    by : (p q : ℕ) → TakesHere s past (server_end p q) e ⊎ GivesHere s past (server_end p q) e → AnswersInTurn s.number past e g k
    by p q (inl x) = takes_turn s past e p q is.run (all_read reads_back s past is) x g m k says' plain
    by p q (inr x) = absurd (pieces_plain (session past s.number (server_end p q)).doing x.x.says g.body k (gave_one s past (server_end p q) e x).1
        (member_frames (server_end p q) (end_at past s.number (server_end p q)) x.x.says g (subst (Member g) x.sent_is m)).0 says' plain)

    go : ServerDoes s past e → AnswersInTurn s.number past e g k
    go (inl x) = by x.0 x.1 x.3
    go (inr x) = absurd (closing_ends g.body k (down_closes e g x m u) says')
