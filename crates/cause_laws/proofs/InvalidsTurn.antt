-- A session says INVALID after a GET that found the content absent or too short, and in turn: it is the answer to that GET.
use Rattle.std.proofs.Common.{◌≡◌, ℕ, ◌+◌, Bool, true, false, List, [], ◌∷◌, length, Option, Some, None, ◌⊎◌, inl, inr, refl, sym, ap, ◌∙◌, subst, arith}
use Rattle.std.specs.Prelude.{if◌then◌else◌, ◌==◌, min}
use Rattle.std.proofs.lemmas.Bool.{true≢false}
use Rattle.annex_base.specs.Lists.{Member}
use Rattle.annex_base.specs.declared.kinds.Call.TheVariants as calls
use Rattle.annex_base.specs.declared.kinds.Word.{Word}
use Rattle.annex_base.proofs.Conditions.{if_either}
use Rattle.step_facts.proofs.Below.{SentAreRead}
use Rattle.run_data.specs.declared.entry.Entry.{Entry}
use Rattle.run_data.specs.declared.entry.EntryKind.{EntryKind}
use Rattle.run_data.specs.declared.entry.EntryKind.TheVariants.{Fault, Talk}
use Rattle.run_data.specs.declared.entry.FrameView.{FrameView}
use Rattle.run_data.specs.declared.entry.FrameText.{FrameText}
use Rattle.run_data.specs.declared.entry.FrameText.TheVariants.{Opening, Closing, Bytes, Line}
use Rattle.p2p_wire.specs.declared.message.Message.{Message}
use Rattle.p2p_wire.specs.declared.message.Message.TheVariants.{AuthSuccess, CheckPresent, Get, GetTimestamp, Invalid, LockContent, Put, Remove, RemoveBefore, Valid, Version}
use Rattle.p2p_wire.specs.Messages.{text_of}
use Rattle.run_model.specs.Past.{Occurs, is_of}
use Rattle.run_model.specs.Said.{Says, is_request, message_in}
use Rattle.run_model.specs.Frames.{taken_if, way_of}
use Rattle.run_model.specs.Run.{OwnPart, OwnPast, OwnRun}
use Rattle.run_model.specs.States.{content, end_at, session, state_of}
use Rattle.node_model.specs.SetUp.{SetUp}
use Rattle.node_model.specs.Ends.{End, EndName, end_sends, frames, server_end}
use Rattle.node_model.specs.Look.{failing_call}
use Rattle.node_model.specs.Sessions.{Doing, Gives, Session, reaches}
use Rattle.node_model.specs.SessionStep.{Here, Reply, by_of, close_kind, content_of, gives_next, here, on_frame, on_piece, reply, shuts}
use Rattle.run_laws.proofs.AnswersRead.{all_read}
use Rattle.step_facts.proofs.Cases.{unless_found}
use Rattle.step_facts.proofs.Counting.{bytes_counts}
use Rattle.cause_laws.proofs.Giving.{GetTaken, gets_stand}
use Rattle.run_laws.proofs.InTurn.{AllRead, in_turn}
use Rattle.run_laws.proofs.SaidDown.{Alike, alike, bytes_end, closing_ends, said_line-is, said_opening}
use Rattle.step_facts.proofs.ServerEnds.{GivesHere, ServerDoes, TakesHere, server_does}
use Rattle.run_laws.proofs.SessionAnswers.{AnswerFits, Answering, counts_answer, line_answer}
use Rattle.run_laws.proofs.SessionOwn.{down_closes, member_frames, way_at}
use Rattle.run_laws.proofs.SessionSays.{read_of}
use Rattle.run_laws.proofs.TurnFits.{busy}
use Rattle.run_laws.proofs.WayCounts.{way_in, way_out}
use Rattle.step_facts.proofs.Ways.{answers, down_of, way_from}
use Rattle.step_facts.proofs.AnswerFacts.{end_takes_from}

valid_not : (b : FrameText) → b ≡ Line (text_of Valid) → message_in b ≡ Says Invalid → ⊥
valid_not b i e =
    let no' : message_in (Line (text_of Valid)) ≡ Says Invalid = sym (ap message_in i) ∙ e in
    let no'' : Says Valid ≡ Says Invalid = sym (said_line-is (text_of Valid)) ∙ no' in cc

-- ---- a session that gives

-- it says so alone, where the content wasn't there
abbrev Refused : Doing → FrameText → List FrameText → Type 0
Refused was b says = ((key : List ℕ) × (at : ℕ) × (left : ℕ) × (was ≡ Gives key at left false)) × (says ≡ b ∷ [])

piece_not : (h : Here) (key : List ℕ) (at n : ℕ) (b : FrameText) → message_in b ≡ Says Invalid → Member b (on_piece h key at n).says → ⊥
piece_not h key at n b e = unless_found (λ (x : Reply). Member b x.says → ⊥) (failing_call h.fails (calls.Read ∷ [])) (λ call. record { kind = Fault call (by_of h); says = Closing ∷ []; calls = [] })
    (if reaches (content_of h key) (at + n) then record { kind = Talk None; says = Bytes n ∷ []; calls = [] } else shuts (close_kind h)) (λ call m. closes m)
    (if_either (λ (x : Reply). Member b x.says → ⊥) (reaches (content_of h key) (at + n)) (record { kind = Talk None; says = Bytes n ∷ []; calls = [] }) (shuts (close_kind h)) (λ y m. bytes m) (λ y m. closes m))
  where
    closes : Member b (Closing ∷ []) → ⊥
    closes (inl i) = closing_ends b Invalid i e
    closes (inr i) = i

    bytes : Member b (Bytes n ∷ []) → ⊥
    bytes (inl i) = bytes_end b n Invalid i e
    bytes (inr i) = i

given_refused : (h : Here) (key : List ℕ) (at left : ℕ) (good : Bool) (b : FrameText) → message_in b ≡ Says Invalid
    → Member b (if left == 0 then reply (Talk None) (if good then Valid else Invalid) else on_piece h key at (min 32768 left)).says
    → Refused (Gives key at left good) b (if left == 0 then reply (Talk None) (if good then Valid else Invalid) else on_piece h key at (min 32768 left)).says
given_refused h key at left good b e = if_either (λ (x : Reply). Member b x.says → Refused (Gives key at left good) b x.says) (left == 0) (reply (Talk None) (if good then Valid else Invalid)) (on_piece h key at (min 32768 left))
    (λ done. word good) (λ more m. absurd (piece_not h key at (min 32768 left) b e m))
  where
    word : (g : Bool) → Member b (reply (Talk None) (if g then Valid else Invalid)).says → Refused (Gives key at left g) b (reply (Talk None) (if g then Valid else Invalid)).says
    word true (inl i) = absurd (valid_not b i e)
    word true (inr i) = absurd i
    word false (inl i) = ((key, at, left, refl), ap (λ (z : FrameText). z ∷ []) (sym i))
    word false (inr i) = absurd i

next_refused : (h : Here) (was : Doing) (x : Reply) (b : FrameText) → gives_next h was ≡ Some x → Member b x.says → message_in b ≡ Says Invalid → Refused was b x.says
next_refused h (Gives key at left good) x b next m e =
    let y : Reply = if left == 0 then reply (Talk None) (if good then Valid else Invalid) else on_piece h key at (min 32768 left) in
    let same : y ≡ x = cc in
    subst (λ (z : Reply). Refused (Gives key at left good) b z.says) same (given_refused h key at left good b e (subst (λ (z : Reply). Member b z.says) (sym same) m))
next_refused h was x b next m e = absurd (cc)

-- ---- a session that takes a frame doesn't say it

alike_invalid : (m : Message) → Alike m Invalid → m ≡ Invalid
alike_invalid Invalid h = refl
alike_invalid m h = absurd h

no_answer : (asked : Message) (kind : EntryKind) → AnswerFits asked kind Invalid → ⊥
no_answer (Version n) kind x = x
no_answer (CheckPresent key) kind x = x
no_answer (LockContent key) kind x = x
no_answer (Remove key) kind x = x
no_answer (RemoveBefore n key) kind x = x
no_answer GetTimestamp kind x = x
no_answer (Get n file key) kind x = x
no_answer (Put file key) kind x = x
no_answer Valid kind x = x
no_answer Invalid kind x = x
no_answer asked kind x = x

no_answering : (asked : Message) (kind : EntryKind) → Answering asked kind Invalid → ⊥
no_answering asked kind x = no_answer asked kind (subst (AnswerFits asked kind) (alike_invalid x.m x.alike) x.fits)

frame_not : (h : Here) (was : Session) (body b : FrameText) → Member b (on_frame h was body).says → message_in b ≡ Says Invalid → ⊥
frame_not h was Opening b (inl i) e = alike (AuthSuccess h.id) refl Invalid (read_of (text_of (AuthSuccess h.id)) Invalid (sym (ap message_in i) ∙ e))
frame_not h was Opening b (inr i) e = i
frame_not h was Closing b i e = i
frame_not h was (Bytes n) b i e = let z = counts_answer false was.doing (on_frame h was (Bytes n)).says b Invalid (bytes_counts h n was.doing) i e refl in true≢false (sym z.request)
frame_not h was (Line text) b i e = let z = line_answer h was text b Invalid i e refl in no_answering z.asked (on_frame h was (Line text)).kind z.answering

-- ---- in turn

-- **every request that was taken before its GET has its answer, and the GET found the content absent or too short**
pub record InvalidInTurn (r : ℕ) (past : List Entry) (g : FrameView) : Type 0 where
  pub entry : Entry
  pub before : List Entry
  pub occurs : Occurs past entry before
  pub own : is_of r entry ≡ true
  pub f : FrameView
  pub takes_it : entry.taken ≡ Some f
  pub back : way_from r g ≡ down_of (way_of r f)
  pub from_client : f.up ≡ true
  pub turn : length (answers past (way_from r g)) ≡ taken_if is_request before (way_of r f)
  pub start : ℕ
  pub file : List ℕ
  pub key : List ℕ
  pub asked_is : message_in f.body ≡ Says (Get start file key)
  pub short : reaches (content before r key) start ≡ false

module _ (s : SetUp) (past : List Entry) (e : Entry) (p q : ℕ) (run : OwnRun s past) (read : AllRead s.number past) (x : GivesHere s past (server_end p q) e) (g : FrameView) (m : Member g e.sent) (says' : message_in g.body ≡ Says Invalid) where
  abbrev r : ℕ
  r = s.number

  abbrev a : EndName
  a = server_end p q

  abbrev c : End
  c = end_at past s.number a

  abbrev was : Session
  was = session past s.number a

  in_frames : Member g (frames a c x.x.says)
  in_frames = subst (Member g) x.sent_is m

  told : Refused was.doing g.body x.x.says
  told = next_refused (here s (state_of s past) x.k a) was.doing x.x g.body x.next (member_frames a c x.x.says g in_frames).0 says'

  g_is : g ≡ record { peer = p; slot = q; up = false; epoch = (end_sends c g.body).epoch; seq = (end_sends c g.body).sent; body = g.body }
  g_is = elim (subst (λ bs. Member g (frames a c bs)) told.1 in_frames) [ inl i ↦ i | inr i ↦ absurd i ]

  same_epoch : (b : FrameText) → message_in b ≡ Says Invalid → (end_sends c b).epoch ≡ c.epoch
  same_epoch Opening i = absurd (let no' = sym said_opening ∙ i in cc)
  same_epoch Closing i = refl
  same_epoch (Bytes n) i = refl
  same_epoch (Line text) i = refl

  out_is : way_from r g ≡ way_out r a c.epoch
  out_is = ap (way_from r) g_is ∙ ap (way_out r a) (same_epoch g.body says')

  get : GetTaken r past a told.0.0 false
  get = gets_stand s past p q run told.0.0 false x.opened (told.0.1, told.0.2, told.0.3)

  in_is : way_of r get.f ≡ way_in r a c.epoch
  in_is = way_at r a get.f get.of_end ∙ ap (way_in r a) get.epoch_is

  turn_now : length (answers past (way_out r a c.epoch)) ≡ taken_if is_request get.before (way_in r a c.epoch)
  turn_now = less (length (answers past (way_out r a c.epoch))) (busy was.doing) (taken_if is_request past (way_in r a c.epoch)) (taken_if is_request get.before (way_in r a c.epoch))
      ((in_turn s p q past run read).now x.opened) (ap busy told.0.3) (subst (λ n. taken_if is_request past (way_in r a n) ≡ taken_if is_request get.before (way_in r a n) + 1) get.epoch_is get.last)
    where
      less : (i j k l : ℕ) → i + j ≡ k → j ≡ 1 → k ≡ l + 1 → i ≡ l
      less i j k l t z u = omega (arith, t, z, u)

  gives_turn : InvalidInTurn r past g
  gives_turn = record {
    entry = get.entry;
    before = get.before;
    occurs = get.occurs;
    own = get.own;
    f = get.f;
    takes_it = get.takes_it;
    back = out_is ∙ ap down_of (sym in_is);
    from_client = (end_takes_from p q get.f get.of_end).2;
    turn = ap (λ w. length (answers past w)) out_is ∙ turn_now ∙ ap (λ w. taken_if is_request get.before w) (sym in_is);
    start = get.start;
    file = get.file;
    key = told.0.0;
    asked_is = get.asked;
    short = get.found;
  }

pub invalids_turn : SentAreRead → (s : SetUp) (past : List Entry) (words : ℕ → Option Word) (e : Entry) (g : FrameView) → OwnPast s past → OwnPart s past words e
    → Member g e.sent → g.up ≡ false → message_in g.body ≡ Says Invalid → InvalidInTurn s.number past g
invalids_turn reads_back s past words e g is own m u says' = go (server_does s past words e own)
  where
    by : (p q : ℕ) → TakesHere s past (server_end p q) e ⊎ GivesHere s past (server_end p q) e → InvalidInTurn s.number past g
    by p q (inl x) = absurd (frame_not (here s (state_of s past) x.k (server_end p q)) (session past s.number (server_end p q)) x.f.body g.body (member_frames (server_end p q) (_) (_) g (subst (Member g) x.sent_is m)).0 says')
    by p q (inr x) = gives_turn s past e p q is.run (all_read reads_back s past is) x g m says'

    go : ServerDoes s past e → InvalidInTurn s.number past g
    go (inl x) = by x.0 x.1 x.3
    go (inr x) = absurd (closing_ends g.body Invalid (down_closes e g x m u) says')
