-- The facts of Own that sessions give: a release's share stands, answers come in turn, and a session speaks down, to a peer.
use Rattle.std.proofs.Common.{◌≡◌, ◌≢◌, ℕ, ◌+◌, ◌/◌, ◌^◌, ◌<◌, ◌≤◌, Bool, true, false, List, [], ◌∷◌, ◌++◌, length, Option, Some, None, ◌⊎◌, inl, inr, refl, sym, ap, ◌∙◌, subst, arith}
use Rattle.std.specs.Prelude.{if◌then◌else◌, ◌==◌, filter, map, flat_map, not}
use Rattle.std.specs.List.{range_with_len}
use Rattle.std.proofs.lemmas.Option.{same_Some}
use Rattle.annex_base.specs.Lists.{Each, Member}
use Rattle.annex_base.specs.declared.kinds.Word.{Word}
use Rattle.annex_base.proofs.Lists.{Each-filter, Each-member, Member-filter_from, filter_none, Member-append_cases, Member-filter_parts}
use Rattle.step_facts.proofs.Below.{SentAreRead}
use Rattle.run_data.specs.declared.entry.By.TheVariants.{Peer, Script}
use Rattle.run_data.specs.declared.entry.Entry.{Entry}
use Rattle.run_data.specs.declared.entry.EntryKind.{EntryKind}
use Rattle.run_data.specs.declared.entry.EntryKind.TheVariants.{Share, Release, Begin, Gain, Log, Compact, Close, Crash, Fault}
use Rattle.run_data.specs.declared.entry.FrameView.{FrameView}
use Rattle.run_data.specs.declared.entry.FrameText.{FrameText}
use Rattle.run_data.specs.declared.entry.FrameText.TheVariants.{Closing, Line}
use Rattle.run_model.specs.Past.{clock}
use Rattle.p2p_wire.specs.declared.message.Message.{Message}
use Rattle.p2p_wire.specs.declared.message.Message.TheVariants.{CheckPresent, LockContent, UnlockContent, Timestamp, Success}
use Rattle.p2p_wire.specs.Messages.{order_of, message_of, text_of}
use Rattle.run_model.specs.Said.{Said, Says, is_request, message_in}
use Rattle.step_facts.proofs.Ways.{is_answer, answers, down_of, way_from}
use Rattle.run_model.specs.Frames.{Way, is_on, on_way, says, taken_if, taker_of, up_of, way_of}
use Rattle.node_model.specs.SetUp.{SetUp, others, served_connections, slots}
use Rattle.node_model.specs.Ends.{End, EndName, end_sends, end_takes, frames, is_opening, sends_at, sent_at, server_end, takes_at}
use Rattle.run_model.specs.States.{end_at, session, state_of}
use Rattle.node_model.specs.Sessions.{Session, line_in}
use Rattle.node_model.specs.Look.{Look, Effect, entry_of}
use Rattle.node_model.specs.SessionStep.{Here, here, on_frame}
use Rattle.step_facts.proofs.BySteps.{ByStep}
use Rattle.run_model.specs.Run.{ComesAnyTime, IsBounded, IsStep, OwnPart, OwnPast, OwnRun}
use Rattle.step_facts.proofs.Spoken.{clock_small}
use Rattle.run_laws.proofs.AnswersRead.{all_read}
use Rattle.node_model.specs.AnyTime.{MayCome, all_ends, close_at, ends_with}
use Rattle.node_model.specs.JobStep.{turn_of}
use Rattle.run_laws.proofs.SessionTimes.{IsTime, kind_time}
use Rattle.run_data.specs.declared.run.RepoView.{RepoView}
use Rattle.node_model.specs.Found.{GivesAt, StepFound, TakesAt}
use Rattle.step_facts.proofs.StepFacts.{SessionMade, release_found, step_found}
use Rattle.step_facts.proofs.ServerEnds.{BySessionAt, GivesHere, ServerDoes, Shuts, TakesHere, come_closes, job_sends, end_of, server_does, takes_end}
use Rattle.step_facts.proofs.EndMoves.{gave_one, line_opens, may_epoch, takes_epoch}
use Rattle.step_facts.proofs.Guarding.{guards_stand}
use Rattle.run_laws.proofs.WayCounts.{way_in, way_out}
use Rattle.run_laws.proofs.SaidDown.{odd_answer, said_closing, said_is}
use Rattle.run_laws.proofs.InTurn.{AllRead, in_turn}
use Rattle.run_laws.proofs.TurnFits.{busy}
use Rattle.run_laws.proofs.SessionSays.{Agrees, FromServer, down_only, frame_agrees, frame_say, is_down, line_locks, line_looks, Short, frame_short, odd_message, odd_request, pieces_no, pieces_say, pieces_short, read_of}
use Rattle.past_facts.proofs.Own.{AtMostOne, InTurn, MayRelease, MaySend}
use Rattle.std.proofs.lemmas.Bool.{eq-eqb}
use Rattle.annex_base.proofs.Conditions.{eqb_refl}
use Rattle.step_facts.proofs.AnswerFacts.{end_takes_from}

-- ---- ways of frames and of ends

client_is : (r p : ℕ) (b : Bool) → (if b then p else r) ≡ (if (if b then false else true) then r else p)
client_is r p true = refl
client_is r p false = refl

up_is : (b : Bool) → b ≡ (if (if b then false else true) then false else true)
up_is true = refl
up_is false = refl

-- the way of a frame is that of the end that takes it
pub way_taken : (r : ℕ) (f : FrameView) → way_of r f ≡ way_in r (end_of f) f.epoch
way_taken r f i = record { client = client_is r f.peer f.up i; server = client_is f.peer r f.up i; slot = f.slot; up = up_is f.up i; epoch = f.epoch }

pub way_at : (r : ℕ) (a : EndName) (f : FrameView) → takes_at a f ≡ true → way_of r f ≡ way_in r a f.epoch
way_at r a f t = way_taken r f ∙ ap (λ b. way_in r b f.epoch) (takes_end a f t)

-- ---- a release ends a share that stands

released : (s : SetUp) (past : List Entry) (k : Look) (m : Effect) (hold : ℕ) (key : List ℕ) → OwnRun s past → SessionMade s (state_of s past) k m (Release hold key) → MayRelease s.number past (entry_of s.number k m) hold key
released s past k m hold key run x = go x.by.frame
  where
    go : TakesAt s (state_of s past) (server_end x.by.peer x.by.slot) x.by.asked x.by.says m ⊎ GivesAt s (state_of s past) (server_end x.by.peer x.by.slot) x.by.asked x.by.says m → MayRelease s.number past (entry_of s.number k m) hold key
    go (inr y) = absurd (let no' : Some (UnlockContent key) ≡ None = sym x.found.asks ∙ y.asked_is in cc)
    go (inl y) =
        let g = guards_stand s past x.by.peer x.by.slot run hold key x.found.guards in
        let line : line_in y.f.body ≡ Some (UnlockContent key) = sym y.asked_is ∙ x.found.asks in
        let up = end_takes_from x.by.peer x.by.slot y.f y.of_end in
        let epoch : y.f.epoch ≡ (end_at past s.number (server_end x.by.peer x.by.slot)).epoch =
        (may_epoch (end_at past s.number (server_end x.by.peer x.by.slot)) y.f (line_opens y.f.body (UnlockContent key) line) y.may).1 in
        record {
          f = y.f;
          takes_it = y.taken_is;
          from_client = up.2;
          asked_is = said_is y.f.body (UnlockContent key) line;
          share = g.share;
          before = g.before;
          stands = g.stands;
          own = g.own;
          end = g.end;
          share_is = g.share_is ∙ ap (λ n. Share hold g.end (Peer n x.by.slot) key) (sym up.0) ∙ ap (λ n. Share hold g.end (Peer y.f.peer n) key) (sym up.1);
          taken_then = g.f;
          took = g.took;
          same_epoch = way_at s.number (server_end x.by.peer x.by.slot) g.f g.of_end
              ∙ ap (λ n. way_in s.number (server_end x.by.peer x.by.slot) n) (g.epoch_is ∙ sym epoch)
              ∙ sym (way_at s.number (server_end x.by.peer x.by.slot) y.f y.of_end);
        }

-- the field `release`
pub may_release : (s : SetUp) (past : List Entry) (words : ℕ → Option Word) (e : Entry) (hold : ℕ) (key : List ℕ) → OwnRun s past → OwnPart s past words e → e.kind ≡ Release hold key → MayRelease s.number past e hold key
may_release s past words e hold key run own is = elim (own.does) [
  | inl x ↦ subst (λ (y : Entry). MayRelease s.number past y hold key) (sym x.is)
      (released s past x.look x.made hold key run (release_found s (state_of s past) x.look x.made x.makes hold key (sym (ap (λ (y : Entry). y.kind) x.is) ∙ is)))
  | inr x ↦ absurd (subst (MayCome s (state_of s past) e.lines e.sent) is x.may)
]

-- ---- no more answers are sent than requests taken

-- the field `answered`
pub answered_in : (s : SetUp) (past : List Entry) → OwnRun s past → AllRead s.number past → (w : Way) → w.server ≡ s.number → length (answers past (down_of w)) ≤ taken_if is_request past (up_of w)
answered_in s past run read w is =
    let old : length (answers past (way_out s.number (server_end w.client w.slot) w.epoch)) ≤ taken_if is_request past (way_in s.number (server_end w.client w.slot) w.epoch) =
    (in_turn s w.client w.slot past run read).older w.epoch in
    subst (λ (n : ℕ). length (answers past (record { client = w.client; server = n; slot = w.slot; up = false; epoch = w.epoch }))
    ≤ taken_if is_request past (record { client = w.client; server = n; slot = w.slot; up = true; epoch = w.epoch })) (sym is) old

-- ---- frames of an end

pub member_frames : (a : EndName) (c : End) (bodies : List FrameText) (g : FrameView) → Member g (frames a c bodies) → Member g.body bodies × (g.peer ≡ a.peer) × (g.slot ≡ a.slot) × (g.up ≡ a.client)
member_frames a c [] g m = absurd m
member_frames a c (body ∷ bodies) g (inl i) = (inl (ap (λ (h : FrameView). h.body) i), ap (λ (h : FrameView). h.peer) i, ap (λ (h : FrameView). h.slot) i, ap (λ (h : FrameView). h.up) i)
member_frames a c (body ∷ bodies) g (inr m) = let x = member_frames a (end_sends c body) bodies g m in (inr x.0, x.1, x.2, x.3)

-- what goes down, but of a session, is a Close
pub down_closes : (e : Entry) (g : FrameView) → ((p q : ℕ) → Shuts (server_end p q) e) → Member g e.sent → g.up ≡ false → g.body ≡ Closing
down_closes e g x m u =
    Each-member (λ (h : FrameView). h.body ≡ Closing) (sent_at (server_end g.peer g.slot) e.sent) g (x g.peer g.slot).closes
    (Member-filter_from (sends_at (server_end g.peer g.slot)) e.sent g m at)
  where
    at : sends_at (server_end g.peer g.slot) g ≡ true
    at = rw (eqb_refl g.peer, eqb_refl g.slot, u) refl

-- ---- SUCCESS comes in turn

module _ (s : SetUp) (past : List Entry) (e : Entry) (p q : ℕ) (run : OwnRun s past) (read : AllRead s.number past) (x : TakesHere s past (server_end p q) e) (g : FrameView) (m : Member g e.sent) (yes' : message_in g.body ≡ Says Success) where
  abbrev r : ℕ
  r = s.number

  abbrev a : EndName
  a = server_end p q

  abbrev c : End
  c = end_at past s.number (server_end p q)

  abbrev d : End
  d = end_takes c x.f.epoch x.f.body

  abbrev h : Here
  h = here s (state_of s past) x.k (server_end p q)

  abbrev was : Session
  was = session past s.number (server_end p q)

  in_frames : Member g (frames a d (on_frame h was x.f.body).says)
  in_frames = subst (Member g) x.sent_is m

  agreed : Agrees (is_request (message_in x.f.body)) was.doing (on_frame h was x.f.body).says × ((text : List ℕ) × (x.f.body ≡ Line text))
  agreed = frame_agrees h was x.f.body g.body (member_frames a d (on_frame h was x.f.body).says g in_frames).0 yes'

  no_opening : is_opening x.f.body ≡ false
  no_opening = ap is_opening agreed.1.1

  first : frames a d (on_frame h was x.f.body).says ≡ frames a d (Line (text_of Success) ∷ [])
  first = ap (frames a d) agreed.0.alone

  g_is : g ≡ record { peer = p; slot = q; up = false; epoch = d.epoch; seq = d.sent + 1; body = Line (text_of Success) }
  g_is = elim (subst (Member g) first in_frames) [ inl i ↦ i | inr i ↦ absurd i ]

  epochs : (c.opened ≡ true) × (x.f.epoch ≡ c.epoch)
  epochs = may_epoch c x.f no_opening x.may

  d_is : d.epoch ≡ c.epoch
  d_is = takes_epoch c x.f.epoch x.f.body no_opening

  out_is : way_from r g ≡ way_out r a c.epoch
  out_is = ap (way_from r) g_is ∙ ap (way_out r a) d_is

  in_is : way_of r x.f ≡ way_in r a c.epoch
  in_is = way_at r a x.f x.of_end ∙ ap (way_in r a) epochs.1

  calm_now : busy was.doing ≡ 0
  calm_now = ap (λ b. if b then 0 else 1) agreed.0.gives_none

  turn_now : length (answers past (way_out r a c.epoch)) ≡ taken_if is_request past (way_in r a c.epoch)
  turn_now =
      let t : length (answers past (way_out r a c.epoch)) + busy was.doing ≡ taken_if is_request past (way_in r a c.epoch) = (in_turn s p q past run read).now epochs.0 in
      less (length (answers past (way_out r a c.epoch))) (busy was.doing) (taken_if is_request past (way_in r a c.epoch)) t calm_now
    where
      less : (i j k : ℕ) → i + j ≡ k → j ≡ 0 → i ≡ k
      less i j k t z = omega (arith, t, z)

  by_line : (text : List ℕ) → x.f.body ≡ Line text → (n : Message) → message_in x.f.body ≡ Says n → message_of text ≡ Some n
  by_line text i n j = read_of text n (sym (ap message_in i) ∙ j)

  in_turn_now : InTurn r past e g
  in_turn_now = record {
    f = x.f;
    takes_it = x.taken_is;
    back = out_is ∙ ap down_of (sym in_is);
    from_client = (end_takes_from p q x.f x.of_end).2;
    request = agreed.0.request;
    turn = ap (λ w. length (answers past w)) out_is ∙ turn_now ∙ ap (λ w. taken_if is_request past w) (sym in_is);
    locked = λ key i. locks key i;
    looked = λ key i. x.kind_is ∙ ap (λ b. (on_frame h was b).kind) agreed.1.1
        ∙ line_looks h was agreed.1.0 key (by_line agreed.1.0 agreed.1.1 (CheckPresent key) i) (sym (ap (λ b. (on_frame h was b).says) agreed.1.1) ∙ agreed.0.alone);
  }
    where
      locks : (key : List ℕ) → message_in x.f.body ≡ Says (LockContent key) → (hold end : ℕ) × (e.kind ≡ Share hold end (Peer x.f.peer x.f.slot) key)
      locks key i =
          let y = line_locks h was agreed.1.0 key (by_line agreed.1.0 agreed.1.1 (LockContent key) i) (sym (ap (λ b. (on_frame h was b).says) agreed.1.1) ∙ agreed.0.alone) in
          let up = end_takes_from p q x.f x.of_end in (
            y.0,
            y.1,
            x.kind_is ∙ ap (λ b. (on_frame h was b).kind) agreed.1.1 ∙ y.2
                ∙ ap (λ n. Share y.0 y.1 (Peer n q) key) (sym up.0) ∙ ap (λ n. Share y.0 y.1 (Peer x.f.peer n) key) (sym up.1),
          )

-- the field `sends.yes`
pub yes_in_turn : (s : SetUp) (past : List Entry) (words : ℕ → Option Word) (e : Entry) (g : FrameView) → OwnRun s past → AllRead s.number past → OwnPart s past words e
    → Member g e.sent → g.up ≡ false → message_in g.body ≡ Says Success → InTurn s.number past e g
yes_in_turn s past words e g run read own m u y = go (server_does s past words e own)
  where
    by : (p q : ℕ) → TakesHere s past (server_end p q) e ⊎ GivesHere s past (server_end p q) e → InTurn s.number past e g
    by p q (inl x) = in_turn_now s past e p q run read x g m y
    by p q (inr x) = absurd (pieces_no (session past s.number (server_end p q)).doing x.x.says g.body (gave_one s past (server_end p q) e x).1
        (member_frames (server_end p q) (end_at past s.number (server_end p q)) x.x.says g (subst (Member g) x.sent_is m)).0 y)

    go : ServerDoes s past e → InTurn s.number past e g
    go (inl x) = by x.0 x.1 x.3
    go (inr x) = absurd (let no' : message_in Closing ≡ Says Success = sym (ap message_in (down_closes e g x m u)) ∙ y in let no'' = sym said_closing ∙ no' in cc)

-- ---- whom a session speaks to

pub of_flat : {X Y : Type 0} (f : X → List Y) (xs : List X) (y : Y) → Member y (flat_map f xs) → (x : X) × Member x xs × Member y (f x)
of_flat f [] y m = absurd m
of_flat f (x ∷ xs) y m = elim (Member-append_cases (f x) (flat_map f xs) y m) [
  | inl i ↦ (x, inl refl, i)
  | inr i ↦ (let z = of_flat f xs y i in (z.0, inr z.1, z.2))
]

pub of_slots : (peer : ℕ) (xs : List ℕ) (p q : ℕ) → Member {X = ℕ × ℕ} (p, q) (map (λ slot. (peer, slot)) xs) → p ≡ peer
of_slots peer [] p q m = absurd m
of_slots peer (x ∷ xs) p q (inl i) = ap (λ (c : ℕ × ℕ). c.0) i
of_slots peer (x ∷ xs) p q (inr i) = of_slots peer xs p q i

-- who is served is another repository
pub served_other : (s : SetUp) (p q : ℕ) → Member (p, q) (served_connections s) → p ≢ s.number
served_other s p q m same =
    let w = of_flat (λ peer. map (λ slot. (peer, slot)) slots) (others s) (p, q) m in
    let peer : p ≡ w.0 = of_slots w.0 slots p q w.2 in
    let kept : not (w.0 == s.number) ≡ true = (Member-filter_parts (λ x. not (x == s.number)) (range_with_len 0 (length s.repos)) w.0 w.1).1 in
    let at : w.0 ≡ s.number = sym peer ∙ same in
    let yes' : (w.0 == s.number) ≡ true = eq-eqb w.0 s.number at in
    absurd (let no' : not true ≡ true = rw yes' at kept in cc)

abbrev frame_of : EndName → End → FrameText → FrameView
frame_of a c body = record { peer = a.peer; slot = a.slot; up = a.client; epoch = (end_sends c body).epoch; seq = (end_sends c body).sent; body = body }

-- a session's entry: its end, and the bodies that it says
pub record SessionSpeaks (s : SetUp) (e : Entry) : Type 0 where
  pub p : ℕ
  pub q : ℕ
  pub serves : Member (p, q) (served_connections s)
  pub takes : (f : FrameView) → e.taken ≡ Some f → takes_at (server_end p q) f ≡ true
  pub c : End
  pub says : List FrameText
  pub sent_is : e.sent ≡ frames (server_end p q) c says
  pub down : Each FromServer says
  pub short : Short says

pub speaks : (s : SetUp) (past : List Entry) (e : Entry) → BySessionAt s past e → SessionSpeaks s e
speaks s past e x = go x.3
  where
    go : TakesHere s past (server_end x.0 x.1) e ⊎ GivesHere s past (server_end x.0 x.1) e → SessionSpeaks s e
    go (inl y) = record {
      p = x.0;
      q = x.1;
      serves = x.2;
      takes = λ f i. (let same : y.f ≡ f = same_Some y.f f (sym y.taken_is ∙ i) in subst (λ (z : FrameView). takes_at (server_end x.0 x.1) z ≡ true) same y.of_end);
      c = end_takes (end_at past s.number (server_end x.0 x.1)) y.f.epoch y.f.body;
      says = (on_frame (here s (state_of s past) y.k (server_end x.0 x.1)) (session past s.number (server_end x.0 x.1)) y.f.body).says;
      sent_is = y.sent_is;
      down = frame_say (here s (state_of s past) y.k (server_end x.0 x.1)) (session past s.number (server_end x.0 x.1)) y.f.body;
      short = frame_short (here s (state_of s past) y.k (server_end x.0 x.1)) (session past s.number (server_end x.0 x.1)) y.f.body;
    }
    go (inr y) = record {
      p = x.0;
      q = x.1;
      serves = x.2;
      takes = λ f i. absurd (let no' : None ≡ Some f = sym y.taken_is ∙ i in cc);
      c = end_at past s.number (server_end x.0 x.1);
      says = y.x.says;
      sent_is = y.sent_is;
      down = pieces_say (session past s.number (server_end x.0 x.1)).doing y.x.says (gave_one s past (server_end x.0 x.1) e y).1;
      short = pieces_short (session past s.number (server_end x.0 x.1)).doing y.x.says (gave_one s past (server_end x.0 x.1) e y).1;
    }

module _ (s : SetUp) (e : Entry) (x : SessionSpeaks s e) where
  pub in_says : (g : FrameView) → Member g e.sent → Member g.body x.says × (g.peer ≡ x.p) × (g.slot ≡ x.q) × (g.up ≡ false)
  in_says g m = member_frames (server_end x.p x.q) x.c x.says g (subst (Member g) x.sent_is m)

  -- the field `taken_from`
  pub session_from : (f : FrameView) → e.taken ≡ Some f → f.peer ≢ s.number
  session_from f i same = served_other s x.p x.q x.serves (sym (end_takes_from x.p x.q f (x.takes f i)).0 ∙ same)

  -- the field `sent_to`
  pub session_to : (g : FrameView) → Member g e.sent → g.peer ≢ s.number
  session_to g m same = served_other s x.p x.q x.serves (sym (in_says g m).1 ∙ same)

  -- a session speaks down, and says neither an order nor UNLOCKCONTENT
  pub session_down : (g : FrameView) → Member g e.sent → g.up ≡ false
  session_down g m = (in_says g m).3

  pub session_says : (g : FrameView) (k : Message) → Member g e.sent → message_in g.body ≡ Says k → is_down k ≡ true
  session_says g k m i = down_only g.body k (Each-member FromServer x.says g.body x.down (in_says g m).0) i

  pub no_order : (g : FrameView) (deadline : Option ℕ) (key : List ℕ) → Member g e.sent → message_in g.body ≡ Says (order_of deadline key) → ⊥
  no_order g None key m i = let no' : false ≡ true = session_says g (order_of None key) m i in cc
  no_order g (Some n) key m i = let no' : false ≡ true = session_says g (order_of (Some n) key) m i in cc

  pub no_unlock : (g : FrameView) (key : List ℕ) → Member g e.sent → message_in g.body ≡ Says (UnlockContent key) → ⊥
  no_unlock g key m i = let no' : false ≡ true = session_says g (UnlockContent key) m i in cc

  -- the fields `one_request` and `one_answer`
  most_one : (q t : FrameView → Bool) (f : FrameView) → AtMostOne (filter q (filter t (f ∷ [])))
  most_one q t f = go (t f)
    where
      then' : (b : Bool) → AtMostOne (if b then f ∷ [] else [])
      then' true = tt
      then' false = tt

      go : (b : Bool) → AtMostOne (filter q (if b then f ∷ [] else []))
      go true = then' (q f)
      go false = tt

  pub session_one : (test : Said → Bool) (w : Way) → test (message_in (Line (text_of odd_message))) ≡ false → test (message_in Closing) ≡ false → AtMostOne (filter (says test) (on_way w e))
  session_one test w odd close = subst (λ (fs : List FrameView). AtMostOne (filter (says test) (filter (is_on w (taker_of w)) fs))) (sym x.sent_is) (go x.short)
    where
      two : (f g : FrameView) → says test f ≡ false → says test g ≡ false → AtMostOne (filter (says test) (filter (is_on w (taker_of w)) (f ∷ g ∷ [])))
      two f g i j = subst AtMostOne (sym none) tt
        where
          none : filter (says test) (filter (is_on w (taker_of w)) (f ∷ g ∷ [])) ≡ []
          none = filter_none (says test) (filter (is_on w (taker_of w)) (f ∷ g ∷ [])) (Each-filter (λ (z : FrameView). says test z ≡ false) (is_on w (taker_of w)) (f ∷ g ∷ []) (i, (j, tt)))

      go : Short x.says → AtMostOne (filter (says test) (filter (is_on w (taker_of w)) (frames (server_end x.p x.q) x.c x.says)))
      go (inl i) = subst (λ (z : List FrameText). AtMostOne (filter (says test) (filter (is_on w (taker_of w)) (frames (server_end x.p x.q) x.c z)))) (sym i) tt
      go (inr (inl i)) = subst (λ (z : List FrameText). AtMostOne (filter (says test) (filter (is_on w (taker_of w)) (frames (server_end x.p x.q) x.c z)))) (sym i.1) (most_one (says test) (is_on w (taker_of w)) (frame_of (server_end x.p x.q) x.c i.0))
      go (inr (inr i)) = subst (λ (z : List FrameText). AtMostOne (filter (says test) (filter (is_on w (taker_of w)) (frames (server_end x.p x.q) x.c z)))) (sym i) (two (frame_of (server_end x.p x.q) x.c (Line (text_of odd_message))) (frame_of (server_end x.p x.q) (end_sends x.c (Line (text_of odd_message))) Closing) odd close)

  pub session_one_answer : (w : Way) → AtMostOne (filter (says is_answer) (on_way w e))
  session_one_answer w = session_one is_answer w odd_answer (ap is_answer said_closing)

  pub session_one_request : (w : Way) → AtMostOne (filter (says is_request) (on_way w e))
  session_one_request w = session_one is_request w odd_request (ap is_request said_closing)

-- ---- the field `sends`, of what goes down

down_at : (g : FrameView) → g.up ≡ false → sends_at (server_end g.peer g.slot) g ≡ true
down_at g u = rw (eqb_refl g.peer, eqb_refl g.slot, u) refl

closing_says : (g : FrameView) (k : Message) → g.body ≡ Closing → message_in g.body ≡ Says k → ⊥
closing_says g k i e = let no' : message_in Closing ≡ Says k = sym (ap message_in i) ∙ e in let no'' = sym said_closing ∙ no' in cc

step_time : SentAreRead → (s : SetUp) (past : List Entry) (k : Look) (m : Effect) (g : FrameView) (n : ℕ) → clock s.repos past s.number k.time / 1000 < 2 ^ 63 → StepFound s (state_of s past) k m → Member g m.sent → g.up ≡ false
    → message_in g.body ≡ Says (Timestamp n) → n ≡ clock s.repos past s.number k.time / 1000
step_time reads_back s past k m g n small (inl x) i u e = elim (x.writes) [
  | inl w ↦ absurd (subst (λ (z : Effect). Member g z.sent) w i)
  | inr w ↦ absurd (subst (λ (z : Effect). Member g z.sent) w i)
]
step_time reads_back s past k m g n small (inr (inl x)) i u e = go x.frame
  where
    at : (c : End) → m.sent ≡ frames (server_end x.peer x.slot) c x.says → n ≡ clock s.repos past s.number k.time / 1000
    at c j = Each-member (IsTime (clock s.repos past s.number k.time)) x.says g.body
        (kind_time reads_back (here s (state_of s past) k (server_end x.peer x.slot)) ((state_of s past).sessions (server_end x.peer x.slot)).doing x.asked x.says m.kind small x.found)
        (member_frames (server_end x.peer x.slot) c x.says g (subst (Member g) j i)).0 n e

    go : TakesAt s (state_of s past) (server_end x.peer x.slot) x.asked x.says m ⊎ GivesAt s (state_of s past) (server_end x.peer x.slot) x.asked x.says m → n ≡ clock s.repos past s.number k.time / 1000
    go (inl y) = at (end_takes ((state_of s past).ends (server_end x.peer x.slot)) y.f.epoch y.f.body) y.sent_is
    go (inr y) = at ((state_of s past).ends (server_end x.peer x.slot)) y.sent_is
step_time reads_back s past k m g n small (inr (inr x)) i u e =
    absurd (subst (Member g) (job_sends (turn_of s (state_of s past) k x.w) m m.kind g.peer g.slot x.found) (Member-filter_from (sends_at (server_end g.peer g.slot)) m.sent g i (down_at g u)))

-- a timestamp that goes down is the clock
pub down_time : SentAreRead → (s : SetUp) (past : List Entry) (words : ℕ → Option Word) (e : Entry) (g : FrameView) (n : ℕ) → OwnPart s past words e → clock s.repos past s.number e.time / 1000 < 2 ^ 63 → Member g e.sent → g.up ≡ false
    → message_in g.body ≡ Says (Timestamp n) → n ≡ clock s.repos past s.number e.time / 1000
down_time reads_back s past words e g n own small i u y = elim (own.does) [
  | inl x ↦ step x
  | inr x ↦ absurd (closing_says g (Timestamp n) (Each-member (λ (h : FrameView). h.body ≡ Closing) e.sent g (come_closes s past e.lines e.sent e.kind x.may) i) y)
]
  where
    step : IsStep s past words e → n ≡ clock s.repos past s.number e.time / 1000
    step x =
        let time : e.time ≡ x.look.time = ap (λ (z : Entry). z.time) x.is in
        let at : n ≡ clock s.repos past s.number x.look.time / 1000 =
        step_time reads_back s past x.look x.made g n (subst (λ t. clock s.repos past s.number t / 1000 < 2 ^ 63) time small) (step_found s (state_of s past) x.look x.made x.makes)
        (subst (λ (z : Entry). Member g z.sent) x.is i) u y in
        at ∙ ap (λ t. clock s.repos past s.number t / 1000) (sym time)

-- the field `sends` of a session's entry
pub session_sends : SentAreRead → (s : SetUp) (past : List Entry) (words : ℕ → Option Word) (e : Entry) (g : FrameView) → OwnRun s past → AllRead s.number past → OwnPart s past words e
    → clock s.repos past s.number e.time / 1000 < 2 ^ 63 → SessionSpeaks s e → Member g e.sent → MaySend s.repos s.number past e g
session_sends reads_back s past words e g run read own small x m =
    let u : g.up ≡ false = session_down s e x g m in
    record {
      yes = λ v y. yes_in_turn s past words e g run read own m v y;
      time = λ n y. down_time reads_back s past words e g n own small m u y;
      request = λ v y. absurd (let no' : true ≡ false = sym v ∙ u in cc);
      order = λ deadline key y. absurd (no_order s e x g deadline key m y);
      unlock = λ key y. absurd (no_unlock s e x g key m y);
    }

-- and of a Close
pub close_sends : (repos : List RepoView) (r : ℕ) (past : List Entry) (e : Entry) (g : FrameView) → g.body ≡ Closing → MaySend repos r past e g
close_sends repos r past e g i = record {
  yes = λ v y. absurd (closing_says g Success i y);
  time = λ n y. absurd (closing_says g (Timestamp n) i y);
  request = λ v y. absurd (let none : is_request (message_in g.body) ≡ false = ap (λ b. is_request (message_in b)) i ∙ ap is_request said_closing in let no' : true ≡ false = sym y ∙ none in cc);
  order = λ deadline key y. absurd (closing_says g (order_of deadline key) i y);
  unlock = λ key y. absurd (closing_says g (UnlockContent key) i y);
}

-- ---- an entry that comes at any point

-- the fields `one_request` and `one_answer`
pub closes_one : (test : Said → Bool) (w : Way) (e : Entry) → test (message_in Closing) ≡ false → Each (λ g. g.body ≡ Closing) e.sent → AtMostOne (filter (says test) (on_way w e))
closes_one test w e close all = subst AtMostOne (sym none) tt
  where
    each : (fs : List FrameView) → Each (λ g. g.body ≡ Closing) fs → Each (λ g. says test g ≡ false) fs
    each [] a = tt
    each (f ∷ fs) a = (ap (λ b. test (message_in b)) a.0 ∙ close, each fs a.1)

    none : filter (says test) (on_way w e) ≡ []
    none = filter_none (says test) (on_way w e) (Each-filter (λ g. says test g ≡ false) (is_on w (taker_of w)) e.sent (each e.sent all))

of_ends : (peer : ℕ) (client : Bool) (xs : List ℕ) (a : EndName) → Member a (map (λ slot. record { peer = peer; slot = slot; client = client }) xs) → a.peer ≡ peer
of_ends peer client [] a m = absurd m
of_ends peer client (x ∷ xs) a (inl i) = ap (λ (z : EndName). z.peer) i
of_ends peer client (x ∷ xs) a (inr i) = of_ends peer client xs a i

pub ends_other : (s : SetUp) (a : EndName) → Member a (all_ends s) → a.peer ≢ s.number
ends_other s a m same =
    let w = of_flat (λ peer. ends_with peer true ++ ends_with peer false) (others s) a m in
    let peer : a.peer ≡ w.0 = elim (Member-append_cases (ends_with w.0 true) (ends_with w.0 false) a w.2) [ inl i ↦ of_ends w.0 true slots a i | inr i ↦ of_ends w.0 false slots a i ] in
    let kept : not (w.0 == s.number) ≡ true = (Member-filter_parts (λ x. not (x == s.number)) (range_with_len 0 (length s.repos)) w.0 w.1).1 in
    let at : w.0 ≡ s.number = sym peer ∙ same in
    let yes' : (w.0 == s.number) ≡ true = eq-eqb w.0 s.number at in
    absurd (let no' : not true ≡ true = rw yes' at kept in cc)

close_to : (s : SetUp) (past : List Entry) (a : EndName) (g : FrameView) → Member g (close_at s (state_of s past) a) → g.peer ≡ a.peer
close_to s past a g m = go (end_at past s.number a).opened m
  where
    go : (b : Bool) → Member g (if b then frames a (end_at past s.number a) (Closing ∷ []) else []) → g.peer ≡ a.peer
    go true i = (member_frames a (end_at past s.number a) (Closing ∷ []) g i).1
    go false i = absurd i

-- the field `sent_to`
pub come_to : (s : SetUp) (past : List Entry) (lines : List (List ℕ)) (sent : List FrameView) (kind : EntryKind) (g : FrameView) → MayCome s (state_of s past) lines sent kind → Member g sent → g.peer ≢ s.number
come_to s past lines sent (Begin job what) g x m = absurd (subst (Member g) x.2 m)
come_to s past lines sent (Gain Script size key) g x m = absurd (subst (Member g) x.2 m)
come_to s past lines sent (Log file) g x m = absurd (subst (Member g) x.1 m)
come_to s past lines sent (Compact file) g x m = absurd (subst (Member g) x.2 m)
come_to s past lines sent (Fault call Script) g x m = absurd (subst (Member g) x.2 m)
come_to s past lines sent (Close peer slot client) g x m = λ same.
    let a : EndName = record { peer = peer; slot = slot; client = client } in
    ends_other s a x.0 (sym (close_to s past a g (subst (Member g) x.3 m)) ∙ same)
come_to s past lines sent (Crash clock) g x m = λ same.
    let w = of_flat (close_at s (state_of s past)) (all_ends s) g (subst (Member g) x.1 m) in
    ends_other s w.0 w.1 (sym (close_to s past w.0 g w.2) ∙ same)
come_to s past lines sent kind g x m = absurd x

-- ---- by steps

-- what stands on an own past, with the entry itself
after : (s : SetUp) (past : List Entry) (words : ℕ → Option Word) (e : Entry) → OwnPast s past → IsBounded e → OwnPart s past words e → OwnPast s (e ∷ past)
after s past words e h b part = record { repos = h.repos; run = ((λ i. (words, part)), h.run); bounds = (b, h.bounds) }

-- the field `release`
pub release_step : ByStep (λ s past e. (hold : ℕ) (key : List ℕ) → e.kind ≡ Release hold key → MayRelease s.number past e hold key)
release_step s past words e h b is part hold key kind = may_release s past words e hold key h.run part kind

-- the field `answered`
pub answered_step : SentAreRead → ByStep (λ s past e. (w : Way) → w.server ≡ s.number → length (answers (e ∷ past) (down_of w)) ≤ taken_if is_request (e ∷ past) (up_of w))
answered_step reads_back s past words e h b is part w server =
    let x = after s past words e h b part in
    answered_in s (e ∷ past) x.run (all_read reads_back s (e ∷ past) x) w server

seconds_small : (n : ℕ) → n ≤ 1100000000000 → n / 1000 < 2 ^ 63
seconds_small n l = omega (arith, l)

-- the field `sends` of a session's entry
pub session_sends_step : SentAreRead → ByStep (λ s past e. SessionSpeaks s e → (g : FrameView) → Member g e.sent → MaySend s.repos s.number past e g)
session_sends_step reads_back s past words e h b is part x g m =
    session_sends reads_back s past words e g h.run (all_read reads_back s past h) part (seconds_small (clock s.repos past s.number e.time) (clock_small s.repos past s.number e.time h.repos h.bounds b.in_time)) x m

-- the fields `sends`, `sent_to`, `one_request` and `one_answer` of an entry that comes at any point
pub any_closes : (s : SetUp) (past : List Entry) (e : Entry) → ComesAnyTime s past e → Each (λ g. g.body ≡ Closing) e.sent
any_closes s past e x = come_closes s past e.lines e.sent e.kind x.may

pub any_to : (s : SetUp) (past : List Entry) (e : Entry) → ComesAnyTime s past e → (g : FrameView) → Member g e.sent → g.peer ≢ s.number
any_to s past e x g m = come_to s past e.lines e.sent e.kind g x.may m
