-- While a session gives a content, the past has the entry by which it took GET, and found the content there from that place on or not; and
-- nothing that wants an answer was taken on that opening since.
use Rattle.std.proofs.Common.{◌≡◌, ℕ, ◌+◌, ◌-◌, Bool, true, false, List, [], ◌∷◌, Option, Some, None, inl, inr, refl, sym, ap, ◌∙◌, subst}
use Rattle.std.specs.Prelude.{if◌then◌else◌, ◌==◌}
use Rattle.std.proofs.lemmas.Bool.{true≢false}
use Rattle.annex_base.specs.declared.kinds.Word.{Word}
use Rattle.run_data.specs.declared.entry.Entry.{Entry}
use Rattle.run_data.specs.declared.entry.EntryKind.{EntryKind}
use Rattle.run_data.specs.declared.entry.EntryKind.TheVariants.{Share}
use Rattle.run_data.specs.declared.entry.FrameView.{FrameView}
use Rattle.run_data.specs.declared.entry.FrameText.{FrameText}
use Rattle.run_data.specs.declared.entry.FrameText.TheVariants.{Opening, Closing, Bytes, Line}
use Rattle.run_model.specs.Past.{Occurs, is_of}
use Rattle.p2p_wire.specs.declared.message.Message.{Message}
use Rattle.p2p_wire.specs.declared.message.Message.TheVariants.{LockContent, UnlockContent, Get, Put, PutFrom, Data, Valid, Invalid, Success, Failure, Error}
use Rattle.p2p_wire.specs.Messages.{message_of}
use Rattle.run_model.specs.Said.{Says, is_request, message_in}
use Rattle.run_model.specs.Frames.{taken_if}
use Rattle.node_model.specs.SetUp.{SetUp}
use Rattle.node_model.specs.Ends.{End, EndName, end_takes, frames, is_opening, sent_at, server_end, taken_at, takes_at}
use Rattle.run_model.specs.States.{end_at, content, session, state_of}
use Rattle.node_model.specs.Sessions.{Doing, Waits, Guards, Gives, Gave, Wants, Takes, Took, Session, doing_after, gave_bytes, gives, guards, line_in, reaches, message_said, sent_more, sent_one, session_after, session_took, took_bytes, took_message, takes_more, takes_from, wants, new_session, sends_close, session_left}
use Rattle.node_model.specs.SessionStep.{Here, here, on_bytes, on_frame, on_message, on_text}
use Rattle.run_model.specs.Run.{OwnPart, OwnRun}
use Rattle.step_facts.proofs.Counting.{Closes}
use Rattle.step_facts.proofs.EndMoves.{OpensNone, all_epoch, all_opened, end_gave, end_own, end_shuts, end_took-is, gave_none, may_epoch, opening_closed, own_induction, sends_all, sent_took, session_own, shuts_none, taken_none, takes_epoch, took_at, took_none}
use Rattle.step_facts.proofs.ServerEnds.{GivesHere, Shuts, TakesHere, at_server}
use Rattle.run_laws.proofs.SaidDown.{said_is}
use Rattle.step_facts.proofs.NewSessions.{closed_new}
use Rattle.run_laws.proofs.TurnFits.{closes_opened}
use Rattle.run_laws.proofs.WayCounts.{hits, in_count, in_other, on_hits, one_if, plus_none, way_in}

-- ---- what makes a session give

-- it gives the content of the key, which was there from the place asked on, or not
abbrev pub GivesIt : List ℕ → Bool → Doing → Type 0
GivesIt key good doing = (at : ℕ) × (left : ℕ) × (doing ≡ Gives key at left good)

no_gift : (key : List ℕ) (good : Bool) → GivesIt key good Waits → ⊥
no_gift key good x = let no' : Waits ≡ Gives key x.0 x.1 good = x.2 in cc

more_not : (key : List ℕ) (good : Bool) (k : List ℕ) (size left : ℕ) → GivesIt key good (takes_more k size left) → ⊥
more_not key good k size left = go (left == 0)
  where
    go : (b : Bool) → GivesIt key good (if b then Took k size else Takes k size left) → ⊥
    go true x = let no' : Took k size ≡ Gives key x.0 x.1 good = x.2 in cc
    go false x = let no' : Takes k size left ≡ Gives key x.0 x.1 good = x.2 in cc

guards_not : (key : List ℕ) (good : Bool) (kind : EntryKind) → GivesIt key good (guards kind) → ⊥
guards_not key good (Share hold end by k) x = let no' : Guards hold k ≡ Gives key x.0 x.1 good = x.2 in cc
guards_not key good kind x = no_gift key good x

wants_not : (key : List ℕ) (good : Bool) (k : List ℕ) (told : Option Message) → GivesIt key good (wants k told) → ⊥
wants_not key good k (Some (PutFrom n)) x = let no' : Wants k n ≡ Gives key x.0 x.1 good = x.2 in cc
wants_not key good k told x = no_gift key good x

wanted_gives : (key : List ℕ) (good : Bool) (n : ℕ) (was : Doing) → GivesIt key good (takes_from n was) → GivesIt key good was
wanted_gives key good n (Wants k size) x = absurd (more_not key good k size n x)
wanted_gives key good n was x = x

took_gives : (key : List ℕ) (good : Bool) (n : ℕ) (was : Doing) → GivesIt key good (took_bytes n was) → GivesIt key good was
took_gives key good n (Takes k size left) x = absurd (more_not key good k (size + n) (left - n) x)
took_gives key good n was x = x

gave_gives : (key : List ℕ) (good : Bool) (n : ℕ) (was : Doing) → GivesIt key good (gave_bytes n was) → GivesIt key good was
gave_gives key good n (Gives k at left g) x =
    let same : Gives k (at + n) (left - n) g ≡ Gives key x.0 x.1 good = x.2 in
    (at, left, ap (λ i. Gives i at left g) (key_of same) ∙ ap (λ i. Gives key at left i) (good_of same))
  where
    key_of : {a b c d : ℕ} → Gives k a b g ≡ Gives key c d good → k ≡ key
    key_of e = cc

    good_of : {a b c d : ℕ} → Gives k a b g ≡ Gives key c d good → g ≡ good
    good_of e = cc
gave_gives key good n was x = x

-- GET of the key, from a place that the content reaches or not
pub record GetAsked (size : List ℕ → Option ℕ) (key : List ℕ) (good : Bool) (m : Message) : Type 0 where
  pub file : List ℕ
  pub start : ℕ
  pub asked : m ≡ Get start file key
  pub found : reaches (size key) start ≡ good

get_asked : (size : List ℕ → Option ℕ) (key : List ℕ) (good : Bool) (n : ℕ) (file k : List ℕ) (told : Option Message) → GivesIt key good (gives k n (reaches (size k) n) told) → GetAsked size key good (Get n file k)
get_asked size key good n file k (Some (Data left)) x =
    let same : Gives k n left (reaches (size k) n) ≡ Gives key x.0 x.1 good = x.2 in
    let at : k ≡ key = key_of same in
    record { file = file; start = n; asked = ap (Get n file) at; found = sym (ap (λ i. reaches (size i) n) at) ∙ good_of same }
  where
    key_of : {a b c d : ℕ} {g : Bool} → Gives k a b g ≡ Gives key c d good → k ≡ key
    key_of e = cc

    good_of : {a b c d : ℕ} {g : Bool} → Gives k a b g ≡ Gives key c d good → g ≡ good
    good_of e = cc
get_asked size key good n file k told x = absurd (no_gift key good x)

-- a session that gives closes at any frame
message_closes : (h : Here) (v : ℕ) (k : List ℕ) (at left : ℕ) (g : Bool) (m : Message) → Closes (on_message h v (Gives k at left g) m).says
message_closes h v k at left g (Error text) = inl refl
message_closes h v k at left g m = inr refl

line_closes : (h : Here) (v : ℕ) (key : List ℕ) (good : Bool) (was : Doing) (m : Message) → GivesIt key good was → Closes (on_message h v was m).says
line_closes h v key good was m x = subst (λ d. Closes (on_message h v d m).says) (sym x.2) (message_closes h v key x.0 x.1 good m)

bytes_close : (h : Here) (n : ℕ) (key : List ℕ) (good : Bool) (was : Doing) → GivesIt key good was → Closes (on_bytes h n was).says
bytes_close h n key good was x = subst (λ d. Closes (on_bytes h n d).says) (sym x.2) (inr refl)

doing_gives : (h : Here) (v : ℕ) (size : List ℕ → Option ℕ) (kind : EntryKind) (was : Doing) (told : Option Message) (m : Message) (key : List ℕ) (good : Bool) → (Closes (on_message h v was m).says → ⊥)
    → GivesIt key good (doing_after size kind was told m) → GetAsked size key good m
doing_gives h v size kind was told (LockContent k) key good stays x = absurd (guards_not key good kind x)
doing_gives h v size kind was told (UnlockContent k) key good stays x = absurd (no_gift key good x)
doing_gives h v size kind was told (Get n file k) key good stays x = get_asked size key good n file k told x
doing_gives h v size kind was told (Put file k) key good stays x = absurd (wants_not key good k told x)
doing_gives h v size kind was told (Data n) key good stays x = absurd (stays (line_closes h v key good was (Data n) (wanted_gives key good n was x)))
doing_gives h v size kind was told Valid key good stays x = absurd (no_gift key good x)
doing_gives h v size kind was told Invalid key good stays x = absurd (no_gift key good x)
doing_gives h v size kind was told Success key good stays x = absurd (no_gift key good x)
doing_gives h v size kind was told Failure key good stays x = absurd (no_gift key good x)
doing_gives h v size kind was told m key good stays x = absurd (stays (line_closes h v key good was m x))

abbrev AskedBy : (List ℕ → Option ℕ) → List ℕ → Bool → Option Message → Type 0
AskedBy size key good o = (m : Message) × (o ≡ Some m) × GetAsked size key good m

text_gives : (h : Here) (size : List ℕ → Option ℕ) (was : Session) (told m : Option Message) (key : List ℕ) (good : Bool) → (Closes (on_text h was m).says → ⊥)
    → GivesIt key good (took_message size (on_text h was m).kind was told m).doing → AskedBy size key good m
text_gives h size was told None key good stays x = absurd (stays (inr refl))
text_gives h size was told (Some m) key good stays x = (m, refl, doing_gives h was.version size (on_message h was.version was.doing m).kind was.doing told m key good stays x)

-- a frame after which it gives, while it stays open
frame_gives : (h : Here) (size : List ℕ → Option ℕ) (was : Session) (sent : List FrameView) (body : FrameText) (key : List ℕ) (good : Bool) → (is_opening body ≡ true → was ≡ new_session) → (Closes (on_frame h was body).says → ⊥) → (body ≡ Closing → ⊥)
    → GivesIt key good (session_took size (on_frame h was body).kind was sent body).doing → (is_opening body ≡ false) × AskedBy size key good (line_in body)
frame_gives h size was sent Opening key good new stays no' x = absurd (no_gift key good (subst (λ (z : Session). GivesIt key good z.doing) (new refl) x))
frame_gives h size was sent Closing key good new stays no' x = absurd (no' refl)
frame_gives h size was sent (Bytes n) key good new stays no' x = absurd (stays (bytes_close h n key good was.doing (took_gives key good n was.doing x)))
frame_gives h size was sent (Line text) key good new stays no' x = (refl, text_gives h size was (message_said sent) (message_of text) key good stays x)

one_gives : (was : Session) (body : FrameText) (key : List ℕ) (good : Bool) → GivesIt key good (sent_one was body).doing → GivesIt key good was.doing
one_gives was Opening key good x = x
one_gives was Closing key good x = x
one_gives was (Bytes n) key good x = gave_gives key good n was.doing x
one_gives was (Line text) key good x = absurd (let no' : Gave ≡ Gives key x.0 x.1 good = x.2 in cc)

more_gives : (was : Session) (fs : List FrameView) (key : List ℕ) (good : Bool) → GivesIt key good (sent_more was fs).doing → GivesIt key good was.doing
more_gives was [] key good x = x
more_gives was (f ∷ fs) key good x = one_gives was f.body key good x

left_gives : (shut : Bool) (z : Session) (key : List ℕ) (good : Bool) → GivesIt key good (session_left shut z).doing → GivesIt key good z.doing
left_gives true z key good x = absurd (no_gift key good x)
left_gives false z key good x = x

-- ---- the GET stands

pub record GetTaken (r : ℕ) (past : List Entry) (a : EndName) (key : List ℕ) (good : Bool) : Type 0 where
  pub entry : Entry
  pub before : List Entry
  pub occurs : Occurs past entry before
  pub own : is_of r entry ≡ true
  pub f : FrameView
  pub takes_it : entry.taken ≡ Some f
  pub of_end : takes_at a f ≡ true
  pub epoch_is : f.epoch ≡ (end_at past r a).epoch
  pub file : List ℕ
  pub start : ℕ
  pub asked : message_in f.body ≡ Says (Get start file key)
  pub found : reaches (content before r key) start ≡ good
  pub last : taken_if is_request past (way_in r a f.epoch) ≡ taken_if is_request before (way_in r a f.epoch) + 1

abbrev pub GetsTaken : ℕ → EndName → List Entry → Type 0
GetsTaken r a past = (key : List ℕ) (good : Bool) → (end_at past r a).opened ≡ true → GivesIt key good (session past r a).doing → GetTaken r past a key good

later : (r : ℕ) (past : List Entry) (e : Entry) (a : EndName) (key : List ℕ) (good : Bool) → (end_at (e ∷ past) r a).epoch ≡ (end_at past r a).epoch
    → ((n : ℕ) → taken_if is_request (e ∷ past) (way_in r a n) ≡ taken_if is_request past (way_in r a n)) → GetTaken r past a key good → GetTaken r (e ∷ past) a key good
later r past e a key good same none g = record {
  entry = g.entry;
  before = g.before;
  occurs = inr g.occurs;
  own = g.own;
  f = g.f;
  takes_it = g.takes_it;
  of_end = g.of_end;
  epoch_is = g.epoch_is ∙ sym same;
  file = g.file;
  start = g.start;
  asked = g.asked;
  found = g.found;
  last = none g.f.epoch ∙ g.last;
}

module _ (s : SetUp) (past : List Entry) (e : Entry) (a : EndName) (is : is_of s.number e ≡ true)
    (closed : (end_at past s.number a).opened ≡ false → session past s.number a ≡ new_session) (old : GetsTaken s.number a past) where
  abbrev r : ℕ
  r = s.number

  -- nothing is taken
  none_taken : taken_at a e.taken ≡ None → (n : ℕ) → taken_if is_request (e ∷ past) (way_in r a n) ≡ taken_if is_request past (way_in r a n)
  none_taken t n = in_count is_request r a n e past is ∙ plus_none (taken_if is_request past (way_in r a n)) (_) (ap (λ o. one_if (hits is_request n o)) t)

  -- it gave before
  gave_before : (key : List ℕ) (good : Bool) → taken_at a e.taken ≡ None → GivesIt key good (session (e ∷ past) r a).doing → GivesIt key good (session past r a).doing
  gave_before key good t g = more_gives (session past r a) (sent_at a e.sent) key good (left_gives (sends_close (sent_at a e.sent)) (sent_more (session past r a) (sent_at a e.sent)) key good
      (subst (λ (z : Session). GivesIt key good z.doing) (session_own r past a e is ∙ ap (λ o. session_after (content past r) e.kind (session past r a) (sent_at a e.sent) o) t) g))

  gets_shut : Shuts a e → GetsTaken r a (e ∷ past)
  gets_shut x key good o g =
      let none = shuts_none (sent_at a e.sent) x.closes in
      let end' = end_own r past a e is ∙ end_shuts a (end_at past r a) e x in
      later r past e a key good (ap (λ (z : End). z.epoch) end' ∙ all_epoch (end_at past r a) (sent_at a e.sent) none) (none_taken x.takes_none)
      (old key good (all_opened (end_at past r a) (sent_at a e.sent) none (sym (ap (λ (z : End). z.opened) end') ∙ o)) (gave_before key good x.takes_none g))

  gets_give : GivesHere s past a e → GetsTaken r a (e ∷ past)
  gets_give x key good o g =
      let none = gave_none s past a e x in
      let end' = end_own r past a e is ∙ end_gave s past a e x in
      later r past e a key good (ap (λ (z : End). z.epoch) end' ∙ all_epoch (end_at past r a) (sent_at a e.sent) none) (none_taken (taken_none s past a e x))
      (old key good x.opened (gave_before key good (taken_none s past a e x) g))

  gets_take : TakesHere s past a e → GetsTaken r a (e ∷ past)
  gets_take x key good o g = record {
    entry = e;
    before = past;
    occurs = inl (refl, refl);
    own = is;
    f = x.f;
    takes_it = x.taken_is;
    of_end = x.of_end;
    epoch_is = epochs.1 ∙ sym same;
    file = get.file;
    start = get.start;
    asked = asked;
    found = get.found;
    last = counts ∙ ap (λ k. taken_if is_request past (way_in r a x.f.epoch) + k) (on_hits x.f (ap is_request asked));
  }
    where
      h : Here
      h = here s (state_of s past) x.k a

      c : End
      c = end_at past r a

      d : End
      d = end_takes c x.f.epoch x.f.body

      was : Session
      was = session past r a

      told : List FrameText
      told = (on_frame h was x.f.body).says

      end' : end_at (e ∷ past) r a ≡ sends_all d (frames a d told)
      end' = end_own r past a e is ∙ end_took-is s past a e x ∙ ap (sends_all d) (sent_took s past a e x)

      open' : (sends_all d (frames a d told)).opened ≡ true
      open' = sym (ap (λ (z : End). z.opened) end') ∙ o

      stays : Closes told → ⊥
      stays z = true≢false (sym open' ∙ closes_opened a d told z)

      no_close : x.f.body ≡ Closing → ⊥
      no_close z = true≢false (sym (all_opened d (frames a d told) (subst (λ fs. OpensNone fs) (sent_took s past a e x) (took_none s past a e x)) open') ∙ ap (λ b. (end_takes c x.f.epoch b).opened) z)

      now : GivesIt key good (session_took (content past r) (on_frame h was x.f.body).kind was (sent_at a e.sent) x.f.body).doing
      now = subst (λ (kind : EntryKind). GivesIt key good (session_took (content past r) kind was (sent_at a e.sent) x.f.body).doing) x.kind_is
          (left_gives (sends_close (sent_at a e.sent)) (session_took (content past r) e.kind was (sent_at a e.sent) x.f.body) key good
          (subst (λ (z : Session). GivesIt key good z.doing) (session_own r past a e is ∙ ap (λ o. session_after (content past r) e.kind was (sent_at a e.sent) o) (took_at s past a e x)) g))

      found : (is_opening x.f.body ≡ false) × AskedBy (content past r) key good (line_in x.f.body)
      found = frame_gives h (content past r) was (sent_at a e.sent) x.f.body key good (λ i. closed (opening_closed c x.f i x.may)) stays no_close now

      get : GetAsked (content past r) key good found.1.0
      get = found.1.2

      asked : message_in x.f.body ≡ Says (Get get.start get.file key)
      asked = said_is x.f.body (Get get.start get.file key) (found.1.1 ∙ ap (λ m. Some m) get.asked)

      same : (end_at (e ∷ past) r a).epoch ≡ c.epoch
      same = ap (λ (z : End). z.epoch) (end_own r past a e is ∙ end_took-is s past a e x) ∙ all_epoch d (sent_at a e.sent) (took_none s past a e x) ∙ takes_epoch c x.f.epoch x.f.body found.0

      epochs : (c.opened ≡ true) × (x.f.epoch ≡ c.epoch)
      epochs = may_epoch c x.f found.0 x.may

      counts : taken_if is_request (e ∷ past) (way_in r a x.f.epoch) ≡ taken_if is_request past (way_in r a x.f.epoch) + one_if (hits is_request x.f.epoch (Some x.f))
      counts = in_count is_request r a x.f.epoch e past is ∙ ap (λ o. taken_if is_request past (way_in r a x.f.epoch) + one_if (hits is_request x.f.epoch o)) (took_at s past a e x)

-- **while a session gives a content, its GET stands**
pub gets_stand : (s : SetUp) (past : List Entry) (p q : ℕ) → OwnRun s past → GetsTaken s.number (server_end p q) past
gets_stand s past p q run = own_induction s (GetsTaken s.number (server_end p q)) (λ key good o g. absurd (true≢false (sym o))) others own past run
  where
    others : (past : List Entry) (e : Entry) → is_of s.number e ≡ false → GetsTaken s.number (server_end p q) past → GetsTaken s.number (server_end p q) (e ∷ past)
    others past e is old key good o g =
        let same : end_at (e ∷ past) s.number (server_end p q) ≡ end_at past s.number (server_end p q) = rw is refl in
        later s.number past e (server_end p q) key good (ap (λ (z : End). z.epoch) same) (λ n. in_other is_request s.number (server_end p q) n e past is) (old key good (rw is at o) (rw is at g))

    own : (past : List Entry) (e : Entry) (words : ℕ → Option Word) → OwnRun s past → is_of s.number e ≡ true → OwnPart s past words e → GetsTaken s.number (server_end p q) past → GetsTaken s.number (server_end p q) (e ∷ past)
    own past e words run is part old = elim (at_server s past words e p q part) [
      | inl x ↦ gets_shut s past e (server_end p q) is (closed_new s p q past run) old x
      | inr (inl x) ↦ gets_take s past e (server_end p q) is (closed_new s p q past run) old x
      | inr (inr x) ↦ gets_give s past e (server_end p q) is (closed_new s p q past run) old x
    ]
