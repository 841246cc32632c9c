-- How an end of a server moves: only an Opening that it takes changes its epoch.
use Rattle.std.proofs.Common.{◌≡◌, ℕ, Bool, true, false, List, [], ◌∷◌, Option, Some, None, inl, inr, refl, ap, ◌∙◌, sym}
use Rattle.std.specs.Prelude.{if◌then◌else◌, ◌==◌, ◌&&◌, fold, nat_lt, not}
use Rattle.std.proofs.lemmas.Bool.{and_parts, eqb-true, not-true}
use Rattle.annex_base.specs.Lists.{Each}
use Rattle.annex_base.specs.declared.kinds.Word.{Word}
use Rattle.run_data.specs.declared.entry.Entry.{Entry}
use Rattle.run_data.specs.declared.entry.FrameView.{FrameView}
use Rattle.run_data.specs.declared.entry.FrameText.{FrameText}
use Rattle.run_data.specs.declared.entry.FrameText.TheVariants.{Opening, Closing, Bytes, Line}
use Rattle.run_model.specs.Past.{is_of}
use Rattle.p2p_wire.specs.declared.message.Message.{Message}
use Rattle.p2p_wire.specs.declared.message.Message.TheVariants.{Get}
use Rattle.p2p_wire.specs.Messages.{message_of}
use Rattle.run_model.specs.Said.{wants_answer}
use Rattle.node_model.specs.SetUp.{SetUp}
use Rattle.node_model.specs.Ends.{End, EndName, end_after, end_sends, end_takes, end_took, frames, is_opening, may_take, sent_at, taken_at}
use Rattle.run_model.specs.States.{end_at, content, session, state_of}
use Rattle.node_model.specs.Sessions.{Doing, Session, line_in, session_after}
use Rattle.node_model.specs.SessionStep.{Here, here, on_frame, on_message, on_text}
use Rattle.run_model.specs.Run.{OwnPart, OwnRun}
use Rattle.step_facts.proofs.Counting.{Closes, Counts, GetCounts, GivesOne, Pieces, bytes_counts, get_counts, gives_counts, message_counts}
use Rattle.step_facts.proofs.ServerEnds.{GivesHere, Shuts, TakesHere, sent_same}

-- ---- frames without an Opening

abbrev pub NoOpening : List FrameText → Type 0
NoOpening bodies = Each (λ b. is_opening b ≡ false) bodies

abbrev pub OpensNone : List FrameView → Type 0
OpensNone fs = Each (λ g. is_opening g.body ≡ false) fs

abbrev pub sends_all : End → List FrameView → End
sends_all c fs = fold (λ c f. end_sends c f.body) c fs

pub frames_none : (a : EndName) (c : End) (bodies : List FrameText) → NoOpening bodies → OpensNone (frames a c bodies)
frames_none a c [] n = tt
frames_none a c (body ∷ bodies) n = (n.0, frames_none a (end_sends c body) bodies n.1)

pub sends_epoch : (c : End) (body : FrameText) → is_opening body ≡ false → (end_sends c body).epoch ≡ c.epoch
sends_epoch c Opening n = absurd (cc)
sends_epoch c Closing n = refl
sends_epoch c (Bytes k) n = refl
sends_epoch c (Line text) n = refl

sends_opened : (c : End) (body : FrameText) → is_opening body ≡ false → (end_sends c body).opened ≡ true → c.opened ≡ true
sends_opened c Opening n e = absurd (cc)
sends_opened c Closing n e = absurd (cc)
sends_opened c (Bytes k) n e = e
sends_opened c (Line text) n e = e

pub all_epoch : (c : End) (fs : List FrameView) → OpensNone fs → (sends_all c fs).epoch ≡ c.epoch
all_epoch c [] n = refl
all_epoch c (f ∷ fs) n = all_epoch (end_sends c f.body) fs n.1 ∙ sends_epoch c f.body n.0

pub all_opened : (c : End) (fs : List FrameView) → OpensNone fs → (sends_all c fs).opened ≡ true → c.opened ≡ true
all_opened c [] n e = e
all_opened c (f ∷ fs) n e = sends_opened c f.body n.0 (all_opened (end_sends c f.body) fs n.1 e)

-- a closed end stays so
pub closed_stays : (d : End) (fs : List FrameView) → OpensNone fs → d.opened ≡ false → (sends_all d fs).opened ≡ false
closed_stays d fs n shut = go (sends_all d fs).opened refl
  where
    go : (b : Bool) → (sends_all d fs).opened ≡ b → b ≡ false
    go false i = refl
    go true i = absurd (let no' : true ≡ false = sym (all_opened d fs n i) ∙ shut in cc)

-- ---- what a session says opens nothing

closes_none : (says : List FrameText) → Closes says → NoOpening says
closes_none says (inl x) = rw x (refl, tt)
closes_none says (inr x) = rw x (refl, (refl, tt))

counts_none : (q : Bool) (was : Doing) (says : List FrameText) → Counts q was says → NoOpening says
counts_none q was says (inl x) = closes_none says x
counts_none q was says (inr (inl x)) = rw x.1 (refl, tt)
counts_none q was says (inr (inr x)) = rw x.0 tt

get_none : (was : Doing) (says : List FrameText) → GetCounts was says → NoOpening says
get_none was says (inl x) = closes_none says x
get_none was says (inr x) = rw x.1 (refl, tt)

pub pieces_none : (was : Doing) (says : List FrameText) → Pieces was says → NoOpening says
pieces_none was says (inl x) = rw x (refl, tt)
pieces_none was says (inr (inl x)) = rw x.1 (refl, tt)
pieces_none was says (inr (inr x)) = rw x.1 (refl, tt)

message_none : (h : Here) (v : ℕ) (doing : Doing) (m : Message) → NoOpening (on_message h v doing m).says
message_none h v doing (Get n file key) = get_none doing (on_message h v doing (Get n file key)).says (get_counts h v doing n file key)
message_none h v doing m = counts_none (wants_answer m) doing (on_message h v doing m).says (message_counts h v doing m refl)

text_none : (h : Here) (was : Session) (m : Option Message) → NoOpening (on_text h was m).says
text_none h was None = (refl, (refl, tt))
text_none h was (Some m) = message_none h was.version was.doing m

pub frame_none : (h : Here) (was : Session) (body : FrameText) → NoOpening (on_frame h was body).says
frame_none h was Opening = (refl, tt)
frame_none h was Closing = tt
frame_none h was (Bytes n) = counts_none false was.doing (on_frame h was (Bytes n)).says (bytes_counts h n was.doing)
frame_none h was (Line text) = text_none h was (message_of text)

-- ---- the end and the session after an own entry

pub end_own : (r : ℕ) (past : List Entry) (a : EndName) (e : Entry) → is_of r e ≡ true → end_at (e ∷ past) r a ≡ end_after a (end_at past r a) e
end_own r past a e is = rw is refl

pub session_own : (r : ℕ) (past : List Entry) (a : EndName) (e : Entry) → is_of r e ≡ true
    → session (e ∷ past) r a ≡ session_after (content past r) e.kind (session past r a) (sent_at a e.sent) (taken_at a e.taken)
session_own r past a e is = rw is refl

-- a Close says nothing of an Opening
pub shuts_none : (fs : List FrameView) → Each (λ g. g.body ≡ Closing) fs → OpensNone fs
shuts_none [] n = tt
shuts_none (f ∷ fs) n = (rw n.0 refl, shuts_none fs n.1)

pub end_shuts : (a : EndName) (c : End) (e : Entry) → Shuts a e → end_after a c e ≡ sends_all c (sent_at a e.sent)
end_shuts a c e x = ap (λ o. sends_all (end_took c o) (sent_at a e.sent)) x.takes_none

module _ (s : SetUp) (past : List Entry) (a : EndName) (e : Entry) where
  abbrev c : End
  c = end_at past s.number a

  abbrev was : Session
  was = session past s.number a

  pub took_at : (x : TakesHere s past a e) → taken_at a e.taken ≡ Some x.f
  took_at x = rw (x.taken_is, x.of_end) refl

  pub sent_took : (x : TakesHere s past a e) → sent_at a e.sent ≡ frames a (end_takes c x.f.epoch x.f.body) (on_frame (here s (state_of s past) x.k a) was x.f.body).says
  sent_took x = ap (sent_at a) x.sent_is ∙ sent_same a (end_takes c x.f.epoch x.f.body) (on_frame (here s (state_of s past) x.k a) was x.f.body).says

  pub end_took-is : (x : TakesHere s past a e) → end_after a c e ≡ sends_all (end_takes c x.f.epoch x.f.body) (sent_at a e.sent)
  end_took-is x = ap (λ o. sends_all (end_took c o) (sent_at a e.sent)) (took_at x)

  pub took_none : (x : TakesHere s past a e) → OpensNone (sent_at a e.sent)
  took_none x = rw (sent_took x) (frames_none a (end_takes c x.f.epoch x.f.body) (on_frame (here s (state_of s past) x.k a) was x.f.body).says (frame_none (here s (state_of s past) x.k a) was x.f.body))

  pub taken_none : (x : GivesHere s past a e) → taken_at a e.taken ≡ None
  taken_none x = rw x.taken_is refl

  pub sent_gave : (x : GivesHere s past a e) → sent_at a e.sent ≡ frames a c x.x.says
  sent_gave x = ap (sent_at a) x.sent_is ∙ sent_same a c x.x.says

  pub end_gave : (x : GivesHere s past a e) → end_after a c e ≡ sends_all c (sent_at a e.sent)
  end_gave x = ap (λ o. sends_all (end_took c o) (sent_at a e.sent)) (taken_none x)

  pub gave_one : (x : GivesHere s past a e) → GivesOne was.doing x.x.says
  gave_one x = gives_counts (here s (state_of s past) x.k a) was.doing x.x x.next

  pub gave_none : (x : GivesHere s past a e) → OpensNone (sent_at a e.sent)
  gave_none x = rw (sent_gave x) (frames_none a c x.x.says (pieces_none was.doing x.x.says (gave_one x).1))

-- a frame that is no Opening is of the end's epoch, and the end is open
pub may_epoch : (c : End) (f : FrameView) → is_opening f.body ≡ false → may_take c f ≡ true → (c.opened ≡ true) × (f.epoch ≡ c.epoch)
may_epoch c f n may = go f.body n may
  where
    go : (body : FrameText) → is_opening body ≡ false → (if is_opening body then not c.opened && nat_lt c.epoch f.epoch else c.opened && (f.epoch == c.epoch)) ≡ true → (c.opened ≡ true) × (f.epoch ≡ c.epoch)
    go body n may = let two = and_parts c.opened (f.epoch == c.epoch) (rw n at may) in (two.0, eqb-true f.epoch c.epoch two.1)

-- an Opening that may be taken comes to an end that isn't open
pub opening_closed : (c : End) (f : FrameView) → is_opening f.body ≡ true → may_take c f ≡ true → c.opened ≡ false
opening_closed c f i may = not-true c.opened (and_parts (not c.opened) (nat_lt c.epoch f.epoch) (rw i at may)).0

pub line_opens : (body : FrameText) (m : Message) → line_in body ≡ Some m → is_opening body ≡ false
line_opens Opening m e = absurd (cc)
line_opens Closing m e = refl
line_opens (Bytes n) m e = refl
line_opens (Line text) m e = refl

pub takes_epoch : (c : End) (epoch : ℕ) (body : FrameText) → is_opening body ≡ false → (end_takes c epoch body).epoch ≡ c.epoch
takes_epoch c epoch Opening n = absurd (cc)
takes_epoch c epoch Closing n = refl
takes_epoch c epoch (Bytes k) n = refl
takes_epoch c epoch (Line text) n = refl

-- ---- induction over an own run

pub own_induction : (s : SetUp) (P : List Entry → Type 0) → P []
    → ((past : List Entry) (e : Entry) → is_of s.number e ≡ false → P past → P (e ∷ past))
    → ((past : List Entry) (e : Entry) (words : ℕ → Option Word) → OwnRun s past → is_of s.number e ≡ true → OwnPart s past words e → P past → P (e ∷ past))
    → (past : List Entry) → OwnRun s past → P past
own_induction s P start other own [] run = start
own_induction s P start other own (e ∷ past) run = go (own_induction s P start other own past run.1) (is_of s.number e) refl
  where
    go : P past → (b : Bool) → is_of s.number e ≡ b → P (e ∷ past)
    go was true is = let x = run.0 is in own past e x.0 run.1 is x.1 was
    go was false is = other past e is was
