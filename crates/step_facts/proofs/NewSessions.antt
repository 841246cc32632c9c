-- While a server's end isn't open, its session is new.
use Rattle.std.proofs.Common.{◌≡◌, ℕ, Bool, true, false, List, [], ◌∷◌, Option, Some, inl, inr, refl, sym, ap, ◌∙◌}
use Rattle.annex_base.specs.Lists.{Each}
use Rattle.run_data.specs.declared.entry.Entry.{Entry}
use Rattle.run_data.specs.declared.entry.FrameText.{FrameText}
use Rattle.run_data.specs.declared.entry.FrameText.TheVariants.{Opening, Closing, Bytes, Line}
use Rattle.run_data.specs.declared.entry.FrameView.{FrameView}
use Rattle.run_model.specs.Past.{is_of}
use Rattle.node_model.specs.SetUp.{SetUp}
use Rattle.node_model.specs.Ends.{End, EndName, end_sends, end_takes, is_opening, sent_at, server_end, taken_at}
use Rattle.run_model.specs.States.{end_at, content, session}
use Rattle.node_model.specs.Sessions.{Session, is_closing, new_session, sends_close, sent_more, session_goes, session_left, session_took}
use Rattle.run_model.specs.Run.{OwnRun}
use Rattle.step_facts.proofs.EndMoves.{OpensNone, closed_stays, end_gave, end_own, end_shuts, end_took-is, gave_none, may_epoch, own_induction, sends_all, session_own, shuts_none, took_at, took_none}
use Rattle.step_facts.proofs.ServerEnds.{AtServer, GivesHere, Shuts, TakesHere, at_server}

-- ---- a Close among what is sent

close_sends : (c : End) (body : FrameText) → is_closing body ≡ true → (end_sends c body).opened ≡ false
close_sends c Opening i = absurd (cc)
close_sends c Closing i = refl
close_sends c (Bytes k) i = absurd (cc)
close_sends c (Line text) i = absurd (cc)

-- it closes the end
pub close_shuts : (c : End) (fs : List FrameView) → OpensNone fs → sends_close fs ≡ true → (sends_all c fs).opened ≡ false
close_shuts c [] n s = absurd (cc)
close_shuts c (f ∷ fs) n s = go (close_shuts (end_sends c f.body) fs n.1) (is_closing f.body) refl
  where
    go : (sends_close fs ≡ true → (sends_all (end_sends c f.body) fs).opened ≡ false) → (b : Bool) → is_closing f.body ≡ b → (sends_all c (f ∷ fs)).opened ≡ false
    go more true is = closed_stays (end_sends c f.body) fs n.1 (close_sends c f.body is)
    go more false is = more (rw is at s)

other_sends : (c : End) (body : FrameText) → is_opening body ≡ false → is_closing body ≡ false → (end_sends c body).opened ≡ c.opened
other_sends c Opening n i = absurd (cc)
other_sends c Closing n i = absurd (cc)
other_sends c (Bytes k) n i = refl
other_sends c (Line text) n i = refl

-- without it the end stays as it was
pub no_close : (c : End) (fs : List FrameView) → OpensNone fs → sends_close fs ≡ false → (sends_all c fs).opened ≡ c.opened
no_close c [] n s = refl
no_close c (f ∷ fs) n s = go (no_close (end_sends c f.body) fs n.1) (is_closing f.body) refl
  where
    go : (sends_close fs ≡ false → (sends_all (end_sends c f.body) fs).opened ≡ (end_sends c f.body).opened) → (b : Bool) → is_closing f.body ≡ b → (sends_all c (f ∷ fs)).opened ≡ c.opened
    go more true is = absurd (let no : true ≡ false = rw is at s in cc)
    go more false is = more (rw is at s) ∙ other_sends c f.body n.0 is

none_sent : (fs : List FrameView) → Each (λ g. g.body ≡ Closing) fs → sends_close fs ≡ false → fs ≡ []
none_sent [] z s = refl
none_sent (f ∷ fs) z s = absurd (let no : true ≡ false = rw z.0 at s in cc)

-- ---- the session of an end that isn't open

pub new_left : (shut : Bool) (x : Session) → (shut ≡ false → x ≡ new_session) → session_left shut x ≡ new_session
new_left true x f = refl
new_left false x f = f refl

abbrev IsNew : ℕ → EndName → List Entry → Type 0
IsNew r a past = (end_at past r a).opened ≡ false → session past r a ≡ new_session

module _ (s : SetUp) (past : List Entry) (e : Entry) (a : EndName) (is : is_of s.number e ≡ true) (old : IsNew s.number a past) (shut : (end_at (e ∷ past) s.number a).opened ≡ false)
    (none : sends_close (sent_at a e.sent) ≡ false) where
  abbrev c : End
  c = end_at past s.number a

  abbrev was : Session
  was = session past s.number a

  abbrev goes : Option FrameView → Session
  goes o = session_goes (content past s.number) e.kind was (sent_at a e.sent) o

  new_shuts : Shuts a e → goes (taken_at a e.taken) ≡ new_session
  new_shuts x =
      let stays : (end_at (e ∷ past) s.number a).opened ≡ c.opened =
      ap (λ (z : End). z.opened) (end_own s.number past a e is ∙ end_shuts a c e x) ∙ no_close c (sent_at a e.sent) (shuts_none (sent_at a e.sent) x.closes) none in
      ap goes x.takes_none ∙ ap (sent_more was) (none_sent (sent_at a e.sent) x.closes none) ∙ old (sym stays ∙ shut)

  new_takes : TakesHere s past a e → goes (taken_at a e.taken) ≡ new_session
  new_takes x = ap goes (took_at s past a e x) ∙ go x.f.body refl
    where
      left : (end_takes c x.f.epoch x.f.body).opened ≡ false
      left = sym (ap (λ (z : End). z.opened) (end_own s.number past a e is ∙ end_took-is s past a e x) ∙ no_close (end_takes c x.f.epoch x.f.body) (sent_at a e.sent) (took_none s past a e x) none) ∙ shut

      open' : (body : FrameText) → x.f.body ≡ body → is_opening body ≡ false → (end_takes c x.f.epoch body).opened ≡ c.opened → goes (Some x.f) ≡ new_session
      open' body i n same =
          let opened = (may_epoch c x.f (ap is_opening i ∙ n) x.may).0 in
          absurd (let no : true ≡ false = sym opened ∙ sym same ∙ ap (λ b. (end_takes c x.f.epoch b).opened) (sym i) ∙ left in cc)

      go : (body : FrameText) → x.f.body ≡ body → goes (Some x.f) ≡ new_session
      go Opening i = absurd (let no : true ≡ false = ap (λ b. (end_takes c x.f.epoch b).opened) (sym i) ∙ left in cc)
      go Closing i = ap (λ b. session_took (content past s.number) e.kind was (sent_at a e.sent) b) i
      go (Bytes n) i = open' (Bytes n) i refl refl
      go (Line text) i = open' (Line text) i refl refl

  new_gives : GivesHere s past a e → goes (taken_at a e.taken) ≡ new_session
  new_gives x =
      let stays : (end_at (e ∷ past) s.number a).opened ≡ c.opened =
      ap (λ (z : End). z.opened) (end_own s.number past a e is ∙ end_gave s past a e x) ∙ no_close c (sent_at a e.sent) (gave_none s past a e x) none in
      absurd (let no : true ≡ false = sym x.opened ∙ sym stays ∙ shut in cc)

  new_goes : AtServer s past a e → goes (taken_at a e.taken) ≡ new_session
  new_goes (inl x) = new_shuts x
  new_goes (inr (inl x)) = new_takes x
  new_goes (inr (inr x)) = new_gives x

pub closed_new : (s : SetUp) (p q : ℕ) (past : List Entry) → OwnRun s past → IsNew s.number (server_end p q) past
closed_new s p q past run = own_induction s (IsNew s.number (server_end p q)) (λ shut. refl)
    (λ past e is old shut. rw is (old (rw is at shut)))
    (λ past e words run is part old shut. session_own s.number past (server_end p q) e is
    ∙ new_left (sends_close (sent_at (server_end p q) e.sent)) (session_goes (content past s.number) e.kind (session past s.number (server_end p q)) (sent_at (server_end p q) e.sent) (taken_at (server_end p q) e.taken))
    (λ none. new_goes s past e (server_end p q) is old shut none (at_server s past words e p q part)))
    past run
