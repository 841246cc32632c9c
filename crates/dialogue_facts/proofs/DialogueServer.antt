-- An own entry at a server's end keeps the dialogue there: by what its session takes or gives it goes on, or the end is closed.
use Rattle.std.proofs.Common.{◌≡◌, ℕ, ◌/◌, ◌<◌, ◌≤◌, ◌^◌, true, false, List, [], ◌∷◌, length, Option, refl, ap, ◌∙◌, subst, arith}
use Rattle.std.specs.Prelude.{nat_lt}
use Rattle.std.proofs.lemmas.Bool.Decides.{nat_tests}
use Rattle.step_facts.proofs.Below.{SentAreRead}
use Rattle.run_data.specs.declared.entry.Entry.{Entry}
use Rattle.run_data.specs.declared.entry.FrameText.{FrameText}
use Rattle.run_data.specs.declared.entry.FrameText.TheVariants.{Opening, Closing, Bytes, Line}
use Rattle.run_model.specs.Past.{is_of}
use Rattle.p2p_wire.specs.Messages.{message_of}
use Rattle.node_model.specs.SetUp.{SetUp, version_of}
use Rattle.run_model.specs.States.{state_of, end_at, content, session}
use Rattle.node_model.specs.Ends.{End, EndName, end_sends, end_takes, frames, sent_at}
use Rattle.node_model.specs.Sessions.{Session, message_said, sends_close, sent_more, session_after, session_left, session_took, took_message}
use Rattle.node_model.specs.SessionStep.{Reply, here, now_of, on_frame}
use Rattle.node_model.specs.Look.{Look}
use Rattle.run_model.specs.Run.{OwnPast}
use Rattle.step_facts.proofs.Spoken.{auth_read, clock_small, data_read, part_read, time_read, version_read}
use Rattle.step_facts.proofs.ServerEnds.{GivesHere, TakesHere}
use Rattle.step_facts.proofs.EndMoves.{OpensNone, all_epoch, end_gave, end_own, end_took-is, frame_none, frames_none, gave_none, sends_all, sent_gave, sent_took, session_own, taken_none, took_at}
use Rattle.step_facts.proofs.NewSessions.{no_close}
use Rattle.dialogue_facts.proofs.DialogueTurns.{bodies}
use Rattle.dialogue_facts.proofs.DialogueReplies.{Opens, Spot, after_frame, told_first}
use Rattle.dialogue_facts.proofs.DialogueGives.{gave_first}

-- ---- frames of a reply

pub bodies_frames : (a : EndName) (c : End) (says : List FrameText) → bodies (frames a c says) ≡ says
bodies_frames a c [] = refl
bodies_frames a c (b ∷ bs) = ap (λ (xs : List FrameText). b ∷ xs) (bodies_frames a (end_sends c b) bs)

said_frames : (a : EndName) (c : End) (says : List FrameText) → message_said (frames a c says) ≡ told_first says
said_frames a c [] = refl
said_frames a c (b ∷ bs) = refl

closes_frames : (a : EndName) (c : End) (says : List FrameText) → Opens says → sends_close (frames a c says) ≡ false
closes_frames a c [] o = refl
closes_frames a c (b ∷ bs) o = rw (o.0) (closes_frames a (end_sends c b) bs o.1)

gave_frames : (a : EndName) (c : End) (z : Session) (says : List FrameText) → sent_more z (frames a c says) ≡ gave_first z says
gave_frames a c z [] = refl
gave_frames a c z (b ∷ bs) = refl

took_frames : (a : EndName) (c : End) (size : List ℕ → Option ℕ) (z : Session) (x : Reply) (body : FrameText) → session_took size x.kind z (frames a c x.says) body ≡ after_frame size z body x
took_frames a c size z x Opening = refl
took_frames a c size z x Closing = refl
took_frames a c size z x (Bytes n) = refl
took_frames a c size z x (Line text) = ap (λ o. took_message size x.kind z o (message_of text)) (said_frames a c x.says)

-- ---- what the session reads

module _ (reads_back : SentAreRead) (s : SetUp) (past : List Entry) (h : OwnPast s past) (known : s.number < length s.repos) (speaks : 1 ≤ version_of s) (k : Look) (small : k.part < 2 ^ 62) (early : k.time ≤ 1000000000000) (b : EndName) where
  pub spot_of : Spot (here s (state_of s past) k b)
  spot_of = record {
    speaks = speaks;
    version = version_read reads_back s past 3 h;
    data' = λ key n. data_read reads_back s past key n h;
    time = time_read reads_back s past k.time h early;
    soon = soon (now_of (here s (state_of s past) k b)) (clock_small s.repos past s.number k.time h.repos h.bounds early);
    part = part_read reads_back k.part small;
    auth = auth_read reads_back s past h known;
  }
    where
      soon : (c : ℕ) → c ≤ 1100000000000 → nat_lt (c / 1000) (2 ^ 61) ≡ true
      soon c l = grind (arith, nat_tests)

-- ---- the end and the session after it

module _ (s : SetUp) (past : List Entry) (e : Entry) (b : EndName) (is : is_of s.number e ≡ true) where
  abbrev c : End
  c = end_at past s.number b

  abbrev was : Session
  was = session past s.number b

  -- how it stands then
  pub record Stands (d : End) (z : Session) : Type 0 where
    pub opened_is : (end_at (e ∷ past) s.number b).opened ≡ d.opened
    pub epoch_is : (end_at (e ∷ past) s.number b).epoch ≡ d.epoch
    pub session_is : session (e ∷ past) s.number b ≡ z

  module _ (y : TakesHere s past b e) where
    abbrev pub answer : Reply
    answer = on_frame (here s (state_of s past) y.k b) was y.f.body

    abbrev pub taken_end : End
    taken_end = end_takes c y.f.epoch y.f.body

    pub took_stands : Opens answer.says → Stands taken_end (after_frame (content past s.number) was y.f.body answer)
    took_stands o =
        let sent : sent_at b e.sent ≡ frames b taken_end answer.says = sent_took s past b e y in
        let after : end_at (e ∷ past) s.number b ≡ sends_all taken_end (frames b taken_end answer.says) = end_own s.number past b e is ∙ (end_took-is s past b e y ∙ ap (sends_all taken_end) sent) in
        let none : OpensNone (frames b taken_end answer.says) = frames_none b taken_end answer.says (frame_none (here s (state_of s past) y.k b) was y.f.body) in
        let shut : sends_close (frames b taken_end answer.says) ≡ false = closes_frames b taken_end answer.says o in
        record {
          opened_is = ap (λ (z : End). z.opened) after ∙ no_close taken_end (frames b taken_end answer.says) none shut;
          epoch_is = ap (λ (z : End). z.epoch) after ∙ all_epoch taken_end (frames b taken_end answer.says) none;
          session_is = session_own s.number past b e is ∙ ((λ i. session_after (content past s.number) (y.kind_is i) was (sent i) (took_at s past b e y i))
              ∙ (ap (λ x. session_left x (session_took (content past s.number) answer.kind was (frames b taken_end answer.says) y.f.body)) shut ∙ took_frames b taken_end (content past s.number) was answer y.f.body));
        }

    pub took_bodies : bodies (sent_at b e.sent) ≡ answer.says
    took_bodies = ap bodies (sent_took s past b e y) ∙ bodies_frames b taken_end answer.says

  module _ (y : GivesHere s past b e) where
    pub gave_stands : Opens y.x.says → Stands c (gave_first was y.x.says)
    gave_stands o =
        let sent : sent_at b e.sent ≡ frames b c y.x.says = sent_gave s past b e y in
        let after : end_at (e ∷ past) s.number b ≡ sends_all c (frames b c y.x.says) = end_own s.number past b e is ∙ (end_gave s past b e y ∙ ap (sends_all c) sent) in
        let none : OpensNone (frames b c y.x.says) = subst OpensNone sent (gave_none s past b e y) in
        let shut : sends_close (frames b c y.x.says) ≡ false = closes_frames b c y.x.says o in
        record {
          opened_is = ap (λ (z : End). z.opened) after ∙ no_close c (frames b c y.x.says) none shut;
          epoch_is = ap (λ (z : End). z.epoch) after ∙ all_epoch c (frames b c y.x.says) none;
          session_is = session_own s.number past b e is ∙ ((λ i. session_after (content past s.number) e.kind was (sent i) (taken_none s past b e y i))
              ∙ (ap (λ x. session_left x (sent_more was (frames b c y.x.says))) shut ∙ gave_frames b c was y.x.says));
        }

    pub gave_bodies : bodies (sent_at b e.sent) ≡ y.x.says
    gave_bodies = ap bodies (sent_gave s past b e y) ∙ bodies_frames b c y.x.says
