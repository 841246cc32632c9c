-- Each line that goes down is read, within the bounds of a run.
use Rattle.std.proofs.Common.{◌≡◌, ℕ, ◌≤◌, List, [], ◌∷◌, Some, ◌⊎◌, inl, inr, sym, ap, ◌∙◌, subst}
use Rattle.annex_base.specs.Lists.{Member}
use Rattle.annex_base.proofs.Lists.{Each-member, Member-filter_from}
use Rattle.step_facts.proofs.Below.{SentAreRead}
use Rattle.run_data.specs.declared.entry.Entry.{Entry}
use Rattle.run_data.specs.declared.entry.FrameView.{FrameView}
use Rattle.run_data.specs.declared.entry.FrameText.{FrameText}
use Rattle.run_data.specs.declared.entry.FrameText.TheVariants.{Closing, Line}
use Rattle.p2p_wire.specs.declared.message.Message.{Message}
use Rattle.p2p_wire.specs.Messages.{message_of}
use Rattle.node_model.specs.SetUp.{SetUp}
use Rattle.node_model.specs.Ends.{End, EndName, end_sends, end_takes, frames, sent_at, sends_at, server_end}
use Rattle.run_model.specs.States.{end_at, session, state_of}
use Rattle.node_model.specs.SessionStep.{here, on_frame}
use Rattle.step_facts.proofs.BySteps.{ByStep}
use Rattle.run_model.specs.Run.{OwnPast}
use Rattle.step_facts.proofs.ServerEnds.{GivesHere, ServerDoes, Shuts, TakesHere, server_does}
use Rattle.step_facts.proofs.EndEpochs.{sends_is}
use Rattle.step_facts.proofs.SessionReads.{SaysRead, frame_read, gives_read}
use Rattle.step_facts.proofs.BySteps.{own_always}
use Rattle.run_laws.proofs.InTurn.{AllRead, IsRead}

body_in : (a : EndName) (c : End) (bodies : List FrameText) (g : FrameView) → Member g (frames a c bodies) → Member g.body bodies
body_in a c [] g m = absurd m
body_in a c (body ∷ bodies) g (inl i) = inl (ap (λ (h : FrameView). h.body) i)
body_in a c (body ∷ bodies) g (inr i) = inr (body_in a (end_sends c body) bodies g i)

reads_in : (a : EndName) (c : End) (says : List FrameText) (sent : List FrameView) → sent ≡ frames a c says → SaysRead says → (g : FrameView) (text : List ℕ) → Member g sent → g.body ≡ Line text → (k : Message) × (message_of text ≡ Some k)
reads_in a c says sent is read g text m b = read text (subst (λ x. Member x says) b (body_in a c says g (subst (Member g) is m)))

pub read_step : SentAreRead → ByStep (λ s past e. IsRead e)
read_step reads_back s past words e h bound is part g text m u b = go (server_does s past words e part)
  where
    at_end : (p q : ℕ) → TakesHere s past (server_end p q) e ⊎ GivesHere s past (server_end p q) e → (k : Message) × (message_of text ≡ Some k)
    at_end p q (inl x) =
        reads_in (server_end p q) (end_takes (end_at past s.number (server_end p q)) x.f.epoch x.f.body) (on_frame (here s (state_of s past) x.k (server_end p q)) (session past s.number (server_end p q)) x.f.body).says e.sent x.sent_is
        (frame_read reads_back s past h part.known x.k x.part_small (subst (λ n. n ≤ 1000000000000) x.time_is bound.in_time) (server_end p q) (session past s.number (server_end p q)) x.f.body) g text m b
    at_end p q (inr x) =
        reads_in (server_end p q) (end_at past s.number (server_end p q)) x.x.says e.sent x.sent_is
        (gives_read reads_back s past h part.known x.k x.part_small (subst (λ n. n ≤ 1000000000000) x.time_is bound.in_time) (server_end p q) (session past s.number (server_end p q)).doing x.x x.next) g text m b

    shut : ((p q : ℕ) → Shuts (server_end p q) e) → g.body ≡ Closing
    shut x = Each-member (λ (h : FrameView). h.body ≡ Closing) (sent_at (server_end g.peer g.slot) e.sent) g (x g.peer g.slot).closes
        (Member-filter_from (sends_at (server_end g.peer g.slot)) e.sent g m (sends_is (server_end g.peer g.slot) g (λ i. record { peer = g.peer; slot = g.slot; client = u i })))

    go : ServerDoes s past e → (k : Message) × (message_of text ≡ Some k)
    go (inl x) = at_end x.0 x.1 x.3
    go (inr x) = absurd (let no' : Closing ≡ Line text = sym (shut x) ∙ b in cc)

pub all_read : SentAreRead → (s : SetUp) (past : List Entry) → OwnPast s past → AllRead s.number past
all_read reads_back s past h = own_always (λ s past e. IsRead e) (read_step reads_back) s past h
