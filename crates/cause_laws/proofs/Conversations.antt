-- **Over a run, the dialogue on each open connection of a running job**: what the session does and what is on the way suit where the job
-- stands.
use Rattle.std.proofs.Common.{◌≡◌, ℕ, Bool, true, false, List, [], ◌∷◌, ◌++◌, inl, inr, refl, sym, ◌∙◌, subst}
use Rattle.annex_base.specs.Lists.{Each}
use Rattle.step_facts.proofs.Below.{SentAreRead}
use Rattle.run_data.specs.declared.entry.Entry.{Entry}
use Rattle.run_data.specs.declared.entry.FrameText.{FrameText}
use Rattle.run_data.specs.declared.entry.FrameText.TheVariants.{Closing}
use Rattle.run_data.specs.declared.run.Run.{Run}
use Rattle.run_data.specs.Repos.{IsSetUp}
use Rattle.run_model.specs.Past.{is_of}
use Rattle.node_model.specs.Ends.{End, server_end}
use Rattle.run_model.specs.States.{end_at, session}
use Rattle.node_model.specs.Sessions.{Session}
use Rattle.node_model.specs.Jobs.{Work, job_end}
use Rattle.run_model.specs.Run.{RunPast, RunStep, set_up}
use Rattle.job_facts.proofs.Dialogue.{stands_at}
use Rattle.cause_laws.proofs.Queues.{Queue, others_queue}
use Rattle.cause_laws.proofs.ConversationServer.{Where, down_way, server_goes, up_way}
use Rattle.cause_laws.proofs.ConversationClient.{Conversation, Conversing, client_goes}

module _ (reads_back : SentAreRead) (run : Run) (repos : Each IsSetUp run.repos) (past : List Entry) (e : Entry) (h : RunPast (set_up run) past) (step : RunStep (set_up run) past e) (r : ℕ) (other : is_of r e ≡ false) (was : Conversing past r) where
  module _ (w : Work) (p : ℕ) (old : Conversation past r p w) where
    end_same : end_at (e ∷ past) r (job_end w p) ≡ end_at past r (job_end w p)
    end_same = rw other refl

    by_server : is_of p e ≡ true → Conversation (e ∷ past) r p w
    by_server own =
        let c = server_goes reads_back run repos past e h step r p w.slot own other (stands_at w p) old.z old.up old.down old.talk old.there in
        record {
          z = c.z;
          up = c.up;
          down = c.down;
          talk = c.talk;
          knows = λ to g. old.knows to g ∙ sym (c.version g);
          there = subst (λ (a : End). Where (e ∷ past) r p w.slot a.epoch (end_at (e ∷ past) p (server_end r w.slot)) (session (e ∷ past) p (server_end r w.slot)) (stands_at w p) c.z c.up c.down) (sym end_same) c.there;
        }

    by_others : is_of p e ≡ false → Conversation (e ∷ past) r p w
    by_others off = record { z = old.z; up = old.up; down = old.down; talk = old.talk; knows = old.knows; there = there }
      where
        up_still : (k : ℕ) (bs : List FrameText) → Queue past (up_way r p w.slot k) bs → Queue (e ∷ past) (up_way r p w.slot k) bs
        up_still k bs q = others_queue past e (up_way r p w.slot k) bs other off q

        down_still : (k : ℕ) (bs : List FrameText) → Queue past (down_way r p w.slot k) bs → Queue (e ∷ past) (down_way r p w.slot k) bs
        down_still k bs q = others_queue past e (down_way r p w.slot k) bs off other q

        still : (k : ℕ) (d : End) (v : Session) → Where past r p w.slot k d v (stands_at w p) old.z old.up old.down → Where (e ∷ past) r p w.slot k d v (stands_at w p) old.z old.up old.down
        still k d v (inl u) = inl (record { later = u.later; at_open = u.at_open; opening = u.opening; nothing = u.nothing; up_queue = up_still k old.up u.up_queue; down_queue = down_still k old.down u.down_queue })
        still k d v (inr (inl u)) = inr (inl (record { opened = u.opened; epoch_is = u.epoch_is; session_is = u.session_is; up_queue = up_still k old.up u.up_queue; down_queue = down_still k old.down u.down_queue }))
        still k d v (inr (inr u)) = inr (inr (record { rest = u.rest; down_queue = down_still k (old.down ++ Closing ∷ u.rest) u.down_queue }))

        server_same : end_at (e ∷ past) p (server_end r w.slot) ≡ end_at past p (server_end r w.slot)
        server_same = rw off refl

        session_same : session (e ∷ past) p (server_end r w.slot) ≡ session past p (server_end r w.slot)
        session_same = rw off refl

        client_same : end_at (e ∷ past) r (job_end w p) ≡ end_at past r (job_end w p)
        client_same = rw other refl

        there : Where (e ∷ past) r p w.slot (end_at (e ∷ past) r (job_end w p)).epoch (end_at (e ∷ past) p (server_end r w.slot)) (session (e ∷ past) p (server_end r w.slot)) (stands_at w p) old.z old.up old.down
        there = subst (λ (a : End). Where (e ∷ past) r p w.slot a.epoch (end_at (e ∷ past) p (server_end r w.slot)) (session (e ∷ past) p (server_end r w.slot)) (stands_at w p) old.z old.up old.down) (sym client_same)
            (subst (λ (d : End). Where (e ∷ past) r p w.slot (end_at past r (job_end w p)).epoch d (session (e ∷ past) p (server_end r w.slot)) (stands_at w p) old.z old.up old.down) (sym server_same)
            (subst (λ (v : Session). Where (e ∷ past) r p w.slot (end_at past r (job_end w p)).epoch (end_at past p (server_end r w.slot)) v (stands_at w p) old.z old.up old.down) (sym session_same)
            (still (end_at past r (job_end w p)).epoch (end_at past p (server_end r w.slot)) (session past p (server_end r w.slot)) old.there)))

    goes : (b : Bool) → is_of p e ≡ b → Conversation (e ∷ past) r p w
    goes true own = by_server own
    goes false off = by_others off

  pub others_go : Conversing (e ∷ past) r
  others_go w m p live now = goes w p (was w (rw other at m) p live (rw other at now)) (is_of p e) refl

module _ (reads_back : SentAreRead) (run : Run) (repos : Each IsSetUp run.repos) where
  pub conversing : (past : List Entry) → RunPast (set_up run) past → (r : ℕ) → Conversing past r
  conversing [] h r = λ w m p live now. absurd m
  conversing (e ∷ past) h r = go (conversing past h.1 r) (is_of r e) refl
    where
      go : Conversing past r → (b : Bool) → is_of r e ≡ b → Conversing (e ∷ past) r
      go was true own = client_goes reads_back run repos past e h.1 h.0 r own was
      go was false other = others_go reads_back run repos past e h.1 h.0 r other was
