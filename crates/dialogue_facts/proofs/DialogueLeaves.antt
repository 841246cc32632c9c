-- The leaves of the walk over a job's steps: what is taken and sent on one connection keeps the dialogue there.
use Rattle.std.proofs.Common.{◌≡◌, ℕ, Bool, true, false, List, [], ◌∷◌, ◌++◌, Option, Some, None, inl, inr, refl, sym, ap, ◌∙◌, subst, append-nil}
use Rattle.std.specs.Prelude.{fold, if◌then◌else◌}
use Rattle.std.proofs.lemmas.Bool.{true≢false}
use Rattle.annex_base.proofs.Conditions.{if_either}
use Rattle.run_data.specs.declared.entry.Entry.{Entry}
use Rattle.run_data.specs.declared.entry.EntryKind.{EntryKind}
use Rattle.run_data.specs.declared.entry.FrameView.{FrameView}
use Rattle.run_data.specs.declared.entry.FrameText.{FrameText}
use Rattle.run_data.specs.declared.entry.FrameText.TheVariants.{Opening, Closing, Line}
use Rattle.node_model.specs.Rows.{option_is}
use Rattle.p2p_wire.specs.declared.message.Message.{Message}
use Rattle.p2p_wire.specs.Messages.{message_of, text_of}
use Rattle.node_model.specs.Ends.{EndName, end_after, end_sends, end_takes, end_took, is_opening, sent_at}
use Rattle.node_model.specs.Sessions.{Session, is_closing}
use Rattle.node_model.specs.Jobs
use Rattle.node_model.specs.Jobs.{Phase, Work, closed_part, job_end, partner, says, taken_message, talks, talks_on, after_frame}
use Rattle.node_model.specs.Look.{Effect}
use Rattle.node_model.specs.JobStep.{Turn, end_with, me, quietly, says_to, sends_to}
use Rattle.step_facts.proofs.ClientCounts.{IsLive, Local, Stays, answers_here, none_is, quiet_here, sends_here, takes_here}
use Rattle.step_facts.proofs.ClientTurns.{closed_alone, end_then, live_on, made_entry, rows_of, talker, talker_phase, talker_slot}
use Rattle.step_facts.proofs.ClientLeaves.{Taking}
use Rattle.job_facts.proofs.Dialogue
use Rattle.job_facts.proofs.Dialogue.{Stance, kept, phase_stance, rests, stance, stands_at}
use Rattle.dialogue_facts.proofs.DialogueSteps.{rests_more}
use Rattle.dialogue_facts.proofs.DialogueTurns.{ClosesFor, FallsShort, Keeps, KeepsTo, KnowsVersion, local_keeps, rests_at, stands_on}

abbrev Talk : Stance → Session → List FrameText → List FrameText → Type 0
Talk at z up down = Dialogue.Dialogue at z up down

-- the work that a talk of this job leads to
abbrev pub talked : Turn → Effect → Work
talked t m = talks_on (rows_of t) (me t) (talker t m.taken) (made_entry t m) (partner t.w.what.peer t.w.phase)

abbrev pub Goes : Turn → Effect → Type 0
Goes t m = KeepsTo t m (talked t m) × ClosesFor t m

abbrev pub talked_here : Turn → Effect → Work
talked_here t m = talks (rows_of t) (me t) (talker t m.taken) (made_entry t m) m.sent

-- ---- on the connection of the partner

pub talk_keeps : (t : Turn) (m : Effect) (peer : ℕ) (next : Phase) → partner t.w.what.peer t.w.phase ≡ Some peer → Local t.w peer m.taken m.sent → (talked_here t m).phase ≡ next → Stays t.w.what.peer next peer
    → (IsLive next → (end_then (end_with t peer) m).opened ≡ true → Keeps t peer m.taken m.sent (stance t.w.what.peer next (kept (talked_here t m) peer) peer))
    → KeepsTo t m (talked t m)
talk_keeps t m peer to on local goes stays here = subst (λ (p : Option ℕ). KeepsTo t m (talks_on (rows_of t) (me t) x e p)) (sym on)
    (if_either (λ (y : Work). KeepsTo t m y) (end_after (job_end x peer) (t.ends (job_end x peer)) e).opened (talks (rows_of t) (me t) x e m.sent) (closed_part (me t) x peer x.part) opened closed)
  where
    x : Work
    x = talker t m.taken

    e : Entry
    e = made_entry t m

    live : IsLive t.w.phase
    live = live_on t.w.what.peer t.w.phase peer on

    opened : (end_after (job_end x peer) (t.ends (job_end x peer)) e).opened ≡ true → KeepsTo t m (talks (rows_of t) (me t) x e m.sent)
    opened o = local_keeps t m (talks (rows_of t) (me t) x e m.sent) peer local live (inr on) (subst (λ (q : Phase). Stays t.w.what.peer q peer) (sym goes) stays)
        (subst (λ (q : Phase). IsLive q → (end_then (end_with t peer) m).opened ≡ true → Keeps t peer m.taken m.sent (stance t.w.what.peer q (kept (talked_here t m) peer) peer)) (sym goes) here) (λ at o. on)

    same : job_end x peer ≡ job_end t.w peer
    same = ap (λ (s : ℕ). let a : EndName = record { peer = peer; slot = s; client = true } in a) (talker_slot t m.taken)

    shut : (end_after (job_end x peer) (t.ends (job_end x peer)) e).opened ≡ false → (end_then (end_with t peer) m).opened ≡ false
    shut is = subst (λ (fs : List FrameView). (fold (λ c f. end_sends c f.body) (end_took (end_with t peer) m.taken) fs).opened ≡ false) local.sends_here
        (subst (λ (o : Option FrameView). (fold (λ c f. end_sends c f.body) (end_took (end_with t peer) o) (sent_at (job_end t.w peer) m.sent)).opened ≡ false) local.takes_here
        (subst (λ (a : EndName). (end_after a (t.ends a) e).opened ≡ false) same is))

    closed : (end_after (job_end x peer) (t.ends (job_end x peer)) e).opened ≡ false → KeepsTo t m (closed_part (me t) x peer x.part)
    closed is = local_keeps t m (closed_part (me t) x peer x.part) peer local live (inr on) (inl (closed_alone t.w.what.peer (me t) x peer x.part))
        (λ l o. absurd (true≢false (sym o ∙ shut is))) (λ at o. on)

-- the dialogue of the partner's connection, by the phase
abbrev On : Phase → FrameView → Session → List FrameText → List FrameText → Type 0
On phase f z up down = Talk (phase_stance phase) z up (f.body ∷ down)

module _ (t : Turn) (kind : EntryKind) (f : FrameView) (peer : ℕ) (x : Taking t f peer) (phase : Phase) (is : t.w.phase ≡ phase) where
  there : (z : Session) (up down : List FrameText) → Talk (stands_at t.w peer) z up (f.body ∷ down) → On phase f z up down
  there z up down y = subst (λ (q : Phase). Talk (phase_stance q) z up (f.body ∷ down)) is (subst (λ (at : Stance). Talk at z up (f.body ∷ down)) (stands_on t.w.what.peer t.w.phase (kept t.w peer) peer x.on) y)

  live : IsLive t.w.phase
  live = live_on t.w.what.peer t.w.phase peer x.on

  hears_here : (next : Stance) → ((z : Session) (up down : List FrameText) → On phase f z up down → Talk next z up down) → Keeps t peer (Some f) [] next
  hears_here next keeps = inr (record { live = live; opened = x.opened; none_opens = tt; keeps = λ z up down v y. subst (λ (us : List FrameText). Talk next z us down) (sym (append-nil up)) (keeps z up down (there z up down y)) })

  -- something is heard
  pub hears_keeps : (next : Phase) → (after_frame (talker t (Some f)) f.body).phase ≡ next → Stays t.w.what.peer next peer
      → ((z : Session) (up down : List FrameText) → On phase f z up down → Talk (stance t.w.what.peer next (kept (after_frame (talker t (Some f)) f.body) peer) peer) z up down) → Goes t (quietly kind (Some f))
  hears_keeps next goes stays keeps = (
    talk_keeps t (quietly kind (Some f)) peer next x.on (takes_here t.w peer f x.of_end) goes stays
        (λ l o. hears_here (stance t.w.what.peer next (kept (after_frame (talker t (Some f)) f.body) peer) peer) keeps),
    inl tt,
  )

  pub hears_to_keeps : (next : Work) → Stays t.w.what.peer next.phase peer
      → ((z : Session) (up down : List FrameText) → On phase f z up down → Talk (stance t.w.what.peer next.phase (kept next peer) peer) z up down) → KeepsTo t (quietly kind (Some f)) next
  hears_to_keeps next stays keeps = local_keeps t (quietly kind (Some f)) next peer (takes_here t.w peer f x.of_end) live (inr x.on) stays
      (λ l o. hears_here (stance t.w.what.peer next.phase (kept next peer) peer) keeps) (λ at o. x.on)

  says_here : (m : Message) (next : Stance) → ((z : Session) (up down : List FrameText) → KnowsVersion t.w peer z → On phase f z up down → Talk next z (up ++ Line (text_of m) ∷ []) down)
      → Keeps t peer (Some f) (says_to t kind (Some f) peer m).sent next
  says_here m next keeps = inr (record { live = live; opened = x.opened; none_opens = (refl, tt); keeps = λ z up down v y. keeps z up down v (there z up down y) })

  -- and something is said
  pub says_keeps : (m : Message) (next : Phase) → message_of (text_of m) ≡ Some m → (says (talker t (Some f)) t.look.time peer (taken_message (Some f)) m).phase ≡ next → Stays t.w.what.peer next peer
      → ((k : Bool) (z : Session) (up down : List FrameText) → KnowsVersion t.w peer z → On phase f z up down → Talk (stance t.w.what.peer next k peer) z (up ++ Line (text_of m) ∷ []) down) → Goes t (says_to t kind (Some f) peer m)
  says_keeps m next back goes stays keeps = (
    talk_keeps t (says_to t kind (Some f) peer m) peer next x.on (answers_here t.w peer f (end_with t peer) (Line (text_of m)) x.of_end)
        (ap (λ (o : Option Message). (Jobs.says_some (talker t (Some f)) t.look.time peer (taken_message (Some f)) o).phase) back ∙ goes) stays
        (λ l o. says_here m (stance t.w.what.peer next (kept (talked_here t (says_to t kind (Some f) peer m)) peer) peer) (keeps (kept (talked_here t (says_to t kind (Some f) peer m)) peer))),
    inl (refl, tt),
  )

  pub says_to_keeps : (m : Message) (next : Work) → Stays t.w.what.peer next.phase peer
      → ((z : Session) (up down : List FrameText) → KnowsVersion t.w peer z → On phase f z up down → Talk (stance t.w.what.peer next.phase (kept next peer) peer) z (up ++ Line (text_of m) ∷ []) down)
      → KeepsTo t (says_to t kind (Some f) peer m) next
  says_to_keeps m next stays keeps = local_keeps t (says_to t kind (Some f) peer m) next peer (answers_here t.w peer f (end_with t peer) (Line (text_of m)) x.of_end) live (inr x.on) stays
      (λ l o. says_here m (stance t.w.what.peer next.phase (kept next peer) peer) keeps) (λ at o. x.on)

  -- a Close
  pub shut_keeps : f.body ≡ Closing → Goes t (quietly kind (Some f))
  shut_keeps e = (talk_keeps t (quietly kind (Some f)) peer t.w.phase x.on (takes_here t.w peer f x.of_end) goes (inr x.on) (λ l o. absurd (true≢false (sym o ∙ closed))), inl tt)
    where
      closed : (end_takes (end_with t peer) f.epoch f.body).opened ≡ false
      closed = rw e refl

      goes : (after_frame (talker t (Some f)) f.body).phase ≡ t.w.phase
      goes = ap (λ (b : FrameText). (after_frame (talker t (Some f)) b).phase) e ∙ talker_phase t (Some f)

  -- it closes the connection itself
  pub short_keeps : FallsShort t (Some f) → Goes t (sends_to t kind (Some f) peer (Closing ∷ []))
  short_keeps short = (
    talk_keeps t (sends_to t kind (Some f) peer (Closing ∷ [])) peer t.w.phase x.on (answers_here t.w peer f (end_with t peer) Closing x.of_end)
        (talker_phase t (Some f)) (inr x.on) (λ l o. absurd (true≢false (sym o))),
    inr short,
  )

-- ---- steps that take none, on the partner's open connection

module _ (t : Turn) (kind : EntryKind) (peer : ℕ) (phase : Phase) (is : t.w.phase ≡ phase) (on : partner t.w.what.peer t.w.phase ≡ Some peer) where
  pub closes_keeps : FallsShort t None → Goes t (sends_to t kind None peer (Closing ∷ []))
  closes_keeps short = (
    talk_keeps t (sends_to t kind None peer (Closing ∷ [])) peer t.w.phase on (sends_here t.w peer (end_with t peer) Closing)
        (talker_phase t None) (inr on) (λ l o. absurd (true≢false (sym o))),
    inr short,
  )

  pub sends_keeps : (body : FrameText) (next : Phase) → is_closing body ≡ false → is_opening body ≡ false → (end_with t peer).opened ≡ true → (Jobs.sends (talker t None) t.look.time peer None body).phase ≡ next → Stays t.w.what.peer next peer
      → ((k : Bool) (z : Session) (up down : List FrameText) → Talk (phase_stance phase) z up down → Talk (stance t.w.what.peer next k peer) z (up ++ body ∷ []) down) → Goes t (sends_to t kind None peer (body ∷ []))
  sends_keeps body next closing opening opened goes stays keeps = (
    talk_keeps t (sends_to t kind None peer (body ∷ [])) peer next on (sends_here t.w peer (end_with t peer) body) goes stays
        (λ l o. inr (record {
          live = live_on t.w.what.peer t.w.phase peer on;
          opened = opened;
          none_opens = (opening, tt);
          keeps = λ z up down v y. keeps (kept (talked_here t (sends_to t kind None peer (body ∷ []))) peer) z up down
              (subst (λ (q : Phase). Talk (phase_stance q) z up down) is (subst (λ (at : Stance). Talk at z up down) (stands_on t.w.what.peer t.w.phase (kept t.w peer) peer on) y));
        })),
    inl (closing, tt),
  )

  -- the connection was closed: that is handled as Close
  pub lost_keeps : (end_with t peer).opened ≡ false → Goes t (quietly kind None)
  lost_keeps shut = (
    subst (λ (p : Option ℕ). KeepsTo t m (talks_on (rows_of t) (me t) x (made_entry t m) p)) (sym on)
        (subst (λ (b : Bool). KeepsTo t m (if b then talks (rows_of t) (me t) x (made_entry t m) [] else closed_part (me t) x peer x.part)) (sym closed)
        (local_keeps t m (closed_part (me t) x peer x.part) peer (quiet_here t.w peer) (live_on t.w.what.peer t.w.phase peer on) (inr on) (inl (closed_alone t.w.what.peer (me t) x peer x.part))
        (λ l o. absurd (true≢false (sym o ∙ shut))) (λ at o. on))),
    inl tt,
  )
    where
      m : Effect
      m = quietly kind None

      x : Work
      x = talker t None

      closed : (t.ends (job_end x peer)).opened ≡ false
      closed = subst (λ (a : EndName). (t.ends a).opened ≡ false) (sym (ap (λ (s : ℕ). let a : EndName = record { peer = peer; slot = s; client = true } in a) (talker_slot t None))) shut

-- ---- steps of a job that stands on no connection

module _ (t : Turn) (alone : partner t.w.what.peer t.w.phase ≡ None) (live : IsLive t.w.phase) where
  alone_keeps : (m : Effect) (next : Work) (peer : ℕ) → (talked_here t m) ≡ next → Local t.w peer m.taken m.sent → Stays t.w.what.peer next.phase peer
      → ((end_then (end_with t peer) m).opened ≡ true → Keeps t peer m.taken m.sent (stance t.w.what.peer next.phase (kept next peer) peer))
      → ((end_then (end_with t peer) m).opened ≡ false → ⊥) → KeepsTo t m (talked t m)
  alone_keeps m next peer goes local stays here came = subst (λ (p : Option ℕ). KeepsTo t m (talks_on (rows_of t) (me t) (talker t m.taken) (made_entry t m) p)) (sym alone)
      (subst (KeepsTo t m) (sym goes) (local_keeps t m next peer local live (inl alone) stays (λ l o. here o) (λ at o. absurd (came o))))

  -- the connection is opened
  pub opens_keeps : (kind : EntryKind) (peer : ℕ) → Goes t (sends_to t kind None peer (Opening ∷ []))
  opens_keeps kind peer = (
    alone_keeps (sends_to t kind None peer (Opening ∷ [])) (talked_here t (sends_to t kind None peer (Opening ∷ []))) peer refl (sends_here t.w peer (end_with t peer) Opening) (inr refl)
        (λ o. inl (record { opens = refl; takes_none = refl; stands = stands_on t.w.what.peer (Jobs.Opens peer) (kept (talked_here t (sends_to t kind None peer (Opening ∷ []))) peer) peer refl })) (λ o. true≢false o),
    inl (refl, tt),
  )

  -- a request on one that is open
  pub first_keeps : (kind : EntryKind) (peer : ℕ) (m : Message) (next : Phase) → kept t.w peer ≡ false → (end_with t peer).opened ≡ true → message_of (text_of m) ≡ Some m
      → ((says (talker t None) t.look.time peer None m).phase ≡ next) → Stays t.w.what.peer next peer
      → ((k : Bool) (z : Session) (up down : List FrameText) → KnowsVersion t.w peer z → Talk Dialogue.Away z up down → Talk (stance t.w.what.peer next k peer) z (up ++ Line (text_of m) ∷ []) down)
      → Goes t (says_to t kind None peer m)
  first_keeps kind peer m next free opened back goes stays keeps = (
    alone_keeps (says_to t kind None peer m) y peer refl (sends_here t.w peer (end_with t peer) (Line (text_of m)))
        (subst (λ (q : Phase). Stays t.w.what.peer q peer) (sym at) stays)
        (λ o. inr (record {
          live = live;
          opened = opened;
          none_opens = (refl, tt);
          keeps = λ z up down v x. subst (λ (q : Phase). Talk (stance t.w.what.peer q (kept y peer) peer) z (up ++ Line (text_of m) ∷ []) down) (sym at)
              (keeps (kept y peer) z up down v (subst (λ (k : Bool). Talk (rests k) z up down) free (subst (λ (s : Stance). Talk s z up down) (rests_at t.w.what.peer t.w.phase (kept t.w peer) peer (none_is (partner t.w.what.peer t.w.phase) peer alone)) x)));
        })) (λ o. true≢false (sym opened ∙ o)),
    inl (refl, tt),
  )
    where
      y : Work
      y = talked_here t (says_to t kind None peer m)

      at : y.phase ≡ next
      at = ap (λ (o : Option Message). (Jobs.says_some (talker t None) t.look.time peer None o).phase) back ∙ goes

  -- nothing is taken nor sent
  pub still_keeps : (kind : EntryKind) (next : Work) → partner t.w.what.peer next.phase ≡ None → KeepsTo t (quietly kind None) next
  still_keeps kind next none = (
    λ p locks l o. inr (record {
      live = live;
      opened = o;
      none_opens = tt;
      keeps = λ z up down v x. subst (λ (us : List FrameText). Talk (stance t.w.what.peer next.phase (kept next p) p) z us down) (sym (append-nil up))
          (subst (λ (at : Stance). Talk at z up down) (sym (rests_at t.w.what.peer next.phase (kept next p) p (none_is (partner t.w.what.peer next.phase) p none)))
          (rests_more z up down (kept t.w p) (kept next p) (locks (was p)) (subst (λ (at : Stance). Talk at z up down) (rests_at t.w.what.peer t.w.phase (kept t.w p) p (was p)) x)));
    }),
    λ p at o. absurd (let both : None ≡ Some p = sym none ∙ at in cc),
  )
    where
      was : (p : ℕ) → option_is (partner t.w.what.peer t.w.phase) p ≡ false
      was p = none_is (partner t.w.what.peer t.w.phase) p alone

-- a job that is to end next
pub over_keeps : (t : Turn) (m : Effect) (next : Work) → (IsLive next.phase → ⊥) → KeepsTo t m next
over_keeps t m next over = (λ p locks l o. absurd (over l), λ p at o. absurd (over (live_on t.w.what.peer next.phase p at)))
