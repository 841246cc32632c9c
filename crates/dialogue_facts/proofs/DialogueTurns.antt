-- The steps of a job by what they take and send: each keeps the dialogue on each of its connections, or opens it.
use Rattle.std.proofs.Common.{◌≡◌, ℕ, ◌+◌, Bool, true, false, List, [], ◌∷◌, ◌++◌, Option, Some, None, ◌⊎◌, inl, inr, refl, sym, ◌∙◌, subst, append-nil}
use Rattle.std.specs.Prelude.{◌==◌, nat_le}
use Rattle.std.proofs.lemmas.Bool.{eqb-true}
use Rattle.annex_base.specs.Lists.{Each}
use Rattle.run_data.specs.declared.entry.EntryKind.{EntryKind}
use Rattle.run_data.specs.declared.entry.EntryKind.TheVariants.{End as ends_job}
use Rattle.run_data.specs.declared.entry.FrameView.{FrameView}
use Rattle.run_data.specs.declared.entry.FrameText.{FrameText}
use Rattle.run_data.specs.declared.entry.FrameText.TheVariants.{Opening}
use Rattle.node_model.specs.Rows.{option_is}
use Rattle.p2p_wire.specs.declared.message.Message.TheVariants.{PutFrom}
use Rattle.node_model.specs.Ends.{end_after, is_opening, sent_at, taken_at}
use Rattle.node_model.specs.Sessions.{Session, is_closing, line_in, reaches}
use Rattle.node_model.specs.Jobs.{Phase, Puts, PutsBytes, Work, job_end, partner}
use Rattle.node_model.specs.Look.{Effect}
use Rattle.node_model.specs.JobStep.{Turn, end_with}
use Rattle.node_model.specs.TransferStep.{content_of}
use Rattle.step_facts.proofs.ClientCounts.{IsLive, Local, Stays, not_of}
use Rattle.step_facts.proofs.ClientTurns.{end_then, made_entry, moved}
use Rattle.job_facts.proofs.Dialogue
use Rattle.job_facts.proofs.Dialogue.{Stance, is_greeted, kept, phase_stance, rests, stance, stands_at}
use Rattle.dialogue_facts.proofs.DialogueSteps.{rests_more}
use Rattle.step_facts.proofs.Plain.{option_at}

-- ---- frames

abbrev pub bodies : List FrameView → List FrameText
bodies [] = []
bodies (f ∷ fs) = f.body ∷ bodies fs

abbrev pub body_of : Option FrameView → List FrameText
body_of None = []
body_of (Some f) = f.body ∷ []

-- ---- what a step keeps

-- the job knows the version of its peer
abbrev pub KnowsVersion : Work → ℕ → Session → Type 0
KnowsVersion w p z = w.what.peer ≡ Some p → is_greeted (stands_at w p) ≡ true → w.version ≡ z.version

-- it opens the connection with p
pub record OpensIt (t : Turn) (taken : Option FrameView) (sent : List FrameView) (next : Stance) : Type 0 where
  pub opens : bodies sent ≡ Opening ∷ []
  pub takes_none : taken ≡ None
  pub stands : next ≡ Dialogue.AtOpen

-- or it goes on with it
pub record GoesOn (t : Turn) (p : ℕ) (taken : Option FrameView) (sent : List FrameView) (next : Stance) : Type 0 where
  pub live : IsLive t.w.phase
  pub opened : (end_with t p).opened ≡ true
  pub none_opens : Each (λ g. is_opening g.body ≡ false) sent
  pub keeps : (z : Session) (up down : List FrameText) → KnowsVersion t.w p z → Dialogue.Dialogue (stands_at t.w p) z up (body_of taken ++ down) → Dialogue.Dialogue next z (up ++ bodies sent) down

abbrev pub Keeps : Turn → ℕ → Option FrameView → List FrameView → Stance → Type 0
Keeps t p taken sent next = OpensIt t taken sent next ⊎ GoesOn t p taken sent next

-- locks that it has stay
abbrev pub LocksStay : Turn → Work → ℕ → Type 0
LocksStay t next p = option_is (partner t.w.what.peer t.w.phase) p ≡ false → kept t.w p ≡ true → kept next p ≡ true

-- on each connection that is open after it
abbrev pub KeepsOpen : Turn → Effect → Work → Type 0
KeepsOpen t m next = (p : ℕ) → LocksStay t next p → IsLive next.phase → (end_after (job_end t.w p) (end_with t p) (made_entry t m)).opened ≡ true
    → Keeps t p (taken_at (job_end t.w p) m.taken) (sent_at (job_end t.w p) m.sent) (stance t.w.what.peer next.phase (kept next p) p)

-- it comes to no connection that is closed
abbrev pub ComesFrom : Turn → Effect → Work → Type 0
ComesFrom t m next = (p : ℕ) → partner t.w.what.peer next.phase ≡ Some p → (end_after (job_end t.w p) (end_with t p) (made_entry t m)).opened ≡ false → partner t.w.what.peer t.w.phase ≡ Some p

-- **a step keeps the dialogue**
abbrev pub KeepsTo : Turn → Effect → Work → Type 0
KeepsTo t m next = KeepsOpen t m next × ComesFrom t m next

-- the content is gone, or shorter than the place that the peer asks for, or than it was
pub record FallsShort (t : Turn) (taken : Option FrameView) : Type 0 where
  pub place : ℕ
  pub short : reaches (content_of t) place ≡ false
  pub puts : t.w.part ≡ Puts
  pub why : ((f : FrameView) × (taken ≡ Some f) × (line_in f.body ≡ Some (PutFrom place)))
      ⊎ ((peer : ℕ) × (start : ℕ) × (at : ℕ) × (left : ℕ) × (n : ℕ) × (t.w.phase ≡ PutsBytes peer start at left) × (nat_le n left ≡ true) × (taken ≡ None) × (place ≡ at + n))

-- it closes no connection, but for such a content
abbrev pub ClosesFor : Turn → Effect → Type 0
ClosesFor t m = Each (λ g. is_closing g.body ≡ false) m.sent ⊎ FallsShort t m.taken

abbrev pub Good : Turn → Effect → EntryKind → Type 0
Good t m (ends_job j outcome) = Unit {0}
Good t m kind = KeepsTo t m (moved t m kind) × ClosesFor t m

-- ---- one connection alone

pub rests_at : (target : Option ℕ) (phase : Phase) (k : Bool) (p : ℕ) → option_is (partner target phase) p ≡ false → stance target phase k p ≡ rests k
rests_at target phase k p e = rw e refl

pub stands_on : (target : Option ℕ) (phase : Phase) (k : Bool) (p : ℕ) → partner target phase ≡ Some p → stance target phase k p ≡ phase_stance phase
stands_on target phase k p e = rw (option_at (partner target phase) p e) refl

-- where nothing is taken nor sent
aside : (t : Turn) (next : Work) (p : ℕ) → IsLive t.w.phase → (end_with t p).opened ≡ true → option_is (partner t.w.what.peer t.w.phase) p ≡ false → option_is (partner t.w.what.peer next.phase) p ≡ false
    → LocksStay t next p → Keeps t p None [] (stance t.w.what.peer next.phase (kept next p) p)
aside t next p live opened was now locks = inr (record {
  live = live;
  opened = opened;
  none_opens = tt;
  keeps = λ z up down v x. subst (λ (us : List FrameText). Dialogue.Dialogue (stance t.w.what.peer next.phase (kept next p) p) z us down) (sym (append-nil up))
      (subst (λ (at : Stance). Dialogue.Dialogue at z up down) (sym (rests_at t.w.what.peer next.phase (kept next p) p now))
      (rests_more z up down (kept t.w p) (kept next p) (locks was) (subst (λ (at : Stance). Dialogue.Dialogue at z up down) (rests_at t.w.what.peer t.w.phase (kept t.w p) p was) x)));
})

pub local_keeps : (t : Turn) (m : Effect) (next : Work) (peer : ℕ) → Local t.w peer m.taken m.sent → IsLive t.w.phase → Stays t.w.what.peer t.w.phase peer → Stays t.w.what.peer next.phase peer
    → (IsLive next.phase → (end_then (end_with t peer) m).opened ≡ true → Keeps t peer m.taken m.sent (stance t.w.what.peer next.phase (kept next peer) peer))
    → (partner t.w.what.peer next.phase ≡ Some peer → (end_then (end_with t peer) m).opened ≡ false → partner t.w.what.peer t.w.phase ≡ Some peer) → KeepsTo t m next
local_keeps t m next peer local live stays goes here came = (λ p locks l o. go p locks l o (peer == p) refl, comes)
  where
    comes : ComesFrom t m next
    comes p at o = by goes
      where
        here_came : partner t.w.what.peer next.phase ≡ Some peer → (end_after (job_end t.w peer) (end_with t peer) (made_entry t m)).opened ≡ false → partner t.w.what.peer t.w.phase ≡ Some peer
        here_came is = rw (local.sends_here, local.takes_here) (came is)

        by : Stays t.w.what.peer next.phase peer → partner t.w.what.peer t.w.phase ≡ Some p
        by (inl none) = absurd (let both : None ≡ Some p = sym none ∙ at in cc)
        by (inr some) =
            let both : Some peer ≡ Some p = sym some ∙ at in
            let same : peer ≡ p = cc in
            subst (λ q. (end_after (job_end t.w q) (end_with t q) (made_entry t m)).opened ≡ false → partner t.w.what.peer t.w.phase ≡ Some q) same (here_came some) o

    KeepsAt : (p : ℕ) → Type 0
    KeepsAt p = LocksStay t next p → IsLive next.phase → (end_after (job_end t.w p) (end_with t p) (made_entry t m)).opened ≡ true
        → Keeps t p (taken_at (job_end t.w p) m.taken) (sent_at (job_end t.w p) m.sent) (stance t.w.what.peer next.phase (kept next p) p)

    at_peer : KeepsAt peer
    at_peer locks = rw (local.sends_here, local.takes_here) here

    go : (p : ℕ) → LocksStay t next p → IsLive next.phase → (end_after (job_end t.w p) (end_with t p) (made_entry t m)).opened ≡ true → (b : Bool) → (peer == p) ≡ b
        → Keeps t p (taken_at (job_end t.w p) m.taken) (sent_at (job_end t.w p) m.sent) (stance t.w.what.peer next.phase (kept next p) p)
    go p locks l o true is = subst KeepsAt (eqb-true peer p is) at_peer locks l o
    go p locks l o false apart =
        let opened : (end_with t p).opened ≡ true = rw (local.sends_else p apart, local.takes_else p apart) at o in
        rw (local.sends_else p apart, local.takes_else p apart)
        (aside t next p live opened (not_of t.w.what.peer t.w.phase peer p stays apart) (not_of t.w.what.peer next.phase peer p goes apart) locks)
