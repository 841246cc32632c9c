-- A step after which a drop is to end sends nothing.
use Rattle.std.proofs.Common.{◌≡◌, ◌≢◌, ℕ, ◌+◌, ◌-◌, Bool, true, false, List, [], ◌∷◌, Option, Some, None, ◌⊎◌, inl, inr, refl, sym, ap, ◌∙◌, subst, true≢false}
use Rattle.std.specs.Prelude.{if◌then◌else◌, ◌==◌}
use Rattle.annex_base.proofs.Conditions.{if_either}
use Rattle.annex_base.proofs.Lists.{Each-member}
use Rattle.run_data.specs.declared.entry.Entry.{Entry}
use Rattle.run_data.specs.declared.entry.EntryKind.{EntryKind}
use Rattle.run_data.specs.declared.entry.EntryKind.TheVariants.{Bar, Fault, Gain, Gone, Order, Share, Talk, End as ends_job}
use Rattle.run_data.specs.declared.entry.FrameView.{FrameView}
use Rattle.run_data.specs.declared.entry.FrameText.{FrameText}
use Rattle.run_data.specs.declared.entry.FrameText.TheVariants.{Opening, Closing, Bytes, Line}
use Rattle.run_data.specs.declared.job.Outcome.{Outcome}
use Rattle.p2p_wire.specs.declared.message.Message.{Message}
use Rattle.p2p_wire.specs.declared.message.Message.TheVariants.{CheckPresent, Data, Failure, Get, GetTimestamp, LockContent, Put, PutFrom, Remove, RemoveBefore, Valid, Version}
use Rattle.p2p_wire.specs.Messages.{message_of}
use Rattle.node_model.specs.Ends.{EndName, end_after}
use Rattle.node_model.specs.Found.{IsJobEntry}
use Rattle.node_model.specs.Jobs
use Rattle.node_model.specs.Jobs.{Drops, Ends, GetsWord, Phase, Puts, PutsBytes, PutsWord, Work, job_end, partner, put_from, puts_answer, puts_bytes, puts_more, says, says_some, sends, talks, talks_on, taken_message, word_taken}
use Rattle.node_model.specs.JobStep.{Turn, end_with, me, quietly, talk}
use Rattle.node_model.specs.Look.{Effect}
use Rattle.node_model.specs.Sessions.{is_closing}
use Rattle.node_model.specs.Turns.{by_partner, is_awaiting, takes_frame, with_partner}
use Rattle.step_facts.proofs.ClientCounts.{IsLive}
use Rattle.step_facts.proofs.ClientTurns.{made_entry, moved, rows_of, talker, talker_phase, talker_slot}
use Rattle.job_facts.proofs.TalkFacts.{Fits}
use Rattle.dialogue_facts.proofs.DialogueTurns.{ClosesFor}
use Rattle.dialogue_facts.proofs.Greeted.{Took, partner_takes}
use Rattle.run_laws.proofs.HeardCauses.{SentClose, TookClose, shut_by}

pub live_or : (phase : Phase) → IsLive phase ⊎ ((o : Outcome) × (phase ≡ Ends o))
live_or (Ends o) = inr (o, refl)
live_or phase = inl tt

-- ---- a job that says something lives on

more_live : (peer start at left : ℕ) → IsLive (puts_more peer start at left)
more_live peer start at left = if_either IsLive (left == 0) (PutsWord peer start) (PutsBytes peer start at left) (λ e. tt) (λ e. tt)

bytes_live : (n : ℕ) (phase : Phase) → IsLive phase → IsLive (puts_bytes n phase)
bytes_live n (PutsBytes peer start at left) live = more_live peer start (at + n) (left - n)
bytes_live n phase live = live

answer_live : (phase : Phase) → IsLive phase → IsLive (puts_answer phase)
answer_live (PutsWord peer start) live = tt
answer_live phase live = live

from_live : (peer left : ℕ) (o : Option Message) → IsLive (put_from peer left o)
from_live peer left (Some (PutFrom start)) = more_live peer start start left
from_live peer left o = tt

word_live : (w : Work) (word : Option Message) (phase : Phase) → IsLive w.phase → IsLive (word_taken w word phase).phase
word_live w word (GetsWord peer start size) live = tt
word_live w word phase live = live

says_live : (w : Work) (time peer : ℕ) (taken : Option Message) (m : Message) → IsLive w.phase → IsLive (says w time peer taken m).phase
says_live w time peer taken (Version n) live = tt
says_live w time peer taken (Get n file key) live = tt
says_live w time peer taken (Put file key) live = tt
says_live w time peer taken (Data n) live = from_live peer n taken
says_live w time peer taken Valid live = answer_live w.phase live
says_live w time peer taken (LockContent key) live = tt
says_live w time peer taken (CheckPresent key) live = tt
says_live w time peer taken GetTimestamp live = tt
says_live w time peer taken (Remove key) live = tt
says_live w time peer taken (RemoveBefore n key) live = tt
says_live w time peer taken Failure live = word_live w taken w.phase live
says_live w time peer taken m live = live

some_live : (w : Work) (time peer : ℕ) (taken m : Option Message) → IsLive w.phase → IsLive (says_some w time peer taken m).phase
some_live w time peer taken None live = live
some_live w time peer taken (Some m) live = says_live w time peer taken m live

sends_live : (w : Work) (time peer : ℕ) (taken : Option Message) (body : FrameText) → IsLive w.phase → IsLive (sends w time peer taken body).phase
sends_live w time peer taken Opening live = tt
sends_live w time peer taken Closing live = live
sends_live w time peer taken (Bytes n) live = bytes_live n w.phase live
sends_live w time peer taken (Line text) live = some_live w time peer taken (message_of text) live

dead_no : (phase : Phase) (o : Outcome) → phase ≡ Ends o → IsLive phase → ⊥
dead_no phase o is live = subst IsLive is live

-- ---- the step of a drop that lives

pub drop_awaits : (target : Option ℕ) (phase : Phase) (p : ℕ) → Fits Drops phase → partner target phase ≡ Some p → is_awaiting phase ≡ true
drop_awaits target (PutsBytes peer start at left) p fits on = absurd fits
drop_awaits target (PutsWord peer start) p fits on = absurd fits
drop_awaits target phase p fits on = refl

module _ (t : Turn) (m : Effect) (part : t.w.part ≡ Drops) (fits : Fits Drops t.w.phase) (live : IsLive t.w.phase) (does : by_partner t (partner t.w.what.peer t.w.phase) ≡ Some m) (closes : ClosesFor t m) (o : Outcome) where
  abbrev y : Work
  y = talker t m.taken

  y_live : IsLive y.phase
  y_live = subst IsLive (sym (talker_phase t m.taken)) live

  abbrev e : Entry
  e = made_entry t m

  same_end : (q : ℕ) → job_end y q ≡ job_end t.w q
  same_end q = ap (λ (s : ℕ). let a : EndName = record { peer = q; slot = s; client = true } in a) (talker_slot t m.taken)

  talks_dead : (fs : List FrameView) → m.sent ≡ fs → (talks (rows_of t) (me t) y e fs).phase ≡ Ends o → m.sent ≡ []
  talks_dead [] is dead = is
  talks_dead (f ∷ fs) is dead = absurd (dead_no _ o dead (sends_live y e.time f.peer (taken_message e.taken) f.body y_live))

  -- the connection on which it stood is closed by this step
  closed_dead : (q : ℕ) → partner t.w.what.peer t.w.phase ≡ Some q → (end_after (job_end t.w q) (end_with t q) e).opened ≡ false → m.sent ≡ []
  closed_dead q on shut = go (end_with t q).opened refl
    where
      with_it : with_partner t q (end_with t q).opened ≡ Some m
      with_it = subst (λ (z : Option ℕ). by_partner t z ≡ Some m) on does

      go : (b : Bool) → (end_with t q).opened ≡ b → m.sent ≡ []
      go false closed =
          let it : with_partner t q false ≡ Some m = subst (λ (b : Bool). with_partner t q b ≡ Some m) closed with_it in
          let same : quietly (talk t) None ≡ m = cc in
          ap (λ (z : Effect). z.sent) (sym same)
      go true opened = elim (shut_by (job_end t.w q) (end_with t q) e opened shut) [
        | inl z ↦ took z
        | inr z ↦ absurd (sent z closes)
      ]
        where
          k : Took t m q
          k = partner_takes t m q on (drop_awaits t.w.what.peer t.w.phase q fits on) opened does

          took : TookClose (job_end t.w q) e → m.sent ≡ []
          took z =
              let both : Some k.f ≡ Some z.f = sym k.taken_is ∙ z.took in
              let same : k.f ≡ z.f = cc in
              let body : k.f.body ≡ Closing = ap (λ (f : FrameView). f.body) same ∙ z.body_is in
              ap (λ (x : Effect). x.sent) (k.made_is ∙ ap (takes_frame t q k.f) body)

          sent : SentClose (job_end t.w q) e → ClosesFor t m → ⊥
          sent z (inl all) = true≢false (sym (ap is_closing z.body_is) ∙ Each-member (λ g. is_closing g.body ≡ false) m.sent z.g all z.sent)
          sent z (inr short) = let no' : Drops ≡ Puts = sym part ∙ short.puts in cc

  on_dead : (q : Option ℕ) → partner t.w.what.peer t.w.phase ≡ q → (talks_on (rows_of t) (me t) y e q).phase ≡ Ends o → m.sent ≡ []
  on_dead None on dead = talks_dead m.sent refl dead
  on_dead (Some q) on dead = go (end_after (job_end y q) ((rows_of t).ends (job_end y q)) e).opened refl dead
    where
      go : (b : Bool) → (end_after (job_end y q) ((rows_of t).ends (job_end y q)) e).opened ≡ b → (if b then talks (rows_of t) (me t) y e m.sent else Jobs.closed_part (me t) y q y.part).phase ≡ Ends o → m.sent ≡ []
      go true opened dead = talks_dead m.sent refl dead
      go false shut dead = closed_dead q on (ap (λ (a : EndName). (end_after a (t.ends a) e).opened) (sym (same_end q)) ∙ shut)

  -- **it sends nothing**
  pub quieted : (kind : EntryKind) → IsJobEntry t m kind → ((j : ℕ) (outcome : Outcome) → kind ≢ ends_job j outcome) → (moved t m kind).phase ≡ Ends o → m.sent ≡ []
  quieted (Fault call by) x goes dead = x.1
  quieted (Share hold end by key) x goes dead = x.sends_none
  quieted (Bar j need key) x goes dead = x.sends_none
  quieted (Gone by key) x goes dead = x.sends_none
  quieted (Gain by size key) x goes dead = absurd (subst (Fits Drops) x.phase_is fits)
  quieted (ends_job j outcome) x goes dead = absurd (goes j outcome refl)
  quieted (Order j peer deadline need key) x goes dead = on_dead (partner t.w.what.peer t.w.phase) refl dead
  quieted (Talk (Some j)) x goes dead = on_dead (partner t.w.what.peer t.w.phase) refl dead
  quieted kind x goes dead = absurd x
