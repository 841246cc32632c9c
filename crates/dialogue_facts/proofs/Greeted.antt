-- A job that knows the version of its peer has it from the answer to VERSION on the connection that is open.
use Rattle.std.proofs.Common.{◌≡◌, ◌≢◌, ℕ, Bool, true, false, Option, Some, None, refl, sym, ap, ◌∙◌, subst}
use Rattle.std.specs.Prelude.{if◌then◌else◌, ◌&&◌}
use Rattle.std.proofs.lemmas.Bool.{true≢false, and_parts}
use Rattle.annex_base.specs.declared.kinds.Call.{Call}
use Rattle.annex_base.proofs.Lists.{find_member}
use Rattle.annex_base.specs.declared.kinds.Call.TheVariants as calls
use Rattle.run_data.specs.declared.entry.Entry.{Entry}
use Rattle.run_data.specs.declared.entry.EntryKind.{EntryKind}
use Rattle.run_data.specs.declared.entry.EntryKind.TheVariants.{Bar, Fault, Gain, Gone, Order, Share, Talk, End as ends_job}
use Rattle.run_data.specs.declared.entry.FrameView.{FrameView}
use Rattle.run_data.specs.declared.entry.FrameText.{FrameText}
use Rattle.run_data.specs.declared.entry.FrameText.TheVariants.{Opening, Closing, Bytes, Line}
use Rattle.run_data.specs.declared.job.Outcome.{Outcome}
use Rattle.node_model.specs.Slots.{RunningJob}
use Rattle.node_model.specs.Rows.{option_is}
use Rattle.p2p_wire.specs.declared.message.Message.{Message}
use Rattle.p2p_wire.specs.declared.message.Message.TheVariants.{AuthSuccess, Version}
use Rattle.p2p_wire.specs.Messages.{message_of, text_of}
use Rattle.node_model.specs.Ends.{EndName, end_after, end_takes, end_took, may_take, taken_at, takes_at}
use Rattle.node_model.specs.Sessions.{line_in}
use Rattle.node_model.specs.Jobs
use Rattle.node_model.specs.Jobs.{Greets, Opens, Part, Phase, Work, claims, closed_part, fault_of, fault_phase, job_end, learns, partner, side_of, talks, talks_on}
use Rattle.node_model.specs.Look.{Effect, waiting_frame}
use Rattle.node_model.specs.JobStep.{Turn, end_with, me, says_to, talk}
use Rattle.node_model.specs.Found.{IsJobEntry}
use Rattle.node_model.specs.Turns.{awaits, by_partner, goes_on, has_room, is_awaiting, takes, takes_frame, with_partner, takes_text}
use Rattle.step_facts.proofs.JobFacts.{frame_found}
use Rattle.step_facts.proofs.JobKept.{claims_kept}
use Rattle.dialogue_facts.proofs.Carried.{on_keeps}
use Rattle.dialogue_facts.proofs.EndReasons.{talker_like}
use Rattle.step_facts.proofs.ClientCounts.{IsLive}
use Rattle.step_facts.proofs.ClientTurns.{made_entry, moved, rows_of, talker, talker_slot}
use Rattle.job_facts.proofs.Dialogue
use Rattle.job_facts.proofs.Dialogue.{Suits, is_greeted, kept, stands_at}
use Rattle.dialogue_facts.proofs.DialogueTurns.{stands_on}
use Rattle.drop_proof.specs.declared.rule.Side.TheVariants.{Remote}
use Rattle.step_facts.proofs.Plain.{option_at}

-- ---- as it is greeted

-- the version that a job that talks learns
learnt : (w : Work) (p n : ℕ) (f : FrameView) (phase : Phase) → phase ≡ Greets p → w.what.peer ≡ Some p → line_in f.body ≡ Some (Version n) → (learns w phase (Some f)).version ≡ n
learnt w p n f (Greets q) at to told =
    let same : q ≡ p = cc in
    subst (λ (m : Option Message). (if option_is w.what.peer q then record w { version = Jobs.version_said w.version m } else w).version ≡ n) (sym told)
    (subst (λ (b : Bool). (if b then record w { version = n } else w).version ≡ n) (sym (option_at w.what.peer q (to ∙ ap (λ k. Some k) (sym same)))) refl)
learnt w p n f phase at to told = absurd (cc)

module _ (t : Turn) (m : Effect) (p n : ℕ) (f : FrameView) (at : t.w.phase ≡ Greets p) (to : t.w.what.peer ≡ Some p) (took : m.taken ≡ Some f) (told : line_in f.body ≡ Some (Version n)) where
  abbrev e : Entry
  e = made_entry t m

  talked : (talks_on (rows_of t) (me t) (talker t m.taken) e (partner t.w.what.peer t.w.phase)).version ≡ n
  talked =
      let like = talker_like t.w m.taken in
      let what : (talker t m.taken).what ≡ t.w.what = ap (λ (j : RunningJob). j.what) like.job_is in
      (on_keeps (rows_of t) (me t) e (talker t m.taken) (partner t.w.what.peer t.w.phase) (λ i. partner (what i).peer (like.phase_is i))).0
      ∙ (ap (λ (o : Option FrameView). (learns (claims t.w t.w.part t.w.phase) t.w.phase o).version) took
      ∙ learnt (claims t.w t.w.part t.w.phase) p n f t.w.phase at (ap (λ (j : RunningJob). j.what.peer) (claims_kept t.w t.w.part t.w.phase) ∙ to) told)

  unlike : (phase : Phase) → t.w.phase ≡ phase → (Greets p ≡ phase → ⊥) → ⊥
  unlike phase is apart = apart (sym at ∙ is)

  at_greets : (w : Work) → w.phase ≡ Greets p → w.what.peer ≡ Some p → is_greeted (stands_at w p) ≡ false
  at_greets w is peer = ap is_greeted (stands_on w.what.peer w.phase (kept w p) p (ap (partner w.what.peer) is)) ∙ ap (λ (q : Phase). is_greeted (Dialogue.phase_stance q)) is

  faulted : (call : Call) → IsLive (fault_of (me t) t.w t.look.time call).phase → is_greeted (stands_at (fault_of (me t) t.w t.look.time call) p) ≡ true → (fault_of (me t) t.w t.look.time call).version ≡ n
  faulted calls.PutFile live greeted = absurd (true≢false (sym greeted ∙ at_greets t.w at to))
  faulted calls.Unhold live greeted = absurd (true≢false (sym greeted ∙ at_greets (Jobs.after_failed_release t.w t.look.time t.w.phase) (same t.w.phase at) (peer t.w.phase)))
    where
      same : (phase : Phase) → phase ≡ Greets p → (Jobs.after_failed_release t.w t.look.time phase).phase ≡ Greets p
      same Jobs.AsksTime is = absurd (cc)
      same phase is = at

      peer : (phase : Phase) → (Jobs.after_failed_release t.w t.look.time phase).what.peer ≡ Some p
      peer Jobs.AsksTime = to
      peer phase = to
  faulted call live greeted = absurd (dead t.w.part (side_of t.w) t.w.phase at live)
    where
      dead : (part : Part) (side : _) (phase : Phase) → phase ≡ Greets p → IsLive (fault_phase (me t) t.w part side phase).phase → ⊥
      dead Jobs.Drops Remote Jobs.Fresh is live = cc
      dead part side phase is live = live

  -- **the version that it has then is the one that it took**
  pub greeted_version : (kind : EntryKind) → IsJobEntry t m kind → ((j : ℕ) (outcome : Outcome) → kind ≢ ends_job j outcome) → IsLive (moved t m kind).phase → is_greeted (stands_at (moved t m kind) p) ≡ true → (moved t m kind).version ≡ n
  greeted_version (Fault call by) x goes live greeted = faulted call live greeted
  greeted_version (Share hold end by key) x goes live greeted = absurd (unlike Jobs.Fresh x.first (λ e. cc))
  greeted_version (Bar j need key) x goes live greeted = absurd (unlike Jobs.Fresh x.first (λ e. cc))
  greeted_version (Gone by key) x goes live greeted = absurd (unlike Jobs.Next x.next (λ e. cc))
  greeted_version (Gain by size key) x goes live greeted = absurd (unlike (Jobs.GetsWord x.peer x.start size) x.phase_is (λ e. cc))
  greeted_version (ends_job j outcome) x goes live greeted = absurd (goes j outcome refl)
  greeted_version (Order j peer deadline need key) x goes live greeted = talked
  greeted_version (Talk (Some j)) x goes live greeted = talked
  greeted_version kind x goes live greeted = absurd x

-- ---- a job that awaits takes a frame of its partner

pub record Took (t : Turn) (m : Effect) (p : ℕ) : Type 0 where
  pub f : FrameView
  pub taken_is : m.taken ≡ Some f
  pub of_end : takes_at (job_end t.w p) f ≡ true
  pub may : may_take (end_with t p) f ≡ true
  pub waits : waiting_frame (end_with t p) t.look (job_end t.w p) ≡ Some f
  pub made_is : m ≡ takes_frame t p f f.body

pub partner_takes : (t : Turn) (m : Effect) (p : ℕ) → partner t.w.what.peer t.w.phase ≡ Some p → is_awaiting t.w.phase ≡ true → (end_with t p).opened ≡ true → by_partner t (partner t.w.what.peer t.w.phase) ≡ Some m → Took t m p
partner_takes t m p on awaiting opened does = go (waiting_frame (end_with t p) t.look (job_end t.w p)) refl awaits_it
  where
    with_it : with_partner t p (end_with t p).opened ≡ Some m
    with_it = subst (λ (o : Option ℕ). by_partner t o ≡ Some m) on does

    opened_it : with_partner t p true ≡ Some m
    opened_it = subst (λ (b : Bool). with_partner t p b ≡ Some m) opened with_it

    awaits_it : awaits t p (waiting_frame (end_with t p) t.look (job_end t.w p)) ≡ Some m
    awaits_it = subst (λ (b : Bool). (if b then awaits t p (waiting_frame (end_with t p) t.look (job_end t.w p)) else goes_on t) ≡ Some m) awaiting opened_it

    go : (o : Option FrameView) → waiting_frame (end_with t p) t.look (job_end t.w p) ≡ o → awaits t p o ≡ Some m → Took t m p
    go None is e = absurd (cc)
    go (Some f) is e = room (has_room t p) e
      where
        room : (b : Bool) → (if b then Some (takes_frame t p f f.body) else None) ≡ Some m → Took t m p
        room false g = absurd (cc)
        room true g =
            let same : takes_frame t p f f.body ≡ m = cc in
            let was = find_member (λ g. takes_at (job_end t.w p) g && may_take (end_with t p) g) t.look.at_hand f is in
            let both = and_parts (takes_at (job_end t.w p) f) (may_take (end_with t p) f) was.1 in
            record { f = f; taken_is = subst (λ (x : Effect). x.taken ≡ Some f) same (frame_found t p f on f.body refl).0; of_end = both.0; may = both.1; waits = is; made_is = sym same }

-- ---- as the connection is opened, the version is asked

module _ (t : Turn) (m : Effect) (p : ℕ) (at : t.w.phase ≡ Opens p) (reads : message_of (text_of (Version 3)) ≡ Some (Version 3)) (x : Took t m p) (suits : Suits t.w.phase x.f.body)
    (now : (end_after (job_end t.w p) (end_with t p) (made_entry t m)).opened ≡ true) where
  abbrev said : Effect
  said = says_to t (talk t) (Some x.f) p (Version 3)

  asks_version : m ≡ said
  asks_version = x.made_is ∙ go x.f.body refl (subst (λ (q : Phase). Suits q x.f.body) at suits)
    where
      line : (o : Option Message) → Dialogue.SuitsLine (Opens p) o → takes_text t x.f p o ≡ said
      line (Some (AuthSuccess id)) h = ap (λ (q : Phase). takes t x.f p q (AuthSuccess id)) at
      line (Some k) h = absurd h
      line None h = absurd h

      closes : x.f.body ≡ Closing → ⊥
      closes is = true≢false (sym now ∙ (ap (λ (k : Effect). (end_after (job_end t.w p) (end_with t p) (made_entry t k)).opened) (x.made_is ∙ ap (takes_frame t p x.f) is)
          ∙ (ap (λ (o : Option FrameView). (end_took (end_with t p) o).opened) here ∙ ap (λ (b : FrameText). (end_takes (end_with t p) x.f.epoch b).opened) is)))
        where
          here : taken_at (job_end t.w p) (Some x.f) ≡ Some x.f
          here = rw (x.of_end) refl

      go : (body : FrameText) → x.f.body ≡ body → Suits (Opens p) body → takes_frame t p x.f body ≡ said
      go Opening is h = absurd h
      go Closing is h = absurd (closes is)
      go (Bytes n) is h = absurd h
      go (Line text) is h = line (message_of text) h

  -- it doesn't know the version yet
  pub opens_unknown : is_greeted (stands_at (moved t m m.kind) p) ≡ false
  opens_unknown = subst (λ (k : Effect). is_greeted (stands_at (moved t k k.kind) p) ≡ false) (sym asks_version)
      (subst (λ (o : Option ℕ). is_greeted (stands_at (talks_on (rows_of t) (me t) y (made_entry t said) o) p) ≡ false) (sym (ap (partner t.w.what.peer) at))
      (subst (λ (b : Bool). is_greeted (stands_at (if b then talks (rows_of t) (me t) y (made_entry t said) said.sent else closed_part (me t) y p y.part) p) ≡ false) (sym opened)
      (at_greet (talks (rows_of t) (me t) y (made_entry t said) said.sent) (ap (λ (o : Option Message). (Jobs.says_some y t.look.time p (Jobs.taken_message (Some x.f)) o).phase) reads))))
    where
      y : Work
      y = talker t said.taken

      same : job_end y p ≡ job_end t.w p
      same = ap (λ (s : ℕ). let a : EndName = record { peer = p; slot = s; client = true } in a) (talker_slot t said.taken)

      opened : (end_after (job_end y p) (t.ends (job_end y p)) (made_entry t said)).opened ≡ true
      opened = ap (λ (a : EndName). (end_after a (t.ends a) (made_entry t said)).opened) same ∙ subst (λ (k : Effect). (end_after (job_end t.w p) (end_with t p) (made_entry t k)).opened ≡ true) asks_version now

      at_greet : (w : Work) → w.phase ≡ Greets p → is_greeted (stands_at w p) ≡ false
      at_greet w is = ap is_greeted (stands_on w.what.peer w.phase (kept w p) p (ap (partner w.what.peer) is)) ∙ ap (λ (q : Phase). is_greeted (Dialogue.phase_stance q)) is
