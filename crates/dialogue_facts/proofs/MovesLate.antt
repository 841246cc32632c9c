-- **A drop of a move to a peer has not begun, as the entries tell, before its copy is done.**
use Rattle.std.proofs.Common.{◌≡◌, ℕ, ◌+◌, ◌≤◌, Bool, true, false, List, [], ◌∷◌, Option, Some, None, ◌⊎◌, inl, inr, refl, sym, ap, ◌∙◌, subst, arith}
use Rattle.std.specs.Prelude.{if◌then◌else◌, ◌==◌, ◌&&◌, not, option_map}
use Rattle.std.proofs.lemmas.Bool.{or_from, and_right}
use Rattle.annex_base.specs.Lists.{Member}
use Rattle.annex_base.proofs.Conditions.{if_either, eqb_more}
use Rattle.step_facts.proofs.Below.{SentAreRead}
use Rattle.run_data.specs.declared.entry.Entry.{Entry}
use Rattle.run_data.specs.declared.entry.EntryKind.{EntryKind}
use Rattle.run_data.specs.declared.entry.EntryKind.TheVariants.{Begin, Gain, Share, Bar, Order, Gone, Talk, Fault, End as ends_job}
use Rattle.run_data.specs.declared.entry.FrameView.{FrameView}
use Rattle.run_data.specs.declared.entry.FrameText.{FrameText}
use Rattle.run_data.specs.declared.entry.FrameText.TheVariants.{Opening, Closing, Bytes, Line}
use Rattle.run_data.specs.declared.job.Job.{Job}
use Rattle.run_data.specs.declared.job.JobKind.{JobKind as KindOfJob}
use Rattle.run_data.specs.declared.job.JobKind.TheVariants as kinds
use Rattle.run_data.specs.declared.job.Outcome.{Outcome}
use Rattle.run_data.specs.declared.job.Outcome.TheVariants.{Copied}
use Rattle.run_model.specs.Past.{begun_count, is_of}
use Rattle.node_model.specs.Rows.{option_is}
use Rattle.p2p_wire.specs.declared.message.Message.{Message}
use Rattle.p2p_wire.specs.declared.message.Message.TheVariants.{AlreadyHave, Success}
use Rattle.p2p_wire.specs.Messages.{message_of}
use Rattle.run_model.specs.Said.{Said, message_in, said_line}
use Rattle.run_model.specs.Frames.{last_request, said_of, up_of, way_of}
use Rattle.run_model.specs.Logs.{has_it, has_stepped, hears_has_it, in_drop, is_drop, is_quiet, is_step, starts_drop}
use Rattle.node_model.specs.SetUp.{SetUp}
use Rattle.run_model.specs.States.{rows_at, works}
use Rattle.node_model.specs.Sessions.{line_in}
use Rattle.node_model.specs.Ends.{EndName, end_after}
use Rattle.node_model.specs.Jobs
use Rattle.node_model.specs.Jobs.{Drops, Ends, Fresh, Greets, Next, Opens, Part, Phase, Puts, PutsAnswer, PutsOffer, Work, closed_part, first_part, job_end, talks_on, after_transfer, work_kind}
use Rattle.node_model.specs.Look.{Effect}
use Rattle.node_model.specs.JobStep.{Turn, end_with, me, wrong_message}
use Rattle.node_model.specs.JobStep
use Rattle.node_model.specs.TransferStep.{takes_put}
use Rattle.node_model.specs.Found.{IsJobEntry}
use Rattle.node_model.specs.Turns.{by_partner, takes, takes_answer, takes_frame}
use Rattle.run_model.specs.Run.{OwnPast, OwnRun}
use Rattle.step_facts.proofs.JobSteps.{Origin, Steps, invariant, turn_at}
use Rattle.step_facts.proofs.JobNumbers.{begins_next}
use Rattle.step_facts.proofs.WorkNumbers.{number_begun}
use Rattle.job_facts.proofs.PhaseFacts.{GoodTo, is_fresh, readies_place}
use Rattle.job_facts.proofs.TalkFacts.{Fits}
use Rattle.job_facts.proofs.WorkFits.{step_kind, step_number, step_runs, steps_good, works_fit}
use Rattle.job_facts.proofs.Untouched.{begins_later, fresh_is}
use Rattle.step_facts.proofs.ClientCounts.{answers_here}
use Rattle.step_facts.proofs.ClientLeaves.{Taking}
use Rattle.step_facts.proofs.ClientTurns.{made_entry, moved, rows_of, talker, talker_slot}
use Rattle.job_facts.proofs.HeardSteps.{moved_listens, takes_line, took_as}
use Rattle.dialogue_facts.proofs.PutsUnder.{ended_stays, first_step_off, is_live, puts_go_on, stepped_on}
use Rattle.dialogue_facts.proofs.FreshSteps.{MovesLate, puts_was}
use Rattle.step_facts.proofs.Makers.{taken_of}
use Rattle.step_facts.proofs.BySteps.{earlier}
use Rattle.job_facts.proofs.NotDropping.{future_undropped}

-- ---- an answer by which the peer has the content ends a copy

abbrev DeadMade : Turn → Effect → Type 0
DeadMade t m = (moved t m m.kind).part ≡ Puts → is_live (moved t m m.kind).phase ≡ false

wrong_dead : (t : Turn) (f : FrameView) (peer : ℕ) → Taking t f peer → t.w.part ≡ Puts → DeadMade t (wrong_message t f peer)
wrong_dead t f peer x part is =
    ap (λ (p : Option ℕ). is_live (talks_on (rows_of t) (me t) y e p).phase) x.on
    ∙ (ap (λ (b : Bool). is_live (if b then Jobs.talks (rows_of t) (me t) y e e.sent else closed_part (me t) y peer y.part).phase) shut
    ∙ ap (λ (q : Part). is_live (closed_part (me t) y peer q).phase) ((readies_place t.w (Some f)).0 ∙ part))
  where
    y : Work
    y = talker t (Some f)

    e : Entry
    e = made_entry t (wrong_message t f peer)

    same : job_end y peer ≡ job_end t.w peer
    same = ap (λ (s : ℕ). let a : EndName = record { peer = peer; slot = s; client = true } in a) (talker_slot t (Some f))

    shut : (end_after (job_end y peer) (t.ends (job_end y peer)) e).opened ≡ false
    shut = subst (λ (a : EndName). (end_after a (t.ends a) e).opened ≡ false) (sym same) (rw ((answers_here t.w peer f (end_with t peer) Closing x.of_end).sends_here) refl)

transferred_dead : (w : Work) (o : Outcome) → (after_transfer w o).part ≡ Puts → is_live (after_transfer w o).phase ≡ false
transferred_dead w o = if_either (λ (x : Work). x.part ≡ Puts → is_live x.phase ≡ false) (Jobs.is_move w.what.kind) (record w { part = Drops; phase = Fresh; fills = false }) (record w { phase = Ends o; fills = false })
    (λ h part. absurd (let both : Drops ≡ Puts = part in cc)) (λ h part. refl)

heard_dead : (t : Turn) (f : FrameView) (peer : ℕ) → Taking t f peer → (m : Message) (phase : Phase) → t.w.phase ≡ phase → line_in f.body ≡ Some m
    → ((Jobs.listens (talker t (Some f)) phase m).part ≡ Puts → is_live (Jobs.listens (talker t (Some f)) phase m).phase ≡ false) → DeadMade t (JobStep.hears t f)
heard_dead t f peer x m phase at told dead = subst (λ (w : Work). w.part ≡ Puts → is_live w.phase ≡ false) (sym (moved_listens t f peer x m phase at told)) dead

have_dead : (t : Turn) (f : FrameView) (peer : ℕ) → Taking t f peer → t.w.part ≡ Puts → (phase : Phase) → t.w.phase ≡ phase → line_in f.body ≡ Some AlreadyHave → DeadMade t (takes_put t f peer phase AlreadyHave)
have_dead t f peer x part (PutsOffer p) at told = heard_dead t f peer x AlreadyHave (PutsOffer p) at told (transferred_dead (talker t (Some f)) (Copied None))
have_dead t f peer x part phase at told = wrong_dead t f peer x part

yes_dead : (t : Turn) (f : FrameView) (peer : ℕ) → Taking t f peer → t.w.part ≡ Puts → (phase : Phase) → t.w.phase ≡ phase → line_in f.body ≡ Some Success → DeadMade t (takes_put t f peer phase Success)
yes_dead t f peer x part (PutsAnswer p start) at told = heard_dead t f peer x Success (PutsAnswer p start) at told (transferred_dead (talker t (Some f)) (Copied (Some start)))
yes_dead t f peer x part phase at told = wrong_dead t f peer x part

takes_have : (t : Turn) (f : FrameView) (peer : ℕ) (phase : Phase) → takes t f peer phase AlreadyHave ≡ takes_answer t f peer t.w.part phase AlreadyHave
takes_have t f peer (Opens p) = refl
takes_have t f peer (Greets p) = refl
takes_have t f peer phase = refl

takes_yes : (t : Turn) (f : FrameView) (peer : ℕ) (phase : Phase) → takes t f peer phase Success ≡ takes_answer t f peer t.w.part phase Success
takes_yes t f peer (Opens p) = refl
takes_yes t f peer (Greets p) = refl
takes_yes t f peer phase = refl

-- such an answer
abbrev Has : FrameText → Type 0
Has body = (line_in body ≡ Some AlreadyHave) ⊎ (line_in body ≡ Some Success)

frame_dead : (t : Turn) (f : FrameView) (peer : ℕ) → Taking t f peer → t.w.part ≡ Puts → Has f.body → DeadMade t (takes_frame t peer f f.body)
frame_dead t f peer x part (inl told) =
    subst (DeadMade t) (sym (takes_line t peer f AlreadyHave t.w.phase refl told ∙ takes_have t f peer t.w.phase ∙ ap (λ (q : Part). takes_answer t f peer q t.w.phase AlreadyHave) part)) (have_dead t f peer x part t.w.phase refl told)
frame_dead t f peer x part (inr told) =
    subst (DeadMade t) (sym (takes_line t peer f Success t.w.phase refl told ∙ takes_yes t f peer t.w.phase ∙ ap (λ (q : Part). takes_answer t f peer q t.w.phase Success) part)) (yes_dead t f peer x part t.w.phase refl told)

line_has : (o : Option Message) (asked : Option Said) → has_it (said_line o) asked ≡ true → (o ≡ Some AlreadyHave) ⊎ (o ≡ Some Success)
line_has None asked e = absurd (cc)
line_has (Some AlreadyHave) asked e = inl refl
line_has (Some Success) asked e = inr refl
line_has (Some m) asked e = absurd (cc)

body_has : (body : FrameText) (asked : Option Said) → has_it (message_in body) asked ≡ true → Has body
unfolding message_in
body_has Opening asked e = absurd (cc)
body_has Closing asked e = absurd (cc)
body_has (Bytes n) asked e = absurd (cc)
body_has (Line text) asked e = line_has (message_of text) asked e

-- ---- entries that begin no drop

still_starts : (p : List Entry) (r j : ℕ) (e : Entry) (kind : EntryKind) → is_step j kind ≡ false → ((job : ℕ) (what : Job) → kind ≡ Begin job what → (job == j) ≡ false) → starts_drop p r j e kind ≡ false
still_starts p r j e (Begin job what) still off = rw (off job what refl) refl
still_starts p r j e (Gain source size key) still off = still
still_starts p r j e (Talk job) still off = rw still refl
still_starts p r j e kind still off = refl

in_more : (p : List Entry) (r j : ℕ) (e : Entry) → in_drop p r j ≡ false → starts_drop p r j e e.kind ≡ false → in_drop (e ∷ p) r j ≡ false
in_more p r j e was starts = or_from (in_drop p r j) (is_of r e && starts_drop p r j e e.kind) was (and_right (is_of r e) (starts_drop p r j e e.kind) starts)

in_other : (p : List Entry) (r j : ℕ) (e : Entry) → is_of r e ≡ false → in_drop p r j ≡ false → in_drop (e ∷ p) r j ≡ false
in_other p r j e other was = or_from (in_drop p r j) (is_of r e && starts_drop p r j e e.kind) was (rw other refl)

begins_none : (kind : KindOfJob) → first_part kind ≡ Puts → is_drop kind ≡ false
begins_none kinds.Copy e = refl
begins_none kinds.MoveTo e = refl
begins_none kinds.Get e = refl
begins_none kinds.MoveFrom e = refl
begins_none kinds.Drop e = absurd (cc)

-- ---- the invariant

live_fits : (phase : Phase) → is_live phase ≡ false → ((o : Outcome) × (phase ≡ Ends o)) ⊎ (phase ≡ Next)
live_fits (Ends o) e = inl (o, refl)
live_fits Next e = inr refl
live_fits phase e = absurd (cc)

word_unfit : (peer start size : ℕ) → Fits Puts (Jobs.GetsWord peer start size) → ⊥
word_unfit peer start size f = f

module _ (reads_back : SentAreRead) (s : SetUp) (p : List Entry) (e : Entry) (h : OwnPast s (e ∷ p)) (is : is_of s.number e ≡ true) (x : Work) (b : Steps s p e x) (v_part : b.by.w.part ≡ Puts) where
  abbrev v : Work
  v = b.by.w

  before : OwnPast s p
  before = earlier s p e h

  runs : Member v (works p s.number)
  runs = step_runs s p e x b

  abbrev t : Turn
  t = turn_at s p e b.by

  after : x ≡ moved t b.by.made b.by.made.kind
  after = b.work_is ∙ (λ i. work_kind (rows_at p s.number) s.number v (b.by.is i) (b.by.is i).kind)

  -- it was under way
  was_live : x.part ≡ Puts → is_live x.phase ≡ true → is_live v.phase ≡ true
  was_live part live = go (is_live v.phase) refl
    where
      go : (c : Bool) → is_live v.phase ≡ c → c ≡ true
      go true at = refl
      go false at = absurd (elim (live_fits v.phase at) [
        | inl z ↦ (let both : true ≡ false = sym live ∙ ap is_live (ended_stays s p e x b z.0 z.1) in cc)
        | inr next ↦ puts_go_on reads_back s p before v runs v_part next
      ])

  -- and takes no such answer
  takes_none : x.part ≡ Puts → is_live x.phase ≡ true → (f : FrameView) → e.taken ≡ Some f → (asked : Option Said) → has_it (message_in f.body) asked ≡ false
  takes_none part live f took asked = go (has_it (message_in f.body) asked) refl
    where
      dead : Has f.body → ⊥
      dead has =
          let y = taken_of s p e b.by f took in
          let k : Taking t f y.peer = record {
            on = y.on;
            awaiting = y.awaiting;
            opened = y.opened;
            of_end = y.of_end;
          } in
          let made = took_as t b.by.made y.peer k.on (end_with t y.peer).opened (subst (λ (q : Option ℕ). by_partner t q ≡ Some b.by.made) k.on b.by.does) f (sym (ap (λ (z : Entry). z.taken) b.by.is) ∙ took) in
          let d : DeadMade t b.by.made = subst (DeadMade t) (sym made) (frame_dead t f y.peer k v_part has) in
          let none : is_live x.phase ≡ false = ap (λ (w : Work). is_live w.phase) after ∙ d (sym (ap (λ (w : Work). w.part) after) ∙ part) in
          let both : true ≡ false = sym live ∙ none in cc

      go : (c : Bool) → has_it (message_in f.body) asked ≡ c → c ≡ false
      go false at = refl
      go true at = absurd (dead (body_has f.body asked at))

  quiet_not : x.part ≡ Puts → is_live x.phase ≡ true → (is_quiet e.taken e.sent && not (has_stepped p s.number v.number)) ≡ false
  quiet_not part live = go (is_fresh v.phase) refl
    where
      go : (c : Bool) → is_fresh v.phase ≡ c → (is_quiet e.taken e.sent && not (has_stepped p s.number v.number)) ≡ false
      go false at = and_right (is_quiet e.taken e.sent) (not (has_stepped p s.number v.number)) (ap not (stepped_on s p before.run v runs at))
      go true at = sent e.sent refl
        where
          sent : (fs : List FrameView) → e.sent ≡ fs → (is_quiet e.taken e.sent && not (has_stepped p s.number v.number)) ≡ false
          sent [] none = absurd (let both : true ≡ false = sym live ∙ (first_step_off reads_back s p e x b before v_part (fresh_is v.phase at)).1 none in cc)
          sent (g ∷ gs) some = rw (ap (is_quiet e.taken) some ∙ never e.taken) refl
            where
              never : (o : Option FrameView) → is_quiet o (g ∷ gs) ≡ false
              never None = refl
              never (Some f) = refl

  heard_not : x.part ≡ Puts → is_live x.phase ≡ true → hears_has_it p s.number e.taken ≡ false
  heard_not part live = go e.taken refl
    where
      go : (o : Option FrameView) → e.taken ≡ o → hears_has_it p s.number o ≡ false
      go None took = refl
      go (Some f) took = and_right (not f.up) _ (takes_none part live f took (option_map said_of (last_request p (up_of (way_of s.number f)))))

  starts_not : x.part ≡ Puts → is_live x.phase ≡ true → starts_drop p s.number v.number e e.kind ≡ false
  starts_not part live = go e.kind (step_kind s p e x b)
    where
      go : (kind : EntryKind) → IsJobEntry t b.by.made kind → starts_drop p s.number v.number e kind ≡ false
      go (Talk (Some j)) k = and_right (option_is (Some j) v.number) _ (or_from (is_quiet e.taken e.sent && not (has_stepped p s.number v.number)) (hears_has_it p s.number e.taken) (quiet_not part live) (heard_not part live))
      go (Gain by size key) k = absurd (word_unfit k.peer k.start size (subst (λ q. Fits q (Jobs.GetsWord k.peer k.start size)) v_part (subst (Fits v.part) k.phase_is (works_fit s p before.run v runs))))
      go (Share hold end by key) k = refl
      go (Bar j need key) k = refl
      go (Gone by key) k = refl
      go (Order j peer deadline need key) k = refl
      go (ends_job j outcome) k = refl
      go (Fault call by) k = refl
      go kind k = absurd k

abbrev pub Under : SetUp → List Entry → Work → Type 0
Under s past w = w.part ≡ Puts → is_live w.phase ≡ true → in_drop past s.number w.number ≡ false

pub puts_under : SentAreRead → (s : SetUp) (past : List Entry) → OwnPast s past → (w : Work) → Member w (works past s.number) → Under s past w
puts_under reads_back s past h w m = invariant s (λ p x. OwnPast s p → Under s p x) (λ p e is x n was h part live. in_other p s.number x.number e is (was (earlier s p e h) part live)) own past h.run w m h
  where
    own : (p : List Entry) (e : Entry) → OwnRun s (e ∷ p) → is_of s.number e ≡ true → ((x : Work) → Member x (works p s.number) → OwnPast s p → Under s p x) → (x : Work) → Origin s p e x → OwnPast s (e ∷ p) → Under s (e ∷ p) x
    own p e r is was x (inl b) h part live =
        let first : first_part b.what.kind ≡ Puts = sym (ap (λ (y : Work). y.part) b.work_is) ∙ part in
        in_more p s.number x.number e (future_undropped s p r.1 x.number (begins_later s p e r is x b))
        (subst (λ k. starts_drop p s.number x.number e k ≡ false) (sym b.kind_is) (and_right (b.job == x.number) (is_drop b.what.kind) (begins_none b.what.kind first)))
    own p e r is was x (inr (inl b)) h part live =
        let mine = r.0 is in
        let below : x.number ≤ begun_count p s.number = number_begun s p r.1 x b.ran in
        in_more p s.number x.number e (was x b.ran (earlier s p e h) part live) (still_starts p s.number x.number e e.kind b.still
        (λ job what kind. let next : job ≡ begun_count p s.number + 1 = begins_next s p mine.0 e mine.1 job what kind in eqb_more x.number job (omega arith)))
    own p e r is was x (inr (inr b)) h part live =
        let v = b.by.w in
        let v_part = puts_was v.part v.phase x.phase (subst (λ q. GoodTo v.part v.phase q x.phase) part (steps_good s p e x b (works_fit s p r.1 v (step_runs s p e x b)))) in
        let old = was v (step_runs s p e x b) (earlier s p e h) v_part (was_live reads_back s p e h is x b v_part part live) in
        subst (λ n. in_drop (e ∷ p) s.number n ≡ false) (sym (step_number s p e x b)) (in_more p s.number v.number e old (starts_not reads_back s p e h is x b v_part part live))

-- **moves are late**
pub moves_late : SentAreRead → (s : SetUp) → MovesLate s
moves_late reads_back s past e h is w x part drops =
    let v = x.by.w in
    let before = earlier s past e h in
    let runs = step_runs s past e w x in
    let good = steps_good s past e w x (works_fit s past before.run v runs) in
    let fresh : w.phase ≡ Fresh = subst (λ q. GoodTo Puts v.phase q w.phase) drops (subst (λ q. GoodTo q v.phase w.part w.phase) part good) in
    puts_under reads_back s past before v runs part (go before runs fresh (is_live v.phase) refl)
  where
    go : OwnPast s past → Member x.by.w (works past s.number) → w.phase ≡ Fresh → (c : Bool) → is_live x.by.w.phase ≡ c → c ≡ true
    go before runs fresh true at = refl
    go before runs fresh false at = absurd (elim (live_fits x.by.w.phase at) [
      | inl z ↦ (let both : Fresh ≡ Ends z.0 = sym fresh ∙ ended_stays s past e w x z.0 z.1 in cc)
      | inr next ↦ puts_go_on reads_back s past before x.by.w runs part next
    ])
