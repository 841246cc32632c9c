-- The list of what each running job heard agrees with what its repository's entries say that it heard.
use Rattle.std.proofs.Common.{◌≡◌, ◌≢◌, ℕ, ◌<◌, Bool, true, false, List, [], ◌∷◌, Option, Some, None, ◌⊎◌, inl, inr, refl, sym, ap, ◌∙◌, subst}
use Rattle.std.specs.Prelude.{if◌then◌else◌, ◌==◌, fold}
use Rattle.std.proofs.lemmas.Bool.{true≢false, eqb-true, ne_eqb}
use Rattle.std.proofs.lemmas.Option.{same_Some}
use Rattle.annex_base.specs.Lists.{Member}
use Rattle.annex_base.proofs.Conditions.{eqb_refl, eqb_sym}
use Rattle.annex_base.proofs.Lists.{find_member}
use Rattle.step_facts.proofs.Below.{SentAreRead}
use Rattle.run_data.specs.declared.entry.By.{By}
use Rattle.run_data.specs.declared.entry.By.TheVariants.{Job as by_job}
use Rattle.run_data.specs.declared.entry.Entry.{Entry}
use Rattle.run_data.specs.declared.entry.EntryKind.{EntryKind}
use Rattle.run_data.specs.declared.entry.EntryKind.TheVariants.{Share}
use Rattle.run_data.specs.declared.entry.FrameView.{FrameView}
use Rattle.run_data.specs.declared.entry.FrameText.TheVariants.{Opening}
use Rattle.run_data.specs.declared.job.Cause.TheVariants as causes
use Rattle.p2p_wire.specs.declared.message.Message.{Message}
use Rattle.p2p_wire.specs.declared.message.Message.TheVariants.{Failure, Success}
use Rattle.node_model.specs.Slots.{RunningJob}
use Rattle.run_model.specs.Past.{begun_count, is_of}
use Rattle.run_model.specs.Logs.{is_step}
use Rattle.node_model.specs.Evidence.{Standing, Claimed, Ignored, Asked}
use Rattle.past_facts.proofs.Heard.{Heard, Locked_at, Seen_there, heard, heard_kind, hears, newer_heard}
use Rattle.run_laws.proofs.KnownAgrees.{heard_as}
use Rattle.run_laws.proofs.HeardAgrees.{by_phase}
use Rattle.run_laws.proofs.HeardTells.{Listens, NoCopy, lock_listens, look_listens, stepped_own, stepped_silent, stepped_tells, still_tells, told_or, taken_peer, tells_else}
use Rattle.step_facts.proofs.Makers.{taken_of}
use Rattle.run_laws.proofs.HeardCauses.{Told, look_told, shut_told, still_told}
use Rattle.run_laws.proofs.HeardHolds.{Asking, AtTarget, Candidate, Holds, HoldsOf, Lists, ShutTold, asking_kept, candidate_kept, gave_none, holds_kept, lists_kept, lists_new, none_new, on_candidate}
use Rattle.node_model.specs.SetUp.{SetUp}
use Rattle.run_model.specs.States.{state_of, end_at, rows_at, works}
use Rattle.node_model.specs.Sessions.{line_in}
use Rattle.node_model.specs.Ends.{EndName, end_after, end_sends, end_took, frames, sent_at, taken_at}
use Rattle.node_model.specs.Jobs
use Rattle.node_model.specs.Jobs.{AsksLock, AsksLook, AsksTime, Drops, Fresh, Gets, Greets, Held, Lacks, Next, Opens, Orders, Part, Phase, Puts, Seen, Unseen, Work, heard_of, job_end, partner, running_job, work_kind}
use Rattle.step_facts.proofs.Knowing.{candidates_of, is_to_ask}
use Rattle.node_model.specs.Knows.{is_unasked, standing_of}
use Rattle.node_model.specs.JobStep.{Turn, end_with}
use Rattle.run_model.specs.Run.{OwnPast, OwnRun}
use Rattle.node_model.specs.Found.{IsJobEntry}
use Rattle.step_facts.proofs.JobKept.{kind_kept}
use Rattle.job_facts.proofs.TalkFacts.{Apart, Chosen, Fits}
use Rattle.job_facts.proofs.PhaseFacts.{Good, GoodTo, is_fresh, only_lock, only_look}
use Rattle.job_facts.proofs.WorkFits.{step_kind, step_runs, step_sent, step_talk, steps_good, works_fit}
use Rattle.job_facts.proofs.Untouched.{AtStart, begin_still, begins_later, begun_before, not_yet, start_before}
use Rattle.step_facts.proofs.JobSteps.{Begins, Origin, Stays, Steps, invariant, turn_at}
use Rattle.job_facts.proofs.DropReads.{told_of}
use Rattle.step_facts.proofs.ClientRuns.{client_end}
use Rattle.step_facts.proofs.BySteps.{earlier}
use Rattle.run_laws.proofs.ConnectionOwn.{taken_from_step}
use Rattle.job_facts.proofs.HeardLists.{Changed, ClosedAt, FrameTold, OwnLacks, kind_changed, share_or, talker_is}
use Rattle.job_facts.proofs.Asking.{Came, is_on_one, kind_came}

-- ---- plain facts

no_share : (j time : ℕ) (kind : EntryKind) → ((hold end : ℕ) (owner : By) (key : List ℕ) → kind ≢ Share hold end owner key) → heard_kind j time kind ≡ []
no_share j time (Share hold end owner key) apart = absurd (apart hold end owner key refl)
no_share j time kind apart = refl

on_later : (target : Option ℕ) (phase : Phase) (peer : ℕ) → partner target phase ≡ Some peer → is_fresh phase ≡ false
on_later target Fresh peer on = absurd (cc)
on_later target phase peer on = refl

good_drops : (old : Phase) (to : Part) (phase : Phase) → GoodTo Drops old to phase → to ≡ Drops
good_drops old Drops phase g = refl
good_drops old Gets phase g = absurd g
good_drops old Puts phase g = absurd g

unasked_none : (standing : Standing) (h : Option Jobs.Heard) → is_unasked standing h ≡ true → h ≡ None
unasked_none Asked None e = refl
unasked_none Asked (Some h) e = absurd (cc)
unasked_none Claimed h e = absurd (cc)
unasked_none (Ignored cause) h e = absurd (cc)

-- ---- a step of the job

module _ (reads_back : SentAreRead) (s : SetUp) (past : List Entry) (e : Entry) (is : is_of s.number e ≡ true) (past_is : OwnPast s past)
    (others : (f : FrameView) → e.taken ≡ Some f → (f.peer == s.number) ≡ false) (x : Work) (b : Steps s past e x) (fit : Fits b.by.w.part b.by.w.phase) (was : HoldsOf s past b.by.w) where
  abbrev r : ℕ
  r = s.number

  abbrev v : Work
  v = b.by.w

  abbrev j : RunningJob
  j = running_job b.by.w

  abbrev t : Turn
  t = turn_at s past e b.by

  abbrev y : Work
  y = work_kind (rows_at past s.number) s.number b.by.w e e.kind

  good : GoodTo v.part v.phase y.part y.phase
  good = subst (Good v) b.work_is (steps_good s past e x b fit)

  kind_is : IsJobEntry t b.by.made e.kind
  kind_is = step_kind s past e x b

  end_now : (a : EndName) → (end_after a (end_at past r a) e).opened ≡ false → (end_at (e ∷ past) r a).opened ≡ false
  end_now a h = subst (λ (c : Bool). (if c then end_after a (end_at past r a) e else end_at past r a).opened ≡ false) (sym is) h

  end_then : (a : EndName) → (end_at (e ∷ past) r a).opened ≡ false → (end_after a (end_at past r a) e).opened ≡ false
  end_then a h = subst (λ (c : Bool). (if c then end_after a (end_at past r a) e else end_at past r a).opened ≡ false) is h

  own_shut : ShutTold s past e j
  own_shut peer other shut = go (end_at past r (client_end peer v.slot)).opened refl
    where
      go : (c : Bool) → (end_at past r (client_end peer v.slot)).opened ≡ c → ((end_at past r (client_end peer v.slot)).opened ≡ false) ⊎ Told (e ∷ past) r v.number peer
      go false before = inl before
      go true before = inr (shut_told past e r v.number peer v.slot (end_at past r (client_end peer v.slot)) (stepped_own s past e b.by) other before (end_then (client_end peer v.slot) shut))

  own_silent : ((hold end : ℕ) (owner : By) (key : List ℕ) → e.kind ≢ Share hold end owner key) → hears past e r r v.number ≡ []
  own_silent apart = rw (eqb_refl r, is) (no_share v.number e.time e.kind apart)

  -- ---- its list

  pub record Listed' : Type 0 where
    pub lists : Lists s (e ∷ past) j y.heard
    pub start : AtStart y.part y.phase → y.heard ≡ []

  -- a drop that has begun isn't at its start
  no_start : v.part ≡ Drops → is_fresh v.phase ≡ false → AtStart y.part y.phase → y.heard ≡ []
  no_start part later at = absurd (true≢false (sym (start_before v.part v.phase y.part y.phase good at part) ∙ later))

  next_start : y.part ≡ Drops → y.phase ≡ Next → AtStart y.part y.phase → y.heard ≡ []
  next_start part next' at = absurd (let bad : is_fresh Next ≡ true = subst (λ p. is_fresh p ≡ true) next' (at part) in cc)

  of_list : (hs : List (ℕ × Jobs.Heard)) → y.heard ≡ hs → Lists s (e ∷ past) j hs → Lists s (e ∷ past) j y.heard
  of_list hs same l = subst (Lists s (e ∷ past) j) (sym same) l

  -- SUCCESS of the peer
  got : (f : FrameView) (took : e.taken ≡ Some f) → line_in f.body ≡ Some Success → (peer : ℕ) (h : Jobs.Heard) (word : Heard) → by_phase v.what.key v.phase ≡ word ∷ [] → heard_as v.what.key (Some h) ≡ Some word
      → gave_none (Some h) ≡ false → partner v.what.peer v.phase ≡ Some peer → v.part ≡ Drops → Listens reads_back s past e b.by fit ((peer, h) ∷ v.heard) → Listed'
  got f took told peer h word says word_is given on part l =
      let k = taken_of s past e b.by f took in
      let same : f.peer ≡ peer = taken_peer s past e f k ∙ same_Some k.peer peer (sym k.on ∙ on) in
      let tells : hears past e f.peer r v.number ≡ word ∷ [] = stepped_tells reads_back s past e b.by fit past_is f took told (others f took) ∙ says in
      record {
        lists = of_list ((peer, h) ∷ v.heard) l.list_is (lists_new s past e j peer h v.heard (λ c apart. else_none c (subst (λ n. (n == c) ≡ false) (sym same) apart) (c == r) refl)
            (subst (λ n. heard (e ∷ past) r v.number n ≡ heard_as v.what.key (Some h)) same (ap (λ ts. newer_heard ts (heard past r v.number f.peer)) tells ∙ sym word_is))
            (λ gave other. absurd (true≢false (sym gave ∙ given))) was.lists);
        start = no_start part (on_later v.what.peer v.phase peer on);
      }
    where
      else_none : (c : ℕ) → (f.peer == c) ≡ false → (d : Bool) → (c == r) ≡ d → hears past e c r v.number ≡ []
      else_none c apart true own = subst (λ n. hears past e n r v.number ≡ []) (sym (eqb-true c r own)) (own_silent (λ hold end owner key kind. let bad = sym l.kind_is ∙ kind in cc))
      else_none c apart false other = tells_else r c v.number past e f took apart other

  -- no word of a copy by a frame
  module _ (bare : NoCopy v.what.key v.phase e.taken) where
    silent : (c : ℕ) → (c == r) ≡ false → hears past e c r v.number ≡ []
    silent c other = stepped_silent reads_back s past e b.by fit past_is bare c other

    shared : (hold end : ℕ) (owner : By) (key : List ℕ) → e.kind ≡ Share hold end owner key → Listed'
    shared hold end owner key kind =
        let f = subst (IsJobEntry t b.by.made) kind kind_is in
        let list : y.heard ≡ (r, Held e.time) ∷ v.heard = ap (λ k. (work_kind (rows_at past r) r v e k).heard) kind in
        let part : y.part ≡ Drops = ap (λ k. (work_kind (rows_at past r) r v e k).part) kind ∙ f.part_is in
        let phase : y.phase ≡ Next = ap (λ k. (work_kind (rows_at past r) r v e k).phase) kind in
        let told : heard_kind v.number e.time e.kind ≡ Locked_at e.time v.what.key ∷ [] =
        ap (heard_kind v.number e.time) (kind ∙ (ap (λ o. Share hold end o key) f.by_is ∙ ap (Share hold end (by_job v.number)) f.key_is)) ∙ own_word in
        let tells : hears past e r r v.number ≡ Locked_at e.time v.what.key ∷ [] = rw (eqb_refl r, is) told in
        record {
          lists = of_list ((r, Held e.time) ∷ v.heard) list (lists_new s past e j r (Held e.time) v.heard (λ c apart. silent c (eqb_sym c r ∙ apart))
              (ap (λ ts. newer_heard ts (heard past r v.number r)) tells) (λ gave other. absurd (cc)) was.lists);
          start = next_start part phase;
        }
      where
        own_word : heard_kind v.number e.time (Share hold end (by_job v.number) v.what.key) ≡ Locked_at e.time v.what.key ∷ []
        own_word = rw (eqb_refl v.number) refl

    module _ (apart : (hold end : ℕ) (owner : By) (key : List ℕ) → e.kind ≢ Share hold end owner key) where
      all_silent : (c : ℕ) → hears past e c r v.number ≡ []
      all_silent c = go (c == r) refl
        where
          go : (d : Bool) → (c == r) ≡ d → hears past e c r v.number ≡ []
          go true own = subst (λ n. hears past e n r v.number ≡ []) (sym (eqb-true c r own)) (own_silent apart)
          go false other = silent c other

      own_word : OwnLacks r v y → Listed'
      own_word o =
          let empty : v.heard ≡ [] = was.start (λ d. subst (λ p. is_fresh p ≡ true) (sym o.first) refl) in
          let part : y.part ≡ Drops = good_drops v.phase y.part y.phase (subst (λ p. GoodTo p v.phase y.part y.phase) o.part_is good) in
          record {
            lists = of_list ((r, Lacks o.cause) ∷ v.heard) o.list (none_new s past e j r (Lacks o.cause) v.heard all_silent refl (ap (λ l. told_of l r) empty) (λ other. absurd (true≢false (sym (eqb_refl r) ∙ other))) was.lists);
            start = next_start part o.later;
          }

      closed_word : ClosedAt (rows_at past r) r v e y → Listed'
      closed_word c =
          let cand : Candidate s past j v.heard c.peer = on_candidate s past j v.heard v.phase c.peer (subst (λ p. Fits p v.phase) c.part_is fit) c.on c.no_target (was.asking c.part_is) in
          record {
            lists = of_list ((c.peer, Lacks causes.Closed) ∷ v.heard) c.list (none_new s past e j c.peer (Lacks causes.Closed) v.heard all_silent refl cand.unheard
                (λ other. (candidate_kept s past e j v.heard c.peer own_shut cand).shut other (end_now (job_end v c.peer) c.shut)) was.lists);
            start = no_start c.part_is (on_later v.what.peer v.phase c.peer c.on);
          }

      refused : (f : FrameView) (took : e.taken ≡ Some f) (m : Message) → line_in f.body ≡ Some m → m ≡ Failure → (peer : ℕ) → v.phase ≡ AsksLook peer → y.heard ≡ (peer, Unseen) ∷ v.heard → Listed'
      refused f took m says failure peer phase list =
          let k = taken_of s past e b.by f took in
          let on : partner v.what.peer v.phase ≡ Some peer = ap (partner v.what.peer) phase in
          let same : f.peer ≡ peer = taken_peer s past e f k ∙ same_Some k.peer peer (sym k.on ∙ on) in
          let part : v.part ≡ Drops = only_look v.part (subst (Fits v.part) phase fit) in
          let cand : Candidate s past j v.heard peer = subst (Asking s past j v.heard) phase (was.asking part) in
          record {
            lists = of_list ((peer, Unseen) ∷ v.heard) list (none_new s past e j peer Unseen v.heard all_silent refl cand.unheard
                (λ other. subst (λ n. Told (e ∷ past) r v.number n) same (look_told reads_back s past e b.by past_is f took (says ∙ ap (λ q. Some q) failure) peer phase (others f took))) was.lists);
            start = no_start part (on_later v.what.peer v.phase peer on);
          }
        where
          only_look : (q : Part) → Fits q (AsksLook peer) → q ≡ Drops
          only_look Gets g = absurd g
          only_look Puts g = absurd g
          only_look Drops g = refl

      frame_word : FrameTold v e y → Listed'
      frame_word z = elim (z.told) [
        | inl q ↦ absurd (let none = bare z.f z.takes_it (z.says_it ∙ ap (λ m. Some m) q.told) in let word : by_phase v.what.key v.phase ≡ Locked_at q.since v.what.key ∷ [] = ap (by_phase v.what.key) q.phase_is in let bad = sym word ∙ none in cc)
        | inr q ↦ elim (q.told) [
          | inl g ↦ absurd (let none = bare z.f z.takes_it (z.says_it ∙ ap (λ m. Some m) g.0) in let word : by_phase v.what.key v.phase ≡ Seen_there v.what.key ∷ [] = ap (by_phase v.what.key) q.phase_is in let bad = sym word ∙ none in cc)
          | inr g ↦ refused z.f z.takes_it z.m z.says_it g.0 q.peer q.phase_is g.1
        ]
      ]

      unshared : Changed (rows_at past r) r v e y → Listed'
      unshared (inl same) = record { lists = of_list v.heard same (lists_kept s past e j v.heard all_silent was.lists); start = λ at. same ∙ was.start (start_before v.part v.phase y.part y.phase good at) }
      unshared (inr (inl o)) = own_word o
      unshared (inr (inr (inl c))) = closed_word c
      unshared (inr (inr (inr z))) = frame_word z

  list_step : Listed'
  list_step = elim (told_or v.what.key v.phase e.taken) [
    | inl bare ↦ elim (share_or e.kind) [
      | inl k ↦ shared bare k.0 k.1 k.2 k.3 k.4
      | inr apart ↦ unshared bare apart (kind_changed (rows_at past r) r v e (talker_is t e.taken) e.kind apart)
    ]
    | inr w ↦ elim w [
      | inl g ↦ got g.f g.took g.told g.peer (Held g.since) (Locked_at g.since v.what.key) (ap (by_phase v.what.key) g.phase_is) refl refl (ap (partner v.what.peer) g.phase_is)
          (only_lock v.part g.peer g.since (subst (Fits v.part) g.phase_is fit)) (lock_listens reads_back s past e b.by fit g)
      | inr g ↦ got g.f g.took g.told g.peer Seen (Seen_there v.what.key) (ap (by_phase v.what.key) g.phase_is) refl refl (ap (partner v.what.peer) g.phase_is)
          (only_look v.part g.peer (subst (Fits v.part) g.phase_is fit)) (look_listens reads_back s past e b.by fit g)
    ]
  ]

  -- ---- where it stands

  abbrev Open : ℕ → Type 0
  Open p = (p == r) ≡ false → (end_at (e ∷ past) r (client_end p v.slot)).opened ≡ false → Told (e ∷ past) r v.number p

  chosen : (p : ℕ) → Chosen t p → Open p → AtTarget s j p ⊎ Candidate s (e ∷ past) j v.heard p
  chosen p (inr c) f = inl (c.1, c.2)
  chosen p (inl c) f = inr (record {
    unheard = unasked_none (standing_of s (state_of s past) v p) (heard_of v p) (find_member (is_to_ask s (state_of s past) v) (candidates_of s v) p c.1).1;
    shut = f;
  })

  opens : (p : ℕ) → e.sent ≡ frames (job_end v p) (end_with t p) (Opening ∷ []) → Open p
  opens p sent other shut = absurd (true≢false (sym open' ∙ end_then (client_end p v.slot) shut))
    where
      self : sent_at (client_end p v.slot) (frames (client_end p v.slot) (end_with t p) (Opening ∷ [])) ≡ frames (client_end p v.slot) (end_with t p) (Opening ∷ [])
      self = rw (eqb_refl p, eqb_refl v.slot) refl

      open' : (end_after (client_end p v.slot) (end_at past r (client_end p v.slot)) e).opened ≡ true
      open' = ap (λ (fs : List FrameView). (fold (λ c f. end_sends c f.body) (end_took (end_at past r (client_end p v.slot)) (taken_at (client_end p v.slot) e.taken)) fs).opened) (ap (sent_at (client_end p v.slot)) sent ∙ self)

  goes_on : (p : ℕ) → (end_with t p).opened ≡ true → Open p
  goes_on p opened other shut = elim (own_shut p other shut) [ inl before ↦ absurd (true≢false (sym opened ∙ before)) | inr now' ↦ now' ]

  not_target : {A : Type 0} (p : ℕ) → Apart t p → AtTarget s j p → A
  not_target p apart at = absurd (true≢false (sym (eqb_refl p) ∙ subst (λ n. (n == p) ≡ false) (sym at.1) (apart at.0)))

  candidate_of : (p : ℕ) (q : List Entry) → Apart t p → AtTarget s j p ⊎ Candidate s q j v.heard p → Candidate s q j v.heard p
  candidate_of p q apart (inl at) = not_target p apart at
  candidate_of p q apart (inr c) = c

  module _ (part : v.part ≡ Drops) where
    old : (phase : Phase) → v.phase ≡ phase → Asking s past j v.heard phase
    old phase at = subst (Asking s past j v.heard) at (was.asking part)

    kept : (phase : Phase) → v.phase ≡ phase → Asking s (e ∷ past) j v.heard phase
    kept phase at = asking_kept s past e j v.heard phase own_shut (old phase at)

    came : (phase : Phase) → is_on_one phase ≡ true → Came t e phase → Asking s (e ∷ past) j v.heard phase
    came (Opens p) on (inl at) = kept (Opens p) at
    came (Opens p) on (inr c) = chosen p c.1 (opens p c.2)
    came (Greets p) on (inl at) = kept (Greets p) at
    came (Greets p) on (inr at) = kept (Opens p) at
    came (AsksLock p since) on (inl at) = kept (AsksLock p since) at
    came (AsksLock p since) on (inr (inl at, apart)) = candidate_of p (e ∷ past) apart (kept (Greets p) at)
    came (AsksLock p since) on (inr (inr c, apart)) = candidate_of p (e ∷ past) apart (chosen p c.1 (goes_on p c.2))
    came (AsksLook p) on (inl at) = kept (AsksLook p) at
    came (AsksLook p) on (inr at) = kept (AsksLock p at.0) at.1
    came AsksTime on (inl at) = kept AsksTime at
    came AsksTime on (inr side) = side
    came Orders on (inl at) = kept Orders at
    came Orders on (inr side) = side
    came phase on c = tt

    stands : (phase : Phase) → (is_on_one phase ≡ true → (y.heard ≡ v.heard) × Came t e phase) → Asking s (e ∷ past) j y.heard phase
    stands phase f = go (is_on_one phase) refl
      where
        off : (q : Phase) → is_on_one q ≡ false → Asking s (e ∷ past) j y.heard q
        off (Opens p) h = absurd (cc)
        off (Greets p) h = absurd (cc)
        off (AsksLock p since) h = absurd (cc)
        off (AsksLook p) h = absurd (cc)
        off AsksTime h = absurd (cc)
        off Orders h = absurd (cc)
        off q h = tt

        go : (c : Bool) → is_on_one phase ≡ c → Asking s (e ∷ past) j y.heard phase
        go true on = let z = f on in subst (λ hs. Asking s (e ∷ past) j hs phase) (sym z.0) (came phase on z.1)
        go false on = off phase on

  asking_step : y.part ≡ Drops → Asking s (e ∷ past) j y.heard y.phase
  asking_step drops = go v.part refl
    where
      fresh : y.phase ≡ Fresh → Asking s (e ∷ past) j y.heard y.phase
      fresh at = subst (Asking s (e ∷ past) j y.heard) (sym at) tt

      go : (q : Part) → v.part ≡ q → Asking s (e ∷ past) j y.heard y.phase
      go Drops part = stands part y.phase (kind_came t e b.by.made (rows_at past r) r e.kind kind_is (step_talk s past e x b fit) fit part (step_sent s past e x b) b.goes_on)
      go Gets part = fresh (subst (λ p. GoodTo p v.phase Drops y.phase) part (subst (λ p. GoodTo v.part v.phase p y.phase) drops good))
      go Puts part = fresh (subst (λ p. GoodTo p v.phase Drops y.phase) part (subst (λ p. GoodTo v.part v.phase p y.phase) drops good))

  pub holds_step : HoldsOf s (e ∷ past) x
  holds_step =
      let l = list_step in
      let same : running_job y ≡ j = kind_kept (rows_at past r) r v e e.kind in
      subst (HoldsOf s (e ∷ past)) (sym b.work_is) (subst (λ (q : RunningJob). Holds s (e ∷ past) q y.heard y.part y.phase) (sym same) (record { lists = l.lists; start = l.start; asking = asking_step }))

-- ---- entries that are no steps of the job

other_tells : (r c j : ℕ) (past : List Entry) (e : Entry) → is_of r e ≡ false → hears past e c r j ≡ []
other_tells r c j past e is = rw is (go (c == r))
  where
    nothing : List Heard
    nothing = []

    go : (b : Bool) → (if b then nothing else nothing) ≡ []
    go true = refl
    go false = refl

other_shut : (s : SetUp) (past : List Entry) (e : Entry) (j : RunningJob) → is_of s.number e ≡ false → ShutTold s past e j
other_shut s past e j is peer other shut =
    inl (subst (λ (b : Bool). (if b then end_after (client_end peer j.slot) (end_at past s.number (client_end peer j.slot)) e else end_at past s.number (client_end peer j.slot)).opened ≡ false) is shut)

stays_shut : (s : SetUp) (past : List Entry) (e : Entry) → OwnRun s (e ∷ past) → is_of s.number e ≡ true → (w : Work) → Stays s past e w → ShutTold s past e (running_job w)
stays_shut s past e run is w b peer other shut = go (end_at past s.number (job_end w peer)).opened refl
  where
    go : (c : Bool) → (end_at past s.number (job_end w peer)).opened ≡ c → ((end_at past s.number (job_end w peer)).opened ≡ false) ⊎ Told (e ∷ past) s.number w.number peer
    go false before = inl before
    go true before = inr (let own = run.0 is in still_told s past own.0 e run.1 own.1 is w b.ran b.no_crash peer other before
        (subst (λ (c : Bool). (if c then end_after (job_end w peer) (end_at past s.number (job_end w peer)) e else end_at past s.number (job_end w peer)).opened ≡ false) is shut))

-- ---- over the past

module _ (reads_back : SentAreRead) (s : SetUp) where
  -- an entry of the repository that is no step of the job tells it nothing
  own_still : (past : List Entry) (e : Entry) → OwnPast s (e ∷ past) → is_of s.number e ≡ true → (j : ℕ) → is_step j e.kind ≡ false → (c : ℕ) → hears past e c s.number j ≡ []
  own_still past e h is j still c =
      let own = h.run.0 is in
      let before = earlier s past e h in
      still_tells reads_back s past own.0 e own.1 (works_fit s past before.run) before j still c

  -- nothing was told to a job that hasn't begun
  future_heard : (past : List Entry) → OwnPast s past → (j : ℕ) → begun_count past s.number < j → (c : ℕ) → heard past s.number j c ≡ None
  future_heard [] h j later c = refl
  future_heard (e ∷ past) h j later c =
      let before = begun_before past e s.number j later in
      ap (λ ts. newer_heard ts (heard past s.number j c)) (tells (is_of s.number e) refl before) ∙ future_heard past (earlier s past e h) j before c
    where
      tells : (b : Bool) → is_of s.number e ≡ b → begun_count past s.number < j → hears past e c s.number j ≡ []
      tells false is before = other_tells s.number c j past e is
      tells true is before = let own = h.run.0 is in own_still past e h is j (not_yet s past own.0 e h.run.1 own.1 j before) c

  begins_holds : (past : List Entry) (e : Entry) → OwnPast s (e ∷ past) → is_of s.number e ≡ true → (w : Work) → Begins s past e w → HoldsOf s (e ∷ past) w
  begins_holds past e h is w b =
      let empty : w.heard ≡ [] = ap (λ (y : Work). y.heard) b.work_is in
      let phase : w.phase ≡ Fresh = ap (λ (y : Work). y.phase) b.work_is in
      record {
        lists = subst (Lists s (e ∷ past) (running_job w)) (sym empty) (record {
          heard_is = λ c. ap (λ ts. newer_heard ts (heard past s.number w.number c)) (own_still past e h is w.number (begin_still s past e w b) c)
              ∙ future_heard past (earlier s past e h) w.number (begins_later s past e h.run is w b) c;
          told = λ c other none. absurd (cc);
        });
        start = λ at. empty;
        asking = λ drops. subst (Asking s (e ∷ past) (running_job w) w.heard) (sym phase) tt;
      }

  -- **the list of a running job agrees with what it heard by the entries**
  pub heard_holds : (past : List Entry) → OwnPast s past → (w : Work) → Member w (works past s.number) → HoldsOf s past w
  heard_holds past h w m = invariant s (λ p x. OwnPast s p → HoldsOf s p x)
      (λ p e is x n was k. holds_kept s p e (running_job x) x.heard x.part x.phase (λ c. other_tells s.number c x.number p e is) (other_shut s p e (running_job x) is) (was (earlier s p e k)))
      own past h.run w m h
    where
      own : (p : List Entry) (e : Entry) → OwnRun s (e ∷ p) → is_of s.number e ≡ true → ((x : Work) → Member x (works p s.number) → OwnPast s p → HoldsOf s p x)
          → (x : Work) → Origin s p e x → OwnPast s (e ∷ p) → HoldsOf s (e ∷ p) x
      own p e run is was x (inl b) k = begins_holds p e k is x b
      own p e run is was x (inr (inl b)) k =
          holds_kept s p e (running_job x) x.heard x.part x.phase (own_still p e k is x.number b.still) (stays_shut s p e k.run is x b) (was x b.ran (earlier s p e k))
      own p e run is was x (inr (inr b)) k =
          let before = earlier s p e k in
          let mine = k.run.0 is in
          holds_step reads_back s p e is before
          (λ f took. ne_eqb f.peer s.number (taken_from_step reads_back s p mine.0 e before k.bounds.0 is mine.1 f took)) x b (works_fit s p before.run b.by.w (step_runs s p e x b))
          (was b.by.w (step_runs s p e x b) before)
