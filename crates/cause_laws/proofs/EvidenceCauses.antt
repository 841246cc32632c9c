-- The causes of refusals that rest on a drop's evidence: its locks had expired, its target's protocol is old, or it lacks evidence.
use Rattle.std.proofs.Common.{◌≡◌, ℕ, Bool, true, false, List, [], ◌∷◌, Option, Some, None, ◌⊎◌, inl, inr, refl, sym, ap, ◌∙◌, subst}
use Rattle.std.specs.Prelude.{◌||◌, bytes_eq, find, length, min, nat_lt}
use Rattle.std.specs.List.{list_any, reduce}
use Rattle.std.proofs.lemmas.Bool.{ltb-false, ltb-true}
use Rattle.annex_base.specs.Lists.{Each, Member}
use Rattle.annex_base.specs.declared.kinds.Level.{Level}
use Rattle.annex_base.specs.declared.kinds.Level.TheVariants as levels
use Rattle.annex_base.specs.declared.kinds.Word.{Word}
use Rattle.annex_base.specs.declared.kinds.Word.TheVariants.{Absent as word_absent, Barred as word_barred}
use Rattle.annex_base.proofs.Lists.{Each-from_members, Each-member, find_nowhere}
use Rattle.step_facts.proofs.Below.{SentAreRead}
use Rattle.drop_proof.specs.declared.evidence.Evidence.{Evidence}
use Rattle.drop_proof.specs.declared.evidence.Kind.{Kind}
use Rattle.drop_proof.specs.declared.evidence.Kind.TheVariants.{Locked, Trusted, Recent}
use Rattle.drop_proof.specs.Judging.{ends, is_enough, least_end}
use Rattle.run_data.specs.declared.entry.Entry.{Entry}
use Rattle.run_data.specs.declared.entry.EntryKind.TheVariants.{End as ends_job}
use Rattle.run_data.specs.declared.job.CandidateCause.{CandidateCause}
use Rattle.run_data.specs.declared.job.Outcome.TheVariants.{Refused}
use Rattle.run_data.specs.declared.job.DropRefusal.TheVariants as refusals
use Rattle.run_data.specs.declared.job.Proof.{Proof}
use Rattle.node_model.specs.Clocks.{ClockSet, runs_on}
use Rattle.run_model.specs.Past.{clock}
use Rattle.run_model.specs.Logs.{need_read}
use Rattle.run_data.specs.declared.job.Cause.{Cause}
use Rattle.run_data.specs.declared.job.Cause.TheVariants as causes
use Rattle.run_data.specs.Repos.{id_of}
use Rattle.run_model.specs.Drops
use Rattle.node_model.specs.Evidence.{Standing, gather, proof_of, Claimed, Ignored, Asked, Offer, Gives, Fails, candidates, failures, is_locked, pick, reached_candidates, standing_seen}
use Rattle.run_model.specs.Drops.{Vouch, offer, offer_from, candidate_cause, is_waiting, reply, told_cause}
use Rattle.run_model.specs.Causes.{ClosedWith, FoundExpired, FoundLacking, FoundOld, items}
use Rattle.node_model.specs.SetUp.{SetUp}
use Rattle.run_model.specs.States.{state_of, works}
use Rattle.node_model.specs.Jobs
use Rattle.node_model.specs.State.{State}
use Rattle.node_model.specs.Jobs.{Drops, Ends, Heard, Lacks, Late, Work, heard_of, running_job, side_of, target_of}
use Rattle.step_facts.proofs.Knowing.{candidates_of, causes_known, is_to_ask, known, knows_enough, next_of}
use Rattle.node_model.specs.Knows.{cause_by, cause_heard, cause_of_word, heard_offer, is_unasked, need_of, offer_by, standing_of}
use Rattle.node_model.specs.DropStep
use Rattle.node_model.specs.Found.{LocksExpire, LacksCopies}
use Rattle.run_model.specs.Words.{word_told}
use Rattle.run_model.specs.Run.{FramesPart, OwnPart, OwnPast}
use Rattle.step_facts.proofs.JobSteps.{turn_at}
use Rattle.job_facts.proofs.Aims.{aims, other_target}
use Rattle.dialogue_facts.proofs.EndSteps.{EnoughBy, next_enough}
use Rattle.cause_laws.proofs.Refusals.{side_in, side_is, target_in, target_is}
use Rattle.cause_laws.proofs.Standing.{stands}
use Rattle.cause_laws.proofs.StillKnown.{KnewAt, knew}
use Rattle.cause_laws.proofs.RefusalCauses.{DropSettled, Ending, drop_settled, ending, ending_words, job_of}
use Rattle.past_facts.proofs.Own.{MessagePast}
use Rattle.past_facts.proofs.Heard as heards
use Rattle.past_facts.proofs.Heard.{known_evidence, still_waits}
use Rattle.past_facts.proofs.Known.{asked_known, evidence_known, gather_same}
use Rattle.run_laws.proofs.KnownAgrees.{known_agrees, knows_same}
use Rattle.run_laws.proofs.DropOwn.{list_agrees}
use Rattle.run_laws.proofs.AtTargets.{at_targets}
use Rattle.step_facts.proofs.Knowing

-- a first end is of a lock
no_ends : (xs : List Evidence) → list_any (λ i. is_locked i.kind) xs ≡ false → ends xs ≡ []
no_ends [] n = refl
no_ends (x ∷ xs) n = kind (no_ends xs) x.kind refl
  where
    kind : (list_any (λ i. is_locked i.kind) xs ≡ false → ends xs ≡ []) → (k : Kind) → x.kind ≡ k → ends (x ∷ xs) ≡ []
    kind more (Locked t) is = let yes' : (true || list_any (λ i. is_locked i.kind) xs) ≡ false = subst (λ q. (is_locked q || list_any (λ i. is_locked i.kind) xs) ≡ false) is n in absurd (cc)
    kind more Trusted is = rw is (more (subst (λ q. (is_locked q || list_any (λ i. is_locked i.kind) xs) ≡ false) is n))
    kind more Recent is = rw is (more (subst (λ q. (is_locked q || list_any (λ i. is_locked i.kind) xs) ≡ false) is n))

locked_by : (xs : List Evidence) (end : ℕ) → least_end xs ≡ Some end → list_any (λ i. is_locked i.kind) xs ≡ true
locked_by xs end e = go (list_any (λ i. is_locked i.kind) xs) refl
  where
    go : (b : Bool) → list_any (λ i. is_locked i.kind) xs ≡ b → b ≡ true
    go true is = refl
    go false is = let none : None ≡ Some end = sym (ap (reduce min) (no_ends xs is)) ∙ e in cc

module _ (reads_back : SentAreRead) (s : SetUp) (past : List Entry) (words : ℕ → Option Word) (e : Entry) (h : OwnPast s past) (own : OwnPart s past words e) (run : MessagePast s.repos past) (j : ℕ) where
  abbrev r : ℕ
  r = s.number

  -- the evidence of its entries, as the job puts its side and target
  items_as : (w : Work) (m : Member w (works past r)) → items s.repos (s.paths w.number) past r w.number (job_of s past h w m)
      ≡ known_evidence (side_of w) s.repos past r w.number (target_of r w) (need_of s (state_of s past) w)
  items_as w m =
      evidence_known (side_in (running_job w)) s.repos past r w.number (target_in r (running_job w)) (need_read (s.paths w.number) past r w.number) run
      ∙ (λ i. known_evidence (side_is w i) s.repos past r w.number (target_is r w i) (need_read (s.paths w.number) past r w.number))

  pub items_known : (w : Work) (m : Member w (works past r)) → knows_enough s (state_of s past) w ≡ true → items s.repos (s.paths w.number) past r w.number (job_of s past h w m) ≡ known s (state_of s past) w
  items_known w m enough = items_as w m ∙ known_agrees s past w (list_agrees reads_back s past h w m) enough

  -- and they are enough
  enough_known : (w : Work) (m : Member w (works past r)) → knows_enough s (state_of s past) w ≡ true → is_enough (side_in (running_job w)) (need_read (s.paths w.number) past r w.number) (items s.repos (s.paths w.number) past r w.number (job_of s past h w m)) ≡ true
  enough_known w m enough = (λ i. is_enough (side_is w i) (need_read (s.paths w.number) past r w.number) (items_known w m enough i)) ∙ enough

  -- **Expired**
  pub expired_found : (end clk : ℕ) → e.kind ≡ ends_job j (Refused (refusals.Expired end clk)) → FoundExpired s.repos (s.paths j) past r j e.time end clk
  expired_found end clk is =
      let x = ending s past words e own j (Refused (refusals.Expired end clk)) is in
      subst (λ n. FoundExpired s.repos (s.paths n) past r n e.time end clk) (sym x.number_is) (elim (x.why) [
        | inl y ↦ now x y
        | inr y ↦ settled x (drop_settled (turn_at s past e x.by) past (refusals.Expired end clk) x.by.made.taken (stands reads_back s past h x.by.w x.runs) y)
      ])
    where
      now : (x : Ending s past e j (Refused (refusals.Expired end clk))) → LocksExpire (turn_at s past e x.by) x.by.made.taken end clk → FoundExpired s.repos (s.paths x.by.w.number) past r x.by.w.number e.time end clk
      now x y =
          let w = x.by.w in
          let kind : x.by.made.kind ≡ ends_job j (Refused (refusals.Expired end clk)) = sym (ap (λ (q : Entry). q.kind) x.by.is) ∙ is in
          let enough : knows_enough s (state_of s past) w ≡ true = elim (y.judges) [
            | inl z ↦ subst (EnoughBy (turn_at s past e x.by)) kind (next_enough (turn_at s past e x.by) x.by.made z.0 y.part_is x.by.does)
            | inr z ↦ (at_targets reads_back s past h w x.runs).2 y.part_is z.0 (other_target s w (aims s past h.run w x.runs) y.part_is z.0) (subst (λ q. Rattle.job_facts.proofs.Targets.at_target (target_of r w) q ≡ true) (sym z.1) refl)
          ] in
          record {
            d = job_of s past h w x.runs;
            enough = enough_known w x.runs enough;
            first = ap least_end (items_known w x.runs enough) ∙ y.first_is;
            late = ltb-false clk end y.late;
            when = inl (y.clock_is ∙ ap (λ t. clock s.repos past r t) (sym (ap (λ (q : Entry). q.time) x.by.is)));
          }

      settled : (x : Ending s past e j (Refused (refusals.Expired end clk))) → DropSettled (turn_at s past e x.by) past (refusals.Expired end clk) → FoundExpired s.repos (s.paths x.by.w.number) past r x.by.w.number e.time end clk
      settled x (inl z) = absurd z.1
      settled x (inr (inl z)) = absurd (let no' : Refused (refusals.Expired end clk) ≡ DropStep.denial_outcome (turn_at s past e x.by) = z.1 in cc)
      settled x (inr (inr z)) =
          let w = x.by.w in
          let time = z.0 in
          let k : KnewAt s past w (Late time) = subst (KnewAt s past w) z.1 (knew reads_back s past h w x.runs) in
          let both : Refused (refusals.Expired end clk) ≡ Refused (refusals.Expired k.0 (clock s.repos past r time)) = z.2 ∙ ap (DropStep.expiry (clock s.repos past r time)) k.1.first in
          let same_end : end ≡ k.0 = ends both in
          let same_clock : clk ≡ clock s.repos past r time = clocks both in
          record {
            d = job_of s past h w x.runs;
            enough = enough_known w x.runs k.1.enough;
            first = ap least_end (items_known w x.runs k.1.enough) ∙ k.1.first ∙ ap Some (sym same_end);
            late = ltb-false clk end (ap (λ c. nat_lt c end) same_clock ∙ ap (nat_lt (clock s.repos past r time)) same_end ∙ k.2);
            when = inr (k.3.entry, k.3.before, k.3.occurs, k.3.own, k.3.newest, k.3.kind_is, same_clock ∙ (ap (λ (c : ClockSet). runs_on c time) (sym k.3.set) ∙ ap (λ q. clock s.repos k.3.before r q) k.3.time_is));
          }
        where
          ends : {a b c d : ℕ} → Refused (refusals.Expired a b) ≡ Refused (refusals.Expired c d) → a ≡ c
          ends e = cc

          clocks : {a b c d : ℕ} → Refused (refusals.Expired a b) ≡ Refused (refusals.Expired c d) → b ≡ d
          clocks e = cc

  -- **OldProtocol**
  pub old_found : (n : ℕ) → e.kind ≡ ends_job j (Refused (refusals.OldProtocol n)) → FoundOld s.repos (s.paths j) past r j n
  old_found n is =
      let x = ending s past words e own j (Refused (refusals.OldProtocol n)) is in
      subst (λ k. FoundOld s.repos (s.paths k) past r k n) (sym x.number_is) (elim (x.why) [
        | inl y ↦ absurd y
        | inr y ↦ settled x (drop_settled (turn_at s past e x.by) past (refusals.OldProtocol n) x.by.made.taken (stands reads_back s past h x.by.w x.runs) y)
      ])
    where
      settled : (x : Ending s past e j (Refused (refusals.OldProtocol n))) → DropSettled (turn_at s past e x.by) past (refusals.OldProtocol n) → FoundOld s.repos (s.paths x.by.w.number) past r x.by.w.number n
      settled x (inl z) =
          let w = x.by.w in
          let k : KnewAt s past w (Ends (Refused (refusals.OldProtocol n))) = subst (KnewAt s past w) z.0 (knew reads_back s past h w x.runs) in
          record {
            d = job_of s past h w x.runs;
            enough = enough_known w x.runs k.1.enough;
            hears = z.1.0;
            old = ltb-true n 3 z.1.1;
            locked = locked_by (items s.repos (s.paths w.number) past r w.number (job_of s past h w x.runs)) k.0 (ap least_end (items_known w x.runs k.1.enough) ∙ k.1.first);
          }
      settled x (inr (inl z)) = absurd (let no' : Refused (refusals.OldProtocol n) ≡ DropStep.denial_outcome (turn_at s past e x.by) = z.1 in cc)
      settled x (inr (inr z)) = absurd (apart (DropStep.first_end (turn_at s past e x.by)) _ z.2)
        where
          apart : (o : Option ℕ) (c : ℕ) → Refused (refusals.OldProtocol n) ≡ DropStep.expiry c o → ⊥
          apart None c e = cc
          apart (Some m) c e = cc

-- ---- Lacking

-- none of them waits
reached_all : (q : ℕ → Bool) (cs : List ℕ) → ((c : ℕ) → Member c cs → q c ≡ false) → reached_candidates q cs ≡ cs
reached_all q [] none = refl
reached_all q (c ∷ cs) none = rw (none c (inl refl)) (ap (λ zs. c ∷ zs) (reached_all q cs (λ d m. none d (inr m))))

none_found : (q : ℕ → Bool) (cs : List ℕ) → find q cs ≡ None → (c : ℕ) → Member c cs → q c ≡ false
none_found q cs e c m = Each-member (λ x. q x ≡ false) cs c (find_nowhere q cs e) m

-- **what is left of Lacking**: of a candidate that a drop asked and that gave nothing, its entries tell the cause that its list has; the
-- word beside a refused look is the one that was told
abbrev pub CausesTold : SetUp → List Entry → Work → Type 0
CausesTold s past w = (c : ℕ) → Member c (candidates_of s w) → standing_of s (state_of s past) w c ≡ Asked → (heard : Heard) → heard_of w c ≡ Some heard → heard_offer (λ time. time) (Some heard) ≡ Fails
    → told_cause past s.number w.number c ≡ Some (cause_heard (word_told past s.number w.number c) (Some heard))

-- no word beside an answer, and no level of trust, says that a connection was closed
no_word : (word : Option Word) → cause_of_word word ≡ causes.Closed → ⊥
no_word (Some word_absent) e = cc
no_word (Some word_barred) e = cc
no_word word e = cc

not_seen : (level : Level) (claimed : Bool) → standing_seen level claimed ≡ Ignored causes.Closed → ⊥
not_seen levels.Trusted true e = cc
not_seen levels.Trusted false e = cc
not_seen levels.Semitrusted claimed e = cc
not_seen levels.Untrusted claimed e = cc
not_seen levels.Dead claimed e = cc

not_ignored : (s : SetUp) (st : State) (w : Work) (c : ℕ) → standing_of s st w c ≡ Ignored causes.Closed → ⊥
unfolding standing_of
not_ignored s st w c e =
    let read = st.read w.number in
    not_seen (read.level (id_of s.repos c)) (list_any (λ claimed. bytes_eq claimed (id_of s.repos c)) (read.claims w.what.key)) e

-- what holds of each candidate whose cause is `closed` holds of each that is listed so
each_failure : (ask : ℕ → Offer) (cause : ℕ → Cause) (P : ℕ → Type 0) → ((c : ℕ) → cause c ≡ causes.Closed → P c) → (cs : List ℕ) → Each (λ z. z.cause ≡ causes.Closed → P z.repo) (failures ask cause cs)
each_failure ask cause P holds [] = tt
each_failure ask cause P holds (c ∷ cs) = go (ask c) (each_failure ask cause P holds cs)
  where
    go : (o : Offer) → Each (λ z. z.cause ≡ causes.Closed → P z.repo) (failures ask cause cs)
        → Each (λ z. z.cause ≡ causes.Closed → P z.repo) (pick o (λ kind. failures ask cause cs) (record { repo = c; cause = cause c } ∷ failures ask cause cs))
    go (Gives kind) more = more
    go Fails more = (holds c, more)

-- alike offers and causes are listed alike
failures_same : (f f' : ℕ → Offer) (g g' : ℕ → Cause) (cs : List ℕ) → ((c : ℕ) → Member c cs → f c ≡ f' c) → ((c : ℕ) → Member c cs → f' c ≡ Fails → g c ≡ g' c) → failures f g cs ≡ failures f' g' cs
failures_same f f' g g' [] offers causes = refl
failures_same f f' g g' (c ∷ cs) offers causes = go (f' c) refl (failures_same f f' g g' cs (λ d m. offers d (inr m)) (λ d m. causes d (inr m)))
  where
    go : (o : Offer) → f' c ≡ o → failures f g cs ≡ failures f' g' cs
        → pick (f c) (λ kind. failures f g cs) (record { repo = c; cause = g c } ∷ failures f g cs) ≡ pick (f' c) (λ kind. failures f' g' cs) (record { repo = c; cause = g' c } ∷ failures f' g' cs)
    go (Gives kind) is more = rw (offers c (inl refl) ∙ is, is) more
    go Fails is more = rw (offers c (inl refl) ∙ is, is) (λ i. record { repo = c; cause = causes c (inl refl) is i } ∷ more i)

offers_none : (clock : ℕ → ℕ) (h : Heard) → heard_offer clock (Some h) ≡ Fails → heard_offer (λ time. time) (Some h) ≡ Fails
offers_none clock (Jobs.Held since) e = absurd (cc)
offers_none clock Jobs.Seen e = absurd (cc)
offers_none clock h e = refl

module _ (reads_back : SentAreRead) (s : SetUp) (past : List Entry) (words : ℕ → Option Word) (e : Entry) (h : OwnPast s past) (own : OwnPart s past words e) (run : MessagePast s.repos past)
    (told : (w : Work) → Member w (works past s.number) → w.part ≡ Drops → CausesTold s past w)
    (closes : (w : Work) → Member w (works past s.number) → (c : ℕ) → heard_of w c ≡ Some (Lacks causes.Closed) → ClosedWith past s.number w.number c) (j : ℕ) where
  -- what the list says of a candidate, and what its entries do
  lacked : (w : Work) → Member w (works past s.number) → w.part ≡ Drops → next_of s (state_of s past) w ≡ None → (c : ℕ) → Member c (candidates_of s w) → Knowing.knows s (state_of s past) w c ≡ Fails
      → ((told_cause past s.number w.number c ≡ Some (cause_by (word_told past s.number w.number c) (standing_of s (state_of s past) w c) (heard_of w c))) × (standing_of s (state_of s past) w c ≡ Asked))
      ⊎ (standing_of s (state_of s past) w c ≡ Ignored (cause_by (word_told past s.number w.number c) (standing_of s (state_of s past) w c) (heard_of w c)))
  lacked w m part last c n fails = go (standing_of s (state_of s past) w c) refl (heard_of w c) refl fails
    where
      go : (st : Standing) → standing_of s (state_of s past) w c ≡ st → (o : Option Heard) → heard_of w c ≡ o → offer_by (clock s.repos past s.number) st o ≡ Fails
          → ((told_cause past s.number w.number c ≡ Some (cause_by (word_told past s.number w.number c) st o)) × (st ≡ Asked)) ⊎ (st ≡ Ignored (cause_by (word_told past s.number w.number c) st o))
      go Claimed is o has f = absurd (cc)
      go (Ignored cause) is o has f = inr refl
      go Asked is None has f = absurd (let asks : true ≡ false = (λ i. is_unasked (sym is i) (sym has i)) ∙ none_found (is_to_ask s (state_of s past) w) (candidates_of s w) last c n in cc)
      go Asked is (Some x) has f = inl (told w m part c n is x has (offers_none (clock s.repos past s.number) x f), refl)

  -- all candidates were asked, so what it knows is its entries' evidence
  items_lacking : (w : Work) (m : Member w (works past s.number)) → next_of s (state_of s past) w ≡ None → items s.repos (s.paths w.number) past s.number w.number (job_of s past h w m) ≡ known s (state_of s past) w
  items_lacking w m last =
      let cs = candidates_of s w in
      let a = list_agrees reads_back s past h w m in
      let none = none_found (is_to_ask s (state_of s past) w) cs last in
      let waits : reached_candidates (still_waits s.repos past s.number w.number) cs ≡ cs = reached_all (still_waits s.repos past s.number w.number) cs (λ c n. off (still_waits s.repos past s.number w.number c) (λ yes'. sym (none c n) ∙ a.waits_too c yes')) in
      let asks : reached_candidates (is_to_ask s (state_of s past) w) cs ≡ cs = reached_all (is_to_ask s (state_of s past) w) cs none in
      items_as reads_back s past words e h own run j w m
      ∙ ap (λ zs. gather (side_of w) (need_of s (state_of s past) w) (heards.knows s.repos past s.number w.number) zs []) (waits ∙ sym asks)
      ∙ gather_same (side_of w) (need_of s (state_of s past) w) (heards.knows s.repos past s.number w.number) (Knowing.knows s (state_of s past) w) (knows_same s past w a) (reached_candidates (is_to_ask s (state_of s past) w) cs) []
    where
      off : (b : Bool) → (b ≡ true → false ≡ true) → b ≡ false
      off false f = refl
      off true f = absurd (let both = f refl in cc)

  offers_same : (w : Work) → Member w (works past s.number) → (c : ℕ) → offer_from s.repos past s.number w.number c ≡ Knowing.knows s (state_of s past) w c
  offers_same w m c = asked_known s.repos past s.number w.number c run ∙ knows_same s past w (list_agrees reads_back s past h w m) c

  -- no candidate is still waited for, its own repository neither
  none_waits : (w : Work) → Member w (works past s.number) → w.part ≡ Drops → next_of s (state_of s past) w ≡ None → (c : ℕ) → Member c (candidates_of s w)
      → is_waiting (Drops.standing s.repos past s.number w.number c) (reply past s.number w.number c) (told_cause past s.number w.number c) ≡ false
  none_waits w m part last c n = go (Drops.standing s.repos past s.number w.number c) refl (reply past s.number w.number c) refl (told_cause past s.number w.number c) refl
    where
      go : (st : Standing) → Drops.standing s.repos past s.number w.number c ≡ st → (o : Option Vouch) → reply past s.number w.number c ≡ o → (t : Option Cause) → told_cause past s.number w.number c ≡ t → is_waiting st o t ≡ false
      go Claimed is o has t why = refl
      go (Ignored cause) is o has t why = refl
      go Asked is (Some v) has t why = refl
      go Asked is None has (Some x) why = refl
      go Asked is None has None why =
          let fails : offer_from s.repos past s.number w.number c ≡ Fails = (λ i. offer (clock s.repos past s.number) (is i) (has i)) in
          absurd (elim (lacked w m part last c n (sym (offers_same w m c) ∙ fails)) [
            | inl x ↦ told_none (sym x.0 ∙ why)
            | inr x ↦ ignored_none (sym x ∙ (list_agrees reads_back s past h w m).standing_is c ∙ is)
          ])
        where
          told_none : {x : Cause} → Some x ≡ None → ⊥
          told_none e = cc

          ignored_none : {x : Cause} → Ignored x ≡ Asked → ⊥
          ignored_none e = cc

  why_is : (w : Work) (m : Member w (works past s.number)) → w.part ≡ Drops → next_of s (state_of s past) w ≡ None → (c : ℕ) → Member c (candidates_of s w) → Knowing.knows s (state_of s past) w c ≡ Fails
      → candidate_cause s.repos past s.number w.number c ≡ cause_by (word_told past s.number w.number c) (standing_of s (state_of s past) w c) (heard_of w c)
  why_is w m part last c n fails = elim (lacked w m part last c n fails) [
    | inl x ↦ (λ i. Drops.cause_by ((sym ((list_agrees reads_back s past h w m).standing_is c) ∙ x.1) i) (x.0 i))
    | inr x ↦ ap (λ st. Drops.cause_by st (told_cause past s.number w.number c)) (sym ((list_agrees reads_back s past h w m).standing_is c) ∙ x)
  ]

  -- what it says of a candidate as closed stands
  says_closed : (w : Work) → Member w (works past s.number) → (c : ℕ) → cause_by (word_told past s.number w.number c) (standing_of s (state_of s past) w c) (heard_of w c) ≡ causes.Closed → ClosedWith past s.number w.number c
  says_closed w m c = go (standing_of s (state_of s past) w c) refl (heard_of w c) refl
    where
      of_heard : (o : Option Heard) → heard_of w c ≡ o → cause_heard (word_told past s.number w.number c) o ≡ causes.Closed → ClosedWith past s.number w.number c
      of_heard (Some (Lacks cause)) has is = closes w m c (has ∙ ap (λ x. Some (Lacks x)) is)
      of_heard o has is = absurd (no_word (word_told past s.number w.number c) is)

      go : (st : Standing) → standing_of s (state_of s past) w c ≡ st → (o : Option Heard) → heard_of w c ≡ o → cause_by (word_told past s.number w.number c) st o ≡ causes.Closed → ClosedWith past s.number w.number c
      go (Ignored cause) seen o has is = absurd (not_ignored s (state_of s past) w c (seen ∙ ap (λ x. Ignored x) is))
      go Claimed seen o has is = of_heard o has is
      go Asked seen o has is = of_heard o has is

  -- **Lacking**
  pub lacking_found : FramesPart past s.number words e → (proof : Proof) (reasons : List CandidateCause) → e.kind ≡ ends_job j (Refused (refusals.Lacking proof reasons)) → FoundLacking s.repos (s.paths j) past s.number j proof reasons
  lacking_found frames proof reasons is =
      let z = ending_words s past words e own j (Refused (refusals.Lacking proof reasons)) is in
      subst (λ n. FoundLacking s.repos (s.paths n) past s.number n proof reasons) (sym z.0.number_is) (elim (z.0.why) [
        | inl y ↦ now z.0 z.1 y
        | inr y ↦ absurd (settled z.0 (drop_settled (turn_at s past e z.0.by) past (refusals.Lacking proof reasons) z.0.by.made.taken (stands reads_back s past h z.0.by.w z.0.runs) y))
      ])
    where
      now : (x : Ending s past e j (Refused (refusals.Lacking proof reasons))) → x.by.look.words ≡ words → LacksCopies (turn_at s past e x.by) proof reasons → FoundLacking s.repos (s.paths x.by.w.number) past s.number x.by.w.number proof reasons
      now x spoke y =
          let w = x.by.w in
          let m = x.runs in
          let cs = candidates_of s w in
          let same = items_lacking w m y.last in
          let same_words : words ≡ word_told past s.number w.number = (λ i c. (frames.tells j (Refused (refusals.Lacking proof reasons)) is c ∙ ap (λ n. word_told past s.number n c) x.number_is) i) in
          let reasons_are : reasons ≡ causes_known s (state_of s past) (word_told past s.number w.number) w = y.causes_are ∙ ap (λ f. causes_known s (state_of s past) f w) (spoke ∙ same_words) in
          let cands : cs ≡ candidates (side_in (running_job w)) (length s.repos) s.number (target_in s.number (running_job w)) = (λ i. candidates (sym (side_is w) i) (length s.repos) s.number (sym (target_is s.number w) i)) in
          let listed : causes_known s (state_of s past) (word_told past s.number w.number) w ≡ failures (offer_from s.repos past s.number w.number) (candidate_cause s.repos past s.number w.number) cs =
          sym (failures_same (offer_from s.repos past s.number w.number) (Knowing.knows s (state_of s past) w) (candidate_cause s.repos past s.number w.number)
          (λ c. cause_by (word_told past s.number w.number c) (standing_of s (state_of s past) w c) (heard_of w c)) cs (λ c n. offers_same w m c) (λ c n fails. why_is w m y.part_is y.last c n fails)) in
          let answered = Each-from_members (λ c. is_waiting (Drops.standing s.repos past s.number w.number c) (reply past s.number w.number c) (told_cause past s.number w.number c) ≡ false) cs (λ c n. none_waits w m y.part_is y.last c n) in
          record {
            d = job_of s past h w m;
            wants = (λ i. is_enough (side_is w i) (need_read (s.paths w.number) past s.number w.number) (same i)) ∙ y.wants;
            proof_is = y.proof_is ∙ ap (proof_of (length s.repos) (need_read (s.paths w.number) past s.number w.number)) (sym same);
            answered = subst (Each (λ c. is_waiting (Drops.standing s.repos past s.number w.number c) (reply past s.number w.number c) (told_cause past s.number w.number c) ≡ false)) cands answered;
            causes_are = reasons_are ∙ listed ∙ ap (failures (offer_from s.repos past s.number w.number) (candidate_cause s.repos past s.number w.number)) cands;
            closed = subst (Each (λ z. z.cause ≡ causes.Closed → ClosedWith past s.number w.number z.repo)) (sym reasons_are)
                (each_failure (Knowing.knows s (state_of s past) w) (λ c. cause_by (word_told past s.number w.number c) (standing_of s (state_of s past) w c) (heard_of w c)) (ClosedWith past s.number w.number) (says_closed w m) cs);
          }

      settled : (x : Ending s past e j (Refused (refusals.Lacking proof reasons))) → DropSettled (turn_at s past e x.by) past (refusals.Lacking proof reasons) → ⊥
      settled x (inl z) = z.1
      settled x (inr (inl z)) = let no' : Refused (refusals.Lacking proof reasons) ≡ DropStep.denial_outcome (turn_at s past e x.by) = z.1 in cc
      settled x (inr (inr z)) = apart (DropStep.first_end (turn_at s past e x.by)) _ z.2
        where
          apart : (o : Option ℕ) (c : ℕ) → Refused (refusals.Lacking proof reasons) ≡ DropStep.expiry c o → ⊥
          apart None c e = cc
          apart (Some m) c e = cc
