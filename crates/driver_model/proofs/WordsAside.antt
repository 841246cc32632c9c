-- A step doesn't change with the words that no job reads as it ends.
use Rattle.std.proofs.Common.{◌≡◌, ℕ, Bool, true, false, List, [], ◌∷◌, Option, Some, None, ◌⊎◌, inl, inr, refl, sym, ap, ◌∙◌, subst}
use Rattle.std.specs.Prelude.{◌++◌, if◌then◌else◌, ◌&&◌, ◌==◌, cond, find, not}
use Rattle.std.specs.List.{list_all}
use Rattle.std.specs.Option.{option_or}
use Rattle.annex_base.specs.Lists.{Member}
use Rattle.annex_base.specs.declared.kinds.Call.{Call}
use Rattle.annex_base.specs.declared.kinds.Word.{Word}
use Rattle.annex_base.proofs.Lists.{find_member}
use Rattle.drop_proof.specs.declared.evidence.Kind.{Kind}
use Rattle.drop_proof.specs.declared.rule.Side.{Side}
use Rattle.drop_proof.specs.declared.rule.Side.TheVariants.{Local, Remote}
use Rattle.run_data.specs.declared.entry.EntryKind.TheVariants.{Fault, End as ends_job}
use Rattle.run_data.specs.declared.entry.FrameView.{FrameView}
use Rattle.run_data.specs.declared.job.CandidateCause.{CandidateCause}
use Rattle.run_data.specs.declared.job.DropRefusal.TheVariants as refusals
use Rattle.run_data.specs.declared.job.Outcome.{Outcome}
use Rattle.run_data.specs.declared.job.Outcome.TheVariants.{Refused}
use Rattle.node_model.specs.Calls.{to_release}
use Rattle.node_model.specs.DropStep.{denial_outcome, lacking_outcome, removal_outcome, target}
use Rattle.node_model.specs.Evidence.{Asked, Claimed, Ignored, Standing, failures, pick}
use Rattle.node_model.specs.Jobs.{Denied, Drops, Fresh, Gets, Heard, Held, Lacks, Next, Part, Phase, Puts, PutsBytes, PutsWord, Removed, Seen, Unseen, Work, heard_of, job_end, partner, side_of, target_of}
use Rattle.node_model.specs.JobStep.{Turn, attempts, by_me, end_with, ends, farewells, owns_share, quietly, turn_of}
use Rattle.node_model.specs.Knows.{Reading, asks_by, candidates_by, cause_by, causes_by, denial_of, enough_by, is_unasked, knows_by, next_by, obeyed_outcome, offer_by, proof_by}
use Rattle.node_model.specs.Look.{Look, Effect, failing_call, unless, waiting_frame}
use Rattle.node_model.specs.OwedStep.{owed_step}
use Rattle.node_model.specs.Rows.{is_lost_ordered}
use Rattle.node_model.specs.SessionStep.{session_step}
use Rattle.node_model.specs.SetUp.{SetUp, slots}
use Rattle.node_model.specs.State.{State}
use Rattle.node_model.specs.Step.{step}
use Rattle.node_model.specs.Turns.{awaits, by_partner, goes, goes_on, has_room, is_awaiting, job_step, judges, needs, next_step, slot_step, takes_frame, with_partner}
use Rattle.driver_model.specs.WordsRead.{AgreeWhereRead, ReadsWord, is_answered}
use Rattle.driver_model.proofs.Alike.{Alike, alike_same, first_alike, list_alike, some_alike}
use Rattle.driver_model.proofs.Needed.{needed, removed_found}

-- ---- the causes that a drop states

module _ (r : Reading) (w : Work) (w0 w1 : ℕ → Option Word) (agree : (c : ℕ) → heard_of w c ≡ Some Unseen → w0 c ≡ w1 c) where
  abbrev failures_with : (ℕ → Option Word) → List ℕ → List CandidateCause
  failures_with words cs = failures (knows_by r w) (λ c. cause_by (words c) (r.standing c) (heard_of w c)) cs

  failures_same : (cs : List ℕ) → find (asks_by r w) cs ≡ None → failures_with w0 cs ≡ failures_with w1 cs
  failures_same [] none = refl
  failures_same (c ∷ cs) none = go (λ n. failures_same cs n) (asks_by r w c) refl none
    where
      one : failures_with w0 cs ≡ failures_with w1 cs → (standing : Standing) (heard : Option Heard) → heard_of w c ≡ heard → is_unasked standing heard ≡ false
          → pick (offer_by r.clock standing heard) (λ (kind : Kind). failures_with w0 cs) (record { repo = c; cause = cause_by (w0 c) standing heard } ∷ failures_with w0 cs)
          ≡ pick (offer_by r.clock standing heard) (λ (kind : Kind). failures_with w1 cs) (record { repo = c; cause = cause_by (w1 c) standing heard } ∷ failures_with w1 cs)
      one more Claimed heard h asked = more
      one more (Ignored cause) heard h asked = ap (λ (xs : List CandidateCause). record { repo = c; cause = cause } ∷ xs) more
      one more Asked None h asked = absurd (cc)
      one more Asked (Some (Held since)) h asked = more
      one more Asked (Some Seen) h asked = more
      one more Asked (Some Unseen) h asked =
          ap (λ (xs : List CandidateCause). record { repo = c; cause = cause_by (w0 c) Asked (Some Unseen) } ∷ xs) more
          ∙ ap (λ (word : Option Word). record { repo = c; cause = cause_by word Asked (Some Unseen) } ∷ failures_with w1 cs) (agree c h)
      one more Asked (Some (Lacks cause)) h asked = ap (λ (xs : List CandidateCause). record { repo = c; cause = cause } ∷ xs) more

      go : (find (asks_by r w) cs ≡ None → failures_with w0 cs ≡ failures_with w1 cs) → (b : Bool) → asks_by r w c ≡ b → cond b (Some c) (find (asks_by r w) cs) ≡ None
          → pick (knows_by r w c) (λ (kind : Kind). failures_with w0 cs) (record { repo = c; cause = cause_by (w0 c) (r.standing c) (heard_of w c) } ∷ failures_with w0 cs)
          ≡ pick (knows_by r w c) (λ (kind : Kind). failures_with w1 cs) (record { repo = c; cause = cause_by (w1 c) (r.standing c) (heard_of w c) } ∷ failures_with w1 cs)
      go more true i n = absurd (cc)
      go more false i n = one (more n) (r.standing c) (heard_of w c) refl i

  causes_same : next_by r w ≡ None → causes_by r w0 w ≡ causes_by r w1 w
  causes_same none = failures_same (candidates_by r w) none

-- ---- what is made

-- the entry ends the job
abbrev EndsIt : Work → Effect → Type 0
EndsIt w m = (outcome : Outcome) × (m.kind ≡ ends_job w.number outcome)

-- the one entry is the other; or both end a job of the state, and are the same where its words are
abbrev pub Told : State → (Work → Type 0) → Effect → Effect → Type 0
Told st agree m m' = (m ≡ m') ⊎ ((w : Work) × Member w st.works × EndsIt w m × EndsIt w m' × (agree w → m ≡ m'))

module _ (s : SetUp) (st : State) (k : Look) (others : ℕ → Option Word) where
  abbrev k1 : Look
  k1 = record k { words = others }

  -- the words are the same that the job's end reads
  abbrev Agree : Work → Type 0
  Agree w = (c : ℕ) → ReadsWord s.number w c → k.words c ≡ others c

  abbrev T : Effect → Effect → Type 0
  T m m' = Told st Agree m m'

  module _ (w : Work) (there : Member w st.works) where
    abbrev t0 : Turn
    t0 = turn_of s st k w

    abbrev t1 : Turn
    t1 = turn_of s st k1 w

    -- an end whose outcome says of no lost order
    abbrev quiet_end : Turn → Bool → Outcome → Effect
    quiet_end t lost outcome = attempts t (to_release (owns_share t && not lost)) None (record { kind = ends_job t.w.number outcome; taken = None; sent = farewells t lost; lines = []; calls = [] })

    quiet_told : (o0 o1 : Outcome) → (Agree w → o0 ≡ o1) → T (quiet_end t0 false o0) (quiet_end t1 false o1)
    quiet_told o0 o1 same = go (failing_call k.fails (to_release (owns_share t0 && true)))
      where
        fault : Call → Effect
        fault call = quietly (Fault call (by_me t0)) None

        done : Outcome → Effect
        done o = record { kind = ends_job w.number o; taken = None; sent = farewells t0 false; lines = []; calls = [] }

        all : Effect → Effect
        all m = record m { calls = to_release (owns_share t0 && true) ++ [] }

        go : (c : Option Call) → T (all (unless c fault (done o0))) (all (unless c fault (done o1)))
        go (Some call) = inl refl
        go None = inr (w, there, (o0, refl), (o1, refl), λ a. ap (λ o. all (done o)) (same a))

    ends_told : (o0 o1 : Outcome) → is_lost_ordered o0 ≡ false → is_lost_ordered o1 ≡ false → (Agree w → o0 ≡ o1) → T (ends t0 None o0) (ends t1 None o1)
    ends_told o0 o1 e0 e1 same =
        subst (λ (b : Bool). T (quiet_end t0 b o0) (ends t1 None o1)) (sym e0) (subst (λ (b : Bool). T (quiet_end t0 false o0) (quiet_end t1 b o1)) (sym e1) (quiet_told o0 o1 same))

    lacking_same : next_by t0.read w ≡ None → Agree w → lacking_outcome t0 ≡ lacking_outcome t1
    lacking_same none a = ap (λ cs. Refused (refusals.Lacking (proof_by t0.read w) cs)) (causes_same t0.read w k.words others (λ c h. a c (inl h)) none)

    judges_told : (enough : Bool) (next : Option ℕ) → next_by t0.read w ≡ next → (side : Side) → T (judges t0 enough next side) (judges t1 enough next side)
    judges_told false (Some peer) none side = inl refl
    judges_told false None none side = ends_told (lacking_outcome t0) (lacking_outcome t1) refl refl (lacking_same none)
    judges_told true next none Local = inl refl
    judges_told true next none Remote = inl refl

    next_told : (part : Part) → T (next_step t0 part) (next_step t1 part)
    next_told Drops = judges_told (enough_by t0.read w) (next_by t0.read w) refl (side_of w)
    next_told Gets = inl refl
    next_told Puts = inl refl

    -- its target's word is read
    target_agrees : (side : Side) (phase : Phase) → side_of w ≡ side → w.phase ≡ phase → is_answered side phase ≡ true → Agree w → k.words (target t0) ≡ others (target t0)
    target_agrees side phase i j is a = a (target_of s.number w) (inr (ap (λ (x : Side). is_answered x w.phase) i ∙ ap (is_answered side) j ∙ is, refl))

    removed_told : (side : Side) → side_of w ≡ side → w.phase ≡ Removed → T (ends t0 None (removal_outcome side t0)) (ends t1 None (removal_outcome side t1))
    removed_told Local i j = inl refl
    removed_told Remote i j = ends_told (removal_outcome Remote t0) (removal_outcome Remote t1) (removed_found t0 Remote) (removed_found t1 Remote)
        (λ a. ap (λ (word : Option Word). obeyed_outcome word (proof_by t0.read w)) (target_agrees Remote Removed i j refl a))

    denied_is : (side : Side) → is_answered side Denied ≡ true
    denied_is Local = refl
    denied_is Remote = refl

    goes_told : (phase : Phase) → w.phase ≡ phase → T (goes t0 phase) (goes t1 phase)
    goes_told Fresh j = inl refl
    goes_told Next j = next_told w.part
    goes_told (PutsBytes peer start at left) j = inl refl
    goes_told (PutsWord peer start) j = inl refl
    goes_told Removed j = removed_told (side_of w) refl j
    goes_told Denied j = ends_told (denial_outcome t0) (denial_outcome t1) refl refl
        (λ a. ap (λ (word : Option Word). Refused (refusals.Denied (denial_of word))) (target_agrees (side_of w) Denied refl j (denied_is (side_of w)) a))
    goes_told phase j = inl refl

    goes_on-told : Alike T (goes_on t0) (goes_on t1)
    goes_on-told = subst (λ ps. Alike T (if list_all (has_room t0) (needs t0 w.phase) then Some (goes t0 w.phase) else None) (if list_all (has_room t0) ps then Some (goes t1 w.phase) else None)) (needed s st k k.fails k.part k.right others w w.phase)
        (some_alike T (list_all (has_room t0) (needs t0 w.phase)) (goes t0 w.phase) (goes t1 w.phase) (goes_told w.phase refl))

    awaits_told : (peer : ℕ) (o : Option FrameView) → Alike T (awaits t0 peer o) (awaits t1 peer o)
    awaits_told peer None = tt
    awaits_told peer (Some f) = some_alike T (has_room t0 peer) (takes_frame t0 peer f f.body) (takes_frame t1 peer f f.body) (inl refl)

    with_told : (peer : ℕ) (opened : Bool) → Alike T (with_partner t0 peer opened) (with_partner t1 peer opened)
    with_told peer false = inl refl
    with_told peer true = go (is_awaiting w.phase)
      where
        go : (b : Bool) → Alike T (if b then awaits t0 peer (waiting_frame (end_with t0 peer) k (job_end w peer)) else goes_on t0) (if b then awaits t1 peer (waiting_frame (end_with t1 peer) k1 (job_end w peer)) else goes_on t1)
        go true = awaits_told peer (waiting_frame (end_with t0 peer) k (job_end w peer))
        go false = goes_on-told

    by_told : (o : Option ℕ) → Alike T (by_partner t0 o) (by_partner t1 o)
    by_told None = goes_on-told
    by_told (Some peer) = with_told peer (end_with t0 peer).opened

  slot_told : (slot : ℕ) (o : Option Work) → find (λ (w : Work). w.slot == slot) st.works ≡ o → Alike T (slot_step s st k o) (slot_step s st k1 o)
  slot_told slot None e = tt
  slot_told slot (Some w) e = by_told w (find_member (λ (w : Work). w.slot == slot) st.works w e).0 (partner w.what.peer w.phase)

  pub step_told : Alike T (step s st k) (step s st k1)
  step_told = first_alike T (owed_step s st k) (owed_step s st k1) (option_or (session_step s st k) (job_step s st k)) (option_or (session_step s st k1) (job_step s st k1))
      (alike_same T (λ m. inl refl) (owed_step s st k) (owed_step s st k1) refl)
      (first_alike T (session_step s st k) (session_step s st k1) (job_step s st k) (job_step s st k1)
      (alike_same T (λ m. inl refl) (session_step s st k) (session_step s st k1) refl)
      (list_alike T (λ slot. slot_step s st k (find (λ w. w.slot == slot) st.works)) (λ slot. slot_step s st k1 (find (λ w. w.slot == slot) st.works))
      (λ slot. slot_told slot (find (λ w. w.slot == slot) st.works) refl) slots))

-- the step is the same where the words are that it reads
pub words_aside : (s : SetUp) (st : State) (k : Look) (others : ℕ → Option Word) → ((m : Effect) → step s st k ≡ Some m → AgreeWhereRead s st m k.words others)
    → step s st k ≡ step s st (record k { words = others })
words_aside s st k others agree = go (step s st k) refl (step s st (record k { words = others })) (step_told s st k others)
  where
    go : (o : Option Effect) → step s st k ≡ o → (p : Option Effect) → Alike (Told st (λ w. (c : ℕ) → ReadsWord s.number w c → k.words c ≡ others c)) o p → o ≡ p
    go None e None a = refl
    go (Some m) e (Some m') (inl a) = ap Some a
    go (Some m) e (Some m') (inr x) = ap Some (x.4 (λ c reads. agree m e x.0 x.2.0 x.1 x.2.1 c reads))
    go None e (Some m') a = absurd a
    go (Some m) e None a = absurd a
