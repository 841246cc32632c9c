-- What the end of a remote drop states.
use Rattle.std.proofs.Common.{◌≡◌, ℕ, Bool, true, false, not, List, [], ◌∷◌, Option, Result, Ok, Err, refl, sym, ap, ◌∙◌}
use Rattle.std.specs.Prelude.{IfOk, ◌==◌, if◌then◌else◌}
use Rattle.std.specs.List.{range_with_len}
use Rattle.annex_base.specs.declared.kinds.Call.{Call}
use Rattle.drop_proof.specs.declared.evidence.Evidence.{Evidence}
use Rattle.drop_proof.specs.declared.rule.Side.TheVariants.{Remote}
use Rattle.run_data.specs.declared.job.Cause.{Cause}
use Rattle.run_data.specs.declared.job.CandidateCause.{CandidateCause}
use Rattle.run_data.specs.declared.job.Outcome.{Outcome}
use Rattle.run_data.specs.declared.job.Outcome.TheVariants.{Refused}
use Rattle.run_data.specs.declared.job.DropRefusal.TheVariants as refusals
use Rattle.run_data.specs.declared.job.Proof.{Proof}
use Rattle.node_model.specs.Evidence.{Offer, but, candidates, failures, pick, proof_of}
use Rattle.node_model.specs.Jobs.{target_of}
use Rattle.node_model.specs.JobStep.{Turn}
use Rattle.node_model.specs.DropStep.{expiry, lacking_outcome, removal_outcome}
use Rattle.node_model.specs.Ends.{End, EndName}
use Rattle.node_model.specs.Knows.{Reading, cause_by, denial_of, obeyed_outcome, proof_by}
use Rattle.node_model.specs.Turns.{outcome_of}
use Rattle.annex_base.specs.declared.memory.NoMemory.{NoMemory}
use Rattle.annex_base.proofs.Conditions.{eqb_refl, eqb_turned}
use Rattle.drop_proof.specs.Judging.{least_end}
use Rattle.content_lock.specs.Rows.{Rows}
use Rattle.drop_phases.specs.declared.phase.Ending.{Ending}
use Rattle.drop_phases.specs.declared.phase.Phase.{Phase}
use Rattle.drop_phases.specs.declared.phase.Phase.TheVariants as phases
use Rattle.drop_phases.specs.Worker.{Worker}
use Rattle.drop_phases.specs.Working.{Rest, Sight, heard_in, is_target, newest_of, outcome_as, phase_as, sight, turn_in, word_in, words_of, work_of}
use Rattle.drop_judging.specs.Judging.{cause_at, offer_of}
use Rattle.remote_requests.specs.Remote.{IsRemote, known_remotely, remote_candidates}
use Rattle.remote_requests.proofs.Losing.{target_is}
use Rattle.remote_requests.proofs.RemoteVerdicts.{end_is, known_is}

-- causes that differ at the target alone
failures_but : (ask : ℕ → Offer) (f g : ℕ → Cause) (target : ℕ) → ((c : ℕ) → (target == c) ≡ false → f c ≡ g c) → (xs : List ℕ) → failures ask f (but target xs) ≡ failures ask g (but target xs)
failures_but ask f g target same [] = refl
failures_but ask f g target same (c ∷ cs) = go (c == target) refl (failures_but ask f g target same cs)
  where
    go : (b : Bool) → (c == target) ≡ b → failures ask f (but target cs) ≡ failures ask g (but target cs)
        → failures ask f (if not b then c ∷ but target cs else but target cs) ≡ failures ask g (if not b then c ∷ but target cs else but target cs)
    go true e rest = rest
    go false e rest = λ i. pick (ask c) (λ kind. rest i) (record { repo = c; cause = same c (eqb_turned c target e) i } ∷ rest i)

module _ (x : Sight) (rows : Rows) (p : List ℕ → Bool) (fails : Option Call) (rest : Rest) (w : Worker) (items : List Evidence) (target : ℕ) (remote : IsRemote target w)
    (is : items ≡ known_remotely x.read target w) (proof : Proof) (proves : proof ≡ proof_of x.read.count x.read.need items) where
  abbrev turn : Turn
  turn = turn_in x rows p fails rest w

  at : target ≡ target_of x.read.repo (work_of rest w)
  at = sym (target_is rest w target x.read.repo remote)

  pub proof_is : proof ≡ proof_by x.read (work_of rest w)
  proof_is = proves ∙ ap (proof_of x.read.count x.read.need) (known_is x rows p fails rest w x.read.need items target remote refl is)

  -- the words that it was told of the others
  other_words : (c : ℕ) → (target == c) ≡ false → word_in (newest_of w.heard c) ≡ words_of w c
  other_words c e =
      sym ((λ i. if is_target (remote.side i) (remote.peer i) c then w.word else word_in (newest_of w.heard c)) ∙ ap (λ (b : Bool). if b then w.word else word_in (newest_of w.heard c)) e)

  abbrev told_cause : ℕ → Cause
  told_cause c = cause_by (words_of w c) (x.read.standing c) (heard_in w.heard c)

  same_cause : (c : ℕ) → (target == c) ≡ false → cause_at x.read w c ≡ told_cause c
  same_cause c e = ap (λ o. cause_by o (x.read.standing c) (heard_in w.heard c)) (other_words c e)

  all_same : (target == x.read.repo) ≡ false → failures (offer_of x.read w) (cause_at x.read w) (remote_candidates x.read target) ≡ failures (offer_of x.read w) told_cause (remote_candidates x.read target)
  all_same apart = λ i. pick (offer_of x.read w x.read.repo)
      (λ kind. failures_but (offer_of x.read w) (cause_at x.read w) told_cause target same_cause (but x.read.repo (range_with_len 0 x.read.count)) i)
      (record { repo = x.read.repo; cause = same_cause x.read.repo apart i } ∷ failures_but (offer_of x.read w) (cause_at x.read w) told_cause target same_cause (but x.read.repo (range_with_len 0 x.read.count)) i)

  pub lacks_remotely : (target == x.read.repo) ≡ false → (causes : List CandidateCause) → causes ≡ failures (offer_of x.read w) (cause_at x.read w) (remote_candidates x.read target) → Refused (refusals.Lacking proof causes) ≡ lacking_outcome turn
  lacks_remotely apart causes told =
      (λ i. Refused (refusals.Lacking (proof_is i) ((told ∙ all_same apart) i)))
      ∙ (λ i. Refused (refusals.Lacking (proof_by x.read (work_of rest w)) (failures (offer_of x.read w) told_cause (candidates (sym remote.side i) x.read.count x.read.repo (at i)))))

  -- the word beside the target's answer to an order
  word_is : words_of w target ≡ w.word
  word_is = (λ i. if is_target (remote.side i) (remote.peer i) target then w.word else word_in (newest_of w.heard target)) ∙ ap (λ (b : Bool). if b then w.word else word_in (newest_of w.heard target)) (eqb_refl target)

  target_word : w.word ≡ words_of w (target_of x.read.repo (work_of rest w))
  target_word = sym word_is ∙ ap (words_of w) at

  pub obeyed_is : obeyed_outcome w.word proof ≡ removal_outcome Remote turn
  obeyed_is = λ i. obeyed_outcome (target_word i) (proof_is i)

-- ---- the outcome of a job that is to end

module _ (read : Reading) (ends_at : EndName → End) (w : Worker) (target : ℕ) (remote : IsRemote target w) where
  abbrev turned : ℕ → ℕ → Rows → (List ℕ → Bool) → Option Call → Rest → Turn
  turned time number rows p fails rest = turn_in (sight read ends_at time number) rows p fails rest w

  abbrev Ends : Outcome → Type 0
  Ends o = (time number : ℕ) (rows : Rows) (p : List ℕ → Bool) (fails : Option Call) (rest : Rest) → o ≡ outcome_of (turned time number rows p fails rest) (phase_as w.phase)

  pub ends_removed : w.phase ≡ phases.Removed → (r : Result Outcome NoMemory)
      → IfOk r (λ o. (time number : ℕ) (rows : Rows) (p : List ℕ → Bool) (fails : Option Call) (rest : Rest) → o ≡ removal_outcome Remote (turned time number rows p fails rest)) → IfOk r Ends
  ends_removed stands (Ok o) is = λ time number rows p fails rest.
      is time number rows p fails rest ∙ ((λ i. removal_outcome (sym remote.side i) (turned time number rows p fails rest))
      ∙ ap (λ (ph : Phase). outcome_of (turned time number rows p fails rest) (phase_as ph)) (sym stands))
  ends_removed stands (Err e) is = tt

  pub ends_late : (late : ℕ) → w.phase ≡ phases.Late late → (r : Result Outcome NoMemory) → IfOk r (λ o. o ≡ expiry (read.clock late) (least_end (known_remotely read target w))) → IfOk r Ends
  ends_late late stands (Ok o) is = λ time number rows p fails rest.
      is ∙ (ap (expiry (read.clock late)) (end_is (sight read ends_at time number) rows p fails rest w read.need (known_remotely read target w) target remote refl refl)
      ∙ ap (λ (ph : Phase). outcome_of (turned time number rows p fails rest) (phase_as ph)) (sym stands))
  ends_late late stands (Err e) is = tt

  pub ends_denied : w.phase ≡ phases.Denied → (o : Outcome) → o ≡ Refused (refusals.Denied (denial_of w.word)) → Ends o
  ends_denied stands o is = λ time number rows p fails rest.
      is ∙ ((λ i. Refused (refusals.Denied (denial_of (told rest i)))) ∙ ap (λ (ph : Phase). outcome_of (turned time number rows p fails rest) (phase_as ph)) (sym stands))
    where
      told : (rest : Rest) → w.word ≡ words_of w (target_of read.repo (work_of rest w))
      told rest = sym ((λ i. if is_target (remote.side i) (remote.peer i) target then w.word else word_in (newest_of w.heard target)) ∙ ap (λ (b : Bool). if b then w.word else word_in (newest_of w.heard target)) (eqb_refl target))
          ∙ ap (words_of w) (sym (target_is rest w target read.repo remote))

  pub ends_so : (why : Ending) → w.phase ≡ phases.Ends why → (o : Outcome) → o ≡ outcome_as why → Ends o
  ends_so why stands o is = λ time number rows p fails rest. is ∙ ap (λ (ph : Phase). outcome_of (turned time number rows p fails rest) (phase_as ph)) (sym stands)
