-- What the end of a local drop states.
use Rattle.std.proofs.Common.{◌⊎◌, inl, inr, ◌≡◌, ℕ, ◌+◌, Bool, true, false, List, [], ◌∷◌, ◌++◌, filter, Option, Some, None, refl, sym, ap, ◌∙◌}
use Rattle.std.specs.Prelude.{if◌then◌else◌, option_map}
use Rattle.std.specs.List.{range_with_len}
use Rattle.std.proofs.lemmas.List.{append-nil}
use Rattle.std.proofs.lemmas.List.Elements.{filter-append}
use Rattle.annex_base.specs.declared.kinds.Word.TheVariants as words
use Rattle.annex_base.specs.declared.kinds.Call.{Call}
use Rattle.annex_base.proofs.Numbers.{range_more}
use Rattle.drop_proof.specs.declared.evidence.Evidence.{Evidence}
use Rattle.drop_proof.specs.declared.rule.Side.{Side}
use Rattle.drop_proof.specs.declared.rule.Side.TheVariants.{Local}
use Rattle.run_data.specs.declared.job.CandidateCause.{CandidateCause}
use Rattle.run_data.specs.declared.job.Outcome.TheVariants.{Dropped, Refused}
use Rattle.run_data.specs.declared.job.DropRefusal.TheVariants as refusals
use Rattle.run_data.specs.declared.job.Proof.{Proof}
use Rattle.node_model.specs.Evidence as drops
use Rattle.node_model.specs.Evidence.{candidates, failures, gather, proof_of, reached_candidates}
use Rattle.node_model.specs.Jobs.{drop_side, target_of}
use Rattle.node_model.specs.JobStep.{Turn}
use Rattle.node_model.specs.DropStep.{lacking_outcome, removal_outcome}
use Rattle.node_model.specs.Knows.{Reading, candidates_by, cause_by, cause_heard, known_by, proof_by}
use Rattle.content_lock.specs.Rows.{Rows}
use Rattle.drop_phases.specs.declared.here.Standing.{Standing}
use Rattle.drop_phases.specs.declared.here.Standing.TheVariants as standings
use Rattle.drop_phases.specs.declared.phase.Heard.{Heard}
use Rattle.drop_phases.specs.declared.phase.Heard.TheVariants as heards
use Rattle.drop_phases.specs.Standings.{standing_of}
use Rattle.drop_phases.specs.Worker.{Worker}
use Rattle.drop_phases.specs.Working.{Rest, Sight, heard_as, heard_in, is_target, newest_of, turn_in, word_in, words_of, work_of}
use Rattle.drop_judging.specs.Judging.{asks_of, cause_at, cause_told, evidence_of, offer_of, others_in}
use Rattle.drop_phases.proofs.Heards.{heard_same}

-- ---- the repositories of a kind

pub chosen_yes : (p : ℕ → Bool) (n : ℕ) → p n ≡ true → filter p (range_with_len 0 (n + 1)) ≡ filter p (range_with_len 0 n) ++ n ∷ []
chosen_yes p n e =
    ap (filter p) (range_more n) ∙ filter-append p (range_with_len 0 n) (n ∷ []) ∙ ap (λ (b : Bool). filter p (range_with_len 0 n) ++ (if b then n ∷ [] else [])) e

pub chosen_no : (p : ℕ → Bool) (n : ℕ) → p n ≡ false → filter p (range_with_len 0 (n + 1)) ≡ filter p (range_with_len 0 n)
chosen_no p n e =
    ap (filter p) (range_more n) ∙ filter-append p (range_with_len 0 n) (n ∷ []) ∙ ap (λ (b : Bool). filter p (range_with_len 0 n) ++ (if b then n ∷ [] else [])) e
    ∙ append-nil (filter p (range_with_len 0 n))

-- ---- the causes

told : (h : Option Heard) → cause_told h ≡ cause_heard (word_in h) (option_map heard_as h)
told None = refl
told (Some (heards.Held since)) = refl
told (Some heards.Seen) = refl
told (Some (heards.Unseen None)) = refl
told (Some (heards.Unseen (Some words.Absent))) = refl
told (Some (heards.Unseen (Some words.Barred))) = refl
told (Some (heards.Unseen (Some words.Held))) = refl
told (Some (heards.Unseen (Some words.Late))) = refl
told (Some (heards.Unseen (Some words.Fault))) = refl
told (Some (heards.Lacks cause)) = refl

told_at : (w : Worker) (c : ℕ) → cause_told (newest_of w.heard c) ≡ cause_heard (word_in (newest_of w.heard c)) (heard_in w.heard c)
told_at w c = told (newest_of w.heard c) ∙ ap (cause_heard (word_in (newest_of w.heard c))) (sym (heard_same w.heard c))

pub cause_asked : (r : Reading) (w : Worker) (c : ℕ) → drops.Asked ≡ r.standing c → cause_told (newest_of w.heard c) ≡ cause_at r w c
cause_asked r w c s = rw (← s) (told_at w c)

pub cause_claimed : (r : Reading) (w : Worker) (c : ℕ) → drops.Claimed ≡ r.standing c → cause_told (newest_of w.heard c) ≡ cause_at r w c
cause_claimed r w c s = rw (← s) (told_at w c)

-- a repository that isn't ignored
pub cause_open : (r : Reading) (w : Worker) (c : ℕ) (s : Standing) → (s ≡ standings.Claimed) ⊎ (s ≡ standings.Asked) → standing_of s ≡ r.standing c → cause_told (newest_of w.heard c) ≡ cause_at r w c
cause_open r w c s (inl e) is = cause_claimed r w c (sym (ap standing_of e) ∙ is)
cause_open r w c s (inr e) is = cause_asked r w c (sym (ap standing_of e) ∙ is)

-- ---- the outcomes

module _ (x : Sight) (rows : Rows) (p : List ℕ → Bool) (fails : Option Call) (rest : Rest) (w : Worker) (items : List Evidence) (local : drop_side w.job.kind w.job.peer ≡ Local)
    (is : items ≡ evidence_of Local x.read w (others_in x.read) []) (proof : Proof) (proves : proof ≡ proof_of x.read.count x.read.need items) where
  abbrev turn : Turn
  turn = turn_in x rows p fails rest w

  known : items ≡ known_by x.read (work_of rest w)
  known =
      is ∙ (λ i. gather (sym local i) x.read.need (offer_of x.read w) (reached_candidates (asks_of x.read w) (candidates (sym local i) x.read.count x.read.repo (target_of x.read.repo (work_of rest w)))) [])

  proof_is : proof ≡ proof_by x.read (work_of rest w)
  proof_is = proves ∙ ap (proof_of x.read.count x.read.need) known

  pub dropped_is : Dropped proof ≡ removal_outcome (drop_side w.job.kind w.job.peer) turn
  dropped_is = (λ i. Dropped (proof_is i)) ∙ sym (ap (λ (side : Side). removal_outcome side turn) local)

  -- a local drop has no target that answers an order
  local_words : (c : ℕ) → word_in (newest_of w.heard c) ≡ words_of w c
  local_words c = sym (λ i. if is_target (local i) w.job.peer c then w.word else word_in (newest_of w.heard c))

  pub lacks_is : (causes : List CandidateCause) → causes ≡ failures (offer_of x.read w) (cause_at x.read w) (others_in x.read) → Refused (refusals.Lacking proof causes) ≡ lacking_outcome turn
  lacks_is causes told =
      (λ i. Refused (refusals.Lacking (proof_is i) (told i)))
      ∙ (λ i. Refused (refusals.Lacking (proof_by x.read (work_of rest w)) (failures (offer_of x.read w) (cause_at x.read w) (candidates (sym local i) x.read.count x.read.repo (target_of x.read.repo (work_of rest w))))))
      ∙ (λ i. Refused (refusals.Lacking (proof_by x.read (work_of rest w)) (failures (offer_of x.read w) (λ c. cause_by (local_words c i) (x.read.standing c) (heard_in w.heard c)) (candidates_by x.read (work_of rest w)))))
