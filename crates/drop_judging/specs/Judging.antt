-- What a worker knows, by what it reads; for the crates of drops (own).
use Rattle.std.specs.Prelude.{ℕ, ◌+◌, ◌&&◌, Bool, List, [], ◌∷◌, Option, Some, None}
use Rattle.std.specs.List.{range_with_len}
use Rattle.drop_proof.specs.declared.evidence.Evidence.{Evidence}
use Rattle.drop_proof.specs.declared.evidence.Kind.{Kind}
use Rattle.drop_proof.specs.declared.rule.Side.{Side}
use Rattle.node_model.specs.Evidence.{Offer, Gives, Fails, but, gather, is_locked, is_recent, is_trusted, reached_candidates}
use Rattle.node_model.specs.Knows.{Reading, cause_by, is_unasked, offer_by}
use Rattle.drop_proof.specs.declared.evidence.Kind.TheVariants.{Locked, Recent}
use Rattle.node_model.specs.Look.{Effect}
use Rattle.node_model.specs.Ends.{End, EndName}
use Rattle.node_model.specs.JobStep.{Turn, ends, is_held, locked_peers}
use Rattle.node_model.specs.DropStep.{lacking_outcome}
use Rattle.run_data.specs.declared.job.Outcome.TheVariants.{Refused}
use Rattle.run_data.specs.declared.job.DropRefusal.TheVariants as refusals
use Rattle.run_data.specs.declared.job.Cause.{Cause}
use Rattle.run_data.specs.declared.job.Cause.TheVariants as causes
use Rattle.annex_base.specs.declared.kinds.Word.TheVariants as words
use Rattle.node_model.specs.Requests.{goes_to}
use Rattle.drop_phases.specs.Doing.{removes_now}
use Rattle.drop_judging.specs.declared.evidence.Sort.{Sort}
use Rattle.drop_judging.specs.declared.evidence.Sort.TheVariants as sorts
use Rattle.drop_judging.specs.declared.judging.Verdict.{Verdict}
use Rattle.drop_judging.specs.declared.judging.Verdict.TheVariants as verdicts
use Rattle.drop_phases.specs.declared.phase.Heard.{Heard}
use Rattle.drop_phases.specs.declared.phase.Heard.TheVariants as heards
use Rattle.drop_phases.specs.Worker.{Worker}
use Rattle.drop_phases.specs.Working.{end_in, heard_in, newest_of, word_in}

abbrev pub offer_as : Option Kind → Offer
offer_as (Some kind) = Gives kind
offer_as None = Fails

abbrev pub offer_of : Reading → Worker → ℕ → Offer
offer_of r w c = offer_by r.clock (r.standing c) (heard_in w.heard c)

abbrev pub asks_of : Reading → Worker → ℕ → Bool
asks_of r w c = is_unasked (r.standing c) (heard_in w.heard c)

-- the other repositories, which are the candidates of a local drop
abbrev pub others_in : Reading → List ℕ
others_in r = but r.repo (range_with_len 0 r.count)

-- the evidence of these candidates, up to the first that is to be asked, behind these items
abbrev pub evidence_of : Side → Reading → Worker → List ℕ → List Evidence → List Evidence
evidence_of side r w cs items = gather side r.need (offer_of r w) (reached_candidates (asks_of r w) cs) items

-- what was heard gives
abbrev pub offer_heard : (ℕ → ℕ) → Option Heard → Offer
offer_heard clock (Some (heards.Held since)) = Gives (Locked (clock since + 600000))
offer_heard clock (Some heards.Seen) = Gives Recent
offer_heard clock _ = Fails

-- the step of a local drop by its judgement
abbrev pub step_by : Verdict → Turn → Effect
step_by (verdicts.Asks peer) t = goes_to t peer
step_by verdicts.Removes t = removes_now t
step_by (verdicts.Late end clock) t = ends t None (Refused (refusals.Expired end clock))
step_by verdicts.Lacks t = ends t None (lacking_outcome t)

-- the peers to which that step may send more than a Close
abbrev pub needs_by : Verdict → Turn → List ℕ
needs_by (verdicts.Asks peer) t = peer ∷ []
needs_by verdicts.Removes t = []
needs_by (verdicts.Late end clock) t = locked_peers t
needs_by verdicts.Lacks t = locked_peers t

-- the peer gave a lock, and the connection with it is open
abbrev pub is_owing : (EndName → End) → Worker → ℕ → Bool
is_owing ends w peer = is_held (heard_in w.heard peer) && (ends (end_in w.slot peer)).opened

-- ---- what an end states

abbrev pub test_of : Sort → Kind → Bool
test_of sorts.Locked = is_locked
test_of sorts.Trusted = is_trusted
test_of sorts.Recent = is_recent

-- why a candidate gave nothing, by what was heard of it
abbrev pub cause_told : Option Heard → Cause
cause_told (Some (heards.Lacks cause)) = cause
cause_told (Some (heards.Unseen (Some words.Absent))) = causes.Absent
cause_told (Some (heards.Unseen (Some words.Barred))) = causes.Barred
cause_told _ = causes.Fault

abbrev pub cause_at : Reading → Worker → ℕ → Cause
cause_at r w c = cause_by (word_in (newest_of w.heard c)) (r.standing c) (heard_in w.heard c)
