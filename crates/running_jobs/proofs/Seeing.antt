-- What a look may find of the part that a step asks for.
use Rattle.std.proofs.Common.{◌≡◌, ◌↔◌, ℕ, Bool, true, false, List, length, Option, Some, None, refl, sym, ap, subst, ◌∙◌, true≢false}
use Rattle.std.specs.Prelude.{◌==◌}
use Rattle.std.proofs.lemmas.Option.{same_Some}
use Rattle.annex_base.proofs.Lists.{Each-member, find_member}
use Rattle.annex_base.proofs.Options.{none_and_some}
use Rattle.run_data.specs.declared.entry.FrameView.{FrameView}
use Rattle.key_verify.specs.declared.digester.Sum.{Sum}
use Rattle.key_verify.specs.declared.verdict.Verdict.{Verdict}
use Rattle.key_verify.specs.declared.verdict.Verdict.TheVariants.{Right, WrongSize, WrongDigest}
use Rattle.key_verify.specs.Matching.{MatchesKey, verdict_of}
use Rattle.key_verify.specs.Sums.{sum_of}
use Rattle.link_ring.specs.Ends.{EndView}
use Rattle.object_store.specs.Stores.{Parts}
use Rattle.p2p_wire.specs.declared.message.Message.TheVariants.{Valid}
use Rattle.session_state.specs.declared.incoming.Incoming.{Incoming}
use Rattle.session_state.specs.declared.incoming.Incoming.TheVariants as incoming
use Rattle.session_state.specs.Talking.{IsSumOf}
use Rattle.node_tasks.specs.Waiting.{taken_by}
use Rattle.get_phases.specs.declared.getting.Phase.{Phase}
use Rattle.get_phases.specs.declared.getting.Phase.TheVariants as phases
use Rattle.get_phases.specs.Gets as gets
use Rattle.node_tasks.specs.Worker.{Worker}
use Rattle.node_tasks.specs.Worker.TheVariants.{Gets, Puts}
use Rattle.node_tasks.specs.Workers.{IsFed, SeesPart}
use Rattle.node_tasks.specs.declared.task.Task.{Task}
use Rattle.node_tasks.specs.declared.task.Task.TheVariants as tasks
use Rattle.node_tasks.specs.Tasks.{IsFedTask, number_of}
use Rattle.running_jobs.specs.declared.acted.Acted.{Acted}
use Rattle.running_jobs.specs.Acting.{HasPart, SeesPartAt}
use Rattle.running_jobs.specs.Running.{AreAllFed, Jobs, job_at}
use Rattle.running_jobs.proofs.Transfers.{as_job}

-- ---- the verdict

is_right : Verdict → Bool
is_right Right = true
is_right (WrongSize want got) = false
is_right (WrongDigest want got) = false

right_only : (v : Verdict) → is_right v ≡ true → v ≡ Right
unfolding is_right
right_only Right e = refl
right_only (WrongSize want got) e = absurd (true≢false (sym e))
right_only (WrongDigest want got) e = absurd (true≢false (sym e))

right_is : (v : Verdict) → v ≡ Right → is_right v ≡ true
unfolding is_right
right_is v e = ap is_right e

-- the law of `verdicts_are_matches`
abbrev pub VerdictsMatch : Type 0
VerdictsMatch = (key bytes : List ℕ) → (verdict_of key (sum_of key bytes) ≡ Right) ↔ MatchesKey key bytes

abbrev right_in : Option Sum → List ℕ → Bool
right_in None key = false
right_in (Some sum) key = is_right (verdict_of key sum)

right_told : VerdictsMatch → (o : Option Sum) (key bytes : List ℕ) → IsSumOf o key bytes → (right_in o key ≡ true) ↔ MatchesKey key bytes
right_told law None key bytes is = absurd is
right_told law (Some sum) key bytes is = (
  λ e. (law key bytes).0 (ap (verdict_of key) (sym is) ∙ right_only (verdict_of key sum) e),
  λ m. right_is (verdict_of key sum) (ap (verdict_of key) is ∙ (law key bytes).1 m),
)

-- ---- what a look may find

abbrev right_at : Phase → Bool
right_at (phases.Word peer start taken) = right_in taken.sum taken.fill
right_at phase = false

get_sees : VerdictsMatch → (q : Parts) (key : List ℕ) (phase : Phase) (i : Option Incoming) → gets.IsFed q phase → gets.SeesPart (Some q) key phase i (length (q key)) (right_at phase)
get_sees law q key (phases.Word peer start taken) (Some (incoming.Message Valid)) fed = (fed, right_told law taken.sum taken.fill (q taken.fill) fed.1)
get_sees law q key phase i fed = refl

abbrev part_in : Parts → Worker → ℕ
part_in q (Gets w) = length (q w.job.key)
part_in q (Puts w) = 0

abbrev right_by : Worker → Bool
right_by (Gets w) = right_at w.phase
right_by (Puts w) = false

abbrev part_of : Parts → Task → ℕ
part_of q (tasks.Transfers w) = part_in q w.worker
part_of q (tasks.Drops j) = 0

abbrev right_of : Task → Bool
right_of (tasks.Transfers w) = right_by w.worker
right_of (tasks.Drops j) = false

transfer_sees : VerdictsMatch → (q : Parts) (v : Worker) (i : Option Incoming) → IsFed q (as_job v) → SeesPart (Some q) (as_job v) i (part_in q v) (right_by v)
transfer_sees law q (Puts w) i fed = tt
transfer_sees law q (Gets w) i fed = get_sees law q w.job.key w.phase i fed

task_sees : VerdictsMatch → (q : Parts) (t : Task) (f : Option FrameView) → IsFedTask q t → SeesPartAt (Some q) t f (part_of q t) (right_of t)
task_sees law q (tasks.Drops j) f fed = tt
task_sees law q (tasks.Transfers w) None fed = transfer_sees law q w.worker None fed
task_sees law q (tasks.Transfers w) (Some f) fed = λ i brings. transfer_sees law q w.worker (Some i) fed

pub has_part : VerdictsMatch → (q : Parts) (jobs : Jobs) (links : List EndView) (a : Acted) → AreAllFed q jobs.running → HasPart (Some q) jobs links a
has_part law q jobs links a fed = go (job_at jobs.running a.job) refl
  where
    go : (o : Option Task) → job_at jobs.running a.job ≡ o → HasPart (Some q) jobs links a
    go None none = record { part = 0; right = false; asked = λ t e. absurd (none_and_some (job_at jobs.running a.job) t none e) }
    go (Some t) some = record {
      part = part_of q t;
      right = right_of t;
      asked = λ u e. subst (λ (v : Task). SeesPartAt (Some q) v (taken_by links a.slot a.takes) (part_of q t) (right_of t)) (same_Some t u (sym some ∙ e))
          (task_sees law q t (taken_by links a.slot a.takes) (Each-member (IsFedTask q) jobs.running t fed (find_member (λ x. number_of x == a.job) jobs.running t some).0));
    }
