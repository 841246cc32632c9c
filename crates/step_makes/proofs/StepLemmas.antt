-- The steps of a job by its part and its phase.
use Rattle.std.proofs.Common.{◌≡◌, ◌≢◌, ℕ, List, None, refl, sym, subst}
use Rattle.run_data.specs.declared.entry.FrameView.{FrameView}
use Rattle.run_data.specs.declared.job.Outcome.TheVariants.{TransferRefused}
use Rattle.run_data.specs.declared.job.TransferRefusal.TheVariants as failures
use Rattle.p2p_wire.specs.declared.message.Message.{Message}
use Rattle.p2p_wire.specs.declared.message.Message.TheVariants.{AuthSuccess, Version}
use Rattle.node_model.specs.JobStep.{Turn, ends}
use Rattle.node_model.specs.Jobs as jobs
use Rattle.node_model.specs.TransferStep.{next_get, next_source}
use Rattle.node_model.specs.Turns.{goes, next_step, takes, takes_answer}
use Rattle.state_jobs.specs.Phases.{part_of, phase_of}
use Rattle.state_jobs.specs.declared.phase.Ending.{Ending}
use Rattle.state_jobs.specs.declared.phase.Part.{Part}
use Rattle.state_jobs.specs.declared.phase.Part.TheVariants as parts
use Rattle.state_jobs.specs.declared.phase.Phase.{Phase}
use Rattle.state_jobs.specs.declared.phase.Phase.TheVariants as phases

-- a get or a copy goes on to its next source
pub next_transfers : (t : Turn) (p : Part) → p ≢ parts.Drops → next_get t (next_source t) ≡ next_step t (part_of p)
next_transfers t parts.Gets other = refl
next_transfers t parts.Puts other = refl
next_transfers t parts.Drops other = absurd (other refl)

-- one that awaits an answer, and has no partner, ends
pub closed_goes : (t : Turn) (p : Phase) → (p ≡ phases.Fresh → ⊥) → (p ≡ phases.Next → ⊥) → ((peer start at left : ℕ) → p ≡ phases.PutsBytes peer start at left → ⊥) → ((peer start : ℕ) → p ≡ phases.PutsWord peer start → ⊥)
    → (p ≡ phases.Removed → ⊥) → (p ≡ phases.Denied → ⊥) → ((time : ℕ) → p ≡ phases.Late time → ⊥) → ((e : Ending) → p ≡ phases.Ends e → ⊥)
    → ends t None (TransferRefused failures.Closed) ≡ goes t (phase_of p)
closed_goes t phases.Fresh a b c d e f g h = absurd (a refl)
closed_goes t phases.Next a b c d e f g h = absurd (b refl)
closed_goes t (phases.PutsBytes peer start at left) a b c d e f g h = absurd (c peer start at left refl)
closed_goes t (phases.PutsWord peer start) a b c d e f g h = absurd (d peer start refl)
closed_goes t phases.Removed a b c d e f g h = absurd (e refl)
closed_goes t phases.Denied a b c d e f g h = absurd (f refl)
closed_goes t (phases.Late time) a b c d e f g h = absurd (g time refl)
closed_goes t (phases.Ends x) a b c d e f g h = absurd (h x refl)
closed_goes t p a b c d e f g h = refl

-- ---- what is an answer to the job's request

opened_so : (t : Turn) (f : FrameView) (peer at : ℕ) (m : Message) → ((id : List ℕ) → m ≡ AuthSuccess id → ⊥) → takes_answer t f peer t.w.part (jobs.Opens at) m ≡ takes t f peer (jobs.Opens at) m
opened_so t f peer at (AuthSuccess id) other = absurd (other id refl)
opened_so t f peer at m other = refl

pub opened_answers : (t : Turn) (f : FrameView) (peer : ℕ) (p : Phase) (at : ℕ) (m : Message) → p ≡ phases.Opens at → ((id : List ℕ) → m ≡ AuthSuccess id → ⊥) → takes_answer t f peer t.w.part (phase_of p) m ≡ takes t f peer (phase_of p) m
opened_answers t f peer p at m is other = subst (λ (q : Phase). takes_answer t f peer t.w.part (phase_of q) m ≡ takes t f peer (phase_of q) m) (sym is) (opened_so t f peer at m other)

greeted_so : (t : Turn) (f : FrameView) (peer at : ℕ) (m : Message) → ((n : ℕ) → m ≡ Version n → ⊥) → takes_answer t f peer t.w.part (jobs.Greets at) m ≡ takes t f peer (jobs.Greets at) m
greeted_so t f peer at (Version n) other = absurd (other n refl)
greeted_so t f peer at m other = refl

pub greeted_answers : (t : Turn) (f : FrameView) (peer : ℕ) (p : Phase) (at : ℕ) (m : Message) → p ≡ phases.Greets at → ((n : ℕ) → m ≡ Version n → ⊥) → takes_answer t f peer t.w.part (phase_of p) m ≡ takes t f peer (phase_of p) m
greeted_answers t f peer p at m is other = subst (λ (q : Phase). takes_answer t f peer t.w.part (phase_of q) m ≡ takes t f peer (phase_of q) m) (sym is) (greeted_so t f peer at m other)

pub other_answers : (t : Turn) (f : FrameView) (peer : ℕ) (p : Phase) (m : Message) → ((at : ℕ) → p ≡ phases.Opens at → ⊥) → ((at : ℕ) → p ≡ phases.Greets at → ⊥) → takes_answer t f peer t.w.part (phase_of p) m ≡ takes t f peer (phase_of p) m
other_answers t f peer (phases.Opens at) m opens greets = absurd (opens at refl)
other_answers t f peer (phases.Greets at) m opens greets = absurd (greets at refl)
other_answers t f peer p m opens greets = refl
