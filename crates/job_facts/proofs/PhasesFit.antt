-- Over a repository's own part of a run within bounds, requests and answers are as the phase of each running job says.
use Rattle.std.proofs.Common.{◌≡◌, ℕ, ◌<◌, ◌^◌, true, List, [], ◌∷◌, Option, Some, None, ◌⊎◌, inl, inr, refl, ap, arith}
use Rattle.std.proofs.lemmas.Bool.{ltb-true}
use Rattle.annex_base.specs.Lists.{Member}
use Rattle.annex_base.specs.declared.kinds.Word.{Word}
use Rattle.step_facts.proofs.Below.{SentAreRead}
use Rattle.drop_proof.specs.declared.rule.Side.TheVariants.{Local, Remote}
use Rattle.run_data.specs.declared.entry.Entry.{Entry}
use Rattle.run_data.specs.declared.job.JobKind.{JobKind}
use Rattle.run_data.specs.declared.job.JobKind.TheVariants as kinds
use Rattle.p2p_wire.specs.declared.message.Message.TheVariants.{Version}
use Rattle.node_model.specs.SetUp.{SetUp}
use Rattle.node_model.specs.AnyTime.{IsPeer}
use Rattle.node_model.specs.Jobs
use Rattle.node_model.specs.Jobs.{Drops, Work, side_of, target_of}
use Rattle.run_model.specs.States.{works, state_of}
use Rattle.node_model.specs.Look.{Look}
use Rattle.node_model.specs.JobStep.{turn_of}
use Rattle.run_model.specs.Run.{ComesAnyTime, IsStep, OwnPast, OwnRun}
use Rattle.step_facts.proofs.BySteps.{earlier}
use Rattle.job_facts.proofs.Aims.{Aims, aims, can_drop}
use Rattle.step_facts.proofs.WorkNumbers.{same_slot_same_work}
use Rattle.job_facts.proofs.OpenEnds.{shut}
use Rattle.step_facts.proofs.Spoken.{data_read, get_read, lock_read, look_read, put_read, remove_read}
use Rattle.step_facts.proofs.EarlyHolds.{deadline_read}
use Rattle.step_facts.proofs.ClientSteps.{Speaks}
use Rattle.step_facts.proofs.ClientRuns.{AllFit, Fluent_does, Given, Slots, all_fit}

-- a remote drop has its target as peer
pub target_peer : (s : SetUp) (w : Work) → Aims s w → w.part ≡ Drops → side_of w ≡ Remote → w.what.peer ≡ Some (target_of s.number w)
target_peer s w a part side = go w.what.kind w.what.peer a.0 (a.1 part) side
  where
    go : (kind : JobKind) (peer : Option ℕ) → IsPeer s kind peer → can_drop kind ≡ true → Jobs.drop_side kind peer ≡ Remote → peer ≡ Some (Jobs.or_own s.number (Jobs.drop_side kind peer) peer)
    go kind (Some peer) is drops side = rw side refl
    go kinds.Drop None is drops side = absurd (let no_side : Local ≡ Remote = side in cc)
    go kinds.Get None is drops side = absurd (cc)
    go kinds.Copy None is drops side = absurd (cc)
    go kinds.MoveTo None is drops side = absurd (cc)
    go kinds.MoveFrom None is drops side = absurd (cc)

-- each line that a running job may say is read as it was said
pub works_speak : SentAreRead → (s : SetUp) (past : List Entry) (look : Look) → OwnPast s past → look.part < 2 ^ 62 → (w : Work) → Member w (works past s.number) → Speaks (turn_of s (state_of s past) look w)
works_speak reads_back s past look h small w runs = record {
  version = reads_back (Version 3) (omega arith) tt;
  lock = lock_read reads_back s past h.run w runs;
  look = look_read reads_back s past h.run w runs;
  remove = remove_read reads_back s past h.run w runs;
  before = λ n end early first soon. deadline_read reads_back s past w n end (turn_clock) h runs (ltb-true n (2 ^ 61) early) first;
  get = get_read reads_back s past h.run w runs look.part small;
  put = put_read reads_back s past h.run w runs;
  data' = λ n. data_read reads_back s past w.what.key n h;
  to_target = λ part side. target_peer s w (aims s past h.run w runs) part side;
}
  where
    turn_clock : ℕ
    turn_clock = (state_of s past).clock look.time

slots_of : SentAreRead → (s : SetUp) (past : List Entry) → OwnRun s past → Slots s past
slots_of reads_back s past run = record {
  one = λ w x m n same. ap (λ (y : Work). y.number) (same_slot_same_work s past run w x m n same);
  shut = λ job what peer few. shut reads_back s past run job what peer few;
}

all_given : SentAreRead → (s : SetUp) (past : List Entry) (h : OwnPast s past) → Given s past h.run
all_given reads_back s [] h = tt
all_given reads_back s (e ∷ past) h =
    let before = earlier s past e h in
    (slots_of reads_back s past before.run, λ is. fluent (h.run.0 is).0 (h.run.0 is).1.does before, all_given reads_back s past before)
  where
    fluent : (words : ℕ → Option Word) (d : IsStep s past words e ⊎ ComesAnyTime s past e) → OwnPast s past → Fluent_does s past words e d
    fluent words (inl x) before = λ w m. works_speak reads_back s past x.look before x.part_small w m
    fluent words (inr y) before = tt

-- **the words of the jobs are read as they are meant, and so requests and answers are as their phases say**
pub phases_fit : SentAreRead → (s : SetUp) (past : List Entry) → OwnPast s past → AllFit s past
phases_fit reads_back s past h = all_fit s past h.run (all_given reads_back s past h)
