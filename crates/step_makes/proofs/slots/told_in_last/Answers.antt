-- What the proof of `slots::told_in_last` needs beside the tactics.
use Rattle.std.proofs.Common.{sym, ap, Some, Bool, find, ◌∙◌, ◌≡◌, ◌∷◌, ◌&&◌, [], ◌==◌}
use Rattle.node_model.specs.Jobs as jobs
use Rattle.node_model.specs.JobStep as steps
use Rattle.node_model.specs.Turns.{slot_step, by_partner}
use Rattle.step_makes.proofs.SlotLemmas.{in_other_slot, in_slot, never_both}
use Rattle.std.specs.Prelude.{not}
use Rattle.step_judging.specs.Rules.{effect_of, is_effect}
use Rattle.job_makes.specs.Turns.{turn_in, word_in}
use Rattle.state_jobs.specs.Phases.{phase_of}
use Rattle.state_jobs.specs.Works.{work_of}
use Rattle.node_model.specs.SetUp.{SetUp}
use Rattle.node_model.specs.State.{State}
use Rattle.std.proofs.lemmas.Result.{IfOk-weaker}
use Rattle.step_makes.specs.Knowledge.{IsTurnOf, HasRoom}
use Rattle.step_makes.proofs.KnowledgeLemmas.{turn_same}
use Rattle.node_model.specs.Jobs.{partner}
use Rattle.step_judging.specs.Telling.{look_of}
use Rattle.step_judging.specs.Told.{told_in, forced_in}
use Rattle.state_reads.specs.Reads.{IsOnly}
use Rattle.step_makes.specs.Numbers.{AreAlone}
use Rattle.step_makes.proofs.slots.told_in_last.Goals as goal

pub returns-then-slot-eq3 : goal.returns-then-slot-eq3
returns-then-slot-eq3 c =
    let x = c.args.turn.now in
    IfOk-weaker c.step_of.result
    (λ b. (s : SetUp) (st : State) → IsTurnOf x s st → HasRoom x → IsOnly st.works (work_of x.work.now) → s.paths x.work.now.number ≡ c.args.paths.now → b ≡ is_effect (by_partner (turn_in x s st) (partner x.work.now.what.peer (phase_of x.work.now.phase))) (effect_of x.told.now))
    (λ b. (s : SetUp) (st : State) → IsTurnOf x s st → HasRoom x → AreAlone st.works → IsOnly st.works (work_of x.work.now) → s.paths x.work.now.number ≡ c.args.paths.now → b ≡ told_in s st (look_of st (word_in x.words.now) x.told.now) (work_of x.work.now) (effect_of x.told.now) (3 ∷ []))
    (λ b told s st of room alone only had.
    told s st of room only had
    ∙ ap (λ (t : steps.Turn). is_effect (by_partner t (partner x.work.now.what.peer (phase_of x.work.now.phase))) (effect_of x.told.now)) (turn_same x s st of)
    ∙ sym (in_slot Bool 3 x.work.now.slot (is_effect (slot_step s st (look_of st (word_in x.words.now) x.told.now) (Some (work_of x.work.now))) (effect_of x.told.now)) (not (forced_in s st (look_of st (word_in x.words.now) x.told.now) (find (λ (v : jobs.Work). v.slot == 3) st.works)) && told_in s st (look_of st (word_in x.words.now) x.told.now) (work_of x.work.now) (effect_of x.told.now) ([])) c.if-slot-eq3.true))
    c.step_of.ensures

pub returns-else-slot-eq3 : goal.returns-else-slot-eq3
returns-else-slot-eq3 c = λ s st of room alone only had.
    let x = c.args.turn.now in
    sym (in_other_slot Bool 3 x.work.now.slot (is_effect (slot_step s st (look_of st (word_in x.words.now) x.told.now) (Some (work_of x.work.now))) (effect_of x.told.now)) (not (forced_in s st (look_of st (word_in x.words.now) x.told.now) (find (λ (v : jobs.Work). v.slot == 3) st.works)) && told_in s st (look_of st (word_in x.words.now) x.told.now) (work_of x.work.now) (effect_of x.told.now) ([])) c.if-slot-eq3.false ∙ never_both (not (forced_in s st (look_of st (word_in x.words.now) x.told.now) (find (λ (v : jobs.Work). v.slot == 3) st.works))))
