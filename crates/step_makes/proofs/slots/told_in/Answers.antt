-- What the proof of `slots::told_in` needs beside the tactics.
use Rattle.std.proofs.Common.{sym, ap, Some, Bool, find, ◌∙◌, ◌≡◌, ◌∷◌, ◌&&◌, [], ◌==◌}
use Rattle.node_model.specs.Jobs as jobs
use Rattle.node_model.specs.JobStep as steps
use Rattle.node_model.specs.Turns.{slot_step, by_partner}
use Rattle.step_makes.proofs.SlotLemmas.{in_other_slot, in_slot}
use Rattle.std.specs.Prelude.{not}
use Rattle.step_judging.specs.Rules.{effect_of, is_effect}
use Rattle.job_makes.specs.Turns.{turn_in, word_in}
use Rattle.state_jobs.specs.Phases.{phase_of}
use Rattle.state_jobs.specs.Works.{work_of}
use Rattle.node_model.specs.SetUp.{SetUp}
use Rattle.node_model.specs.State.{State}
use Rattle.std.proofs.lemmas.Result.{IfOk-weaker}
use Rattle.step_makes.specs.Knowledge.{IsTurnOf, HasRoom}
use Rattle.step_makes.proofs.KnowledgeLemmas.{turn_same}
use Rattle.node_model.specs.Jobs.{partner}
use Rattle.step_judging.specs.Telling.{look_of}
use Rattle.step_judging.specs.Told.{told_in, forced_in}
use Rattle.state_reads.specs.Reads.{IsOnly}
use Rattle.step_makes.specs.Numbers.{AreAlone}
use Rattle.step_makes.proofs.slots.told_in.Goals as goal

pub returns-then-slot-eq0 : goal.returns-then-slot-eq0
returns-then-slot-eq0 c =
    let x = c.args.turn.now in
    IfOk-weaker c.step_of.result
    (λ b. (s : SetUp) (st : State) → IsTurnOf x s st → HasRoom x → IsOnly st.works (work_of x.work.now) → s.paths x.work.now.number ≡ c.args.paths.now → b ≡ is_effect (by_partner (turn_in x s st) (partner x.work.now.what.peer (phase_of x.work.now.phase))) (effect_of x.told.now))
    (λ b. (s : SetUp) (st : State) → IsTurnOf x s st → HasRoom x → AreAlone st.works → IsOnly st.works (work_of x.work.now) → s.paths x.work.now.number ≡ c.args.paths.now → b ≡ told_in s st (look_of st (word_in x.words.now) x.told.now) (work_of x.work.now) (effect_of x.told.now) (0 ∷ 1 ∷ 2 ∷ 3 ∷ []))
    (λ b told s st of room alone only had.
    told s st of room only had
    ∙ ap (λ (t : steps.Turn). is_effect (by_partner t (partner x.work.now.what.peer (phase_of x.work.now.phase))) (effect_of x.told.now)) (turn_same x s st of)
    ∙ sym (in_slot Bool 0 x.work.now.slot (is_effect (slot_step s st (look_of st (word_in x.words.now) x.told.now) (Some (work_of x.work.now))) (effect_of x.told.now)) (not (forced_in s st (look_of st (word_in x.words.now) x.told.now) (find (λ (v : jobs.Work). v.slot == 0) st.works)) && told_in s st (look_of st (word_in x.words.now) x.told.now) (work_of x.work.now) (effect_of x.told.now) (1 ∷ 2 ∷ 3 ∷ [])) c.if-slot-eq0.true))
    c.step_of.ensures

pub returns-then-forced : goal.returns-then-forced
returns-then-forced c = λ s st of room alone only had.
    let x = c.args.turn.now in
    ap (λ (v : Bool). not v && told_in s st (look_of st (word_in x.words.now) x.told.now) (work_of x.work.now) (effect_of x.told.now) (1 ∷ 2 ∷ 3 ∷ [])) (sym c.if-forced.true ∙ c.in_ok-forced.ensures s st of alone) ∙ sym (in_other_slot Bool 0 x.work.now.slot (is_effect (slot_step s st (look_of st (word_in x.words.now) x.told.now) (Some (work_of x.work.now))) (effect_of x.told.now)) (not (forced_in s st (look_of st (word_in x.words.now) x.told.now) (find (λ (v : jobs.Work). v.slot == 0) st.works)) && told_in s st (look_of st (word_in x.words.now) x.told.now) (work_of x.work.now) (effect_of x.told.now) (1 ∷ 2 ∷ 3 ∷ [])) c.if-slot-eq0.false)

pub returns-else-forced : goal.returns-else-forced
returns-else-forced c =
    let x = c.args.turn.now in
    IfOk-weaker c.told_from_second.result
    (λ b. (s : SetUp) (st : State) → IsTurnOf x s st → HasRoom x → AreAlone st.works → IsOnly st.works (work_of x.work.now) → s.paths x.work.now.number ≡ c.args.paths.now → b ≡ told_in s st (look_of st (word_in x.words.now) x.told.now) (work_of x.work.now) (effect_of x.told.now) (1 ∷ 2 ∷ 3 ∷ []))
    (λ b. (s : SetUp) (st : State) → IsTurnOf x s st → HasRoom x → AreAlone st.works → IsOnly st.works (work_of x.work.now) → s.paths x.work.now.number ≡ c.args.paths.now → b ≡ told_in s st (look_of st (word_in x.words.now) x.told.now) (work_of x.work.now) (effect_of x.told.now) (0 ∷ 1 ∷ 2 ∷ 3 ∷ []))
    (λ b told s st of room alone only had.
    told s st of room alone only had
    ∙ ap (λ (v : Bool). not v && told_in s st (look_of st (word_in x.words.now) x.told.now) (work_of x.work.now) (effect_of x.told.now) (1 ∷ 2 ∷ 3 ∷ [])) (sym c.if-forced.false ∙ c.in_ok-forced.ensures s st of alone)
    ∙ sym (in_other_slot Bool 0 x.work.now.slot (is_effect (slot_step s st (look_of st (word_in x.words.now) x.told.now) (Some (work_of x.work.now))) (effect_of x.told.now)) (not (forced_in s st (look_of st (word_in x.words.now) x.told.now) (find (λ (v : jobs.Work). v.slot == 0) st.works)) && told_in s st (look_of st (word_in x.words.now) x.told.now) (work_of x.work.now) (effect_of x.told.now) (1 ∷ 2 ∷ 3 ∷ [])) c.if-slot-eq0.false))
    c.told_from_second.ensures
