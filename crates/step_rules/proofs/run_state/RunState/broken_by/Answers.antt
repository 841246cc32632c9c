-- What the proof of `run_state::RunState::broken_by` needs beside the tactics.
use Rattle.std.proofs.Common.{sym, ◌∙◌}
use Rattle.std.specs.Prelude.{reverse}
use Rattle.run_model.specs.Run.{set_up}
use Rattle.step_judging.specs.Carried.{is_ordered_by, takes_next, words_at_end}
use Rattle.step_judging.specs.Rules.{has_row, is_own}
use Rattle.step_rules.proofs.Alone.{works_alone, works_seated}
use Rattle.step_rules.proofs.Breaks.{bounded, judge, known, ordered_time, takes_same}
use Rattle.step_rules.proofs.Rules.{fourth_is, none_is, second_is, third_is}
use Rattle.step_rules.proofs.run_state.RunState.broken_by.Goals as goal

pub returns-then-not-branch : goal.returns-then-not-branch
returns-then-not-branch c = λ run after.
    let j = judge run in
    let r = c.args.repo in
    let e = c.args.entry.now in
    let member = after.judge.members r c.args.member.now c.requires.member in
    second_is (is_ordered_by j.newest e) (has_row (j.states r) e) (is_own (set_up run r) (j.states r) (words_at_end (j.words r) e.kind) e) (takes_next j.flights r e.taken)
    (sym (c.is_ordered.ensures j.newest after.judge.newest) ∙ c.if-not-is_ordered.false)
    (sym (c.in_ok-has_row.ensures (set_up run r) (j.states r) member.state) ∙ c.if-not-branch.true)

pub is_own-requires-clause-bounded : goal.is_own-requires-clause-bounded
is_own-requires-clause-bounded c =
    let x = c.args.self.now in (x.taken, c.requires.few, bounded x c.requires.carried c.args.repo c.args.member.now c.requires.member)

pub is_own-requires-clause-time : goal.is_own-requires-clause-time
is_own-requires-clause-time c =
    let carried = c.requires.carried in
    let j = judge carried.run in
    ordered_time j.newest c.args.entry.now (sym (c.is_ordered.ensures j.newest carried.after.judge.newest) ∙ c.if-not-is_ordered.false)

pub returns-then-not-branch-2 : goal.returns-then-not-branch-2
returns-then-not-branch-2 c = λ run after.
    let j = judge run in
    let past = reverse run.entries in
    let r = c.args.repo in
    let e = c.args.entry.now in
    let x = c.args.self.now in
    let member = after.judge.members r c.args.member.now c.requires.member in
    let agree = c.carried_states_agree.ensures.own_states in
    third_is (is_ordered_by j.newest e) (has_row (j.states r) e) (is_own (set_up run r) (j.states r) (words_at_end (j.words r) e.kind) e) (takes_next j.flights r e.taken)
    (sym (c.is_ordered.ensures j.newest after.judge.newest) ∙ c.if-not-is_ordered.false)
    (sym (c.in_ok-has_row.ensures (set_up run r) (j.states r) member.state) ∙ c.if-not-branch.false)
    (sym (c.in_ok-is_own.ensures (set_up run r) (j.states r) (j.words r) after.repos (known x c.requires.carried r c.args.member.now c.requires.member run after)
    (works_seated agree run after.lawful.repos past after.lawful.steps r c.states_are_sound.ensures.seated) (works_alone agree run after.lawful.repos past after.lawful.steps r) member)
    ∙ c.if-not-branch-2.true)

pub returns-then-not-may_take : goal.returns-then-not-may_take
returns-then-not-may_take c = λ run after.
    let j = judge run in
    let past = reverse run.entries in
    let r = c.args.repo in
    let e = c.args.entry.now in
    let x = c.args.self.now in
    let member = after.judge.members r c.args.member.now c.requires.member in
    let agree = c.carried_states_agree.ensures.own_states in
    fourth_is (is_ordered_by j.newest e) (has_row (j.states r) e) (is_own (set_up run r) (j.states r) (words_at_end (j.words r) e.kind) e) (takes_next j.flights r e.taken)
    (sym (c.is_ordered.ensures j.newest after.judge.newest) ∙ c.if-not-is_ordered.false)
    (sym (c.in_ok-has_row.ensures (set_up run r) (j.states r) member.state) ∙ c.if-not-branch.false)
    (sym (c.in_ok-is_own.ensures (set_up run r) (j.states r) (j.words r) after.repos (known x c.requires.carried r c.args.member.now c.requires.member run after)
    (works_seated agree run after.lawful.repos past after.lawful.steps r c.states_are_sound.ensures.seated) (works_alone agree run after.lawful.repos past after.lawful.steps r) member)
    ∙ c.if-not-branch-2.false)
    (takes_same x run after r e.taken ∙ sym c.may_take.ensures ∙ c.if-not-may_take.true)

pub returns : goal.returns
returns c = λ run after.
    let j = judge run in
    let past = reverse run.entries in
    let r = c.args.repo in
    let e = c.args.entry.now in
    let x = c.args.self.now in
    let member = after.judge.members r c.args.member.now c.requires.member in
    let agree = c.carried_states_agree.ensures.own_states in
    none_is (is_ordered_by j.newest e) (has_row (j.states r) e) (is_own (set_up run r) (j.states r) (words_at_end (j.words r) e.kind) e) (takes_next j.flights r e.taken)
    (sym (c.is_ordered.ensures j.newest after.judge.newest) ∙ c.if-not-is_ordered.false)
    (sym (c.in_ok-has_row.ensures (set_up run r) (j.states r) member.state) ∙ c.if-not-branch.false)
    (sym (c.in_ok-is_own.ensures (set_up run r) (j.states r) (j.words r) after.repos (known x c.requires.carried r c.args.member.now c.requires.member run after)
    (works_seated agree run after.lawful.repos past after.lawful.steps r c.states_are_sound.ensures.seated) (works_alone agree run after.lawful.repos past after.lawful.steps r) member)
    ∙ c.if-not-branch-2.false)
    (takes_same x run after r e.taken ∙ sym c.may_take.ensures ∙ c.if-not-may_take.false)
