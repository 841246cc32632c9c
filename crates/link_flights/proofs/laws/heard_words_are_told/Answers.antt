-- The words that jobs were told.
use Rattle.std.proofs.Common.{ap, ◌∙◌, Option}
use Rattle.std.specs.Prelude.{ℕ}
use Rattle.annex_base.proofs.Conditions.{eqb_refl}
use Rattle.node_model.specs.Rows.{option_is}
use Rattle.link_flights.proofs.ActingJobs.{StepLaws}
use Rattle.link_flights.proofs.AnswersMove.{answers_move}
use Rattle.link_flights.proofs.WordsHeard.{heard_agree, heard_begun, heard_beside, heard_first, heard_other, heard_stepped, turn_worded}
use Rattle.link_flights.proofs.laws.heard_words_are_told.Goals as goal

pub returns-clause-first : goal.returns-clause-first
returns-clause-first c = heard_first

pub returns-clause-stepped : goal.returns-clause-stepped
returns-clause-stepped c s past k m e ends was now known are worded sees makes mine kind taken jobs asked goes heard =
    let laws : StepLaws = record {
      finds = c.steps_find_their_cause.ensures;
      at_hand = c.steps_take_what_is_at_hand.ensures.at_hand;
      goes = c.steps_take_what_is_at_hand.ensures.goes;
      takes = c.steps_take_what_is_at_hand.ensures.takes;
      session = c.steps_name_their_jobs.ensures.session;
      job = c.steps_name_their_jobs.ensures.job;
    } in
    heard_stepped laws s past k m e _ was now makes (ap (λ (o : Option ℕ). option_is o s.number) mine ∙ eqb_refl s.number) kind taken sees
    (turn_worded c.ends_are_there.ensures.numbers s past ends known are worded) jobs asked goes heard

pub returns-clause-changed : goal.returns-clause-changed
returns-clause-changed c s past k m e w v f makes mine kind taken sent jobs there after number answer =
    let laws : StepLaws = record {
      finds = c.steps_find_their_cause.ensures;
      at_hand = c.steps_take_what_is_at_hand.ensures.at_hand;
      goes = c.steps_take_what_is_at_hand.ensures.goes;
      takes = c.steps_take_what_is_at_hand.ensures.takes;
      session = c.steps_name_their_jobs.ensures.session;
      job = c.steps_name_their_jobs.ensures.job;
    } in
    answers_move laws s past k m e w v f makes (ap (λ (o : Option ℕ). option_is o s.number) mine ∙ eqb_refl s.number) kind taken sent jobs there after number answer

pub returns-clause-other : goal.returns-clause-other
returns-clause-other c = heard_other

pub returns-clause-beside : goal.returns-clause-beside
returns-clause-beside c = heard_beside

pub returns-clause-begun : goal.returns-clause-begun
returns-clause-begun c = heard_begun

pub returns-clause-read : goal.returns-clause-read
returns-clause-read c = heard_agree
