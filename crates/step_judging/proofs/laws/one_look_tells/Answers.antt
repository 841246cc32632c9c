-- What the proof of `laws::one_look_tells` needs beside the tactics.
use Rattle.std.proofs.Common.{◌≡◌, true, Some, sym, subst}
use Rattle.run_data.specs.declared.entry.Entry.{Entry}
use Rattle.node_model.specs.Look.{as_told, entry_of}
use Rattle.node_model.specs.Step.{step}
use Rattle.step_judging.specs.Telling.{first_line, is_end, look_of}
use Rattle.step_judging.proofs.OneLook.{part_small, step_again}
use Rattle.step_judging.proofs.laws.one_look_tells.Goals as goal
use Rattle.std.specs.Option.{option_map}

pub returns-clause-step : goal.returns-clause-step
returns-clause-step c = λ s st k m words e slots small made is same.
    let here : option_map as_told (step s st (look_of st words (entry_of s.number k m))) ≡ Some (as_told m) =
    step_again s st k words m small (subst (λ (x : Entry). is_end x.kind ≡ true → words ≡ k.words) is same) slots made in
    subst (λ (x : Entry). option_map as_told (step s st (look_of st words x)) ≡ Some (as_told m)) (sym is) here

pub returns-clause-part : goal.returns-clause-part
returns-clause-part c = λ st words e. part_small e.kind (first_line e.sent)
