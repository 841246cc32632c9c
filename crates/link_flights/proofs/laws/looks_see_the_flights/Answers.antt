-- A look sees the flights.
use Rattle.std.proofs.Common.{◌≡◌, ap, ◌∙◌}
use Rattle.std.specs.Prelude.{length}
use Rattle.run_model.specs.States.{end_at, state_of}
use Rattle.node_ends.specs.Ends.{end_in, stands}
use Rattle.link_flights.proofs.Looked.{drops_see, own_of_all, same_at_hand, same_room, small_numbers}
use Rattle.link_flights.proofs.laws.looks_see_the_flights.Goals as goal

pub returns-clause-at_hand : goal.returns-clause-at_hand
returns-clause-at_hand c links s st d k are ends sees =
    sees.at_hand ∙ same_at_hand c.ends_are_there.ensures.numbers c.ends_are_there.ensures.there links s st d are ends

pub returns-clause-dropped : goal.returns-clause-dropped
returns-clause-dropped c links s st d k are ends sees =
    sees.at_hand ∙ drops_see links s ∙ same_at_hand c.ends_are_there.ensures.numbers c.ends_are_there.ensures.there links s st d are ends

pub returns-clause-own : goal.returns-clause-own
returns-clause-own c = own_of_all c.ends_are_there.ensures.numbers

pub returns-clause-room : goal.returns-clause-room
returns-clause-room c links s st d a v member is end sent epoch =
    same_room st d s.number links a v (c.ends_are_there.ensures.numbers s a member).other is end sent epoch

pub returns-clause-in_runs : goal.returns-clause-in_runs
returns-clause-in_runs c g links s d a v sound few are member is end =
    let stood : end_at d.past s.number a ≡ stands v = are.ends a member ∙ ap end_in is in
    let small = small_numbers (end_at d.past s.number a) v (length d.past) stood (c.ends_have_small_numbers.ensures.sent g d s.number a sound) (c.ends_have_small_numbers.ensures.epoch g d s.number a sound) few in
    same_room (state_of s d.past) d s.number links a v (c.ends_are_there.ensures.numbers s a member).other is end small.0 small.1
