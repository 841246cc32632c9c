-- What the one value of an answer tells.
use Rattle.std.proofs.Common.{refl}
use Rattle.p2p_server.proofs.Numbers.{guards_so}
use Rattle.p2p_server.proofs.Following.{after_told, bars_told, cause_told, contents_as_before, fed_told, filled_told, judged_told, kind_told, next_told, numbers_told, parts_as_before, parts_told, records_as_before, remains, reply_told, rows_told, session_as_before, step_told}
use Rattle.session_state.proofs.Making.{calls_told, failing_as_before, left_told}
use Rattle.p2p_server.proofs.session.Session.take.Goals as goal

pub hear-requires-clause-at : goal.hear-requires-clause-at
hear-requires-clause-at g c = record { here = refl; owns = c.requires.owns; fills = c.requires.fills }

pub returns-clause-step : goal.returns-clause-step
returns-clause-step g c = step_told _ _ _ _ c.hear.result c.hear.ensures.goes

pub returns-clause-rows : goal.returns-clause-rows
returns-clause-rows g c = rows_told _ _ _ _ c.hear.result c.hear.ensures.goes

pub returns-clause-next : goal.returns-clause-next
returns-clause-next g c = next_told _ _ _ _ c.hear.result c.hear.ensures.goes

pub returns-clause-after : goal.returns-clause-after
returns-clause-after g c = after_told _ _ _ _ c.hear.result c.hear.ensures.goes

pub returns-clause-bars : goal.returns-clause-bars
returns-clause-bars g c = bars_told _ _ _ _ c.hear.result c.hear.ensures.goes

pub returns-clause-reply : goal.returns-clause-reply
returns-clause-reply g c = reply_told _ _ _ _ c.hear.result c.hear.ensures.goes

pub returns-clause-kind : goal.returns-clause-kind
returns-clause-kind g c = kind_told _ _ _ _ c.hear.result c.hear.ensures.goes

pub returns-clause-numbers : goal.returns-clause-numbers
returns-clause-numbers g c = λ n more. numbers_told _ _ _ _ c.hear.result c.hear.ensures.goes c.requires.fresh n more

pub returns-clause-parts : goal.returns-clause-parts
returns-clause-parts g c = parts_told _ _ _ _ c.hear.result c.hear.ensures.goes

pub returns-clause-fed : goal.returns-clause-fed
returns-clause-fed g c = fed_told _ _ _ _ c.hear.result c.hear.ensures.goes

pub returns-clause-filled : goal.returns-clause-filled
returns-clause-filled g c = filled_told _ _ _ _ c.hear.result c.hear.ensures.goes

pub returns-clause-judged : goal.returns-clause-judged
returns-clause-judged g c = judged_told _ _ _ _ c.hear.result c.hear.ensures.goes

pub returns-clause-cause : goal.returns-clause-cause
returns-clause-cause g c = cause_told _ _ _ _ c.hear.result c.hear.ensures.goes

pub returns-clause-place : goal.returns-clause-place
returns-clause-place g c = (remains _ _ _ _ c.hear.result c.hear.ensures.goes (record { here = refl; owns = c.requires.owns; fills = c.requires.fills }) c.requires.agrees).place

pub returns-clause-guards : goal.returns-clause-guards
returns-clause-guards g c = guards_so c.hear.new.session.doing

pub returns-clause-owns : goal.returns-clause-owns
returns-clause-owns g c = (remains _ _ _ _ c.hear.result c.hear.ensures.goes (record { here = refl; owns = c.requires.owns; fills = c.requires.fills }) c.requires.agrees).owns

pub returns-clause-fills : goal.returns-clause-fills
returns-clause-fills g c = (remains _ _ _ _ c.hear.result c.hear.ensures.goes (record { here = refl; owns = c.requires.owns; fills = c.requires.fills }) c.requires.agrees).fills

pub returns-clause-others : goal.returns-clause-others
returns-clause-others g c = (remains _ _ _ _ c.hear.result c.hear.ensures.goes (record { here = refl; owns = c.requires.owns; fills = c.requires.fills }) c.requires.agrees).others

pub returns-clause-agrees : goal.returns-clause-agrees
returns-clause-agrees g c = (remains _ _ _ _ c.hear.result c.hear.ensures.goes (record { here = refl; owns = c.requires.owns; fills = c.requires.fills }) c.requires.agrees).agrees

pub returns-clause-later : goal.returns-clause-later
returns-clause-later g c = (remains _ _ _ _ c.hear.result c.hear.ensures.goes (record { here = refl; owns = c.requires.owns; fills = c.requires.fills }) c.requires.agrees).later

pub returns-clause-err : goal.returns-clause-err
returns-clause-err g c = session_as_before _ _ _ _ c.hear.result c.hear.ensures.goes

pub returns-clause-err_contents : goal.returns-clause-err_contents
returns-clause-err_contents g c = contents_as_before _ _ _ _ c.hear.result c.hear.ensures.goes

pub returns-clause-err_parts : goal.returns-clause-err_parts
returns-clause-err_parts g c = parts_as_before _ _ _ _ c.hear.result c.hear.ensures.goes

pub returns-clause-err_records : goal.returns-clause-err_records
returns-clause-err_records g c = records_as_before _ _ _ _ c.hear.result c.hear.ensures.goes

pub returns-clause-calls : goal.returns-clause-calls
returns-clause-calls g c = calls_told _ _ _ _ _ _ _ _ c.hear.result c.hear.ensures.calls

pub returns-clause-left : goal.returns-clause-left
returns-clause-left g c = left_told _ _ _ _ _ _ _ _ c.hear.result c.hear.ensures.calls

pub returns-clause-err_failing : goal.returns-clause-err_failing
returns-clause-err_failing g c = failing_as_before _ _ _ _ _ _ _ _ c.hear.result c.hear.ensures.calls
