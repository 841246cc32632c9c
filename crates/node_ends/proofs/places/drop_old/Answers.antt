-- What the proof of `places::drop_old` needs beside the tactics.
use Rattle.std.proofs.Common.{List, ap, sym, subst, is_some, length, ◌∙◌}
use Rattle.link_ring.specs.Ends.{EndView}
use Rattle.node_ends.specs.Ends.{end_at, link_at, room_at, wait_at}
use Rattle.node_ends.specs.Invariant.{each_may_close}
use Rattle.node_ends.specs.Joined.{StayPaired}
use Rattle.node_ends.proofs.Dropping.{close_drop, count_drop, room_drop, stand_drop, stay_drop, there_drop, waits_drop}
use Rattle.node_ends.proofs.places.drop_old.Goals as goal

pub returns-clause-waits : goal.returns-clause-waits
returns-clause-waits c = λ a. ap (λ (ys : List EndView). wait_at ys a) c.drop_each.ensures ∙ waits_drop c.args.ends.now.items a

pub returns-clause-room : goal.returns-clause-room
returns-clause-room c = λ a. ap (λ (ys : List EndView). room_at ys a) c.drop_each.ensures ∙ room_drop c.args.ends.now.items a

pub returns-clause-stand : goal.returns-clause-stand
returns-clause-stand c = λ a. ap (λ (ys : List EndView). end_at ys a) c.drop_each.ensures ∙ stand_drop c.args.ends.now.items a

pub returns-clause-there : goal.returns-clause-there
returns-clause-there c = λ a. ap (λ (ys : List EndView). is_some (link_at ys a)) c.drop_each.ensures ∙ there_drop c.args.ends.now.items a

pub returns-clause-count : goal.returns-clause-count
returns-clause-count c = ap (λ (ys : List EndView). length ys) c.drop_each.ensures ∙ count_drop c.args.ends.now.items

pub returns-clause-close : goal.returns-clause-close
returns-clause-close c = ap (λ (ys : List EndView). each_may_close ys) c.drop_each.ensures ∙ close_drop c.args.ends.now.items ∙ c.requires.close

pub returns-clause-paired : goal.returns-clause-paired
returns-clause-paired c = subst (λ (ys : List EndView). StayPaired c.args.ends.now.items ys) (sym c.drop_each.ensures) (stay_drop c.args.ends.now.items)
