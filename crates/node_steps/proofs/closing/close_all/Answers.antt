-- What the proof of `closing::close_all` needs beside the tactics.
use Rattle.std.proofs.Common.{◌<◌, ◌+◌, ℕ, All, List, length, map, sym, subst, ◌∙◌, true≢false}
use Rattle.std.specs.Prelude.{vec_len}
use Rattle.node_model.specs.Ends.{EndName}
use Rattle.node_steps.specs.Closing.{ends_to}
use Rattle.node_steps.specs.Shutting.{ShutsEach}
use Rattle.node_ends.specs.Ends.{name_of}
use Rattle.node_steps.proofs.CloseLemmas.{few_places, ids_there, lacks_so}
use Rattle.node_steps.proofs.MoveLemmas.{same_length}
use Rattle.node_steps.proofs.closing.close_all.Goals as goal

pub count_open-open-requires : goal.count_open-open-requires
count_open-open-requires c = record {
  there = ids_there c.ends_are_there.ensures.there c.args.parts.now.links (length c.args.parts.now.jobs.place.ids) c.args.peer c.ends_to-ids.result c.ends_to-ids.ensures c.table.ensures.sound.count c.requires.known;
}

pub returns-then-lacks-clause-full : goal.returns-then-lacks-clause-full
returns-then-lacks-clause-full c = λ full.
    lacks_so (vec_len c.args.past.now.history) c.count_open-open.result c.args.parts.now.links (map name_of c.ends_to-ids.result) (ends_to c.args.peer) c.lacks.result c.ends_to-ids.ensures c.count_open-open.ensures c.lacks.ensures
    ∙ c.if-lacks.true

pub returns-in_default-clause-lacks : goal.returns-in_default-clause-lacks
returns-in_default-clause-lacks c = λ lacks.
    absurd (true≢false
    (sym lacks
    ∙ (lacks_so (vec_len c.args.past.now.history) c.count_open-open.result c.args.parts.now.links (map name_of c.ends_to-ids.result) (ends_to c.args.peer) c.lacks.result c.ends_to-ids.ensures c.count_open-open.ensures c.lacks.ensures
    ∙ c.if-lacks.false)))

pub returns-then-is_err-clause-lacks : goal.returns-then-is_err-clause-lacks
returns-then-is_err-clause-lacks c = λ lacks.
    absurd (true≢false
    (sym lacks
    ∙ (lacks_so (vec_len c.args.past.now.history) c.count_open-open.result c.args.parts.now.links (map name_of c.ends_to-ids.result) (ends_to c.args.peer) c.lacks.result c.ends_to-ids.ensures c.count_open-open.ensures c.lacks.ensures
    ∙ c.if-lacks.false)))

pub close_each-requires-clause-there : goal.close_each-requires-clause-there
close_each-requires-clause-there c =
    ids_there c.ends_are_there.ensures.there c.args.parts.now.links (length c.args.parts.now.jobs.place.ids) c.args.peer c.ends_to-ids.result c.ends_to-ids.ensures c.table.ensures.sound.count c.requires.known

pub close_each-requires-clause-numbers : goal.close_each-requires-clause-numbers
close_each-requires-clause-numbers c =
    subst (λ (n : ℕ). All (λ h. h.number < n + 1) c.args.parts.now.table.holds) (sym (same_length c.args.past.now c.reserve_places.new.self c.reserve_places.ensures.same)) c.requires.numbers

pub close_each-requires-clause-few : goal.close_each-requires-clause-few
close_each-requires-clause-few c =
    few_places c.args.past.now c.reserve_places.new.self c.count_open-open.result c.args.parts.now.links (map name_of c.ends_to-ids.result) c.lacks.result c.reserve_places.ensures.same c.count_open-open.ensures c.lacks.ensures c.if-lacks.false

pub returns-clause-ok : goal.returns-clause-ok
returns-clause-ok c = (
  c.reserve_places.new.self,
  c.reserve_places.ensures.same,
  subst (λ (ends : List EndName). ShutsEach ends c.args.parts.now c.close_each.new.parts c.reserve_places.new.self c.close_each.new.past) c.ends_to-ids.ensures c.close_each.ensures,
)

pub returns-clause-lacks : goal.returns-clause-lacks
returns-clause-lacks c = λ lacks.
    absurd (true≢false
    (sym lacks
    ∙ (lacks_so (vec_len c.args.past.now.history) c.count_open-open.result c.args.parts.now.links (map name_of c.ends_to-ids.result) (ends_to c.args.peer) c.lacks.result c.ends_to-ids.ensures c.count_open-open.ensures c.lacks.ensures
    ∙ c.if-lacks.false)))
