-- What the proof of `parts::Parts::carry` needs beside the tactics.
use Rattle.std.proofs.Common.{rules, sym, subst}
use Rattle.node_ends.specs.Joined.{AreJoined}
use Rattle.node_parts.specs.Parts.{AreParts, PartsView}
use Rattle.node_parts.proofs.Going.{parts_carried}
use Rattle.node_parts.proofs.Sounding.{carried_sound, joined_first, joined_other, joined_second}
use Rattle.node_parts.proofs.parts.Parts.carry.Goals as goal

pub invariant_of-self : goal.invariant_of-self
invariant_of-self c =
    let joined : AreJoined c.number-number.result c.number-other_number.result c.self.inside.ends c.other.inside.ends = search rules in
    carried_sound (record { table = c.self.inside.table; links = c.self.inside.ends; sessions = c.self.inside.sessions; jobs = c.self.inside.jobs }) c.number-number.result c.number-other_number.result c.carry_ends.new.a c.other.inside.ends
    c.self.invariant c.carry_ends.ensures.first (joined_first c.number-number.result c.number-other_number.result c.self.inside.ends c.other.inside.ends joined)

pub invariant_of-other : goal.invariant_of-other
invariant_of-other c =
    let joined : AreJoined c.number-number.result c.number-other_number.result c.self.inside.ends c.other.inside.ends = search rules in
    carried_sound (record { table = c.other.inside.table; links = c.other.inside.ends; sessions = c.other.inside.sessions; jobs = c.other.inside.jobs }) c.number-other_number.result c.number-number.result c.carry_ends.new.b c.self.inside.ends
    c.other.invariant c.carry_ends.ensures.second (joined_second c.number-number.result c.number-other_number.result c.self.inside.ends c.other.inside.ends joined)

pub returns-clause-parts : goal.returns-clause-parts
returns-clause-parts c = λ s st are.
    let joined : AreJoined c.number-number.result c.number-other_number.result c.self.inside.ends c.other.inside.ends = search rules in
    let i = c.self.inside in
    let was : PartsView = record { table = i.table; links = i.ends; sessions = i.sessions; jobs = i.jobs } in
    let e = c.carry_ends.ensures in
    parts_carried s st was c.carry_ends.new.a c.other.inside.ends c.number-number.result c.number-other_number.result e.first joined e.first_stand (subst (AreParts s st) (sym c.self.view_is) are)

pub returns-clause-other_parts : goal.returns-clause-other_parts
returns-clause-other_parts c = λ s st are.
    let joined : AreJoined c.number-number.result c.number-other_number.result c.self.inside.ends c.other.inside.ends = search rules in
    let i = c.other.inside in
    let was : PartsView = record { table = i.table; links = i.ends; sessions = i.sessions; jobs = i.jobs } in
    let e = c.carry_ends.ensures in
    let swapped = joined_other c.number-number.result c.number-other_number.result c.self.inside.ends c.other.inside.ends joined in
    parts_carried s st was c.carry_ends.new.b c.self.inside.ends c.number-other_number.result c.number-number.result e.second swapped e.second_stand (subst (AreParts s st) (sym c.other.view_is) are)
