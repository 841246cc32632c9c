-- What the proof of `parts::Parts::drop_old` needs beside the tactics.
use Rattle.std.proofs.Common.{sym, subst}
use Rattle.node_parts.specs.Parts.{AreParts, PartsView}
use Rattle.node_parts.proofs.Going.{parts_dropped}
use Rattle.node_parts.proofs.Sounding.{sound_ends, there_as}
use Rattle.node_parts.proofs.parts.Parts.drop_old.Goals as goal

pub invariant_of-self : goal.invariant_of-self
invariant_of-self c =
    sound_ends (record { table = c.self.inside.table; links = c.self.inside.ends; sessions = c.self.inside.sessions; jobs = c.self.inside.jobs }) c.drop_old.new.self c.self.invariant c.drop_old.ensures.count
    (there_as c.self.inside.ends c.drop_old.new.self c.self.inside.sessions c.drop_old.ensures.there c.self.invariant.there)

pub returns-clause-parts : goal.returns-clause-parts
returns-clause-parts c = λ s st are.
    let i = c.self.inside in
    let was : PartsView = record { table = i.table; links = i.ends; sessions = i.sessions; jobs = i.jobs } in
    let e = c.drop_old.ensures in
    parts_dropped s st was c.drop_old.new.self e.count e.stand e.room (subst (AreParts s st) (sym c.self.view_is) are)
