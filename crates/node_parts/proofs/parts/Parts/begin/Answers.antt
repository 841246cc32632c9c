-- What the proof of `parts::Parts::begin` needs beside the tactics.
use Rattle.std.proofs.Common.{subst}
use Rattle.std.specs.Prelude.{OnOk}
use Rattle.object_store.specs.Stores.{Parts as StoredParts}
use Rattle.node_parts.specs.Parts.{AreAllFed, PartsView}
use Rattle.node_parts.proofs.Going.{PartsBegun, begun_fed, begun_parts}
use Rattle.node_parts.proofs.Sounding.{begun_sound}
use Rattle.node_parts.proofs.parts.Parts.begin.Goals as goal

pub invariant_of-self : goal.invariant_of-self
invariant_of-self c =
    begun_sound c.begin.result (record { table = c.self.inside.table; links = c.self.inside.ends; sessions = c.self.inside.sessions; jobs = c.self.inside.jobs }) c.begin.new.self c.args.what c.args.paths
    c.begin.ensures.begins c.begin.ensures.owns c.begin.ensures.filled c.begin.ensures.err c.self.invariant

pub returns-clause-parts : goal.returns-clause-parts
returns-clause-parts c =
    subst (λ (p : PartsView). OnOk c.begin.result (PartsBegun p (record { table = c.self.inside.table; links = c.self.inside.ends; sessions = c.self.inside.sessions; jobs = c.begin.new.self }) c.args.what)) c.self.view_is
    (begun_parts c.begin.result c.ends_go_on.ensures.ends c.ends_go_on.ensures.begin c.sessions_stay.ensures (record { table = c.self.inside.table; links = c.self.inside.ends; sessions = c.self.inside.sessions; jobs = c.self.inside.jobs })
    c.begin.new.self c.args.what c.args.paths c.begin.ensures.begins c.begin.ensures.works c.self.invariant)

pub returns-clause-fed : goal.returns-clause-fed
returns-clause-fed c =
    subst (λ (p : PartsView). OnOk c.begin.result ((q : StoredParts) → AreAllFed q p → AreAllFed q (record { table = c.self.inside.table; links = c.self.inside.ends; sessions = c.self.inside.sessions; jobs = c.begin.new.self }))) c.self.view_is
    (begun_fed c.begin.result (record { table = c.self.inside.table; links = c.self.inside.ends; sessions = c.self.inside.sessions; jobs = c.self.inside.jobs }) c.begin.new.self c.begin.ensures.fed)
