-- What the proof of `holds::Holds::restart` needs beside the tactics.
use Rattle.std.proofs.Common.{map, refl, ap, ◌∙◌}
use Rattle.std.specs.Map.{values_of}
use Rattle.node_model.specs.Rows.{restart}
use Rattle.content_lock.proofs.IndexedLemmas.{indexed_mapped}
use Rattle.content_lock.proofs.NumberedLemmas.{mapped_all, values-numbered, view_mapped}
use Rattle.content_lock.proofs.holds.Holds.restart.Goals as goal

pub invariant_of-self : goal.invariant_of-self
invariant_of-self c =
    let f = restart c.args.now in
    let es = c.self.inside.by_number.entries in
    let fs = c.restart_all.new.by_number.entries in
    indexed_mapped f (λ h. refl) (λ h. refl) es fs c.self.inside.numbers.entries c.self.invariant (mapped_all f (λ h. refl) es fs c.self.invariant.named c.restart_all.ensures)

pub returns : goal.returns
returns c =
    let f = restart c.args.now in
    let es = c.self.inside.by_number.entries in
    let fs = c.restart_all.new.by_number.entries in
    view_mapped f (values_of es) (values_of fs) c.args.self.now (ap values_of (mapped_all f (λ h. refl) es fs c.self.invariant.named c.restart_all.ensures) ∙ values-numbered (map f (values_of es))) c.self.view_is
