-- What the proof of `holds::Holds::keep` needs beside the tactics.
use Rattle.std.proofs.Common.{map, refl, subst, ap, ◌∙◌}
use Rattle.std.specs.Map.{values_of}
use Rattle.content_lock.specs.Indexed.{AreFalling}
use Rattle.content_lock.specs.Tokens.{keep_numbered}
use Rattle.content_lock.proofs.IndexedLemmas.{indexed_mapped}
use Rattle.content_lock.proofs.NumberedLemmas.{falling-reverse, values-numbered, view_mapped}
use Rattle.content_lock.proofs.holds.Holds.keep.Goals as goal

pub invariant_of-self : goal.invariant_of-self
invariant_of-self c =
    indexed_mapped (keep_numbered c.args.number) (λ h. refl) (λ h. refl) c.self.inside.by_number.entries c.keep.new.by_number.entries c.self.inside.numbers.entries c.self.invariant c.keep.ensures

pub returns-clause-kept : goal.returns-clause-kept
returns-clause-kept c =
    let hs = values_of c.self.inside.by_number.entries in
    let f = keep_numbered c.args.number in
    view_mapped f hs (values_of c.keep.new.by_number.entries) c.args.self.now (ap values_of c.keep.ensures ∙ values-numbered (map f hs)) c.self.view_is

pub returns-clause-falling : goal.returns-clause-falling
returns-clause-falling c = subst AreFalling c.self.view_is (falling-reverse (values_of c.self.inside.by_number.entries) c.self.invariant.rising)
