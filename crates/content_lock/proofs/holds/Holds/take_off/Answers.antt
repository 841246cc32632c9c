-- What the proof of `holds::Holds::take_off` needs beside the tactics.
use Rattle.std.proofs.Common.{subst}
use Rattle.std.specs.Map.{values_of}
use Rattle.content_lock.specs.Indexed.{AreFalling}
use Rattle.content_lock.proofs.NumberedLemmas.{falling-reverse, view_less}
use Rattle.content_lock.proofs.holds.Holds.take_off.Goals as goal

pub returns-clause-off : goal.returns-clause-off
returns-clause-off c = view_less (values_of c.self.inside.by_number.entries) (values_of c.take_off.new.by_number.entries) c.args.self.now c.args.number c.take_off.ensures.off c.self.view_is

pub returns-clause-falling : goal.returns-clause-falling
returns-clause-falling c = subst AreFalling c.self.view_is (falling-reverse (values_of c.self.inside.by_number.entries) c.self.invariant.rising)
