-- What the proof of `end::keep_new` needs beside the tactics.
use Rattle.std.proofs.Common.{not, rules}
use Rattle.std.proofs.lemmas.Fn.{filter_same}
use Rattle.link_ring.specs.Frames.{is_old}
use Rattle.link_ring.proofs.end.keep_new.Goals as goal

pub returns-then-not-is_empty-clause-rest : goal.returns-then-not-is_empty-clause-rest
returns-then-not-is_empty-clause-rest c = filter_same _ (λ f. not (is_old c.args.epoch c.args.phase f)) _ (λ x b q h. search rules) c.args.frames.now.items c.retain.new.self.items c.retain.ensures.filtered
