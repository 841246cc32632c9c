-- What the proof of `end::drop_old` needs beside the tactics.
use Rattle.std.proofs.Common.{nat_lt, rules}
use Rattle.std.proofs.lemmas.Fn.{filter_same}
use Rattle.link_ring.proofs.end.drop_old.Goals as goal

pub returns-clause-rest : goal.returns-clause-rest
returns-clause-rest c = filter_same _ (λ f. nat_lt c.args.epoch f.epoch) _ (λ x b q h. search rules) c.args.frames.now.items c.retain.new.self.items c.retain.ensures.filtered
