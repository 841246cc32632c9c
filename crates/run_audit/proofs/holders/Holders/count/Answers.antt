-- What the proof of `holders::Holders::count` needs beside the tactics.
use Rattle.std.proofs.Common.{arith}
use Rattle.std.proofs.lemmas.List.Sums.{count_by-le-length}
use Rattle.run_audit.specs.Holders.{is_held}
use Rattle.run_audit.proofs.holders.Holders.count.Goals as goal

pub overflow_cast-result : goal.overflow_cast-result
overflow_cast-result c =
    let most = count_by-le-length is_held c.args.self.now.each.items in
    let is = c.held-held.ensures in
    let few = c.requires in
    omega (arith, most, is, few)
