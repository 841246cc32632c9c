-- What the proof of `stamp::Stamp::print` needs beside the tactics.
use Rattle.std.proofs.Common.{◌≡◌, ◌<◌, ◌^◌, rules}
use Rattle.annex_base.specs.StampText.{stamp_text}
use Rattle.annex_base.proofs.StampLemmas.{stamp_written}
use Rattle.annex_base.proofs.stamp.Stamp.print.Goals as goal

pub returns-clause-again : goal.returns-clause-again
returns-clause-again c =
    let text : c.push.new.self.items ≡ stamp_text c.args.self.now = search rules in
    let limit : c.args.self.now < 10 ^ 19 = search rules in
    rw text (stamp_written c.args.self.now limit)
