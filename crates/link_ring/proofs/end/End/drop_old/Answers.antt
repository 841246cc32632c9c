-- What the proof of `end::End::drop_old` needs beside the tactics.
use Rattle.std.proofs.Common.{◌≡◌, rules, sym, subst, ap, ◌∙◌}
use Rattle.link_ring.specs.Ends.{EndView, ArePaired, after_drop, next_frame}
use Rattle.link_ring.proofs.Dropping.{first_stays, paired_drop}
use Rattle.link_ring.proofs.end.End.drop_old.Goals as goal

pub returns-clause-first : goal.returns-clause-first
returns-clause-first c =
    let i = c.self.inside in
    let now : EndView = record { epoch = i.epoch; phase = i.phase; sent = i.sent; at_hand = c.keep_new.new.frames.items; on_way = i.on_way.items; used = i.used } in
    let same : now ≡ after_drop c.args.self.now = search rules in
    ap next_frame same ∙ first_stays c.args.self.now

pub returns-clause-paired : goal.returns-clause-paired
returns-clause-paired c = λ other pair.
    let i = c.self.inside in
    let now : EndView = record { epoch = i.epoch; phase = i.phase; sent = i.sent; at_hand = c.keep_new.new.frames.items; on_way = i.on_way.items; used = i.used } in
    let same : now ≡ after_drop c.args.self.now = search rules in
    subst (λ (e : EndView). ArePaired e other) (sym same) (paired_drop c.args.self.now other pair)
