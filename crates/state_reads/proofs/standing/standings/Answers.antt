-- What the proof of `standing::standings` needs beside the tactics.
use Rattle.std.proofs.Common.{◌∙◌}
use Rattle.std.specs.Prelude.{bytes_eq}
use Rattle.std.specs.List.{list_any}
use Rattle.trust_groups.specs.View.{settings_of}
use Rattle.node_model.specs.Evidence.{standing_by, standing_seen}
use Rattle.state_reads.proofs.Knowing.{standings_more}
use Rattle.state_reads.proofs.standing.standings.Goals as goal

pub loop-id-preserved : goal.loop-id-preserved
loop-id-preserved c =
    let claims = c.deref.ensures.value ∙ c.in_ok-claims.ensures.value in
    standings_more (standing_by (settings_of c.args.settings.now) c.args.key.now) c.args.ids.now c.loop-id.id-index c.id-item.result c.loop-id.standings.items c.push.new.self.items c.seen_as.result c.loop-id-test.true c.id-item.is
    c.loop-id.invariant c.in_ok-push.ensures.items (c.seen_as.ensures ∙ (λ i. standing_seen (c.level.ensures i) (list_any (λ claimed. bytes_eq claimed c.id-item.result) (claims i))))
