-- What the proof of `node::Node::drop_old` needs beside the tactics.
use Rattle.std.proofs.Common.{ap, subst, sym}
use Rattle.node_steps.specs.Parts.{PartsView}
use Rattle.content_lock.specs.Rows.{Rows}
use Rattle.content_lock.specs.Stored.{Agrees}
use Rattle.node_steps.specs.Nodes.{told_of}
use Rattle.node_steps.proofs.BeginLemmas.{fed_links, kept_links}
use Rattle.repo_node.proofs.node.Node.drop_old.Goals as goal

pub invariant_of-self : goal.invariant_of-self
invariant_of-self g c =
    let i = c.self.inside in
    let w = c.drop_old in
    let same = w.ensures.links in
    let table = ap (λ (p : PartsView). p.table) same in record {
      kept = kept_links i.ledger.setup i.ledger.clock i.ledger.history i.parts w.new.self i.ledger.branch i.ledger.owed (told_of (g.K.Keeper.contents i.ledger.keeper) (g.K.Keeper.parts i.ledger.keeper)) table (ap (λ (p : PartsView). p.jobs) same) w.ensures.parts c.self.invariant.kept;
      agrees = subst (λ (t : Rows). Agrees (g.K.Keeper.records i.ledger.keeper) t.holds) (sym table) c.self.invariant.agrees;
      fed = fed_links (g.K.Keeper.parts i.ledger.keeper) i.parts w.new.self (ap (λ (p : PartsView). p.sessions) same) (ap (λ (p : PartsView). p.jobs) same) c.self.invariant.fed;
    }
