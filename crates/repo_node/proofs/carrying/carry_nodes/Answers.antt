-- What the proof of `carrying::carry_nodes` needs beside the tactics.
use Rattle.std.proofs.Common.{ap, subst, sym}
use Rattle.node_steps.specs.Parts.{PartsView}
use Rattle.content_lock.specs.Rows.{Rows}
use Rattle.content_lock.specs.Stored.{Agrees}
use Rattle.node_steps.specs.Nodes.{told_of}
use Rattle.node_steps.proofs.BeginLemmas.{fed_links, kept_links}
use Rattle.repo_node.proofs.carrying.carry_nodes.Goals as goal

pub invariant_of-a : goal.invariant_of-a
invariant_of-a g c =
    let i = c.a.inside in
    let w = c.carry in
    let same = w.ensures.rest in
    let table = ap (λ (p : PartsView). p.table) same in record {
      kept = kept_links i.ledger.setup i.ledger.clock i.ledger.history i.parts w.new.self i.ledger.branch i.ledger.owed (told_of (g.K.Keeper.contents i.ledger.keeper) (g.K.Keeper.parts i.ledger.keeper)) table (ap (λ (p : PartsView). p.jobs) same) w.ensures.parts c.a.invariant.kept;
      agrees = subst (λ (t : Rows). Agrees (g.K.Keeper.records i.ledger.keeper) t.holds) (sym table) c.a.invariant.agrees;
      fed = fed_links (g.K.Keeper.parts i.ledger.keeper) i.parts w.new.self (ap (λ (p : PartsView). p.sessions) same) (ap (λ (p : PartsView). p.jobs) same) c.a.invariant.fed;
    }

pub invariant_of-b : goal.invariant_of-b
invariant_of-b g c =
    let i = c.b.inside in
    let w = c.carry in
    let same = w.ensures.other_rest in
    let table = ap (λ (p : PartsView). p.table) same in record {
      kept = kept_links i.ledger.setup i.ledger.clock i.ledger.history i.parts w.new.other i.ledger.branch i.ledger.owed (told_of (g.K.Keeper.contents i.ledger.keeper) (g.K.Keeper.parts i.ledger.keeper)) table (ap (λ (p : PartsView). p.jobs) same) w.ensures.other_parts c.b.invariant.kept;
      agrees = subst (λ (t : Rows). Agrees (g.K.Keeper.records i.ledger.keeper) t.holds) (sym table) c.b.invariant.agrees;
      fed = fed_links (g.K.Keeper.parts i.ledger.keeper) i.parts w.new.other (ap (λ (p : PartsView). p.sessions) same) (ap (λ (p : PartsView). p.jobs) same) c.b.invariant.fed;
    }
