-- What the proof of `node::Node::begin` needs beside the tactics.
use Rattle.std.proofs.Common.{sym, ap, subst, ◌∙◌}
use Rattle.content_lock.specs.Rows.{Rows}
use Rattle.content_lock.specs.Stored.{Agrees}
use Rattle.node_steps.specs.Beginning.{Begins}
use Rattle.node_steps.specs.Parts.{PartsView}
use Rattle.node_past.proofs.OwedLemmas.{debts_grow, owed_grows, owed_in}
use Rattle.node_ledger.proofs.WriteLemmas.{ledger_of}
use Rattle.node_steps.specs.Nodes.{beside, told_of}
use Rattle.node_steps.proofs.KeptLemmas.{stands_in}
use Rattle.node_steps.proofs.BeginLemmas.{begun_grows, begun_kept, seen_begun}
use Rattle.repo_node.proofs.BeginLemmas.{may_begin}
use Rattle.repo_node.proofs.node.Node.begin.Goals as goal

pub begin_parts-requires-clause-may : goal.begin_parts-requires-clause-may
begin_parts-requires-clause-may g c =
    let i = c.self.inside in
    may_begin c.args.self.now i.ledger i.parts c.args.job c.self.view_is c.self.invariant.kept.place c.requires.may

pub invariant_of-self-2 : goal.invariant_of-self-2
invariant_of-self-2 g c =
    let i = c.self.inside in
    let j = c.ledger.inside in
    let w = c.begin_parts in
    let it = c.in_ok-number in
    let last = c.add.new.self in
    let stands = stands_in g.K.Keeper.contents g.K.Keeper.parts g.K.Keeper.records (ledger_of j.keeper j.branch j.past (owed_in j.past j.debts.items)) i.ledger i.parts c.ledger.view_is c.self.invariant in
    let same = w.ensures.rest in
    let grows = begun_grows j.past w.new.past last it.number c.args.job c.new-lines.result w.ensures.same c.add.ensures in
    let table = ap (λ (p : PartsView). p.table) same in record {
      kept = begun_kept c.tables_fill_as_states.ensures j.past w.new.past last i.parts w.new.parts j.branch (owed_in j.past j.debts.items) (owed_in last j.debts.items) (told_of (g.K.Keeper.contents j.keeper) (g.K.Keeper.parts j.keeper)) it.number c.args.job c.args.paths c.new-lines.result
          c.table.ensures.sound same it.ensures.jobs it.ensures.parts it.ensures.number c.new-lines.ensures w.ensures.same c.add.ensures (owed_grows j.past last j.debts.items grows c.ledger.invariant.2) stands.kept;
      agrees = subst (λ (t : Rows). Agrees (g.K.Keeper.records j.keeper) t.holds) (sym table) stands.agrees;
      fed = λ q told. it.ensures.fed q (stands.fed q told);
    }

pub invariant_of-ledger-2 : goal.invariant_of-ledger-2
invariant_of-ledger-2 g c =
    let j = c.ledger.inside in
    let w = c.begin_parts in
    let last = c.add.new.self in
    let grows = begun_grows j.past w.new.past last c.in_ok-number.number c.args.job c.new-lines.result w.ensures.same c.add.ensures in (
      c.ledger.invariant.0,
      c.ledger.invariant.1,
      debts_grow j.past last j.debts.items grows c.ledger.invariant.2,
    )

pub returns-clause-jobs : goal.returns-clause-jobs
returns-clause-jobs g c = subst (λ v. Begins v.parts.jobs c.args.job c.args.paths c.begin_parts.new.parts.jobs) c.self.view_is c.in_ok-number.ensures.jobs

pub returns-clause-ok : goal.returns-clause-ok
returns-clause-ok g c =
    let i = c.self.inside in
    let j = c.ledger.inside in
    let w = c.begin_parts in
    let it = c.in_ok-number in
    let last = c.add.new.self in
    let stands = stands_in g.K.Keeper.contents g.K.Keeper.parts g.K.Keeper.records (ledger_of j.keeper j.branch j.past (owed_in j.past j.debts.items)) i.ledger i.parts c.ledger.view_is c.self.invariant in
    let same = w.ensures.rest in
    let grows = begun_grows j.past w.new.past last it.number c.args.job c.new-lines.result w.ensures.same c.add.ensures in
    seen_begun j.keeper i.parts w.new.parts j.branch j.past w.new.past last (owed_in j.past j.debts.items) (owed_in last j.debts.items) it.number c.args.job c.new-lines.result c.args.self.now (ap (beside i.parts) c.ledger.view_is ∙ c.self.view_is) same c.new-lines.ensures w.ensures.same c.add.ensures
    (owed_grows j.past last j.debts.items grows c.ledger.invariant.2)
