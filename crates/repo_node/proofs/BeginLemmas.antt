-- Which jobs begin at a node.
use Rattle.std.proofs.Common.{◌≡◌, sym, subst}
use Rattle.run_data.specs.declared.job.Job.{Job}
use Rattle.node_ledger.specs.Ledgers.{LedgerView}
use Rattle.node_steps.specs.Beginning.{MayBegin}
use Rattle.node_steps.specs.Nodes.{NodeView, beside}
use Rattle.node_steps.specs.Parts.{PartsView}

-- a job that may begin by the node's set-up may begin where its jobs know that they stand
pub may_begin : {K : Type 0} (n : NodeView K) (l : LedgerView K) (p : PartsView) (what : Job) → beside p l ≡ n → p.jobs.place ≡ record { number = l.setup.number; ids = l.setup.repos }
    → MayBegin (record { number = n.setup.number; ids = n.setup.repos }) what.kind what.peer → MayBegin p.jobs.place what.kind what.peer
may_begin {K} n l p what view place may =
    subst (λ x. MayBegin x what.kind what.peer) (sym place) (subst (λ (m : NodeView K). MayBegin (record { number = m.setup.number; ids = m.setup.repos }) what.kind what.peer) (sym view) may)
