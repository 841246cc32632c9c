-- Where it goes on from.
use Rattle.std.proofs.Common.{subst}
use Rattle.std.specs.Prelude.{IfOk}
use Rattle.transfer_turns.specs.Steps.{seen}
use Rattle.get_requests.proofs.Nexts.{next_own}
use Rattle.get_requests.specs.Requesting.{IsEnding}
use Rattle.get_requests.proofs.Results.{ends_does}
use Rattle.get_requests.proofs.acting.act.Goals as goal

pub go_on-requires-clause-next : goal.go_on-requires-clause-next
go_on-requires-clause-next g c = next_own c.args.table.now c.args.getting.now c.in-Next.fill c.in-Next.is c.requires.has

pub returns-in-Ends : goal.returns-in-Ends
returns-in-Ends g c =
    record {
      does = ends_does (g.H.Here.sight c.args.here.now) c.args.table.now (seen (g.K.Keeper.contents c.args.keeper.now) (g.K.Keeper.parts c.args.keeper.now) (g.K.Keeper.records c.args.keeper.now) (g.K.Keeper.files c.args.keeper.now) (g.K.Keeper.faults c.args.keeper.now) (g.K.Keeper.failing c.args.keeper.now)) c.args.getting.now c.in-Ends.why c.end_so.result c.in-Ends.is
          c.requires.bare c.requires.has
          (subst (λ o. IfOk c.end_so.result (IsEnding (g.H.Here.sight c.args.here.now) c.args.getting.now.number c.args.getting.now.slot o)) c.outcome.ensures c.end_so.ensures);
    }
