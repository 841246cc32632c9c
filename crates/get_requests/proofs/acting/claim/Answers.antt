-- By the first peer, if there is one.
use Rattle.std.proofs.Common.{sym, ◌∙◌}
use Rattle.transfer_turns.specs.Steps.{seen}
use Rattle.get_requests.proofs.Results.{alone_claims, asked_claims, opened_claims}
use Rattle.get_requests.proofs.acting.claim.Goals as goal

pub returns-in-None : goal.returns-in-None
returns-in-None g c =
    let e = c.claim_alone.ensures in
    record { claims = alone_claims (g.H.Here.sight c.args.here.now) c.args.table.now c.claim_alone.new.table (seen (g.K.Keeper.contents c.args.keeper.now) (g.K.Keeper.parts c.args.keeper.now) (g.K.Keeper.records c.args.keeper.now) (g.K.Keeper.files c.args.keeper.now) (g.K.Keeper.faults c.args.keeper.now) (g.K.Keeper.failing c.args.keeper.now)) c.args.getting.now c.claim_alone.new.getting _ c.claim_alone.result (sym c.next_source.ensures ∙ c.in-None.is) e.talk e.next e.fills e.err e.err_table }

pub returns-then-is_open : goal.returns-then-is_open
returns-then-is_open g c =
    let e = c.claim_and_ask.ensures in
    record {
      claims = asked_claims (g.H.Here.sight c.args.here.now) c.args.table.now c.claim_and_ask.new.table (seen (g.K.Keeper.contents c.args.keeper.now) (g.K.Keeper.parts c.args.keeper.now) (g.K.Keeper.records c.args.keeper.now) (g.K.Keeper.files c.args.keeper.now) (g.K.Keeper.faults c.args.keeper.now) (g.K.Keeper.failing c.args.keeper.now)) (seen (g.K.Keeper.contents c.claim_and_ask.new.keeper) (g.K.Keeper.parts c.claim_and_ask.new.keeper) (g.K.Keeper.records c.claim_and_ask.new.keeper) (g.K.Keeper.files c.claim_and_ask.new.keeper) (g.K.Keeper.faults c.claim_and_ask.new.keeper) (g.K.Keeper.failing c.claim_and_ask.new.keeper)) c.args.getting.now c.claim_and_ask.new.getting _ c.in-Some.peer c.claim_and_ask.result
          (sym c.next_source.ensures ∙ c.in-Some.is) (sym c.is_open.ensures ∙ c.if-is_open.true) e.asks e.fills e.err_table;
    }

pub returns-else-is_open : goal.returns-else-is_open
returns-else-is_open g c =
    let e = c.claim_and_open.ensures in
    record {
      claims = opened_claims (g.H.Here.sight c.args.here.now) c.args.table.now c.claim_and_open.new.table (seen (g.K.Keeper.contents c.args.keeper.now) (g.K.Keeper.parts c.args.keeper.now) (g.K.Keeper.records c.args.keeper.now) (g.K.Keeper.files c.args.keeper.now) (g.K.Keeper.faults c.args.keeper.now) (g.K.Keeper.failing c.args.keeper.now)) c.args.getting.now c.claim_and_open.new.getting _ c.in-Some.peer c.claim_and_open.result
          (sym c.next_source.ensures ∙ c.in-Some.is) (sym c.is_open.ensures ∙ c.if-is_open.false) e.talk e.next e.fills e.err e.err_table;
    }
