-- By the peer that is next.
use Rattle.std.proofs.Common.{sym, ◌∙◌}
use Rattle.transfer_turns.specs.Steps.{seen}
use Rattle.get_requests.proofs.Results.{asked_does, opened_does, sourceless_does}
use Rattle.get_requests.proofs.acting.go_on.Goals as goal

pub returns-in-None : goal.returns-in-None
returns-in-None g c =
    let w = c.args.getting.now in
    let e = c.end_sourceless.ensures in
    record {
      does = sourceless_does (g.H.Here.sight c.args.here.now) c.args.table.now (seen (g.K.Keeper.contents c.args.keeper.now) (g.K.Keeper.parts c.args.keeper.now) (g.K.Keeper.records c.args.keeper.now) (g.K.Keeper.files c.args.keeper.now) (g.K.Keeper.faults c.args.keeper.now) (g.K.Keeper.failing c.args.keeper.now)) w c.end_sourceless.new.getting c.end_sourceless.result c.requires.next c.requires.bare c.requires.has
          (sym c.next_source.ensures ∙ c.in-None.is) e.ends e.next e.err;
    }

pub returns-then-is_open : goal.returns-then-is_open
returns-then-is_open g c =
    record {
      does = asked_does (g.H.Here.sight c.args.here.now) c.args.table.now (seen (g.K.Keeper.contents c.args.keeper.now) (g.K.Keeper.parts c.args.keeper.now) (g.K.Keeper.records c.args.keeper.now) (g.K.Keeper.files c.args.keeper.now) (g.K.Keeper.faults c.args.keeper.now) (g.K.Keeper.failing c.args.keeper.now)) (seen (g.K.Keeper.contents c.ask_on.new.keeper) (g.K.Keeper.parts c.ask_on.new.keeper) (g.K.Keeper.records c.ask_on.new.keeper) (g.K.Keeper.files c.ask_on.new.keeper) (g.K.Keeper.faults c.ask_on.new.keeper) (g.K.Keeper.failing c.ask_on.new.keeper)) c.args.getting.now c.ask_on.new.getting c.in-Some.peer c.ask_on.result c.requires.next c.requires.has
          (sym c.next_source.ensures ∙ c.in-Some.is) (sym c.is_open.ensures ∙ c.if-is_open.true) c.ask_on.ensures;
    }

pub returns-else-is_open : goal.returns-else-is_open
returns-else-is_open g c =
    let e = c.open_next.ensures in
    record {
      does = opened_does (g.H.Here.sight c.args.here.now) c.args.table.now (seen (g.K.Keeper.contents c.args.keeper.now) (g.K.Keeper.parts c.args.keeper.now) (g.K.Keeper.records c.args.keeper.now) (g.K.Keeper.files c.args.keeper.now) (g.K.Keeper.faults c.args.keeper.now) (g.K.Keeper.failing c.args.keeper.now)) c.args.getting.now c.open_next.new.getting c.in-Some.peer c.open_next.result c.requires.next c.requires.has
          (sym c.next_source.ensures ∙ c.in-Some.is) (sym c.is_open.ensures ∙ c.if-is_open.false) e.talk e.next e.err;
    }
