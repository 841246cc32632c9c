-- What the step of the slot promises.
use Rattle.drop_phases.specs.Leaving.{store}
use Rattle.drop_phases.specs.Working.{sight}
use Rattle.drop_worker.proofs.Machines.{all_of}
use Rattle.drop_worker.proofs.StateFacts.{all_makes}
use Rattle.drop_worker.proofs.machine.step.Goals as goal

pub returns : goal.returns
returns g c =
    let a = all_of (sight (g.H.Here.reading c.args.here.now) (g.H.Here.ends c.args.here.now) c.args.input.now.time c.args.input.now.number) c.args.table.now c.advance.new.table (store (g.K.Keeper.contents c.args.keeper.now) (g.K.Keeper.records c.args.keeper.now) (g.K.Keeper.faults c.args.keeper.now))
    (store (g.K.Keeper.contents c.advance.new.keeper) (g.K.Keeper.records c.advance.new.keeper) (g.K.Keeper.faults c.advance.new.keeper)) c.args.worker.now c.advance.new.worker c.args.input.now.taken c.args.input.now.word c.advance.result c.requires.owns c.advance.ensures.does in
    let m = all_makes (sight (g.H.Here.reading c.args.here.now) (g.H.Here.ends c.args.here.now) c.args.input.now.time c.args.input.now.number) (g.K.Keeper.contents c.args.keeper.now) c.args.table.now c.args.worker.now c.args.input.now.taken (g.K.Keeper.failing c.args.keeper.now) (g.K.Keeper.failing c.advance.new.keeper) c.advance.result c.advance.ensures.calls in
    record {
      step = a.step;
      calls = m.0;
      left = m.1;
      err_failing = m.2;
      word = a.told;
      answer = a.answer;
      heard = a.heard;
      after = a.after;
      contents = a.contents;
      parts = c.advance.ensures.parts;
      files = c.advance.ensures.files;
      agrees = a.agrees;
      owns = a.owns;
      fits = a.fits;
      begun = c.advance.ensures.begun;
      own = c.advance.ensures.own;
      apart = c.advance.ensures.apart;
      job = (a.number, a.job);
      others = a.others;
      holds = a.holds;
      err = a.err;
      records = a.records;
      later = a.later;
      cause = a.cause;
      numbered = c.advance.ensures.numbered;
    }
