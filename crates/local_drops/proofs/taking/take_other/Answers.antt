-- The connection is closed.
use Rattle.std.proofs.lemmas.Result.{IfOk-weaker}
use Rattle.drop_phases.specs.Doing.{Shuts}
use Rattle.drop_phases.specs.Feeding.{TakesOther}
use Rattle.local_drops.proofs.Others.{other_does}
use Rattle.local_drops.proofs.taking.take_other.Goals as goal

pub returns-clause-does : goal.returns-clause-does
returns-clause-does c =
    let w = c.args.worker.now in
    IfOk-weaker c.shut.result (Shuts c.args.peer w c.shut.new.worker) (TakesOther c.args.peer w c.shut.new.worker) (λ out s x rows p f comes. other_does x rows p w c.shut.new.worker f c.args.peer out c.requires.local c.requires.awaits s comes)
    c.shut.ensures.shuts
