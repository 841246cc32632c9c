-- What the proof of `owed::Owed::ready` needs beside the tactics.
use Rattle.std.proofs.Common.{option_copied, option_map}
use Rattle.state_jobs.specs.Works.{work_of}
use Rattle.state_owed.specs.Owed.{lines_of}
use Rattle.state_owed.proofs.PayLemmas.{change_is}
use Rattle.state_owed.proofs.owed.Owed.ready.Goals as goal

pub returns-clause-change : goal.returns-clause-change
returns-clause-change c = λ s st before are.
    change_is s st c.args.entry.now c.args.repo c.args.ids.now c.args.branch.now c.args.clock (option_map work_of (option_copied c.args.job)) c.args.heard.now
    (lines_of c.args.self.now) c.in_ok-change.change before c.requires.heard are.owed c.in_ok-change.ensures.change
