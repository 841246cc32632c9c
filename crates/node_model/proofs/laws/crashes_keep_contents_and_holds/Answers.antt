-- What the proof of `laws::crashes_keep_contents_and_holds` needs beside the tactics.
use Rattle.std.proofs.Common.{refl}
use Rattle.node_model.proofs.Crashes.{clock_set, holds_kept}
use Rattle.node_model.proofs.laws.crashes_keep_contents_and_holds.Goals as goal

pub returns-clause-jobs : goal.returns-clause-jobs
returns-clause-jobs c = λ s st e clock is. rw is refl

pub returns-clause-owed : goal.returns-clause-owed
returns-clause-owed c = λ s st e clock is. rw is refl

pub returns-clause-bars : goal.returns-clause-bars
returns-clause-bars c = λ s st e clock key is. rw is refl

pub returns-clause-clock : goal.returns-clause-clock
returns-clause-clock c = clock_set

pub returns-clause-contents : goal.returns-clause-contents
returns-clause-contents c = λ s st e clock key is. rw is (refl, refl)

pub returns-clause-holds : goal.returns-clause-holds
returns-clause-holds c = holds_kept
