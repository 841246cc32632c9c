-- What the proof of `forcing::needs_none` needs beside the tactics.
use Rattle.std.proofs.Common.{sym, ap, ℕ, List, ◌∙◌}
use Rattle.step_judging.specs.Rules.{is_nil}
use Rattle.step_makes.proofs.NeedLemmas.{ending_needs}
use Rattle.job_makes.specs.Turns.{turn_in}
use Rattle.state_jobs.specs.Phases.{phase_of}
use Rattle.state_jobs.specs.declared.phase.Phase.{Phase}
use Rattle.node_model.specs.Turns.{needs}
use Rattle.step_makes.proofs.forcing.needs_none.Goals as goal

pub returns-in-Fresh : goal.returns-in-Fresh
returns-in-Fresh c = λ s st read. c.needs_no_peer.ensures s st ∙ ap (λ (p : Phase). is_nil (needs (turn_in c.args.turn.now s st) (phase_of p))) (sym c.in-Fresh.is)

pub returns-in-Next : goal.returns-in-Next
returns-in-Next c = λ s st read. c.goes_freely.ensures s st read ∙ ap (λ (p : Phase). is_nil (needs (turn_in c.args.turn.now s st) (phase_of p))) (sym c.in-Next.is)

pub returns-in-PutsBytes : goal.returns-in-PutsBytes
returns-in-PutsBytes c = λ s st read. ap (λ (p : Phase). is_nil (needs (turn_in c.args.turn.now s st) (phase_of p))) (sym c.in-PutsBytes.is)

pub returns-in-PutsWord : goal.returns-in-PutsWord
returns-in-PutsWord c = λ s st read. ap (λ (p : Phase). is_nil (needs (turn_in c.args.turn.now s st) (phase_of p))) (sym c.in-PutsWord.is)

pub returns-in_default : goal.returns-in_default
returns-in_default c = λ s st read.
    c.ends_freely.ensures s st
    ∙ ap (λ (ps : List ℕ). is_nil ps) (ending_needs (turn_in c.args.turn.now s st) c.args.turn.now.work.now.phase c.in_default.not-Fresh c.in_default.not-Next c.in_default.not-PutsBytes c.in_default.not-PutsWord)
