-- What the proof of `jobs::add` needs beside the tactics.
use Rattle.std.proofs.Common.{sym, ◌∙◌}
use Rattle.storm_line.proofs.Counted.{counted_more, counted_other}
use Rattle.storm_line.proofs.jobs.add.Goals as goal

pub returns-then-is_of-clause-counted : goal.returns-then-is_of-clause-counted
returns-then-is_of-clause-counted c = λ past known.
    counted_more c.args.jobs.now c.change.new.jobs past c.args.entry.now c.args.repo (sym c.is_of.ensures ∙ c.if-is_of.true) c.in_ok-change.ensures.running c.in_ok-change.ensures.done
    c.in_ok-change.ensures.refused known

pub returns-clause-counted : goal.returns-clause-counted
returns-clause-counted c = λ past known. counted_other c.args.jobs.now past c.args.entry.now c.args.repo (sym c.is_of.ensures ∙ c.if-is_of.false) known
