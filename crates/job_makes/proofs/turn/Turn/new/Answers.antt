-- What the proof of `turn::Turn::new` needs beside the tactics.
use Rattle.std.proofs.Common.{sym}
use Rattle.job_makes.proofs.turn.Turn.new.Goals as goal

pub returns-clause-set_up : goal.returns-clause-set_up
returns-clause-set_up c = λ s st repos is. λ i. record s { number = sym (c.number.ensures s st is) i; repos = sym repos i }

pub returns-clause-state : goal.returns-clause-state
returns-clause-state c = λ s st is.
    let rows = c.rows.ensures s st is in
    let counts = is.parts.counts in
    λ i. record st {
      clock = sym counts.clock i;
      made = sym counts.made i;
      present = λ key. sym (rows.present key) i;
      bar = λ key. sym (rows.bar key) i;
      content = λ key. sym (rows.content key) i;
      holds = sym rows.holds i;
      ends = λ a. sym ((c.ends.ensures s st is).ends a) i;
      works = sym (c.jobs.ensures s st is).works i;
    }
