-- What the proof of `parts::Parts::new` needs beside the tactics.
use Rattle.std.proofs.Common.{rules, ◌≡◌, ◌*◌, length, sym, subst, ◌∙◌}
use Rattle.std.specs.Prelude.{replicate}
use Rattle.link_ring.specs.Ends.{fresh}
use Rattle.running_jobs.specs.Running.{Jobs, AreAllFed as JobsFed}
use Rattle.node_parts.proofs.Going.{first_sound, no_jobs, no_rows}
use Rattle.node_parts.proofs.parts.Parts.new.Goals as goal

pub invariant_of-result : goal.invariant_of-result
invariant_of-result c =
    let table : c.in_ok-table.table ≡ no_rows = search rules in
    let links : c.new-ends.result ≡ replicate (length c.args.ids * 8) fresh = search rules in
    let jobs : c.new-jobs.result ≡ no_jobs c.args.number c.args.ids = search rules in
    first_sound c.args.number c.args.ids (record { table = c.in_ok-table.table; links = c.new-ends.result; sessions = c.in_ok-sessions.sessions; jobs = c.new-jobs.result })
    c.in_ok-sessions.ensures.owns c.in_ok-sessions.ensures.fills (λ ends count. c.in_ok-sessions.ensures.there ends (count ∙ search rules)) table links jobs

pub returns-clause-fed : goal.returns-clause-fed
returns-clause-fed c = λ q.
    let jobs : c.new-jobs.result ≡ no_jobs c.args.number c.args.ids = search rules in
    record { serving = c.in_ok-sessions.ensures.fed q; acting = subst (λ (j : Jobs). JobsFed q j.running) (sym jobs) tt }
