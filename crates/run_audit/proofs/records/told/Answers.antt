-- What the proof of `records::told` needs beside the tactics.
use Rattle.std.proofs.Common.{◌++◌, append-nil, append_assoc, ap, sym, ◌∙◌}
use Rattle.run_audit.specs.Changes.{told_key, told_of}
use Rattle.run_audit.proofs.records.told.Goals as goal

pub loop-key-preserved : goal.loop-key-preserved
loop-key-preserved c =
    let out = c.loop-key.keys.items in
    let rest = told_of c.next.new.self in
    ap (λ l. l ++ rest) c.in_ok-tell.ensures ∙ append_assoc out (told_key c.in-Some.key.now c.in-Some.record.now) rest ∙ ap (λ l. out ++ told_of l) (sym c.in-Some.ensures.steps) ∙ c.loop-key.invariant

pub returns-clause-value : goal.returns-clause-value
returns-clause-value c =
    let out = c.loop-key.keys.items in
    sym (append-nil out) ∙ ap (λ l. out ++ told_of l) (sym c.in-None.ensures.steps.0) ∙ c.loop-key.invariant

pub returns-clause-order : goal.returns-clause-order
returns-clause-order c = c.iter-key-items.ensures.ordered
