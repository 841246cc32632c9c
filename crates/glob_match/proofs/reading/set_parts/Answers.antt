-- What the proof of `reading::set_parts` needs beside the tactics.
use Rattle.glob_match.proofs.ReadingLemmas.{set_found, set_open_here, set_within, set_taken, set_dropped}
use Rattle.glob_match.proofs.reading.set_parts.Goals as goal

pub split_at-requires : goal.split_at-requires
split_at-requires c = rw c.set_len-end.ensures (set_within c.args.pattern.now)

pub returns : goal.returns
returns c =
    set_found c.args.pattern.now c.split_at.result.0.now c.split_at.result.1.now c.in_ok-rest.rest.now c.in_ok-rest.field-0-0.now
    (set_taken c.args.pattern.now c.split_at.result.0.now c.set_len-end.result c.set_len-end.ensures c.split_at.ensures.front)
    (set_dropped c.args.pattern.now c.split_at.result.1.now c.set_len-end.result c.set_len-end.ensures c.split_at.ensures.back)
    c.in_ok-rest.ensures.cases.0

pub returns-in_err-rest : goal.returns-in_err-rest
returns-in_err-rest c =
    set_open_here (λ x. (x.0.now, x.1.now)) c.from_residual.result c.args.pattern.now c.split_at.result.1.now c.from_residual.ensures
    (set_dropped c.args.pattern.now c.split_at.result.1.now c.set_len-end.result c.set_len-end.ensures c.split_at.ensures.back)
    c.in_err-rest.ensures.cases
