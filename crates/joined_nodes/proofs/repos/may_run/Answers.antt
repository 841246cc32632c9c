-- What the proof of `repos::may_run` needs beside the tactics.
use Rattle.std.proofs.Common.{sym, ◌∙◌}
use Rattle.joined_nodes.proofs.Apart.{apart_pairs, pairs_apart}
use Rattle.joined_nodes.proofs.repos.may_run.Goals as goal

pub returns-then-are_set_up : goal.returns-then-are_set_up
returns-then-are_set_up c =
    (λ is. record { few = c.if-repos-ge-TOO_MANY.false; each = c.are_set_up.ensures.0 c.if-are_set_up.true; apart = apart_pairs c.args.repos.now (sym c.are_apart.ensures ∙ is) }, λ may. c.are_apart.ensures ∙ pairs_apart c.args.repos.now may.apart)
