-- What the proof of `known::required_of` needs beside the tactics.
use Rattle.std.proofs.Common.{ap, ◌∙◌}
use Rattle.trust_groups.specs.View.{settings_of}
use Rattle.wanted_expr.specs.Wanted.{required}
use Rattle.wanted_rules.specs.Reads.{Wishing}
use Rattle.state_reads.proofs.known.required_of.Goals as goal

pub returns : goal.returns
returns c =
    c.in_ok-owned.ensures ∙ (c.in_ok-text.ensures ∙ ap (λ (w : Wishing). required (settings_of w.indices) w.repo c.args.key.now c.args.paths.now) c.in_ok-wishes.ensures)
