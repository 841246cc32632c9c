-- What the proof of `wishes::Wishes::read` needs beside the tactics.
use Rattle.wanted_rules.proofs.wishes.Wishes.read.Goals as goal

pub invariant_of-result : goal.invariant_of-result
invariant_of-result c = record {
  is_preferred = c.preferred_expr-preferred.ensures;
  is_required = c.required_expr-required.ensures;
  are_groups = c.in_ok-groups.ensures;
}
