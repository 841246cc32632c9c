-- What the proof of `groups::only_expr` needs beside the tactics.
use Rattle.wanted_rules.proofs.GroupLemmas.{only_none}
use Rattle.wanted_rules.proofs.groups.only_expr.Goals as goal

pub returns-in_default : goal.returns-in_default
returns-in_default c = only_none c.args.exprs.now c.in_default.ensures.cases
