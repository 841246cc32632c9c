-- Whatever is asked of a part.
use Rattle.node_sessions.proofs.Seeing.{has_part}
use Rattle.node_sessions.proofs.laws.looks_see_parts.Goals as goal

pub returns : goal.returns
returns c = λ p xs links o fed. has_part c.verdicts_are_matches.ensures p xs links o fed
