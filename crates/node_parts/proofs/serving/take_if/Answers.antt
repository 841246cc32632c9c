-- What the proof of `serving::take_if` needs beside the tactics.
use Rattle.std.proofs.Common.{refl}
use Rattle.node_parts.proofs.Posts.{posts_nothing}
use Rattle.node_parts.proofs.serving.take_if.Goals as goal

pub returns-else-takes-clause-posts : goal.returns-else-takes-clause-posts
returns-else-takes-clause-posts c = posts_nothing c.args.ends.now c.args.ends.now refl
