-- What the proof of `serving::serve_if` needs beside the tactics.
use Rattle.node_sessions.specs.declared.served.Served.{Served}
use Rattle.node_sessions.specs.Serving.{end_by}
use Rattle.node_parts.specs.declared.done.Done.{Done}
use Rattle.node_parts.specs.Sending.{PostsOnly, answers_at}
use Rattle.node_parts.proofs.Pieces.{where_both}
use Rattle.node_parts.proofs.serving.serve_if.Goals as goal

pub serve-requires-clause-serves : goal.serve-requires-clause-serves
serve-requires-clause-serves c = c.requires.serves c.in-Some.served c.in-Some.is

pub returns-in-Some-clause-posts : goal.returns-in-Some-clause-posts
returns-in-Some-clause-posts c =
    where_both (λ (d : Done) (v : Served). PostsOnly (answers_at (end_by v) v.reply) c.args.stamp d.kind c.args.ends.now c.serve.new.ends d.taken d.sent) c.serve.result c.in-Some.served c.args.served c.in-Some.is c.serve.ensures.posts
