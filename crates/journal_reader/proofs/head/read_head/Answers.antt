-- What the proof of `head::read_head` needs beside the tactics.
use Rattle.std.proofs.Common.{◌≡◌, Some}
use Rattle.journal_reader.proofs.HeadLemmas.{actor_form, head_read}
use Rattle.journal_reader.proofs.head.read_head.Goals as goal

pub returns : goal.returns
returns c = λ past are.
    let actor : Some (c.in-Some-2.repo, (c.in-Some-2.kind, c.in-Some-2.adds)) ≡ (actor_form c.args.repos.now c.args.tree.now past).read c.in-Some-cut.rest.now = rw c.in-Some-2.is at (c.in_ok-repo.ensures past are) in
    head_read c.args.repos.now c.args.tree.now past c.args.line.now (c.in-Some.word.now, c.in-Some.rest.now) (c.in-Some-cut.word.now, c.in-Some-cut.rest.now) c.in-Some-read_large.time c.in-Some-read_large-2.count
    (c.in-Some-2.repo, (c.in-Some-2.kind, c.in-Some-2.adds))
    c.in-Some.ensures.parts c.in-Some-read_large.ensures c.in-Some-cut.ensures.parts c.in-Some-read_large-2.ensures actor
