-- What the proof of `repos::are_apart` needs beside the tactics.
use Rattle.joined_nodes.proofs.Apart.{all_passed, one_again, one_passed}
use Rattle.joined_nodes.proofs.repos.are_apart.Goals as goal

pub returns-then-is_among : goal.returns-then-is_among
returns-then-is_among c = one_again c.args.repos.now c.loop-place.place c.index-repos-place.result c.split_at.result.1.now c.is_among.result c.loop-place-test.true c.index-repos-place.is c.split_at.ensures.back c.is_among.ensures c.if-is_among.true c.loop-place.invariant

pub returns : goal.returns
returns c = all_passed c.args.repos.now c.loop-place.place c.loop-place-test.false c.loop-place.invariant

pub loop-place-preserved : goal.loop-place-preserved
loop-place-preserved c = one_passed c.args.repos.now c.loop-place.place c.index-repos-place.result c.split_at.result.1.now c.is_among.result c.loop-place-test.true c.index-repos-place.is c.split_at.ensures.back c.is_among.ensures c.if-is_among.false c.loop-place.invariant
