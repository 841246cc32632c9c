-- What the proof of `index::PathIndex::follow` needs beside the tactics: the index has taken in some marks more.
use Rattle.std.proofs.Common.{subst, sym}
use Rattle.run_paths.specs.Paths.{IsIndexOf}
use Rattle.run_paths.proofs.Marks.{index_on, index_whole}
use Rattle.run_paths.proofs.index.PathIndex.follow.Goals as goal

pub returns-clause-first : goal.returns-clause-first
returns-clause-first c =
    index_on c.args.marks.now c.split_at.result.1.now (record { tree = c.self.inside.tree; taken = c.self.inside.taken }) (record { tree = c.take_in.new.tree; taken = c.take_in.new.taken })
    (subst (IsIndexOf c.args.marks.now) (sym c.self.view_is) c.requires.first) c.split_at.ensures.back c.take_in.ensures.some
