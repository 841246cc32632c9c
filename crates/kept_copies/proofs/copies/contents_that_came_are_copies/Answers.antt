-- What the proof of `copies::contents_that_came_are_copies` needs beside the tactics.
use Rattle.kept_copies.proofs.Coming.{came}
use Rattle.kept_copies.proofs.copies.contents_that_came_are_copies.Goals as goal

pub returns : goal.returns
returns c = came
