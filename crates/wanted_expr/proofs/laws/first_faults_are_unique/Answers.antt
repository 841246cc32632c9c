-- What the proof of `laws::first_faults_are_unique` needs beside the tactics.
use Rattle.wanted_expr.proofs.ParseLemmas.{one_fault}
use Rattle.wanted_expr.proofs.laws.first_faults_are_unique.Goals as goal

pub returns : goal.returns
returns c = one_fault c.globs_are_unique.ensures
