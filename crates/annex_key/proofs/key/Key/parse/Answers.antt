-- What the proof of `key::Key::parse` needs beside the tactics.
use Rattle.annex_key.proofs.AnswerLemmas as answers
use Rattle.annex_key.proofs.key.Key.parse.Goals as goal

pub returns-clause-found : goal.returns-clause-found
returns-clause-found c = answers.found _ c.args.text.now c.read.result c.read.ensures.text c.read.ensures.exact

pub returns-clause-only : goal.returns-clause-only
returns-clause-only c = answers.only _ c.args.text.now c.read.result c.read.ensures.text c.read.ensures.exact

pub returns-clause-faults : goal.returns-clause-faults
returns-clause-faults c = answers.faults c.args.text.now c.read.result c.read.ensures.exact
