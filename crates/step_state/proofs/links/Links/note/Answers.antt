-- What the proof of `links::Links::note` needs beside the tactics.
use Rattle.std.proofs.Common.{◌+◌, ◌^◌, length, arith}
use Rattle.step_state.proofs.StayLemmas.{ends_higher}
use Rattle.step_state.proofs.links.Links.note.Goals as goal

pub note-requires-clause-below : goal.note-requires-clause-below
note-requires-clause-below c = ends_higher (2 ^ 125) (2 ^ 126) c.args.self.now.ends (omega arith) c.requires.below.ends

pub returns-clause-links : goal.returns-clause-links
returns-clause-links c = λ content s st heard agrees are. record {
  ends = c.note.ensures.ends s st are.ends;
  sessions = c.note-2.ensures.sessions content s st heard agrees are.sessions;
}

pub returns-clause-below : goal.returns-clause-below
returns-clause-below c = λ limit le below. record {
  ends = ends_higher (limit + length c.args.entry.now.sent) (limit + 2 ^ 65) c.note.new.self (omega (arith, c.requires.sent)) (c.note.ensures.below limit (omega (arith, le)) below.ends);
  sessions = c.note-2.ensures.below limit le below.sessions;
}
