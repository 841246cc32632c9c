-- What the proof of `words::Words::next` needs beside the tactics.
use Rattle.script_words.proofs.PlaceLemmas.{behind_within, next_ahead}
use Rattle.script_words.proofs.words.Words.next.Goals as goal

pub invariant_of-self : goal.invariant_of-self
invariant_of-self c =
    let line = c.self.inside.line.now in
    let place = c.self.inside.place in
    rw (c.place_behind-self-inside.ensures, c.find_word-found.ensures)
    (behind_within (record { line = line; place = place }) _ c.self.invariant (next_ahead line place c.self.invariant))

pub returns-clause-ahead : goal.returns-clause-ahead
returns-clause-ahead c = rw (← c.self.view_is, c.find_word-found.ensures) (next_ahead c.self.inside.line.now c.self.inside.place c.self.invariant)
