-- What the proof of `state::RepoState::note` needs beside the tactics.
use Rattle.std.proofs.Common.{◌+◌, ◌^◌, arith}
use Rattle.state_rows.specs.Rows.{size_of}
use Rattle.step_state.specs.Bounds.{limit_after}
use Rattle.step_state.specs.Counts.{made_in}
use Rattle.step_state.proofs.StateLemmas.{ended, some_links, some_rows, some_set_up, some_state}
use Rattle.step_state.proofs.StayLemmas.{jobs_higher, links_higher}
use Rattle.step_state.proofs.state.RepoState.note.Goals as goal

pub note-requires-clause-below : goal.note-requires-clause-below
note-requires-clause-below c =
    let was = c.args.self.now in
    links_higher (limit_after (made_in was.counts)) (2 ^ 125) was.links (omega (arith, c.requires.few)) c.requires.well.links_below

pub note-requires-2-clause-below : goal.note-requires-2-clause-below
note-requires-2-clause-below c =
    let was = c.args.self.now in
    jobs_higher (limit_after (made_in was.counts)) (2 ^ 127) was.working.jobs (omega (arith, c.requires.few)) c.requires.well.jobs_below

pub returns-clause-parts : goal.returns-clause-parts
returns-clause-parts c = λ s st so are.
    let links = c.note.ensures.links (size_of c.args.self.now.rows) s st c.requires.change.heard are.rows.content are.links in
    record {
      place = are.place;
      wall = are.wall;
      counts = c.note-4.ensures.counts s st are.counts;
      rows = c.note-3.ensures s st are.rows;
      links = links;
      working = c.note-2.ensures.working s st are.place are.rows (ended s st c.args.entry.now c.note.new.self links) so are.working;
    }

pub returns-clause-well : goal.returns-clause-well
returns-clause-well c =
    let was = c.args.self.now in
    let m = made_in was.counts in
    let x = some_state was.rows was.links in
    let s = some_set_up 0 in
    let links = c.note.ensures.links (size_of was.rows) s x c.requires.change.heard (some_rows was.rows was.links).content (some_links was.rows was.links) in
    record {
      links_below = links_higher (limit_after m + 2 ^ 65) (limit_after (made_in c.note-4.new.self)) c.note.new.self (omega (arith, c.note-4.ensures.made)) (c.note.ensures.below (limit_after m) (omega arith) c.requires.well.links_below);
      jobs_below = jobs_higher (limit_after m + 2 ^ 64) (limit_after (made_in c.note-4.new.self)) c.note-2.new.self.jobs (omega (arith, c.note-4.ensures.made)) (c.note-2.ensures.below (limit_after m) (omega arith) c.requires.well.jobs_below);
      within = c.note-2.ensures.within s x (some_rows was.rows was.links) (ended s x c.args.entry.now c.note.new.self links) c.requires.peers c.requires.change.within c.requires.well.within;
    }
