-- The session at the place is closed.
use Rattle.std.proofs.Common.{length, refl}
use Rattle.std.proofs.lemmas.Option.{slice_get_read}
use Rattle.node_sessions.proofs.Filling.{fills_had}
use Rattle.node_sessions.proofs.ending.close_at.Goals as goal

pub closed-requires-clause-owns : goal.closed-requires-clause-owns
closed-requires-clause-owns c =
    let xs = c.args.sessions.now.items in
    let x = c.index_mut.result.now in c.requires.owns.shares c.args.at x (slice_get_read xs (length xs) c.args.at x refl c.requires.within c.index_mut.ensures.value)

pub closed-requires-clause-fills : goal.closed-requires-clause-fills
closed-requires-clause-fills c =
    let xs = c.args.sessions.now.items in
    let x = c.index_mut.result.now in
    fills_had c.args.table.now x.state.doing (c.requires.owns.fills c.args.at x (slice_get_read xs (length xs) c.args.at x refl c.requires.within c.index_mut.ensures.value))

pub returns : goal.returns
returns c =
    let xs = c.args.sessions.now.items in
    let x = c.index_mut.result.now in
    let e = c.closed.ensures in record {
      was = x;
      now = c.closed.new.self;
      here = slice_get_read xs (length xs) c.args.at x refl c.requires.within c.index_mut.ensures.value;
      left = refl;
      closed = record { session = e.session; share = e.share; place = e.place; after = e.after; numbers = e.numbers; filled = e.filled; owns = e.owns; fills = e.fills; fed = e.fed; others = e.others; agrees = e.agrees };
    }
