-- The session at the place that has something to do.
use Rattle.std.proofs.Common.{length, refl}
use Rattle.std.proofs.lemmas.Option.{slice_get_read}
use Rattle.std.proofs.lemmas.Result.{IfOk-weaker}
use Rattle.node_sessions.proofs.Filling.{fills_had}
use Rattle.node_sessions.proofs.serving.serve.Goals as goal

pub act-requires-clause-owns : goal.act-requires-clause-owns
act-requires-clause-owns g c =
    let xs = c.args.sessions.now.items in
    let x = c.index_mut-session.result.now in c.requires.owns.shares c.args.first.at x (slice_get_read xs (length xs) c.args.first.at x refl c.requires.first.within c.index_mut-session.ensures.value)

pub act-requires-clause-fills : goal.act-requires-clause-fills
act-requires-clause-fills g c =
    let xs = c.args.sessions.now.items in
    let x = c.index_mut-session.result.now in
    fills_had c.args.table.now x.state.doing (c.requires.owns.fills c.args.first.at x (slice_get_read xs (length xs) c.args.first.at x refl c.requires.first.within c.index_mut-session.ensures.value))

pub act-requires-clause-there : goal.act-requires-clause-there
act-requires-clause-there g c =
    let xs = c.args.sessions.now.items in
    let x = c.index_mut-session.result.now in c.requires.there c.args.first.at x (slice_get_read xs (length xs) c.args.first.at x refl c.requires.first.within c.index_mut-session.ensures.value)

pub act-requires-clause-turn : goal.act-requires-clause-turn
act-requires-clause-turn g c =
    let xs = c.args.sessions.now.items in
    let x = c.index_mut-session.result.now in c.requires.first.here x (slice_get_read xs (length xs) c.args.first.at x refl c.requires.first.within c.index_mut-session.ensures.value)

pub returns-clause-serves : goal.returns-clause-serves
returns-clause-serves g c =
    let xs = c.args.sessions.now.items in
    let x = c.index_mut-session.result.now in
    IfOk-weaker c.act.result _ _
    (λ v h. record { was = x; now = c.act.new.session; here = slice_get_read xs (length xs) c.args.first.at x refl c.requires.first.within c.index_mut-session.ensures.value; left = refl; serves = h })
    c.act.ensures.serves

pub returns-clause-calls : goal.returns-clause-calls
returns-clause-calls g c =
    let xs = c.args.sessions.now.items in
    let x = c.index_mut-session.result.now in
    IfOk-weaker c.act.result _ _
    (λ v h. record { was = x; here = slice_get_read xs (length xs) c.args.first.at x refl c.requires.first.within c.index_mut-session.ensures.value; makes = h })
    c.act.ensures.calls
