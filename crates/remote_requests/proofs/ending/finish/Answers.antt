-- What the end does and leaves, by what the job has.
use Rattle.std.proofs.Common.{sym, ap, subst, ◌∙◌, arith, true, refl}
use Rattle.run_data.specs.declared.entry.EntryKind.TheVariants.{End}
use Rattle.node_model.specs.Look.{failed_in}
use Rattle.drop_phases.specs.declared.phase.Token.{Token}
use Rattle.drop_phases.specs.Doing.{HasToken}
use Rattle.drop_phases.specs.Feeding.{IsBare}
use Rattle.drop_phases.specs.Leaving.{store}
use Rattle.drop_phases.specs.Worker.{Worker}
use Rattle.drop_phases.specs.Working.{partings}
use Rattle.drop_phases.specs.declared.turn.Output.{Output}
use Rattle.remote_requests.proofs.Apart.{ends_apart, unreleased_apart}
use Rattle.remote_requests.proofs.EndCalls.{bare_makes, lost_makes, released_makes, unreleased_makes}
use Rattle.remote_requests.proofs.RemoteBegun.{ends_gone, unreleased_gone}
use Rattle.remote_requests.proofs.RemoteEndings.{agrees_still, bare_did, failed_did, lost_did, released_did}
use Rattle.remote_requests.proofs.ending.finish.Goals as goal

pub returns-then-lost-clause-did : goal.returns-then-lost-clause-did
returns-then-lost-clause-did g c =
    let read = g.H.Here.reading c.args.here.now in
    let ends = g.H.Here.ends c.args.here.now in
    let w = c.args.worker.now in
    let k = store (g.K.Keeper.contents c.args.keeper.now) (g.K.Keeper.records c.args.keeper.now) (g.K.Keeper.faults c.args.keeper.now) in
    lost_did read ends c.args.time c.args.table.now c.abandon.new.self k k w c.take_token.new.self c.args.outcome c.in_ok-sends.sends c.ending-then-lost.result
    (c.ending-then-lost.ensures ∙ (λ i. record { kind = End ((c.number-then-lost.ensures ∙ ap (λ (u : Worker). u.number) c.take_token.ensures.bare) i) c.args.outcome; sends = c.in_ok-sends.sends; ended = true }))
    (c.in_ok-sends.ensures ∙ ap (partings read ends w) c.is_lost-lost.ensures) c.take_token.ensures.bare refl (agrees_still k.records c.args.table.now c.abandon.new.self c.abandon.ensures.labels c.requires.agrees) (omega arith)
    c.in-Share.share (subst (λ (t : Token). HasToken w.number w.job.key t c.args.table.now) (sym c.take_token.ensures.token ∙ c.in-Share.is) c.requires.owns)
    (sym c.is_lost-lost.ensures ∙ c.if-lost.true) c.abandon.ensures.after c.abandon.ensures.owns c.abandon.ensures.others

pub returns-in-Nothing-clause-did : goal.returns-in-Nothing-clause-did
returns-in-Nothing-clause-did g c =
    let read = g.H.Here.reading c.args.here.now in
    let ends = g.H.Here.ends c.args.here.now in
    let w = c.args.worker.now in
    let k = store (g.K.Keeper.contents c.args.keeper.now) (g.K.Keeper.records c.args.keeper.now) (g.K.Keeper.faults c.args.keeper.now) in
    bare_did read ends c.args.time c.args.table.now c.args.table.now k k w c.take_token.new.self c.args.outcome c.in_ok-sends.sends c.ending.result
    (c.ending.ensures ∙ (λ i. record { kind = End ((c.number.ensures ∙ ap (λ (u : Worker). u.number) c.take_token.ensures.bare) i) c.args.outcome; sends = c.in_ok-sends.sends; ended = true }))
    (c.in_ok-sends.ensures ∙ ap (partings read ends w) c.is_lost-lost.ensures) c.take_token.ensures.bare refl c.requires.agrees (omega arith)
    (subst (λ (t : Token). HasToken w.number w.job.key t c.args.table.now) (sym c.take_token.ensures.token ∙ c.in-Nothing.is) c.requires.owns) refl

pub returns-in-Ok-clause-did : goal.returns-in-Ok-clause-did
returns-in-Ok-clause-did g c =
    let read = g.H.Here.reading c.args.here.now in
    let ends = g.H.Here.ends c.args.here.now in
    let w = c.args.worker.now in
    let k = store (g.K.Keeper.contents c.args.keeper.now) (g.K.Keeper.records c.args.keeper.now) (g.K.Keeper.faults c.args.keeper.now) in
    let k' = store (g.K.Keeper.contents c.release.new.keeper) (g.K.Keeper.records c.release.new.keeper) (g.K.Keeper.faults c.release.new.keeper) in
    released_did read ends c.args.time c.args.table.now c.release.new.self k k' w c.take_token.new.self c.args.outcome c.in_ok-sends.sends c.ending-in-Ok.result
    (c.ending-in-Ok.ensures ∙ (λ i. record { kind = End ((c.number-in-Ok.ensures ∙ ap (λ (u : Worker). u.number) c.take_token.ensures.bare) i) c.args.outcome; sends = c.in_ok-sends.sends; ended = true }))
    (c.in_ok-sends.ensures ∙ ap (partings read ends w) c.is_lost-lost.ensures) c.take_token.ensures.bare c.in-Ok.ensures.contents c.in-Ok.ensures.agrees c.in-Ok.ensures.later
    c.in-Share.share (subst (λ (t : Token). HasToken w.number w.job.key t c.args.table.now) (sym c.take_token.ensures.token ∙ c.in-Share.is) c.requires.owns)
    (sym c.is_lost-lost.ensures ∙ c.if-lost.false) c.in-Ok.ensures.after c.in-Ok.ensures.ended c.in-Ok.ensures.owns c.in-Ok.ensures.others

pub returns-in-Err-clause-did : goal.returns-in-Err-clause-did
returns-in-Err-clause-did g c =
    let read = g.H.Here.reading c.args.here.now in
    let ends = g.H.Here.ends c.args.here.now in
    let w = c.args.worker.now in
    let k = store (g.K.Keeper.contents c.args.keeper.now) (g.K.Keeper.records c.args.keeper.now) (g.K.Keeper.faults c.args.keeper.now) in
    let k' = store (g.K.Keeper.contents c.release.new.keeper) (g.K.Keeper.records c.release.new.keeper) (g.K.Keeper.faults c.release.new.keeper) in
    failed_did read ends c.args.time c.args.table.now c.release.new.self c.unreleased.new.table k k' w c.take_token.new.self c.unreleased.new.worker c.in-Share.share c.in-Err.share c.args.outcome c.unreleased.result
    c.in-Err.ensures.err.1 c.in-Err.ensures.err.0 (subst (λ (t : Token). HasToken w.number w.job.key t c.args.table.now) (sym c.take_token.ensures.token ∙ c.in-Share.is) c.requires.owns)
    c.take_token.ensures.bare c.unreleased.ensures.does (sym c.is_lost-lost.ensures ∙ c.if-lost.false) c.unreleased.ensures.after c.unreleased.ensures.owns c.unreleased.ensures.others c.unreleased.ensures.labels
    c.in-Err.ensures.contents c.in-Err.ensures.agrees c.in-Err.ensures.later c.in-Err.ensures.cause

pub returns-in-Nothing-clause-calls : goal.returns-in-Nothing-clause-calls
returns-in-Nothing-clause-calls g c =
    bare_makes c.args.table.now c.args.worker.now c.args.outcome c.ending.result (g.K.Keeper.failing c.args.keeper.now) (subst (λ (t : Token). HasToken c.args.worker.now.number c.args.worker.now.job.key t c.args.table.now) (sym c.take_token.ensures.token ∙ c.in-Nothing.is) c.requires.owns) (ap (λ (o : Output). failed_in o.kind) c.ending.ensures)

pub returns-then-lost-clause-calls : goal.returns-then-lost-clause-calls
returns-then-lost-clause-calls g c =
    lost_makes c.args.table.now c.args.worker.now c.args.outcome c.ending-then-lost.result (g.K.Keeper.failing c.args.keeper.now) (sym c.is_lost-lost.ensures ∙ c.if-lost.true) (ap (λ (o : Output). failed_in o.kind) c.ending-then-lost.ensures)

pub returns-in-Ok-clause-calls : goal.returns-in-Ok-clause-calls
returns-in-Ok-clause-calls g c =
    released_makes c.args.table.now c.args.worker.now c.args.outcome c.ending-in-Ok.result (g.K.Keeper.failing c.args.keeper.now) (g.K.Keeper.failing c.release.new.keeper) c.in-Share.share
    (subst (λ (t : Token). HasToken c.args.worker.now.number c.args.worker.now.job.key t c.args.table.now) (sym c.take_token.ensures.token ∙ c.in-Share.is) c.requires.owns) (sym c.is_lost-lost.ensures ∙ c.if-lost.false) (ap (λ (o : Output). failed_in o.kind) c.ending-in-Ok.ensures) c.in-Ok.ensures.failing

pub returns-in-Err-clause-calls : goal.returns-in-Err-clause-calls
returns-in-Err-clause-calls g c =
    unreleased_makes c.args.table.now c.args.worker.now c.args.outcome c.unreleased.result (g.K.Keeper.failing c.args.keeper.now) (g.K.Keeper.failing c.release.new.keeper) c.in-Share.share
    (subst (λ (t : Token). HasToken c.args.worker.now.number c.args.worker.now.job.key t c.args.table.now) (sym c.take_token.ensures.token ∙ c.in-Share.is) c.requires.owns) (sym c.is_lost-lost.ensures ∙ c.if-lost.false) (ap failed_in c.unreleased.ensures.does.kind) c.in-Err.ensures.failing

pub returns-in-Nothing-clause-begun : goal.returns-in-Nothing-clause-begun
returns-in-Nothing-clause-begun g c =
    ends_gone c.args.worker.now c.take_token.new.self c.args.outcome c.in_ok-sends.sends c.ending.result
    (c.ending.ensures ∙ (λ i. record { kind = End ((c.number.ensures ∙ ap (λ (u : Worker). u.number) c.take_token.ensures.bare) i) c.args.outcome; sends = c.in_ok-sends.sends; ended = true })) c.take_token.ensures.bare

pub returns-then-lost-clause-begun : goal.returns-then-lost-clause-begun
returns-then-lost-clause-begun g c =
    ends_gone c.args.worker.now c.take_token.new.self c.args.outcome c.in_ok-sends.sends c.ending-then-lost.result
    (c.ending-then-lost.ensures ∙ (λ i. record { kind = End ((c.number-then-lost.ensures ∙ ap (λ (u : Worker). u.number) c.take_token.ensures.bare) i) c.args.outcome; sends = c.in_ok-sends.sends; ended = true })) c.take_token.ensures.bare

pub returns-in-Ok-clause-begun : goal.returns-in-Ok-clause-begun
returns-in-Ok-clause-begun g c =
    ends_gone c.args.worker.now c.take_token.new.self c.args.outcome c.in_ok-sends.sends c.ending-in-Ok.result
    (c.ending-in-Ok.ensures ∙ (λ i. record { kind = End ((c.number-in-Ok.ensures ∙ ap (λ (u : Worker). u.number) c.take_token.ensures.bare) i) c.args.outcome; sends = c.in_ok-sends.sends; ended = true })) c.take_token.ensures.bare

pub returns-in-Err-clause-begun : goal.returns-in-Err-clause-begun
returns-in-Err-clause-begun g c =
    unreleased_gone c.args.time c.args.worker.now c.take_token.new.self c.unreleased.new.worker c.in-Share.share c.unreleased.result (sym c.take_token.ensures.token ∙ c.in-Share.is) c.take_token.ensures.bare c.unreleased.ensures.does

pub returns-in-Nothing-clause-ended : goal.returns-in-Nothing-clause-ended
returns-in-Nothing-clause-ended g c = λ _. ap (λ (o : Output). o.ended) c.ending.ensures

pub returns-then-lost-clause-ended : goal.returns-then-lost-clause-ended
returns-then-lost-clause-ended g c = λ _. ap (λ (o : Output). o.ended) c.ending-then-lost.ensures

pub returns-in-Ok-clause-ended : goal.returns-in-Ok-clause-ended
returns-in-Ok-clause-ended g c = λ _. ap (λ (o : Output). o.ended) c.ending-in-Ok.ensures

pub returns-in-Err-clause-ended : goal.returns-in-Err-clause-ended
returns-in-Err-clause-ended g c = λ bare. absurd (subst (λ (t : Token). IsBare t) (sym c.take_token.ensures.token ∙ c.in-Share.is) bare)

pub returns-in-Nothing-clause-apart : goal.returns-in-Nothing-clause-apart
returns-in-Nothing-clause-apart g c = λ target own apart.
    ends_apart own target c.args.worker.now c.take_token.new.self c.ending.result (ap (λ (o : Output). o.ended) c.ending.ensures) (ap (λ (u : Worker). u.word) c.take_token.ensures.bare)

pub returns-then-lost-clause-apart : goal.returns-then-lost-clause-apart
returns-then-lost-clause-apart g c = λ target own apart.
    ends_apart own target c.args.worker.now c.take_token.new.self c.ending-then-lost.result (ap (λ (o : Output). o.ended) c.ending-then-lost.ensures) (ap (λ (u : Worker). u.word) c.take_token.ensures.bare)

pub returns-in-Ok-clause-apart : goal.returns-in-Ok-clause-apart
returns-in-Ok-clause-apart g c = λ target own apart.
    ends_apart own target c.args.worker.now c.take_token.new.self c.ending-in-Ok.result (ap (λ (o : Output). o.ended) c.ending-in-Ok.ensures) (ap (λ (u : Worker). u.word) c.take_token.ensures.bare)

pub returns-in-Err-clause-apart : goal.returns-in-Err-clause-apart
returns-in-Err-clause-apart g c = λ target own apart.
    unreleased_apart own target c.args.time c.args.worker.now c.take_token.new.self c.unreleased.new.worker c.unreleased.result (ap (λ (u : Worker). u.heard) c.take_token.ensures.bare)
    (ap (λ (u : Worker). u.phase) c.take_token.ensures.bare) (ap (λ (u : Worker). u.word) c.take_token.ensures.bare) apart c.unreleased.ensures.does
