-- What the proof of `node::Node::turn` needs beside the tactics.
use Rattle.std.proofs.Common.{◌≡◌, ◌≤◌, ℕ, length, sym, ap, subst, ◌∙◌}
use Rattle.node_steps.specs.Nodes.{told_of}
use Rattle.run_data.specs.Histories.{most_entries}
use Rattle.node_past.specs.Stored.{TellsSame, store_view}
use Rattle.repo_node.proofs.TurnLemmas.{full_idles, full_so, full_steps, tells_same, turn_adds, turn_idle, turn_steps, where_short, where_still}
use Rattle.repo_node.proofs.node.Node.turn.Goals as goal

pub returns-then-is_full-clause-idle : goal.returns-then-is_full-clause-idle
returns-then-is_full-clause-idle g c = λ is x told.
    let n = c.args.self.now in
    let d = c.drop_old.new.self in
    full_idles c.is_ready.result n d x (told_of (g.K.Keeper.contents d.keeper) (g.K.Keeper.parts d.keeper)) c.dropped_frames_change_no_end.ensures.looks c.drop_old.ensures.links (sym c.turn_of_full.ensures ∙ is)
    (ap (λ v. told_of (g.K.Keeper.contents v.keeper) (g.K.Keeper.parts v.keeper)) c.drop_old.ensures.links ∙ told) c.is_ready.ensures.ready

pub returns-then-is_full-clause-ready : goal.returns-then-is_full-clause-ready
returns-then-is_full-clause-ready g c = λ is x told.
    let n = c.args.self.now in
    let d = c.drop_old.new.self in
    full_steps c.is_ready.result n d x (told_of (g.K.Keeper.contents d.keeper) (g.K.Keeper.parts d.keeper)) c.dropped_frames_change_no_end.ensures.looks c.drop_old.ensures.links (sym c.turn_of_full.ensures ∙ is)
    (ap (λ v. told_of (g.K.Keeper.contents v.keeper) (g.K.Keeper.parts v.keeper)) c.drop_old.ensures.links ∙ told) c.is_ready.ensures.ready

pub returns-clause-moved : goal.returns-clause-moved
returns-clause-moved g c = λ is.
    turn_adds (λ x. store_view (g.K.Keeper.contents x) (g.K.Keeper.parts x) (g.K.Keeper.failing x) (g.K.Keeper.faults x))
    c.step.result c.args.self.now c.drop_old.new.self c.step.new.self c.drop_old.ensures.links (sym c.turn_of.ensures ∙ is) c.step.ensures.adds

pub returns-clause-step : goal.returns-clause-step
returns-clause-step g c = λ is x told.
    let n = c.args.self.now in
    let d = c.drop_old.new.self in
    turn_steps (λ x. store_view (g.K.Keeper.contents x) (g.K.Keeper.parts x) (g.K.Keeper.failing x) (g.K.Keeper.faults x))
    c.step.result n d c.step.new.self x (told_of (g.K.Keeper.contents d.keeper) (g.K.Keeper.parts d.keeper)) c.dropped_frames_change_no_end.ensures.looks c.drop_old.ensures.links (sym c.turn_of.ensures ∙ is)
    (ap (λ v. told_of (g.K.Keeper.contents v.keeper) (g.K.Keeper.parts v.keeper)) c.drop_old.ensures.links ∙ told) c.step.ensures.step

pub returns-clause-idle : goal.returns-clause-idle
returns-clause-idle g c = λ is x told.
    let n = c.args.self.now in
    let d = c.drop_old.new.self in
    let m = c.step.new.self in
    turn_idle c.step.result (store_view (g.K.Keeper.contents d.keeper) (g.K.Keeper.parts d.keeper) (g.K.Keeper.failing d.keeper) (g.K.Keeper.faults d.keeper))
    (store_view (g.K.Keeper.contents m.keeper) (g.K.Keeper.parts m.keeper) (g.K.Keeper.failing m.keeper) (g.K.Keeper.faults m.keeper))
    n d m x (told_of (g.K.Keeper.contents d.keeper) (g.K.Keeper.parts d.keeper)) c.dropped_frames_change_no_end.ensures.looks c.drop_old.ensures.links (sym c.turn_of.ensures ∙ is)
    (ap (λ v. told_of (g.K.Keeper.contents v.keeper) (g.K.Keeper.parts v.keeper)) c.drop_old.ensures.links ∙ told) c.step.ensures.step

pub returns-then-is_full-clause-short : goal.returns-then-is_full-clause-short
returns-then-is_full-clause-short g c = λ is.
    tells_same g.K.Keeper.contents g.K.Keeper.parts g.K.Keeper.records g.K.Keeper.files g.K.Keeper.failing c.args.self.now.keeper c.is_ready.new.self.keeper (ap (λ v. v.keeper) (c.is_ready.ensures.same ∙ c.drop_old.ensures.links))

pub returns-clause-unasked : goal.returns-clause-unasked
returns-clause-unasked g c = λ other short.
    let d = c.drop_old.new.self in
    let m = c.step.new.self in
    ap (λ v. v.keeper) (where_still c.step.result d.parts.links (store_view (g.K.Keeper.contents d.keeper) (g.K.Keeper.parts d.keeper) (g.K.Keeper.failing d.keeper) (g.K.Keeper.faults d.keeper))
    (store_view (g.K.Keeper.contents m.keeper) (g.K.Keeper.parts m.keeper) (g.K.Keeper.failing m.keeper) (g.K.Keeper.faults m.keeper))
    d m (λ is. other (c.turn_of.ensures ∙ is)) (λ is. short (c.turn_of.ensures ∙ is)) c.step.ensures.adds ∙ c.drop_old.ensures.links)

pub returns-clause-short : goal.returns-clause-short
returns-clause-short g c = λ is.
    let m = c.step.new.self in
    subst (λ k. TellsSame (g.K.Keeper.contents k) (g.K.Keeper.contents m.keeper) (g.K.Keeper.parts k) (g.K.Keeper.parts m.keeper) (g.K.Keeper.records k) (g.K.Keeper.records m.keeper) (g.K.Keeper.files k) (g.K.Keeper.files m.keeper) (g.K.Keeper.failing k) (g.K.Keeper.failing m.keeper))
    (ap (λ v. v.keeper) c.drop_old.ensures.links) (where_short c.step.result (sym c.turn_of.ensures ∙ is) c.step.ensures.err_store)

pub returns-then-is_full-clause-full : goal.returns-then-is_full-clause-full
returns-then-is_full-clause-full g c = λ is.
    let h = c.self.inside.ledger.history in
    let same : length h ≡ length c.args.self.now.history = ap (λ v. length v.history) (c.self.view_is ∙ c.drop_old.ensures.links) in
    let most : length h ≤ most_entries = subst (λ (n : ℕ). n ≤ most_entries) (ap (λ v. length v.history) (sym c.self.view_is)) c.history.ensures.few in
    full_so (length h) (length c.args.self.now.history) (sym c.is_full.ensures ∙ c.if-is_full.true) most same
