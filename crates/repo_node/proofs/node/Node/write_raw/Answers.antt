-- What the proof of `node::Node::write_raw` needs beside the tactics.
use Rattle.std.proofs.Common.{OnOk, IfErr, subst, ◌≡◌, [], ◌∷◌, true}
use Rattle.annex_base.specs.declared.kinds.Call.TheVariants.{PutFile}
use Rattle.node_steps.specs.Nodes.{beside, told_of}
use Rattle.node_steps.proofs.KeptLemmas.{kept_lines, stands_so}
use Rattle.repo_node.proofs.BesideLemmas.{err_so, ok_lines}
use Rattle.run_data.specs.Files.{file_of}
use Rattle.node_ledger.specs.Logs.{with_lines}
use Rattle.node_ledger.specs.Refusals.{RefusesSo}
use Rattle.node_ledger.specs.Calls.{lacks_some, to_log}
use Rattle.node_past.specs.Calls.{Makes}
use Rattle.repo_node.proofs.node.Node.write_raw.Goals as goal

pub invariant_of-self : goal.invariant_of-self
invariant_of-self g c =
    let i = c.self.inside in
    let w = c.write_raw in
    stands_so i.ledger w.new.self i.parts (g.K.Keeper.contents i.ledger.keeper) (g.K.Keeper.contents w.new.self.keeper) (g.K.Keeper.parts i.ledger.keeper) (g.K.Keeper.parts w.new.self.keeper) (g.K.Keeper.records i.ledger.keeper) (g.K.Keeper.records w.new.self.keeper) w.ensures.contents w.ensures.parts w.ensures.records
    (kept_lines w.result i.ledger w.new.self i.parts (told_of (g.K.Keeper.contents i.ledger.keeper) (g.K.Keeper.parts i.ledger.keeper)) (file_of c.args.path.now) (c.args.line.now ∷ []) c.files_are_changed_alone.ensures.there c.files_are_changed_alone.ensures.other (c.direct_entries_keep_parts.ensures i.parts c.table.ensures.sound) w.ensures.ok w.ensures.err) c.self.invariant

pub returns-clause-ok : goal.returns-clause-ok
returns-clause-ok g c =
    let i = c.self.inside in
    let w = c.write_raw in
    subst (λ v. OnOk w.result (beside i.parts w.new.self ≡ with_lines v w.new.self.keeper (file_of c.args.path.now) (c.args.line.now ∷ []))) c.self.view_is
    (ok_lines w.result i.parts i.ledger w.new.self (file_of c.args.path.now) (c.args.line.now ∷ []) w.ensures.ok)

pub returns-clause-err : goal.returns-clause-err
returns-clause-err g c =
    let i = c.self.inside in
    let w = c.write_raw in
    subst (λ v. IfErr w.result (λ e. RefusesSo e PutFile v (beside i.parts w.new.self))) c.self.view_is (err_so w.result i.parts PutFile i.ledger w.new.self w.ensures.err)

pub returns-clause-calls : goal.returns-clause-calls
returns-clause-calls g c =
    let i = c.self.inside in
    let w = c.write_raw in
    subst (λ v. Makes (to_log v (file_of c.args.path.now) (c.args.line.now ∷ [])) PutFile w.result (g.K.Keeper.failing v.keeper) (g.K.Keeper.failing w.new.self.keeper)) c.self.view_is w.ensures.calls

pub returns-clause-full : goal.returns-clause-full
returns-clause-full g c =
    let i = c.self.inside in
    let w = c.write_raw in
    λ full. subst (λ v. lacks_some v (file_of c.args.path.now) (c.args.line.now ∷ []) ≡ true) c.self.view_is (w.ensures.full full)
