-- What the proof of `ledger::Ledger::write` needs beside the tactics.
use Rattle.std.proofs.Common.{◌≡◌, sym, ap, subst}
use Rattle.annex_base.specs.declared.kinds.Call.TheVariants.{PutFile}
use Rattle.union_merge.specs.Branch.{Files, lines_at}
use Rattle.trust_groups.specs.Adding.{lines_and}
use Rattle.store_entries.specs.Changes.{AddsNew, lines_after_change, changed_file}
use Rattle.store_entries.specs.Indexed.{ReadsAlike}
use Rattle.node_past.specs.Owing.{first_goes}
use Rattle.store_entries.proofs.IndexLemmas.{indexed_written}
use Rattle.node_past.proofs.OwedLemmas.{debts_left, owed_in, owed_unwritten, owed_written, write_grows}
use Rattle.node_ledger.proofs.WriteLemmas.{seen_owed, seen_written, seen_refused, files_written}
use Rattle.node_ledger.proofs.ledger.Ledger.write.Goals as goal

pub returns-clause-ok : goal.returns-clause-ok
returns-clause-ok g c =
    let i = c.self.inside in
    let w = c.write_beside in
    let owed = owed_in i.past i.debts.items in
    let owed' = owed_in w.new.past w.new.debts.items in
    let grows = write_grows c.args.by w.result PutFile c.args.kind c.args.lines i.past w.new.past w.ensures.past w.ensures.err in
    seen_written w.result i.keeper w.new.keeper i.branch w.new.branch i.past w.new.past owed owed' c.args.self.now c.args.path.now c.args.change c.args.kind c.args.lines
    c.self.view_is w.ensures.branch w.ensures.past
    (seen_owed w.result i.keeper i.branch i.past owed owed' c.args.self.now c.args.kind c.args.lines c.args.paid c.self.view_is c.requires.owed
    (owed_written c.args.paid c.args.by w.result i.past w.new.past i.debts.items w.new.debts.items grows w.ensures.debts c.self.invariant.2))

pub returns-clause-err : goal.returns-clause-err
returns-clause-err g c =
    let i = c.self.inside in
    let w = c.write_beside in
    let owed = owed_in i.past i.debts.items in
    let owed' = owed_in w.new.past w.new.debts.items in
    let grows = write_grows c.args.by w.result PutFile c.args.kind c.args.lines i.past w.new.past w.ensures.past w.ensures.err in
    seen_refused c.args.by w.result PutFile i.keeper w.new.keeper i.branch w.new.branch i.past w.new.past owed owed' c.args.self.now c.self.view_is w.ensures.err_branch w.ensures.err
    (owed_unwritten c.args.paid c.args.by w.result i.past w.new.past i.debts.items w.new.debts.items grows w.ensures.debts c.self.invariant.2)

pub invariant_of-self : goal.invariant_of-self
invariant_of-self g c =
    let i = c.self.inside in
    let w = c.write_beside in
    let law = c.files_are_changed_alone.ensures in
    let path = c.args.path.now in
    let all = lines_after_change c.args.change (lines_at i.branch path) in
    let grows = write_grows c.args.by w.result PutFile c.args.kind c.args.lines i.past w.new.past w.ensures.past w.ensures.err in
    let branch : i.branch ≡ c.args.self.now.branch = ap (λ n. n.branch) c.self.view_is in (
      files_written w.result i.branch w.new.branch (g.K.Keeper.files i.keeper) (g.K.Keeper.files w.new.keeper) path all
          (law.there i.branch path all) (λ p differ. law.other i.branch path p all differ) w.ensures.branch w.ensures.err_branch w.ensures.files w.ensures.err_files c.self.invariant.0,
      indexed_written w.result i.index w.new.index i.branch w.new.branch path all c.args.new.now w.ensures.branch w.ensures.err_branch w.ensures.index w.ensures.err_index
          (subst (λ (b : Files). ReadsAlike (lines_and (lines_at b) path c.args.new.now) (lines_at (changed_file b path c.args.change))) (sym branch) c.requires.reads) c.self.invariant.1,
      debts_left i.past w.new.past (first_goes c.args.paid c.args.by w.result) i.debts.items w.new.debts.items grows w.ensures.debts c.self.invariant.2,
    )

pub write_beside-requires-clause-new : goal.write_beside-requires-clause-new
write_beside-requires-clause-new g c =
    subst (λ (b : Files). AddsNew c.args.change (lines_at b c.args.path.now)) (sym (ap (λ n. n.branch) c.self.view_is)) c.requires.new
