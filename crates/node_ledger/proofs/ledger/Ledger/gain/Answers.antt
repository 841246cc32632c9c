-- What the proof of `ledger::Ledger::gain` needs beside the tactics.
use Rattle.std.proofs.Common.{[], refl, sym, ◌∙◌}
use Rattle.annex_base.specs.declared.kinds.Call.TheVariants.{Commit}
use Rattle.run_data.specs.declared.entry.By.TheVariants.{Script}
use Rattle.run_data.specs.declared.entry.EntryKind.TheVariants.{Gain}
use Rattle.store_entries.proofs.PartLemmas.{on_err}
use Rattle.node_ledger.proofs.GainLemmas.{refused_same, seen_gained}
use Rattle.node_past.proofs.OwedLemmas.{debts_grow, owed_grows, owed_in, write_grows}
use Rattle.node_ledger.proofs.WriteLemmas.{seen_refused}
use Rattle.node_ledger.proofs.ledger.Ledger.gain.Goals as goal

pub returns-clause-ok : goal.returns-clause-ok
returns-clause-ok g c =
    let i = c.self.inside in
    let w = c.commit in
    let grows = write_grows Script w.result Commit (Gain Script c.args.size c.args.key.now) [] i.past w.new.past w.ensures.past w.ensures.err in
    seen_gained w.result i.keeper w.new.keeper i.branch i.past w.new.past (owed_in i.past i.debts.items) (owed_in w.new.past i.debts.items) c.args.self.now c.args.key.now c.args.size c.self.view_is w.ensures.past
    (owed_grows i.past w.new.past i.debts.items grows c.self.invariant.2)

pub returns-clause-err : goal.returns-clause-err
returns-clause-err g c =
    let i = c.self.inside in
    let w = c.commit in
    let grows = write_grows Script w.result Commit (Gain Script c.args.size c.args.key.now) [] i.past w.new.past w.ensures.past w.ensures.err in
    seen_refused Script w.result Commit i.keeper w.new.keeper i.branch i.branch i.past w.new.past (owed_in i.past i.debts.items) (owed_in w.new.past i.debts.items) c.args.self.now c.self.view_is (on_err w.result refl) w.ensures.err
    (refused_same w.result Commit (owed_in i.past i.debts.items) (owed_in w.new.past i.debts.items) (owed_grows i.past w.new.past i.debts.items grows c.self.invariant.2))

pub invariant_of-self : goal.invariant_of-self
invariant_of-self g c =
    let i = c.self.inside in
    let w = c.commit in
    let grows = write_grows Script w.result Commit (Gain Script c.args.size c.args.key.now) [] i.past w.new.past w.ensures.past w.ensures.err in (
      λ f told. c.self.invariant.0 f (sym w.ensures.files ∙ told),
      c.self.invariant.1,
      debts_grow i.past w.new.past i.debts.items grows c.self.invariant.2,
    )
