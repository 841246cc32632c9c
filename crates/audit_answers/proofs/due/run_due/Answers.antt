-- What the proof of `due::run_due` needs beside the tactics.
use Rattle.std.proofs.Common.{length, ap}
use Rattle.audit_answers.specs.Due.{HasGoodJournal}
use Rattle.audit_answers.proofs.JournalRuns.{Laws, good_journal, marks_in_order, repos_are_set_up}
use Rattle.audit_answers.proofs.Sizes.{short_journal}
use Rattle.audit_answers.proofs.Taking.{always_good, audited_is_due, auditor_of, refusal_low, refusal_of, refused_good}
use Rattle.audit_answers.proofs.due.run_due.Goals as goal

pub new-requires-clause-many : goal.new-requires-clause-many
new-requires-clause-many c = (short_journal c.args._bytes.now c.args.run.now c.requires.journal.1 c.requires.short).repos

pub new-requires-clause-set_up : goal.new-requires-clause-set_up
new-requires-clause-set_up c = repos_are_set_up c.args.run.now.repos c.requires.journal.0.repos

pub new-requires-clause-tree : goal.new-requires-clause-tree
new-requires-clause-tree c = marks_in_order 0 (length c.args.run.now.entries) c.args.run.now.tree c.requires.journal.0.tree

pub take_all-requires-clause-few : goal.take_all-requires-clause-few
take_all-requires-clause-few c = (short_journal c.args._bytes.now c.args.run.now c.requires.journal.1 c.requires.short).entries

pub take_all-requires-clause-sent : goal.take_all-requires-clause-sent
take_all-requires-clause-sent c = (short_journal c.args._bytes.now c.args.run.now c.requires.journal.1 c.requires.short).sent

pub refused_due-requires : goal.refused_due-requires
refused_due-requires c =
    let run = c.args.run.now in
    refusal_low run c.in-Some.refusal (refusal_of run c.take_all.new.auditor c.in_ok-refusal.refusal c.in-Some.refusal c.in_ok-refusal.ensures.taken c.in-Some.is)
    (short_journal c.args._bytes.now run c.requires.journal.1 c.requires.short).entries

pub returns-in-Some-clause-good : goal.returns-in-Some-clause-good
returns-in-Some-clause-good c = refused_good c.refused_due.result _ (HasGoodJournal c.args._bytes.now) c.refused_due.ensures

pub returns-clause-due : goal.returns-clause-due
returns-clause-due c =
    let run = c.args.run.now in
    let of = auditor_of run c.take_all.new.auditor c.in_ok-refusal.refusal c.in_ok-refusal.ensures.taken c.in-None.is in
    audited_is_due c.audited_due.result c.args._bytes.now run c.take_all.new.auditor _ c.requires.short c.requires.journal of (ap length c.as_slice.ensures) c.audited_due.ensures

pub returns-clause-good : goal.returns-clause-good
returns-clause-good c =
    let run = c.args.run.now in
    let of = auditor_of run c.take_all.new.auditor c.in_ok-refusal.refusal c.in_ok-refusal.ensures.taken c.in-None.is in
    let laws : Laws = record {
      one = c.texts_read_as_their_runs.ensures;
      copies = c.runs_keep_copies.ensures;
      safe = c.runs_are_safe.ensures;
      causes = c.refusals_have_causes.ensures;
      enough = c.audited_runs_keep_enough.ensures;
    } in
    always_good c.audited_due.result (HasGoodJournal c.args._bytes.now) (good_journal laws c.args._bytes.now run c.requires.journal of.after.lawful)
