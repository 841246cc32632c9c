-- What the proof of `files::Files::note` needs beside the tactics.
use Rattle.std.proofs.Common.{sym, ap, ◌∙◌}
use Rattle.union_merge.specs.Branch.{lines_at}
use Rattle.state_files.proofs.FileLemmas.{lines_changed, lines_noted, logs_noted}
use Rattle.state_files.proofs.files.Files.note.Goals as goal

pub returns-in_ok-change-clause-ok : goal.returns-in_ok-change-clause-ok
returns-in_ok-change-clause-ok c = λ s st are.
    let e = c.args.entry.now in
    let was = c.args.self.now.branch in
    let now = c.change.new.branch in
    let laws = c.files_are_changed_alone.ensures in
    let changed = lines_noted s st e was now are.lines
    (λ path. ap (λ files. lines_at files path) c.in_ok-change.ensures.ok ∙ lines_changed laws.there laws.other was e.kind e.lines path) in
    record { lines = changed; logs = logs_noted s st e now changed }

pub returns-else-changes_files-clause-ok : goal.returns-else-changes_files-clause-ok
returns-else-changes_files-clause-ok c = λ s st are.
    let e = c.args.entry.now in
    let was = c.args.self.now.branch in
    let leaves = c.changes_files.ensures c.if-changes_files.false in
    let kept = lines_noted s st e was was are.lines (λ path. sym (leaves path (lines_at was path) e.lines)) in
    record { lines = kept; logs = logs_noted s st e was kept }
