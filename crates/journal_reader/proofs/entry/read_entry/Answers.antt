-- What the proof of `entry::read_entry` needs beside the tactics.
use Rattle.std.proofs.Common.{◌≡◌, None, Some, subst}
use Rattle.std.specs.Prelude.{IfOk}
use Rattle.run_data.specs.declared.entry.Entry.{Entry}
use Rattle.journal_reading.specs.Lines.{head_form}
use Rattle.journal_reading.specs.Reading.{Saying}
use Rattle.journal_reader.specs.Heads.{as_head}
use Rattle.journal_reader.specs.Steps.{lines_in, said}
use Rattle.journal_reader.proofs.HeadLemmas.{entry_read, entry_none}
use Rattle.journal_reader.proofs.entry.read_entry.Goals as goal

pub returns-in_default-2 : goal.returns-in_default-2
returns-in_default-2 c = λ past are.
    let none : None ≡ (head_form c.args.repos.now c.args.tree.now past).read c.in-Some.line.now = rw c.in_default-2.is at (c.in_ok-head.ensures past are) in
    entry_none c.args.repos.now c.args.tree.now past (lines_in c.args.text.now) c.in-Some.line.now (lines_in c.in-Some.rest.now) c.in-Some.ensures.lines none

pub returns : goal.returns
returns c = λ past are.
    let head : Some (as_head c.in-Some-2.head) ≡ (head_form c.args.repos.now c.args.tree.now past).read c.in-Some.line.now = rw c.in-Some-2.is at (c.in_ok-head.ensures past are) in
    subst (λ (s : Saying Entry). IfOk c.read_behind.result (λ x. said x.0 (lines_in x.1.now) ≡ s))
    (entry_read c.args.repos.now c.args.tree.now past (lines_in c.args.text.now) c.in-Some.line.now (lines_in c.in-Some.rest.now) (as_head c.in-Some-2.head) c.in-Some.ensures.lines head)
    c.read_behind.ensures
