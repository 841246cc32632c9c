-- What the proof of `changing::added` needs beside the tactics.
use Rattle.std.proofs.Common.{List, ℕ, Option, None, sym, ap, subst, ◌∙◌}
use Rattle.union_merge.specs.Branch.{Files, file_at, lines_at, or_none, with_back, with_file}
use Rattle.union_merge.specs.LineSet.{difference, union}
use Rattle.store_entries.specs.Changes.{AreNew}
use Rattle.store_entries.proofs.ChangeLemmas.{not_there, some_there, there_some}
use Rattle.store_entries.proofs.changing.added.Goals as goal

pub returns-then-is_there-clause-there : goal.returns-then-is_there-clause-there
returns-then-is_there-clause-there c =
    let b = c.args.branch.now in
    let path = c.args.path.now in
    let all = union (lines_at b path) c.args.new.now in
    some_there (file_at c.merge_file.new.self path) all (ap (λ (w : Files). file_at w path) c.in_ok-merge_file.ensures.ok ∙ c.files_are_changed_alone.ensures.there b path all)

pub returns-else-is_there-clause-there : goal.returns-else-is_there-clause-there
returns-else-is_there-clause-there c =
    let b = c.args.branch.now in
    let path = c.args.path.now in
    let all = union (lines_at b path) c.args.new.now in
    some_there (file_at c.merge_file.new.self path) all (ap (λ (w : Files). file_at w path) c.in_ok-merge_file.ensures.ok ∙ c.files_are_changed_alone.ensures.there b path all)

pub returns-then-is_there-clause-undo : goal.returns-then-is_there-clause-undo
returns-then-is_there-clause-undo c =
    let b = c.args.branch.now in
    let path = c.args.path.now in
    let new = c.args.new.now in
    let own = there_some (file_at b path) (sym c.has_file-is_there.ensures ∙ c.if-is_there.true) in
    ap (λ (w : Files). with_file w path (difference (lines_at w path) new)) c.in_ok-merge_file.ensures.ok
    ∙ c.new_lines_are_taken_off_again.ensures b path own.0 new c.files.ensures.branch own.1 (subst (λ (x : List (List ℕ)). AreNew new x) (ap or_none own.1) c.requires.new)

pub returns-else-is_there-clause-undo : goal.returns-else-is_there-clause-undo
returns-else-is_there-clause-undo c =
    let b = c.args.branch.now in
    let path = c.args.path.now in
    let all = union (lines_at b path) c.args.new.now in
    ap (λ (w : Files). with_back w path None) c.in_ok-merge_file.ensures.ok
    ∙ ap (λ (o : Option (List (List ℕ))). with_back (with_file b path all) path o) (sym (not_there (file_at b path) (sym c.has_file-is_there.ensures ∙ c.if-is_there.false)))
    ∙ c.files_are_changed_alone.ensures.back b path all c.files.ensures.branch
