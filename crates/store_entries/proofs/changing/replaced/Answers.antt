-- What the proof of `changing::replaced` needs beside the tactics.
use Rattle.std.proofs.Common.{Option, List, ℕ, ◌∙◌, ap}
use Rattle.union_merge.specs.Branch.{Files, file_at, with_back, with_file}
use Rattle.store_entries.proofs.ChangeLemmas.{some_there}
use Rattle.store_entries.proofs.changing.replaced.Goals as goal

pub returns-clause-there : goal.returns-clause-there
returns-clause-there c =
    let law = c.files_are_changed_alone.ensures in
    let path = c.args.path.now in
    let now = ap (λ (b : Files). file_at b path) c.in_ok-replace_file.ensures.ok ∙ law.there c.args.branch.now path c.args.all in
    some_there (file_at c.replace_file.new.self path) c.args.all now

pub returns-clause-back : goal.returns-clause-back
returns-clause-back c =
    let law = c.files_are_changed_alone.ensures in
    let path = c.args.path.now in
    ap (λ (b : Files). with_back b path c.in_ok-was.was') c.in_ok-replace_file.ensures.ok
    ∙ ap (λ (o : Option (List (List ℕ))). with_back (with_file c.args.branch.now path c.args.all) path o) c.in_ok-was.ensures
    ∙ law.back c.args.branch.now path c.args.all c.files.ensures.branch
