-- What the proof of `walk::Walk::new` needs beside the tactics: each table is as before the first entry.
use Rattle.std.proofs.Common.{List, [], length, refl, subst}
use Rattle.run_data.specs.declared.run.RepoView.{RepoView}
use Rattle.report_tables.specs.Branches.{HasBranches}
use Rattle.report_tables.specs.Contents.{Tracks}
use Rattle.report_tables.specs.Rows.{HasRows}
use Rattle.report_tables.specs.Sets.{HasSets}
use Rattle.report_tables.proofs.walk.Walk.new.Goals as goal

pub returns : goal.returns
returns c =
    let same = c.as_slice-repos.ensures in
    record {
      place_is = refl;
      knows = record {
        contents = subst (λ (repos : List RepoView). Tracks c.in_ok-new.field-0 (length repos) []) same c.in_ok-new.ensures;
        branches = subst (λ (repos : List RepoView). HasBranches c.in_ok-new-2.field-0 (length repos) []) same c.in_ok-new-2.ensures;
        sets = subst (λ (repos : List RepoView). HasSets c.in_ok-new-3.field-0 (length repos) []) same (c.in_ok-new-3.ensures []);
        rows = subst (λ (repos : List RepoView). HasRows c.in_ok-new-4.field-0 repos []) same c.in_ok-new-4.ensures;
      };
    }
