-- What the proof of `glob::Glob::matches` needs beside the tactics.
use Rattle.std.proofs.Common.{rules, ◌≡◌}
use Rattle.std.specs.Str.{chars}
use Rattle.annex_base.proofs.Conditions.{decided}
use Rattle.glob_match.specs.Glob.{IsMatch, glob_matches}
use Rattle.glob_match.proofs.MatchLemmas.{match_from_test, test_from_match}
use Rattle.glob_match.proofs.glob.Glob.matches.Goals as goal

pub returns-clause-cut : goal.returns-clause-cut
returns-clause-cut c =
    let items = c.args.self.now in
    let text = chars c.args.path.now in
    let same : c.items_match.result ≡ glob_matches items text = search rules in
    decided c.items_match.result (glob_matches items text) (IsMatch items text) same (match_from_test items text) (test_from_match items text)
