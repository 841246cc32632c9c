-- What the proof of `laws::tests_are_matches` needs beside the tactics.
use Rattle.glob_match.proofs.MatchLemmas.{match_from_test, test_from_match}
use Rattle.glob_match.proofs.laws.tests_are_matches.Goals as goal

pub returns : goal.returns
returns c = λ items text. (match_from_test items text, test_from_match items text)
