-- What the proof of `place::begins_bundle` needs beside the tactics.
use Rattle.branch_bundle.proofs.TestLemmas.{bundle_files_test, bundle_header_test}
use Rattle.branch_bundle.proofs.place.begins_bundle.Goals as goal

pub returns-in-Some : goal.returns-in-Some
returns-in-Some c = bundle_files_test c.args.text.now c.in-Some.rest.now c.begins_files.result c.in-Some.ensures c.begins_files.ensures

pub returns-in-None : goal.returns-in-None
returns-in-None c = bundle_header_test c.args.text.now c.is_some.result c.strip-in-None.result c.in-None.ensures c.strip-in-None.ensures c.is_some.ensures
