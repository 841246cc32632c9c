-- What the proof of `scripts::scripts_trust_only_by_their_lines` needs beside the tactics.
use Rattle.kept_copies.proofs.TrustFiles.{FileLaws}
use Rattle.kept_copies.proofs.Written.{limited_trusts_nobody, run_trusts_nobody}
use Rattle.kept_copies.proofs.scripts.scripts_trust_only_by_their_lines.Goals as goal

pub returns-clause-whole : goal.returns-clause-whole
returns-clause-whole c g lines all none =
    let laws : FileLaws = record { finds = c.steps_find_their_cause.ensures; again = c.files_have_their_paths.ensures.path; told = c.paths_tell_their_kind.ensures } in
    run_trusts_nobody laws g lines all none

pub returns-clause-limited : goal.returns-clause-limited
returns-clause-limited c g lines all none =
    let laws : FileLaws = record { finds = c.steps_find_their_cause.ensures; again = c.files_have_their_paths.ensures.path; told = c.paths_tell_their_kind.ensures } in
    limited_trusts_nobody laws g lines all none
