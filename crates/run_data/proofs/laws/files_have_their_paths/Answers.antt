-- What the proof of `laws::files_have_their_paths` needs beside the tactics.
use Rattle.run_data.proofs.FileLemmas.{path_is_line, file_path-file_of, file_has_path, file_of-file_path}
use Rattle.run_data.proofs.laws.files_have_their_paths.Goals as goal

pub returns-clause-path : goal.returns-clause-path
returns-clause-path c = file_path-file_of

pub returns-clause-file : goal.returns-clause-file
returns-clause-file c = file_of-file_path c.files_name_their_keys.ensures

pub returns-clause-line : goal.returns-clause-line
returns-clause-line c = path_is_line

pub returns-clause-has : goal.returns-clause-has
returns-clause-has c = file_has_path c.files_name_their_keys.ensures
