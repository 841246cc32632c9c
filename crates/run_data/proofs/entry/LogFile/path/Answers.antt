-- What the proof of `entry::LogFile::path` needs beside the tactics.
use Rattle.run_data.proofs.FileLemmas.{line_of_location}
use Rattle.run_data.proofs.entry.LogFile.path.Goals as goal

pub returns-in-Location-clause-line : goal.returns-in-Location-clause-line
returns-in-Location-clause-line c = line_of_location c.location_path.result c.args.self.now c.in-Location.key c.in-Location.is c.location_path.ensures
