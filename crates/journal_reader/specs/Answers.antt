-- What the reader of a journal answers (own).
use Rattle.std.specs.Prelude.{◌≡◌, Result, Ok, Err}
use Rattle.run_data.specs.declared.run.Run.{Run}
use Rattle.journal_reading.specs.Reading.{Reading}
use Rattle.journal_reading.specs.Reading.Reading.{Journal, BadJournal}
use Rattle.journal_reader.specs.declared.fault.JournalFault.{JournalFault}
use Rattle.journal_reader.specs.declared.fault.JournalFault.TheVariants.{BadLine, NoMemory}

-- a fault tells the reading, unless memory ran out
abbrev pub IsFault : JournalFault → Reading → Type 0
IsFault (BadLine line) reading = reading ≡ BadJournal line
IsFault NoMemory reading = Unit {0}

-- the answer tells the reading
abbrev pub IsReading : Result Run JournalFault → Reading → Type 0
IsReading (Ok run) reading = reading ≡ Journal run
IsReading (Err fault) reading = IsFault fault reading
