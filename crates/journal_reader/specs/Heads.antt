-- For private contracts: the first line of an entry, part by part.
use Rattle.journal_reading.specs.Lines as lines
use Rattle.journal_reader.specs.declared.head.Head.{Head}

-- the parts of a first line, as its form reads them
abbrev pub as_head : Head → lines.Head
as_head h = (h.time, (h.count, (h.repo, (h.kind, h.adds))))
