-- Jobs of which no two have one number (own).
use Rattle.std.specs.Prelude.{List}
use Rattle.annex_base.specs.Lists.{Each}
use Rattle.node_model.specs.Jobs.{Work}
use Rattle.state_reads.specs.Reads.{IsOnly}

-- no two of the jobs have one number
abbrev pub AreAlone : List Work → Type 0
AreAlone works = Each (IsOnly works) works
