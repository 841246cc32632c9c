-- What an entry of a job reads around it: of a state, and of a turn (own).
use Rattle.node_model.specs.Jobs.{RowsAndEnds}
use Rattle.node_model.specs.JobStep.{Turn}
use Rattle.node_model.specs.SetUp.{SetUp}
use Rattle.node_model.specs.State.{State}

-- what the entries of its jobs read of a repository in this state
abbrev pub around : SetUp → State → RowsAndEnds
around s st = record { present = st.present; bar = st.bar; ends = st.ends }

-- of what a turn reads
abbrev pub around_in : Turn → RowsAndEnds
around_in t = record { present = t.present; bar = t.bar; ends = t.ends }
