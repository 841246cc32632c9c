-- The clock and the counts of a repository as data, and those of a state that they are (own).
use Rattle.std.specs.Prelude.{◌≡◌, ℕ}
use Rattle.node_model.specs.Clocks.{ClockSet, runs_on}
use Rattle.node_model.specs.State.{State}
use Rattle.step_state.specs.Clocks.{clock_set}
use Rattle.step_state.specs.declared.counts.Counts.{Counts}

-- how the clock was set last; how many entries were made, and how many jobs begun
abbrev pub clock_in : Counts → ClockSet
clock_in c = clock_set c.clock

abbrev pub made_in : Counts → ℕ
made_in c = c.made

abbrev pub begun_in : Counts → ℕ
begun_in c = c.begun

pub record AreCountsOf (c : Counts) (st : State) : Type 0 where
  pub clock : st.clock ≡ runs_on (clock_in c)
  pub made : st.made ≡ made_in c
  pub begun : st.begun ≡ begun_in c
