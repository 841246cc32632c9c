-- What an entry needs of its row and what it found there, as data; for private contracts (own).
use Rattle.std.specs.Prelude.{ℕ, Bool, not, ◌&&◌, List, filter, is_none, is_some, map}
use Rattle.run_data.specs.declared.row.Hold.{Hold}
use Rattle.run_data.specs.declared.row.HoldView.{HoldView}
use Rattle.node_model.specs.Rows.{blocks, is_blocked}
use Rattle.state_rows.specs.Rows.{bar_of, holds_of, size_of}
use Rattle.state_rows.specs.declared.rows.Rows.{Rows}
use Rattle.step_judging.specs.Verdicts.{hold_view}

-- the content is there, and no bar stands
abbrev pub is_free_in : Rows → List ℕ → Bool
is_free_in rows key = is_some (size_of rows key) && is_none (bar_of rows key)

-- no hold blocks it either
abbrev pub may_go : Rows → List ℕ → ℕ → Bool
may_go rows key clock = is_free_in rows key && not (is_blocked (holds_of rows) key clock)

-- the holds on a key that block at this clock, as they are printed
abbrev pub blocking : List Hold → List ℕ → ℕ → List HoldView
blocking holds key clock = map hold_view (filter (blocks key clock) holds)
