-- For private contracts: what is drawn for one time of a storm, and its script for any number of contents (own).
use Rattle.std.specs.Prelude.{ℕ, ◌+◌, List, ◌++◌, codes}
use Rattle.std.specs.List.{flat_map, range_with_len}
use Rattle.storm_script.specs.Storm.{drawn, haves, merge_line, next_state, repo_line, second, settle_line, times}
use Rattle.storm_text.specs.declared.lines.Time.{Time}

-- the state of the draws after those of a time
abbrev pub state_after : ℕ → ℕ
state_after x = next_state (next_state (next_state (next_state (next_state x))))

-- the time is what the five draws after this state give
abbrev pub drawn_time : ℕ → Time
drawn_time x =
    let x1 = next_state x in
    let x2 = next_state x1 in
    let x3 = next_state x2 in
    let x4 = next_state x3 in
    let x5 = next_state x4 in
    record { repo = drawn x1 8; key = drawn x2 16; other = second (drawn x1 8) (drawn x3 7); draw = drawn x4 8; turns = drawn x5 16 + 1 }

-- the script with so many contents and jobs, from a state of the draws on
abbrev pub script_text : (contents x jobs : ℕ) → List ℕ
script_text contents x jobs =
    let had = haves contents 0 x in
    flat_map repo_line (range_with_len 0 8) ++ had.text ++ codes "numcopies s0 2\n" ++ flat_map merge_line (range_with_len 1 7) ++ times jobs 1 had.state ++ settle_line
