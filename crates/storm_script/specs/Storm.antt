-- The script that `storm NUMBER JOBS` runs, as text: jobs, crashes and turns that are drawn by chance from a number (own).
use Rattle.std.specs.Prelude.{ℕ, zero, suc, ◌+◌, ◌*◌, ◌/◌, ◌%◌, ◌^◌, ◌==◌, if◌then◌else◌, nat_le, List, [], ◌++◌, codes, flat_map}
use Rattle.std.specs.List.{range_with_len}
use Rattle.std.specs.Fmt.{decimal}

-- ---- draws

-- the state of the draws after one more
abbrev pub next_state : ℕ → ℕ
next_state x = (x * 6364136223846793005 + 1442695040888963407) % 2 ^ 64

-- what the draw that came to this state gives, below n
abbrev pub drawn : ℕ → ℕ → ℕ
drawn x n = (x / 2 ^ 33) % n

-- a text, and the state of the draws after it
pub record Drawn : Type 0 where
  pub text : List ℕ
  pub state : ℕ

abbrev pub text_before : List ℕ → Drawn → Drawn
text_before text rest = record rest { text = text ++ rest.text }

-- ---- words

abbrev pub repo_word : ℕ → List ℕ
repo_word r = codes "s" ++ decimal r

abbrev pub key_word : ℕ → List ℕ
key_word j = codes "WORM-s3--k" ++ decimal j

-- ---- lines

-- eight repositories, of which the last two give no holds
abbrev pub repo_line : ℕ → List ℕ
repo_line r = codes "repo " ++ repo_word r ++ codes " 00000000-0000-4000-8000-00000000000" ++ decimal r ++ (if nat_le 6 r then codes " nolock\n" else codes "\n")

abbrev pub have_line : ℕ → ℕ → List ℕ
have_line r j = codes "have " ++ repo_word r ++ codes " " ++ key_word j ++ codes " text:abc\n"

-- so many of the contents: three of each key, each at a repository that is drawn
abbrev pub haves : ℕ → ℕ → ℕ → Drawn
haves zero k x = record { text = []; state = x }
haves (suc n) k x = text_before (have_line (drawn (next_state x) 8) (k / 3)) (haves n (k + 1) (next_state x))

abbrev pub merge_line : ℕ → List ℕ
merge_line r = codes "merge " ++ repo_word r ++ codes " s0\n"

-- the job or the crash of w, at r: of key j, with p
abbrev pub job_line : ℕ → ℕ → ℕ → ℕ → List ℕ
job_line w r j p =
    if nat_le w 2 then codes "begin drop " ++ repo_word r ++ codes " " ++ key_word j ++ codes "\n"
    else (if nat_le w 4 then codes "begin drop " ++ repo_word r ++ codes " " ++ key_word j ++ codes " from " ++ repo_word p ++ codes "\n"
    else (if w == 5 then codes "begin get " ++ repo_word r ++ codes " " ++ key_word j ++ codes "\n"
    else (if w == 6 then codes "begin copy " ++ repo_word r ++ codes " " ++ key_word j ++ codes " to " ++ repo_word p ++ codes "\n"
    else codes "crash " ++ repo_word r ++ codes "\n")))

abbrev pub turn_line : ℕ → ℕ → List ℕ
turn_line r n = codes "turn " ++ repo_word r ++ codes " " ++ decimal n ++ codes "\n"

abbrev pub settle_line : List ℕ
settle_line = codes "settle\n"

-- one time: the job or crash, and then turns of the two repositories; after every eighth time all settles
abbrev pub time_lines : (place r j p w turns : ℕ) → List ℕ
time_lines place r j p w turns = job_line w r j p ++ turn_line r turns ++ turn_line p turns ++ (if (place % 8) == 0 then settle_line else [])

-- the second repository of a time: another than the first
abbrev pub second : ℕ → ℕ → ℕ
second r n = (r + 1 + n) % 8

-- so many times, of which the first is at this place, counted from 1: of each five draws are made
abbrev pub times : ℕ → ℕ → ℕ → List ℕ
times zero place x = []
times (suc n) place x =
    let x1 = next_state x in
    let x2 = next_state x1 in
    let x3 = next_state x2 in
    let x4 = next_state x3 in
    let x5 = next_state x4 in
    let r = drawn x1 8 in
    time_lines place r (drawn x2 16) (second r (drawn x3 7)) (drawn x4 8) (drawn x5 16 + 1) ++ times n (place + 1) x5

-- ---- the script

abbrev pub storm_text : ℕ → ℕ → List ℕ
storm_text number jobs =
    let had = haves 48 0 number in
    flat_map repo_line (range_with_len 0 8) ++ had.text ++ codes "numcopies s0 2\n" ++ flat_map merge_line (range_with_len 1 7) ++ times jobs 1 had.state ++ settle_line
