-- How many of some first keys of a storm have a copy.
use Rattle.std.proofs.Common.{◌≡◌, ℕ, ◌+◌, Bool, true, false, cond, List, length, sym, ap, ◌∙◌, arith}
use Rattle.std.specs.Prelude.{if◌then◌else◌, map, nat_le}
use Rattle.std.specs.List.{range_with_len}
use Rattle.std.proofs.lemmas.List.Sums.{length-filter}
use Rattle.std.proofs.lemmas.List.FromFn.{sum_by-map-range_with_len_more}
use Rattle.run_data.specs.declared.run.Run.{Run}
use Rattle.run_model.specs.Past.{present}
use Rattle.run_model.specs.Safety.{copies_at, past_at}
use Rattle.report_tables.specs.Before.{possessors}
use Rattle.kept_copies.specs.Scripts.{kept_of}
use Rattle.storm_script.specs.Storm.{key_word}

-- the first keys
abbrev pub first_keys : ℕ → List (List ℕ)
first_keys n = map key_word (range_with_len 0 n)

abbrev has_copy : Run → List ℕ → Bool
has_copy run key = nat_le 1 (copies_at run key (length run.entries))

kept_one : (run : Run) (n : ℕ) → kept_of run (first_keys (n + 1)) ≡ kept_of run (first_keys n) + cond (has_copy run (key_word n)) 1 0
kept_one run n = let place : 0 + n ≡ n = omega arith in sum_by-map-range_with_len_more (λ key. cond (has_copy run key) 1 0) key_word 0 n n place

one_is : (b : Bool) (n : ℕ) → n ≡ (if b then 1 else 0) → n ≡ cond b 1 0
one_is true n is = is
one_is false n is = is

-- one more key, which has a copy or not
pub kept_more : (run : Run) (n kept one : ℕ) (has : Bool) → kept ≡ kept_of run (first_keys n) → has ≡ has_copy run (key_word n) → one ≡ (if has then 1 else 0)
    → kept + one ≡ kept_of run (first_keys (n + 1))
kept_more run n kept one has so_far is counted =
    ap (λ (k : ℕ). kept + k) (one_is has one counted) ∙ ap (λ (b : Bool). kept + cond b 1 0) is ∙ ap (λ (k : ℕ). k + cond (has_copy run (key_word n)) 1 0) so_far ∙ sym (kept_one run n)

-- the copies of a key are its possessors
pub copies_are : (run : Run) (place : ℕ) (key : List ℕ) → length (possessors run place key) ≡ copies_at run key place
copies_are run place key = length-filter (λ r. present (past_at run place) r key) (range_with_len 0 (length run.repos))

-- so where their numbers are these, it has some exactly where there are some
pub some_are : (run : Run) (place : ℕ) (key xs : List ℕ) → xs ≡ possessors run place key → nat_le 1 (length xs) ≡ nat_le 1 (copies_at run key place)
some_are run place key xs are = ap (λ (ys : List ℕ). nat_le 1 (length ys)) are ∙ ap (nat_le 1) (copies_are run place key)
