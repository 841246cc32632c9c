-- The lines of a storm: the first put a content of each key in place, and none writes into a trust log.
use Rattle.std.proofs.Common.{◌≡◌, ℕ, zero, suc, ◌+◌, ◌*◌, ◌/◌, ◌%◌, ◌<◌, ◌≤◌, Bool, true, false, List, [], ◌∷◌, ◌++◌, length, map, Option, Some, None, ◌⊎◌, inl, inr, refl, ap, subst, arith, length-append}
use Rattle.std.specs.Prelude.{◌==◌, bytes_eq, if◌then◌else◌, nat_le, not}
use Rattle.std.specs.List.{list_all, list_any, range_with_len}
use Rattle.std.proofs.lemmas.Bool.{and_from, or_left, or_right}
use Rattle.annex_base.proofs.Conditions.{bytes_eq-refl}
use Rattle.annex_base.proofs.Lists.{Each-map, Each-weaker, list_all-from_Each, list_all_append}
use Rattle.annex_base.proofs.Numbers.{range_below}
use Rattle.run_data.specs.Histories.{most_entries}
use Rattle.run_data.specs.declared.job.JobKind.{JobKind}
use Rattle.run_data.specs.declared.job.JobKind.TheVariants as jobs
use Rattle.script_commands.specs.declared.command.Action.{Action}
use Rattle.script_commands.specs.declared.command.Action.TheVariants.{Begin, Crash, Settle}
use Rattle.script_commands.specs.declared.command.Command.{Command}
use Rattle.script_commands.specs.declared.command.Command.TheVariants.{Does}
use Rattle.storm_script.specs.Storm.{drawn, haves, key_word, next_state, second}
use Rattle.kept_copies.specs.Scripts.{have_contents, prepares, puts_content, sets_trust, trusts_nobody, writes_trust}
use Rattle.kept_copies.specs.Storms.{first_commands, have_commands, job_action, later_commands, merge_command, repo_command, storm_commands, storm_keys, time_commands, times_commands}

-- ---- the first lines

repos_prepare : (rs : List ℕ) → list_all prepares (map repo_command rs) ≡ true
repos_prepare [] = refl
repos_prepare (r ∷ rs) = repos_prepare rs

haves_prepare : (n k x : ℕ) → list_all prepares (have_commands n k x) ≡ true
haves_prepare zero k x = refl
haves_prepare (suc n) k x = haves_prepare n (k + 1) (next_state x)

pub firsts_prepare : (number : ℕ) → list_all prepares (first_commands number) ≡ true
firsts_prepare number =
    list_all_append prepares (map repo_command (range_with_len 0 8)) (have_commands 48 0 number) (repos_prepare (range_with_len 0 8)) (haves_prepare 48 0 number)

here_or_later : (k p : ℕ) → k ≤ p → (k ≡ p) ⊎ (k + 1 ≤ p)
here_or_later k p h = grind arith

-- one of these lines puts the content of a key in place
haves_put : (n k p x : ℕ) → k ≤ p → p < k + n → list_any (puts_content (key_word (p / 3))) (have_commands n k x) ≡ true
haves_put zero k p x low high = absurd (omega (arith, low, high))
haves_put (suc n) k p x low high = go (λ i. haves_put n (k + 1) p (next_state x) i (omega (arith, high))) (here_or_later k p low)
  where
    go : (k + 1 ≤ p → list_any (puts_content (key_word (p / 3))) (have_commands n (k + 1) (next_state x)) ≡ true) → (k ≡ p) ⊎ (k + 1 ≤ p)
        → list_any (puts_content (key_word (p / 3))) (have_commands (suc n) k x) ≡ true
    go later (inl same) =
        or_left (bytes_eq (key_word (k / 3)) (key_word (p / 3))) (list_any (puts_content (key_word (p / 3))) (have_commands n (k + 1) (next_state x)))
        (subst (λ (q : ℕ). bytes_eq (key_word (k / 3)) (key_word (q / 3)) ≡ true) same (bytes_eq-refl (key_word (k / 3))))
    go later (inr more) =
        or_right (bytes_eq (key_word (k / 3)) (key_word (p / 3))) (list_any (puts_content (key_word (p / 3))) (have_commands n (k + 1) (next_state x))) (later more)

any_right : (q : Command → Bool) (xs ys : List Command) → list_any q ys ≡ true → list_any q (xs ++ ys) ≡ true
any_right q [] ys h = h
any_right q (x ∷ xs) ys h = or_right (q x) (list_any q (xs ++ ys)) (any_right q xs ys h)

third : (j : ℕ) → (3 * j) / 3 ≡ j
third j = omega arith

key_put : (number j : ℕ) → j < 16 → list_any (puts_content (key_word j)) (first_commands number) ≡ true
key_put number j h =
    any_right (puts_content (key_word j)) (map repo_command (range_with_len 0 8)) (have_commands 48 0 number)
    (subst (λ (i : ℕ). list_any (puts_content (key_word i)) (have_commands 48 0 number) ≡ true) (third j) (haves_put 48 0 (3 * j) number (omega arith) (omega (arith, h))))

keys_put : (number : ℕ) → list_all (λ key. list_any (puts_content key) (first_commands number)) storm_keys ≡ true
keys_put number =
    list_all-from_Each (λ key. list_any (puts_content key) (first_commands number)) storm_keys
    (Each-map (λ key. list_any (puts_content key) (first_commands number) ≡ true) key_word (range_with_len 0 16)
    (Each-weaker (λ j. j < 16) (λ j. list_any (puts_content (key_word j)) (first_commands number) ≡ true) (key_put number) (range_with_len 0 16) (range_below 0 16 16 refl)))

pub firsts_have : (number : ℕ) → have_contents (first_commands number) storm_keys ≡ true
firsts_have number =
    and_from (list_all prepares (first_commands number)) (list_all (λ key. list_any (puts_content key) (first_commands number)) storm_keys) (firsts_prepare number) (keys_put number)

haves_long : (n k x : ℕ) → length (have_commands n k x) ≡ n
haves_long zero k x = refl
haves_long (suc n) k x = let i = haves_long n (k + 1) (next_state x) in omega (arith, i)

pub firsts_few : (number : ℕ) → 2 * length (first_commands number) ≤ most_entries
firsts_few number =
    let i = length-append (map repo_command (range_with_len 0 8)) (have_commands 48 0 number) in
    let j = haves_long 48 0 number in
    let eight : length (map repo_command (range_with_len 0 8)) ≡ 8 = refl in
    omega (arith, i, j, eight)

-- ---- trust

abbrev TrustsNone : List Command → Type 0
TrustsNone lines = trusts_nobody lines ≡ true

repos_free : (rs : List ℕ) → TrustsNone (map repo_command rs)
repos_free [] = refl
repos_free (r ∷ rs) = repos_free rs

haves_free : (n k x : ℕ) → TrustsNone (have_commands n k x)
haves_free zero k x = refl
haves_free (suc n) k x = haves_free n (k + 1) (next_state x)

merges_free : (rs : List ℕ) → TrustsNone (map merge_command rs)
merges_free [] = refl
merges_free (r ∷ rs) = merges_free rs

abbrev begun : ℕ → ℕ → JobKind → Option ℕ → Action
begun r j kind peer = Begin r (record { kind = kind; key = key_word j; path = None; peer = peer })

job_free : (w r j p : ℕ) → writes_trust (job_action w r j p) ≡ false
job_free w r j p = go (nat_le w 2) (nat_le w 4) (w == 5) (w == 6)
  where
    go : (a b c d : Bool)
        → writes_trust (if a then begun r j jobs.Drop None else (if b then begun r j jobs.Drop (Some p) else (if c then begun r j jobs.Get None else (if d then begun r j jobs.Copy (Some p) else Crash r 0)))) ≡ false
    go true b c d = refl
    go false true c d = refl
    go false false true d = refl
    go false false false true = refl
    go false false false false = refl

settle_free : (b : Bool) → TrustsNone (if b then Does Settle ∷ [] else [])
settle_free true = refl
settle_free false = refl

time_free : (place r j p w turns : ℕ) → TrustsNone (time_commands place r j p w turns)
time_free place r j p w turns =
    and_from (not (writes_trust (job_action w r j p))) (trusts_nobody (if (place % 8) == 0 then Does Settle ∷ [] else []))
    (ap not (job_free w r j p)) (settle_free ((place % 8) == 0))

both_free : (xs ys : List Command) → TrustsNone xs → TrustsNone ys → TrustsNone (xs ++ ys)
both_free xs ys h k = list_all_append (λ line. not (sets_trust line)) xs ys h k

times_free : (n place x : ℕ) → TrustsNone (times_commands n place x)
times_free zero place x = refl
times_free (suc n) place x =
    let x1 = next_state x in
    let x2 = next_state x1 in
    let x3 = next_state x2 in
    let x4 = next_state x3 in
    let x5 = next_state x4 in
    let r = drawn x1 8 in
    both_free (time_commands place r (drawn x2 16) (second r (drawn x3 7)) (drawn x4 8) (drawn x5 16 + 1)) (times_commands n (place + 1) x5)
    (time_free place r (drawn x2 16) (second r (drawn x3 7)) (drawn x4 8) (drawn x5 16 + 1)) (times_free n (place + 1) x5)

laters_free : (number jobs : ℕ) → TrustsNone (later_commands number jobs)
laters_free number jobs =
    both_free (map merge_command (range_with_len 1 7)) (times_commands jobs 1 (haves 48 0 number).state ++ Does Settle ∷ []) (merges_free (range_with_len 1 7))
    (both_free (times_commands jobs 1 (haves 48 0 number).state) (Does Settle ∷ []) (times_free jobs 1 (haves 48 0 number).state) refl)

pub storms_free : (number jobs : ℕ) → trusts_nobody (storm_commands number jobs) ≡ true
storms_free number jobs =
    both_free (first_commands number) (later_commands number jobs)
    (both_free (map repo_command (range_with_len 0 8)) (have_commands 48 0 number) (repos_free (range_with_len 0 8)) (haves_free 48 0 number))
    (laters_free number jobs)
