-- The lines of a storm's script, one more at a time.
use Rattle.std.proofs.Common.{◌≡◌, ◌⊎◌, inl, inr, ℕ, zero, suc, ◌+◌, ◌-◌, ◌/◌, ◌≤◌, ◌<◌, List, ◌++◌, refl, sym, ◌∙◌, ap, arith, append_assoc, append-nil, add-zero}
use Rattle.std.specs.Prelude.{codes}
use Rattle.std.specs.List.{flat_map, range_with_len}
use Rattle.std.proofs.lemmas.Bool.{cases_lt}
use Rattle.storm_script.specs.Storm.{Drawn, drawn, have_line, haves, job_line, key_word, next_state, repo_word, text_before, time_lines, times}
use Rattle.storm_text.specs.declared.lines.Time.{Time}
use Rattle.storm_text.specs.Times.{drawn_time, state_after}

-- the text so far, with one more
more : (old all out new next : List ℕ) → out ≡ old ++ all → new ≡ out ++ next → new ≡ old ++ (all ++ next)
more old all out new next so_far is = is ∙ ap (λ (l : List ℕ). l ++ next) so_far ∙ append_assoc old all next

-- six texts, one after the other
pub six : (old a b c d e f o1 o2 o3 o4 o5 o6 : List ℕ) → o1 ≡ old ++ a → o2 ≡ o1 ++ b → o3 ≡ o2 ++ c → o4 ≡ o3 ++ d → o5 ≡ o4 ++ e → o6 ≡ o5 ++ f
    → o6 ≡ old ++ (a ++ b ++ c ++ d ++ e ++ f)
six old a b c d e f o1 o2 o3 o4 o5 o6 e1 e2 e3 e4 e5 e6 =
    more old (a ++ b ++ c ++ d ++ e) o5 o6 f
    (more old (a ++ b ++ c ++ d) o4 o5 e (more old (a ++ b ++ c) o3 o4 d (more old (a ++ b) o2 o3 c (more old a o1 o2 b e1 e2) e3) e4) e5) e6

-- ---- lines of numbers

pub flat_map_suc : (f : ℕ → List ℕ) (a n : ℕ) → flat_map f (range_with_len a (suc n)) ≡ flat_map f (range_with_len a n) ++ f (a + n)
flat_map_suc f a zero = rw (add-zero, append-nil) refl
flat_map_suc f a (suc n) =
    let place : (a + 1) + n ≡ a + suc n = omega arith in
    rw (flat_map_suc f (a + 1) n, place) (sym (append_assoc (f a) _ _))

-- the text so far, with the line of one more number
pub line_more : (f : ℕ → List ℕ) (first next : ℕ) (old out new : List ℕ) → first ≤ next → out ≡ old ++ flat_map f (range_with_len first (next - first))
    → new ≡ out ++ f next → new ≡ old ++ flat_map f (range_with_len first ((next + 1) - first))
line_more f first next old out new from so_far is =
    let count : (next + 1) - first ≡ suc (next - first) = omega arith in
    let last : first + (next - first) ≡ next = omega arith in
    is ∙ ap (λ (l : List ℕ). l ++ f next) so_far ∙ append_assoc old _ _
    ∙ rw (count, flat_map_suc f first (next - first), last) refl

-- ---- contents

haves_step : (n m k x : ℕ) → n ≡ suc m → haves n k x ≡ text_before (have_line (drawn (next_state x) 8) (k / 3)) (haves m (k + 1) (next_state x))
haves_step n m k x e = rw e refl

-- the text so far and the rest are all, with the line of one more content
pub have_more : (n : ℕ) (all out new : List ℕ) (k x y r : ℕ) → k < n → all ≡ out ++ (haves (n - k) k x).text → y ≡ next_state x → r ≡ drawn (next_state x) 8
    → new ≡ out ++ have_line r (k / 3) → all ≡ new ++ (haves (n - (k + 1)) (k + 1) y).text
have_more n all out new k x y r less so_far state drew is =
    let count : n - k ≡ suc (n - (k + 1)) = omega arith in
    let line = have_line (drawn (next_state x) 8) (k / 3) in
    let rest = (haves (n - (k + 1)) (k + 1) (next_state x)).text in
    so_far ∙ ap (λ (d : Drawn). out ++ d.text) (haves_step (n - k) (n - (k + 1)) k x count)
    ∙ sym (append_assoc out line rest)
    ∙ ap (λ (l : List ℕ). l ++ rest) (sym (is ∙ ap (λ (q : ℕ). out ++ have_line q (k / 3)) drew))
    ∙ ap (λ (z : ℕ). new ++ (haves (n - (k + 1)) (k + 1) z).text) (sym state)

-- and the state at the end stays the same
pub state_more : (n all k x y : ℕ) → k < n → all ≡ (haves (n - k) k x).state → y ≡ next_state x → all ≡ (haves (n - (k + 1)) (k + 1) y).state
state_more n all k x y less so_far state =
    let count : n - k ≡ suc (n - (k + 1)) = omega arith in
    so_far ∙ ap (λ (d : Drawn). d.state) (haves_step (n - k) (n - (k + 1)) k x count) ∙ ap (λ (z : ℕ). (haves (n - (k + 1)) (k + 1) z).state) (sym state)

pub have_end : (n : ℕ) (all out : List ℕ) (k x : ℕ) → n ≤ k → all ≡ out ++ (haves (n - k) k x).text → out ≡ all
have_end n all out k x far so_far =
    let none : n - k ≡ 0 = omega arith in
    sym (so_far ∙ ap (λ (m : ℕ). out ++ (haves m k x).text) none ∙ append-nil out)

pub state_end : (n all k x : ℕ) → n ≤ k → all ≡ (haves (n - k) k x).state → x ≡ all
state_end n all k x far so_far =
    let none : n - k ≡ 0 = omega arith in
    sym (so_far ∙ ap (λ (m : ℕ). (haves m k x).state) none)

-- ---- times

abbrev lines_of : ℕ → Time → List ℕ
lines_of place t = time_lines place t.repo t.key t.other t.draw t.turns

times_step : (n m place x : ℕ) → n ≡ suc m → times n place x ≡ lines_of place (drawn_time x) ++ times m (place + 1) (state_after x)
times_step n m place x e = rw e refl

pub time_more : (n : ℕ) (all out new : List ℕ) (k x y : ℕ) (t : Time) → k < n → all ≡ out ++ times (n - k) (k + 1) x → y ≡ state_after x → t ≡ drawn_time x
    → new ≡ out ++ time_lines (k + 1) t.repo t.key t.other t.draw t.turns → all ≡ new ++ times (n - (k + 1)) ((k + 1) + 1) y
time_more n all out new k x y t less so_far state drew is =
    let count : n - k ≡ suc (n - (k + 1)) = omega arith in
    let lines = lines_of (k + 1) (drawn_time x) in
    let rest = times (n - (k + 1)) ((k + 1) + 1) (state_after x) in
    so_far ∙ ap (λ (l : List ℕ). out ++ l) (times_step (n - k) (n - (k + 1)) (k + 1) x count)
    ∙ sym (append_assoc out lines rest)
    ∙ ap (λ (l : List ℕ). l ++ rest) (sym (is ∙ ap (λ (u : Time). out ++ lines_of (k + 1) u) drew))
    ∙ ap (λ (z : ℕ). new ++ times (n - (k + 1)) ((k + 1) + 1) z) (sym state)

pub time_end : (n : ℕ) (all out : List ℕ) (k x : ℕ) → n ≤ k → all ≡ out ++ times (n - k) (k + 1) x → out ≡ all
time_end n all out k x far so_far =
    let none : n - k ≡ 0 = omega arith in
    sym (so_far ∙ ap (λ (m : ℕ). out ++ times m (k + 1) x) none ∙ append-nil out)

-- ---- jobs

pub job_drop : (w r j p : ℕ) → w ≤ 2 → job_line w r j p ≡ codes "begin drop " ++ repo_word r ++ codes " " ++ key_word j ++ codes "\n"
job_drop zero r j p few = refl
job_drop (suc zero) r j p few = refl
job_drop (suc (suc zero)) r j p few = refl
job_drop (suc (suc (suc w))) r j p few = absurd (omega arith)

pub job_from : (w r j p : ℕ) → 2 < w → w ≤ 4 → job_line w r j p ≡ codes "begin drop " ++ repo_word r ++ codes " " ++ key_word j ++ codes " from " ++ repo_word p ++ codes "\n"
job_from w r j p more few = go (cases_lt w 4)
  where
    go : (w < 4) ⊎ (4 ≤ w) → job_line w r j p ≡ codes "begin drop " ++ repo_word r ++ codes " " ++ key_word j ++ codes " from " ++ repo_word p ++ codes "\n"
    go (inl h) = let e : w ≡ 3 = omega arith in ap (λ (v : ℕ). job_line v r j p) e
    go (inr h) = let e : w ≡ 4 = omega arith in ap (λ (v : ℕ). job_line v r j p) e

pub job_crash : (w r j p : ℕ) → w < 8 → 4 < w → (w ≡ 5 → ⊥) → (w ≡ 6 → ⊥) → job_line w r j p ≡ codes "crash " ++ repo_word r ++ codes "\n"
job_crash w r j p below more get copy = let e : w ≡ 7 = omega arith in ap (λ (v : ℕ). job_line v r j p) e
