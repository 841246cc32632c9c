-- The lines of a storm, one after the other.
use Rattle.std.proofs.Common.{◌≡◌, ℕ, zero, suc, ◌+◌, ◌/◌, ◌%◌, ◌<◌, ◌≤◌, Bool, true, false, List, [], ◌∷◌, ◌++◌, map, refl, sym, ap, subst, ◌∙◌, arith, append_assoc}
use Rattle.std.specs.Prelude.{◌==◌, ◌^◌, codes, flat_map, if◌then◌else◌, not}
use Rattle.std.specs.List.{list_all, range_with_len}
use Rattle.std.specs.Fmt.{decimal}
use Rattle.std.proofs.lemmas.Bool.{not-true}
use Rattle.std.proofs.lemmas.Bool.Decides.{nat_tests}
use Rattle.std.proofs.lemmas.Nat.{mod_below}
use Rattle.annex_base.specs.Lines.{newline}
use Rattle.log_lines.specs.declared.entry.LogKind.TheVariants.{Numcopies}
use Rattle.log_lines.specs.declared.entry.Topic.TheVariants.{Whole}
use Rattle.log_lines.specs.declared.entry.Value.TheVariants.{Number}
use Rattle.script_commands.specs.declared.command.Action.TheVariants.{Have, Set, Settle, Turns}
use Rattle.script_commands.specs.declared.command.Command.{Command}
use Rattle.script_commands.specs.declared.command.Command.TheVariants.{Does}
use Rattle.script_forms.specs.Context.{Context}
use Rattle.storm_script.specs.Storm.{drawn, have_line, haves, job_line, key_word, merge_line, next_state, repo_line, repo_word, second, settle_line, storm_text, time_lines, times, turn_line}
use Rattle.kept_copies.specs.Storms.{have_commands, job_action, merge_command, repo_command, storm_commands, time_commands, times_commands}
use Rattle.storm_reading.proofs.Declaring.{Declared, all_declared, repos_led}
use Rattle.storm_reading.proofs.Leading.{Holds, Led, led_both, led_from, led_line, led_none, led_range}
use Rattle.storm_reading.proofs.Naming.{SayingLaws, each_below, passes_below}
use Rattle.storm_reading.proofs.Saying.{copy_said, crash_said, drop_from_said, drop_said, get_said, have_said, merge_said, numcopies_said, settle_said, turn_said}
use Rattle.storm_reading.proofs.Stepping.{WordLaws}

-- ---- draws

drawn_below : (x n : ℕ) → 0 < n → drawn x n < n
drawn_below x n some = mod_below (x / 2 ^ 33) n some

apart : (r n : ℕ) → r < 8 → n < 7 → (r == second r n) ≡ false
apart r n h g =
    not-true (r == second r n)
    (passes_below (λ (m : ℕ). not (r == second r m)) 0 7
    (passes_below (λ (q : ℕ). list_all (λ (m : ℕ). not (q == second q m)) (range_with_len 0 7)) 0 8 refl r (omega arith) (omega (arith, h))) n (omega arith) (omega (arith, g)))

-- all contents are in place
abbrev Full : Context → Type 0
Full = Holds 48

module _ (words : WordLaws) (sayings : SayingLaws) where
  -- ---- contents

  have_led : (k r : ℕ) → r < 8 → k < 48 → Led (Holds k) (Holds (k + 1)) (have_line r (k / 3)) (Does (Have r (key_word (k / 3)) (codes "abc")) ∷ [])
  have_led k r h few =
      let third : k / 3 < 16 = omega (arith, few) in
      let front = codes "have " ++ repo_word r ++ codes " " ++ key_word (k / 3) in
      led_line (Holds k) (Holds (k + 1)) (front ++ codes " text:abc") (have_line r (k / 3)) (Does (Have r (key_word (k / 3)) (codes "abc"))) (append_assoc front (codes " text:abc") (newline ∷ []))
      (have_said words sayings k r (k / 3) h third (omega (arith, few)))

  haves_led : (n k x : ℕ) → k + n ≡ 48 → Led (Holds k) Full (haves n k x).text (have_commands n k x)
  haves_led zero k x e =
      let same : k ≡ 48 = omega (arith, e) in
      subst (λ (j : ℕ). Led (Holds k) (Holds j) [] []) same (led_none (Holds k))
  haves_led (suc n) k x e =
      let r = drawn (next_state x) 8 in
      led_both (Holds k) (Holds (k + 1)) Full (have_line r (k / 3)) (haves n (k + 1) (next_state x)).text (Does (Have r (key_word (k / 3)) (codes "abc")) ∷ []) (have_commands n (k + 1) (next_state x))
      (have_led k r (drawn_below (next_state x) 8 (omega arith)) (omega (arith, e))) (haves_led n (k + 1) (next_state x) (omega (arith, e)))

  -- ---- merges

  merge_led : (r : ℕ) → 1 ≤ r → r < 8 → Led Full Full (merge_line r) (merge_command r ∷ [])
  merge_led r low high =
      let other : (r == 0) ≡ false = grind (arith, nat_tests) in
      let front = codes "merge " ++ repo_word r in
      led_line Full Full (front ++ codes " s0") (merge_line r) (merge_command r) (append_assoc front (codes " s0") (newline ∷ [])) (merge_said words sayings 48 r high other)

  merges_led : Led Full Full (flat_map merge_line (range_with_len 1 7)) (map merge_command (range_with_len 1 7))
  merges_led = led_range (λ (a : ℕ). Full) merge_line merge_command 1 8 (λ a low high. merge_led a low high) 7 1 (omega arith) refl

  -- ---- times

  settle_led : Led Full Full settle_line (Does Settle ∷ [])
  settle_led = led_line Full Full (codes "settle") settle_line (Does Settle) refl (settle_said words sayings 48)

  turn_led : (r n : ℕ) → r < 8 → 1 ≤ n → n < 17 → Led Full Full (turn_line r n) (Does (Turns r n) ∷ [])
  turn_led r n h low high = led_line Full Full (codes "turn " ++ repo_word r ++ codes " " ++ decimal n) (turn_line r n) (Does (Turns r n)) refl (turn_said words sayings 48 r n h low high)

  job_led : (w r j p : ℕ) → w < 8 → r < 8 → j < 16 → (r == p) ≡ false → p < 8 → Led Full Full (job_line w r j p) (Does (job_action w r j p) ∷ [])
  job_led w r j p few h g other i =
      let dropped : Led Full Full (job_line 0 r j p) (Does (job_action 0 r j p) ∷ []) =
      led_line Full Full (codes "begin drop " ++ repo_word r ++ codes " " ++ key_word j) (job_line 0 r j p) (Does (job_action 0 r j p)) refl (drop_said words sayings 48 r j h g) in
      let dropped_from : Led Full Full (job_line 3 r j p) (Does (job_action 3 r j p) ∷ []) =
      led_line Full Full (codes "begin drop " ++ repo_word r ++ codes " " ++ key_word j ++ codes " from " ++ repo_word p) (job_line 3 r j p) (Does (job_action 3 r j p)) refl
      (drop_from_said words sayings 48 r j p h g other i) in
      let got : Led Full Full (job_line 5 r j p) (Does (job_action 5 r j p) ∷ []) =
      led_line Full Full (codes "begin get " ++ repo_word r ++ codes " " ++ key_word j) (job_line 5 r j p) (Does (job_action 5 r j p)) refl (get_said words sayings 48 r j h g) in
      let copied : Led Full Full (job_line 6 r j p) (Does (job_action 6 r j p) ∷ []) =
      led_line Full Full (codes "begin copy " ++ repo_word r ++ codes " " ++ key_word j ++ codes " to " ++ repo_word p) (job_line 6 r j p) (Does (job_action 6 r j p)) refl
      (copy_said words sayings 48 r j p h g other i) in
      let crashed : Led Full Full (job_line 7 r j p) (Does (job_action 7 r j p) ∷ []) =
      led_line Full Full (codes "crash " ++ repo_word r) (job_line 7 r j p) (Does (job_action 7 r j p)) refl (crash_said words sayings 48 r h) in
      each_below (λ (q : ℕ). Led Full Full (job_line q r j p) (Does (job_action q r j p) ∷ [])) 0 8
      (dropped, (dropped, (dropped, (dropped_from, (dropped_from, (got, (copied, (crashed, tt)))))))) w (omega arith) (omega (arith, few))

  settled_if : (b : Bool) → Led Full Full (if b then settle_line else []) (if b then Does Settle ∷ [] else [])
  settled_if true = settle_led
  settled_if false = led_none Full

  time_led : (place r j p w turns : ℕ) → r < 8 → j < 16 → (r == p) ≡ false → p < 8 → w < 8 → 1 ≤ turns → turns < 17
      → Led Full Full (time_lines place r j p w turns) (time_commands place r j p w turns)
  time_led place r j p w turns h g other i few low high =
      let job = job_led w r j p few h g other i in
      let one = led_both Full Full Full (job_line w r j p) (turn_line r turns) (Does (job_action w r j p) ∷ []) (Does (Turns r turns) ∷ []) job (turn_led r turns h low high) in
      let two = led_both Full Full Full (job_line w r j p ++ turn_line r turns) (turn_line p turns) (Does (job_action w r j p) ∷ Does (Turns r turns) ∷ []) (Does (Turns p turns) ∷ []) one (turn_led p turns i low high) in
      led_both Full Full Full (job_line w r j p ++ turn_line r turns ++ turn_line p turns) (if (place % 8) == 0 then settle_line else [])
      (Does (job_action w r j p) ∷ Does (Turns r turns) ∷ Does (Turns p turns) ∷ []) (if (place % 8) == 0 then Does Settle ∷ [] else []) two (settled_if ((place % 8) == 0))

  times_led : (n place x : ℕ) → Led Full Full (times n place x) (times_commands n place x)
  times_led zero place x = led_none Full
  times_led (suc n) place x =
      let x1 = next_state x in
      let x2 = next_state x1 in
      let x3 = next_state x2 in
      let x4 = next_state x3 in
      let x5 = next_state x4 in
      let r = drawn x1 8 in
      let h = drawn_below x1 8 (omega arith) in
      let p = second r (drawn x3 7) in
      let turns = drawn x5 16 + 1 in
      let few = drawn_below x5 16 (omega arith) in
      led_both Full Full Full (time_lines place r (drawn x2 16) p (drawn x4 8) turns) (times n (place + 1) x5) (time_commands place r (drawn x2 16) p (drawn x4 8) turns) (times_commands n (place + 1) x5)
      (time_led place r (drawn x2 16) p (drawn x4 8) turns h (drawn_below x2 16 (omega arith)) (apart r (drawn x3 7) h (drawn_below x3 7 (omega arith))) (mod_below (r + 1 + drawn x3 7) 8 (omega arith))
      (drawn_below x4 8 (omega arith)) (omega arith) (omega (arith, few))) (times_led n (place + 1) x5)

  -- ---- the whole text

  numcopies_led : Led Full Full (codes "numcopies s0 2\n") (Does (Set 0 Numcopies Whole (Number 2)) ∷ [])
  numcopies_led = led_line Full Full (codes "numcopies s0 2") (codes "numcopies s0 2\n") (Does (Set 0 Numcopies Whole (Number 2))) refl (numcopies_said words sayings 48)

  -- six texts, in two parts
  six : (P Q R : Context → Type 0) (a b c d e f : List ℕ) (ka kb kc kd ke kf : List Command) → Led P Q a ka → Led Q R b kb → Led R R c kc → Led R R d kd → Led R R e ke → Led R R f kf
      → Led P R (a ++ b ++ c ++ d ++ e ++ f) ((ka ++ kb) ++ (kc ++ kd ++ ke ++ kf))
  six P Q R a b c d e f ka kb kc kd ke kf la lb lc ld le lf =
      let regroup : (a ++ b) ++ (c ++ d ++ e ++ f) ≡ a ++ b ++ c ++ d ++ e ++ f =
      sym (append_assoc (a ++ b) (c ++ d ++ e) f) ∙ ap (λ (l : List ℕ). l ++ f) (sym (append_assoc (a ++ b) (c ++ d) e) ∙ ap (λ (l : List ℕ). l ++ e) (sym (append_assoc (a ++ b) c d))) in
      subst (λ (l : List ℕ). Led P R l ((ka ++ kb) ++ (kc ++ kd ++ ke ++ kf))) regroup
      (led_both P R R (a ++ b) (c ++ d ++ e ++ f) (ka ++ kb) (kc ++ kd ++ ke ++ kf) (led_both P Q R a b ka kb la lb)
      (led_both R R R (c ++ d ++ e) f (kc ++ kd ++ ke) kf (led_both R R R (c ++ d) e (kc ++ kd) ke (led_both R R R c d kc kd lc ld) le) lf))

  pub storm_led : (number jobs : ℕ) → Led (Declared 0) Full (storm_text number jobs) (storm_commands number jobs)
  storm_led number jobs =
      let had = haves 48 0 number in
      six (Declared 0) (Declared 8) Full (flat_map repo_line (range_with_len 0 8)) had.text (codes "numcopies s0 2\n") (flat_map merge_line (range_with_len 1 7)) (times jobs 1 had.state) settle_line
      (map repo_command (range_with_len 0 8)) (have_commands 48 0 number) (Does (Set 0 Numcopies Whole (Number 2)) ∷ []) (map merge_command (range_with_len 1 7)) (times_commands jobs 1 had.state) (Does Settle ∷ [])
      (repos_led words) (led_from (Declared 8) (Holds 0) Full had.text (have_commands 48 0 number) all_declared (haves_led 48 0 number refl)) numcopies_led merges_led (times_led jobs 1 had.state) settle_led
