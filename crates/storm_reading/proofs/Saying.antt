-- What each line of a storm says.
use Rattle.std.proofs.Common.{◌≡◌, ℕ, ◌+◌, ◌*◌, ◌<◌, ◌≤◌, true, false, List, [], ◌∷◌, ◌++◌, Some, None, refl, sym, ap, ◌∙◌, arith, append_assoc, append-nil}
use Rattle.std.specs.Prelude.{◌==◌, codes, nat_lt, if◌then◌else◌}
use Rattle.std.specs.List.{list_all}
use Rattle.std.specs.Fmt.{decimal}
use Rattle.std.proofs.lemmas.Bool.Decides.{nat_tests}
use Rattle.annex_base.specs.Lines.{is_not_newline}
use Rattle.annex_base.proofs.Lists.{list_all_append}
use Rattle.log_lines.specs.declared.entry.LogKind.TheVariants.{Numcopies}
use Rattle.log_lines.specs.declared.entry.Topic.TheVariants.{Whole}
use Rattle.log_lines.specs.declared.entry.Value.TheVariants.{Number}
use Rattle.run_data.specs.declared.job.JobKind.TheVariants as jobs
use Rattle.script_commands.specs.declared.command.Action.TheVariants.{Begin, Crash, Have, Merge, Set, Settle, Turns}
use Rattle.script_commands.specs.declared.command.Command.TheVariants.{Does}
use Rattle.script_forms.specs.Context.{Context}
use Rattle.script_forms.specs.Limits.{first_limit}
use Rattle.script_forms.specs.declared.fault.Quantity.TheVariants.{Contents}
use Rattle.script_forms.specs.declared.verb.BlockVerb.TheVariants as block_verbs
use Rattle.script_forms.specs.declared.verb.Verb.TheVariants as verbs
use Rattle.script_lang.specs.Script.{context_with}
use Rattle.storm_script.specs.Storm.{key_word, repo_word}
use Rattle.storm_reading.proofs.Leading.{Holds, Said, calm, formed, verb}
use Rattle.storm_reading.proofs.Naming.{SayingLaws, key_plain, repo_plain, turns_plain}
use Rattle.storm_reading.proofs.Rows.{copy_row, crash_row, drop_from_row, drop_row, get_row, have_row, merge_row, numcopies_row, settle_row, turn_row}
use Rattle.storm_reading.proofs.Stepping.{WordLaws, plain_one_line}

-- ---- texts side by side

abbrev OneLine : List ℕ → Type 0
OneLine text = list_all is_not_newline text ≡ true

both : (xs ys : List ℕ) → OneLine xs → OneLine ys → OneLine (xs ++ ys)
both xs ys h k = list_all_append is_not_newline xs ys h k

three : (a b c d : List ℕ) → ((a ++ b) ++ c) ++ d ≡ a ++ (b ++ (c ++ d))
three a b c d = append_assoc (a ++ b) c d ∙ append_assoc a b (c ++ d)

four : (a b c d e : List ℕ) → (((a ++ b) ++ c) ++ d) ++ e ≡ a ++ (b ++ (c ++ (d ++ e)))
four a b c d e = append_assoc ((a ++ b) ++ c) d e ∙ three a b c (d ++ e)

module _ (words : WordLaws) (sayings : SayingLaws) (k : ℕ) where
  repo_one : (r : ℕ) → r < 8 → OneLine (repo_word r)
  repo_one r h = plain_one_line (repo_word r) (repo_plain r h)

  key_one : (j : ℕ) → j < 16 → OneLine (key_word j)
  key_one j h = plain_one_line (key_word j) (key_plain sayings j h)

  pub turn_said : (r n : ℕ) → r < 8 → 1 ≤ n → n < 17 → Said (Holds k) (Holds k) (codes "turn " ++ repo_word r ++ codes " " ++ decimal n) (Does (Turns r n))
  turn_said r n h low high =
      calm words k (codes "turn " ++ repo_word r ++ codes " " ++ decimal n) (codes "turn") (32 ∷ (repo_word r ++ (32 ∷ decimal n))) verbs.Turn (Does (Turns r n))
      (ap (λ (l : List ℕ). codes "turn " ++ l) (append_assoc (repo_word r) (codes " ") (decimal n))) refl refl refl refl
      (λ context at known e. turn_row words sayings context known at r n h low high e) refl
      (both (codes "turn " ++ repo_word r ++ codes " ") (decimal n)
      (both (codes "turn " ++ repo_word r) (codes " ") (both (codes "turn ") (repo_word r) refl (repo_one r h)) refl) (plain_one_line (decimal n) (turns_plain n low high))) refl

  pub crash_said : (r : ℕ) → r < 8 → Said (Holds k) (Holds k) (codes "crash " ++ repo_word r) (Does (Crash r 0))
  crash_said r h =
      calm words k (codes "crash " ++ repo_word r) (codes "crash") (32 ∷ repo_word r) (verbs.InBlock block_verbs.Crash) (Does (Crash r 0)) refl refl refl refl refl
      (λ context at known e. crash_row words sayings context known at r h e) refl (both (codes "crash ") (repo_word r) refl (repo_one r h)) refl

  pub merge_said : (r : ℕ) → r < 8 → (r == 0) ≡ false → Said (Holds k) (Holds k) (codes "merge " ++ repo_word r ++ codes " s0") (Does (Merge r 0))
  merge_said r h apart =
      calm words k (codes "merge " ++ repo_word r ++ codes " s0") (codes "merge") (32 ∷ (repo_word r ++ codes " s0")) verbs.Merge (Does (Merge r 0)) refl refl refl refl refl
      (λ context at known e. merge_row words sayings context known at r h apart e) refl
      (both (codes "merge " ++ repo_word r) (codes " s0") (both (codes "merge ") (repo_word r) refl (repo_one r h)) refl) refl

  pub settle_said : Said (Holds k) (Holds k) (codes "settle") (Does Settle)
  settle_said =
      calm words k (codes "settle") (codes "settle") [] verbs.Settle (Does Settle) (sym (append-nil (codes "settle"))) refl refl refl refl
      (λ context at known e. settle_row words sayings context known at e) refl refl refl

  pub numcopies_said : Said (Holds k) (Holds k) (codes "numcopies s0 2") (Does (Set 0 Numcopies Whole (Number 2)))
  numcopies_said =
      calm words k (codes "numcopies s0 2") (codes "numcopies") (codes " s0 2") verbs.Numcopies (Does (Set 0 Numcopies Whole (Number 2))) refl refl refl refl refl
      (λ context at known e. numcopies_row words sayings context known at e) refl refl refl

  begun_one : (front : List ℕ) (r j : ℕ) → OneLine front → r < 8 → j < 16 → OneLine (front ++ repo_word r ++ codes " " ++ key_word j)
  begun_one front r j f h g = both (front ++ repo_word r ++ codes " ") (key_word j) (both (front ++ repo_word r) (codes " ") (both front (repo_word r) f (repo_one r h)) refl) (key_one j g)

  pub drop_said : (r j : ℕ) → r < 8 → j < 16 → Said (Holds k) (Holds k) (codes "begin drop " ++ repo_word r ++ codes " " ++ key_word j) (Does (Begin r (record { kind = jobs.Drop; key = key_word j; path = None; peer = None })))
  drop_said r j h g =
      calm words k (codes "begin drop " ++ repo_word r ++ codes " " ++ key_word j) (codes "begin") (codes " drop " ++ (repo_word r ++ (32 ∷ key_word j))) verbs.Begin _
      (ap (λ (l : List ℕ). codes "begin drop " ++ l) (append_assoc (repo_word r) (codes " ") (key_word j))) refl refl refl refl
      (λ context at known e. drop_row words sayings context known at r j h g e) refl (begun_one (codes "begin drop ") r j refl h g) refl

  pub get_said : (r j : ℕ) → r < 8 → j < 16 → Said (Holds k) (Holds k) (codes "begin get " ++ repo_word r ++ codes " " ++ key_word j) (Does (Begin r (record { kind = jobs.Get; key = key_word j; path = None; peer = None })))
  get_said r j h g =
      calm words k (codes "begin get " ++ repo_word r ++ codes " " ++ key_word j) (codes "begin") (codes " get " ++ (repo_word r ++ (32 ∷ key_word j))) verbs.Begin _
      (ap (λ (l : List ℕ). codes "begin get " ++ l) (append_assoc (repo_word r) (codes " ") (key_word j))) refl refl refl refl
      (λ context at known e. get_row words sayings context known at r j h g e) refl (begun_one (codes "begin get ") r j refl h g) refl

  paired_one : (front behind : List ℕ) (r j p : ℕ) → OneLine front → OneLine behind → r < 8 → j < 16 → p < 8
      → OneLine (front ++ repo_word r ++ codes " " ++ key_word j ++ behind ++ repo_word p)
  paired_one front behind r j p f b h g i =
      both (front ++ repo_word r ++ codes " " ++ key_word j ++ behind) (repo_word p) (both (front ++ repo_word r ++ codes " " ++ key_word j) behind (begun_one front r j f h g) b) (repo_one p i)

  pub drop_from_said : (r j p : ℕ) → r < 8 → j < 16 → (r == p) ≡ false → p < 8
      → Said (Holds k) (Holds k) (codes "begin drop " ++ repo_word r ++ codes " " ++ key_word j ++ codes " from " ++ repo_word p) (Does (Begin r (record { kind = jobs.Drop; key = key_word j; path = None; peer = Some p })))
  drop_from_said r j p h g apart i =
      calm words k (codes "begin drop " ++ repo_word r ++ codes " " ++ key_word j ++ codes " from " ++ repo_word p) (codes "begin")
      (codes " drop " ++ (repo_word r ++ (32 ∷ (key_word j ++ (codes " from " ++ repo_word p))))) verbs.Begin _
      (ap (λ (l : List ℕ). codes "begin drop " ++ l) (four (repo_word r) (codes " ") (key_word j) (codes " from ") (repo_word p))) refl refl refl refl
      (λ context at known e. drop_from_row words sayings context known at r j p h g apart i e) refl (paired_one (codes "begin drop ") (codes " from ") r j p refl refl h g i) refl

  pub copy_said : (r j p : ℕ) → r < 8 → j < 16 → (r == p) ≡ false → p < 8
      → Said (Holds k) (Holds k) (codes "begin copy " ++ repo_word r ++ codes " " ++ key_word j ++ codes " to " ++ repo_word p) (Does (Begin r (record { kind = jobs.Copy; key = key_word j; path = None; peer = Some p })))
  copy_said r j p h g apart i =
      calm words k (codes "begin copy " ++ repo_word r ++ codes " " ++ key_word j ++ codes " to " ++ repo_word p) (codes "begin")
      (codes " copy " ++ (repo_word r ++ (32 ∷ (key_word j ++ (codes " to " ++ repo_word p))))) verbs.Begin _
      (ap (λ (l : List ℕ). codes "begin copy " ++ l) (four (repo_word r) (codes " ") (key_word j) (codes " to ") (repo_word p))) refl refl refl refl
      (λ context at known e. copy_row words sayings context known at r j p h g apart i e) refl (paired_one (codes "begin copy ") (codes " to ") r j p refl refl h g i) refl

  -- ---- a content

  room : (context : Context) (r j : ℕ) → context.contents ≤ 3 * k → k < 1000 → first_limit context (Does (Have r (key_word j) (codes "abc"))) ≡ None
  room context r j few small =
      let below : nat_lt 268435456 (context.contents + 3) ≡ false = grind (arith, nat_tests) in
      ap (λ b. if b then Some Contents else None) below

  one_more : (context : Context) (r j : ℕ) → Holds k context → Holds (k + 1) (context_with context (Does (Have r (key_word j) (codes "abc"))))
  one_more context r j h = let few = h.few in record { known = append-nil context.repos ∙ h.known; few = omega (arith, few) }

  pub have_said : (r j : ℕ) → r < 8 → j < 16 → k < 1000 → Said (Holds k) (Holds (k + 1)) (codes "have " ++ repo_word r ++ codes " " ++ key_word j ++ codes " text:abc") (Does (Have r (key_word j) (codes "abc")))
  have_said r j h g small =
      let line = codes "have " ++ repo_word r ++ codes " " ++ key_word j ++ codes " text:abc" in
      let rest = 32 ∷ (repo_word r ++ (32 ∷ (key_word j ++ codes " text:abc"))) in
      let begins : line ≡ codes "have" ++ rest = ap (λ (l : List ℕ). codes "have " ++ l) (three (repo_word r) (codes " ") (key_word j) (codes " text:abc")) in
      let v = verb words line (codes "have") rest verbs.Have begins refl refl refl in
      record {
        says = λ context before number x. formed context before number line rest verbs.Have _ v refl (have_row words sayings context x.known v.after r j h g v.behind) (room context r j x.few small);
        holds = λ context x. one_more context r j x;
        one = both (codes "have " ++ repo_word r ++ codes " " ++ key_word j) (codes " text:abc") (begun_one (codes "have ") r j refl h g) refl;
        built = refl;
      }
