-- What the forms of a storm's lines say.
use Rattle.std.proofs.Common.{◌≡◌, ℕ, ◌<◌, ◌≤◌, true, false, List, [], ◌∷◌, ◌++◌, drop, Some, None, Ok, refl, sym, ap, ◌∙◌, arith, append-nil}
use Rattle.std.specs.Prelude.{◌==◌, codes}
use Rattle.std.specs.Fmt.{decimal, digits}
use Rattle.log_lines.specs.declared.entry.LogKind.TheVariants.{Numcopies}
use Rattle.log_lines.specs.declared.entry.Topic.TheVariants.{Whole}
use Rattle.log_lines.specs.declared.entry.Value.TheVariants.{Number}
use Rattle.run_data.specs.declared.job.JobKind.TheVariants as jobs
use Rattle.script_commands.specs.declared.command.Action.TheVariants.{Begin, Crash, Have, Merge, Set, Settle, Turns}
use Rattle.script_commands.specs.declared.command.Command.TheVariants.{Does}
use Rattle.script_forms.specs.declared.verb.Verb.TheVariants as verbs
use Rattle.script_forms.specs.declared.verb.BlockVerb.TheVariants as block_verbs
use Rattle.script_forms.specs.declared.verb.JobVerb.TheVariants as job_verbs
use Rattle.script_forms.specs.Context.{Context, number_of_other, number_of_repo}
use Rattle.script_forms.specs.Forms.{job_named, row}
use Rattle.script_forms.specs.Steps.{clock_at, from_at, if_matches, key_at, key_named, matching_at, number_at, other_at, repo_at, this_word, to_at, turns_at, turns_of}
use Rattle.script_words.specs.Contents.{content_of}
use Rattle.script_words.specs.Fields.{clock_of}
use Rattle.script_words.specs.Numbers.{number_up_to}
use Rattle.script_words.specs.Places.{Cursor}
use Rattle.script_words.specs.Words.{is_break}
use Rattle.storm_script.specs.Storm.{key_word, repo_word}
use Rattle.storm_reading.proofs.Writing.{all_repos}
use Rattle.storm_reading.proofs.Naming.{SayingLaws, content_said, key_plain, key_said, other_named, repo_named, repo_plain, turns_plain, turns_said}
use Rattle.storm_reading.proofs.Stepping.{Reads, Takes, WordLaws, ended, nothing_taken, reads, takes}

-- a word that stands last
last : (word : List ℕ) → 32 ∷ word ≡ 32 ∷ (word ++ [])
last word = ap (λ (w : List ℕ). 32 ∷ w) (sym (append-nil word))

abbrev pub Before : Cursor → List ℕ → Type 0
Before at bytes = drop at.place at.line ≡ bytes

module _ (words : WordLaws) (sayings : SayingLaws) (context : Context) (known : context.repos ≡ all_repos) where
  repo_reads : (at : Cursor) (r : ℕ) (rest : List ℕ) → r < 8 → is_break rest ≡ true → Before at (32 ∷ (repo_word r ++ rest)) → Reads (repo_at context at) r rest
  unfolding repo_at
  repo_reads at r rest h b e =
      reads words (number_of_repo context.repos) at (32 ∷ []) (repo_word r) rest r (record { goes_on = e; blank = refl; plain = repo_plain r h; ends = b })
      (ap (λ rs. number_of_repo rs (repo_word r)) known ∙ repo_named r h)

  other_reads : (at : Cursor) (r p : ℕ) → (r == p) ≡ false → p < 8 → Before at (32 ∷ repo_word p) → Reads (other_at context r at) p []
  unfolding other_at
  other_reads at r p apart h e =
      reads words (number_of_other context.repos r) at (32 ∷ []) (repo_word p) [] p (record { goes_on = e ∙ last (repo_word p); blank = refl; plain = repo_plain p h; ends = refl })
      (ap (λ rs. number_of_other rs r (repo_word p)) known ∙ other_named r p apart h)

  key_reads : (at : Cursor) (j : ℕ) (rest : List ℕ) → j < 16 → is_break rest ≡ true → Before at (32 ∷ (key_word j ++ rest)) → Reads (key_at context at) (record { key = key_word j; path = None }) rest
  unfolding key_at
  key_reads at j rest h b e =
      reads words (key_named context) at (32 ∷ []) (key_word j) rest (record { key = key_word j; path = None }) (record { goes_on = e; blank = refl; plain = key_plain sayings j h; ends = b }) (key_said sayings context j h)

  content_reads : (at : Cursor) (j : ℕ) → j < 16 → Before at (codes " text:abc") → Reads (matching_at (key_word j) at) (codes "abc") []
  unfolding matching_at
  content_reads at j h e =
      reads words (λ (word : List ℕ). if_matches (key_word j) (content_of word)) at (32 ∷ []) (codes "text:abc") [] (codes "abc") (record { goes_on = e; blank = refl; plain = refl; ends = refl }) (content_said sayings j h)

  turns_taken : (at : Cursor) (n : ℕ) → 1 ≤ n → n < 17 → Before at (32 ∷ decimal n) → Takes (turns_at at) n []
  unfolding turns_at
  turns_taken at n low high e =
      let t = takes words turns_of at (32 ∷ []) (decimal n) [] n (record { goes_on = e ∙ last (decimal n); blank = refl; plain = turns_plain n low high; ends = refl }) (turns_said sayings n low high) in
      record { after = t.after; gives = rw (t.gives) refl; behind = t.behind }

  no_clock : (at : Cursor) → Before at [] → clock_at at ≡ (0, at)
  unfolding clock_at
  no_clock at e = rw (nothing_taken words clock_of at e) refl

  no_from : (at : Cursor) (r : ℕ) → Before at [] → from_at context r at ≡ Ok (None, at)
  unfolding from_at
  no_from at r e = rw (nothing_taken words (this_word (codes "from")) at e) refl

  from_reads : (at : Cursor) (r p : ℕ) → (r == p) ≡ false → p < 8 → Before at (codes " from " ++ repo_word p) → Reads (from_at context r at) (Some p) []
  unfolding from_at
  from_reads at r p apart h e =
      let t = takes words (this_word (codes "from")) at (32 ∷ []) (codes "from") (32 ∷ repo_word p) tt (record { goes_on = e; blank = refl; plain = refl; ends = refl }) refl in
      let o = other_reads t.after r p apart h t.behind in
      record { after = o.after; gives = rw (t.gives, o.gives) refl; behind = o.behind }

  to_reads : (at : Cursor) (r p : ℕ) → (r == p) ≡ false → p < 8 → Before at (codes " to " ++ repo_word p) → Reads (to_at context r at) p []
  unfolding to_at
  to_reads at r p apart h e =
      let t = reads words (this_word (codes "to")) at (32 ∷ []) (codes "to") (32 ∷ repo_word p) tt (record { goes_on = e; blank = refl; plain = refl; ends = refl }) refl in
      let o = other_reads t.after r p apart h t.behind in
      record { after = o.after; gives = rw (t.gives, o.gives) refl; behind = o.behind }

  -- ---- forms

  pub turn_row : (at : Cursor) (r n : ℕ) → r < 8 → 1 ≤ n → n < 17 → Before at (32 ∷ (repo_word r ++ (32 ∷ decimal n))) → (row verbs.Turn).1 context at ≡ Ok (Does (Turns r n))
  turn_row at r n h low high e =
      let a = repo_reads at r (32 ∷ decimal n) h refl e in
      let t = turns_taken a.after n low high a.behind in
      rw (a.gives, t.gives, ended words t.after t.behind) refl

  pub crash_row : (at : Cursor) (r : ℕ) → r < 8 → Before at (32 ∷ repo_word r) → (row (verbs.InBlock block_verbs.Crash)).1 context at ≡ Ok (Does (Crash r 0))
  crash_row at r h e =
      let a = repo_reads at r [] h refl (e ∙ last (repo_word r)) in
      rw (a.gives, no_clock a.after a.behind, ended words a.after a.behind) refl

  pub merge_row : (at : Cursor) (r : ℕ) → r < 8 → (r == 0) ≡ false → Before at (32 ∷ (repo_word r ++ codes " s0")) → (row verbs.Merge).1 context at ≡ Ok (Does (Merge r 0))
  unfolding digits
  merge_row at r h apart e =
      let a = repo_reads at r (codes " s0") h refl e in
      let o = other_reads a.after r 0 apart (omega arith) a.behind in
      rw (a.gives, o.gives, ended words o.after o.behind) refl

  two_reads : (at : Cursor) → Before at (codes " 2") → Reads (number_at 999999999 at) 2 []
  unfolding number_at digits
  two_reads at e =
      reads words (number_up_to 999999999) at (32 ∷ []) (codes "2") [] 2 (record { goes_on = e; blank = refl; plain = refl; ends = refl })
      ((sayings.numbers 999999999 2 (codes "2") (omega arith)).1 (refl, omega arith))

  pub numcopies_row : (at : Cursor) → Before at (codes " s0 2") → (row verbs.Numcopies).1 context at ≡ Ok (Does (Set 0 Numcopies Whole (Number 2)))
  unfolding digits
  numcopies_row at e =
      let a = repo_reads at 0 (codes " 2") (omega arith) refl e in
      let n = two_reads a.after a.behind in
      rw (a.gives, n.gives, ended words n.after n.behind) refl

  pub settle_row : (at : Cursor) → Before at [] → (row verbs.Settle).1 context at ≡ Ok (Does Settle)
  settle_row at e = rw (ended words at e) refl

  pub have_row : (at : Cursor) (r j : ℕ) → r < 8 → j < 16 → Before at (32 ∷ (repo_word r ++ (32 ∷ (key_word j ++ codes " text:abc")))) → (row verbs.Have).1 context at ≡ Ok (Does (Have r (key_word j) (codes "abc")))
  have_row at r j h g e =
      let a = repo_reads at r (32 ∷ (key_word j ++ codes " text:abc")) h refl e in
      let k = key_reads a.after j (codes " text:abc") g refl a.behind in
      let t = content_reads k.after j g k.behind in
      rw (a.gives, k.gives, t.gives, ended words t.after t.behind) refl

  pub drop_row : (at : Cursor) (r j : ℕ) → r < 8 → j < 16 → Before at (codes " drop " ++ (repo_word r ++ (32 ∷ key_word j)))
      → (row verbs.Begin).1 context at ≡ Ok (Does (Begin r (record { kind = jobs.Drop; key = key_word j; path = None; peer = None })))
  drop_row at r j h g e =
      let v = reads words job_named at (32 ∷ []) (codes "drop") (32 ∷ (repo_word r ++ (32 ∷ key_word j))) job_verbs.Drop (record { goes_on = e; blank = refl; plain = refl; ends = refl }) refl in
      let a = repo_reads v.after r (32 ∷ key_word j) h refl v.behind in
      let k = key_reads a.after j [] g refl (a.behind ∙ last (key_word j)) in
      rw (v.gives, a.gives, k.gives, no_from k.after r k.behind, ended words k.after k.behind) refl

  pub get_row : (at : Cursor) (r j : ℕ) → r < 8 → j < 16 → Before at (codes " get " ++ (repo_word r ++ (32 ∷ key_word j)))
      → (row verbs.Begin).1 context at ≡ Ok (Does (Begin r (record { kind = jobs.Get; key = key_word j; path = None; peer = None })))
  get_row at r j h g e =
      let v = reads words job_named at (32 ∷ []) (codes "get") (32 ∷ (repo_word r ++ (32 ∷ key_word j))) job_verbs.Get (record { goes_on = e; blank = refl; plain = refl; ends = refl }) refl in
      let a = repo_reads v.after r (32 ∷ key_word j) h refl v.behind in
      let k = key_reads a.after j [] g refl (a.behind ∙ last (key_word j)) in
      rw (v.gives, a.gives, k.gives, no_from k.after r k.behind, ended words k.after k.behind) refl

  pub drop_from_row : (at : Cursor) (r j p : ℕ) → r < 8 → j < 16 → (r == p) ≡ false → p < 8 → Before at (codes " drop " ++ (repo_word r ++ (32 ∷ (key_word j ++ (codes " from " ++ repo_word p)))))
      → (row verbs.Begin).1 context at ≡ Ok (Does (Begin r (record { kind = jobs.Drop; key = key_word j; path = None; peer = Some p })))
  drop_from_row at r j p h g apart i e =
      let v = reads words job_named at (32 ∷ []) (codes "drop") (32 ∷ (repo_word r ++ (32 ∷ (key_word j ++ (codes " from " ++ repo_word p))))) job_verbs.Drop (record { goes_on = e; blank = refl; plain = refl; ends = refl }) refl in
      let a = repo_reads v.after r (32 ∷ (key_word j ++ (codes " from " ++ repo_word p))) h refl v.behind in
      let k = key_reads a.after j (codes " from " ++ repo_word p) g refl a.behind in
      let f = from_reads k.after r p apart i k.behind in
      rw (v.gives, a.gives, k.gives, f.gives, ended words f.after f.behind) refl

  pub copy_row : (at : Cursor) (r j p : ℕ) → r < 8 → j < 16 → (r == p) ≡ false → p < 8 → Before at (codes " copy " ++ (repo_word r ++ (32 ∷ (key_word j ++ (codes " to " ++ repo_word p)))))
      → (row verbs.Begin).1 context at ≡ Ok (Does (Begin r (record { kind = jobs.Copy; key = key_word j; path = None; peer = Some p })))
  copy_row at r j p h g apart i e =
      let v = reads words job_named at (32 ∷ []) (codes "copy") (32 ∷ (repo_word r ++ (32 ∷ (key_word j ++ (codes " to " ++ repo_word p))))) job_verbs.Copy (record { goes_on = e; blank = refl; plain = refl; ends = refl }) refl in
      let a = repo_reads v.after r (32 ∷ (key_word j ++ (codes " to " ++ repo_word p))) h refl v.behind in
      let k = key_reads a.after j (codes " to " ++ repo_word p) g refl a.behind in
      let f = to_reads k.after r p apart i k.behind in
      rw (v.gives, a.gives, k.gives, f.gives, ended words f.after f.behind) refl
