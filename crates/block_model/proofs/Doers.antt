-- What a repository has done of its agenda, as a block goes on: a step and a line of its own are further doings, and what others do changes
-- nothing of it.
use Rattle.std.proofs.Common.{◌≡◌, ℕ, ◌≤◌, Bool, true, false, List, [], ◌∷◌, ◌++◌, Option, inl, inr, refl, sym, ap, ◌∙◌, subst, append_assoc, append-nil, arith}
use Rattle.std.specs.Prelude.{◌==◌, ◌&&◌, filter, flat_map, length, map, nat_le, nat_lt, reverse}
use Rattle.std.specs.List.{list_any}
use Rattle.std.proofs.lemmas.Bool.Decides.{nat_tests}
use Rattle.std.proofs.lemmas.List.{reverse-append}
use Rattle.std.proofs.lemmas.List.Concat.{flat_map-append}
use Rattle.std.proofs.lemmas.List.Elements.{filter-append}
use Rattle.annex_base.specs.Lists.{Each, Member}
use Rattle.annex_base.specs.declared.kinds.Word.{Word}
use Rattle.annex_base.proofs.Lists.{filter_no, filter_yes}
use Rattle.run_data.specs.declared.entry.Entry.{Entry}
use Rattle.run_data.specs.declared.entry.EntryKind.{EntryKind}
use Rattle.run_data.specs.declared.entry.EntryKind.TheVariants.{Begin}
use Rattle.run_data.specs.declared.run.TreeMark.{TreeMark}
use Rattle.run_model.specs.Past.{begun_count, is_of}
use Rattle.run_model.specs.Run.{IsStep, paths_at, paths_begun, set_up}
use Rattle.run_model.specs.States.{state_of, works}
use Rattle.node_model.specs.Jobs.{Work}
use Rattle.node_model.specs.SetUp.{SetUp}
use Rattle.node_model.specs.Slots.{is_begin}
use Rattle.node_model.specs.State.{State}
use Rattle.node_model.specs.Step.{step}
use Rattle.growth_laws.proofs.MergedOrder.{reverse_cons}
use Rattle.growth_laws.proofs.MergedRuns.{filter_reverse}
use Rattle.growth_laws.proofs.PathsRead.{step_paths}
use Rattle.past_facts.proofs.OwnRuns.{own_past}
use Rattle.past_facts.proofs.OwnState.{state_own}
use Rattle.step_facts.proofs.StepFacts.{kind_found}
use Rattle.step_facts.proofs.WorkNumbers.{number_begun}
use Rattle.driver_model.specs.Driver.{Driver, DriverInput, FailLine}
use Rattle.driver_model.specs.Driving.{run_with}
use Rattle.driver_model.specs.Rounds.{Agenda, agenda, lines_for}
use Rattle.driver_model.specs.Sound.{IsSound}
use Rattle.driver_model.proofs.Holding.{steps_on}
use Rattle.script_commands.specs.declared.command.Agendum.{Agendum}
use Rattle.script_commands.specs.declared.command.BlockLine.{BlockLine}
use Rattle.block_model.specs.Doings.{Doing, DoesSo, Steps, Takes, can_take, entries_of, fails_in_line, fails_taken, line_of, lines_taken, made_by, made_of_line}
use Rattle.block_model.specs.Following.{effect_of}

-- a repository with these paths of its jobs
abbrev pub set_up_with : DriverInput → ℕ → (ℕ → List (List ℕ)) → SetUp
set_up_with g r b = record { number = r; repos = g.repos; paths = b }

-- they are those of the jobs that it has begun
abbrev pub Agrees : List TreeMark → List Entry → ℕ → (ℕ → List (List ℕ)) → Type 0
Agrees tree past r b = (j : ℕ) → j ≤ begun_count past r → b j ≡ paths_at tree past r j

-- What it has done since the block began, whatever the paths of later jobs are: what is left of its agenda, and the numbers of the jobs that it
-- began are those since then.
pub record Did (g : DriverInput) (xs : List Agendum) (d : Driver) (past es : List Entry) (fails : List FailLine) (a : Agenda) : Type 0 where
  pub doings : List Doing
  pub agenda_is : lines_for a.repo xs ≡ lines_taken doings ++ a.lines
  pub entries_are : filter (is_of a.repo) es ≡ entries_of doings
  pub fails_are : filter (λ z. z.repo == a.repo) fails ≡ fails_taken a.repo doings
  pub so : (b : ℕ → List (List ℕ)) → Agrees d.tree past a.repo b → DoesSo (set_up_with g a.repo b) (begun_count d.past a.repo) (filter (is_of a.repo) d.past) doings
  pub jobs_are : (j : ℕ) → list_any (λ i. j == i) a.jobs ≡ (nat_lt (begun_count d.past a.repo) j && nat_le j (begun_count past a.repo))

-- ---- at first

none_between : (n j : ℕ) → false ≡ (nat_lt n j && nat_le j n)
none_between n j = go (nat_lt n j) refl
  where
    go : (b : Bool) → nat_lt n j ≡ b → false ≡ (b && nat_le j n)
    go false i = refl
    go true i = let more : nat_le j n ≡ false = grind (arith, nat_tests) in sym more

pub did_nothing : (g : DriverInput) (xs : List Agendum) (d : Driver) (r : ℕ) → Did g xs d d.past [] [] (agenda xs r)
did_nothing g xs d r = record {
  doings = [];
  agenda_is = refl;
  entries_are = refl;
  fails_are = refl;
  so = λ b agrees. tt;
  jobs_are = λ j. none_between (begun_count d.past r) j;
}

pub did_none : (g : DriverInput) (xs : List Agendum) (d : Driver) (rs : List ℕ) → Each (Did g xs d d.past [] []) (map (agenda xs) rs)
did_none g xs d [] = tt
did_none g xs d (r ∷ rs) = (did_nothing g xs d r, did_none g xs d rs)

-- ---- doings

pub does_push : (s : SetUp) (was : ℕ) (ds : List Doing) (x : Doing) (past : List Entry) → DoesSo s was past ds → DoesSo s was (reverse (entries_of ds) ++ past) (x ∷ []) → DoesSo s was past (ds ++ x ∷ [])
does_push s was [] x past h y = y
does_push s was (Takes line es ∷ ds) x past h y =
    let there : reverse (entries_of (Takes line es ∷ ds)) ++ past ≡ reverse (entries_of ds) ++ (reverse es ++ past) =
    ap (λ zs. zs ++ past) (reverse-append es (entries_of ds)) ∙ append_assoc (reverse (entries_of ds)) (reverse es) past in
    (h.0, h.1, does_push s was ds x (reverse es ++ past) h.2 (subst (λ zs. DoesSo s was zs (x ∷ [])) there y))
does_push s was (Steps e ∷ ds) x past h y =
    let there : reverse (entries_of (Steps e ∷ ds)) ++ past ≡ reverse (entries_of ds) ++ e ∷ past =
    ap (λ zs. zs ++ past) (reverse_cons e (entries_of ds)) ∙ append_assoc (reverse (entries_of ds)) (e ∷ []) past in
    (h.0, does_push s was ds x (e ∷ past) h.1 (subst (λ zs. DoesSo s was zs (x ∷ [])) there y))

lines_push : (ds : List Doing) (x : Doing) → lines_taken (ds ++ x ∷ []) ≡ lines_taken ds ++ line_of x
lines_push ds x = flat_map-append line_of ds (x ∷ []) ∙ ap (λ zs. lines_taken ds ++ zs) (append-nil (line_of x))

entries_push : (ds : List Doing) (x : Doing) → entries_of (ds ++ x ∷ []) ≡ entries_of ds ++ made_by x
entries_push ds x = flat_map-append made_by ds (x ∷ []) ∙ ap (λ zs. entries_of ds ++ zs) (append-nil (made_by x))

fails_push : (r : ℕ) (ds : List Doing) (x : Doing) → fails_taken r (ds ++ x ∷ []) ≡ fails_taken r ds ++ flat_map (fails_in_line r) (line_of x)
fails_push r ds x = ap (flat_map (fails_in_line r)) (lines_push ds x) ∙ flat_map-append (fails_in_line r) (lines_taken ds) (line_of x)

-- ---- what leaves it alone

-- entries and `fail` lines of others
pub did_same : (g : DriverInput) (xs : List Agendum) (d : Driver) (past es past' es' : List Entry) (fails fails' : List FailLine) (a : Agenda)
    → filter (is_of a.repo) es' ≡ filter (is_of a.repo) es → filter (λ z. z.repo == a.repo) fails' ≡ filter (λ z. z.repo == a.repo) fails
    → begun_count past' a.repo ≡ begun_count past a.repo → ((j : ℕ) → paths_at d.tree past' a.repo j ≡ paths_at d.tree past a.repo j)
    → Did g xs d past es fails a → Did g xs d past' es' fails' a
did_same g xs d past es past' es' fails fails' a same_es same_fails begun paths x = record {
  doings = x.doings;
  agenda_is = x.agenda_is;
  entries_are = same_es ∙ x.entries_are;
  fails_are = same_fails ∙ x.fails_are;
  so = λ b agrees. x.so b (λ j l. agrees j (subst (λ n. j ≤ n) (sym begun) l) ∙ paths j);
  jobs_are = λ j. x.jobs_are j ∙ ap (λ n. nat_lt (begun_count d.past a.repo) j && nat_le j n) (sym begun);
}

module _ (q : ℕ) (e : Entry) (other : is_of q e ≡ false) where
  pub begun_other : (past : List Entry) → begun_count (e ∷ past) q ≡ begun_count past q
  begun_other past = rw other refl

  pub paths_other : (tree : List TreeMark) (past : List Entry) (j : ℕ) → paths_at tree (e ∷ past) q j ≡ paths_at tree past q j
  paths_other tree past j = rw other refl

  pub entries_other : (es : List Entry) → filter (is_of q) (es ++ e ∷ []) ≡ filter (is_of q) es
  entries_other es = filter-append (is_of q) es (e ∷ []) ∙ ap (λ zs. filter (is_of q) es ++ zs) (filter_no (is_of q) e [] other) ∙ append-nil (filter (is_of q) es)

pub did_other : (g : DriverInput) (xs : List Agendum) (d : Driver) (past es : List Entry) (fails : List FailLine) (e : Entry) (a : Agenda) → is_of a.repo e ≡ false
    → Did g xs d past es fails a → Did g xs d (e ∷ past) (es ++ e ∷ []) fails a
did_other g xs d past es fails e a other x =
    did_same g xs d past es (e ∷ past) (es ++ e ∷ []) fails fails a (entries_other a.repo e other es) refl (begun_other a.repo e other past) (paths_other a.repo e other d.tree past) x

pub did_unfailing : (g : DriverInput) (xs : List Agendum) (d : Driver) (past es : List Entry) (fails : List FailLine) (z : FailLine) (a : Agenda) → (z.repo == a.repo) ≡ false
    → Did g xs d past es fails a → Did g xs d past es (fails ++ z ∷ []) a
did_unfailing g xs d past es fails z a other x =
    did_same g xs d past es past es fails (fails ++ z ∷ []) a refl
    (filter-append (λ (y : FailLine). y.repo == a.repo) fails (z ∷ []) ∙ ap (λ zs. filter (λ (y : FailLine). y.repo == a.repo) fails ++ zs) (filter_no (λ (y : FailLine). y.repo == a.repo) z [] other)
    ∙ append-nil (filter (λ (y : FailLine). y.repo == a.repo) fails)) refl (λ j. refl) x

-- ---- its own past

module _ (g : DriverInput) (xs : List Agendum) (d : Driver) (past es : List Entry) (fails : List FailLine) (a : Agenda) (past_is : past ≡ reverse es ++ d.past) (x : Did g xs d past es fails a) where
  pub own_is : reverse (entries_of x.doings) ++ filter (is_of a.repo) d.past ≡ filter (is_of a.repo) past
  own_is =
      ap (λ zs. reverse zs ++ filter (is_of a.repo) d.past) (sym x.entries_are)
      ∙ ap (λ zs. zs ++ filter (is_of a.repo) d.past) (sym (filter_reverse (is_of a.repo) es))
      ∙ sym (filter-append (is_of a.repo) (reverse es) d.past)
      ∙ ap (filter (is_of a.repo)) (sym past_is)

  pub state_is : (b : ℕ → List (List ℕ)) → state_of (set_up_with g a.repo b) (reverse (entries_of x.doings) ++ filter (is_of a.repo) d.past) ≡ state_of (set_up_with g a.repo b) past
  state_is b = ap (state_of (set_up_with g a.repo b)) own_is ∙ sym (state_own (set_up_with g a.repo b) past)

-- ---- a step

-- no step begins a job
no_begin : (s : SetUp) (past : List Entry) (words : ℕ → Option Word) (e : Entry) → IsStep s past words e → (kind : EntryKind) → e.kind ≡ kind → is_begin kind ≡ false
no_begin s past words e x (Begin job what) i = absurd none
  where
    none : ⊥
    none = elim (kind_found s (state_of s past) x.look x.made (Begin job what) x.makes (sym (ap (λ (y : Entry). y.kind) x.is) ∙ i) (λ h. h)) [
      | inl y ↦ y.found
      | inr y ↦ y.found
    ]
no_begin s past words e x kind i = refl

paths_kept : (tree : List TreeMark) (place j : ℕ) (was : List (List ℕ)) (kind : EntryKind) → is_begin kind ≡ false → paths_begun tree place j was kind ≡ was
paths_kept tree place j was (Begin job what) i = absurd (cc)
paths_kept tree place j was kind i = refl

-- an entry of its own that begins no job
module _ (q : ℕ) (e : Entry) (own : is_of q e ≡ true) (plain : is_begin e.kind ≡ false) where
  pub begun_plain : (past : List Entry) → begun_count (e ∷ past) q ≡ begun_count past q
  begun_plain past = rw (own, plain) refl

  pub paths_plain : (tree : List TreeMark) (past : List Entry) (j : ℕ) → paths_at tree (e ∷ past) q j ≡ paths_at tree past q j
  paths_plain tree past j = rw own (paths_kept tree (length past) j (paths_at tree past q j) e.kind plain)

pub entries_own : (q : ℕ) (e : Entry) → is_of q e ≡ true → (es : List Entry) → filter (is_of q) (es ++ e ∷ []) ≡ filter (is_of q) es ++ e ∷ []
entries_own q e own es = filter-append (is_of q) es (e ∷ []) ∙ ap (λ zs. filter (is_of q) es ++ zs) (filter_yes (is_of q) e [] own)

-- the running jobs were begun
pub numbers_begun : (g : DriverInput) (x : Driver) → IsSound g x → (r : ℕ) (w : Work) → Member w (works x.past r) → w.number ≤ begun_count x.past r
numbers_begun g x h r w m = number_begun (set_up (run_with g x) r) x.past (own_past (run_with g x) h.run.repos r x.past (steps_on g x.tree x.marks x.past h.run)).run w m

pub did_step : (g : DriverInput) (xs : List Agendum) (d : Driver) (past es : List Entry) (fails : List FailLine) (a : Agenda) → past ≡ reverse es ++ d.past → (e : Entry) → is_of a.repo e ≡ true
    → (words : ℕ → Option Word) → IsStep (set_up_with g a.repo (paths_at d.tree past a.repo)) past words e → ((w : Work) → Member w (works past a.repo) → w.number ≤ begun_count past a.repo)
    → Did g xs d past es fails a → Did g xs d (e ∷ past) (es ++ e ∷ []) fails a
did_step g xs d past es fails a past_is e own words step_is few x = record {
  doings = x.doings ++ Steps e ∷ [];
  agenda_is = x.agenda_is ∙ ap (λ zs. zs ++ a.lines) (sym (lines_push x.doings (Steps e) ∙ append-nil (lines_taken x.doings)));
  entries_are = entries_own a.repo e own es ∙ ap (λ zs. zs ++ e ∷ []) x.entries_are ∙ sym (entries_push x.doings (Steps e));
  fails_are = x.fails_are ∙ sym (fails_push a.repo x.doings (Steps e) ∙ append-nil (fails_taken a.repo x.doings));
  so = λ b agrees. does_push (set_up_with g a.repo b) (begun_count d.past a.repo) x.doings (Steps e) (filter (is_of a.repo) d.past) (x.so b (before b agrees)) ((words, by b (before b agrees)), tt);
  jobs_are = λ j. x.jobs_are j ∙ ap (λ n. nat_lt (begun_count d.past a.repo) j && nat_le j n) (sym (begun_plain a.repo e own plain past));
}
  where
    plain : is_begin e.kind ≡ false
    plain = no_begin (set_up_with g a.repo (paths_at d.tree past a.repo)) past words e step_is e.kind refl

    before : (b : ℕ → List (List ℕ)) → Agrees d.tree (e ∷ past) a.repo b → Agrees d.tree past a.repo b
    before b agrees j l = agrees j (subst (λ n. j ≤ n) (sym (begun_plain a.repo e own plain past)) l) ∙ paths_plain a.repo e own plain d.tree past j

    by : (b : ℕ → List (List ℕ)) → Agrees d.tree past a.repo b → IsStep (set_up_with g a.repo b) (reverse (entries_of x.doings) ++ filter (is_of a.repo) d.past) words e
    by b agrees = record {
      look = step_is.look;
      made = step_is.made;
      makes = ap (λ (st : State). step (set_up_with g a.repo b) st step_is.look) (state_is g xs d past es fails a past_is x b)
          ∙ step_paths (set_up_with g a.repo (paths_at d.tree past a.repo)) (state_of (set_up_with g a.repo b) past) step_is.look b (λ w m. agrees w.number (few w m)) ∙ step_is.makes;
      is = step_is.is;
      words_are = step_is.words_are;
      part_small = step_is.part_small;
    }

-- ---- a line

-- It takes a line that it can take, and makes what the line makes: its agenda is the shorter by it.
pub did_line : (g : DriverInput) (xs : List Agendum) (d : Driver) (past es past' es' more : List Entry) (fails fails' : List FailLine) (r : ℕ) (line : BlockLine) (ls : List BlockLine) (jobs jobs' : List ℕ)
    → past ≡ reverse es ++ d.past → filter (is_of r) es' ≡ filter (is_of r) es ++ more
    → filter (λ z. z.repo == r) fails' ≡ filter (λ z. z.repo == r) fails ++ fails_in_line r line
    → ((b : ℕ → List (List ℕ)) → Agrees d.tree past' r b → Agrees d.tree past r b)
    → ((b : ℕ → List (List ℕ)) → can_take (begun_count d.past r) (state_of (set_up_with g r b) past) line ≡ true)
    → ((b : ℕ → List (List ℕ)) → map effect_of more ≡ made_of_line (set_up_with g r b) (state_of (set_up_with g r b) past) line)
    → ((j : ℕ) → list_any (λ i. j == i) jobs' ≡ (nat_lt (begun_count d.past r) j && nat_le j (begun_count past' r)))
    → Did g xs d past es fails (record { repo = r; lines = line ∷ ls; jobs = jobs })
    → Did g xs d past' es' fails' (record { repo = r; lines = ls; jobs = jobs' })
did_line g xs d past es past' es' more fails fails' r line ls jobs jobs' past_is entries failing before can made numbers x = record {
  doings = x.doings ++ Takes line more ∷ [];
  agenda_is = x.agenda_is ∙ sym (append_assoc (lines_taken x.doings) (line ∷ []) ls) ∙ ap (λ zs. zs ++ ls) (sym (lines_push x.doings (Takes line more)));
  entries_are = entries ∙ ap (λ zs. zs ++ more) x.entries_are ∙ sym (entries_push x.doings (Takes line more));
  fails_are = failing ∙ ap (λ zs. zs ++ fails_in_line r line) x.fails_are ∙ ap (λ zs. fails_taken r x.doings ++ zs) (sym (append-nil (fails_in_line r line))) ∙ sym (fails_push r x.doings (Takes line more));
  so = λ b agrees. does_push (set_up_with g r b) (begun_count d.past r) x.doings (Takes line more) (filter (is_of r) d.past) (x.so b (before b agrees)) (
    subst (λ (st : State). can_take (begun_count d.past r) st line ≡ true) (sym (there b)) (can b),
    subst (λ (st : State). map effect_of more ≡ made_of_line (set_up_with g r b) st line) (sym (there b)) (made b),
    tt,
  );
  jobs_are = numbers;
}
  where
    there : (b : ℕ → List (List ℕ)) → state_of (set_up_with g r b) (reverse (entries_of x.doings) ++ filter (is_of r) d.past) ≡ state_of (set_up_with g r b) past
    there b = state_is g xs d past es fails (record { repo = r; lines = line ∷ ls; jobs = jobs }) past_is x b
