-- What the first lines put in place stands in the run up to a full history too, where none of them meets one.
use Rattle.std.proofs.Common.{◌≡◌, ℕ, ◌+◌, ◌*◌, ◌<◌, ◌≤◌, Bool, true, false, cond, ◌||◌, List, [], ◌∷◌, ◌++◌, length, filter, inl, inr, refl, sym, ap, ◌∙◌, subst, arith}
use Rattle.std.specs.Prelude.{if◌then◌else◌, nat_lt, reverse}
use Rattle.std.specs.List.{list_all, list_any}
use Rattle.std.proofs.lemmas.Bool.{and_parts, false≢true, le-ltb, lt-leb, or_cases, or_from, or_parts, true≢false}
use Rattle.std.proofs.lemmas.List.{append-nil, reverse-append, reverse-reverse}
use Rattle.annex_base.specs.Lists.{Each}
use Rattle.run_data.specs.Histories.{most_entries}
use Rattle.run_data.specs.declared.entry.Entry.{Entry}
use Rattle.run_data.specs.declared.run.RepoView.{RepoView}
use Rattle.run_model.specs.Past.{is_of}
use Rattle.script_commands.specs.declared.command.Action.TheVariants.{Add, File, Have}
use Rattle.script_commands.specs.declared.command.Command.{Command}
use Rattle.script_commands.specs.declared.command.Command.TheVariants.{Does, Repo}
use Rattle.driver_model.specs.Driver.{Driver, DriverInput, at_first}
use Rattle.driver_model.specs.Driving.{does, with_mark}
use Rattle.driver_model.specs.Limits.{LimitedRun, asks_first, count_of, drives_to_limit, is_full, is_too_long, lacks_at, limited_run, meets_limit, run_to_limit, within_limit}
use Rattle.driver_model.specs.Rounds.{numbers}
use Rattle.driver_model.specs.Scripts.{IsOne}
use Rattle.driver_model.specs.ScriptSteps.{enters}
use Rattle.kept_copies.specs.Scripts.{prepares, puts_content}
use Rattle.kept_copies.proofs.Placing.{GoesOn, Had, LinesAdd, entered, first_calm, goes_further, marked, puts, stays_calm}
use Rattle.kept_copies.proofs.Preparing.{IsCalm, any_none, has_adds_two}

-- ---- what stands before the limit stands in the run

past_behind : (past all : List Entry) (x : GoesOn past (reverse all)) → all ≡ reverse x.0 ++ past
past_behind past all x =
    sym (reverse-reverse all) ∙ ap reverse x.1 ∙ reverse-append (reverse past) x.0 ∙ ap (λ (p : List Entry). reverse x.0 ++ p) (reverse-reverse past)

module _ (g : DriverInput) where
  within_itself : (past : List Entry) → is_too_long g past ≡ false → within_limit g past ≡ past
  within_itself [] h = refl
  within_itself (e ∷ past) h = ap (λ (b : Bool). if b then within_limit g past else e ∷ past) h

  within_more : (past more : List Entry) → is_too_long g past ≡ false → (front : List Entry) × (within_limit g (more ++ past) ≡ front ++ past)
  within_more past [] h = ([], within_itself past h)
  within_more past (e ∷ more) h = go (within_more past more h) (is_too_long g (e ∷ (more ++ past)))
    where
      go : (front : List Entry) × (within_limit g (more ++ past) ≡ front ++ past) → (b : Bool) → (front : List Entry) × ((if b then within_limit g (more ++ past) else e ∷ (more ++ past)) ≡ front ++ past)
      go x true = x
      go x false = (e ∷ more, refl)

  within_goes_on : (past all : List Entry) → is_too_long g past ≡ false → GoesOn past (reverse all) → GoesOn past (reverse (within_limit g all))
  within_goes_on past all h x =
      let w = within_more past (reverse x.0) h in
      (reverse w.0, ap reverse (ap (within_limit g) (past_behind past all x) ∙ w.1) ∙ reverse-append w.0 past)

  abbrev cut_at : Command → Driver → LimitedRun
  cut_at line d = record { run = run_to_limit g line d; is_cut = true }

  -- the entries of a run go on from this past
  abbrev RunsOn : List Entry → LimitedRun → Type 0
  RunsOn past x = GoesOn past x.run.entries

  limit_goes_on : LinesAdd → (past : List Entry) → is_too_long g past ≡ false → (lines : List Command) (d : Driver) → GoesOn past (reverse d.past) → RunsOn past (drives_to_limit g lines d)
  limit_goes_on law past h [] d x = x
  limit_goes_on law past h (line ∷ lines) d x = go (limit_goes_on law past h lines (with_mark (does g line d)) after) (meets_limit g line d)
    where
      after : GoesOn past (reverse (does g line d).past)
      after = goes_further past d (does g line d) x (law g line d)

      go : RunsOn past (drives_to_limit g lines (with_mark (does g line d))) → (b : Bool) → RunsOn past (if b then cut_at line d else drives_to_limit g lines (with_mark (does g line d)))
      go more true = within_goes_on past (does g line d).past h after
      go more false = more

  -- the run is of the repositories that the driver was given
  abbrev HasRepos : LimitedRun → Type 0
  HasRepos x = x.run.repos ≡ g.repos

  limit_repos : (lines : List Command) (d : Driver) → HasRepos (drives_to_limit g lines d)
  limit_repos [] d = refl
  limit_repos (line ∷ lines) d = go (limit_repos lines (with_mark (does g line d))) (meets_limit g line d)
    where
      go : HasRepos (drives_to_limit g lines (with_mark (does g line d))) → (b : Bool) → HasRepos (if b then cut_at line d else drives_to_limit g lines (with_mark (does g line d)))
      go more true = refl
      go more false = more

  -- a line that meets no limit leaves no past that is too long
  not_too_long : (line : Command) (d : Driver) → meets_limit g line d ≡ false → is_too_long g (does g line d).past ≡ false
  not_too_long line d e =
      (or_parts (is_too_long g (does g line d).past) (lacks_at g line d)
      (or_parts (is_full d.past (asks_first line)) (is_too_long g (does g line d).past || lacks_at g line d) e).1).0

  abbrev IsWhole : LimitedRun → Type 0
  IsWhole x = x.is_cut ≡ false

  module _ (law : LinesAdd) (rest : List Command) (key : List ℕ) where
    abbrev HadIn : LimitedRun → Type 0
    HadIn x = Had x.run key

    had_after : (line : Command) (lines : List Command) (d : Driver) → is_too_long g (does g line d).past ≡ false → puts_content key line ≡ true → IsOne g line → IsCalm d
        → HadIn (drives_to_limit g lines (with_mark (does g line d)))
    had_after line lines d short here one calm =
        let w = puts g line key d here one calm in
        record {
          past = (does g line d).past;
          repo = w.0;
          known = subst (λ (repos : List RepoView). w.0 < length repos) (sym (limit_repos lines (with_mark (does g line d)))) w.1;
          there = w.2;
          first = limit_goes_on law (does g line d).past short lines (with_mark (does g line d)) ([], sym (append-nil (reverse (does g line d).past)));
        }

    pub comes_to_limit : (first : List Command) (d : Driver) → list_all prepares first ≡ true → list_any (puts_content key) first ≡ true → Each (IsOne g) (first ++ rest) → IsCalm d
        → IsWhole (drives_to_limit g first d) → HadIn (drives_to_limit g (first ++ rest) d)
    comes_to_limit [] d all some one calm whole = absurd (false≢true some)
    comes_to_limit (line ∷ lines) d all some one calm whole =
        go (λ more w. comes_to_limit lines (with_mark (does g line d)) both.1 more one.1 (marked (does g line d) (stays_calm g line d both.0 calm)) w) (meets_limit g line d) refl whole
      where
        both : (prepares line ≡ true) × (list_all prepares lines ≡ true)
        both = and_parts (prepares line) (list_all prepares lines) all

        go : (list_any (puts_content key) lines ≡ true → IsWhole (drives_to_limit g lines (with_mark (does g line d))) → HadIn (drives_to_limit g (lines ++ rest) (with_mark (does g line d))))
            → (b : Bool) → meets_limit g line d ≡ b → IsWhole (if b then cut_at line d else drives_to_limit g lines (with_mark (does g line d)))
            → HadIn (if b then cut_at line d else drives_to_limit g (lines ++ rest) (with_mark (does g line d)))
        go later true e w = absurd (true≢false w)
        go later false e w = elim (or_cases (puts_content key line) (list_any (puts_content key) lines) some) [
          | inl here ↦ had_after line (lines ++ rest) d (not_too_long line d e) here one.0 calm
          | inr more ↦ later more w
        ]

  -- ---- few such lines meet no limit

  few_of : (p : Entry → Bool) (past : List Entry) → length (filter p past) ≤ length past
  few_of p [] = omega arith
  few_of p (e ∷ past) = go (few_of p past) (p e)
    where
      go : length (filter p past) ≤ length past → (b : Bool) → length (cond b (e ∷ filter p past) (filter p past)) ≤ length (e ∷ past)
      go i true = omega (arith, i)
      go i false = omega (arith, i)

  short_enough : (past : List Entry) → length past ≤ most_entries → is_too_long g past ≡ false
  short_enough past h = any_none (λ (r : ℕ). nat_lt most_entries (count_of past r)) (λ r. le-ltb most_entries (count_of past r) (let i = few_of (is_of r) past in omega (arith, i, h))) (numbers g)

  not_full : (past : List Entry) (line : Command) → length past < most_entries → prepares line ≡ true → is_full past (asks_first line) ≡ false
  not_full past (Repo name id offset version locks) h p = refl
  not_full past (Does (Have r key bytes)) h p = lt-leb most_entries (count_of past r) (let i = few_of (is_of r) past in omega (arith, i, h))
  not_full past (Does (Add r path key bytes)) h p = lt-leb most_entries (count_of past r) (let i = few_of (is_of r) past in omega (arith, i, h))
  not_full past (Does (File path key)) h p = refl
  not_full past line h p = absurd (false≢true p)

  lacks_none : (line : Command) (d : Driver) → prepares line ≡ true → lacks_at g line d ≡ false
  lacks_none (Repo name id offset version locks) d p = refl
  lacks_none (Does (Have r key bytes)) d p = refl
  lacks_none (Does (Add r path key bytes)) d p = refl
  lacks_none (Does (File path key)) d p = refl
  lacks_none line d p = absurd (false≢true p)

  adds_two : (line : Command) (d : Driver) → prepares line ≡ true → IsCalm d → length (does g line d).past ≤ length d.past + 2
  adds_two (Repo name id offset version locks) d p calm = omega arith
  adds_two (Does (Have r key bytes)) d p calm = has_adds_two g r key bytes d calm
  adds_two (Does (Add r path key bytes)) d p calm = has_adds_two g r key bytes (enters path key d) (entered path key d calm)
  adds_two (Does (File path key)) d p calm = omega arith
  adds_two line d p calm = absurd (false≢true p)

  meets_none : (line : Command) (d : Driver) → prepares line ≡ true → IsCalm d → length d.past + 2 ≤ most_entries → meets_limit g line d ≡ false
  meets_none line d p calm h =
      or_from (is_full d.past (asks_first line)) (is_too_long g (does g line d).past || lacks_at g line d)
      (not_full d.past line (omega (arith, h)) p)
      (or_from (is_too_long g (does g line d).past) (lacks_at g line d)
      (short_enough (does g line d).past (let i = adds_two line d p calm in omega (arith, i, h)))
      (lacks_none line d p))

  few_whole : (first : List Command) (d : Driver) → list_all prepares first ≡ true → IsCalm d → length d.past + 2 * length first ≤ most_entries → IsWhole (drives_to_limit g first d)
  few_whole [] d all calm h = refl
  few_whole (line ∷ lines) d all calm h =
      go (few_whole lines (with_mark (does g line d)) both.1 (marked (does g line d) (stays_calm g line d both.0 calm)) (omega (arith, h, grown))) (meets_limit g line d)
      (meets_none line d both.0 calm (omega (arith, h)))
    where
      both : (prepares line ≡ true) × (list_all prepares lines ≡ true)
      both = and_parts (prepares line) (list_all prepares lines) all

      grown : length (does g line d).past ≤ length d.past + 2
      grown = adds_two line d both.0 calm

      go : IsWhole (drives_to_limit g lines (with_mark (does g line d))) → (b : Bool) → b ≡ false → IsWhole (if b then cut_at line d else drives_to_limit g lines (with_mark (does g line d)))
      go more true e = absurd (true≢false e)
      go more false e = more

  pub first_whole : (first : List Command) → list_all prepares first ≡ true → 2 * length first ≤ most_entries → (limited_run g first).is_cut ≡ false
  first_whole first all few = few_whole first at_first all first_calm (omega (arith, few))
