-- Each of several contents that the first lines put in place has a copy at the end, and so all are counted.
use Rattle.std.proofs.Common.{◌≡◌, ℕ, ◌≤◌, Bool, true, false, List, [], ◌∷◌, ◌++◌, length, refl, ◌∙◌, arith}
use Rattle.std.specs.Prelude.{count_by, nat_le}
use Rattle.std.specs.List.{list_all, list_any}
use Rattle.std.proofs.lemmas.Bool.{and_parts, le-leb}
use Rattle.annex_base.specs.Lists.{Each}
use Rattle.annex_base.proofs.Lists.{Each-from_list_all, Each-weaker}
use Rattle.run_data.specs.declared.run.Run.{Run}
use Rattle.run_model.specs.Safety.{copies_at}
use Rattle.script_commands.specs.declared.command.Command.{Command}
use Rattle.driver_model.specs.Driver.{DriverInput, at_first}
use Rattle.driver_model.specs.Driving.{run_of}
use Rattle.driver_model.specs.Limits.{limited_run}
use Rattle.driver_model.specs.Scripts.{IsOne}
use Rattle.past_facts.proofs.Lists.{count_by-yes}
use Rattle.kept_copies.specs.Scripts.{KeepsAll, have_contents, kept_of, prepares, puts_content}
use Rattle.kept_copies.proofs.Limited.{comes_to_limit}
use Rattle.kept_copies.proofs.Placing.{Had, LinesAdd, at_place, comes_by, first_calm}

-- at a place of the run some repository has the content
abbrev pub HasPlace : Run → List ℕ → Type 0
HasPlace run key = (place : ℕ) × (place ≤ length run.entries) × (1 ≤ copies_at run key place)

-- a copy of a content stays in the run
abbrev pub Stays : Run → Type 0
Stays run = (key : List ℕ) (place later : ℕ) → place ≤ later → 1 ≤ copies_at run key place → 1 ≤ copies_at run key later

keeps_all : (run : Run) (keys : List (List ℕ)) → Stays run → Each (HasPlace run) keys → KeepsAll run keys
keeps_all run keys stays all =
    Each-weaker (HasPlace run) (λ key. 1 ≤ copies_at run key (length run.entries)) (λ key x. stays key x.0 (length run.entries) x.1 x.2) keys all

had_all : (run : Run) (keys : List (List ℕ)) → Stays run → Each (Had run) keys → KeepsAll run keys
had_all run keys stays all = keeps_all run keys stays (Each-weaker (Had run) (HasPlace run) (λ key w. at_place run key w) keys all)

module _ (law : LinesAdd) (g : DriverInput) (first rest : List Command) (keys : List (List ℕ)) (one : Each (IsOne g) (first ++ rest)) (there : have_contents first keys ≡ true) where
  both : (list_all prepares first ≡ true) × (list_all (λ key. list_any (puts_content key) first) keys ≡ true)
  both = and_parts (list_all prepares first) (list_all (λ key. list_any (puts_content key) first) keys) there

  each_put : Each (λ key. list_any (puts_content key) first ≡ true) keys
  each_put = Each-from_list_all (λ key. list_any (puts_content key) first) keys both.1

  pub whole_keeps : Stays (run_of g (first ++ rest)) → KeepsAll (run_of g (first ++ rest)) keys
  whole_keeps stays = had_all (run_of g (first ++ rest)) keys stays
      (Each-weaker (λ key. list_any (puts_content key) first ≡ true) (Had (run_of g (first ++ rest))) (λ key some. comes_by law g rest key first at_first both.0 some one first_calm) keys each_put)

  pub limited_keeps : Stays (limited_run g (first ++ rest)).run → (limited_run g first).is_cut ≡ false → KeepsAll (limited_run g (first ++ rest)).run keys
  limited_keeps stays whole = had_all (limited_run g (first ++ rest)).run keys stays
      (Each-weaker (λ key. list_any (puts_content key) first ≡ true) (Had (limited_run g (first ++ rest)).run) (λ key some. comes_to_limit g law rest key first at_first both.0 some one first_calm whole) keys each_put)

-- ---- how many are kept

counts_all : (q : List ℕ → Bool) (keys : List (List ℕ)) → Each (λ key. q key ≡ true) keys → count_by q keys ≡ length keys
counts_all q [] all = refl
counts_all q (key ∷ keys) all = count_by-yes q key keys all.0 ∙ (let i = counts_all q keys all.1 in omega (arith, i))

pub all_counted : (run : Run) (keys : List (List ℕ)) → KeepsAll run keys → kept_of run keys ≡ length keys
all_counted run keys all =
    counts_all (λ key. nat_le 1 (copies_at run key (length run.entries))) keys
    (Each-weaker (λ key. 1 ≤ copies_at run key (length run.entries)) (λ key. nat_le 1 (copies_at run key (length run.entries)) ≡ true) (λ key h. le-leb 1 (copies_at run key (length run.entries)) h) keys all)
