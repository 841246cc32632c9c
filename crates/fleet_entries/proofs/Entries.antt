-- How many entries there are: those of each repository, and the waits.
use Rattle.std.proofs.Common.{◌≡◌, ℕ, zero, suc, ◌+◌, ◌*◌, ◌<◌, ◌≤◌, Bool, true, false, List, [], ◌∷◌, Option, Some, None, refl, sym, ap, ◌∙◌, subst, arith}
use Rattle.std.specs.Prelude.{◌==◌, ◌^◌, IfSome, filter, if◌then◌else◌, is_none, length, slice_get}
use Rattle.std.proofs.lemmas.Bool.Decides.{nat_tests}
use Rattle.std.proofs.lemmas.List.{reverse-reverse}
use Rattle.annex_base.proofs.Lists.{slice_get-within}
use Rattle.run_data.specs.declared.entry.Entry.{Entry}
use Rattle.run_data.specs.Histories.{most_entries}
use Rattle.run_data.specs.declared.run.Run.{Run}
use Rattle.node_model.specs.Rows.{option_is}
use Rattle.run_model.specs.Past.{Always, is_of}
use Rattle.run_model.specs.Run.{MayBe, RunPast, set_up}
use Rattle.fleet_model.specs.Nodes.{NodeView}
use Rattle.fleet_model.specs.Stored.{StoreView}
use Rattle.driver_model.specs.Driving.{run_with}
use Rattle.driver_model.specs.Limits.{count_of}
use Rattle.fleet_model.specs.Fleets.{FleetView, HasCome}
use Rattle.fleet_entries.specs.AtDriver.{IsDriven, is_wait, waits_in}
use Rattle.fleet_entries.specs.Telling.{AreFew}
use Rattle.fleet_entries.proofs.Full.{counted, each_at}
use Rattle.fleet_entries.proofs.Driving.{entries_are}

-- of the first so many repositories, and the waits
abbrev counted_in : ℕ → List Entry → ℕ
counted_in zero past = waits_in past
counted_in (suc n) past = count_of past n + counted_in n past

-- the repository is one of the first so many, or there is none
abbrev pub IsOneOf : ℕ → Option ℕ → Type 0
IsOneOf n o = IfSome o (λ r. r < n)

kept : (p : Entry → Bool) (e : Entry) (past : List Entry) → length (filter p past) ≤ length (filter p (e ∷ past))
kept p e past = go (p e)
  where
    go : (b : Bool) → length (filter p past) ≤ length (if b then e ∷ filter p past else filter p past)
    go true = omega arith
    go false = omega arith

more : (p : Entry → Bool) (e : Entry) (past : List Entry) → p e ≡ true → length (filter p (e ∷ past)) ≡ suc (length (filter p past))
more p e past is = ap (λ (b : Bool). length (if b then e ∷ filter p past else filter p past)) is

-- no entry takes away from what is counted
stays : (n : ℕ) (e : Entry) (past : List Entry) → counted_in n past ≤ counted_in n (e ∷ past)
stays zero e past = kept is_wait e past
stays (suc n) e past = let own = kept (is_of n) e past in let rest = stays n e past in omega (arith, own, rest)

-- an entry adds to it, where its repository is one of them, or it is a wait
adds_wait : (n : ℕ) (e : Entry) (past : List Entry) → e.repo ≡ None → suc (counted_in n past) ≤ counted_in n (e ∷ past)
adds_wait zero e past is = let one = more is_wait e past (ap is_none is) in omega (arith, one)
adds_wait (suc n) e past is = let own = kept (is_of n) e past in let rest = adds_wait n e past is in omega (arith, own, rest)

adds_own : (n r : ℕ) (e : Entry) (past : List Entry) → e.repo ≡ Some r → r < n → suc (counted_in n past) ≤ counted_in n (e ∷ past)
adds_own zero r e past is less = absurd (omega (arith, less))
adds_own (suc n) r e past is less = go (λ less. adds_own n r e past is less) (r == n) refl
  where
    lower : (r == n) ≡ false → r < n
    lower other = grind (arith, nat_tests, other, less)

    go : (r < n → suc (counted_in n past) ≤ counted_in n (e ∷ past)) → (b : Bool) → (r == n) ≡ b → suc (counted_in (suc n) past) ≤ counted_in (suc n) (e ∷ past)
    go others true same = let one = more (is_of n) e past (ap (λ o. option_is o n) is ∙ same) in let rest = stays n e past in omega (arith, one, rest)
    go others false other = let own = kept (is_of n) e past in let rest = others (lower other) in omega (arith, own, rest)

adds_one : (n : ℕ) (e : Entry) (past : List Entry) → IsOneOf n e.repo → suc (counted_in n past) ≤ counted_in n (e ∷ past)
adds_one n e past known = go e.repo refl known
  where
    go : (o : Option ℕ) → e.repo ≡ o → IsOneOf n o → suc (counted_in n past) ≤ counted_in n (e ∷ past)
    go None is known = adds_wait n e past is
    go (Some r) is known = adds_own n r e past is known

all_counted : (n : ℕ) (past : List Entry) → Always (λ before e. IsOneOf n e.repo) past → length past ≤ counted_in n past
all_counted n [] all = omega arith
all_counted n (e ∷ past) all = let one = adds_one n e past all.0 in let rest = all_counted n past all.1 in omega (arith, one, rest)

-- no repository has made too many
at_most : (n : ℕ) (past : List Entry) → ((r : ℕ) → r < n → count_of past r ≤ most_entries) → counted_in n past ≤ n * most_entries + waits_in past
at_most zero past few = omega arith
at_most (suc n) past few = let own = few n (last n) in let rest = at_most n past (λ r less. few r (lower r n less)) in omega (arith, own, rest)
  where
    last : (n : ℕ) → n < suc n
    last n = omega arith

    lower : (r n : ℕ) → r < n → r < suc n
    lower r n less = omega (arith, less)

-- the entries of a run are of its repositories, or waits
known_in : (run : Run) (past : List Entry) → RunPast (set_up run) past → Always (λ before e. IsOneOf (length run.repos) e.repo) past
known_in run [] steps = tt
known_in run (e ∷ past) steps = (go e.repo steps.0.may, known_in run past steps.1)
  where
    go : (o : Option ℕ) → MayBe (set_up run) past e o → IsOneOf (length run.repos) o
    go None may = tt
    go (Some r) may = may.1.known

few_entries : (run : Run) (past : List Entry) → RunPast (set_up run) past → length run.repos ≤ 16 → ((r : ℕ) → r < length run.repos → count_of past r ≤ most_entries) → waits_in past ≤ 268435456
    → length past < 2 ^ 30
few_entries run past steps small few waits =
    let counted = all_counted (length run.repos) past (known_in run past steps) in
    let most = at_most (length run.repos) past few in
    omega (arith, counted, most, small, waits)

-- a fleet has few entries, where no node has made too many
pub entries_few : {K : Type 0} (tells : K → StoreView) (f : FleetView K) → IsDriven tells f → AreFew f.nodes → length f.run.entries < 2 ^ 30
entries_few {K} tells f driven few =
    subst (λ (n : ℕ). n < 2 ^ 30) (sym (entries_are tells driven.given driven.driver f come))
    (few_entries (run_with driven.given driven.driver) driven.driver.past
    (subst (λ (past : List Entry). RunPast (set_up (run_with driven.given driven.driver)) past) (reverse-reverse driven.driver.past) come.sound.run.steps)
    driven.repos made driven.few.waits)
  where
    come : HasCome tells driven.given driven.driver f
    come = driven.stands.come

    made : (r : ℕ) → r < length driven.given.repos → count_of driven.driver.past r ≤ most_entries
    made r known =
        let found : (n : NodeView K) × (slice_get f.nodes r ≡ Some n) = slice_get-within f.nodes r (subst (λ (c : ℕ). r < c) (sym come.count) known) in
        subst (λ (k : ℕ). k ≤ most_entries) (sym (counted tells driven.given driven.driver r found.0 (come.each r found.0 found.1)))
        (each_at (λ (n : NodeView K). length n.history ≤ most_entries) f.nodes r found.0 few found.1)
