-- The sequential driver's block is a block: it has come so far as its repositories have done of their agendas, and it ends at rest.
use Rattle.std.proofs.Common.{◌≡◌, ◌⊎◌, ℕ, ◌+◌, ◌<◌, ◌≤◌, true, false, List, [], ◌∷◌, ◌++◌, inl, inr, refl, sym, ap, ◌∙◌, subst, append-nil, arith}
use Rattle.std.specs.Prelude.{filter, length, map, nat_le, reverse}
use Rattle.std.proofs.lemmas.List.{length-append}
use Rattle.annex_base.specs.Lists.{Each, Member}
use Rattle.annex_base.proofs.Conditions.{eqb_refl}
use Rattle.annex_base.proofs.Lists.{Each-member, Each-reverse, list_any_nowhere}
use Rattle.annex_base.proofs.Numbers.{Member-range}
use Rattle.run_data.specs.declared.entry.Entry.{Entry}
use Rattle.run_model.specs.Past.{begun_count, is_of}
use Rattle.run_model.specs.Run.{paths_at, repo_number}
use Rattle.run_model.specs.States.{works}
use Rattle.node_model.specs.Rows.{option_is}
use Rattle.script_commands.specs.declared.command.Agendum.{Agendum}
use Rattle.script_commands.specs.declared.command.BlockLine.{BlockLine}
use Rattle.script_commands.specs.declared.command.BlockLine.TheVariants.{Runs, Closes}
use Rattle.step_facts.proofs.Plain.{member_mapped}
use Rattle.driver_model.specs.Driver.{Driver, DriverInput, state_at}
use Rattle.driver_model.specs.Limits.{is_too_long}
use Rattle.driver_model.specs.Rounds.{Agenda, InBlock, agenda, block_rounds, is_over, is_stuck, lacks_next, most_rounds, numbers}
use Rattle.driver_model.specs.Scripts.{HasBoundedPast, IsAgendum}
use Rattle.driver_model.proofs.FullHistories.{count_more, few_entries, not_too_long}
use Rattle.driver_model.proofs.Holding.{Keeps}
use Rattle.driver_model.proofs.Premises.{Laws}
use Rattle.driver_model.proofs.Settles.{many}
use Rattle.driver_model.proofs.WithinLimit.{IsOfFirst, fewer, total, total_added, total_few}
use Rattle.block_model.specs.Blocks.{HasDone, IsBlock, left_after, with_fails}
use Rattle.block_model.specs.Doings.{can_go_on}
use Rattle.block_model.specs.Following.{MayAllFollow, after_entries, after_entry, without_old_of}
use Rattle.block_model.proofs.Coming.{HasCome}
use Rattle.block_model.proofs.Doers.{Did, numbers_begun}
use Rattle.block_model.proofs.Lives.{cleared_live, none_live}
use Rattle.block_model.proofs.Phases.{Goes, IsBlocked, Phase, Rests, bound_not_met, goes_rounds}
use Rattle.block_model.proofs.Rounding.{BlockComes, Doers, block_begins, blocks_come, range_distinct, repos_first, AreDistinct}
use Rattle.block_model.proofs.Taking.{free_is}
use Rattle.block_model.proofs.Twins.{twin}
use Rattle.block_model.proofs.Within.{Within}

-- ---- entries of a block are of the repositories that are there

entries_known : (g : DriverInput) (es : List Entry) (d : Driver) → MayAllFollow g d es → Each (IsOfFirst (length g.repos)) es
entries_known g [] d all = tt
entries_known g (e ∷ es) d all = ((all.0.r, all.0.known, ap (λ o. option_is o all.0.r) all.0.repo_is ∙ eqb_refl all.0.r), entries_known g es (after_entry g (repo_number e.repo) e d) all.1)

-- a past that isn't too long wasn't so before
pub short_before : (g : DriverInput) (d after : Driver) → Within d after → is_too_long g after.past ≡ false → is_too_long g d.past ≡ false
short_before g d after x short = not_too_long g d.past (λ q known.
    let up = subst (λ past. length (filter (is_of q) d.past) ≤ length (filter (is_of q) past)) (sym x.0.1) (count_more q x.0.0 d.past) in
    let few = few_entries g after.past short q known in
    omega (arith, up, few))

module _ (laws : Laws) (g : DriverInput) (sixteen : length g.repos ≤ 16) (xs : List Agendum) (d : Driver) (all : Each (IsAgendum g) xs) (k : Keeps g d) where
  -- the block as it begins
  abbrev first : InBlock
  first = record { driver = d; left = map (agenda xs) (numbers g); idle = 0; took = true }

  module _ (y : InBlock) (come : BlockComes laws g xs d y) (goes : Goes laws.names g y) (fits : HasBoundedPast y.driver) (over : is_over y ≡ true) (free : is_stuck y.driver y.left ≡ false) where
    c : HasCome g d y.driver (Doers g xs d y.left)
    c = come.1 fits

    -- ---- at the end nobody has a step, nor a line to take

    rests : Rests laws.names g y.driver y.left
    rests = go goes.1
      where
        never_over : (n : ℕ) → y.idle ≡ n → nat_le 2 n ≡ false → is_over y ≡ false
        never_over n i few = let no' : nat_le 2 y.idle ≡ false = ap (nat_le 2) i ∙ few in rw no' refl

        so : (is_stuck y.driver y.left ≡ true) ⊎ Rests laws.names g y.driver y.left → Rests laws.names g y.driver y.left
        so (inl stuck) = absurd (let no' : true ≡ false = sym stuck ∙ free in cc)
        so (inr r) = r

        go : Phase laws.names g y → Rests laws.names g y.driver y.left
        go (inl i) = absurd (let no' : true ≡ false = sym over ∙ never_over 0 i refl in cc)
        go (inr (inl x)) = absurd (let no' : true ≡ false = sym over ∙ never_over 1 x.idle_is refl in cc)
        go (inr (inr x)) = so x.so

    -- ---- the driver is what the entries leave

    after_is : y.driver ≡ left_after g c.es c.fails d
    after_is = sym (
        ap (without_old_of g (numbers g)) (ap (λ zs. after_entries g c.es (with_fails zs d)) (sym (append-nil c.fails)) ∙ c.is [] ∙ ap (λ zs. twin y.driver c.ys zs) (append-nil y.driver.fails))
        ∙ cleared_live g y.driver (numbers g) c.ys y.driver.fails
        ∙ ap (λ ys. twin y.driver ys y.driver.fails) (c.same ∙ none_live g y.driver rests.young)
        )

    -- ---- what each has done

    -- so much has r done, and it can't go on
    abbrev Done : ℕ → Type 0
    Done r = (h : HasDone g xs d y.driver c.es c.fails r) × (can_go_on (begun_count d.past r) (state_at g y.driver r) h.left ≡ false)

    cannot : (a : Agenda) → Did g xs d y.driver.past c.es c.fails a → IsBlocked y.driver a.repo a.lines a.jobs → lacks_next y.driver.past a.repo a.lines ≡ false
        → can_go_on (begun_count d.past a.repo) (state_at g y.driver a.repo) a.lines ≡ false
    cannot a did = go a.lines
      where
        go : (ls : List BlockLine) → IsBlocked y.driver a.repo ls a.jobs → lacks_next y.driver.past a.repo ls ≡ false → can_go_on (begun_count d.past a.repo) (state_at g y.driver a.repo) ls ≡ false
        go [] h i = refl
        go (Runs job ∷ ls) h i = free_is (begun_count d.past a.repo) (begun_count y.driver.past a.repo) (works y.driver.past a.repo) a.jobs (numbers_begun g y.driver (c.keeps fits) a.repo) did.jobs_are ∙ h
        go (Closes other ∷ ls) h i = absurd (let no' : true ≡ false = sym h ∙ i in cc)
        go (line ∷ ls) h i = absurd h

    done_of : (a : Agenda) → Did g xs d y.driver.past c.es c.fails a → IsBlocked y.driver a.repo a.lines a.jobs → lacks_next y.driver.past a.repo a.lines ≡ false → Done a.repo
    done_of a did blocked enough = (
      record {
        doings = did.doings;
        left = a.lines;
        agenda_is = did.agenda_is;
        entries_are = did.entries_are;
        fails_are = did.fails_are;
        so = did.so (paths_at y.driver.tree y.driver.past a.repo) (λ j l. ap (λ tree. paths_at tree y.driver.past a.repo j) c.tree_is);
      },
      cannot a did blocked enough,
    )

    done : (r : ℕ) → r < length g.repos → Done r
    done r known =
        let among : Member r (map (λ (a : Agenda). a.repo) y.left) = subst (Member r) (sym come.2) (Member-range 0 (length g.repos) r (omega arith) (omega (arith, known))) in
        let found = member_mapped (λ (a : Agenda). a.repo) y.left r among in
        subst Done (sym found.2) (done_of found.0 (Each-member (Did g xs d y.driver.past c.es c.fails) y.left found.0 c.holds found.1)
        (Each-member (λ (a : Agenda). IsBlocked y.driver a.repo a.lines a.jobs) y.left found.0 rests.blocked found.1)
        (Each-member (λ (a : Agenda). lacks_next y.driver.past a.repo a.lines ≡ false) y.left found.0 (list_any_nowhere (λ (a : Agenda). lacks_next y.driver.past a.repo a.lines) y.left free) found.1))

    is_block : IsBlock g xs d y.driver
    is_block = record {
      begun = record {
        entries = c.es;
        fails = c.fails;
        known = c.known;
        follow = subst (λ zs. MayAllFollow g (with_fails zs d) c.es) (append-nil c.fails) (c.follow []);
        after_is = after_is;
        does = λ r known. (done r known).0;
      };
      done = λ r known. (done r known).1;
      rest = rests.rest;
    }

  -- ---- the block comes to its end

  few_added : (y : InBlock) → HasCome g d y.driver (Doers g xs d y.left) → is_too_long g y.driver.past ≡ false → many y.driver < many d + 2000000
  few_added y c short =
      let n : ℕ = length g.repos in
      let more = Each-reverse (IsOfFirst (length g.repos)) c.es (entries_known g c.es (with_fails (c.fails ++ []) d) (c.follow [])) in
      let added = subst (λ past. total n d.past + length (reverse c.es) ≤ total n past) (sym c.past_is) (total_added n (reverse c.es) d.past more) in
      let few = total_few n y.driver.past (few_entries g y.driver.past short) in
      let is = ap length c.past_is ∙ length-append (reverse c.es) d.past in
      fewer n (total n d.past) (length (reverse c.es)) (total n y.driver.past) (length y.driver.past) (length d.past) sixteen added few is

  pub makes_block : (bound : ℕ) → bound ≡ most_rounds → HasBoundedPast (block_rounds g bound first).driver → is_too_long g (block_rounds g bound first).driver.past ≡ false
      → is_stuck (block_rounds g bound first).driver (block_rounds g bound first).left ≡ false → IsBlock g xs d (block_rounds g bound first).driver
  makes_block bound e fits short free =
      let come = blocks_come laws g xs d bound first (block_begins laws g xs d all k) in
      let begins : Goes laws.names g first = (subst AreDistinct (sym (repos_first laws g xs d (numbers g))) (range_distinct 0 (length g.repos)), inl refl) in
      let over = bound_not_met laws.names g first bound begins e (few_added (block_rounds g bound first) (come.1 fits) short) in
      is_block (block_rounds g bound first) come (goes_rounds laws.names g bound first begins) fits over free
