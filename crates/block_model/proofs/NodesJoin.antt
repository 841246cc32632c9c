-- What the nodes of a block give back is a block.
use Rattle.std.proofs.Common.{◌≡◌, ℕ, ◌+◌, ◌<◌, ◌≤◌, Bool, true, false, List, [], ◌∷◌, ◌++◌, refl, sym, ap, ◌∙◌, subst, arith}
use Rattle.std.specs.Prelude.{◌&&◌, ◌==◌, if◌then◌else◌, filter, length, reverse}
use Rattle.std.proofs.lemmas.Bool.{eqb-true}
use Rattle.std.proofs.lemmas.List.{length-append, length-reverse, reverse-append, reverse-reverse}
use Rattle.annex_base.specs.Lists.{Each}
use Rattle.annex_base.proofs.Lists.{Each-reverse, filter_no, filter_yes}
use Rattle.annex_key.specs.Tree.{paths_of}
use Rattle.run_data.specs.declared.entry.Entry.{Entry}
use Rattle.run_data.specs.declared.entry.EntryKind.{EntryKind}
use Rattle.run_data.specs.declared.entry.EntryKind.TheVariants.{Begin}
use Rattle.run_data.specs.declared.run.Run.{Run}
use Rattle.run_model.specs.Frames.{Way, taken_count}
use Rattle.run_model.specs.Past.{begun_count, is_of}
use Rattle.run_model.specs.Run.{IsRun, RunPast, paths_at, paths_begun, set_up, tree_at}
use Rattle.node_model.specs.Ends.{EndName}
use Rattle.node_model.specs.Slots.{is_begin}
use Rattle.growth_laws.specs.Merged.{HasPathsIn, Letter, MayMerge, history, merge_all, merged_run, new_of}
use Rattle.step_facts.proofs.JobNumbers.{begins_next}
use Rattle.growth_laws.proofs.MergedNodes.{nodes_may_merge}
use Rattle.growth_laws.proofs.MergedRuns.{filter_reverse}
use Rattle.growth_laws.proofs.OwnParts.{begun_own}
use Rattle.step_facts.proofs.Plain.{option_same}
use Rattle.driver_model.specs.Driver.{Driver, DriverInput, FailLine}
use Rattle.driver_model.specs.Driving.{run_with}
use Rattle.script_commands.specs.declared.command.Agendum.{Agendum}
use Rattle.driver_model.specs.Sound.{IsSound}
use Rattle.driver_model.specs.Ways.{way_out}
use Rattle.driver_model.proofs.Premises.{EntryLaws}
use Rattle.block_model.specs.Alone.{CameWhole, alone, bytes_flying}
use Rattle.block_model.specs.Blocks.{with_fails}
use Rattle.block_model.specs.Merging.{CameFrom, WorksAlone}
use Rattle.block_model.specs.Nodes.{NodeWorks, NodesHaveWorked}
use Rattle.block_model.proofs.KeptAlone.{mine_is}
use Rattle.block_model.proofs.Merges.{merge_is}
use Rattle.block_model.proofs.OtherPaths.{deeds_to, does_to, history_run, pieces_to, tree_later}
use Rattle.block_model.proofs.Serving.{may_of}

filter_each : {X : Type 0} (P : X → Type 0) (q : X → Bool) (xs : List X) → Each P (filter q xs) → Each (λ x. q x ≡ true → P x) xs
filter_each P q [] a = tt
filter_each P q (x ∷ xs) a = go (filter_each P q xs) (q x) refl
  where
    go : (Each P (filter q xs) → Each (λ x. q x ≡ true → P x) xs) → (b : Bool) → q x ≡ b → Each (λ x. q x ≡ true → P x) (x ∷ xs)
    go more true i = let y = subst (Each P) (filter_yes q x xs i) a in ((λ j. y.0), more y.1)
    go more false i = ((λ j. absurd (let no' : true ≡ false = sym j ∙ i in cc)), more (subst (Each P) (filter_no q x xs i) a))

each_unreversed : {X : Type 0} (P : X → Type 0) (xs : List X) → Each P (reverse xs) → Each P xs
each_unreversed P xs h = subst (Each P) (reverse-reverse xs) (Each-reverse P (reverse xs) h)

module _ (laws : EntryLaws) (g : DriverInput) (d : Driver) (sound : IsSound g d) (xs : List Agendum) (news : List (List Entry)) (c : ℕ) (paths : ℕ → ℕ → List (List ℕ)) (got : ℕ → Way → List Letter)
    (pieces : ℕ → Way → List (List ℕ)) (fails : List FailLine) (x : NodesHaveWorked g xs d news c paths got pieces fails) where
  pub nodes_may : MayMerge (run_with g d) news got
  nodes_may = nodes_may_merge (run_with g d) news c paths got sound.run x.marked x.number x.count (λ r l. (x.each r l).keeps) x.meet.letters

  module _ (merged : IsRun (merged_run (run_with g d) news)) where
    abbrev whole : Run
    whole = merged_run (run_with g d) news

    module _ (r : ℕ) (known : r < length g.repos) where
      w : NodeWorks g xs d news c paths got pieces fails r
      w = x.each r known

      -- ---- the paths

      agree : (more : List Entry) → Each (λ e. is_of r e ≡ true → HasPathsIn (tree_at d.tree (length (reverse d.past))) (paths r) e) more → RunPast (set_up (merged_run (run_with g d) news)) (more ++ d.past)
          → (j : ℕ) → j ≤ begun_count (more ++ d.past) r → paths_at d.tree (more ++ d.past) r j ≡ paths r j
      agree [] given h j l = subst (λ zs. paths_at d.tree zs r j ≡ paths r j) (reverse-reverse d.past) (w.keeps.before j (subst (λ zs. j ≤ begun_count zs r) (sym (reverse-reverse d.past)) l))
      agree (e ∷ more) given h j l = go (agree more given.1 h.1 j) (is_of r e) refl
        where
          few : (b k : Bool) (n : ℕ) → j ≤ (if b && k then n + 1 else n) → k ≡ false → j ≤ n
          few true true n m i = absurd (cc)
          few true false n m i = m
          few false k n m i = m

          most : (b k : Bool) (n : ℕ) → j ≤ (if b && k then n + 1 else n) → j ≤ n + 1
          most true true n m = m
          most true false n m = omega (arith, m)
          most false k n m = omega (arith, m)

          later : length (reverse d.past) ≤ length (more ++ d.past)
          later = let i = length-reverse d.past in let k = length-append more d.past in omega (arith, i, k)

          at_begin : is_of r e ≡ true → (j ≤ begun_count (more ++ d.past) r → paths_at d.tree (more ++ d.past) r j ≡ paths r j) → (kind : EntryKind) → e.kind ≡ kind → j ≤ (if is_of r e && is_begin kind then begun_count (more ++ d.past) r + 1 else begun_count (more ++ d.past) r)
              → paths_begun d.tree (length (more ++ d.past)) j (paths_at d.tree (more ++ d.past) r j) kind ≡ paths r j
          at_begin i ih (Begin job what) k m = at (job == j) refl
            where
              part : job ≡ begun_count (more ++ d.past) r + 1
              part = let z = may_of (set_up (merged_run (run_with g d) news)) (more ++ d.past) e h.0 r (option_same e.repo r i) in begins_next (set_up (merged_run (run_with g d) news) r) (more ++ d.past) z.0 e z.1 job what k

              at : (b : Bool) → (job == j) ≡ b → (if b then paths_of (tree_at d.tree (length (more ++ d.past))) what.key else paths_at d.tree (more ++ d.past) r j) ≡ paths r j
              at true q = ap (λ tree. paths_of tree what.key) (tree_later d.tree (length (reverse d.past)) (length (more ++ d.past)) later x.marked) ∙ sym (given.0 i job what k) ∙ ap (paths r) (eqb-true job j q)
              at false q = ih (let n = part in let u = most (is_of r e) true (begun_count (more ++ d.past) r) m in grind arith)
          at_begin i ih kind k m = ih (few (is_of r e) false (begun_count (more ++ d.past) r) m refl)

          go : (j ≤ begun_count (more ++ d.past) r → paths_at d.tree (more ++ d.past) r j ≡ paths r j) → (b : Bool) → is_of r e ≡ b → paths_at d.tree (e ∷ more ++ d.past) r j ≡ paths r j
          go ih true i = rw i (at_begin i ih e.kind refl l)
          go ih false i = rw i (ih (subst (λ b. j ≤ (if b && is_begin e.kind then begun_count (more ++ d.past) r + 1 else begun_count (more ++ d.past) r)) i l))

      -- ---- what it keeps

      past_is : reverse (reverse d.past ++ merge_all news) ≡ reverse (merge_all news) ++ d.past
      past_is = reverse-append (reverse d.past) (merge_all news) ∙ ap (λ zs. reverse (merge_all news) ++ zs) (reverse-reverse d.past)

      hist_is : history (run_with g d) news r ≡ reverse (new_of news r) ++ filter (is_of r) d.past
      hist_is = reverse-append (filter (is_of r) (reverse d.past)) (new_of news r) ∙ ap (λ zs. reverse (new_of news r) ++ zs) (sym (filter_reverse (is_of r) (reverse d.past)) ∙ ap (filter (is_of r)) (reverse-reverse d.past))

      given : Each (λ e. is_of r e ≡ true → HasPathsIn (tree_at d.tree (length (reverse d.past))) (paths r) e) (reverse (merge_all news))
      given = Each-reverse _ (merge_all news) (filter_each _ (is_of r) (merge_all news)
          (subst (Each (HasPathsIn (tree_at d.tree (length (reverse d.past))) (paths r))) (sym ((merge_is (run_with g d) news got nodes_may).own r)) (each_unreversed _ (new_of news r) w.keeps.given)))

      same : (j : ℕ) → j ≤ begun_count (history (run_with g d) news r) r → (set_up (merged_run (run_with g d) news) r).paths j ≡ paths r j
      same j l =
          let count : begun_count (history (run_with g d) news r) r ≡ begun_count (reverse (merge_all news) ++ d.past) r =
          ap (λ zs. begun_count zs r) (sym (mine_is laws g d sound news got nodes_may merged r)) ∙ sym (begun_own r (reverse (reverse d.past ++ merge_all news))) ∙ ap (λ zs. begun_count zs r) past_is in
          ap (λ zs. paths_at d.tree zs r j) past_is ∙ agree (reverse (merge_all news)) given (subst (RunPast (set_up (merged_run (run_with g d) news))) past_is merged.steps) j (subst (λ n. j ≤ n) count l)

      pub works : WorksAlone g xs d news got pieces fails r
      works = record {
        worked = record {
          doings = w.doings;
          left = w.left;
          agenda_is = w.agenda_is;
          entries_are = w.entries_are;
          fails_are = w.fails_are;
          so = does_to g.repos r (paths r) (set_up (merged_run (run_with g d) news) r).paths (history (run_with g d) news r) (history_run g.repos r (paths r) (paths r) (got r) (history (run_with g d) news r) w.keeps.kept) same
              (begun_count d.past r) w.doings (filter (is_of r) d.past) (hist_is ∙ ap (λ es. reverse es ++ filter (is_of r) d.past) w.entries_are) w.so;
        };
        deeds = deeds_to g.repos r (paths r) (set_up (merged_run (run_with g d) news) r).paths (history (run_with g d) news r) (history_run g.repos r (paths r) (paths r) (got r) (history (run_with g d) news r) w.keeps.kept) same
            g (got r) (pieces r) (new_of news r) (alone (with_fails fails d) r) hist_is w.deeds;
      }

    pub queues : (q : ℕ) (a : EndName) (n : ℕ) → CameFrom g d news pieces fails q a n
    queues q a n = subst (CameWhole (taken_count d.past (way_out q a n)) (pieces a.peer (way_out q a n)) (bytes_flying q a n d.flights))
        (pieces_to g.repos q (paths q) (set_up (merged_run (run_with g d) news) q).paths (pieces q) (way_out q a n) (new_of news q) (alone (with_fails fails d) q)) (x.meet.whole q a n)

    -- what is left of an agenda is what the node has left
    pub left_is : (r : ℕ) (known : r < length g.repos) → (works r known).worked.left ≡ (x.each r known).left
    unfolding works w
    left_is r known = refl
