-- Histories that repositories kept alone, of which each two meet, are served by the stores once they are merged.
use Rattle.std.proofs.Common.{◌≡◌, ℕ, ◌<◌, List, [], ◌∷◌, ◌++◌, refl, sym, ap, ◌∙◌, subst}
use Rattle.std.specs.Prelude.{filter, length, reverse}
use Rattle.std.proofs.lemmas.List.{reverse-append, reverse-reverse}
use Rattle.std.proofs.lemmas.List.Elements.{filter-append}
use Rattle.run_data.specs.declared.entry.Entry.{Entry}
use Rattle.run_model.specs.Frames.{Way, sender_of, taken_count, taker_of}
use Rattle.run_model.specs.Past.{Always, is_of}
use Rattle.run_model.specs.Run.{IsRun, set_up}
use Rattle.node_model.specs.Ends.{EndName}
use Rattle.growth_laws.specs.Merged.{new_of, AreFirstLetters, IsHistory, Letter, MayMerge, history, letters, merge_all, merged_run, set_up_with}
use Rattle.growth_laws.proofs.MergedRuns.{filter_reverse, letters_own}
use Rattle.driver_model.specs.Driver.{Driver, DriverInput, FailLine, state_at, without_old_flights}
use Rattle.driver_model.specs.Driving.{run_with}
use Rattle.script_commands.specs.declared.command.Agendum.{Agendum}
use Rattle.driver_model.specs.Rounds.{numbers}
use Rattle.driver_model.specs.Sound.{IsSound}
use Rattle.driver_model.specs.Ways.{way_out}
use Rattle.driver_model.proofs.Premises.{EntryLaws}
use Rattle.block_model.specs.Alone.{AreOwnDeeds, CameWhole, IsAlone, after_owns, alone, bytes_flying, pieces_sent}
use Rattle.block_model.specs.Blocks.{left_after, with_fails}
use Rattle.block_model.specs.Following.{after_entries, without_old_of}
use Rattle.block_model.specs.Merging.{AreAllServed, CameFrom, WorksAlone}
use Rattle.block_model.proofs.Merges.{merge_is}
use Rattle.block_model.proofs.Serving.{Joint, Took, end_alone, serve}

took_always : (s_number : ℕ) (run_repos : _) (s_paths : _) (got : ℕ → Way → List Letter) (past : List Entry) → IsHistory (record { number = s_number; repos = run_repos; paths = s_paths }) (got s_number) past → Always (Took got s_number) past
took_always r repos paths got [] h = tt
took_always r repos paths got (e ∷ past) h = ((λ f i. h.0.takes f i), took_always r repos paths got past h.1)

module _ (laws : EntryLaws) (g : DriverInput) (d : Driver) (sound : IsSound g d) (news : List (List Entry)) (got : ℕ → Way → List Letter) (may : MayMerge (run_with g d) news got)
    (merged : IsRun (merged_run (run_with g d) news)) where
  entries : List Entry
  entries = reverse d.past ++ merge_all news

  -- its history is what the merged run has of it
  pub mine_is : (r : ℕ) → filter (is_of r) (reverse (reverse d.past ++ merge_all news)) ≡ history (run_with g d) news r
  mine_is r = filter_reverse (is_of r) (reverse d.past ++ merge_all news)
      ∙ ap reverse (filter-append (is_of r) (reverse d.past) (merge_all news) ∙ ap (λ es. filter (is_of r) (reverse d.past) ++ es) ((merge_is (run_with g d) news got may).own r))

  came : (r : ℕ) (w : Way) → r < length g.repos → taker_of w ≡ r → AreFirstLetters (got r w) (reverse (reverse d.past ++ merge_all news)) w
  came r w known i =
      let x = may.came r (sender_of w) w known i refl in
      record { rest = x.rest; is = letters_own w (reverse (reverse d.past ++ merge_all news)) ∙ ap (λ p. letters p w) (mine_is (sender_of w)) ∙ x.is }

  took : (r : ℕ) → r < length g.repos → Always (Took got r) (filter (is_of r) (reverse (reverse d.past ++ merge_all news)))
  took r known = subst (Always (Took got r)) (sym (mine_is r)) (took_always r g.repos (set_up_with (run_with g d) news r).paths got (history (run_with g d) news r) (may.kept r known))

  joint : (xs : List Agendum) (pieces : ℕ → Way → List (List ℕ)) (fails : List FailLine) → ((r : ℕ) → r < length g.repos → WorksAlone g xs d news got pieces fails r)
      → ((q : ℕ) (a : EndName) (n : ℕ) → CameFrom g d news pieces fails q a n)
      → Joint laws g d.tree d.marks (reverse d.past ++ merge_all news) merged got pieces came took (with_fails fails d) (merge_all news) (alone (with_fails fails d))
  joint xs pieces fails works queues = record {
    tree_is = refl;
    final = reverse-append (reverse d.past) (merge_all news) ∙ ap (λ zs. reverse (merge_all news) ++ zs) (reverse-reverse d.past);
    made = (merge_is (run_with g d) news got may).made;
    alone = λ r. record { past = refl; fails = refl; contents = refl; parts = refl };
    deeds = λ r known. subst (AreOwnDeeds g (set_up (merged_run (run_with g d) news) r) (got r) (pieces r) (alone (with_fails fails d) r)) (sym ((merge_is (run_with g d) news got may).own r)) (works r known).deeds;
    flies = sound.flies;
    order = sound.order;
    down = sound.down;
    queue = λ q a n. subst (λ (es : List Entry). CameWhole (taken_count d.past (way_out q a n)) (pieces a.peer (way_out q a n)) (bytes_flying q a n d.flights)
        (pieces_sent (set_up (merged_run (run_with g d) news) q) (pieces q) (way_out q a n) es (alone (with_fails fails d) q))) (sym ((merge_is (run_with g d) news got may).own q)) (queues q a n);
  }

  pub all_served : (xs : List Agendum) (pieces : ℕ → Way → List (List ℕ)) (fails : List FailLine) → ((r : ℕ) → r < length g.repos → WorksAlone g xs d news got pieces fails r)
      → ((q : ℕ) (a : EndName) (n : ℕ) → CameFrom g d news pieces fails q a n) → AreAllServed g (with_fails fails d) (merge_all news)
  all_served xs pieces fails works queues = serve laws g d.tree d.marks (reverse d.past ++ merge_all news) merged got pieces came took (merge_all news) (with_fails fails d) (alone (with_fails fails d)) (joint xs pieces fails works queues)

  -- the store that a repository keeps alone is what the driver that the entries leave says of it
  pub stores_left : (xs : List Agendum) (pieces : ℕ → Way → List (List ℕ)) (fails : List FailLine) → ((r : ℕ) → r < length g.repos → WorksAlone g xs d news got pieces fails r)
      → ((q : ℕ) (a : EndName) (n : ℕ) → CameFrom g d news pieces fails q a n) → (r : ℕ)
      → IsAlone (left_after g (merge_all news) fails d) r (after_owns (set_up (merged_run (run_with g d) news) r) (pieces r) (new_of news r) (alone (with_fails fails d) r))
  stores_left xs pieces fails works queues r = old_alone (numbers g) (after_entries g (merge_all news) (with_fails fails d))
      (subst (λ (es : List Entry). IsAlone (after_entries g (merge_all news) (with_fails fails d)) r (after_owns (set_up (merged_run (run_with g d) news) r) (pieces r) es (alone (with_fails fails d) r))) ((merge_is (run_with g d) news got may).own r)
      (end_alone laws g d.tree d.marks (reverse d.past ++ merge_all news) merged got pieces came took (merge_all news) (with_fails fails d) (alone (with_fails fails d)) (joint xs pieces fails works queues) r))
    where
      old_alone : (rs : List ℕ) (e : Driver) → IsAlone e r (after_owns (set_up (merged_run (run_with g d) news) r) (pieces r) (new_of news r) (alone (with_fails fails d) r))
          → IsAlone (without_old_of g rs e) r (after_owns (set_up (merged_run (run_with g d) news) r) (pieces r) (new_of news r) (alone (with_fails fails d) r))
      old_alone [] e x = x
      old_alone (q ∷ rs) e x = old_alone rs (without_old_flights (state_at g e q) q e) (record { past = x.past; fails = x.fails; contents = x.contents; parts = x.parts })
