-- What a node keeps by its own paths it keeps by those of the merged run.
use Rattle.std.proofs.Common.{◌≡◌, ◌⊎◌, ℕ, ◌≤◌, true, List, [], ◌∷◌, ◌++◌, Option, Some, None, inl, inr, refl, sym, ap, ◌∙◌, subst, append_assoc, arith}
use Rattle.std.specs.Prelude.{if◌then◌else◌, map, nat_le, reverse}
use Rattle.std.specs.List.{fold}
use Rattle.std.proofs.lemmas.Bool.Decides.{nat_tests}
use Rattle.std.proofs.lemmas.List.{reverse-append}
use Rattle.annex_base.specs.Lists.{Each, Member}
use Rattle.annex_base.specs.declared.kinds.Word.{Word}
use Rattle.annex_key.specs.Tree.{Entries, with_key}
use Rattle.run_data.specs.declared.entry.Entry.{Entry}
use Rattle.run_data.specs.declared.entry.EntryKind.{EntryKind}
use Rattle.run_data.specs.declared.entry.EntryKind.TheVariants.{Begin, Close, Crash}
use Rattle.run_data.specs.declared.entry.FrameView.{FrameView}
use Rattle.run_data.specs.declared.job.JobKind.{JobKind}
use Rattle.run_data.specs.declared.run.RepoView.{RepoView}
use Rattle.run_data.specs.declared.run.TreeMark.{TreeMark}
use Rattle.run_model.specs.Frames.{Way, on_way}
use Rattle.run_model.specs.Past.{begun_count}
use Rattle.run_model.specs.Run.{IsStep, OwnRun, tree_at}
use Rattle.run_model.specs.States.{state_of}
use Rattle.node_model.specs.AnyTime.{IsPeer, MayCome}
use Rattle.node_model.specs.Jobs.{Work}
use Rattle.node_model.specs.SetUp.{SetUp}
use Rattle.node_model.specs.State.{State}
use Rattle.growth_laws.specs.Merged.{IsHistory, Letter}
use Rattle.growth_laws.proofs.MergedOrder.{reverse_cons}
use Rattle.growth_laws.proofs.PathsRead.{step_paths}
use Rattle.step_facts.proofs.WorkNumbers.{number_begun}
use Rattle.driver_model.specs.Driver.{Driver, DriverInput, piece_of}
use Rattle.driver_model.proofs.Settles.{store_past}
use Rattle.block_model.specs.Alone.{AreOwnDeeds, IsOwnLine, IsOwnStep, after_own, after_owns, bytes_came, pieces_sent}
use Rattle.block_model.specs.Doings.{Doing, DoesSo, Steps, Takes, entries_of}
use Rattle.block_model.specs.Following.{effect_of, is_of_line}
use Rattle.block_model.proofs.Serving.{begun_more}

module _ (repos : List RepoView) (r : ℕ) (a b : ℕ → List (List ℕ)) where
  abbrev s : SetUp
  s = record { number = r; repos = repos; paths = a }

  abbrev t : SetUp
  t = record { number = r; repos = repos; paths = b }

  pub history_run : (got : Way → List Letter) (past : List Entry) → IsHistory (record { number = r; repos = repos; paths = a }) got past → OwnRun (record { number = r; repos = repos; paths = a }) past
  history_run got [] h = tt
  history_run got (e ∷ past) h = let x = h.0 in ((λ i. (x.words, x.does)), history_run got past h.1)

  run_before : (more past : List Entry) → OwnRun (record { number = r; repos = repos; paths = a }) (more ++ past) → OwnRun (record { number = r; repos = repos; paths = a }) past
  run_before [] past h = h
  run_before (e ∷ more) past h = run_before more past h.1

  -- the history has this past, and the paths are the same for all jobs that it began
  module _ (hist : List Entry) (own : OwnRun (record { number = r; repos = repos; paths = a }) hist) (same : (j : ℕ) → j ≤ begun_count hist r → b j ≡ a j) where
    same_works : (more past : List Entry) → hist ≡ more ++ past → (w : Work) → Member w (state_of (record { number = r; repos = repos; paths = a }) past).works → b w.number ≡ a w.number
    same_works more past is w m =
        let here = number_begun (record { number = r; repos = repos; paths = a }) past (run_before more past (subst (OwnRun (record { number = r; repos = repos; paths = a })) is own)) w m in
        let up = begun_more r more past in
        let k : begun_count hist r ≡ begun_count (more ++ past) r = ap (λ zs. begun_count zs r) is in
        same w.number (omega (arith, here, up, k))

    step_to : (more past : List Entry) → hist ≡ more ++ past → (words : ℕ → Option Word) (e : Entry) → IsStep (record { number = r; repos = repos; paths = a }) past words e → IsStep (record { number = r; repos = repos; paths = b }) past words e
    step_to more past is words e x = record {
      look = x.look;
      made = x.made;
      makes = step_paths (record { number = r; repos = repos; paths = a }) (state_of (record { number = r; repos = repos; paths = a }) past) x.look b (same_works more past is) ∙ x.makes;
      is = x.is;
      words_are = x.words_are;
      part_small = x.part_small;
    }

    pub does_to : (was : ℕ) (ds : List Doing) (past : List Entry) → hist ≡ reverse (entries_of ds) ++ past → DoesSo (record { number = r; repos = repos; paths = a }) was past ds → DoesSo (record { number = r; repos = repos; paths = b }) was past ds
    does_to was [] past is x = tt
    does_to was (Takes line es ∷ ds) past is x = (
      x.0,
      x.1,
      does_to was ds (reverse es ++ past)
          (is ∙ ap (λ zs. zs ++ past) (reverse-append es (entries_of ds)) ∙ append_assoc (reverse (entries_of ds)) (reverse es) past) x.2,
    )
    does_to was (Steps e ∷ ds) past is x =
        let turned : hist ≡ (reverse (entries_of ds) ++ e ∷ []) ++ past = is ∙ ap (λ zs. zs ++ past) (reverse_cons e (entries_of ds)) in
        ((x.0.0, step_to (reverse (entries_of ds) ++ e ∷ []) past turned x.0.0 e x.0.1), does_to was ds (e ∷ past) (turned ∙ append_assoc (reverse (entries_of ds)) (e ∷ []) past) x.1)

    peer_to : (kind : JobKind) (peer : Option ℕ) → IsPeer (record { number = r; repos = repos; paths = a }) kind peer → IsPeer (record { number = r; repos = repos; paths = b }) kind peer
    peer_to kind None h = h
    peer_to kind (Some peer) h = h

    come_to : (st : State) (lines : List (List ℕ)) (sent : List FrameView) (kind : EntryKind) → is_of_line kind ≡ true → MayCome (record { number = r; repos = repos; paths = a }) st lines sent kind
        → MayCome (record { number = r; repos = repos; paths = b }) st lines sent kind
    come_to st lines sent (Begin job what) i h = let m = h.0 in (record { number_is = m.number_is; slot_free = m.slot_free; peer = peer_to what.kind what.peer m.peer; valid = m.valid }, h.1, h.2)
    come_to st lines sent (Close peer slot client) i h = h
    come_to st lines sent (Crash clock) i h = h
    come_to st lines sent kind i h = absurd (cc)

    pub deeds_to : (g : DriverInput) (got : Way → List Letter) (pieces : Way → List (List ℕ)) (es : List Entry) (d : Driver) → hist ≡ reverse es ++ d.past
        → AreOwnDeeds g (record { number = r; repos = repos; paths = a }) got pieces d es → AreOwnDeeds g (record { number = r; repos = repos; paths = b }) got pieces d es
    deeds_to g got pieces [] d is x = tt
    deeds_to g got pieces (e ∷ es) d is x = (
      record { does = does x.0.does; answers = x.0.answers; came = x.0.came },
      deeds_to g got pieces es (after_own (record { number = r; repos = repos; paths = a }) pieces e d) (turned ∙ append_assoc (reverse es) (e ∷ []) d.past ∙ ap (λ zs. reverse es ++ zs) (sym past_is)) x.1,
    )
      where
        past_is : (after_own (record { number = r; repos = repos; paths = a }) pieces e d).past ≡ e ∷ d.past
        past_is = store_past (state_of (record { number = r; repos = repos; paths = a }) d.past) r (effect_of e) (bytes_came pieces d.past r e.taken) e.kind (record d { past = e ∷ d.past })

        turned : hist ≡ (reverse es ++ e ∷ []) ++ d.past
        turned = is ∙ ap (λ zs. zs ++ d.past) (reverse_cons e es)

        does : IsOwnStep g (record { number = r; repos = repos; paths = a }) got d e ⊎ IsOwnLine (record { number = r; repos = repos; paths = a }) d e
            → IsOwnStep g (record { number = r; repos = repos; paths = b }) got d e ⊎ IsOwnLine (record { number = r; repos = repos; paths = b }) d e
        does (inl y) = inl (record {
          look = y.look;
          made = y.made;
          makes = step_paths (record { number = r; repos = repos; paths = a }) (state_of (record { number = r; repos = repos; paths = a }) d.past) y.look b (same_works (reverse es ++ e ∷ []) d.past turned) ∙ y.makes;
          is = y.is;
          part_is = y.part_is;
          right_is = y.right_is;
          tells = y.tells;
        })
        does (inr y) = inr (record { kind = y.kind; comes = record { may = come_to (state_of (record { number = r; repos = repos; paths = a }) d.past) e.lines e.sent e.kind y.kind y.comes.may; takes_none = y.comes.takes_none } })

  pub pieces_to : (pieces : Way → List (List ℕ)) (w : Way) (es : List Entry) (d : Driver) → pieces_sent (record { number = r; repos = repos; paths = a }) pieces w es d ≡ pieces_sent (record { number = r; repos = repos; paths = b }) pieces w es d
  pieces_to pieces w [] d = refl
  pieces_to pieces w (e ∷ es) d = ap (λ zs. map (λ f. piece_of d (state_of (record { number = r; repos = repos; paths = a }) d.past) r f f.body) (on_way w e) ++ zs)
      (pieces_to pieces w es (after_own (record { number = r; repos = repos; paths = a }) pieces e d))

  pub owns_to : (pieces : Way → List (List ℕ)) (es : List Entry) (d : Driver) → after_owns (record { number = r; repos = repos; paths = a }) pieces es d ≡ after_owns (record { number = r; repos = repos; paths = b }) pieces es d
  owns_to pieces [] d = refl
  owns_to pieces (e ∷ es) d = owns_to pieces es (after_own (record { number = r; repos = repos; paths = a }) pieces e d)

-- ---- the paths of the merged run

-- the tree stays as it is past all marks
pub tree_later : (marks : List TreeMark) (n m : ℕ) → n ≤ m → Each (λ k. k.place ≤ n) marks → tree_at marks m ≡ tree_at marks n
tree_later marks n m l all = go marks [] all
  where
    go : (ms : List TreeMark) (tree : Entries) → Each (λ k. k.place ≤ n) ms
        → fold (λ tree k. if nat_le k.place m then with_key tree k.path k.key else tree) tree ms ≡ fold (λ tree k. if nat_le k.place n then with_key tree k.path k.key else tree) tree ms
    go [] tree all = refl
    go (k ∷ ms) tree all =
        let low = all.0 in
        let one : nat_le k.place m ≡ true = grind (arith, nat_tests) in
        let two : nat_le k.place n ≡ true = grind (arith, nat_tests) in
        rw (one, two) (go ms (with_key tree k.path k.key) all.1)
