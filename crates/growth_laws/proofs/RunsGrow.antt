-- A run grows by one more entry, and its tree by one more mark; and each repository of a run keeps its history.
use Rattle.std.proofs.Common.{◌≡◌, ℕ, zero, suc, ◌+◌, ◌<◌, ◌≤◌, Bool, true, false, List, [], ◌∷◌, ◌++◌, length, Option, Some, None, refl, sym, ap, ◌∙◌, subst, arith, append_assoc, append-nil}
use Rattle.std.proofs.lemmas.List.{length-reverse, map-append, reverse-append}
use Rattle.std.proofs.lemmas.List.Sums.{fold-append}
use Rattle.std.specs.Prelude.{filter, ◌==◌, map, nat_le, reverse, slice_get, if◌then◌else◌}
use Rattle.annex_base.specs.declared.kinds.Word.{Word}
use Rattle.annex_key.specs.Tree.{paths_of, with_key}
use Rattle.annex_base.specs.Lists.{Each}
use Rattle.annex_base.proofs.Lists.{slice_get-left}
use Rattle.run_data.specs.declared.entry.Entry.{Entry}
use Rattle.run_data.specs.declared.entry.EntryKind.{EntryKind}
use Rattle.run_data.specs.declared.entry.EntryKind.TheVariants.{Begin}
use Rattle.run_data.specs.declared.entry.FrameView.{FrameView}
use Rattle.run_data.specs.declared.run.Run.{Run}
use Rattle.run_data.specs.declared.run.TreeMark.{TreeMark}
use Rattle.run_model.specs.Past.{Always, begun_count, is_of}
use Rattle.run_model.specs.Frames.{MayTake, Way, flying_frame, on_way, sender_of, frames_sent, taken_count, way_of}
use Rattle.past_facts.proofs.OwnPasts.{mine}
use Rattle.run_model.specs.Run.{FramesPart, IsRun, OnlyWaits, MayBe, ComesInOrder, OwnPart, RunPast, RunStep, paths_at, paths_begun, set_up, tree_at}
use Rattle.growth_laws.specs.Merged.{IsHistory, IsHistoryStep, Letter, MayMerge, TakesNext, history, letter_of, letters}
use Rattle.step_facts.proofs.JobNumbers.{begins_next}
use Rattle.growth_laws.proofs.OwnParts.{part_alone, part_whole}
use Rattle.growth_laws.proofs.PathsRead.{with_paths}
use Rattle.growth_laws.proofs.HistoriesGrow.{SamePaths, part_paths, same_before}
use Rattle.step_facts.proofs.Flights.{Sending, sending}
use Rattle.past_facts.proofs.OwnRuns.{own_past}
use Rattle.past_facts.proofs.Told.{taker_way}
use Rattle.growth_laws.proofs.MergedOrder.{occurs_before}
use Rattle.growth_laws.proofs.MergedRuns.{filter_reverse, letters_own, Reads, ReadsIts, always_of, take_own, words_are}
use Rattle.step_facts.proofs.Plain.{option_same}

-- ---- one more entry

-- the part of an entry, where a repository's set-up has other paths for jobs that haven't begun
may_paths : (run : Run) → IsRun run → (p : ℕ → ℕ → List (List ℕ)) (past : List Entry) (e : Entry) → RunPast (set_up run) past → ((r : ℕ) → e.repo ≡ Some r → SamePaths (set_up run r) (p r) past)
    → (who : Option ℕ) → e.repo ≡ who → MayBe (set_up run) past e who → MayBe (λ r. with_paths (set_up run r) (p r)) past e who
may_paths run is p past e steps same None who h = h
may_paths run is p past e steps same (Some r) who h = (h.0, part_paths (set_up run r) (p r) past h.0 e (own_past run is.repos r past steps).run (same r who) h.1, h.2)

pub run_paths : (run : Run) → IsRun run → (p : ℕ → ℕ → List (List ℕ)) (past : List Entry) → RunPast (set_up run) past → ((r : ℕ) → SamePaths (set_up run r) (p r) past) → RunPast (λ r. with_paths (set_up run r) (p r)) past
run_paths run is p [] h same = tt
run_paths run is p (e ∷ past) h same =
    let before : (r : ℕ) → SamePaths (set_up run r) (p r) past = λ r. same_before (set_up run r) (p r) e past (same r) in
    (record { order = h.0.order; may = may_paths run is p past e h.1 (λ r who. before r) e.repo refl h.0.may }, run_paths run is p past h.1 before)

-- an entry that comes next: its paths are the same for the jobs that have begun
next_paths : (run : Run) (e : Entry) → RunStep (set_up run) (reverse run.entries) e → (r : ℕ) → SamePaths (set_up run r) (paths_at run.tree (e ∷ reverse run.entries) r) (reverse run.entries)
next_paths run e step r j l = go (is_of r e) refl
  where
    past : List Entry
    past = reverse run.entries

    part : e.repo ≡ Some r → (words : ℕ → Option Word) × OwnPart (set_up run r) past words e
    part who = let m : MayBe (set_up run) past e (Some r) = subst (λ (o : Option ℕ). MayBe (set_up run) past e o) who step.may in (m.0, m.1)

    not_begun : is_of r e ≡ true → (was : List (List ℕ)) (kind : EntryKind) → e.kind ≡ kind → paths_begun run.tree (length past) j was kind ≡ was
    not_begun is was (Begin job what) k =
        let x = part (option_same e.repo r is) in
        let next : job ≡ begun_count past r + 1 = begins_next (set_up run r) past x.0 e x.1 job what k in
        let other : (job == j) ≡ false = grind arith in
        rw other refl
    not_begun is was kind k = refl

    go : (b : Bool) → is_of r e ≡ b → paths_at run.tree (e ∷ past) r j ≡ paths_at run.tree past r j
    go true is = rw is (not_begun is (paths_at run.tree past r j) e.kind refl)
    go false is = rw is refl

-- an entry that may come next makes the run a run with one more entry
pub turn_added : (run : Run) (e : Entry) → IsRun run → RunStep (set_up run) (reverse run.entries) e → IsRun (record run { entries = run.entries ++ e ∷ [] })
turn_added run e is step = record { repos = is.repos; steps = subst (RunPast (set_up more)) (sym (reverse-append run.entries (e ∷ []))) (subst (λ s. RunPast s (e ∷ past)) set_up_is grown) }
  where
    past : List Entry
    past = reverse run.entries

    more : Run
    more = record run { entries = run.entries ++ e ∷ [] }

    p : ℕ → ℕ → List (List ℕ)
    p r = paths_at run.tree (e ∷ past) r

    same : (r : ℕ) → SamePaths (set_up run r) (p r) past
    same = next_paths run e step

    grown : RunPast (λ r. with_paths (set_up run r) (p r)) (e ∷ past)
    grown = (record { order = step.order; may = may_paths run is p past e is.steps (λ r who. same r) e.repo refl step.may }, run_paths run is p past is.steps same)

    set_up_is : (λ r. with_paths (set_up run r) (p r)) ≡ set_up more
    set_up_is i r = record { number = r; repos = run.repos; paths = paths_at run.tree (sym (reverse-append run.entries (e ∷ [])) i) r }

may_turn : (run : Run) (e : Entry) (r : ℕ) (words : ℕ → Option Word) → e.repo ≡ Some r → OwnPart (set_up run r) (mine r (reverse run.entries)) words e → FramesPart (reverse run.entries) r words e
    → (who : Option ℕ) → e.repo ≡ who → MayBe (set_up run) (reverse run.entries) e who
may_turn run e r words is own frames (Some q) who =
    let same : r ≡ q = (let k : Some r ≡ Some q = sym is ∙ who in cc) in
    subst (λ (x : ℕ). MayBe (set_up run) (reverse run.entries) e (Some x)) same (words, part_whole (set_up run r) (reverse run.entries) words e own, frames)
may_turn run e r words is own frames None who = let k : Some r ≡ None = sym is ∙ who in absurd (cc)

-- a turn of one repository: by its own history, what it takes, and its place in the order
pub own_turn_added : (run : Run) (e : Entry) (r : ℕ) (words : ℕ → Option Word) → IsRun run → e.repo ≡ Some r → ComesInOrder (reverse run.entries) e → OwnPart (set_up run r) (mine r (reverse run.entries)) words e
    → FramesPart (reverse run.entries) r words e → IsRun (record run { entries = run.entries ++ e ∷ [] })
own_turn_added run e r words is who order own frames = turn_added run e is (record { order = order; may = may_turn run e r words who own frames e.repo refl })

-- a wait
pub wait_added : (run : Run) (e : Entry) → IsRun run → e.repo ≡ None → ComesInOrder (reverse run.entries) e → OnlyWaits e → IsRun (record run { entries = run.entries ++ e ∷ [] })
wait_added run e is who order only = turn_added run e is (record { order = order; may = subst (λ (o : Option ℕ). MayBe (set_up run) (reverse run.entries) e o) (sym who) only })

-- ---- one more mark

module _ (marks : List TreeMark) (m : TreeMark) where
  tree_before : (place : ℕ) → place < m.place → tree_at (marks ++ m ∷ []) place ≡ tree_at marks place
  tree_before place l = fold-append (λ t x. if nat_le x.place place then with_key t x.path x.key else t) [] marks (m ∷ [])
      ∙ (let no : nat_le m.place place ≡ false = grind arith in rw no refl)

  pub paths_before : (past : List Entry) (r j : ℕ) → length past ≤ m.place → paths_at (marks ++ m ∷ []) past r j ≡ paths_at marks past r j
  paths_before [] r j l = refl
  paths_before (e ∷ past) r j l = ap (λ was. if is_of r e then paths_begun (marks ++ m ∷ []) (length past) j was e.kind else was) (paths_before past r j (omega (arith, l)))
      ∙ ap (λ x. if is_of r e then x else paths_at marks past r j) (begins (paths_at marks past r j) e.kind)
    where
      begins : (was : List (List ℕ)) (kind : EntryKind) → paths_begun (marks ++ m ∷ []) (length past) j was kind ≡ paths_begun marks (length past) j was kind
      begins was (Begin job what) = ap (λ tree. if job == j then paths_of tree what.key else was) (tree_before (length past) (omega (arith, l)))
      begins was kind = refl

-- a change of the tree at the end of a run changes nothing of its entries
pub mark_added : (run : Run) (m : TreeMark) → length run.entries ≤ m.place → IsRun run → IsRun (record run { tree = run.tree ++ m ∷ [] })
mark_added run m l is = record { repos = is.repos; steps = subst (λ s. RunPast s (reverse run.entries)) set_up_is is.steps }
  where
    set_up_is : set_up run ≡ set_up (record run { tree = run.tree ++ m ∷ [] })
    set_up_is i r = record { number = r; repos = run.repos; paths = λ j. sym (paths_before run.tree m (reverse run.entries) r j (subst (λ n. n ≤ m.place) (sym (length-reverse run.entries)) l)) i }

-- nor does the end of a command of the script
pub command_done : (run : Run) (marks : List ℕ) → IsRun run → IsRun (record run { marks = marks })
command_done run marks is = record { repos = is.repos; steps = is.steps }

-- ---- the history of each repository of a run

map_get : {X Y : Type 0} (f : X → Y) (xs : List X) (k : ℕ) (x : X) → slice_get xs k ≡ Some x → slice_get (map f xs) k ≡ Some (f x)
map_get f [] zero x h = absurd (cc)
map_get f [] (suc k) x h = absurd (cc)
map_get f (y ∷ xs) zero x h = let same : y ≡ x = cc in ap (λ z. Some (f z)) same
map_get f (y ∷ xs) (suc k) x h = map_get f xs k x h

-- what an entry adds to what its repository sent
pub letters_more : (e : Entry) (past : List Entry) (w : Way) → letters (e ∷ past) w ≡ letters past w ++ (if is_of (sender_of w) e then map letter_of (map (flying_frame e past) (on_way w e)) else [])
letters_more e past w = go (is_of (sender_of w) e)
  where
    go : (b : Bool) → map letter_of (if b then frames_sent past w ++ map (flying_frame e past) (on_way w e) else frames_sent past w) ≡ letters past w ++ (if b then map letter_of (map (flying_frame e past) (on_way w e)) else [])
    go true = map-append letter_of (frames_sent past w) (map (flying_frame e past) (on_way w e))
    go false = sym (append-nil (letters past w))

-- the letters have all that were sent in this past
abbrev From : (Way → List Letter) → List Entry → Type 0
From got past = (w : Way) → (rest : List Letter) × (got w ≡ letters past w ++ rest)

from_before : (got : Way → List Letter) (e : Entry) (past : List Entry) → From got (e ∷ past) → From got past
from_before got e past h w =
    let new : List Letter = if is_of (sender_of w) e then map letter_of (map (flying_frame e past) (on_way w e)) else [] in
    (new ++ (h w).0, (h w).1 ∙ ap (λ xs. xs ++ (h w).0) (letters_more e past w) ∙ append_assoc (letters past w) new (h w).0)

module _ (run : Run) (r : ℕ) (got : Way → List Letter) where
  may_is : (past : List Entry) (e : Entry) → RunStep (set_up run) past e → e.repo ≡ Some r → MayBe (set_up run) past e (Some r)
  may_is past e x is = subst (λ (o : Option ℕ). MayBe (set_up run) past e o) is x.may

  reads : (past : List Entry) (e : Entry) → From got past → RunStep (set_up run) past e → ReadsIts got r past e
  reads past e from x is f h =
      let t : MayTake past (way_of r f) f = (may_is past e x is).2.takes f h in
      record {
        it = t.it;
        letter = letter_of t.it;
        next = t.next;
        from = rw (← (take_own r (way_of r f) (taker_way r f) past)) (subst (λ xs. slice_get xs (taken_count past (way_of r f)) ≡ Some (letter_of t.it)) (sym (from (way_of r f)).1)
            (slice_get-left (letters past (way_of r f)) (from (way_of r f)).0 (taken_count past (way_of r f)) (letter_of t.it) (map_get letter_of (frames_sent past (way_of r f)) (taken_count past (way_of r f)) t.it t.next)));
        same = refl;
      }

  all_read : (past : List Entry) → From got past → RunPast (set_up run) past → Always (ReadsIts got r) past
  all_read [] from h = tt
  all_read (e ∷ past) from h = let before = from_before got e past from in (reads past e before h.0, all_read past before h.1)

  ordered : (past : List Entry) → RunPast (set_up run) past → Always ComesInOrder past
  ordered past h = always_of (set_up run) ComesInOrder (λ p e x. x.order) past h

  takes_next : (past : List Entry) (e : Entry) → From got past → RunPast (set_up run) (e ∷ past) → e.repo ≡ Some r → (f : FrameView) → e.taken ≡ Some f → TakesNext (got (way_of r f)) (mine r past) (way_of r f) e f
  unfolding reads
  takes_next past e from h is f took =
      let w : Way = way_of r f in
      let t : MayTake past w f = (may_is past e h.0 is).2.takes f took in
      let x : Reads got past r f = reads past e from h.0 is f took in
      let s : Sending past w t.it = sending past w (taken_count past w) t.it t.next in
      let count = take_own r w (taker_way r f) past in
      record {
        letter = letter_of t.it;
        next = x.from;
        seq_is = t.seq_is ∙ ap (λ k. k + 1) count;
        body_is = t.body_is;
        later = occurs_before past e t.it.entry t.it.before (ordered (e ∷ past) h) s.occurs;
      }

  run_kept-from : (past : List Entry) → From got past → RunPast (set_up run) past → IsHistory (set_up run r) got (mine r past)
  run_kept-from [] from h = tt
  run_kept-from (e ∷ past) from h = go (run_kept-from past before h.1) (is_of r e) refl
    where
      before : From got past
      before = from_before got e past from

      kept : e.repo ≡ Some r → IsHistoryStep (set_up run r) got (mine r past) e
      kept is = let m = may_is past e h.0 is in record {
        own = is;
        words = m.0;
        does = part_alone (set_up run r) past m.0 e m.1;
        takes = takes_next past e before h is;
        tells = λ j outcome k c. m.2.tells j outcome k c ∙ words_are got (set_up run r) j c past (all_read past before h.1);
      }

      go : IsHistory (set_up run r) got (mine r past) → (b : Bool) → is_of r e ≡ b → IsHistory (set_up run r) got (mine r (e ∷ past))
      go ih true is = rw is (kept (option_same e.repo r is), ih)
      go ih false is = rw is ih

-- each repository of a run keeps its own history, and takes the letters of the others
pub run_kept : (run : Run) → IsRun run → (r : ℕ) → IsHistory (set_up run r) (letters (reverse run.entries)) (mine r (reverse run.entries))
run_kept run is r = run_kept-from run r (letters (reverse run.entries)) (reverse run.entries) (λ w. ([], sym (append-nil (letters (reverse run.entries) w)))) is.steps

-- a block begins: nothing was added yet, and each repository has its history of the run and all letters of the others
pub block_begins : (run : Run) → IsRun run → Each (λ m. m.place ≤ length run.entries) run.tree → MayMerge run [] (λ r. letters (reverse run.entries))
block_begins run is marked = record {
  marked = marked;
  number = omega arith;
  kept = λ r l. subst (IsHistory (set_up run r) (letters (reverse run.entries))) (history_is r) (run_kept run is r);
  follow = λ r l. tt;
  came = λ r c w l took gave. record { rest = []; is = ap (λ p. letters p w) (sym (history_is c)) ∙ ap (λ n. letters (mine n (reverse run.entries)) w) (sym gave) ∙ sym (letters_own w (reverse run.entries)) ∙ sym (append-nil (letters (reverse run.entries) w)) };
}
  where
    history_is : (r : ℕ) → mine r (reverse run.entries) ≡ history run [] r
    history_is r = filter_reverse (is_of r) run.entries ∙ ap reverse (sym (append-nil (filter (is_of r) run.entries)))
