-- What a node keeps of its history, by its time, its counts and its paths, is what the merge asks of it.
use Rattle.std.proofs.Common.{◌≡◌, ℕ, ◌+◌, ◌<◌, ◌≤◌, Bool, true, false, inl, inr, List, [], ◌∷◌, ◌++◌, length, refl, sym, ap, ◌∙◌, subst, arith}
use Rattle.std.proofs.lemmas.List.{reverse-append}
use Rattle.std.specs.Prelude.{◌&&◌, ◌==◌, filter, if◌then◌else◌, reverse}
use Rattle.std.proofs.lemmas.Bool.{eqb-true}
use Rattle.annex_base.specs.Lists.{Each}
use Rattle.annex_base.proofs.Conditions.{if_either}
use Rattle.annex_key.specs.Tree.{paths_of}
use Rattle.run_data.specs.declared.entry.Entry.{Entry}
use Rattle.run_data.specs.declared.entry.EntryKind.{EntryKind}
use Rattle.run_data.specs.declared.entry.EntryKind.TheVariants.{Begin}
use Rattle.run_data.specs.declared.job.Job.{Job}
use Rattle.run_data.specs.declared.run.Run.{Run}
use Rattle.run_model.specs.Past.{Always, begun_count, is_of, now}
use Rattle.node_model.specs.Slots.{is_begin}
use Rattle.run_model.specs.Frames.{Way, sender_of, taker_of}
use Rattle.past_facts.proofs.OwnPasts.{mine}
use Rattle.node_model.specs.SetUp.{SetUp}
use Rattle.run_model.specs.Run.{ComesAfter, IsRun, ComesInOrder, paths_at, paths_begun, set_up, tree_at}
use Rattle.growth_laws.specs.Merged.{AreFirstLetters, AllComeInOrder, HasPathsIn, IsNewEntry, IsHistory, Letter, MayMerge, NodeKeeps, history, last_count, merged_run, new_of, paths_with, set_up_with}
use Rattle.growth_laws.proofs.HistoriesGrow.{kept_paths}
use Rattle.step_facts.proofs.JobNumbers.{begins_next}
use Rattle.growth_laws.proofs.OwnParts.{begun_own}
use Rattle.growth_laws.proofs.MergedOrder.{of_time}
use Rattle.growth_laws.proofs.MergedRuns.{always_of, filter_reverse, merged_runs_are_runs}

-- new entries of r, the newest first, from this time and count on
abbrev Next : ℕ → ℕ → ℕ → List Entry → Type 0
Next r t c es = Always (λ older e. IsNewEntry r t (last_count c older) e) es

pub next_follow : (r c : ℕ) (past es : List Entry) → now past ≤ 1000000000000 → last_count 0 past ≤ c → Next r (now past) c es → AllComeInOrder past es
next_follow r c past [] l m h = tt
next_follow r c past (e ∷ es) l m h = (
  record {
    after = after es h.0.rises;
    time_is = of_time (now (es ++ past)) e e.kind e.repo r h.0.own (h.0.at ∙ sym (at es h.1));
    in_time = (let k = h.0.at in omega (arith, k, l));
    counted = h.0.counted;
    small = h.0.small;
  },
  next_follow r c past es l m h.1,
)
  where
    at : (fs : List Entry) → Next r (now past) c fs → now (fs ++ past) ≡ now past
    at [] k = refl
    at (f ∷ fs) k = k.0.at

    behind : (p : List Entry) → last_count 0 p ≤ c → c < e.count → ComesAfter p e
    behind [] m k = tt
    behind (f ∷ p) m k = inr (inl (omega arith))

    after : (fs : List Entry) → last_count c fs < e.count → ComesAfter (fs ++ past) e
    after [] k = behind past m k
    after (f ∷ fs) k = inr (inl k)

-- the end of a run is in time
pub ends_in_time : (past : List Entry) → Always ComesInOrder past → now past ≤ 1000000000000
ends_in_time [] h = omega arith
ends_in_time (e ∷ past) h = h.0.in_time

-- ---- the paths

-- each begun job has its paths
paths_same : (run : Run) (r : ℕ) (paths : ℕ → List (List ℕ)) (got : Way → List Letter) (old : List Entry) (was : ℕ → List (List ℕ)) → ((j : ℕ) → j ≤ begun_count old r → was j ≡ paths j)
    → (es : List Entry) → Each (HasPathsIn (tree_at run.tree (length run.entries)) paths) es → IsHistory (record { number = r; repos = run.repos; paths = paths }) got (es ++ old)
    → (j : ℕ) → j ≤ begun_count (es ++ old) r → paths_with run.tree (length run.entries) was es j ≡ paths j
paths_same run r paths got old was before [] h k j l = before j l
paths_same run r paths got old was before (e ∷ es) h k j l = go e.kind refl l (λ m. paths_same run r paths got old was before es h.1 k.1 j m)
  where
    s : SetUp
    s = record { number = r; repos = run.repos; paths = paths }

    rest : List (List ℕ)
    rest = paths_with run.tree (length run.entries) was es j

    begins : (job : ℕ) (what : Job) → e.kind ≡ Begin job what → job ≡ begun_count (es ++ old) r + 1
    begins job what is = let x = k.0 in begins_next s (es ++ old) x.words e x.does job what is

    one_more : (b : Bool) (n : ℕ) → j ≤ (if b then n + 1 else n) → j ≤ n + 1
    one_more true n l = l
    one_more false n l = omega (arith, l)

    same : (b : Bool) (n : ℕ) → b ≡ false → j ≤ (if b then n + 1 else n) → j ≤ n
    same true n is l = absurd (cc)
    same false n is l = l

    and_no : (b : Bool) → (b && false) ≡ false
    and_no true = refl
    and_no false = refl

    go : (kind : EntryKind) → e.kind ≡ kind → j ≤ (if is_of r e && is_begin kind then begun_count (es ++ old) r + 1 else begun_count (es ++ old) r) → (j ≤ begun_count (es ++ old) r → rest ≡ paths j)
        → paths_begun run.tree (length run.entries) j rest kind ≡ paths j
    go (Begin job what) is l ih = if_either (λ x. x ≡ paths j) (job == j) (paths_of (tree_at run.tree (length run.entries)) what.key) rest
        (λ at. sym (h.0 job what is) ∙ ap paths (eqb-true job j at))
        (λ other. ih (let n = begins job what is in let m = one_more (is_of r e && true) (begun_count (es ++ old) r) l in grind arith))
    go kind is l ih = ih (same (is_of r e && false) (begun_count (es ++ old) r) (and_no (is_of r e)) l)

-- ---- the nodes

-- of nodes that each keep their own, and each two of which took what came, the histories may be merged
pub nodes_may_merge : (run : Run) (news : List (List Entry)) (c : ℕ) (paths : ℕ → ℕ → List (List ℕ)) (got : ℕ → Way → List Letter) → IsRun run
    → Each (λ m. m.place ≤ length run.entries) run.tree → length news ≤ length run.repos → last_count 0 (reverse run.entries) ≤ c
    → ((r : ℕ) → r < length run.repos → NodeKeeps run news r c (paths r) (got r))
    → ((r q : ℕ) (w : Way) → r < length run.repos → taker_of w ≡ r → sender_of w ≡ q → AreFirstLetters (got r w) (history run news q) w)
    → MayMerge run news got
nodes_may_merge run news c paths got old marked number past_count keeps came = record {
  marked = marked;
  number = number;
  kept = λ r l. kept r (keeps r l);
  follow = λ r l. next_follow r c (reverse run.entries) (reverse (new_of news r)) (ends_in_time (reverse run.entries) (always_of (set_up run) ComesInOrder (λ p e x. x.order) (reverse run.entries) old.steps)) past_count (keeps r l).next;
  came = came;
}
  where
    history_is : (r : ℕ) → history run news r ≡ reverse (new_of news r) ++ mine r (reverse run.entries)
    history_is r = reverse-append (filter (is_of r) run.entries) (new_of news r) ∙ ap (λ es. reverse (new_of news r) ++ es) (sym (filter_reverse (is_of r) run.entries))

    kept : (r : ℕ) → NodeKeeps run news r c (paths r) (got r) → IsHistory (set_up_with run news r) (got r) (history run news r)
    kept r x = kept_paths (record { number = r; repos = run.repos; paths = paths r }) (set_up_with run news r).paths (got r) (history run news r)
        (λ j l. paths_same run r (paths r) (got r) (mine r (reverse run.entries)) (paths_at run.tree (reverse run.entries) r) (λ i m. x.before i (subst (λ n. i ≤ n) (sym (begun_own r (reverse run.entries))) m))
        (reverse (new_of news r)) x.given (subst (λ es. IsHistory (record { number = r; repos = run.repos; paths = paths r }) (got r) es) (history_is r) x.kept)
        j (subst (λ es. j ≤ begun_count es r) (history_is r) l))
        x.kept

-- and merged they are a run
pub nodes_merge : (run : Run) (news : List (List Entry)) (c : ℕ) (paths : ℕ → ℕ → List (List ℕ)) (got : ℕ → Way → List Letter) → IsRun run
    → Each (λ m. m.place ≤ length run.entries) run.tree → length news ≤ length run.repos → last_count 0 (reverse run.entries) ≤ c
    → ((r : ℕ) → r < length run.repos → NodeKeeps run news r c (paths r) (got r))
    → ((r q : ℕ) (w : Way) → r < length run.repos → taker_of w ≡ r → sender_of w ≡ q → AreFirstLetters (got r w) (history run news q) w)
    → IsRun (merged_run run news)
nodes_merge run news c paths got old marked number past_count keeps came =
    merged_runs_are_runs run news got old (nodes_may_merge run news c paths got old marked number past_count keeps came)
