-- The calls of a walk over files, of which each is written or isn't.
use Rattle.std.proofs.Common.{◌≡◌, ℕ, ◌+◌, ◌<◌, ◌≤◌, Bool, true, false, ◌||◌, if◌then◌else◌, List, [], ◌∷◌, ◌++◌, drop, length, get_or, Option, Some, None, Result, Ok, refl, sym, ◌∙◌, arith, ap, subst}
use Rattle.std.specs.Prelude.{◌==◌, nat_lt, find}
use Rattle.std.specs.List.{list_any}
use Rattle.std.specs.Option.{ForSome, option_map}
use Rattle.std.proofs.lemmas.Bool.{or_left, true≢false}
use Rattle.std.proofs.lemmas.Bool.Decides.{nat_tests}
use Rattle.std.proofs.lemmas.List.{at_drop_all, drop_more}
use Rattle.std.proofs.lemmas.List.Folds.{list_any-append}
use Rattle.annex_base.specs.declared.kinds.Call.{Call}
use Rattle.annex_base.specs.declared.kinds.Call.TheVariants.{PutFile}
use Rattle.run_data.specs.declared.entry.EntryKind.TheVariants.{Compact}
use Rattle.run_data.specs.declared.entry.LogFile.{LogFile}
use Rattle.run_data.specs.Files.{file_of, file_path, kind_of}
use Rattle.log_lines.specs.declared.entry.LogKind.{LogKind}
use Rattle.log_lines.specs.Newest.{current_lines}
use Rattle.node_model.specs.Files.{compact_lines}
use Rattle.union_merge.specs.Branch.{lines_at, with_file}
use Rattle.union_merge.specs.LineSet.{difference}
use Rattle.node_past.specs.declared.refused.NodeRefused.{NodeRefused}
use Rattle.node_past.specs.declared.refused.NodeRefused.TheVariants as refusals
use Rattle.content_lock.specs.CallsMade.{MakesCalls, fewer}
use Rattle.node_past.specs.Calls.{Makes, StopsIn, to_write}
use Rattle.node_ledger.specs.Calls.{lacks_of, lacks_some, shrinks, shrinks_at, to_log}
use Rattle.node_ledger.specs.Logs.{with_log}
use Rattle.node_ledger.specs.Ledgers.{with_entry, LedgerView}
use Rattle.node_ledger.specs.Refusals.{RefusesSo}
use Rattle.node_ledger.specs.Walks.{compact_file, current, merge_file, over}
use Rattle.node_past.proofs.CallLemmas.{Failing, all_well, makes_none, makes_then}

-- So far a walk has gone over some of all. It has written a file where one of these was to be written, and else the repository is as it was.
pub record Wrote {K X : Type 0} (test : LedgerView K → X → Bool) (start now : LedgerView K) (all rest : List X) (before after : Failing) : Type 0 where
  pub done : List X
  pub whole : all ≡ done ++ rest
  pub calls : MakesCalls (to_write (list_any (test start) done)) None before after
  pub same : list_any (test start) done ≡ false → now ≡ over now.keeper start

-- a test that doesn't look at the store
abbrev pub IsBlind : {K X : Type 0} → (LedgerView K → X → Bool) → Type 0
IsBlind {K} {X} test = (k : K) (n : LedgerView K) (x : X) → test (over k n) x ≡ test n x

-- the first that is to be written is tested as at the start
tested : {K X : Type 0} (test : LedgerView K → X → Bool) (start now : LedgerView K) (x : X) → IsBlind test → now ≡ over now.keeper start → test now x ≡ test start x
tested {K} test start now x blind is = ap (λ (n : LedgerView K). test n x) is ∙ blind now.keeper start x

or_of : (a b : Bool) → a ≡ false → (a || b) ≡ b
or_of a b e = ap (λ (x : Bool). x || b) e

any_one : {X : Type 0} (p : X → Bool) (xs : List X) (x : X) → list_any p (xs ++ x ∷ []) ≡ (list_any p xs || p x)
any_one p xs x = list_any-append p xs (x ∷ []) ∙ ap (λ (b : Bool). list_any p xs || b) (or_none (p x))
  where
    or_none : (b : Bool) → (b || false) ≡ b
    or_none true = refl
    or_none false = refl

append_one : {X : Type 0} (xs : List X) (x : X) (ys : List X) → xs ++ (x ∷ ys) ≡ (xs ++ x ∷ []) ++ ys
append_one [] x ys = refl
append_one (z ∷ zs) x ys = ap (λ w. z ∷ w) (append_one zs x ys)

-- one more is done
pub wrote_more : {K X : Type 0} (test : LedgerView K → X → Bool) (start now next : LedgerView K) (all : List X) (x : X) (rest : List X) (before mid after : Failing) → IsBlind test
    → Wrote test start now all (x ∷ rest) before mid → MakesCalls (to_write (test now x)) None mid after → (test now x ≡ false → next ≡ over next.keeper now) → Wrote test start next all rest before after
wrote_more {K} {X} test start now next all x rest before mid after blind w more stays = record {
  done = w.done ++ x ∷ [];
  whole = w.whole ∙ append_one w.done x rest;
  calls = subst (λ (b : Bool). MakesCalls (to_write b) None before after) (sym (any_one (test start) w.done x)) (calls_on (list_any (test start) w.done) refl);
  same = λ none. same_on (list_any (test start) w.done) refl (sym (any_one (test start) w.done x) ∙ none);
} where
  calls_on : (b : Bool) → list_any (test start) w.done ≡ b → MakesCalls (to_write (list_any (test start) w.done || test start x)) None before after
  calls_on true e =
      subst (λ (b : Bool). MakesCalls (to_write b) None before after) (e ∙ sym (or_left (list_any (test start) w.done) (test start x) e))
      (subst (λ (f : Failing). MakesCalls (to_write (list_any (test start) w.done)) None before f) (sym (all_well (to_write (test now x)) mid after more)) w.calls)
  calls_on false e =
      let first = tested test start now x blind (w.same e) in
      let none : MakesCalls [] None before mid = subst (λ (b : Bool). MakesCalls (to_write b) None before mid) e w.calls in
      subst (λ (b : Bool). MakesCalls (to_write b) None before after) (first ∙ sym (or_of (list_any (test start) w.done) (test start x) e))
      (makes_then [] (to_write (test now x)) None before mid after none more)

  same_on : (b : Bool) → list_any (test start) w.done ≡ b → (list_any (test start) w.done || test start x) ≡ false → next ≡ over next.keeper start
  same_on true e none = absurd (true≢false (sym (or_left (list_any (test start) w.done) (test start x) e) ∙ none))
  same_on false e none =
      let first = tested test start now x blind (w.same e) in
      stays (first ∙ (sym (or_of (list_any (test start) w.done) (test start x) e) ∙ none)) ∙ ap (λ (n : LedgerView K). over next.keeper n) (w.same e)

-- all are done
pub wrote_all : {K X : Type 0} (test : LedgerView K → X → Bool) (start now : LedgerView K) (all rest : List X) (before after : Failing) → rest ≡ [] → Wrote test start now all rest before after → MakesCalls (to_write (list_any (test start) all)) None before after
wrote_all {K} {X} test start now all rest before after none w =
    subst (λ (xs : List X). MakesCalls (to_write (list_any (test start) xs)) None before after) (sym (w.whole ∙ (ap (λ (ys : List X). w.done ++ ys) none ∙ append_none w.done))) w.calls
  where
    append_none : (xs : List X) → xs ++ [] ≡ xs
    append_none [] = refl
    append_none (x ∷ xs) = ap (λ w. x ∷ w) (append_none xs)

-- ---- a file that isn't written

-- which failed where it was to be written
put_there : (b : Bool) (failing : Call → ℕ) → Some PutFile ≡ find (λ call. nat_lt 0 (failing call)) (to_write b) → b ≡ true
put_there true failing is = refl
put_there false failing is = absurd cc

both_found : (o : Option Call) (call : Call) → None ≡ o → Some call ≡ o → ⊥
both_found None call none some = absurd cc
both_found (Some c) call none some = absurd cc

-- where one failed, it is the first that was to be written
record FailedFirst {K X : Type 0} (test : LedgerView K → X → Bool) (start now : LedgerView K) (all : List X) (failing : Call → ℕ) : Type 0 where
  pub there : list_any (test start) all ≡ true
  pub same : now ≡ over now.keeper start
  pub fails : Some PutFile ≡ find (λ call. nat_lt 0 (failing call)) (PutFile ∷ [])

failed_first : {K X : Type 0} (test : LedgerView K → X → Bool) (start now : LedgerView K) (all : List X) (x : X) (rest : List X) (before mid after : Failing) (failing : Call → ℕ) → IsBlind test → before ≡ Some failing
    → Wrote test start now all (x ∷ rest) before mid → MakesCalls (to_write (test now x)) (Some PutFile) mid after → FailedFirst test start now all failing
failed_first {K} {X} test start now all x rest before mid after failing blind told w fails = go (list_any (test start) w.done) refl
  where
    found : Some PutFile ≡ find (λ call. nat_lt 0 (failing call)) (to_write (test now x))
    found = fails.first failing (all_well (to_write (list_any (test start) w.done)) before mid w.calls ∙ told)

    there : test now x ≡ true
    there = put_there (test now x) failing found

    here : Some PutFile ≡ find (λ call. nat_lt 0 (failing call)) (PutFile ∷ [])
    here = found ∙ ap (λ (b : Bool). find (λ call. nat_lt 0 (failing call)) (to_write b)) there

    go : (b : Bool) → list_any (test start) w.done ≡ b → FailedFirst test start now all failing
    go true e =
        absurd (both_found (find (λ call. nat_lt 0 (failing call)) (PutFile ∷ [])) PutFile (w.calls.first failing told ∙ ap (λ (b : Bool). find (λ call. nat_lt 0 (failing call)) (to_write b)) e) here)
    go false e =
        let is = w.same e in
        let so : test start x ≡ true = sym (tested test start now x blind is) ∙ there in
        record {
          there = ap (list_any (test start)) w.whole ∙ (list_any-append (test start) w.done (x ∷ rest) ∙ (or_of (list_any (test start) w.done) (list_any (test start) (x ∷ rest)) e ∙ or_left (test start x) (list_any (test start) rest) so));
          same = is;
          fails = here;
        }

pub wrote_stops : {K X : Type 0} (test : LedgerView K → X → Bool) (start now : LedgerView K) (all : List X) (x : X) (rest : List X) (e : NodeRefused) (before mid after : Failing) → IsBlind test
    → Wrote test start now all (x ∷ rest) before mid → StopsIn (to_write (test now x)) PutFile e mid after → StopsIn (to_write (list_any (test start) all)) PutFile e before after
wrote_stops test start now all x rest refusals.Full before mid after blind w stops = stops ∙ all_well (to_write (list_any (test start) w.done)) before mid w.calls
wrote_stops test start now all x rest refusals.StoreFault before mid after blind w stops = record {
  first = λ failing told.
      let f = failed_first test start now all x rest before mid after failing blind told w stops in
      f.fails ∙ sym (ap (λ (b : Bool). find (λ call. nat_lt 0 (failing call)) (to_write b)) f.there);
  left = stops.left ∙ ap (option_map (fewer (Some PutFile))) (all_well (to_write (list_any (test start) w.done)) before mid w.calls);
}
wrote_stops test start now all x rest (refusals.BadBundle at) before mid after blind w stops = stops ∙ all_well (to_write (list_any (test start) w.done)) before mid w.calls
wrote_stops test start now all x rest refusals.NoMemory before mid after blind w stops = stops ∙ all_well (to_write (list_any (test start) w.done)) before mid w.calls

-- a refusal of the repository as it was
refused_over : {K : Type 0} (k : K) (n m : LedgerView K) → RefusesSo refusals.StoreFault PutFile (over k n) m → RefusesSo refusals.StoreFault PutFile n m
refused_over k n m h = h

pub wrote_alone : {K X : Type 0} (test : LedgerView K → X → Bool) (start now next : LedgerView K) (all : List X) (x : X) (rest : List X) (e : NodeRefused) (before mid after : Failing) → IsBlind test
    → Wrote test start now all (x ∷ rest) before mid → StopsIn (to_write (test now x)) PutFile e mid after → RefusesSo e PutFile now next → e ≡ refusals.StoreFault → ForSome before (λ failing. RefusesSo refusals.StoreFault PutFile start next)
wrote_alone {K} {X} test start now next all x rest e before mid after blind w stops refused is = λ failing told.
    let f = failed_first test start now all x rest before mid after failing blind told w (subst (λ (y : NodeRefused). StopsIn (to_write (test now x)) PutFile y mid after) is stops) in
    refused_over now.keeper start next
    (subst (λ (n : LedgerView K). RefusesSo refusals.StoreFault PutFile n next) f.same (subst (λ (y : NodeRefused). RefusesSo y PutFile now next) is refused))

-- ---- by the places of a list

pub wrote_at : {K X : Type 0} (test : LedgerView K → X → Bool) (start now next : LedgerView K) (all : List X) (i : ℕ) (d x : X) (before mid after : Failing) → IsBlind test → i < length all → get_or all i d ≡ x
    → Wrote test start now all (drop i all) before mid → MakesCalls (to_write (test now x)) None mid after → (test now x ≡ false → next ≡ over next.keeper now) → Wrote test start next all (drop (i + 1) all) before after
wrote_at {K} {X} test start now next all i d x before mid after blind below is w made stays =
    wrote_more test start now next all x (drop (i + 1) all) before mid after blind
    (subst (λ (xs : List X). Wrote test start now all xs before mid) (drop_more all i d below ∙ ap (λ (y : X). y ∷ drop (i + 1) all) is) w) made stays

pub stops_at : {K X : Type 0} (test : LedgerView K → X → Bool) (start now : LedgerView K) (all : List X) (i : ℕ) (d x : X) (e : NodeRefused) (before mid after : Failing) → IsBlind test → i < length all → get_or all i d ≡ x
    → Wrote test start now all (drop i all) before mid → StopsIn (to_write (test now x)) PutFile e mid after → StopsIn (to_write (list_any (test start) all)) PutFile e before after
stops_at {K} {X} test start now all i d x e before mid after blind below is w stops =
    wrote_stops test start now all x (drop (i + 1) all) e before mid after blind
    (subst (λ (xs : List X). Wrote test start now all xs before mid) (drop_more all i d below ∙ ap (λ (y : X). y ∷ drop (i + 1) all) is) w) stops

pub alone_at : {K X : Type 0} (test : LedgerView K → X → Bool) (start now next : LedgerView K) (all : List X) (i : ℕ) (d x : X) (e : NodeRefused) (before mid after : Failing) → IsBlind test → i < length all → get_or all i d ≡ x
    → Wrote test start now all (drop i all) before mid → StopsIn (to_write (test now x)) PutFile e mid after → RefusesSo e PutFile now next → e ≡ refusals.StoreFault → ForSome before (λ failing. RefusesSo refusals.StoreFault PutFile start next)
alone_at {K} {X} test start now next all i d x e before mid after blind below is w stops refused fault =
    wrote_alone test start now next all x (drop (i + 1) all) e before mid after blind
    (subst (λ (xs : List X). Wrote test start now all xs before mid) (drop_more all i d below ∙ ap (λ (y : X). y ∷ drop (i + 1) all) is) w) stops refused fault

pub wrote_to_end : {K X : Type 0} (test : LedgerView K → X → Bool) (start now : LedgerView K) (all : List X) (i : ℕ) (before after : Failing) → length all ≤ i → Wrote test start now all (drop i all) before after → MakesCalls (to_write (list_any (test start) all)) None before after
wrote_to_end {K} {X} test start now all i before after past w = wrote_all test start now all (drop i all) before after (at_drop_all (λ (xs : List X). xs) all i past) w

-- ---- the files of a merge, and of a compaction

pub lacks_blind : {K : Type 0} (k : K) (n : LedgerView K) (f : List ℕ × List (List ℕ)) → lacks_of (over k n) f ≡ lacks_of n f
lacks_blind k n f = refl

pub shrinks_blind : {K : Type 0} (k : K) (n : LedgerView K) (path : List ℕ) → shrinks_at (over k n) path ≡ shrinks_at n path
shrinks_blind k n path = refl

some_long : (line : List ℕ) (lines : List (List ℕ)) → nat_lt 0 (length (line ∷ lines)) ≡ true
some_long line lines = grind (arith, nat_tests)

no_log : {K : Type 0} (n : LedgerView K) (keeper : K) (file : LogFile) (lines : List (List ℕ)) → nat_lt 0 (length lines) ≡ false → with_log n keeper file lines ≡ n
no_log n keeper file [] none = refl
no_log n keeper file (line ∷ lines) none = absurd (true≢false (sym (some_long line lines) ∙ none))

pub not_merged : {K : Type 0} (n : LedgerView K) (f : List ℕ × List (List ℕ)) → lacks_some n (file_of f.0) f.1 ≡ false → merge_file n f ≡ n
not_merged n f none = no_log n n.keeper (file_of f.0) (difference f.1 (lines_at n.branch (file_path (file_of f.0)))) none

pub not_compacted : {K : Type 0} (n : LedgerView K) (path : List ℕ) → shrinks n (file_of path) ≡ false → compact_file n (file_of path) ≡ n
not_compacted {K} n path none =
    let file = file_of path in
    ap (λ (b : Bool). if b then with_entry n n.keeper (with_file n.branch (file_path file) (current n file)) (Compact file) [] else n) none

-- ---- one file

lacked : {K : Type 0} (n : LedgerView K) (file : LogFile) (path : List ℕ) (lines new : List (List ℕ)) → path ≡ file_path file → new ≡ difference lines (lines_at n.branch path) → nat_lt 0 (length new) ≡ lacks_some n file lines
lacked n file path lines new here is = ap (λ (x : List (List ℕ)). nat_lt 0 (length x)) (is ∙ ap (λ (p : List ℕ). difference lines (lines_at n.branch p)) here)

-- where the file lacks none of the lines, it isn't written
pub none_logged : {K X : Type 0} (x : X) (n : LedgerView K) (file : LogFile) (path : List ℕ) (lines new : List (List ℕ)) (failing : Failing) → path ≡ file_path file → new ≡ difference lines (lines_at n.branch path) → (length new == 0) ≡ true
    → Makes {X = X} (to_log n file lines) PutFile (Ok x) failing failing
none_logged {K} {X} x n file path lines new failing here is none =
    subst (λ (b : Bool). Makes {X = X} (to_write b) PutFile (Ok x) failing failing) (sym (short (length new) none) ∙ lacked n file path lines new here is) (makes_none failing failing refl)
  where
    short : (m : ℕ) → (m == 0) ≡ true → nat_lt 0 m ≡ false
    short m e = grind (arith, nat_tests)

-- some of the lines are new: the file lacks them
pub some_lacked : {K : Type 0} (n : LedgerView K) (file : LogFile) (path : List ℕ) (lines new : List (List ℕ)) → path ≡ file_path file → new ≡ difference lines (lines_at n.branch path) → (length new == 0) ≡ false → lacks_some n file lines ≡ true
some_lacked n file path lines new here is some = sym (lacked n file path lines new here is) ∙ long (length new) some
  where
    long : (m : ℕ) → (m == 0) ≡ false → nat_lt 0 m ≡ true
    long m e = grind (arith, nat_tests)

pub some_logged : {K X : Type 0} (r : Result X NodeRefused) (n : LedgerView K) (file : LogFile) (path : List ℕ) (lines new : List (List ℕ)) (before after : Failing) → path ≡ file_path file → new ≡ difference lines (lines_at n.branch path) → (length new == 0) ≡ false
    → Makes (PutFile ∷ []) PutFile r before after → Makes (to_log n file lines) PutFile r before after
some_logged r n file path lines new before after here is some made =
    subst (λ (b : Bool). Makes (to_write b) PutFile r before after) (sym (some_lacked n file path lines new here is some)) made

-- by the names of the file and its lines
pub lacks_as : {K : Type 0} (n : LedgerView K) (file told : LogFile) (lines named : List (List ℕ)) → file ≡ told → lines ≡ named → lacks_some n file lines ≡ true → lacks_some n told named ≡ true
lacks_as n file told lines named here is lacks = ap (λ (f : LogFile). lacks_some n f named) (sym here) ∙ (ap (λ (x : List (List ℕ)). lacks_some n file x) (sym is) ∙ lacks)

pub logged_as : {K X : Type 0} (r : Result X NodeRefused) (n : LedgerView K) (file told : LogFile) (lines named : List (List ℕ)) (before after : Failing) → file ≡ told → lines ≡ named → Makes (to_log n file lines) PutFile r before after → Makes (to_log n told named) PutFile r before after
logged_as r n file told lines named before after here is made =
    subst (λ (f : LogFile). Makes (to_log n f named) PutFile r before after) here (subst (λ (x : List (List ℕ)). Makes (to_log n file x) PutFile r before after) is made)

-- a file that is no log isn't compacted
pub kept_whole : {K : Type 0} (n : LedgerView K) (path : List ℕ) (file : LogFile) (failing : Failing) → file ≡ file_of path → kind_of file ≡ None → Makes {X = Unit {0}} (to_write (shrinks n (file_of path))) PutFile (Ok tt) failing failing
kept_whole n path file failing named none =
    let lines = lines_at n.branch (file_path (file_of path)) in
    let same : shrinks n (file_of path) ≡ false = ap (λ (o : Option LogKind). nat_lt (length (compact_lines o lines)) (length lines)) (sym (ap kind_of named) ∙ none) ∙ not_less (length lines) in
    subst (λ (b : Bool). Makes {X = Unit {0}} (to_write b) PutFile (Ok tt) failing failing) (sym same) (makes_none failing failing refl)
  where
    not_less : (m : ℕ) → nat_lt m m ≡ false
    not_less m = grind (arith, nat_tests)

pub shrinks_so : {K : Type 0} (n : LedgerView K) (path : List ℕ) (file : LogFile) (kind : LogKind) (lines : List (List ℕ)) (b : Bool) → file ≡ file_of path → kind_of file ≡ Some kind → lines ≡ lines_at n.branch (file_path file)
    → b ≡ nat_lt (length (current_lines kind lines)) (length lines) → b ≡ shrinks n (file_of path)
shrinks_so n path file kind lines b named of_kind at is =
    is ∙ (ap (λ (o : Option LogKind). nat_lt (length (compact_lines o lines)) (length lines)) (sym of_kind)
    ∙ (ap (λ (ls : List (List ℕ)). nat_lt (length (compact_lines (kind_of file) ls)) (length ls)) at ∙ ap (λ (f : LogFile). shrinks n f) named))

pub shrunk_so : {K X : Type 0} (r : Result X NodeRefused) (n : LedgerView K) (path : List ℕ) (file : LogFile) (kind : LogKind) (lines : List (List ℕ)) (b : Bool) (before after : Failing) → file ≡ file_of path → kind_of file ≡ Some kind → lines ≡ lines_at n.branch (file_path file)
    → b ≡ nat_lt (length (current_lines kind lines)) (length lines) → b ≡ true → Makes (PutFile ∷ []) PutFile r before after → Makes (to_write (shrinks n (file_of path))) PutFile r before after
shrunk_so r n path file kind lines b before after named of_kind at is so made =
    subst (λ (t : Bool). Makes (to_write t) PutFile r before after) (sym so ∙ shrinks_so n path file kind lines b named of_kind at is) made

pub shrunk_none : {K : Type 0} (n : LedgerView K) (path : List ℕ) (file : LogFile) (kind : LogKind) (lines : List (List ℕ)) (b : Bool) (failing : Failing) → file ≡ file_of path → kind_of file ≡ Some kind → lines ≡ lines_at n.branch (file_path file)
    → b ≡ nat_lt (length (current_lines kind lines)) (length lines) → b ≡ false → Makes {X = Unit {0}} (to_write (shrinks n (file_of path))) PutFile (Ok tt) failing failing
shrunk_none n path file kind lines b failing named of_kind at is isnt =
    subst (λ (t : Bool). Makes {X = Unit {0}} (to_write t) PutFile (Ok tt) failing failing) (sym isnt ∙ shrinks_so n path file kind lines b named of_kind at is) (makes_none failing failing refl)
