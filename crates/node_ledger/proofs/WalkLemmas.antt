-- A call that goes over a list, by one change of the ledger for each element.
use Rattle.std.proofs.Common.{◌≡◌, ℕ, ◌+◌, ◌<◌, Option, Some, Result, Ok, Err, OnOk, Bool, true, false, if◌then◌else◌, List, [], ◌∷◌, ◌++◌, take, drop, length, get_or, refl, sym, subst, ◌∙◌, ap}
use Rattle.std.specs.Prelude.{nat_lt}
use Rattle.std.specs.List.{fold}
use Rattle.std.proofs.lemmas.List.{take-append-drop}
use Rattle.std.proofs.lemmas.List.Sums.{fold_more}
use Rattle.annex_base.specs.declared.kinds.Call.TheVariants.{PutFile}
use Rattle.run_data.specs.declared.entry.EntryKind.TheVariants.{Compact}
use Rattle.run_data.specs.declared.entry.LogFile.{LogFile}
use Rattle.run_data.specs.Files.{file_of, file_path, kind_of}
use Rattle.log_lines.specs.declared.entry.LogKind.{LogKind}
use Rattle.log_lines.specs.Newest.{current_lines}
use Rattle.node_model.specs.Files.{compact_lines}
use Rattle.union_merge.specs.Branch.{lines_at, with_file}
use Rattle.union_merge.specs.LineSet.{difference}
use Rattle.node_past.specs.declared.refused.NodeRefused.{NodeRefused}
use Rattle.node_ledger.specs.Ledgers.{with_entry, LedgerView}
use Rattle.node_ledger.specs.Logs.{with_lines, with_log}
use Rattle.node_ledger.specs.Refusals.{RefusesSo}
use Rattle.node_ledger.specs.Walks.{StopsAfter, compact_file, current, merge_file, over}

-- ---- a change that doesn't look at the store

if_over : {K : Type 0} (k : K) (b : Bool) (x y : LedgerView K) → (if b then over k x else over k y) ≡ over k (if b then x else y)
if_over k true x y = refl
if_over k false x y = refl

pub compact_over : {K : Type 0} (k : K) (n : LedgerView K) (file : LogFile) → compact_file (over k n) file ≡ over k (compact_file n file)
compact_over k n file =
    if_over k (nat_lt (length (current n file)) (length (lines_at n.branch (file_path file))))
    (with_entry n n.keeper (with_file n.branch (file_path file) (current n file)) (Compact file) []) n

log_over : {K : Type 0} (k : K) (n : LedgerView K) (file : LogFile) (new : List (List ℕ)) → with_log (over k n) k file new ≡ over k (with_log n n.keeper file new)
log_over k n file [] = refl
log_over k n file (line ∷ lines) = refl

pub merge_over : {K : Type 0} (k : K) (n : LedgerView K) (f : List ℕ × List (List ℕ)) → merge_file (over k n) f ≡ over k (merge_file n f)
merge_over k n f = log_over k n (file_of f.0) (difference f.1 (lines_at n.branch (file_path (file_of f.0))))

-- ---- element by element

pub step_more : {K X : Type 0} (step : LedgerView K → X → LedgerView K) → ((k : K) (n : LedgerView K) (x : X) → step (over k n) x ≡ over k (step n x))
    → (start now next : LedgerView K) (all : List X) (i : ℕ) (d : X) → i < length all → now ≡ over now.keeper (fold step start (take i all))
    → next ≡ over next.keeper (step now (get_or all i d)) → next ≡ over next.keeper (fold step start (take (i + 1) all))
step_more {K} step blind start now next all i d below is does =
    does ∙ ap (λ (m : LedgerView K). over next.keeper (step m (get_or all i d))) is
    ∙ ap (λ (m : LedgerView K). over next.keeper m) (blind now.keeper (fold step start (take i all)) (get_or all i d))
    ∙ ap (λ (m : LedgerView K). over next.keeper m) (sym (fold_more step start all i d below))

pub stops : {K X : Type 0} (done_with : List X → LedgerView K) (all : List X) (e : NodeRefused) (was now : LedgerView K) (i : ℕ) → was ≡ over was.keeper (done_with (take i all)) → RefusesSo e PutFile was now → StopsAfter done_with all e now
stops {K} done_with all e was now i is refused = record {
  done = take i all;
  left = drop i all;
  whole = sym (take-append-drop i all);
  keeper = was.keeper;
  refused = subst (λ (m : LedgerView K). RefusesSo e PutFile m now) is refused;
}

-- ---- one file that is compacted, or has no outdated lines

shrinks_is : {K : Type 0} (n : LedgerView K) (file : LogFile) (kind : LogKind) (lines : List (List ℕ)) (b : Bool) → kind_of file ≡ Some kind → lines ≡ lines_at n.branch (file_path file)
    → b ≡ nat_lt (length (current_lines kind lines)) (length lines) → nat_lt (length (current n file)) (length (lines_at n.branch (file_path file))) ≡ b
shrinks_is n file kind lines b of_kind at is =
    ap (λ (ls : List (List ℕ)). nat_lt (length (compact_lines (kind_of file) ls)) (length ls)) (sym at)
    ∙ ap (λ (o : Option LogKind). nat_lt (length (compact_lines o lines)) (length lines)) of_kind ∙ sym is

pub not_shrunk : {K : Type 0} (n : LedgerView K) (path : List ℕ) (file : LogFile) (kind : LogKind) (lines : List (List ℕ)) (b : Bool) → file ≡ file_of path → kind_of file ≡ Some kind → lines ≡ lines_at n.branch (file_path file)
    → b ≡ nat_lt (length (current_lines kind lines)) (length lines) → b ≡ false → n ≡ over n.keeper (compact_file n (file_of path))
not_shrunk {K} n path file kind lines b named of_kind at is isnt =
    let test = shrinks_is n file kind lines b of_kind at is ∙ isnt in
    ap (λ (t : Bool). over n.keeper (if t then with_entry n n.keeper (with_file n.branch (file_path file) (current n file)) (Compact file) [] else n)) (sym test)
    ∙ ap (λ (f : LogFile). over n.keeper (compact_file n f)) named

pub ok_compacted : {K : Type 0} (r : Result (Unit {0}) NodeRefused) (n m : LedgerView K) (path : List ℕ) (file : LogFile) (kind : LogKind) (lines : List (List ℕ)) (b : Bool) → file ≡ file_of path → kind_of file ≡ Some kind → lines ≡ lines_at n.branch (file_path file)
    → b ≡ nat_lt (length (current_lines kind lines)) (length lines) → b ≡ true
    → OnOk r (m ≡ with_entry n m.keeper (with_file n.branch (file_path file) (current n file)) (Compact file) []) → OnOk r (m ≡ over m.keeper (compact_file n (file_of path)))
ok_compacted {K} (Ok x) n m path file kind lines b named of_kind at is so ok =
    let test = shrinks_is n file kind lines b of_kind at is ∙ so in
    ok ∙ ap (λ (t : Bool). over m.keeper (if t then with_entry n n.keeper (with_file n.branch (file_path file) (current n file)) (Compact file) [] else n)) (sym test)
    ∙ ap (λ (f : LogFile). over m.keeper (compact_file n f)) named
ok_compacted (Err e) n m path file kind lines b named of_kind at is so ok = tt

-- ---- one file that is merged

over_log : {K : Type 0} (n m : LedgerView K) (file : LogFile) (new : List (List ℕ)) → m ≡ with_log n m.keeper file new → m ≡ over m.keeper (with_log n n.keeper file new)
over_log {K} n m file [] is = ap (λ (v : LedgerView K). over m.keeper v) is
over_log n m file (line ∷ lines) is = is

pub ok_merged : {K : Type 0} (r : Result (Unit {0}) NodeRefused) (n m : LedgerView K) (path : List ℕ) (file : LogFile) (lines : List (List ℕ)) → file ≡ file_of path
    → OnOk r (m ≡ with_lines n m.keeper file lines) → OnOk r (m ≡ over m.keeper (merge_file n (path, lines)))
ok_merged {K} (Ok x) n m path file lines named ok =
    over_log n m file (difference lines (lines_at n.branch (file_path file))) ok ∙ ap (λ (f : LogFile). over m.keeper (with_lines n n.keeper f lines)) named
ok_merged (Err e) n m path file lines named ok = tt

-- ---- file by file, as an iterator gives them

-- so far it has gone over some of all, and the rest is left
pub record Went {K X : Type 0} (step : LedgerView K → X → LedgerView K) (start now : LedgerView K) (all rest : List X) : Type 0 where
  pub done : List X
  pub whole : all ≡ done ++ rest
  pub is : now ≡ over now.keeper (fold step start done)

fold_one : {K X : Type 0} (step : LedgerView K → X → LedgerView K) (start : LedgerView K) (xs : List X) (x : X) → fold step start (xs ++ x ∷ []) ≡ step (fold step start xs) x
fold_one step start [] x = refl
fold_one step start (y ∷ ys) x = fold_one step (step start y) ys x

append_one : {X : Type 0} (xs : List X) (x : X) (ys : List X) → xs ++ (x ∷ ys) ≡ (xs ++ x ∷ []) ++ ys
append_one [] x ys = refl
append_one (z ∷ zs) x ys = ap (λ w. z ∷ w) (append_one zs x ys)

pub went_on : {K X : Type 0} (step : LedgerView K → X → LedgerView K) → ((k : K) (n : LedgerView K) (x : X) → step (over k n) x ≡ over k (step n x))
    → (start now next : LedgerView K) (all : List X) (x : X) (rest : List X) → Went step start now all (x ∷ rest) → next ≡ over next.keeper (step now x) → Went step start next all rest
went_on {K} step blind start now next all x rest w does = record {
  done = w.done ++ x ∷ [];
  whole = w.whole ∙ append_one w.done x rest;
  is = does ∙ ap (λ (m : LedgerView K). over next.keeper (step m x)) w.is
      ∙ ap (λ (m : LedgerView K). over next.keeper m) (blind now.keeper (fold step start w.done) x)
      ∙ ap (λ (m : LedgerView K). over next.keeper m) (sym (fold_one step start w.done x));
}

pub went_stops : {K X : Type 0} (step : LedgerView K → X → LedgerView K) (start was now : LedgerView K) (all rest : List X) (e : NodeRefused) → Went step start was all rest → RefusesSo e PutFile was now → StopsAfter (λ xs. fold step start xs) all e now
went_stops {K} step start was now all rest e w refused = record {
  done = w.done;
  left = rest;
  whole = w.whole;
  keeper = was.keeper;
  refused = subst (λ (m : LedgerView K). RefusesSo e PutFile m now) w.is refused;
}
