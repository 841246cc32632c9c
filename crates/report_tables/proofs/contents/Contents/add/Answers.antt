-- What the proof of `contents::Contents::add` needs beside the tactics.
use Rattle.std.proofs.Common.{◌≡◌, ◌<◌, ℕ, List, ◌∙◌, Bool, get_or, ap, arith, length, length-set, slice_index_or}
use Rattle.std.specs.BTreeSet.{BTreeSet, btree_set_len, contains}
use Rattle.std.proofs.lemmas.List.{get_or_default}
use Rattle.std.proofs.lemmas.Result.{err_from_is_err_and}
use Rattle.node_model.specs.Rows.{present_after}
use Rattle.report_tables.specs.Before.{total_after}
use Rattle.report_tables.specs.Contents.{count_of, key_cmp, no_keys, knows}
use Rattle.report_tables.proofs.Tables.{count_kept, count_noted, knows_noted, knows_kept}
use Rattle.report_tables.proofs.contents.Contents.add.Goals as goal

-- what the set at the place was
was : (sets : List (BTreeSet (List ℕ))) (i : ℕ) (s : BTreeSet (List ℕ)) (key : List ℕ) → i < length sets → s ≡ get_or sets i s → contains key_cmp s key ≡ knows sets i key
was sets i s key within e = ap (λ (x : BTreeSet (List ℕ)). contains key_cmp x key) (e ∙ get_or_default sets i s no_keys within)

was_count : (sets : List (BTreeSet (List ℕ))) (i : ℕ) (s : BTreeSet (List ℕ)) → i < length sets → s ≡ get_or sets i s → btree_set_len s ≡ count_of sets i
was_count sets i s within e = ap btree_set_len (e ∙ get_or_default sets i s no_keys within)

was_set : (sets : List (BTreeSet (List ℕ))) (i : ℕ) (s : BTreeSet (List ℕ)) → i < length sets → s ≡ get_or sets i s → s ≡ slice_index_or sets i no_keys
was_set sets i s within e = e ∙ get_or_default sets i s no_keys within

pub returns-in_err-change-clause-err : goal.returns-in_err-change-clause-err
returns-in_err-change-clause-err c =
    let p = err_from_is_err_and c.from_residual.result c.from_residual.ensures.1 in
    let sets = c.args.self.now.sets.items in
    let within : c.in-Some.repo < length sets = omega arith in
    rw p.1 (λ n past tracks. record {
      number_is = length-set sets c.in-Some.repo c.change.new.keys ∙ tracks.number_is;
      known = λ r key below. knows_kept sets c.in-Some.repo c.change.new.keys r key within
          (c.in_err-change.ensures.err key ∙ was sets c.in-Some.repo c.index_mut.result.now key within c.index_mut.ensures.value) ∙ tracks.known r key below;
      count = λ r below. count_kept sets c.in-Some.repo c.change.new.keys r within
          (c.in_err-change.ensures.err_count ∙ was_count sets c.in-Some.repo c.index_mut.result.now within c.index_mut.ensures.value) ∙ tracks.count r below;
    })

pub returns-in_ok-change-clause-ok : goal.returns-in_ok-change-clause-ok
returns-in_ok-change-clause-ok c n past tracks =
    let sets = c.args.self.now.sets.items in
    let within : c.in-Some.repo < length sets = omega arith in
    record {
      number_is = length-set sets c.in-Some.repo c.change.new.keys ∙ tracks.number_is;
      known = λ r key below. knows_noted sets c.in-Some.repo c.change.new.keys past c.args.entry.now r key c.in-Some.is within
          (c.in_ok-change.ensures.ok key ∙ ap (λ (b : Bool). present_after key b c.args.entry.now.kind) (was sets c.in-Some.repo c.index_mut.result.now key within c.index_mut.ensures.value))
          (tracks.known r key below);
      count = λ r below. count_noted sets c.in-Some.repo c.change.new.keys past c.args.entry.now r c.in-Some.is within
          (c.in_ok-change.ensures.count ∙ ap (λ (s : BTreeSet (List ℕ)). total_after (contains key_cmp s) (btree_set_len s) c.args.entry.now.kind) (was_set sets c.in-Some.repo c.index_mut.result.now within c.index_mut.ensures.value))
          (λ key. tracks.known r key below) (tracks.count r below);
    }
