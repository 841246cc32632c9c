-- The parts of the line, one after the other; and what the walk counts is what each repository has.
use Rattle.std.proofs.Common.{◌≡◌, ℕ, ◌+◌, ◌<◌, List, [], ◌∷◌, ◌++◌, length, ap, arith, ◌∙◌}
use Rattle.std.specs.Prelude.{codes}
use Rattle.std.specs.List.{range_with_len}
use Rattle.annex_base.proofs.Lists.{Each-weaker}
use Rattle.annex_base.proofs.Numbers.{range_below}
use Rattle.run_data.specs.declared.run.RepoView.{RepoView}
use Rattle.run_text.specs.Words.{joined_text}
use Rattle.report_tables.specs.Before.{total_at}
use Rattle.report_tables.specs.Contents.{count_of}
use Rattle.report_text.specs.Report.{total_word}
use Rattle.report_text.proofs.JoinedWords.{in_order, joined_alike}
use Rattle.report_text.proofs.totals.put_totals.Goals as goal

pub returns : goal.returns
returns c = λ place stands.
    let run = c.args.run.now in
    let sets = c.args.walk.now.contents.sets.items in
    let n : ℕ = length run.repos in
    let all : 0 + n ≡ n = omega arith in
    let numbers = c.deref.ensures.value ∙ (c.in_ok-numbers.ensures ∙ ap (λ (repos : List RepoView). range_with_len 0 (length repos)) c.as_slice-repos.ensures) in
    let alike : joined_text 32 (λ r. total_word run.repos r (count_of sets r)) (range_with_len 0 n) ≡ joined_text 32 (λ r. total_word run.repos r (total_at run place r)) (range_with_len 0 n) =
    joined_alike (λ r. total_word run.repos r (count_of sets r)) (λ r. total_word run.repos r (total_at run place r)) 32 (range_with_len 0 n)
    (Each-weaker (λ r. r < n) (λ r. total_word run.repos r (count_of sets r) ≡ total_word run.repos r (total_at run place r))
    (λ r below. ap (λ (count : ℕ). total_word run.repos r count) (stands.knows.contents.count r below)) (range_with_len 0 n) (range_below 0 n n all)) in
    let words : joined_text 32 (λ r. total_word c.as_slice-repos.result.now r (count_of sets r)) c.deref.result.now ≡ joined_text 32 (λ r. total_word run.repos r (total_at run place r)) (range_with_len 0 n) =
    ap (λ (repos : List RepoView). joined_text 32 (λ r. total_word repos r (count_of sets r)) c.deref.result.now) c.as_slice-repos.ensures
    ∙ (ap (joined_text 32 (λ r. total_word run.repos r (count_of sets r))) numbers ∙ alike) in
    c.in_ok-push.ensures.items
    ∙ (ap (λ (text : List ℕ). text ++ 10 ∷ []) (c.in_ok-put_joined.ensures.ok
    ∙ (ap (λ (text : List ℕ). text ++ joined_text 32 (λ r. total_word c.as_slice-repos.result.now r (count_of sets r)) c.deref.result.now) c.in_ok-extend_from_slice.ensures.items
    ∙ ap (λ (text : List ℕ). (c.args.out.now.items ++ codes "totals ") ++ text) words))
    ∙ in_order c.args.out.now.items (codes "totals ") (joined_text 32 (λ r. total_word run.repos r (total_at run place r)) (range_with_len 0 n)) (10 ∷ []))
