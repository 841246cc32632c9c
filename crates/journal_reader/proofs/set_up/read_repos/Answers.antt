-- What the proof of `set_up::read_repos` needs beside the tactics.
use Rattle.std.proofs.Common.{◌≡◌, ◌∙◌, List, None, Some, [], sym, ap, arith}
use Rattle.std.proofs.lemmas.List.{length_push}
use Rattle.run_data.specs.declared.run.RepoView.{RepoView}
use Rattle.journal_reading.specs.Reading.{repos_in}
use Rattle.journal_reader.specs.Steps.{lines_in, next_repo}
use Rattle.journal_reader.proofs.SetUpLemmas.{repo_more, repo_end}
use Rattle.journal_reader.proofs.set_up.read_repos.Goals as goal

pub loop-repos-preserved : goal.loop-repos-preserved
loop-repos-preserved c =
    let next : Some (c.in-Some.repo, lines_in c.in-Some.after.now) ≡ next_repo c.loop-repos.repos (lines_in c.loop-repos.rest.now) = (rw c.in-Some.is at c.in_ok-repo.ensures.next) ∙ ap (λ (rs : List RepoView). next_repo rs (lines_in c.loop-repos.rest.now)) c.as_slice.ensures in
    let shorter = rw c.in-Some.is at c.in_ok-repo.ensures.shorter in
    rw c.in_ok-push.ensures.ok (record {
      repos = repo_more c.loop-repos.repos (repos_in [] (lines_in c.args.text.now)) (lines_in c.loop-repos.rest.now) (c.in-Some.repo, lines_in c.in-Some.after.now) c.loop-repos.invariant.repos (sym next);
      few = omega (arith, shorter, c.loop-repos.invariant.few, length_push c.loop-repos.repos c.in-Some.repo);
    })

pub returns-clause-repos : goal.returns-clause-repos
returns-clause-repos c =
    let none : None ≡ next_repo c.loop-repos.repos (lines_in c.loop-repos.rest.now) = (rw c.in_default.is at c.in_ok-repo.ensures.next) ∙ ap (λ (rs : List RepoView). next_repo rs (lines_in c.loop-repos.rest.now)) c.as_slice.ensures in
    sym (repo_end c.loop-repos.repos (repos_in [] (lines_in c.args.text.now)) (lines_in c.loop-repos.rest.now) c.loop-repos.invariant.repos (sym none))
