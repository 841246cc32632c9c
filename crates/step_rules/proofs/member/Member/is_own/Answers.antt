-- What the proof of `member::Member::is_own` needs beside the tactics.
use Rattle.std.proofs.Common.{ap, subst, sym, ◌∙◌}
use Rattle.state_reads.specs.Reads.{HadPaths}
use Rattle.job_makes.specs.Turns.{word_in}
use Rattle.step_rules.specs.Members.{paths_for}
use Rattle.step_rules.proofs.Members.{had_kept, kept_for, own_other, own_told, state_kept}
use Rattle.step_rules.proofs.Rules.{ok_map}
use Rattle.step_rules.proofs.member.Member.is_own.Goals as goal

pub returns-then-branch : goal.returns-then-branch
returns-then-branch c = λ s st words same known seated alone is.
    let m = c.args.self.now in
    let e = c.args.entry.now in
    own_told c.makers_tell.ensures m s st words e (word_in c.words_at_end-words.result.now) known seated is (λ d. c.words_at_end-words.ensures words d is.heard) c.in_ok-told.field-0
    (c.in_ok-told.ensures (kept_for m s) st same (subst (HadPaths (kept_for m s) e.kind) (sym (c.of-paths.ensures ∙ ap (paths_for m.paths) c.job_of.ensures)) (had_kept m s e.kind))
    (state_kept m s st words is) alone)
    c.if-branch.true

pub returns : goal.returns
returns c = ok_map c.comes.result _ _ (λ b may. λ s st words same known seated alone is.
    let m = c.args.self.now in
    let e = c.args.entry.now in
    own_other c.makers_tell.ensures m s st words e (word_in c.words_at_end-words.result.now) known seated is (λ d. c.words_at_end-words.ensures words d is.heard) c.in_ok-told.field-0 b
    (c.in_ok-told.ensures (kept_for m s) st same (subst (HadPaths (kept_for m s) e.kind) (sym (c.of-paths.ensures ∙ ap (paths_for m.paths) c.job_of.ensures)) (had_kept m s e.kind))
    (state_kept m s st words is) alone)
    c.if-branch.false (may s st same is.state)) c.comes.ensures
