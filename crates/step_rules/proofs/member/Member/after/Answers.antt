-- What the proof of `member::Member::after` needs beside the tactics.
use Rattle.std.proofs.Common.{ap, subst, sym, ◌∙◌}
use Rattle.state_reads.specs.Reads.{HadPaths}
use Rattle.step_rules.specs.Members.{paths_read}
use Rattle.step_rules.proofs.Members.{member_after}
use Rattle.step_rules.proofs.member.Member.after.Goals as goal

pub returns-clause-ok : goal.returns-clause-ok
returns-clause-ok c = λ s st words begins is.
    let m = c.args.self.now in
    let e = c.args.entry.now in
    member_after c.running_jobs_stay_the_same.ensures m (record { state = c.after.new.self; paths = c.note.new.self; words = c.note-2.new.self }) s st words e c.args.begun c.args.hears is begins
    (λ x y had. c.in_ok-after.ensures.ok x y (subst (HadPaths x e.kind) (sym (c.paths_read-paths.ensures ∙ ap (paths_read m.paths e.kind) c.as_slice.ensures)) had)) c.note.ensures c.note-2.ensures
