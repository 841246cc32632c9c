-- What the proof of `asked::asked_valid` needs beside the tactics.
use Rattle.std.proofs.Common.{◌≡◌, option_copied, option_map, reverse, ap, ◌∙◌}
use Rattle.crashed_jobs.specs.Looks.{asked_before, said_in}
use Rattle.crashed_jobs.proofs.Requests.{asked_is}
use Rattle.crashed_jobs.proofs.asked.asked_valid.Goals as goal

pub returns : goal.returns
returns c =
    let asked : option_map said_in (option_copied c.in_ok-asked.asked) ≡ asked_before (reverse c.args.before.now) c.args.repo c.args.frame.now =
    ap (option_map said_in) c.in_ok-asked.ensures ∙ asked_is (reverse c.args.before.now) c.args.repo c.args.frame.now c.requires in
    rw asked at c.was_valid.ensures
