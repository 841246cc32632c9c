-- What the proof of `turn::Turn::heard` needs beside the tactics.
use Rattle.std.proofs.Common.{ℕ, List, ◌==◌, ap, ◌∙◌}
use Rattle.std.specs.Prelude.{find, option_map, reverse}
use Rattle.state_jobs.specs.Phases.{heard_of}
use Rattle.state_jobs.specs.declared.phase.Heard.{Heard}
use Rattle.job_makes.proofs.PartingLemmas.{heard_seen}
use Rattle.job_makes.proofs.turn.Turn.heard.Goals as goal

pub returns : goal.returns
returns c =
    ap (option_map heard_of)
    (c.heard_last.ensures ∙ ap (λ (hs : List (ℕ × Heard)). option_map (λ (x : ℕ × Heard). x.1) (find (λ (x : ℕ × Heard). x.0 == c.args.repo) (reverse hs))) c.deref.ensures.value)
    ∙ heard_seen c.args.self.now.work.now c.args.repo
