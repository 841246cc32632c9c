-- What the proof of `shown::first` needs beside the tactics.
use Rattle.std.proofs.Common.{◌≡◌, ◌∙◌, ap, arith, length, min, take}
use Rattle.report_text.proofs.Firsts.{take_min}
use Rattle.report_text.proofs.shown.first.Goals as goal

pub returns : goal.returns
returns g c =
    let at : c.min.result ≡ min c.args.count (length c.args.items.now) = omega arith in
    c.split_at.ensures.front ∙ ap (λ n. take n c.args.items.now) at ∙ take_min c.args.items.now c.args.count
