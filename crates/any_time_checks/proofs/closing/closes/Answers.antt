-- What the proof of `closing::closes` needs beside the tactics.
use Rattle.std.proofs.Common.{Bool, ap, sym, ◌∙◌, [], ◌∷◌}
use Rattle.std.specs.Prelude.{◌&&◌, length}
use Rattle.run_data.specs.declared.entry.FrameText.TheVariants.{Closing}
use Rattle.node_model.specs.Ends.{EndName, frames}
use Rattle.step_judging.specs.Rules.{is_nil}
use Rattle.step_judging.specs.Same.{same_frames}
use Rattle.any_time_checks.specs.Coming.{is_there}
use Rattle.any_time_checks.proofs.CloseLemmas.{tells_close}
use Rattle.any_time_checks.proofs.closing.closes.Goals as goal

pub returns : goal.returns
returns c = λ s st same are.
    let a : EndName = record { peer = c.args.peer; slot = c.args.slot; client = c.args.client } in
    let was = c.end-was.result in
    let sent = c.args.sent.now in
    let lines = is_nil c.args.lines.now in
    c.is_closed.ensures
    ∙ ap (λ (b : Bool). b && was.opened && lines && same_frames (frames a was (Closing ∷ [])) sent)
    (c.is_there.ensures c.args.client ∙ ap (λ n. is_there n (length c.args.repos.now) a) (sym (c.number.ensures s st are)) ∙ ap (λ rs. is_there s.number (length rs) a) (sym same))
    ∙ tells_close c.ends.result.now s st a was lines sent (c.ends.ensures s st are) c.end-was.ensures
