-- What the proof of `served::giving_told` needs beside the tactics.
use Rattle.std.proofs.Common.{Bool, not, ◌&&◌, [], false, sym, ap, subst, ◌∙◌}
use Rattle.std.specs.Prelude.{slice_get}
use Rattle.std.specs.Option.{option_copied}
use Rattle.node_model.specs.Ends.{End}
use Rattle.node_model.specs.SessionStep.{is_filled}
use Rattle.step_judging.specs.Same.{same_lines}
use Rattle.step_judging.specs.Told.{is_served}
use Rattle.step_effects.specs.declared.sending.EndAt.{EndAt}
use Rattle.step_state.specs.States.{IsStateOf}
use Rattle.step_state.specs.declared.state.RepoState.{RepoState}
use Rattle.session_makes.proofs.MakingLemmas.{given, served_by}
use Rattle.session_makes.proofs.served.giving_told.Goals as goal

pub returns : goal.returns
returns c = λ s st words more same is none taken sent.
    let f = c.args.frame.now in
    let got = served_by (is_served s (f.peer, f.slot)) (slice_get c.args.repos.now s.number) c.in-Some.repo.now (sym (ap option_copied c.in-Some.is) ∙ c.server.ensures s st same is) in
    let x = c.scene_at-scene.result in
    let so = c.scene_at-scene.ensures in
    let was = c.server_end-was.ensures s st is in
    let passes = ap (λ (d : End). not f.up && d.opened) (sym was) ∙ sym c.sends_unasked.ensures ∙ c.if-not-sends_unasked.false in
    let end : End → EndAt = λ d. record { peer = f.peer; slot = f.slot; client = false; was = d } in
    c.tells.ensures
    ∙ ap (λ (b : Bool). b && same_lines [] x.told.now.lines) (c.gives.ensures (is_filled s st) s st (subst (λ (y : RepoState). IsStateOf y s st) (sym so.state) is))
    ∙ given s st words c.args.told.now f none got.0 more taken sent passes x (so.at ∙ c.end_at.ensures ∙ ap end was) so.told (so.here s st words same is got.1)
