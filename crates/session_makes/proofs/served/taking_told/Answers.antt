-- What the proof of `served::taking_told` needs beside the tactics.
use Rattle.std.proofs.Common.{Bool, ◌&&◌, [], false, sym, ap, subst, ◌∙◌}
use Rattle.std.specs.Prelude.{slice_get}
use Rattle.std.specs.Option.{option_copied}
use Rattle.node_model.specs.Ends.{End, end_takes, may_take}
use Rattle.step_judging.specs.Same.{same_lines}
use Rattle.step_judging.specs.Told.{is_served}
use Rattle.step_effects.specs.declared.sending.EndAt.{EndAt}
use Rattle.step_state.specs.States.{IsStateOf}
use Rattle.step_state.specs.declared.state.RepoState.{RepoState}
use Rattle.session_makes.proofs.MakingLemmas.{answered, passed_by, served_by}
use Rattle.session_makes.proofs.served.taking_told.Goals as goal

pub returns-then-not-takes_frame : goal.returns-then-not-takes_frame
returns-then-not-takes_frame c = λ s st words same is none taken.
    let f = c.args.frame.now in
    let got = served_by (is_served s (f.peer, f.slot)) (slice_get c.args.repos.now s.number) c.in-Some.repo.now (sym (ap option_copied c.in-Some.is) ∙ c.server.ensures s st same is) in
    let was = c.server_end-was.ensures s st is in
    sym (passed_by s st words c.args.told.now f none got.0 taken (ap (λ (d : End). f.up && may_take d f) (sym was) ∙ sym c.takes_frame.ensures ∙ c.if-not-takes_frame.true))

pub returns : goal.returns
returns c = λ s st words same is none taken.
    let f = c.args.frame.now in
    let got = served_by (is_served s (f.peer, f.slot)) (slice_get c.args.repos.now s.number) c.in-Some.repo.now (sym (ap option_copied c.in-Some.is) ∙ c.server.ensures s st same is) in
    let x = c.scene_at-scene.result in
    let so = c.scene_at-scene.ensures in
    let was = c.server_end-was.ensures s st is in
    let passes = ap (λ (d : End). f.up && may_take d f) (sym was) ∙ sym c.takes_frame.ensures ∙ c.if-not-takes_frame.false in
    let end : End → EndAt = λ d. record { peer = f.peer; slot = f.slot; client = false; was = d } in
    let at = so.at ∙ c.end_at-end.ensures ∙ ap end (c.after_taking.ensures ∙ ap (λ (d : End). end_takes d f.epoch f.body) was) in
    let here_is = subst (λ (y : RepoState). IsStateOf y s st) (sym so.state) is in
    c.tells.ensures
    ∙ ap (λ (b : Bool). b && same_lines [] x.told.now.lines) (c.in_ok-answered.ensures s st (same ∙ sym so.repos) here_is)
    ∙ answered s st words c.args.told.now f none got.0 taken passes x at so.told (so.here s st words same is got.1)
