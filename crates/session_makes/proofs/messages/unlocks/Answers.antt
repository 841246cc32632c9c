-- What the proof of `messages::unlocks` needs beside the tactics.
use Rattle.std.proofs.Common.{Bool, [], ◌∷◌, refl, ap, ◌∙◌}
use Rattle.std.specs.Prelude.{if◌then◌else◌}
use Rattle.annex_base.specs.declared.kinds.Call.TheVariants.{Unhold}
use Rattle.run_data.specs.declared.entry.EntryKind.TheVariants.{Release}
use Rattle.node_model.specs.SessionStep.{silent_reply, tries, unexpected_reply}
use Rattle.session_makes.specs.Scenes.{here_in, is_reply}
use Rattle.session_makes.proofs.messages.unlocks.Goals as goal

pub returns : goal.returns
returns c = λ filled.
    let h = here_in c.args.scene.now filled in
    let released = silent_reply (Release c.args.hold c.args.key.now) in
    let r = tries h (Unhold ∷ []) [] released in
    c.or_unexpected.ensures filled r (c.tries-good.ensures filled (Unhold ∷ []) [] released refl c.is_silent.ensures c.releases-released.ensures)
    ∙ ap (λ (b : Bool). is_reply c.args.scene.now (if b then r else unexpected_reply h)) c.eq.ensures
