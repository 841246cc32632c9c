-- What the proof of `messages::appends` needs beside the tactics.
use Rattle.std.proofs.Common.{Bool, [], ◌∷◌, None, refl, ap, ◌∙◌}
use Rattle.std.specs.Prelude.{if◌then◌else◌}
use Rattle.annex_base.specs.declared.kinds.Call.TheVariants.{Append}
use Rattle.run_data.specs.declared.entry.EntryKind.TheVariants.{Talk}
use Rattle.run_data.specs.declared.entry.FrameText.TheVariants.{Closing}
use Rattle.node_model.specs.SessionStep.{silent_reply, tries, unexpected_reply}
use Rattle.session_makes.specs.Scenes.{here_in, is_reply}
use Rattle.session_makes.proofs.messages.appends.Goals as goal

pub returns : goal.returns
returns c = λ filled key size.
    let h = here_in c.args.scene.now filled in
    let r = tries h (Append ∷ []) (Closing ∷ []) (silent_reply (Talk None)) in
    c.or_unexpected.ensures filled r (c.tries-good.ensures filled (Append ∷ []) (Closing ∷ []) (silent_reply (Talk None)) refl c.shuts.ensures c.hears.ensures)
    ∙ ap (λ (b : Bool). is_reply c.args.scene.now (if b then r else unexpected_reply h)) c.is_within.ensures
