-- What the proof of `requests::gives` needs beside the tactics.
use Rattle.std.proofs.Common.{ℕ, [], ◌∷◌, Option, None, ap, ◌∙◌}
use Rattle.annex_base.specs.declared.kinds.Call.TheVariants.{Size}
use Rattle.run_data.specs.declared.entry.EntryKind.TheVariants.{Talk}
use Rattle.run_data.specs.declared.entry.FrameText.TheVariants.{Closing}
use Rattle.p2p_wire.specs.declared.message.Message.TheVariants.{Data}
use Rattle.node_model.specs.SessionStep.{Reply, bytes_left, reply, tries}
use Rattle.state_rows.specs.Rows.{size_of}
use Rattle.session_makes.specs.Scenes.{here_in, is_reply}
use Rattle.session_makes.proofs.requests.gives.Goals as goal

pub returns : goal.returns
returns c = λ filled file.
    let x = c.args.scene.now in
    let given : Option ℕ → Reply = λ size. tries (here_in x filled) (Size ∷ []) (Closing ∷ []) (reply (Talk None) (Data (bytes_left size c.args.start))) in
    c.or_unexpected.ensures filled (given (size_of x.rows.now c.args.key.now)) (c.gives_by.ensures filled ∙ ap (λ (size : Option ℕ). is_reply x (given size)) c.size.ensures)
