-- What a drop does by an answer that it takes; for private contracts (own).
use Rattle.std.specs.Prelude.{ℕ, Some}
use Rattle.run_data.specs.declared.entry.FrameView.{FrameView}
use Rattle.p2p_wire.specs.declared.message.Message.TheVariants.{CheckPresent}
use Rattle.node_model.specs.DropStep.{takes_time}
use Rattle.node_model.specs.Jobs.{side_of}
use Rattle.node_model.specs.JobStep.{Turn, hears, key_of, says_to, talk, wrong_message}
use Rattle.node_model.specs.Look.{Effect}
use Rattle.drop_makes.specs.declared.answers.Answer.{Answer}
use Rattle.drop_makes.specs.declared.answers.Answer.TheVariants as answers

abbrev pub step_by : Answer → Turn → FrameView → ℕ → Effect
step_by answers.Heard t f peer = hears t f
step_by answers.Unlocked t f peer = says_to t (talk t) (Some f) peer (CheckPresent (key_of t))
step_by (answers.Timed n) t f peer = takes_time t f peer n (side_of t.w)
step_by answers.Wrong t f peer = wrong_message t f peer
