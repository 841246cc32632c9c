-- The first request of a job to a peer, on a connection that it opens first unless it is open.
use Rattle.std.specs.Prelude.{ℕ, if◌then◌else◌, [], ◌∷◌, Option, None}
use Rattle.run_data.specs.declared.entry.FrameView.{FrameView}
use Rattle.run_data.specs.declared.entry.FrameText.TheVariants.{Opening}
use Rattle.p2p_wire.specs.declared.message.Message.TheVariants.{Get, Put}
use Rattle.node_model.specs.Jobs.{Part, Gets, Puts, Drops, side_of}
use Rattle.node_model.specs.Look.{Effect}
use Rattle.node_model.specs.Calls.{to_resume}
use Rattle.node_model.specs.JobStep.{Turn, attempts, end_with, key_of, says_to, sends_to, talk}
use Rattle.node_model.specs.DropStep.{asks_copy}

-- the first request on an open connection, whose version is this
abbrev pub asks : Turn → ℕ → Option FrameView → ℕ → Part → Effect
asks t version taken peer Gets = attempts t (to_resume t.look.part) taken (says_to t (talk t) taken peer (Get t.look.part [] (key_of t)))
asks t version taken peer Puts = says_to t (talk t) taken peer (Put [] (key_of t))
asks t version taken peer Drops = asks_copy t version taken peer (side_of t.w)

-- the connection is opened, unless it is open
abbrev pub goes_to : Turn → ℕ → Effect
goes_to t peer = if (end_with t peer).opened then asks t t.w.version None peer t.w.part else sends_to t (talk t) None peer (Opening ∷ [])
