-- The frames of a session's step, one behind the other.
use Rattle.std.proofs.Common.{◌≡◌, ℕ, true, List, length, refl}
use Rattle.run_data.specs.declared.entry.FrameText.TheVariants as texts
use Rattle.link_ring.specs.Ends.{EndView}
use Rattle.node_model.specs.Ends.{End, EndName, end_sends}
use Rattle.node_ends.specs.declared.sending.Sending.{Sending}
use Rattle.node_ends.specs.declared.sending.Sending.TheVariants as sendings
use Rattle.node_ends.specs.Sent.{IsListed, may_send, text_of_sending}
use Rattle.node_sessions.specs.Serving.{IsTalk}

pub may_talk : (links : List EndView) (a : EndName) (said : Sending) → ((line : List ℕ) → may_send links a (texts.Line line) ≡ true) → ((n : ℕ) → may_send links a (texts.Bytes n) ≡ true) → IsTalk said
    → may_send links a (text_of_sending said) ≡ true
may_talk links a sendings.Open line bytes talk = absurd talk
may_talk links a sendings.Close line bytes talk = absurd talk
may_talk links a (sendings.Line l listed) line bytes talk = line l
may_talk links a (sendings.Bytes b) line bytes talk = bytes (length b)

pub listed_talk : (said : Sending) → IsTalk said → IsListed said
listed_talk sendings.Open talk = absurd talk
listed_talk sendings.Close talk = absurd talk
listed_talk (sendings.Line l listed) talk = talk
listed_talk (sendings.Bytes b) talk = tt

pub opened_talk : (c : End) (said : Sending) → IsTalk said → (end_sends c (text_of_sending said)).opened ≡ c.opened
opened_talk c sendings.Open talk = absurd talk
opened_talk c sendings.Close talk = absurd talk
opened_talk c (sendings.Line l listed) talk = refl
opened_talk c (sendings.Bytes b) talk = refl
