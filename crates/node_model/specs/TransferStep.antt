-- The steps of a get, a copy and the transfer of a move (own, over git-annex-get, git-annex-copy and the P2P protocol).
use Rattle.std.specs.Prelude.{bytes_eq, codes, ℕ, ◌+◌, Bool, true, false, ◌&&◌, if◌then◌else◌, nat_lt, nat_le, List, [], ◌∷◌, length, Option, Some, None, slice_get}
use Rattle.annex_base.specs.declared.kinds.Call.TheVariants as calls
use Rattle.run_data.specs.declared.entry.EntryKind.TheVariants.{Gain}
use Rattle.run_data.specs.declared.entry.FrameView.{FrameView}
use Rattle.run_data.specs.declared.entry.FrameText.TheVariants.{Closing, Bytes}
use Rattle.run_data.specs.declared.job.Outcome.TheVariants.{Got, TransferRefused}
use Rattle.run_data.specs.declared.job.TransferRefusal.TheVariants as failures
use Rattle.p2p_wire.specs.declared.message.Message.{Message}
use Rattle.p2p_wire.specs.declared.message.Message.TheVariants.{AlreadyHave, Data, Error, Failure, Invalid, PutFrom, Success, Valid}
use Rattle.node_model.specs.Sessions.{reaches}
use Rattle.node_model.specs.Jobs.{Phase, GetsBytes, GetsData, GetsWord, PutsAnswer, PutsOffer, is_move}
use Rattle.node_model.specs.Look.{Effect}
use Rattle.node_model.specs.Calls.{to_commit}
use Rattle.node_model.specs.SessionStep.{bytes_left}
use Rattle.node_model.specs.JobStep.{Turn, hears, attempts, by_me, ends, key_of, quietly, says_to, sends_to, talk, wrong_message, others_of}
use Rattle.node_model.specs.Requests.{goes_to}

-- ---- a get

-- the peers that a get asks, one after the other
abbrev pub sources : Turn → Option ℕ → List ℕ
sources t (Some peer) = peer ∷ []
sources t None = others_of t

abbrev pub next_source : Turn → Option ℕ
next_source t = slice_get (sources t t.w.what.peer) (length t.w.causes)

abbrev pub first_get : Turn → Bool → Bool → Option ℕ → Effect
first_get t true filled source = if is_move t.w.what.kind then quietly (talk t) None else ends t None (Got None None)
first_get t false true source = ends t None (TransferRefused failures.Busy)
first_get t false false None = quietly (talk t) None
first_get t false false (Some peer) = goes_to t peer

abbrev pub next_get : Turn → Option ℕ → Effect
next_get t None = ends t None (TransferRefused (failures.NoSource t.w.causes))
next_get t (Some peer) = goes_to t peer

-- the bytes are there: they match the key, or don't
abbrev pub gains : Turn → FrameView → ℕ → ℕ → Bool → Effect
gains t f peer size true = says_to t (Gain (by_me t) size (key_of t)) (Some f) peer Success
gains t f peer size false = says_to t (talk t) (Some f) peer Failure

-- ---- a copy

abbrev pub content_of : Turn → Option ℕ
content_of t = t.content (key_of t)

abbrev pub first_put : Turn → Bool → Option ℕ → Effect
first_put t true (Some peer) = goes_to t peer
first_put t here peer = ends t None (TransferRefused failures.NotHere)

-- the peer has bytes up to a place; past the size, the connection is closed
abbrev pub puts_from : Turn → FrameView → ℕ → ℕ → Effect
puts_from t f peer n =
    attempts t (calls.Size ∷ []) (Some f)
    (if reaches (content_of t) n then says_to t (talk t) (Some f) peer (Data (bytes_left (content_of t) n)) else wrong_message t f peer)

-- the next piece; a content that is gone closes the connection
abbrev pub puts_piece : Turn → ℕ → ℕ → ℕ → Effect
puts_piece t peer at n =
    attempts t (calls.Read ∷ []) None
    (sends_to t (talk t) None peer ((if reaches (content_of t) (at + n) then Bytes n else Closing) ∷ []))

abbrev pub takes_bytes : Turn → FrameView → ℕ → ℕ → Phase → Effect
takes_bytes t f peer n (GetsBytes p start size left) =
    if nat_lt 0 n && nat_le n left then attempts t (calls.Append ∷ []) (Some f) (quietly (talk t) (Some f)) else wrong_message t f peer
takes_bytes t f peer n phase = wrong_message t f peer

abbrev pub takes_get : Turn → FrameView → ℕ → Phase → Message → Effect
takes_get t f peer (GetsData p start) (Data n) = hears t f
takes_get t f peer (GetsWord p start size) Valid = attempts t (to_commit t.look.right) (Some f) (gains t f peer size t.look.right)
takes_get t f peer (GetsWord p start size) Invalid = says_to t (talk t) (Some f) peer Failure
takes_get t f peer phase m = wrong_message t f peer

abbrev pub takes_put : Turn → FrameView → ℕ → Phase → Message → Effect
takes_put t f peer (PutsOffer p) AlreadyHave = hears t f
takes_put t f peer (PutsOffer p) Failure = hears t f
takes_put t f peer (PutsOffer p) (Error text) = if bytes_eq text (codes "busy") then hears t f else wrong_message t f peer
takes_put t f peer (PutsOffer p) (PutFrom n) = puts_from t f peer n
takes_put t f peer (PutsAnswer p start) Success = hears t f
takes_put t f peer (PutsAnswer p start) Failure = hears t f
takes_put t f peer phase m = wrong_message t f peer
