-- Phases in which bytes come: what a piece and a verdict let follow.
use Rattle.session_state.specs.Answers.{as_said}
use Rattle.std.proofs.Common.{◌≡◌, ℕ, ◌≤◌, ◌<◌, ◌++◌, true, List, map, Option, Some, None, refl, sym, ap, subst, ◌∙◌}
use Rattle.std.specs.Prelude.{nat_lt, nat_le}
use Rattle.std.specs.Option.{option_map}
use Rattle.std.proofs.lemmas.Bool.{le-leb, lt-ltb}
use Rattle.std.proofs.lemmas.Option.{same_Some}
use Rattle.annex_base.proofs.Conditions.{bytes_eq-refl}
use Rattle.run_data.specs.declared.entry.By.{By}
use Rattle.run_data.specs.declared.entry.EntryKind.{EntryKind}
use Rattle.run_data.specs.declared.entry.EntryKind.TheVariants.{Talk}
use Rattle.run_data.specs.declared.row.Hold.{Hold}
use Rattle.p2p_wire.specs.declared.message.Message.{Message}
use Rattle.p2p_wire.specs.declared.message.Message.TheVariants as messages
use Rattle.object_store.specs.Stores.{AreShort, AreSmallParts, Parts, with_at}
use Rattle.node_model.specs.Rows.{keep_of}
use Rattle.node_model.specs.Sessions as sessions
use Rattle.node_model.specs.SessionStep.{Here, on_bytes, silent_reply}
use Rattle.content_lock.specs.Tokens.{Owns, ShareView}
use Rattle.session_state.specs.declared.doing.Doing.{Doing}
use Rattle.session_state.specs.declared.doing.Doing.TheVariants as doings
use Rattle.session_state.specs.declared.doing.Taking.{Taking}
use Rattle.session_state.specs.declared.incoming.Incoming.TheVariants as incoming
use Rattle.session_state.specs.Phases.{IsLonger, IsTook}
use Rattle.session_state.specs.Talking.{parts_after, share_in}

longer : (t : Taking) (p p' : Parts) (piece : List ℕ) → p' ≡ with_at p t.fill (p t.fill ++ piece) → AreShort p' → IsLonger (doings.Takes t) p p' piece
longer t p p' piece is short = (ap (λ (q : Parts). q t.fill) is ∙ at_key, short t.fill)
  where
    at_key : with_at p t.fill (p t.fill ++ piece) t.fill ≡ p t.fill ++ piece
    at_key = rw (bytes_eq-refl t.fill) refl

-- the store's part has the piece more
pub longer_so : (d : Doing) (t : Taking) (known known' : Option Parts) (piece : List ℕ) → d ≡ doings.Takes t
    → known' ≡ option_map (λ (p : Parts). with_at p t.fill (p t.fill ++ piece)) known → AreSmallParts known'
    → (p : Parts) → known ≡ Some p → (p' : Parts) → known' ≡ Some p' → IsLonger d p p' piece
longer_so d t known known' piece has grown small p is p' is' =
    let told : p' ≡ with_at p t.fill (p t.fill ++ piece) = same_Some _ _ (sym is' ∙ grown ∙ ap (option_map (λ (q : Parts). with_at q t.fill (q t.fill ++ piece))) is) in
    subst (λ (x : Doing). IsLonger x p p' piece) (sym has) (longer t p p' piece told (small p' is'))

pub piece_taken : (h : Here) (key : List ℕ) (size left n : ℕ) → h.fails ≡ None → 0 < n → n ≤ left → silent_reply (Talk None) ≡ as_said (on_bytes h n (sessions.Takes key size left))
piece_taken h key size left n f some fits =
    let a : nat_lt 0 n ≡ true = lt-ltb 0 n some in
    let b : nat_le n left ≡ true = le-leb n left fits in
    rw (a, b, f) refl

-- ---- the verdict

took_none : (d : Doing) → IsTook d → share_in d ≡ None
took_none (doings.Took t) p = refl
took_none d p = absurd p

-- a session that took bytes guards nothing, so each hold of its owner is kept
pub nothing_kept : (by : By) (d : Doing) (holds : List Hold) → IsTook d → Owns by (share_in d) holds → map (keep_of by) holds ≡ holds
nothing_kept by d holds p own = let mine : Owns by None holds = subst (λ (s : Option ShareView). Owns by s holds) (took_none d p) own in mine.kept

-- the parts stay at each message but VALID
pub parts_stay : (d : Doing) (m : Message) (kind : EntryKind) (known : Option Parts) → (m ≡ messages.Valid → ⊥) → parts_after d (incoming.Message m) kind known ≡ known
parts_stay (doings.Took t) messages.Valid kind known other = absurd (other refl)
parts_stay d m kind known other = refl
