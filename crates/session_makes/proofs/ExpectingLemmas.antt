-- What a session doesn't expect.
use Rattle.std.proofs.Common.{◌≡◌, ℕ, Bool, true, false, ◌==◌, List, Some, None, refl, ap}
use Rattle.std.specs.Prelude.{if◌then◌else◌, min}
use Rattle.std.proofs.lemmas.Bool.{ne_eqb}
use Rattle.run_data.specs.declared.entry.EntryKind.TheVariants.{Talk}
use Rattle.p2p_wire.specs.declared.message.Message.{Message}
use Rattle.p2p_wire.specs.declared.message.Message.TheVariants.{CheckPresent, Data, Error, Failure, Get, GetTimestamp, Invalid, LockContent, Put, Remove, RemoveBefore, Success, UnlockContent, Valid, Version}
use Rattle.node_model.specs.Sessions.{Gave, Gives, Guards, Takes, Took, Wants}
use Rattle.node_model.specs.SessionStep.{Here, gives_next, on_bytes, on_message, on_piece, on_request, reply, unexpected_reply}
use Rattle.state_sessions.specs.Doings.{doing_of}
use Rattle.state_sessions.specs.declared.doing.Doing.{Doing}
use Rattle.state_sessions.specs.declared.doing.Doing.TheVariants as doings

pub not_guarding : (h : Here) (v hold : ℕ) (key : List ℕ) (m : Message)
    → ((text : List ℕ) → m ≡ Error text → ⊥) → ((k : List ℕ) → m ≡ UnlockContent k → ⊥) → on_message h v (Guards hold key) m ≡ unexpected_reply h
not_guarding h v hold key (Error text) e u = absurd (e text refl)
not_guarding h v hold key (UnlockContent k) e u = absurd (u k refl)
not_guarding h v hold key m e u = refl

pub not_giving : (h : Here) (v : ℕ) (key : List ℕ) (at left : ℕ) (good : Bool) (m : Message)
    → ((text : List ℕ) → m ≡ Error text → ⊥) → on_message h v (Gives key at left good) m ≡ unexpected_reply h
not_giving h v key at left good (Error text) e = absurd (e text refl)
not_giving h v key at left good m e = refl

pub not_given : (h : Here) (v : ℕ) (m : Message)
    → ((text : List ℕ) → m ≡ Error text → ⊥) → (m ≡ Success → ⊥) → (m ≡ Failure → ⊥) → on_message h v Gave m ≡ unexpected_reply h
not_given h v (Error text) e s f = absurd (e text refl)
not_given h v Success e s f = absurd (s refl)
not_given h v Failure e s f = absurd (f refl)
not_given h v m e s f = refl

pub not_wanting : (h : Here) (v : ℕ) (key : List ℕ) (size : ℕ) (m : Message)
    → ((text : List ℕ) → m ≡ Error text → ⊥) → ((n : ℕ) → m ≡ Data n → ⊥) → on_message h v (Wants key size) m ≡ unexpected_reply h
not_wanting h v key size (Error text) e d = absurd (e text refl)
not_wanting h v key size (Data n) e d = absurd (d n refl)
not_wanting h v key size m e d = refl

pub not_taking : (h : Here) (v : ℕ) (key : List ℕ) (size left : ℕ) (m : Message)
    → ((text : List ℕ) → m ≡ Error text → ⊥) → on_message h v (Takes key size left) m ≡ unexpected_reply h
not_taking h v key size left (Error text) e = absurd (e text refl)
not_taking h v key size left m e = refl

pub not_taken : (h : Here) (v : ℕ) (key : List ℕ) (size : ℕ) (m : Message)
    → ((text : List ℕ) → m ≡ Error text → ⊥) → (m ≡ Valid → ⊥) → (m ≡ Invalid → ⊥) → on_message h v (Took key size) m ≡ unexpected_reply h
not_taken h v key size (Error text) e g b = absurd (e text refl)
not_taken h v key size Valid e g b = absurd (g refl)
not_taken h v key size Invalid e g b = absurd (b refl)
not_taken h v key size m e g b = refl

pub no_bytes : (h : Here) (n : ℕ) (doing : Doing) → ((key : List ℕ) (size left : ℕ) → doing ≡ doings.Takes key size left → ⊥) → on_bytes h n (doing_of doing) ≡ unexpected_reply h
no_bytes h n (doings.Takes key size left) t = absurd (t key size left refl)
no_bytes h n doing t = refl

pub no_request : (h : Here) (v : ℕ) (m : Message) → ((n : ℕ) → m ≡ Version n → ⊥) → ((k : List ℕ) → m ≡ CheckPresent k → ⊥) → ((k : List ℕ) → m ≡ LockContent k → ⊥) → ((k : List ℕ) → m ≡ Remove k → ⊥)
    → ((n : ℕ) (k : List ℕ) → m ≡ RemoveBefore n k → ⊥) → (m ≡ GetTimestamp → ⊥) → ((n : ℕ) (file k : List ℕ) → m ≡ Get n file k → ⊥) → ((file k : List ℕ) → m ≡ Put file k → ⊥)
    → on_request h v m ≡ unexpected_reply h
no_request h v (Version n) a b c d e f g p = absurd (a n refl)
no_request h v (CheckPresent k) a b c d e f g p = absurd (b k refl)
no_request h v (LockContent k) a b c d e f g p = absurd (c k refl)
no_request h v (Remove k) a b c d e f g p = absurd (d k refl)
no_request h v (RemoveBefore n k) a b c d e f g p = absurd (e n k refl)
no_request h v GetTimestamp a b c d e f g p = absurd (f refl)
no_request h v (Get n file k) a b c d e f g p = absurd (g n file k refl)
no_request h v (Put file k) a b c d e f g p = absurd (p file k refl)
no_request h v m a b c d e f g p = refl

pub gives_piece : (h : Here) (key : List ℕ) (at left : ℕ) (good : Bool) → (left ≡ 0 → ⊥) → gives_next h (Gives key at left good) ≡ Some (on_piece h key at (min 32768 left))
gives_piece h key at left good more = ap Some (go (left == 0) (ne_eqb left 0 more))
  where
    go : (b : Bool) → b ≡ false → (if b then reply (Talk None) (if good then Valid else Invalid) else on_piece h key at (min 32768 left)) ≡ on_piece h key at (min 32768 left)
    go true e = absurd (cc)
    go false e = refl
