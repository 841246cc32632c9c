-- What isn't expected of a session, by its phase.
use Rattle.std.proofs.Common.{◌≡◌, ℕ, ◌<◌, ◌-◌, Bool, false, List, length, Option, refl, ap, subst, ◌∙◌}
use Rattle.std.specs.Prelude.{nat_le, nat_lt, ◌&&◌}
use Rattle.std.specs.declared.vec.Vec.{Vec}
use Rattle.std.specs.declared.alloc.Global.{Global}
use Rattle.std.proofs.lemmas.Bool.{lt-leb}
use Rattle.run_data.specs.declared.entry.EntryKind.{EntryKind}
use Rattle.run_data.specs.declared.entry.EntryKind.TheVariants.{Close}
use Rattle.p2p_wire.specs.declared.message.Message.{Message}
use Rattle.p2p_wire.specs.declared.message.Message.TheVariants as messages
use Rattle.object_store.specs.Stores.{Parts}
use Rattle.node_model.specs.Sessions as sessions
use Rattle.node_model.specs.SessionStep.{Here, on_bytes, on_message, unexpected_reply}
use Rattle.session_state.specs.declared.doing.Doing.{Doing}
use Rattle.session_state.specs.declared.doing.Doing.TheVariants as doings
use Rattle.session_state.specs.declared.doing.Taken.{Taken}
use Rattle.session_state.specs.declared.doing.Taking.{Taking}
use Rattle.session_state.specs.declared.incoming.Incoming.TheVariants as incoming
use Rattle.session_state.specs.declared.state.SessionState.{SessionState}
use Rattle.session_state.specs.Phases.{IsGave, IsGuarding, IsMoving, IsTook, IsWanting}
use Rattle.session_state.specs.Stepping.{IsUnexpected, guards_key}
use Rattle.session_state.specs.Talking.{doing_of, parts_after}
use Rattle.session_state.proofs.Moves.{parts_stay}

-- the parts stay at each message but the word on bytes that came
parts_any : (d : Doing) (m : Message) (kind : EntryKind) (known : Option Parts) → (IsTook d → m ≡ messages.Valid → ⊥) → parts_after d (incoming.Message m) kind known ≡ known
parts_any (doings.Took t) m kind known apart = parts_stay (doings.Took t) m kind known (apart tt)
parts_any (doings.Takes t) m kind known apart = refl
parts_any d m kind known apart = refl

-- a message of which this phase's answer is that it isn't expected
unexpected_so : (s : SessionState) (m : Message) → ((h : Here) → on_message h s.spoken (doing_of s.doing) m ≡ unexpected_reply h) → (IsTook s.doing → m ≡ messages.Valid → ⊥) → IsUnexpected (incoming.Message m) s
unexpected_so s m answer apart = record { answer = answer; parts = λ peer slot known. parts_any s.doing m (Close peer slot false) known apart }

-- ---- a session that waits

waits_not : (s : SessionState) (m : Message) → s.doing ≡ doings.Waits → ((h : Here) → on_message h s.spoken sessions.Waits m ≡ unexpected_reply h) → IsUnexpected (incoming.Message m) s
waits_not s m waits answer = unexpected_so s m
    (λ h. ap (λ (d : Doing). on_message h s.spoken (doing_of d) m) waits ∙ answer h)
    (λ took. absurd (subst (λ (d : Doing). IsTook d) waits took))

waits_default : (h : Here) (v : ℕ) (m : Message) → ((t : List ℕ) → m ≡ messages.Error t → ⊥) → ((n : ℕ) → m ≡ messages.Version n → ⊥) → ((k : List ℕ) → m ≡ messages.CheckPresent k → ⊥) → ((k : List ℕ) → m ≡ messages.LockContent k → ⊥)
    → ((k : List ℕ) → m ≡ messages.Remove k → ⊥) → ((n : ℕ) (k : List ℕ) → m ≡ messages.RemoveBefore n k → ⊥) → (m ≡ messages.GetTimestamp → ⊥) → ((n : ℕ) (f k : List ℕ) → m ≡ messages.Get n f k → ⊥) → ((f k : List ℕ) → m ≡ messages.Put f k → ⊥)
    → on_message h v sessions.Waits m ≡ unexpected_reply h
waits_default h v (messages.Error t) e ve c l r b g ge p = absurd (e t refl)
waits_default h v (messages.Version n) e ve c l r b g ge p = absurd (ve n refl)
waits_default h v (messages.CheckPresent k) e ve c l r b g ge p = absurd (c k refl)
waits_default h v (messages.LockContent k) e ve c l r b g ge p = absurd (l k refl)
waits_default h v (messages.Remove k) e ve c l r b g ge p = absurd (r k refl)
waits_default h v (messages.RemoveBefore n k) e ve c l r b g ge p = absurd (b n k refl)
waits_default h v messages.GetTimestamp e ve c l r b g ge p = absurd (g refl)
waits_default h v (messages.Get n f k) e ve c l r b g ge p = absurd (ge n f k refl)
waits_default h v (messages.Put f k) e ve c l r b g ge p = absurd (p f k refl)
waits_default h v m e ve c l r b g ge p = refl

pub none_waits : (s : SessionState) (m : Message) → s.doing ≡ doings.Waits → ((t : List ℕ) → m ≡ messages.Error t → ⊥) → ((n : ℕ) → m ≡ messages.Version n → ⊥) → ((k : List ℕ) → m ≡ messages.CheckPresent k → ⊥) → ((k : List ℕ) → m ≡ messages.LockContent k → ⊥)
    → ((k : List ℕ) → m ≡ messages.Remove k → ⊥) → ((n : ℕ) (k : List ℕ) → m ≡ messages.RemoveBefore n k → ⊥) → (m ≡ messages.GetTimestamp → ⊥) → ((n : ℕ) (f k : List ℕ) → m ≡ messages.Get n f k → ⊥) → ((f k : List ℕ) → m ≡ messages.Put f k → ⊥)
    → IsUnexpected (incoming.Message m) s
none_waits s m waits e v c l r b g ge p = waits_not s m waits (λ h. waits_default h s.spoken m e v c l r b g ge p)

pub low_remove : (s : SessionState) (n : ℕ) (key : List ℕ) → s.doing ≡ doings.Waits → s.spoken < 3 → IsUnexpected (incoming.Message (messages.RemoveBefore n key)) s
low_remove s n key waits low = waits_not s (messages.RemoveBefore n key) waits (λ h. rw (lt-leb 3 s.spoken low) refl)

pub low_time : (s : SessionState) → s.doing ≡ doings.Waits → s.spoken < 3 → IsUnexpected (incoming.Message messages.GetTimestamp) s
low_time s waits low = waits_not s messages.GetTimestamp waits (λ h. rw (lt-leb 3 s.spoken low) refl)

pub low_get : (s : SessionState) (n : ℕ) (file key : List ℕ) → s.doing ≡ doings.Waits → s.spoken < 1 → IsUnexpected (incoming.Message (messages.Get n file key)) s
low_get s n file key waits low = waits_not s (messages.Get n file key) waits (λ h. rw (lt-leb 1 s.spoken low) refl)

pub low_put : (s : SessionState) (file key : List ℕ) → s.doing ≡ doings.Waits → s.spoken < 1 → IsUnexpected (incoming.Message (messages.Put file key)) s
low_put s file key waits low = waits_not s (messages.Put file key) waits (λ h. rw (lt-leb 1 s.spoken low) refl)

-- ---- one that guards

guards_default : (h : Here) (v hold : ℕ) (key : List ℕ) (m : Message) → ((t : List ℕ) → m ≡ messages.Error t → ⊥) → ((k : List ℕ) → m ≡ messages.UnlockContent k → ⊥) → on_message h v (sessions.Guards hold key) m ≡ unexpected_reply h
guards_default h v hold key (messages.Error t) e u = absurd (e t refl)
guards_default h v hold key (messages.UnlockContent k) e u = absurd (u k refl)
guards_default h v hold key m e u = refl

pub none_guards : (s : SessionState) (m : Message) → IsGuarding s.doing → ((t : List ℕ) → m ≡ messages.Error t → ⊥) → ((k : List ℕ) → m ≡ messages.UnlockContent k → ⊥) → IsUnexpected (incoming.Message m) s
none_guards s m phase e u = unexpected_so s m (λ h. answer h s.doing phase) (λ took. absurd (apart s.doing phase took))
  where
    answer : (h : Here) (d : Doing) → IsGuarding d → on_message h s.spoken (doing_of d) m ≡ unexpected_reply h
    answer h (doings.Guards share) p = guards_default h s.spoken share.number share.key m e u
    answer h d p = absurd p

    apart : (d : Doing) → IsGuarding d → IsTook d → ⊥
    apart (doings.Took t) p q = p
    apart d p q = q

pub other_key : (s : SessionState) (key : List ℕ) → IsGuarding s.doing → guards_key s.doing key ≡ false → IsUnexpected (incoming.Message (messages.UnlockContent key)) s
other_key s key phase other = unexpected_so s (messages.UnlockContent key) (λ h. answer h s.doing phase other) (λ took e. absurd cc)
  where
    answer : (h : Here) (d : Doing) → IsGuarding d → guards_key d key ≡ false → on_message h s.spoken (doing_of d) (messages.UnlockContent key) ≡ unexpected_reply h
    answer h (doings.Guards share) p other = rw other refl
    answer h d p other = absurd p

-- ---- one that gives or takes bytes

moves_default : (h : Here) (v : ℕ) (d : Doing) (m : Message) → IsMoving d → ((t : List ℕ) → m ≡ messages.Error t → ⊥) → on_message h v (doing_of d) m ≡ unexpected_reply h
moves_default h v (doings.Gives g) m p e = gives h v g.key g.at (g.end - g.at) g.good m e
  where
    gives : (h : Here) (v : ℕ) (key : List ℕ) (at left : ℕ) (good : Bool) (m : Message) → ((t : List ℕ) → m ≡ messages.Error t → ⊥) → on_message h v (sessions.Gives key at left good) m ≡ unexpected_reply h
    gives h v key at left good (messages.Error t) e = absurd (e t refl)
    gives h v key at left good m e = refl
moves_default h v (doings.Takes t) m p e = takes h v t.fill t.size t.left m e
  where
    takes : (h : Here) (v : ℕ) (key : List ℕ) (size left : ℕ) (m : Message) → ((t : List ℕ) → m ≡ messages.Error t → ⊥) → on_message h v (sessions.Takes key size left) m ≡ unexpected_reply h
    takes h v key size left (messages.Error t) e = absurd (e t refl)
    takes h v key size left m e = refl
moves_default h v d m p e = absurd p

pub none_moves : (s : SessionState) (m : Message) → IsMoving s.doing → ((t : List ℕ) → m ≡ messages.Error t → ⊥) → IsUnexpected (incoming.Message m) s
none_moves s m phase e = unexpected_so s m (λ h. moves_default h s.spoken s.doing m phase e) (λ took. absurd (apart s.doing phase took))
  where
    apart : (d : Doing) → IsMoving d → IsTook d → ⊥
    apart (doings.Took t) p q = p
    apart d p q = q

-- ---- one that gave a content

gave_default : (h : Here) (v : ℕ) (m : Message) → ((t : List ℕ) → m ≡ messages.Error t → ⊥) → (m ≡ messages.Success → ⊥) → (m ≡ messages.Failure → ⊥) → on_message h v sessions.Gave m ≡ unexpected_reply h
gave_default h v (messages.Error t) e s f = absurd (e t refl)
gave_default h v messages.Success e s f = absurd (s refl)
gave_default h v messages.Failure e s f = absurd (f refl)
gave_default h v m e s f = refl

pub none_gave : (s : SessionState) (m : Message) → IsGave s.doing → ((t : List ℕ) → m ≡ messages.Error t → ⊥) → (m ≡ messages.Success → ⊥) → (m ≡ messages.Failure → ⊥) → IsUnexpected (incoming.Message m) s
none_gave s m phase e good bad = unexpected_so s m (λ h. answer h s.doing phase) (λ took. absurd (apart s.doing phase took))
  where
    answer : (h : Here) (d : Doing) → IsGave d → on_message h s.spoken (doing_of d) m ≡ unexpected_reply h
    answer h doings.Gave p = gave_default h s.spoken m e good bad
    answer h d p = absurd p

    apart : (d : Doing) → IsGave d → IsTook d → ⊥
    apart (doings.Took t) p q = p
    apart d p q = q

-- ---- one that asked for bytes

wants_default : (h : Here) (v : ℕ) (key : List ℕ) (size : ℕ) (m : Message) → ((t : List ℕ) → m ≡ messages.Error t → ⊥) → ((n : ℕ) → m ≡ messages.Data n → ⊥) → on_message h v (sessions.Wants key size) m ≡ unexpected_reply h
wants_default h v key size (messages.Error t) e d = absurd (e t refl)
wants_default h v key size (messages.Data n) e d = absurd (d n refl)
wants_default h v key size m e d = refl

pub none_wants : (s : SessionState) (m : Message) → IsWanting s.doing → ((t : List ℕ) → m ≡ messages.Error t → ⊥) → ((n : ℕ) → m ≡ messages.Data n → ⊥) → IsUnexpected (incoming.Message m) s
none_wants s m phase e data_none = unexpected_so s m (λ h. answer h s.doing phase) (λ took. absurd (apart s.doing phase took))
  where
    answer : (h : Here) (d : Doing) → IsWanting d → on_message h s.spoken (doing_of d) m ≡ unexpected_reply h
    answer h (doings.Wants w) p = wants_default h s.spoken w.fill w.size m e data_none
    answer h d p = absurd p

    apart : (d : Doing) → IsWanting d → IsTook d → ⊥
    apart (doings.Took t) p q = p
    apart d p q = q

-- ---- one that has all bytes

took_default : (h : Here) (v : ℕ) (key : List ℕ) (size : ℕ) (m : Message) → ((t : List ℕ) → m ≡ messages.Error t → ⊥) → (m ≡ messages.Valid → ⊥) → (m ≡ messages.Invalid → ⊥) → on_message h v (sessions.Took key size) m ≡ unexpected_reply h
took_default h v key size (messages.Error t) e good bad = absurd (e t refl)
took_default h v key size messages.Valid e good bad = absurd (good refl)
took_default h v key size messages.Invalid e good bad = absurd (bad refl)
took_default h v key size m e good bad = refl

pub none_took : (s : SessionState) (m : Message) → IsTook s.doing → ((t : List ℕ) → m ≡ messages.Error t → ⊥) → (m ≡ messages.Valid → ⊥) → (m ≡ messages.Invalid → ⊥) → IsUnexpected (incoming.Message m) s
none_took s m phase e good bad = unexpected_so s m (λ h. answer h s.doing phase) (λ took. good)
  where
    answer : (h : Here) (d : Doing) → IsTook d → on_message h s.spoken (doing_of d) m ≡ unexpected_reply h
    answer h (doings.Took t) p = took_default h s.spoken t.fill t.size m e good bad
    answer h d p = absurd p

-- ---- bytes, and a line that is no message

pub bad_line : (s : SessionState) → IsUnexpected incoming.Bad s
bad_line s = record { answer = λ h. refl; parts = λ peer slot known. stay s.doing peer slot known }
  where
    stay : (d : Doing) (peer slot : ℕ) (known : Option Parts) → parts_after d incoming.Bad (Close peer slot false) known ≡ known
    stay (doings.Takes t) peer slot known = refl
    stay (doings.Took t) peer slot known = refl
    stay d peer slot known = refl

bytes_so : (s : SessionState) (bytes : Vec ℕ Global) → ((h : Here) → on_bytes h (length bytes.items) (doing_of s.doing) ≡ unexpected_reply h) → IsUnexpected (incoming.Bytes bytes) s
bytes_so s bytes answer = record { answer = answer; parts = λ peer slot known. stay s.doing peer slot known }
  where
    stay : (d : Doing) (peer slot : ℕ) (known : Option Parts) → parts_after d (incoming.Bytes bytes) (Close peer slot false) known ≡ known
    stay (doings.Takes t) peer slot known = refl
    stay (doings.Took t) peer slot known = refl
    stay d peer slot known = refl

pub no_bytes : (s : SessionState) (bytes : Vec ℕ Global) → ((t : Taking) → s.doing ≡ doings.Takes t → ⊥) → IsUnexpected (incoming.Bytes bytes) s
no_bytes s bytes other = bytes_so s bytes (λ h. go h s.doing other)
  where
    go : (h : Here) (d : Doing) → ((t : Taking) → d ≡ doings.Takes t → ⊥) → on_bytes h (length bytes.items) (doing_of d) ≡ unexpected_reply h
    go h (doings.Takes t) apart = absurd (apart t refl)
    go h doings.Waits apart = refl
    go h (doings.Guards share) apart = refl
    go h (doings.Gives g) apart = refl
    go h doings.Gave apart = refl
    go h (doings.Wants w) apart = refl
    go h (doings.Took t) apart = refl

pub bytes_past : (s : SessionState) (bytes : Vec ℕ Global) (t : Taking) → s.doing ≡ doings.Takes t → (nat_lt 0 (length bytes.items) && nat_le (length bytes.items) t.left) ≡ false → IsUnexpected (incoming.Bytes bytes) s
bytes_past s bytes t has apart = bytes_so s bytes (λ h. ap (λ (d : Doing). on_bytes h (length bytes.items) (doing_of d)) has ∙ far h)
  where
    far : (h : Here) → on_bytes h (length bytes.items) (sessions.Takes t.fill t.size t.left) ≡ unexpected_reply h
    far h = rw apart refl

pub no_valid : (s : SessionState) → ((t : Taken) → s.doing ≡ doings.Took t → ⊥) → IsUnexpected (incoming.Message messages.Valid) s
no_valid s other = unexpected_so s messages.Valid (λ h. go h s.doing other) (λ took e. none s.doing other took)
  where
    go : (h : Here) (d : Doing) → ((t : Taken) → d ≡ doings.Took t → ⊥) → on_message h s.spoken (doing_of d) messages.Valid ≡ unexpected_reply h
    go h (doings.Took t) apart = absurd (apart t refl)
    go h doings.Waits apart = refl
    go h (doings.Guards share) apart = refl
    go h (doings.Gives g) apart = refl
    go h doings.Gave apart = refl
    go h (doings.Wants w) apart = refl
    go h (doings.Takes t) apart = refl

    none : (d : Doing) → ((t : Taken) → d ≡ doings.Took t → ⊥) → IsTook d → ⊥
    none (doings.Took t) apart p = apart t refl
    none d apart p = p
