-- What a session replies that makes no fault: to a look, a lock, an order and a version.
use Rattle.std.specs.Prelude.{◌&&◌, ◌*◌, if◌then◌else◌, min, nat_le, nat_lt}
use Rattle.std.proofs.Common.{◌≡◌, ℕ, ◌+◌, Bool, true, false, List, [], ◌∷◌, Option, Some, None, inl, inr, refl, sym, ap, ◌∙◌, subst}
use Rattle.annex_base.specs.declared.kinds.Call.{Call}
use Rattle.annex_base.specs.declared.kinds.Found.TheVariants as found
use Rattle.run_data.specs.declared.entry.By.{By}
use Rattle.run_data.specs.declared.entry.EntryKind.{EntryKind}
use Rattle.run_data.specs.declared.entry.EntryKind.TheVariants.{Check, Fault}
use Rattle.run_data.specs.declared.entry.FrameText.{FrameText}
use Rattle.run_data.specs.declared.entry.FrameText.TheVariants.{Line}
use Rattle.p2p_wire.specs.declared.message.Message.{Message}
use Rattle.p2p_wire.specs.declared.message.Message.TheVariants.{CheckPresent, LockContent, Success, Version}
use Rattle.p2p_wire.specs.Messages.{order_of, text_of}
use Rattle.node_model.specs.Calls.{to_lock, to_remove}
use Rattle.node_model.specs.Clocks.{hold_time}
use Rattle.node_model.specs.Found.{IsSessionEntry}
use Rattle.node_model.specs.Look.{failing_call, unless}
use Rattle.node_model.specs.Sessions.{Doing, Waits}
use Rattle.node_model.specs.SessionStep.{Here, Reply, bar_on, by_of, failure_line, is_held, is_here, lock_answer, now_of, on_message, on_remove, on_remove_before, remove_answer, unexpected_reply}
use Rattle.run_model.specs.Drops.{option_is_none}
use Rattle.run_laws.proofs.SaidDown.{Alike}
use Rattle.run_laws.proofs.SessionAnswers
use Rattle.run_laws.proofs.SessionAnswers.{AnswerFits}
use Rattle.alone_drops.proofs.Since.{is_calm}
use Rattle.alone_drops.proofs.Frames.{and_false}

-- ---- a look that is refused

order_apart : (deadline : Option ℕ) (k key : List ℕ) → Some (order_of deadline k) ≡ Some (CheckPresent key) → ⊥
order_apart None k key e = cc
order_apart (Some n) k key e = cc

-- the content isn't there, or a bar stands on it
pub look_none : (h : Here) (doing : Doing) (asked : Option Message) (said : List FrameText) (key : List ℕ) (kind : EntryKind) → SessionAnswers.refuses_look kind ≡ true → is_calm kind ≡ true → asked ≡ Some (CheckPresent key)
    → IsSessionEntry h doing asked said kind → (h.present key && option_is_none (h.bar key)) ≡ false
look_none h doing asked said key (Check found.Absent k) r u is x = elim (x.1) [
  | inl y ↦ elim y [
    | inl q ↦ absurd (let bad : Some (LockContent k) ≡ Some (CheckPresent key) = sym q ∙ is in cc)
    | inr q ↦ (let same : Some (CheckPresent k) ≡ Some (CheckPresent key) = sym q ∙ is in let at : k ≡ key = cc in let none : h.present key ≡ false = subst (λ n. h.present n ≡ false) at x.2 in rw none refl)
  ]
  | inr y ↦ absurd (order_apart y.0 k key (sym y.1 ∙ is))
]
look_none h doing asked said key (Check found.Barred k) r u is x = elim (x.1) [
  | inl y ↦ elim y [
    | inl q ↦ absurd (let bad : Some (LockContent k) ≡ Some (CheckPresent key) = sym q ∙ is in cc)
    | inr q ↦ (let same : Some (CheckPresent k) ≡ Some (CheckPresent key) = sym q ∙ is in let at : k ≡ key = cc in
        let barred : h.bar key ≡ Some x.2.0 = subst (λ n. h.bar n ≡ Some x.2.0) at x.2.1 in
        ap (λ o. h.present key && option_is_none o) barred ∙ and_false (h.present key))
  ]
  | inr y ↦ absurd (order_apart y.0 k key (sym y.1 ∙ is))
]
look_none h doing asked said key (Fault call by) r u is x = absurd (cc)
look_none h doing asked said key (Check found.Present k) r u is x = absurd (cc)
look_none h doing asked said key (Check found.Held k) r u is x = absurd (cc)
look_none h doing asked said key (Check found.Late k) r u is x = absurd (cc)
look_none h doing asked said key (Check found.Nolock k) r u is x = absurd (cc)
look_none h doing asked said key kind r u is x = absurd (cc)

-- a call that fails makes a fault
unfailed : (h : Here) (o : Option Call) (good : Reply) → is_calm (unless o (λ call. record { kind = Fault call (by_of h); says = failure_line; calls = [] }) good).kind ≡ true → unless o (λ call. record { kind = Fault call (by_of h); says = failure_line; calls = [] }) good ≡ good
unfailed h None good u = refl
unfailed h (Some call) good u = absurd (cc)

-- ---- a lock

-- LOCKCONTENT is granted where the content is free and holds are given
pub lock_gave : (h : Here) (v : ℕ) (doing : Doing) (key : List ℕ) → is_calm (on_message h v doing (LockContent key)).kind ≡ true → h.locks ≡ true → h.present key ≡ true → h.bar key ≡ None
    → (on_message h v doing (LockContent key)).says ≡ Line (text_of Success) ∷ []
lock_gave h v Waits key u locks there free = ap (λ (x : Reply). x.says) (unfailed h (failing_call h.fails (to_lock h.locks (is_here h key) (bar_on h key))) (lock_answer h.number (now_of h + hold_time) (by_of h) key h.locks (is_here h key) (bar_on h key)) u)
    ∙ (λ i. (lock_answer h.number (now_of h + hold_time) (by_of h) key (locks i) (there i) (free i)).says)
lock_gave h v doing key u locks there free = absurd (cc)

-- ---- an order

removed_says : (by : By) (key : List ℕ) (here : Bool) → (remove_answer by key here None false).says ≡ Line (text_of Success) ∷ []
removed_says by key true = refl
removed_says by key false = refl

remove_gave : (h : Here) (key : List ℕ) → is_calm (on_remove h key).kind ≡ true → h.bar key ≡ None → is_held h key ≡ false → (on_remove h key).says ≡ Line (text_of Success) ∷ []
remove_gave h key u free unheld = ap (λ (x : Reply). x.says) (unfailed h (failing_call h.fails (to_remove (is_here h key) (bar_on h key) (is_held h key))) (remove_answer (by_of h) key (is_here h key) (bar_on h key) (is_held h key)) u)
    ∙ ((λ i. (remove_answer (by_of h) key (is_here h key) (free i) (unheld i)).says) ∙ removed_says (by_of h) key (is_here h key))

before_gave : (h : Here) (n : ℕ) (key : List ℕ) → is_calm (on_remove_before h n key).kind ≡ true → h.bar key ≡ None → is_held h key ≡ false → nat_lt (now_of h) (1000 * n) ≡ true → (on_remove_before h n key).says ≡ Line (text_of Success) ∷ []
before_gave h n key u free unheld soon = same ∙ remove_gave h key (subst (λ (x : Reply). is_calm x.kind ≡ true) whole u) free unheld
  where
    whole : on_remove_before h n key ≡ on_remove h key
    whole = rw soon refl

    same : (on_remove_before h n key).says ≡ (on_remove h key).says
    same = ap (λ (x : Reply). x.says) whole

pub order_gave : (h : Here) (v : ℕ) (doing : Doing) (deadline : Option ℕ) (key : List ℕ) → is_calm (on_message h v doing (order_of deadline key)).kind ≡ true → h.bar key ≡ None → is_held h key ≡ false
    → ((n : ℕ) → deadline ≡ Some n → nat_lt (now_of h) (1000 * n) ≡ true) → (on_message h v doing (order_of deadline key)).says ≡ Line (text_of Success) ∷ []
order_gave h v Waits None key u free unheld soon = remove_gave h key u free unheld
order_gave h v Waits (Some n) key u free unheld soon = go (nat_le 3 v) u
  where
    go : (d : Bool) → is_calm (if d then on_remove_before h n key else unexpected_reply h).kind ≡ true → (if d then on_remove_before h n key else unexpected_reply h).says ≡ Line (text_of Success) ∷ []
    go true u = before_gave h n key u free unheld (soon n refl)
    go false u = absurd (cc)
order_gave h v doing None key u free unheld soon = absurd (cc)
order_gave h v doing (Some n) key u free unheld soon = absurd (cc)

-- ---- a version

-- a version answers a version
pub version_asked : (asked : Message) (kind : EntryKind) (m : Message) (n : ℕ) → AnswerFits asked kind m → Alike m (Version n) → (k : ℕ) × (asked ≡ Version k)
version_asked (Version k) kind (Version i) n f a = (k, refl)
version_asked asked kind (Version i) n f a = absurd f
version_asked asked kind m n f a = absurd a

pub version_gave : (h : Here) (v : ℕ) (doing : Doing) (k : ℕ) → is_calm (on_message h v doing (Version k)).kind ≡ true → (on_message h v doing (Version k)).says ≡ Line (text_of (Version (min k h.version))) ∷ []
version_gave h v Waits k u = refl
version_gave h v doing k u = absurd (cc)
