-- Each frame that a session takes, and each piece that it gives, keeps the dialogue on its connection, or closes it with nothing said.
use Rattle.std.proofs.Common.{◌≡◌, ℕ, ◌+◌, ◌-◌, ◌≤◌, Bool, true, false, List, [], ◌∷◌, Option, Some, None, ◌⊎◌, inl, inr, refl, sym, ap, ◌∙◌, subst}
use Rattle.std.specs.Prelude.{if◌then◌else◌, ◌&&◌, nat_le, nat_lt}
use Rattle.std.proofs.lemmas.Bool.{true≢false}
use Rattle.annex_base.specs.declared.kinds.Call.TheVariants as calls
use Rattle.step_facts.proofs.Below.{SentAreRead}
use Rattle.run_data.specs.declared.entry.EntryKind.{EntryKind}
use Rattle.run_data.specs.declared.entry.EntryKind.TheVariants.{Fault, Gain, Talk}
use Rattle.run_data.specs.declared.entry.FrameText.{FrameText}
use Rattle.run_data.specs.declared.entry.FrameText.TheVariants.{Opening, Closing, Bytes, Line}
use Rattle.p2p_wire.specs.declared.message.Message.{Message}
use Rattle.p2p_wire.specs.declared.message.Message.TheVariants.{Version, CheckPresent, LockContent, Remove, RemoveBefore, GetTimestamp, Get, Put, Data, Valid, Success, Failure}
use Rattle.p2p_wire.specs.Messages.{message_of, text_of}
use Rattle.node_model.specs.Ends.{is_opening}
use Rattle.node_model.specs.Sessions.{Doing, Waits, Gave, Wants, Takes, Took, Session, line_in, takes_more, took_message}
use Rattle.node_model.specs.SessionStep.{Here, Reply, by_of, on_frame, on_message, on_text, failure_line, silent_reply, valid_answer}
use Rattle.node_model.specs.Look.{failing_call}
use Rattle.node_model.specs.Calls.{to_commit}
use Rattle.step_facts.proofs.Cases.{unless_found}
use Rattle.job_facts.proofs.Dialogue
use Rattle.job_facts.proofs.Dialogue.{Stance}
use Rattle.dialogue_facts.proofs.DialogueReplies
use Rattle.dialogue_facts.proofs.DialogueReplies.{Opens, Says, Spot, after_frame, after_message, told_first}
use Rattle.std.proofs.lemmas.Option.{same_Some}

abbrev made : ℕ → Doing → Session
made v d = record { version = v; doing = d }

module _ (reads_back : SentAreRead) (size : List ℕ → Option ℕ) (h : Here) (spot : Spot h) where
  -- ---- what is taken without a word

  abbrev Silent : ℕ → Doing → Option Message → Doing → Type 0
  Silent v d o next = ((on_text h (made v d) o).says ≡ Closing ∷ [])
      ⊎ (((on_text h (made v d) o).says ≡ []) × (took_message size (on_text h (made v d) o).kind (made v d) (told_first (on_text h (made v d) o).says) o ≡ made v next))

  abbrev SilentFrame : ℕ → Doing → FrameText → Doing → Type 0
  SilentFrame v d b next = ((on_frame h (made v d) b).says ≡ Closing ∷ []) ⊎ (((on_frame h (made v d) b).says ≡ []) × (after_frame size (made v d) b (on_frame h (made v d) b) ≡ made v next))

  acks_silent : (v : ℕ) (o : Option Message) (next : Doing) → Dialogue.acks o ≡ Some next → Silent v Gave o next
  acks_silent v (Some Success) next e = inr (refl, ap (made v) (same_Some Waits next e))
  acks_silent v (Some Failure) next e = inr (refl, ap (made v) (same_Some Waits next e))
  acks_silent v o next e = absurd (cc)

  starts_silent : (v : ℕ) (key : List ℕ) (k : ℕ) (o : Option Message) (next : Doing) → Dialogue.starts key k o ≡ Some next → Silent v (Wants key k) o next
  starts_silent v key k (Some (Data n)) next e = inr (refl, ap (made v) (same_Some (takes_more key k n) next e))
  starts_silent v key k o next e = absurd (cc)

  bytes_silent : (v : ℕ) (key : List ℕ) (k left n : ℕ) (next : Doing) → Dialogue.fills key k left (Bytes n) ≡ Some next → SilentFrame v (Takes key k left) (Bytes n) next
  bytes_silent v key k left n next e = go (nat_lt 0 n && nat_le n left) refl e
    where
      quiet : Reply
      quiet = silent_reply (Talk None)

      go : (c : Bool) → (nat_lt 0 n && nat_le n left) ≡ c → (if c then Some (takes_more key (k + n) (left - n)) else None) ≡ Some next → SilentFrame v (Takes key k left) (Bytes n) next
      go false is e = absurd (cc)
      go true is e = rw is (unless_found (λ (x : Reply). (x.says ≡ Closing ∷ []) ⊎ ((x.says ≡ []) × (made v (takes_more key (k + n) (left - n)) ≡ made v next))) (failing_call h.fails (calls.Append ∷ [])) (λ call. record { kind = Fault call (by_of h); says = Closing ∷ []; calls = [] }) quiet
          (λ call. inl refl) (inr (refl, ap (made v) (same_Some (takes_more key (k + n) (left - n)) next e))))

  silent_frame : (v : ℕ) (d : Doing) (b : FrameText) (next : Doing) → Dialogue.silently d b ≡ Some next → SilentFrame v d b next
  silent_frame v Gave (Line text) next e = acks_silent v (message_of text) next e
  silent_frame v Gave Opening next e = absurd (cc)
  silent_frame v Gave Closing next e = absurd (cc)
  silent_frame v Gave (Bytes n) next e = absurd (cc)
  silent_frame v (Wants key k) (Line text) next e = starts_silent v key k (message_of text) next e
  silent_frame v (Wants key k) Opening next e = absurd (cc)
  silent_frame v (Wants key k) Closing next e = absurd (cc)
  silent_frame v (Wants key k) (Bytes n) next e = absurd (cc)
  silent_frame v (Takes key k left) (Bytes n) next e = bytes_silent v key k left n next e
  silent_frame v (Takes key k left) (Line text) next e = absurd (cc)
  silent_frame v (Takes key k left) Opening next e = absurd (cc)
  silent_frame v (Takes key k left) Closing next e = absurd (cc)
  silent_frame v d b next e = absurd (cc)

  -- ---- requests

  request_says : (at : Stance) (v : ℕ) (m : Message) → Dialogue.Asking at v m
      → Says at (made v Waits) (after_message size (made v Waits) m (on_message h v Waits m).kind (told_first (on_message h v Waits m).says)) [] [] (on_message h v Waits m).says
  request_says Dialogue.AtGreet v (Version n) a = subst (λ n. Says Dialogue.AtGreet (made v Waits) (after_message size (made v Waits) (Version n) (on_message h v Waits (Version n)).kind (told_first (on_message h v Waits (Version n)).says)) [] [] (on_message h v Waits (Version n)).says)
      (sym a.0) (DialogueReplies.version_served reads_back size h spot (made v Waits) refl)
  request_says Dialogue.AtGet v (Get n file key) a = DialogueReplies.get_served reads_back size h spot (made v Waits) refl n file key a
  request_says Dialogue.AtPut v (Put file key) a = DialogueReplies.put_served reads_back size h spot (made v Waits) refl file key a
  request_says Dialogue.AtLock v (LockContent key) a = DialogueReplies.lock_served reads_back size h spot (made v Waits) refl key a
  request_says Dialogue.AtLook v (CheckPresent key) a = DialogueReplies.look_served reads_back size h spot (made v Waits) refl key a
  request_says Dialogue.AtTime v GetTimestamp a = DialogueReplies.time_served reads_back size h spot (made v Waits) refl a
  request_says Dialogue.AtOrder v (Remove key) a = DialogueReplies.remove_served reads_back size h spot (made v Waits) refl (Remove key) (λ kind told. refl) a key
  request_says Dialogue.AtOrder v (RemoveBefore n key) a = DialogueReplies.before_served reads_back size h spot (made v Waits) refl n key a
  request_says at v m a = absurd a

  -- VALID, as the bytes are there
  valid_says : (v : ℕ) (key : List ℕ) (k : ℕ) → 1 ≤ v
      → Says Dialogue.AtAnswer (made v (Took key k)) (after_message size (made v (Took key k)) Valid (on_message h v (Took key k) Valid).kind (told_first (on_message h v (Took key k) Valid).says)) [] [] (on_message h v (Took key k) Valid).says
  valid_says v key k speaks = unless_found Answers (failing_call h.fails (to_commit h.right)) (λ call. record { kind = Fault call (by_of h); says = failure_line; calls = [] }) (valid_answer (by_of h) k key h.right) (λ call. refused (Fault call (by_of h))) (go h.right)
    where
      Answers : Reply → Type 0
      Answers x = Says Dialogue.AtAnswer (made v (Took key k)) (after_message size (made v (Took key k)) Valid x.kind (told_first x.says)) [] [] x.says

      word : (kind : EntryKind) (m : Message) → message_of (text_of m) ≡ Some m → (m ≡ Success) ⊎ (m ≡ Failure) → Says Dialogue.AtAnswer (made v (Took key k)) (made v Waits) [] [] (Line (text_of m) ∷ [])
      word kind m back is = inr ((refl, tt), (λ g. refl), inr (record { none_up = refl; body = Line (text_of m); alone = refl; fits = subst (Dialogue.Answered Dialogue.AtAnswer (made v Waits)) (sym back) (fit m is) }))
        where
          fit : (m : Message) → (m ≡ Success) ⊎ (m ≡ Failure) → Dialogue.Answered Dialogue.AtAnswer (made v Waits) (Some m)
          fit Success is = record { waits = refl; speaks = speaks }
          fit Failure is = record { waits = refl; speaks = speaks }
          fit m (inl e) = absurd (cc)
          fit m (inr e) = absurd (cc)

      refused : (kind : EntryKind) → Says Dialogue.AtAnswer (made v (Took key k)) (made v Waits) [] [] (Line (text_of Failure) ∷ [])
      refused kind = word kind Failure refl (inr refl)

      go : (right : Bool) → Says Dialogue.AtAnswer (made v (Took key k)) (after_message size (made v (Took key k)) Valid (valid_answer (by_of h) k key right).kind (told_first (valid_answer (by_of h) k key right).says)) [] [] (valid_answer (by_of h) k key right).says
      go true = word (Gain (by_of h) k key) Success refl (inl refl)
      go false = refused (Talk None)

  -- ---- any frame

  abbrev Serves : Stance → Session → FrameText → List FrameText → List FrameText → Type 0
  Serves at z b up down = Says at z (after_frame size z b (on_frame h z b)) up down (on_frame h z b).says

  -- a line, as it is read
  line_says : (at : Stance) (v : ℕ) (d : Doing) (b : FrameText) (m : Message) → line_in b ≡ Some m
      → Says at (made v d) (after_message size (made v d) m (on_message h v d m).kind (told_first (on_message h v d m).says)) [] [] (on_message h v d m).says → Serves at (made v d) b [] []
  line_says at v d (Line text) m told x = subst (λ (o : Option Message). Says at (made v d) (took_message size (on_text h (made v d) o).kind (made v d) (told_first (on_text h (made v d) o).says) o) [] [] (on_text h (made v d) o).says) (sym told) x
  line_says at v d Opening m told x = absurd (cc)
  line_says at v d Closing m told x = absurd (cc)
  line_says at v d (Bytes n) m told x = absurd (cc)

  -- where nothing is said, it goes on as it is then
  silent_serves : (at : Stance) (z : Session) (b : FrameText) (next : Doing) (up : List FrameText) → Dialogue.silently z.doing b ≡ Some next → Dialogue.Dialogue at (made z.version next) up [] → Serves at z b up []
  silent_serves at z b next up e x = elim (silent_frame z.version z.doing b next e) [
    | inl shut ↦ inl shut
    | inr y ↦ inr (subst Opens (sym y.0) tt, (λ g. ap (λ (w : Session). w.version) y.1), subst (λ (says : List FrameText). Dialogue.Dialogue at (after_frame size z b (on_frame h z b)) up says) (sym y.0) (subst (λ (w : Session). Dialogue.Dialogue at w up []) (sym y.1) x))
  ]

  no_down : (at : Stance) (z : Session) (b : FrameText) (up down : List FrameText) → down ≡ [] → Serves at z b up [] → Serves at z b up down
  no_down at z b up down none x = subst (λ (ds : List FrameText). Serves at z b up ds) (sym none) x

  -- what is settled
  settled_serves : (at : Stance) (P : Doing → Type 0) (z : Session) (b : FrameText) (up : List FrameText) → ((w : Session) → w.version ≡ z.version → Dialogue.Settled P w.doing up → Dialogue.Dialogue at w up []) → Dialogue.Settled P z.doing (b ∷ up) → Serves at z b up []
  settled_serves at P z b up f x = silent_serves at z b x.0 up x.1 (f (made z.version x.0) refl x.2)

  still_serves : (at : Stance) → ((w : Session) (us ds : List FrameText) → Dialogue.Still at w us ds → Dialogue.Dialogue at w us ds) → (z : Session) (b : FrameText) (up : List FrameText) → Dialogue.Pending (Dialogue.Asks at z.version) z.doing (b ∷ up) → Serves at z b up []
  still_serves at f z b [] x = subst (λ (d : Doing). Serves at (made z.version d) b [] []) (sym x.0) (line_says at z.version Waits b x.1 x.2 (request_says at z.version x.1 x.3))
  still_serves at f z b (c ∷ cs) x = silent_serves at z b x.0 (c ∷ cs) x.1 (f (made z.version x.0) (c ∷ cs) [] (record { none_down = refl; pending = x.2 }))

  asked_serves : (at : Stance) → ((w : Session) (us ds : List FrameText) → Dialogue.Still at w us ds → Dialogue.Dialogue at w us ds) → (z : Session) (b : FrameText) (up down : List FrameText) → Dialogue.Asked at z (b ∷ up) down → Serves at z b up down
  asked_serves at f z b up down (inl x) = no_down at z b up down x.none_down (still_serves at f z b up x.pending)
  asked_serves at f z b up down (inr x) = absurd (let no' : b ∷ up ≡ [] = x.none_up in cc)

  closes_serves : (z : Session) (b : FrameText) (up : List FrameText) → 1 ≤ z.version → Dialogue.Pending Dialogue.Closes z.doing (b ∷ up) → Serves Dialogue.AtAnswer z b up []
  closes_serves z b [] speaks x = let t : Dialogue.IsTaken z.doing = x.0 in
      subst (λ (d : Doing). Serves Dialogue.AtAnswer (made z.version d) b [] []) (sym t.2) (line_says Dialogue.AtAnswer z.version (Took t.0 t.1) b Valid x.1 (valid_says z.version t.0 t.1 speaks))
  closes_serves z b (c ∷ cs) speaks x = silent_serves Dialogue.AtAnswer z b x.0 (c ∷ cs) x.1 (inl (refl, speaks, x.2))

  same_version : (z w : Session) → w.version ≡ z.version → 1 ≤ z.version → 1 ≤ w.version
  same_version z w e l = subst (λ n. 1 ≤ n) (sym e) l

  -- **what a session takes keeps the dialogue**
  pub frame_serves : (at : Stance) (z : Session) (b : FrameText) (up down : List FrameText) → is_opening b ≡ false → Dialogue.Dialogue at z (b ∷ up) down → Serves at z b up down
  frame_serves Dialogue.Away z b up down shut x = no_down Dialogue.Away z b up down x.0 (settled_serves Dialogue.Away (λ d. d ≡ Waits) z b up (λ w e y. (refl, same_version z w e x.1, y)) (settled_away (b ∷ up) x))
    where
      settled_away : (us : List FrameText) → Dialogue.Dialogue Dialogue.Away z us down → Dialogue.Settled (λ d. d ≡ Waits) z.doing us
      settled_away us y = y.2
  frame_serves Dialogue.Locked z b up down shut x = no_down Dialogue.Locked z b up down x.0 (settled_serves Dialogue.Locked Dialogue.IsAtRest z b up (λ w e y. (refl, y)) (settled_locked (b ∷ up) x))
    where
      settled_locked : (us : List FrameText) → Dialogue.Dialogue Dialogue.Locked z us down → Dialogue.Settled Dialogue.IsAtRest z.doing us
      settled_locked us y = y.1
  frame_serves Dialogue.AtOpen z b up down shut x = absurd (elim (x.1) [
    | inl y ↦ (let both : b ∷ up ≡ Opening ∷ [] = y.0 in let first : is_opening b ≡ true = ap first_opening both in true≢false (sym first ∙ shut))
    | inr y ↦ (let no' : b ∷ up ≡ [] = y.0 in cc)
  ])
    where
      first_opening : List FrameText → Bool
      first_opening [] = false
      first_opening (c ∷ cs) = is_opening c
  frame_serves Dialogue.AtGet z b up down shut (inl x) = no_down Dialogue.AtGet z b up down x.none_down (still_serves Dialogue.AtGet (λ w us ds y. inl y) z b up x.pending)
  frame_serves Dialogue.AtGet z b up down shut (inr x) = absurd (let no' : b ∷ up ≡ [] = x.none_up in cc)
  frame_serves (Dialogue.AtBytes left) z b up down shut x = absurd (let no' : b ∷ up ≡ [] = x.0 in cc)
  frame_serves Dialogue.AtWord z b up down shut x = absurd (let no' : b ∷ up ≡ [] = x.0 in cc)
  frame_serves (Dialogue.AtSend left) z b up down shut x = no_down (Dialogue.AtSend left) z b up down x.0 (settled_serves (Dialogue.AtSend left) (Dialogue.IsTaking left) z b up (λ w e y. (refl, same_version z w e x.1, x.2, y)) (settled_send (b ∷ up) x))
    where
      settled_send : (us : List FrameText) → Dialogue.Dialogue (Dialogue.AtSend left) z us down → Dialogue.Settled (Dialogue.IsTaking left) z.doing us
      settled_send us y = y.3
  frame_serves Dialogue.AtValid z b up down shut x = no_down Dialogue.AtValid z b up down x.0 (settled_serves Dialogue.AtValid Dialogue.IsTaken z b up (λ w e y. (refl, same_version z w e x.1, y)) (settled_valid (b ∷ up) x))
    where
      settled_valid : (us : List FrameText) → Dialogue.Dialogue Dialogue.AtValid z us down → Dialogue.Settled Dialogue.IsTaken z.doing us
      settled_valid us y = y.2
  frame_serves Dialogue.AtAnswer z b up down shut (inl x) = no_down Dialogue.AtAnswer z b up down x.0 (closes_serves z b up x.1 (pending_answer (b ∷ up) x))
    where
      pending_answer : (us : List FrameText) → (down ≡ []) × (1 ≤ z.version) × Dialogue.Pending Dialogue.Closes z.doing us → Dialogue.Pending Dialogue.Closes z.doing us
      pending_answer us y = y.2
  frame_serves Dialogue.AtAnswer z b up down shut (inr x) = absurd (let no' : b ∷ up ≡ [] = x.none_up in cc)
  frame_serves Dialogue.AtGreet z b up down shut x = asked_serves Dialogue.AtGreet (λ w us ds y. inl y) z b up down x
  frame_serves Dialogue.AtPut z b up down shut x = asked_serves Dialogue.AtPut (λ w us ds y. inl y) z b up down x
  frame_serves Dialogue.AtLock z b up down shut x = asked_serves Dialogue.AtLock (λ w us ds y. inl y) z b up down x
  frame_serves Dialogue.AtLook z b up down shut x = asked_serves Dialogue.AtLook (λ w us ds y. inl y) z b up down x
  frame_serves Dialogue.AtTime z b up down shut x = asked_serves Dialogue.AtTime (λ w us ds y. inl y) z b up down x
  frame_serves Dialogue.AtOrder z b up down shut x = asked_serves Dialogue.AtOrder (λ w us ds y. inl y) z b up down x
