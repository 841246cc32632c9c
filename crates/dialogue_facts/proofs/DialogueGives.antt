-- Each piece of a content that a session gives, and its word on them, keeps the dialogue on its connection, or closes it with nothing said.
use Rattle.std.proofs.Common.{◌≡◌, ℕ, ◌+◌, ◌-◌, ◌≤◌, Bool, true, false, List, [], ◌∷◌, ◌++◌, Option, Some, None, ◌⊎◌, inl, inr, refl, sym, ap, ◌∙◌, subst, arith}
use Rattle.std.specs.Prelude.{if◌then◌else◌, ◌==◌, ◌&&◌, min, nat_le, nat_lt}
use Rattle.std.proofs.lemmas.Bool.Decides.{nat_tests}
use Rattle.annex_base.proofs.Conditions.{if_either}
use Rattle.annex_base.specs.declared.kinds.Call.TheVariants as calls
use Rattle.run_data.specs.declared.entry.EntryKind.TheVariants.{Fault, Talk}
use Rattle.run_data.specs.declared.entry.FrameText.{FrameText}
use Rattle.run_data.specs.declared.entry.FrameText.TheVariants.{Opening, Closing, Bytes, Line}
use Rattle.p2p_wire.specs.declared.message.Message.{Message}
use Rattle.p2p_wire.specs.declared.message.Message.TheVariants.{Version, PutFrom, AlreadyHave, Timestamp, Valid, Invalid, Success, Failure, Error}
use Rattle.p2p_wire.specs.Messages.{message_of, text_of}
use Rattle.node_model.specs.Sessions.{Doing, Waits, Guards, Gives, Gave, Wants, Takes, Took, Session, line_in, reaches, sent_one}
use Rattle.node_model.specs.SessionStep.{Here, Reply, by_of, close_kind, content_of, gives_next, on_piece, reply, shuts}
use Rattle.node_model.specs.Look.{failing_call}
use Rattle.step_facts.proofs.Cases.{unless_found}
use Rattle.job_facts.proofs.Dialogue
use Rattle.job_facts.proofs.Dialogue.{Stance}
use Rattle.dialogue_facts.proofs.DialogueReplies.{Says}
use Rattle.dialogue_facts.proofs.DialogueSteps.{min_fits}

abbrev made : ℕ → Doing → Session
made v d = record { version = v; doing = d }

-- the session after it gave these
abbrev pub gave_first : Session → List FrameText → Session
gave_first z [] = z
gave_first z (b ∷ bs) = sent_one z b

-- ---- where a session gives

module _ (key : List ℕ) (at left : ℕ) (good : Bool) (v : ℕ) where
  abbrev giving : Doing
  giving = Gives key at left good

  settled_not : (P : Doing → Type 0) → (P giving → ⊥) → (us : List FrameText) → Dialogue.Settled P giving us → ⊥
  settled_not P f [] x = f x
  settled_not P f (b ∷ bs) x = let no' : None ≡ Some x.0 = x.1 in cc

  pending_not : (Q : Doing → FrameText → Type 0) → ((b : FrameText) → Q giving b → ⊥) → (us : List FrameText) → Dialogue.Pending Q giving us → ⊥
  pending_not Q f [] x = x
  pending_not Q f (b ∷ []) x = f b x
  pending_not Q f (b ∷ c ∷ bs) x = let no' : None ≡ Some x.0 = x.1 in cc

  idle_not : Dialogue.Idle (made v giving) → ⊥
  idle_not x = let no' : giving ≡ Waits = x.waits in cc

  answered_not : (on : Stance) (o : Option Message) → Dialogue.Answered on (made v giving) o → ⊥
  answered_not Dialogue.AtGreet (Some (Version n)) x = idle_not x.0
  answered_not Dialogue.AtPut (Some AlreadyHave) x = idle_not x
  answered_not Dialogue.AtPut (Some Failure) x = idle_not x
  answered_not Dialogue.AtPut (Some (Error text)) x = idle_not x.0
  answered_not Dialogue.AtPut (Some (PutFrom n)) x = let no' : giving ≡ Wants x.1 x.2 = x.3 in cc
  answered_not Dialogue.AtLock (Some Success) x = let no' : giving ≡ Guards x.0 x.1 = x.2 in cc
  answered_not Dialogue.AtLock (Some Failure) x = idle_not x
  answered_not Dialogue.AtLook (Some Success) x = idle_not x
  answered_not Dialogue.AtLook (Some Failure) x = idle_not x
  answered_not Dialogue.AtTime (Some (Timestamp n)) x = idle_not x.0
  answered_not Dialogue.AtOrder (Some Success) x = idle_not x
  answered_not Dialogue.AtOrder (Some Failure) x = idle_not x
  answered_not Dialogue.AtAnswer (Some Success) x = idle_not x
  answered_not Dialogue.AtAnswer (Some Failure) x = idle_not x
  answered_not on o x = absurd x

  asked_not : (on : Stance) (up down : List FrameText) → Dialogue.Asked on (made v giving) up down → ⊥
  asked_not on up down (inl x) = pending_not (Dialogue.Asks on v) (λ b y. let no' : giving ≡ Waits = y.0 in cc) up x.pending
  asked_not on up down (inr x) = answered_not on (line_in x.body) x.fits

  rest_not : Dialogue.IsAtRest giving → ⊥
  rest_not (inl e) = cc
  rest_not (inr e) = let no' : giving ≡ Guards e.0 e.1 = e.2 in cc

  -- what it gives goes on with what came before
  abbrev Longer : Session → FrameText → Type 0
  Longer w b = (from : ℕ) (rest : List FrameText) → Dialogue.Giving from (made v giving) rest → Dialogue.Giving from w (rest ++ b ∷ [])

  gives_on : (w : Session) (b : FrameText) → Longer w b → (on : Stance) (up down : List FrameText) → Dialogue.Dialogue on (made v giving) up down → Dialogue.Dialogue on w up (down ++ b ∷ [])
  gives_on w b f Dialogue.AtGet up down (inl x) = absurd (pending_not (Dialogue.Asks Dialogue.AtGet v) (λ b y. let no' : giving ≡ Waits = y.0 in cc) up x.pending)
  gives_on w b f Dialogue.AtGet up down (inr x) = inr (record {
    none_up = x.none_up;
    body = x.body;
    rest = x.rest ++ b ∷ [];
    starts_so = ap (λ (ds : List FrameText). ds ++ b ∷ []) x.starts_so;
    left = x.left;
    told = x.told;
    giving = f x.left x.rest x.giving;
  })
  gives_on w b f (Dialogue.AtBytes n) up down x = (x.0, x.1, f n down (giving_bytes down x))
    where
      giving_bytes : (ds : List FrameText) → Dialogue.Dialogue (Dialogue.AtBytes n) (made v giving) up ds → Dialogue.Giving n (made v giving) ds
      giving_bytes ds y = y.2
  gives_on w b f Dialogue.AtWord up down x = (x.0, f 0 down x.1)
  gives_on w b f Dialogue.Away up down x = absurd (settled_not (λ d. d ≡ Waits) (λ e. let no' : giving ≡ Waits = e in cc) up (settled_away up x))
    where
      settled_away : (us : List FrameText) → Dialogue.Dialogue Dialogue.Away (made v giving) us down → Dialogue.Settled (λ d. d ≡ Waits) giving us
      settled_away us y = y.2
  gives_on w b f Dialogue.Locked up down x = absurd (settled_not Dialogue.IsAtRest rest_not up (settled_locked up x))
    where
      settled_locked : (us : List FrameText) → Dialogue.Dialogue Dialogue.Locked (made v giving) us down → Dialogue.Settled Dialogue.IsAtRest giving us
      settled_locked us y = y.1
  gives_on w b f Dialogue.AtOpen up down x = absurd (let no' : giving ≡ Waits = ap (λ (s : Session). s.doing) x.0 in cc)
  gives_on w b f (Dialogue.AtSend n) up down x = absurd (settled_not (Dialogue.IsTaking n) (λ y. let no' : giving ≡ Takes y.0 y.1 n = y.2 in cc) up (settled_send up x))
    where
      settled_send : (us : List FrameText) → Dialogue.Dialogue (Dialogue.AtSend n) (made v giving) us down → Dialogue.Settled (Dialogue.IsTaking n) giving us
      settled_send us y = y.3
  gives_on w b f Dialogue.AtValid up down x = absurd (settled_not Dialogue.IsTaken (λ y. let no' : giving ≡ Took y.0 y.1 = y.2 in cc) up (settled_valid up x))
    where
      settled_valid : (us : List FrameText) → Dialogue.Dialogue Dialogue.AtValid (made v giving) us down → Dialogue.Settled Dialogue.IsTaken giving us
      settled_valid us y = y.2
  gives_on w b f Dialogue.AtAnswer up down (inl x) = absurd (pending_not Dialogue.Closes (λ b y. let t : Dialogue.IsTaken giving = y.0 in let no' : giving ≡ Took t.0 t.1 = t.2 in cc) up (pending_answer up x))
    where
      pending_answer : (us : List FrameText) → (down ≡ []) × (1 ≤ v) × Dialogue.Pending Dialogue.Closes giving us → Dialogue.Pending Dialogue.Closes giving us
      pending_answer us y = y.2
  gives_on w b f Dialogue.AtAnswer up down (inr x) = absurd (answered_not Dialogue.AtAnswer (line_in x.body) x.fits)
  gives_on w b f Dialogue.AtGreet up down x = absurd (asked_not Dialogue.AtGreet up down x)
  gives_on w b f Dialogue.AtPut up down x = absurd (asked_not Dialogue.AtPut up down x)
  gives_on w b f Dialogue.AtLock up down x = absurd (asked_not Dialogue.AtLock up down x)
  gives_on w b f Dialogue.AtLook up down x = absurd (asked_not Dialogue.AtLook up down x)
  gives_on w b f Dialogue.AtTime up down x = absurd (asked_not Dialogue.AtTime up down x)
  gives_on w b f Dialogue.AtOrder up down x = absurd (asked_not Dialogue.AtOrder up down x)

  -- ---- a piece, and the word

  same_left : (k : List ℕ) (a n : ℕ) (g : Bool) → giving ≡ Gives k a n g → left ≡ n
  same_left k a n g e = cc

  piece_longer : (n : ℕ) → (nat_lt 0 n && nat_le n left) ≡ true → Longer (made v (Gives key (at + n) (left - n) good)) (Bytes n)
  piece_longer n fits from [] x =
      let same : left ≡ from = same_left x.1 x.2 from x.3 x.4 in
      (subst (λ l. (nat_lt 0 n && nat_le n l) ≡ true) same fits, (x.0, key, at + n, good, ap (λ l. Gives key (at + n) (l - n) good) same))
  piece_longer n fits from (Bytes m ∷ bs) x = (x.0, piece_longer n fits (from - m) bs x.1)
  piece_longer n fits from (Line text ∷ bs) x = absurd (let no' : giving ≡ Gave = x.3 in cc)
  piece_longer n fits from (Opening ∷ bs) x = absurd (let no' : giving ≡ Gave = x.3 in cc)
  piece_longer n fits from (Closing ∷ bs) x = absurd (let no' : giving ≡ Gave = x.3 in cc)

  word_longer : (m : Message) → left ≡ 0 → (message_of (text_of m) ≡ Some Valid) ⊎ (message_of (text_of m) ≡ Some Invalid) → Longer (made v Gave) (Line (text_of m))
  word_longer m none word from [] x =
      let same : left ≡ from = same_left x.1 x.2 from x.3 x.4 in
      (sym same ∙ none, refl, x.0, refl, word)
  word_longer m none word from (Bytes k ∷ bs) x = (x.0, word_longer m none word (from - k) bs x.1)
  word_longer m none word from (Line text ∷ bs) x = absurd (let no' : giving ≡ Gave = x.3 in cc)
  word_longer m none word from (Opening ∷ bs) x = absurd (let no' : giving ≡ Gave = x.3 in cc)
  word_longer m none word from (Closing ∷ bs) x = absurd (let no' : giving ≡ Gave = x.3 in cc)

  module _ (h : Here) (on : Stance) (up down : List FrameText) (x : Dialogue.Dialogue on (made v giving) up down) where
    abbrev Gone : Reply → Type 0
    Gone y = Says on (made v giving) (gave_first (made v giving) y.says) up down y.says

    word_says : left ≡ 0 → (b : Bool) → Gone (reply (Talk None) (if b then Valid else Invalid))
    word_says none true = inr ((refl, tt), (λ g. refl), gives_on (made v Gave) (Line (text_of Valid)) (word_longer Valid none (inl refl)) on up down x)
    word_says none false = inr ((refl, tt), (λ g. refl), gives_on (made v Gave) (Line (text_of Invalid)) (word_longer Invalid none (inr refl)) on up down x)

    piece_says : (n : ℕ) → (nat_lt 0 n && nat_le n left) ≡ true → Gone (on_piece h key at n)
    piece_says n fits = unless_found Gone (failing_call h.fails (calls.Read ∷ [])) (λ call. record { kind = Fault call (by_of h); says = Closing ∷ []; calls = [] })
        (if reaches (content_of h key) (at + n) then record { kind = Talk None; says = Bytes n ∷ []; calls = [] } else shuts (close_kind h)) (λ call. inl refl)
        (if_either Gone (reaches (content_of h key) (at + n)) (record { kind = Talk None; says = Bytes n ∷ []; calls = [] }) (shuts (close_kind h))
        (λ e. inr ((refl, tt), (λ g. refl), gives_on (made v (Gives key (at + n) (left - n) good)) (Bytes n) (piece_longer n fits) on up down x)) (λ e. inl refl))

    next_says : Gone (if left == 0 then reply (Talk None) (if good then Valid else Invalid) else on_piece h key at (min 32768 left))
    next_says = if_either Gone (left == 0) (reply (Talk None) (if good then Valid else Invalid)) (on_piece h key at (min 32768 left))
        (λ e. word_says (grind (arith, nat_tests)) good) (λ e. piece_says (min 32768 left) (min_fits left e))

-- **what a session gives keeps the dialogue**
pub gives_serves : (h : Here) (on : Stance) (z : Session) (up down : List FrameText) (x : Reply) → Dialogue.Dialogue on z up down → gives_next h z.doing ≡ Some x → Says on z (gave_first z x.says) up down x.says
gives_serves h on z up down x d next = go z.doing refl next
  where
    at_doing : (e : Doing) → z.doing ≡ e → z ≡ made z.version e
    at_doing e is = ap (made z.version) is

    go : (e : Doing) → z.doing ≡ e → gives_next h e ≡ Some x → Says on z (gave_first z x.says) up down x.says
    go (Gives key at left good) is e =
        let same : (if left == 0 then reply (Talk None) (if good then Valid else Invalid) else on_piece h key at (min 32768 left)) ≡ x = cc in
        subst (λ (w : Session). Says on w (gave_first w x.says) up down x.says) (sym (at_doing (Gives key at left good) is))
        (subst (λ (y : Reply). Says on (made z.version (Gives key at left good)) (gave_first (made z.version (Gives key at left good)) y.says) up down y.says) same
        (next_says key at left good z.version h on up down (subst (λ (w : Session). Dialogue.Dialogue on w up down) (at_doing (Gives key at left good) is) d)))
    go e is none = absurd (cc)
