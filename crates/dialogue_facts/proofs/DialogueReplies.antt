-- What a session answers and gives keeps the dialogue on its connection, or closes it with nothing said: it finds nothing unexpected.
use Rattle.node_model.specs.Clocks.{hold_time}
use Rattle.std.proofs.Common.{◌≡◌, ℕ, ◌+◌, ◌*◌, ◌/◌, ◌^◌, ◌≤◌, Bool, true, false, List, [], ◌∷◌, ◌++◌, Option, Some, None, ◌⊎◌, inl, inr, refl, sym, ◌∙◌, subst, arith}
use Rattle.std.specs.Prelude.{codes, min, nat_le, nat_lt}
use Rattle.std.proofs.lemmas.Bool.Decides.{nat_tests}
use Rattle.annex_base.specs.declared.kinds.Call.{Call}
use Rattle.annex_base.proofs.Conditions.{if_either}
use Rattle.annex_base.specs.declared.kinds.Call.TheVariants as calls
use Rattle.annex_base.specs.declared.kinds.Found.TheVariants as found
use Rattle.step_facts.proofs.Below.{SentAreRead}
use Rattle.run_data.specs.declared.entry.EntryKind.{EntryKind}
use Rattle.run_data.specs.declared.entry.EntryKind.TheVariants.{Check, Fault, Gone, Share, Talk}
use Rattle.run_data.specs.declared.entry.FrameText.{FrameText}
use Rattle.run_data.specs.declared.entry.FrameText.TheVariants.{Opening, Closing, Bytes, Line}
use Rattle.p2p_wire.specs.declared.message.Message.{Message}
use Rattle.p2p_wire.specs.declared.message.Message.TheVariants.{AuthSuccess, Version, CheckPresent, LockContent, RemoveBefore, GetTimestamp, Timestamp, Get, Put, PutFrom, AlreadyHave, Data, Success, Failure, Error}
use Rattle.p2p_wire.specs.Messages.{message_of, text_of}
use Rattle.node_model.specs.Sessions.{Waits, Session, doing_after, is_closing, line_in, new_session, reaches, took_bytes, took_message, version_told, guards}
use Rattle.node_model.specs.SessionStep.{Here, Reply, bar_on, by_of, bytes_left, check_answer, content_of, is_here, is_held, lock_answer, now_of, on_put, on_remove, on_remove_before, on_request, put_answer, failure_line, remove_answer, reply, tries, unexpected_reply}
use Rattle.node_model.specs.Look.{failing_call}
use Rattle.node_model.specs.Calls.{to_lock, to_offer, to_remove}
use Rattle.step_facts.proofs.Cases.{unless_found}
use Rattle.step_facts.proofs.SessionReads.{busy_read}
use Rattle.job_facts.proofs.Dialogue
use Rattle.job_facts.proofs.Dialogue.{Stance, is_greeted}

-- ---- what a session reads

pub record Spot (h : Here) : Type 0 where
  pub speaks : 1 ≤ h.version
  pub version : message_of (text_of (Version (min 3 h.version))) ≡ Some (Version (min 3 h.version))
  pub data' : (key : List ℕ) (n : ℕ) → message_of (text_of (Data (bytes_left (content_of h key) n))) ≡ Some (Data (bytes_left (content_of h key) n))
  pub time : message_of (text_of (Timestamp (now_of h / 1000))) ≡ Some (Timestamp (now_of h / 1000))
  pub soon : nat_lt (now_of h / 1000) (2 ^ 61) ≡ true
  pub part : message_of (text_of (PutFrom h.part)) ≡ Some (PutFrom h.part)
  pub auth : message_of (text_of (AuthSuccess h.id)) ≡ Some (AuthSuccess h.id)

-- ---- the session then

abbrev pub told_first : List FrameText → Option Message
told_first [] = None
told_first (b ∷ bs) = line_in b

-- after it took this message and this was made of it
abbrev pub after_message : (List ℕ → Option ℕ) → Session → Message → EntryKind → Option Message → Session
after_message size z m kind told = record { version = version_told z.version told; doing = doing_after size kind z.doing told m }

abbrev pub after_frame : (List ℕ → Option ℕ) → Session → FrameText → Reply → Session
after_frame size z Opening x = z
after_frame size z Closing x = new_session
after_frame size z (Bytes n) x = record z { doing = took_bytes n z.doing }
after_frame size z (Line text) x = took_message size x.kind z (told_first x.says) (message_of text)

-- ---- what it makes

-- it closes nothing
abbrev pub Opens : List FrameText → Type 0
Opens [] = Unit {0}
Opens (b ∷ bs) = (is_closing b ≡ false) × Opens bs

-- it closes the connection and says nothing else, or says what goes on with the dialogue
-- so, where it was one session before, and now is the other
abbrev pub Says : Stance → Session → Session → List FrameText → List FrameText → List FrameText → Type 0
Says at was z up down says = (says ≡ Closing ∷ []) ⊎ (Opens says × (is_greeted at ≡ true → z.version ≡ was.version) × Dialogue.Dialogue at z up (down ++ says))

-- ---- requests

module _ (reads_back : SentAreRead) (size : List ℕ → Option ℕ) (h : Here) (spot : Spot h) (z : Session) where
  abbrev pub Served : Stance → Message → Reply → Type 0
  Served at m x = Says at z (after_message size z m x.kind (told_first x.says)) [] [] x.says

  abbrev AskedOf : Stance → Type 0
  AskedOf at = (z : Session) (up down : List FrameText) → Dialogue.Asked at z up down → Dialogue.Dialogue at z up down

  -- it answers in one line
  answers : (at : Stance) → AskedOf at → (m : Message) (kind : EntryKind) (k : Message) → message_of (text_of k) ≡ Some k → Dialogue.Answered at (after_message size z m kind (Some k)) (Some k)
      → (is_greeted at ≡ true → version_told z.version (Some k) ≡ z.version) → Served at m (reply kind k)
  answers at asked m kind k back a same = inr (
    (refl, tt),
    (λ g. subst (λ (o : Option Message). version_told z.version o ≡ z.version) (sym back) (same g)),
    asked (after_message size z m kind (message_of (text_of k))) [] (Line (text_of k) ∷ []) (inr (record {
      none_up = refl;
      body = Line (text_of k);
      alone = refl;
      fits = subst (λ (o : Option Message). Dialogue.Answered at (after_message size z m kind o) o) (sym back) a;
    })),
  )

  try : (at : Stance) (m : Message) (cs : List Call) (says : List FrameText) (good : Reply) → ((call : Call) → Served at m (record { kind = Fault call (by_of h); says = says; calls = [] })) → Served at m good → Served at m (tries h cs says good)
  try at m cs says good f g = unless_found (Served at m) (failing_call h.fails cs) (λ call. record { kind = Fault call (by_of h); says = says; calls = [] }) good f g

  idle : (m : Message) (kind : EntryKind) (k : Message) → doing_after size kind z.doing (Some k) m ≡ Waits → 1 ≤ version_told z.version (Some k) → Dialogue.Idle (after_message size z m kind (Some k))
  idle m kind k waits speaks = record { waits = waits; speaks = speaks }

  module _ (waits : z.doing ≡ Waits) where
    -- CHECKPRESENT
    look_idle : (key : List ℕ) (kind : EntryKind) (k : Message) → (k ≡ Success) ⊎ (k ≡ Failure) → 1 ≤ z.version → Served Dialogue.AtLook (CheckPresent key) (reply kind k)
    look_idle key kind k word speaks = elim word [
      | inl e ↦ subst (λ (q : Message). Served Dialogue.AtLook (CheckPresent key) (reply kind q)) (sym e) (answers Dialogue.AtLook (λ z up down x. x) (CheckPresent key) kind Success refl (idle (CheckPresent key) kind Success waits speaks) (λ g. refl))
      | inr e ↦ subst (λ (q : Message). Served Dialogue.AtLook (CheckPresent key) (reply kind q)) (sym e) (answers Dialogue.AtLook (λ z up down x. x) (CheckPresent key) kind Failure refl (idle (CheckPresent key) kind Failure waits speaks) (λ g. refl))
    ]

    pub look_served : (key : List ℕ) → 1 ≤ z.version → Served Dialogue.AtLook (CheckPresent key) (on_request h z.version (CheckPresent key))
    look_served key speaks = try Dialogue.AtLook (CheckPresent key) (calls.Has ∷ []) failure_line (check_answer key (is_here h key) (bar_on h key))
        (λ call. look_idle key (Fault call (by_of h)) Failure (inr refl) speaks) (go (is_here h key) (bar_on h key))
      where
        go : (here : Bool) (bar : Option ℕ) → Served Dialogue.AtLook (CheckPresent key) (check_answer key here bar)
        go false bar = look_idle key (Check found.Absent key) Failure (inr refl) speaks
        go true (Some j) = look_idle key (Check found.Barred key) Failure (inr refl) speaks
        go true None = look_idle key (Check found.Present key) Success (inl refl) speaks

    -- LOCKCONTENT
    lock_no : (key : List ℕ) (kind : EntryKind) → guards kind ≡ Waits → 1 ≤ z.version → Served Dialogue.AtLock (LockContent key) (reply kind Failure)
    lock_no key kind none speaks = answers Dialogue.AtLock (λ z up down x. x) (LockContent key) kind Failure refl (idle (LockContent key) kind Failure none speaks) (λ g. refl)

    pub lock_served : (key : List ℕ) → 1 ≤ z.version → Served Dialogue.AtLock (LockContent key) (on_request h z.version (LockContent key))
    lock_served key speaks = try Dialogue.AtLock (LockContent key) (to_lock h.locks (is_here h key) (bar_on h key)) failure_line (lock_answer h.number (now_of h + hold_time) (by_of h) key h.locks (is_here h key) (bar_on h key))
        (λ call. lock_no key (Fault call (by_of h)) refl speaks) (go h.locks (is_here h key) (bar_on h key))
      where
        go : (locks here : Bool) (bar : Option ℕ) → Served Dialogue.AtLock (LockContent key) (lock_answer h.number (now_of h + hold_time) (by_of h) key locks here bar)
        go false here bar = lock_no key (Check found.Nolock key) refl speaks
        go true false bar = lock_no key (Check found.Absent key) refl speaks
        go true true (Some j) = lock_no key (Check found.Barred key) refl speaks
        go true true None = answers Dialogue.AtLock (λ z up down x. x) (LockContent key) (Share h.number (now_of h + hold_time) (by_of h) key) Success refl (h.number, key, refl) (λ g. refl)

    -- an order, of either form
    abbrev IsOrder : Message → Type 0
    IsOrder m = (kind : EntryKind) (told : Option Message) → doing_after size kind z.doing told m ≡ z.doing

    order_says : (m : Message) → IsOrder m → 1 ≤ z.version → (kind : EntryKind) (k : Message) → (k ≡ Success) ⊎ (k ≡ Failure) → Served Dialogue.AtOrder m (reply kind k)
    order_says m order speaks kind k (inl e) = subst (λ (q : Message). Served Dialogue.AtOrder m (reply kind q)) (sym e) (answers Dialogue.AtOrder (λ z up down x. x) m kind Success refl (idle m kind Success (order kind (Some Success) ∙ waits) speaks) (λ g. refl))
    order_says m order speaks kind k (inr e) = subst (λ (q : Message). Served Dialogue.AtOrder m (reply kind q)) (sym e) (answers Dialogue.AtOrder (λ z up down x. x) m kind Failure refl (idle m kind Failure (order kind (Some Failure) ∙ waits) speaks) (λ g. refl))

    pub remove_served : (m : Message) → IsOrder m → 1 ≤ z.version → (key : List ℕ) → Served Dialogue.AtOrder m (on_remove h key)
    remove_served m order speaks key = try Dialogue.AtOrder m (to_remove (is_here h key) (bar_on h key) (is_held h key)) failure_line (remove_answer (by_of h) key (is_here h key) (bar_on h key) (is_held h key))
        (λ call. order_says m order speaks (Fault call (by_of h)) Failure (inr refl)) (go (is_here h key) (bar_on h key) (is_held h key))
      where
        go : (here : Bool) (bar : Option ℕ) (blocked : Bool) → Served Dialogue.AtOrder m (remove_answer (by_of h) key here bar blocked)
        go false bar blocked = order_says m order speaks (Check found.Absent key) Success (inl refl)
        go true (Some j) blocked = order_says m order speaks (Check found.Barred key) Failure (inr refl)
        go true None true = order_says m order speaks (Check found.Held key) Failure (inr refl)
        go true None false = order_says m order speaks (Gone (by_of h) key) Success (inl refl)

    old_version : nat_le 3 z.version ≡ false → 3 ≤ z.version → ⊥
    old_version e new = grind (arith, nat_tests)

    pub before_served : (n : ℕ) (key : List ℕ) → 3 ≤ z.version → Served Dialogue.AtOrder (RemoveBefore n key) (on_request h z.version (RemoveBefore n key))
    before_served n key new = if_either (Served Dialogue.AtOrder (RemoveBefore n key)) (nat_le 3 z.version) (on_remove_before h n key) (unexpected_reply h)
        (λ e. if_either (Served Dialogue.AtOrder (RemoveBefore n key)) (nat_lt (now_of h) (1000 * n)) (on_remove h key) (reply (Check found.Late key) Failure)
        (λ e. remove_served (RemoveBefore n key) (λ kind told. refl) speaks key) (λ e. order_says (RemoveBefore n key) (λ kind told. refl) speaks (Check found.Late key) Failure (inr refl)))
        (λ e. absurd (old_version e new))
      where
        speaks : 1 ≤ z.version
        speaks = omega (arith, new)

    -- GETTIMESTAMP
    pub time_served : 3 ≤ z.version → Served Dialogue.AtTime GetTimestamp (on_request h z.version GetTimestamp)
    time_served new = if_either (Served Dialogue.AtTime GetTimestamp) (nat_le 3 z.version) (reply (Talk None) (Timestamp (now_of h / 1000))) (unexpected_reply h)
        (λ e. answers Dialogue.AtTime (λ z up down x. x) GetTimestamp (Talk None) (Timestamp (now_of h / 1000)) spot.time
        (record { waits = waits; speaks = omega (arith, new) }, new, spot.soon) (λ g. refl))
        (λ e. absurd (old_version e new))

    -- VERSION
    pub version_served : Served Dialogue.AtGreet (Version 3) (on_request h z.version (Version 3))
    version_served = answers Dialogue.AtGreet (λ z up down x. x) (Version 3) (Talk None) (Version (min 3 h.version)) spot.version
        (record { waits = waits; speaks = least h.version spot.speaks }, refl, most h.version) (λ g. absurd (let no' : false ≡ true = g in cc))
      where
        least : (v : ℕ) → 1 ≤ v → 1 ≤ min 3 v
        least v l = grind (arith, nat_tests)

        most : (v : ℕ) → min 3 v ≤ 3
        most v = grind (arith, nat_tests)

    too_old : 1 ≤ z.version → nat_le 1 z.version ≡ false → ⊥
    too_old l e = grind (arith, nat_tests)

    -- PUT
    pub put_served : (file key : List ℕ) → 1 ≤ z.version → Served Dialogue.AtPut (Put file key) (on_request h z.version (Put file key))
    put_served file key speaks = if_either (Served Dialogue.AtPut (Put file key)) (nat_le 1 z.version) (on_put h key) (unexpected_reply h)
        (λ e. try Dialogue.AtPut (Put file key) (to_offer h.part (is_here h key) (h.filled key)) failure_line (reply (Talk None) (put_answer h.part (is_here h key) (h.filled key)))
        (λ call. answers Dialogue.AtPut (λ z up down x. x) (Put file key) (Fault call (by_of h)) Failure refl (idle (Put file key) (Fault call (by_of h)) Failure refl speaks) (λ g. refl))
        (go (is_here h key) (h.filled key)))
        (λ e. absurd (too_old speaks e))
      where
        go : (here filled : Bool) → Served Dialogue.AtPut (Put file key) (reply (Talk None) (put_answer h.part here filled))
        go true filled = answers Dialogue.AtPut (λ z up down x. x) (Put file key) (Talk None) AlreadyHave refl (idle (Put file key) (Talk None) AlreadyHave refl speaks) (λ g. refl)
        go false true = answers Dialogue.AtPut (λ z up down x. x) (Put file key) (Talk None) (Error (codes "busy")) (busy_read reads_back) (idle (Put file key) (Talk None) (Error (codes "busy")) refl speaks, refl) (λ g. refl)
        go false false = answers Dialogue.AtPut (λ z up down x. x) (Put file key) (Talk None) (PutFrom h.part) spot.part (speaks, key, h.part, refl) (λ g. refl)

    -- GET
    pub get_served : (n : ℕ) (file key : List ℕ) → 1 ≤ z.version → Served Dialogue.AtGet (Get n file key) (on_request h z.version (Get n file key))
    get_served n file key speaks = if_either (Served Dialogue.AtGet (Get n file key)) (nat_le 1 z.version) (tries h (calls.Size ∷ []) (Closing ∷ []) good) (unexpected_reply h)
        (λ e. try Dialogue.AtGet (Get n file key) (calls.Size ∷ []) (Closing ∷ []) good (λ call. inl refl) (inr (
          (refl, tt),
          (λ g. subst (λ (o : Option Message). version_told z.version o ≡ z.version) (sym (spot.data' key n)) refl),
          inr (record {
            none_up = refl;
            body = Line (text_of (Data left));
            rest = [];
            starts_so = refl;
            left = left;
            told = spot.data' key n;
            giving = subst (λ (o : Option Message). Dialogue.Giving left (after_message size z (Get n file key) (Talk None) o) []) (sym (spot.data' key n)) (speaks, key, n, reaches (size key) n, refl);
          }),
        )))
        (λ e. absurd (too_old speaks e))
      where
        left : ℕ
        left = bytes_left (content_of h key) n

        good : Reply
        good = reply (Talk None) (Data left)
