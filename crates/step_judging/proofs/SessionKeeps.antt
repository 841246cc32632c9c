-- What a session replies stays where the store call that fails, the part and its match are those of which the reply tells.
use Rattle.std.proofs.Common.{◌≡◌, ℕ, ◌+◌, ◌*◌, ◌/◌, ◌<◌, ◌^◌, Bool, true, false, List, [], ◌∷◌, Option, Some, None, refl, sym, ◌∙◌}
use Rattle.std.specs.Prelude.{if◌then◌else◌, ◌==◌, ◌&&◌, ◌||◌, min, nat_lt, nat_le, bytes_eq, codes}
use Rattle.std.specs.List.{list_any}
use Rattle.std.proofs.lemmas.Bool.{true≢false}
use Rattle.annex_base.specs.declared.kinds.Call.{Call}
use Rattle.annex_base.specs.declared.kinds.Call.TheVariants as calls
use Rattle.annex_base.specs.declared.kinds.Found.TheVariants as found
use Rattle.annex_base.specs.declared.kinds.Word.{Word}
use Rattle.annex_base.specs.Calls.{same_call}
use Rattle.run_data.specs.declared.entry.EntryKind.TheVariants.{Check, Release, Talk, Fault}
use Rattle.run_data.specs.declared.entry.FrameText.{FrameText}
use Rattle.run_data.specs.declared.entry.FrameText.TheVariants.{Opening, Closing, Bytes, Line}
use Rattle.p2p_wire.specs.declared.message.Message.{Message}
use Rattle.p2p_wire.specs.declared.message.Message.TheVariants.{AuthSuccess, Version, CheckPresent, LockContent, UnlockContent, Remove, RemoveBefore, GetTimestamp, Timestamp, Get, Put, PutFrom, AlreadyHave, Data, Valid, Invalid, Success, Failure, Error}
use Rattle.p2p_wire.specs.Messages.{message_of}
use Rattle.node_model.specs.Clocks.{hold_time}
use Rattle.node_model.specs.Sessions.{Doing, Waits, Guards, Gave, Wants, Takes, Took, Session, reaches}
use Rattle.node_model.specs.Calls.{to_hold, to_lock, to_offer, to_read, to_remove, to_resume, to_commit}
use Rattle.node_model.specs.Slots.{job_of}
use Rattle.node_model.specs.SessionStep.{Here, Reply, bar_on, by_of, bytes_left, check_answer, close_kind, content_of, is_held, is_here, lock_answer, now_of, on_bytes, on_frame, on_message, on_piece, on_put, on_remove, on_remove_before, on_request, on_text, on_unlock, on_valid, put_answer, failure_line, remove_answer, reply, shuts, silent_reply, tries, unexpected_reply, valid_answer}
use Rattle.step_judging.specs.Telling.{failed_call, line_of, matches_told}
use Rattle.step_judging.proofs.Keeping.{Choice, GivesBack, GrowsFrom, IsFault, IsPlain, Keeps, Trial, keeps_commit, keeps_if, keeps_part, keeps_plain, keeps_unless}
use Rattle.step_judging.proofs.PartsTold.{put_told}
use Rattle.node_model.specs.Look.{failing_call, unless}

-- the line of the first of these
abbrev pub first_said : List FrameText → List ℕ
first_said [] = []
first_said (b ∷ bs) = line_of b

wider : (a b r : Bool) → (a || (b || false)) ≡ true → (a || (b || (r || false))) ≡ true
wider true b r e = refl
wider false true r e = refl
wider false false r e = absurd (cc)

pub offer_grows : GrowsFrom (λ n. calls.Has ∷ to_resume n)
offer_grows c n in' = go (nat_lt 0 n) in'
  where
    go : (b : Bool) → list_any (same_call c) (calls.Has ∷ calls.PartSize ∷ to_read b) ≡ true → list_any (same_call c) (calls.Has ∷ calls.PartSize ∷ calls.ReadPart ∷ []) ≡ true
    go true e = e
    go false e = wider (same_call c calls.Has) (same_call c calls.PartSize) (same_call c calls.ReadPart) e

wider_two : (b r : Bool) → (b || false) ≡ true → (b || (r || false)) ≡ true
wider_two true r e = refl
wider_two false r e = absurd (cc)

pub resume_grows : GrowsFrom to_resume
resume_grows c n in' = go (nat_lt 0 n) in'
  where
    go : (b : Bool) → list_any (same_call c) (calls.PartSize ∷ to_read b) ≡ true → list_any (same_call c) (calls.PartSize ∷ calls.ReadPart ∷ []) ≡ true
    go true e = e
    go false e = wider_two (same_call c calls.PartSize) (same_call c calls.ReadPart) e

-- with the other choice
abbrev pub chosen : Here → Choice → Here
chosen h d = record h { fails = d.fails; part = d.part; right = d.right }

-- while a session guards a key it has a hold
abbrev pub is_guarding : Doing → Bool
is_guarding (Guards hold key) = true
is_guarding doing = false

-- what an entry tells of a reply: all but its store calls
abbrev pub seen_reply : Reply → Reply
seen_reply x = record x { calls = [] }

abbrev pub reply_trial : Here → (ℕ → Option Word) → Choice → Bool → Trial Reply
reply_trial h words d holds = record {
  kind = λ x. x.kind;
  line = λ x. first_said x.says;
  takes = λ x. None;
  who = None;
  took = None;
  seen = seen_reply;
  look = record { fails = h.fails; part = h.part; right = h.right; words = words };
  other = d;
  by = by_of h;
  holds = holds;
}

module _ (h : Here) (words : ℕ → Option Word) (d : Choice) (small : h.part < 2 ^ 62) (holds : Bool) where
  abbrev g : Here
  g = chosen h d

  abbrev p : Trial Reply
  p = reply_trial h words d holds

  abbrev fault_of : List FrameText → Call → Reply
  fault_of says call = record { kind = Fault call (by_of h); says = says; calls = [] }

  is_fault : (says : List FrameText) → IsFault p (fault_of says)
  is_fault says = record { call_is = λ c. refl; kind_is = λ c. refl; made_by = λ c. refl; taken_is = λ c. refl; part_is = λ c. refl; right_is = λ c. refl }

  -- whatever the calls are
  with_calls : (x y : Reply) (cs ds : List Call) → Keeps p x y → Keeps p (record x { calls = cs }) (record y { calls = ds })
  with_calls x y cs ds kept = record {
    fair = kept.fair;
    made_by = kept.made_by;
    taken_is = kept.taken_is;
    unheld = kept.unheld;
    same = λ told. kept.same (record { fails_are = told.fails_are; part_is = told.part_is; right_is = told.right_is; words_are = told.words_are });
  }

  tries_keep : (cs : List Call) (says : List FrameText) (x y : Reply) → GivesBack p cs → Keeps p x y → Keeps p (tries h cs says x) (tries g cs says y)
  tries_keep cs says x y held kept =
      with_calls (unless (failing_call h.fails cs) (fault_of says) x) (unless (failing_call d.fails cs) (fault_of says) y) cs cs (keeps_unless p cs (fault_of says) x y (is_fault says) held kept)

  -- none of these calls gives a hold back
  never : (b : Bool) → b ≡ false → b ≡ true → holds ≡ true
  never b e f = absurd (true≢false (sym f ∙ e))

  leaf : (x : Reply) → failed_call x.kind ≡ None → job_of x.kind ≡ None → Keeps p x x
  leaf x call who = keeps_plain p x (record { no_call = call; made_by = who; taken_is = refl })

  unexpected_keep : Keeps p (unexpected_reply h) (unexpected_reply g)
  unexpected_keep = leaf (unexpected_reply h) refl refl

  hold_calls : (here : Bool) (bar : Option ℕ) → GivesBack p (to_hold here bar)
  hold_calls true None = never false refl
  hold_calls true (Some j) = never false refl
  hold_calls false bar = never false refl

  lock_calls : (locks here : Bool) (bar : Option ℕ) → GivesBack p (to_lock locks here bar)
  lock_calls false here bar = never false refl
  lock_calls true here bar = hold_calls here bar

  remove_calls : (here : Bool) (bar : Option ℕ) (blocked : Bool) → GivesBack p (to_remove here bar blocked)
  remove_calls false bar blocked = never false refl
  remove_calls true (Some j) blocked = never false refl
  remove_calls true None true = never false refl
  remove_calls true None false = never false refl

  offer_calls : (n : ℕ) → GivesBack p (calls.Has ∷ to_resume n)
  offer_calls n = go (nat_lt 0 n)
    where
      go : (b : Bool) → list_any (same_call calls.Unhold) (calls.Has ∷ calls.PartSize ∷ to_read b) ≡ true → holds ≡ true
      go true = never false refl
      go false = never false refl

  check_keep : (key : List ℕ) (here : Bool) (bar : Option ℕ) → Keeps p (check_answer key here bar) (check_answer key here bar)
  check_keep key false bar = leaf (check_answer key false bar) refl refl
  check_keep key true (Some j) = leaf (check_answer key true (Some j)) refl refl
  check_keep key true None = leaf (check_answer key true None) refl refl

  lock_keep : (hold end : ℕ) (key : List ℕ) (locks here : Bool) (bar : Option ℕ)
      → Keeps p (lock_answer hold end (by_of h) key locks here bar) (lock_answer hold end (by_of h) key locks here bar)
  lock_keep hold end key false here bar = leaf (lock_answer hold end (by_of h) key false here bar) refl refl
  lock_keep hold end key true false bar = leaf (lock_answer hold end (by_of h) key true false bar) refl refl
  lock_keep hold end key true true (Some j) = leaf (lock_answer hold end (by_of h) key true true (Some j)) refl refl
  lock_keep hold end key true true None = leaf (lock_answer hold end (by_of h) key true true None) refl refl

  remove_keep : (key : List ℕ) (here : Bool) (bar : Option ℕ) (blocked : Bool) → Keeps p (remove_answer (by_of h) key here bar blocked) (remove_answer (by_of h) key here bar blocked)
  remove_keep key false bar blocked = leaf (remove_answer (by_of h) key false bar blocked) refl refl
  remove_keep key true (Some j) blocked = leaf (remove_answer (by_of h) key true (Some j) blocked) refl refl
  remove_keep key true None true = leaf (remove_answer (by_of h) key true None true) refl refl
  remove_keep key true None false = leaf (remove_answer (by_of h) key true None false) refl refl

  on_remove_keep : (key : List ℕ) → Keeps p (on_remove h key) (on_remove g key)
  on_remove_keep key =
      let x = remove_answer (by_of h) key (is_here h key) (bar_on h key) (is_held h key) in
      tries_keep (to_remove (is_here h key) (bar_on h key) (is_held h key)) failure_line x x (remove_calls (is_here h key) (bar_on h key) (is_held h key)) (remove_keep key (is_here h key) (bar_on h key) (is_held h key))

  remove_before_keep : (n : ℕ) (key : List ℕ) → Keeps p (on_remove_before h n key) (on_remove_before g n key)
  remove_before_keep n key =
      keeps_if p (nat_lt (now_of h) (1000 * n)) (on_remove h key) (on_remove g key) (reply (Check found.Late key) Failure) (reply (Check found.Late key) Failure)
      (on_remove_keep key) (leaf (reply (Check found.Late key) Failure) refl refl)

  -- a part is offered, or else the answer doesn't depend on it
  put_keep : (key : List ℕ) (here filled : Bool)
      → Keeps p (tries h (to_offer h.part here filled) failure_line (reply (Talk None) (put_answer h.part here filled)))
      (tries g (to_offer g.part here filled) failure_line (reply (Talk None) (put_answer g.part here filled)))
  put_keep key true filled = let x = reply (Talk None) AlreadyHave in tries_keep (calls.Has ∷ []) failure_line x x (never false refl) (leaf x refl refl)
  put_keep key false true = let x = reply (Talk None) (Error (codes "busy")) in tries_keep (calls.Has ∷ []) failure_line x x (never false refl) (leaf x refl refl)
  put_keep key false false =
      let offer : ℕ → Reply = λ n. reply (Talk None) (PutFrom n) in
      with_calls (unless (failing_call h.fails (calls.Has ∷ to_resume h.part)) (fault_of failure_line) (offer h.part)) (unless (failing_call d.fails (calls.Has ∷ to_resume d.part)) (fault_of failure_line) (offer d.part))
      (calls.Has ∷ to_resume h.part) (calls.Has ∷ to_resume d.part)
      (keeps_part p (λ n. calls.Has ∷ to_resume n) (fault_of failure_line) offer offer_grows (is_fault failure_line) offer_calls
      (λ n. record { no_call = refl; made_by = refl; taken_is = refl }) (put_told h.part small))

  with_version : (b : Bool) (x y : Reply) → Keeps p x y → Keeps p (if b then x else unexpected_reply h) (if b then y else unexpected_reply g)
  with_version b x y kept = keeps_if p b x y (unexpected_reply h) (unexpected_reply g) kept unexpected_keep

  request_keep : (v : ℕ) (m : Message) → Keeps p (on_request h v m) (on_request g v m)
  request_keep v (Version n) = leaf (reply (Talk None) (Version (min n h.version))) refl refl
  request_keep v (CheckPresent key) =
      let x = check_answer key (is_here h key) (bar_on h key) in tries_keep (calls.Has ∷ []) failure_line x x (never false refl) (check_keep key (is_here h key) (bar_on h key))
  request_keep v (LockContent key) =
      let x = lock_answer h.number (now_of h + hold_time) (by_of h) key h.locks (is_here h key) (bar_on h key) in
      tries_keep (to_lock h.locks (is_here h key) (bar_on h key)) failure_line x x (lock_calls h.locks (is_here h key) (bar_on h key)) (lock_keep h.number (now_of h + hold_time) key h.locks (is_here h key) (bar_on h key))
  request_keep v (Remove key) = on_remove_keep key
  request_keep v (RemoveBefore n key) = with_version (nat_le 3 v) (on_remove_before h n key) (on_remove_before g n key) (remove_before_keep n key)
  request_keep v GetTimestamp = let x = reply (Talk None) (Timestamp (now_of h / 1000)) in with_version (nat_le 3 v) x x (leaf x refl refl)
  request_keep v (Get n file key) =
      let x = reply (Talk None) (Data (bytes_left (content_of h key) n)) in
      with_version (nat_le 1 v) (tries h (calls.Size ∷ []) (Closing ∷ []) x) (tries g (calls.Size ∷ []) (Closing ∷ []) x) (tries_keep (calls.Size ∷ []) (Closing ∷ []) x x (never false refl) (leaf x refl refl))
  request_keep v (Put file key) = with_version (nat_le 1 v) (on_put h key) (on_put g key) (put_keep key (is_here h key) (h.filled key))
  request_keep v m = unexpected_keep

  unlock_keep : holds ≡ true → (hold : ℕ) (key k : List ℕ) → Keeps p (on_unlock h hold key k) (on_unlock g hold key k)
  unlock_keep has hold key k =
      let x = silent_reply (Release hold key) in
      with_version (bytes_eq k key) (tries h (calls.Unhold ∷ []) [] x) (tries g (calls.Unhold ∷ []) [] x) (tries_keep (calls.Unhold ∷ []) [] x x (λ e. has) (leaf x refl refl))

  valid_plain : (key : List ℕ) (size : ℕ) (b : Bool) → IsPlain p (valid_answer (by_of h) size key b)
  valid_plain key size true = record { no_call = refl; made_by = refl; taken_is = refl }
  valid_plain key size false = record { no_call = refl; made_by = refl; taken_is = refl }

  valid_keep : (key : List ℕ) (size : ℕ) → Keeps p (on_valid h key size) (on_valid g key size)
  valid_keep key size =
      with_calls (unless (failing_call h.fails (to_commit h.right)) (fault_of failure_line) (valid_answer (by_of h) size key h.right)) (unless (failing_call d.fails (to_commit d.right)) (fault_of failure_line) (valid_answer (by_of h) size key d.right))
      (to_commit h.right) (to_commit d.right)
      (keeps_commit p (fault_of failure_line) (valid_answer (by_of h) size key) (is_fault failure_line) (valid_plain key size) (told h.right))
    where
      told : (b : Bool) → matches_told (valid_answer (by_of h) size key b).kind ≡ b
      told true = refl
      told false = refl

  message_keep : (v : ℕ) (doing : Doing) (m : Message) → (is_guarding doing ≡ true → holds ≡ true) → Keeps p (on_message h v doing m) (on_message g v doing m)
  message_keep v doing (Error text) has = leaf (shuts (close_kind h)) refl refl
  message_keep v Waits m has = request_keep v m
  message_keep v (Guards hold key) (UnlockContent k) has = unlock_keep (has refl) hold key k
  message_keep v Gave Success has = leaf (silent_reply (Talk None)) refl refl
  message_keep v Gave Failure has = leaf (silent_reply (Talk None)) refl refl
  message_keep v (Wants key size) (Data n) has = leaf (silent_reply (Talk None)) refl refl
  message_keep v (Took key size) Valid has = valid_keep key size
  message_keep v (Took key size) Invalid has = leaf (reply (Talk None) Failure) refl refl
  message_keep v doing m has = unexpected_keep

  bytes_keep : (n : ℕ) (doing : Doing) → Keeps p (on_bytes h n doing) (on_bytes g n doing)
  bytes_keep n (Takes key size left) =
      let x = silent_reply (Talk None) in
      with_version (nat_lt 0 n && nat_le n left) (tries h (calls.Append ∷ []) (Closing ∷ []) x) (tries g (calls.Append ∷ []) (Closing ∷ []) x)
      (tries_keep (calls.Append ∷ []) (Closing ∷ []) x x (never false refl) (leaf x refl refl))
  bytes_keep n doing = unexpected_keep

  text_keep : (was : Session) (m : Option Message) → (is_guarding was.doing ≡ true → holds ≡ true) → Keeps p (on_text h was m) (on_text g was m)
  text_keep was None has = unexpected_keep
  text_keep was (Some m) has = message_keep was.version was.doing m has

  pub frame_keep : (was : Session) (body : FrameText) → (is_guarding was.doing ≡ true → holds ≡ true) → Keeps p (on_frame h was body) (on_frame g was body)
  frame_keep was Opening has = leaf (reply (Talk None) (AuthSuccess h.id)) refl refl
  frame_keep was Closing has = leaf (silent_reply (close_kind h)) refl refl
  frame_keep was (Bytes n) has = bytes_keep n was.doing
  frame_keep was (Line text) has = text_keep was (message_of text) has

  piece_keep : (key : List ℕ) (at n : ℕ) → Keeps p (on_piece h key at n) (on_piece g key at n)
  piece_keep key at n =
      let more : Reply = record { kind = Talk None; says = Bytes n ∷ []; calls = [] } in
      let x = if reaches (content_of h key) (at + n) then more else shuts (close_kind h) in
      tries_keep (calls.Read ∷ []) (Closing ∷ []) x x (never false refl)
      (keeps_if p (reaches (content_of h key) (at + n)) more more (shuts (close_kind h)) (shuts (close_kind h)) (leaf more refl refl) (leaf (shuts (close_kind h)) refl refl))

  -- the next piece, and what is said at the end
  pub next_keep : (key : List ℕ) (at left : ℕ) (good : Bool)
      → Keeps p (if left == 0 then reply (Talk None) (if good then Valid else Invalid) else on_piece h key at (min 32768 left))
      (if left == 0 then reply (Talk None) (if good then Valid else Invalid) else on_piece g key at (min 32768 left))
  next_keep key at left good =
      let x = reply (Talk None) (if good then Valid else Invalid) in
      keeps_if p (left == 0) x x (on_piece h key at (min 32768 left)) (on_piece g key at (min 32768 left)) (leaf x refl refl) (piece_keep key at (min 32768 left))
