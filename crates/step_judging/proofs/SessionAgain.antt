-- A session's step is made again with the look that it tells of.
use Rattle.std.proofs.Common.{◌≡◌, ◌⊎◌, inl, inr, ℕ, ◌+◌, ◌<◌, ◌^◌, Bool, true, false, List, [], ◌∷◌, Option, Some, None, refl, sym, ap, subst, ◌∙◌}
use Rattle.std.specs.Prelude.{if◌then◌else◌, ◌==◌, ◌&&◌, min}
use Rattle.std.specs.Option.{option_to_list, option_map, option_or}
use Rattle.std.proofs.lemmas.Bool.{and_parts, eqb-true}
use Rattle.annex_base.specs.declared.kinds.Call.{Call}
use Rattle.annex_base.specs.declared.kinds.Call.TheVariants as calls
use Rattle.annex_base.specs.declared.kinds.Word.{Word}
use Rattle.annex_base.specs.Bools.{same_bool}
use Rattle.annex_base.specs.Lists.{Member}
use Rattle.annex_base.specs.OptionSteps.{first_some}
use Rattle.annex_base.proofs.Conditions.{eqb_refl, if_either}
use Rattle.annex_base.proofs.Lists.{find_member}
use Rattle.annex_base.proofs.Options.{first_some-was}
use Rattle.run_data.specs.declared.entry.By.TheVariants.{Peer}
use Rattle.run_data.specs.declared.entry.EntryKind.TheVariants.{Fault, Talk}
use Rattle.run_data.specs.declared.entry.FrameView.{FrameView}
use Rattle.run_data.specs.declared.entry.FrameText.{FrameText}
use Rattle.run_data.specs.declared.entry.FrameText.TheVariants.{Bytes, Closing, Line}
use Rattle.p2p_wire.specs.declared.message.Message.TheVariants.{Valid, Invalid}
use Rattle.p2p_wire.specs.Messages.{text_of}
use Rattle.node_model.specs.Ends.{End, EndName, end_takes, frames, may_take, server_end, takes_at}
use Rattle.node_model.specs.Jobs.{Work}
use Rattle.node_model.specs.Look.{Look, Effect, as_told, failing_call, unless, waiting_frame}
use Rattle.node_model.specs.Sessions.{Doing, Gives, reaches}
use Rattle.node_model.specs.SetUp.{SetUp, served_connections}
use Rattle.node_model.specs.SessionStep.{Here, Reply, by_of, close_kind, content_of, gives_made, gives_next, here, on_frame, on_piece, reply, reply_made, session_at, session_makes, session_step, shuts}
use Rattle.node_model.specs.Slots.{job_of}
use Rattle.node_model.specs.State.{State}
use Rattle.step_judging.specs.Telling.{failed_call, first_line, is_end, is_end_of, matches_told, part_told, room_told}
use Rattle.step_judging.proofs.Keeping.{Choice, Told}
use Rattle.step_judging.proofs.SessionKeeps.{first_said, frame_keep, is_guarding, next_keep, reply_trial}

-- ---- what an effect tells of

abbrev pub choice_told : (ℕ → Option Word) → Effect → Choice
choice_told words m = record { fails = failed_call m.kind; part = part_told m.kind (first_line m.sent); right = matches_told m.kind; words = words }

abbrev pub look_told : List Work → (ℕ → Option Word) → Look → Effect → Look
look_told ws words k m = record {
  time = k.time;
  count = k.count;
  at_hand = option_to_list m.taken;
  room = room_told ws (job_of m.kind) m.taken m.sent;
  fails = failed_call m.kind;
  part = part_told m.kind (first_line m.sent);
  right = matches_told m.kind;
  words = words;
}

-- ---- frames

pub waits_for : (c : End) (k : Look) (a : EndName) (f : FrameView) → k.at_hand ≡ f ∷ [] → (takes_at a f && may_take c f) ≡ true → waiting_frame c k a ≡ Some f
waits_for c k a f hand may = rw hand (rw may refl)

pub waits_none : (c : End) (k : Look) (a : EndName) → k.at_hand ≡ [] → waiting_frame c k a ≡ None
waits_none c k a hand = rw hand refl

frames_first : (a : EndName) (c : End) (says : List FrameText) → first_line (frames a c says) ≡ first_said says
frames_first a c [] = refl
frames_first a c (b ∷ bs) = refl

pub at_parts : (p s x y : ℕ) (b : Bool) → ((p == x) && (s == y) && b) ≡ true → (p ≡ x) × (s ≡ y)
at_parts p s x y b e =
    let one = and_parts ((p == x) && (s == y)) b e in
    let two = and_parts (p == x) (s == y) one.0 in
    (eqb-true p x two.0, eqb-true s y two.1)

-- one end takes the frame, or sends the first one
one_end : (taken : Option FrameView) (sent : List FrameView) (x y v w : ℕ) → is_end_of (server_end x y) taken sent ≡ true → is_end_of (server_end v w) taken sent ≡ true
    → server_end v w ≡ server_end x y
one_end (Some f) sent x y v w e g =
    let one = at_parts f.peer f.slot x y (same_bool false (if f.up then false else true)) e in
    let two = at_parts f.peer f.slot v w (same_bool false (if f.up then false else true)) g in
    let peers : v ≡ x = sym two.0 ∙ one.0 in
    let slots : w ≡ y = sym two.1 ∙ one.1 in
    ap (λ (p : ℕ). server_end p w) peers ∙ ap (λ (q : ℕ). server_end x q) slots
one_end None [] x y v w e g = absurd (cc)
one_end None (f ∷ fs) x y v w e g =
    let one = at_parts f.peer f.slot x y (same_bool f.up false) e in
    let two = at_parts f.peer f.slot v w (same_bool f.up false) g in
    let peers : v ≡ x = sym two.0 ∙ one.0 in
    let slots : w ≡ y = sym two.1 ∙ one.1 in
    ap (λ (p : ℕ). server_end p w) peers ∙ ap (λ (q : ℕ). server_end x q) slots

-- ---- a session's step says something where it takes nothing

abbrev SaysSome : Reply → Type 0
SaysSome x = (b : FrameText) × (bs : List FrameText) × (x.says ≡ b ∷ bs)

unless_either : {X : Type 0} (P : X → Type 0) (c : Option Call) (fault : Call → X) (x : X) → ((call : Call) → P (fault call)) → P x → P (unless c fault x)
unless_either P None fault x f g = g
unless_either P (Some c) fault x f g = f c

piece_says : (h : Here) (key : List ℕ) (at n : ℕ) → SaysSome (on_piece h key at n)
piece_says h key at n =
    let more : Reply = record { kind = Talk None; says = Bytes n ∷ []; calls = [] } in
    unless_either SaysSome (failing_call h.fails (calls.Read ∷ [])) (λ call. record { kind = Fault call (by_of h); says = Closing ∷ []; calls = [] })
    (if reaches (content_of h key) (at + n) then more else shuts (close_kind h))
    (λ call. (Closing, [], refl))
    (if_either SaysSome (reaches (content_of h key) (at + n)) more (shuts (close_kind h)) (λ e. (Bytes n, [], refl)) (λ e. (Closing, [], refl)))

abbrev next_reply : Here → List ℕ → ℕ → ℕ → Bool → Reply
next_reply h key at left good = if left == 0 then reply (Talk None) (if good then Valid else Invalid) else on_piece h key at (min 32768 left)

next_says : (h : Here) (key : List ℕ) (at left : ℕ) (good : Bool) → SaysSome (next_reply h key at left good)
next_says h key at left good =
    if_either SaysSome (left == 0) (reply (Talk None) (if good then Valid else Invalid)) (on_piece h key at (min 32768 left))
    (λ e. (Line (text_of (if good then Valid else Invalid)), [], refl)) (λ e. piece_says h key at (min 32768 left))

-- ---- what is found first

pub one_or_none : {X Y : Type 0} (f : X → Option Y) (y : Y) (xs : List X) → ((x : X) → (f x ≡ None) ⊎ (f x ≡ Some y)) → (x : X) → Member x xs → f x ≡ Some y → first_some f xs ≡ Some y
one_or_none f y [] each x among e = absurd among
one_or_none f y (z ∷ zs) each x among e = elim (each z) [
  | inr some ↦ rw some refl
  | inl none ↦ rw none (one_or_none f y zs each x (later among none) e)
]
  where
    later : Member x (z ∷ zs) → f z ≡ None → Member x zs
    later (inl same) none = absurd (let both : None ≡ Some y = sym none ∙ ap f (sym same) ∙ e in cc)
    later (inr more) none = more

-- what comes first is seen
pub first_seen : (x y : Option Effect) (n : Effect) → option_map as_told x ≡ Some n → option_map as_told (option_or x y) ≡ Some n
first_seen None y n e = absurd (cc)
first_seen (Some m) y n e = e

one_seen : {X : Type 0} (f : X → Option Effect) (n : Effect) (xs : List X) → ((x : X) → (f x ≡ None) ⊎ (option_map as_told (f x) ≡ Some n)) → (x : X) → Member x xs → option_map as_told (f x) ≡ Some n
    → option_map as_told (first_some f xs) ≡ Some n
one_seen f n [] each x among e = absurd among
one_seen f n (z ∷ zs) each x among e = elim (each z) [
  | inr some ↦ first_seen (f z) (first_some f zs) n some
  | inl none ↦ rw none (one_seen f n zs each x (later among none) e)
]
  where
    later : Member x (z ∷ zs) → f z ≡ None → Member x zs
    later (inl same) none = absurd (let both : option_map as_told None ≡ Some n = ap (option_map as_told) (sym none ∙ ap f (sym same)) ∙ e in cc)
    later (inr more) none = more

-- ---- one session

pub at_room : (s : SetUp) (st : State) (k : Look) (a : EndName) → k.room a ≡ true
    → session_at s st k a ≡ session_makes (here s st k a) (st.ends a) (st.sessions a) (waiting_frame (st.ends a) k a)
at_room s st k a e = rw e refl

pub at_none : (s : SetUp) (st : State) (k : Look) (a : EndName) → k.room a ≡ false → session_at s st k a ≡ None
at_none s st k a e = rw e refl

module _ (s : SetUp) (st : State) (k : Look) (words : ℕ → Option Word) (small : k.part < 2 ^ 62) where
  -- the words that a job's end reads
  abbrev pub SameWords : Effect → Type 0
  SameWords m = is_end m.kind ≡ true → words ≡ k.words

  abbrev pub k' : Effect → Look
  k' m = look_told st.works words k m

  record AtAgain (a : EndName) (m : Effect) : Type 0 where
    no_job : job_of m.kind ≡ None
    at_end : is_end_of a m.taken m.sent ≡ true
    unheld : failed_call m.kind ≡ Some calls.Unhold → (m.kind ≡ Fault calls.Unhold (Peer a.peer a.slot)) × (is_guarding (st.sessions a).doing ≡ true)
    again : SameWords m → option_map as_told (session_at s st (k' m) a) ≡ Some (as_told m)

  has_room' : (p q : ℕ) (m : Effect) → job_of m.kind ≡ None → is_end_of (server_end p q) m.taken m.sent ≡ true → (k' m).room (server_end p q) ≡ true
  has_room' p q m no_job at_end = rw (no_job, at_end) refl

  module _ (x y : ℕ) where
    abbrev a : EndName
    a = server_end x y

    abbrev c : End
    c = st.ends a

    abbrev h : Here
    h = here s st k a

    -- what a reply makes of its effect's look
    told : (c' : End) (taken : Option FrameView) (z : Reply) → (is_end z.kind ≡ true → words ≡ k.words) → Told (reply_trial h k.words (choice_told words (reply_made a c' taken z)) (is_guarding (st.sessions a).doing)) z
    told c' taken z same = record { fails_are = refl; part_is = ap (part_told z.kind) (frames_first a c' z.says); right_is = refl; words_are = same }

    takes_again : (f : FrameView) → (takes_at a f && may_take c f) ≡ true → AtAgain a (reply_made a (end_takes c f.epoch f.body) (Some f) (on_frame h (st.sessions a) f.body))
    takes_again f may =
        let c' = end_takes c f.epoch f.body in
        let z = on_frame h (st.sessions a) f.body in
        let m = reply_made a c' (Some f) z in
        let kept = frame_keep h k.words (choice_told words m) small (is_guarding (st.sessions a).doing) (st.sessions a) f.body (λ e. e) in
        let at_end : takes_at a f ≡ true = (and_parts (takes_at a f) (may_take c f) may).0 in
        record {
          no_job = kept.made_by;
          at_end = at_end;
          unheld = kept.unheld;
          again = λ same. ap (option_map as_told) (at_room s st (k' m) a (has_room' x y m kept.made_by at_end)
              ∙ ap (session_makes (here s st (k' m) a) c (st.sessions a)) (waits_for c (k' m) a f refl may))
              ∙ ap (λ (w : Reply). Some (reply_made a c' (Some f) w)) (kept.same (told c' (Some f) z same));
        }

    gives_again : (key : List ℕ) (at left : ℕ) (good : Bool) → (st.sessions a).doing ≡ Gives key at left good → c.opened ≡ true
        → AtAgain a (reply_made a c None (next_reply h key at left good))
    gives_again key at left good doing opened =
        let z = next_reply h key at left good in
        let m = reply_made a c None z in
        let kept = next_keep h k.words (choice_told words m) small (is_guarding (st.sessions a).doing) key at left good in
        let says = next_says h key at left good in
        let at_end : is_end_of a None (frames a c z.says) ≡ true =
        subst (λ (bs : List FrameText). is_end_of a None (frames a c bs) ≡ true) (sym says.2) (rw (eqb_refl x, eqb_refl y) refl) in
        let made : session_makes (here s st (k' m) a) c (st.sessions a) None ≡ Some (reply_made a c None (next_reply (here s st (k' m) a) key at left good)) =
        rw opened (rw doing refl) in
        record {
          no_job = kept.made_by;
          at_end = at_end;
          unheld = kept.unheld;
          again = λ same. ap (option_map as_told) (at_room s st (k' m) a (has_room' x y m kept.made_by at_end)
              ∙ ap (session_makes (here s st (k' m) a) c (st.sessions a)) (waits_none c (k' m) a refl)
              ∙ made)
              ∙ ap (λ (w : Reply). Some (reply_made a c None w)) (kept.same (told c None z same));
        }

    gives_next_again : (doing : Doing) → (st.sessions a).doing ≡ doing → c.opened ≡ true → (m : Effect) → gives_made a c (gives_next h doing) ≡ Some m → AtAgain a m
    gives_next_again (Gives key at left good) is opened m e =
        let same : reply_made a c None (next_reply h key at left good) ≡ m = cc in subst (AtAgain a) same (gives_again key at left good is opened)
    gives_next_again doing is opened m e = absurd (cc)

    none_again : (b : Bool) → c.opened ≡ b → (m : Effect) → (if b then gives_made a c (gives_next h (st.sessions a).doing) else None) ≡ Some m → AtAgain a m
    none_again true opened m e = gives_next_again (st.sessions a).doing refl opened m e
    none_again false opened m e = absurd (cc)

    makes_again : (o : Option FrameView) → waiting_frame c k a ≡ o → (m : Effect) → session_makes h c (st.sessions a) o ≡ Some m → AtAgain a m
    makes_again (Some f) is m e =
        let same : reply_made a (end_takes c f.epoch f.body) (Some f) (on_frame h (st.sessions a) f.body) ≡ m = cc in
        subst (AtAgain a) same (takes_again f (find_member (λ g. takes_at a g && may_take c g) k.at_hand f is).1)
    makes_again None is m e = none_again c.opened refl m e

    at_again : (m : Effect) → session_at s st k a ≡ Some m → AtAgain a m
    at_again m e = go (k.room a) e
      where
        go : (b : Bool) → (if b then session_makes h c (st.sessions a) (waiting_frame c k a) else None) ≡ Some m → AtAgain a m
        go true g = makes_again (waiting_frame c k a) refl m g
        go false g = absurd (cc)

  -- ---- the first session

  pub session_no_job : (m : Effect) → session_step s st k ≡ Some m → job_of m.kind ≡ None
  session_no_job m e =
      let w = first_some-was (λ (c : ℕ × ℕ). session_at s st k (server_end c.0 c.1)) (served_connections s) m e in
      (at_again w.0.0 w.0.1 m w.2).no_job

  -- a failed release is that of the hold that the session guards
  pub session_unheld : (m : Effect) → session_step s st k ≡ Some m → failed_call m.kind ≡ Some calls.Unhold
      → (peer slot : ℕ) × (m.kind ≡ Fault calls.Unhold (Peer peer slot)) × (is_guarding (st.sessions (server_end peer slot)).doing ≡ true)
  session_unheld m e f =
      let w = first_some-was (λ (c : ℕ × ℕ). session_at s st k (server_end c.0 c.1)) (served_connections s) m e in
      let h = (at_again w.0.0 w.0.1 m w.2).unheld f in
      (w.0.0, w.0.1, h.0, h.1)

  pub session_again : (m : Effect) → SameWords m → session_step s st k ≡ Some m → option_map as_told (session_step s st (k' m)) ≡ Some (as_told m)
  session_again m same e =
      let w = first_some-was (λ (c : ℕ × ℕ). session_at s st k (server_end c.0 c.1)) (served_connections s) m e in
      let it = at_again w.0.0 w.0.1 m w.2 in
      one_seen (λ (c : ℕ × ℕ). session_at s st (k' m) (server_end c.0 c.1)) (as_told m) (served_connections s)
      (λ c. each w.0.0 w.0.1 it c.0 c.1 (is_end_of (server_end c.0 c.1) m.taken m.sent) refl) w.0 w.1 (it.again same)
    where
      each : (p q : ℕ) → AtAgain (server_end p q) m → (v w : ℕ) (b : Bool) → is_end_of (server_end v w) m.taken m.sent ≡ b
          → (session_at s st (k' m) (server_end v w) ≡ None) ⊎ (option_map as_told (session_at s st (k' m) (server_end v w)) ≡ Some (as_told m))
      each p q it v w true is =
          let one : server_end v w ≡ server_end p q = one_end m.taken m.sent p q v w it.at_end is in
          inr (ap (λ z. option_map as_told (session_at s st (k' m) z)) one ∙ it.again same)
      each p q it v w false is = inl (at_none s st (k' m) (server_end v w) (rw (it.no_job, is) refl))

  -- no session has a step with the look that a job's effect tells of
  pub session_passed : (m : Effect) (j : ℕ) → job_of m.kind ≡ Some j → session_step s st (k' m) ≡ None
  session_passed m j by = none (served_connections s)
    where
      none : (cs : List (ℕ × ℕ)) → first_some (λ (c : ℕ × ℕ). session_at s st (k' m) (server_end c.0 c.1)) cs ≡ None
      none [] = refl
      none (c ∷ cs) = rw (at_none s st (k' m) (server_end c.0 c.1) (rw by refl)) (none cs)
