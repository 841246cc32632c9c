-- On the newest epoch of an open server's end the answers sent, and one more while a content is given, are the requests taken;
-- on any epoch they are at most these; on a later one there are none.
use Rattle.std.proofs.Common.{◌≡◌, ℕ, suc, ◌+◌, ◌<◌, ◌≤◌, Bool, true, false, List, [], ◌∷◌, length, Some, inl, inr, refl, sym, ap, ◌∙◌, subst, arith}
use Rattle.std.specs.Prelude.{if◌then◌else◌, ◌==◌, ◌&&◌, filter, nat_lt, not}
use Rattle.std.proofs.lemmas.Bool.Decides.{nat_tests}
use Rattle.std.proofs.lemmas.Bool.{and_parts, eqb-true}
use Rattle.annex_base.specs.Lists.{Each, Member}
use Rattle.annex_base.proofs.Lists.{Each-filter, filter_none}
use Rattle.run_data.specs.declared.entry.Entry.{Entry}
use Rattle.run_data.specs.declared.entry.FrameView.{FrameView}
use Rattle.run_data.specs.declared.entry.FrameText.{FrameText}
use Rattle.run_data.specs.declared.entry.FrameText.TheVariants.{Opening, Closing, Bytes, Line}
use Rattle.run_data.specs.Repos.{id_of}
use Rattle.run_model.specs.Past.{Always, is_of}
use Rattle.p2p_wire.specs.declared.message.Message.{Message}
use Rattle.p2p_wire.specs.declared.message.Message.TheVariants.{AuthSuccess}
use Rattle.p2p_wire.specs.Messages.{message_of}
use Rattle.step_facts.proofs.Ways.{is_answer}
use Rattle.run_model.specs.Said.{is_request, message_in}
use Rattle.run_model.specs.Frames.{sent_if, says, taken_if}
use Rattle.node_model.specs.SetUp.{SetUp}
use Rattle.node_model.specs.Ends.{End, EndName, end_sends, end_takes, frames, is_opening, sent_at, server_end, taken_at}
use Rattle.run_model.specs.States.{end_at, content, session, state_of}
use Rattle.node_model.specs.Sessions.{Session, new_session, sends_close, sent_more, session_after, session_left, session_took}
use Rattle.node_model.specs.SessionStep.{Here, here, on_frame}
use Rattle.run_model.specs.Run.{OwnRun}
use Rattle.step_facts.proofs.ServerEnds.{AtServer, GivesHere, Shuts, TakesHere, at_server}
use Rattle.step_facts.proofs.EndMoves.{NoOpening, OpensNone, all_epoch, all_opened, end_gave, end_own, end_shuts, end_took-is, frame_none, gave_none, gave_one, may_epoch, opening_closed, own_induction, pieces_none, sends_all, sent_gave, sent_took, session_own, shuts_none, taken_none, takes_epoch, took_at, took_none}
use Rattle.step_facts.proofs.NewSessions.{close_shuts, closed_new, new_left}
use Rattle.run_laws.proofs.WayCounts.{count_in, hits, in_count, in_other, one_if, out_count, out_other, plus_none, way_in, way_out}
use Rattle.run_laws.proofs.SaidDown.{said_closing, said_opening}
use Rattle.run_laws.proofs.TurnFits.{Fits, ReadsOne, answers_in, busy, frame_fits, one_answers, pieces_fit}

-- each line that is sent down is read
abbrev pub IsRead : Entry → Type 0
IsRead e = (g : FrameView) (text : List ℕ) → Member g e.sent → g.up ≡ false → g.body ≡ Line text → (k : Message) × (message_of text ≡ Some k)

abbrev pub AllRead : ℕ → List Entry → Type 0
AllRead r past = Always (λ p e. is_of r e ≡ true → IsRead e) past

-- ---- the counts, in numbers

pub record Balanced (c : End) (b : ℕ) (A R : ℕ → ℕ) : Type 0 where
  pub later : (n : ℕ) → c.epoch < n → (A n ≡ 0) × (R n ≡ 0)
  pub older : (n : ℕ) → A n ≤ R n
  pub now : c.opened ≡ true → A c.epoch + b ≡ R c.epoch

abbrev at : ℕ → ℕ → ℕ → ℕ
at k n d = if k == n then d else 0

at_same : (k d : ℕ) → at k k d ≡ d
at_same k d = let yes' : (k == k) ≡ true = grind arith in rw yes' refl

at_none : (k n : ℕ) → at k n 0 ≡ 0
at_none k n = go (k == n)
  where
    none' : Bool → ℕ
    none' b = if b then 0 else 0

    go : (b : Bool) → none' b ≡ 0
    go true = refl
    go false = refl

at_other : (k n d : ℕ) → k < n → at k n d ≡ 0
at_other k n d l = let no' : (k == n) ≡ false = grind (arith, nat_tests) in rw no' refl

-- a session that closes fits as well
left_fits : (b da dr : ℕ) (shut : Bool) (x : Session) (o : Bool) → (shut ≡ true → o ≡ false) → Fits b (busy x.doing) da dr o → Fits b (busy (session_left shut x).doing) da dr o
left_fits b da dr true x o f y = record { within = y.within; turn = λ e. absurd (let no : true ≡ false = sym e ∙ f refl in cc) }
left_fits b da dr false x o f y = y

-- nothing is added
kept_balanced : (c c' : End) (b b' : ℕ) (A R A' R' : ℕ → ℕ) → c'.epoch ≡ c.epoch → (c'.opened ≡ true → c.opened ≡ true) → (c'.opened ≡ true → b' ≡ b) → ((n : ℕ) → A' n ≡ A n) → ((n : ℕ) → R' n ≡ R n)
    → Balanced c b A R → Balanced c' b' A' R'
kept_balanced c c' b b' A R A' R' same opened doing a r x = record {
  later = λ n l. let old = x.later n (subst (λ k. k < n) same l) in (a n ∙ old.0, r n ∙ old.1);
  older = λ n. subst (λ k. k ≤ R' n) (sym (a n)) (subst (λ k. A n ≤ k) (sym (r n)) (x.older n));
  now = λ o. ap (λ k. A' k + b') same ∙ ap (λ k. k + b') (a c.epoch) ∙ ap (λ k. A c.epoch + k) (doing o) ∙ x.now (opened o) ∙ sym (r c.epoch) ∙ ap R' (sym same);
}

-- so much is added on the open end's epoch
adds_balanced : (c c' : End) (b b' da dr : ℕ) (A R A' R' : ℕ → ℕ) → c.opened ≡ true → c'.epoch ≡ c.epoch → Fits b b' da dr c'.opened
    → ((n : ℕ) → A' n ≡ A n + at c.epoch n da) → ((n : ℕ) → R' n ≡ R n + at c.epoch n dr) → Balanced c b A R → Balanced c' b' A' R'
adds_balanced c c' b b' da dr A R A' R' opened same fits a r x = record { later = late; older = old; now = turn }
  where
    was : A c.epoch + b ≡ R c.epoch
    was = x.now opened

    late : (n : ℕ) → c'.epoch < n → (A' n ≡ 0) × (R' n ≡ 0)
    late n l =
        let less : c.epoch < n = subst (λ k. k < n) same l in
        let o = x.later n less in
        let p : at c.epoch n da ≡ 0 = at_other c.epoch n da less in
        let q : at c.epoch n dr ≡ 0 = at_other c.epoch n dr less in
        let i : A' n ≡ A n + at c.epoch n da = a n in
        let j : R' n ≡ R n + at c.epoch n dr = r n in
        let u : A n ≡ 0 = o.0 in
        let v : R n ≡ 0 = o.1 in
        (i ∙ ap (λ k. k + at c.epoch n da) u ∙ ap (λ k. 0 + k) p, j ∙ ap (λ k. k + at c.epoch n dr) v ∙ ap (λ k. 0 + k) q)

    bound : (n : ℕ) (p q : ℕ) → A n + b ≡ R n → p ≡ A n + da → q ≡ R n + dr → p ≤ q
    bound n p q w i j = let f : da ≤ b + dr = fits.within in omega (arith, w, i, j, f)

    old : (n : ℕ) → A' n ≤ R' n
    old n = go (c.epoch == n) refl
      where
        go : (t : Bool) → (c.epoch == n) ≡ t → A' n ≤ R' n
        go true is =
            let k : c.epoch ≡ n = eqb-true c.epoch n is in
            bound n (A' n) (R' n) (subst (λ m. A m + b ≡ R m) k was) (a n ∙ rw is refl) (r n ∙ rw is refl)
        go false is =
            let i : A' n ≡ A n + 0 = a n ∙ rw is refl in
            let j : R' n ≡ R n + 0 = r n ∙ rw is refl in
            let o : A n ≤ R n = x.older n in
            omega (arith, i, j, o)

    turn : c'.opened ≡ true → A' c'.epoch + b' ≡ R' c'.epoch
    turn o =
        let i : A' c.epoch ≡ A c.epoch + da = a c.epoch ∙ ap (λ k. A c.epoch + k) (at_same c.epoch da) in
        let j : R' c.epoch ≡ R c.epoch + dr = r c.epoch ∙ ap (λ k. R c.epoch + k) (at_same c.epoch dr) in
        let f : da + b' ≡ b + dr = fits.turn o in
        let w : A c.epoch + b ≡ R c.epoch = was in
        let here' : A' c.epoch + b' ≡ R' c.epoch = omega (arith, i, j, f, w) in
        subst (λ k. A' k + b' ≡ R' k) (sym same) here'

-- one request opens a later epoch, and has its answer
opens_balanced : (c c' : End) (b b' k : ℕ) (A R A' R' : ℕ → ℕ) → c.epoch < k → c'.epoch ≡ k → b' ≡ 0
    → ((n : ℕ) → A' n ≡ A n + at k n 1) → ((n : ℕ) → R' n ≡ R n + at k n 1) → Balanced c b A R → Balanced c' b' A' R'
opens_balanced c c' b b' k A R A' R' up same calm' a r x = record { later = late; older = old; now = turn }
  where
    late : (n : ℕ) → c'.epoch < n → (A' n ≡ 0) × (R' n ≡ 0)
    late n l =
        let less : k < n = subst (λ m. m < n) same l in
        let far : c.epoch < n = omega arith in
        let o = x.later n far in
        (a n ∙ ap (λ m. m + at k n 1) o.0 ∙ ap (λ m. 0 + m) (at_other k n 1 less), r n ∙ ap (λ m. m + at k n 1) o.1 ∙ ap (λ m. 0 + m) (at_other k n 1 less))

    old : (n : ℕ) → A' n ≤ R' n
    old n = let i : A' n ≡ A n + at k n 1 = a n in let j : R' n ≡ R n + at k n 1 = r n in let o : A n ≤ R n = x.older n in more (A' n) (R' n) (at k n 1) i j o
      where
        more : (p q m : ℕ) → p ≡ A n + m → q ≡ R n + m → A n ≤ R n → p ≤ q
        more p q m i j o = omega (arith, i, j, o)

    turn : c'.opened ≡ true → A' c'.epoch + b' ≡ R' c'.epoch
    turn o =
        let none = x.later k up in
        let i : A' k ≡ 1 = a k ∙ ap (λ m. m + at k k 1) none.0 ∙ ap (λ m. 0 + m) (at_same k 1) in
        let j : R' k ≡ 1 = r k ∙ ap (λ m. m + at k k 1) none.1 ∙ ap (λ m. 0 + m) (at_same k 1) in
        let here' : A' k + b' ≡ R' k = omega (arith, i, j, calm') in
        subst (λ m. A' m + b' ≡ R' m) (sym same) here'

-- ---- what is sent and taken at an end, in numbers

-- the answers among the frames of an end, by epoch
count_frames : (a : EndName) (c : End) (n : ℕ) (bodies : List FrameText) → NoOpening bodies → count_in is_answer n (frames a c bodies) ≡ at c.epoch n (answers_in bodies)
count_frames a c n [] none = sym (at_none c.epoch n)
count_frames a c n (body ∷ bodies) none = go (c.epoch == n) refl (count_frames a (end_sends c body) n bodies none.1)
  where
    epoch : (end_sends c body).epoch ≡ c.epoch
    epoch = all_epoch c (frames a c (body ∷ [])) (none.0, tt)

    one : (b : Bool) → is_answer (message_in body) ≡ b → (fs : List FrameView) → length (filter (says is_answer) fs) ≡ answers_in bodies
        → length (filter (says is_answer) (record { peer = a.peer; slot = a.slot; up = a.client; epoch = (end_sends c body).epoch; seq = (end_sends c body).sent; body = body } ∷ fs)) ≡ answers_in (body ∷ bodies)
    one true is fs ih = rw is (ap suc ih)
    one false is fs ih = rw is ih

    go : (t : Bool) → (c.epoch == n) ≡ t → count_in is_answer n (frames a (end_sends c body) bodies) ≡ at (end_sends c body).epoch n (answers_in bodies)
        → count_in is_answer n (frames a c (body ∷ bodies)) ≡ at c.epoch n (answers_in (body ∷ bodies))
    go true is ih =
        let e : ((end_sends c body).epoch == n) ≡ true = ap (λ k. k == n) epoch ∙ is in
        rw (e, is) (one (is_answer (message_in body)) refl (filter (λ g. g.epoch == n) (frames a (end_sends c body) bodies)) (rw e at ih))
    go false is ih =
        let e : ((end_sends c body).epoch == n) ≡ false = ap (λ k. k == n) epoch ∙ is in
        rw (e, is) (rw e at ih)

-- a Close is no answer
shuts_count : (n : ℕ) (fs : List FrameView) → Each (λ g. g.body ≡ Closing) fs → count_in is_answer n fs ≡ 0
shuts_count n fs all = ap length (filter_none (says is_answer) (filter (λ g. g.epoch == n) fs) (Each-filter (λ g. says is_answer g ≡ false) (λ g. g.epoch == n) fs (none fs all)))
  where
    none : (gs : List FrameView) → Each (λ g. g.body ≡ Closing) gs → Each (λ g. says is_answer g ≡ false) gs
    none [] z = tt
    none (g ∷ gs) z = (ap (λ b. is_answer (message_in b)) z.0 ∙ ap is_answer said_closing, none gs z.1)

hits_at : (n : ℕ) (f : FrameView) (k : ℕ) → f.epoch ≡ k → one_if (hits is_request n (Some f)) ≡ at k n (one_if (is_request (message_in f.body)))
hits_at n f k e = ap (λ j. one_if ((j == n) && is_request (message_in f.body))) e ∙ go (k == n)
  where
    go : (b : Bool) → one_if (b && is_request (message_in f.body)) ≡ (if b then one_if (is_request (message_in f.body)) else 0)
    go true = refl
    go false = refl

-- ---- an own entry

abbrev pub answered : ℕ → EndName → List Entry → ℕ → ℕ
answered r a past n = length (sent_if is_answer past (way_out r a n))

abbrev pub asked : ℕ → EndName → List Entry → ℕ → ℕ
asked r a past n = taken_if is_request past (way_in r a n)

-- the answers of an end come in turn
abbrev pub Turns : ℕ → EndName → List Entry → Type 0
Turns r a past = Balanced (end_at past r a) (busy (session past r a).doing) (answered r a past) (asked r a past)

module _ (s : SetUp) (past : List Entry) (e : Entry) (p q : ℕ) (is : is_of s.number e ≡ true) (read : IsRead e)
    (closed : (end_at past s.number (server_end p q)).opened ≡ false → session past s.number (server_end p q) ≡ new_session) where
  abbrev r : ℕ
  r = s.number

  abbrev a : EndName
  a = server_end p q

  abbrev c : End
  c = end_at past s.number a

  abbrev c' : End
  c' = end_at (e ∷ past) s.number a

  abbrev was : Session
  was = session past s.number a

  turns_shut : Shuts a e → Turns r a past → Turns r a (e ∷ past)
  turns_shut x old =
      let none : OpensNone (sent_at a e.sent) = shuts_none (sent_at a e.sent) x.closes in
      let end' : c' ≡ sends_all c (sent_at a e.sent) = end_own r past a e is ∙ end_shuts a c e x in
      let doing : c'.opened ≡ true → (session (e ∷ past) r a).doing ≡ was.doing = λ o.
      ap (λ (z : Session). z.doing) (session_own r past a e is ∙ ap (λ t. session_after (content past r) e.kind was (sent_at a e.sent) t) x.takes_none)
      ∙ quiet (sent_at a e.sent) x.closes (sym (ap (λ (z : End). z.opened) end') ∙ o) in
      kept_balanced c c' (busy was.doing) (busy (session (e ∷ past) r a).doing) (answered r a past) (asked r a past) (answered r a (e ∷ past)) (asked r a (e ∷ past))
      (ap (λ (z : End). z.epoch) end' ∙ all_epoch c (sent_at a e.sent) none)
      (λ o. all_opened c (sent_at a e.sent) none (sym (ap (λ (z : End). z.opened) end') ∙ o))
      (λ o. ap busy (doing o))
      (λ n. out_count is_answer r a n e past is ∙ plus_none (answered r a past n) (count_in is_answer n (sent_at a e.sent)) (shuts_count n (sent_at a e.sent) x.closes))
      (λ n. in_count is_request r a n e past is ∙ plus_none (asked r a past n) (one_if (hits is_request n (taken_at a e.taken))) (ap (λ o. one_if (hits is_request n o)) x.takes_none))
      old
    where
      quiet : (fs : List FrameView) → Each (λ g. g.body ≡ Closing) fs → (sends_all c fs).opened ≡ true → (session_left (sends_close fs) (sent_more was fs)).doing ≡ was.doing
      quiet [] z o = refl
      quiet (f ∷ fs) z o = absurd (let no : true ≡ false = sym o ∙ close_shuts c (f ∷ fs) (shuts_none (f ∷ fs) z) (rw z.0 refl) in cc)

  turns_give : GivesHere s past a e → Turns r a past → Turns r a (e ∷ past)
  turns_give x old =
      let none : OpensNone (sent_at a e.sent) = gave_none s past a e x in
      let end' : c' ≡ sends_all c (frames a c x.x.says) = end_own r past a e is ∙ end_gave s past a e x ∙ ap (sends_all c) (sent_gave s past a e x) in
      let now' : session (e ∷ past) r a ≡ session_left (sends_close (frames a c x.x.says)) (sent_more was (frames a c x.x.says)) =
      session_own r past a e is ∙ ap (λ o. session_after (content past r) e.kind was (sent_at a e.sent) o) (taken_none s past a e x) ∙ ap (λ fs. session_left (sends_close fs) (sent_more was fs)) (sent_gave s past a e x) in
      adds_balanced c c' (busy was.doing) (busy (session (e ∷ past) r a).doing) (answers_in x.x.says) 0 (answered r a past) (asked r a past) (answered r a (e ∷ past)) (asked r a (e ∷ past))
      x.opened
      (ap (λ (z : End). z.epoch) end' ∙ all_epoch c (frames a c x.x.says) (subst OpensNone (sent_gave s past a e x) none))
      (subst (λ (z : End). Fits (busy was.doing) (busy (session (e ∷ past) r a).doing) (answers_in x.x.says) 0 z.opened) (sym end')
      (subst (λ (z : Session). Fits (busy was.doing) (busy z.doing) (answers_in x.x.says) 0 (sends_all c (frames a c x.x.says)).opened) (sym now')
      (left_fits (busy was.doing) (answers_in x.x.says) 0 (sends_close (frames a c x.x.says)) (sent_more was (frames a c x.x.says)) (sends_all c (frames a c x.x.says)).opened
      (close_shuts c (frames a c x.x.says) (subst OpensNone (sent_gave s past a e x) none)) (pieces_fit was a c x.x.says (gave_one s past a e x)))))
      (λ n. out_count is_answer r a n e past is ∙ ap (λ fs. answered r a past n + count_in is_answer n fs) (sent_gave s past a e x)
      ∙ ap (λ k. answered r a past n + k) (count_frames a c n x.x.says (pieces_none was.doing x.x.says (gave_one s past a e x).1)))
      (λ n. in_count is_request r a n e past is ∙ ap (λ o. asked r a past n + one_if (hits is_request n o)) (taken_none s past a e x) ∙ ap (λ k. asked r a past n + k) (sym (at_none c.epoch n)))
      old

  module _ (x : TakesHere s past a e) where
    abbrev h : Here
    h = here s (state_of s past) x.k a

    abbrev told : List FrameText
    told = (on_frame h was x.f.body).says

    abbrev d : End
    d = end_takes c x.f.epoch x.f.body

    ends_so : c' ≡ sends_all d (frames a d told)
    ends_so = end_own r past a e is ∙ end_took-is s past a e x ∙ ap (sends_all d) (sent_took s past a e x)

    abbrev goes : Session
    goes = session_took (content past r) (on_frame h was x.f.body).kind was (frames a d told) x.f.body

    does_so : session (e ∷ past) r a ≡ session_left (sends_close (frames a d told)) goes
    does_so = session_own r past a e is ∙ ap (λ o. session_after (content past r) e.kind was (sent_at a e.sent) o) (took_at s past a e x)
        ∙ ap (λ fs. session_left (sends_close fs) (session_took (content past r) e.kind was fs x.f.body)) (sent_took s past a e x)
        ∙ ap (λ kind. session_left (sends_close (frames a d told)) (session_took (content past r) kind was (frames a d told) x.f.body)) x.kind_is

    says_none : NoOpening told
    says_none = frame_none h was x.f.body

    opens_none : OpensNone (frames a d told)
    opens_none = subst OpensNone (sent_took s past a e x) (took_none s past a e x)

    epoch_so : c'.epoch ≡ d.epoch
    epoch_so = ap (λ (z : End). z.epoch) ends_so ∙ all_epoch d (frames a d told) opens_none

    reads : ReadsOne told
    reads text one =
        let all : e.sent ≡ frames a d (Line text ∷ []) = x.sent_is ∙ ap (frames a d) one in
        let g : FrameView = record { peer = p; slot = q; up = false; epoch = (end_sends d (Line text)).epoch; seq = (end_sends d (Line text)).sent; body = Line text } in
        read g text (subst (Member g) (sym all) (inl refl)) refl refl

    adds_out : (n : ℕ) → answered r a (e ∷ past) n ≡ answered r a past n + at d.epoch n (answers_in told)
    adds_out n = out_count is_answer r a n e past is ∙ ap (λ fs. answered r a past n + count_in is_answer n fs) (sent_took s past a e x) ∙ ap (λ k. answered r a past n + k) (count_frames a d n told says_none)

    adds_in : (n : ℕ) → x.f.epoch ≡ d.epoch → asked r a (e ∷ past) n ≡ asked r a past n + at d.epoch n (one_if (is_request (message_in x.f.body)))
    adds_in n same = in_count is_request r a n e past is ∙ ap (λ o. asked r a past n + one_if (hits is_request n o)) (took_at s past a e x) ∙ ap (λ k. asked r a past n + k) (hits_at n x.f d.epoch same)

    -- a frame of the epoch
    turns_line : is_opening x.f.body ≡ false → Turns r a past → Turns r a (e ∷ past)
    turns_line none old =
        let may = may_epoch c x.f none x.may in
        let same : d.epoch ≡ c.epoch = takes_epoch c x.f.epoch x.f.body none in
        let over : x.f.epoch ≡ d.epoch = may.1 ∙ sym same in
        adds_balanced c c' (busy was.doing) (busy (session (e ∷ past) r a).doing) (answers_in told) (one_if (is_request (message_in x.f.body))) (answered r a past) (asked r a past) (answered r a (e ∷ past)) (asked r a (e ∷ past))
        may.0 (epoch_so ∙ same)
        (subst (λ (z : End). Fits (busy was.doing) (busy (session (e ∷ past) r a).doing) (answers_in told) (one_if (is_request (message_in x.f.body))) z.opened) (sym ends_so)
        (subst (λ (z : Session). Fits (busy was.doing) (busy z.doing) (answers_in told) (one_if (is_request (message_in x.f.body))) (sends_all d (frames a d told)).opened) (sym does_so)
        (left_fits (busy was.doing) (answers_in told) (one_if (is_request (message_in x.f.body))) (sends_close (frames a d told)) goes (sends_all d (frames a d told)).opened
        (close_shuts d (frames a d told) opens_none) (frame_fits h (content past r) was a d x.f.body not_open shut reads))))
        (λ n. adds_out n ∙ ap (λ k. answered r a past n + at k n (answers_in told)) same)
        (λ n. adds_in n over ∙ ap (λ k. asked r a past n + at k n (one_if (is_request (message_in x.f.body)))) same)
        old
      where
        not_open : x.f.body ≡ Opening → ⊥
        not_open i = let yes' : is_opening x.f.body ≡ true = rw i refl in absurd (cc)

        shut : x.f.body ≡ Closing → d.opened ≡ false
        shut i = rw i refl

    -- an Opening
    turns_open : x.f.body ≡ Opening → Turns r a past → Turns r a (e ∷ past)
    turns_open i old =
        let at' : d.epoch ≡ x.f.epoch = ap (λ b. (end_takes c x.f.epoch b).epoch) i in
        let up : c.epoch < x.f.epoch = opens x.f.body i x.may in
        let one : answers_in told ≡ 1 = one_answers told (AuthSuccess (id_of s.repos s.number)) (ap (λ b. (on_frame h was b).says) i) refl reads in
        let req : one_if (is_request (message_in x.f.body)) ≡ 1 = ap (λ b. one_if (is_request (message_in b))) i ∙ ap (λ m. one_if (is_request m)) said_opening in
        opens_balanced c c' (busy was.doing) (busy (session (e ∷ past) r a).doing) x.f.epoch (answered r a past) (asked r a past) (answered r a (e ∷ past)) (asked r a (e ∷ past))
        up (epoch_so ∙ at')
        (ap (λ (z : Session). busy z.doing) (does_so ∙ new))
        (λ n. adds_out n ∙ ap (λ k. answered r a past n + at k n (answers_in told)) at' ∙ ap (λ k. answered r a past n + at x.f.epoch n k) one)
        (λ n. adds_in n (sym at') ∙ ap (λ k. asked r a past n + at k n (one_if (is_request (message_in x.f.body)))) at' ∙ ap (λ k. asked r a past n + at x.f.epoch n k) req)
        old
      where
        new : session_left (sends_close (frames a d told)) goes ≡ new_session
        new = new_left (sends_close (frames a d told)) goes (λ none. go x.f.body i ∙ closed (opening_closed c x.f (ap is_opening i) x.may))
          where
            go : (body : FrameText) → body ≡ Opening → session_took (content past r) (on_frame h was x.f.body).kind was (frames a d told) body ≡ was
            go Opening j = refl
            go Closing j = absurd (cc)
            go (Bytes n) j = absurd (cc)
            go (Line text) j = absurd (cc)

        opens : (body : FrameText) → body ≡ Opening → (if is_opening body then not c.opened && nat_lt c.epoch x.f.epoch else c.opened && (x.f.epoch == c.epoch)) ≡ true → c.epoch < x.f.epoch
        opens Opening j may = let l : nat_lt c.epoch x.f.epoch ≡ true = (and_parts (not c.opened) (nat_lt c.epoch x.f.epoch) may).1 in grind (arith, nat_tests)
        opens Closing j may = absurd (cc)
        opens (Bytes n) j may = absurd (cc)
        opens (Line text) j may = absurd (cc)

    turns_take : Turns r a past → Turns r a (e ∷ past)
    turns_take old = go x.f.body refl
      where
        go : (body : FrameText) → x.f.body ≡ body → Turns r a (e ∷ past)
        go Opening i = turns_open i old
        go Closing i = turns_line (ap is_opening i) old
        go (Bytes n) i = turns_line (ap is_opening i) old
        go (Line text) i = turns_line (ap is_opening i) old

  turns_own : AtServer s past a e → Turns r a past → Turns r a (e ∷ past)
  turns_own (inl x) old = turns_shut x old
  turns_own (inr (inl x)) old = turns_take x old
  turns_own (inr (inr x)) old = turns_give x old

-- answers come in turn at each end of a server
pub in_turn : (s : SetUp) (p q : ℕ) (past : List Entry) → OwnRun s past → AllRead s.number past → Turns s.number (server_end p q) past
in_turn s p q past run = own_induction s (λ past. AllRead s.number past → Turns s.number (server_end p q) past)
    (λ all. record { later = λ n l. (refl, refl); older = λ n. omega arith; now = λ o. absurd (cc) })
    (λ past e is old all. other past e is (old all.1))
    (λ past e words run is part old all. turns_own s past e p q is (all.0 is) (closed_new s p q past run) (at_server s past words e p q part) (old all.1))
    past run
  where
    other : (past : List Entry) (e : Entry) → is_of s.number e ≡ false → Turns s.number (server_end p q) past → Turns s.number (server_end p q) (e ∷ past)
    other past e is old =
        let end' : end_at (e ∷ past) s.number (server_end p q) ≡ end_at past s.number (server_end p q) = rw is refl in
        let doing : session (e ∷ past) s.number (server_end p q) ≡ session past s.number (server_end p q) = rw is refl in
        kept_balanced (end_at past s.number (server_end p q)) (end_at (e ∷ past) s.number (server_end p q)) (busy (session past s.number (server_end p q)).doing) (busy (session (e ∷ past) s.number (server_end p q)).doing)
        (answered s.number (server_end p q) past) (asked s.number (server_end p q) past) (answered s.number (server_end p q) (e ∷ past)) (asked s.number (server_end p q) (e ∷ past))
        (ap (λ (z : End). z.epoch) end') (λ o. sym (ap (λ (z : End). z.opened) end') ∙ o) (λ o. ap (λ (z : Session). busy z.doing) doing)
        (λ n. ap length (out_other is_answer s.number (server_end p q) n e past is)) (λ n. in_other is_request s.number (server_end p q) n e past is) old
