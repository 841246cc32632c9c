-- What an end of a client has counted since its opening is what stands on the ways of its present epoch.
use Rattle.std.proofs.Common.{◌≡◌, ℕ, ◌+◌, ◌<◌, Bool, true, false, List, [], ◌∷◌, ◌++◌, length, Option, Some, None, ◌⊎◌, inl, inr, refl, sym, ap, ◌∙◌, subst, arith, append-nil, length-append, add-zero, not}
use Rattle.std.specs.Prelude.{if◌then◌else◌, ◌==◌, ◌&&◌, filter, fold, map, nat_lt, option_map}
use Rattle.std.proofs.lemmas.Bool.Decides.{nat_tests}
use Rattle.std.proofs.lemmas.Bool.{eqb-true}
use Rattle.std.proofs.lemmas.List.Elements.{filter-append}
use Rattle.annex_base.specs.Lists.{Each}
use Rattle.annex_base.proofs.Conditions.{and_regrouped, and_second, eqb_refl}
use Rattle.annex_base.specs.Bools.{same_bool}
use Rattle.run_data.specs.declared.entry.Entry.{Entry}
use Rattle.run_data.specs.declared.entry.FrameView.{FrameView}
use Rattle.run_data.specs.declared.entry.FrameText.{FrameText}
use Rattle.run_data.specs.declared.entry.FrameText.TheVariants.{Opening, Closing, Bytes, Line}
use Rattle.p2p_wire.specs.declared.message.Message.{Message}
use Rattle.p2p_wire.specs.Messages.{message_of}
use Rattle.run_model.specs.Said.{said_line, message_in, is_request}
use Rattle.step_facts.proofs.Ways.{is_answer}
use Rattle.run_model.specs.Past.{Always, is_of}
use Rattle.run_model.specs.Frames
use Rattle.run_model.specs.Frames.{Way, FlyingFrame, flying_frame, is_on, last_of, on_way, requests, says, taken_if, takes_if}
use Rattle.node_model.specs.Ends.{is_opening, end_takes, EndName, End, end_after, end_sends, end_took, may_take, sends_at, sent_at, taken_at, takes_at}
use Rattle.run_model.specs.States.{end_at}
use Rattle.node_model.specs.Sessions.{line_in}
use Rattle.step_facts.proofs.ClientCounts.{counts_takes, counts_answer, counts_line, Counts, Request, answers_it, asks_for, counts_after, counts_at, counts_sends, counts_took, is_answering, is_asking, request}
use Rattle.step_facts.proofs.ClientRuns.{client_end}

-- ---- requests and answers are the same

asks_line : (m : Option Message) → is_request (said_line m) ≡ asks_for m
asks_line None = refl
asks_line (Some m) = refl

answers_line : (m : Option Message) → is_answer (said_line m) ≡ answers_it m
answers_line None = refl
answers_line (Some m) = refl

pub asks_body : (body : FrameText) → is_request (message_in body) ≡ is_asking body
unfolding message_in
asks_body Opening = refl
asks_body Closing = refl
asks_body (Bytes n) = refl
asks_body (Line text) = asks_line (message_of text)

pub answers_body : (body : FrameText) → is_answer (message_in body) ≡ is_answering body
unfolding message_in
answers_body Opening = refl
answers_body Closing = refl
answers_body (Bytes n) = refl
answers_body (Line text) = answers_line (message_of text)

-- ---- what stands on the ways of each epoch

-- when a request was made, and which
abbrev pub asked_by : FlyingFrame → Request
asked_by x = request x.entry.time (line_in x.frame.body)

-- the requests of each epoch, and how many answers of it were taken
pub record Agree (R : ℕ → List FlyingFrame) (T : ℕ → ℕ) (c : End) (q : Counts) : Type 0 where
  pub asked : length (R c.epoch) ≡ q.asked
  pub last : option_map asked_by (last_of (R c.epoch)) ≡ q.last
  pub got : T c.epoch ≡ q.got
  pub none_sent : (n : ℕ) → c.epoch < n → R n ≡ []
  pub none_got : (n : ℕ) → c.epoch < n → T n ≡ 0

agree_by : (R R' : ℕ → List FlyingFrame) (T T' : ℕ → ℕ) (c : End) (q : Counts) → ((n : ℕ) → R' n ≡ R n) → ((n : ℕ) → T' n ≡ T n) → Agree R T c q → Agree R' T' c q
agree_by R R' T T' c q r t x = record {
  asked = ap length (r c.epoch) ∙ x.asked;
  last = ap (λ (fs : List FlyingFrame). option_map asked_by (last_of fs)) (r c.epoch) ∙ x.last;
  got = t c.epoch ∙ x.got;
  none_sent = λ n l. r n ∙ x.none_sent n l;
  none_got = λ n l. t n ∙ x.none_got n l;
}

last_append : (xs : List FlyingFrame) (x : FlyingFrame) → last_of (xs ++ x ∷ []) ≡ Some x
last_append [] x = refl
last_append (y ∷ []) x = refl
last_append (y ∷ z ∷ xs) x = last_append (z ∷ xs) x

-- ---- a frame that is taken

took_agree : (R : ℕ → List FlyingFrame) (T T' : ℕ → ℕ) (c : End) (q : Counts) (f : FrameView) → may_take c f ≡ true
    → ((n : ℕ) → T' n ≡ T n + (if (f.epoch == n) && is_answering f.body then 1 else 0)) → Agree R T c q → Agree R T' (end_took c (Some f)) (counts_took q (Some f))
took_agree R T T' c q f may more x = go f.body refl
  where
    epoch_is : (body : FrameText) → f.body ≡ body → (if is_opening body then not c.opened && nat_lt c.epoch f.epoch else c.opened && (f.epoch == c.epoch)) ≡ true
    epoch_is body is = subst (λ (b : FrameText). (if is_opening b then not c.opened && nat_lt c.epoch f.epoch else c.opened && (f.epoch == c.epoch)) ≡ true) is may

    and_false : (b : Bool) → (b && false) ≡ false
    and_false true = refl
    and_false false = refl

    none : (body : FrameText) → f.body ≡ body → is_answering body ≡ false → (n : ℕ) → T' n ≡ T n
    none body is e n = more n ∙ (ap (λ (b : Bool). T n + (if (f.epoch == n) && b then 1 else 0)) (ap is_answering is ∙ e) ∙ (ap (λ (b : Bool). T n + (if b then 1 else 0)) (and_false (f.epoch == n)) ∙ add-zero (T n)))

    go : (body : FrameText) → f.body ≡ body → Agree R T' (end_takes c f.epoch body) (counts_takes q body)
    go Opening is =
        let later : nat_lt c.epoch f.epoch ≡ true = and_second (not c.opened) (nat_lt c.epoch f.epoch) (epoch_is Opening is) in
        let l : c.epoch < f.epoch = grind (arith, nat_tests) in
        let e : (n : ℕ) → T' n ≡ T n = none Opening is refl in
        record {
          asked = ap length (x.none_sent f.epoch l);
          last = ap (λ (fs : List FlyingFrame). option_map asked_by (last_of fs)) (x.none_sent f.epoch l);
          got = e f.epoch ∙ x.none_got f.epoch l;
          none_sent = λ n m. x.none_sent n (omega (arith, l, m));
          none_got = λ n m. e n ∙ x.none_got n (omega (arith, l, m));
        }
    go Closing is = let e : (n : ℕ) → T' n ≡ T n = none Closing is refl in
        record { asked = x.asked; last = x.last; got = e c.epoch ∙ x.got; none_sent = x.none_sent; none_got = λ n m. e n ∙ x.none_got n m }
    go (Bytes k) is = let e : (n : ℕ) → T' n ≡ T n = none (Bytes k) is refl in
        record { asked = x.asked; last = x.last; got = e c.epoch ∙ x.got; none_sent = x.none_sent; none_got = λ n m. e n ∙ x.none_got n m }
    go (Line text) is = line (answers_it (message_of text)) refl
      where
        same : (f.epoch == c.epoch) ≡ true
        same = and_second c.opened (f.epoch == c.epoch) (epoch_is (Line text) is)

        line : (b : Bool) → answers_it (message_of text) ≡ b → Agree R T' c (counts_answer q b)
        line false e = let s : (n : ℕ) → T' n ≡ T n = none (Line text) is e in
            record { asked = x.asked; last = x.last; got = s c.epoch ∙ x.got; none_sent = x.none_sent; none_got = λ n m. s n ∙ x.none_got n m }
        line true e = record {
          asked = x.asked;
          last = x.last;
          got = more c.epoch ∙ (ap (λ (b : Bool). T c.epoch + (if b && is_answering f.body then 1 else 0)) same ∙ (ap (λ (b : Bool). T c.epoch + (if b then 1 else 0)) (ap is_answering is ∙ e) ∙ ap (λ n. n + 1) x.got));
          none_sent = x.none_sent;
          none_got = λ n m. more n ∙ (ap (λ (b : Bool). T n + (if b && is_answering f.body then 1 else 0)) (apart n m) ∙ (add-zero (T n) ∙ x.none_got n m));
        }
          where
            apart : (n : ℕ) → c.epoch < n → (f.epoch == n) ≡ false
            apart n m = let at : f.epoch ≡ c.epoch = eqb-true f.epoch c.epoch same in grind (arith, nat_tests)

-- ---- frames that are sent

-- none of them a request
quiet_agree : (R : ℕ → List FlyingFrame) (T : ℕ → ℕ) (time : ℕ) (fs : List FrameView) (c : End) (q : Counts) → Each (λ g. is_asking g.body ≡ false) fs → Agree R T c q
    → Agree R T (fold (λ c f. end_sends c f.body) c fs) (fold (λ q f. counts_sends time q f.body) q fs)
quiet_agree R T time [] c q all x = x
quiet_agree R T time (g ∷ fs) c q all x = quiet_agree R T time fs (end_sends c g.body) (counts_sends time q g.body) all.1 (one g.body all.0)
  where
    one : (body : FrameText) → is_asking body ≡ false → Agree R T (end_sends c body) (counts_sends time q body)
    one Opening e = absurd (cc)
    one Closing e = record { asked = x.asked; last = x.last; got = x.got; none_sent = x.none_sent; none_got = x.none_got }
    one (Bytes n) e = record { asked = x.asked; last = x.last; got = x.got; none_sent = x.none_sent; none_got = x.none_got }
    one (Line text) e = subst (λ (b : Bool). Agree R T (end_sends c (Line text)) (counts_line time q (message_of text) b)) (sym e)
        (record { asked = x.asked; last = x.last; got = x.got; none_sent = x.none_sent; none_got = x.none_got })

-- one request, of the epoch that the end has then
request_agree : (R R' : ℕ → List FlyingFrame) (T : ℕ → ℕ) (time : ℕ) (g : FrameView) (y : FlyingFrame) (c : End) (q : Counts) → is_asking g.body ≡ true → g.epoch ≡ (end_sends c g.body).epoch
    → asked_by y ≡ request time (line_in g.body) → ((n : ℕ) → R' n ≡ R n ++ (if g.epoch == n then y ∷ [] else [])) → Agree R T c q
    → Agree R' T (end_sends c g.body) (counts_sends time q g.body)
request_agree R R' T time g y c q asks at made more x = go g.body asks at made
  where
    here : (n : ℕ) → g.epoch ≡ n → R' n ≡ R n ++ y ∷ []
    here n is = more n ∙ ap (λ (b : Bool). R n ++ (if b then y ∷ [] else [])) (ap (λ k. k == n) is ∙ eqb_refl n)

    else_none : (n : ℕ) → g.epoch < n → R' n ≡ R n
    else_none n l = more n ∙ (ap (λ (b : Bool). R n ++ (if b then y ∷ [] else [])) (apart n l) ∙ append-nil (R n))
      where
        apart : (n : ℕ) → g.epoch < n → (g.epoch == n) ≡ false
        apart n l = grind (arith, nat_tests)

    last_here : (n : ℕ) → g.epoch ≡ n → option_map asked_by (last_of (R' n)) ≡ Some (asked_by y)
    last_here n is = ap (λ (fs : List FlyingFrame). option_map asked_by (last_of fs)) (here n is) ∙ ap (option_map asked_by) (last_append (R n) y)

    go : (body : FrameText) → is_asking body ≡ true → g.epoch ≡ (end_sends c body).epoch → asked_by y ≡ request time (line_in body) → Agree R' T (end_sends c body) (counts_sends time q body)
    go Closing e at made = absurd (cc)
    go (Bytes n) e at made = absurd (cc)
    go Opening e at made =
        let next : c.epoch < c.epoch + 1 = omega arith in
        record {
          asked = ap length (here (c.epoch + 1) at ∙ ap (λ (fs : List FlyingFrame). fs ++ y ∷ []) (x.none_sent (c.epoch + 1) next));
          last = last_here (c.epoch + 1) at ∙ ap (λ (z : Request). Some z) made;
          got = x.none_got (c.epoch + 1) next;
          none_sent = λ n m. else_none n (omega (arith, at, m)) ∙ x.none_sent n (omega (arith, m));
          none_got = λ n m. x.none_got n (omega (arith, m));
        }
    go (Line text) e at made = subst (λ (b : Bool). Agree R' T (end_sends c (Line text)) (counts_line time q (message_of text) b)) (sym e)
        (record {
          asked = ap length (here c.epoch at) ∙ (length-append (R c.epoch) (y ∷ []) ∙ ap (λ n. n + 1) x.asked);
          last = last_here c.epoch at ∙ ap (λ (z : Request). Some z) made;
          got = x.got;
          none_sent = λ n m. else_none n (omega (arith, at, m)) ∙ x.none_sent n m;
          none_got = x.none_got;
        })

-- ---- the frames of an end are those of its ways

abbrev pub up_way : ℕ → EndName → ℕ → Way
up_way r a n = record { client = r; server = a.peer; slot = a.slot; up = true; epoch = n }

abbrev pub down_way : ℕ → EndName → ℕ → Way
down_way r a n = record { client = r; server = a.peer; slot = a.slot; up = false; epoch = n }

-- a frame is on the way where it is the end's, of this epoch
on_end : (r : ℕ) (peer slot n : ℕ) (g : FrameView) → is_on (up_way r (client_end peer slot) n) peer g ≡ (sends_at (client_end peer slot) g && (g.epoch == n))
on_end r peer slot n g = and_regrouped (g.peer == peer) (g.slot == slot) (same_bool g.up true) (g.epoch == n)

filter_both : (p q t : FrameView → Bool) → ((g : FrameView) → p g ≡ (q g && t g)) → (fs : List FrameView) → filter p fs ≡ filter t (filter q fs)
filter_both p q t same [] = refl
filter_both p q t same (g ∷ fs) = go (filter_both p q t same fs) (q g) refl (t g) refl
  where
    go : filter p fs ≡ filter t (filter q fs) → (a : Bool) → q g ≡ a → (b : Bool) → t g ≡ b → filter p (g ∷ fs) ≡ filter t (filter q (g ∷ fs))
    go more true x true y = rw (same g, x) (rw y (ap (λ xs. g ∷ xs) more))
    go more true x false y = rw (same g, x) (rw y more)
    go more false x b y = rw (same g, x) more

on_way_end : (r : ℕ) (peer slot n : ℕ) (e : Entry) → on_way (up_way r (client_end peer slot) n) e ≡ filter (λ g. g.epoch == n) (sent_at (client_end peer slot) e.sent)
on_way_end r peer slot n e = filter_both (is_on (up_way r (client_end peer slot) n) peer) (sends_at (client_end peer slot)) (λ g. g.epoch == n) (on_end r peer slot n) e.sent

filter_flying : (e : Entry) (past : List Entry) (fs : List FrameView) → filter (λ x. says is_request x.frame) (map (flying_frame e past) fs) ≡ map (flying_frame e past) (filter (says is_request) fs)
filter_flying e past [] = refl
filter_flying e past (g ∷ fs) = go (filter_flying e past fs) (says is_request g) refl
  where
    go : filter (λ x. says is_request x.frame) (map (flying_frame e past) fs) ≡ map (flying_frame e past) (filter (says is_request) fs) → (b : Bool) → says is_request g ≡ b
        → filter (λ x. says is_request x.frame) (map (flying_frame e past) (g ∷ fs)) ≡ map (flying_frame e past) (filter (says is_request) (g ∷ fs))
    go more true is = rw is (ap (λ (zs : List FlyingFrame). flying_frame e past g ∷ zs) more)
    go more false is = rw is more

-- the requests of an epoch, and the answers of it that were taken
abbrev pub asked_on : ℕ → ℕ → ℕ → List Entry → ℕ → List FlyingFrame
asked_on r peer slot past n = requests past (up_way r (client_end peer slot) n)

abbrev pub got_on : ℕ → ℕ → ℕ → List Entry → ℕ → ℕ
got_on r peer slot past n = taken_if is_answer past (down_way r (client_end peer slot) n)

asked_more : (r peer slot : ℕ) (e : Entry) (past : List Entry) (n : ℕ) → is_of r e ≡ true
    → asked_on r peer slot (e ∷ past) n ≡ asked_on r peer slot past n ++ map (flying_frame e past) (filter (says is_request) (filter (λ g. g.epoch == n) (sent_at (client_end peer slot) e.sent)))
asked_more r peer slot e past n own = rw own (filter-append (λ x. says is_request x.frame) (Frames.frames_sent past (up_way r (client_end peer slot) n)) (map (flying_frame e past) (on_way (up_way r (client_end peer slot) n) e))
    ∙ ap (λ ys. asked_on r peer slot past n ++ ys) (filter_flying e past (on_way (up_way r (client_end peer slot) n) e)
    ∙ ap (λ fs. map (flying_frame e past) (filter (says is_request) fs)) (on_way_end r peer slot n e)))

-- ---- what an end takes

down_as : (up : Bool) → same_bool up false ≡ same_bool true (if up then false else true)
down_as true = refl
down_as false = refl

on_down : (r peer slot n : ℕ) (f : FrameView) → is_on (down_way r (client_end peer slot) n) peer f ≡ (takes_at (client_end peer slot) f && (f.epoch == n))
on_down r peer slot n f = and_regrouped (f.peer == peer) (f.slot == slot) (same_bool f.up false) (f.epoch == n)
    ∙ ap (λ b. (f.peer == peer) && (f.slot == slot) && b && (f.epoch == n)) (down_as f.up)

got_none : (r peer slot : ℕ) (e : Entry) (past : List Entry) (n : ℕ) → is_of r e ≡ true → taken_at (client_end peer slot) e.taken ≡ None → got_on r peer slot (e ∷ past) n ≡ got_on r peer slot past n
got_none r peer slot e past n own none = rw own (go e.taken none)
  where
    go : (o : Option FrameView) → taken_at (client_end peer slot) o ≡ None
        → (if takes_if is_answer (down_way r (client_end peer slot) n) o then got_on r peer slot past n + 1 else got_on r peer slot past n) ≡ got_on r peer slot past n
    go None h = refl
    go (Some f) h = on (takes_at (client_end peer slot) f) refl
      where
        on : (b : Bool) → takes_at (client_end peer slot) f ≡ b
            → (if is_on (down_way r (client_end peer slot) n) peer f && says is_answer f then got_on r peer slot past n + 1 else got_on r peer slot past n) ≡ got_on r peer slot past n
        on false is = rw (on_down r peer slot n f, is) refl
        on true is = let bad : Some f ≡ None = rw is at h in absurd (cc)

got_some : (r peer slot : ℕ) (e : Entry) (past : List Entry) (n : ℕ) (f : FrameView) → is_of r e ≡ true → taken_at (client_end peer slot) e.taken ≡ Some f
    → got_on r peer slot (e ∷ past) n ≡ got_on r peer slot past n + (if (f.epoch == n) && is_answering f.body then 1 else 0)
got_some r peer slot e past n f own some = rw own (go e.taken some)
  where
    plus : (b : Bool) (k : ℕ) → (if b then k + 1 else k) ≡ k + (if b then 1 else 0)
    plus true k = refl
    plus false k = sym (add-zero k)

    go : (o : Option FrameView) → taken_at (client_end peer slot) o ≡ Some f
        → (if takes_if is_answer (down_way r (client_end peer slot) n) o then got_on r peer slot past n + 1 else got_on r peer slot past n)
        ≡ got_on r peer slot past n + (if (f.epoch == n) && is_answering f.body then 1 else 0)
    go None h = absurd (cc)
    go (Some g) h = on (takes_at (client_end peer slot) g) refl
      where
        on : (b : Bool) → takes_at (client_end peer slot) g ≡ b
            → (if is_on (down_way r (client_end peer slot) n) peer g && says is_answer g then got_on r peer slot past n + 1 else got_on r peer slot past n)
            ≡ got_on r peer slot past n + (if (f.epoch == n) && is_answering f.body then 1 else 0)
        on false is = let bad : None ≡ Some f = rw is at h in absurd (cc)
        on true is =
            let some_g : Some g ≡ Some f = rw is at h in
            let same : g ≡ f = cc in
            subst (λ (x : FrameView). (if is_on (down_way r (client_end peer slot) n) peer g && says is_answer g then got_on r peer slot past n + 1 else got_on r peer slot past n)
            ≡ got_on r peer slot past n + (if (x.epoch == n) && is_answering x.body then 1 else 0)) same
            (rw (on_down r peer slot n g, is) (ap (λ b. if (g.epoch == n) && b then got_on r peer slot past n + 1 else got_on r peer slot past n) (answers_body g.body)
            ∙ plus ((g.epoch == n) && is_answering g.body) (got_on r peer slot past n)))

-- ---- the hypothesis: an end keeps to its epoch

-- what an entry sends at the end are no requests, or one frame of the epoch that the end has then; and it takes what the end may take
pub record Keeps (past : List Entry) (r : ℕ) (a : EndName) (e : Entry) : Type 0 where
  pub sends : Each (λ g. is_asking g.body ≡ false) (sent_at a e.sent) ⊎ ((g : FrameView) × (sent_at a e.sent ≡ g ∷ []) × (g.epoch ≡ (end_after a (end_at past r a) e).epoch))
  pub takes : (f : FrameView) → taken_at a e.taken ≡ Some f → may_take (end_at past r a) f ≡ true

abbrev pub KeepsAll : ℕ → EndName → List Entry → Type 0
KeepsAll r a past = Always (λ before e. is_of r e ≡ true → Keeps before r a e) past

-- ---- over the past

none_asked : (t : FrameView → Bool) (fs : List FrameView) → Each (λ g. is_asking g.body ≡ false) fs → filter (says is_request) (filter t fs) ≡ []
none_asked t [] all = refl
none_asked t (g ∷ fs) all = go (none_asked t fs all.1) (t g) refl
  where
    go : filter (says is_request) (filter t fs) ≡ [] → (b : Bool) → t g ≡ b → filter (says is_request) (filter t (g ∷ fs)) ≡ []
    go more true is = rw is (rw (asks_body g.body ∙ all.0) more)
    go more false is = rw is more

one_asked : (n : ℕ) (g : FrameView) → is_asking g.body ≡ true → filter (says is_request) (filter (λ x. x.epoch == n) (g ∷ [])) ≡ (if g.epoch == n then g ∷ [] else [])
one_asked n g asks = go (g.epoch == n) refl
  where
    go : (b : Bool) → (g.epoch == n) ≡ b → filter (says is_request) (filter (λ x. x.epoch == n) (g ∷ [])) ≡ (if b then g ∷ [] else [])
    go true is = rw is (rw (asks_body g.body ∙ asks) refl)
    go false is = rw is refl

module _ (r peer slot : ℕ) (e : Entry) (past : List Entry) (own : is_of r e ≡ true) (keeps : Keeps past r (client_end peer slot) e) where
  abbrev a : EndName
  a = client_end peer slot

  took : Agree (asked_on r peer slot past) (got_on r peer slot past) (end_at past r a) (counts_at past r a)
      → Agree (asked_on r peer slot past) (got_on r peer slot (e ∷ past)) (end_took (end_at past r a) (taken_at a e.taken)) (counts_took (counts_at past r a) (taken_at a e.taken))
  took x = go (taken_at a e.taken) refl
    where
      go : (o : Option FrameView) → taken_at a e.taken ≡ o → Agree (asked_on r peer slot past) (got_on r peer slot (e ∷ past)) (end_took (end_at past r a) o) (counts_took (counts_at past r a) o)
      go None is = agree_by (asked_on r peer slot past) (asked_on r peer slot past) (got_on r peer slot past) (got_on r peer slot (e ∷ past)) (end_at past r a) (counts_at past r a) (λ n. refl) (λ n. got_none r peer slot e past n own is) x
      go (Some f) is = took_agree (asked_on r peer slot past) (got_on r peer slot past) (got_on r peer slot (e ∷ past)) (end_at past r a) (counts_at past r a) f (keeps.takes f is) (λ n. got_some r peer slot e past n f own is) x

  abbrev c : End
  c = end_took (end_at past r a) (taken_at a e.taken)

  abbrev q : Counts
  q = counts_took (counts_at past r a) (taken_at a e.taken)

  quietly_sent : (fs : List FrameView) → sent_at a e.sent ≡ fs → Each (λ g. is_asking g.body ≡ false) fs → Agree (asked_on r peer slot past) (got_on r peer slot (e ∷ past)) c q
      → Agree (asked_on r peer slot (e ∷ past)) (got_on r peer slot (e ∷ past)) (fold (λ c f. end_sends c f.body) c fs) (fold (λ q f. counts_sends e.time q f.body) q fs)
  quietly_sent fs is all x = quiet_agree (asked_on r peer slot (e ∷ past)) (got_on r peer slot (e ∷ past)) e.time fs c q all
      (agree_by (asked_on r peer slot past) (asked_on r peer slot (e ∷ past)) (got_on r peer slot (e ∷ past)) (got_on r peer slot (e ∷ past)) c q same (λ n. refl) x)
    where
      same : (n : ℕ) → asked_on r peer slot (e ∷ past) n ≡ asked_on r peer slot past n
      same n = asked_more r peer slot e past n own ∙ (ap (λ (gs : List FrameView). asked_on r peer slot past n ++ map (flying_frame e past) (filter (says is_request) (filter (λ g. g.epoch == n) gs))) is
          ∙ (ap (λ (gs : List FrameView). asked_on r peer slot past n ++ map (flying_frame e past) gs) (none_asked (λ g. g.epoch == n) fs all) ∙ append-nil (asked_on r peer slot past n)))

  one_sent : (g : FrameView) → sent_at a e.sent ≡ g ∷ [] → g.epoch ≡ (end_sends c g.body).epoch → Agree (asked_on r peer slot past) (got_on r peer slot (e ∷ past)) c q → (b : Bool) → is_asking g.body ≡ b
      → Agree (asked_on r peer slot (e ∷ past)) (got_on r peer slot (e ∷ past)) (end_sends c g.body) (counts_sends e.time q g.body)
  one_sent g is at x false asks = quietly_sent (g ∷ []) is (asks, tt) x
  one_sent g is at x true asks = request_agree (asked_on r peer slot past) (asked_on r peer slot (e ∷ past)) (got_on r peer slot (e ∷ past)) e.time g (flying_frame e past g) c q asks at refl more x
    where
      mapped : (b : Bool) → map (flying_frame e past) (if b then g ∷ [] else []) ≡ (if b then flying_frame e past g ∷ [] else [])
      mapped true = refl
      mapped false = refl

      more : (n : ℕ) → asked_on r peer slot (e ∷ past) n ≡ asked_on r peer slot past n ++ (if g.epoch == n then flying_frame e past g ∷ [] else [])
      more n = asked_more r peer slot e past n own ∙ ap (λ (ys : List FlyingFrame). asked_on r peer slot past n ++ ys)
          (ap (λ (gs : List FrameView). map (flying_frame e past) (filter (says is_request) (filter (λ x. x.epoch == n) gs))) is ∙ (ap (map (flying_frame e past)) (one_asked n g asks) ∙ mapped (g.epoch == n)))

  after_agree : Agree (asked_on r peer slot past) (got_on r peer slot past) (end_at past r a) (counts_at past r a)
      → Agree (asked_on r peer slot (e ∷ past)) (got_on r peer slot (e ∷ past)) (end_after a (end_at past r a) e) (counts_after a (counts_at past r a) e)
  after_agree x = elim (keeps.sends) [
    | inl all ↦ quietly_sent (sent_at a e.sent) refl all (took x)
    | inr one ↦ single one.0 one.1 one.2
  ]
    where
      single : (g : FrameView) → sent_at a e.sent ≡ g ∷ [] → g.epoch ≡ (end_after a (end_at past r a) e).epoch
          → Agree (asked_on r peer slot (e ∷ past)) (got_on r peer slot (e ∷ past)) (end_after a (end_at past r a) e) (counts_after a (counts_at past r a) e)
      single g is at =
          let here : g.epoch ≡ (end_sends c g.body).epoch = at ∙ ap (λ (fs : List FrameView). (fold (λ c f. end_sends c f.body) c fs).epoch) is in
          subst (λ (fs : List FrameView). Agree (asked_on r peer slot (e ∷ past)) (got_on r peer slot (e ∷ past)) (fold (λ c f. end_sends c f.body) c fs) (fold (λ q f. counts_sends e.time q f.body) q fs)) (sym is)
          (one_sent g is here (took x) (is_asking g.body) refl)

-- what an end has counted stands on the ways of its present epoch, and on those of later ones nothing
pub ways_agree : (r peer slot : ℕ) (past : List Entry) → KeepsAll r (client_end peer slot) past
    → Agree (asked_on r peer slot past) (got_on r peer slot past) (end_at past r (client_end peer slot)) (counts_at past r (client_end peer slot))
ways_agree r peer slot [] keeps = record { asked = refl; last = refl; got = refl; none_sent = λ n l. refl; none_got = λ n l. refl }
ways_agree r peer slot (e ∷ past) keeps = go (ways_agree r peer slot past keeps.1) (is_of r e) refl
  where
    go : Agree (asked_on r peer slot past) (got_on r peer slot past) (end_at past r (client_end peer slot)) (counts_at past r (client_end peer slot)) → (b : Bool) → is_of r e ≡ b
        → Agree (asked_on r peer slot (e ∷ past)) (got_on r peer slot (e ∷ past)) (end_at (e ∷ past) r (client_end peer slot)) (counts_at (e ∷ past) r (client_end peer slot))
    go x true own = subst (λ (b : Bool). Agree (asked_on r peer slot (e ∷ past)) (got_on r peer slot (e ∷ past))
        (if b then end_after (client_end peer slot) (end_at past r (client_end peer slot)) e else end_at past r (client_end peer slot))
        (if b then counts_after (client_end peer slot) (counts_at past r (client_end peer slot)) e else counts_at past r (client_end peer slot))) (sym own)
        (after_agree r peer slot e past own (keeps.0 own) x)
    go x false other = subst (λ (b : Bool). Agree (asked_on r peer slot (e ∷ past)) (got_on r peer slot (e ∷ past))
        (if b then end_after (client_end peer slot) (end_at past r (client_end peer slot)) e else end_at past r (client_end peer slot))
        (if b then counts_after (client_end peer slot) (counts_at past r (client_end peer slot)) e else counts_at past r (client_end peer slot))) (sym other)
        (agree_by (asked_on r peer slot past) (asked_on r peer slot (e ∷ past)) (got_on r peer slot past) (got_on r peer slot (e ∷ past)) (end_at past r (client_end peer slot)) (counts_at past r (client_end peer slot))
        (λ n. rw other refl) (λ n. rw other refl) x)
