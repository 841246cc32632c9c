-- What is carried says what the past says.
use Rattle.std.proofs.Common.{◌≡◌, ℕ, zero, suc, ◌+◌, ◌<◌, ◌≤◌, Bool, true, false, List, [], ◌∷◌, ◌++◌, length, drop, Option, Some, None, refl, sym, ap, subst, ◌∙◌, arith, add-one}
use Rattle.std.specs.Prelude.{if◌then◌else◌, ◌==◌, ◌&&◌, ◌||◌, filter, find, map, nat_lt, slice_get}
use Rattle.std.proofs.lemmas.List.{length-append}
use Rattle.std.proofs.lemmas.Bool.{and_parts, eqb-true}
use Rattle.annex_base.specs.Bools.{same_bool}
use Rattle.annex_base.specs.Lists.{Each}
use Rattle.annex_base.specs.declared.kinds.Word.{Word}
use Rattle.annex_base.proofs.Conditions.{same_bool_is}
use Rattle.run_data.specs.Repos.{IsSetUp}
use Rattle.run_data.specs.declared.entry.Entry.{Entry}
use Rattle.run_data.specs.declared.entry.EntryKind.{EntryKind}
use Rattle.run_data.specs.declared.entry.EntryKind.TheVariants.{End}
use Rattle.run_data.specs.declared.entry.FrameView.{FrameView}
use Rattle.run_data.specs.declared.run.Run.{Run}
use Rattle.node_model.specs.After.{AgreesAtDrops, state_after, states}
use Rattle.node_model.specs.Jobs.{Work}
use Rattle.node_model.specs.Look.{Effect, Look}
use Rattle.node_model.specs.Rows.{option_is}
use Rattle.node_model.specs.SetUp.{SetUp}
use Rattle.node_model.specs.Slots.{job_of}
use Rattle.node_model.specs.State.{State}
use Rattle.node_model.specs.Step.{step}
use Rattle.run_model.specs.Frames.{FlyingFrame, MayTake, Way, flying_frame, frames_sent, is_on, on_way, sender_of, taken_count, taker_of, takes, way_of}
use Rattle.run_model.specs.Past.{is_of}
use Rattle.run_model.specs.Run.{OwnPast, RunPast, RunStep, set_up}
use Rattle.run_model.specs.States.{state_of, works}
use Rattle.run_model.specs.Words.{awaits_of, word_of, word_taken, word_told}
use Rattle.step_judging.proofs.Runs.{own_past, part_of}
use Rattle.step_judging.specs.Carried.{Flight, WaitingFrame, breaks_by, first_word, flight_sent, flight_took, is_first, is_ordered_by, judge_of, judged, takes_next, waits_as, word_after, words_at_end}
use Rattle.step_judging.specs.Rules.{breaks, broken_rule, comes, effect_of, first_broken, has_row, is_effect, is_next, is_ordered, is_own, is_step, may_take_next, only_waits, words_told}
use Rattle.step_judging.specs.Telling.{look_of}

-- ---- lists

some_within : {X : Type 0} (xs : List X) (t : ℕ) (x : X) → slice_get xs t ≡ Some x → t < length xs
some_within [] t x e = absurd (cc)
some_within (y ∷ ys) zero x e = omega arith
some_within (y ∷ ys) (suc t) x e = let h : t < length ys = some_within ys t x e in omega arith

one_less : {X Y : Type 0} (f : X → Y) (t : ℕ) (xs : List X) → drop 1 (map f (drop t xs)) ≡ map f (drop (suc t) xs)
one_less f zero [] = refl
one_less f zero (x ∷ xs) = refl
one_less f (suc t) [] = refl
one_less f (suc t) (x ∷ xs) = one_less f t xs

map_both : {X Y : Type 0} (f : X → Y) (xs ys : List X) → map f (xs ++ ys) ≡ map f xs ++ map f ys
map_both f [] ys = refl
map_both f (x ∷ xs) ys = ap (λ zs. f x ∷ zs) (map_both f xs ys)

drop_front : {X : Type 0} (t : ℕ) (xs ys : List X) → t ≤ length xs → drop t (xs ++ ys) ≡ drop t xs ++ ys
drop_front zero xs ys h = refl
drop_front (suc t) [] ys h = absurd (omega (arith, h))
drop_front (suc t) (x ∷ xs) ys h = drop_front t xs ys (omega arith)

-- ---- flights

abbrev seen : FlyingFrame → WaitingFrame
seen x = waits_as x.entry.kind x.frame

sent_seen : (e : Entry) (past : List Entry) (gs : List FrameView) → map (waits_as e.kind) gs ≡ map seen (map (flying_frame e past) gs)
sent_seen e past [] = refl
sent_seen e past (g ∷ gs) = ap (λ zs. waits_as e.kind g ∷ zs) (sent_seen e past gs)

abbrev flight_of : ℕ → List FlyingFrame → Flight
flight_of t fs = record { waiting = map seen (drop t fs); taken = t }

abbrev waits : List WaitingFrame → ℕ → Flight
waits xs t = record { waiting = xs; taken = t }

took_is : (tk : Bool) (t : ℕ) (fs : List FlyingFrame) → flight_took tk (flight_of t fs) ≡ flight_of (if tk then t + 1 else t) fs
took_is true t fs = ap (λ xs. waits xs (t + 1)) (one_less seen t fs ∙ ap (λ n. map seen (drop n fs)) (sym (add-one t)))
took_is false t fs = refl

sent_is : (sd : Bool) (t : ℕ) (fs new : List FlyingFrame) → t ≤ length fs → flight_sent sd (map seen new) (flight_of t fs) ≡ flight_of t (if sd then fs ++ new else fs)
sent_is true t fs new h = ap (λ xs. waits xs t) (sym (map_both seen (drop t fs) new) ∙ ap (map seen) (sym (drop_front t fs new h)))
sent_is false t fs new h = refl

first_is : (fs : List FlyingFrame) (t n : ℕ) (f : FrameView) → is_first (map seen (drop t fs)) n f ≡ is_next (slice_get fs t) n f
first_is [] zero n f = refl
first_is [] (suc t) n f = refl
first_is (x ∷ xs) zero n f = refl
first_is (x ∷ xs) (suc t) n f = first_is xs t n f

word_is : (fs : List FlyingFrame) (t : ℕ) → first_word (map seen (drop t fs)) ≡ word_of (slice_get fs t)
word_is [] zero = refl
word_is [] (suc t) = refl
word_is (x ∷ xs) zero = refl
word_is (x ∷ xs) (suc t) = word_is xs t

-- ---- the way of a frame that is taken

abbrev way_with : ℕ → ℕ → ℕ → Bool → ℕ → Way
way_with client server slot up epoch = record { client = client; server = server; slot = slot; up = up; epoch = epoch }

taken_way : (w : Way) (f : FrameView) → is_on w (sender_of w) f ≡ true → way_of (taker_of w) f ≡ w
taken_way w f on =
    let one = and_parts (f.peer == sender_of w) ((f.slot == w.slot) && (same_bool f.up w.up && (f.epoch == w.epoch))) on in
    let two = and_parts (f.slot == w.slot) (same_bool f.up w.up && (f.epoch == w.epoch)) one.1 in
    let three = and_parts (same_bool f.up w.up) (f.epoch == w.epoch) two.1 in
    ap (λ (b : Bool). way_with (if b then f.peer else taker_of w) (if b then taker_of w else f.peer) f.slot b f.epoch) (same_bool_is f.up w.up three.0)
    ∙ ap (λ (p : ℕ). way_with (if w.up then p else taker_of w) (if w.up then taker_of w else p) f.slot w.up f.epoch) (eqb-true f.peer (sender_of w) one.0)
    ∙ ap (λ (q : ℕ). way_with (if w.up then sender_of w else taker_of w) (if w.up then taker_of w else sender_of w) q w.up f.epoch) (eqb-true f.slot w.slot two.0)
    ∙ ap (λ (n : ℕ). way_with (if w.up then sender_of w else taker_of w) (if w.up then taker_of w else sender_of w) w.slot w.up n) (eqb-true f.epoch w.epoch three.1)
    ∙ ends w.up refl
  where
    ends : (b : Bool) → w.up ≡ b → way_with (if w.up then sender_of w else taker_of w) (if w.up then taker_of w else sender_of w) w.slot w.up w.epoch ≡ w
    ends true is = ap (λ (p : ℕ). way_with p (if w.up then taker_of w else sender_of w) w.slot w.up w.epoch) (rw is refl) ∙ ap (λ (p : ℕ). way_with w.client p w.slot w.up w.epoch) (rw is refl)
    ends false is = ap (λ (p : ℕ). way_with p (if w.up then taker_of w else sender_of w) w.slot w.up w.epoch) (rw is refl) ∙ ap (λ (p : ℕ). way_with w.client p w.slot w.up w.epoch) (rw is refl)

-- ---- order

order_is : (s : ℕ → SetUp) (past : List Entry) (e : Entry) → is_ordered_by (judge_of s past).newest e ≡ is_ordered past e
order_is s [] e = refl
order_is s (f ∷ past) e = refl

states_are : (s : ℕ → SetUp) (past : List Entry) (r : ℕ) → (judge_of s past).states r ≡ states (s r) (filter (is_of r) past)
states_are s [] r = refl
states_are s (e ∷ past) r = go (states_are s past r) (is_of r e)
  where
    go : (judge_of s past).states r ≡ states (s r) (filter (is_of r) past) → (b : Bool)
        → (if b then state_after (s r) ((judge_of s past).states r) e else (judge_of s past).states r) ≡ states (s r) (if b then e ∷ filter (is_of r) past else filter (is_of r) past)
    go ih true = ap (λ (st : State). state_after (s r) st e) ih
    go ih false = ih

-- ---- a repository's own part, by states that agree

own_same : (s : SetUp) (st other : State) (words : ℕ → Option Word) (e : Entry) → AgreesAtDrops st other → ((k : Look) → step s st k ≡ step s other k) → is_own s other words e ≡ is_own s st words e
own_same s st other words e agrees steps =
    let looks : look_of st words e ≡ look_of other words e = ap (λ (z : State). look_of z words e) agrees.same in
    let made : step s other (look_of other words e) ≡ step s st (look_of st words e) = ap (step s other) (sym looks) ∙ sym (steps (look_of st words e)) in
    let one : is_step s other words e ≡ is_step s st words e = ap (λ (o : Option Effect). is_effect o (effect_of e)) made in
    let two : comes s other e ≡ comes s st e = sym (ap (λ (z : State). comes s z e) agrees.same) in
    ap (λ (b : Bool). nat_lt s.number (length s.repos) && (b || comes s other e)) one ∙ ap (λ (b : Bool). nat_lt s.number (length s.repos) && (is_step s st words e || b)) two

row_same : (st other : State) (e : Entry) → AgreesAtDrops st other → has_row other e ≡ has_row st e
row_same st other e agrees = sym (ap (λ (z : State). has_row z e) agrees.same)

four_same : (a b c d x y z w : Bool) → a ≡ x → b ≡ y → c ≡ z → d ≡ w → first_broken ((1, a) ∷ (2, b) ∷ (3, c) ∷ (4, d) ∷ []) ≡ first_broken ((1, x) ∷ (2, y) ∷ (3, z) ∷ (4, w) ∷ [])
four_same a b c d x y z w p q r s =
    ap (λ t. first_broken ((1, t) ∷ (2, b) ∷ (3, c) ∷ (4, d) ∷ [])) p ∙ ap (λ t. first_broken ((1, x) ∷ (2, t) ∷ (3, c) ∷ (4, d) ∷ [])) q
    ∙ ap (λ t. first_broken ((1, x) ∷ (2, y) ∷ (3, t) ∷ (4, d) ∷ [])) r ∙ ap (λ t. first_broken ((1, x) ∷ (2, y) ∷ (3, z) ∷ (4, t) ∷ [])) s

-- ---- over a run

abbrev pub StatesAgree : Type 0
StatesAgree = (s : SetUp) (past : List Entry) → OwnPast s past → AgreesAtDrops (state_of s past) (states s (filter (is_of s.number) past))

abbrev pub StepsAgree : Type 0
StepsAgree = (s : SetUp) (past : List Entry) (k : Look) → OwnPast s past → step s (state_of s past) k ≡ step s (states s (filter (is_of s.number) past)) k

module _ (states_agree : StatesAgree) (steps_agree : StepsAgree) (run : Run) (repos : Each IsSetUp run.repos) where
  abbrev sets : ℕ → SetUp
  sets = set_up run

  carried : (past : List Entry) (r : ℕ) → RunPast sets past → AgreesAtDrops (state_of (sets r) past) ((judge_of sets past).states r)
  carried past r h = subst (AgreesAtDrops (state_of (sets r) past)) (sym (states_are sets past r)) (states_agree (sets r) past (own_past run repos r past h))

  carried_steps : (past : List Entry) (r : ℕ) → RunPast sets past → (k : Look) → step (sets r) (state_of (sets r) past) k ≡ step (sets r) ((judge_of sets past).states r) k
  carried_steps past r h k = steps_agree (sets r) past k (own_past run repos r past h) ∙ ap (λ (st : State). step (sets r) st k) (sym (states_are sets past r))

  -- what is taken was sent
  within : (past : List Entry) (e : Entry) (w : Way) → RunStep sets past e → (is_of (taker_of w) e && takes w e.taken) ≡ true → taken_count past w < length (frames_sent past w)
  within past e w x tk =
      let both = and_parts (is_of (taker_of w) e) (takes w e.taken) tk in go e.taken refl both.0 both.1
    where
      go : (o : Option FrameView) → e.taken ≡ o → is_of (taker_of w) e ≡ true → takes w o ≡ true → taken_count past w < length (frames_sent past w)
      go None is mine on = absurd (cc)
      go (Some f) is mine on =
          let m : MayTake past (way_of (taker_of w) f) f = (part_of sets past e (taker_of w) x mine).2.takes f is in
          let next : slice_get (frames_sent past w) (taken_count past w) ≡ Some m.it = subst (λ (v : Way). slice_get (frames_sent past v) (taken_count past v) ≡ Some m.it) (taken_way w f on) m.next in
          some_within (frames_sent past w) (taken_count past w) m.it next

  record InFlight (past : List Entry) (w : Way) : Type 0 where
    flies : (judge_of sets past).flights w ≡ flight_of (taken_count past w) (frames_sent past w)
    bound : taken_count past w ≤ length (frames_sent past w)

  took_bound : (tk : Bool) (t n : ℕ) → (tk ≡ true → t < n) → t ≤ n → (if tk then t + 1 else t) ≤ n
  took_bound true t n less h = let l : t < n = less refl in omega arith
  took_bound false t n less h = h

  sent_bound : (sd : Bool) (t : ℕ) (fs new : List FlyingFrame) → t ≤ length fs → t ≤ length (if sd then fs ++ new else fs)
  sent_bound true t fs new h = let both : length (fs ++ new) ≡ length fs + length new = length-append fs new in omega (arith, both, h)
  sent_bound false t fs new h = h

  in_flight : (past : List Entry) (w : Way) → RunPast sets past → InFlight past w
  in_flight [] w h = record { flies = refl; bound = omega arith }
  in_flight (e ∷ past) w h =
      let old = in_flight past w h.1 in
      let sd = is_of (sender_of w) e in
      let tk = is_of (taker_of w) e && takes w e.taken in
      let t = taken_count past w in
      let fs = frames_sent past w in
      let new = map (flying_frame e past) (on_way w e) in
      let low = took_bound tk t (length fs) (within past e w h.0) old.bound in
      record {
        flies = ap (λ (x : Flight). flight_sent sd (map (waits_as e.kind) (on_way w e)) (flight_took tk x)) old.flies
            ∙ ap (λ (xs : List WaitingFrame). flight_sent sd xs (flight_took tk (flight_of t fs))) (sent_seen e past (on_way w e))
            ∙ ap (flight_sent sd (map seen new)) (took_is tk t fs)
            ∙ sent_is sd (if tk then t + 1 else t) fs new low;
        bound = sent_bound sd (if tk then t + 1 else t) fs new low;
      }

  takes_same : (past : List Entry) (r : ℕ) (o : Option FrameView) → RunPast sets past → takes_next (judge_of sets past).flights r o ≡ may_take_next past r o
  takes_same past r None h = refl
  takes_same past r (Some f) h =
      let w = way_of r f in
      ap (λ (x : Flight). is_first x.waiting x.taken f) (in_flight past w h).flies ∙ first_is (frames_sent past w) (taken_count past w) (taken_count past w) f

  if_same : {X : Type 0} (b c : Bool) (x y v w : X) → b ≡ c → x ≡ v → y ≡ w → (if b then x else y) ≡ (if c then v else w)
  if_same b c x y v w p q r = ap (λ (t : Bool). if t then x else y) p ∙ ap (λ z. if c then z else y) q ∙ ap (λ z. if c then v else z) r

  word_same : (past : List Entry) (r c : ℕ) (o : Option FrameView) (was told : Option Word) → RunPast sets past → was ≡ told → word_after (judge_of sets past).flights r c o was ≡ word_taken past r c o told
  word_same past r c None was told h same = same
  word_same past r c (Some f) was told h same =
      let w = way_of r f in
      if_same (f.peer == c) (f.peer == c) (first_word ((judge_of sets past).flights w).waiting) was (word_of (slice_get (frames_sent past w) (taken_count past w))) told refl
      (ap (λ (x : Flight). first_word x.waiting) (in_flight past w h).flies ∙ word_is (frames_sent past w) (taken_count past w)) same

  words_are : (past : List Entry) → RunPast sets past → (r j c : ℕ) → (judge_of sets past).words r j c ≡ word_told past r j c
  words_are [] h r j c = refl
  words_are (e ∷ past) h r j c =
      let ih = words_are past h.1 r j c in
      let was = judge_of sets past in
      let jobs : (was.states r).works ≡ works past r = sym (ap (λ (st : State). st.works) (carried past r h.1).same) in
      let test = ap (λ (ws : List Work). is_of r e && option_is (job_of e.kind) j && awaits_of c (find (λ w. w.number == j) ws)) jobs in
      if_same (is_of r e && option_is (job_of e.kind) j && awaits_of c (find (λ w. w.number == j) (was.states r).works))
      (is_of r e && option_is (job_of e.kind) j && awaits_of c (find (λ w. w.number == j) (works past r)))
      (word_after was.flights r c e.taken (was.words r j c)) (was.words r j c) (word_taken past r c e.taken (word_told past r j c)) (word_told past r j c)
      test (word_same past r c e.taken (was.words r j c) (word_told past r j c) h.1 ih) ih

  end_words : (past : List Entry) (r : ℕ) (kind : EntryKind) (c : ℕ) → RunPast sets past → words_at_end ((judge_of sets past).words r) kind c ≡ words_told past r kind c
  end_words past r (End j outcome) c h = words_are past h r j c
  end_words past r kind c h = refl

  breaks_same : (past : List Entry) (e : Entry) (o : Option ℕ) → RunPast sets past → breaks_by sets (judge_of sets past) e o ≡ breaks sets past e o
  breaks_same past e None h = ap (λ (b : Bool). first_broken ((1, b) ∷ (3, only_waits e) ∷ [])) (order_is sets past e)
  breaks_same past e (Some r) h =
      let was = judge_of sets past in
      let words : words_at_end (was.words r) e.kind ≡ words_told past r e.kind = λ i c. end_words past r e.kind c h i in
      four_same (is_ordered_by was.newest e) (has_row (was.states r) e) (is_own (sets r) (was.states r) (words_at_end (was.words r) e.kind) e) (takes_next was.flights r e.taken)
      (is_ordered past e) (has_row (state_of (sets r) past) e) (is_own (sets r) (state_of (sets r) past) (words_told past r e.kind) e) (may_take_next past r e.taken)
      (order_is sets past e)
      (row_same (state_of (sets r) past) (was.states r) e (carried past r h))
      (ap (λ (ws : ℕ → Option Word). is_own (sets r) (was.states r) ws e) words
      ∙ own_same (sets r) (state_of (sets r) past) (was.states r) (words_told past r e.kind) e (carried past r h) (carried_steps past r h))
      (takes_same past r e.taken h)

  pub judge_same : (past : List Entry) (e : Entry) → RunPast sets past → judged sets (judge_of sets past) e ≡ broken_rule sets past e
  judge_same past e h = breaks_same past e e.repo h
