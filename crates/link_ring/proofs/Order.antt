-- Of each epoch the frames that were taken are the first of those that were sent.
use Rattle.std.proofs.Common.{inl, inr, ◌≡◌, ℕ, ◌+◌, Bool, true, false, not, eqb, ltb, List, [], ◌∷◌, ◌++◌, Option, Some, None, IfSome, refl, sym, ap, subst, ◌∙◌, arith, append_assoc, true≢false}
use Rattle.std.specs.Prelude.{filter}
use Rattle.std.specs.List.{find, after_first}
use Rattle.std.specs.Option.{option_to_list}
use Rattle.std.proofs.lemmas.Bool.{cases_Bool, eqb-true}
use Rattle.std.proofs.lemmas.Bool.Decides.{nat_tests}
use Rattle.std.proofs.lemmas.List.{append-nil}
use Rattle.std.proofs.lemmas.List.Elements.{filter-append}
use Rattle.annex_base.specs.Lists.{Each}
use Rattle.link_ring.specs.declared.frame.Frame.{Frame}
use Rattle.link_ring.specs.declared.frame.Body.{Body}
use Rattle.link_ring.specs.declared.frame.Body.TheVariants as bodies
use Rattle.link_ring.specs.declared.end.Phase.{Phase}
use Rattle.link_ring.specs.declared.end.Phase.TheVariants.{Closed, Opening, Open}
use Rattle.link_ring.specs.Frames.{is_close, is_past, is_old}
use Rattle.link_ring.specs.Ends.{EndView, accepts, phase_after_frame, after_send, is_taken, next_frame, with_body, with_taken, after_take, after_open, after_close}
use Rattle.link_ring.specs.Ways.{Call, Event, Way, Sends, Takes, Opens, Closes, AtSender, AtTaker, Carries, after_call, sent_by, new_way, after_event, after_events, of_epoch, IsFront}
use Rattle.link_ring.proofs.Taking.{passed}

-- ---- what is passed over

-- the frames at hand: those that are passed over, the one that is taken, and the rest
pub record Split (epoch : ℕ) (phase : Phase) (xs : List Frame) (o : Option Frame) (rest : List Frame) : Type 0 where
  pub over : List Frame
  pub whole : xs ≡ over ++ (option_to_list o ++ rest)
  pub old : Each (λ f. is_old epoch phase f ≡ true) over
  pub live : IfSome o (λ f. is_old epoch phase f ≡ false)

abbrev test : ℕ → Phase → Frame → Bool
test epoch phase f = not (is_old epoch phase f)

pub split : (epoch : ℕ) (phase : Phase) (xs : List Frame) → Split epoch phase xs (find (test epoch phase) xs) (after_first (test epoch phase) xs)
split epoch phase [] = record { over = []; whole = refl; old = tt; live = tt }
split epoch phase (f ∷ fs) = elim (cases_Bool (is_old epoch phase f)) [
  | inl old ↦
      let skip = passed (test epoch phase) f fs (rw old refl) in
      let more = split epoch phase fs in
      subst (λ (o : Option Frame). Split epoch phase (f ∷ fs) o (after_first (test epoch phase) (f ∷ fs))) (sym skip.0)
      (subst (λ (rest : List Frame). Split epoch phase (f ∷ fs) (find (test epoch phase) fs) rest) (sym skip.1)
      (record { over = f ∷ more.over; whole = ap (λ (w : List Frame). f ∷ w) more.whole; old = (old, more.old); live = more.live }))
  | inr live ↦
      let here : find (test epoch phase) (f ∷ fs) ≡ Some f = rw live refl in
      let rest : after_first (test epoch phase) (f ∷ fs) ≡ fs = rw live refl in
      subst (λ (o : Option Frame). Split epoch phase (f ∷ fs) o (after_first (test epoch phase) (f ∷ fs))) (sym here)
      (subst (λ (r : List Frame). Split epoch phase (f ∷ fs) (Some f) r) (sym rest)
      (record { over = []; whole = refl; old = tt; live = live }))
]

pub next_live : (a : EndView) → IfSome (next_frame a) (λ f. is_old a.epoch a.phase f ≡ false)
next_live a = (split a.epoch a.phase a.at_hand).live

-- ---- epochs that are past

-- where an epoch isn't past, none of its frames is old
none_of : (epoch : ℕ) (phase : Phase) (e : ℕ) (fs : List Frame) → is_past epoch phase e ≡ false → Each (λ f. is_old epoch phase f ≡ true) fs → of_epoch e fs ≡ []
none_of epoch phase e [] now old = refl
none_of epoch phase e (f ∷ fs) now old = elim (cases_Bool (eqb f.epoch e)) [
  | inl is ↦ absurd (true≢false (sym old.0 ∙ ap (is_past epoch phase) (eqb-true f.epoch e is) ∙ now))
  | inr other ↦ rw (other, none_of epoch phase e fs now old.1) refl
]

-- where it is past, a frame that is taken isn't of it
not_of : (epoch : ℕ) (phase : Phase) (e : ℕ) (o : Option Frame) → is_past epoch phase e ≡ true → IfSome o (λ f. is_old epoch phase f ≡ false) → of_epoch e (option_to_list o) ≡ []
not_of epoch phase e None past live = refl
not_of epoch phase e (Some f) past live = elim (cases_Bool (eqb f.epoch e)) [
  | inl is ↦ absurd (true≢false (sym past ∙ ap (is_past epoch phase) (sym (eqb-true f.epoch e is)) ∙ live))
  | inr other ↦ rw other refl
]

-- an epoch that is past stays so
past_closed : (epoch : ℕ) (phase : Phase) (e : ℕ) → is_past epoch phase e ≡ true → is_past epoch Closed e ≡ true
past_closed epoch Closed e past = past
past_closed epoch Opening e past = grind (arith, nat_tests)
past_closed epoch Open e past = grind (arith, nat_tests)

past_later : (epoch later : ℕ) (phase : Phase) (e : ℕ) → is_past epoch phase e ≡ true → is_past epoch phase later ≡ false → is_past later Opening e ≡ true
past_later epoch later Closed e past live = grind (arith, nat_tests)
past_later epoch later Opening e past live = grind (arith, nat_tests)
past_later epoch later Open e past live = grind (arith, nat_tests)

past_next : (epoch : ℕ) (phase : Phase) (e : ℕ) → is_past epoch phase e ≡ true → is_past (epoch + 1) Opening e ≡ true
past_next epoch Closed e past = grind (arith, nat_tests)
past_next epoch Opening e past = grind (arith, nat_tests)
past_next epoch Open e past = grind (arith, nat_tests)

past_up_to : (epoch e : ℕ) → ltb epoch e ≡ false → is_past (epoch + 1) Opening e ≡ true
past_up_to epoch e is = grind (arith, nat_tests)

abbrev past_of : EndView → ℕ → Bool
past_of a e = is_past a.epoch a.phase e

past_with_body : (a : EndView) (later e : ℕ) (body : Body) → past_of a e ≡ true → past_of a later ≡ false → past_of (with_body a later body) e ≡ true
past_with_body a later e bodies.Open past live = past_later a.epoch later a.phase e past live
past_with_body a later e (bodies.Line text) past live = past
past_with_body a later e (bodies.Bytes bytes) past live = past
past_with_body a later e bodies.Close past live = past_closed a.epoch a.phase e past

past_with_taken : (a : EndView) (o : Option Frame) (e : ℕ) → past_of a e ≡ true → IfSome o (λ f. is_old a.epoch a.phase f ≡ false) → past_of (with_taken a o) e ≡ true
past_with_taken a None e past live = past
past_with_taken a (Some f) e past live = past_with_body a f.epoch e f.body past live

past_begun : (epoch : ℕ) (phase : Phase) (e : ℕ) → is_past epoch phase e ≡ true → is_past epoch (phase_after_frame phase) e ≡ true
past_begun epoch Closed e past = past
past_begun epoch Opening e past = past
past_begun epoch Open e past = past

past_sent : (a : EndView) (f : Frame) (e : ℕ) → past_of a e ≡ true → past_of (after_send a f) e ≡ true
past_sent a f e past = elim (cases_Bool (is_close f)) [
  | inl is ↦ rw is (past_closed a.epoch a.phase e past)
  | inr other ↦ rw other (past_begun a.epoch a.phase e past)
]

-- ---- what a call leaves

on_way_with_body : (a : EndView) (later : ℕ) (body : Body) → (with_body a later body).on_way ≡ a.on_way
on_way_with_body a later bodies.Open = refl
on_way_with_body a later (bodies.Line text) = refl
on_way_with_body a later (bodies.Bytes bytes) = refl
on_way_with_body a later bodies.Close = refl

on_way_with_taken : (a : EndView) (o : Option Frame) → (with_taken a o).on_way ≡ a.on_way
on_way_with_taken a None = refl
on_way_with_taken a (Some f) = on_way_with_body a f.epoch f.body

at_hand_with_body : (a : EndView) (later : ℕ) (body : Body) → (with_body a later body).at_hand ≡ a.at_hand
at_hand_with_body a later bodies.Open = refl
at_hand_with_body a later (bodies.Line text) = refl
at_hand_with_body a later (bodies.Bytes bytes) = refl
at_hand_with_body a later bodies.Close = refl

at_hand_with_taken : (a : EndView) (o : Option Frame) → (with_taken a o).at_hand ≡ a.at_hand
at_hand_with_taken a None = refl
at_hand_with_taken a (Some f) = at_hand_with_body a f.epoch f.body

pub at_hand-after_take : (a : EndView) → (after_take a).at_hand ≡ after_first (is_taken a) a.at_hand
at_hand-after_take a = at_hand_with_taken (record a { at_hand = after_first (is_taken a) a.at_hand }) (next_frame a)

pub on_way-after_call : (c : Call) (a : EndView) → (after_call c a).on_way ≡ a.on_way ++ sent_by c a
on_way-after_call (Sends f) a = elim (cases_Bool (accepts a f)) [ inl is ↦ rw is refl | inr other ↦ rw other (sym (append-nil a.on_way)) ]
on_way-after_call Takes a = on_way_with_taken (record a { at_hand = after_first (is_taken a) a.at_hand }) (next_frame a) ∙ sym (append-nil a.on_way)
on_way-after_call Opens a = sym (append-nil a.on_way)
on_way-after_call Closes a = sym (append-nil a.on_way)

-- ---- one epoch of a way

-- of one epoch: what came out of the way, and that what was taken are its first frames, and all of it until the epoch is past
pub record Kept (e : ℕ) (w : Way) : Type 0 where
  pub out : List Frame
  pub order : of_epoch e w.sent ≡ out ++ (of_epoch e w.taker.at_hand ++ of_epoch e w.sender.on_way)
  pub front : IsFront (of_epoch e w.taken) out
  pub whole : past_of w.taker e ≡ false → of_epoch e w.taken ≡ out

abbrev of_epoch-append : (e : ℕ) (xs ys : List Frame) → of_epoch e (xs ++ ys) ≡ of_epoch e xs ++ of_epoch e ys
of_epoch-append e xs ys = filter-append (λ f. eqb f.epoch e) xs ys

kept_new : (e : ℕ) → Kept e new_way
kept_new e = record { out = []; order = refl; front = ([], refl); whole = λ _. refl }

-- a later state takes no frame that the one before it wouldn't
still_live : (old new : Bool) → (old ≡ true → new ≡ true) → new ≡ false → old ≡ false
still_live false new more now = refl
still_live true new more now = absurd (true≢false (sym (more refl) ∙ now))

kept_sender : (e : ℕ) (c : Call) (w : Way) → Kept e w → Kept e (after_event (AtSender c) w)
kept_sender e c w k =
    let s = sent_by c w.sender in
    let hand = of_epoch e w.taker.at_hand in
    let way : of_epoch e (after_call c w.sender).on_way ≡ of_epoch e w.sender.on_way ++ of_epoch e s = ap (of_epoch e) (on_way-after_call c w.sender) ∙ of_epoch-append e w.sender.on_way s in
    let order : of_epoch e (w.sent ++ s) ≡ k.out ++ (hand ++ of_epoch e (after_call c w.sender).on_way) =
    of_epoch-append e w.sent s ∙ ap (λ (l : List Frame). l ++ of_epoch e s) k.order ∙ append_assoc k.out (hand ++ of_epoch e w.sender.on_way) (of_epoch e s)
    ∙ ap (λ (l : List Frame). k.out ++ l) (append_assoc hand (of_epoch e w.sender.on_way) (of_epoch e s)) ∙ ap (λ (l : List Frame). k.out ++ (hand ++ l)) (sym way) in
    record { out = k.out; order = order; front = k.front; whole = k.whole }

kept_carried : (e : ℕ) (w : Way) → Kept e w → Kept e (after_event Carries w)
kept_carried e w k = record {
  out = k.out;
  order = k.order ∙ ap (λ (l : List Frame). k.out ++ l) (sym (of_epoch-append e w.taker.at_hand w.sender.on_way) ∙ sym (append-nil (of_epoch e (w.taker.at_hand ++ w.sender.on_way))));
  front = k.front;
  whole = k.whole;
}

-- a call that takes and drops nothing
kept_same : (e : ℕ) (w : Way) (new : EndView) → new.at_hand ≡ w.taker.at_hand → (past_of w.taker e ≡ true → past_of new e ≡ true) → Kept e w → Kept e (record w { taker = new; taken = w.taken ++ [] })
kept_same e w new hand past k =
    let same : of_epoch e (w.taken ++ []) ≡ of_epoch e w.taken = ap (of_epoch e) (append-nil w.taken) in
    record {
      out = k.out;
      order = k.order ∙ ap (λ (l : List Frame). k.out ++ (of_epoch e l ++ of_epoch e w.sender.on_way)) (sym hand);
      front = subst (λ (l : List Frame). IsFront l k.out) (sym same) k.front;
      whole = λ now. same ∙ k.whole (still_live (past_of w.taker e) (past_of new e) past now);
    }

kept_sends : (e : ℕ) (f : Frame) (w : Way) → Kept e w → Kept e (after_event (AtTaker (Sends f)) w)
kept_sends e f w k = elim (cases_Bool (accepts w.taker f)) [
  | inl is ↦ rw is (kept_same e w (after_send w.taker f) refl (past_sent w.taker f e) k)
  | inr other ↦ rw other (kept_same e w w.taker refl (λ past. past) k)
]

kept_opens : (e : ℕ) (w : Way) → Kept e w → Kept e (after_event (AtTaker Opens) w)
kept_opens e w k =
    let a = w.taker in
    let same : of_epoch e (w.taken ++ []) ≡ of_epoch e w.taken = ap (of_epoch e) (append-nil w.taken) in
    elim (cases_Bool (ltb a.epoch e)) [
      | inl later ↦ record {
        out = k.out;
        order = k.order ∙ ap (λ (l : List Frame). k.out ++ (l ++ of_epoch e w.sender.on_way)) (sym (later_stay a.epoch e a.at_hand later));
        front = subst (λ (l : List Frame). IsFront l k.out) (sym same) k.front;
        whole = λ now. same ∙ k.whole (still_live (past_of a e) (past_of (after_open a) e) (past_next a.epoch a.phase e) now);
      }
      | inr before ↦ record {
        out = k.out ++ of_epoch e a.at_hand;
        order = k.order ∙ sym (append_assoc k.out (of_epoch e a.at_hand) (of_epoch e w.sender.on_way))
            ∙ ap (λ (l : List Frame). (k.out ++ of_epoch e a.at_hand) ++ (l ++ of_epoch e w.sender.on_way)) (sym (earlier_go a.epoch e a.at_hand before));
        front = subst (λ (l : List Frame). IsFront l (k.out ++ of_epoch e a.at_hand)) (sym same) (front_more (of_epoch e w.taken) k.out (of_epoch e a.at_hand) k.front);
        whole = λ now. absurd (true≢false (sym (past_up_to a.epoch e before) ∙ now));
      }
    ] where
      later_stay : (epoch e : ℕ) (fs : List Frame) → ltb epoch e ≡ true → of_epoch e (filter (λ f. ltb epoch f.epoch) fs) ≡ of_epoch e fs
      later_stay epoch e [] later = refl
      later_stay epoch e (f ∷ fs) later = elim (cases_Bool (eqb f.epoch e)) [
        | inl is ↦ rw (ap (ltb epoch) (eqb-true f.epoch e is) ∙ later, is, later_stay epoch e fs later) refl
        | inr other ↦ elim (cases_Bool (ltb epoch f.epoch)) [ inl stays ↦ rw (stays, other, later_stay epoch e fs later) refl | inr goes ↦ rw (goes, other, later_stay epoch e fs later) refl ]
      ]

      earlier_go : (epoch e : ℕ) (fs : List Frame) → ltb epoch e ≡ false → of_epoch e (filter (λ f. ltb epoch f.epoch) fs) ≡ []
      earlier_go epoch e [] before = refl
      earlier_go epoch e (f ∷ fs) before = elim (cases_Bool (eqb f.epoch e)) [
        | inl is ↦ rw (ap (ltb epoch) (eqb-true f.epoch e is) ∙ before, earlier_go epoch e fs before) refl
        | inr other ↦ elim (cases_Bool (ltb epoch f.epoch)) [ inl stays ↦ rw (stays, other, earlier_go epoch e fs before) refl | inr goes ↦ rw (goes, earlier_go epoch e fs before) refl ]
      ]

      front_more : (xs ys zs : List Frame) → IsFront xs ys → IsFront xs (ys ++ zs)
      front_more xs ys zs front = (front.0 ++ zs, ap (λ (l : List Frame). l ++ zs) front.1 ∙ append_assoc xs front.0 zs)

kept_takes : (e : ℕ) (w : Way) → Kept e w → Kept e (after_event (AtTaker Takes) w)
kept_takes e w k =
    let a = w.taker in
    let o = next_frame a in
    let rest = after_first (is_taken a) a.at_hand in
    let s = split a.epoch a.phase a.at_hand in
    let way = of_epoch e w.sender.on_way in
    let over = of_epoch e s.over in
    let one = of_epoch e (option_to_list o) in
    let hand : of_epoch e a.at_hand ≡ over ++ (one ++ of_epoch e rest) =
    ap (of_epoch e) s.whole ∙ of_epoch-append e s.over (option_to_list o ++ rest) ∙ ap (λ (l : List Frame). over ++ l) (of_epoch-append e (option_to_list o) rest) in
    let left : of_epoch e (after_take a).at_hand ≡ of_epoch e rest = ap (of_epoch e) (at_hand-after_take a) in
    let order : of_epoch e w.sent ≡ (k.out ++ (over ++ one)) ++ (of_epoch e (after_take a).at_hand ++ way) =
    k.order ∙ ap (λ (l : List Frame). k.out ++ (l ++ way)) hand ∙ regroup k.out over one (of_epoch e rest) way ∙ ap (λ (l : List Frame). (k.out ++ (over ++ one)) ++ (l ++ way)) (sym left) in
    let taken : of_epoch e (w.taken ++ option_to_list o) ≡ of_epoch e w.taken ++ one = of_epoch-append e w.taken (option_to_list o) in
    elim (cases_Bool (past_of a e)) [
      | inl past ↦
          let none : one ≡ [] = not_of a.epoch a.phase e o past s.live in
          let same : of_epoch e (w.taken ++ option_to_list o) ≡ of_epoch e w.taken = taken ∙ ap (λ (l : List Frame). of_epoch e w.taken ++ l) none ∙ append-nil (of_epoch e w.taken) in
          record {
            out = k.out ++ (over ++ one);
            order = order;
            front = subst (λ (l : List Frame). IsFront l (k.out ++ (over ++ one))) (sym same) (longer (of_epoch e w.taken) k.out (over ++ one) k.front);
            whole = λ now. absurd (true≢false (sym (past_with_taken (record a { at_hand = rest }) o e past s.live) ∙ now));
          }
      | inr live ↦
          let none : over ≡ [] = none_of a.epoch a.phase e s.over live s.old in
          let all : of_epoch e (w.taken ++ option_to_list o) ≡ k.out ++ (over ++ one) = taken ∙ ap (λ (l : List Frame). l ++ one) (k.whole live) ∙ ap (λ (l : List Frame). k.out ++ (l ++ one)) (sym none) in
          record { out = k.out ++ (over ++ one); order = order; front = ([], sym all ∙ sym (append-nil (of_epoch e (w.taken ++ option_to_list o)))); whole = λ _. all }
    ] where
      regroup : (out over one rest way : List Frame) → out ++ ((over ++ (one ++ rest)) ++ way) ≡ (out ++ (over ++ one)) ++ (rest ++ way)
      regroup out over one rest way = simp append_assoc

      longer : (xs ys zs : List Frame) → IsFront xs ys → IsFront xs (ys ++ zs)
      longer xs ys zs front = (front.0 ++ zs, ap (λ (l : List Frame). l ++ zs) front.1 ∙ append_assoc xs front.0 zs)

kept_step : (e : ℕ) (event : Event) (w : Way) → Kept e w → Kept e (after_event event w)
kept_step e (AtSender c) w k = kept_sender e c w k
kept_step e (AtTaker (Sends f)) w k = kept_sends e f w k
kept_step e (AtTaker Takes) w k = kept_takes e w k
kept_step e (AtTaker Opens) w k = kept_opens e w k
kept_step e (AtTaker Closes) w k = kept_same e w (after_close w.taker) refl (past_closed w.taker.epoch w.taker.phase e) k
kept_step e Carries w k = kept_carried e w k

kept_all : (e : ℕ) (events : List Event) (w : Way) → Kept e w → Kept e (after_events events w)
kept_all e [] w k = k
kept_all e (event ∷ events) w k = kept_all e events (after_event event w) (kept_step e event w k)

pub in_order : (events : List Event) (e : ℕ) → IsFront (of_epoch e (after_events events new_way).taken) (of_epoch e (after_events events new_way).sent)
in_order events e =
    let k = kept_all e events new_way (kept_new e) in
    let rest = of_epoch e (after_events events new_way).taker.at_hand ++ of_epoch e (after_events events new_way).sender.on_way in
    (k.front.0 ++ rest, k.order ∙ ap (λ (l : List Frame). l ++ rest) k.front.1 ∙ append_assoc (of_epoch e (after_events events new_way).taken) k.front.0 rest)
