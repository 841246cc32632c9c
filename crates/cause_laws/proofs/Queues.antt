-- The frames on a way that were sent and not yet taken, the oldest first; what an entry does at one of its ends adds to them, or takes the first.
use Rattle.std.proofs.Common.{◌≡◌, ℕ, ◌+◌, ◌≤◌, Bool, true, false, List, [], ◌∷◌, ◌++◌, length, Option, Some, None, refl, sym, ap, ◌∙◌, subst, arith, append-nil, append_assoc, length-append}
use Rattle.std.specs.Prelude.{if◌then◌else◌, ◌==◌, ◌&&◌, filter, map, slice_get}
use Rattle.std.proofs.lemmas.Bool.Decides.{nat_tests}
use Rattle.std.proofs.lemmas.Option.{same_Some}
use Rattle.annex_base.specs.Lists.{Each}
use Rattle.annex_base.proofs.Conditions.{and_regrouped}
use Rattle.annex_base.specs.Bools.{same_bool}
use Rattle.run_data.specs.declared.entry.Entry.{Entry}
use Rattle.run_data.specs.declared.entry.FrameView.{FrameView}
use Rattle.run_data.specs.declared.entry.FrameText.{FrameText}
use Rattle.run_model.specs.Past.{is_of}
use Rattle.run_model.specs.Frames.{FlyingFrame, MayTake, Way, flying_frame, is_on, on_way, sender_of, frames_sent, taken_count, taker_of, takes}
use Rattle.node_model.specs.Ends.{EndName, sent_at, taken_at, takes_at}
use Rattle.dialogue_facts.proofs.DialogueTurns.{bodies}
use Rattle.run_laws.proofs.WayCounts.{in_sender-is, in_taker-is, on_out, out_sender-is, way_in, way_out, out_taker-is, other_side}

abbrev pub flying_bodies : List FlyingFrame → List FrameText
flying_bodies [] = []
flying_bodies (x ∷ xs) = x.frame.body ∷ flying_bodies xs

-- what was taken, and what is on the way
pub record Queue (past : List Entry) (w : Way) (bs : List FrameText) : Type 0 where
  pub gone : List FlyingFrame
  pub rest : List FlyingFrame
  pub sent_is : frames_sent past w ≡ gone ++ rest
  pub taken_is : taken_count past w ≡ length gone
  pub bodies_are : flying_bodies rest ≡ bs

bodies_append : (xs ys : List FlyingFrame) → flying_bodies (xs ++ ys) ≡ flying_bodies xs ++ flying_bodies ys
bodies_append [] ys = refl
bodies_append (x ∷ xs) ys = ap (λ (bs : List FrameText). x.frame.body ∷ bs) (bodies_append xs ys)

flown_bodies : (e : Entry) (past : List Entry) (fs : List FrameView) → flying_bodies (map (flying_frame e past) fs) ≡ bodies fs
flown_bodies e past [] = refl
flown_bodies e past (f ∷ fs) = ap (λ (bs : List FrameText). f.body ∷ bs) (flown_bodies e past fs)

-- ---- one entry

module _ (past : List Entry) (e : Entry) (w : Way) where
  -- neither end does anything there
  pub queue_same : (bs : List FrameText) → is_of (sender_of w) e ≡ false → (is_of (taker_of w) e && takes w e.taken) ≡ false → Queue past w bs → Queue (e ∷ past) w bs
  queue_same bs none still q = record { gone = q.gone; rest = q.rest; sent_is = rw none q.sent_is; taken_is = rw still q.taken_is; bodies_are = q.bodies_are }

  pub queue_sends : (bs : List FrameText) → is_of (sender_of w) e ≡ true → (is_of (taker_of w) e && takes w e.taken) ≡ false → Queue past w bs → Queue (e ∷ past) w (bs ++ bodies (on_way w e))
  queue_sends bs own still q = record {
    gone = q.gone;
    rest = q.rest ++ map (flying_frame e past) (on_way w e);
    sent_is = rw own (ap (λ (xs : List FlyingFrame). xs ++ map (flying_frame e past) (on_way w e)) q.sent_is ∙ append_assoc q.gone q.rest (map (flying_frame e past) (on_way w e)));
    taken_is = rw still q.taken_is;
    bodies_are = bodies_append q.rest (map (flying_frame e past) (on_way w e)) ∙ (ap (λ (xs : List FrameText). xs ++ flying_bodies (map (flying_frame e past) (on_way w e))) q.bodies_are ∙ ap (λ (xs : List FrameText). bs ++ xs) (flown_bodies e past (on_way w e)));
  }

  -- the first of the rest
  get_rest : (gone rest : List FlyingFrame) (it : FlyingFrame) → slice_get (gone ++ rest) (length gone) ≡ Some it → (more : List FlyingFrame) × (rest ≡ it ∷ more)
  get_rest [] [] it h = absurd (cc)
  get_rest [] (x ∷ xs) it h = (xs, ap (λ (y : FlyingFrame). y ∷ xs) (same_Some x it h))
  get_rest (g ∷ gone) rest it h = get_rest gone rest it h

  pub record First (f : FrameView) (bs : List FrameText) : Type 0 where
    pub it : FlyingFrame
    pub more : List FlyingFrame
    pub left : List FrameText
    pub bodies_is : bs ≡ f.body ∷ left
    pub gone : List FlyingFrame
    pub sent_is : frames_sent past w ≡ gone ++ it ∷ more
    pub taken_is : taken_count past w ≡ length gone
    pub left_is : flying_bodies more ≡ left

  pub first_of : (f : FrameView) (bs : List FrameText) → MayTake past w f → Queue past w bs → First f bs
  first_of f bs t q =
      let g = get_rest q.gone q.rest t.it (subst (λ (xs : List FlyingFrame). slice_get xs (length q.gone) ≡ Some t.it) q.sent_is (subst (λ n. slice_get (frames_sent past w) n ≡ Some t.it) q.taken_is t.next)) in
      record {
        it = t.it;
        more = g.0;
        left = flying_bodies g.0;
        bodies_is = sym q.bodies_are ∙ (ap flying_bodies g.1 ∙ ap (λ (b : FrameText). b ∷ flying_bodies g.0) t.body_is);
        gone = q.gone;
        sent_is = q.sent_is ∙ ap (λ (xs : List FlyingFrame). q.gone ++ xs) g.1;
        taken_is = q.taken_is;
        left_is = refl;
      }

  -- it is taken
  pub queue_takes : (f : FrameView) (bs : List FrameText) → is_of (sender_of w) e ≡ false → (is_of (taker_of w) e && takes w e.taken) ≡ true → (x : First f bs) → Queue (e ∷ past) w x.left
  queue_takes f bs none takes_it x = record {
    gone = x.gone ++ x.it ∷ [];
    rest = x.more;
    sent_is = rw none (x.sent_is ∙ sym (append_assoc x.gone (x.it ∷ []) x.more));
    taken_is = rw takes_it (ap (λ n. n + 1) x.taken_is ∙ sym (length-append x.gone (x.it ∷ [])));
    bodies_are = x.left_is;
  }

-- ---- at one end of a repository

abbrev pub hits : ℕ → Option FrameView → Bool
hits n None = false
hits n (Some f) = f.epoch == n

takes_in : (r : ℕ) (a : EndName) (n : ℕ) (o : Option FrameView) → takes (way_in r a n) o ≡ hits n (taken_at a o)
takes_in r a n None = refl
takes_in r a n (Some f) = ap (λ p. is_on (way_in r a n) p f) (in_sender-is r a n) ∙ (and_regrouped (f.peer == a.peer) (f.slot == a.slot) (same_bool f.up (if a.client then false else true)) (f.epoch == n)
    ∙ (ap (λ b. ((f.peer == a.peer) && (f.slot == a.slot) && b) && (f.epoch == n)) (other_side f.up a.client) ∙ go (takes_at a f)))
  where
    go : (b : Bool) → (b && (f.epoch == n)) ≡ hits n (if b then Some f else None)
    go true = refl
    go false = refl

filter_all : (n : ℕ) (fs : List FrameView) → Each (λ g. g.epoch ≡ n) fs → filter (λ g. g.epoch == n) fs ≡ fs
filter_all n [] all = refl
filter_all n (f ∷ fs) all = let yes' : (f.epoch == n) ≡ true = same f.epoch all.0 in rw yes' (ap (λ (gs : List FrameView). f ∷ gs) (filter_all n fs all.1))
  where
    same : (m : ℕ) → m ≡ n → (m == n) ≡ true
    same m e = grind (arith, nat_tests)

filter_none : (n : ℕ) (fs : List FrameView) → Each (λ g. (g.epoch == n) ≡ false) fs → filter (λ g. g.epoch == n) fs ≡ []
filter_none n [] all = refl
filter_none n (f ∷ fs) all = rw all.0 (filter_none n fs all.1)

module _ (r : ℕ) (a : EndName) (n : ℕ) (past : List Entry) (e : Entry) (own : is_of r e ≡ true) (other : is_of a.peer e ≡ false) where
  out_still : (is_of (taker_of (way_out r a n)) e && takes (way_out r a n) e.taken) ≡ false
  out_still = ap (λ k. is_of k e && takes (way_out r a n) e.taken) (out_taker-is r a n) ∙ ap (λ b. b && takes (way_out r a n) e.taken) other

  out_own : is_of (sender_of (way_out r a n)) e ≡ true
  out_own = ap (λ k. is_of k e) (out_sender-is r a n) ∙ own

  -- what it sends
  pub out_sends : (bs : List FrameText) → Queue past (way_out r a n) bs → Queue (e ∷ past) (way_out r a n) (bs ++ bodies (filter (λ g. g.epoch == n) (sent_at a e.sent)))
  out_sends bs q = subst (λ (gs : List FrameView). Queue (e ∷ past) (way_out r a n) (bs ++ bodies gs)) (on_out r a n e) (queue_sends past e (way_out r a n) bs out_own out_still q)

  pub out_all : (bs : List FrameText) → Each (λ g. g.epoch ≡ n) (sent_at a e.sent) → Queue past (way_out r a n) bs → Queue (e ∷ past) (way_out r a n) (bs ++ bodies (sent_at a e.sent))
  out_all bs all q = subst (λ (gs : List FrameView). Queue (e ∷ past) (way_out r a n) (bs ++ bodies gs)) (filter_all n (sent_at a e.sent) all) (out_sends bs q)

  pub out_none : (bs : List FrameText) → Each (λ g. (g.epoch == n) ≡ false) (sent_at a e.sent) → Queue past (way_out r a n) bs → Queue (e ∷ past) (way_out r a n) bs
  out_none bs all q = subst (λ (xs : List FrameText). Queue (e ∷ past) (way_out r a n) xs) (append-nil bs) (subst (λ (gs : List FrameView). Queue (e ∷ past) (way_out r a n) (bs ++ bodies gs)) (filter_none n (sent_at a e.sent) all) (out_sends bs q))

  in_none : is_of (sender_of (way_in r a n)) e ≡ false
  in_none = ap (λ k. is_of k e) (in_sender-is r a n) ∙ other

  in_hits : (is_of (taker_of (way_in r a n)) e && takes (way_in r a n) e.taken) ≡ hits n (taken_at a e.taken)
  in_hits = ap (λ k. is_of k e && takes (way_in r a n) e.taken) (in_taker-is r a n) ∙ (ap (λ b. b && takes (way_in r a n) e.taken) own ∙ takes_in r a n e.taken)

  -- what it takes: nothing of this epoch
  pub in_still : (bs : List FrameText) → hits n (taken_at a e.taken) ≡ false → Queue past (way_in r a n) bs → Queue (e ∷ past) (way_in r a n) bs
  in_still bs still q = queue_same past e (way_in r a n) bs in_none (in_hits ∙ still) q

  pub in_none_taken : (bs : List FrameText) → taken_at a e.taken ≡ None → Queue past (way_in r a n) bs → Queue (e ∷ past) (way_in r a n) bs
  in_none_taken bs none q = in_still bs (ap (hits n) none) q

  -- or the first
  pub in_takes : (f : FrameView) (bs : List FrameText) → taken_at a e.taken ≡ Some f → f.epoch ≡ n → (x : First past e (way_in r a n) f bs) → Queue (e ∷ past) (way_in r a n) x.left
  in_takes f bs took at x = queue_takes past e (way_in r a n) f bs in_none (in_hits ∙ (ap (hits n) took ∙ same f.epoch at)) x
    where
      same : (m : ℕ) → m ≡ n → (m == n) ≡ true
      same m e = grind (arith, nat_tests)

-- an entry of neither
pub others_queue : (past : List Entry) (e : Entry) (w : Way) (bs : List FrameText) → is_of (sender_of w) e ≡ false → is_of (taker_of w) e ≡ false → Queue past w bs → Queue (e ∷ past) w bs
others_queue past e w bs none still q = queue_same past e w bs none (ap (λ b. b && takes w e.taken) still) q

-- a way on which nothing was sent
pub empty_queue : (past : List Entry) (w : Way) → frames_sent past w ≡ [] → taken_count past w ≤ length (frames_sent past w) → Queue past w []
empty_queue past w none within = record {
  gone = [];
  rest = [];
  sent_is = none;
  taken_is = (let low : taken_count past w ≤ 0 = subst (λ (xs : List FlyingFrame). taken_count past w ≤ length xs) none within in omega (arith, low));
  bodies_are = refl;
}
