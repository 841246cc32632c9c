-- Ends are closed, one behind the other.
use Rattle.std.proofs.Common.{◌≡◌, ◌≢◌, ◌⊎◌, inl, inr, ℕ, ◌<◌, ◌+◌, Bool, true, false, if◌then◌else◌, List, [], ◌∷◌, ◌++◌, Option, None, refl, sym, ap, subst, ◌∙◌, arith, append_assoc, append-nil, true≢false}
use Rattle.std.specs.Prelude.{◌==◌, flat_map, not}
use Rattle.std.specs.List.{range_with_len}
use Rattle.std.proofs.lemmas.Grind.{flat_map-append}
use Rattle.std.proofs.lemmas.List.Elements.{filter-append}
use Rattle.annex_base.specs.Lists.{Each}
use Rattle.annex_base.specs.declared.kinds.EntryStamp.{EntryStamp}
use Rattle.annex_base.proofs.Lists.{Each-filter, Each-left, Each-right, Each-weaker}
use Rattle.annex_base.proofs.Numbers.{range_below, range_more}
use Rattle.run_data.specs.declared.entry.FrameText.TheVariants.{Closing}
use Rattle.run_data.specs.declared.entry.FrameView.{FrameView}
use Rattle.link_ring.specs.Ends.{EndView}
use Rattle.node_model.specs.AnyTime.{ends_with}
use Rattle.node_model.specs.Ends.{End, EndName, frames}
use Rattle.node_model.specs.Evidence.{but}
use Rattle.node_ends.specs.declared.sending.Sending.TheVariants as sendings
use Rattle.node_ends.specs.Ends.{end_at, end_in, link_at}
use Rattle.node_ends.specs.Going.{IsSent}
use Rattle.node_ends.specs.Joined.{StayPaired}
use Rattle.node_crash.specs.Closing.{CloseInTurn, SendsCloses, all_names, names_with, shut_at}
use Rattle.node_crash.proofs.Ends.{same_or_other, stay_on, stay_same, stays_there}

-- ---- one end

module _ (sender : EntryStamp) (was now : List EndView) (a : EndName) (listed : List FrameView) (f : FrameView) (opened : (end_at was a).opened ≡ true) (is : IsSent a sender None sendings.Close was now f) (paired : StayPaired was now) where
  shut_is : flat_map (shut_at was) (a ∷ []) ≡ f ∷ []
  shut_is = append-nil (shut_at was a) ∙ (ap (λ (b : Bool). if b then frames a (end_at was a) (Closing ∷ []) else []) opened ∙ is.view)

  end_or : (b : EndName) → (link_at now b ≡ link_at was b) ⊎ ((end_at now b).opened ≡ false)
  end_or b = elim (same_or_other b a) [
    | inl same ↦ inr (ap (λ (x : EndName). (end_at now x).opened) same ∙ ap (λ (c : End). c.opened) is.state)
    | inr other ↦ inl (is.others b other)
  ]

  pub sends_one : SendsCloses (a ∷ []) sender was now listed (listed ++ f ∷ [])
  sends_one = record {
    listed = ap (λ (fs : List FrameView). listed ++ fs) (sym shut_is);
    others = λ b apart. is.others b apart.0;
    each = end_or;
    there = λ b there. stays_there (link_at was b) (link_at now b) (paired b) there;
    after = λ first taken before. is.after first taken listed before;
    turns = (now, listed ++ f ∷ [], inr (f, is, refl), (refl, refl));
    paired = paired;
    count = is.count;
  }

pub sends_none : (sender : EntryStamp) (links : List EndView) (listed : List FrameView) → SendsCloses [] sender links links listed listed
sends_none sender links listed = record {
  listed = sym (append-nil listed);
  turns = (refl, refl);
  others = λ b apart. refl;
  each = λ b. inl refl;
  there = λ b there. there;
  after = λ first taken before. before;
  paired = stay_same links;
  count = refl;
}

-- an end that isn't open sends none
pub sends_closed : (sender : EntryStamp) (links : List EndView) (a : EndName) (listed : List FrameView) → (end_at links a).opened ≡ false → SendsCloses (a ∷ []) sender links links listed listed
sends_closed sender links a listed shut = record {
  listed = sym (ap (λ (fs : List FrameView). listed ++ fs) none ∙ append-nil listed);
  turns = (links, listed, inl (refl, refl), (refl, refl));
  others = λ b apart. refl;
  each = λ b. inl refl;
  there = λ b there. there;
  after = λ first taken before. before;
  paired = stay_same links;
  count = refl;
}
  where
    none : flat_map (shut_at links) (a ∷ []) ≡ []
    none = append-nil (shut_at links a) ∙ ap (λ (b : Bool). if b then frames a (end_at links a) (Closing ∷ []) else []) shut

-- ---- one behind the other

shut_same : (was mid : List EndView) (names : List EndName) → Each (λ b. link_at mid b ≡ link_at was b) names → flat_map (shut_at mid) names ≡ flat_map (shut_at was) names
shut_same was mid [] same = refl
shut_same was mid (b ∷ bs) same =
    ap (λ (o : Option EndView). (if (end_in o).opened then frames b (end_in o) (Closing ∷ []) else []) ++ flat_map (shut_at mid) bs) same.0
    ∙ ap (λ (fs : List FrameView). shut_at was b ++ fs) (shut_same was mid bs same.1)

turns_then : (names names' : List EndName) (sender : EntryStamp) (was mid now : List EndView) (xs ys zs : List FrameView) → CloseInTurn names sender was mid xs ys → CloseInTurn names' sender mid now ys zs → CloseInTurn (names ++ names') sender was now xs zs
turns_then [] names' sender was mid now xs ys zs first second =
    subst (λ (links : List EndView). CloseInTurn names' sender links now xs zs) first.0 (subst (λ (fs : List FrameView). CloseInTurn names' sender mid now fs zs) first.1 second)
turns_then (a ∷ names) names' sender was mid now xs ys zs first second = (first.0, first.1, first.2, turns_then names names' sender first.0 mid now first.1 ys zs first.3 second)

pub sends_then : (names names' : List EndName) (sender : EntryStamp) (was mid now : List EndView) (xs ys zs : List FrameView) → SendsCloses names sender was mid xs ys → SendsCloses names' sender mid now ys zs → Each (λ b. Each (λ a. b ≢ a) names) names'
    → SendsCloses (names ++ names') sender was now xs zs
sends_then names names' sender was mid now xs ys zs first second apart = record {
  listed = second.listed
      ∙ (ap (λ (fs : List FrameView). fs ++ flat_map (shut_at mid) names') first.listed
      ∙ (append_assoc xs (flat_map (shut_at was) names) (flat_map (shut_at mid) names')
      ∙ ap (λ (fs : List FrameView). xs ++ fs)
      (ap (λ (fs : List FrameView). flat_map (shut_at was) names ++ fs) (shut_same was mid names' (Each-weaker (λ b. Each (λ a. b ≢ a) names) (λ b. link_at mid b ≡ link_at was b) first.others names' apart))
      ∙ sym (flat_map-append (shut_at was) names names'))));
  others = λ b away. second.others b (Each-right (λ a. b ≢ a) names names' away) ∙ first.others b (Each-left (λ a. b ≢ a) names names' away);
  each = λ b. elim (second.each b) [
    | inl same ↦ go b same (first.each b)
    | inr shut ↦ inr shut
  ];
  there = λ b there. second.there b (first.there b there);
  after = λ w taken before. second.after w taken (first.after w taken before);
  turns = turns_then names names' sender was mid now xs ys zs first.turns second.turns;
  paired = stay_on was mid now first.paired second.paired;
  count = second.count ∙ first.count;
}
  where
    go : (b : EndName) → link_at now b ≡ link_at mid b → (link_at mid b ≡ link_at was b) ⊎ ((end_at mid b).opened ≡ false) → (link_at now b ≡ link_at was b) ⊎ ((end_at now b).opened ≡ false)
    go b same (inl before) = inl (same ∙ before)
    go b same (inr shut) = inr (ap (λ (o : Option EndView). (end_in o).opened) same ∙ shut)

-- ---- which ends these are

other_slot : (a b : EndName) → (a.slot ≡ b.slot → ⊥) → a ≢ b
other_slot a b apart same = apart (ap (λ (x : EndName). x.slot) same)

abbrev pub slot_end : ℕ → Bool → ℕ → EndName
slot_end peer client slot = record { peer = peer; slot = slot; client = client }

-- the slots of one side
module _ (peer : ℕ) (client : Bool) where
  differ : (m n : ℕ) → (m ≡ n → ⊥) → slot_end peer client m ≢ slot_end peer client n
  differ m n apart = other_slot (slot_end peer client m) (slot_end peer client n) apart

  pub slots_apart : (Each (λ b. Each (λ a. b ≢ a) (slot_end peer client 0 ∷ [])) (slot_end peer client 1 ∷ []))
      × (Each (λ b. Each (λ a. b ≢ a) (slot_end peer client 0 ∷ slot_end peer client 1 ∷ [])) (slot_end peer client 2 ∷ []))
      × (Each (λ b. Each (λ a. b ≢ a) (slot_end peer client 0 ∷ slot_end peer client 1 ∷ slot_end peer client 2 ∷ [])) (slot_end peer client 3 ∷ []))
  slots_apart = (
    ((differ 1 0 (λ e. omega (arith, e)), tt), tt),
    ((differ 2 0 (λ e. omega (arith, e)), (differ 2 1 (λ e. omega (arith, e)), tt)), tt),
    ((differ 3 0 (λ e. omega (arith, e)), (differ 3 1 (λ e. omega (arith, e)), (differ 3 2 (λ e. omega (arith, e)), tt))), tt),
  )

-- the sides of one peer
side_apart : (peer : ℕ) (b : EndName) → b.client ≡ false → Each (λ a. b ≢ a) (ends_with peer true)
side_apart peer b is = (differs, (differs, (differs, (differs, tt))))
  where
    differs : {slot : ℕ} → b ≢ slot_end peer true slot
    differs {slot} same = true≢false (sym (ap (λ (x : EndName). x.client) same) ∙ is)

pub sides_apart : (peer : ℕ) → Each (λ b. Each (λ a. b ≢ a) (ends_with peer true)) (ends_with peer false)
sides_apart peer = (side_apart peer (slot_end peer false 0) refl, (side_apart peer (slot_end peer false 1) refl, (side_apart peer (slot_end peer false 2) refl, (side_apart peer (slot_end peer false 3) refl, tt))))

peers_are : (P : ℕ → Type 0) (peers : List ℕ) → Each P peers → Each (λ (a : EndName). P a.peer) (names_with peers)
peers_are P [] all = tt
peers_are P (p ∷ ps) all = (all.0, (all.0, (all.0, (all.0, (all.0, (all.0, (all.0, (all.0, peers_are P ps all.1))))))))

peers_apart : (own p : ℕ) → Each (λ b. Each (λ a. b ≢ a) (all_names own p)) (names_with (but own (p ∷ [])))
peers_apart own p =
    Each-weaker (λ (b : EndName). b.peer ≡ p) (λ b. Each (λ a. b ≢ a) (all_names own p)) (λ b here.
    Each-weaker (λ (a : EndName). a.peer < p) (λ a. b ≢ a)
    (λ a low same. let e : b.peer ≡ a.peer = ap (λ (x : EndName). x.peer) same in omega (arith, here, low, e)) (all_names own p) below) (names_with (but own (p ∷ []))) (peers_are (λ n. n ≡ p) (but own (p ∷ [])) (Each-filter (λ (n : ℕ). n ≡ p) (λ n. not (n == own)) (p ∷ []) (refl, tt)))
  where
    below : Each (λ (a : EndName). a.peer < p) (all_names own p)
    below = peers_are (λ n. n < p) (but own (range_with_len 0 p)) (Each-filter (λ (n : ℕ). n < p) (λ n. not (n == own)) (range_with_len 0 p) (range_below 0 p p (omega arith)))

pub but_other : (own p : ℕ) → (p == own) ≡ false → but own (p ∷ []) ≡ p ∷ []
but_other own p apart = rw apart refl

pub but_own : (own p : ℕ) → (p == own) ≡ true → but own (p ∷ []) ≡ []
but_own own p same = rw same refl

-- those of one repository more
pub sends_more : (own p : ℕ) (sender : EntryStamp) (was mid now : List EndView) (xs ys zs : List FrameView) → SendsCloses (all_names own p) sender was mid xs ys → SendsCloses (names_with (but own (p ∷ []))) sender mid now ys zs
    → SendsCloses (all_names own (p + 1)) sender was now xs zs
sends_more own p sender was mid now xs ys zs first second =
    subst (λ (names : List EndName). SendsCloses names sender was now xs zs)
    (sym (ap (λ (l : List ℕ). names_with (but own l)) (range_more p)
    ∙ (ap names_with (filter-append (λ n. not (n == own)) (range_with_len 0 p) (p ∷ []))
    ∙ flat_map-append (λ (peer : ℕ). ends_with peer true ++ ends_with peer false) (but own (range_with_len 0 p)) (but own (p ∷ [])))))
    (sends_then (all_names own p) (names_with (but own (p ∷ []))) sender was mid now xs ys zs first second (peers_apart own p))
