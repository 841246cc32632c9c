-- What is kept of the orders goes along the entries.
use Rattle.std.proofs.Common.{◌≡◌, ℕ, zero, suc, ◌+◌, ◌<◌, Bool, true, false, List, [], ◌∷◌, ◌++◌, length, Option, Some, refl, sym, ap, subst, ◌∙◌, ◌⊎◌, inl, inr, arith}
use Rattle.std.specs.Prelude.{◌==◌, ◌&&◌, filter, if◌then◌else◌, map, slice_get}
use Rattle.std.proofs.lemmas.Bool.{and_parts, eqb-true}
use Rattle.std.proofs.lemmas.Option.{same_Some, slice_get_within}
use Rattle.annex_base.specs.Bools.{same_bool}
use Rattle.annex_base.proofs.Conditions.{eqb_refl}
use Rattle.drop_proof.specs.declared.rule.Need.{Need}
use Rattle.run_data.specs.declared.entry.Entry.{Entry}
use Rattle.run_data.specs.declared.entry.EntryKind.{EntryKind}
use Rattle.run_data.specs.declared.entry.EntryKind.TheVariants.{Order}
use Rattle.run_data.specs.declared.entry.FrameView.{FrameView}
use Rattle.run_data.specs.declared.job.Proof.{Proof}
use Rattle.run_data.specs.declared.run.RepoView.{RepoView}
use Rattle.node_model.specs.Rows.{option_is}
use Rattle.run_model.specs.Frames.{FlyingFrame, Way, flying_frame, frames_sent, is_on, on_way, sender_of, taker_of}
use Rattle.run_model.specs.Past.{is_of}
use Rattle.step_facts.proofs.Flights.{get_append}
use Rattle.step_facts.proofs.Plain.{member_mapped}
use Rattle.annex_base.specs.Lists.{Member}
use Rattle.audit_laws.specs.Proofs.{IsOrderFrame, order_proof, way_up}
use Rattle.run_audit.specs.Orders.{AreOrdersOf, IsKeptOf, after_order, name_on, name_sent, proof_at, same_name}
use Rattle.run_audit.specs.declared.orders.OrderName.{OrderName}
use Rattle.run_audit.specs.declared.orders.Orders.{Orders}

-- ---- lists

one_more : {X : Type 0} (xs : List X) (y : X) (k : ℕ) (x : X) → slice_get (xs ++ y ∷ []) k ≡ Some x → (slice_get xs k ≡ Some x) ⊎ ((k ≡ length xs) × (y ≡ x))
one_more [] y zero x h = inr (refl, same_Some y x h)
one_more [] y (suc k) x h = absurd (cc)
one_more (z ∷ xs) y zero x h = inl h
one_more (z ∷ xs) y (suc k) x h = elim (one_more xs y k x h) [ inl i ↦ inl i | inr i ↦ inr (ap suc i.0, i.1) ]

none_more : {X : Type 0} (xs : List X) → xs ++ [] ≡ xs
none_more [] = refl
none_more (x ∷ xs) = ap (λ ys. x ∷ ys) (none_more xs)

-- ---- names

-- two names that are told alike are one
name_is : (a b : OrderName) → same_name a b ≡ true → a ≡ b
name_is a b same =
    let one = and_parts (a.client == b.client) ((a.server == b.server) && ((a.slot == b.slot) && ((a.epoch == b.epoch) && (a.seq == b.seq)))) same in
    let two = and_parts (a.server == b.server) ((a.slot == b.slot) && ((a.epoch == b.epoch) && (a.seq == b.seq))) one.1 in
    let three = and_parts (a.slot == b.slot) ((a.epoch == b.epoch) && (a.seq == b.seq)) two.1 in
    let four = and_parts (a.epoch == b.epoch) (a.seq == b.seq) three.1 in
    (λ i. record {
      client = eqb-true a.client b.client one.0 i;
      server = eqb-true a.server b.server two.0 i;
      slot = eqb-true a.slot b.slot three.0 i;
      epoch = eqb-true a.epoch b.epoch four.0 i;
      seq = eqb-true a.seq b.seq four.1 i;
    })

name_same : (a : OrderName) → same_name a a ≡ true
name_same a = rw (eqb_refl a.client, eqb_refl a.server, eqb_refl a.slot, eqb_refl a.epoch, eqb_refl a.seq) refl

-- ---- an entry that orders nothing

kind_free : (repos : List RepoView) (a : ℕ) (before : List Entry) (kind : EntryKind) (p : Option Proof) → ((j target : ℕ) (deadline : Option ℕ) (need : Need) (key : List ℕ) → kind ≡ Order j target deadline need key → ⊥) → IsKeptOf repos a before kind p
kind_free repos a before (Order j target deadline need key) p no_order = absurd (no_order j target deadline need key refl)
kind_free repos a before kind p no_order = tt

module _ (repos : List RepoView) (past : List Entry) (e : Entry) (x : Orders) (kept : AreOrdersOf repos past x) where
  -- where its repository isn't the sender, the way has what it had
  elsewhere : (w : Way) (n : ℕ) (it : FlyingFrame) → is_of (sender_of w) e ≡ false → slice_get (frames_sent (e ∷ past) w) n ≡ Some it → slice_get (frames_sent past w) n ≡ Some it
  elsewhere w n it other got = subst (λ (fs : List FlyingFrame). slice_get fs n ≡ Some it) same got
    where
      same : frames_sent (e ∷ past) w ≡ frames_sent past w
      same = rw other refl

  -- **an entry that is no order**
  pub kept_plain : ((j target : ℕ) (deadline : Option ℕ) (need : Need) (key : List ℕ) → e.kind ≡ Order j target deadline need key → ⊥) → (y : Orders) → ((name : OrderName) → proof_at y name ≡ proof_at x name) → AreOrdersOf repos (e ∷ past) y
  kept_plain no_order y same w n it up got = go (is_of (sender_of w) e) refl
    where
      old : slice_get (frames_sent past w) n ≡ Some it → IsKeptOf repos w.client it.before it.entry.kind (proof_at y (name_on w (n + 1)))
      old there = subst (IsKeptOf repos w.client it.before it.entry.kind) (sym (same (name_on w (n + 1)))) (kept w n it up there)

      new : Member it (map (flying_frame e past) (on_way w e)) → IsKeptOf repos w.client it.before it.entry.kind (proof_at y (name_on w (n + 1)))
      new m =
          let t = member_mapped (flying_frame e past) (on_way w e) it m in
          kind_free repos w.client it.before it.entry.kind (proof_at y (name_on w (n + 1)))
          (λ j target deadline need key is. no_order j target deadline need key (ap (λ (z : FlyingFrame). z.entry.kind) (sym t.2) ∙ is))

      more : is_of (sender_of w) e ≡ true → frames_sent (e ∷ past) w ≡ frames_sent past w ++ map (flying_frame e past) (on_way w e)
      more is = rw is refl

      go : (b : Bool) → is_of (sender_of w) e ≡ b → IsKeptOf repos w.client it.before it.entry.kind (proof_at y (name_on w (n + 1)))
      go false is = old (elsewhere w n it is got)
      go true is = elim (get_append (frames_sent past w) (map (flying_frame e past) (on_way w e)) n it (subst (λ (fs : List FlyingFrame). slice_get fs n ≡ Some it) (more is) got)) [ inl i ↦ old i | inr m ↦ new m ]

  -- **an order**
  module _ (a : ℕ) (own : e.repo ≡ Some a) (f : IsOrderFrame past a e) (j target : ℕ) (deadline : Option ℕ) (need : Need) (key : List ℕ) (kind : e.kind ≡ Order j target deadline need key) where
    g : FrameView
    g = f.frame

    name : OrderName
    name = name_sent a f.frame

    pub kept_order : (y : Orders) → ((n : OrderName) → proof_at y n ≡ after_order (Some (record { name = name_sent a f.frame; proof = order_proof repos past a j target need })) n (proof_at x n)) → AreOrdersOf repos (e ∷ past) y
    kept_order y puts w n it up got = go (is_of (sender_of w) e) refl
      where
        p : Proof
        p = order_proof repos past a j target need

        -- a frame that was sent before isn't this one
        apart : slice_get (frames_sent past w) n ≡ Some it → (b : Bool) → same_name (name_sent a f.frame) (name_on w (n + 1)) ≡ b → proof_at y (name_on w (n + 1)) ≡ proof_at x (name_on w (n + 1))
        apart there false is = puts (name_on w (n + 1)) ∙ ap (λ (b : Bool). if b then Some (order_proof repos past a j target need) else proof_at x (name_on w (n + 1))) is
        apart there true is =
            let same = name_is (name_sent a f.frame) (name_on w (n + 1)) is in
            let way : way_up a f.frame ≡ w = (λ i. record { client = (same i).client; server = (same i).server; slot = (same i).slot; up = sym up i; epoch = (same i).epoch }) in
            let number : f.frame.seq ≡ n + 1 = ap (λ (z : OrderName). z.seq) same in
            let count : f.frame.seq ≡ length (frames_sent past w) + 1 = f.number_is ∙ ap (λ (v : Way). length (frames_sent past v) + 1) way in
            let within : n < length (frames_sent past w) = slice_get_within (frames_sent past w) n it there in
            absurd (omega (arith, number, count, within))

        old : slice_get (frames_sent past w) n ≡ Some it → IsKeptOf repos w.client it.before it.entry.kind (proof_at y (name_on w (n + 1)))
        old there = subst (IsKeptOf repos w.client it.before it.entry.kind) (sym (apart there (same_name (name_sent a f.frame) (name_on w (n + 1))) refl)) (kept w n it up there)

        sender : is_of (sender_of w) e ≡ true → a ≡ w.client
        sender is = eqb-true a w.client (sym (ap (λ (o : Option ℕ). option_is o w.client) own) ∙ ap (λ (b : Bool). is_of (if b then w.client else w.server) e) (sym up) ∙ is)

        -- it is this one
        here : is_of (sender_of w) e ≡ true → is_on w (taker_of w) f.frame ≡ true → n ≡ length (frames_sent past w) → flying_frame e past f.frame ≡ it → IsKeptOf repos w.client it.before it.entry.kind (proof_at y (name_on w (n + 1)))
        here is on at same =
            let one = and_parts (f.frame.peer == taker_of w) ((f.frame.slot == w.slot) && (same_bool f.frame.up w.up && (f.frame.epoch == w.epoch))) on in
            let two = and_parts (f.frame.slot == w.slot) (same_bool f.frame.up w.up && (f.frame.epoch == w.epoch)) one.1 in
            let three = and_parts (same_bool f.frame.up w.up) (f.frame.epoch == w.epoch) two.1 in
            let peer : f.frame.peer ≡ w.server = eqb-true f.frame.peer (taker_of w) one.0 ∙ ap (λ (b : Bool). if b then w.server else w.client) up in
            let slot : f.frame.slot ≡ w.slot = eqb-true f.frame.slot w.slot two.0 in
            let epoch : f.frame.epoch ≡ w.epoch = eqb-true f.frame.epoch w.epoch three.1 in
            let way : way_up a f.frame ≡ w = (λ i. record { client = sender is i; server = peer i; slot = slot i; up = sym up i; epoch = epoch i }) in
            let number : f.frame.seq ≡ n + 1 = f.number_is ∙ ap (λ (v : Way). length (frames_sent past v) + 1) way ∙ ap (λ k. k + 1) (sym at) in
            let named : name_sent a f.frame ≡ name_on w (n + 1) = (λ i. record { client = sender is i; server = peer i; slot = slot i; epoch = epoch i; seq = number i }) in
            let kept_here : proof_at y (name_on w (n + 1)) ≡ Some (order_proof repos past w.client j target need) =
            ap (proof_at y) (sym named) ∙ puts (name_sent a f.frame) ∙ ap (λ (b : Bool). if b then Some (order_proof repos past a j target need) else proof_at x (name_sent a f.frame)) (name_same (name_sent a f.frame))
            ∙ ap (λ m. Some (order_proof repos past m j target need)) (sender is) in
            subst (λ (z : FlyingFrame). IsKeptOf repos w.client z.before z.entry.kind (proof_at y (name_on w (n + 1)))) same
            (subst (λ (k : EntryKind). IsKeptOf repos w.client past k (proof_at y (name_on w (n + 1)))) (sym kind) kept_here)

        more : is_of (sender_of w) e ≡ true → frames_sent (e ∷ past) w ≡ frames_sent past w ++ map (flying_frame e past) (filter (is_on w (taker_of w)) (f.frame ∷ []))
        more is = (λ i. if is i then frames_sent past w ++ map (flying_frame e past) (on_way w e) else frames_sent past w) ∙ ap (λ (gs : List FrameView). frames_sent past w ++ map (flying_frame e past) (filter (is_on w (taker_of w)) gs)) f.alone

        sent : is_of (sender_of w) e ≡ true → (b : Bool) → is_on w (taker_of w) f.frame ≡ b → IsKeptOf repos w.client it.before it.entry.kind (proof_at y (name_on w (n + 1)))
        sent is true on =
            let list : map (flying_frame e past) (filter (is_on w (taker_of w)) (f.frame ∷ [])) ≡ flying_frame e past f.frame ∷ [] = rw on refl in
            elim (one_more (frames_sent past w) (flying_frame e past f.frame) n it (subst (λ (fs : List FlyingFrame). slice_get fs n ≡ Some it) (more is ∙ ap (λ fs. frames_sent past w ++ fs) list) got)) [
              | inl i ↦ old i
              | inr i ↦ here is on i.0 i.1
            ]
        sent is false off =
            let list : map (flying_frame e past) (filter (is_on w (taker_of w)) (f.frame ∷ [])) ≡ [] = rw off refl in
            old (subst (λ (fs : List FlyingFrame). slice_get fs n ≡ Some it) (more is ∙ ap (λ fs. frames_sent past w ++ fs) list ∙ none_more (frames_sent past w)) got)

        go : (b : Bool) → is_of (sender_of w) e ≡ b → IsKeptOf repos w.client it.before it.entry.kind (proof_at y (name_on w (n + 1)))
        go false is = old (elsewhere w n it is got)
        go true is = sent is (is_on w (taker_of w) f.frame) refl
