-- The end at which a frame is taken, and that at which one is sent.
use Rattle.std.proofs.Common.{◌≡◌, ◌≢◌, inl, inr, ℕ, Bool, true, false, not, ◌&&◌, if◌then◌else◌, List, [], ◌∷◌, ◌++◌, Option, Some, refl, sym, ap, subst, ◌∙◌, true≢false}
use Rattle.std.specs.Prelude.{◌==◌, fold, length}
use Rattle.std.proofs.lemmas.Bool.{and_parts, cases_Bool, eqb-true}
use Rattle.std.proofs.lemmas.List.Elements.{filter-append}
use Rattle.std.proofs.lemmas.List.{append-nil}
use Rattle.std.proofs.lemmas.List.Sums.{fold-append}
use Rattle.annex_base.proofs.Conditions.{eqb_refl, same_bool_is, same_bool_refl}
use Rattle.annex_base.specs.Bools.{same_bool}
use Rattle.link_ring.specs.declared.frame.Frame.{Frame}
use Rattle.link_ring.specs.Ends.{EndView}
use Rattle.run_data.specs.declared.entry.FrameView.{FrameView}
use Rattle.node_model.specs.Ends.{End, EndName, sends_at, takes_at, taken_at, sent_at, end_took, end_takes, end_sends}
use Rattle.node_ends.specs.Ends.{end_at, end_in, frame_at, link_at, text_in}
use Rattle.node_ends.specs.Going.{AreAfter}

-- the way to the taker's end
turned : (b c : Bool) → same_bool b (if (not c) then false else true) ≡ true → b ≡ c
turned true true is = refl
turned true false is = absurd (true≢false (sym is))
turned false true is = absurd (true≢false (sym is))
turned false false is = refl

turned_own : (b : Bool) → same_bool b (if (not b) then false else true) ≡ true
turned_own true = refl
turned_own false = refl

same_name : (p q : EndName) → p.peer ≡ q.peer → p.slot ≡ q.slot → p.client ≡ q.client → p ≡ q
same_name p q peer slot client =
    ap (λ (n : ℕ). record { peer = n; slot = p.slot; client = p.client }) peer
    ∙ ap (λ (n : ℕ). record { peer = q.peer; slot = n; client = p.client }) slot
    ∙ ap (λ (b : Bool). record { peer = q.peer; slot = q.slot; client = b }) client

-- ---- taken

pub takes_own : (a : EndName) (f : Frame) → takes_at a (frame_at a f) ≡ true
takes_own a f = rw (eqb_refl a.peer, eqb_refl a.slot) (turned_own a.client)

pub takes_is : (a b : EndName) (f : Frame) → takes_at b (frame_at a f) ≡ true → b ≡ a
takes_is a b f is =
    let way = and_parts ((a.peer == b.peer) && (a.slot == b.slot)) (same_bool b.client (if (not a.client) then false else true)) is in
    let numbers = and_parts (a.peer == b.peer) (a.slot == b.slot) way.0 in
    same_name b a (sym (eqb-true a.peer b.peer numbers.0)) (sym (eqb-true a.slot b.slot numbers.1)) (turned b.client a.client way.1)

pub takes_other : (a b : EndName) (f : Frame) → takes_at b (frame_at a f) ≡ false → b ≢ a
takes_other a b f not_so same = true≢false (sym (takes_own a f) ∙ (subst (λ (c : EndName). takes_at c (frame_at a f) ≡ false) same not_so))

-- ---- sent

pub sends_own : (a : EndName) (f : FrameView) → f.peer ≡ a.peer → f.slot ≡ a.slot → f.up ≡ a.client → sends_at a f ≡ true
sends_own a f peer slot up = rw (peer, slot, up, eqb_refl a.peer, eqb_refl a.slot) (same_bool_refl a.client)

pub sends_is : (a b : EndName) (f : FrameView) → f.peer ≡ a.peer → f.slot ≡ a.slot → f.up ≡ a.client → sends_at b f ≡ true → b ≡ a
sends_is a b f peer slot up is =
    let way = and_parts ((f.peer == b.peer) && (f.slot == b.slot)) (same_bool f.up b.client) is in
    let numbers = and_parts (f.peer == b.peer) (f.slot == b.slot) way.0 in
    same_name b a (sym (eqb-true f.peer b.peer numbers.0) ∙ peer) (sym (eqb-true f.slot b.slot numbers.1) ∙ slot) (sym (same_bool_is f.up b.client way.1) ∙ up)

pub sends_other : (a b : EndName) (f : FrameView) → f.peer ≡ a.peer → f.slot ≡ a.slot → f.up ≡ a.client → sends_at b f ≡ false → b ≢ a
sends_other a b f peer slot up not_so same = true≢false (sym (sends_own a f peer slot up) ∙ subst (λ (c : EndName). sends_at c f ≡ false) same not_so)

-- ---- after what is taken and sent

ends_of : (xs ys : List EndView) (b : EndName) → link_at ys b ≡ link_at xs b → end_at ys b ≡ end_at xs b
ends_of xs ys b same = ap end_in same

pub after_taken : (was now : List EndView) (a : EndName) (f : Frame) → length now ≡ length was
    → end_at now a ≡ end_takes (end_at was a) f.epoch (text_in f.body)
    → ((b : EndName) → b ≢ a → link_at now b ≡ link_at was b) → AreAfter was now (Some (frame_at a f)) []
after_taken was now a f count here others = record {
  count = count;
  ends = λ b. elim (cases_Bool (takes_at b (frame_at a f))) [
    | inl is ↦ rw is (subst (λ (c : EndName). end_at now c ≡ end_takes (end_at was c) f.epoch (text_in f.body)) (sym (takes_is a b f is)) here)
    | inr other ↦ rw other (ends_of was now b (others b (takes_other a b f other)))
  ];
}

abbrev sends_on : End → FrameView → End
sends_on c f = end_sends c f.body

pub after_sent : (first was now : List EndView) (taken : Option FrameView) (sent : List FrameView) (a : EndName) (f : FrameView)
    → f.peer ≡ a.peer → f.slot ≡ a.slot → f.up ≡ a.client
    → length now ≡ length was → end_at now a ≡ end_sends (end_at was a) f.body
    → ((b : EndName) → b ≢ a → link_at now b ≡ link_at was b)
    → AreAfter first was taken sent → AreAfter first now taken (sent ++ f ∷ [])
after_sent first was now taken sent a f peer slot up count here others after = record {
  count = count ∙ after.count;
  ends = λ b.
      let start = end_took (end_at first b) (taken_at b taken) in
      elim (cases_Bool (sends_at b f)) [
        | inl is ↦
            let b_is = sends_is a b f peer slot up is in
            let all : sent_at b (sent ++ f ∷ []) ≡ sent_at b sent ++ f ∷ [] = filter-append (sends_at b) sent (f ∷ []) ∙ ap (λ (xs : List FrameView). sent_at b sent ++ xs) (rw is refl) in
            subst (λ (c : EndName). end_at now c ≡ end_sends (end_at was c) f.body) (sym b_is) here
            ∙ ap (λ (c : End). end_sends c f.body) (after.ends b)
            ∙ sym (fold-append sends_on start (sent_at b sent) (f ∷ []))
            ∙ ap (λ (xs : List FrameView). fold sends_on start xs) (sym all)
        | inr other ↦
            let all : sent_at b (sent ++ f ∷ []) ≡ sent_at b sent = filter-append (sends_at b) sent (f ∷ []) ∙ ap (λ (xs : List FrameView). sent_at b sent ++ xs) (rw other refl) ∙ append-nil (sent_at b sent) in
            ends_of was now b (others b (sends_other a b f peer slot up other))
            ∙ after.ends b
            ∙ ap (λ (xs : List FrameView). fold sends_on start xs) (sym all)
      ];
}
