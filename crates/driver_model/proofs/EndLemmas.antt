-- The ends of connections: their names, and the frames that are taken and sent at them.
use Rattle.std.proofs.Common.{◌≡◌, ◌≢◌, ℕ, Bool, true, false, List, [], ◌∷◌, refl, sym, ap, ◌∙◌, true≢false}
use Rattle.std.specs.Prelude.{◌&&◌, ◌==◌, filter, fold, if◌then◌else◌, nat_lt, not}
use Rattle.std.proofs.lemmas.Bool.{and_parts, eqb-true, false_from_ne_true}
use Rattle.annex_base.proofs.Conditions.{and_regrouped, eqb_refl, same_bool_is, same_bool_refl}
use Rattle.annex_base.proofs.Lists.{filter_both}
use Rattle.annex_base.specs.Bools.{same_bool}
use Rattle.run_data.specs.declared.entry.Entry.{Entry}
use Rattle.run_data.specs.declared.entry.FrameView.{FrameView}
use Rattle.run_data.specs.declared.entry.FrameText.{FrameText}
use Rattle.node_model.specs.Ends.{End, EndName, end_after, end_sends, frames, is_opening, may_take, sends_at, sent_at, takes_at}
use Rattle.run_model.specs.Frames.{is_on, on_way, sender_of, taker_of}
use Rattle.run_model.specs.Past.{is_of}
use Rattle.run_model.specs.States.{end_at}
use Rattle.driver_model.specs.Driver.{end_to}
use Rattle.driver_model.specs.Ways.{way_out}

-- ---- names of ends

abbrev pub same_end : EndName → EndName → Bool
same_end b a = (b.peer == a.peer) && (b.slot == a.slot) && same_bool b.client a.client

end_path : (p q : ℕ) (b : Bool) (a : EndName) → p ≡ a.peer → q ≡ a.slot → b ≡ a.client → Path EndName (record { peer = p; slot = q; client = b }) a
end_path p q b a x y z i = record { peer = x i; slot = y i; client = z i }

pub same_end-is : (b a : EndName) → same_end b a ≡ true → b ≡ a
same_end-is b a e =
    let two = and_parts ((b.peer == a.peer) && (b.slot == a.slot)) (same_bool b.client a.client) e in
    let one = and_parts (b.peer == a.peer) (b.slot == a.slot) two.0 in
    end_path b.peer b.slot b.client a (eqb-true b.peer a.peer one.0) (eqb-true b.slot a.slot one.1) (same_bool_is b.client a.client two.1)

pub same_end-refl : (a : EndName) → same_end a a ≡ true
same_end-refl a = rw (eqb_refl a.peer, eqb_refl a.slot, same_bool_refl a.client) refl

pub same_end-not : (b a : EndName) → b ≢ a → same_end b a ≡ false
same_end-not b a differs = false_from_ne_true (same_end b a) (λ is. differs (same_end-is b a is))

pub same_end-differs : (b a : EndName) → same_end b a ≡ false → b ≢ a
same_end-differs b a apart is = true≢false (sym (same_end-refl a) ∙ ap (λ (z : EndName). same_end z a) (sym is) ∙ apart)

pub takes_end : (a : EndName) (f : FrameView) → takes_at a f ≡ true → end_to f ≡ a
takes_end a f e =
    let two = and_parts ((f.peer == a.peer) && (f.slot == a.slot)) (same_bool a.client (if f.up then false else true)) e in
    let one = and_parts (f.peer == a.peer) (f.slot == a.slot) two.0 in
    end_path f.peer f.slot (if f.up then false else true) a (eqb-true f.peer a.peer one.0) (eqb-true f.slot a.slot one.1) (sym (same_bool_is a.client (if f.up then false else true) two.1))

pub takes_self : (f : FrameView) → takes_at (end_to f) f ≡ true
takes_self f = rw (eqb_refl f.peer, eqb_refl f.slot) (same_bool_refl (if f.up then false else true))

-- what an end sends is found at that end alone
pub sent_other : (b a : EndName) (c : End) (bodies : List FrameText) → same_end b a ≡ false → sent_at a (frames b c bodies) ≡ []
sent_other b a c [] e = refl
sent_other b a c (body ∷ bodies) e = rw e (sent_other b a (end_sends c body) bodies e)

pub sent_same : (a : EndName) (c : End) (bodies : List FrameText) → sent_at a (frames a c bodies) ≡ frames a c bodies
sent_same a c [] = refl
sent_same a c (body ∷ bodies) = rw (same_end-refl a) (ap (λ fs. record { peer = a.peer; slot = a.slot; up = a.client; epoch = (end_sends c body).epoch; seq = (end_sends c body).sent; body = body } ∷ fs) (sent_same a (end_sends c body) bodies))

-- ---- how an end moves

abbrev pub sends_all : End → List FrameView → End
sends_all c fs = fold (λ c f. end_sends c f.body) c fs

pub end_own : (r : ℕ) (past : List Entry) (a : EndName) (e : Entry) → is_of r e ≡ true → end_at (e ∷ past) r a ≡ end_after a (end_at past r a) e
end_own r past a e is = rw is refl

-- a frame that is no Opening is of the end's epoch, and the end is open
pub may_epoch : (c : End) (f : FrameView) → is_opening f.body ≡ false → may_take c f ≡ true → (c.opened ≡ true) × (f.epoch ≡ c.epoch)
may_epoch c f n may = go f.body n may
  where
    go : (body : FrameText) → is_opening body ≡ false → (if is_opening body then not c.opened && nat_lt c.epoch f.epoch else c.opened && (f.epoch == c.epoch)) ≡ true → (c.opened ≡ true) × (f.epoch ≡ c.epoch)
    go body n may = let two = and_parts c.opened (f.epoch == c.epoch) (rw n at may) in (two.0, eqb-true f.epoch c.epoch two.1)

-- ---- the way out of an end

out_sender : (r : ℕ) (p : ℕ) (b : Bool) → (if b then (if b then r else p) else (if b then p else r)) ≡ r
out_sender r p true = refl
out_sender r p false = refl

pub out_sender-is : (r : ℕ) (a : EndName) (n : ℕ) → sender_of (way_out r a n) ≡ r
out_sender-is r a n = out_sender r a.peer a.client

pub out_taker-is : (r : ℕ) (a : EndName) (n : ℕ) → taker_of (way_out r a n) ≡ a.peer
out_taker-is r a n = out_sender a.peer r a.client

is_out : (r : ℕ) (a : EndName) (n : ℕ) (g : FrameView) → is_on (way_out r a n) a.peer g ≡ (sends_at a g && (g.epoch == n))
is_out r a n g = and_regrouped (g.peer == a.peer) (g.slot == a.slot) (same_bool g.up a.client) (g.epoch == n)

pub on_out : (r : ℕ) (a : EndName) (n : ℕ) (e : Entry) → on_way (way_out r a n) e ≡ filter (λ g. g.epoch == n) (sent_at a e.sent)
on_out r a n e = ap (λ p. filter (is_on (way_out r a n) p) e.sent) (out_taker-is r a n)
    ∙ filter_both (is_on (way_out r a n) a.peer) (λ g. g.epoch == n) (sends_at a) (is_out r a n) e.sent
