-- The end that a flight comes to, and the one that it leaves.
use Rattle.std.proofs.Common.{◌≡◌, ◌≢◌, ℕ, Bool, true, false, not, ◌&&◌, if◌then◌else◌, List, [], ◌∷◌, refl, sym, ap, ◌∙◌, subst}
use Rattle.std.specs.Prelude.{◌==◌, filter, map}
use Rattle.std.proofs.lemmas.Bool.{and_parts, eqb-true, false_from_ne_true, ne_eqb, true≢false}
use Rattle.annex_base.proofs.Conditions.{eqb_refl, if_not, not_by_if, same_bool_is, same_bool_refl}
use Rattle.annex_base.specs.Bools.{same_bool}
use Rattle.link_ring.specs.declared.frame.Frame.{Frame}
use Rattle.run_data.specs.declared.entry.FrameView.{FrameView}
use Rattle.node_model.specs.Ends.{EndName, sends_at, sent_at, takes_at}
use Rattle.node_model.specs.State.{State}
use Rattle.node_ends.specs.Ends.{frame_at}
use Rattle.node_ends.specs.Joined.{end_with}
use Rattle.driver_model.specs.Driver.{Driver, Flight, end_to, flight, is_at, is_sent_by}
use Rattle.driver_model.specs.Ways.{other_end}
use Rattle.link_flights.specs.Flights.{comes_to}
use Rattle.link_flights.proofs.Lists.{filter_mapped}

-- the other side's other side
other_side-twice : (b : Bool) → (if (if b then false else true) then false else true) ≡ b
other_side-twice true = refl
other_side-twice false = refl

-- the other end, by its name
pub other_named : (r : ℕ) (a : EndName) → end_with r a.slot (not a.client) ≡ other_end r a
other_named r a = ap (λ (c : Bool). end_with r a.slot c) (not_by_if a.client)

pub not_other_side : (b : Bool) → not (if b then false else true) ≡ b
not_other_side true = refl
not_other_side false = refl

-- a number that is another's isn't this
pub other_number : (n q r : ℕ) → q ≢ r → (n == q) ≡ true → (n == r) ≡ false
other_number n q r apart is = false_from_ne_true (n == r) (λ also. apart (sym (eqb-true n q is) ∙ eqb-true n r also))

pub end_path : (p q : ℕ) (b : Bool) (a : EndName) → p ≡ a.peer → q ≡ a.slot → b ≡ a.client → Path EndName (record { peer = p; slot = q; client = b }) a
end_path p q b a x y z i = record { peer = x i; slot = y i; client = z i }

pub other_twice : (r : ℕ) (b : EndName) → b.peer ≡ r → (q : ℕ) → other_end r (other_end q b) ≡ b
other_twice r b is q = end_path r b.slot (if (if b.client then false else true) then false else true) b (sym is) refl (other_side-twice b.client)

-- ---- an end takes

pub end_own : (a : EndName) (f : Frame) → end_to (frame_at a f) ≡ a
end_own a f = end_path a.peer a.slot (if not a.client then false else true) a refl refl (if_not a.client)

pub takes_end : (a : EndName) (f : FrameView) → takes_at a f ≡ true → end_to f ≡ a
takes_end a f e =
    let two = and_parts ((f.peer == a.peer) && (f.slot == a.slot)) (same_bool a.client (if f.up then false else true)) e in
    let one = and_parts (f.peer == a.peer) (f.slot == a.slot) two.0 in
    end_path f.peer f.slot (if f.up then false else true) a (eqb-true f.peer a.peer one.0) (eqb-true f.slot a.slot one.1) (sym (same_bool_is a.client (if f.up then false else true) two.1))

pub takes_self : (f : FrameView) → takes_at (end_to f) f ≡ true
takes_self f = rw (eqb_refl f.peer, eqb_refl f.slot) (same_bool_refl (if f.up then false else true))

-- the test of the frame that is taken is that of the end at which it is taken
pub at_own : (r : ℕ) (a : EndName) (f : FrameView) → takes_at a f ≡ true → (x : Flight) → is_at r f x ≡ comes_to r a x
at_own r a f is x = ap (λ (b : EndName). (x.to == r) && takes_at b x.frame) (takes_end a f is)

-- what comes to another end isn't taken
pub at_other : (r : ℕ) (a : EndName) (f : FrameView) → takes_at a f ≡ false → (x : Flight) → comes_to r a x ≡ true → is_at r f x ≡ false
at_other r a f not_so x is = false_from_ne_true (is_at r f x) (λ also.
    let here = and_parts (x.to == r) (takes_at a x.frame) is in
    let there = and_parts (x.to == r) (takes_at (end_to f) x.frame) also in
    let same : end_to f ≡ a = sym (takes_end (end_to f) x.frame there.1) ∙ takes_end a x.frame here.1 in
    true≢false (sym (subst (λ (b : EndName). takes_at b f ≡ true) same (takes_self f)) ∙ not_so))

-- nor is what comes to another repository
pub at_elsewhere : (r q : ℕ) (b : EndName) (f : FrameView) → q ≢ r → (x : Flight) → comes_to q b x ≡ true → is_at r f x ≡ false
at_elsewhere r q b f apart x is =
    let here = and_parts (x.to == q) (takes_at b x.frame) is in
    let other : (x.to == r) ≡ false = other_number x.to q r apart here.0 in rw other refl

-- ---- an end sends

sent_form : (p q s c u : Bool) → (p && (q && (s && (if c then u else not u)))) ≡ (p && ((q && s) && same_bool (if c then false else true) (if u then false else true)))
sent_form false q s c u = refl
sent_form true false s c u = refl
sent_form true true false c u = refl
sent_form true true true true true = refl
sent_form true true true true false = refl
sent_form true true true false true = refl
sent_form true true true false false = refl

-- what an end sent comes to the other one
pub sent_comes : (r : ℕ) (a : EndName) (x : Flight) → is_sent_by r a x ≡ comes_to a.peer (other_end r a) x
sent_comes r a x = sent_form (x.to == a.peer) (x.frame.peer == r) (x.frame.slot == a.slot) a.client x.frame.up

sends_form : (p s u c : Bool) → (p && ((true && s) && same_bool (if c then false else true) (if u then false else true))) ≡ ((p && s) && same_bool u c)
sends_form false s u c = refl
sends_form true false u c = refl
sends_form true true true true = refl
sends_form true true true false = refl
sends_form true true false true = refl
sends_form true true false false = refl

module _ (d : Driver) (st : State) (r : ℕ) where
  pub flight_comes : (a : EndName) (f : FrameView) → comes_to a.peer (other_end r a) (flight d st r f) ≡ sends_at a f
  flight_comes a f = rw (eqb_refl r) (sends_form (f.peer == a.peer) (f.slot == a.slot) f.up a.client)

  -- of what is sent, that which comes to the other end was sent at this one
  pub sent_there : (a : EndName) (fs : List FrameView) → filter (comes_to a.peer (other_end r a)) (map (flight d st r) fs) ≡ map (flight d st r) (sent_at a fs)
  sent_there a fs = filter_mapped (flight d st r) (comes_to a.peer (other_end r a)) (sends_at a) (flight_comes a) fs

  -- none of it comes to an end that has another peer
  pub none_beside : (q : ℕ) (b : EndName) (fs : List FrameView) → b.peer ≢ r → filter (comes_to q b) (map (flight d st r) fs) ≡ []
  none_beside q b [] apart = refl
  none_beside q b (f ∷ fs) apart = rw (here) (none_beside q b fs apart)
    where
      other : (r == b.peer) ≡ false
      other = ne_eqb r b.peer (λ same. apart (sym same))

      none : (p s t : Bool) → (p && ((false && s) && t)) ≡ false
      none true s t = refl
      none false s t = refl

      here : comes_to q b (flight d st r f) ≡ false
      here = rw other (none (f.peer == q) (f.slot == b.slot) (same_bool b.client (if f.up then false else true)))
