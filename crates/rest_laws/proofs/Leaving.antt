-- The frames that left by one end and are on their way: the first of them is at hand at the other end, and an end that none left has room.
use Rattle.std.proofs.Common.{◌≡◌, ℕ, ◌+◌, ◌≤◌, Bool, true, false, List, [], ◌∷◌, Option, Some, ◌⊎◌, inl, inr, refl, sym, ap, ◌∙◌, subst}
use Rattle.std.specs.Prelude.{if◌then◌else◌, ◌&&◌, ◌==◌, filter, find, length, nat_le, not}
use Rattle.std.specs.Option.{option_to_list}
use Rattle.std.proofs.lemmas.Bool.{and_from, and_parts, eqb-true}
use Rattle.annex_base.specs.Bools.{same_bool}
use Rattle.annex_base.specs.Lists.{Each, Member}
use Rattle.annex_base.proofs.Conditions.{eqb_refl, same_bool_is, same_bool_refl}
use Rattle.annex_base.proofs.Lists.{Each-member, Member-filter_from, Member-filter_parts, Member-flat_map, cons_first, filter_no, filter_yes}
use Rattle.run_data.specs.declared.entry.FrameView.{FrameView}
use Rattle.node_model.specs.AnyTime.{all_ends}
use Rattle.node_model.specs.Ends.{EndName, takes_at}
use Rattle.node_model.specs.SetUp.{SetUp}
use Rattle.run_model.specs.Frames.{is_on}
use Rattle.driver_model.specs.Driver.{Flight, end_to, frames_to, has_room, is_sent_by}
use Rattle.driver_model.specs.Sound.{ComeInTurn, ComesBehind}
use Rattle.driver_model.specs.Turning.{at_hand}
use Rattle.driver_model.specs.Ways.{is_flight, other_end, way_out}
use Rattle.driver_model.proofs.InTurn.{turn_filter}

-- those that r sent at this end
abbrev pub sent : ℕ → EndName → List Flight → List Flight
sent r a xs = filter (is_sent_by r a) xs

-- ---- what is said of one of them

pub record Leaves (r : ℕ) (a : EndName) (x : Flight) : Type 0 where
  pub to_is : x.to ≡ a.peer
  pub peer_is : x.frame.peer ≡ r
  pub slot_is : x.frame.slot ≡ a.slot
  pub up_is : x.frame.up ≡ a.client

side_is : (c u : Bool) → (if c then u else not u) ≡ true → u ≡ c
side_is true true e = refl
side_is true false e = absurd (cc)
side_is false true e = absurd (cc)
side_is false false e = refl

pub leaves : (r : ℕ) (a : EndName) (x : Flight) → is_sent_by r a x ≡ true → Leaves r a x
leaves r a x e =
    let one = and_parts (x.to == a.peer) _ e in
    let two = and_parts (x.frame.peer == r) _ one.1 in
    let three = and_parts (x.frame.slot == a.slot) _ two.1 in
    record {
      to_is = eqb-true x.to a.peer one.0;
      peer_is = eqb-true x.frame.peer r two.0;
      slot_is = eqb-true x.frame.slot a.slot three.0;
      up_is = side_is a.client x.frame.up three.1;
    }

same_number : (m n : ℕ) → m ≡ n → (m == n) ≡ true
same_number m n e = ap (λ k. k == n) e ∙ eqb_refl n

side_from : (c u : Bool) → u ≡ c → (if c then u else not u) ≡ true
side_from true u e = e
side_from false u e = ap not e

pub sent_from : (r : ℕ) (a : EndName) (x : Flight) → Leaves r a x → is_sent_by r a x ≡ true
sent_from r a x l = and_from (x.to == a.peer) _ (same_number x.to a.peer l.to_is)
    (and_from (x.frame.peer == r) _ (same_number x.frame.peer r l.peer_is) (and_from (x.frame.slot == a.slot) _ (same_number x.frame.slot a.slot l.slot_is) (side_from a.client x.frame.up l.up_is)))

-- it is on the way of its epoch
pub on_its_way : (r : ℕ) (a : EndName) (x : Flight) → Leaves r a x → is_flight r a x.frame.epoch x ≡ true
on_its_way r a x l = and_from (x.to == a.peer) _ (same_number x.to a.peer l.to_is)
    (and_from (x.frame.peer == r) _ (same_number x.frame.peer r l.peer_is) (and_from (x.frame.slot == a.slot) _ (same_number x.frame.slot a.slot l.slot_is)
    (and_from (same_bool x.frame.up a.client) _ (ap (λ u. same_bool u a.client) l.up_is ∙ same_bool_refl a.client) (eqb_refl x.frame.epoch))))

pub of_way : (r : ℕ) (a : EndName) (n : ℕ) (x : Flight) → is_flight r a n x ≡ true → Leaves r a x × (x.frame.epoch ≡ n)
of_way r a n x e =
    let one = and_parts (x.to == a.peer) (is_on (way_out r a n) r x.frame) e in
    let two = and_parts (x.frame.peer == r) _ one.1 in
    let three = and_parts (x.frame.slot == a.slot) _ two.1 in
    let four = and_parts (same_bool x.frame.up a.client) (x.frame.epoch == n) three.1 in (
      record {
        to_is = eqb-true x.to a.peer one.0;
        peer_is = eqb-true x.frame.peer r two.0;
        slot_is = eqb-true x.frame.slot a.slot three.0;
        up_is = same_bool_is x.frame.up a.client four.0;
      },
      eqb-true x.frame.epoch n four.1,
    )

-- the end to which it goes
pub end_is : (r : ℕ) (a : EndName) (x : Flight) → Leaves r a x → end_to x.frame ≡ other_end r a
end_is r a x l i = record { peer = l.peer_is i; slot = l.slot_is i; client = if l.up_is i then false else true }

-- ---- the first is at hand

regrouped : (p q c u : Bool) → (p && (q && (if c then u else not u))) ≡ ((p && q) && same_bool (if c then false else true) (if u then false else true))
regrouped false q c u = refl
regrouped true false c u = refl
regrouped true true true true = refl
regrouped true true true false = refl
regrouped true true false true = refl
regrouped true true false false = refl

sent_test : (r : ℕ) (a : EndName) (x : Flight) → is_sent_by r a x ≡ ((x.to == a.peer) && takes_at (other_end r a) x.frame)
sent_test r a x = ap (λ b. (x.to == a.peer) && b) (regrouped (x.frame.peer == r) (x.frame.slot == a.slot) a.client x.frame.up)

pub first_comes : (r : ℕ) (a : EndName) (xs : List Flight) (x : Flight) (ys : List Flight) → sent r a xs ≡ x ∷ ys → find (takes_at (other_end r a)) (frames_to a.peer xs) ≡ Some x.frame
first_comes r a [] x ys e = absurd (cc)
first_comes r a (z ∷ zs) x ys e = go (first_comes r a zs x ys) (z.to == a.peer) refl (takes_at (other_end r a) z.frame) refl
  where
    off : is_sent_by r a z ≡ false → sent r a zs ≡ x ∷ ys
    off miss = sym (filter_no (is_sent_by r a) z zs miss) ∙ e

    go : (sent r a zs ≡ x ∷ ys → find (takes_at (other_end r a)) (frames_to a.peer zs) ≡ Some x.frame) → (b : Bool) → (z.to == a.peer) ≡ b → (c : Bool) → takes_at (other_end r a) z.frame ≡ c
        → find (takes_at (other_end r a)) (frames_to a.peer (z ∷ zs)) ≡ Some x.frame
    go more true i true j =
        let hit : is_sent_by r a z ≡ true = sent_test r a z ∙ rw (i, j) refl in
        let same : z ≡ x = cons_first z x (sent r a zs) ys (sym (filter_yes (is_sent_by r a) z zs hit) ∙ e) in
        rw (i, j) (ap (λ (y : Flight). Some y.frame) same)
    go more true i false j = let miss : is_sent_by r a z ≡ false = sent_test r a z ∙ rw (i, j) refl in rw (i, j) (more (off miss))
    go more false i c j = let miss : is_sent_by r a z ≡ false = sent_test r a z ∙ rw i refl in rw i (more (off miss))

pub at_hand_first : (s : SetUp) (fs : List FrameView) (b : EndName) (f : FrameView) → Member b (all_ends s) → find (takes_at b) fs ≡ Some f → Member f (at_hand s fs)
at_hand_first s fs b f m e = Member-flat_map (λ a. option_to_list (find (takes_at a) fs)) (all_ends s) b f m (subst (λ (o : Option FrameView). Member f (option_to_list o)) (sym e) (inl refl))

-- ---- none left

pub room_there : (r : ℕ) (a : EndName) (xs : List Flight) → sent r a xs ≡ [] → has_room r xs a ≡ true
room_there r a xs e = ap (λ (ys : List Flight). nat_le (length ys + 2) 8) e

-- ---- they come in turn

pub first_lowest : (r : ℕ) (a : EndName) (xs : List Flight) (x : Flight) (ys : List Flight) → a.client ≡ true → ComeInTurn xs → sent r a xs ≡ x ∷ ys → (z : Flight) → Member z xs → Leaves r a z
    → (z ≡ x) ⊎ (x.frame.epoch ≤ z.frame.epoch)
first_lowest r a xs x ys client turn e z m l = go (subst (Member z) e (Member-filter_from (is_sent_by r a) xs z m (sent_from r a z l)))
  where
    first : Leaves r a x
    first = leaves r a x (Member-filter_parts (is_sent_by r a) xs x (subst (Member x) (sym e) (inl refl))).1

    behind : Each (ComesBehind x) ys
    behind = (subst ComeInTurn e (turn_filter (is_sent_by r a) xs turn)).0

    go : Member z (x ∷ ys) → (z ≡ x) ⊎ (x.frame.epoch ≤ z.frame.epoch)
    go (inl same) = inl same
    go (inr n) = inr (Each-member (ComesBehind x) ys z behind n (first.up_is ∙ client) (l.to_is ∙ sym first.to_is) (end_is r a z l ∙ sym (end_is r a x first)))
