-- The ends of all repositories after a turn of one of them.
use Rattle.std.proofs.Common.{◌≡◌, ◌≢◌, ◌<◌, inl, inr, ℕ, false, List, Option, Some, None, refl, sym, ap, ◌∙◌, subst, arith}
use Rattle.std.specs.Prelude.{◌==◌, flat_map, length, map, nat_lt}
use Rattle.std.specs.Option.{option_map, option_to_list}
use Rattle.std.proofs.lemmas.Bool.{cases_Bool, eqb-true, true≢false}
use Rattle.std.proofs.lemmas.Bool.Decides.{nat_tests}
use Rattle.annex_base.proofs.Conditions.{eqb_refl}
use Rattle.annex_base.specs.Lists.{Each, Member}
use Rattle.annex_base.proofs.Lists.{Each-filter, Each-map}
use Rattle.annex_base.specs.declared.kinds.EntryStamp.{EntryStamp}
use Rattle.annex_base.specs.declared.kinds.Word.{Word}
use Rattle.link_ring.specs.Ends.{EndView, after_carry, after_drop}
use Rattle.run_data.specs.declared.entry.Entry.{Entry}
use Rattle.run_data.specs.declared.entry.FrameText.TheVariants as texts
use Rattle.run_data.specs.declared.entry.FrameView.{FrameView}
use Rattle.node_model.specs.AnyTime.{all_ends}
use Rattle.node_model.specs.Ends.{End, EndName, is_opening, sends_at, sent_at, taken_at}
use Rattle.node_model.specs.Look.{Look, Effect}
use Rattle.node_model.specs.SetUp.{SetUp}
use Rattle.node_model.specs.Step.{step}
use Rattle.node_model.specs.State.{State}
use Rattle.node_ends.specs.declared.sending.Sending.{Sending}
use Rattle.node_ends.specs.declared.sending.Sending.TheVariants as sendings
use Rattle.node_ends.specs.Ends.{AreEnds, IsEndOf, end_in, hand_at, link_at, stands}
use Rattle.node_ends.specs.Sent.{text_of_sending}
use Rattle.node_ends.specs.Joined.{end_with, link_carried}
use Rattle.driver_model.specs.Driver.{Driver, Flight, adds, piece_of, without_old_flights}
use Rattle.link_flights.specs.Entries.{PostsAt, SendsInOrder, link_after}
use Rattle.link_flights.specs.Fleets.{AreAllCarried, AreEndsIn, PostsAsDefined}
use Rattle.driver_model.specs.Ways.{other_end}
use Rattle.link_flights.specs.Flights.{IsEndIn}
use Rattle.link_flights.proofs.Naming.{end_path, other_named, other_twice}
use Rattle.link_flights.proofs.Pieces.{pieces_zip}
use Rattle.link_flights.proofs.Stepped.{SendLaws, TakenAtHand, first_taken, step_orderly}
use Rattle.link_flights.proofs.Dropped.{end_elsewhere, link_drop}
use Rattle.link_flights.proofs.Carried.{AreBothIn, both_closed, both_dropped, both_turned, end_beside}

pub slot_low : (xs : List EndView) (a : EndName) (v : EndView) → link_at xs a ≡ Some v → a.slot < 4
slot_low xs a v is = elim (cases_Bool (nat_lt a.slot 4)) [
  | inl low ↦ grind (arith, nat_tests)
  | inr high ↦ absurd (let none : None ≡ Some v = rw high at is in cc)
]

-- both ends were there
pub record Came (o p : Option EndView) (x : EndView) : Type 0 where
  pub v : EndView
  pub w : EndView
  pub one : o ≡ Some v
  pub two : p ≡ Some w
  pub it : after_carry v w ≡ x

came : (o p : Option EndView) (x : EndView) → link_carried o p ≡ Some x → Came o p x
came None p x is = absurd (cc)
came (Some v) None x is = absurd (cc)
came (Some v) (Some w) x is = record { v = v; w = w; one = refl; two = refl; it = cc }

pub record Mapped (f : EndView → EndView) (o : Option EndView) (x : EndView) : Type 0 where
  pub v : EndView
  pub was : o ≡ Some v
  pub it : f v ≡ x

pub mapped : (f : EndView → EndView) (o : Option EndView) (x : EndView) → option_map f o ≡ Some x → Mapped f o x
mapped f None x is = absurd (cc)
mapped f (Some v) x is = record { v = v; was = refl; it = cc }

-- a fact of ends holds of both ends of a connection after frames were carried between them
abbrev pub Both : (ℕ → EndName → EndView → Type 0) → ℕ → EndName → EndView → EndView → Type 0
Both P r a v w = P r a (after_carry v w) × P a.peer (other_end r a) (after_carry w v)

-- an end of r whose links these are becomes one of which it holds, and so does the other end of its connection
abbrev pub Becomes : (ℕ → EndName → EndView → Type 0) → ℕ → List EndView → (ℕ → List EndView) → ℕ → Type 0
Becomes P count mine was r = (a : EndName) (v w : EndView) → a.peer < count → a.peer ≢ r → link_at mine a ≡ Some v → link_at (was a.peer) (other_end r a) ≡ Some w → Both P r a v w

module _ (P : ℕ → EndName → EndView → Type 0) (count r : ℕ) (mine : List EndView) (was now : ℕ → List EndView) (carried : AreAllCarried count r mine was now)
    (becomes : Becomes P count mine was r)
    (beside : (q : ℕ) (b : EndName) (w : EndView) → q < count → b.peer < count → b.peer ≢ q → q ≢ r → b.peer ≢ r → link_at (was q) b ≡ Some w → P q b w) where
  at_own : (a : EndName) (x : EndView) → a.peer < count → a.peer ≢ r → link_at (now r) a ≡ Some x → P r a x
  at_own a x within apart is =
      let c = came (link_at mine a) (link_at (was a.peer) (other_end r a)) x
      (ap (λ (b : EndName). link_carried (link_at mine a) (link_at (was a.peer) b)) (sym (other_named r a)) ∙ sym (carried.own a.peer a.slot a.client within apart (slot_low (now r) a x is)) ∙ is) in
      subst (λ (y : EndView). P r a y) c.it (becomes a c.v c.w within apart c.one c.two).0

  at_theirs : (q : ℕ) (b : EndName) (x : EndView) → q < count → q ≢ r → b.peer ≡ r → link_at (now q) b ≡ Some x → P q b x
  at_theirs q b x within apart with' is =
      let named : end_with r b.slot b.client ≡ b = end_path r b.slot b.client b (sym with') refl refl in
      let there : link_at (now q) b ≡ link_carried (link_at (was q) b) (link_at mine (other_end q b)) =
      subst (λ (z : EndName). link_at (now q) z ≡ link_carried (link_at (was q) z) (link_at mine (other_end q b))) named
      (carried.theirs q b.slot b.client within apart (slot_low (now q) b x is)
      ∙ ap (λ (y : EndName). link_carried (link_at (was q) (end_with r b.slot b.client)) (link_at mine y)) (other_named q b)) in
      let c = came (link_at (was q) b) (link_at mine (other_end q b)) x (sym there ∙ is) in
      let same : other_end r (other_end q b) ≡ b = other_twice r b with' q in
      let both = becomes (other_end q b) c.w c.v within apart c.two (subst (λ (z : EndName). link_at (was q) z ≡ Some c.v) (sym same) c.one) in
      subst (λ (y : EndView). P q b y) c.it (subst (λ (z : EndName). P q z (after_carry c.v c.w)) same both.1)

  pub all_in : r < count → (q : ℕ) (a : EndName) (x : EndView) → q < count → a.peer < count → a.peer ≢ q → link_at (now q) a ≡ Some x → P q a x
  all_in known q a x within peer apart is = elim (cases_Bool (q == r)) [
    | inl same ↦
        let e : q ≡ r = eqb-true q r same in
        subst (λ (k : ℕ). P k a x) (sym e) (at_own a x peer (λ z. apart (z ∙ sym e)) (subst (λ (k : ℕ). link_at (now k) a ≡ Some x) e is))
    | inr other ↦ elim (cases_Bool (a.peer == r)) [
      | inl with' ↦ at_theirs q a x within (differs q r other) (eqb-true a.peer r with') is
      | inr others ↦ beside q a x within peer apart (differs q r other) (differs a.peer r others) (sym (carried.others q a within (differs q r other) (differs a.peer r others)) ∙ is)
    ]
  ] where
    differs : (m n : ℕ) → (m == n) ≡ false → m ≢ n
    differs m n is same = true≢false (sym (eqb_refl n) ∙ subst (λ (k : ℕ). (k == n) ≡ false) same is)

-- of the ends of all, that they are as the flights tell
abbrev pub In : List Flight → ℕ → EndName → EndView → Type 0
In xs q a v = IsEndIn xs q a v

both_are : (xs : List Flight) (r : ℕ) (a : EndName) (v w : EndView) → AreBothIn xs r a v w → Both (In xs) r a v w
both_are xs r a v w both = (both.own, both.other)

-- ---- the ends of one repository and those of its state

-- as node_ends has it
abbrev pub Listed : Type 0
Listed = (s : SetUp) (a : EndName) → IsEndOf s a → Member a (all_ends s)

pub is_listed : Listed → (s : SetUp) (links : List EndView) (a : EndName) (v : EndView) → a.peer < length s.repos → a.peer ≢ s.number → link_at links a ≡ Some v → Member a (all_ends s)
is_listed listed s links a v within apart is = listed s a (record { peer = within; other = apart; slot = slot_low links a v is })

module _ (listed : Listed) (s : SetUp) (st : State) (d : Driver) (was now : ℕ → List EndView) (known : s.number < length s.repos) (ends : AreEndsIn d.flights (length s.repos) was) where
  abbrev r : ℕ
  r = s.number

  abbrev count : ℕ
  count = length s.repos

  own_in : (a : EndName) (v : EndView) → a.peer < count → a.peer ≢ r → link_at (was r) a ≡ Some v → IsEndIn d.flights r a v
  own_in a v within apart is = ends r a v known within apart is

  other_in : (a : EndName) (w : EndView) → a.peer < count → a.peer ≢ r → link_at (was a.peer) (other_end r a) ≡ Some w → IsEndIn d.flights a.peer (other_end r a) w
  other_in a w within apart is = ends a.peer (other_end r a) w within known (λ same. apart (sym same)) is

  -- ---- a turn

  module _ (are : AreEnds (was r) s st) where
    stood : (a : EndName) (v : EndView) → a.peer < count → a.peer ≢ r → link_at (was r) a ≡ Some v → st.ends a ≡ stands v
    stood a v within apart is = are.ends a (is_listed listed s (was r) a v within apart is) ∙ ap end_in is

    pub turned_in : (sender : EntryStamp) (word : EndName → Sending → Option Word) (said : EndName → List Sending) (e : Entry) (mine : List EndView)
        → PostsAsDefined s st (without_old_flights st r d) sender word said (map after_drop (was r)) mine e → AreAllCarried count r mine was now
        → AreEndsIn (adds st r e (without_old_flights st r d)).flights count now
    turned_in sender word said e mine posted carried = all_in (In (adds st s.number e (without_old_flights st s.number d)).flights) (length s.repos) s.number mine was now carried becomes beside known
      where
        becomes : Becomes (In (adds st s.number e (without_old_flights st s.number d)).flights) (length s.repos) mine was s.number
        becomes a x w within apart is other =
            let m = mapped (link_after sender (word a) a e.taken (said a)) (link_at (map after_drop (was s.number)) a) x (sym (posted.links a) ∙ is) in
            let n = mapped after_drop (link_at (was s.number) a) m.v (sym (link_drop (was s.number) a) ∙ m.was) in
            let posts : PostsAt (without_old_flights st s.number d) st s.number a (after_drop n.v) e.taken e.sent (said a) =
            subst (λ (y : EndView). PostsAt (without_old_flights st s.number d) st s.number a y e.taken e.sent (said a)) (sym n.it) (posted.posts a m.v (is_listed listed s (was s.number) a n.v within apart n.was) m.was) in
            subst (λ (y : EndView). Both (In (adds st s.number e (without_old_flights st s.number d)).flights) s.number a y w)
            (ap (link_after sender (word a) a e.taken (said a)) n.it ∙ m.it)
            (both_are (adds st s.number e (without_old_flights st s.number d)).flights s.number a (link_after sender (word a) a e.taken (said a) (after_drop n.v)) w (both_turned d st s.number a n.v w e (said a) sender (word a) apart (stood a n.v within apart n.was) (own_in a n.v within apart n.was) (other_in a w within apart other) posts))

        beside : (q : ℕ) (b : EndName) (w : EndView) → q < length s.repos → b.peer < length s.repos → b.peer ≢ q → q ≢ s.number → b.peer ≢ s.number → link_at (was q) b ≡ Some w
            → IsEndIn (adds st s.number e (without_old_flights st s.number d)).flights q b w
        beside q b w within peer apart one two is =
            end_beside (without_old_flights st s.number d) st s.number q b w e one two (end_elsewhere d st s.number q b w one two (ends q b w within peer apart is))

    pub idle_in : AreAllCarried count r (map after_drop (was r)) was now → AreEndsIn (without_old_flights st r d).flights count now
    idle_in carried = all_in (In (without_old_flights st s.number d).flights) (length s.repos) s.number (map after_drop (was s.number)) was now carried becomes beside known
      where
        becomes : Becomes (In (without_old_flights st s.number d).flights) (length s.repos) (map after_drop (was s.number)) was s.number
        becomes a x w within apart is other =
            let n = mapped after_drop (link_at (was s.number) a) x (sym (link_drop (was s.number) a) ∙ is) in
            subst (λ (y : EndView). Both (In (without_old_flights st s.number d).flights) s.number a y w) n.it
            (both_are (without_old_flights st s.number d).flights s.number a (after_drop n.v) w
            (both_dropped d st s.number a n.v w apart (stood a n.v within apart n.was) (own_in a n.v within apart n.was) (other_in a w within apart other)))

        beside : (q : ℕ) (b : EndName) (w : EndView) → q < length s.repos → b.peer < length s.repos → b.peer ≢ q → q ≢ s.number → b.peer ≢ s.number → link_at (was q) b ≡ Some w
            → IsEndIn (without_old_flights st s.number d).flights q b w
        beside q b w within peer apart one two is = end_elsewhere d st s.number q b w one two (ends q b w within peer apart is)

  -- ---- an entry that takes and opens nothing, and comes without a turn

  pub closed_in : (sender : EntryStamp) (word : EndName → Sending → Option Word) (said : EndName → List Sending) (e : Entry) (mine : List EndView)
      → e.taken ≡ None → Each (λ f. is_opening f.body ≡ false) e.sent → PostsAsDefined s st d sender word said (was r) mine e → AreAllCarried count r mine was now
      → AreEndsIn (adds st r e d).flights count now
  closed_in sender word said e mine none closes posted carried = all_in (In (adds st s.number e d).flights) (length s.repos) s.number mine was now carried becomes beside known
    where
      bodies : (fs : List FrameView) → Each (λ f. is_opening f.body ≡ false) fs → Each (λ b. is_opening b ≡ false) (map (λ (f : FrameView). f.body) fs)
      bodies fs all = Each-map (λ b. is_opening b ≡ false) (λ (f : FrameView). f.body) fs all

      becomes : Becomes (In (adds st s.number e d).flights) (length s.repos) mine was s.number
      becomes a x w within apart is other =
          let m = mapped (link_after sender (word a) a e.taken (said a)) (link_at (was s.number) a) x (sym (posted.links a) ∙ is) in
          subst (λ (y : EndView). Both (In (adds st s.number e d).flights) s.number a y w) m.it
          (both_are (adds st s.number e d).flights s.number a (link_after sender (word a) a e.taken (said a) m.v) w (both_closed d st s.number a m.v w e (said a) sender (word a) apart (own_in a m.v within apart m.was) (other_in a w within apart other)
          (posted.posts a m.v (is_listed listed s (was s.number) a m.v within apart m.was) m.was) (ap (taken_at a) none)
          (bodies (sent_at a e.sent) (Each-filter (λ f. is_opening f.body ≡ false) (sends_at a) e.sent closes))))

      beside : (q : ℕ) (b : EndName) (w : EndView) → q < length s.repos → b.peer < length s.repos → b.peer ≢ q → q ≢ s.number → b.peer ≢ s.number → link_at (was q) b ≡ Some w
          → IsEndIn (adds st s.number e d).flights q b w
      beside q b w within peer apart one two is = end_beside d st s.number q b w e one two (ends q b w within peer apart is)

-- ---- a step

pub step_posted : SendLaws → TakenAtHand → (s : SetUp) (st : State) (d : Driver) (k : Look) (m : Effect) (e : Entry) (was now : List EndView) (sender : EntryStamp) (word : EndName → Sending → Option Word)
    (said : EndName → List Sending) → AreEnds was s st → k.at_hand ≡ flat_map (λ (b : EndName). option_to_list (hand_at was b)) (all_ends s) → step s st k ≡ Some m
    → e.taken ≡ m.taken → e.sent ≡ m.sent
    → ((a : EndName) → map text_of_sending (said a) ≡ map (λ (f : FrameView). f.body) (sent_at a e.sent))
    → ((a : EndName) → link_at now a ≡ option_map (link_after sender (word a) a e.taken (said a)) (link_at was a))
    → ((a : EndName) (f : FrameView) (bytes : List ℕ) → Member f (sent_at a e.sent) → Member (sendings.Bytes bytes) (said a) → f.body ≡ texts.Bytes (length bytes) → bytes ≡ piece_of d st s.number f f.body)
    → PostsAsDefined s st d sender word said was now e
step_posted laws at_hand s st d k m e was now sender word said are sees made taken sent listed links pieces = record {
  posts = λ a v member is.
      record {
        takes = first_taken was s k.at_hand e.taken a v sees (λ f at. at_hand s st k m f made (sym taken ∙ at)) is;
        listed = listed a;
        in_order = subst (λ (c : End). SendsInOrder c a e.taken e.sent) (are.ends a member ∙ ap end_in is)
            (subst (λ (o : Option FrameView). SendsInOrder (st.ends a) a o e.sent) (sym taken) (subst (λ (fs : List FrameView). SendsInOrder (st.ends a) a m.taken fs) (sym sent) (step_orderly laws s st k m made a)));
        pieces = pieces_zip (λ f. piece_of d st s.number f f.body) (sent_at a e.sent) (said a) (listed a)
            (pieces a);
      };
  links = links;
}
