-- What a table has after one of its openings was taken out and put back.
use Rattle.std.proofs.Common.{◌≡◌, ℕ, ◌+◌, ◌≤◌, Bool, true, false, cond, ◌⊎◌, inl, inr, List, [], ◌∷◌, Option, Some, None, refl, sym, ap, subst, ◌∙◌, arith}
use Rattle.std.specs.Prelude.{◌&&◌, ◌==◌, if◌then◌else◌}
use Rattle.std.proofs.lemmas.Bool.{and_parts, cases_Bool, eqb-true}
use Rattle.step_judging.specs.Carried as carried
use Rattle.step_judging.specs.Carried.{WaitingFrame, flight_sent, flight_took}
use Rattle.state_flights.specs.Tables.{flight_found, flight_of, no_flight, room_found, room_of}
use Rattle.state_flights.specs.Ways.{same_opening}
use Rattle.state_flights.specs.declared.opening.Opening.{Opening}
use Rattle.state_flights.specs.declared.flight.Flight.{Flight}

-- ---- look-ups after a removal or an insertion

found_none : (b : Bool) (o : Option Flight) → flight_found (if b then None else o) ≡ (if b then no_flight else flight_found o)
found_none true o = refl
found_none false o = refl

pub taken_out : (b : Bool) (o new : Option Flight) → new ≡ cond b None o → flight_found new ≡ (if b then no_flight else flight_found o)
taken_out b o new is = ap flight_found is ∙ found_none b o

room_none : (b : Bool) (o : Option Flight) → room_found (if b then None else o) ≡ (if b then 0 else room_found o)
room_none true o = refl
room_none false o = refl

pub room_out : (b : Bool) (o new : Option Flight) → new ≡ cond b None o → room_found new ≡ (if b then 0 else room_found o)
room_out b o new is = ap room_found is ∙ room_none b o

found_some : (b : Bool) (x : Flight) (o : Option Flight) → flight_found (if b then Some x else o) ≡ (if b then flight_of x else flight_found o)
found_some true x o = refl
found_some false x o = refl

pub put_in : (b : Bool) (x : Flight) (o new : Option Flight) → new ≡ cond b (Some x) o → flight_found new ≡ (if b then flight_of x else flight_found o)
put_in b x o new is = ap flight_found is ∙ found_some b x o

room_some : (b : Bool) (x : Flight) (o : Option Flight) → room_found (if b then Some x else o) ≡ (if b then room_of x else room_found o)
room_some true x o = refl
room_some false x o = refl

pub room_put : (b : Bool) (x : Flight) (o new : Option Flight) → new ≡ cond b (Some x) o → room_found new ≡ (if b then room_of x else room_found o)
room_put b x o new is = ap room_found is ∙ room_some b x o

-- ---- openings

pub same_place : (a b : Opening) → same_opening a b ≡ true → a ≡ b
same_place a b same =
    let one = and_parts (a.client == b.client) ((a.server == b.server) && ((a.slot == b.slot) && (a.epoch == b.epoch))) same in
    let two = and_parts (a.server == b.server) ((a.slot == b.slot) && (a.epoch == b.epoch)) one.1 in
    let three = and_parts (a.slot == b.slot) (a.epoch == b.epoch) two.1 in
    let opening : ℕ → ℕ → ℕ → ℕ → Opening = λ client server slot epoch. record { client = client; server = server; slot = slot; epoch = epoch } in
    ap (λ n. opening n a.server a.slot a.epoch) (eqb-true a.client b.client one.0) ∙ ap (λ n. opening b.client n a.slot a.epoch) (eqb-true a.server b.server two.0)
    ∙ ap (λ n. opening b.client b.server n a.epoch) (eqb-true a.slot b.slot three.0) ∙ ap (opening b.client b.server b.slot) (eqb-true a.epoch b.epoch three.1)

-- ---- a table of anything

-- another table has this at an opening, and elsewhere what the first had
abbrev pub PutsAt : {X : Type 0} → (Opening → X) → (Opening → X) → Opening → X → Type 0
PutsAt was now at x = (other : Opening) → now other ≡ (if same_opening at other then x else was other)

module _ {X : Type 0} (was mid now : Opening → X) (at : Opening) (none x : X) (out : PutsAt was mid at none) (puts : PutsAt mid now at x) where
  pub there : (other : Opening) → same_opening at other ≡ true → (now other ≡ x) × (was other ≡ was at)
  there other same = (puts other ∙ ap (λ (b : Bool). if b then x else mid other) same, ap was (sym (same_place at other same)))

  pub away : (other : Opening) → same_opening at other ≡ false → now other ≡ was other
  away other apart = puts other ∙ ap (λ (b : Bool). if b then x else mid other) apart ∙ out other ∙ ap (λ (b : Bool). if b then none else was other) apart

-- what stood at the opening was changed so
pub replaced : (was mid now : Opening → carried.Flight) (at : Opening) (x : carried.Flight) (g : Bool → carried.Flight → carried.Flight)
    → ((y : carried.Flight) → g false y ≡ y) → PutsAt was mid at no_flight → PutsAt mid now at x → x ≡ g true (was at)
    → (other : Opening) → now other ≡ g (same_opening at other) (was other)
replaced was mid now at x g stays out puts is other = elim (cases_Bool (same_opening at other)) [
  | inl same ↦ let h = there was mid now at no_flight x out puts other same in h.0 ∙ is ∙ ap (g true) (sym h.1) ∙ ap (λ (b : Bool). g b (was other)) (sym same)
  | inr apart ↦ away was mid now at no_flight x out puts other apart ∙ sym (stays (was other)) ∙ ap (λ (b : Bool). g b (was other)) (sym apart)
]

-- there is no less room than before, but for so much
pub room_left : (was mid now : Opening → ℕ) (at : Opening) (x less : ℕ) → PutsAt was mid at 0 → PutsAt mid now at x → was at ≤ x + less
    → (other : Opening) → was other ≤ now other + less
room_left was mid now at x less out puts enough other = elim (cases_Bool (same_opening at other)) [
  | inl same ↦ let h = there was mid now at 0 x out puts other same in let now_is = h.0 in let was_is = h.1 in omega (arith, now_is, was_is, enough)
  | inr apart ↦ let same = away was mid now at 0 x out puts other apart in omega (arith, same)
]

-- the flight that was put back is the one that was taken out
pub put_back : (was mid now : Opening → carried.Flight) (at : Opening) (x : carried.Flight) → PutsAt was mid at no_flight → PutsAt mid now at x → x ≡ was at
    → (other : Opening) → now other ≡ was other
put_back was mid now at x out puts is other = elim (cases_Bool (same_opening at other)) [
  | inl same ↦ let h = there was mid now at no_flight x out puts other same in h.0 ∙ is ∙ sym h.1
  | inr apart ↦ away was mid now at no_flight x out puts other apart
]
