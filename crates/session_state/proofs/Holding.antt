-- What a phase holds of a table and a store, as these go on, and the keys that are filled after a step.
use Rattle.std.proofs.Common.{◌≡◌, ℕ, ◌+◌, ◌-◌, Bool, true, false, List, refl, sym, subst, ap, ◌∙◌}
use Rattle.std.specs.Prelude.{if◌then◌else◌, bytes_eq, not, ◌&&◌, ◌==◌}
use Rattle.std.specs.List.{list_any}
use Rattle.annex_base.proofs.Conditions.{bytes_eq-refl, bytes_eq-true}
use Rattle.object_store.specs.Stores.{Parts}
use Rattle.node_model.specs.Sessions as sessions
use Rattle.node_model.specs.Sessions.{takes_more}
use Rattle.content_lock.specs.Rows.{Rows, is_filling}
use Rattle.session_state.specs.declared.doing.Doing.{Doing}
use Rattle.session_state.specs.declared.doing.Doing.TheVariants as doings
use Rattle.session_state.specs.Talking.{FillsSo, HasFill, IsFed, IsFedBy, IsTakenOf, doing_of}

pub kept_fill : (d : Doing) (was now : Rows) → ((key : List ℕ) → sessions.is_filling key (doing_of d) ≡ true → is_filling was key ≡ true → is_filling now key ≡ true) → HasFill was d → HasFill now d
kept_fill doings.Waits was now keep has = tt
kept_fill (doings.Guards s) was now keep has = tt
kept_fill (doings.Gives g) was now keep has = tt
kept_fill doings.Gave was now keep has = tt
kept_fill (doings.Wants w) was now keep has = keep w.fill (bytes_eq-refl w.fill) has
kept_fill (doings.Takes t) was now keep has = keep t.fill (bytes_eq-refl t.fill) has
kept_fill (doings.Took t) was now keep has = keep t.fill (bytes_eq-refl t.fill) has

pub kept_part : (d : Doing) (was now : Parts) → ((key : List ℕ) → sessions.is_filling key (doing_of d) ≡ true → now key ≡ was key) → IsFed was d → IsFed now d
kept_part doings.Waits was now same fed = tt
kept_part (doings.Guards s) was now same fed = tt
kept_part (doings.Gives g) was now same fed = tt
kept_part doings.Gave was now same fed = tt
kept_part (doings.Wants w) was now same fed = subst (λ (b : List ℕ). IsFedBy w.digester w.fill b) (sym (same w.fill (bytes_eq-refl w.fill))) fed
kept_part (doings.Takes t) was now same fed = subst (λ (b : List ℕ). IsFedBy t.digester t.fill b) (sym (same t.fill (bytes_eq-refl t.fill))) fed
kept_part (doings.Took t) was now same fed = subst (λ (b : List ℕ). IsTakenOf t b) (sym (same t.fill (bytes_eq-refl t.fill))) fed

pub more_fills : (k key : List ℕ) (size left : ℕ) → sessions.is_filling key (takes_more k size left) ≡ bytes_eq k key
more_fills k key size left = elim (left == 0) as (λ b. sessions.is_filling key (if b then sessions.Took k size else sessions.Takes k size left) ≡ bytes_eq k key) [ true ↦ refl | false ↦ refl ]

not_and : (b c : Bool) → (not b && c) ≡ (if b then false else c)
not_and true c = refl
not_and false c = refl

-- a fill is given back
pub gave_back : (was : sessions.Doing) (fill : List ℕ) (filled filled' : List ℕ → Bool) → ((k : List ℕ) → sessions.is_filling k was ≡ bytes_eq fill k)
    → ((k : List ℕ) → filled' k ≡ (not (bytes_eq fill k) && filled k)) → FillsSo was sessions.Waits filled filled'
gave_back was fill filled filled' had off = record {
  after = λ k. off k ∙ not_and (bytes_eq fill k) (filled k) ∙ ap (λ (b : Bool). if b then false else filled k) (sym (had k));
  free = λ k. refl;
}

-- the same fill goes on
pub goes_on : (was now : sessions.Doing) (fill : List ℕ) (filled : List ℕ → Bool) → ((k : List ℕ) → sessions.is_filling k was ≡ bytes_eq fill k)
    → ((k : List ℕ) → sessions.is_filling k now ≡ bytes_eq fill k) → filled fill ≡ true → FillsSo was now filled filled
goes_on was now fill filled had has there = record {
  after = λ k. after k (bytes_eq fill k) refl ∙ (λ i. if (sym (has k) i) then true else (if (sym (had k) i) then false else filled k));
  free = λ k. (λ i. ((has k i) && not (had k i)) && filled k) ∙ none (bytes_eq fill k) (filled k);
}
  where
    after : (k : List ℕ) (b : Bool) → bytes_eq fill k ≡ b → filled k ≡ (if b then true else (if b then false else filled k))
    after k true e = subst (λ (x : List ℕ). filled x ≡ true) (bytes_eq-true fill k e) there
    after k false e = refl

    none : (b c : Bool) → ((b && not b) && c) ≡ false
    none true c = refl
    none false c = refl

-- the phase stays, or bytes of its part are announced or come
pub stays_filled : (d : Doing) (rows : Rows) → HasFill rows d → FillsSo (doing_of d) (doing_of d) (is_filling rows) (is_filling rows)
stays_filled doings.Waits rows has = record { after = λ k. refl; free = λ k. refl }
stays_filled (doings.Guards s) rows has = record { after = λ k. refl; free = λ k. refl }
stays_filled (doings.Gives g) rows has = record { after = λ k. refl; free = λ k. refl }
stays_filled doings.Gave rows has = record { after = λ k. refl; free = λ k. refl }
stays_filled (doings.Wants w) rows has = goes_on (doing_of (doings.Wants w)) (doing_of (doings.Wants w)) w.fill (is_filling rows) (λ k. refl) (λ k. refl) has
stays_filled (doings.Takes t) rows has = goes_on (doing_of (doings.Takes t)) (doing_of (doings.Takes t)) t.fill (is_filling rows) (λ k. refl) (λ k. refl) has
stays_filled (doings.Took t) rows has = goes_on (doing_of (doings.Took t)) (doing_of (doings.Took t)) t.fill (is_filling rows) (λ k. refl) (λ k. refl) has

pub announces : (d : Doing) (rows : Rows) (n : ℕ) (now : sessions.Doing) → HasFill rows d → now ≡ sessions.takes_from n (doing_of d) → FillsSo (doing_of d) now (is_filling rows) (is_filling rows)
announces d rows n now has is = subst (λ (x : sessions.Doing). FillsSo (doing_of d) x (is_filling rows) (is_filling rows)) (sym is) (go d has)
  where
    go : (d : Doing) → HasFill rows d → FillsSo (doing_of d) (sessions.takes_from n (doing_of d)) (is_filling rows) (is_filling rows)
    go (doings.Wants w) has = goes_on (doing_of (doings.Wants w)) (takes_more w.fill w.size n) w.fill (is_filling rows) (λ k. refl) (λ k. more_fills w.fill k w.size n) has
    go doings.Waits has = stays_filled doings.Waits rows has
    go (doings.Guards s) has = stays_filled (doings.Guards s) rows has
    go (doings.Gives g) has = stays_filled (doings.Gives g) rows has
    go doings.Gave has = stays_filled doings.Gave rows has
    go (doings.Takes t) has = stays_filled (doings.Takes t) rows has
    go (doings.Took t) has = stays_filled (doings.Took t) rows has

pub takes_piece : (d : Doing) (rows : Rows) (n : ℕ) (now : sessions.Doing) → HasFill rows d → now ≡ sessions.took_bytes n (doing_of d) → FillsSo (doing_of d) now (is_filling rows) (is_filling rows)
takes_piece d rows n now has is = subst (λ (x : sessions.Doing). FillsSo (doing_of d) x (is_filling rows) (is_filling rows)) (sym is) (go d has)
  where
    go : (d : Doing) → HasFill rows d → FillsSo (doing_of d) (sessions.took_bytes n (doing_of d)) (is_filling rows) (is_filling rows)
    go (doings.Takes t) has = goes_on (doing_of (doings.Takes t)) (takes_more t.fill (t.size + n) (t.left - n)) t.fill (is_filling rows) (λ k. refl) (λ k. more_fills t.fill k (t.size + n) (t.left - n)) has
    go doings.Waits has = stays_filled doings.Waits rows has
    go (doings.Guards s) has = stays_filled (doings.Guards s) rows has
    go (doings.Gives g) has = stays_filled (doings.Gives g) rows has
    go doings.Gave has = stays_filled doings.Gave rows has
    go (doings.Wants w) has = stays_filled (doings.Wants w) rows has
    go (doings.Took t) has = stays_filled (doings.Took t) rows has

-- nothing is filled by the session, before and after
pub same_filled : (fs fs' : List (List ℕ)) → fs' ≡ fs → (k : List ℕ) → list_any (bytes_eq k) fs' ≡ list_any (bytes_eq k) fs
same_filled fs fs' same k = ap (λ (l : List (List ℕ)). list_any (bytes_eq k) l) same

pub none_filled : (was now : sessions.Doing) (filled filled' : List ℕ → Bool) → ((k : List ℕ) → sessions.is_filling k was ≡ false) → ((k : List ℕ) → sessions.is_filling k now ≡ false)
    → ((k : List ℕ) → filled' k ≡ filled k) → FillsSo was now filled filled'
none_filled was now filled filled' had has same = record {
  after = λ k. same k ∙ (λ i. if (sym (has k) i) then true else (if (sym (had k) i) then false else filled k));
  free = λ k. ap (λ (b : Bool). (b && not (sessions.is_filling k was)) && filled k) (has k);
}
