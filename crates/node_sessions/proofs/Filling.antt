-- The keys that a session fills, and what a table and the parts of a store keep of them.
use Rattle.std.proofs.Common.{◌≡◌, ℕ, Bool, true, false, List, refl, sym, subst, ◌∙◌, true≢false}
use Rattle.std.specs.Prelude.{not, ◌&&◌, if◌then◌else◌}
use Rattle.annex_base.proofs.Conditions.{bytes_eq-true, bytes_eq-refl}
use Rattle.content_lock.specs.Rows.{Rows, is_filling}
use Rattle.node_model.specs.Sessions as sessions
use Rattle.p2p_server.specs.declared.Doing.{Doing}
use Rattle.p2p_server.specs.declared.Doing.TheVariants as doings
use Rattle.p2p_server.specs.Talking.{FillsSo, HasFill, doing_of}

-- ---- tests

pub both_no : (a b : Bool) → (a ≡ true → b ≡ true → ⊥) → (a && b) ≡ false
both_no true true h = absurd (h refl refl)
both_no true false h = refl
both_no false b h = refl

pub not_both : (a b : Bool) → (a && b) ≡ false → a ≡ true → b ≡ true → ⊥
not_both true true e p q = true≢false e
not_both true false e p q = true≢false (sym q)
not_both false b e p q = true≢false (sym p)

-- ---- the fill that a session has

pub fills_told : (rows : Rows) (d : Doing) → HasFill rows d → (key : List ℕ) → sessions.is_filling key (doing_of d) ≡ true → is_filling rows key ≡ true
fills_told rows doings.Waits had key is = absurd (true≢false (sym is))
fills_told rows (doings.Guards share) had key is = absurd (true≢false (sym is))
fills_told rows (doings.Gives g) had key is = absurd (true≢false (sym is))
fills_told rows doings.Gave had key is = absurd (true≢false (sym is))
fills_told rows (doings.Wants w) had key is = subst (λ (k : List ℕ). is_filling rows k ≡ true) (bytes_eq-true w.fill key is) had
fills_told rows (doings.Takes t) had key is = subst (λ (k : List ℕ). is_filling rows k ≡ true) (bytes_eq-true t.fill key is) had
fills_told rows (doings.Took t) had key is = subst (λ (k : List ℕ). is_filling rows k ≡ true) (bytes_eq-true t.fill key is) had

pub fills_had : (rows : Rows) (d : Doing) → ((key : List ℕ) → sessions.is_filling key (doing_of d) ≡ true → is_filling rows key ≡ true) → HasFill rows d
fills_had rows doings.Waits told = tt
fills_had rows (doings.Guards share) told = tt
fills_had rows (doings.Gives g) told = tt
fills_had rows doings.Gave told = tt
fills_had rows (doings.Wants w) told = told w.fill (bytes_eq-refl w.fill)
fills_had rows (doings.Takes t) told = told t.fill (bytes_eq-refl t.fill)
fills_had rows (doings.Took t) told = told t.fill (bytes_eq-refl t.fill)

-- ---- after one session's step

-- a key that another fills is filled as before
pub stays_filled : (d d' : sessions.Doing) (f f' : List ℕ → Bool) → FillsSo d d' f f' → (key : List ℕ) → (sessions.is_filling key d ≡ true → ⊥) → f key ≡ true → f' key ≡ true
stays_filled d d' f f' h key other is = h.after key ∙ go (sessions.is_filling key d') (sessions.is_filling key d) other
  where
    go : (a b : Bool) → (b ≡ true → ⊥) → (if a then true else (if b then false else f key)) ≡ true
    go true b o = refl
    go false true o = absurd (o refl)
    go false false o = is

-- what it fills anew was free
pub new_was_free : (d d' : sessions.Doing) (f f' : List ℕ → Bool) → FillsSo d d' f f' → (key : List ℕ) → sessions.is_filling key d' ≡ true → (sessions.is_filling key d ≡ true → ⊥) → f key ≡ true → ⊥
new_was_free d d' f f' h key new was is = go (sessions.is_filling key d') (sessions.is_filling key d) (f key) (h.free key) new was is
  where
    go : (a b c : Bool) → ((a && not b) && c) ≡ false → a ≡ true → (b ≡ true → ⊥) → c ≡ true → ⊥
    go true true c e p q r = q refl
    go true false true e p q r = true≢false e
    go true false false e p q r = true≢false (sym r)
    go false b c e p q r = true≢false (sym p)
